-- A table with another card, and a fresh table. Assumes nothing.
use Rattle.facts.proofs.Words.{◌≡◌, drop, by_cases, dec_lt, get_or-eq_default, get_or, refl, sym, ◌∙◌, List, [], ◌∷◌, Bool, ℕ, ◌+◌, ◌*◌, ◌≤◌, ◌<◌}
use Rattle.facts.proofs.Words.{arith, length, set}
use Rattle.layout.proofs.Of
use Rattle.facts.specs.{fresh, byte, with_card, most_clients, most_sockets}
use Rattle.layout.specs.{image, mark, Accepted, card_size, cards_at, handle_size, attributes_size, events_size, masks_size, io_size, irq_size}
use Rattle.layout.specs.{range_size, layout_mark, head_size, table_size}
use Rattle.layout.proofs.Parts.{below_at, zeros}
use Rattle.layout.proofs.Image.{Part, parts, end, Shown}
use Rattle.layout.proofs.Shows.{Shows, head_bytes, put_image}
use Rattle.layout.proofs.Entered.{wrote_none, wrote_byte}

-- a card's byte
pub card_written : (b : List ℕ) (a : Accepted b) (s : ℕ) (v : Bool) → s < most_sockets → image (with_card a.facts s v) ≡ set b (cards_at + s) (mark v)
card_written b a s v l =
    let w = Of.shows_in b a in
    let wrote = wrote_byte (wrote_none b (cards_at + s * card_size)) (cards_at + s) (mark v) (omega arith) (omega (arith, w.size)) in
    put_image (λ (t : Bool). mark t ∷ []) a.facts.card s v 0 (parts most_clients a.facts) refl refl l wrote w.shown (with_card a.facts s v)
    w.size w.heads (λ t. t)

-- parts whose records are zero are shown by zero bytes
abbrev Zeroed : List Part → Type 0
Zeroed [] = Unit {0}
Zeroed (p ∷ ps) = ((i j : ℕ) → get_or (p.bytes i) j 0 ≡ 0) × Zeroed ps

zero_shown : (size : ℕ) (b : List ℕ) (at : ℕ) (ps : List Part) → Zeroed ps → ((q : ℕ) → at ≤ q → byte b q ≡ 0) → Shown size b at ps
zero_shown size b at [] z all = λ q l m. all q l
zero_shown size b at (p ∷ ps) z all =
    ((λ i l j m. all (at + i * p.size + j) (omega arith) ∙ sym (z.0 i j)), zero_shown size b (end at p) ps z.1 (λ q l. all q (omega arith)))

-- a fresh table: the mark, the socket count, and zero
pub fresh_shown : (n : ℕ) (b : List ℕ) → length b ≡ table_size → byte b 0 ≡ layout_mark → byte b 1 ≡ n
    → ((p : ℕ) → 2 ≤ p → p < table_size → byte b p ≡ 0)
    → Shows most_clients table_size (fresh n) b
fresh_shown n b size mark-is count zero-past =
    record {
      size = size;
      heads = below_at head_size (λ j. byte b j ≡ get_or (head_bytes (fresh n)) j 0)
          ((((((tt, mark-is), count), all 2 (omega arith)), all 3 (omega arith)), all 4 (omega arith)), all 5 (omega arith));
      shown = zero_shown table_size b cards_at (parts most_clients (fresh n)) empty (λ q l. all q (omega arith));
    }
  where
    all : (q : ℕ) → 2 ≤ q → byte b q ≡ 0
    all q l = by_cases (dec_lt q table_size) (zero-past q l) (λ h. get_or-eq_default b 0 (omega (arith, size)))

    empty : Zeroed (parts most_clients (fresh n))
    empty =
        let last : Zeroed (drop 6 (parts most_clients (fresh n))) =
        (λ s. zeros io_size, (λ s. zeros irq_size, (λ i. zeros 1, (λ i. zeros masks_size, tt)))) in
        let rows : Zeroed (drop 3 (parts most_clients (fresh n))) =
        (λ i. zeros handle_size, (λ i. zeros attributes_size, (λ i. zeros events_size, last))) in
        (λ s. zeros 1, (λ l. zeros 2, (λ i. zeros range_size, rows)))
