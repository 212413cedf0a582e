-- A client's mask and its word: what the word says, and the table with another word there. Assumes nothing.
use Rattle.facts.proofs.Words.{◌≡◌, subst⁻¹, set, refl, ap, sym, ◌∙◌, subst, inl, inr, ⊎_elim, by_cases, ◌≢◌, List, Bool, cond, Option, none, some}
use Rattle.facts.proofs.Words.{some-injective, none-ne-some, ℕ, ◌-◌, ◌<◌, dec_lt, arith, length, get_or, get_elem?, eqb, eq-eqb, ne_eqb}
use Rattle.layout.proofs.Of
use Rattle.facts.specs.{Client, word, with_word, put, Masks, MaskHeld, with_clients, masking, with_mask, most_clients, most_seats, most_sockets}
use Rattle.facts.proofs.{length_map}
use Rattle.facts.proofs.Sets.{put_all}
use Rattle.layout.specs.{image, two, mask_bytes, handle_bytes, attributes_bytes, events_bytes, masks_bytes, mask_of, clients_in, handle_in, client_in}
use Rattle.layout.specs.{masks_place, mask_place, Accepted, MaskUsed, head_clients, cards_at, seat_room, mask_size, table_size}
use Rattle.layout.proofs.Lists.{below_in, at_in, in_at, at_below, at_past, at_map}
use Rattle.layout.proofs.RoundTrip.{masks_stand, masks_join}
use Rattle.layout.proofs.Grants.{zero_test, positive_test}
use Rattle.layout.proofs.Image.{parts, Shown, masks_size_lem, mask_size_lem}
use Rattle.layout.proofs.Shows.{Heads, head_bytes, masks_are, changing, put_stands, put_image, rows_listed, row_same}
use Rattle.layout.proofs.Entered.{Wrote, wrote_none, wrote_word}

-- the client listed in the place i, whose handle is h
module _ (b : List ℕ) (a : Accepted b) (i h : ℕ) (l : i < clients_in b) (e : handle_in b i ≡ h) where
  abbrev here : Client
  here = client_in b i

  listed : i < most_clients
  listed = omega (arith, Of.clients_in_lem b a, a.formed.clients_most)

  its_handle : here.handle ≡ h
  unfolding client_in
  its_handle = e

  its_mask : (s : ℕ) → s < most_seats → here.mask s ≡ mask_of (word b (mask_place i s))
  unfolding client_in
  its_mask s n = below_in seat_room none (λ s. mask_of (word b (mask_place i s))) s (omega arith)

  -- no other place has a client of that handle
  only : (k : ℕ) (c : Client) → get_elem? a.facts.clients k ≡ some c → c.handle ≡ h → i ≡ k
  only k c at q = Of.same_client b a i k here c (Of.client_at b a i l) at (its_handle ∙ sym q)

  -- a mask's socket is one of a table's
  pub mask_socket : (s m : ℕ) → Masks a.facts h s m → s < most_sockets
  mask_socket s m x = omega (arith, ((a.formed.clients x.client x.listed).mask s m x.mask).0, a.formed.sockets_most)

  -- its word says a mask exactly if the facts do
  pub mask_said : (s : ℕ) → s < most_sockets → MaskUsed b i s → MaskHeld a.facts h s
  mask_said s n used = (
    word b (mask_place i s) - 1,
    record {
      client = here;
      listed = at_in a.facts.clients i (Of.client_at b a i l);
      handle = its_handle;
      mask = its_mask s n ∙ positive_test (word b (mask_place i s)) none (some (word b (mask_place i s) - 1)) (omega (arith, used));
    },
  )

  pub said_mask : (s m : ℕ) → Masks a.facts h s m → MaskUsed b i s
  said_mask s m x z =
      let there = in_at x.client a.facts.clients x.listed in
      let at = ap (get_elem? a.facts.clients) (only there.0 x.client there.2 x.handle) ∙ there.2 in
      let same = some-injective here x.client (sym (Of.client_at b a i l) ∙ at) in
      none-ne-some m
      (sym (zero_test (word b (mask_place i s)) none (some (word b (mask_place i s) - 1)) z) ∙ sym (its_mask s (mask_socket s m x))
      ∙ ap (λ (c : Client). c.mask s) same ∙ x.mask)

  -- the mask o for the seat s, and its word w
  module _ (s : ℕ) (o : Option ℕ) (w : ℕ) (n : s < most_seats) (is : mask_bytes o ≡ two w) (low : w < 65536) where
    abbrev changed : List ℕ
    changed = with_word b (mask_place i s) w

    abbrev masked : List Client
    masked = with_mask h s o a.facts.clients

    abbrev as_masked : Client → Client
    as_masked c = cond (eqb c.handle h) (masking s o c) c

    -- the client has the mask, and the others stay
    abbrev new : Client
    new = masking s o here

    masked_at : (k : ℕ) → get_elem? masked k ≡ put (get_elem? a.facts.clients) i (some new) k
    masked_at =
        put_all (λ (k : ℕ) (c : Option Client). get_elem? masked k ≡ c) (get_elem? a.facts.clients) i (some new)
        (at_map as_masked a.facts.clients i here (Of.client_at b a i l)
        ∙ ap {B = Option Client} (λ (t : Bool). some (cond t new here)) (eq-eqb here.handle h its_handle)) others
      where
        others : (k : ℕ) → k ≢ i → get_elem? masked k ≡ get_elem? a.facts.clients k
        others k d =
            by_cases (dec_lt k (length a.facts.clients))
            (λ m. let x = at_below a.facts.clients k m in
            at_map as_masked a.facts.clients k x.0 x.1
            ∙ ap {B = Option Client} (λ (t : Bool). some (cond t (masking s o x.0) x.0))
            (ne_eqb x.0.handle h (λ q. d (sym (only k x.0 x.1 q))))
            ∙ sym x.1)
            (λ m. at_past masked k (omega (arith, length_map as_masked a.facts.clients)) ∙ sym (at_past a.facts.clients k (omega arith)))

    -- the word is written, and with it the client's masks
    wrote : Wrote b (mask_place i s) (mask_bytes o) changed
    wrote =
        subst (λ (x : List ℕ). Wrote b (mask_place i s) x changed) (sym is)
        (wrote_word (wrote_none b (mask_place i s)) (mask_place i s) w (omega arith) (omega (arith, listed, Of.size_in b a)) low)

    masks_wrote : Wrote b (masks_place i) (masks_bytes (some new)) changed
    masks_wrote =
        let stood = masks_stand b (masks_place i) here
        (λ j m. masks_are (Of.shows_in b a) i listed j m ∙ ap (λ (c : Option Client). get_or (masks_bytes c) j 0) (Of.client_at b a i l)) in
        let stand = put_stands mask_bytes here.mask s o (masks_place i) seat_room mask_size (mask_size_lem o) stood wrote in
        record {
          size = wrote.size;
          bytes = λ j m. masks_join changed (masks_place i) new stand j (omega (arith, m, masks_size_lem (some new)));
          other = λ q. ⊎_elim (λ m. wrote.other q (inl (omega arith)))
              (λ m. wrote.other q (inr (omega (arith, m, mask_size_lem o, masks_size_lem (some new)))));
        }

    -- the table with the word there is the image of the facts with the mask: what else the client is said by stays
    pub mask_written : image (with_clients a.facts masked) ≡ changed
    mask_written =
        let g : ℕ → Option Client = get_elem? a.facts.clients in
        let ps = changing 9 (λ k. masks_bytes (put g i (some new) k)) (parts most_clients a.facts) in
        let handles = row_same handle_bytes g i new (ap handle_bytes (Of.client_at b a i l)) in
        let attributes = row_same attributes_bytes g i new (ap attributes_bytes (Of.client_at b a i l)) in
        let events = row_same events_bytes g i new (ap events_bytes (Of.client_at b a i l)) in
        let w = Of.shows_in b a in
        put_image masks_bytes g i (some new) 9 (parts most_clients a.facts) refl (masks_size_lem (some new)) listed masks_wrote w.shown
        (with_clients a.facts masked) w.size
        (subst⁻¹ (λ (n : ℕ). Heads (set (head_bytes a.facts) head_clients n) b) (length_map as_masked a.facts.clients) w.heads)
        (λ t. rows_listed changed a.facts (put g i (some new)) masked masked_at
        (subst (Shown table_size changed cards_at) (λ k. changing 3 (handles k) (changing 4 (attributes k) (changing 5 (events k) ps))) t))
