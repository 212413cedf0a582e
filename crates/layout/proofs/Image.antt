-- The parts of an image, whose records stand one after the other, and what its bytes are. Assumes nothing.
use Rattle.facts.proofs.Words.{◌≡◌, refl, ap, ap₂, sym, ◌∙◌, subst⁻¹, List, [], ◌∷◌, ◌++◌, Option, none, some, ℕ, suc, ◌+◌, ◌*◌, ◌-◌, ◌<◌, add-zero}
use Rattle.facts.proofs.Words.{add_assoc, add-one, arith, length, get_or, drop, get_elem?, replicate, length-append, length-replicate, get_or-append}
use Rattle.facts.proofs.Words.{drop_at, drop-drop, get_or-drop, ◌≤◌}
use Rattle.facts.specs.{Facts, Client, IoGrant, IrqGrant, byte, word, all_levels, most_ranges, most_sockets}
use Rattle.layout.specs.{each, mark, mask_bytes, handle_bytes, attributes_bytes, events_bytes, masks_bytes, level_bytes, range_bytes, io_bytes}
use Rattle.layout.specs.{irq_bytes, head, cards, levels, ranges, handles, attributes, events, ios, irqs, spare, masks, rest, image_of, Zero}
use Rattle.layout.specs.{client_room, handle_room, seat_room, card_size, cards_at, level_size, range_size, handle_size, attributes_size, events_size}
use Rattle.layout.specs.{io_size, irq_size, spare_size, mask_size, masks_size, rest_at}
use Rattle.layout.proofs.Parts.{each_length, each_at, record_below, zeros}

-- the size of each record: of none, and of one
of_size : {A : Type 0} (bytes : Option A → List ℕ) (k : ℕ) → length (bytes none) ≡ k → ((x : A) → length (bytes (some x)) ≡ k) → (o : Option A)
    → length (bytes o) ≡ k
of_size bytes k e f none = e
of_size bytes k e f (some x) = f x

pub mask_size_lem : (m : Option ℕ) → length (mask_bytes m) ≡ mask_size
mask_size_lem = of_size mask_bytes mask_size refl (λ m. refl)

pub masks_size_lem : (c : Option Client) → length (masks_bytes c) ≡ masks_size
masks_size_lem = of_size masks_bytes masks_size refl (λ c. each_length mask_size (λ s. mask_bytes (c.mask s)) (λ s. mask_size_lem (c.mask s)) seat_room)

pub io_size_lem : (g : Option IoGrant) → length (io_bytes g) ≡ io_size
io_size_lem = of_size io_bytes io_size refl (λ g. refl)

pub irq_size_lem : (g : Option IrqGrant) → length (irq_bytes g) ≡ irq_size
irq_size_lem = of_size irq_bytes irq_size refl (λ g. refl)

-- a part: so many records of so many bytes
pub record Part : Type 0 where
  pub count : ℕ
  pub size : ℕ
  pub bytes : ℕ → List ℕ

abbrev pub part : ℕ → ℕ → (ℕ → List ℕ) → Part
part n k f = record { count = n; size = k; bytes = f }

-- the parts of an image in their order: those that every table has, and the masks of as many clients as it has room for
abbrev pub first_parts : Facts → List Part
first_parts F =
    part most_sockets card_size (λ s. mark (F.card s) ∷ []) ∷ part all_levels level_size (λ l. level_bytes (F.level l))
    ∷ part most_ranges range_size (λ i. range_bytes (get_elem? F.ranges i))
    ∷ part handle_room handle_size (λ i. handle_bytes (get_elem? F.clients i))
    ∷ part client_room attributes_size (λ i. attributes_bytes (get_elem? F.clients i))
    ∷ part client_room events_size (λ i. events_bytes (get_elem? F.clients i))
    ∷ part seat_room io_size (λ s. io_bytes (F.io s))
    ∷ part seat_room irq_size (λ s. irq_bytes (F.irq s))
    ∷ part spare_size 1 (λ i. 0 ∷ [])
    ∷ []

abbrev pub mask_part : ℕ → Facts → Part
mask_part n F = part n masks_size (λ i. masks_bytes (get_elem? F.clients i))

abbrev pub parts : ℕ → Facts → List Part
parts n F = first_parts F ++ (mask_part n F ∷ [])

-- every record has its size
abbrev Sized : List Part → Type 0
Sized [] = Unit {0}
Sized (p ∷ ps) = ((i : ℕ) → length (p.bytes i) ≡ p.size) × Sized ps

sized : (n : ℕ) (F : Facts) → Sized (parts n F)
sized n F =
    let client : ℕ → Option Client = get_elem? F.clients in
    let handles : (i : ℕ) → length (handle_bytes (client i)) ≡ handle_size = (λ i. of_size handle_bytes handle_size refl (λ c. refl) (client i)) in
    let attributes : (i : ℕ) → length (attributes_bytes (client i)) ≡ attributes_size =
    (λ i. of_size attributes_bytes attributes_size refl (λ c. refl) (client i)) in
    let events : (i : ℕ) → length (events_bytes (client i)) ≡ events_size = (λ i. of_size events_bytes events_size refl (λ c. refl) (client i)) in
    let range : (i : ℕ) → length (range_bytes (get_elem? F.ranges i)) ≡ range_size =
    (λ i. of_size range_bytes range_size refl (λ r. refl) (get_elem? F.ranges i)) in
    let last : Sized (drop 6 (parts n F)) = (λ s. io_size_lem (F.io s), (λ s. irq_size_lem (F.irq s), (λ i. refl, (λ i. masks_size_lem (client i), tt)))) in
    (λ s. refl, (λ l. refl, (range, (handles, (attributes, (events, last))))))

-- the parts one after the other, and what follows them
abbrev joined : List Part → List ℕ → List ℕ
joined [] past = past
joined (p ∷ ps) past = each p.count p.bytes ++ joined ps past

-- where a part that begins at a place ends, and where several do
abbrev pub end : ℕ → Part → ℕ
end at p = at + p.count * p.size

abbrev pub ends : ℕ → List Part → ℕ
ends at [] = at
ends at (p ∷ ps) = ends (end at p) ps

-- the records of a part that begins at a place
abbrev pub Stands : List ℕ → ℕ → Part → Type 0
Stands b at p = (i : ℕ) → i < p.count → (j : ℕ) → j < p.size → byte b (at + i * p.size + j) ≡ get_or (p.bytes i) j 0

-- the parts stand from a place on, and zero bytes follow up to the table's size
abbrev pub Shown : ℕ → List ℕ → ℕ → List Part → Type 0
Shown size b at [] = Zero b at size
Shown size b at (p ∷ ps) = Stands b at p × Shown size b (end at p) ps

joined_length : (at : ℕ) (ps : List Part) (past : List ℕ) → Sized ps → at + length (joined ps past) ≡ ends at ps + length past
joined_length at [] past s = refl
joined_length at (p ∷ ps) past s =
    omega (
      arith,
      length-append (each p.count p.bytes) (joined ps past),
      each_length p.size p.bytes s.0 p.count,
      joined_length (end at p) ps past s.1,
    )

joined_shown : (size k : ℕ) (b : List ℕ) (at : ℕ) (ps : List Part) → Sized ps → drop at b ≡ joined ps (replicate k 0) → Shown size b at ps
joined_shown size k b at [] s e =
    λ i l m. let there : i ≡ at + (i - at) = omega arith in
    ap (byte b) there ∙ sym (get_or-drop at b (i - at) 0) ∙ ap (λ (y : List ℕ). get_or y (i - at) 0) e ∙ zeros k (i - at)
joined_shown size k b at (p ∷ ps) s e = (here, joined_shown size k b (end at p) ps s.1 past)
  where
    long : length (each p.count p.bytes) ≡ p.count * p.size
    long = each_length p.size p.bytes s.0 p.count

    here : Stands b at p
    here i l j h =
        let q = i * p.size + j in
        ap (byte b) (add_assoc at (i * p.size) j) ∙ sym (get_or-drop at b q 0) ∙ ap (λ (y : List ℕ). get_or y q 0) e
        ∙ get_or-append (each p.count p.bytes) (joined ps (replicate k 0)) 0 q (subst⁻¹ (λ (m : ℕ). q < m) long (record_below l h))
        ∙ each_at p.size p.bytes s.0 p.count i j l h

    past : drop (end at p) b ≡ joined ps (replicate k 0)
    past =
        sym (drop-drop (p.count * p.size) at b) ∙ ap (drop (p.count * p.size)) e
        ∙ drop_at (each p.count p.bytes) (joined ps (replicate k 0)) (p.count * p.size) long

-- a table of so many bytes, in which the masks of so many clients have room
module _ (n size : ℕ) (F : Facts) where
  pub image_length : rest_at n ≤ size → length (image_of n size F) ≡ size
  unfolding image_of head cards levels ranges handles attributes events ios irqs spare masks rest
  image_length room =
      omega (arith, joined_length cards_at (parts n F) (replicate (size - rest_at n) 0) (sized n F), length-replicate {A = ℕ} (size - rest_at n) 0)

  pub image_shown : Shown size (image_of n size F) cards_at (parts n F)
  unfolding image_of head cards levels ranges handles attributes events ios irqs spare masks rest
  image_shown = joined_shown size (size - rest_at n) (image_of n size F) cards_at (parts n F) (sized n F) refl

-- the bytes of a record x stand at a place of b
module _ (b : List ℕ) (place k : ℕ) (x : List ℕ) (at : (j : ℕ) → j < k → byte b (place + j) ≡ get_or x j 0) where
  pub first_byte : 0 < k → byte b place ≡ get_or x 0 0
  first_byte h = ap (byte b) (sym (add-zero place)) ∙ at 0 h

  -- the number in bytes j and j + 1
  pub word_of : (j : ℕ) → suc j < k → word b (place + j) ≡ get_or x j 0 + 256 * get_or x (suc j) 0
  word_of j h =
      ap₂ (λ (y z : ℕ). y + 256 * z) (at j (omega arith))
      (ap (byte b) (add_assoc place j 1 ∙ ap (λ (m : ℕ). place + m) (add-one j)) ∙ at (suc j) h)

  pub first_word : 1 < k → word b place ≡ get_or x 0 0 + 256 * get_or x 1 0
  first_word h = ap₂ (λ (y z : ℕ). y + 256 * z) (first_byte (omega arith)) (at 1 h)
