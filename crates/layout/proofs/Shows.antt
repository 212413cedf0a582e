-- Bytes that show a set of facts, part by part, are its image; and what is shown by bytes that are changed in one part. Assumes nothing.
use Rattle.facts.proofs.Words.{◌≡◌, ◌≢◌, subst⁻¹, set, ℕ_discrete, get_or-set_same, get_or-set_other, refl, ap, sym, ◌∙◌, subst, ◌⊎◌, inl, inr, ⊎_elim}
use Rattle.facts.proofs.Words.{by_cases, List, [], ◌∷◌, ℕ, zero, suc, ◌+◌, ◌*◌, ◌-◌, ◌/◌, ◌%◌, ◌≤◌, ◌<◌, dec_lt, arith, length, get_or, get_elem?}
use Rattle.facts.proofs.Words.{ext_get_or, not-suc-le-zero, suc-mul, mul-le-mul_right, fun_ext, Option, some}
use Rattle.facts.specs.{Facts, Client, with_clients, put, byte, all_levels, most_ranges, most_sockets, most_clients}
use Rattle.facts.proofs.Sets.{put_all}
use Rattle.layout.specs.{mark, handle_bytes, attributes_bytes, events_bytes, masks_bytes, level_bytes, range_bytes, io_bytes, irq_bytes, head, image_of}
use Rattle.layout.specs.{image, layout_mark, client_room, handle_room, seat_room, head_size, cards_at, levels_at, level_size, ranges_at, range_size}
use Rattle.layout.specs.{handles_at, handle_size, attributes_at, attributes_size, events_at, events_size, ios_at, io_size, irqs_at, irq_size, spare_at}
use Rattle.layout.specs.{masks_at, masks_size, rest_at, Zero, table_size}
use Rattle.layout.proofs.Parts.{below_at, located, record_below, record_apart}
use Rattle.layout.proofs.Image.{Part, part, parts, end, ends, Stands, Shown, image_length, image_shown}
use Rattle.layout.proofs.Entered.{Wrote}

-- the bytes of the head
abbrev pub head_bytes : Facts → List ℕ
head_bytes F =
    layout_mark ∷ F.sockets ∷ length F.clients ∷ length F.ranges ∷ F.issued % 256 ∷ F.issued / 256 ∷ []

abbrev pub Heads : List ℕ → List ℕ → Type 0
Heads xs b = (j : ℕ) → j < head_size → byte b j ≡ get_or xs j 0

-- in a table of so many bytes that has room for so many clients
pub record Shows (n bytes : ℕ) (F : Facts) (b : List ℕ) : Type 0 where
  pub size : length b ≡ bytes
  pub heads : Heads (head_bytes F) b
  pub shown : Shown bytes b cards_at (parts n F)

-- the image shows its set
pub image_shows : (n size : ℕ) (F : Facts) → rest_at n ≤ size → Shows n size F (image_of n size F)
unfolding image_of head
image_shows n size F room =
    record {
      size = image_length n size F room;
      heads = below_at head_size (λ j. byte (image_of n size F) j ≡ get_or (head_bytes F) j 0) ((((((tt, refl), refl), refl), refl), refl), refl);
      shown = image_shown n size F;
    }

-- the cth of the parts, none past the last; where it begins; and the parts, with other records in it
abbrev pub part_at : ℕ → List Part → Part
part_at c [] = part 0 0 (λ i. [])
part_at zero (p ∷ ps) = p
part_at (suc c) (p ∷ ps) = part_at c ps

abbrev pub beginning : ℕ → ℕ → List Part → ℕ
beginning zero at ps = at
beginning (suc c) at [] = at
beginning (suc c) at (p ∷ ps) = beginning c (end at p) ps

abbrev pub ending : ℕ → ℕ → List Part → ℕ
ending c at ps = end (beginning c at ps) (part_at c ps)

-- where its record i begins
abbrev pub record_at : ℕ → List Part → ℕ → ℕ
record_at c ps i = beginning c cards_at ps + i * (part_at c ps).size

abbrev pub with_bytes : Part → (ℕ → List ℕ) → Part
with_bytes p f = part p.count p.size f

abbrev pub changing : ℕ → (ℕ → List ℕ) → List Part → List Part
changing c f [] = []
changing zero f (p ∷ ps) = with_bytes p f ∷ ps
changing (suc c) f (p ∷ ps) = p ∷ changing c f ps

begins_past : (c at : ℕ) (ps : List Part) → at ≤ beginning c at ps
begins_past zero at ps = omega arith
begins_past (suc c) at [] = omega arith
begins_past (suc c) at (p ∷ ps) = omega (arith, begins_past c (end at p) ps)

pub shown_at : (size : ℕ) (b : List ℕ) (c at : ℕ) (ps : List Part) → Shown size b at ps → Stands b (beginning c at ps) (part_at c ps)
shown_at size b c at [] s = λ i l. absurd (not-suc-le-zero l)
shown_at size b zero at (p ∷ ps) s = s.0
shown_at size b (suc c) at (p ∷ ps) s = shown_at size b c (end at p) ps s.1

-- and zero bytes follow them all
pub shown_past : (size : ℕ) (b : List ℕ) (at : ℕ) (ps : List Part) → Shown size b at ps → Zero b (ends at ps) size
shown_past size b at [] s = s
shown_past size b at (p ∷ ps) s = shown_past size b (end at p) ps s.1

-- what each part shows
module _ {n size : ℕ} {F : Facts} {b : List ℕ} (w : Shows n size F b) where
  shows : (c : ℕ) → Stands b (beginning c cards_at (parts n F)) (part_at c (parts n F))
  shows c = shown_at size b c cards_at (parts n F) w.shown

  pub card_at : (s : ℕ) → s < most_sockets → byte b (cards_at + s) ≡ mark (F.card s)
  card_at s l = ap (byte b) (omega arith) ∙ shows 0 s l 0 (omega arith)

  pub levels_are : Stands b levels_at (part all_levels level_size (λ l. level_bytes (F.level l)))
  levels_are = shows 1

  pub ranges_are : Stands b ranges_at (part most_ranges range_size (λ i. range_bytes (get_elem? F.ranges i)))
  ranges_are = shows 2

  pub handles_are : Stands b handles_at (part handle_room handle_size (λ i. handle_bytes (get_elem? F.clients i)))
  handles_are = shows 3

  pub attributes_are : Stands b attributes_at (part client_room attributes_size (λ i. attributes_bytes (get_elem? F.clients i)))
  attributes_are = shows 4

  pub events_are : Stands b events_at (part client_room events_size (λ i. events_bytes (get_elem? F.clients i)))
  events_are = shows 5

  pub ios_are : Stands b ios_at (part seat_room io_size (λ s. io_bytes (F.io s)))
  ios_are = shows 6

  pub irqs_are : Stands b irqs_at (part seat_room irq_size (λ s. irq_bytes (F.irq s)))
  irqs_are = shows 7

  pub spare_is : Zero b spare_at masks_at
  spare_is q l m = ap (byte b) (omega arith) ∙ shows 8 (q - spare_at) (omega arith) 0 (omega arith)

  pub masks_are : Stands b masks_at (part n masks_size (λ i. masks_bytes (get_elem? F.clients i)))
  masks_are = shows 9

  pub rest_is : Zero b (rest_at n) size
  rest_is = shown_past size b cards_at (parts n F) w.shown

-- bytes that show the same parts are the same
shown_same : {size : ℕ} (b b' : List ℕ) (at : ℕ) (ps : List Part) → Shown size b at ps → Shown size b' at ps → (q : ℕ) → at ≤ q → q < size
    → byte b q ≡ byte b' q
shown_same b b' at [] s t q l m = s q l m ∙ sym (t q l m)
shown_same b b' at (p ∷ ps) s t q l m =
    by_cases (dec_lt q (end at p))
    (λ h. let r = located at p.size p.count q l h in
    subst (λ (o : ℕ). byte b o ≡ byte b' o) r.4 (s.0 r.0 r.1 r.2 r.3 ∙ sym (t.0 r.0 r.1 r.2 r.3)))
    (λ h. shown_same b b' (end at p) ps s.1 t.1 q (omega arith) m)

-- so they are the image
pub shows_image : {n size : ℕ} (F : Facts) (b : List ℕ) → rest_at n ≤ size → Shows n size F b → image_of n size F ≡ b
shows_image {n} {size} F b room w =
    let v = image_shows n size F room in
    ext_get_or 0 (image_of n size F) b (v.size ∙ sym w.size)
    (λ q l. by_cases (dec_lt q head_size) (λ h. v.heads q h ∙ sym (w.heads q h))
    (λ h. shown_same (image_of n size F) b cards_at (parts n F) v.shown w.shown q (omega arith) (subst (λ (k : ℕ). q < k) v.size l)))

module _ (size : ℕ) (b b' : List ℕ) where
  -- parts are shown as before where no byte from their place on is changed
  pub shown_kept : (at : ℕ) (ps : List Part) → Shown size b at ps → ((q : ℕ) → at ≤ q → byte b' q ≡ byte b q) → Shown size b' at ps
  shown_kept at [] s kept = λ q l m. kept q l ∙ s q l m
  shown_kept at (p ∷ ps) s kept =
      ((λ i l j m. kept (at + i * p.size + j) (omega arith) ∙ s.0 i l j m), shown_kept (end at p) ps s.1 (λ q l. kept q (omega arith)))

  -- other records in the cth part, where no byte outside it is changed
  pub shown_changed : (c : ℕ) (f : ℕ → List ℕ) (at : ℕ) (ps : List Part) → Shown size b at ps
      → ((q : ℕ) → at ≤ q → (q < beginning c at ps) ⊎ (ending c at ps ≤ q) → byte b' q ≡ byte b q)
      → Stands b' (beginning c at ps) (with_bytes (part_at c ps) f)
      → Shown size b' at (changing c f ps)
  shown_changed zero f at [] s kept new = λ q l m. kept q l (inr (omega arith)) ∙ s q l m
  shown_changed (suc c) f at [] s kept new = λ q l m. kept q l (inr (omega arith)) ∙ s q l m
  shown_changed zero f at (p ∷ ps) s kept new = (new, shown_kept (end at p) ps s.1 (λ q l. kept q (omega arith) (inr l)))
  shown_changed (suc c) f at (p ∷ ps) s kept new = (
    λ i l j m. kept (at + i * p.size + j) (omega arith) (inl (omega (arith, record_below l m, begins_past c (end at p) ps))) ∙ s.0 i l j m,
    shown_changed c f (end at p) ps s.1 (λ q l. kept q (omega arith)) new,
  )

-- the record of x is written in the place s of records, which are those of what g gives: they have x there
module _ {A : Type 0} (bytes : A → List ℕ) (g : ℕ → A) (s : ℕ) (x : A) where
  pub put_stands : (at n k : ℕ) {b b' : List ℕ} → length (bytes x) ≡ k → Stands b at (part n k (λ i. bytes (g i))) → Wrote b (at + s * k) (bytes x) b'
      → Stands b' at (part n k (λ i. bytes (put g s x i)))
  put_stands at n k {b} {b'} long stands wrote i l j m =
      put_all (λ (i : ℕ) (y : A). i < n → byte b' (at + i * k + j) ≡ get_or (bytes y) j 0) g s x (λ _. wrote.bytes j (omega (arith, long)))
      (λ i d l. wrote.other (at + i * k + j)
      (⊎_elim (λ h. inl (omega (arith, h))) (λ h. inr (omega (arith, h, long))) (record_apart d m)) ∙ stands i l j m) i l

  -- so the cth part is shown with x there, and the table is the image of the facts G that have it
  module _ (c : ℕ) (ps : List Part) {b b' : List ℕ} (is : (part_at c ps).bytes ≡ (λ i. bytes (g i))) (long : length (bytes x) ≡ (part_at c ps).size)
      (there : s < (part_at c ps).count) (wrote : Wrote b (record_at c ps s) (bytes x) b')
      (shown : Shown table_size b cards_at ps) where
    pub put_shown : Shown table_size b' cards_at (changing c (λ i. bytes (put g s x i)) ps)
    put_shown =
        let p = part_at c ps in
        let at = beginning c cards_at ps in
        let stood = subst (λ (f : ℕ → List ℕ). Stands b at (with_bytes p f)) is (shown_at table_size b c cards_at ps shown) in
        shown_changed table_size b b' c (λ i. bytes (put g s x i)) cards_at ps shown
        (λ q l. ⊎_elim (λ m. wrote.other q (inl (omega arith)))
        (λ m. wrote.other q (inr (omega (arith, long, mul-le-mul_right p.size there, suc-mul s p.size)))))
        (put_stands at p.count p.size long stood wrote)

    pub put_image : (G : Facts) → length b ≡ table_size → Heads (head_bytes G) b
        → (Shown table_size b' cards_at (changing c (λ i. bytes (put g s x i)) ps) → Shown table_size b' cards_at (parts most_clients G))
        → image G ≡ b'
    put_image G size heads so =
        shows_image G b' (omega arith)
        (record {
          size = wrote.size ∙ size;
          heads = λ j l. wrote.other j (inl (omega (arith, begins_past c cards_at ps))) ∙ heads j l;
          shown = so put_shown;
        })

-- the number at i in the head is v
pub head_set : (b b' xs : List ℕ) (i v : ℕ) → Heads xs b → length xs ≡ head_size → i < head_size → byte b' i ≡ v
    → ((j : ℕ) → j < head_size → j ≢ i → byte b' j ≡ byte b j)
    → Heads (set xs i v) b'
head_set b b' xs i v heads long low number other j l =
    let there = number ∙ sym (get_or-set_same xs i v 0 (omega (arith, long))) in
    by_cases (ℕ_discrete j i) (λ e. subst⁻¹ (λ (k : ℕ). byte b' k ≡ get_or (set xs i v) k 0) e there)
    (λ d. other j l d ∙ heads j l ∙ sym (get_or-set_other xs i j v 0 d))

-- the parts, with the rows of what the clients that g gives are said by; these are the parts of the facts that list them
abbrev pub with_rows : (ℕ → Option Client) → List Part → List Part
with_rows g ps =
    let events = changing 5 (λ i. events_bytes (g i)) (changing 9 (λ i. masks_bytes (g i)) ps) in
    changing 3 (λ i. handle_bytes (g i)) (changing 4 (λ i. attributes_bytes (g i)) events)

pub rows_listed : (b : List ℕ) (F : Facts) (g : ℕ → Option Client) (cs : List Client) → ((k : ℕ) → get_elem? cs k ≡ g k)
    → Shown table_size b cards_at (with_rows g (parts most_clients F))
    → Shown table_size b cards_at (parts most_clients (with_clients F cs))
rows_listed b F g cs is = subst⁻¹ (λ (f : ℕ → Option Client). Shown table_size b cards_at (with_rows f (parts most_clients F))) (fun_ext is)

-- a row stays where the client that is put there is said as what stood there
pub row_same : (bytes : Option Client → List ℕ) (g : ℕ → Option Client) (i : ℕ) (x : Client) → bytes (g i) ≡ bytes (some x)
    → ◌≡◌ {A = ℕ → List ℕ} (λ k. bytes (g k)) (λ k. bytes (put g i (some x) k))
row_same bytes g i x e = fun_ext (put_all (λ (k : ℕ) (o : Option Client). bytes (g k) ≡ bytes o) g i (some x) e (λ k d. refl))
