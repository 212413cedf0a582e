-- A table with a client more, or one less, is the image of the facts with that client more, or less. Assumes nothing.
use Rattle.facts.proofs.Words.{◌≡◌, subst, mul-le-mul_right, get_or, refl, ap, sym, ◌∙◌, inl, inr, ⊎_elim, by_cases, ◌≢◌, List, [], ◌∷◌, ◌++◌, Option}
use Rattle.facts.proofs.Words.{none, some, ℕ, ◌+◌, ◌-◌, ◌≤◌, ◌<◌, length-set, dec_lt, arith, length, get_elem?, set}
use Rattle.layout.proofs.Of
use Rattle.facts.specs.{Facts, Client, put, byte, with_word, registered, new_client, with_clients, without_client, most_clients, most_issued}
use Rattle.facts.proofs.Sets.{put_all}
use Rattle.layout.specs.{two, each, image, handle_bytes, attributes_bytes, events_bytes, masks_bytes, clients_in, handle_in, handle_place}
use Rattle.layout.specs.{attributes_place, events_place, client_in, Accepted, entered, ClosedUp, Withdrawn, head_clients, head_issued, head_size}
use Rattle.layout.specs.{cards_at, handle_size, attributes_size, events_size, masks_size, table_size}
use Rattle.layout.proofs.Parts.{below_at, zeros}
use Rattle.layout.proofs.Lists.{More, appended, without_at, at_past}
use Rattle.layout.proofs.Records.{records_fewer}
use Rattle.layout.proofs.Image.{Part, parts, Stands, Shown}
use Rattle.layout.proofs.Shows.{Heads, record_at, Shows, head_bytes, head_set, shows_image, put_shown, shown_kept, part_at, beginning, with_bytes}
use Rattle.layout.proofs.Shows.{shown_changed, shown_at, changing, rows_listed, row_same}
use Rattle.layout.proofs.Entered.{wrote_none, wrote_byte, wrote_word}
use Rattle.layout.proofs.Written.{byte_same, byte_other}

-- a list with one more at its end, place by place
appended_put : {A : Type 0} (s : List A) (x : A) (k : ℕ) → get_elem? (s ++ (x ∷ [])) k ≡ put (get_elem? s) (length s) (some x) k
appended_put {A} s x =
    let more = appended s x in
    put_all (λ (k : ℕ) (o : Option A). get_elem? (s ++ (x ∷ [])) k ≡ o) (get_elem? s) (length s) (some x) more.here
    (λ k d. by_cases (dec_lt k (length s)) (more.ahead k)
    (λ h. at_past (s ++ (x ∷ [])) k (omega (arith, more.longer, d)) ∙ sym (at_past s k (omega arith))))

-- the new client: what it is said by, the handles issued and the number of clients are written, one after the other
module _ (F : Facts) (b : List ℕ) (attributes events : ℕ) (w : Shows most_clients table_size F b) (room : length F.clients < most_clients)
    (left : F.issued < most_issued) (low : events < 65536) where
  abbrev n : ℕ
  n = length F.clients

  abbrev h : ℕ
  h = F.issued + 1

  abbrev new : Client
  new = new_client F attributes events

  abbrev old : ℕ → Option Client
  old = get_elem? F.clients

  abbrev all : ℕ → Option Client
  all = put old n (some new)

  abbrev b₁ : List ℕ
  b₁ = with_word b (handle_place n) h

  abbrev b₂ : List ℕ
  b₂ = with_word b₁ (events_place n) events

  abbrev b₃ : List ℕ
  b₃ = with_word b₂ head_issued h

  abbrev b₄ : List ℕ
  b₄ = set b₃ (attributes_place n) attributes

  -- by turns: what is written; the parts, each row with the new client once it is written; the masks, where zeros say that it has none; the head
  pub entered_image : image (registered F attributes events) ≡ entered b n h attributes events
  unfolding entered each
  entered_image =
      let w₁ = wrote_word (wrote_none b (handle_place n)) (handle_place n) h (omega arith) (omega (arith, w.size)) (omega arith) in
      let w₂ = wrote_word (wrote_none b₁ (events_place n)) (events_place n) events (omega arith) (omega (arith, w₁.size, w.size)) low in
      let w₃ = wrote_word (wrote_none b₂ head_issued) head_issued h refl (omega (arith, w₂.size, w₁.size, w.size)) (omega arith) in
      let size₃ = w₃.size ∙ w₂.size ∙ w₁.size ∙ w.size in
      let w₄ = wrote_byte (wrote_none b₃ (attributes_place n)) (attributes_place n) attributes (omega arith) (omega (arith, size₃)) in
      let w₅ = wrote_byte (wrote_none b₄ head_clients) head_clients (n + 1) refl (omega (arith, w₄.size, size₃)) in
      let b₅ = set b₄ head_clients (n + 1) in
      let clients = F.clients ++ (new ∷ []) in
      let p = parts most_clients F in
      let p₁ = changing 3 (λ i. handle_bytes (all i)) p in
      let p₂ = changing 5 (λ i. events_bytes (all i)) p₁ in
      let p₄ = changing 4 (λ i. attributes_bytes (all i)) p₂ in
      let s₁ = put_shown handle_bytes old n (some new) 3 p refl refl (omega arith) w₁ w.shown in
      let s₂ = put_shown events_bytes old n (some new) 5 p₁ refl refl (omega arith) w₂ s₁ in
      let s₃ = shown_kept table_size b₂ b₃ cards_at p₂ s₂ (λ q l. w₃.other q (inr (omega arith))) in
      let s₄ = put_shown attributes_bytes old n (some new) 4 p₂ refl refl (omega arith) w₄ s₃ in
      let s₅ = shown_kept table_size b₄ b₅ cards_at p₄ s₄ (λ q l. w₅.other q (inr (omega arith))) in
      let no-masks = row_same masks_bytes old n new (ap masks_bytes (at_past F.clients n (omega arith))) in
      let heads₂ : Heads (head_bytes F) b₂ = (λ j l. w₂.other j (inl (omega arith)) ∙ w₁.other j (inl (omega arith)) ∙ w.heads j l) in
      let past₄ : (j : ℕ) → j < head_size → byte b₄ j ≡ byte b₃ j = (λ j l. w₄.other j (inl (omega arith))) in
      let kept : (j : ℕ) → (j < head_issued) × (j ≢ head_clients) → byte b₅ j ≡ get_or (head_bytes F) j 0 =
      (λ j o. byte_other b₄ head_clients (n + 1) j o.1 ∙ past₄ j (omega arith) ∙ w₃.other j (inl o.0) ∙ heads₂ j (omega arith)) in
      let number : byte b₅ head_clients ≡ length clients = w₅.bytes 0 (omega arith) ∙ omega (arith, (appended F.clients new).longer) in
      let issued : (j : ℕ) → j < 2 → byte b₅ (head_issued + j) ≡ get_or (two h) j 0 =
      (λ j l. w₅.other (head_issued + j) (inr (omega arith)) ∙ past₄ (head_issued + j) (omega arith) ∙ w₃.bytes j l) in
      shows_image (registered F attributes events) b₅ (omega arith)
      (record {
        size = w₅.size ∙ w₄.size ∙ size₃;
        heads = below_at head_size (λ j. byte b₅ j ≡ get_or (head_bytes (registered F attributes events)) j 0)
            ((((((tt, kept 0 (omega arith)), kept 1 (omega arith)), number), kept 3 (omega arith)), issued 0 (omega arith)), issued 1 (omega arith));
        shown = rows_listed b₅ F all clients (appended_put F.clients new)
            (subst (λ (f : ℕ → List ℕ). Shown table_size b₅ cards_at (changing 9 f p₄)) no-masks s₅);
      })

-- the facts without the client in the place i: it is taken out of each row
module _ (b b' : List ℕ) (a : Accepted b) (i h : ℕ) (l : i < clients_in b) (e : handle_in b i ≡ h)
    (first : (k : ℕ) → k < i → handle_in b k ≡ h → ⊥) (d : Withdrawn b b' i) where
  abbrev clients : List Client
  clients = a.facts.clients

  abbrev fewer : List Client
  fewer = without_client h clients

  more : More fewer clients i (client_in b i)
  unfolding client_in
  more =
      without_at (λ (x : Client). x.handle) h clients i (client_in b i) (Of.client_at b a i l) e
      (λ k x m q r. first k m (Of.handle_of_lem b a k x q (omega arith) ∙ r))

  -- the row that is the cth of the parts is closed up
  abbrev row : (Option Client → List ℕ) → ℕ → List ℕ
  row bytes k = bytes (get_elem? fewer k)

  closed : {t t' : List ℕ} (bytes : Option Client → List ℕ) (c : ℕ) (ps : List Part) → (part_at c ps).bytes ≡ (λ k. bytes (get_elem? clients k))
      → ((j : ℕ) → get_or (bytes none) j 0 ≡ 0)
      → clients_in b ≤ (part_at c ps).count
      → Shown table_size t cards_at ps
      → ClosedUp t t' (record_at c ps i) (part_at c ps).size (record_at c ps (clients_in b))
      → Shown table_size t' cards_at (changing c (row bytes) ps)
  closed {t} {t'} bytes c ps is empty fits shown up =
      let p = part_at c ps in
      let at = beginning c cards_at ps in
      let stood = subst (λ (f : ℕ → List ℕ). Stands t at (with_bytes p f)) is (shown_at table_size t c cards_at ps shown) in
      shown_changed table_size t t' c (row bytes) cards_at ps shown
      (λ q m. ⊎_elim (λ x. up.other q (inl (omega arith))) (λ x. up.other q (inr (omega (arith, mul-le-mul_right p.size fits)))))
      (records_fewer bytes at p.size p.count empty clients fewer t t' i (client_in b i) stood (λ q m x. up.other q (inl x)) more (clients_in b)
      (omega (arith, Of.clients_in_lem b a)) fits up.moved up.last (λ q m. up.other q (inr m)))

  -- by turns: the rows, closed up one after the other; the head, of which the number of clients alone changes
  pub withdrawn_image : image (with_clients a.facts fewer) ≡ b'
  withdrawn_image =
      let w = Of.shows_in b a in
      let few = (Of.sound_in b a).clients_most in
      let p = parts most_clients a.facts in
      let p₁ = changing 3 (row handle_bytes) p in
      let p₂ = changing 4 (row attributes_bytes) p₁ in
      let p₃ = changing 5 (row events_bytes) p₂ in
      let s₁ = closed handle_bytes 3 p refl (zeros handle_size) (omega arith) w.shown d.handles in
      let s₂ = closed attributes_bytes 4 p₁ refl (zeros attributes_size) (omega arith) s₁ d.attributes in
      let s₃ = closed events_bytes 5 p₂ refl (zeros events_size) (omega arith) s₂ d.events in
      let s₄ = closed masks_bytes 9 p₃ refl (zeros masks_size) few s₃ d.masks in
      let size = d.masks.size ∙ d.events.size ∙ d.attributes.size ∙ d.handles.size ∙ w.size in
      let rest : (j : ℕ) → j < head_size → byte d.b₄ j ≡ byte d.b₂ j =
      (λ j m. d.masks.other j (inl (omega arith)) ∙ d.events.other j (inl (omega arith))) in
      let kept : (j : ℕ) → j < head_size → byte d.b₂ j ≡ byte b j =
      (λ j m. d.attributes.other j (inl (omega arith)) ∙ d.handles.other j (inl (omega arith))) in
      let b₅ = set d.b₄ head_clients (clients_in b - 1) in
      let other : (q : ℕ) → q ≢ head_clients → byte b₅ q ≡ byte d.b₄ q = byte_other d.b₄ head_clients (clients_in b - 1) in
      let number = byte_same d.b₄ head_clients (clients_in b - 1) (omega (arith, size)) in
      shows_image (with_clients a.facts fewer) b₅ (omega arith)
      (record {
        size = length-set d.b₄ head_clients (clients_in b - 1) ∙ size;
        heads = head_set b b₅ (head_bytes a.facts) head_clients (length fewer) w.heads refl (omega arith)
            (number ∙ omega (arith, Of.clients_in_lem b a, more.longer)) (λ j m x. other j x ∙ rest j m ∙ kept j m);
        shown = shown_kept table_size d.b₄ b₅ cards_at (changing 9 (row masks_bytes) p₃) s₄ (λ q m. other q (λ x. omega (arith, x)));
      })
      ∙ sym d.number
