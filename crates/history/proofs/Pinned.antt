-- Two well-formed sets that say the same facts are one set, so what stands fixes every byte of the table. Assumes nothing.
use Rattle.facts.proofs.Words.{◌≡◌, refl, ap, sym, ◌∙◌, subst, fun_ext, inl, inr, ⊎_elim, List, [], ◌∷◌, Bool, true, false, false≢true, Option, none}
use Rattle.facts.proofs.Words.{some, ℕ, ◌+◌, ◌≤◌, arith, WellFormed}
use Rattle.facts.specs.{Facts, Client, Level, Range, ◌∈◌, Rising, Apart}
use Rattle.facts.proofs.{rising_over}
use Rattle.layout.specs.{image}
use Rattle.history.specs.{Fact, client, mask, level, range, card, io, irq, Tells, SaidOnce}

-- lists in order of a number, each over the one before it
module _ {A : Type 0} (number : A → ℕ) where
  abbrev Ordered : ℕ → List A → Type 0
  Ordered lo [] = Unit {0}
  Ordered lo (x ∷ xs) = (lo ≤ number x) × Ordered (number x + 1) xs

  ordered_over : (lo : ℕ) (xs : List A) → Ordered lo xs → (x : A) → x ∈ xs → lo ≤ number x
  ordered_over lo [] o x m = absurd m
  ordered_over lo (y ∷ xs) o x (inl e) = subst (λ (z : A). lo ≤ number z) (sym e) o.0
  ordered_over lo (y ∷ xs) o x (inr m) = omega (arith, o.0, ordered_over (number y + 1) xs o.1 x m)

  -- two such lists of the same begin with the same, and are one
  heads : (lo lo' : ℕ) (x y : A) (xs ys : List A) → Ordered lo (x ∷ xs) → Ordered lo' (y ∷ ys) → ((z : A) → z ∈ (x ∷ xs) → z ∈ (y ∷ ys))
      → ((z : A) → z ∈ (y ∷ ys) → z ∈ (x ∷ xs)) → x ≡ y
  heads lo lo' x y xs ys o o' f g =
      ⊎_elim (λ e. e)
      (λ m. ⊎_elim sym
      (λ m'. absurd (omega (arith, ordered_over (number y + 1) ys o'.1 x m, ordered_over (number x + 1) xs o.1 y m')))
      (g y (inl refl)))
      (f x (inl refl))

  ordered_one : (lo lo' : ℕ) (xs ys : List A) → Ordered lo xs → Ordered lo' ys → ((x : A) → x ∈ xs → x ∈ ys) → ((y : A) → y ∈ ys → y ∈ xs) → xs ≡ ys
  ordered_one lo lo' [] [] o o' f g = refl
  ordered_one lo lo' [] (y ∷ ys) o o' f g = absurd (g y (inl refl))
  ordered_one lo lo' (x ∷ xs) [] o o' f g = absurd (f x (inl refl))
  ordered_one lo lo' (x ∷ xs) (y ∷ ys) o o' f g =
      let e = heads lo lo' x y xs ys o o' f g in
      let tails = ordered_one (number x + 1) (number y + 1) xs ys o.1 o'.1
      (λ z m. ⊎_elim (λ i. absurd (omega (arith, ordered_over (number x + 1) xs o.1 z m, ap number (i ∙ sym e)))) (λ k. k) (f z (inr m)))
      (λ z m. ⊎_elim (λ i. absurd (omega (arith, ordered_over (number y + 1) ys o'.1 z m, ap number (i ∙ e)))) (λ k. k) (g z (inr m))) in
      λ i. e i ∷ tails i

rising_ordered : (lo : ℕ) (cs : List Client) → Rising lo cs → Ordered (λ (c : Client). c.handle) (lo + 1) cs
rising_ordered lo [] r = tt
rising_ordered lo (c ∷ cs) r = (omega (arith, r.0), rising_ordered c.handle cs r.1)

ordered_down : (lo hi : ℕ) (rs : List Range) → lo ≤ hi → Ordered (λ (r : Range). r.base) hi rs → Ordered (λ (r : Range). r.base) lo rs
ordered_down lo hi [] l o = tt
ordered_down lo hi (r ∷ rs) l o = (omega (arith, l, o.0), o.1)

apart_ordered : (lo : ℕ) (rs : List Range) → Apart lo rs → Ordered (λ (r : Range). r.base) lo rs
apart_ordered lo [] a = tt
apart_ordered lo (r ∷ rs) a =
    (a.0, ordered_down (r.base + 1) (r.base + r.count) rs (omega (arith, a.1)) (apart_ordered (r.base + r.count) rs a.2))

-- an option is what it is said to be; so is a mark
option_one : {A : Type 0} (x y : Option A) → ((g : A) → x ≡ some g → y ≡ some g) → ((g : A) → y ≡ some g → x ≡ some g) → x ≡ y
option_one none none f g = refl
option_one none (some b) f g = g b refl
option_one (some a) y f g = sym (f a refl)

mark_one : (x y : Bool) → (x ≡ true → y ≡ true) → (y ≡ true → x ≡ true) → x ≡ y
mark_one true y f g = sym (f refl)
mark_one false true f g = g refl
mark_one false false f g = refl

-- the second set says all that the first does
abbrev SaysAll : Facts → Facts → Type 0
SaysAll F G = (f : Fact) → Tells F f → Tells G f

level_is : (v : Level) (r : Bool) → v.managed ≡ true → v.reserved ≡ r → v ≡ record { managed = true; reserved = r }
level_is v r m e = λ i. record { managed = m i; reserved = e i }

-- clients with one handle are one
rising_one : (lo : ℕ) (cs : List Client) → Rising lo cs → (c d : Client) → c ∈ cs → d ∈ cs → c.handle ≡ d.handle → c ≡ d
rising_one lo [] r c d m n e = absurd m
rising_one lo (x ∷ cs) r c d (inl i) (inl j) e = i ∙ sym j
rising_one lo (x ∷ cs) r c d (inl i) (inr n) e =
    absurd (omega (arith, rising_over x.handle cs r.1 d n, ap (λ (y : Client). y.handle) i, e))
rising_one lo (x ∷ cs) r c d (inr m) (inl j) e =
    absurd (omega (arith, rising_over x.handle cs r.1 c m, ap (λ (y : Client). y.handle) j, e))
rising_one lo (x ∷ cs) r c d (inr m) (inr n) e = rising_one x.handle cs r.1 c d m n e

module _ (F G : Facts) (w : WellFormed F) (v : WellFormed G) (there : SaysAll F G) (back : SaysAll G F) where
  -- a client of the one is a client of the other, with the same masks
  client_in_lem : (c : Client) → c ∈ F.clients → c ∈ G.clients
  client_in_lem c m = subst (λ (x : Client). x ∈ G.clients) same d.1
    where
      d : Tells G (client c.handle c.attributes c.events)
      d = there (client c.handle c.attributes c.events) (c, m, refl, refl, refl)

      to : (s e : ℕ) → c.mask s ≡ some e → d.0.mask s ≡ some e
      to s e q =
          let x = there (mask c.handle s e) (c, m, refl, q) in
          ap (λ (y : Client). y.mask s) (rising_one 0 G.clients v.handles d.0 x.0 d.1 x.1 (d.2 ∙ sym x.2)) ∙ x.3

      from : (s e : ℕ) → d.0.mask s ≡ some e → c.mask s ≡ some e
      from s e q =
          let x = back (mask c.handle s e) (d.0, d.1, d.2, q) in
          ap (λ (y : Client). y.mask s) (rising_one 0 F.clients w.handles c x.0 m x.1 (sym x.2)) ∙ x.3

      same : d.0 ≡ c
      same = λ i. record {
        handle = d.2 i;
        attributes = d.3 i;
        events = d.4 i;
        mask = fun_ext (λ s. option_one (d.0.mask s) (c.mask s) (from s) (to s)) i;
      }

  -- a managed level of the one is one of the other, with the same mark
  managed_in_lem : (l : ℕ) → (F.level l).managed ≡ true → F.level l ≡ G.level l
  managed_in_lem l m = let e = level_is (F.level l) (F.level l).reserved m refl in e ∙ sym (there (level l (F.level l).reserved) e)

same_clients : (F G : Facts) → WellFormed F → WellFormed G → SaysAll F G → SaysAll G F → F.clients ≡ G.clients
same_clients F G w v f g =
    ordered_one (λ (c : Client). c.handle) 1 1 F.clients G.clients (rising_ordered 0 F.clients w.handles)
    (rising_ordered 0 G.clients v.handles) (client_in_lem F G w v f g) (client_in_lem G F v w g f)

same_level : (F G : Facts) → WellFormed F → WellFormed G → SaysAll F G → SaysAll G F → (l : ℕ) → F.level l ≡ G.level l
same_level F G w v f g l = each_mark (F.level l).managed (G.level l).managed refl refl
  where
    each_mark : (x y : Bool) → (F.level l).managed ≡ x → (G.level l).managed ≡ y → F.level l ≡ G.level l
    each_mark true y e e' = managed_in_lem F G w v f g l e
    each_mark false true e e' = sym (managed_in_lem G F v w g f l e')
    each_mark false false e e' =
        λ i. record {
          managed = (e ∙ sym e') i;
          reserved =
              mark_one (F.level l).reserved (G.level l).reserved (λ q. absurd (false≢true (sym e ∙ w.reserved l q)))
              (λ q. absurd (false≢true (sym e' ∙ v.reserved l q))) i;
        }

pub one_set_told : (F G : Facts) → WellFormed F → WellFormed G → F.sockets ≡ G.sockets → F.issued ≡ G.issued → SaysAll F G → SaysAll G F → F ≡ G
one_set_told F G w v s n f g = λ i. record {
  sockets = s i;
  card = fun_ext (λ k. mark_one (F.card k) (G.card k) (f (card k)) (g (card k))) i;
  issued = n i;
  clients = same_clients F G w v f g i;
  level = fun_ext (same_level F G w v f g) i;
  ranges = ranges i;
  io = fun_ext (λ k. option_one (F.io k) (G.io k) (λ x. f (io k x)) (λ x. g (io k x))) i;
  irq = fun_ext (λ k. option_one (F.irq k) (G.irq k) (λ x. f (irq k x)) (λ x. g (irq k x))) i;
}
  where
    ranges : F.ranges ≡ G.ranges
    ranges =
        ordered_one (λ (r : Range). r.base) 0 0 F.ranges G.ranges (apart_ordered 0 F.ranges w.apart)
        (apart_ordered 0 G.ranges v.apart) (λ r. f (range r)) (λ r. g (range r))

pub said_once : SaidOnce
said_once b b' n i P t u =
    sym t.accepted.is
    ∙ ap image
    (one_set_told t.accepted.facts u.accepted.facts t.accepted.formed u.accepted.formed (t.sockets_are ∙ sym u.sockets_are)
    (t.issued_are ∙ sym u.issued_are) (λ f x. (u.tells f).1 ((t.tells f).0 x)) (λ f x. (t.tells f).1 ((u.tells f).0 x)))
    ∙ u.accepted.is
