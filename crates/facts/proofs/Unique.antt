-- Any two permitted outcomes coincide: laws of checks, of choices and of what is done, and from them every rule. Assumes nothing.
use Rattle.facts.proofs.Words.{◌≡◌, refl, sym, ap, ap₂, subst, ◌∙◌, ◌⊎◌, inl, inr, ⊎_elim, List, [], ◌∷◌, Bool, false, some, ℕ, ◌+◌, ◌<◌}
use Rattle.facts.proofs.Words.{arith, length}
use Rattle.facts.specs.{Code, Record, Width, Facts, Range, ◌∈◌, Apart, Check, Outcome, FirstGiven, Passed, Kept, Leaves, DecidedThen, Decided}
use Rattle.facts.specs.{RuledThen, Ruled, Rule, Before, Chosen, Lowest, Coincide, Register, Deregister, register_checks, deregister_checks}
use Rattle.facts.specs.{CardTo, CardOutcome, socket_of, card_checks, request_mask_checks, release_mask_checks, io_adjust_length, ByAction, AdjustIrq}
use Rattle.facts.specs.{AdjustIo, AdjustResourceInfo, AddLevel, RemoveLevel, ShowLevel, AddRange, RemoveRange, ShowRange, LevelHeld}
use Rattle.facts.specs.{LevelHolder, LevelShown, RangeHeld, RangeHolder, RangeShown, unheld, of_type, one_alone, all_share, action_of, first}
use Rattle.facts.specs.{next, level_given, level_attributes, base_given, count_given, attributes_given, lines_given, adjust_checks, add_level_checks}
use Rattle.facts.specs.{remove_level_checks, show_level_checks, add_range_checks, remove_range_checks, show_range_checks, showing_level, showing_range}
use Rattle.facts.specs.{type_of, with_word, RequestIrq, Sharers, Count, irq_request_checks, irq_release_checks, sharers_checks, irq_grant, assigning}
use Rattle.facts.specs.{LevelTaken, with_irq, RequestIo, BaseTaken, io_request_checks, io_release_checks, io_grant, with_io, ended, refused, added}
use Rattle.facts.specs.{stopped, record_checks, Service, register_client, deregister_client, adjust_resource_info, request_irq, release_irq, request_io}
use Rattle.facts.specs.{release_io, request_socket_mask, release_socket_mask, service_number, rule_of, Call, IoAsked, IrqAsked, io_asked, irq_asked}
use Rattle.facts.specs.Boot.{Boot}
use Rattle.facts.proofs.Sets.{apart_over, found}
use Rattle.facts.proofs.Resources.{width_one}

-- the first check that applies is one, and where one applies they don't all pass
pub first_unique : (cs : List Check) (k k' : Code) → FirstGiven cs k → FirstGiven cs k' → k ≡ k'
first_unique [] k k' r r' = absurd r
first_unique (c ∷ cs) k k' (inl r) (inl r') = r.1 ∙ sym r'.1
first_unique (c ∷ cs) k k' (inl r) (inr r') = absurd (r'.0 r.0)
first_unique (c ∷ cs) k k' (inr r) (inl r') = absurd (r.0 r'.0)
first_unique (c ∷ cs) k k' (inr r) (inr r') = first_unique cs k k' r.1 r'.1

pub first_not_passed : (cs : List Check) (k : Code) → FirstGiven cs k → Passed cs → ⊥
first_not_passed [] k r p = r
first_not_passed (c ∷ cs) k (inl r) p = p.0 r.0
first_not_passed (c ∷ cs) k (inr r) p = first_not_passed cs k r.1 p.1

-- two, each of one kind or the other, and never of different kinds
both_ways : {A A' B B' E : Type 0} → (A → B' → ⊥) → (B → A' → ⊥) → (A → A' → E) → (B → B' → E) → A ⊎ B → A' ⊎ B' → E
both_ways f g h k (inl a) (inl a') = h a a'
both_ways f g h k (inl a) (inr b') = absurd (f a b')
both_ways f g h k (inr b) (inl a') = absurd (g b a')
both_ways f g h k (inr b) (inr b') = k b b'

-- whatever kind of outcome has the code: any two that checks decide coincide, if any two kept do, and any two done
module _ {O : Type 0} (code : O → Code) (cs : List Check) {kept : O → Type 0}
    (kept_same : (o o' : O) → code o ≡ code o' → kept o → kept o' → o ≡ o') where
  pub decided_then_coincide : {rest : O → Type 0} → Coincide rest → Coincide (λ (o : O). DecidedThen cs (code o) (kept o) (rest o))
  decided_then_coincide u o o' =
      both_ways (λ r r'. first_not_passed cs (code o) r.0 r'.0) (λ r r'. first_not_passed cs (code o') r'.0 r.0)
      (λ r r'. kept_same o o' (first_unique cs (code o) (code o') r.0 r'.0) r.1 r'.1) (λ r r'. u o o' r.1 r'.1)

  pub decided_coincide : {done : O → Type 0} → ((o o' : O) → code o ≡ code o' → done o → done o' → o ≡ o')
      → Coincide (λ (o : O). Decided cs (code o) (kept o) (done o))
  decided_coincide same = decided_then_coincide (λ o o' d d'. same o o' (d.0 ∙ sym d'.0) d.1 d'.1)

-- all of a service's outcome but its code
pub record Same (o o' : Outcome) : Type 0 where
  pub handle : o.handle ≡ o'.handle
  pub packet : o.packet ≡ o'.packet
  pub facts : o.facts ≡ o'.facts

coincide : {o o' : Outcome} → o.code ≡ o'.code → Same o o' → o ≡ o'
coincide e s = λ i. record { code = e i; handle = s.handle i; packet = s.packet i; facts = s.facts i }

pub leaves_same : {h h' : ℕ} {p p' : List ℕ} {F F' : Facts} {o o' : Outcome} → h ≡ h' → p ≡ p' → F ≡ F'
    → Leaves h p F o → Leaves h' p' F' o' → Same o o'
leaves_same eh ep eF d d' = record { handle = cc; packet = cc; facts = cc }

kept_same : {F : Facts} {p : List ℕ} {o o' : Outcome} → Kept F p o → Kept F p o' → Same o o'
kept_same k k' = record { handle = cc; packet = cc; facts = cc }

module _ (cs : List Check) {F : Facts} {p : List ℕ} where
  pub ruled_then_coincide : {rest : Outcome → Type 0} → Coincide rest → Coincide (RuledThen cs rest F p)
  ruled_then_coincide = decided_then_coincide (λ (o : Outcome). o.code) cs (λ o o' e k k'. coincide e (kept_same k k'))

  pub ruled_coincide : {D : Outcome → Type 0} → ((o o' : Outcome) → D o → D o' → Same o o') → Coincide (Ruled cs D F p)
  ruled_coincide same = ruled_then_coincide (λ o o' d d'. coincide (d.0 ∙ sym d'.0) (same o o' d.1 d'.1))

  -- what is left is fixed
  pub leaves_coincide : {h : ℕ} {q : List ℕ} {G : Facts} → Coincide (Ruled cs (Leaves h q G) F p)
  leaves_coincide = ruled_coincide (λ o o'. leaves_same refl refl refl)

-- two rules of which no two outcomes are both permitted
pub either_coincide : {R S : Outcome → Type 0} → ((o o' : Outcome) → R o → S o' → ⊥) → Coincide R → Coincide S
    → Coincide (λ (o : Outcome). R o ⊎ S o)
either_coincide apart u v o o' = both_ways (apart o o') (λ r r'. apart o' o r' r) (u o o') (v o o')

pub under_coincide : {A : Type 0} {R : Outcome → Type 0} → Coincide R → Coincide (λ (o : Outcome). A × R o)
under_coincide u o o' r r' = u o o' r.1 r'.1

-- the choices
before_both : (Early : ℕ → Type 0) (x y : ℕ) → Before Early x y → Before Early y x → x ≡ y
before_both Early x y =
    both_ways (λ b b'. b.1 (b'.0.1 b.0)) (λ b b'. b'.1 (b.0.1 b'.0)) (λ b b'. absurd (b.1 b'.0)) (λ b b'. omega arith)

pub chosen_unique : {Fit Early : ℕ → Type 0} {x y : ℕ} → Chosen Fit Early x → Chosen Fit Early y → x ≡ y
chosen_unique {Fit} {Early} {x} {y} c d = before_both Early x y (c.first y d.fits) (d.first x c.fits)

pub lowest_unique : {Fit : ℕ → Type 0} {x y : ℕ} → Lowest Fit x → Lowest Fit y → x ≡ y
lowest_unique {Fit} {x} {y} c d = omega (arith, c.least y d.fits, d.least x c.fits)

-- the level that is taken is one
level_taken_unique : (F : Facts) (q : IrqAsked) (x y : ℕ) → LevelTaken F q x → LevelTaken F q y → x ≡ y
level_taken_unique F q x y =
    both_ways (λ t t'. t'.0 x t.fits) (λ t t'. t.0 y t'.fits) lowest_unique (λ t t'. chosen_unique t.1 t'.1)

-- the base that is taken is one
base_taken_unique : (F : Facts) (q : IoAsked) (x y : ℕ) → BaseTaken F q x → BaseTaken F q y → x ≡ y
base_taken_unique F q x y =
    both_ways (λ b b'. b.0 b'.0) (λ b b'. b'.0 b.0) (λ b b'. b.1 ∙ sym b'.1) (λ b b'. chosen_unique b.1 b'.1)

-- of ranges apart from each other there is one at a base
pub range_unique : (lo : ℕ) (rs : List Range) (r r' : Range) → Apart lo rs → r ∈ rs → r' ∈ rs → r.base ≡ r'.base → r ≡ r'
range_unique lo [] r r' a i i' e = absurd i
range_unique lo (x ∷ xs) r r' a (inl i) (inl i') e = cc
range_unique lo (x ∷ xs) r r' a (inl i) (inr i') e = absurd (omega (arith, apart_over (x.base + x.count) xs a.2 r' i', ap (λ (z : Range). z.base) i))
range_unique lo (x ∷ xs) r r' a (inr i) (inl i') e = absurd (omega (arith, apart_over (x.base + x.count) xs a.2 r i, ap (λ (z : Range). z.base) i'))
range_unique lo (x ∷ xs) r r' a (inr i) (inr i') e = range_unique (x.base + x.count) xs r r' a.2 i i' e

-- what First and Next show of a range or of a level is one
alone_held : {F : Facts} {r : Range} (h : ℕ) → RangeHolder F r h false → RangeHeld F r
alone_held h k = record { client = h; shares = false; holder = k }

range_shown_unique : (F : Facts) (r : Range) (a a' h h' : ℕ) → RangeShown F r a h → RangeShown F r a' h' → (a ≡ a') × (h ≡ h')
range_shown_unique F r a a' h h' (unheld n e z) (unheld n' e' z') = (e ∙ sym e', z ∙ sym z')
range_shown_unique F r a a' h h' (unheld n e z) (one_alone x k e' l) = absurd (n (alone_held x k))
range_shown_unique F r a a' h h' (unheld n e z) (all_share k s e' l) = absurd (n k)
range_shown_unique F r a a' h h' (one_alone x k e l) (unheld n e' z) = absurd (n (alone_held x k))
range_shown_unique F r a a' h h' (one_alone x k e l) (one_alone x' k' e' l') = (e ∙ sym e', lowest_unique l l')
range_shown_unique F r a a' h h' (one_alone x k e l) (all_share k' s e' l') = absurd (s x k)
range_shown_unique F r a a' h h' (all_share k s e l) (unheld n e' z) = absurd (n k)
range_shown_unique F r a a' h h' (all_share k s e l) (one_alone x k' e' l') = absurd (s x k')
range_shown_unique F r a a' h h' (all_share k s e l) (all_share k' s' e' l') = (e ∙ sym e', lowest_unique l l')

holder : {F : Facts} {l : ℕ} (k : LevelHeld F l) → LevelHolder F l k.grant.client (type_of k.grant.manner)
holder k = record { seat = k.seat; grant = k.grant; holds = k.holds; client = refl; type = refl }

level_shown_unique : (F : Facts) (l a a' h h' : ℕ) → LevelShown F l a h → LevelShown F l a' h' → (a ≡ a') × (h ≡ h')
level_shown_unique F l a a' h h' (unheld n e z) (unheld n' e' z') = (e ∙ sym e', z ∙ sym z')
level_shown_unique F l a a' h h' (unheld n e z) (of_type k t s) = absurd (n k)
level_shown_unique F l a a' h h' (of_type k t s) (unheld n e z) = absurd (n k)
level_shown_unique F l a a' h h' (of_type k t s) (of_type k' t' s') = (t _ _ (holder k) ∙ sym (t' _ _ (holder k)), lowest_unique s s')

-- the actions differ
listed_apart : {n k : ℕ} → n ≡ k → k < first → (n ≡ first) ⊎ (n ≡ next) → ⊥
listed_apart e below = ⊎_elim (λ e'. omega arith) (λ e'. omega arith)

by_action : (A R S : Rule) (F : Facts) (h : ℕ) (p : List ℕ) → Coincide (A F h p) → Coincide (R F h p) → Coincide (S F h p)
    → Coincide (ByAction A R S F h p)
by_action A R S F h p u v w =
    either_coincide (λ o o' a. ⊎_elim (λ b. omega (arith, a.0, b.0)) (λ c. listed_apart a.0 (omega arith) c.0)) (under_coincide u)
    (either_coincide (λ o o' b c. listed_apart b.0 (omega arith) c.0) (under_coincide v) (under_coincide w))

-- a service is found again by its number among the nine: so a number is one service's
abbrev services : List Service
services =
    register_client ∷ deregister_client ∷ adjust_resource_info ∷ request_irq ∷ release_irq ∷ request_io ∷ release_io ∷ request_socket_mask
    ∷ release_socket_mask
    ∷ []

found_again : (s : Service) → found service_number register_client (service_number s) services ≡ s
found_again register_client = refl
found_again deregister_client = refl
found_again adjust_resource_info = refl
found_again request_irq = refl
found_again release_irq = refl
found_again request_io = refl
found_again release_io = refl
found_again request_socket_mask = refl
found_again release_socket_mask = refl

pub number_injective : (s t : Service) → service_number s ≡ service_number t → s ≡ t
number_injective s t e = sym (found_again s) ∙ ap (λ (n : ℕ). found service_number register_client n services) e ∙ found_again t

-- the nine services: AdjustResourceInfo where the ranges are apart, the others for any facts
module _ (F : Facts) (h : ℕ) (p : List ℕ) where
  show_level_unique : Coincide (ShowLevel F h p)
  show_level_unique =
      ruled_coincide (show_level_checks F (action_of p) (level_given p)) λ o o' d d'.
      let e = lowest_unique d.next_is d'.next_is in
      let s = subst (λ (l : ℕ). LevelShown F l d'.attributes d'.handle) (sym e) d'.shown in
      let same = level_shown_unique F d.level _ _ _ _ d.shown s in
      leaves_same same.1 (ap₂ (showing_level p) e same.0) refl d.leaves d'.leaves

  adjust_irq_unique : Coincide (AdjustIrq F h p)
  adjust_irq_unique =
      by_action AddLevel RemoveLevel ShowLevel F h p (leaves_coincide (add_level_checks F (level_given p) (level_attributes p)))
      (leaves_coincide (remove_level_checks F (level_given p) (level_attributes p))) show_level_unique

  module _ (apart : Apart 0 F.ranges) where
    show_range_unique : (w : Width) → Coincide (ShowRange w F h p)
    show_range_unique w =
        ruled_coincide (show_range_checks w F (action_of p) (base_given w p)) λ o o' d d'.
        let base = lowest_unique d.next_is.1 d'.next_is.1 in
        let e = range_unique 0 F.ranges d.range d'.range apart d.next_is.0 d'.next_is.0 base in
        let s = subst (λ (r : Range). RangeShown F r d'.attributes d'.handle) (sym e) d'.shown in
        let same = range_shown_unique F d.range _ _ _ _ d.shown s in
        leaves_same same.1 (ap₂ (showing_range w p) e same.0) refl d.leaves d'.leaves

    adjust_io_unique : (w : Width) → Coincide (AdjustIo w F h p)
    adjust_io_unique w =
        by_action (AddRange w) (RemoveRange w) (ShowRange w) F h p
        (leaves_coincide (add_range_checks F (base_given w p) (count_given w p) (attributes_given w p) (lines_given w p)))
        (leaves_coincide (remove_range_checks F (base_given w p) (count_given w p) (attributes_given w p) (lines_given w p))) (show_range_unique w)

    at_width : Coincide (λ (o : Outcome). (w : Width) × (length p ≡ io_adjust_length w) × AdjustIo w F h p o)
    at_width o o' (w, e, r) (w', e', r') =
        adjust_io_unique w o o' r (subst (λ (v : Width). AdjustIo v F h p o') (width_one w' w (sym e' ∙ e)) r')

    pub adjust_unique : Coincide (AdjustResourceInfo F h p)
    adjust_unique =
        ruled_then_coincide (adjust_checks p)
        (either_coincide (λ o o' a b. omega (arith, a.0, b.0)) (under_coincide adjust_irq_unique)
        (λ o o' r r'. at_width o o' (r.1, r.2, r.3) (r'.1, r'.2, r'.3)))

  pub register_unique : Coincide (Register F h p)
  register_unique = leaves_coincide (register_checks F p)

  pub deregister_unique : Coincide (Deregister F h p)
  deregister_unique = leaves_coincide (deregister_checks F h p)

  pub request_irq_unique : Coincide (RequestIrq F h p)
  request_irq_unique =
      ruled_coincide (irq_request_checks F h p) λ o o' d d'.
      let e = level_taken_unique F (irq_asked p) d.level d'.level d.taken d'.taken in
      leaves_same refl (ap (assigning p) e) (ap (λ (l : ℕ). with_irq F (socket_of p) (some (irq_grant h (irq_asked p) l))) e) d.leaves d'.leaves

  pub request_io_unique : Coincide (RequestIo F h p)
  request_io_unique =
      ruled_coincide (io_request_checks F h p) λ o o' d d'.
      let e = base_taken_unique F (io_asked p) d.base d'.base d.taken d'.taken in
      leaves_same refl (ap (with_word p 2) e) (ap (λ (b : ℕ). with_io F (socket_of p) (some (io_grant h (io_asked p) b))) e) d.leaves d'.leaves

  pub service_unique : Apart 0 F.ranges → (s : Service) → Coincide (rule_of s F h p)
  service_unique apart register_client = register_unique
  service_unique apart deregister_client = deregister_unique
  service_unique apart adjust_resource_info = adjust_unique apart
  service_unique apart request_irq = request_irq_unique
  service_unique apart release_irq = leaves_coincide (irq_release_checks F h p)
  service_unique apart request_io = request_io_unique
  service_unique apart release_io = leaves_coincide (io_release_checks F h p)
  service_unique apart request_socket_mask = leaves_coincide (request_mask_checks F h p)
  service_unique apart release_socket_mask = leaves_coincide (release_mask_checks F h p)

  -- a call: its number is one service's, or none's
  pub call_unique : Apart 0 F.ranges → (number : ℕ) → Coincide (Call number F h p)
  call_unique apart number =
      either_coincide (λ o o' r r'. r'.0 r.0)
      (λ o o' r r'. let e = number_injective r.0.service r'.0.service (r.0.number_is ∙ sym r'.0.number_is) in
      service_unique apart r'.0.service o o' (subst (λ (s : Service). rule_of s F h p o) e r.1) r'.1)
      (λ o o' r r'. coincide (r.1 ∙ sym r'.1) (kept_same r.2 r'.2))

-- the host's calls
pub card_unique : (present : Bool) (F : Facts) (s : ℕ) → Coincide (CardTo present F s)
card_unique present F s =
    decided_coincide (λ (o : CardOutcome). o.code) (card_checks F s) (λ o o' e k k' i. record { code = e i; facts = (k ∙ sym k') i })
    (λ o o' e d d' i. record { code = e i; facts = (d ∙ sym d') i })

pub sharers_unique : (F : Facts) (l : ℕ) → Coincide (Sharers F l)
sharers_unique F l =
    decided_coincide (λ (o : Count). o.code) (sharers_checks l) (λ o o' e k k' i. record { code = e i; count = (k ∙ sym k') i })
    (λ o o' e d d' i. record { code = e i; count = (d ∙ sym d') i })

module _ (e : Code) where
  pub boot_unique : (F : Facts) (rs : List Record) (i : ℕ) → Coincide (Boot e F rs i)
  boot_unique F [] i o o' ended ended = refl
  boot_unique F (r ∷ rs) i o o' (refused g) (refused g') = ap (λ (k : Code). stopped i k o.facts) (first_unique (record_checks F r) _ _ g g')
  boot_unique F (r ∷ rs) i o o' (refused g) (added p' b') = absurd (first_not_passed (record_checks F r) _ g p')
  boot_unique F (r ∷ rs) i o o' (added p b) (refused g') = absurd (first_not_passed (record_checks F r) _ g' p)
  boot_unique F (r ∷ rs) i o o' (added p b) (added p' b') = boot_unique _ _ _ o o' b b'
