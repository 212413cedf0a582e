-- Each way in which AdjustResourceInfo ends is the rule's. Assumes nothing.
use Rattle.std.specs.Prelude.{Option, Some, None, Ok, Err}
use Rattle.facts.proofs.Words.{◌≡◌, refl, ap, sym, ◌∙◌, subst, ◌⊎◌, inl, inr, ⊎_elim, List, [], ◌∷◌, ℕ, ◌≤◌, ◌<◌, ℕ_discrete, arith, by_cases, length}
use Rattle.facts.specs.{Code, Success, BadSize, BadArgLength, BadArgs, NoMoreItems, Handle, Width, Short, Wide, Facts, Range, ◌∈◌, Lowest}
use Rattle.facts.specs.{Check, ◌gives◌, FirstGiven, Leaves, Ruled, first, next, io_range, irq_level, action_of, resource_of, ByResource}
use Rattle.facts.specs.{irq_adjust_length, io_adjust_length, WrongLength, adjust_checks, level_given, base_given, Follows, LevelFollows}
use Rattle.facts.specs.{LevelShown, RangeNext, RangeShown, TooMany, unheld, showing_level, showing_range, ShowLevel, ShowRange, AdjustIrq}
use Rattle.facts.specs.{AdjustIo, AdjustResourceInfo}
use Rattle.facts.specs.Resources.{resource_checks}
use Rattle.facts.proofs.{is_built, lowest_unique, range_unique}
use Rattle.layout.specs.{Accepted, ServedBy}
use Rattle.layout.specs.Served.{Served}
use Rattle.layout.proofs.{kept, stays}
use Rattle.managed_holders.specs.declared.Holders.{Holders}
use Rattle.managed_holders.specs.{HoldLevel, HoldRange, LevelHoldersAre, RangeHoldersAre}
use Rattle.managed_changes.specs.{Changes}
use Rattle.managed_levels.specs.{NextLevelIs}
use Rattle.managed_ranges.specs.{NextIs, NextRangeIs}
use Rattle.managed_changes.proofs.{served_as, type_refused}
use Rattle.managed_packets.specs.declared.Action.{Action}
use Rattle.managed_packets.specs.declared.Action.TheVariants.{First, Next}
use Rattle.managed_packets.specs.{number_of, NamesBoth, FromIs, Written, attributes_shown_lem, handle_shown_lem}
use Rattle.managed_adjust.specs.{ServesBy, Reached, Shows}

-- a change that is made or refused is served as its rule says, and the packet stays
module _ {after : Facts → Facts} {b b' p : List ℕ} {h : ℕ} (checks : Facts → List Check) where
  pub made : Changes {T = Unit {0}} checks after b b' (Ok tt) → ServedBy (λ (F : Facts). Ruled (checks F) (Leaves h p (after F)) F p) b b' p Success h
  made = served_as (λ F G x. inr (x.0, (refl, record { handle = refl; packet = refl; facts = x.1 })))

  pub refused_by : {k : Code} → Changes {T = Unit {0}} checks after b b' (Err k) → ServedBy (λ (F : Facts). Ruled (checks F) (Leaves h p (after F)) F p) b b' p k 0
  refused_by = served_as (λ F G x. inl (x.0, record { handle = refl; packet = refl; facts = x.1 }))

-- the number from which First or Next looks
follows_from : {action given from x : ℕ} → FromIs action given from → Follows action given x → from ≤ x
follows_from (inl y) f = omega (arith, y.1)
follows_from (inr y) (inl e) = absurd (y.0 e)
follows_from (inr y) (inr l) = omega (arith, y.1)

from_follows : {action given from x : ℕ} → FromIs action given from → from ≤ x → Follows action given x
from_follows (inl y) l = inl y.0
from_follows (inr y) l = inr (omega (arith, y.1))

module _ {b : List ℕ} (p : List ℕ) (a : Accepted b) {from : ℕ} where
  -- levels
  module _ (is : FromIs (action_of p) (level_given p) from) where
    pub level_none : NextLevelIs b from None → ServesBy ShowLevel 0 p p b b (Err NoMoreItems)
    level_none none = stays _ _ a (inl (inl ((λ l f. none a l f.0 (follows_from is f.1)), refl), kept _ _ _))

    level_next : {l : ℕ} → NextLevelIs b from (Some l) → Lowest (LevelFollows a.facts (action_of p) (level_given p)) l
    level_next at =
        record {
          fits = ((at a).fits.0, from_follows is (at a).fits.1);
          least = λ y f. (at a).least y (f.0, follows_from is f.1);
        }

    pub level_shown : {l : ℕ} {p' : List ℕ} {handle : Handle} (x : Option Holders) → NextLevelIs b from (Some l) → LevelHoldersAre b l x
        → handle.0 ≡ handle_shown_lem x
        → p' ≡ showing_level p l (attributes_shown_lem x)
        → ServesBy ShowLevel 0 p p' b b (Ok handle)
    level_shown {l} x at are e w =
        let next = level_next at in
        let said = shown x (are a) in
        stays _ _ a (inr (((λ none. none l next.fits), tt), (refl, search)))
      where
        shown : (x : Option Holders) → HoldLevel a.facts l x → LevelShown a.facts l (attributes_shown_lem x) (handle_shown_lem x)
        shown (Some x) held = held.1
        shown None none = unheld none refl refl

  -- ranges, at either width: the one that comes next
  module _ (w : Width) (is : FromIs (action_of p) (base_given w p) from) {base n : ℕ} (at : NextIs a.facts from base n) where
    range_next : RangeNext a.facts (action_of p) (base_given w p) at.range
    range_next = (
      at.listed,
      record {
        fits = (at.range, at.listed, refl, from_follows is at.lowest.fits.3);
        least = λ y f. at.lowest.least y (f.0, f.1, f.2, follows_from is f.3);
      },
    )

    some_next : ((r : Range) → r ∈ a.facts.ranges → Follows (action_of p) (base_given w p) r.base → ⊥) → ⊥
    some_next none = none at.range at.listed range_next.1.fits.3

    next_count : (r : Range) → RangeNext a.facts (action_of p) (base_given w p) r → r.count ≡ n
    next_count r next =
        ap (λ (r : Range). r.count)
        (range_unique 0 a.facts.ranges r at.range a.formed.apart next.0 at.listed (lowest_unique next.1 range_next.1))
        ∙ at.count_is

  module _ {w : Width} (is : FromIs (action_of p) (base_given w p) from) where
    pub range_none : NextRangeIs b from None → ServesBy (ShowRange w) 0 p p b b (Err NoMoreItems)
    range_none none = stays _ _ a (inl (inl ((λ r m f. none a r m (follows_from is f)), refl), kept _ _ _))

    module _ {base n : ℕ} (at : NextIs a.facts from base n) where
      pub range_too_many : TooMany w n → ServesBy (ShowRange w) 0 p p b b (Err BadSize)
      range_too_many many =
          stays _ _ a
          (inl (inr (some_next w is at, inl ((at.range, range_next w is at, subst (TooMany w) (sym at.count_is) many), refl)), kept _ _ _))

      pub range_shown : {p' : List ℕ} {handle : Handle} (x : Option Holders) → (TooMany w n → ⊥) → RangeHoldersAre b base n x → handle.0 ≡ handle_shown_lem x
          → Written w base n (attributes_shown_lem x) p p'
          → ServesBy (ShowRange w) 0 p p' b b (Ok handle)
      range_shown {p'} x few are e wrote =
          let next = range_next w is at in
          let said = shown x (are a at.range at.base_is at.count_is) in
          let packet : p' ≡ showing_range w p at.range (attributes_shown_lem x) = rw (at.base_is, at.count_is) wrote in
          stays _ _ a
          (inr ((some_next w is at, ((λ y. few (subst (TooMany w) (next_count w is at y.0 y.1) y.2)), tt)), (refl, search)))
        where
          shown : (x : Option Holders) → HoldRange a.facts at.range x → RangeShown a.facts at.range (attributes_shown_lem x) (handle_shown_lem x)
          shown (Some x) held = held.1
          shown None none = unheld none refl refl

-- First or Next
pub first_or_next : {n : ℕ} {a : Action} → number_of a ≡ n → (a ≡ First) ⊎ (a ≡ Next) → (n ≡ first) ⊎ (n ≡ next)
first_or_next e = ⊎_elim (λ f. inl (sym e ∙ ap number_of f)) (λ f. inr (sym e ∙ ap number_of f))

-- and an action that is shown is one of the two
pub shows_either : {p : List ℕ} {action : ℕ} → Shows p action → (action_of p ≡ first) ⊎ (action_of p ≡ next)
shows_either {p} s = by_cases (ℕ_discrete (action_of p) first) inl (λ d. inr (omega arith))

-- the length, which is the last check
abbrev length_check : List ℕ → List Check
length_check p = (WrongLength (resource_of p) (length p) gives BadArgLength) ∷ []

-- refused by the head
module _ {b p : List ℕ} (a : Accepted b) {h : ℕ} where
  refused : {k : Code} → FirstGiven (adjust_checks p) k → ServesBy AdjustResourceInfo h p p b b (Err k)
  refused g = stays _ _ a (inl (g, kept _ _ _))

  pub too_short : length p < 2 → ServesBy AdjustResourceInfo h p p b b (Err BadArgLength)
  too_short l = refused (inl (l, refl))

  pub action_over : {action resource : ℕ} → NamesBoth p action resource → 3 < action → ServesBy AdjustResourceInfo h p p b b (Err BadArgs)
  action_over n l = refused (inr (omega arith, inl (omega arith, refl)))

  -- the packet names an action of four and a resource
  module _ {action resource : ℕ} (reached : Reached p action resource) where
    head_refused : {k : Code} → FirstGiven (resource_checks (resource_of p) (length_check p)) k
        → ServesBy AdjustResourceInfo h p p b b (Err k)
    head_refused g = refused (inr (omega arith, inr (omega arith, g)))

    pub resource_refused : {k : Code} → FirstGiven (resource_checks resource []) k → ServesBy AdjustResourceInfo h p p b b (Err k)
    resource_refused g = head_refused (type_refused _ (length_check p) (rw reached.names.resource_is at g))

    pub wrong_length : 1 ≤ resource → resource ≤ 2 → WrongLength resource (length p)
        → ServesBy AdjustResourceInfo h p p b b (Err BadArgLength)
    wrong_length least most w =
        let built = is_built (resource_of p) (omega arith) (omega arith) (omega arith) in
        let wrong = subst (λ (r : ℕ). WrongLength r (length p)) reached.names.resource_is w in
        head_refused (inr (built, inr (omega arith, inl (wrong, refl))))

-- the checks pass, and the resource rules
module _ {R : Facts → Facts → Type 0} {h : ℕ} {p p' b b' : List ℕ} {k : Code} {answered action : ℕ} where
  serves : {resource : ℕ} → Reached p action resource → 1 ≤ resource → resource ≤ 2 → (WrongLength resource (length p) → ⊥)
      → ((F G : Facts) → R F G → ByResource F h p (record { code = k; handle = answered; packet = p'; facts = G }))
      → Served R b b'
      → ServedBy (λ (F : Facts). AdjustResourceInfo F h p) b b' p' k answered
  serves reached least most right acts =
      let built = is_built (resource_of p) (omega arith) (omega arith) (omega arith) in
      let right-length = subst (λ (r : ℕ). WrongLength r (length p) → ⊥) reached.names.resource_is right in
      served_as (λ F G x. inr ((omega arith, (omega arith, (built, (omega arith, (right-length, tt))))), acts F G x))

  pub irq_serves : Reached p action irq_level → length p ≡ irq_adjust_length
      → ((F G : Facts) → R F G → AdjustIrq F h p (record { code = k; handle = answered; packet = p'; facts = G }))
      → Served R b b'
      → ServedBy (λ (F : Facts). AdjustResourceInfo F h p) b b' p' k answered
  irq_serves reached e acts =
      serves reached (omega arith) (omega arith) right (λ F G x. inl (sym reached.names.resource_is, acts F G x))
    where
      right : WrongLength irq_level (length p) → ⊥
      right (inl x) = x.1 e
      right (inr x) = omega (arith, x.0)

  pub io_serves : (w : Width) → Reached p action io_range → length p ≡ io_adjust_length w
      → ((F G : Facts) → R F G → AdjustIo w F h p (record { code = k; handle = answered; packet = p'; facts = G }))
      → Served R b b'
      → ServedBy (λ (F : Facts). AdjustResourceInfo F h p) b b' p' k answered
  io_serves w reached e acts =
      serves reached (omega arith) (omega arith) (right w e) (λ F G x. inr (sym reached.names.resource_is, w, e, acts F G x))
    where
      right : (w : Width) → length p ≡ io_adjust_length w → WrongLength io_range (length p) → ⊥
      right w e (inl x) = omega (arith, x.0)
      right Short e (inr x) = x.1 e
      right Wide e (inr x) = x.2 e
