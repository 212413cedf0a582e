-- Who holds a level, or one of some ports, at one seat: as what is held there says. Assumes nothing.
use Rattle.facts.proofs.Words.{◌≡◌, refl, ap, sym, ◌∙◌, subst, none, some, ◌≢◌, Bool, ℕ, ◌+◌, some-injective, none-ne-some}
use Rattle.std.specs.Prelude.{Some, None}
use Rattle.facts.specs.{Facts, HeldPorts, IrqGrant, Overlap, type_of, held_bit}
use Rattle.managed_holders.specs.{HereIs, LevelHolds, shown, PortsHold}

-- a level
module _ (F : Facts) (l s : ℕ) where
  pub level_free : F.irq s ≡ none → HereIs (LevelHolds F l s) None
  level_free e = λ x y p. none-ne-some p.0 (sym e ∙ p.1.live)

  module _ (g : IrqGrant) (e : F.irq s ≡ some g) where
    same : {x y : ℕ} → (p : LevelHolds F l s x y) → g ≡ p.0
    same p = some-injective g p.0 (sym e ∙ p.1.live)

    pub level_other : g.level ≢ l → HereIs (LevelHolds F l s) None
    level_other d = λ x y p. d (ap (λ (g : IrqGrant). g.level) (same p) ∙ p.1.at)

    pub level_here : g.level ≡ l → (a : ℕ) → a ≡ held_bit + type_of g.manner
        → HereIs (LevelHolds F l s) (Some (record { lowest = record { 0 = g.client }; shown = a }))
    level_here at a t = (
      (g, record { live = e; at = at }, refl, sym t),
      λ x y p. (
        sym p.2 ∙ ap (λ (g : IrqGrant). g.client) (sym (same p)),
        sym p.3 ∙ ap (λ (g : IrqGrant). held_bit + type_of g.manner) (sym (same p)) ∙ sym t,
      ),
    )

-- ports
module _ (F : Facts) (base count s : ℕ) where
  pub ports_free : F.io s ≡ none → HereIs (PortsHold F base count s) None
  ports_free e = λ x y p. none-ne-some p.0 (sym e ∙ p.1)

  module _ (x : HeldPorts) (e : F.io s ≡ some x) where
    abbrev Overlaps : HeldPorts → Type 0
    Overlaps x = Overlap x.ports.base x.ports.count base count

    same_range : {h a : ℕ} → (p : PortsHold F base count s h a) → x ≡ p.0
    same_range p = some-injective x p.0 (sym e ∙ p.1)

    pub ports_other : (Overlaps x → ⊥) → HereIs (PortsHold F base count s) None
    ports_other n = λ h a p. n (subst Overlaps (sym (same_range p)) p.2)

    pub ports_here : Overlaps x → (v : Bool) → x.shared ≡ v
        → HereIs (PortsHold F base count s) (Some (record { lowest = record { 0 = x.client }; shown = shown v }))
    ports_here o v t = (
      (x, e, o, refl, ap shown t),
      λ k a p. (
        sym p.3 ∙ ap (λ (x : HeldPorts). x.client) (sym (same_range p)),
        sym p.4 ∙ ap (λ (x : HeldPorts). shown x.shared) (sym (same_range p)) ∙ ap shown t,
      ),
    )
