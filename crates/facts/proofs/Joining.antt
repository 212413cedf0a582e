-- On a well-formed set a level that a request joins fits it, so the level that is taken does. Assumes nothing.
use Rattle.facts.proofs.Words.{by_cases, ap, sym, ◌∙◌, inl, inr, some-injective, ℕ, ℕ_discrete, WellFormed}
use Rattle.facts.specs.{Facts, IrqGrant, Together, Holds, Fits, Joins, LevelTaken, IrqAsked}

module _ (F : Facts) (w : WellFormed F) (q : IrqAsked) (l : ℕ) where
  -- each grant of the level is the one that is joined, or keeps company with it
  pub joined_together : (j : Joins F q l) (s : ℕ) (g : IrqGrant) → Holds F l s g → Together g.manner q.manner
  joined_together j s g h =
      let asked : Together j.grant.manner q.manner = record { equal = j.manner; shares = λ e. j.joining.shares (sym j.manner ∙ e) } in
      by_cases (ℕ_discrete s j.seat)
      (λ e. rw (some-injective g j.grant (sym h.live ∙ ap F.irq e ∙ j.holds.live)) asked)
      (λ d. let company = w.irq_company s j.seat g j.grant d h.live j.holds.live (h.at ∙ sym j.holds.at) in
      record { equal = company.equal ∙ j.manner; shares = company.shares })

  pub joins_fits : Joins F q l → Fits F q l
  joins_fits j = record { named = j.named; managed = j.managed; free = inr (j.joining.not_first, joined_together j) }

  pub taken_fits : LevelTaken F q l → Fits F q l
  taken_fits (inl t) = joins_fits t.fits
  taken_fits (inr t) = t.1.fits
