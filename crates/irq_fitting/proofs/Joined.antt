-- The levels that a request can join are those that are named and on which a grant goes together with it; the lowest of them is taken. Assumes nothing.
use Rattle.std.specs.Prelude.{Option, Some, None}
use Rattle.facts.proofs.Words.{◌≡◌, sym, ◌∙◌, subst, inl, inr, List, true, ℕ, bit_and, WellFormed}
use Rattle.layout.proofs.Of
use Rattle.facts.specs.{Facts, IrqAsked, Named, Joins, Together}
use Rattle.layout.specs.{facts_in}
use Rattle.table_read.specs.{HasJust}
use Rattle.table_read.proofs.{exactly_empty, exactly_both, exactly_as}
use Rattle.irq_fitting.specs.{InCompany, LowestIn, FirstIs, TakenIs}
use Rattle.irq_fitting.proofs.Bits.{lowest_said}
use Rattle.irq_fitting.proofs.Fit.{seat_below}

module _ (F : Facts) (formed : WellFormed F) (q : IrqAsked) where
  company_joins : (l : ℕ) → InCompany F q l × Named q l → Joins F q l
  company_joins l ((s, h, (g, holds, goes)), named) =
      let together = goes.together in
      record {
        joining = record { shares = λ e. together.shares (together.equal ∙ e); not_first = goes.not_first };
        named = named;
        managed = subst (λ (k : ℕ). (F.level k).managed ≡ true) holds.at (formed.irqs s g holds.live).managed;
        seat = s;
        grant = g;
        holds = holds;
        manner = together.equal;
      }

  joins_company : (l : ℕ) → Joins F q l → InCompany F q l × Named q l
  joins_company l j =
      let together : Together j.grant.manner q.manner = record { equal = j.manner; shares = λ e. j.joining.shares (sym j.manner ∙ e) } in
      ((j.seat, seat_below F formed j.seat j.grant j.holds.live, (j.grant, j.holds, record { not_first = j.joining.not_first; together = together })), j.named)

  pub joined_said : (set : ℕ) → HasJust set (InCompany F q) → HasJust (bit_and set q.named) (Joins F q)
  joined_said set is =
      exactly_as (exactly_both set q.named is (record { has = λ k n. n; only = λ k n. n })) company_joins joins_company

-- the lowest is taken; or there is none, and the first that fits is
module _ (b : List ℕ) (q : IrqAsked) (set : ℕ) (is : HasJust set (Joins (facts_in b) q)) where
  pub lowest_taken : (l : ℕ) → LowestIn set l → TakenIs b q (Some l)
  lowest_taken l low a = rw (Of.facts_in_lem b a) (inl (lowest_said is low))

  pub first_is_taken : set ≡ 0 → (r : Option ℕ) → FirstIs (facts_in b) q r → TakenIs b q r
  first_is_taken e (Some l) first = λ a. rw (Of.facts_in_lem b a) (inr (exactly_empty is e, first))
  first_is_taken e None none = λ a. rw (Of.facts_in_lem b a) none
