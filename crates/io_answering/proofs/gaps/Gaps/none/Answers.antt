-- `io_answering::gaps::Gaps::none` meets its contract: each number in the rows is 0.
-- Assumes nothing.
use Rattle.facts.proofs.Words.{◌≡◌, ℕ, by_cases, dec_lt, arith, get_or, replicate, get_or-replicate, length-replicate}
use Rattle.std.proofs.lemmas.List.{get_or_past}
use Rattle.io_answering.proofs.gaps.Gaps.none.Goals as goal

zero_there : (i : ℕ) → get_or {A = ℕ} (replicate 32 0) i 0 ≡ 0
zero_there i =
    by_cases (dec_lt i 32) (λ l. get_or-replicate {A = ℕ} 32 i 0 0 l)
    (λ n. get_or_past {X = ℕ} (replicate 32 0) i 0 (omega (arith, length-replicate {A = ℕ} 32 0)))

pub invariant_of-result : goal.invariant_of-result
invariant_of-result c = record { starts_fit = λ i l. omega (arith, zero_there i); ports_fit = λ i l. omega (arith, zero_there i) }

pub returns : goal.returns
returns c = zero_there
