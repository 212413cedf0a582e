-- How far a boot list comes: each record that is added is a level or a range more, and a table has no more than so many. Assumes nothing.
use Rattle.facts.proofs.Words.{◌≡◌, cond, by_cases, refl, ap, ◌∙◌, ◌≢◌, List, [], ◌∷◌, Bool, true, ℕ, zero, suc, ◌+◌, ◌≤◌, ◌<◌}
use Rattle.facts.proofs.Words.{not-suc-le-zero, dec_lt, ℕ_discrete, arith, eqb, length, WellFormed}
use Rattle.facts.specs.{Code, Record, Facts, Level, put, Passed, reserve_bit, Booted, ended, refused, added, record_added, record_checks}
use Rattle.facts.specs.{all_levels, most_ranges}
use Rattle.facts.specs.Boot.{Boot}
use Rattle.facts.proofs.Sets.{cond_cases, put_same, put_other}
use Rattle.facts.proofs.Sharing.{at_most_one}
use Rattle.facts.proofs.Told.{told}
use Rattle.facts.proofs.Boot.{by_resource}
use Rattle.facts.proofs.ResourcesStay.{inserted_more, boot_stays}

-- one for a managed level, and how many of the first n are
abbrev one : Bool → ℕ
one t = cond t 1 0

levels_below : ℕ → (ℕ → Level) → ℕ
levels_below zero level = 0
levels_below (suc n) level = levels_below n level + one (level n).managed

levels_most : (n : ℕ) (level : ℕ → Level) → levels_below n level ≤ n
unfolding levels_below
levels_most zero level = omega arith
levels_most (suc n) level = omega (arith, levels_most n level, at_most_one (level n).managed)

module _ (level : ℕ → Level) (l : ℕ) (v : Level) (now : v.managed ≡ true) (free : (level l).managed ≢ true) where
  unmanaged : one (level l).managed ≡ 0
  unmanaged = cond_cases (λ n. n ≡ 0) (level l).managed 1 0 (λ e. absurd (free e)) (λ e. refl)

  levels_same : (n : ℕ) → n ≤ l → levels_below n (put level l v) ≡ levels_below n level
  unfolding levels_below
  levels_same zero h = refl
  levels_same (suc n) h =
      omega (arith, levels_same n (omega arith), ap (λ (x : Level). one x.managed) (put_other level l v n (λ e. omega (arith, e))))

  levels_more : (n : ℕ) → l < n → levels_below n (put level l v) ≡ levels_below n level + 1
  unfolding levels_below
  levels_more zero h = absurd (not-suc-le-zero h)
  levels_more (suc n) h =
      by_cases (ℕ_discrete n l)
      (λ e. let now-one = ap (λ (k : ℕ). one (put level l v k).managed) e ∙ ap (λ (x : Level). one x.managed) (put_same level l v) ∙ ap one now in
      let none_before = ap (λ (k : ℕ). one (level k).managed) e ∙ unmanaged in
      omega (arith, levels_same n (omega arith), now-one, none_before))
      (λ d. omega (arith, levels_more n (omega (arith, d)), ap (λ (x : Level). one x.managed) (put_other level l v n d)))

-- the levels and ranges that are managed
abbrev managed_in : Facts → ℕ
managed_in F = levels_below all_levels F.level + length F.ranges

-- a record that is added is one more
one_more : (F : Facts) (r : Record) → Passed (record_checks F r) → managed_in (record_added F r) ≡ managed_in F + 1
one_more F r passed =
    by_resource (λ cs G. Passed cs → managed_in G ≡ managed_in F + 1) F r
    (λ p. omega (arith, inserted_more (record { base = r.base; count = r.count; reserved = eqb r.attributes reserve_bit }) F.ranges))
    (λ p. let low = told (dec_lt r.base all_levels) (λ d. p.1.0 (omega arith)) in
    let level : Level = record { managed = true; reserved = eqb r.attributes reserve_bit } in
    omega (arith, levels_more F.level r.base level refl p.1.1.0 all_levels low))
    passed.1.1

module _ (e : Code) where
  boot_managed : (F : Facts) (rs : List Record) (i : ℕ) (o : Booted) → Boot e F rs i o → o.place + managed_in F ≡ i + managed_in o.facts
  boot_managed F [] i o ended = refl
  boot_managed F (r ∷ rs) i o (refused g) = refl
  boot_managed F (r ∷ rs) i o (added p b) = omega (arith, boot_managed _ _ _ o b, one_more F r p)

  pub boot_most : (F : Facts) (rs : List Record) (o : Booted) → WellFormed F → Boot e F rs 0 o → o.place ≤ all_levels + most_ranges
  boot_most F rs o w b =
      omega (arith, boot_managed F rs 0 o b, levels_most all_levels o.facts.level, (boot_stays e F rs 0 o w b).ranges_most)
