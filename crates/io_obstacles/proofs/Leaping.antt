-- A base that lies in a bar or a stretch is followed by others up to its end: how far a search can leap. Assumes nothing.
use Rattle.facts.proofs.Words.{◌≡◌, ap, sym, ◌∙◌, ◌⊎◌, inl, inr, ℕ, ◌+◌, ◌-◌, ◌%◌, ◌^◌, ◌≤◌, ◌<◌, max, mod-le, mod-add-mod, mod-mod-pow, subst}
use Rattle.facts.proofs.Words.{dec_lt, eq-or-lt_of_le, arith, bit_and, and_mask}
use Rattle.facts.specs.{all_ports, most_lines}
use Rattle.io_ranges.proofs.{all_ports_mod}
use Rattle.io_obstacles.specs.{around, Power, Bar, Bars, LiesFrom, LiesShort, bar_at, LiesInFirst, Leaps}

-- ones take the remainder by the period
pub masked : (n ones : ℕ) → Power (ones + 1) → bit_and n ones ≡ n % (ones + 1)
masked n ones p =
    let e : ones ≡ 2 ^ p.lines - 1 = omega (arith, p.is) in
    ap (bit_and n) e ∙ and_mask n p.lines ∙ ap (λ (m : ℕ). n % m) (sym p.is)

-- a base that isn't barred is leapt over by nothing
pub leap_over : (Bar : ℕ → Type 0) (x : ℕ) → (Bar x → ⊥) → Leaps Bar x 0
leap_over Bar x n = record { none = λ _. n; each = λ e l. absurd (omega arith); most = omega arith }

-- a difference that is worked out, modulo all ports, is the same modulo a period
wrapped : (start x ones : ℕ) → start < all_ports → Power (ones + 1)
    → bit_and ((x + (65536 - start)) % 65536) ones ≡ (x + around - start) % (ones + 1)
wrapped start x ones low p =
    let more : most_lines ≡ most_lines - p.lines + p.lines = omega (arith, p.most) in
    let again : x + around - start ≡ x + (65536 - start) + all_ports = omega arith in
    let n : ℕ = x + (65536 - start) in
    masked (n % 65536) ones p ∙ ap (λ (m : ℕ). n % 65536 % m) p.is ∙ ap (λ (m : ℕ). n % 2 ^ m % 2 ^ p.lines) more ∙ mod-mod-pow n (most_lines - p.lines) p.lines
    ∙ sym (all_ports_mod p.lines p.most n) ∙ ap (λ (m : ℕ). m % 2 ^ p.lines) (sym again) ∙ ap (λ (m : ℕ). (x + around - start) % m) (sym p.is)

-- and so is what wraps around at all ports
pub wrapped_behind : (start x d ones : ℕ) → start < all_ports → x < all_ports → (d + start) % 2 ^ 16 ≡ x → Power (ones + 1) → d < all_ports
    → bit_and d ones ≡ (x + around - start) % (ones + 1)
wrapped_behind start x d ones low below e p small =
    let same : (x + (65536 - start)) % 65536 ≡ d = omega (arith, e) in
    subst (λ (n : ℕ). bit_and n ones ≡ (x + around - start) % (ones + 1)) same (wrapped start x ones low p)

-- those that follow a base are no further behind the end than they are ahead of it
pub leaps : (start ones width x behind r : ℕ) → start ≤ around → width ≤ around → behind ≡ (x + around - start) % (ones + 1) → r ≡ width - behind
    → Leaps (LiesFrom start ones width) x r
leaps start ones width x behind r near small b e =
    record { none = λ z l. omega (arith, l); each = each; most = omega arith }
  where
    each : (d : ℕ) → d < r → LiesFrom start ones width (x + d)
    each d l =
        let same : x + d + around - start ≡ x + around - start + d = omega arith in
        let less : (x + d + around - start) % (ones + 1) ≤ behind + d = rw (b, same, ← mod-add-mod) (mod-le ((x + around - start) % (ones + 1) + d) (ones + 1)) in
        omega (arith, less)

-- so in a bar whose period is not too long
pub leaps_bar : (bar : Bar) (limit x r : ℕ) → Power (bar.ones + 1) → bar.start < all_ports → bar.width < all_ports → bar.ones ≤ limit
    → r ≡ bar.width - bit_and ((x + (65536 - bar.start)) % 65536) bar.ones → Leaps (LiesShort bar limit) x r
leaps_bar bar limit x r p low small short e =
    let l = leaps bar.start bar.ones bar.width x _ r (omega arith) (omega arith) (wrapped bar.start x bar.ones low p) e in
    record { none = λ z h. l.none z h.1; each = λ d h. (short, l.each d h); most = l.most }

-- the farthest of two: the first n bars, and one more
module _ {N : ℕ} (bars : Bars N) (limit x : ℕ) where
  pub leap_start : Leaps (LiesInFirst bars limit 0) x 0
  leap_start = leap_over (LiesInFirst bars limit 0) x (λ l. omega (arith, l.below))

  pub leap_more : (n far d : ℕ) → Leaps (LiesInFirst bars limit n) x far → Leaps (LiesShort (bar_at bars n) limit) x d
      → Leaps (LiesInFirst bars limit (n + 1)) x (max far d)
  leap_more n far d first next = record { none = none; each = each; most = omega (arith, first.most, next.most) }
    where
      none : max far d ≡ 0 → LiesInFirst bars limit (n + 1) x → ⊥
      none z l = either_way (eq-or-lt_of_le {n = l.place} {m = n} (omega (arith, l.below)))
        where
          either_way : (l.place ≡ n) ⊎ (l.place < n) → ⊥
          either_way (inl e) = next.none (omega arith) (rw (← e) (l.short, l.lies))
          either_way (inr m) = first.none (omega arith) (record { place = l.place; below = m; short = l.short; lies = l.lies })

      each : (e : ℕ) → e < max far d → LiesInFirst bars limit (n + 1) (x + e)
      each e l = below_or_not (dec_lt e far)
        where
          below_or_not : Dec (e < far) → LiesInFirst bars limit (n + 1) (x + e)
          below_or_not (yes m) =
              let i = first.each e m in record { place = i.place; below = omega (arith, i.below); short = i.short; lies = i.lies }
          below_or_not (no m) =
              let i = next.each e (omega arith) in record { place = n; below = omega arith; short = i.0; lies = i.1 }
