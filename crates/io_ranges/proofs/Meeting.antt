-- Two ranges have ports that are equal modulo a number exactly if the distance from one base to the other, modulo that number, is below the first
-- count, or the other way round; and one look decides both ways: how far the last port of the first range lies past the second base. Over plain
-- numbers. Assumes nothing.
use Rattle.facts.proofs.Words.{◌≡◌, ap, sym, ◌∙◌, ◌⊎◌, inl, inr, ◌↔◌, ℕ, ◌+◌, ◌-◌, ◌*◌, ◌%◌, ◌≤◌, ◌<◌, add-zero, mod-le, mod-add-mod, add-mod-mod}
use Rattle.facts.proofs.Words.{add-mul-mod_self_right, le-mul_of_pos_right, dec_le, arith}
use Rattle.facts.specs.{Within}

-- some port of the n from a on equals some port of the n' from b on modulo m
pub record Common (a n b n' m : ℕ) : Type 0 where
  pub one : ℕ
  pub other : ℕ
  pub one_in : Within one a n
  pub other_in : Within other b n'
  pub equal : one % m ≡ other % m

-- some port of the count from base on equals p modulo m
record Hit (p base count m : ℕ) : Type 0 where
  pub port : ℕ
  pub inside : Within port base count
  pub equal : p % m ≡ port % m

module _ (m : ℕ) where
  -- two numbers that are equal modulo m are so when both are moved
  pub moved : (x y j : ℕ) → x % m ≡ y % m → (x + j) % m ≡ (y + j) % m
  moved x y j e = sym (mod-add-mod x m j) ∙ ap (λ (n : ℕ). (n + j) % m) e ∙ mod-add-mod y m j

  -- and were so before: moved on by what is left of a multiple of m, both are where they began
  moved_back : (x y j : ℕ) → 1 ≤ m → (x + j) % m ≡ (y + j) % m → x % m ≡ y % m
  moved_back x y j h e = sym (around x) ∙ moved (x + j) (y + j) (j * m - j) e ∙ around y
    where
      around : (n : ℕ) → (n + j + (j * m - j)) % m ≡ n % m
      around n =
          let s : n + j + (j * m - j) ≡ n + j * m = omega (arith, le-mul_of_pos_right j h) in
          ap (λ (k : ℕ). k % m) s ∙ add-mul-mod_self_right n j m

  module _ (a n b n' : ℕ) where
    -- one of the two bases lies within the other range
    common_near : 1 ≤ m → Common a n b n' m → Hit b a n m ⊎ Hit a b n' m
    common_near h c = within_or_not (dec_le (c.one - a) (c.other - b))
      where
        within_or_not : Dec (c.one - a ≤ c.other - b) → Hit b a n m ⊎ Hit a b n' m
        within_or_not (yes l) =
            let e : (a + (c.one - a)) % m ≡ (c.other - (c.one - a) + (c.one - a)) % m =
            ap (λ (k : ℕ). k % m) (omega (arith, c.one_in.from)) ∙ c.equal ∙ ap (λ (k : ℕ). k % m) (omega (arith, c.other_in.from)) in
            inr
            (record {
              port = c.other - (c.one - a);
              inside = record { from = omega (arith, c.other_in.from); below = omega (arith, c.other_in.below) };
              equal = moved_back a (c.other - (c.one - a)) (c.one - a) h e;
            })
        within_or_not (no l) =
            let e : (b + (c.other - b)) % m ≡ (c.one - (c.other - b) + (c.other - b)) % m =
            ap (λ (k : ℕ). k % m) (omega (arith, c.other_in.from)) ∙ sym c.equal ∙ ap (λ (k : ℕ). k % m) (omega (arith, c.one_in.from)) in
            inl
            (record {
              port = c.one - (c.other - b);
              inside = record { from = omega (arith, c.one_in.from); below = omega (arith, c.one_in.below) };
              equal = moved_back b (c.one - (c.other - b)) (c.other - b) h e;
            })

    module _ (some : 1 ≤ n) (some' : 1 ≤ n') where
      near_common : Hit b a n m ⊎ Hit a b n' m → Common a n b n' m
      near_common (inl r) =
          record {
            one = r.port;
            other = b;
            one_in = r.inside;
            other_in = record { from = omega arith; below = omega arith };
            equal = sym r.equal;
          }
      near_common (inr r) =
          record {
            one = a;
            other = r.port;
            one_in = record { from = omega arith; below = omega arith };
            other_in = r.inside;
            equal = r.equal;
          }

      -- the common ports are moved on until the first is the last of its range
      common_reached : Common a n b n' m → Hit (a + n - 1) b (n + n' - 1) m
      common_reached c =
          let j : ℕ = a + n - 1 - c.one in
          let last : a + n - 1 ≡ c.one + j = omega (arith, c.one_in.below) in
          record {
            port = c.other + j;
            inside = record {
              from = omega (arith, c.other_in.from);
              below = omega (arith, c.other_in.below, c.one_in.from, c.one_in.below);
            };
            equal = ap (λ (k : ℕ). k % m) last ∙ moved c.one c.other j c.equal;
          }

      -- and moved back until the second is one of its own
      reached_common : 1 ≤ m → Hit (a + n - 1) b (n + n' - 1) m → Common a n b n' m
      reached_common h r = within_or_not (dec_le r.port (b + n' - 1))
        where
          within_or_not : Dec (r.port ≤ b + n' - 1) → Common a n b n' m
          within_or_not (yes l) =
              record {
                one = a + n - 1;
                other = r.port;
                one_in = record { from = omega arith; below = omega arith };
                other_in = record { from = r.inside.from; below = omega arith };
                equal = r.equal;
              }
          within_or_not (no l) =
              let j : ℕ = r.port - (b + n' - 1) in
              let e : (a + n - 1 - j + j) % m ≡ (b + n' - 1 + j) % m =
              ap (λ (k : ℕ). k % m) (omega (arith, r.inside.below)) ∙ r.equal ∙ ap (λ (k : ℕ). k % m) (omega arith) in
              record {
                one = a + n - 1 - j;
                other = b + n' - 1;
                one_in = record { from = omega (arith, r.inside.below); below = omega arith };
                other_in = record { from = omega arith; below = omega arith };
                equal = moved_back (a + n - 1 - j) (b + n' - 1) j h e;
              }

  -- a distance is taken past a multiple of m, so that it doesn't go below 0
  module _ (whole : ℕ) (h : 1 ≤ m) (z : whole % m ≡ 0) where
    turned : (x : ℕ) → (x + whole) % m ≡ x % m
    turned x = sym (add-mod-mod x whole m) ∙ ap (λ (k : ℕ). (x + k) % m) z ∙ ap (λ (k : ℕ). k % m) (add-zero x)

    module _ (p base count : ℕ) (b : base ≤ whole) where
      -- how far p lies past the base is below the count exactly if some port of so many from there on equals it
      near_hit : (p + whole - base) % m < count → Hit p base count m
      near_hit l =
          let e : base + (p + whole - base) ≡ p + whole = omega arith in
          record {
            port = base + (p + whole - base) % m;
            inside = record { from = omega arith; below = omega arith };
            equal = sym (add-mod-mod base (p + whole - base) m ∙ ap (λ (k : ℕ). k % m) e ∙ turned p);
          }

      hit_near : Hit p base count m → (p + whole - base) % m < count
      hit_near r =
          let past : ℕ = whole - base in
          let e₁ : p + whole - base ≡ p + past = omega arith in
          let e₂ : r.port + past ≡ r.port - base + whole = omega (arith, r.inside.from) in
          let e₃ : (p + whole - base) % m ≡ (r.port - base) % m =
          ap (λ (k : ℕ). k % m) e₁ ∙ moved p r.port past r.equal ∙ ap (λ (k : ℕ). k % m) e₂ ∙ turned (r.port - base) in
          omega (arith, e₃, mod-le (r.port - base) m, r.inside.below, r.inside.from)

    module _ (a n b n' : ℕ) (some : 1 ≤ n) (some' : 1 ≤ n') (lb : b ≤ whole) where
      -- the distance from one base to the other is below the first count, or the other way round
      pub common_distance : a ≤ whole → Common a n b n' m ↔ (((b + whole - a) % m < n) ⊎ ((a + whole - b) % m < n'))
      common_distance la = (λ c. to (common_near a n b n' h c), λ d. near_common a n b n' some some' (from d))
        where
          to : Hit b a n m ⊎ Hit a b n' m → ((b + whole - a) % m < n) ⊎ ((a + whole - b) % m < n')
          to (inl r) = inl (hit_near b a n la r)
          to (inr r) = inr (hit_near a b n' lb r)

          from : ((b + whole - a) % m < n) ⊎ ((a + whole - b) % m < n') → Hit b a n m ⊎ Hit a b n' m
          from (inl l) = inl (near_hit b a n la l)
          from (inr l) = inr (near_hit a b n' lb l)

      -- one look for both: how far the last port of the first range lies past the second base
      pub common_look : Common a n b n' m ↔ ((a + n - 1 + whole - b) % m < n + n' - 1)
      common_look = (
        λ c. hit_near (a + n - 1) b (n + n' - 1) lb (common_reached a n b n' some some' c),
        λ l. reached_common a n b n' some some' h (near_hit (a + n - 1) b (n + n' - 1) lb l),
      )
