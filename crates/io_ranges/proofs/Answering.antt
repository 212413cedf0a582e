-- A card answers at a port of a stretch exactly if its ports meet the stretch, all of whose lines count; and one that decodes all lines answers at its
-- own ports alone. Assumes nothing.
use Rattle.facts.proofs.Words.{◌≡◌, sym, subst, ◌∙◌, ℕ, ◌+◌, ◌%◌, ◌^◌, ◌≤◌, ◌<◌, min, mod-eq_of_lt, arith}
use Rattle.facts.specs.declared.Ports.{Ports}
use Rattle.facts.specs.{all_ports, most_lines, Within, Meet, Answers}

module _ (a : Ports) (l : a.lines ≤ most_lines) (base count : ℕ) where
  abbrev stretch : Ports
  stretch = record { base = base; count = count; lines = most_lines }

  -- the card's own lines decide
  own_lines : min a.lines most_lines ≡ a.lines
  own_lines = omega (arith, l)

  pub answers_meet : (p : ℕ) → Answers a p → Within p base count → Meet a stretch
  answers_meet p x w =
      record {
        one = x.own;
        other = p;
        one_in = x.own_in;
        other_in = w;
        equal = subst (λ (k : ℕ). x.own % 2 ^ k ≡ p % 2 ^ k) (sym own_lines) (sym x.equal);
      }

  pub meet_answers : base + count ≤ all_ports → Meet a stretch → (p : ℕ) × Within p base count × Answers a p
  meet_answers h m = (
    m.other,
    m.other_in,
    record {
      below = omega (arith, m.other_in.below);
      own = m.one;
      own_in = m.one_in;
      equal = subst (λ (k : ℕ). m.other % 2 ^ k ≡ m.one % 2 ^ k) own_lines (sym m.equal);
    },
  )

-- ports that are equal modulo all lines are the same
pub answers_own : (a : Ports) → a.lines ≡ most_lines → (p : ℕ) (x : Answers a p) → x.own < all_ports → p ≡ x.own
answers_own a e p x l =
    let same : p % 2 ^ most_lines ≡ x.own % 2 ^ most_lines = subst (λ (k : ℕ). p % 2 ^ k ≡ x.own % 2 ^ k) e x.equal in
    sym (mod-eq_of_lt x.below) ∙ same ∙ mod-eq_of_lt l
