-- Meeting and going together don't depend on the order of the two. Assumes nothing.
use Rattle.facts.proofs.Words.{◌≡◌, sym, ◌∙◌, subst, ℕ, ◌%◌, ◌^◌, min_comm}
use Rattle.facts.specs.declared.Ports.{Ports}
use Rattle.facts.specs.{Manner, Meet, Together}

pub meet_symmetric : (a b : Ports) → Meet a b → Meet b a
meet_symmetric a b m =
    record {
      one = m.other;
      other = m.one;
      one_in = m.other_in;
      other_in = m.one_in;
      equal = subst (λ (k : ℕ). m.other % 2 ^ k ≡ m.one % 2 ^ k) (min_comm a.lines b.lines) (sym m.equal);
    }

pub together_symmetric : (a b : Manner) → Together a b → Together b a
together_symmetric a b t = record { equal = sym t.equal; shares = λ e. t.shares (t.equal ∙ e) }
