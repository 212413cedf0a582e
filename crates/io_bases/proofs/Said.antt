-- What the bytes say of the ports at a named base: whether they are managed, and what is in their way. Assumes nothing.
use Rattle.std.specs.Prelude.{◌&&◌, ◌||◌}
use Rattle.facts.proofs.Words.{◌≡◌, refl, sym, ◌∙◌, subst, ◌⊎◌, inl, inr, ⊎_elim, List, Bool, true, false, not, none, some, some-injective}
use Rattle.facts.proofs.Words.{none-ne-some, ℕ, ◌+◌, ◌<◌, dec_lt, arith, false≢true, Says}
use Rattle.layout.proofs.Of
use Rattle.facts.specs.{Facts, IoAsked, HeldPorts, Within, Meet, ports_at, NotAllManaged, BothShare, InTheWay, all_ports, most_seats}
use Rattle.facts.proofs.{says_true, says_false, says_as, told, own_answers}
use Rattle.layout.specs.{Accepted, facts_in}
use Rattle.table_read.proofs.Some.{Some}
use Rattle.io_answering.specs.{AllManagedIn}
use Rattle.io_bases.specs.{StandsAt}

-- whether the ports that are named are managed, and wherever their card answers
module _ (b : List ℕ) (q : IoAsked) (a : Accepted b) (within : all_ports < q.base + q.count → ⊥) where
  -- the own ports are among those where the card answers
  pub unmanaged : (AllManagedIn b (ports_at q q.base) → ⊥) → NotAllManaged a.facts q
  unmanaged n =
      inr (inr (λ f.
      n
      (record {
        own = λ p w. Of.said_managed b a p (f p (own_answers (ports_at q q.base) p (low p w) w));
        answers = λ p y. Of.said_managed b a p (f p y);
      })))
    where
      low : (p : ℕ) → Within p q.base q.count → p < all_ports
      low p w = told (dec_lt p all_ports) (λ d. within (omega (arith, w.below)))

  pub all_managed : AllManagedIn b (ports_at q q.base) → NotAllManaged a.facts q → ⊥
  all_managed f =
      ⊎_elim within (⊎_elim (λ n. n (λ p w. Of.managed_said b a p (f.own p w))) (λ n. n (λ p y. Of.managed_said b a p (f.answers p y))))

-- one says First Shared, or not both say Shared
alone_says : (f a b : Bool) → Says (f || not (a && b)) ((f ≡ true) ⊎ ((a ≡ true) × (b ≡ true) → ⊥))
alone_says true a b = says_true (inl refl)
alone_says false true true = says_false (⊎_elim false≢true (λ n. n (refl, refl)))
alone_says false true false = says_true (inr (λ x. false≢true x.1))
alone_says false false b = says_true (inr (λ x. false≢true x.0))

-- what is held at a seat
module _ (F : Facts) (q : IoAsked) (s : ℕ) where
  pub none_stands : F.io s ≡ none → StandsAt F q s → ⊥
  none_stands e x = none-ne-some x.range (sym e ∙ x.held)

  module _ (y : HeldPorts) (held : F.io s ≡ some y) where
    same : (x : StandsAt F q s) → x.range ≡ y
    same x = some-injective x.range y (sym x.held ∙ held)

    pub meets_stands : StandsAt F q s → Meet (ports_at q q.base) y.ports
    meets_stands x = subst (λ (z : HeldPorts). Meet (ports_at q q.base) z.ports) (same x) x.meets

    -- it is met: then it is in the way, or both share
    module _ (met : Meet (ports_at q q.base) y.ports) where
      pub apart_says : Says (q.first || not (q.shared && y.shared)) (StandsAt F q s)
      apart_says =
          says_as (alone_says q.first q.shared y.shared) (λ u. record { range = y; held = held; meets = met; unshared = u })
          (λ x. subst (λ (z : HeldPorts). (q.first ≡ true) ⊎ (BothShare q z → ⊥)) (same x) x.unshared)

-- a live grant is in the way exactly if what is held at some seat is
module _ (b : List ℕ) (q : IoAsked) (a : Accepted b) where
  said : a.facts ≡ facts_in b
  said = Of.facts_in_lem b a

  pub way-said : (s : ℕ) → StandsAt (facts_in b) q s → InTheWay a.facts q
  way-said s x =
      let y = subst (λ (F : Facts). StandsAt F q s) (sym said) x in
      record { seat = s; range = y.range; held = y.held; meets = y.meets; unshared = y.unshared }

  pub said_way : InTheWay a.facts q → Some most_seats (StandsAt (facts_in b) q)
  said_way w =
      let f = a.formed.ios w.seat w.range w.held in (
        w.seat,
        omega (arith, f.socket, a.formed.sockets_most),
        subst (λ (F : Facts). StandsAt F q w.seat) said
            (record { range = w.range; held = w.held; meets = w.meets; unshared = w.unshared }),
      )
