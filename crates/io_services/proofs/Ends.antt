-- Each way in which RequestIO and ReleaseIO end is the rule's. Assumes nothing.
use Rattle.facts.proofs.Words.{◌≡◌, refl, sym, ◌∙◌, inl, inr, ◌≢◌, List, [], ◌∷◌, none, some, none-ne-some, ℕ, ◌≤◌, ◌<◌, dec_le, arith}
use Rattle.layout.proofs.Of
use Rattle.facts.specs.{Code, Success, BadAttribute, BadBase, BadSize, InUse, Facts, with_word, ◌gives◌, FirstGiven, Passed, Leaves}
use Rattle.facts.specs.{socket_of, request_io_length, release_io_length, base_asked_lem, count_asked_lem, lines_asked_lem, second_count, with_io, io_grant, GrantsIo, IoHeld}
use Rattle.facts.specs.{IoAttributesBad, IoSizeBad, BaseTaken, own_io_checks, base_checks, RequestIo, ReleaseIo, most_lines, io_asked}
use Rattle.layout.specs.{io_in, Accepted, IoUsed, ServedBy, io_entered, facts_in}
use Rattle.layout.proofs.{granted_image, released_image, left}
use Rattle.service_checks.specs.{BegunAt}
use Rattle.service_checks.specs.declared.CardNeed.{CardNeed}
use Rattle.service_checks.specs.declared.CardNeed.TheVariants.{Needed, Ignored}
use Rattle.service_checks.proofs.{seat_named, in_seats, Service, refused_own, done_own}
use Rattle.io_services.specs.{asked_entered}

-- the two services
abbrev pub requesting : Service
requesting = record { need = Needed; bytes = request_io_length; own = λ F h p. own_io_checks F p (base_checks F (io_asked p)); done = GrantsIo }

abbrev pub releasing : Service
releasing =
    record {
      need = Ignored;
      bytes = release_io_length;
      own = λ F h p. ((second_count p ≢ 0) gives BadSize) ∷ ((IoHeld F h (socket_of p) (base_asked_lem p) (count_asked_lem p) → ⊥) gives BadBase) ∷ [];
      done = λ F h p. Leaves h p (with_io F (socket_of p) none);
    }

-- lines and count that no check refuses
pub lines_good : (p : List ℕ) → (IoAttributesBad p → ⊥) → lines_asked_lem p ≤ most_lines
lines_good p good = within_or_not (dec_le (lines_asked_lem p) most_lines)
  where
    within_or_not : Dec (lines_asked_lem p ≤ most_lines) → lines_asked_lem p ≤ most_lines
    within_or_not (yes l) = l
    within_or_not (no l) = absurd (good (inr (inr (inr (omega arith)))))

pub count_good : (p : List ℕ) → (IoSizeBad p → ⊥) → 1 ≤ count_asked_lem p
count_good p good = within_or_not (dec_le 1 (count_asked_lem p))
  where
    within_or_not : Dec (1 ≤ count_asked_lem p) → 1 ≤ count_asked_lem p
    within_or_not (yes l) = l
    within_or_not (no l) = absurd (good (inl (omega arith)))

-- the service has begun: the seat's grant
module _ {b p : List ℕ} {n h i s : ℕ} {need : CardNeed} (a : Accepted b) (begun : BegunAt b p n h need i s) where
  free : (IoUsed b s → ⊥) → a.facts.io (socket_of p) ≡ none
  free d = rw (← seat_named a begun) (Of.no_io_said b a s (in_seats a begun) d)

  grant-is : IoUsed b s → a.facts.io (socket_of p) ≡ some (io_in b s)
  grant-is u = rw (← seat_named a begun) (Of.io_said b a s (in_seats a begun) u)

  used : a.facts.io (socket_of p) ≡ none → IoUsed b s → ⊥
  used e u = none-ne-some (io_in b s) (sym e ∙ grant-is u)

  -- what the bytes say this client holds there, the facts say it does
  held : {base count : ℕ} → IoHeld (facts_in b) h s base count → IoHeld a.facts h (socket_of p) base count
  held x = rw (Of.facts_in_lem b a, ← seat_named a begun) x

  says : {base count : ℕ} → IoHeld a.facts h (socket_of p) base count → IoHeld (facts_in b) h s base count
  says x = rw (Of.facts_in_lem b a, ← seat_named a begun) at x

module _ {b p : List ℕ} {h i s : ℕ} (a : Accepted b) (begun : BegunAt b p request_io_length h Needed i s) where
  abbrev Requested : List ℕ → List ℕ → Code → ℕ → Type 0
  Requested b' p' k handle = ServedBy (λ (F : Facts). RequestIo F h p) b b' p' k handle

  pub request_attributes : IoAttributesBad p → Requested b p BadAttribute 0
  request_attributes x = refused_own requesting a begun BadAttribute (inl (x, refl))

  module _ (attributes : IoAttributesBad p → ⊥) where
    pub request-sizes : IoSizeBad p → Requested b p BadSize 0
    request-sizes x = refused_own requesting a begun BadSize (inr (attributes, inl (x, refl)))

    module _ (sizes : IoSizeBad p → ⊥) where
      pub request_held : IoUsed b s → Requested b p InUse 0
      request_held u = refused_own requesting a begun InUse (inr (attributes, inr (sizes, inl ((λ e. used a begun e u), refl))))

      module _ (unused : IoUsed b s → ⊥) where
        pub request-base : (k : Code) → FirstGiven (base_checks a.facts (io_asked p)) k → Requested b p k 0
        request-base k x = refused_own requesting a begun k (inr (attributes, inr (sizes, inr ((λ d. d (free a begun unused)), x))))

        -- a base is taken: its grant is entered, and the packet says it
        pub request_done : (x : ℕ) → Passed (base_checks a.facts (io_asked p)) × BaseTaken a.facts (io_asked p) x → h < 65536 → x < 65536
            → Requested (asked_entered b s h x (io_asked p)) (with_word p 2 x) Success h
        request_done x taken low based =
            let after = with_io a.facts (socket_of p) (some (io_grant h (io_asked p) x)) in
            done_own requesting a begun (asked_entered b s h x (io_asked p)) (with_word p 2 x) after
            (attributes, (sizes, ((λ d. d (free a begun unused)), taken.0)))
            (record { base = x; taken = taken.1; leaves = left h (with_word p 2 x) after })
            (rw (← seat_named a begun) (granted_image b a s (in_seats a begun) (io_grant h (io_asked p) x) low based))

module _ {b p : List ℕ} {h i s : ℕ} (a : Accepted b) (begun : BegunAt b p release_io_length h Ignored i s) where
  abbrev Released : List ℕ → Code → ℕ → Type 0
  Released b' k handle = ServedBy (λ (F : Facts). ReleaseIo F h p) b b' p k handle

  pub release_second : second_count p ≢ 0 → Released b BadSize 0
  release_second x = refused_own releasing a begun BadSize (inl (x, refl))

  module _ (absent : second_count p ≡ 0) where
    pub release_unheld : (IoHeld (facts_in b) h s (base_asked_lem p) (count_asked_lem p) → ⊥) → Released b BadBase 0
    release_unheld d =
        refused_own releasing a begun BadBase (inr ((λ x. x absent), inl ((λ x. d (says a begun x)), refl)))

    pub release_done : IoHeld (facts_in b) h s (base_asked_lem p) (count_asked_lem p) → Released (io_entered b s 0 0 0 0 0) Success h
    release_done x =
        let after = with_io a.facts (socket_of p) none in
        done_own releasing a begun (io_entered b s 0 0 0 0 0) p after
        ((λ y. y absent), ((λ y. y (held a begun x)), tt)) (left h p after)
        (rw (← seat_named a begun) (released_image b a s (in_seats a begun)))
