-- A table for so many clients, with zeros put after it, is the table for more clients that says the same. Assumes nothing.
use Rattle.facts.proofs.Words.{◌≡◌, ap, sym, ◌∙◌, by_cases, List, [], ◌∷◌, ◌++◌, Option, ℕ, ◌+◌, ◌*◌, ◌≤◌, dec_lt, arith, length, get_or, get_elem?}
use Rattle.facts.proofs.Words.{replicate, length-append, length-replicate, get_or-eq_default}
use Rattle.facts.specs.{Facts, Client, byte}
use Rattle.layout.specs.{image_of, masks_bytes, cards_at, masks_at, masks_size, rest_at}
use Rattle.layout.proofs.Parts.{zeros, zeros_after}
use Rattle.layout.proofs.Lists.{at_past}
use Rattle.layout.proofs.Image.{Part, part, first_parts, mask_part, end, ends, Stands, Shown}
use Rattle.layout.proofs.Shows.{Shows, image_shows, shows_image, masks_are, rest_is}

module _ (F : Facts) (n m size more : ℕ) (few : length F.clients ≤ n) (up : n ≤ m) (room : rest_at n ≤ size) (fits : rest_at m ≤ size + more) where
  abbrev small : List ℕ
  small = image_of n size F

  abbrev large : List ℕ
  large = small ++ replicate more 0

  w : Shows n size F small
  w = image_shows n size F room

  same : (q : ℕ) → byte large q ≡ byte small q
  same = zeros_after small more

  past : (q : ℕ) → rest_at n ≤ q → byte small q ≡ 0
  past q l = by_cases (dec_lt q size) (rest_is w q l) (λ h. get_or-eq_default small 0 (omega (arith, w.size)))

  -- parts before the last one stand there as they stood
  firsts : (at : ℕ) (ps : List Part) (p p' : Part) → Shown size small at (ps ++ (p ∷ [])) → Shown (size + more) large (ends at ps) (p' ∷ [])
      → Shown (size + more) large at (ps ++ (p' ∷ []))
  firsts at [] p p' s t = t
  firsts at (q ∷ ps) p p' s t = ((λ i l j h. same (at + i * q.size + j) ∙ s.0 i l j h), firsts (end at q) ps p p' s.1 t)

  -- the places of further clients say none
  masks : Stands large masks_at (part m masks_size (λ i. masks_bytes (get_elem? F.clients i)))
  masks i l j h =
      let q = masks_at + i * masks_size + j in
      same q
      ∙ by_cases (dec_lt i n) (λ x. masks_are w i x j h)
      (λ x. past q (omega arith)
      ∙ sym (ap (λ (o : Option Client). get_or (masks_bytes o) j 0) (at_past F.clients i (omega arith)) ∙ zeros masks_size j))

  pub image_grows : image_of m (size + more) F ≡ image_of n size F ++ replicate more 0
  image_grows =
      shows_image F large fits
      (record {
        size = length-append small (replicate more 0) ∙ omega (arith, w.size, length-replicate {A = ℕ} more 0);
        heads = λ j l. same j ∙ w.heads j l;
        shown = firsts cards_at (first_parts F) (mask_part n F) (mask_part m F) w.shown (masks, λ q l h. same q ∙ past q (omega arith));
      })
