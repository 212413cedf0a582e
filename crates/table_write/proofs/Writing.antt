-- A fresh table's bytes. Assumes nothing.
use Rattle.facts.proofs.Words.{◌≡◌, ap, sym, ◌∙◌, List, ℕ, arith, length, set, replicate, length-set, length-replicate, get_or-replicate}
use Rattle.facts.specs.{fresh, byte}
use Rattle.layout.specs.{image, layout_mark, table_size}
use Rattle.layout.proofs.{shows_image, fresh_shown, byte_same, byte_other}

-- zeros with the layout's mark and a socket count are a fresh table
pub fresh_image : (b : List ℕ) (n size : ℕ) → size ≡ table_size → b ≡ replicate size 0 → set (set b 0 layout_mark) 1 n ≡ image (fresh n)
fresh_image b n size e z =
    let long : length b ≡ table_size = ap length z ∙ length-replicate size 0 ∙ e in
    let marked = set b 0 layout_mark in
    let size-marked = length-set b 0 layout_mark ∙ long in
    sym
    (shows_image (fresh n) (set marked 1 n) (omega arith)
    (fresh_shown n (set marked 1 n) (length-set marked 1 n ∙ size-marked) (byte_other marked 1 n 0 (omega arith) ∙ byte_same b 0 layout_mark (omega arith))
    (byte_same marked 1 n (omega arith))
    (λ p l m. byte_other marked 1 n p (omega arith) ∙ byte_other b 0 layout_mark p (omega arith) ∙ ap (λ (s : List ℕ). byte s p) z
    ∙ get_or-replicate size p 0 0 (omega arith))))
