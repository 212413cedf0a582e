-- The words of the libraries that proofs use, and three definitions that have the name of a file: this file only passes them on. Assumes nothing.
pub use Prim.Native.Nat.{◌%◌, ◌*◌, ◌+◌, ◌-◌, ◌/◌, ◌<◌, ◌^◌, ◌≤◌, max, min, suc, zero, zero-le, ℕ}
pub use borrow.Author.Rules.{rules}
pub use borrow.Author.Tests.{eq-eqb, eqb-false, eqb-true, le-ltb, leb-false, leb-true, lt-ltb, ltb-false, ltb-true, ne_eqb, not-false, not-true}
pub use lib.Arith.{bin_ind}
pub use lib.Bits.{and_block, and_high, and_le_l, and_le_r, and_mask, and_shr, and_step, bit_and, bit_or, or_add_and, or_shr, or_step, shifted_even}
pub use lib.Count.{under}
unfoldable pub use lib.Count.{count_trailing_zeros}
pub use lib.Dec.{T, eqb, eqb→eq, leb, lit<, ltb, ltb→lt, nltb→le}
pub use lib.ListN.{get_or-append, get_or-eq_default, drop, drop_of_length-le, get_or, get_or-replicate, get_elem?, length, length-append}
pub use lib.ListN.{length-drop, length-replicate, length-set, replicate, set, take, take-append-drop}
pub use lib.Pow.{field, high, mod-mod-pow, ones_lt, ones_split, pow-add, pow-lt, pow_mono, pow_pos, shl_exact, shl-shr, shr-shr}
pub use lib.Seq.{drop_at, drop-cons, drop-drop, ext_get_or, get_or-append-add, get_or-append_seam, get_or-drop, get_or-set_other, get_or-set_same}
pub use lib.Seq.{length-take-le, take-suc-set}
pub use mathlib.Core.Bool.{Bool, cond, false, false≢true, not, true, true≢false}
pub use mathlib.Core.List.{List, [], ◌++◌, ◌∷◌, append_assoc, head-eq_of_cons-eq, map, nil≢cons, tail-eq_of_cons-eq}
pub use mathlib.Core.Logic.Dec.{of_iff as dec_of_iff}
pub use mathlib.Core.Logic.Iff.{rfl as iff_rfl}
pub use mathlib.Core.Logic.{◌↔◌, ◌≢◌, ◌⊎◌, by_cases, inl, inr, ⊎_elim}
pub use mathlib.Core.Option.{Option, none-ne-some, some-injective, some-ne-none, none, some}
pub use mathlib.Core.Path.{◌∙◌, ◌≡◌, ap, ap₂, fun_ext, refl, subst, subst⁻¹, subst₂, sym}
pub use mir.Val.{bool_byte}
pub use native.Mathlib.Decide.{dec_le, dec_lt, ℕ_discrete}
pub use native.Mathlib.Nat.{add_assoc, add_comm, add-mod-mod, add-mul, add-mul-mod_self_right, add-suc, add-zero, div-add-mod', div-div-eq-div-mul}
pub use native.Mathlib.Nat.{div-eq_of_lt, div-mul-le_self, div-one, eq-or-lt_of_le, le-mul_of_pos_right, le_of_suc-le-suc, le_refl, lt-div-mul-add}
pub use native.Mathlib.Nat.{lt_of_mul-lt-mul_right, min_comm, min-eq_left, min-eq_right, mod-add-mod, mod-eq_of_lt, mod-le, mod-lt, mul_assoc}
pub use native.Mathlib.Nat.{mul-le-mul_right, mul-mod_left, not-suc-le-zero, one-mul, pow-le-pow_right, pow-suc, pow-succ', suc-add, suc-mul}
pub use native.Mathlib.Nat.{two-pow-succ, zero-add, zero-div, zero-mul}
pub use native.Mathlib.Numerals.{add-one}
pub use native.Mathlib.Omega.{arith}
pub use Rattle.facts.specs.Says.{Says}
pub use Rattle.facts.specs.declared.Ports.{Ports}
pub use Rattle.facts.specs.WellFormed.{WellFormed}
