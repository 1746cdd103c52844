-- The chunks of variables.
use Rattle.std.proofs.Common.{◌≡◌, ℕ, suc, ◌+◌, ◌≤◌, true, List, [], ◌∷◌, length, refl, arith}
use Rattle.std.specs.List.{list_all}
use Rattle.std.proofs.lemmas.List.Sums.{sum_by-cons}
use Rattle.step_meaning.specs.declared.value.CType.{CType}
use Rattle.step_meaning.specs.declared.value.CType.TheVariants as type
use Rattle.step_meaning.specs.declared.program.Declared.{Declared}
use Rattle.step_meaning.specs.declared.program.Layout.{Layout}
use Rattle.step_meaning.specs.Types.{object_cells}
use Rattle.step_meaning.specs.TypeRules.{is_scalar_type}
use Rattle.step_meaning.specs.Limits.{chunks_for}
use Rattle.step_meaning.proofs.Ranges.{left_of_and, right_of_and, false_is_not_true}
use Rattle.run_memory.specs.Storage.{variables_chunks}

scalar_chunks : (layouts : List Layout) (t : CType) → is_scalar_type layouts t ≡ true → chunks_for (length (object_cells layouts t)) ≡ 1
scalar_chunks layouts (type.Int k) e = refl
scalar_chunks layouts (type.Pointer' b t) e = refl
scalar_chunks layouts type.Void e = false_is_not_true e
scalar_chunks layouts (type.Array' b t n) e = false_is_not_true e
scalar_chunks layouts (type.Struct n) e = false_is_not_true e

one_more : (t a b n : ℕ) → t ≡ a + b → a ≡ 1 → b ≡ n → t ≡ suc n
one_more t a b n h k l = omega arith

pub scalars_chunks : (layouts : List Layout) (ds : List Declared) → list_all (λ d. is_scalar_type layouts d.ctype) ds ≡ true → variables_chunks layouts ds ≡ length ds
scalars_chunks layouts [] e = refl
scalars_chunks layouts (d ∷ ds) e =
    one_more _ _ _ _ (sum_by-cons (λ (d : Declared). chunks_for (length (object_cells layouts d.ctype))) d ds) (scalar_chunks layouts d.ctype (left_of_and _ _ e)) (scalars_chunks layouts ds (right_of_and _ _ e))

some_more : (t a b n : ℕ) → t ≡ a + b → 1 ≤ a → n ≤ b → suc n ≤ t
some_more t a b n h k l = omega arith

some_chunk : (n : ℕ) → 1 ≤ chunks_for n
some_chunk n = omega arith

-- each variable has a chunk or more
pub no_more_globals : (layouts : List Layout) (ds : List Declared) → length ds ≤ variables_chunks layouts ds
no_more_globals layouts [] = omega arith
no_more_globals layouts (d ∷ ds) =
    some_more _ _ _ _ (sum_by-cons (λ (d : Declared). chunks_for (length (object_cells layouts d.ctype))) d ds) (some_chunk (length (object_cells layouts d.ctype))) (no_more_globals layouts ds)
