-- What a view answers of cells, arguments and results gives the values that the meaning has.
use Rattle.std.proofs.Common.{◌≡◌, ℕ, zero, suc, ◌<◌, ◌^◌, List, [], ◌∷◌, Option, Some, None, refl, ap, ◌∙◌, arith}
use Rattle.std.specs.Prelude.{ℤ, pos, negsuc, ◌≤ℤ◌, ◌<ℤ◌, slice_get, option_map, cond}
use Rattle.std.proofs.lemmas.Int.{ints}
use Rattle.std.proofs.lemmas.Bool.{lt-ltb, le-ltb}
use Rattle.step_meaning.specs.declared.value.CType.{CType}
use Rattle.step_meaning.specs.declared.value.Name.{Name}
use Rattle.step_meaning.specs.declared.value.Value.{Value}
use Rattle.step_meaning.specs.declared.value.Value.TheVariants as value
use Rattle.step_meaning.specs.declared.value.Cell.{Cell}
use Rattle.step_meaning.specs.declared.value.Cell.TheVariants.{Nothing, Holds}
use Rattle.step_meaning.specs.Views.{Reads, or_nothing, nth_cell, cell_of}
use Rattle.step_meaning.specs.Terms.{PointerInto, value_in_cell, read_at, scalar_value, term_value}
use Rattle.acsl_values.specs.Seen.{value_in}

pub value_of_answer : (o : Option Cell) → value_in_cell o ≡ value_in (or_nothing o)
value_of_answer None = refl
value_of_answer (Some Nothing) = refl
value_of_answer (Some (Holds v)) = refl

pub argument_of_answer : (vs : List Value) (i : ℕ) → option_map term_value (slice_get vs i) ≡ value_in (nth_cell vs i)
argument_of_answer [] i = refl
argument_of_answer (v ∷ vs) zero = refl
argument_of_answer (v ∷ vs) (suc i) = argument_of_answer vs i

pub result_of_answer : (o : Option Value) → option_map term_value o ≡ value_in (cell_of o)
result_of_answer None = refl
result_of_answer (Some v) = refl

pub read_inside : (reads : Reads) (u : CType) (n : Name) (z : ℤ) (o : ℕ) → z ≡ pos o → o < 2 ^ 32 → read_at reads u (PointerInto n z) ≡ value_in_cell (reads n o u)
read_inside reads u n z o e h = ap (λ w. read_at reads u (PointerInto n w)) e ∙ ap (λ b. cond b (value_in_cell (reads n o u)) None) (lt-ltb o (2 ^ 32) h)

pub read_below : (reads : Reads) (u : CType) (n : Name) (z : ℤ) → z <ℤ pos 0 → read_at reads u (PointerInto n z) ≡ None
read_below reads u n (pos o) h = absurd (omega (arith, ints))
read_below reads u n (negsuc o) h = refl

pub read_beyond : (reads : Reads) (u : CType) (n : Name) (z : ℤ) → pos (2 ^ 32) ≤ℤ z → read_at reads u (PointerInto n z) ≡ None
read_beyond reads u n (pos o) h = ap (λ b. cond b (value_in_cell (reads n o u)) None) (le-ltb o (2 ^ 32) (omega (arith, ints)))
read_beyond reads u n (negsuc o) h = refl

pub scalar_inside : (n : Name) (z : ℤ) (o : ℕ) → z ≡ pos o → o < 2 ^ 32 → scalar_value (PointerInto n z) ≡ Some (value.Pointer n o)
scalar_inside n z o e h = ap (λ w. scalar_value (PointerInto n w)) e ∙ ap (λ b. cond b (Some (value.Pointer n o)) None) (lt-ltb o (2 ^ 32) h)

pub scalar_below : (n : Name) (z : ℤ) → z <ℤ pos 0 → scalar_value (PointerInto n z) ≡ None
scalar_below n (pos o) h = absurd (omega (arith, ints))
scalar_below n (negsuc o) h = refl

pub scalar_beyond : (n : Name) (z : ℤ) → pos (2 ^ 32) ≤ℤ z → scalar_value (PointerInto n z) ≡ None
scalar_beyond n (pos o) h = ap (λ b. cond b (Some (value.Pointer n o)) None) (le-ltb o (2 ^ 32) (omega (arith, ints)))
scalar_beyond n (negsuc o) h = refl
