-- The initial values of variables of file scope have names within the numbers.
use Rattle.std.proofs.Common.{◌≡◌, ℕ, suc, ◌+◌, ◌≤◌, ◌<◌, List, [], ◌∷◌, length, refl, ap, arith}
use Rattle.std.specs.List.{AllByRecursion}
use Rattle.step_meaning.specs.declared.value.CType.{CType, end_of-CType, more_of-CType}
use Rattle.step_meaning.specs.declared.value.CType.TheVariants as type
use Rattle.step_meaning.specs.declared.value.Value.{Value}
use Rattle.step_meaning.specs.declared.value.Value.TheVariants as value
use Rattle.step_meaning.specs.declared.value.Name.{Name}
use Rattle.step_meaning.specs.declared.value.NameKind.TheVariants as names
use Rattle.step_meaning.specs.declared.program.Declared.{Declared}
use Rattle.step_meaning.specs.declared.program.Core.{Core}
use Rattle.step_meaning.specs.Types.{object_cells}
use Rattle.step_meaning.specs.Memory.{Block, empty_block, filled}
use Rattle.step_meaning.specs.Runs.{global_blocks}
use Rattle.step_meaning.specs.InitialValues.{IsInitialValue, AreInitialValues, AllInitialised}
use Rattle.run_memory.specs.Numbering.{IsNumbered}
use Rattle.run_memory.specs.Cells.{ValueIsNumbered}
use Rattle.run_memory.specs.Storage.{AreInitial, IsBlockSized}
use Rattle.run_memory.proofs.SizedTypes.{all_sized}
use Rattle.run_turns.specs.Values.{BlockHas, BlocksHave}
use Rattle.run_turns.proofs.ValuesHeld.{IgnoresOffsets, unset_has}
use Rattle.step_meaning.specs.WellFormed.{IsWellFormed}

numbers : IgnoresOffsets ValueIsNumbered
numbers = record { integers = λ z. tt; null = tt; offsets = λ n o i h. h }

module _ (q : Core) where
  numbered_at : (i : ℕ) (n : Name) → n.kind ≡ names.Global → n.activation ≡ 0 → n.index ≤ i → i < 4194304 → IsNumbered n.kind n.activation n.index
  numbered_at i n k a j h = record { in_memory = rw k (omega arith); activation_fits = rw a (omega arith); index_fits = omega arith }

  value_numbered : (i : ℕ) (t : CType) (v : Value) → i < 4194304 → IsInitialValue q i t v → ValueIsNumbered v
  value_numbered i (type.Int k) (value.Int z) h e = tt
  value_numbered i (type.Pointer' p t) value.Null h e = tt
  value_numbered i (type.Pointer' p (more_of-CType t end_of-CType)) (value.Pointer n o) h e = numbered_at i n e.file_scope e.no_activation e.no_later h
  value_numbered i t v h e = absurd e

  values_numbered : (i : ℕ) (ts : List CType) (vs : List Value) → i < 4194304 → AreInitialValues q i ts vs → AllByRecursion ValueIsNumbered vs
  values_numbered i [] [] h e = tt
  values_numbered i (t ∷ ts) (v ∷ vs) h e = (value_numbered i t v h e.0, values_numbered i ts vs h e.1)
  values_numbered i [] (v ∷ vs) h e = absurd e
  values_numbered i (t ∷ ts) [] h e = absurd e

  values_length : (i : ℕ) (ts : List CType) (vs : List Value) → AreInitialValues q i ts vs → length vs ≡ length ts
  values_length i [] [] e = refl
  values_length i (t ∷ ts) (v ∷ vs) e = ap suc (values_length i ts vs e.1)
  values_length i [] (v ∷ vs) e = absurd e
  values_length i (t ∷ ts) [] e = absurd e

  all_initial : (i : ℕ) (ds : List Declared) (vss : List (List Value)) → i + length ds ≤ 4194304 → AllByRecursion (λ d. IsBlockSized q.layouts d.ctype) ds → AllInitialised q i ds vss → AllByRecursion AreInitial vss
  all_initial i [] [] n h e = tt
  all_initial i (d ∷ ds) (vs ∷ vss) n h e =
      let l = values_length i (object_cells q.layouts d.ctype) vs e.0 in
      let f = h.0.few in
      (record { few = omega (arith, l, f); numbered = values_numbered i (object_cells q.layouts d.ctype) vs (omega arith) e.0 }, all_initial (suc i) ds vss (omega arith) h.1 e.1)
  all_initial i [] (vs ∷ vss) n h e = absurd e
  all_initial i (d ∷ ds) [] n h e = absurd e

  filled_has : (b : Block) (vs : List Value) → BlockHas ValueIsNumbered b → AllByRecursion ValueIsNumbered vs → BlockHas ValueIsNumbered (filled b vs)
  filled_has [] vs h e = tt
  filled_has (s ∷ b) [] h e = h
  filled_has (s ∷ b) (v ∷ vs) h e = (e.0, filled_has b vs h.1 e.1)

  pub globals_have : (ds : List Declared) (vss : List (List Value)) → AllByRecursion AreInitial vss → BlocksHave ValueIsNumbered (global_blocks q.layouts ds vss)
  globals_have [] vss e = tt
  globals_have (d ∷ ds) [] e = (unset_has ValueIsNumbered numbers (object_cells q.layouts d.ctype), globals_have ds [] tt)
  globals_have (d ∷ ds) (vs ∷ vss) e = (filled_has (empty_block q.layouts d) vs (unset_has ValueIsNumbered numbers (object_cells q.layouts d.ctype)) e.0.numbered, globals_have ds vss e.1)

pub initial_of : (q : Core) → IsWellFormed q → length q.globals ≤ 1048576 → AllByRecursion AreInitial q.initial
initial_of q h n = all_initial q 0 q.globals q.initial (omega arith) (all_sized q.layouts h.structs q.globals h.globals) h.initial
