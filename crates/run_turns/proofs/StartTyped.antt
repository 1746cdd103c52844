-- A machine is typed before its first step.
use Rattle.std.proofs.Common.{◌≡◌, ℕ, zero, suc, ◌<◌, ◌^◌, true, List, [], ◌∷◌, length, map, take, Option, Some, None, refl, sym, ap, subst, ◌∙◌, arith}
use Rattle.std.specs.Prelude.{◌==◌, slice_get, option_map, IsTrue}
use Rattle.std.specs.List.{list_all}
use Rattle.std.proofs.lemmas.Bool.{eqb-true}
use Rattle.step_meaning.specs.declared.value.CType.{CType, end_of-CType, more_of-CType}
use Rattle.step_meaning.specs.declared.value.CType.TheVariants as type
use Rattle.step_meaning.specs.declared.value.Value.{Value}
use Rattle.step_meaning.specs.declared.value.Value.TheVariants as value
use Rattle.step_meaning.specs.declared.value.Cell.TheVariants.{Nothing}
use Rattle.step_meaning.specs.declared.program.Declared.{Declared}
use Rattle.step_meaning.specs.declared.program.Function.{Function}
use Rattle.step_meaning.specs.declared.program.Core.{Core}
use Rattle.step_meaning.specs.Types.{same_type, object_cells}
use Rattle.step_meaning.specs.Memory.{Slot, empty_block, filled}
use Rattle.step_meaning.specs.Runs.{global_blocks, start_memory}
use Rattle.step_meaning.specs.TypeRules.{cells, keeps_rules}
use Rattle.step_meaning.specs.ExpressionTypes.{has_body, parameter_types}
use Rattle.step_meaning.specs.InitialValues.{BeginsAt, IsInitialValue, AreInitialValues, AllInitialised}
use Rattle.step_meaning.specs.WellFormed.{IsWellFormed, int, is_main}
use Rattle.step_meaning.specs.Traced.{SlotTyped, is_program_kind}
use Rattle.step_meaning.specs.TracedRuns.{cells_declared}
use Rattle.step_meaning.proofs.Ranges.{false_is_not_true, left_of_and, right_of_and}
use Rattle.step_meaning.proofs.TypedMemory.{Each, WhereSome, InCell, has_same_type, number_same, BlockFits, filled_declared, MemoryFits}
use Rattle.step_meaning.proofs.StepsFit.{InCells, global_cells}
use Rattle.step_meaning.proofs.TypedOperators.{OfType}
use Rattle.step_meaning.proofs.TypedSizes.{sizes_fit}
use Rattle.run_turns.specs.Turns.{start}
use Rattle.run_turns.specs.Typed.{IsTyped}

module _ (q : Core) (h : IsWellFormed q) where
  global_type : (i : ℕ) → WhereSome (λ t. keeps_rules q.layouts t ≡ true) (option_map (λ d. d.ctype) (slice_get q.globals i))
  global_type i = by q.globals i h.globals
    where
      by : (ds : List Declared) (i : ℕ) → list_all (λ d. keeps_rules q.layouts d.ctype) ds ≡ true → WhereSome (λ t. keeps_rules q.layouts t ≡ true) (option_map (λ d. d.ctype) (slice_get ds i))
      by [] i e = tt
      by (d ∷ ds) zero e = left_of_and _ _ e
      by (d ∷ ds) (suc i) e = by ds i (right_of_and _ _ e)

  offset_fits : (d : Option Declared) (o : ℕ) (t : CType) → WhereSome (λ t. keeps_rules q.layouts t ≡ true) (option_map (λ d. d.ctype) d) → BeginsAt q d o t → o < 2 ^ 32
  offset_fits None o t k p = absurd p
  offset_fits (Some d) o t k p = let l : o < cells q.layouts d.ctype = p.0 in let m : cells q.layouts d.ctype < 2 ^ 32 = sizes_fit q.layouts h.structs d.ctype k in omega arith

  initial_fits : (i : ℕ) (t : CType) (v : Value) → IsInitialValue q i t v → InCell t v
  initial_fits i (type.Int k) (value.Int z) e = (e, tt)
  initial_fits i (type.Pointer' p t) value.Null e = (tt, tt)
  initial_fits i (type.Pointer' p (more_of-CType t end_of-CType)) (value.Pointer n o) e = (offset_fits (slice_get q.globals n.index) o t (global_type n.index) e.part, subst (λ k. IsTrue (is_program_kind k)) (sym e.file_scope) refl)
  initial_fits i t v e = absurd e

  filled_fits : (i : ℕ) (ts : List CType) (vs : List Value) → AreInitialValues q i ts vs → Each SlotTyped (filled (map (λ t. record { declared = t; cell = Nothing }) ts) vs)
  filled_fits i [] [] e = tt
  filled_fits i (t ∷ ts) (v ∷ vs) e = (initial_fits i t v e.0, filled_fits i ts vs e.1)
  filled_fits i [] (v ∷ vs) e = absurd e
  filled_fits i (t ∷ ts) [] e = absurd e

  filled_length : (ts : List CType) (vs : List Value) → length (filled (map (λ t. record { declared = t; cell = Nothing }) ts) vs) ≡ length ts
  filled_length [] vs = refl
  filled_length (t ∷ ts) [] = ap suc (lengths ts)
    where
      lengths : (ts : List CType) → length (map {B = Slot} (λ t. record { declared = t; cell = Nothing }) ts) ≡ length ts
      lengths [] = refl
      lengths (t ∷ ts) = ap suc (lengths ts)
  filled_length (t ∷ ts) (v ∷ vs) = ap suc (filled_length ts vs)

  blocks_fit : (i : ℕ) (ds : List Declared) (vss : List (List Value)) → list_all (λ d. keeps_rules q.layouts d.ctype) ds ≡ true → AllInitialised q i ds vss → Each BlockFits (global_blocks q.layouts ds vss)
  blocks_fit i [] vss k e = tt
  blocks_fit i (d ∷ ds) [] k e = absurd e
  blocks_fit i (d ∷ ds) (vs ∷ vss) k e =
      ((filled_fits i (object_cells q.layouts d.ctype) vs e.0, rw (filled_length (object_cells q.layouts d.ctype) vs) (sizes_fit q.layouts h.structs d.ctype (left_of_and _ _ k))), blocks_fit (suc i) ds vss (right_of_and _ _ k) e.1)

  globals_declared : (ds : List Declared) (vss : List (List Value)) → map cells_declared (global_blocks q.layouts ds vss) ≡ map (λ d. cells_declared (empty_block q.layouts d)) ds
  globals_declared [] vss = refl
  globals_declared (d ∷ ds) [] = ap (λ ts. cells_declared (empty_block q.layouts d) ∷ ts) (globals_declared ds [])
  globals_declared (d ∷ ds) (vs ∷ vss) = ap (λ ts. ts ∷ map cells_declared (global_blocks q.layouts ds vss)) (filled_declared (empty_block q.layouts d) vs) ∙ ap (λ ts. cells_declared (empty_block q.layouts d) ∷ ts) (globals_declared ds vss)

  start_fits : MemoryFits (global_cells q) [] (start_memory q)
  start_fits = record { globals_declared = globals_declared q.globals q.initial; frames_declared = refl; globals_fit = blocks_fit 0 q.globals q.initial h.globals h.initial; locals_fit = tt; heap_fit = tt }

  -- `main` gives back an integer
  int_in_cell : (t : CType) (v : Value) → same_type t int ≡ true → OfType t v → InCell int v
  int_in_cell (type.Int k) v e g = (has_same_type (type.Int k) int v e g.0, g.1)
  int_in_cell type.Void v e g = false_is_not_true e
  int_in_cell (type.Pointer' b (more_of-CType t end_of-CType)) v e g = false_is_not_true e
  int_in_cell (type.Array' b (more_of-CType t end_of-CType) n) v e g = false_is_not_true e
  int_in_cell (type.Struct n) v e g = false_is_not_true e

  no_parameters : (fn : Function) → (fn.params == 0) ≡ true → InCells (parameter_types fn) []
  no_parameters fn e = subst (λ n. InCells (map (λ d. d.ctype) (take n fn.locals)) []) (sym (eqb-true fn.params 0 e)) tt

  pub start_typed : IsTyped q [] (start q)
  start_typed = (record { shapes = []; memory_fits = start_fits; heap_falls = tt; registers_fit = tt; formed = tt }, main (slice_get q.functions q.start) refl h.main)
    where
      main : (o : Option Function) → slice_get q.functions q.start ≡ o → is_main o ≡ true → (callee : Function) × (slice_get q.functions q.start ≡ Some callee) × IsTrue (has_body callee) × ((q.start == q.start) ≡ true) × InCells (parameter_types callee) [] × ((v : Value) → OfType callee.result v → InCell int v)
      main None e m = false_is_not_true m
      main (Some fn) e m = (fn, e, right_of_and _ _ m, number_same q.start, no_parameters fn (left_of_and _ _ (right_of_and _ _ (right_of_and _ _ (left_of_and _ _ m)))), λ v g. int_in_cell fn.result v (left_of_and _ _ (right_of_and _ _ (left_of_and _ _ m))) g)
