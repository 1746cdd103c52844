-- A fault that ends a run of a well-formed program is a Halt step.
use Rattle.std.proofs.Common.{◌≡◌, ℕ, zero, suc, ◌<◌, ◌^◌, Bool, true, false, cond, ◌&&◌, not, List, [], ◌∷◌, length, map, take, Option, Some, None, refl, sym, ap, subst, ◌∙◌, arith}
use Rattle.std.specs.Prelude.{◌==◌, ℤ, pos, slice_get, option_map, option_and_then, is_some, IsTrue}
use Rattle.std.specs.List.{list_all}
use Rattle.std.proofs.lemmas.Bool.{eqb-true}
use Rattle.step_meaning.specs.declared.value.CType.{CType, end_of-CType, more_of-CType}
use Rattle.step_meaning.specs.declared.value.CType.TheVariants as type
use Rattle.step_meaning.specs.declared.value.Value.{Value}
use Rattle.step_meaning.specs.declared.value.Value.TheVariants as value
use Rattle.step_meaning.specs.declared.value.Cell.TheVariants.{Nothing}
use Rattle.step_meaning.specs.declared.stmt.Stmt.{Stmt}
use Rattle.step_meaning.specs.declared.program.Declared.{Declared}
use Rattle.step_meaning.specs.declared.program.Function.{Function}
use Rattle.step_meaning.specs.declared.program.Core.{Core}
use Rattle.step_meaning.specs.Types.{same_type, object_cells}
use Rattle.step_meaning.specs.Memory.{Slot, empty_block, filled}
use Rattle.step_meaning.specs.Steps.{Item, Made, Judged, End, Exit, Fault, More, Trace, Stop, Then, steps}
use Rattle.step_meaning.specs.Flow.{direct, DirectCall, CallGives, Returned, Ended}
use Rattle.step_meaning.specs.Calls as ca
use Rattle.step_meaning.specs.Runs.{run, global_blocks, start_memory, start_state, start_world, logged_by, direct_run, after_log, trace_of}
use Rattle.step_meaning.specs.TypeRules.{cells, keeps_rules}
use Rattle.step_meaning.specs.ExpressionTypes.{has_body, parameter_types}
use Rattle.step_meaning.specs.StatementRules.{BodyFits}
use Rattle.step_meaning.specs.InitialValues.{BeginsAt, IsInitialValue, AreInitialValues, AllInitialised}
use Rattle.step_meaning.specs.WellFormed.{IsWellFormed, IsWellFormedFunction, OfBody, int, is_main}
use Rattle.step_meaning.specs.FaultsHalt.{FaultsHalt, WellFormedFaultsHalt}
use Rattle.step_meaning.specs.Traced.{SlotTyped, is_program_kind}
use Rattle.step_meaning.specs.TracedRuns.{cells_declared}
use Rattle.step_meaning.proofs.Flows.{run_logged}
use Rattle.step_meaning.proofs.Ranges.{false_is_not_true, left_of_and, right_of_and}
use Rattle.step_meaning.proofs.TypedMemory.{Each, WhereSome, is_empty, InCell, has_same_type, same_type_turned, number_same, BlockFits, filled_declared, Shape, MemoryFits}
use Rattle.step_meaning.proofs.StepsFit.{InCells, ReturnFits, global_cells, StepFits, ItemFits}
use Rattle.step_meaning.proofs.TypedOperators.{OfType, not_true}
use Rattle.step_meaning.proofs.FormedFunctions.{formed_function}
use Rattle.step_meaning.proofs.TypedCalls.{SizesFit, AllCallsKeep, keeps_activation}
use Rattle.step_meaning.proofs.TypedSizes.{sizes_fit}
use Rattle.step_meaning.proofs.Kept.{EndsWell, CallGivesFit, CallKeeps}

-- ---- calls

pub some_fits : {A : Type 0} (P : A → Type 0) (o : Option A) (a : A) → o ≡ Some a → WhereSome P o → P a
some_fits P o a e h = subst (WhereSome P) e h

int_returned : (t : CType) → same_type t int ≡ true → ReturnFits t (Some (value.Int (pos 0)))
int_returned (type.Int k) e = (has_same_type int (type.Int k) (value.Int (pos 0)) (same_type_turned (type.Int k) int e) refl, tt)
int_returned type.Void e = false_is_not_true e
int_returned (type.Pointer' b t) e = false_is_not_true (no b t e)
  where
    no : (b : _) (t : _) → same_type (type.Pointer' b t) int ≡ true → false ≡ true
    no b (more_of-CType t end_of-CType) e = e
int_returned (type.Array' b t n) e = false_is_not_true (no b t e)
  where
    no : (b : _) (t : _) → same_type (type.Array' b t n) int ≡ true → false ≡ true
    no b (more_of-CType t end_of-CType) e = e
int_returned (type.Struct n) e = false_is_not_true e

module _ (q : Core) (h : IsWellFormed q) (bound : ℕ) where
  sizes : SizesFit q.layouts
  sizes = sizes_fit q.layouts h.structs

  main_int : (g : ℕ) (fn : Function) → slice_get q.functions g ≡ Some fn → (g == q.start) ≡ true → ReturnFits fn.result (Some (value.Int (pos 0)))
  main_int g fn e s = int_returned fn.result (left_of_and _ _ (right_of_and _ _ (left_of_and _ _ is)))
    where
      is : is_main (Some fn) ≡ true
      is = subst (λ o. is_main o ≡ true) (ap (slice_get q.functions) (sym (eqb-true g q.start s)) ∙ e) h.main

  keeps_body : (call : ℕ → List Value → DirectCall) → AllCallsKeep q bound sizes call → (frames : List Shape) (g : ℕ) (fn : Function) → slice_get q.functions g ≡ Some fn → IsWellFormedFunction q fn → (g == q.start) ≡ is_empty frames → (body : Option (List Stmt)) → OfBody (BodyFits q fn) body → is_some body ≡ true → (vs : List Value) → InCells (parameter_types fn) vs → CallKeeps q frames (OfType fn.result) (ca.call_body direct q bound call g fn body vs)
  keeps_body call calls frames g fn e formed o None b has vs a = false_is_not_true has
  keeps_body call calls frames g fn e formed o (Some body) b has vs a = keeps_activation q bound sizes call calls frames g fn e o body vs formed b (main_int g fn e) a

  called_fits : (P : Function → Type 0) (g : ℕ) (o : Option Function) → slice_get q.functions g ≡ o → ((fn : Function) → slice_get q.functions g ≡ Some fn → has_body fn ≡ true → (g == q.start) ≡ false → P fn) → WhereSome P (option_and_then (λ f. cond (has_body f && not (g == q.start)) (Some f) None) o)
  called_fits P g None e k = tt
  called_fits P g (Some fn) e k = by (has_body fn && not (g == q.start)) refl
    where
      by : (c : Bool) → (has_body fn && not (g == q.start)) ≡ c → WhereSome P (cond c (Some fn) None)
      by true p = k fn e (left_of_and _ _ p) (not_true (g == q.start) (right_of_and _ _ p))
      by false p = tt

  keeps_calls : (n : ℕ) (frames : List Shape) (g : ℕ) (fn : Function) → slice_get q.functions g ≡ Some fn → (g == q.start) ≡ is_empty frames → has_body fn ≡ true → (vs : List Value) → InCells (parameter_types fn) vs → CallKeeps q frames (OfType fn.result) (ca.calls direct q bound n g vs)
  keeps_calls zero frames g fn e o b vs a = record { by = λ w m. (tt, m.1) }
  keeps_calls (suc n) frames g fn e o b vs a =
      subst (λ o. CallKeeps q frames (OfType fn.result) (ca.call_of direct q bound (ca.calls direct q bound n) g o vs)) (sym e)
      (keeps_body (ca.calls direct q bound n)
      (λ s frames g. called_fits (λ fn. (vs : List Value) → InCells (parameter_types fn) vs → CallKeeps q (s ∷ frames) (OfType fn.result) (ca.calls direct q bound n g vs)) g (slice_get q.functions g) refl (λ fn e b o vs a. keeps_calls n (s ∷ frames) g fn e o b vs a))
      frames g fn e (formed_function q h g fn e b) o fn.body (formed_function q h g fn e b).body b vs a)

-- ---- the start

module _ (q : Core) (h : IsWellFormed q) where
  global_type : (i : ℕ) → WhereSome (λ t. keeps_rules q.layouts t ≡ true) (option_map (λ d. d.ctype) (slice_get q.globals i))
  global_type i = by q.globals i h.globals
    where
      by : (ds : List Declared) (i : ℕ) → list_all (λ d. keeps_rules q.layouts d.ctype) ds ≡ true → WhereSome (λ t. keeps_rules q.layouts t ≡ true) (option_map (λ d. d.ctype) (slice_get ds i))
      by [] i e = tt
      by (d ∷ ds) zero e = left_of_and _ _ e
      by (d ∷ ds) (suc i) e = by ds i (right_of_and _ _ e)

  offset_fits : (d : Option Declared) (o : ℕ) (t : CType) → WhereSome (λ t. keeps_rules q.layouts t ≡ true) (option_map (λ d. d.ctype) d) → BeginsAt q d o t → o < 2 ^ 32
  offset_fits None o t k p = absurd p
  offset_fits (Some d) o t k p = let l : o < cells q.layouts d.ctype = p.0 in let m : cells q.layouts d.ctype < 2 ^ 32 = sizes_fit q.layouts h.structs d.ctype k in omega arith

  initial_fits : (i : ℕ) (t : CType) (v : Value) → IsInitialValue q i t v → InCell t v
  initial_fits i (type.Int k) (value.Int z) e = (e, tt)
  initial_fits i (type.Pointer' p t) value.Null e = (tt, tt)
  initial_fits i (type.Pointer' p (more_of-CType t end_of-CType)) (value.Pointer n o) e = (offset_fits (slice_get q.globals n.index) o t (global_type n.index) e.part, subst (λ k. IsTrue (is_program_kind k)) (sym e.file_scope) refl)
  initial_fits i t v e = absurd e

  filled_fits : (i : ℕ) (ts : List CType) (vs : List Value) → AreInitialValues q i ts vs → Each SlotTyped (filled (map (λ t. record { declared = t; cell = Nothing }) ts) vs)
  filled_fits i [] [] e = tt
  filled_fits i (t ∷ ts) (v ∷ vs) e = (initial_fits i t v e.0, filled_fits i ts vs e.1)
  filled_fits i [] (v ∷ vs) e = absurd e
  filled_fits i (t ∷ ts) [] e = absurd e

  filled_length : (ts : List CType) (vs : List Value) → length (filled (map (λ t. record { declared = t; cell = Nothing }) ts) vs) ≡ length ts
  filled_length [] vs = refl
  filled_length (t ∷ ts) [] = ap suc (lengths ts)
    where
      lengths : (ts : List CType) → length (map {B = Slot} (λ t. record { declared = t; cell = Nothing }) ts) ≡ length ts
      lengths [] = refl
      lengths (t ∷ ts) = ap suc (lengths ts)
  filled_length (t ∷ ts) (v ∷ vs) = ap suc (filled_length ts vs)

  blocks_fit : (i : ℕ) (ds : List Declared) (vss : List (List Value)) → list_all (λ d. keeps_rules q.layouts d.ctype) ds ≡ true → AllInitialised q i ds vss → Each BlockFits (global_blocks q.layouts ds vss)
  blocks_fit i [] vss k e = tt
  blocks_fit i (d ∷ ds) [] k e = absurd e
  blocks_fit i (d ∷ ds) (vs ∷ vss) k e =
      ((filled_fits i (object_cells q.layouts d.ctype) vs e.0, rw (filled_length (object_cells q.layouts d.ctype) vs) (sizes_fit q.layouts h.structs d.ctype (left_of_and _ _ k))), blocks_fit (suc i) ds vss (right_of_and _ _ k) e.1)

  globals_declared : (ds : List Declared) (vss : List (List Value)) → map cells_declared (global_blocks q.layouts ds vss) ≡ map (λ d. cells_declared (empty_block q.layouts d)) ds
  globals_declared [] vss = refl
  globals_declared (d ∷ ds) [] = ap (λ ts. cells_declared (empty_block q.layouts d) ∷ ts) (globals_declared ds [])
  globals_declared (d ∷ ds) (vs ∷ vss) = ap (λ ts. ts ∷ map cells_declared (global_blocks q.layouts ds vss)) (filled_declared (empty_block q.layouts d) vs) ∙ ap (λ ts. cells_declared (empty_block q.layouts d) ∷ ts) (globals_declared ds vss)

  start_fits : MemoryFits (global_cells q) [] (start_memory q)
  start_fits = record { globals_declared = globals_declared q.globals q.initial; frames_declared = refl; globals_fit = blocks_fit 0 q.globals q.initial h.globals h.initial; locals_fit = tt; heap_fit = tt }

-- ---- the run

after_items : (l : List Item) (i : Item) (t : Trace) → FaultsHalt (Then i t) → FaultsHalt (after_log l (Then i t))
after_items [] i t h = h
after_items (j ∷ l) i t h = after_items l j (Then i t) h

ended_well : (e : End) (l : List Item) → EndsWell e l → FaultsHalt (after_log l (Stop e))
ended_well (Exit v) l h = absurd h
ended_well More [] h = tt
ended_well More (i ∷ l) h = after_items l i (Stop More) tt
ended_well (Fault f) [] h = absurd h
ended_well (Fault f) (i ∷ l) h = after_items l i (Stop (Fault f)) h

exits : (z : ℤ) (l : List Item) → FaultsHalt (after_log l (Stop (Exit z)))
exits z [] = tt
exits z (i ∷ l) = after_items l i (Stop (Exit z)) tt

ran_well : (q : Core) (frames : List Shape) (t : CType) (o : CallGives) → same_type t int ≡ true → CallGivesFit q frames (OfType t) o → FaultsHalt (trace_of (logged_by o))
ran_well q frames t (Ended e l) s h = ended_well e l h.0
ran_well q frames (type.Int k) (Returned (value.Int z) w) s h = exits z w.log
ran_well q frames (type.Int k) (Returned value.Null w) s h = absurd h.0.0
ran_well q frames (type.Int k) (Returned (value.Pointer n o) w) s h = absurd h.0.0
ran_well q frames type.Void (Returned v w) s h = false_is_not_true s
ran_well q frames (type.Struct n) (Returned v w) s h = false_is_not_true s
ran_well q frames (type.Pointer' p (more_of-CType t end_of-CType)) (Returned v w) s h = false_is_not_true s
ran_well q frames (type.Array' p (more_of-CType t end_of-CType) n) (Returned v w) s h = false_is_not_true s

-- the items of a part that is known to keep types
log_fits : (q : Core) (frames : List Shape) (P : Value → Type 0) (o : CallGives) → CallGivesFit q frames P o → Each (ItemFits q) (logged_by o).log
log_fits q frames P (Returned v w) h = h.1.1
log_fits q frames P (Ended e l) h = h.1

steps_fit : (q : Core) (l : List Item) (t : Trace) → Each (ItemFits q) l → Each (StepFits q) (steps t) → Each (StepFits q) (steps (after_log l t))
steps_fit q [] t h k = k
steps_fit q (Made s ∷ l) t h k = steps_fit q l (Then (Made s) t) h.1 (h.0, k)
steps_fit q (Judged v ∷ l) t h k = steps_fit q l (Then (Judged v) t) h.1 k

module _ (q : Core) (h : IsWellFormed q) (input : List ℕ) (k : ℕ) where
  -- the program has `main`, which gives back an integer
  main_keeps : (fn : Function) × (same_type fn.result int ≡ true) × CallGivesFit q [] (OfType fn.result) (ca.calls direct q k k q.start [] (start_world (start_state q input)))
  main_keeps = by (slice_get q.functions q.start) refl h.main
    where
      no_parameters : (fn : Function) → (fn.params == 0) ≡ true → InCells (parameter_types fn) []
      no_parameters fn e = subst (λ n. InCells (map (λ d. d.ctype) (take n fn.locals)) []) (sym (eqb-true fn.params 0 e)) tt

      by : (o : Option Function) → slice_get q.functions q.start ≡ o → is_main o ≡ true → (fn : Function) × (same_type fn.result int ≡ true) × CallGivesFit q [] (OfType fn.result) (ca.calls direct q k k q.start [] (start_world (start_state q input)))
      by None e m = false_is_not_true m
      by (Some fn) e m = (
        fn,
        left_of_and _ _ (right_of_and _ _ (left_of_and _ _ m)),
        (keeps_calls q h k k [] q.start fn e (number_same q.start) (right_of_and _ _ m) [] (no_parameters fn (left_of_and _ _ (right_of_and _ _ (right_of_and _ _ (left_of_and _ _ m)))))).by (start_world (start_state q input)) (start_fits q h, tt, tt),
      )

pub well_formed_faults_halt : WellFormedFaultsHalt
well_formed_faults_halt q h input k = let m = main_keeps q h input k in rw (run_logged q input k) (ran_well q [] m.0.result (ca.calls direct q k k q.start [] (start_world (start_state q input))) m.1 m.2)

-- each step of a run of a well-formed program fits
pub run_steps_fit : (q : Core) → IsWellFormed q → (input : List ℕ) (k : ℕ) → Each (StepFits q) (steps (run q input k))
run_steps_fit q h input k = let m = main_keeps q h input k in rw (run_logged q input k) (steps_fit q (direct_run q input k).log (Stop (direct_run q input k).ends) (log_fits q [] (OfType m.0.result) (ca.calls direct q k k q.start [] (start_world (start_state q input))) m.2) tt)
