-- Calls and whole runs, in the source and in the woven program.
use Rattle.std.specs.List.{AllByRecursion}
use Rattle.std.proofs.Common.{◌≡◌, ℕ, zero, suc, ◌<◌, Bool, true, false, ◌==◌, List, [], ◌∷◌, ◌++◌, map, slice_get, Option, Some, None, refl, sym, subst, ap, ◌∙◌, arith}
use Rattle.std.specs.Prelude.{◌||◌, option_map, ◌+◌, replicate}
use Rattle.step_meaning.specs.declared.value.Value.{Value}
use Rattle.step_meaning.specs.declared.value.Action.TheVariants as act
use Rattle.step_meaning.specs.declared.stmt.Stmt.{Stmt}
use Rattle.step_meaning.specs.declared.stmt.Stmt.TheVariants.{Ghost, Assert, Eval}
use Rattle.step_meaning.specs.declared.stmt.Stmt.TheVariants as st
use Rattle.step_meaning.specs.declared.program.Core.{Core}
use Rattle.step_meaning.specs.declared.program.Hooks.{Hooks}
use Rattle.step_meaning.specs.declared.program.HookPlace.TheVariants as place
use Rattle.step_meaning.specs.declared.value.CType.{CType}
use Rattle.step_meaning.specs.declared.value.Cell.TheVariants.{Nothing}
use Rattle.step_meaning.specs.declared.value.CType.TheVariants as type
use Rattle.step_meaning.specs.declared.program.Declared.{Declared}
use Rattle.step_meaning.specs.declared.program.Function.{Function}
use Rattle.step_meaning.specs.Memory.{Memory, Frame, Slot, Block, empty_block, filled}
use Rattle.step_meaning.specs.Steps.{Step, Verdict, Trace, Stop, Then}
use Rattle.step_meaning.specs.State.{State, Here, unset_registers}
use Rattle.step_meaning.specs.Flow.{RestingCall, resting, step_by}
use Rattle.step_meaning.specs.Statements.{exec_all}
use Rattle.step_meaning.specs.Strict.{strict, strict_run}
use Rattle.step_meaning.specs.Traced.{PointsIntoProgram}
use Rattle.step_meaning.specs.Normal.{all_normal, ends_with_return}
use Rattle.step_meaning.specs.Calls.{annotations, after_annotations, with_arguments, with_frame, first_frame, first_ghosts}
use Rattle.step_meaning.specs.Runs.{ghost_start, run, exit_of, start_state, ghost_block}
use Rattle.step_meaning.specs.Types.{object_cells}
use Rattle.step_meaning.specs.Calls as ca
use Rattle.step_meaning.specs.ExpressionTypes.{is_void}
use Rattle.step_meaning.specs.Fold.{start_cells}
use Rattle.weaver_laws.specs.Weaving.{substitute_code, code_for, woven_all, enter_substitution, woven_core, woven_function, woven_functions, woven_body, code_at_end}
use Rattle.weaver_laws.proofs.InsideMemories.{MemoryInside, BlockInside}
use Rattle.weaver_laws.proofs.TraceSimulation.{IsProper, TraceSimulated}
use Rattle.weaver_laws.proofs.ChangedCode.{PointReady}
use Rattle.weaver_laws.proofs.ActivationSteps.{numbers, CallsSimulated, CallerSimulated, below}
use Rattle.weaver_laws.proofs.ScalarAccesses.{scalars_in_all}
use Rattle.weaver_laws.proofs.EnterSteps.{opened}
use Rattle.weaver_laws.proofs.Activations.{new_frame, source_leaves, woven_leaves, entered_simulated}
use Rattle.weaver_laws.proofs.BodyBeginnings.{source_begins, source_goes_on, woven_begins, woven_goes_on}
use Rattle.weaver_laws.proofs.Basics.{no_true}

-- ---- functions by their numbers

numbered : (p : Core) (h : Hooks) (i : ℕ) (fs : List Function) (n : ℕ) → slice_get (woven_functions p h i fs) n ≡ option_map (woven_function p h (i + n)) (slice_get fs n)
numbered p h i [] n = refl
numbered p h i (f ∷ fs) zero = ap (λ k. Some (woven_function p h k f)) (let e : i ≡ i + 0 = omega arith in e)
numbered p h i (f ∷ fs) (suc n) = numbered p h (suc i) fs n ∙ ap (λ k. option_map (woven_function p h k) (slice_get fs n)) (let e : suc i + n ≡ i + suc n = omega arith in e)

pub function_at : (p : Core) (h : Hooks) (n : ℕ) → slice_get (woven_core p h).functions n ≡ option_map (woven_function p h n) (slice_get p.functions n)
function_at p h n = numbered p h 0 p.functions n ∙ ap (λ k. option_map (woven_function p h k) (slice_get p.functions n)) (let e : 0 + n ≡ n = omega arith in e)

module _ (p : Core) (h : Hooks) (j : ℕ) (IsTheirs : ℕ → Type 0) (ss : List Step) (ready : AllByRecursion (PointReady p h j IsTheirs ss) h.points) where
  pub record BodyReady (n : ℕ) (f : Function) (body : List Stmt) : Type 0 where
    pub normal : all_normal body ≡ true
    pub scalars : scalars_in_all body ≡ true
    pub ends : (n == p.start || is_void f.result) ≡ true → ends_with_return body ≡ true

  module _ (bodies : (n : ℕ) (f : Function) (body : List Stmt) → slice_get p.functions n ≡ Some f → f.body ≡ Some body → BodyReady n f body) (k : ℕ) where
    abbrev q : Core
    q = woven_core p h

    abbrev SimulatedHere : Memory → Bool → List Verdict → Trace → Trace → Type 0
    SimulatedHere g good vs t u = TraceSimulated p h j IsTheirs ss g good vs t u

    body_simulated : (source_call woven_call : ℕ → List Value → RestingCall) → CallsSimulated p h j IsTheirs ss source_call woven_call → (n : ℕ) (f : Function) (body : List Stmt) → slice_get p.functions n ≡ Some f → BodyReady n f body
        → (vs : List Value) (s : State) (g : Memory) (outer : List Frame) (good : Bool) → MemoryInside g → AllByRecursion (λ n. n < s.made) (numbers g.frames) → (rest rest' : Value → State → Trace) → CallerSimulated p h j IsTheirs ss s g outer rest rest'
        → IsProper p false (ca.call_body strict p k source_call n f (Some body) vs rest s)
        → SimulatedHere g good [] (ca.call_body strict p k source_call n f (Some body) vs rest s) (ca.call_body resting q k woven_call n (woven_function p h n f) (woven_body p h n f (Some body)) vs rest' (record s { ghosts = below p h j IsTheirs ss g outer }))
    body_simulated source_call woven_call alike n f body found b vs s g outer good g_in bounded rest rest' caller proper =
        let here : Here = record { function = n; activation = s.made } in
        let r0 = unset_registers f.registers in
        let s1 = opened p h j IsTheirs ss ready n f found vs (with_frame (first_ghosts p.layouts f s.made) s.ghosts) s in
        let source_left = source_leaves p h j IsTheirs ss ready n f found source_call woven_call alike k body b.normal b.scalars b.ends s g outer (n == p.start) f.result rest rest' caller in
        let woven_left = woven_leaves p h j IsTheirs ss ready n f found source_call woven_call alike k body b.normal b.scalars b.ends s g outer (n == p.start) f.result rest rest' caller in
        let W = woven_all h.points n body (code_at_end p h n f) in
        let C = code_for h.points n place.Enter in
        let woven_from = opened p h j IsTheirs ss ready n f found vs (record g { frames = new_frame p h j IsTheirs ss ready n f found source_call woven_call alike k body b.normal b.scalars b.ends s ∷ outer }) s in
        let source_run = λ (an : List Stmt) (af : List Stmt). exec_all strict p.layouts source_call here k an (λ c s r. Then (step_by here (act.Enter n vs) s.memory) (exec_all strict p.layouts source_call here k af source_left s r)) s1 r0 in
        let woven_run = λ (an : List Stmt) (af : List Stmt). exec_all resting p.layouts woven_call here k an (λ c s r. Then (step_by here (act.Enter n vs) s.memory) (exec_all resting p.layouts woven_call here k af woven_left s r)) woven_from r0 in
        let goal = λ (an : List Stmt) (af : List Stmt) (an' : List Stmt) (af' : List Stmt). IsProper p false (source_run an af) → SimulatedHere g good [] (source_run an af) (woven_run an' af') in
        let start : goal [] body (substitute_code (enter_substitution f) C) (st.Empty ∷ W) = λ proper. entered_simulated p h j IsTheirs ss ready n f found source_call woven_call alike k body b.normal b.scalars b.ends vs s g outer good g_in bounded rest rest' caller proper in
        let first : goal (annotations body) body (substitute_code (enter_substitution f) C) (st.Empty ∷ W) = subst (λ an. goal an body (substitute_code (enter_substitution f) C) (st.Empty ∷ W)) (sym (source_begins body b.scalars)) start in
        let second : goal (annotations body) (after_annotations body) (substitute_code (enter_substitution f) C) (st.Empty ∷ W) = subst (λ af. goal (annotations body) af (substitute_code (enter_substitution f) C) (st.Empty ∷ W)) (sym (source_goes_on body b.scalars)) first in
        let third : goal (annotations body) (after_annotations body) (annotations (substitute_code (enter_substitution f) C ++ (st.Empty ∷ W))) (st.Empty ∷ W) = subst (λ an. goal (annotations body) (after_annotations body) an (st.Empty ∷ W)) (sym (woven_begins (enter_substitution f) C W)) second in
        (subst (λ af. goal (annotations body) (after_annotations body) (annotations (substitute_code (enter_substitution f) C ++ (st.Empty ∷ W))) af) (sym (woven_goes_on (enter_substitution f) C W)) third) proper

    calls_simulated : (d : ℕ) → CallsSimulated p h j IsTheirs ss (ca.calls strict p k d) (ca.calls resting q k d)
    calls_simulated zero = record { by = λ n vs s g outer good i b rest rest' caller f. (refl, λ e. absurd e) }
    calls_simulated (suc d) = record {
      by = λ n vs s g outer good i b rest rest' caller proper.
          subst (λ o. SimulatedHere g good [] (ca.calls strict p k (suc d) n vs rest s) (ca.call_of resting q k (ca.calls resting q k d) n o vs rest' (record s { ghosts = below p h j IsTheirs ss g outer }))) (sym (function_at p h n))
          (called (calls_simulated d) n vs s g outer good i b rest rest' caller (slice_get p.functions n) refl proper);
    }
      where
        bodied : CallsSimulated p h j IsTheirs ss (ca.calls strict p k d) (ca.calls resting q k d) → (n : ℕ) (vs : List Value) (s : State) (g : Memory) (outer : List Frame) (good : Bool) → MemoryInside g → AllByRecursion (λ n. n < s.made) (numbers g.frames) → (rest rest' : Value → State → Trace) → CallerSimulated p h j IsTheirs ss s g outer rest rest'
            → (f : Function) → slice_get p.functions n ≡ Some f → (o : Option (List Stmt)) → f.body ≡ o → IsProper p false (ca.call_body strict p k (ca.calls strict p k d) n f o vs rest s)
            → SimulatedHere g good [] (ca.call_body strict p k (ca.calls strict p k d) n f o vs rest s) (ca.call_body resting q k (ca.calls resting q k d) n (woven_function p h n f) (woven_body p h n f o) vs rest' (record s { ghosts = below p h j IsTheirs ss g outer }))
        bodied alike n vs s g outer good i b rest rest' caller f found None e proper = no_true proper
        bodied alike n vs s g outer good i b rest rest' caller f found (Some body) e proper = body_simulated (ca.calls strict p k d) (ca.calls resting q k d) alike n f body found (bodies n f body found e) vs s g outer good i b rest rest' caller proper

        called : CallsSimulated p h j IsTheirs ss (ca.calls strict p k d) (ca.calls resting q k d) → (n : ℕ) (vs : List Value) (s : State) (g : Memory) (outer : List Frame) (good : Bool) → MemoryInside g → AllByRecursion (λ n. n < s.made) (numbers g.frames) → (rest rest' : Value → State → Trace) → CallerSimulated p h j IsTheirs ss s g outer rest rest'
            → (o : Option Function) → slice_get p.functions n ≡ o → IsProper p false (ca.call_of strict p k (ca.calls strict p k d) n o vs rest s)
            → SimulatedHere g good [] (ca.call_of strict p k (ca.calls strict p k d) n o vs rest s) (ca.call_of resting q k (ca.calls resting q k d) n (option_map (woven_function p h n) o) vs rest' (record s { ghosts = below p h j IsTheirs ss g outer }))
        called alike n vs s g outer good i b rest rest' caller None e proper = no_true proper
        called alike n vs s g outer good i b rest rest' caller (Some f) e proper = bodied alike n vs s g outer good i b rest rest' caller f e f.body refl proper

    start_inside : (ds : List Declared) → AllByRecursion BlockInside (map (ghost_block p.layouts) ds)
    start_inside [] = tt
    start_inside (d ∷ ds) = (block_in (empty_block p.layouts d) (cells (object_cells p.layouts d.ctype)), start_inside ds)
      where
        cells : (us : List CType) → BlockInside (map (λ (u : CType). let s : Slot = record { declared = u; cell = Nothing } in s) us)
        cells [] = tt
        cells (u ∷ us) = (tt, cells us)

        value_of_start : (u : CType) → PointsIntoProgram (ghost_start u)
        value_of_start (type.Int k) = tt
        value_of_start type.Void = tt
        value_of_start (type.Pointer' b v) = tt
        value_of_start (type.Array' b v n) = tt
        value_of_start (type.Struct n) = tt

        unfilled : (b : Block) → filled b [] ≡ b
        unfilled [] = refl
        unfilled (s ∷ b) = refl

        block_in : (b : Block) → BlockInside b → BlockInside (filled b (ghost_start d.ctype ∷ []))
        block_in [] x = tt
        block_in (s ∷ b) x = (value_of_start d.ctype, subst (λ b. BlockInside b) (sym (unfilled b)) x.1)

    -- a whole run, where the ghost variables of file scope are numbered from 0
    pub run_simulated : h.first ≡ 0 → (input : List ℕ) → IsProper p false (strict_run p input k) → SimulatedHere (start_cells p h) true [] (strict_run p input k) (run q input k)
    run_simulated zero_first input proper =
        let begin : Memory = record { globals = map (ghost_block p.layouts) h.globals; frames = []; heap = [] } in
        subst (λ g. SimulatedHere g true [] (strict_run p input k) (run q input k)) (sym (ap (λ n. let m : Memory = record { globals = replicate n [] ++ map (ghost_block p.layouts) h.globals; frames = []; heap = [] } in m) zero_first))
        ((calls_simulated k).by p.start [] (start_state p input) begin [] true (record { globals = start_inside h.globals; frames = tt; heap = tt }) tt (λ v s. Stop (exit_of v)) (λ v s. Stop (exit_of v)) (λ v s g good i b l e f. (refl, λ e. refl)) proper)
