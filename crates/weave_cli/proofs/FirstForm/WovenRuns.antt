-- The runs of a source of the first form and of its woven program: functions, calls and whole runs.
use Rattle.std.proofs.Common.{◌≡◌, ℕ, zero, suc, ◌+◌, Bool, true, false, List, [], ◌∷◌, ◌++◌, map, Option, Some, None, refl, subst, append-nil}
use Rattle.std.specs.Prelude.{◌==◌, pos, slice_get}
use Rattle.std.specs.List.{AllByRecursion}
use Rattle.step_meaning.specs.declared.value.CType.{CType}
use Rattle.step_meaning.specs.declared.value.CType.TheVariants as type
use Rattle.step_meaning.specs.declared.value.Value.{Value}
use Rattle.step_meaning.specs.declared.value.Value.TheVariants as value
use Rattle.step_meaning.specs.declared.value.Action.TheVariants as act
use Rattle.step_meaning.specs.declared.stmt.Stmt.{Stmt}
use Rattle.step_meaning.specs.declared.program.Function.{Function as CoreFunction}
use Rattle.step_meaning.specs.declared.program.Core.{Core}
use Rattle.step_meaning.specs.Steps.{Trace}
use Rattle.step_meaning.specs.State.{State, Here}
use Rattle.step_meaning.specs.Flow.{Resting, RestingCall, resting}
use Rattle.step_meaning.specs.Statements.{Completion, Next, Broken, Continued, Returned, exec_all}
use Rattle.step_meaning.specs.Calls.{annotations, after_annotations, with_arguments, with_frame, given_back, close_frame, value_or_zero, call_of, calls}
use Rattle.step_meaning.specs.Runs.{run}
use Rattle.c_parser.specs.declared.first_form.tree.FirstStmt.{FirstStmt}
use Rattle.c_parser.specs.declared.first_form.tree.FirstStmt.TheVariants as stmt
use Rattle.c_words.specs.declared.word.Mode.TheVariants as mode
use Rattle.c_parser.specs.FirstForm.Program.{Function}
use Rattle.c_parser.specs.FirstForm.Texts.{StatementFits, BodiesFit}
use Rattle.weave_cli.specs.FirstForm.Cores.{int, core_statements, return_zero, core_function, void_function, core_functions, getchar, putchar, malloc, free}
use Rattle.weave_cli.specs.FirstForm.Weaving.{woven_body, property_function}
use Rattle.weave_cli.proofs.FirstForm.WovenTraces.{Woven, stops, quiet, Alike, CallsAlike, statements_alike, source_is_not_woven}

-- ---- bodies

-- what stands after the statements of a body: nothing, or the return of `main`
pub data IsTail : List Stmt → Type 0 where
  nothing : IsTail []
  returning : IsTail (return_zero ∷ [])

module _ (x : ℕ) (call call' : ℕ → List Value → RestingCall) (alike : CallsAlike x call call') (here : Here) (k : ℕ) where
  abbrev source_all : List Stmt → Resting Completion
  source_all ss = exec_all resting [] call here k ss

  abbrev woven_all : List Stmt → Resting Completion
  woven_all ss = exec_all resting [] call' here k ss

  tail_alike : (tail : List Stmt) → IsTail tail → Alike x (source_all tail) (woven_all tail)
  tail_alike _ nothing = record { by = λ rest rest' h s r. h Next s r }
  tail_alike _ returning = record { by = λ rest rest' h s r. h (Returned (Some (value.Int (pos 0)))) s r }

  -- no annotation begins the body of either
  source_begins : (n e : ℕ) (ss : List FirstStmt) (tail : List Stmt) → IsTail tail → AllByRecursion (StatementFits mode.Source n e) ss → annotations (core_statements ss ++ tail) ≡ []
  source_begins n e [] _ nothing fits = refl
  source_begins n e [] _ returning fits = refl
  source_begins n e (stmt.Assign y z ∷ ss) tail t fits = refl
  source_begins n e (stmt.Call f ∷ ss) tail t fits = refl
  source_begins n e (stmt.Empty ∷ ss) tail t fits = refl
  source_begins n e (stmt.Assert y z ∷ ss) tail t fits = absurd (source_is_not_woven fits.0.0)

  woven_begins : (n e : ℕ) (ss : List FirstStmt) (tail : List Stmt) → IsTail tail → AllByRecursion (StatementFits mode.Source n e) ss → annotations (core_statements (woven_body x ss) ++ tail) ≡ []
  woven_begins n e [] _ nothing fits = refl
  woven_begins n e [] _ returning fits = refl
  woven_begins n e (stmt.Assign y z ∷ ss) tail t fits = refl
  woven_begins n e (stmt.Call f ∷ ss) tail t fits = refl
  woven_begins n e (stmt.Empty ∷ ss) tail t fits = refl
  woven_begins n e (stmt.Assert y z ∷ ss) tail t fits = absurd (source_is_not_woven fits.0.0)

  bodies_alike : (n e : ℕ) (ss : List FirstStmt) (tail : List Stmt) → IsTail tail → AllByRecursion (StatementFits mode.Source n e) ss
      → Alike x (source_all (after_annotations (core_statements ss ++ tail))) (woven_all (after_annotations (core_statements (woven_body x ss) ++ tail)))
  bodies_alike n e [] _ nothing fits = tail_alike [] nothing
  bodies_alike n e [] _ returning fits = tail_alike (return_zero ∷ []) returning
  bodies_alike n e (stmt.Assign y z ∷ ss) tail t fits = record {
    by = λ rest rest' h s r. (statements_alike x call call' alike here k n e (stmt.Assign y z ∷ ss) tail fits (tail_alike tail t)).by rest rest' h s r;
  }
  bodies_alike n e (stmt.Call f ∷ ss) tail t fits = record {
    by = λ rest rest' h s r. (statements_alike x call call' alike here k n e (stmt.Call f ∷ ss) tail fits (tail_alike tail t)).by rest rest' h s r;
  }
  bodies_alike n e (stmt.Empty ∷ ss) tail t fits = absurd (source_is_not_woven fits.0)
  bodies_alike n e (stmt.Assert y z ∷ ss) tail t fits = absurd (source_is_not_woven fits.0.0)

  -- the annotations that begin the bodies, the Enter step, and what comes after
  entered : (g : ℕ) (vs : List Value) (an an' ss ss' : List Stmt) → an ≡ [] → an' ≡ [] → Alike x (source_all ss) (woven_all ss')
      → Alike x (resting.bind (source_all an) (λ c. resting.bind (resting.emit here (act.Enter g vs)) (λ u. source_all ss)))
      (resting.bind (woven_all an') (λ c. resting.bind (resting.emit here (act.Enter g vs)) (λ u. woven_all ss')))
  entered g vs [] [] ss ss' e e' h = record { by = λ rest rest' more s r. quiet _ tt (h.by rest rest' more s r) }
  entered g vs [] (a ∷ as') ss ss' e e' h = absurd cc
  entered g vs (a ∷ an) an' ss ss' e e' h = absurd cc

  -- what is given back
  abbrev leaves : Bool → CType → ℕ → Completion → Resting Value
  leaves is_main t g c =
      resting.bind (given_back resting here is_main t c) (λ v. resting.bind (resting.emit here (act.Return g v)) (λ u. resting.bind (close_frame resting) (λ u. resting.pure (value_or_zero v))))

  returns_alike : (g : ℕ) (v : Option Value) → Alike x (resting.bind (resting.emit here (act.Return g v)) (λ u. resting.bind (close_frame resting) (λ u. resting.pure (value_or_zero v))))
      (resting.bind (resting.emit here (act.Return g v)) (λ u. resting.bind (close_frame resting) (λ u. resting.pure (value_or_zero v))))
  returns_alike g v = record { by = λ rest rest' more s r. quiet _ tt (more (value_or_zero v) _ r) }

  leaves_void : (is_main : Bool) (g : ℕ) (c : Completion) → Alike x (leaves is_main type.Void g c) (leaves is_main type.Void g c)
  leaves_void true g Next = record { by = (returns_alike g (Some (value.Int (pos 0)))).by }
  leaves_void false g Next = record { by = (returns_alike g None).by }
  leaves_void b g (Returned None) = record { by = (returns_alike g None).by }
  leaves_void b g (Returned (Some v)) = record { by = λ rest rest' more s r. stops }
  leaves_void b g Broken = record { by = λ rest rest' more s r. stops }
  leaves_void b g Continued = record { by = λ rest rest' more s r. stops }

  leaves_int : (is_main : Bool) (g : ℕ) (c : Completion) → Alike x (leaves is_main int g c) (leaves is_main int g c)
  leaves_int true g Next = record { by = (returns_alike g (Some (value.Int (pos 0)))).by }
  leaves_int false g Next = record { by = λ rest rest' more s r. quiet _ tt stops }
  leaves_int b g (Returned None) = record { by = λ rest rest' more s r. stops }
  leaves_int b g (Returned (Some v)) = record { by = (returns_alike g (Some v)).by }
  leaves_int b g Broken = record { by = λ rest rest' more s r. stops }
  leaves_int b g Continued = record { by = λ rest rest' more s r. stops }

-- ---- functions

-- a function of the source and that of the woven program with the same number
pub data FunctionsAlike (x : ℕ) : Option CoreFunction → Option CoreFunction → Type 0 where
  neither : FunctionsAlike x None None
  library_in : FunctionsAlike x (Some getchar) (Some getchar)
  library_out : FunctionsAlike x (Some putchar) (Some putchar)
  library_malloc : FunctionsAlike x (Some malloc) (Some malloc)
  library_free : FunctionsAlike x (Some free) (Some free)
  void : (name : List ℕ) (ss : List FirstStmt) (n e : ℕ) → AllByRecursion (StatementFits mode.Source n e) ss
      → FunctionsAlike x (Some (core_function name type.Void (core_statements ss ++ []))) (Some (core_function name type.Void (core_statements (woven_body x ss) ++ [])))
  main : (name : List ℕ) (ss : List FirstStmt) (n e : ℕ) → AllByRecursion (StatementFits mode.Source n e) ss
      → FunctionsAlike x (Some (core_function name int (core_statements ss ++ return_zero ∷ []))) (Some (core_function name int (core_statements (woven_body x ss) ++ return_zero ∷ [])))

void_alike : (x n e : ℕ) (f : Function) → AllByRecursion (StatementFits mode.Source n e) f.body → FunctionsAlike x (Some (void_function f)) (Some (void_function (property_function x f)))
void_alike x n e f fits =
    subst (λ b. FunctionsAlike x (Some (core_function f.name type.Void b)) (Some (core_function f.name type.Void (core_statements (woven_body x f.body))))) (append-nil (core_statements f.body))
    (subst (λ b. FunctionsAlike x (Some (core_function f.name type.Void (core_statements f.body ++ []))) (Some (core_function f.name type.Void b))) (append-nil (core_statements (woven_body x f.body)))
    (void f.name f.body n e fits))

functions_alike : (x n e : ℕ) (fs : List Function) → BodiesFit mode.Source n e fs → (g : ℕ) → FunctionsAlike x (slice_get (core_functions fs) g) (slice_get (core_functions (map (property_function x) fs)) g)
functions_alike x n e [] fits g = neither
functions_alike x n e (f ∷ []) fits zero = main f.name f.body n e fits.0
functions_alike x n e (f ∷ []) fits (suc g) = neither
functions_alike x n e (f ∷ h ∷ fs) fits zero = void_alike x n e f fits.0
functions_alike x n e (f ∷ h ∷ fs) fits (suc g) = functions_alike x n (e + 1) (h ∷ fs) fits.1 g

pub all_alike : (x n : ℕ) (fs : List Function) → BodiesFit mode.Source n 0 fs → (g : ℕ)
    → FunctionsAlike x (slice_get (getchar ∷ putchar ∷ malloc ∷ free ∷ core_functions fs) g) (slice_get (getchar ∷ putchar ∷ malloc ∷ free ∷ core_functions (map (property_function x) fs)) g)
all_alike x n fs fits zero = library_in
all_alike x n fs fits (suc zero) = library_out
all_alike x n fs fits (suc (suc zero)) = library_malloc
all_alike x n fs fits (suc (suc (suc zero))) = library_free
all_alike x n fs fits (suc (suc (suc (suc g)))) = functions_alike x n 0 fs fits g

-- ---- calls

-- the core with these functions in place of its own
abbrev pub with_functions : Core → List CoreFunction → Core
with_functions p fs = record { layouts = []; globals = p.globals; initial = p.initial; ghosts = []; functions = fs; start = p.start }

module _ (x k : ℕ) (p : Core) (fs fs' : List CoreFunction) (same : (g : ℕ) → FunctionsAlike x (slice_get fs g) (slice_get fs' g)) where
  abbrev source : Core
  source = with_functions p fs

  abbrev weave : Core
  weave = with_functions p fs'

  -- the state in which the body begins
  abbrev opened : List Value → State → State
  opened vs s =
      record {
        memory = with_frame (record { activation = s.made; locals = with_arguments [] vs }) s.memory;
        ghosts = with_frame (record { activation = s.made; locals = [] }) s.ghosts;
        input = s.input;
        made = suc s.made;
        allocated = s.allocated;
      }

  void_body_alike : (call call' : ℕ → List Value → RestingCall) → CallsAlike x call call' → (g : ℕ) (name : List ℕ) (ss : List FirstStmt) (n e : ℕ) → AllByRecursion (StatementFits mode.Source n e) ss
      → (vs : List Value) (rest rest' : Value → State → Trace) → ((v : Value) (s : State) → Woven x (rest v s) (rest' v s)) → (s : State)
      → Woven x (call_of resting source k call g (Some (core_function name type.Void (core_statements ss ++ []))) vs rest s)
      (call_of resting weave k call' g (Some (core_function name type.Void (core_statements (woven_body x ss) ++ []))) vs rest' s)
  void_body_alike call call' alike g name ss n e fits vs rest rest' more s =
      let here : Here = record { function = g; activation = s.made } in
      let b : List Stmt = core_statements ss ++ [] in
      let w : List Stmt = core_statements (woven_body x ss) ++ [] in
      (entered x call call' alike here k g vs (annotations b) (annotations w) (after_annotations b) (after_annotations w)
      (source_begins x call call' alike here k n e ss [] nothing fits)
      (woven_begins x call call' alike here k n e ss [] nothing fits)
      (bodies_alike x call call' alike here k n e ss [] nothing fits)).by
      _ _ (λ c s r. (leaves_void x call call' alike here k (g == p.start) g c).by (λ v s r. rest v s) (λ v s r. rest' v s) (λ v s r. more v s) s r) (opened vs s) []

  main_body_alike : (call call' : ℕ → List Value → RestingCall) → CallsAlike x call call' → (g : ℕ) (name : List ℕ) (ss : List FirstStmt) (n e : ℕ) → AllByRecursion (StatementFits mode.Source n e) ss
      → (vs : List Value) (rest rest' : Value → State → Trace) → ((v : Value) (s : State) → Woven x (rest v s) (rest' v s)) → (s : State)
      → Woven x (call_of resting source k call g (Some (core_function name int (core_statements ss ++ return_zero ∷ []))) vs rest s)
      (call_of resting weave k call' g (Some (core_function name int (core_statements (woven_body x ss) ++ return_zero ∷ []))) vs rest' s)
  main_body_alike call call' alike g name ss n e fits vs rest rest' more s =
      let here : Here = record { function = g; activation = s.made } in
      let b : List Stmt = core_statements ss ++ return_zero ∷ [] in
      let w : List Stmt = core_statements (woven_body x ss) ++ return_zero ∷ [] in
      (entered x call call' alike here k g vs (annotations b) (annotations w) (after_annotations b) (after_annotations w)
      (source_begins x call call' alike here k n e ss (return_zero ∷ []) returning fits)
      (woven_begins x call call' alike here k n e ss (return_zero ∷ []) returning fits)
      (bodies_alike x call call' alike here k n e ss (return_zero ∷ []) returning fits)).by
      _ _ (λ c s r. (leaves_int x call call' alike here k (g == p.start) g c).by (λ v s r. rest v s) (λ v s r. rest' v s) (λ v s r. more v s) s r) (opened vs s) []

  call_alike : (call call' : ℕ → List Value → RestingCall) → CallsAlike x call call' → (g : ℕ) (f f' : Option CoreFunction) → FunctionsAlike x f f'
      → (vs : List Value) (rest rest' : Value → State → Trace) → ((v : Value) (s : State) → Woven x (rest v s) (rest' v s)) → (s : State)
      → Woven x (call_of resting source k call g f vs rest s) (call_of resting weave k call' g f' vs rest' s)
  call_alike call call' alike g _ _ neither vs rest rest' more s = stops
  call_alike call call' alike g _ _ library_in vs rest rest' more s = stops
  call_alike call call' alike g _ _ library_out vs rest rest' more s = stops
  call_alike call call' alike g _ _ library_malloc vs rest rest' more s = stops
  call_alike call call' alike g _ _ library_free vs rest rest' more s = stops
  call_alike call call' alike g _ _ (void name ss n e fits) vs rest rest' more s = void_body_alike call call' alike g name ss n e fits vs rest rest' more s
  call_alike call call' alike g _ _ (main name ss n e fits) vs rest rest' more s = main_body_alike call call' alike g name ss n e fits vs rest rest' more s

  calls_alike : (n : ℕ) → CallsAlike x (calls resting source k n) (calls resting weave k n)
  calls_alike zero = record { by = λ g vs rest rest' more s. stops }
  calls_alike (suc n) = record { by = λ g vs rest rest' more s. call_alike _ _ (calls_alike n) g (slice_get fs g) (slice_get fs' g) (same g) vs rest rest' more s }

  pub run_woven : (input : List ℕ) → Woven x (run source input k) (run weave input k)
  run_woven input = (calls_alike k).by p.start [] _ _ (λ v s. stops) _
