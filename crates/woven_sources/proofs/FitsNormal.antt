-- Hooks that fit a source fit its normal form, and a woven core that simulates the normal form simulates the source.
use Rattle.std.proofs.Common.{◌≡◌, ◌==◌, ℕ, suc, ◌≤◌, cond, ◌&&◌, List, [], ◌∷◌, length, Option, Some, None, refl, sym, ap, subst, ◌∙◌}
use Rattle.std.specs.Prelude.{◌↔◌, slice_get, option_map, option_and_then, nat_lt}
use Rattle.std.specs.List.{AllByRecursion}
use mathlib.Core.Path.{fun_ext}
use Rattle.step_meaning.specs.declared.value.Action.{Action}
use Rattle.step_meaning.specs.declared.value.Action.TheVariants as act
use Rattle.step_meaning.specs.declared.stmt.Stmt.{Stmt}
use Rattle.step_meaning.specs.declared.program.Core.{Core}
use Rattle.step_meaning.specs.declared.program.Declared.{Declared}
use Rattle.step_meaning.specs.declared.program.Function.{Function}
use Rattle.step_meaning.specs.declared.program.Hooks.{Hooks}
use Rattle.step_meaning.specs.declared.program.HookPoint.{HookPoint}
use Rattle.step_meaning.specs.Allowances.{type_of_parameter, type_of_result}
use Rattle.step_meaning.specs.Erasure.{Enter, Call, Return, name_if_any, function_name, shown_action, erased}
use Rattle.step_meaning.specs.ExpressionTypes.{parameter_types}
use Rattle.step_meaning.specs.Fit.{IsGhostOf, is_call_place, is_enter_place, is_return_place, hook_setting, hook_allowed, HookStatementFits, PointFitsFor, IsOwnMonitor, Fit, FitTogether}
use Rattle.step_meaning.specs.Fold.{fold}
use Rattle.step_meaning.specs.FoldSimulation.{FoldSimulates}
use Rattle.step_meaning.specs.Runs.{run}
use Rattle.step_meaning.specs.Steps.{Exit, Item, Made, Judged, items, steps, end}
use Rattle.step_meaning.specs.Traced.{IsFunctionOf}
use Rattle.step_meaning.specs.Verdicts.{verdicts, verdicts_before, AreSafe, accept_verdicts}
use Rattle.normal_laws.specs.NormalForm.{normal_function, normal_functions, normal_core}
use Rattle.normal_laws.specs.Agreement.{SameRuns}
use Rattle.normal_laws.proofs.ProgramsAgree.{normal_got}
use Rattle.normal_shapes.proofs.GoodPrograms.{same_parameters, same_result, still_bodied}

module _ (q : Core) where
  abbrev normal : Core
  normal = normal_core q

  -- ---- functions

  same_count : (i : ℕ) (fs : List Function) → length (normal_functions q i fs) ≡ length fs
  same_count i [] = refl
  same_count i (f ∷ fs) = ap suc (same_count (suc i) fs)

  same_parameter : (g i : ℕ) → type_of_parameter normal g i ≡ type_of_parameter q g i
  same_parameter g i = ap (option_and_then (λ f. slice_get (parameter_types f) i)) (normal_got q g) ∙ by (slice_get q.functions g)
    where
      by : (o : Option Function) → option_and_then (λ f. slice_get (parameter_types f) i) (option_map (λ f. normal_function q g f f.body) o) ≡ option_and_then (λ f. slice_get (parameter_types f) i) o
      by None = refl
      by (Some f) = ap (λ ts. slice_get ts i) (same_parameters q g f f.body)

  same_result_type : (g : ℕ) → type_of_result normal g ≡ type_of_result q g
  same_result_type g = ap (option_map (λ f. f.result)) (normal_got q g) ∙ by (slice_get q.functions g)
    where
      by : (o : Option Function) → option_map (λ f. f.result) (option_map (λ f. normal_function q g f f.body) o) ≡ option_map (λ f. f.result) o
      by None = refl
      by (Some f) = ap Some (same_result q g f f.body)

  function_there : (g : ℕ) (f : Function) → IsFunctionOf q g f → (k : Function) × IsFunctionOf normal g k
  function_there g f h = (normal_function q g f f.body, (normal_got q g ∙ ap (option_map (λ f. normal_function q g f f.body)) h.0, still_bodied q g f f.body refl ∙ h.1))

  -- ---- hooks

  ghost_fits : (d : Declared) → IsGhostOf q d → IsGhostOf normal d
  ghost_fits d h = record { scalar = h.scalar; layouts = h.layouts; rules = h.rules; depth = h.depth }

  ghosts_fit : (ds : List Declared) → AllByRecursion (IsGhostOf q) ds → AllByRecursion (IsGhostOf normal) ds
  ghosts_fit [] h = tt
  ghosts_fit (d ∷ ds) h = (ghost_fits d h.0, ghosts_fit ds h.1)

  same_allowed : (pt : HookPoint) → hook_allowed normal pt ≡ hook_allowed q pt
  same_allowed pt =
      ap (λ f. record (hook_allowed normal pt) { called = f }) (fun_ext (λ g. ap (λ n. is_call_place pt.place && nat_lt g n) (same_count 0 q.functions)))
      ∙ ap (λ f. record (hook_allowed normal pt) { called = λ g. is_call_place pt.place && nat_lt g (length q.functions); parameter_type = f })
      (fun_ext (λ g. fun_ext (λ i. ap (λ o. cond (is_enter_place pt.place && g == pt.function) o None) (same_parameter g i))))
      ∙ ap (λ f. record (hook_allowed q pt) { result_type = f })
      (fun_ext (λ g. ap (λ o. cond (is_return_place pt.place && g == pt.function) o None) (same_result_type g)))

  point_fits : (IsTheirs : ℕ → Type 0) (h : Hooks) (pt : HookPoint) → PointFitsFor IsTheirs q h pt → PointFitsFor IsTheirs normal h pt
  point_fits IsTheirs h pt p =
      record {
        function = function_there pt.function p.function.0 p.function.1;
        saves = ghosts_fit pt.saves p.saves;
        statements = p.statements;
        sets_own = p.sets_own;
        saves_at_enter = p.saves_at_enter;
        no_ghost_address = p.no_ghost_address;
        uses = p.uses;
        changed = p.changed;
        past = p.past;
        depth = p.depth;
        size = p.size;
        fits = subst (λ a. AllByRecursion (HookStatementFits (hook_setting q h pt.function) a) pt.code) (sym (same_allowed pt)) p.fits;
      }

  points_fit : (IsTheirs : ℕ → Type 0) (h : Hooks) (pts : List HookPoint) → AllByRecursion (PointFitsFor IsTheirs q h) pts → AllByRecursion (PointFitsFor IsTheirs normal h) pts
  points_fit IsTheirs h [] p = tt
  points_fit IsTheirs h (pt ∷ pts) p = (point_fits IsTheirs h pt p.0, points_fit IsTheirs h pts p.1)

  hooks_fit : (h : Hooks) → Fit q h → Fit normal h
  hooks_fit h f = record { globals = ghosts_fit h.globals f.globals; few_globals = f.few_globals; few_saves = f.few_saves; points = points_fit (IsOwnMonitor h) h h.points f.points }

  all_fit : (hs : List Hooks) → AllByRecursion (Fit q) hs → AllByRecursion (Fit normal) hs
  all_fit [] f = tt
  all_fit (h ∷ hs) f = (hooks_fit h f.0, all_fit hs f.1)

  pub fit_together : (hs : List Hooks) → FitTogether q hs → FitTogether normal hs
  fit_together hs f = record { each = all_fit hs f.each; from_one = f.from_one; distinct = f.distinct; numbered = f.numbered }

  -- ---- runs

  same_name : (g : ℕ) → function_name normal g ≡ function_name q g
  same_name g = ap name_if_any (normal_got q g) ∙ by (slice_get q.functions g)
    where
      kept : (f : Function) (b : Option (List Stmt)) → (normal_function q g f b).name ≡ f.name
      kept f None = refl
      kept f (Some ss) = refl

      by : (o : Option Function) → name_if_any (option_map (λ f. normal_function q g f f.body) o) ≡ name_if_any o
      by None = refl
      by (Some f) = kept f f.body

  same_action : (a : Action) → shown_action normal a ≡ shown_action q a
  same_action (act.Enter g vs) = ap (λ n. Enter n vs) (same_name g)
  same_action (act.Call g) = ap Call (same_name g)
  same_action (act.Return g v) = ap (λ n. Return n v) (same_name g)
  same_action (act.Read p) = refl
  same_action (act.Write p v) = refl
  same_action act.Input = refl
  same_action (act.Output b) = refl
  same_action (act.Malloc n p k) = refl
  same_action (act.Free p) = refl
  same_action act.Turn = refl
  same_action (act.Halt f) = refl

  same_shown : (is : List Item) → erased normal is ≡ erased q is
  same_shown [] = refl
  same_shown (Made s ∷ is) =
      ap (λ a. record { action = a; function = function_name normal s.function; activation = s.activation; memory = s.memory } ∷ erased normal is) (same_action s.action)
      ∙ ap (λ n. record { action = shown_action q s.action; function = n; activation = s.activation; memory = s.memory } ∷ erased normal is) (same_name s.function)
      ∙ ap (λ l. Rattle.step_meaning.specs.Erasure.shown_step q s ∷ l) (same_shown is)
  same_shown (Judged v ∷ is) = same_shown is

  pub simulates : (hs : List Hooks) (woven : Core) → SameRuns normal q → FoldSimulates normal hs woven → FoldSimulates q hs woven
  simulates hs woven same f =
      record {
        same_end = λ input k. f.same_end input k ∙ ap end (same input k);
        same_steps = λ input k. f.same_steps input k ∙ same_shown (items (run normal input k)) ∙ ap (λ t. erased q (items t)) (same input k);
        judged = λ input k n h c. subst (λ t. n ≤ length (steps t) → AreSafe h.monitor (verdicts_before n (items (run woven input k))) ↔ AreSafe h.monitor (verdicts_before n (fold q h (steps t)))) (same input k) (f.judged input k n h c);
        accepted = λ input k n h c. subst (λ t. n ≤ length (steps t) → accept_verdicts h.monitor (verdicts_before n (items (run woven input k))) ≡ accept_verdicts h.monitor (verdicts_before n (fold q h (steps t)))) (same input k) (f.accepted input k n h c);
        accepted_at_exit = λ input k v h c. subst (λ t. end (run woven input k) ≡ Exit v → accept_verdicts h.monitor (verdicts (items (run woven input k))) ≡ accept_verdicts h.monitor (verdicts (fold q h (steps t)))) (same input k) (f.accepted_at_exit input k v h c);
        theirs = f.theirs;
      }
