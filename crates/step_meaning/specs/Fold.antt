-- The fold of hooks along a list of steps: the steps, with the verdicts that the hooks give before each.
-- It keeps one cell for each ghost variable of file scope, which starts with 0 or null, and for each activation its ghost variables, which hold nothing until set. These stand apart from the memories of the steps.
use Rattle.std.specs.Prelude.{◌≡◌, ◌↔◌, ℕ, ◌≤◌, Bool, true, false, ◌&&◌, cond, ◌==◌, List, [], ◌∷◌, ◌++◌, map, length, take, replicate, Option, Some, None, IsTrue}
use Rattle.step_meaning.specs.declared.value.Action.{Action}
use Rattle.step_meaning.specs.declared.value.Action.TheVariants as act
use Rattle.step_meaning.specs.declared.stmt.Stmt.{Stmt}
use Rattle.step_meaning.specs.declared.stmt.Stmt.TheVariants.{Ghost, Assert}
use Rattle.step_meaning.specs.declared.program.Core.{Core}
use Rattle.step_meaning.specs.declared.program.Declared.{Declared}
use Rattle.step_meaning.specs.declared.program.Hooks.{Hooks}
use Rattle.step_meaning.specs.declared.program.HookPoint.{HookPoint}
use Rattle.step_meaning.specs.declared.program.HookPlace.{HookPlace}
use Rattle.step_meaning.specs.declared.program.HookPlace.TheVariants as place
use Rattle.step_meaning.specs.Memory.{Memory, Frame, empty_block, frame_of}
use Rattle.step_meaning.specs.Steps.{Step, Verdict, Item, Made, Judged}
use Rattle.step_meaning.specs.Views.{Sight}
use Rattle.step_meaning.specs.Predicates.{holds}
use Rattle.step_meaning.specs.Ghosts.{sight_with, ghosts_by}
use Rattle.step_meaning.specs.Calls.{with_frame}
use Rattle.step_meaning.specs.Runs.{ghost_block}
use Rattle.step_meaning.specs.StepViews.{sight_of}
use Rattle.step_meaning.specs.Traced.{is_return, IsTraced}
use Rattle.step_meaning.specs.Verdicts.{verdicts, verdicts_before, AreSafe, HasNoAccept, HasOneAccept}

-- ---- the points that fit a step

abbrev pub fits_action : HookPlace → Action → Bool
fits_action place.Enter (act.Enter g vs) = true
fits_action place.Return (act.Return g v) = true
fits_action place.Read (act.Read p) = true
fits_action place.Write (act.Write p v) = true
fits_action place.Call (act.Call g) = true
fits_action place.Call act.Input = true
fits_action place.Call (act.Output b) = true
fits_action place.Call (act.Malloc n p k) = true
fits_action place.Call (act.Free p) = true
fits_action place.Changed _ = true
fits_action _ _ = false

-- a point of the function that executes the step, at a place that fits its action
abbrev pub fits_step : HookPoint → Step → Bool
fits_step p s = p.function == s.function && fits_action p.place s.action

-- the code of the points that fit, in the order of the points
abbrev pub code_at : List HookPoint → Step → List Stmt
code_at [] s = []
code_at (p ∷ ps) s = cond (fits_step p s) p.code [] ++ code_at ps s

-- the ghost variables of a function: the saves of its points in the order of the points, numbered from 0
abbrev pub saves_of : List HookPoint → ℕ → List Declared
saves_of [] f = []
saves_of (p ∷ ps) f = cond (p.function == f) p.saves [] ++ saves_of ps f

-- ---- code at a step: ghost code changes the ghost variables, an assertion gives a verdict

abbrev pub ghosts_after_code : Sight → List Stmt → Memory → Memory
ghosts_after_code s [] ghosts = ghosts
ghosts_after_code s (Ghost g ∷ code) ghosts = ghosts_after_code s code (ghosts_by s g ghosts)
ghosts_after_code s (_ ∷ code) ghosts = ghosts_after_code s code ghosts

abbrev pub verdicts_of_code : Sight → List Stmt → Memory → List Verdict
verdicts_of_code s [] ghosts = []
verdicts_of_code s (Ghost g ∷ code) ghosts = verdicts_of_code s code (ghosts_by s g ghosts)
verdicts_of_code s (Assert k j r ∷ code) ghosts = record { monitor = j; kind = k; truth = holds (sight_with s ghosts) r } ∷ verdicts_of_code s code ghosts
verdicts_of_code s (_ ∷ code) ghosts = verdicts_of_code s code ghosts

-- ---- the fold

module _ (q : Core) (h : Hooks) where
  -- the ghost variables of file scope have the numbers from `first` on; those below are not the hooks' own, and have no cells
  abbrev pub start_cells : Memory
  start_cells = record { globals = replicate h.first [] ++ map (ghost_block q.layouts) h.globals; frames = []; heap = [] }

  abbrev pub unset_saves : Step → Frame
  unset_saves s = record { activation = s.activation; locals = map (empty_block q.layouts) (saves_of h.points s.function) }

  abbrev pub with_new_frame : Option Frame → Frame → Memory → Memory
  with_new_frame (Some old) f ghosts = ghosts
  with_new_frame None f ghosts = with_frame f ghosts

  -- the ghost variables at a step: those of its activation hold nothing where it made no step before
  abbrev pub cells_at : Step → Memory → Memory
  cells_at s ghosts = with_new_frame (frame_of s.activation ghosts.frames) (unset_saves s) ghosts

  module _ (ss : List Step) where
    -- the verdicts before each of these steps of the list, where the ghost variables are these before them
    abbrev pub fold_from : Memory → List Step → List Item
    fold_from ghosts [] = []
    fold_from ghosts (s ∷ more) =
        map Judged (verdicts_of_code (sight_of q ss s) (code_at h.points s) (cells_at s ghosts))
        ++ (Made s ∷ fold_from (ghosts_after_code (sight_of q ss s) (code_at h.points s) (cells_at s ghosts)) more)

  abbrev pub fold : List Step → List Item
  fold ss = fold_from ss start_cells ss

  -- ---- the fold judges, where `judge` says which lists of steps meet the monitor

  -- the Safe verdicts before the n-th step are all true exactly where the first n steps meet the monitor
  pub record FoldJudges (judge : List Step → Type 0) : Type 0 where
    pub judged : (ss : List Step) → IsTraced q ss → (n : ℕ) → n ≤ length ss → AreSafe h.monitor (verdicts_before n (fold ss)) ↔ judge (take n ss)

  -- a property has no Accept verdict
  pub record FoldHasNoAccept : Type 0 where
    pub none : (ss : List Step) → HasNoAccept h.monitor (verdicts (fold ss))

  -- where the last step is the Return of `main`, an automaton has one Accept verdict, which says whether it accepts the list
  pub record FoldAccepts (accepts : List Step → Type 0) : Type 0 where
    pub accepted : (before : List Step) (s : Step) → IsTraced q (before ++ (s ∷ [])) → s.function ≡ q.start → IsTrue (is_return s.action)
        → HasOneAccept h.monitor (accepts (before ++ (s ∷ []))) (verdicts (fold (before ++ (s ∷ []))))
