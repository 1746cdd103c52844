-- The part on top of the stack, and those below it.
use Rattle.std.proofs.Common.{◌≡◌, ℕ, ◌+◌, ◌<◌, ◌≤◌, List, [], ◌∷◌, length, suc, refl, sym, ap, subst, arith}
use Rattle.step_meaning.specs.declared.program.Core.{Core}
use Rattle.run_turns.specs.Pending as pending
use Rattle.run_turns.specs.Turns.{Configuration, pushed}
use Rattle.run_state.specs.declared.machine.Machine.{Machine}
use Rattle.run_state.specs.declared.work.Work.{Work}
use Rattle.run_state.specs.Machine.{Fixed, all_pending, configuration_of, fixed_of, pending_of}
use Rattle.run_laws.proofs.Granted.{work_free}
use Rattle.run_start.specs.Running.{Runs}

pub all_counted : (q : Core) (ws : List Work) → length (all_pending q ws) ≡ length ws
all_counted q [] = refl
all_counted q (w ∷ ws) = ap suc (all_counted q ws)

-- a machine whose top part was taken off
pub with_top : (x : Machine) (w : Work) (ws : List Work) → x.work.0 ≡ w ∷ ws → configuration_of x ≡ pushed (pending_of x.core.now w) (configuration_of (record x { work = (ws, x.work.1) }))
with_top x w ws e = ap (λ (ws : List Work). record (configuration_of x) { work = all_pending x.core.now ws }) e

-- ---- room on the stack of a machine that runs

module _ (steps : ℕ) (x : Machine) (p : pending.Pending) (r : Runs steps (fixed_of x) (pushed p (configuration_of x))) where
  pub three_free : length x.work.0 + 3 ≤ x.work.1
  three_free = subst (λ (n : ℕ). n + 3 ≤ x.work.1) (all_counted x.core.now x.work.0) (work_free steps (fixed_of x) p (configuration_of x) r)

  pub two_free : length x.work.0 + 2 ≤ x.work.1
  two_free = let l = three_free in omega (arith, l)

  pub one_free : length x.work.0 < x.work.1
  one_free = let l = three_free in omega (arith, l)

-- ---- a machine that runs, by its state

pub runs_as : (steps : ℕ) (f g : Fixed) (m n : Configuration) → g ≡ f → n ≡ m → Runs steps f m → Runs steps g n
runs_as steps f g m n e h r = subst (λ (g : Fixed). Runs steps g n) (sym e) (subst (λ (n : Configuration). Runs steps f n) (sym h) r)

one_more : (n : ℕ) → suc n ≡ n + 1
one_more n = omega arith

-- after one step more
pub runs_next : (steps : ℕ) (f g : Fixed) (m n : Configuration) → g ≡ f → n ≡ m → Runs (suc steps) f m → Runs (steps + 1) g n
runs_next steps f g m n e h r = runs_as (steps + 1) f g m n e h (subst (λ (k : ℕ). Runs k f m) (one_more steps) r)
