-- The turn at a part of a machine that runs: what it makes of the machine, and that it is a part of the run.
use Rattle.std.proofs.Common.{◌≡◌, ℕ, suc, ◌<◌, true, false, List, [], ◌∷◌, Option, Some, None, refl, sym, subst}
use Rattle.std.specs.Prelude.{is_some}
use Rattle.step_meaning.specs.declared.value.Action.{Action}
use Rattle.step_meaning.specs.declared.program.Function.{Function}
use Rattle.run_turns.specs.Pending as pending
use Rattle.run_turns.specs.Turns.{Configuration, pushed, turn_at}
use Rattle.run_turns.specs.Typed.{IsTyped}
use Rattle.run_turns.proofs.ActivationsKept.{EndsNone}
use Rattle.run_turns.proofs.TurnLaws.{turn_falls}
use Rattle.run_state.specs.Machine.{Fixed}
use Rattle.run_laws.specs.Ends.{Goes}
use Rattle.run_laws.specs.Parts.{IsInside, steps_after}
use Rattle.run_start.specs.Running.{IsLeft, Runs}
use Rattle.run_laws.specs.Turned.{Turned}
use Rattle.run_steps.specs.Turning.{fixed_after}
use Rattle.run_laws.proofs.Following.{follows}
use Rattle.run_laws.proofs.Leaving.{leaves}
use Rattle.run_laws.proofs.Parts.{acts, inner}
use Rattle.run_laws.proofs.Staying.{stays}

-- ---- the machine after it

nothing_left : (ps : List pending.Pending) → IsLeft ps → ps ≡ [] → ⊥
nothing_left ps h e = subst IsLeft e h

-- what else it has stays, but at the end of an activation
fixed_kept : (p : pending.Pending) (f : Fixed) → EndsNone p → fixed_after p true f ≡ f
fixed_kept (pending.Evaluate x) f e = refl
fixed_kept (pending.Locate x) f e = refl
fixed_kept (pending.Execute x) f e = refl
fixed_kept (pending.Operate o) f e = refl
fixed_kept (pending.Accessed y) f e = refl
fixed_kept (pending.Select x) f e = refl
fixed_kept (pending.Designate x) f e = refl
fixed_kept (pending.Conclude x) f e = refl
fixed_kept pending.Ignore f e = refl
fixed_kept (pending.Pass x) f e = refl
fixed_kept pending.Input f e = refl
fixed_kept pending.Output f e = refl
fixed_kept (pending.Arguments g es c) f e = refl
fixed_kept (pending.Argument g es c) f e = refl
fixed_kept (pending.Enter g c) f e = refl
fixed_kept (pending.Leave g y) f e = absurd e
fixed_kept (pending.Halt x) f e = refl
fixed_kept (pending.Over x) f e = refl

-- without a step, it stays there too
pub fixed_unmoved : (p : pending.Pending) (f : Fixed) → fixed_after p false f ≡ f
fixed_unmoved (pending.Evaluate x) f = refl
fixed_unmoved (pending.Locate x) f = refl
fixed_unmoved (pending.Execute x) f = refl
fixed_unmoved (pending.Operate o) f = refl
fixed_unmoved (pending.Accessed y) f = refl
fixed_unmoved (pending.Select x) f = refl
fixed_unmoved (pending.Designate x) f = refl
fixed_unmoved (pending.Conclude x) f = refl
fixed_unmoved pending.Ignore f = refl
fixed_unmoved (pending.Pass x) f = refl
fixed_unmoved pending.Input f = refl
fixed_unmoved pending.Output f = refl
fixed_unmoved (pending.Arguments g es c) f = refl
fixed_unmoved (pending.Argument g es c) f = refl
fixed_unmoved (pending.Enter g c) f = refl
fixed_unmoved (pending.Leave g y) f = refl
fixed_unmoved (pending.Halt x) f = refl
fixed_unmoved (pending.Over x) f = refl

goes_on : (o : Option Action) (steps : ℕ) (f : Fixed) (p : pending.Pending) (n : Configuration) → EndsNone p → Runs (steps_after o steps) f n → Goes (is_some o) steps f p n
goes_on None steps f p n e r = r
goes_on (Some a) steps f p n e r = record { exits = λ none. absurd (nothing_left n.work r.left none); runs = λ some. subst (λ f. Runs (suc steps) f n) (sym (fixed_kept p f e)) r }

goes : (steps : ℕ) (f : Fixed) (p : pending.Pending) (m : Configuration) → IsInside p → steps < 1099511627776 → Runs steps f (pushed p m) → Goes (is_some (turn_at f.core p m.told m).step) steps f p (turn_at f.core p m.told m).after
goes steps f (pending.Evaluate x) m i few r = goes_on (turn_at f.core (pending.Evaluate x) m.told m).step steps f (pending.Evaluate x) (turn_at f.core (pending.Evaluate x) m.told m).after tt (stays steps f (pending.Evaluate x) m i tt few r)
goes steps f (pending.Locate x) m i few r = goes_on (turn_at f.core (pending.Locate x) m.told m).step steps f (pending.Locate x) (turn_at f.core (pending.Locate x) m.told m).after tt (stays steps f (pending.Locate x) m i tt few r)
goes steps f (pending.Execute x) m i few r = goes_on (turn_at f.core (pending.Execute x) m.told m).step steps f (pending.Execute x) (turn_at f.core (pending.Execute x) m.told m).after tt (stays steps f (pending.Execute x) m i tt few r)
goes steps f (pending.Operate o) m i few r = goes_on (turn_at f.core (pending.Operate o) m.told m).step steps f (pending.Operate o) (turn_at f.core (pending.Operate o) m.told m).after tt (stays steps f (pending.Operate o) m i tt few r)
goes steps f (pending.Accessed y) m i few r = goes_on (turn_at f.core (pending.Accessed y) m.told m).step steps f (pending.Accessed y) (turn_at f.core (pending.Accessed y) m.told m).after tt (stays steps f (pending.Accessed y) m i tt few r)
goes steps f (pending.Select x) m i few r = goes_on (turn_at f.core (pending.Select x) m.told m).step steps f (pending.Select x) (turn_at f.core (pending.Select x) m.told m).after tt (stays steps f (pending.Select x) m i tt few r)
goes steps f (pending.Designate x) m i few r = goes_on (turn_at f.core (pending.Designate x) m.told m).step steps f (pending.Designate x) (turn_at f.core (pending.Designate x) m.told m).after tt (stays steps f (pending.Designate x) m i tt few r)
goes steps f (pending.Conclude x) m i few r = goes_on (turn_at f.core (pending.Conclude x) m.told m).step steps f (pending.Conclude x) (turn_at f.core (pending.Conclude x) m.told m).after tt (stays steps f (pending.Conclude x) m i tt few r)
goes steps f pending.Ignore m i few r = goes_on (turn_at f.core pending.Ignore m.told m).step steps f pending.Ignore (turn_at f.core pending.Ignore m.told m).after tt (stays steps f pending.Ignore m i tt few r)
goes steps f (pending.Pass x) m i few r = goes_on (turn_at f.core (pending.Pass x) m.told m).step steps f (pending.Pass x) (turn_at f.core (pending.Pass x) m.told m).after tt (stays steps f (pending.Pass x) m i tt few r)
goes steps f pending.Input m i few r = absurd i
goes steps f pending.Output m i few r = goes_on (turn_at f.core pending.Output m.told m).step steps f pending.Output (turn_at f.core pending.Output m.told m).after tt (stays steps f pending.Output m i tt few r)
goes steps f (pending.Arguments g es c) m i few r = goes_on (turn_at f.core (pending.Arguments g es c) m.told m).step steps f (pending.Arguments g es c) (turn_at f.core (pending.Arguments g es c) m.told m).after tt (stays steps f (pending.Arguments g es c) m i tt few r)
goes steps f (pending.Argument g es c) m i few r = goes_on (turn_at f.core (pending.Argument g es c) m.told m).step steps f (pending.Argument g es c) (turn_at f.core (pending.Argument g es c) m.told m).after tt (stays steps f (pending.Argument g es c) m i tt few r)
goes steps f (pending.Enter g c) m i few r = absurd i
goes steps f (pending.Leave g y) m i few r = leaves steps f g y m few r
goes steps f (pending.Halt x) m i few r = absurd i
goes steps f (pending.Over x) m i few r = goes_on (turn_at f.core (pending.Over x) m.told m).step steps f (pending.Over x) (turn_at f.core (pending.Over x) m.told m).after tt (stays steps f (pending.Over x) m i tt few r)

-- ---- the turn

module _ (steps : ℕ) (f : Fixed) (p : pending.Pending) (m : Configuration) (i : IsInside p) (few : steps < 1099511627776) (r : Runs steps f (pushed p m)) where
  turned_by : (fs : List Function) → IsTyped f.core fs (pushed p m) → Turned steps f p m
  turned_by [] k = absurd (acts f.core m.context.arguments m.work p m.told i k.1)
  turned_by (g ∷ gs) k =
      record {
        goes = goes steps f p m i few r;
        follows = follows f.core g gs p m.told i m k.1;
        falls = turn_falls f.core r.program.formed g gs p m.told (inner f.core r.program.formed g gs p i) m k.1;
      }

  pub turned : Turned steps f p m
  turned = turned_by r.functions r.typed
