-- A turn at a part that asks for nothing more: the machine goes on, with a plain step made or none.
use Rattle.std.proofs.Common.{◌≡◌, ℕ, suc, ◌+◌, ◌<◌, Bool, true, false, Option, Some, None, refl, sym, ap, subst, ◌∙◌, arith}
use Rattle.std.specs.Prelude.{is_some}
use Rattle.step_meaning.specs.declared.value.Action.{Action}
use Rattle.step_meaning.specs.declared.program.Core.{Core}
use Rattle.step_meaning.specs.Flow.{step_by}
use Rattle.step_meaning.specs.Steps.{Then}
use Rattle.step_meaning.proofs.Ranges.{false_is_not_true}
use Rattle.run_turns.specs.Pending as pending
use Rattle.run_turns.specs.Rest.{rest}
use Rattle.run_turns.specs.Turns.{Configuration, pushed, turn_at}
use Rattle.run_turns.specs.Weight.{load, weight}
use Rattle.run_state.specs.declared.machine.Machine.{Machine}
use Rattle.run_state.specs.Machine.{Fixed}
use Rattle.run_laws.specs.Actions.{IsPlainPart, IsPlainStep}
use Rattle.run_laws.specs.Ends.{Goes}
use Rattle.run_laws.specs.Follows.{Follows}
use Rattle.run_laws.specs.Granted.{HasCellsFor}
use Rattle.run_laws.specs.Parts.{IsInside}
use Rattle.run_start.specs.Running.{Runs}
use Rattle.run_laws.specs.Turned.{Turned}
use Rattle.run_steps.specs.Turning.{fixed_after}
use Rattle.run_laws.proofs.Actions.{turn_plain}
use Rattle.run_laws.proofs.Turned.{fixed_unmoved, turned}
use Rattle.run_check.specs.Going.{GoesTo, MakesPlain, SameProgram, is_asking}
use Rattle.run_check.specs.Showing.{IsShown}
use Rattle.run_check.proofs.MemoryLaws.{turn_shown}

-- ---- the parts

true_is_not_false : {A : Type 0} → true ≡ false → A
true_is_not_false e = absurd (no e)
  where
    no : true ≡ false → ⊥
    no e = cc

pub inside : (p : pending.Pending) → is_asking p ≡ false → IsInside p
inside (pending.Evaluate x) h = tt
inside (pending.Locate x) h = tt
inside (pending.Execute x) h = tt
inside (pending.Operate (pending.Convert j)) h = tt
inside (pending.Operate (pending.Unary o j)) h = tt
inside (pending.Operate (pending.BinaryRight o j e)) h = tt
inside (pending.Operate (pending.BinaryNow o j w)) h = tt
inside (pending.Operate (pending.CompareRight o e)) h = tt
inside (pending.Operate (pending.CompareNow o w)) h = tt
inside (pending.Operate pending.Negated) h = tt
inside (pending.Operate (pending.BothRight e)) h = tt
inside (pending.Operate (pending.EitherRight e)) h = tt
inside (pending.Operate pending.Truth) h = tt
inside (pending.Operate (pending.Choose e d)) h = tt
inside (pending.Operate pending.Discard) h = tt
inside (pending.Operate (pending.MoveRight size side e)) h = tt
inside (pending.Operate (pending.MoveNow size side w)) h = tt
inside (pending.Operate (pending.DifferenceRight unit e)) h = tt
inside (pending.Operate (pending.DifferenceNow unit w)) h = tt
inside (pending.Operate (pending.Store y l)) h = tt
inside (pending.Operate (pending.UpdateRight y o e w l)) h = tt
inside (pending.Operate (pending.UpdateNow y o w l old)) h = tt
inside (pending.Operate (pending.Instead w)) h = tt
inside (pending.Operate (pending.Allocate y)) h = true_is_not_false h
inside (pending.Operate pending.Release) h = tt
inside (pending.Accessed y) h = tt
inside (pending.Select x) h = tt
inside (pending.Designate x) h = tt
inside (pending.Conclude x) h = tt
inside pending.Ignore h = tt
inside (pending.Pass x) h = tt
inside pending.Input h = true_is_not_false h
inside pending.Output h = true_is_not_false h
inside (pending.Arguments g es c) h = tt
inside (pending.Argument g es c) h = tt
inside (pending.Enter g c) h = true_is_not_false h
inside (pending.Leave g y) h = tt
inside (pending.Halt x) h = true_is_not_false h
inside (pending.Over x) h = tt

pub plain_part : (p : pending.Pending) → is_asking p ≡ false → IsPlainPart p
plain_part (pending.Evaluate x) h = tt
plain_part (pending.Locate x) h = tt
plain_part (pending.Execute x) h = tt
plain_part (pending.Operate (pending.Convert j)) h = tt
plain_part (pending.Operate (pending.Unary o j)) h = tt
plain_part (pending.Operate (pending.BinaryRight o j e)) h = tt
plain_part (pending.Operate (pending.BinaryNow o j w)) h = tt
plain_part (pending.Operate (pending.CompareRight o e)) h = tt
plain_part (pending.Operate (pending.CompareNow o w)) h = tt
plain_part (pending.Operate pending.Negated) h = tt
plain_part (pending.Operate (pending.BothRight e)) h = tt
plain_part (pending.Operate (pending.EitherRight e)) h = tt
plain_part (pending.Operate pending.Truth) h = tt
plain_part (pending.Operate (pending.Choose e d)) h = tt
plain_part (pending.Operate pending.Discard) h = tt
plain_part (pending.Operate (pending.MoveRight size side e)) h = tt
plain_part (pending.Operate (pending.MoveNow size side w)) h = tt
plain_part (pending.Operate (pending.DifferenceRight unit e)) h = tt
plain_part (pending.Operate (pending.DifferenceNow unit w)) h = tt
plain_part (pending.Operate (pending.Store y l)) h = tt
plain_part (pending.Operate (pending.UpdateRight y o e w l)) h = tt
plain_part (pending.Operate (pending.UpdateNow y o w l old)) h = tt
plain_part (pending.Operate (pending.Instead w)) h = tt
plain_part (pending.Operate (pending.Allocate y)) h = true_is_not_false h
plain_part (pending.Operate pending.Release) h = tt
plain_part (pending.Accessed y) h = tt
plain_part (pending.Select x) h = tt
plain_part (pending.Designate x) h = tt
plain_part (pending.Conclude x) h = tt
plain_part pending.Ignore h = tt
plain_part (pending.Pass x) h = tt
plain_part pending.Input h = true_is_not_false h
plain_part pending.Output h = true_is_not_false h
plain_part (pending.Arguments g es c) h = tt
plain_part (pending.Argument g es c) h = tt
plain_part (pending.Enter g c) h = true_is_not_false h
plain_part (pending.Leave g y) h = tt
plain_part (pending.Halt x) h = true_is_not_false h
plain_part (pending.Over x) h = tt

pub no_cells : (x : Machine) (p : pending.Pending) (t : pending.Told) → is_asking p ≡ false → HasCellsFor x p t
no_cells x (pending.Evaluate z) t h = tt
no_cells x (pending.Locate z) t h = tt
no_cells x (pending.Execute z) t h = tt
no_cells x (pending.Operate (pending.Convert j)) (pending.Gave v) h = tt
no_cells x (pending.Operate (pending.Convert j)) (pending.Found u) h = tt
no_cells x (pending.Operate (pending.Convert j)) (pending.Left u) h = tt
no_cells x (pending.Operate (pending.Unary o j)) (pending.Gave v) h = tt
no_cells x (pending.Operate (pending.Unary o j)) (pending.Found u) h = tt
no_cells x (pending.Operate (pending.Unary o j)) (pending.Left u) h = tt
no_cells x (pending.Operate (pending.BinaryRight o j e)) (pending.Gave v) h = tt
no_cells x (pending.Operate (pending.BinaryRight o j e)) (pending.Found u) h = tt
no_cells x (pending.Operate (pending.BinaryRight o j e)) (pending.Left u) h = tt
no_cells x (pending.Operate (pending.BinaryNow o j w)) (pending.Gave v) h = tt
no_cells x (pending.Operate (pending.BinaryNow o j w)) (pending.Found u) h = tt
no_cells x (pending.Operate (pending.BinaryNow o j w)) (pending.Left u) h = tt
no_cells x (pending.Operate (pending.CompareRight o e)) (pending.Gave v) h = tt
no_cells x (pending.Operate (pending.CompareRight o e)) (pending.Found u) h = tt
no_cells x (pending.Operate (pending.CompareRight o e)) (pending.Left u) h = tt
no_cells x (pending.Operate (pending.CompareNow o w)) (pending.Gave v) h = tt
no_cells x (pending.Operate (pending.CompareNow o w)) (pending.Found u) h = tt
no_cells x (pending.Operate (pending.CompareNow o w)) (pending.Left u) h = tt
no_cells x (pending.Operate pending.Negated) (pending.Gave v) h = tt
no_cells x (pending.Operate pending.Negated) (pending.Found u) h = tt
no_cells x (pending.Operate pending.Negated) (pending.Left u) h = tt
no_cells x (pending.Operate (pending.BothRight e)) (pending.Gave v) h = tt
no_cells x (pending.Operate (pending.BothRight e)) (pending.Found u) h = tt
no_cells x (pending.Operate (pending.BothRight e)) (pending.Left u) h = tt
no_cells x (pending.Operate (pending.EitherRight e)) (pending.Gave v) h = tt
no_cells x (pending.Operate (pending.EitherRight e)) (pending.Found u) h = tt
no_cells x (pending.Operate (pending.EitherRight e)) (pending.Left u) h = tt
no_cells x (pending.Operate pending.Truth) (pending.Gave v) h = tt
no_cells x (pending.Operate pending.Truth) (pending.Found u) h = tt
no_cells x (pending.Operate pending.Truth) (pending.Left u) h = tt
no_cells x (pending.Operate (pending.Choose e d)) (pending.Gave v) h = tt
no_cells x (pending.Operate (pending.Choose e d)) (pending.Found u) h = tt
no_cells x (pending.Operate (pending.Choose e d)) (pending.Left u) h = tt
no_cells x (pending.Operate pending.Discard) (pending.Gave v) h = tt
no_cells x (pending.Operate pending.Discard) (pending.Found u) h = tt
no_cells x (pending.Operate pending.Discard) (pending.Left u) h = tt
no_cells x (pending.Operate (pending.MoveRight size side e)) (pending.Gave v) h = tt
no_cells x (pending.Operate (pending.MoveRight size side e)) (pending.Found u) h = tt
no_cells x (pending.Operate (pending.MoveRight size side e)) (pending.Left u) h = tt
no_cells x (pending.Operate (pending.MoveNow size side w)) (pending.Gave v) h = tt
no_cells x (pending.Operate (pending.MoveNow size side w)) (pending.Found u) h = tt
no_cells x (pending.Operate (pending.MoveNow size side w)) (pending.Left u) h = tt
no_cells x (pending.Operate (pending.DifferenceRight unit e)) (pending.Gave v) h = tt
no_cells x (pending.Operate (pending.DifferenceRight unit e)) (pending.Found u) h = tt
no_cells x (pending.Operate (pending.DifferenceRight unit e)) (pending.Left u) h = tt
no_cells x (pending.Operate (pending.DifferenceNow unit w)) (pending.Gave v) h = tt
no_cells x (pending.Operate (pending.DifferenceNow unit w)) (pending.Found u) h = tt
no_cells x (pending.Operate (pending.DifferenceNow unit w)) (pending.Left u) h = tt
no_cells x (pending.Operate (pending.Store y l)) (pending.Gave v) h = tt
no_cells x (pending.Operate (pending.Store y l)) (pending.Found u) h = tt
no_cells x (pending.Operate (pending.Store y l)) (pending.Left u) h = tt
no_cells x (pending.Operate (pending.UpdateRight y o e w l)) (pending.Gave v) h = tt
no_cells x (pending.Operate (pending.UpdateRight y o e w l)) (pending.Found u) h = tt
no_cells x (pending.Operate (pending.UpdateRight y o e w l)) (pending.Left u) h = tt
no_cells x (pending.Operate (pending.UpdateNow y o w l old)) (pending.Gave v) h = tt
no_cells x (pending.Operate (pending.UpdateNow y o w l old)) (pending.Found u) h = tt
no_cells x (pending.Operate (pending.UpdateNow y o w l old)) (pending.Left u) h = tt
no_cells x (pending.Operate (pending.Instead w)) (pending.Gave v) h = tt
no_cells x (pending.Operate (pending.Instead w)) (pending.Found u) h = tt
no_cells x (pending.Operate (pending.Instead w)) (pending.Left u) h = tt
no_cells x (pending.Operate (pending.Allocate y)) t h = true_is_not_false h
no_cells x (pending.Operate pending.Release) (pending.Gave v) h = tt
no_cells x (pending.Operate pending.Release) (pending.Found u) h = tt
no_cells x (pending.Operate pending.Release) (pending.Left u) h = tt
no_cells x (pending.Accessed y) t h = tt
no_cells x (pending.Select z) t h = tt
no_cells x (pending.Designate z) t h = tt
no_cells x (pending.Conclude z) t h = tt
no_cells x pending.Ignore t h = tt
no_cells x (pending.Pass z) t h = tt
no_cells x pending.Input t h = tt
no_cells x pending.Output t h = tt
no_cells x (pending.Arguments g es c) t h = tt
no_cells x (pending.Argument g es c) t h = tt
no_cells x (pending.Enter g c) t h = tt
no_cells x (pending.Leave g y) t h = tt
no_cells x (pending.Halt z) t h = tt
no_cells x (pending.Over z) t h = tt

-- ---- the program

pub same_program : (p : pending.Pending) (b : Bool) (f : Fixed) → SameProgram f (fixed_after p b f)
same_program (pending.Evaluate x) b f = record { core = refl; chunks = refl; calls = refl }
same_program (pending.Locate x) b f = record { core = refl; chunks = refl; calls = refl }
same_program (pending.Execute x) b f = record { core = refl; chunks = refl; calls = refl }
same_program (pending.Operate o) b f = record { core = refl; chunks = refl; calls = refl }
same_program (pending.Accessed y) b f = record { core = refl; chunks = refl; calls = refl }
same_program (pending.Select x) b f = record { core = refl; chunks = refl; calls = refl }
same_program (pending.Designate x) b f = record { core = refl; chunks = refl; calls = refl }
same_program (pending.Conclude x) b f = record { core = refl; chunks = refl; calls = refl }
same_program pending.Ignore b f = record { core = refl; chunks = refl; calls = refl }
same_program (pending.Pass x) b f = record { core = refl; chunks = refl; calls = refl }
same_program pending.Input b f = record { core = refl; chunks = refl; calls = refl }
same_program pending.Output b f = record { core = refl; chunks = refl; calls = refl }
same_program (pending.Arguments g es c) b f = record { core = refl; chunks = refl; calls = refl }
same_program (pending.Argument g es c) b f = record { core = refl; chunks = refl; calls = refl }
same_program (pending.Enter g c) b f = record { core = refl; chunks = refl; calls = refl }
same_program (pending.Leave g y) true f = record { core = refl; chunks = refl; calls = refl }
same_program (pending.Leave g y) false f = record { core = refl; chunks = refl; calls = refl }
same_program (pending.Halt x) b f = record { core = refl; chunks = refl; calls = refl }
same_program (pending.Over x) b f = record { core = refl; chunks = refl; calls = refl }

-- ---- the turn

is_none : (o : Option Action) → is_some o ≡ false → o ≡ None
is_none None e = refl
is_none (Some a) e = true_is_not_false e

pub few_steps : (n : ℕ) → n < 1000000000000 → n < 1099511627776
few_steps n l = omega (arith, l)

module _ (steps : ℕ) (f : Fixed) (p : pending.Pending) (m : Configuration) (asks : is_asking p ≡ false) (few : steps < 1000000000000) (r : Runs steps f (pushed p m)) where
  turn : Turned steps f p m
  turn = turned steps f p m (inside p asks) (few_steps steps few) r

  -- without a step
  pub moves : (b : Bool) (g : Fixed) (n : Configuration) → g ≡ fixed_after p b f → b ≡ is_some (turn_at f.core p m.told m).step → n ≡ (turn_at f.core p m.told m).after → b ≡ false → GoesTo steps f g (pushed p m) n
  moves b g n fixed made after none =
      let no_step : is_some (turn_at f.core p m.told m).step ≡ false = sym made ∙ none in
      let same : g ≡ f = fixed ∙ ap (λ b. fixed_after p b f) none ∙ fixed_unmoved p f in
      subst (λ (n : Configuration). GoesTo steps f g (pushed p m) n) (sym after)
      (subst (λ (g : Fixed). GoesTo steps f g (pushed p m) (turn_at f.core p m.told m).after) (sym same)
      (record {
        program = record { core = refl; chunks = refl; calls = refl };
        runs = subst (λ b. Goes b steps f p (turn_at f.core p m.told m).after) no_step turn.goes;
        same = subst (λ o. Follows f.core o (pushed p m) m.context.here m.memory (turn_at f.core p m.told m).after) (is_none (turn_at f.core p m.told m).step no_step) turn.follows;
      }))

  pub weighs_less : (b : Bool) (n : Configuration) → b ≡ is_some (turn_at f.core p m.told m).step → n ≡ (turn_at f.core p m.told m).after → b ≡ false → load n.work < weight p + load m.work
  weighs_less b n made after none = subst (λ (n : Configuration). load n.work < weight p + load m.work) (sym after) (turn.falls (is_none (turn_at f.core p m.told m).step (sym made ∙ none)))

  -- with one
  pub makes : (b : Bool) (g : Fixed) (n : Configuration) → g ≡ fixed_after p b f → b ≡ is_some (turn_at f.core p m.told m).step → n ≡ (turn_at f.core p m.told m).after → b ≡ true → MakesPlain steps f g (pushed p m) n
  makes b g n fixed made after some =
      subst (λ (n : Configuration). MakesPlain steps f g (pushed p m) n) (sym after)
      (subst (λ (g : Fixed). MakesPlain steps f g (pushed p m) (turn_at f.core p m.told m).after) (sym (fixed ∙ ap (λ b. fixed_after p b f) some))
      (by (turn_at f.core p m.told m).step refl (sym made ∙ some)))
    where
      by : (o : Option Action) → (turn_at f.core p m.told m).step ≡ o → is_some (turn_at f.core p m.told m).step ≡ true → MakesPlain steps f (fixed_after p true f) (pushed p m) (turn_at f.core p m.told m).after
      by None e is = false_is_not_true (sym (ap is_some e) ∙ is)
      by (Some a) e is =
          record {
            program = same_program p true f;
            goes = subst (λ b. Goes b steps f p (turn_at f.core p m.told m).after) is turn.goes;
            here = m.context.here;
            memory = m.memory;
            action = a;
            plain = subst IsPlainStep e (turn_plain f.core p m.told m (plain_part p asks));
            shows = subst (λ (o : Option Action). IsShown o m.memory (turn_at f.core p m.told m).after.memory) e (turn_shown f.core p m.told m (plain_part p asks));
            follows = subst (λ o. Follows f.core o (pushed p m) m.context.here m.memory (turn_at f.core p m.told m).after) e turn.follows;
          }

-- ---- several turns

module _ (steps : ℕ) where
  pub there : (f : Fixed) (m : Configuration) → Runs steps f m → GoesTo steps f f m m
  there f m r = record { program = record { core = refl; chunks = refl; calls = refl }; runs = r; same = λ input n. refl }

  both_programs : (f g h : Fixed) → SameProgram f g → SameProgram g h → SameProgram f h
  both_programs f g h p q = record { core = p.core ∙ q.core; chunks = p.chunks ∙ q.chunks; calls = p.calls ∙ q.calls }

  pub and_on : (f g h : Fixed) (a b c : Configuration) → GoesTo steps f g a b → GoesTo steps g h b c → GoesTo steps f h a c
  and_on f g h a b c x y =
      record {
        program = both_programs f g h x.program y.program;
        runs = y.runs;
        same = λ input n. x.same input n ∙ subst (λ (q : Core). rest q b input n ≡ rest q c input n) (sym x.program.core) (y.same input n);
      }

  pub and_makes : (f g h : Fixed) (a b c : Configuration) → GoesTo steps f g a b → MakesPlain steps g h b c → MakesPlain steps f h a c
  and_makes f g h a b c x y =
      record {
        program = both_programs f g h x.program y.program;
        goes = y.goes;
        here = y.here;
        memory = y.memory;
        action = y.action;
        plain = y.plain;
        shows = y.shows;
        follows = λ input n. x.same input (suc n) ∙ subst (λ (q : Core). rest q b input (suc n) ≡ Then (step_by y.here y.action y.memory) (rest q c input n)) (sym x.program.core) (y.follows input n);
      }
