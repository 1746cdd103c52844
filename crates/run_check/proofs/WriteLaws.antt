-- `putchar` as the next step, and a fault that is due.
use Rattle.std.proofs.Common.{◌≡◌, ℕ, suc, ◌+◌, ◌<◌, ◌++◌, List, [], ◌∷◌, Option, Some, Err, refl, sym, ap, subst, ◌∙◌, arith}
use Rattle.std.specs.Prelude.{pos}
use Rattle.std.proofs.lemmas.List.{append-nil}
use Rattle.step_meaning.specs.declared.value.Action.TheVariants as act
use Rattle.step_meaning.specs.declared.value.RunFault.{RunFault}
use Rattle.step_meaning.specs.declared.value.Value.{Value}
use Rattle.step_meaning.specs.declared.value.Value.TheVariants as value
use Rattle.step_meaning.specs.declared.program.Core.{Core}
use Rattle.step_meaning.specs.declared.program.Function.{Function}
use Rattle.step_meaning.specs.Flow.{step_by}
use Rattle.step_meaning.specs.Statements.{Next, Broken, Continued, Returned}
use Rattle.step_meaning.specs.Steps.{Fault, Step, Then}
use Rattle.weave_base.specs.declared.outside.Failed.{Failed}
use Rattle.weave_base.specs.Contents.{IsPut}
use Rattle.run_turns.specs.Pending as pending
use Rattle.run_turns.specs.Rest.{rest}
use Rattle.run_turns.specs.Turns.{Configuration, byte_of, giving, pushed, telling, turn_at}
use Rattle.run_turns.specs.Typed.{Takes}
use Rattle.run_turns.proofs.Devices.{fault_ends}
use Rattle.run_state.specs.Machine.{Fixed}
use Rattle.run_laws.specs.Parts.{steps_after}
use Rattle.run_start.specs.Running.{Runs}
use Rattle.run_laws.proofs.Following.{plainly}
use Rattle.run_laws.proofs.Staying.{stays}
use Rattle.run_check.specs.Advancing.{Makes, MakesLast, Writes}

-- ---- `putchar`

-- what `putchar` is told is a value
gives_value : (q : Core) (fs : List Function) (vs : List Value) (ps : List pending.Pending) (t : pending.Told) → Takes q fs vs (pending.Output ∷ ps) t → (v : Value) × (t ≡ pending.Gave v)
gives_value q fs vs ps (pending.Gave v) k = (v, refl)
gives_value q [] vs ps (pending.Found l) k = absurd k
gives_value q [] vs ps (pending.Left Next) k = absurd k
gives_value q [] vs ps (pending.Left Broken) k = absurd k
gives_value q [] vs ps (pending.Left Continued) k = absurd k
gives_value q [] vs ps (pending.Left (Returned w)) k = absurd k
gives_value q (g ∷ gs) vs ps (pending.Found l) k = absurd k
gives_value q (g ∷ gs) vs ps (pending.Left Next) k = absurd k
gives_value q (g ∷ gs) vs ps (pending.Left Broken) k = absurd k
gives_value q (g ∷ gs) vs ps (pending.Left Continued) k = absurd k
gives_value q (g ∷ gs) vs ps (pending.Left (Returned w)) k = absurd k

one_more : (n : ℕ) → suc n ≡ n + 1
one_more n = omega arith

module _ (steps : ℕ) (f : Fixed) (m : Configuration) (r : Runs steps f (pushed pending.Output m)) where
  pub output_told : (v : Value) × (m.told ≡ pending.Gave v)
  output_told = gives_value f.core r.functions m.context.arguments m.work m.told r.typed.1

  module _ (v : Value) (gave : m.told ≡ pending.Gave v) where
    pub writes_on : steps < 1099511627776 → Runs (steps + 1) f (giving (value.Int (pos (byte_of v))) m)
    writes_on few = subst (λ n. Runs n f (giving (value.Int (pos (byte_of v))) m)) (one_more steps) (subst (λ t. Runs (steps_after (turn_at f.core pending.Output t m).step steps) f (turn_at f.core pending.Output t m).after) gave (stays steps f pending.Output m tt tt few r))

    output_step : Step
    output_step = record { action = act.Output (byte_of v); function = m.context.here.function; activation = m.context.here.activation; memory = m.memory }

    output_follows : (input : List ℕ) (n : ℕ) → rest f.core (pushed pending.Output m) input (suc n) ≡ Then (step_by m.context.here (act.Output (byte_of v)) m.memory) (rest f.core (giving (value.Int (pos (byte_of v))) m) input n)
    output_follows input n = subst (λ t. rest f.core (pushed pending.Output (telling t m)) input (suc n) ≡ Then (step_by m.context.here (act.Output (byte_of v)) m.memory) (rest f.core (giving (value.Int (pos (byte_of v))) m) input n)) (sym gave) (plainly f.core pending.Output (pending.Gave v) tt m input n)

    module _ (chunks calls : ℕ) where
      pub write_made : (left held held' : Option (List ℕ)) → ((bytes : List ℕ) → held ≡ Some bytes → held' ≡ Some (bytes ++ byte_of v ∷ [])) → Makes chunks calls f.core (pushed pending.Output m) (giving (value.Int (pos (byte_of v))) m) left left held held'
      unfolding output_step
      write_made left held held' k = record { step = output_step; within = refl; taken = λ bytes e. e; follows = λ bytes e n. output_follows bytes n; written = k; shows = λ h. refl }

      pub write_failed : (x : Failed) (held held' : Option (List ℕ)) → ((bytes : List ℕ) → held ≡ Some bytes → IsPut {E = Failed} bytes (byte_of v ∷ []) (Err x) held') → (left : Option (List ℕ)) → Writes chunks calls f.core (pushed pending.Output m) left left held held'
      unfolding output_step
      write_failed x held held' k left = record { kept_input = refl; step = output_step; next = λ bytes k. (rest f.core (giving (value.Int (pos (byte_of v))) m) bytes k, output_follows bytes k); byte = byte_of v; is_output = refl; prefix = k }

-- ---- a fault that is due

module _ (chunks calls : ℕ) (q : Core) (x : RunFault) (m : Configuration) where
  halt_step : Step
  halt_step = record { action = act.Halt x; function = m.context.here.function; activation = m.context.here.activation; memory = m.memory }

  pub halt_made : (left held : Option (List ℕ)) → MakesLast chunks calls q (pushed (pending.Halt x) m) (Fault x) (pushed (pending.Over x) m) left left held held
  unfolding halt_step
  halt_made left held =
      record {
        made = record { step = halt_step; within = refl; taken = λ bytes e. e; follows = λ bytes e n. plainly q (pending.Halt x) m.told tt m bytes n; written = λ bytes e. e ∙ ap Some (sym (append-nil bytes)); shows = λ h. refl };
        last = λ bytes n. fault_ends q m x bytes n;
      }
