-- `getchar` as the next step.
use Rattle.std.proofs.Common.{◌≡◌, ℕ, suc, ◌+◌, List, [], ◌∷◌, Option, Some, None, Ok, Err, refl, sym, ap, subst, ◌∙◌, arith}
use Rattle.std.specs.Prelude.{pos}
use Rattle.std.proofs.Math.Nat.{mod-eq_of_lt}
use Rattle.std.proofs.lemmas.List.{append-nil}
use Rattle.step_meaning.specs.declared.value.Action.TheVariants as act
use Rattle.step_meaning.specs.declared.value.Value.TheVariants as value
use Rattle.step_meaning.specs.Flow.{step_by}
use Rattle.step_meaning.specs.Steps.{Step, Then}
use Rattle.weave_base.specs.declared.outside.Failed.{Failed}
use Rattle.weave_base.specs.Contents.{IsTaken}
use Rattle.run_turns.specs.Pending as pending
use Rattle.run_turns.specs.Rest.{rest}
use Rattle.run_turns.specs.Turns.{Configuration, after_byte, byte_read, giving, pushed}
use Rattle.run_state.specs.Machine.{Fixed}
use Rattle.run_start.specs.Running.{Runs}
use Rattle.run_laws.proofs.Reading.{read_follows, reads}
use Rattle.run_check.specs.Advancing.{IsByte, Makes, Reads, byte_number}

-- an input that begins with the byte
begins_with : Option ℕ → List ℕ
begins_with None = []
begins_with (Some b) = b ∷ []

its_number : (o : Option ℕ) → IsByte o → byte_read (begins_with o) ≡ value.Int (byte_number o)
unfolding begins_with
its_number None h = refl
its_number (Some b) h = ap (λ n. value.Int (pos n)) (mod-eq_of_lt h)

one_more : (n : ℕ) → suc n ≡ n + 1
one_more n = omega arith

module _ (steps : ℕ) (f : Fixed) (m : Configuration) (r : Runs steps f (pushed pending.Input m)) where
  pub runs_on : (o : Option ℕ) → IsByte o → Runs (steps + 1) f (giving (value.Int (byte_number o)) m)
  runs_on o h = subst (λ n. Runs n f (giving (value.Int (byte_number o)) m)) (one_more steps) (subst (λ v. Runs (suc steps) f (giving v m)) (its_number o h) (reads steps f m r (begins_with o)))

  input_step : Step
  input_step = record { action = act.Input; function = m.context.here.function; activation = m.context.here.activation; memory = m.memory }

  taken_well : (bytes : List ℕ) (o : Option ℕ) (left : Option (List ℕ)) → IsByte o → IsTaken {E = Failed} bytes (Ok o) left → (left ≡ Some (after_byte bytes)) × (byte_read bytes ≡ value.Int (byte_number o))
  taken_well bytes None left h k = (k.1 ∙ ap (λ bs. Some (after_byte bs)) (sym k.0), ap byte_read k.0)
  taken_well bytes (Some b) left h k = (k.2 ∙ ap (λ bs. Some (after_byte bs)) (sym k.1), ap byte_read k.1 ∙ ap (λ n. value.Int (pos n)) (mod-eq_of_lt h))

  module _ (chunks calls : ℕ) where
    pub read_made : (o : Option ℕ) → IsByte o → (left left' held : Option (List ℕ)) → ((bytes : List ℕ) → left ≡ Some bytes → IsTaken {E = Failed} bytes (Ok o) left') → Makes chunks calls f.core (pushed pending.Input m) (giving (value.Int (byte_number o)) m) left left' held held
    unfolding input_step
    read_made o h left left' held k =
        record {
          step = input_step;
          within = refl;
          taken = λ bytes e. (taken_well bytes o left' h (k bytes e)).0;
          follows = λ bytes e n. subst (λ v. rest f.core (pushed pending.Input m) bytes (suc n) ≡ Then (step_by m.context.here act.Input m.memory) (rest f.core (giving v m) (after_byte bytes) n)) (taken_well bytes o left' h (k bytes e)).1 (read_follows steps f m r bytes n);
          written = λ bytes e. e ∙ ap Some (sym (append-nil bytes));
          shows = λ h. refl;
        }

    pub read_failed : (x : Failed) (left left' : Option (List ℕ)) → ((bytes : List ℕ) → left ≡ Some bytes → IsTaken {E = Failed} bytes (Err x) left') → (held : Option (List ℕ)) → Reads chunks calls f.core (pushed pending.Input m) left left' held held
    unfolding input_step
    read_failed x left left' k held =
        record {
          kept_output = refl;
          step = input_step;
          next = λ bytes k. (rest f.core (giving (byte_read bytes) m) (after_byte bytes) k, read_follows steps f m r bytes k);
          is_input = refl;
          same = k;
        }
