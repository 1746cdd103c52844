-- Where no activation is left by the misuse of a register, the strict runs are the runs: a strict run is told by the direct instance as a run is, as long as nothing is stuck.
use Rattle.std.proofs.Common.{◌≡◌, ℕ, zero, suc, List, [], Option, Some, None, refl, sym, ◌∙◌}
use Rattle.std.specs.Prelude.{slice_get}
use Rattle.step_meaning.specs.declared.value.Value.{Value}
use Rattle.step_meaning.specs.declared.value.RunFault.TheVariants as fault
use Rattle.step_meaning.specs.declared.stmt.Stmt.{Stmt}
use Rattle.step_meaning.specs.declared.program.Core.{Core}
use Rattle.step_meaning.specs.declared.program.Function.{Function}
use Rattle.step_meaning.specs.Steps.{Trace, Stop, Fault, More}
use Rattle.step_meaning.specs.State.{State, Registers, unset_registers}
use Rattle.step_meaning.specs.Flow.{Resting, RestingCall, Direct, DirectCall, direct, World, state_of, Gives, Done, Over, Stuck, CallGives, Returned, Ended, onward, as_call, after_call}
use Rattle.step_meaning.specs.Calls.{calls, call_of, call_body}
use Rattle.step_meaning.specs.Runs.{start_state, start_world, exit_of, after_log}
use Rattle.step_meaning.specs.Strict.{strict, IsNotStuck, ActivationsSetRegisters, StrictRunsAgree}
use Rattle.step_meaning.proofs.Tells.{rest_after, rest_after_call, CallTells}
use Rattle.step_meaning.proofs.RelatedFlows.{RelatedFlows, related_activation}
use Rattle.step_meaning.proofs.Flows.{after_exit, run_logged}

record StrictlyTells {A : Type 0} (d : Resting A) (x : Direct A) : Type 0 where
  by : (rest : A → State → Registers → Trace) (w : World) (r : Registers) → IsNotStuck (x w r) → after_log w.log (d rest (state_of w) r) ≡ rest_after (x w r) rest

bind_tells : {A B : Type 0} {d : Resting A} {x : Direct A} {f : A → Resting B} {g : A → Direct B} → StrictlyTells d x → ((a : A) → StrictlyTells (f a) (g a)) → StrictlyTells (strict.bind d f) (direct.bind x g)
bind_tells {A = A} {B = B} {x = x} {f = f} {g = g} a b = record { by = λ rest w r k. a.by (λ v. f v rest) w r (first (x w r) k) ∙ on (x w r) rest k }
  where
    first : (o : Gives A) → IsNotStuck (onward o g) → IsNotStuck o
    first (Done v w r) k = tt
    first (Over e l) k = tt
    first (Stuck e l) k = k

    on : (o : Gives A) (rest : B → State → Registers → Trace) → IsNotStuck (onward o g) → rest_after o (λ v. f v rest) ≡ rest_after (onward o g) rest
    on (Done v w r) rest k = (b v).by rest w r k
    on (Over e l) rest k = refl
    on (Stuck e l) rest k = refl

through_tells : {d : RestingCall} {x : DirectCall} → CallTells d x → StrictlyTells (strict.through d) (direct.through x)
through_tells {x = x} a = record { by = λ rest w r k. a.by (λ v s. rest v s r) w ∙ on (x w) rest r }
  where
    on : (b : CallGives) (rest : Value → State → Registers → Trace) (r : Registers) → rest_after_call b (λ v s. rest v s r) ≡ rest_after (after_call b r) rest
    on (Returned v w) rest r = refl
    on (Ended e l) rest r = refl

abbrev strictly : RelatedFlows strict direct
strictly =
    record {
      AreRelated = λ {A} d x. StrictlyTells {A = A} d x;
      AreRelatedCalls = CallTells;
      pure = λ {A} a. record { by = λ rest w r k. refl };
      bind = λ {A} {B} {d} {d'} {f} {f'} a b. bind_tells {A = A} {B = B} {d = d} {x = d'} {f = f} {g = f'} a b;
      stop = λ {A} e. record { by = λ rest w r k. refl };
      halt = λ {A} here f. record { by = λ rest w r k. refl };
      misuse = λ {A} here f. record { by = λ rest w r k. absurd k };
      get = record { by = λ rest w r k. refl };
      put_memory = λ m. record { by = λ rest w r k. refl };
      put_ghosts = λ m. record { by = λ rest w r k. refl };
      put_input = λ bs. record { by = λ rest w r k. refl };
      put_made = λ n. record { by = λ rest w r k. refl };
      put_allocated = λ n. record { by = λ rest w r k. refl };
      registers = record { by = λ rest w r k. refl };
      put_registers = λ q. record { by = λ rest w r k. refl };
      emit = λ here a. record { by = λ rest w r k. refl };
      judge = λ j v b. record { by = λ rest w r k. refl };
      through = λ {d} {d'} a. through_tells {d = d} {x = d'} a;
    }

-- ---- calls

alone_tells : (own : Registers) {d : Resting Value} {x : Direct Value} → StrictlyTells d x → ((w : World) → IsNotStuck (x w own)) → CallTells (strict.alone own d) (direct.alone own x)
alone_tells own {x = x} a k = record { by = λ rest w. a.by (λ v s r. rest v s) w own (k w) ∙ on (x w own) rest }
  where
    on : (o : Gives Value) (rest : Value → State → Trace) → rest_after o (λ v s r. rest v s) ≡ rest_after_call (as_call o) rest
    on (Done v w r) rest = refl
    on (Over e l) rest = refl
    on (Stuck e l) rest = refl

module _ (q : Core) (sets : ActivationsSetRegisters q) (k : ℕ) where
  calls_tell : (depth g : ℕ) (vs : List Value) → CallTells (calls strict q k depth g vs) (calls direct q k depth g vs)
  calls_tell zero g vs = alone_tells [] (strictly.stop More) (λ w. tt)
  calls_tell (suc depth) g vs = called (slice_get q.functions g) refl (calls_tell depth)
    where
      body_tells : (f : Function) (b : Option (List Stmt)) → slice_get q.functions g ≡ Some f → f.body ≡ b → ((g : ℕ) (vs : List Value) → CallTells (calls strict q k depth g vs) (calls direct q k depth g vs))
          → CallTells (call_body strict q k (calls strict q k depth) g f b vs) (call_body direct q k (calls direct q k depth) g f b vs)
      body_tells f None e i h = alone_tells [] (strictly.stop (Fault fault.Invalid)) (λ w. tt)
      body_tells f (Some body) e i h =
          alone_tells (unset_registers f.registers) (related_activation strict direct strictly q k (calls strict q k depth) (calls direct q k depth) h g f body vs) (λ w. sets k depth g f body vs w e i)

      called : (o : Option Function) → slice_get q.functions g ≡ o → ((g : ℕ) (vs : List Value) → CallTells (calls strict q k depth g vs) (calls direct q k depth g vs))
          → CallTells (call_of strict q k (calls strict q k depth) g o vs) (call_of direct q k (calls direct q k depth) g o vs)
      called None e h = alone_tells [] (strictly.stop (Fault fault.Invalid)) (λ w. tt)
      called (Some f) e h = body_tells f f.body e refl h

-- for every core whose activations set their registers
pub strict_runs_agree : StrictRunsAgree
strict_runs_agree q sets input k =
    (calls_tell q sets k k q.start []).by (λ v s. Stop (exit_of v)) (start_world (start_state q input))
    ∙ (after_exit (calls direct q k k q.start [] (start_world (start_state q input)))
    ∙ sym (run_logged q input k))
