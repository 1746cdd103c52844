-- When the two flows tell the same: the items of the direct one, and then the rest of the run after the same value and state.
use Rattle.std.proofs.Common.{◌≡◌, ℕ, Bool, true, false, cond, List, refl, ◌∙◌}
use Rattle.step_meaning.specs.declared.value.Value.{Value}
use Rattle.step_meaning.specs.declared.value.Action.{Action}
use Rattle.step_meaning.specs.declared.value.RunFault.{RunFault}
use Rattle.step_meaning.specs.declared.stmt.VerdictKind.{VerdictKind}
use Rattle.step_meaning.specs.Memory.{Memory}
use Rattle.step_meaning.specs.Steps.{End, Trace, Stop}
use Rattle.step_meaning.specs.State.{State, Registers, Here}
use Rattle.step_meaning.specs.Flow.{Resting, RestingCall, Direct, DirectCall, resting, direct, World, state_of, Gives, Done, Over, Stuck, CallGives, Returned, Ended, onward, as_call, after_call}
use Rattle.step_meaning.specs.Runs.{after_log}

abbrev pub rest_after : {A : Type 0} → Gives A → (A → State → Registers → Trace) → Trace
rest_after (Done a w r) rest = after_log w.log (rest a (state_of w) r)
rest_after (Over e l) rest = after_log l (Stop e)
rest_after (Stuck e l) rest = after_log l (Stop e)

abbrev pub rest_after_call : CallGives → (Value → State → Trace) → Trace
rest_after_call (Returned v w) rest = after_log w.log (rest v (state_of w))
rest_after_call (Ended e l) rest = after_log l (Stop e)

pub record Tells {A : Type 0} (d : Resting A) (x : Direct A) : Type 0 where
  pub by : (rest : A → State → Registers → Trace) (w : World) (r : Registers) → after_log w.log (d rest (state_of w) r) ≡ rest_after (x w r) rest

pub record CallTells (d : RestingCall) (x : DirectCall) : Type 0 where
  pub by : (rest : Value → State → Trace) (w : World) → after_log w.log (d rest (state_of w)) ≡ rest_after_call (x w) rest

pub tells_bind : {A B : Type 0} {d : Resting A} {x : Direct A} {f : A → Resting B} {g : A → Direct B} → Tells d x → ((a : A) → Tells (f a) (g a)) → Tells (resting.bind d f) (direct.bind x g)
tells_bind {A = A} {B = B} {x = x} {f = f} {g = g} a b = record { by = λ rest w r. a.by (λ v. f v rest) w r ∙ on (x w r) rest }
  where
    on : (o : Gives A) (rest : B → State → Registers → Trace) → rest_after o (λ v. f v rest) ≡ rest_after (onward o g) rest
    on (Done v w r) rest = (b v).by rest w r
    on (Over e l) rest = refl
    on (Stuck e l) rest = refl

pub tells_then : {A B : Type 0} {d : Resting A} {x : Direct A} {e : Resting B} {y : Direct B} → Tells d x → Tells e y → Tells (resting.bind d (λ a. e)) (direct.bind x (λ a. y))
tells_then a b = tells_bind a (λ v. b)

pub tells_pure : {A : Type 0} (a : A) → Tells (resting.pure a) (direct.pure a)
tells_pure a = record { by = λ rest w r. refl }

pub tells_stop : {A : Type 0} (e : End) → Tells (resting.stop {A = A} e) (direct.stop e)
tells_stop e = record { by = λ rest w r. refl }

pub tells_halt : {A : Type 0} (here : Here) (f : RunFault) → Tells (resting.halt {A = A} here f) (direct.halt here f)
tells_halt here f = record { by = λ rest w r. refl }

pub tells_misuse : {A : Type 0} (here : Here) (f : RunFault) → Tells (resting.misuse {A = A} here f) (direct.misuse here f)
tells_misuse here f = record { by = λ rest w r. refl }

pub tells_get : Tells resting.get direct.get
tells_get = record { by = λ rest w r. refl }

pub tells_put_memory : (x : Memory) → Tells (resting.put_memory x) (direct.put_memory x)
tells_put_memory x = record { by = λ rest w r. refl }

pub tells_put_ghosts : (x : Memory) → Tells (resting.put_ghosts x) (direct.put_ghosts x)
tells_put_ghosts x = record { by = λ rest w r. refl }

pub tells_put_input : (x : List ℕ) → Tells (resting.put_input x) (direct.put_input x)
tells_put_input x = record { by = λ rest w r. refl }

pub tells_put_made : (x : ℕ) → Tells (resting.put_made x) (direct.put_made x)
tells_put_made x = record { by = λ rest w r. refl }

pub tells_put_allocated : (x : ℕ) → Tells (resting.put_allocated x) (direct.put_allocated x)
tells_put_allocated x = record { by = λ rest w r. refl }

pub tells_registers : Tells resting.registers direct.registers
tells_registers = record { by = λ rest w r. refl }

pub tells_put_registers : (x : Registers) → Tells (resting.put_registers x) (direct.put_registers x)
tells_put_registers x = record { by = λ rest w r. refl }

pub tells_emit : (here : Here) (x : Action) → Tells (resting.emit here x) (direct.emit here x)
tells_emit here x = record { by = λ rest w r. refl }

pub tells_judge : (k : ℕ) (v : VerdictKind) (b : Bool) → Tells (resting.judge k v b) (direct.judge k v b)
tells_judge k v b = record { by = λ rest w r. refl }

pub tells_cond : {A : Type 0} (b : Bool) {d e : Resting A} {x y : Direct A} → Tells d x → Tells e y → Tells (cond b d e) (cond b x y)
tells_cond true p q = p
tells_cond false p q = q

pub call_tells_alone : (own : Registers) {d : Resting Value} {x : Direct Value} → Tells d x → CallTells (resting.alone own d) (direct.alone own x)
call_tells_alone own {x = x} a = record { by = λ rest w. a.by (λ v s r. rest v s) w own ∙ on (x w own) rest }
  where
    on : (o : Gives Value) (rest : Value → State → Trace) → rest_after o (λ v s r. rest v s) ≡ rest_after_call (as_call o) rest
    on (Done v w r) rest = refl
    on (Over e l) rest = refl
    on (Stuck e l) rest = refl

pub tells_through : {d : RestingCall} {x : DirectCall} → CallTells d x → Tells (resting.through d) (direct.through x)
tells_through {x = x} a = record { by = λ rest w r. a.by (λ v s. rest v s r) w ∙ on (x w) rest r }
  where
    on : (b : CallGives) (rest : Value → State → Registers → Trace) (r : Registers) → rest_after_call b (λ v s. rest v s r) ≡ rest_after (after_call b r) rest
    on (Returned v w) rest r = refl
    on (Ended e l) rest r = refl
