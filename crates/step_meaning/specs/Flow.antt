-- The operations that the meaning of a program is written in. The meaning is one text over a record of them, `Flow`, which has two instances.
-- `resting` is the definition: a run computes in it, so that what small programs do is shown by computing. `direct` serves proofs: what a part of a program gives is data there. That the two give the same run is a law.
use Rattle.std.specs.Prelude.{ℕ, Bool, List, ◌∷◌}
use Rattle.step_meaning.specs.declared.value.Value.{Value}
use Rattle.step_meaning.specs.declared.value.Action.{Action}
use Rattle.step_meaning.specs.declared.value.Action.TheVariants as act
use Rattle.step_meaning.specs.declared.value.RunFault.{RunFault}
use Rattle.step_meaning.specs.declared.stmt.VerdictKind.{VerdictKind}
use Rattle.step_meaning.specs.Memory.{Memory}
use Rattle.step_meaning.specs.Steps.{Item, Made, Judged, End, Fault, Trace, Stop, Then}
use Rattle.step_meaning.specs.State.{State, Registers, Here}

pub record Flow : Type 1 where
  -- what a part of a program does that gives an A
  pub Does : Type 0 → Type 0
  -- what a call does, which neither sees nor changes the caller's registers
  pub Plain : Type 0
  pub pure : {A : Type 0} → A → Does A
  pub bind : {A B : Type 0} → Does A → (A → Does B) → Does B
  -- the run ends here
  pub stop : {A : Type 0} → End → Does A
  -- the run ends by a fault, which is a step
  pub halt : {A : Type 0} → Here → RunFault → Does A
  -- the same for a register that holds nothing, or that is used at another type
  pub misuse : {A : Type 0} → Here → RunFault → Does A
  pub get : Does State
  pub put_memory : Memory → Does (Unit {0})
  pub put_ghosts : Memory → Does (Unit {0})
  pub put_input : List ℕ → Does (Unit {0})
  pub put_made : ℕ → Does (Unit {0})
  pub put_allocated : ℕ → Does (Unit {0})
  -- the registers of the activation
  pub registers : Does Registers
  pub put_registers : Registers → Does (Unit {0})
  -- a step
  pub emit : Here → Action → Does (Unit {0})
  -- a verdict
  pub judge : ℕ → VerdictKind → Bool → Does (Unit {0})
  -- what an activation does with registers of its own, as a call
  pub alone : Registers → Does Value → Plain
  -- a call, as a part of its caller
  pub through : Plain → Does Value

abbrev pub step_by : Here → Action → Memory → Item
step_by here a memory = Made (record { action = a; function = here.function; activation = here.activation; memory = memory })

abbrev pub verdict_of : ℕ → VerdictKind → Bool → Item
verdict_of k v b = Judged (record { monitor = k; kind = v; truth = b })

-- ---- the definition: given what follows for each result, state and registers, a part of a program is the run from here on

abbrev pub Resting : Type 0 → Type 0
Resting A = (A → State → Registers → Trace) → State → Registers → Trace

abbrev pub RestingCall : Type 0
RestingCall = (Value → State → Trace) → State → Trace

abbrev pub resting : Flow
resting =
    record {
      Does = Resting;
      Plain = RestingCall;
      pure = λ {A} a. λ rest s r. rest a s r;
      bind = λ {A} {B} p f. λ rest. p (λ a. f a rest);
      stop = λ {A} e. λ rest s r. Stop e;
      halt = λ {A} here f. λ rest s r. Then (step_by here (act.Halt f) s.memory) (Stop (Fault f));
      misuse = λ {A} here f. λ rest s r. Then (step_by here (act.Halt f) s.memory) (Stop (Fault f));
      get = λ rest s r. rest s s r;
      put_memory = λ m. λ rest s r. rest tt (record s { memory = m }) r;
      put_ghosts = λ m. λ rest s r. rest tt (record s { ghosts = m }) r;
      put_input = λ bs. λ rest s r. rest tt (record s { input = bs }) r;
      put_made = λ n. λ rest s r. rest tt (record s { made = n }) r;
      put_allocated = λ n. λ rest s r. rest tt (record s { allocated = n }) r;
      registers = λ rest s r. rest r s r;
      put_registers = λ q. λ rest s r. rest tt s q;
      emit = λ here a. λ rest s r. Then (step_by here a s.memory) (rest tt s r);
      judge = λ k v b. λ rest s r. Then (verdict_of k v b) (rest tt s r);
      alone = λ own p. λ rest s. p (λ v s r. rest v s) s own;
      through = λ p. λ rest s r. p (λ v s. rest v s r) s;
    }

-- ---- the other instance: what a part of a program gives, from a world with the items so far

pub record World : Type 0 where
  pub memory : Memory
  pub ghosts : Memory
  pub input : List ℕ
  pub made : ℕ
  pub allocated : ℕ
  -- the newest first
  pub log : List Item

abbrev pub state_of : World → State
state_of w = record { memory = w.memory; ghosts = w.ghosts; input = w.input; made = w.made; allocated = w.allocated }

-- a result, an end of the run, or the end that the misuse of a register is
pub data Gives (A : Type 0) : Type 0 where
  Done : A → World → Registers → Gives A
  Over : End → List Item → Gives A
  Stuck : End → List Item → Gives A

-- what a call gives
pub data CallGives : Type 0 where
  Returned : Value → World → CallGives
  Ended : End → List Item → CallGives

abbrev pub onward : {A B : Type 0} → Gives A → (A → World → Registers → Gives B) → Gives B
onward (Done a w r) f = f a w r
onward (Over e l) f = Over e l
onward (Stuck e l) f = Stuck e l

abbrev pub as_call : Gives Value → CallGives
as_call (Done v w r) = Returned v w
as_call (Over e l) = Ended e l
as_call (Stuck e l) = Ended e l

abbrev pub after_call : CallGives → Registers → Gives Value
after_call (Returned v w) r = Done v w r
after_call (Ended e l) r = Over e l

abbrev pub Direct : Type 0 → Type 0
Direct A = World → Registers → Gives A

abbrev pub DirectCall : Type 0
DirectCall = World → CallGives

abbrev pub direct : Flow
direct =
    record {
      Does = Direct;
      Plain = DirectCall;
      pure = λ {A} a. λ w r. Done a w r;
      bind = λ {A} {B} p f. λ w r. onward (p w r) f;
      stop = λ {A} e. λ w r. Over e w.log;
      halt = λ {A} here f. λ w r. Over (Fault f) (step_by here (act.Halt f) w.memory ∷ w.log);
      misuse = λ {A} here f. λ w r. Stuck (Fault f) (step_by here (act.Halt f) w.memory ∷ w.log);
      get = λ w r. Done (state_of w) w r;
      put_memory = λ m. λ w r. Done tt (record w { memory = m }) r;
      put_ghosts = λ m. λ w r. Done tt (record w { ghosts = m }) r;
      put_input = λ bs. λ w r. Done tt (record w { input = bs }) r;
      put_made = λ n. λ w r. Done tt (record w { made = n }) r;
      put_allocated = λ n. λ w r. Done tt (record w { allocated = n }) r;
      registers = λ w r. Done r w r;
      put_registers = λ q. λ w r. Done tt w q;
      emit = λ here a. λ w r. Done tt (record w { log = step_by here a w.memory ∷ w.log }) r;
      judge = λ k v b. λ w r. Done tt (record w { log = verdict_of k v b ∷ w.log }) r;
      alone = λ own p. λ w. as_call (p w own);
      through = λ p. λ w r. after_call (p w) r;
    }
