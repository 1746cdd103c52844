-- What a turn asks of the machine is there in one that runs: room on its stacks, operands of their types, an activation that ends, and a number for a new heap block.
use Rattle.std.proofs.Common.{◌≡◌, ℕ, suc, ◌+◌, ◌*◌, ◌<◌, ◌≤◌, List, [], ◌∷◌, length, map, drop, refl, ap, subst, ◌∙◌, arith}
use Rattle.std.proofs.Math.Nat.{mul-le-mul_left}
use Rattle.step_meaning.specs.declared.value.Value.{Value}
use Rattle.step_meaning.specs.declared.program.Function.{Function}
use Rattle.step_meaning.specs.Memory.{HeapBlock}
use Rattle.step_meaning.specs.State.{Here}
use Rattle.step_meaning.proofs.Falling.{Falls}
use Rattle.step_meaning.proofs.TypedMemory.{heap_numbers}
use Rattle.run_memory.specs.Storage.{IsNewerBlock}
use Rattle.run_turns.specs.Activations.{activations_of, numbers}
use Rattle.run_turns.specs.Pending as pending
use Rattle.run_turns.specs.Room.{need, open_ends}
use Rattle.run_turns.specs.Turns.{Configuration, pushed}
use Rattle.run_turns.specs.Typed.{IsTyped}
use Rattle.run_turns.proofs.RoomLaw.{needs_some}
use Rattle.run_state.specs.declared.machine.Machine.{Machine}
use Rattle.run_state.specs.Machine.{Fixed, configuration_of, fixed_of, told_of}
use Rattle.run_arms.specs.Calls.{IsOpen}
use Rattle.run_laws.specs.Granted.{HasCells, HasCellsFor}
use Rattle.run_laws.specs.Parts.{IsInside}
use Rattle.run_start.specs.Running.{AreNested, Runs}
use Rattle.run_steps.specs.Turning.{MayTurn}
use Rattle.run_steps.proofs.Allowed.{Allocates}
use Rattle.run_steps.proofs.Conditions.{Allows, may_turn}
use Rattle.run_laws.proofs.Entering.{counted_callers, counted_frames}
use Rattle.run_laws.proofs.Parts.{acts, ends_within}
use Rattle.run_laws.proofs.Staying.{nested_again}

-- ---- room on the stacks

one_more : (e c : ℕ) → e ≤ c → suc e ≤ c + 1
one_more e c l = omega (arith, l)

within : (a b c : ℕ) → a ≤ b → b ≤ c → a ≤ c
within a b c l k = omega (arith, l, k)

-- what is below the part, the arguments and three places are within the room
both_fit : (height below arguments need ends calls room : ℕ) → below + arguments + need ≤ height * suc ends → 3 ≤ need → ends ≤ calls → height * (calls + 1) ≤ room → below + arguments + 3 ≤ room
both_fit height below arguments need ends calls room fits some few all =
    let wider : height * suc ends ≤ height * (calls + 1) = mul-le-mul_left height (one_more ends calls few) in
    omega (arith, fits, some, wider, all)

first_fits : (a b room : ℕ) → a + b + 3 ≤ room → a + 3 ≤ room
first_fits a b room h = omega (arith, h)

second_fits : (a b room : ℕ) → a + b + 3 ≤ room → b < room
second_fits a b room h = omega (arith, h)

module _ (steps : ℕ) (f : Fixed) (p : pending.Pending) (m : Configuration) (r : Runs steps f (pushed p m)) where
  few_open : open_ends m.work ≤ f.calls
  few_open = within (open_ends m.work) (length r.functions) f.calls (ends_within (length r.functions) p m.work r.ends) r.nested.within

  pub work_free : length m.work + 3 ≤ f.work
  work_free = first_fits (length m.work) (length m.context.arguments) f.work (both_fit r.height (length m.work) (length m.context.arguments) (need p) (open_ends m.work) f.calls f.work r.roomy.0 (needs_some p) few_open r.space.work)

  pub arguments_free : length m.context.arguments < f.arguments
  arguments_free = second_fits (length m.work) (length m.context.arguments) f.arguments (both_fit r.height (length m.work) (length m.context.arguments) (need p) (open_ends m.work) f.calls f.arguments r.roomy.0 (needs_some p) few_open r.space.arguments)

-- ---- an activation that ends

is_open : (a b n : ℕ) → a ≡ b → a ≡ suc n → 0 < b
is_open a b n e s = omega (arith, e, s)

opens : (x : Machine) (registers : ℕ) (g : Function) (gs : List Function) → AreNested registers (g ∷ gs) (fixed_of x) (activations_of (configuration_of x)) → IsOpen x
opens x registers g gs n =
    record {
      frame = is_open (length (numbers x.memory.memory.frames)) (length x.memory.memory.frames) (length gs) (counted_frames x.memory.memory.frames) n.frames;
      ghosts = is_open (length (numbers x.ghosts.memory.frames)) (length x.ghosts.memory.frames) (length gs) (counted_frames x.ghosts.memory.frames) (ap length n.ghost_frames ∙ n.frames);
      caller = is_open (length (map {B = Here} (λ c. c.here) (configuration_of x).context.callers)) (length x.callers.0) (length gs) (counted_callers x.callers.0 (drop 1 x.registers.activations)) n.callers;
    }

-- ---- a new heap block

newer_block : (bs : List HeapBlock) (n : ℕ) → Falls (heap_numbers bs) n → IsNewerBlock n bs
newer_block [] n h = tt
newer_block (b ∷ bs) n h = h.0

below : (a b c : ℕ) → a ≤ b → b < c → a < c
below a b c l k = omega (arith, l, k)

-- ---- the turn

module _ (steps : ℕ) (x : Machine) (few : steps < 1099511627776) where
  allocates : (p : pending.Pending) → Runs steps (fixed_of x) (pushed p (configuration_of x)) → (o : pending.Operand) (v : Value) → HasCells x o v → Allocates x o v
  allocates p r (pending.Convert j) v c = tt
  allocates p r (pending.Unary o j) v c = tt
  allocates p r (pending.BinaryRight o j e) v c = tt
  allocates p r (pending.BinaryNow o j w) v c = tt
  allocates p r (pending.CompareRight o e) v c = tt
  allocates p r (pending.CompareNow o w) v c = tt
  allocates p r pending.Negated v c = tt
  allocates p r (pending.BothRight e) v c = tt
  allocates p r (pending.EitherRight e) v c = tt
  allocates p r pending.Truth v c = tt
  allocates p r (pending.Choose e d) v c = tt
  allocates p r pending.Discard v c = tt
  allocates p r (pending.MoveRight size side e) v c = tt
  allocates p r (pending.MoveNow size side w) v c = tt
  allocates p r (pending.DifferenceRight unit e) v c = tt
  allocates p r (pending.DifferenceNow unit w) v c = tt
  allocates p r (pending.Store y l) v c = tt
  allocates p r (pending.UpdateRight y o e w l) v c = tt
  allocates p r (pending.UpdateNow y o w l old) v c = tt
  allocates p r (pending.Instead w) v c = tt
  allocates p r (pending.Allocate y) v c = record { newer = newer_block x.memory.memory.heap x.allocated r.typed.0.heap_falls; small = below x.allocated steps 1099511627776 r.allocated few; room = c }
  allocates p r pending.Release v c = tt

  allows : (g : Function) (gs : List Function) (p : pending.Pending) (t : pending.Told) (r : Runs steps (fixed_of x) (pushed p (configuration_of x))) → r.functions ≡ g ∷ gs → HasCellsFor x p t → Allows x p t
  allows g gs (pending.Evaluate x) t r s c = tt
  allows g gs (pending.Locate x) t r s c = tt
  allows g gs (pending.Execute x) t r s c = tt
  allows g gs (pending.Operate o) (pending.Gave v) r s c = allocates (pending.Operate o) r o v c
  allows g gs (pending.Operate o) (pending.Found l) r s c = tt
  allows g gs (pending.Operate o) (pending.Left l) r s c = tt
  allows g gs (pending.Accessed y) t r s c = tt
  allows g gs (pending.Select x) t r s c = tt
  allows g gs (pending.Designate x) t r s c = tt
  allows g gs (pending.Conclude x) t r s c = tt
  allows g gs pending.Ignore t r s c = tt
  allows g gs (pending.Pass x) t r s c = tt
  allows g gs pending.Input t r s c = tt
  allows g gs pending.Output t r s c = tt
  allows g gs (pending.Arguments i es n) t r s c = tt
  allows g gs (pending.Argument i es n) (pending.Gave v) r s c = record { room = arguments_free steps (fixed_of x) (pending.Argument i es n) (configuration_of x) r; counted = r.counted.0 }
  allows g gs (pending.Argument i es n) (pending.Found l) r s c = tt
  allows g gs (pending.Argument i es n) (pending.Left l) r s c = tt
  allows g gs (pending.Enter i n) t r s c = tt
  allows g gs (pending.Leave i y) (pending.Gave v) r s c = tt
  allows g gs (pending.Leave i y) (pending.Found l) r s c = tt
  allows g gs (pending.Leave i y) (pending.Left l) r s c = opens x r.registers g gs (nested_again r.registers (g ∷ gs) (fixed_of x) (activations_of (pushed (pending.Leave i y) (configuration_of x))) (open_ends (configuration_of x).work) (subst (λ fs. AreNested r.registers fs (fixed_of x) (activations_of (pushed (pending.Leave i y) (configuration_of x)))) s r.nested))
  allows g gs (pending.Halt x) t r s c = tt
  allows g gs (pending.Over x) t r s c = tt

  module _ (p : pending.Pending) (i : IsInside p) (r : Runs steps (fixed_of x) (pushed p (configuration_of x))) where
    may_by : (fs : List Function) → r.functions ≡ fs → HasCellsFor x p (told_of x.told) → MayTurn x p (told_of x.told)
    may_by [] s c = absurd (acts x.core.now x.arguments.0 (configuration_of x).work p (told_of x.told) i (subst (λ fs. IsTyped x.core.now fs (pushed p (configuration_of x))) s r.typed).1)
    may_by (g ∷ gs) s c = may_turn x.core.now g gs x x.arguments.0 (configuration_of x).work p (told_of x.told) (subst (λ fs. IsTyped x.core.now fs (pushed p (configuration_of x))) s r.typed).1 r.numbered.0 (allows g gs p (told_of x.told) r s c)

    pub may : HasCellsFor x p (told_of x.told) → MayTurn x p (told_of x.told)
    may c = may_by r.functions refl c
