-- `getchar` in a machine that runs: the machine runs on with the next byte, or -1.
use Rattle.std.proofs.Common.{◌≡◌, ℕ, suc, List, [], ◌∷◌, length, refl, sym, subst, arith}
use Rattle.step_meaning.specs.declared.value.Action.TheVariants as act
use Rattle.step_meaning.specs.declared.program.Function.{Function}
use Rattle.step_meaning.specs.Flow.{step_by}
use Rattle.step_meaning.specs.Statements.{Next, Broken, Continued, Returned}
use Rattle.step_meaning.specs.Steps.{Then}
use Rattle.run_memory.specs.Cells.{ValueIsNumbered}
use Rattle.run_turns.specs.Activations.{activations_of}
use Rattle.run_turns.specs.Pending as pending
use Rattle.run_turns.specs.Rest.{rest}
use Rattle.run_turns.specs.Room.{open_ends}
use Rattle.run_turns.specs.Turns.{Configuration, after_byte, byte_read, giving, pushed}
use Rattle.run_turns.specs.Typed.{IsTyped, Takes}
use Rattle.run_turns.proofs.CallsTyped.{read_typed}
use Rattle.run_turns.proofs.Devices.{input_makes}
use Rattle.run_state.specs.Machine.{Fixed}
use Rattle.run_start.specs.Running.{AreNested, EndAll, Runs}
use Rattle.run_laws.proofs.Parts.{end_all, is_left}
use Rattle.run_laws.proofs.Staying.{nested_again}

module _ (steps : ℕ) (f : Fixed) (m : Configuration) where
  -- nothing else was told
  told_next : (fs : List Function) (t : pending.Told) → Takes f.core fs m.context.arguments (pending.Input ∷ m.work) t → t ≡ pending.Left Next
  told_next [] (pending.Gave v) k = absurd k
  told_next [] (pending.Found l) k = absurd k
  told_next [] (pending.Left Next) k = refl
  told_next [] (pending.Left Broken) k = absurd k
  told_next [] (pending.Left Continued) k = absurd k
  told_next [] (pending.Left (Returned v)) k = absurd k
  told_next (g ∷ gs) (pending.Gave v) k = absurd k
  told_next (g ∷ gs) (pending.Found l) k = absurd k
  told_next (g ∷ gs) (pending.Left Next) k = refl
  told_next (g ∷ gs) (pending.Left Broken) k = absurd k
  told_next (g ∷ gs) (pending.Left Continued) k = absurd k
  told_next (g ∷ gs) (pending.Left (Returned v)) k = absurd k

  numbered_byte : (input : List ℕ) → ValueIsNumbered (byte_read input)
  numbered_byte [] = tt
  numbered_byte (b ∷ bs) = tt

  module _ (r : Runs steps f (pushed pending.Input m)) where
    told : m.told ≡ pending.Left Next
    told = told_next r.functions m.told r.typed.1

    reads_by : (input : List ℕ) (fs : List Function) → r.functions ≡ fs → Runs (suc steps) f (giving (byte_read input) m)
    reads_by input [] s = absurd (subst (λ t. Takes f.core [] m.context.arguments (pending.Input ∷ m.work) t) told (subst (λ fs. IsTyped f.core fs (pushed pending.Input m)) s r.typed).1)
    reads_by input (g ∷ gs) s =
        let typed : IsTyped f.core (g ∷ gs) (pushed pending.Input m) = subst (λ fs. IsTyped f.core fs (pushed pending.Input m)) s r.typed in
        let nested : AreNested r.registers (g ∷ gs) f (activations_of (pushed pending.Input m)) = subst (λ fs. AreNested r.registers fs f (activations_of (pushed pending.Input m))) s r.nested in
        let ends : open_ends m.work ≡ suc (length gs) = subst (λ fs. EndAll (length fs) (pending.Input ∷ m.work)) s r.ends in
        record {
          program = r.program;
          height = r.height;
          registers = r.registers;
          space = r.space;
          functions = g ∷ gs;
          nested = nested_again r.registers (g ∷ gs) f (activations_of (pushed pending.Input m)) (open_ends m.work) nested;
          typed = read_typed f.core r.program.formed g gs input m typed.0 (subst (λ t. Takes f.core (g ∷ gs) m.context.arguments (pending.Input ∷ m.work) t) told typed.1);
          numbered = (numbered_byte input, r.numbered.1.1, r.numbered.2);
          roomy = r.roomy.1;
          counted = r.counted;
          ends = end_all (suc (length gs)) m.work ends;
          left = is_left (length gs) m.work ends;
          made = let k = r.made in omega (arith, k);
          allocated = let k = r.allocated in omega (arith, k);
        }

    -- the machine runs on
    pub reads : (input : List ℕ) → Runs (suc steps) f (giving (byte_read input) m)
    reads input = reads_by input r.functions refl

    -- its step is a step of the run
    pub read_follows : (input : List ℕ) (n : ℕ) → rest f.core (pushed pending.Input m) input (suc n) ≡ Then (step_by m.context.here act.Input m.memory) (rest f.core (giving (byte_read input) m) (after_byte input) n)
    read_follows input n = subst (λ t. rest f.core (pushed pending.Input (record m { told = t })) input (suc n) ≡ Then (step_by m.context.here act.Input m.memory) (rest f.core (giving (byte_read input) m) (after_byte input) n)) (sym told) (input_makes f.core m input n)
