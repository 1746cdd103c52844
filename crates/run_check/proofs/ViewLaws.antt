-- A machine that hasn't stopped has a step to come, and what an answer makes of it.
use Rattle.std.proofs.Common.{◌≡◌, ℕ, ◌+◌, ◌<◌, ◌≤◌, Option, Some, None, refl, arith}
use Rattle.run_state.specs.declared.machine.Machine.{Machine}
use Rattle.run_state.specs.Machine.{configuration_of, fixed_of}
use Rattle.run_start.specs.Running.{IsRunning}
use Rattle.run_check.specs.declared.advance.Advance.{Advance}
use Rattle.run_check.specs.declared.advance.Advance.TheVariants as advance
use Rattle.run_check.specs.Advancing.{steps_by}
use Rattle.run_check.specs.Views.{IsGoing, IsStop, stop_of}
use Rattle.run_check.proofs.GoingLaws.{cut_before, has_next}

few : (n : ℕ) → n ≤ 1000000000000 → n < 1099511627776
few n l = omega (arith, l)

pub is_going : (steps : ℕ) (x : Machine) (chunks calls : ℕ) (stopped : Option Advance) → steps ≤ 1000000000000 → IsRunning steps x → IsGoing (record { core = x.core.now; now = configuration_of x; chunks = chunks; calls = calls; steps = steps; stopped = stopped })
is_going steps x chunks calls stopped l r =
    let next = has_next steps (fixed_of x) (few steps l) (configuration_of x) r in
    record {
      cut = λ bytes. cut_before x.core.now (configuration_of x) bytes (next bytes 0).0 (next bytes 0).1 (next bytes 0).2;
      next = next;
    }

-- ---- after an answer

some_is_not_none : (a : Advance) → Some a ≡ None → ⊥
some_is_not_none a e = cc

pub is_step : (a : Advance) → stop_of a ≡ None → a ≡ advance.Step
is_step advance.Step e = refl
is_step (advance.Exit z) e = absurd (some_is_not_none (advance.Exit z) e)
is_step (advance.Fault x) e = absurd (some_is_not_none (advance.Fault x) e)
is_step advance.CellsFull e = absurd (some_is_not_none advance.CellsFull e)
is_step advance.CallsFull e = absurd (some_is_not_none advance.CallsFull e)
is_step advance.ReadFault e = absurd (some_is_not_none advance.ReadFault e)
is_step advance.WriteFault e = absurd (some_is_not_none advance.WriteFault e)

pub stop_is : (a : Advance) → IsStop (stop_of a)
stop_is advance.Step = tt
stop_is (advance.Exit z) = tt
stop_is (advance.Fault x) = tt
stop_is advance.CellsFull = tt
stop_is advance.CallsFull = tt
stop_is advance.ReadFault = tt
stop_is advance.WriteFault = tt

next_few : (n m : ℕ) → n < 1000000000000 → m ≡ n + 1 → m ≤ 1000000000000
next_few n m l e = omega (arith, l, e)

same_few : (n m : ℕ) → n < 1000000000000 → m ≡ n → m ≤ 1000000000000
same_few n m l e = omega (arith, l, e)

pub few_after : (a : Advance) (n m : ℕ) → n < 1000000000000 → m ≡ steps_by a n → m ≤ 1000000000000
few_after advance.Step n m l e = next_few n m l e
few_after (advance.Exit z) n m l e = next_few n m l e
few_after (advance.Fault x) n m l e = next_few n m l e
few_after advance.CellsFull n m l e = same_few n m l e
few_after advance.CallsFull n m l e = same_few n m l e
few_after advance.ReadFault n m l e = next_few n m l e
few_after advance.WriteFault n m l e = next_few n m l e
