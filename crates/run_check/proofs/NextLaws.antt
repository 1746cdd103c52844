-- From turns without a step to the next step: it is the next step of the machine before them.
use Rattle.std.proofs.Common.{◌≡◌, ◌⊎◌, inl, inr, arith, ℕ, suc, ◌+◌, false, ◌||◌, List, [], ◌++◌, Option, Some, refl, sym, ap, subst, ◌∙◌}
use Rattle.std.proofs.lemmas.List.{append-nil}
use Rattle.step_meaning.specs.declared.value.Action.{Action}
use Rattle.step_meaning.specs.declared.value.Action.TheVariants as act
use Rattle.step_meaning.specs.declared.program.Core.{Core}
use Rattle.step_meaning.specs.Limits.{passes_calls, passes_cells}
use Rattle.step_meaning.specs.Memory.{Memory}
use Rattle.step_meaning.specs.State.{Here}
use Rattle.step_meaning.specs.Steps.{End, Made, Step, Stop, Then}
use Rattle.run_turns.specs.Rest.{rest}
use Rattle.run_turns.specs.Turns.{Configuration}
use Rattle.weave_base.specs.Causes.{HasCause}
use Rattle.run_state.specs.declared.machine.Machine.{Machine}
use Rattle.run_state.specs.Machine.{Fixed, configuration_of, fixed_of}
use Rattle.run_laws.specs.Actions.{IsPlain}
use Rattle.run_check.specs.declared.advance.Advance.{Advance}
use Rattle.run_check.specs.declared.advance.Advance.TheVariants as advance
use Rattle.run_check.specs.Advancing.{Advances, IsAfter, Makes, MakesLast, steps_by, taken_by, written_by}
use Rattle.run_check.specs.Going.{GoesTo, MakesPlain}

-- ---- plain steps

plain_within : (chunks calls : ℕ) (a : Action) (here : Here) (memory : Memory) → IsPlain a → (passes_calls calls (record { action = a; function = here.function; activation = here.activation; memory = memory }) || passes_cells chunks (record { action = a; function = here.function; activation = here.activation; memory = memory })) ≡ false
plain_within chunks calls (act.Enter g vs) here memory h = absurd h
plain_within chunks calls (act.Call g) here memory h = refl
plain_within chunks calls (act.Return g v) here memory h = refl
plain_within chunks calls (act.Read p) here memory h = refl
plain_within chunks calls (act.Write p v) here memory h = refl
plain_within chunks calls act.Input here memory h = absurd h
plain_within chunks calls (act.Output b) here memory h = absurd h
plain_within chunks calls (act.Malloc n p k) here memory h = absurd h
plain_within chunks calls (act.Free p) here memory h = refl
plain_within chunks calls act.Turn here memory h = refl
plain_within chunks calls (act.Halt x) here memory h = refl

plain_taken : (a : Action) (bytes : List ℕ) → IsPlain a → taken_by a bytes ≡ bytes
plain_taken (act.Enter g vs) bytes h = absurd h
plain_taken (act.Call g) bytes h = refl
plain_taken (act.Return g v) bytes h = refl
plain_taken (act.Read p) bytes h = refl
plain_taken (act.Write p v) bytes h = refl
plain_taken act.Input bytes h = absurd h
plain_taken (act.Output b) bytes h = absurd h
plain_taken (act.Malloc n p k) bytes h = absurd h
plain_taken (act.Free p) bytes h = refl
plain_taken act.Turn bytes h = refl
plain_taken (act.Halt x) bytes h = refl

plain_written : (a : Action) → IsPlain a → written_by a ≡ []
plain_written (act.Enter g vs) h = absurd h
plain_written (act.Call g) h = refl
plain_written (act.Return g v) h = refl
plain_written (act.Read p) h = refl
plain_written (act.Write p v) h = refl
plain_written act.Input h = absurd h
plain_written (act.Output b) h = absurd h
plain_written (act.Malloc n p k) h = absurd h
plain_written (act.Free p) h = refl
plain_written act.Turn h = refl
plain_written (act.Halt x) h = refl

module _ (chunks calls steps : ℕ) (f g : Fixed) (old new : Configuration) where
  -- a plain step is made within the limits, and needs no byte
  pub plain_made : MakesPlain steps f g old new → (left held : Option (List ℕ)) → Makes chunks calls f.core old new left left held held
  plain_made p left held =
      record {
        step = record { action = p.action; function = p.here.function; activation = p.here.activation; memory = p.memory };
        within = plain_within chunks calls p.action p.here p.memory p.plain;
        taken = λ bytes e. e ∙ ap Some (sym (plain_taken p.action bytes p.plain));
        follows = λ bytes e n. p.follows bytes n ∙ ap (λ bs. Then (Rattle.step_meaning.specs.Flow.step_by p.here p.action p.memory) (rest f.core new bs n)) (sym (plain_taken p.action bytes p.plain));
        written = λ bytes e. e ∙ ap Some (sym (append-nil bytes) ∙ ap (λ bs. bytes ++ bs) (sym (plain_written p.action p.plain)));
        shows = p.shows;
      }

-- ---- after turns without a step

module _ (chunks calls steps : ℕ) (f g : Fixed) (old mid : Configuration) (goes : GoesTo steps f g old mid) where
  same_rest : (bytes : List ℕ) (n : ℕ) → rest f.core old bytes n ≡ rest g.core mid bytes n
  same_rest bytes n = goes.same bytes n ∙ ap (λ (q : Core). rest q mid bytes n) goes.program.core

  also_made : (new : Configuration) (left left' held held' : Option (List ℕ)) → Makes chunks calls g.core mid new left left' held held' → Makes chunks calls f.core old new left left' held held'
  also_made new left left' held held' p =
      record {
        step = p.step;
        within = p.within;
        taken = p.taken;
        follows = λ bytes e n. same_rest bytes (suc n) ∙ p.follows bytes e n ∙ ap (λ (q : Core). Then (Made p.step) (rest q new (taken_by p.step.action bytes) n)) (sym goes.program.core);
        written = p.written;
        shows = p.shows;
      }

  also_last : (e : End) (new : Configuration) (left left' held held' : Option (List ℕ)) → MakesLast chunks calls g.core mid e new left left' held held' → MakesLast chunks calls f.core old e new left left' held held'
  also_last e new left left' held held' p = record { made = also_made new left left' held held' p.made; last = λ bytes n. ap (λ (q : Core). rest q new bytes n) goes.program.core ∙ p.last bytes n }

  also_stays : (new : Configuration) → ((bytes : List ℕ) (n : ℕ) → rest g.core new bytes n ≡ rest g.core mid bytes n) → (bytes : List ℕ) (n : ℕ) → rest f.core new bytes n ≡ rest f.core old bytes n
  also_stays new p bytes n = ap (λ (q : Core). rest q new bytes n) goes.program.core ∙ p bytes n ∙ sym (same_rest bytes n)

  pub also_advances : (new : Configuration) (left left' held held' : Option (List ℕ)) (a : Advance) → Advances chunks calls g.core mid new left left' held held' a → Advances chunks calls f.core old new left left' held held' a
  also_advances new left left' held held' advance.Step p = also_made new left left' held held' p
  also_advances new left left' held held' (advance.Exit z) p = also_last (Rattle.step_meaning.specs.Steps.Exit z) new left left' held held' p
  also_advances new left left' held held' (advance.Fault x) p = also_last (Rattle.step_meaning.specs.Steps.Fault x) new left left' held held' p
  also_advances new left left' held held' advance.CallsFull p = record { kept_input = p.kept_input; kept_output = p.kept_output; stays = also_stays new p.stays; step = p.step; next = λ bytes k. ((p.next bytes k).0, same_rest bytes (suc k) ∙ (p.next bytes k).1); passes = p.passes }
  also_advances new left left' held held' advance.CellsFull p = record { kept_input = p.kept_input; kept_output = p.kept_output; stays = also_stays new p.stays; step = p.step; next = λ bytes k. ((p.next bytes k).0, same_rest bytes (suc k) ∙ (p.next bytes k).1); calls_fit = p.calls_fit; passes = p.passes }
  also_advances new left left' held held' advance.ReadFault p = record { kept_output = p.kept_output; step = p.step; next = λ bytes k. ((p.next bytes k).0, same_rest bytes (suc k) ∙ (p.next bytes k).1); is_input = p.is_input; same = p.same }
  also_advances new left left' held held' advance.WriteFault p = record { kept_input = p.kept_input; step = p.step; next = λ bytes k. ((p.next bytes k).0, same_rest bytes (suc k) ∙ (p.next bytes k).1); byte = p.byte; is_output = p.is_output; prefix = p.prefix }

-- the same with the limits of the machine after the turns
pub advances_from : (steps : ℕ) (f g : Fixed) (old mid : Configuration) → GoesTo steps f g old mid → (new : Configuration) (left left' held held' : Option (List ℕ)) (a : Advance) → Advances g.chunks g.calls g.core mid new left left' held held' a → Advances f.chunks f.calls f.core old new left left' held held' a
advances_from steps f g old mid goes new left left' held held' a p =
    also_advances f.chunks f.calls steps f g old mid goes new left left' held held' a
    (subst (λ (c : ℕ). Advances c f.calls g.core mid new left left' held held' a) (sym goes.program.chunks)
    (subst (λ (d : ℕ). Advances g.chunks d g.core mid new left left' held held' a) (sym goes.program.calls) p))

-- after a plain step
pub plain_advances : (chunks calls steps more : ℕ) (f : Fixed) (old : Configuration) (x : Machine) → MakesPlain steps f (fixed_of x) old (configuration_of x) → (left held : Option (List ℕ)) (a : Advance) → IsAfter a more x → Advances chunks calls f.core old (configuration_of x) left left held held a
plain_advances chunks calls steps more f old x p left held advance.Step h = plain_made chunks calls steps f (fixed_of x) old (configuration_of x) p left held
plain_advances chunks calls steps more f old x p left held (advance.Exit z) h = record { made = plain_made chunks calls steps f (fixed_of x) old (configuration_of x) p left held; last = λ bytes n. ap (λ (q : Core). rest q (configuration_of x) bytes n) p.program.core ∙ h bytes n }
plain_advances chunks calls steps more f old x p left held (advance.Fault e) h = absurd h
plain_advances chunks calls steps more f old x p left held advance.CellsFull h = absurd h
plain_advances chunks calls steps more f old x p left held advance.CallsFull h = absurd h
plain_advances chunks calls steps more f old x p left held advance.ReadFault h = absurd h
plain_advances chunks calls steps more f old x p left held advance.WriteFault h = absurd h

-- ---- causes

-- a device that wasn't asked
pub quiet : (n : ℕ) (Fails : Type 0) → (Fails → ⊥) → HasCause n n Fails
quiet n Fails none = record { later = omega arith; failed = λ f. absurd (none f) }

pub read_counts : (a : Advance) (n : ℕ) → (a ≡ advance.Step) ⊎ (a ≡ advance.ReadFault) → n + 1 ≡ steps_by a n
read_counts a n (inl e) = ap (λ (a : Advance). steps_by a n) (sym e)
read_counts a n (inr e) = ap (λ (a : Advance). steps_by a n) (sym e)

pub write_counts : (a : Advance) (n : ℕ) → (a ≡ advance.Step) ⊎ (a ≡ advance.WriteFault) → n + 1 ≡ steps_by a n
write_counts a n (inl e) = ap (λ (a : Advance). steps_by a n) (sym e)
write_counts a n (inr e) = ap (λ (a : Advance). steps_by a n) (sym e)

module _ (a : Advance) where
  pub read_only : (a ≡ advance.Step) ⊎ (a ≡ advance.ReadFault) → a ≡ advance.WriteFault → ⊥
  read_only (inl e) h = cc
  read_only (inr e) h = cc

  pub write_only : (a ≡ advance.Step) ⊎ (a ≡ advance.WriteFault) → a ≡ advance.ReadFault → ⊥
  write_only (inl e) h = cc
  write_only (inr e) h = cc

  pub begin_never_reads : (a ≡ advance.Step) ⊎ ((a ≡ advance.CallsFull) ⊎ (a ≡ advance.CellsFull)) → a ≡ advance.ReadFault → ⊥
  begin_never_reads (inl e) h = cc
  begin_never_reads (inr (inl e)) h = cc
  begin_never_reads (inr (inr e)) h = cc

  pub begin_never_writes : (a ≡ advance.Step) ⊎ ((a ≡ advance.CallsFull) ⊎ (a ≡ advance.CellsFull)) → a ≡ advance.WriteFault → ⊥
  begin_never_writes (inl e) h = cc
  begin_never_writes (inr (inl e)) h = cc
  begin_never_writes (inr (inr e)) h = cc

  pub allocate_never_reads : (a ≡ advance.Step) ⊎ (a ≡ advance.CellsFull) → a ≡ advance.ReadFault → ⊥
  allocate_never_reads (inl e) h = cc
  allocate_never_reads (inr e) h = cc

  pub allocate_never_writes : (a ≡ advance.Step) ⊎ (a ≡ advance.CellsFull) → a ≡ advance.WriteFault → ⊥
  allocate_never_writes (inl e) h = cc
  allocate_never_writes (inr e) h = cc
