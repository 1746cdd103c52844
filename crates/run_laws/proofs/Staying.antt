-- A turn that ends no activation leaves a machine running.
use Rattle.std.proofs.Common.{◌≡◌, ℕ, zero, suc, ◌<◌, ◌≤◌, true, List, [], ◌∷◌, length, Option, Some, None, refl, sym, ap, subst, ◌∙◌, arith}
use Rattle.std.specs.Prelude.{slice_get, is_some, option_map}
use Rattle.step_meaning.specs.declared.value.Action.{Action}
use Rattle.step_meaning.specs.declared.value.NameKind.{NameKind}
use Rattle.step_meaning.specs.declared.value.NameKind.TheVariants as names
use Rattle.step_meaning.specs.declared.value.Value.{Value}
use Rattle.step_meaning.specs.declared.stmt.Stmt.{Stmt}
use Rattle.step_meaning.specs.declared.program.Core.{Core}
use Rattle.step_meaning.specs.declared.program.Declared.{Declared}
use Rattle.step_meaning.specs.declared.program.Function.{Function}
use Rattle.step_meaning.specs.Allocation.{block_pointer}
use Rattle.step_meaning.specs.Settings.{code_setting, variable_type}
use Rattle.step_meaning.specs.State.{designated}
use Rattle.step_meaning.specs.Statements.{Next, Broken, Continued, Returned}
use Rattle.step_meaning.specs.WellFormed.{IsWellFormed}
use Rattle.step_meaning.proofs.Ranges.{false_is_not_true}
use Rattle.run_memory.specs.Cells.{ValueIsNumbered}
use Rattle.run_turns.specs.Activations.{Activations, activations_of}
use Rattle.run_turns.specs.Pending as pending
use Rattle.run_turns.specs.Room.{open_ends}
use Rattle.run_turns.specs.Turns.{Configuration, Turn, pushed, turn_at}
use Rattle.run_turns.specs.Typed.{IsTyped, Takes, TakesEnd}
use Rattle.run_turns.specs.Values.{LvalueHas}
use Rattle.run_turns.proofs.ActivationsKept.{EndsNone, turn_keeps}
use Rattle.run_turns.proofs.ArgumentsCounted.{turn_counted}
use Rattle.run_turns.proofs.TurnLaws.{turn_fits}
use Rattle.run_turns.proofs.TurnValues.{OwnHave, InitHave, inits, turn_values}
use Rattle.run_turns.proofs.ValuesHeld.{IgnoresOffsets}
use Rattle.run_state.specs.Machine.{Fixed}
use Rattle.run_start.specs.Running.{AreNested, EndAll, Runs}
use Rattle.run_laws.specs.Parts.{IsInside, steps_after}
use Rattle.run_laws.proofs.AllocatedGrows.{turn_grows}
use Rattle.run_laws.proofs.Parts.{acts, end_all, ends_below, inner, is_left, taken}
use Rattle.run_laws.proofs.TypedTurns.{stays_typed}

-- ---- names within the numbers

pub ignores_offsets : IgnoresOffsets ValueIsNumbered
ignores_offsets = record { integers = λ z. tt; null = tt; offsets = λ n o i h. h }

-- a new heap block
pub new_block : (n : ℕ) → n < 1099511627776 → ValueIsNumbered (block_pointer n)
new_block n l = record { in_memory = omega arith; activation_fits = l; index_fits = omega arith }

below_length : (ds : List Declared) (i : ℕ) → is_some (option_map (λ d. d.ctype) (slice_get ds i)) ≡ true → i < length ds
below_length [] i e = false_is_not_true e
below_length (d ∷ ds) zero e = omega arith
below_length (d ∷ ds) (suc i) e = let l = below_length ds i e in omega (arith, l)

-- the variables that code names
pub own : (q : Core) (f : Function) (activation : ℕ) → length q.globals ≤ 4194304 → length f.locals ≤ 4194304 → activation < 1099511627776 → OwnHave ValueIsNumbered ignores_offsets q f activation
own q f activation g l a v o e = by v.kind v.index e
  where
    by : (k : NameKind) (i : ℕ) → is_some (variable_type (code_setting q f) (record { kind = k; index = i })) ≡ true → LvalueHas ValueIsNumbered (designated activation (record { kind = k; index = i }) o)
    by names.Global i e = let b = below_length q.globals i e in record { in_memory = omega arith; activation_fits = omega arith; index_fits = omega (arith, b, g) }
    by names.Local i e = let b = below_length f.locals i e in record { in_memory = omega arith; activation_fits = a; index_fits = omega (arith, b, l) }
    by names.Heap i e = false_is_not_true e
    by names.Register i e = tt
    by names.GhostGlobal i e = false_is_not_true e
    by names.GhostLocal i e = false_is_not_true e

-- ---- activations

-- but for how many ends there are
pub nested_again : (registers : ℕ) (functions : List Function) (f : Fixed) (a : Activations) (n : ℕ) → AreNested registers functions f a → AreNested registers functions f (record a { ends = n })
nested_again registers functions f a n h =
    record {
      within = h.within;
      frames = h.frames;
      ghost_frames = h.ghost_frames;
      sizes = h.sizes;
      callers = h.callers;
      few_registers = h.few_registers;
      few_locals = h.few_locals;
      falls = h.falls;
      acts = h.acts;
      acted = h.acted;
      ghosts_fit = h.ghosts_fit;
    }

-- an initialiser's variable is the function's own
initialises : (q : Core) (h : IsWellFormed q) (f : Function) (fs : List Function) (activation : ℕ) (has : OwnHave ValueIsNumbered ignores_offsets q f activation) (vs : List Value) (ps : List pending.Pending) (t : pending.Told) (p : pending.Pending) (x : Stmt) → p ≡ pending.Conclude x → Takes q (f ∷ fs) vs (p ∷ ps) t → InitHave ValueIsNumbered ignores_offsets q h f fs activation has x
initialises q h f fs activation has vs ps t p x e k = by t (subst (λ p. Takes q (f ∷ fs) vs (p ∷ ps) t) e k)
  where
    by : (t : pending.Told) → Takes q (f ∷ fs) vs (pending.Conclude x ∷ ps) t → InitHave ValueIsNumbered ignores_offsets q h f fs activation has x
    by (pending.Gave v) k = inits ValueIsNumbered ignores_offsets q h f fs activation has (TakesEnd q (f ∷ fs) vs ps) x v k
    by (pending.Found l) k = absurd k
    by (pending.Left Next) k = absurd k
    by (pending.Left Broken) k = absurd k
    by (pending.Left Continued) k = absurd k
    by (pending.Left (Returned w)) k = absurd k

-- ---- the turn

few_steps : (o : Option Action) (a b n : ℕ) → b ≤ steps_after o a → a ≤ n → b ≤ steps_after o n
few_steps None a b n l k = omega (arith, l, k)
few_steps (Some x) a b n l k = omega (arith, l, k)

more_steps : (o : Option Action) (a n : ℕ) → a ≤ n → a ≤ steps_after o n
more_steps None a n k = k
more_steps (Some x) a n k = omega (arith, k)

module _ (steps : ℕ) (f : Fixed) (p : pending.Pending) (m : Configuration) (i : IsInside p) (e : EndsNone p) (few : steps < 1099511627776) where
  turn : Turn
  turn = turn_at f.core p m.told m

  after_turn : (functions : List Function) (r : Runs steps f (pushed p m)) → r.functions ≡ functions → Runs (steps_after (turn_at f.core p m.told m).step steps) f (turn_at f.core p m.told m).after
  after_turn [] r s = absurd (acts f.core m.context.arguments m.work p m.told i (subst (λ fs. IsTyped f.core fs (pushed p m)) s r.typed).1)
  after_turn (g ∷ gs) r s =
      let h = r.program.formed in
      let typed : IsTyped f.core (g ∷ gs) (pushed p m) = subst (λ fs. IsTyped f.core fs (pushed p m)) s r.typed in
      let nested : AreNested r.registers (g ∷ gs) f (activations_of (pushed p m)) = subst (λ fs. AreNested r.registers fs f (activations_of (pushed p m))) s r.nested in
      let ends : EndAll (suc (length gs)) (p ∷ m.work) = subst (λ fs. EndAll (length fs) (p ∷ m.work)) s r.ends in
      let below : open_ends m.work ≡ suc (length gs) = ends_below (suc (length gs)) p m.work i e ends in
      let keeps = turn_keeps f.core p m.told m e in
      let all_ends : open_ends (turn_at f.core p m.told m).after.work ≡ suc (length gs) = ap (λ (a : Activations). a.ends) keeps ∙ below in
      let made : (turn_at f.core p m.told m).after.made ≡ m.made = ap (λ (a : Activations). a.made) keeps in
      let has = own f.core g m.context.here.activation r.space.few_globals nested.few_locals.0 (omega (arith, nested.acts, r.made, few)) in
      record {
        program = r.program;
        height = r.height;
        registers = r.registers;
        space = r.space;
        functions = g ∷ gs;
        nested = subst (AreNested r.registers (g ∷ gs) f) (sym keeps) (nested_again r.registers (g ∷ gs) f (activations_of (pushed p m)) (open_ends m.work) nested);
        typed = stays_typed f.core h g gs p m.told (inner f.core h g gs p i) e m typed.0 typed.1;
        numbered = turn_values ValueIsNumbered ignores_offsets f.core h g gs m.context.here.activation has p m.told (inner f.core h g gs p i) m refl (new_block m.allocated (omega (arith, r.allocated, few))) (λ x y. initialises f.core h g gs m.context.here.activation has m.context.arguments m.work m.told p x y typed.1) typed.1 r.numbered.0 r.numbered.1.0 r.numbered.1.1 r.numbered.2;
        roomy = turn_fits f.core h g gs r.height p m.told (inner f.core h g gs p i) m typed.1 r.roomy;
        counted = turn_counted f.core p m.told m (taken f.core g gs m.context.arguments m.work p m.told i typed.1) r.counted;
        ends = end_all (suc (length gs)) (turn_at f.core p m.told m).after.work all_ends;
        left = is_left (length gs) (turn_at f.core p m.told m).after.work all_ends;
        made = more_steps (turn_at f.core p m.told m).step _ steps (omega (arith, made, r.made));
        allocated = few_steps (turn_at f.core p m.told m).step m.allocated _ steps (turn_grows f.core p m.told m) r.allocated;
      }

  pub stays : Runs steps f (pushed p m) → Runs (steps_after (turn_at f.core p m.told m).step steps) f (turn_at f.core p m.told m).after
  stays r = after_turn r.functions r refl
