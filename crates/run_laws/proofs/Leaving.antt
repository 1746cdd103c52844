-- The end of an activation: its caller goes on, where there is one, or a fault is due.
use Rattle.std.proofs.Common.{◌≡◌, ℕ, suc, ◌+◌, ◌<◌, ◌≤◌, List, [], ◌∷◌, length, map, drop, refl, sym, ap, subst, ◌∙◌, arith}
use Rattle.std.specs.Prelude.{ℤ, is_some}
use Rattle.std.specs.List.{AllByRecursion, sum_by}
use Rattle.std.proofs.lemmas.List.Sums.{sum_by-cons}
use Rattle.step_meaning.specs.declared.value.CType.{CType}
use Rattle.step_meaning.specs.declared.value.IntKind.TheVariants as kind
use Rattle.step_meaning.specs.declared.value.Value.{Value}
use Rattle.step_meaning.specs.declared.value.Value.TheVariants as value
use Rattle.step_meaning.specs.declared.program.Function.{Function}
use Rattle.step_meaning.specs.Calls.{value_or_zero, without_frame}
use Rattle.step_meaning.specs.Library.{int}
use Rattle.step_meaning.specs.Limits.{chunks, chunks_of, frame_chunks, heap_chunks}
use Rattle.step_meaning.specs.Memory.{Frame, Memory}
use Rattle.step_meaning.specs.State.{Here}
use Rattle.step_meaning.specs.Statements.{Next, Broken, Continued, Returned}
use Rattle.step_meaning.proofs.Falling.{Falls, falls_more}
use Rattle.step_meaning.proofs.OperatorRanges.{InRange}
use Rattle.step_meaning.proofs.TypedMemory.{InCell, drop_map}
use Rattle.run_memory.specs.Cells.{ValueIsNumbered}
use Rattle.run_turns.specs.Activations.{activations_of, numbers}
use Rattle.run_turns.specs.Pending as pending
use Rattle.run_turns.specs.Room.{AreCounted, Roomy, open_ends}
use Rattle.run_turns.specs.Turns as turns
use Rattle.run_turns.specs.Turns.{Configuration, Turn, pushed, turn_at}
use Rattle.run_turns.specs.Typed.{IsTyped, Takes}
use Rattle.run_turns.specs.Values.{StateHas}
use Rattle.run_turns.proofs.TurnValues.{turn_values}
use Rattle.run_state.specs.Machine.{Fixed, ended}
use Rattle.run_start.specs.Running.{AreNested, EndAll, IsLeft, Runs}
use Rattle.run_laws.specs.Ends.{Goes}
use Rattle.run_laws.proofs.Parts.{end_all}
use Rattle.run_laws.proofs.Staying.{ignores_offsets, nested_again, new_block, own}
use Rattle.run_laws.proofs.TypedTurns.{EndsActivation, Closes, Halts, closed_typed, given_back_left}

-- ---- lists

suc_same : (a b : ℕ) → suc a ≡ suc b → a ≡ b
suc_same a b e = omega (arith, e)

zero_is_no_suc : (n : ℕ) → 0 ≡ suc n → ⊥
zero_is_no_suc n e = omega (arith, e)

rest_counted : {A : Type 0} (xs : List A) (n : ℕ) → length xs ≡ suc n → length (drop 1 xs) ≡ n
rest_counted [] n e = absurd (zero_is_no_suc n e)
rest_counted (x ∷ xs) n e = suc_same (length xs) n e

rest_all : {A : Type 0} (P : A → Type 0) (xs : List A) → AllByRecursion P xs → AllByRecursion P (drop 1 xs)
rest_all P [] h = tt
rest_all P (x ∷ xs) h = h.1

rest_falls : (ns : List ℕ) (n : ℕ) → Falls ns n → Falls (drop 1 ns) n
rest_falls [] n h = tt
rest_falls (m ∷ ns) n h = falls_more ns m n (let l : m < n = h.0 in omega (arith, l)) h.1

rest_frames : (fs : List Frame) → numbers (drop 1 fs) ≡ drop 1 (numbers fs)
rest_frames fs = drop_map (λ f. f.activation) fs

fewer_chunks : (memory : Memory) → chunks (without_frame memory) ≤ chunks memory
fewer_chunks memory = by memory.frames
  where
    by : (fs : List Frame) → sum_by chunks_of memory.globals + (sum_by frame_chunks (drop 1 fs) + sum_by heap_chunks memory.heap) ≤ sum_by chunks_of memory.globals + (sum_by frame_chunks fs + sum_by heap_chunks memory.heap)
    by [] = omega arith
    by (f ∷ fs) = let c = sum_by-cons frame_chunks f fs in omega (arith, c)

-- ---- what is given back

-- an integer of `int`
pub integer_given : (v : Value) → InCell int v → (z : ℤ) × (v ≡ value.Int z) × InRange kind.Int z
integer_given (value.Int z) h = (z, refl, h.0)
integer_given value.Null h = absurd h.0
integer_given (value.Pointer n o) h = absurd h.0

exit_given : (v : Value) → InCell int v → (z : ℤ) × (pending.Gave v ≡ pending.Gave (value.Int z)) × InRange kind.Int z
exit_given v h = let i = integer_given v h in (i.0, ap pending.Gave i.1, i.2)

-- ---- the activations after it

arguments_kept : (cs : List pending.Caller) (c : pending.Context) → (pending.back_to cs c).arguments ≡ c.arguments
arguments_kept [] c = refl
arguments_kept (r ∷ rs) c = refl

module _ (registers : ℕ) (g : Function) (gs : List Function) (f : Fixed) (m : Configuration) (n : AreNested registers (g ∷ gs) f (activations_of m)) where
  nested_by : (cs : List pending.Caller) → m.context.callers ≡ cs → AreNested registers gs (ended f) (activations_of (record m { context = pending.back_to cs m.context; memory = without_frame m.memory; ghosts = without_frame m.ghosts }))
  nested_by [] e = absurd (zero_is_no_suc (length gs) (ap (λ (cs : List pending.Caller). length (map {B = Here} (λ c. c.here) cs)) (sym e) ∙ n.callers))
  nested_by (c ∷ cs) e =
      let acted : AllByRecursion (λ (h : Here). h.activation ≤ m.made) (map (λ (c : pending.Caller). c.here) (c ∷ cs)) = subst (λ (cs : List pending.Caller). AllByRecursion (λ (h : Here). h.activation ≤ m.made) (map (λ (c : pending.Caller). c.here) cs)) e n.acted in
      record {
        within = let w = n.within in omega (arith, w);
        frames = ap length (rest_frames m.memory.frames) ∙ rest_counted (numbers m.memory.frames) (length gs) n.frames;
        ghost_frames = rest_frames m.ghosts.frames ∙ ap (λ ns. drop 1 ns) n.ghost_frames ∙ sym (rest_frames m.memory.frames);
        sizes = rest_counted f.sizes (length gs) n.sizes;
        callers = suc_same (length (map {B = Here} (λ c. c.here) cs)) (length gs) (ap (λ (cs : List pending.Caller). length (map {B = Here} (λ c. c.here) cs)) (sym e) ∙ n.callers);
        few_registers = rest_all (λ n. n ≤ registers) f.sizes n.few_registers;
        few_locals = n.few_locals.1;
        falls = subst (λ ns. Falls ns m.made) (sym (rest_frames m.memory.frames)) (rest_falls (numbers m.memory.frames) m.made n.falls);
        acts = acted.0;
        acted = acted.1;
        ghosts_fit = let l = fewer_chunks m.ghosts in let k = n.ghosts_fit in omega (arith, l, k);
      }

  pub caller_nested : AreNested registers gs (ended f) (activations_of (record m { context = pending.back_to m.context.callers m.context; memory = without_frame m.memory; ghosts = without_frame m.ghosts }))
  caller_nested = nested_by m.context.callers refl

-- ---- the turn

module _ (steps : ℕ) (f : Fixed) (g : ℕ) (y : CType) (m : Configuration) (few : steps < 1099511627776) where
  by_turn : (x : Function) (gs : List Function) (r : Runs steps f (pushed (pending.Leave g y) m)) → r.functions ≡ x ∷ gs → (l : Rattle.step_meaning.specs.Statements.Completion) → m.told ≡ pending.Left l → EndsActivation f.core x g m (turn_at f.core (pending.Leave g y) m.told m) → Goes (is_some (turn_at f.core (pending.Leave g y) m.told m).step) steps f (pending.Leave g y) (turn_at f.core (pending.Leave g y) m.told m).after
  by_turn x gs r s l told (Halts e) =
      let typed : IsTyped f.core (x ∷ gs) (pushed (pending.Leave g y) m) = subst (λ fs. IsTyped f.core fs (pushed (pending.Leave g y) m)) s r.typed in
      let nested : AreNested r.registers (x ∷ gs) f (activations_of (pushed (pending.Leave g y) m)) = subst (λ fs. AreNested r.registers fs f (activations_of (pushed (pending.Leave g y) m))) s r.nested in
      let ends : suc (open_ends m.work) ≡ suc (length gs) = subst (λ fs. EndAll (length fs) (pending.Leave g y ∷ m.work)) s r.ends in
      subst (λ (t : Turn). Goes (is_some t.step) steps f (pending.Leave g y) t.after) (sym e)
      (record {
        program = r.program;
        height = r.height;
        registers = r.registers;
        space = r.space;
        functions = x ∷ gs;
        nested = nested_again r.registers (x ∷ gs) f (activations_of (pushed (pending.Leave g y) m)) (open_ends m.work) nested;
        typed = (typed.0, tt);
        numbered = (tt, (tt, r.numbered.1.1), r.numbered.2);
        roomy = (let h = r.roomy.0 in omega (arith, h), r.roomy.1);
        counted = r.counted;
        ends = omega (arith, ends);
        left = tt;
        made = r.made;
        allocated = r.allocated;
      })
  by_turn x gs r s l told (Closes v fits e) =
      let h = r.program.formed in
      let typed : IsTyped f.core (x ∷ gs) (pushed (pending.Leave g y) m) = subst (λ fs. IsTyped f.core fs (pushed (pending.Leave g y) m)) s r.typed in
      let nested : AreNested r.registers (x ∷ gs) f (activations_of (pushed (pending.Leave g y) m)) = subst (λ fs. AreNested r.registers fs f (activations_of (pushed (pending.Leave g y) m))) s r.nested in
      let ends : suc (open_ends m.work) ≡ suc (length gs) = subst (λ fs. EndAll (length fs) (pending.Leave g y ∷ m.work)) s r.ends in
      let takes = subst (λ t. Takes f.core (x ∷ gs) m.context.arguments (pending.Leave g y ∷ m.work) t) told typed.1 in
      let after : IsTyped f.core gs (turns.closed g v m).after = closed_typed f.core x gs g v m typed.0 fits takes.3 in
      let has = own f.core x m.context.here.activation r.space.few_globals nested.few_locals.0 (omega (arith, nested.acts, r.made, few)) in
      let numbered : StateHas ValueIsNumbered (turns.closed g v m).after = subst (λ (t : Turn). StateHas ValueIsNumbered t.after) e (turn_values ValueIsNumbered ignores_offsets f.core h x gs m.context.here.activation has (pending.Leave g y) m.told tt m refl (new_block m.allocated (omega (arith, r.allocated, few))) (λ z w. absurd (no_conclusion z w)) typed.1 r.numbered.0 r.numbered.1.0 r.numbered.1.1 r.numbered.2) in
      subst (λ (t : Turn). Goes (is_some t.step) steps f (pending.Leave g y) t.after) (sym e)
      (record {
        exits = λ none. exit_given (value_or_zero v) (subst (λ ps. Takes f.core gs (turns.closed g v m).after.context.arguments ps (pending.Gave (value_or_zero v))) none after.1);
        runs = λ some.
            record {
              program = r.program;
              height = r.height;
              registers = r.registers;
              space = space_after r;
              functions = gs;
              nested = nested_again r.registers gs (ended f) _ (open_ends m.work) (caller_nested r.registers x gs f m (nested_again r.registers (x ∷ gs) f (activations_of (pushed (pending.Leave g y) m)) (open_ends m.work) nested));
              typed = after;
              numbered = numbered;
              roomy = subst (Roomy r.height m.work) (sym (arguments_kept m.context.callers m.context)) r.roomy.1;
              counted = subst (AreCounted m.work) (sym (arguments_kept m.context.callers m.context)) r.counted;
              ends = end_all (length gs) m.work (suc_same _ _ ends);
              left = some;
              made = let k = r.made in omega (arith, k);
              allocated = let k = r.allocated in omega (arith, k);
            };
      })
    where
      no_conclusion : (z : Rattle.step_meaning.specs.declared.stmt.Stmt.Stmt) → pending.Leave g y ≡ pending.Conclude z → ⊥
      no_conclusion z w = cc

      space_after : (r : Runs steps f (pushed (pending.Leave g y) m)) → Rattle.run_start.specs.Running.HasSpace r.height r.registers (ended f)
      space_after r = record { bodies = r.space.bodies; few_registers = r.space.few_registers; work = r.space.work; arguments = r.space.arguments; callers = r.space.callers; registers_fit = r.space.registers_fit; register_calls = r.space.register_calls; ghost_calls = r.space.ghost_calls; few_chunks = r.space.few_chunks; few_globals = r.space.few_globals }

  by_functions : (fs : List Function) (r : Runs steps f (pushed (pending.Leave g y) m)) → r.functions ≡ fs → (t : pending.Told) → m.told ≡ t → Goes (is_some (turn_at f.core (pending.Leave g y) m.told m).step) steps f (pending.Leave g y) (turn_at f.core (pending.Leave g y) m.told m).after
  by_functions fs r s t told = by fs t (subst (λ fs. IsTyped f.core fs (pushed (pending.Leave g y) m)) s r.typed).1 s told
    where
      by : (fs : List Function) (t : pending.Told) → Takes f.core fs m.context.arguments (pending.Leave g y ∷ m.work) m.told → r.functions ≡ fs → m.told ≡ t → Goes (is_some (turn_at f.core (pending.Leave g y) m.told m).step) steps f (pending.Leave g y) (turn_at f.core (pending.Leave g y) m.told m).after
      by [] (pending.Gave v) k s e = absurd (subst (λ t. Takes f.core [] m.context.arguments (pending.Leave g y ∷ m.work) t) e k)
      by [] (pending.Found v) k s e = absurd (subst (λ t. Takes f.core [] m.context.arguments (pending.Leave g y ∷ m.work) t) e k)
      by [] (pending.Left Next) k s e = absurd (subst (λ t. Takes f.core [] m.context.arguments (pending.Leave g y ∷ m.work) t) e k)
      by [] (pending.Left Broken) k s e = absurd (subst (λ t. Takes f.core [] m.context.arguments (pending.Leave g y ∷ m.work) t) e k)
      by [] (pending.Left Continued) k s e = absurd (subst (λ t. Takes f.core [] m.context.arguments (pending.Leave g y ∷ m.work) t) e k)
      by [] (pending.Left (Returned v)) k s e = absurd (subst (λ t. Takes f.core [] m.context.arguments (pending.Leave g y ∷ m.work) t) e k)
      by (x ∷ gs) (pending.Gave v) k s e = absurd (subst (λ t. Takes f.core (x ∷ gs) m.context.arguments (pending.Leave g y ∷ m.work) t) e k)
      by (x ∷ gs) (pending.Found v) k s e = absurd (subst (λ t. Takes f.core (x ∷ gs) m.context.arguments (pending.Leave g y ∷ m.work) t) e k)
      by (x ∷ gs) (pending.Left l) k s e =
          by_turn x gs r s l e
          (subst (λ t. EndsActivation f.core x g m (turn_at f.core (pending.Leave g y) t m)) (sym e)
          (given_back_left f.core r.program.formed x gs g y l m (subst (λ t. Takes f.core (x ∷ gs) m.context.arguments (pending.Leave g y ∷ m.work) t) e k)))

  pub leaves : Runs steps f (pushed (pending.Leave g y) m) → Goes (is_some (turn_at f.core (pending.Leave g y) m.told m).step) steps f (pending.Leave g y) (turn_at f.core (pending.Leave g y) m.told m).after
  leaves r = by_functions r.functions r refl m.told refl
