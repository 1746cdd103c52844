-- The start of an activation in a machine that runs: what it asks is there, the machine runs on, and its step is a step of the run.
use Rattle.std.proofs.Common.{◌≡◌, ℕ, zero, suc, ◌+◌, ◌*◌, ◌<◌, ◌≤◌, true, List, [], ◌∷◌, length, map, take, drop, Some, None, refl, sym, ap, subst, arith}
use Rattle.std.specs.Prelude.{slice_get, IsTrue}
use Rattle.std.specs.List.{AllByRecursion, list_all}
use Rattle.std.proofs.lemmas.List.Sums.{sum_by-cons}
use Rattle.std.proofs.Math.Nat.{mul-le-mul_left}
use Rattle.step_meaning.specs.declared.value.Value.{Value}
use Rattle.step_meaning.specs.declared.stmt.Stmt.{Stmt}
use Rattle.step_meaning.specs.declared.stmt.Stmt.TheVariants as st
use Rattle.step_meaning.specs.declared.program.Core.{Core}
use Rattle.step_meaning.specs.declared.program.Declared.{Declared}
use Rattle.step_meaning.specs.declared.program.Function.{Function}
use Rattle.step_meaning.specs.declared.program.Layout.{Layout}
use Rattle.step_meaning.specs.Calls.{annotations, after_annotations, first_ghosts, with_frame}
use Rattle.step_meaning.specs.Limits.{chunks, chunks_for, frame_chunks}
use Rattle.step_meaning.specs.Memory.{Frame, Memory, empty_block}
use Rattle.step_meaning.specs.Sources.{is_bare}
use Rattle.step_meaning.specs.State.{Here, Registers}
use Rattle.step_meaning.specs.Statements.{Next}
use Rattle.step_meaning.specs.Types.{object_cells}
use Rattle.step_meaning.specs.WellFormed.{OfBody}
use Rattle.step_meaning.proofs.Falling.{Falls}
use Rattle.step_meaning.proofs.FormedFunctions.{formed_function}
use Rattle.step_meaning.proofs.Ranges.{false_is_not_true, left_of_and, right_of_and}
use Rattle.run_memory.specs.Cells.{ValueIsNumbered}
use Rattle.run_memory.specs.Storage.{IsNewer, variables_chunks}
use Rattle.run_turns.specs.Activations.{numbers}
use Rattle.run_turns.specs.Lists.{reversed_onto}
use Rattle.run_turns.specs.Pending as pending
use Rattle.run_turns.specs.Room.{height_all}
use Rattle.run_turns.specs.Turns.{Configuration, entered, pushed}
use Rattle.run_turns.specs.Typed.{EnterTakes, Takes, TakesEnd, TakesValue}
use Rattle.run_turns.specs.Values.{KeptHas}
use Rattle.run_turns.proofs.CallsTyped.{entered_typed}
use Rattle.run_turns.proofs.RoomLaw.{entered_fits}
use Rattle.run_turns.proofs.ValuesHeld.{arguments_have, unset_registers_have}
use Rattle.run_state.specs.declared.machine.Machine.{Machine}
use Rattle.run_state.specs.declared.machine.Waiting.{Waiting}
use Rattle.run_state.specs.Machine.{Fixed, all_callers, configuration_of, fixed_of, sizes_of}
use Rattle.run_state.specs.Registers.{total}
use Rattle.run_start.specs.Running.{IsRunnable, Runs}
use Rattle.run_steps.specs.Turning.{MayEnter, begun}
use Rattle.run_memory.proofs.SizedTypes.{all_sized}
use Rattle.run_laws.proofs.Staying.{ignores_offsets}

-- ---- lists

abbrev Each : {A : Type 0} → (A → Type 0) → List A → Type 0
Each P xs = AllByRecursion P xs

same_item : {A : Type 0} (a b : A) → Some a ≡ Some b → a ≡ b
same_item a b e = cc

pub each_at : {A : Type 0} (P : A → Type 0) (xs : List A) (i : ℕ) (x : A) → Each P xs → slice_get xs i ≡ Some x → P x
each_at P [] i x h e = absurd (none_is_not_some e)
  where
    none_is_not_some : None ≡ Some x → ⊥
    none_is_not_some e = cc
each_at P (y ∷ xs) zero x h e = subst P (same_item y x e) h.0
each_at P (y ∷ xs) (suc i) x h e = each_at P xs i x h.1 e

each_map : {A : Type 0} (P Q : A → Type 0) → ((a : A) → P a → Q a) → (xs : List A) → Each P xs → Each Q xs
each_map P Q g [] h = tt
each_map P Q g (x ∷ xs) h = (g x h.0, each_map P Q g xs h.1)

each_taken : {A : Type 0} (P : A → Type 0) (n : ℕ) (xs : List A) → Each P xs → Each P (take n xs)
each_taken P zero xs h = tt
each_taken P (suc n) [] h = tt
each_taken P (suc n) (x ∷ xs) h = (h.0, each_taken P n xs h.1)

each_dropped : {A : Type 0} (P : A → Type 0) (n : ℕ) (xs : List A) → Each P xs → Each P (drop n xs)
each_dropped P zero xs h = h
each_dropped P (suc n) [] h = tt
each_dropped P (suc n) (x ∷ xs) h = each_dropped P n xs h.1

each_reversed : {A : Type 0} (P : A → Type 0) (xs ys : List A) → Each P xs → Each P ys → Each P (reversed_onto xs ys)
each_reversed P [] ys h g = g
each_reversed P (x ∷ xs) ys h g = each_reversed P xs (x ∷ ys) h.1 (h.0, g)

pub counted_frames : (fs : List Frame) → length (numbers fs) ≡ length fs
counted_frames [] = refl
counted_frames (f ∷ fs) = ap suc (counted_frames fs)

newer : (fs : List Frame) (n : ℕ) → Falls (numbers fs) n → IsNewer n fs
newer [] n h = tt
newer (f ∷ fs) n h = h.0

pub counted_callers : (ws : List Waiting) (rs : List Registers) → length (map {B = Here} (λ c. c.here) (all_callers ws rs)) ≡ length ws
counted_callers [] rs = refl
counted_callers (w ∷ ws) rs = ap suc (counted_callers ws (drop 1 rs))

counted_registers : (rs : List Registers) → length (sizes_of rs) ≡ length rs
counted_registers [] = refl
counted_registers (r ∷ rs) = ap suc (counted_registers rs)

few_in_all : (n : ℕ) (rs : List Registers) → Each (λ k. k ≤ n) (sizes_of rs) → total rs ≤ n * length rs
few_in_all n [] h = omega arith
few_in_all n (r ∷ rs) h =
    let more = few_in_all n rs h.1 in
    let one : length r ≤ n = h.0 in
    let times : n * suc (length rs) ≡ n + n * length rs = omega arith in
    omega (arith, more, one, times)

-- ---- bodies without annotations

pub begins_bare : (body : List Stmt) → list_all is_bare body ≡ true → (annotations body ≡ []) × (after_annotations body ≡ body)
begins_bare [] e = (refl, refl)
begins_bare (st.Empty ∷ ss) e = (refl, refl)
begins_bare (st.Eval x ∷ ss) e = (refl, refl)
begins_bare (st.Init x o y d ∷ ss) e = (refl, refl)
begins_bare (st.Block' b n ∷ ss) e = (refl, refl)
begins_bare (st.If' d b n c k ∷ ss) e = (refl, refl)
begins_bare (st.While' d b n ∷ ss) e = (refl, refl)
begins_bare (st.Do' b n d ∷ ss) e = (refl, refl)
begins_bare (st.For' test step b n ∷ ss) e = (refl, refl)
begins_bare (st.Break ∷ ss) e = (refl, refl)
begins_bare (st.Continue ∷ ss) e = (refl, refl)
begins_bare (st.Return d ∷ ss) e = (refl, refl)
begins_bare (st.Ghost g ∷ ss) e = false_is_not_true e
begins_bare (st.Assert v k r ∷ ss) e = false_is_not_true e

each_bare : (body : List Stmt) → list_all is_bare body ≡ true → Each (λ s. IsTrue (is_bare s)) body
each_bare [] e = tt
each_bare (s ∷ ss) e = (left_of_and _ _ e, each_bare ss (right_of_and _ _ e))

-- ---- chunks

some_chunks : (n : ℕ) → 1 ≤ chunks_for n
some_chunks n = omega arith

few_variables : (layouts : List Layout) (ds : List Declared) → length ds ≤ variables_chunks layouts ds
few_variables layouts [] = omega arith
few_variables layouts (d ∷ ds) =
    let more = few_variables layouts ds in
    let one = some_chunks (length (object_cells layouts d.ctype)) in
    let all = sum_by-cons (λ (d : Declared). chunks_for (length (object_cells layouts d.ctype))) d ds in
    omega (arith, more, one, all)

-- a frame without variables has no chunks
ghost_chunks : (layouts : List Layout) (f : Function) (a : ℕ) (memory : Memory) → f.ghosts ≡ [] → chunks (with_frame (first_ghosts layouts f a) memory) ≡ chunks memory
ghost_chunks layouts f a memory e = subst (λ ds. chunks (with_frame (record { activation = a; locals = map (empty_block layouts) ds }) memory) ≡ chunks memory) (sym e) none
  where
    none : chunks (with_frame (record { activation = a; locals = [] }) memory) ≡ chunks memory
    none = let c = sum_by-cons frame_chunks (record { activation = a; locals = [] }) memory.frames in omega (arith, c)

-- ---- the function that begins

module _ (q : Core) (program : IsRunnable q) (g : ℕ) (fn : Function) (found : slice_get q.functions g ≡ Some fn) where
  pub its_ghosts : fn.ghosts ≡ []
  its_ghosts = each_at (λ f. f.ghosts ≡ []) q.functions g fn program.without_ghosts found

  pub is_bare_body : (body : List Stmt) → fn.body ≡ Some body → list_all is_bare body ≡ true
  is_bare_body body has = subst (OfBody (λ ss. IsTrue (list_all is_bare ss))) has (each_at (λ f. OfBody (λ ss. IsTrue (list_all is_bare ss)) f.body) q.functions g fn program.bare found)

-- ---- the machine after it

pub enter_takes : (q : Core) (fs : List Function) (vs : List Value) (g n : ℕ) (ps : List pending.Pending) → TakesEnd q fs vs (pending.Enter g n ∷ ps) Next → EnterTakes q fs g (reversed_onto (take n vs) []) (TakesValue q fs (drop n vs) ps)
enter_takes q [] vs g n ps k = k
enter_takes q (f ∷ fs) vs g n ps k = k

module _ (steps : ℕ) (f : Fixed) (g n : ℕ) (m : Configuration) (fn : Function) (body : List Stmt) (found : slice_get f.core.functions g ≡ Some fn) (has : fn.body ≡ Some body) where
  pub enters : (r : Runs steps f (pushed (pending.Enter g n) m)) → m.told ≡ pending.Left Next → length m.context.callers < f.calls → length fn.locals ≤ 4194304 → Runs (suc steps) (begun (length fn.registers) f) (entered f.core g fn body n m)
  enters r told calls locals =
      let bare = is_bare_body f.core r.program g fn found body has in
      let takes : EnterTakes f.core r.functions g (reversed_onto (take n m.context.arguments) []) (TakesValue f.core r.functions (drop n m.context.arguments) m.work) = enter_takes f.core r.functions m.context.arguments g n m.work (subst (λ t. Takes f.core r.functions m.context.arguments (pending.Enter g n ∷ m.work) t) told r.typed.1) in
      let counted : length (map {B = Here} (λ c. c.here) m.context.callers) ≡ length m.context.callers = callers_counted m.context.callers in
      let kept : KeptHas ValueIsNumbered m.context.arguments m.context.registers m.context.callers m.memory = r.numbered.2 in
      let arguments = each_reversed ValueIsNumbered (take n m.context.arguments) [] (each_taken ValueIsNumbered n m.context.arguments kept.arguments_have) tt in
      record {
        program = r.program;
        height = r.height;
        registers = r.registers;
        space = record { bodies = r.space.bodies; few_registers = r.space.few_registers; work = r.space.work; arguments = r.space.arguments; callers = r.space.callers; registers_fit = r.space.registers_fit; register_calls = r.space.register_calls; ghost_calls = r.space.ghost_calls; few_chunks = r.space.few_chunks; few_globals = r.space.few_globals };
        functions = fn ∷ r.functions;
        nested = record {
          within = let c = r.nested.callers in omega (arith, c, counted, calls);
          frames = ap suc r.nested.frames;
          ghost_frames = ap (λ ns. m.made ∷ ns) r.nested.ghost_frames;
          sizes = ap suc r.nested.sizes;
          callers = ap suc r.nested.callers;
          few_registers = (each_at (λ f. length f.registers ≤ r.registers) f.core.functions g fn r.space.few_registers found, r.nested.few_registers);
          few_locals = (locals, r.nested.few_locals);
          falls = (omega arith, r.nested.falls);
          acts = omega arith;
          acted = (let a = r.nested.acts in omega (arith, a), each_map (λ (h : Here). h.activation ≤ m.made) (λ (h : Here). h.activation ≤ suc m.made) (λ h l. omega (arith, l)) (map (λ c. c.here) m.context.callers) r.nested.acted);
          ghosts_fit = let c = ghost_chunks f.core.layouts fn m.made m.ghosts (its_ghosts f.core r.program g fn found) in let k = r.nested.ghosts_fit in omega (arith, c, k);
        };
        typed = entered_typed f.core r.program.formed r.functions g n fn body m found has (begins_bare body bare).0 (begins_bare body bare).1 (each_bare body bare) r.typed.0 takes;
        numbered = (
          tt,
          (tt, (tt, r.numbered.1.1)),
          record {
            arguments_have = each_dropped ValueIsNumbered n m.context.arguments kept.arguments_have;
            registers_have = unset_registers_have ValueIsNumbered ignores_offsets fn.registers;
            callers_have = (kept.registers_have, kept.callers_have);
            memory_has = (kept.memory_has.0, (arguments_have ValueIsNumbered ignores_offsets f.core.layouts fn.locals (reversed_onto (take n m.context.arguments) []) arguments, kept.memory_has.1), kept.memory_has.2);
          },
        );
        roomy = entered_fits r.height f.core g fn body n m (subst (OfBody (λ ss. height_all ss ≤ r.height)) has (each_at (λ f. OfBody (λ ss. height_all ss ≤ r.height) f.body) f.core.functions g fn r.space.bodies found)) r.roomy;
        counted = r.counted.1;
        ends = ap suc r.ends;
        left = tt;
        made = let k = r.made in omega (arith, k);
        allocated = let k = r.allocated in omega (arith, k);
      }
    where
      callers_counted : (cs : List pending.Caller) → length (map {B = Here} (λ c. c.here) cs) ≡ length cs
      callers_counted [] = refl
      callers_counted (c ∷ cs) = ap suc (callers_counted cs)

-- ---- what it asks of the machine

module _ (steps : ℕ) (x : Machine) (g n : ℕ) (r : Runs steps (fixed_of x) (pushed (pending.Enter g n) (configuration_of x))) (few : steps < 1099511627776) where
  pub may_enter : (fn : Function) → slice_get x.core.now.functions g ≡ Some fn → Rattle.step_meaning.specs.ExpressionTypes.has_body fn ≡ true → length x.callers.0 < x.memory.call_limit → chunks x.memory.memory + variables_chunks x.core.now.layouts fn.locals ≤ x.memory.chunk_limit → MayEnter x fn n
  may_enter fn found there calls room =
      let kept : KeptHas ValueIsNumbered x.arguments.0 (configuration_of x).context.registers (configuration_of x).context.callers x.memory.memory = r.numbered.2 in
      let callers : length (map {B = Here} (λ c. c.here) (configuration_of x).context.callers) ≡ length x.callers.0 = counted_callers x.callers.0 (drop 1 x.registers.activations) in
      let frames = counted_frames x.memory.memory.frames in
      let ghosts = counted_frames x.ghosts.memory.frames in
      let same_ghosts : length (numbers x.ghosts.memory.frames) ≡ length (numbers x.memory.memory.frames) = ap length r.nested.ghost_frames in
      let open_frames = r.nested.frames in
      let open_callers = r.nested.callers in
      let open_sizes = r.nested.sizes in
      let sizes = counted_registers x.registers.activations in
      let formed = formed_function x.core.now r.program.formed g fn found there in
      let ghostless = its_ghosts x.core.now r.program g fn found in
      let small : length fn.registers ≤ r.registers = each_at (λ f. length f.registers ≤ r.registers) x.core.now.functions g fn r.space.few_registers found in
      let all = few_in_all r.registers x.registers.activations r.nested.few_registers in
      let one_more : suc (length x.registers.activations) ≤ x.memory.call_limit = omega (arith, sizes, open_sizes, open_callers, callers, calls) in
      let space : r.registers * suc (length x.registers.activations) ≤ r.registers * x.memory.call_limit = mul-le-mul_left r.registers one_more in
      let times : r.registers * suc (length x.registers.activations) ≡ r.registers + r.registers * length x.registers.activations = omega arith in
      let fits = r.space.registers_fit in
      let made = r.made in
      record {
        counted = r.counted.0;
        numbered = each_reversed ValueIsNumbered (take n x.arguments.0) [] (each_taken ValueIsNumbered n x.arguments.0 kept.arguments_have) tt;
        newer = newer x.memory.memory.frames x.made r.nested.falls;
        newer_ghosts = newer x.ghosts.memory.frames x.made (subst (λ ns. Falls ns x.made) (sym r.nested.ghost_frames) r.nested.falls);
        small = omega (arith, made, few);
        calls = omega (arith, frames, open_frames, open_callers, callers, calls);
        ghost_calls = let c = r.space.ghost_calls in omega (arith, ghosts, same_ghosts, open_frames, open_callers, callers, calls, c);
        register_calls = let c = r.space.register_calls in omega (arith, sizes, open_sizes, open_callers, callers, calls, c);
        callers = let c = r.space.callers in omega (arith, calls, c);
        sized = all_sized x.core.now.layouts r.program.formed.structs fn.locals formed.locals;
        room = room;
        ghosts_sized = subst (Each (λ d. Rattle.run_memory.specs.Storage.IsBlockSized x.core.now.layouts d.ctype)) (sym ghostless) tt;
        ghost_room = subst (λ ds. chunks x.ghosts.memory + variables_chunks x.core.now.layouts ds ≤ x.ghosts.chunk_limit) (sym ghostless) (let k = r.nested.ghosts_fit in omega (arith, k));
        register_room = omega (arith, all, small, space, times, fits);
      }

  -- its locals are few
  pub few_locals : (fn : Function) → chunks x.memory.memory + variables_chunks x.core.now.layouts fn.locals ≤ x.memory.chunk_limit → length fn.locals ≤ 4194304
  few_locals fn room = let v = few_variables x.core.now.layouts fn.locals in let c = r.space.few_chunks in omega (arith, v, c, room)
