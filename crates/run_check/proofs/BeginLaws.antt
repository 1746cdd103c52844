-- The start of an activation as the next step, or as a step that passes a limit.
use Rattle.std.proofs.Common.{◌≡◌, ℕ, suc, ◌+◌, ◌<◌, ◌≤◌, Bool, true, false, ◌||◌, List, [], ◌∷◌, length, take, drop, Option, Some, None, refl, sym, ap, subst, ◌∙◌, arith}
use Rattle.std.specs.Prelude.{nat_le, nat_lt, slice_get}
use Rattle.std.specs.List.{AllByRecursion}
use Rattle.std.proofs.lemmas.Bool.{le-ltb, leb-false, leb-true, lt-ltb}
use Rattle.std.proofs.lemmas.List.{append-nil}
use Rattle.step_meaning.specs.declared.value.Action.TheVariants as act
use Rattle.step_meaning.specs.declared.program.Declared.{Declared}
use Rattle.step_meaning.specs.declared.program.Function.{Function}
use Rattle.step_meaning.specs.declared.program.Layout.{Layout}
use Rattle.step_meaning.specs.ExpressionTypes.{has_body}
use Rattle.step_meaning.specs.Steps.{Step}
use Rattle.step_meaning.specs.Limits.{chunks as chunks_of}
use Rattle.step_meaning.proofs.FormedFunctions.{formed_function}
use Rattle.run_memory.specs.Storage.{IsBlockSized, variables_chunks}
use Rattle.run_memory.proofs.SizedTypes.{all_sized}
use Rattle.run_turns.specs.Lists.{reversed_onto}
use Rattle.run_turns.specs.Pending as pending
use Rattle.run_turns.specs.Rest.{rest}
use Rattle.run_turns.specs.Turns.{Configuration, entered, pushed}
use Rattle.run_state.specs.declared.machine.Machine.{Machine}
use Rattle.run_state.specs.declared.machine.Waiting.{Waiting}
use Rattle.step_meaning.specs.State.{Registers}
use Rattle.run_state.specs.Machine.{Fixed, all_callers, body_of, configuration_of, fixed_of}
use Rattle.run_start.specs.Running.{Runs}
use Rattle.run_steps.specs.Turning.{MayEnter, begun}
use Rattle.run_laws.proofs.Beginning.{begin_follows, begins, callee, entered_chunks}
use Rattle.run_laws.proofs.Entering.{counted_callers, counted_frames, few_locals, may_enter}
use Rattle.run_check.specs.Advancing.{Makes, StopsForCalls, StopsForCells}

neither : (a b : Bool) → a ≡ false → b ≡ false → (a || b) ≡ false
neither false b h g = g
neither true b h g = h

module _ (chunks calls steps : ℕ) (f : Fixed) (g n : ℕ) (m : Configuration) (r : Runs steps f (pushed (pending.Enter g n) m)) (fn : Function) (found : slice_get f.core.functions g ≡ Some fn) (there : has_body fn ≡ true) where
  abbrev pub after : Configuration
  after = entered f.core g fn (body_of f.core g) n m

  abbrev pub enter_step : Step
  enter_step = record { action = act.Enter g (reversed_onto (take n m.context.arguments) []); function = after.context.here.function; activation = after.context.here.activation; memory = after.memory }

  few_chunks : chunks_of m.memory + variables_chunks f.core.layouts fn.locals ≤ chunks → nat_lt chunks (chunks_of after.memory) ≡ false
  few_chunks h = le-ltb chunks (chunks_of after.memory) (subst (λ k. k ≤ chunks) (sym (entered_chunks f.core g fn (body_of f.core g) n m)) h)

  -- within the limits
  pub begin_made : suc (length m.memory.frames) ≤ calls → chunks_of m.memory + variables_chunks f.core.layouts fn.locals ≤ chunks → (left held : Option (List ℕ)) → Makes chunks calls f.core (pushed (pending.Enter g n) m) after left left held held
  begin_made fits cells left held =
      record {
        step = enter_step;
        within = neither _ _ (le-ltb calls (suc (length m.memory.frames)) fits) (few_chunks cells);
        taken = λ bytes e. e;
        follows = λ bytes e k. begin_follows steps f g n m r fn found there bytes k;
        written = λ bytes e. e ∙ ap Some (sym (append-nil bytes));
        shows = λ h. refl;
      }

  -- with too many activations open
  pub stops_for_calls : calls < suc (length m.memory.frames) → (left held : Option (List ℕ)) → StopsForCalls chunks calls f.core (pushed (pending.Enter g n) m) (pushed (pending.Enter g n) m) left left held held
  stops_for_calls many left held = record { kept_input = refl; kept_output = refl; stays = λ bytes k. refl; step = enter_step; next = λ bytes k. (rest f.core after bytes k, begin_follows steps f g n m r fn found there bytes k); passes = lt-ltb calls (suc (length m.memory.frames)) many }

  -- with too many chunks
  pub stops_for_cells : suc (length m.memory.frames) ≤ calls → chunks < chunks_of m.memory + variables_chunks f.core.layouts fn.locals → (left held : Option (List ℕ)) → StopsForCells chunks calls f.core (pushed (pending.Enter g n) m) (pushed (pending.Enter g n) m) left left held held
  stops_for_cells fits many left held =
      record {
        kept_input = refl;
        kept_output = refl;
        stays = λ bytes k. refl;
        step = enter_step;
        next = λ bytes k. (rest f.core after bytes k, begin_follows steps f g n m r fn found there bytes k);
        calls_fit = le-ltb calls (suc (length m.memory.frames)) fits;
        passes = lt-ltb chunks (chunks_of after.memory) (subst (λ k. chunks < k) (sym (entered_chunks f.core g fn (body_of f.core g) n m)) many);
      }

-- ---- in the machine

same_function : (a b : Function) → Some a ≡ Some b → a ≡ b
same_function a b e = cc

all_callers_counted : (ws : List Waiting) (rs : List Registers) → length (all_callers ws rs) ≡ length ws
all_callers_counted [] rs = refl
all_callers_counted (w ∷ ws) rs = ap suc (all_callers_counted ws (drop 1 rs))

one_over : (a b : ℕ) → a ≤ b → a < suc b
one_over a b l = omega (arith, l)

-- what a test of room tells
room_seen : (layouts shown : List Layout) (ds seen : List Declared) (used limit : ℕ) (b c : Bool) → shown ≡ layouts → seen ≡ ds → b ≡ nat_le (used + variables_chunks shown seen) limit → b ≡ c → nat_le (used + variables_chunks layouts ds) limit ≡ c
room_seen layouts shown ds seen used limit b c e h k l =
    subst (λ (s : List Layout). nat_le (used + variables_chunks s ds) limit ≡ c) e
    (subst (λ (s : List Declared). nat_le (used + variables_chunks shown s) limit ≡ c) h (sym k ∙ l))

pub has_room : (layouts shown : List Layout) (ds seen : List Declared) (used limit : ℕ) (b : Bool) → shown ≡ layouts → seen ≡ ds → b ≡ nat_le (used + variables_chunks shown seen) limit → b ≡ true → used + variables_chunks layouts ds ≤ limit
has_room layouts shown ds seen used limit b e h k l = leb-true (used + variables_chunks layouts ds) limit (room_seen layouts shown ds seen used limit b true e h k l)

pub lacks_room : (layouts shown : List Layout) (ds seen : List Declared) (used limit : ℕ) (b : Bool) → shown ≡ layouts → seen ≡ ds → b ≡ nat_le (used + variables_chunks shown seen) limit → b ≡ false → limit < used + variables_chunks layouts ds
lacks_room layouts shown ds seen used limit b e h k l = leb-false (used + variables_chunks layouts ds) limit (room_seen layouts shown ds seen used limit b false e h k l)

module _ (steps : ℕ) (x : Machine) (g n : ℕ) (r : Runs steps (fixed_of x) (pushed (pending.Enter g n) (configuration_of x))) where
  -- as many frames as callers
  pub frames_are_callers : length x.memory.memory.frames ≡ length x.callers.0
  frames_are_callers = sym (counted_frames x.memory.memory.frames) ∙ r.nested.frames ∙ sym r.nested.callers ∙ counted_callers x.callers.0 (drop 1 x.registers.activations)

  -- its function is there
  pub is_there : slice_get x.core.now.functions g ≡ None → ⊥
  is_there e = no (callee steps (fixed_of x) g n (configuration_of x) r).0 (sym e ∙ (callee steps (fixed_of x) g n (configuration_of x) r).1)
    where
      no : (f : Function) → None ≡ Some f → ⊥
      no f e = cc

  module _ (fn : Function) (found : slice_get x.core.now.functions g ≡ Some fn) where
    pub its_body : has_body fn ≡ true
    its_body = let k = callee steps (fixed_of x) g n (configuration_of x) r in subst (λ f. has_body f ≡ true) (same_function k.0 fn (sym k.1 ∙ found)) k.2

    pub locals_sized : AllByRecursion (λ d. IsBlockSized x.core.now.layouts d.ctype) fn.locals
    locals_sized = all_sized x.core.now.layouts r.program.formed.structs fn.locals (formed_function x.core.now r.program.formed g fn found its_body).locals

    pub may_begin : steps < 1099511627776 → length x.callers.0 < x.memory.call_limit → chunks_of x.memory.memory + variables_chunks x.core.now.layouts fn.locals ≤ x.memory.chunk_limit → MayEnter x fn n
    may_begin few calls room = may_enter steps x g n r few fn found its_body calls room

    pub begin_runs : steps < 1099511627776 → length x.callers.0 < x.memory.call_limit → chunks_of x.memory.memory + variables_chunks x.core.now.layouts fn.locals ≤ x.memory.chunk_limit → Runs (suc steps) (begun (length fn.registers) (fixed_of x)) (entered x.core.now g fn (body_of x.core.now g) n (configuration_of x))
    begin_runs few calls room = begins steps (fixed_of x) g n (configuration_of x) r fn found its_body (subst (λ k. k < x.memory.call_limit) (sym (all_callers_counted x.callers.0 (drop 1 x.registers.activations))) calls) (few_locals steps x g n r few fn room)

    pub begin_makes : length x.callers.0 < x.memory.call_limit → chunks_of x.memory.memory + variables_chunks x.core.now.layouts fn.locals ≤ x.memory.chunk_limit → (left held : Option (List ℕ)) → Makes x.memory.chunk_limit x.memory.call_limit x.core.now (pushed (pending.Enter g n) (configuration_of x)) (entered x.core.now g fn (body_of x.core.now g) n (configuration_of x)) left left held held
    begin_makes calls room left held = begin_made x.memory.chunk_limit x.memory.call_limit steps (fixed_of x) g n (configuration_of x) r fn found its_body (subst (λ k. k < x.memory.call_limit) (sym frames_are_callers) calls) room left held

    pub stops_at_calls : x.memory.call_limit ≤ length x.callers.0 → (left held : Option (List ℕ)) → StopsForCalls x.memory.chunk_limit x.memory.call_limit x.core.now (pushed (pending.Enter g n) (configuration_of x)) (pushed (pending.Enter g n) (configuration_of x)) left left held held
    stops_at_calls many left held = stops_for_calls x.memory.chunk_limit x.memory.call_limit steps (fixed_of x) g n (configuration_of x) r fn found its_body (subst (λ k. x.memory.call_limit < suc k) (sym frames_are_callers) (one_over x.memory.call_limit (length x.callers.0) many)) left held

    pub stops_at_cells : length x.callers.0 < x.memory.call_limit → x.memory.chunk_limit < chunks_of x.memory.memory + variables_chunks x.core.now.layouts fn.locals → (left held : Option (List ℕ)) → StopsForCells x.memory.chunk_limit x.memory.call_limit x.core.now (pushed (pending.Enter g n) (configuration_of x)) (pushed (pending.Enter g n) (configuration_of x)) left left held held
    stops_at_cells calls many left held = stops_for_cells x.memory.chunk_limit x.memory.call_limit steps (fixed_of x) g n (configuration_of x) r fn found its_body (subst (λ k. k < x.memory.call_limit) (sym frames_are_callers) calls) many left held
