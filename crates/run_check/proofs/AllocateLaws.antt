-- `malloc` as the next step, or as a step that passes the limit.
use Rattle.std.proofs.Common.{◌≡◌, ℕ, suc, zero, ◌+◌, ◌*◌, ◌<◌, ◌≤◌, Bool, true, false, List, length, Option, Some, None, refl, sym, ap, subst, ◌∙◌, arith, inl, inr}
use Rattle.std.specs.Prelude.{cond, nat_le, not, ◌||◌}
use Rattle.std.proofs.lemmas.Bool.{cases_Bool, le-ltb, leb-false, leb-true, lt-ltb}
use Rattle.std.proofs.lemmas.List.{append-nil}
use Rattle.step_meaning.specs.declared.value.Action.{Action}
use Rattle.step_meaning.specs.declared.value.Action.TheVariants as act
use Rattle.step_meaning.specs.declared.value.CType.{CType}
use Rattle.step_meaning.specs.declared.value.Value.{Value}
use Rattle.step_meaning.specs.declared.value.Value.TheVariants as value
use Rattle.step_meaning.specs.declared.program.Core.{Core}
use Rattle.step_meaning.specs.Allocation.{block_for, block_pointer, block_where, is_block_size}
use Rattle.step_meaning.specs.Limits.{are_too_many, chunks as chunks_of, chunks_for}
use Rattle.step_meaning.specs.Memory.{Block, Memory}
use Rattle.step_meaning.specs.Names.{integer}
use Rattle.step_meaning.specs.Numbers.{low_bits}
use Rattle.step_meaning.specs.Steps.{Step}
use Rattle.step_meaning.specs.declared.program.Layout.{Layout}
use Rattle.step_meaning.specs.TypeRules.{cells, most_cells}
use Rattle.step_meaning.proofs.Ranges.{false_is_not_true, left_of_and}
use Rattle.step_meaning.specs.Types.{object_cells, times}
use Rattle.step_meaning.proofs.TypedAllocation.{times_length, unset_length}
use Rattle.run_turns.specs.Pending as pending
use Rattle.run_turns.specs.Rest.{rest}
use Rattle.run_turns.specs.Turns as turns
use Rattle.run_turns.specs.Turns.{Configuration, pushed, turn_at}
use Rattle.run_state.specs.declared.machine.Machine.{Machine}
use Rattle.run_state.specs.Machine.{Fixed, configuration_of, fixed_of, told_of}
use Rattle.run_start.specs.Running.{Runs}
use Rattle.run_steps.specs.Turning.{MayTurn}
use Rattle.run_laws.specs.Granted.{HasCellsFor}
use Rattle.run_laws.specs.Parts.{steps_after}
use Rattle.run_laws.proofs.Granted.{may}
use Rattle.run_laws.proofs.Staying.{stays}
use Rattle.run_laws.specs.Follows.{Follows}
use Rattle.run_laws.proofs.Following.{plainly}
use Rattle.run_check.specs.Advancing.{Makes, StopsForCells, block_fits}

-- ---- the step

abbrev pub pointer_to : ℕ → Option Block → Value
pointer_to n None = value.Null
pointer_to n (Some b) = block_pointer n

abbrev pub cells_in : Option Block → ℕ
cells_in None = 0
cells_in (Some b) = length b

allocated_step : (count : ℕ) (o : Option Block) (m : Configuration) → (turns.allocated_block count o m).step ≡ Some (act.Malloc count (pointer_to m.allocated o) (cells_in o))
allocated_step count None m = refl
allocated_step count (Some b) m = refl

-- the block has the cells of all objects, where so many make one
block_cells : (b : Bool) (count : ℕ) (t : CType) (q : Core) → cells_in (block_where b count (object_cells q.layouts t)) ≡ cond b (count * cells q.layouts t) 0
block_cells true count t q = unset_length (times count (object_cells q.layouts t)) ∙ times_length count (object_cells q.layouts t)
block_cells false count t q = refl

few_enough : (c n k : ℕ) (p : Value) (memory : Memory) → (1 ≤ k → chunks_of memory + chunks_for k ≤ c) → are_too_many c (act.Malloc n p k) memory ≡ false
few_enough c n zero p memory h = refl
few_enough c n (suc k) p memory h = le-ltb c (chunks_of memory + chunks_for (suc k)) (h (omega arith))

too_many : (c n k : ℕ) (p : Value) (memory : Memory) → 1 ≤ k → c < chunks_of memory + chunks_for k → are_too_many c (act.Malloc n p k) memory ≡ true
too_many c n zero p memory some h = absurd (no some)
  where
    no : 1 ≤ 0 → ⊥
    no l = omega (arith, l)
too_many c n (suc k) p memory some h = lt-ltb c (chunks_of memory + chunks_for (suc k)) h

module _ (chunks calls : ℕ) (f : Fixed) (t : CType) (v : Value) (m : Configuration) (gave : m.told ≡ pending.Gave v) where
  abbrev pub count : ℕ
  count = low_bits 64 (integer v)

  abbrev pub total : ℕ
  total = count * cells f.core.layouts t

  abbrev pub block : Option Block
  block = block_for f.core.layouts t count

  abbrev pub malloc_step : Step
  malloc_step = record { action = act.Malloc count (pointer_to m.allocated block) (cells_in block); function = m.context.here.function; activation = m.context.here.activation; memory = m.memory }

  abbrev pub after : Configuration
  after = (turns.allocating f.core t v m).after

  malloc_follows : Follows f.core (Some (act.Malloc count (pointer_to m.allocated block) (cells_in block))) (pushed (pending.Operate (pending.Allocate t)) m) m.context.here m.memory after
  malloc_follows =
      subst (λ (o : Option Action). Follows f.core o (pushed (pending.Operate (pending.Allocate t)) m) m.context.here m.memory after) (allocated_step count block m)
      (subst (λ (u : pending.Told). Follows f.core (turn_at f.core (pending.Operate (pending.Allocate t)) u m).step (pushed (pending.Operate (pending.Allocate t)) m) m.context.here m.memory (turn_at f.core (pending.Operate (pending.Allocate t)) u m).after) gave
      (plainly f.core (pending.Operate (pending.Allocate t)) m.told tt m))

  its_cells : (b : Bool) → is_block_size total ≡ b → cells_in block ≡ cond b total 0
  its_cells b e = ap (λ b. cells_in (block_where b count (object_cells f.core.layouts t))) e ∙ block_cells b count t f.core

  within_by : (b : Bool) → is_block_size total ≡ b → (is_block_size total ≡ true → chunks_of m.memory + chunks_for total ≤ chunks) → are_too_many chunks (act.Malloc count (pointer_to m.allocated block) (cells_in block)) m.memory ≡ false
  within_by true e h = few_enough chunks count (cells_in block) (pointer_to m.allocated block) m.memory (λ some. subst (λ k. chunks_of m.memory + chunks_for k ≤ chunks) (sym (its_cells true e)) (h e))
  within_by false e h = ap (λ k. are_too_many chunks (act.Malloc count (pointer_to m.allocated block) k) m.memory) (its_cells false e)

  -- within the limit
  pub allocate_made : (is_block_size total ≡ true → chunks_of m.memory + chunks_for total ≤ chunks) → (left held : Option (List ℕ)) → Makes chunks calls f.core (pushed (pending.Operate (pending.Allocate t)) m) after left left held held
  allocate_made h left held =
      record {
        step = malloc_step;
        within = within_by (is_block_size total) refl h;
        taken = λ bytes e. e;
        follows = λ bytes e n. malloc_follows bytes n;
        written = λ bytes e. e ∙ ap Some (sym (append-nil bytes));
        shows = λ h. absurd h;
      }

  -- with too many chunks
  pub allocate_stops : 1 ≤ total → is_block_size total ≡ true → chunks < chunks_of m.memory + chunks_for total → (left held : Option (List ℕ)) → StopsForCells chunks calls f.core (pushed (pending.Operate (pending.Allocate t)) m) (pushed (pending.Operate (pending.Allocate t)) m) left left held held
  allocate_stops some e many left held =
      record {
        kept_input = refl;
        kept_output = refl;
        stays = λ bytes k. refl;
        step = malloc_step;
        next = λ bytes k. (rest f.core after bytes k, malloc_follows bytes k);
        calls_fit = refl;
        passes = too_many chunks count (cells_in block) (pointer_to m.allocated block) m.memory (subst (λ k. 1 ≤ k) (sym (its_cells true e)) some) (subst (λ k. chunks < chunks_of m.memory + chunks_for k) (sym (its_cells true e)) many);
      }

-- ---- a test of room

-- where a block would be made, it has room
pub fits_there : (size used limit : ℕ) → block_fits size used limit ≡ true → is_block_size size ≡ true → used + chunks_for size ≤ limit
fits_there size used limit h e = leb-true (used + chunks_for size) limit (sym (ap (λ b. not b || nat_le (used + chunks_for size) limit) e) ∙ h)

-- a block would be made, without room
pub fits_nowhere : (size used limit : ℕ) → block_fits size used limit ≡ false → (is_block_size size ≡ true) × (limit < used + chunks_for size)
fits_nowhere size used limit h =
    elim (cases_Bool (is_block_size size)) [
      | inl e ↦ (e, leb-false (used + chunks_for size) limit (sym (ap (λ b. not b || nat_le (used + chunks_for size) limit) e) ∙ h))
      | inr e ↦ false_is_not_true (sym h ∙ ap (λ b. not b || nat_le (used + chunks_for size) limit) e)
    ]

pub is_some_size : (size : ℕ) → is_block_size size ≡ true → 1 ≤ size
is_some_size size e = leb-true 1 size (left_of_and (nat_le 1 size) (nat_le size most_cells) e)

pub fits_seen : (layouts shown : List Layout) (t : CType) (v : Value) (used used' limit limit' : ℕ) (b c : Bool) → shown ≡ layouts → used ≡ used' → limit ≡ limit' → b ≡ block_fits (low_bits 64 (integer v) * cells shown t) used limit → b ≡ c → block_fits (low_bits 64 (integer v) * cells layouts t) used' limit' ≡ c
fits_seen layouts shown t v used used' limit limit' b c e h g k l =
    subst (λ (s : List Layout). block_fits (low_bits 64 (integer v) * cells s t) used' limit' ≡ c) e
    (subst (λ (n : ℕ). block_fits (low_bits 64 (integer v) * cells shown t) n limit' ≡ c) h
    (subst (λ (n : ℕ). block_fits (low_bits 64 (integer v) * cells shown t) used n ≡ c) g (sym k ∙ l)))

-- ---- in the machine

module _ (steps : ℕ) (x : Machine) (t : CType) (v : Value) (gave : told_of x.told ≡ pending.Gave v) (r : Runs steps (fixed_of x) (pushed (pending.Operate (pending.Allocate t)) (configuration_of x))) where
  abbrev pub wanted : ℕ
  wanted = low_bits 64 (integer v) * cells x.core.now.layouts t

  abbrev pub turned : Configuration
  turned = (turn_at x.core.now (pending.Operate (pending.Allocate t)) (told_of x.told) (configuration_of x)).after

  pub may_allocate : steps < 1099511627776 → block_fits wanted (chunks_of x.memory.memory) x.memory.chunk_limit ≡ true → MayTurn x (pending.Operate (pending.Allocate t)) (told_of x.told)
  may_allocate few h = may steps x few (pending.Operate (pending.Allocate t)) tt r (subst (λ (u : pending.Told). HasCellsFor x (pending.Operate (pending.Allocate t)) u) (sym gave) (fits_there wanted (chunks_of x.memory.memory) x.memory.chunk_limit h))

  pub allocate_runs : steps < 1099511627776 → Runs (suc steps) (fixed_of x) turned
  allocate_runs few =
      let count : ℕ = low_bits 64 (integer v) in
      subst (λ (o : Option Action). Runs (steps_after o steps) (fixed_of x) turned)
      (ap (λ (u : pending.Told). (turn_at x.core.now (pending.Operate (pending.Allocate t)) u (configuration_of x)).step) gave ∙ allocated_step count (block_for x.core.now.layouts t count) (configuration_of x))
      (stays steps (fixed_of x) (pending.Operate (pending.Allocate t)) (configuration_of x) tt tt few r)

  pub allocate_makes : block_fits wanted (chunks_of x.memory.memory) x.memory.chunk_limit ≡ true → (left held : Option (List ℕ)) → Makes x.memory.chunk_limit x.memory.call_limit x.core.now (pushed (pending.Operate (pending.Allocate t)) (configuration_of x)) turned left left held held
  allocate_makes h left held =
      subst (λ (u : pending.Told). Makes x.memory.chunk_limit x.memory.call_limit x.core.now (pushed (pending.Operate (pending.Allocate t)) (configuration_of x)) (turn_at x.core.now (pending.Operate (pending.Allocate t)) u (configuration_of x)).after left left held held) (sym gave)
      (allocate_made x.memory.chunk_limit x.memory.call_limit (fixed_of x) t v (configuration_of x) gave (fits_there wanted (chunks_of x.memory.memory) x.memory.chunk_limit h) left held)

  pub allocate_lacks : block_fits wanted (chunks_of x.memory.memory) x.memory.chunk_limit ≡ false → (left held : Option (List ℕ)) → StopsForCells x.memory.chunk_limit x.memory.call_limit x.core.now (pushed (pending.Operate (pending.Allocate t)) (configuration_of x)) (pushed (pending.Operate (pending.Allocate t)) (configuration_of x)) left left held held
  allocate_lacks h left held =
      let k = fits_nowhere wanted (chunks_of x.memory.memory) x.memory.chunk_limit h in
      allocate_stops x.memory.chunk_limit x.memory.call_limit (fixed_of x) t v (configuration_of x) gave (is_some_size wanted k.0) k.0 k.1 left held
