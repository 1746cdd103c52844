-- What a machine has to have at a turn beside what each machine has that runs: the cells of a new heap block.
use Rattle.std.specs.Prelude.{◌≡◌, ◌+◌, ◌*◌, ◌≤◌, true}
use Rattle.step_meaning.specs.declared.value.Value.{Value}
use Rattle.step_meaning.specs.Allocation.{is_block_size}
use Rattle.step_meaning.specs.Limits.{chunks, chunks_for}
use Rattle.step_meaning.specs.Names.{integer}
use Rattle.step_meaning.specs.Numbers.{low_bits}
use Rattle.step_meaning.specs.TypeRules.{cells}
use Rattle.run_turns.specs.Pending as pending
use Rattle.run_state.specs.declared.machine.Machine.{Machine}

abbrev pub HasCells : Machine → pending.Operand → Value → Type 0
HasCells m (pending.Allocate t) v = is_block_size (low_bits 64 (integer v) * cells m.core.now.layouts t) ≡ true → chunks m.memory.memory + chunks_for (low_bits 64 (integer v) * cells m.core.now.layouts t) ≤ m.memory.chunk_limit
HasCells m o v = Unit {0}

abbrev pub HasCellsFor : Machine → pending.Pending → pending.Told → Type 0
HasCellsFor m (pending.Operate o) (pending.Gave v) = HasCells m o v
HasCellsFor m p t = Unit {0}
