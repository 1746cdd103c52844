-- What a cell of the region stands for.
use Rattle.std.specs.Prelude.{map, Option, Some, None, option_map}
use Rattle.step_meaning.specs.declared.value.CType.{CType}
use Rattle.step_meaning.specs.declared.value.CType.TheVariants as type
use Rattle.step_meaning.specs.declared.value.Value.{Value}
use Rattle.step_meaning.specs.declared.value.Value.TheVariants as value
use Rattle.step_meaning.specs.declared.value.Cell.{Cell}
use Rattle.step_meaning.specs.declared.value.Cell.TheVariants.{Nothing, Holds}
use Rattle.step_meaning.specs.Memory.{Slot}
use Rattle.cell_pool.specs.Region.{Block, Region}
use Rattle.run_memory.specs.declared.cell.Held.{Held}
use Rattle.run_memory.specs.declared.cell.Held.TheVariants as held
use Rattle.run_memory.specs.declared.cell.PoolCell.{PoolCell}
use Rattle.run_memory.specs.Numbering.{named_by, IsNumbered}

abbrev pub cell_of : Held → Cell
cell_of held.Nothing = Nothing
cell_of (held.Int z) = Holds (value.Int z)
cell_of held.Null = Holds value.Null
cell_of (held.Pointer slot n o) = Holds (value.Pointer (named_by n) o)

-- a pointer's name is within the numbers
abbrev pub ValueIsNumbered : Value → Type 0
ValueIsNumbered (value.Pointer n o) = IsNumbered n.kind n.activation n.index
ValueIsNumbered v = Unit {0}

abbrev pub ArgumentIsNumbered : Option Value → Type 0
ArgumentIsNumbered None = Unit {0}
ArgumentIsNumbered (Some v) = ValueIsNumbered v

abbrev pub CellIsNumbered : Cell → Type 0
CellIsNumbered Nothing = Unit {0}
CellIsNumbered (Holds v) = ValueIsNumbered v

abbrev pub or_void : Option CType → CType
or_void None = type.Void
or_void (Some t) = t

abbrev pub slot_of : PoolCell → Slot
slot_of c = record { declared = or_void (option_map (λ t. t.now) c.ctype); cell = cell_of c.held }

-- ---- the region, with what its cells stand for

abbrev pub seen_block : Block PoolCell → Block Slot
seen_block b = record { name = b.name; cells = map slot_of b.cells }

abbrev pub seen : Region PoolCell → Region Slot
seen r = record { blank = slot_of r.blank; blocks = map (option_map seen_block) r.blocks }
