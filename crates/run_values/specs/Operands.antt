-- What operators ask of their operands, as the types of a program give it.
use Rattle.std.specs.Prelude.{◌≡◌, ℕ, ◌+◌, ◌*◌, ◌^◌, ◌<◌, ◌≤◌, ℤ, pos, neg_ℤ, ◌≤ℤ◌, Bool, true, if◌then◌else◌, IsTrue, Result, Ok, Err}
use Rattle.step_meaning.specs.declared.value.IntKind.{IntKind}
use Rattle.step_meaning.specs.declared.value.CType.{CType}
use Rattle.step_meaning.specs.declared.value.Value.{Value}
use Rattle.step_meaning.specs.declared.value.RunFault.TheVariants as fault
use Rattle.step_meaning.specs.declared.expr.IntOp.{IntOp}
use Rattle.step_meaning.specs.declared.expr.Side.{Side}
use Rattle.step_meaning.specs.declared.expr.Side.TheVariants.{PointerFirst, PointerLast, Minus}
use Rattle.step_meaning.specs.declared.expr.UpdateOp.{UpdateOp}
use Rattle.step_meaning.specs.declared.expr.UpdateOp.TheVariants.{Integer, Forward, Backward}
use Rattle.step_meaning.specs.Numbers.{Checked, IsPromoted, is_in_range, is_right_operand, is_zero, low_bits}
use Rattle.step_meaning.specs.Names.{integer, IsNoInteger}
use Rattle.step_meaning.specs.Accesses.{brought_to}
use Rattle.step_meaning.specs.Allocation.{is_block_size}
use Rattle.step_meaning.specs.Limits.{chunks, chunks_for}
use Rattle.step_meaning.specs.TypeRules.{cells}
use Rattle.step_meaning.specs.State.{Lvalue, InRegister, At}
use Rattle.run_memory.specs.Cells.{ValueIsNumbered}
use Rattle.run_memory.specs.Storage.{IsNewerBlock}
use Rattle.run_turns.specs.Pending as pending
use Rattle.run_state.specs.declared.machine.Machine.{Machine}

-- ---- integers

-- an integer of some kind
pub record IsWord (v : Value) : Type 0 where
  pub low : neg_ℤ (pos (2 ^ 64)) ≤ℤ integer v
  pub high : integer v ≤ℤ pos (2 ^ 64)

pub record IsOperand (k : IntKind) (v : Value) : Type 0 where
  pub promoted : IsPromoted k
  pub operand : IsTrue (is_in_range k (integer v))

pub record AreOperands (o : IntOp) (k : IntKind) (v w : Value) : Type 0 where
  pub promoted : IsPromoted k
  pub left : IsTrue (is_in_range k (integer v))
  pub right : IsTrue (is_right_operand o k (integer w))

-- ---- pointers

-- a pointer and an integer
pub record AreMoved (p i : Value) : Type 0 where
  pub pointer : IsNoInteger p
  pub word : IsWord i

abbrev pub AreSided : Side → Value → Value → Type 0
AreSided PointerFirst v w = AreMoved v w
AreSided PointerLast v w = AreMoved w v
AreSided Minus v w = AreMoved v w

pub record ArePointers (p q : Value) : Type 0 where
  pub first : IsNoInteger p
  pub second : IsNoInteger q

-- the difference in elements without cells, from that in cells
abbrev pub in_no_units : Checked ℤ → Checked ℤ
in_no_units (Ok d) = if is_zero d then Ok (pos 0) else Err fault.Pointer
in_no_units (Err f) = Err f

-- ---- compound assignments

-- the old value at a place of this type, and the right side
pub record AreUpdated (o : IntOp) (k : IntKind) (t : CType) (old v : Value) : Type 0 where
  pub promoted : IsPromoted k
  pub left : IsTrue (is_in_range k (brought_to k t (integer old)))
  pub right : IsTrue (is_right_operand o k (integer v))

abbrev pub MayUpdate : UpdateOp → CType → Value → Value → Type 0
MayUpdate (Integer o k) t old v = AreUpdated o k t old v
MayUpdate (Forward size) t old v = AreMoved old v
MayUpdate (Backward size) t old v = AreMoved old v

-- ---- the heap

-- a new block has a number above all others, and room where it is made
pub record MayAllocate (m : Machine) (t : CType) (v : Value) : Type 0 where
  pub newer : IsNewerBlock m.allocated m.memory.memory.heap
  pub small : m.allocated < 1099511627776
  pub room : is_block_size (low_bits 64 (integer v) * cells m.core.now.layouts t) ≡ true → chunks m.memory.memory + chunks_for (low_bits 64 (integer v) * cells m.core.now.layouts t) ≤ m.memory.chunk_limit

-- so many objects of a size make a block, and n is their count
pub record IsBlock (size count n : ℕ) : Type 0 where
  pub same : n ≡ count
  pub some : 1 ≤ n * size
  pub few : n * size ≤ 65536

-- ---- what a pending part asks of what it is told

abbrev pub MayOperate : Machine → pending.Operand → Value → Type 0
MayOperate m (pending.Unary o k) v = IsOperand k v
MayOperate m (pending.BinaryNow o k v) w = AreOperands o k v w
MayOperate m (pending.MoveNow size side v) w = AreSided side v w
MayOperate m (pending.DifferenceNow unit v) w = ArePointers v w
MayOperate m (pending.Store t l) v = ValueIsNumbered v
MayOperate m (pending.UpdateNow t o w l old) v = MayUpdate o t old v
MayOperate m (pending.Allocate t) v = MayAllocate m t v
MayOperate m o v = Unit {0}

-- an operator that makes no step
abbrev pub Computes : pending.Operand → Type 0
Computes (pending.Store t l) = ⊥
Computes (pending.Allocate t) = ⊥
Computes pending.Release = ⊥
Computes o = Unit {0}

-- an object in memory has an address that is no integer
abbrev pub IsPlaced : Lvalue → Type 0
IsPlaced (InRegister i) = Unit {0}
IsPlaced (At p) = IsNoInteger p

abbrev pub MaySelect : pending.Selection → Lvalue → Type 0
MaySelect (pending.MemberAt o) l = IsPlaced l
MaySelect (pending.ElementAt e size) l = Unit {0}

abbrev pub MayDesignate : pending.Designation → Value → Type 0
MayDesignate pending.Dereference v = Unit {0}
MayDesignate (pending.ElementNow l size) v = IsPlaced l × IsWord v
