-- What the types of a program give an operation at its operands.
use Rattle.std.proofs.Common.{◌≡◌, ◌^◌, ◌≤◌, Bool, true, false, cond, refl, sym, subst, arith}
use Rattle.std.specs.Prelude.{ℤ, pos, negsuc, neg_ℤ, ◌≤ℤ◌, IsTrue}
use Rattle.std.proofs.lemmas.Int.{ints}
use Rattle.step_meaning.specs.declared.value.IntKind.{IntKind}
use Rattle.step_meaning.specs.declared.value.IntKind.TheVariants as kind
use Rattle.step_meaning.specs.declared.value.CType.{CType}
use Rattle.step_meaning.specs.declared.value.CType.TheVariants as type
use Rattle.step_meaning.specs.declared.value.Value.{Value}
use Rattle.step_meaning.specs.declared.value.Value.TheVariants as value
use Rattle.step_meaning.specs.declared.expr.IntOp.{IntOp}
use Rattle.step_meaning.specs.declared.expr.Side.{Side}
use Rattle.step_meaning.specs.declared.expr.Side.TheVariants.{PointerFirst, PointerLast, Minus}
use Rattle.step_meaning.specs.declared.expr.UpdateOp.{UpdateOp}
use Rattle.step_meaning.specs.declared.expr.UpdateOp.TheVariants.{Integer, Forward, Backward}
use Rattle.step_meaning.specs.declared.program.Core.{Core}
use Rattle.step_meaning.specs.declared.program.Function.{Function}
use Rattle.step_meaning.specs.Accesses.{brought, brought_to}
use Rattle.step_meaning.specs.Conversions.{is_promoted, same_int_kind}
use Rattle.step_meaning.specs.Names.{integer, IsNoInteger}
use Rattle.step_meaning.specs.Numbers.{IsPromoted, converted, is_in_range}
use Rattle.step_meaning.specs.State.{Lvalue, InRegister, At}
use Rattle.step_meaning.proofs.Ranges.{bound, natural_below, negative_below, false_is_not_true, converted_in_range}
use Rattle.step_meaning.proofs.OperatorRanges.{InRange}
use Rattle.step_meaning.proofs.StepsFit.{IsAddress}
use Rattle.step_meaning.proofs.TypedMemory.{InCell, has_same_type}
use Rattle.step_meaning.proofs.TypedOperators.{integer_in_range}
use Rattle.run_memory.specs.Cells.{ValueIsNumbered}
use Rattle.run_turns.specs.Pending as pending
use Rattle.run_turns.specs.Typed.{IsInteger, IsObject, BinaryFits, MoveFits, UpdateFits, UpdatedFits, OperandTakes, SelectionTakes, DesignationTakes}
use Rattle.run_state.specs.declared.machine.Machine.{Machine}
use Rattle.run_values.specs.Operands.{IsWord, AreOperands, AreMoved, AreSided, MayUpdate, MayAllocate, MayOperate, MaySelect, MayDesignate, IsPlaced}

-- ---- integers

bound_fits : (k : IntKind) → bound k ≤ 2 ^ 64
bound_fits kind.Char = omega arith
bound_fits kind.SChar = omega arith
bound_fits kind.UChar = omega arith
bound_fits kind.Short = omega arith
bound_fits kind.UShort = omega arith
bound_fits kind.Int = omega arith
bound_fits kind.UInt = omega arith
bound_fits kind.Long = omega arith
bound_fits kind.ULong = omega arith

low_word : (k : IntKind) (z : ℤ) → InRange k z → neg_ℤ (pos (2 ^ 64)) ≤ℤ z
low_word k (pos n) h = omega (arith, ints)
low_word k (negsuc n) h =
    let b = (negative_below k n h).1 in
    let l = bound_fits k in
    omega (arith, ints)

high_word : (k : IntKind) (z : ℤ) → InRange k z → z ≤ℤ pos (2 ^ 64)
high_word k (pos n) h =
    let b = natural_below k n h in
    let l = bound_fits k in
    omega (arith, ints)
high_word k (negsuc n) h = omega (arith, ints)

is_word : (v : Value) → IsInteger v → IsWord v
is_word v h =
    let r = integer_in_range h.0 v h.1 in
    record { low = low_word h.0 (integer v) r; high = high_word h.0 (integer v) r }

promoted : (k : IntKind) → is_promoted k ≡ true → IsPromoted k
promoted kind.Int h = tt
promoted kind.UInt h = tt
promoted kind.Long h = tt
promoted kind.ULong h = tt
promoted kind.Char h = false_is_not_true h
promoted kind.SChar h = false_is_not_true h
promoted kind.UChar h = false_is_not_true h
promoted kind.Short h = false_is_not_true h
promoted kind.UShort h = false_is_not_true h

are_operands : (o : IntOp) (k : IntKind) (v w : Value) → BinaryFits o k v w → AreOperands o k v w
are_operands o k v w h = record { promoted = promoted k h.0; left = h.1; right = h.2 }

-- ---- pointers

no_integer : (v : Value) → IsAddress v → IsNoInteger v
no_integer (value.Int z) h = absurd h
no_integer value.Null h = tt
no_integer (value.Pointer n o) h = tt

are_moved : (p i : Value) → IsAddress p → IsInteger i → AreMoved p i
are_moved p i h g = record { pointer = no_integer p h; word = is_word i g }

are_sided : (side : Side) (v w : Value) → MoveFits side v w → AreSided side v w
are_sided PointerFirst v w h = are_moved v w h.0 h.1
are_sided PointerLast v w h = are_moved w v h.0 h.1
are_sided Minus v w h = are_moved v w h.0 h.1

-- ---- compound assignments

brought_fits : (l k : IntKind) (z : ℤ) → InRange l z → InRange k (brought l k z)
brought_fits l k z h = by (same_int_kind l k) refl
  where
    by : (b : Bool) → same_int_kind l k ≡ b → InRange k (cond b z (converted k z))
    by true e = has_same_type (type.Int l) (type.Int k) (value.Int z) e h
    by false e = converted_in_range k z

may_update : (o : UpdateOp) (t : CType) (old v : Value) → InCell t old → UpdatedFits t o old → UpdateFits o v → MayUpdate o t old v
may_update (Integer o k) t old v c h g =
    let l = h.0 in
    let in_kind : InRange l (integer old) = integer_in_range l old (subst (λ u. InCell u old) h.1 c) in
    record { promoted = promoted k g.0; left = subst (λ u. IsTrue (is_in_range k (brought_to k u (integer old)))) (sym h.1) (brought_fits l k (integer old) in_kind); right = g.1 }
may_update (Forward size) t old v c h g = are_moved old v h g
may_update (Backward size) t old v c h g = are_moved old v h g

-- ---- parts

-- where a block is allocated, it may be
abbrev pub Allocates : Machine → pending.Operand → Value → Type 0
Allocates m (pending.Allocate t) v = MayAllocate m t v
Allocates m o v = Unit {0}

module _ (q : Core) (f : Function) (m : Machine) where
  pub may_operate : (takes : Value → Type 0) (o : pending.Operand) (v : Value) → OperandTakes q f takes o v → ValueIsNumbered v → Allocates m o v → MayOperate m o v
  may_operate takes (pending.Unary o k) v h n a = record { promoted = promoted k h.0; operand = h.1 }
  may_operate takes (pending.BinaryNow o k w) v h n a = are_operands o k w v h.0
  may_operate takes (pending.MoveNow size side w) v h n a = are_sided side w v h.0
  may_operate takes (pending.DifferenceNow unit w) v h n a = record { first = no_integer w h.0.0; second = no_integer v h.0.1 }
  may_operate takes (pending.Store t l) v h n a = n
  may_operate takes (pending.UpdateNow t o w l old) v h n a = may_update o t old v h.1 h.2 h.3
  may_operate takes (pending.Allocate t) v h n a = a
  may_operate takes (pending.Convert k) v h n a = tt
  may_operate takes (pending.BinaryRight o k e) v h n a = tt
  may_operate takes (pending.CompareRight o e) v h n a = tt
  may_operate takes (pending.CompareNow o w) v h n a = tt
  may_operate takes pending.Negated v h n a = tt
  may_operate takes (pending.BothRight e) v h n a = tt
  may_operate takes (pending.EitherRight e) v h n a = tt
  may_operate takes pending.Truth v h n a = tt
  may_operate takes (pending.Choose e g) v h n a = tt
  may_operate takes pending.Discard v h n a = tt
  may_operate takes (pending.MoveRight size side e) v h n a = tt
  may_operate takes (pending.DifferenceRight unit e) v h n a = tt
  may_operate takes (pending.UpdateRight t o e w l) v h n a = tt
  may_operate takes (pending.Instead w) v h n a = tt
  may_operate takes pending.Release v h n a = tt

  is_placed : (l : Lvalue) → IsObject l → IsPlaced l
  is_placed (InRegister i) h = absurd h
  is_placed (At p) h = no_integer p h

  pub may_select : (takes : Lvalue → Type 0) (x : pending.Selection) (l : Lvalue) → SelectionTakes q f takes x l → MaySelect x l
  may_select takes (pending.MemberAt o) l h = is_placed l h.0
  may_select takes (pending.ElementAt e size) l h = tt

  pub may_designate : (takes : Lvalue → Type 0) (x : pending.Designation) (v : Value) → DesignationTakes q takes x v → MayDesignate x v
  may_designate takes pending.Dereference v h = tt
  may_designate takes (pending.ElementNow l size) v h = (is_placed l h.0, is_word v h.1)
