-- What a turn at a value or an lvalue leaves is typed: operators, accesses, compound assignments, the heap.
use Rattle.std.proofs.Common.{◌≡◌, ℕ, zero, suc, ◌≤◌, ◌<◌, ◌^◌, Bool, true, false, cond, List, ◌∷◌, Option, Some, None, Result, Ok, Err, refl, sym, subst, arith}
use Rattle.std.specs.Prelude.{ℤ, pos, negsuc, ◌+ℤ◌, ◌*ℤ◌, neg_ℤ, nat_le, slice_get}
use Rattle.std.proofs.lemmas.Bool.{leb-true}
use Rattle.step_meaning.specs.declared.value.IntKind.{IntKind}
use Rattle.step_meaning.specs.declared.value.IntKind.TheVariants as kind
use Rattle.step_meaning.specs.declared.value.CType.{CType}
use Rattle.step_meaning.specs.declared.value.CType.TheVariants as type
use Rattle.step_meaning.specs.declared.value.Value.{Value}
use Rattle.step_meaning.specs.declared.value.Value.TheVariants as value
use Rattle.step_meaning.specs.declared.value.Cell.{Cell}
use Rattle.step_meaning.specs.declared.value.Cell.TheVariants.{Nothing, Holds}
use Rattle.step_meaning.specs.declared.value.RunFault.{RunFault}
use Rattle.step_meaning.specs.declared.value.RunFault.TheVariants as fault
use Rattle.step_meaning.specs.declared.expr.Side.TheVariants.{PointerFirst, PointerLast, Minus}
use Rattle.step_meaning.specs.declared.expr.UpdateOp.{UpdateOp}
use Rattle.step_meaning.specs.declared.expr.UpdateOp.TheVariants.{Integer, Forward, Backward}
use Rattle.step_meaning.specs.declared.expr.Answer.{Answer}
use Rattle.step_meaning.specs.declared.expr.Answer.TheVariants.{Before, After}
use Rattle.step_meaning.specs.declared.program.Core.{Core}
use Rattle.step_meaning.specs.declared.program.Function.{Function}
use Rattle.step_meaning.specs.Numbers.{low_bits, binary_of, unary_of, converted}
use Rattle.step_meaning.specs.Names.{truth, integer, within, moved as moved_pointer, distance}
use Rattle.step_meaning.specs.Conversions.{same_int_kind}
use Rattle.step_meaning.specs.Memory.{Memory, Block, room_at, reached, freed}
use Rattle.step_meaning.specs.Accesses.{brought, answer}
use Rattle.step_meaning.specs.Allocation.{block_pointer}
use Rattle.step_meaning.specs.State.{Lvalue, InRegister, At, register_at}
use Rattle.step_meaning.specs.Traced.{CellHasType, SlotTyped}
use Rattle.step_meaning.proofs.Ranges.{converted_in_range}
use Rattle.step_meaning.proofs.OperatorRanges.{OnOk, InRange, binary_fits, unary_fits, distance_fits}
use Rattle.step_meaning.proofs.TypedMemory.{WhereSome, InCell, BlockFits, MemoryFits, HeapFalls, get_fits, typed_fits, has_same_type, reached_fits, room_fits, stored_fits, stored_falls, block_begins, freed_fits, freed_falls}
use Rattle.step_meaning.proofs.StepsFit.{IsAddress, global_cells}
use Rattle.step_meaning.proofs.TypedAccesses.{IsPlace, type_of_address, set_registers_fit}
use Rattle.step_meaning.proofs.TypedAllocation.{new_block_fits}
use Rattle.step_meaning.proofs.TypedOperators.{integer_in_range, short_offset}
use Rattle.run_turns.specs.Pending as pending
use Rattle.run_turns.specs.Turns as turns
use Rattle.run_turns.specs.Turns.{Configuration}
use Rattle.run_turns.specs.Typed.{TakesKind, TakesTruth, TakesAddress, TakesObject, IsObject, UpdateFits, UpdatedFits, OperandTakes, AccessTakes, SelectionTakes, DesignationTakes, TakesValue, TakesLvalue, StateFits, IsTyped, register_types}

-- ---- pointers

moved_fits : (v : Value) (room : Option ℕ) (by : ℤ) → IsAddress v → WhereSome (λ r. r < 2 ^ 32) room → OnOk IsAddress (moved_pointer v room by)
moved_fits (value.Int z) room by h k = tt
moved_fits value.Null room (pos zero) h k = tt
moved_fits value.Null room (pos (suc n)) h k = tt
moved_fits value.Null room (negsuc n) h k = tt
moved_fits (value.Pointer n o) None by h k = tt
moved_fits (value.Pointer n o) (Some room) by h k = at (pos o +ℤ by)
  where
    at : (z : ℤ) → OnOk IsAddress (within n (Some room) z)
    at (negsuc i) = tt
    at (pos i) = on (nat_le i room) refl
      where
        on : (c : Bool) → nat_le i room ≡ c → OnOk IsAddress (cond c (Ok (value.Pointer n i)) (Err fault.Pointer))
        on true e = (let l : i ≤ room = leb-true i room e in omega arith, h.1)
        on false e = tt

brought_fits : (l k : IntKind) (z : ℤ) → InRange l z → InRange k (brought l k z)
brought_fits l k z h = by (same_int_kind l k) refl
  where
    by : (b : Bool) → same_int_kind l k ≡ b → InRange k (cond b z (converted k z))
    by true e = has_same_type (type.Int l) (type.Int k) (value.Int z) e h
    by false e = converted_in_range k z

module _ (q : Core) (f : Function) (fs : List Function) where
  -- typed with this function's activation innermost
  abbrev pub Here : Configuration → Type 0
  Here m = IsTyped q (f ∷ fs) m

  abbrev pub Fits : Configuration → Type 0
  Fits m = StateFits q (f ∷ fs) m.memory m.allocated m.context.registers m.context.callers

  abbrev pub Values : Configuration → Value → Type 0
  Values m = TakesValue q (f ∷ fs) m.context.arguments m.work

  abbrev pub Lvalues : Configuration → Lvalue → Type 0
  Lvalues m = TakesLvalue q (f ∷ fs) m.context.arguments m.work

  -- ---- results

  finished_typed : (k : IntKind) (c : Result ℤ RunFault) (m : Configuration) → Fits m → OnOk (InRange k) c → TakesKind k (Values m) → Here (turns.finished c m)
  finished_typed k (Ok z) m s r h = (s, h z r)
  finished_typed k (Err x) m s r h = (s, tt)

  decided_typed : (c : Result Bool RunFault) (m : Configuration) → Fits m → TakesTruth (Values m) → Here (turns.decided c m)
  decided_typed (Ok b) m s h = (s, h b)
  decided_typed (Err x) m s h = (s, tt)

  pointing_typed : (c : Result Value RunFault) (m : Configuration) → Fits m → OnOk IsAddress c → TakesAddress (Values m) → Here (turns.pointing c m)
  pointing_typed (Ok p) m s r h = (s, h p r)
  pointing_typed (Err x) m s r h = (s, tt)

  designated_typed : (c : Result Value RunFault) (m : Configuration) → Fits m → OnOk IsAddress c → TakesObject (Lvalues m) → Here (turns.designated_by c m)
  designated_typed (Ok p) m s r h = (s, h p r)
  designated_typed (Err x) m s r h = (s, tt)

  object_typed : (l : Lvalue) (by : ℤ) (m : Configuration) → Fits m → IsObject l → TakesObject (Lvalues m) → Here (turns.object_after l by m)
  object_typed (At p) by m s i h = designated_typed _ m s (moved_fits p (room_at m.memory p) by i (room_fits s.memory_fits p)) h
  object_typed (InRegister r) by m s i h = absurd i

  -- ---- accesses

  holding_typed : (t : CType) (c : Option Cell) (m : Configuration) → Fits m → WhereSome (CellHasType t) c → ((v : Value) → InCell t v → Values m v) → Here (turns.holding c m)
  holding_typed t None m s g h = (s, tt)
  holding_typed t (Some Nothing) m s g h = (s, tt)
  holding_typed t (Some (Holds v)) m s g h = (s, h v g)

  loaded_typed : (t : CType) (l : Lvalue) (m : Configuration) → Fits m → ((v : Value) → InCell t v → Values m v) → Here (turns.loaded t l m).after
  loaded_typed t (InRegister i) m s h = holding_typed t (register_at m.context.registers i t) m s (typed_fits (slice_get m.context.registers i) t (get_fits SlotTyped m.context.registers i s.registers_fit.0.fit)) h
  loaded_typed t (At p) m s h = holding_typed t (reached m.memory p t) m s (reached_fits s.memory_fits p t) h

  written_typed : (t : CType) (p v : Value) (m : Configuration) → Fits m → InCell t v → Values m v → Here (turns.written p v (reached m.memory p t) m)
  written_typed t p v m s g h = by (reached m.memory p t) refl
    where
      by : (c : Option Cell) → reached m.memory p t ≡ c → Here (turns.written p v c m)
      by None e = (s, tt)
      by (Some c) e = (record { shapes = s.shapes; memory_fits = stored_fits s.memory_fits p t v c e g; heap_falls = stored_falls m.memory p (Holds v) m.allocated s.heap_falls; registers_fit = s.registers_fit; formed = s.formed }, h)

  written_register_typed : (t : CType) (i : ℕ) (v : Value) (m : Configuration) → Fits m → InCell t v → Values m v → Here (turns.written_register i v (register_at m.context.registers i t) m)
  written_register_typed t i v m s g h = by (register_at m.context.registers i t) refl
    where
      by : (c : Option Cell) → register_at m.context.registers i t ≡ c → Here (turns.written_register i v c m)
      by None e = (s, tt)
      by (Some c) e = (record { shapes = s.shapes; memory_fits = s.memory_fits; heap_falls = s.heap_falls; registers_fit = (set_registers_fit (register_types q f) m.context.registers i t v c e g s.registers_fit.0, s.registers_fit.1); formed = s.formed }, h)

  kept_typed : (t : CType) (l : Lvalue) (v : Value) (m : Configuration) → Fits m → InCell t v → Values m v → Here (turns.kept t l v m).after
  kept_typed t (InRegister i) v m s g h = written_register_typed t i v m s g h
  kept_typed t (At p) v m s g h = written_typed t p v m s g h

  -- ---- compound assignments

  answer_fits : (t : CType) (w : Answer) (old new : Value) → InCell t old → InCell t new → InCell t (answer w old new)
  answer_fits t Before old new g h = g
  answer_fits t After old new g h = h

  updating_typed : (t : CType) (w : Answer) (l : Lvalue) (old : Value) (c : Result Value RunFault) (m : Configuration) → Fits m → IsPlace l → InCell t old → OnOk (InCell t) c → ((v : Value) → InCell t v → Values m v) → Here (turns.updating t w l old c m)
  updating_typed t w l old (Ok new) m s p g r h = (s, (p, r, h (answer w old new) (answer_fits t w old new g r)))
  updating_typed t w l old (Err x) m s p g r h = (s, tt)

  -- a pointer of a type that is moved keeps the type
  pointer_in_cell : (t : CType) (old : Value) (c : Result Value RunFault) → OnOk IsAddress c → InCell t old → IsAddress old → OnOk (InCell t) c
  pointer_in_cell (type.Pointer' b t) old (Ok p) r g u = type_of_address b t p r
  pointer_in_cell t old (Err x) r g u = tt
  pointer_in_cell t (value.Int z) (Ok p) r g u = absurd u
  pointer_in_cell (type.Int k) value.Null (Ok p) r g u = absurd g.0
  pointer_in_cell (type.Int k) (value.Pointer n o) (Ok p) r g u = absurd g.0
  pointer_in_cell type.Void value.Null (Ok p) r g u = absurd g.0
  pointer_in_cell type.Void (value.Pointer n o) (Ok p) r g u = absurd g.0
  pointer_in_cell (type.Array' b t n) value.Null (Ok p) r g u = absurd g.0
  pointer_in_cell (type.Array' b t n) (value.Pointer m o) (Ok p) r g u = absurd g.0
  pointer_in_cell (type.Struct n) value.Null (Ok p) r g u = absurd g.0
  pointer_in_cell (type.Struct n) (value.Pointer m o) (Ok p) r g u = absurd g.0

  moved_in_cell : (t : CType) (old : Value) (by : ℤ) (m : Configuration) → Fits m → InCell t old → IsAddress old → OnOk (InCell t) (moved_pointer old (room_at m.memory old) by)
  moved_in_cell t old by m s g u = pointer_in_cell t old (moved_pointer old (room_at m.memory old) by) (moved_fits old (room_at m.memory old) by u (room_fits s.memory_fits old)) g u

  new_value_fits : (t : CType) (o : UpdateOp) (old v : Value) (m : Configuration) → Fits m → InCell t old → UpdatedFits t o old → UpdateFits o v → OnOk (InCell t) (turns.new_value m.memory t o old v)
  new_value_fits t (Integer o k) old v m s g u r =
      subst (λ t. InCell t old → OnOk (InCell t) (turns.new_value m.memory t (Integer o k) old v)) (sym u.1) (λ g. by u.0 (binary_of o k (brought u.0 k (integer old)) (integer v)) (binary_fits o k (brought u.0 k (integer old)) (integer v) (brought_fits u.0 k (integer old) (integer_in_range u.0 old g)))) g
    where
      by : (l : IntKind) (c : Result ℤ RunFault) → OnOk (InRange k) c → OnOk (InCell (type.Int l)) (turns.new_integer k (type.Int l) c)
      by l (Ok z) r = (brought_fits k l z r, tt)
      by l (Err x) r = tt
  new_value_fits t (Forward size) old v m s g u r = moved_in_cell t old (integer v *ℤ pos size) m s g u
  new_value_fits t (Backward size) old v m s g u r = moved_in_cell t old (neg_ℤ (integer v *ℤ pos size)) m s g u

  -- ---- the heap

  allocated_typed : (count : ℕ) (b : Option Block) (m : Configuration) → Fits m → WhereSome BlockFits b → TakesAddress (Values m) → Here (turns.allocated_block count b m).after
  allocated_typed count None m s g h = (s, h value.Null tt)
  allocated_typed count (Some b) m s g h = (record { shapes = s.shapes; memory_fits = block_begins s.memory_fits m.allocated b g; heap_falls = (omega arith, s.heap_falls); registers_fit = s.registers_fit; formed = s.formed }, h (block_pointer m.allocated) (omega arith, refl))

  released_typed : (o : Option Memory) (m : Configuration) → (s : Fits m) → WhereSome (MemoryFits (global_cells q) s.shapes) o → WhereSome (λ memory. HeapFalls memory m.allocated) o → Values m (value.Int (pos 0)) → Here (turns.released o m)
  released_typed None m s g l h = (s, tt)
  released_typed (Some memory) m s g l h = (record { shapes = s.shapes; memory_fits = g; heap_falls = l; registers_fit = s.registers_fit; formed = s.formed }, h)

  -- ---- parts that wait for a value

  chosen_typed : (b : Bool) (x y : Configuration) → Here x → Here y → Here (cond b x y)
  chosen_typed true x y h g = h
  chosen_typed false x y h g = g

  pub operated_typed : (o : pending.Operand) (v : Value) (m : Configuration) → Fits m → OperandTakes q f (Values m) o v → Here (turns.operated q o v m).after
  operated_typed (pending.Convert k) v m s h = (s, h (converted k (integer v)) (converted_in_range k (integer v)))
  operated_typed (pending.Unary o k) v m s h = finished_typed k (unary_of o k (integer v)) m s (unary_fits o k (integer v)) h.2
  operated_typed (pending.BinaryRight o k e) v m s h = (s, h)
  operated_typed (pending.BinaryNow o k w) v m s h = finished_typed k (binary_of o k (integer w) (integer v)) m s (binary_fits o k (integer w) (integer v) h.0.1) h.1
  operated_typed (pending.CompareRight o e) v m s h = (s, h)
  operated_typed (pending.CompareNow o w) v m s h = decided_typed _ m s h
  operated_typed pending.Negated v m s h = (s, h _)
  operated_typed (pending.BothRight e) v m s h = chosen_typed (truth v) _ _ (s, h.0) (s, h.1 false)
  operated_typed (pending.EitherRight e) v m s h = chosen_typed (truth v) _ _ (s, h.1 true) (s, h.0)
  operated_typed pending.Truth v m s h = (s, h _)
  operated_typed (pending.Choose e g) v m s h = by (truth v)
    where
      by : (b : Bool) → Here (turns.pushed (pending.Evaluate (cond b e g)) (turns.ready m))
      by true = (s, h.0)
      by false = (s, h.1)
  operated_typed pending.Discard v m s h = (s, h)
  operated_typed (pending.MoveRight size side e) v m s h = (s, h)
  operated_typed (pending.MoveNow size PointerFirst w) v m s h = pointing_typed _ m s (moved_fits w (room_at m.memory w) _ h.0.0 (room_fits s.memory_fits w)) h.1
  operated_typed (pending.MoveNow size PointerLast w) v m s h = pointing_typed _ m s (moved_fits v (room_at m.memory v) _ h.0.0 (room_fits s.memory_fits v)) h.1
  operated_typed (pending.MoveNow size Minus w) v m s h = pointing_typed _ m s (moved_fits w (room_at m.memory w) _ h.0.0 (room_fits s.memory_fits w)) h.1
  operated_typed (pending.DifferenceRight unit e) v m s h = (s, h)
  operated_typed (pending.DifferenceNow unit w) v m s h = finished_typed kind.Long (distance w v unit) m s (distance_fits w v unit (short_offset w h.0.0) (short_offset v h.0.1)) h.1
  operated_typed (pending.Store t l) v m s h = kept_typed t l v m s h.1 h.2
  operated_typed (pending.UpdateRight t o e w l) old m s h = (s, (h.3.0, λ v x. (h.0, h.1, h.2, h.3.1 v x, h.4)))
  operated_typed (pending.UpdateNow t o w l old) v m s h = updating_typed t w l old (turns.new_value m.memory t o old v) m s h.0 h.1 (new_value_fits t o old v m s h.1 h.2 h.3) h.4
  operated_typed (pending.Instead w) v m s h = (s, h)
  operated_typed (pending.Allocate t) v m s h = allocated_typed _ _ m s (new_block_fits q.layouts t (low_bits 64 (integer v))) h
  operated_typed pending.Release v m s h = released_typed (freed m.memory v) m s (freed_fits s.memory_fits v) (freed_falls m.memory v m.allocated s.heap_falls) h.1

  pub accessed_typed : (a : pending.Access) (l : Lvalue) (m : Configuration) → Fits m → AccessTakes q f (Values m) a l → Here (turns.accessed a l m).after
  accessed_typed (pending.LoadAt t) l m s h = loaded_typed t l m s h.1
  accessed_typed pending.AddressOf (At p) m s h = (s, h)
  accessed_typed pending.AddressOf (InRegister i) m s h = absurd h
  accessed_typed (pending.AssignRight t e) l m s h = (s, (h.1.0, λ v x. (h.0, (h.1.1 v x).0, (h.1.1 v x).1)))
  accessed_typed (pending.UpdateOld t o e w) l m s h = loaded_typed t l (turns.pushed (pending.Operate (pending.UpdateRight t o e w l)) m) s h.1

  pub selected_typed : (x : pending.Selection) (l : Lvalue) (m : Configuration) → Fits m → SelectionTakes q f (Lvalues m) x l → Here (turns.selected x l m)
  selected_typed (pending.MemberAt o) l m s h = object_typed l _ m s h.0 h.1
  selected_typed (pending.ElementAt e size) l m s h = (s, (h.1.0, λ i x. (h.0, h.1.1 i x, h.2)))

  pub designating_typed : (x : pending.Designation) (v : Value) (m : Configuration) → Fits m → DesignationTakes q (Lvalues m) x v → Here (turns.designating x v m)
  designating_typed pending.Dereference v m s h = (s, h)
  designating_typed (pending.ElementNow l size) v m s h = object_typed l _ m s h.0 h.2
