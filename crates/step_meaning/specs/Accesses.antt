-- Accesses to variables, operators and the library's calls, as parts of a run (C11 6.3.2.1, 6.5.6, 6.5.16, 7.21.7.6, 7.21.7.8).
-- A read or write of memory is a step, also where it isn't allowed; a Halt step follows it then. The use of a register is no access and makes no step.
use Rattle.std.specs.Prelude.{ℕ, ◌%◌, Bool, if◌then◌else◌, ℤ, pos, negsuc, ◌*ℤ◌, neg_ℤ, List, [], ◌∷◌, Option, Some, None, Result, Ok, Err}
use Rattle.step_meaning.specs.declared.value.IntKind.{IntKind}
use Rattle.step_meaning.specs.declared.value.CType.{CType}
use Rattle.step_meaning.specs.declared.value.CType.TheVariants as type
use Rattle.step_meaning.specs.declared.value.Value.{Value}
use Rattle.step_meaning.specs.declared.value.Value.TheVariants as value
use Rattle.step_meaning.specs.declared.value.Cell.{Cell}
use Rattle.step_meaning.specs.declared.value.Cell.TheVariants.{Nothing, Holds}
use Rattle.step_meaning.specs.declared.value.RunFault.{RunFault}
use Rattle.step_meaning.specs.declared.value.RunFault.TheVariants as fault
use Rattle.step_meaning.specs.declared.value.Action.TheVariants as act
use Rattle.step_meaning.specs.declared.expr.Side.{Side}
use Rattle.step_meaning.specs.declared.expr.Side.TheVariants.{PointerFirst, PointerLast, Minus}
use Rattle.step_meaning.specs.declared.expr.Answer.{Answer}
use Rattle.step_meaning.specs.declared.expr.Answer.TheVariants.{Before, After}
use Rattle.step_meaning.specs.declared.expr.UpdateOp.{UpdateOp}
use Rattle.step_meaning.specs.declared.expr.UpdateOp.TheVariants.{Integer, Forward, Backward}
use Rattle.step_meaning.specs.Numbers.{converted, low_bits, binary_of}
use Rattle.step_meaning.specs.Conversions.{same_int_kind}
use Rattle.step_meaning.specs.Names.{of_truth, integer, moved}
use Rattle.step_meaning.specs.Memory.{room_at, reached, stored}
use Rattle.step_meaning.specs.Steps.{Fault}
use Rattle.step_meaning.specs.State.{Here, register_at, set_register, Lvalue, InRegister, At}
use Rattle.step_meaning.specs.Flow.{Flow}

-- an integer of the one kind brought to the other. Its own kind leaves it as it is
abbrev pub brought : IntKind → IntKind → ℤ → ℤ
brought l k z = if same_int_kind l k then z else converted k z

-- an integer of this type brought to the kind
abbrev pub brought_to : IntKind → CType → ℤ → ℤ
brought_to k (type.Int l) z = brought l k z
brought_to k _ z = converted k z

-- an integer of the kind brought to the type of the place that takes it
abbrev pub converted_to : IntKind → CType → ℤ → ℤ
converted_to k (type.Int l) z = brought k l z
converted_to k _ z = z

-- the value of a compound assignment, `++` or `--`
abbrev pub answer : Answer → Value → Value → Value
answer Before old new = old
answer After old new = new

module _ (F : Flow) where
  infixl 10 ◌>>=◌
  abbrev pub ◌>>=◌ : {A B : Type 0} → F.Does A → (A → F.Does B) → F.Does B
  p >>= f = F.bind p f

  infixl 10 ◌>>◌
  abbrev pub ◌>>◌ : {A B : Type 0} → F.Does A → F.Does B → F.Does B
  p >> q = F.bind p (λ a. q)

  -- what no typed program does. It ends the run by a fault without a Halt step, unlike each fault of a typed program
  abbrev pub impossible : {A : Type 0} → F.Does A
  impossible = F.stop (Fault fault.Invalid)

  abbrev pub checked : {A : Type 0} → Here → Result A RunFault → F.Does A
  checked here (Ok a) = F.pure a
  checked here (Err f) = F.halt here f

  -- ---- reads

  -- the value in the cell that a read reaches
  abbrev pub held : Here → Option Cell → F.Does Value
  held here None = F.halt here fault.Invalid
  held here (Some Nothing) = F.halt here fault.Uninit
  held here (Some (Holds v)) = F.pure v

  abbrev pub held_register : Here → Option Cell → F.Does Value
  held_register here None = F.misuse here fault.Invalid
  held_register here (Some Nothing) = F.misuse here fault.Uninit
  held_register here (Some (Holds v)) = F.pure v

  abbrev pub load_at : Here → CType → Value → F.Does Value
  load_at here t p = F.emit here (act.Read p) >> (F.get >>= (λ s. held here (reached s.memory p t)))

  -- the value of what an lvalue designates
  abbrev pub load : Here → CType → Lvalue → F.Does Value
  load here t (InRegister i) = F.registers >>= (λ r. held_register here (register_at r i t))
  load here t (At p) = load_at here t p

  -- ---- writes, which give the value that was written

  abbrev pub write_at : Here → Value → Value → Option Cell → F.Does Value
  write_at here p v None = F.halt here fault.Invalid
  write_at here p v (Some c) = F.get >>= (λ s. F.put_memory (stored s.memory p (Holds v)) >> F.pure v)

  abbrev pub write_register : Here → ℕ → Value → Option Cell → F.Does Value
  write_register here i v None = F.misuse here fault.Invalid
  write_register here i v (Some c) = F.registers >>= (λ r. F.put_registers (set_register r i v) >> F.pure v)

  abbrev pub store_at : Here → CType → Value → Value → F.Does Value
  store_at here t p v = F.emit here (act.Write p v) >> (F.get >>= (λ s. write_at here p v (reached s.memory p t)))

  abbrev pub store : Here → CType → Lvalue → Value → F.Does Value
  store here t (InRegister i) v = F.registers >>= (λ r. write_register here i v (register_at r i t))
  store here t (At p) v = store_at here t p v

  -- ---- addresses

  -- the pointer to what an lvalue designates. A register has no address (C11 6.5.3.2, 1)
  abbrev pub address_of : Lvalue → F.Does Value
  address_of (InRegister i) = impossible
  address_of (At p) = F.pure p

  -- a pointer moved by a number of cells
  abbrev pub move_by : Here → Value → ℤ → F.Does Value
  move_by here p by = F.get >>= (λ s. checked here (moved p (room_at s.memory p) by))

  -- the object so many cells after that which an lvalue designates
  abbrev pub object_after : Here → Lvalue → ℤ → F.Does Lvalue
  object_after here l by = address_of l >>= (λ p. move_by here p by >>= (λ q. F.pure (At q)))

  -- ---- operators

  abbrev pub as_int : F.Does ℤ → F.Does Value
  as_int d = d >>= (λ z. F.pure (value.Int z))

  abbrev pub as_truth : F.Does Bool → F.Does Value
  as_truth d = d >>= (λ b. F.pure (of_truth b))

  -- a pointer and an integer added or subtracted, in elements of so many cells
  abbrev pub move_elements : Here → Side → ℕ → Value → Value → F.Does Value
  move_elements here PointerFirst size a b = move_by here a (integer b *ℤ pos size)
  move_elements here PointerLast size a b = move_by here b (integer a *ℤ pos size)
  move_elements here Minus size a b = move_by here a (neg_ℤ (integer b *ℤ pos size))

  -- the new value of a compound assignment, `++` or `--` at a place of this type: the old value is brought to the kind of the operation, and the result to the type of the place, each where these differ
  abbrev pub updated : Here → CType → UpdateOp → Value → Value → F.Does Value
  updated here t (Integer o k) old v = as_int (checked here (binary_of o k (brought_to k t (integer old)) (integer v)) >>= (λ z. F.pure (converted_to k t z)))
  updated here t (Forward size) old v = move_by here old (integer v *ℤ pos size)
  updated here t (Backward size) old v = move_by here old (neg_ℤ (integer v *ℤ pos size))

  -- ---- `getchar` and `putchar`

  -- the next byte of the input, or -1 at its end. Each number of the input counts modulo 256
  abbrev pub next_byte : Here → List ℕ → F.Does Value
  next_byte here [] = F.pure (value.Int (negsuc 0))
  next_byte here (b ∷ bs) = F.put_input bs >> F.pure (value.Int (pos (b % 256)))

  abbrev pub get_char : Here → F.Does Value
  get_char here = F.emit here act.Input >> (F.get >>= (λ s. next_byte here s.input))

  -- the byte that is written is the argument modulo 256, and the call's value
  abbrev pub put_char : Here → Value → F.Does Value
  put_char here v =
      let b = low_bits 8 (integer v) in
      F.emit here (act.Output b) >> F.pure (value.Int (pos b))
