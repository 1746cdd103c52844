-- The values of terms (ACSL, terms; memory locations). Integers are mathematical integers, and `/` and `%` truncate as in C.
-- A term has a value or is undefined. It is undefined where it divides by zero, reads a cell whose access wouldn't be allowed or that holds nothing, adds a number other than 0 to null, or names a parameter or result at another event. Pointer addition is otherwise not bounded.
use Rattle.std.specs.Prelude.{ℕ, nat_lt, ◌^◌, if◌then◌else◌, ◌==◌, ℤ, pos, negsuc, ◌+ℤ◌, ◌-ℤ◌, ◌*ℤ◌, neg_ℤ, int_div, int_rem, List, slice_get, Option, Some, None, option_map, option_and_then}
use Rattle.step_meaning.specs.declared.value.CType.{CType}
use Rattle.step_meaning.specs.declared.value.Name.{Name}
use Rattle.step_meaning.specs.declared.value.Value.{Value}
use Rattle.step_meaning.specs.declared.value.Value.TheVariants as value
use Rattle.step_meaning.specs.declared.value.Cell.{Cell}
use Rattle.step_meaning.specs.declared.value.Cell.TheVariants.{Holds}
use Rattle.step_meaning.specs.declared.expr.IntOp.{IntOp}
use Rattle.step_meaning.specs.declared.expr.IntOp.TheVariants as op
use Rattle.step_meaning.specs.declared.predicate.Term.{Term, end_of-Term, more_of-Term}
use Rattle.step_meaning.specs.declared.predicate.Term.TheVariants as t
use Rattle.step_meaning.specs.declared.predicate.TermPlace.{TermPlace, end_of-TermPlace, more_of-TermPlace}
use Rattle.step_meaning.specs.declared.predicate.TermPlace.TheVariants as p
use Rattle.step_meaning.specs.declared.predicate.Event.{Event}
use Rattle.step_meaning.specs.declared.predicate.Event.TheVariants as event
use Rattle.step_meaning.specs.Numbers.{is_zero}
use Rattle.step_meaning.specs.Names.{name_in}
use Rattle.step_meaning.specs.Views.{Sight, Reads, now, at_enter}

-- the value of a term: offsets are whole numbers and may leave the variable
pub data TermValue : Type 0 where
  Number : ℤ → TermValue
  NullPointer : TermValue
  PointerInto : Name → ℤ → TermValue

abbrev pub term_value : Value → TermValue
term_value (value.Int z) = Number z
term_value value.Null = NullPointer
term_value (value.Pointer n o) = PointerInto n (pos o)

-- the value of a term as a value of a cell, which has an offset from 0 to 2 ^ 32 - 1
abbrev pub scalar_value : TermValue → Option Value
scalar_value (Number z) = Some (value.Int z)
scalar_value NullPointer = Some value.Null
scalar_value (PointerInto n (negsuc o)) = None
scalar_value (PointerInto n (pos o)) = if nat_lt o (2 ^ 32) then Some (value.Pointer n o) else None

-- ---- parts of terms

abbrev pub with_number : Option TermValue → (ℤ → Option TermValue) → Option TermValue
with_number (Some (Number z)) f = f z
with_number _ f = None

abbrev pub with_value : Option TermValue → (TermValue → Option TermValue) → Option TermValue
with_value o f = option_and_then f o

-- the result z of a division by d
abbrev pub unless_zero : ℤ → ℤ → Option TermValue
unless_zero d z = if is_zero d then None else Some (Number z)

-- `+`, `-`, `*`, `/` and `%`; terms have no other operators
abbrev pub term_operation : IntOp → ℤ → ℤ → Option TermValue
term_operation op.Add a b = Some (Number (a +ℤ b))
term_operation op.Sub a b = Some (Number (a -ℤ b))
term_operation op.Mul a b = Some (Number (a *ℤ b))
term_operation op.Div a b = unless_zero b (int_div a b)
term_operation op.Rem a b = unless_zero b (int_rem a b)
term_operation _ a b = None

-- a pointer moved by a number of cells
abbrev pub term_moved : ℤ → TermValue → Option TermValue
term_moved by (PointerInto n o) = Some (PointerInto n (o +ℤ by))
term_moved by NullPointer = if is_zero by then Some NullPointer else None
term_moved by (Number z) = None

abbrev pub value_in_cell : Option Cell → Option TermValue
value_in_cell (Some (Holds v)) = Some (term_value v)
value_in_cell _ = None

-- a read at this type of what a pointer designates. No variable has as many as 2 ^ 32 cells
abbrev pub read_at : Reads → CType → TermValue → Option TermValue
read_at reads u (PointerInto n (pos o)) = if nat_lt o (2 ^ 32) then value_in_cell (reads n o u) else None
read_at reads u _ = None

-- the argument with number i, where the step is an Enter of function f
abbrev pub parameter_at : Event → ℕ → List Value → ℕ → Option TermValue
parameter_at (event.Enter g) f vs i = if f == g then option_map term_value (slice_get vs i) else None
parameter_at _ f vs i = None

-- the value given back, where the step is a Return of function f
abbrev pub result_at : Event → ℕ → Option Value → Option TermValue
result_at (event.Return g) f v = if f == g then option_map term_value v else None
result_at _ f v = None

-- ---- terms

module _ (s : Sight) where
  abbrev mutual
    -- the value, where the term reads a memory in this way
    pub value_by : Term → Reads → Option TermValue
    value_by (t.Int z) reads = Some (Number z)
    value_by t.Null reads = Some NullPointer
    value_by (t.Load q u) reads = with_value (place_by q reads) (read_at reads u)
    value_by (t.Address q u) reads = place_by q reads
    value_by (t.Neg' b (more_of-Term e end_of-Term)) reads = with_number (value_by e reads) (λ x. Some (Number (neg_ℤ x)))
    value_by (t.Arith' o b (more_of-Term e end_of-Term) c (more_of-Term f end_of-Term)) reads = with_number (value_by e reads) (λ x. with_number (value_by f reads) (λ y. term_operation o x y))
    value_by (t.Move' b (more_of-Term e end_of-Term) c (more_of-Term f end_of-Term) size) reads = with_value (value_by e reads) (λ x. with_number (value_by f reads) (λ i. term_moved (i *ℤ pos size) x))
    -- `\at(place, Pre)`: the place, too, is that of the Enter memory
    value_by (t.AtPre q u) reads = with_value (place_by q (at_enter s)) (read_at (at_enter s) u)
    value_by t.Accessed reads = option_map term_value s.accessed
    value_by (t.Parameter f i) reads = parameter_at s.event f s.arguments i
    value_by (t.Result f) reads = result_at s.event f s.result

    -- the pointer to what a place designates
    pub place_by : TermPlace → Reads → Option TermValue
    place_by (p.Own v) reads = Some (PointerInto (name_in s.activation v) (pos 0))
    place_by (p.Deref' b (more_of-Term e end_of-Term)) reads = value_by e reads
    place_by (p.Member' b (more_of-TermPlace q end_of-TermPlace) o) reads = with_value (place_by q reads) (term_moved (pos o))
    place_by (p.Index' b (more_of-TermPlace q end_of-TermPlace) c (more_of-Term e end_of-Term) size) reads = with_value (place_by q reads) (λ x. with_number (value_by e reads) (λ i. term_moved (i *ℤ pos size) x))

  -- the value of a term of a predicate, and none where it is undefined
  abbrev pub value_of : Term → Option TermValue
  value_of e = value_by e (now s)
