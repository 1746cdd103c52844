-- Parts of terms: what a term is before a rule takes it (ACSL, terms; C11 6.3.2.1), with an interval that holds its value, or the offset of the pointer, in cells.
use Rattle.std.specs.Prelude.{ℕ, ◌-◌, ◌^◌, nat_lt, Bool, true, false, ◌&&◌, if◌then◌else◌, int_le, ℤ, pos, neg_ℤ, List, Ok, Err}
use Rattle.c_lexer.specs.declared.token.Place.{Place}
use Rattle.step_meaning.specs.declared.value.CType.{CType, end_of-CType, more_of-CType}
use Rattle.step_meaning.specs.declared.value.CType.TheVariants as type
use Rattle.step_meaning.specs.declared.predicate.Term.{Term}
use Rattle.step_meaning.specs.declared.predicate.Term.TheVariants as t
use Rattle.step_meaning.specs.declared.predicate.TermPlace.{TermPlace}
use Rattle.step_meaning.specs.declared.program.Layout.{Layout}
use Rattle.step_meaning.specs.Predicates.{denoted_size}
use Rattle.step_meaning.specs.Intervals.{Interval, alone, any_offset, integers_of}
use Rattle.acsl_rules.specs.declared.fault.TermFault.TheVariants as fault
use Rattle.acsl_rules.specs.Checked.{Checked, where_kept}

pub data What : Type 0 where
  -- an lvalue, the type of its object, and the interval of its offset
  Lvalue : TermPlace → CType → Interval → What
  -- an integer, and whether it is the literal `0`, in any parentheses
  AnInteger : Term → Bool → Interval → What
  -- a pointer to objects of this type; `\null` is one to `void`
  APointer : Term → CType → Interval → What
  -- `\written` or `\read`
  AnAccess : What
  -- `\called`
  TheCalled : What
  -- a function's name, and its address
  AFunction : ℕ → What
  AnAddress : ℕ → What

pub record Part : Type 0 where
  -- the place of the first token
  pub first : Place
  pub what : What
  -- whether an `\at` stands in it
  pub labelled : Bool

abbrev pub part : Place → What → Part
part first what = record { first = first; what = what; labelled = false }

-- the part, made of parts in which an `\at` stands or doesn't
abbrev pub made_with : Bool → Checked Part → Checked Part
made_with b (Ok a) = Ok (record { first = a.first; what = a.what; labelled = b })
made_with b (Err e) = Err e

-- in parentheses, of which the first is at this place
abbrev pub parenthesised : Place → Part → Part
parenthesised at a = record { first = at; what = a.what; labelled = a.labelled }

-- ---- the limit on intervals

abbrev pub is_within : ℤ → Bool
is_within z = int_le (neg_ℤ (pos (2 ^ 127 - 1))) z && int_le z (pos (2 ^ 127 - 1))

abbrev pub is_limited : Interval → Bool
is_limited i = is_within i.low && is_within i.high

-- what has this interval, where it keeps the limit
abbrev pub limited : {A : Type 0} → Place → Interval → A → Checked A
limited at i a = where_kept (is_limited i) (fault.TooWide at) a

-- sizes and offsets are held in 32 bits. Those of types that keep the rules are
abbrev pub held : {A : Type 0} → Place → ℕ → A → Checked A
held at n a = where_kept (nat_lt n (2 ^ 32)) (fault.TooWide at) a

-- ---- values

-- the value of an object: a struct is none, and an array is the address of its first element (C11 6.3.2.1, 2 and 3)
abbrev pub loaded : Place → TermPlace → CType → Interval → Checked Part
loaded first q (type.Int k) i = Ok (part first (AnInteger (t.Load q (type.Int k)) false (integers_of k)))
loaded first q (type.Pointer' b (more_of-CType u end_of-CType)) i = Ok (part first (APointer (t.Load q (type.Pointer' b (more_of-CType u end_of-CType))) u any_offset))
loaded first q (type.Array' b (more_of-CType u end_of-CType) n) i = Ok (part first (APointer (t.Address q u) u i))
loaded first q u i = Err (fault.Kind first)

abbrev pub value_of : Place → What → Checked Part
value_of first (Lvalue q u i) = loaded first q u i
value_of first (AFunction n) = Err (fault.Kind first)
value_of first (AnAddress n) = Err (fault.Kind first)
value_of first w = Ok (part first w)

-- a part that is used as a value
abbrev pub value : Part → Checked Part
value a = made_with a.labelled (value_of a.first a.what)

-- the same beside a relation: a function may stand beside `==` and `!=`
abbrev pub side_of : Bool → Place → What → Checked Part
side_of true first (AFunction n) = Ok (part first (AFunction n))
side_of true first (AnAddress n) = Ok (part first (AnAddress n))
side_of is_equality first w = value_of first w

abbrev pub side : Bool → Part → Checked Part
side is_equality a = made_with a.labelled (side_of is_equality a.first a.what)

-- the same before `[ ]`: the lvalue of an array stays as it is
abbrev pub base_of : Place → What → Checked Part
base_of first (Lvalue q (type.Array' b (more_of-CType u end_of-CType) n) i) = Ok (part first (Lvalue q (type.Array' b (more_of-CType u end_of-CType) n) i))
base_of first w = value_of first w

abbrev pub base : Part → Checked Part
base a = made_with a.labelled (base_of a.first a.what)
