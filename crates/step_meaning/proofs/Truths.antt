-- Predicates over `struct pair { int first; char second; }; int x; int *p; int a[10]; struct pair s;`, all zero or null, and what they come to.
use Rattle.std.proofs.Common.{◌≡◌, ℕ, true, false, refl, [], ◌∷◌, Some, None}
use Rattle.std.specs.Prelude.{pos}
use Rattle.step_meaning.specs.declared.value.IntKind.TheVariants as kind
use Rattle.step_meaning.specs.declared.value.CType.{CType, end_of-CType, more_of-CType}
use Rattle.step_meaning.specs.declared.value.CType.TheVariants as type
use Rattle.step_meaning.specs.declared.value.NameKind.TheVariants as names
use Rattle.step_meaning.specs.declared.value.Value.TheVariants as value
use Rattle.step_meaning.specs.declared.expr.IntOp.TheVariants as op
use Rattle.step_meaning.specs.declared.expr.CompareOp.TheVariants as comparing
use Rattle.step_meaning.specs.declared.predicate.Term.{Term, end_of-Term, more_of-Term}
use Rattle.step_meaning.specs.declared.predicate.Term.TheVariants as t
use Rattle.step_meaning.specs.declared.predicate.TermPlace.{TermPlace, end_of-TermPlace, more_of-TermPlace}
use Rattle.step_meaning.specs.declared.predicate.TermPlace.TheVariants as p
use Rattle.step_meaning.specs.declared.predicate.Location.{Location}
use Rattle.step_meaning.specs.declared.predicate.EventKind.TheVariants as kind_of
use Rattle.step_meaning.specs.declared.predicate.Event.{Event}
use Rattle.step_meaning.specs.declared.predicate.Event.TheVariants as event
use Rattle.step_meaning.specs.declared.predicate.Predicate.{Predicate, end_of-Predicate, more_of-Predicate}
use Rattle.step_meaning.specs.declared.predicate.Predicate.TheVariants as is
use Rattle.step_meaning.specs.declared.program.Declared.{Declared}
use Rattle.step_meaning.specs.declared.program.Layout.{Layout}
use Rattle.step_meaning.specs.Memory.{Memory}
use Rattle.step_meaning.specs.Views.{Sight, no_memory}
use Rattle.step_meaning.specs.Predicates.{holds}
use Rattle.step_meaning.specs.Runs.{global_blocks}

abbrev int : CType
int = type.Int kind.Int

abbrev declared : CType → Declared
declared u = record { name = []; ctype = u }

abbrev pair : Layout
pair = record { tag = []; members = declared int ∷ declared (type.Int kind.Char) ∷ [] }

abbrev pointer_type : CType
pointer_type = type.Pointer' tt (more_of-CType int end_of-CType)

-- where x holds this number
abbrev memory : ℕ → Memory
memory x =
    record {
      globals = global_blocks (pair ∷ []) (declared int ∷ declared pointer_type ∷ declared (type.Array' tt (more_of-CType int end_of-CType) 10) ∷ declared (type.Struct 0) ∷ []) ((value.Int (pos x) ∷ []) ∷ (value.Null ∷ []) ∷ (value.Int (pos 0) ∷ value.Int (pos 0) ∷ []) ∷ [] ∷ []);
      frames = [];
      heap = [];
    }

-- now, after an Enter step at which x held 1
abbrev sight : Sight
sight = record { layouts = pair ∷ []; memory = memory 0; ghosts = no_memory; registers = []; before = memory 1; activation = 0; accessed = None; called = None; event = event.Nothing; arguments = []; result = None }

abbrev own : ℕ → TermPlace
own i = p.Own (record { kind = names.Global; index = i })

abbrev pointer : Term
pointer = t.Load (own 1) pointer_type

abbrev pointed : Term
pointed = t.Load (p.Deref' tt (more_of-Term pointer end_of-Term)) int

abbrev one : Predicate
one = is.Relation comparing.Equal pointed (t.Int (pos 1))

abbrev at : Term → Location
at b = record { base = b; ctype = int; span = None }

abbrev spanning : ℕ → ℕ → Location
spanning a b = record { base = t.Address (own 2) int; ctype = int; span = Some (t.Int (pos a), t.Int (pos b)) }

null_read : holds sight one ≡ false
null_read = refl

null_read_not : holds sight (is.Not' tt (more_of-Predicate one end_of-Predicate)) ≡ true
null_read_not = refl

null_read_unequal : holds sight (is.Relation comparing.Unequal pointed (t.Int (pos 1))) ≡ false
null_read_unequal = refl

null_apart : holds sight (is.Separated (at pointer ∷ at (t.Address (own 0) int) ∷ [])) ≡ true
null_apart = refl

null_valid : holds sight (is.Valid (at pointer)) ≡ false
null_valid = refl

none_valid : holds sight (is.Valid (spanning 3 2)) ≡ true
none_valid = refl

parts_meet : holds sight (is.Separated (spanning 0 4 ∷ spanning 4 9 ∷ [])) ≡ false
parts_meet = refl

parts_apart : holds sight (is.Separated (spanning 0 4 ∷ spanning 5 9 ∷ [])) ≡ true
parts_apart = refl

all_valid : holds sight (is.Valid (spanning 0 9)) ≡ true
all_valid = refl

past_valid : holds sight (is.Valid (spanning 0 10)) ≡ false
past_valid = refl

divided : holds sight (is.Relation comparing.Equal (t.Arith' op.Div tt (more_of-Term (t.Int (pos 1)) end_of-Term) tt (more_of-Term (t.Load (own 0) int) end_of-Term)) (t.Int (pos 0))) ≡ false
divided = refl

-- relations of an integer and null, which no text can write
integer_and_null : holds sight (is.Relation comparing.Unequal (t.Int (pos 1)) t.Null) ≡ true
integer_and_null = refl

integer_not_null : holds sight (is.Relation comparing.Equal (t.Int (pos 0)) t.Null) ≡ false
integer_not_null = refl

-- a struct's cells are each accessed at their own type
abbrev whole : ℕ → CType → Location
whole i u = record { base = t.Address (own i) u; ctype = u; span = None }

struct_valid : holds sight (is.Valid (whole 3 (type.Struct 0))) ≡ true
struct_valid = refl

other_type_valid : holds sight (is.Valid (whole 2 (type.Struct 0))) ≡ false
other_type_valid = refl

void_valid : holds sight (is.Valid (whole 0 type.Void)) ≡ false
void_valid = refl

void_apart : holds sight (is.Separated (whole 0 type.Void ∷ whole 2 type.Void ∷ [])) ≡ true
void_apart = refl

void_meets : holds sight (is.Separated (whole 0 type.Void ∷ whole 0 int ∷ [])) ≡ false
void_meets = refl

-- `x == 0` and `\at(x, Pre) == 1`
now_zero : holds sight (is.Relation comparing.Equal (t.Load (own 0) int) (t.Int (pos 0))) ≡ true
now_zero = refl

entered_one : holds sight (is.Relation comparing.Equal (t.AtPre (own 0) int) (t.Int (pos 1))) ≡ true
entered_one = refl

-- `\at(a[x], Pre)` reads a[1], since x is read at the Enter step too
entered_index : holds sight (is.Relation comparing.Equal (t.AtPre (p.Index' tt (more_of-TermPlace (own 2) end_of-TermPlace) tt (more_of-Term (t.Load (own 0) int) end_of-Term) 1) int) (t.Int (pos 0))) ≡ true
entered_index = refl

-- at a Return of function 4 `COR` and `RETURN` hold, and `CALL` doesn't; at its Enter `COR` and `CALL`
abbrev at_event : Event → Sight
at_event x = record sight { event = x; arguments = value.Int (pos 1) ∷ [] }

return_either : holds (at_event (event.Return 4)) (is.Event kind_of.Either 4) ≡ true
return_either = refl

return_return : holds (at_event (event.Return 4)) (is.Event kind_of.Return 4) ≡ true
return_return = refl

return_no_call : holds (at_event (event.Return 4)) (is.Event kind_of.Call 4) ≡ false
return_no_call = refl

enter_either : holds (at_event (event.Enter 4)) (is.Event kind_of.Either 4) ≡ true
enter_either = refl

-- `f().n` at an Enter of f, of another function, and at a Return
abbrev parameter_is_one : ℕ → Predicate
parameter_is_one f = is.Relation comparing.Equal (t.Parameter f 0) (t.Int (pos 1))

own_parameter : holds (at_event (event.Enter 4)) (parameter_is_one 4) ≡ true
own_parameter = refl

other_parameter : holds (at_event (event.Enter 4)) (parameter_is_one 5) ≡ false
other_parameter = refl

returned_parameter : holds (at_event (event.Return 4)) (parameter_is_one 4) ≡ false
returned_parameter = refl

-- `\null + 0 == \null` and `\null + 1 == \null`
abbrev null_moved : ℕ → Predicate
null_moved n = is.Relation comparing.Equal (t.Move' tt (more_of-Term t.Null end_of-Term) tt (more_of-Term (t.Int (pos n)) end_of-Term) 1) t.Null

null_moved_by_none : holds sight (null_moved 0) ≡ true
null_moved_by_none = refl

null_moved_by_one : holds sight (null_moved 1) ≡ false
null_moved_by_one = refl

-- the read of a cell that holds nothing
unset : holds sight (is.Relation comparing.Equal (t.Load (p.Member' tt (more_of-TermPlace (own 3) end_of-TermPlace) 1) (type.Int kind.Char)) (t.Int (pos 0))) ≡ false
unset = refl

-- pointers to different variables are unequal and have no order
apart_unequal : holds sight (is.Relation comparing.Unequal (t.Address (own 0) int) (t.Address (own 2) int)) ≡ true
apart_unequal = refl

apart_less : holds sight (is.Relation comparing.Less (t.Address (own 0) int) (t.Address (own 2) int)) ≡ false
apart_less = refl

apart_not_less : holds sight (is.Relation comparing.GreaterEqual (t.Address (own 0) int) (t.Address (own 2) int)) ≡ false
apart_not_less = refl
