-- Predicates and terms that keep the rules on annotations, and others that break one, over
-- `struct pair { int first; char second; }; int x; int *p; int a[10]; struct pair s; unsigned long u; unsigned long w; char *d; register int r; ghost int g; ghost int *h;`.
use Rattle.std.proofs.Common.{◌≡◌, ℕ, ◌^◌, ◌-◌, ◌+◌, ◌*◌, true, false, refl, [], ◌∷◌, Some, None, cond, lit≤, arith, inl, inr, ⊎_elim}
use Rattle.std.specs.Prelude.{pos, negsuc, T, nat_eq, ◌&&◌}
use Rattle.std.specs.Int.Signed.{le_z, le_z_yes}
use Rattle.step_meaning.specs.declared.value.IntKind.TheVariants as kind
use Rattle.step_meaning.specs.declared.value.CType.{CType}
use Rattle.step_meaning.specs.declared.value.CType.TheVariants as type
use Rattle.step_meaning.specs.declared.value.NameKind.{NameKind}
use Rattle.step_meaning.specs.declared.value.NameKind.TheVariants as names
use Rattle.step_meaning.specs.declared.expr.IntOp.{IntOp}
use Rattle.step_meaning.specs.declared.expr.IntOp.TheVariants as op
use Rattle.step_meaning.specs.declared.expr.CompareOp.TheVariants as comparing
use Rattle.step_meaning.specs.declared.expr.Variable.{Variable}
use Rattle.step_meaning.specs.declared.predicate.Term.{Term, end_of-Term, more_of-Term}
use Rattle.step_meaning.specs.declared.predicate.Term.TheVariants as t
use Rattle.step_meaning.specs.declared.predicate.TermPlace.{TermPlace, end_of-TermPlace, more_of-TermPlace}
use Rattle.step_meaning.specs.declared.predicate.TermPlace.TheVariants as p
use Rattle.step_meaning.specs.declared.predicate.Location.{Location}
use Rattle.step_meaning.specs.declared.predicate.EventKind.TheVariants as event
use Rattle.step_meaning.specs.declared.predicate.Predicate.{Predicate}
use Rattle.step_meaning.specs.declared.predicate.Predicate.TheVariants as is
use Rattle.step_meaning.specs.declared.stmt.GhostStmt.TheVariants.{Set}
use Rattle.step_meaning.specs.declared.program.Layout.{Layout}
use Rattle.step_meaning.specs.Settings.{Setting}
use Rattle.step_meaning.specs.TermSizes.{predicate_nodes, predicate_nodes_as_read, type_depth}
use Rattle.step_meaning.specs.Intervals.{Interval, IsLimited, from_to, interval, TermLimited}
use Rattle.step_meaning.specs.TermKinds.{Integer, PointerTo, OfAccess, term_kind, PredicateKinds}
use Rattle.step_meaning.specs.Annotations.{Allowed, nothing_else, PredicateFits, GhostFits}
use Rattle.step_meaning.proofs.Examples.{int, pointer_to, array_of, declared}

abbrev char : CType
char = type.Int kind.Char

abbrev ulong : CType
ulong = type.Int kind.ULong

abbrev pair : Layout
pair = record { tag = []; members = declared int ∷ declared char ∷ [] }

abbrev setting : Setting
setting =
    record {
      layouts = pair ∷ [];
      globals = declared int ∷ declared (pointer_to int) ∷ declared (array_of int 10) ∷ declared (type.Struct 0) ∷ declared ulong ∷ declared ulong ∷ declared (pointer_to char) ∷ [];
      locals = [];
      registers = declared int ∷ [];
      file_ghosts = declared int ∷ declared (pointer_to int) ∷ [];
      ghosts = [];
    }

-- all that a step may have: function 2 has an `int` parameter and no result, function 3 an `int *` result
abbrev everything : Allowed
everything = record { at_enter = true; accessed = true; called = λ f. nat_eq f 2; event = λ f. nat_eq f 2; parameter_type = λ f i. cond (nat_eq f 2 && nat_eq i 0) (Some int) None; result_type = λ f. Some (cond (nat_eq f 3) (pointer_to int) type.Void) }

-- ---- terms and predicates by short names

abbrev place : NameKind → ℕ → TermPlace
place k i = p.Own (record { kind = k; index = i })

abbrev file : ℕ → TermPlace
file i = place names.Global i

abbrev whole : ℕ → Term
whole n = t.Int (pos n)

abbrev deref : Term → TermPlace
deref e = p.Deref' tt (more_of-Term e end_of-Term)

abbrev member : TermPlace → ℕ → TermPlace
member q o = p.Member' tt (more_of-TermPlace q end_of-TermPlace) o

abbrev element : TermPlace → Term → ℕ → TermPlace
element q e size = p.Index' tt (more_of-TermPlace q end_of-TermPlace) tt (more_of-Term e end_of-Term) size

abbrev moved : Term → Term → ℕ → Term
moved e f size = t.Move' tt (more_of-Term e end_of-Term) tt (more_of-Term f end_of-Term) size

abbrev computed : IntOp → Term → Term → Term
computed o e f = t.Arith' o tt (more_of-Term e end_of-Term) tt (more_of-Term f end_of-Term)

abbrev minus : Term → Term
minus e = t.Neg' tt (more_of-Term e end_of-Term)

abbrev x : Term
x = t.Load (file 0) int

abbrev pointer : Term
pointer = t.Load (file 1) (pointer_to int)

abbrev array : Term
array = t.Address (file 2) int

abbrev u : Term
u = t.Load (file 4) ulong

abbrev w : Term
w = t.Load (file 5) ulong

abbrev d : Term
d = t.Load (file 6) (pointer_to char)

abbrev equal : Term → Term → Predicate
equal e f = is.Relation comparing.Equal e f

abbrev less : Term → Term → Predicate
less e f = is.Relation comparing.Less e f

abbrev object : Term → CType → Location
object e c = record { base = e; ctype = c; span = None }

abbrev objects : Term → CType → Term → Term → Location
objects e c i j = record { base = e; ctype = c; span = Some (i, j) }

abbrev Fits : Predicate → Type 0
Fits r = PredicateFits setting nothing_else r

-- ---- the limit at literal ends

pub limited : (i : Interval) → T (le_z (negsuc (2 ^ 127 - 2)) i.low) → T (le_z i.low (pos (2 ^ 127 - 1))) → T (le_z (negsuc (2 ^ 127 - 2)) i.high) → T (le_z i.high (pos (2 ^ 127 - 1))) → IsLimited i
limited i a b c e = ((le_z_yes a, le_z_yes b), (le_z_yes c, le_z_yes e))

pub false_is_not_true : false ≡ true → ⊥
false_is_not_true h = cc

-- ---- kinds: what a read and an address give

reads : term_kind setting nothing_else pointer ≡ Some (PointerTo int)
reads = refl

-- a struct or an array isn't read as a whole
no_struct : term_kind setting nothing_else (t.Load (file 3) (type.Struct 0)) ≡ None
no_struct = refl

no_array : term_kind setting nothing_else (t.Load (file 2) (array_of int 10)) ≡ None
no_array = refl

other_type : term_kind setting nothing_else (t.Load (file 0) char) ≡ None
other_type = refl

no_variable : term_kind setting nothing_else (t.Load (file 7) int) ≡ None
no_variable = refl

-- an array as a value, `&a` and `&s`
first_element : term_kind setting nothing_else array ≡ Some (PointerTo int)
first_element = refl

array_address : term_kind setting nothing_else (t.Address (file 2) (array_of int 10)) ≡ Some (PointerTo (array_of int 10))
array_address = refl

struct_address : term_kind setting nothing_else (t.Address (file 3) (type.Struct 0)) ≡ Some (PointerTo (type.Struct 0))
struct_address = refl

-- a register is read, and has no address
register_read : term_kind setting nothing_else (t.Load (place names.Register 0) int) ≡ Some Integer
register_read = refl

register_address : term_kind setting nothing_else (t.Address (place names.Register 0) int) ≡ None
register_address = refl

-- ---- kinds: `.`, `[ ]` and `*`

second_member : term_kind setting nothing_else (t.Load (member (file 3) 1) char) ≡ Some Integer
second_member = refl

no_member : term_kind setting nothing_else (t.Load (member (file 3) 2) char) ≡ None
no_member = refl

member_of_integer : term_kind setting nothing_else (t.Load (member (file 0) 0) int) ≡ None
member_of_integer = refl

an_element : term_kind setting nothing_else (t.Load (element (file 2) x 1) int) ≡ Some Integer
an_element = refl

other_size : term_kind setting nothing_else (t.Load (element (file 2) x 2) int) ≡ None
other_size = refl

pointer_as_index : term_kind setting nothing_else (t.Load (element (file 2) pointer 1) int) ≡ None
pointer_as_index = refl

-- `p[x]` of a pointer is `*(p + x)`
pointed : term_kind setting nothing_else (t.Load (deref (moved pointer x 1)) int) ≡ Some Integer
pointed = refl

element_of_pointer : term_kind setting nothing_else (t.Load (element (file 1) x 1) int) ≡ None
element_of_pointer = refl

integer_pointed : term_kind setting nothing_else (t.Load (deref x) int) ≡ None
integer_pointed = refl

null_pointed : term_kind setting nothing_else (t.Load (deref t.Null) int) ≡ None
null_pointed = refl

-- ---- kinds: operators

remainder : term_kind setting nothing_else (computed op.Rem x (minus (whole 3))) ≡ Some Integer
remainder = refl

shift : term_kind setting nothing_else (computed op.Shl x (whole 3)) ≡ None
shift = refl

two_pointers : term_kind setting nothing_else (moved pointer pointer 1) ≡ None
two_pointers = refl

sum_of_pointers : term_kind setting nothing_else (computed op.Add pointer pointer) ≡ None
sum_of_pointers = refl

minus_pointer : term_kind setting nothing_else (minus pointer) ≡ None
minus_pointer = refl

integer_first : term_kind setting nothing_else (moved x pointer 1) ≡ None
integer_first = refl

-- a pointer to an array moves by the array's cells
past_array : term_kind setting nothing_else (moved (t.Address (file 2) (array_of int 10)) (whole 1) 10) ≡ Some (PointerTo (array_of int 10))
past_array = refl

past_null : term_kind setting nothing_else (moved t.Null (whole 1) 1) ≡ Some (PointerTo type.Void)
past_null = refl

past_null_pointed : term_kind setting nothing_else (t.Load (deref (moved t.Null (whole 1) 1)) int) ≡ None
past_null_pointed = refl

-- constants go from 0 to 2 ^ 64 - 1
greatest_constant : term_kind setting nothing_else (whole (2 ^ 64 - 1)) ≡ Some Integer
greatest_constant = refl

large_constant : term_kind setting nothing_else (whole (2 ^ 64)) ≡ None
large_constant = refl

negative_constant : term_kind setting nothing_else (t.Int (negsuc 0)) ≡ None
negative_constant = refl

-- ---- kinds: `\at`, the step's access, and events

entered : term_kind setting everything (t.AtPre (file 0) int) ≡ Some Integer
entered = refl

entered_element : term_kind setting everything (t.AtPre (element (file 2) (whole 9) 1) int) ≡ Some Integer
entered_element = refl

entered_past : term_kind setting everything (t.AtPre (element (file 2) (whole 10) 1) int) ≡ None
entered_past = refl

entered_computed : term_kind setting everything (t.AtPre (element (file 2) x 1) int) ≡ None
entered_computed = refl

entered_pointed : term_kind setting everything (t.AtPre (deref pointer) int) ≡ None
entered_pointed = refl

entered_ghost : term_kind setting everything (t.AtPre (place names.GhostGlobal 0) int) ≡ None
entered_ghost = refl

not_entered : term_kind setting nothing_else (t.AtPre (file 0) int) ≡ None
not_entered = refl

access : term_kind setting everything t.Accessed ≡ Some OfAccess
access = refl

no_access : term_kind setting nothing_else t.Accessed ≡ None
no_access = refl

pointed_access : term_kind setting everything (t.Load (deref t.Accessed) int) ≡ None
pointed_access = refl

moved_access : term_kind setting everything (moved t.Accessed (whole 1) 1) ≡ None
moved_access = refl

parameter : term_kind setting everything (t.Parameter 2 0) ≡ Some Integer
parameter = refl

second_parameter : term_kind setting everything (t.Parameter 2 1) ≡ None
second_parameter = refl

result : term_kind setting everything (t.Result 3) ≡ Some (PointerTo int)
result = refl

void_result : term_kind setting everything (t.Result 2) ≡ None
void_result = refl

-- ---- relations

-- `*p == 1`
pointed_one : Fits (equal (t.Load (deref pointer) int) (whole 1))
pointed_one =
    record {
      kinds = refl;
      limited = ((limited _ tt tt tt tt, (limited _ tt tt tt tt, tt)), limited _ tt tt tt tt);
    }

-- `p == d` compares pointers to two types, `p < d` would order them
equal_pointers : Fits (equal pointer d)
equal_pointers = record { kinds = refl; limited = ((limited _ tt tt tt tt, tt), (limited _ tt tt tt tt, tt)) }

ordered_pointers : Fits (less pointer d) → ⊥
ordered_pointers f = false_is_not_true f.kinds

pointer_below_null : Fits (less pointer t.Null)
pointer_below_null = record { kinds = refl; limited = ((limited _ tt tt tt tt, tt), limited _ tt tt tt tt) }

-- `p < \null + 1` orders pointers to `int` and to `void`
pointer_below_one : Fits (less pointer (moved t.Null (whole 1) 1)) → ⊥
pointer_below_one f = false_is_not_true f.kinds

integer_and_pointer : Fits (equal x pointer) → ⊥
integer_and_pointer f = false_is_not_true f.kinds

integer_and_null : Fits (equal x t.Null) → ⊥
integer_and_null f = false_is_not_true f.kinds

wrong_operand : Fits (equal (moved pointer pointer 1) pointer) → ⊥
wrong_operand f = f.kinds

access_equal : PredicateKinds setting everything (equal t.Accessed pointer)
access_equal = refl

access_ordered : PredicateKinds setting everything (less t.Accessed pointer) → ⊥
access_ordered h = false_is_not_true h

-- ---- locations

-- `\valid(a + (0 .. 9))`
valid_range : Fits (is.Valid (objects array int (whole 0) (whole 9)))
valid_range = record { kinds = (refl, (refl, refl)); limited = (tt, (limited _ tt tt tt tt, limited _ tt tt tt tt, (limited _ tt tt tt tt, limited _ tt tt tt tt, limited _ tt tt tt tt, limited _ tt tt tt tt))) }

valid_integer : Fits (is.Valid (object x int)) → ⊥
valid_integer f = f.kinds.0

valid_other : Fits (is.Valid (object pointer char)) → ⊥
valid_other f = false_is_not_true f.kinds.0

valid_null : PredicateKinds setting nothing_else (is.Valid (object t.Null type.Void))
valid_null = (refl, tt)

valid_access : PredicateKinds setting everything (is.Valid (object t.Accessed type.Void)) → ⊥
valid_access h = h.0

pub some_is_not_none : {A : Type 0} (a : A) → None ≡ Some a → ⊥
some_is_not_none a h = cc

none_is_not_some : {A : Type 0} (a : A) → Some a ≡ None → ⊥
none_is_not_some a h = cc

-- the ends of a range are integers
pointer_range : Fits (is.Valid (objects array int (whole 0) pointer)) → ⊥
pointer_range f = cc

-- `\separated(\written, &x)`
separated : PredicateKinds setting everything (is.Separated (object t.Accessed type.Void ∷ object (t.Address (file 0) int) int ∷ []))
separated = (lit≤ tt, (inr (refl, refl, refl), (inl (refl, tt), tt)))

-- `\separated(\written + (0 .. 1), &x)`
separated_range : PredicateKinds setting everything (is.Separated (objects t.Accessed type.Void (whole 0) (whole 1) ∷ object (t.Address (file 0) int) int ∷ [])) → ⊥
separated_range h = ⊎_elim (λ f. f.0) (λ f. none_is_not_some _ f.2) h.1.0

separated_alone : PredicateKinds setting nothing_else (is.Separated (object (t.Address (file 0) int) int ∷ [])) → ⊥
separated_alone h = omega arith

called : PredicateKinds setting everything (is.Called 2 true)
called = refl

called_other : PredicateKinds setting everything (is.Called 3 true) → ⊥
called_other h = false_is_not_true h

not_called : Fits (is.Called 2 true) → ⊥
not_called f = false_is_not_true f.kinds

no_event : Fits (is.Event event.Call 2) → ⊥
no_event f = false_is_not_true f.kinds

-- int *p; \valid(p + (18446744073709551615U * 9223372036854775808U + 9223372032559808512U)): each term keeps the limit, whose last offset is 2 ^ 127 - 1
abbrev far_number : Term
far_number =
    t.Arith' op.Add tt
    (more_of-Term (t.Arith' op.Mul tt (more_of-Term (t.Int (pos 18446744073709551615)) end_of-Term) tt (more_of-Term (t.Int (pos 9223372036854775808)) end_of-Term)) end_of-Term)
    tt (more_of-Term (t.Int (pos 9223372032559808512)) end_of-Term)

abbrev far : Term
far = t.Move' tt (more_of-Term pointer end_of-Term) tt (more_of-Term far_number end_of-Term) 1

far_interval : interval nothing_else far ≡ from_to (pos (2 ^ 127 - 2 ^ 32)) (pos (2 ^ 127 - 1))
far_interval = refl

far_limited : TermLimited nothing_else far
far_limited = (limited _ tt tt tt tt, limited _ tt tt tt tt, (limited _ tt tt tt tt, tt), (limited _ tt tt tt tt, (limited _ tt tt tt tt, limited _ tt tt tt tt, limited _ tt tt tt tt), limited _ tt tt tt tt))

far_valid : Fits (is.Valid (object far int))
far_valid = record { kinds = (refl, tt); limited = (far_limited, tt) }

-- and with the range (0 .. 0) the offset past its object doesn't
far_range : Fits (is.Valid (objects far int (whole 0) (whole 0))) → ⊥
far_range f = f.limited.1.2.3.1.1.le

-- ---- intervals

-- `u * w > 0` with two `unsigned long` variables
product_limited : Fits (less (whole 0) (computed op.Mul u w)) → ⊥
product_limited f = f.limited.1.0.1.1.le

-- their sum keeps the limit, and the product of one with an `int`
sum_fits : Fits (less (whole 0) (computed op.Add u w))
sum_fits = record { kinds = refl; limited = (limited _ tt tt tt tt, (limited _ tt tt tt tt, (limited _ tt tt tt tt, tt), (limited _ tt tt tt tt, tt))) }

int_product_fits : Fits (less (whole 0) (computed op.Mul u x))
int_product_fits = record { kinds = refl; limited = (limited _ tt tt tt tt, (limited _ tt tt tt tt, (limited _ tt tt tt tt, tt), (limited _ tt tt tt tt, tt))) }

-- a remainder has the interval of the dividend's magnitude, not of the divisor's
remainder_interval : interval nothing_else (computed op.Rem u (whole 2)) ≡ from_to (negsuc (2 ^ 64 - 2)) (pos (2 ^ 64 - 1))
remainder_interval = refl

negation_interval : interval nothing_else (minus x) ≡ from_to (negsuc (2 ^ 31 - 2)) (pos (2 ^ 31))
negation_interval = refl

product_interval : interval nothing_else (computed op.Mul x (minus (whole 2))) ≡ from_to (negsuc (2 ^ 32 - 3)) (pos (2 ^ 32))
product_interval = refl

-- an address of a variable has the offset 0, a pointer that is read any of 32 bits
address_interval : interval nothing_else (t.Address (member (file 3) 1) char) ≡ from_to (pos 1) (pos 1)
address_interval = refl

moved_interval : interval nothing_else (moved pointer x 3) ≡ from_to (negsuc (3 * 2 ^ 31 - 1)) (pos (2 ^ 32 - 1 + 3 * (2 ^ 31 - 1)))
moved_interval = refl

-- ---- ghost code

abbrev ghost : ℕ → Variable
ghost i = record { kind = names.GhostGlobal; index = i }

ghost_integer : GhostFits setting nothing_else (Set (ghost 0) (computed op.Add x (whole 1)))
ghost_integer = record { ghost = tt; takes = tt; limited = (limited _ tt tt tt tt, (limited _ tt tt tt tt, tt), limited _ tt tt tt tt) }

-- `unsigned long` terms too: what is outside the variable's range is lost when it is set
ghost_wide : GhostFits setting nothing_else (Set (ghost 0) u)
ghost_wide = record { ghost = tt; takes = tt; limited = (limited _ tt tt tt tt, tt) }

ghost_null : GhostFits setting nothing_else (Set (ghost 1) t.Null)
ghost_null = record { ghost = tt; takes = tt; limited = limited _ tt tt tt tt }

ghost_pointer : GhostFits setting nothing_else (Set (ghost 1) d)
ghost_pointer = record { ghost = tt; takes = tt; limited = (limited _ tt tt tt tt, tt) }

ghost_mixed : GhostFits setting nothing_else (Set (ghost 0) pointer) → ⊥
ghost_mixed f = f.takes

ghost_zero : GhostFits setting nothing_else (Set (ghost 1) (whole 0)) → ⊥
ghost_zero f = f.takes

ghost_missing : GhostFits setting nothing_else (Set (ghost 2) x) → ⊥
ghost_missing f = f.takes

no_ghost : GhostFits setting nothing_else (Set (record { kind = names.Global; index = 0 }) x) → ⊥
no_ghost f = f.ghost

-- ---- sizes

-- `\separated(\written, &x)`: the predicate, two locations, `\written`, the address and its place
nodes : predicate_nodes (is.Separated (object t.Accessed type.Void ∷ object (t.Address (file 0) int) int ∷ [])) ≡ 6
nodes = refl

nodes_as_read : predicate_nodes_as_read (is.Separated (object t.Accessed type.Void ∷ object (t.Address (file 0) int) int ∷ [])) ≡ 7
nodes_as_read = refl

depth : type_depth (pointer_to (array_of (type.Struct 0) 3)) ≡ 3
depth = refl
