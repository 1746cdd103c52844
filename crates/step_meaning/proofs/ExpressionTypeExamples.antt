-- Expressions with their types, and expressions that have none, computed. The text of each stands above it.
use Rattle.std.proofs.Common.{◌≡◌, ℕ, refl, [], ◌∷◌, Option, Some, None}
use Rattle.std.specs.Prelude.{pos, negsuc}
use Rattle.step_meaning.specs.declared.value.IntKind.TheVariants as kind
use Rattle.step_meaning.specs.declared.value.CType.{CType}
use Rattle.step_meaning.specs.declared.value.CType.TheVariants as type
use Rattle.step_meaning.specs.declared.value.NameKind.TheVariants as names
use Rattle.step_meaning.specs.declared.expr.IntOp.TheVariants as op
use Rattle.step_meaning.specs.declared.expr.UnaryOp.TheVariants as unary
use Rattle.step_meaning.specs.declared.expr.CompareOp.TheVariants as comparing
use Rattle.step_meaning.specs.declared.expr.Side.{Side}
use Rattle.step_meaning.specs.declared.expr.Side.TheVariants.{PointerFirst, PointerLast, Minus}
use Rattle.step_meaning.specs.declared.expr.UpdateOp.{UpdateOp}
use Rattle.step_meaning.specs.declared.expr.UpdateOp.TheVariants as update
use Rattle.step_meaning.specs.declared.expr.Answer.{Answer}
use Rattle.step_meaning.specs.declared.expr.Answer.TheVariants.{Before, After}
use Rattle.step_meaning.specs.declared.expr.Expr.{Expr, end_of-Expr, more_of-Expr}
use Rattle.step_meaning.specs.declared.expr.Expr.TheVariants as e
use Rattle.step_meaning.specs.declared.expr.Place_.{Place_, end_of-Place_, more_of-Place_}
use Rattle.step_meaning.specs.declared.expr.Place_.TheVariants as p
use Rattle.step_meaning.specs.declared.program.Layout.{Layout}
use Rattle.step_meaning.specs.declared.program.Function.{Function}
use Rattle.step_meaning.specs.declared.program.Core.{Core}
use Rattle.step_meaning.specs.Settings.{code_setting}
use Rattle.step_meaning.specs.ExpressionTypes.{pointer_to, type_of}
use Rattle.step_meaning.proofs.Examples.{int, array_of, declared, lit, local, load, deref, assign, binary, convert, compare, both}

-- ---- struct s { int n; struct s *next; int a[2]; };
-- ---- int add(int *p, char c); with a body; void nothing(void); with a body; int outside(void); without one
-- ---- int i; char c; int *p; char *q; int a[3]; int b[2][3]; struct s t; unsigned int u; long l; register int r; and a ghost variable

abbrev pub char : CType
char = type.Int kind.Char

abbrev pub unsigned : CType
unsigned = type.Int kind.UInt

abbrev pub long : CType
long = type.Int kind.Long

abbrev pub int_pointer : CType
int_pointer = pointer_to int

abbrev pub struct_s : CType
struct_s = type.Struct 0

abbrev pub layout : Layout
layout = record { tag = []; members = declared int ∷ declared (pointer_to struct_s) ∷ declared (array_of int 2) ∷ [] }

abbrev pub library : Function
library = record { name = []; result = int; params = 0; locals = []; registers = []; ghosts = []; body = None }

abbrev pub add : Function
add = record { name = []; result = int; params = 2; locals = declared int_pointer ∷ declared char ∷ []; registers = []; ghosts = []; body = Some [] }

abbrev pub nothing : Function
nothing = record { name = []; result = type.Void; params = 0; locals = []; registers = []; ghosts = []; body = Some [] }

abbrev pub main : Function
main = record {
  name = [];
  result = int;
  params = 0;
  locals = declared int ∷ declared char ∷ declared int_pointer ∷ declared (pointer_to char) ∷ declared (array_of int 3) ∷ declared (array_of (array_of int 3) 2) ∷ declared struct_s ∷ declared unsigned ∷ declared long ∷ [];
  registers = declared int ∷ [];
  ghosts = declared int ∷ [];
  body = Some [];
}

abbrev pub q : Core
q = record { layouts = layout ∷ []; globals = []; initial = []; ghosts = []; functions = library ∷ library ∷ library ∷ library ∷ add ∷ nothing ∷ library ∷ main ∷ []; start = 7 }

abbrev pub typed : Expr → Option CType
typed a = type_of q (code_setting q main) a

-- ---- the variables

abbrev i : Expr
i = load (local 0)

abbrev c : Expr
c = e.Load (local 1) char

abbrev pointer : Expr
pointer = e.Load (local 2) int_pointer

abbrev char_pointer : Expr
char_pointer = e.Load (local 3) (pointer_to char)

abbrev a : Place_
a = local 4

abbrev b : Place_
b = local 5

abbrev t : Place_
t = local 6

abbrev u : Expr
u = e.Load (local 7) unsigned

abbrev l : Expr
l = e.Load (local 8) long

abbrev register : Place_
register = p.Own (record { kind = names.Register; index = 0 })

abbrev ghost : Place_
ghost = p.Own (record { kind = names.GhostLocal; index = 0 })

abbrev member : Place_ → ℕ → Place_
member x o = p.Member' tt (more_of-Place_ x end_of-Place_) o

abbrev element : Place_ → Expr → ℕ → Place_
element x j size = p.Index' tt (more_of-Place_ x end_of-Place_) tt (more_of-Expr j end_of-Expr) size

abbrev move : Side → Expr → Expr → ℕ → Expr
move side x y size = e.Move' tt (more_of-Expr x end_of-Expr) tt (more_of-Expr y end_of-Expr) size side

abbrev difference : Expr → Expr → ℕ → Expr
difference x y unit = e.Difference' tt (more_of-Expr x end_of-Expr) tt (more_of-Expr y end_of-Expr) unit

abbrev choose : Expr → Expr → Expr → Expr
choose x y z = e.Choose' tt (more_of-Expr x end_of-Expr) tt (more_of-Expr y end_of-Expr) tt (more_of-Expr z end_of-Expr)

abbrev updating : Place_ → CType → UpdateOp → Expr → Answer → Expr
updating x d o y w = e.Update' x d o tt (more_of-Expr y end_of-Expr) w

abbrev call_one : ℕ → Expr → Expr
call_one f x = e.Invoke' f (tt ∷ []) (more_of-Expr x end_of-Expr)

abbrev call_two : ℕ → Expr → Expr → Expr
call_two f x y = e.Invoke' f (tt ∷ tt ∷ []) (more_of-Expr x (more_of-Expr y end_of-Expr))

abbrev call_none : ℕ → Expr
call_none f = e.Invoke' f [] end_of-Expr

abbrev discard : Expr → Expr
discard x = e.Discard' tt (more_of-Expr x end_of-Expr)

-- ---- constants

-- 4294967295U, and a constant of kind `char`, below 0, or too great for its kind
unsigned_constant : typed (e.Literal kind.UInt (pos 4294967295)) ≡ Some unsigned
unsigned_constant = refl

char_constant : typed (e.Literal kind.Char (pos 97)) ≡ None
char_constant = refl

negative_constant : typed (e.Literal kind.Int (negsuc 0)) ≡ None
negative_constant = refl

wide_constant : typed (e.Literal kind.Int (pos 2147483648)) ≡ None
wide_constant = refl

-- ---- variables and places

-- i, a value of an array, of a struct, and of `i` at another type
value_of_i : typed i ≡ Some int
value_of_i = refl

value_of_array : typed (e.Load a (array_of int 3)) ≡ None
value_of_array = refl

value_of_struct : typed (e.Load t struct_s) ≡ None
value_of_struct = refl

value_at_another_type : typed (e.Load (local 0) unsigned) ≡ None
value_at_another_type = refl

-- a variable that isn't there, and a ghost variable
value_of_none : typed (load (local 9)) ≡ None
value_of_none = refl

value_of_ghost : typed (load ghost) ≡ None
value_of_ghost = refl

-- t.n, t.next, t.a[1], and an offset within a member
first_member : typed (load (member t 0)) ≡ Some int
first_member = refl

second_member : typed (e.Load (member t 1) (pointer_to struct_s)) ≡ Some (pointer_to struct_s)
second_member = refl

element_of_member : typed (load (element (member t 2) (lit 1) 1)) ≡ Some int
element_of_member = refl

within_member : typed (load (member t 3)) ≡ None
within_member = refl

past_the_members : typed (load (member t 4)) ≡ None
past_the_members = refl

member_of_integer : typed (load (member (local 0) 0)) ≡ None
member_of_integer = refl

-- a[c], b[1][2], a[p], a[i] with elements of 2 cells, and `[ ]` on a pointer's own place
element_at_char : typed (load (element a c 1)) ≡ Some int
element_at_char = refl

element_of_row : typed (load (element (element b (lit 1) 3) (lit 2) 1)) ≡ Some int
element_of_row = refl

element_at_pointer : typed (load (element a pointer 1)) ≡ None
element_at_pointer = refl

element_of_two_cells : typed (load (element a i 2)) ≡ None
element_of_two_cells = refl

element_of_pointer : typed (load (element (local 2) i 1)) ≡ None
element_of_pointer = refl

-- *p, p->n of a pointer to the struct, *i, *(void *) 0
value_behind : typed (load (deref pointer)) ≡ Some int
value_behind = refl

member_behind : typed (load (member (deref (e.Load (member t 1) (pointer_to struct_s))) 0)) ≡ Some int
member_behind = refl

behind_integer : typed (load (deref i)) ≡ None
behind_integer = refl

behind_null : typed (load (deref e.Null)) ≡ None
behind_null = refl

-- &i, a, &a, &a at the type of another element, b, &r
address : typed (e.Address (local 0) int) ≡ Some int_pointer
address = refl

array_as_value : typed (e.Address a int) ≡ Some int_pointer
array_as_value = refl

address_of_array : typed (e.Address a (array_of int 3)) ≡ Some (pointer_to (array_of int 3))
address_of_array = refl

array_as_chars : typed (e.Address a char) ≡ None
array_as_chars = refl

rows_as_value : typed (e.Address b (array_of int 3)) ≡ Some (pointer_to (array_of int 3))
rows_as_value = refl

address_of_register : typed (e.Address register int) ≡ None
address_of_register = refl

-- ---- operators on integers

-- (int) c, (int) i, (int) p
from_char : typed (convert kind.Int c) ≡ Some int
from_char = refl

to_own_kind : typed (convert kind.Int i) ≡ None
to_own_kind = refl

from_pointer : typed (convert kind.Long pointer) ≡ None
from_pointer = refl

-- -i, and -c without promotion
negated : typed (e.Unary' unary.Neg kind.Int tt (more_of-Expr i end_of-Expr)) ≡ Some int
negated = refl

negated_char : typed (e.Unary' unary.Neg kind.Char tt (more_of-Expr c end_of-Expr)) ≡ None
negated_char = refl

-- i + c, without and with promotion; i + u in both kinds; l << c; i + l without conversion
sum_unpromoted : typed (binary op.Add kind.Int i c) ≡ None
sum_unpromoted = refl

sum : typed (binary op.Add kind.Int i (convert kind.Int c)) ≡ Some int
sum = refl

sum_unsigned : typed (binary op.Add kind.UInt (convert kind.UInt i) u) ≡ Some unsigned
sum_unsigned = refl

sum_of_two_kinds : typed (binary op.Add kind.Int i u) ≡ None
sum_of_two_kinds = refl

sum_of_chars : typed (binary op.Add kind.Char c c) ≡ None
sum_of_chars = refl

shifted : typed (binary op.Shl kind.Long l (convert kind.Int c)) ≡ Some long
shifted = refl

shifted_by_char : typed (binary op.Shl kind.Long l c) ≡ None
shifted_by_char = refl

sum_with_pointer : typed (binary op.Add kind.Int i pointer) ≡ None
sum_with_pointer = refl

-- ---- comparisons

-- i < 1, u < i without conversion, c == c without promotion
less : typed (compare comparing.Less i (lit 1)) ≡ Some int
less = refl

less_of_two_kinds : typed (compare comparing.Less u i) ≡ None
less_of_two_kinds = refl

equal_chars : typed (compare comparing.Equal c c) ≡ None
equal_chars = refl

-- p == 0, 0 != p, p < 0, p == q, p < p, p == i, (void *) 0 < (void *) 0
equal_to_null : typed (compare comparing.Equal pointer e.Null) ≡ Some int
equal_to_null = refl

null_unequal : typed (compare comparing.Unequal e.Null pointer) ≡ Some int
null_unequal = refl

less_than_null : typed (compare comparing.Less pointer e.Null) ≡ None
less_than_null = refl

pointers_of_two_types : typed (compare comparing.Equal pointer char_pointer) ≡ None
pointers_of_two_types = refl

less_of_pointers : typed (compare comparing.Less pointer pointer) ≡ Some int
less_of_pointers = refl

pointer_and_integer : typed (compare comparing.Equal pointer i) ≡ None
pointer_and_integer = refl

order_of_nulls : typed (compare comparing.Less e.Null e.Null) ≡ Some int
order_of_nulls = refl

-- ---- pointers

-- p + c, i + p, p - i, p + p, p + i with elements of 2 cells, (void *) 0 + i, b + 1
moved : typed (move PointerFirst pointer c 1) ≡ Some int_pointer
moved = refl

moved_last : typed (move PointerLast i pointer 1) ≡ Some int_pointer
moved_last = refl

moved_back : typed (move Minus pointer i 1) ≡ Some int_pointer
moved_back = refl

moved_by_pointer : typed (move PointerFirst pointer pointer 1) ≡ None
moved_by_pointer = refl

moved_by_two_cells : typed (move PointerFirst pointer i 2) ≡ None
moved_by_two_cells = refl

moved_null : typed (move PointerFirst e.Null i 0) ≡ None
moved_null = refl

moved_by_row : typed (move PointerFirst (e.Address b (array_of int 3)) (lit 1) 3) ≡ Some (pointer_to (array_of int 3))
moved_by_row = refl

moved_by_struct : typed (move PointerFirst (e.Address t struct_s) (lit 1) 4) ≡ Some (pointer_to struct_s)
moved_by_struct = refl

-- p - p, p - q
distance : typed (difference pointer pointer 1) ≡ Some long
distance = refl

distance_of_two_types : typed (difference pointer char_pointer 1) ≡ None
distance_of_two_types = refl

distance_in_twos : typed (difference pointer pointer 2) ≡ None
distance_in_twos = refl

-- ---- conditions and choices

-- !p, p && c, !nothing()
not_pointer : typed (e.Not' tt (more_of-Expr pointer end_of-Expr)) ≡ Some int
not_pointer = refl

both_scalars : typed (both pointer c) ≡ Some int
both_scalars = refl

not_void : typed (e.Not' tt (more_of-Expr (call_none 5) end_of-Expr)) ≡ None
not_void = refl

-- i ? p : 0, i ? 0 : p, i ? 1 : 2, i ? c : c without promotion, i ? p : q, i ? (void) 1 : (void) 2, i ? 1 : (void) 2
choice_with_null : typed (choose i pointer e.Null) ≡ Some int_pointer
choice_with_null = refl

choice_of_null : typed (choose i e.Null pointer) ≡ Some int_pointer
choice_of_null = refl

choice : typed (choose i (lit 1) (lit 2)) ≡ Some int
choice = refl

choice_of_chars : typed (choose i c c) ≡ None
choice_of_chars = refl

choice_of_two_types : typed (choose i pointer char_pointer) ≡ None
choice_of_two_types = refl

choice_of_voids : typed (choose i (discard (lit 1)) (discard (lit 2))) ≡ Some type.Void
choice_of_voids = refl

choice_with_void : typed (choose i (lit 1) (discard (lit 2))) ≡ None
choice_with_void = refl

-- i ? 0 : (void *) 0 is a pointer to void, and no null pointer constant
choice_of_nulls : typed (choose i e.Null e.Null) ≡ Some (pointer_to type.Void)
choice_of_nulls = refl

choice_of_nulls_assigned : typed (assign (local 2) int_pointer (choose i e.Null e.Null)) ≡ None
choice_of_nulls_assigned = refl

-- ---- assignments

-- i = 1, p = 0, i = p, c = 1 without conversion, a = 0, t = t, r = 1
assigned : typed (assign (local 0) int (lit 1)) ≡ Some int
assigned = refl

null_assigned : typed (assign (local 2) int_pointer e.Null) ≡ Some int_pointer
null_assigned = refl

pointer_to_integer : typed (assign (local 0) int pointer) ≡ None
pointer_to_integer = refl

null_to_integer : typed (assign (local 0) int e.Null) ≡ None
null_to_integer = refl

unconverted : typed (assign (local 1) char (lit 1)) ≡ None
unconverted = refl

array_assigned : typed (assign a (array_of int 3) (lit 0)) ≡ None
array_assigned = refl

struct_assigned : typed (assign t struct_s (e.Load t struct_s)) ≡ None
struct_assigned = refl

register_assigned : typed (assign register int (lit 1)) ≡ Some int
register_assigned = refl

-- c += 1 in the kind `int`, in the kind `char`; i += l; l += l in the kind `int`; i <<= l in the kinds `int` and `long`
char_sum : typed (updating (local 1) char (update.Integer op.Add kind.Int) (lit 1) After) ≡ Some char
char_sum = refl

char_sum_unpromoted : typed (updating (local 1) char (update.Integer op.Add kind.Char) c After) ≡ None
char_sum_unpromoted = refl

sum_in_long : typed (updating (local 0) int (update.Integer op.Add kind.Long) l After) ≡ Some int
sum_in_long = refl

long_sum_in_int : typed (updating (local 8) long (update.Integer op.Add kind.Int) i After) ≡ None
long_sum_in_int = refl

shift_in_own_kind : typed (updating (local 0) int (update.Integer op.Shl kind.Int) l After) ≡ Some int
shift_in_own_kind = refl

shift_in_long : typed (updating (local 0) int (update.Integer op.Shl kind.Long) l After) ≡ None
shift_in_long = refl

-- i++, i++ by 2, l--, c *= 1 that answers the value before it, p++, p += 2 by elements of 2 cells, p--, a++
postfix : typed (updating (local 0) int (update.Integer op.Add kind.Int) (lit 1) Before) ≡ Some int
postfix = refl

postfix_two : typed (updating (local 0) int (update.Integer op.Add kind.Int) (lit 2) Before) ≡ None
postfix_two = refl

postfix_long : typed (updating (local 8) long (update.Integer op.Sub kind.Long) (convert kind.Long (lit 1)) Before) ≡ Some long
postfix_long = refl

postfix_product : typed (updating (local 1) char (update.Integer op.Mul kind.Int) (lit 1) Before) ≡ None
postfix_product = refl

pointer_forward : typed (updating (local 2) int_pointer (update.Forward 1) (lit 1) Before) ≡ Some int_pointer
pointer_forward = refl

pointer_forward_by_two : typed (updating (local 2) int_pointer (update.Forward 2) (lit 2) After) ≡ None
pointer_forward_by_two = refl

pointer_back : typed (updating (local 2) int_pointer (update.Backward 1) i After) ≡ Some int_pointer
pointer_back = refl

pointer_product : typed (updating (local 2) int_pointer (update.Integer op.Add kind.Int) (lit 1) After) ≡ None
pointer_product = refl

array_forward : typed (updating a (array_of int 3) (update.Forward 1) (lit 1) After) ≡ None
array_forward = refl

-- ---- calls

-- add(p, c), add(0, c), add(p), add(p, i), nothing(), nothing(i), a function without body, `main`, and a function that isn't there
called : typed (call_two 4 pointer c) ≡ Some int
called = refl

called_with_null : typed (call_two 4 e.Null c) ≡ Some int
called_with_null = refl

too_few : typed (call_one 4 pointer) ≡ None
too_few = refl

wrong_argument : typed (call_two 4 pointer i) ≡ None
wrong_argument = refl

called_void : typed (call_none 5) ≡ Some type.Void
called_void = refl

too_many : typed (call_one 5 i) ≡ None
too_many = refl

called_without_body : typed (call_none 6) ≡ None
called_without_body = refl

called_main : typed (call_none 7) ≡ None
called_main = refl

called_none : typed (call_none 8) ≡ None
called_none = refl

-- getchar(), putchar(i), putchar(c) without conversion, (void) p
input : typed e.GetChar ≡ Some int
input = refl

output : typed (e.PutChar' tt (more_of-Expr i end_of-Expr)) ≡ Some int
output = refl

output_unconverted : typed (e.PutChar' tt (more_of-Expr c end_of-Expr)) ≡ None
output_unconverted = refl

discarded : typed (discard pointer) ≡ Some type.Void
discarded = refl

-- an operand of type `void`
sum_of_void : typed (binary op.Add kind.Int i (call_none 5)) ≡ None
sum_of_void = refl
