-- The types of expressions and lvalues (C11 6.3, 6.5), as the text of a program gives them: all conversions are written out, and a null pointer constant that is used as a pointer is `Null`.
-- An expression has one type, or none where it breaks a rule. `void` is the type of an expression without a value. No expression has an array or a struct as its type.
use Rattle.std.specs.Prelude.{ℕ, Bool, true, false, ◌&&◌, ◌||◌, not, ◌==◌, if◌then◌else◌, pos, int_le, List, [], ◌∷◌, map, take, slice_get, Option, Some, None, option_and_then, is_some}
use Rattle.step_meaning.specs.declared.value.IntKind.{IntKind}
use Rattle.step_meaning.specs.declared.value.IntKind.TheVariants as kind
use Rattle.step_meaning.specs.declared.value.CType.{CType, end_of-CType, more_of-CType}
use Rattle.step_meaning.specs.declared.value.CType.TheVariants as type
use Rattle.step_meaning.specs.declared.expr.IntOp.{IntOp}
use Rattle.step_meaning.specs.declared.expr.IntOp.TheVariants as op
use Rattle.step_meaning.specs.declared.expr.CompareOp.{CompareOp}
use Rattle.step_meaning.specs.declared.expr.CompareOp.TheVariants as comparing
use Rattle.step_meaning.specs.declared.expr.Side.{Side}
use Rattle.step_meaning.specs.declared.expr.Side.TheVariants.{PointerFirst, PointerLast, Minus}
use Rattle.step_meaning.specs.declared.expr.Answer.{Answer}
use Rattle.step_meaning.specs.declared.expr.Answer.TheVariants.{Before, After}
use Rattle.step_meaning.specs.declared.expr.UpdateOp.{UpdateOp}
use Rattle.step_meaning.specs.declared.expr.UpdateOp.TheVariants.{Integer, Forward, Backward}
use Rattle.step_meaning.specs.declared.expr.Expr.{Expr, Row_of-Expr, end_of-Expr, more_of-Expr}
use Rattle.step_meaning.specs.declared.expr.Expr.TheVariants.{Literal, Null, Load, Address, Convert', Unary', Binary', Compare', Move', Difference', Not', Both', Either', Choose', Assign', Update', Invoke', GetChar, PutChar', Malloc', Free', Discard', Own, Deref', Member', Index'}
use Rattle.step_meaning.specs.declared.expr.Place_.{Place_, end_of-Place_, more_of-Place_}
use Rattle.step_meaning.specs.declared.program.Layout.{Layout}
use Rattle.step_meaning.specs.declared.program.Function.{Function}
use Rattle.step_meaning.specs.declared.program.Core.{Core}
use Rattle.step_meaning.specs.Numbers.{is_in_range}
use Rattle.step_meaning.specs.Names.{is_register_variable}
use Rattle.step_meaning.specs.Types.{same_type, where_true}
use Rattle.step_meaning.specs.Settings.{Setting, variable_type}
use Rattle.step_meaning.specs.Conversions.{same_int_kind, is_promoted, promoted, common}
use Rattle.step_meaning.specs.TypeRules.{cells, is_scalar, is_spelled, keeps_rules, member_type, element_type}

-- ---- types

abbrev pub pointer_to : CType → CType
pointer_to t = type.Pointer' tt (more_of-CType t end_of-CType)

abbrev pub is_void : CType → Bool
is_void type.Void = true
is_void _ = false

abbrev pub has_this_type : CType → Option CType → Bool
has_this_type t None = false
has_this_type t (Some u) = same_type t u

abbrev pub has_kind : IntKind → Option CType → Bool
has_kind k o = has_this_type (type.Int k) o

abbrev pub has_integer_type : Option CType → Bool
has_integer_type (Some (type.Int k)) = true
has_integer_type _ = false

abbrev pub has_promoted_kind : Option CType → Bool
has_promoted_kind (Some (type.Int k)) = is_promoted k
has_promoted_kind _ = false

abbrev pub has_pointer_type : Option CType → Bool
has_pointer_type (Some (type.Pointer' b t)) = true
has_pointer_type _ = false

abbrev pub has_scalar_type : Option CType → Bool
has_scalar_type (Some t) = is_scalar t
has_scalar_type None = false

-- ---- null pointer constants

-- as a pointer, `(void *) 0` has the type pointer to void by itself, and takes the place of a pointer of any type (C11 6.3.2.3, 3)
abbrev pub is_null_constant : Expr → Bool
is_null_constant Null = true
is_null_constant _ = false

-- ---- operators

-- a value of an integer type brought to another (C11 6.3.1.3). A conversion to the own type leaves nothing
abbrev pub converted_type : IntKind → Option CType → Option CType
converted_type k (Some (type.Int l)) = where_true (not (same_int_kind k l)) (type.Int k)
converted_type k _ = None

abbrev pub is_shift : IntOp → Bool
is_shift op.Shl = true
is_shift op.Shr = true
is_shift _ = false

-- an operator in a kind that the promotions leave. Its operands have that kind, by the usual arithmetic conversions (C11 6.5.5, 6.5.6, 6.5.10 to 6.5.12); those of a shift are promoted one by one, and the result has the type of the left one (C11 6.5.7, 3)
abbrev pub binary_type : IntOp → IntKind → Option CType → Option CType → Option CType
binary_type o k a b = where_true (is_promoted k && (has_kind k a && (if is_shift o then has_promoted_kind b else has_kind k b))) (type.Int k)

-- two integers of one promoted kind
abbrev pub are_of_one_kind : Option CType → Option CType → Bool
are_of_one_kind (Some (type.Int k)) b = is_promoted k && has_kind k b
are_of_one_kind _ b = false

-- two pointers of one type
abbrev pub are_of_one_pointer : Option CType → Option CType → Bool
are_of_one_pointer (Some (type.Pointer' p t)) b = has_this_type (type.Pointer' p t) b
are_of_one_pointer _ b = false

-- an expression with this type beside a null pointer constant
abbrev pub is_pointer_beside_null : Expr → Option CType → Bool
is_pointer_beside_null e b = is_null_constant e && has_pointer_type b

abbrev pub is_equality : CompareOp → Bool
is_equality comparing.Equal = true
is_equality comparing.Unequal = true
is_equality _ = false

-- operands of a comparison: integers of one kind, or pointers of one type, and for `==` and `!=` a pointer and a null pointer constant (C11 6.5.8, 2; 6.5.9, 2)
abbrev pub are_comparable : CompareOp → Expr → Option CType → Expr → Option CType → Bool
are_comparable c e a f b =
    are_of_one_kind a b || (are_of_one_pointer a b || (is_equality c && (is_pointer_beside_null e b || is_pointer_beside_null f a)))

-- the type of a pointer moved by an integer, in elements that the pointer points to: of so many cells, and no `void` (C11 6.5.6, 2 and 8)
abbrev pub moved_type : List Layout → ℕ → Option CType → Option CType → Option CType
moved_type layouts size (Some (type.Pointer' p (more_of-CType t end_of-CType))) b =
    where_true (not (is_void t) && (size == cells layouts t && has_integer_type b)) (type.Pointer' p (more_of-CType t end_of-CType))
moved_type layouts size _ b = None

-- the operands stand as in the text
abbrev pub move_type : List Layout → ℕ → Side → Option CType → Option CType → Option CType
move_type layouts size PointerFirst a b = moved_type layouts size a b
move_type layouts size PointerLast a b = moved_type layouts size b a
move_type layouts size Minus a b = moved_type layouts size a b

-- the difference of two pointers of one type is a `long` (C11 6.5.6, 3 and 9)
abbrev pub difference_type : List Layout → ℕ → Option CType → Option CType → Option CType
difference_type layouts unit (Some (type.Pointer' p (more_of-CType t end_of-CType))) b =
    where_true (not (is_void t) && (unit == cells layouts t && has_this_type (type.Pointer' p (more_of-CType t end_of-CType)) b)) (type.Int kind.Long)
difference_type layouts unit _ b = None

-- what gives an `int`: `!`, `&&` and `||`, which take integers and pointers (C11 6.5.3.3, 6.5.13, 6.5.14), comparisons, and `putchar`
abbrev pub logical_type : Bool → Option CType
logical_type b = where_true b (type.Int kind.Int)

abbrev pub are_void : Option CType → Option CType → Bool
are_void (Some type.Void) (Some type.Void) = true
are_void _ _ = false

-- the type of `c ? e : f`: that of two integers of one kind, of two pointers of one type, of a pointer beside a null pointer constant, or `void` (C11 6.5.15, 3, 5 and 6)
abbrev pub choice_type : Expr → Option CType → Expr → Option CType → Option CType
choice_type e a f b =
    if are_of_one_kind a b || (are_of_one_pointer a b || (are_void a b || is_pointer_beside_null f a)) then a
    else if is_pointer_beside_null e b then b
    else None

-- ---- assignment

-- an expression that a place of this type takes: of its own type, or a null pointer constant for a pointer (C11 6.5.16.1, 1). Integers are converted before
abbrev pub is_taken_by : CType → Expr → Option CType → Bool
is_taken_by t e a = is_scalar t && (has_this_type t a || (is_null_constant e && has_pointer_type (Some t)))

-- the `int` 1 brought to the kind, as `++` and `--` add and subtract it (C11 6.5.2.4, 6.5.3.1)
abbrev pub is_one_of : IntKind → Expr → Bool
is_one_of k (Literal l (pos n)) = same_int_kind k kind.Int && (same_int_kind l kind.Int && n == 1)
is_one_of k (Convert' l b (more_of-Expr (Literal m (pos n)) end_of-Expr)) = not (same_int_kind k kind.Int) && (same_int_kind k l && (same_int_kind m kind.Int && n == 1))
is_one_of k _ = false

abbrev pub is_sum : IntOp → Bool
is_sum op.Add = true
is_sum op.Sub = true
is_sum _ = false

-- the value before it is that of the postfix operators `++` and `--` alone, on a place of this type
abbrev pub may_answer : CType → UpdateOp → Expr → Answer → Bool
may_answer t u e After = true
may_answer (type.Int l) (Integer o k) e Before = is_sum o && (same_int_kind k (promoted l) && is_one_of k e)
may_answer (type.Int l) _ e Before = false
may_answer t u e Before = is_one_of kind.Int e

-- an operation on a place of this type with an expression of that one. Integers are operated on in their common kind, to which the expression is brought, and which it determines; a shift has the promoted kind of the place (C11 6.5.16.2, 1 to 3)
abbrev pub is_operation : List Layout → CType → UpdateOp → Option CType → Bool
is_operation layouts (type.Int l) (Integer o k) a =
    if is_shift o then same_int_kind k (promoted l) && has_promoted_kind a else same_int_kind k (common l k) && has_kind k a
is_operation layouts t (Forward size) a = is_some (moved_type layouts size (Some t) a)
is_operation layouts t (Backward size) a = is_some (moved_type layouts size (Some t) a)
is_operation layouts t u a = false

-- ---- heap blocks

-- the type of the objects of a heap block: complete, and one that a type name spells, which `void` is not
abbrev pub is_allocated_type : List Layout → CType → Bool
is_allocated_type layouts t = is_spelled t && keeps_rules layouts t

-- ---- lvalues

abbrev pub pointed_to : Option CType → Option CType
pointed_to (Some (type.Pointer' p (more_of-CType t end_of-CType))) = where_true (not (is_void t)) t
pointed_to _ = None

-- a member of what has this type, which is a struct
abbrev pub type_of_member : List Layout → ℕ → Option CType → Option CType
type_of_member layouts o a = option_and_then (λ t. member_type layouts t o) a

-- an element of what has this type, which is an array, at an integer
abbrev pub type_of_element : List Layout → ℕ → Option CType → Option CType → Option CType
type_of_element layouts size a i = if has_integer_type i then option_and_then (λ t. element_type layouts t size) a else None

abbrev pub is_register : Place_ → Bool
is_register (Own v) = is_register_variable v
is_register _ = false

-- what is pointed to by the address of an object of a type: the object, or the first element of an array that is used as a value (C11 6.3.2.1, 3; 6.5.3.2, 3)
abbrev pub is_addressed_at : CType → Option CType → Bool
is_addressed_at t (Some (type.Array' p (more_of-CType u end_of-CType) n)) = same_type t u || same_type t (type.Array' p (more_of-CType u end_of-CType) n)
is_addressed_at t a = has_this_type t a

-- ---- functions

abbrev pub has_body : Function → Bool
has_body f = is_some f.body

abbrev pub parameter_types : Function → List CType
parameter_types f = map (λ d. d.ctype) (take f.params f.locals)

-- the function with this number, where it has a body and isn't `main`
abbrev pub called : Core → ℕ → Option Function
called q g = option_and_then (λ f. if has_body f && not (g == q.start) then Some f else None) (slice_get q.functions g)

-- the type of a call's value, where its arguments are right (C11 6.5.2.2)
abbrev pub call_type : Option Function → (List CType → Bool) → Option CType
call_type None fit = None
call_type (Some f) fit = where_true (fit (parameter_types f)) f.result

-- ---- expressions

-- in a function of the program that sees these variables
module _ (q : Core) (g : Setting) where
  abbrev mutual
    pub type_of : Expr → Option CType
    -- a constant has an integer type of the promoted ones, and is not negative (C11 6.4.4.1, 5; 6.4.4.4, 10)
    type_of (Literal k z) = where_true (is_promoted k && (is_in_range k z && int_le (pos 0) z)) (type.Int k)
    type_of Null = Some (pointer_to type.Void)
    -- the value of a scalar object (C11 6.3.2.1, 2)
    type_of (Load p t) = where_true (is_scalar t && has_this_type t (type_of_place p)) t
    -- no register has an address (C11 6.5.3.2, 1)
    type_of (Address p t) = where_true (not (is_register p) && is_addressed_at t (type_of_place p)) (pointer_to t)
    type_of (Convert' k b (more_of-Expr e end_of-Expr)) = converted_type k (type_of e)
    -- the operand is promoted (C11 6.5.3.3)
    type_of (Unary' o k b (more_of-Expr e end_of-Expr)) = where_true (is_promoted k && has_kind k (type_of e)) (type.Int k)
    type_of (Binary' o k b (more_of-Expr e end_of-Expr) c (more_of-Expr f end_of-Expr)) = binary_type o k (type_of e) (type_of f)
    type_of (Compare' o b (more_of-Expr e end_of-Expr) c (more_of-Expr f end_of-Expr)) = logical_type (are_comparable o e (type_of e) f (type_of f))
    type_of (Move' b (more_of-Expr e end_of-Expr) c (more_of-Expr f end_of-Expr) size side) = move_type g.layouts size side (type_of e) (type_of f)
    type_of (Difference' b (more_of-Expr e end_of-Expr) c (more_of-Expr f end_of-Expr) unit) = difference_type g.layouts unit (type_of e) (type_of f)
    type_of (Not' b (more_of-Expr e end_of-Expr)) = logical_type (has_scalar_type (type_of e))
    type_of (Both' b (more_of-Expr e end_of-Expr) c (more_of-Expr f end_of-Expr)) = logical_type (has_scalar_type (type_of e) && has_scalar_type (type_of f))
    type_of (Either' b (more_of-Expr e end_of-Expr) c (more_of-Expr f end_of-Expr)) = logical_type (has_scalar_type (type_of e) && has_scalar_type (type_of f))
    type_of (Choose' b (more_of-Expr e end_of-Expr) c (more_of-Expr f end_of-Expr) d (more_of-Expr h end_of-Expr)) =
        if has_scalar_type (type_of e) then choice_type f (type_of f) h (type_of h) else None
    -- the type of an assignment is that of its left operand (C11 6.5.16, 3)
    type_of (Assign' p t b (more_of-Expr e end_of-Expr)) = where_true (has_this_type t (type_of_place p) && is_taken_by t e (type_of e)) t
    type_of (Update' p t u b (more_of-Expr e end_of-Expr) w) =
        where_true (has_this_type t (type_of_place p) && (is_operation g.layouts t u (type_of e) && may_answer t u e w)) t
    -- an argument for each parameter, which takes it as in an assignment (C11 6.5.2.2, 2)
    type_of (Invoke' f b es) = call_type (called q f) (are_arguments es)
    type_of GetChar = Some (type.Int kind.Int)
    type_of (PutChar' b (more_of-Expr e end_of-Expr)) = logical_type (has_kind kind.Int (type_of e))
    -- a pointer to the objects that are allocated, whose count is an `unsigned long` (C11 7.22.3.4)
    type_of (Malloc' b (more_of-Expr e end_of-Expr) t) = where_true (has_kind kind.ULong (type_of e) && is_allocated_type g.layouts t) (pointer_to t)
    -- a pointer of any type, or a null pointer constant (C11 7.22.3.3)
    type_of (Free' b (more_of-Expr e end_of-Expr)) = where_true (has_pointer_type (type_of e)) type.Void
    -- a cast to `void` (C11 6.5.4, 2)
    type_of (Discard' b (more_of-Expr e end_of-Expr)) = where_true (is_some (type_of e)) type.Void

    -- the type of the object that an lvalue designates (C11 6.3.2.1, 1)
    pub type_of_place : Place_ → Option CType
    type_of_place (Own v) = variable_type g v
    -- (C11 6.5.3.2, 4)
    type_of_place (Deref' b (more_of-Expr e end_of-Expr)) = pointed_to (type_of e)
    type_of_place (Member' b (more_of-Place_ p end_of-Place_) o) = type_of_member g.layouts o (type_of_place p)
    type_of_place (Index' b (more_of-Place_ p end_of-Place_) c (more_of-Expr e end_of-Expr) size) = type_of_element g.layouts size (type_of_place p) (type_of e)

    -- the parameters of these types take the arguments, one each
    pub are_arguments : {n : _} → Row_of-Expr n → List CType → Bool
    are_arguments end_of-Expr [] = true
    are_arguments end_of-Expr (t ∷ ts) = false
    are_arguments (more_of-Expr e more) [] = false
    are_arguments (more_of-Expr e more) (t ∷ ts) = is_taken_by t e (type_of e) && are_arguments more ts

  -- ---- what statements ask of an expression

  -- an integer, a pointer or `void` (C11 6.8.3)
  abbrev pub has_a_type : Expr → Bool
  has_a_type e = is_some (type_of e)

  -- a condition (C11 6.8.4.1, 1; 6.8.5, 2)
  abbrev pub is_condition : Expr → Bool
  is_condition e = has_scalar_type (type_of e)

  -- a value for an object of the type
  abbrev pub gives : CType → Expr → Bool
  gives t e = is_taken_by t e (type_of e)
