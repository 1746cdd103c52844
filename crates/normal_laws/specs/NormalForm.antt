-- The normal form of a program, as a function: statements that make at most one access, call, input or output each, with values and addresses in registers.
-- It is a tool of proofs. What is promised of `normalise` are the properties of its answer.
use Rattle.std.specs.Prelude.{ℕ, zero, suc, ◌+◌, ◌-◌, ◌/◌, ◌%◌, Bool, true, false, ◌==◌, nat_lt, if◌then◌else◌, ℤ, pos, List, [], ◌∷◌, ◌++◌, map, length, slice_get, Option, Some, None}
use Rattle.step_meaning.specs.declared.value.IntKind.{IntKind}
use Rattle.step_meaning.specs.declared.value.IntKind.TheVariants as kind
use Rattle.step_meaning.specs.declared.value.CType.{CType, end_of-CType, more_of-CType}
use Rattle.step_meaning.specs.declared.value.CType.TheVariants as type
use Rattle.step_meaning.specs.declared.value.NameKind.TheVariants.{Register}
use Rattle.step_meaning.specs.declared.expr.IntOp.{IntOp}
use Rattle.step_meaning.specs.declared.expr.UnaryOp.{UnaryOp}
use Rattle.step_meaning.specs.declared.expr.CompareOp.{CompareOp}
use Rattle.step_meaning.specs.declared.expr.Variable.{Variable}
use Rattle.step_meaning.specs.declared.expr.Side.{Side}
use Rattle.step_meaning.specs.declared.expr.Side.TheVariants.{PointerFirst, PointerLast, Minus}
use Rattle.step_meaning.specs.declared.expr.Answer.{Answer}
use Rattle.step_meaning.specs.declared.expr.Answer.TheVariants.{Before, After}
use Rattle.step_meaning.specs.declared.expr.UpdateOp.{UpdateOp}
use Rattle.step_meaning.specs.declared.expr.UpdateOp.TheVariants.{Integer, Forward, Backward}
use Rattle.step_meaning.specs.declared.expr.Expr.{Expr, Row_of-Expr, end_of-Expr, more_of-Expr}
use Rattle.step_meaning.specs.declared.expr.Expr.TheVariants.{Literal, Null, Load, Address, Convert', Unary', Binary', Compare', Move', Difference', Not', Both', Either', Choose', Assign', Update', Invoke, Invoke', GetChar, PutChar', Malloc', Free', Discard', Own, Deref', Member', Index'}
use Rattle.step_meaning.specs.declared.expr.Place_.{Place_, end_of-Place_, more_of-Place_}
use Rattle.step_meaning.specs.declared.stmt.Stmt.{Stmt, Row_of-Stmt, end_of-Stmt, more_of-Stmt}
use Rattle.step_meaning.specs.declared.stmt.Stmt.TheVariants.{Empty, Eval, Init, Block, Block', If', While', Do', For', Break, Continue, Return, Ghost, Assert}
use Rattle.step_meaning.specs.declared.program.Core.{Core}
use Rattle.step_meaning.specs.declared.program.Function.{Function}
use Rattle.step_meaning.specs.declared.program.Declared.{Declared}
use Rattle.step_meaning.specs.declared.program.Layout.{Layout}
use Rattle.step_meaning.specs.Conversions.{same_int_kind}
use Rattle.step_meaning.specs.TypeRules.{cells, member_type}
use Rattle.step_meaning.specs.Settings.{Setting, variable_type, code_setting}

-- ---- operands and places

-- what stands for a value: a number, null, a register with its type, or nothing, for an expression of type `void`
pub data Operand : Type 0 where
  Number : IntKind → ℤ → Operand
  Nil : Operand
  Held : ℕ → CType → Operand
  Absent : Operand

-- what stands for an lvalue: a variable, or what an operand points to
pub data Target : Type 0 where
  Named : Variable → Target
  Pointed : Operand → Target

abbrev pub register : ℕ → Place_
register i = Own (record { kind = Register; index = i })

abbrev pub int : CType
int = type.Int kind.Int

abbrev pub pointer_to : CType → CType
pointer_to t = type.Pointer' tt (more_of-CType t end_of-CType)

-- of an expression of type `void` the value is 0
abbrev pub expression_of : Operand → Expr
expression_of (Number k z) = Literal k z
expression_of Nil = Null
expression_of (Held i t) = Load (register i) t
expression_of Absent = Literal kind.Int (pos 0)

abbrev pub operand_type : Operand → CType
operand_type (Number k z) = type.Int k
operand_type Nil = pointer_to type.Void
operand_type (Held i t) = t
operand_type Absent = type.Void

abbrev pub pointed_type : CType → CType
pointed_type (type.Pointer' b (more_of-CType t end_of-CType)) = t
pointed_type _ = type.Void

abbrev pub element_of : CType → CType
element_of (type.Array' b (more_of-CType t end_of-CType) n) = t
element_of _ = type.Void

abbrev pub or_void : Option CType → CType
or_void None = type.Void
or_void (Some t) = t

abbrev pub deref : Expr → Place_
deref e = Deref' tt (more_of-Expr e end_of-Expr)

abbrev pub place_of : Target → Place_
place_of (Named v) = Own v
place_of (Pointed a) = deref (expression_of a)

-- ---- trees

abbrev pub load_of : Place_ → CType → Expr
load_of p t = Load p t

abbrev pub assign : Place_ → CType → Expr → Stmt
assign p t e = Eval (Assign' p t tt (more_of-Expr e end_of-Expr))

abbrev pub set_to : ℕ → CType → Expr → Stmt
set_to i t e = assign (register i) t e

abbrev pub one : Stmt → List Stmt
one s = s ∷ []

abbrev pub convert : IntKind → Expr → Expr
convert k e = Convert' k tt (more_of-Expr e end_of-Expr)

abbrev pub unary : UnaryOp → IntKind → Expr → Expr
unary o k e = Unary' o k tt (more_of-Expr e end_of-Expr)

abbrev pub binary : IntOp → IntKind → Expr → Expr → Expr
binary o k a b = Binary' o k tt (more_of-Expr a end_of-Expr) tt (more_of-Expr b end_of-Expr)

abbrev pub compare : CompareOp → Expr → Expr → Expr
compare o a b = Compare' o tt (more_of-Expr a end_of-Expr) tt (more_of-Expr b end_of-Expr)

abbrev pub move : Expr → Expr → ℕ → Side → Expr
move a b size side = Move' tt (more_of-Expr a end_of-Expr) tt (more_of-Expr b end_of-Expr) size side

abbrev pub difference : Expr → Expr → ℕ → Expr
difference a b unit = Difference' tt (more_of-Expr a end_of-Expr) tt (more_of-Expr b end_of-Expr) unit

abbrev pub negated : Expr → Expr
negated e = Not' tt (more_of-Expr e end_of-Expr)

-- 1 where the value holds as a condition, 0 elsewhere
abbrev pub as_truth_value : Expr → Expr
as_truth_value e = negated (negated e)

abbrev pub put_char : Expr → Expr
put_char e = PutChar' tt (more_of-Expr e end_of-Expr)

abbrev pub allocated : CType → Expr → Expr
allocated t e = Malloc' tt (more_of-Expr e end_of-Expr) t

abbrev pub released : Expr → Expr
released e = Free' tt (more_of-Expr e end_of-Expr)

abbrev pub member : Place_ → ℕ → Place_
member p o = Member' tt (more_of-Place_ p end_of-Place_) o

abbrev pub index : Place_ → Expr → ℕ → Place_
index p e size = Index' tt (more_of-Place_ p end_of-Place_) tt (more_of-Expr e end_of-Expr) size

abbrev pub truth_literal : ℕ → Expr
truth_literal n = Literal kind.Int (pos n)

abbrev pub block_of : List Stmt → Stmt
block_of ss = Block ss

abbrev pub choice_of : Expr → Stmt → Stmt → Stmt
choice_of e a b = If' e tt (more_of-Stmt a end_of-Stmt) tt (more_of-Stmt b end_of-Stmt)

-- each branch is a block
abbrev pub choice : Expr → List Stmt → List Stmt → Stmt
choice e a b = choice_of e (block_of a) (block_of b)

-- `while (1)`
abbrev pub repeat_of : Stmt → Stmt
repeat_of s = While' (truth_literal 1) tt (more_of-Stmt s end_of-Stmt)

abbrev pub forever : List Stmt → Stmt
forever ss = repeat_of (block_of ss)

-- ---- code

-- a register that was taken, with its type
pub data Typed : Type 0 where
  Is : ℕ → CType → Typed

-- statements that make a value, the operand for it, the next free register, and the registers that were taken
pub record Code : Type 0 where
  pub code : List Stmt
  pub value : Operand
  pub next : ℕ
  pub types : List Typed

pub record Codes : Type 0 where
  pub code : List Stmt
  pub values : List Operand
  pub next : ℕ
  pub types : List Typed

-- the same for an lvalue, with the type of the object
pub record PlaceCode : Type 0 where
  pub code : List Stmt
  pub target : Target
  pub ctype : CType
  pub next : ℕ
  pub types : List Typed

pub record StatementCode : Type 0 where
  pub code : List Stmt
  pub next : ℕ
  pub types : List Typed

abbrev pub without_code : Operand → ℕ → Code
without_code a m = record { code = []; value = a; next = m; types = [] }

-- ---- one operand, one register

-- a register takes an expression over the value
abbrev pub then_set : CType → (Expr → Expr) → Code → Code
then_set t f a = record { code = a.code ++ one (set_to a.next t (f (expression_of a.value))); value = Held a.next t; next = suc a.next; types = a.types ++ (Is a.next t ∷ []) }

-- and over two values
abbrev pub then_set_both : CType → (Expr → Expr → Expr) → Code → Code → Code
then_set_both t f a b = record { code = a.code ++ (b.code ++ one (set_to b.next t (f (expression_of a.value) (expression_of b.value)))); value = Held b.next t; next = suc b.next; types = a.types ++ (b.types ++ (Is b.next t ∷ [])) }

-- a register takes an expression over the place
abbrev pub then_set_from : CType → (Place_ → Expr) → PlaceCode → Code
then_set_from t f p = record { code = p.code ++ one (set_to p.next t (f (place_of p.target))); value = Held p.next t; next = suc p.next; types = p.types ++ (Is p.next t ∷ []) }

-- the address of the pointer in an addition or subtraction
abbrev pub moved_operand : Side → Operand → Operand → Operand
moved_operand PointerFirst a b = a
moved_operand PointerLast a b = b
moved_operand Minus a b = a

abbrev pub move_code : ℕ → Side → Code → Code → Code
move_code size side a b = then_set_both (operand_type (moved_operand side a.value b.value)) (λ e f. move e f size side) a b

-- ---- choices

-- what both branches leave where they leave no register: null, or nothing
abbrev pub common_operand : Operand → Operand → Option Operand
common_operand Nil Nil = Some Nil
common_operand Absent Absent = Some Absent
common_operand a b = None

-- null beside a pointer has the pointer's type
abbrev pub chosen_type : Operand → Operand → CType
chosen_type Nil b = operand_type b
chosen_type a b = operand_type a

abbrev pub branch_code : ℕ → CType → Code → List Stmt
branch_code i t a = a.code ++ one (set_to i t (expression_of a.value))

abbrev pub choose_into : Option Operand → Code → Code → Code → Code
choose_into (Some o) c a b = record { code = c.code ++ one (choice (expression_of c.value) a.code b.code); value = o; next = b.next; types = c.types ++ (a.types ++ b.types) }
choose_into None c a b =
    let t = chosen_type a.value b.value in
    record {
      code = c.code ++ one (choice (expression_of c.value) (branch_code b.next t a) (branch_code b.next t b));
      value = Held b.next t;
      next = suc b.next;
      types = c.types ++ (a.types ++ (b.types ++ (Is b.next t ∷ [])));
    }

abbrev pub choose_code : Code → Code → Code → Code
choose_code c a b = choose_into (common_operand a.value b.value) c a b

abbrev pub truth_code : Code → Code
truth_code b = record b { code = b.code ++ one (set_to b.next int (as_truth_value (expression_of b.value))); value = Held b.next int; next = suc b.next; types = b.types ++ (Is b.next int ∷ []) }

abbrev pub both_code : Code → Code → Code
both_code a b = record {
  code = a.code ++ one (choice (expression_of a.value) (b.code ++ one (set_to b.next int (as_truth_value (expression_of b.value)))) (one (set_to b.next int (truth_literal 0))));
  value = Held b.next int;
  next = suc b.next;
  types = a.types ++ (b.types ++ (Is b.next int ∷ []));
}

abbrev pub either_code : Code → Code → Code
either_code a b = record {
  code = a.code ++ one (choice (expression_of a.value) (one (set_to b.next int (truth_literal 1))) (b.code ++ one (set_to b.next int (as_truth_value (expression_of b.value)))));
  value = Held b.next int;
  next = suc b.next;
  types = a.types ++ (b.types ++ (Is b.next int ∷ []));
}

-- ---- assignments

-- null that a place takes has the place's type from then on
abbrev pub typed_value : CType → Operand → Code → Code
typed_value t Nil a = then_set t (λ e. e) a
typed_value t _ a = a

abbrev pub store_code : CType → PlaceCode → Code → Code
store_code t p a = record { code = p.code ++ (a.code ++ one (assign (place_of p.target) t (expression_of a.value))); value = a.value; next = a.next; types = p.types ++ a.types }

abbrev pub assign_code : CType → PlaceCode → Code → Code
assign_code t p a = store_code t p (typed_value t a.value a)

-- an integer of the one kind brought to another
abbrev pub convert_between : IntKind → IntKind → Expr → Expr
convert_between l k e = if same_int_kind l k then e else convert k e

abbrev pub convert_from : CType → IntKind → Expr → Expr
convert_from (type.Int l) k e = convert_between l k e
convert_from _ k e = convert k e

abbrev pub convert_back : IntKind → CType → Expr → Expr
convert_back k (type.Int l) e = convert_between k l e
convert_back k _ e = e

-- the new value of an update, from the old one and the operand
abbrev pub updated_expression : CType → UpdateOp → Expr → Expr → Expr
updated_expression t (Integer o k) a b = convert_back k t (binary o k (convert_from t k a) b)
updated_expression t (Forward size) a b = move a b size PointerFirst
updated_expression t (Backward size) a b = move a b size Minus

abbrev pub answered : Answer → Operand → Operand → Operand
answered Before a b = a
answered After a b = b

abbrev pub update_code : CType → UpdateOp → Answer → PlaceCode → Code → Code
update_code t o w p b = record {
  code = p.code
      ++ (one (set_to p.next t (Load (place_of p.target) t))
      ++ (b.code
      ++ (one (set_to b.next t (updated_expression t o (expression_of (Held p.next t)) (expression_of b.value)))
      ++ one (assign (place_of p.target) t (expression_of (Held b.next t))))));
  value = answered w (Held p.next t) (Held b.next t);
  next = suc b.next;
  types = p.types ++ (Is p.next t ∷ (b.types ++ (Is b.next t ∷ [])));
}

-- ---- `free`

abbrev pub release_code : Code → Code
release_code a = record { code = a.code ++ one (Eval (released (expression_of a.value))); value = Absent; next = a.next; types = a.types }

-- ---- lvalues

abbrev pub named_code : Variable → CType → ℕ → PlaceCode
named_code v t m = record { code = []; target = Named v; ctype = t; next = m; types = [] }

abbrev pub pointed_code : Code → PlaceCode
pointed_code a = record { code = a.code; target = Pointed a.value; ctype = pointed_type (operand_type a.value); next = a.next; types = a.types }

-- the address of a part of an object of this type is a statement of its own
abbrev pub member_code : ℕ → CType → PlaceCode → PlaceCode
member_code o t p = record {
  code = p.code ++ one (set_to p.next (pointer_to t) (Address (member (place_of p.target) o) t));
  target = Pointed (Held p.next (pointer_to t));
  ctype = t;
  next = suc p.next;
  types = p.types ++ (Is p.next (pointer_to t) ∷ []);
}

abbrev pub index_code : ℕ → CType → PlaceCode → Code → PlaceCode
index_code size t p b = record {
  code = p.code ++ (b.code ++ one (set_to b.next (pointer_to t) (Address (index (place_of p.target) (expression_of b.value) size) t)));
  target = Pointed (Held b.next (pointer_to t));
  ctype = t;
  next = suc b.next;
  types = p.types ++ (b.types ++ (Is b.next (pointer_to t) ∷ []));
}

-- ---- calls

-- a function without a value leaves no register
abbrev pub invoke_code : ℕ → CType → Codes → Code
invoke_code g type.Void es = record { code = es.code ++ one (Eval (Invoke g (map expression_of es.values))); value = Absent; next = es.next; types = es.types }
invoke_code g t es = record { code = es.code ++ one (set_to es.next t (Invoke g (map expression_of es.values))); value = Held es.next t; next = suc es.next; types = es.types ++ (Is es.next t ∷ []) }

abbrev pub result_type : Option Function → CType
result_type None = type.Void
result_type (Some f) = f.result

-- ---- cells of an object

-- a member at an offset, or an element of a size, with its type
pub data Part : Type 0 where
  MemberAt : ℕ → CType → Part
  ElementAt : ℕ → ℕ → CType → Part

module _ (layouts : List Layout) where
  -- `inner` is the same for the cells of structs, by their numbers
  module _ (inner : ℕ → ℕ → List Part) where
    -- the parts of an object of the type that have the cell at the offset in them, the outermost first
    abbrev pub type_parts : CType → ℕ → List Part
    type_parts (type.Array' b (more_of-CType t end_of-CType) n) o = ElementAt (o / cells layouts t) (cells layouts t) t ∷ type_parts t (o % cells layouts t)
    type_parts (type.Struct n) o = inner n o
    type_parts _ o = []

    -- of members, the first at the offset `at`
    abbrev pub member_parts : List Declared → ℕ → ℕ → List Part
    member_parts [] at o = []
    member_parts (d ∷ ds) at o = if nat_lt o (at + cells layouts d.ctype) then MemberAt at d.ctype ∷ type_parts d.ctype (o - at) else member_parts ds (at + cells layouts d.ctype) o

  abbrev pub layout_parts : (ℕ → ℕ → List Part) → Option Layout → ℕ → List Part
  layout_parts inner None o = []
  layout_parts inner (Some l) o = member_parts inner l.members 0 o

  -- of structs that nest at most so deep
  abbrev pub struct_parts : ℕ → ℕ → ℕ → List Part
  struct_parts zero n o = []
  struct_parts (suc deep) n o = layout_parts (struct_parts deep) (slice_get layouts n) o

  abbrev pub cell_parts : CType → ℕ → List Part
  cell_parts t o = type_parts (struct_parts (length layouts)) t o

-- a register takes the address of each part in turn
abbrev pub part_code : Part → PlaceCode → PlaceCode
part_code (MemberAt o t) p = member_code o t p
part_code (ElementAt i size t) p = index_code size t p (without_code (Number kind.Int (pos i)) p.next)

abbrev pub parts_code : List Part → PlaceCode → PlaceCode
parts_code [] p = p
parts_code (x ∷ xs) p = parts_code xs (part_code x p)

-- ---- parts of statements

abbrev pub no_code : ℕ → StatementCode
no_code m = record { code = []; next = m; types = [] }

abbrev pub if_code : Code → StatementCode → StatementCode → StatementCode
if_code c a b = record { code = c.code ++ one (choice (expression_of c.value) a.code b.code); next = b.next; types = c.types ++ (a.types ++ b.types) }

-- a turn is the test, the body and what ends it
abbrev pub loop_code : StatementCode → StatementCode → StatementCode → StatementCode
loop_code test last body = record { code = one (forever (test.code ++ (body.code ++ last.code))); next = body.next; types = test.types ++ (last.types ++ body.types) }

-- ---- returned values

-- a value that is returned is brought into a register of this type first
abbrev pub returned_in : Code → StatementCode
returned_in a = record { code = a.code ++ one (Return (Some (expression_of a.value))); next = a.next; types = a.types }

abbrev pub returning : CType → Code → StatementCode
returning t a = returned_in (then_set t (λ e. e) a)

-- ---- expressions

module _ (q : Core) (g : Setting) where
  abbrev mutual
    pub expression_code : Expr → ℕ → Code
    expression_code (Literal k z) m = without_code (Number k z) m
    expression_code Null m = without_code Nil m
    expression_code (Load p t) m = then_set_from t (λ p. Load p t) (place_code p m)
    expression_code (Address p t) m = then_set_from (pointer_to t) (λ p. Address p t) (place_code p m)
    expression_code (Convert' k b (more_of-Expr e end_of-Expr)) m = then_set (type.Int k) (convert k) (expression_code e m)
    expression_code (Unary' o k b (more_of-Expr e end_of-Expr)) m = then_set (type.Int k) (unary o k) (expression_code e m)
    expression_code (Binary' o k b (more_of-Expr e end_of-Expr) c (more_of-Expr f end_of-Expr)) m = then_set_both (type.Int k) (binary o k) (expression_code e m) (expression_code f (expression_code e m).next)
    expression_code (Compare' o b (more_of-Expr e end_of-Expr) c (more_of-Expr f end_of-Expr)) m = then_set_both int (compare o) (expression_code e m) (expression_code f (expression_code e m).next)
    expression_code (Move' b (more_of-Expr e end_of-Expr) c (more_of-Expr f end_of-Expr) size side) m = move_code size side (expression_code e m) (expression_code f (expression_code e m).next)
    expression_code (Difference' b (more_of-Expr e end_of-Expr) c (more_of-Expr f end_of-Expr) unit) m = then_set_both (type.Int kind.Long) (λ e f. difference e f unit) (expression_code e m) (expression_code f (expression_code e m).next)
    expression_code (Not' b (more_of-Expr e end_of-Expr)) m = then_set int negated (expression_code e m)
    expression_code (Both' b (more_of-Expr e end_of-Expr) c (more_of-Expr f end_of-Expr)) m = both_code (expression_code e m) (expression_code f (expression_code e m).next)
    expression_code (Either' b (more_of-Expr e end_of-Expr) c (more_of-Expr f end_of-Expr)) m = either_code (expression_code e m) (expression_code f (expression_code e m).next)
    expression_code (Choose' b (more_of-Expr e end_of-Expr) c (more_of-Expr f end_of-Expr) d (more_of-Expr h end_of-Expr)) m =
        choose_code (expression_code e m) (expression_code f (expression_code e m).next) (expression_code h (expression_code f (expression_code e m).next).next)
    expression_code (Assign' p t b (more_of-Expr e end_of-Expr)) m = assign_code t (place_code p m) (expression_code e (place_code p m).next)
    expression_code (Update' p t o b (more_of-Expr e end_of-Expr) w) m = update_code t o w (place_code p m) (expression_code e (suc (place_code p m).next))
    expression_code (Invoke' f b es) m = invoke_code f (result_type (slice_get q.functions f)) (arguments_code es m)
    expression_code GetChar m = record { code = one (set_to m int GetChar); value = Held m int; next = suc m; types = Is m int ∷ [] }
    expression_code (PutChar' b (more_of-Expr e end_of-Expr)) m = then_set int put_char (expression_code e m)
    expression_code (Malloc' b (more_of-Expr e end_of-Expr) t) m = then_set (pointer_to t) (allocated t) (expression_code e m)
    expression_code (Free' b (more_of-Expr e end_of-Expr)) m = release_code (expression_code e m)
    expression_code (Discard' b (more_of-Expr e end_of-Expr)) m = record (expression_code e m) { value = Absent }

    pub arguments_code : {n : _} → Row_of-Expr n → ℕ → Codes
    arguments_code end_of-Expr m = record { code = []; values = []; next = m; types = [] }
    arguments_code (more_of-Expr e es) m =
        record {
          code = (expression_code e m).code ++ (arguments_code es (expression_code e m).next).code;
          values = (expression_code e m).value ∷ (arguments_code es (expression_code e m).next).values;
          next = (arguments_code es (expression_code e m).next).next;
          types = (expression_code e m).types ++ (arguments_code es (expression_code e m).next).types;
        }

    pub place_code : Place_ → ℕ → PlaceCode
    place_code (Own v) m = named_code v (or_void (variable_type g v)) m
    place_code (Deref' b (more_of-Expr e end_of-Expr)) m = pointed_code (expression_code e m)
    place_code (Member' b (more_of-Place_ p end_of-Place_) o) m = member_code o (or_void (member_type g.layouts (place_code p m).ctype o)) (place_code p m)
    place_code (Index' b (more_of-Place_ p end_of-Place_) c (more_of-Expr e end_of-Expr) size) m =
        index_code size (element_of (place_code p m).ctype) (place_code p m) (expression_code e (place_code p m).next)

  -- ---- statements

  -- a test that leaves the loop where it doesn't hold
  abbrev pub test_code : Option Expr → ℕ → StatementCode
  test_code None m = record { code = []; next = m; types = [] }
  test_code (Some e) m =
      record {
        code = (expression_code e m).code ++ one (choice (expression_of (expression_code e m).value) [] (one Break));
        next = (expression_code e m).next;
        types = (expression_code e m).types;
      }

  abbrev pub effect_code : Option Expr → ℕ → StatementCode
  effect_code None m = record { code = []; next = m; types = [] }
  effect_code (Some e) m = record { code = (expression_code e m).code; next = (expression_code e m).next; types = (expression_code e m).types }

  -- in a function with a result of this type
  abbrev pub return_code : CType → Option Expr → ℕ → StatementCode
  return_code t None m = record { code = one (Return None); next = m; types = [] }
  return_code t (Some e) m = returning t (expression_code e m)

  -- a cell of a variable takes the value
  abbrev pub init_code : Variable → ℕ → CType → Code → StatementCode
  init_code v o t a =
      let p = parts_code (cell_parts g.layouts (or_void (variable_type g v)) o) (named_code v (or_void (variable_type g v)) a.next) in
      record { code = a.code ++ (p.code ++ one (assign (place_of p.target) t (expression_of a.value))); next = p.next; types = a.types ++ p.types }

-- the statements of a function with a result of this type
module _ (q : Core) (g : Setting) (result : CType) where
  -- `before` ends a turn of the loop around the statement, and stands before each of its `continue`
  abbrev mutual
    pub statement_code : List Stmt → Stmt → ℕ → StatementCode
    statement_code before Empty m = no_code m
    statement_code before (Eval e) m = effect_code q g (Some e) m
    statement_code before (Init v o t e) m = init_code q g v o t (expression_code q g e m)
    statement_code before (Block' b ss) m =
        record { code = one (Block (row_code before ss m).code); next = (row_code before ss m).next; types = (row_code before ss m).types }
    statement_code before (If' e b (more_of-Stmt s end_of-Stmt) c (more_of-Stmt u end_of-Stmt)) m =
        if_code (expression_code q g e m) (statement_code before s (expression_code q g e m).next) (statement_code before u (statement_code before s (expression_code q g e m).next).next)
    statement_code before (While' e b (more_of-Stmt s end_of-Stmt)) m =
        loop_code (test_code q g (Some e) m) (no_code (test_code q g (Some e) m).next) (statement_code [] s (test_code q g (Some e) m).next)
    statement_code before (Do' b (more_of-Stmt s end_of-Stmt) e) m =
        loop_code (no_code m) (test_code q g (Some e) m) (statement_code (test_code q g (Some e) m).code s (test_code q g (Some e) m).next)
    statement_code before (For' test step b (more_of-Stmt s end_of-Stmt)) m =
        loop_code (test_code q g test m) (effect_code q g step (test_code q g test m).next)
        (statement_code (effect_code q g step (test_code q g test m).next).code s (effect_code q g step (test_code q g test m).next).next)
    statement_code before Break m = record { code = one Break; next = m; types = [] }
    statement_code before Continue m = record { code = before ++ one Continue; next = m; types = [] }
    statement_code before (Return e) m = return_code q g result e m
    statement_code before (Ghost s) m = no_code m
    statement_code before (Assert v k r) m = no_code m

    pub row_code : {n : _} → List Stmt → Row_of-Stmt n → ℕ → StatementCode
    row_code before end_of-Stmt m = no_code m
    row_code before (more_of-Stmt s more) m =
        record {
          code = (statement_code before s m).code ++ (row_code before more (statement_code before s m).next).code;
          next = (row_code before more (statement_code before s m).next).next;
          types = (statement_code before s m).types ++ (row_code before more (statement_code before s m).next).types;
        }

  -- of a whole body
  abbrev pub body_code : List Stmt → ℕ → StatementCode
  body_code [] m = no_code m
  body_code (s ∷ ss) m =
      record {
        code = (statement_code [] s m).code ++ (body_code ss (statement_code [] s m).next).code;
        next = (body_code ss (statement_code [] s m).next).next;
        types = (statement_code [] s m).types ++ (body_code ss (statement_code [] s m).next).types;
      }

-- ---- functions

-- the `}` of `main` returns 0, that of another function without a value returns
abbrev pub last_code : Bool → CType → ℕ → StatementCode
last_code true t m = returning t (without_code (Number kind.Int (pos 0)) m)
last_code false type.Void m = record { code = one (Return None); next = m; types = [] }
last_code false t m = no_code m

abbrev pub declared_register : Typed → Declared
declared_register (Is i t) = record { name = []; ctype = t }

module _ (q : Core) where
  -- a body with what its end does
  abbrev pub ended_body_code : Bool → Function → List Stmt → StatementCode
  ended_body_code is_main f ss =
      let b = body_code q (code_setting q f) f.result ss 0 in
      let l = last_code is_main f.result b.next in
      record { code = b.code ++ l.code; next = l.next; types = b.types ++ l.types }

  -- a statement that is no annotation begins each body
  abbrev pub normal_body : ℕ → Function → List Stmt → List Stmt
  normal_body i f ss = Empty ∷ (ended_body_code (i == q.start) f ss).code

  abbrev pub normal_function : ℕ → Function → Option (List Stmt) → Function
  normal_function i f None = f
  normal_function i f (Some ss) = record f { registers = map declared_register (ended_body_code (i == q.start) f ss).types; body = Some (normal_body i f ss) }

  abbrev pub normal_functions : ℕ → List Function → List Function
  normal_functions i [] = []
  normal_functions i (f ∷ fs) = normal_function i f f.body ∷ normal_functions (suc i) fs

  abbrev pub normal_core : Core
  normal_core = record q { functions = normal_functions 0 q.functions }
