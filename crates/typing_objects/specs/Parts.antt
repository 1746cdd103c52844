-- What code holds between two rules, as the rules see it.
use Rattle.std.specs.Prelude.{◌≡◌, ℕ, ◌<◌, ◌^◌, Bool, ◌&&◌, nat_lt, if◌then◌else◌, List, Option, Some, Ok, Err}
use Rattle.step_meaning.specs.declared.value.CType.{CType}
use Rattle.step_meaning.specs.declared.value.CType.TheVariants.{Struct}
use Rattle.step_meaning.specs.declared.program.Layout.{Layout}
use Rattle.step_meaning.specs.ExpressionTypes.{pointer_to}
use Rattle.step_meaning.specs.TypeRules.{cells, is_spelled, is_object_type}
use Rattle.c_lexer.specs.declared.token.Place.{Place}
use Rattle.step_meaning.specs.declared.expr.Answer.TheVariants.{After}
use Rattle.step_meaning.specs.declared.expr.Expr.TheVariants as e
use Rattle.step_meaning.specs.declared.expr.Place_.{Place_}
use Rattle.step_meaning.specs.declared.program.Declared.{Declared}
use Rattle.typing_rules.specs.declared.fault.TypeFault.TheVariants.{Mismatch, Unknown}
use Rattle.typing_rules.specs.declared.judgement.CompoundOperation.{CompoundOperation}
use Rattle.typing_rules.specs.declared.operand.Operand.{Operand}
use Rattle.typing_rules.specs.declared.operand.Value.{Value}
use Rattle.typing_rules.specs.Assignments.{target, updated}
use Rattle.typing_rules.specs.Checked.{Checked, ◌>>=◌, kept}
use Rattle.typing_rules.specs.Operands.{at_place, made_from}
use Rattle.typing_rules.specs.declared.operand.Origin.TheVariants.{Allocation}
use Rattle.typing_rules.specs.Allocation as allocation
use Rattle.typing_rules.specs.Operators.{unit}
use Rattle.typing_rules.specs.Subobjects as subobjects
use Rattle.typing_objects.specs.declared.allocation.Request.{Request}
use Rattle.typing_objects.specs.declared.subobject.Base.{Base}
use Rattle.typing_objects.specs.declared.subobject.Base.TheVariants.{InArray, BehindPointer}

-- ---- what stands before `[ ]`

abbrev pub base : Base → subobjects.Base
base (InArray p t) = subobjects.InArray p t
base (BehindPointer v) = subobjects.BehindPointer v

abbrev pub base_result : Checked Base → Checked subobjects.Base
base_result (Ok a) = Ok (base a)
base_result (Err e) = Err e

-- the cells from one element to the next (C11 6.5.2.1, 2)
abbrev pub stride : List Layout → Base → ℕ
stride layouts (InArray p t) = cells layouts t
stride layouts (BehindPointer v) = unit layouts v.ctype

-- ---- what `malloc` is asked for

abbrev pub request : Request → allocation.Request
request q = record { count = q.count; ctype = q.ctype }

abbrev pub request_result : Checked Request → Checked allocation.Request
request_result (Ok q) = Ok (request q)
request_result (Err e) = Err e

-- whether a pointer to the type is the type of an object: a struct is declared, and what is no struct has objects itself
abbrev pub behind_pointer : ℕ → Bool → CType → Bool
behind_pointer declared otherwise (Struct n) = nat_lt n declared
behind_pointer declared otherwise t = otherwise

-- a call of `malloc` where these structs are complete and so many are declared: `allocated` of each environment that has them
abbrev pub allocated_in : List Layout → ℕ → Place → allocation.Request → Checked Operand
allocated_in layouts declared at q = if is_spelled q.ctype && is_object_type layouts declared q.ctype then Ok (made_from Allocation at (e.Malloc q.count q.ctype) (pointer_to q.ctype)) else Err (Mismatch at)

-- ---- compound assignments

-- what is left where the types allow the operation: whether there is an lvalue on the left (C11 6.5.16, 2)
abbrev pub updated_at : List Layout → Place → CompoundOperation → Operand → Value → Checked Operand
updated_at layouts at how a v = do
  to ← target at a
  Ok (updated layouts a.first how to v After)

-- ---- members

-- the member's lvalue, where there is such a member
abbrev pub member_result : Place → Place → Place_ → Option subobjects.Member → Checked Operand
member_result first at_name p m = do
  x ← kept (Unknown at_name) m
  Ok (at_place first (e.Member p x.offset) x.ctype)

-- the offset of the member with this name is below 2^32
abbrev pub MemberOffsetsFit : List Layout → List ℕ → List Declared → Type 0
MemberOffsetsFit layouts name ds = (m : subobjects.Member) → subobjects.member_among layouts name ds ≡ Some m → m.offset < 2 ^ 32

-- the offsets of all members are below 2^32
abbrev pub OffsetsFit : List Layout → Type 0
OffsetsFit layouts = (n : ℕ) (name : List ℕ) (m : subobjects.Member) → subobjects.member_of layouts n name ≡ Some m → m.offset < 2 ^ 32
