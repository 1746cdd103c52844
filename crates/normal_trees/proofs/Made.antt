-- The nodes that code makes are those of the normal form.
use Rattle.std.proofs.Common.{◌≡◌, ℕ, refl}
use Rattle.std.specs.Prelude.{pos}
use denote.Hole.Carrier.{hidden}
use Rattle.step_meaning.specs.declared.value.IntKind.{IntKind}
use Rattle.step_meaning.specs.declared.value.IntKind.TheVariants as kind
use Rattle.step_meaning.specs.declared.value.CType.{CType}
use Rattle.step_meaning.specs.declared.value.CType.TheVariants as type
use Rattle.step_meaning.specs.declared.value.CType.TheBlock.{shape-the_row-CType-0, hidden-the_row-CType-0}
use Rattle.step_meaning.specs.declared.expr.IntOp.{IntOp}
use Rattle.step_meaning.specs.declared.expr.UnaryOp.{UnaryOp}
use Rattle.step_meaning.specs.declared.expr.CompareOp.{CompareOp}
use Rattle.step_meaning.specs.declared.expr.Side.{Side}
use Rattle.step_meaning.specs.declared.expr.Expr.{Expr}
use Rattle.step_meaning.specs.declared.expr.Place_.{Place_}
use Rattle.step_meaning.specs.declared.expr.Expr.TheVariants as e
use Rattle.step_meaning.specs.declared.expr.Expr.TheBlock.{shape-the_row-Expr-0, hidden-the_row-Expr-0, shape-the_row-Place_-2, hidden-the_row-Place_-2}
use Rattle.step_meaning.specs.declared.stmt.Stmt.{Stmt}
use Rattle.step_meaning.specs.declared.stmt.Stmt.TheVariants as s
use Rattle.step_meaning.specs.declared.stmt.Stmt.TheBlock.{shape-the_row-Stmt-1, hidden-the_row-Stmt-1}
use Rattle.normal_laws.specs.NormalForm as form

pub made_pointer_to : (inner : CType) → type.Pointer inner ≡ form.pointer_to inner
unfolding shape-the_row-CType-0 hidden-the_row-CType-0 hidden
made_pointer_to inner = refl

pub made_convert : (kind : IntKind) (value : Expr) → e.Convert kind value ≡ form.convert kind value
unfolding shape-the_row-Expr-0 hidden-the_row-Expr-0 hidden
made_convert kind value = refl

pub made_unary : (op : UnaryOp) (kind : IntKind) (value : Expr) → e.Unary op kind value ≡ form.unary op kind value
unfolding shape-the_row-Expr-0 hidden-the_row-Expr-0 hidden
made_unary op kind value = refl

pub made_binary : (op : IntOp) (kind : IntKind) (left : Expr) (right : Expr) → e.Binary op kind left right ≡ form.binary op kind left right
unfolding shape-the_row-Expr-0 hidden-the_row-Expr-0 hidden
made_binary op kind left right = refl

pub made_compare : (op : CompareOp) (left : Expr) (right : Expr) → e.Compare op left right ≡ form.compare op left right
unfolding shape-the_row-Expr-0 hidden-the_row-Expr-0 hidden
made_compare op left right = refl

pub made_shift : (left : Expr) (right : Expr) (size : ℕ) (side : Side) → e.Move left right size side ≡ form.move left right size side
unfolding shape-the_row-Expr-0 hidden-the_row-Expr-0 hidden
made_shift left right size side = refl

pub made_subtract : (left : Expr) (right : Expr) (unit : ℕ) → e.Difference left right unit ≡ form.difference left right unit
unfolding shape-the_row-Expr-0 hidden-the_row-Expr-0 hidden
made_subtract left right unit = refl

pub made_negate : (value : Expr) → e.Not value ≡ form.negated value
unfolding shape-the_row-Expr-0 hidden-the_row-Expr-0 hidden
made_negate value = refl

pub made_put_char : (value : Expr) → e.PutChar value ≡ form.put_char value
unfolding shape-the_row-Expr-0 hidden-the_row-Expr-0 hidden
made_put_char value = refl

pub made_allocate : (ctype : CType) (count : Expr) → e.Malloc count ctype ≡ form.allocated ctype count
unfolding shape-the_row-Expr-0 hidden-the_row-Expr-0 hidden
made_allocate ctype count = refl

pub made_release : (value : Expr) → e.Free value ≡ form.released value
unfolding shape-the_row-Expr-0 hidden-the_row-Expr-0 hidden
made_release value = refl

pub made_deref : (pointer : Expr) → e.Deref pointer ≡ form.deref pointer
unfolding shape-the_row-Expr-0 hidden-the_row-Expr-0 hidden
made_deref pointer = refl

pub made_member : (object : Place_) (offset : ℕ) → e.Member object offset ≡ form.member object offset
unfolding shape-the_row-Place_-2 hidden-the_row-Place_-2 hidden
made_member object offset = refl

pub made_element : (array : Place_) (index : Expr) (size : ℕ) → e.Index array index size ≡ form.index array index size
unfolding shape-the_row-Expr-0 hidden-the_row-Expr-0 shape-the_row-Place_-2 hidden-the_row-Place_-2 hidden
made_element array index size = refl

pub made_assign : (place : Place_) (ctype : CType) (value : Expr) → s.Eval (e.Assign place ctype value) ≡ form.assign place ctype value
unfolding shape-the_row-Expr-0 hidden-the_row-Expr-0 hidden
made_assign place ctype value = refl

pub made_branch : (test : Expr) (first second : Stmt) → s.If test first second ≡ form.choice_of test first second
unfolding shape-the_row-Stmt-1 hidden-the_row-Stmt-1 hidden
made_branch test first second = refl

pub made_repeat : (body : Stmt) → s.While (e.Literal kind.Int (pos 1)) body ≡ form.repeat_of body
unfolding shape-the_row-Stmt-1 hidden-the_row-Stmt-1 hidden
made_repeat body = refl
