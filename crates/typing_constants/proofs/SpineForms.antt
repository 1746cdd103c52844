-- First operands, and what the others add, of each form of expression that code makes.
use Rattle.std.proofs.Common.{◌≡◌, refl, ℕ, true, false, ◌&&◌, Option, Some, None}
use Rattle.std.specs.Prelude.{ℤ, List}
use denote.Hole.Carrier.{hidden}
use Rattle.step_meaning.specs.declared.value.IntKind.{IntKind}
use Rattle.step_meaning.specs.declared.value.CType.{CType}
use Rattle.step_meaning.specs.declared.expr.IntOp.{IntOp}
use Rattle.step_meaning.specs.declared.expr.UnaryOp.{UnaryOp}
use Rattle.step_meaning.specs.declared.expr.CompareOp.{CompareOp}
use Rattle.step_meaning.specs.declared.expr.UpdateOp.{UpdateOp}
use Rattle.step_meaning.specs.declared.expr.Side.{Side}
use Rattle.step_meaning.specs.declared.expr.Answer.{Answer}
use Rattle.step_meaning.specs.declared.expr.Expr.{Expr}
use Rattle.step_meaning.specs.declared.expr.Expr.TheVariants as form
use Rattle.step_meaning.specs.declared.expr.Expr.TheBlock.{shape-the_row-Expr-0, hidden-the_row-Expr-0, shape-the_row-Expr-1, hidden-the_row-Expr-1, shape-the_row-Place_-2, hidden-the_row-Place_-2}
use Rattle.step_meaning.specs.declared.expr.Place_.{Place_}
use Rattle.typing_rules.specs.ConstantExpressions.{is_constant, value_of}
use Rattle.typing_constants.specs.Values.{converted_value, unary_value, binary_value, compared_value, negated_value, both_value, either_value, chosen_value}
use Rattle.typing_constants.specs.Spines.{first_operand, others_constant, value_after}

-- ---- first operands

pub first-Literal : (k : IntKind) (z : ℤ) → first_operand (form.Literal k z) ≡ None
unfolding first_operand shape-the_row-Expr-0 hidden-the_row-Expr-0 shape-the_row-Expr-1 hidden-the_row-Expr-1 shape-the_row-Place_-2 hidden-the_row-Place_-2 hidden
first-Literal k z = refl

pub first-Convert : (k : IntKind) (e : Expr) → first_operand (form.Convert k e) ≡ Some e
unfolding first_operand shape-the_row-Expr-0 hidden-the_row-Expr-0 shape-the_row-Expr-1 hidden-the_row-Expr-1 shape-the_row-Place_-2 hidden-the_row-Place_-2 hidden
first-Convert k e = refl

pub first-Unary : (o : UnaryOp) (k : IntKind) (e : Expr) → first_operand (form.Unary o k e) ≡ Some e
unfolding first_operand shape-the_row-Expr-0 hidden-the_row-Expr-0 shape-the_row-Expr-1 hidden-the_row-Expr-1 shape-the_row-Place_-2 hidden-the_row-Place_-2 hidden
first-Unary o k e = refl

pub first-Binary : (o : IntOp) (k : IntKind) (e : Expr) (f : Expr) → first_operand (form.Binary o k e f) ≡ Some e
unfolding first_operand shape-the_row-Expr-0 hidden-the_row-Expr-0 shape-the_row-Expr-1 hidden-the_row-Expr-1 shape-the_row-Place_-2 hidden-the_row-Place_-2 hidden
first-Binary o k e f = refl

pub first-Compare : (o : CompareOp) (e : Expr) (f : Expr) → first_operand (form.Compare o e f) ≡ Some e
unfolding first_operand shape-the_row-Expr-0 hidden-the_row-Expr-0 shape-the_row-Expr-1 hidden-the_row-Expr-1 shape-the_row-Place_-2 hidden-the_row-Place_-2 hidden
first-Compare o e f = refl

pub first-Not : (e : Expr) → first_operand (form.Not e) ≡ Some e
unfolding first_operand shape-the_row-Expr-0 hidden-the_row-Expr-0 shape-the_row-Expr-1 hidden-the_row-Expr-1 shape-the_row-Place_-2 hidden-the_row-Place_-2 hidden
first-Not e = refl

pub first-Both : (e : Expr) (f : Expr) → first_operand (form.Both e f) ≡ Some e
unfolding first_operand shape-the_row-Expr-0 hidden-the_row-Expr-0 shape-the_row-Expr-1 hidden-the_row-Expr-1 shape-the_row-Place_-2 hidden-the_row-Place_-2 hidden
first-Both e f = refl

pub first-Either : (e : Expr) (f : Expr) → first_operand (form.Either e f) ≡ Some e
unfolding first_operand shape-the_row-Expr-0 hidden-the_row-Expr-0 shape-the_row-Expr-1 hidden-the_row-Expr-1 shape-the_row-Place_-2 hidden-the_row-Place_-2 hidden
first-Either e f = refl

pub first-Choose : (e : Expr) (f : Expr) (g : Expr) → first_operand (form.Choose e f g) ≡ Some e
unfolding first_operand shape-the_row-Expr-0 hidden-the_row-Expr-0 shape-the_row-Expr-1 hidden-the_row-Expr-1 shape-the_row-Place_-2 hidden-the_row-Place_-2 hidden
first-Choose e f g = refl

pub first-Null : first_operand form.Null ≡ None
unfolding first_operand shape-the_row-Expr-0 hidden-the_row-Expr-0 shape-the_row-Expr-1 hidden-the_row-Expr-1 shape-the_row-Place_-2 hidden-the_row-Place_-2 hidden
first-Null = refl

pub first-Load : (p : Place_) (t : CType) → first_operand (form.Load p t) ≡ None
unfolding first_operand shape-the_row-Expr-0 hidden-the_row-Expr-0 shape-the_row-Expr-1 hidden-the_row-Expr-1 shape-the_row-Place_-2 hidden-the_row-Place_-2 hidden
first-Load p t = refl

pub first-Address : (p : Place_) (t : CType) → first_operand (form.Address p t) ≡ None
unfolding first_operand shape-the_row-Expr-0 hidden-the_row-Expr-0 shape-the_row-Expr-1 hidden-the_row-Expr-1 shape-the_row-Place_-2 hidden-the_row-Place_-2 hidden
first-Address p t = refl

pub first-Move : (e : Expr) (f : Expr) (n : ℕ) (s : Side) → first_operand (form.Move e f n s) ≡ None
unfolding first_operand shape-the_row-Expr-0 hidden-the_row-Expr-0 shape-the_row-Expr-1 hidden-the_row-Expr-1 shape-the_row-Place_-2 hidden-the_row-Place_-2 hidden
first-Move e f n s = refl

pub first-Difference : (e : Expr) (f : Expr) (n : ℕ) → first_operand (form.Difference e f n) ≡ None
unfolding first_operand shape-the_row-Expr-0 hidden-the_row-Expr-0 shape-the_row-Expr-1 hidden-the_row-Expr-1 shape-the_row-Place_-2 hidden-the_row-Place_-2 hidden
first-Difference e f n = refl

pub first-Assign : (p : Place_) (t : CType) (e : Expr) → first_operand (form.Assign p t e) ≡ None
unfolding first_operand shape-the_row-Expr-0 hidden-the_row-Expr-0 shape-the_row-Expr-1 hidden-the_row-Expr-1 shape-the_row-Place_-2 hidden-the_row-Place_-2 hidden
first-Assign p t e = refl

pub first-Update : (p : Place_) (t : CType) (u : UpdateOp) (e : Expr) (w : Answer) → first_operand (form.Update p t u e w) ≡ None
unfolding first_operand shape-the_row-Expr-0 hidden-the_row-Expr-0 shape-the_row-Expr-1 hidden-the_row-Expr-1 shape-the_row-Place_-2 hidden-the_row-Place_-2 hidden
first-Update p t u e w = refl

pub first-Invoke : (n : ℕ) (es : List Expr) → first_operand (form.Invoke n es) ≡ None
unfolding first_operand shape-the_row-Expr-0 hidden-the_row-Expr-0 shape-the_row-Expr-1 hidden-the_row-Expr-1 shape-the_row-Place_-2 hidden-the_row-Place_-2 hidden
first-Invoke n es = refl

pub first-GetChar : first_operand form.GetChar ≡ None
unfolding first_operand shape-the_row-Expr-0 hidden-the_row-Expr-0 shape-the_row-Expr-1 hidden-the_row-Expr-1 shape-the_row-Place_-2 hidden-the_row-Place_-2 hidden
first-GetChar = refl

pub first-PutChar : (e : Expr) → first_operand (form.PutChar e) ≡ None
unfolding first_operand shape-the_row-Expr-0 hidden-the_row-Expr-0 shape-the_row-Expr-1 hidden-the_row-Expr-1 shape-the_row-Place_-2 hidden-the_row-Place_-2 hidden
first-PutChar e = refl

pub first-Malloc : (e : Expr) (t : CType) → first_operand (form.Malloc e t) ≡ None
unfolding first_operand shape-the_row-Expr-0 hidden-the_row-Expr-0 shape-the_row-Expr-1 hidden-the_row-Expr-1 shape-the_row-Place_-2 hidden-the_row-Place_-2 hidden
first-Malloc e t = refl

pub first-Free : (e : Expr) → first_operand (form.Free e) ≡ None
unfolding first_operand shape-the_row-Expr-0 hidden-the_row-Expr-0 shape-the_row-Expr-1 hidden-the_row-Expr-1 shape-the_row-Place_-2 hidden-the_row-Place_-2 hidden
first-Free e = refl

pub first-Discard : (e : Expr) → first_operand (form.Discard e) ≡ None
unfolding first_operand shape-the_row-Expr-0 hidden-the_row-Expr-0 shape-the_row-Expr-1 hidden-the_row-Expr-1 shape-the_row-Place_-2 hidden-the_row-Place_-2 hidden
first-Discard e = refl

pub ruleset first_forms = (first-Literal, first-Convert, first-Unary, first-Binary, first-Compare, first-Not, first-Both, first-Either, first-Choose, first-Null, first-Load, first-Address, first-Move, first-Difference, first-Assign, first-Update, first-Invoke, first-GetChar, first-PutChar, first-Malloc, first-Free, first-Discard)

-- ---- whether the others are constant

pub others-Literal : (k : IntKind) (z : ℤ) → others_constant (form.Literal k z) ≡ true
unfolding others_constant shape-the_row-Expr-0 hidden-the_row-Expr-0 shape-the_row-Expr-1 hidden-the_row-Expr-1 shape-the_row-Place_-2 hidden-the_row-Place_-2 hidden
others-Literal k z = refl

pub others-Convert : (k : IntKind) (e : Expr) → others_constant (form.Convert k e) ≡ true
unfolding others_constant shape-the_row-Expr-0 hidden-the_row-Expr-0 shape-the_row-Expr-1 hidden-the_row-Expr-1 shape-the_row-Place_-2 hidden-the_row-Place_-2 hidden
others-Convert k e = refl

pub others-Unary : (o : UnaryOp) (k : IntKind) (e : Expr) → others_constant (form.Unary o k e) ≡ true
unfolding others_constant shape-the_row-Expr-0 hidden-the_row-Expr-0 shape-the_row-Expr-1 hidden-the_row-Expr-1 shape-the_row-Place_-2 hidden-the_row-Place_-2 hidden
others-Unary o k e = refl

pub others-Binary : (o : IntOp) (k : IntKind) (e : Expr) (f : Expr) → others_constant (form.Binary o k e f) ≡ is_constant f
unfolding others_constant shape-the_row-Expr-0 hidden-the_row-Expr-0 shape-the_row-Expr-1 hidden-the_row-Expr-1 shape-the_row-Place_-2 hidden-the_row-Place_-2 hidden
others-Binary o k e f = refl

pub others-Compare : (o : CompareOp) (e : Expr) (f : Expr) → others_constant (form.Compare o e f) ≡ is_constant f
unfolding others_constant shape-the_row-Expr-0 hidden-the_row-Expr-0 shape-the_row-Expr-1 hidden-the_row-Expr-1 shape-the_row-Place_-2 hidden-the_row-Place_-2 hidden
others-Compare o e f = refl

pub others-Not : (e : Expr) → others_constant (form.Not e) ≡ true
unfolding others_constant shape-the_row-Expr-0 hidden-the_row-Expr-0 shape-the_row-Expr-1 hidden-the_row-Expr-1 shape-the_row-Place_-2 hidden-the_row-Place_-2 hidden
others-Not e = refl

pub others-Both : (e : Expr) (f : Expr) → others_constant (form.Both e f) ≡ is_constant f
unfolding others_constant shape-the_row-Expr-0 hidden-the_row-Expr-0 shape-the_row-Expr-1 hidden-the_row-Expr-1 shape-the_row-Place_-2 hidden-the_row-Place_-2 hidden
others-Both e f = refl

pub others-Either : (e : Expr) (f : Expr) → others_constant (form.Either e f) ≡ is_constant f
unfolding others_constant shape-the_row-Expr-0 hidden-the_row-Expr-0 shape-the_row-Expr-1 hidden-the_row-Expr-1 shape-the_row-Place_-2 hidden-the_row-Place_-2 hidden
others-Either e f = refl

pub others-Choose : (e : Expr) (f : Expr) (g : Expr) → others_constant (form.Choose e f g) ≡ (is_constant f && is_constant g)
unfolding others_constant shape-the_row-Expr-0 hidden-the_row-Expr-0 shape-the_row-Expr-1 hidden-the_row-Expr-1 shape-the_row-Place_-2 hidden-the_row-Place_-2 hidden
others-Choose e f g = refl

pub others-Null : others_constant form.Null ≡ false
unfolding others_constant shape-the_row-Expr-0 hidden-the_row-Expr-0 shape-the_row-Expr-1 hidden-the_row-Expr-1 shape-the_row-Place_-2 hidden-the_row-Place_-2 hidden
others-Null = refl

pub others-Load : (p : Place_) (t : CType) → others_constant (form.Load p t) ≡ false
unfolding others_constant shape-the_row-Expr-0 hidden-the_row-Expr-0 shape-the_row-Expr-1 hidden-the_row-Expr-1 shape-the_row-Place_-2 hidden-the_row-Place_-2 hidden
others-Load p t = refl

pub others-Address : (p : Place_) (t : CType) → others_constant (form.Address p t) ≡ false
unfolding others_constant shape-the_row-Expr-0 hidden-the_row-Expr-0 shape-the_row-Expr-1 hidden-the_row-Expr-1 shape-the_row-Place_-2 hidden-the_row-Place_-2 hidden
others-Address p t = refl

pub others-Move : (e : Expr) (f : Expr) (n : ℕ) (s : Side) → others_constant (form.Move e f n s) ≡ false
unfolding others_constant shape-the_row-Expr-0 hidden-the_row-Expr-0 shape-the_row-Expr-1 hidden-the_row-Expr-1 shape-the_row-Place_-2 hidden-the_row-Place_-2 hidden
others-Move e f n s = refl

pub others-Difference : (e : Expr) (f : Expr) (n : ℕ) → others_constant (form.Difference e f n) ≡ false
unfolding others_constant shape-the_row-Expr-0 hidden-the_row-Expr-0 shape-the_row-Expr-1 hidden-the_row-Expr-1 shape-the_row-Place_-2 hidden-the_row-Place_-2 hidden
others-Difference e f n = refl

pub others-Assign : (p : Place_) (t : CType) (e : Expr) → others_constant (form.Assign p t e) ≡ false
unfolding others_constant shape-the_row-Expr-0 hidden-the_row-Expr-0 shape-the_row-Expr-1 hidden-the_row-Expr-1 shape-the_row-Place_-2 hidden-the_row-Place_-2 hidden
others-Assign p t e = refl

pub others-Update : (p : Place_) (t : CType) (u : UpdateOp) (e : Expr) (w : Answer) → others_constant (form.Update p t u e w) ≡ false
unfolding others_constant shape-the_row-Expr-0 hidden-the_row-Expr-0 shape-the_row-Expr-1 hidden-the_row-Expr-1 shape-the_row-Place_-2 hidden-the_row-Place_-2 hidden
others-Update p t u e w = refl

pub others-Invoke : (n : ℕ) (es : List Expr) → others_constant (form.Invoke n es) ≡ false
unfolding others_constant shape-the_row-Expr-0 hidden-the_row-Expr-0 shape-the_row-Expr-1 hidden-the_row-Expr-1 shape-the_row-Place_-2 hidden-the_row-Place_-2 hidden
others-Invoke n es = refl

pub others-GetChar : others_constant form.GetChar ≡ false
unfolding others_constant shape-the_row-Expr-0 hidden-the_row-Expr-0 shape-the_row-Expr-1 hidden-the_row-Expr-1 shape-the_row-Place_-2 hidden-the_row-Place_-2 hidden
others-GetChar = refl

pub others-PutChar : (e : Expr) → others_constant (form.PutChar e) ≡ false
unfolding others_constant shape-the_row-Expr-0 hidden-the_row-Expr-0 shape-the_row-Expr-1 hidden-the_row-Expr-1 shape-the_row-Place_-2 hidden-the_row-Place_-2 hidden
others-PutChar e = refl

pub others-Malloc : (e : Expr) (t : CType) → others_constant (form.Malloc e t) ≡ false
unfolding others_constant shape-the_row-Expr-0 hidden-the_row-Expr-0 shape-the_row-Expr-1 hidden-the_row-Expr-1 shape-the_row-Place_-2 hidden-the_row-Place_-2 hidden
others-Malloc e t = refl

pub others-Free : (e : Expr) → others_constant (form.Free e) ≡ false
unfolding others_constant shape-the_row-Expr-0 hidden-the_row-Expr-0 shape-the_row-Expr-1 hidden-the_row-Expr-1 shape-the_row-Place_-2 hidden-the_row-Place_-2 hidden
others-Free e = refl

pub others-Discard : (e : Expr) → others_constant (form.Discard e) ≡ false
unfolding others_constant shape-the_row-Expr-0 hidden-the_row-Expr-0 shape-the_row-Expr-1 hidden-the_row-Expr-1 shape-the_row-Place_-2 hidden-the_row-Place_-2 hidden
others-Discard e = refl

pub ruleset others_forms = (others-Literal, others-Convert, others-Unary, others-Binary, others-Compare, others-Not, others-Both, others-Either, others-Choose, others-Null, others-Load, others-Address, others-Move, others-Difference, others-Assign, others-Update, others-Invoke, others-GetChar, others-PutChar, others-Malloc, others-Free, others-Discard)

-- ---- values from that of the first operand

pub after-Literal : (k : IntKind) (z : ℤ) (a : Option ℤ) → value_after (form.Literal k z) a ≡ Some z
unfolding value_after shape-the_row-Expr-0 hidden-the_row-Expr-0 shape-the_row-Expr-1 hidden-the_row-Expr-1 shape-the_row-Place_-2 hidden-the_row-Place_-2 hidden
after-Literal k z a = refl

pub after-Convert : (k : IntKind) (e : Expr) (a : Option ℤ) → value_after (form.Convert k e) a ≡ converted_value k a
unfolding value_after shape-the_row-Expr-0 hidden-the_row-Expr-0 shape-the_row-Expr-1 hidden-the_row-Expr-1 shape-the_row-Place_-2 hidden-the_row-Place_-2 hidden
after-Convert k e a = refl

pub after-Unary : (o : UnaryOp) (k : IntKind) (e : Expr) (a : Option ℤ) → value_after (form.Unary o k e) a ≡ unary_value o k a
unfolding value_after shape-the_row-Expr-0 hidden-the_row-Expr-0 shape-the_row-Expr-1 hidden-the_row-Expr-1 shape-the_row-Place_-2 hidden-the_row-Place_-2 hidden
after-Unary o k e a = refl

pub after-Binary : (o : IntOp) (k : IntKind) (e : Expr) (f : Expr) (a : Option ℤ) → value_after (form.Binary o k e f) a ≡ binary_value o k a (value_of f)
unfolding value_after shape-the_row-Expr-0 hidden-the_row-Expr-0 shape-the_row-Expr-1 hidden-the_row-Expr-1 shape-the_row-Place_-2 hidden-the_row-Place_-2 hidden
after-Binary o k e f a = refl

pub after-Compare : (o : CompareOp) (e : Expr) (f : Expr) (a : Option ℤ) → value_after (form.Compare o e f) a ≡ compared_value o a (value_of f)
unfolding value_after shape-the_row-Expr-0 hidden-the_row-Expr-0 shape-the_row-Expr-1 hidden-the_row-Expr-1 shape-the_row-Place_-2 hidden-the_row-Place_-2 hidden
after-Compare o e f a = refl

pub after-Not : (e : Expr) (a : Option ℤ) → value_after (form.Not e) a ≡ negated_value a
unfolding value_after shape-the_row-Expr-0 hidden-the_row-Expr-0 shape-the_row-Expr-1 hidden-the_row-Expr-1 shape-the_row-Place_-2 hidden-the_row-Place_-2 hidden
after-Not e a = refl

pub after-Both : (e : Expr) (f : Expr) (a : Option ℤ) → value_after (form.Both e f) a ≡ both_value a (value_of f)
unfolding value_after shape-the_row-Expr-0 hidden-the_row-Expr-0 shape-the_row-Expr-1 hidden-the_row-Expr-1 shape-the_row-Place_-2 hidden-the_row-Place_-2 hidden
after-Both e f a = refl

pub after-Either : (e : Expr) (f : Expr) (a : Option ℤ) → value_after (form.Either e f) a ≡ either_value a (value_of f)
unfolding value_after shape-the_row-Expr-0 hidden-the_row-Expr-0 shape-the_row-Expr-1 hidden-the_row-Expr-1 shape-the_row-Place_-2 hidden-the_row-Place_-2 hidden
after-Either e f a = refl

pub after-Choose : (e : Expr) (f : Expr) (g : Expr) (a : Option ℤ) → value_after (form.Choose e f g) a ≡ chosen_value a (value_of f) (value_of g)
unfolding value_after shape-the_row-Expr-0 hidden-the_row-Expr-0 shape-the_row-Expr-1 hidden-the_row-Expr-1 shape-the_row-Place_-2 hidden-the_row-Place_-2 hidden
after-Choose e f g a = refl

pub after-Null : (a : Option ℤ) → value_after form.Null a ≡ None
unfolding value_after shape-the_row-Expr-0 hidden-the_row-Expr-0 shape-the_row-Expr-1 hidden-the_row-Expr-1 shape-the_row-Place_-2 hidden-the_row-Place_-2 hidden
after-Null a = refl

pub after-Load : (p : Place_) (t : CType) (a : Option ℤ) → value_after (form.Load p t) a ≡ None
unfolding value_after shape-the_row-Expr-0 hidden-the_row-Expr-0 shape-the_row-Expr-1 hidden-the_row-Expr-1 shape-the_row-Place_-2 hidden-the_row-Place_-2 hidden
after-Load p t a = refl

pub after-Address : (p : Place_) (t : CType) (a : Option ℤ) → value_after (form.Address p t) a ≡ None
unfolding value_after shape-the_row-Expr-0 hidden-the_row-Expr-0 shape-the_row-Expr-1 hidden-the_row-Expr-1 shape-the_row-Place_-2 hidden-the_row-Place_-2 hidden
after-Address p t a = refl

pub after-Move : (e : Expr) (f : Expr) (n : ℕ) (s : Side) (a : Option ℤ) → value_after (form.Move e f n s) a ≡ None
unfolding value_after shape-the_row-Expr-0 hidden-the_row-Expr-0 shape-the_row-Expr-1 hidden-the_row-Expr-1 shape-the_row-Place_-2 hidden-the_row-Place_-2 hidden
after-Move e f n s a = refl

pub after-Difference : (e : Expr) (f : Expr) (n : ℕ) (a : Option ℤ) → value_after (form.Difference e f n) a ≡ None
unfolding value_after shape-the_row-Expr-0 hidden-the_row-Expr-0 shape-the_row-Expr-1 hidden-the_row-Expr-1 shape-the_row-Place_-2 hidden-the_row-Place_-2 hidden
after-Difference e f n a = refl

pub after-Assign : (p : Place_) (t : CType) (e : Expr) (a : Option ℤ) → value_after (form.Assign p t e) a ≡ None
unfolding value_after shape-the_row-Expr-0 hidden-the_row-Expr-0 shape-the_row-Expr-1 hidden-the_row-Expr-1 shape-the_row-Place_-2 hidden-the_row-Place_-2 hidden
after-Assign p t e a = refl

pub after-Update : (p : Place_) (t : CType) (u : UpdateOp) (e : Expr) (w : Answer) (a : Option ℤ) → value_after (form.Update p t u e w) a ≡ None
unfolding value_after shape-the_row-Expr-0 hidden-the_row-Expr-0 shape-the_row-Expr-1 hidden-the_row-Expr-1 shape-the_row-Place_-2 hidden-the_row-Place_-2 hidden
after-Update p t u e w a = refl

pub after-Invoke : (n : ℕ) (es : List Expr) (a : Option ℤ) → value_after (form.Invoke n es) a ≡ None
unfolding value_after shape-the_row-Expr-0 hidden-the_row-Expr-0 shape-the_row-Expr-1 hidden-the_row-Expr-1 shape-the_row-Place_-2 hidden-the_row-Place_-2 hidden
after-Invoke n es a = refl

pub after-GetChar : (a : Option ℤ) → value_after form.GetChar a ≡ None
unfolding value_after shape-the_row-Expr-0 hidden-the_row-Expr-0 shape-the_row-Expr-1 hidden-the_row-Expr-1 shape-the_row-Place_-2 hidden-the_row-Place_-2 hidden
after-GetChar a = refl

pub after-PutChar : (e : Expr) (a : Option ℤ) → value_after (form.PutChar e) a ≡ None
unfolding value_after shape-the_row-Expr-0 hidden-the_row-Expr-0 shape-the_row-Expr-1 hidden-the_row-Expr-1 shape-the_row-Place_-2 hidden-the_row-Place_-2 hidden
after-PutChar e a = refl

pub after-Malloc : (e : Expr) (t : CType) (a : Option ℤ) → value_after (form.Malloc e t) a ≡ None
unfolding value_after shape-the_row-Expr-0 hidden-the_row-Expr-0 shape-the_row-Expr-1 hidden-the_row-Expr-1 shape-the_row-Place_-2 hidden-the_row-Place_-2 hidden
after-Malloc e t a = refl

pub after-Free : (e : Expr) (a : Option ℤ) → value_after (form.Free e) a ≡ None
unfolding value_after shape-the_row-Expr-0 hidden-the_row-Expr-0 shape-the_row-Expr-1 hidden-the_row-Expr-1 shape-the_row-Place_-2 hidden-the_row-Place_-2 hidden
after-Free e a = refl

pub after-Discard : (e : Expr) (a : Option ℤ) → value_after (form.Discard e) a ≡ None
unfolding value_after shape-the_row-Expr-0 hidden-the_row-Expr-0 shape-the_row-Expr-1 hidden-the_row-Expr-1 shape-the_row-Place_-2 hidden-the_row-Place_-2 hidden
after-Discard e a = refl

pub ruleset after_forms = (after-Literal, after-Convert, after-Unary, after-Binary, after-Compare, after-Not, after-Both, after-Either, after-Choose, after-Null, after-Load, after-Address, after-Move, after-Difference, after-Assign, after-Update, after-Invoke, after-GetChar, after-PutChar, after-Malloc, after-Free, after-Discard)
