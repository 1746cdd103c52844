-- The room of each form of expression and lvalue, at the variants that code sees.
use Rattle.std.proofs.Common.{◌≡◌, ℕ, ◌+◌, max, refl, ap, List, [], ◌∷◌}
use Rattle.std.specs.Prelude.{ℤ}
use denote.Hole.Carrier.{hidden}
use Rattle.step_meaning.specs.declared.value.IntKind.{IntKind}
use Rattle.step_meaning.specs.declared.value.CType.{CType}
use Rattle.step_meaning.specs.declared.expr.IntOp.{IntOp}
use Rattle.step_meaning.specs.declared.expr.UnaryOp.{UnaryOp}
use Rattle.step_meaning.specs.declared.expr.CompareOp.{CompareOp}
use Rattle.step_meaning.specs.declared.expr.UpdateOp.{UpdateOp}
use Rattle.step_meaning.specs.declared.expr.Variable.{Variable}
use Rattle.step_meaning.specs.declared.expr.Side.{Side}
use Rattle.step_meaning.specs.declared.expr.Answer.{Answer}
use Rattle.step_meaning.specs.declared.expr.Expr.{Expr}
use Rattle.step_meaning.specs.declared.expr.Expr.TheVariants as e
use Rattle.step_meaning.specs.declared.expr.Expr.TheBlock.{shape-the_row-Expr-0, hidden-the_row-Expr-0, shape-the_row-Expr-1, hidden-the_row-Expr-1, shape-the_row-Place_-2, hidden-the_row-Place_-2}
use Rattle.step_meaning.specs.declared.expr.Place_.{Place_}
use Rattle.step_meaning.specs.declared.expr.Place_.TheVariants as place
use Rattle.run_turns.specs.Room.{depth, depth_place, depth_row, depth_all}

row_depth : (es : List Expr) → depth_row (hidden-the_row-Expr-1 es) ≡ depth_all es
unfolding shape-the_row-Expr-1 hidden-the_row-Expr-1 hidden
row_depth [] = refl
row_depth (e ∷ es) = ap (λ n. max (depth e + 1) (n + 1)) (row_depth es)

pub depth-Literal : (k : IntKind) (z : ℤ) → depth (e.Literal k z) ≡ 3
unfolding shape-the_row-Expr-0 hidden-the_row-Expr-0 shape-the_row-Expr-1 hidden-the_row-Expr-1 shape-the_row-Place_-2 hidden-the_row-Place_-2 hidden
depth-Literal k z = refl

pub depth-Null : depth (e.Null) ≡ 3
unfolding shape-the_row-Expr-0 hidden-the_row-Expr-0 shape-the_row-Expr-1 hidden-the_row-Expr-1 shape-the_row-Place_-2 hidden-the_row-Place_-2 hidden
depth-Null = refl

pub depth-Load : (p : Place_) (t : CType) → depth (e.Load p t) ≡ depth_place p + 1
unfolding shape-the_row-Expr-0 hidden-the_row-Expr-0 shape-the_row-Expr-1 hidden-the_row-Expr-1 shape-the_row-Place_-2 hidden-the_row-Place_-2 hidden
depth-Load p t = refl

pub depth-Address : (p : Place_) (t : CType) → depth (e.Address p t) ≡ depth_place p + 1
unfolding shape-the_row-Expr-0 hidden-the_row-Expr-0 shape-the_row-Expr-1 hidden-the_row-Expr-1 shape-the_row-Place_-2 hidden-the_row-Place_-2 hidden
depth-Address p t = refl

pub depth-Convert : (k : IntKind) (a : Expr) → depth (e.Convert k a) ≡ depth a + 1
unfolding shape-the_row-Expr-0 hidden-the_row-Expr-0 shape-the_row-Expr-1 hidden-the_row-Expr-1 shape-the_row-Place_-2 hidden-the_row-Place_-2 hidden
depth-Convert k a = refl

pub depth-Unary : (o : UnaryOp) (k : IntKind) (a : Expr) → depth (e.Unary o k a) ≡ depth a + 1
unfolding shape-the_row-Expr-0 hidden-the_row-Expr-0 shape-the_row-Expr-1 hidden-the_row-Expr-1 shape-the_row-Place_-2 hidden-the_row-Place_-2 hidden
depth-Unary o k a = refl

pub depth-Binary : (o : IntOp) (k : IntKind) (a b : Expr) → depth (e.Binary o k a b) ≡ max (depth a) (depth b) + 1
unfolding shape-the_row-Expr-0 hidden-the_row-Expr-0 shape-the_row-Expr-1 hidden-the_row-Expr-1 shape-the_row-Place_-2 hidden-the_row-Place_-2 hidden
depth-Binary o k a b = refl

pub depth-Compare : (o : CompareOp) (a b : Expr) → depth (e.Compare o a b) ≡ max (depth a) (depth b) + 1
unfolding shape-the_row-Expr-0 hidden-the_row-Expr-0 shape-the_row-Expr-1 hidden-the_row-Expr-1 shape-the_row-Place_-2 hidden-the_row-Place_-2 hidden
depth-Compare o a b = refl

pub depth-Move : (a b : Expr) (size : ℕ) (side : Side) → depth (e.Move a b size side) ≡ max (depth a) (depth b) + 1
unfolding shape-the_row-Expr-0 hidden-the_row-Expr-0 shape-the_row-Expr-1 hidden-the_row-Expr-1 shape-the_row-Place_-2 hidden-the_row-Place_-2 hidden
depth-Move a b size side = refl

pub depth-Difference : (a b : Expr) (unit : ℕ) → depth (e.Difference a b unit) ≡ max (depth a) (depth b) + 1
unfolding shape-the_row-Expr-0 hidden-the_row-Expr-0 shape-the_row-Expr-1 hidden-the_row-Expr-1 shape-the_row-Place_-2 hidden-the_row-Place_-2 hidden
depth-Difference a b unit = refl

pub depth-Not : (a : Expr) → depth (e.Not a) ≡ depth a + 1
unfolding shape-the_row-Expr-0 hidden-the_row-Expr-0 shape-the_row-Expr-1 hidden-the_row-Expr-1 shape-the_row-Place_-2 hidden-the_row-Place_-2 hidden
depth-Not a = refl

pub depth-Both : (a b : Expr) → depth (e.Both a b) ≡ max (depth a) (depth b) + 1
unfolding shape-the_row-Expr-0 hidden-the_row-Expr-0 shape-the_row-Expr-1 hidden-the_row-Expr-1 shape-the_row-Place_-2 hidden-the_row-Place_-2 hidden
depth-Both a b = refl

pub depth-Either : (a b : Expr) → depth (e.Either a b) ≡ max (depth a) (depth b) + 1
unfolding shape-the_row-Expr-0 hidden-the_row-Expr-0 shape-the_row-Expr-1 hidden-the_row-Expr-1 shape-the_row-Place_-2 hidden-the_row-Place_-2 hidden
depth-Either a b = refl

pub depth-Choose : (a b c : Expr) → depth (e.Choose a b c) ≡ max (depth a) (max (depth b) (depth c)) + 1
unfolding shape-the_row-Expr-0 hidden-the_row-Expr-0 shape-the_row-Expr-1 hidden-the_row-Expr-1 shape-the_row-Place_-2 hidden-the_row-Place_-2 hidden
depth-Choose a b c = refl

pub depth-Assign : (p : Place_) (t : CType) (a : Expr) → depth (e.Assign p t a) ≡ max (depth_place p) (depth a) + 1
unfolding shape-the_row-Expr-0 hidden-the_row-Expr-0 shape-the_row-Expr-1 hidden-the_row-Expr-1 shape-the_row-Place_-2 hidden-the_row-Place_-2 hidden
depth-Assign p t a = refl

pub depth-Update : (p : Place_) (t : CType) (o : UpdateOp) (a : Expr) (w : Answer) → depth (e.Update p t o a w) ≡ max (depth_place p) (depth a) + 1
unfolding shape-the_row-Expr-0 hidden-the_row-Expr-0 shape-the_row-Expr-1 hidden-the_row-Expr-1 shape-the_row-Place_-2 hidden-the_row-Place_-2 hidden
depth-Update p t o a w = refl

pub depth-Invoke : (f : ℕ) (es : List Expr) → depth (e.Invoke f es) ≡ depth_all es
unfolding shape-the_row-Expr-0 hidden-the_row-Expr-0 shape-the_row-Expr-1 hidden-the_row-Expr-1 shape-the_row-Place_-2 hidden-the_row-Place_-2 hidden
depth-Invoke f es = row_depth es

pub depth-GetChar : depth (e.GetChar) ≡ 3
unfolding shape-the_row-Expr-0 hidden-the_row-Expr-0 shape-the_row-Expr-1 hidden-the_row-Expr-1 shape-the_row-Place_-2 hidden-the_row-Place_-2 hidden
depth-GetChar = refl

pub depth-PutChar : (a : Expr) → depth (e.PutChar a) ≡ depth a + 1
unfolding shape-the_row-Expr-0 hidden-the_row-Expr-0 shape-the_row-Expr-1 hidden-the_row-Expr-1 shape-the_row-Place_-2 hidden-the_row-Place_-2 hidden
depth-PutChar a = refl

pub depth-Malloc : (a : Expr) (t : CType) → depth (e.Malloc a t) ≡ depth a + 1
unfolding shape-the_row-Expr-0 hidden-the_row-Expr-0 shape-the_row-Expr-1 hidden-the_row-Expr-1 shape-the_row-Place_-2 hidden-the_row-Place_-2 hidden
depth-Malloc a t = refl

pub depth-Free : (a : Expr) → depth (e.Free a) ≡ depth a + 1
unfolding shape-the_row-Expr-0 hidden-the_row-Expr-0 shape-the_row-Expr-1 hidden-the_row-Expr-1 shape-the_row-Place_-2 hidden-the_row-Place_-2 hidden
depth-Free a = refl

pub depth-Discard : (a : Expr) → depth (e.Discard a) ≡ depth a + 1
unfolding shape-the_row-Expr-0 hidden-the_row-Expr-0 shape-the_row-Expr-1 hidden-the_row-Expr-1 shape-the_row-Place_-2 hidden-the_row-Place_-2 hidden
depth-Discard a = refl

pub ruleset depth_forms = (depth-Literal, depth-Null, depth-Load, depth-Address, depth-Convert, depth-Unary, depth-Binary, depth-Compare, depth-Move, depth-Difference, depth-Not, depth-Both, depth-Either, depth-Choose, depth-Assign, depth-Update, depth-Invoke, depth-GetChar, depth-PutChar, depth-Malloc, depth-Free, depth-Discard)

pub place-Own : (v : Variable) → depth_place (place.Own v) ≡ 3
unfolding shape-the_row-Expr-0 hidden-the_row-Expr-0 shape-the_row-Expr-1 hidden-the_row-Expr-1 shape-the_row-Place_-2 hidden-the_row-Place_-2 hidden
place-Own v = refl

pub place-Deref : (e : Expr) → depth_place (place.Deref e) ≡ depth e + 1
unfolding shape-the_row-Expr-0 hidden-the_row-Expr-0 shape-the_row-Expr-1 hidden-the_row-Expr-1 shape-the_row-Place_-2 hidden-the_row-Place_-2 hidden
place-Deref e = refl

pub place-Member : (p : Place_) (o : ℕ) → depth_place (place.Member p o) ≡ depth_place p + 1
unfolding shape-the_row-Expr-0 hidden-the_row-Expr-0 shape-the_row-Expr-1 hidden-the_row-Expr-1 shape-the_row-Place_-2 hidden-the_row-Place_-2 hidden
place-Member p o = refl

pub place-Index : (p : Place_) (e : Expr) (size : ℕ) → depth_place (place.Index p e size) ≡ max (depth_place p) (depth e) + 1
unfolding shape-the_row-Expr-0 hidden-the_row-Expr-0 shape-the_row-Expr-1 hidden-the_row-Expr-1 shape-the_row-Place_-2 hidden-the_row-Place_-2 hidden
place-Index p e size = refl

pub ruleset place_forms = (place-Own, place-Deref, place-Member, place-Index)
