-- What a turn makes of each form of expression and lvalue, at the variants that code sees.
use Rattle.std.proofs.Common.{◌≡◌, ℕ, refl, ap, List, [], ◌∷◌}
use Rattle.step_meaning.specs.declared.value.IntKind.{IntKind}
use Rattle.step_meaning.specs.declared.value.CType.{CType}
use Rattle.step_meaning.specs.declared.expr.IntOp.{IntOp}
use Rattle.step_meaning.specs.declared.expr.UnaryOp.{UnaryOp}
use Rattle.step_meaning.specs.declared.expr.CompareOp.{CompareOp}
use Rattle.step_meaning.specs.declared.expr.UpdateOp.{UpdateOp}
use Rattle.step_meaning.specs.declared.expr.Answer.{Answer}
use Rattle.step_meaning.specs.declared.expr.Side.{Side}
use Rattle.step_meaning.specs.declared.expr.Expr.{Expr, items-the_row-Expr}
use Rattle.step_meaning.specs.declared.expr.Expr.TheVariants as e
use Rattle.step_meaning.specs.declared.expr.Expr.TheBlock.{shape-the_row-Expr-0, hidden-the_row-Expr-0, shape-the_row-Expr-1, hidden-the_row-Expr-1, shape-the_row-Place_-2, hidden-the_row-Place_-2}
use Rattle.step_meaning.specs.declared.expr.Place_.{Place_}
use denote.Hole.Carrier.{hidden}
use Rattle.run_turns.specs.Pending as pending
use Rattle.run_turns.specs.Turns.{Configuration, evaluated, located, pushed}

expressions_back : (es : List Expr) → items-the_row-Expr _ (hidden-the_row-Expr-1 es) ≡ es
unfolding shape-the_row-Expr-1 hidden-the_row-Expr-1 hidden
expressions_back [] = refl
expressions_back (e ∷ es) = ap (λ l. e ∷ l) (expressions_back es)

module _ (m : Configuration) where
  pub evaluated-Convert : (k : IntKind) (a : Expr) → evaluated (e.Convert k a) m ≡ pushed (pending.Evaluate a) (pushed (pending.Operate (pending.Convert k)) m)
  unfolding shape-the_row-Expr-0 hidden-the_row-Expr-0 hidden
  evaluated-Convert k a = refl

  pub evaluated-Unary : (o : UnaryOp) (k : IntKind) (a : Expr) → evaluated (e.Unary o k a) m ≡ pushed (pending.Evaluate a) (pushed (pending.Operate (pending.Unary o k)) m)
  unfolding shape-the_row-Expr-0 hidden-the_row-Expr-0 hidden
  evaluated-Unary o k a = refl

  pub evaluated-Binary : (o : IntOp) (k : IntKind) (a b : Expr) → evaluated (e.Binary o k a b) m ≡ pushed (pending.Evaluate a) (pushed (pending.Operate (pending.BinaryRight o k b)) m)
  unfolding shape-the_row-Expr-0 hidden-the_row-Expr-0 hidden
  evaluated-Binary o k a b = refl

  pub evaluated-Compare : (o : CompareOp) (a b : Expr) → evaluated (e.Compare o a b) m ≡ pushed (pending.Evaluate a) (pushed (pending.Operate (pending.CompareRight o b)) m)
  unfolding shape-the_row-Expr-0 hidden-the_row-Expr-0 hidden
  evaluated-Compare o a b = refl

  pub evaluated-Not : (a : Expr) → evaluated (e.Not a) m ≡ pushed (pending.Evaluate a) (pushed (pending.Operate pending.Negated) m)
  unfolding shape-the_row-Expr-0 hidden-the_row-Expr-0 hidden
  evaluated-Not a = refl

  pub evaluated-Both : (a b : Expr) → evaluated (e.Both a b) m ≡ pushed (pending.Evaluate a) (pushed (pending.Operate (pending.BothRight b)) m)
  unfolding shape-the_row-Expr-0 hidden-the_row-Expr-0 hidden
  evaluated-Both a b = refl

  pub evaluated-Either : (a b : Expr) → evaluated (e.Either a b) m ≡ pushed (pending.Evaluate a) (pushed (pending.Operate (pending.EitherRight b)) m)
  unfolding shape-the_row-Expr-0 hidden-the_row-Expr-0 hidden
  evaluated-Either a b = refl

  pub evaluated-Choose : (a b c : Expr) → evaluated (e.Choose a b c) m ≡ pushed (pending.Evaluate a) (pushed (pending.Operate (pending.Choose b c)) m)
  unfolding shape-the_row-Expr-0 hidden-the_row-Expr-0 hidden
  evaluated-Choose a b c = refl

  pub evaluated-Assign : (p : Place_) (t : CType) (a : Expr) → evaluated (e.Assign p t a) m ≡ pushed (pending.Locate p) (pushed (pending.Accessed (pending.AssignRight t a)) m)
  unfolding shape-the_row-Expr-0 hidden-the_row-Expr-0 hidden
  evaluated-Assign p t a = refl

  pub evaluated-Invoke : (f : ℕ) (es : List Expr) → evaluated (e.Invoke f es) m ≡ pushed (pending.Arguments f es 0) m
  unfolding shape-the_row-Expr-1 hidden-the_row-Expr-1 hidden
  evaluated-Invoke f es = ap (λ l. pushed (pending.Arguments f l 0) m) (expressions_back es)

  pub evaluated-PutChar : (a : Expr) → evaluated (e.PutChar a) m ≡ pushed (pending.Evaluate a) (pushed pending.Output m)
  unfolding shape-the_row-Expr-0 hidden-the_row-Expr-0 hidden
  evaluated-PutChar a = refl

  pub evaluated-Discard : (a : Expr) → evaluated (e.Discard a) m ≡ pushed (pending.Evaluate a) (pushed (pending.Operate pending.Discard) m)
  unfolding shape-the_row-Expr-0 hidden-the_row-Expr-0 hidden
  evaluated-Discard a = refl

  pub located-Deref : (a : Expr) → located (e.Deref a) m ≡ pushed (pending.Evaluate a) (pushed (pending.Designate pending.Dereference) m)
  unfolding shape-the_row-Expr-0 hidden-the_row-Expr-0 hidden
  located-Deref a = refl

  pub evaluated-Move : (a b : Expr) (size : ℕ) (side : Side) → evaluated (e.Move a b size side) m ≡ pushed (pending.Evaluate a) (pushed (pending.Operate (pending.MoveRight size side b)) m)
  unfolding shape-the_row-Expr-0 hidden-the_row-Expr-0 hidden
  evaluated-Move a b size side = refl

  pub evaluated-Difference : (a b : Expr) (unit : ℕ) → evaluated (e.Difference a b unit) m ≡ pushed (pending.Evaluate a) (pushed (pending.Operate (pending.DifferenceRight unit b)) m)
  unfolding shape-the_row-Expr-0 hidden-the_row-Expr-0 hidden
  evaluated-Difference a b unit = refl

  pub evaluated-Update : (p : Place_) (t : CType) (o : UpdateOp) (a : Expr) (w : Answer) → evaluated (e.Update p t o a w) m ≡ pushed (pending.Locate p) (pushed (pending.Accessed (pending.UpdateOld t o a w)) m)
  unfolding shape-the_row-Expr-0 hidden-the_row-Expr-0 hidden
  evaluated-Update p t o a w = refl

  pub evaluated-Malloc : (a : Expr) (t : CType) → evaluated (e.Malloc a t) m ≡ pushed (pending.Evaluate a) (pushed (pending.Operate (pending.Allocate t)) m)
  unfolding shape-the_row-Expr-0 hidden-the_row-Expr-0 hidden
  evaluated-Malloc a t = refl

  pub evaluated-Free : (a : Expr) → evaluated (e.Free a) m ≡ pushed (pending.Evaluate a) (pushed (pending.Operate pending.Release) m)
  unfolding shape-the_row-Expr-0 hidden-the_row-Expr-0 hidden
  evaluated-Free a = refl

  pub located-Member : (p : Place_) (o : ℕ) → located (e.Member p o) m ≡ pushed (pending.Locate p) (pushed (pending.Select (pending.MemberAt o)) m)
  unfolding shape-the_row-Expr-0 hidden-the_row-Expr-0 shape-the_row-Place_-2 hidden-the_row-Place_-2 hidden
  located-Member p o = refl

  pub located-Index : (p : Place_) (a : Expr) (size : ℕ) → located (e.Index p a size) m ≡ pushed (pending.Locate p) (pushed (pending.Select (pending.ElementAt a size)) m)
  unfolding shape-the_row-Expr-0 hidden-the_row-Expr-0 shape-the_row-Place_-2 hidden-the_row-Place_-2 hidden
  located-Index p a size = refl

pub ruleset at_expressions = (evaluated-Convert, evaluated-Unary, evaluated-Binary, evaluated-Compare, evaluated-Not, evaluated-Both, evaluated-Either, evaluated-Choose, evaluated-Assign, evaluated-Invoke, evaluated-PutChar, evaluated-Discard, evaluated-Move, evaluated-Difference, evaluated-Update, evaluated-Malloc, evaluated-Free)

pub ruleset at_places = (located-Deref, located-Member, located-Index)
