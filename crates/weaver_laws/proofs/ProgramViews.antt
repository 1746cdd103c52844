-- Values of terms that point into the program, and the cells that locations at them denote.
use Rattle.std.proofs.Common.{ℕ, Bool, true, false, cond, Option, Some, None}
use Rattle.std.specs.Prelude.{ℤ, pos, ◌*ℤ◌, neg_ℤ, option_map}
use Rattle.step_meaning.specs.declared.expr.IntOp.{IntOp}
use Rattle.step_meaning.specs.declared.expr.IntOp.TheVariants as op
use Rattle.step_meaning.specs.Numbers.{is_zero}
use Rattle.step_meaning.specs.Views.{Sight}
use Rattle.step_meaning.specs.Terms.{TermValue, Number, NullPointer, PointerInto, term_value, with_number, with_value, term_operation, term_moved, parameter_at, result_at, unless_zero}
use Rattle.weaver_laws.proofs.InsideMemories.{TermInside}

-- ---- values that point into the program

pub negated_inside : (v : Option TermValue) → TermInside (with_number v (λ x. Some (Number (neg_ℤ x))))
negated_inside None = tt
negated_inside (Some (Number z)) = tt
negated_inside (Some NullPointer) = tt
negated_inside (Some (PointerInto n o)) = tt

divided_inside : (d z : ℤ) → TermInside (unless_zero d z)
divided_inside d z = by (is_zero d)
  where
    by : (b : Bool) → TermInside (cond b None (Some (Number z)))
    by true = tt
    by false = tt

operation_inside : (o : IntOp) (x y : ℤ) → TermInside (term_operation o x y)
operation_inside op.Add x y = tt
operation_inside op.Sub x y = tt
operation_inside op.Mul x y = tt
operation_inside op.Div x y = divided_inside y _
operation_inside op.Rem x y = divided_inside y _
operation_inside op.Shl x y = tt
operation_inside op.Shr x y = tt
operation_inside op.And x y = tt
operation_inside op.Or x y = tt
operation_inside op.Xor x y = tt

pub operated_inside : (o : IntOp) (v y : Option TermValue) → TermInside (with_number v (λ x. with_number y (λ z. term_operation o x z)))
operated_inside o None y = tt
operated_inside o (Some NullPointer) y = tt
operated_inside o (Some (PointerInto n k)) y = tt
operated_inside o (Some (Number x)) None = tt
operated_inside o (Some (Number x)) (Some NullPointer) = tt
operated_inside o (Some (Number x)) (Some (PointerInto n k)) = tt
operated_inside o (Some (Number x)) (Some (Number y)) = operation_inside o x y

null_inside : (by : ℤ) → TermInside (term_moved by NullPointer)
null_inside by = of (is_zero by)
  where
    of : (b : Bool) → TermInside (cond b (Some NullPointer) None)
    of true = tt
    of false = tt

pub moved_inside : (v y : Option TermValue) (size : ℕ) → TermInside v → TermInside (with_value v (λ x. with_number y (λ i. term_moved (i *ℤ pos size) x)))
moved_inside None y size h = tt
moved_inside (Some x) None size h = tt
moved_inside (Some x) (Some NullPointer) size h = tt
moved_inside (Some x) (Some (PointerInto n k)) size h = tt
moved_inside (Some (Number z)) (Some (Number i)) size h = tt
moved_inside (Some NullPointer) (Some (Number i)) size h = null_inside (i *ℤ pos size)
moved_inside (Some (PointerInto n o)) (Some (Number i)) size h = h

pub member_inside : (v : Option TermValue) (o : ℕ) → TermInside v → TermInside (with_value v (term_moved (pos o)))
member_inside None o h = tt
member_inside (Some (Number z)) o h = tt
member_inside (Some NullPointer) o h = null_inside (pos o)
member_inside (Some (PointerInto n k)) o h = h

-- the parts of a step point into the program
pub record PartsInside (s : Sight) : Type 0 where
  pub accessed : TermInside (option_map term_value s.accessed)
  pub parameter : (f i : ℕ) → TermInside (parameter_at s.event f s.arguments i)
  pub result : (f : ℕ) → TermInside (result_at s.event f s.result)
