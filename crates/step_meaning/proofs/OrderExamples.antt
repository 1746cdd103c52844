-- The order in which operands are evaluated, and what operators take of them, computed on small programs: each core is what the text above it stands for.
use Rattle.std.proofs.Common.{◌≡◌, ℕ, refl, List, [], ◌∷◌}
use Rattle.std.specs.Prelude.{pos, negsuc}
use Rattle.step_meaning.specs.declared.value.IntKind.TheVariants as kind
use Rattle.step_meaning.specs.declared.value.CType.{CType}
use Rattle.step_meaning.specs.declared.value.CType.TheVariants as type
use Rattle.step_meaning.specs.declared.value.NameKind.TheVariants as names
use Rattle.step_meaning.specs.declared.value.Value.{Value}
use Rattle.step_meaning.specs.declared.value.Value.TheVariants as value
use Rattle.step_meaning.specs.declared.expr.IntOp.TheVariants as op
use Rattle.step_meaning.specs.declared.expr.Side.TheVariants.{Minus}
use Rattle.step_meaning.specs.declared.expr.Answer.{Answer}
use Rattle.step_meaning.specs.declared.expr.Answer.TheVariants.{Before, After}
use Rattle.step_meaning.specs.declared.expr.UpdateOp.{UpdateOp}
use Rattle.step_meaning.specs.declared.expr.UpdateOp.TheVariants.{Integer, Backward}
use Rattle.step_meaning.specs.declared.expr.Expr.{Expr, end_of-Expr, more_of-Expr}
use Rattle.step_meaning.specs.declared.expr.Expr.TheVariants as e
use Rattle.step_meaning.specs.declared.expr.Place_.{Place_, end_of-Place_, more_of-Place_}
use Rattle.step_meaning.specs.declared.expr.Place_.TheVariants as p
use Rattle.step_meaning.specs.declared.stmt.Stmt.{Stmt}
use Rattle.step_meaning.specs.declared.stmt.Stmt.TheVariants as s
use Rattle.step_meaning.specs.declared.program.Declared.{Declared}
use Rattle.step_meaning.specs.declared.program.Core.{Core}
use Rattle.step_meaning.specs.Steps.{Exit, end}
use Rattle.step_meaning.specs.Runs.{run}
use Rattle.step_meaning.proofs.Examples.{int, pointer_to, array_of, declared, lit, global, load, index, deref, assign, binary, convert, both, either, invoke, return, function, program, zero_cell}

-- ---- parts of programs

abbrev char : CType
char = type.Int kind.Char

abbrev cell : ℕ → Value
cell n = value.Int (pos n)

abbrev update : Place_ → CType → UpdateOp → Expr → Answer → Expr
update q t o a w = e.Update' q t o tt (more_of-Expr a end_of-Expr) w

abbrev add : Place_ → Expr → Expr
add q a = update q int (Integer op.Add kind.Int) a After

-- x++ of the first variable of file scope
abbrev counted : Expr
counted = update (global 0) int (Integer op.Add kind.Int) (lit 1) Before

-- int main(void) { .. } after these variables of file scope
abbrev main_of : List Declared → List (List Value) → List Stmt → Core
main_of globals initial body = program globals initial (function int [] body ∷ []) 4

-- int f(void) { .. } before it
abbrev with_f : List Declared → List (List Value) → List Stmt → List Stmt → Core
with_f globals initial f body = program globals initial (function int [] f ∷ function int [] body ∷ []) 5

-- ---- operands from left to right

-- int a[2]; int x; int f(void) { x = 1; return 0; } int main(void) { a[f()] = x; return a[0]; }
assigned_place_first : end (run (with_f (declared (array_of int 2) ∷ declared int ∷ []) ((cell 0 ∷ cell 0 ∷ []) ∷ zero_cell ∷ [])
    (s.Eval (assign (global 1) int (lit 1)) ∷ return (lit 0) ∷ []) (s.Eval (assign (index (global 0) (invoke 4)) int (load (global 1))) ∷ return (load (index (global 0) (lit 0))) ∷ [])) [] 9) ≡ Exit (pos 1)
assigned_place_first = refl

-- int x; int f(void) { x = 5; return 1; } int main(void) { x = 1; x += f(); return x; }
update_reads_first : end (run (with_f (declared int ∷ []) (zero_cell ∷ [])
    (s.Eval (assign (global 0) int (lit 5)) ∷ return (lit 1) ∷ []) (s.Eval (assign (global 0) int (lit 1)) ∷ s.Eval (add (global 0) (invoke 4)) ∷ return (load (global 0)) ∷ [])) [] 9) ≡ Exit (pos 2)
update_reads_first = refl

-- int x; int m[2][2] = {{1, 2}, {3, 4}}; int main(void) { return m[x++][x]; }
array_before_index : end (run (main_of (declared int ∷ declared (array_of (array_of int 2) 2) ∷ []) (zero_cell ∷ (cell 1 ∷ cell 2 ∷ cell 3 ∷ cell 4 ∷ []) ∷ [])
    (return (load (index (p.Index' tt (more_of-Place_ (global 1) end_of-Place_) tt (more_of-Expr counted end_of-Expr) 2) (load (global 0)))) ∷ [])) [] 9) ≡ Exit (pos 2)
array_before_index = refl

-- int x = 1; int main(void) { return x++ * 10 + x; }
sum_left_first : end (run (main_of (declared int ∷ []) ((cell 1 ∷ []) ∷ []) (return (binary op.Add kind.Int (binary op.Mul kind.Int counted (lit 10)) (load (global 0))) ∷ [])) [] 9) ≡ Exit (pos 12)
sum_left_first = refl

-- int x; int main(void) { 0 && (x = 1); 1 || (x = 1); return x; }
right_skipped : end (run (main_of (declared int ∷ []) (zero_cell ∷ [])
    (s.Eval (both (lit 0) (assign (global 0) int (lit 1))) ∷ s.Eval (either (lit 1) (assign (global 0) int (lit 1))) ∷ return (load (global 0)) ∷ [])) [] 9) ≡ Exit (pos 0)
right_skipped = refl

-- ---- which operand is taken

abbrev choose : Expr → Expr → Expr → Expr
choose a b c = e.Choose' tt (more_of-Expr a end_of-Expr) tt (more_of-Expr b end_of-Expr) tt (more_of-Expr c end_of-Expr)

-- int main(void) { return 1 ? 5 : 7; }
choice_second : end (run (main_of [] [] (return (choose (lit 1) (lit 5) (lit 7)) ∷ [])) [] 9) ≡ Exit (pos 5)
choice_second = refl

choice_third : end (run (main_of [] [] (return (choose (lit 0) (lit 5) (lit 7)) ∷ [])) [] 9) ≡ Exit (pos 7)
choice_third = refl

-- int x = 1; int main(void) { return x++; }
postfix_before : end (run (main_of (declared int ∷ []) ((cell 1 ∷ []) ∷ []) (return counted ∷ [])) [] 9) ≡ Exit (pos 1)
postfix_before = refl

-- int a[3] = {1, 2, 3}; int main(void) { return *(&a[2] - 1); }
pointer_minus : end (run (main_of (declared (array_of int 3) ∷ []) ((cell 1 ∷ cell 2 ∷ cell 3 ∷ []) ∷ [])
    (return (load (deref (e.Move' tt (more_of-Expr (e.Address (index (global 0) (lit 2)) int) end_of-Expr) tt (more_of-Expr (lit 1) end_of-Expr) 1 Minus))) ∷ [])) [] 9) ≡ Exit (pos 2)
pointer_minus = refl

abbrev third : Value
third = value.Pointer (record { kind = names.Global; activation = 0; index = 0 }) 2

-- int a[3] = {1, 2, 3}; int *p = &a[2]; int main(void) { p -= 1; return *p; }
pointer_update_minus : end (run (main_of (declared (array_of int 3) ∷ declared (pointer_to int) ∷ []) ((cell 1 ∷ cell 2 ∷ cell 3 ∷ []) ∷ (third ∷ []) ∷ [])
    (s.Eval (update (global 1) (pointer_to int) (Backward 1) (lit 1) After) ∷ return (load (deref (e.Load (global 1) (pointer_to int)))) ∷ [])) [] 9) ≡ Exit (pos 2)
pointer_update_minus = refl

-- ---- conversions of an update

-- char c = 127; int main(void) { c += 1; return c; }
result_converted : end (run (main_of (declared char ∷ []) ((cell 127 ∷ []) ∷ [])
    (s.Eval (update (global 0) char (Integer op.Add kind.Int) (lit 1) After) ∷ return (convert kind.Int (e.Load (global 0) char)) ∷ [])) [] 9) ≡ Exit (negsuc 127)
result_converted = refl

-- int i = -1; int main(void) { i /= 2U; return i; }
old_value_converted : end (run (main_of (declared int ∷ []) ((value.Int (negsuc 0) ∷ []) ∷ [])
    (s.Eval (update (global 0) int (Integer op.Div kind.UInt) (e.Literal kind.UInt (pos 2)) After) ∷ return (load (global 0)) ∷ [])) [] 9) ≡ Exit (pos 2147483647)
old_value_converted = refl

-- int i = 2147483646; int main(void) { i += 1; return i; }
in_own_kind : end (run (main_of (declared int ∷ []) ((cell 2147483646 ∷ []) ∷ []) (s.Eval (add (global 0) (lit 1)) ∷ return (load (global 0)) ∷ [])) [] 9) ≡ Exit (pos 2147483647)
in_own_kind = refl
