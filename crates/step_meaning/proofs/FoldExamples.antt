-- Hooks folded along the steps of small programs, computed.
use Rattle.std.proofs.Common.{◌≡◌, ℕ, Bool, true, false, refl, List, [], ◌∷◌, length, map, take, None}
use Rattle.std.specs.Prelude.{ℤ, pos}
use Rattle.step_meaning.specs.declared.value.IntKind.TheVariants as kind
use Rattle.step_meaning.specs.declared.value.CType.TheVariants as type
use Rattle.step_meaning.specs.declared.value.Action.TheVariants as act
use Rattle.step_meaning.specs.declared.value.Cell.TheVariants.{Nothing, Holds}
use Rattle.step_meaning.specs.declared.value.Value.TheVariants as value
use Rattle.step_meaning.specs.declared.value.NameKind.{NameKind}
use Rattle.step_meaning.specs.declared.value.NameKind.TheVariants as names
use Rattle.step_meaning.specs.declared.expr.IntOp.TheVariants as op
use Rattle.step_meaning.specs.declared.expr.CompareOp.TheVariants as comparing
use Rattle.step_meaning.specs.declared.expr.Variable.{Variable}
use Rattle.step_meaning.specs.declared.expr.Expr.{Expr, end_of-Expr, more_of-Expr}
use Rattle.step_meaning.specs.declared.expr.Expr.TheVariants as e
use Rattle.step_meaning.specs.declared.predicate.Term.{Term, end_of-Term, more_of-Term}
use Rattle.step_meaning.specs.declared.predicate.Term.TheVariants as t
use Rattle.step_meaning.specs.declared.predicate.TermPlace.TheVariants as p
use Rattle.step_meaning.specs.declared.predicate.Predicate.{Predicate}
use Rattle.step_meaning.specs.declared.predicate.Predicate.TheVariants as is
use Rattle.step_meaning.specs.declared.stmt.VerdictKind.TheVariants.{Safe}
use Rattle.step_meaning.specs.declared.stmt.GhostStmt.TheVariants.{Set}
use Rattle.step_meaning.specs.declared.stmt.Stmt.{Stmt, end_of-Stmt, more_of-Stmt}
use Rattle.step_meaning.specs.declared.stmt.Stmt.TheVariants as s
use Rattle.step_meaning.specs.declared.program.Core.{Core}
use Rattle.step_meaning.specs.declared.program.Declared.{Declared}
use Rattle.step_meaning.specs.declared.program.Hooks.{Hooks}
use Rattle.step_meaning.specs.declared.program.HookPoint.{HookPoint}
use Rattle.step_meaning.specs.declared.program.HookPlace.{HookPlace}
use Rattle.step_meaning.specs.declared.program.HookPlace.TheVariants as place
use Rattle.step_meaning.specs.Memory.{Memory}
use Rattle.step_meaning.specs.Steps.{Step, steps}
use Rattle.step_meaning.specs.Runs.{run}
use Rattle.step_meaning.specs.Verdicts.{verdicts_before, items_to}
use Rattle.step_meaning.specs.Fold.{fold}
use Rattle.step_meaning.proofs.Examples.{int, declared, lit, global, local, load, assign, binary, compare, invoke, return, function, program, zero_cell, is_verdict, found}

abbrev pub point : ℕ → HookPlace → List Declared → List Stmt → HookPoint
point f at saves code = record { function = f; place = at; saves = saves; code = code }

abbrev pub hooks : List Declared → List HookPoint → Hooks
hooks globals points = record { monitor = 1; first = 0; globals = globals; points = points }

abbrev pub variable : NameKind → ℕ → Variable
variable k i = record { kind = k; index = i }

abbrev pub read : NameKind → ℕ → Term
read k i = t.Load (p.Own (variable k i)) int

abbrev pub safe : Predicate → Stmt
safe r = s.Assert Safe 1 r

-- ---- int x; int y; void f(void) { y = 1; } int main(void) { f(); x = 2; return 0; }

abbrev pub two_writes : Core
two_writes =
    program (declared int ∷ declared int ∷ []) (zero_cell ∷ zero_cell ∷ [])
    (function type.Void [] (s.Eval (assign (global 1) int (lit 1)) ∷ [])
    ∷ function int [] (s.Eval (invoke 4) ∷ s.Eval (assign (global 0) int (lit 2)) ∷ return (lit 0) ∷ [])
    ∷ []) 5

abbrev pub two_writes_steps : List Step
two_writes_steps = steps (run two_writes [] 5)

seven_steps : length two_writes_steps ≡ 7
seven_steps = refl

-- at each write of each function: `\separated(\written, &x)`
abbrev pub apart_from_x : Predicate
apart_from_x = is.Separated (record { base = t.Accessed; ctype = type.Void; span = None } ∷ record { base = t.Address (p.Own (variable names.Global 0)) int; ctype = int; span = None } ∷ [])

abbrev pub keep_x : Hooks
keep_x = hooks [] (point 4 place.Write [] (safe apart_from_x ∷ []) ∷ point 5 place.Write [] (safe apart_from_x ∷ []) ∷ [])

-- a verdict stands before the fourth step and before the sixth
keep_x_shape : map is_verdict (fold two_writes keep_x two_writes_steps) ≡ (false ∷ false ∷ false ∷ true ∷ false ∷ false ∷ true ∷ false ∷ false ∷ [])
keep_x_shape = refl

-- that of the sixth is false
keep_x_before_fifth : map (λ v. v.truth) (verdicts_before 5 (fold two_writes keep_x two_writes_steps)) ≡ (true ∷ [])
keep_x_before_fifth = refl

keep_x_before_sixth : map (λ v. v.truth) (verdicts_before 6 (fold two_writes keep_x two_writes_steps)) ≡ (true ∷ false ∷ [])
keep_x_before_sixth = refl

-- in `f` alone
keep_x_in_f : found (fold two_writes (hooks [] (point 4 place.Write [] (safe apart_from_x ∷ []) ∷ [])) two_writes_steps) ≡ (true ∷ [])
keep_x_in_f = refl

-- ---- a list that isn't traced: a turn of `main` before its Enter. The fold of its first step isn't the beginning of the fold of both

abbrev holding : ℤ → Memory
holding z = record { globals = (record { declared = int; cell = Holds (value.Int z) } ∷ []) ∷ (record { declared = int; cell = Nothing } ∷ []) ∷ []; frames = record { activation = 0; locals = [] } ∷ []; heap = [] }

abbrev turn_before_enter : List Step
turn_before_enter = record { action = act.Turn; function = 5; activation = 0; memory = holding (pos 1) } ∷ record { action = act.Enter 5 []; function = 5; activation = 0; memory = holding (pos 1) } ∷ []

-- at each step: `x == \at(x, Pre)`
abbrev unchanged : Hooks
unchanged = hooks [] (point 5 place.Changed [] (safe (is.Relation comparing.Equal (read names.Global 0) (t.AtPre (p.Own (variable names.Global 0)) int)) ∷ []) ∷ [])

turn_alone : found (fold two_writes unchanged (take 1 turn_before_enter)) ≡ (false ∷ [])
turn_alone = refl

turn_among_both : found (items_to 1 (fold two_writes unchanged turn_before_enter)) ≡ (true ∷ [])
turn_among_both = refl

-- ---- places and actions: a verdict at each step that a point of `main` fits

abbrev pub marks : HookPlace → List Bool
marks at = map is_verdict (fold two_writes (hooks [] (point 5 at [] (safe is.True ∷ []) ∷ [])) two_writes_steps)

enter_marks : marks place.Enter ≡ (true ∷ false ∷ false ∷ false ∷ false ∷ false ∷ false ∷ false ∷ [])
enter_marks = refl

call_marks : marks place.Call ≡ (false ∷ true ∷ false ∷ false ∷ false ∷ false ∷ false ∷ false ∷ [])
call_marks = refl

return_marks : marks place.Return ≡ (false ∷ false ∷ false ∷ false ∷ false ∷ false ∷ true ∷ false ∷ [])
return_marks = refl

-- each of the four steps of `main`
changed_marks : marks place.Changed ≡ (true ∷ false ∷ true ∷ false ∷ false ∷ false ∷ false ∷ true ∷ false ∷ true ∷ false ∷ [])
changed_marks = refl

-- int main(void) { getchar(); putchar('a'); return 0; }: `getchar` and `putchar` are called, as the functions 0 and 1
abbrev library_calls : Core
library_calls = program [] [] (function int [] (s.Eval e.GetChar ∷ s.Eval (e.PutChar' tt (more_of-Expr (lit 97) end_of-Expr)) ∷ return (lit 0) ∷ []) ∷ []) 4

calls_getchar : found (fold library_calls (hooks [] (point 4 place.Call [] (safe (is.Called 0 true) ∷ safe (is.Called 1 false) ∷ []) ∷ [])) (steps (run library_calls [] 9))) ≡ (true ∷ true ∷ false ∷ false ∷ [])
calls_getchar = refl

-- `\called == f`
called_verdict : found (fold two_writes (hooks [] (point 5 place.Call [] (safe (is.Called 4 true) ∷ safe (is.Called 5 true) ∷ []) ∷ [])) two_writes_steps) ≡ (true ∷ false ∷ [])
called_verdict = refl

-- what `main` returns
result_verdict : found (fold two_writes (hooks [] (point 5 place.Return [] (safe (is.Relation comparing.Equal (t.Result 5) (t.Int (pos 0))) ∷ []) ∷ [])) two_writes_steps) ≡ (true ∷ [])
result_verdict = refl

-- ---- int x; void f(int n) { x = x + 1; if (n > 0) { f(n - 1); x = x - 1; } } int main(void) { f(1); return 0; }

abbrev add : Expr → Expr
add a = binary op.Add kind.Int a (lit 1)

abbrev subtract : Expr → Expr
subtract a = binary op.Sub kind.Int a (lit 1)

abbrev call_f : Expr → Stmt
call_f a = s.Eval (e.Invoke' 4 (tt ∷ []) (more_of-Expr a end_of-Expr))

abbrev pub recursion : Core
recursion =
    program (declared int ∷ []) (zero_cell ∷ [])
    (record (function type.Void (declared int ∷ []) (s.Eval (assign (global 0) int (add (load (global 0))))
    ∷ s.If' (compare comparing.Greater (load (local 0)) (lit 0)) tt
    (more_of-Stmt (s.Block' (tt ∷ tt ∷ []) (more_of-Stmt (call_f (subtract (load (local 0)))) (more_of-Stmt (s.Eval (assign (global 0) int (subtract (load (global 0))))) end_of-Stmt))) end_of-Stmt)
    tt (more_of-Stmt s.Empty end_of-Stmt)
    ∷ [])) { params = 1 }
    ∷ function int [] (call_f (lit 1) ∷ return (lit 0) ∷ [])
    ∷ []) 5

abbrev pub recursion_steps : List Step
recursion_steps = steps (run recursion [] 5)

recursion_makes : length recursion_steps ≡ 17
recursion_makes = refl

-- at the Return of `f`: `x == k + 1`, where `k` was set to `x` at its Enter
abbrev pub one_more : NameKind → Stmt
one_more k = safe (is.Relation comparing.Equal (read names.Global 0) (t.Arith' op.Add tt (more_of-Term (read k 0) end_of-Term) tt (more_of-Term (t.Int (pos 1)) end_of-Term)))

abbrev pub save : NameKind → Stmt
save k = s.Ghost (Set (variable k 0) (read names.Global 0))

-- a ghost variable of the function tells the two activations apart
saved_in_function : found (fold recursion (hooks [] (point 4 place.Enter (declared int ∷ []) (save names.GhostLocal ∷ []) ∷ point 4 place.Return [] (one_more names.GhostLocal ∷ []) ∷ [])) recursion_steps) ≡ (true ∷ true ∷ [])
saved_in_function = refl

-- one of file scope doesn't
saved_in_file : found (fold recursion (hooks (declared int ∷ []) (point 4 place.Enter [] (save names.GhostGlobal ∷ []) ∷ point 4 place.Return [] (one_more names.GhostGlobal ∷ []) ∷ [])) recursion_steps) ≡ (true ∷ false ∷ [])
saved_in_file = refl

-- a parameter at Enter: 1, then 0
parameter_verdicts : found (fold recursion (hooks [] (point 4 place.Enter [] (safe (is.Relation comparing.Equal (t.Parameter 4 0) (t.Int (pos 1))) ∷ []) ∷ [])) recursion_steps) ≡ (true ∷ false ∷ [])
parameter_verdicts = refl

-- a save that was not set holds nothing, a ghost variable of file scope 0; the order of points and of code counts
unset_verdicts :
    found (fold recursion (hooks (declared int ∷ [])
    (point 5 place.Enter (declared int ∷ []) (safe (is.Relation comparing.Equal (read names.GhostLocal 0) (read names.GhostLocal 0)) ∷ safe (is.Relation comparing.Equal (read names.GhostGlobal 0) (t.Int (pos 0))) ∷ [])
    ∷ point 5 place.Enter [] (s.Ghost (Set (variable names.GhostGlobal 0) (t.Int (pos 4))) ∷ safe (is.Relation comparing.Equal (read names.GhostGlobal 0) (t.Int (pos 4))) ∷ [])
    ∷ [])) recursion_steps)
    ≡ (false ∷ true ∷ true ∷ [])
unset_verdicts = refl

-- ghosts of file scope that are numbered from 1 on: number 0 isn't the hooks' own, and has no cell
numbered_verdicts :
    found (fold recursion (record (hooks (declared int ∷ []) (point 5 place.Enter [] (safe (is.Relation comparing.Equal (read names.GhostGlobal 1) (t.Int (pos 0))) ∷ safe (is.Relation comparing.Equal (read names.GhostGlobal 0) (t.Int (pos 0))) ∷ []) ∷ [])) { first = 1 }) recursion_steps)
    ≡ (true ∷ false ∷ [])
numbered_verdicts = refl
