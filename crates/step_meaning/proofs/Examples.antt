-- Small programs and what they do, computed: each core is what the text above it stands for.
use Rattle.std.proofs.Common.{◌≡◌, ℕ, Bool, true, false, refl, List, [], ◌∷◌, length, map, Some, None}
use Rattle.std.specs.Prelude.{pos, negsuc, codes}
use Rattle.step_meaning.specs.declared.value.IntKind.{IntKind}
use Rattle.step_meaning.specs.declared.value.IntKind.TheVariants as kind
use Rattle.step_meaning.specs.declared.value.CType.{CType, end_of-CType, more_of-CType}
use Rattle.step_meaning.specs.declared.value.CType.TheVariants as type
use Rattle.step_meaning.specs.declared.value.NameKind.TheVariants as names
use Rattle.step_meaning.specs.declared.value.Value.{Value}
use Rattle.step_meaning.specs.declared.value.Value.TheVariants as value
use Rattle.step_meaning.specs.declared.value.Action.{Action}
use Rattle.step_meaning.specs.declared.value.Action.TheVariants as act
use Rattle.step_meaning.specs.declared.value.RunFault.TheVariants as fault
use Rattle.step_meaning.specs.declared.expr.IntOp.{IntOp}
use Rattle.step_meaning.specs.declared.expr.IntOp.TheVariants as op
use Rattle.step_meaning.specs.declared.expr.CompareOp.{CompareOp}
use Rattle.step_meaning.specs.declared.expr.CompareOp.TheVariants as comparing
use Rattle.step_meaning.specs.declared.expr.Variable.{Variable}
use Rattle.step_meaning.specs.declared.expr.Expr.{Expr, end_of-Expr, more_of-Expr}
use Rattle.step_meaning.specs.declared.expr.Expr.TheVariants as e
use Rattle.step_meaning.specs.declared.expr.Place_.{Place_, end_of-Place_, more_of-Place_}
use Rattle.step_meaning.specs.declared.expr.Place_.TheVariants as p
use Rattle.step_meaning.specs.declared.predicate.Term.{Term, end_of-Term, more_of-Term}
use Rattle.step_meaning.specs.declared.predicate.Term.TheVariants as t
use Rattle.step_meaning.specs.declared.predicate.TermPlace.TheVariants as tp
use Rattle.step_meaning.specs.declared.predicate.Predicate.TheVariants as is
use Rattle.step_meaning.specs.declared.stmt.VerdictKind.TheVariants.{Safe}
use Rattle.step_meaning.specs.declared.stmt.GhostStmt.TheVariants.{Set}
use Rattle.step_meaning.specs.declared.stmt.Stmt.{Stmt, end_of-Stmt, more_of-Stmt}
use Rattle.step_meaning.specs.declared.stmt.Stmt.TheVariants as s
use Rattle.step_meaning.specs.declared.program.Core.{Core}
use Rattle.step_meaning.specs.declared.program.Function.{Function}
use Rattle.step_meaning.specs.declared.program.Declared.{Declared}
use Rattle.step_meaning.specs.Steps.{Step, Item, Made, Judged, Exit, Fault, More, items, steps, end}
use Rattle.step_meaning.specs.Runs.{run}
use Rattle.step_meaning.specs.First.{output}
use Rattle.step_meaning.specs.Memory.{empty_block}
use Rattle.step_meaning.specs.Limits.{chunks_of, Exited, CellsFull, CallsFull, Spent, outcome}

-- ---- parts of programs

abbrev pub int : CType
int = type.Int kind.Int

abbrev pub pointer_to : CType → CType
pointer_to t = type.Pointer' tt (more_of-CType t end_of-CType)

abbrev pub array_of : CType → ℕ → CType
array_of t n = type.Array' tt (more_of-CType t end_of-CType) n

abbrev pub declared : CType → Declared
declared t = record { name = []; ctype = t }

abbrev pub lit : ℕ → Expr
lit n = e.Literal kind.Int (pos n)

abbrev pub global : ℕ → Place_
global i = p.Own (record { kind = names.Global; index = i })

abbrev pub local : ℕ → Place_
local i = p.Own (record { kind = names.Local; index = i })

abbrev pub load : Place_ → Expr
load q = e.Load q int

abbrev pub index : Place_ → Expr → Place_
index q i = p.Index' tt (more_of-Place_ q end_of-Place_) tt (more_of-Expr i end_of-Expr) 1

abbrev pub deref : Expr → Place_
deref a = p.Deref' tt (more_of-Expr a end_of-Expr)

abbrev pub assign : Place_ → CType → Expr → Expr
assign q t a = e.Assign' q t tt (more_of-Expr a end_of-Expr)

abbrev pub binary : IntOp → IntKind → Expr → Expr → Expr
binary o k a b = e.Binary' o k tt (more_of-Expr a end_of-Expr) tt (more_of-Expr b end_of-Expr)

abbrev pub convert : IntKind → Expr → Expr
convert k a = e.Convert' k tt (more_of-Expr a end_of-Expr)

abbrev pub compare : CompareOp → Expr → Expr → Expr
compare c a b = e.Compare' c tt (more_of-Expr a end_of-Expr) tt (more_of-Expr b end_of-Expr)

abbrev pub both : Expr → Expr → Expr
both a b = e.Both' tt (more_of-Expr a end_of-Expr) tt (more_of-Expr b end_of-Expr)

abbrev pub either : Expr → Expr → Expr
either a b = e.Either' tt (more_of-Expr a end_of-Expr) tt (more_of-Expr b end_of-Expr)

-- a call without arguments
abbrev pub invoke : ℕ → Expr
invoke f = e.Invoke' f [] end_of-Expr

abbrev pub return : Expr → Stmt
return a = s.Return (Some a)

-- one of `getchar`, `putchar`, `malloc` and `free`, which have the numbers 0 to 3
abbrev pub library : Function
library = record { name = []; result = int; params = 0; locals = []; registers = []; ghosts = []; body = None }

abbrev pub function : CType → List Declared → List Stmt → Function
function t locals body = record { name = []; result = t; params = 0; locals = locals; registers = []; ghosts = []; body = Some body }

-- a program with these variables of file scope and these functions, the last of which, with this number, is `main`
abbrev pub program : List Declared → List (List Value) → List Function → ℕ → Core
program globals initial functions main = record { layouts = []; globals = globals; initial = initial; ghosts = []; functions = library ∷ library ∷ library ∷ library ∷ functions; start = main }

abbrev pub zero_cell : List Value
zero_cell = value.Int (pos 0) ∷ []

abbrev pub step_actions : List Step → List Action
step_actions ss = map (λ s. s.action) ss

-- ---- int main(void) { return 0; }

abbrev pub empty_main : Core
empty_main = program [] [] (function int [] (return (lit 0) ∷ []) ∷ []) 4

empty_main_ends : end (run empty_main [] 5) ≡ Exit (pos 0)
empty_main_ends = refl

empty_main_steps : step_actions (steps (run empty_main [] 5)) ≡ (act.Enter 4 [] ∷ act.Return 4 (Some (value.Int (pos 0))) ∷ [])
empty_main_steps = refl

-- ---- int main(void) { }

fallen_off_main : end (run (program [] [] (function int [] [] ∷ []) 4) [] 5) ≡ Exit (pos 0)
fallen_off_main = refl

-- ---- int a[10]; int main(void) { a[i] = 1; return 0; }

abbrev pub array_write : ℕ → Core
array_write i = program (declared (array_of int 10) ∷ []) (zero_cell ∷ []) (function int [] (s.Eval (assign (index (global 0) (lit i)) int (lit 1)) ∷ return (lit 0) ∷ []) ∷ []) 4

within_ends : end (run (array_write 9) [] 5) ≡ Exit (pos 0)
within_ends = refl

one_past_ends : end (run (array_write 10) [] 5) ≡ Fault fault.Invalid
one_past_ends = refl

one_past_steps : length (steps (run (array_write 10) [] 5)) ≡ 3
one_past_steps = refl

two_past_ends : end (run (array_write 11) [] 5) ≡ Fault fault.Pointer
two_past_ends = refl

two_past_steps : length (steps (run (array_write 11) [] 5)) ≡ 2
two_past_steps = refl

-- ---- int x = V; int f(void) { return 0; } int g(void) { return 1; } int main(void) { return x && f() || g(); }

abbrev pub short_circuits : ℕ → Core
short_circuits x = program (declared int ∷ []) ((value.Int (pos x) ∷ []) ∷ []) (function int [] (return (lit 0) ∷ []) ∷ function int [] (return (lit 1) ∷ []) ∷ function int [] (return (either (both (load (global 0)) (invoke 4)) (invoke 5)) ∷ []) ∷ []) 6

zero_short_ends : end (run (short_circuits 0) [] 10) ≡ Exit (pos 1)
zero_short_ends = refl

zero_short_steps : length (steps (run (short_circuits 0) [] 10)) ≡ 6
zero_short_steps = refl

one_short_ends : end (run (short_circuits 1) [] 10) ≡ Exit (pos 1)
one_short_ends = refl

one_short_steps : length (steps (run (short_circuits 1) [] 10)) ≡ 9
one_short_steps = refl

-- ---- int n; void step(void) { n = n + 1; } int main(void) { for (n = 0; n < 2; step()) continue; return 0; }

abbrev pub loop_continues : Core
loop_continues =
    program (declared int ∷ []) (zero_cell ∷ [])
    (function type.Void [] (s.Eval (assign (global 0) int (binary op.Add kind.Int (load (global 0)) (lit 1))) ∷ [])
    ∷ function int [] (s.Eval (assign (global 0) int (lit 0))
    ∷ s.For' (Some (compare comparing.Less (load (global 0)) (lit 2))) (Some (invoke 4)) tt (more_of-Stmt s.Continue end_of-Stmt)
    ∷ return (lit 0)
    ∷ [])
    ∷ []) 5

loop_ends : end (run loop_continues [] 20) ≡ Exit (pos 0)
loop_ends = refl

loop_steps : length (steps (run loop_continues [] 20)) ≡ 19
loop_steps = refl

-- with a bound of two turns the third spends it, after the steps before its Turn
loop_spent : end (run loop_continues [] 2) ≡ More
loop_spent = refl

-- ---- int main(void) { return E; }

abbrev pub returning : Expr → Core
returning a = program [] [] (function int [] (return a ∷ []) ∷ []) 4

-- 2147483647 + 1
overflow_ends : end (run (returning (binary op.Add kind.Int (lit 2147483647) (lit 1))) [] 5) ≡ Fault fault.Overflow
overflow_ends = refl

overflow_steps : length (steps (run (returning (binary op.Add kind.Int (lit 2147483647) (lit 1))) [] 5)) ≡ 2
overflow_steps = refl

-- 4294967295U + 1U
wrap_ends : end (run (returning (convert kind.Int (binary op.Add kind.UInt (e.Literal kind.UInt (pos 4294967295)) (e.Literal kind.UInt (pos 1))))) [] 5) ≡ Exit (pos 0)
wrap_ends = refl

-- ---- char c; int main(void) { c = 200; return c; }

abbrev pub narrowing : Core
narrowing = program (declared (type.Int kind.Char) ∷ []) (zero_cell ∷ []) (function int [] (s.Eval (assign (global 0) (type.Int kind.Char) (convert kind.Char (lit 200))) ∷ return (convert kind.Int (e.Load (global 0) (type.Int kind.Char))) ∷ []) ∷ []) 4

narrowing_ends : end (run narrowing [] 5) ≡ Exit (negsuc 55)
narrowing_ends = refl

narrowing_steps : length (steps (run narrowing [] 5)) ≡ 4
narrowing_steps = refl

-- ---- int *p; void f(void) { int a = 5; p = &a; } void g(void) { int b = 7; } int main(void) { f(); g(); return *p; }

abbrev pub initialise : ℕ → Stmt
initialise n = s.Init (record { kind = names.Local; index = 0 }) 0 int (lit n)

abbrev pub dangling : Core
dangling =
    program (declared (pointer_to int) ∷ []) ((value.Null ∷ []) ∷ [])
    (function type.Void (declared int ∷ []) (initialise 5 ∷ s.Eval (assign (global 0) (pointer_to int) (e.Address (local 0) int)) ∷ [])
    ∷ function type.Void (declared int ∷ []) (initialise 7 ∷ [])
    ∷ function int [] (s.Eval (invoke 4) ∷ s.Eval (invoke 5) ∷ return (load (deref (e.Load (global 0) (pointer_to int)))) ∷ [])
    ∷ []) 6

dangling_ends : end (run dangling [] 20) ≡ Fault fault.Invalid
dangling_ends = refl

dangling_steps : length (steps (run dangling [] 20)) ≡ 13
dangling_steps = refl

-- ---- int main(void) { int i; return i; }

abbrev pub uninitialised : Core
uninitialised = program [] [] (function int (declared int ∷ []) (s.Empty ∷ return (load (local 0)) ∷ []) ∷ []) 4

uninitialised_ends : end (run uninitialised [] 5) ≡ Fault fault.Uninit
uninitialised_ends = refl

uninitialised_steps : length (steps (run uninitialised [] 5)) ≡ 3
uninitialised_steps = refl

-- ---- int f(void) { } int main(void) { return f(); }

abbrev pub no_return : Core
no_return = program [] [] (function int [] [] ∷ function int [] (return (invoke 4) ∷ []) ∷ []) 5

no_return_ends : end (run no_return [] 5) ≡ Fault fault.NoReturn
no_return_ends = refl

no_return_steps : step_actions (steps (run no_return [] 5)) ≡ (act.Enter 5 [] ∷ act.Call 4 ∷ act.Enter 4 [] ∷ act.Halt fault.NoReturn ∷ [])
no_return_steps = refl

-- ---- int main(void) { int c; c = getchar(); while (c != -1) { putchar(c); c = getchar(); } return 0; }

abbrev pub get_next : Stmt
get_next = s.Eval (assign (local 0) int e.GetChar)

abbrev pub put_it : Stmt
put_it = s.Eval (e.PutChar' tt (more_of-Expr (load (local 0)) end_of-Expr))

abbrev pub echo : Core
echo =
    program [] []
    (function int (declared int ∷ [])
    (s.Empty
    ∷ get_next
    ∷ s.While' (compare comparing.Unequal (load (local 0)) (e.Literal kind.Int (negsuc 0))) tt (more_of-Stmt (s.Block' (tt ∷ tt ∷ []) (more_of-Stmt put_it (more_of-Stmt get_next end_of-Stmt))) end_of-Stmt)
    ∷ return (lit 0)
    ∷ [])
    ∷ []) 4

echo_ends : end (run echo (codes "hi") 50) ≡ Exit (pos 0)
echo_ends = refl

echo_steps : length (steps (run echo (codes "hi") 50)) ≡ 18
echo_steps = refl

echo_output : output (steps (run echo (codes "hi") 50)) ≡ codes "hi"
echo_output = refl

-- ---- int *p; int x; int main(void) { *p = 1; return 0; }

abbrev pub null_write : Core
null_write = program (declared (pointer_to int) ∷ declared int ∷ []) ((value.Null ∷ []) ∷ zero_cell ∷ []) (function int [] (s.Eval (assign (deref (e.Load (global 0) (pointer_to int))) int (lit 1)) ∷ return (lit 0) ∷ []) ∷ []) 4

null_write_ends : end (run null_write [] 5) ≡ Fault fault.Invalid
null_write_ends = refl

null_write_steps : length (steps (run null_write [] 5)) ≡ 4
null_write_steps = refl

-- ---- int x; int main(void) { /*@ assert weave_1: x == 0; */ x = 2; return 0; }, and the same with a null statement first

abbrev pub global_term : ℕ → Term
global_term i = t.Load (tp.Own (record { kind = names.Global; index = i })) int

abbrev pub assert_zero : Stmt
assert_zero = s.Assert Safe 1 (is.Relation comparing.Equal (global_term 0) (t.Int (pos 0)))

abbrev pub asserting : List Stmt → Core
asserting first = program (declared int ∷ []) (zero_cell ∷ []) (function int [] first ∷ []) 4

abbrev pub write_two : List Stmt
write_two = s.Eval (assign (global 0) int (lit 2)) ∷ return (lit 0) ∷ []

-- a verdict, or a step
abbrev pub is_verdict : Item → Bool
is_verdict (Made s) = false
is_verdict (Judged v) = true

abbrev pub verdicts : List Item → List Bool
verdicts is = map is_verdict is

before_enter : verdicts (items (run (asserting (assert_zero ∷ write_two)) [] 5)) ≡ (true ∷ false ∷ false ∷ false ∷ [])
before_enter = refl

after_enter : verdicts (items (run (asserting (s.Empty ∷ assert_zero ∷ write_two)) [] 5)) ≡ (false ∷ true ∷ false ∷ false ∷ [])
after_enter = refl

-- ---- ghost int __g = 0; int main(void) { ; /*@ ghost __g = E; */ /*@ assert weave_1: __g == __g; */ return 0; }

abbrev pub ghost_variable : Variable
ghost_variable = record { kind = names.GhostGlobal; index = 0 }

abbrev pub ghost_term : Term
ghost_term = t.Load (tp.Own ghost_variable) int

abbrev pub setting_ghost : Term → Core
setting_ghost a =
    record {
      layouts = [];
      globals = declared int ∷ [];
      initial = zero_cell ∷ [];
      ghosts = declared int ∷ [];
      functions = library ∷ library ∷ library ∷ library ∷ function int [] (s.Empty ∷ s.Ghost (Set ghost_variable a) ∷ s.Assert Safe 1 (is.Relation comparing.Equal ghost_term ghost_term) ∷ return (lit 0) ∷ []) ∷ [];
      start = 4;
    }

abbrev pub found : List Item → List Bool
found [] = []
found (Made s ∷ is) = found is
found (Judged v ∷ is) = v.truth ∷ found is

-- 1
ghost_set : found (items (run (setting_ghost (t.Int (pos 1))) [] 5)) ≡ (true ∷ [])
ghost_set = refl

-- 1 / x is undefined, so that the variable holds nothing afterwards
ghost_undefined : found (items (run (setting_ghost (t.Arith' op.Div tt (more_of-Term (t.Int (pos 1)) end_of-Term) tt (more_of-Term (global_term 0) end_of-Term))) [] 5)) ≡ (false ∷ [])
ghost_undefined = refl

-- 2147483648 is outside the range of `int`
ghost_too_wide : found (items (run (setting_ghost (t.Int (pos 2147483648))) [] 5)) ≡ (false ∷ [])
ghost_too_wide = refl

-- ghost code is no step
ghost_no_step : length (steps (run (setting_ghost (t.Int (pos 1))) [] 5)) ≡ 2
ghost_no_step = refl

-- ---- void f(void) { int a[160]; f(); } int main(void) { f(); return 0; }

abbrev pub deep : Core
deep = program [] [] (function type.Void (declared (array_of int 160) ∷ []) (s.Empty ∷ s.Eval (invoke 4) ∷ []) ∷ function int [] (s.Eval (invoke 4) ∷ return (lit 0) ∷ []) ∷ []) 5

-- four activations of f fill 40 chunks
cells_full : outcome deep [] 50 40 1000 ≡ record { made = 10; end = CellsFull }
cells_full = refl

calls_full : outcome deep [] 50 40 3 ≡ record { made = 6; end = CallsFull }
calls_full = refl

steps_spent : outcome deep [] 5 40 3 ≡ record { made = 5; end = Spent }
steps_spent = refl

-- ---- void f(void) { int a[160]; a[0] = 1; } int main(void) { int i; for (i = 0; i < 3; i = i + 1) f(); return 0; }

abbrev pub repeated : Core
repeated =
    program [] []
    (function type.Void (declared (array_of int 160) ∷ []) (s.Empty ∷ s.Eval (assign (index (local 0) (lit 0)) int (lit 1)) ∷ [])
    ∷ function int (declared int ∷ []) (s.Empty
    ∷ s.Eval (assign (local 0) int (lit 0))
    ∷ s.For' (Some (compare comparing.Less (load (local 0)) (lit 3))) (Some (assign (local 0) int (binary op.Add kind.Int (load (local 0)) (lit 1)))) tt (more_of-Stmt (s.Eval (invoke 4)) end_of-Stmt)
    ∷ return (lit 0)
    ∷ [])
    ∷ []) 5

-- chunks given back serve again: at most 11 are live
given_back : outcome repeated [] 50 11 1000 ≡ record { made = 29; end = Exited (pos 0) }
given_back = refl

not_enough : outcome repeated [] 50 10 1000 ≡ record { made = 5; end = CellsFull }
not_enough = refl

-- 16 cells are one chunk, 17 are two
sixteen_cells : chunks_of (empty_block [] (declared (array_of int 16))) ≡ 1
sixteen_cells = refl

seventeen_cells : chunks_of (empty_block [] (declared (array_of int 17))) ≡ 2
seventeen_cells = refl

-- ---- int a[1616]; int main(void) { return 0; }

globals_full : outcome (program (declared (array_of int 1616) ∷ []) (zero_cell ∷ []) (function int [] (return (lit 0) ∷ []) ∷ []) 4) [] 50 100 1000 ≡ record { made = 0; end = CellsFull }
globals_full = refl
