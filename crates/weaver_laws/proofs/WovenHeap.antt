-- Programs that allocate, woven: where an assertion that is to hold at every step stands beside `malloc`, `free`, loops and the ends of bodies, and that the laws hold of one.
use Rattle.std.proofs.Common.{◌≡◌, ℕ, zero, suc, ◌≤◌, lit≤, ◌^◌, ◌++◌, cond, length, ◌==◌, Bool, true, false, List, [], ◌∷◌, map, Option, Some, None, refl, arith}
use Rattle.std.specs.Prelude.{codes, slice_get, pos, option_and_then}
use Rattle.step_meaning.specs.declared.value.CType.{CType}
use Rattle.step_meaning.specs.declared.value.CType.TheVariants as type
use Rattle.step_meaning.specs.declared.value.NameKind.TheVariants as names
use Rattle.step_meaning.specs.declared.value.IntKind.TheVariants as kind
use Rattle.step_meaning.specs.declared.value.Value.TheVariants as value
use Rattle.step_meaning.specs.declared.value.RunFault.TheVariants as fault
use Rattle.step_meaning.specs.declared.expr.CompareOp.TheVariants as comparing
use Rattle.step_meaning.specs.declared.expr.Expr.{Expr, end_of-Expr, more_of-Expr}
use Rattle.step_meaning.specs.declared.expr.Expr.TheVariants as e
use Rattle.step_meaning.specs.declared.expr.Place_.{Place_}
use Rattle.step_meaning.specs.declared.predicate.Term.{Term}
use Rattle.step_meaning.specs.declared.predicate.Term.TheVariants as t
use Rattle.step_meaning.specs.declared.predicate.TermPlace.TheVariants as p
use Rattle.step_meaning.specs.declared.predicate.Predicate.{end_of-Predicate, more_of-Predicate}
use Rattle.step_meaning.specs.declared.predicate.Predicate.TheVariants as is
use denote.Hole.Carrier.{hidden}
use Rattle.step_meaning.specs.declared.stmt.GhostStmt.TheVariants.{Set}
use Rattle.step_meaning.specs.declared.stmt.Stmt.TheBlock.{shape-the_row-Stmt-0, hidden-the_row-Stmt-0}
use Rattle.step_meaning.specs.declared.stmt.Stmt.{Stmt, end_of-Stmt, more_of-Stmt}
use Rattle.step_meaning.specs.declared.stmt.Stmt.TheVariants as s
use Rattle.step_meaning.specs.declared.program.Declared.{Declared}
use Rattle.step_meaning.specs.declared.program.Function.{Function}
use Rattle.step_meaning.specs.declared.program.Core.{Core}
use Rattle.step_meaning.specs.declared.program.Hooks.{Hooks}
use Rattle.step_meaning.specs.declared.program.HookPoint.{HookPoint}
use Rattle.step_meaning.specs.declared.program.HookPlace.TheVariants as place
use Rattle.step_meaning.specs.Steps.{Fault, items, steps, end}
use Rattle.step_meaning.specs.Runs.{run}
use Rattle.step_meaning.specs.Strict.{SetsRegisters}
use Rattle.step_meaning.specs.Identifiers.{keywords, is_keyword}
use Rattle.step_meaning.specs.WellFormed.{IsWellFormed, IsWellFormedFunction}
use Rattle.step_meaning.specs.Fold.{fold}
use Rattle.step_meaning.specs.Verdicts.{verdicts}
use Rattle.step_meaning.specs.Fit.{PointFits, FitTogether}
use Rattle.step_meaning.specs.FoldSimulation.{FoldSimulates}
use Rattle.step_meaning.proofs.Examples.{pointer_to, int, declared, lit, global, assign, return}
use Rattle.step_meaning.proofs.FoldExamples.{safe, hooks, point, variable}
use Rattle.step_meaning.proofs.WellFormedExamples.{named, getchar, putchar, malloc, free}
use Rattle.step_meaning.proofs.TracedRuns.{well_formed_traced}
use Rattle.step_meaning.proofs.TypedRuns.{well_formed_faults_halt}
use Rattle.weaver_laws.specs.Bare.{IsBare}
use Rattle.weaver_laws.specs.Weaving.{woven_core}
use Rattle.weaver_laws.specs.Joining.{joined}
use Rattle.weaver_laws.proofs.JoinedSimulation.{joined_simulates}

-- ---- parts of programs with the variable of file scope `int *p` and the registers `int *r` and `int i`

abbrev int_pointer : CType
int_pointer = pointer_to int

abbrev register : ℕ → Place_
register n = e.Own (record { kind = names.Register; index = n })

abbrev r : Expr
r = e.Load (register 0) int_pointer

abbrev i : Expr
i = e.Load (register 1) int

abbrev r_takes : Expr → Stmt
r_takes a = s.Eval (assign (register 0) int_pointer a)

-- p = E;
abbrev p_takes : Expr → Stmt
p_takes a = s.Eval (assign (global 0) int_pointer a)

-- malloc(sizeof(int)), and free(r);
abbrev allocation : Expr
allocation = e.Malloc' tt (more_of-Expr (e.Literal kind.ULong (pos 1)) end_of-Expr) int

abbrev release : Stmt
release = s.Eval (e.Free' tt (more_of-Expr r end_of-Expr))

abbrev while : Stmt → Stmt
while a = s.While' (lit 1) tt (more_of-Stmt a end_of-Stmt)

abbrev main : List Stmt → Function
main body = record { name = codes "main"; result = int; params = 0; locals = []; registers = declared int_pointer ∷ declared int ∷ []; ghosts = []; body = Some body }

abbrev program : List Function → ℕ → Core
program fs start = record { layouts = []; globals = named (codes "p") int_pointer ∷ []; initial = (value.Null ∷ []) ∷ []; ghosts = []; functions = getchar ∷ putchar ∷ malloc ∷ free ∷ fs; start = start }

abbrev main_of : List Stmt → Core
main_of body = program (main body ∷ []) 4

abbrev woven : Core → List HookPoint → Core
woven q points = woven_core q (joined (hooks [] points ∷ []))

abbrev body_of : ℕ → Core → Option (List Stmt)
body_of f q = option_and_then (λ f. f.body) (slice_get q.functions f)

abbrev truths : Core → List Bool
truths q = map (λ v. v.truth) (verdicts (items (run q [] 9)))

-- ---- `p == \null || \valid(p)` at every step

abbrev p_now : Term
p_now = t.Load (p.Own (variable names.Global 0)) int_pointer

abbrev inside : Stmt
inside = safe (is.Or' tt (more_of-Predicate (is.Relation comparing.Equal p_now t.Null) end_of-Predicate) tt (more_of-Predicate (is.Valid (record { base = p_now; ctype = int; span = None })) end_of-Predicate))

abbrev always : HookPoint
always = point 4 place.Changed [] (inside ∷ [])

-- ---- r = malloc(sizeof(int)); p = r; r = p; free(r); p = 0; return 0;

abbrev dangling : List Stmt
dangling = r_takes allocation ∷ p_takes r ∷ r_takes (e.Load (global 0) int_pointer) ∷ release ∷ p_takes e.Null ∷ return (lit 0) ∷ []

woven_dangling : body_of 4 (woven (main_of dangling) (always ∷ []))
    ≡ Some (inside ∷ s.Empty
    ∷ inside ∷ r_takes allocation
    ∷ inside ∷ p_takes r
    ∷ inside ∷ r_takes (e.Load (global 0) int_pointer)
    ∷ inside ∷ release
    ∷ inside ∷ p_takes e.Null
    ∷ inside ∷ return (lit 0)
    ∷ [])
woven_dangling = refl

-- it fails between `free(p)` and `p = 0`
dangling_found : truths (woven (main_of dangling) (always ∷ [])) ≡ (true ∷ true ∷ true ∷ true ∷ true ∷ false ∷ true ∷ [])
dangling_found = refl

-- ---- r = malloc(sizeof(int)); free(r); free(r); return 0;

abbrev freed_twice : Core
freed_twice = main_of (r_takes allocation ∷ release ∷ release ∷ return (lit 0) ∷ [])

freed_twice_ends : end (run (woven freed_twice (always ∷ [])) [] 9) ≡ Fault fault.BadFree
freed_twice_ends = refl

-- Enter, Malloc, Free, Free and Halt: the Halt has the memory of the second Free, and so no verdict of its own in the woven program
halt_alone : length (truths (woven freed_twice (always ∷ []))) ≡ 4
halt_alone = refl

halt_folded : length (verdicts (fold freed_twice (hooks [] (always ∷ [])) (steps (run freed_twice [] 9)))) ≡ 5
halt_folded = refl

-- ---- a call of `malloc` has the code of both points, in their order

both_points : body_of 4 (woven (main_of (s.Eval allocation ∷ return (lit 0) ∷ [])) (always ∷ point 4 place.Call [] (safe (is.Called 2 false) ∷ []) ∷ []))
    ≡ Some (inside ∷ s.Empty ∷ inside ∷ safe is.False ∷ s.Eval allocation ∷ inside ∷ return (lit 0) ∷ [])
both_points = refl

-- ---- r = malloc(sizeof(int)); *r = 5; return 0;, where no write is to `*p`: the accessed pointer is the register

abbrev apart_from_p : Term → CType → Stmt
apart_from_p a u = safe (is.Separated (record { base = a; ctype = u; span = None } ∷ record { base = p_now; ctype = int; span = None } ∷ []))

abbrev put : Stmt
put = s.Eval (assign (e.Deref' tt (more_of-Expr r end_of-Expr)) int (lit 5))

heap_write : body_of 4 (woven (main_of (r_takes allocation ∷ put ∷ return (lit 0) ∷ [])) (point 4 place.Write [] (apart_from_p t.Accessed type.Void ∷ []) ∷ []))
    ≡ Some (s.Empty ∷ r_takes allocation ∷ apart_from_p (t.Load (p.Own (variable names.Register 0)) int_pointer) int ∷ put ∷ return (lit 0) ∷ [])
heap_write = refl

-- ---- int f(void) { }: its `}` is a fault

abbrev fallen_off : Core
fallen_off = program (record (main []) { name = codes "f" } ∷ main (s.Eval (assign (register 1) int (e.Invoke' 4 [] end_of-Expr)) ∷ return (lit 0) ∷ []) ∷ []) 5

code_at_end : body_of 4 (woven fallen_off (always ∷ [])) ≡ Some (inside ∷ s.Empty ∷ inside ∷ [])
code_at_end = refl

fallen_off_ends : end (run (woven fallen_off (always ∷ [])) [] 9) ≡ Fault fault.NoReturn
fallen_off_ends = refl

-- ---- while (1) { if (i) { continue; } else { } free(r); }

abbrev skipping : List Stmt → List Stmt → Stmt
skipping first rest = while (s.Block (s.If' i tt (more_of-Stmt (s.Block first) end_of-Stmt) tt (more_of-Stmt (s.Block []) end_of-Stmt) ∷ rest))

before_continue : body_of 4 (woven (main_of (skipping (s.Continue ∷ []) (release ∷ []) ∷ return (lit 0) ∷ [])) (always ∷ []))
    ≡ Some (inside ∷ s.Empty ∷ inside ∷ skipping (inside ∷ s.Continue ∷ []) (inside ∷ release ∷ inside ∷ []) ∷ inside ∷ return (lit 0) ∷ [])
unfolding shape-the_row-Stmt-0 hidden-the_row-Stmt-0 hidden
before_continue = refl

-- while (1) while (1) free(r);: bodies that are no blocks become blocks, each with the code at its end
nested_loops : body_of 4 (woven (main_of (while (while release) ∷ return (lit 0) ∷ [])) (always ∷ []))
    ≡ Some (inside ∷ s.Empty ∷ inside ∷ while (s.Block (inside ∷ while (s.Block (inside ∷ release ∷ inside ∷ [])) ∷ inside ∷ [])) ∷ inside ∷ return (lit 0) ∷ [])
unfolding shape-the_row-Stmt-0 hidden-the_row-Stmt-0 hidden
nested_loops = refl

-- { free(r); }: a block among statements stays a block
inner_block : body_of 4 (woven (main_of (s.Block (release ∷ []) ∷ return (lit 0) ∷ [])) (always ∷ []))
    ≡ Some (inside ∷ s.Empty ∷ s.Block (inside ∷ release ∷ []) ∷ inside ∷ return (lit 0) ∷ [])
unfolding shape-the_row-Stmt-0 hidden-the_row-Stmt-0 hidden
inner_block = refl

-- ---- two hooks that save p at Enter: their saves are numbered one after another

abbrev save : ℕ → Stmt
save n = s.Ghost (Set (variable names.GhostLocal n) p_now)

abbrev saving : Hooks
saving = hooks [] (point 4 place.Enter (declared int_pointer ∷ []) (save 0 ∷ []) ∷ [])

saved_twice : body_of 4 (woven_core (main_of dangling) (joined (saving ∷ saving ∷ []))) ≡ Some (save 0 ∷ save 1 ∷ s.Empty ∷ dangling)
saved_twice = refl

two_saves : option_and_then (λ f. Some (length f.ghosts)) (slice_get (woven_core (main_of dangling) (joined (saving ∷ saving ∷ []))).functions 4) ≡ Some 2
two_saves = refl

-- ---- the law holds of `dangling`, which is not to call `free`

abbrev allocating : Core
allocating = main_of dangling

abbrev at_calls : HookPoint
at_calls = point 4 place.Call [] (safe (is.Called 3 false) ∷ [])

abbrev no_free : Hooks
no_free = hooks [] (at_calls ∷ [])

getchar_fits : IsWellFormedFunction allocating getchar
getchar_fits = record { result = refl; parameters_first = refl; parameters = refl; locals = refl; registers = refl; ghosts = refl; body = tt; names = tt }

putchar_fits : IsWellFormedFunction allocating putchar
putchar_fits = record { result = refl; parameters_first = refl; parameters = refl; locals = refl; registers = refl; ghosts = refl; body = tt; names = tt }

main_fits : IsWellFormedFunction allocating (main dangling)
unfolding is_keyword keywords
main_fits = record { result = refl; parameters_first = refl; parameters = refl; locals = refl; registers = refl; ghosts = refl; body = (tt, (refl, (refl, (refl, (refl, (refl, (refl, tt))))))); names = refl }

formed : IsWellFormed allocating
unfolding is_keyword keywords
formed = record {
  structs = refl;
  globals = refl;
  initial = ((tt, tt), tt);
  ghosts = refl;
  getchar = refl;
  putchar = refl;
  malloc = refl;
  free = refl;
  main = refl;
  functions = (getchar_fits, (putchar_fits, (main_fits, tt)));
  file_names = refl;
  distinct_names = refl;
  tags = refl;
  distinct_tags = refl;
  member_names = refl;
}

bare : IsBare allocating
bare = (tt, (tt, (tt, (tt, (refl, tt)))))

sets : SetsRegisters allocating
sets input zero = refl
sets input (suc k) = refl

calls_fit : PointFits allocating no_free at_calls
calls_fit =
    record {
      function = (main dangling, (refl, refl));
      saves = tt;
      statements = (refl, tt);
      sets_own = (tt, tt);
      saves_at_enter = (tt, tt);
      no_ghost_address = search;
      uses = search;
      changed = tt;
      past = search;
      depth = (tt, tt);
      size = (lit≤ tt, tt);
      fits = (record { kinds = refl; limited = tt }, tt);
    }

no_saves : (b : Bool) → length (cond {A = List Declared} b [] [] ++ []) ≤ 2 ^ 26
no_saves true = lit≤ tt
no_saves false = lit≤ tt

together : FitTogether allocating (no_free ∷ [])
together =
    record {
      each = (record { globals = tt; few_globals = lit≤ tt; few_saves = λ f. no_saves (4 == f); points = (calls_fit, tt) }, tt);
      from_one = ((lit≤ tt, lit≤ tt), tt);
      distinct = λ i j d lt lt'. absurd (omega arith);
      numbered = ((λ some. refl), tt);
    }

pub simulates : FoldSimulates allocating (no_free ∷ []) (woven allocating (at_calls ∷ []))
simulates = joined_simulates allocating (no_free ∷ []) well_formed_traced well_formed_faults_halt formed refl bare sets together
