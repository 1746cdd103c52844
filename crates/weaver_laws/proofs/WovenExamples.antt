-- Small programs with rules, woven: what stands in their bodies, what their runs give, and that the laws hold of one.
use Rattle.std.proofs.Common.{◌≡◌, ℕ, zero, suc, ◌≤◌, lit≤, ◌^◌, ◌++◌, cond, length, ◌==◌, inl, inr, Bool, true, false, List, [], ◌∷◌, map, Some, None, refl, arith}
use Rattle.std.specs.Prelude.{codes, pos, slice_get, option_and_then}
use Rattle.step_meaning.specs.declared.value.NameKind.TheVariants as names
use Rattle.step_meaning.specs.declared.expr.Place_.{Place_}
use Rattle.step_meaning.specs.declared.value.IntKind.TheVariants as kind
use Rattle.step_meaning.specs.declared.expr.Expr.{Expr, end_of-Expr, more_of-Expr}
use Rattle.step_meaning.specs.declared.expr.Expr.TheVariants as e
use Rattle.step_meaning.specs.declared.predicate.Term.TheVariants as t
use Rattle.step_meaning.specs.declared.predicate.TermPlace.TheVariants as p
use Rattle.step_meaning.specs.declared.predicate.Predicate.{Predicate}
use Rattle.step_meaning.specs.declared.predicate.Predicate.TheVariants as is
use denote.Hole.Carrier.{hidden}
use Rattle.step_meaning.specs.declared.expr.CompareOp.TheVariants as comparing
use Rattle.step_meaning.specs.declared.stmt.Stmt.TheBlock.{shape-the_row-Stmt-0, hidden-the_row-Stmt-0}
use Rattle.step_meaning.specs.declared.stmt.Stmt.{Stmt, end_of-Stmt, more_of-Stmt}
use Rattle.step_meaning.specs.declared.stmt.Stmt.TheVariants as s
use Rattle.step_meaning.specs.declared.program.Declared.{Declared}
use Rattle.step_meaning.specs.declared.program.Function.{Function}
use Rattle.step_meaning.specs.declared.program.Core.{Core}
use Rattle.step_meaning.specs.declared.program.Hooks.{Hooks}
use Rattle.step_meaning.specs.declared.program.HookPoint.{HookPoint}
use Rattle.step_meaning.specs.declared.program.HookPlace.TheVariants as place
use Rattle.step_meaning.specs.Steps.{Exit, items, end}
use Rattle.step_meaning.specs.Runs.{run}
use Rattle.step_meaning.specs.Strict.{SetsRegisters}
use Rattle.step_meaning.specs.Identifiers.{keywords, is_keyword}
use Rattle.step_meaning.specs.WellFormed.{IsWellFormed, IsWellFormedFunction}
use Rattle.step_meaning.specs.Promises.{ReturnsRegistersAlone}
use Rattle.step_meaning.specs.Printable.{IsPrintable}
use Rattle.step_meaning.specs.Annotations.{PredicateFits}
use Rattle.step_meaning.specs.Verdicts.{verdicts}
use Rattle.step_meaning.specs.Fit.{PointFits, Fit, FitTogether, hook_setting, hook_allowed}
use Rattle.step_meaning.specs.FoldSimulation.{FoldSimulates}
use Rattle.step_meaning.proofs.Examples.{pointer_to, zero_cell, int, declared, lit, global, assign, return}
use Rattle.step_meaning.proofs.FoldExamples.{safe, apart_from_x, hooks, point, variable}
use Rattle.step_meaning.proofs.AnnotationExamples.{limited}
use Rattle.step_meaning.proofs.WellFormedExamples.{named, getchar, putchar, malloc, free}
use Rattle.step_meaning.proofs.TracedRuns.{well_formed_traced}
use Rattle.step_meaning.proofs.TypedRuns.{well_formed_faults_halt}
use Rattle.weaver_laws.specs.Bare.{IsBare}
use Rattle.weaver_laws.specs.NormalSizes.{KeepsSizes}
use Rattle.weaver_laws.specs.Weaving.{woven_core}
use Rattle.weaver_laws.specs.Joining.{joined}
use Rattle.weaver_laws.proofs.JoinedSimulation.{joined_simulates}
use Rattle.weaver_laws.proofs.JoinedFormed.{woven_prints}

-- ---- int x; int y; int main(void) { register int r; y = 1; x = 2; r = 0; return r; }

abbrev register : Place_
register = e.Own (record { kind = names.Register; index = 0 })

abbrev main : Function
main = record {
  name = codes "main";
  result = int;
  params = 0;
  locals = [];
  registers = declared int ∷ [];
  ghosts = [];
  body = Some (s.Eval (assign (global 1) int (lit 1)) ∷ s.Eval (assign (global 0) int (lit 2)) ∷ s.Eval (assign register int (lit 0)) ∷ return (e.Load register int) ∷ []);
}

abbrev writing : Core
writing = record {
  layouts = [];
  globals = named (codes "x") int ∷ named (codes "y") int ∷ [];
  initial = zero_cell ∷ zero_cell ∷ [];
  ghosts = [];
  functions = getchar ∷ putchar ∷ malloc ∷ free ∷ main ∷ [];
  start = 4;
}

-- ---- `main` never writes x

abbrev at_writes : HookPoint
at_writes = point 4 place.Write [] (safe apart_from_x ∷ [])

abbrev keep_x : Hooks
keep_x = hooks [] (at_writes ∷ [])

abbrev woven : Core
woven = woven_core writing (joined (keep_x ∷ []))

-- the address of a variable in the place of the accessed pointer, with the type of the object
abbrev apart : ℕ → Predicate
apart i = is.Separated (record { base = t.Address (p.Own (variable names.Global i)) int; ctype = int; span = None } ∷ record { base = t.Address (p.Own (variable names.Global 0)) int; ctype = int; span = None } ∷ [])

woven_body : option_and_then (λ f. f.body) (slice_get woven.functions 4)
    ≡ Some (s.Empty
    ∷ safe (apart 1) ∷ s.Eval (assign (global 1) int (lit 1))
    ∷ safe (apart 0) ∷ s.Eval (assign (global 0) int (lit 2))
    ∷ s.Eval (assign register int (lit 0))
    ∷ return (e.Load register int)
    ∷ [])
woven_body = refl

same_end : end (run woven [] 5) ≡ Exit (pos 0)
same_end = refl

first_is_true : map (λ v. v.truth) (verdicts (items (run woven [] 5))) ≡ (true ∷ false ∷ [])
first_is_true = refl

-- ---- int main(void) { register int *p; p = malloc(sizeof(int)); free(p); return 0; }, which is not to call `free`

abbrev pointer : Expr
pointer = e.Load register (pointer_to int)

abbrev allocation : Stmt
allocation = s.Eval (assign register (pointer_to int) (e.Malloc' tt (more_of-Expr (e.Literal kind.ULong (pos 1)) end_of-Expr) int))

abbrev release : Stmt
release = s.Eval (e.Free' tt (more_of-Expr pointer end_of-Expr))

abbrev allocating : Core
allocating = record writing { functions = getchar ∷ putchar ∷ malloc ∷ free ∷ record main { registers = declared (pointer_to int) ∷ []; body = Some (allocation ∷ release ∷ return (lit 0) ∷ []) } ∷ [] }

abbrev no_free : Hooks
no_free = hooks [] (point 4 place.Call [] (safe (is.Called 3 false) ∷ []) ∷ [])

abbrev woven_allocating : Core
woven_allocating = woven_core allocating (joined (no_free ∷ []))

calls_known : option_and_then (λ f. f.body) (slice_get woven_allocating.functions 4) ≡ Some (s.Empty ∷ safe is.True ∷ allocation ∷ safe is.False ∷ release ∷ return (lit 0) ∷ [])
calls_known = refl

free_is_called : map (λ v. v.truth) (verdicts (items (run woven_allocating [] 5))) ≡ (true ∷ false ∷ [])
free_is_called = refl

-- ---- int x; int main(void) { register int r; while (1) { r = x; if (r) { break; } else { } x = 1; } r = 0; return r; }, where x is at most 1 at every step

abbrev test : Stmt
test = s.If' (e.Load register int) tt (more_of-Stmt (s.Block (s.Break ∷ [])) end_of-Stmt) tt (more_of-Stmt (s.Block []) end_of-Stmt)

abbrev read_x : Stmt
read_x = s.Eval (assign register int (e.Load (global 0) int))

abbrev write_x : Stmt
write_x = s.Eval (assign (global 0) int (lit 1))

abbrev looping : Core
looping = record writing {
  functions = getchar ∷ putchar ∷ malloc ∷ free ∷ record main {
    body = Some (
        s.While' (lit 1) tt (more_of-Stmt (s.Block (read_x ∷ test ∷ write_x ∷ [])) end_of-Stmt)
        ∷ s.Eval (assign register int (lit 0))
        ∷ return (e.Load register int)
        ∷ []);
  } ∷ [];
}

abbrev at_most_one : Stmt
at_most_one = safe (is.Relation comparing.LessEqual (t.Load (p.Own (variable names.Global 0)) int) (t.Int (pos 1)))

abbrev woven_looping : Core
woven_looping = woven_core looping (joined (hooks [] (point 4 place.Changed [] (at_most_one ∷ []) ∷ []) ∷ []))

-- it stands at the start of the body and before the loop, before each access and at the end of the loop's body, before the assignment that may be a fault, and before the `return`
invariant_stands : option_and_then (λ f. f.body) (slice_get woven_looping.functions 4)
    ≡ Some (at_most_one ∷ s.Empty
    ∷ at_most_one ∷ s.While' (lit 1) tt (more_of-Stmt (s.Block (at_most_one ∷ read_x ∷ test ∷ at_most_one ∷ write_x ∷ at_most_one ∷ [])) end_of-Stmt)
    ∷ at_most_one ∷ s.Eval (assign register int (lit 0))
    ∷ at_most_one ∷ return (e.Load register int)
    ∷ [])
unfolding shape-the_row-Stmt-0 hidden-the_row-Stmt-0 hidden
invariant_stands = refl

looping_ends : end (run woven_looping [] 5) ≡ Exit (pos 0)
unfolding shape-the_row-Stmt-0 hidden-the_row-Stmt-0 hidden
looping_ends = refl

-- ---- the laws hold of it

getchar_fits : IsWellFormedFunction writing getchar
getchar_fits = record { result = refl; parameters_first = refl; parameters = refl; locals = refl; registers = refl; ghosts = refl; body = tt; names = tt }

putchar_fits : IsWellFormedFunction writing putchar
putchar_fits = record { result = refl; parameters_first = refl; parameters = refl; locals = refl; registers = refl; ghosts = refl; body = tt; names = tt }

main_fits : IsWellFormedFunction writing main
unfolding is_keyword keywords
main_fits = record { result = refl; parameters_first = refl; parameters = refl; locals = refl; registers = refl; ghosts = refl; body = (tt, (refl, (refl, (refl, (refl, tt))))); names = refl }

formed : IsWellFormed writing
unfolding is_keyword keywords
formed = record {
  structs = refl;
  globals = refl;
  initial = ((refl, tt), ((refl, tt), tt));
  ghosts = refl;
  getchar = refl;
  putchar = refl;
  malloc = refl;
  free = refl;
  main = refl;
  functions = (getchar_fits, (putchar_fits, (main_fits, tt)));
  file_names = refl;
  distinct_names = refl;
  tags = refl;
  distinct_tags = refl;
  member_names = refl;
}

bare : IsBare writing
bare = (tt, (tt, (tt, (tt, (refl, tt)))))

sets : SetsRegisters writing
sets input zero = refl
sets input (suc k) = refl

returns : ReturnsRegistersAlone writing
returns = (tt, (tt, (tt, (tt, ((tt, (tt, (tt, ((refl, refl), tt)))), tt)))))

sizes : KeepsSizes writing
sizes = record { bodies = refl; struct_types = refl; global_types = refl; function_types = refl }

apart_fits : PredicateFits (hook_setting writing keep_x 4) (hook_allowed writing at_writes) apart_from_x
apart_fits = record { kinds = (lit≤ tt, (inr (refl, refl, refl), (inl (refl, tt), tt))); limited = ((limited _ tt tt tt tt, tt), ((tt, tt), tt)) }

writes_fit : PointFits writing keep_x at_writes
writes_fit =
    record {
      function = (main, (refl, refl));
      saves = tt;
      statements = (refl, tt);
      sets_own = (tt, tt);
      saves_at_enter = (tt, tt);
      no_ghost_address = search;
      uses = search;
      changed = tt;
      past = search;
      depth = (tt, tt);
      size = (lit≤ tt, tt);
      fits = (apart_fits, tt);
    }

no_saves : (b : Bool) → length (cond {A = List Declared} b [] [] ++ []) ≤ 2 ^ 26
no_saves true = lit≤ tt
no_saves false = lit≤ tt

keep_x_fits : Fit writing keep_x
keep_x_fits = record { globals = tt; few_globals = lit≤ tt; few_saves = λ f. no_saves (4 == f); points = (writes_fit, tt) }

together : FitTogether writing (keep_x ∷ [])
together = record { each = (keep_x_fits, tt); from_one = ((lit≤ tt, lit≤ tt), tt); distinct = λ i j d lt lt'. absurd (omega arith); numbered = ((λ some. refl), tt) }

pub simulates : FoldSimulates writing (keep_x ∷ []) woven
simulates = joined_simulates writing (keep_x ∷ []) well_formed_traced well_formed_faults_halt formed refl bare sets together

pub printable : IsPrintable woven
printable = woven_prints writing (keep_x ∷ []) formed refl bare returns sizes together
