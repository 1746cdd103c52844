-- The normal forms of small programs are normal, well typed and small.
use Rattle.std.proofs.Common.{◌≡◌, ℕ, Bool, true, false, ◌&&◌, refl, List, [], ◌∷◌, Option, Some, None}
use Rattle.std.specs.Prelude.{pos, slice_get, option_and_then}
use Rattle.std.specs.List.{list_all}
use Rattle.step_meaning.specs.declared.value.IntKind.TheVariants as kind
use Rattle.step_meaning.specs.declared.expr.Expr.{Expr, end_of-Expr, more_of-Expr}
use Rattle.step_meaning.specs.declared.expr.Expr.TheVariants as e
use Rattle.step_meaning.specs.declared.expr.CompareOp.{CompareOp}
use Rattle.step_meaning.specs.declared.expr.IntOp.TheVariants as op
use denote.Hole.Carrier.{hidden}
use Rattle.step_meaning.specs.declared.expr.Expr.TheBlock.{shape-the_row-Expr-0, hidden-the_row-Expr-0, shape-the_row-Expr-1, hidden-the_row-Expr-1}
use Rattle.step_meaning.specs.declared.stmt.Stmt.TheBlock.{shape-the_row-Stmt-0, hidden-the_row-Stmt-0, shape-the_row-Stmt-1, hidden-the_row-Stmt-1}
use Rattle.step_meaning.specs.declared.stmt.Stmt.{Stmt, Row_of-Stmt, end_of-Stmt, more_of-Stmt}
use Rattle.step_meaning.specs.declared.stmt.Stmt.TheVariants as s
use Rattle.step_meaning.specs.declared.program.Core.{Core}
use Rattle.step_meaning.specs.declared.program.Function.{Function}
use Rattle.step_meaning.specs.ExpressionTypes.{has_a_type, is_condition, pointer_to}
use Rattle.step_meaning.specs.StatementRules.{may_return}
use Rattle.step_meaning.specs.TypeRules.{is_scalar_type}
use Rattle.step_meaning.specs.Settings.{code_setting}
use Rattle.step_meaning.specs.Normal.{are_normal_functions}
use Rattle.step_meaning.specs.Printable.{is_small_body}
use Rattle.step_meaning.proofs.Examples.{int, lit, global, local, load, deref, assign, binary, return, loop_continues, narrowing, dangling, null_write}
use Rattle.step_meaning.proofs.WellFormedExamples.{getchar, putchar, malloc, free, add, adding, main_with}
use Rattle.normal_laws.specs.NormalForm.{register, normal_core}

-- what is asked of code without annotations
module _ (q : Core) (f : Function) where
  abbrev mutual
    well_typed : Bool → Stmt → Bool
    well_typed loop s.Empty = true
    well_typed loop (s.Eval e) = has_a_type q (code_setting q f) e
    well_typed loop (s.Block' b ss) = row_typed loop ss
    well_typed loop (s.If' e b (more_of-Stmt x end_of-Stmt) c (more_of-Stmt u end_of-Stmt)) = is_condition q (code_setting q f) e && (well_typed loop x && well_typed loop u)
    well_typed loop (s.While' e b (more_of-Stmt x end_of-Stmt)) = is_condition q (code_setting q f) e && well_typed true x
    well_typed loop s.Break = loop
    well_typed loop s.Continue = loop
    well_typed loop (s.Return e) = may_return q f f.result e
    well_typed loop _ = false

    row_typed : {n : _} → Bool → Row_of-Stmt n → Bool
    row_typed loop end_of-Stmt = true
    row_typed loop (more_of-Stmt x more) = well_typed loop x && row_typed loop more

  abbrev body_typed : Option (List Stmt) → Bool
  body_typed None = true
  body_typed (Some ss) = list_all (well_typed false) ss

abbrev is_right : Core → Bool
is_right q = are_normal_functions q 0 q.functions && list_all (λ f. body_typed q f f.body && (list_all (λ d. is_scalar_type q.layouts d.ctype) f.registers && is_small_body f.body)) q.functions

adding_normal : is_right (normal_core adding) ≡ true
unfolding shape-the_row-Stmt-0 hidden-the_row-Stmt-0 shape-the_row-Stmt-1 hidden-the_row-Stmt-1 shape-the_row-Expr-0 hidden-the_row-Expr-0 shape-the_row-Expr-1 hidden-the_row-Expr-1 hidden
adding_normal = refl

loop_normal : is_right (normal_core loop_continues) ≡ true
unfolding shape-the_row-Stmt-0 hidden-the_row-Stmt-0 shape-the_row-Stmt-1 hidden-the_row-Stmt-1 shape-the_row-Expr-0 hidden-the_row-Expr-0 shape-the_row-Expr-1 hidden-the_row-Expr-1 hidden
loop_normal = refl

narrowing_normal : is_right (normal_core narrowing) ≡ true
unfolding shape-the_row-Stmt-0 hidden-the_row-Stmt-0 shape-the_row-Stmt-1 hidden-the_row-Stmt-1 shape-the_row-Expr-0 hidden-the_row-Expr-0 shape-the_row-Expr-1 hidden-the_row-Expr-1 hidden
narrowing_normal = refl

dangling_normal : is_right (normal_core dangling) ≡ true
unfolding shape-the_row-Stmt-0 hidden-the_row-Stmt-0 shape-the_row-Stmt-1 hidden-the_row-Stmt-1 shape-the_row-Expr-0 hidden-the_row-Expr-0 shape-the_row-Expr-1 hidden-the_row-Expr-1 hidden
dangling_normal = refl

null_write_normal : is_right (normal_core null_write) ≡ true
unfolding shape-the_row-Stmt-0 hidden-the_row-Stmt-0 shape-the_row-Stmt-1 hidden-the_row-Stmt-1 shape-the_row-Expr-0 hidden-the_row-Expr-0 shape-the_row-Expr-1 hidden-the_row-Expr-1 hidden
null_write_normal = refl

-- ---- further forms, in the program with a list

abbrev target : Expr
target = e.Load (global 1) (pointer_to int)

abbrev with_body : List Stmt → Core
with_body body = record adding { functions = getchar ∷ putchar ∷ malloc ∷ free ∷ add ∷ main_with body ∷ [] }

abbrev choose : Expr → Expr → Expr → Expr
choose a b c = e.Choose' tt (more_of-Expr a end_of-Expr) tt (more_of-Expr b end_of-Expr) tt (more_of-Expr c end_of-Expr)

abbrev compared : CompareOp → Expr → Expr → Expr
compared o a b = e.Compare' o tt (more_of-Expr a end_of-Expr) tt (more_of-Expr b end_of-Expr)

-- (target = 0) < target; *(target = 0); !(i ? 0 : 0); target = i ? 0 : target; i && target; (void) i, chosen
assigned_null : is_right (normal_core (with_body (s.Eval (compared Rattle.step_meaning.specs.declared.expr.CompareOp.TheVariants.Less (assign (global 1) (pointer_to int) e.Null) target) ∷ []))) ≡ true
unfolding shape-the_row-Stmt-0 hidden-the_row-Stmt-0 shape-the_row-Stmt-1 hidden-the_row-Stmt-1 shape-the_row-Expr-0 hidden-the_row-Expr-0 shape-the_row-Expr-1 hidden-the_row-Expr-1 hidden
assigned_null = refl

null_pointed : is_right (normal_core (with_body (s.Eval (load (deref (assign (global 1) (pointer_to int) e.Null))) ∷ []))) ≡ true
unfolding shape-the_row-Stmt-0 hidden-the_row-Stmt-0 shape-the_row-Stmt-1 hidden-the_row-Stmt-1 shape-the_row-Expr-0 hidden-the_row-Expr-0 shape-the_row-Expr-1 hidden-the_row-Expr-1 hidden
null_pointed = refl

null_twice : is_right (normal_core (with_body (s.Eval (e.Not' tt (more_of-Expr (choose (load (local 0)) e.Null e.Null) end_of-Expr)) ∷ []))) ≡ true
unfolding shape-the_row-Stmt-0 hidden-the_row-Stmt-0 shape-the_row-Stmt-1 hidden-the_row-Stmt-1 shape-the_row-Expr-0 hidden-the_row-Expr-0 shape-the_row-Expr-1 hidden-the_row-Expr-1 hidden
null_twice = refl

null_chosen : is_right (normal_core (with_body (s.Eval (assign (global 1) (pointer_to int) (choose (load (local 0)) e.Null target)) ∷ []))) ≡ true
unfolding shape-the_row-Stmt-0 hidden-the_row-Stmt-0 shape-the_row-Stmt-1 hidden-the_row-Stmt-1 shape-the_row-Expr-0 hidden-the_row-Expr-0 shape-the_row-Expr-1 hidden-the_row-Expr-1 hidden
null_chosen = refl

void_chosen : is_right (normal_core (with_body (s.Eval (choose target (e.Discard' tt (more_of-Expr (load (local 0)) end_of-Expr)) (e.Discard' tt (more_of-Expr target end_of-Expr))) ∷ []))) ≡ true
unfolding shape-the_row-Stmt-0 hidden-the_row-Stmt-0 shape-the_row-Stmt-1 hidden-the_row-Stmt-1 shape-the_row-Expr-0 hidden-the_row-Expr-0 shape-the_row-Expr-1 hidden-the_row-Expr-1 hidden
void_chosen = refl

both_taken : is_right (normal_core (with_body (s.Eval (assign (local 0) int (e.Both' tt (more_of-Expr target end_of-Expr) tt (more_of-Expr (load (local 0)) end_of-Expr))) ∷ []))) ≡ true
unfolding shape-the_row-Stmt-0 hidden-the_row-Stmt-0 shape-the_row-Stmt-1 hidden-the_row-Stmt-1 shape-the_row-Expr-0 hidden-the_row-Expr-0 shape-the_row-Expr-1 hidden-the_row-Expr-1 hidden
both_taken = refl

-- ---- the heap: target = malloc(sizeof(int)); free(target); free(0); and free(target = 0)

abbrev allocated_one : Expr
allocated_one = e.Malloc' tt (more_of-Expr (e.Literal kind.ULong (pos 1)) end_of-Expr) int

abbrev free_of : Expr → Stmt
free_of a = s.Eval (e.Free' tt (more_of-Expr a end_of-Expr))

heap_taken : is_right (normal_core (with_body (s.Eval (assign (global 1) (pointer_to int) allocated_one) ∷ free_of target ∷ free_of e.Null ∷ free_of (assign (global 1) (pointer_to int) e.Null) ∷ []))) ≡ true
unfolding shape-the_row-Stmt-0 hidden-the_row-Stmt-0 shape-the_row-Stmt-1 hidden-the_row-Stmt-1 shape-the_row-Expr-0 hidden-the_row-Expr-0 shape-the_row-Expr-1 hidden-the_row-Expr-1 hidden
heap_taken = refl

-- ---- the code of small bodies: i = getchar(); and return i; where the `}` of `main` returns 0 besides

abbrev taken : ℕ → Expr → Stmt
taken i a = s.Eval (assign (register i) int a)

abbrev held : ℕ → Expr
held i = load (register i)

abbrev body_of : Core → List Stmt
body_of q = statements (option_and_then (λ f. f.body) (slice_get q.functions q.start))
  where
    statements : Option (List Stmt) → List Stmt
    statements None = []
    statements (Some ss) = ss

byte_taken : body_of (normal_core (with_body (s.Eval (assign (local 0) int e.GetChar) ∷ [])))
    ≡ (s.Empty ∷ taken 0 e.GetChar ∷ s.Eval (assign (local 0) int (held 0)) ∷ taken 1 (lit 0) ∷ return (held 1) ∷ [])
byte_taken = refl

value_returned : body_of (normal_core (with_body (return (load (local 0)) ∷ [])))
    ≡ (s.Empty ∷ taken 0 (load (local 0)) ∷ taken 1 (held 0) ∷ return (held 1) ∷ taken 2 (lit 0) ∷ return (held 2) ∷ [])
value_returned = refl

-- getchar() + i: operands from left to right, each in a register
operands_in_order : body_of (normal_core (with_body (s.Eval (binary op.Add kind.Int e.GetChar (load (local 0))) ∷ [])))
    ≡ (s.Empty ∷ taken 0 e.GetChar ∷ taken 1 (load (local 0)) ∷ taken 2 (binary op.Add kind.Int (held 0) (held 1)) ∷ taken 3 (lit 0) ∷ return (held 3) ∷ [])
operands_in_order = refl
