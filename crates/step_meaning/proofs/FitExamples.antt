-- Hooks that fit a program, and hooks that break one rule each. The program is
-- `int x; int y; void f(void) { y = 1; } int main(void) { f(); x = 2; return 0; }`; where a parameter is needed it is `int x; void f(int n) { .. }`.
use Rattle.std.proofs.Common.{◌≡◌, ℕ, zero, suc, ◌≤◌, ◌<◌, ◌^◌, ◌+◌, Bool, true, false, refl, List, [], ◌∷◌, length, replicate, Some, None, Option, lit≤, lit<, arith, subst, sym, ap, ◌∙◌, append-nil, inl, inr}
use Rattle.std.specs.Prelude.{pos, cond, ◌==◌, ◌++◌, IsTrue}
use Rattle.std.proofs.lemmas.List.{length-replicate}
use Rattle.step_meaning.specs.declared.value.CType.{CType}
use Rattle.step_meaning.specs.declared.value.CType.TheVariants as type
use Rattle.step_meaning.specs.declared.value.NameKind.{NameKind}
use Rattle.step_meaning.specs.declared.value.NameKind.TheVariants as names
use Rattle.step_meaning.specs.declared.expr.IntOp.TheVariants as op
use Rattle.step_meaning.specs.declared.expr.CompareOp.TheVariants as comparing
use Rattle.step_meaning.specs.declared.predicate.Term.{Term, end_of-Term, more_of-Term}
use Rattle.step_meaning.specs.declared.predicate.Term.TheVariants as t
use Rattle.step_meaning.specs.declared.predicate.TermPlace.TheVariants as p
use Rattle.step_meaning.specs.declared.predicate.EventKind.TheVariants as event
use Rattle.step_meaning.specs.declared.predicate.Predicate.{Predicate, end_of-Predicate, more_of-Predicate}
use Rattle.step_meaning.specs.declared.predicate.Predicate.TheVariants as is
use Rattle.step_meaning.specs.declared.stmt.VerdictKind.TheVariants.{Safe, Accept}
use Rattle.step_meaning.specs.declared.stmt.GhostStmt.{GhostStmt, end_of-GhostStmt, more_of-GhostStmt}
use Rattle.step_meaning.specs.declared.stmt.GhostStmt.TheVariants.{Set, When'}
use Rattle.step_meaning.specs.declared.stmt.Stmt.{Stmt}
use Rattle.step_meaning.specs.declared.stmt.Stmt.TheVariants as s
use Rattle.step_meaning.specs.declared.program.Declared.{Declared}
use Rattle.step_meaning.specs.declared.program.Function.{Function}
use Rattle.step_meaning.specs.declared.program.Hooks.{Hooks}
use Rattle.step_meaning.specs.declared.program.HookPoint.{HookPoint}
use Rattle.step_meaning.specs.declared.program.HookPlace.TheVariants as place
use Rattle.step_meaning.specs.Annotations.{PredicateFits}
use Rattle.step_meaning.specs.Fit.{Fit, PointFits, FitTogether, hook_setting, hook_allowed}
use Rattle.step_meaning.specs.Traced.{IsFunctionOf}
use Rattle.step_meaning.specs.ExpressionTypes.{has_body}
use Rattle.step_meaning.proofs.Examples.{int, pointer_to, array_of, declared, lit, library}
use Rattle.step_meaning.proofs.AnnotationExamples.{limited, false_is_not_true, some_is_not_none}
use Rattle.step_meaning.proofs.FoldExamples.{point, hooks, variable, read, safe, two_writes, recursion, keep_x, apart_from_x, save, one_more}

-- ---- hooks that fit

few_of : (b c : Bool) (xs : List Declared) → length xs ≤ 1 → length (cond b xs [] ++ (cond c [] [] ++ [])) ≤ 2 ^ 26
few_of true true [] h = lit≤ tt
few_of true false [] h = lit≤ tt
few_of false true [] h = lit≤ tt
few_of false false [] h = lit≤ tt
few_of true true (x ∷ []) h = lit≤ tt
few_of true false (x ∷ []) h = lit≤ tt
few_of false true (x ∷ []) h = lit≤ tt
few_of false false (x ∷ []) h = lit≤ tt
few_of b c (x ∷ y ∷ xs) h = absurd (omega arith)

abbrev write_in : ℕ → HookPoint
write_in f = point f place.Write [] (safe apart_from_x ∷ [])

-- `\written` is an access at a Write point, in `f` and in `main`
module _ (f : ℕ) where
  apart_fits : PredicateFits (hook_setting two_writes keep_x f) (hook_allowed two_writes (write_in f)) apart_from_x
  apart_fits =
      record {
        kinds = (lit≤ tt, (inr (refl, refl, refl), (inl (refl, tt), tt)));
        limited = ((limited _ tt tt tt tt, tt), ((tt, tt), tt));
      }

  write_fits : (g : Function) → IsFunctionOf two_writes f g → PointFits two_writes keep_x (write_in f)
  write_fits g is_function =
      record {
        function = (g, is_function);
        saves = tt;
        statements = (refl, tt);
        sets_own = (tt, tt);
        saves_at_enter = (tt, tt);
        no_ghost_address = search;
        uses = search;
        changed = tt;
        past = search;
        depth = (tt, tt);
        size = (lit≤ tt, tt);
        fits = (apart_fits, tt);
      }

keep_x_fits : Fit two_writes keep_x
keep_x_fits =
    record {
      globals = tt;
      few_globals = lit≤ tt;
      few_saves = λ f. few_of (4 == f) (5 == f) [] (lit≤ tt);
      points = (write_fits 4 _ (refl, refl), (write_fits 5 _ (refl, refl), tt));
    }

keep_x_alone : FitTogether two_writes (keep_x ∷ [])
keep_x_alone = record { each = (keep_x_fits, tt); from_one = ((lit≤ tt, lit≤ tt), tt); distinct = λ i j d lt lt'. absurd (omega arith); numbered = ((λ some. refl), tt) }

-- the same twice has one monitor number
keep_x_twice : FitTogether two_writes (keep_x ∷ keep_x ∷ []) → ⊥
keep_x_twice f = f.distinct 0 1 keep_x (lit< tt) (lit< tt) refl

-- a save at Enter, which an assertion at Return reads
abbrev saving : Hooks
saving = hooks [] (point 4 place.Enter (declared int ∷ []) (save names.GhostLocal ∷ []) ∷ point 4 place.Return [] (one_more names.GhostLocal ∷ []) ∷ [])

saving_fits : Fit recursion saving
saving_fits =
    record {
      globals = tt;
      few_globals = lit≤ tt;
      few_saves = λ f. few_of (4 == f) (4 == f) (declared int ∷ []) (lit≤ tt);
      points = (enter, (leave, tt));
    }
  where
    enter : PointFits recursion saving (point 4 place.Enter (declared int ∷ []) (save names.GhostLocal ∷ []))
    enter =
        record {
          function = (_, (refl, refl));
          saves = (record { scalar = refl; layouts = tt; rules = refl; depth = lit≤ tt }, tt);
          statements = (tt, tt);
          sets_own = (lit< tt, tt);
          saves_at_enter = (refl, tt);
          no_ghost_address = search;
          uses = search;
          changed = tt;
          past = search;
          depth = (lit≤ tt, tt);
          size = (lit≤ tt, tt);
          fits = (record { ghost = tt; takes = tt; limited = (limited _ tt tt tt tt, tt) }, tt);
        }

    leave : PointFits recursion saving (point 4 place.Return [] (one_more names.GhostLocal ∷ []))
    leave =
        record {
          function = (_, (refl, refl));
          saves = tt;
          statements = (refl, tt);
          sets_own = (tt, tt);
          saves_at_enter = (tt, tt);
          no_ghost_address = search;
          uses = ((tt, (tt, tt), (tt, (tt, lit< tt), tt)), tt);
          changed = tt;
          past = search;
          depth = (tt, tt);
          size = (lit≤ tt, tt);
          fits = (record { kinds = refl; limited = ((limited _ tt tt tt tt, tt), (limited _ tt tt tt tt, (limited _ tt tt tt tt, tt), limited _ tt tt tt tt)) }, tt);
        }

-- the same assertion at every step
always_fits : PointFits recursion saving (point 4 place.Changed [] (one_more names.GhostLocal ∷ []))
always_fits =
    record {
      function = (_, (refl, refl));
      saves = tt;
      statements = (refl, tt);
      sets_own = (tt, tt);
      saves_at_enter = (tt, tt);
      no_ghost_address = search;
      uses = ((tt, (tt, tt), (tt, (tt, lit< tt), tt)), tt);
      changed = search;
      past = search;
      depth = (tt, tt);
      size = (lit≤ tt, tt);
      fits = (record { kinds = refl; limited = ((limited _ tt tt tt tt, tt), (limited _ tt tt tt tt, (limited _ tt tt tt tt, tt), limited _ tt tt tt tt)) }, tt);
    }

-- ---- hooks that don't fit: one point in the first program, with one ghost variable of file scope

not_next : (n : ℕ) → suc n ≡ n → ⊥
not_next n h = omega arith

abbrev one_point : HookPoint → Hooks
one_point pt = hooks (declared int ∷ []) (pt ∷ [])

refuted : IsTrue false → ⊥
refuted h = cc

abbrev Refused : HookPoint → Type 0
Refused pt = Fit two_writes (one_point pt) → ⊥

-- a point names a function with a body: not `getchar`, and no function that isn't there
no_body : Refused (point 0 place.Enter [] [])
no_body f = without (f.points.0.function.0) (f.points.0.function.1.0) (f.points.0.function.1.1)
  where
    without : (g : Function) → Some library ≡ Some g → IsTrue (has_body g) → ⊥
    without g e b = refuted (subst (λ o. IsTrue (one_with_body o)) (sym e) b)
      where
        one_with_body : Option Function → Bool
        one_with_body None = false
        one_with_body (Some g) = has_body g

no_function : Refused (point 6 place.Enter [] [])
no_function f = some_is_not_none _ (f.points.0.function.1.0)

-- ghosts are scalars of types that keep the rules
array_save : Refused (point 4 place.Enter (declared (array_of int 3) ∷ []) [])
array_save f = refuted f.points.0.saves.0.scalar

void_pointer_save : Refused (point 4 place.Enter (declared (pointer_to type.Void) ∷ []) [])
void_pointer_save f = refuted f.points.0.saves.0.rules

unknown_struct_save : Refused (point 4 place.Enter (declared (pointer_to (type.Struct 0)) ∷ []) [])
unknown_struct_save f = let h : 0 < 0 = f.points.0.saves.0.layouts in omega arith

abbrev pointers : ℕ → CType
pointers zero = int
pointers (suc n) = pointer_to (pointers n)

deep_save : Refused (point 4 place.Enter (declared (pointers 100) ∷ []) [])
deep_save f = let h : 101 ≤ 100 = f.points.0.saves.0.depth in omega arith

array_global : Fit two_writes (hooks (declared (array_of int 3) ∷ []) []) → ⊥
array_global f = refuted f.globals.0.scalar

-- at most 2 ^ 26 of them
many_globals : (n : ℕ) → 2 ^ 26 < n → Fit two_writes (hooks (replicate n (declared int)) []) → ⊥
many_globals n h f = let k : n ≤ 2 ^ 26 = subst (λ m. m ≤ 2 ^ 26) (length-replicate n (declared int)) f.few_globals in omega arith

many_saves : (n : ℕ) → 2 ^ 26 < n → Fit two_writes (hooks [] (point 4 place.Enter (replicate n (declared int)) [] ∷ [])) → ⊥
many_saves n h f =
    let k : n ≤ 2 ^ 26 = subst (λ m. m ≤ 2 ^ 26) (ap length (append-nil (replicate n (declared int))) ∙ length-replicate n (declared int)) (f.few_saves 4) in
    omega arith

-- ghost statements, and assertions of the monitor
other_statement : Refused (point 4 place.Enter [] (s.Eval (lit 0) ∷ []))
other_statement f = f.points.0.statements.0

other_monitor : Refused (point 4 place.Enter [] (s.Assert Safe 2 is.True ∷ []))
other_monitor f = not_next 1 f.points.0.statements.0

-- the hooks' own ghosts are set
abbrev set : NameKind → ℕ → Term → Stmt
set k i e = s.Ghost (Set (variable k i) e)

abbrev one : Term
one = t.Int (pos 1)

other_global : Refused (point 4 place.Enter [] (set names.GhostGlobal 1 one ∷ []))
other_global f = let h : 1 < 0 + 1 = f.points.0.sets_own.0.1 in omega arith

earlier_global : Fit two_writes (record (one_point (point 4 place.Enter [] (set names.GhostGlobal 0 one ∷ []))) { first = 1 }) → ⊥
earlier_global f = let h : 1 ≤ 0 = f.points.0.sets_own.0.0 in omega arith

source_set : Refused (point 4 place.Enter [] (set names.Global 0 one ∷ []))
source_set f = f.points.0.sets_own.0

-- saves at Enter points alone
save_at_return : Refused (point 4 place.Return (declared int ∷ []) (set names.GhostLocal 0 one ∷ []))
save_at_return f = false_is_not_true f.points.0.saves_at_enter.0

-- no address of a ghost
abbrev address : NameKind → ℕ → Term
address k i = t.Address (p.Own (variable k i)) int

ghost_address : Refused (point 4 place.Enter [] (safe (is.Relation comparing.Equal (address names.GhostGlobal 0) t.Null) ∷ []))
ghost_address f = f.points.0.no_ghost_address.0.1.0 tt

-- nothing of the program but its variables of file scope
abbrev is_one : Term → Stmt
is_one e = safe (is.Relation comparing.Equal e one)

local_read : Refused (point 4 place.Enter [] (is_one (read names.Local 0) ∷ []))
local_read f = f.points.0.uses.0.1.1

register_read : Refused (point 4 place.Enter [] (is_one (read names.Register 0) ∷ []))
register_read f = f.points.0.uses.0.1.1

-- the access at Read and Write, a call at Call, parameters at Enter and of the function, a result at Return
access_at_enter : Refused (point 4 place.Enter [] (safe apart_from_x ∷ []))
access_at_enter f = false_is_not_true f.points.0.uses.0.1.0.0

call_at_enter : Refused (point 4 place.Enter [] (safe (is.Called 4 true) ∷ []))
call_at_enter f = false_is_not_true f.points.0.uses.0

parameter_at_return : Fit recursion (hooks [] (point 4 place.Return [] (is_one (t.Parameter 4 0) ∷ []) ∷ [])) → ⊥
parameter_at_return f = false_is_not_true f.points.0.uses.0.1.0

parameter_of_other : Fit recursion (hooks [] (point 5 place.Enter [] (is_one (t.Parameter 4 0) ∷ []) ∷ [])) → ⊥
parameter_of_other f = not_next 4 (sym f.points.0.uses.0.1.1)

parameter_missing : Fit recursion (hooks [] (point 4 place.Enter [] (is_one (t.Parameter 4 1) ∷ []) ∷ [])) → ⊥
parameter_missing f = f.points.0.fits.0.kinds

result_at_enter : Refused (point 5 place.Enter [] (is_one (t.Result 5) ∷ []))
result_at_enter f = false_is_not_true f.points.0.uses.0.1.0

void_result : Refused (point 4 place.Return [] (is_one (t.Result 4) ∷ []))
void_result f = f.points.0.fits.0.kinds

-- a Changed point is one Safe assertion over variables of file scope and saves
two_assertions : Refused (point 4 place.Changed [] (safe is.True ∷ safe is.True ∷ []))
two_assertions f = f.points.0.changed

accept_changed : Refused (point 4 place.Changed [] (s.Assert Accept 1 is.True ∷ []))
accept_changed f = f.points.0.changed

global_ghost_changed : Refused (point 4 place.Changed [] (is_one (read names.GhostGlobal 0) ∷ []))
global_ghost_changed f = f.points.0.changed.1.1

-- no `\at(.., Pre)` and no event
entered_read : Refused (point 4 place.Return [] (is_one (t.AtPre (p.Own (variable names.Global 0)) int) ∷ []))
entered_read f = f.points.0.past.0.1.0

event_named : Refused (point 4 place.Enter [] (safe (is.Event event.Call 4) ∷ []))
event_named f = f.points.0.past.0

-- depth and size
abbrev whens : ℕ → GhostStmt
whens zero = Set (variable names.GhostGlobal 0) one
whens (suc n) = When' is.True (tt ∷ []) (more_of-GhostStmt (whens n) end_of-GhostStmt) [] end_of-GhostStmt

deep_code : Refused (point 4 place.Enter [] (s.Ghost (whens 100) ∷ []))
deep_code f = let h : 101 ≤ 100 = f.points.0.depth.0 in omega arith

abbrev nots : ℕ → Predicate
nots zero = is.True
nots (suc n) = is.Not' tt (more_of-Predicate (nots n) end_of-Predicate)

large_predicate : Refused (point 4 place.Enter [] (safe (nots 900) ∷ []))
large_predicate f = let h : 901 ≤ 900 = f.points.0.size.0 in omega arith

-- kinds, constants and intervals
integer_and_null : Refused (point 4 place.Enter [] (safe (is.Relation comparing.Equal (read names.Global 0) t.Null) ∷ []))
integer_and_null f = false_is_not_true f.points.0.fits.0.kinds

pointer_into_integer : Refused (point 4 place.Enter [] (set names.GhostGlobal 0 (address names.Global 0) ∷ []))
pointer_into_integer f = f.points.0.fits.0.takes

large_constant : Refused (point 4 place.Enter [] (is_one (t.Int (pos (2 ^ 64))) ∷ []))
large_constant f = f.points.0.fits.0.kinds

-- x * x * x * x * x
abbrev power : ℕ → Term
power zero = read names.Global 0
power (suc n) = t.Arith' op.Mul tt (more_of-Term (power n) end_of-Term) tt (more_of-Term (read names.Global 0) end_of-Term)

wide_term : Refused (point 4 place.Enter [] (is_one (power 4) ∷ []))
wide_term f = f.points.0.fits.0.limited.0.0.0.0.le
