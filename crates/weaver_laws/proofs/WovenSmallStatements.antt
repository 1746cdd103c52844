-- Woven statements have expressions and annotations within the limits, where those of the source and of the hooks are.
use Rattle.std.proofs.Common.{◌≡◌, ℕ, Bool, true, false, cond, ◌&&◌, List, [], ◌∷◌, ◌++◌, refl}
use Rattle.std.specs.Prelude.{◌==◌, IsTrue}
use denote.Hole.Carrier.{hidden}
use Rattle.std.specs.List.{AllByRecursion}
use Rattle.step_meaning.specs.declared.expr.Expr.{Expr, end_of-Expr, more_of-Expr}
use Rattle.step_meaning.specs.declared.expr.Expr.TheVariants as ex
use Rattle.step_meaning.specs.declared.stmt.Stmt.{Stmt, Row_of-Stmt, end_of-Stmt, more_of-Stmt}
use Rattle.step_meaning.specs.declared.stmt.Stmt.TheVariants as st
use Rattle.step_meaning.specs.declared.stmt.Stmt.TheBlock.{shape-the_row-Stmt-0, hidden-the_row-Stmt-0}
use Rattle.step_meaning.specs.declared.program.Core.{Core}
use Rattle.step_meaning.specs.declared.program.Hooks.{Hooks}
use Rattle.step_meaning.specs.declared.program.HookPoint.{HookPoint}
use Rattle.step_meaning.specs.declared.program.HookPlace.{HookPlace}
use Rattle.step_meaning.specs.declared.program.HookPlace.TheVariants as place
use Rattle.step_meaning.specs.ExpressionTypes.{is_register}
use Rattle.step_meaning.specs.Fit.{PointFitsFor}
use Rattle.step_meaning.specs.Printable.{is_small, is_small_or_nothing, is_small_within, are_small_within}
use Rattle.weaver_laws.specs.Weaving.{substitute_ghost, substitute_predicate, empty_substitution, Substitution, substitute_code, code_for, code_before, changed_code, code_before_value, code_before_expression, woven_statement, woven_row, woven_all, return_substitution, call_substitution, access_substitution, fits_place}
use Rattle.weaver_laws.proofs.NormalBodies.{both}
use Rattle.weaver_laws.proofs.Basics.{and_left, and_right}
use Rattle.weaver_laws.proofs.WovenSizes.{IsSmall, accesses_small, calls_small, nothing_small, returns_small}
use Rattle.weaver_laws.proofs.WovenSmall.{code_small}

abbrev pub all_small : List Stmt → Bool
all_small [] = true
all_small (s ∷ ss) = is_small_within s && all_small ss

pub small_append : (xs ys : List Stmt) → all_small xs ≡ true → all_small ys ≡ true → all_small (xs ++ ys) ≡ true
small_append [] ys x y = y
small_append (s ∷ xs) ys x y = both (is_small_within s) (all_small (xs ++ ys)) (and_left (is_small_within s) (all_small xs) x) (small_append xs ys (and_right (is_small_within s) (all_small xs) x) y)

each_small : (xs : List Stmt) → AllByRecursion (λ s. IsTrue (is_small_within s)) xs → all_small xs ≡ true
each_small [] x = refl
each_small (s ∷ xs) x = both (is_small_within s) (all_small xs) x.0 (each_small xs x.1)

block_small : (l : List Stmt) → all_small l ≡ true → are_small_within (hidden-the_row-Stmt-0 l) ≡ true
unfolding shape-the_row-Stmt-0 hidden-the_row-Stmt-0 hidden
block_small [] x = refl
block_small (s ∷ l) x = both (is_small_within s) _ (and_left (is_small_within s) (all_small l) x) (block_small l (and_right (is_small_within s) (all_small l) x))

substitute_two : (r : Substitution) (xs ys : List Stmt) → all_small (substitute_code r xs) ≡ true → all_small (substitute_code r ys) ≡ true → all_small (substitute_code r (xs ++ ys)) ≡ true
substitute_two r [] ys x y = y
substitute_two r (st.Ghost g ∷ xs) ys x y = both (is_small_within (st.Ghost (substitute_ghost r g))) (all_small (substitute_code r (xs ++ ys))) (and_left (is_small_within (st.Ghost (substitute_ghost r g))) (all_small (substitute_code r xs)) x) (substitute_two r xs ys (and_right (is_small_within (st.Ghost (substitute_ghost r g))) (all_small (substitute_code r xs)) x) y)
substitute_two r (st.Assert v k p ∷ xs) ys x y = both (is_small_within (st.Assert v k (substitute_predicate r p))) (all_small (substitute_code r (xs ++ ys))) (and_left (is_small_within (st.Assert v k (substitute_predicate r p))) (all_small (substitute_code r xs)) x) (substitute_two r xs ys (and_right (is_small_within (st.Assert v k (substitute_predicate r p))) (all_small (substitute_code r xs)) x) y)
substitute_two r (_ ∷ xs) ys x y = substitute_two r xs ys x y

module _ (IsTheirs : ℕ → Type 0) (q : Core) (h : Hooks) (n : ℕ) where
  points_small : (at : HookPlace) (r : Substitution) → IsSmall r → (pts : List HookPoint) → AllByRecursion (PointFitsFor IsTheirs q h) pts → all_small (substitute_code r (code_for pts n at)) ≡ true
  points_small at r small [] x = refl
  points_small at r small (pt ∷ pts) x =
      substitute_two r (cond (pt.function == n && fits_place pt.place at) pt.code []) (code_for pts n at) (by (pt.function == n && fits_place pt.place at)) (points_small at r small pts x.1)
    where
      by : (b : Bool) → all_small (substitute_code r (cond b pt.code [])) ≡ true
      by true = each_small (substitute_code r pt.code) (code_small r small pt.code x.0.past x.0.size x.0.depth)
      by false = refl

  module _ (fits : AllByRecursion (PointFitsFor IsTheirs q h) h.points) where
    pub before_small : (at : HookPlace) (r : Substitution) → IsSmall r → all_small (code_before h.points n at r) ≡ true
    before_small at r small = points_small at r small h.points fits

    pub changed_small : all_small (changed_code h.points n) ≡ true
    changed_small = before_small place.Changed empty_substitution nothing_small

    chosen_small : (b : Bool) (xs ys : List Stmt) → all_small xs ≡ true → all_small ys ≡ true → all_small (cond b xs ys) ≡ true
    chosen_small true xs ys x y = x
    chosen_small false xs ys x y = y

    value_small : (e : Expr) → all_small (code_before_value h.points n e) ≡ true
    value_small (ex.Load r u) = chosen_small (is_register r) (changed_code h.points n) (code_before h.points n place.Read (access_substitution r u)) changed_small (before_small place.Read (access_substitution r u) (accesses_small r u))
    value_small (ex.Invoke' g b es) = before_small place.Call (call_substitution g) (calls_small g)
    value_small ex.GetChar = before_small place.Call (call_substitution 0) (calls_small 0)
    value_small (ex.PutChar' b e) = before_small place.Call (call_substitution 1) (calls_small 1)
    value_small (ex.Malloc' b e u) = before_small place.Call (call_substitution 2) (calls_small 2)
    value_small (ex.Free' b e) = before_small place.Call (call_substitution 3) (calls_small 3)
    value_small _ = changed_small

    expression_small : (e : Expr) → all_small (code_before_expression h.points n e) ≡ true
    expression_small (ex.Assign' r u b (more_of-Expr e end_of-Expr)) = chosen_small (is_register r) (code_before_value h.points n e) (code_before h.points n place.Write (access_substitution r u)) (value_small e) (before_small place.Write (access_substitution r u) (accesses_small r u))
    expression_small (ex.Load r u) = value_small (ex.Load r u)
    expression_small (ex.Invoke' g b es) = value_small (ex.Invoke' g b es)
    expression_small ex.GetChar = value_small ex.GetChar
    expression_small (ex.PutChar' b e) = value_small (ex.PutChar' b e)
    expression_small (ex.Malloc' b e u) = value_small (ex.Malloc' b e u)
    expression_small (ex.Free' b e) = value_small (ex.Free' b e)
    expression_small _ = changed_small

    mutual
      woven_small : (w : Bool) (s : Stmt) → is_small_within s ≡ true → (rest : List Stmt) → all_small rest ≡ true → all_small (woven_statement h.points n w s rest) ≡ true
      woven_small w st.Empty x rest y = y
      woven_small w (st.Eval e) x rest y = small_append (code_before_expression h.points n e) (st.Eval e ∷ rest) (expression_small e) (both (is_small e) (all_small rest) x y)
      woven_small true (st.Block' c ss) x rest y = woven_row_small ss x rest y
      woven_small false (st.Block' c ss) x rest y = both _ (all_small rest) (block_small (woven_row h.points n ss []) (woven_row_small ss x [] refl)) y
      woven_small w (st.If' e c (more_of-Stmt s end_of-Stmt) d (more_of-Stmt u end_of-Stmt)) x rest y =
          let k = and_right (is_small e) (is_small_within s && is_small_within u) x in
          both _ (all_small rest)
          (both (is_small e) _ (and_left (is_small e) (is_small_within s && is_small_within u) x)
          (both _ _ (block_small (woven_statement h.points n true s []) (woven_small true s (and_left (is_small_within s) (is_small_within u) k) [] refl)) (block_small (woven_statement h.points n true u []) (woven_small true u (and_right (is_small_within s) (is_small_within u) k) [] refl)))) y
      woven_small w (st.While' e c (more_of-Stmt s end_of-Stmt)) x rest y =
          small_append (changed_code h.points n) (st.While' e c (more_of-Stmt (st.Block (woven_statement h.points n true s (changed_code h.points n))) end_of-Stmt) ∷ rest) changed_small
          (both _ (all_small rest) (both (is_small e) _ (and_left (is_small e) (is_small_within s) x) (block_small (woven_statement h.points n true s (changed_code h.points n)) (woven_small true s (and_right (is_small e) (is_small_within s) x) (changed_code h.points n) changed_small))) y)
      woven_small w st.Break x rest y = y
      woven_small w st.Continue x rest y = small_append (changed_code h.points n) (st.Continue ∷ rest) changed_small y
      woven_small w (st.Return e) x rest y = small_append (code_before h.points n place.Return (return_substitution e)) (st.Return e ∷ rest) (before_small place.Return (return_substitution e) (returns_small e)) (both (is_small_or_nothing e) (all_small rest) x y)
      woven_small w (st.Ghost g) x rest y = both (is_small_within (st.Ghost g)) (all_small rest) x y
      woven_small w (st.Assert v k r) x rest y = both (is_small_within (st.Assert v k r)) (all_small rest) x y
      woven_small w (st.Init v o t e) x rest y = both (is_small_within (st.Init v o t e)) (all_small rest) x y
      woven_small w (st.Do' c (more_of-Stmt s end_of-Stmt) e) x rest y = both (is_small_within (st.Do' c (more_of-Stmt s end_of-Stmt) e)) (all_small rest) x y
      woven_small w (st.For' test step c (more_of-Stmt s end_of-Stmt)) x rest y = both (is_small_within (st.For' test step c (more_of-Stmt s end_of-Stmt))) (all_small rest) x y

      woven_row_small : {k : _} (ss : Row_of-Stmt k) → are_small_within ss ≡ true → (rest : List Stmt) → all_small rest ≡ true → all_small (woven_row h.points n ss rest) ≡ true
      woven_row_small end_of-Stmt x rest y = y
      woven_row_small (more_of-Stmt s more) x rest y = woven_small false s (and_left (is_small_within s) (are_small_within more) x) (woven_row h.points n more rest) (woven_row_small more (and_right (is_small_within s) (are_small_within more) x) rest y)

    pub all_woven_small : (ss : List Stmt) → all_small ss ≡ true → (rest : List Stmt) → all_small rest ≡ true → all_small (woven_all h.points n ss rest) ≡ true
    all_woven_small [] x rest y = y
    all_woven_small (s ∷ ss) x rest y = woven_small false s (and_left (is_small_within s) (all_small ss) x) (woven_all h.points n ss rest) (all_woven_small ss (and_right (is_small_within s) (all_small ss) x) rest y)
