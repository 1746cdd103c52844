-- The core of a source is a core of source code.
use Rattle.std.proofs.Common.{◌≡◌, ℕ, zero, suc, ◌<◌, Bool, true, false, ◌==◌, List, [], ◌∷◌, length, Option, Some, None, refl, sym, ap, subst, ◌∙◌, arith}
use Rattle.std.specs.Prelude.{slice_get, option_map, nat_le, IsTrue, codes}
use Rattle.std.specs.List.{list_all, AllByRecursion}
use Rattle.step_meaning.specs.declared.value.CType.{CType}
use Rattle.step_meaning.specs.declared.value.CType.TheVariants as type
use Rattle.step_meaning.specs.declared.value.NameKind.{NameKind}
use Rattle.step_meaning.specs.declared.value.NameKind.TheVariants as names
use Rattle.step_meaning.specs.declared.expr.Variable.{Variable}
use Rattle.step_meaning.specs.declared.expr.Expr.{Expr}
use Rattle.step_meaning.specs.declared.stmt.Stmt.{Stmt, Row_of-Stmt, end_of-Stmt, more_of-Stmt}
use Rattle.step_meaning.specs.declared.stmt.Stmt.TheVariants.{Empty, Eval, Init, Block', If', While', Do', For', Break, Continue, Return, Ghost, Assert}
use Rattle.step_meaning.specs.declared.program.Declared.{Declared}
use Rattle.step_meaning.specs.declared.program.Function.{Function}
use Rattle.step_meaning.specs.declared.program.Core.{Core}
use Rattle.step_meaning.specs.Calls.{after_annotations}
use Rattle.step_meaning.specs.ExpressionTypes.{type_of, has_a_type, is_condition, gives, has_body, has_this_type}
use Rattle.step_meaning.specs.Library.{int, is_function}
use Rattle.step_meaning.specs.Names.{same_kind}
use Rattle.step_meaning.specs.Settings.{Setting, setting_of, code_setting, variable_type}
use Rattle.step_meaning.specs.Sources.{is_bare, are_bare, IsSourceFunction, IsSource}
use Rattle.step_meaning.specs.StatementRules.{where_there, cell_type, is_initialised, may_return, StatementFits, RowFits, AllFit, BodyFits}
use Rattle.step_meaning.specs.TypeRules.{cells, keeps_rules}
use Rattle.step_meaning.specs.Types.{object_cells, same_type}
use Rattle.step_meaning.specs.WellFormed.{OfBody, is_main, IsWellFormedFunction, IsWellFormed}
use Rattle.step_meaning.proofs.FormedFunctions.{formed_function}
use Rattle.step_meaning.proofs.Ranges.{false_is_not_true, left_of_and, right_of_and}
use Rattle.step_meaning.proofs.SameTypes.{same_type_equal}
use Rattle.step_meaning.proofs.TypedMemory.{WhereSome, get_fits}
use Rattle.normal_laws.specs.NormalForm.{or_void, cell_parts}
use Rattle.normal_laws.specs.SourceCode.{IsLocal, IsSourceExpressionIfAny, IsInitialised, IsSourceStatement, AreSourceStatements, IsSourceBody, parts_offset}
use Rattle.normal_laws.specs.Agreement.{OfSourceBody, IsSourceCore}
use Rattle.normal_laws.proofs.CellParts.{cell_reached}
use Rattle.normal_laws.proofs.TypesOfParts.{none_is_not, this_type, scalar_type, some_type, taken_type}
use Rattle.normal_laws.proofs.SourceExpressions.{null_points, source_expression}

-- ---- lists

got : (P : Declared → Bool) (ds : List Declared) (i : ℕ) (t : CType) → list_all P ds ≡ true → option_map (λ d. d.ctype) (slice_get ds i) ≡ Some t → (d : Declared) × (P d ≡ true) × (d.ctype ≡ t)
got P [] zero t h e = none_is_not e
got P [] (suc i) t h e = none_is_not e
got P (d ∷ ds) zero t h e = (d, left_of_and _ _ h, some_is e)
  where
    some_is : Some d.ctype ≡ Some t → d.ctype ≡ t
    some_is e = cc
got P (d ∷ ds) (suc i) t h e = got P ds i t (right_of_and _ _ h) e

got_below : (ts : List CType) (o : ℕ) (t : CType) → slice_get ts o ≡ Some t → o < length ts
got_below [] zero t e = none_is_not e
got_below [] (suc o) t e = none_is_not e
got_below (u ∷ ts) zero t e = omega arith
got_below (u ∷ ts) (suc o) t e = let h = got_below ts o t e in omega arith

-- ---- statements of one function

module _ (q : Core) (formed : IsWellFormed q) (f : Function) (fits : IsWellFormedFunction q f) (no_registers : f.registers ≡ []) where
  abbrev g : Setting
  g = code_setting q f

  expression : (e : Expr) (t : CType) → type_of q g e ≡ Some t → Rattle.normal_laws.specs.SourceCode.IsSourceExpression e
  expression e t h = source_expression q g no_registers refl refl e t h

  typed : (e : Expr) → has_a_type q g e ≡ true → Rattle.normal_laws.specs.SourceCode.IsSourceExpression e
  typed e h = let x = some_type (type_of q g e) h in expression e x.0 x.1

  condition : (e : Expr) → is_condition q g e ≡ true → Rattle.normal_laws.specs.SourceCode.IsSourceExpression e
  condition e h = let x = scalar_type (type_of q g e) h in expression e x.0 x.1

  given : (t : CType) (e : Expr) → gives q g t e ≡ true → Rattle.normal_laws.specs.SourceCode.IsSourceExpression e
  given t e h = let x = taken_type t e (type_of q g e) (null_points q g e) h in expression e x.0 x.1

  if_any : (test : Expr → Bool) → ((e : Expr) → test e ≡ true → Rattle.normal_laws.specs.SourceCode.IsSourceExpression e) → (e : Option Expr) → where_there q f test e ≡ true → IsSourceExpressionIfAny e
  if_any test h None i = tt
  if_any test h (Some e) i = h e i

  returned : (t : CType) (e : Option Expr) → may_return q f t e ≡ true → IsSourceExpressionIfAny e
  returned t None h = tt
  returned type.Void (Some e) h = false_is_not_true h
  returned (type.Int k) (Some e) h = given (type.Int k) e h
  returned (type.Pointer' b t) (Some e) h = given (type.Pointer' b t) e h
  returned (type.Array' b t n) (Some e) h = given (type.Array' b t n) e h
  returned (type.Struct n) (Some e) h = given (type.Struct n) e h

  -- a cell of a local is reached
  pub cell_there : (v : Variable) (o : ℕ) (t : CType) → same_kind v.kind names.Local ≡ true → cell_type q f (variable_type g v) o ≡ Some t → (T : CType) × (variable_type g v ≡ Some T) × (keeps_rules q.layouts T ≡ true) × (slice_get (object_cells q.layouts T) o ≡ Some t)
  cell_there v o t k h = by v.kind k (variable_type g v) refl h
    where
      kept : (k : NameKind) (i : ℕ) → same_kind k names.Local ≡ true → (T : CType) → variable_type g (record { kind = k; index = i }) ≡ Some T → keeps_rules q.layouts T ≡ true
      kept names.Local i k T e = let d = got (λ d. keeps_rules q.layouts d.ctype) f.locals i T fits.locals e in subst (λ T. keeps_rules q.layouts T ≡ true) d.2 d.1
      kept names.Global i k T e = false_is_not_true k
      kept names.Heap i k T e = false_is_not_true k
      kept names.Register i k T e = false_is_not_true k
      kept names.GhostGlobal i k T e = false_is_not_true k
      kept names.GhostLocal i k T e = false_is_not_true k

      by : (k : NameKind) → same_kind k names.Local ≡ true → (found : Option CType) → variable_type g (record { kind = k; index = v.index }) ≡ found → cell_type q f found o ≡ Some t
          → (T : CType) × (found ≡ Some T) × (keeps_rules q.layouts T ≡ true) × (slice_get (object_cells q.layouts T) o ≡ Some t)
      by k i None e h = none_is_not h
      by k i (Some T) e h = (T, refl, kept k v.index i T e, h)

  local : (k : NameKind) → same_kind k names.Local ≡ true → IsLocal k
  local names.Local k = tt
  local names.Global k = false_is_not_true k
  local names.Heap k = false_is_not_true k
  local names.Register k = false_is_not_true k
  local names.GhostGlobal k = false_is_not_true k
  local names.GhostLocal k = false_is_not_true k

  initialised : (v : Variable) (o : ℕ) (t : CType) (e : Expr) → is_initialised q f v o t e ≡ true → IsInitialised g v o
  initialised v o t e h =
      let k = left_of_and (same_kind v.kind names.Local) _ h in
      let c = this_type t (cell_type q f (variable_type g v) o) (left_of_and (has_this_type t (cell_type q f (variable_type g v) o)) (gives q g t e) (right_of_and (nat_le f.params v.index) _ (right_of_and (same_kind v.kind names.Local) _ h))) in
      let x = cell_there v o t k c in
      let below = got_below (object_cells q.layouts x.0) o t x.3 in
      record {
        local = local v.kind k;
        reached = subst (λ u. parts_offset (cell_parts q.layouts (or_void u) o) ≡ o) (sym x.1) (cell_reached q.layouts formed.structs x.0 o x.2 below).offset;
        inside = subst (λ u. o < cells q.layouts (or_void u)) (sym x.1) below;
      }

  module _ (noted : Setting) where
    mutual
      source_statement : (loop : Bool) (s : Stmt) → is_bare s ≡ true → StatementFits q f noted loop s → IsSourceStatement g s
      source_statement loop Empty b h = tt
      source_statement loop (Eval e) b h = typed e h
      source_statement loop (Init v o t e) b h =
          (given t e (right_of_and (has_this_type t (cell_type q f (variable_type g v) o)) (gives q g t e) (right_of_and (nat_le f.params v.index) _ (right_of_and (same_kind v.kind names.Local) _ h))), initialised v o t e h)
      source_statement loop (Block' x ss) b h = source_row loop ss b h
      source_statement loop (If' e x (more_of-Stmt s end_of-Stmt) y (more_of-Stmt u end_of-Stmt)) b h =
          (condition e h.0, source_statement loop s (left_of_and _ _ b) h.1, source_statement loop u (right_of_and _ _ b) h.2)
      source_statement loop (While' e x (more_of-Stmt s end_of-Stmt)) b h = (condition e h.0, source_statement true s b h.1)
      source_statement loop (Do' x (more_of-Stmt s end_of-Stmt) e) b h = (condition e h.0, source_statement true s b h.1)
      source_statement loop (For' test step x (more_of-Stmt s end_of-Stmt)) b h = (
        if_any (is_condition q g) condition test (left_of_and (where_there q f (is_condition q g) test) (where_there q f (has_a_type q g) step) h.0),
        if_any (has_a_type q g) typed step (right_of_and (where_there q f (is_condition q g) test) (where_there q f (has_a_type q g) step) h.0),
        source_statement true s b h.1,
      )
      source_statement loop Break b h = tt
      source_statement loop Continue b h = tt
      source_statement loop (Return e) b h = returned f.result e h
      source_statement loop (Ghost s) b h = false_is_not_true b
      source_statement loop (Assert v k r) b h = false_is_not_true b

      source_row : {n : _} (loop : Bool) (ss : Row_of-Stmt n) → are_bare ss ≡ true → RowFits q f noted loop ss → AreSourceStatements g ss
      source_row loop end_of-Stmt b h = tt
      source_row loop (more_of-Stmt s ss) b h = (source_statement loop s (left_of_and _ _ b) h.0, source_row loop ss (right_of_and _ _ b) h.1)

    source_body : (ss : List Stmt) → list_all is_bare ss ≡ true → AllFit q f noted ss → IsSourceBody g ss
    source_body [] b h = tt
    source_body (s ∷ ss) b h = (source_statement false s (left_of_and _ _ b) h.0, source_body ss (right_of_and _ _ b) h.1)

-- a body without annotations begins with none
pub begins_bare : (ss : List Stmt) → list_all is_bare ss ≡ true → after_annotations ss ≡ ss
begins_bare [] h = refl
begins_bare (Ghost g ∷ ss) h = false_is_not_true h
begins_bare (Assert v k r ∷ ss) h = false_is_not_true h
begins_bare _ h = refl

-- ---- programs

bodied : (f : Function) (ss : List Stmt) → f.body ≡ Some ss → has_body f ≡ true
bodied f ss e = ap Rattle.std.specs.Prelude.is_some e

main_gives_int : (o : Option Function) (f : Function) → o ≡ Some f → is_main o ≡ true → f.result ≡ int
main_gives_int None f e h = none_is_not e
main_gives_int (Some d) f e h = ap (λ f. f.result) (sym (some_is e)) ∙ same_type_equal d.result int (left_of_and (same_type d.result int) _ (right_of_and _ _ (left_of_and (is_function (codes "main") int [] d) (has_body d) h)))
  where
    some_is : Some d ≡ Some f → d ≡ f
    some_is e = cc

pub source_core : (q : Core) → IsSource q → IsSourceCore q
source_core q h = record { functions = λ g f e. record { body = body g f e f.body refl; main_result = λ s. main_gives_int (slice_get q.functions g) f e (subst (λ o. is_main o ≡ true) (ap (slice_get q.functions) (sym (number g s))) h.well_formed.main) } }
  where
    number : (g : ℕ) → (g == q.start) ≡ true → g ≡ q.start
    number g s = Rattle.std.proofs.lemmas.Bool.eqb-true g q.start s

    own : (g : ℕ) (f : Function) → slice_get q.functions g ≡ Some f → IsSourceFunction f
    own g f e = subst (WhereSome IsSourceFunction) e (get_fits IsSourceFunction q.functions g h.functions)

    body : (g : ℕ) (f : Function) → slice_get q.functions g ≡ Some f → (b : Option (List Stmt)) → f.body ≡ b → OfSourceBody q f b
    body g f e None i = tt
    body g f e (Some ss) i =
        let fits = formed_function q h.well_formed g f e (bodied f ss i) in
        let source = own g f e in
        let bare = subst (OfBody (λ ss. IsTrue (list_all is_bare ss))) i source.bare in
        let fit = subst (OfBody (BodyFits q f)) i fits.body in
        source_body q h.well_formed f fits source.registers (setting_of q f) ss bare (subst (AllFit q f (setting_of q f)) (begins_bare ss bare) fit.1)
