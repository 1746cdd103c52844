-- What holds of each statement that code is made of, for every core: one induction, for any property that the forms of code keep.
use Rattle.std.proofs.Common.{◌≡◌, ℕ, Bool, true, false, List, [], ◌∷◌, ◌++◌, Option, Some, None, sym, subst}
use Rattle.std.specs.Prelude.{slice_get}
use Rattle.std.specs.List.{AllByRecursion}
use Rattle.step_meaning.specs.declared.value.CType.{CType}
use Rattle.step_meaning.specs.declared.value.CType.TheVariants as type
use Rattle.step_meaning.specs.declared.expr.Expr.{Expr, Row_of-Expr, end_of-Expr, more_of-Expr}
use Rattle.step_meaning.specs.declared.expr.Expr.TheVariants.{Literal, Null, Load, Address, Convert', Unary', Binary', Compare', Move', Difference', Not', Both', Either', Choose', Assign', Update', Invoke', GetChar, PutChar', Malloc', Free', Discard', Own, Deref', Member', Index'}
use Rattle.step_meaning.specs.declared.expr.Place_.{Place_, end_of-Place_, more_of-Place_}
use Rattle.step_meaning.specs.declared.stmt.Stmt.{Stmt, Row_of-Stmt, end_of-Stmt, more_of-Stmt}
use Rattle.step_meaning.specs.declared.stmt.Stmt.TheVariants.{Empty, Eval, Init, Block, Block', If', While', Do', For', Break, Continue, Return, Ghost, Assert}
use Rattle.step_meaning.specs.declared.program.Core.{Core}
use Rattle.step_meaning.specs.Settings.{Setting, variable_type}
use Rattle.normal_laws.specs.NormalForm.{Operand, Number, Nil, Held, Absent, register, choice, forever, Code, Codes, PlaceCode, common_operand, choose_into, typed_value, invoke_code, result_type, Part, MemberAt, ElementAt, part_code, parts_code, cell_parts, named_code, or_void, expression_code, arguments_code, place_code, test_code, effect_code, statement_code, row_code, body_code, last_code}

abbrev pub Each : (Stmt → Type 0) → List Stmt → Type 0
Each P ss = AllByRecursion P ss

pub each_join : (P : Stmt → Type 0) (a b : List Stmt) → Each P a → Each P b → Each P (a ++ b)
each_join P [] b h k = k
each_join P (s ∷ a) b h k = (h.0, each_join P a b h.1 k)

-- the statements of the body of a function with a result of this type have the property
pub record Admits (result : CType) (P : Stmt → Type 0) : Type 0 where
  pub evaluates : (e : Expr) → P (Eval e)
  pub chooses : (e : Expr) (a b : List Stmt) → Each P a → Each P b → P (choice e a b)
  pub repeats : (a : List Stmt) → Each P a → P (forever a)
  pub groups : (a : List Stmt) → Each P a → P (Block a)
  pub breaks : P Break
  pub continues : P Continue
  pub leaves : P (Return None)
  pub returns : (i : ℕ) → P (Return (Some (Load (register i) result)))

module _ (q : Core) (g : Setting) (result : CType) (P : Stmt → Type 0) (rules : Admits result P) where
  abbrev All : List Stmt → Type 0
  All = Each P

  then_one : (a : List Stmt) (e : Expr) → All a → All (a ++ (Eval e ∷ []))
  then_one a e h = each_join P a (Eval e ∷ []) h (rules.evaluates e, tt)

  both_one : (a b : List Stmt) (e : Expr) → All a → All b → All (a ++ (b ++ (Eval e ∷ [])))
  both_one a b e h k = each_join P a (b ++ (Eval e ∷ [])) h (then_one b e k)

  then_choice : (a : List Stmt) (e : Expr) (b c : List Stmt) → All a → All b → All c → All (a ++ (choice e b c ∷ []))
  then_choice a e b c h j k = each_join P a (choice e b c ∷ []) h (rules.chooses e b c j k, tt)

  typed_all : (t : CType) (v : Operand) (A : Code) → All A.code → All (typed_value t v A).code
  typed_all t Nil A h = then_one A.code _ h
  typed_all t (Number k z) A h = h
  typed_all t (Held i u) A h = h
  typed_all t Absent A h = h

  choose_all : (o : Option Operand) (C A B : Code) → All C.code → All A.code → All B.code → All (choose_into o C A B).code
  choose_all None C A B h j k = then_choice C.code _ (A.code ++ _) (B.code ++ _) h (then_one A.code _ j) (then_one B.code _ k)
  choose_all (Some o) C A B h j k = then_choice C.code _ A.code B.code h j k

  invoke_all : (f : ℕ) (t : CType) (E : Codes) → All E.code → All (invoke_code f t E).code
  invoke_all f type.Void E h = then_one E.code _ h
  invoke_all f (type.Int k) E h = then_one E.code _ h
  invoke_all f (type.Pointer' b u) E h = then_one E.code _ h
  invoke_all f (type.Array' b u n) E h = then_one E.code _ h
  invoke_all f (type.Struct n) E h = then_one E.code _ h

  part_all : (x : Part) (p : PlaceCode) → All p.code → All (part_code x p).code
  part_all (MemberAt o t) p h = then_one p.code _ h
  part_all (ElementAt i size t) p h = then_one p.code _ h

  parts_all : (xs : List Part) (p : PlaceCode) → All p.code → All (parts_code xs p).code
  parts_all [] p h = h
  parts_all (x ∷ xs) p h = parts_all xs (part_code x p) (part_all x p h)

  mutual
    pub expression_all : (e : Expr) (m : ℕ) → All (expression_code q g e m).code
    expression_all (Literal k z) m = tt
    expression_all Null m = tt
    expression_all (Load p t) m = then_one _ _ (place_all p m)
    expression_all (Address p t) m = then_one _ _ (place_all p m)
    expression_all (Convert' k b (more_of-Expr e end_of-Expr)) m = then_one _ _ (expression_all e m)
    expression_all (Unary' o k b (more_of-Expr e end_of-Expr)) m = then_one _ _ (expression_all e m)
    expression_all (Binary' o k b (more_of-Expr e end_of-Expr) c (more_of-Expr f end_of-Expr)) m = both_one _ _ _ (expression_all e m) (expression_all f _)
    expression_all (Compare' o b (more_of-Expr e end_of-Expr) c (more_of-Expr f end_of-Expr)) m = both_one _ _ _ (expression_all e m) (expression_all f _)
    expression_all (Move' b (more_of-Expr e end_of-Expr) c (more_of-Expr f end_of-Expr) size side) m = both_one _ _ _ (expression_all e m) (expression_all f _)
    expression_all (Difference' b (more_of-Expr e end_of-Expr) c (more_of-Expr f end_of-Expr) unit) m = both_one _ _ _ (expression_all e m) (expression_all f _)
    expression_all (Not' b (more_of-Expr e end_of-Expr)) m = then_one _ _ (expression_all e m)
    expression_all (Both' b (more_of-Expr e end_of-Expr) c (more_of-Expr f end_of-Expr)) m = then_choice _ _ _ _ (expression_all e m) (then_one _ _ (expression_all f _)) (rules.evaluates _, tt)
    expression_all (Either' b (more_of-Expr e end_of-Expr) c (more_of-Expr f end_of-Expr)) m = then_choice _ _ _ _ (expression_all e m) (rules.evaluates _, tt) (then_one _ _ (expression_all f _))
    expression_all (Choose' b (more_of-Expr e end_of-Expr) c (more_of-Expr f end_of-Expr) d (more_of-Expr h end_of-Expr)) m =
        let C = expression_code q g e m in
        let A = expression_code q g f C.next in
        let B = expression_code q g h A.next in
        choose_all (common_operand A.value B.value) C A B (expression_all e m) (expression_all f C.next) (expression_all h A.next)
    expression_all (Assign' p t b (more_of-Expr e end_of-Expr)) m =
        let Q = place_code q g p m in
        let A = expression_code q g e Q.next in
        both_one Q.code (typed_value t A.value A).code _ (place_all p m) (typed_all t A.value A (expression_all e Q.next))
    expression_all (Update' p t o b (more_of-Expr e end_of-Expr) w) m =
        each_join P _ _ (place_all p m) (rules.evaluates _, each_join P _ _ (expression_all e _) (rules.evaluates _, (rules.evaluates _, tt)))
    expression_all (Invoke' f b es) m = invoke_all f (result_type (slice_get q.functions f)) (arguments_code q g es m) (arguments_all es m)
    expression_all GetChar m = (rules.evaluates _, tt)
    expression_all (PutChar' b (more_of-Expr e end_of-Expr)) m = then_one _ _ (expression_all e m)
    expression_all (Malloc' b (more_of-Expr e end_of-Expr) t) m = then_one _ _ (expression_all e m)
    expression_all (Free' b (more_of-Expr e end_of-Expr)) m = then_one _ _ (expression_all e m)
    expression_all (Discard' b (more_of-Expr e end_of-Expr)) m = expression_all e m

    arguments_all : {n : _} (es : Row_of-Expr n) (m : ℕ) → All (arguments_code q g es m).code
    arguments_all end_of-Expr m = tt
    arguments_all (more_of-Expr e es) m = each_join P _ _ (expression_all e m) (arguments_all es _)

    place_all : (p : Place_) (m : ℕ) → All (place_code q g p m).code
    place_all (Own v) m = tt
    place_all (Deref' b (more_of-Expr e end_of-Expr)) m = expression_all e m
    place_all (Member' b (more_of-Place_ p end_of-Place_) o) m = then_one _ _ (place_all p m)
    place_all (Index' b (more_of-Place_ p end_of-Place_) c (more_of-Expr e end_of-Expr) size) m = both_one _ _ _ (place_all p m) (expression_all e _)

  test_all : (o : Option Expr) (m : ℕ) → All (test_code q g o m).code
  test_all None m = tt
  test_all (Some e) m = then_choice _ _ [] (Break ∷ []) (expression_all e m) tt (rules.breaks, tt)

  effect_all : (o : Option Expr) (m : ℕ) → All (effect_code q g o m).code
  effect_all None m = tt
  effect_all (Some e) m = expression_all e m

  loop_all : (test body last : List Stmt) → All test → All body → All last → All (forever (test ++ (body ++ last)) ∷ [])
  loop_all test body last h j k = (rules.repeats _ (each_join P test (body ++ last) h (each_join P body last j k)), tt)

  mutual
    pub statement_all : (before : List Stmt) → All before → (s : Stmt) (m : ℕ) → All (statement_code q g result before s m).code
    statement_all before h Empty m = tt
    statement_all before h (Eval e) m = expression_all e m
    statement_all before h (Init v o t e) m =
        let A = expression_code q g e m in
        let T = or_void (variable_type g v) in
        let start = named_code v T A.next in
        both_one A.code (parts_code (cell_parts g.layouts T o) start).code _ (expression_all e m) (parts_all (cell_parts g.layouts T o) start tt)
    statement_all before h (Block' b ss) m = (rules.groups _ (row_statements_all before h ss m), tt)
    statement_all before h (If' e b (more_of-Stmt s end_of-Stmt) c (more_of-Stmt u end_of-Stmt)) m = then_choice _ _ _ _ (expression_all e m) (statement_all before h s _) (statement_all before h u _)
    statement_all before h (While' e b (more_of-Stmt s end_of-Stmt)) m = loop_all _ _ [] (test_all (Some e) m) (statement_all [] tt s _) tt
    statement_all before h (Do' b (more_of-Stmt s end_of-Stmt) e) m = loop_all [] _ _ tt (statement_all _ (test_all (Some e) m) s _) (test_all (Some e) m)
    statement_all before h (For' test step b (more_of-Stmt s end_of-Stmt)) m = loop_all _ _ _ (test_all test m) (statement_all _ (effect_all step _) s _) (effect_all step _)
    statement_all before h Break m = (rules.breaks, tt)
    statement_all before h Continue m = each_join P before (Continue ∷ []) h (rules.continues, tt)
    statement_all before h (Return None) m = (rules.leaves, tt)
    statement_all before h (Return (Some e)) m = each_join P _ _ (then_one _ _ (expression_all e m)) (rules.returns _, tt)
    statement_all before h (Ghost x) m = tt
    statement_all before h (Assert v k x) m = tt

    row_statements_all : {n : _} (before : List Stmt) → All before → (ss : Row_of-Stmt n) (m : ℕ) → All (row_code q g result before ss m).code
    row_statements_all before h end_of-Stmt m = tt
    row_statements_all before h (more_of-Stmt s ss) m = each_join P _ _ (statement_all before h s m) (row_statements_all before h ss _)

  pub body_all : (ss : List Stmt) (m : ℕ) → All (body_code q g result ss m).code
  body_all [] m = tt
  body_all (s ∷ ss) m = each_join P _ _ (statement_all [] tt s m) (body_all ss _)

  pub last_all : (is_main : Bool) (t : CType) → t ≡ result → (m : ℕ) → All (last_code is_main t m).code
  last_all true t e m = (rules.evaluates _, (subst (λ t. P (Return (Some (Load (register m) t)))) (sym e) (rules.returns m), tt))
  last_all false type.Void e m = (rules.leaves, tt)
  last_all false (type.Int k) e m = tt
  last_all false (type.Pointer' b u) e m = tt
  last_all false (type.Array' b u n) e m = tt
  last_all false (type.Struct n) e m = tt
