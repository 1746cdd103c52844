-- Statements of a body fit in the core that the text becomes.
use Rattle.std.proofs.Common.{◌≡◌, Bool, true, false, not, List, [], ◌∷◌, ◌++◌, length, Option, Some, None, Ok, Err, refl, sym}
use Rattle.c_words.specs.declared.word.Leaf.{Leaf}
use Rattle.step_meaning.specs.declared.value.CType.{CType}
use Rattle.step_meaning.specs.declared.value.CType.TheVariants as type
use Rattle.step_meaning.specs.declared.expr.Expr.{Expr}
use Rattle.step_meaning.specs.declared.stmt.Stmt.{Stmt}
use Rattle.step_meaning.specs.declared.stmt.Stmt.TheVariants as core
use Rattle.step_meaning.specs.declared.stmt.Stmt.TheBlock.{shape-the_row-Stmt-0, hidden-the_row-Stmt-0, shape-the_row-Stmt-1, hidden-the_row-Stmt-1}
use Rattle.step_meaning.specs.declared.program.Core.{Core}
use Rattle.step_meaning.specs.declared.program.Function.{Function as CoreFunction}
use Rattle.step_meaning.specs.Settings.{Setting}
use Rattle.step_meaning.specs.ExpressionTypes.{type_of, is_void, has_a_type, is_condition, is_taken_by}
use Rattle.step_meaning.specs.StatementRules.{where_there, may_return, RowFits}
use Rattle.step_meaning.specs.Sources.{are_bare}
use Rattle.step_meaning.proofs.Ranges.{and_true, false_is_not_true}
use Rattle.typing_rules.specs.declared.operand.Value.{Value}
use Rattle.typing_rules.specs.declared.fault.TypeFault.TheVariants.{Mismatch, StrayJump}
use Rattle.typing_rules.specs.Checked.{Checked, unless}
use Rattle.typing_rules.specs.Checked.{◌>>=◌ as ◌then◌}
use Rattle.typing_rules.specs.Syntax.{Expression, Statement, Nothing as NullStatement, Evaluate, Block, Declare, If, IfElse, While, Do, For, Break, Continue, Return, Ghost, Assert, Statements, End, Next, ForFirst, NoFirst, FirstValue, FirstLocal}
use Rattle.typing_rules.specs.Operands as operands
use Rattle.typing_rules.specs.Environment.{Environment, place_of}
use Rattle.typing_rules.specs.Expressions.{full}
use Rattle.typing_rules.specs.Statements.{Frame, Does, pure, ◌>>=◌, in_scope, declare, value, test, where_present, rule, jump, returned, first_part, scoped, with_first, statement, statements, checked, seen as seen_in_body}
use Rattle.typing_rules.specs.FileScope.{Program, seen_now}
use Rattle.typing_laws.specs.SmallTypes.{WhereOk}
use Rattle.typing_laws.specs.ParsedSyntax.{IfThere, ExpressionParsed, ForFirstParsed, StatementParsed, StatementsParsed}
use Rattle.typing_laws.proofs.CheckedValues.{then_holds, always}
use Rattle.typing_laws.proofs.DeclaredNames.{not_false, unless_holds}
use Rattle.typing_laws.proofs.EachOf.{each_append}
use Rattle.typing_laws.proofs.TypedValues.{ValueFits, condition_fits}
use Rattle.typing_laws.proofs.TypedOperators.{IsTaken, fitted_fits}
use Rattle.typing_laws.proofs.TypedExpressions.{full_fits}
use Rattle.typing_laws.proofs.Completion.{IsRight, Completes}
use Rattle.typing_laws.proofs.KeptFrames.{Nothing, FrameRight, InView, After, Keeps, grows_itself, keeps_pure, keeps_then, keeps_weaker, keeps_checked, keeps_scope}
use Rattle.typing_laws.proofs.KeptDeclarations.{own, agrees_in, Fits, AllFit, declare_keeps}
use denote.Hole.Carrier.{hidden}

module _ (q : Core) (fn : CoreFunction) (noted : Setting) (p : Program) (right : IsRight p) (done : Completes q p) where
  abbrev F : Bool → Stmt → Type 0
  F loop s = Fits q fn noted p right done loop s

  abbrev Fs : Bool → List Stmt → Type 0
  Fs loop ss = AllFit q fn noted p right done loop ss

  abbrev s : Setting
  s = own q fn noted p right done

  abbrev V : Value → Type 0
  V v = ValueFits q s (length p.layouts) v

  abbrev K : {A : Type 0} → (A → Type 0) → Does A → Type 0
  K P d = Keeps p fn Nothing P d

  -- one after another, where nothing is known before
  then_keeps : {A B : Type 0} (P : A → Type 0) (Q : B → Type 0) (d : Does A) (k : A → Does B) → K P d → ((a : A) → K (λ b. P a → Q b) (k a)) → K Q (d >>= k)
  then_keeps P Q d k h l = keeps_then p fn Nothing P Nothing Q d k h (λ a u. l a)

  then_pure : {A B : Type 0} (P : A → Type 0) (Q : B → Type 0) (d : Does A) (f : A → B) → K P d → ((a : A) → P a → Q (f a)) → K Q (d >>= (λ a. pure (f a)))
  then_pure P Q d f h l = then_keeps P Q d (λ a. pure (f a)) h (λ a. keeps_pure p fn Nothing (λ b. P a → Q b) (f a) tt (l a))

  under : {A : Type 0} (X : Type 0) (P : A → Type 0) (d : Does A) → K P d → K (λ a. X → P a) d
  under X P d h = keeps_weaker p fn Nothing P Nothing (λ a. X → P a) d (λ a u. tt) (λ a k x. k) h

  checks : {A : Type 0} (P : A → Type 0) (c : Environment → Checked A) → ((f : Frame) → FrameRight p fn f → InView p fn f → WhereOk P (c (seen_in_body (seen_now p) fn.result f))) → K P (checked (seen_now p) fn.result c)
  checks P c h = keeps_checked p fn Nothing P fn.result c (λ f k. always Nothing (c (seen_in_body (seen_now p) fn.result f)) (λ a. tt)) h

  -- ---- parts of statements

  full_keeps : (x : Expression) → ExpressionParsed p.text x → K V (checked (seen_now p) fn.result (λ g. full g x))
  full_keeps x c = checks V (λ g. full g x) (λ f h v. full_fits q s (seen_in_body (seen_now p) fn.result f) (agrees_in q fn noted p right done f h v) x c)

  abbrev HasType : Expr → Type 0
  HasType x = has_a_type q s x ≡ true

  value_keeps : (x : Expression) → ExpressionParsed p.text x → K HasType (value (seen_now p) fn.result x)
  value_keeps x c = then_pure V HasType (checked (seen_now p) fn.result (λ g. full g x)) (λ v. v.expr) (full_keeps x c) (λ v h. rw h.typed refl)

  abbrev Tests : Expr → Type 0
  Tests x = is_condition q s x ≡ true

  test_keeps : (x : Expression) → ExpressionParsed p.text x → K Tests (test (seen_now p) fn.result x)
  test_keeps x c =
      checks Tests (λ g. full g x then operands.condition) (λ f h v.
      then_holds V Tests (full (seen_in_body (seen_now p) fn.result f) x) _ (full_fits q s (seen_in_body (seen_now p) fn.result f) (agrees_in q fn noted p right done f h v) x c) (λ u k. condition_fits q s (length p.layouts) u k))

  -- a part that may be left out
  abbrev WhereThere : (Expr → Bool) → Option Expr → Type 0
  WhereThere test o = where_there q fn test o ≡ true

  present_keeps : (test : Expr → Bool) (d : Expression → Does Expr) → ((x : Expression) → ExpressionParsed p.text x → K (λ e. test e ≡ true) (d x)) → (x : Option Expression) → IfThere (ExpressionParsed p.text) x → K (WhereThere test) (where_present (seen_now p) fn.result d x)
  present_keeps test d h None c = keeps_pure p fn Nothing (WhereThere test) None tt refl
  present_keeps test d h (Some x) c = then_pure (λ e. test e ≡ true) (WhereThere test) (d x) Some (h x c) (λ e k. k)

  -- ---- rows

  row_fits : (loop : Bool) (ss : List Stmt) → Fs loop ss → RowFits q fn noted loop (hidden-the_row-Stmt-0 ss)
  unfolding shape-the_row-Stmt-0 hidden-the_row-Stmt-0 hidden
  row_fits loop [] h = tt
  row_fits loop (x ∷ ss) h = (h.0.rules, row_fits loop ss h.1)

  row_bare : (loop : Bool) (ss : List Stmt) → Fs loop ss → are_bare (hidden-the_row-Stmt-0 ss) ≡ true
  unfolding shape-the_row-Stmt-0 hidden-the_row-Stmt-0 hidden
  row_bare loop [] h = refl
  row_bare loop (x ∷ ss) h = and_true h.0.bare (row_bare loop ss h.1)

  block_fits : (loop : Bool) (ss : List Stmt) → Fs loop ss → F loop (core.Block ss)
  unfolding shape-the_row-Stmt-0 hidden-the_row-Stmt-0 hidden
  block_fits loop ss h = record { rules = row_fits loop ss h; bare = row_bare loop ss h }

  if_fits : (loop : Bool) (x : Expr) (a b : Stmt) → Tests x → F loop a → F loop b → F loop (core.If x a b)
  unfolding shape-the_row-Stmt-1 hidden-the_row-Stmt-1 hidden
  if_fits loop x a b t h k = record { rules = (t, h.rules, k.rules); bare = and_true h.bare k.bare }

  while_fits : (loop : Bool) (x : Expr) (a : Stmt) → Tests x → F true a → F loop (core.While x a)
  unfolding shape-the_row-Stmt-1 hidden-the_row-Stmt-1 hidden
  while_fits loop x a t h = record { rules = (t, h.rules); bare = h.bare }

  do_fits : (loop : Bool) (x : Expr) (a : Stmt) → Tests x → F true a → F loop (core.Do a x)
  unfolding shape-the_row-Stmt-1 hidden-the_row-Stmt-1 hidden
  do_fits loop x a t h = record { rules = (t, h.rules); bare = h.bare }

  for_fits : (loop : Bool) (x step : Option Expr) (a : Stmt) → WhereThere (is_condition q s) x → WhereThere (has_a_type q s) step → F true a → F loop (core.For x step a)
  unfolding shape-the_row-Stmt-1 hidden-the_row-Stmt-1 hidden
  for_fits loop x step a t i h = record { rules = (and_true t i, h.rules); bare = h.bare }

  empty_fits : (loop : Bool) → F loop core.Empty
  empty_fits loop = record { rules = tt; bare = refl }

  -- ---- jumps

  rule_keeps : (broken : Bool) (t : Leaf) → Keeps p fn (λ (u : Unit {0}). broken ≡ false) Nothing (rule (seen_now p) fn.result broken t)
  rule_keeps broken t f h =
      then_holds (λ (u : Unit {0}). broken ≡ false) (After p fn (λ (u : Unit {0}). broken ≡ false) Nothing f) (unless broken (Mismatch (place_of t))) _ (unless_holds (broken ≡ false) broken _ (λ e. e)) (λ u e.
      record { right = h; grows = grows_itself p fn f; known = e; holds = λ v. tt })

  jump_keeps : (loop : Bool) (t : Leaf) (x : Stmt) → (loop ≡ true → F loop x) → K (F loop) (jump (seen_now p) fn.result loop t x)
  jump_keeps loop t x k f h =
      then_holds (λ (u : Unit {0}). loop ≡ true) (After p fn Nothing (F loop) f) (unless (not loop) (StrayJump (place_of t))) _ (unless_holds (loop ≡ true) (not loop) _ (not_false loop)) (λ u e.
      record { right = h; grows = grows_itself p fn f; known = tt; holds = λ v. k e })

  returns_nothing : (t : CType) → not (is_void t) ≡ false → may_return q fn t None ≡ true
  returns_nothing type.Void e = refl
  returns_nothing t e = e_true e
    where
      e_true : true ≡ false → false ≡ true
      e_true e = sym e

  returns_value : (t : CType) (x : Expr) → is_void t ≡ false → is_taken_by t x (type_of q s x) ≡ true → may_return q fn t (Some x) ≡ true
  returns_value type.Void x e h = false_is_not_true (sym e)
  returns_value (type.Int k) x e h = h
  returns_value (type.Pointer' b t) x e h = h
  returns_value (type.Array' b t n) x e h = h
  returns_value (type.Struct n) x e h = h

  returned_keeps : (loop : Bool) (t : Leaf) (x : Option Expression) → IfThere (ExpressionParsed p.text) x → K (F loop) (returned (seen_now p) fn.result t x)
  returned_keeps loop t None c =
      keeps_then p fn (λ (u : Unit {0}). not (is_void fn.result) ≡ false) Nothing Nothing (F loop) (rule (seen_now p) fn.result (not (is_void fn.result)) t) _ (rule_keeps (not (is_void fn.result)) t) (λ u e.
      keeps_pure p fn Nothing (λ b. Nothing u → F loop b) (core.Return None) tt (λ x. record { rules = returns_nothing fn.result e; bare = refl }))
  returned_keeps loop t (Some x) c =
      then_keeps V (F loop) (checked (seen_now p) fn.result (λ g. full g x)) _ (full_keeps x c) (λ v.
      keeps_then p fn (λ (u : Unit {0}). is_void fn.result ≡ false) Nothing Nothing (λ b. V v → F loop b) (rule (seen_now p) fn.result (is_void fn.result) t) _ (rule_keeps (is_void fn.result) t) (λ u e.
      then_pure (λ y. V v → IsTaken q s p.layouts fn.result y) (λ b. Nothing u → V v → F loop b) (checked (seen_now p) fn.result (λ g. operands.fitted v.first fn.result v)) (λ y. core.Return (Some y))
      (checks (λ y. V v → IsTaken q s p.layouts fn.result y) (λ g. operands.fitted v.first fn.result v) (λ f h w. each_value (operands.fitted v.first fn.result v) (λ y. IsTaken q s p.layouts fn.result y) (V v) (λ k. fitted_fits q s p.layouts v.first fn.result v k)))
      (λ y k n h. record { rules = returns_value fn.result y e (k h); bare = refl })))
    where
      each_value : (c : Checked Expr) (P : Expr → Type 0) (X : Type 0) → (X → WhereOk P c) → WhereOk (λ y. X → P y) c
      each_value (Ok y) P X k = k
      each_value (Err e) P X k = tt

  -- ---- `for`

  first_keeps : (loop : Bool) (x : ForFirst) → ForFirstParsed p.text x → K (Fs loop) (first_part (seen_now p) fn.result x)
  first_keeps loop NoFirst c = keeps_pure p fn Nothing (Fs loop) [] tt tt
  first_keeps loop (FirstValue x) c = then_pure HasType (Fs loop) (value (seen_now p) fn.result x) (λ e. core.Eval e ∷ []) (value_keeps x c) (λ e h. (record { rules = h; bare = refl }, tt))
  first_keeps loop (FirstLocal l) c = declare_keeps q fn noted p right done loop l c

  scoped_keeps : (P : Stmt → Type 0) (x : ForFirst) (d : Does Stmt) → K P d → K P (scoped (seen_now p) fn.result x d)
  scoped_keeps P NoFirst d h = h
  scoped_keeps P (FirstValue x) d h = h
  scoped_keeps P (FirstLocal l) d h = keeps_scope p fn Nothing P d h

  with_first_fits : (loop : Bool) (x : ForFirst) (ss : List Stmt) (a : Stmt) → Fs loop ss → F loop a → F loop (with_first (seen_now p) fn.result x ss a)
  with_first_fits loop NoFirst ss a h k = k
  with_first_fits loop (FirstValue x) ss a h k = block_fits loop (ss ++ (a ∷ [])) (each_append (F loop) ss (a ∷ []) h (k, tt))
  with_first_fits loop (FirstLocal l) ss a h k = block_fits loop (ss ++ (a ∷ [])) (each_append (F loop) ss (a ∷ []) h (k, tt))

  -- ---- statements

  mutual
    unfolding statement

    pub statement_keeps : (x : Statement) → StatementParsed p.text x → (loop : Bool) → K (F loop) (statement (seen_now p) fn.result loop x)
    statement_keeps NullStatement c loop = keeps_pure p fn Nothing (F loop) core.Empty tt (empty_fits loop)
    statement_keeps (Evaluate x) c loop = then_pure HasType (F loop) (value (seen_now p) fn.result x) core.Eval (value_keeps x c) (λ e h. record { rules = h; bare = refl })
    statement_keeps (Block ss) c loop =
        then_pure (Fs loop) (F loop) (in_scope (statements (seen_now p) fn.result loop ss)) core.Block (keeps_scope p fn Nothing (Fs loop) (statements (seen_now p) fn.result loop ss) (statements_keep ss c loop)) (block_fits loop)
    statement_keeps (Declare l) c loop = then_pure (Fs loop) (F loop) (declare (seen_now p) fn.result l) core.Block (declare_keeps q fn noted p right done loop l c) (block_fits loop)
    statement_keeps (If x a) c loop =
        then_keeps Tests (F loop) (test (seen_now p) fn.result x) _ (test_keeps x c.0) (λ e.
        then_pure (F loop) (λ s. Tests e → F loop s) (statement (seen_now p) fn.result loop a) (λ a. core.If e a core.Empty) (statement_keeps a c.1 loop) (λ a h t. if_fits loop e a core.Empty t h (empty_fits loop)))
    statement_keeps (IfElse x a b) c loop =
        then_keeps Tests (F loop) (test (seen_now p) fn.result x) _ (test_keeps x c.0) (λ e.
        then_keeps (F loop) (λ s. Tests e → F loop s) (statement (seen_now p) fn.result loop a) _ (statement_keeps a c.1 loop) (λ a.
        then_pure (F loop) (λ s. F loop a → Tests e → F loop s) (statement (seen_now p) fn.result loop b) (λ b. core.If e a b) (statement_keeps b c.2 loop) (λ b k h t. if_fits loop e a b t h k)))
    statement_keeps (While x a) c loop =
        then_keeps Tests (F loop) (test (seen_now p) fn.result x) _ (test_keeps x c.0) (λ e.
        then_pure (F true) (λ s. Tests e → F loop s) (statement (seen_now p) fn.result true a) (λ a. core.While e a) (statement_keeps a c.1 true) (λ a h t. while_fits loop e a t h))
    statement_keeps (Do a x) c loop =
        then_keeps (F true) (F loop) (statement (seen_now p) fn.result true a) _ (statement_keeps a c.0 true) (λ a.
        then_pure Tests (λ s. F true a → F loop s) (test (seen_now p) fn.result x) (λ e. core.Do a e) (test_keeps x c.1) (λ e t h. do_fits loop e a t h))
    statement_keeps (For first x step a) c loop =
        scoped_keeps (F loop) first _
        (then_keeps (Fs loop) (F loop) (first_part (seen_now p) fn.result first) _ (first_keeps loop first c.0) (λ before.
        then_keeps (WhereThere (is_condition q s)) (λ b. Fs loop before → F loop b) (where_present (seen_now p) fn.result (test (seen_now p) fn.result) x) _ (present_keeps (is_condition q s) (test (seen_now p) fn.result) test_keeps x c.1) (λ e.
        then_keeps (WhereThere (has_a_type q s)) (λ b. WhereThere (is_condition q s) e → Fs loop before → F loop b) (where_present (seen_now p) fn.result (value (seen_now p) fn.result) step) _ (present_keeps (has_a_type q s) (value (seen_now p) fn.result) value_keeps step c.2) (λ i.
        then_pure (F true) (λ b. WhereThere (has_a_type q s) i → WhereThere (is_condition q s) e → Fs loop before → F loop b) (statement (seen_now p) fn.result true a) (λ a. with_first (seen_now p) fn.result first before (core.For e i a)) (statement_keeps a c.3 true)
        (λ a h k t w. with_first_fits loop first before (core.For e i a) w (for_fits loop e i a t k h))))))
    statement_keeps (Break t) c loop = jump_keeps loop t core.Break (λ e. record { rules = e; bare = refl })
    statement_keeps (Continue t) c loop = jump_keeps loop t core.Continue (λ e. record { rules = e; bare = refl })
    statement_keeps (Return t x) c loop = returned_keeps loop t x c
    statement_keeps (Ghost t) c loop = keeps_pure p fn Nothing (F loop) core.Empty tt (empty_fits loop)
    statement_keeps (Assert t) c loop = keeps_pure p fn Nothing (F loop) core.Empty tt (empty_fits loop)

    pub statements_keep : (xs : Statements) → StatementsParsed p.text xs → (loop : Bool) → K (Fs loop) (statements (seen_now p) fn.result loop xs)
    statements_keep End c loop = keeps_pure p fn Nothing (Fs loop) [] tt tt
    statements_keep (Next (Declare l) ss) c loop =
        then_keeps (Fs loop) (Fs loop) (declare (seen_now p) fn.result l) _ (declare_keeps q fn noted p right done loop l c.0) (λ xs.
        then_pure (Fs loop) (λ ys. Fs loop xs → Fs loop ys) (statements (seen_now p) fn.result loop ss) (λ more. xs ++ more) (statements_keep ss c.1 loop) (λ more h k. each_append (F loop) xs more k h))
    statements_keep (Next x ss) c loop =
        then_keeps (F loop) (Fs loop) (statement (seen_now p) fn.result loop x) _ (statement_keeps x c.0 loop) (λ a.
        then_pure (Fs loop) (λ ys. F loop a → Fs loop ys) (statements (seen_now p) fn.result loop ss) (λ more. a ∷ more) (statements_keep ss c.1 loop) (λ more h k. (k, h)))
