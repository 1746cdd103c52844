-- Declarations and statements add locals at the end alone.
use Rattle.std.proofs.Common.{◌≡◌, ℕ, Bool, true, false, not, List, [], ◌∷◌, ◌++◌, Option, Some, None, refl, sym, ap, ◌∙◌, append_assoc, append-nil}
use Rattle.std.specs.Prelude.{is_some}
use Rattle.c_words.specs.declared.word.Leaf.{Leaf}
use Rattle.step_meaning.specs.declared.value.CType.{CType}
use Rattle.step_meaning.specs.declared.expr.Expr.{Expr}
use Rattle.step_meaning.specs.declared.stmt.Stmt.{Stmt}
use Rattle.step_meaning.specs.declared.stmt.Stmt.TheVariants as core
use Rattle.step_meaning.specs.declared.program.Declared.{Declared as Named}
use Rattle.step_meaning.specs.ExpressionTypes.{is_void}
use Rattle.typing_rules.specs.declared.fault.TypeFault.TheVariants.{Mismatch, StrayJump}
use Rattle.typing_rules.specs.Checked.{Checked, unless}
use Rattle.typing_rules.specs.Checked.{◌>>=◌ as ◌then◌}
use Rattle.typing_rules.specs.Syntax.{Expression, Initialiser, Declared, Local, Statement, Nothing, Evaluate, Block, Declare, If, IfElse, While, Do, For, Break, Continue, Return, Ghost, Assert, Statements, End, Next, ForFirst, NoFirst, FirstValue, FirstLocal}
use Rattle.typing_rules.specs.Environment.{Environment, place_of, bytes_in, is_reserved, found_in, specified}
use Rattle.typing_rules.specs.Declarations.{is_complete_in, declarable, layers, layered, count_of}
use Rattle.typing_rules.specs.Operands.{condition, fitted}
use Rattle.typing_rules.specs.Expressions.{full}
use Rattle.typing_rules.specs.Initialisers.{local_cells}
use Rattle.typing_rules.specs.Statements.{Frame, Does, pure, ◌>>=◌, opened, innermost, in_scope, declared_as, judged, init_statements, initialised, declare_one, declare_all, declare, value, test, where_present, rule, jump, returned, first_part, scoped, with_first, statement, statements, checked, seen}
use Rattle.typing_laws.specs.SmallTypes.{WhereOk}
use Rattle.typing_laws.proofs.CheckedValues.{then_holds, then_known, weaker}

pub record Longer (f f' : Frame) : Type 0 where
  pub more : List Named
  pub whole : f'.locals ≡ f.locals ++ more

abbrev pub Grown : {A : Type 0} → Does A → Type 0
Grown d = (f : Frame) → WhereOk (λ r. Longer f r.1) (d f)

itself : (f : Frame) → Longer f f
itself f = record { more = []; whole = sym (append-nil f.locals) }

pure_grows : {A : Type 0} (a : A) → Grown (pure a)
pure_grows a f = itself f

then_grows : {A B : Type 0} (d : Does A) (k : A → Does B) → Grown d → ((a : A) → Grown (k a)) → Grown (d >>= k)
then_grows d k D K f =
    then_holds (λ r. Longer f r.1) (λ r. Longer f r.1) (d f) _ (D f) (λ r a.
    weaker (λ s. Longer r.1 s.1) (λ s. Longer f s.1) (k r.0 r.1) (λ s b. record { more = a.more ++ b.more; whole = b.whole ∙ ap (λ ds. ds ++ b.more) a.whole ∙ append_assoc f.locals a.more b.more }) (K r.0 r.1))

then_pure : {A B : Type 0} (d : Does A) (k : A → B) → Grown d → Grown (d >>= (λ a. pure (k a)))
then_pure d k D = then_grows d (λ a. pure (k a)) D (λ a. pure_grows (k a))

scope_grows : {A : Type 0} (d : Does A) → Grown d → Grown (in_scope d)
unfolding in_scope
scope_grows d D f = then_holds (λ r. Longer (opened f) r.1) (λ r. Longer f r.1) (d (opened f)) _ (D (opened f)) (λ r a. record { more = a.more; whole = a.whole })

module _ (g : Environment) (result : CType) where
  checked_grows : {A : Type 0} (c : Environment → Checked A) → Grown (checked g result c)
  checked_grows c f = then_known (λ r. Longer f r.1) (c (seen g result f)) _ (λ a e. itself f)

  judged_grows : (name : Leaf) (t : CType) → Grown (judged g result name t)
  judged_grows name t f =
      let bytes = bytes_in g name in
      then_known (λ r. Longer f r.1) (declarable g (place_of name) (is_some (found_in (innermost f.scopes) bytes)) (not (is_complete_in g t)) false (is_reserved g bytes) t) _ (λ u e. itself f)

  initialised_grows : (n : ℕ) (t : CType) (x : Option Initialiser) → Grown (initialised g result n t x)
  initialised_grows n t None = pure_grows (core.Empty ∷ [])
  initialised_grows n t (Some x) = then_pure (checked g result (λ g. local_cells g t x)) (init_statements g result n 0) (checked_grows (λ g. local_cells g t x))

  declare_one_grows : (base : CType) (d : Declared) → Grown (declare_one g result base d)
  unfolding declare_one
  declare_one_grows base d =
      then_grows (checked g result (λ g. layers g (count_of d.initialiser) d.declarator.modifiers)) _ (checked_grows (λ g. layers g (count_of d.initialiser) d.declarator.modifiers)) (λ ls.
      then_grows (judged g result d.declarator.name (layered ls base)) _ (judged_grows d.declarator.name (layered ls base)) (λ u.
      then_grows (declared_as g result d.declarator.name (layered ls base)) _ (λ f. record { more = record { name = bytes_in g d.declarator.name; ctype = layered ls base } ∷ []; whole = refl }) (λ n.
      initialised_grows n (layered ls base) d.initialiser)))

  declare_all_grows : (base : CType) (ds : List Declared) → Grown (declare_all g result base ds)
  unfolding declare_all
  declare_all_grows base [] = pure_grows {A = List Stmt} []
  declare_all_grows base (d ∷ ds) = then_grows (declare_one g result base d) _ (declare_one_grows base d) (λ ss. then_pure (declare_all g result base ds) (λ more. ss ++ more) (declare_all_grows base ds))

  declare_grows : (l : Local) → Grown (declare g result l)
  unfolding declare
  declare_grows l = then_grows (checked g result (λ g. specified g l.specifier)) _ (checked_grows (λ g. specified g l.specifier)) (λ base. declare_all_grows base l.declared)

  -- ---- statements

  value_grows : (x : Expression) → Grown (value g result x)
  value_grows x = then_pure (checked g result (λ g. full g x)) (λ v. v.expr) (checked_grows (λ g. full g x))

  test_grows : (x : Expression) → Grown (test g result x)
  test_grows x = checked_grows (λ g. full g x then condition)

  present_grows : (d : Expression → Does Expr) → ((x : Expression) → Grown (d x)) → (x : Option Expression) → Grown (where_present g result d x)
  present_grows d h None = pure_grows {A = Option Expr} None
  present_grows d h (Some x) = then_pure (d x) Some (h x)

  rule_grows : (broken : Bool) (t : Leaf) → Grown (rule g result broken t)
  rule_grows broken t f = then_known (λ r. Longer f r.1) (unless broken (Mismatch (place_of t))) _ (λ u e. itself f)

  jump_grows : (loop : Bool) (t : Leaf) (x : Stmt) → Grown (jump g result loop t x)
  jump_grows loop t x f = then_known (λ r. Longer f r.1) (unless (not loop) (StrayJump (place_of t))) _ (λ u e. itself f)

  returned_grows : (t : Leaf) (x : Option Expression) → Grown (returned g result t x)
  returned_grows t None = then_pure (rule g result (not (is_void result)) t) (λ u. core.Return None) (rule_grows (not (is_void result)) t)
  returned_grows t (Some x) =
      then_grows (checked g result (λ g. full g x)) _ (checked_grows (λ g. full g x)) (λ v.
      then_grows (rule g result (is_void result) t) _ (rule_grows (is_void result) t) (λ u.
      then_pure (checked g result (λ g. fitted v.first result v)) (λ e. core.Return (Some e)) (checked_grows (λ g. fitted v.first result v))))

  first_grows : (x : ForFirst) → Grown (first_part g result x)
  first_grows NoFirst = pure_grows {A = List Stmt} []
  first_grows (FirstValue x) = then_pure (value g result x) (λ e. core.Eval e ∷ []) (value_grows x)
  first_grows (FirstLocal l) = declare_grows l

  scoped_grows : (x : ForFirst) (d : Does Stmt) → Grown d → Grown (scoped g result x d)
  scoped_grows NoFirst d h = h
  scoped_grows (FirstValue x) d h = h
  scoped_grows (FirstLocal l) d h = scope_grows d h

  mutual
    unfolding statement

    pub statement_grows : (x : Statement) (loop : Bool) → Grown (statement g result loop x)
    statement_grows Nothing loop = pure_grows core.Empty
    statement_grows (Evaluate x) loop = then_pure (value g result x) core.Eval (value_grows x)
    statement_grows (Block ss) loop = then_pure (in_scope (statements g result loop ss)) core.Block (scope_grows (statements g result loop ss) (statements_grow ss loop))
    statement_grows (Declare l) loop = then_pure (declare g result l) core.Block (declare_grows l)
    statement_grows (If x a) loop = then_grows (test g result x) _ (test_grows x) (λ e. then_pure (statement g result loop a) (λ a. core.If e a core.Empty) (statement_grows a loop))
    statement_grows (IfElse x a b) loop = then_grows (test g result x) _ (test_grows x) (λ e. then_grows (statement g result loop a) _ (statement_grows a loop) (λ a. then_pure (statement g result loop b) (λ b. core.If e a b) (statement_grows b loop)))
    statement_grows (While x a) loop = then_grows (test g result x) _ (test_grows x) (λ e. then_pure (statement g result true a) (λ a. core.While e a) (statement_grows a true))
    statement_grows (Do a x) loop = then_grows (statement g result true a) _ (statement_grows a true) (λ a. then_pure (test g result x) (λ e. core.Do a e) (test_grows x))
    statement_grows (For first x step a) loop =
        scoped_grows first _
        (then_grows (first_part g result first) _ (first_grows first) (λ before.
        then_grows (where_present g result (test g result) x) _ (present_grows (test g result) test_grows x) (λ e.
        then_grows (where_present g result (value g result) step) _ (present_grows (value g result) value_grows step) (λ i.
        then_pure (statement g result true a) (λ a. with_first g result first before (core.For e i a)) (statement_grows a true)))))
    statement_grows (Break t) loop = jump_grows loop t core.Break
    statement_grows (Continue t) loop = jump_grows loop t core.Continue
    statement_grows (Return t x) loop = returned_grows t x
    statement_grows (Ghost t) loop = pure_grows core.Empty
    statement_grows (Assert t) loop = pure_grows core.Empty

    pub statements_grow : (xs : Statements) (loop : Bool) → Grown (statements g result loop xs)
    statements_grow End loop = pure_grows {A = List Stmt} []
    statements_grow (Next (Declare l) ss) loop = then_grows (declare g result l) _ (declare_grows l) (λ xs. then_pure (statements g result loop ss) (λ more. xs ++ more) (statements_grow ss loop))
    statements_grow (Next x ss) loop = then_grows (statement g result loop x) _ (statement_grows x loop) (λ a. then_pure (statements g result loop ss) (λ more. a ∷ more) (statements_grow ss loop))
