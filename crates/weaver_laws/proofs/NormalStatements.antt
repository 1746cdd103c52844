-- All statements of a normal body, in the source and in the woven program.
use Rattle.std.specs.List.{AllByRecursion}
use Rattle.std.proofs.Common.{◌≡◌, ℕ, zero, suc, Bool, true, false, cond, ◌&&◌, ◌==◌, List, [], ◌∷◌, Option, refl, sym, subst, ap, append-nil}
use Rattle.std.specs.Prelude.{pos, negsuc}
use Rattle.std.proofs.lemmas.Bool.{eqb-true}
use mathlib.Core.Path.{fun_ext}
use denote.Hole.Carrier.{hidden}
use Rattle.step_meaning.specs.declared.value.Value.{Value}
use Rattle.step_meaning.specs.declared.value.Action.{Action}
use Rattle.step_meaning.specs.declared.stmt.Stmt.{Stmt, Row_of-Stmt, end_of-Stmt, more_of-Stmt}
use Rattle.step_meaning.specs.declared.stmt.Stmt.TheVariants.{Ghost, Assert, Eval}
use Rattle.step_meaning.specs.declared.stmt.Stmt.TheVariants as st
use Rattle.step_meaning.specs.declared.program.Core.{Core}
use Rattle.step_meaning.specs.declared.program.Hooks.{Hooks}
use Rattle.step_meaning.specs.declared.program.HookPoint.{HookPoint}
use Rattle.step_meaning.specs.declared.expr.Expr.{Expr}
use Rattle.step_meaning.specs.declared.expr.Expr.TheVariants as ex
use Rattle.step_meaning.specs.declared.value.IntKind.TheVariants as kind
use Rattle.step_meaning.specs.declared.value.IntKind.{IntKind}
use Rattle.step_meaning.specs.declared.stmt.Stmt.TheBlock.{shape-the_row-Stmt-0, hidden-the_row-Stmt-0}
use Rattle.step_meaning.specs.Memory.{Memory, Frame}
use Rattle.step_meaning.specs.Steps.{Step, Verdict, Trace}
use Rattle.step_meaning.specs.State.{State, Here, Registers}
use Rattle.step_meaning.specs.Flow.{Resting, RestingCall, resting}
use Rattle.step_meaning.specs.Statements.{Completion, Next, exec_all, Broken, Continued, Returned, exec, exec_row}
use Rattle.step_meaning.specs.Names.{truth}
use Rattle.step_meaning.specs.Expressions.{eval}
use Rattle.step_meaning.specs.Normal.{is_operand, all_normal, is_normal_expression, is_literal_one, is_operand_or_nothing, is_normal, are_normal}
use Rattle.step_meaning.specs.Strict.{strict}
use Rattle.step_meaning.specs.Statements as sm
use Rattle.step_meaning.specs.Conversions.{same_int_kind}
use Rattle.weaver_laws.specs.Weaving.{changed_code, woven_all, woven_statement, woven_row}
use Rattle.weaver_laws.proofs.GhostFrames.{image}
use Rattle.weaver_laws.proofs.TraceSimulation.{IsProper, TraceSimulated}
use Rattle.weaver_laws.proofs.ChangedCode.{PointReady}
use Rattle.weaver_laws.proofs.ActivationSteps.{InBody, PartlyAsserted, Asserted, step, fold_verdicts, fold_ghosts, exact_open, CallsSimulated}
use Rattle.weaver_laws.proofs.Operands.{operand_value, operand_strict, operand_run}
use Rattle.weaver_laws.proofs.StepStatements.{assert_changed, turned, ExitsSimulated, PartSimulated, held_case}
use Rattle.weaver_laws.proofs.ScalarAccesses.{scalars_in, scalars_in_row, has_scalars, scalars_in_all}
use Rattle.weaver_laws.proofs.ExpressionStatements.{eval_simulated, return_simulated}
use Rattle.weaver_laws.proofs.Basics.{no_true, and_left, and_right}

module _ (p : Core) (h : Hooks) (j : ℕ) (IsTheirs : ℕ → Type 0) (ss : List Step) (ready : AllByRecursion (PointReady p h j IsTheirs ss) h.points) (here : Here) (outer : List Frame)
    (source_call woven_call : ℕ → List Value → RestingCall) (bound : ℕ) (first : Memory) (alike : CallsSimulated p h j IsTheirs ss source_call woven_call) where
  abbrev InBodyHere : State → Memory → Type 0
  InBodyHere = InBody p h j IsTheirs ss ready here outer first

  abbrev SimulatedHere : Memory → Bool → List Verdict → Trace → Trace → Type 0
  SimulatedHere g good vs t u = TraceSimulated p h j IsTheirs ss g good vs t u

  abbrev PartSimulatedHere : (Completion → State → Registers → Trace) → (Completion → State → Registers → Trace) → Resting Completion → Resting Completion → Type 0
  PartSimulatedHere = PartSimulated p h j IsTheirs ss ready here outer source_call woven_call bound first

  abbrev ExitsSimulatedHere : (Completion → State → Registers → Trace) → (Completion → State → Registers → Trace) → Type 0
  ExitsSimulatedHere = ExitsSimulated p h j IsTheirs ss ready here outer source_call woven_call bound first

  abbrev step_here : Action → State → Step
  step_here a s = step p h j IsTheirs ss ready here outer a s

  abbrev ghosts_here : Action → State → Memory → Memory
  ghosts_here a s g = fold_ghosts p h j IsTheirs ss ready here outer a s g

  abbrev verdicts_here : Action → State → Memory → List Verdict
  verdicts_here a s g = fold_verdicts p h j IsTheirs ss ready here outer a s g

  abbrev woven_state : State → Memory → State
  woven_state s g = record s { ghosts = image here.activation outer g }

  abbrev run_woven : List Stmt → Resting Completion
  run_woven c = exec_all resting p.layouts woven_call here bound c

  abbrev run_statement : Stmt → Resting Completion
  run_statement c = exec strict p.layouts source_call here bound c

  abbrev hook_points : List HookPoint
  hook_points = h.points

  -- ---- blocks, branches and loops

  abbrev run_row : {n : _} → Row_of-Stmt n → Resting Completion
  run_row ss = exec_row strict p.layouts source_call here bound ss

  block_row : (l : List Stmt) → exec_row resting p.layouts woven_call here bound (hidden-the_row-Stmt-0 l) ≡ run_woven l
  unfolding shape-the_row-Stmt-0 hidden-the_row-Stmt-0 hidden
  block_row [] = refl
  block_row (s ∷ l) = ap (λ (d : Resting Completion). λ rest. exec resting p.layouts woven_call here bound s (λ c. sm.on_next resting d c rest)) (block_row l)

  -- a statement whose end leaves nothing to do
  next_unit : (rest : Completion → State → Registers → Trace) → (λ c. sm.on_next strict (strict.pure Next) c rest) ≡ rest
  next_unit rest = fun_ext by
    where
      by : (c : Completion) → sm.on_next strict (strict.pure Next) c rest ≡ rest c
      by Next = refl
      by Broken = refl
      by Continued = refl
      by (Returned v) = refl

  abbrev source_onward : Resting Completion → (Completion → State → Registers → Trace) → Completion → State → Registers → Trace
  source_onward D rest c = sm.on_next strict D c rest

  abbrev woven_onward : List Stmt → (Completion → State → Registers → Trace) → Completion → State → Registers → Trace
  woven_onward tail rest c = sm.on_next resting (run_woven tail) c rest

  exits_after : (D : Resting Completion) (tail : List Stmt) (rest rest' : Completion → State → Registers → Trace) → ExitsSimulatedHere rest rest' → ExitsSimulatedHere (source_onward D rest) (woven_onward tail rest')
  exits_after D tail rest rest' exits = record {
    broken = λ s g good vs r b o f. exits.broken s g good vs r b o f;
    continued = λ s g good vs r b o f. exits.continued s g good vs r b o f;
    returns_step = λ v s r f. exits.returns_step v s r f;
    returned = λ v s g good vs r b b' m f. exits.returned v s g good vs r b b' m f;
  }

  end_simulated : (D : Resting Completion) (tail : List Stmt) (rest rest' : Completion → State → Registers → Trace) → PartSimulatedHere rest rest' D (run_woven tail) → PartSimulatedHere (source_onward D rest) (woven_onward tail rest') (strict.pure Next) (run_woven [])
  end_simulated D tail rest rest' simulated = record { by = λ s g good vs r b o f. simulated.by s g good vs r b o f }

  abbrev pub StatementSimulated : Stmt → Type 0
  StatementSimulated x = (w : Bool) (D : Resting Completion) (tail : List Stmt) (rest rest' : Completion → State → Registers → Trace) → ExitsSimulatedHere rest rest' → PartSimulatedHere rest rest' D (run_woven tail) → PartSimulatedHere rest rest' (λ rest. run_statement x (source_onward D rest)) (run_woven (woven_statement hook_points here.function w x tail))

  -- a branch
  branch : (x : Stmt) → StatementSimulated x → (D : Resting Completion) (tail : List Stmt) (rest rest' : Completion → State → Registers → Trace) → ExitsSimulatedHere rest rest' → PartSimulatedHere rest rest' D (run_woven tail)
      → (s : State) (g : Memory) (good : Bool) (vs : List Verdict) (r : Registers) → InBodyHere s g → PartlyAsserted p h j IsTheirs ss ready here outer s g good vs → IsProper p false (run_statement x (source_onward D rest) s r)
      → SimulatedHere g good vs (run_statement x (source_onward D rest) s r) (exec resting p.layouts woven_call here bound (st.Block (woven_statement hook_points here.function true x [])) (woven_onward tail rest') (woven_state s g) r)
  branch x part_simulated D tail rest rest' exits simulated s g good vs r b o f =
      subst (λ (d : Resting Completion). SimulatedHere g good vs (run_statement x (source_onward D rest) s r) (d (woven_onward tail rest') (woven_state s g) r)) (sym (block_row (woven_statement hook_points here.function true x [])))
      (subst (λ k. IsProper p false (run_statement x k s r) → SimulatedHere g good vs (run_statement x k s r) (run_woven (woven_statement hook_points here.function true x []) (woven_onward tail rest') (woven_state s g) r)) (next_unit (source_onward D rest))
      (λ f. (part_simulated true (strict.pure Next) [] (source_onward D rest) (woven_onward tail rest') (exits_after D tail rest rest' exits) (end_simulated D tail rest rest' simulated)).by s g good vs r b o f)
      f)

  if_simulated : (e : Expr) (b c : _) (x y : Stmt) → is_operand e ≡ true → StatementSimulated x → StatementSimulated y → StatementSimulated (st.If' e b (more_of-Stmt x end_of-Stmt) c (more_of-Stmt y end_of-Stmt))
  if_simulated e b c x y oe sx sy w D tail rest rest' exits simulated = record {
    by = λ s g good vs r body opened proper.
        let X = st.Block (woven_statement hook_points here.function true x []) in
        let Y = st.Block (woven_statement hook_points here.function true y []) in
        let k = λ (v : Value). cond (truth v) (run_statement x) (run_statement y) (source_onward D rest) in
        let k' = λ (v : Value). cond (truth v) (exec resting p.layouts woven_call here bound X) (exec resting p.layouts woven_call here bound Y) (woven_onward tail rest') in
        let t = eval strict p.layouts source_call here e k s r in
        held_case p h j IsTheirs ss ready here outer source_call woven_call bound first (operand_value e r) k s r t (operand_strict here p.layouts source_call e oe k s r) proper (SimulatedHere g good vs t (eval resting p.layouts woven_call here e k' (woven_state s g) r)) (λ v ev et.
        subst (λ t. SimulatedHere g good vs t (eval resting p.layouts woven_call here e k' (woven_state s g) r)) (sym et)
        (subst (λ u. SimulatedHere g good vs (k v s r) u) (sym (operand_run here p.layouts woven_call e oe v r ev k' (woven_state s g)))
        (either (truth v) s g good vs r body opened (subst (λ t. IsProper p false t) et proper))));
  }
    where
      either : (t : Bool) (s : State) (g : Memory) (good : Bool) (vs : List Verdict) (r : Registers) → InBodyHere s g → PartlyAsserted p h j IsTheirs ss ready here outer s g good vs → IsProper p false (cond t (run_statement x) (run_statement y) (source_onward D rest) s r)
          → SimulatedHere g good vs (cond t (run_statement x) (run_statement y) (source_onward D rest) s r) (cond t (exec resting p.layouts woven_call here bound (st.Block (woven_statement hook_points here.function true x []))) (exec resting p.layouts woven_call here bound (st.Block (woven_statement hook_points here.function true y []))) (woven_onward tail rest') (woven_state s g) r)
      either true s g good vs r body o f = branch x sx D tail rest rest' exits simulated s g good vs r body o f
      either false s g good vs r body o f = branch y sy D tail rest rest' exits simulated s g good vs r body o f

  -- the turns of a loop, from where what holds at every step was asserted
  module _ (x : Stmt) (part_simulated : StatementSimulated x) (D : Resting Completion) (tail : List Stmt) (rest rest' : Completion → State → Registers → Trace) (exits : ExitsSimulatedHere rest rest') (simulated : PartSimulatedHere rest rest' D (run_woven tail)) where
    abbrev turn' : Resting Completion
    turn' = exec resting p.layouts woven_call here bound (st.Block (woven_statement hook_points here.function true x (changed_code hook_points here.function)))

    abbrev loop : ℕ → State → Registers → Trace
    loop n = sm.turns strict here (run_statement x) n (source_onward D rest)

    abbrev loop' : ℕ → State → Registers → Trace
    loop' n = sm.turns resting here turn' n (woven_onward tail rest')

    abbrev source_again : ℕ → Completion → State → Registers → Trace
    source_again n c = sm.after_turn strict (sm.turns strict here (run_statement x) n) c (source_onward D rest)

    abbrev woven_again : ℕ → Completion → State → Registers → Trace
    woven_again n c = sm.after_turn resting (sm.turns resting here turn' n) c (woven_onward tail rest')

    LoopSimulated : ℕ → Type 0
    LoopSimulated n = (s : State) (g : Memory) (good : Bool) (vs : List Verdict) (r : Registers) → InBodyHere s g → Asserted p h j IsTheirs ss ready here outer s g good vs → IsProper p false (loop n s r) → SimulatedHere g good vs (loop n s r) (loop' n (woven_state s g) r)

    turns_simulated : (n : ℕ) → (s : State) (g : Memory) (good : Bool) (vs : List Verdict) (r : Registers) → InBodyHere s g → Asserted p h j IsTheirs ss ready here outer s g good vs → IsProper p false (loop n s r) → SimulatedHere g good vs (loop n s r) (loop' n (woven_state s g) r)
    turns_simulated zero s g good vs r b a f = (refl, λ e. absurd e)
    turns_simulated (suc n) s g good vs r b a f =
        turned p h j IsTheirs ss ready here outer source_call woven_call bound first s g good vs b a (run_statement x (source_again n) s r) (turn' (woven_again n) (woven_state s g) r) f (λ good'.
        subst (λ (d : Resting Completion). SimulatedHere g good' [] (run_statement x (source_again n) s r) (d (woven_again n) (woven_state s g) r)) (sym (block_row (woven_statement hook_points here.function true x (changed_code hook_points here.function))))
        (subst (λ k. IsProper p false (run_statement x k s r) → SimulatedHere g good' [] (run_statement x k s r) (run_woven (woven_statement hook_points here.function true x (changed_code hook_points here.function)) (woven_again n) (woven_state s g) r)) (next_unit (source_again n))
        (λ f. (part_simulated true (strict.pure Next) (changed_code hook_points here.function) (source_again n) (woven_again n)
        (record {
          broken = λ s g good vs r b o f. simulated.by s g good vs r b o f;
          continued = λ s g good vs r b a f. turns_simulated n s g good vs r b a f;
          returns_step = λ v s r f. exits.returns_step v s r f;
          returned = λ v s g good vs r b b' m f. exits.returned v s g good vs r b b' m f;
        })
        (record {
          by = λ s g good vs r b o f.
              subst (λ c. SimulatedHere g good vs (loop n s r) (run_woven c (woven_again n) (woven_state s g) r)) (append-nil (changed_code hook_points here.function))
              (assert_changed p h j IsTheirs ss ready here outer source_call woven_call bound first s r g good vs b o (loop n s r) [] (woven_again n) (λ ws a. turns_simulated n s g good ws r b a f));
        })).by s g good' [] r b (exact_open p h j IsTheirs ss ready here outer s g good') f)
        f.1))

  while_simulated : (k : IntKind) (n : ℕ) (b : _) (x : Stmt) → n ≡ 1 → StatementSimulated x → StatementSimulated (st.While' (ex.Literal k (pos n)) b (more_of-Stmt x end_of-Stmt))
  while_simulated k n b x e part_simulated w D tail rest rest' exits simulated =
      subst (λ n. PartSimulatedHere rest rest' (λ rest. run_statement (st.While' (ex.Literal k (pos n)) b (more_of-Stmt x end_of-Stmt)) (source_onward D rest)) (run_woven (woven_statement hook_points here.function w (st.While' (ex.Literal k (pos n)) b (more_of-Stmt x end_of-Stmt)) tail))) (sym e)
      (record {
        by = λ s g good vs r body opened proper.
            assert_changed p h j IsTheirs ss ready here outer source_call woven_call bound first s r g good vs body opened (sm.turns strict here (run_statement x) bound (source_onward D rest) s r) (st.While' (ex.Literal k (pos 1)) b (more_of-Stmt (st.Block (woven_statement hook_points here.function true x (changed_code hook_points here.function))) end_of-Stmt) ∷ tail) rest'
            (λ ws a. turns_simulated x part_simulated D tail rest rest' exits simulated bound s g good ws r body a proper);
      })

  -- ---- all statements

  abbrev row_then : {n : _} → Row_of-Stmt n → Resting Completion → Resting Completion
  row_then end_of-Stmt D = D
  row_then (more_of-Stmt x more) D = λ rest. run_statement x (source_onward (row_then more D) rest)

  row_is : {n : _} (xs : Row_of-Stmt n) (D : Resting Completion) (rest : Completion → State → Registers → Trace) → run_row xs (source_onward D rest) ≡ row_then xs D rest
  row_is end_of-Stmt D rest = refl
  row_is (more_of-Stmt x more) D rest = ap (λ k. run_statement x k) (fun_ext (by (row_is more D rest)))
    where
      by : run_row more (source_onward D rest) ≡ row_then more D rest → (c : Completion) → sm.on_next strict (run_row more) c (source_onward D rest) ≡ sm.on_next strict (row_then more D) c rest
      by e Next = e
      by e Broken = refl
      by e Continued = refl
      by e (Returned v) = refl

  abbrev RowSimulated : {n : _} → Row_of-Stmt n → Type 0
  RowSimulated xs = (D : Resting Completion) (tail : List Stmt) (rest rest' : Completion → State → Registers → Trace) → ExitsSimulatedHere rest rest' → PartSimulatedHere rest rest' D (run_woven tail) → PartSimulatedHere rest rest' (row_then xs D) (run_woven (woven_row hook_points here.function xs tail))

  block_simulated : (b : _) (xs : Row_of-Stmt _) → RowSimulated xs → StatementSimulated (st.Block' b xs)
  block_simulated b xs part_simulated true D tail rest rest' exits simulated = record {
    by = λ s g good vs r body o f.
        subst (λ (t : State → Registers → Trace). IsProper p false (t s r) → SimulatedHere g good vs (t s r) (run_woven (woven_row hook_points here.function xs tail) rest' (woven_state s g) r)) (sym (row_is xs D rest)) (λ f. (part_simulated D tail rest rest' exits simulated).by s g good vs r body o f) f;
  }
  block_simulated b xs part_simulated false D tail rest rest' exits simulated = record {
    by = λ s g good vs r body o f.
        subst (λ (d : Resting Completion). SimulatedHere g good vs (run_row xs (source_onward D rest) s r) (d (woven_onward tail rest') (woven_state s g) r)) (sym (block_row (woven_row hook_points here.function xs [])))
        (subst (λ k. IsProper p false (run_row xs k s r) → SimulatedHere g good vs (run_row xs k s r) (run_woven (woven_row hook_points here.function xs []) (woven_onward tail rest') (woven_state s g) r)) (next_unit (source_onward D rest))
        (λ f. subst (λ (t : State → Registers → Trace). IsProper p false (t s r) → SimulatedHere g good vs (t s r) (run_woven (woven_row hook_points here.function xs []) (woven_onward tail rest') (woven_state s g) r)) (sym (row_is xs (strict.pure Next) (source_onward D rest)))
        (λ f. (part_simulated (strict.pure Next) [] (source_onward D rest) (woven_onward tail rest') (exits_after D tail rest rest' exits) (end_simulated D tail rest rest' simulated)).by s g good vs r body o f) f)
        f);
  }

  continue_simulated : StatementSimulated st.Continue
  continue_simulated w D tail rest rest' exits simulated = record {
    by = λ s g good vs r body opened proper.
        assert_changed p h j IsTheirs ss ready here outer source_call woven_call bound first s r g good vs body opened (rest Continued s r) (st.Continue ∷ tail) rest' (λ ws a. exits.continued s g good ws r body a proper);
  }

  while_of : (e : Expr) (b : _) (x : Stmt) → is_literal_one e ≡ true → StatementSimulated x → StatementSimulated (st.While' e b (more_of-Stmt x end_of-Stmt))
  while_of (ex.Literal k (pos n)) b x o part_simulated = while_simulated k n b x (eqb-true n 1 (and_right (same_int_kind k kind.Int) (n == 1) o)) part_simulated
  while_of (ex.Literal k (negsuc n)) b x o part_simulated = absurd (no_false o)
    where
      no_false : false ≡ true → ⊥
      no_false e = cc
  while_of _ b x o part_simulated = absurd (no_false o)
    where
      no_false : false ≡ true → ⊥
      no_false e = cc

  empty_simulated : StatementSimulated st.Empty
  empty_simulated w D tail rest rest' exits simulated = record { by = λ s g good vs r b o f. simulated.by s g good vs r b o f }

  break_simulated : StatementSimulated st.Break
  break_simulated w D tail rest rest' exits simulated = record { by = λ s g good vs r b o f. exits.broken s g good vs r b o f }

  expression_simulated : (e : Expr) → is_normal_expression e ≡ true → has_scalars e ≡ true → StatementSimulated (st.Eval e)
  expression_simulated e n c w D tail rest rest' exits simulated = eval_simulated p h j IsTheirs ss ready here outer source_call woven_call bound first alike e n c D tail rest rest' simulated

  returning_simulated : (e : Option Expr) → is_operand_or_nothing e ≡ true → StatementSimulated (st.Return e)
  returning_simulated e n w D tail rest rest' exits simulated = return_simulated p h j IsTheirs ss ready here outer source_call woven_call bound first alike e n D tail rest rest' exits

  mutual
    pub statement_simulated : (x : Stmt) → is_normal x ≡ true → scalars_in x ≡ true → StatementSimulated x
    statement_simulated st.Empty n c = empty_simulated
    statement_simulated (st.Eval e) n c = expression_simulated e n c
    statement_simulated (st.Block' b xs) n c = block_simulated b xs (row_simulated xs n c)
    statement_simulated (st.If' e b (more_of-Stmt x end_of-Stmt) d (more_of-Stmt y end_of-Stmt)) n c =
        let m = and_right (is_operand e) (is_normal x && is_normal y) n in
        if_simulated e b d x y (and_left (is_operand e) (is_normal x && is_normal y) n) (statement_simulated x (and_left (is_normal x) (is_normal y) m) (and_left (scalars_in x) (scalars_in y) c)) (statement_simulated y (and_right (is_normal x) (is_normal y) m) (and_right (scalars_in x) (scalars_in y) c))
    statement_simulated (st.While' e b (more_of-Stmt x end_of-Stmt)) n c = while_of e b x (and_left (is_literal_one e) (is_normal x) n) (statement_simulated x (and_right (is_literal_one e) (is_normal x) n) c)
    statement_simulated st.Break n c = break_simulated
    statement_simulated st.Continue n c = continue_simulated
    statement_simulated (st.Return e) n c = returning_simulated e n
    statement_simulated (st.Ghost q) n c = no_true c
    statement_simulated (st.Assert k m q) n c = no_true c
    statement_simulated (st.Init v o t e) n c = no_true n
    statement_simulated (st.Do' b (more_of-Stmt x end_of-Stmt) e) n c = no_true n
    statement_simulated (st.For' e f b (more_of-Stmt x end_of-Stmt)) n c = no_true n

    pub row_simulated : {n : _} (xs : Row_of-Stmt n) → are_normal xs ≡ true → scalars_in_row xs ≡ true → RowSimulated xs
    row_simulated end_of-Stmt n c D tail rest rest' exits simulated = simulated
    row_simulated (more_of-Stmt x more) n c D tail rest rest' exits simulated =
        statement_simulated x (and_left (is_normal x) (are_normal more) n) (and_left (scalars_in x) (scalars_in_row more) c) false (row_then more D) (woven_row hook_points here.function more tail) rest rest' exits
        (row_simulated more (and_right (is_normal x) (are_normal more) n) (and_right (scalars_in x) (scalars_in_row more) c) D tail rest rest' exits simulated)

  -- the statements of a body, before what stands at its end
  pub body_simulated : (xs : List Stmt) → all_normal xs ≡ true → scalars_in_all xs ≡ true → (tail : List Stmt) (rest rest' : Completion → State → Registers → Trace) → ExitsSimulatedHere rest rest' → PartSimulatedHere rest rest' (strict.pure Next) (run_woven tail) → PartSimulatedHere rest rest' (exec_all strict p.layouts source_call here bound xs) (run_woven (woven_all hook_points here.function xs tail))
  body_simulated [] n c tail rest rest' exits simulated = simulated
  body_simulated (x ∷ xs) n c tail rest rest' exits simulated =
      statement_simulated x (and_left (is_normal x) (all_normal xs) n) (and_left (scalars_in x) (scalars_in_all xs) c) false (exec_all strict p.layouts source_call here bound xs) (woven_all hook_points here.function xs tail) rest rest' exits
      (body_simulated xs (and_right (is_normal x) (all_normal xs) n) (and_right (scalars_in x) (scalars_in_all xs) c) tail rest rest' exits simulated)
