-- Statements keep types: a statement is left by `break` or `continue` in a loop alone, and by `return` with a value of the function's type.
use Rattle.std.proofs.Common.{◌≡◌, ℕ, zero, suc, ◌<◌, ◌^◌, Bool, true, false, List, [], ◌∷◌, length, Option, Some, None, refl, arith}
use Rattle.std.specs.Prelude.{IsTrue, option_map, nat_le, slice_get}
use Rattle.step_meaning.specs.declared.value.CType.{CType}
use Rattle.step_meaning.specs.declared.value.CType.TheVariants as type
use Rattle.step_meaning.specs.declared.value.NameKind.{NameKind}
use Rattle.step_meaning.specs.declared.value.NameKind.TheVariants as names
use Rattle.step_meaning.specs.declared.value.NameKind.TheVariants.{Local}
use Rattle.step_meaning.specs.declared.value.Value.{Value}
use Rattle.step_meaning.specs.declared.value.Action.TheVariants as act
use Rattle.step_meaning.specs.declared.expr.Expr.{Expr}
use Rattle.step_meaning.specs.declared.predicate.Predicate.{Predicate}
use Rattle.step_meaning.specs.declared.stmt.VerdictKind.{VerdictKind}
use Rattle.step_meaning.specs.declared.stmt.GhostStmt.{GhostStmt}
use Rattle.step_meaning.specs.declared.stmt.Stmt.{Stmt, Row_of-Stmt, end_of-Stmt, more_of-Stmt}
use Rattle.step_meaning.specs.declared.stmt.Stmt.TheVariants as st
use Rattle.step_meaning.specs.declared.program.Function.{Function}
use Rattle.step_meaning.specs.declared.program.Core.{Core}
use Rattle.step_meaning.specs.Names.{truth, same_kind}
use Rattle.step_meaning.specs.Types.{object_cells}
use Rattle.step_meaning.specs.State.{Here, designated}
use Rattle.step_meaning.specs.Ghosts.{ghosts_after, assertion_holds}
use Rattle.step_meaning.specs.Flow.{direct, Direct, DirectCall}
use Rattle.step_meaning.specs.Expressions as ex
use Rattle.step_meaning.specs.Statements as sm
use Rattle.step_meaning.specs.Statements.{Completion, Next, Broken, Continued, Returned}
use Rattle.step_meaning.specs.Settings.{Setting, code_setting, variable_type}
use Rattle.step_meaning.specs.ExpressionTypes as typing
use Rattle.step_meaning.specs.ExpressionTypes.{has_this_type, has_a_type, is_condition, gives}
use Rattle.step_meaning.specs.StatementRules.{StatementFits, RowFits, AllFit, where_there, cell_type, may_return}
use Rattle.step_meaning.proofs.Ranges.{false_is_not_true, left_of_and, right_of_and}
use Rattle.step_meaning.proofs.TypedMemory.{WhereSome, InCell, Shape}
use Rattle.step_meaning.proofs.StepsFit.{ReturnFits}
use Rattle.step_meaning.proofs.TypedAccesses.{IsPlace, keeps_store}
use Rattle.step_meaning.proofs.TypedOperators.{some_keeps, scalar_is_some}
use Rattle.step_meaning.proofs.TypedPlaces.{taken_keeps}
use Rattle.step_meaning.proofs.TypedExpressions.{register_types, ScalarRegisters, CallsKeep, keeps_eval, null_keeps}
use Rattle.step_meaning.proofs.Kept.{Keeps, Always, keeps_pure, keeps_bind, keeps_cond, keeps_more, keeps_get, keeps_registers, keeps_emit, keeps_judge, keeps_put_ghosts}

-- how a statement may be left, in a loop or not
abbrev pub CompletionFits : CType → Bool → Completion → Type 0
CompletionFits t loop Next = Unit {0}
CompletionFits t loop Broken = IsTrue loop
CompletionFits t loop Continued = IsTrue loop
CompletionFits t loop (Returned v) = ReturnFits t v

module _ (q : Core) (f : Function) (frames : List Shape) (here : Here) (call : ℕ → List Value → DirectCall) (bound : ℕ) where
  abbrev pub registers : List CType
  registers = register_types q f frames here call

  abbrev pub K : {A : Type 0} → (A → Type 0) → Direct A → Type 0
  K P d = Keeps q frames registers P d

  abbrev pub code : Setting
  code = code_setting q f

  abbrev pub exec : Stmt → Direct Completion
  exec s = sm.exec direct q.layouts call here bound s

  -- the cells of each local are numbered with 32 bits
  abbrev pub ShortLocals : Type 0
  ShortLocals = (i : ℕ) → WhereSome (λ t. length (object_cells q.layouts t) < 2 ^ 32) (option_map (λ d. d.ctype) (slice_get f.locals i))

  there_is_below : (t : CType) (ts : List CType) (o : ℕ) → has_this_type t (slice_get ts o) ≡ true → o < length ts
  there_is_below t [] o e = false_is_not_true e
  there_is_below t (u ∷ ts) zero e = omega arith
  there_is_below t (u ∷ ts) (suc o) e = let l : o < length ts = there_is_below t ts o e in omega arith

  -- a cell of a local that is initialised
  init_place : ShortLocals → (k : NameKind) (i o : ℕ) (t : CType) → same_kind k Local ≡ true → has_this_type t (cell_type q f (variable_type code (record { kind = k; index = i })) o) ≡ true → IsPlace (designated here.activation (record { kind = k; index = i }) o)
  init_place shorts names.Local i o t s e = (by (option_map (λ d. d.ctype) (slice_get f.locals i)) (shorts i) e, refl)
    where
      by : (u : Option CType) → WhereSome (λ t. length (object_cells q.layouts t) < 2 ^ 32) u → has_this_type t (cell_type q f u o) ≡ true → o < 2 ^ 32
      by None h e = false_is_not_true e
      by (Some u) h e = let l : o < length (object_cells q.layouts u) = there_is_below t (object_cells q.layouts u) o e in omega arith
  init_place shorts names.Global i o t s e = false_is_not_true s
  init_place shorts names.Heap i o t s e = false_is_not_true s
  init_place shorts names.Register i o t s e = false_is_not_true s
  init_place shorts names.GhostGlobal i o t s e = false_is_not_true s
  init_place shorts names.GhostLocal i o t s e = false_is_not_true s

  -- ---- loops

  keeps_after : (t : CType) (loop : Bool) (d : Direct Completion) → K (CompletionFits t loop) d → (c : Completion) → CompletionFits t true c → K (CompletionFits t loop) (sm.after_turn direct d c)
  keeps_after t loop d h Next k = h
  keeps_after t loop d h Continued k = h
  keeps_after t loop d h Broken k = keeps_pure Next tt
  keeps_after t loop d h (Returned v) k = keeps_pure (Returned v) k

  keeps_turns : (t : CType) (loop : Bool) (d : Direct Completion) → K (CompletionFits t true) d → (n : ℕ) → K (CompletionFits t loop) (sm.turns direct here d n)
  keeps_turns t loop d h zero = keeps_more
  keeps_turns t loop d h (suc n) = keeps_bind (keeps_emit here act.Turn (λ fs. tt)) (λ u g. keeps_bind h (keeps_after t loop (sm.turns direct here d n) (keeps_turns t loop d h n)))

  keeps_turn_end : (t : CType) (d : Direct Completion) → K (CompletionFits t true) d → (c : Completion) → CompletionFits t true c → K (CompletionFits t true) (sm.at_turn_end direct d c)
  keeps_turn_end t d h Next k = h
  keeps_turn_end t d h Continued k = h
  keeps_turn_end t d h Broken k = keeps_pure Broken refl
  keeps_turn_end t d h (Returned v) k = keeps_pure (Returned v) k

  keeps_next : (t : CType) (loop : Bool) (d : Direct Completion) → K (CompletionFits t loop) d → (c : Completion) → CompletionFits t loop c → K (CompletionFits t loop) (sm.on_next direct d c)
  keeps_next t loop d h Next k = h
  keeps_next t loop d h Continued k = keeps_pure Continued k
  keeps_next t loop d h Broken k = keeps_pure Broken k
  keeps_next t loop d h (Returned v) k = keeps_pure (Returned v) k

  -- ---- ghost code and assertions

  keeps_ghost : (g : GhostStmt) → K Always (sm.ghost_code direct q.layouts here g)
  keeps_ghost g = keeps_bind keeps_get (λ s m. keeps_bind keeps_registers (λ r h. keeps_put_ghosts (ghosts_after q.layouts here s.memory r g s.ghosts)))

  keeps_assertion : (v : VerdictKind) (k : ℕ) (r : Predicate) → K Always (sm.assertion direct q.layouts here v k r)
  keeps_assertion v k p = keeps_bind keeps_get (λ s m. keeps_bind keeps_registers (λ r h. keeps_judge k v (assertion_holds q.layouts here s.memory r s.ghosts p)))

  module _ (scalars : ScalarRegisters q f frames here call) (shorts : ShortLocals) (calls : CallsKeep q f frames here call) where
    keeps_any : (e : Expr) → has_a_type q code e ≡ true → K Always (ex.eval direct q.layouts call here e)
    keeps_any e h = some_keeps q frames registers here (typing.type_of q code e) _ h (keeps_eval q f frames here call scalars calls e)

    keeps_condition : (e : Expr) → is_condition q code e ≡ true → K Always (ex.eval direct q.layouts call here e)
    keeps_condition e h = keeps_any e (scalar_is_some q frames registers here (typing.type_of q code e) h)

    keeps_given : (t : CType) (e : Expr) → gives q code t e ≡ true → K (InCell t) (ex.eval direct q.layouts call here e)
    keeps_given t e h = taken_keeps q frames registers here t e (typing.type_of q code e) _ h (keeps_eval q f frames here call scalars calls e) (null_keeps q f frames here call e)

    keeps_when : (t : CType) (o : Option Expr) (d : Direct Completion) → where_there q f (is_condition q code) o ≡ true → K (CompletionFits t true) d → K (CompletionFits t true) (sm.when_test direct (option_map (ex.eval direct q.layouts call here) o) d)
    keeps_when t None d h k = k
    keeps_when t (Some e) d h k = keeps_bind (keeps_condition e h) (λ v g. keeps_cond (truth v) k (keeps_pure Broken refl))

    keeps_step : (t : CType) (o : Option Expr) → where_there q f (has_a_type q code) o ≡ true → K (CompletionFits t true) (sm.loop_step direct (option_map (ex.eval direct q.layouts call here) o))
    keeps_step t None h = keeps_pure Next tt
    keeps_step t (Some e) h = keeps_bind (keeps_any e h) (λ v g. keeps_pure Next tt)

    keeps_return : (loop : Bool) (o : Option Expr) → may_return q f f.result o ≡ true → K (CompletionFits f.result loop) (sm.exec_return direct q.layouts call here bound o)
    keeps_return loop o h = by f.result o h
      where
        by : (t : CType) (o : Option Expr) → may_return q f t o ≡ true → K (CompletionFits t loop) (sm.exec_return direct q.layouts call here bound o)
        by type.Void None h = keeps_pure (Returned None) tt
        by type.Void (Some e) h = false_is_not_true h
        by (type.Int k) None h = false_is_not_true h
        by (type.Int k) (Some e) h = keeps_bind (keeps_given (type.Int k) e h) (λ v g. keeps_pure (Returned (Some v)) g)
        by (type.Pointer' b t) None h = false_is_not_true h
        by (type.Pointer' b t) (Some e) h = keeps_bind (keeps_given (type.Pointer' b t) e h) (λ v g. keeps_pure (Returned (Some v)) g)
        by (type.Array' b t n) None h = false_is_not_true h
        by (type.Array' b t n) (Some e) h = keeps_bind (keeps_given (type.Array' b t n) e h) (λ v g. keeps_pure (Returned (Some v)) g)
        by (type.Struct n) None h = false_is_not_true h
        by (type.Struct n) (Some e) h = keeps_bind (keeps_given (type.Struct n) e h) (λ v g. keeps_pure (Returned (Some v)) g)

    mutual
      pub keeps_exec : (noted : Setting) (loop : Bool) (s : Stmt) → StatementFits q f noted loop s → K (CompletionFits f.result loop) (exec s)
      keeps_exec noted loop st.Empty h = keeps_pure Next tt
      keeps_exec noted loop (st.Eval e) h = keeps_bind (keeps_any e h) (λ v g. keeps_pure Next tt)
      keeps_exec noted loop (st.Init v o t e) h =
          keeps_bind (keeps_given t e (right_of_and (has_this_type t (cell_type q f (variable_type code v) o)) _ (right_of_and (nat_le f.params v.index) _ (right_of_and (same_kind v.kind Local) _ h)))) (λ w g.
          keeps_bind (keeps_store here t (designated here.activation v o) w (init_place shorts v.kind v.index o t (left_of_and _ _ h) (left_of_and (has_this_type t (cell_type q f (variable_type code v) o)) _ (right_of_and (nat_le f.params v.index) _ (right_of_and (same_kind v.kind Local) _ h)))) g) (λ x k. keeps_pure Next tt))
      keeps_exec noted loop (st.Block' b ss) h = keeps_row noted loop ss h
      keeps_exec noted loop (st.If' e b (more_of-Stmt s end_of-Stmt) c (more_of-Stmt u end_of-Stmt)) h = keeps_bind (keeps_condition e h.0) (λ v g. keeps_cond (truth v) (keeps_exec noted loop s h.1) (keeps_exec noted loop u h.2))
      keeps_exec noted loop (st.While' e b (more_of-Stmt s end_of-Stmt)) h = keeps_turns f.result loop _ (keeps_when f.result (Some e) (exec s) h.0 (keeps_exec noted true s h.1)) bound
      keeps_exec noted loop (st.Do' b (more_of-Stmt s end_of-Stmt) e) h = keeps_turns f.result loop _ (keeps_bind (keeps_exec noted true s h.1) (keeps_turn_end f.result _ (keeps_when f.result (Some e) (direct.pure Next) h.0 (keeps_pure Next tt)))) bound
      keeps_exec noted loop (st.For' test step b (more_of-Stmt s end_of-Stmt)) h =
          keeps_turns f.result loop _ (keeps_when f.result test _ (left_of_and _ _ h.0) (keeps_bind (keeps_exec noted true s h.1) (keeps_turn_end f.result _ (keeps_step f.result step (right_of_and _ _ h.0))))) bound
      keeps_exec noted loop st.Break h = keeps_pure Broken h
      keeps_exec noted loop st.Continue h = keeps_pure Continued h
      keeps_exec noted loop (st.Return o) h = keeps_return loop o h
      keeps_exec noted loop (st.Ghost g) h = keeps_bind (keeps_ghost g) (λ u k. keeps_pure Next tt)
      keeps_exec noted loop (st.Assert v k r) h = keeps_bind (keeps_assertion v k r) (λ u g. keeps_pure Next tt)

      pub keeps_row : {n : _} (noted : Setting) (loop : Bool) (ss : Row_of-Stmt n) → RowFits q f noted loop ss → K (CompletionFits f.result loop) (sm.exec_row direct q.layouts call here bound ss)
      keeps_row noted loop end_of-Stmt h = keeps_pure Next tt
      keeps_row noted loop (more_of-Stmt s more) h = keeps_bind (keeps_exec noted loop s h.0) (keeps_next f.result loop _ (keeps_row noted loop more h.1))

    pub keeps_exec_all : (noted : Setting) (ss : List Stmt) → AllFit q f noted ss → K (CompletionFits f.result false) (sm.exec_all direct q.layouts call here bound ss)
    keeps_exec_all noted [] h = keeps_pure Next tt
    keeps_exec_all noted (s ∷ ss) h = keeps_bind (keeps_exec noted false s h.0) (keeps_next f.result false _ (keeps_exec_all noted ss h.1))
