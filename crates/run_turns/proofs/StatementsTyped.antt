-- What a turn at a statement leaves is typed: its start, its conclusion, loops and blocks.
use Rattle.std.proofs.Common.{◌≡◌, ℕ, zero, suc, ◌<◌, ◌^◌, Bool, true, false, cond, List, [], ◌∷◌, length, Option, Some, None, is_some, refl, arith}
use Rattle.std.specs.Prelude.{nat_le, option_map, slice_get}
use Rattle.std.specs.List.{AllByRecursion}
use Rattle.step_meaning.specs.declared.value.CType.{CType}
use Rattle.step_meaning.specs.declared.value.CType.TheVariants as type
use Rattle.step_meaning.specs.declared.value.NameKind.{NameKind}
use Rattle.step_meaning.specs.declared.value.NameKind.TheVariants as names
use Rattle.step_meaning.specs.declared.value.NameKind.TheVariants.{Local}
use Rattle.step_meaning.specs.declared.value.Value.{Value}
use Rattle.step_meaning.specs.declared.expr.Expr.{Expr}
use Rattle.step_meaning.specs.declared.stmt.Stmt.{Stmt, Row_of-Stmt, end_of-Stmt, more_of-Stmt, items-the_row-Stmt}
use Rattle.step_meaning.specs.declared.stmt.Stmt.TheVariants as st
use Rattle.step_meaning.specs.declared.program.Core.{Core}
use Rattle.step_meaning.specs.declared.program.Function.{Function}
use Rattle.step_meaning.specs.Names.{truth, same_kind}
use Rattle.step_meaning.specs.Types.{object_cells}
use Rattle.step_meaning.specs.State.{designated}
use Rattle.step_meaning.specs.Statements.{Completion, Next, Broken, Continued, Returned}
use Rattle.step_meaning.specs.Settings.{Setting, code_setting, variable_type}
use Rattle.step_meaning.specs.ExpressionTypes.{type_of, has_this_type, has_a_type, is_condition, gives}
use Rattle.step_meaning.specs.StatementRules.{RowFits, where_there, cell_type, may_return}
use Rattle.step_meaning.specs.Sources.{is_bare, are_bare}
use Rattle.step_meaning.proofs.Ranges.{false_is_not_true, left_of_and, right_of_and}
use Rattle.step_meaning.proofs.TypedMemory.{WhereSome, InCell}
use Rattle.step_meaning.proofs.StepsFit.{ReturnFits}
use Rattle.step_meaning.proofs.TypedAccesses.{IsPlace}
use Rattle.step_meaning.proofs.TypedStatements.{CompletionFits}
use Rattle.run_turns.specs.Pending as pending
use Rattle.run_turns.specs.Turns as turns
use Rattle.run_turns.specs.Turns.{Configuration, ready}
use Rattle.run_turns.specs.Typed.{IsTypable, MayGive, IsCode, Executes, IsLoop, EvaluatesAny, EndTakes, TurnEndTakes, LoopTakes, RestTakes, PassingTakes, ConclusionTakes, TakesEnd}
use Rattle.run_turns.proofs.TypeTests.{scalar_is_there}
use Rattle.run_turns.proofs.ExpressionsTyped.{taken_of, taken_is_there}
use Rattle.run_turns.proofs.ValuesTyped.{Here, Fits}

module _ (q : Core) (f : Function) (fs : List Function) where
  abbrev pub Ends : Configuration → Completion → Type 0
  Ends m = TakesEnd q (f ∷ fs) m.context.arguments m.work

  -- the cells of each local are numbered with 32 bits
  abbrev pub ShortLocals : Type 0
  ShortLocals = (i : ℕ) → WhereSome (λ t. length (object_cells q.layouts t) < 2 ^ 32) (option_map (λ d. d.ctype) (slice_get f.locals i))

  -- ---- expressions of statements

  condition_is_there : (e : Expr) → is_condition q (code_setting q f) e ≡ true → IsTypable q f e
  condition_is_there e h = scalar_is_there (type_of q (code_setting q f) e) h

  given_is_there : (t : CType) (e : Expr) → gives q (code_setting q f) t e ≡ true → IsTypable q f e
  given_is_there t e h = taken_is_there q f t e h

  given_fits : (t : CType) (e : Expr) (v : Value) → gives q (code_setting q f) t e ≡ true → MayGive q f e v → InCell t v
  given_fits t e v h x = taken_of t e (type_of q (code_setting q f) e) v h x.0 x.1

  there_is_below : (t : CType) (ts : List CType) (o : ℕ) → has_this_type t (slice_get ts o) ≡ true → o < length ts
  there_is_below t [] o e = false_is_not_true e
  there_is_below t (u ∷ ts) zero e = omega arith
  there_is_below t (u ∷ ts) (suc o) e = let l : o < length ts = there_is_below t ts o e in omega arith

  -- a cell of a local that is initialised
  init_place : ShortLocals → (k : NameKind) (i o : ℕ) (t : CType) → same_kind k Local ≡ true → has_this_type t (cell_type q f (variable_type (code_setting q f) (record { kind = k; index = i })) o) ≡ true → (activation : ℕ) → IsPlace (designated activation (record { kind = k; index = i }) o)
  init_place shorts names.Local i o t s e activation = (by (option_map (λ d. d.ctype) (slice_get f.locals i)) (shorts i) e, refl)
    where
      by : (u : Option CType) → WhereSome (λ t. length (object_cells q.layouts t) < 2 ^ 32) u → has_this_type t (cell_type q f u o) ≡ true → o < 2 ^ 32
      by None h e = false_is_not_true e
      by (Some u) h e = let l : o < length (object_cells q.layouts u) = there_is_below t (object_cells q.layouts u) o e in omega arith
  init_place shorts names.Global i o t s e activation = false_is_not_true s
  init_place shorts names.Heap i o t s e activation = false_is_not_true s
  init_place shorts names.Register i o t s e activation = false_is_not_true s
  init_place shorts names.GhostGlobal i o t s e activation = false_is_not_true s
  init_place shorts names.GhostLocal i o t s e activation = false_is_not_true s

  -- ---- the start of a statement

  row_fits : {n : _} (noted : Setting) (loop : Bool) (ss : Row_of-Stmt n) → RowFits q f noted loop ss → are_bare ss ≡ true → AllByRecursion (IsCode q f noted loop) (items-the_row-Stmt n ss)
  row_fits noted loop end_of-Stmt h b = tt
  row_fits noted loop (more_of-Stmt s ss) h b = ((h.0, left_of_and (is_bare s) _ b), row_fits noted loop ss h.1 (right_of_and (is_bare s) _ b))

  returns_nothing : (t : CType) → may_return q f t None ≡ true → ReturnFits t None
  returns_nothing type.Void h = tt
  returns_nothing (type.Int k) h = false_is_not_true h
  returns_nothing (type.Pointer' b t) h = false_is_not_true h
  returns_nothing (type.Array' b t n) h = false_is_not_true h
  returns_nothing (type.Struct n) h = false_is_not_true h

  return_given : (t : CType) (e : Expr) → may_return q f t (Some e) ≡ true → gives q (code_setting q f) t e ≡ true
  return_given type.Void e h = false_is_not_true h
  return_given (type.Int k) e h = h
  return_given (type.Pointer' b t) e h = h
  return_given (type.Array' b t n) e h = h
  return_given (type.Struct n) e h = h

  returns_value : (t : CType) (e : Expr) (v : Value) → may_return q f t (Some e) ≡ true → InCell t v → ReturnFits t (Some v)
  returns_value type.Void e v h g = false_is_not_true h
  returns_value (type.Int k) e v h g = g
  returns_value (type.Pointer' b t) e v h g = g
  returns_value (type.Array' b t n) e v h g = g
  returns_value (type.Struct n) e v h g = g

  answering_typed : (e : Option Expr) (m : Configuration) → Fits q f fs m → may_return q f f.result e ≡ true → ((v : Option Value) → ReturnFits f.result v → Ends m (Returned v)) → Here q f fs (turns.answering e (ready m))
  answering_typed None m s h k = (s, k None (returns_nothing f.result h))
  answering_typed (Some e) m s h k =
      let g = return_given f.result e h in
      (s, (given_is_there f.result e g, λ v x. k (Some v) (returns_value f.result e v h (given_fits f.result e v g x))))

  has_variable : (u : Option CType) (o : ℕ) (t : CType) → has_this_type t (cell_type q f u o) ≡ true → is_some u ≡ true
  has_variable None o t e = false_is_not_true e
  has_variable (Some u) o t e = refl

  pub executed_typed : ShortLocals → (x : Stmt) (m : Configuration) → Fits q f fs m → Executes q f x (Ends m) → Here q f fs (turns.executed x (ready m))
  executed_typed shorts st.Empty m s h = (s, h.3 Next tt)
  executed_typed shorts (st.Eval e) m s h = (s, (h.2.0, λ v x. h.3 Next tt))
  executed_typed shorts (st.Init x o t e) m s h =
      let c = right_of_and (nat_le f.params x.index) _ (right_of_and (same_kind x.kind Local) _ h.2.0) in
      let given = right_of_and (has_this_type t (cell_type q f (variable_type (code_setting q f) x) o)) _ c in
      (s, (given_is_there t e given, λ v y. (init_place shorts x.kind x.index o t (left_of_and (same_kind x.kind Local) _ h.2.0) (left_of_and (has_this_type t (cell_type q f (variable_type (code_setting q f) x) o)) _ c), given_fits t e v given y, h.3 Next tt, has_variable (variable_type (code_setting q f) x) o t (left_of_and (has_this_type t (cell_type q f (variable_type (code_setting q f) x) o)) _ c))))
  executed_typed shorts (st.Block' b ss) m s h = (s, (h.0, h.1, row_fits h.0 h.1 ss h.2.0 h.2.1, h.3))
  executed_typed shorts (st.If' e b (more_of-Stmt a end_of-Stmt) c (more_of-Stmt u end_of-Stmt)) m s h = (s, (condition_is_there e h.2.0.0, λ v x. ((h.0, h.1, (h.2.0.1, left_of_and (is_bare a) _ h.2.1), h.3), (h.0, h.1, (h.2.0.2, right_of_and (is_bare a) _ h.2.1), h.3))))
  executed_typed shorts (st.While' e b (more_of-Stmt a end_of-Stmt)) m s h = (s, (tt, h))
  executed_typed shorts (st.Do' b (more_of-Stmt a end_of-Stmt) e) m s h = (s, (tt, h))
  executed_typed shorts (st.For' test step b (more_of-Stmt a end_of-Stmt)) m s h = (s, (tt, h))
  executed_typed shorts st.Break m s h = (s, h.3 Broken h.2.0)
  executed_typed shorts st.Continue m s h = (s, h.3 Continued h.2.0)
  executed_typed shorts (st.Return e) m s h = answering_typed e m s h.2.0 (λ v r. h.3 (Returned v) r)
  executed_typed shorts (st.Ghost g) m s h = false_is_not_true h.2.1
  executed_typed shorts (st.Assert v k r) m s h = false_is_not_true h.2.1

  -- ---- a statement at the value of its expression

  chosen_typed : (b : Bool) (x y : Configuration) → Here q f fs x → Here q f fs y → Here q f fs (cond b x y)
  chosen_typed true x y h g = h
  chosen_typed false x y h g = g

  pub concluded_typed : (x : Stmt) (v : Value) (m : Configuration) → Fits q f fs m → ConclusionTakes q f (Ends m) x v → Here q f fs (turns.concluded x v m)
  concluded_typed (st.Init x o t e) v m s h = (s, (h.0 m.context.here.activation, h.1, h.2))
  concluded_typed (st.If' e b (more_of-Stmt a end_of-Stmt) c (more_of-Stmt u end_of-Stmt)) v m s h = by (truth v)
    where
      by : (d : Bool) → Here q f fs (turns.pushed (pending.Execute (cond d a u)) (ready m))
      by true = (s, h.0)
      by false = (s, h.1)
  concluded_typed (st.While' e b (more_of-Stmt a end_of-Stmt)) v m s h = chosen_typed (truth v) _ _ (s, (h.0.0, true, h.0.1, h.0.2)) (s, h.1)
  concluded_typed (st.Do' b (more_of-Stmt a end_of-Stmt) e) v m s h = chosen_typed (truth v) _ _ (s, h.0) (s, h.1)
  concluded_typed (st.For' test step b (more_of-Stmt a end_of-Stmt)) v m s h = chosen_typed (truth v) _ _ (s, (h.0.0, true, h.0.1, h.0.2)) (s, h.1)
  concluded_typed (st.Return e) v m s h = (s, h)
  concluded_typed st.Empty v m s h = (s, h)
  concluded_typed (st.Eval e) v m s h = (s, h)
  concluded_typed (st.Block' b ss) v m s h = (s, h)
  concluded_typed st.Break v m s h = (s, h)
  concluded_typed st.Continue v m s h = (s, h)
  concluded_typed (st.Ghost g) v m s h = (s, h)
  concluded_typed (st.Assert w k r) v m s h = (s, h)

  -- ---- blocks

  rest_takes : (takes : Completion → Type 0) (noted : Setting) (loop : Bool) (ss : List Stmt) → AllByRecursion (IsCode q f noted loop) ss → ((l : Completion) → CompletionFits f.result loop l → takes l) → (l : Completion) → CompletionFits f.result loop l → RestTakes q f takes ss l
  rest_takes takes noted loop ss h k Next c = (noted, loop, h, k)
  rest_takes takes noted loop ss h k Broken c = k Broken c
  rest_takes takes noted loop ss h k Continued c = k Continued c
  rest_takes takes noted loop ss h k (Returned v) c = k (Returned v) c

  next_typed : (ss : List Stmt) (l : Completion) (m : Configuration) → Fits q f fs m → RestTakes q f (Ends m) ss l → Here q f fs (turns.on_next (turns.next_of ss (ready m)) l m)
  next_typed [] Next m s h = (s, h.3 Next tt)
  next_typed (x ∷ ss) Next m s h = (s, (h.0, h.1, h.2.0, rest_takes (Ends m) h.0 h.1 ss h.2.1 h.3))
  next_typed ss Broken m s h = (s, h)
  next_typed ss Continued m s h = (s, h)
  next_typed ss (Returned v) m s h = (s, h)

  -- ---- loops

  loop_takes : (takes : Completion → Type 0) (x : Stmt) → IsLoop q x → (h : Executes q f x takes) → (l : Completion) → CompletionFits f.result true l → LoopTakes q f takes x l
  loop_takes takes x is h Next c = (is, h)
  loop_takes takes x is h Continued c = (is, h)
  loop_takes takes x is h Broken c = h.3 Next tt
  loop_takes takes x is h (Returned v) c = h.3 (Returned v) c

  turn_end_takes : (takes : Completion → Type 0) (x : Stmt) → EndTakes q f takes x → ((l : Completion) → CompletionFits f.result true l → takes l) → (l : Completion) → CompletionFits f.result true l → TurnEndTakes q f takes x l
  turn_end_takes takes x e k Next c = e
  turn_end_takes takes x e k Continued c = e
  turn_end_takes takes x e k Broken c = k Broken c
  turn_end_takes takes x e k (Returned v) c = k (Returned v) c

  step_is_there : (step : Option Expr) → where_there q f (has_a_type q (code_setting q f)) step ≡ true → EvaluatesAny q f step
  step_is_there None h = tt
  step_is_there (Some e) h = h

  turning_typed : (x : Stmt) (m : Configuration) → IsLoop q x → Fits q f fs m → Executes q f x (Ends m) → Here q f fs (turns.turning x (turns.pushed (pending.Pass (pending.Again x)) (ready m)))
  turning_typed (st.While' e b (more_of-Stmt a end_of-Stmt)) m is s h =
      let again = loop_takes (Ends m) (st.While' e b (more_of-Stmt a end_of-Stmt)) tt h in
      (s, (condition_is_there e h.2.0.0, λ v x. ((h.0, (h.2.0.1, h.2.1), again), h.3 Next tt)))
  turning_typed (st.Do' b (more_of-Stmt a end_of-Stmt) e) m is s h =
      let loop = st.Do' b (more_of-Stmt a end_of-Stmt) e in
      let again = loop_takes (Ends m) loop tt h in
      (s, (h.0, true, (h.2.0.1, h.2.1), turn_end_takes (LoopTakes q f (Ends m) loop) loop (condition_is_there e h.2.0.0, (tt, h), h.3 Next tt) again))
  turning_typed (st.For' None step b (more_of-Stmt a end_of-Stmt)) m is s h =
      let loop = st.For' None step b (more_of-Stmt a end_of-Stmt) in
      let again = loop_takes (Ends m) loop tt h in
      (s, (h.0, true, (h.2.0.1, h.2.1), turn_end_takes (LoopTakes q f (Ends m) loop) loop (step_is_there step h.2.0.0, (tt, h)) again))
  turning_typed (st.For' (Some e) step b (more_of-Stmt a end_of-Stmt)) m is s h =
      let loop = st.For' (Some e) step b (more_of-Stmt a end_of-Stmt) in
      let again = loop_takes (Ends m) loop tt h in
      (s, (condition_is_there e (left_of_and (is_condition q (code_setting q f) e) _ h.2.0.0), λ v x. ((h.0, (h.2.0.1, h.2.1), turn_end_takes (LoopTakes q f (Ends m) loop) loop (step_is_there step (right_of_and (is_condition q (code_setting q f) e) _ h.2.0.0), (tt, h)) again), h.3 Next tt)))
  turning_typed st.Empty m is s h = absurd is
  turning_typed (st.Eval _) m is s h = absurd is
  turning_typed (st.Init _ _ _ _) m is s h = absurd is
  turning_typed (st.Block' _ _) m is s h = absurd is
  turning_typed (st.If' _ _ _ _ _) m is s h = absurd is
  turning_typed st.Break m is s h = absurd is
  turning_typed st.Continue m is s h = absurd is
  turning_typed (st.Return _) m is s h = absurd is
  turning_typed (st.Ghost _) m is s h = absurd is
  turning_typed (st.Assert _ _ _) m is s h = absurd is

  stepping_typed : (step : Option Expr) (m : Configuration) → Fits q f fs m → EvaluatesAny q f step → Ends m Next → Here q f fs (turns.stepping step m)
  stepping_typed None m s h k = (s, k)
  stepping_typed (Some e) m s h k = (s, (h, λ v x. k))

  ending_typed : (x : Stmt) (m : Configuration) → Fits q f fs m → EndTakes q f (Ends m) x → Here q f fs (turns.ending x m)
  ending_typed (st.Do' b (more_of-Stmt a end_of-Stmt) e) m s h = (s, (h.0, λ v x. (h.1, h.2)))
  ending_typed (st.For' test step b (more_of-Stmt a end_of-Stmt)) m s h = stepping_typed step m s h.0 h.1
  ending_typed st.Empty m s h = (s, h)
  ending_typed (st.Eval e) m s h = (s, h)
  ending_typed (st.Init x o t e) m s h = (s, h)
  ending_typed (st.Block' b ss) m s h = (s, h)
  ending_typed (st.If' e b r c r') m s h = (s, h)
  ending_typed (st.While' e b r) m s h = (s, h)
  ending_typed st.Break m s h = (s, h)
  ending_typed st.Continue m s h = (s, h)
  ending_typed (st.Return e) m s h = (s, h)
  ending_typed (st.Ghost g) m s h = (s, h)
  ending_typed (st.Assert v k r) m s h = (s, h)

  pub passed_typed : (x : pending.Passing) (l : Completion) (m : Configuration) → Fits q f fs m → PassingTakes q f (Ends m) x l → Here q f fs (turns.passed x l m).after
  passed_typed (pending.Rest ss) l m s h = next_typed ss l m s h
  passed_typed (pending.Again x) Next m s h = turning_typed x m h.0 s h.1
  passed_typed (pending.Again x) Continued m s h = turning_typed x m h.0 s h.1
  passed_typed (pending.Again x) Broken m s h = (s, h)
  passed_typed (pending.Again x) (Returned v) m s h = (s, h)
  passed_typed (pending.TurnEnd x) Next m s h = ending_typed x m s h
  passed_typed (pending.TurnEnd x) Continued m s h = ending_typed x m s h
  passed_typed (pending.TurnEnd x) Broken m s h = (s, h)
  passed_typed (pending.TurnEnd x) (Returned v) m s h = (s, h)
