-- Statements that are one step or none, or a call: in the source and, with the code before them, in the woven program.
use Rattle.std.specs.List.{AllByRecursion}
use Rattle.std.proofs.Common.{◌≡◌, ℕ, ◌≤◌, ◌<◌, Bool, true, false, not, cond, ◌&&◌, List, [], ◌∷◌, ◌++◌, Option, Some, None, refl, sym, subst, ap, ◌∙◌, arith}
use Rattle.std.specs.Prelude.{is_some, ◌||◌, option_map}
use Rattle.step_meaning.specs.declared.value.Value.{Value}
use Rattle.step_meaning.specs.declared.value.Action.{Action}
use Rattle.step_meaning.specs.declared.value.Action.TheVariants as act
use Rattle.step_meaning.specs.declared.predicate.Event.TheVariants as event
use Rattle.step_meaning.specs.declared.stmt.Stmt.{Stmt}
use Rattle.step_meaning.specs.declared.stmt.Stmt.TheVariants.{Ghost, Assert, Eval}
use Rattle.step_meaning.specs.declared.stmt.Stmt.TheVariants as st
use Rattle.step_meaning.specs.declared.program.Core.{Core}
use Rattle.step_meaning.specs.declared.program.Hooks.{Hooks}
use Rattle.step_meaning.specs.declared.program.HookPoint.{HookPoint}
use Rattle.step_meaning.specs.declared.program.HookPlace.{HookPlace}
use Rattle.step_meaning.specs.declared.program.HookPlace.TheVariants as place
use Rattle.step_meaning.specs.declared.value.CType.{CType}
use Rattle.step_meaning.specs.declared.value.Value.TheVariants as value
use Rattle.step_meaning.specs.declared.expr.Variable.{Variable}
use Rattle.step_meaning.specs.declared.expr.Expr.{Expr, Row_of-Expr, end_of-Expr, more_of-Expr}
use Rattle.step_meaning.specs.declared.expr.Expr.TheVariants as ex
use Rattle.step_meaning.specs.declared.expr.Place_.{Place_}
use Rattle.step_meaning.specs.Memory.{Memory, Frame, frame_of}
use Rattle.step_meaning.specs.Steps.{Step, Verdict, Made, Trace, Then}
use Rattle.step_meaning.specs.State.{State, Here, Registers, Lvalue, InRegister, At, designated}
use Rattle.step_meaning.specs.Views.{no_memory, now}
use Rattle.step_meaning.specs.Flow.{Resting, RestingCall, resting}
use Rattle.step_meaning.specs.Statements.{Completion, Next, exec_all, Broken, Continued, Returned, exec, exec_row}
use Rattle.step_meaning.specs.Traced.{IsStepOf}
use Rattle.step_meaning.specs.Fold.{ghosts_after_code, verdicts_of_code}
use Rattle.step_meaning.specs.Names.{is_register_variable, name_in}
use Rattle.step_meaning.specs.Terms.{term_value, value_by, result_at}
use Rattle.step_meaning.specs.Expressions.{eval}
use Rattle.step_meaning.specs.ExpressionTypes.{is_register}
use Rattle.step_meaning.specs.Normal.{is_operand, is_plain_place, are_operands, is_silent, is_place_value, is_single_call, is_normal_expression, is_operand_or_nothing}
use Rattle.step_meaning.specs.Strict.{strict}
use Rattle.step_meaning.specs.Accesses.{store}
use Rattle.step_meaning.specs.Statements as sm
use Rattle.step_meaning.specs.TypeRules.{is_scalar}
use Rattle.weaver_laws.specs.Weaving.{Substitution, code_for, code_before, changed_code, access_substitution, call_substitution, return_substitution, code_before_value, code_before_expression}
use Rattle.weaver_laws.proofs.HookSights.{sight_in_fold, sight_in_woven, SubstitutesStep}
use Rattle.weaver_laws.proofs.InsideMemories.{TermInside}
use Rattle.weaver_laws.proofs.GhostFrames.{image, number_same, own_frame}
use Rattle.weaver_laws.proofs.TraceSimulation.{all_safe, VerdictsMatch, step_parts, IsProper, TraceSimulated, code_simulated}
use Rattle.weaver_laws.proofs.ChangedCode.{PointReady, code_for_fits}
use Rattle.weaver_laws.proofs.ActivationSteps.{InBody, PartlyAsserted, step, fold_verdicts, fold_ghosts, verdicts_are, ghosts_are, exact_open, asserted_open, stepped, announce, matches, CallsSimulated}
use Rattle.weaver_laws.proofs.Operands.{step_inside, operand_value, operand_values, operand_strict, operand_run, operands_strict, operands_run, operand_term}
use Rattle.weaver_laws.proofs.SilentExpressions.{silent_eval}
use Rattle.weaver_laws.proofs.StepStatements.{assert_changed, halted, ExitsSimulated, PartSimulated, held_case, write_simulated, pointer_inside}
use Rattle.weaver_laws.proofs.ValueSteps.{register_takes, nothing_takes, ValueGiven, read_gives, input_gives, output_gives, malloc_gives, free_gives, call_substitutes}
use Rattle.weaver_laws.proofs.ScalarAccesses.{has_scalar_access, has_scalars}
use Rattle.weaver_laws.proofs.Basics.{no_true, and_left, and_right}

module _ (p : Core) (h : Hooks) (j : ℕ) (IsTheirs : ℕ → Type 0) (ss : List Step) (ready : AllByRecursion (PointReady p h j IsTheirs ss) h.points) (here : Here) (outer : List Frame)
    (source_call woven_call : ℕ → List Value → RestingCall) (bound : ℕ) (first : Memory) (alike : CallsSimulated p h j IsTheirs ss source_call woven_call) where
  abbrev InBodyHere : State → Memory → Type 0
  InBodyHere = InBody p h j IsTheirs ss ready here outer first

  abbrev SimulatedHere : Memory → Bool → List Verdict → Trace → Trace → Type 0
  SimulatedHere g good vs t u = TraceSimulated p h j IsTheirs ss g good vs t u

  abbrev PartSimulatedHere : (Completion → State → Registers → Trace) → (Completion → State → Registers → Trace) → Resting Completion → Resting Completion → Type 0
  PartSimulatedHere = PartSimulated p h j IsTheirs ss ready here outer source_call woven_call bound first

  abbrev ExitsSimulatedHere : (Completion → State → Registers → Trace) → (Completion → State → Registers → Trace) → Type 0
  ExitsSimulatedHere = ExitsSimulated p h j IsTheirs ss ready here outer source_call woven_call bound first

  abbrev step_here : Action → State → Step
  step_here a s = step p h j IsTheirs ss ready here outer a s

  abbrev ghosts_here : Action → State → Memory → Memory
  ghosts_here a s g = fold_ghosts p h j IsTheirs ss ready here outer a s g

  abbrev verdicts_here : Action → State → Memory → List Verdict
  verdicts_here a s g = fold_verdicts p h j IsTheirs ss ready here outer a s g

  abbrev woven_state : State → Memory → State
  woven_state s g = record s { ghosts = image here.activation outer g }

  abbrev run_woven : List Stmt → Resting Completion
  run_woven c = exec_all resting p.layouts woven_call here bound c

  abbrev run_statement : Stmt → Resting Completion
  run_statement c = exec strict p.layouts source_call here bound c

  abbrev hook_points : List HookPoint
  hook_points = h.points

  -- ---- a call

  call_gives : (f : ℕ) (b : _) (es : Row_of-Expr _) → are_operands es ≡ true → ValueGiven p h j IsTheirs ss ready here outer source_call woven_call bound first (ex.Invoke' f b es) place.Call (call_substitution f)
  call_gives f b es oe k k' takes T rest' runs s g good vs r body opened proper =
      let a = act.Call f in
      let t = eval strict p.layouts source_call here (ex.Invoke' f b es) k s r in
      let T' = code_before hook_points here.function place.Call (call_substitution f) ++ T in
      held_case p h j IsTheirs ss ready here outer source_call woven_call bound first (operand_values es r) (λ xs s r. Then (Made (step_here a s)) (source_call f xs (λ v s. k v s r) s)) s r t
      (operands_strict here p.layouts source_call es oe (λ xs s r. Then (Made (step_here a s)) (source_call f xs (λ v s. k v s r) s)) s r) proper (SimulatedHere g good vs t (run_woven T' rest' (woven_state s g) r)) (λ xs ex' et.
      let t' = source_call f xs (λ v s. k v s r) s in
      let proper' : IsProper p false (Then (Made (step_here a s)) t') = subst (λ t. IsProper p false t) et proper in
      let substitutes = call_substitutes p h j IsTheirs ss ready here outer source_call woven_call bound first a f refl refl s r in
      let m_in = step_inside p (step_here a s) proper'.0 in
      let g' = ghosts_here a s g in
      let good' = all_safe j (verdicts_here a s g) && good in
      let body' = stepped p h j IsTheirs ss ready here outer a refl s r (call_substitution f) m_in substitutes first g body in
      let f0 = own_frame here.activation (frame_of here.activation g'.frames) in
      subst (λ t. SimulatedHere g good vs t (run_woven T' rest' (woven_state s g) r)) (sym et)
      (announce p h j IsTheirs ss ready here outer a refl s r (call_substitution f) m_in substitutes woven_call bound first g good vs body opened t' T rest'
      (λ G. woven_call f xs (λ v s. k' v s r) (record s { ghosts = G }))
      (λ G. runs (record s { ghosts = G }) r ∙ operands_run here p.layouts woven_call es oe xs r ex' (λ xs s r. Then (Made (step_here a s)) (woven_call f xs (λ v s. k' v s r) s)) (record s { ghosts = G }))
      (alike.by f xs s g' (f0 ∷ outer) good' body'.inside body'.bounded (λ v s. k v s r) (λ v s. k' v s r)
      (λ v s2 g2 good2 i2 b2 le same f2.
      let same_own = same here.activation body'.later in
      let inner : InBodyHere s2 g2 = record {
        inside = i2;
        own = ap is_some same_own ∙ body'.own;
        below = λ n l. same n (let l' : n < here.activation = l in let m : here.activation < s.made = body'.later in omega arith) ∙ body'.below n l;
        bounded = b2;
        later = let m : here.activation < s.made = body'.later in let l' : s.made ≤ s2.made = le in omega arith;
      } in
      subst (λ (o : Option Frame). SimulatedHere g2 good2 [] (k v s2 r) (k' v (record s2 { ghosts = record g2 { frames = own_frame here.activation o ∷ outer } }) r)) same_own
      (takes.by v s2 g2 good2 [] r inner (exact_open p h j IsTheirs ss ready here outer s2 g2 good2) f2))
      proper'.1)))

  -- ---- an expression that makes no step, and a register

  silent_simulated : (q : Place_) (u : CType) (b : _) (e : Expr) → is_register q ≡ true → is_silent e ≡ true → (D : Resting Completion) (tail : List Stmt) (rest rest' : Completion → State → Registers → Trace) → PartSimulatedHere rest rest' D (run_woven tail)
      → PartSimulatedHere rest rest' (λ rest. run_statement (Eval (ex.Assign' q u b (more_of-Expr e end_of-Expr))) (λ c. sm.on_next strict D c rest)) (run_woven (changed_code hook_points here.function ++ (Eval (ex.Assign' q u b (more_of-Expr e end_of-Expr)) ∷ tail)))
  silent_simulated q u b e oq oe D tail rest rest' simulated = record {
    by = λ s g good vs r body opened proper.
        let E = ex.Assign' q u b (more_of-Expr e end_of-Expr) in
        assert_changed p h j IsTheirs ss ready here outer source_call woven_call bound first s r g good vs body opened (eval strict p.layouts source_call here E (λ x. D rest) s r) (Eval E ∷ tail) rest' (λ ws a.
        (silent_eval here p.layouts source_call woven_call E (both (is_register q) (is_silent e) oq oe)).by s (image here.activation outer g) r (λ t u. IsProper p false t → SimulatedHere g good ws t u) (λ x. D rest) (λ x. run_woven tail rest')
        (λ x r' f. simulated.by s g good ws r' body (asserted_open p h j IsTheirs ss ready here outer s g good ws a) f)
        (λ f proper. halted p h j IsTheirs ss ready here outer source_call woven_call bound first s g good ws body a f proper)
        (λ u f. no_true f)
        proper);
  }
    where
      both : (a b : Bool) → a ≡ true → b ≡ true → (a && b) ≡ true
      both true b x y = y
      both false b x y = x

  -- ---- a return

  result_same : (v : Option Value) (n : ℕ) → result_at (event.Return n) n v ≡ option_map term_value v
  result_same v n = ap (λ b. cond b (option_map term_value v) None) (number_same n)

  returned_inside : (v : Option Value) (s : State) → IsStepOf p (step_here (act.Return here.function v) s) → TermInside (option_map term_value v)
  returned_inside None s x = tt
  returned_inside (Some v) s x = pointer_inside p h j IsTheirs ss ready here outer source_call woven_call bound first v x.pointers

  return_substitutes : (s : State) (r : Registers) (e : Option Expr) (v : Option Value) → IsStepOf p (step_here (act.Return here.function v) s)
      → ((base g : Memory) → value_by (sight_in_woven p.layouts here s.memory r base (step_parts ss (step_here (act.Return here.function v) s)) g) (return_substitution e).result (now (sight_in_woven p.layouts here s.memory r base (step_parts ss (step_here (act.Return here.function v) s)) g)) ≡ option_map term_value v)
      → (base : Memory) → SubstitutesStep p.layouts here s.memory r base (step_parts ss (step_here (act.Return here.function v) s)) place.Return here.function (return_substitution e)
  return_substitutes s r e v step_of value_is base =
      record {
        accessed = λ t. no_true t;
        accessed_inside = λ t. no_true t;
        object = λ t. no_true t;
        parameter = λ t. no_true t;
        parameter_inside = λ t. no_true t;
        result = λ t g. value_is base g ∙ sym (result_same v here.function);
        result_inside = λ t. subst (λ o. TermInside o) (sym (result_same v here.function)) (returned_inside v s step_of);
        called = λ t. no_true t;
      }

  -- the code before a `return` has run where the statement is left
  announce_return : (e : Option Expr) (v : Option Value) (T : List Stmt) (rest rest' : Completion → State → Registers → Trace) → ExitsSimulatedHere rest rest' → (s : State) (g : Memory) (good : Bool) (vs : List Verdict) (r : Registers) → InBodyHere s g → PartlyAsserted p h j IsTheirs ss ready here outer s g good vs
      → IsProper p false (rest (Returned v) s r)
      → ((base g : Memory) → value_by (sight_in_woven p.layouts here s.memory r base (step_parts ss (step_here (act.Return here.function v) s)) g) (return_substitution e).result (now (sight_in_woven p.layouts here s.memory r base (step_parts ss (step_here (act.Return here.function v) s)) g)) ≡ option_map term_value v)
      → ((H : Memory) → run_woven T rest' (record s { ghosts = H }) r ≡ rest' (Returned v) (record s { ghosts = H }) r)
      → SimulatedHere g good vs (rest (Returned v) s r) (run_woven (code_before hook_points here.function place.Return (return_substitution e) ++ T) rest' (woven_state s g) r)
  announce_return e v T rest rest' exits s g good vs r body opened proper value_is runs =
      let a = act.Return here.function v in
      let x = step_parts ss (step_here a s) in
      let step_of = exits.returns_step v s r proper in
      let m_in = step_inside p (step_here a s) step_of in
      let substitutes = return_substitutes s r e v step_of value_is in
      let view_x = sight_in_fold p.layouts here s.memory [] no_memory x no_memory in
      let code = code_for hook_points here.function place.Return in
      let g' = ghosts_after_code view_x code g in
      let ws = verdicts_of_code view_x code g in
      let fits = code_for_fits p h j IsTheirs ss place.Return here.function hook_points ready in
      let m = matches p h j IsTheirs ss ready here outer a refl s r (return_substitution e) m_in substitutes first g good vs body opened in
      code_simulated p h j IsTheirs ss here s r x place.Return here.function (return_substitution e) substitutes m_in outer woven_call bound code fits g good vs g body.inside (rest (Returned v) s r) T rest'
      (subst (λ u. SimulatedHere g good (vs ++ ws) (rest (Returned v) s r) u) (sym (runs (image here.activation outer g')))
      (subst (λ g'. SimulatedHere g good (vs ++ ws) (rest (Returned v) s r) (rest' (Returned v) (record s { ghosts = image here.activation outer g' }) r)) (ghosts_are p h j IsTheirs ss ready here outer a s g body.own)
      (exits.returned v s g good (vs ++ ws) r body (stepped p h j IsTheirs ss ready here outer a refl s r (return_substitution e) m_in substitutes first g body)
      (subst (λ ws'. VerdictsMatch j good (vs ++ ws) ws') (sym (verdicts_are p h j IsTheirs ss ready here outer a s g body.own)) m) proper)))

  pub return_simulated : (e : Option Expr) → is_operand_or_nothing e ≡ true → (D : Resting Completion) (tail : List Stmt) (rest rest' : Completion → State → Registers → Trace) → ExitsSimulatedHere rest rest'
      → PartSimulatedHere rest rest' (λ rest. run_statement (st.Return e) (λ c. sm.on_next strict D c rest)) (run_woven (code_before hook_points here.function place.Return (return_substitution e) ++ (st.Return e ∷ tail)))
  return_simulated None o D tail rest rest' exits = record {
    by = λ s g good vs r body opened proper.
        announce_return None None (st.Return None ∷ tail) rest rest' exits s g good vs r body opened proper (λ base g. refl) (λ H. refl);
  }
  return_simulated (Some e) o D tail rest rest' exits = record {
    by = λ s g good vs r body opened proper.
        let t = eval strict p.layouts source_call here e (λ v. rest (Returned (Some v))) s r in
        let T' = code_before hook_points here.function place.Return (return_substitution (Some e)) ++ (st.Return (Some e) ∷ tail) in
        held_case p h j IsTheirs ss ready here outer source_call woven_call bound first (operand_value e r) (λ v. rest (Returned (Some v))) s r t (operand_strict here p.layouts source_call e o (λ v. rest (Returned (Some v))) s r) proper (SimulatedHere g good vs t (run_woven T' rest' (woven_state s g) r)) (λ v ev et.
        subst (λ t. SimulatedHere g good vs t (run_woven T' rest' (woven_state s g) r)) (sym et)
        (announce_return (Some e) (Some v) (st.Return (Some e) ∷ tail) rest rest' exits s g good vs r body opened (subst (λ t. IsProper p false t) et proper)
        (λ base g. operand_term here p s.memory r base g (step_parts ss (step_here (act.Return here.function (Some v)) s)) e o v ev)
        (λ H. operand_run here p.layouts woven_call e o v r ev (λ v. rest' (Returned (Some v))) (record s { ghosts = H }))));
  }

  -- ---- expression statements

  abbrev ValueForm : Expr → Type 0
  ValueForm d = (pl : HookPlace) × (substitution : Substitution) × (code_before_value hook_points here.function d ≡ code_before hook_points here.function pl substitution) × ValueGiven p h j IsTheirs ss ready here outer source_call woven_call bound first d pl substitution

  or_false : (b : Bool) → (b || false) ≡ true → b ≡ true
  or_false true e = refl
  or_false false e = e

  plain_apart : (q : Place_) → is_plain_place q ≡ true → is_register q ≡ false
  plain_apart (ex.Own v) e = by (is_register_variable v) e
    where
      by : (b : Bool) → not b ≡ true → b ≡ false
      by false e = refl
      by true e = no_true e
  plain_apart (ex.Deref' b d) e = refl
  plain_apart (ex.Member' b d o) e = refl
  plain_apart (ex.Index' b d c i n) e = refl

  value_form : (d : Expr) → (is_place_value d || is_single_call d) ≡ true → has_scalar_access d ≡ true → ValueForm d
  value_form (ex.Load q u) e sc =
      let o = or_false (is_plain_place q) e in
      (place.Read, access_substitution q u, ap (λ b. cond b (changed_code hook_points here.function) (code_before hook_points here.function place.Read (access_substitution q u))) (plain_apart q o), read_gives p h j IsTheirs ss ready here outer source_call woven_call bound first q u o sc)
  value_form (ex.Invoke' f b es) e sc = (place.Call, call_substitution f, refl, call_gives f b es e)
  value_form ex.GetChar e sc = (place.Call, call_substitution 0, refl, input_gives p h j IsTheirs ss ready here outer source_call woven_call bound first)
  value_form (ex.PutChar' b (more_of-Expr d end_of-Expr)) e sc = (place.Call, call_substitution 1, refl, output_gives p h j IsTheirs ss ready here outer source_call woven_call bound first b d e)
  value_form (ex.Malloc' b (more_of-Expr d end_of-Expr) u) e sc = (place.Call, call_substitution 2, refl, malloc_gives p h j IsTheirs ss ready here outer source_call woven_call bound first b d u e)
  value_form (ex.Free' b (more_of-Expr d end_of-Expr)) e sc = (place.Call, call_substitution 3, refl, free_gives p h j IsTheirs ss ready here outer source_call woven_call bound first b d e)
  value_form _ e sc = no_true e

  silent_before : (d : Expr) → is_silent d ≡ true → code_before_value hook_points here.function d ≡ changed_code hook_points here.function
  silent_before (ex.Load q u) e = ap (λ b. cond b (changed_code hook_points here.function) (code_before hook_points here.function place.Read (access_substitution q u))) e
  silent_before (ex.Invoke' f b es) e = no_true e
  silent_before ex.GetChar e = no_true e
  silent_before (ex.PutChar' b (more_of-Expr d end_of-Expr)) e = no_true e
  silent_before (ex.Malloc' b (more_of-Expr d end_of-Expr) t) e = no_true e
  silent_before (ex.Free' b (more_of-Expr d end_of-Expr)) e = no_true e
  silent_before _ e = refl

  -- a register takes the value of a step
  register_simulated : (v : Variable) → is_register_variable v ≡ true → (u : CType) (b : _) (d : Expr) (pl : HookPlace) (substitution : Substitution) → ValueGiven p h j IsTheirs ss ready here outer source_call woven_call bound first d pl substitution
      → (D : Resting Completion) (tail : List Stmt) (rest rest' : Completion → State → Registers → Trace) → PartSimulatedHere rest rest' D (run_woven tail)
      → PartSimulatedHere rest rest' (λ rest. run_statement (st.Eval (ex.Assign' (ex.Own v) u b (more_of-Expr d end_of-Expr))) (λ c. sm.on_next strict D c rest)) (run_woven (code_before hook_points here.function pl substitution ++ (st.Eval (ex.Assign' (ex.Own v) u b (more_of-Expr d end_of-Expr)) ∷ tail)))
  register_simulated v ev u b d pl substitution gives D tail rest rest' simulated = record {
    by = λ s g good vs r body opened proper.
        let T = st.Eval (ex.Assign' (ex.Own v) u b (more_of-Expr d end_of-Expr)) ∷ tail in
        let k = λ (l : Lvalue) (x : Value). store strict here u l x (λ x. D rest) in
        let k' = λ (l : Lvalue) (x : Value). store resting here u l x (λ x. run_woven tail rest') in
        let des : designated here.activation v 0 ≡ InRegister v.index = ap (λ b. cond b (InRegister v.index) (At (value.Pointer (name_in here.activation v) 0))) ev in
        subst (λ l. IsProper p false (eval strict p.layouts source_call here d (k l) s r) → SimulatedHere g good vs (eval strict p.layouts source_call here d (k l) s r) (run_woven (code_before hook_points here.function pl substitution ++ T) rest' (woven_state s g) r)) (sym des)
        (λ proper. gives (k (InRegister v.index)) (k' (InRegister v.index)) (register_takes p h j IsTheirs ss ready here outer source_call woven_call bound first u v.index D tail rest rest' simulated) T rest' (λ s r. ap (λ l. eval resting p.layouts woven_call here d (k' l) s r) des) s g good vs r body opened proper)
        proper;
  }

  bare_simulated : (d : Expr) → ValueForm d → (D : Resting Completion) (tail : List Stmt) (rest rest' : Completion → State → Registers → Trace) → PartSimulatedHere rest rest' D (run_woven tail)
      → PartSimulatedHere rest rest' (λ rest. run_statement (st.Eval d) (λ c. sm.on_next strict D c rest)) (run_woven (code_before_value hook_points here.function d ++ (st.Eval d ∷ tail)))
  bare_simulated d form D tail rest rest' simulated = record {
    by = λ s g good vs r body opened proper.
        subst (λ c. SimulatedHere g good vs (eval strict p.layouts source_call here d (λ x. D rest) s r) (run_woven (c ++ (st.Eval d ∷ tail)) rest' (woven_state s g) r)) (sym form.2)
        (form.3 (λ x. D rest) (λ x. run_woven tail rest') (nothing_takes p h j IsTheirs ss ready here outer source_call woven_call bound first D tail rest rest' simulated) (st.Eval d ∷ tail) rest' (λ s r. refl) s g good vs r body opened proper);
  }

  assign_register : (v : Variable) → is_register_variable v ≡ true → (u : CType) (b : _) (d : Expr) → (s : Bool) → is_silent d ≡ s → (is_silent d || (is_place_value d || is_single_call d)) ≡ true → has_scalar_access d ≡ true
      → (D : Resting Completion) (tail : List Stmt) (rest rest' : Completion → State → Registers → Trace) → PartSimulatedHere rest rest' D (run_woven tail)
      → PartSimulatedHere rest rest' (λ rest. run_statement (st.Eval (ex.Assign' (ex.Own v) u b (more_of-Expr d end_of-Expr))) (λ c. sm.on_next strict D c rest)) (run_woven (code_before_value hook_points here.function d ++ (st.Eval (ex.Assign' (ex.Own v) u b (more_of-Expr d end_of-Expr)) ∷ tail)))
  assign_register v ev u b d true e o sc D tail rest rest' simulated =
      subst (λ c. PartSimulatedHere rest rest' (λ rest. run_statement (st.Eval (ex.Assign' (ex.Own v) u b (more_of-Expr d end_of-Expr))) (λ c. sm.on_next strict D c rest)) (run_woven (c ++ (st.Eval (ex.Assign' (ex.Own v) u b (more_of-Expr d end_of-Expr)) ∷ tail)))) (sym (silent_before d e))
      (silent_simulated (ex.Own v) u b d ev e D tail rest rest' simulated)
  assign_register v ev u b d false e o sc D tail rest rest' simulated =
      let form = value_form d (subst (λ s. (s || (is_place_value d || is_single_call d)) ≡ true) e o) sc in
      subst (λ c. PartSimulatedHere rest rest' (λ rest. run_statement (st.Eval (ex.Assign' (ex.Own v) u b (more_of-Expr d end_of-Expr))) (λ c. sm.on_next strict D c rest)) (run_woven (c ++ (st.Eval (ex.Assign' (ex.Own v) u b (more_of-Expr d end_of-Expr)) ∷ tail)))) (sym form.2)
      (register_simulated v ev u b d form.0 form.1 form.3 D tail rest rest' simulated)

  assign_simulated : (q : Place_) (u : CType) (b : _) (d : Expr) (c : Bool) → is_register q ≡ c → ((is_register q && (is_silent d || (is_place_value d || is_single_call d))) || (is_plain_place q && is_operand d)) ≡ true → is_scalar u ≡ true → has_scalar_access d ≡ true
      → (D : Resting Completion) (tail : List Stmt) (rest rest' : Completion → State → Registers → Trace) → PartSimulatedHere rest rest' D (run_woven tail)
      → PartSimulatedHere rest rest' (λ rest. run_statement (st.Eval (ex.Assign' q u b (more_of-Expr d end_of-Expr))) (λ c. sm.on_next strict D c rest)) (run_woven (code_before_expression hook_points here.function (ex.Assign' q u b (more_of-Expr d end_of-Expr)) ++ (st.Eval (ex.Assign' q u b (more_of-Expr d end_of-Expr)) ∷ tail)))
  assign_simulated q u b d false e n su sd D tail rest rest' simulated =
      let both : (is_plain_place q && is_operand d) ≡ true = subst (λ c. ((c && (is_silent d || (is_place_value d || is_single_call d))) || (is_plain_place q && is_operand d)) ≡ true) e n in
      subst (λ c. PartSimulatedHere rest rest' (λ rest. run_statement (st.Eval (ex.Assign' q u b (more_of-Expr d end_of-Expr))) (λ c. sm.on_next strict D c rest)) (run_woven (cond c (code_before_value hook_points here.function d) (code_before hook_points here.function place.Write (access_substitution q u)) ++ (st.Eval (ex.Assign' q u b (more_of-Expr d end_of-Expr)) ∷ tail)))) (sym e)
      (write_simulated p h j IsTheirs ss ready here outer source_call woven_call bound first q u b d (and_left (is_plain_place q) (is_operand d) both) (and_right (is_plain_place q) (is_operand d) both) su D tail rest rest' simulated)
  assign_simulated (ex.Own v) u b d true e n su sd D tail rest rest' simulated =
      subst (λ c. PartSimulatedHere rest rest' (λ rest. run_statement (st.Eval (ex.Assign' (ex.Own v) u b (more_of-Expr d end_of-Expr))) (λ c. sm.on_next strict D c rest)) (run_woven (cond c (code_before_value hook_points here.function d) (code_before hook_points here.function place.Write (access_substitution (ex.Own v) u)) ++ (st.Eval (ex.Assign' (ex.Own v) u b (more_of-Expr d end_of-Expr)) ∷ tail)))) (sym e)
      (assign_register v e u b d (is_silent d) refl (chosen_left (is_silent d || (is_place_value d || is_single_call d)) (is_operand d) (subst (λ c. ((c && (is_silent d || (is_place_value d || is_single_call d))) || (not c && is_operand d)) ≡ true) e n)) sd D tail rest rest' simulated)
    where
      chosen_left : (a c : Bool) → (a || false) ≡ true → a ≡ true
      chosen_left a c x = or_false a x
  assign_simulated (ex.Deref' x y) u b d true e n su sd D tail rest rest' simulated = no_true e
  assign_simulated (ex.Member' x y o) u b d true e n su sd D tail rest rest' simulated = no_true e
  assign_simulated (ex.Index' x y c i o) u b d true e n su sd D tail rest rest' simulated = no_true e

  pub eval_simulated : (e : Expr) → is_normal_expression e ≡ true → has_scalars e ≡ true → (D : Resting Completion) (tail : List Stmt) (rest rest' : Completion → State → Registers → Trace) → PartSimulatedHere rest rest' D (run_woven tail)
      → PartSimulatedHere rest rest' (λ rest. run_statement (st.Eval e) (λ c. sm.on_next strict D c rest)) (run_woven (code_before_expression hook_points here.function e ++ (st.Eval e ∷ tail)))
  eval_simulated (ex.Assign' q u b (more_of-Expr d end_of-Expr)) n sc D tail rest rest' simulated = assign_simulated q u b d (is_register q) refl n (and_left (is_scalar u) (has_scalar_access d) sc) (and_right (is_scalar u) (has_scalar_access d) sc) D tail rest rest' simulated
  eval_simulated (ex.Invoke' f b es) n sc D tail rest rest' simulated = bare_simulated (ex.Invoke' f b es) (value_form (ex.Invoke' f b es) n refl) D tail rest rest' simulated
  eval_simulated ex.GetChar n sc D tail rest rest' simulated = bare_simulated ex.GetChar (value_form ex.GetChar n refl) D tail rest rest' simulated
  eval_simulated (ex.PutChar' b (more_of-Expr d end_of-Expr)) n sc D tail rest rest' simulated = bare_simulated (ex.PutChar' b (more_of-Expr d end_of-Expr)) (value_form (ex.PutChar' b (more_of-Expr d end_of-Expr)) n refl) D tail rest rest' simulated
  eval_simulated (ex.Malloc' b (more_of-Expr d end_of-Expr) u) n sc D tail rest rest' simulated = bare_simulated (ex.Malloc' b (more_of-Expr d end_of-Expr) u) (value_form (ex.Malloc' b (more_of-Expr d end_of-Expr) u) n refl) D tail rest rest' simulated
  eval_simulated (ex.Free' b (more_of-Expr d end_of-Expr)) n sc D tail rest rest' simulated = bare_simulated (ex.Free' b (more_of-Expr d end_of-Expr)) (value_form (ex.Free' b (more_of-Expr d end_of-Expr)) n refl) D tail rest rest' simulated
  eval_simulated _ n sc D tail rest rest' simulated = no_true n
