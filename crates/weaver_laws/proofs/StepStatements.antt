-- Statements of one step or none, in the source and in the woven program.
use Rattle.std.specs.List.{AllByRecursion}
use Rattle.std.proofs.Common.{◌≡◌, ℕ, Bool, true, false, cond, ◌&&◌, ◌==◌, List, [], ◌∷◌, ◌++◌, length, Option, Some, None, refl, sym, subst, ap, ap₂, ◌∙◌, append-nil}
use Rattle.step_meaning.specs.declared.value.Value.{Value}
use Rattle.step_meaning.specs.declared.value.RunFault.{RunFault}
use Rattle.step_meaning.specs.declared.value.Action.{Action}
use Rattle.step_meaning.specs.declared.value.Action.TheVariants as act
use Rattle.step_meaning.specs.declared.stmt.VerdictKind.TheVariants.{Safe}
use Rattle.step_meaning.specs.declared.stmt.Stmt.{Stmt}
use Rattle.step_meaning.specs.declared.stmt.Stmt.TheVariants.{Assert, Eval}
use Rattle.step_meaning.specs.declared.program.Core.{Core}
use Rattle.step_meaning.specs.declared.program.Hooks.{Hooks}
use Rattle.step_meaning.specs.declared.program.HookPlace.TheVariants as place
use Rattle.step_meaning.specs.declared.value.CType.{CType}
use Rattle.step_meaning.specs.declared.value.Cell.{Cell}
use Rattle.step_meaning.specs.declared.value.Cell.TheVariants.{Holds}
use Rattle.step_meaning.specs.declared.value.Value.TheVariants as value
use Rattle.step_meaning.specs.declared.value.RunFault.TheVariants as fault
use Rattle.step_meaning.specs.declared.expr.Expr.{Expr, end_of-Expr, more_of-Expr}
use Rattle.step_meaning.specs.declared.expr.Expr.TheVariants as ex
use Rattle.step_meaning.specs.declared.expr.Place_.{Place_}
use Rattle.step_meaning.specs.declared.value.CType.TheVariants as type
use Rattle.step_meaning.specs.Memory.{Memory, Frame, reached, stored}
use Rattle.step_meaning.specs.Steps.{Step, Verdict, Made, Fault, Trace, Stop, Then}
use Rattle.step_meaning.specs.State.{State, Here, Registers, At}
use Rattle.step_meaning.specs.Views.{no_memory}
use Rattle.step_meaning.specs.Predicates.{holds, denoted_types}
use Rattle.step_meaning.specs.Ghosts.{ghost_sight}
use Rattle.step_meaning.specs.Flow.{Resting, RestingCall, resting}
use Rattle.step_meaning.specs.Statements.{Completion, Next, exec_all, Broken, Continued, Returned, exec}
use Rattle.step_meaning.specs.Verdicts.{accept_verdicts}
use Rattle.step_meaning.specs.Traced.{IsStepOf, PointsIntoProgram}
use Rattle.step_meaning.specs.Fold.{ghosts_after_code, verdicts_of_code}
use Rattle.step_meaning.specs.Terms.{term_value}
use Rattle.step_meaning.specs.Expressions.{eval}
use Rattle.step_meaning.specs.Accesses.{write_at, store}
use Rattle.step_meaning.specs.Normal.{is_operand, is_plain_place}
use Rattle.step_meaning.specs.Strict.{strict}
use Rattle.step_meaning.specs.Statements as sm
use Rattle.step_meaning.specs.TypeRules.{is_scalar}
use Rattle.weaver_laws.specs.Weaving.{empty_substitution, substitute_predicate, substitute_code, code_for, code_before, changed_code, access_substitution}
use Rattle.weaver_laws.proofs.HookSights.{sight_in_fold, SubstitutesStep}
use Rattle.weaver_laws.proofs.HookTruths.{holds_same}
use Rattle.weaver_laws.proofs.InsideMemories.{MemoryInside, TermInside}
use Rattle.weaver_laws.proofs.GhostFrames.{image, image_block}
use Rattle.weaver_laws.proofs.TraceSimulation.{all_safe, all_safe_append, accept_append, VerdictsMatch, step_parts, IsProper, TraceSimulated}
use Rattle.weaver_laws.proofs.ChangedCode.{place_of, PointReady, changed_substitutes, AreChangedAssertions, changed_assertions, assertions_ghosts, assertions_accept, assertions_same}
use Rattle.weaver_laws.proofs.ActivationSteps.{no_parts, invariant_truth, PartlyAsserted, Asserted, InBody, step, fold_verdicts, fold_ghosts, verdicts_are, ghosts_are, asserted_so, exact_open, stepped, asserted_after, announce}
use Rattle.weaver_laws.proofs.Operands.{step_inside, operand_value, where_held, place_value, operand_strict, operand_run, place_strict, place_run, place_term}
use Rattle.weaver_laws.proofs.Basics.{no_true}

module _ (p : Core) (h : Hooks) (j : ℕ) (IsTheirs : ℕ → Type 0) (ss : List Step) (ready : AllByRecursion (PointReady p h j IsTheirs ss) h.points) (here : Here) (outer : List Frame)
    (source_call woven_call : ℕ → List Value → RestingCall) (bound : ℕ) (first : Memory) where
  abbrev pub PartlyAssertedHere : State → Memory → Bool → List Verdict → Type 0
  PartlyAssertedHere = PartlyAsserted p h j IsTheirs ss ready here outer

  abbrev pub AssertedHere : State → Memory → Bool → List Verdict → Type 0
  AssertedHere = Asserted p h j IsTheirs ss ready here outer

  abbrev pub InBodyHere : State → Memory → Type 0
  InBodyHere = InBody p h j IsTheirs ss ready here outer first

  abbrev pub SimulatedHere : Memory → Bool → List Verdict → Trace → Trace → Type 0
  SimulatedHere g good vs t u = TraceSimulated p h j IsTheirs ss g good vs t u

  abbrev pub step_here : Action → State → Step
  step_here a s = step p h j IsTheirs ss ready here outer a s

  abbrev pub ghosts_here : Action → State → Memory → Memory
  ghosts_here a s g = fold_ghosts p h j IsTheirs ss ready here outer a s g

  abbrev pub verdicts_here : Action → State → Memory → List Verdict
  verdicts_here a s g = fold_verdicts p h j IsTheirs ss ready here outer a s g

  abbrev pub woven_state : State → Memory → State
  woven_state s g = record s { ghosts = image here.activation outer g }

  abbrev pub changed_statements : List Stmt
  changed_statements = code_for h.points here.function place.Changed

  abbrev pub run_source : List Stmt → Resting Completion
  run_source c = exec_all strict p.layouts source_call here bound c

  abbrev pub run_woven : List Stmt → Resting Completion
  run_woven c = exec_all resting p.layouts woven_call here bound c

  -- ---- assertions of what holds at every step

  abbrev asserted_verdicts : State → Registers → Memory → List Stmt → List Verdict
  asserted_verdicts s r G [] = []
  asserted_verdicts s r G (Assert k n q ∷ c) = record { monitor = n; kind = k; truth = holds (ghost_sight p.layouts here s.memory r G) (substitute_predicate empty_substitution q) } ∷ asserted_verdicts s r G c
  asserted_verdicts s r G (_ ∷ c) = asserted_verdicts s r G c

  snoc : (vs : List Verdict) (v : Verdict) (ws : List Verdict) → vs ++ (v ∷ ws) ≡ (vs ++ (v ∷ [])) ++ ws
  snoc [] v ws = refl
  snoc (w ∷ vs) v ws = ap (λ vs. w ∷ vs) (snoc vs v ws)

  changed_simulated : (c : List Stmt) → AreChangedAssertions p h j IsTheirs ss here.function c → (g : Memory) (good : Bool) (vs : List Verdict) (t : Trace) (tail : List Stmt) (rest : Completion → State → Registers → Trace) (s : State) (r : Registers)
      → SimulatedHere g good (vs ++ asserted_verdicts s r s.ghosts c) t (run_woven tail rest s r) → SimulatedHere g good vs t (run_woven (substitute_code empty_substitution c ++ tail) rest s r)
  changed_simulated [] o g good vs t tail rest s r l = subst (λ vs. SimulatedHere g good vs t (run_woven tail rest s r)) (append-nil vs) l
  changed_simulated (Assert Safe n q ∷ c) o g good vs t tail rest s r l =
      let v : Verdict = record { monitor = n; kind = Safe; truth = holds (ghost_sight p.layouts here s.memory r s.ghosts) (substitute_predicate empty_substitution q) } in
      (o.0.0, changed_simulated c o.1 g good (vs ++ (v ∷ [])) t tail rest s r (subst (λ vs. SimulatedHere g good vs t (run_woven tail rest s r)) (snoc vs v (asserted_verdicts s r s.ghosts c)) l))
  changed_simulated (_ ∷ c) o g good vs t tail rest s r l = absurd o.0

  asserted_same : (c : List Stmt) → AreChangedAssertions p h j IsTheirs ss here.function c → (s : State) (r : Registers) (g : Memory) → MemoryInside s.memory → MemoryInside g
      → verdicts_of_code (sight_in_fold p.layouts here s.memory [] no_memory no_parts no_memory) c g ≡ asserted_verdicts s r (image here.activation outer g) c
  asserted_same [] o s r g m_in g_in = refl
  asserted_same (Assert Safe n q ∷ c) o s r g m_in g_in =
      let G = image here.activation outer g in
      ap₂ (λ (b : Bool) (vs : List Verdict). let v : Verdict = record { monitor = n; kind = Safe; truth = b } in v ∷ vs)
      (holds_same p.layouts here s.memory r G no_parts false place.Changed here.function empty_substitution (changed_substitutes p h j IsTheirs ss here s.memory r no_parts here.function G) m_in g G g_in (λ w. no_true w) (image_block here.activation outer g) q o.0.1)
      (asserted_same c o.1 s r g m_in g_in)
  asserted_same (_ ∷ c) o s r g m_in g_in = absurd o.0

  asserted_accept : (c : List Stmt) → AreChangedAssertions p h j IsTheirs ss here.function c → (s : State) (r : Registers) (G : Memory) → accept_verdicts j (asserted_verdicts s r G c) ≡ []
  asserted_accept [] o s r G = refl
  asserted_accept (Assert Safe n q ∷ c) o s r G = by (n == j) (record { monitor = n; kind = Safe; truth = holds (ghost_sight p.layouts here s.memory r G) (substitute_predicate empty_substitution q) }) (asserted_accept c o.1 s r G)
    where
      by : (b : Bool) (w : Verdict) → accept_verdicts j (asserted_verdicts s r G c) ≡ [] → cond (b && false) (w ∷ accept_verdicts j (asserted_verdicts s r G c)) (accept_verdicts j (asserted_verdicts s r G c)) ≡ []
      by true w e = e
      by false w e = e
  asserted_accept (_ ∷ c) o s r G = absurd o.0

  assertions_here : AreChangedAssertions p h j IsTheirs ss here.function changed_statements
  assertions_here = changed_assertions p h j IsTheirs ss here.function h.points ready

  asserted : (s : State) (r : Registers) (g : Memory) (good : Bool) (vs : List Verdict) → MemoryInside g → PartlyAssertedHere s g good vs → AssertedHere s g good (vs ++ asserted_verdicts s r (image here.activation outer g) changed_statements)
  asserted s r g good vs g_in o =
      let ws = asserted_verdicts s r (image here.activation outer g) changed_statements in
      let str = invariant_truth p h j IsTheirs ss ready here outer s g in
      record {
        truths = λ i.
            ap (λ b. b && good) (all_safe_append j vs ws)
            ∙ (ap (λ b. (all_safe j vs && b) && good) (ap (λ vs. all_safe j vs) (sym (asserted_same changed_statements assertions_here s r g i g_in)))
            ∙ asserted_so (all_safe j vs) str good (o.truths i));
        accepted = accept_append j vs ws ∙ ap₂ (λ a b. a ++ b) o.accepted (asserted_accept changed_statements assertions_here s r (image here.activation outer g));
      }

  pub assert_changed : (s : State) (r : Registers) (g : Memory) (good : Bool) (vs : List Verdict) → InBodyHere s g → PartlyAssertedHere s g good vs → (t : Trace) (tail : List Stmt) (rest : Completion → State → Registers → Trace)
      → ((ws : List Verdict) → AssertedHere s g good ws → SimulatedHere g good ws t (run_woven tail rest (woven_state s g) r))
      → SimulatedHere g good vs t (run_woven (changed_code h.points here.function ++ tail) rest (woven_state s g) r)
  assert_changed s r g good vs b o t tail rest k =
      changed_simulated changed_statements assertions_here g good vs t tail rest (woven_state s g) r (k (vs ++ asserted_verdicts s r (image here.activation outer g) changed_statements) (asserted s r g good vs b.inside o))

  -- ---- steps at which nothing but this stands

  changed_matches : (a : Action) → place_of a ≡ place.Changed → (s : State) (g : Memory) (good : Bool) (vs : List Verdict) → MemoryInside s.memory → InBodyHere s g → AssertedHere s g good vs → VerdictsMatch j good vs (verdicts_here a s g)
  changed_matches a e s g good vs i b o =
      let x = step_parts ss (step_here a s) in
      let c : verdicts_here a s g ≡ verdicts_of_code (sight_in_fold p.layouts here s.memory [] no_memory no_parts no_memory) changed_statements g =
      verdicts_are p h j IsTheirs ss ready here outer a s g b.own
      ∙ (ap (λ pl. verdicts_of_code (sight_in_fold p.layouts here s.memory [] no_memory x no_memory) (code_for h.points here.function pl) g) e
      ∙ assertions_same p h j IsTheirs ss here s.memory here.function i changed_statements assertions_here x no_parts g g b.inside b.inside refl) in
      record {
        truths = o.truths i ∙ ap (λ vs. all_safe j vs && good) (sym c);
        accepted = o.accepted ∙ sym (ap (λ vs. accept_verdicts j vs) c ∙ assertions_accept p h j IsTheirs ss here.function changed_statements assertions_here (sight_in_fold p.layouts here s.memory [] no_memory no_parts no_memory) g);
      }

  changed_ghosts : (a : Action) → place_of a ≡ place.Changed → (s : State) (g : Memory) → InBodyHere s g → ghosts_here a s g ≡ g
  changed_ghosts a e s g b =
      let x = step_parts ss (step_here a s) in
      ghosts_are p h j IsTheirs ss ready here outer a s g b.own
      ∙ (ap (λ pl. ghosts_after_code (sight_in_fold p.layouts here s.memory [] no_memory x no_memory) (code_for h.points here.function pl) g) e
      ∙ assertions_ghosts p h j IsTheirs ss here.function changed_statements assertions_here (sight_in_fold p.layouts here s.memory [] no_memory x no_memory) g)

  pub halted : (s : State) (g : Memory) (good : Bool) (vs : List Verdict) → InBodyHere s g → AssertedHere s g good vs → (f : RunFault)
      → IsProper p false (Then (Made (step_here (act.Halt f) s)) (Stop (Fault f))) → SimulatedHere g good vs (Then (Made (step_here (act.Halt f) s)) (Stop (Fault f))) (Then (Made (step_here (act.Halt f) s)) (Stop (Fault f)))
  halted s g good vs b o f proper = (refl, changed_matches (act.Halt f) refl s g good vs (step_inside p (step_here (act.Halt f) s) proper.0) b o, (refl, λ e. absurd e))

  pub turned : (s : State) (g : Memory) (good : Bool) (vs : List Verdict) → InBodyHere s g → AssertedHere s g good vs → (t u : Trace) → IsProper p false (Then (Made (step_here act.Turn s)) t)
      → ((good' : Bool) → SimulatedHere g good' [] t u) → SimulatedHere g good vs (Then (Made (step_here act.Turn s)) t) (Then (Made (step_here act.Turn s)) u)
  turned s g good vs b o t u proper l = (
    refl,
    changed_matches act.Turn refl s g good vs (step_inside p (step_here act.Turn s) proper.0) b o,
    subst (λ g'. SimulatedHere g' (all_safe j (verdicts_here act.Turn s g) && good) [] t u) (sym (changed_ghosts act.Turn refl s g b)) (l (all_safe j (verdicts_here act.Turn s g) && good)),
  )

  -- ---- what comes after a statement

  abbrev pub return_action : Option Value → Action
  return_action v = act.Return here.function v

  -- the source and the woven program go on alike, for each way in which a statement is left before its end
  pub record ExitsSimulated (rest rest' : Completion → State → Registers → Trace) : Type 0 where
    pub broken : (s : State) (g : Memory) (good : Bool) (vs : List Verdict) (r : Registers) → InBodyHere s g → PartlyAssertedHere s g good vs → IsProper p false (rest Broken s r) → SimulatedHere g good vs (rest Broken s r) (rest' Broken (woven_state s g) r)
    pub continued : (s : State) (g : Memory) (good : Bool) (vs : List Verdict) (r : Registers) → InBodyHere s g → AssertedHere s g good vs → IsProper p false (rest Continued s r) → SimulatedHere g good vs (rest Continued s r) (rest' Continued (woven_state s g) r)
    -- a `return` is followed by the Return step, whose code has run
    pub returns_step : (v : Option Value) (s : State) (r : Registers) → IsProper p false (rest (Returned v) s r) → IsStepOf p (step_here (return_action v) s)
    pub returned : (v : Option Value) (s : State) (g : Memory) (good : Bool) (vs : List Verdict) (r : Registers) → InBodyHere s g → InBodyHere s (ghosts_here (return_action v) s g) → VerdictsMatch j good vs (verdicts_here (return_action v) s g) → IsProper p false (rest (Returned v) s r)
        → SimulatedHere g good vs (rest (Returned v) s r) (rest' (Returned v) (woven_state s (ghosts_here (return_action v) s g)) r)

  -- a part of the source and a part of the woven program, where these come after them
  pub record PartSimulated (rest rest' : Completion → State → Registers → Trace) (d d' : Resting Completion) : Type 0 where
    pub by : (s : State) (g : Memory) (good : Bool) (vs : List Verdict) (r : Registers) → InBodyHere s g → PartlyAssertedHere s g good vs → IsProper p false (d rest s r) → SimulatedHere g good vs (d rest s r) (d' rest' (woven_state s g) r)

  -- a statement, and what comes after it in the source
  abbrev pub then_do : Resting Completion → Resting Completion → Resting Completion
  then_do d more = λ rest. d (λ c. sm.on_next strict more c rest)

  pub held_case : {A : Type 0} (x : Option A) (k : A → State → Registers → Trace) (s : State) (r : Registers) (t : Trace) → t ≡ where_held x k s r → IsProper p false t → (goal : Type 0) → ((v : A) → x ≡ Some v → t ≡ k v s r → goal) → goal
  held_case None k s r t e f goal exits = no_true (subst (λ t. IsProper p false t) e f)
  held_case (Some v) k s r t e f goal exits = exits v refl e

  pub scalar_one : (u : CType) → is_scalar u ≡ true → length (denoted_types p.layouts u) ≡ 1
  scalar_one (type.Int k) e = refl
  scalar_one (type.Pointer' b v) e = refl
  scalar_one type.Void e = no_true e
  scalar_one (type.Array' b v n) e = no_true e
  scalar_one (type.Struct n) e = no_true e

  other_memory : (s : State) (m : Memory) (g : Memory) → InBodyHere s g → InBodyHere (record s { memory = m }) g
  other_memory s m g b = record { inside = b.inside; own = b.own; below = b.below; bounded = b.bounded; later = b.later }

  pub pointer_inside : (v : Value) → PointsIntoProgram v → TermInside (Some (term_value v))
  pointer_inside (value.Int z) h = tt
  pointer_inside value.Null h = tt
  pointer_inside (value.Pointer n o) h = h

  write_substitutes : (s : State) (r : Registers) (q : Place_) (u : CType) (w v : Value) → is_plain_place q ≡ true → is_scalar u ≡ true → place_value here q r ≡ Some w → IsStepOf p (step_here (act.Write w v) s) → (base : Memory)
      → SubstitutesStep p.layouts here s.memory r base (step_parts ss (step_here (act.Write w v) s)) place.Write here.function (access_substitution q u)
  write_substitutes s r q u w v o sc e stepped_so base =
      record {
        accessed = λ t g. place_term here p s.memory r base g (step_parts ss (step_here (act.Write w v) s)) q u o w e;
        accessed_inside = λ t. pointer_inside w stepped_so.pointers;
        object = λ t. scalar_one u sc;
        parameter = λ t. no_true t;
        parameter_inside = λ t. no_true t;
        result = λ t. no_true t;
        result_inside = λ t. no_true t;
        called = λ t. no_true t;
      }

  write_on : (c : Option Cell) (D : Resting Completion) (tail : List Stmt) (rest rest' : Completion → State → Registers → Trace) → PartSimulated rest rest' D (run_woven tail) → (s : State) (g : Memory) (good : Bool) (r : Registers) (w v : Value) → InBodyHere s g → AssertedHere s g good []
      → IsProper p false (write_at strict here w v c (λ x. D rest) s r) → SimulatedHere g good [] (write_at strict here w v c (λ x. D rest) s r) (write_at resting here w v c (λ x. run_woven tail rest') (woven_state s g) r)
  write_on None D tail rest rest' simulated s g good r w v b a f = halted s g good [] b a fault.Invalid f
  write_on (Some c) D tail rest rest' simulated s g good r w v b a f =
      let s' : State = record s { memory = stored s.memory w (Holds v) } in
      simulated.by s' g good [] r (other_memory s s'.memory g b) (exact_open p h j IsTheirs ss ready here outer s' g good) f

  -- a place takes an operand
  pub write_simulated : (q : Place_) (u : CType) (b : _) (d : Expr) → is_plain_place q ≡ true → is_operand d ≡ true → is_scalar u ≡ true → (D : Resting Completion) (tail : List Stmt) (rest rest' : Completion → State → Registers → Trace) → PartSimulated rest rest' D (run_woven tail)
      → PartSimulated rest rest' (then_do (exec strict p.layouts source_call here bound (Eval (ex.Assign' q u b (more_of-Expr d end_of-Expr)))) D) (run_woven (code_before h.points here.function place.Write (access_substitution q u) ++ (Eval (ex.Assign' q u b (more_of-Expr d end_of-Expr)) ∷ tail)))
  write_simulated q u b d oq od sc D tail rest rest' simulated = record {
    by = λ s g good vs r body opened proper.
        let t = then_do (exec strict p.layouts source_call here bound (Eval (ex.Assign' q u b (more_of-Expr d end_of-Expr)))) D rest s r in
        let goal = SimulatedHere g good vs t (run_woven (code_before h.points here.function place.Write (access_substitution q u) ++ (Eval (ex.Assign' q u b (more_of-Expr d end_of-Expr)) ∷ tail)) rest' (woven_state s g) r) in
        held_case (place_value here q r) (λ w. eval strict p.layouts source_call here d (λ v. store strict here u (At w) v (λ x. D rest))) s r t (place_strict here p.layouts source_call q oq (λ l. eval strict p.layouts source_call here d (λ v. store strict here u l v (λ x. D rest))) s r) proper goal (λ w ew et.
        held_case (operand_value d r) (λ v. store strict here u (At w) v (λ x. D rest)) s r t (et ∙ operand_strict here p.layouts source_call d od (λ v. store strict here u (At w) v (λ x. D rest)) s r) proper goal (λ v ev et'.
        let a = act.Write w v in
        let t' = write_at strict here w v (reached s.memory w u) (λ x. D rest) s r in
        let proper' : IsProper p false (Then (Made (step_here a s)) t') = subst (λ t. IsProper p false t) et' proper in
        let substitutes = write_substitutes s r q u w v oq sc ew proper'.0 in
        let m_in = step_inside p (step_here a s) proper'.0 in
        let body' = stepped p h j IsTheirs ss ready here outer a refl s r (access_substitution q u) m_in substitutes first g body in
        subst (λ t. SimulatedHere g good vs t (run_woven (code_before h.points here.function place.Write (access_substitution q u) ++ (Eval (ex.Assign' q u b (more_of-Expr d end_of-Expr)) ∷ tail)) rest' (woven_state s g) r)) (sym et')
        (announce p h j IsTheirs ss ready here outer a refl s r (access_substitution q u) m_in substitutes woven_call bound first g good vs body opened t' (Eval (ex.Assign' q u b (more_of-Expr d end_of-Expr)) ∷ tail) rest'
        (λ G. write_at resting here w v (reached s.memory w u) (λ x. run_woven tail rest') (record s { ghosts = G }) r)
        (λ G. place_run here p.layouts woven_call q oq w r ew (λ l. eval resting p.layouts woven_call here d (λ v. store resting here u l v (λ x. run_woven tail rest'))) (record s { ghosts = G })
        ∙ operand_run here p.layouts woven_call d od v r ev (λ v. store resting here u (At w) v (λ x. run_woven tail rest')) (record s { ghosts = G }))
        (write_on (reached s.memory w u) D tail rest rest' simulated s (ghosts_here a s g) (all_safe j (verdicts_here a s g) && good) r w v body' (asserted_after p h j IsTheirs ss ready here outer a refl s r (access_substitution q u) m_in substitutes first g good body) proper'.1))));
  }
