-- From what a turn makes to the steps of the machine's run.
use Rattle.std.proofs.Common.{◌≡◌, ℕ, suc, ◌≤◌, List, [], Option, Some, None, refl, sym, ap, ◌∙◌, arith}
use Rattle.std.specs.Prelude.{take, drop, option_map, ◌==◌, slice_get}
use Rattle.step_meaning.specs.declared.value.Value.{Value}
use Rattle.step_meaning.specs.declared.value.Action.{Action}
use Rattle.step_meaning.specs.declared.value.Action.TheVariants as act
use Rattle.step_meaning.specs.declared.stmt.Stmt.{Stmt, end_of-Stmt, more_of-Stmt}
use Rattle.step_meaning.specs.declared.stmt.Stmt.TheVariants as st
use Rattle.step_meaning.specs.declared.program.Core.{Core}
use Rattle.step_meaning.specs.declared.program.Function.{Function}
use Rattle.step_meaning.specs.Steps.{Trace, Then}
use Rattle.step_meaning.specs.State.{State, Registers, Here, unset_registers}
use Rattle.step_meaning.specs.Flow.{resting, Resting, RestingCall, step_by}
use Rattle.step_meaning.specs.Expressions as ex
use Rattle.step_meaning.specs.Statements as sm
use Rattle.step_meaning.specs.Statements.{Completion, Next, Broken, Continued, Returned}
use Rattle.step_meaning.specs.Calls as ca
use Rattle.step_meaning.specs.First.{first_items}
use Rattle.step_meaning.specs.Runs.{run}
use Rattle.step_meaning.proofs.Bounds.{Same, SameCall, same_bind, same_pure, same_exec, same_at_end, same_when, same_step_of, same_turns, same_calls, same_after_turn}
use Rattle.step_meaning.proofs.FirstSteps.{Alike, alike_counts, items_of_cut}
use Rattle.run_turns.specs.Pending as pending
use Rattle.run_turns.specs.Turns as turns
use Rattle.run_turns.specs.Turns.{Configuration, Turn, state_of, rest_of, moved, makes, ready, turn_at, start}
use Rattle.run_turns.specs.Rest.{rest}
use Rattle.run_turns.proofs.Follows.{stepped, evaluates, locates, executes, operates, accesses, selects, designates, concludes, passes, argues, gives_back, IsSettled}
use Rattle.run_turns.proofs.PendingBounds.{Onward, part_alike, resume_alike}

-- ---- larger bounds

abbrev pub calls_at : Core → ℕ → ℕ → ℕ → List Value → RestingCall
calls_at q k d = ca.calls resting q k d

alike_calls : (q : Core) (n k d k' d' : ℕ) → n ≤ k → n ≤ d → n ≤ k' → n ≤ d' → (g : ℕ) (vs : List Value) → SameCall Alike alike_counts n (calls_at q k d g vs) (calls_at q k' d' g vs)
alike_calls q n k d k' d' a b a' b' g vs = same_calls Alike alike_counts q k k' n d d' b b' a a' g vs

from_alike : (n : ℕ) (t u : Trace) → Alike (suc n) t u → first_items n t ≡ first_items n u
from_alike n t u h = sym (items_of_cut n t) ∙ ap (first_items n) h ∙ items_of_cut n u

pub one_less : (q : Core) (n : ℕ) (m : Configuration) (input : List ℕ) → first_items n (rest_of q (calls_at q (suc (suc n)) (suc (suc n))) (suc (suc n)) m input) ≡ first_items n (rest_of q (calls_at q (suc n) (suc n)) (suc n) m input)
one_less q n m input =
    from_alike n _ _ (resume_alike Alike alike_counts q (suc n) (calls_at q (suc (suc n)) (suc (suc n))) (calls_at q (suc n) (suc n)) (alike_calls q (suc n) (suc (suc n)) (suc (suc n)) (suc n) (suc n) (omega arith) (omega arith) (omega arith) (omega arith)) (suc (suc n)) (suc n) (omega arith) (omega arith) m.work (suc n) (omega arith) m.told m.context (state_of m input))

-- ---- turns that are the same for all bounds

abbrev pub IsTurn : Core → Configuration → Option Action → Configuration → Type 0
IsTurn q old a new = (call : ℕ → List Value → RestingCall) (k : ℕ) (input : List ℕ) → rest_of q call k old input ≡ stepped a old.context.here old.memory (rest_of q call k new input)

pub turn_moves : (q : Core) (old new : Configuration) → IsTurn q old None new → (input : List ℕ) (n : ℕ) → rest q old input n ≡ rest q new input n
unfolding rest
turn_moves q old new h input n = ap (first_items n) (h (calls_at q (suc n) (suc n)) (suc n) input)

pub turn_makes : (q : Core) (old new : Configuration) (a : Action) → IsTurn q old (Some a) new → (input : List ℕ) (n : ℕ) → rest q old input (suc n) ≡ Then (step_by old.context.here a old.memory) (rest q new input n)
unfolding rest
turn_makes q old new a h input n =
    ap (first_items (suc n)) (h (calls_at q (suc (suc n)) (suc (suc n))) (suc (suc n)) input) ∙ ap (Then (step_by old.context.here a old.memory)) (one_less q n new input)

-- ---- a machine before the first step

pub start_rest : (q : Core) (input : List ℕ) (n : ℕ) → rest q (start q) input n ≡ first_items n (run q input (suc n))
unfolding rest
start_rest q input n = refl

-- ---- a loop's turn

abbrev pub IsLoop : Stmt → Type 0
IsLoop (st.While' e b s) = Unit {0}
IsLoop (st.Do' b s e) = Unit {0}
IsLoop (st.For' test step b s) = Unit {0}
IsLoop _ = ⊥

abbrev turn_body : Core → (ℕ → List Value → RestingCall) → ℕ → Here → Stmt → Resting Completion
turn_body q call k here (st.While' e b (more_of-Stmt s end_of-Stmt)) = sm.when_test resting (Some (ex.eval resting q.layouts call here e)) (sm.exec resting q.layouts call here k s)
turn_body q call k here (st.Do' b (more_of-Stmt s end_of-Stmt) e) = resting.bind (sm.exec resting q.layouts call here k s) (sm.at_turn_end resting (sm.when_test resting (Some (ex.eval resting q.layouts call here e)) (resting.pure Next)))
turn_body q call k here (st.For' test step b (more_of-Stmt s end_of-Stmt)) = sm.when_test resting (option_map (ex.eval resting q.layouts call here) test) (resting.bind (sm.exec resting q.layouts call here k s) (sm.at_turn_end resting (sm.loop_step resting (option_map (ex.eval resting q.layouts call here) step))))
turn_body q call k here s = resting.pure Next

loop_turns : (q : Core) (call : ℕ → List Value → RestingCall) (k : ℕ) (here : Here) (s : Stmt) → IsLoop s → sm.exec resting q.layouts call here k s ≡ sm.turns resting here (turn_body q call k here s) k
loop_turns q call k here (st.While' e b (more_of-Stmt s end_of-Stmt)) h = refl
loop_turns q call k here (st.Do' b (more_of-Stmt s end_of-Stmt) e) h = refl
loop_turns q call k here (st.For' test step b (more_of-Stmt s end_of-Stmt)) h = refl
loop_turns q call k here st.Empty h = absurd h
loop_turns q call k here (st.Eval _) h = absurd h
loop_turns q call k here (st.Init _ _ _ _) h = absurd h
loop_turns q call k here (st.Block' _ _) h = absurd h
loop_turns q call k here (st.If' _ _ _ _ _) h = absurd h
loop_turns q call k here st.Break h = absurd h
loop_turns q call k here st.Continue h = absurd h
loop_turns q call k here (st.Return _) h = absurd h
loop_turns q call k here (st.Ghost _) h = absurd h
loop_turns q call k here (st.Assert _ _ _) h = absurd h

loop_turning : (q : Core) (call : ℕ → List Value → RestingCall) (k : ℕ) (s : Stmt) → IsLoop s → (m : Configuration) (input : List ℕ) → rest_of q call k (turns.turning s (ready m)) input ≡ turn_body q call k m.context.here s (pending.completion_to (pending.resume q call k m.work) m.context) (state_of m input) m.context.registers
loop_turning q call k (st.While' e b (more_of-Stmt s end_of-Stmt)) h m input = refl
loop_turning q call k (st.Do' b (more_of-Stmt s end_of-Stmt) e) h m input = refl
loop_turning q call k (st.For' None None b (more_of-Stmt s end_of-Stmt)) h m input = refl
loop_turning q call k (st.For' None (Some f) b (more_of-Stmt s end_of-Stmt)) h m input = refl
loop_turning q call k (st.For' (Some e) None b (more_of-Stmt s end_of-Stmt)) h m input = refl
loop_turning q call k (st.For' (Some e) (Some f) b (more_of-Stmt s end_of-Stmt)) h m input = refl
loop_turning q call k st.Empty h m input = absurd h
loop_turning q call k (st.Eval _) h m input = absurd h
loop_turning q call k (st.Init _ _ _ _) h m input = absurd h
loop_turning q call k (st.Block' _ _) h m input = absurd h
loop_turning q call k (st.If' _ _ _ _ _) h m input = absurd h
loop_turning q call k st.Break h m input = absurd h
loop_turning q call k st.Continue h m input = absurd h
loop_turning q call k (st.Return _) h m input = absurd h
loop_turning q call k (st.Ghost _) h m input = absurd h
loop_turning q call k (st.Assert _ _ _) h m input = absurd h

module _ (q : Core) (n : ℕ) (call call' : ℕ → List Value → RestingCall) (h : (g : ℕ) (vs : List Value) → SameCall Alike alike_counts n (call g vs) (call' g vs)) (k k' : ℕ) (le : n ≤ k) (le' : n ≤ k') (here : Here) where
  body_alike : (s : Stmt) → Same Alike alike_counts n (turn_body q call k here s) (turn_body q call' k' here s)
  body_alike (st.While' e b (more_of-Stmt s end_of-Stmt)) = same_when Alike alike_counts n q.layouts here call call' h k k' le le' (Some e) (same_exec Alike alike_counts n q.layouts here call call' h k k' le le' s)
  body_alike (st.Do' b (more_of-Stmt s end_of-Stmt) e) = same_bind Alike alike_counts n (same_exec Alike alike_counts n q.layouts here call call' h k k' le le' s) (same_at_end Alike alike_counts n (same_when Alike alike_counts n q.layouts here call call' h k k' le le' (Some e) (same_pure Alike alike_counts n Next)))
  body_alike (st.For' test step b (more_of-Stmt s end_of-Stmt)) = same_when Alike alike_counts n q.layouts here call call' h k k' le le' test (same_bind Alike alike_counts n (same_exec Alike alike_counts n q.layouts here call call' h k k' le le' s) (same_at_end Alike alike_counts n (same_step_of Alike alike_counts n q.layouts here call call' h k k' le le' step)))
  body_alike _ = same_pure Alike alike_counts n Next

-- a loop at its start or after a turn
abbrev pub looping : Stmt → Configuration → Configuration
looping s m = turns.pushed (pending.Pass (pending.Again s)) (ready m)

pub loop_makes : (q : Core) (s : Stmt) → IsLoop s → (m : Configuration) (input : List ℕ) (n : ℕ) → rest q (looping s m) input (suc n) ≡ Then (step_by m.context.here act.Turn m.memory) (rest q (turns.turning s (looping s m)) input n)
unfolding rest
loop_makes q s is m input n =
    let k2 = suc (suc n) in
    let k1 = suc n in
    let c2 = calls_at q k2 k2 in
    let c1 = calls_at q k1 k1 in
    let here = m.context.here in
    let cc' = alike_calls q k1 k2 k2 k1 k1 (omega arith) (omega arith) (omega arith) (omega arith) in
    let bodies : Same Alike alike_counts k1 (turn_body q c2 k2 here s) (turn_body q c1 k1 here s) = body_alike q k1 c2 c1 cc' k2 k1 (omega arith) (omega arith) here s in
    let below = λ (j : ℕ) (jl : j ≤ k1). resume_alike Alike alike_counts q k1 c2 c1 cc' k2 k1 (omega arith) (omega arith) m.work j (omega arith) in
    let rest2 = pending.completion_to (pending.resume q c2 k2 m.work) m.context in
    let rest1 = pending.completion_to (pending.resume q c1 k1 m.work) m.context in
    let old : rest_of q c2 k2 (looping s m) input ≡ sm.turns resting here (turn_body q c2 k2 here s) k2 rest2 (state_of m input) m.context.registers = ap (λ (d : Resting Completion). d rest2 (state_of m input) m.context.registers) (loop_turns q c2 k2 here s is) in
    let new : rest_of q c1 k1 (turns.turning s (looping s m)) input ≡ resting.bind (turn_body q c1 k1 here s) (sm.after_turn resting (sm.turns resting here (turn_body q c1 k1 here s) k1)) rest1 (state_of m input) m.context.registers =
    loop_turning q c1 k1 s is (looping s m) input ∙ ap (λ (d : Resting Completion). resting.bind (turn_body q c1 k1 here s) (sm.after_turn resting d) rest1 (state_of m input) m.context.registers) (loop_turns q c1 k1 here s is) in
    let turn : Same Alike alike_counts k1 (resting.bind (turn_body q c2 k2 here s) (sm.after_turn resting (sm.turns resting here (turn_body q c2 k2 here s) k1))) (resting.bind (turn_body q c1 k1 here s) (sm.after_turn resting (sm.turns resting here (turn_body q c1 k1 here s) k1))) =
    same_bind Alike alike_counts k1 bodies (same_after_turn Alike alike_counts k1 (same_turns Alike alike_counts k1 here bodies k1 k1 (omega arith) (omega arith))) in
    let alike = turn.by k1 (omega arith) rest2 rest1 (λ j jl l s r. below j jl (pending.Left l) (record m.context { registers = r }) s) (state_of m input) m.context.registers in
    ap (first_items k1) old ∙ ap (Then (step_by here act.Turn m.memory)) (from_alike n _ _ alike ∙ ap (first_items n) (sym new))

-- ---- the start of an activation

abbrev pub entering : ℕ → ℕ → Configuration → Configuration
entering g i m = turns.pushed (pending.Enter g i) (ready m)

abbrev pub arguments_of : ℕ → Configuration → List Value
arguments_of i m = pending.reversed_onto (take i m.context.arguments) []

-- the run from there, once the function and its body are found
entered_by : (q : Core) (g i : ℕ) (f : Function) (body : List Stmt) → slice_get q.functions g ≡ Some f → f.body ≡ Some body → (d k : ℕ) (next : Value → State → Trace) (s : State) (vs : List Value) →
    ca.calls resting q k (suc d) g vs next s ≡ ca.activation resting q k (ca.calls resting q k d) g f body vs (λ v s r. next v s) s (unset_registers f.registers)
entered_by q g i f body found has d k next s vs =
    ap (λ (o : Option Function). ca.call_of resting q k (ca.calls resting q k d) g o vs next s) found ∙ ap (λ (o : Option (List Stmt)). ca.call_body resting q k (ca.calls resting q k d) g f o vs next s) has

-- an activation whose body is taken as two lists, the annotations that begin it and the rest
abbrev activation_by : Core → (ℕ → List Value → RestingCall) → ℕ → ℕ → Function → List Stmt → List Stmt → List Value → Resting Value
activation_by q call k g f begin after vs =
    resting.bind resting.get (λ s.
    let here : Here = record { function = g; activation = s.made } in
    resting.bind (ca.open_frame resting q.layouts f vs) (λ u.
    resting.bind (sm.exec_all resting q.layouts call here k begin) (λ c.
    resting.bind (resting.emit here (act.Enter g vs)) (λ u.
    resting.bind (sm.exec_all resting q.layouts call here k after) (λ c.
    resting.bind (ca.given_back resting here (g == q.start) f.result c) (λ v.
    resting.bind (resting.emit here (act.Return g v)) (λ u.
    resting.bind (ca.close_frame resting) (λ u.
    resting.pure (ca.value_or_zero v)))))))))

pub enter_makes : (q : Core) (g i : ℕ) (f : Function) (body : List Stmt) → slice_get q.functions g ≡ Some f → f.body ≡ Some body → ca.annotations body ≡ [] → ca.after_annotations body ≡ body → (m : Configuration) (input : List ℕ) (n : ℕ) →
    rest q (entering g i m) input (suc n) ≡ Then (step_by (turns.entered q g f body i m).context.here (act.Enter g (arguments_of i m)) (turns.entered q g f body i m).memory) (rest q (turns.entered q g f body i m) input n)
unfolding rest
enter_makes q g i f body found has none same m input n =
    let k2 = suc (suc n) in
    let k1 = suc n in
    let c2 = calls_at q k2 k2 in
    let inner = calls_at q k2 k1 in
    let c1 = calls_at q k1 k1 in
    let e = turns.entered q g f body i m in
    let vs = arguments_of i m in
    let step = step_by e.context.here (act.Enter g vs) e.memory in
    let outside = alike_calls q k1 k2 k2 k1 k1 (omega arith) (omega arith) (omega arith) (omega arith) in
    let inside = alike_calls q k1 k2 k1 k1 k1 (omega arith) (omega arith) (omega arith) (omega arith) in
    let next2 : pending.After = pending.resume q c2 k2 m.work in
    let next1 : pending.After = pending.resume q c1 k1 m.work in
    let below : (j : ℕ) → j ≤ k1 → Onward Alike alike_counts q k1 c2 c1 outside k2 k1 (omega arith) (omega arith) j next2 next1 = λ j jl. resume_alike Alike alike_counts q k1 c2 c1 outside k2 k1 (omega arith) (omega arith) m.work j (omega arith) in
    let leave2 : pending.After = λ t c s. pending.does q inner k2 (pending.Leave g f.result) t c s next2 in
    let leave1 : pending.After = λ t c s. pending.does q c1 k1 (pending.Leave g f.result) t c s next1 in
    let leaves = λ (j : ℕ) (jl : j ≤ k1). part_alike Alike alike_counts q k1 inner c1 inside k2 k1 (omega arith) (omega arith) (pending.Leave g f.result) j (omega arith) next2 next1 (λ i il. below i (omega arith)) in
    let alike = part_alike Alike alike_counts q k1 inner c1 inside k2 k1 (omega arith) (omega arith) (pending.Pass (pending.Rest body)) k1 (omega arith) leave2 leave1 leaves e.told e.context (state_of e input) in
    let opened : rest_of q c2 k2 (entering g i m) input ≡ ca.activation resting q k2 inner g f body vs (λ v s r. next2 (pending.Gave v) (record m.context { arguments = drop i m.context.arguments }) s) (state_of m input) (unset_registers f.registers) =
    entered_by q g i f body found has k1 k2 (λ v s. next2 (pending.Gave v) (record m.context { arguments = drop i m.context.arguments }) s) (state_of m input) vs in
    let back : Value → State → Registers → Trace = λ v s r. next2 (pending.Gave v) (record m.context { arguments = drop i m.context.arguments }) s in
    let plain : ca.activation resting q k2 inner g f body vs back (state_of m input) (unset_registers f.registers) ≡ activation_by q inner k2 g f [] body vs back (state_of m input) (unset_registers f.registers) =
    ap (λ (l : List Stmt). activation_by q inner k2 g f l (ca.after_annotations body) vs back (state_of m input) (unset_registers f.registers)) none
    ∙ ap (λ (l : List Stmt). activation_by q inner k2 g f [] l vs back (state_of m input) (unset_registers f.registers)) same in
    ap (first_items k1) (opened ∙ plain) ∙ ap (Then step) (from_alike n _ _ alike)

-- ---- the turn at a pending part

-- no input, start of an activation or of a loop's turn
abbrev pub IsPlain : pending.Pending → pending.Told → Type 0
IsPlain pending.Input (pending.Left Next) = ⊥
IsPlain (pending.Enter f n) (pending.Left Next) = ⊥
IsPlain (pending.Pass x) (pending.Left l) = IsSettled x l
IsPlain (pending.Over f) t = ⊥
IsPlain p t = Unit {0}

pub plain_turn : (q : Core) (p : pending.Pending) (t : pending.Told) → IsPlain p t → (m : Configuration) →
    IsTurn q (turns.pushed p (turns.telling t m)) (turn_at q p t (turns.telling t m)).step (turn_at q p t (turns.telling t m)).after
plain_turn q (pending.Evaluate e) (pending.Left Next) h m call k input = evaluates q call k e (turns.telling (pending.Left Next) m) input
plain_turn q (pending.Evaluate e) (pending.Left Broken) h m call k input = refl
plain_turn q (pending.Evaluate e) (pending.Left Continued) h m call k input = refl
plain_turn q (pending.Evaluate e) (pending.Left (Returned v)) h m call k input = refl
plain_turn q (pending.Evaluate e) (pending.Gave v) h m call k input = refl
plain_turn q (pending.Evaluate e) (pending.Found l) h m call k input = refl
plain_turn q (pending.Locate p) (pending.Left Next) h m call k input = locates q call k p (turns.telling (pending.Left Next) m) input
plain_turn q (pending.Locate p) (pending.Left Broken) h m call k input = refl
plain_turn q (pending.Locate p) (pending.Left Continued) h m call k input = refl
plain_turn q (pending.Locate p) (pending.Left (Returned v)) h m call k input = refl
plain_turn q (pending.Locate p) (pending.Gave v) h m call k input = refl
plain_turn q (pending.Locate p) (pending.Found l) h m call k input = refl
plain_turn q (pending.Execute s) (pending.Left Next) h m call k input = executes q call k s (turns.telling (pending.Left Next) m) input
plain_turn q (pending.Execute s) (pending.Left Broken) h m call k input = refl
plain_turn q (pending.Execute s) (pending.Left Continued) h m call k input = refl
plain_turn q (pending.Execute s) (pending.Left (Returned v)) h m call k input = refl
plain_turn q (pending.Execute s) (pending.Gave v) h m call k input = refl
plain_turn q (pending.Execute s) (pending.Found l) h m call k input = refl
plain_turn q (pending.Operate o) (pending.Gave v) h m call k input = operates q call k o v (turns.telling (pending.Gave v) m) input
plain_turn q (pending.Operate o) (pending.Found l) h m call k input = refl
plain_turn q (pending.Operate o) (pending.Left l) h m call k input = refl
plain_turn q (pending.Accessed a) (pending.Found l) h m call k input = accesses q call k a l (turns.telling (pending.Found l) m) input
plain_turn q (pending.Accessed a) (pending.Gave v) h m call k input = refl
plain_turn q (pending.Accessed a) (pending.Left l) h m call k input = refl
plain_turn q (pending.Select x) (pending.Found l) h m call k input = selects q call k x l (turns.telling (pending.Found l) m) input
plain_turn q (pending.Select x) (pending.Gave v) h m call k input = refl
plain_turn q (pending.Select x) (pending.Left l) h m call k input = refl
plain_turn q (pending.Designate x) (pending.Gave v) h m call k input = designates q call k x v (turns.telling (pending.Gave v) m) input
plain_turn q (pending.Designate x) (pending.Found l) h m call k input = refl
plain_turn q (pending.Designate x) (pending.Left l) h m call k input = refl
plain_turn q (pending.Conclude x) (pending.Gave v) h m call k input = concludes q call k x v (turns.telling (pending.Gave v) m) input
plain_turn q (pending.Conclude x) (pending.Found l) h m call k input = refl
plain_turn q (pending.Conclude x) (pending.Left l) h m call k input = refl
plain_turn q (pending.Pass x) (pending.Left l) h m call k input = passes q call k x l h (turns.telling (pending.Left l) m) input
plain_turn q (pending.Pass x) (pending.Gave v) h m call k input = refl
plain_turn q (pending.Pass x) (pending.Found l) h m call k input = refl
plain_turn q pending.Input (pending.Left Next) h m call k input = absurd h
plain_turn q pending.Input (pending.Left Broken) h m call k input = refl
plain_turn q pending.Input (pending.Left Continued) h m call k input = refl
plain_turn q pending.Input (pending.Left (Returned v)) h m call k input = refl
plain_turn q pending.Input (pending.Gave v) h m call k input = refl
plain_turn q pending.Input (pending.Found l) h m call k input = refl
plain_turn q pending.Output (pending.Gave v) h m call k input = refl
plain_turn q pending.Output (pending.Found l) h m call k input = refl
plain_turn q pending.Output (pending.Left l) h m call k input = refl
plain_turn q (pending.Arguments f es n) (pending.Left Next) h m call k input = argues q call k f es n (turns.telling (pending.Left Next) m) input
plain_turn q (pending.Arguments f es n) (pending.Left Broken) h m call k input = refl
plain_turn q (pending.Arguments f es n) (pending.Left Continued) h m call k input = refl
plain_turn q (pending.Arguments f es n) (pending.Left (Returned v)) h m call k input = refl
plain_turn q (pending.Arguments f es n) (pending.Gave v) h m call k input = refl
plain_turn q (pending.Arguments f es n) (pending.Found l) h m call k input = refl
plain_turn q (pending.Argument f es n) (pending.Gave v) h m call k input = refl
plain_turn q (pending.Argument f es n) (pending.Found l) h m call k input = refl
plain_turn q (pending.Argument f es n) (pending.Left l) h m call k input = refl
plain_turn q (pending.Enter f n) (pending.Left Next) h m call k input = absurd h
plain_turn q (pending.Enter f n) (pending.Left Broken) h m call k input = refl
plain_turn q (pending.Enter f n) (pending.Left Continued) h m call k input = refl
plain_turn q (pending.Enter f n) (pending.Left (Returned v)) h m call k input = refl
plain_turn q (pending.Enter f n) (pending.Gave v) h m call k input = refl
plain_turn q (pending.Enter f n) (pending.Found l) h m call k input = refl
plain_turn q (pending.Leave g f) (pending.Left l) h m call k input = gives_back q call k g (g == q.start) f l (turns.telling (pending.Left l) m) input
plain_turn q (pending.Leave g f) (pending.Gave v) h m call k input = refl
plain_turn q (pending.Leave g f) (pending.Found l) h m call k input = refl
plain_turn q (pending.Halt f) (pending.Gave v) h m call k input = refl
plain_turn q (pending.Halt f) (pending.Found l) h m call k input = refl
plain_turn q (pending.Halt f) (pending.Left l) h m call k input = refl
plain_turn q (pending.Over f) t h m call k input = absurd h
plain_turn q pending.Ignore (pending.Gave v) h m call k input = refl
plain_turn q pending.Ignore (pending.Found l) h m call k input = refl
plain_turn q pending.Ignore (pending.Left l) h m call k input = refl
