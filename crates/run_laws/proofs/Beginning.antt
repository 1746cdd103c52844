-- The start of an activation in a machine that runs: its function is there, its step is a step of the run, and what it needs is counted.
use Rattle.std.proofs.Common.{◌≡◌, ℕ, suc, ◌+◌, ◌<◌, ◌≤◌, true, List, [], ◌∷◌, length, take, Option, Some, None, refl, sym, ap, subst, ◌∙◌, arith}
use Rattle.std.specs.Prelude.{slice_get, is_some}
use Rattle.std.proofs.lemmas.List.Sums.{sum_by-cons}
use Rattle.step_meaning.specs.declared.value.Action.TheVariants as act
use Rattle.step_meaning.specs.declared.stmt.Stmt.{Stmt}
use Rattle.step_meaning.specs.declared.program.Core.{Core}
use Rattle.step_meaning.specs.declared.program.Function.{Function}
use Rattle.step_meaning.specs.Calls.{first_frame}
use Rattle.step_meaning.specs.ExpressionTypes.{has_body}
use Rattle.step_meaning.specs.Flow.{step_by}
use Rattle.step_meaning.specs.Limits.{chunks, frame_chunks}
use Rattle.step_meaning.specs.Statements.{Next, Broken, Continued, Returned}
use Rattle.step_meaning.specs.Steps.{Then}
use Rattle.step_meaning.proofs.Ranges.{false_is_not_true}
use Rattle.run_memory.specs.Storage.{variables_chunks}
use Rattle.run_memory.proofs.OpenLaws.{variables_are}
use Rattle.run_turns.specs.Lists.{reversed_onto}
use Rattle.run_turns.specs.Pending as pending
use Rattle.run_turns.specs.Rest.{rest}
use Rattle.run_turns.specs.Turns.{Configuration, entered, pushed}
use Rattle.run_turns.specs.Typed.{Takes}
use Rattle.run_turns.proofs.Steps.{enter_makes}
use Rattle.run_state.specs.Machine.{Fixed, body_in, body_of}
use Rattle.run_start.specs.Running.{Runs}
use Rattle.run_steps.specs.Turning.{begun}
use Rattle.run_laws.proofs.Entering.{begins_bare, enter_takes, enters, is_bare_body}

-- ---- its body

body_there : (o : Option (List Stmt)) → is_some o ≡ true → (body : List Stmt) × (o ≡ Some body)
body_there None e = false_is_not_true e
body_there (Some body) e = (body, refl)

body_found : (q : Core) (g : ℕ) (fn : Function) (body : List Stmt) → slice_get q.functions g ≡ Some fn → fn.body ≡ Some body → body_of q g ≡ body
body_found q g fn body found has = ap body_in found ∙ ap (λ (o : Option (List Stmt)). body_in (Some (record fn { body = o }))) has

-- ---- chunks

-- those of its variables come to the others
pub entered_chunks : (q : Core) (g : ℕ) (fn : Function) (body : List Stmt) (n : ℕ) (m : Configuration) → chunks (entered q g fn body n m).memory ≡ chunks m.memory + variables_chunks q.layouts fn.locals
entered_chunks q g fn body n m =
    let frame = first_frame q.layouts fn m.made (reversed_onto (take n m.context.arguments) []) in
    let more = sum_by-cons frame_chunks frame m.memory.frames in
    let its : frame_chunks frame ≡ variables_chunks q.layouts fn.locals = variables_are q.layouts m.made fn.locals (reversed_onto (take n m.context.arguments) []) in
    omega (arith, more, its)

-- ---- the start

module _ (steps : ℕ) (f : Fixed) (g n : ℕ) (m : Configuration) (r : Runs steps f (pushed (pending.Enter g n) m)) where
  -- nothing else was told
  told_by : (fs : List Function) (t : pending.Told) → Takes f.core fs m.context.arguments (pending.Enter g n ∷ m.work) t → t ≡ pending.Left Next
  told_by [] (pending.Gave v) k = absurd k
  told_by [] (pending.Found l) k = absurd k
  told_by [] (pending.Left Next) k = refl
  told_by [] (pending.Left Broken) k = absurd k
  told_by [] (pending.Left Continued) k = absurd k
  told_by [] (pending.Left (Returned v)) k = absurd k
  told_by (x ∷ xs) (pending.Gave v) k = absurd k
  told_by (x ∷ xs) (pending.Found l) k = absurd k
  told_by (x ∷ xs) (pending.Left Next) k = refl
  told_by (x ∷ xs) (pending.Left Broken) k = absurd k
  told_by (x ∷ xs) (pending.Left Continued) k = absurd k
  told_by (x ∷ xs) (pending.Left (Returned v)) k = absurd k

  told : m.told ≡ pending.Left Next
  told = told_by r.functions m.told r.typed.1

  -- its function
  pub callee : (fn : Function) × (slice_get f.core.functions g ≡ Some fn) × (has_body fn ≡ true)
  callee = let k = enter_takes f.core r.functions m.context.arguments g n m.work (subst (λ t. Takes f.core r.functions m.context.arguments (pending.Enter g n ∷ m.work) t) told r.typed.1) in (k.0, k.1, k.2)

  module _ (fn : Function) (found : slice_get f.core.functions g ≡ Some fn) (there : has_body fn ≡ true) where
    abbrev body : List Stmt
    body = (body_there fn.body there).0

    has : fn.body ≡ Some body
    has = (body_there fn.body there).1

    -- the machine runs on, where its limits allow it
    pub begins : length m.context.callers < f.calls → length fn.locals ≤ 4194304 → Runs (suc steps) (begun (length fn.registers) f) (entered f.core g fn (body_of f.core g) n m)
    begins calls locals = subst (λ ss. Runs (suc steps) (begun (length fn.registers) f) (entered f.core g fn ss n m)) (sym (body_found f.core g fn body found has)) (enters steps f g n m fn body found has r told calls locals)

    -- its step is a step of the run
    abbrev pub BeginFollows : List Stmt → Configuration → Type 0
    BeginFollows ss old =
        (input : List ℕ) (k : ℕ) → rest f.core old input (suc k)
        ≡ Then (step_by (entered f.core g fn ss n m).context.here (act.Enter g (reversed_onto (take n m.context.arguments) [])) (entered f.core g fn ss n m).memory) (rest f.core (entered f.core g fn ss n m) input k)

    pub begin_follows : BeginFollows (body_of f.core g) (pushed (pending.Enter g n) m)
    begin_follows =
        let bare = begins_bare body (is_bare_body f.core r.program g fn found body has) in
        subst (λ ss. BeginFollows ss (pushed (pending.Enter g n) m)) (sym (body_found f.core g fn body found has))
        (subst (λ t. BeginFollows body (pushed (pending.Enter g n) (record m { told = t }))) (sym told)
        (λ input k. enter_makes f.core g n fn body found has bare.0 bare.1 m input k))
