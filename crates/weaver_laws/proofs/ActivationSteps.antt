-- Steps of an activation, in the source and in the woven program.
use Rattle.std.specs.List.{AllByRecursion}
use Rattle.std.proofs.Common.{◌≡◌, ℕ, ◌≤◌, ◌<◌, Bool, true, false, ◌&&◌, ◌==◌, List, [], ◌++◌, map, Option, Some, None, refl, sym, subst, ap, ap₂, ◌∙◌, arith}
use Rattle.std.specs.Prelude.{is_some}
use Rattle.std.proofs.lemmas.Bool.{eqb-true}
use Rattle.step_meaning.specs.declared.value.Value.{Value}
use Rattle.step_meaning.specs.declared.value.Action.{Action}
use Rattle.step_meaning.specs.declared.predicate.Event.TheVariants as event
use Rattle.step_meaning.specs.declared.stmt.Stmt.{Stmt}
use Rattle.step_meaning.specs.declared.program.Core.{Core}
use Rattle.step_meaning.specs.declared.program.Hooks.{Hooks}
use Rattle.step_meaning.specs.declared.program.HookPlace.TheVariants as place
use Rattle.step_meaning.specs.Memory.{Memory, Frame, frame_of}
use Rattle.step_meaning.specs.Steps.{Step, Verdict, Made, Trace, Then}
use Rattle.step_meaning.specs.State.{State, Here, Registers}
use Rattle.step_meaning.specs.Views.{Sight, no_memory}
use Rattle.step_meaning.specs.Flow.{RestingCall, resting}
use Rattle.step_meaning.specs.Statements.{Completion, exec_all}
use Rattle.step_meaning.specs.Verdicts.{accept_verdicts}
use Rattle.step_meaning.specs.Fit.{is_enter_place}
use Rattle.step_meaning.specs.Fold.{ghosts_after_code, verdicts_of_code, cells_at, with_new_frame, unset_saves}
use Rattle.weaver_laws.specs.Weaving.{Substitution, code_for, code_before}
use Rattle.weaver_laws.proofs.HookSights.{StepParts, sight_in_fold, SubstitutesStep}
use Rattle.weaver_laws.proofs.InsideMemories.{MemoryInside}
use Rattle.weaver_laws.proofs.GhostFrames.{image, OthersUnchanged}
use Rattle.weaver_laws.proofs.TraceSimulation.{all_safe, all_safe_append, accept_append, VerdictsMatch, step_parts, CodeFits, code_after, IsProper, TraceSimulated, step_verdicts, step_ghosts, code_simulated}
use Rattle.weaver_laws.proofs.ChangedCode.{place_of, code_at_place, PointReady, code_for_fits, AreChangedAssertions, changed_assertions, changed_implied}

-- ---- truths

matched : (a f s g : Bool) → (f ≡ true → s ≡ true) → (s && (a && g)) ≡ (s && g) → ((a && f) && g) ≡ (f && g)
matched true f s g i e = refl
matched false false s g i e = refl
matched false true s g i e = subst (λ s. (s && false) ≡ (s && g)) (i refl) e

pub asserted_so : (a s g : Bool) → (s && (a && g)) ≡ (s && g) → ((a && s) && g) ≡ (s && g)
asserted_so true s g e = refl
asserted_so false true g e = e
asserted_so false false g e = refl

after_so : (f s g : Bool) → (f ≡ true → s ≡ true) → (f && g) ≡ (s && (f && g))
after_so true s g i = subst (λ s. g ≡ (s && g)) (sym (i refl)) refl
after_so false true g i = refl
after_so false false g i = refl

open_so : (a s g : Bool) → (a && g) ≡ (s && g) → (s && (a && g)) ≡ (s && g)
open_so a true g e = e
open_so a false g e = refl

abbrev pub no_parts : StepParts
no_parts = record { before = no_memory; accessed = None; called = None; event = event.Nothing; arguments = []; result = None }

abbrev pub numbers : List Frame → List ℕ
numbers fs = map (λ (f : Frame). f.activation) fs

module _ (p : Core) (h : Hooks) (j : ℕ) (IsTheirs : ℕ → Type 0) (ss : List Step) (ready : AllByRecursion (PointReady p h j IsTheirs ss) h.points) (here : Here) (outer : List Frame) where
  abbrev pub changed_statements : List Stmt
  changed_statements = code_for h.points here.function place.Changed

  changed_here : AreChangedAssertions p h j IsTheirs ss here.function changed_statements
  changed_here = changed_assertions p h j IsTheirs ss here.function h.points ready

  abbrev pub view : State → StepParts → Sight
  view s x = sight_in_fold p.layouts here s.memory [] no_memory x no_memory

  -- the truth, in the present memory, of what holds at every step
  abbrev pub invariant_truth : State → Memory → Bool
  invariant_truth s g = all_safe j (verdicts_of_code (view s no_parts) changed_statements g)

  -- between statements: some of it was asserted since the last step
  pub record PartlyAsserted (s : State) (g : Memory) (good : Bool) (vs : List Verdict) : Type 0 where
    pub truths : MemoryInside s.memory → (invariant_truth s g && (all_safe j vs && good)) ≡ (invariant_truth s g && good)
    pub accepted : accept_verdicts j vs ≡ []

  -- all of it was asserted in this memory
  pub record Asserted (s : State) (g : Memory) (good : Bool) (vs : List Verdict) : Type 0 where
    pub truths : MemoryInside s.memory → (all_safe j vs && good) ≡ (invariant_truth s g && good)
    pub accepted : accept_verdicts j vs ≡ []

  pub exact_open : (s : State) (g : Memory) (good : Bool) → PartlyAsserted s g good []
  exact_open s g good = record { truths = λ i. refl; accepted = refl }

  pub asserted_open : (s : State) (g : Memory) (good : Bool) (vs : List Verdict) → Asserted s g good vs → PartlyAsserted s g good vs
  asserted_open s g good vs a = record { truths = λ i. open_so (all_safe j vs) (invariant_truth s g) good (a.truths i); accepted = a.accepted }

  -- the fold's ghost variables in an activation
  pub record InBody (first : Memory) (s : State) (g : Memory) : Type 0 where
    pub inside : MemoryInside g
    pub own : is_some (frame_of here.activation g.frames) ≡ true
    pub below : (b : ℕ) → b < here.activation → frame_of b g.frames ≡ frame_of b first.frames
    pub bounded : AllByRecursion (λ n. n < s.made) (numbers g.frames)
    pub later : here.activation < s.made

  abbrev pub woven_state : State → Memory → State
  woven_state s g = record s { ghosts = image here.activation outer g }

  abbrev pub step : Action → State → Step
  step a s = record { action = a; function = here.function; activation = here.activation; memory = s.memory }

  abbrev pub fold_verdicts : Action → State → Memory → List Verdict
  fold_verdicts a s g = step_verdicts p h j IsTheirs ss (step a s) g

  abbrev pub fold_ghosts : Action → State → Memory → Memory
  fold_ghosts a s g = step_ghosts p h j IsTheirs ss (step a s) g

  abbrev pub SimulatedHere : Memory → Bool → List Verdict → Trace → Trace → Type 0
  SimulatedHere g good vs t u = TraceSimulated p h j IsTheirs ss g good vs t u

  with_new : (o : Option Frame) (f : Frame) (g : Memory) → is_some o ≡ true → with_new_frame p h o f g ≡ g
  with_new (Some x) f g e = refl
  with_new None f g e = absurd (no e)
    where
      no : false ≡ true → ⊥
      no e = cc

  cells_same : (a : Action) (s : State) (g : Memory) → is_some (frame_of here.activation g.frames) ≡ true → cells_at p h (step a s) g ≡ g
  cells_same a s g e = with_new (frame_of here.activation g.frames) (unset_saves p h (step a s)) g e

  pub verdicts_are : (a : Action) (s : State) (g : Memory) → is_some (frame_of here.activation g.frames) ≡ true → fold_verdicts a s g ≡ verdicts_of_code (view s (step_parts ss (step a s))) (code_for h.points here.function (place_of a)) g
  verdicts_are a s g e = ap₂ (λ c g. verdicts_of_code (view s (step_parts ss (step a s))) c g) (code_at_place h.points (step a s)) (cells_same a s g e)

  pub ghosts_are : (a : Action) (s : State) (g : Memory) → is_some (frame_of here.activation g.frames) ≡ true → fold_ghosts a s g ≡ ghosts_after_code (view s (step_parts ss (step a s))) (code_for h.points here.function (place_of a)) g
  ghosts_are a s g e = ap₂ (λ c g. ghosts_after_code (view s (step_parts ss (step a s))) c g) (code_at_place h.points (step a s)) (cells_same a s g e)

  less_apart : (b a : ℕ) → b < a → (b == a) ≡ false
  less_apart b a l = by (b == a) refl
    where
      by : (c : Bool) → (b == a) ≡ c → (b == a) ≡ false
      by true e = let k : b ≡ a = eqb-true b a e in absurd (omega arith)
      by false e = e

  kept_in : (first : Memory) (s : State) (g g' : Memory) → InBody first s g → MemoryInside g' → OthersUnchanged here.activation g g' → InBody first s g'
  kept_in first s g g' b i o =
      record {
        inside = i;
        own = o.own ∙ b.own;
        below = λ n l. o.frames n (less_apart n here.activation l) ∙ b.below n l;
        bounded = subst (λ ns. AllByRecursion (λ n. n < s.made) ns) (sym o.order) b.bounded;
        later = b.later;
      }

  -- ---- a step whose code stands before it

  module _ (a : Action) (inner : is_enter_place (place_of a) ≡ false) (s : State) (r : Registers) (st : Substitution) (m_in : MemoryInside s.memory)
      (substitutes : (base : Memory) → SubstitutesStep p.layouts here s.memory r base (step_parts ss (step a s)) (place_of a) here.function st) where
    abbrev x : StepParts
    x = step_parts ss (step a s)

    abbrev pub code : List Stmt
    code = code_for h.points here.function (place_of a)

    pub code_fits : CodeFits p h j IsTheirs ss (place_of a) here.function code
    code_fits = code_for_fits p h j IsTheirs ss (place_of a) here.function h.points ready

    leaves : (c : List Stmt) → CodeFits p h j IsTheirs ss (place_of a) here.function c → (g : Memory) → MemoryInside g → MemoryInside (ghosts_after_code (view s x) c g) × ((ghosts_after_code (view s x) c g).frames ≡ g.frames)
    leaves c fits g i = let k = code_after p h j IsTheirs ss here s r x (place_of a) here.function st substitutes m_in outer c fits g i in (k.inside, k.saves inner)

    implied : (g g0 : Memory) → MemoryInside g → MemoryInside g0 → g.frames ≡ g0.frames → all_safe j (verdicts_of_code (view s x) code g) ≡ true → invariant_truth s g0 ≡ true
    implied g g0 i i0 e t = changed_implied p h j IsTheirs ss here s.memory here.function m_in (place_of a) inner x no_parts leaves h.points ready g g0 i i0 e t

    pub stepped : (first g : Memory) → InBody first s g → InBody first s (fold_ghosts a s g)
    stepped first g b =
        let k = code_after p h j IsTheirs ss here s r x (place_of a) here.function st substitutes m_in outer code code_fits g b.inside in
        subst (λ g'. InBody first s g') (sym (ghosts_are a s g b.own)) (kept_in first s g (ghosts_after_code (view s x) code g) b k.inside k.others)

    -- where the memory stays as it is, what holds at every step was asserted
    pub asserted_after : (first g : Memory) (good : Bool) → InBody first s g → Asserted s (fold_ghosts a s g) (all_safe j (fold_verdicts a s g) && good) []
    asserted_after first g good b =
        let k = code_after p h j IsTheirs ss here s r x (place_of a) here.function st substitutes m_in outer code code_fits g b.inside in
        let g' = ghosts_after_code (view s x) code g in
        record {
          truths = λ i. subst (λ g'. (all_safe j (fold_verdicts a s g) && good) ≡ (invariant_truth s g' && (all_safe j (fold_verdicts a s g) && good))) (sym (ghosts_are a s g b.own))
              (after_so (all_safe j (fold_verdicts a s g)) (invariant_truth s g') good (λ t. implied g g' b.inside k.inside (sym (k.saves inner)) (ap (λ vs. all_safe j vs) (sym (verdicts_are a s g b.own)) ∙ t)));
          accepted = refl;
        }

    pub matches : (first g : Memory) (good : Bool) (vs : List Verdict) → InBody first s g → PartlyAsserted s g good vs → VerdictsMatch j good (vs ++ verdicts_of_code (view s x) code g) (verdicts_of_code (view s x) code g)
    matches first g good vs b o =
        let ws = verdicts_of_code (view s x) code g in
        record {
          truths = ap (λ c. c && good) (all_safe_append j vs ws) ∙ matched (all_safe j vs) (all_safe j ws) (invariant_truth s g) good (λ t. implied g g b.inside b.inside refl t) (o.truths m_in);
          accepted = accept_append j vs ws ∙ ap (λ l. l ++ accept_verdicts j ws) o.accepted;
        }

    pub announce : (call : ℕ → List Value → RestingCall) (bound : ℕ) (first g : Memory) (good : Bool) (vs : List Verdict) → InBody first s g → PartlyAsserted s g good vs
        → (t : Trace) (tail : List Stmt) (rest : Completion → State → Registers → Trace) (u : Memory → Trace)
        → ((G : Memory) → exec_all resting p.layouts call here bound tail rest (record s { ghosts = G }) r ≡ Then (Made (step a s)) (u G))
        → SimulatedHere (fold_ghosts a s g) (all_safe j (fold_verdicts a s g) && good) [] t (u (image here.activation outer (fold_ghosts a s g)))
        → SimulatedHere g good vs (Then (Made (step a s)) t) (exec_all resting p.layouts call here bound (code_before h.points here.function (place_of a) st ++ tail) rest (woven_state s g) r)
    announce call bound first g good vs b o t tail rest u runs l =
        let g' = ghosts_after_code (view s x) code g in
        let ws = verdicts_of_code (view s x) code g in
        code_simulated p h j IsTheirs ss here s r x (place_of a) here.function st substitutes m_in outer call bound code code_fits g good vs g b.inside (Then (Made (step a s)) t) tail rest
        (subst (λ u'. SimulatedHere g good (vs ++ ws) (Then (Made (step a s)) t) u') (sym (runs (image here.activation outer g'))) (
          refl,
          subst (λ ws'. VerdictsMatch j good (vs ++ ws) ws') (sym (verdicts_are a s g b.own)) (matches first g good vs b o),
          subst (λ g'. SimulatedHere (fold_ghosts a s g) (all_safe j (fold_verdicts a s g) && good) [] t (u (image here.activation outer g'))) (ghosts_are a s g b.own) l,
        ))

-- ---- calls

module _ (p : Core) (h : Hooks) (j : ℕ) (IsTheirs : ℕ → Type 0) (ss : List Step) where
  abbrev pub below : Memory → List Frame → Memory
  below g outer = record g { frames = outer }

  -- what comes after a call in which only frames of later activations changed
  abbrev pub CallerSimulated : State → Memory → List Frame → (Value → State → Trace) → (Value → State → Trace) → Type 0
  CallerSimulated s g outer rest rest' =
      (v : Value) (s' : State) (g' : Memory) (good : Bool) → MemoryInside g' → AllByRecursion (λ n. n < s'.made) (numbers g'.frames) → s.made ≤ s'.made → ((b : ℕ) → b < s.made → frame_of b g'.frames ≡ frame_of b g.frames)
      → IsProper p false (rest v s') → TraceSimulated p h j IsTheirs ss g' good [] (rest v s') (rest' v (record s' { ghosts = below g' outer }))

  pub record CallsSimulated (source_call woven_call : ℕ → List Value → RestingCall) : Type 0 where
    pub by : (f : ℕ) (vs : List Value) (s : State) (g : Memory) (outer : List Frame) (good : Bool) → MemoryInside g → AllByRecursion (λ n. n < s.made) (numbers g.frames) → (rest rest' : Value → State → Trace) → CallerSimulated s g outer rest rest'
        → IsProper p false (source_call f vs rest s) → TraceSimulated p h j IsTheirs ss g good [] (source_call f vs rest s) (woven_call f vs rest' (record s { ghosts = below g outer }))
