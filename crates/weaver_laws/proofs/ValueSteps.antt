-- Steps that give a value: a read, input and output, in the source and, with the code before them, in the woven program.
use Rattle.std.specs.List.{AllByRecursion}
use Rattle.std.proofs.Common.{length, suc, ◌≡◌, ℕ, Bool, true, false, ◌&&◌, List, [], ◌∷◌, ◌++◌, Option, Some, None, refl, sym, subst, ◌∙◌}
use Rattle.std.specs.Prelude.{pos, negsuc, ◌%◌}
use Rattle.step_meaning.specs.declared.value.Value.{Value}
use Rattle.step_meaning.specs.declared.value.Action.{Action}
use Rattle.step_meaning.specs.declared.value.Action.TheVariants as act
use Rattle.step_meaning.specs.declared.stmt.Stmt.{Stmt}
use Rattle.step_meaning.specs.declared.program.Core.{Core}
use Rattle.step_meaning.specs.declared.program.Hooks.{Hooks}
use Rattle.step_meaning.specs.declared.program.HookPlace.{HookPlace}
use Rattle.step_meaning.specs.declared.program.HookPlace.TheVariants as place
use Rattle.step_meaning.specs.declared.value.CType.{CType}
use Rattle.step_meaning.specs.declared.value.Cell.{Cell}
use Rattle.step_meaning.specs.declared.value.Cell.TheVariants.{Nothing, Holds}
use Rattle.step_meaning.specs.declared.value.Value.TheVariants as value
use Rattle.step_meaning.specs.declared.value.RunFault.TheVariants as fault
use Rattle.step_meaning.specs.declared.expr.Expr.{Expr, end_of-Expr, more_of-Expr}
use Rattle.step_meaning.specs.declared.expr.Expr.TheVariants as ex
use Rattle.step_meaning.specs.declared.expr.Place_.{Place_}
use Rattle.step_meaning.specs.Allocation as al
use Rattle.step_meaning.specs.Memory.{Block, with_block, freed, Memory, Frame, reached}
use Rattle.step_meaning.specs.Steps.{Step, Verdict, Made, Trace, Then}
use Rattle.step_meaning.specs.State.{State, Here, Registers, InRegister, At, register_at, set_register}
use Rattle.step_meaning.specs.StepViews.{called_by}
use Rattle.step_meaning.specs.Flow.{Resting, RestingCall, resting}
use Rattle.step_meaning.specs.Statements.{Completion, exec_all}
use Rattle.step_meaning.specs.Traced.{IsStepOf}
use Rattle.step_meaning.specs.Expressions.{eval}
use Rattle.step_meaning.specs.Accesses.{load, held_register, held, write_at, store, load_at, store_at, write_register}
use Rattle.step_meaning.specs.Normal.{is_operand, is_plain_place}
use Rattle.step_meaning.specs.Strict.{strict}
use Rattle.step_meaning.specs.Accesses as acc
use Rattle.step_meaning.specs.Names.{integer}
use Rattle.step_meaning.specs.Numbers.{low_bits}
use Rattle.step_meaning.specs.TypeRules.{is_scalar}
use Rattle.weaver_laws.specs.Weaving.{Substitution, code_for, code_before, access_substitution, call_substitution}
use Rattle.weaver_laws.proofs.HookSights.{SubstitutesStep}
use Rattle.weaver_laws.proofs.GhostFrames.{image}
use Rattle.weaver_laws.proofs.TraceSimulation.{all_safe, step_parts, IsProper, TraceSimulated}
use Rattle.weaver_laws.proofs.ChangedCode.{place_of, PointReady}
use Rattle.weaver_laws.proofs.ActivationSteps.{PartlyAsserted, Asserted, InBody, step, fold_verdicts, fold_ghosts, exact_open, stepped, asserted_after, announce}
use Rattle.weaver_laws.proofs.Operands.{step_inside, operand_value, place_value, operand_strict, operand_run, place_strict, place_run, place_term}
use Rattle.weaver_laws.proofs.StepStatements.{halted, PartSimulated, held_case, scalar_one, pointer_inside}
use Rattle.weaver_laws.proofs.Basics.{no_true}

module _ (p : Core) (h : Hooks) (j : ℕ) (IsTheirs : ℕ → Type 0) (ss : List Step) (ready : AllByRecursion (PointReady p h j IsTheirs ss) h.points) (here : Here) (outer : List Frame)
    (source_call woven_call : ℕ → List Value → RestingCall) (bound : ℕ) (first : Memory) where
  abbrev pub PartlyAssertedHere : State → Memory → Bool → List Verdict → Type 0
  PartlyAssertedHere = PartlyAsserted p h j IsTheirs ss ready here outer

  abbrev pub AssertedHere : State → Memory → Bool → List Verdict → Type 0
  AssertedHere = Asserted p h j IsTheirs ss ready here outer

  abbrev pub InBodyHere : State → Memory → Type 0
  InBodyHere = InBody p h j IsTheirs ss ready here outer first

  abbrev pub SimulatedHere : Memory → Bool → List Verdict → Trace → Trace → Type 0
  SimulatedHere g good vs t u = TraceSimulated p h j IsTheirs ss g good vs t u

  abbrev pub step_here : Action → State → Step
  step_here a s = step p h j IsTheirs ss ready here outer a s

  abbrev pub ghosts_here : Action → State → Memory → Memory
  ghosts_here a s g = fold_ghosts p h j IsTheirs ss ready here outer a s g

  abbrev pub verdicts_here : Action → State → Memory → List Verdict
  verdicts_here a s g = fold_verdicts p h j IsTheirs ss ready here outer a s g

  abbrev pub woven_state : State → Memory → State
  woven_state s g = record s { ghosts = image here.activation outer g }

  abbrev pub changed_statements : List Stmt
  changed_statements = code_for h.points here.function place.Changed

  abbrev pub run_source : List Stmt → Resting Completion
  run_source c = exec_all strict p.layouts source_call here bound c

  abbrev pub run_woven : List Stmt → Resting Completion
  run_woven c = exec_all resting p.layouts woven_call here bound c

  -- ---- a value, and what takes it after the step that gives it

  pub record ValueTaken (k k' : Value → State → Registers → Trace) : Type 0 where
    pub by : (v : Value) (s : State) (g : Memory) (good : Bool) (vs : List Verdict) (r : Registers) → InBodyHere s g → PartlyAssertedHere s g good vs → IsProper p false (k v s r) → SimulatedHere g good vs (k v s r) (k' v (woven_state s g) r)

  pub register_takes : (u : CType) (i : ℕ) (D : Resting Completion) (tail : List Stmt) (rest rest' : Completion → State → Registers → Trace) → PartSimulated p h j IsTheirs ss ready here outer source_call woven_call bound first rest rest' D (run_woven tail)
      → ValueTaken (λ v. store strict here u (InRegister i) v (λ x. D rest)) (λ v. store resting here u (InRegister i) v (λ x. run_woven tail rest'))
  register_takes u i D tail rest rest' simulated = record { by = λ v s g good vs r b o f. on v s g good vs r (register_at r i u) b o f }
    where
      on : (v : Value) (s : State) (g : Memory) (good : Bool) (vs : List Verdict) (r : Registers) (c : Option Cell) → InBodyHere s g → PartlyAssertedHere s g good vs
          → IsProper p false (write_register strict here i v c (λ x. D rest) s r) → SimulatedHere g good vs (write_register strict here i v c (λ x. D rest) s r) (write_register resting here i v c (λ x. run_woven tail rest') (woven_state s g) r)
      on v s g good vs r None b o f = no_true f
      on v s g good vs r (Some c) b o f = simulated.by s g good vs (set_register r i v) b o f

  pub nothing_takes : (D : Resting Completion) (tail : List Stmt) (rest rest' : Completion → State → Registers → Trace) → PartSimulated p h j IsTheirs ss ready here outer source_call woven_call bound first rest rest' D (run_woven tail) → ValueTaken (λ v. D rest) (λ v. run_woven tail rest')
  nothing_takes D tail rest rest' simulated = record { by = λ v s g good vs r b o f. simulated.by s g good vs r b o f }

  -- what is shown of the step that gives a value: its code stands before the statements T, which evaluate the expression
  abbrev pub ValueGiven : Expr → HookPlace → Substitution → Type 0
  ValueGiven e pl st =
      (k k' : Value → State → Registers → Trace) → ValueTaken k k' → (T : List Stmt) (rest' : Completion → State → Registers → Trace) → ((s : State) (r : Registers) → run_woven T rest' s r ≡ eval resting p.layouts woven_call here e k' s r)
      → (s : State) (g : Memory) (good : Bool) (vs : List Verdict) (r : Registers) → InBodyHere s g → PartlyAssertedHere s g good vs → IsProper p false (eval strict p.layouts source_call here e k s r)
      → SimulatedHere g good vs (eval strict p.layouts source_call here e k s r) (run_woven (code_before h.points here.function pl st ++ T) rest' (woven_state s g) r)

  -- ---- a read

  read_substitutes : (s : State) (r : Registers) (q : Place_) (u : CType) (w : Value) → is_plain_place q ≡ true → is_scalar u ≡ true → place_value here q r ≡ Some w → IsStepOf p (step_here (act.Read w) s) → (base : Memory)
      → SubstitutesStep p.layouts here s.memory r base (step_parts ss (step_here (act.Read w) s)) place.Read here.function (access_substitution q u)
  read_substitutes s r q u w o sc e stepped_so base =
      record {
        accessed = λ t g. place_term here p s.memory r base g (step_parts ss (step_here (act.Read w) s)) q u o w e;
        accessed_inside = λ t. pointer_inside p h j IsTheirs ss ready here outer source_call woven_call bound first w stepped_so.pointers;
        object = λ t. scalar_one p h j IsTheirs ss ready here outer source_call woven_call bound first u sc;
        parameter = λ t. no_true t;
        parameter_inside = λ t. no_true t;
        result = λ t. no_true t;
        result_inside = λ t. no_true t;
        called = λ t. no_true t;
      }

  read_on : (c : Option Cell) (k k' : Value → State → Registers → Trace) → ValueTaken k k' → (s : State) (g : Memory) (good : Bool) (r : Registers) → InBodyHere s g → AssertedHere s g good []
      → IsProper p false (held strict here c k s r) → SimulatedHere g good [] (held strict here c k s r) (held resting here c k' (woven_state s g) r)
  read_on None k k' takes s g good r b a f = halted p h j IsTheirs ss ready here outer source_call woven_call bound first s g good [] b a fault.Invalid f
  read_on (Some Nothing) k k' takes s g good r b a f = halted p h j IsTheirs ss ready here outer source_call woven_call bound first s g good [] b a fault.Uninit f
  read_on (Some (Holds v)) k k' takes s g good r b a f = takes.by v s g good [] r b (exact_open p h j IsTheirs ss ready here outer s g good) f

  pub read_gives : (q : Place_) (u : CType) → is_plain_place q ≡ true → is_scalar u ≡ true → ValueGiven (ex.Load q u) place.Read (access_substitution q u)
  read_gives q u oq sc k k' takes T rest' runs s g good vs r body opened proper =
      let t = eval strict p.layouts source_call here (ex.Load q u) k s r in
      let T' = code_before h.points here.function place.Read (access_substitution q u) ++ T in
      held_case p h j IsTheirs ss ready here outer source_call woven_call bound first (place_value here q r) (λ w. load strict here u (At w) k) s r t (place_strict here p.layouts source_call q oq (λ l. load strict here u l k) s r) proper (SimulatedHere g good vs t (run_woven T' rest' (woven_state s g) r)) (λ w ew et.
      let a = act.Read w in
      let t' = held strict here (reached s.memory w u) k s r in
      let proper' : IsProper p false (Then (Made (step_here a s)) t') = subst (λ t. IsProper p false t) et proper in
      let substitutes = read_substitutes s r q u w oq sc ew proper'.0 in
      let m_in = step_inside p (step_here a s) proper'.0 in
      let body' = stepped p h j IsTheirs ss ready here outer a refl s r (access_substitution q u) m_in substitutes first g body in
      subst (λ t. SimulatedHere g good vs t (run_woven T' rest' (woven_state s g) r)) (sym et)
      (announce p h j IsTheirs ss ready here outer a refl s r (access_substitution q u) m_in substitutes woven_call bound first g good vs body opened t' T rest'
      (λ G. held resting here (reached s.memory w u) k' (record s { ghosts = G }) r)
      (λ G. runs (record s { ghosts = G }) r ∙ place_run here p.layouts woven_call q oq w r ew (λ l. load resting here u l k') (record s { ghosts = G }))
      (read_on (reached s.memory w u) k k' takes s (ghosts_here a s g) (all_safe j (verdicts_here a s g) && good) r body' (asserted_after p h j IsTheirs ss ready here outer a refl s r (access_substitution q u) m_in substitutes first g good body) proper'.1)))

  -- ---- calls, input and output

  pub call_substitutes : (a : Action) (n : ℕ) → place_of a ≡ place.Call → called_by a ≡ Some n → (s : State) (r : Registers) (base : Memory) → SubstitutesStep p.layouts here s.memory r base (step_parts ss (step_here a s)) place.Call here.function (call_substitution n)
  call_substitutes a n e c s r base =
      record {
        accessed = λ t. no_true t;
        accessed_inside = λ t. no_true t;
        object = λ t. no_true t;
        parameter = λ t. no_true t;
        parameter_inside = λ t. no_true t;
        result = λ t. no_true t;
        result_inside = λ t. no_true t;
        called = λ t. c;
      }

  on_byte : (bs : List ℕ) (k k' : Value → State → Registers → Trace) → ValueTaken k k' → (s : State) (g : Memory) (good : Bool) (r : Registers) → InBodyHere s g → IsProper p false (acc.next_byte strict here bs k s r)
      → SimulatedHere g good [] (acc.next_byte strict here bs k s r) (acc.next_byte resting here bs k' (woven_state s g) r)
  on_byte [] k k' takes s g good r b f = takes.by (value.Int (negsuc 0)) s g good [] r b (exact_open p h j IsTheirs ss ready here outer s g good) f
  on_byte (n ∷ bs) k k' takes s g good r b f =
      let s' : State = record s { input = bs } in
      takes.by (value.Int (pos (n % 256))) s' g good [] r (record { inside = b.inside; own = b.own; below = b.below; bounded = b.bounded; later = b.later }) (exact_open p h j IsTheirs ss ready here outer s' g good) f

  pub input_gives : ValueGiven ex.GetChar place.Call (call_substitution 0)
  input_gives k k' takes T rest' runs s g good vs r body opened proper =
      let a = act.Input in
      let substitutes = call_substitutes a 0 refl refl s r in
      let m_in = step_inside p (step_here a s) proper.0 in
      announce p h j IsTheirs ss ready here outer a refl s r (call_substitution 0) m_in substitutes woven_call bound first g good vs body opened (acc.next_byte strict here s.input k s r) T rest'
      (λ G. acc.next_byte resting here s.input k' (record s { ghosts = G }) r) (λ G. runs (record s { ghosts = G }) r)
      (on_byte s.input k k' takes s (ghosts_here a s g) (all_safe j (verdicts_here a s g) && good) r (stepped p h j IsTheirs ss ready here outer a refl s r (call_substitution 0) m_in substitutes first g body) proper.1)

  pub output_gives : (b : _) (d : Expr) → is_operand d ≡ true → ValueGiven (ex.PutChar' b (more_of-Expr d end_of-Expr)) place.Call (call_substitution 1)
  output_gives b d od k k' takes T rest' runs s g good vs r body opened proper =
      let e = ex.PutChar' b (more_of-Expr d end_of-Expr) in
      let t = eval strict p.layouts source_call here e k s r in
      let T' = code_before h.points here.function place.Call (call_substitution 1) ++ T in
      held_case p h j IsTheirs ss ready here outer source_call woven_call bound first (operand_value d r) (λ v. acc.put_char strict here v k) s r t (operand_strict here p.layouts source_call d od (λ v. acc.put_char strict here v k) s r) proper (SimulatedHere g good vs t (run_woven T' rest' (woven_state s g) r)) (λ v ev et.
      let n = low_bits 8 (integer v) in
      let a = act.Output n in
      let t' = k (value.Int (pos n)) s r in
      let proper' : IsProper p false (Then (Made (step_here a s)) t') = subst (λ t. IsProper p false t) et proper in
      let substitutes = call_substitutes a 1 refl refl s r in
      let m_in = step_inside p (step_here a s) proper'.0 in
      let g' = ghosts_here a s g in
      let good' = all_safe j (verdicts_here a s g) && good in
      subst (λ t. SimulatedHere g good vs t (run_woven T' rest' (woven_state s g) r)) (sym et)
      (announce p h j IsTheirs ss ready here outer a refl s r (call_substitution 1) m_in substitutes woven_call bound first g good vs body opened t' T rest'
      (λ G. k' (value.Int (pos n)) (record s { ghosts = G }) r)
      (λ G. runs (record s { ghosts = G }) r ∙ operand_run here p.layouts woven_call d od v r ev (λ v. acc.put_char resting here v k') (record s { ghosts = G }))
      (takes.by (value.Int (pos n)) s g' good' [] r (stepped p h j IsTheirs ss ready here outer a refl s r (call_substitution 1) m_in substitutes first g body) (exact_open p h j IsTheirs ss ready here outer s g' good') proper'.1)))

  -- ---- `malloc` and `free`

  block_gives : (n : ℕ) (o : Option Block) (k k' : Value → State → Registers → Trace) → ValueTaken k k' → (T : List Stmt) (rest' : Completion → State → Registers → Trace) (s : State) (r : Registers)
      → ((G : Memory) → run_woven T rest' (record s { ghosts = G }) r ≡ al.allocate_block resting here n o k' (record s { ghosts = G }) r)
      → (g : Memory) (good : Bool) (vs : List Verdict) → InBodyHere s g → PartlyAssertedHere s g good vs → IsProper p false (al.allocate_block strict here n o k s r)
      → SimulatedHere g good vs (al.allocate_block strict here n o k s r) (run_woven (code_before h.points here.function place.Call (call_substitution 2) ++ T) rest' (woven_state s g) r)
  block_gives n None k k' takes T rest' s r runs g good vs body opened proper =
      let a = act.Malloc n value.Null 0 in
      let substitutes = call_substitutes a 2 refl refl s r in
      let m_in = step_inside p (step_here a s) proper.0 in
      let g' = ghosts_here a s g in
      let good' = all_safe j (verdicts_here a s g) && good in
      announce p h j IsTheirs ss ready here outer a refl s r (call_substitution 2) m_in substitutes woven_call bound first g good vs body opened (k value.Null s r) T rest' (λ G. k' value.Null (record s { ghosts = G }) r) runs
      (takes.by value.Null s g' good' [] r (stepped p h j IsTheirs ss ready here outer a refl s r (call_substitution 2) m_in substitutes first g body) (exact_open p h j IsTheirs ss ready here outer s g' good') proper.1)
  block_gives n (Some c) k k' takes T rest' s r runs g good vs body opened proper =
      let v = al.block_pointer s.allocated in
      let a = act.Malloc n v (length c) in
      let s' : State = record s { memory = with_block s.allocated c s.memory; allocated = suc s.allocated } in
      let substitutes = call_substitutes a 2 refl refl s r in
      let m_in = step_inside p (step_here a s) proper.0 in
      let g' = ghosts_here a s g in
      let good' = all_safe j (verdicts_here a s g) && good in
      let b = stepped p h j IsTheirs ss ready here outer a refl s r (call_substitution 2) m_in substitutes first g body in
      announce p h j IsTheirs ss ready here outer a refl s r (call_substitution 2) m_in substitutes woven_call bound first g good vs body opened (k v s' r) T rest' (λ G. k' v (record s' { ghosts = G }) r) runs
      (takes.by v s' g' good' [] r (record { inside = b.inside; own = b.own; below = b.below; bounded = b.bounded; later = b.later }) (exact_open p h j IsTheirs ss ready here outer s' g' good') proper.1)

  pub malloc_gives : (b : _) (d : Expr) (u : CType) → is_operand d ≡ true → ValueGiven (ex.Malloc' b (more_of-Expr d end_of-Expr) u) place.Call (call_substitution 2)
  malloc_gives b d u od k k' takes T rest' runs s g good vs r body opened proper =
      let e = ex.Malloc' b (more_of-Expr d end_of-Expr) u in
      let t = eval strict p.layouts source_call here e k s r in
      let T' = code_before h.points here.function place.Call (call_substitution 2) ++ T in
      held_case p h j IsTheirs ss ready here outer source_call woven_call bound first (operand_value d r) (λ v. al.allocate strict here p.layouts u v k) s r t (operand_strict here p.layouts source_call d od (λ v. al.allocate strict here p.layouts u v k) s r) proper (SimulatedHere g good vs t (run_woven T' rest' (woven_state s g) r)) (λ v ev et.
      let n = low_bits 64 (integer v) in
      let o = al.block_for p.layouts u n in
      subst (λ t. SimulatedHere g good vs t (run_woven T' rest' (woven_state s g) r)) (sym et)
      (block_gives n o k k' takes T rest' s r
      (λ G. runs (record s { ghosts = G }) r ∙ operand_run here p.layouts woven_call d od v r ev (λ v. al.allocate resting here p.layouts u v k') (record s { ghosts = G }))
      g good vs body opened (subst (λ t. IsProper p false t) et proper)))

  -- a `free` that is a fault has a Halt step in the memory of its Free step
  release_on : (o : Option Memory) (k k' : Value → State → Registers → Trace) → ValueTaken k k' → (s : State) (g : Memory) (good : Bool) (r : Registers) → InBodyHere s g → AssertedHere s g good []
      → IsProper p false (al.release_to strict here o k s r) → SimulatedHere g good [] (al.release_to strict here o k s r) (al.release_to resting here o k' (woven_state s g) r)
  release_on None k k' takes s g good r b a f = halted p h j IsTheirs ss ready here outer source_call woven_call bound first s g good [] b a fault.BadFree f
  release_on (Some m) k k' takes s g good r b a f =
      let s' : State = record s { memory = m } in
      takes.by (value.Int (pos 0)) s' g good [] r (record { inside = b.inside; own = b.own; below = b.below; bounded = b.bounded; later = b.later }) (exact_open p h j IsTheirs ss ready here outer s' g good) f

  pub free_gives : (b : _) (d : Expr) → is_operand d ≡ true → ValueGiven (ex.Free' b (more_of-Expr d end_of-Expr)) place.Call (call_substitution 3)
  free_gives b d od k k' takes T rest' runs s g good vs r body opened proper =
      let e = ex.Free' b (more_of-Expr d end_of-Expr) in
      let t = eval strict p.layouts source_call here e k s r in
      let T' = code_before h.points here.function place.Call (call_substitution 3) ++ T in
      held_case p h j IsTheirs ss ready here outer source_call woven_call bound first (operand_value d r) (λ v. al.release strict here v k) s r t (operand_strict here p.layouts source_call d od (λ v. al.release strict here v k) s r) proper (SimulatedHere g good vs t (run_woven T' rest' (woven_state s g) r)) (λ v ev et.
      let a = act.Free v in
      let t' = al.release_to strict here (freed s.memory v) k s r in
      let proper' : IsProper p false (Then (Made (step_here a s)) t') = subst (λ t. IsProper p false t) et proper in
      let substitutes = call_substitutes a 3 refl refl s r in
      let m_in = step_inside p (step_here a s) proper'.0 in
      let b' = stepped p h j IsTheirs ss ready here outer a refl s r (call_substitution 3) m_in substitutes first g body in
      subst (λ t. SimulatedHere g good vs t (run_woven T' rest' (woven_state s g) r)) (sym et)
      (announce p h j IsTheirs ss ready here outer a refl s r (call_substitution 3) m_in substitutes woven_call bound first g good vs body opened t' T rest'
      (λ G. al.release_to resting here (freed s.memory v) k' (record s { ghosts = G }) r)
      (λ G. runs (record s { ghosts = G }) r ∙ operand_run here p.layouts woven_call d od v r ev (λ v. al.release resting here v k') (record s { ghosts = G }))
      (release_on (freed s.memory v) k k' takes s (ghosts_here a s g) (all_safe j (verdicts_here a s g) && good) r b' (asserted_after p h j IsTheirs ss ready here outer a refl s r (call_substitution 3) m_in substitutes first g good body) proper'.1)))
