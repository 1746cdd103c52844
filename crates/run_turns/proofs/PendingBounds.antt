-- What is left to do, with larger bounds: one line for each pending part.
use Rattle.std.proofs.Common.{ℕ, suc, ◌≤◌, List, [], ◌∷◌, Some, arith}
use Rattle.std.specs.Prelude.{take, drop}
use Rattle.step_meaning.specs.declared.value.Value.{Value}
use Rattle.step_meaning.specs.declared.value.Value.TheVariants as value
use Rattle.step_meaning.specs.declared.value.RunFault.TheVariants as fault
use Rattle.step_meaning.specs.declared.expr.UpdateOp.{UpdateOp}
use Rattle.step_meaning.specs.declared.expr.Answer.{Answer}
use Rattle.step_meaning.specs.declared.expr.Expr.{Expr}
use Rattle.step_meaning.specs.declared.value.CType.{CType}
use Rattle.step_meaning.specs.declared.stmt.Stmt.{Stmt, end_of-Stmt, more_of-Stmt}
use Rattle.step_meaning.specs.declared.stmt.Stmt.TheVariants as st
use Rattle.step_meaning.specs.declared.program.Core.{Core}
use Rattle.step_meaning.specs.Names.{truth}
use Rattle.step_meaning.specs.Steps.{Trace, Fault}
use Rattle.step_meaning.specs.State.{State, Registers, Here, Lvalue}
use Rattle.step_meaning.specs.Flow.{resting, Resting, RestingCall}
use Rattle.step_meaning.specs.Statements.{Completion, Next, Broken, Continued, Returned}
use Rattle.step_meaning.specs.Runs.{exit_of}
use Rattle.step_meaning.proofs.Bounds.{Counts, IsReal, Same, SameCall, same_bind, same_pure, same_cond, same_emit, same_through, same_int, same_truth, same_load, same_store, same_address_of, same_object_after, same_move_elements, same_updated, same_allocate, same_release, same_get_char, same_put_char, same_eval, same_place, same_exec, same_exec_all, same_on_next, same_at_end, same_after_turn, same_when, same_step_of, same_given, same_close, same_then, halted}
use Rattle.run_turns.specs.Pending as pending

exit_real : (v : Value) → IsReal (exit_of v)
exit_real (value.Int z) = tt
exit_real value.Null = tt
exit_real (value.Pointer n o) = tt

module _ (R : ℕ → Trace → Trace → Type 0) (counts : Counts R) (q : Core) (n : ℕ) (call call' : ℕ → List Value → RestingCall) (h : (g : ℕ) (vs : List Value) → SameCall R counts n (call g vs) (call' g vs)) (k k' : ℕ) (le : n ≤ k) (le' : n ≤ k') where
  value_alike : (here : Here) (e : Expr) → Same R counts n (Rattle.step_meaning.specs.Expressions.eval resting q.layouts call here e) (Rattle.step_meaning.specs.Expressions.eval resting q.layouts call' here e)
  value_alike here e = same_eval R counts n q.layouts here call call' h e

  left_alike : (here : Here) (s : Stmt) → Same R counts n (Rattle.step_meaning.specs.Statements.exec resting q.layouts call here k s) (Rattle.step_meaning.specs.Statements.exec resting q.layouts call' here k' s)
  left_alike here s = same_exec R counts n q.layouts here call call' h k k' le le' s

  all_alike : (here : Here) (es : List Expr) → Same R counts n (pending.all_of q call k here es) (pending.all_of q call' k' here es)
  all_alike here [] = same_pure R counts n []
  all_alike here (e ∷ es) = same_bind R counts n (value_alike here e) (λ v. same_bind R counts n (all_alike here es) (λ vs. same_pure R counts n (v ∷ vs)))

  update_alike : (here : Here) (t : CType) (o : UpdateOp) (w : Answer) (l : Lvalue) (old v : Value) → Same R counts n (pending.update_at q call k here t o w l old v) (pending.update_at q call' k' here t o w l old v)
  update_alike here t o w l old v = same_bind R counts n (same_updated R counts n here t o old v) (λ new. same_then R counts n (same_store R counts n here t l new) (same_pure R counts n _))

  operand_alike : (here : Here) (o : pending.Operand) (v : Value) → Same R counts n (pending.operand q call k here o v) (pending.operand q call' k' here o v)
  operand_alike here (pending.Convert j) v = same_pure R counts n _
  operand_alike here (pending.Unary o j) v = same_int R counts n here _
  operand_alike here (pending.BinaryRight o j f) v = same_bind R counts n (value_alike here f) (λ w. same_int R counts n here _)
  operand_alike here (pending.BinaryNow o j v) w = same_int R counts n here _
  operand_alike here (pending.CompareRight o f) v = same_bind R counts n (value_alike here f) (λ w. same_truth R counts n here _)
  operand_alike here (pending.CompareNow o v) w = same_truth R counts n here _
  operand_alike here pending.Negated v = same_pure R counts n _
  operand_alike here (pending.BothRight f) v = same_cond R counts n (truth v) (same_bind R counts n (value_alike here f) (λ w. same_pure R counts n _)) (same_pure R counts n _)
  operand_alike here (pending.EitherRight f) v = same_cond R counts n (truth v) (same_pure R counts n _) (same_bind R counts n (value_alike here f) (λ w. same_pure R counts n _))
  operand_alike here pending.Truth v = same_pure R counts n _
  operand_alike here (pending.Choose f g) v = same_cond R counts n (truth v) (value_alike here f) (value_alike here g)
  operand_alike here pending.Discard v = same_pure R counts n _
  operand_alike here (pending.MoveRight size side f) v = same_bind R counts n (value_alike here f) (λ w. same_move_elements R counts n here side size v w)
  operand_alike here (pending.MoveNow size side v) w = same_move_elements R counts n here side size v w
  operand_alike here (pending.DifferenceRight unit f) v = same_bind R counts n (value_alike here f) (λ w. same_int R counts n here _)
  operand_alike here (pending.DifferenceNow unit v) w = same_int R counts n here _
  operand_alike here (pending.UpdateRight t o e w l) old = same_bind R counts n (value_alike here e) (λ v. update_alike here t o w l old v)
  operand_alike here (pending.UpdateNow t o w l old) v = update_alike here t o w l old v
  operand_alike here (pending.Instead v) w = same_pure R counts n v
  operand_alike here (pending.Allocate t) v = same_allocate R counts n here q.layouts t v
  operand_alike here pending.Release v = same_release R counts n here v
  operand_alike here (pending.Store t l) v = same_store R counts n here t l v

  access_alike : (here : Here) (a : pending.Access) (l : Lvalue) → Same R counts n (pending.accessed q call k here a l) (pending.accessed q call' k' here a l)
  access_alike here (pending.LoadAt t) l = same_load R counts n here t l
  access_alike here pending.AddressOf l = same_address_of R counts n here l
  access_alike here (pending.AssignRight t e) l = same_bind R counts n (value_alike here e) (same_store R counts n here t l)
  access_alike here (pending.UpdateOld t o e w) l = same_bind R counts n (same_load R counts n here t l) (λ old. same_bind R counts n (value_alike here e) (λ v. update_alike here t o w l old v))

  selection_alike : (here : Here) (x : pending.Selection) (l : Lvalue) → Same R counts n (pending.selected q call k here x l) (pending.selected q call' k' here x l)
  selection_alike here (pending.MemberAt o) l = same_object_after R counts n here l _
  selection_alike here (pending.ElementAt e size) l = same_bind R counts n (value_alike here e) (λ i. same_object_after R counts n here l _)

  designation_alike : (here : Here) (x : pending.Designation) (v : Value) → Same R counts n (pending.designation q call k here x v) (pending.designation q call' k' here x v)
  designation_alike here pending.Dereference v = same_pure R counts n _
  designation_alike here (pending.ElementNow l size) v = same_object_after R counts n here l _

  conclusion_alike : (here : Here) (x : Stmt) (v : Value) → Same R counts n (pending.concluded q call k here x v) (pending.concluded q call' k' here x v)
  conclusion_alike here (st.Init x o t e) v = same_then R counts n (same_store R counts n here t _ v) (same_pure R counts n _)
  conclusion_alike here (st.If' e b (more_of-Stmt s end_of-Stmt) c (more_of-Stmt u end_of-Stmt)) v = same_cond R counts n (truth v) (left_alike here s) (left_alike here u)
  conclusion_alike here (st.While' e b (more_of-Stmt s end_of-Stmt)) v = same_cond R counts n (truth v) (left_alike here s) (same_pure R counts n _)
  conclusion_alike here (st.Do' b (more_of-Stmt s end_of-Stmt) e) v = same_cond R counts n (truth v) (same_pure R counts n _) (same_pure R counts n _)
  conclusion_alike here (st.For' test step b (more_of-Stmt s end_of-Stmt)) v = same_cond R counts n (truth v) (same_bind R counts n (left_alike here s) (same_at_end R counts n (same_step_of R counts n q.layouts here call call' h k k' le le' step))) (same_pure R counts n _)
  conclusion_alike here (st.Return e) v = same_pure R counts n _
  conclusion_alike here _ v = same_pure R counts n _

  end_alike : (here : Here) (x : Stmt) → Same R counts n (pending.turn_ended q call k here x) (pending.turn_ended q call' k' here x)
  end_alike here (st.Do' b (more_of-Stmt s end_of-Stmt) e) = same_when R counts n q.layouts here call call' h k k' le le' (Some e) (same_pure R counts n Next)
  end_alike here (st.For' test step b (more_of-Stmt s end_of-Stmt)) = same_step_of R counts n q.layouts here call call' h k k' le le' step
  end_alike here _ = same_pure R counts n _

  passing_alike : (here : Here) (x : pending.Passing) (l : Completion) → Same R counts n (pending.passed q call k here x l) (pending.passed q call' k' here x l)
  passing_alike here (pending.Rest ss) l = same_on_next R counts n (same_exec_all R counts n q.layouts here call call' h k k' le le' ss) l
  passing_alike here (pending.Again s) l = same_after_turn R counts n (left_alike here s) l
  passing_alike here (pending.TurnEnd s) l = same_at_end R counts n (end_alike here s) l

  called_alike : (here : Here) (f : ℕ) (es : List Expr) (more : List Value → List Value) → Same R counts n (pending.called q call k here f es more) (pending.called q call' k' here f es more)
  called_alike here f es more = same_bind R counts n (all_alike here es) (λ vs. same_then R counts n (same_emit R counts n here _) (same_through R counts n (h f (more vs))))

  leaving_alike : (here : Here) (g : ℕ) (f : CType) (l : Completion) → Same R counts n (pending.leaving q call k here g f l) (pending.leaving q call' k' here g f l)
  leaving_alike here g f l = same_bind R counts n (same_given R counts n here _ _ l) (λ v. same_then R counts n (same_emit R counts n here _) (same_then R counts n (same_close R counts n) (same_pure R counts n _)))

  -- ---- pending parts, up to so many steps

  abbrev pub Onward : ℕ → pending.After → pending.After → Type 0
  Onward m f g = (t : pending.Told) (c : pending.Context) (s : State) → R m (f t c s) (g t c s)

  at_ready_alike : (m : ℕ) (t : pending.Told) (c : pending.Context) (s : State) (f g : pending.After) (a b : Trace) → Onward m f g → R m a b → R m (pending.at_ready t c s f a) (pending.at_ready t c s g b)
  at_ready_alike m (pending.Left Next) c s f g a b h ab = ab
  at_ready_alike m (pending.Left Broken) c s f g a b h ab = h _ c s
  at_ready_alike m (pending.Left Continued) c s f g a b h ab = h _ c s
  at_ready_alike m (pending.Left (Returned v)) c s f g a b h ab = h _ c s
  at_ready_alike m (pending.Gave v) c s f g a b h ab = h _ c s
  at_ready_alike m (pending.Found v) c s f g a b h ab = h _ c s

  at_value_alike : (m : ℕ) (t : pending.Told) (c : pending.Context) (s : State) (f g : pending.After) (a b : Value → Trace) → Onward m f g → ((v : Value) → R m (a v) (b v)) → R m (pending.at_value t c s f a) (pending.at_value t c s g b)
  at_value_alike m (pending.Left l) c s f g a b h ab = h _ c s
  at_value_alike m (pending.Gave v) c s f g a b h ab = ab v
  at_value_alike m (pending.Found v) c s f g a b h ab = h _ c s

  at_lvalue_alike : (m : ℕ) (t : pending.Told) (c : pending.Context) (s : State) (f g : pending.After) (a b : Lvalue → Trace) → Onward m f g → ((v : Lvalue) → R m (a v) (b v)) → R m (pending.at_lvalue t c s f a) (pending.at_lvalue t c s g b)
  at_lvalue_alike m (pending.Left l) c s f g a b h ab = h _ c s
  at_lvalue_alike m (pending.Gave v) c s f g a b h ab = h _ c s
  at_lvalue_alike m (pending.Found v) c s f g a b h ab = ab v

  at_left_alike : (m : ℕ) (t : pending.Told) (c : pending.Context) (s : State) (f g : pending.After) (a b : Completion → Trace) → Onward m f g → ((v : Completion) → R m (a v) (b v)) → R m (pending.at_left t c s f a) (pending.at_left t c s g b)
  at_left_alike m (pending.Left l) c s f g a b h ab = ab l
  at_left_alike m (pending.Gave v) c s f g a b h ab = h _ c s
  at_left_alike m (pending.Found v) c s f g a b h ab = h _ c s

  abbrev pub Up : ℕ → pending.After → pending.After → Type 0
  Up m f g = (j : ℕ) → j ≤ m → Onward j f g

  to_values : (m : ℕ) → m ≤ n → (f g : pending.After) → Up m f g → (d d' : Resting Value) → Same R counts n d d' → (c : pending.Context) (s : State) (r : Registers) → R m (d (pending.value_to f c) s r) (d' (pending.value_to g c) s r)
  to_values m ml f g up d d' x c s r = x.by m ml (pending.value_to f c) (pending.value_to g c) (λ j jl v s r. up j jl (pending.Gave v) (record c { registers = r }) s) s r

  to_lvalues : (m : ℕ) → m ≤ n → (f g : pending.After) → Up m f g → (d d' : Resting Lvalue) → Same R counts n d d' → (c : pending.Context) (s : State) (r : Registers) → R m (d (pending.lvalue_to f c) s r) (d' (pending.lvalue_to g c) s r)
  to_lvalues m ml f g up d d' x c s r = x.by m ml (pending.lvalue_to f c) (pending.lvalue_to g c) (λ j jl v s r. up j jl (pending.Found v) (record c { registers = r }) s) s r

  to_completions : (m : ℕ) → m ≤ n → (f g : pending.After) → Up m f g → (d d' : Resting Completion) → Same R counts n d d' → (c : pending.Context) (s : State) (r : Registers) → R m (d (pending.completion_to f c) s r) (d' (pending.completion_to g c) s r)
  to_completions m ml f g up d d' x c s r = x.by m ml (pending.completion_to f c) (pending.completion_to g c) (λ j jl v s r. up j jl (pending.Left v) (record c { registers = r }) s) s r

  to_caller : (m : ℕ) → m ≤ n → (f g : pending.After) → Up m f g → (d d' : Resting Value) → Same R counts n d d' → (c : pending.Context) (s : State) (r : Registers) → R m (d (λ v s r. f (pending.Gave v) c s) s r) (d' (λ v s r. g (pending.Gave v) c s) s r)
  to_caller m ml f g up d d' x c s r = x.by m ml (λ v s r. f (pending.Gave v) c s) (λ v s r. g (pending.Gave v) c s) (λ j jl v s r. up j jl (pending.Gave v) c s) s r

  to_call : (m : ℕ) → m ≤ n → (f g : pending.After) → Up m f g → (d d' : RestingCall) → SameCall R counts n d d' → (c : pending.Context) (s : State) → R m (d (λ v s. f (pending.Gave v) c s) s) (d' (λ v s. g (pending.Gave v) c s) s)
  to_call m ml f g up d d' x c s = x.by m ml (λ v s. f (pending.Gave v) c s) (λ v s. g (pending.Gave v) c s) (λ j jl v s. up j jl (pending.Gave v) c s) s

  pub part_alike : (p : pending.Pending) → (m : ℕ) → m ≤ n → (f g : pending.After) → Up m f g → Onward m (λ t c s. pending.does q call k p t c s f) (λ t c s. pending.does q call' k' p t c s g)
  part_alike (pending.Evaluate e) m ml f g up t c s = at_ready_alike m t c s f g _ _ (up m (omega arith)) (to_values m ml f g up _ _ (value_alike c.here e) c s c.registers)
  part_alike (pending.Locate p) m ml f g up t c s = at_ready_alike m t c s f g _ _ (up m (omega arith)) (to_lvalues m ml f g up _ _ (same_place R counts n q.layouts c.here call call' h p) c s c.registers)
  part_alike (pending.Execute x) m ml f g up t c s = at_ready_alike m t c s f g _ _ (up m (omega arith)) (to_completions m ml f g up _ _ (left_alike c.here x) c s c.registers)
  part_alike (pending.Operate o) m ml f g up t c s = at_value_alike m t c s f g _ _ (up m (omega arith)) (λ v. to_values m ml f g up _ _ (operand_alike c.here o v) c s c.registers)
  part_alike (pending.Accessed a) m ml f g up t c s = at_lvalue_alike m t c s f g _ _ (up m (omega arith)) (λ v. to_values m ml f g up _ _ (access_alike c.here a v) c s c.registers)
  part_alike (pending.Select x) m ml f g up t c s = at_lvalue_alike m t c s f g _ _ (up m (omega arith)) (λ v. to_lvalues m ml f g up _ _ (selection_alike c.here x v) c s c.registers)
  part_alike (pending.Designate x) m ml f g up t c s = at_value_alike m t c s f g _ _ (up m (omega arith)) (λ v. to_lvalues m ml f g up _ _ (designation_alike c.here x v) c s c.registers)
  part_alike (pending.Conclude x) m ml f g up t c s = at_value_alike m t c s f g _ _ (up m (omega arith)) (λ v. to_completions m ml f g up _ _ (conclusion_alike c.here x v) c s c.registers)
  part_alike pending.Ignore m ml f g up t c s = at_value_alike m t c s f g _ _ (up m (omega arith)) (λ v. up m (omega arith) (pending.Left Next) c s)
  part_alike (pending.Pass x) m ml f g up t c s = at_left_alike m t c s f g _ _ (up m (omega arith)) (λ l. to_completions m ml f g up _ _ (passing_alike c.here x l) c s c.registers)
  part_alike pending.Input m ml f g up t c s = at_ready_alike m t c s f g _ _ (up m (omega arith)) (to_values m ml f g up _ _ (same_get_char R counts n c.here) c s c.registers)
  part_alike pending.Output m ml f g up t c s = at_value_alike m t c s f g _ _ (up m (omega arith)) (λ v. to_values m ml f g up _ _ (same_put_char R counts n c.here v) c s c.registers)
  part_alike (pending.Arguments i es j) m ml f g up t c s = at_ready_alike m t c s f g _ _ (up m (omega arith)) (to_values m ml f g up _ _ (called_alike c.here i es (pending.reversed_onto (take j c.arguments))) (record c { arguments = drop j c.arguments }) s c.registers)
  part_alike (pending.Argument i es j) m ml f g up t c s = at_value_alike m t c s f g _ _ (up m (omega arith)) (λ v. to_values m ml f g up _ _ (called_alike c.here i es (pending.reversed_onto (take (suc j) (v ∷ c.arguments)))) (record c { arguments = drop j c.arguments }) s c.registers)
  part_alike (pending.Enter i j) m ml f g up t c s = at_ready_alike m t c s f g _ _ (up m (omega arith)) (to_call m ml f g up _ _ (h i (pending.reversed_onto (take j c.arguments) [])) (record c { arguments = drop j c.arguments }) s)
  part_alike (pending.Leave i x) m ml f g up t c s = at_left_alike m t c s f g _ _ (up m (omega arith)) (λ l. to_caller m ml f g up _ _ (leaving_alike c.here i x l) (pending.back_to c.callers c) s c.registers)
  part_alike (pending.Halt x) m ml f g up t c s = halted R counts m _ (Fault x) tt
  part_alike (pending.Over e) m ml f g up t c s = counts.stops m (Fault e) tt

  pub resume_alike : (ps : List pending.Pending) → (m : ℕ) → m ≤ n → Onward m (pending.resume q call k ps) (pending.resume q call' k' ps)
  resume_alike [] m ml t c s = at_value_alike m t c s _ _ _ _ (λ t c s. counts.stops m (Fault fault.Invalid) tt) (λ v. counts.stops m (exit_of v) (exit_real v))
  resume_alike (p ∷ ps) m ml t c s =
      part_alike p m ml (pending.resume q call k ps) (pending.resume q call' k' ps) (λ j jl. resume_alike ps j (omega arith)) t c s
