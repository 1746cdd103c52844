-- What is still to be done of a run, as a list of pending parts: the continuation of the meaning as data.
use Rattle.std.specs.Prelude.{ℕ, suc, true, false, not, cond, ◌==◌, pos, ◌*ℤ◌, List, [], ◌∷◌, take, drop, Some, option_map}
use Rattle.step_meaning.specs.declared.value.IntKind.{IntKind}
use Rattle.step_meaning.specs.declared.value.CType.{CType}
use Rattle.step_meaning.specs.declared.value.Value.{Value}
use Rattle.step_meaning.specs.declared.value.Value.TheVariants as value
use Rattle.step_meaning.specs.declared.value.Action.TheVariants as act
use Rattle.step_meaning.specs.declared.value.RunFault.{RunFault}
use Rattle.step_meaning.specs.declared.value.RunFault.TheVariants as fault
use Rattle.step_meaning.specs.declared.expr.IntOp.{IntOp}
use Rattle.step_meaning.specs.declared.expr.UnaryOp.{UnaryOp}
use Rattle.step_meaning.specs.declared.expr.CompareOp.{CompareOp}
use Rattle.step_meaning.specs.declared.expr.Side.{Side}
use Rattle.step_meaning.specs.declared.expr.UpdateOp.{UpdateOp}
use Rattle.step_meaning.specs.declared.expr.Answer.{Answer}
use Rattle.step_meaning.specs.declared.expr.Expr.{Expr}
use Rattle.step_meaning.specs.declared.expr.Place_.{Place_}
use Rattle.step_meaning.specs.declared.stmt.Stmt.{Stmt, end_of-Stmt, more_of-Stmt}
use Rattle.step_meaning.specs.declared.stmt.Stmt.TheVariants as st
use Rattle.step_meaning.specs.declared.program.Core.{Core}
use Rattle.step_meaning.specs.Numbers.{converted, binary_of, unary_of}
use Rattle.step_meaning.specs.Names.{truth, of_truth, integer, distance, compared}
use Rattle.step_meaning.specs.Steps.{Fault, Trace, Stop, Then}
use Rattle.step_meaning.specs.State.{State, Registers, Here, Lvalue, At, designated}
use Rattle.step_meaning.specs.Flow.{resting, Resting, RestingCall, step_by}
use Rattle.step_meaning.specs.Accesses.{checked, as_int, as_truth, load, store, address_of, object_after, move_elements, updated, answer, put_char, get_char}
use Rattle.step_meaning.specs.Allocation.{allocate, release}
use Rattle.step_meaning.specs.Expressions.{eval, place}
use Rattle.step_meaning.specs.Statements.{Completion, Next, Broken, Continued, Returned, exec, exec_all, on_next, at_turn_end, after_turn, when_test, loop_step}
use Rattle.step_meaning.specs.Calls.{given_back, close_frame, value_or_zero}
use Rattle.step_meaning.specs.Runs.{exit_of}
pub use Rattle.run_turns.specs.Lists.{reversed_onto}

-- ---- what the part before has told

pub data Told : Type 0 where
  Gave : Value → Told
  Found : Lvalue → Told
  Left : Completion → Told

-- ---- pending parts

-- waits for a value, and gives one
pub data Operand : Type 0 where
  Convert : IntKind → Operand
  Unary : UnaryOp → IntKind → Operand
  BinaryRight : IntOp → IntKind → Expr → Operand
  BinaryNow : IntOp → IntKind → Value → Operand
  CompareRight : CompareOp → Expr → Operand
  CompareNow : CompareOp → Value → Operand
  Negated : Operand
  BothRight : Expr → Operand
  EitherRight : Expr → Operand
  Truth : Operand
  Choose : Expr → Expr → Operand
  Discard : Operand
  -- a pointer and an integer in elements of so many cells: the second operand, then both
  MoveRight : ℕ → Side → Expr → Operand
  MoveNow : ℕ → Side → Value → Operand
  -- a difference of pointers in units of so many cells
  DifferenceRight : ℕ → Expr → Operand
  DifferenceNow : ℕ → Value → Operand
  Store : CType → Lvalue → Operand
  -- a compound assignment at the place's old value, then at the value of its right side
  UpdateRight : CType → UpdateOp → Expr → Answer → Lvalue → Operand
  UpdateNow : CType → UpdateOp → Answer → Lvalue → Value → Operand
  -- this value in place of the one that was given
  Instead : Value → Operand
  -- `malloc` of so many objects of the type, and `free`
  Allocate : CType → Operand
  Release : Operand

-- waits for what an lvalue designates, and gives a value
pub data Access : Type 0 where
  LoadAt : CType → Access
  AddressOf : Access
  AssignRight : CType → Expr → Access
  UpdateOld : CType → UpdateOp → Expr → Answer → Access

-- waits for what an lvalue designates, and gives what a part of it designates
pub data Selection : Type 0 where
  -- the member after so many cells
  MemberAt : ℕ → Selection
  -- the element of so many cells with this index
  ElementAt : Expr → ℕ → Selection

-- waits for a value, and gives what an lvalue designates
pub data Designation : Type 0 where
  -- `*` of a pointer
  Dereference : Designation
  -- the element of so many cells with this index
  ElementNow : Lvalue → ℕ → Designation

-- waits until the statement before it is left
pub data Passing : Type 0 where
  Rest : List Stmt → Passing
  -- a loop, after a turn or at its start
  Again : Stmt → Passing
  -- what ends a turn of a loop
  TurnEnd : Stmt → Passing

pub data Pending : Type 0 where
  Evaluate : Expr → Pending
  Locate : Place_ → Pending
  Execute : Stmt → Pending
  Operate : Operand → Pending
  Accessed : Access → Pending
  Select : Selection → Pending
  Designate : Designation → Pending
  -- a statement, at the value of its expression
  Conclude : Stmt → Pending
  -- a value that isn't used
  Ignore : Pending
  Pass : Passing → Pending
  Input : Pending
  Output : Pending
  -- the arguments of a call, of which so many have been evaluated
  Arguments : ℕ → List Expr → ℕ → Pending
  Argument : ℕ → List Expr → ℕ → Pending
  Enter : ℕ → ℕ → Pending
  -- the end of an activation of the function with this number and result
  Leave : ℕ → CType → Pending
  -- a fault that is due, and one that was told
  Halt : RunFault → Pending
  Over : RunFault → Pending

-- ---- what surrounds a pending part

-- a caller, which waits
pub record Caller : Type 0 where
  pub here : Here
  pub registers : Registers

pub record Context : Type 0 where
  pub here : Here
  pub registers : Registers
  -- the innermost first
  pub callers : List Caller
  -- the arguments evaluated so far, the last one first
  pub arguments : List Value

-- the context after the innermost activation has ended
abbrev pub back_to : List Caller → Context → Context
back_to [] c = c
back_to (r ∷ rs) c = record c { here = r.here; registers = r.registers; callers = rs }

-- ---- what comes after

abbrev pub After : Type 0
After = Told → Context → State → Trace

abbrev pub value_to : After → Context → Value → State → Registers → Trace
value_to next c v s r = next (Gave v) (record c { registers = r }) s

abbrev pub lvalue_to : After → Context → Lvalue → State → Registers → Trace
lvalue_to next c l s r = next (Found l) (record c { registers = r }) s

abbrev pub completion_to : After → Context → Completion → State → Registers → Trace
completion_to next c l s r = next (Left l) (record c { registers = r }) s

-- a part that waits for nothing, for a value, for an lvalue, for the end of a statement. It passes on what it doesn't wait for
abbrev pub at_ready : Told → Context → State → After → Trace → Trace
at_ready (Left Next) c s next go = go
at_ready (Left Broken) c s next go = next (Left Broken) c s
at_ready (Left Continued) c s next go = next (Left Continued) c s
at_ready (Left (Returned v)) c s next go = next (Left (Returned v)) c s
at_ready (Gave v) c s next go = next (Gave v) c s
at_ready (Found l) c s next go = next (Found l) c s

abbrev pub at_value : Told → Context → State → After → (Value → Trace) → Trace
at_value (Gave v) c s next go = go v
at_value (Found l) c s next go = next (Found l) c s
at_value (Left l) c s next go = next (Left l) c s

abbrev pub at_lvalue : Told → Context → State → After → (Lvalue → Trace) → Trace
at_lvalue (Found l) c s next go = go l
at_lvalue (Gave v) c s next go = next (Gave v) c s
at_lvalue (Left l) c s next go = next (Left l) c s

abbrev pub at_left : Told → Context → State → After → (Completion → Trace) → Trace
at_left (Left l) c s next go = go l
at_left (Gave v) c s next go = next (Gave v) c s
at_left (Found l) c s next go = next (Found l) c s

module _ (q : Core) (call : ℕ → List Value → RestingCall) (k : ℕ) where
  module _ (here : Here) where
    abbrev evaluation : Expr → Resting Value
    evaluation = eval resting q.layouts call here

    abbrev execution : Stmt → Resting Completion
    execution = exec resting q.layouts call here k

    -- the arguments from left to right
    abbrev pub all_of : List Expr → Resting (List Value)
    all_of [] = resting.pure []
    all_of (e ∷ es) = resting.bind (evaluation e) (λ v. resting.bind (all_of es) (λ vs. resting.pure (v ∷ vs)))

    -- the operation of a compound assignment with its conversions, then the write
    abbrev pub update_at : CType → UpdateOp → Answer → Lvalue → Value → Value → Resting Value
    update_at t o w l old v = resting.bind (updated resting here t o old v) (λ new. resting.bind (store resting here t l new) (λ written. resting.pure (answer w old new)))

    abbrev pub operand : Operand → Value → Resting Value
    operand (Convert k) v = resting.pure (value.Int (converted k (integer v)))
    operand (Unary o k) v = as_int resting (checked resting here (unary_of o k (integer v)))
    operand (BinaryRight o k f) v = resting.bind (evaluation f) (λ w. as_int resting (checked resting here (binary_of o k (integer v) (integer w))))
    operand (BinaryNow o k v) w = as_int resting (checked resting here (binary_of o k (integer v) (integer w)))
    operand (CompareRight o f) v = resting.bind (evaluation f) (λ w. as_truth resting (checked resting here (compared o v w)))
    operand (CompareNow o v) w = as_truth resting (checked resting here (compared o v w))
    operand Negated v = resting.pure (of_truth (not (truth v)))
    operand (BothRight f) v = cond (truth v) (resting.bind (evaluation f) (λ w. resting.pure (of_truth (truth w)))) (resting.pure (of_truth false))
    operand (EitherRight f) v = cond (truth v) (resting.pure (of_truth true)) (resting.bind (evaluation f) (λ w. resting.pure (of_truth (truth w))))
    operand Truth v = resting.pure (of_truth (truth v))
    operand (Choose f g) v = cond (truth v) (evaluation f) (evaluation g)
    operand Discard v = resting.pure (value.Int (pos 0))
    operand (MoveRight size side f) v = resting.bind (evaluation f) (λ w. move_elements resting here side size v w)
    operand (MoveNow size side v) w = move_elements resting here side size v w
    operand (DifferenceRight unit f) v = resting.bind (evaluation f) (λ w. as_int resting (checked resting here (distance v w unit)))
    operand (DifferenceNow unit v) w = as_int resting (checked resting here (distance v w unit))
    operand (Store t l) v = store resting here t l v
    operand (UpdateRight t o e w l) old = resting.bind (evaluation e) (λ v. update_at t o w l old v)
    operand (UpdateNow t o w l old) v = update_at t o w l old v
    operand (Instead v) w = resting.pure v
    operand (Allocate t) v = allocate resting here q.layouts t v
    operand Release v = release resting here v

    abbrev pub accessed : Access → Lvalue → Resting Value
    accessed (LoadAt t) l = load resting here t l
    accessed AddressOf l = address_of resting l
    accessed (AssignRight t e) l = resting.bind (evaluation e) (store resting here t l)
    accessed (UpdateOld t o e w) l = resting.bind (load resting here t l) (λ old. resting.bind (evaluation e) (λ v. update_at t o w l old v))

    abbrev pub selected : Selection → Lvalue → Resting Lvalue
    selected (MemberAt o) l = object_after resting here l (pos o)
    selected (ElementAt e size) l = resting.bind (evaluation e) (λ i. object_after resting here l (integer i *ℤ pos size))

    abbrev pub designation : Designation → Value → Resting Lvalue
    designation Dereference p = resting.pure (At p)
    designation (ElementNow l size) i = object_after resting here l (integer i *ℤ pos size)

    abbrev pub concluded : Stmt → Value → Resting Completion
    concluded (st.Init x o t e) v = resting.bind (store resting here t (designated here.activation x o) v) (λ w. resting.pure Next)
    concluded (st.If' e b (more_of-Stmt s end_of-Stmt) c (more_of-Stmt u end_of-Stmt)) v = cond (truth v) (execution s) (execution u)
    concluded (st.While' e b (more_of-Stmt s end_of-Stmt)) v = cond (truth v) (execution s) (resting.pure Broken)
    concluded (st.Do' b (more_of-Stmt s end_of-Stmt) e) v = cond (truth v) (resting.pure Next) (resting.pure Broken)
    concluded (st.For' test step b (more_of-Stmt s end_of-Stmt)) v = cond (truth v) (resting.bind (execution s) (at_turn_end resting (loop_step resting (option_map evaluation step)))) (resting.pure Broken)
    concluded (st.Return e) v = resting.pure (Returned (Some v))
    concluded s v = resting.pure Next

    -- what ends a turn, after the body
    abbrev pub turn_ended : Stmt → Resting Completion
    turn_ended (st.Do' b (more_of-Stmt s end_of-Stmt) e) = when_test resting (Some (evaluation e)) (resting.pure Next)
    turn_ended (st.For' test step b (more_of-Stmt s end_of-Stmt)) = loop_step resting (option_map evaluation step)
    turn_ended s = resting.pure Next

    abbrev pub passed : Passing → Completion → Resting Completion
    passed (Rest ss) l = on_next resting (exec_all resting q.layouts call here k ss) l
    passed (Again s) l = after_turn resting (execution s) l
    passed (TurnEnd s) l = at_turn_end resting (turn_ended s) l

    -- the call, its arguments being evaluated but for these expressions
    abbrev pub called : ℕ → List Expr → (List Value → List Value) → Resting Value
    called f es more = resting.bind (all_of es) (λ vs. resting.bind (resting.emit here (act.Call f)) (λ u. resting.through (call f (more vs))))

    -- the end of an activation
    abbrev pub leaving : ℕ → CType → Completion → Resting Value
    leaving g t l = resting.bind (given_back resting here (g == q.start) t l) (λ v. resting.bind (resting.emit here (act.Return g v)) (λ u. resting.bind (close_frame resting) (λ u. resting.pure (value_or_zero v))))

  -- what a pending part does
  abbrev pub does : Pending → Told → Context → State → After → Trace
  does (Evaluate e) t c s next = at_ready t c s next (eval resting q.layouts call c.here e (value_to next c) s c.registers)
  does (Locate p) t c s next = at_ready t c s next (place resting q.layouts call c.here p (lvalue_to next c) s c.registers)
  does (Execute x) t c s next = at_ready t c s next (exec resting q.layouts call c.here k x (completion_to next c) s c.registers)
  does (Operate o) t c s next = at_value t c s next (λ v. operand c.here o v (value_to next c) s c.registers)
  does (Accessed a) t c s next = at_lvalue t c s next (λ l. accessed c.here a l (value_to next c) s c.registers)
  does (Select x) t c s next = at_lvalue t c s next (λ l. selected c.here x l (lvalue_to next c) s c.registers)
  does (Designate x) t c s next = at_value t c s next (λ v. designation c.here x v (lvalue_to next c) s c.registers)
  does (Conclude x) t c s next = at_value t c s next (λ v. concluded c.here x v (completion_to next c) s c.registers)
  does Ignore t c s next = at_value t c s next (λ v. next (Left Next) c s)
  does (Pass x) t c s next = at_left t c s next (λ l. passed c.here x l (completion_to next c) s c.registers)
  does Input t c s next = at_ready t c s next (get_char resting c.here (value_to next c) s c.registers)
  does Output t c s next = at_value t c s next (λ v. put_char resting c.here v (value_to next c) s c.registers)
  does (Arguments f es n) t c s next = at_ready t c s next (called c.here f es (reversed_onto (take n c.arguments)) (value_to next (record c { arguments = drop n c.arguments })) s c.registers)
  does (Argument f es n) t c s next = at_value t c s next (λ v. called c.here f es (reversed_onto (take (suc n) (v ∷ c.arguments))) (value_to next (record c { arguments = drop n c.arguments })) s c.registers)
  does (Enter f n) t c s next = at_ready t c s next (call f (reversed_onto (take n c.arguments) []) (λ v s. next (Gave v) (record c { arguments = drop n c.arguments }) s) s)
  does (Leave g x) t c s next = at_left t c s next (λ l. leaving c.here g x l (λ v s r. next (Gave v) (back_to c.callers c) s) s c.registers)
  does (Halt f) t c s next = Then (step_by c.here (act.Halt f) s.memory) (Stop (Fault f))
  does (Over f) t c s next = Stop (Fault f)

  -- what is left to do, from the top of the stack down
  abbrev pub resume : List Pending → After
  resume [] t c s = at_value t c s (λ t c s. Stop (Fault fault.Invalid)) (λ v. Stop (exit_of v))
  resume (p ∷ ps) t c s = does p t c s (resume ps)
