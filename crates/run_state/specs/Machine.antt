-- The state of the machine as the definitions see it: references stand for what they show.
use Rattle.std.specs.Prelude.{ℕ, List, [], ◌∷◌, drop, length, Option, Some, None, slice_get}
use Rattle.step_meaning.specs.State.{Lvalue, InRegister, At, Registers}
use Rattle.step_meaning.specs.Statements.{Completion, Next, Broken, Continued, Returned}
use Rattle.run_state.specs.declared.work.Located.{Located}
use Rattle.run_state.specs.declared.work.Located.TheVariants as located
use Rattle.run_state.specs.declared.work.Left.{Left}
use Rattle.run_state.specs.declared.work.Left.TheVariants as left
use Rattle.run_state.specs.declared.work.Told.{Told}
use Rattle.run_state.specs.declared.work.Told.TheVariants as told
use Rattle.run_state.specs.declared.work.Operand.{Operand}
use Rattle.run_state.specs.declared.work.Operand.TheVariants as operand
use Rattle.run_state.specs.declared.work.Awaiting.{Awaiting}
use Rattle.run_state.specs.declared.work.Awaiting.TheVariants as awaiting
use Rattle.step_meaning.specs.declared.expr.Expr.{Expr}
use Rattle.run_state.specs.declared.work.Access.{Access}
use Rattle.run_state.specs.declared.work.Access.TheVariants as access
use Rattle.run_state.specs.declared.work.Selection.{Selection}
use Rattle.run_state.specs.declared.work.Selection.TheVariants as selection
use Rattle.run_state.specs.declared.work.Designation.{Designation}
use Rattle.run_state.specs.declared.work.Designation.TheVariants as designation
use Rattle.run_state.specs.declared.work.Stage.{Stage}
use Rattle.run_state.specs.declared.work.Stage.TheVariants as stage
use Rattle.step_meaning.specs.declared.stmt.Stmt.{Stmt, items-the_row-Stmt}
use Rattle.step_meaning.specs.declared.stmt.Stmt.TheVariants as st
use Rattle.step_meaning.specs.declared.program.Core.{Core}
use Rattle.step_meaning.specs.declared.program.Function.{Function}
use Rattle.run_state.specs.declared.work.Work.{Work}
use Rattle.run_state.specs.declared.work.Work.TheVariants as work
use Rattle.run_state.specs.declared.machine.Machine.{Machine}
use Rattle.run_state.specs.declared.machine.Waiting.{Waiting}
use Rattle.run_turns.specs.Pending as pending
use Rattle.run_turns.specs.Turns.{Configuration}
use Rattle.run_state.specs.Registers.{innermost}

abbrev pub lvalue_of : Located → Lvalue
lvalue_of (located.Register i) = InRegister i
lvalue_of (located.At p) = At p

abbrev pub completion_of : Left → Completion
completion_of left.Next = Next
completion_of left.Broken = Broken
completion_of left.Continued = Continued
completion_of (left.Returned v) = Returned v

abbrev pub told_of : Told → pending.Told
told_of (told.Gave v) = pending.Gave v
told_of (told.Found l) = pending.Found (lvalue_of l)
told_of (told.Left l) = pending.Left (completion_of l)

abbrev pub awaiting_of : Awaiting → Expr → pending.Operand
awaiting_of (awaiting.Binary o k) e = pending.BinaryRight o k e
awaiting_of (awaiting.Compare o) e = pending.CompareRight o e
awaiting_of awaiting.Both e = pending.BothRight e
awaiting_of awaiting.Either e = pending.EitherRight e
awaiting_of (awaiting.Move size side) e = pending.MoveRight size side e
awaiting_of (awaiting.Difference unit) e = pending.DifferenceRight unit e

abbrev pub operand_of : Operand → pending.Operand
operand_of (operand.Convert k) = pending.Convert k
operand_of (operand.Unary o k) = pending.Unary o k
operand_of (operand.Right a e) = awaiting_of a e.now
operand_of (operand.BinaryNow o k v) = pending.BinaryNow o k v
operand_of (operand.CompareNow o v) = pending.CompareNow o v
operand_of operand.Negated = pending.Negated
operand_of operand.Truth = pending.Truth
operand_of (operand.Choose e f) = pending.Choose e.now f.now
operand_of operand.Discard = pending.Discard
operand_of (operand.MoveNow size side v) = pending.MoveNow size side v
operand_of (operand.DifferenceNow unit v) = pending.DifferenceNow unit v
operand_of (operand.Store t l) = pending.Store t.now (lvalue_of l)
operand_of (operand.UpdateRight t o e w l) = pending.UpdateRight t.now o e.now w (lvalue_of l)
operand_of (operand.UpdateNow t o w l v) = pending.UpdateNow t.now o w (lvalue_of l) v
operand_of (operand.Instead v) = pending.Instead v
operand_of (operand.Allocate t) = pending.Allocate t.now
operand_of operand.Release = pending.Release

abbrev pub access_of : Access → pending.Access
access_of (access.LoadAt t) = pending.LoadAt t.now
access_of access.AddressOf = pending.AddressOf
access_of (access.AssignRight t e) = pending.AssignRight t.now e.now
access_of (access.UpdateOld t o e w) = pending.UpdateOld t.now o e.now w

abbrev pub selection_of : Selection → pending.Selection
selection_of (selection.MemberAt o) = pending.MemberAt o
selection_of (selection.ElementAt e size) = pending.ElementAt e.now size

abbrev pub designation_of : Designation → pending.Designation
designation_of designation.Dereference = pending.Dereference
designation_of (designation.ElementNow l size) = pending.ElementNow (lvalue_of l) size

-- the statements of a block
abbrev pub block_items : Stmt → List Stmt
block_items (st.Block' b ss) = items-the_row-Stmt _ ss
block_items _ = []

-- the statements of a function's body
abbrev pub body_in : Option Function → List Stmt
body_in None = []
body_in (Some f) = body_items f.body
  where
    body_items : Option (List Stmt) → List Stmt
    body_items None = []
    body_items (Some ss) = ss

abbrev pub body_of : Core → ℕ → List Stmt
body_of q g = body_in (slice_get q.functions g)

abbrev pub statement_of : Stage → Stmt → pending.Pending
statement_of stage.Execute s = pending.Execute s
statement_of stage.Conclude s = pending.Conclude s
statement_of (stage.Rest i) s = pending.Pass (pending.Rest (drop i (block_items s)))
statement_of stage.Again s = pending.Pass (pending.Again s)
statement_of stage.TurnEnd s = pending.Pass (pending.TurnEnd s)

abbrev pub pending_of : Core → Work → pending.Pending
pending_of q (work.Evaluate e) = pending.Evaluate e.now
pending_of q (work.Locate p) = pending.Locate p.now
pending_of q (work.Statement x s) = statement_of x s.now
pending_of q (work.Body f i) = pending.Pass (pending.Rest (drop i (body_of q f)))
pending_of q (work.Operate o) = pending.Operate (operand_of o)
pending_of q (work.Accessed a) = pending.Accessed (access_of a)
pending_of q (work.Select x) = pending.Select (selection_of x)
pending_of q (work.Designate x) = pending.Designate (designation_of x)
pending_of q work.Ignore = pending.Ignore
pending_of q work.Input = pending.Input
pending_of q work.Output = pending.Output
pending_of q (work.Arguments f es n) = pending.Arguments f es.now n
pending_of q (work.Argument f es n) = pending.Argument f es.now n
pending_of q (work.Enter f n) = pending.Enter f n
pending_of q (work.Leave g t) = pending.Leave g t.now
pending_of q (work.Halt f) = pending.Halt f
pending_of q (work.Over f) = pending.Over f

abbrev pub all_pending : Core → List Work → List pending.Pending
all_pending q [] = []
all_pending q (w ∷ ws) = pending_of q w ∷ all_pending q ws

-- the callers that wait, the innermost first, with their registers
abbrev pub all_callers : List Waiting → List Registers → List pending.Caller
all_callers [] rs = []
all_callers (w ∷ ws) rs = record { here = record { function = w.function; activation = w.activation }; registers = innermost rs } ∷ all_callers ws (drop 1 rs)

abbrev pub configuration_of : Machine → Configuration
configuration_of m =
    record {
      work = all_pending m.core.now m.work.0;
      told = told_of m.told;
      context = record {
        here = record { function = m.function; activation = m.activation };
        registers = innermost m.registers.activations;
        callers = all_callers m.callers.0 (drop 1 m.registers.activations);
        arguments = m.arguments.0;
      };
      memory = m.memory.memory;
      ghosts = m.ghosts.memory;
      made = m.made;
      allocated = m.allocated;
    }

-- how many registers each open activation has
abbrev pub sizes_of : List Registers → List ℕ
sizes_of [] = []
sizes_of (r ∷ rs) = length r ∷ sizes_of rs

-- what stays the same in a run: the program, and the room that was taken for it; and how many registers each open activation has, which stays the same until one begins or ends
pub record Fixed : Type 0 where
  pub core : Core
  pub work : ℕ
  pub callers : ℕ
  pub arguments : ℕ
  pub chunks : ℕ
  pub calls : ℕ
  pub ghost_chunks : ℕ
  pub ghost_calls : ℕ
  pub registers : ℕ
  pub register_calls : ℕ
  -- the innermost first
  pub sizes : List ℕ

abbrev pub fixed_of : Machine → Fixed
fixed_of m =
    record {
      core = m.core.now;
      work = m.work.1;
      callers = m.callers.1;
      arguments = m.arguments.1;
      chunks = m.memory.chunk_limit;
      calls = m.memory.call_limit;
      ghost_chunks = m.ghosts.chunk_limit;
      ghost_calls = m.ghosts.call_limit;
      registers = m.registers.room;
      register_calls = m.registers.calls;
      sizes = sizes_of m.registers.activations;
    }

-- where the innermost activation has ended
abbrev pub ended : Fixed → Fixed
ended f = record f { sizes = drop 1 f.sizes }
