-- One turn of a machine: what it makes of the pending part on top, as a function of the machine's state.
use Rattle.std.specs.Prelude.{ℕ, suc, ◌%◌, Bool, true, false, not, cond, ◌==◌, ℤ, pos, negsuc, ◌*ℤ◌, neg_ℤ, List, length, [], ◌∷◌, take, drop, Option, Some, None, Result, Ok, Err}
use Rattle.step_meaning.specs.declared.value.IntKind.{IntKind}
use Rattle.step_meaning.specs.declared.value.CType.{CType}
use Rattle.step_meaning.specs.declared.value.CType.TheVariants as type
use Rattle.step_meaning.specs.declared.value.Value.{Value}
use Rattle.step_meaning.specs.declared.value.Value.TheVariants as value
use Rattle.step_meaning.specs.declared.value.Cell.{Cell}
use Rattle.step_meaning.specs.declared.value.Cell.TheVariants.{Nothing, Holds}
use Rattle.step_meaning.specs.declared.value.Action.{Action}
use Rattle.step_meaning.specs.declared.value.Action.TheVariants as act
use Rattle.step_meaning.specs.declared.value.RunFault.{RunFault}
use Rattle.step_meaning.specs.declared.value.RunFault.TheVariants as fault
use Rattle.step_meaning.specs.declared.expr.Side.{Side}
use Rattle.step_meaning.specs.declared.expr.Side.TheVariants.{PointerFirst, PointerLast, Minus}
use Rattle.step_meaning.specs.declared.expr.UpdateOp.{UpdateOp}
use Rattle.step_meaning.specs.declared.expr.UpdateOp.TheVariants.{Integer, Forward, Backward}
use Rattle.step_meaning.specs.declared.expr.Answer.{Answer}
use Rattle.step_meaning.specs.declared.expr.Expr.{Expr, end_of-Expr, more_of-Expr, items-the_row-Expr}
use Rattle.step_meaning.specs.declared.expr.Expr.TheVariants.{Literal, Null, Load, Address, Convert', Unary', Binary', Compare', Move', Difference', Not', Both', Either', Choose', Assign', Update', Invoke', GetChar, PutChar', Malloc', Free', Discard', Own, Deref', Member', Index'}
use Rattle.step_meaning.specs.declared.expr.Place_.{Place_, end_of-Place_, more_of-Place_}
use Rattle.step_meaning.specs.declared.stmt.Stmt.{Stmt, end_of-Stmt, more_of-Stmt, items-the_row-Stmt}
use Rattle.step_meaning.specs.declared.stmt.Stmt.TheVariants as st
use Rattle.step_meaning.specs.declared.program.Core.{Core}
use Rattle.step_meaning.specs.declared.program.Function.{Function}
use Rattle.step_meaning.specs.Numbers.{converted, low_bits, binary_of, unary_of}
use Rattle.step_meaning.specs.Names.{truth, of_truth, integer, moved as moved_pointer, distance, compared}
use Rattle.step_meaning.specs.Memory.{Memory, Block, room_at, reached, stored, with_block, freed}
use Rattle.step_meaning.specs.Steps.{Trace}
use Rattle.step_meaning.specs.State.{State, unset_registers, Lvalue, InRegister, At, designated, register_at, set_register}
use Rattle.step_meaning.specs.Flow.{RestingCall}
use Rattle.step_meaning.specs.Accesses.{brought_to, converted_to, answer}
use Rattle.step_meaning.specs.Allocation.{block_for, block_pointer}
use Rattle.step_meaning.specs.Statements.{Completion, Next, Broken, Continued, Returned}
use Rattle.step_meaning.specs.Runs.{start_memory, start_ghosts}
use Rattle.step_meaning.specs.Calls.{value_or_zero, without_frame, with_frame, first_frame, first_ghosts}
use Rattle.run_turns.specs.Pending

-- the state of a machine, without the core and the input
pub record Configuration : Type 0 where
  pub work : List Pending.Pending
  pub told : Pending.Told
  pub context : Pending.Context
  pub memory : Memory
  pub ghosts : Memory
  pub made : ℕ
  -- how many heap blocks were made
  pub allocated : ℕ

abbrev pub state_of : Configuration → List ℕ → State
state_of m input = record { memory = m.memory; ghosts = m.ghosts; input = input; made = m.made; allocated = m.allocated }

-- the rest of the run, with calls and loops of this meaning
abbrev pub rest_of : Core → (ℕ → List Value → RestingCall) → ℕ → Configuration → List ℕ → Trace
rest_of q call k m input = Pending.resume q call k m.work m.told m.context (state_of m input)

-- a machine before the first step
abbrev pub start : Core → Configuration
start q =
    record {
      work = Pending.Enter q.start 0 ∷ [];
      told = Pending.Left Next;
      context = record { here = record { function = 0; activation = 0 }; registers = []; callers = []; arguments = [] };
      memory = start_memory q;
      ghosts = start_ghosts q;
      made = 0;
      allocated = 0;
    }

-- ---- what a turn makes: a step or none, and the state after it

pub record Turn : Type 0 where
  pub step : Option Action
  pub after : Configuration

abbrev pub moved : Configuration → Turn
moved m = record { step = None; after = m }

abbrev pub makes : Action → Configuration → Turn
makes a m = record { step = Some a; after = m }

abbrev pub pushed : Pending.Pending → Configuration → Configuration
pushed p m = record m { work = p ∷ m.work }

abbrev pub telling : Pending.Told → Configuration → Configuration
telling t m = record m { told = t }

abbrev pub giving : Value → Configuration → Configuration
giving v m = telling (Pending.Gave v) m

-- what was told is used up
abbrev pub ready : Configuration → Configuration
ready m = telling (Pending.Left Next) m

abbrev pub left_by : Completion → Configuration → Configuration
left_by l m = telling (Pending.Left l) m

-- a fault is due
abbrev pub halted : RunFault → Configuration → Configuration
halted f m = pushed (Pending.Halt f) (ready m)

-- what no typed program does: the run ends by a fault that is no step
abbrev pub spent : Configuration → Configuration
spent m = pushed (Pending.Over fault.Invalid) m

abbrev pub finished : Result ℤ RunFault → Configuration → Configuration
finished (Ok z) m = giving (value.Int z) m
finished (Err f) m = halted f m

abbrev pub decided : Result Bool RunFault → Configuration → Configuration
decided (Ok b) m = giving (of_truth b) m
decided (Err f) m = halted f m

-- ---- accesses

abbrev pub holding : Option Cell → Configuration → Configuration
holding None m = halted fault.Invalid m
holding (Some Nothing) m = halted fault.Uninit m
holding (Some (Holds v)) m = giving v m

abbrev pub loaded : CType → Lvalue → Configuration → Turn
loaded t (InRegister i) m = moved (holding (register_at m.context.registers i t) m)
loaded t (At p) m = makes (act.Read p) (holding (reached m.memory p t) m)

abbrev pub written : Value → Value → Option Cell → Configuration → Configuration
written p v None m = halted fault.Invalid m
written p v (Some c) m = giving v (record m { memory = stored m.memory p (Holds v) })

abbrev pub written_register : ℕ → Value → Option Cell → Configuration → Configuration
written_register i v None m = halted fault.Invalid m
written_register i v (Some c) m = giving v (record m { context = record m.context { registers = set_register m.context.registers i v } })

abbrev pub kept : CType → Lvalue → Value → Configuration → Turn
kept t (InRegister i) v m = moved (written_register i v (register_at m.context.registers i t) m)
kept t (At p) v m = makes (act.Write p v) (written p v (reached m.memory p t) m)

-- ---- a part that waits for nothing

abbrev pub evaluated : Expr → Configuration → Configuration
evaluated (Literal k z) m = giving (value.Int z) m
evaluated Null m = giving value.Null m
evaluated (Load p t) m = pushed (Pending.Locate p) (pushed (Pending.Accessed (Pending.LoadAt t)) m)
evaluated (Address p t) m = pushed (Pending.Locate p) (pushed (Pending.Accessed Pending.AddressOf) m)
evaluated (Convert' k b (more_of-Expr e end_of-Expr)) m = pushed (Pending.Evaluate e) (pushed (Pending.Operate (Pending.Convert k)) m)
evaluated (Unary' o k b (more_of-Expr e end_of-Expr)) m = pushed (Pending.Evaluate e) (pushed (Pending.Operate (Pending.Unary o k)) m)
evaluated (Binary' o k b (more_of-Expr e end_of-Expr) c (more_of-Expr f end_of-Expr)) m = pushed (Pending.Evaluate e) (pushed (Pending.Operate (Pending.BinaryRight o k f)) m)
evaluated (Compare' o b (more_of-Expr e end_of-Expr) c (more_of-Expr f end_of-Expr)) m = pushed (Pending.Evaluate e) (pushed (Pending.Operate (Pending.CompareRight o f)) m)
evaluated (Not' b (more_of-Expr e end_of-Expr)) m = pushed (Pending.Evaluate e) (pushed (Pending.Operate Pending.Negated) m)
evaluated (Both' b (more_of-Expr e end_of-Expr) c (more_of-Expr f end_of-Expr)) m = pushed (Pending.Evaluate e) (pushed (Pending.Operate (Pending.BothRight f)) m)
evaluated (Either' b (more_of-Expr e end_of-Expr) c (more_of-Expr f end_of-Expr)) m = pushed (Pending.Evaluate e) (pushed (Pending.Operate (Pending.EitherRight f)) m)
evaluated (Choose' b (more_of-Expr e end_of-Expr) c (more_of-Expr f end_of-Expr) d (more_of-Expr g end_of-Expr)) m = pushed (Pending.Evaluate e) (pushed (Pending.Operate (Pending.Choose f g)) m)
evaluated (Assign' p t b (more_of-Expr e end_of-Expr)) m = pushed (Pending.Locate p) (pushed (Pending.Accessed (Pending.AssignRight t e)) m)
evaluated (Invoke' f b es) m = pushed (Pending.Arguments f (items-the_row-Expr _ es) 0) m
evaluated GetChar m = pushed Pending.Input m
evaluated (PutChar' b (more_of-Expr e end_of-Expr)) m = pushed (Pending.Evaluate e) (pushed Pending.Output m)
evaluated (Discard' b (more_of-Expr e end_of-Expr)) m = pushed (Pending.Evaluate e) (pushed (Pending.Operate Pending.Discard) m)
evaluated (Move' b (more_of-Expr e end_of-Expr) c (more_of-Expr f end_of-Expr) size side) m = pushed (Pending.Evaluate e) (pushed (Pending.Operate (Pending.MoveRight size side f)) m)
evaluated (Difference' b (more_of-Expr e end_of-Expr) c (more_of-Expr f end_of-Expr) unit) m = pushed (Pending.Evaluate e) (pushed (Pending.Operate (Pending.DifferenceRight unit f)) m)
evaluated (Update' p t o b (more_of-Expr e end_of-Expr) w) m = pushed (Pending.Locate p) (pushed (Pending.Accessed (Pending.UpdateOld t o e w)) m)
evaluated (Malloc' b (more_of-Expr e end_of-Expr) t) m = pushed (Pending.Evaluate e) (pushed (Pending.Operate (Pending.Allocate t)) m)
evaluated (Free' b (more_of-Expr e end_of-Expr)) m = pushed (Pending.Evaluate e) (pushed (Pending.Operate Pending.Release) m)

abbrev pub located : Place_ → Configuration → Configuration
located (Own v) m = telling (Pending.Found (designated m.context.here.activation v 0)) m
located (Deref' b (more_of-Expr e end_of-Expr)) m = pushed (Pending.Evaluate e) (pushed (Pending.Designate Pending.Dereference) m)
located (Member' b (more_of-Place_ p end_of-Place_) o) m = pushed (Pending.Locate p) (pushed (Pending.Select (Pending.MemberAt o)) m)
located (Index' b (more_of-Place_ p end_of-Place_) c (more_of-Expr e end_of-Expr) size) m = pushed (Pending.Locate p) (pushed (Pending.Select (Pending.ElementAt e size)) m)

abbrev pub answering : Option Expr → Configuration → Configuration
answering None m = left_by (Returned None) m
answering (Some e) m = pushed (Pending.Evaluate e) (pushed (Pending.Conclude (st.Return (Some e))) m)

abbrev pub executed : Stmt → Configuration → Configuration
executed st.Empty m = m
executed (st.Eval e) m = pushed (Pending.Evaluate e) (pushed Pending.Ignore m)
executed (st.Init v o t e) m = pushed (Pending.Evaluate e) (pushed (Pending.Conclude (st.Init v o t e)) m)
executed (st.Block' b ss) m = pushed (Pending.Pass (Pending.Rest (items-the_row-Stmt _ ss))) m
executed (st.If' e b (more_of-Stmt s end_of-Stmt) c (more_of-Stmt u end_of-Stmt)) m = pushed (Pending.Evaluate e) (pushed (Pending.Conclude (st.If' e b (more_of-Stmt s end_of-Stmt) c (more_of-Stmt u end_of-Stmt))) m)
executed (st.While' e b (more_of-Stmt s end_of-Stmt)) m = pushed (Pending.Pass (Pending.Again (st.While' e b (more_of-Stmt s end_of-Stmt)))) m
executed (st.Do' b (more_of-Stmt s end_of-Stmt) e) m = pushed (Pending.Pass (Pending.Again (st.Do' b (more_of-Stmt s end_of-Stmt) e))) m
executed (st.For' test step b (more_of-Stmt s end_of-Stmt)) m = pushed (Pending.Pass (Pending.Again (st.For' test step b (more_of-Stmt s end_of-Stmt)))) m
executed st.Break m = left_by Broken m
executed st.Continue m = left_by Continued m
executed (st.Return e) m = answering e m
-- to come
executed (st.Ghost g) m = pushed (Pending.Execute (st.Ghost g)) m
executed (st.Assert v k r) m = pushed (Pending.Execute (st.Assert v k r)) m

-- ---- pointers

-- a pointer and an integer in elements of so many cells
abbrev pub elements_moved : Memory → Side → ℕ → Value → Value → Result Value RunFault
elements_moved memory PointerFirst size a b = moved_pointer a (room_at memory a) (integer b *ℤ pos size)
elements_moved memory PointerLast size a b = moved_pointer b (room_at memory b) (integer a *ℤ pos size)
elements_moved memory Minus size a b = moved_pointer a (room_at memory a) (neg_ℤ (integer b *ℤ pos size))

abbrev pub pointing : Result Value RunFault → Configuration → Configuration
pointing (Ok p) m = giving p m
pointing (Err f) m = halted f m

abbrev pub designated_by : Result Value RunFault → Configuration → Configuration
designated_by (Ok p) m = telling (Pending.Found (At p)) m
designated_by (Err f) m = halted f m

-- the object so many cells after that which an lvalue designates
abbrev pub object_after : Lvalue → ℤ → Configuration → Configuration
object_after (InRegister i) by m = spent m
object_after (At p) by m = designated_by (moved_pointer p (room_at m.memory p) by) m

-- ---- compound assignments

abbrev pub new_integer : IntKind → CType → Result ℤ RunFault → Result Value RunFault
new_integer k t (Ok z) = Ok (value.Int (converted_to k t z))
new_integer k t (Err f) = Err f

-- the new value at a place of this type
abbrev pub new_value : Memory → CType → UpdateOp → Value → Value → Result Value RunFault
new_value memory t (Integer o k) old v = new_integer k t (binary_of o k (brought_to k t (integer old)) (integer v))
new_value memory t (Forward size) old v = moved_pointer old (room_at memory old) (integer v *ℤ pos size)
new_value memory t (Backward size) old v = moved_pointer old (room_at memory old) (neg_ℤ (integer v *ℤ pos size))

-- the write of the new value, and the value of the whole after it
abbrev pub updating : CType → Answer → Lvalue → Value → Result Value RunFault → Configuration → Configuration
updating t w l old (Ok new) m = pushed (Pending.Operate (Pending.Store t l)) (pushed (Pending.Operate (Pending.Instead (answer w old new))) (giving new m))
updating t w l old (Err f) m = halted f m

-- ---- the heap

abbrev pub allocated_block : ℕ → Option Block → Configuration → Turn
allocated_block count None m = makes (act.Malloc count value.Null 0) (giving value.Null m)
allocated_block count (Some b) m = makes (act.Malloc count (block_pointer m.allocated) (length b)) (giving (block_pointer m.allocated) (record m { memory = with_block m.allocated b m.memory; allocated = suc m.allocated }))

abbrev pub allocating : Core → CType → Value → Configuration → Turn
allocating q t v m = allocated_block (low_bits 64 (integer v)) (block_for q.layouts t (low_bits 64 (integer v))) m

abbrev pub released : Option Memory → Configuration → Configuration
released None m = halted fault.BadFree m
released (Some memory) m = giving (value.Int (pos 0)) (record m { memory = memory })

-- ---- a part that waits for a value

abbrev pub operated : Core → Pending.Operand → Value → Configuration → Turn
operated q (Pending.Convert k) v m = moved (giving (value.Int (converted k (integer v))) m)
operated q (Pending.Unary o k) v m = moved (finished (unary_of o k (integer v)) m)
operated q (Pending.BinaryRight o k f) v m = moved (pushed (Pending.Evaluate f) (pushed (Pending.Operate (Pending.BinaryNow o k v)) (ready m)))
operated q (Pending.BinaryNow o k v) w m = moved (finished (binary_of o k (integer v) (integer w)) m)
operated q (Pending.CompareRight o f) v m = moved (pushed (Pending.Evaluate f) (pushed (Pending.Operate (Pending.CompareNow o v)) (ready m)))
operated q (Pending.CompareNow o v) w m = moved (decided (compared o v w) m)
operated q Pending.Negated v m = moved (giving (of_truth (not (truth v))) m)
operated q (Pending.BothRight f) v m = moved (cond (truth v) (pushed (Pending.Evaluate f) (pushed (Pending.Operate Pending.Truth) (ready m))) (giving (of_truth false) m))
operated q (Pending.EitherRight f) v m = moved (cond (truth v) (giving (of_truth true) m) (pushed (Pending.Evaluate f) (pushed (Pending.Operate Pending.Truth) (ready m))))
operated q Pending.Truth v m = moved (giving (of_truth (truth v)) m)
operated q (Pending.Choose f g) v m = moved (pushed (Pending.Evaluate (cond (truth v) f g)) (ready m))
operated q Pending.Discard v m = moved (giving (value.Int (pos 0)) m)
operated q (Pending.MoveRight size side f) v m = moved (pushed (Pending.Evaluate f) (pushed (Pending.Operate (Pending.MoveNow size side v)) (ready m)))
operated q (Pending.MoveNow size side v) w m = moved (pointing (elements_moved m.memory side size v w) m)
operated q (Pending.DifferenceRight unit f) v m = moved (pushed (Pending.Evaluate f) (pushed (Pending.Operate (Pending.DifferenceNow unit v)) (ready m)))
operated q (Pending.DifferenceNow unit v) w m = moved (finished (distance v w unit) m)
operated q (Pending.Store t l) v m = kept t l v m
operated q (Pending.UpdateRight t o e w l) old m = moved (pushed (Pending.Evaluate e) (pushed (Pending.Operate (Pending.UpdateNow t o w l old)) (ready m)))
operated q (Pending.UpdateNow t o w l old) v m = moved (updating t w l old (new_value m.memory t o old v) m)
operated q (Pending.Instead v) w m = moved (giving v m)
operated q (Pending.Allocate t) v m = allocating q t v m
operated q Pending.Release v m = makes (act.Free v) (released (freed m.memory v) m)

-- a part that waits for an lvalue
abbrev pub accessed : Pending.Access → Lvalue → Configuration → Turn
accessed (Pending.LoadAt t) l m = loaded t l m
accessed Pending.AddressOf (At p) m = moved (giving p m)
accessed Pending.AddressOf (InRegister i) m = moved (spent m)
accessed (Pending.AssignRight t e) l m = moved (pushed (Pending.Evaluate e) (pushed (Pending.Operate (Pending.Store t l)) (ready m)))
accessed (Pending.UpdateOld t o e w) l m = loaded t l (pushed (Pending.Operate (Pending.UpdateRight t o e w l)) m)

abbrev pub selected : Pending.Selection → Lvalue → Configuration → Configuration
selected (Pending.MemberAt o) l m = object_after l (pos o) m
selected (Pending.ElementAt e size) l m = pushed (Pending.Evaluate e) (pushed (Pending.Designate (Pending.ElementNow l size)) (ready m))

abbrev pub designating : Pending.Designation → Value → Configuration → Configuration
designating Pending.Dereference v m = telling (Pending.Found (At v)) m
designating (Pending.ElementNow l size) i m = object_after l (integer i *ℤ pos size) m

abbrev pub concluded : Stmt → Value → Configuration → Configuration
concluded (st.Init x o t e) v m = pushed (Pending.Operate (Pending.Store t (designated m.context.here.activation x o))) (pushed Pending.Ignore (giving v m))
concluded (st.If' e b (more_of-Stmt s end_of-Stmt) c (more_of-Stmt u end_of-Stmt)) v m = pushed (Pending.Execute (cond (truth v) s u)) (ready m)
concluded (st.While' e b (more_of-Stmt s end_of-Stmt)) v m = cond (truth v) (pushed (Pending.Execute s) (ready m)) (left_by Broken m)
concluded (st.Do' b (more_of-Stmt s end_of-Stmt) e) v m = cond (truth v) (ready m) (left_by Broken m)
concluded (st.For' test step b (more_of-Stmt s end_of-Stmt)) v m = cond (truth v) (pushed (Pending.Execute s) (pushed (Pending.Pass (Pending.TurnEnd (st.For' test step b (more_of-Stmt s end_of-Stmt)))) (ready m))) (left_by Broken m)
concluded (st.Return e) v m = left_by (Returned (Some v)) m
concluded s v m = ready m

-- ---- a part that waits until a statement is left

abbrev pub next_of : List Stmt → Configuration → Configuration
next_of [] m = m
next_of (s ∷ ss) m = pushed (Pending.Execute s) (pushed (Pending.Pass (Pending.Rest ss)) m)

abbrev pub on_next : Configuration → Completion → Configuration → Configuration
on_next n Next m = n
on_next n Broken m = left_by Broken m
on_next n Continued m = left_by Continued m
on_next n (Returned v) m = left_by (Returned v) m

abbrev pub at_turn_end : Configuration → Completion → Configuration → Configuration
at_turn_end n Next m = n
at_turn_end n Continued m = n
at_turn_end n Broken m = left_by Broken m
at_turn_end n (Returned v) m = left_by (Returned v) m

abbrev pub stepping : Option Expr → Configuration → Configuration
stepping None m = ready m
stepping (Some e) m = pushed (Pending.Evaluate e) (pushed Pending.Ignore (ready m))

-- the turn of a loop, which stays on the stack below it
abbrev pub turning : Stmt → Configuration → Configuration
turning (st.While' e b (more_of-Stmt s end_of-Stmt)) m = pushed (Pending.Evaluate e) (pushed (Pending.Conclude (st.While' e b (more_of-Stmt s end_of-Stmt))) m)
turning (st.Do' b (more_of-Stmt s end_of-Stmt) e) m = pushed (Pending.Execute s) (pushed (Pending.Pass (Pending.TurnEnd (st.Do' b (more_of-Stmt s end_of-Stmt) e))) m)
turning (st.For' None step b (more_of-Stmt s end_of-Stmt)) m = pushed (Pending.Execute s) (pushed (Pending.Pass (Pending.TurnEnd (st.For' None step b (more_of-Stmt s end_of-Stmt)))) m)
turning (st.For' (Some e) step b (more_of-Stmt s end_of-Stmt)) m = pushed (Pending.Evaluate e) (pushed (Pending.Conclude (st.For' (Some e) step b (more_of-Stmt s end_of-Stmt))) m)
turning s m = pushed (Pending.Execute s) m

abbrev pub ending : Stmt → Configuration → Configuration
ending (st.Do' b (more_of-Stmt s end_of-Stmt) e) m = pushed (Pending.Evaluate e) (pushed (Pending.Conclude (st.Do' b (more_of-Stmt s end_of-Stmt) e)) (ready m))
ending (st.For' test step b (more_of-Stmt s end_of-Stmt)) m = stepping step m
ending s m = ready m

-- a loop that is left, or goes on: then one turn begins
abbrev pub looped : Stmt → Completion → Configuration → Turn
looped s Next m = makes act.Turn (turning s (pushed (Pending.Pass (Pending.Again s)) (ready m)))
looped s Continued m = makes act.Turn (turning s (pushed (Pending.Pass (Pending.Again s)) (ready m)))
looped s Broken m = moved (ready m)
looped s (Returned v) m = moved (left_by (Returned v) m)

abbrev pub passed : Pending.Passing → Completion → Configuration → Turn
passed (Pending.Rest ss) l m = moved (on_next (next_of ss (ready m)) l m)
passed (Pending.Again s) l m = looped s l m
passed (Pending.TurnEnd s) l m = moved (at_turn_end (ending s m) l m)

-- ---- `getchar` and `putchar`

-- the value of the next byte of the input, or -1 at its end
abbrev pub byte_read : List ℕ → Value
byte_read [] = value.Int (negsuc 0)
byte_read (b ∷ bs) = value.Int (pos (b % 256))

abbrev pub after_byte : List ℕ → List ℕ
after_byte [] = []
after_byte (b ∷ bs) = bs

-- the byte that is written
abbrev pub byte_of : Value → ℕ
byte_of v = low_bits 8 (integer v)

abbrev pub put : Value → Configuration → Turn
put v m = makes (act.Output (byte_of v)) (giving (value.Int (pos (byte_of v))) m)

-- ---- calls

abbrev pub arguing : ℕ → List Expr → ℕ → Configuration → Turn
arguing f [] n m = makes (act.Call f) (pushed (Pending.Enter f n) m)
arguing f (e ∷ es) n m = moved (pushed (Pending.Evaluate e) (pushed (Pending.Argument f es n) m))

abbrev pub argued : ℕ → List Expr → ℕ → Value → Configuration → Configuration
argued f es n v m = pushed (Pending.Arguments f es (suc n)) (ready (record m { context = record m.context { arguments = v ∷ m.context.arguments } }))

-- the end of an activation that gives this back
abbrev pub closed : ℕ → Option Value → Configuration → Turn
closed g v m = makes (act.Return g v) (giving (value_or_zero v) (record m { context = Pending.back_to m.context.callers m.context; memory = without_frame m.memory; ghosts = without_frame m.ghosts }))

abbrev pub returned : ℕ → CType → Option Value → Configuration → Turn
returned g type.Void None m = closed g None m
returned g type.Void (Some v) m = moved (spent m)
returned g t None m = moved (spent m)
returned g t (Some v) m = closed g (Some v) m

abbrev pub fallen_off : ℕ → Bool → CType → Configuration → Turn
fallen_off g true t m = closed g (Some (value.Int (pos 0))) m
fallen_off g false type.Void m = closed g None m
fallen_off g false t m = moved (halted fault.NoReturn m)

abbrev pub given_back : ℕ → Bool → CType → Completion → Configuration → Turn
given_back g is_main t (Returned v) m = returned g t v m
given_back g is_main t Next m = fallen_off g is_main t m
given_back g is_main t Broken m = moved (spent m)
given_back g is_main t Continued m = moved (spent m)

-- an activation of the function with this number that begins to run
abbrev pub entered : Core → ℕ → Function → List Stmt → ℕ → Configuration → Configuration
entered q g f body n m =
    record {
      work = Pending.Pass (Pending.Rest body) ∷ Pending.Leave g f.result ∷ m.work;
      told = Pending.Left Next;
      context = record {
        here = record { function = g; activation = m.made };
        registers = unset_registers f.registers;
        callers = record { here = m.context.here; registers = m.context.registers } ∷ m.context.callers;
        arguments = drop n m.context.arguments;
      };
      memory = with_frame (first_frame q.layouts f m.made (Pending.reversed_onto (take n m.context.arguments) [])) m.memory;
      ghosts = with_frame (first_ghosts q.layouts f m.made) m.ghosts;
      made = suc m.made;
      allocated = m.allocated;
    }

-- ---- the turn at a pending part that was taken off the stack, but for input and the start of an activation. A part passes on what it doesn't wait for

abbrev pub turn_at : Core → Pending.Pending → Pending.Told → Configuration → Turn
turn_at q (Pending.Evaluate e) (Pending.Left Next) m = moved (evaluated e (ready m))
turn_at q (Pending.Locate p) (Pending.Left Next) m = moved (located p (ready m))
turn_at q (Pending.Execute s) (Pending.Left Next) m = moved (executed s (ready m))
turn_at q (Pending.Operate o) (Pending.Gave v) m = operated q o v m
turn_at q (Pending.Accessed a) (Pending.Found l) m = accessed a l m
turn_at q (Pending.Select x) (Pending.Found l) m = moved (selected x l (ready m))
turn_at q (Pending.Designate x) (Pending.Gave v) m = moved (designating x v (ready m))
turn_at q (Pending.Conclude s) (Pending.Gave v) m = moved (concluded s v m)
turn_at q (Pending.Pass x) (Pending.Left l) m = passed x l m
turn_at q (Pending.Arguments f es n) (Pending.Left Next) m = arguing f es n (ready m)
turn_at q (Pending.Argument f es n) (Pending.Gave v) m = moved (argued f es n v m)
turn_at q (Pending.Leave g t) (Pending.Left l) m = given_back g (g == q.start) t l m
turn_at q Pending.Ignore (Pending.Gave v) m = moved (ready m)
turn_at q Pending.Output (Pending.Gave v) m = put v m
turn_at q (Pending.Halt f) t m = makes (act.Halt f) (pushed (Pending.Over f) m)
turn_at q p t m = moved m
