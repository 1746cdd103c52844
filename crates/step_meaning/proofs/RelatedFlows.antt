-- Two flows whose operations are related give related meanings: one line for each form of the meaning.
use Rattle.std.proofs.Common.{◌≡◌, ℕ, zero, suc, Bool, true, false, cond, List, [], ◌∷◌, Option, Some, None, Result, Ok, Err}
use Rattle.std.specs.Prelude.{ℤ, slice_get, option_map}
use Rattle.step_meaning.specs.declared.value.CType.{CType}
use Rattle.step_meaning.specs.declared.value.CType.TheVariants as type
use Rattle.step_meaning.specs.declared.value.Value.{Value}
use Rattle.step_meaning.specs.declared.value.Value.TheVariants as value
use Rattle.step_meaning.specs.declared.value.Cell.{Cell}
use Rattle.step_meaning.specs.declared.value.Cell.TheVariants.{Nothing, Holds}
use Rattle.step_meaning.specs.declared.value.Action.{Action}
use Rattle.step_meaning.specs.declared.value.Action.TheVariants as act
use Rattle.step_meaning.specs.declared.value.RunFault.{RunFault}
use Rattle.step_meaning.specs.declared.value.RunFault.TheVariants as fault
use Rattle.step_meaning.specs.declared.expr.Side.{Side}
use Rattle.step_meaning.specs.declared.expr.Side.TheVariants.{PointerFirst, PointerLast, Minus}
use Rattle.step_meaning.specs.declared.expr.UpdateOp.{UpdateOp}
use Rattle.step_meaning.specs.declared.expr.UpdateOp.TheVariants.{Integer, Forward, Backward}
use Rattle.step_meaning.specs.declared.expr.Expr.{Expr, Row_of-Expr, end_of-Expr, more_of-Expr}
use Rattle.step_meaning.specs.declared.expr.Expr.TheVariants.{Literal, Null, Load, Address, Convert', Unary', Binary', Compare', Move', Difference', Not', Both', Either', Choose', Assign', Update', Invoke', GetChar, PutChar', Malloc', Free', Discard', Own, Deref', Member', Index'}
use Rattle.step_meaning.specs.declared.expr.Place_.{Place_, end_of-Place_, more_of-Place_}
use Rattle.step_meaning.specs.declared.predicate.Predicate.{Predicate}
use Rattle.step_meaning.specs.declared.stmt.VerdictKind.{VerdictKind}
use Rattle.step_meaning.specs.declared.stmt.GhostStmt.{GhostStmt}
use Rattle.step_meaning.specs.declared.stmt.Stmt.{Stmt, Row_of-Stmt, end_of-Stmt, more_of-Stmt}
use Rattle.step_meaning.specs.declared.stmt.Stmt.TheVariants as st
use Rattle.step_meaning.specs.declared.program.Core.{Core}
use Rattle.step_meaning.specs.declared.program.Function.{Function}
use Rattle.step_meaning.specs.declared.program.Layout.{Layout}
use Rattle.step_meaning.specs.Numbers.{low_bits}
use Rattle.step_meaning.specs.Names.{truth, of_truth, integer, moved}
use Rattle.step_meaning.specs.Memory.{Memory, Block, room_at, reached, stored, freed}
use Rattle.step_meaning.specs.Steps.{End, More, Fault}
use Rattle.step_meaning.specs.State.{Here, Registers, Lvalue, InRegister, At, register_at, set_register, designated}
use Rattle.step_meaning.specs.Accesses as acc
use Rattle.step_meaning.specs.Allocation as al
use Rattle.step_meaning.specs.Allocation.{block_for}
use Rattle.step_meaning.specs.Expressions as ex
use Rattle.step_meaning.specs.Statements as sm
use Rattle.step_meaning.specs.Statements.{Completion, Next, Broken, Continued, Returned}
use Rattle.step_meaning.specs.Calls as ca
use Rattle.step_meaning.specs.Calls.{annotations, after_annotations}
use Rattle.step_meaning.specs.Flow.{Flow}

-- a relation between what parts of programs do in one flow and in another, and one between calls, that the operations keep
pub record RelatedFlows (F F' : Flow) : Type 1 where
  pub AreRelated : {A : Type 0} → F.Does A → F'.Does A → Type 0
  pub AreRelatedCalls : F.Plain → F'.Plain → Type 0
  pub pure : {A : Type 0} (a : A) → AreRelated (F.pure a) (F'.pure a)
  pub bind : {A B : Type 0} {d : F.Does A} {d' : F'.Does A} {f : A → F.Does B} {f' : A → F'.Does B} → AreRelated d d' → ((a : A) → AreRelated (f a) (f' a)) → AreRelated (F.bind d f) (F'.bind d' f')
  pub stop : {A : Type 0} (e : End) → AreRelated (F.stop {A = A} e) (F'.stop e)
  pub halt : {A : Type 0} (here : Here) (f : RunFault) → AreRelated (F.halt {A = A} here f) (F'.halt here f)
  pub misuse : {A : Type 0} (here : Here) (f : RunFault) → AreRelated (F.misuse {A = A} here f) (F'.misuse here f)
  pub get : AreRelated F.get F'.get
  pub put_memory : (m : Memory) → AreRelated (F.put_memory m) (F'.put_memory m)
  pub put_ghosts : (m : Memory) → AreRelated (F.put_ghosts m) (F'.put_ghosts m)
  pub put_input : (bs : List ℕ) → AreRelated (F.put_input bs) (F'.put_input bs)
  pub put_made : (n : ℕ) → AreRelated (F.put_made n) (F'.put_made n)
  pub put_allocated : (n : ℕ) → AreRelated (F.put_allocated n) (F'.put_allocated n)
  pub registers : AreRelated F.registers F'.registers
  pub put_registers : (r : Registers) → AreRelated (F.put_registers r) (F'.put_registers r)
  pub emit : (here : Here) (a : Action) → AreRelated (F.emit here a) (F'.emit here a)
  pub judge : (j : ℕ) (v : VerdictKind) (b : Bool) → AreRelated (F.judge j v b) (F'.judge j v b)
  pub through : {d : F.Plain} {d' : F'.Plain} → AreRelatedCalls d d' → AreRelated (F.through d) (F'.through d')

module _ (F F' : Flow) (rel : RelatedFlows F F') where
  related_then : {A B : Type 0} {d : F.Does A} {d' : F'.Does A} {e : F.Does B} {e' : F'.Does B} → rel.AreRelated d d' → rel.AreRelated e e' → rel.AreRelated (F.bind d (λ a. e)) (F'.bind d' (λ a. e'))
  related_then a b = rel.bind a (λ v. b)

  related_cond : {A : Type 0} (b : Bool) {d e : F.Does A} {d' e' : F'.Does A} → rel.AreRelated d d' → rel.AreRelated e e' → rel.AreRelated (cond b d e) (cond b d' e')
  related_cond true p q = p
  related_cond false p q = q

  module _ (here : Here) where
    related_checked : {A : Type 0} (c : Result A RunFault) → rel.AreRelated (acc.checked F here c) (acc.checked F' here c)
    related_checked (Ok a) = rel.pure a
    related_checked (Err f) = rel.halt here f

    related_held_register : (c : Option Cell) → rel.AreRelated (acc.held_register F here c) (acc.held_register F' here c)
    related_held_register None = rel.misuse here fault.Invalid
    related_held_register (Some Nothing) = rel.misuse here fault.Uninit
    related_held_register (Some (Holds v)) = rel.pure v

    related_held : (c : Option Cell) → rel.AreRelated (acc.held F here c) (acc.held F' here c)
    related_held None = rel.halt here fault.Invalid
    related_held (Some Nothing) = rel.halt here fault.Uninit
    related_held (Some (Holds v)) = rel.pure v

    related_load : (t : CType) (p : Lvalue) → rel.AreRelated (acc.load F here t p) (acc.load F' here t p)
    related_load t (InRegister i) = rel.bind rel.registers (λ r. related_held_register (register_at r i t))
    related_load t (At p) = related_then (rel.emit here (act.Read p)) (rel.bind rel.get (λ s. related_held (reached s.memory p t)))

    related_write_at : (p v : Value) (c : Option Cell) → rel.AreRelated (acc.write_at F here p v c) (acc.write_at F' here p v c)
    related_write_at p v None = rel.halt here fault.Invalid
    related_write_at p v (Some c) = rel.bind rel.get (λ s. related_then (rel.put_memory (stored s.memory p (Holds v))) (rel.pure v))

    related_write_register : (i : ℕ) (v : Value) (c : Option Cell) → rel.AreRelated (acc.write_register F here i v c) (acc.write_register F' here i v c)
    related_write_register i v None = rel.misuse here fault.Invalid
    related_write_register i v (Some c) = rel.bind rel.registers (λ r. related_then (rel.put_registers (set_register r i v)) (rel.pure v))

    related_store : (t : CType) (p : Lvalue) (v : Value) → rel.AreRelated (acc.store F here t p v) (acc.store F' here t p v)
    related_store t (InRegister i) v = rel.bind rel.registers (λ r. related_write_register i v (register_at r i t))
    related_store t (At p) v = related_then (rel.emit here (act.Write p v)) (rel.bind rel.get (λ s. related_write_at p v (reached s.memory p t)))

    related_move_by : (p : Value) (by : ℤ) → rel.AreRelated (acc.move_by F here p by) (acc.move_by F' here p by)
    related_move_by p by = rel.bind rel.get (λ s. related_checked (moved p (room_at s.memory p) by))

    related_address_of : (l : Lvalue) → rel.AreRelated (acc.address_of F l) (acc.address_of F' l)
    related_address_of (InRegister i) = rel.stop (Fault fault.Invalid)
    related_address_of (At p) = rel.pure p

    related_object_after : (l : Lvalue) (by : ℤ) → rel.AreRelated (acc.object_after F here l by) (acc.object_after F' here l by)
    related_object_after l by = rel.bind (related_address_of l) (λ p. rel.bind (related_move_by p by) (λ q. rel.pure (At q)))

    related_int : (c : Result ℤ RunFault) → rel.AreRelated (acc.as_int F (acc.checked F here c)) (acc.as_int F' (acc.checked F' here c))
    related_int c = rel.bind (related_checked c) (λ z. rel.pure (value.Int z))

    related_truth : (c : Result Bool RunFault) → rel.AreRelated (acc.as_truth F (acc.checked F here c)) (acc.as_truth F' (acc.checked F' here c))
    related_truth c = rel.bind (related_checked c) (λ b. rel.pure (of_truth b))

    related_move_elements : (side : Side) (size : ℕ) (a b : Value) → rel.AreRelated (acc.move_elements F here side size a b) (acc.move_elements F' here side size a b)
    related_move_elements PointerFirst size a b = related_move_by a _
    related_move_elements PointerLast size a b = related_move_by b _
    related_move_elements Minus size a b = related_move_by a _

    related_updated : (t : CType) (o : UpdateOp) (old v : Value) → rel.AreRelated (acc.updated F here t o old v) (acc.updated F' here t o old v)
    related_updated t (Integer o k) old v = rel.bind (rel.bind (related_checked _) (λ z. rel.pure _)) (λ z. rel.pure _)
    related_updated t (Forward size) old v = related_move_by old _
    related_updated t (Backward size) old v = related_move_by old _

    related_next_byte : (bs : List ℕ) → rel.AreRelated (acc.next_byte F here bs) (acc.next_byte F' here bs)
    related_next_byte [] = rel.pure _
    related_next_byte (b ∷ bs) = related_then (rel.put_input bs) (rel.pure _)

    related_get_char : rel.AreRelated (acc.get_char F here) (acc.get_char F' here)
    related_get_char = related_then (rel.emit here act.Input) (rel.bind rel.get (λ s. related_next_byte s.input))

    related_put_char : (v : Value) → rel.AreRelated (acc.put_char F here v) (acc.put_char F' here v)
    related_put_char v = related_then (rel.emit here _) (rel.pure _)

    related_allocate_block : (count : ℕ) (b : Option Block) → rel.AreRelated (al.allocate_block F here count b) (al.allocate_block F' here count b)
    related_allocate_block count None = related_then (rel.emit here _) (rel.pure value.Null)
    related_allocate_block count (Some b) = rel.bind rel.get (λ s. related_then (rel.emit here _) (related_then (rel.put_memory _) (related_then (rel.put_allocated _) (rel.pure _))))

    related_allocate : (ls : List Layout) (t : CType) (v : Value) → rel.AreRelated (al.allocate F here ls t v) (al.allocate F' here ls t v)
    related_allocate ls t v = related_allocate_block (low_bits 64 (integer v)) (block_for ls t (low_bits 64 (integer v)))

    related_release_to : (m : Option Memory) → rel.AreRelated (al.release_to F here m) (al.release_to F' here m)
    related_release_to None = rel.halt here fault.BadFree
    related_release_to (Some m) = related_then (rel.put_memory m) (rel.pure _)

    related_release : (p : Value) → rel.AreRelated (al.release F here p) (al.release F' here p)
    related_release p = related_then (rel.emit here (act.Free p)) (rel.bind rel.get (λ s. related_release_to (freed s.memory p)))

    related_ghost_code : (ls : List Layout) (g : GhostStmt) → rel.AreRelated (sm.ghost_code F ls here g) (sm.ghost_code F' ls here g)
    related_ghost_code ls g = rel.bind rel.get (λ s. rel.bind rel.registers (λ r. rel.put_ghosts _))

    related_assertion : (ls : List Layout) (v : VerdictKind) (k : ℕ) (r : Predicate) → rel.AreRelated (sm.assertion F ls here v k r) (sm.assertion F' ls here v k r)
    related_assertion ls v k p = rel.bind rel.get (λ s. rel.bind rel.registers (λ r. rel.judge k v _))

  -- ---- expressions

  module _ (ls : List Layout) (here : Here) (call : ℕ → List Value → F.Plain) (call' : ℕ → List Value → F'.Plain) (h : (g : ℕ) (vs : List Value) → rel.AreRelatedCalls (call g vs) (call' g vs)) where
    mutual
      related_eval : (e : Expr) → rel.AreRelated (ex.eval F ls call here e) (ex.eval F' ls call' here e)
      related_eval (Literal k z) = rel.pure _
      related_eval Null = rel.pure _
      related_eval (Load p t) = rel.bind (related_place p) (related_load here t)
      related_eval (Address p t) = rel.bind (related_place p) (related_address_of here)
      related_eval (Convert' k b (more_of-Expr e end_of-Expr)) = rel.bind (related_eval e) (λ v. rel.pure _)
      related_eval (Unary' o k b (more_of-Expr e end_of-Expr)) = rel.bind (related_eval e) (λ v. related_int here _)
      related_eval (Binary' o k b (more_of-Expr e end_of-Expr) c (more_of-Expr f end_of-Expr)) = rel.bind (related_eval e) (λ v. rel.bind (related_eval f) (λ w. related_int here _))
      related_eval (Compare' o b (more_of-Expr e end_of-Expr) c (more_of-Expr f end_of-Expr)) = rel.bind (related_eval e) (λ v. rel.bind (related_eval f) (λ w. related_truth here _))
      related_eval (Move' b (more_of-Expr e end_of-Expr) c (more_of-Expr f end_of-Expr) size side) = rel.bind (related_eval e) (λ v. rel.bind (related_eval f) (λ w. related_move_elements here side size v w))
      related_eval (Difference' b (more_of-Expr e end_of-Expr) c (more_of-Expr f end_of-Expr) unit) = rel.bind (related_eval e) (λ v. rel.bind (related_eval f) (λ w. related_int here _))
      related_eval (Not' b (more_of-Expr e end_of-Expr)) = rel.bind (related_eval e) (λ v. rel.pure _)
      related_eval (Both' b (more_of-Expr e end_of-Expr) c (more_of-Expr f end_of-Expr)) = rel.bind (related_eval e) (λ v. related_cond (truth v) (rel.bind (related_eval f) (λ w. rel.pure _)) (rel.pure _))
      related_eval (Either' b (more_of-Expr e end_of-Expr) c (more_of-Expr f end_of-Expr)) = rel.bind (related_eval e) (λ v. related_cond (truth v) (rel.pure _) (rel.bind (related_eval f) (λ w. rel.pure _)))
      related_eval (Choose' b (more_of-Expr e end_of-Expr) c (more_of-Expr f end_of-Expr) d (more_of-Expr g end_of-Expr)) = rel.bind (related_eval e) (λ v. related_cond (truth v) (related_eval f) (related_eval g))
      related_eval (Assign' p t b (more_of-Expr e end_of-Expr)) = rel.bind (related_place p) (λ a. rel.bind (related_eval e) (related_store here t a))
      related_eval (Update' p t o b (more_of-Expr e end_of-Expr) w) = rel.bind (related_place p) (λ a. rel.bind (related_load here t a) (λ old. rel.bind (related_eval e) (λ v. rel.bind (related_updated here t o old v) (λ new. related_then (related_store here t a new) (rel.pure _)))))
      related_eval (Invoke' f b es) = rel.bind (related_all es) (λ vs. related_then (rel.emit here _) (rel.through (h f vs)))
      related_eval GetChar = related_get_char here
      related_eval (PutChar' b (more_of-Expr e end_of-Expr)) = rel.bind (related_eval e) (related_put_char here)
      related_eval (Malloc' b (more_of-Expr e end_of-Expr) t) = rel.bind (related_eval e) (related_allocate here ls t)
      related_eval (Free' b (more_of-Expr e end_of-Expr)) = rel.bind (related_eval e) (related_release here)
      related_eval (Discard' b (more_of-Expr e end_of-Expr)) = related_then (related_eval e) (rel.pure _)

      related_place : (p : Place_) → rel.AreRelated (ex.place F ls call here p) (ex.place F' ls call' here p)
      related_place (Own v) = rel.pure _
      related_place (Deref' b (more_of-Expr e end_of-Expr)) = rel.bind (related_eval e) (λ a. rel.pure _)
      related_place (Member' b (more_of-Place_ p end_of-Place_) o) = rel.bind (related_place p) (λ l. related_object_after here l _)
      related_place (Index' b (more_of-Place_ p end_of-Place_) c (more_of-Expr e end_of-Expr) size) = rel.bind (related_place p) (λ l. rel.bind (related_eval e) (λ i. related_object_after here l _))

      related_all : {k : _} (e : Row_of-Expr k) → rel.AreRelated (ex.all F ls call here e) (ex.all F' ls call' here e)
      related_all end_of-Expr = rel.pure _
      related_all (more_of-Expr e more) = rel.bind (related_eval e) (λ v. rel.bind (related_all more) (λ vs. rel.pure _))

  -- ---- statements

  module _ where
    related_on_next : {d : F.Does Completion} {d' : F'.Does Completion} → rel.AreRelated d d' → (l : Completion) → rel.AreRelated (sm.on_next F d l) (sm.on_next F' d' l)
    related_on_next a Next = a
    related_on_next a Broken = rel.pure _
    related_on_next a Continued = rel.pure _
    related_on_next a (Returned v) = rel.pure _

    related_at_end : {d : F.Does Completion} {d' : F'.Does Completion} → rel.AreRelated d d' → (l : Completion) → rel.AreRelated (sm.at_turn_end F d l) (sm.at_turn_end F' d' l)
    related_at_end a Next = a
    related_at_end a Broken = rel.pure _
    related_at_end a Continued = a
    related_at_end a (Returned v) = rel.pure _

    related_after_turn : {d : F.Does Completion} {d' : F'.Does Completion} → rel.AreRelated d d' → (l : Completion) → rel.AreRelated (sm.after_turn F d l) (sm.after_turn F' d' l)
    related_after_turn a Next = a
    related_after_turn a Continued = a
    related_after_turn a Broken = rel.pure _
    related_after_turn a (Returned v) = rel.pure _

  related_turns : (here : Here) {d : F.Does Completion} {d' : F'.Does Completion} → rel.AreRelated d d' → (k : ℕ) → rel.AreRelated (sm.turns F here d k) (sm.turns F' here d' k)
  related_turns here x zero = rel.stop More
  related_turns here x (suc k) = related_then (rel.emit here act.Turn) (rel.bind x (related_after_turn (related_turns here x k)))

  module _ (ls : List Layout) (here : Here) (call : ℕ → List Value → F.Plain) (call' : ℕ → List Value → F'.Plain) (h : (g : ℕ) (vs : List Value) → rel.AreRelatedCalls (call g vs) (call' g vs)) (k : ℕ) where
    related_value : (e : Expr) → rel.AreRelated (ex.eval F ls call here e) (ex.eval F' ls call' here e)
    related_value = related_eval ls here call call' h

    related_when : (o : Option Expr) {d : F.Does Completion} {d' : F'.Does Completion} → rel.AreRelated d d' → rel.AreRelated (sm.when_test F (option_map (ex.eval F ls call here) o) d) (sm.when_test F' (option_map (ex.eval F' ls call' here) o) d')
    related_when None a = a
    related_when (Some e) a = rel.bind (related_value e) (λ v. related_cond (truth v) a (rel.pure Broken))

    related_step_of : (o : Option Expr) → rel.AreRelated (sm.loop_step F (option_map (ex.eval F ls call here) o)) (sm.loop_step F' (option_map (ex.eval F' ls call' here) o))
    related_step_of None = rel.pure Next
    related_step_of (Some e) = rel.bind (related_value e) (λ v. rel.pure Next)

    related_return : (o : Option Expr) → rel.AreRelated (sm.exec_return F ls call here k o) (sm.exec_return F' ls call' here k o)
    related_return None = rel.pure _
    related_return (Some e) = rel.bind (related_value e) (λ v. rel.pure _)

    mutual
      related_exec : (s : Stmt) → rel.AreRelated (sm.exec F ls call here k s) (sm.exec F' ls call' here k s)
      related_exec st.Empty = rel.pure _
      related_exec (st.Eval e) = related_then (related_value e) (rel.pure _)
      related_exec (st.Init v o t e) = rel.bind (related_value e) (λ w. related_then (related_store here t (designated here.activation v o) w) (rel.pure Next))
      related_exec (st.Block' b ss) = related_row ss
      related_exec (st.If' e b (more_of-Stmt s end_of-Stmt) c (more_of-Stmt u end_of-Stmt)) = rel.bind (related_value e) (λ v. related_cond (truth v) (related_exec s) (related_exec u))
      related_exec (st.While' e b (more_of-Stmt s end_of-Stmt)) = related_turns here (related_when (Some e) (related_exec s)) k
      related_exec (st.Do' b (more_of-Stmt s end_of-Stmt) e) = related_turns here (rel.bind (related_exec s) (related_at_end (related_when (Some e) (rel.pure Next)))) k
      related_exec (st.For' test step b (more_of-Stmt s end_of-Stmt)) = related_turns here (related_when test (rel.bind (related_exec s) (related_at_end (related_step_of step)))) k
      related_exec st.Break = rel.pure _
      related_exec st.Continue = rel.pure _
      related_exec (st.Return e) = related_return e
      related_exec (st.Ghost g) = related_then (related_ghost_code here ls g) (rel.pure _)
      related_exec (st.Assert v j r) = related_then (related_assertion here ls v j r) (rel.pure _)

      related_row : {j : _} (ss : Row_of-Stmt j) → rel.AreRelated (sm.exec_row F ls call here k ss) (sm.exec_row F' ls call' here k ss)
      related_row end_of-Stmt = rel.pure _
      related_row (more_of-Stmt s more) = rel.bind (related_exec s) (related_on_next (related_row more))

    related_exec_all : (ss : List Stmt) → rel.AreRelated (sm.exec_all F ls call here k ss) (sm.exec_all F' ls call' here k ss)
    related_exec_all [] = rel.pure _
    related_exec_all (s ∷ ss) = rel.bind (related_exec s) (related_on_next (related_exec_all ss))

  -- annotations make no call
  module _ (ls : List Layout) (here : Here) (call : ℕ → List Value → F.Plain) (call' : ℕ → List Value → F'.Plain) (k : ℕ) where
    related_annotations : (ss : List Stmt) → rel.AreRelated (sm.exec_all F ls call here k (annotations ss)) (sm.exec_all F' ls call' here k (annotations ss))
    related_annotations (st.Ghost g ∷ ss) = rel.bind (related_then (related_ghost_code here ls g) (rel.pure Next)) (related_on_next (related_annotations ss))
    related_annotations (st.Assert v j r ∷ ss) = rel.bind (related_then (related_assertion here ls v j r) (rel.pure Next)) (related_on_next (related_annotations ss))
    related_annotations _ = rel.pure _

  -- ---- calls and runs

  module _ where
    related_open : (ls : List Layout) (f : Function) (vs : List Value) → rel.AreRelated (ca.open_frame F ls f vs) (ca.open_frame F' ls f vs)
    related_open ls f vs = rel.bind rel.get (λ s. related_then (rel.put_memory _) (related_then (rel.put_ghosts _) (rel.put_made _)))

    related_close : rel.AreRelated (ca.close_frame F) (ca.close_frame F')
    related_close = rel.bind rel.get (λ s. related_then (rel.put_memory _) (rel.put_ghosts _))

    related_returned : (t : CType) (v : Option Value) → rel.AreRelated (ca.returned F t v) (ca.returned F' t v)
    related_returned type.Void None = rel.pure None
    related_returned type.Void (Some v) = rel.stop _
    related_returned _ None = rel.stop _
    related_returned _ (Some v) = rel.pure (Some v)

    related_fallen_off : (here : Here) (b : Bool) (t : CType) → rel.AreRelated (ca.fallen_off F here b t) (ca.fallen_off F' here b t)
    related_fallen_off here true t = rel.pure _
    related_fallen_off here false type.Void = rel.pure _
    related_fallen_off here false _ = rel.halt here _

    related_given : (here : Here) (b : Bool) (t : CType) (l : Completion) → rel.AreRelated (ca.given_back F here b t l) (ca.given_back F' here b t l)
    related_given here b t (Returned v) = related_returned t v
    related_given here b t Next = related_fallen_off here b t
    related_given here b t Broken = rel.stop _
    related_given here b t Continued = rel.stop _

  module _ (q : Core) (k : ℕ) where
    pub related_activation : (call : ℕ → List Value → F.Plain) (call' : ℕ → List Value → F'.Plain) → ((g : ℕ) (vs : List Value) → rel.AreRelatedCalls (call g vs) (call' g vs)) → (g : ℕ) (f : Function) (body : List Stmt) (vs : List Value) → rel.AreRelated (ca.activation F q k call g f body vs) (ca.activation F' q k call' g f body vs)
    related_activation call call' h g f body vs =
        rel.bind rel.get (λ s.
        let here : Here = record { function = g; activation = s.made } in
        related_then (related_open q.layouts f vs)
        (related_then (related_annotations q.layouts here call call' k body)
        (related_then (rel.emit here (act.Enter g vs))
        (rel.bind (related_exec_all q.layouts here call call' h k (after_annotations body)) (λ l.
        rel.bind (related_given here _ f.result l) (λ v.
        related_then (rel.emit here _) (related_then related_close (rel.pure _))))))))
