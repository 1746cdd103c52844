-- The two flows tell one run: one line for each form of the meaning.
use Rattle.std.proofs.Common.{◌≡◌, ℕ, zero, suc, Bool, true, false, List, [], ◌∷◌, Option, Some, None, Result, Ok, Err, refl, ◌∙◌}
use Rattle.std.specs.Prelude.{ℤ, slice_get, option_map}
use Rattle.step_meaning.specs.declared.value.CType.{CType}
use Rattle.step_meaning.specs.declared.value.CType.TheVariants as type
use Rattle.step_meaning.specs.declared.value.Value.{Value}
use Rattle.step_meaning.specs.declared.value.Value.TheVariants as value
use Rattle.step_meaning.specs.declared.value.Cell.{Cell}
use Rattle.step_meaning.specs.declared.value.Cell.TheVariants.{Nothing, Holds}
use Rattle.step_meaning.specs.declared.value.Action.TheVariants as act
use Rattle.step_meaning.specs.declared.value.RunFault.{RunFault}
use Rattle.step_meaning.specs.declared.value.RunFault.TheVariants as fault
use Rattle.step_meaning.specs.declared.expr.Side.{Side}
use Rattle.step_meaning.specs.declared.expr.Side.TheVariants.{PointerFirst, PointerLast, Minus}
use Rattle.step_meaning.specs.declared.expr.UpdateOp.{UpdateOp}
use Rattle.step_meaning.specs.declared.expr.UpdateOp.TheVariants.{Integer, Forward, Backward}
use Rattle.step_meaning.specs.declared.expr.Expr.{Expr, Row_of-Expr, end_of-Expr, more_of-Expr}
use Rattle.step_meaning.specs.declared.expr.Expr.TheVariants.{Literal, Null, Load, Address, Convert', Unary', Binary', Compare', Move', Difference', Not', Both', Either', Choose', Assign', Update', Invoke', GetChar, PutChar', Malloc', Free', Discard', Own, Deref', Member', Index'}
use Rattle.step_meaning.specs.declared.expr.Place_.{Place_, end_of-Place_, more_of-Place_}
use Rattle.step_meaning.specs.declared.predicate.Predicate.{Predicate}
use Rattle.step_meaning.specs.declared.stmt.VerdictKind.{VerdictKind}
use Rattle.step_meaning.specs.declared.stmt.GhostStmt.{GhostStmt}
use Rattle.step_meaning.specs.declared.stmt.Stmt.{Stmt, Row_of-Stmt, end_of-Stmt, more_of-Stmt}
use Rattle.step_meaning.specs.declared.stmt.Stmt.TheVariants as st
use Rattle.step_meaning.specs.declared.program.Core.{Core}
use Rattle.step_meaning.specs.declared.program.Function.{Function}
use Rattle.step_meaning.specs.declared.program.Layout.{Layout}
use Rattle.step_meaning.specs.Numbers.{low_bits}
use Rattle.step_meaning.specs.Names.{truth, of_truth, integer, moved}
use Rattle.step_meaning.specs.Memory.{Memory, Block, room_at, reached, stored, freed}
use Rattle.step_meaning.specs.Steps.{More, Fault, Stop}
use Rattle.step_meaning.specs.State.{Here, unset_registers, Lvalue, InRegister, At, register_at, set_register, designated}
use Rattle.step_meaning.specs.Flow.{resting, Resting, RestingCall, direct, Direct, DirectCall, CallGives, Returned as ReturnedCall, Ended}
use Rattle.step_meaning.specs.Accesses as acc
use Rattle.step_meaning.specs.Allocation as al
use Rattle.step_meaning.specs.Allocation.{block_for}
use Rattle.step_meaning.specs.Expressions as ex
use Rattle.step_meaning.specs.Statements as sm
use Rattle.step_meaning.specs.Statements.{Completion, Next, Broken, Continued, Returned}
use Rattle.step_meaning.specs.Calls as ca
use Rattle.step_meaning.specs.Calls.{annotations, after_annotations}
use Rattle.step_meaning.specs.Runs.{run, direct_run, logged_by, start_state, start_world, exit_of, trace_of}
use Rattle.step_meaning.proofs.Tells.{rest_after_call, Tells, CallTells, tells_bind, tells_then, tells_pure, tells_stop, tells_get, tells_put_memory, tells_put_ghosts, tells_put_input, tells_put_made, tells_put_allocated, tells_registers, tells_put_registers, tells_judge, tells_halt, tells_misuse, tells_cond, tells_emit, call_tells_alone, tells_through}

module _ (here : Here) where
  pub tells_checked : {A : Type 0} (c : Result A RunFault) → Tells (acc.checked resting here c) (acc.checked direct here c)
  tells_checked (Ok a) = tells_pure a
  tells_checked (Err f) = tells_halt here f

  pub tells_held_register : (c : Option Cell) → Tells (acc.held_register resting here c) (acc.held_register direct here c)
  tells_held_register None = tells_misuse here fault.Invalid
  tells_held_register (Some Nothing) = tells_misuse here fault.Uninit
  tells_held_register (Some (Holds v)) = tells_pure v

  pub tells_held : (c : Option Cell) → Tells (acc.held resting here c) (acc.held direct here c)
  tells_held None = tells_halt here fault.Invalid
  tells_held (Some Nothing) = tells_halt here fault.Uninit
  tells_held (Some (Holds v)) = tells_pure v

  pub tells_load : (t : CType) (p : Lvalue) → Tells (acc.load resting here t p) (acc.load direct here t p)
  tells_load t (InRegister i) = tells_bind tells_registers (λ r. tells_held_register (register_at r i t))
  tells_load t (At p) = tells_then (tells_emit here (act.Read p)) (tells_bind tells_get (λ s. tells_held (reached s.memory p t)))

  pub tells_write_at : (p v : Value) (c : Option Cell) → Tells (acc.write_at resting here p v c) (acc.write_at direct here p v c)
  tells_write_at p v None = tells_halt here fault.Invalid
  tells_write_at p v (Some c) = tells_bind tells_get (λ s. tells_then (tells_put_memory (stored s.memory p (Holds v))) (tells_pure v))

  pub tells_write_register : (i : ℕ) (v : Value) (c : Option Cell) → Tells (acc.write_register resting here i v c) (acc.write_register direct here i v c)
  tells_write_register i v None = tells_misuse here fault.Invalid
  tells_write_register i v (Some c) = tells_bind tells_registers (λ r. tells_then (tells_put_registers (set_register r i v)) (tells_pure v))

  pub tells_store : (t : CType) (p : Lvalue) (v : Value) → Tells (acc.store resting here t p v) (acc.store direct here t p v)
  tells_store t (InRegister i) v = tells_bind tells_registers (λ r. tells_write_register i v (register_at r i t))
  tells_store t (At p) v = tells_then (tells_emit here (act.Write p v)) (tells_bind tells_get (λ s. tells_write_at p v (reached s.memory p t)))

  pub tells_move_by : (p : Value) (by : ℤ) → Tells (acc.move_by resting here p by) (acc.move_by direct here p by)
  tells_move_by p by = tells_bind tells_get (λ s. tells_checked (moved p (room_at s.memory p) by))

  pub tells_address_of : (l : Lvalue) → Tells (acc.address_of resting l) (acc.address_of direct l)
  tells_address_of (InRegister i) = tells_stop (Fault fault.Invalid)
  tells_address_of (At p) = tells_pure p

  pub tells_object_after : (l : Lvalue) (by : ℤ) → Tells (acc.object_after resting here l by) (acc.object_after direct here l by)
  tells_object_after l by = tells_bind (tells_address_of l) (λ p. tells_bind (tells_move_by p by) (λ q. tells_pure (At q)))

  pub tells_int : (c : Result ℤ RunFault) → Tells (acc.as_int resting (acc.checked resting here c)) (acc.as_int direct (acc.checked direct here c))
  tells_int c = tells_bind (tells_checked c) (λ z. tells_pure (value.Int z))

  pub tells_truth : (c : Result Bool RunFault) → Tells (acc.as_truth resting (acc.checked resting here c)) (acc.as_truth direct (acc.checked direct here c))
  tells_truth c = tells_bind (tells_checked c) (λ b. tells_pure (of_truth b))

  pub tells_move_elements : (side : Side) (size : ℕ) (a b : Value) → Tells (acc.move_elements resting here side size a b) (acc.move_elements direct here side size a b)
  tells_move_elements PointerFirst size a b = tells_move_by a _
  tells_move_elements PointerLast size a b = tells_move_by b _
  tells_move_elements Minus size a b = tells_move_by a _

  pub tells_updated : (t : CType) (o : UpdateOp) (old v : Value) → Tells (acc.updated resting here t o old v) (acc.updated direct here t o old v)
  tells_updated t (Integer o k) old v = tells_bind (tells_bind (tells_checked _) (λ z. tells_pure _)) (λ z. tells_pure _)
  tells_updated t (Forward size) old v = tells_move_by old _
  tells_updated t (Backward size) old v = tells_move_by old _

  pub tells_next_byte : (bs : List ℕ) → Tells (acc.next_byte resting here bs) (acc.next_byte direct here bs)
  tells_next_byte [] = tells_pure _
  tells_next_byte (b ∷ bs) = tells_then (tells_put_input bs) (tells_pure _)

  pub tells_get_char : Tells (acc.get_char resting here) (acc.get_char direct here)
  tells_get_char = tells_then (tells_emit here act.Input) (tells_bind tells_get (λ s. tells_next_byte s.input))

  pub tells_put_char : (v : Value) → Tells (acc.put_char resting here v) (acc.put_char direct here v)
  tells_put_char v = tells_then (tells_emit here _) (tells_pure _)

  pub tells_allocate_block : (count : ℕ) (b : Option Block) → Tells (al.allocate_block resting here count b) (al.allocate_block direct here count b)
  tells_allocate_block count None = tells_then (tells_emit here _) (tells_pure value.Null)
  tells_allocate_block count (Some b) = tells_bind tells_get (λ s. tells_then (tells_emit here _) (tells_then (tells_put_memory _) (tells_then (tells_put_allocated _) (tells_pure _))))

  pub tells_allocate : (ls : List Layout) (t : CType) (v : Value) → Tells (al.allocate resting here ls t v) (al.allocate direct here ls t v)
  tells_allocate ls t v = tells_allocate_block (low_bits 64 (integer v)) (block_for ls t (low_bits 64 (integer v)))

  pub tells_release_to : (m : Option Memory) → Tells (al.release_to resting here m) (al.release_to direct here m)
  tells_release_to None = tells_halt here fault.BadFree
  tells_release_to (Some m) = tells_then (tells_put_memory m) (tells_pure _)

  pub tells_release : (p : Value) → Tells (al.release resting here p) (al.release direct here p)
  tells_release p = tells_then (tells_emit here (act.Free p)) (tells_bind tells_get (λ s. tells_release_to (freed s.memory p)))

  pub tells_ghost_code : (ls : List Layout) (g : GhostStmt) → Tells (sm.ghost_code resting ls here g) (sm.ghost_code direct ls here g)
  tells_ghost_code ls g = tells_bind tells_get (λ s. tells_bind tells_registers (λ r. tells_put_ghosts _))

  pub tells_assertion : (ls : List Layout) (v : VerdictKind) (k : ℕ) (r : Predicate) → Tells (sm.assertion resting ls here v k r) (sm.assertion direct ls here v k r)
  tells_assertion ls v k p = tells_bind tells_get (λ s. tells_bind tells_registers (λ r. tells_judge k v _))

-- ---- expressions

module _ (ls : List Layout) (here : Here) (call : ℕ → List Value → RestingCall) (call' : ℕ → List Value → DirectCall) (h : (g : ℕ) (vs : List Value) → CallTells (call g vs) (call' g vs)) where
  mutual
    pub tells_eval : (e : Expr) → Tells (ex.eval resting ls call here e) (ex.eval direct ls call' here e)
    tells_eval (Literal k z) = tells_pure _
    tells_eval Null = tells_pure _
    tells_eval (Load p t) = tells_bind (tells_place p) (tells_load here t)
    tells_eval (Address p t) = tells_bind (tells_place p) (tells_address_of here)
    tells_eval (Convert' k b (more_of-Expr e end_of-Expr)) = tells_bind (tells_eval e) (λ v. tells_pure _)
    tells_eval (Unary' o k b (more_of-Expr e end_of-Expr)) = tells_bind (tells_eval e) (λ v. tells_int here _)
    tells_eval (Binary' o k b (more_of-Expr e end_of-Expr) c (more_of-Expr f end_of-Expr)) = tells_bind (tells_eval e) (λ v. tells_bind (tells_eval f) (λ w. tells_int here _))
    tells_eval (Compare' o b (more_of-Expr e end_of-Expr) c (more_of-Expr f end_of-Expr)) = tells_bind (tells_eval e) (λ v. tells_bind (tells_eval f) (λ w. tells_truth here _))
    tells_eval (Move' b (more_of-Expr e end_of-Expr) c (more_of-Expr f end_of-Expr) size side) = tells_bind (tells_eval e) (λ v. tells_bind (tells_eval f) (λ w. tells_move_elements here side size v w))
    tells_eval (Difference' b (more_of-Expr e end_of-Expr) c (more_of-Expr f end_of-Expr) unit) = tells_bind (tells_eval e) (λ v. tells_bind (tells_eval f) (λ w. tells_int here _))
    tells_eval (Not' b (more_of-Expr e end_of-Expr)) = tells_bind (tells_eval e) (λ v. tells_pure _)
    tells_eval (Both' b (more_of-Expr e end_of-Expr) c (more_of-Expr f end_of-Expr)) = tells_bind (tells_eval e) (λ v. tells_cond (truth v) (tells_bind (tells_eval f) (λ w. tells_pure _)) (tells_pure _))
    tells_eval (Either' b (more_of-Expr e end_of-Expr) c (more_of-Expr f end_of-Expr)) = tells_bind (tells_eval e) (λ v. tells_cond (truth v) (tells_pure _) (tells_bind (tells_eval f) (λ w. tells_pure _)))
    tells_eval (Choose' b (more_of-Expr e end_of-Expr) c (more_of-Expr f end_of-Expr) d (more_of-Expr g end_of-Expr)) = tells_bind (tells_eval e) (λ v. tells_cond (truth v) (tells_eval f) (tells_eval g))
    tells_eval (Assign' p t b (more_of-Expr e end_of-Expr)) = tells_bind (tells_place p) (λ a. tells_bind (tells_eval e) (tells_store here t a))
    tells_eval (Update' p t o b (more_of-Expr e end_of-Expr) w) = tells_bind (tells_place p) (λ a. tells_bind (tells_load here t a) (λ old. tells_bind (tells_eval e) (λ v. tells_bind (tells_updated here t o old v) (λ new. tells_then (tells_store here t a new) (tells_pure _)))))
    tells_eval (Invoke' f b es) = tells_bind (tells_all es) (λ vs. tells_then (tells_emit here _) (tells_through (h f vs)))
    tells_eval GetChar = tells_get_char here
    tells_eval (PutChar' b (more_of-Expr e end_of-Expr)) = tells_bind (tells_eval e) (tells_put_char here)
    tells_eval (Malloc' b (more_of-Expr e end_of-Expr) t) = tells_bind (tells_eval e) (tells_allocate here ls t)
    tells_eval (Free' b (more_of-Expr e end_of-Expr)) = tells_bind (tells_eval e) (tells_release here)
    tells_eval (Discard' b (more_of-Expr e end_of-Expr)) = tells_then (tells_eval e) (tells_pure _)

    pub tells_place : (p : Place_) → Tells (ex.place resting ls call here p) (ex.place direct ls call' here p)
    tells_place (Own v) = tells_pure _
    tells_place (Deref' b (more_of-Expr e end_of-Expr)) = tells_bind (tells_eval e) (λ a. tells_pure _)
    tells_place (Member' b (more_of-Place_ p end_of-Place_) o) = tells_bind (tells_place p) (λ l. tells_object_after here l _)
    tells_place (Index' b (more_of-Place_ p end_of-Place_) c (more_of-Expr e end_of-Expr) size) = tells_bind (tells_place p) (λ l. tells_bind (tells_eval e) (λ i. tells_object_after here l _))

    pub tells_all : {k : _} (e : Row_of-Expr k) → Tells (ex.all resting ls call here e) (ex.all direct ls call' here e)
    tells_all end_of-Expr = tells_pure _
    tells_all (more_of-Expr e more) = tells_bind (tells_eval e) (λ v. tells_bind (tells_all more) (λ vs. tells_pure _))

-- ---- statements

module _ where
  pub tells_on_next : {d : Resting Completion} {d' : Direct Completion} → Tells d d' → (l : Completion) → Tells (sm.on_next resting d l) (sm.on_next direct d' l)
  tells_on_next a Next = a
  tells_on_next a Broken = tells_pure _
  tells_on_next a Continued = tells_pure _
  tells_on_next a (Returned v) = tells_pure _

  pub tells_at_end : {d : Resting Completion} {d' : Direct Completion} → Tells d d' → (l : Completion) → Tells (sm.at_turn_end resting d l) (sm.at_turn_end direct d' l)
  tells_at_end a Next = a
  tells_at_end a Broken = tells_pure _
  tells_at_end a Continued = a
  tells_at_end a (Returned v) = tells_pure _

  pub tells_after_turn : {d : Resting Completion} {d' : Direct Completion} → Tells d d' → (l : Completion) → Tells (sm.after_turn resting d l) (sm.after_turn direct d' l)
  tells_after_turn a Next = a
  tells_after_turn a Continued = a
  tells_after_turn a Broken = tells_pure _
  tells_after_turn a (Returned v) = tells_pure _

pub tells_turns : (here : Here) {d : Resting Completion} {d' : Direct Completion} → Tells d d' → (k : ℕ) → Tells (sm.turns resting here d k) (sm.turns direct here d' k)
tells_turns here x zero = tells_stop More
tells_turns here x (suc k) = tells_then (tells_emit here act.Turn) (tells_bind x (tells_after_turn (tells_turns here x k)))

module _ (ls : List Layout) (here : Here) (call : ℕ → List Value → RestingCall) (call' : ℕ → List Value → DirectCall) (h : (g : ℕ) (vs : List Value) → CallTells (call g vs) (call' g vs)) (k : ℕ) where
  pub tells_value : (e : Expr) → Tells (ex.eval resting ls call here e) (ex.eval direct ls call' here e)
  tells_value = tells_eval ls here call call' h

  pub tells_when : (o : Option Expr) {d : Resting Completion} {d' : Direct Completion} → Tells d d' → Tells (sm.when_test resting (option_map (ex.eval resting ls call here) o) d) (sm.when_test direct (option_map (ex.eval direct ls call' here) o) d')
  tells_when None a = a
  tells_when (Some e) a = tells_bind (tells_value e) (λ v. tells_cond (truth v) a (tells_pure Broken))

  pub tells_step_of : (o : Option Expr) → Tells (sm.loop_step resting (option_map (ex.eval resting ls call here) o)) (sm.loop_step direct (option_map (ex.eval direct ls call' here) o))
  tells_step_of None = tells_pure Next
  tells_step_of (Some e) = tells_bind (tells_value e) (λ v. tells_pure Next)

  pub tells_return : (o : Option Expr) → Tells (sm.exec_return resting ls call here k o) (sm.exec_return direct ls call' here k o)
  tells_return None = tells_pure _
  tells_return (Some e) = tells_bind (tells_value e) (λ v. tells_pure _)

  mutual
    pub tells_exec : (s : Stmt) → Tells (sm.exec resting ls call here k s) (sm.exec direct ls call' here k s)
    tells_exec st.Empty = tells_pure _
    tells_exec (st.Eval e) = tells_then (tells_value e) (tells_pure _)
    tells_exec (st.Init v o t e) = tells_bind (tells_value e) (λ w. tells_then (tells_store here t (designated here.activation v o) w) (tells_pure Next))
    tells_exec (st.Block' b ss) = tells_row ss
    tells_exec (st.If' e b (more_of-Stmt s end_of-Stmt) c (more_of-Stmt u end_of-Stmt)) = tells_bind (tells_value e) (λ v. tells_cond (truth v) (tells_exec s) (tells_exec u))
    tells_exec (st.While' e b (more_of-Stmt s end_of-Stmt)) = tells_turns here (tells_when (Some e) (tells_exec s)) k
    tells_exec (st.Do' b (more_of-Stmt s end_of-Stmt) e) = tells_turns here (tells_bind (tells_exec s) (tells_at_end (tells_when (Some e) (tells_pure Next)))) k
    tells_exec (st.For' test step b (more_of-Stmt s end_of-Stmt)) = tells_turns here (tells_when test (tells_bind (tells_exec s) (tells_at_end (tells_step_of step)))) k
    tells_exec st.Break = tells_pure _
    tells_exec st.Continue = tells_pure _
    tells_exec (st.Return e) = tells_return e
    tells_exec (st.Ghost g) = tells_then (tells_ghost_code here ls g) (tells_pure _)
    tells_exec (st.Assert v j r) = tells_then (tells_assertion here ls v j r) (tells_pure _)

    pub tells_row : {j : _} (ss : Row_of-Stmt j) → Tells (sm.exec_row resting ls call here k ss) (sm.exec_row direct ls call' here k ss)
    tells_row end_of-Stmt = tells_pure _
    tells_row (more_of-Stmt s more) = tells_bind (tells_exec s) (tells_on_next (tells_row more))

  pub tells_exec_all : (ss : List Stmt) → Tells (sm.exec_all resting ls call here k ss) (sm.exec_all direct ls call' here k ss)
  tells_exec_all [] = tells_pure _
  tells_exec_all (s ∷ ss) = tells_bind (tells_exec s) (tells_on_next (tells_exec_all ss))

-- annotations make no call
module _ (ls : List Layout) (here : Here) (call : ℕ → List Value → RestingCall) (call' : ℕ → List Value → DirectCall) (k : ℕ) where
  pub tells_annotations : (ss : List Stmt) → Tells (sm.exec_all resting ls call here k (annotations ss)) (sm.exec_all direct ls call' here k (annotations ss))
  tells_annotations (st.Ghost g ∷ ss) = tells_bind (tells_then (tells_ghost_code here ls g) (tells_pure Next)) (tells_on_next (tells_annotations ss))
  tells_annotations (st.Assert v j r ∷ ss) = tells_bind (tells_then (tells_assertion here ls v j r) (tells_pure Next)) (tells_on_next (tells_annotations ss))
  tells_annotations _ = tells_pure _

-- ---- calls and runs

module _ where
  pub tells_open : (ls : List Layout) (f : Function) (vs : List Value) → Tells (ca.open_frame resting ls f vs) (ca.open_frame direct ls f vs)
  tells_open ls f vs = tells_bind tells_get (λ s. tells_then (tells_put_memory _) (tells_then (tells_put_ghosts _) (tells_put_made _)))

  pub tells_close : Tells (ca.close_frame resting) (ca.close_frame direct)
  tells_close = tells_bind tells_get (λ s. tells_then (tells_put_memory _) (tells_put_ghosts _))

  pub tells_returned : (t : CType) (v : Option Value) → Tells (ca.returned resting t v) (ca.returned direct t v)
  tells_returned type.Void None = tells_pure None
  tells_returned type.Void (Some v) = tells_stop _
  tells_returned _ None = tells_stop _
  tells_returned _ (Some v) = tells_pure (Some v)

  pub tells_fallen_off : (here : Here) (b : Bool) (t : CType) → Tells (ca.fallen_off resting here b t) (ca.fallen_off direct here b t)
  tells_fallen_off here true t = tells_pure _
  tells_fallen_off here false type.Void = tells_pure _
  tells_fallen_off here false _ = tells_halt here _

  pub tells_given : (here : Here) (b : Bool) (t : CType) (l : Completion) → Tells (ca.given_back resting here b t l) (ca.given_back direct here b t l)
  tells_given here b t (Returned v) = tells_returned t v
  tells_given here b t Next = tells_fallen_off here b t
  tells_given here b t Broken = tells_stop _
  tells_given here b t Continued = tells_stop _

module _ (q : Core) (k : ℕ) where
  pub tells_activation : (call : ℕ → List Value → RestingCall) (call' : ℕ → List Value → DirectCall) → ((g : ℕ) (vs : List Value) → CallTells (call g vs) (call' g vs)) → (g : ℕ) (f : Function) (body : List Stmt) (vs : List Value) → Tells (ca.activation resting q k call g f body vs) (ca.activation direct q k call' g f body vs)
  tells_activation call call' h g f body vs =
      tells_bind tells_get (λ s.
      let here : Here = record { function = g; activation = s.made } in
      tells_then (tells_open q.layouts f vs)
      (tells_then (tells_annotations q.layouts here call call' k body)
      (tells_then (tells_emit here (act.Enter g vs))
      (tells_bind (tells_exec_all q.layouts here call call' h k (after_annotations body)) (λ l.
      tells_bind (tells_given here _ f.result l) (λ v.
      tells_then (tells_emit here _) (tells_then tells_close (tells_pure _))))))))

  pub tells_call_body : (call : ℕ → List Value → RestingCall) (call' : ℕ → List Value → DirectCall) → ((g : ℕ) (vs : List Value) → CallTells (call g vs) (call' g vs)) → (g : ℕ) (f : Function) (body : Option (List Stmt)) (vs : List Value) → CallTells (ca.call_body resting q k call g f body vs) (ca.call_body direct q k call' g f body vs)
  tells_call_body call call' h g f None vs = call_tells_alone [] (tells_stop (Fault fault.Invalid))
  tells_call_body call call' h g f (Some body) vs = call_tells_alone (unset_registers f.registers) (tells_activation call call' h g f body vs)

  pub tells_call_of : (call : ℕ → List Value → RestingCall) (call' : ℕ → List Value → DirectCall) → ((g : ℕ) (vs : List Value) → CallTells (call g vs) (call' g vs)) → (g : ℕ) (f : Option Function) (vs : List Value) → CallTells (ca.call_of resting q k call g f vs) (ca.call_of direct q k call' g f vs)
  tells_call_of call call' h g None vs = call_tells_alone [] (tells_stop (Fault fault.Invalid))
  tells_call_of call call' h g (Some f) vs = tells_call_body call call' h g f f.body vs

  pub tells_calls : (depth g : ℕ) (vs : List Value) → CallTells (ca.calls resting q k depth g vs) (ca.calls direct q k depth g vs)
  tells_calls zero g vs = call_tells_alone [] (tells_stop More)
  tells_calls (suc depth) g vs = tells_call_of (ca.calls resting q k depth) (ca.calls direct q k depth) (tells_calls depth) g (slice_get q.functions g) vs

pub after_exit : (b : CallGives) → rest_after_call b (λ v s. Stop (exit_of v)) ≡ trace_of (logged_by b)
after_exit (ReturnedCall v w) = refl
after_exit (Ended e l) = refl

-- for every core, input and bound
pub run_logged : (q : Core) (input : List ℕ) (k : ℕ) → run q input k ≡ trace_of (direct_run q input k)
run_logged q input k = (tells_calls q k k q.start []).by (λ v s. Stop (exit_of v)) (start_world (start_state q input)) ∙ after_exit (ca.calls direct q k k q.start [] (start_world (start_state q input)))
