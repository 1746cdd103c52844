-- The steps of a run nest as calls do, whatever the program is: no typing is needed for it.
use Rattle.std.proofs.Common.{◌≡◌, ◌==◌, ℕ, zero, suc, Bool, true, false, cond, List, [], ◌∷◌, map, length, drop, Option, Some, None, Result, Ok, Err, refl, sym, ap, subst, ◌∙◌}
use Rattle.std.specs.Prelude.{ℤ, pos, slice_get, option_map, is_some, IsTrue}
use Rattle.step_meaning.specs.declared.value.CType.{CType}
use Rattle.step_meaning.specs.declared.value.CType.TheVariants as type
use Rattle.step_meaning.specs.declared.value.NameKind.{NameKind}
use Rattle.step_meaning.specs.declared.value.NameKind.TheVariants as names
use Rattle.step_meaning.specs.declared.value.Value.{Value}
use Rattle.step_meaning.specs.declared.value.Value.TheVariants as value
use Rattle.step_meaning.specs.declared.value.Cell.{Cell}
use Rattle.step_meaning.specs.declared.value.Cell.TheVariants.{Nothing, Holds}
use Rattle.step_meaning.specs.declared.value.Action.{Action}
use Rattle.step_meaning.specs.declared.value.Action.TheVariants as act
use Rattle.step_meaning.specs.declared.value.RunFault.{RunFault}
use Rattle.step_meaning.specs.declared.value.RunFault.TheVariants as fault
use Rattle.step_meaning.specs.declared.expr.Side.{Side}
use Rattle.step_meaning.specs.declared.expr.Side.TheVariants.{PointerFirst, PointerLast, Minus}
use Rattle.step_meaning.specs.declared.expr.UpdateOp.{UpdateOp}
use Rattle.step_meaning.specs.declared.expr.UpdateOp.TheVariants.{Integer, Forward, Backward}
use Rattle.step_meaning.specs.declared.expr.Expr.{Expr, Row_of-Expr, end_of-Expr, more_of-Expr}
use Rattle.step_meaning.specs.declared.expr.Expr.TheVariants.{Literal, Null, Load, Address, Convert', Unary', Binary', Compare', Move', Difference', Not', Both', Either', Choose', Assign', Update', Invoke', GetChar, PutChar', Malloc', Free', Discard', Own, Deref', Member', Index'}
use Rattle.step_meaning.specs.declared.expr.Place_.{Place_, end_of-Place_, more_of-Place_}
use Rattle.step_meaning.specs.declared.predicate.Predicate.{Predicate}
use Rattle.step_meaning.specs.declared.stmt.VerdictKind.{VerdictKind}
use Rattle.step_meaning.specs.declared.stmt.GhostStmt.{GhostStmt}
use Rattle.step_meaning.specs.declared.stmt.Stmt.{Stmt, Row_of-Stmt, end_of-Stmt, more_of-Stmt}
use Rattle.step_meaning.specs.declared.stmt.Stmt.TheVariants as st
use Rattle.step_meaning.specs.declared.program.Core.{Core}
use Rattle.step_meaning.specs.declared.program.Function.{Function}
use Rattle.step_meaning.specs.declared.program.Layout.{Layout}
use Rattle.step_meaning.specs.declared.program.Declared.{Declared}
use Rattle.step_meaning.specs.Names.{truth, of_truth, integer, moved}
use Rattle.step_meaning.specs.Memory.{Memory, Block, empty_block, room_at, reached, set_cell, changed, stored, with_block, without, begins_block, freed}
use Rattle.step_meaning.specs.Numbers.{low_bits}
use Rattle.step_meaning.specs.Steps.{Step, End, Fault, More, Trace, Stop, steps}
use Rattle.step_meaning.specs.State.{State, Registers, Here, unset_registers, Lvalue, InRegister, At, register_at, set_register, designated}
use Rattle.step_meaning.specs.Flow.{resting, Resting, RestingCall}
use Rattle.step_meaning.specs.Accesses as acc
use Rattle.step_meaning.specs.Accesses.{converted_to}
use Rattle.step_meaning.specs.Allocation as al
use Rattle.step_meaning.specs.Allocation.{block_for, block_pointer}
use Rattle.step_meaning.specs.Expressions as ex
use Rattle.step_meaning.specs.Statements as sm
use Rattle.step_meaning.specs.Statements.{Completion, Next, Broken, Continued, Returned}
use Rattle.step_meaning.specs.Calls as ca
use Rattle.step_meaning.specs.Calls.{annotations, after_annotations, with_arguments, first_frame, with_frame, without_frame, value_or_zero}
use Rattle.step_meaning.specs.Runs.{run, start_state, exit_of}
use Rattle.step_meaning.specs.Ghosts.{ghosts_after}
use Rattle.step_meaning.specs.ExpressionTypes.{has_body}
use Rattle.step_meaning.specs.Traced.{IsFunctionOf}
use Rattle.step_meaning.proofs.Ranges.{false_is_not_true}
use Rattle.step_meaning.specs.TracedRuns.{cells_declared, cells_of_each}
use Rattle.step_meaning.proofs.TypedMemory.{WhereSome, drop_map, filled_declared, shape_of, frames_shaped}
use Rattle.step_meaning.proofs.Nesting.{local_cells, shapes, frame_shapes, Nest}

-- ---- changes of a memory keep the shapes of its frames

changed_shapes : (memory : Memory) (k : NameKind) (a : ℕ) (c : Cell) (o i : ℕ) → frame_shapes (changed memory k a i (set_cell c o)) ≡ frame_shapes memory
changed_shapes memory names.Global a c o i = refl
changed_shapes memory names.Local a c o i = frames_shaped c o i a memory.frames
changed_shapes memory names.Heap a c o zero = refl
changed_shapes memory names.Heap a c o (suc i) = refl
changed_shapes memory names.Register a c o i = refl
changed_shapes memory names.GhostGlobal a c o i = refl
changed_shapes memory names.GhostLocal a c o i = refl

stored_shapes : (memory : Memory) (p : Value) (c : Cell) → frame_shapes (stored memory p c) ≡ frame_shapes memory
stored_shapes memory (value.Pointer n o) c = changed_shapes memory n.kind n.activation c o n.index
stored_shapes memory value.Null c = refl
stored_shapes memory (value.Int z) c = refl

freed_shapes : (memory : Memory) (p : Value) → WhereSome (λ x. frame_shapes x ≡ frame_shapes memory) (freed memory p)
freed_shapes memory value.Null = refl
freed_shapes memory (value.Int z) = tt
freed_shapes memory (value.Pointer n o) = by (begins_block memory n o)
  where
    by : (b : Bool) → WhereSome (λ x. frame_shapes x ≡ frame_shapes memory) (cond b (Some (record memory { heap = without n.activation memory.heap })) None)
    by true = refl
    by false = tt

-- arguments change no shape
started_cells : (layouts : List Layout) (ds : List Declared) (vs : List Value) → map cells_declared (with_arguments (map (empty_block layouts) ds) vs) ≡ cells_of_each layouts ds
started_cells layouts [] [] = refl
started_cells layouts [] (v ∷ vs) = refl
started_cells layouts (d ∷ ds) [] = ap (λ ts. cells_declared (empty_block layouts d) ∷ ts) (started_cells layouts ds [])
started_cells layouts (d ∷ ds) (v ∷ vs) = ap (λ ts. ts ∷ map cells_declared (with_arguments (map (empty_block layouts) ds) vs)) (filled_declared (empty_block layouts d) (v ∷ [])) ∙ ap (λ ts. cells_declared (empty_block layouts d) ∷ ts) (started_cells layouts ds vs)

-- ---- parts of a run

-- the frames are those of these activations
abbrev pub Opens : Core → List Here → State → Type 0
Opens q hs s = frame_shapes s.memory ≡ shapes q hs

-- a call, where these activations are open. Where none is, it is the first
pub record CallNests (q : Core) (hs : List Here) (d : RestingCall) : Type 0 where
  pub by : (rest : Value → State → Trace) → ((v : Value) (s : State) → Opens q hs s → Nest q hs s.made (steps (rest v s))) → (s : State) → Opens q hs s → (hs ≡ [] → s.made ≡ 0) → Nest q hs s.made (steps (d rest s))

-- a step that neither opens nor closes an activation
abbrev pub IsInner : Action → Type 0
IsInner (act.Enter g vs) = ⊥
IsInner (act.Return g v) = ⊥
IsInner _ = Unit {0}

module _ (q : Core) (here : Here) (outer : List Here) (is : (f : Function) × IsFunctionOf q here.function f) where
  -- a part of this activation
  pub record Nests {A : Type 0} (d : Resting A) : Type 0 where
    pub by : (rest : A → State → Registers → Trace) → ((a : A) (s : State) (r : Registers) → Opens q (here ∷ outer) s → Nest q (here ∷ outer) s.made (steps (rest a s r))) → (s : State) (r : Registers) → Opens q (here ∷ outer) s → Nest q (here ∷ outer) s.made (steps (d rest s r))

  inner_step : (a : Action) → IsInner a → (s : State) (ss : List Step) → Opens q (here ∷ outer) s → Nest q (here ∷ outer) s.made ss → Nest q (here ∷ outer) s.made (record { action = a; function = here.function; activation = here.activation; memory = s.memory } ∷ ss)
  inner_step (act.Enter g vs) i s ss m h = absurd i
  inner_step (act.Return g v) i s ss m h = absurd i
  inner_step _ i s ss m h = (record { function = is; names_own = tt; frames = m; innermost = (outer, refl); is_new = λ e. absurd (false_is_not_true e) }, h)

  pub nest_bind : {A B : Type 0} {d : Resting A} {f : A → Resting B} → Nests d → ((a : A) → Nests (f a)) → Nests (resting.bind d f)
  nest_bind {f = f} a b = record { by = λ rest h s r m. a.by (λ x. f x rest) (λ x s r m. (b x).by rest h s r m) s r m }

  pub nest_then : {A B : Type 0} {d : Resting A} {e : Resting B} → Nests d → Nests e → Nests (resting.bind d (λ a. e))
  nest_then a b = nest_bind a (λ x. b)

  pub nest_pure : {A : Type 0} (a : A) → Nests (resting.pure a)
  nest_pure a = record { by = λ rest h s r m. h a s r m }

  pub nest_stop : {A : Type 0} (e : End) → Nests (resting.stop {A = A} e)
  nest_stop e = record { by = λ rest h s r m. tt }

  pub nest_halt : {A : Type 0} (f : RunFault) → Nests (resting.halt {A = A} here f)
  nest_halt f = record { by = λ rest h s r m. inner_step (act.Halt f) tt s [] m tt }

  pub nest_misuse : {A : Type 0} (f : RunFault) → Nests (resting.misuse {A = A} here f)
  nest_misuse f = record { by = λ rest h s r m. inner_step (act.Halt f) tt s [] m tt }

  pub nest_get : Nests resting.get
  nest_get = record { by = λ rest h s r m. h s s r m }

  pub nest_put_ghosts : (x : Memory) → Nests (resting.put_ghosts x)
  nest_put_ghosts x = record { by = λ rest h s r m. h tt (record s { ghosts = x }) r m }

  pub nest_put_input : (x : List ℕ) → Nests (resting.put_input x)
  nest_put_input x = record { by = λ rest h s r m. h tt (record s { input = x }) r m }

  pub nest_registers : Nests resting.registers
  nest_registers = record { by = λ rest h s r m. h r s r m }

  pub nest_put_registers : (x : Registers) → Nests (resting.put_registers x)
  nest_put_registers x = record { by = λ rest h s r m. h tt s x m }

  pub nest_judge : (k : ℕ) (v : VerdictKind) (b : Bool) → Nests (resting.judge k v b)
  nest_judge k v b = record { by = λ rest h s r m. h tt s r m }

  pub nest_cond : {A : Type 0} (b : Bool) {d e : Resting A} → Nests d → Nests e → Nests (cond b d e)
  nest_cond true x y = x
  nest_cond false x y = y

  pub nest_emit : (a : Action) → IsInner a → Nests (resting.emit here a)
  nest_emit a i = record { by = λ rest h s r m. inner_step a i s (steps (rest tt s r)) m (h tt s r m) }

  pub nest_through : {d : RestingCall} → CallNests q (here ∷ outer) d → Nests (resting.through d)
  nest_through a = record { by = λ rest h s r m. a.by (λ v s. rest v s r) (λ v s m. h v s r m) s m (λ e. absurd (some_is_open e)) }
    where
      some_is_open : (here ∷ outer) ≡ [] → ⊥
      some_is_open e = cc

  -- ---- accesses

  pub nest_checked : {A : Type 0} (c : Result A RunFault) → Nests (acc.checked resting here c)
  nest_checked (Ok a) = nest_pure a
  nest_checked (Err f) = nest_halt f

  pub nest_held_register : (c : Option Cell) → Nests (acc.held_register resting here c)
  nest_held_register None = nest_misuse fault.Invalid
  nest_held_register (Some Nothing) = nest_misuse fault.Uninit
  nest_held_register (Some (Holds v)) = nest_pure v

  pub nest_held : (c : Option Cell) → Nests (acc.held resting here c)
  nest_held None = nest_halt fault.Invalid
  nest_held (Some Nothing) = nest_halt fault.Uninit
  nest_held (Some (Holds v)) = nest_pure v

  pub nest_load : (t : CType) (p : Lvalue) → Nests (acc.load resting here t p)
  nest_load t (InRegister i) = nest_bind nest_registers (λ r. nest_held_register (register_at r i t))
  nest_load t (At p) = nest_then (nest_emit (act.Read p) tt) (nest_bind nest_get (λ s. nest_held (reached s.memory p t)))

  pub nest_write_at : (p v : Value) (c : Option Cell) → Nests (acc.write_at resting here p v c)
  nest_write_at p v None = nest_halt fault.Invalid
  nest_write_at p v (Some c) = record { by = λ rest h s r m. h v (record s { memory = stored s.memory p (Holds v) }) r (stored_shapes s.memory p (Holds v) ∙ m) }

  pub nest_write_register : (i : ℕ) (v : Value) (c : Option Cell) → Nests (acc.write_register resting here i v c)
  nest_write_register i v None = nest_misuse fault.Invalid
  nest_write_register i v (Some c) = nest_bind nest_registers (λ r. nest_then (nest_put_registers (set_register r i v)) (nest_pure v))

  pub nest_store : (t : CType) (p : Lvalue) (v : Value) → Nests (acc.store resting here t p v)
  nest_store t (InRegister i) v = nest_bind nest_registers (λ r. nest_write_register i v (register_at r i t))
  nest_store t (At p) v = nest_then (nest_emit (act.Write p v) tt) (nest_bind nest_get (λ s. nest_write_at p v (reached s.memory p t)))

  pub nest_move_by : (p : Value) (by : ℤ) → Nests (acc.move_by resting here p by)
  nest_move_by p by = nest_bind nest_get (λ s. nest_checked (moved p (room_at s.memory p) by))

  pub nest_address_of : (l : Lvalue) → Nests (acc.address_of resting l)
  nest_address_of (InRegister i) = nest_stop (Fault fault.Invalid)
  nest_address_of (At p) = nest_pure p

  pub nest_object_after : (l : Lvalue) (by : ℤ) → Nests (acc.object_after resting here l by)
  nest_object_after l by = nest_bind (nest_address_of l) (λ p. nest_bind (nest_move_by p by) (λ q. nest_pure (At q)))

  pub nest_int : (c : Result ℤ RunFault) → Nests (acc.as_int resting (acc.checked resting here c))
  nest_int c = nest_bind (nest_checked c) (λ z. nest_pure (value.Int z))

  pub nest_truth : (c : Result Bool RunFault) → Nests (acc.as_truth resting (acc.checked resting here c))
  nest_truth c = nest_bind (nest_checked c) (λ b. nest_pure (of_truth b))

  pub nest_move_elements : (side : Side) (size : ℕ) (a b : Value) → Nests (acc.move_elements resting here side size a b)
  nest_move_elements PointerFirst size a b = nest_move_by a _
  nest_move_elements PointerLast size a b = nest_move_by b _
  nest_move_elements Minus size a b = nest_move_by a _

  pub nest_updated : (t : CType) (o : UpdateOp) (old v : Value) → Nests (acc.updated resting here t o old v)
  nest_updated t (Integer o k) old v = nest_bind {A = ℤ} (nest_bind {A = ℤ} (nest_checked _) (λ z. nest_pure (converted_to k t z))) (λ z. nest_pure (value.Int z))
  nest_updated t (Forward size) old v = nest_move_by old _
  nest_updated t (Backward size) old v = nest_move_by old _

  pub nest_next_byte : (bs : List ℕ) → Nests (acc.next_byte resting here bs)
  nest_next_byte [] = nest_pure _
  nest_next_byte (b ∷ bs) = nest_then (nest_put_input bs) (nest_pure _)

  pub nest_get_char : Nests (acc.get_char resting here)
  nest_get_char = nest_then (nest_emit act.Input tt) (nest_bind nest_get (λ s. nest_next_byte s.input))

  pub nest_put_char : (v : Value) → Nests (acc.put_char resting here v)
  nest_put_char v = nest_then (nest_emit (act.Output (low_bits 8 (integer v))) tt) (nest_pure _)

  pub nest_allocate_block : (count : ℕ) (b : Option Block) → Nests (al.allocate_block resting here count b)
  nest_allocate_block count None = nest_then (nest_emit (act.Malloc count value.Null 0) tt) (nest_pure value.Null)
  nest_allocate_block count (Some b) = record {
    by = λ rest h s r m. inner_step (act.Malloc count (block_pointer s.allocated) (length b)) tt s _ m (h (block_pointer s.allocated) (record s { memory = with_block s.allocated b s.memory; allocated = suc s.allocated }) r m);
  }

  pub nest_allocate : (ls : List Layout) (t : CType) (v : Value) → Nests (al.allocate resting here ls t v)
  nest_allocate ls t v = nest_allocate_block (low_bits 64 (integer v)) (block_for ls t (low_bits 64 (integer v)))

  pub nest_release : (p : Value) → Nests (al.release resting here p)
  nest_release p = nest_then (nest_emit (act.Free p) tt) (record { by = λ rest h s r m. on (freed s.memory p) rest h s r (freed_shapes s.memory p) m })
    where
      on : (x : Option Memory) (rest : Value → State → Registers → Trace) → ((a : Value) (s : State) (r : Registers) → Opens q (here ∷ outer) s → Nest q (here ∷ outer) s.made (steps (rest a s r))) → (s : State) (r : Registers) → WhereSome (λ x. frame_shapes x ≡ frame_shapes s.memory) x → Opens q (here ∷ outer) s → Nest q (here ∷ outer) s.made (steps (al.release_to resting here x rest s r))
      on None rest h s r e m = (nest_halt fault.BadFree).by rest h s r m
      on (Some x) rest h s r e m = h (value.Int (pos 0)) (record s { memory = x }) r (e ∙ m)

  pub nest_ghost_code : (ls : List Layout) (g : GhostStmt) → Nests (sm.ghost_code resting ls here g)
  nest_ghost_code ls g = nest_bind nest_get (λ s. nest_bind nest_registers (λ r. nest_put_ghosts _))

  pub nest_assertion : (ls : List Layout) (v : VerdictKind) (k : ℕ) (r : Predicate) → Nests (sm.assertion resting ls here v k r)
  nest_assertion ls v k p = nest_bind nest_get (λ s. nest_bind nest_registers (λ r. nest_judge k v _))

  -- ---- expressions

  module _ (ls : List Layout) (call : ℕ → List Value → RestingCall) (h : (g : ℕ) (vs : List Value) → CallNests q (here ∷ outer) (call g vs)) where
    mutual
      pub nest_eval : (e : Expr) → Nests (ex.eval resting ls call here e)
      nest_eval (Literal k z) = nest_pure _
      nest_eval Null = nest_pure _
      nest_eval (Load p t) = nest_bind (nest_place p) (nest_load t)
      nest_eval (Address p t) = nest_bind (nest_place p) nest_address_of
      nest_eval (Convert' k b (more_of-Expr e end_of-Expr)) = nest_bind (nest_eval e) (λ v. nest_pure _)
      nest_eval (Unary' o k b (more_of-Expr e end_of-Expr)) = nest_bind (nest_eval e) (λ v. nest_int _)
      nest_eval (Binary' o k b (more_of-Expr e end_of-Expr) c (more_of-Expr f end_of-Expr)) = nest_bind (nest_eval e) (λ v. nest_bind (nest_eval f) (λ w. nest_int _))
      nest_eval (Compare' o b (more_of-Expr e end_of-Expr) c (more_of-Expr f end_of-Expr)) = nest_bind (nest_eval e) (λ v. nest_bind (nest_eval f) (λ w. nest_truth _))
      nest_eval (Move' b (more_of-Expr e end_of-Expr) c (more_of-Expr f end_of-Expr) size side) = nest_bind (nest_eval e) (λ v. nest_bind (nest_eval f) (λ w. nest_move_elements side size v w))
      nest_eval (Difference' b (more_of-Expr e end_of-Expr) c (more_of-Expr f end_of-Expr) unit) = nest_bind (nest_eval e) (λ v. nest_bind (nest_eval f) (λ w. nest_int _))
      nest_eval (Not' b (more_of-Expr e end_of-Expr)) = nest_bind (nest_eval e) (λ v. nest_pure _)
      nest_eval (Both' b (more_of-Expr e end_of-Expr) c (more_of-Expr f end_of-Expr)) = nest_bind (nest_eval e) (λ v. nest_cond (truth v) (nest_bind (nest_eval f) (λ w. nest_pure _)) (nest_pure _))
      nest_eval (Either' b (more_of-Expr e end_of-Expr) c (more_of-Expr f end_of-Expr)) = nest_bind (nest_eval e) (λ v. nest_cond (truth v) (nest_pure _) (nest_bind (nest_eval f) (λ w. nest_pure _)))
      nest_eval (Choose' b (more_of-Expr e end_of-Expr) c (more_of-Expr f end_of-Expr) d (more_of-Expr g end_of-Expr)) = nest_bind (nest_eval e) (λ v. nest_cond (truth v) (nest_eval f) (nest_eval g))
      nest_eval (Assign' p t b (more_of-Expr e end_of-Expr)) = nest_bind (nest_place p) (λ a. nest_bind (nest_eval e) (nest_store t a))
      nest_eval (Update' p t o b (more_of-Expr e end_of-Expr) w) = nest_bind (nest_place p) (λ a. nest_bind (nest_load t a) (λ old. nest_bind (nest_eval e) (λ v. nest_bind (nest_updated t o old v) (λ new. nest_then (nest_store t a new) (nest_pure _)))))
      nest_eval (Invoke' f b es) = nest_bind (nest_all es) (λ vs. nest_then (nest_emit (act.Call f) tt) (nest_through (h f vs)))
      nest_eval GetChar = nest_get_char
      nest_eval (PutChar' b (more_of-Expr e end_of-Expr)) = nest_bind (nest_eval e) nest_put_char
      nest_eval (Malloc' b (more_of-Expr e end_of-Expr) t) = nest_bind (nest_eval e) (nest_allocate ls t)
      nest_eval (Free' b (more_of-Expr e end_of-Expr)) = nest_bind (nest_eval e) nest_release
      nest_eval (Discard' b (more_of-Expr e end_of-Expr)) = nest_then (nest_eval e) (nest_pure _)

      pub nest_place : (p : Place_) → Nests (ex.place resting ls call here p)
      nest_place (Own v) = nest_pure _
      nest_place (Deref' b (more_of-Expr e end_of-Expr)) = nest_bind (nest_eval e) (λ a. nest_pure _)
      nest_place (Member' b (more_of-Place_ p end_of-Place_) o) = nest_bind (nest_place p) (λ l. nest_object_after l _)
      nest_place (Index' b (more_of-Place_ p end_of-Place_) c (more_of-Expr e end_of-Expr) size) = nest_bind (nest_place p) (λ l. nest_bind (nest_eval e) (λ i. nest_object_after l _))

      pub nest_all : {k : _} (e : Row_of-Expr k) → Nests (ex.all resting ls call here e)
      nest_all end_of-Expr = nest_pure _
      nest_all (more_of-Expr e more) = nest_bind (nest_eval e) (λ v. nest_bind (nest_all more) (λ vs. nest_pure _))

  -- ---- statements

  pub nest_on_next : {d : Resting Completion} → Nests d → (l : Completion) → Nests (sm.on_next resting d l)
  nest_on_next a Next = a
  nest_on_next a Broken = nest_pure _
  nest_on_next a Continued = nest_pure _
  nest_on_next a (Returned v) = nest_pure _

  pub nest_at_end : {d : Resting Completion} → Nests d → (l : Completion) → Nests (sm.at_turn_end resting d l)
  nest_at_end a Next = a
  nest_at_end a Broken = nest_pure _
  nest_at_end a Continued = a
  nest_at_end a (Returned v) = nest_pure _

  pub nest_after_turn : {d : Resting Completion} → Nests d → (l : Completion) → Nests (sm.after_turn resting d l)
  nest_after_turn a Next = a
  nest_after_turn a Continued = a
  nest_after_turn a Broken = nest_pure _
  nest_after_turn a (Returned v) = nest_pure _

  pub nest_turns : {d : Resting Completion} → Nests d → (k : ℕ) → Nests (sm.turns resting here d k)
  nest_turns x zero = nest_stop More
  nest_turns x (suc k) = nest_then (nest_emit act.Turn tt) (nest_bind x (nest_after_turn (nest_turns x k)))

  module _ (ls : List Layout) (call : ℕ → List Value → RestingCall) (h : (g : ℕ) (vs : List Value) → CallNests q (here ∷ outer) (call g vs)) (k : ℕ) where
    pub nest_value : (e : Expr) → Nests (ex.eval resting ls call here e)
    nest_value = nest_eval ls call h

    pub nest_when : (o : Option Expr) {d : Resting Completion} → Nests d → Nests (sm.when_test resting (option_map (ex.eval resting ls call here) o) d)
    nest_when None a = a
    nest_when (Some e) a = nest_bind (nest_value e) (λ v. nest_cond (truth v) a (nest_pure Broken))

    pub nest_step_of : (o : Option Expr) → Nests (sm.loop_step resting (option_map (ex.eval resting ls call here) o))
    nest_step_of None = nest_pure Next
    nest_step_of (Some e) = nest_bind (nest_value e) (λ v. nest_pure Next)

    pub nest_return : (o : Option Expr) → Nests (sm.exec_return resting ls call here k o)
    nest_return None = nest_pure _
    nest_return (Some e) = nest_bind (nest_value e) (λ v. nest_pure _)

    mutual
      pub nest_exec : (s : Stmt) → Nests (sm.exec resting ls call here k s)
      nest_exec st.Empty = nest_pure _
      nest_exec (st.Eval e) = nest_then (nest_value e) (nest_pure _)
      nest_exec (st.Init v o t e) = nest_bind (nest_value e) (λ w. nest_then (nest_store t (designated here.activation v o) w) (nest_pure Next))
      nest_exec (st.Block' b ss) = nest_row ss
      nest_exec (st.If' e b (more_of-Stmt s end_of-Stmt) c (more_of-Stmt u end_of-Stmt)) = nest_bind (nest_value e) (λ v. nest_cond (truth v) (nest_exec s) (nest_exec u))
      nest_exec (st.While' e b (more_of-Stmt s end_of-Stmt)) = nest_turns (nest_when (Some e) (nest_exec s)) k
      nest_exec (st.Do' b (more_of-Stmt s end_of-Stmt) e) = nest_turns (nest_bind (nest_exec s) (nest_at_end (nest_when (Some e) (nest_pure Next)))) k
      nest_exec (st.For' test step b (more_of-Stmt s end_of-Stmt)) = nest_turns (nest_when test (nest_bind (nest_exec s) (nest_at_end (nest_step_of step)))) k
      nest_exec st.Break = nest_pure _
      nest_exec st.Continue = nest_pure _
      nest_exec (st.Return e) = nest_return e
      nest_exec (st.Ghost g) = nest_then (nest_ghost_code ls g) (nest_pure _)
      nest_exec (st.Assert v j r) = nest_then (nest_assertion ls v j r) (nest_pure _)

      pub nest_row : {j : _} (ss : Row_of-Stmt j) → Nests (sm.exec_row resting ls call here k ss)
      nest_row end_of-Stmt = nest_pure _
      nest_row (more_of-Stmt s more) = nest_bind (nest_exec s) (nest_on_next (nest_row more))

    pub nest_exec_all : (ss : List Stmt) → Nests (sm.exec_all resting ls call here k ss)
    nest_exec_all [] = nest_pure _
    nest_exec_all (s ∷ ss) = nest_bind (nest_exec s) (nest_on_next (nest_exec_all ss))

  -- ---- what is given back

  pub nest_returned : (t : CType) (v : Option Value) → Nests (ca.returned resting t v)
  nest_returned type.Void None = nest_pure None
  nest_returned type.Void (Some v) = nest_stop _
  nest_returned _ None = nest_stop _
  nest_returned _ (Some v) = nest_pure (Some v)

  pub nest_fallen_off : (b : Bool) (t : CType) → Nests (ca.fallen_off resting here b t)
  nest_fallen_off true t = nest_pure _
  nest_fallen_off false type.Void = nest_pure _
  nest_fallen_off false _ = nest_halt _

  pub nest_given : (b : Bool) (t : CType) (l : Completion) → Nests (ca.given_back resting here b t l)
  nest_given b t (Returned v) = nest_returned t v
  nest_given b t Next = nest_fallen_off b t
  nest_given b t Broken = nest_stop _
  nest_given b t Continued = nest_stop _

-- ---- activations

module _ (q : Core) (hs : List Here) (n : ℕ) (here : Here) (call : ℕ → List Value → RestingCall) (bound : ℕ) (memory : Memory) (made : ℕ) (rest : Completion → State → Registers → Trace) (h : (s : State) (r : Registers) → s.memory ≡ memory → s.made ≡ made → Nest q hs n (steps (rest Next s r))) where
  -- the annotations that begin a body make no step
  after_leading : (ss : List Stmt) (s : State) (r : Registers) → s.memory ≡ memory → s.made ≡ made → Nest q hs n (steps (sm.exec_all resting q.layouts call here bound (annotations ss) rest s r))
  after_leading (st.Ghost g ∷ ss) s r e m = after_leading ss (record s { ghosts = ghosts_after q.layouts here s.memory r g s.ghosts }) r e m
  after_leading (st.Assert v k p ∷ ss) s r e m = after_leading ss s r e m
  after_leading _ s r e m = h s r e m

dropped : (q : Core) (memory : Memory) (h : Here) (hs : List Here) → frame_shapes memory ≡ shapes q (h ∷ hs) → frame_shapes (without_frame memory) ≡ shapes q hs
dropped q memory h hs e = drop_map shape_of memory.frames ∙ ap (λ ss. drop 1 ss) e

module _ (q : Core) (bound : ℕ) where
  -- calls by this
  abbrev AllNest : (ℕ → List Value → RestingCall) → Type 0
  AllNest call = (h : Here) (hs : List Here) (g : ℕ) (vs : List Value) → CallNests q (h ∷ hs) (call g vs)

  pub nest_activation : (call : ℕ → List Value → RestingCall) → AllNest call → (hs : List Here) (g : ℕ) (f : Function) → slice_get q.functions g ≡ Some f → IsTrue (has_body f) → (body : List Stmt) (vs : List Value) → CallNests q hs (resting.alone (unset_registers f.registers) (ca.activation resting q bound call g f body vs))
  nest_activation call calls hs g f found has body vs = record { by = opened }
    where
      opened : (rest : Value → State → Trace) → ((v : Value) (s : State) → Opens q hs s → Nest q hs s.made (steps (rest v s))) → (s : State) → Opens q hs s → (hs ≡ [] → s.made ≡ 0) → Nest q hs s.made (steps (resting.alone (unset_registers f.registers) (ca.activation resting q bound call g f body vs) rest s))
      opened rest h s m first = after_leading q hs s.made here call bound begun (suc s.made) entering entered body _ (unset_registers f.registers) refl refl
        where
          here : Here
          here = record { function = g; activation = s.made }

          begun : Memory
          begun = with_frame (first_frame q.layouts f s.made vs) s.memory

          leaving : Option Value → State → Registers → Trace
          leaving v s r = resting.bind (resting.emit here (act.Return g v)) (λ u. resting.bind (ca.close_frame resting) (λ u. resting.pure (value_or_zero v))) (λ v s r. rest v s) s r

          entering : Completion → State → Registers → Trace
          entering c s r =
              resting.bind (resting.emit here (act.Enter g vs)) (λ u.
              resting.bind (sm.exec_all resting q.layouts call here bound (after_annotations body)) (λ c.
              resting.bind (ca.given_back resting here (g == q.start) f.result c) (λ v.
              resting.bind (resting.emit here (act.Return g v)) (λ u.
              resting.bind (ca.close_frame resting) (λ u.
              resting.pure (value_or_zero v)))))) (λ v s r. rest v s) s r

          is : (f : Function) × IsFunctionOf q g f
          is = (f, (found, has))

          left : (v : Option Value) (s : State) (r : Registers) → Opens q (here ∷ hs) s → Nest q (here ∷ hs) s.made (steps (leaving v s r))
          left v s r m = (record { function = is; names_own = refl; frames = m; innermost = (hs, refl); is_new = λ e. absurd (false_is_not_true e) }, h (value_or_zero v) (record s { memory = without_frame s.memory; ghosts = without_frame s.ghosts }) (dropped q s.memory here hs m))

          inside : (s : State) (r : Registers) → Opens q (here ∷ hs) s → Nest q (here ∷ hs) s.made (steps (sm.exec_all resting q.layouts call here bound (after_annotations body) (λ c. ca.given_back resting here (g == q.start) f.result c leaving) s r))
          inside s r m = (nest_exec_all q here hs is q.layouts call (calls here hs) bound (after_annotations body)).by (λ c. ca.given_back resting here (g == q.start) f.result c leaving) (λ c s r m. (nest_given q here hs is (g == q.start) f.result c).by leaving left s r m) s r m

          entered : (t : State) (r : Registers) → t.memory ≡ begun → t.made ≡ suc s.made → Nest q hs s.made (steps (entering Next t r))
          entered t r e n = (record { function = is; names_own = refl; frames = opens; innermost = (hs, refl); is_new = λ e. (refl, first) }, subst (λ n. Nest q (here ∷ hs) n (steps (sm.exec_all resting q.layouts call here bound (after_annotations body) (λ c. ca.given_back resting here (g == q.start) f.result c leaving) t r))) n (inside t r opens))
            where
              own : map cells_declared (with_arguments (map (empty_block q.layouts) f.locals) vs) ≡ local_cells q (slice_get q.functions g)
              own = started_cells q.layouts f.locals vs ∙ sym (ap (λ o. local_cells q o) found)

              opens : frame_shapes t.memory ≡ shapes q (here ∷ hs)
              opens = ap (λ x. frame_shapes x) e ∙ (ap (λ ss. shape_of (first_frame q.layouts f s.made vs) ∷ ss) m ∙ ap (λ (ts : List (List CType)). record { activation = s.made; cells = ts } ∷ shapes q hs) own)

  pub nest_body : (call : ℕ → List Value → RestingCall) → AllNest call → (hs : List Here) (g : ℕ) (f : Function) → slice_get q.functions g ≡ Some f → (body : Option (List Stmt)) → f.body ≡ body → (vs : List Value) → CallNests q hs (ca.call_body resting q bound call g f body vs)
  nest_body call calls hs g f found None e vs = record { by = λ rest h s m first. tt }
  nest_body call calls hs g f found (Some body) e vs = nest_activation call calls hs g f found (subst (λ o. IsTrue (is_some o)) (sym e) refl) body vs

  pub nest_call_of : (call : ℕ → List Value → RestingCall) → AllNest call → (hs : List Here) (g : ℕ) (f : Option Function) → slice_get q.functions g ≡ f → (vs : List Value) → CallNests q hs (ca.call_of resting q bound call g f vs)
  nest_call_of call calls hs g None found vs = record { by = λ rest h s m first. tt }
  nest_call_of call calls hs g (Some f) found vs = nest_body call calls hs g f found f.body refl vs

  pub nest_calls : (n : ℕ) (hs : List Here) (g : ℕ) (vs : List Value) → CallNests q hs (ca.calls resting q bound n g vs)
  nest_calls zero hs g vs = record { by = λ rest h s m first. tt }
  nest_calls (suc n) hs g vs = nest_call_of (ca.calls resting q bound n) (λ h hs g vs. nest_calls n (h ∷ hs) g vs) hs g (slice_get q.functions g) refl vs

-- the steps of each run nest
pub run_nests : (q : Core) (input : List ℕ) (k : ℕ) → Nest q [] 0 (steps (run q input k))
run_nests q input k = (nest_calls q k k [] q.start []).by (λ v s. Stop (exit_of v)) (λ v s m. tt) (start_state q input) refl (λ e. refl)
