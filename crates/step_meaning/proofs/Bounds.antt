-- What runs with larger bounds have in common: one induction for every relation of traces that counts steps.
-- A bound of n or more is spent only after n steps, since each turn and each activation makes one.
use Rattle.std.proofs.Common.{ℕ, zero, suc, ◌≤◌, Bool, true, false, cond, List, [], ◌∷◌, Option, Some, None, Result, Ok, Err, arith}
use Rattle.std.specs.Prelude.{ℤ, slice_get, option_map}
use Rattle.step_meaning.specs.declared.value.CType.{CType}
use Rattle.step_meaning.specs.declared.value.CType.TheVariants as type
use Rattle.step_meaning.specs.declared.value.Value.{Value}
use Rattle.step_meaning.specs.declared.value.Value.TheVariants as value
use Rattle.step_meaning.specs.declared.value.Cell.{Cell}
use Rattle.step_meaning.specs.declared.value.Cell.TheVariants.{Nothing, Holds}
use Rattle.step_meaning.specs.declared.value.Action.{Action}
use Rattle.step_meaning.specs.declared.value.Action.TheVariants as act
use Rattle.step_meaning.specs.declared.value.RunFault.{RunFault}
use Rattle.step_meaning.specs.declared.value.RunFault.TheVariants as fault
use Rattle.step_meaning.specs.declared.expr.Side.{Side}
use Rattle.step_meaning.specs.declared.expr.Side.TheVariants.{PointerFirst, PointerLast, Minus}
use Rattle.step_meaning.specs.declared.expr.UpdateOp.{UpdateOp}
use Rattle.step_meaning.specs.declared.expr.UpdateOp.TheVariants.{Integer, Forward, Backward}
use Rattle.step_meaning.specs.declared.expr.Expr.{Expr, Row_of-Expr, end_of-Expr, more_of-Expr}
use Rattle.step_meaning.specs.declared.expr.Expr.TheVariants.{Literal, Null, Load, Address, Convert', Unary', Binary', Compare', Move', Difference', Not', Both', Either', Choose', Assign', Update', Invoke', GetChar, PutChar', Malloc', Free', Discard', Own, Deref', Member', Index'}
use Rattle.step_meaning.specs.declared.expr.Place_.{Place_, end_of-Place_, more_of-Place_}
use Rattle.step_meaning.specs.declared.predicate.Predicate.{Predicate}
use Rattle.step_meaning.specs.declared.stmt.VerdictKind.{VerdictKind}
use Rattle.step_meaning.specs.declared.stmt.GhostStmt.{GhostStmt}
use Rattle.step_meaning.specs.declared.stmt.Stmt.{Stmt, Row_of-Stmt, end_of-Stmt, more_of-Stmt}
use Rattle.step_meaning.specs.declared.stmt.Stmt.TheVariants as st
use Rattle.step_meaning.specs.declared.program.Core.{Core}
use Rattle.step_meaning.specs.declared.program.Function.{Function}
use Rattle.step_meaning.specs.declared.program.Layout.{Layout}
use Rattle.step_meaning.specs.Numbers.{low_bits}
use Rattle.step_meaning.specs.Names.{truth, of_truth, integer, moved}
use Rattle.step_meaning.specs.Memory.{Memory, Block, room_at, reached, stored, freed}
use Rattle.step_meaning.specs.Steps.{Step, Verdict, Made, Judged, End, Exit, Fault, More, Trace, Stop, Then}
use Rattle.step_meaning.specs.State.{State, Registers, Here, unset_registers, Lvalue, InRegister, At, register_at, set_register, designated}
use Rattle.step_meaning.specs.Flow.{resting, Resting, RestingCall}
use Rattle.step_meaning.specs.Accesses as acc
use Rattle.step_meaning.specs.Accesses.{converted_to}
use Rattle.step_meaning.specs.Allocation as al
use Rattle.step_meaning.specs.Allocation.{block_for}
use Rattle.step_meaning.specs.Expressions as ex
use Rattle.step_meaning.specs.Statements as sm
use Rattle.step_meaning.specs.Statements.{Completion, Next, Broken, Continued, Returned}
use Rattle.step_meaning.specs.Calls as ca
use Rattle.step_meaning.specs.Calls.{annotations, after_annotations}
use Rattle.step_meaning.specs.Runs.{run, start_state, exit_of}

-- an end that isn't that of a spent bound
abbrev pub IsReal : End → Type 0
IsReal (Exit v) = Unit {0}
IsReal (Fault f) = Unit {0}
IsReal More = ⊥

-- a relation of two traces up to their first n steps
pub record Counts (R : ℕ → Trace → Trace → Type 0) : Type 0 where
  pub none : (t u : Trace) → R 0 t u
  pub stops : (n : ℕ) (e : End) → IsReal e → R n (Stop e) (Stop e)
  pub makes : (n : ℕ) (s : Step) (t u : Trace) → R n t u → R (suc n) (Then (Made s) t) (Then (Made s) u)
  pub judges : (n : ℕ) (v : Verdict) (t u : Trace) → R n t u → R n (Then (Judged v) t) (Then (Judged v) u)

pub exit_is_real : (v : Value) → IsReal (exit_of v)
exit_is_real (value.Int z) = tt
exit_is_real value.Null = tt
exit_is_real (value.Pointer n o) = tt

module _ (R : ℕ → Trace → Trace → Type 0) (counts : Counts R) where
  pub record Same (n : ℕ) {A : Type 0} (d d' : Resting A) : Type 0 where
    pub by : (m : ℕ) → m ≤ n →
        (rest rest' : A → State → Registers → Trace) → ((j : ℕ) → j ≤ m → (a : A) (s : State) (q : Registers) → R j (rest a s q) (rest' a s q)) →
        (s : State) (q : Registers) → R m (d rest s q) (d' rest' s q)

  pub record SameCall (n : ℕ) (d d' : RestingCall) : Type 0 where
    pub by : (m : ℕ) → m ≤ n → (rest rest' : Value → State → Trace) → ((j : ℕ) → j ≤ m → (a : Value) (s : State) → R j (rest a s) (rest' a s)) → (s : State) → R m (d rest s) (d' rest' s)

  pub no_steps : (m : ℕ) → m ≤ 0 → (t u : Trace) → R m t u
  no_steps zero le t u = counts.none t u
  no_steps (suc m) le t u = absurd (omega arith)

  pub same_zero : {A : Type 0} (d d' : Resting A) → Same 0 d d'
  same_zero d d' = record { by = λ m le r r' h s q. no_steps m le (d r s q) (d' r' s q) }

  pub call_zero : (d d' : RestingCall) → SameCall 0 d d'
  call_zero d d' = record { by = λ m le r r' h s. no_steps m le (d r s) (d' r' s) }

  pub same_fewer : (n m : ℕ) {A : Type 0} {d d' : Resting A} → m ≤ n → Same n d d' → Same m d d'
  same_fewer n m le a = record { by = λ j jl. a.by j (omega arith) }

  pub made_next : (m : ℕ) (z : Step) (t u : Trace) → ((j : ℕ) → j ≤ m → R j t u) → R m (Then (Made z) t) (Then (Made z) u)
  made_next zero z t u h = counts.none _ _
  made_next (suc m) z t u h = counts.makes m z t u (h m (omega arith))

  pub halted : (m : ℕ) (z : Step) (e : End) → IsReal e → R m (Then (Made z) (Stop e)) (Then (Made z) (Stop e))
  halted m z e real = made_next m z (Stop e) (Stop e) (λ j jl. counts.stops j e real)

  module _ (n : ℕ) where
    pub same_bind : {A B : Type 0} {d d' : Resting A} {f f' : A → Resting B} → Same n d d' → ((a : A) → Same n (f a) (f' a)) → Same n (resting.bind d f) (resting.bind d' f')
    same_bind {f = f} {f' = f'} a b = record { by = λ m le r r' h s q. a.by m le (λ x. f x r) (λ x. f' x r') (λ j jl x. (b x).by j (omega arith) r r' (λ i il. h i (omega arith))) s q }

    pub same_then : {A B : Type 0} {d d' : Resting A} {e e' : Resting B} → Same n d d' → Same n e e' → Same n (resting.bind d (λ a. e)) (resting.bind d' (λ a. e'))
    same_then a b = same_bind a (λ x. b)

    pub same_pure : {A : Type 0} (a : A) → Same n (resting.pure a) (resting.pure a)
    same_pure a = record { by = λ m le r r' h s q. h m (omega arith) a s q }

    pub same_stop : {A : Type 0} (e : End) → IsReal e → Same n (resting.stop {A = A} e) (resting.stop e)
    same_stop e real = record { by = λ m le r r' h s q. counts.stops m e real }

    pub same_halt : {A : Type 0} (here : Here) (f : RunFault) → Same n (resting.halt {A = A} here f) (resting.halt here f)
    same_halt here f = record { by = λ m le r r' h s q. halted m _ (Fault f) tt }

    pub same_misuse : {A : Type 0} (here : Here) (f : RunFault) → Same n (resting.misuse {A = A} here f) (resting.misuse here f)
    same_misuse here f = record { by = λ m le r r' h s q. halted m _ (Fault f) tt }

    pub same_get : Same n resting.get resting.get
    same_get = record { by = λ m le r r' h s q. h m (omega arith) s s q }

    pub same_put_memory : (x : Memory) → Same n (resting.put_memory x) (resting.put_memory x)
    same_put_memory x = record { by = λ m le r r' h s q. h m (omega arith) tt (record s { memory = x }) q }

    pub same_put_ghosts : (x : Memory) → Same n (resting.put_ghosts x) (resting.put_ghosts x)
    same_put_ghosts x = record { by = λ m le r r' h s q. h m (omega arith) tt (record s { ghosts = x }) q }

    pub same_put_input : (x : List ℕ) → Same n (resting.put_input x) (resting.put_input x)
    same_put_input x = record { by = λ m le r r' h s q. h m (omega arith) tt (record s { input = x }) q }

    pub same_put_made : (x : ℕ) → Same n (resting.put_made x) (resting.put_made x)
    same_put_made x = record { by = λ m le r r' h s q. h m (omega arith) tt (record s { made = x }) q }

    pub same_put_allocated : (x : ℕ) → Same n (resting.put_allocated x) (resting.put_allocated x)
    same_put_allocated x = record { by = λ m le r r' h s q. h m (omega arith) tt (record s { allocated = x }) q }

    pub same_registers : Same n resting.registers resting.registers
    same_registers = record { by = λ m le r r' h s q. h m (omega arith) q s q }

    pub same_put_registers : (x : Registers) → Same n (resting.put_registers x) (resting.put_registers x)
    same_put_registers x = record { by = λ m le r r' h s q. h m (omega arith) tt s x }

    pub same_judge : (k : ℕ) (v : VerdictKind) (b : Bool) → Same n (resting.judge k v b) (resting.judge k v b)
    same_judge k v b = record { by = λ m le r r' h s q. counts.judges m _ _ _ (h m (omega arith) tt s q) }

    pub same_cond : {A : Type 0} (b : Bool) {d d' e e' : Resting A} → Same n d d' → Same n e e' → Same n (cond b d e) (cond b d' e')
    same_cond true x y = x
    same_cond false x y = y

    pub same_emit : (here : Here) (x : Action) → Same n (resting.emit here x) (resting.emit here x)
    same_emit here x = record { by = λ m le r r' h s q. made_next m _ (r tt s q) (r' tt s q) (λ j jl. h j jl tt s q) }

    pub same_alone : (own : Registers) {d d' : Resting Value} → Same n d d' → SameCall n (resting.alone own d) (resting.alone own d')
    same_alone own a = record { by = λ m le r r' h s. a.by m le (λ v s q. r v s) (λ v s q. r' v s) (λ j jl v s q. h j jl v s) s own }

    pub same_through : {d d' : RestingCall} → SameCall n d d' → Same n (resting.through d) (resting.through d')
    same_through a = record { by = λ m le r r' h s q. a.by m le (λ v s. r v s q) (λ v s. r' v s q) (λ j jl v s. h j jl v s q) s }

  -- after a step one more is the same
  pub emit_counts : (n : ℕ) (z : Step) (m : ℕ) (t u : Trace) → m ≤ suc n → ((j : ℕ) → j ≤ n → j ≤ m → R j t u) → R m (Then (Made z) t) (Then (Made z) u)
  emit_counts n z zero t u le h = counts.none _ _
  emit_counts n z (suc m) t u le h = counts.makes m z t u (h m (omega arith) (omega arith))

  pub same_emit_then : (n : ℕ) (here : Here) (x : Action) {A : Type 0} {d d' : Resting A} → Same n d d' → Same (suc n) (resting.bind (resting.emit here x) (λ u. d)) (resting.bind (resting.emit here x) (λ u. d'))
  same_emit_then n here x {d = d} {d' = d'} a = record { by = λ m le r r' h s q. emit_counts n _ m (d r s q) (d' r' s q) le (λ j jn jm. a.by j jn r r' (λ i il. h i (omega arith)) s q) }

  module _ (n : ℕ) (here : Here) where
    pub same_checked : {A : Type 0} (c : Result A RunFault) → Same n (acc.checked resting here c) (acc.checked resting here c)
    same_checked (Ok a) = same_pure n a
    same_checked (Err f) = same_halt n here f

    pub same_held_register : (c : Option Cell) → Same n (acc.held_register resting here c) (acc.held_register resting here c)
    same_held_register None = same_misuse n here fault.Invalid
    same_held_register (Some Nothing) = same_misuse n here fault.Uninit
    same_held_register (Some (Holds v)) = same_pure n v

    pub same_held : (c : Option Cell) → Same n (acc.held resting here c) (acc.held resting here c)
    same_held None = same_halt n here fault.Invalid
    same_held (Some Nothing) = same_halt n here fault.Uninit
    same_held (Some (Holds v)) = same_pure n v

    pub same_load : (t : CType) (p : Lvalue) → Same n (acc.load resting here t p) (acc.load resting here t p)
    same_load t (InRegister i) = same_bind n (same_registers n) (λ r. same_held_register (register_at r i t))
    same_load t (At p) = same_then n (same_emit n here (act.Read p)) (same_bind n (same_get n) (λ s. same_held (reached s.memory p t)))

    pub same_write_at : (p v : Value) (c : Option Cell) → Same n (acc.write_at resting here p v c) (acc.write_at resting here p v c)
    same_write_at p v None = same_halt n here fault.Invalid
    same_write_at p v (Some c) = same_bind n (same_get n) (λ s. same_then n (same_put_memory n (stored s.memory p (Holds v))) (same_pure n v))

    pub same_write_register : (i : ℕ) (v : Value) (c : Option Cell) → Same n (acc.write_register resting here i v c) (acc.write_register resting here i v c)
    same_write_register i v None = same_misuse n here fault.Invalid
    same_write_register i v (Some c) = same_bind n (same_registers n) (λ r. same_then n (same_put_registers n (set_register r i v)) (same_pure n v))

    pub same_store : (t : CType) (p : Lvalue) (v : Value) → Same n (acc.store resting here t p v) (acc.store resting here t p v)
    same_store t (InRegister i) v = same_bind n (same_registers n) (λ r. same_write_register i v (register_at r i t))
    same_store t (At p) v = same_then n (same_emit n here (act.Write p v)) (same_bind n (same_get n) (λ s. same_write_at p v (reached s.memory p t)))

    pub same_move_by : (p : Value) (by : ℤ) → Same n (acc.move_by resting here p by) (acc.move_by resting here p by)
    same_move_by p by = same_bind n (same_get n) (λ s. same_checked (moved p (room_at s.memory p) by))

    pub same_address_of : (l : Lvalue) → Same n (acc.address_of resting l) (acc.address_of resting l)
    same_address_of (InRegister i) = same_stop n (Fault fault.Invalid) tt
    same_address_of (At p) = same_pure n p

    pub same_object_after : (l : Lvalue) (by : ℤ) → Same n (acc.object_after resting here l by) (acc.object_after resting here l by)
    same_object_after l by = same_bind n (same_address_of l) (λ p. same_bind n (same_move_by p by) (λ q. same_pure n (At q)))

    pub same_int : (c : Result ℤ RunFault) → Same n (acc.as_int resting (acc.checked resting here c)) (acc.as_int resting (acc.checked resting here c))
    same_int c = same_bind n (same_checked c) (λ z. same_pure n (value.Int z))

    pub same_truth : (c : Result Bool RunFault) → Same n (acc.as_truth resting (acc.checked resting here c)) (acc.as_truth resting (acc.checked resting here c))
    same_truth c = same_bind n (same_checked c) (λ b. same_pure n (of_truth b))

    pub same_move_elements : (side : Side) (size : ℕ) (a b : Value) → Same n (acc.move_elements resting here side size a b) (acc.move_elements resting here side size a b)
    same_move_elements PointerFirst size a b = same_move_by a _
    same_move_elements PointerLast size a b = same_move_by b _
    same_move_elements Minus size a b = same_move_by a _

    pub same_updated : (t : CType) (o : UpdateOp) (old v : Value) → Same n (acc.updated resting here t o old v) (acc.updated resting here t o old v)
    same_updated t (Integer o k) old v = same_bind n {A = ℤ} (same_bind n {A = ℤ} (same_checked _) (λ z. same_pure n (converted_to k t z))) (λ z. same_pure n (value.Int z))
    same_updated t (Forward size) old v = same_move_by old _
    same_updated t (Backward size) old v = same_move_by old _

    pub same_next_byte : (bs : List ℕ) → Same n (acc.next_byte resting here bs) (acc.next_byte resting here bs)
    same_next_byte [] = same_pure n _
    same_next_byte (b ∷ bs) = same_then n (same_put_input n bs) (same_pure n _)

    pub same_get_char : Same n (acc.get_char resting here) (acc.get_char resting here)
    same_get_char = same_then n (same_emit n here act.Input) (same_bind n (same_get n) (λ s. same_next_byte s.input))

    pub same_put_char : (v : Value) → Same n (acc.put_char resting here v) (acc.put_char resting here v)
    same_put_char v = same_then n (same_emit n here _) (same_pure n _)

    pub same_allocate_block : (count : ℕ) (b : Option Block) → Same n (al.allocate_block resting here count b) (al.allocate_block resting here count b)
    same_allocate_block count None = same_then n (same_emit n here _) (same_pure n value.Null)
    same_allocate_block count (Some b) = same_bind n (same_get n) (λ s. same_then n (same_emit n here _) (same_then n (same_put_memory n _) (same_then n (same_put_allocated n _) (same_pure n _))))

    pub same_allocate : (ls : List Layout) (t : CType) (v : Value) → Same n (al.allocate resting here ls t v) (al.allocate resting here ls t v)
    same_allocate ls t v = same_allocate_block (low_bits 64 (integer v)) (block_for ls t (low_bits 64 (integer v)))

    pub same_release_to : (m : Option Memory) → Same n (al.release_to resting here m) (al.release_to resting here m)
    same_release_to None = same_halt n here fault.BadFree
    same_release_to (Some m) = same_then n (same_put_memory n m) (same_pure n _)

    pub same_release : (p : Value) → Same n (al.release resting here p) (al.release resting here p)
    same_release p = same_then n (same_emit n here (act.Free p)) (same_bind n (same_get n) (λ s. same_release_to (freed s.memory p)))

    pub same_ghost_code : (ls : List Layout) (g : GhostStmt) → Same n (sm.ghost_code resting ls here g) (sm.ghost_code resting ls here g)
    same_ghost_code ls g = same_bind n (same_get n) (λ s. same_bind n (same_registers n) (λ r. same_put_ghosts n _))

    pub same_assertion : (ls : List Layout) (v : VerdictKind) (k : ℕ) (r : Predicate) → Same n (sm.assertion resting ls here v k r) (sm.assertion resting ls here v k r)
    same_assertion ls v k p = same_bind n (same_get n) (λ s. same_bind n (same_registers n) (λ r. same_judge n k v _))

  -- ---- expressions

  module _ (n : ℕ) (ls : List Layout) (here : Here) (call call' : ℕ → List Value → RestingCall) (h : (g : ℕ) (vs : List Value) → SameCall n (call g vs) (call' g vs)) where
    mutual
      pub same_eval : (e : Expr) → Same n (ex.eval resting ls call here e) (ex.eval resting ls call' here e)
      same_eval (Literal k z) = same_pure n _
      same_eval Null = same_pure n _
      same_eval (Load p t) = same_bind n (same_place p) (same_load n here t)
      same_eval (Address p t) = same_bind n (same_place p) (same_address_of n here)
      same_eval (Convert' k b (more_of-Expr e end_of-Expr)) = same_bind n (same_eval e) (λ v. same_pure n _)
      same_eval (Unary' o k b (more_of-Expr e end_of-Expr)) = same_bind n (same_eval e) (λ v. same_int n here _)
      same_eval (Binary' o k b (more_of-Expr e end_of-Expr) c (more_of-Expr f end_of-Expr)) = same_bind n (same_eval e) (λ v. same_bind n (same_eval f) (λ w. same_int n here _))
      same_eval (Compare' o b (more_of-Expr e end_of-Expr) c (more_of-Expr f end_of-Expr)) = same_bind n (same_eval e) (λ v. same_bind n (same_eval f) (λ w. same_truth n here _))
      same_eval (Move' b (more_of-Expr e end_of-Expr) c (more_of-Expr f end_of-Expr) size side) = same_bind n (same_eval e) (λ v. same_bind n (same_eval f) (λ w. same_move_elements n here side size v w))
      same_eval (Difference' b (more_of-Expr e end_of-Expr) c (more_of-Expr f end_of-Expr) unit) = same_bind n (same_eval e) (λ v. same_bind n (same_eval f) (λ w. same_int n here _))
      same_eval (Not' b (more_of-Expr e end_of-Expr)) = same_bind n (same_eval e) (λ v. same_pure n _)
      same_eval (Both' b (more_of-Expr e end_of-Expr) c (more_of-Expr f end_of-Expr)) = same_bind n (same_eval e) (λ v. same_cond n (truth v) (same_bind n (same_eval f) (λ w. same_pure n _)) (same_pure n _))
      same_eval (Either' b (more_of-Expr e end_of-Expr) c (more_of-Expr f end_of-Expr)) = same_bind n (same_eval e) (λ v. same_cond n (truth v) (same_pure n _) (same_bind n (same_eval f) (λ w. same_pure n _)))
      same_eval (Choose' b (more_of-Expr e end_of-Expr) c (more_of-Expr f end_of-Expr) d (more_of-Expr g end_of-Expr)) = same_bind n (same_eval e) (λ v. same_cond n (truth v) (same_eval f) (same_eval g))
      same_eval (Assign' p t b (more_of-Expr e end_of-Expr)) = same_bind n (same_place p) (λ a. same_bind n (same_eval e) (same_store n here t a))
      same_eval (Update' p t o b (more_of-Expr e end_of-Expr) w) = same_bind n (same_place p) (λ a. same_bind n (same_load n here t a) (λ old. same_bind n (same_eval e) (λ v. same_bind n (same_updated n here t o old v) (λ new. same_then n (same_store n here t a new) (same_pure n _)))))
      same_eval (Invoke' f b es) = same_bind n (same_all es) (λ vs. same_then n (same_emit n here _) (same_through n (h f vs)))
      same_eval GetChar = same_get_char n here
      same_eval (PutChar' b (more_of-Expr e end_of-Expr)) = same_bind n (same_eval e) (same_put_char n here)
      same_eval (Malloc' b (more_of-Expr e end_of-Expr) t) = same_bind n (same_eval e) (same_allocate n here ls t)
      same_eval (Free' b (more_of-Expr e end_of-Expr)) = same_bind n (same_eval e) (same_release n here)
      same_eval (Discard' b (more_of-Expr e end_of-Expr)) = same_then n (same_eval e) (same_pure n _)

      pub same_place : (p : Place_) → Same n (ex.place resting ls call here p) (ex.place resting ls call' here p)
      same_place (Own v) = same_pure n _
      same_place (Deref' b (more_of-Expr e end_of-Expr)) = same_bind n (same_eval e) (λ a. same_pure n _)
      same_place (Member' b (more_of-Place_ p end_of-Place_) o) = same_bind n (same_place p) (λ l. same_object_after n here l _)
      same_place (Index' b (more_of-Place_ p end_of-Place_) c (more_of-Expr e end_of-Expr) size) = same_bind n (same_place p) (λ l. same_bind n (same_eval e) (λ i. same_object_after n here l _))

      pub same_all : {k : _} (e : Row_of-Expr k) → Same n (ex.all resting ls call here e) (ex.all resting ls call' here e)
      same_all end_of-Expr = same_pure n _
      same_all (more_of-Expr e more) = same_bind n (same_eval e) (λ v. same_bind n (same_all more) (λ vs. same_pure n _))

  -- ---- statements

  module _ (n : ℕ) where
    pub same_on_next : {d : Resting Completion} {d' : Resting Completion} → Same n d d' → (l : Completion) → Same n (sm.on_next resting d l) (sm.on_next resting d' l)
    same_on_next a Next = a
    same_on_next a Broken = same_pure n _
    same_on_next a Continued = same_pure n _
    same_on_next a (Returned v) = same_pure n _

    pub same_at_end : {d : Resting Completion} {d' : Resting Completion} → Same n d d' → (l : Completion) → Same n (sm.at_turn_end resting d l) (sm.at_turn_end resting d' l)
    same_at_end a Next = a
    same_at_end a Broken = same_pure n _
    same_at_end a Continued = a
    same_at_end a (Returned v) = same_pure n _

    pub same_after_turn : {d : Resting Completion} {d' : Resting Completion} → Same n d d' → (l : Completion) → Same n (sm.after_turn resting d l) (sm.after_turn resting d' l)
    same_after_turn a Next = a
    same_after_turn a Continued = a
    same_after_turn a Broken = same_pure n _
    same_after_turn a (Returned v) = same_pure n _

  pub same_turns : (n : ℕ) (here : Here) {d d' : Resting Completion} → Same n d d' → (k k' : ℕ) → n ≤ k → n ≤ k' → Same n (sm.turns resting here d k) (sm.turns resting here d' k')
  same_turns zero here x k k' le le' = same_zero _ _
  same_turns (suc n) here x zero k' le le' = absurd (omega arith)
  same_turns (suc n) here x (suc k) zero le le' = absurd (omega arith)
  same_turns (suc n) here x (suc k) (suc k') le le' =
      let x1 = same_fewer (suc n) n (omega arith) x in
      same_emit_then n here act.Turn (same_bind n x1 (same_after_turn n (same_turns n here x1 k k' (omega arith) (omega arith))))

  module _ (n : ℕ) (ls : List Layout) (here : Here) (call call' : ℕ → List Value → RestingCall) (h : (g : ℕ) (vs : List Value) → SameCall n (call g vs) (call' g vs)) (k k' : ℕ) (le : n ≤ k) (le' : n ≤ k') where
    pub same_value : (e : Expr) → Same n (ex.eval resting ls call here e) (ex.eval resting ls call' here e)
    same_value = same_eval n ls here call call' h

    pub same_when : (o : Option Expr) {d : Resting Completion} {d' : Resting Completion} → Same n d d' → Same n (sm.when_test resting (option_map (ex.eval resting ls call here) o) d) (sm.when_test resting (option_map (ex.eval resting ls call' here) o) d')
    same_when None a = a
    same_when (Some e) a = same_bind n (same_value e) (λ v. same_cond n (truth v) a (same_pure n Broken))

    pub same_step_of : (o : Option Expr) → Same n (sm.loop_step resting (option_map (ex.eval resting ls call here) o)) (sm.loop_step resting (option_map (ex.eval resting ls call' here) o))
    same_step_of None = same_pure n Next
    same_step_of (Some e) = same_bind n (same_value e) (λ v. same_pure n Next)

    pub same_return : (o : Option Expr) → Same n (sm.exec_return resting ls call here k o) (sm.exec_return resting ls call' here k' o)
    same_return None = same_pure n _
    same_return (Some e) = same_bind n (same_value e) (λ v. same_pure n _)

    mutual
      pub same_exec : (s : Stmt) → Same n (sm.exec resting ls call here k s) (sm.exec resting ls call' here k' s)
      same_exec st.Empty = same_pure n _
      same_exec (st.Eval e) = same_then n (same_value e) (same_pure n _)
      same_exec (st.Init v o t e) = same_bind n (same_value e) (λ w. same_then n (same_store n here t (designated here.activation v o) w) (same_pure n Next))
      same_exec (st.Block' b ss) = same_row ss
      same_exec (st.If' e b (more_of-Stmt s end_of-Stmt) c (more_of-Stmt u end_of-Stmt)) = same_bind n (same_value e) (λ v. same_cond n (truth v) (same_exec s) (same_exec u))
      same_exec (st.While' e b (more_of-Stmt s end_of-Stmt)) = same_turns n here (same_when (Some e) (same_exec s)) k k' le le'
      same_exec (st.Do' b (more_of-Stmt s end_of-Stmt) e) = same_turns n here (same_bind n (same_exec s) (same_at_end n (same_when (Some e) (same_pure n Next)))) k k' le le'
      same_exec (st.For' test step b (more_of-Stmt s end_of-Stmt)) = same_turns n here (same_when test (same_bind n (same_exec s) (same_at_end n (same_step_of step)))) k k' le le'
      same_exec st.Break = same_pure n _
      same_exec st.Continue = same_pure n _
      same_exec (st.Return e) = same_return e
      same_exec (st.Ghost g) = same_then n (same_ghost_code n here ls g) (same_pure n _)
      same_exec (st.Assert v j r) = same_then n (same_assertion n here ls v j r) (same_pure n _)

      pub same_row : {j : _} (ss : Row_of-Stmt j) → Same n (sm.exec_row resting ls call here k ss) (sm.exec_row resting ls call' here k' ss)
      same_row end_of-Stmt = same_pure n _
      same_row (more_of-Stmt s more) = same_bind n (same_exec s) (same_on_next n (same_row more))

    pub same_exec_all : (ss : List Stmt) → Same n (sm.exec_all resting ls call here k ss) (sm.exec_all resting ls call' here k' ss)
    same_exec_all [] = same_pure n _
    same_exec_all (s ∷ ss) = same_bind n (same_exec s) (same_on_next n (same_exec_all ss))

  -- annotations make no call
  module _ (n : ℕ) (ls : List Layout) (here : Here) (call call' : ℕ → List Value → RestingCall) (k k' : ℕ) (le : n ≤ k) (le' : n ≤ k') where
    pub same_annotations : (ss : List Stmt) → Same n (sm.exec_all resting ls call here k (annotations ss)) (sm.exec_all resting ls call' here k' (annotations ss))
    same_annotations (st.Ghost g ∷ ss) = same_bind n (same_then n (same_ghost_code n here ls g) (same_pure n Next)) (same_on_next n (same_annotations ss))
    same_annotations (st.Assert v j r ∷ ss) = same_bind n (same_then n (same_assertion n here ls v j r) (same_pure n Next)) (same_on_next n (same_annotations ss))
    same_annotations _ = same_pure n _

  -- ---- calls and runs

  module _ (n : ℕ) where
    pub same_open : (ls : List Layout) (f : Function) (vs : List Value) → Same n (ca.open_frame resting ls f vs) (ca.open_frame resting ls f vs)
    same_open ls f vs = same_bind n (same_get n) (λ s. same_then n (same_put_memory n _) (same_then n (same_put_ghosts n _) (same_put_made n _)))

    pub same_close : Same n (ca.close_frame resting) (ca.close_frame resting)
    same_close = same_bind n (same_get n) (λ s. same_then n (same_put_memory n _) (same_put_ghosts n _))

    pub same_returned : (t : CType) (v : Option Value) → Same n (ca.returned resting t v) (ca.returned resting t v)
    same_returned type.Void None = same_pure n None
    same_returned type.Void (Some v) = same_stop n _ tt
    same_returned _ None = same_stop n _ tt
    same_returned _ (Some v) = same_pure n (Some v)

    pub same_fallen_off : (here : Here) (b : Bool) (t : CType) → Same n (ca.fallen_off resting here b t) (ca.fallen_off resting here b t)
    same_fallen_off here true t = same_pure n _
    same_fallen_off here false type.Void = same_pure n _
    same_fallen_off here false _ = same_halt n here _

    pub same_given : (here : Here) (b : Bool) (t : CType) (l : Completion) → Same n (ca.given_back resting here b t l) (ca.given_back resting here b t l)
    same_given here b t (Returned v) = same_returned t v
    same_given here b t Next = same_fallen_off here b t
    same_given here b t Broken = same_stop n _ tt
    same_given here b t Continued = same_stop n _ tt

  module _ (q : Core) (k k' : ℕ) where
    pub same_activation : (n : ℕ) → suc n ≤ k → suc n ≤ k' → (call call' : ℕ → List Value → RestingCall) → ((g : ℕ) (vs : List Value) → SameCall n (call g vs) (call' g vs)) → (g : ℕ) (f : Function) (body : List Stmt) (vs : List Value) → Same (suc n) (ca.activation resting q k call g f body vs) (ca.activation resting q k' call' g f body vs)
    same_activation n le le' call call' h g f body vs =
        same_bind (suc n) (same_get (suc n)) (λ s.
        let here : Here = record { function = g; activation = s.made } in
        same_then (suc n) (same_open (suc n) q.layouts f vs)
        (same_then (suc n) (same_annotations (suc n) q.layouts here call call' k k' le le' body)
        (same_emit_then n here (act.Enter g vs)
        (same_bind n (same_exec_all n q.layouts here call call' h k k' (omega arith) (omega arith) (after_annotations body)) (λ l.
        same_bind n (same_given n here _ f.result l) (λ v.
        same_then n (same_emit n here _) (same_then n (same_close n) (same_pure n _))))))))

    pub same_call_body : (n : ℕ) → suc n ≤ k → suc n ≤ k' → (call call' : ℕ → List Value → RestingCall) → ((g : ℕ) (vs : List Value) → SameCall n (call g vs) (call' g vs)) → (g : ℕ) (f : Function) (body : Option (List Stmt)) (vs : List Value) → SameCall (suc n) (ca.call_body resting q k call g f body vs) (ca.call_body resting q k' call' g f body vs)
    same_call_body n le le' call call' h g f None vs = same_alone (suc n) [] (same_stop (suc n) (Fault fault.Invalid) tt)
    same_call_body n le le' call call' h g f (Some body) vs = same_alone (suc n) (unset_registers f.registers) (same_activation n le le' call call' h g f body vs)

    pub same_call_of : (n : ℕ) → suc n ≤ k → suc n ≤ k' → (call call' : ℕ → List Value → RestingCall) → ((g : ℕ) (vs : List Value) → SameCall n (call g vs) (call' g vs)) → (g : ℕ) (f : Option Function) (vs : List Value) → SameCall (suc n) (ca.call_of resting q k call g f vs) (ca.call_of resting q k' call' g f vs)
    same_call_of n le le' call call' h g None vs = same_alone (suc n) [] (same_stop (suc n) (Fault fault.Invalid) tt)
    same_call_of n le le' call call' h g (Some f) vs = same_call_body n le le' call call' h g f f.body vs

    pub same_calls : (n depth depth' : ℕ) → n ≤ depth → n ≤ depth' → n ≤ k → n ≤ k' → (g : ℕ) (vs : List Value) → SameCall n (ca.calls resting q k depth g vs) (ca.calls resting q k' depth' g vs)
    same_calls zero depth depth' a a' b b' g vs = call_zero _ _
    same_calls (suc n) zero depth' a a' b b' g vs = absurd (omega arith)
    same_calls (suc n) (suc depth) zero a a' b b' g vs = absurd (omega arith)
    same_calls (suc n) (suc depth) (suc depth') a a' b b' g vs =
        same_call_of n b b' (ca.calls resting q k depth) (ca.calls resting q k' depth') (same_calls n depth depth' (omega arith) (omega arith) (omega arith) (omega arith)) g (slice_get q.functions g) vs

  -- bounds of n or more give runs that are related up to n steps
  pub bounds_alike : (q : Core) (input : List ℕ) (n k k' : ℕ) → n ≤ k → n ≤ k' → R n (run q input k) (run q input k')
  bounds_alike q input n k k' le le' =
      (same_calls q k k' n k k' le le' le le' q.start []).by n (omega arith) (λ v s. Stop (exit_of v)) (λ v s. Stop (exit_of v)) (λ j jl v s. counts.stops j (exit_of v) (exit_is_real v)) (start_state q input)
