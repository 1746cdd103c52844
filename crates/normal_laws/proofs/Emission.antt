-- What code makes of a part of a run: the same steps, the same world, and a value in an operand.
use Rattle.std.proofs.Common.{◌≡◌, ℕ, zero, suc, ◌<◌, ◌≤◌, Bool, true, false, cond, List, [], ◌∷◌, ◌++◌, Option, Some, None, Result, Ok, Err, map, refl, sym, ap, ◌∙◌, subst, arith, le_refl}
use Rattle.std.specs.Prelude.{ℤ, pos, slice_get}
use mathlib.Core.Path.{fun_ext}
use denote.Hole.Carrier.{hidden}
use Rattle.step_meaning.specs.declared.value.CType.{CType}
use Rattle.step_meaning.specs.declared.value.NameKind.{NameKind}
use Rattle.step_meaning.specs.declared.value.NameKind.TheVariants.{Global, Local, Heap, Register, GhostGlobal, GhostLocal}
use Rattle.step_meaning.specs.declared.value.Value.{Value}
use Rattle.step_meaning.specs.declared.value.Value.TheVariants as value
use Rattle.step_meaning.specs.declared.value.Cell.{Cell}
use Rattle.step_meaning.specs.declared.value.Cell.TheVariants.{Nothing, Holds}
use Rattle.step_meaning.specs.declared.value.RunFault.{RunFault}
use Rattle.step_meaning.specs.declared.value.Action.TheVariants as act
use Rattle.step_meaning.specs.declared.expr.Expr.{Expr}
use Rattle.step_meaning.specs.declared.stmt.Stmt.{Stmt}
use Rattle.step_meaning.specs.declared.stmt.Stmt.TheVariants.{Block}
use Rattle.step_meaning.specs.declared.stmt.Stmt.TheBlock.{shape-the_row-Stmt-0, hidden-the_row-Stmt-0}
use Rattle.step_meaning.specs.declared.program.Layout.{Layout}
use Rattle.step_meaning.specs.Names.{same_kind, name_in, truth}
use Rattle.step_meaning.specs.Memory.{Memory, reached, stored, typed, put}
use Rattle.step_meaning.specs.State.{Here, Registers, register_at, set_register, Lvalue, InRegister, At}
use Rattle.step_meaning.specs.Flow.{direct, Direct, DirectCall, World, Gives, Done, Over, Stuck, onward, step_by}
use Rattle.step_meaning.specs.Accesses as acc
use Rattle.step_meaning.specs.Expressions as ex
use Rattle.step_meaning.specs.Statements as sm
use Rattle.step_meaning.specs.Statements.{Completion, Next, Broken, Continued, Returned}
use Rattle.step_meaning.proofs.TypedMemory.{Shape, shape_of, frames_shaped}
use Rattle.normal_laws.specs.NormalForm.{Operand, Number, Nil, Held, Absent, Target, Named, Pointed, expression_of, place_of, assign, set_to, one, choice, Code, PlaceCode}
use Rattle.normal_laws.specs.SourceCode.{IsSourceKind}
use Rattle.normal_laws.proofs.Registers.{shape, shape_set, slot_there, set_held, set_others}

-- the register holds the value, or the operand is the value
abbrev pub Stands : Operand → Registers → Value → Type 0
Stands (Number k z) r v = value.Int z ≡ v
Stands Nil r v = value.Null ≡ v
Stands (Held i t) r v = register_at r i t ≡ Some (Holds v)
Stands Absent r v = value.Int (pos 0) ≡ v

abbrev pub IsBelow : ℕ → Operand → Type 0
IsBelow m (Held i t) = i < m
IsBelow m _ = Unit {0}

abbrev pub IsTargetBelow : ℕ → Target → Type 0
IsTargetBelow m (Named v) = Unit {0}
IsTargetBelow m (Pointed a) = IsBelow m a

-- the code that follows runs where what is before it was left at its end
abbrev pub and_then : Gives Completion → (World → Registers → Gives Completion) → Gives Completion
and_then t g = onward t (sm.on_next direct g)

pub and_next : (o : Gives Completion) → and_then o (λ w r. Done Next w r) ≡ o
and_next (Done Next w r) = refl
and_next (Done Broken w r) = refl
and_next (Done Continued w r) = refl
and_next (Done (Returned v) w r) = refl
and_next (Over e l) = refl
and_next (Stuck e l) = refl

pub then_then : (o : Gives Completion) (f g : World → Registers → Gives Completion) → and_then (and_then o f) g ≡ and_then o (λ w r. and_then (f w r) g)
then_then (Done Next w r) f g = refl
then_then (Done Broken w r) f g = refl
then_then (Done Continued w r) f g = refl
then_then (Done (Returned v) w r) f g = refl
then_then (Over e l) f g = refl
then_then (Stuck e l) f g = refl

-- a write keeps the activations and the declared cells of their variables
changed_shaped : (k : NameKind) (a i o : ℕ) (c : Cell) (memory : Memory) → map shape_of (put memory (record { kind = k; activation = a; index = i }) o c).frames ≡ map shape_of memory.frames
changed_shaped Global a i o c memory = refl
changed_shaped Local a i o c memory = frames_shaped c o i a memory.frames
changed_shaped Heap a zero o c memory = refl
changed_shaped Heap a (suc i) o c memory = refl
changed_shaped Register a i o c memory = refl
changed_shaped GhostGlobal a i o c memory = refl
changed_shaped GhostLocal a i o c memory = refl

stored_shaped : (p : Value) (c : Cell) (memory : Memory) → map shape_of (stored memory p c).frames ≡ map shape_of memory.frames
stored_shaped (value.Int z) c memory = refl
stored_shaped value.Null c memory = refl
stored_shaped (value.Pointer n o) c memory = changed_shaped n.kind n.activation n.index o c memory

-- D: the declared types of the registers; S: the shapes of the open activations
module _ (D : List CType) (S : List Shape) where
  abbrev pub Framed : World → Type 0
  Framed w = map shape_of w.memory.frames ≡ S

  pub record Ready (w : World) (r : Registers) : Type 0 where
    pub shaped : shape r ≡ D
    pub framed : Framed w

  -- the registers below m are as they were
  pub record Keeps (m : ℕ) (r : Registers) (w : World) (r' : Registers) : Type 0 where
    pub same : (i : ℕ) → i < m → slice_get r' i ≡ slice_get r i
    pub ready : Ready w r'

  pub keeps_all : (m : ℕ) (w : World) (r : Registers) → Ready w r → Keeps m r w r
  keeps_all m w r h = record { same = λ i lt. refl; ready = h }

  pub keeps_set : (m i : ℕ) (v : Value) (w : World) (r : Registers) → m ≤ i → shape r ≡ D → Framed w → Keeps m r w (set_register r i v)
  keeps_set m i v w r le h f = record { same = λ j lt. set_others r i j v (omega arith); ready = record { shaped = shape_set r i v ∙ h; framed = f } }

  pub keeps_then : (m n : ℕ) (w v : World) (r s t : Registers) → m ≤ n → Keeps m r w s → Keeps n s v t → Keeps m r v t
  keeps_then m n w v r s t le a b = record { same = λ i lt. b.same i (omega arith) ∙ a.same i lt; ready = b.ready }

  pub keeps_fewer : (k n : ℕ) (w : World) (r s : Registers) → k ≤ n → Keeps n r w s → Keeps k r w s
  keeps_fewer k n w r s le h = record { same = λ i lt. h.same i (omega arith); ready = h.ready }

  pub stands_on : (m : ℕ) (a : Operand) (w : World) (r s : Registers) (x : Value) → IsBelow m a → Keeps m r w s → Stands a r x → Stands a s x
  stands_on m (Number k z) w r s x b k' h = h
  stands_on m Nil w r s x b k h = h
  stands_on m (Held i t) w r s x b k h = ap (λ c. typed c t) (k.same i b) ∙ h
  stands_on m Absent w r s x b k h = h

  -- the code does what the part of a run does, and makes what it gives
  abbrev pub Makes : {A : Type 0} → ℕ → (Registers → A → Type 0) → Registers → Gives A → Gives Completion → Type 0
  Makes m H r (Done x w s) t = (r' : Registers) × (t ≡ Done Next w r') × H r' x × Keeps m r w r'
  Makes m H r (Over e l) t = t ≡ Over e l
  Makes m H r (Stuck e l) t = ⊥

  pub makes_weaken : {A : Type 0} (m n : ℕ) (H : Registers → A → Type 0) (w : World) (r s : Registers) (o : Gives A) (t : Gives Completion) → m ≤ n → Keeps m r w s → Makes n H s o t → Makes m H r o t
  makes_weaken m n H w r s (Done x v q) t le k h = (h.0, h.1, h.2, keeps_then m n w v r s h.0 le k h.3)
  makes_weaken m n H w r s (Over e l) t le k h = h
  makes_weaken m n H w r s (Stuck e l) t le k h = h

  pub makes_bind : {A B : Type 0} (m n : ℕ) (H : Registers → A → Type 0) (K : Registers → B → Type 0) (r : Registers) (o : Gives A) (f : A → World → Registers → Gives B) (t : Gives Completion) (g : World → Registers → Gives Completion)
      → m ≤ n → Makes m H r o t
      → ((x : A) (w : World) (s r' : Registers) → H r' x → Keeps m r w r' → Makes n K r' (f x w s) (g w r'))
      → Makes m K r (onward o f) (and_then t g)
  makes_bind m n H K r (Done x w s) f t g le h go =
      subst (λ t. Makes m K r (f x w s) (and_then t g)) (sym h.1) (makes_weaken m n K w r h.0 (f x w s) (g w h.0) le h.3 (go x w s h.0 h.2 h.3))
  makes_bind m n H K r (Over e l) f t g le h go = ap (λ t. and_then t g) h
  makes_bind m n H K r (Stuck e l) f t g le h go = h

  -- another view of the value
  pub makes_map : {A B : Type 0} (m : ℕ) (H : Registers → A → Type 0) (K : Registers → B → Type 0) (r : Registers) (o : Gives A) (f : A → B) (t : Gives Completion) → Makes m H r o t
      → ((x : A) (r' : Registers) → H r' x → K r' (f x))
      → Makes m K r (onward o (λ x w s. Done (f x) w s)) t
  makes_map m H K r (Done x w s) f t h go = (h.0, h.1, go x h.0 h.2, h.3)
  makes_map m H K r (Over e l) f t h go = h
  makes_map m H K r (Stuck e l) f t h go = h

  pub makes_same : {A : Type 0} (m : ℕ) (H K : Registers → A → Type 0) (r : Registers) (o : Gives A) (t : Gives Completion) → Makes m H r o t → ((x : A) (r' : Registers) → H r' x → K r' x) → Makes m K r o t
  makes_same m H K r (Done x w s) t h go = (h.0, h.1, go x h.0 h.2, h.3)
  makes_same m H K r (Over e l) t h go = h
  makes_same m H K r (Stuck e l) t h go = h

  -- the same value and world, with other registers
  abbrev pub Twin : {A : Type 0} → Registers → Gives A → Gives A → Type 0
  Twin r (Done x w s) o = (o ≡ Done x w r) × Framed w
  Twin r (Over e l) o = o ≡ Over e l
  Twin r (Stuck e l) o = ⊥

  module _ (layouts : List Layout) (call : ℕ → List Value → DirectCall) (here : Here) (bound : ℕ) where
    abbrev pub ev : Expr → Direct Value
    ev = ex.eval direct layouts call here

    abbrev pub run : List Stmt → Direct Completion
    run = sm.exec_all direct layouts call here bound

    pub run_join : (a b : List Stmt) (w : World) (r : Registers) → run (a ++ b) w r ≡ and_then (run a w r) (run b)
    run_join [] b w r = refl
    run_join (s ∷ a) b w r =
        ap (and_then (sm.exec direct layouts call here bound s w r)) (fun_ext (λ w. fun_ext (λ r. run_join a b w r))) ∙ sym (then_then (sm.exec direct layouts call here bound s w r) (run a) (run b))

    pub block_row : (ss : List Stmt) → sm.exec_row direct layouts call here bound (hidden-the_row-Stmt-0 ss) ≡ run ss
    unfolding shape-the_row-Stmt-0 hidden-the_row-Stmt-0 hidden
    block_row [] = refl
    block_row (s ∷ ss) = ap (λ d. λ w r. and_then (sm.exec direct layouts call here bound s w r) d) (block_row ss)

    pub block_run : (ss : List Stmt) (w : World) (r : Registers) → sm.exec direct layouts call here bound (Block ss) w r ≡ run ss w r
    block_run ss w r = ap (λ d. d w r) (block_row ss)

    -- ---- operands and places

    abbrev pub Designates : Target → Registers → Lvalue → Type 0
    Designates u r (InRegister i) = ⊥
    Designates (Named v) r (At p) = (value.Pointer (name_in here.activation v) 0 ≡ p) × IsSourceKind v.kind
    Designates (Pointed a) r (At p) = Stands a r p

    pub source_kind : {A : Type 0} (k : NameKind) (x y : A) → IsSourceKind k → cond (same_kind k Register) x y ≡ y
    source_kind Global x y h = refl
    source_kind Local x y h = refl
    source_kind Heap x y h = refl
    source_kind Register x y h = absurd h
    source_kind GhostGlobal x y h = refl
    source_kind GhostLocal x y h = refl

    pub operand : (a : Operand) (w : World) (r : Registers) (x : Value) → Stands a r x → ev (expression_of a) w r ≡ Done x w r
    operand (Number k z) w r x h = ap (λ x. Done x w r) h
    operand Nil w r x h = ap (λ x. Done x w r) h
    operand (Held i t) w r x h = ap (λ c. acc.held_register direct here c w r) h
    operand Absent w r x h = ap (λ x. Done x w r) h

    pub target_place : (u : Target) (w : World) (r : Registers) (p : Value) → Designates u r (At p) → ex.place direct layouts call here (place_of u) w r ≡ Done (At p) w r
    target_place (Named v) w r p h = ap (λ a. Done a w r) (source_kind v.kind (InRegister v.index) (At (value.Pointer (name_in here.activation v) 0)) h.1 ∙ ap At h.0)
    target_place (Pointed a) w r p h = ap (λ o. onward o (λ a w r. Done (At a) w r)) (operand a w r p h)

    pub designates_on : (m : ℕ) (u : Target) (w : World) (r s : Registers) (a : Lvalue) → IsTargetBelow m u → Keeps m r w s → Designates u r a → Designates u s a
    designates_on m u w r s (InRegister i) b k h = absurd h
    designates_on m (Named v) w r s (At p) b k h = h
    designates_on m (Pointed a) w r s (At p) b k h = stands_on m a w r s p b k h

    -- ---- the operations whose faults depend on values and memory alone

    pub twin_checked : {A : Type 0} (c : Result A RunFault) (w : World) (s r : Registers) → Framed w → Twin r (acc.checked direct here c w s) (acc.checked direct here c w r)
    twin_checked (Ok x) w s r f = (refl, f)
    twin_checked (Err e) w s r f = refl

    pub twin_int : (c : Result ℤ RunFault) (w : World) (s r : Registers) → Framed w → Twin r (acc.as_int direct (acc.checked direct here c) w s) (acc.as_int direct (acc.checked direct here c) w r)
    twin_int (Ok x) w s r f = (refl, f)
    twin_int (Err e) w s r f = refl

    pub twin_truth : (c : Result Bool RunFault) (w : World) (s r : Registers) → Framed w → Twin r (acc.as_truth direct (acc.checked direct here c) w s) (acc.as_truth direct (acc.checked direct here c) w r)
    twin_truth (Ok x) w s r f = (refl, f)
    twin_truth (Err e) w s r f = refl

    pub twin_held : (c : Option Cell) (w : World) (s r : Registers) → Framed w → Twin r (acc.held direct here c w s) (acc.held direct here c w r)
    twin_held None w s r f = refl
    twin_held (Some Nothing) w s r f = refl
    twin_held (Some (Holds v)) w s r f = (refl, f)

    pub twin_address : (c : Result Value RunFault) (w : World) (s r : Registers) → Framed w → Twin r (acc.checked direct here c w s) (onward (onward (acc.checked direct here c w r) (λ q w r. Done (At q) w r)) (acc.address_of direct))
    twin_address (Ok x) w s r f = (refl, f)
    twin_address (Err e) w s r f = refl

    -- ---- statements of code

    -- a register takes an expression
    pub set_result : (k i : ℕ) (t : CType) (e : Expr) (w : World) (r : Registers) (o : Gives Value) → k ≤ i → shape r ≡ D → slice_get D i ≡ Some t → Twin r o (ev e w r)
        → Makes k (Stands (Held i t)) r o (run (one (set_to i t e)) w r)
    set_result k i t e w r (Done x v s) le hs at h =
        let q = slot_there r i t (ap (λ d. slice_get d i) hs ∙ at) in (
          set_register r i x,
          ap (λ o. and_then (onward (onward o (acc.store direct here t (InRegister i))) (λ x w r. Done Next w r)) (run [])) h.0
              ∙ ap (λ c. and_then (onward (acc.write_register direct here i x c v r) (λ x w r. Done Next w r)) (run [])) q.1,
          set_held r i t x q.0 q.1,
          keeps_set k i x v r le hs h.1,
        )
    set_result k i t e w r (Over f l) le hs at h = ap (λ o. and_then (onward (onward o (acc.store direct here t (InRegister i))) (λ x w r. Done Next w r)) (run [])) h
    set_result k i t e w r (Stuck f l) le hs at h = h

    -- a place takes an operand's value
    written : (k : ℕ) (H : Registers → Value → Type 0) (p x : Value) (c : Option Cell) (w : World) (s r : Registers) → Ready w r → H r x
        → Makes k H r (acc.write_at direct here p x c w s) (and_then (onward (acc.write_at direct here p x c w r) (λ x w r. Done Next w r)) (run []))
    written k H p x None w s r hs h = refl
    written k H p x (Some c) w s r hs h =
        (r, refl, h, keeps_all k (record w { memory = stored w.memory p (Holds x) }) r (record { shaped = hs.shaped; framed = stored_shaped p (Holds x) w.memory ∙ hs.framed }))

    pub store_result : (k : ℕ) (H : Registers → Value → Type 0) (u : Target) (a : Operand) (t : CType) (p x : Value) (w : World) (s r : Registers) → Ready w r → Designates u r (At p) → Stands a r x → H r x
        → Makes k H r (acc.store direct here t (At p) x w s) (run (one (assign (place_of u) t (expression_of a))) w r)
    store_result k H u a t p x w s r hs hp ha h =
        rw (target_place u w r p hp) (rw (operand a w r x ha)
        (written k H p x (reached w.memory p t) (record w { log = step_by here (act.Write p x) w.memory ∷ w.log }) s r (record { shaped = hs.shaped; framed = hs.framed }) h))

    -- a value goes on into one more register
    pub copy_made : (k i : ℕ) (t : CType) (a : Operand) (r : Registers) (o : Gives Value) (T : Gives Completion) → k ≤ i → slice_get D i ≡ Some t → Makes k (Stands a) r o T
        → Makes k (Stands (Held i t)) r o (and_then T (run (one (set_to i t (expression_of a)))))
    copy_made k i t a r (Done x w s) T le at h =
        subst (λ T. Makes k (Stands (Held i t)) r (Done x w s) (and_then T (run (one (set_to i t (expression_of a)))))) (sym h.1)
        (makes_weaken k k (Stands (Held i t)) w r h.0 (Done x w s) _ (le_refl k) h.3 (set_result k i t (expression_of a) w h.0 (Done x w s) le h.3.ready.shaped at (operand a w h.0 x h.2, h.3.ready.framed)))
    copy_made k i t a r (Over e l) T le at h = ap (λ T. and_then T (run (one (set_to i t (expression_of a))))) h
    copy_made k i t a r (Stuck e l) T le at h = h

    -- a value, and a register that takes an expression over it
    pub then_set_made : (k : ℕ) (t : CType) (f : Expr → Expr) (A : Code) (o : Gives Value) (g : Value → Direct Value) (w : World) (r : Registers) → k ≤ A.next → slice_get D A.next ≡ Some t
        → Makes k (Stands A.value) r o (run A.code w r)
        → ((x : Value) (w : World) (s r : Registers) → Ready w r → Stands A.value r x → Twin r (g x w s) (ev (f (expression_of A.value)) w r))
        → Makes k (Stands (Held A.next t)) r (onward o g) (run (A.code ++ one (set_to A.next t (f (expression_of A.value)))) w r)
    then_set_made k t f A o g w r le at h twin =
        rw (run_join A.code (one (set_to A.next t (f (expression_of A.value)))) w r)
        (makes_bind k A.next (Stands A.value) (Stands (Held A.next t)) r o g (run A.code w r) (run (one (set_to A.next t (f (expression_of A.value))))) le h
        (λ x w s r' ha keep. set_result A.next A.next t (f (expression_of A.value)) w r' (g x w s) (le_refl A.next) keep.ready.shaped at (twin x w s r' keep.ready ha)))

    -- two values
    pub then_set_both_made : (k : ℕ) (t : CType) (f : Expr → Expr → Expr) (A B : Code) (o : Gives Value) (p : Direct Value) (g : Value → Value → Direct Value) (w : World) (r : Registers)
        → k ≤ A.next → A.next ≤ B.next → IsBelow A.next A.value → slice_get D B.next ≡ Some t
        → Makes k (Stands A.value) r o (run A.code w r)
        → ((w : World) (s r : Registers) → Ready w r → Makes A.next (Stands B.value) r (p w s) (run B.code w r))
        → ((x y : Value) (w : World) (s r : Registers) → Ready w r → Stands A.value r x → Stands B.value r y → Twin r (g x y w s) (ev (f (expression_of A.value) (expression_of B.value)) w r))
        → Makes k (Stands (Held B.next t)) r (onward o (λ x w s. onward (p w s) (g x))) (run (A.code ++ (B.code ++ one (set_to B.next t (f (expression_of A.value) (expression_of B.value))))) w r)
    then_set_both_made k t f A B o p g w r le le' below at ha hb twin =
        let E = f (expression_of A.value) (expression_of B.value) in
        rw (run_join A.code (B.code ++ one (set_to B.next t E)) w r)
        (makes_bind k A.next (Stands A.value) (Stands (Held B.next t)) r o (λ x w s. onward (p w s) (g x)) (run A.code w r) (run (B.code ++ one (set_to B.next t E))) le ha
        (λ x w s r' sa keep. rw (run_join B.code (one (set_to B.next t E)) w r')
        (makes_bind A.next A.next (Stands B.value) (Stands (Held B.next t)) r' (p w s) (g x) (run B.code w r') (run (one (set_to B.next t E))) (le_refl A.next) (hb w s r' keep.ready)
        (λ y w s r'' sb keep'. set_result A.next B.next t E w r'' (g x y w s) le' keep'.ready.shaped at
        (twin x y w s r'' keep'.ready (stands_on A.next A.value w r' r'' x below keep' sa) sb)))))

    -- a place, and a register that takes an expression over it
    pub then_set_from_made : (k : ℕ) (t : CType) (f : Expr) (P : PlaceCode) (o : Gives Lvalue) (g : Lvalue → Direct Value) (w : World) (r : Registers) → k ≤ P.next → slice_get D P.next ≡ Some t
        → Makes k (Designates P.target) r o (run P.code w r)
        → ((p : Value) (w : World) (s r : Registers) → Ready w r → Designates P.target r (At p) → Twin r (g (At p) w s) (ev f w r))
        → Makes k (Stands (Held P.next t)) r (onward o g) (run (P.code ++ one (set_to P.next t f)) w r)
    then_set_from_made k t f P o g w r le at h twin =
        rw (run_join P.code (one (set_to P.next t f)) w r)
        (makes_bind k P.next (Designates P.target) (Stands (Held P.next t)) r o g (run P.code w r) (run (one (set_to P.next t f))) le h on)
      where
        on : (l : Lvalue) (w : World) (s r' : Registers) → Designates P.target r' l → Keeps k r w r' → Makes P.next (Stands (Held P.next t)) r' (g l w s) (run (one (set_to P.next t f)) w r')
        on (InRegister i) w s r' d keep = absurd d
        on (At p) w s r' d keep = set_result P.next P.next t f w r' (g (At p) w s) (le_refl P.next) keep.ready.shaped at (twin p w s r' keep.ready d)

    -- ---- branches

    pub branch_made : {A : Type 0} (k : ℕ) (H : Registers → A → Type 0) (c : Bool) (a b : List Stmt) (o p : Direct A) (w : World) (s r : Registers)
        → Makes k H r (o w s) (run a w r) → Makes k H r (p w s) (run b w r)
        → Makes k H r (cond c o p w s) (and_then (cond c (sm.exec direct layouts call here bound (Block a)) (sm.exec direct layouts call here bound (Block b)) w r) (λ w r. Done Next w r))
    branch_made k H true a b o p w s r ha hb = rw (and_next (sm.exec direct layouts call here bound (Block a) w r)) (rw (block_run a w r) ha)
    branch_made k H false a b o p w s r ha hb = rw (and_next (sm.exec direct layouts call here bound (Block b) w r)) (rw (block_run b w r) hb)

    -- a condition, and code for both cases
    pub choice_made : {A : Type 0} (k : ℕ) (H : Registers → A → Type 0) (C : Code) (a b : List Stmt) (d : Gives Value) (o p : Direct A) (w : World) (r : Registers) → k ≤ C.next
        → Makes k (Stands C.value) r d (run C.code w r)
        → ((w : World) (s r : Registers) → Ready w r → Makes C.next H r (o w s) (run a w r))
        → ((w : World) (s r : Registers) → Ready w r → Makes C.next H r (p w s) (run b w r))
        → Makes k H r (onward d (λ v. cond (truth v) o p)) (run (C.code ++ one (choice (expression_of C.value) a b)) w r)
    choice_made k H C a b d o p w r le h ha hb =
        rw (run_join C.code (one (choice (expression_of C.value) a b)) w r)
        (makes_bind k C.next (Stands C.value) H r d (λ v. cond (truth v) o p) (run C.code w r) (run (one (choice (expression_of C.value) a b))) le h
        (λ v w s r' hc keep. rw (operand C.value w r' v hc) (branch_made C.next H (truth v) a b o p w s r' (ha w s r' keep.ready) (hb w s r' keep.ready))))
