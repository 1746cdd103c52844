-- What each form of expression does is done by the statement that its code ends with.
use Rattle.std.proofs.Common.{◌≡◌, ℕ, ◌≤◌, Bool, true, false, not, cond, List, [], ◌∷◌, Option, Some, None, Result, Ok, Err, map, refl, ap, ◌∙◌, subst}
use Rattle.std.specs.Prelude.{ℤ, pos, ◌*ℤ◌, neg_ℤ, slice_get}
use denote.Hole.Carrier.{hidden}
use Rattle.step_meaning.specs.declared.value.IntKind.{IntKind}
use Rattle.step_meaning.specs.declared.value.CType.{CType}
use Rattle.step_meaning.specs.declared.value.CType.TheVariants as type
use Rattle.step_meaning.specs.declared.value.Value.{Value}
use Rattle.step_meaning.specs.declared.value.Value.TheVariants as value
use Rattle.step_meaning.specs.declared.value.RunFault.{RunFault}
use Rattle.step_meaning.specs.declared.value.Action.TheVariants as act
use Rattle.step_meaning.specs.declared.expr.IntOp.{IntOp}
use Rattle.step_meaning.specs.declared.expr.UnaryOp.{UnaryOp}
use Rattle.step_meaning.specs.declared.expr.Side.{Side}
use Rattle.step_meaning.specs.declared.expr.Side.TheVariants.{PointerFirst, PointerLast, Minus}
use Rattle.step_meaning.specs.declared.expr.Answer.{Answer}
use Rattle.step_meaning.specs.declared.expr.Answer.TheVariants.{Before, After}
use Rattle.step_meaning.specs.declared.expr.UpdateOp.{UpdateOp}
use Rattle.step_meaning.specs.declared.expr.UpdateOp.TheVariants.{Integer, Forward, Backward}
use Rattle.step_meaning.specs.declared.expr.Expr.{Expr}
use Rattle.step_meaning.specs.declared.expr.Expr.TheVariants.{Load, Address, Invoke, GetChar}
use Rattle.step_meaning.specs.declared.expr.Expr.TheBlock.{shape-the_row-Expr-1, hidden-the_row-Expr-1}
use Rattle.step_meaning.specs.declared.program.Layout.{Layout}
use Rattle.step_meaning.specs.declared.stmt.Stmt.TheVariants.{Eval}
use Rattle.step_meaning.specs.Numbers.{converted, binary_of, unary_of, low_bits}
use Rattle.step_meaning.specs.Names.{truth, of_truth, integer, moved, distance, compared}
use Rattle.step_meaning.specs.Memory.{Block, Frame, Memory, room_at, reached, without, begins_block, freed}
use Rattle.step_meaning.specs.Allocation.{block_for, allocate_block, allocate, release_to, release}
use Rattle.step_meaning.specs.Conversions.{same_int_kind}
use Rattle.step_meaning.specs.State.{Here, Registers, At}
use Rattle.step_meaning.specs.Flow.{direct, Direct, DirectCall, CallGives, World, Gives, Done, Over, Stuck, onward, step_by, after_call}
use Rattle.step_meaning.specs.Flow as flow
use Rattle.step_meaning.specs.Accesses as acc
use Rattle.step_meaning.specs.Expressions as ex
use Rattle.step_meaning.specs.Statements.{Next}
use Rattle.step_meaning.specs.declared.program.Core.{Core}
use Rattle.step_meaning.proofs.TypedMemory.{Shape, shape_of}
use Rattle.normal_laws.specs.NormalForm.{Operand, Held, Absent, Target, expression_of, place_of, convert, unary, binary, compare, move, difference, negated, as_truth_value, put_char, allocated, released, member, index, convert_from, convert_back, updated_expression, answered, result_type, set_to, one, Codes}
use Rattle.normal_laws.proofs.Emission.{Stands, Ready, keeps_all, Makes, Twin, Designates, ev, run, operand, target_place, twin_checked, twin_int, twin_truth, twin_held, twin_address, set_result, and_then}

-- the operand of an update stands for the same value
pub answered_stands : (w : Answer) (a b : Operand) (r : Registers) (x y : Value) → Stands a r x → Stands b r y → Stands (answered w a b) r (acc.answer w x y)
answered_stands Before a b r x y ha hb = ha
answered_stands After a b r x y ha hb = hb

-- a function without a value gives 0
abbrev pub VoidGives : CType → Value → Type 0
VoidGives type.Void v = value.Int (pos 0) ≡ v
VoidGives _ v = Unit {0}

-- what is asked of calls: they close the frames that they open
abbrev pub CallFits : CType → World → CallGives → Type 0
CallFits t w (flow.Returned v u) = (map shape_of u.memory.frames ≡ map shape_of w.memory.frames) × VoidGives t v
CallFits t w (flow.Ended e l) = Unit {0}

abbrev pub CallsFit : Core → (ℕ → List Value → DirectCall) → Type 0
CallsFit q call = (g : ℕ) (vs : List Value) (w : World) → CallFits (result_type (slice_get q.functions g)) w (call g vs w)

truth_twice : (b : Bool) → of_truth (not (truth (of_truth (not b)))) ≡ of_truth b
truth_twice true = refl
truth_twice false = refl

module _ (D : List CType) (S : List Shape) (layouts : List Layout) (call : ℕ → List Value → DirectCall) (here : Here) (bound : ℕ) where
  abbrev e_of : Expr → Direct Value
  e_of = ev D S layouts call here bound

  abbrev T : {A : Type 0} → Registers → Gives A → Gives A → Type 0
  T r o p = Twin D S r o p

  abbrev opd : (a : Operand) (w : World) (r : Registers) (x : Value) → Stands a r x → e_of (expression_of a) w r ≡ Done x w r
  opd = operand D S layouts call here bound

  pub load_twin : (t : CType) (u : Target) (p : Value) (w : World) (s r : Registers) → Ready D S w r → Designates D S layouts call here bound u r (At p) → T r (acc.load direct here t (At p) w s) (e_of (Load (place_of u) t) w r)
  load_twin t u p w s r rd h = rw (target_place D S layouts call here bound u w r p h)
      (twin_held D S layouts call here bound (reached w.memory p t) (record w { log = step_by here (act.Read p) w.memory ∷ w.log }) s r rd.framed)

  pub address_twin : (t : CType) (u : Target) (p : Value) (w : World) (s r : Registers) → Ready D S w r → Designates D S layouts call here bound u r (At p) → T r (acc.address_of direct (At p) w s) (e_of (Address (place_of u) t) w r)
  address_twin t u p w s r rd h = rw (target_place D S layouts call here bound u w r p h) (refl, rd.framed)

  pub convert_twin : (k : IntKind) (a : Operand) (x : Value) (w : World) (s r : Registers) → Ready D S w r → Stands a r x → T r (direct.pure (value.Int (converted k (integer x))) w s) (e_of (convert k (expression_of a)) w r)
  convert_twin k a x w s r rd h = rw (opd a w r x h) (refl, rd.framed)

  pub unary_twin : (o : UnaryOp) (k : IntKind) (a : Operand) (x : Value) (w : World) (s r : Registers) → Ready D S w r → Stands a r x
      → T r (acc.as_int direct (acc.checked direct here (unary_of o k (integer x))) w s) (e_of (unary o k (expression_of a)) w r)
  unary_twin o k a x w s r rd h = rw (opd a w r x h) (twin_int D S layouts call here bound (unary_of o k (integer x)) w s r rd.framed)

  pub binary_twin : (o : IntOp) (k : IntKind) (a b : Operand) (x y : Value) (w : World) (s r : Registers) → Ready D S w r → Stands a r x → Stands b r y
      → T r (acc.as_int direct (acc.checked direct here (binary_of o k (integer x) (integer y))) w s) (e_of (binary o k (expression_of a) (expression_of b)) w r)
  binary_twin o k a b x y w s r rd ha hb = rw (opd a w r x ha) (rw (opd b w r y hb) (twin_int D S layouts call here bound (binary_of o k (integer x) (integer y)) w s r rd.framed))

  pub compare_twin : (o : _) (a b : Operand) (x y : Value) (w : World) (s r : Registers) → Ready D S w r → Stands a r x → Stands b r y
      → T r (acc.as_truth direct (acc.checked direct here (compared o x y)) w s) (e_of (compare o (expression_of a) (expression_of b)) w r)
  compare_twin o a b x y w s r rd ha hb = rw (opd a w r x ha) (rw (opd b w r y hb) (twin_truth D S layouts call here bound (compared o x y) w s r rd.framed))

  pub difference_twin : (unit : ℕ) (a b : Operand) (x y : Value) (w : World) (s r : Registers) → Ready D S w r → Stands a r x → Stands b r y
      → T r (acc.as_int direct (acc.checked direct here (distance x y unit)) w s) (e_of (difference (expression_of a) (expression_of b) unit) w r)
  difference_twin unit a b x y w s r rd ha hb = rw (opd a w r x ha) (rw (opd b w r y hb) (twin_int D S layouts call here bound (distance x y unit) w s r rd.framed))

  moved_twin : (size : ℕ) (side : Side) (x y : Value) (w : World) (s r : Registers) → Ready D S w r → T r (acc.move_elements direct here side size x y w s) (acc.move_elements direct here side size x y w r)
  moved_twin size PointerFirst x y w s r rd = twin_checked D S layouts call here bound (moved x (room_at w.memory x) (integer y *ℤ pos size)) w s r rd.framed
  moved_twin size PointerLast x y w s r rd = twin_checked D S layouts call here bound (moved y (room_at w.memory y) (integer x *ℤ pos size)) w s r rd.framed
  moved_twin size Minus x y w s r rd = twin_checked D S layouts call here bound (moved x (room_at w.memory x) (neg_ℤ (integer y *ℤ pos size))) w s r rd.framed

  pub move_twin : (size : ℕ) (side : Side) (a b : Operand) (x y : Value) (w : World) (s r : Registers) → Ready D S w r → Stands a r x → Stands b r y
      → T r (acc.move_elements direct here side size x y w s) (e_of (move (expression_of a) (expression_of b) size side) w r)
  move_twin size side a b x y w s r rd ha hb = rw (opd a w r x ha) (rw (opd b w r y hb) (moved_twin size side x y w s r rd))

  pub not_twin : (a : Operand) (x : Value) (w : World) (s r : Registers) → Ready D S w r → Stands a r x → T r (direct.pure (of_truth (not (truth x))) w s) (e_of (negated (expression_of a)) w r)
  not_twin a x w s r rd h = rw (opd a w r x h) (refl, rd.framed)

  pub truth_twin : (a : Operand) (x : Value) (w : World) (s r : Registers) → Ready D S w r → Stands a r x → T r (direct.pure (of_truth (truth x)) w s) (e_of (as_truth_value (expression_of a)) w r)
  truth_twin a x w s r rd h = rw (opd a w r x h) (ap (λ v. Done v w r) (truth_twice (truth x)), rd.framed)

  pub put_char_twin : (a : Operand) (x : Value) (w : World) (s r : Registers) → Ready D S w r → Stands a r x → T r (acc.put_char direct here x w s) (e_of (put_char (expression_of a)) w r)
  put_char_twin a x w s r rd h = rw (opd a w r x h) (refl, rd.framed)

  -- ---- the heap

  allocated_twin : (count : ℕ) (b : Option Block) (w : World) (s r : Registers) → map shape_of w.memory.frames ≡ S → T r (allocate_block direct here count b w s) (allocate_block direct here count b w r)
  allocated_twin count None w s r f = (refl, f)
  allocated_twin count (Some b) w s r f = (refl, f)

  pub allocate_twin : (t : CType) (a : Operand) (x : Value) (w : World) (s r : Registers) → Ready D S w r → Stands a r x → T r (allocate direct here layouts t x w s) (e_of (allocated t (expression_of a)) w r)
  allocate_twin t a x w s r rd h = rw (opd a w r x h) (allocated_twin (low_bits 64 (integer x)) (block_for layouts t (low_bits 64 (integer x))) w s r rd.framed)

  -- the end of a block changes no frame
  abbrev FreedFramed : List Frame → Option Memory → Type 0
  FreedFramed fs None = Unit {0}
  FreedFramed fs (Some m) = m.frames ≡ fs

  freed_framed : (m : Memory) (p : Value) → FreedFramed m.frames (freed m p)
  freed_framed m (value.Int z) = tt
  freed_framed m value.Null = refl
  freed_framed m (value.Pointer n o) = by (begins_block m n o)
    where
      by : (b : Bool) → FreedFramed m.frames (cond b (Some (record m { heap = without n.activation m.heap })) None)
      by true = refl
      by false = tt

  release_done : (k : ℕ) (o : Option Memory) (w : World) (s r : Registers) → FreedFramed w.memory.frames o → Ready D S w r
      → Makes D S k (Stands Absent) r (release_to direct here o w s) (and_then (onward (release_to direct here o w r) (λ x w r. Done Next w r)) (run D S layouts call here bound []))
  release_done k None w s r h rd = refl
  release_done k (Some m) w s r h rd = (r, refl, refl, keeps_all D S k (record w { memory = m }) r (record { shaped = rd.shaped; framed = ap (map shape_of) h ∙ rd.framed }))

  pub release_made : (k : ℕ) (a : Operand) (x : Value) (w : World) (s r : Registers) → Ready D S w r → Stands a r x → Makes D S k (Stands Absent) r (release direct here x w s) (run D S layouts call here bound (one (Eval (released (expression_of a)))) w r)
  release_made k a x w s r rd h =
      rw (opd a w r x h)
      (release_done k (freed w.memory x) (record w { log = step_by here (act.Free x) w.memory ∷ w.log }) s r (freed_framed w.memory x) (record { shaped = rd.shaped; framed = rd.framed }))

  next_twin : (bs : List ℕ) (w : World) (s r : Registers) → map shape_of w.memory.frames ≡ S → T r (acc.next_byte direct here bs w s) (acc.next_byte direct here bs w r)
  next_twin [] w s r f = (refl, f)
  next_twin (b ∷ bs) w s r f = (refl, f)

  pub get_char_twin : (w : World) (s r : Registers) → Ready D S w r → T r (acc.get_char direct here w s) (e_of GetChar w r)
  get_char_twin w s r rd = next_twin w.input (record w { log = step_by here act.Input w.memory ∷ w.log }) s r rd.framed

  -- ---- addresses of parts

  pub member_twin : (o : ℕ) (t : CType) (u : Target) (p : Value) (w : World) (s r : Registers) → Ready D S w r → Designates D S layouts call here bound u r (At p)
      → T r (acc.move_by direct here p (pos o) w s) (e_of (Address (member (place_of u) o) t) w r)
  member_twin o t u p w s r rd h = rw (target_place D S layouts call here bound u w r p h) (twin_address D S layouts call here bound (moved p (room_at w.memory p) (pos o)) w s r rd.framed)

  pub index_twin : (size : ℕ) (t : CType) (u : Target) (b : Operand) (p x : Value) (w : World) (s r : Registers) → Ready D S w r → Designates D S layouts call here bound u r (At p) → Stands b r x
      → T r (acc.move_by direct here p (integer x *ℤ pos size) w s) (e_of (Address (index (place_of u) (expression_of b) size) t) w r)
  index_twin size t u b p x w s r rd hp hb =
      rw (target_place D S layouts call here bound u w r p hp) (rw (opd b w r x hb) (twin_address D S layouts call here bound (moved p (room_at w.memory p) (integer x *ℤ pos size)) w s r rd.framed))

  -- ---- updates

  -- the old value in the kind of the operation
  brought_operand : (t : CType) (k : IntKind) (a : Operand) (x : Value) (w : World) (r : Registers) → Stands a r x
      → (y : Value) × (e_of (convert_from t k (expression_of a)) w r ≡ Done y w r) × (integer y ≡ acc.brought_to k t (integer x))
  brought_operand (type.Int l) k a x w r h = by (same_int_kind l k)
    where
      by : (b : Bool) → (y : Value) × (e_of (cond b (expression_of a) (convert k (expression_of a))) w r ≡ Done y w r) × (integer y ≡ cond b (integer x) (converted k (integer x)))
      by true = (x, opd a w r x h, refl)
      by false = (value.Int (converted k (integer x)), ap (λ o. onward o (λ v w r. Done (value.Int (converted k (integer v))) w r)) (opd a w r x h), refl)
  brought_operand type.Void k a x w r h = (value.Int (converted k (integer x)), ap (λ o. onward o (λ v w r. Done (value.Int (converted k (integer v))) w r)) (opd a w r x h), refl)
  brought_operand (type.Pointer' b t) k a x w r h = (value.Int (converted k (integer x)), ap (λ o. onward o (λ v w r. Done (value.Int (converted k (integer v))) w r)) (opd a w r x h), refl)
  brought_operand (type.Array' b t n) k a x w r h = (value.Int (converted k (integer x)), ap (λ o. onward o (λ v w r. Done (value.Int (converted k (integer v))) w r)) (opd a w r x h), refl)
  brought_operand (type.Struct n) k a x w r h = (value.Int (converted k (integer x)), ap (λ o. onward o (λ v w r. Done (value.Int (converted k (integer v))) w r)) (opd a w r x h), refl)

  back_done : (k : IntKind) (t : CType) (e : Expr) (z : ℤ) (w : World) (r : Registers) → e_of e w r ≡ Done (value.Int z) w r → e_of (convert_back k t e) w r ≡ Done (value.Int (acc.converted_to k t z)) w r
  back_done k (type.Int l) e z w r h = by (same_int_kind k l)
    where
      by : (b : Bool) → e_of (cond b e (convert l e)) w r ≡ Done (value.Int (cond b z (converted l z))) w r
      by true = h
      by false = ap (λ o. onward o (λ v w r. Done (value.Int (converted l (integer v))) w r)) h
  back_done k type.Void e z w r h = h
  back_done k (type.Pointer' b t) e z w r h = h
  back_done k (type.Array' b t n) e z w r h = h
  back_done k (type.Struct n) e z w r h = h

  back_over : (k : IntKind) (t : CType) (e : Expr) (f : _) (l : _) (w : World) (r : Registers) → e_of e w r ≡ Over f l → e_of (convert_back k t e) w r ≡ Over f l
  back_over k (type.Int j) e f l w r h = by (same_int_kind k j)
    where
      by : (b : Bool) → e_of (cond b e (convert j e)) w r ≡ Over f l
      by true = h
      by false = ap (λ o. onward o (λ v w r. Done (value.Int (converted j (integer v))) w r)) h
  back_over k type.Void e f l w r h = h
  back_over k (type.Pointer' b t) e f l w r h = h
  back_over k (type.Array' b t n) e f l w r h = h
  back_over k (type.Struct n) e f l w r h = h

  back_twin : (k : IntKind) (t : CType) (e : Expr) (c : Result ℤ RunFault) (w : World) (s r : Registers) → Ready D S w r → e_of e w r ≡ acc.as_int direct (acc.checked direct here c) w r
      → T r (acc.as_int direct (direct.bind (acc.checked direct here c) (λ z. direct.pure (acc.converted_to k t z))) w s) (e_of (convert_back k t e) w r)
  back_twin k t e (Ok z) w s r rd h = (back_done k t e z w r h, rd.framed)
  back_twin k t e (Err f) w s r rd h = back_over k t e _ _ w r h

  pub update_twin : (t : CType) (o : UpdateOp) (a b : Operand) (x y : Value) (w : World) (s r : Registers) → Ready D S w r → Stands a r x → Stands b r y
      → T r (acc.updated direct here t o x y w s) (e_of (updated_expression t o (expression_of a) (expression_of b)) w r)
  update_twin t (Integer o k) a b x y w s r rd ha hb =
      let old = brought_operand t k a x w r ha in
      back_twin k t (binary o k (convert_from t k (expression_of a)) (expression_of b)) (binary_of o k (acc.brought_to k t (integer x)) (integer y)) w s r rd
      (rw old.1 (rw (opd b w r y hb) (ap (λ z. acc.as_int direct (acc.checked direct here (binary_of o k z (integer y))) w r) old.2)))
  update_twin t (Forward size) a b x y w s r rd ha hb = move_twin size PointerFirst a b x y w s r rd ha hb
  update_twin t (Backward size) a b x y w s r rd ha hb = move_twin size Minus a b x y w s r rd ha hb

  -- ---- calls

  abbrev pub Stand : List Operand → Registers → List Value → Type 0
  Stand [] r [] = Unit {0}
  Stand [] r (x ∷ xs) = ⊥
  Stand (a ∷ more) r [] = ⊥
  Stand (a ∷ more) r (x ∷ xs) = Stands a r x × Stand more r xs

  abbrev evs : List Expr → Direct (List Value)
  evs [] = direct.pure []
  evs (e ∷ es) = direct.bind (e_of e) (λ v. direct.bind (evs es) (λ vs. direct.pure (v ∷ vs)))

  row_all : (es : List Expr) → ex.all direct layouts call here (hidden-the_row-Expr-1 es) ≡ evs es
  unfolding shape-the_row-Expr-1 hidden-the_row-Expr-1 hidden
  row_all [] = refl
  row_all (e ∷ es) = ap (λ d. direct.bind (e_of e) (λ v. direct.bind d (λ vs. direct.pure (v ∷ vs)))) (row_all es)

  operands : (os : List Operand) (w : World) (r : Registers) (xs : List Value) → Stand os r xs → evs (map expression_of os) w r ≡ Done xs w r
  operands [] w r [] h = refl
  operands [] w r (x ∷ xs) h = absurd h
  operands (a ∷ more) w r [] h = absurd h
  operands (a ∷ more) w r (x ∷ xs) h = rw (opd a w r x h.0) (rw (operands more w r xs h.1) refl)

  abbrev pub calling : ℕ → World → World
  calling g w = record w { log = step_by here (act.Call g) w.memory ∷ w.log }

  invoked : (g : ℕ) (os : List Operand) (xs : List Value) (w : World) (r : Registers) → Stand os r xs → e_of (Invoke g (map expression_of os)) w r ≡ after_call (call g xs (calling g w)) r
  invoked g os xs w r h = rw (row_all (map expression_of os)) (rw (operands os w r xs h) refl)

  call_twin : (t : CType) (w : World) (c : CallGives) (s r : Registers) → CallFits t w c → Ready D S w r → T r (after_call c s) (after_call c r)
  call_twin t w (flow.Returned v u) s r h rd = (refl, h.0 ∙ rd.framed)
  call_twin t w (flow.Ended e l) s r h rd = refl

  -- a call of a function without a value
  call_alone : (k : ℕ) (g : ℕ) (os : List Operand) (v w : World) (c : CallGives) (s r : Registers) → CallFits type.Void v c → Ready D S v r → e_of (Invoke g (map expression_of os)) w r ≡ after_call c r
      → Makes D S k (Stands Absent) r (after_call c s) (run D S layouts call here bound (one (Eval (Invoke g (map expression_of os)))) w r)
  call_alone k g os v w (flow.Returned x u) s r h rd e = (r, ap (λ o. and_then (onward o (λ x w r. Done Next w r)) (run D S layouts call here bound [])) e, h.1, keeps_all D S k u r (record { shaped = rd.shaped; framed = h.0 ∙ rd.framed }))
  call_alone k g os v w (flow.Ended f l) s r h rd e = ap (λ o. and_then (onward o (λ x w r. Done Next w r)) (run D S layouts call here bound [])) e

  module _ (q : Core) (fit : CallsFit q call) (g : ℕ) (E : Codes) (xs : List Value) (w : World) (s r : Registers) (rd : Ready D S w r) (h : Stand E.values r xs) where
    abbrev c_of : CallGives
    c_of = call g xs (calling g w)

    ready_there : Ready D S (calling g w) r
    ready_there = record { shaped = rd.shaped; framed = rd.framed }

    pub into : (k : ℕ) (t : CType) → k ≤ E.next → slice_get D E.next ≡ Some t
        → Makes D S k (Stands (Held E.next t)) r (after_call c_of s) (run D S layouts call here bound (one (set_to E.next t (Invoke g (map expression_of E.values)))) w r)
    into k t le at =
        set_result D S layouts call here bound k E.next t (Invoke g (map expression_of E.values)) w r (after_call c_of s) le rd.shaped at
        (rw (invoked g E.values xs w r h) (call_twin (result_type (slice_get q.functions g)) (calling g w) c_of s r (fit g xs (calling g w)) ready_there))

    pub alone : (k : ℕ) → result_type (slice_get q.functions g) ≡ type.Void
        → Makes D S k (Stands Absent) r (after_call c_of s) (run D S layouts call here bound (one (Eval (Invoke g (map expression_of E.values)))) w r)
    alone k e = call_alone k g E.values (calling g w) w c_of s r (subst (λ t. CallFits t (calling g w) c_of) e (fit g xs (calling g w))) ready_there (invoked g E.values xs w r h)
