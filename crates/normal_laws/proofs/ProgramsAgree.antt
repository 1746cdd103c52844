-- A program and its normal form have the same runs.
use Rattle.std.proofs.Common.{◌≡◌, ℕ, zero, suc, ◌+◌, ◌==◌, Bool, true, false, cond, List, [], ◌∷◌, map, length, Option, Some, None, refl, sym, ap, ◌∙◌, subst, arith}
use Rattle.std.specs.Prelude.{slice_get, pos, drop, option_map, option_and_then}
use Rattle.std.proofs.lemmas.Bool.{eq-eqb}
use mathlib.Core.Path.{fun_ext}
use Rattle.step_meaning.specs.declared.value.CType.{CType}
use Rattle.step_meaning.specs.declared.value.CType.TheVariants as type
use Rattle.step_meaning.specs.declared.value.NameKind.{NameKind}
use Rattle.step_meaning.specs.declared.value.NameKind.TheVariants as names
use Rattle.step_meaning.specs.declared.value.Value.{Value}
use Rattle.step_meaning.specs.declared.value.Value.TheVariants as value
use Rattle.step_meaning.specs.declared.value.Action.TheVariants as act
use Rattle.step_meaning.specs.declared.stmt.Stmt.{Stmt}
use Rattle.step_meaning.specs.declared.stmt.Stmt.TheVariants as st
use Rattle.step_meaning.specs.declared.program.Core.{Core}
use Rattle.step_meaning.specs.declared.program.Function.{Function}
use Rattle.step_meaning.specs.declared.program.Declared.{Declared}
use Rattle.step_meaning.specs.declared.program.Layout.{Layout}
use Rattle.step_meaning.specs.Types.{object_cells}
use Rattle.step_meaning.specs.TypeRules.{cells}
use Rattle.step_meaning.specs.Names.{name_in}
use Rattle.step_meaning.specs.Memory.{Block, Frame, empty_block, frame_of, room}
use Rattle.step_meaning.specs.Settings.{Setting, variable_type, code_setting}
use Rattle.step_meaning.specs.State.{Here, Registers, unset_registers}
use Rattle.step_meaning.specs.Flow.{direct, Direct, DirectCall, World, Gives, Done, Over, Stuck, onward, as_call, step_by}
use Rattle.step_meaning.specs.Statements as sm
use Rattle.step_meaning.specs.Statements.{Completion, Next, Broken, Continued, Returned}
use Rattle.step_meaning.specs.Calls as cl
use Rattle.step_meaning.specs.Calls.{annotations, after_annotations, with_arguments, first_frame, first_ghosts, with_frame, value_or_zero}
use Rattle.step_meaning.specs.Steps.{Item, Made, Judged, items, end}
use Rattle.step_meaning.specs.declared.value.Action.{Action}
use Rattle.step_meaning.specs.Erasure.{Agrees, Enter, Call, Return, ShownMade, function_name, name_if_any, shown_action, shown_item}
use Rattle.step_meaning.specs.Runs.{run, trace_of, logged_by, start_world, start_state}
use Rattle.step_meaning.specs.Strict.{IsNotStuck, ActivationsSetRegisters}
use Rattle.step_meaning.specs.TracedRuns.{cells_declared}
use Rattle.step_meaning.proofs.TypedMemory.{Shape, shape_of, filled_declared, drop_map}
use Rattle.step_meaning.proofs.Flows.{run_logged}
use Rattle.normal_laws.specs.NormalForm.{int, Held, expression_of, set_to, one, truth_literal, StatementCode, body_code, last_code, ended_body_code, declared_register, normal_body, normal_function, normal_functions, normal_core, result_type}
use Rattle.normal_laws.specs.SourceCode.{IsSourceBody, IsLocal}
use Rattle.normal_laws.specs.Agreement.{SameRuns, OfSourceBody, HasSourceCode, IsSourceCore}
use Rattle.normal_laws.proofs.Registers.{shape_unset, AreAt, at_split}
use Rattle.normal_laws.proofs.Emission.{Ready, and_then, run_join, set_result, operand}
use Rattle.normal_laws.proofs.Forms.{CallsFit, CallFits, VoidGives}
use Rattle.normal_laws.proofs.StatementsAgree.{Same, HasRoom, body_agrees}
use Rattle.normal_laws.proofs.Numbering.{types_of, declared_at}

-- ---- the frame of an activation

blocks_declared : (layouts : List Layout) (ds : List Declared) → map cells_declared (map (empty_block layouts) ds) ≡ map (λ d. object_cells layouts d.ctype) ds
blocks_declared layouts [] = refl
blocks_declared layouts (d ∷ ds) = ap (λ ts. ts ∷ map cells_declared (map (empty_block layouts) ds)) (block_declared (object_cells layouts d.ctype)) ∙ ap (λ more. object_cells layouts d.ctype ∷ more) (blocks_declared layouts ds)
  where
    block_declared : (ts : List CType) → cells_declared (map (λ t. record { declared = t; cell = Rattle.step_meaning.specs.declared.value.Cell.TheVariants.Nothing }) ts) ≡ ts
    block_declared [] = refl
    block_declared (t ∷ ts) = ap (λ us. t ∷ us) (block_declared ts)

arguments_declared : (bs : List Block) (vs : List Value) → map cells_declared (with_arguments bs vs) ≡ map cells_declared bs
arguments_declared bs [] = refl
arguments_declared [] (v ∷ vs) = refl
arguments_declared (b ∷ bs) (v ∷ vs) = ap (λ ts. ts ∷ map cells_declared (with_arguments bs vs)) (filled_declared b (v ∷ [])) ∙ ap (λ more. cells_declared b ∷ more) (arguments_declared bs vs)

-- the shape of a new frame
abbrev own_shape : List Layout → Function → ℕ → Shape
own_shape layouts f a = record { activation = a; cells = map (λ d. object_cells layouts d.ctype) f.locals }

first_shape : (layouts : List Layout) (f : Function) (a : ℕ) (vs : List Value) → shape_of (first_frame layouts f a vs) ≡ own_shape layouts f a
first_shape layouts f a vs = ap (λ cs. record { activation = a; cells = cs }) (arguments_declared (map (empty_block layouts) f.locals) vs ∙ blocks_declared layouts f.locals)

-- the cells of a block with these declared cells
length_declared : (b : Block) → length (cells_declared b) ≡ length b
length_declared [] = refl
length_declared (s ∷ b) = ap suc (length_declared b)

block_length : (bs : List Block) (i : ℕ) → option_map length (slice_get bs i) ≡ option_map length (slice_get (map cells_declared bs) i)
block_length [] zero = refl
block_length [] (suc i) = refl
block_length (b ∷ bs) zero = ap Some (sym (length_declared b))
block_length (b ∷ bs) (suc i) = block_length bs i

declared_length : (layouts : List Layout) (ds : List Declared) (i : ℕ) (t : CType) → option_map (λ d. d.ctype) (slice_get ds i) ≡ Some t → option_map length (slice_get (map (λ d. object_cells layouts d.ctype) ds) i) ≡ Some (cells layouts t)
declared_length layouts [] zero t e = absurd cc
declared_length layouts [] (suc i) t e = absurd cc
declared_length layouts (d ∷ ds) zero t e = ap (option_map (cells layouts)) e
declared_length layouts (d ∷ ds) (suc i) t e = declared_length layouts ds i t e

abbrev head_of : {A : Type 0} → List A → Option A
head_of [] = None
head_of (x ∷ xs) = Some x

-- the cells of a local in the innermost frame
local_room : (fs : List Frame) (own : Shape) (S : List Shape) (i : ℕ) → map shape_of fs ≡ (own ∷ S) → option_map length (option_and_then (λ f. slice_get f.locals i) (frame_of own.activation fs)) ≡ option_map length (slice_get own.cells i)
local_room [] own S i e = absurd cc
local_room (r ∷ rs) own S i e =
    let h : Some (shape_of r) ≡ Some own = ap head_of e in
    let a : r.activation ≡ own.activation = ap (λ o. activation_of o) h in
    let c : map cells_declared r.locals ≡ own.cells = ap (λ o. cells_of o) h in
    ap (λ b. option_map length (option_and_then (λ f. slice_get f.locals i) (cond b (Some r) (frame_of own.activation rs)))) (eq-eqb r.activation own.activation a)
    ∙ block_length r.locals i ∙ ap (λ cs. option_map length (slice_get cs i)) c
  where
    activation_of : Option Shape → ℕ
    activation_of None = 0
    activation_of (Some s) = s.activation

    cells_of : Option Shape → List (List CType)
    cells_of None = []
    cells_of (Some s) = s.cells

has_room : (q : Core) (f : Function) (g a : ℕ) (S : List Shape) → HasRoom (own_shape q.layouts f a ∷ S) (code_setting q f) (record { function = g; activation = a })
has_room q f g a S v l t e w h = by v.kind l e
  where
    by : (k : NameKind) → IsLocal k → variable_type (code_setting q f) (record { kind = k; index = v.index }) ≡ Some t → room w.memory (name_in a (record { kind = k; index = v.index })) ≡ Some (cells q.layouts t)
    by names.Local l e = local_room w.memory.frames (own_shape q.layouts f a) S v.index h ∙ declared_length q.layouts f.locals v.index t e
    by names.Global l e = absurd l
    by names.Heap l e = absurd l
    by names.Register l e = absurd l
    by names.GhostGlobal l e = absurd l
    by names.GhostLocal l e = absurd l

-- ---- what follows a body

abbrev NotStuck : {A : Type 0} → Gives A → Type 0
NotStuck o = IsNotStuck o

-- a source's body begins with no annotation
no_annotations : (q : Core) (f : Function) (ss : List Stmt) → IsSourceBody (code_setting q f) ss → (annotations ss ≡ []) × (after_annotations ss ≡ ss)
no_annotations q f [] h = (refl, refl)
no_annotations q f (st.Ghost g ∷ ss) h = absurd h.0
no_annotations q f (st.Assert v j r ∷ ss) h = absurd h.0
no_annotations q f _ h = (refl, refl)

module _ (g : ℕ) (here : Here) (main : Bool) (t : CType) where
  abbrev closing : Option Value → Direct Value
  closing v = direct.bind (direct.emit here (act.Return g v)) (λ u. direct.bind (cl.close_frame direct) (λ u. direct.pure (value_or_zero v)))

  abbrev ending : Completion → Direct Value
  ending c = direct.bind (cl.given_back direct here main t c) closing

  -- what a function gives back, whatever its registers
  abbrev GivesAlike : Gives (Option Value) → Gives (Option Value) → Type 0
  GivesAlike (Done v w s) p = (r : Registers) × (p ≡ Done v w r)
  GivesAlike (Over e l) p = p ≡ Over e l
  GivesAlike (Stuck e l) p = ⊥

  -- the same call, in which no register was used that holds nothing
  abbrev CallAlike : Gives Value → Gives Value → Type 0
  CallAlike o p = (as_call p ≡ as_call o) × NotStuck p

  closing_alike : (o p : Gives (Option Value)) → GivesAlike o p → CallAlike (onward o closing) (onward p closing)
  closing_alike (Done v w s) p h = rw h.1 (refl, tt)
  closing_alike (Over e l) p h = rw h (refl, tt)
  closing_alike (Stuck e l) p h = absurd h

  given_alike : (c : Completion) (w : World) (s r : Registers) → GivesAlike (cl.given_back direct here main t c w s) (cl.given_back direct here main t c w r)
  given_alike (Returned v) w s r = returned_alike t v
    where
      returned_alike : (t : CType) (v : Option Value) → GivesAlike (cl.returned direct t v w s) (cl.returned direct t v w r)
      returned_alike type.Void None = (r, refl)
      returned_alike type.Void (Some v) = refl
      returned_alike (type.Int k) None = refl
      returned_alike (type.Int k) (Some v) = (r, refl)
      returned_alike (type.Pointer' b u) None = refl
      returned_alike (type.Pointer' b u) (Some v) = (r, refl)
      returned_alike (type.Array' b u n) None = refl
      returned_alike (type.Array' b u n) (Some v) = (r, refl)
      returned_alike (type.Struct n) None = refl
      returned_alike (type.Struct n) (Some v) = (r, refl)
  given_alike Broken w s r = refl
  given_alike Continued w s r = refl
  given_alike Next w s r = fallen_alike main t
    where
      fallen_alike : (b : Bool) (t : CType) → GivesAlike (cl.fallen_off direct here b t w s) (cl.fallen_off direct here b t w r)
      fallen_alike true t = (r, refl)
      fallen_alike false type.Void = (r, refl)
      fallen_alike false (type.Int k) = refl
      fallen_alike false (type.Pointer' b u) = refl
      fallen_alike false (type.Array' b u n) = refl
      fallen_alike false (type.Struct n) = refl

  ending_alike : (c : Completion) (w : World) (s r : Registers) → CallAlike (ending c w s) (ending c w r)
  ending_alike c w s r = closing_alike (cl.given_back direct here main t c w s) (cl.given_back direct here main t c w r) (given_alike c w s r)

  -- what a call gives back fits, where the innermost frame is closed
  closing_fits : (v : Option Value) (w : World) (s : Registers) (own : Shape) (S : List Shape) (before : World) → map shape_of w.memory.frames ≡ (own ∷ S) → map shape_of before.memory.frames ≡ S → VoidGives t (value_or_zero v)
      → CallFits t before (as_call (closing v w s))
  closing_fits v w s own S before h b z = (drop_map shape_of w.memory.frames ∙ ap (drop 1) h ∙ sym b, z)

ending_fits : (g : ℕ) (here : Here) (main : Bool) (t : CType) (c : Completion) (w : World) (s : Registers) (own : Shape) (S : List Shape) (before : World) → map shape_of w.memory.frames ≡ (own ∷ S) → map shape_of before.memory.frames ≡ S
    → CallFits t before (as_call (ending g here main t c w s))
ending_fits g here main type.Void (Returned None) w s own S b h f = closing_fits g here main type.Void None w s own S b h f refl
ending_fits g here main type.Void (Returned (Some v)) w s own S b h f = tt
ending_fits g here main (type.Int k) (Returned None) w s own S b h f = tt
ending_fits g here main (type.Int k) (Returned (Some v)) w s own S b h f = closing_fits g here main (type.Int k) (Some v) w s own S b h f tt
ending_fits g here main (type.Pointer' x u) (Returned None) w s own S b h f = tt
ending_fits g here main (type.Pointer' x u) (Returned (Some v)) w s own S b h f = closing_fits g here main (type.Pointer' x u) (Some v) w s own S b h f tt
ending_fits g here main (type.Array' x u n) (Returned None) w s own S b h f = tt
ending_fits g here main (type.Array' x u n) (Returned (Some v)) w s own S b h f = closing_fits g here main (type.Array' x u n) (Some v) w s own S b h f tt
ending_fits g here main (type.Struct n) (Returned None) w s own S b h f = tt
ending_fits g here main (type.Struct n) (Returned (Some v)) w s own S b h f = closing_fits g here main (type.Struct n) (Some v) w s own S b h f tt
ending_fits g here main t Broken w s own S b h f = tt
ending_fits g here main t Continued w s own S b h f = tt
ending_fits g here true t Next w s own S b h f = closing_fits g here true t (Some (value.Int (pos 0))) w s own S b h f (zero_fits t)
  where
    zero_fits : (t : CType) → VoidGives t (value.Int (pos 0))
    zero_fits type.Void = refl
    zero_fits (type.Int k) = tt
    zero_fits (type.Pointer' x u) = tt
    zero_fits (type.Array' x u n) = tt
    zero_fits (type.Struct n) = tt
ending_fits g here false type.Void Next w s own S b h f = closing_fits g here false type.Void None w s own S b h f refl
ending_fits g here false (type.Int k) Next w s own S b h f = tt
ending_fits g here false (type.Pointer' x u) Next w s own S b h f = tt
ending_fits g here false (type.Array' x u n) Next w s own S b h f = tt
ending_fits g here false (type.Struct n) Next w s own S b h f = tt

module _ (q : Core) (call : ℕ → List Value → DirectCall) (bound : ℕ) (g : ℕ) (here : Here) where
  abbrev on : List Stmt → Direct Completion
  on = sm.exec_all direct q.layouts call here bound

  module _ (D : List CType) (S : List Shape) where
    -- the value 0 in a register is returned
    returned_zero : (t : CType) (m : ℕ) → AreAt D (last_code true t m).types → (w : World) (s r : Registers) → Ready D S w r
        → (r' : Registers) × (on (last_code true t m).code w r ≡ Done (Returned (Some (value.Int (pos 0)))) w r')
    returned_zero t m at w s r rd =
        let N = one (set_to m t (truth_literal 0)) in
        let X = one (st.Return (Some (expression_of (Held m t)))) in
        let h = set_result D S q.layouts call here bound 0 m t (truth_literal 0) w r (Done (value.Int (pos 0)) w s) (omega arith) rd.shaped at.0 (refl, rd.framed) in (
          h.0,
          run_join D S q.layouts call here bound N X w r
              ∙ ap (λ o. and_then o (on X)) h.1
              ∙ ap (λ o. and_then (onward o (λ v w r. Done (Returned (Some v)) w r)) (on [])) (operand D S q.layouts call here bound (Held m t) w h.0 (value.Int (pos 0)) h.2),
        )

    main_alike : (m : ℕ) → AreAt D (last_code true int m).types → (w : World) (s r : Registers) → Ready D S w r
        → CallAlike g here true int (ending g here true int Next w s) (onward (on (last_code true int m).code w r) (ending g here true int))
    main_alike m at w s r rd =
        let h = returned_zero int m at w s r rd in
        rw h.1 (closing_alike g here true int (Done (Some (value.Int (pos 0))) w s) (Done (Some (value.Int (pos 0))) w h.0) (h.0, refl))

    -- a return at the end does what the end of the body does
    last_alike : (main : Bool) (t : CType) → (main ≡ true → t ≡ int) → (m : ℕ) → AreAt D (last_code main t m).types → (w : World) (s r : Registers) → Ready D S w r
        → CallAlike g here main t (ending g here main t Next w s) (onward (on (last_code main t m).code w r) (ending g here main t))
    last_alike true t e m at w s r rd =
        subst (λ t. AreAt D (last_code true t m).types → CallAlike g here true t (ending g here true t Next w s) (onward (on (last_code true t m).code w r) (ending g here true t))) (sym (e refl))
        (λ at. main_alike m at w s r rd) at
    last_alike false type.Void e m at w s r rd = closing_alike g here false type.Void (Done None w s) (Done None w r) (r, refl)
    last_alike false (type.Int k) e m at w s r rd = ending_alike g here false (type.Int k) Next w s r
    last_alike false (type.Pointer' b u) e m at w s r rd = ending_alike g here false (type.Pointer' b u) Next w s r
    last_alike false (type.Array' b u n) e m at w s r rd = ending_alike g here false (type.Array' b u n) Next w s r
    last_alike false (type.Struct n) e m at w s r rd = ending_alike g here false (type.Struct n) Next w s r

  module _ (fit : CallsFit q call) (own : Setting) (D : List CType) (T : List Shape) (main : Bool) (t : CType) (result : main ≡ true → t ≡ int) where
    leave_alike : (m : ℕ) → AreAt D (last_code main t m).types → (o p : Gives Completion) → Same D T q own call fit here bound [] o p
        → CallAlike g here main t (onward o (ending g here main t)) (onward (and_then p (on (last_code main t m).code)) (ending g here main t))
    leave_alike m at (Done Next w s) p h = rw h.1 (last_alike D T main t result m at w s h.0 h.2)
    leave_alike m at (Done Broken w s) p h = rw h.1 (ending_alike g here main t Broken w s h.0)
    leave_alike m at (Done Continued w s) p h = rw h.1 (ending_alike g here main t Continued w s h.0)
    leave_alike m at (Done (Returned v) w s) p h = rw h.1 (ending_alike g here main t (Returned v) w s h.0)
    leave_alike m at (Over e l) p h = rw h (refl, tt)
    leave_alike m at (Stuck e l) p h = absurd h

    leave_fits : (o p : Gives Completion) (inner : Shape) (S : List Shape) (before : World) → T ≡ (inner ∷ S) → map shape_of before.memory.frames ≡ S → Same D T q own call fit here bound [] o p
        → CallFits t before (as_call (onward o (ending g here main t)))
    leave_fits (Done Next w s) p inner S b e f h = ending_fits g here main t Next w s inner S b (h.2.framed ∙ e) f
    leave_fits (Done Broken w s) p inner S b e f h = tt
    leave_fits (Done Continued w s) p inner S b e f h = tt
    leave_fits (Done (Returned v) w s) p inner S b e f h = ending_fits g here main t (Returned v) w s inner S b (h.2.framed ∙ e) f
    leave_fits (Over x l) p inner S b e f h = tt
    leave_fits (Stuck x l) p inner S b e f h = absurd h

-- ---- one activation

module _ (q : Core) (k : ℕ) (call : ℕ → List Value → DirectCall) (fit : CallsFit q call) (g : ℕ) (f : Function) (ss : List Stmt) (source : IsSourceBody (code_setting q f) ss) (result : (g == q.start) ≡ true → f.result ≡ int) (vs : List Value) (w : World) where
  abbrev self : Here
  self = record { function = g; activation = w.made }

  abbrev opened : World
  opened =
      record w {
        memory = with_frame (first_frame q.layouts f w.made vs) w.memory;
        ghosts = with_frame (first_ghosts q.layouts f w.made) w.ghosts;
        made = suc w.made;
      }

  abbrev entered : World
  entered = record opened { log = step_by self (act.Enter g vs) opened.memory ∷ w.log }

  abbrev shapes : List Shape
  shapes = own_shape q.layouts f w.made ∷ map shape_of w.memory.frames

  abbrev main : Bool
  main = g == q.start

  abbrev body : StatementCode
  body = body_code q (code_setting q f) f.result ss 0

  abbrev last : StatementCode
  last = last_code main f.result body.next

  abbrev code : List Stmt
  code = body.code

  abbrev declared : List Declared
  declared = map declared_register (ended_body_code q main f ss).types

  abbrev own_types : List CType
  own_types = types_of (ended_body_code q main f ss).types

  abbrev go : List Stmt → Direct Completion
  go = on q call k g self

  types_there : AreAt own_types body.types × AreAt own_types last.types
  types_there = at_split own_types body.types last.types (declared_at q main f ss)

  body_same : (s : Registers) → Same own_types shapes q (code_setting q f) call fit self k [] (go ss entered s) (go code entered (unset_registers declared))
  body_same s =
      body_agrees own_types shapes q (code_setting q f) call fit self k (has_room q f g w.made (map shape_of w.memory.frames)) f.result ss source 0 types_there.0 entered s (unset_registers declared)
      (record { shaped = shape_unset declared; framed = ap (λ o. o ∷ map shape_of w.memory.frames) (first_shape q.layouts f w.made vs) })

  -- the source's activation
  source_acts : (s : Registers) → cl.activation direct q k call g f ss vs w s ≡ onward (go ss entered s) (ending g self main f.result)
  source_acts s =
      ap (λ n. onward (go n opened s) (λ c w s. onward (go (after_annotations ss) (record w { log = step_by self (act.Enter g vs) w.memory ∷ w.log }) s) (ending g self main f.result))) (no_annotations q f ss source).0
      ∙ ap (λ b. onward (go b entered s) (ending g self main f.result)) (no_annotations q f ss source).1

  -- that of its normal form
  normal_acts : cl.activation direct (normal_core q) k call g (normal_function q g f (Some ss)) (normal_body q g f ss) vs w (unset_registers declared)
      ≡ onward (and_then (go code entered (unset_registers declared)) (go last.code)) (ending g self main f.result)
  normal_acts = ap (λ o. onward o (ending g self main f.result)) (run_join own_types shapes q.layouts call self k code last.code entered (unset_registers declared))

  pub activation_alike : (s : Registers)
      → CallAlike g self main f.result (cl.activation direct q k call g f ss vs w s) (cl.activation direct (normal_core q) k call g (normal_function q g f (Some ss)) (normal_body q g f ss) vs w (unset_registers declared))
  activation_alike s =
      rw (source_acts s) (rw normal_acts
      (leave_alike q call k g self fit (code_setting q f) own_types shapes main f.result result body.next types_there.1 (go ss entered s) (go code entered (unset_registers declared)) (body_same s)))

  pub activation_fits : (s : Registers) → CallFits f.result w (as_call (cl.activation direct q k call g f ss vs w s))
  activation_fits s =
      rw (source_acts s)
      (leave_fits q call k g self fit (code_setting q f) own_types shapes main f.result result (go ss entered s) (go code entered (unset_registers declared)) (own_shape q.layouts f w.made) (map shape_of w.memory.frames) w refl refl (body_same s))

-- ---- calls

normal_get : (q : Core) (i : ℕ) (fs : List Function) (g : ℕ) → slice_get (normal_functions q i fs) g ≡ option_map (λ f. normal_function q (i + g) f f.body) (slice_get fs g)
normal_get q i [] zero = refl
normal_get q i [] (suc g) = refl
normal_get q i (f ∷ fs) zero = ap (λ j. Some (normal_function q j f f.body)) (omega arith)
normal_get q i (f ∷ fs) (suc g) = normal_get q (suc i) fs g ∙ ap (λ j. option_map (λ f. normal_function q j f f.body) (slice_get fs g)) (omega arith)

pub normal_got : (q : Core) (g : ℕ) → slice_get (normal_functions q 0 q.functions) g ≡ option_map (λ f. normal_function q g f f.body) (slice_get q.functions g)
normal_got q g = normal_get q 0 q.functions g ∙ ap (λ j. option_map (λ f. normal_function q j f f.body) (slice_get q.functions g)) (from_zero g)
  where
    from_zero : (g : ℕ) → 0 + g ≡ g
    from_zero g = omega arith

some_is : {A : Type 0} {a b : A} → Some a ≡ Some b → a ≡ b
some_is e = cc

module _ (q : Core) (sources : IsSourceCore q) (k : ℕ) where
  module _ (call : ℕ → List Value → DirectCall) (fit : CallsFit q call) (g : ℕ) (vs : List Value) where
    bodies_alike : (f : Function) (b : Option (List Stmt)) → f.body ≡ b → HasSourceCode q g f → cl.call_of direct (normal_core q) k call g (Some (normal_function q g f b)) vs ≡ cl.call_of direct q k call g (Some f) vs
    bodies_alike f None e h = refl
    bodies_alike f (Some ss) e h =
        fun_ext (λ w. (activation_alike q k call fit g f ss (subst (OfSourceBody q f) e h.body) h.main_result vs w (unset_registers f.registers)).0)
        ∙ ap (λ b. cl.call_body direct q k call g f b vs) (sym e)

    functions_alike : (o : Option Function) → slice_get q.functions g ≡ o → cl.call_of direct (normal_core q) k call g (option_map (λ f. normal_function q g f f.body) o) vs ≡ cl.call_of direct q k call g o vs
    functions_alike None e = refl
    functions_alike (Some f) e = bodies_alike f f.body refl (sources.functions g f e)

    bodies_fit : (w : World) (f : Function) (b : Option (List Stmt)) → f.body ≡ b → HasSourceCode q g f → CallFits f.result w (cl.call_body direct q k call g f b vs w)
    bodies_fit w f None e h = tt
    bodies_fit w f (Some ss) e h = activation_fits q k call fit g f ss (subst (OfSourceBody q f) e h.body) h.main_result vs w (unset_registers f.registers)

    functions_fit : (w : World) (o : Option Function) → slice_get q.functions g ≡ o → CallFits (result_type o) w (cl.call_of direct q k call g o vs w)
    functions_fit w None e = tt
    functions_fit w (Some f) e = bodies_fit w f f.body refl (sources.functions g f e)

  calls_fit : (d : ℕ) → CallsFit q (cl.calls direct q k d)
  calls_fit zero g vs w = tt
  calls_fit (suc d) g vs w = functions_fit (cl.calls direct q k d) (calls_fit d) g vs w (slice_get q.functions g) refl

  pub calls_same : (d : ℕ) → cl.calls direct (normal_core q) k d ≡ cl.calls direct q k d
  calls_same zero = refl
  calls_same (suc d) = fun_ext (λ g. fun_ext (λ vs.
      ap (λ c. cl.call_of direct (normal_core q) k c g (slice_get (normal_functions q 0 q.functions) g) vs) (calls_same d)
      ∙ ap (λ o. cl.call_of direct (normal_core q) k (cl.calls direct q k d) g o vs) (normal_got q g)
      ∙ functions_alike (cl.calls direct q k d) (calls_fit d) g vs (slice_get q.functions g) refl))

  -- ---- no register is used that holds nothing

  module _ (n g : ℕ) (vs : List Value) (w : World) where
    abbrev Acts : Function → List Stmt → (ℕ → List Value → DirectCall) → Type 0
    Acts f body call = IsNotStuck (cl.activation direct (normal_core q) k call g f body vs w (unset_registers f.registers))

    body_sets : (f : Function) (b : Option (List Stmt)) → f.body ≡ b → HasSourceCode q g f → (f' : Function) (body : List Stmt) → normal_function q g f b ≡ f' → f'.body ≡ Some body → Acts f' body (cl.calls direct (normal_core q) k n)
    body_sets f None e h f' body i j = absurd (nothing (sym e ∙ ap (λ f. f.body) i ∙ j))
      where
        nothing : None ≡ Some body → ⊥
        nothing e = absurd cc
    body_sets f (Some ss) e h f' body i j =
        let ok = activation_alike q k (cl.calls direct q k n) (calls_fit n) g f ss (subst (OfSourceBody q f) e h.body) h.main_result vs w [] in
        let here_ok : Acts (normal_function q g f (Some ss)) (normal_body q g f ss) (cl.calls direct (normal_core q) k n) = subst (Acts (normal_function q g f (Some ss)) (normal_body q g f ss)) (sym (calls_same n)) ok.1 in
        subst (λ f'. f'.body ≡ Some body → Acts f' body (cl.calls direct (normal_core q) k n)) i
        (λ j. subst (λ b. Acts (normal_function q g f (Some ss)) b (cl.calls direct (normal_core q) k n)) (some_is j) here_ok) j

    function_sets : (o : Option Function) → slice_get q.functions g ≡ o → (f' : Function) (body : List Stmt) → option_map (λ f. normal_function q g f f.body) o ≡ Some f' → f'.body ≡ Some body → Acts f' body (cl.calls direct (normal_core q) k n)
    function_sets None e f' body i j = absurd cc
    function_sets (Some f) e f' body i j = body_sets f f.body refl (sources.functions g f e) f' body (some_is i) j

pub sets_registers : (q : Core) → IsSourceCore q → ActivationsSetRegisters (normal_core q)
sets_registers q h k n g f body vs w i j = function_sets q h k n g vs w (slice_get q.functions g) refl f body (sym (normal_got q g) ∙ i) j

pub same_runs : (q : Core) → IsSourceCore q → SameRuns (normal_core q) q
same_runs q h input k =
    run_logged (normal_core q) input k
    ∙ ap (λ c. trace_of (logged_by (c q.start [] (start_world (start_state q input))))) (calls_same q h k k)
    ∙ sym (run_logged q input k)

-- ---- what is shown

same_name : (q : Core) (g : ℕ) → function_name (normal_core q) g ≡ function_name q g
same_name q g = ap name_if_any (normal_got q g) ∙ by (slice_get q.functions g)
  where
    kept : (f : Function) (b : Option (List Stmt)) → (normal_function q g f b).name ≡ f.name
    kept f None = refl
    kept f (Some ss) = refl

    by : (o : Option Function) → name_if_any (option_map (λ f. normal_function q g f f.body) o) ≡ name_if_any o
    by None = refl
    by (Some f) = kept f f.body

same_action : (q : Core) (a : Action) → shown_action (normal_core q) a ≡ shown_action q a
same_action q (act.Enter g vs) = ap (λ n. Enter n vs) (same_name q g)
same_action q (act.Call g) = ap (λ n. Call n) (same_name q g)
same_action q (act.Return g v) = ap (λ n. Return n v) (same_name q g)
same_action q (act.Read p) = refl
same_action q (act.Write p v) = refl
same_action q act.Input = refl
same_action q (act.Output b) = refl
same_action q (act.Malloc n p k) = refl
same_action q (act.Free p) = refl
same_action q act.Turn = refl
same_action q (act.Halt f) = refl

same_item : (q : Core) (i : Item) → shown_item (normal_core q) i ≡ shown_item q i
same_item q (Made s) = ap (λ a. ShownMade (record { action = a; function = function_name (normal_core q) s.function; activation = s.activation; memory = s.memory })) (same_action q s.action)
    ∙ ap (λ n. ShownMade (record { action = shown_action q s.action; function = n; activation = s.activation; memory = s.memory })) (same_name q s.function)
same_item q (Judged v) = refl

pub normal_agrees : (q : Core) → IsSourceCore q → Agrees (normal_core q) q
normal_agrees q h =
    record {
      same_end = λ input k. ap end (same_runs q h input k);
      same_items = λ input k. ap (λ t. map (shown_item (normal_core q)) (items t)) (same_runs q h input k) ∙ ap (λ f. map f (items (run q input k))) (fun_ext (same_item q));
    }
