-- Calls keep types: a call of a function with a body, with arguments of its types, gives a value of its type and leaves the frames as they were.
use Rattle.std.proofs.Common.{◌≡◌, ℕ, zero, suc, ◌<◌, ◌^◌, Bool, true, false, List, [], ◌∷◌, length, map, take, drop, Option, Some, None, refl, sym, ap, subst, ◌∙◌, arith}
use Rattle.std.specs.Prelude.{◌==◌, pos, slice_get, option_map}
use Rattle.std.specs.List.{list_all}
use Rattle.step_meaning.specs.declared.value.CType.{CType}
use Rattle.step_meaning.specs.declared.value.CType.TheVariants as type
use Rattle.step_meaning.specs.declared.value.Value.{Value}
use Rattle.step_meaning.specs.declared.value.Value.TheVariants as value
use Rattle.step_meaning.specs.declared.value.Cell.TheVariants.{Nothing, Holds}
use Rattle.step_meaning.specs.declared.value.Action.TheVariants as act
use Rattle.step_meaning.specs.declared.value.RunFault.TheVariants as fault
use Rattle.step_meaning.specs.declared.stmt.Stmt.{Stmt}
use Rattle.step_meaning.specs.declared.stmt.Stmt.TheVariants as st
use Rattle.step_meaning.specs.declared.program.Declared.{Declared}
use Rattle.step_meaning.specs.declared.program.Layout.{Layout}
use Rattle.step_meaning.specs.declared.program.Function.{Function}
use Rattle.step_meaning.specs.declared.program.Core.{Core}
use Rattle.step_meaning.specs.Types.{object_cells}
use Rattle.step_meaning.specs.Memory.{Memory, Frame, Slot, empty_block, filled}
use Rattle.step_meaning.specs.State.{Here, Registers, unset_registers}
use Rattle.step_meaning.specs.Ghosts.{ghosts_after, assertion_holds}
use Rattle.step_meaning.specs.Flow.{step_by, verdict_of, direct, Direct, DirectCall, World, Gives, Done, Over, Stuck, onward, as_call}
use Rattle.step_meaning.specs.Statements as sm
use Rattle.step_meaning.specs.Statements.{Completion, Next, Broken, Continued, Returned}
use Rattle.step_meaning.specs.Calls as ca
use Rattle.step_meaning.specs.Calls.{annotations, after_annotations, with_arguments, first_frame, with_frame, value_or_zero}
use Rattle.step_meaning.specs.Settings.{setting_of}
use Rattle.step_meaning.specs.TypeRules.{is_scalar, is_scalar_type, keeps_rules}
use Rattle.step_meaning.specs.ExpressionTypes.{parameter_types, called}
use Rattle.step_meaning.specs.StatementRules.{BodyFits}
use Rattle.step_meaning.specs.WellFormed.{IsWellFormedFunction}
use Rattle.step_meaning.specs.Traced.{SlotTyped}
use Rattle.step_meaning.proofs.Ranges.{false_is_not_true, left_of_and, right_of_and}
use Rattle.step_meaning.proofs.TypedMemory.{Each, WhereSome, is_empty, is_empty_map, drop_map, InCell, BlockFits, FrameFits, Shape, shape_of, MemoryFits}
use Rattle.step_meaning.proofs.StepsFit.{InCells, ReturnFits, HoldArguments, EnterFits, global_cells}
use Rattle.step_meaning.proofs.TypedOperators.{OfType}
use Rattle.step_meaning.proofs.TypedStatements.{CompletionFits, keeps_exec_all}
use Rattle.step_meaning.proofs.Kept.{RegistersFit, Fits, CallGivesFit, CallKeeps, GivesFit, Keeps, step_fits, keeps_pure, keeps_halt, keeps_emit}

-- ---- a part of a run that closes the innermost frame

pub record Closes (q : Core) (inner frames : List Shape) (registers : List CType) {A : Type 0} (P : A → Type 0) (d : Direct A) : Type 0 where
  pub by : (w : World) (r : Registers) → Fits q inner w → RegistersFit registers r → GivesFit q frames registers P (d w r)

closes_bind : {q : Core} {inner frames : List Shape} {registers : List CType} {A B : Type 0} {P : A → Type 0} {Q : B → Type 0} {d : Direct A} {f : A → Direct B} → Keeps q inner registers P d → ((a : A) → P a → Closes q inner frames registers Q (f a)) → Closes q inner frames registers Q (direct.bind d f)
closes_bind {q = q} {inner = inner} {frames = frames} {registers = registers} {A = A} {P = P} {Q = Q} {d = d} {f = f} h k = record { by = λ w r m l. on (d w r) (h.by w r m l) }
  where
    on : (o : Gives A) → GivesFit q inner registers P o → GivesFit q frames registers Q (onward o f)
    on (Done a w r) g = (k a g.0).by w r g.1 g.2
    on (Over e l) g = g
    on (Stuck e l) g = g

tail_fits : (globals : List (List CType)) (s : Shape) (frames : List Shape) (memory : Memory) → MemoryFits globals (s ∷ frames) memory → MemoryFits globals frames (record memory { frames = drop 1 memory.frames })
tail_fits globals s frames memory h = record { globals_declared = h.globals_declared; frames_declared = drop_map shape_of memory.frames ∙ ap (λ ss. drop 1 ss) h.frames_declared; globals_fit = h.globals_fit; locals_fit = rest memory.frames h.locals_fit; heap_fit = h.heap_fit }
  where
    rest : (fs : List Frame) → Each FrameFits fs → Each FrameFits (drop 1 fs)
    rest [] h = tt
    rest (f ∷ fs) h = h.1

closes_frame : (q : Core) (s : Shape) (frames : List Shape) (registers : List CType) (P : Value → Type 0) (v : Value) → P v → Closes q (s ∷ frames) frames registers P (direct.bind (ca.close_frame direct) (λ u. direct.pure v))
closes_frame q s frames registers P v h = record { by = λ w r m k. (h, (tail_fits (global_cells q) s frames w.memory m.0, m.1, m.2), k) }

-- ---- the variables of an activation

-- the cells of each type that a variable may have are numbered with 32 bits
abbrev pub SizesFit : List Layout → Type 0
SizesFit layouts = (t : CType) → keeps_rules layouts t ≡ true → length (object_cells layouts t) < 2 ^ 32

pub empty_fits : (layouts : List Layout) → SizesFit layouts → (d : Declared) → keeps_rules layouts d.ctype ≡ true → BlockFits (empty_block layouts d)
empty_fits layouts sizes d h = (slots (object_cells layouts d.ctype), rw (lengths (object_cells layouts d.ctype)) (sizes d.ctype h))
  where
    slots : (ts : List CType) → Each SlotTyped (map (λ t. record { declared = t; cell = Nothing }) ts)
    slots [] = tt
    slots (t ∷ ts) = (tt, slots ts)

    lengths : (ts : List CType) → length (map {B = Slot} (λ t. record { declared = t; cell = Nothing }) ts) ≡ length ts
    lengths [] = refl
    lengths (t ∷ ts) = ap suc (lengths ts)

all_empty_fit : (layouts : List Layout) → SizesFit layouts → (ds : List Declared) → list_all (λ d. keeps_rules layouts d.ctype) ds ≡ true → Each BlockFits (map (empty_block layouts) ds)
all_empty_fit layouts sizes [] h = tt
all_empty_fit layouts sizes (d ∷ ds) h = (empty_fits layouts sizes d (left_of_and _ _ h), all_empty_fit layouts sizes ds (right_of_and _ _ h))

-- a scalar variable with a value
argument_fits : (layouts : List Layout) (d : Declared) (v : Value) → is_scalar d.ctype ≡ true → InCell d.ctype v → BlockFits (filled (empty_block layouts d) (v ∷ []))
argument_fits layouts d v e h = by d.ctype e h
  where
    by : (t : CType) → is_scalar t ≡ true → InCell t v → BlockFits (filled (map (λ t. record { declared = t; cell = Nothing }) (object_cells layouts t)) (v ∷ []))
    by (type.Int k) e h = ((h, tt), omega arith)
    by (type.Pointer' b t) e h = ((h, tt), omega arith)
    by type.Void e h = false_is_not_true e
    by (type.Array' b t n) e h = false_is_not_true e
    by (type.Struct n) e h = false_is_not_true e

arguments_fit : (layouts : List Layout) → SizesFit layouts → (ds : List Declared) (params : ℕ) (vs : List Value) → list_all (λ d. keeps_rules layouts d.ctype) ds ≡ true → list_all (is_scalar_type layouts) (map (λ d. d.ctype) (take params ds)) ≡ true → InCells (map (λ d. d.ctype) (take params ds)) vs → Each BlockFits (with_arguments (map (empty_block layouts) ds) vs)
arguments_fit layouts sizes ds params [] h k l = all_empty_fit layouts sizes ds h
arguments_fit layouts sizes [] params (v ∷ vs) h k l = tt
arguments_fit layouts sizes (d ∷ ds) zero (v ∷ vs) h k l = absurd l
arguments_fit layouts sizes (d ∷ ds) (suc params) (v ∷ vs) h k l = (argument_fits layouts d v (left_of_and _ _ (left_of_and _ _ k)) l.0, arguments_fit layouts sizes ds params vs (right_of_and _ _ h) (right_of_and _ _ k) l.1)

-- the parameters hold the arguments
argument_holds : (layouts : List Layout) (d : Declared) (v : Value) → is_scalar d.ctype ≡ true → map (λ s. s.cell) (filled (empty_block layouts d) (v ∷ [])) ≡ (Holds v ∷ [])
argument_holds layouts d v e = by d.ctype e
  where
    by : (t : CType) → is_scalar t ≡ true → map (λ s. s.cell) (filled (map (λ t. record { declared = t; cell = Nothing }) (object_cells layouts t)) (v ∷ [])) ≡ (Holds v ∷ [])
    by (type.Int k) e = refl
    by (type.Pointer' b t) e = refl
    by type.Void e = false_is_not_true e
    by (type.Array' b t n) e = false_is_not_true e
    by (type.Struct n) e = false_is_not_true e

arguments_hold : (layouts : List Layout) (ds : List Declared) (params : ℕ) (vs : List Value) → list_all (is_scalar_type layouts) (map (λ d. d.ctype) (take params ds)) ≡ true → InCells (map (λ d. d.ctype) (take params ds)) vs → HoldArguments (with_arguments (map (empty_block layouts) ds) vs) vs
arguments_hold layouts ds params [] k l = tt
arguments_hold layouts [] zero (v ∷ vs) k l = absurd l
arguments_hold layouts [] (suc params) (v ∷ vs) k l = absurd l
arguments_hold layouts (d ∷ ds) zero (v ∷ vs) k l = absurd l
arguments_hold layouts (d ∷ ds) (suc params) (v ∷ vs) k l = (argument_holds layouts d v (left_of_and _ _ (left_of_and _ _ k)), arguments_hold layouts ds params vs (right_of_and _ _ k) l.1)

-- ---- registers

unset_fit : (ds : List Declared) → RegistersFit (map (λ d. d.ctype) ds) (unset_registers ds)
unset_fit ds = record { declared = types ds; fit = slots ds }
  where
    types : (ds : List Declared) → map (λ s. s.declared) (unset_registers ds) ≡ map (λ d. d.ctype) ds
    types [] = refl
    types (d ∷ ds) = ap (λ ts. d.ctype ∷ ts) (types ds)

    slots : (ds : List Declared) → Each SlotTyped (unset_registers ds)
    slots [] = tt
    slots (d ∷ ds) = (tt, slots ds)

scalar_registers : (layouts : List Layout) (ds : List Declared) → list_all (λ d. is_scalar_type layouts d.ctype) ds ≡ true → (i : ℕ) → WhereSome (λ t. is_scalar t ≡ true) (option_map (λ d. d.ctype) (slice_get ds i))
scalar_registers layouts [] h i = tt
scalar_registers layouts (d ∷ ds) h zero = left_of_and _ _ (left_of_and _ _ h)
scalar_registers layouts (d ∷ ds) h (suc i) = scalar_registers layouts ds (right_of_and _ _ h) i

-- ---- what is given back

value_fits : (t : CType) (v : Option Value) → ReturnFits t v → OfType t (value_or_zero v)
value_fits type.Void v h = tt
value_fits (type.Int k) None h = absurd h
value_fits (type.Int k) (Some v) h = h
value_fits (type.Pointer' b t) None h = absurd h
value_fits (type.Pointer' b t) (Some v) h = h
value_fits (type.Array' b t n) None h = absurd h
value_fits (type.Array' b t n) (Some v) h = h
value_fits (type.Struct n) None h = absurd h
value_fits (type.Struct n) (Some v) h = h

module _ {q : Core} {frames : List Shape} {registers : List CType} (here : Here) where
  keeps_returned : (t : CType) (v : Option Value) → ReturnFits t v → Keeps q frames registers (ReturnFits t) (ca.returned direct t v)
  keeps_returned type.Void None h = keeps_pure None tt
  keeps_returned type.Void (Some v) h = absurd h
  keeps_returned (type.Int k) None h = absurd h
  keeps_returned (type.Int k) (Some v) h = keeps_pure (Some v) h
  keeps_returned (type.Pointer' b t) None h = absurd h
  keeps_returned (type.Pointer' b t) (Some v) h = keeps_pure (Some v) h
  keeps_returned (type.Array' b t n) None h = absurd h
  keeps_returned (type.Array' b t n) (Some v) h = keeps_pure (Some v) h
  keeps_returned (type.Struct n) None h = absurd h
  keeps_returned (type.Struct n) (Some v) h = keeps_pure (Some v) h

  keeps_fallen_off : (b : Bool) (t : CType) → (b ≡ true → ReturnFits t (Some (value.Int (pos 0)))) → Keeps q frames registers (ReturnFits t) (ca.fallen_off direct here b t)
  keeps_fallen_off true t h = keeps_pure (Some (value.Int (pos 0))) (h refl)
  keeps_fallen_off false type.Void h = keeps_pure None tt
  keeps_fallen_off false (type.Int k) h = keeps_halt here fault.NoReturn
  keeps_fallen_off false (type.Pointer' b t) h = keeps_halt here fault.NoReturn
  keeps_fallen_off false (type.Array' b t n) h = keeps_halt here fault.NoReturn
  keeps_fallen_off false (type.Struct n) h = keeps_halt here fault.NoReturn

  keeps_given_back : (b : Bool) (t : CType) (c : Completion) → (b ≡ true → ReturnFits t (Some (value.Int (pos 0)))) → CompletionFits t false c → Keeps q frames registers (ReturnFits t) (ca.given_back direct here b t c)
  keeps_given_back b t (Returned v) h k = keeps_returned t v k
  keeps_given_back b t Next h k = keeps_fallen_off b t h
  keeps_given_back b t Broken h k = false_is_not_true k
  keeps_given_back b t Continued h k = false_is_not_true k

-- ---- activations

module _ (q : Core) (frames outer : List Shape) (registers : List CType) (here : Here) (call : ℕ → List Value → DirectCall) (bound : ℕ) (memory : Memory) (P : Value → Type 0) (f : Completion → Direct Value) (h : (w : World) (r : Registers) → w.memory ≡ memory → Fits q frames w → RegistersFit registers r → GivesFit q outer registers P (f Next w r)) where
  -- the annotations that begin a body make no step and change no variable of the program
  after_leading : (ss : List Stmt) (w : World) (r : Registers) → w.memory ≡ memory → Fits q frames w → RegistersFit registers r → GivesFit q outer registers P (onward (sm.exec_all direct q.layouts call here bound (annotations ss) w r) f)
  after_leading (st.Ghost g ∷ ss) w r e m l = after_leading ss (record w { ghosts = ghosts_after q.layouts here w.memory r g w.ghosts }) r e m l
  after_leading (st.Assert v k p ∷ ss) w r e m l = after_leading ss (record w { log = verdict_of k v (assertion_holds q.layouts here w.memory r w.ghosts p) ∷ w.log }) r e (m.0, (tt, m.1), m.2) l
  after_leading _ w r e m l = h w r e m l

module _ (q : Core) (bound : ℕ) (sizes : SizesFit q.layouts) where
  short_locals : (ds : List Declared) → list_all (λ d. keeps_rules q.layouts d.ctype) ds ≡ true → (i : ℕ) → WhereSome (λ t. length (object_cells q.layouts t) < 2 ^ 32) (option_map (λ d. d.ctype) (slice_get ds i))
  short_locals [] h i = tt
  short_locals (d ∷ ds) h zero = sizes d.ctype (left_of_and _ _ h)
  short_locals (d ∷ ds) h (suc i) = short_locals ds (right_of_and _ _ h) i

  -- calls by this in an activation keep types
  abbrev pub AllCallsKeep : (ℕ → List Value → DirectCall) → Type 0
  AllCallsKeep call = (s : Shape) (frames : List Shape) (g : ℕ) → WhereSome (λ fn. (vs : List Value) → InCells (parameter_types fn) vs → CallKeeps q (s ∷ frames) (OfType fn.result) (call g vs)) (called q g)

  pub keeps_activation : (call : ℕ → List Value → DirectCall) → AllCallsKeep call → (frames : List Shape) (g : ℕ) (fn : Function) → slice_get q.functions g ≡ Some fn → (g == q.start) ≡ is_empty frames → (body : List Stmt) (vs : List Value) → IsWellFormedFunction q fn → BodyFits q fn body → ((g == q.start) ≡ true → ReturnFits fn.result (Some (value.Int (pos 0)))) → InCells (parameter_types fn) vs → CallKeeps q frames (OfType fn.result) (direct.alone (unset_registers fn.registers) (ca.activation direct q bound call g fn body vs))
  keeps_activation call calls frames g fn found alone body vs h fits main arguments = record { by = opened }
    where
      registers : List CType
      registers = map (λ d. d.ctype) fn.registers

      on_call : (o : Gives Value) → GivesFit q frames registers (OfType fn.result) o → CallGivesFit q frames (OfType fn.result) (as_call o)
      on_call (Done v w r) k = (k.0, k.1)
      on_call (Over e l) k = k
      on_call (Stuck e l) k = k

      rest : Here → Direct Value
      rest here =
          direct.bind (sm.exec_all direct q.layouts call here bound (after_annotations body)) (λ c.
          direct.bind (ca.given_back direct here (g == q.start) fn.result c) (λ v.
          direct.bind (direct.emit here (act.Return g v)) (λ u.
          direct.bind (ca.close_frame direct) (λ u.
          direct.pure (value_or_zero v)))))

      closed : (here : Here) (s : Shape) → Closes q (s ∷ frames) frames registers (OfType fn.result) (rest here)
      closed here s =
          closes_bind (keeps_exec_all q fn (s ∷ frames) here call bound (scalar_registers q.layouts fn.registers h.registers) (short_locals fn.locals h.locals) (calls s frames) (setting_of q fn) (after_annotations body) fits.1) (λ c k.
          closes_bind (keeps_given_back here (g == q.start) fn.result c main k) (λ v k.
          closes_bind (keeps_emit here (act.Return g v) (λ fs. record { function = fn; found = found; result = k })) (λ u l.
          closes_frame q s frames registers (OfType fn.result) (value_or_zero v) (value_fits fn.result v k))))

      opened : (w : World) → Fits q frames w → CallGivesFit q frames (OfType fn.result) (direct.alone (unset_registers fn.registers) (ca.activation direct q bound call g fn body vs) w)
      opened w m = on_call (ca.activation direct q bound call g fn body vs w (unset_registers fn.registers)) (after_leading q (own ∷ frames) frames registers here call bound begun (OfType fn.result) (λ c. direct.bind (direct.emit here (act.Enter g vs)) (λ u. rest here)) entered body _ (unset_registers fn.registers) refl (begun_fits, m.1, m.2) (unset_fit fn.registers))
        where
          here : Here
          here = record { function = g; activation = w.made }

          own : Shape
          own = shape_of (first_frame q.layouts fn w.made vs)

          begun : Memory
          begun = with_frame (first_frame q.layouts fn w.made vs) w.memory

          begun_fits : MemoryFits (global_cells q) (own ∷ frames) begun
          begun_fits = record { globals_declared = m.0.globals_declared; frames_declared = ap (λ ss. own ∷ ss) m.0.frames_declared; globals_fit = m.0.globals_fit; locals_fit = (arguments_fit q.layouts sizes fn.locals fn.params vs h.locals h.parameters arguments, m.0.locals_fit); heap_fit = m.0.heap_fit }

          begun_alone : (g == q.start) ≡ is_empty w.memory.frames
          begun_alone = alone ∙ (sym (ap is_empty m.0.frames_declared) ∙ is_empty_map shape_of w.memory.frames)

          enters : EnterFits q begun.frames g vs
          enters = record { function = fn; found = found; arguments = arguments; hold = arguments_hold q.layouts fn.locals fn.params vs h.parameters arguments; main_alone = begun_alone }

          entered : (v : World) (r : Registers) → v.memory ≡ begun → Fits q (own ∷ frames) v → RegistersFit registers r → GivesFit q frames registers (OfType fn.result) (direct.bind (direct.emit here (act.Enter g vs)) (λ u. rest here) v r)
          entered v r e k l = (closed here own).by (record v { log = step_by here (act.Enter g vs) v.memory ∷ v.log }) r (k.0, (step_fits q (own ∷ frames) here (act.Enter g vs) v k (subst (λ x. EnterFits q x.frames g vs) (sym e) enters), k.1), k.2) l
