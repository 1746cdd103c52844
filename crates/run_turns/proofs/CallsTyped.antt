-- Calls keep a machine's state typed: arguments, the start and the end of an activation; and so does each turn.
use Rattle.std.proofs.Common.{◌≡◌, ℕ, zero, suc, ◌<◌, ◌^◌, Bool, true, false, cond, ◌&&◌, not, List, [], ◌∷◌, length, map, take, drop, Option, Some, None, refl, sym, ap, ◌∙◌, subst, arith, eqb-true, ◌%◌, mod-lt}
use Rattle.std.specs.Prelude.{◌==◌, pos, negsuc, slice_get, is_some, option_map, IsTrue}
use Rattle.std.specs.List.{list_all, AllByRecursion}
use Rattle.step_meaning.specs.declared.value.IntKind.TheVariants as kind
use Rattle.step_meaning.specs.declared.value.CType.{CType, end_of-CType, more_of-CType}
use Rattle.step_meaning.specs.declared.value.CType.TheVariants as type
use Rattle.step_meaning.specs.declared.value.Value.{Value}
use Rattle.step_meaning.specs.declared.value.Value.TheVariants as value
use Rattle.step_meaning.specs.declared.value.Cell.TheVariants.{Nothing}
use Rattle.step_meaning.specs.declared.expr.Expr.{Expr}
use Rattle.step_meaning.specs.declared.stmt.Stmt.{Stmt}
use Rattle.step_meaning.specs.declared.program.Declared.{Declared}
use Rattle.step_meaning.specs.declared.program.Layout.{Layout}
use Rattle.step_meaning.specs.declared.program.Core.{Core}
use Rattle.step_meaning.specs.declared.program.Function.{Function}
use Rattle.step_meaning.specs.Numbers.{low_bits}
use Rattle.step_meaning.specs.Names.{integer}
use Rattle.step_meaning.specs.Types.{same_type, object_cells}
use Rattle.step_meaning.specs.Library.{int}
use Rattle.step_meaning.specs.Memory.{Memory, Frame, empty_block, filled}
use Rattle.step_meaning.specs.State.{unset_registers}
use Rattle.step_meaning.specs.Statements.{Completion, Next, Broken, Continued, Returned}
use Rattle.step_meaning.specs.Calls.{annotations, after_annotations, with_arguments, first_frame, with_frame, without_frame, value_or_zero}
use Rattle.step_meaning.specs.Settings.{setting_of}
use Rattle.step_meaning.specs.TypeRules.{is_scalar, is_scalar_type, keeps_rules}
use Rattle.step_meaning.specs.ExpressionTypes.{parameter_types, called, has_body}
use Rattle.step_meaning.specs.StatementRules.{StatementFits, BodyFits}
use Rattle.step_meaning.specs.WellFormed.{IsWellFormed, IsWellFormedFunction, OfBody, is_main}
use Rattle.step_meaning.specs.Sources.{is_bare}
use Rattle.step_meaning.specs.Traced.{SlotTyped}
use Rattle.step_meaning.proofs.Ranges.{natural_in_range, low_bits_below, false_is_not_true, left_of_and, right_of_and}
use Rattle.step_meaning.proofs.TypedMemory.{Each, WhereSome, drop_map, InCell, BlockFits, FrameFits, Shape, shape_of, MemoryFits, has_same_type, same_type_turned}
use Rattle.step_meaning.proofs.StepsFit.{InCells, ReturnFits, global_cells}
use Rattle.step_meaning.proofs.Kept.{RegistersFit}
use Rattle.step_meaning.proofs.TypedOperators.{OfType, not_true}
use Rattle.step_meaning.proofs.TypedCalls.{SizesFit, empty_fits}
use Rattle.step_meaning.proofs.TypedSizes.{sizes_fit}
use Rattle.step_meaning.proofs.FormedFunctions.{formed_function}
use Rattle.run_turns.specs.Pending as pending
use Rattle.run_turns.specs.Turns as turns
use Rattle.run_turns.specs.Turns.{Configuration, ready, telling, turn_at}
use Rattle.run_turns.specs.Typed.{IsCode, CallTakes, EnterTakes, LeaveTakes, TakesValue, TakesEnd, Takes, CallersFit, AllRegistersFit, StateFits, IsTyped}
use Rattle.run_turns.proofs.ExpressionsTyped.{evaluated_typed, located_typed}
use Rattle.run_turns.proofs.ValuesTyped.{Here, Fits, operated_typed, accessed_typed, selected_typed, designating_typed}
use Rattle.run_turns.proofs.StatementsTyped.{ShortLocals, executed_typed, concluded_typed, passed_typed}

-- ---- the variables of an activation

all_empty_fit : (layouts : List Layout) → SizesFit layouts → (ds : List Declared) → list_all (λ d. keeps_rules layouts d.ctype) ds ≡ true → Each BlockFits (map (empty_block layouts) ds)
all_empty_fit layouts sizes [] h = tt
all_empty_fit layouts sizes (d ∷ ds) h = (empty_fits layouts sizes d (left_of_and _ _ h), all_empty_fit layouts sizes ds (right_of_and _ _ h))

-- a scalar variable with a value
argument_fits : (layouts : List Layout) (d : Declared) (v : Value) → is_scalar d.ctype ≡ true → InCell d.ctype v → BlockFits (filled (empty_block layouts d) (v ∷ []))
argument_fits layouts d v e h = by d.ctype e h
  where
    by : (t : CType) → is_scalar t ≡ true → InCell t v → BlockFits (filled (map (λ t. record { declared = t; cell = Nothing }) (object_cells layouts t)) (v ∷ []))
    by (type.Int k) e h = ((h, tt), omega arith)
    by (type.Pointer' b t) e h = ((h, tt), omega arith)
    by type.Void e h = false_is_not_true e
    by (type.Array' b t n) e h = false_is_not_true e
    by (type.Struct n) e h = false_is_not_true e

arguments_fit : (layouts : List Layout) → SizesFit layouts → (ds : List Declared) (params : ℕ) (vs : List Value) → list_all (λ d. keeps_rules layouts d.ctype) ds ≡ true → list_all (is_scalar_type layouts) (map (λ d. d.ctype) (take params ds)) ≡ true → InCells (map (λ d. d.ctype) (take params ds)) vs → Each BlockFits (with_arguments (map (empty_block layouts) ds) vs)
arguments_fit layouts sizes ds params [] h k l = all_empty_fit layouts sizes ds h
arguments_fit layouts sizes [] params (v ∷ vs) h k l = tt
arguments_fit layouts sizes (d ∷ ds) zero (v ∷ vs) h k l = absurd l
arguments_fit layouts sizes (d ∷ ds) (suc params) (v ∷ vs) h k l = (argument_fits layouts d v (left_of_and _ _ (left_of_and _ _ k)) l.0, arguments_fit layouts sizes ds params vs (right_of_and _ _ h) (right_of_and _ _ k) l.1)

unset_fit : (ds : List Declared) → RegistersFit (map (λ d. d.ctype) ds) (unset_registers ds)
unset_fit ds = record { declared = types ds; fit = slots ds }
  where
    types : (ds : List Declared) → map (λ s. s.declared) (unset_registers ds) ≡ map (λ d. d.ctype) ds
    types [] = refl
    types (d ∷ ds) = ap (λ ts. d.ctype ∷ ts) (types ds)

    slots : (ds : List Declared) → Each SlotTyped (unset_registers ds)
    slots [] = tt
    slots (d ∷ ds) = (tt, slots ds)

scalar_registers : (layouts : List Layout) (ds : List Declared) → list_all (λ d. is_scalar_type layouts d.ctype) ds ≡ true → (i : ℕ) → WhereSome (λ t. is_scalar t ≡ true) (option_map (λ d. d.ctype) (slice_get ds i))
scalar_registers layouts [] h i = tt
scalar_registers layouts (d ∷ ds) h zero = left_of_and _ _ (left_of_and _ _ h)
scalar_registers layouts (d ∷ ds) h (suc i) = scalar_registers layouts ds (right_of_and _ _ h) i

short_locals : (layouts : List Layout) → SizesFit layouts → (ds : List Declared) → list_all (λ d. keeps_rules layouts d.ctype) ds ≡ true → (i : ℕ) → WhereSome (λ t. length (object_cells layouts t) < 2 ^ 32) (option_map (λ d. d.ctype) (slice_get ds i))
short_locals layouts sizes [] h i = tt
short_locals layouts sizes (d ∷ ds) h zero = sizes d.ctype (left_of_and _ _ h)
short_locals layouts sizes (d ∷ ds) h (suc i) = short_locals layouts sizes ds (right_of_and _ _ h) i

-- the memory without the innermost activation
tail_fits : (globals : List (List CType)) (shapes : List Shape) (memory : Memory) → MemoryFits globals shapes memory → MemoryFits globals (drop 1 shapes) (without_frame memory)
tail_fits globals shapes memory h = record { globals_declared = h.globals_declared; frames_declared = drop_map shape_of memory.frames ∙ ap (λ ss. drop 1 ss) h.frames_declared; globals_fit = h.globals_fit; locals_fit = rest memory.frames h.locals_fit; heap_fit = h.heap_fit }
  where
    rest : (fs : List Frame) → Each FrameFits fs → Each FrameFits (drop 1 fs)
    rest [] h = tt
    rest (f ∷ fs) h = h.1

-- ---- what is given back

value_fits : (t : CType) (v : Option Value) → ReturnFits t v → OfType t (value_or_zero v)
value_fits type.Void v h = tt
value_fits (type.Int k) None h = absurd h
value_fits (type.Int k) (Some v) h = h
value_fits (type.Pointer' b t) None h = absurd h
value_fits (type.Pointer' b t) (Some v) h = h
value_fits (type.Array' b t n) None h = absurd h
value_fits (type.Array' b t n) (Some v) h = h
value_fits (type.Struct n) None h = absurd h
value_fits (type.Struct n) (Some v) h = h

int_returned : (t : CType) → same_type t int ≡ true → ReturnFits t (Some (value.Int (pos 0)))
int_returned (type.Int k) e = (has_same_type int (type.Int k) (value.Int (pos 0)) (same_type_turned (type.Int k) int e) refl, tt)
int_returned type.Void e = false_is_not_true e
int_returned (type.Pointer' b (more_of-CType t end_of-CType)) e = false_is_not_true e
int_returned (type.Array' b (more_of-CType t end_of-CType) n) e = false_is_not_true e
int_returned (type.Struct n) e = false_is_not_true e

-- ---- callees

called_tells : (q : Core) (g : ℕ) (callee : Function) → called q g ≡ Some callee → (slice_get q.functions g ≡ Some callee) × (has_body callee ≡ true) × ((g == q.start) ≡ false)
called_tells q g callee e = by (slice_get q.functions g) refl e
  where
    none_is_not_some : None ≡ Some callee → ⊥
    none_is_not_some e = cc

    same : (a b : Function) → Some a ≡ Some b → a ≡ b
    same a b e = cc

    on : (fn : Function) → slice_get q.functions g ≡ Some fn → (b : Bool) → (has_body fn && not (g == q.start)) ≡ b → cond b (Some fn) None ≡ Some callee → (slice_get q.functions g ≡ Some callee) × (has_body callee ≡ true) × ((g == q.start) ≡ false)
    on fn s true c e = subst (λ fn. (slice_get q.functions g ≡ Some fn) × (has_body fn ≡ true) × ((g == q.start) ≡ false)) (same fn callee e) (s, left_of_and (has_body fn) _ c, not_true (g == q.start) (right_of_and (has_body fn) _ c))
    on fn s false c e = absurd (none_is_not_some e)

    by : (o : Option Function) → slice_get q.functions g ≡ o → Rattle.std.specs.Prelude.option_and_then (λ f. cond (has_body f && not (g == q.start)) (Some f) None) o ≡ Some callee → (slice_get q.functions g ≡ Some callee) × (has_body callee ≡ true) × ((g == q.start) ≡ false)
    by None s e = absurd (none_is_not_some e)
    by (Some fn) s e = on fn s (has_body fn && not (g == q.start)) refl e

module _ (q : Core) where
  -- typed with some activations open
  abbrev pub TypedAfter : Configuration → Type 0
  TypedAfter m = (gs : List Function) × IsTyped q gs m

  module _ (f : Function) (fs : List Function) where
    -- ---- arguments

    pub arguing_typed : (g : ℕ) (es : List Expr) (n : ℕ) (m : Configuration) → Fits q f fs m → CallTakes q f g es (pending.reversed_onto (take n m.context.arguments)) (TakesValue q (f ∷ fs) (drop n m.context.arguments) m.work) → Here q f fs (turns.arguing g es n (ready m)).after
    arguing_typed g [] n m s h = let c = called_tells q g h.1 h.2 in (s, (h.1, c.0, c.1, c.2, h.3 [] tt, h.4))
    arguing_typed g (e ∷ es) n m s h = (s, (h.0.0, λ v x. (h.0.1, h.1, h.2, (λ ws y. h.3 (v ∷ ws) (x, y)), h.4)))

    pub argued_typed : (g : ℕ) (es : List Expr) (n : ℕ) (v : Value) (m : Configuration) → Fits q f fs m → CallTakes q f g es (λ ws. pending.reversed_onto (take n m.context.arguments) (v ∷ ws)) (TakesValue q (f ∷ fs) (drop n m.context.arguments) m.work) → Here q f fs (turns.argued g es n v m)
    argued_typed g es n v m s h = (s, h)

    -- ---- the end of an activation

    closed_typed : (g : ℕ) (v : Option Value) (m : Configuration) → Fits q f fs m → ReturnFits f.result v → ((w : Value) → OfType f.result w → TakesValue q fs m.context.arguments m.work w) → IsTyped q fs (turns.closed g v m).after
    closed_typed g v m s r h = by fs m.context.callers s.registers_fit.1 s.formed.1 h
      where
        after : List pending.Caller → Configuration
        after cs = turns.giving (value_or_zero v) (record m { context = pending.back_to cs m.context; memory = without_frame m.memory; ghosts = without_frame m.ghosts })

        by : (gs : List Function) (cs : List pending.Caller) → CallersFit q gs cs → AllByRecursion (IsWellFormedFunction q) gs → ((w : Value) → OfType f.result w → TakesValue q gs m.context.arguments m.work w) → IsTyped q gs (after cs)
        by [] [] k l h = (record { shapes = drop 1 s.shapes; memory_fits = tail_fits (global_cells q) s.shapes m.memory s.memory_fits; heap_falls = s.heap_falls; registers_fit = tt; formed = tt }, h (value_or_zero v) (value_fits f.result v r))
        by [] (c ∷ cs) k l h = (record { shapes = drop 1 s.shapes; memory_fits = tail_fits (global_cells q) s.shapes m.memory s.memory_fits; heap_falls = s.heap_falls; registers_fit = tt; formed = tt }, h (value_or_zero v) (value_fits f.result v r))
        by (f' ∷ gs) [] k l h = absurd k
        by (f' ∷ gs) (c ∷ cs) k l h = (record { shapes = drop 1 s.shapes; memory_fits = tail_fits (global_cells q) s.shapes m.memory s.memory_fits; heap_falls = s.heap_falls; registers_fit = k; formed = l }, h (value_or_zero v) (value_fits f.result v r))

    returned_typed : (g : ℕ) (t : CType) (v : Option Value) (m : Configuration) → Fits q f fs m → t ≡ f.result → ReturnFits t v → ((w : Value) → OfType f.result w → TakesValue q fs m.context.arguments m.work w) → TypedAfter (turns.returned g t v m).after
    returned_typed g t v m s e r h = by t v r (subst (λ t. ReturnFits t v) e r)
      where
        by : (t : CType) (v : Option Value) → ReturnFits t v → ReturnFits f.result v → TypedAfter (turns.returned g t v m).after
        by type.Void None r k = (fs, closed_typed g None m s k h)
        by type.Void (Some v) r k = absurd r
        by (type.Int j) None r k = absurd r
        by (type.Int j) (Some v) r k = (fs, closed_typed g (Some v) m s k h)
        by (type.Pointer' b j) None r k = absurd r
        by (type.Pointer' b j) (Some v) r k = (fs, closed_typed g (Some v) m s k h)
        by (type.Array' b j n) None r k = absurd r
        by (type.Array' b j n) (Some v) r k = (fs, closed_typed g (Some v) m s k h)
        by (type.Struct j) None r k = absurd r
        by (type.Struct j) (Some v) r k = (fs, closed_typed g (Some v) m s k h)

    fallen_off_typed : (g : ℕ) (b : Bool) (t : CType) (m : Configuration) → Fits q f fs m → t ≡ f.result → (b ≡ true → ReturnFits f.result (Some (value.Int (pos 0)))) → ((w : Value) → OfType f.result w → TakesValue q fs m.context.arguments m.work w) → TypedAfter (turns.fallen_off g b t m).after
    fallen_off_typed g true t m s e main h = (fs, closed_typed g (Some (value.Int (pos 0))) m s (main refl) h)
    fallen_off_typed g false type.Void m s e main h = (fs, closed_typed g None m s (subst (λ t. ReturnFits t None) e tt) h)
    fallen_off_typed g false (type.Int j) m s e main h = (f ∷ fs, (s, tt))
    fallen_off_typed g false (type.Pointer' b j) m s e main h = (f ∷ fs, (s, tt))
    fallen_off_typed g false (type.Array' b j n) m s e main h = (f ∷ fs, (s, tt))
    fallen_off_typed g false (type.Struct j) m s e main h = (f ∷ fs, (s, tt))

  module _ (h : IsWellFormed q) where
    sizes : SizesFit q.layouts
    sizes = sizes_fit q.layouts h.structs

    main_returns : (g : ℕ) (fn : Function) → slice_get q.functions g ≡ Some fn → (g == q.start) ≡ true → ReturnFits fn.result (Some (value.Int (pos 0)))
    main_returns g fn e s = int_returned fn.result (left_of_and _ _ (right_of_and _ _ (left_of_and _ _ is)))
      where
        is : is_main (Some fn) ≡ true
        is = subst (λ o. is_main o ≡ true) (ap (slice_get q.functions) (sym (eqb-true g q.start s)) ∙ e) h.main

    given_back_typed : (f : Function) (fs : List Function) (g : ℕ) (t : CType) (l : Completion) (m : Configuration) → Fits q f fs m → LeaveTakes q f g t l (TakesValue q fs m.context.arguments m.work) → TypedAfter (turns.given_back g (g == q.start) t l m).after
    given_back_typed f fs g t (Returned v) m s k = returned_typed f fs g t v m s k.1 (subst (λ t. ReturnFits t v) (sym k.1) k.2) k.3
    given_back_typed f fs g t Next m s k = fallen_off_typed f fs g (g == q.start) t m s k.1 (main_returns g f k.0) k.3
    given_back_typed f fs g t Broken m s k = false_is_not_true k.2
    given_back_typed f fs g t Continued m s k = false_is_not_true k.2

    -- ---- the start of an activation

    body_fits : (callee : Function) (body : List Stmt) → callee.body ≡ Some body → OfBody (BodyFits q callee) callee.body → BodyFits q callee body
    body_fits callee body e k = subst (OfBody (BodyFits q callee)) e k

    pub entered_typed : (fs : List Function) (g n : ℕ) (callee : Function) (body : List Stmt) (m : Configuration) → slice_get q.functions g ≡ Some callee → callee.body ≡ Some body → annotations body ≡ [] → after_annotations body ≡ body → AllByRecursion (λ s. IsTrue (is_bare s)) body → StateFits q fs m.memory m.allocated m.context.registers m.context.callers → EnterTakes q fs g (pending.reversed_onto (take n m.context.arguments) []) (TakesValue q fs (drop n m.context.arguments) m.work) → IsTyped q (callee ∷ fs) (turns.entered q g callee body n m)
    entered_typed fs g n callee body m found has none same bare s k = (state, (setting_of q callee, false, code body (subst (λ ss. AllByRecursion (StatementFits q callee (setting_of q callee) false) ss) same fits.1) bare, λ l c. (found, refl, c, takes)))
      where
        some_equal : (a b : Function) → Some a ≡ Some b → a ≡ b
        some_equal a b e = cc

        its : callee ≡ k.0
        its = some_equal callee k.0 (sym found ∙ k.1)

        there : has_body callee ≡ true
        there = subst (λ fn. has_body fn ≡ true) (sym its) k.2

        formed : IsWellFormedFunction q callee
        formed = formed_function q h g callee found there

        fits : BodyFits q callee body
        fits = body_fits callee body has formed.body

        arguments : InCells (parameter_types callee) (pending.reversed_onto (take n m.context.arguments) [])
        arguments = subst (λ fn. InCells (parameter_types fn) (pending.reversed_onto (take n m.context.arguments) [])) (sym its) k.4

        takes : (v : Value) → OfType callee.result v → TakesValue q fs (drop n m.context.arguments) m.work v
        takes = subst (λ fn. (v : Value) → OfType fn.result v → TakesValue q fs (drop n m.context.arguments) m.work v) (sym its) k.5

        code : (ss : List Stmt) → AllByRecursion (StatementFits q callee (setting_of q callee) false) ss → AllByRecursion (λ s. IsTrue (is_bare s)) ss → AllByRecursion (IsCode q callee (setting_of q callee) false) ss
        code [] h b = tt
        code (x ∷ ss) h b = ((h.0, b.0), code ss h.1 b.1)

        own : Frame
        own = first_frame q.layouts callee m.made (pending.reversed_onto (take n m.context.arguments) [])

        callers_fit : (fs : List Function) → AllRegistersFit q fs m.context.registers m.context.callers → CallersFit q fs (record { here = m.context.here; registers = m.context.registers } ∷ m.context.callers)
        callers_fit [] r = tt
        callers_fit (f ∷ fs) r = (r.0, r.1)

        state : StateFits q (callee ∷ fs) (with_frame own m.memory) m.allocated (unset_registers callee.registers) (record { here = m.context.here; registers = m.context.registers } ∷ m.context.callers)
        state =
            record {
              shapes = shape_of own ∷ s.shapes;
              memory_fits = record { globals_declared = s.memory_fits.globals_declared; frames_declared = ap (λ ss. shape_of own ∷ ss) s.memory_fits.frames_declared; globals_fit = s.memory_fits.globals_fit; locals_fit = (arguments_fit q.layouts sizes callee.locals callee.params (pending.reversed_onto (take n m.context.arguments) []) formed.locals formed.parameters arguments, s.memory_fits.locals_fit); heap_fit = s.memory_fits.heap_fit };
              heap_falls = s.heap_falls;
              registers_fit = (unset_fit callee.registers, callers_fit fs s.registers_fit);
              formed = (formed, s.formed);
            }

    -- ---- the turn

    module _ (f : Function) (fs : List Function) where
      scalars : (s : IsWellFormedFunction q f) (i : ℕ) → WhereSome (λ t. is_scalar t ≡ true) (option_map (λ d. d.ctype) (slice_get f.registers i))
      scalars s = scalar_registers q.layouts f.registers s.registers

      shorts : IsWellFormedFunction q f → ShortLocals q f fs
      shorts s = short_locals q.layouts sizes f.locals s.locals

      -- each part but input, the start of an activation and a fault that is due: these are left to the machine
      abbrev pub IsInner : pending.Pending → Type 0
      IsInner pending.Input = ⊥
      IsInner (pending.Enter g n) = ⊥
      IsInner (pending.Halt x) = ⊥
      IsInner p = Unit {0}

      pub turn_typed : (p : pending.Pending) (t : pending.Told) → IsInner p → (m : Configuration) → Fits q f fs m → Takes q (f ∷ fs) m.context.arguments (p ∷ m.work) t → TypedAfter (turn_at q p t (telling t m)).after
      turn_typed (pending.Evaluate e) (pending.Gave v) i m s k = absurd k
      turn_typed (pending.Evaluate e) (pending.Found l) i m s k = absurd k
      turn_typed (pending.Evaluate e) (pending.Left Next) i m s k = (f ∷ fs, evaluated_typed q f fs e m s k)
      turn_typed (pending.Evaluate e) (pending.Left Broken) i m s k = absurd k
      turn_typed (pending.Evaluate e) (pending.Left Continued) i m s k = absurd k
      turn_typed (pending.Evaluate e) (pending.Left (Returned v)) i m s k = absurd k
      turn_typed (pending.Locate p) (pending.Gave v) i m s k = absurd k
      turn_typed (pending.Locate p) (pending.Found l) i m s k = absurd k
      turn_typed (pending.Locate p) (pending.Left Next) i m s k = (f ∷ fs, located_typed q f fs (scalars s.formed.0) p m s k)
      turn_typed (pending.Locate p) (pending.Left Broken) i m s k = absurd k
      turn_typed (pending.Locate p) (pending.Left Continued) i m s k = absurd k
      turn_typed (pending.Locate p) (pending.Left (Returned v)) i m s k = absurd k
      turn_typed (pending.Execute x) (pending.Gave v) i m s k = absurd k
      turn_typed (pending.Execute x) (pending.Found l) i m s k = absurd k
      turn_typed (pending.Execute x) (pending.Left Next) i m s k = (f ∷ fs, executed_typed q f fs (shorts s.formed.0) x m s k)
      turn_typed (pending.Execute x) (pending.Left Broken) i m s k = absurd k
      turn_typed (pending.Execute x) (pending.Left Continued) i m s k = absurd k
      turn_typed (pending.Execute x) (pending.Left (Returned v)) i m s k = absurd k
      turn_typed (pending.Operate o) (pending.Gave v) i m s k = (f ∷ fs, operated_typed q f fs o v (telling (pending.Gave v) m) s k)
      turn_typed (pending.Operate o) (pending.Found l) i m s k = absurd k
      turn_typed (pending.Operate o) (pending.Left Next) i m s k = absurd k
      turn_typed (pending.Operate o) (pending.Left Broken) i m s k = absurd k
      turn_typed (pending.Operate o) (pending.Left Continued) i m s k = absurd k
      turn_typed (pending.Operate o) (pending.Left (Returned v)) i m s k = absurd k
      turn_typed (pending.Accessed a) (pending.Gave v) i m s k = absurd k
      turn_typed (pending.Accessed a) (pending.Found l) i m s k = (f ∷ fs, accessed_typed q f fs a l (telling (pending.Found l) m) s k)
      turn_typed (pending.Accessed a) (pending.Left Next) i m s k = absurd k
      turn_typed (pending.Accessed a) (pending.Left Broken) i m s k = absurd k
      turn_typed (pending.Accessed a) (pending.Left Continued) i m s k = absurd k
      turn_typed (pending.Accessed a) (pending.Left (Returned v)) i m s k = absurd k
      turn_typed (pending.Select x) (pending.Gave v) i m s k = absurd k
      turn_typed (pending.Select x) (pending.Found l) i m s k = (f ∷ fs, selected_typed q f fs x l (ready m) s k)
      turn_typed (pending.Select x) (pending.Left Next) i m s k = absurd k
      turn_typed (pending.Select x) (pending.Left Broken) i m s k = absurd k
      turn_typed (pending.Select x) (pending.Left Continued) i m s k = absurd k
      turn_typed (pending.Select x) (pending.Left (Returned v)) i m s k = absurd k
      turn_typed (pending.Designate x) (pending.Gave v) i m s k = (f ∷ fs, designating_typed q f fs x v (ready m) s k)
      turn_typed (pending.Designate x) (pending.Found l) i m s k = absurd k
      turn_typed (pending.Designate x) (pending.Left Next) i m s k = absurd k
      turn_typed (pending.Designate x) (pending.Left Broken) i m s k = absurd k
      turn_typed (pending.Designate x) (pending.Left Continued) i m s k = absurd k
      turn_typed (pending.Designate x) (pending.Left (Returned v)) i m s k = absurd k
      turn_typed (pending.Conclude x) (pending.Gave v) i m s k = (f ∷ fs, concluded_typed q f fs x v (telling (pending.Gave v) m) s k)
      turn_typed (pending.Conclude x) (pending.Found l) i m s k = absurd k
      turn_typed (pending.Conclude x) (pending.Left Next) i m s k = absurd k
      turn_typed (pending.Conclude x) (pending.Left Broken) i m s k = absurd k
      turn_typed (pending.Conclude x) (pending.Left Continued) i m s k = absurd k
      turn_typed (pending.Conclude x) (pending.Left (Returned v)) i m s k = absurd k
      turn_typed pending.Ignore (pending.Gave v) i m s k = (f ∷ fs, (s, k))
      turn_typed pending.Ignore (pending.Found l) i m s k = absurd k
      turn_typed pending.Ignore (pending.Left Next) i m s k = absurd k
      turn_typed pending.Ignore (pending.Left Broken) i m s k = absurd k
      turn_typed pending.Ignore (pending.Left Continued) i m s k = absurd k
      turn_typed pending.Ignore (pending.Left (Returned v)) i m s k = absurd k
      turn_typed (pending.Pass x) (pending.Gave v) i m s k = absurd k
      turn_typed (pending.Pass x) (pending.Found l) i m s k = absurd k
      turn_typed (pending.Pass x) (pending.Left Next) i m s k = (f ∷ fs, passed_typed q f fs x Next (telling (pending.Left Next) m) s k)
      turn_typed (pending.Pass x) (pending.Left Broken) i m s k = (f ∷ fs, passed_typed q f fs x Broken (telling (pending.Left Broken) m) s k)
      turn_typed (pending.Pass x) (pending.Left Continued) i m s k = (f ∷ fs, passed_typed q f fs x Continued (telling (pending.Left Continued) m) s k)
      turn_typed (pending.Pass x) (pending.Left (Returned v)) i m s k = (f ∷ fs, passed_typed q f fs x (Returned v) (telling (pending.Left (Returned v)) m) s k)
      turn_typed pending.Input (pending.Gave v) i m s k = absurd i
      turn_typed pending.Input (pending.Found l) i m s k = absurd i
      turn_typed pending.Input (pending.Left Next) i m s k = absurd i
      turn_typed pending.Input (pending.Left Broken) i m s k = absurd i
      turn_typed pending.Input (pending.Left Continued) i m s k = absurd i
      turn_typed pending.Input (pending.Left (Returned v)) i m s k = absurd i
      turn_typed pending.Output (pending.Gave v) i m s k = (f ∷ fs, (s, k (pos (turns.byte_of v)) (natural_in_range kind.Int (turns.byte_of v) (let l : low_bits 8 (integer v) < 256 = low_bits_below 8 (integer v) (omega arith) in omega arith))))
      turn_typed pending.Output (pending.Found l) i m s k = absurd k
      turn_typed pending.Output (pending.Left Next) i m s k = absurd k
      turn_typed pending.Output (pending.Left Broken) i m s k = absurd k
      turn_typed pending.Output (pending.Left Continued) i m s k = absurd k
      turn_typed pending.Output (pending.Left (Returned v)) i m s k = absurd k
      turn_typed (pending.Arguments g es n) (pending.Gave v) i m s k = absurd k
      turn_typed (pending.Arguments g es n) (pending.Found l) i m s k = absurd k
      turn_typed (pending.Arguments g es n) (pending.Left Next) i m s k = (f ∷ fs, arguing_typed f fs g es n m s k)
      turn_typed (pending.Arguments g es n) (pending.Left Broken) i m s k = absurd k
      turn_typed (pending.Arguments g es n) (pending.Left Continued) i m s k = absurd k
      turn_typed (pending.Arguments g es n) (pending.Left (Returned v)) i m s k = absurd k
      turn_typed (pending.Argument g es n) (pending.Gave v) i m s k = (f ∷ fs, argued_typed f fs g es n v (telling (pending.Gave v) m) s k)
      turn_typed (pending.Argument g es n) (pending.Found l) i m s k = absurd k
      turn_typed (pending.Argument g es n) (pending.Left Next) i m s k = absurd k
      turn_typed (pending.Argument g es n) (pending.Left Broken) i m s k = absurd k
      turn_typed (pending.Argument g es n) (pending.Left Continued) i m s k = absurd k
      turn_typed (pending.Argument g es n) (pending.Left (Returned v)) i m s k = absurd k
      turn_typed (pending.Enter g n) (pending.Gave v) i m s k = absurd i
      turn_typed (pending.Enter g n) (pending.Found l) i m s k = absurd i
      turn_typed (pending.Enter g n) (pending.Left Next) i m s k = absurd i
      turn_typed (pending.Enter g n) (pending.Left Broken) i m s k = absurd i
      turn_typed (pending.Enter g n) (pending.Left Continued) i m s k = absurd i
      turn_typed (pending.Enter g n) (pending.Left (Returned v)) i m s k = absurd i
      turn_typed (pending.Leave g t) (pending.Gave v) i m s k = absurd k
      turn_typed (pending.Leave g t) (pending.Found l) i m s k = absurd k
      turn_typed (pending.Leave g t) (pending.Left Next) i m s k = given_back_typed f fs g t Next (telling (pending.Left Next) m) s k
      turn_typed (pending.Leave g t) (pending.Left Broken) i m s k = given_back_typed f fs g t Broken (telling (pending.Left Broken) m) s k
      turn_typed (pending.Leave g t) (pending.Left Continued) i m s k = given_back_typed f fs g t Continued (telling (pending.Left Continued) m) s k
      turn_typed (pending.Leave g t) (pending.Left (Returned v)) i m s k = given_back_typed f fs g t (Returned v) (telling (pending.Left (Returned v)) m) s k
      turn_typed (pending.Halt x) (pending.Gave v) i m s k = absurd i
      turn_typed (pending.Halt x) (pending.Found l) i m s k = absurd i
      turn_typed (pending.Halt x) (pending.Left Next) i m s k = absurd i
      turn_typed (pending.Halt x) (pending.Left Broken) i m s k = absurd i
      turn_typed (pending.Halt x) (pending.Left Continued) i m s k = absurd i
      turn_typed (pending.Halt x) (pending.Left (Returned v)) i m s k = absurd i
      turn_typed (pending.Over x) (pending.Gave v) i m s k = absurd k
      turn_typed (pending.Over x) (pending.Found l) i m s k = absurd k
      turn_typed (pending.Over x) (pending.Left Next) i m s k = absurd k
      turn_typed (pending.Over x) (pending.Left Broken) i m s k = absurd k
      turn_typed (pending.Over x) (pending.Left Continued) i m s k = absurd k
      turn_typed (pending.Over x) (pending.Left (Returned v)) i m s k = absurd k

      -- `getchar`: the next byte, or -1
      pub read_typed : (input : List ℕ) (m : Configuration) → Fits q f fs m → TakesEnd q (f ∷ fs) m.context.arguments (pending.Input ∷ m.work) Next → Here q f fs (turns.giving (turns.byte_read input) m)
      read_typed [] m s k = (s, k (negsuc 0) refl)
      read_typed (b ∷ bs) m s k = (s, k (pos (b % 256)) (natural_in_range kind.Int (b % 256) (let l : b % 256 < 256 = mod-lt b (omega arith) in omega arith)))
