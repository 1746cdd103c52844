-- The functions of the open activations in a typed machine: each turn leaves them as they are, but that the end of an activation takes the innermost one.
use Rattle.std.proofs.Common.{◌≡◌, ℕ, zero, suc, ◌<◌, ◌^◌, Bool, true, false, List, [], ◌∷◌, length, drop, Option, Some, None, refl, sym, ap, ◌∙◌, subst, arith, eqb-true}
use Rattle.std.specs.Prelude.{◌==◌, pos, slice_get, option_map}
use Rattle.std.specs.List.{list_all, AllByRecursion}
use Rattle.step_meaning.specs.declared.value.IntKind.TheVariants as kind
use Rattle.step_meaning.specs.declared.value.CType.{CType, end_of-CType, more_of-CType}
use Rattle.step_meaning.specs.declared.value.CType.TheVariants as type
use Rattle.step_meaning.specs.declared.value.Value.{Value}
use Rattle.step_meaning.specs.declared.value.Value.TheVariants as value
use Rattle.step_meaning.specs.declared.value.RunFault.TheVariants as fault
use Rattle.step_meaning.specs.declared.program.Declared.{Declared}
use Rattle.step_meaning.specs.declared.program.Layout.{Layout}
use Rattle.step_meaning.specs.declared.program.Core.{Core}
use Rattle.step_meaning.specs.declared.program.Function.{Function}
use Rattle.step_meaning.specs.Numbers.{low_bits}
use Rattle.step_meaning.specs.Names.{integer}
use Rattle.step_meaning.specs.Types.{same_type, object_cells}
use Rattle.step_meaning.specs.Library.{int}
use Rattle.step_meaning.specs.Memory.{Memory, Frame}
use Rattle.step_meaning.specs.Statements.{Completion, Next, Broken, Continued, Returned}
use Rattle.step_meaning.specs.Calls.{without_frame, value_or_zero}
use Rattle.step_meaning.specs.TypeRules.{is_scalar, is_scalar_type, keeps_rules}
use Rattle.step_meaning.specs.WellFormed.{IsWellFormed, IsWellFormedFunction, is_main}
use Rattle.step_meaning.proofs.Ranges.{natural_in_range, low_bits_below, false_is_not_true, left_of_and, right_of_and}
use Rattle.step_meaning.proofs.TypedMemory.{Each, WhereSome, drop_map, FrameFits, Shape, shape_of, MemoryFits, has_same_type, same_type_turned}
use Rattle.step_meaning.proofs.StepsFit.{ReturnFits, global_cells}
use Rattle.step_meaning.proofs.TypedOperators.{OfType}
use Rattle.step_meaning.proofs.TypedCalls.{SizesFit}
use Rattle.step_meaning.proofs.TypedSizes.{sizes_fit}
use Rattle.run_turns.specs.Pending as pending
use Rattle.run_turns.specs.Turns as turns
use Rattle.run_turns.specs.Turns.{Configuration, ready, telling, turn_at}
use Rattle.run_turns.specs.Typed.{LeaveTakes, TakesValue, Takes, CallersFit, IsTyped}
use Rattle.run_turns.proofs.ExpressionsTyped.{evaluated_typed, located_typed}
use Rattle.run_turns.proofs.ValuesTyped.{Fits, operated_typed, accessed_typed, selected_typed, designating_typed}
use Rattle.run_turns.proofs.CallsTyped.{IsInner, arguing_typed, argued_typed}
use Rattle.run_turns.proofs.ActivationsKept.{EndsNone}
use Rattle.run_turns.proofs.StatementsTyped.{executed_typed, concluded_typed, passed_typed}

-- ---- what is known of the functions

scalar_registers : (layouts : List Layout) (ds : List Declared) → list_all (λ d. is_scalar_type layouts d.ctype) ds ≡ true → (i : ℕ) → WhereSome (λ t. is_scalar t ≡ true) (option_map (λ d. d.ctype) (slice_get ds i))
scalar_registers layouts [] h i = tt
scalar_registers layouts (d ∷ ds) h zero = left_of_and _ _ (left_of_and _ _ h)
scalar_registers layouts (d ∷ ds) h (suc i) = scalar_registers layouts ds (right_of_and _ _ h) i

short_locals : (layouts : List Layout) → SizesFit layouts → (ds : List Declared) → list_all (λ d. keeps_rules layouts d.ctype) ds ≡ true → (i : ℕ) → WhereSome (λ t. length (object_cells layouts t) < 2 ^ 32) (option_map (λ d. d.ctype) (slice_get ds i))
short_locals layouts sizes [] h i = tt
short_locals layouts sizes (d ∷ ds) h zero = sizes d.ctype (left_of_and _ _ h)
short_locals layouts sizes (d ∷ ds) h (suc i) = short_locals layouts sizes ds (right_of_and _ _ h) i

-- the memory without the innermost activation
tail_fits : (globals : List (List CType)) (shapes : List Shape) (memory : Memory) → MemoryFits globals shapes memory → MemoryFits globals (drop 1 shapes) (without_frame memory)
tail_fits globals shapes memory h = record { globals_declared = h.globals_declared; frames_declared = drop_map shape_of memory.frames ∙ ap (λ ss. drop 1 ss) h.frames_declared; globals_fit = h.globals_fit; locals_fit = rest memory.frames h.locals_fit; heap_fit = h.heap_fit }
  where
    rest : (fs : List Frame) → Each FrameFits fs → Each FrameFits (drop 1 fs)
    rest [] h = tt
    rest (f ∷ fs) h = h.1

-- ---- what is given back

value_fits : (t : CType) (v : Option Value) → ReturnFits t v → OfType t (value_or_zero v)
value_fits type.Void v h = tt
value_fits (type.Int k) None h = absurd h
value_fits (type.Int k) (Some v) h = h
value_fits (type.Pointer' b t) None h = absurd h
value_fits (type.Pointer' b t) (Some v) h = h
value_fits (type.Array' b t n) None h = absurd h
value_fits (type.Array' b t n) (Some v) h = h
value_fits (type.Struct n) None h = absurd h
value_fits (type.Struct n) (Some v) h = h

int_returned : (t : CType) → same_type t int ≡ true → ReturnFits t (Some (value.Int (pos 0)))
int_returned (type.Int k) e = (has_same_type int (type.Int k) (value.Int (pos 0)) (same_type_turned (type.Int k) int e) refl, tt)
int_returned type.Void e = false_is_not_true e
int_returned (type.Pointer' b (more_of-CType t end_of-CType)) e = false_is_not_true e
int_returned (type.Array' b (more_of-CType t end_of-CType) n) e = false_is_not_true e
int_returned (type.Struct n) e = false_is_not_true e

-- ---- the turns that end no activation

module _ (q : Core) (h : IsWellFormed q) where
  sizes : SizesFit q.layouts
  sizes = sizes_fit q.layouts h.structs

  module _ (f : Function) (fs : List Function) where
    pub stays_typed : (p : pending.Pending) (t : pending.Told) → IsInner q h f fs p → EndsNone p → (m : Configuration) → Fits q f fs m → Takes q (f ∷ fs) m.context.arguments (p ∷ m.work) t → IsTyped q (f ∷ fs) (turn_at q p t (telling t m)).after
    stays_typed (pending.Evaluate e) (pending.Gave v) i ends m s k = absurd k
    stays_typed (pending.Evaluate e) (pending.Found l) i ends m s k = absurd k
    stays_typed (pending.Evaluate e) (pending.Left Next) i ends m s k = evaluated_typed q f fs e m s k
    stays_typed (pending.Evaluate e) (pending.Left Broken) i ends m s k = absurd k
    stays_typed (pending.Evaluate e) (pending.Left Continued) i ends m s k = absurd k
    stays_typed (pending.Evaluate e) (pending.Left (Returned v)) i ends m s k = absurd k
    stays_typed (pending.Locate p) (pending.Gave v) i ends m s k = absurd k
    stays_typed (pending.Locate p) (pending.Found l) i ends m s k = absurd k
    stays_typed (pending.Locate p) (pending.Left Next) i ends m s k = located_typed q f fs (scalar_registers q.layouts f.registers s.formed.0.registers) p m s k
    stays_typed (pending.Locate p) (pending.Left Broken) i ends m s k = absurd k
    stays_typed (pending.Locate p) (pending.Left Continued) i ends m s k = absurd k
    stays_typed (pending.Locate p) (pending.Left (Returned v)) i ends m s k = absurd k
    stays_typed (pending.Execute x) (pending.Gave v) i ends m s k = absurd k
    stays_typed (pending.Execute x) (pending.Found l) i ends m s k = absurd k
    stays_typed (pending.Execute x) (pending.Left Next) i ends m s k = executed_typed q f fs (short_locals q.layouts sizes f.locals s.formed.0.locals) x m s k
    stays_typed (pending.Execute x) (pending.Left Broken) i ends m s k = absurd k
    stays_typed (pending.Execute x) (pending.Left Continued) i ends m s k = absurd k
    stays_typed (pending.Execute x) (pending.Left (Returned v)) i ends m s k = absurd k
    stays_typed (pending.Operate o) (pending.Gave v) i ends m s k = operated_typed q f fs o v (telling (pending.Gave v) m) s k
    stays_typed (pending.Operate o) (pending.Found l) i ends m s k = absurd k
    stays_typed (pending.Operate o) (pending.Left Next) i ends m s k = absurd k
    stays_typed (pending.Operate o) (pending.Left Broken) i ends m s k = absurd k
    stays_typed (pending.Operate o) (pending.Left Continued) i ends m s k = absurd k
    stays_typed (pending.Operate o) (pending.Left (Returned v)) i ends m s k = absurd k
    stays_typed (pending.Accessed a) (pending.Gave v) i ends m s k = absurd k
    stays_typed (pending.Accessed a) (pending.Found l) i ends m s k = accessed_typed q f fs a l (telling (pending.Found l) m) s k
    stays_typed (pending.Accessed a) (pending.Left Next) i ends m s k = absurd k
    stays_typed (pending.Accessed a) (pending.Left Broken) i ends m s k = absurd k
    stays_typed (pending.Accessed a) (pending.Left Continued) i ends m s k = absurd k
    stays_typed (pending.Accessed a) (pending.Left (Returned v)) i ends m s k = absurd k
    stays_typed (pending.Select x) (pending.Gave v) i ends m s k = absurd k
    stays_typed (pending.Select x) (pending.Found l) i ends m s k = selected_typed q f fs x l (ready m) s k
    stays_typed (pending.Select x) (pending.Left Next) i ends m s k = absurd k
    stays_typed (pending.Select x) (pending.Left Broken) i ends m s k = absurd k
    stays_typed (pending.Select x) (pending.Left Continued) i ends m s k = absurd k
    stays_typed (pending.Select x) (pending.Left (Returned v)) i ends m s k = absurd k
    stays_typed (pending.Designate x) (pending.Gave v) i ends m s k = designating_typed q f fs x v (ready m) s k
    stays_typed (pending.Designate x) (pending.Found l) i ends m s k = absurd k
    stays_typed (pending.Designate x) (pending.Left Next) i ends m s k = absurd k
    stays_typed (pending.Designate x) (pending.Left Broken) i ends m s k = absurd k
    stays_typed (pending.Designate x) (pending.Left Continued) i ends m s k = absurd k
    stays_typed (pending.Designate x) (pending.Left (Returned v)) i ends m s k = absurd k
    stays_typed (pending.Conclude x) (pending.Gave v) i ends m s k = concluded_typed q f fs x v (telling (pending.Gave v) m) s k
    stays_typed (pending.Conclude x) (pending.Found l) i ends m s k = absurd k
    stays_typed (pending.Conclude x) (pending.Left Next) i ends m s k = absurd k
    stays_typed (pending.Conclude x) (pending.Left Broken) i ends m s k = absurd k
    stays_typed (pending.Conclude x) (pending.Left Continued) i ends m s k = absurd k
    stays_typed (pending.Conclude x) (pending.Left (Returned v)) i ends m s k = absurd k
    stays_typed pending.Ignore (pending.Gave v) i ends m s k = (s, k)
    stays_typed pending.Ignore (pending.Found l) i ends m s k = absurd k
    stays_typed pending.Ignore (pending.Left Next) i ends m s k = absurd k
    stays_typed pending.Ignore (pending.Left Broken) i ends m s k = absurd k
    stays_typed pending.Ignore (pending.Left Continued) i ends m s k = absurd k
    stays_typed pending.Ignore (pending.Left (Returned v)) i ends m s k = absurd k
    stays_typed (pending.Pass x) (pending.Gave v) i ends m s k = absurd k
    stays_typed (pending.Pass x) (pending.Found l) i ends m s k = absurd k
    stays_typed (pending.Pass x) (pending.Left Next) i ends m s k = passed_typed q f fs x Next (telling (pending.Left Next) m) s k
    stays_typed (pending.Pass x) (pending.Left Broken) i ends m s k = passed_typed q f fs x Broken (telling (pending.Left Broken) m) s k
    stays_typed (pending.Pass x) (pending.Left Continued) i ends m s k = passed_typed q f fs x Continued (telling (pending.Left Continued) m) s k
    stays_typed (pending.Pass x) (pending.Left (Returned v)) i ends m s k = passed_typed q f fs x (Returned v) (telling (pending.Left (Returned v)) m) s k
    stays_typed pending.Input (pending.Gave v) i ends m s k = absurd i
    stays_typed pending.Input (pending.Found l) i ends m s k = absurd i
    stays_typed pending.Input (pending.Left Next) i ends m s k = absurd i
    stays_typed pending.Input (pending.Left Broken) i ends m s k = absurd i
    stays_typed pending.Input (pending.Left Continued) i ends m s k = absurd i
    stays_typed pending.Input (pending.Left (Returned v)) i ends m s k = absurd i
    stays_typed pending.Output (pending.Gave v) i ends m s k = (s, k (pos (turns.byte_of v)) (natural_in_range kind.Int (turns.byte_of v) (let l : low_bits 8 (integer v) < 256 = low_bits_below 8 (integer v) (omega arith) in omega arith)))
    stays_typed pending.Output (pending.Found l) i ends m s k = absurd k
    stays_typed pending.Output (pending.Left Next) i ends m s k = absurd k
    stays_typed pending.Output (pending.Left Broken) i ends m s k = absurd k
    stays_typed pending.Output (pending.Left Continued) i ends m s k = absurd k
    stays_typed pending.Output (pending.Left (Returned v)) i ends m s k = absurd k
    stays_typed (pending.Arguments g es n) (pending.Gave v) i ends m s k = absurd k
    stays_typed (pending.Arguments g es n) (pending.Found l) i ends m s k = absurd k
    stays_typed (pending.Arguments g es n) (pending.Left Next) i ends m s k = arguing_typed q f fs g es n m s k
    stays_typed (pending.Arguments g es n) (pending.Left Broken) i ends m s k = absurd k
    stays_typed (pending.Arguments g es n) (pending.Left Continued) i ends m s k = absurd k
    stays_typed (pending.Arguments g es n) (pending.Left (Returned v)) i ends m s k = absurd k
    stays_typed (pending.Argument g es n) (pending.Gave v) i ends m s k = argued_typed q f fs g es n v (telling (pending.Gave v) m) s k
    stays_typed (pending.Argument g es n) (pending.Found l) i ends m s k = absurd k
    stays_typed (pending.Argument g es n) (pending.Left Next) i ends m s k = absurd k
    stays_typed (pending.Argument g es n) (pending.Left Broken) i ends m s k = absurd k
    stays_typed (pending.Argument g es n) (pending.Left Continued) i ends m s k = absurd k
    stays_typed (pending.Argument g es n) (pending.Left (Returned v)) i ends m s k = absurd k
    stays_typed (pending.Enter g n) (pending.Gave v) i ends m s k = absurd i
    stays_typed (pending.Enter g n) (pending.Found l) i ends m s k = absurd i
    stays_typed (pending.Enter g n) (pending.Left Next) i ends m s k = absurd i
    stays_typed (pending.Enter g n) (pending.Left Broken) i ends m s k = absurd i
    stays_typed (pending.Enter g n) (pending.Left Continued) i ends m s k = absurd i
    stays_typed (pending.Enter g n) (pending.Left (Returned v)) i ends m s k = absurd i
    stays_typed (pending.Leave g t) (pending.Gave v) i ends m s k = absurd ends
    stays_typed (pending.Leave g t) (pending.Found l) i ends m s k = absurd ends
    stays_typed (pending.Leave g t) (pending.Left Next) i ends m s k = absurd ends
    stays_typed (pending.Leave g t) (pending.Left Broken) i ends m s k = absurd ends
    stays_typed (pending.Leave g t) (pending.Left Continued) i ends m s k = absurd ends
    stays_typed (pending.Leave g t) (pending.Left (Returned v)) i ends m s k = absurd ends
    stays_typed (pending.Halt x) (pending.Gave v) i ends m s k = absurd i
    stays_typed (pending.Halt x) (pending.Found l) i ends m s k = absurd i
    stays_typed (pending.Halt x) (pending.Left Next) i ends m s k = absurd i
    stays_typed (pending.Halt x) (pending.Left Broken) i ends m s k = absurd i
    stays_typed (pending.Halt x) (pending.Left Continued) i ends m s k = absurd i
    stays_typed (pending.Halt x) (pending.Left (Returned v)) i ends m s k = absurd i
    stays_typed (pending.Over x) (pending.Gave v) i ends m s k = absurd k
    stays_typed (pending.Over x) (pending.Found l) i ends m s k = absurd k
    stays_typed (pending.Over x) (pending.Left Next) i ends m s k = absurd k
    stays_typed (pending.Over x) (pending.Left Broken) i ends m s k = absurd k
    stays_typed (pending.Over x) (pending.Left Continued) i ends m s k = absurd k
    stays_typed (pending.Over x) (pending.Left (Returned v)) i ends m s k = absurd k

-- ---- the end of an activation

-- it ends, and gives back what fits, or a fault is due
pub data EndsActivation (q : Core) (f : Function) (g : ℕ) (m : Configuration) (turn : turns.Turn) : Type 0 where
  Closes : (v : Option Value) → ReturnFits f.result v → turn ≡ turns.closed g v m → EndsActivation q f g m turn
  Halts : turn ≡ turns.moved (turns.halted fault.NoReturn m) → EndsActivation q f g m turn

module _ (q : Core) (f : Function) (fs : List Function) where
  pub closed_typed : (g : ℕ) (v : Option Value) (m : Configuration) → Fits q f fs m → ReturnFits f.result v → ((w : Value) → OfType f.result w → TakesValue q fs m.context.arguments m.work w) → IsTyped q fs (turns.closed g v m).after
  closed_typed g v m s r h = by fs m.context.callers s.registers_fit.1 s.formed.1 h
    where
      after : List pending.Caller → Configuration
      after cs = turns.giving (value_or_zero v) (record m { context = pending.back_to cs m.context; memory = without_frame m.memory; ghosts = without_frame m.ghosts })

      by : (gs : List Function) (cs : List pending.Caller) → CallersFit q gs cs → AllByRecursion (IsWellFormedFunction q) gs → ((w : Value) → OfType f.result w → TakesValue q gs m.context.arguments m.work w) → IsTyped q gs (after cs)
      by [] [] k l h = (record { shapes = drop 1 s.shapes; memory_fits = tail_fits (global_cells q) s.shapes m.memory s.memory_fits; heap_falls = s.heap_falls; registers_fit = tt; formed = tt }, h (value_or_zero v) (value_fits f.result v r))
      by [] (c ∷ cs) k l h = (record { shapes = drop 1 s.shapes; memory_fits = tail_fits (global_cells q) s.shapes m.memory s.memory_fits; heap_falls = s.heap_falls; registers_fit = tt; formed = tt }, h (value_or_zero v) (value_fits f.result v r))
      by (f' ∷ gs) [] k l h = absurd k
      by (f' ∷ gs) (c ∷ cs) k l h = (record { shapes = drop 1 s.shapes; memory_fits = tail_fits (global_cells q) s.shapes m.memory s.memory_fits; heap_falls = s.heap_falls; registers_fit = k; formed = l }, h (value_or_zero v) (value_fits f.result v r))

  returned_left : (g : ℕ) (t : CType) (v : Option Value) (m : Configuration) → t ≡ f.result → ReturnFits t v → EndsActivation q f g m (turns.returned g t v m)
  returned_left g t v m e r = by t v r (subst (λ t. ReturnFits t v) e r)
    where
      by : (t : CType) (v : Option Value) → ReturnFits t v → ReturnFits f.result v → EndsActivation q f g m (turns.returned g t v m)
      by type.Void None r k = Closes None k refl
      by type.Void (Some v) r k = absurd r
      by (type.Int j) None r k = absurd r
      by (type.Int j) (Some v) r k = Closes (Some v) k refl
      by (type.Pointer' b j) None r k = absurd r
      by (type.Pointer' b j) (Some v) r k = Closes (Some v) k refl
      by (type.Array' b j n) None r k = absurd r
      by (type.Array' b j n) (Some v) r k = Closes (Some v) k refl
      by (type.Struct j) None r k = absurd r
      by (type.Struct j) (Some v) r k = Closes (Some v) k refl

  fallen_off_left : (g : ℕ) (b : Bool) (t : CType) (m : Configuration) → t ≡ f.result → (b ≡ true → ReturnFits f.result (Some (value.Int (pos 0)))) → EndsActivation q f g m (turns.fallen_off g b t m)
  fallen_off_left g true t m e main = Closes (Some (value.Int (pos 0))) (main refl) refl
  fallen_off_left g false type.Void m e main = Closes None (subst (λ t. ReturnFits t None) e tt) refl
  fallen_off_left g false (type.Int j) m e main = Halts refl
  fallen_off_left g false (type.Pointer' b j) m e main = Halts refl
  fallen_off_left g false (type.Array' b j n) m e main = Halts refl
  fallen_off_left g false (type.Struct j) m e main = Halts refl

module _ (q : Core) (h : IsWellFormed q) where
  main_returns : (g : ℕ) (fn : Function) → slice_get q.functions g ≡ Some fn → (g == q.start) ≡ true → ReturnFits fn.result (Some (value.Int (pos 0)))
  main_returns g fn e s = int_returned fn.result (left_of_and _ _ (right_of_and _ _ (left_of_and _ _ is)))
    where
      is : is_main (Some fn) ≡ true
      is = subst (λ o. is_main o ≡ true) (ap (slice_get q.functions) (sym (eqb-true g q.start s)) ∙ e) h.main

  pub given_back_left : (f : Function) (fs : List Function) (g : ℕ) (t : CType) (l : Completion) (m : Configuration) → LeaveTakes q f g t l (TakesValue q fs m.context.arguments m.work) → EndsActivation q f g m (turns.given_back g (g == q.start) t l m)
  given_back_left f fs g t (Returned v) m k = returned_left q f fs g t v m k.1 (subst (λ t. ReturnFits t v) (sym k.1) k.2)
  given_back_left f fs g t Next m k = fallen_off_left q f fs g (g == q.start) t m k.1 (main_returns g f k.0)
  given_back_left f fs g t Broken m k = false_is_not_true k.2
  given_back_left f fs g t Continued m k = false_is_not_true k.2
