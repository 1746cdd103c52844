-- What a part of a program keeps: the types of cells and registers, what is true of each step, and that a fault that ends the run is the Halt step before the end.
use Rattle.std.proofs.Common.{◌≡◌, ℕ, Bool, true, false, cond, List, [], ◌∷◌, map, refl}
use Rattle.step_meaning.specs.declared.value.CType.{CType}
use Rattle.step_meaning.specs.declared.value.Value.{Value}
use Rattle.step_meaning.specs.declared.value.Action.{Action}
use Rattle.step_meaning.specs.declared.value.Action.TheVariants as act
use Rattle.step_meaning.specs.declared.value.RunFault.{RunFault}
use Rattle.step_meaning.specs.declared.stmt.VerdictKind.{VerdictKind}
use Rattle.step_meaning.specs.declared.program.Core.{Core}
use Rattle.step_meaning.specs.Memory.{Memory, Frame}
use Rattle.step_meaning.specs.Steps.{Item, End, Exit, Fault, More}
use Rattle.step_meaning.specs.State.{Registers, Here}
use Rattle.step_meaning.specs.Flow.{step_by, direct, Direct, DirectCall, World, Gives, Done, Over, Stuck, CallGives, Returned, Ended, onward, after_call}
use Rattle.step_meaning.specs.FaultsHalt.{IsHalt}
use Rattle.step_meaning.specs.Traced.{SlotTyped}
use Rattle.step_meaning.proofs.TypedMemory.{Each, Shape, MemoryFits, HeapFalls}
use Rattle.step_meaning.proofs.StepsFit.{ActionFits, global_cells, ItemFits}

-- a fault that ends the run is the newest item, a Halt step. No part of a program ends it with an exit
abbrev pub EndsWell : End → List Item → Type 0
EndsWell (Exit v) l = ⊥
EndsWell More l = Unit {0}
EndsWell (Fault f) [] = ⊥
EndsWell (Fault f) (i ∷ l) = IsHalt f i

-- the registers have these types
pub record RegistersFit (types : List CType) (r : Registers) : Type 0 where
  pub declared : map (λ s. s.declared) r ≡ types
  pub fit : Each SlotTyped r

-- the program's variables of file scope, open activations of these shapes, the steps so far, and the numbers of the heap blocks
abbrev pub Fits : Core → List Shape → World → Type 0
Fits q frames w = MemoryFits (global_cells q) frames w.memory × Each (ItemFits q) w.log × HeapFalls w.memory w.allocated

-- a run that ends here
abbrev pub EndFits : Core → End → List Item → Type 0
EndFits q e l = EndsWell e l × Each (ItemFits q) l

abbrev pub CallGivesFit : Core → List Shape → (Value → Type 0) → CallGives → Type 0
CallGivesFit q frames P (Returned v w) = P v × Fits q frames w
CallGivesFit q frames P (Ended e l) = EndFits q e l

pub record CallKeeps (q : Core) (frames : List Shape) (P : Value → Type 0) (c : DirectCall) : Type 0 where
  pub by : (w : World) → Fits q frames w → CallGivesFit q frames P (c w)

-- and registers of these types. A result has the property
abbrev pub GivesFit : Core → List Shape → List CType → {A : Type 0} → (A → Type 0) → Gives A → Type 0
GivesFit q frames registers P (Done a w r) = P a × Fits q frames w × RegistersFit registers r
GivesFit q frames registers P (Over e l) = EndFits q e l
GivesFit q frames registers P (Stuck e l) = EndFits q e l

pub record Keeps (q : Core) (frames : List Shape) (registers : List CType) {A : Type 0} (P : A → Type 0) (d : Direct A) : Type 0 where
  pub by : (w : World) (r : Registers) → Fits q frames w → RegistersFit registers r → GivesFit q frames registers P (d w r)

abbrev pub Always : {A : Type 0} → A → Type 0
Always a = Unit {0}

-- the next step
pub step_fits : (q : Core) (frames : List Shape) (here : Here) (a : Action) (w : World) → Fits q frames w → ActionFits q w.memory.frames a → ItemFits q (step_by here a w.memory)
step_fits q frames here a w m h = record { globals_declared = m.0.globals_declared; globals_fit = m.0.globals_fit; locals_fit = m.0.locals_fit; heap_fit = m.0.heap_fit; heap_falls = (w.allocated, m.2); action = h }

module _ {q : Core} {frames : List Shape} {registers : List CType} where
  pub keeps_pure : {A : Type 0} {P : A → Type 0} (a : A) → P a → Keeps q frames registers P (direct.pure a)
  keeps_pure a h = record { by = λ w r m k. (h, m, k) }

  pub keeps_bind : {A B : Type 0} {P : A → Type 0} {Q : B → Type 0} {d : Direct A} {f : A → Direct B} → Keeps q frames registers P d → ((a : A) → P a → Keeps q frames registers Q (f a)) → Keeps q frames registers Q (direct.bind d f)
  keeps_bind {A = A} {P = P} {Q = Q} {d = d} {f = f} h k = record { by = λ w r m l. on (d w r) (h.by w r m l) }
    where
      on : (o : Gives A) → GivesFit q frames registers P o → GivesFit q frames registers Q (onward o f)
      on (Done a w r) g = (k a g.0).by w r g.1 g.2
      on (Over e l) g = g
      on (Stuck e l) g = g

  pub keeps_weaker : {A : Type 0} {P Q : A → Type 0} {d : Direct A} → ((a : A) → P a → Q a) → Keeps q frames registers P d → Keeps q frames registers Q d
  keeps_weaker {A = A} {P = P} {Q = Q} {d = d} k h = record { by = λ w r m l. on (d w r) (h.by w r m l) }
    where
      on : (o : Gives A) → GivesFit q frames registers P o → GivesFit q frames registers Q o
      on (Done a w r) g = (k a g.0, g.1, g.2)
      on (Over e l) g = g
      on (Stuck e l) g = g

  pub keeps_cond : {A : Type 0} {P : A → Type 0} (b : Bool) {d e : Direct A} → Keeps q frames registers P d → Keeps q frames registers P e → Keeps q frames registers P (cond b d e)
  keeps_cond true h k = h
  keeps_cond false h k = k

  pub keeps_more : {A : Type 0} {P : A → Type 0} → Keeps q frames registers P (direct.stop {A = A} More)
  keeps_more = record { by = λ w r m k. (tt, m.1) }

  pub keeps_halt : {A : Type 0} {P : A → Type 0} (here : Here) (f : RunFault) → Keeps q frames registers P (direct.halt {A = A} here f)
  keeps_halt here f = record { by = λ w r m k. (refl, (step_fits q frames here (act.Halt f) w m tt, m.1)) }

  pub keeps_misuse : {A : Type 0} {P : A → Type 0} (here : Here) (f : RunFault) → Keeps q frames registers P (direct.misuse {A = A} here f)
  keeps_misuse here f = record { by = λ w r m k. (refl, (step_fits q frames here (act.Halt f) w m tt, m.1)) }

  -- the state that is seen is a fitting one
  pub keeps_get : Keeps q frames registers (λ s. MemoryFits (global_cells q) frames s.memory) direct.get
  keeps_get = record { by = λ w r m k. (m.0, m, k) }

  pub keeps_registers : Keeps q frames registers (RegistersFit registers) direct.registers
  keeps_registers = record { by = λ w r m k. (k, m, k) }

  pub keeps_emit : (here : Here) (a : Action) → ((frames : List Frame) → ActionFits q frames a) → Keeps q frames registers Always (direct.emit here a)
  keeps_emit here a h = record { by = λ w r m k. (tt, (m.0, (step_fits q frames here a w m (h w.memory.frames), m.1), m.2), k) }

  pub keeps_judge : (k : ℕ) (v : VerdictKind) (b : Bool) → Keeps q frames registers Always (direct.judge k v b)
  keeps_judge k v b = record { by = λ w r m l. (tt, (m.0, (tt, m.1), m.2), l) }

  pub keeps_put_ghosts : (x : Memory) → Keeps q frames registers Always (direct.put_ghosts x)
  keeps_put_ghosts x = record { by = λ w r m k. (tt, m, k) }

  pub keeps_put_input : (x : List ℕ) → Keeps q frames registers Always (direct.put_input x)
  keeps_put_input x = record { by = λ w r m k. (tt, m, k) }

  pub keeps_through : {P : Value → Type 0} {c : DirectCall} → CallKeeps q frames P c → Keeps q frames registers P (direct.through c)
  keeps_through {P = P} {c = c} h = record { by = λ w r m k. on (c w) r k (h.by w m) }
    where
      on : (o : CallGives) (r : Registers) → RegistersFit registers r → CallGivesFit q frames P o → GivesFit q frames registers P (after_call o r)
      on (Returned v w) r k g = (g.0, g.1, k)
      on (Ended e l) r k g = g
