-- Calls (C11 6.5.2.2, 6.8.6.4, 6.9.1, 5.1.2.2.3). At most so many activations are open as the bound says.
use Rattle.std.specs.Prelude.{ℕ, zero, suc, Bool, true, false, ◌==◌, pos, List, [], ◌∷◌, map, drop, slice_get, Option, Some, None}
use Rattle.step_meaning.specs.declared.value.CType.{CType}
use Rattle.step_meaning.specs.declared.value.CType.TheVariants as type
use Rattle.step_meaning.specs.declared.value.Value.{Value}
use Rattle.step_meaning.specs.declared.value.Value.TheVariants as value
use Rattle.step_meaning.specs.declared.value.Action.TheVariants as act
use Rattle.step_meaning.specs.declared.value.RunFault.TheVariants as fault
use Rattle.step_meaning.specs.declared.stmt.Stmt.{Stmt}
use Rattle.step_meaning.specs.declared.stmt.Stmt.TheVariants.{Ghost, Assert}
use Rattle.step_meaning.specs.declared.program.Core.{Core}
use Rattle.step_meaning.specs.declared.program.Function.{Function}
use Rattle.step_meaning.specs.declared.program.Layout.{Layout}
use Rattle.step_meaning.specs.Memory.{Memory, Frame, Block, empty_block, filled}
use Rattle.step_meaning.specs.Steps.{More}
use Rattle.step_meaning.specs.State.{Here, unset_registers}
use Rattle.step_meaning.specs.Flow.{Flow}
use Rattle.step_meaning.specs.Accesses.{impossible}
use Rattle.step_meaning.specs.Statements.{Completion, Next, Broken, Continued, Returned, exec_all}

-- ---- the annotations that begin a body run before its Enter step

-- they end at the first statement or declaration that is no annotation, the null statement included
abbrev pub annotations : List Stmt → List Stmt
annotations (Ghost g ∷ ss) = Ghost g ∷ annotations ss
annotations (Assert v k r ∷ ss) = Assert v k r ∷ annotations ss
annotations _ = []

abbrev pub after_annotations : List Stmt → List Stmt
after_annotations (Ghost g ∷ ss) = after_annotations ss
after_annotations (Assert v k r ∷ ss) = after_annotations ss
after_annotations ss = ss

-- ---- the variables of an activation

-- the parameters, which are the first locals, start with the arguments, all other locals with nothing
abbrev pub with_arguments : List Block → List Value → List Block
with_arguments bs [] = bs
with_arguments [] (v ∷ vs) = []
with_arguments (b ∷ bs) (v ∷ vs) = filled b (v ∷ []) ∷ with_arguments bs vs

abbrev pub first_frame : List Layout → Function → ℕ → List Value → Frame
first_frame layouts f a vs = record { activation = a; locals = with_arguments (map (empty_block layouts) f.locals) vs }

abbrev pub first_ghosts : List Layout → Function → ℕ → Frame
first_ghosts layouts f a = record { activation = a; locals = map (empty_block layouts) f.ghosts }

abbrev pub with_frame : Frame → Memory → Memory
with_frame f memory = record memory { frames = f ∷ memory.frames }

-- the memory without the innermost activation
abbrev pub without_frame : Memory → Memory
without_frame memory = record memory { frames = drop 1 memory.frames }

-- a function without a value gives 0 to its caller, which doesn't use it
abbrev pub value_or_zero : Option Value → Value
value_or_zero None = value.Int (pos 0)
value_or_zero (Some v) = v

module _ (F : Flow) where
  -- all variables of the function, those of inner blocks too, begin to live
  abbrev pub open_frame : List Layout → Function → List Value → F.Does (Unit {0})
  open_frame layouts f vs = F.bind F.get (λ s.
      F.bind (F.put_memory (with_frame (first_frame layouts f s.made vs) s.memory)) (λ u.
      F.bind (F.put_ghosts (with_frame (first_ghosts layouts f s.made) s.ghosts)) (λ u.
      F.put_made (suc s.made))))

  abbrev pub close_frame : F.Does (Unit {0})
  close_frame = F.bind F.get (λ s. F.bind (F.put_memory (without_frame s.memory)) (λ u. F.put_ghosts (without_frame s.ghosts)))

  -- ---- what is given back

  -- `return` has a value exactly where the function has one (C11 6.8.6.4, 1)
  abbrev pub returned : CType → Option Value → F.Does (Option Value)
  returned type.Void None = F.pure None
  returned type.Void (Some v) = impossible F
  returned t None = impossible F
  returned t (Some v) = F.pure (Some v)

  -- the `}` of `main` returns 0, that of another function without a value returns (C11 5.1.2.2.3, 6.9.1, 12)
  abbrev pub fallen_off : Here → Bool → CType → F.Does (Option Value)
  fallen_off here true t = F.pure (Some (value.Int (pos 0)))
  fallen_off here false type.Void = F.pure None
  fallen_off here false t = F.halt here fault.NoReturn

  -- what a body gives back that was left in this way. No body is left by `break` or `continue` (C11 6.8.6.2, 6.8.6.3)
  abbrev pub given_back : Here → Bool → CType → Completion → F.Does (Option Value)
  given_back here is_main t (Returned v) = returned t v
  given_back here is_main t Next = fallen_off here is_main t
  given_back here is_main t Broken = impossible F
  given_back here is_main t Continued = impossible F

  module _ (q : Core) (bound : ℕ) where
    -- one activation of function g with this body, whose number is the count of activations before it. Calls in it are made by `call`
    abbrev pub activation : (ℕ → List Value → F.Plain) → ℕ → Function → List Stmt → List Value → F.Does Value
    activation call g f body vs =
        F.bind F.get (λ s.
        let here : Here = record { function = g; activation = s.made } in
        F.bind (open_frame q.layouts f vs) (λ u.
        F.bind (exec_all F q.layouts call here bound (annotations body)) (λ c.
        F.bind (F.emit here (act.Enter g vs)) (λ u.
        F.bind (exec_all F q.layouts call here bound (after_annotations body)) (λ c.
        F.bind (given_back here (g == q.start) f.result c) (λ v.
        F.bind (F.emit here (act.Return g v)) (λ u.
        F.bind close_frame (λ u.
        F.pure (value_or_zero v)))))))))

    -- each function that is called has a body
    abbrev pub call_body : (ℕ → List Value → F.Plain) → ℕ → Function → Option (List Stmt) → List Value → F.Plain
    call_body call g f None vs = F.alone [] (impossible F)
    call_body call g f (Some body) vs = F.alone (unset_registers f.registers) (activation call g f body vs)

    abbrev pub call_of : (ℕ → List Value → F.Plain) → ℕ → Option Function → List Value → F.Plain
    call_of call g None vs = F.alone [] (impossible F)
    call_of call g (Some f) vs = call_body call g f f.body vs

    -- a call where n more activations may be open. Where one more would be, the bound is spent
    abbrev pub calls : ℕ → ℕ → List Value → F.Plain
    calls zero g vs = F.alone [] (F.stop More)
    calls (suc n) g vs = call_of (calls n) g (slice_get q.functions g) vs
