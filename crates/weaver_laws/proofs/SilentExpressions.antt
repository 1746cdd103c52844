-- Expressions that make no step: from the same memory and registers both programs come to the same.
use Rattle.std.proofs.Common.{◌≡◌, ℕ, Bool, true, false, cond, ◌&&◌, List, Option, Some, None, Result, Ok, Err, sym, subst, ap}
use Rattle.std.specs.Prelude.{ℤ}
use Rattle.step_meaning.specs.declared.value.CType.{CType}
use Rattle.step_meaning.specs.declared.value.Value.{Value}
use Rattle.step_meaning.specs.declared.value.Value.TheVariants as value
use Rattle.step_meaning.specs.declared.value.Cell.{Cell}
use Rattle.step_meaning.specs.declared.value.Cell.TheVariants.{Nothing, Holds}
use Rattle.step_meaning.specs.declared.value.RunFault.{RunFault}
use Rattle.step_meaning.specs.declared.value.RunFault.TheVariants as fault
use Rattle.step_meaning.specs.declared.value.Action.TheVariants as act
use Rattle.step_meaning.specs.declared.expr.Side.{Side}
use Rattle.step_meaning.specs.declared.expr.Side.TheVariants.{PointerFirst, PointerLast, Minus}
use Rattle.step_meaning.specs.declared.expr.UpdateOp.{UpdateOp}
use Rattle.step_meaning.specs.declared.expr.UpdateOp.TheVariants.{Integer, Forward, Backward}
use Rattle.step_meaning.specs.declared.expr.Variable.{Variable}
use Rattle.step_meaning.specs.declared.expr.Expr.{Expr, end_of-Expr, more_of-Expr}
use Rattle.step_meaning.specs.declared.expr.Expr.TheVariants.{Literal, Null, Load, Address, Convert', Unary', Binary', Compare', Move', Difference', Not', Both', Either', Choose', Assign', Update', Invoke', GetChar, PutChar', Malloc', Free', Discard', Own, Deref', Member', Index'}
use Rattle.step_meaning.specs.declared.expr.Place_.{Place_, end_of-Place_, more_of-Place_}
use Rattle.step_meaning.specs.declared.program.Layout.{Layout}
use Rattle.step_meaning.specs.Numbers.{binary_of}
use Rattle.step_meaning.specs.Names.{truth, of_truth, integer, moved, is_register_variable, name_in}
use Rattle.step_meaning.specs.Memory.{Memory, room_at}
use Rattle.step_meaning.specs.Steps.{Fault, Trace, Stop, Then}
use Rattle.step_meaning.specs.State.{State, Here, Registers, Lvalue, InRegister, At, designated, register_at, set_register}
use Rattle.step_meaning.specs.Flow.{Resting, RestingCall, resting, step_by}
use Rattle.step_meaning.specs.Accesses as acc
use Rattle.step_meaning.specs.Expressions.{eval, place}
use Rattle.step_meaning.specs.ExpressionTypes.{is_register}
use Rattle.step_meaning.specs.Normal.{is_silent, is_silent_place}
use Rattle.step_meaning.specs.Strict.{strict}
use Rattle.weaver_laws.proofs.Basics.{and_left, and_right}

no_false : false ≡ true → ⊥
no_false e = cc

module _ (here : Here) where
  pub record Silent {A : Type 0} (d d' : Resting A) : Type 1 where
    pub by : (s : State) (G : Memory) (r : Registers) (P : Trace → Trace → Type 0) (rest rest' : A → State → Registers → Trace)
        → ((a : A) (r' : Registers) → P (rest a s r') (rest' a (record s { ghosts = G }) r'))
        → ((f : RunFault) → P (Then (step_by here (act.Halt f) s.memory) (Stop (Fault f))) (Then (step_by here (act.Halt f) s.memory) (Stop (Fault f))))
        → ((u : Trace) → P (Stop (Fault fault.Invalid)) u)
        → P (d rest s r) (d' rest' (record s { ghosts = G }) r)

  silent_pure : {A : Type 0} (a : A) → Silent (strict.pure a) (resting.pure a)
  silent_pure a = record { by = λ s G r P rest rest' k halt none. k a r }

  silent_bind : {A B : Type 0} {d d' : Resting A} {f f' : A → Resting B} → Silent d d' → ((a : A) → Silent (f a) (f' a)) → Silent (strict.bind d f) (resting.bind d' f')
  silent_bind {f = f} {f' = f'} x y = record { by = λ s G r P rest rest' k halt none. x.by s G r P (λ a. f a rest) (λ a. f' a rest') (λ a r'. (y a).by s G r' P rest rest' k halt none) halt none }

  silent_halt : {A : Type 0} (f : RunFault) → Silent {A = A} (strict.halt here f) (resting.halt here f)
  silent_halt f = record { by = λ s G r P rest rest' k halt none. halt f }

  silent_misuse : {A : Type 0} (f : RunFault) → Silent {A = A} (strict.misuse here f) (resting.misuse here f)
  silent_misuse f = record { by = λ s G r P rest rest' k halt none. none _ }

  silent_impossible : {A : Type 0} → Silent {A = A} (acc.impossible strict) (acc.impossible resting)
  silent_impossible = record { by = λ s G r P rest rest' k halt none. none _ }

  silent_checked : {A : Type 0} (c : Result A RunFault) → Silent (acc.checked strict here c) (acc.checked resting here c)
  silent_checked (Ok a) = silent_pure a
  silent_checked (Err f) = silent_halt f

  silent_held : (c : Option Cell) → Silent (acc.held_register strict here c) (acc.held_register resting here c)
  silent_held None = silent_misuse fault.Invalid
  silent_held (Some Nothing) = silent_misuse fault.Uninit
  silent_held (Some (Holds v)) = silent_pure v

  silent_cond : {A : Type 0} (b : Bool) {d d' e e' : Resting A} → Silent d d' → Silent e e' → Silent (cond b d e) (cond b d' e')
  silent_cond true x y = x
  silent_cond false x y = y

  silent_int : (c : Result ℤ RunFault) → Silent (acc.as_int strict (acc.checked strict here c)) (acc.as_int resting (acc.checked resting here c))
  silent_int c = silent_bind (silent_checked c) (λ z. silent_pure (value.Int z))

  silent_truth : (c : Result Bool RunFault) → Silent (acc.as_truth strict (acc.checked strict here c)) (acc.as_truth resting (acc.checked resting here c))
  silent_truth c = silent_bind (silent_checked c) (λ b. silent_pure (of_truth b))

  silent_move : (v : Value) (by : ℤ) → Silent (acc.move_by strict here v by) (acc.move_by resting here v by)
  silent_move v by = record { by = λ s G r P rest rest' k halt none. (silent_checked (moved v (room_at s.memory v) by)).by s G r P rest rest' k halt none }

  silent_elements : (side : Side) (size : ℕ) (a b : Value) → Silent (acc.move_elements strict here side size a b) (acc.move_elements resting here side size a b)
  silent_elements PointerFirst size a b = silent_move a _
  silent_elements PointerLast size a b = silent_move b _
  silent_elements Minus size a b = silent_move a _

  silent_updated : (t : CType) (o : UpdateOp) (old v : Value) → Silent (acc.updated strict here t o old v) (acc.updated resting here t o old v)
  silent_updated t (Integer o k) old v = silent_bind {A = ℤ} (silent_bind {A = ℤ} (silent_checked (binary_of o k (acc.brought_to k t (integer old)) (integer v))) (λ z. silent_pure (acc.converted_to k t z))) (λ z. silent_pure (value.Int z))
  silent_updated t (Forward size) old v = silent_move old _
  silent_updated t (Backward size) old v = silent_move old _

  silent_address : (l : Lvalue) → Silent (acc.address_of strict l) (acc.address_of resting l)
  silent_address (InRegister i) = silent_impossible
  silent_address (At v) = silent_pure v

  silent_after : (l : Lvalue) (by : ℤ) → Silent (acc.object_after strict here l by) (acc.object_after resting here l by)
  silent_after l by = silent_bind (silent_address l) (λ v. silent_bind (silent_move v by) (λ w. silent_pure (At w)))

  silent_load : (t : CType) (i : ℕ) → Silent (acc.load strict here t (InRegister i)) (acc.load resting here t (InRegister i))
  silent_load t i = record { by = λ s G r P rest rest' k halt none. (silent_held (register_at r i t)).by s G r P rest rest' k halt none }

  silent_write : (i : ℕ) (v : Value) (c : Option Cell) → Silent (acc.write_register strict here i v c) (acc.write_register resting here i v c)
  silent_write i v None = silent_misuse fault.Invalid
  silent_write i v (Some c) = record { by = λ s G r P rest rest' k halt none. k v (set_register r i v) }

  silent_store : (t : CType) (i : ℕ) (v : Value) → Silent (acc.store strict here t (InRegister i) v) (acc.store resting here t (InRegister i) v)
  silent_store t i v = record { by = λ s G r P rest rest' k halt none. (silent_write i v (register_at r i t)).by s G r P rest rest' k halt none }

  module _ (layouts : List Layout) (source_call woven_call : ℕ → List Value → RestingCall) where
    abbrev pub source_value : Expr → Resting Value
    source_value = eval strict layouts source_call here

    abbrev pub woven_value : Expr → Resting Value
    woven_value = eval resting layouts woven_call here

    abbrev source_place : Place_ → Resting Lvalue
    source_place = place strict layouts source_call here

    abbrev woven_place : Place_ → Resting Lvalue
    woven_place = place resting layouts woven_call here

    in_register : (v : Variable) → is_register_variable v ≡ true → designated here.activation v 0 ≡ InRegister v.index
    in_register v e = ap (λ b. cond b (InRegister v.index) (At (value.Pointer (name_in here.activation v) 0))) e

    -- a register as an lvalue, and what uses it
    silent_register : {B : Type 0} (q : Place_) → is_register q ≡ true → (f f' : Lvalue → Resting B) → ((i : ℕ) → Silent (f (InRegister i)) (f' (InRegister i))) → Silent (strict.bind (source_place q) f) (resting.bind (woven_place q) f')
    silent_register (Own v) e f f' x = subst (λ l. Silent (f l) (f' l)) (sym (in_register v e)) (x v.index)
    silent_register (Deref' b d) e f f' x = absurd (no_false e)
    silent_register (Member' b d o) e f f' x = absurd (no_false e)
    silent_register (Index' b d c i n) e f f' x = absurd (no_false e)

    mutual
      pub silent_eval : (e : Expr) → is_silent e ≡ true → Silent (source_value e) (woven_value e)
      silent_eval (Literal k z) h = silent_pure _
      silent_eval Null h = silent_pure _
      silent_eval (Load q t) h = silent_register q h (acc.load strict here t) (acc.load resting here t) (λ i. silent_load t i)
      silent_eval (Address q t) h = silent_bind (silent_place q h) silent_address
      silent_eval (Convert' k b (more_of-Expr e end_of-Expr)) h = silent_bind (silent_eval e h) (λ v. silent_pure _)
      silent_eval (Unary' o k b (more_of-Expr e end_of-Expr)) h = silent_bind (silent_eval e h) (λ v. silent_int _)
      silent_eval (Binary' o k b (more_of-Expr e end_of-Expr) c (more_of-Expr f end_of-Expr)) h = silent_bind (silent_eval e (and_left (is_silent e) (is_silent f) h)) (λ v. silent_bind (silent_eval f (and_right (is_silent e) (is_silent f) h)) (λ w. silent_int _))
      silent_eval (Compare' o b (more_of-Expr e end_of-Expr) c (more_of-Expr f end_of-Expr)) h = silent_bind (silent_eval e (and_left (is_silent e) (is_silent f) h)) (λ v. silent_bind (silent_eval f (and_right (is_silent e) (is_silent f) h)) (λ w. silent_truth _))
      silent_eval (Move' b (more_of-Expr e end_of-Expr) c (more_of-Expr f end_of-Expr) size side) h = silent_bind (silent_eval e (and_left (is_silent e) (is_silent f) h)) (λ v. silent_bind (silent_eval f (and_right (is_silent e) (is_silent f) h)) (λ w. silent_elements side size v w))
      silent_eval (Difference' b (more_of-Expr e end_of-Expr) c (more_of-Expr f end_of-Expr) unit) h = silent_bind (silent_eval e (and_left (is_silent e) (is_silent f) h)) (λ v. silent_bind (silent_eval f (and_right (is_silent e) (is_silent f) h)) (λ w. silent_int _))
      silent_eval (Not' b (more_of-Expr e end_of-Expr)) h = silent_bind (silent_eval e h) (λ v. silent_pure _)
      silent_eval (Both' b (more_of-Expr e end_of-Expr) c (more_of-Expr f end_of-Expr)) h = silent_bind (silent_eval e (and_left (is_silent e) (is_silent f) h)) (λ v. silent_cond (truth v) (silent_bind (silent_eval f (and_right (is_silent e) (is_silent f) h)) (λ w. silent_pure _)) (silent_pure _))
      silent_eval (Either' b (more_of-Expr e end_of-Expr) c (more_of-Expr f end_of-Expr)) h = silent_bind (silent_eval e (and_left (is_silent e) (is_silent f) h)) (λ v. silent_cond (truth v) (silent_pure _) (silent_bind (silent_eval f (and_right (is_silent e) (is_silent f) h)) (λ w. silent_pure _)))
      silent_eval (Choose' b (more_of-Expr e end_of-Expr) c (more_of-Expr f end_of-Expr) d (more_of-Expr g end_of-Expr)) h =
          let more = and_right (is_silent e) (is_silent f && is_silent g) h in
          silent_bind (silent_eval e (and_left (is_silent e) (is_silent f && is_silent g) h)) (λ v. silent_cond (truth v) (silent_eval f (and_left (is_silent f) (is_silent g) more)) (silent_eval g (and_right (is_silent f) (is_silent g) more)))
      silent_eval (Assign' q t b (more_of-Expr e end_of-Expr)) h =
          silent_register q (and_left (is_register q) (is_silent e) h) (λ l. strict.bind (source_value e) (acc.store strict here t l)) (λ l. resting.bind (woven_value e) (acc.store resting here t l))
          (λ i. silent_bind (silent_eval e (and_right (is_register q) (is_silent e) h)) (λ v. silent_store t i v))
      silent_eval (Update' q t o b (more_of-Expr e end_of-Expr) w) h =
          silent_register q (and_left (is_register q) (is_silent e) h)
          (λ l. strict.bind (acc.load strict here t l) (λ old. strict.bind (source_value e) (λ v. strict.bind (acc.updated strict here t o old v) (λ new. strict.bind (acc.store strict here t l new) (λ x. strict.pure (acc.answer w old new))))))
          (λ l. resting.bind (acc.load resting here t l) (λ old. resting.bind (woven_value e) (λ v. resting.bind (acc.updated resting here t o old v) (λ new. resting.bind (acc.store resting here t l new) (λ x. resting.pure (acc.answer w old new))))))
          (λ i. silent_bind (silent_load t i) (λ old. silent_bind (silent_eval e (and_right (is_register q) (is_silent e) h)) (λ v. silent_bind (silent_updated t o old v) (λ new. silent_bind (silent_store t i new) (λ x. silent_pure _)))))
      silent_eval (Invoke' f b es) h = absurd (no_false h)
      silent_eval GetChar h = absurd (no_false h)
      silent_eval (PutChar' b (more_of-Expr e end_of-Expr)) h = absurd (no_false h)
      silent_eval (Malloc' b (more_of-Expr e end_of-Expr) t) h = absurd (no_false h)
      silent_eval (Free' b (more_of-Expr e end_of-Expr)) h = absurd (no_false h)
      silent_eval (Discard' b (more_of-Expr e end_of-Expr)) h = silent_bind (silent_eval e h) (λ v. silent_pure _)

      silent_place : (q : Place_) → is_silent_place q ≡ true → Silent (source_place q) (woven_place q)
      silent_place (Own v) h = silent_pure _
      silent_place (Deref' b (more_of-Expr e end_of-Expr)) h = silent_bind (silent_eval e h) (λ v. silent_pure _)
      silent_place (Member' b (more_of-Place_ q end_of-Place_) o) h = silent_bind (silent_place q h) (λ l. silent_after l _)
      silent_place (Index' b (more_of-Place_ q end_of-Place_) c (more_of-Expr e end_of-Expr) size) h = silent_bind (silent_place q (and_left (is_silent_place q) (is_silent e) h)) (λ l. silent_bind (silent_eval e (and_right (is_silent_place q) (is_silent e) h)) (λ i. silent_after l _))
