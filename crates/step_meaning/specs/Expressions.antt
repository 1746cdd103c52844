-- What an expression does, and its value (C11 6.5). Operands and arguments are evaluated from left to right.
-- An expression of type `void` has the value 0, which nothing uses.
use Rattle.std.specs.Prelude.{ℕ, true, false, not, cond, pos, ◌*ℤ◌, List, [], ◌∷◌}
use Rattle.step_meaning.specs.declared.value.Value.{Value}
use Rattle.step_meaning.specs.declared.value.Value.TheVariants as value
use Rattle.step_meaning.specs.declared.value.Action.TheVariants as act
use Rattle.step_meaning.specs.declared.expr.Expr.{Expr, Row_of-Expr, end_of-Expr, more_of-Expr}
use Rattle.step_meaning.specs.declared.expr.Expr.TheVariants.{Literal, Null, Load, Address, Convert', Unary', Binary', Compare', Move', Difference', Not', Both', Either', Choose', Assign', Update', Invoke', GetChar, PutChar', Malloc', Free', Discard', Own, Deref', Member', Index'}
use Rattle.step_meaning.specs.declared.expr.Place_.{Place_, end_of-Place_, more_of-Place_}
use Rattle.step_meaning.specs.declared.program.Layout.{Layout}
use Rattle.step_meaning.specs.Numbers.{converted, binary_of, unary_of}
use Rattle.step_meaning.specs.Names.{truth, of_truth, integer, distance, compared}
use Rattle.step_meaning.specs.State.{Here, Lvalue, At, designated}
use Rattle.step_meaning.specs.Flow.{Flow}
use Rattle.step_meaning.specs.Allocation.{allocate, release}
use Rattle.step_meaning.specs.Accesses.{checked, load, store, address_of, object_after, as_int, as_truth, move_elements, updated, answer, get_char, put_char}

-- in a program with these structs. `call` is what a call does, of a function by its number with its arguments
module _ (F : Flow) (layouts : List Layout) (call : ℕ → List Value → F.Plain) (here : Here) where
  abbrev mutual
    pub eval : Expr → F.Does Value
    eval (Literal k z) = F.pure (value.Int z)
    eval Null = F.pure value.Null
    eval (Load p t) = F.bind (place p) (load F here t)
    eval (Address p t) = F.bind (place p) (address_of F)
    eval (Convert' k b (more_of-Expr e end_of-Expr)) = F.bind (eval e) (λ v. F.pure (value.Int (converted k (integer v))))
    eval (Unary' o k b (more_of-Expr e end_of-Expr)) = F.bind (eval e) (λ v. as_int F (checked F here (unary_of o k (integer v))))
    eval (Binary' o k b (more_of-Expr e end_of-Expr) c (more_of-Expr f end_of-Expr)) = F.bind (eval e) (λ v. F.bind (eval f) (λ w. as_int F (checked F here (binary_of o k (integer v) (integer w)))))
    eval (Compare' o b (more_of-Expr e end_of-Expr) c (more_of-Expr f end_of-Expr)) = F.bind (eval e) (λ v. F.bind (eval f) (λ w. as_truth F (checked F here (compared o v w))))
    eval (Move' b (more_of-Expr e end_of-Expr) c (more_of-Expr f end_of-Expr) size side) = F.bind (eval e) (λ v. F.bind (eval f) (λ w. move_elements F here side size v w))
    eval (Difference' b (more_of-Expr e end_of-Expr) c (more_of-Expr f end_of-Expr) unit) = F.bind (eval e) (λ v. F.bind (eval f) (λ w. as_int F (checked F here (distance v w unit))))
    eval (Not' b (more_of-Expr e end_of-Expr)) = F.bind (eval e) (λ v. F.pure (of_truth (not (truth v))))
    -- the second operand only where it decides
    eval (Both' b (more_of-Expr e end_of-Expr) c (more_of-Expr f end_of-Expr)) = F.bind (eval e) (λ v. cond (truth v) (F.bind (eval f) (λ w. F.pure (of_truth (truth w)))) (F.pure (of_truth false)))
    eval (Either' b (more_of-Expr e end_of-Expr) c (more_of-Expr f end_of-Expr)) = F.bind (eval e) (λ v. cond (truth v) (F.pure (of_truth true)) (F.bind (eval f) (λ w. F.pure (of_truth (truth w)))))
    eval (Choose' b (more_of-Expr e end_of-Expr) c (more_of-Expr f end_of-Expr) d (more_of-Expr g end_of-Expr)) = F.bind (eval e) (λ v. cond (truth v) (eval f) (eval g))
    -- the left place with its address, then the right side, then the write
    eval (Assign' p t b (more_of-Expr e end_of-Expr)) = F.bind (place p) (λ l. F.bind (eval e) (store F here t l))
    -- the address, the read, the right side, the operation with its conversions, the write
    eval (Update' p t o b (more_of-Expr e end_of-Expr) w) = F.bind (place p) (λ l. F.bind (load F here t l) (λ old. F.bind (eval e) (λ v. F.bind (updated F here t o old v) (λ new. F.bind (store F here t l new) (λ written. F.pure (answer w old new))))))
    eval (Invoke' f b es) = F.bind (all es) (λ vs. F.bind (F.emit here (act.Call f)) (λ u. F.through (call f vs)))
    eval GetChar = get_char F here
    eval (PutChar' b (more_of-Expr e end_of-Expr)) = F.bind (eval e) (put_char F here)
    -- the operand, the step, then the effect
    eval (Malloc' b (more_of-Expr e end_of-Expr) t) = F.bind (eval e) (allocate F here layouts t)
    eval (Free' b (more_of-Expr e end_of-Expr)) = F.bind (eval e) (release F here)
    eval (Discard' b (more_of-Expr e end_of-Expr)) = F.bind (eval e) (λ v. F.pure (value.Int (pos 0)))

    -- what an lvalue designates
    pub place : Place_ → F.Does Lvalue
    place (Own v) = F.pure (designated here.activation v 0)
    place (Deref' b (more_of-Expr e end_of-Expr)) = F.bind (eval e) (λ p. F.pure (At p))
    place (Member' b (more_of-Place_ p end_of-Place_) o) = F.bind (place p) (λ l. object_after F here l (pos o))
    -- the array, then the index, then the address
    place (Index' b (more_of-Place_ p end_of-Place_) c (more_of-Expr e end_of-Expr) size) = F.bind (place p) (λ l. F.bind (eval e) (λ i. object_after F here l (integer i *ℤ pos size)))

    -- from left to right
    pub all : {n : _} → Row_of-Expr n → F.Does (List Value)
    all end_of-Expr = F.pure []
    all (more_of-Expr e more) = F.bind (eval e) (λ v. F.bind (all more) (λ vs. F.pure (v ∷ vs)))
