-- What an object of each type that code makes gives as a value, and what a pointer to it points to.
use Rattle.std.proofs.Common.{◌≡◌, refl, ℕ, Ok, Err, if◌then◌else◌}
use Rattle.c_lexer.specs.declared.token.Place.{Place}
use Rattle.step_meaning.specs.declared.value.IntKind.{IntKind}
use Rattle.step_meaning.specs.declared.value.CType.{CType}
use Rattle.step_meaning.specs.declared.value.CType.TheVariants.{Void, Int, Struct, Pointer, Array}
use Rattle.step_meaning.specs.declared.value.CType.TheBlock.{shape-the_row-CType-0, hidden-the_row-CType-0}
use denote.Hole.Carrier.{hidden}
use Rattle.step_meaning.specs.declared.expr.Expr.{Expr}
use Rattle.step_meaning.specs.declared.expr.Expr.TheVariants as e
use Rattle.step_meaning.specs.declared.expr.Place_.{Place_}
use Rattle.step_meaning.specs.ExpressionTypes.{is_void}
use Rattle.typing_rules.specs.declared.fault.TypeFault.TheVariants.{StructValue, Mismatch}
use Rattle.typing_rules.specs.Operands.{loaded, at_place, plain_value}
use Rattle.typing_rules.specs.Operators.{pointee}

pub load-Void : (at : Place) (p : Place_) → loaded at p Void ≡ Ok (plain_value at (e.Load p Void) Void)
unfolding loaded shape-the_row-CType-0 hidden-the_row-CType-0 hidden
load-Void at p = refl

pub load-Int : (at : Place) (p : Place_) (k : IntKind) → loaded at p (Int k) ≡ Ok (plain_value at (e.Load p (Int k)) (Int k))
unfolding loaded shape-the_row-CType-0 hidden-the_row-CType-0 hidden
load-Int at p k = refl

pub load-Pointer : (at : Place) (p : Place_) (t : CType) → loaded at p (Pointer t) ≡ Ok (plain_value at (e.Load p (Pointer t)) (Pointer t))
unfolding loaded shape-the_row-CType-0 hidden-the_row-CType-0 hidden
load-Pointer at p t = refl

pub load-Array : (at : Place) (p : Place_) (t : CType) (n : ℕ) → loaded at p (Array t n) ≡ Ok (plain_value at (e.Address p t) (Pointer t))
unfolding loaded shape-the_row-CType-0 hidden-the_row-CType-0 hidden
load-Array at p t n = refl

pub load-Struct : (at : Place) (p : Place_) (n : ℕ) → loaded at p (Struct n) ≡ Err (StructValue at)
unfolding loaded shape-the_row-CType-0 hidden-the_row-CType-0 hidden
load-Struct at p n = refl

pub ruleset loads = (load-Void, load-Int, load-Pointer, load-Array, load-Struct)

pub pointee-Pointer : (at : Place) (x : Expr) (t : CType) → pointee at at x (Pointer t) ≡ (if is_void t then Err (Mismatch at) else Ok (at_place at (e.Deref x) t))
unfolding shape-the_row-CType-0 hidden-the_row-CType-0 hidden
pointee-Pointer at x t = refl

pub pointee-Void : (at : Place) (x : Expr) → pointee at at x Void ≡ Err (Mismatch at)
unfolding shape-the_row-CType-0 hidden-the_row-CType-0 hidden
pointee-Void at x = refl

pub pointee-Int : (at : Place) (x : Expr) (k : IntKind) → pointee at at x (Int k) ≡ Err (Mismatch at)
unfolding shape-the_row-CType-0 hidden-the_row-CType-0 hidden
pointee-Int at x k = refl

pub pointee-Struct : (at : Place) (x : Expr) (n : ℕ) → pointee at at x (Struct n) ≡ Err (Mismatch at)
unfolding shape-the_row-CType-0 hidden-the_row-CType-0 hidden
pointee-Struct at x n = refl

pub pointee-Array : (at : Place) (x : Expr) (t : CType) (n : ℕ) → pointee at at x (Array t n) ≡ Err (Mismatch at)
unfolding shape-the_row-CType-0 hidden-the_row-CType-0 hidden
pointee-Array at x t n = refl

pub ruleset pointees = (pointee-Pointer, pointee-Void, pointee-Int, pointee-Struct, pointee-Array)
