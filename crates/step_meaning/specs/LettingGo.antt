-- How deep what is still to be let go nests.
use Rattle.std.specs.Prelude.{ℕ, suc}
use Rattle.step_meaning.specs.declared.expr.Expr.{size-Expr}
use Rattle.step_meaning.specs.declared.expr.Place_.{size-Place_}
use Rattle.step_meaning.specs.declared.letting_go.Rest.{Rest}
use Rattle.step_meaning.specs.declared.letting_go.Rest.TheVariants.{Value, Lvalue, Nothing}

abbrev pub rest_size : Rest → ℕ
rest_size (Value e) = suc (size-Expr e)
rest_size (Lvalue p) = suc (size-Place_ p)
rest_size Nothing = 0
