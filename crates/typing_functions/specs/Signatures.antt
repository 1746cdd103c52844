-- What a declaration of a function may be, part by part.
use Rattle.std.specs.Prelude.{Bool, ◌&&◌, ◌||◌, not, ℕ, List, []}
use Rattle.step_meaning.specs.declared.value.CType.{CType}
use Rattle.step_meaning.specs.declared.program.Declared.{Declared as Named}
use Rattle.step_meaning.specs.declared.program.Function.{Function as CoreFunction}
use Rattle.step_meaning.specs.Types.{same_type}
use Rattle.step_meaning.specs.ExpressionTypes.{parameter_types}
use Rattle.step_meaning.specs.Library.{int}
use Rattle.typing_rules.specs.FileScope.{Program}
use Rattle.typing_rules.specs.Functions.{types_of, are_same, contradicts_earlier, is_variable, is_other_main, is_wrong_result, declares_allocation}

abbrev pub is_int_type : CType → Bool
is_int_type t = same_type t int

-- a function without parameters that gives an `int`
abbrev pub is_main_type : CType → List Named → Bool
is_main_type r ps = is_int_type r && are_same (types_of ps) []

abbrev pub differs : CoreFunction → CType → List Named → Bool
differs f r ps = not (same_type f.result r && are_same (parameter_types f) (types_of ps))

abbrev pub is_again : Program → List ℕ → CType → List Named → Bool → Bool
is_again p name r ps defined = is_variable p name || contradicts_earlier p name r ps defined

abbrev pub is_wrong : Program → List ℕ → CType → List Named → Bool → Bool
is_wrong p name r ps defined = is_other_main name r ps || is_wrong_result p (declares_allocation name defined) r
