-- What a declarator says of its name, as code has it: the size of an array is counted up to 2^32 - 1, which is above all limits, and stands still there.
use Rattle.std.specs.Prelude.{ℕ, min, List, map, Ok}
use Rattle.typing_rules.specs.Checked.{Checked, ◌>>=◌}
use Rattle.typing_rules.specs.Declarations as rules
use Rattle.typing_declarators.specs.declared.layer.Layer.{Layer}
use Rattle.typing_declarators.specs.declared.layer.Layer.TheVariants.{Pointing, Sized}

abbrev pub most_elements : ℕ
most_elements = 4294967295

abbrev pub layer : Layer → rules.Layer
layer Pointing = rules.Pointing
layer (Sized n) = rules.Sized n

abbrev pub counted : rules.Layer → rules.Layer
counted rules.Pointing = rules.Pointing
counted (rules.Sized n) = rules.Sized (min n most_elements)

unfoldable pub counted_layers : Checked (List rules.Layer) → Checked (List rules.Layer)
counted_layers c = c >>= (λ ls. Ok (map counted ls))

unfoldable pub counted_size : Checked ℕ → Checked ℕ
counted_size c = c >>= (λ n. Ok (min n most_elements))
