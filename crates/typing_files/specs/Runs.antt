-- Steps over a list, in order, up to the first broken rule.
use Rattle.std.specs.Prelude.{List, [], ◌∷◌, Ok}
use Rattle.typing_rules.specs.Checked.{Checked, ◌>>=◌}

unfoldable pub run : {A X : Type 0} → (X → A → Checked A) → List X → A → Checked A
run step [] a = Ok a
run step (x ∷ xs) a = step x a >>= run step xs
