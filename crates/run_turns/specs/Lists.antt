-- Lists.
use Rattle.std.specs.Prelude.{List, [], ◌∷◌}

-- items in the other order, before more
abbrev pub reversed_onto : {A : Type 0} → List A → List A → List A
reversed_onto [] ys = ys
reversed_onto (x ∷ xs) ys = reversed_onto xs (x ∷ ys)
