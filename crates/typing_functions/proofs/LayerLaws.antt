-- The layers of parameters without name.
use Rattle.std.proofs.Common.{◌≡◌, ℕ, zero, suc, List, [], ◌∷◌, ◌++◌, map, Ok, Err, refl, ap, ◌∙◌}
use Rattle.std.specs.Prelude.{replicate}
use Rattle.typing_rules.specs.Checked.{Checked}
use Rattle.typing_rules.specs.Environment.{Environment}
use Rattle.typing_rules.specs.Syntax.{Modifier, PointerTo}
use Rattle.typing_rules.specs.Declarations.{Layer, Pointing, layers}
use Rattle.typing_declarators.specs.Layers.{counted, counted_layers}
use Rattle.typing_declarators.proofs.LayerLaws.{joined, layers_append, stars_layers}

map_append : (xs ys : List Layer) → map counted (xs ++ ys) ≡ map counted xs ++ map counted ys
map_append [] ys = refl
map_append (x ∷ xs) ys = ap (λ zs. counted x ∷ zs) (map_append xs ys)

counted_joined : (a b : Checked (List Layer)) → counted_layers (joined a b) ≡ joined (counted_layers a) (counted_layers b)
unfolding counted_layers
counted_joined (Ok xs) (Ok ys) = ap Ok (map_append xs ys)
counted_joined (Ok xs) (Err e) = refl
counted_joined (Err e) b = refl

counted_stars : (k : ℕ) → map counted (replicate k Pointing) ≡ replicate k Pointing
counted_stars zero = refl
counted_stars (suc k) = ap (λ ls. Pointing ∷ ls) (counted_stars k)

stars_counted : (k : ℕ) → counted_layers (Ok (replicate k Pointing)) ≡ Ok (replicate k Pointing)
unfolding counted_layers
stars_counted k = ap Ok (counted_stars k)

pub with_stars : (g : Environment) (ms : List Modifier) (k : ℕ) → counted_layers (layers g 1 (ms ++ replicate k PointerTo)) ≡ joined (counted_layers (layers g 1 ms)) (Ok (replicate k Pointing))
with_stars g ms k =
    ap counted_layers (layers_append g 1 ms (replicate k PointerTo) ∙ ap (joined (layers g 1 ms)) (stars_layers g 1 k))
    ∙ counted_joined (layers g 1 ms) (Ok (replicate k Pointing))
    ∙ ap (joined (counted_layers (layers g 1 ms))) (stars_counted k)
