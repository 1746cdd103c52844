-- Lists of layers that code has.
use Rattle.std.proofs.Common.{◌≡◌, ℕ, zero, suc, ◌+◌, List, [], ◌∷◌, ◌++◌, map, Ok, refl, sym, ap, ◌∙◌, append_assoc, add-one}
use Rattle.std.specs.Prelude.{replicate}
use Rattle.typing_rules.specs.Checked.{◌>>=◌}
use Rattle.typing_rules.specs.Declarations as rules
use Rattle.typing_declarators.specs.declared.layer.Layer.{Layer}
use Rattle.typing_declarators.specs.Adding.{extended}
use Rattle.typing_declarators.specs.Layers.{layer}

map_layer_append : (xs ys : List Layer) → map layer (xs ++ ys) ≡ map layer xs ++ map layer ys
map_layer_append [] ys = refl
map_layer_append (x ∷ xs) ys = ap (λ zs. layer x ∷ zs) (map_layer_append xs ys)

nothing_after : {A : Type 0} (xs : List A) → xs ++ [] ≡ xs
nothing_after [] = refl
nothing_after (x ∷ xs) = ap (λ ys. x ∷ ys) (nothing_after xs)

pub nothing_more : {A : Type 0} (xs : List A) → extended xs (Ok []) ≡ Ok xs
unfolding extended
nothing_more xs = ap (λ ys. Ok ys) (nothing_after xs)

pub one_more : (old new : List Layer) (l : Layer) → new ≡ old ++ l ∷ [] → extended (map layer old) (Ok (layer l ∷ [])) ≡ Ok (map layer new)
unfolding extended
one_more old new l e = ap (λ xs. Ok xs) (sym (ap (map layer) e ∙ map_layer_append old (l ∷ [])))

replicate_more : {A : Type 0} (n : ℕ) (x : A) → replicate (n + 1) x ≡ replicate n x ++ x ∷ []
replicate_more n x = ap (λ k. replicate k x) (add-one n) ∙ more n
  where
    more : (n : ℕ) → replicate (suc n) x ≡ replicate n x ++ x ∷ []
    more zero = refl
    more (suc n) = ap (λ xs. x ∷ xs) (more n)

-- one star more
pub star_more : (first old new : List rules.Layer) (n : ℕ) → extended first (Ok (replicate n rules.Pointing)) ≡ Ok old → extended old (Ok (rules.Pointing ∷ [])) ≡ Ok new → extended first (Ok (replicate (n + 1) rules.Pointing)) ≡ Ok new
unfolding extended
star_more first old new n e f =
    ap (λ xs. Ok (first ++ xs)) (replicate_more n rules.Pointing)
    ∙ ap (λ xs. Ok xs) (sym (append_assoc first (replicate n rules.Pointing) (rules.Pointing ∷ [])))
    ∙ ap (λ c. c >>= (λ xs. Ok (xs ++ rules.Pointing ∷ []))) e ∙ f
