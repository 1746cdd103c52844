-- Lists that are joined.
use Rattle.std.proofs.Common.{rules, ◌≡◌, List, [], ◌∷◌, ◌++◌, map, refl, ap, append_assoc, append-nil}

pub map_join : {A B : Type 0} (f : A → B) (xs ys : List A) → map f (xs ++ ys) ≡ map f xs ++ map f ys
map_join f [] ys = refl
map_join f (x ∷ xs) ys = ap (λ zs. f x ∷ zs) (map_join f xs ys)

pub ruleset lists = (map_join, append_assoc, append-nil)
