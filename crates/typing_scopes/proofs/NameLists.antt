-- Where names stand in a list of names.
use Rattle.std.proofs.Common.{◌≡◌, ◌+◌, Bool, false, not, cond, ◌||◌, List, [], ◌∷◌, ◌++◌, map, position, refl, sym, ap, ◌∙◌, if◌then◌else◌}
use Rattle.std.specs.List.{list_any, prefix_len}
use Rattle.std.proofs.lemmas.List.{length-map, map-append}

pub list_any-map : {X Y : Type 0} (p : X → Bool) (f : Y → X) (ys : List Y) → list_any p (map f ys) ≡ list_any (λ y. p (f y)) ys
list_any-map p f [] = refl
list_any-map p f (y ∷ ys) = ap (λ b. p (f y) || b) (list_any-map p f ys)

prefix_len-map : {X Y : Type 0} (p : X → Bool) (f : Y → X) (ys : List Y) → prefix_len p (map f ys) ≡ prefix_len (λ y. p (f y)) ys
prefix_len-map p f [] = refl
prefix_len-map p f (y ∷ ys) = ap (λ n. cond (p (f y)) (1 + n) 0) (prefix_len-map p f ys)

pub position-map : {X Y : Type 0} (p : X → Bool) (f : Y → X) (ys : List Y) → position p (map f ys) ≡ position (λ y. p (f y)) ys
position-map p f ys =
    let e = prefix_len-map (λ x. not (p x)) f ys in
    let n = length-map ys f in
    rw (e, n) refl

-- a new key goes last, as seen through f
pub map-push_new : {X Y : Type 0} (f : X → Y) (p : Y → Bool) (k : X) (ks new : List X) (seen : List Y) → map f ks ≡ seen → list_any p seen ≡ false
    → new ≡ (if list_any (λ x. p (f x)) ks then ks else ks ++ k ∷ []) → map f new ≡ seen ++ f k ∷ []
map-push_new f p k ks new seen e absent h =
    let none : list_any (λ x. p (f x)) ks ≡ false = sym (list_any-map p f ks) ∙ ap (list_any p) e ∙ absent in
    let last : new ≡ ks ++ k ∷ [] = h ∙ ap (λ b. if b then ks else ks ++ k ∷ []) none in
    ap (map f) last ∙ map-append f ks (k ∷ []) ∙ ap (λ xs. xs ++ f k ∷ []) e
