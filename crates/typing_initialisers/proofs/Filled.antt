-- Cells that are filled up, element by element and member by member.
use Rattle.std.proofs.Common.{◌≡◌, ℕ, zero, suc, ◌+◌, ◌≤◌, ◌<◌, List, [], ◌∷◌, ◌++◌, map, take, drop, length, get_or, Ok, refl, sym, ap, ◌∙◌, append_assoc, add-one, arith}
use Rattle.std.specs.Prelude.{flat_map}
use Rattle.step_meaning.specs.declared.value.CType.{CType}
use Rattle.step_meaning.specs.declared.value.CType.TheVariants.{Struct, Array}
use Rattle.step_meaning.specs.declared.value.CType.TheBlock.{shape-the_row-CType-0, hidden-the_row-CType-0}
use denote.Hole.Carrier.{hidden}
use Rattle.step_meaning.specs.declared.program.Layout.{Layout}
use Rattle.step_meaning.specs.declared.program.Declared.{Declared}
use Rattle.step_meaning.specs.TermSizes.{type_depth}
use Rattle.step_meaning.specs.Types.{times, object_cells}
use Rattle.step_meaning.proofs.StructCells.{struct_at, struct_past}
use Rattle.core_types.specs.Counts.{depths}
use Rattle.typing_declarators.specs.Adding.{extended}
use Rattle.typing_declarators.proofs.LayerLaws.{adds_then}

pub member_depth : (ds : List Declared) (i : ℕ) (d : Declared) → i < length ds → type_depth (get_or ds i d).ctype ≤ depths ds
member_depth [] i d h = absurd (omega arith)
member_depth (e ∷ ds) zero d h = omega arith
member_depth (e ∷ ds) (suc i) d h = let inner = member_depth ds i d (omega arith) in omega arith

map_append : {A B : Type 0} (f : A → B) (xs ys : List A) → map f (xs ++ ys) ≡ map f xs ++ map f ys
map_append f [] ys = refl
map_append f (x ∷ xs) ys = ap (λ zs. f x ∷ zs) (map_append f xs ys)

nothing_after : {A : Type 0} (xs : List A) → xs ++ [] ≡ xs
nothing_after [] = refl
nothing_after (x ∷ xs) = ap (λ ys. x ∷ ys) (nothing_after xs)

times_more : {A : Type 0} (n : ℕ) (xs : List A) → times (n + 1) xs ≡ times n xs ++ xs
times_more n xs = ap (λ k. times k xs) (add-one n) ∙ more n
  where
    more : (n : ℕ) → times (suc n) xs ≡ times n xs ++ xs
    more zero = nothing_after xs
    more (suc n) = ap (λ ys. xs ++ ys) (more n) ∙ sym (append_assoc xs (times n xs) xs)

flat_map_more : {A B : Type 0} (f : A → List B) (xs : List A) (i : ℕ) (x : A) → i < length xs → flat_map f (take (i + 1) xs) ≡ flat_map f (take i xs) ++ f (get_or xs i x)
flat_map_more {A = A} f xs i x h = ap (λ k. flat_map f (take k xs)) (add-one i) ∙ more xs i h
  where
    more : (xs : List A) (i : ℕ) → i < length xs → flat_map f (take (suc i) xs) ≡ flat_map f (take i xs) ++ f (get_or xs i x)
    more [] i h = absurd (omega arith)
    more (y ∷ xs) zero h = nothing_after (f y)
    more (y ∷ xs) (suc i) h = ap (λ ys. f y ++ ys) (more xs i (omega arith)) ∙ sym (append_assoc (f y) (flat_map f (take i xs)) (f (get_or xs i x)))

module _ {T : Type 0} (fill : CType → T) where
  pub one_element_more : (xs : List CType) (n : ℕ) (first old new : List T) → extended first (Ok (map fill (times n xs))) ≡ Ok old → extended old (Ok (map fill xs)) ≡ Ok new → extended first (Ok (map fill (times (n + 1) xs))) ≡ Ok new
  one_element_more xs n first old new e h =
      ap (λ ys. extended first (Ok ys)) (ap (map fill) (times_more n xs) ∙ map_append fill (times n xs) xs)
      ∙ adds_then (Ok (map fill (times n xs))) (Ok (map fill xs)) first old new (Ok tt) e h

  pub one_member_more : (f : Declared → List CType) (ds : List Declared) (i : ℕ) (d : Declared) (first old new : List T) → i < length ds → extended first (Ok (map fill (flat_map f (take i ds)))) ≡ Ok old → extended old (Ok (map fill (f (get_or ds i d)))) ≡ Ok new → extended first (Ok (map fill (flat_map f (take (i + 1) ds)))) ≡ Ok new
  one_member_more f ds i d first old new l e h =
      ap (λ ys. extended first (Ok ys)) (ap (map fill) (flat_map_more f ds i d l) ∙ map_append fill (flat_map f (take i ds)) (f (get_or ds i d)))
      ∙ adds_then (Ok (map fill (flat_map f (take i ds)))) (Ok (map fill (f (get_or ds i d)))) first old new (Ok tt) e h

-- ---- structs

split_at : (ls : List Layout) (n : ℕ) (d : Layout) → n < length ls → ls ≡ take n ls ++ get_or ls n d ∷ drop (suc n) ls
split_at [] n d h = absurd (omega arith)
split_at (l ∷ ls) zero d h = refl
split_at (l ∷ ls) (suc n) d h = ap (λ r. l ∷ r) (split_at ls n d (omega arith))

taken : (ls : List Layout) (n : ℕ) → n < length ls → length (take n ls) ≡ n
taken [] n h = absurd (omega arith)
taken (l ∷ ls) zero h = refl
taken (l ∷ ls) (suc n) h = ap suc (taken ls n (omega arith))

-- the cells of a struct are those of its members, with the structs before it
pub struct_there : (ls : List Layout) (n : ℕ) (d : Layout) → n < length ls → object_cells ls (Struct n) ≡ flat_map (λ m. object_cells (take n ls) m.ctype) (get_or ls n d).members
struct_there ls n d h =
    ap (λ x. object_cells x (Struct n)) (split_at ls n d h)
    ∙ ap (λ k. object_cells (take n ls ++ get_or ls n d ∷ drop (suc n) ls) (Struct k)) (sym (taken ls n h))
    ∙ struct_at (take n ls) (get_or ls n d) (drop (suc n) ls)

pub no_struct : (ls : List Layout) (n : ℕ) → length ls ≤ n → object_cells ls (Struct n) ≡ []
no_struct ls n h = struct_past ls n (omega arith)

pub array_there : (ls : List Layout) (t : CType) (n : ℕ) → object_cells ls (Array t n) ≡ times n (object_cells ls t)
unfolding shape-the_row-CType-0 hidden-the_row-CType-0 hidden
array_there ls t n = refl

pub one_cell : {T : Type 0} (old new : List T) (x : T) → new ≡ old ++ x ∷ [] → extended old (Ok (x ∷ [])) ≡ Ok new
unfolding extended
one_cell old new x e = ap (λ xs. Ok xs) (sym e)
