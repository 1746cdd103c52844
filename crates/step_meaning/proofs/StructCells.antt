-- The cells of a struct are those of its members, with the structs before it.
use Rattle.std.proofs.Common.{◌≡◌, ℕ, zero, suc, ◌+◌, ◌<◌, List, [], ◌∷◌, ◌++◌, length, Some, None, refl, sym, ap, ◌∙◌, arith, length-append}
use Rattle.std.specs.Prelude.{slice_get, flat_map}
use Rattle.step_meaning.specs.declared.value.CType.{CType}
use Rattle.step_meaning.specs.declared.value.CType.TheVariants.{Struct}
use Rattle.step_meaning.specs.declared.program.Layout.{Layout}
use Rattle.step_meaning.specs.Types.{cell_types, struct_cells, or_empty, object_cells}

-- the scalar types of a struct's members, where those of earlier structs are given
abbrev pub member_cells : List (List CType) → Layout → List CType
member_cells before l = flat_map (λ d. cell_types before d.ctype) l.members

-- ---- lists

pub before_get : {A : Type 0} (b c : List A) (n : ℕ) → n < length b → slice_get (b ++ c) n ≡ slice_get b n
before_get [] c n h = absurd (omega arith)
before_get (x ∷ b) c zero h = refl
before_get (x ∷ b) c (suc n) h = before_get b c n (omega arith)

get_last : {A : Type 0} (b : List A) (x : A) → slice_get (b ++ x ∷ []) (length b) ≡ Some x
get_last [] x = refl
get_last (y ∷ b) x = get_last b x

-- ---- the cells of structs, one struct after another

pub chained : (b : List (List CType)) (xs ys : List Layout) → struct_cells b (xs ++ ys) ≡ struct_cells (struct_cells b xs) ys
chained b [] ys = refl
chained b (l ∷ xs) ys = chained (b ++ (member_cells b l ∷ [])) xs ys

pub counted : (b : List (List CType)) (xs : List Layout) → length (struct_cells b xs) ≡ length b + length xs
counted b [] = omega arith
counted b (l ∷ xs) = counted (b ++ (member_cells b l ∷ [])) xs ∙ omega (arith, length-append b (member_cells b l ∷ []))

pub kept : (b : List (List CType)) (ls : List Layout) (n : ℕ) → n < length b → slice_get (struct_cells b ls) n ≡ slice_get b n
kept b [] n h = refl
kept b (l ∷ ls) n h = kept (b ++ (member_cells b l ∷ [])) ls n (omega (arith, length-append b (member_cells b l ∷ []))) ∙ before_get b (member_cells b l ∷ []) n h

next_struct : (b : List (List CType)) (l : Layout) (ls : List Layout) → slice_get (struct_cells b (l ∷ ls)) (length b) ≡ Some (member_cells b l)
next_struct b l ls = kept (b ++ (member_cells b l ∷ [])) ls (length b) (omega (arith, length-append b (member_cells b l ∷ []))) ∙ get_last b (member_cells b l)

-- ---- one struct

pub struct_at : (xs : List Layout) (l : Layout) (ys : List Layout) → object_cells (xs ++ l ∷ ys) (Struct (length xs)) ≡ member_cells (struct_cells [] xs) l
struct_at xs l ys =
    let count : length (struct_cells [] xs) ≡ length xs = counted [] xs ∙ omega arith in
    ap (λ s. or_empty (slice_get s (length xs))) (chained [] xs (l ∷ ys))
    ∙ ap (λ n. or_empty (slice_get (struct_cells (struct_cells [] xs) (l ∷ ys)) n)) (sym count)
    ∙ ap or_empty (next_struct (struct_cells [] xs) l ys)

pub struct_past : (ls : List Layout) (n : ℕ) → length ls < suc n → object_cells ls (Struct n) ≡ []
struct_past ls n h = ap or_empty (past (struct_cells [] ls) n (omega (arith, counted [] ls)))
  where
    past : {A : Type 0} (b : List A) (n : ℕ) → length b < suc n → slice_get b n ≡ None
    past [] n h = refl
    past (x ∷ b) zero h = absurd (omega arith)
    past (x ∷ b) (suc n) h = past b n (omega arith)
