-- Sizes by the parts of a type, and why the taking apart ends.
use Rattle.std.proofs.Common.{◌≡◌, ℕ, zero, suc, ◌+◌, ◌*◌, ◌<◌, ◌≤◌, List, [], ◌∷◌, ◌++◌, length, take, drop, get_or, refl, sym, ap, ◌∙◌, arith, length-append}
use Rattle.std.specs.Prelude.{flat_map}
use Rattle.step_meaning.specs.declared.value.CType.{CType, end_of-CType, more_of-CType}
use Rattle.step_meaning.specs.declared.value.CType.TheVariants.{Void, Int, Pointer', Array, Array', Struct}
use Rattle.step_meaning.specs.declared.value.CType.TheBlock.{shape-the_row-CType-0, hidden-the_row-CType-0}
use denote.Hole.Carrier.{hidden}
use Rattle.step_meaning.specs.declared.program.Layout.{Layout}
use Rattle.step_meaning.specs.Types.{times, object_cells}
use Rattle.step_meaning.specs.TermSizes.{type_depth}
use Rattle.core_types.specs.Counts.{depths, bulk}
use Rattle.step_meaning.proofs.StructCells.{struct_at, struct_past}

pub times_length : (n : ℕ) (xs : List CType) → length (times n xs) ≡ n * length xs
times_length zero xs = omega arith
times_length (suc n) xs = length-append xs (times n xs) ∙ ap (λ k. length xs + k) (times_length n xs) ∙ grind arith

pub array_size : (ls : List Layout) (t : CType) (n : ℕ) → length (object_cells ls (Array t n)) ≡ n * length (object_cells ls t)
unfolding shape-the_row-CType-0 hidden-the_row-CType-0 hidden
array_size ls t n = times_length n (object_cells ls t)

pub array_depth : (t : CType) (n : ℕ) → type_depth (Array t n) ≡ suc (type_depth t)
unfolding shape-the_row-CType-0 hidden-the_row-CType-0 hidden
array_depth t n = refl

pub some_depth : (t : CType) → 0 < type_depth t
some_depth Void = omega arith
some_depth (Int k) = omega arith
some_depth (Pointer' b (more_of-CType u end_of-CType)) = omega arith
some_depth (Array' b (more_of-CType u end_of-CType) n) = omega arith
some_depth (Struct n) = omega arith

-- a struct and those before it are less than all
pub part_of_bulk : (ls : List Layout) (n : ℕ) (d : Layout) → n < length ls → depths (get_or ls n d).members + bulk (take n ls) < bulk ls
part_of_bulk [] n d h = absurd (omega arith)
part_of_bulk (l ∷ ls) zero d h = omega arith
part_of_bulk (l ∷ ls) (suc n) d h = let i = part_of_bulk ls n d (omega arith) in omega (arith, i)

split_at : (ls : List Layout) (n : ℕ) (d : Layout) → n < length ls → ls ≡ take n ls ++ get_or ls n d ∷ drop (suc n) ls
split_at [] n d h = absurd (omega arith)
split_at (l ∷ ls) zero d h = refl
split_at (l ∷ ls) (suc n) d h = ap (λ r. l ∷ r) (split_at ls n d (omega arith))

taken : (ls : List Layout) (n : ℕ) → n < length ls → length (take n ls) ≡ n
taken [] n h = absurd (omega arith)
taken (l ∷ ls) zero h = refl
taken (l ∷ ls) (suc n) h = ap suc (taken ls n (omega arith))

pub struct_size : (ls : List Layout) (n : ℕ) (d : Layout) → n < length ls
    → length (object_cells ls (Struct n)) ≡ length (flat_map (λ m. object_cells (take n ls) m.ctype) (get_or ls n d).members)
struct_size ls n d h =
    ap (λ x. length (object_cells x (Struct n))) (split_at ls n d h)
    ∙ ap (λ k. length (object_cells (take n ls ++ get_or ls n d ∷ drop (suc n) ls) (Struct k))) (sym (taken ls n h))
    ∙ ap length (struct_at (take n ls) (get_or ls n d) (drop (suc n) ls))

pub no_struct : (ls : List Layout) (n : ℕ) → length ls ≤ n → length (object_cells ls (Struct n)) ≡ 0
no_struct ls n h = ap length (struct_past ls n (omega arith))
