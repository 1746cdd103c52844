-- The cells of a struct are those of its members, with the structs before it; and what is less in a member than in all.
use Rattle.std.proofs.Common.{◌≡◌, ℕ, zero, suc, ◌<◌, ◌≤◌, List, [], ◌∷◌, ◌++◌, length, take, drop, get_or, refl, sym, ap, ◌∙◌, arith}
use Rattle.std.specs.Prelude.{flat_map}
use Rattle.step_meaning.specs.declared.value.CType.TheVariants.{Array, Struct}
use Rattle.step_meaning.specs.declared.value.CType.TheBlock.{shape-the_row-CType-0, hidden-the_row-CType-0}
use denote.Hole.Carrier.{hidden}
use Rattle.step_meaning.specs.declared.value.CType.{CType}
use Rattle.step_meaning.specs.declared.program.Layout.{Layout}
use Rattle.step_meaning.specs.declared.program.Declared.{Declared}
use Rattle.step_meaning.specs.Types.{object_cells, times}
use Rattle.step_meaning.specs.TermSizes.{type_depth}
use Rattle.core_types.specs.Counts.{depths}
use Rattle.step_meaning.proofs.StructCells.{struct_at, struct_past}

split_at : (ls : List Layout) (n : ℕ) (d : Layout) → n < length ls → ls ≡ take n ls ++ get_or ls n d ∷ drop (suc n) ls
split_at [] n d h = absurd (omega arith)
split_at (l ∷ ls) zero d h = refl
split_at (l ∷ ls) (suc n) d h = ap (λ r. l ∷ r) (split_at ls n d (omega arith))

taken : (ls : List Layout) (n : ℕ) → n < length ls → length (take n ls) ≡ n
taken [] n h = absurd (omega arith)
taken (l ∷ ls) zero h = refl
taken (l ∷ ls) (suc n) h = ap suc (taken ls n (omega arith))

pub struct_members : (ls : List Layout) (n : ℕ) (d : Layout) → n < length ls
    → object_cells ls (Struct n) ≡ flat_map (λ m. object_cells (take n ls) m.ctype) (get_or ls n d).members
struct_members ls n d h =
    ap (λ x. object_cells x (Struct n)) (split_at ls n d h)
    ∙ ap (λ k. object_cells (take n ls ++ get_or ls n d ∷ drop (suc n) ls) (Struct k)) (sym (taken ls n h))
    ∙ struct_at (take n ls) (get_or ls n d) (drop (suc n) ls)

pub no_members : (ls : List Layout) (n : ℕ) → length ls ≤ n → object_cells ls (Struct n) ≡ []
no_members ls n h = struct_past ls n (omega arith)

pub array_elements : (ls : List Layout) (t : CType) (n : ℕ) → object_cells ls (Array t n) ≡ times n (object_cells ls t)
unfolding shape-the_row-CType-0 hidden-the_row-CType-0 hidden
array_elements ls t n = refl

pub member_depth : (ms : List Declared) (i : ℕ) (d : Declared) → i < length ms → type_depth (get_or ms i d).ctype ≤ depths ms
member_depth [] i d h = absurd (omega arith)
member_depth (m ∷ ms) zero d h = omega arith
member_depth (m ∷ ms) (suc i) d h = let below = member_depth ms i d (omega arith) in omega (arith, below)
