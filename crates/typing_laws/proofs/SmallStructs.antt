-- Structs that are declared within the limit are small.
use Rattle.std.proofs.Common.{◌≡◌, ℕ, suc, ◌≤◌, true, List, [], ◌∷◌, ◌++◌, length, flat_map, sum_by, Option, Some, None, refl, sym, ap, subst, arith, append_assoc}
use Rattle.std.specs.Prelude.{slice_get}
use Rattle.std.specs.List.{list_all, AllByRecursion}
use Rattle.std.proofs.lemmas.Bool.{leb-true}
use Rattle.std.proofs.lemmas.List.Concat.{length-flat_map}
use Rattle.std.proofs.lemmas.List.Sums.{sum_by-cons}
use Rattle.step_meaning.specs.declared.value.CType.{CType}
use Rattle.step_meaning.specs.declared.program.Declared.{Declared}
use Rattle.step_meaning.specs.declared.program.Layout.{Layout}
use Rattle.step_meaning.specs.Types.{cell_types, struct_cells, or_empty}
use Rattle.step_meaning.specs.TypeRules.{cells, most_cells}
use Rattle.step_meaning.proofs.Ranges.{left_of_and, right_of_and}
use Rattle.step_meaning.proofs.TypedMemory.{WhereSome, get_fits}
use Rattle.step_meaning.proofs.TypedSizes.{last_struct}
use Rattle.typing_laws.specs.SmallTypes.{IsSmallType, HasSmallMembers, StructsAreSmall, member_cells}
use Rattle.typing_laws.specs.SmallPrograms.{is_small_object, is_small_struct, are_small_structs}
use Rattle.typing_laws.proofs.LaterTypes.{complete_cells, still_within}

-- ---- a struct's cells

abbrev HasFewCells : List CType → Type 0
HasFewCells ts = length ts ≤ most_cells

each_last : (xs : List (List CType)) (ts : List CType) → AllByRecursion HasFewCells xs → HasFewCells ts → AllByRecursion HasFewCells (xs ++ (ts ∷ []))
each_last [] ts h k = (k, tt)
each_last (x ∷ xs) ts h k = (h.0, each_last xs ts h.1 k)

struct_small : (before : List Layout) (l : Layout) → is_small_struct before l ≡ true → length (flat_map (λ d. cell_types (struct_cells [] before) d.ctype) l.members) ≤ most_cells
struct_small before l e = rw (length-flat_map (λ d. cell_types (struct_cells [] before) d.ctype) l.members) (leb-true (sum_by (λ d. cells before d.ctype) l.members) most_cells (right_of_and _ _ e))

structs_small : (before ls : List Layout) → AllByRecursion HasFewCells (struct_cells [] before) → are_small_structs before ls ≡ true → AllByRecursion HasFewCells (struct_cells (struct_cells [] before) ls)
structs_small before [] h e = h
structs_small before (l ∷ ls) h e =
    subst (λ s. AllByRecursion HasFewCells (struct_cells s ls)) (last_struct [] before l)
    (structs_small (before ++ (l ∷ [])) ls
    (subst (AllByRecursion HasFewCells) (sym (last_struct [] before l)) (each_last (struct_cells [] before) _ h (struct_small before l (left_of_and _ _ e))))
    (right_of_and _ _ e))

few_cells : (o : Option (List CType)) → WhereSome HasFewCells o → HasFewCells (or_empty o)
few_cells None h = omega arith
few_cells (Some ts) h = h

-- ---- the members of structs

members_later : (before more : List Layout) (known : ℕ) (ds : List Declared) → list_all (λ d. is_small_object before known d.ctype) ds ≡ true → sum_by (λ d. cells (before ++ more) d.ctype) ds ≡ sum_by (λ d. cells before d.ctype) ds
members_later before more known [] e = refl
members_later before more known (d ∷ ds) e =
    let first : cells (before ++ more) d.ctype ≡ cells before d.ctype = ap length (complete_cells before more known d.ctype (left_of_and _ _ (left_of_and _ _ e))) in
    let rest : sum_by (λ d. cells (before ++ more) d.ctype) ds ≡ sum_by (λ d. cells before d.ctype) ds = members_later before more known ds (right_of_and _ _ e) in
    rw (sum_by-cons (λ d. cells (before ++ more) d.ctype) d ds, sum_by-cons (λ d. cells before d.ctype) d ds, first, rest) refl

types_later : (before more : List Layout) (known : ℕ) (ds : List Declared) → list_all (λ d. is_small_object before known d.ctype) ds ≡ true → AllByRecursion (λ d. IsSmallType (before ++ more) d.ctype) ds
types_later before more known [] e = tt
types_later before more known (d ∷ ds) e =
    (still_within before more known d.ctype (left_of_and _ _ (left_of_and _ _ e)) (right_of_and _ _ (left_of_and _ _ e)), types_later before more known ds (right_of_and _ _ e))

each_members : (before ls : List Layout) → are_small_structs before ls ≡ true → AllByRecursion (λ l. member_cells (before ++ ls) l ≤ most_cells) ls
each_members before [] e = tt
each_members before (l ∷ ls) e = (
  rw (members_later before (l ∷ ls) (suc (length before)) l.members (left_of_and _ _ (left_of_and _ _ e))) (leb-true (sum_by (λ d. cells before d.ctype) l.members) most_cells (right_of_and _ _ (left_of_and _ _ e))),
  subst (λ all. AllByRecursion (λ l. member_cells all l ≤ most_cells) ls) (append_assoc before (l ∷ []) ls) (each_members (before ++ (l ∷ [])) ls (right_of_and _ _ e)),
)

each_types : (before ls : List Layout) → are_small_structs before ls ≡ true → AllByRecursion (HasSmallMembers (before ++ ls)) ls
each_types before [] e = tt
each_types before (l ∷ ls) e = (
  types_later before (l ∷ ls) (suc (length before)) l.members (left_of_and _ _ (left_of_and _ _ e)),
  subst (λ all. AllByRecursion (HasSmallMembers all) ls) (append_assoc before (l ∷ []) ls) (each_types (before ++ (l ∷ [])) ls (right_of_and _ _ e)),
)

-- ---- all structs

pub structs_are_small : (ls : List Layout) → are_small_structs [] ls ≡ true → StructsAreSmall ls
structs_are_small ls e = record {
  structs = λ n. few_cells (slice_get (struct_cells [] ls) n) (get_fits HasFewCells (struct_cells [] ls) n (structs_small [] ls tt e));
  members = each_members [] ls e;
  types = each_types [] ls e;
}
