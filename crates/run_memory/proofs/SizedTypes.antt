-- An object whose type keeps the rules has a cell or more, and no more than a block may have.
use Rattle.std.proofs.Common.{◌≡◌, ◌≤◌, true, List, [], ◌∷◌, ◌++◌, length, flat_map, sum_by, Option, Some, None, sym, subst, arith}
use Rattle.std.specs.Prelude.{nat_le, slice_get}
use Rattle.std.specs.List.{list_all, AllByRecursion}
use Rattle.std.proofs.lemmas.Bool.{leb-true}
use Rattle.std.proofs.lemmas.List.Concat.{length-flat_map}
use Rattle.step_meaning.specs.declared.value.CType.{CType, end_of-CType, more_of-CType}
use Rattle.step_meaning.specs.declared.value.CType.TheVariants as type
use Rattle.step_meaning.specs.declared.program.Declared.{Declared}
use Rattle.step_meaning.specs.declared.program.Layout.{Layout}
use Rattle.step_meaning.specs.Types.{cell_types, struct_cells, object_cells, or_empty}
use Rattle.step_meaning.specs.TypeRules.{cells, most_cells, is_scalar_type, is_layout_after, are_layouts_after, are_layouts, keeps_rules}
use Rattle.step_meaning.proofs.Ranges.{false_is_not_true, left_of_and, right_of_and}
use Rattle.step_meaning.proofs.TypedMemory.{Each, WhereSome, get_fits}
use Rattle.step_meaning.proofs.TypedSizes.{last_struct}
use Rattle.core_types.proofs.MemberLaws.{has_cell}
use Rattle.run_memory.specs.Storage.{IsBlockSized}

abbrev HasFew : List CType → Type 0
HasFew ts = length ts ≤ 65536

each_more : (xs : List (List CType)) (ts : List CType) → Each HasFew xs → HasFew ts → Each HasFew (xs ++ (ts ∷ []))
each_more [] ts h k = (k, tt)
each_more (x ∷ xs) ts h k = (h.0, each_more xs ts h.1 k)

few_in_layout : (before : List Layout) (l : Layout) → is_layout_after before l ≡ true → HasFew (flat_map (λ d. cell_types (struct_cells [] before) d.ctype) l.members)
few_in_layout before l e = rw (length-flat_map (λ d. cell_types (struct_cells [] before) d.ctype) l.members) (total (right_of_and _ _ (right_of_and _ _ e)))
  where
    total : nat_le (sum_by (λ d. cells before d.ctype) l.members) most_cells ≡ true → sum_by (λ d. cells before d.ctype) l.members ≤ 65536
    total e = leb-true (sum_by (λ d. cells before d.ctype) l.members) 65536 e

few_in_structs : (before ls : List Layout) → Each HasFew (struct_cells [] before) → are_layouts_after before ls ≡ true → Each HasFew (struct_cells (struct_cells [] before) ls)
few_in_structs before [] h e = h
few_in_structs before (l ∷ ls) h e =
    subst (λ s. Each HasFew (struct_cells s ls)) (last_struct [] before l)
    (few_in_structs (before ++ (l ∷ [])) ls
    (subst (Each HasFew) (sym (last_struct [] before l)) (each_more (struct_cells [] before) (flat_map (λ d. cell_types (struct_cells [] before) d.ctype) l.members) h (few_in_layout before l (left_of_and _ _ e))))
    (right_of_and _ _ e))

few_where_some : (o : Option (List CType)) → WhereSome HasFew o → HasFew (or_empty o)
few_where_some None h = omega arith
few_where_some (Some ts) h = h

few_cells_of : (layouts : List Layout) → are_layouts layouts ≡ true → (t : CType) → keeps_rules layouts t ≡ true → length (object_cells layouts t) ≤ 65536
few_cells_of layouts h type.Void e = false_is_not_true e
few_cells_of layouts h (type.Int k) e = omega arith
few_cells_of layouts h (type.Pointer' b t) e = omega arith
few_cells_of layouts h (type.Array' b (more_of-CType t end_of-CType) n) e = leb-true (cells layouts (type.Array' b (more_of-CType t end_of-CType) n)) 65536 (right_of_and _ _ (right_of_and _ _ e))
few_cells_of layouts h (type.Struct n) e = few_where_some (slice_get (struct_cells [] layouts) n) (get_fits HasFew (struct_cells [] layouts) n (few_in_structs [] layouts tt h))

pub sized : (layouts : List Layout) → are_layouts layouts ≡ true → (t : CType) → keeps_rules layouts t ≡ true → IsBlockSized layouts t
sized layouts h t e = record { some = has_cell layouts h t e; few = few_cells_of layouts h t e }

-- variables whose types keep the rules
pub all_sized : (layouts : List Layout) → are_layouts layouts ≡ true → (ds : List Declared) → list_all (λ d. keeps_rules layouts d.ctype) ds ≡ true → AllByRecursion (λ d. IsBlockSized layouts d.ctype) ds
all_sized layouts h [] e = tt
all_sized layouts h (d ∷ ds) e = (sized layouts h d.ctype (left_of_and _ _ e), all_sized layouts h ds (right_of_and _ _ e))

-- integers and pointers
pub scalars_sized : (layouts : List Layout) → are_layouts layouts ≡ true → (ds : List Declared) → list_all (λ d. is_scalar_type layouts d.ctype) ds ≡ true → AllByRecursion (λ d. IsBlockSized layouts d.ctype) ds
scalars_sized layouts h [] e = tt
scalars_sized layouts h (d ∷ ds) e = (sized layouts h d.ctype (right_of_and _ _ (left_of_and _ _ e)), scalars_sized layouts h ds (right_of_and _ _ e))
