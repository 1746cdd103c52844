-- The cells of an object whose type keeps the rules are numbered with 32 bits.
use Rattle.std.proofs.Common.{◌≡◌, ◌≤◌, true, List, [], ◌∷◌, ◌++◌, length, flat_map, sum_by, Option, Some, None, refl, sym, subst, arith}
use Rattle.std.specs.Prelude.{nat_le, slice_get}
use Rattle.std.proofs.lemmas.Bool.{leb-true}
use Rattle.std.proofs.lemmas.List.Concat.{length-flat_map}
use Rattle.step_meaning.specs.declared.value.CType.{CType, end_of-CType, more_of-CType}
use Rattle.step_meaning.specs.declared.value.CType.TheVariants as type
use Rattle.step_meaning.specs.declared.program.Declared.{Declared}
use Rattle.step_meaning.specs.declared.program.Layout.{Layout}
use Rattle.step_meaning.specs.Types.{cell_types, struct_cells, object_cells, or_empty}
use Rattle.step_meaning.specs.TypeRules.{cells, most_cells, is_layout_after, are_layouts_after, are_layouts, keeps_rules}
use Rattle.step_meaning.proofs.Ranges.{false_is_not_true, left_of_and, right_of_and}
use Rattle.step_meaning.proofs.TypedMemory.{Each, WhereSome, get_fits}
use Rattle.step_meaning.proofs.TypedCalls.{SizesFit}

abbrev IsSmall : List CType → Type 0
IsSmall ts = length ts ≤ 65536

-- the cells of a struct's members, where those of earlier structs are given
abbrev members_cells : List (List CType) → List Declared → List CType
members_cells structs ds = flat_map (λ d. cell_types structs d.ctype) ds

pub last_struct : (x : List (List CType)) (bs : List Layout) (l : Layout) → struct_cells x (bs ++ (l ∷ [])) ≡ struct_cells x bs ++ (members_cells (struct_cells x bs) l.members ∷ [])
last_struct x [] l = refl
last_struct x (b ∷ bs) l = last_struct (x ++ (members_cells x b.members ∷ [])) bs l

each_last : (xs : List (List CType)) (ts : List CType) → Each IsSmall xs → IsSmall ts → Each IsSmall (xs ++ (ts ∷ []))
each_last [] ts h k = (k, tt)
each_last (x ∷ xs) ts h k = (h.0, each_last xs ts h.1 k)

layout_small : (before : List Layout) (l : Layout) → is_layout_after before l ≡ true → IsSmall (members_cells (struct_cells [] before) l.members)
layout_small before l e = rw (length-flat_map (λ d. cell_types (struct_cells [] before) d.ctype) l.members) (total (right_of_and _ _ (right_of_and _ _ e)))
  where
    total : nat_le (sum_by (λ d. cells before d.ctype) l.members) most_cells ≡ true → sum_by (λ d. cells before d.ctype) l.members ≤ 65536
    total e = leb-true (sum_by (λ d. cells before d.ctype) l.members) 65536 e

structs_small : (before ls : List Layout) → Each IsSmall (struct_cells [] before) → are_layouts_after before ls ≡ true → Each IsSmall (struct_cells (struct_cells [] before) ls)
structs_small before [] h e = h
structs_small before (l ∷ ls) h e =
    subst (λ s. Each IsSmall (struct_cells s ls)) (last_struct [] before l)
    (structs_small (before ++ (l ∷ [])) ls (subst (Each IsSmall) (sym (last_struct [] before l)) (each_last (struct_cells [] before) (members_cells (struct_cells [] before) l.members) h (layout_small before l (left_of_and _ _ e)))) (right_of_and _ _ e))

struct_small : (o : Option (List CType)) → WhereSome IsSmall o → IsSmall (or_empty o)
struct_small None h = omega arith
struct_small (Some ts) h = h

object_small : (layouts : List Layout) → are_layouts layouts ≡ true → (t : CType) → keeps_rules layouts t ≡ true → length (object_cells layouts t) ≤ 65536
object_small layouts h type.Void e = false_is_not_true e
object_small layouts h (type.Int k) e = omega arith
object_small layouts h (type.Pointer' b t) e = omega arith
object_small layouts h (type.Array' b (more_of-CType t end_of-CType) n) e = leb-true (cells layouts (type.Array' b (more_of-CType t end_of-CType) n)) 65536 (right_of_and _ _ (right_of_and _ _ e))
object_small layouts h (type.Struct n) e = struct_small (slice_get (struct_cells [] layouts) n) (get_fits IsSmall (struct_cells [] layouts) n (structs_small [] layouts tt h))

pub sizes_fit : (layouts : List Layout) → are_layouts layouts ≡ true → SizesFit layouts
sizes_fit layouts h t e = let l : length (object_cells layouts t) ≤ 65536 = object_small layouts h t e in omega arith
