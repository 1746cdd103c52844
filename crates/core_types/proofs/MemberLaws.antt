-- Members of structs: each has a cell, and its offset tells its type.
use Rattle.std.proofs.Common.{◌≡◌, ◌==◌, ℕ, zero, suc, ◌+◌, ◌*◌, ◌≤◌, ◌<◌, true, cond, List, [], ◌∷◌, ◌++◌, length, take, Option, Some, None, refl, sym, ap, subst, ◌∙◌, arith, length-append, ne_eqb}
use Rattle.std.specs.Prelude.{slice_get, sum_by, flat_map}
use Rattle.std.specs.List.{list_all}
use Rattle.std.proofs.lemmas.Bool.{leb-true, ltb-true}
use Rattle.std.proofs.lemmas.List.Sums.{sum_by-cons}
use Rattle.step_meaning.specs.declared.value.CType.{CType, end_of-CType, more_of-CType}
use Rattle.step_meaning.specs.declared.value.CType.TheVariants as type
use Rattle.step_meaning.specs.declared.program.Layout.{Layout}
use Rattle.step_meaning.specs.declared.program.Declared.{Declared}
use Rattle.step_meaning.specs.Types.{same_type, cell_types, struct_cells, or_empty, object_cells}
use Rattle.step_meaning.specs.TypeRules.{cells, is_object_type, keeps_rules, are_layouts_after, are_layouts, member_from}
use Rattle.core_types.specs.Laws.{SameTypes, EarlierCells, MemberTypes}
use Rattle.step_meaning.proofs.Ranges.{false_is_not_true, left_of_and, right_of_and}
use Rattle.step_meaning.proofs.TypedMemory.{Each, WhereSome, get_fits}
use Rattle.step_meaning.proofs.SameTypes.{number_same, same_type_equal, same_itself}
use Rattle.step_meaning.proofs.StructCells.{member_cells, counted}
use Rattle.step_meaning.proofs.TypedSizes.{last_struct}
use Rattle.step_meaning.proofs.LaterLayouts.{same_cells, still_keeps, member_types_keep}
use Rattle.core_types.proofs.SizeLaws.{times_length}

-- ---- types that are the same

pub same_types_equal : SameTypes
same_types_equal t u = (same_type_equal t u, λ e. subst (λ v. same_type t v ≡ true) e (same_itself t))

-- ---- more structs

pub earlier : EarlierCells
earlier = record {
  same_cells = λ ls more t e. same_cells ls more (length ls) t e;
  still_keeps = λ ls more t e. still_keeps ls more (length ls) (length (ls ++ more)) t (let c : length (ls ++ more) ≡ length ls + length more = length-append ls more in omega arith) e;
}

-- ---- cells

abbrev HasCell : List CType → Type 0
HasCell ts = 1 ≤ length ts

each_last : (xs : List (List CType)) (ts : List CType) → Each HasCell xs → HasCell ts → Each HasCell (xs ++ (ts ∷ []))
each_last [] ts h k = (k, tt)
each_last (x ∷ xs) ts h k = (h.0, each_last xs ts h.1 k)

struct_cell : (o : Option (List CType)) (n : ℕ) (xs : List (List CType)) → slice_get xs n ≡ o → n < length xs → WhereSome HasCell o → HasCell (or_empty o)
struct_cell None n xs e l h = absurd (missing xs n e l)
  where
    missing : (xs : List (List CType)) (n : ℕ) → slice_get xs n ≡ None → n < length xs → ⊥
    missing [] n e l = omega arith
    missing (x ∷ xs) zero e l = some_is_not_none e
      where
        some_is_not_none : Some x ≡ None → ⊥
        some_is_not_none e = cc
    missing (x ∷ xs) (suc n) e l = missing xs n e (omega arith)
struct_cell (Some ts) n xs e l h = h

module _ (ls : List Layout) (each : Each HasCell (struct_cells [] ls)) (declared : ℕ) where
  one_each : (n c : ℕ) → 1 ≤ n → 1 ≤ c → 1 ≤ n * c
  one_each n c l m = grind arith

  object_cell : (t : CType) → is_object_type ls declared t ≡ true → HasCell (object_cells ls t)
  object_cell type.Void e = false_is_not_true e
  object_cell (type.Int k) e = omega arith
  object_cell (type.Pointer' b t) e = omega arith
  object_cell (type.Array' b (more_of-CType t end_of-CType) n) e =
      rw (times_length n (object_cells ls t)) (one_each n (length (object_cells ls t)) (leb-true 1 n (left_of_and _ _ (right_of_and _ _ e))) (object_cell t (left_of_and _ _ e)))
  object_cell (type.Struct n) e =
      struct_cell (slice_get (struct_cells [] ls) n) n (struct_cells [] ls) refl
      (let m : n < length ls = ltb-true n (length ls) e in let c : length (struct_cells [] ls) ≡ length ls = counted [] ls ∙ omega arith in omega arith)
      (get_fits HasCell (struct_cells [] ls) n each)

members_cell : (before : List Layout) (each : Each HasCell (struct_cells [] before)) (declared : ℕ) (ds : List Declared) → 1 ≤ length ds → list_all (λ d. is_object_type before declared d.ctype) ds ≡ true → HasCell (flat_map (λ d. cell_types (struct_cells [] before) d.ctype) ds)
members_cell before each declared [] l e = absurd (omega arith)
members_cell before each declared (d ∷ ds) l e =
    let first : 1 ≤ length (object_cells before d.ctype) = object_cell before each declared d.ctype (left_of_and _ _ e) in
    let all : length (object_cells before d.ctype ++ flat_map (λ d. cell_types (struct_cells [] before) d.ctype) ds) ≡ length (object_cells before d.ctype) + length (flat_map (λ d. cell_types (struct_cells [] before) d.ctype) ds) = length-append (object_cells before d.ctype) (flat_map (λ d. cell_types (struct_cells [] before) d.ctype) ds) in
    omega arith

structs_cell : (before ls : List Layout) → Each HasCell (struct_cells [] before) → are_layouts_after before ls ≡ true → Each HasCell (struct_cells (struct_cells [] before) ls)
structs_cell before [] h e = h
structs_cell before (l ∷ ls) h e =
    subst (λ s. Each HasCell (struct_cells s ls)) (last_struct [] before l)
    (structs_cell (before ++ (l ∷ [])) ls
    (subst (Each HasCell) (sym (last_struct [] before l)) (each_last (struct_cells [] before) (member_cells (struct_cells [] before) l) h
    (members_cell before h (suc (length before)) l.members (leb-true 1 (length l.members) (left_of_and _ _ (left_of_and _ _ e))) (left_of_and _ _ (right_of_and _ _ (left_of_and _ _ e))))))
    (right_of_and _ _ e))

pub has_cell : (ls : List Layout) → are_layouts ls ≡ true → (t : CType) → keeps_rules ls t ≡ true → 1 ≤ cells ls t
has_cell ls e t k = object_cell ls (structs_cell [] ls tt e) (length ls) t k

-- ---- offsets

found_at : (ls : List Layout) (ds : List Declared) (i at : ℕ) (d : Declared) → are_layouts ls ≡ true → list_all (λ d. keeps_rules ls d.ctype) ds ≡ true → slice_get ds i ≡ Some d
    → member_from ls ds at (at + sum_by (λ d. cells ls d.ctype) (take i ds)) ≡ Some d.ctype
found_at ls [] i at d a k e = absurd (none_is_not_some e)
  where
    none_is_not_some : None ≡ Some d → ⊥
    none_is_not_some e = cc
found_at ls (x ∷ ds) zero at d a k e = subst (λ n. cond (at == n) (Some x.ctype) (member_from ls ds (at + cells ls x.ctype) n) ≡ Some d.ctype) here (subst (λ b. cond b (Some x.ctype) (member_from ls ds (at + cells ls x.ctype) at) ≡ Some d.ctype) (sym (number_same at)) (ap (λ (d : Declared). Some d.ctype) (same e)))
  where
    here : at ≡ at + 0
    here = omega arith

    same : Some x ≡ Some d → x ≡ d
    same e = cc
found_at ls (x ∷ ds) (suc i) at d a k e =
    subst (λ n. member_from ls (x ∷ ds) at (at + n) ≡ Some d.ctype) (sym (sum_by-cons (λ d. cells ls d.ctype) x (take i ds)))
    (subst (λ b. cond b (Some x.ctype) (member_from ls ds (at + cells ls x.ctype) (at + (cells ls x.ctype + rest))) ≡ Some d.ctype) (sym (ne_eqb at (at + (cells ls x.ctype + rest)) (let c : 1 ≤ cells ls x.ctype = has_cell ls a x.ctype (left_of_and _ _ k) in omega arith)))
    (subst (λ n. member_from ls ds (at + cells ls x.ctype) n ≡ Some d.ctype) (omega arith) (found_at ls ds i (at + cells ls x.ctype) d a (right_of_and _ _ k) e)))
  where
    rest : ℕ
    rest = sum_by (λ d. cells ls d.ctype) (take i ds)

-- the type at the offset of member i among those of a struct
abbrev member_in : List Layout → Layout → ℕ → Option Layout → Option CType
member_in ls l i None = None
member_in ls l i (Some m) = member_from ls m.members 0 (sum_by (λ d. cells ls d.ctype) (take i l.members))

pub members : MemberTypes
members = record {
  keep = λ ls e n l found. member_types_keep ls e n l found;
  has_cell = has_cell;
  at_offset = λ ls e n i l d found there.
      subst (λ o. member_in ls l i o ≡ Some d.ctype) (sym found)
      (subst (λ m. member_from ls l.members 0 m ≡ Some d.ctype) (zero_more (sum_by (λ d. cells ls d.ctype) (take i l.members))) (found_at ls l.members i 0 d e (member_types_keep ls e n l found) there));
}
  where
    zero_more : (n : ℕ) → 0 + n ≡ n
    zero_more n = omega arith
