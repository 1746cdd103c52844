-- The cells of an object are those of its elements or members, and each is a scalar.
use Rattle.std.proofs.Common.{◌≡◌, ℕ, zero, suc, true, List, [], ◌∷◌, ◌++◌, map, replicate, length, flat_map, Option, Some, None, refl, sym, ap, subst, ◌∙◌, append_assoc, append-nil}
use Rattle.std.specs.Prelude.{slice_get}
use Rattle.std.specs.List.{list_all, AllByRecursion}
use Rattle.step_meaning.specs.declared.value.CType.{CType, end_of-CType, more_of-CType}
use Rattle.step_meaning.specs.declared.value.CType.TheVariants as type
use Rattle.step_meaning.specs.declared.program.Declared.{Declared}
use Rattle.step_meaning.specs.declared.program.Layout.{Layout}
use Rattle.step_meaning.specs.Types.{times, cell_types, struct_cells, object_cells, or_empty}
use Rattle.step_meaning.specs.TypeRules.{is_scalar, is_object_type, is_layout_after, are_layouts_after, are_layouts}
use Rattle.step_meaning.proofs.Ranges.{left_of_and, right_of_and}
use Rattle.step_meaning.proofs.StructCells.{struct_at}
use Rattle.step_meaning.proofs.LaterLayouts.{same_cells}
use Rattle.step_meaning.proofs.TypedMemory.{WhereSome, get_fits}
use Rattle.typing_laws.proofs.EachOf.{each_append}

-- ---- each cell is a scalar

abbrev pub AreScalars : List CType → Type 0
AreScalars ts = AllByRecursion (λ t. is_scalar t ≡ true) ts

times_scalar : (n : ℕ) (ts : List CType) → AreScalars ts → AreScalars (times n ts)
times_scalar zero ts h = tt
times_scalar (suc n) ts h = each_append _ ts (times n ts) h (times_scalar n ts h)

empty_scalar : (o : Option (List CType)) → WhereSome AreScalars o → AreScalars (or_empty o)
empty_scalar None h = tt
empty_scalar (Some ts) h = h

types_scalar : (structs : List (List CType)) → AllByRecursion AreScalars structs → (t : CType) → AreScalars (cell_types structs t)
types_scalar structs h type.Void = tt
types_scalar structs h (type.Int k) = (refl, tt)
types_scalar structs h (type.Pointer' b t) = (refl, tt)
types_scalar structs h (type.Array' b (more_of-CType t end_of-CType) n) = times_scalar n (cell_types structs t) (types_scalar structs h t)
types_scalar structs h (type.Struct n) = empty_scalar (slice_get structs n) (get_fits AreScalars structs n h)

members_scalar : (structs : List (List CType)) → AllByRecursion AreScalars structs → (ds : List Declared) → AreScalars (flat_map (λ d. cell_types structs d.ctype) ds)
members_scalar structs h [] = tt
members_scalar structs h (d ∷ ds) = each_append _ (cell_types structs d.ctype) _ (types_scalar structs h d.ctype) (members_scalar structs h ds)

structs_scalar : (structs : List (List CType)) (ls : List Layout) → AllByRecursion AreScalars structs → AllByRecursion AreScalars (struct_cells structs ls)
structs_scalar structs [] h = h
structs_scalar structs (l ∷ ls) h = structs_scalar (structs ++ (flat_map (λ d. cell_types structs d.ctype) l.members ∷ [])) ls (each_append AreScalars structs _ h (members_scalar structs h l.members, tt))

pub cells_scalar : (ls : List Layout) (t : CType) → AreScalars (object_cells ls t)
cells_scalar ls t = types_scalar (struct_cells [] ls) (structs_scalar [] ls tt) t

-- ---- structs

record Split (ls : List Layout) (n : ℕ) (l : Layout) : Type 0 where
  before : List Layout
  after : List Layout
  whole : ls ≡ before ++ (l ∷ after)
  place : length before ≡ n

split_at : (ls : List Layout) (n : ℕ) (l : Layout) → slice_get ls n ≡ Some l → Split ls n l
split_at [] n l e = absurd (no e)
  where
    no : None ≡ Some l → ⊥
    no e = cc
split_at (x ∷ ls) zero l e = record { before = []; after = ls; whole = ap (λ y. y ∷ ls) (same e); place = refl }
  where
    same : Some x ≡ Some l → x ≡ l
    same e = cc
split_at (x ∷ ls) (suc n) l e =
    let rest : Split ls n l = split_at ls n l e in
    record { before = x ∷ rest.before; after = rest.after; whole = ap (λ ys. x ∷ ys) rest.whole; place = ap suc rest.place }

layout_after : (before xs : List Layout) (l : Layout) (ys : List Layout) → are_layouts_after before (xs ++ (l ∷ ys)) ≡ true → is_layout_after (before ++ xs) l ≡ true
layout_after before [] l ys e = subst (λ all. is_layout_after all l ≡ true) (sym (append-nil before)) (left_of_and _ _ e)
layout_after before (x ∷ xs) l ys e = subst (λ all. is_layout_after all l ≡ true) (append_assoc before (x ∷ []) xs) (layout_after (before ++ (x ∷ [])) xs l ys (right_of_and _ _ e))

same_members : (before more : List Layout) (known : ℕ) (ds : List Declared) → list_all (λ d. is_object_type before known d.ctype) ds ≡ true
    → flat_map (λ d. object_cells before d.ctype) ds ≡ flat_map (λ t. object_cells (before ++ more) t) (map (λ d. d.ctype) ds)
same_members before more known [] e = refl
same_members before more known (d ∷ ds) e =
    let first : object_cells (before ++ more) d.ctype ≡ object_cells before d.ctype = same_cells before more known d.ctype (left_of_and _ _ e) in
    let rest : flat_map (λ d. object_cells before d.ctype) ds ≡ flat_map (λ t. object_cells (before ++ more) t) (map (λ d. d.ctype) ds) = same_members before more known ds (right_of_and _ _ e) in
    ap (λ ts. ts ++ flat_map (λ d. object_cells before d.ctype) ds) (sym first) ∙ ap (λ ts. object_cells (before ++ more) d.ctype ++ ts) rest

pub struct_parts : (ls : List Layout) → are_layouts ls ≡ true → (n : ℕ) (l : Layout) → slice_get ls n ≡ Some l → object_cells ls (type.Struct n) ≡ flat_map (object_cells ls) (map (λ d. d.ctype) l.members)
struct_parts ls rules n l found =
    let at : Split ls n l = split_at ls n l found in
    let rules' : are_layouts_after [] (at.before ++ (l ∷ at.after)) ≡ true = subst (λ ls. are_layouts_after [] ls ≡ true) at.whole rules in
    let members : list_all (λ d. is_object_type at.before (suc (length at.before)) d.ctype) l.members ≡ true = left_of_and _ _ (right_of_and _ _ (layout_after [] at.before l at.after rules')) in
    ap (λ ls. object_cells ls (type.Struct n)) at.whole
    ∙ ap (λ n. object_cells (at.before ++ (l ∷ at.after)) (type.Struct n)) (sym at.place)
    ∙ struct_at at.before l at.after
    ∙ same_members at.before (l ∷ at.after) (suc (length at.before)) l.members members
    ∙ ap (λ ls. flat_map (object_cells ls) (map (λ d. d.ctype) l.members)) (sym at.whole)

-- ---- arrays

pub array_parts : (ls : List Layout) (t : CType) (n : ℕ) → times n (object_cells ls t) ≡ flat_map (object_cells ls) (replicate n t)
array_parts ls t zero = refl
array_parts ls t (suc n) = ap (λ ts. object_cells ls t ++ ts) (array_parts ls t n)

pub each_replicated : {A : Type 0} (P : A → Type 0) (n : ℕ) (a : A) → P a → AllByRecursion P (replicate n a)
each_replicated P zero a h = tt
each_replicated P (suc n) a h = (h, each_replicated P n a h)
