-- Laws on the types of a core (C11 6.2.7, 6.7.2.1).
use Rattle.std.specs.Prelude.{◌≡◌, ◌↔◌, ℕ, ◌≤◌, List, ◌++◌, take, sum_by, slice_get, Some, IsTrue}
use Rattle.std.specs.List.{list_all}
use Rattle.step_meaning.specs.declared.value.CType.{CType}
use Rattle.step_meaning.specs.declared.value.CType.TheVariants.{Struct}
use Rattle.step_meaning.specs.declared.program.Layout.{Layout}
use Rattle.step_meaning.specs.declared.program.Declared.{Declared}
use Rattle.step_meaning.specs.Types.{same_type, object_cells}
use Rattle.step_meaning.specs.TypeRules.{cells, are_layouts, keeps_rules, member_type}

abbrev pub SameTypes : Type 0
SameTypes = (t u : CType) → IsTrue (same_type t u) ↔ (t ≡ u)

pub record EarlierCells : Type 0 where
  pub same_cells : (ls more : List Layout) (t : CType) → IsTrue (keeps_rules ls t) → object_cells (ls ++ more) t ≡ object_cells ls t
  pub still_keeps : (ls more : List Layout) (t : CType) → IsTrue (keeps_rules ls t) → IsTrue (keeps_rules (ls ++ more) t)

pub record MemberTypes : Type 0 where
  -- the types of members keep the rules
  pub keep : (ls : List Layout) → IsTrue (are_layouts ls) → (n : ℕ) (l : Layout) → slice_get ls n ≡ Some l → IsTrue (list_all (λ d. keeps_rules ls d.ctype) l.members)
  -- a type that keeps the rules has a cell or more
  pub has_cell : (ls : List Layout) → IsTrue (are_layouts ls) → (t : CType) → IsTrue (keeps_rules ls t) → 1 ≤ cells ls t
  -- the member with number i stands after the cells of those before it
  pub at_offset : (ls : List Layout) → IsTrue (are_layouts ls) → (n i : ℕ) (l : Layout) (d : Declared) → slice_get ls n ≡ Some l → slice_get l.members i ≡ Some d
      → member_type ls (Struct n) (sum_by (λ d. cells ls d.ctype) (take i l.members)) ≡ Some d.ctype
