-- Programs up to some item whose types are small: what each declaration adds keeps this, so that each environment of the text is small.
use Rattle.std.specs.Prelude.{◌≡◌, Ok, ℕ, suc, Bool, true, ◌&&◌, nat_le, List, [], ◌∷◌, ◌++◌, length, sum_by, IsTrue}
use Rattle.std.specs.List.{list_all, AllByRecursion}
use Rattle.c_words.specs.declared.word.Mode.{Mode}
use Rattle.step_meaning.specs.declared.value.CType.{CType}
use Rattle.step_meaning.specs.declared.program.Layout.{Layout}
use Rattle.step_meaning.specs.TypeRules.{cells, most_cells}
use Rattle.typing_rules.specs.Declarations.{is_complete, is_within_limit}
use Rattle.typing_rules.specs.Statements.{Frame}
use Rattle.typing_rules.specs.FileScope.{Program, seen_now}
use Rattle.typing_rules.specs.Syntax.{Item}
use Rattle.typing_rules.specs.Programs.{items, start}
use Rattle.typing_laws.specs.SmallTypes.{IsSmallType, IsSmallScope, IsSmall}

-- the type of an object: complete after these structs, where so many are known, and small
abbrev pub is_small_object : List Layout → ℕ → CType → Bool
is_small_object layouts known t = is_complete (length layouts) known t && is_within_limit layouts t

-- a struct after these
abbrev pub is_small_struct : List Layout → Layout → Bool
is_small_struct before l =
    list_all (λ d. is_small_object before (suc (length before)) d.ctype) l.members && nat_le (sum_by (λ d. cells before d.ctype) l.members) most_cells

abbrev pub are_small_structs : List Layout → List Layout → Bool
are_small_structs before [] = true
are_small_structs before (l ∷ ls) = is_small_struct before l && are_small_structs (before ++ (l ∷ [])) ls

-- small whatever the structs: there is no array in it
abbrev pub HasNoArray : CType → Type 0
HasNoArray t = (layouts : List Layout) → IsSmallType layouts t

pub record IsSmallProgram (p : Program) : Type 0 where
  pub structs : IsTrue (are_small_structs [] p.layouts)
  pub globals : AllByRecursion (λ d. IsTrue (is_small_object p.layouts (length p.layouts) d.ctype)) p.globals
  pub results : AllByRecursion (λ f. HasNoArray f.result) p.functions

-- what is known within a body
abbrev pub IsSmallFrame : List Layout → Frame → Type 0
IsSmallFrame layouts f = AllByRecursion (IsSmallScope layouts) f.scopes

-- ---- the law

-- what the next item of a text sees is small
abbrev pub ProgramsAreSmall : Type 0
ProgramsAreSmall = (m : Mode) (text : List ℕ) (all xs : List Item) (p : Program) → items xs (start m text all) ≡ Ok p → IsSmall (seen_now p)
