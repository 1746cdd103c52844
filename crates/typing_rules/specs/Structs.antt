-- Definitions of structs (C11 6.7.2.1).
use Rattle.std.specs.Prelude.{ℕ, Bool, false, not, nat_le, List, [], ◌∷◌, ◌++◌, sum_by, Ok}
use Rattle.std.specs.List.{list_any}
use Rattle.std.specs.Str.{bytes_eq}
use Rattle.c_words.specs.declared.word.Leaf.{Leaf}
use Rattle.step_meaning.specs.declared.value.CType.{CType}
use Rattle.step_meaning.specs.declared.program.Declared.{Declared as Named}
use Rattle.step_meaning.specs.TypeRules.{cells, most_cells}
use Rattle.typing_rules.specs.declared.fault.TypeFault.TheVariants.{Redeclared, Reserved, TooLarge}
use Rattle.typing_rules.specs.Checked.{Checked, ◌>>=◌, unless, none_of}
use Rattle.typing_rules.specs.Syntax.{Declarator, Members}
use Rattle.typing_rules.specs.Environment.{Environment, place_of, bytes_in, contains, is_reserved, specified}
use Rattle.typing_rules.specs.Declarations.{layers, layered, is_complete_in, declarable}
use Rattle.typing_rules.specs.FileScope.{Program, tags, seen, seen_now, bytes}

-- ---- members, after those before them

module _ (g : Environment) where
  abbrev pub has_member : List Named → List ℕ → Bool
  has_member ms name = list_any (λ m. bytes_eq m.name name) ms

  unfoldable pub member : CType → List Named → Declarator → Checked (List Named)
  member base ms d = do
    ls ← layers g 1 d.modifiers
    let name = bytes_in g d.name in let t = layered ls base in
        declarable g (place_of d.name) (has_member ms name) (not (is_complete_in g t)) false (is_reserved g name) t >>= (λ u. Ok (ms ++ (record { name = name; ctype = t } ∷ [])))

  unfoldable pub member_list : CType → List Named → List Declarator → Checked (List Named)
  member_list base ms [] = Ok ms
  member_list base ms (d ∷ ds) = member base ms d >>= (λ more. member_list base more ds)

  unfoldable pub all_members : List Named → List Members → Checked (List Named)
  all_members ms [] = Ok ms
  all_members ms (x ∷ xs) = do
    base ← specified g x.specifier
    more ← member_list base ms x.declarators
    all_members more xs

-- ---- structs

-- of the tag: that no struct has it already, and that it isn't reserved
abbrev pub tag_declarable : Program → Leaf → Checked (Unit {0})
tag_declarable p tag =
    none_of ((contains (tags p) (bytes p tag), Redeclared (place_of tag))
    ∷ (is_reserved (seen_now p) (bytes p tag), Reserved (place_of tag)) ∷ [])

abbrev pub with_layout : Program → List ℕ → List Named → Program
with_layout p name ms = record p { layouts = p.layouts ++ (record { tag = name; members = ms } ∷ []) }

-- the tag is known in the members, and the struct is complete after them (C11 6.2.1, 7; 6.7.2.1, 8). Its own limit comes last
unfoldable pub structure : Leaf → List Members → Program → Checked Program
structure tag ms p = do
  _ ← tag_declarable p tag
  members ← all_members (seen p (tags p ++ (bytes p tag ∷ []))) [] ms
  _ ← unless (not (nat_le (sum_by (λ d. cells p.layouts d.ctype) members) most_cells)) (TooLarge (place_of tag))
  Ok (with_layout p (bytes p tag) members)
