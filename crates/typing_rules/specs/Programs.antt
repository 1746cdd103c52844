-- Programs (C11 6.9): the items in text order, then what is asked of the whole text.
use Rattle.std.specs.Prelude.{ℕ, ◌+◌, Bool, false, ◌&&◌, not, nat_le, if◌then◌else◌, List, [], ◌∷◌, length, sum_by, codes, Option, Some, None, Ok}
use Rattle.c_lexer.specs.declared.token.Place.{Place}
use Rattle.c_words.specs.declared.word.Mode.{Mode}
use Rattle.c_words.specs.declared.word.Mode.TheVariants as mode
use Rattle.c_grammar.specs.declared.program.ProgramTree.{ProgramTree}
use Rattle.c_words.specs.Words as words
use Rattle.step_meaning.specs.declared.value.CType.{CType}
use Rattle.step_meaning.specs.declared.value.CType.TheVariants as type
use Rattle.step_meaning.specs.declared.program.Declared.{Declared as Named}
use Rattle.step_meaning.specs.declared.program.Function.{Function as CoreFunction}
use Rattle.step_meaning.specs.declared.program.Core.{Core}
use Rattle.step_meaning.specs.TypeRules.{cells}
use Rattle.step_meaning.specs.Library.{int, unsigned_long, void_pointer}
use Rattle.typing_rules.specs.declared.fault.TypeFault.TheVariants.{NoMain, TooLarge}
use Rattle.typing_rules.specs.Checked.{Checked, ◌>>=◌, kept, unless}
use Rattle.typing_rules.specs.Syntax.{Item, Struct, Variables, Function, Meta, GhostVariable}
use Rattle.typing_rules.specs.TreesOfDeclarations as trees
use Rattle.typing_rules.specs.Environment.{contains, specified}
use Rattle.typing_rules.specs.Weights.{weight, init_cells}
use Rattle.typing_rules.specs.FileScope.{Program, seen_now, variables}
use Rattle.typing_rules.specs.Structs.{structure}
use Rattle.typing_rules.specs.Functions.{function, prototype, function_number}

-- ---- items

unfoldable pub item : Item → Program → Checked Program
item (Struct tag ms ds) p = structure tag ms p >>= variables (type.Struct (length p.layouts)) ds
item (Variables x ds) p = do
  base ← specified (seen_now p) x
  variables base ds p
item (Function r t xs body) p = function r t xs body p
-- rules are no part of the core, and ghost variables stand in woven texts alone
item (Meta t) p = Ok p
item (GhostVariable t) p = Ok p

unfoldable pub items : List Item → Program → Checked Program
items [] p = Ok p
items (x ∷ xs) p = item x p >>= items xs

-- ---- the start of a text

-- the functions with a body
abbrev pub body_names : List ℕ → List Item → List (List ℕ)
body_names text [] = []
body_names text (Function r t xs (Some b) ∷ rest) = words.bytes_of text t.token ∷ body_names text rest
body_names text (_ ∷ rest) = body_names text rest

abbrev pub nameless : CType → Named
nameless t = record { name = []; ctype = t }

-- what each text knows without a declaration (C11 7.21.7.6, 7.21.7.8, 7.22.3.4, 7.22.3.3)
abbrev pub library : List CoreFunction
library =
    prototype (codes "getchar") int []
    ∷ prototype (codes "putchar") int (nameless int ∷ [])
    ∷ prototype (codes "malloc") void_pointer (nameless unsigned_long ∷ [])
    ∷ prototype (codes "free") type.Void (nameless void_pointer ∷ []) ∷ []

abbrev pub start : Mode → List ℕ → List Item → Program
start m text all = record { mode = m; text = text; bodies = body_names text all; layouts = []; globals = []; initial = []; functions = library }

-- ---- the end of a text

abbrev pub nowhere : Place
nowhere = record { line = 0; column = 0 }

-- the limits on a source: the cells of all its variables of file scope, and its weighted nodes
abbrev pub most_file_cells : ℕ
most_file_cells = 16777216

abbrev pub most_weight : ℕ
most_weight = 50000

abbrev pub file_cells : Program → ℕ
file_cells p = sum_by (λ d. cells p.layouts d.ctype) p.globals

abbrev pub whole_weight : List Item → Program → ℕ
whole_weight all p = weight all + sum_by init_cells p.functions

abbrev pub is_too_large : List Item → Program → Bool
is_too_large all p = is_over p.mode
  where
    is_over : Mode → Bool
    is_over mode.Source = not (nat_le (file_cells p) most_file_cells && nat_le (whole_weight all p) most_weight)
    is_over mode.Woven = false

abbrev pub core_of : Program → ℕ → Core
core_of p main = record { layouts = p.layouts; globals = p.globals; initial = p.initial; ghosts = []; functions = p.functions; start = main }

-- the number of `main`, where it has a body
abbrev pub main_of : Program → Option ℕ
main_of p = if contains p.bodies (codes "main") then function_number p.functions (codes "main") else None

unfoldable pub whole : List Item → Program → Checked Core
whole all p = do
  main ← kept (NoMain nowhere) (main_of p)
  _ ← unless (is_too_large all p) (TooLarge nowhere)
  Ok (core_of p main)

-- ---- texts

unfoldable pub elaborated : Mode → List ℕ → List Item → Checked Core
elaborated m text all = items all (start m text all) >>= whole all

-- the core that a tree over this text stands for, or the first broken rule
unfoldable pub elaboration : Mode → List ℕ → ProgramTree → Checked Core
elaboration m text tree = elaborated m text (trees.program tree)
