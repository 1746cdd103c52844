-- The start of a text.
use Rattle.std.specs.Prelude.{◌≡◌, ℕ, List, [], ◌∷◌, ◌++◌, map, Option, Some, None, Ok, Err}
use Rattle.c_words.specs.declared.word.Leaf.{Leaf}
use Rattle.c_words.specs.declared.word.Mode.{Mode}
use Rattle.c_words.specs.Words as words
use Rattle.c_grammar.specs.declared.program.Item.{Item}
use Rattle.step_meaning.specs.declared.value.CType.{CType}
use Rattle.step_meaning.specs.declared.program.Function.{Function as CoreFunction}
use Rattle.typing_rules.specs.declared.fault.TypeFault.TheVariants as fault
use Rattle.typing_rules.specs.Checked.{Checked}
use Rattle.typing_rules.specs.Syntax.{Statements}
use Rattle.typing_rules.specs.FileScope.{Program}
use Rattle.typing_rules.specs.Functions.{prototype}
use Rattle.typing_rules.specs.Programs.{body_names, nameless}
use Rattle.typing_rules.specs.TreesOfDeclarations as trees

-- a program of which nothing is known
abbrev pub unknown : Mode → List ℕ → Program
unknown m text = record { mode = m; text = text; bodies = []; layouts = []; globals = []; initial = []; functions = [] }

-- the program with these names of functions with bodies besides
abbrev pub with_bodies : List (List ℕ) → Program → Program
with_bodies names p = record p { bodies = p.bodies ++ names }

-- the name of a function, where it has a body
abbrev pub body_name : List ℕ → Leaf → Option Statements → List (List ℕ)
body_name text t None = []
body_name text t (Some b) = words.bytes_of text t.token ∷ []

abbrev pub names_in : List ℕ → List Item → List (List ℕ)
names_in text xs = body_names text (map trees.item xs)

-- a function of the library, with parameters of these types
abbrev pub library_function : List ℕ → CType → List CType → CoreFunction
library_function name r ts = prototype name r (map nameless ts)

abbrev pub with_library_function : CoreFunction → Program → Program
with_library_function f p = record p { functions = p.functions ++ (f ∷ []) }

-- what fails is memory alone
abbrev pub IsMemory : {A : Type 0} → Checked A → Type 0
IsMemory (Ok a) = Unit {0}
IsMemory (Err e) = e ≡ fault.Memory
