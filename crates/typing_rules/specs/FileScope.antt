-- A program up to some item, and its variables of file scope (C11 6.9.2).
use Rattle.std.specs.Prelude.{ℕ, suc, Bool, false, ◌||◌, not, List, [], ◌∷◌, ◌++◌, map, codes, Option, Some, None, is_some, Ok}
use Rattle.std.specs.Str.{bytes_eq}
use Rattle.c_words.specs.declared.word.Mode.{Mode}
use Rattle.c_words.specs.declared.word.Leaf.{Leaf}
use Rattle.step_meaning.specs.declared.value.CType.{CType}
use Rattle.step_meaning.specs.declared.value.Value.{Value}
use Rattle.step_meaning.specs.declared.value.NameKind.TheVariants as names
use Rattle.step_meaning.specs.declared.program.Declared.{Declared as Named}
use Rattle.step_meaning.specs.declared.program.Layout.{Layout}
use Rattle.step_meaning.specs.declared.program.Function.{Function as CoreFunction}
use Rattle.step_meaning.specs.ExpressionTypes.{parameter_types}
use Rattle.typing_rules.specs.declared.operand.Entry.{Entry}
use Rattle.typing_rules.specs.declared.operand.Entry.TheVariants as entry
use Rattle.typing_rules.specs.Checked.{Checked, ◌>>=◌}
use Rattle.typing_rules.specs.Syntax.{Declared, Initialiser}
use Rattle.typing_rules.specs.Environment.{Environment, Scope, place_of, is_reserved, found_in}
use Rattle.typing_rules.specs.Environment as environment
use Rattle.typing_rules.specs.Declarations.{layers, layered, count_of, is_complete_in, declarable}
use Rattle.typing_rules.specs.Initialisers.{initial_values, uninitialised}

pub record Program : Type 0 where
  pub mode : Mode
  pub text : List ℕ
  -- the functions that have a body somewhere in the text
  pub bodies : List (List ℕ)
  pub layouts : List Layout
  pub globals : List Named
  pub initial : List (List Value)
  pub functions : List CoreFunction

-- each with its number
abbrev pub numbered : {A B : Type 0} → (ℕ → A → B) → ℕ → List A → List B
numbered f n [] = []
numbered f n (x ∷ xs) = f n x ∷ numbered f (suc n) xs

abbrev pub variable_entry : ℕ → Named → List ℕ × Entry
variable_entry n d = (d.name, entry.Variable (record { kind = names.Global; index = n }) d.ctype)

abbrev pub function_entry : ℕ → CoreFunction → List ℕ × Entry
function_entry n f = (f.name, entry.Function n f.result (parameter_types f))

-- the names of file scope
unfoldable pub file_scope : Program → Scope
file_scope p = numbered variable_entry 0 p.globals ++ numbered function_entry 0 p.functions

abbrev pub tags : Program → List (List ℕ)
tags p = map (λ l. l.tag) p.layouts

-- what the next item sees, where these tags are known
abbrev pub seen : Program → List (List ℕ) → Environment
seen p ts = record { mode = p.mode; text = p.text; layouts = p.layouts; tags = ts; scopes = file_scope p ∷ []; bodies = p.bodies }

abbrev pub seen_now : Program → Environment
seen_now p = seen p (tags p)

abbrev pub bytes : Program → Leaf → List ℕ
bytes p t = environment.bytes_in (seen p []) t

abbrev pub is_known : Program → List ℕ → Bool
is_known p name = is_some (found_in (file_scope p) name)

-- ---- variables; the name `main` is a function's

abbrev pub is_main_name : List ℕ → Bool
is_main_name name = bytes_eq name (codes "main")

-- the values that the cells start with: those of the initialiser, or zero and null (C11 6.7.9, 10)
abbrev pub first_values : Program → CType → Option Initialiser → Checked (List Value)
first_values p t None = Ok (uninitialised (seen_now p) t)
first_values p t (Some x) = initial_values (seen_now p) p.globals t x

-- the next variable, known from here on, in its own initialiser too (C11 6.2.1, 7)
abbrev pub with_variable : Program → List ℕ → CType → Program
with_variable p name t = record p { globals = p.globals ++ (record { name = name; ctype = t } ∷ []) }

abbrev pub with_values : Program → List Value → Program
with_values p vs = record p { initial = p.initial ++ (vs ∷ []) }

unfoldable pub variable : CType → Declared → Program → Checked Program
variable base d p = do
  ls ← layers (seen_now p) (count_of d.initialiser) d.declarator.modifiers
  let name = bytes p d.declarator.name in let t = layered ls base in
      declarable (seen_now p) (place_of d.declarator.name) (is_known p name) (is_main_name name || not (is_complete_in (seen_now p) t)) false (is_reserved (seen_now p) name) t
      >>= (λ u. first_values (with_variable p name t) t d.initialiser >>= (λ vs. Ok (with_values (with_variable p name t) vs)))

unfoldable pub variables : CType → List Declared → Program → Checked Program
variables base [] p = Ok p
variables base (d ∷ ds) p = variable base d p >>= variables base ds
