-- What a name stands for, where types are lent.
use Rattle.std.specs.Prelude.{ℕ, List, map, slice_get, Option, option_map, Ok, Err}
use Rattle.c_words.specs.declared.word.Leaf.{Leaf}
use Rattle.step_meaning.specs.declared.value.CType.{CType}
use Rattle.step_meaning.specs.declared.value.CType.TheVariants.{Struct}
use Rattle.step_meaning.specs.declared.program.Declared.{Declared}
use Rattle.step_meaning.specs.declared.program.Function.{Function as CoreFunction}
use Rattle.typing_rules.specs.declared.fault.TypeFault.TheVariants.{Unknown}
use Rattle.typing_rules.specs.declared.operand.Entry.{Entry}
use Rattle.typing_rules.specs.declared.operand.Entry.TheVariants as entry
use Rattle.typing_rules.specs.Checked.{Checked, ◌>>=◌, kept}
use Rattle.typing_rules.specs.Environment.{Environment, place_of, bytes_in, tag_number}
use Rattle.typing_rules.specs.FileScope.{variable_entry, function_entry}
use Rattle.typing_scopes.specs.declared.found.Found.{Found}
use Rattle.typing_scopes.specs.declared.found.Found.TheVariants.{Variable, Function}

abbrev pub found_entry : Found → Entry
found_entry (Variable v t) = entry.Variable v t.now
found_entry (Function f r ps) = entry.Function f r.now (map (λ d. d.ctype) ps.now)

abbrev pub found_result : Checked Found → Checked Entry
found_result (Ok x) = Ok (found_entry x)
found_result (Err e) = Err e

-- what the variable or function of file scope with this number is
abbrev pub global_entry : List Declared → ℕ → Option Entry
global_entry ds n = option_map (λ d. (variable_entry n d).1) (slice_get ds n)

abbrev pub file_function_entry : List CoreFunction → ℕ → Option Entry
file_function_entry fs n = option_map (λ f. (function_entry n f).1) (slice_get fs n)

-- the type that a struct's tag names
abbrev pub struct_type : Environment → Leaf → Checked CType
struct_type g tag = do
  n ← kept (Unknown (place_of tag)) (tag_number g.tags (bytes_in g tag))
  Ok (Struct n)
