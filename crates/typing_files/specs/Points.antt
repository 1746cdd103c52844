-- Points of a text between its items.
use Rattle.std.specs.Prelude.{◌≡◌, ◌≢◌, map, Ok, Err, IsTrue}
use Rattle.std.specs.List.{AllByRecursion}
use Rattle.step_meaning.specs.Identifiers.{are_distinct}
use Rattle.step_meaning.specs.TypeRules.{are_layouts, keeps_rules}
use Rattle.typing_rules.specs.declared.fault.TypeFault.TheVariants as fault
use Rattle.typing_rules.specs.Checked.{Checked}
use Rattle.typing_rules.specs.FileScope.{Program, tags}
use Rattle.typing_laws.specs.SmallPrograms.{IsSmallProgram}
use Rattle.typing_scopes.specs.declared.known.Known.{Known}
use Rattle.typing_scopes.specs.Known.{program, frame}
use Rattle.typing_scopes.specs.States.{no_frame}

-- what each program up to some item keeps: its types are small, its structs have members, its variables have types of objects, and its functions have distinct names
pub record IsSteady (p : Program) : Type 0 where
  pub small : IsSmallProgram p
  pub structs : IsTrue (are_layouts p.layouts)
  pub globals : AllByRecursion (λ d. IsTrue (keeps_rules p.layouts d.ctype)) p.globals
  pub names : IsTrue (are_distinct (map (λ f. f.name) p.functions))

-- no struct is being read, and no function
pub record IsAtFile (k : Known) : Type 0 where
  pub tags : k.tags ≡ tags (program k)
  pub frame : frame k ≡ no_frame
  pub steady : IsSteady (program k)

-- what a function ensures that makes the outcome of what was there, unless memory fails. After an error what was there is no longer used
abbrev pub Becomes : {A : Type 0} → Checked A → Checked (Unit {0}) → A → Type 0
Becomes outcome (Ok u) after = outcome ≡ Ok after
Becomes outcome (Err e) after = e ≢ fault.Memory → outcome ≡ Err e
