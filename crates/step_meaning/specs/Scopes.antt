-- What is asked of a scope: the names in view with their variables and types, and the core whose functions and structs they are beside (C11 6.2.1).
use Rattle.std.specs.Prelude.{◌≢◌, ◌⊎◌, ◌≡◌, ℕ, ◌≤◌, Bool, ◌||◌, List, map, length, take, IsTrue}
use Rattle.std.specs.List.{AllByRecursion, AllPairs, list_all}
use Rattle.step_meaning.specs.declared.value.CType.{CType}
use Rattle.step_meaning.specs.declared.value.CType.TheVariants.{Void}
use Rattle.step_meaning.specs.declared.expr.Variable.{Variable}
use Rattle.step_meaning.specs.declared.program.Core.{Core}
use Rattle.step_meaning.specs.declared.program.Function.{Function}
use Rattle.step_meaning.specs.TypeRules.{are_layouts, keeps_rules}
use Rattle.step_meaning.specs.Identifiers.{are_distinct}
use Rattle.step_meaning.specs.Types.{same_type}
use Rattle.step_meaning.specs.Library.{void_pointer}

-- a name in view: its bytes, the variable that it names, and the variable's type
pub record Entry : Type 0 where
  pub name : List ℕ
  pub variable : Variable
  pub ctype : CType

-- a type that keeps the rules, or a pointer to `void`
abbrev pub may_be_passed : Core → CType → Bool
may_be_passed q t = keeps_rules q.layouts t || same_type t void_pointer

abbrev pub ParametersKeepRules : Core → Function → Type 0
ParametersKeepRules q f = AllByRecursion (λ d. IsTrue (may_be_passed q d.ctype)) (take f.params f.locals)

-- a result is `void` or has such a type
abbrev pub ResultKeepsRules : Core → Function → Type 0
ResultKeepsRules q f = (f.result ≡ Void) ⊎ IsTrue (may_be_passed q f.result)

pub record IsScope (entries : List Entry) (q : Core) : Type 0 where
  -- names are distinct. Two of them may name one variable
  pub distinct_entries : AllPairs (λ e f. e.name ≢ f.name) entries
  pub distinct_functions : AllPairs (λ f g. f.name ≢ g.name) q.functions
  pub layouts : IsTrue (are_layouts q.layouts)
  -- tags are distinct, and so are the members of one struct
  pub tags : IsTrue (are_distinct (map (λ l. l.tag) q.layouts))
  pub members : IsTrue (list_all (λ l. are_distinct (map (λ d. d.name) l.members)) q.layouts)
  -- types keep the rules, and name no structs but those of the core; parameters and results may be a pointer to `void`, as `malloc` and `free` have it
  pub entry_types : AllByRecursion (λ e. IsTrue (keeps_rules q.layouts e.ctype)) entries
  pub parameter_types : AllByRecursion (ParametersKeepRules q) q.functions
  pub result_types : AllByRecursion (ResultKeepsRules q) q.functions
  -- the parameters are the first of the locals
  pub parameters : AllByRecursion (λ f. f.params ≤ length f.locals) q.functions
