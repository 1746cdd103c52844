-- Variables of file scope, step by step.
use Rattle.std.specs.Prelude.{◌≡◌, false, List, map, Ok, IsTrue}
use Rattle.c_words.specs.declared.word.Leaf.{Leaf}
use Rattle.c_words.specs.declared.chain.Chain.{Chain}
use Rattle.c_grammar.specs.declared.declaration.Declared.{Declared as DeclaredTree}
use Rattle.step_meaning.specs.declared.value.CType.{CType}
use Rattle.step_meaning.specs.TypeRules.{keeps_rules}
use Rattle.typing_rules.specs.Checked.{Checked, ◌>>=◌}
use Rattle.typing_rules.specs.Syntax.{Declared}
use Rattle.typing_rules.specs.Environment.{place_of, is_reserved}
use Rattle.typing_rules.specs.Declarations.{count_of, is_complete_in, is_within_limit}
use Rattle.typing_rules.specs.FileScope.{Program, seen_now, bytes, is_known, is_main_name, first_values, with_variable, with_values}
use Rattle.typing_rules.specs.TreesOfDeclarations as trees
use Rattle.typing_declarators.specs.declared.name.DeclaredName.{DeclaredName}
use Rattle.typing_declarators.specs.Names.{declared_type}

-- what the rules see of the name of a variable
abbrev pub variable_name : Program → Leaf → DeclaredName
variable_name p t = record {
  place = place_of t;
  again = is_known p (bytes p t);
  wrong = is_main_name (bytes p t);
  is_value = false;
  reserved = is_reserved (seen_now p) (bytes p t);
}

-- the type of a variable, whose name keeps the rules
unfoldable pub variable_type : Program → CType → Declared → Checked CType
variable_type p base d = declared_type (seen_now p) (variable_name p d.declarator.name) (count_of d.initialiser) d.declarator.modifiers base

-- a variable of this type, and the values that its cells start with
unfoldable pub variable_of : Declared → CType → Program → Checked Program
variable_of d t p =
    let name = bytes p d.declarator.name in
    first_values (with_variable p name t) t d.initialiser >>= (λ vs. Ok (with_values (with_variable p name t) vs))

-- what a name and a type have to keep for a variable to be declared
pub record MayBeVariable (p : Program) (name : Leaf) (t : CType) : Type 0 where
  pub new : is_known p (bytes p name) ≡ false
  pub complete : IsTrue (is_complete_in (seen_now p) t)
  pub small : IsTrue (is_within_limit p.layouts t)
  pub keep : IsTrue (keeps_rules p.layouts t)

-- all that a declaration declares
abbrev pub declared_in : Chain DeclaredTree → List Declared
declared_in c = map trees.declared (trees.operands c)
