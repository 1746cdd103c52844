-- Declarations of a body, step by step.
use Rattle.std.specs.Prelude.{◌≡◌, ℕ, false, is_some, List, [], ◌∷◌, map, Option, Some, None, Ok}
use Rattle.c_words.specs.declared.word.Leaf.{Leaf}
use Rattle.c_words.specs.declared.chain.Chain.{Chain}
use Rattle.c_grammar.specs.declared.types.Specifier.{Specifier}
use Rattle.c_grammar.specs.declared.declaration.Declared.{Declared as DeclaredTree}
use Rattle.step_meaning.specs.declared.value.CType.{CType}
use Rattle.step_meaning.specs.declared.stmt.Stmt.{Stmt}
use Rattle.typing_rules.specs.Checked.{Checked, ◌>>=◌}
use Rattle.typing_rules.specs.Environment.{Environment, place_of, bytes_in, is_reserved, found_in}
use Rattle.typing_rules.specs.Syntax.{Declared, Local}
use Rattle.typing_rules.specs.TreesOfDeclarations as trees
use Rattle.typing_rules.specs.Declarations.{count_of}
use Rattle.typing_rules.specs.Statements as rules
use Rattle.typing_rules.specs.Statements.{Frame, innermost}
use Rattle.typing_declarators.specs.declared.name.DeclaredName.{DeclaredName}
use Rattle.typing_declarators.specs.Names.{declared_type}
use Rattle.typing_laws.specs.SmallTypes.{IsSmallType}

-- what the rules see of the name of a local, in a body with this environment of file scope
abbrev pub local_name : Environment → Leaf → Frame → DeclaredName
local_name g t f = record {
  place = place_of t;
  again = is_some (found_in (innermost f.scopes) (bytes_in g t));
  wrong = false;
  is_value = false;
  reserved = is_reserved g (bytes_in g t);
}

-- the type of a local, whose name keeps the rules
unfoldable pub local_type : Environment → CType → CType → Declared → Frame → Checked CType
local_type g r base d f = declared_type (rules.seen g r f) (local_name g d.declarator.name f) (count_of d.initialiser) d.declarator.modifiers base

-- a local of this type, and the statements that initialise it
unfoldable pub local_of : Environment → CType → Declared → CType → Frame → Checked (List Stmt × Frame)
local_of g r d t f = rules.declared_as g r d.declarator.name t f >>= (λ n. rules.initialised g r n.0 t d.initialiser n.1)

-- what a name and a type have to keep for a local to be declared
pub record MayBeLocal (g : Environment) (name : Leaf) (t : CType) (f : Frame) : Type 0 where
  pub new : is_some (found_in (innermost f.scopes) (bytes_in g name)) ≡ false
  pub small : IsSmallType g.layouts t

-- all that a declaration declares, and the declaration with its specifier
abbrev pub declared_in : Chain DeclaredTree → List Declared
declared_in c = map trees.declared (trees.operands c)

abbrev pub spelled_local : Specifier → Chain DeclaredTree → Local
spelled_local x c = record { specifier = x; declared = declared_in c }
