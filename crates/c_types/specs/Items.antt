-- Items, step by step.
use Rattle.std.specs.Prelude.{List, map, Option}
use Rattle.c_words.specs.declared.word.Leaf.{Leaf}
use Rattle.c_words.specs.declared.chain.Chain.{Chain}
use Rattle.c_grammar.specs.declared.types.Specifier.{Specifier}
use Rattle.c_grammar.specs.declared.declaration.Declared.{Declared as DeclaredTree}
use Rattle.typing_rules.specs.Syntax.{Members, Declared, Item, Struct, Variables}
use Rattle.typing_rules.specs.TreesOfDeclarations as trees

-- what a definition of a struct declares
abbrev pub declared_there : Option (Chain DeclaredTree) → List Declared
declared_there o = map trees.declared (trees.operands_there o)

abbrev pub struct_item : Leaf → List Members → List Declared → Item
struct_item tag ms ds = Struct tag ms ds

abbrev pub variables_item : Specifier → List Declared → Item
variables_item x ds = Variables x ds
