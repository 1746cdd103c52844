-- Members of a struct, step by step.
use Rattle.std.specs.Prelude.{false, List, [], ◌∷◌, ◌++◌, map}
use Rattle.c_words.specs.declared.word.Leaf.{Leaf}
use Rattle.c_words.specs.declared.chain.Chain.{Chain}
use Rattle.c_grammar.specs.declared.declaration.Declarator.{Declarator as DeclaratorTree}
use Rattle.c_grammar.specs.declared.program.Member.{Member}
use Rattle.step_meaning.specs.declared.value.CType.{CType}
use Rattle.step_meaning.specs.declared.program.Declared.{Declared as Named}
use Rattle.typing_rules.specs.Checked.{Checked, ◌>>=◌}
use Rattle.typing_rules.specs.Syntax.{Declarator, Members}
use Rattle.typing_rules.specs.Environment.{Environment, place_of, bytes_in, is_reserved, specified}
use Rattle.typing_rules.specs.Structs.{has_member, member_list}
use Rattle.typing_rules.specs.TreesOfDeclarations as trees
use Rattle.typing_declarators.specs.declared.name.DeclaredName.{DeclaredName}
use Rattle.typing_declarators.specs.Names.{declared_type}

-- what the rules see of the name of a member, after these members
abbrev pub member_name : Environment → List Named → Leaf → DeclaredName
member_name g ms t = record { place = place_of t; again = has_member g ms (bytes_in g t); wrong = false; is_value = false; reserved = is_reserved g (bytes_in g t) }

-- the type of a member, whose name keeps the rules
unfoldable pub member_type : Environment → CType → List Named → Declarator → Checked CType
member_type g base ms d = declared_type g (member_name g ms d.name) 1 d.modifiers base

-- one more member
abbrev pub with_member : Environment → Leaf → CType → List Named → List Named
with_member g t u ms = ms ++ (record { name = bytes_in g t; ctype = u } ∷ [])

-- the declarators after one base, and all of a struct
abbrev pub declarators_in : Chain DeclaratorTree → List Declarator
declarators_in c = map trees.declarator (trees.operands c)

abbrev pub members_in : List Member → List Members
members_in ms = map trees.members ms

-- the members of one declaration, after these
unfoldable pub declaration : Environment → List Named → Members → Checked (List Named)
declaration g ms x = specified g x.specifier >>= (λ base. member_list g base ms x.declarators)
