-- The abstract syntax of the concrete trees of expressions (C11 6.5).
use Rattle.std.specs.Prelude.{List, [], ◌∷◌, length, Option, Some, None}
use Rattle.c_words.specs.declared.chain.Chain.{Chain}
use Rattle.c_words.specs.declared.chain.Link.{Link}
use Rattle.c_grammar.specs.declared.types.TypeName.{TypeName}
use Rattle.c_grammar.specs.declared.expression.Assign.TheOpen.{Assign-F, Choice-F, Primary-F, Suffix-F, Unary-F, And-F, BitAnd-F, BitOr-F, BitXor-F, Equal-F, Or-F, Postfix-F, Product-F, Relation-F, Shift-F, Sum-F}
use Rattle.c_grammar.specs.declared.expression.Assign.{Assign, fold-Assign}
use Rattle.c_grammar.specs.declared.expression.Choice.{Choice, fold-Choice}
use Rattle.c_grammar.specs.declared.expression.Primary.{Primary, fold-Primary}
use Rattle.c_grammar.specs.declared.expression.Suffix.{Suffix, fold-Suffix}
use Rattle.c_grammar.specs.declared.expression.Unary.{Unary, fold-Unary}
use Rattle.c_grammar.specs.declared.expression.And.{And, fold-And}
use Rattle.c_grammar.specs.declared.expression.BitAnd.{BitAnd, fold-BitAnd}
use Rattle.c_grammar.specs.declared.expression.BitOr.{BitOr, fold-BitOr}
use Rattle.c_grammar.specs.declared.expression.BitXor.{BitXor, fold-BitXor}
use Rattle.c_grammar.specs.declared.expression.Equal.{Equal, fold-Equal}
use Rattle.c_grammar.specs.declared.expression.Or.{Or, fold-Or}
use Rattle.c_grammar.specs.declared.expression.Postfix.{Postfix, fold-Postfix}
use Rattle.c_grammar.specs.declared.expression.Product.{Product, fold-Product}
use Rattle.c_grammar.specs.declared.expression.Relation.{Relation, fold-Relation}
use Rattle.c_grammar.specs.declared.expression.Shift.{Shift, fold-Shift}
use Rattle.c_grammar.specs.declared.expression.Sum.{Sum, fold-Sum}
use Rattle.typing_rules.specs.Syntax as syntax
use Rattle.typing_rules.specs.Syntax.{Expression, Expressions, Spelled}

-- ---- expressions of concrete trees

abbrev E : Type 0
E = Expression

abbrev pub same_expression : E → E
same_expression x = x

-- a chain, from the left
module _ {A : Type 0} (f : A → E) where
  unfoldable pub links : E → List (Link A) → E
  links x [] = x
  links x (l ∷ ls) = links (syntax.Binary x l.operator (f l.operand)) ls

  unfoldable pub chain : Chain A → E
  chain c = links (f c.first) c.rest

  unfoldable pub listed_after : List (Link A) → Expressions
  listed_after [] = syntax.NoMore
  listed_after (l ∷ ls) = syntax.Then (f l.operand) (listed_after ls)

  -- a list between commas
  unfoldable pub listed : Option (Chain A) → Expressions
  listed None = syntax.NoMore
  listed (Some c) = syntax.Then (f c.first) (listed_after c.rest)

-- each suffix stands after all that is before it
unfoldable pub suffixed : E → List (E → E) → E
suffixed x [] = x
suffixed x (f ∷ fs) = suffixed (f x) fs

abbrev pub spelled : TypeName → Spelled
spelled t = record { specifier = t.base.specifier; stars = length t.stars }

unfoldable pub assign_step : Assign-F E E E (E → E) E E E E E E E E E E E E → E
assign_step (Assign-F.Choice x) = x
assign_step (Assign-F.Assign left operator right) = syntax.Assign left operator right

unfoldable pub choice_step : Choice-F E E E (E → E) E E E E E E E E E E E E → E
choice_step (Choice-F.Or x) = x
choice_step (Choice-F.Choose test question second colon third) = syntax.Choose test question second third

unfoldable pub primary_step : Primary-F E E E (E → E) E E E E E E E E E E E E → E
primary_step (Primary-F.Name name) = syntax.Name name
primary_step (Primary-F.Call name opening arguments closing) = syntax.Call name (listed same_expression arguments)
primary_step (Primary-F.Number number) = syntax.Number number
primary_step (Primary-F.Character character) = syntax.Character character
primary_step (Primary-F.Paren opening inside closing) = syntax.Paren opening inside

unfoldable pub suffix_step : Suffix-F E E E (E → E) E E E E E E E E E E E E → E → E
suffix_step (Suffix-F.Index opening index closing) x = syntax.Index x opening index
suffix_step (Suffix-F.Member dot name) x = syntax.Member x dot name
suffix_step (Suffix-F.Arrow arrow name) x = syntax.Arrow x arrow name
suffix_step (Suffix-F.Increment operator) x = syntax.Increment x operator
suffix_step (Suffix-F.Decrement operator) x = syntax.Decrement x operator

unfoldable pub unary_step : Unary-F E E E (E → E) E E E E E E E E E E E E → E
unary_step (Unary-F.Postfix x) = x
unary_step (Unary-F.Prefix operator operand) = syntax.Prefix operator operand
unary_step (Unary-F.Cast opening type closing operand) = syntax.Cast opening (spelled type) operand
unary_step (Unary-F.SizeOf word operand) = syntax.SizeOf word operand
unary_step (Unary-F.SizeOfType word opening type closing) = syntax.SizeOfType word (spelled type)

unfoldable pub postfix_step : Postfix-F E E E (E → E) E E E E E E E E E E E E → E
postfix_step x = suffixed x.primary x.suffixes

unfoldable pub product_step : Product-F E E E (E → E) E E E E E E E E E E E E → E
product_step x = chain same_expression x.0

unfoldable pub sum_step : Sum-F E E E (E → E) E E E E E E E E E E E E → E
sum_step x = chain same_expression x.0

unfoldable pub shift_step : Shift-F E E E (E → E) E E E E E E E E E E E E → E
shift_step x = chain same_expression x.0

unfoldable pub relation_step : Relation-F E E E (E → E) E E E E E E E E E E E E → E
relation_step x = chain same_expression x.0

unfoldable pub equal_step : Equal-F E E E (E → E) E E E E E E E E E E E E → E
equal_step x = chain same_expression x.0

unfoldable pub bit_and_step : BitAnd-F E E E (E → E) E E E E E E E E E E E E → E
bit_and_step x = chain same_expression x.0

unfoldable pub bit_xor_step : BitXor-F E E E (E → E) E E E E E E E E E E E E → E
bit_xor_step x = chain same_expression x.0

unfoldable pub bit_or_step : BitOr-F E E E (E → E) E E E E E E E E E E E E → E
bit_or_step x = chain same_expression x.0

unfoldable pub and_step : And-F E E E (E → E) E E E E E E E E E E E E → E
and_step x = chain same_expression x.0

unfoldable pub or_step : Or-F E E E (E → E) E E E E E E E E E E E E → E
or_step x = chain same_expression x.0

-- ---- what an expression of a tree says

unfoldable pub assign : Assign → E
assign = fold-Assign E E E (E → E) E E E E E E E E E E E E
    assign_step choice_step primary_step suffix_step unary_step and_step bit_and_step bit_or_step bit_xor_step equal_step or_step postfix_step product_step relation_step shift_step sum_step

unfoldable pub choice : Choice → E
choice = fold-Choice E E E (E → E) E E E E E E E E E E E E
    assign_step choice_step primary_step suffix_step unary_step and_step bit_and_step bit_or_step bit_xor_step equal_step or_step postfix_step product_step relation_step shift_step sum_step

unfoldable pub unary : Unary → E
unary = fold-Unary E E E (E → E) E E E E E E E E E E E E
    assign_step choice_step primary_step suffix_step unary_step and_step bit_and_step bit_or_step bit_xor_step equal_step or_step postfix_step product_step relation_step shift_step sum_step

unfoldable pub postfix : Postfix → E
postfix = fold-Postfix E E E (E → E) E E E E E E E E E E E E
    assign_step choice_step primary_step suffix_step unary_step and_step bit_and_step bit_or_step bit_xor_step equal_step or_step postfix_step product_step relation_step shift_step sum_step

unfoldable pub primary : Primary → E
primary = fold-Primary E E E (E → E) E E E E E E E E E E E E
    assign_step choice_step primary_step suffix_step unary_step and_step bit_and_step bit_or_step bit_xor_step equal_step or_step postfix_step product_step relation_step shift_step sum_step

unfoldable pub suffix : Suffix → E → E
suffix = fold-Suffix E E E (E → E) E E E E E E E E E E E E
    assign_step choice_step primary_step suffix_step unary_step and_step bit_and_step bit_or_step bit_xor_step equal_step or_step postfix_step product_step relation_step shift_step sum_step

unfoldable pub product : Product → E
product = fold-Product E E E (E → E) E E E E E E E E E E E E
    assign_step choice_step primary_step suffix_step unary_step and_step bit_and_step bit_or_step bit_xor_step equal_step or_step postfix_step product_step relation_step shift_step sum_step

unfoldable pub sum : Sum → E
sum = fold-Sum E E E (E → E) E E E E E E E E E E E E
    assign_step choice_step primary_step suffix_step unary_step and_step bit_and_step bit_or_step bit_xor_step equal_step or_step postfix_step product_step relation_step shift_step sum_step

unfoldable pub shift : Shift → E
shift = fold-Shift E E E (E → E) E E E E E E E E E E E E
    assign_step choice_step primary_step suffix_step unary_step and_step bit_and_step bit_or_step bit_xor_step equal_step or_step postfix_step product_step relation_step shift_step sum_step

unfoldable pub relation : Relation → E
relation = fold-Relation E E E (E → E) E E E E E E E E E E E E
    assign_step choice_step primary_step suffix_step unary_step and_step bit_and_step bit_or_step bit_xor_step equal_step or_step postfix_step product_step relation_step shift_step sum_step

unfoldable pub equal : Equal → E
equal = fold-Equal E E E (E → E) E E E E E E E E E E E E
    assign_step choice_step primary_step suffix_step unary_step and_step bit_and_step bit_or_step bit_xor_step equal_step or_step postfix_step product_step relation_step shift_step sum_step

unfoldable pub bit_and : BitAnd → E
bit_and = fold-BitAnd E E E (E → E) E E E E E E E E E E E E
    assign_step choice_step primary_step suffix_step unary_step and_step bit_and_step bit_or_step bit_xor_step equal_step or_step postfix_step product_step relation_step shift_step sum_step

unfoldable pub bit_xor : BitXor → E
bit_xor = fold-BitXor E E E (E → E) E E E E E E E E E E E E
    assign_step choice_step primary_step suffix_step unary_step and_step bit_and_step bit_or_step bit_xor_step equal_step or_step postfix_step product_step relation_step shift_step sum_step

unfoldable pub bit_or : BitOr → E
bit_or = fold-BitOr E E E (E → E) E E E E E E E E E E E E
    assign_step choice_step primary_step suffix_step unary_step and_step bit_and_step bit_or_step bit_xor_step equal_step or_step postfix_step product_step relation_step shift_step sum_step

unfoldable pub and : And → E
and = fold-And E E E (E → E) E E E E E E E E E E E E
    assign_step choice_step primary_step suffix_step unary_step and_step bit_and_step bit_or_step bit_xor_step equal_step or_step postfix_step product_step relation_step shift_step sum_step

unfoldable pub or : Or → E
or = fold-Or E E E (E → E) E E E E E E E E E E E E
    assign_step choice_step primary_step suffix_step unary_step and_step bit_and_step bit_or_step bit_xor_step equal_step or_step postfix_step product_step relation_step shift_step sum_step
