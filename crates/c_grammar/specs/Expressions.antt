-- The grammar of expressions (C11 6.5): what each tree writes. A part that recurs stands as what it writes.
use Rattle.std.specs.Prelude.{ℕ, Bool, true, false, not, ◌||◌, List, [], ◌∷◌, Option, Some, None}
use Rattle.c_words.specs.declared.word.Word.{Word}
use Rattle.c_words.specs.declared.word.Word.TheVariants as w
use Rattle.c_words.specs.declared.word.Leaf.{Leaf}
use Rattle.c_words.specs.declared.chain.Chain.{Chain}
use Rattle.c_grammar.specs.declared.expression.Assign.TheOpen.{Assign-F, Choice-F, Primary-F, Suffix-F, Unary-F, And-F, BitAnd-F, BitOr-F, BitXor-F, Equal-F, Or-F, Postfix-F, Product-F, Relation-F, Shift-F, Sum-F}
use Rattle.c_grammar.specs.declared.expression.Assign.{Assign, fold-Assign}
use Rattle.c_grammar.specs.declared.expression.Choice.{Choice, fold-Choice}
use Rattle.c_grammar.specs.declared.expression.Primary.{Primary, fold-Primary}
use Rattle.c_grammar.specs.declared.expression.Suffix.{Suffix, fold-Suffix}
use Rattle.c_grammar.specs.declared.expression.Unary.{Unary, fold-Unary}
use Rattle.c_grammar.specs.declared.expression.And.{And, fold-And}
use Rattle.c_grammar.specs.declared.expression.BitAnd.{BitAnd, fold-BitAnd}
use Rattle.c_grammar.specs.declared.expression.BitOr.{BitOr, fold-BitOr}
use Rattle.c_grammar.specs.declared.expression.BitXor.{BitXor, fold-BitXor}
use Rattle.c_grammar.specs.declared.expression.Equal.{Equal, fold-Equal}
use Rattle.c_grammar.specs.declared.expression.Or.{Or, fold-Or}
use Rattle.c_grammar.specs.declared.expression.Postfix.{Postfix, fold-Postfix}
use Rattle.c_grammar.specs.declared.expression.Product.{Product, fold-Product}
use Rattle.c_grammar.specs.declared.expression.Relation.{Relation, fold-Relation}
use Rattle.c_grammar.specs.declared.expression.Shift.{Shift, fold-Shift}
use Rattle.c_grammar.specs.declared.expression.Sum.{Sum, fold-Sum}
use Rattle.c_words.specs.OperatorWords.{is_comma, is_product_operator, is_sum_operator, is_shift_operator, is_relation_operator, is_equal_operator, is_prefix_operator, is_assignment_operator}
use Rattle.c_words.specs.Words.{same}
use Rattle.c_words.specs.Written.{Written, nothing, ◌then◌, one, one_of, nested, only, optional, run, chain}
use Rattle.c_grammar.specs.Types.{type_name}

-- ---- one layer of a tree

abbrev written : Written → Written
written x = x

-- what an operand writes, and whether it is a cast
pub record OperandShape : Type 0 where
  pub written : Written
  pub cast : Bool

abbrev operand_written : OperandShape → Written
operand_written x = x.written

abbrev no_cast : Written → OperandShape
no_cast a = record { written = a; cast = false }

unfoldable pub assign_step : Assign-F Written Written Written Written OperandShape Written Written Written Written Written Written Written Written Written Written Written → Written
assign_step (Assign-F.Choice a) = a
assign_step (Assign-F.Assign left operator right) = left.written then one_of is_assignment_operator operator then nested right

unfoldable pub choice_step : Choice-F Written Written Written Written OperandShape Written Written Written Written Written Written Written Written Written Written Written → Written
choice_step (Choice-F.Or a) = a
choice_step (Choice-F.Choose test question second colon third) = test then one w.Question question then nested second then one w.Colon colon then nested third

unfoldable pub primary_step : Primary-F Written Written Written Written OperandShape Written Written Written Written Written Written Written Written Written Written Written → Written
primary_step (Primary-F.Name name) = one w.Name name
primary_step (Primary-F.Call name opening arguments closing) =
    one w.Name name then one w.LeftParen opening then optional (λ all. nested (chain is_comma written all)) arguments then one w.RightParen closing
primary_step (Primary-F.Number number) = one w.Number number
primary_step (Primary-F.Character character) = one w.Character character
primary_step (Primary-F.Paren opening inside closing) = one w.LeftParen opening then nested inside then one w.RightParen closing

unfoldable pub suffix_step : Suffix-F Written Written Written Written OperandShape Written Written Written Written Written Written Written Written Written Written Written → Written
suffix_step (Suffix-F.Index opening index closing) = one w.LeftBracket opening then nested index then one w.RightBracket closing
suffix_step (Suffix-F.Member dot name) = one w.Dot dot then one w.Name name
suffix_step (Suffix-F.Arrow arrow name) = one w.Arrow arrow then one w.Name name
suffix_step (Suffix-F.Increment operator) = one w.Increment operator
suffix_step (Suffix-F.Decrement operator) = one w.Decrement operator

-- The operand of `sizeof` is no cast: after it, a type in parentheses stands alone (C11 6.5.3). The parentheses nest the type, as those of a cast do.
unfoldable pub unary_step : Unary-F Written Written Written Written OperandShape Written Written Written Written Written Written Written Written Written Written Written → OperandShape
unary_step (Unary-F.Postfix a) = no_cast a
unary_step (Unary-F.Prefix operator operand) = no_cast (one_of is_prefix_operator operator then nested operand.written)
unary_step (Unary-F.Cast opening type closing operand) = record {
  written = one w.LeftParen opening then nested (type_name type) then one w.RightParen closing then nested operand.written;
  cast = true;
}
unary_step (Unary-F.SizeOf first operand) = no_cast (one w.SizeOf first then nested operand.written then only (not operand.cast))
unary_step (Unary-F.SizeOfType first opening type closing) =
    no_cast (one w.SizeOf first then one w.LeftParen opening then nested (type_name type) then one w.RightParen closing)

unfoldable pub postfix_step : Postfix-F Written Written Written Written OperandShape Written Written Written Written Written Written Written Written Written Written Written → Written
postfix_step a = a.primary then run written a.suffixes

unfoldable pub product_step : Product-F Written Written Written Written OperandShape Written Written Written Written Written Written Written Written Written Written Written → Written
product_step a = chain is_product_operator operand_written a.0

unfoldable pub sum_step : Sum-F Written Written Written Written OperandShape Written Written Written Written Written Written Written Written Written Written Written → Written
sum_step a = chain is_sum_operator written a.0

unfoldable pub shift_step : Shift-F Written Written Written Written OperandShape Written Written Written Written Written Written Written Written Written Written Written → Written
shift_step a = chain is_shift_operator written a.0

unfoldable pub relation_step : Relation-F Written Written Written Written OperandShape Written Written Written Written Written Written Written Written Written Written Written → Written
relation_step a = chain is_relation_operator written a.0

unfoldable pub equal_step : Equal-F Written Written Written Written OperandShape Written Written Written Written Written Written Written Written Written Written Written → Written
equal_step a = chain is_equal_operator written a.0

unfoldable pub bit_and_step : BitAnd-F Written Written Written Written OperandShape Written Written Written Written Written Written Written Written Written Written Written → Written
bit_and_step a = chain (same w.Ampersand) written a.0

unfoldable pub bit_xor_step : BitXor-F Written Written Written Written OperandShape Written Written Written Written Written Written Written Written Written Written Written → Written
bit_xor_step a = chain (same w.Caret) written a.0

unfoldable pub bit_or_step : BitOr-F Written Written Written Written OperandShape Written Written Written Written Written Written Written Written Written Written Written → Written
bit_or_step a = chain (same w.Bar) written a.0

unfoldable pub and_step : And-F Written Written Written Written OperandShape Written Written Written Written Written Written Written Written Written Written Written → Written
and_step a = chain (same w.AndAnd) written a.0

unfoldable pub or_step : Or-F Written Written Written Written OperandShape Written Written Written Written Written Written Written Written Written Written Written → Written
or_step a = chain (same w.OrOr) written a.0

-- ---- trees

unfoldable pub assign : Assign → Written
assign = fold-Assign Written Written Written Written OperandShape Written Written Written Written Written Written Written Written Written Written Written
    assign_step choice_step primary_step suffix_step unary_step and_step bit_and_step bit_or_step bit_xor_step equal_step or_step postfix_step product_step relation_step shift_step sum_step

unfoldable pub choice : Choice → Written
choice = fold-Choice Written Written Written Written OperandShape Written Written Written Written Written Written Written Written Written Written Written
    assign_step choice_step primary_step suffix_step unary_step and_step bit_and_step bit_or_step bit_xor_step equal_step or_step postfix_step product_step relation_step shift_step sum_step

unfoldable pub or : Or → Written
or = fold-Or Written Written Written Written OperandShape Written Written Written Written Written Written Written Written Written Written Written
    assign_step choice_step primary_step suffix_step unary_step and_step bit_and_step bit_or_step bit_xor_step equal_step or_step postfix_step product_step relation_step shift_step sum_step

unfoldable pub and : And → Written
and = fold-And Written Written Written Written OperandShape Written Written Written Written Written Written Written Written Written Written Written
    assign_step choice_step primary_step suffix_step unary_step and_step bit_and_step bit_or_step bit_xor_step equal_step or_step postfix_step product_step relation_step shift_step sum_step

unfoldable pub bit_or : BitOr → Written
bit_or = fold-BitOr Written Written Written Written OperandShape Written Written Written Written Written Written Written Written Written Written Written
    assign_step choice_step primary_step suffix_step unary_step and_step bit_and_step bit_or_step bit_xor_step equal_step or_step postfix_step product_step relation_step shift_step sum_step

unfoldable pub bit_xor : BitXor → Written
bit_xor = fold-BitXor Written Written Written Written OperandShape Written Written Written Written Written Written Written Written Written Written Written
    assign_step choice_step primary_step suffix_step unary_step and_step bit_and_step bit_or_step bit_xor_step equal_step or_step postfix_step product_step relation_step shift_step sum_step

unfoldable pub bit_and : BitAnd → Written
bit_and = fold-BitAnd Written Written Written Written OperandShape Written Written Written Written Written Written Written Written Written Written Written
    assign_step choice_step primary_step suffix_step unary_step and_step bit_and_step bit_or_step bit_xor_step equal_step or_step postfix_step product_step relation_step shift_step sum_step

unfoldable pub equal : Equal → Written
equal = fold-Equal Written Written Written Written OperandShape Written Written Written Written Written Written Written Written Written Written Written
    assign_step choice_step primary_step suffix_step unary_step and_step bit_and_step bit_or_step bit_xor_step equal_step or_step postfix_step product_step relation_step shift_step sum_step

unfoldable pub relation : Relation → Written
relation = fold-Relation Written Written Written Written OperandShape Written Written Written Written Written Written Written Written Written Written Written
    assign_step choice_step primary_step suffix_step unary_step and_step bit_and_step bit_or_step bit_xor_step equal_step or_step postfix_step product_step relation_step shift_step sum_step

unfoldable pub shift : Shift → Written
shift = fold-Shift Written Written Written Written OperandShape Written Written Written Written Written Written Written Written Written Written Written
    assign_step choice_step primary_step suffix_step unary_step and_step bit_and_step bit_or_step bit_xor_step equal_step or_step postfix_step product_step relation_step shift_step sum_step

unfoldable pub sum : Sum → Written
sum = fold-Sum Written Written Written Written OperandShape Written Written Written Written Written Written Written Written Written Written Written
    assign_step choice_step primary_step suffix_step unary_step and_step bit_and_step bit_or_step bit_xor_step equal_step or_step postfix_step product_step relation_step shift_step sum_step

unfoldable pub product : Product → Written
product = fold-Product Written Written Written Written OperandShape Written Written Written Written Written Written Written Written Written Written Written
    assign_step choice_step primary_step suffix_step unary_step and_step bit_and_step bit_or_step bit_xor_step equal_step or_step postfix_step product_step relation_step shift_step sum_step

unfoldable pub unary_shape : Unary → OperandShape
unary_shape = fold-Unary Written Written Written Written OperandShape Written Written Written Written Written Written Written Written Written Written Written
    assign_step choice_step primary_step suffix_step unary_step and_step bit_and_step bit_or_step bit_xor_step equal_step or_step postfix_step product_step relation_step shift_step sum_step

unfoldable pub unary : Unary → Written
unary a = (unary_shape a).written

unfoldable pub is_cast : Unary → Bool
is_cast a = (unary_shape a).cast

unfoldable pub postfix : Postfix → Written
postfix = fold-Postfix Written Written Written Written OperandShape Written Written Written Written Written Written Written Written Written Written Written
    assign_step choice_step primary_step suffix_step unary_step and_step bit_and_step bit_or_step bit_xor_step equal_step or_step postfix_step product_step relation_step shift_step sum_step

unfoldable pub suffix : Suffix → Written
suffix = fold-Suffix Written Written Written Written OperandShape Written Written Written Written Written Written Written Written Written Written Written
    assign_step choice_step primary_step suffix_step unary_step and_step bit_and_step bit_or_step bit_xor_step equal_step or_step postfix_step product_step relation_step shift_step sum_step

unfoldable pub primary : Primary → Written
primary = fold-Primary Written Written Written Written OperandShape Written Written Written Written Written Written Written Written Written Written Written
    assign_step choice_step primary_step suffix_step unary_step and_step bit_and_step bit_or_step bit_xor_step equal_step or_step postfix_step product_step relation_step shift_step sum_step
