-- Examples of the rules on operators (C11 6.5.3 to 6.5.15): each text breaks the rule with this number, at this column, or none.
use Rattle.std.proofs.Common.{◌≡◌, refl, List, [], ◌∷◌, codes, Some, None}
use Rattle.c_lexer.specs.declared.token.IntSuffix.TheVariants as suffix
use Rattle.c_words.specs.declared.word.Word.TheVariants as w
use Rattle.typing_rules.specs.Syntax.{Name, Number, Paren, Call, Index, Member, Arrow, Prefix, Cast, Binary, Choose, Assign, NoMore, PointerTo, ArrayOf, NoFirst, Nothing, Evaluate, If, While, Do, For, Break, Return, End, Next, Struct, Variables, Function}
use Rattle.typing_rules.proofs.ExampleTexts.{name, number, suffixed, word, mark, int, char, void, struct, spelled, declarator, declared, members, Row, row, outcomes, refusals}
use Rattle.typing_rules.specs.Checked as checked_rules
use Rattle.typing_rules.specs.Environment as environment_rules
use Rattle.typing_rules.specs.Nodes as nodes_rules
use Rattle.typing_rules.specs.Judgements as judgements_rules
use Rattle.typing_rules.specs.Operands as operands_rules
use Rattle.typing_rules.specs.Operators as operators_rules
use Rattle.typing_rules.specs.Assignments as assignments_rules
use Rattle.typing_rules.specs.Subobjects as subobjects_rules
use Rattle.typing_rules.specs.Allocation as allocation_rules
use Rattle.typing_rules.specs.Expressions as expressions_rules
use Rattle.typing_rules.specs.ConstantExpressions as constant_expressions_rules
use Rattle.typing_rules.specs.Declarations as declarations_rules
use Rattle.typing_rules.specs.Initialisers as initialisers_rules
use Rattle.typing_rules.specs.Statements as statements_rules
use Rattle.typing_rules.specs.Weights as weights_rules
use Rattle.typing_rules.specs.FileScope as file_scope_rules
use Rattle.typing_rules.specs.Structs as structs_rules
use Rattle.typing_rules.specs.Functions as functions_rules
use Rattle.typing_rules.specs.Programs as programs_rules
use Rattle.c_lexer.specs.Numbers as number_rules
use Rattle.c_lexer.specs.Lexemes as lexeme_rules
use Rattle.step_meaning.specs.declared.value.CType.TheBlock as type_rows
use Rattle.step_meaning.specs.declared.expr.Expr.TheBlock as expression_rows
use Rattle.step_meaning.specs.declared.stmt.Stmt.TheBlock as statement_rows
use denote.Hole.Carrier.{hidden}

-- operators that take integers alone
abbrev integers_rows : List Row
integers_rows =
    -- int x; int *p; int *q; char *c; int a[3]; int main(void) { x = x * 2 / 3 % 4 << 1 >> 1 & 7 ^ 1 | 2; return 0; }
    row (codes "int x; int *p; int *q; char *c; int a[3]; int main(void) { x = x * 2 / 3 % 4 << 1 >> 1 & 7 ^ 1 | 2; return 0; }") ((Variables (int 0 3) ((declared (name 4 5) [] None) ∷ [])) ∷ (Variables (int 7 10) ((declared (name 12 13) (PointerTo ∷ []) None) ∷ [])) ∷ (Variables (int 15 18) ((declared (name 20 21) (PointerTo ∷ []) None) ∷ [])) ∷ (Variables (char 23 27) ((declared (name 29 30) (PointerTo ∷ []) None) ∷ [])) ∷ (Variables (int 32 35) ((declared (name 36 37) ((ArrayOf (Number (number 38 39))) ∷ []) None) ∷ [])) ∷ (Function (spelled (int 42 45) 0) (name 46 50) [] (Some (Next (Evaluate (Assign (Name (name 59 60)) (mark w.Assign 61 62) (Binary (Binary (Binary (Binary (Binary (Binary (Binary (Binary (Name (name 63 64)) (mark w.Star 65 66) (Number (number 67 68))) (mark w.Slash 69 70) (Number (number 71 72))) (mark w.Percent 73 74) (Number (number 75 76))) (mark w.ShiftLeft 77 79) (Number (number 80 81))) (mark w.ShiftRight 82 84) (Number (number 85 86))) (mark w.Ampersand 87 88) (Number (number 89 90))) (mark w.Caret 91 92) (Number (number 93 94))) (mark w.Bar 95 96) (Number (number 97 98))))) (Next (Return (word w.Return 100 106) (Some (Number (number 107 108)))) End)))) ∷ []) 0 0 ∷
    -- int x; int *p; int *q; char *c; int a[3]; int main(void) { x = p * 2; return 0; }
    row (codes "int x; int *p; int *q; char *c; int a[3]; int main(void) { x = p * 2; return 0; }") ((Variables (int 0 3) ((declared (name 4 5) [] None) ∷ [])) ∷ (Variables (int 7 10) ((declared (name 12 13) (PointerTo ∷ []) None) ∷ [])) ∷ (Variables (int 15 18) ((declared (name 20 21) (PointerTo ∷ []) None) ∷ [])) ∷ (Variables (char 23 27) ((declared (name 29 30) (PointerTo ∷ []) None) ∷ [])) ∷ (Variables (int 32 35) ((declared (name 36 37) ((ArrayOf (Number (number 38 39))) ∷ []) None) ∷ [])) ∷ (Function (spelled (int 42 45) 0) (name 46 50) [] (Some (Next (Evaluate (Assign (Name (name 59 60)) (mark w.Assign 61 62) (Binary (Name (name 63 64)) (mark w.Star 65 66) (Number (number 67 68))))) (Next (Return (word w.Return 70 76) (Some (Number (number 77 78)))) End)))) ∷ []) 123 66 ∷
    -- int x; int *p; int *q; char *c; int a[3]; int main(void) { x = 2 % p; return 0; }
    row (codes "int x; int *p; int *q; char *c; int a[3]; int main(void) { x = 2 % p; return 0; }") ((Variables (int 0 3) ((declared (name 4 5) [] None) ∷ [])) ∷ (Variables (int 7 10) ((declared (name 12 13) (PointerTo ∷ []) None) ∷ [])) ∷ (Variables (int 15 18) ((declared (name 20 21) (PointerTo ∷ []) None) ∷ [])) ∷ (Variables (char 23 27) ((declared (name 29 30) (PointerTo ∷ []) None) ∷ [])) ∷ (Variables (int 32 35) ((declared (name 36 37) ((ArrayOf (Number (number 38 39))) ∷ []) None) ∷ [])) ∷ (Function (spelled (int 42 45) 0) (name 46 50) [] (Some (Next (Evaluate (Assign (Name (name 59 60)) (mark w.Assign 61 62) (Binary (Number (number 63 64)) (mark w.Percent 65 66) (Name (name 67 68))))) (Next (Return (word w.Return 70 76) (Some (Number (number 77 78)))) End)))) ∷ []) 123 66 ∷
    -- int x; int *p; int *q; char *c; int a[3]; int main(void) { x = x << p; return 0; }
    row (codes "int x; int *p; int *q; char *c; int a[3]; int main(void) { x = x << p; return 0; }") ((Variables (int 0 3) ((declared (name 4 5) [] None) ∷ [])) ∷ (Variables (int 7 10) ((declared (name 12 13) (PointerTo ∷ []) None) ∷ [])) ∷ (Variables (int 15 18) ((declared (name 20 21) (PointerTo ∷ []) None) ∷ [])) ∷ (Variables (char 23 27) ((declared (name 29 30) (PointerTo ∷ []) None) ∷ [])) ∷ (Variables (int 32 35) ((declared (name 36 37) ((ArrayOf (Number (number 38 39))) ∷ []) None) ∷ [])) ∷ (Function (spelled (int 42 45) 0) (name 46 50) [] (Some (Next (Evaluate (Assign (Name (name 59 60)) (mark w.Assign 61 62) (Binary (Name (name 63 64)) (mark w.ShiftLeft 65 67) (Name (name 68 69))))) (Next (Return (word w.Return 71 77) (Some (Number (number 78 79)))) End)))) ∷ []) 123 66 ∷
    -- int x; int *p; int *q; char *c; int a[3]; int main(void) { x = x & p; return 0; }
    row (codes "int x; int *p; int *q; char *c; int a[3]; int main(void) { x = x & p; return 0; }") ((Variables (int 0 3) ((declared (name 4 5) [] None) ∷ [])) ∷ (Variables (int 7 10) ((declared (name 12 13) (PointerTo ∷ []) None) ∷ [])) ∷ (Variables (int 15 18) ((declared (name 20 21) (PointerTo ∷ []) None) ∷ [])) ∷ (Variables (char 23 27) ((declared (name 29 30) (PointerTo ∷ []) None) ∷ [])) ∷ (Variables (int 32 35) ((declared (name 36 37) ((ArrayOf (Number (number 38 39))) ∷ []) None) ∷ [])) ∷ (Function (spelled (int 42 45) 0) (name 46 50) [] (Some (Next (Evaluate (Assign (Name (name 59 60)) (mark w.Assign 61 62) (Binary (Name (name 63 64)) (mark w.Ampersand 65 66) (Name (name 67 68))))) (Next (Return (word w.Return 70 76) (Some (Number (number 77 78)))) End)))) ∷ []) 123 66 ∷
    -- int x; int *p; int *q; char *c; int a[3]; int main(void) { x = x | a; return 0; }
    row (codes "int x; int *p; int *q; char *c; int a[3]; int main(void) { x = x | a; return 0; }") ((Variables (int 0 3) ((declared (name 4 5) [] None) ∷ [])) ∷ (Variables (int 7 10) ((declared (name 12 13) (PointerTo ∷ []) None) ∷ [])) ∷ (Variables (int 15 18) ((declared (name 20 21) (PointerTo ∷ []) None) ∷ [])) ∷ (Variables (char 23 27) ((declared (name 29 30) (PointerTo ∷ []) None) ∷ [])) ∷ (Variables (int 32 35) ((declared (name 36 37) ((ArrayOf (Number (number 38 39))) ∷ []) None) ∷ [])) ∷ (Function (spelled (int 42 45) 0) (name 46 50) [] (Some (Next (Evaluate (Assign (Name (name 59 60)) (mark w.Assign 61 62) (Binary (Name (name 63 64)) (mark w.Bar 65 66) (Name (name 67 68))))) (Next (Return (word w.Return 70 76) (Some (Number (number 77 78)))) End)))) ∷ []) 123 66 ∷
    -- int x; int *p; int *q; char *c; int a[3]; int main(void) { x = +x; x = -x; x = ~x; x = !x; return 0; }
    row (codes "int x; int *p; int *q; char *c; int a[3]; int main(void) { x = +x; x = -x; x = ~x; x = !x; return 0; }") ((Variables (int 0 3) ((declared (name 4 5) [] None) ∷ [])) ∷ (Variables (int 7 10) ((declared (name 12 13) (PointerTo ∷ []) None) ∷ [])) ∷ (Variables (int 15 18) ((declared (name 20 21) (PointerTo ∷ []) None) ∷ [])) ∷ (Variables (char 23 27) ((declared (name 29 30) (PointerTo ∷ []) None) ∷ [])) ∷ (Variables (int 32 35) ((declared (name 36 37) ((ArrayOf (Number (number 38 39))) ∷ []) None) ∷ [])) ∷ (Function (spelled (int 42 45) 0) (name 46 50) [] (Some (Next (Evaluate (Assign (Name (name 59 60)) (mark w.Assign 61 62) (Prefix (mark w.Plus 63 64) (Name (name 64 65))))) (Next (Evaluate (Assign (Name (name 67 68)) (mark w.Assign 69 70) (Prefix (mark w.Minus 71 72) (Name (name 72 73))))) (Next (Evaluate (Assign (Name (name 75 76)) (mark w.Assign 77 78) (Prefix (mark w.Tilde 79 80) (Name (name 80 81))))) (Next (Evaluate (Assign (Name (name 83 84)) (mark w.Assign 85 86) (Prefix (mark w.Exclamation 87 88) (Name (name 88 89))))) (Next (Return (word w.Return 91 97) (Some (Number (number 98 99)))) End))))))) ∷ []) 0 0 ∷
    -- int x; int *p; int *q; char *c; int a[3]; int main(void) { x = -p; return 0; }
    row (codes "int x; int *p; int *q; char *c; int a[3]; int main(void) { x = -p; return 0; }") ((Variables (int 0 3) ((declared (name 4 5) [] None) ∷ [])) ∷ (Variables (int 7 10) ((declared (name 12 13) (PointerTo ∷ []) None) ∷ [])) ∷ (Variables (int 15 18) ((declared (name 20 21) (PointerTo ∷ []) None) ∷ [])) ∷ (Variables (char 23 27) ((declared (name 29 30) (PointerTo ∷ []) None) ∷ [])) ∷ (Variables (int 32 35) ((declared (name 36 37) ((ArrayOf (Number (number 38 39))) ∷ []) None) ∷ [])) ∷ (Function (spelled (int 42 45) 0) (name 46 50) [] (Some (Next (Evaluate (Assign (Name (name 59 60)) (mark w.Assign 61 62) (Prefix (mark w.Minus 63 64) (Name (name 64 65))))) (Next (Return (word w.Return 67 73) (Some (Number (number 74 75)))) End)))) ∷ []) 123 64 ∷
    -- int x; int *p; int *q; char *c; int a[3]; int main(void) { x = +p; return 0; }
    row (codes "int x; int *p; int *q; char *c; int a[3]; int main(void) { x = +p; return 0; }") ((Variables (int 0 3) ((declared (name 4 5) [] None) ∷ [])) ∷ (Variables (int 7 10) ((declared (name 12 13) (PointerTo ∷ []) None) ∷ [])) ∷ (Variables (int 15 18) ((declared (name 20 21) (PointerTo ∷ []) None) ∷ [])) ∷ (Variables (char 23 27) ((declared (name 29 30) (PointerTo ∷ []) None) ∷ [])) ∷ (Variables (int 32 35) ((declared (name 36 37) ((ArrayOf (Number (number 38 39))) ∷ []) None) ∷ [])) ∷ (Function (spelled (int 42 45) 0) (name 46 50) [] (Some (Next (Evaluate (Assign (Name (name 59 60)) (mark w.Assign 61 62) (Prefix (mark w.Plus 63 64) (Name (name 64 65))))) (Next (Return (word w.Return 67 73) (Some (Number (number 74 75)))) End)))) ∷ []) 123 64 ∷
    -- int x; int *p; int *q; char *c; int a[3]; int main(void) { x = ~p; return 0; }
    row (codes "int x; int *p; int *q; char *c; int a[3]; int main(void) { x = ~p; return 0; }") ((Variables (int 0 3) ((declared (name 4 5) [] None) ∷ [])) ∷ (Variables (int 7 10) ((declared (name 12 13) (PointerTo ∷ []) None) ∷ [])) ∷ (Variables (int 15 18) ((declared (name 20 21) (PointerTo ∷ []) None) ∷ [])) ∷ (Variables (char 23 27) ((declared (name 29 30) (PointerTo ∷ []) None) ∷ [])) ∷ (Variables (int 32 35) ((declared (name 36 37) ((ArrayOf (Number (number 38 39))) ∷ []) None) ∷ [])) ∷ (Function (spelled (int 42 45) 0) (name 46 50) [] (Some (Next (Evaluate (Assign (Name (name 59 60)) (mark w.Assign 61 62) (Prefix (mark w.Tilde 63 64) (Name (name 64 65))))) (Next (Return (word w.Return 67 73) (Some (Number (number 74 75)))) End)))) ∷ []) 123 64 ∷
    -- int x; int *p; int *q; char *c; int a[3]; int main(void) { x = !p; return 0; }
    row (codes "int x; int *p; int *q; char *c; int a[3]; int main(void) { x = !p; return 0; }") ((Variables (int 0 3) ((declared (name 4 5) [] None) ∷ [])) ∷ (Variables (int 7 10) ((declared (name 12 13) (PointerTo ∷ []) None) ∷ [])) ∷ (Variables (int 15 18) ((declared (name 20 21) (PointerTo ∷ []) None) ∷ [])) ∷ (Variables (char 23 27) ((declared (name 29 30) (PointerTo ∷ []) None) ∷ [])) ∷ (Variables (int 32 35) ((declared (name 36 37) ((ArrayOf (Number (number 38 39))) ∷ []) None) ∷ [])) ∷ (Function (spelled (int 42 45) 0) (name 46 50) [] (Some (Next (Evaluate (Assign (Name (name 59 60)) (mark w.Assign 61 62) (Prefix (mark w.Exclamation 63 64) (Name (name 64 65))))) (Next (Return (word w.Return 67 73) (Some (Number (number 74 75)))) End)))) ∷ []) 0 0 ∷
    -- void f(void) { } int x; int *p; int *q; char *c; int a[3]; int main(void) { x = !f(); return 0; }
    row (codes "void f(void) { } int x; int *p; int *q; char *c; int a[3]; int main(void) { x = !f(); return 0; }") ((Function (spelled (void 0 4) 0) (name 5 6) [] (Some End)) ∷ (Variables (int 17 20) ((declared (name 21 22) [] None) ∷ [])) ∷ (Variables (int 24 27) ((declared (name 29 30) (PointerTo ∷ []) None) ∷ [])) ∷ (Variables (int 32 35) ((declared (name 37 38) (PointerTo ∷ []) None) ∷ [])) ∷ (Variables (char 40 44) ((declared (name 46 47) (PointerTo ∷ []) None) ∷ [])) ∷ (Variables (int 49 52) ((declared (name 53 54) ((ArrayOf (Number (number 55 56))) ∷ []) None) ∷ [])) ∷ (Function (spelled (int 59 62) 0) (name 63 67) [] (Some (Next (Evaluate (Assign (Name (name 76 77)) (mark w.Assign 78 79) (Prefix (mark w.Exclamation 80 81) (Call (name 81 82) NoMore)))) (Next (Return (word w.Return 86 92) (Some (Number (number 93 94)))) End)))) ∷ []) 123 81 ∷ []

pub integers : outcomes integers_rows ≡ refusals integers_rows
unfolding checked_rules.kept checked_rules.unless checked_rules.none_of environment_rules.found_in environment_rules.found environment_rules.specified environment_rules.with_stars environment_rules.spelled_type nodes_rules.first_place judgements_rules.shape judgements_rules.on_pointers judgements_rules.arithmetic judgements_rules.relation judgements_rules.operation judgements_rules.conversion judgements_rules.selection judgements_rules.cast_conversion judgements_rules.compound_operation operands_rules.loaded operands_rules.value operands_rules.condition operands_rules.brought operands_rules.fitted operators_rules.unit operators_rules.computed operators_rules.combined operators_rules.selected operators_rules.choice_of operators_rules.cast_by operators_rules.cast operators_rules.promoting operators_rules.negation operators_rules.address operators_rules.dereferenced assignments_rules.assigned assignments_rules.updated assignments_rules.compound assignments_rules.stepped subobjects_rules.base_of subobjects_rules.indexed subobjects_rules.dot subobjects_rules.arrow allocation_rules.objects allocation_rules.product allocation_rules.allocated allocation_rules.freed expressions_rules.full expressions_rules.operand expressions_rules.arguments expressions_rules.only_value expressions_rules.only_request expressions_rules.requested expressions_rules.measured constant_expressions_rules.is_constant constant_expressions_rules.value_of constant_expressions_rules.constant constant_expressions_rules.size_of_array constant_expressions_rules.part_of constant_expressions_rules.is_literal constant_expressions_rules.has_literal_indices constant_expressions_rules.initial_value declarations_rules.size declarations_rules.layers declarations_rules.layered declarations_rules.element_number declarations_rules.is_complete declarations_rules.is_within_limit initialisers_rules.parts initialisers_rules.zeros initialisers_rules.alone initialisers_rules.all_alone initialisers_rules.cells initialisers_rules.elements statements_rules.in_scope statements_rules.init_statements statements_rules.declare_one statements_rules.declare_all statements_rules.declare statements_rules.statement statements_rules.statements weights_rules.declared_weight weights_rules.item_weight weights_rules.initialiser_nodes weights_rules.elements_nodes weights_rules.continues weights_rules.all_continues weights_rules.statement_weight weights_rules.statements_weight file_scope_rules.file_scope file_scope_rules.variable file_scope_rules.variables structs_rules.member structs_rules.member_list structs_rules.all_members structs_rules.structure functions_rules.parameter functions_rules.parameters functions_rules.declarable_function functions_rules.replaced functions_rules.defined_as functions_rules.function programs_rules.item programs_rules.items programs_rules.whole programs_rules.elaborated programs_rules.elaboration number_rules.radix_of number_rules.value_of number_rules.number_value number_rules.constant_of number_rules.constant_with number_rules.first_holding number_rules.constant_types number_rules.number_of number_rules.suffix_of lexeme_rules.character_value type_rows.shape-the_row-CType-0 type_rows.hidden-the_row-CType-0 expression_rows.shape-the_row-Expr-0 expression_rows.hidden-the_row-Expr-0 expression_rows.shape-the_row-Expr-1 expression_rows.hidden-the_row-Expr-1 expression_rows.shape-the_row-Place_-2 expression_rows.hidden-the_row-Place_-2 statement_rows.shape-the_row-Stmt-0 statement_rows.hidden-the_row-Stmt-0 statement_rows.shape-the_row-Stmt-1 statement_rows.hidden-the_row-Stmt-1 hidden
integers = refl

-- `+`, `-`, relations and `! && ||` on pointers
abbrev pointers_rows : List Row
pointers_rows =
    -- int x; int *p; int *q; char *c; int a[3]; int main(void) { p = p + 1; p = 1 + p; p = a + x; p = p - 1; return 0; }
    row (codes "int x; int *p; int *q; char *c; int a[3]; int main(void) { p = p + 1; p = 1 + p; p = a + x; p = p - 1; return 0; }") ((Variables (int 0 3) ((declared (name 4 5) [] None) ∷ [])) ∷ (Variables (int 7 10) ((declared (name 12 13) (PointerTo ∷ []) None) ∷ [])) ∷ (Variables (int 15 18) ((declared (name 20 21) (PointerTo ∷ []) None) ∷ [])) ∷ (Variables (char 23 27) ((declared (name 29 30) (PointerTo ∷ []) None) ∷ [])) ∷ (Variables (int 32 35) ((declared (name 36 37) ((ArrayOf (Number (number 38 39))) ∷ []) None) ∷ [])) ∷ (Function (spelled (int 42 45) 0) (name 46 50) [] (Some (Next (Evaluate (Assign (Name (name 59 60)) (mark w.Assign 61 62) (Binary (Name (name 63 64)) (mark w.Plus 65 66) (Number (number 67 68))))) (Next (Evaluate (Assign (Name (name 70 71)) (mark w.Assign 72 73) (Binary (Number (number 74 75)) (mark w.Plus 76 77) (Name (name 78 79))))) (Next (Evaluate (Assign (Name (name 81 82)) (mark w.Assign 83 84) (Binary (Name (name 85 86)) (mark w.Plus 87 88) (Name (name 89 90))))) (Next (Evaluate (Assign (Name (name 92 93)) (mark w.Assign 94 95) (Binary (Name (name 96 97)) (mark w.Minus 98 99) (Number (number 100 101))))) (Next (Return (word w.Return 103 109) (Some (Number (number 110 111)))) End))))))) ∷ []) 0 0 ∷
    -- int x; int *p; int *q; char *c; int a[3]; int main(void) { p = 1 - p; return 0; }
    row (codes "int x; int *p; int *q; char *c; int a[3]; int main(void) { p = 1 - p; return 0; }") ((Variables (int 0 3) ((declared (name 4 5) [] None) ∷ [])) ∷ (Variables (int 7 10) ((declared (name 12 13) (PointerTo ∷ []) None) ∷ [])) ∷ (Variables (int 15 18) ((declared (name 20 21) (PointerTo ∷ []) None) ∷ [])) ∷ (Variables (char 23 27) ((declared (name 29 30) (PointerTo ∷ []) None) ∷ [])) ∷ (Variables (int 32 35) ((declared (name 36 37) ((ArrayOf (Number (number 38 39))) ∷ []) None) ∷ [])) ∷ (Function (spelled (int 42 45) 0) (name 46 50) [] (Some (Next (Evaluate (Assign (Name (name 59 60)) (mark w.Assign 61 62) (Binary (Number (number 63 64)) (mark w.Minus 65 66) (Name (name 67 68))))) (Next (Return (word w.Return 70 76) (Some (Number (number 77 78)))) End)))) ∷ []) 123 66 ∷
    -- int x; int *p; int *q; char *c; int a[3]; int main(void) { p = p + q; return 0; }
    row (codes "int x; int *p; int *q; char *c; int a[3]; int main(void) { p = p + q; return 0; }") ((Variables (int 0 3) ((declared (name 4 5) [] None) ∷ [])) ∷ (Variables (int 7 10) ((declared (name 12 13) (PointerTo ∷ []) None) ∷ [])) ∷ (Variables (int 15 18) ((declared (name 20 21) (PointerTo ∷ []) None) ∷ [])) ∷ (Variables (char 23 27) ((declared (name 29 30) (PointerTo ∷ []) None) ∷ [])) ∷ (Variables (int 32 35) ((declared (name 36 37) ((ArrayOf (Number (number 38 39))) ∷ []) None) ∷ [])) ∷ (Function (spelled (int 42 45) 0) (name 46 50) [] (Some (Next (Evaluate (Assign (Name (name 59 60)) (mark w.Assign 61 62) (Binary (Name (name 63 64)) (mark w.Plus 65 66) (Name (name 67 68))))) (Next (Return (word w.Return 70 76) (Some (Number (number 77 78)))) End)))) ∷ []) 123 66 ∷
    -- int x; int *p; int *q; char *c; int a[3]; int main(void) { x = p - q; x = p - a; return 0; }
    row (codes "int x; int *p; int *q; char *c; int a[3]; int main(void) { x = p - q; x = p - a; return 0; }") ((Variables (int 0 3) ((declared (name 4 5) [] None) ∷ [])) ∷ (Variables (int 7 10) ((declared (name 12 13) (PointerTo ∷ []) None) ∷ [])) ∷ (Variables (int 15 18) ((declared (name 20 21) (PointerTo ∷ []) None) ∷ [])) ∷ (Variables (char 23 27) ((declared (name 29 30) (PointerTo ∷ []) None) ∷ [])) ∷ (Variables (int 32 35) ((declared (name 36 37) ((ArrayOf (Number (number 38 39))) ∷ []) None) ∷ [])) ∷ (Function (spelled (int 42 45) 0) (name 46 50) [] (Some (Next (Evaluate (Assign (Name (name 59 60)) (mark w.Assign 61 62) (Binary (Name (name 63 64)) (mark w.Minus 65 66) (Name (name 67 68))))) (Next (Evaluate (Assign (Name (name 70 71)) (mark w.Assign 72 73) (Binary (Name (name 74 75)) (mark w.Minus 76 77) (Name (name 78 79))))) (Next (Return (word w.Return 81 87) (Some (Number (number 88 89)))) End))))) ∷ []) 0 0 ∷
    -- int x; int *p; int *q; char *c; int a[3]; int main(void) { x = p - c; return 0; }
    row (codes "int x; int *p; int *q; char *c; int a[3]; int main(void) { x = p - c; return 0; }") ((Variables (int 0 3) ((declared (name 4 5) [] None) ∷ [])) ∷ (Variables (int 7 10) ((declared (name 12 13) (PointerTo ∷ []) None) ∷ [])) ∷ (Variables (int 15 18) ((declared (name 20 21) (PointerTo ∷ []) None) ∷ [])) ∷ (Variables (char 23 27) ((declared (name 29 30) (PointerTo ∷ []) None) ∷ [])) ∷ (Variables (int 32 35) ((declared (name 36 37) ((ArrayOf (Number (number 38 39))) ∷ []) None) ∷ [])) ∷ (Function (spelled (int 42 45) 0) (name 46 50) [] (Some (Next (Evaluate (Assign (Name (name 59 60)) (mark w.Assign 61 62) (Binary (Name (name 63 64)) (mark w.Minus 65 66) (Name (name 67 68))))) (Next (Return (word w.Return 70 76) (Some (Number (number 77 78)))) End)))) ∷ []) 123 66 ∷
    -- int x; int *p; int *q; char *c; int a[3]; int main(void) { x = p < q; x = p == q; x = a <= p; return 0; }
    row (codes "int x; int *p; int *q; char *c; int a[3]; int main(void) { x = p < q; x = p == q; x = a <= p; return 0; }") ((Variables (int 0 3) ((declared (name 4 5) [] None) ∷ [])) ∷ (Variables (int 7 10) ((declared (name 12 13) (PointerTo ∷ []) None) ∷ [])) ∷ (Variables (int 15 18) ((declared (name 20 21) (PointerTo ∷ []) None) ∷ [])) ∷ (Variables (char 23 27) ((declared (name 29 30) (PointerTo ∷ []) None) ∷ [])) ∷ (Variables (int 32 35) ((declared (name 36 37) ((ArrayOf (Number (number 38 39))) ∷ []) None) ∷ [])) ∷ (Function (spelled (int 42 45) 0) (name 46 50) [] (Some (Next (Evaluate (Assign (Name (name 59 60)) (mark w.Assign 61 62) (Binary (Name (name 63 64)) (mark w.Less 65 66) (Name (name 67 68))))) (Next (Evaluate (Assign (Name (name 70 71)) (mark w.Assign 72 73) (Binary (Name (name 74 75)) (mark w.EqualEqual 76 78) (Name (name 79 80))))) (Next (Evaluate (Assign (Name (name 82 83)) (mark w.Assign 84 85) (Binary (Name (name 86 87)) (mark w.LessEqual 88 90) (Name (name 91 92))))) (Next (Return (word w.Return 94 100) (Some (Number (number 101 102)))) End)))))) ∷ []) 0 0 ∷
    -- int x; int *p; int *q; char *c; int a[3]; int main(void) { x = p < c; return 0; }
    row (codes "int x; int *p; int *q; char *c; int a[3]; int main(void) { x = p < c; return 0; }") ((Variables (int 0 3) ((declared (name 4 5) [] None) ∷ [])) ∷ (Variables (int 7 10) ((declared (name 12 13) (PointerTo ∷ []) None) ∷ [])) ∷ (Variables (int 15 18) ((declared (name 20 21) (PointerTo ∷ []) None) ∷ [])) ∷ (Variables (char 23 27) ((declared (name 29 30) (PointerTo ∷ []) None) ∷ [])) ∷ (Variables (int 32 35) ((declared (name 36 37) ((ArrayOf (Number (number 38 39))) ∷ []) None) ∷ [])) ∷ (Function (spelled (int 42 45) 0) (name 46 50) [] (Some (Next (Evaluate (Assign (Name (name 59 60)) (mark w.Assign 61 62) (Binary (Name (name 63 64)) (mark w.Less 65 66) (Name (name 67 68))))) (Next (Return (word w.Return 70 76) (Some (Number (number 77 78)))) End)))) ∷ []) 123 66 ∷
    -- int x; int *p; int *q; char *c; int a[3]; int main(void) { x = p == c; return 0; }
    row (codes "int x; int *p; int *q; char *c; int a[3]; int main(void) { x = p == c; return 0; }") ((Variables (int 0 3) ((declared (name 4 5) [] None) ∷ [])) ∷ (Variables (int 7 10) ((declared (name 12 13) (PointerTo ∷ []) None) ∷ [])) ∷ (Variables (int 15 18) ((declared (name 20 21) (PointerTo ∷ []) None) ∷ [])) ∷ (Variables (char 23 27) ((declared (name 29 30) (PointerTo ∷ []) None) ∷ [])) ∷ (Variables (int 32 35) ((declared (name 36 37) ((ArrayOf (Number (number 38 39))) ∷ []) None) ∷ [])) ∷ (Function (spelled (int 42 45) 0) (name 46 50) [] (Some (Next (Evaluate (Assign (Name (name 59 60)) (mark w.Assign 61 62) (Binary (Name (name 63 64)) (mark w.EqualEqual 65 67) (Name (name 68 69))))) (Next (Return (word w.Return 71 77) (Some (Number (number 78 79)))) End)))) ∷ []) 123 66 ∷
    -- int x; int *p; int *q; char *c; int a[3]; int main(void) { x = p == 0; x = 0 != p; x = p == (void *) 0; x = (void *) 0 == p; return 0; }
    row (codes "int x; int *p; int *q; char *c; int a[3]; int main(void) { x = p == 0; x = 0 != p; x = p == (void *) 0; x = (void *) 0 == p; return 0; }") ((Variables (int 0 3) ((declared (name 4 5) [] None) ∷ [])) ∷ (Variables (int 7 10) ((declared (name 12 13) (PointerTo ∷ []) None) ∷ [])) ∷ (Variables (int 15 18) ((declared (name 20 21) (PointerTo ∷ []) None) ∷ [])) ∷ (Variables (char 23 27) ((declared (name 29 30) (PointerTo ∷ []) None) ∷ [])) ∷ (Variables (int 32 35) ((declared (name 36 37) ((ArrayOf (Number (number 38 39))) ∷ []) None) ∷ [])) ∷ (Function (spelled (int 42 45) 0) (name 46 50) [] (Some (Next (Evaluate (Assign (Name (name 59 60)) (mark w.Assign 61 62) (Binary (Name (name 63 64)) (mark w.EqualEqual 65 67) (Number (number 68 69))))) (Next (Evaluate (Assign (Name (name 71 72)) (mark w.Assign 73 74) (Binary (Number (number 75 76)) (mark w.NotEqual 77 79) (Name (name 80 81))))) (Next (Evaluate (Assign (Name (name 83 84)) (mark w.Assign 85 86) (Binary (Name (name 87 88)) (mark w.EqualEqual 89 91) (Cast (mark w.LeftParen 92 93) (spelled (void 93 97) 1) (Number (number 101 102)))))) (Next (Evaluate (Assign (Name (name 104 105)) (mark w.Assign 106 107) (Binary (Cast (mark w.LeftParen 108 109) (spelled (void 109 113) 1) (Number (number 117 118))) (mark w.EqualEqual 119 121) (Name (name 122 123))))) (Next (Return (word w.Return 125 131) (Some (Number (number 132 133)))) End))))))) ∷ []) 0 0 ∷
    -- int x; int *p; int *q; char *c; int a[3]; int main(void) { x = p == 1; return 0; }
    row (codes "int x; int *p; int *q; char *c; int a[3]; int main(void) { x = p == 1; return 0; }") ((Variables (int 0 3) ((declared (name 4 5) [] None) ∷ [])) ∷ (Variables (int 7 10) ((declared (name 12 13) (PointerTo ∷ []) None) ∷ [])) ∷ (Variables (int 15 18) ((declared (name 20 21) (PointerTo ∷ []) None) ∷ [])) ∷ (Variables (char 23 27) ((declared (name 29 30) (PointerTo ∷ []) None) ∷ [])) ∷ (Variables (int 32 35) ((declared (name 36 37) ((ArrayOf (Number (number 38 39))) ∷ []) None) ∷ [])) ∷ (Function (spelled (int 42 45) 0) (name 46 50) [] (Some (Next (Evaluate (Assign (Name (name 59 60)) (mark w.Assign 61 62) (Binary (Name (name 63 64)) (mark w.EqualEqual 65 67) (Number (number 68 69))))) (Next (Return (word w.Return 71 77) (Some (Number (number 78 79)))) End)))) ∷ []) 123 66 ∷
    -- int x; int *p; int *q; char *c; int a[3]; int main(void) { x = p < 0; return 0; }
    row (codes "int x; int *p; int *q; char *c; int a[3]; int main(void) { x = p < 0; return 0; }") ((Variables (int 0 3) ((declared (name 4 5) [] None) ∷ [])) ∷ (Variables (int 7 10) ((declared (name 12 13) (PointerTo ∷ []) None) ∷ [])) ∷ (Variables (int 15 18) ((declared (name 20 21) (PointerTo ∷ []) None) ∷ [])) ∷ (Variables (char 23 27) ((declared (name 29 30) (PointerTo ∷ []) None) ∷ [])) ∷ (Variables (int 32 35) ((declared (name 36 37) ((ArrayOf (Number (number 38 39))) ∷ []) None) ∷ [])) ∷ (Function (spelled (int 42 45) 0) (name 46 50) [] (Some (Next (Evaluate (Assign (Name (name 59 60)) (mark w.Assign 61 62) (Binary (Name (name 63 64)) (mark w.Less 65 66) (Number (number 67 68))))) (Next (Return (word w.Return 70 76) (Some (Number (number 77 78)))) End)))) ∷ []) 123 66 ∷
    -- int x; int *p; int *q; char *c; int a[3]; int main(void) { x = (void *) 0 == 0; x = (void *) 0 < (void *) 0; return 0; }
    row (codes "int x; int *p; int *q; char *c; int a[3]; int main(void) { x = (void *) 0 == 0; x = (void *) 0 < (void *) 0; return 0; }") ((Variables (int 0 3) ((declared (name 4 5) [] None) ∷ [])) ∷ (Variables (int 7 10) ((declared (name 12 13) (PointerTo ∷ []) None) ∷ [])) ∷ (Variables (int 15 18) ((declared (name 20 21) (PointerTo ∷ []) None) ∷ [])) ∷ (Variables (char 23 27) ((declared (name 29 30) (PointerTo ∷ []) None) ∷ [])) ∷ (Variables (int 32 35) ((declared (name 36 37) ((ArrayOf (Number (number 38 39))) ∷ []) None) ∷ [])) ∷ (Function (spelled (int 42 45) 0) (name 46 50) [] (Some (Next (Evaluate (Assign (Name (name 59 60)) (mark w.Assign 61 62) (Binary (Cast (mark w.LeftParen 63 64) (spelled (void 64 68) 1) (Number (number 72 73))) (mark w.EqualEqual 74 76) (Number (number 77 78))))) (Next (Evaluate (Assign (Name (name 80 81)) (mark w.Assign 82 83) (Binary (Cast (mark w.LeftParen 84 85) (spelled (void 85 89) 1) (Number (number 93 94))) (mark w.Less 95 96) (Cast (mark w.LeftParen 97 98) (spelled (void 98 102) 1) (Number (number 106 107)))))) (Next (Return (word w.Return 109 115) (Some (Number (number 116 117)))) End))))) ∷ []) 0 0 ∷
    -- int x; int *p; int *q; char *c; int a[3]; int main(void) { x = p && x; x = !p || a; return 0; }
    row (codes "int x; int *p; int *q; char *c; int a[3]; int main(void) { x = p && x; x = !p || a; return 0; }") ((Variables (int 0 3) ((declared (name 4 5) [] None) ∷ [])) ∷ (Variables (int 7 10) ((declared (name 12 13) (PointerTo ∷ []) None) ∷ [])) ∷ (Variables (int 15 18) ((declared (name 20 21) (PointerTo ∷ []) None) ∷ [])) ∷ (Variables (char 23 27) ((declared (name 29 30) (PointerTo ∷ []) None) ∷ [])) ∷ (Variables (int 32 35) ((declared (name 36 37) ((ArrayOf (Number (number 38 39))) ∷ []) None) ∷ [])) ∷ (Function (spelled (int 42 45) 0) (name 46 50) [] (Some (Next (Evaluate (Assign (Name (name 59 60)) (mark w.Assign 61 62) (Binary (Name (name 63 64)) (mark w.AndAnd 65 67) (Name (name 68 69))))) (Next (Evaluate (Assign (Name (name 71 72)) (mark w.Assign 73 74) (Binary (Prefix (mark w.Exclamation 75 76) (Name (name 76 77))) (mark w.OrOr 78 80) (Name (name 81 82))))) (Next (Return (word w.Return 84 90) (Some (Number (number 91 92)))) End))))) ∷ []) 0 0 ∷
    -- void f(void) { } int x; int *p; int *q; char *c; int a[3]; int main(void) { x = x && f(); return 0; }
    row (codes "void f(void) { } int x; int *p; int *q; char *c; int a[3]; int main(void) { x = x && f(); return 0; }") ((Function (spelled (void 0 4) 0) (name 5 6) [] (Some End)) ∷ (Variables (int 17 20) ((declared (name 21 22) [] None) ∷ [])) ∷ (Variables (int 24 27) ((declared (name 29 30) (PointerTo ∷ []) None) ∷ [])) ∷ (Variables (int 32 35) ((declared (name 37 38) (PointerTo ∷ []) None) ∷ [])) ∷ (Variables (char 40 44) ((declared (name 46 47) (PointerTo ∷ []) None) ∷ [])) ∷ (Variables (int 49 52) ((declared (name 53 54) ((ArrayOf (Number (number 55 56))) ∷ []) None) ∷ [])) ∷ (Function (spelled (int 59 62) 0) (name 63 67) [] (Some (Next (Evaluate (Assign (Name (name 76 77)) (mark w.Assign 78 79) (Binary (Name (name 80 81)) (mark w.AndAnd 82 84) (Call (name 85 86) NoMore)))) (Next (Return (word w.Return 90 96) (Some (Number (number 97 98)))) End)))) ∷ []) 123 83 ∷
    -- int x; int *p; int *q; char *c; int a[3]; int main(void) { x = (void *) 0 + 1; return 0; }
    row (codes "int x; int *p; int *q; char *c; int a[3]; int main(void) { x = (void *) 0 + 1; return 0; }") ((Variables (int 0 3) ((declared (name 4 5) [] None) ∷ [])) ∷ (Variables (int 7 10) ((declared (name 12 13) (PointerTo ∷ []) None) ∷ [])) ∷ (Variables (int 15 18) ((declared (name 20 21) (PointerTo ∷ []) None) ∷ [])) ∷ (Variables (char 23 27) ((declared (name 29 30) (PointerTo ∷ []) None) ∷ [])) ∷ (Variables (int 32 35) ((declared (name 36 37) ((ArrayOf (Number (number 38 39))) ∷ []) None) ∷ [])) ∷ (Function (spelled (int 42 45) 0) (name 46 50) [] (Some (Next (Evaluate (Assign (Name (name 59 60)) (mark w.Assign 61 62) (Binary (Cast (mark w.LeftParen 63 64) (spelled (void 64 68) 1) (Number (number 72 73))) (mark w.Plus 74 75) (Number (number 76 77))))) (Next (Return (word w.Return 79 85) (Some (Number (number 86 87)))) End)))) ∷ []) 123 75 ∷ []

pub pointers : outcomes pointers_rows ≡ refusals pointers_rows
unfolding checked_rules.kept checked_rules.unless checked_rules.none_of environment_rules.found_in environment_rules.found environment_rules.specified environment_rules.with_stars environment_rules.spelled_type nodes_rules.first_place judgements_rules.shape judgements_rules.on_pointers judgements_rules.arithmetic judgements_rules.relation judgements_rules.operation judgements_rules.conversion judgements_rules.selection judgements_rules.cast_conversion judgements_rules.compound_operation operands_rules.loaded operands_rules.value operands_rules.condition operands_rules.brought operands_rules.fitted operators_rules.unit operators_rules.computed operators_rules.combined operators_rules.selected operators_rules.choice_of operators_rules.cast_by operators_rules.cast operators_rules.promoting operators_rules.negation operators_rules.address operators_rules.dereferenced assignments_rules.assigned assignments_rules.updated assignments_rules.compound assignments_rules.stepped subobjects_rules.base_of subobjects_rules.indexed subobjects_rules.dot subobjects_rules.arrow allocation_rules.objects allocation_rules.product allocation_rules.allocated allocation_rules.freed expressions_rules.full expressions_rules.operand expressions_rules.arguments expressions_rules.only_value expressions_rules.only_request expressions_rules.requested expressions_rules.measured constant_expressions_rules.is_constant constant_expressions_rules.value_of constant_expressions_rules.constant constant_expressions_rules.size_of_array constant_expressions_rules.part_of constant_expressions_rules.is_literal constant_expressions_rules.has_literal_indices constant_expressions_rules.initial_value declarations_rules.size declarations_rules.layers declarations_rules.layered declarations_rules.element_number declarations_rules.is_complete declarations_rules.is_within_limit initialisers_rules.parts initialisers_rules.zeros initialisers_rules.alone initialisers_rules.all_alone initialisers_rules.cells initialisers_rules.elements statements_rules.in_scope statements_rules.init_statements statements_rules.declare_one statements_rules.declare_all statements_rules.declare statements_rules.statement statements_rules.statements weights_rules.declared_weight weights_rules.item_weight weights_rules.initialiser_nodes weights_rules.elements_nodes weights_rules.continues weights_rules.all_continues weights_rules.statement_weight weights_rules.statements_weight file_scope_rules.file_scope file_scope_rules.variable file_scope_rules.variables structs_rules.member structs_rules.member_list structs_rules.all_members structs_rules.structure functions_rules.parameter functions_rules.parameters functions_rules.declarable_function functions_rules.replaced functions_rules.defined_as functions_rules.function programs_rules.item programs_rules.items programs_rules.whole programs_rules.elaborated programs_rules.elaboration number_rules.radix_of number_rules.value_of number_rules.number_value number_rules.constant_of number_rules.constant_with number_rules.first_holding number_rules.constant_types number_rules.number_of number_rules.suffix_of lexeme_rules.character_value type_rows.shape-the_row-CType-0 type_rows.hidden-the_row-CType-0 expression_rows.shape-the_row-Expr-0 expression_rows.hidden-the_row-Expr-0 expression_rows.shape-the_row-Expr-1 expression_rows.hidden-the_row-Expr-1 expression_rows.shape-the_row-Place_-2 expression_rows.hidden-the_row-Place_-2 statement_rows.shape-the_row-Stmt-0 statement_rows.hidden-the_row-Stmt-0 statement_rows.shape-the_row-Stmt-1 statement_rows.hidden-the_row-Stmt-1 hidden
pointers = refl

-- `? :`, and conditions
abbrev selections_rows : List Row
selections_rows =
    -- int x; int *p; int *q; char *c; int a[3]; int main(void) { x = x ? 1 : 2; p = x ? p : q; p = x ? p : 0; p = x ? (void *) 0 : p; p = p ? 0 : 0; return 0; }
    row (codes "int x; int *p; int *q; char *c; int a[3]; int main(void) { x = x ? 1 : 2; p = x ? p : q; p = x ? p : 0; p = x ? (void *) 0 : p; p = p ? 0 : 0; return 0; }") ((Variables (int 0 3) ((declared (name 4 5) [] None) ∷ [])) ∷ (Variables (int 7 10) ((declared (name 12 13) (PointerTo ∷ []) None) ∷ [])) ∷ (Variables (int 15 18) ((declared (name 20 21) (PointerTo ∷ []) None) ∷ [])) ∷ (Variables (char 23 27) ((declared (name 29 30) (PointerTo ∷ []) None) ∷ [])) ∷ (Variables (int 32 35) ((declared (name 36 37) ((ArrayOf (Number (number 38 39))) ∷ []) None) ∷ [])) ∷ (Function (spelled (int 42 45) 0) (name 46 50) [] (Some (Next (Evaluate (Assign (Name (name 59 60)) (mark w.Assign 61 62) (Choose (Name (name 63 64)) (mark w.Question 65 66) (Number (number 67 68)) (Number (number 71 72))))) (Next (Evaluate (Assign (Name (name 74 75)) (mark w.Assign 76 77) (Choose (Name (name 78 79)) (mark w.Question 80 81) (Name (name 82 83)) (Name (name 86 87))))) (Next (Evaluate (Assign (Name (name 89 90)) (mark w.Assign 91 92) (Choose (Name (name 93 94)) (mark w.Question 95 96) (Name (name 97 98)) (Number (number 101 102))))) (Next (Evaluate (Assign (Name (name 104 105)) (mark w.Assign 106 107) (Choose (Name (name 108 109)) (mark w.Question 110 111) (Cast (mark w.LeftParen 112 113) (spelled (void 113 117) 1) (Number (number 121 122))) (Name (name 125 126))))) (Next (Evaluate (Assign (Name (name 128 129)) (mark w.Assign 130 131) (Choose (Name (name 132 133)) (mark w.Question 134 135) (Number (number 136 137)) (Number (number 140 141))))) (Next (Return (word w.Return 143 149) (Some (Number (number 150 151)))) End)))))))) ∷ []) 123 131 ∷
    -- int x; int *p; int *q; char *c; int a[3]; int main(void) { x ? (void) 1 : (void) 2; return 0; }
    row (codes "int x; int *p; int *q; char *c; int a[3]; int main(void) { x ? (void) 1 : (void) 2; return 0; }") ((Variables (int 0 3) ((declared (name 4 5) [] None) ∷ [])) ∷ (Variables (int 7 10) ((declared (name 12 13) (PointerTo ∷ []) None) ∷ [])) ∷ (Variables (int 15 18) ((declared (name 20 21) (PointerTo ∷ []) None) ∷ [])) ∷ (Variables (char 23 27) ((declared (name 29 30) (PointerTo ∷ []) None) ∷ [])) ∷ (Variables (int 32 35) ((declared (name 36 37) ((ArrayOf (Number (number 38 39))) ∷ []) None) ∷ [])) ∷ (Function (spelled (int 42 45) 0) (name 46 50) [] (Some (Next (Evaluate (Choose (Name (name 59 60)) (mark w.Question 61 62) (Cast (mark w.LeftParen 63 64) (spelled (void 64 68) 0) (Number (number 70 71))) (Cast (mark w.LeftParen 74 75) (spelled (void 75 79) 0) (Number (number 81 82))))) (Next (Return (word w.Return 84 90) (Some (Number (number 91 92)))) End)))) ∷ []) 0 0 ∷
    -- int x; int *p; int *q; char *c; int a[3]; int main(void) { p = x ? p : 1; return 0; }
    row (codes "int x; int *p; int *q; char *c; int a[3]; int main(void) { p = x ? p : 1; return 0; }") ((Variables (int 0 3) ((declared (name 4 5) [] None) ∷ [])) ∷ (Variables (int 7 10) ((declared (name 12 13) (PointerTo ∷ []) None) ∷ [])) ∷ (Variables (int 15 18) ((declared (name 20 21) (PointerTo ∷ []) None) ∷ [])) ∷ (Variables (char 23 27) ((declared (name 29 30) (PointerTo ∷ []) None) ∷ [])) ∷ (Variables (int 32 35) ((declared (name 36 37) ((ArrayOf (Number (number 38 39))) ∷ []) None) ∷ [])) ∷ (Function (spelled (int 42 45) 0) (name 46 50) [] (Some (Next (Evaluate (Assign (Name (name 59 60)) (mark w.Assign 61 62) (Choose (Name (name 63 64)) (mark w.Question 65 66) (Name (name 67 68)) (Number (number 71 72))))) (Next (Return (word w.Return 74 80) (Some (Number (number 81 82)))) End)))) ∷ []) 123 66 ∷
    -- int x; int *p; int *q; char *c; int a[3]; int main(void) { p = x ? p : c; return 0; }
    row (codes "int x; int *p; int *q; char *c; int a[3]; int main(void) { p = x ? p : c; return 0; }") ((Variables (int 0 3) ((declared (name 4 5) [] None) ∷ [])) ∷ (Variables (int 7 10) ((declared (name 12 13) (PointerTo ∷ []) None) ∷ [])) ∷ (Variables (int 15 18) ((declared (name 20 21) (PointerTo ∷ []) None) ∷ [])) ∷ (Variables (char 23 27) ((declared (name 29 30) (PointerTo ∷ []) None) ∷ [])) ∷ (Variables (int 32 35) ((declared (name 36 37) ((ArrayOf (Number (number 38 39))) ∷ []) None) ∷ [])) ∷ (Function (spelled (int 42 45) 0) (name 46 50) [] (Some (Next (Evaluate (Assign (Name (name 59 60)) (mark w.Assign 61 62) (Choose (Name (name 63 64)) (mark w.Question 65 66) (Name (name 67 68)) (Name (name 71 72))))) (Next (Return (word w.Return 74 80) (Some (Number (number 81 82)))) End)))) ∷ []) 123 66 ∷
    -- int x; int *p; int *q; char *c; int a[3]; int main(void) { x ? (void) 1 : 2; return 0; }
    row (codes "int x; int *p; int *q; char *c; int a[3]; int main(void) { x ? (void) 1 : 2; return 0; }") ((Variables (int 0 3) ((declared (name 4 5) [] None) ∷ [])) ∷ (Variables (int 7 10) ((declared (name 12 13) (PointerTo ∷ []) None) ∷ [])) ∷ (Variables (int 15 18) ((declared (name 20 21) (PointerTo ∷ []) None) ∷ [])) ∷ (Variables (char 23 27) ((declared (name 29 30) (PointerTo ∷ []) None) ∷ [])) ∷ (Variables (int 32 35) ((declared (name 36 37) ((ArrayOf (Number (number 38 39))) ∷ []) None) ∷ [])) ∷ (Function (spelled (int 42 45) 0) (name 46 50) [] (Some (Next (Evaluate (Choose (Name (name 59 60)) (mark w.Question 61 62) (Cast (mark w.LeftParen 63 64) (spelled (void 64 68) 0) (Number (number 70 71))) (Number (number 74 75)))) (Next (Return (word w.Return 77 83) (Some (Number (number 84 85)))) End)))) ∷ []) 123 62 ∷
    -- int x; int *p; int *q; char *c; int a[3]; int main(void) { (void) 1 ? 1 : 2; return 0; }
    row (codes "int x; int *p; int *q; char *c; int a[3]; int main(void) { (void) 1 ? 1 : 2; return 0; }") ((Variables (int 0 3) ((declared (name 4 5) [] None) ∷ [])) ∷ (Variables (int 7 10) ((declared (name 12 13) (PointerTo ∷ []) None) ∷ [])) ∷ (Variables (int 15 18) ((declared (name 20 21) (PointerTo ∷ []) None) ∷ [])) ∷ (Variables (char 23 27) ((declared (name 29 30) (PointerTo ∷ []) None) ∷ [])) ∷ (Variables (int 32 35) ((declared (name 36 37) ((ArrayOf (Number (number 38 39))) ∷ []) None) ∷ [])) ∷ (Function (spelled (int 42 45) 0) (name 46 50) [] (Some (Next (Evaluate (Choose (Cast (mark w.LeftParen 59 60) (spelled (void 60 64) 0) (Number (number 66 67))) (mark w.Question 68 69) (Number (number 70 71)) (Number (number 74 75)))) (Next (Return (word w.Return 77 83) (Some (Number (number 84 85)))) End)))) ∷ []) 123 60 ∷
    -- struct s { int m; }; struct s s; struct s t; struct s *sp; int main(void) { s ? 1 : 2; return 0; }
    row (codes "struct s { int m; }; struct s s; struct s t; struct s *sp; int main(void) { s ? 1 : 2; return 0; }") ((Struct (name 7 8) ((members (int 11 14) ((declarator (name 15 16) []) ∷ [])) ∷ []) []) ∷ (Variables (struct 28 29) ((declared (name 30 31) [] None) ∷ [])) ∷ (Variables (struct 40 41) ((declared (name 42 43) [] None) ∷ [])) ∷ (Variables (struct 52 53) ((declared (name 55 57) (PointerTo ∷ []) None) ∷ [])) ∷ (Function (spelled (int 59 62) 0) (name 63 67) [] (Some (Next (Evaluate (Choose (Name (name 76 77)) (mark w.Question 78 79) (Number (number 80 81)) (Number (number 84 85)))) (Next (Return (word w.Return 87 93) (Some (Number (number 94 95)))) End)))) ∷ []) 129 77 ∷
    -- int x; int *p; int *q; char *c; int a[3]; int main(void) { if (p) ; while (a) break; for (; c; ) break; do ; while (x); return 0; }
    row (codes "int x; int *p; int *q; char *c; int a[3]; int main(void) { if (p) ; while (a) break; for (; c; ) break; do ; while (x); return 0; }") ((Variables (int 0 3) ((declared (name 4 5) [] None) ∷ [])) ∷ (Variables (int 7 10) ((declared (name 12 13) (PointerTo ∷ []) None) ∷ [])) ∷ (Variables (int 15 18) ((declared (name 20 21) (PointerTo ∷ []) None) ∷ [])) ∷ (Variables (char 23 27) ((declared (name 29 30) (PointerTo ∷ []) None) ∷ [])) ∷ (Variables (int 32 35) ((declared (name 36 37) ((ArrayOf (Number (number 38 39))) ∷ []) None) ∷ [])) ∷ (Function (spelled (int 42 45) 0) (name 46 50) [] (Some (Next (If (Name (name 63 64)) Nothing) (Next (While (Name (name 75 76)) (Break (word w.Break 78 83))) (Next (For NoFirst (Some (Name (name 92 93))) None (Break (word w.Break 97 102))) (Next (Do Nothing (Name (name 116 117))) (Next (Return (word w.Return 120 126) (Some (Number (number 127 128)))) End))))))) ∷ []) 0 0 ∷
    -- int x; int *p; int *q; char *c; int a[3]; int main(void) { if ((void) 1) ; return 0; }
    row (codes "int x; int *p; int *q; char *c; int a[3]; int main(void) { if ((void) 1) ; return 0; }") ((Variables (int 0 3) ((declared (name 4 5) [] None) ∷ [])) ∷ (Variables (int 7 10) ((declared (name 12 13) (PointerTo ∷ []) None) ∷ [])) ∷ (Variables (int 15 18) ((declared (name 20 21) (PointerTo ∷ []) None) ∷ [])) ∷ (Variables (char 23 27) ((declared (name 29 30) (PointerTo ∷ []) None) ∷ [])) ∷ (Variables (int 32 35) ((declared (name 36 37) ((ArrayOf (Number (number 38 39))) ∷ []) None) ∷ [])) ∷ (Function (spelled (int 42 45) 0) (name 46 50) [] (Some (Next (If (Cast (mark w.LeftParen 63 64) (spelled (void 64 68) 0) (Number (number 70 71))) Nothing) (Next (Return (word w.Return 75 81) (Some (Number (number 82 83)))) End)))) ∷ []) 123 64 ∷
    -- struct s { int m; }; struct s s; struct s t; struct s *sp; int main(void) { while (s) ; return 0; }
    row (codes "struct s { int m; }; struct s s; struct s t; struct s *sp; int main(void) { while (s) ; return 0; }") ((Struct (name 7 8) ((members (int 11 14) ((declarator (name 15 16) []) ∷ [])) ∷ []) []) ∷ (Variables (struct 28 29) ((declared (name 30 31) [] None) ∷ [])) ∷ (Variables (struct 40 41) ((declared (name 42 43) [] None) ∷ [])) ∷ (Variables (struct 52 53) ((declared (name 55 57) (PointerTo ∷ []) None) ∷ [])) ∷ (Function (spelled (int 59 62) 0) (name 63 67) [] (Some (Next (While (Name (name 83 84)) Nothing) (Next (Return (word w.Return 88 94) (Some (Number (number 95 96)))) End)))) ∷ []) 129 84 ∷ []

pub selections : outcomes selections_rows ≡ refusals selections_rows
unfolding checked_rules.kept checked_rules.unless checked_rules.none_of environment_rules.found_in environment_rules.found environment_rules.specified environment_rules.with_stars environment_rules.spelled_type nodes_rules.first_place judgements_rules.shape judgements_rules.on_pointers judgements_rules.arithmetic judgements_rules.relation judgements_rules.operation judgements_rules.conversion judgements_rules.selection judgements_rules.cast_conversion judgements_rules.compound_operation operands_rules.loaded operands_rules.value operands_rules.condition operands_rules.brought operands_rules.fitted operators_rules.unit operators_rules.computed operators_rules.combined operators_rules.selected operators_rules.choice_of operators_rules.cast_by operators_rules.cast operators_rules.promoting operators_rules.negation operators_rules.address operators_rules.dereferenced assignments_rules.assigned assignments_rules.updated assignments_rules.compound assignments_rules.stepped subobjects_rules.base_of subobjects_rules.indexed subobjects_rules.dot subobjects_rules.arrow allocation_rules.objects allocation_rules.product allocation_rules.allocated allocation_rules.freed expressions_rules.full expressions_rules.operand expressions_rules.arguments expressions_rules.only_value expressions_rules.only_request expressions_rules.requested expressions_rules.measured constant_expressions_rules.is_constant constant_expressions_rules.value_of constant_expressions_rules.constant constant_expressions_rules.size_of_array constant_expressions_rules.part_of constant_expressions_rules.is_literal constant_expressions_rules.has_literal_indices constant_expressions_rules.initial_value declarations_rules.size declarations_rules.layers declarations_rules.layered declarations_rules.element_number declarations_rules.is_complete declarations_rules.is_within_limit initialisers_rules.parts initialisers_rules.zeros initialisers_rules.alone initialisers_rules.all_alone initialisers_rules.cells initialisers_rules.elements statements_rules.in_scope statements_rules.init_statements statements_rules.declare_one statements_rules.declare_all statements_rules.declare statements_rules.statement statements_rules.statements weights_rules.declared_weight weights_rules.item_weight weights_rules.initialiser_nodes weights_rules.elements_nodes weights_rules.continues weights_rules.all_continues weights_rules.statement_weight weights_rules.statements_weight file_scope_rules.file_scope file_scope_rules.variable file_scope_rules.variables structs_rules.member structs_rules.member_list structs_rules.all_members structs_rules.structure functions_rules.parameter functions_rules.parameters functions_rules.declarable_function functions_rules.replaced functions_rules.defined_as functions_rules.function programs_rules.item programs_rules.items programs_rules.whole programs_rules.elaborated programs_rules.elaboration number_rules.radix_of number_rules.value_of number_rules.number_value number_rules.constant_of number_rules.constant_with number_rules.first_holding number_rules.constant_types number_rules.number_of number_rules.suffix_of lexeme_rules.character_value type_rows.shape-the_row-CType-0 type_rows.hidden-the_row-CType-0 expression_rows.shape-the_row-Expr-0 expression_rows.hidden-the_row-Expr-0 expression_rows.shape-the_row-Expr-1 expression_rows.hidden-the_row-Expr-1 expression_rows.shape-the_row-Place_-2 expression_rows.hidden-the_row-Place_-2 statement_rows.shape-the_row-Stmt-0 statement_rows.hidden-the_row-Stmt-0 statement_rows.shape-the_row-Stmt-1 statement_rows.hidden-the_row-Stmt-1 hidden
selections = refl

-- `&`, `*`, `[ ]`, `.` and `->`
abbrev places_rows : List Row
places_rows =
    -- int x; int *p; int *q; char *c; int a[3]; int main(void) { p = &x; p = &a[1]; p = &*p; p = &(x); return 0; }
    row (codes "int x; int *p; int *q; char *c; int a[3]; int main(void) { p = &x; p = &a[1]; p = &*p; p = &(x); return 0; }") ((Variables (int 0 3) ((declared (name 4 5) [] None) ∷ [])) ∷ (Variables (int 7 10) ((declared (name 12 13) (PointerTo ∷ []) None) ∷ [])) ∷ (Variables (int 15 18) ((declared (name 20 21) (PointerTo ∷ []) None) ∷ [])) ∷ (Variables (char 23 27) ((declared (name 29 30) (PointerTo ∷ []) None) ∷ [])) ∷ (Variables (int 32 35) ((declared (name 36 37) ((ArrayOf (Number (number 38 39))) ∷ []) None) ∷ [])) ∷ (Function (spelled (int 42 45) 0) (name 46 50) [] (Some (Next (Evaluate (Assign (Name (name 59 60)) (mark w.Assign 61 62) (Prefix (mark w.Ampersand 63 64) (Name (name 64 65))))) (Next (Evaluate (Assign (Name (name 67 68)) (mark w.Assign 69 70) (Prefix (mark w.Ampersand 71 72) (Index (Name (name 72 73)) (mark w.LeftBracket 73 74) (Number (number 74 75)))))) (Next (Evaluate (Assign (Name (name 78 79)) (mark w.Assign 80 81) (Prefix (mark w.Ampersand 82 83) (Prefix (mark w.Star 83 84) (Name (name 84 85)))))) (Next (Evaluate (Assign (Name (name 87 88)) (mark w.Assign 89 90) (Prefix (mark w.Ampersand 91 92) (Paren (mark w.LeftParen 92 93) (Name (name 93 94)))))) (Next (Return (word w.Return 97 103) (Some (Number (number 104 105)))) End))))))) ∷ []) 0 0 ∷
    -- int x; int *p; int *q; char *c; int a[3]; int main(void) { p = &1; return 0; }
    row (codes "int x; int *p; int *q; char *c; int a[3]; int main(void) { p = &1; return 0; }") ((Variables (int 0 3) ((declared (name 4 5) [] None) ∷ [])) ∷ (Variables (int 7 10) ((declared (name 12 13) (PointerTo ∷ []) None) ∷ [])) ∷ (Variables (int 15 18) ((declared (name 20 21) (PointerTo ∷ []) None) ∷ [])) ∷ (Variables (char 23 27) ((declared (name 29 30) (PointerTo ∷ []) None) ∷ [])) ∷ (Variables (int 32 35) ((declared (name 36 37) ((ArrayOf (Number (number 38 39))) ∷ []) None) ∷ [])) ∷ (Function (spelled (int 42 45) 0) (name 46 50) [] (Some (Next (Evaluate (Assign (Name (name 59 60)) (mark w.Assign 61 62) (Prefix (mark w.Ampersand 63 64) (Number (number 64 65))))) (Next (Return (word w.Return 67 73) (Some (Number (number 74 75)))) End)))) ∷ []) 124 64 ∷
    -- int x; int *p; int *q; char *c; int a[3]; int main(void) { p = &(x + 1); return 0; }
    row (codes "int x; int *p; int *q; char *c; int a[3]; int main(void) { p = &(x + 1); return 0; }") ((Variables (int 0 3) ((declared (name 4 5) [] None) ∷ [])) ∷ (Variables (int 7 10) ((declared (name 12 13) (PointerTo ∷ []) None) ∷ [])) ∷ (Variables (int 15 18) ((declared (name 20 21) (PointerTo ∷ []) None) ∷ [])) ∷ (Variables (char 23 27) ((declared (name 29 30) (PointerTo ∷ []) None) ∷ [])) ∷ (Variables (int 32 35) ((declared (name 36 37) ((ArrayOf (Number (number 38 39))) ∷ []) None) ∷ [])) ∷ (Function (spelled (int 42 45) 0) (name 46 50) [] (Some (Next (Evaluate (Assign (Name (name 59 60)) (mark w.Assign 61 62) (Prefix (mark w.Ampersand 63 64) (Paren (mark w.LeftParen 64 65) (Binary (Name (name 65 66)) (mark w.Plus 67 68) (Number (number 69 70))))))) (Next (Return (word w.Return 73 79) (Some (Number (number 80 81)))) End)))) ∷ []) 124 64 ∷
    -- int x; int *p; int *q; char *c; int a[3]; int main(void) { p = &main; return 0; }
    row (codes "int x; int *p; int *q; char *c; int a[3]; int main(void) { p = &main; return 0; }") ((Variables (int 0 3) ((declared (name 4 5) [] None) ∷ [])) ∷ (Variables (int 7 10) ((declared (name 12 13) (PointerTo ∷ []) None) ∷ [])) ∷ (Variables (int 15 18) ((declared (name 20 21) (PointerTo ∷ []) None) ∷ [])) ∷ (Variables (char 23 27) ((declared (name 29 30) (PointerTo ∷ []) None) ∷ [])) ∷ (Variables (int 32 35) ((declared (name 36 37) ((ArrayOf (Number (number 38 39))) ∷ []) None) ∷ [])) ∷ (Function (spelled (int 42 45) 0) (name 46 50) [] (Some (Next (Evaluate (Assign (Name (name 59 60)) (mark w.Assign 61 62) (Prefix (mark w.Ampersand 63 64) (Name (name 64 68))))) (Next (Return (word w.Return 70 76) (Some (Number (number 77 78)))) End)))) ∷ []) 123 65 ∷
    -- int x; int *p; int *q; char *c; int a[3]; int main(void) { x = *p + *a; return 0; }
    row (codes "int x; int *p; int *q; char *c; int a[3]; int main(void) { x = *p + *a; return 0; }") ((Variables (int 0 3) ((declared (name 4 5) [] None) ∷ [])) ∷ (Variables (int 7 10) ((declared (name 12 13) (PointerTo ∷ []) None) ∷ [])) ∷ (Variables (int 15 18) ((declared (name 20 21) (PointerTo ∷ []) None) ∷ [])) ∷ (Variables (char 23 27) ((declared (name 29 30) (PointerTo ∷ []) None) ∷ [])) ∷ (Variables (int 32 35) ((declared (name 36 37) ((ArrayOf (Number (number 38 39))) ∷ []) None) ∷ [])) ∷ (Function (spelled (int 42 45) 0) (name 46 50) [] (Some (Next (Evaluate (Assign (Name (name 59 60)) (mark w.Assign 61 62) (Binary (Prefix (mark w.Star 63 64) (Name (name 64 65))) (mark w.Plus 66 67) (Prefix (mark w.Star 68 69) (Name (name 69 70)))))) (Next (Return (word w.Return 72 78) (Some (Number (number 79 80)))) End)))) ∷ []) 0 0 ∷
    -- int x; int *p; int *q; char *c; int a[3]; int main(void) { x = *x; return 0; }
    row (codes "int x; int *p; int *q; char *c; int a[3]; int main(void) { x = *x; return 0; }") ((Variables (int 0 3) ((declared (name 4 5) [] None) ∷ [])) ∷ (Variables (int 7 10) ((declared (name 12 13) (PointerTo ∷ []) None) ∷ [])) ∷ (Variables (int 15 18) ((declared (name 20 21) (PointerTo ∷ []) None) ∷ [])) ∷ (Variables (char 23 27) ((declared (name 29 30) (PointerTo ∷ []) None) ∷ [])) ∷ (Variables (int 32 35) ((declared (name 36 37) ((ArrayOf (Number (number 38 39))) ∷ []) None) ∷ [])) ∷ (Function (spelled (int 42 45) 0) (name 46 50) [] (Some (Next (Evaluate (Assign (Name (name 59 60)) (mark w.Assign 61 62) (Prefix (mark w.Star 63 64) (Name (name 64 65))))) (Next (Return (word w.Return 67 73) (Some (Number (number 74 75)))) End)))) ∷ []) 123 64 ∷
    -- int x; int *p; int *q; char *c; int a[3]; int main(void) { x = *(void *) 0; return 0; }
    row (codes "int x; int *p; int *q; char *c; int a[3]; int main(void) { x = *(void *) 0; return 0; }") ((Variables (int 0 3) ((declared (name 4 5) [] None) ∷ [])) ∷ (Variables (int 7 10) ((declared (name 12 13) (PointerTo ∷ []) None) ∷ [])) ∷ (Variables (int 15 18) ((declared (name 20 21) (PointerTo ∷ []) None) ∷ [])) ∷ (Variables (char 23 27) ((declared (name 29 30) (PointerTo ∷ []) None) ∷ [])) ∷ (Variables (int 32 35) ((declared (name 36 37) ((ArrayOf (Number (number 38 39))) ∷ []) None) ∷ [])) ∷ (Function (spelled (int 42 45) 0) (name 46 50) [] (Some (Next (Evaluate (Assign (Name (name 59 60)) (mark w.Assign 61 62) (Prefix (mark w.Star 63 64) (Cast (mark w.LeftParen 64 65) (spelled (void 65 69) 1) (Number (number 73 74)))))) (Next (Return (word w.Return 76 82) (Some (Number (number 83 84)))) End)))) ∷ []) 123 64 ∷
    -- int x; int *p; int *q; char *c; int a[3]; int main(void) { x = a[1] + p[x] + (a + 1)[0]; return 0; }
    row (codes "int x; int *p; int *q; char *c; int a[3]; int main(void) { x = a[1] + p[x] + (a + 1)[0]; return 0; }") ((Variables (int 0 3) ((declared (name 4 5) [] None) ∷ [])) ∷ (Variables (int 7 10) ((declared (name 12 13) (PointerTo ∷ []) None) ∷ [])) ∷ (Variables (int 15 18) ((declared (name 20 21) (PointerTo ∷ []) None) ∷ [])) ∷ (Variables (char 23 27) ((declared (name 29 30) (PointerTo ∷ []) None) ∷ [])) ∷ (Variables (int 32 35) ((declared (name 36 37) ((ArrayOf (Number (number 38 39))) ∷ []) None) ∷ [])) ∷ (Function (spelled (int 42 45) 0) (name 46 50) [] (Some (Next (Evaluate (Assign (Name (name 59 60)) (mark w.Assign 61 62) (Binary (Binary (Index (Name (name 63 64)) (mark w.LeftBracket 64 65) (Number (number 65 66))) (mark w.Plus 68 69) (Index (Name (name 70 71)) (mark w.LeftBracket 71 72) (Name (name 72 73)))) (mark w.Plus 75 76) (Index (Paren (mark w.LeftParen 77 78) (Binary (Name (name 78 79)) (mark w.Plus 80 81) (Number (number 82 83)))) (mark w.LeftBracket 84 85) (Number (number 85 86)))))) (Next (Return (word w.Return 89 95) (Some (Number (number 96 97)))) End)))) ∷ []) 0 0 ∷
    -- int x; int *p; int *q; char *c; int a[3]; int main(void) { x = 1[a]; return 0; }
    row (codes "int x; int *p; int *q; char *c; int a[3]; int main(void) { x = 1[a]; return 0; }") ((Variables (int 0 3) ((declared (name 4 5) [] None) ∷ [])) ∷ (Variables (int 7 10) ((declared (name 12 13) (PointerTo ∷ []) None) ∷ [])) ∷ (Variables (int 15 18) ((declared (name 20 21) (PointerTo ∷ []) None) ∷ [])) ∷ (Variables (char 23 27) ((declared (name 29 30) (PointerTo ∷ []) None) ∷ [])) ∷ (Variables (int 32 35) ((declared (name 36 37) ((ArrayOf (Number (number 38 39))) ∷ []) None) ∷ [])) ∷ (Function (spelled (int 42 45) 0) (name 46 50) [] (Some (Next (Evaluate (Assign (Name (name 59 60)) (mark w.Assign 61 62) (Index (Number (number 63 64)) (mark w.LeftBracket 64 65) (Name (name 65 66))))) (Next (Return (word w.Return 69 75) (Some (Number (number 76 77)))) End)))) ∷ []) 123 65 ∷
    -- int x; int *p; int *q; char *c; int a[3]; int main(void) { x = a[p]; return 0; }
    row (codes "int x; int *p; int *q; char *c; int a[3]; int main(void) { x = a[p]; return 0; }") ((Variables (int 0 3) ((declared (name 4 5) [] None) ∷ [])) ∷ (Variables (int 7 10) ((declared (name 12 13) (PointerTo ∷ []) None) ∷ [])) ∷ (Variables (int 15 18) ((declared (name 20 21) (PointerTo ∷ []) None) ∷ [])) ∷ (Variables (char 23 27) ((declared (name 29 30) (PointerTo ∷ []) None) ∷ [])) ∷ (Variables (int 32 35) ((declared (name 36 37) ((ArrayOf (Number (number 38 39))) ∷ []) None) ∷ [])) ∷ (Function (spelled (int 42 45) 0) (name 46 50) [] (Some (Next (Evaluate (Assign (Name (name 59 60)) (mark w.Assign 61 62) (Index (Name (name 63 64)) (mark w.LeftBracket 64 65) (Name (name 65 66))))) (Next (Return (word w.Return 69 75) (Some (Number (number 76 77)))) End)))) ∷ []) 123 65 ∷
    -- int x; int *p; int *q; char *c; int a[3]; int main(void) { x = x[0]; return 0; }
    row (codes "int x; int *p; int *q; char *c; int a[3]; int main(void) { x = x[0]; return 0; }") ((Variables (int 0 3) ((declared (name 4 5) [] None) ∷ [])) ∷ (Variables (int 7 10) ((declared (name 12 13) (PointerTo ∷ []) None) ∷ [])) ∷ (Variables (int 15 18) ((declared (name 20 21) (PointerTo ∷ []) None) ∷ [])) ∷ (Variables (char 23 27) ((declared (name 29 30) (PointerTo ∷ []) None) ∷ [])) ∷ (Variables (int 32 35) ((declared (name 36 37) ((ArrayOf (Number (number 38 39))) ∷ []) None) ∷ [])) ∷ (Function (spelled (int 42 45) 0) (name 46 50) [] (Some (Next (Evaluate (Assign (Name (name 59 60)) (mark w.Assign 61 62) (Index (Name (name 63 64)) (mark w.LeftBracket 64 65) (Number (number 65 66))))) (Next (Return (word w.Return 69 75) (Some (Number (number 76 77)))) End)))) ∷ []) 123 65 ∷
    -- int x; int *p; int *q; char *c; int a[3]; int main(void) { x = ((void *) 0)[0]; return 0; }
    row (codes "int x; int *p; int *q; char *c; int a[3]; int main(void) { x = ((void *) 0)[0]; return 0; }") ((Variables (int 0 3) ((declared (name 4 5) [] None) ∷ [])) ∷ (Variables (int 7 10) ((declared (name 12 13) (PointerTo ∷ []) None) ∷ [])) ∷ (Variables (int 15 18) ((declared (name 20 21) (PointerTo ∷ []) None) ∷ [])) ∷ (Variables (char 23 27) ((declared (name 29 30) (PointerTo ∷ []) None) ∷ [])) ∷ (Variables (int 32 35) ((declared (name 36 37) ((ArrayOf (Number (number 38 39))) ∷ []) None) ∷ [])) ∷ (Function (spelled (int 42 45) 0) (name 46 50) [] (Some (Next (Evaluate (Assign (Name (name 59 60)) (mark w.Assign 61 62) (Index (Paren (mark w.LeftParen 63 64) (Cast (mark w.LeftParen 64 65) (spelled (void 65 69) 1) (Number (number 73 74)))) (mark w.LeftBracket 75 76) (Number (number 76 77))))) (Next (Return (word w.Return 80 86) (Some (Number (number 87 88)))) End)))) ∷ []) 123 76 ∷
    -- struct s { int m; }; struct s s; struct s t; struct s *sp; int main(void) { s.m = sp->m; sp = &s; (*sp).m = 1; return 0; }
    row (codes "struct s { int m; }; struct s s; struct s t; struct s *sp; int main(void) { s.m = sp->m; sp = &s; (*sp).m = 1; return 0; }") ((Struct (name 7 8) ((members (int 11 14) ((declarator (name 15 16) []) ∷ [])) ∷ []) []) ∷ (Variables (struct 28 29) ((declared (name 30 31) [] None) ∷ [])) ∷ (Variables (struct 40 41) ((declared (name 42 43) [] None) ∷ [])) ∷ (Variables (struct 52 53) ((declared (name 55 57) (PointerTo ∷ []) None) ∷ [])) ∷ (Function (spelled (int 59 62) 0) (name 63 67) [] (Some (Next (Evaluate (Assign (Member (Name (name 76 77)) (mark w.Dot 77 78) (name 78 79)) (mark w.Assign 80 81) (Arrow (Name (name 82 84)) (mark w.Arrow 84 86) (name 86 87)))) (Next (Evaluate (Assign (Name (name 89 91)) (mark w.Assign 92 93) (Prefix (mark w.Ampersand 94 95) (Name (name 95 96))))) (Next (Evaluate (Assign (Member (Paren (mark w.LeftParen 98 99) (Prefix (mark w.Star 99 100) (Name (name 100 102)))) (mark w.Dot 103 104) (name 104 105)) (mark w.Assign 106 107) (Number (number 108 109)))) (Next (Return (word w.Return 111 117) (Some (Number (number 118 119)))) End)))))) ∷ []) 0 0 ∷
    -- struct s { int m; }; struct s s; struct s t; struct s *sp; int main(void) { sp.m = 1; return 0; }
    row (codes "struct s { int m; }; struct s s; struct s t; struct s *sp; int main(void) { sp.m = 1; return 0; }") ((Struct (name 7 8) ((members (int 11 14) ((declarator (name 15 16) []) ∷ [])) ∷ []) []) ∷ (Variables (struct 28 29) ((declared (name 30 31) [] None) ∷ [])) ∷ (Variables (struct 40 41) ((declared (name 42 43) [] None) ∷ [])) ∷ (Variables (struct 52 53) ((declared (name 55 57) (PointerTo ∷ []) None) ∷ [])) ∷ (Function (spelled (int 59 62) 0) (name 63 67) [] (Some (Next (Evaluate (Assign (Member (Name (name 76 78)) (mark w.Dot 78 79) (name 79 80)) (mark w.Assign 81 82) (Number (number 83 84)))) (Next (Return (word w.Return 86 92) (Some (Number (number 93 94)))) End)))) ∷ []) 123 79 ∷
    -- struct s { int m; }; struct s s; struct s t; struct s *sp; int main(void) { sp.__m = 1; return 0; }
    row (codes "struct s { int m; }; struct s s; struct s t; struct s *sp; int main(void) { sp.__m = 1; return 0; }") ((Struct (name 7 8) ((members (int 11 14) ((declarator (name 15 16) []) ∷ [])) ∷ []) []) ∷ (Variables (struct 28 29) ((declared (name 30 31) [] None) ∷ [])) ∷ (Variables (struct 40 41) ((declared (name 42 43) [] None) ∷ [])) ∷ (Variables (struct 52 53) ((declared (name 55 57) (PointerTo ∷ []) None) ∷ [])) ∷ (Function (spelled (int 59 62) 0) (name 63 67) [] (Some (Next (Evaluate (Assign (Member (Name (name 76 78)) (mark w.Dot 78 79) (name 79 82)) (mark w.Assign 83 84) (Number (number 85 86)))) (Next (Return (word w.Return 88 94) (Some (Number (number 95 96)))) End)))) ∷ []) 123 79 ∷
    -- struct s { int m; }; struct s s; struct s t; struct s *sp; int main(void) { s->m = 1; return 0; }
    row (codes "struct s { int m; }; struct s s; struct s t; struct s *sp; int main(void) { s->m = 1; return 0; }") ((Struct (name 7 8) ((members (int 11 14) ((declarator (name 15 16) []) ∷ [])) ∷ []) []) ∷ (Variables (struct 28 29) ((declared (name 30 31) [] None) ∷ [])) ∷ (Variables (struct 40 41) ((declared (name 42 43) [] None) ∷ [])) ∷ (Variables (struct 52 53) ((declared (name 55 57) (PointerTo ∷ []) None) ∷ [])) ∷ (Function (spelled (int 59 62) 0) (name 63 67) [] (Some (Next (Evaluate (Assign (Arrow (Name (name 76 77)) (mark w.Arrow 77 79) (name 79 80)) (mark w.Assign 81 82) (Number (number 83 84)))) (Next (Return (word w.Return 86 92) (Some (Number (number 93 94)))) End)))) ∷ []) 129 77 ∷
    -- int x; struct s { int m; }; struct s s; struct s t; struct s *sp; int main(void) { x->m = 1; return 0; }
    row (codes "int x; struct s { int m; }; struct s s; struct s t; struct s *sp; int main(void) { x->m = 1; return 0; }") ((Variables (int 0 3) ((declared (name 4 5) [] None) ∷ [])) ∷ (Struct (name 14 15) ((members (int 18 21) ((declarator (name 22 23) []) ∷ [])) ∷ []) []) ∷ (Variables (struct 35 36) ((declared (name 37 38) [] None) ∷ [])) ∷ (Variables (struct 47 48) ((declared (name 49 50) [] None) ∷ [])) ∷ (Variables (struct 59 60) ((declared (name 62 64) (PointerTo ∷ []) None) ∷ [])) ∷ (Function (spelled (int 66 69) 0) (name 70 74) [] (Some (Next (Evaluate (Assign (Arrow (Name (name 83 84)) (mark w.Arrow 84 86) (name 86 87)) (mark w.Assign 88 89) (Number (number 90 91)))) (Next (Return (word w.Return 93 99) (Some (Number (number 100 101)))) End)))) ∷ []) 123 85 ∷
    -- struct s { int m; }; struct s s; struct s t; struct s *sp; int main(void) { *s; return 0; }
    row (codes "struct s { int m; }; struct s s; struct s t; struct s *sp; int main(void) { *s; return 0; }") ((Struct (name 7 8) ((members (int 11 14) ((declarator (name 15 16) []) ∷ [])) ∷ []) []) ∷ (Variables (struct 28 29) ((declared (name 30 31) [] None) ∷ [])) ∷ (Variables (struct 40 41) ((declared (name 42 43) [] None) ∷ [])) ∷ (Variables (struct 52 53) ((declared (name 55 57) (PointerTo ∷ []) None) ∷ [])) ∷ (Function (spelled (int 59 62) 0) (name 63 67) [] (Some (Next (Evaluate (Prefix (mark w.Star 76 77) (Name (name 77 78)))) (Next (Return (word w.Return 80 86) (Some (Number (number 87 88)))) End)))) ∷ []) 129 78 ∷ []

pub places : outcomes places_rows ≡ refusals places_rows
unfolding checked_rules.kept checked_rules.unless checked_rules.none_of environment_rules.found_in environment_rules.found environment_rules.specified environment_rules.with_stars environment_rules.spelled_type nodes_rules.first_place judgements_rules.shape judgements_rules.on_pointers judgements_rules.arithmetic judgements_rules.relation judgements_rules.operation judgements_rules.conversion judgements_rules.selection judgements_rules.cast_conversion judgements_rules.compound_operation operands_rules.loaded operands_rules.value operands_rules.condition operands_rules.brought operands_rules.fitted operators_rules.unit operators_rules.computed operators_rules.combined operators_rules.selected operators_rules.choice_of operators_rules.cast_by operators_rules.cast operators_rules.promoting operators_rules.negation operators_rules.address operators_rules.dereferenced assignments_rules.assigned assignments_rules.updated assignments_rules.compound assignments_rules.stepped subobjects_rules.base_of subobjects_rules.indexed subobjects_rules.dot subobjects_rules.arrow allocation_rules.objects allocation_rules.product allocation_rules.allocated allocation_rules.freed expressions_rules.full expressions_rules.operand expressions_rules.arguments expressions_rules.only_value expressions_rules.only_request expressions_rules.requested expressions_rules.measured constant_expressions_rules.is_constant constant_expressions_rules.value_of constant_expressions_rules.constant constant_expressions_rules.size_of_array constant_expressions_rules.part_of constant_expressions_rules.is_literal constant_expressions_rules.has_literal_indices constant_expressions_rules.initial_value declarations_rules.size declarations_rules.layers declarations_rules.layered declarations_rules.element_number declarations_rules.is_complete declarations_rules.is_within_limit initialisers_rules.parts initialisers_rules.zeros initialisers_rules.alone initialisers_rules.all_alone initialisers_rules.cells initialisers_rules.elements statements_rules.in_scope statements_rules.init_statements statements_rules.declare_one statements_rules.declare_all statements_rules.declare statements_rules.statement statements_rules.statements weights_rules.declared_weight weights_rules.item_weight weights_rules.initialiser_nodes weights_rules.elements_nodes weights_rules.continues weights_rules.all_continues weights_rules.statement_weight weights_rules.statements_weight file_scope_rules.file_scope file_scope_rules.variable file_scope_rules.variables structs_rules.member structs_rules.member_list structs_rules.all_members structs_rules.structure functions_rules.parameter functions_rules.parameters functions_rules.declarable_function functions_rules.replaced functions_rules.defined_as functions_rules.function programs_rules.item programs_rules.items programs_rules.whole programs_rules.elaborated programs_rules.elaboration number_rules.radix_of number_rules.value_of number_rules.number_value number_rules.constant_of number_rules.constant_with number_rules.first_holding number_rules.constant_types number_rules.number_of number_rules.suffix_of lexeme_rules.character_value type_rows.shape-the_row-CType-0 type_rows.hidden-the_row-CType-0 expression_rows.shape-the_row-Expr-0 expression_rows.hidden-the_row-Expr-0 expression_rows.shape-the_row-Expr-1 expression_rows.hidden-the_row-Expr-1 expression_rows.shape-the_row-Place_-2 expression_rows.hidden-the_row-Place_-2 statement_rows.shape-the_row-Stmt-0 statement_rows.hidden-the_row-Stmt-0 statement_rows.shape-the_row-Stmt-1 statement_rows.hidden-the_row-Stmt-1 hidden
places = refl

-- casts go from integers to integers, and from anything to `void`
abbrev casts_rows : List Row
casts_rows =
    -- void f(void) { } int x; int *p; int *q; char *c; int a[3]; int main(void) { x = (char) x; x = (int) 1L; (void) x; (void) p; (void) f(); return 0; }
    row (codes "void f(void) { } int x; int *p; int *q; char *c; int a[3]; int main(void) { x = (char) x; x = (int) 1L; (void) x; (void) p; (void) f(); return 0; }") ((Function (spelled (void 0 4) 0) (name 5 6) [] (Some End)) ∷ (Variables (int 17 20) ((declared (name 21 22) [] None) ∷ [])) ∷ (Variables (int 24 27) ((declared (name 29 30) (PointerTo ∷ []) None) ∷ [])) ∷ (Variables (int 32 35) ((declared (name 37 38) (PointerTo ∷ []) None) ∷ [])) ∷ (Variables (char 40 44) ((declared (name 46 47) (PointerTo ∷ []) None) ∷ [])) ∷ (Variables (int 49 52) ((declared (name 53 54) ((ArrayOf (Number (number 55 56))) ∷ []) None) ∷ [])) ∷ (Function (spelled (int 59 62) 0) (name 63 67) [] (Some (Next (Evaluate (Assign (Name (name 76 77)) (mark w.Assign 78 79) (Cast (mark w.LeftParen 80 81) (spelled (char 81 85) 0) (Name (name 87 88))))) (Next (Evaluate (Assign (Name (name 90 91)) (mark w.Assign 92 93) (Cast (mark w.LeftParen 94 95) (spelled (int 95 98) 0) (Number (suffixed suffix.L 100 102))))) (Next (Evaluate (Cast (mark w.LeftParen 104 105) (spelled (void 105 109) 0) (Name (name 111 112)))) (Next (Evaluate (Cast (mark w.LeftParen 114 115) (spelled (void 115 119) 0) (Name (name 121 122)))) (Next (Evaluate (Cast (mark w.LeftParen 124 125) (spelled (void 125 129) 0) (Call (name 131 132) NoMore))) (Next (Return (word w.Return 136 142) (Some (Number (number 143 144)))) End)))))))) ∷ []) 0 0 ∷
    -- int x; int *p; int *q; char *c; int a[3]; int main(void) { x = (int) p; return 0; }
    row (codes "int x; int *p; int *q; char *c; int a[3]; int main(void) { x = (int) p; return 0; }") ((Variables (int 0 3) ((declared (name 4 5) [] None) ∷ [])) ∷ (Variables (int 7 10) ((declared (name 12 13) (PointerTo ∷ []) None) ∷ [])) ∷ (Variables (int 15 18) ((declared (name 20 21) (PointerTo ∷ []) None) ∷ [])) ∷ (Variables (char 23 27) ((declared (name 29 30) (PointerTo ∷ []) None) ∷ [])) ∷ (Variables (int 32 35) ((declared (name 36 37) ((ArrayOf (Number (number 38 39))) ∷ []) None) ∷ [])) ∷ (Function (spelled (int 42 45) 0) (name 46 50) [] (Some (Next (Evaluate (Assign (Name (name 59 60)) (mark w.Assign 61 62) (Cast (mark w.LeftParen 63 64) (spelled (int 64 67) 0) (Name (name 69 70))))) (Next (Return (word w.Return 72 78) (Some (Number (number 79 80)))) End)))) ∷ []) 123 64 ∷
    -- int x; int *p; int *q; char *c; int a[3]; int main(void) { p = (int *) q; return 0; }
    row (codes "int x; int *p; int *q; char *c; int a[3]; int main(void) { p = (int *) q; return 0; }") ((Variables (int 0 3) ((declared (name 4 5) [] None) ∷ [])) ∷ (Variables (int 7 10) ((declared (name 12 13) (PointerTo ∷ []) None) ∷ [])) ∷ (Variables (int 15 18) ((declared (name 20 21) (PointerTo ∷ []) None) ∷ [])) ∷ (Variables (char 23 27) ((declared (name 29 30) (PointerTo ∷ []) None) ∷ [])) ∷ (Variables (int 32 35) ((declared (name 36 37) ((ArrayOf (Number (number 38 39))) ∷ []) None) ∷ [])) ∷ (Function (spelled (int 42 45) 0) (name 46 50) [] (Some (Next (Evaluate (Assign (Name (name 59 60)) (mark w.Assign 61 62) (Cast (mark w.LeftParen 63 64) (spelled (int 64 67) 1) (Name (name 71 72))))) (Next (Return (word w.Return 74 80) (Some (Number (number 81 82)))) End)))) ∷ []) 123 64 ∷
    -- int x; int *p; int *q; char *c; int a[3]; int main(void) { p = (int *) 0; return 0; }
    row (codes "int x; int *p; int *q; char *c; int a[3]; int main(void) { p = (int *) 0; return 0; }") ((Variables (int 0 3) ((declared (name 4 5) [] None) ∷ [])) ∷ (Variables (int 7 10) ((declared (name 12 13) (PointerTo ∷ []) None) ∷ [])) ∷ (Variables (int 15 18) ((declared (name 20 21) (PointerTo ∷ []) None) ∷ [])) ∷ (Variables (char 23 27) ((declared (name 29 30) (PointerTo ∷ []) None) ∷ [])) ∷ (Variables (int 32 35) ((declared (name 36 37) ((ArrayOf (Number (number 38 39))) ∷ []) None) ∷ [])) ∷ (Function (spelled (int 42 45) 0) (name 46 50) [] (Some (Next (Evaluate (Assign (Name (name 59 60)) (mark w.Assign 61 62) (Cast (mark w.LeftParen 63 64) (spelled (int 64 67) 1) (Number (number 71 72))))) (Next (Return (word w.Return 74 80) (Some (Number (number 81 82)))) End)))) ∷ []) 123 64 ∷
    -- int x; int *p; int *q; char *c; int a[3]; int main(void) { p = (void *) q; return 0; }
    row (codes "int x; int *p; int *q; char *c; int a[3]; int main(void) { p = (void *) q; return 0; }") ((Variables (int 0 3) ((declared (name 4 5) [] None) ∷ [])) ∷ (Variables (int 7 10) ((declared (name 12 13) (PointerTo ∷ []) None) ∷ [])) ∷ (Variables (int 15 18) ((declared (name 20 21) (PointerTo ∷ []) None) ∷ [])) ∷ (Variables (char 23 27) ((declared (name 29 30) (PointerTo ∷ []) None) ∷ [])) ∷ (Variables (int 32 35) ((declared (name 36 37) ((ArrayOf (Number (number 38 39))) ∷ []) None) ∷ [])) ∷ (Function (spelled (int 42 45) 0) (name 46 50) [] (Some (Next (Evaluate (Assign (Name (name 59 60)) (mark w.Assign 61 62) (Cast (mark w.LeftParen 63 64) (spelled (void 64 68) 1) (Name (name 72 73))))) (Next (Return (word w.Return 75 81) (Some (Number (number 82 83)))) End)))) ∷ []) 123 64 ∷
    -- int x; int *p; int *q; char *c; int a[3]; int main(void) { p = (void *) 1; return 0; }
    row (codes "int x; int *p; int *q; char *c; int a[3]; int main(void) { p = (void *) 1; return 0; }") ((Variables (int 0 3) ((declared (name 4 5) [] None) ∷ [])) ∷ (Variables (int 7 10) ((declared (name 12 13) (PointerTo ∷ []) None) ∷ [])) ∷ (Variables (int 15 18) ((declared (name 20 21) (PointerTo ∷ []) None) ∷ [])) ∷ (Variables (char 23 27) ((declared (name 29 30) (PointerTo ∷ []) None) ∷ [])) ∷ (Variables (int 32 35) ((declared (name 36 37) ((ArrayOf (Number (number 38 39))) ∷ []) None) ∷ [])) ∷ (Function (spelled (int 42 45) 0) (name 46 50) [] (Some (Next (Evaluate (Assign (Name (name 59 60)) (mark w.Assign 61 62) (Cast (mark w.LeftParen 63 64) (spelled (void 64 68) 1) (Number (number 72 73))))) (Next (Return (word w.Return 75 81) (Some (Number (number 82 83)))) End)))) ∷ []) 123 64 ∷
    -- int x; int *p; int *q; char *c; int a[3]; int main(void) { p = (void *) (0); return 0; }
    row (codes "int x; int *p; int *q; char *c; int a[3]; int main(void) { p = (void *) (0); return 0; }") ((Variables (int 0 3) ((declared (name 4 5) [] None) ∷ [])) ∷ (Variables (int 7 10) ((declared (name 12 13) (PointerTo ∷ []) None) ∷ [])) ∷ (Variables (int 15 18) ((declared (name 20 21) (PointerTo ∷ []) None) ∷ [])) ∷ (Variables (char 23 27) ((declared (name 29 30) (PointerTo ∷ []) None) ∷ [])) ∷ (Variables (int 32 35) ((declared (name 36 37) ((ArrayOf (Number (number 38 39))) ∷ []) None) ∷ [])) ∷ (Function (spelled (int 42 45) 0) (name 46 50) [] (Some (Next (Evaluate (Assign (Name (name 59 60)) (mark w.Assign 61 62) (Cast (mark w.LeftParen 63 64) (spelled (void 64 68) 1) (Paren (mark w.LeftParen 72 73) (Number (number 73 74)))))) (Next (Return (word w.Return 77 83) (Some (Number (number 84 85)))) End)))) ∷ []) 0 0 ∷
    -- int x; int *p; int *q; char *c; int a[3]; int main(void) { p = ((void *) ((0))); return 0; }
    row (codes "int x; int *p; int *q; char *c; int a[3]; int main(void) { p = ((void *) ((0))); return 0; }") ((Variables (int 0 3) ((declared (name 4 5) [] None) ∷ [])) ∷ (Variables (int 7 10) ((declared (name 12 13) (PointerTo ∷ []) None) ∷ [])) ∷ (Variables (int 15 18) ((declared (name 20 21) (PointerTo ∷ []) None) ∷ [])) ∷ (Variables (char 23 27) ((declared (name 29 30) (PointerTo ∷ []) None) ∷ [])) ∷ (Variables (int 32 35) ((declared (name 36 37) ((ArrayOf (Number (number 38 39))) ∷ []) None) ∷ [])) ∷ (Function (spelled (int 42 45) 0) (name 46 50) [] (Some (Next (Evaluate (Assign (Name (name 59 60)) (mark w.Assign 61 62) (Paren (mark w.LeftParen 63 64) (Cast (mark w.LeftParen 64 65) (spelled (void 65 69) 1) (Paren (mark w.LeftParen 73 74) (Paren (mark w.LeftParen 74 75) (Number (number 75 76)))))))) (Next (Return (word w.Return 81 87) (Some (Number (number 88 89)))) End)))) ∷ []) 0 0 ∷
    -- int x; int *p; int *q; char *c; int a[3]; int main(void) { p = (void *) (void *) 0; return 0; }
    row (codes "int x; int *p; int *q; char *c; int a[3]; int main(void) { p = (void *) (void *) 0; return 0; }") ((Variables (int 0 3) ((declared (name 4 5) [] None) ∷ [])) ∷ (Variables (int 7 10) ((declared (name 12 13) (PointerTo ∷ []) None) ∷ [])) ∷ (Variables (int 15 18) ((declared (name 20 21) (PointerTo ∷ []) None) ∷ [])) ∷ (Variables (char 23 27) ((declared (name 29 30) (PointerTo ∷ []) None) ∷ [])) ∷ (Variables (int 32 35) ((declared (name 36 37) ((ArrayOf (Number (number 38 39))) ∷ []) None) ∷ [])) ∷ (Function (spelled (int 42 45) 0) (name 46 50) [] (Some (Next (Evaluate (Assign (Name (name 59 60)) (mark w.Assign 61 62) (Cast (mark w.LeftParen 63 64) (spelled (void 64 68) 1) (Cast (mark w.LeftParen 72 73) (spelled (void 73 77) 1) (Number (number 81 82)))))) (Next (Return (word w.Return 84 90) (Some (Number (number 91 92)))) End)))) ∷ []) 123 64 ∷
    -- int x; int *p; int *q; char *c; int a[3]; int main(void) { p = (void *) 00; return 0; }
    row (codes "int x; int *p; int *q; char *c; int a[3]; int main(void) { p = (void *) 00; return 0; }") ((Variables (int 0 3) ((declared (name 4 5) [] None) ∷ [])) ∷ (Variables (int 7 10) ((declared (name 12 13) (PointerTo ∷ []) None) ∷ [])) ∷ (Variables (int 15 18) ((declared (name 20 21) (PointerTo ∷ []) None) ∷ [])) ∷ (Variables (char 23 27) ((declared (name 29 30) (PointerTo ∷ []) None) ∷ [])) ∷ (Variables (int 32 35) ((declared (name 36 37) ((ArrayOf (Number (number 38 39))) ∷ []) None) ∷ [])) ∷ (Function (spelled (int 42 45) 0) (name 46 50) [] (Some (Next (Evaluate (Assign (Name (name 59 60)) (mark w.Assign 61 62) (Cast (mark w.LeftParen 63 64) (spelled (void 64 68) 1) (Number (number 72 74))))) (Next (Return (word w.Return 76 82) (Some (Number (number 83 84)))) End)))) ∷ []) 123 64 ∷
    -- int x; struct s { int m; }; struct s s; struct s t; struct s *sp; int main(void) { x = (struct s) 1; return 0; }
    row (codes "int x; struct s { int m; }; struct s s; struct s t; struct s *sp; int main(void) { x = (struct s) 1; return 0; }") ((Variables (int 0 3) ((declared (name 4 5) [] None) ∷ [])) ∷ (Struct (name 14 15) ((members (int 18 21) ((declarator (name 22 23) []) ∷ [])) ∷ []) []) ∷ (Variables (struct 35 36) ((declared (name 37 38) [] None) ∷ [])) ∷ (Variables (struct 47 48) ((declared (name 49 50) [] None) ∷ [])) ∷ (Variables (struct 59 60) ((declared (name 62 64) (PointerTo ∷ []) None) ∷ [])) ∷ (Function (spelled (int 66 69) 0) (name 70 74) [] (Some (Next (Evaluate (Assign (Name (name 83 84)) (mark w.Assign 85 86) (Cast (mark w.LeftParen 87 88) (spelled (struct 95 96) 0) (Number (number 98 99))))) (Next (Return (word w.Return 101 107) (Some (Number (number 108 109)))) End)))) ∷ []) 123 88 ∷
    -- struct s { int m; }; struct s s; struct s t; struct s *sp; int main(void) { (void) s; return 0; }
    row (codes "struct s { int m; }; struct s s; struct s t; struct s *sp; int main(void) { (void) s; return 0; }") ((Struct (name 7 8) ((members (int 11 14) ((declarator (name 15 16) []) ∷ [])) ∷ []) []) ∷ (Variables (struct 28 29) ((declared (name 30 31) [] None) ∷ [])) ∷ (Variables (struct 40 41) ((declared (name 42 43) [] None) ∷ [])) ∷ (Variables (struct 52 53) ((declared (name 55 57) (PointerTo ∷ []) None) ∷ [])) ∷ (Function (spelled (int 59 62) 0) (name 63 67) [] (Some (Next (Evaluate (Cast (mark w.LeftParen 76 77) (spelled (void 77 81) 0) (Name (name 83 84)))) (Next (Return (word w.Return 86 92) (Some (Number (number 93 94)))) End)))) ∷ []) 129 84 ∷ []

pub casts : outcomes casts_rows ≡ refusals casts_rows
unfolding checked_rules.kept checked_rules.unless checked_rules.none_of environment_rules.found_in environment_rules.found environment_rules.specified environment_rules.with_stars environment_rules.spelled_type nodes_rules.first_place judgements_rules.shape judgements_rules.on_pointers judgements_rules.arithmetic judgements_rules.relation judgements_rules.operation judgements_rules.conversion judgements_rules.selection judgements_rules.cast_conversion judgements_rules.compound_operation operands_rules.loaded operands_rules.value operands_rules.condition operands_rules.brought operands_rules.fitted operators_rules.unit operators_rules.computed operators_rules.combined operators_rules.selected operators_rules.choice_of operators_rules.cast_by operators_rules.cast operators_rules.promoting operators_rules.negation operators_rules.address operators_rules.dereferenced assignments_rules.assigned assignments_rules.updated assignments_rules.compound assignments_rules.stepped subobjects_rules.base_of subobjects_rules.indexed subobjects_rules.dot subobjects_rules.arrow allocation_rules.objects allocation_rules.product allocation_rules.allocated allocation_rules.freed expressions_rules.full expressions_rules.operand expressions_rules.arguments expressions_rules.only_value expressions_rules.only_request expressions_rules.requested expressions_rules.measured constant_expressions_rules.is_constant constant_expressions_rules.value_of constant_expressions_rules.constant constant_expressions_rules.size_of_array constant_expressions_rules.part_of constant_expressions_rules.is_literal constant_expressions_rules.has_literal_indices constant_expressions_rules.initial_value declarations_rules.size declarations_rules.layers declarations_rules.layered declarations_rules.element_number declarations_rules.is_complete declarations_rules.is_within_limit initialisers_rules.parts initialisers_rules.zeros initialisers_rules.alone initialisers_rules.all_alone initialisers_rules.cells initialisers_rules.elements statements_rules.in_scope statements_rules.init_statements statements_rules.declare_one statements_rules.declare_all statements_rules.declare statements_rules.statement statements_rules.statements weights_rules.declared_weight weights_rules.item_weight weights_rules.initialiser_nodes weights_rules.elements_nodes weights_rules.continues weights_rules.all_continues weights_rules.statement_weight weights_rules.statements_weight file_scope_rules.file_scope file_scope_rules.variable file_scope_rules.variables structs_rules.member structs_rules.member_list structs_rules.all_members structs_rules.structure functions_rules.parameter functions_rules.parameters functions_rules.declarable_function functions_rules.replaced functions_rules.defined_as functions_rules.function programs_rules.item programs_rules.items programs_rules.whole programs_rules.elaborated programs_rules.elaboration number_rules.radix_of number_rules.value_of number_rules.number_value number_rules.constant_of number_rules.constant_with number_rules.first_holding number_rules.constant_types number_rules.number_of number_rules.suffix_of lexeme_rules.character_value type_rows.shape-the_row-CType-0 type_rows.hidden-the_row-CType-0 expression_rows.shape-the_row-Expr-0 expression_rows.hidden-the_row-Expr-0 expression_rows.shape-the_row-Expr-1 expression_rows.hidden-the_row-Expr-1 expression_rows.shape-the_row-Place_-2 expression_rows.hidden-the_row-Place_-2 statement_rows.shape-the_row-Stmt-0 statement_rows.hidden-the_row-Stmt-0 statement_rows.shape-the_row-Stmt-1 statement_rows.hidden-the_row-Stmt-1 hidden
casts = refl
