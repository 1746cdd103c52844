-- Examples of the rules on statements (C11 6.8): each text breaks the rule with this number, at this column, or none.
use Rattle.std.proofs.Common.{◌≡◌, refl, List, [], ◌∷◌, codes, Some, None}
use Rattle.c_words.specs.declared.word.Word.TheVariants as w
use Rattle.typing_rules.specs.Syntax.{Name, Number, Call, Cast, Binary, Assign, NoMore, PointerTo, ArrayOf, Value, Braces, NoElement, Element, NoFirst, FirstValue, Nothing, Evaluate, Block, Declare, If, IfElse, While, Do, For, Break, Continue, Return, End, Next, Struct, Variables, Function}
use Rattle.typing_rules.proofs.ExampleTexts.{name, number, word, mark, int, void, spelled, declarator, declared, parameter, local, members, Row, row, outcomes, refusals}
use Rattle.typing_rules.specs.Checked as checked_rules
use Rattle.typing_rules.specs.Environment as environment_rules
use Rattle.typing_rules.specs.Nodes as nodes_rules
use Rattle.typing_rules.specs.Judgements as judgements_rules
use Rattle.typing_rules.specs.Operands as operands_rules
use Rattle.typing_rules.specs.Operators as operators_rules
use Rattle.typing_rules.specs.Assignments as assignments_rules
use Rattle.typing_rules.specs.Subobjects as subobjects_rules
use Rattle.typing_rules.specs.Allocation as allocation_rules
use Rattle.typing_rules.specs.Expressions as expressions_rules
use Rattle.typing_rules.specs.ConstantExpressions as constant_expressions_rules
use Rattle.typing_rules.specs.Declarations as declarations_rules
use Rattle.typing_rules.specs.Initialisers as initialisers_rules
use Rattle.typing_rules.specs.Statements as statements_rules
use Rattle.typing_rules.specs.Weights as weights_rules
use Rattle.typing_rules.specs.FileScope as file_scope_rules
use Rattle.typing_rules.specs.Structs as structs_rules
use Rattle.typing_rules.specs.Functions as functions_rules
use Rattle.typing_rules.specs.Programs as programs_rules
use Rattle.c_lexer.specs.Numbers as number_rules
use Rattle.c_lexer.specs.Lexemes as lexeme_rules
use Rattle.step_meaning.specs.declared.value.CType.TheBlock as type_rows
use Rattle.step_meaning.specs.declared.expr.Expr.TheBlock as expression_rows
use Rattle.step_meaning.specs.declared.stmt.Stmt.TheBlock as statement_rows
use denote.Hole.Carrier.{hidden}

-- `break` and `continue` stand in loops, and `return` has a value where the function has one
abbrev jumps_rows : List Row
jumps_rows =
    -- int main(void) { continue; return 0; }
    row (codes "int main(void) { continue; return 0; }") ((Function (spelled (int 0 3) 0) (name 4 8) [] (Some (Next (Continue (word w.Continue 17 25)) (Next (Return (word w.Return 27 33) (Some (Number (number 34 35)))) End)))) ∷ []) 133 18 ∷
    -- int main(void) { if (1) break; return 0; }
    row (codes "int main(void) { if (1) break; return 0; }") ((Function (spelled (int 0 3) 0) (name 4 8) [] (Some (Next (If (Number (number 21 22)) (Break (word w.Break 24 29))) (Next (Return (word w.Return 31 37) (Some (Number (number 38 39)))) End)))) ∷ []) 133 25 ∷
    -- int main(void) { while (1) { if (1) break; else continue; } do { break; } while (1); for (;;) break; return 0; }
    row (codes "int main(void) { while (1) { if (1) break; else continue; } do { break; } while (1); for (;;) break; return 0; }") ((Function (spelled (int 0 3) 0) (name 4 8) [] (Some (Next (While (Number (number 24 25)) (Block (Next (IfElse (Number (number 33 34)) (Break (word w.Break 36 41)) (Continue (word w.Continue 48 56))) End))) (Next (Do (Block (Next (Break (word w.Break 65 70)) End)) (Number (number 81 82))) (Next (For NoFirst None None (Break (word w.Break 94 99))) (Next (Return (word w.Return 101 107) (Some (Number (number 108 109)))) End)))))) ∷ []) 0 0 ∷
    -- int main(void) { while (1) ; break; return 0; }
    row (codes "int main(void) { while (1) ; break; return 0; }") ((Function (spelled (int 0 3) 0) (name 4 8) [] (Some (Next (While (Number (number 24 25)) Nothing) (Next (Break (word w.Break 29 34)) (Next (Return (word w.Return 36 42) (Some (Number (number 43 44)))) End))))) ∷ []) 133 30 ∷
    -- int main(void) { for (;;) { while (0) break; continue; } return 0; }
    row (codes "int main(void) { for (;;) { while (0) break; continue; } return 0; }") ((Function (spelled (int 0 3) 0) (name 4 8) [] (Some (Next (For NoFirst None None (Block (Next (While (Number (number 35 36)) (Break (word w.Break 38 43))) (Next (Continue (word w.Continue 45 53)) End)))) (Next (Return (word w.Return 57 63) (Some (Number (number 64 65)))) End)))) ∷ []) 0 0 ∷
    -- void f(void) { return 1; } int main(void) { return 0; }
    row (codes "void f(void) { return 1; } int main(void) { return 0; }") ((Function (spelled (void 0 4) 0) (name 5 6) [] (Some (Next (Return (word w.Return 15 21) (Some (Number (number 22 23)))) End))) ∷ (Function (spelled (int 27 30) 0) (name 31 35) [] (Some (Next (Return (word w.Return 44 50) (Some (Number (number 51 52)))) End))) ∷ []) 123 16 ∷
    -- void f(void) { return y; } int main(void) { return 0; }
    row (codes "void f(void) { return y; } int main(void) { return 0; }") ((Function (spelled (void 0 4) 0) (name 5 6) [] (Some (Next (Return (word w.Return 15 21) (Some (Name (name 22 23)))) End))) ∷ (Function (spelled (int 27 30) 0) (name 31 35) [] (Some (Next (Return (word w.Return 44 50) (Some (Number (number 51 52)))) End))) ∷ []) 121 23 ∷
    -- int f(void) { return; } int main(void) { return 0; }
    row (codes "int f(void) { return; } int main(void) { return 0; }") ((Function (spelled (int 0 3) 0) (name 4 5) [] (Some (Next (Return (word w.Return 14 20) None) End))) ∷ (Function (spelled (int 24 27) 0) (name 28 32) [] (Some (Next (Return (word w.Return 41 47) (Some (Number (number 48 49)))) End))) ∷ []) 123 15 ∷
    -- void f(void) { return; } void g(void) { } int h(void) { } int main(void) { return 0; }
    row (codes "void f(void) { return; } void g(void) { } int h(void) { } int main(void) { return 0; }") ((Function (spelled (void 0 4) 0) (name 5 6) [] (Some (Next (Return (word w.Return 15 21) None) End))) ∷ (Function (spelled (void 25 29) 0) (name 30 31) [] (Some End)) ∷ (Function (spelled (int 42 45) 0) (name 46 47) [] (Some End)) ∷ (Function (spelled (int 58 61) 0) (name 62 66) [] (Some (Next (Return (word w.Return 75 81) (Some (Number (number 82 83)))) End))) ∷ []) 0 0 ∷
    -- void f(void) { } void g(void) { return f(); } int main(void) { return 0; }
    row (codes "void f(void) { } void g(void) { return f(); } int main(void) { return 0; }") ((Function (spelled (void 0 4) 0) (name 5 6) [] (Some End)) ∷ (Function (spelled (void 17 21) 0) (name 22 23) [] (Some (Next (Return (word w.Return 32 38) (Some (Call (name 39 40) NoMore))) End))) ∷ (Function (spelled (int 46 49) 0) (name 50 54) [] (Some (Next (Return (word w.Return 63 69) (Some (Number (number 70 71)))) End))) ∷ []) 123 33 ∷ []

pub jumps : outcomes jumps_rows ≡ refusals jumps_rows
unfolding checked_rules.kept checked_rules.unless checked_rules.none_of environment_rules.found_in environment_rules.found environment_rules.specified environment_rules.with_stars environment_rules.spelled_type nodes_rules.first_place judgements_rules.shape judgements_rules.on_pointers judgements_rules.arithmetic judgements_rules.relation judgements_rules.operation judgements_rules.conversion judgements_rules.selection judgements_rules.cast_conversion judgements_rules.compound_operation operands_rules.loaded operands_rules.value operands_rules.condition operands_rules.brought operands_rules.fitted operators_rules.unit operators_rules.computed operators_rules.combined operators_rules.selected operators_rules.choice_of operators_rules.cast_by operators_rules.cast operators_rules.promoting operators_rules.negation operators_rules.address operators_rules.dereferenced assignments_rules.assigned assignments_rules.updated assignments_rules.compound assignments_rules.stepped subobjects_rules.base_of subobjects_rules.indexed subobjects_rules.dot subobjects_rules.arrow allocation_rules.objects allocation_rules.product allocation_rules.allocated allocation_rules.freed expressions_rules.full expressions_rules.operand expressions_rules.arguments expressions_rules.only_value expressions_rules.only_request expressions_rules.requested expressions_rules.measured constant_expressions_rules.is_constant constant_expressions_rules.value_of constant_expressions_rules.constant constant_expressions_rules.size_of_array constant_expressions_rules.part_of constant_expressions_rules.is_literal constant_expressions_rules.has_literal_indices constant_expressions_rules.initial_value declarations_rules.size declarations_rules.layers declarations_rules.layered declarations_rules.element_number declarations_rules.is_complete declarations_rules.is_within_limit initialisers_rules.parts initialisers_rules.zeros initialisers_rules.alone initialisers_rules.all_alone initialisers_rules.cells initialisers_rules.elements statements_rules.in_scope statements_rules.init_statements statements_rules.declare_one statements_rules.declare_all statements_rules.declare statements_rules.statement statements_rules.statements weights_rules.declared_weight weights_rules.item_weight weights_rules.initialiser_nodes weights_rules.elements_nodes weights_rules.continues weights_rules.all_continues weights_rules.statement_weight weights_rules.statements_weight file_scope_rules.file_scope file_scope_rules.variable file_scope_rules.variables structs_rules.member structs_rules.member_list structs_rules.all_members structs_rules.structure functions_rules.parameter functions_rules.parameters functions_rules.declarable_function functions_rules.replaced functions_rules.defined_as functions_rules.function programs_rules.item programs_rules.items programs_rules.whole programs_rules.elaborated programs_rules.elaboration number_rules.radix_of number_rules.value_of number_rules.number_value number_rules.constant_of number_rules.constant_with number_rules.first_holding number_rules.constant_types number_rules.number_of number_rules.suffix_of lexeme_rules.character_value type_rows.shape-the_row-CType-0 type_rows.hidden-the_row-CType-0 expression_rows.shape-the_row-Expr-0 expression_rows.hidden-the_row-Expr-0 expression_rows.shape-the_row-Expr-1 expression_rows.hidden-the_row-Expr-1 expression_rows.shape-the_row-Place_-2 expression_rows.hidden-the_row-Place_-2 statement_rows.shape-the_row-Stmt-0 statement_rows.hidden-the_row-Stmt-0 statement_rows.shape-the_row-Stmt-1 statement_rows.hidden-the_row-Stmt-1 hidden
jumps = refl

-- the first rule in text order
abbrev order_rows : List Row
order_rows =
    -- int main(void) { if (y) break; return 0; }
    row (codes "int main(void) { if (y) break; return 0; }") ((Function (spelled (int 0 3) 0) (name 4 8) [] (Some (Next (If (Name (name 21 22)) (Break (word w.Break 24 29))) (Next (Return (word w.Return 31 37) (Some (Number (number 38 39)))) End)))) ∷ []) 121 22 ∷
    -- int main(void) { if ((void) 1) break; return 0; }
    row (codes "int main(void) { if ((void) 1) break; return 0; }") ((Function (spelled (int 0 3) 0) (name 4 8) [] (Some (Next (If (Cast (mark w.LeftParen 21 22) (spelled (void 22 26) 0) (Number (number 28 29))) (Break (word w.Break 31 36))) (Next (Return (word w.Return 38 44) (Some (Number (number 45 46)))) End)))) ∷ []) 123 22 ∷
    -- int main(void) { do break; while (y); return 0; }
    row (codes "int main(void) { do break; while (y); return 0; }") ((Function (spelled (int 0 3) 0) (name 4 8) [] (Some (Next (Do (Break (word w.Break 20 25)) (Name (name 34 35))) (Next (Return (word w.Return 38 44) (Some (Number (number 45 46)))) End)))) ∷ []) 121 35 ∷
    -- int main(void) { do { break; y; } while (z); return 0; }
    row (codes "int main(void) { do { break; y; } while (z); return 0; }") ((Function (spelled (int 0 3) 0) (name 4 8) [] (Some (Next (Do (Block (Next (Break (word w.Break 22 27)) (Next (Evaluate (Name (name 29 30))) End))) (Name (name 41 42))) (Next (Return (word w.Return 45 51) (Some (Number (number 52 53)))) End)))) ∷ []) 121 30 ∷
    -- int main(void) { for (;; y) z; return 0; }
    row (codes "int main(void) { for (;; y) z; return 0; }") ((Function (spelled (int 0 3) 0) (name 4 8) [] (Some (Next (For NoFirst None (Some (Name (name 25 26))) (Evaluate (Name (name 28 29)))) (Next (Return (word w.Return 31 37) (Some (Number (number 38 39)))) End)))) ∷ []) 121 26 ∷
    -- int main(void) { for (y; z;) ; return 0; }
    row (codes "int main(void) { for (y; z;) ; return 0; }") ((Function (spelled (int 0 3) 0) (name 4 8) [] (Some (Next (For (FirstValue (Name (name 22 23))) (Some (Name (name 25 26))) None Nothing) (Next (Return (word w.Return 31 37) (Some (Number (number 38 39)))) End)))) ∷ []) 121 23 ∷
    -- int main(void) { int b = y, y; return 0; }
    row (codes "int main(void) { int b = y, y; return 0; }") ((Function (spelled (int 0 3) 0) (name 4 8) [] (Some (Next (Declare (local (int 17 20) ((declared (name 21 22) [] (Some (Value (Name (name 25 26))))) ∷ (declared (name 28 29) [] None) ∷ []))) (Next (Return (word w.Return 31 37) (Some (Number (number 38 39)))) End)))) ∷ []) 121 26 ∷
    -- int main(void) { y + z; return 0; }
    row (codes "int main(void) { y + z; return 0; }") ((Function (spelled (int 0 3) 0) (name 4 8) [] (Some (Next (Evaluate (Binary (Name (name 17 18)) (mark w.Plus 19 20) (Name (name 21 22)))) (Next (Return (word w.Return 24 30) (Some (Number (number 31 32)))) End)))) ∷ []) 121 18 ∷
    -- int main(void) { 1 = y; return 0; }
    row (codes "int main(void) { 1 = y; return 0; }") ((Function (spelled (int 0 3) 0) (name 4 8) [] (Some (Next (Evaluate (Assign (Number (number 17 18)) (mark w.Assign 19 20) (Name (name 21 22)))) (Next (Return (word w.Return 24 30) (Some (Number (number 31 32)))) End)))) ∷ []) 121 22 ∷
    -- int x; int *p; int main(void) { x = p * y; return 0; }
    row (codes "int x; int *p; int main(void) { x = p * y; return 0; }") ((Variables (int 0 3) ((declared (name 4 5) [] None) ∷ [])) ∷ (Variables (int 7 10) ((declared (name 12 13) (PointerTo ∷ []) None) ∷ [])) ∷ (Function (spelled (int 15 18) 0) (name 19 23) [] (Some (Next (Evaluate (Assign (Name (name 32 33)) (mark w.Assign 34 35) (Binary (Name (name 36 37)) (mark w.Star 38 39) (Name (name 40 41))))) (Next (Return (word w.Return 43 49) (Some (Number (number 50 51)))) End)))) ∷ []) 121 41 ∷
    -- int main(void) { int a[2] = {y}, a; return 0; }
    row (codes "int main(void) { int a[2] = {y}, a; return 0; }") ((Function (spelled (int 0 3) 0) (name 4 8) [] (Some (Next (Declare (local (int 17 20) ((declared (name 21 22) ((ArrayOf (Number (number 23 24))) ∷ []) (Some (Braces (mark w.LeftBrace 28 29) (Element (Value (Name (name 29 30))) NoElement)))) ∷ (declared (name 33 34) [] None) ∷ []))) (Next (Return (word w.Return 36 42) (Some (Number (number 43 44)))) End)))) ∷ []) 121 30 ∷
    -- int main(void) { int a[0], y = z; return 0; }
    row (codes "int main(void) { int a[0], y = z; return 0; }") ((Function (spelled (int 0 3) 0) (name 4 8) [] (Some (Next (Declare (local (int 17 20) ((declared (name 21 22) ((ArrayOf (Number (number 23 24))) ∷ []) None) ∷ (declared (name 27 28) [] (Some (Value (Name (name 31 32))))) ∷ []))) (Next (Return (word w.Return 34 40) (Some (Number (number 41 42)))) End)))) ∷ []) 132 24 ∷
    -- int main(void) { int x; int x = y; return 0; }
    row (codes "int main(void) { int x; int x = y; return 0; }") ((Function (spelled (int 0 3) 0) (name 4 8) [] (Some (Next (Declare (local (int 17 20) ((declared (name 21 22) [] None) ∷ []))) (Next (Declare (local (int 24 27) ((declared (name 28 29) [] (Some (Value (Name (name 32 33))))) ∷ []))) (Next (Return (word w.Return 35 41) (Some (Number (number 42 43)))) End))))) ∷ []) 122 29 ∷
    -- int f(int a) { return y; } int f(int a) { return z; }
    row (codes "int f(int a) { return y; } int f(int a) { return z; }") ((Function (spelled (int 0 3) 0) (name 4 5) ((parameter (int 6 9) (Some (name 10 11)) (word w.Int 6 9) []) ∷ []) (Some (Next (Return (word w.Return 15 21) (Some (Name (name 22 23)))) End))) ∷ (Function (spelled (int 27 30) 0) (name 31 32) ((parameter (int 33 36) (Some (name 37 38)) (word w.Int 33 36) []) ∷ []) (Some (Next (Return (word w.Return 42 48) (Some (Name (name 49 50)))) End))) ∷ []) 121 23 ∷
    -- int f(void y, int a[0]); int main(void) { return 0; }
    row (codes "int f(void y, int a[0]); int main(void) { return 0; }") ((Function (spelled (int 0 3) 0) (name 4 5) ((parameter (void 6 10) (Some (name 11 12)) (word w.Void 6 10) []) ∷ (parameter (int 14 17) (Some (name 18 19)) (word w.Int 14 17) ((ArrayOf (Number (number 20 21))) ∷ [])) ∷ []) None) ∷ (Function (spelled (int 25 28) 0) (name 29 33) [] (Some (Next (Return (word w.Return 42 48) (Some (Number (number 49 50)))) End))) ∷ []) 123 12 ∷
    -- struct s { int a; } x = {y}, x; int main(void) { return 0; }
    row (codes "struct s { int a; } x = {y}, x; int main(void) { return 0; }") ((Struct (name 7 8) ((members (int 11 14) ((declarator (name 15 16) []) ∷ [])) ∷ []) ((declared (name 20 21) [] (Some (Braces (mark w.LeftBrace 24 25) (Element (Value (Name (name 25 26))) NoElement)))) ∷ (declared (name 29 30) [] None) ∷ [])) ∷ (Function (spelled (int 32 35) 0) (name 36 40) [] (Some (Next (Return (word w.Return 49 55) (Some (Number (number 56 57)))) End))) ∷ []) 121 26 ∷ []

pub order : outcomes order_rows ≡ refusals order_rows
unfolding checked_rules.kept checked_rules.unless checked_rules.none_of environment_rules.found_in environment_rules.found environment_rules.specified environment_rules.with_stars environment_rules.spelled_type nodes_rules.first_place judgements_rules.shape judgements_rules.on_pointers judgements_rules.arithmetic judgements_rules.relation judgements_rules.operation judgements_rules.conversion judgements_rules.selection judgements_rules.cast_conversion judgements_rules.compound_operation operands_rules.loaded operands_rules.value operands_rules.condition operands_rules.brought operands_rules.fitted operators_rules.unit operators_rules.computed operators_rules.combined operators_rules.selected operators_rules.choice_of operators_rules.cast_by operators_rules.cast operators_rules.promoting operators_rules.negation operators_rules.address operators_rules.dereferenced assignments_rules.assigned assignments_rules.updated assignments_rules.compound assignments_rules.stepped subobjects_rules.base_of subobjects_rules.indexed subobjects_rules.dot subobjects_rules.arrow allocation_rules.objects allocation_rules.product allocation_rules.allocated allocation_rules.freed expressions_rules.full expressions_rules.operand expressions_rules.arguments expressions_rules.only_value expressions_rules.only_request expressions_rules.requested expressions_rules.measured constant_expressions_rules.is_constant constant_expressions_rules.value_of constant_expressions_rules.constant constant_expressions_rules.size_of_array constant_expressions_rules.part_of constant_expressions_rules.is_literal constant_expressions_rules.has_literal_indices constant_expressions_rules.initial_value declarations_rules.size declarations_rules.layers declarations_rules.layered declarations_rules.element_number declarations_rules.is_complete declarations_rules.is_within_limit initialisers_rules.parts initialisers_rules.zeros initialisers_rules.alone initialisers_rules.all_alone initialisers_rules.cells initialisers_rules.elements statements_rules.in_scope statements_rules.init_statements statements_rules.declare_one statements_rules.declare_all statements_rules.declare statements_rules.statement statements_rules.statements weights_rules.declared_weight weights_rules.item_weight weights_rules.initialiser_nodes weights_rules.elements_nodes weights_rules.continues weights_rules.all_continues weights_rules.statement_weight weights_rules.statements_weight file_scope_rules.file_scope file_scope_rules.variable file_scope_rules.variables structs_rules.member structs_rules.member_list structs_rules.all_members structs_rules.structure functions_rules.parameter functions_rules.parameters functions_rules.declarable_function functions_rules.replaced functions_rules.defined_as functions_rules.function programs_rules.item programs_rules.items programs_rules.whole programs_rules.elaborated programs_rules.elaboration number_rules.radix_of number_rules.value_of number_rules.number_value number_rules.constant_of number_rules.constant_with number_rules.first_holding number_rules.constant_types number_rules.number_of number_rules.suffix_of lexeme_rules.character_value type_rows.shape-the_row-CType-0 type_rows.hidden-the_row-CType-0 expression_rows.shape-the_row-Expr-0 expression_rows.hidden-the_row-Expr-0 expression_rows.shape-the_row-Expr-1 expression_rows.hidden-the_row-Expr-1 expression_rows.shape-the_row-Place_-2 expression_rows.hidden-the_row-Place_-2 statement_rows.shape-the_row-Stmt-0 statement_rows.hidden-the_row-Stmt-0 statement_rows.shape-the_row-Stmt-1 statement_rows.hidden-the_row-Stmt-1 hidden
order = refl
