-- Worked rows of the typing rules: each text breaks the rule with this number, at this column.
use Rattle.std.proofs.Common.{◌≡◌, refl, List, [], ◌∷◌, codes, Some, None}
use Rattle.c_words.specs.declared.word.Word.TheVariants as w
use Rattle.typing_rules.specs.Syntax.{Name, Number, Call, Prefix, Cast, SizeOf, SizeOfType, Assign, NoMore, Then, PointerTo, ArrayOf, Value, Braces, NoElement, Element, Evaluate, Declare, Break, Return, End, Next, Struct, Variables, Function}
use Rattle.typing_rules.proofs.ExampleTexts.{name, number, word, mark, int, struct, spelled, declarator, declared, parameter, local, members, Row, row, outcomes, refusals}
use Rattle.typing_rules.specs.Checked as checked_rules
use Rattle.typing_rules.specs.Environment as environment_rules
use Rattle.typing_rules.specs.Nodes as nodes_rules
use Rattle.typing_rules.specs.Judgements as judgements_rules
use Rattle.typing_rules.specs.Operands as operands_rules
use Rattle.typing_rules.specs.Operators as operators_rules
use Rattle.typing_rules.specs.Assignments as assignments_rules
use Rattle.typing_rules.specs.Subobjects as subobjects_rules
use Rattle.typing_rules.specs.Allocation as allocation_rules
use Rattle.typing_rules.specs.Expressions as expressions_rules
use Rattle.typing_rules.specs.ConstantExpressions as constant_expressions_rules
use Rattle.typing_rules.specs.Declarations as declarations_rules
use Rattle.typing_rules.specs.Initialisers as initialisers_rules
use Rattle.typing_rules.specs.Statements as statements_rules
use Rattle.typing_rules.specs.Weights as weights_rules
use Rattle.typing_rules.specs.FileScope as file_scope_rules
use Rattle.typing_rules.specs.Structs as structs_rules
use Rattle.typing_rules.specs.Functions as functions_rules
use Rattle.typing_rules.specs.Programs as programs_rules
use Rattle.c_lexer.specs.Numbers as number_rules
use Rattle.c_lexer.specs.Lexemes as lexeme_rules
use Rattle.step_meaning.specs.declared.value.CType.TheBlock as type_rows
use Rattle.step_meaning.specs.declared.expr.Expr.TheBlock as expression_rows
use Rattle.step_meaning.specs.declared.stmt.Stmt.TheBlock as statement_rows
use denote.Hole.Carrier.{hidden}

-- one of each number
abbrev refused_rows : List Row
refused_rows =
    -- int x; int x;
    row (codes "int x; int x;") ((Variables (int 0 3) ((declared (name 4 5) [] None) ∷ [])) ∷ (Variables (int 7 10) ((declared (name 11 12) [] None) ∷ [])) ∷ []) 122 12 ∷
    -- int main(void) { 1 = 2; return 0; }
    row (codes "int main(void) { 1 = 2; return 0; }") ((Function (spelled (int 0 3) 0) (name 4 8) [] (Some (Next (Evaluate (Assign (Number (number 17 18)) (mark w.Assign 19 20) (Number (number 21 22)))) (Next (Return (word w.Return 24 30) (Some (Number (number 31 32)))) End)))) ∷ []) 124 20 ∷
    -- int f(void); int main(void) { return f(); }
    row (codes "int f(void); int main(void) { return f(); }") ((Function (spelled (int 0 3) 0) (name 4 5) [] None) ∷ (Function (spelled (int 13 16) 0) (name 17 21) [] (Some (Next (Return (word w.Return 30 36) (Some (Call (name 37 38) NoMore))) End))) ∷ []) 126 38 ∷
    -- int x = y;
    row (codes "int x = y;") ((Variables (int 0 3) ((declared (name 4 5) [] (Some (Value (Name (name 8 9))))) ∷ [])) ∷ []) 121 9 ∷
    -- int __a; int main(void) { return 0; }
    row (codes "int __a; int main(void) { return 0; }") ((Variables (int 0 3) ((declared (name 4 7) [] None) ∷ [])) ∷ (Function (spelled (int 9 12) 0) (name 13 17) [] (Some (Next (Return (word w.Return 26 32) (Some (Number (number 33 34)))) End))) ∷ []) 130 5 ∷
    -- int main(void) { break; return 0; }
    row (codes "int main(void) { break; return 0; }") ((Function (spelled (int 0 3) 0) (name 4 8) [] (Some (Next (Break (word w.Break 17 22)) (Next (Return (word w.Return 24 30) (Some (Number (number 31 32)))) End)))) ∷ []) 133 18 ∷
    -- struct s { int a; }; struct s v; int main(void) { v; return 0; }
    row (codes "struct s { int a; }; struct s v; int main(void) { v; return 0; }") ((Struct (name 7 8) ((members (int 11 14) ((declarator (name 15 16) []) ∷ [])) ∷ []) []) ∷ (Variables (struct 28 29) ((declared (name 30 31) [] None) ∷ [])) ∷ (Function (spelled (int 33 36) 0) (name 37 41) [] (Some (Next (Evaluate (Name (name 50 51))) (Next (Return (word w.Return 53 59) (Some (Number (number 60 61)))) End)))) ∷ []) 129 51 ∷
    -- int a[2] = {1, 2, 3}; int main(void) { return 0; }
    row (codes "int a[2] = {1, 2, 3}; int main(void) { return 0; }") ((Variables (int 0 3) ((declared (name 4 5) ((ArrayOf (Number (number 6 7))) ∷ []) (Some (Braces (mark w.LeftBrace 11 12) (Element (Value (Number (number 12 13))) (Element (Value (Number (number 15 16))) (Element (Value (Number (number 18 19))) NoElement)))))) ∷ [])) ∷ (Function (spelled (int 22 25) 0) (name 26 30) [] (Some (Next (Return (word w.Return 39 45) (Some (Number (number 46 47)))) End))) ∷ []) 132 19 ∷
    -- int f(int a) { return a; } int main(void) { return f(); }
    row (codes "int f(int a) { return a; } int main(void) { return f(); }") ((Function (spelled (int 0 3) 0) (name 4 5) ((parameter (int 6 9) (Some (name 10 11)) (word w.Int 6 9) []) ∷ []) (Some (Next (Return (word w.Return 15 21) (Some (Name (name 22 23)))) End))) ∷ (Function (spelled (int 27 30) 0) (name 31 35) [] (Some (Next (Return (word w.Return 44 50) (Some (Call (name 51 52) NoMore))) End))) ∷ []) 125 52 ∷
    -- int main(void) { return main(); }
    row (codes "int main(void) { return main(); }") ((Function (spelled (int 0 3) 0) (name 4 8) [] (Some (Next (Return (word w.Return 17 23) (Some (Call (name 24 28) NoMore))) End))) ∷ []) 128 25 ∷
    -- int main(void) { int *p; p = 1; return 0; }
    row (codes "int main(void) { int *p; p = 1; return 0; }") ((Function (spelled (int 0 3) 0) (name 4 8) [] (Some (Next (Declare (local (int 17 20) ((declared (name 22 23) (PointerTo ∷ []) None) ∷ []))) (Next (Evaluate (Assign (Name (name 25 26)) (mark w.Assign 27 28) (Number (number 29 30)))) (Next (Return (word w.Return 32 38) (Some (Number (number 39 40)))) End))))) ∷ []) 123 28 ∷
    -- int main(void) { return y; }
    row (codes "int main(void) { return y; }") ((Function (spelled (int 0 3) 0) (name 4 8) [] (Some (Next (Return (word w.Return 17 23) (Some (Name (name 24 25)))) End))) ∷ []) 121 25 ∷
    -- int a[65537];
    row (codes "int a[65537];") ((Variables (int 0 3) ((declared (name 4 5) ((ArrayOf (Number (number 6 11))) ∷ []) None) ∷ [])) ∷ []) 131 5 ∷
    -- int main(void) { return sizeof(int); }
    row (codes "int main(void) { return sizeof(int); }") ((Function (spelled (int 0 3) 0) (name 4 8) [] (Some (Next (Return (word w.Return 17 23) (Some (SizeOfType (word w.SizeOf 24 30) (spelled (int 31 34) 0)))) End))) ∷ []) 123 25 ∷
    -- int main(void) { int *p = (int *) malloc(sizeof *p); free(p); free(p); return 0; }
    row (codes "int main(void) { int *p = (int *) malloc(sizeof *p); free(p); free(p); return 0; }") ((Function (spelled (int 0 3) 0) (name 4 8) [] (Some (Next (Declare (local (int 17 20) ((declared (name 22 23) (PointerTo ∷ []) (Some (Value (Cast (mark w.LeftParen 26 27) (spelled (int 27 30) 1) (Call (name 34 40) (Then (SizeOf (word w.SizeOf 41 47) (Prefix (mark w.Star 48 49) (Name (name 49 50)))) NoMore)))))) ∷ []))) (Next (Evaluate (Call (name 53 57) (Then (Name (name 58 59)) NoMore))) (Next (Evaluate (Call (name 62 66) (Then (Name (name 67 68)) NoMore))) (Next (Return (word w.Return 71 77) (Some (Number (number 78 79)))) End)))))) ∷ []) 0 0 ∷ []

pub refused : outcomes refused_rows ≡ refusals refused_rows
unfolding checked_rules.kept checked_rules.unless checked_rules.none_of environment_rules.found_in environment_rules.found environment_rules.specified environment_rules.with_stars environment_rules.spelled_type nodes_rules.first_place judgements_rules.shape judgements_rules.on_pointers judgements_rules.arithmetic judgements_rules.relation judgements_rules.operation judgements_rules.conversion judgements_rules.selection judgements_rules.cast_conversion judgements_rules.compound_operation operands_rules.loaded operands_rules.value operands_rules.condition operands_rules.brought operands_rules.fitted operators_rules.unit operators_rules.computed operators_rules.combined operators_rules.selected operators_rules.choice_of operators_rules.cast_by operators_rules.cast operators_rules.promoting operators_rules.negation operators_rules.address operators_rules.dereferenced assignments_rules.assigned assignments_rules.updated assignments_rules.compound assignments_rules.stepped subobjects_rules.base_of subobjects_rules.indexed subobjects_rules.dot subobjects_rules.arrow allocation_rules.objects allocation_rules.product allocation_rules.allocated allocation_rules.freed expressions_rules.full expressions_rules.operand expressions_rules.arguments expressions_rules.only_value expressions_rules.only_request expressions_rules.requested expressions_rules.measured constant_expressions_rules.is_constant constant_expressions_rules.value_of constant_expressions_rules.constant constant_expressions_rules.size_of_array constant_expressions_rules.part_of constant_expressions_rules.is_literal constant_expressions_rules.has_literal_indices constant_expressions_rules.initial_value declarations_rules.size declarations_rules.layers declarations_rules.layered declarations_rules.element_number declarations_rules.is_complete declarations_rules.is_within_limit initialisers_rules.parts initialisers_rules.zeros initialisers_rules.alone initialisers_rules.all_alone initialisers_rules.cells initialisers_rules.elements statements_rules.in_scope statements_rules.init_statements statements_rules.declare_one statements_rules.declare_all statements_rules.declare statements_rules.statement statements_rules.statements weights_rules.declared_weight weights_rules.item_weight weights_rules.initialiser_nodes weights_rules.elements_nodes weights_rules.continues weights_rules.all_continues weights_rules.statement_weight weights_rules.statements_weight file_scope_rules.file_scope file_scope_rules.variable file_scope_rules.variables structs_rules.member structs_rules.member_list structs_rules.all_members structs_rules.structure functions_rules.parameter functions_rules.parameters functions_rules.declarable_function functions_rules.replaced functions_rules.defined_as functions_rules.function programs_rules.item programs_rules.items programs_rules.whole programs_rules.elaborated programs_rules.elaboration number_rules.radix_of number_rules.value_of number_rules.number_value number_rules.constant_of number_rules.constant_with number_rules.first_holding number_rules.constant_types number_rules.number_of number_rules.suffix_of lexeme_rules.character_value type_rows.shape-the_row-CType-0 type_rows.hidden-the_row-CType-0 expression_rows.shape-the_row-Expr-0 expression_rows.hidden-the_row-Expr-0 expression_rows.shape-the_row-Expr-1 expression_rows.hidden-the_row-Expr-1 expression_rows.shape-the_row-Place_-2 expression_rows.hidden-the_row-Place_-2 statement_rows.shape-the_row-Stmt-0 statement_rows.hidden-the_row-Stmt-0 statement_rows.shape-the_row-Stmt-1 statement_rows.hidden-the_row-Stmt-1 hidden
refused = refl
