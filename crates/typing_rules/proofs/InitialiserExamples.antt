-- Examples of the rules on initialisers (C11 6.6, 6.7.9): each text breaks the rule with this number, at this column, or none.
use Rattle.std.proofs.Common.{◌≡◌, refl, List, [], ◌∷◌, codes, Some, None}
use Rattle.c_lexer.specs.declared.token.IntSuffix.TheVariants as suffix
use Rattle.c_words.specs.declared.word.Word.TheVariants as w
use Rattle.typing_rules.specs.Syntax.{Name, Number, Character, Paren, Call, Index, Member, Prefix, Cast, Binary, Choose, Assign, NoMore, PointerTo, ArrayUnsized, ArrayOf, Value, Braces, NoElement, Element, Evaluate, Declare, Return, End, Next, Struct, Variables, Function}
use Rattle.typing_rules.proofs.ExampleTexts.{name, number, suffixed, character, word, mark, int, char, long, void, struct, spelled, declarator, declared, local, members, Row, row, outcomes, refusals}
use Rattle.typing_rules.specs.Checked as checked_rules
use Rattle.typing_rules.specs.Environment as environment_rules
use Rattle.typing_rules.specs.Nodes as nodes_rules
use Rattle.typing_rules.specs.Judgements as judgements_rules
use Rattle.typing_rules.specs.Operands as operands_rules
use Rattle.typing_rules.specs.Operators as operators_rules
use Rattle.typing_rules.specs.Assignments as assignments_rules
use Rattle.typing_rules.specs.Subobjects as subobjects_rules
use Rattle.typing_rules.specs.Allocation as allocation_rules
use Rattle.typing_rules.specs.Expressions as expressions_rules
use Rattle.typing_rules.specs.ConstantExpressions as constant_expressions_rules
use Rattle.typing_rules.specs.Declarations as declarations_rules
use Rattle.typing_rules.specs.Initialisers as initialisers_rules
use Rattle.typing_rules.specs.Statements as statements_rules
use Rattle.typing_rules.specs.Weights as weights_rules
use Rattle.typing_rules.specs.FileScope as file_scope_rules
use Rattle.typing_rules.specs.Structs as structs_rules
use Rattle.typing_rules.specs.Functions as functions_rules
use Rattle.typing_rules.specs.Programs as programs_rules
use Rattle.c_lexer.specs.Numbers as number_rules
use Rattle.c_lexer.specs.Lexemes as lexeme_rules
use Rattle.step_meaning.specs.declared.value.CType.TheBlock as type_rows
use Rattle.step_meaning.specs.declared.expr.Expr.TheBlock as expression_rows
use Rattle.step_meaning.specs.declared.stmt.Stmt.TheBlock as statement_rows
use denote.Hole.Carrier.{hidden}

-- braces follow the shape of the variable
abbrev shapes_rows : List Row
shapes_rows =
    -- int a[3] = {1, 2}; int g[2][2] = {{1}, {2, 3}}; int h[] = {1, 2, 3}; int main(void) { return 0; }
    row (codes "int a[3] = {1, 2}; int g[2][2] = {{1}, {2, 3}}; int h[] = {1, 2, 3}; int main(void) { return 0; }") ((Variables (int 0 3) ((declared (name 4 5) ((ArrayOf (Number (number 6 7))) ∷ []) (Some (Braces (mark w.LeftBrace 11 12) (Element (Value (Number (number 12 13))) (Element (Value (Number (number 15 16))) NoElement))))) ∷ [])) ∷ (Variables (int 19 22) ((declared (name 23 24) ((ArrayOf (Number (number 25 26))) ∷ (ArrayOf (Number (number 28 29))) ∷ []) (Some (Braces (mark w.LeftBrace 33 34) (Element (Braces (mark w.LeftBrace 34 35) (Element (Value (Number (number 35 36))) NoElement)) (Element (Braces (mark w.LeftBrace 39 40) (Element (Value (Number (number 40 41))) (Element (Value (Number (number 43 44))) NoElement))) NoElement))))) ∷ [])) ∷ (Variables (int 48 51) ((declared (name 52 53) (ArrayUnsized ∷ []) (Some (Braces (mark w.LeftBrace 58 59) (Element (Value (Number (number 59 60))) (Element (Value (Number (number 62 63))) (Element (Value (Number (number 65 66))) NoElement)))))) ∷ [])) ∷ (Function (spelled (int 69 72) 0) (name 73 77) [] (Some (Next (Return (word w.Return 86 92) (Some (Number (number 93 94)))) End))) ∷ []) 0 0 ∷
    -- struct s { int m; int k[2]; }; struct s v = {1, {2, 3}}; struct s w[2] = {{1}, {0}}; int main(void) { return 0; }
    row (codes "struct s { int m; int k[2]; }; struct s v = {1, {2, 3}}; struct s w[2] = {{1}, {0}}; int main(void) { return 0; }") ((Struct (name 7 8) ((members (int 11 14) ((declarator (name 15 16) []) ∷ [])) ∷ (members (int 18 21) ((declarator (name 22 23) ((ArrayOf (Number (number 24 25))) ∷ [])) ∷ [])) ∷ []) []) ∷ (Variables (struct 38 39) ((declared (name 40 41) [] (Some (Braces (mark w.LeftBrace 44 45) (Element (Value (Number (number 45 46))) (Element (Braces (mark w.LeftBrace 48 49) (Element (Value (Number (number 49 50))) (Element (Value (Number (number 52 53))) NoElement))) NoElement))))) ∷ [])) ∷ (Variables (struct 64 65) ((declared (name 66 67) ((ArrayOf (Number (number 68 69))) ∷ []) (Some (Braces (mark w.LeftBrace 73 74) (Element (Braces (mark w.LeftBrace 74 75) (Element (Value (Number (number 75 76))) NoElement)) (Element (Braces (mark w.LeftBrace 79 80) (Element (Value (Number (number 80 81))) NoElement)) NoElement))))) ∷ [])) ∷ (Function (spelled (int 85 88) 0) (name 89 93) [] (Some (Next (Return (word w.Return 102 108) (Some (Number (number 109 110)))) End))) ∷ []) 0 0 ∷
    -- int x = {1}; int main(void) { return 0; }
    row (codes "int x = {1}; int main(void) { return 0; }") ((Variables (int 0 3) ((declared (name 4 5) [] (Some (Braces (mark w.LeftBrace 8 9) (Element (Value (Number (number 9 10))) NoElement)))) ∷ [])) ∷ (Function (spelled (int 13 16) 0) (name 17 21) [] (Some (Next (Return (word w.Return 30 36) (Some (Number (number 37 38)))) End))) ∷ []) 132 9 ∷
    -- int x = {y}; int main(void) { return 0; }
    row (codes "int x = {y}; int main(void) { return 0; }") ((Variables (int 0 3) ((declared (name 4 5) [] (Some (Braces (mark w.LeftBrace 8 9) (Element (Value (Name (name 9 10))) NoElement)))) ∷ [])) ∷ (Function (spelled (int 13 16) 0) (name 17 21) [] (Some (Next (Return (word w.Return 30 36) (Some (Number (number 37 38)))) End))) ∷ []) 121 10 ∷
    -- int a[2] = 1; int main(void) { return 0; }
    row (codes "int a[2] = 1; int main(void) { return 0; }") ((Variables (int 0 3) ((declared (name 4 5) ((ArrayOf (Number (number 6 7))) ∷ []) (Some (Value (Number (number 11 12))))) ∷ [])) ∷ (Function (spelled (int 14 17) 0) (name 18 22) [] (Some (Next (Return (word w.Return 31 37) (Some (Number (number 38 39)))) End))) ∷ []) 132 12 ∷
    -- int a[2] = {1, 2, 3}; int main(void) { return 0; }
    row (codes "int a[2] = {1, 2, 3}; int main(void) { return 0; }") ((Variables (int 0 3) ((declared (name 4 5) ((ArrayOf (Number (number 6 7))) ∷ []) (Some (Braces (mark w.LeftBrace 11 12) (Element (Value (Number (number 12 13))) (Element (Value (Number (number 15 16))) (Element (Value (Number (number 18 19))) NoElement)))))) ∷ [])) ∷ (Function (spelled (int 22 25) 0) (name 26 30) [] (Some (Next (Return (word w.Return 39 45) (Some (Number (number 46 47)))) End))) ∷ []) 132 19 ∷
    -- int a[2] = {1, 2, 3, y}; int main(void) { return 0; }
    row (codes "int a[2] = {1, 2, 3, y}; int main(void) { return 0; }") ((Variables (int 0 3) ((declared (name 4 5) ((ArrayOf (Number (number 6 7))) ∷ []) (Some (Braces (mark w.LeftBrace 11 12) (Element (Value (Number (number 12 13))) (Element (Value (Number (number 15 16))) (Element (Value (Number (number 18 19))) (Element (Value (Name (name 21 22))) NoElement))))))) ∷ [])) ∷ (Function (spelled (int 25 28) 0) (name 29 33) [] (Some (Next (Return (word w.Return 42 48) (Some (Number (number 49 50)))) End))) ∷ []) 132 19 ∷
    -- int a[2] = {1, 2, y}; int main(void) { return 0; }
    row (codes "int a[2] = {1, 2, y}; int main(void) { return 0; }") ((Variables (int 0 3) ((declared (name 4 5) ((ArrayOf (Number (number 6 7))) ∷ []) (Some (Braces (mark w.LeftBrace 11 12) (Element (Value (Number (number 12 13))) (Element (Value (Number (number 15 16))) (Element (Value (Name (name 18 19))) NoElement)))))) ∷ [])) ∷ (Function (spelled (int 22 25) 0) (name 26 30) [] (Some (Next (Return (word w.Return 39 45) (Some (Number (number 46 47)))) End))) ∷ []) 121 19 ∷
    -- int a[2] = {{1}, 2}; int main(void) { return 0; }
    row (codes "int a[2] = {{1}, 2}; int main(void) { return 0; }") ((Variables (int 0 3) ((declared (name 4 5) ((ArrayOf (Number (number 6 7))) ∷ []) (Some (Braces (mark w.LeftBrace 11 12) (Element (Braces (mark w.LeftBrace 12 13) (Element (Value (Number (number 13 14))) NoElement)) (Element (Value (Number (number 17 18))) NoElement))))) ∷ [])) ∷ (Function (spelled (int 21 24) 0) (name 25 29) [] (Some (Next (Return (word w.Return 38 44) (Some (Number (number 45 46)))) End))) ∷ []) 132 13 ∷
    -- int a[2][2] = {1, 2}; int main(void) { return 0; }
    row (codes "int a[2][2] = {1, 2}; int main(void) { return 0; }") ((Variables (int 0 3) ((declared (name 4 5) ((ArrayOf (Number (number 6 7))) ∷ (ArrayOf (Number (number 9 10))) ∷ []) (Some (Braces (mark w.LeftBrace 14 15) (Element (Value (Number (number 15 16))) (Element (Value (Number (number 18 19))) NoElement))))) ∷ [])) ∷ (Function (spelled (int 22 25) 0) (name 26 30) [] (Some (Next (Return (word w.Return 39 45) (Some (Number (number 46 47)))) End))) ∷ []) 132 16 ∷
    -- int a[2][2] = {0}; int c[2] = {0}; int d[2][2] = {{0}, {1, 2}}; int main(void) { return 0; }
    row (codes "int a[2][2] = {0}; int c[2] = {0}; int d[2][2] = {{0}, {1, 2}}; int main(void) { return 0; }") ((Variables (int 0 3) ((declared (name 4 5) ((ArrayOf (Number (number 6 7))) ∷ (ArrayOf (Number (number 9 10))) ∷ []) (Some (Braces (mark w.LeftBrace 14 15) (Element (Value (Number (number 15 16))) NoElement)))) ∷ [])) ∷ (Variables (int 19 22) ((declared (name 23 24) ((ArrayOf (Number (number 25 26))) ∷ []) (Some (Braces (mark w.LeftBrace 30 31) (Element (Value (Number (number 31 32))) NoElement)))) ∷ [])) ∷ (Variables (int 35 38) ((declared (name 39 40) ((ArrayOf (Number (number 41 42))) ∷ (ArrayOf (Number (number 44 45))) ∷ []) (Some (Braces (mark w.LeftBrace 49 50) (Element (Braces (mark w.LeftBrace 50 51) (Element (Value (Number (number 51 52))) NoElement)) (Element (Braces (mark w.LeftBrace 55 56) (Element (Value (Number (number 56 57))) (Element (Value (Number (number 59 60))) NoElement))) NoElement))))) ∷ [])) ∷ (Function (spelled (int 64 67) 0) (name 68 72) [] (Some (Next (Return (word w.Return 81 87) (Some (Number (number 88 89)))) End))) ∷ []) 0 0 ∷
    -- int a[2][2] = {(0)}; int main(void) { return 0; }
    row (codes "int a[2][2] = {(0)}; int main(void) { return 0; }") ((Variables (int 0 3) ((declared (name 4 5) ((ArrayOf (Number (number 6 7))) ∷ (ArrayOf (Number (number 9 10))) ∷ []) (Some (Braces (mark w.LeftBrace 14 15) (Element (Value (Paren (mark w.LeftParen 15 16) (Number (number 16 17)))) NoElement)))) ∷ [])) ∷ (Function (spelled (int 21 24) 0) (name 25 29) [] (Some (Next (Return (word w.Return 38 44) (Some (Number (number 45 46)))) End))) ∷ []) 132 16 ∷
    -- int a[2][2] = {0L}; int main(void) { return 0; }
    row (codes "int a[2][2] = {0L}; int main(void) { return 0; }") ((Variables (int 0 3) ((declared (name 4 5) ((ArrayOf (Number (number 6 7))) ∷ (ArrayOf (Number (number 9 10))) ∷ []) (Some (Braces (mark w.LeftBrace 14 15) (Element (Value (Number (suffixed suffix.L 15 17))) NoElement)))) ∷ [])) ∷ (Function (spelled (int 20 23) 0) (name 24 28) [] (Some (Next (Return (word w.Return 37 43) (Some (Number (number 44 45)))) End))) ∷ []) 132 16 ∷
    -- int a[2][2] = {0,}; int main(void) { return 0; }
    row (codes "int a[2][2] = {0,}; int main(void) { return 0; }") ((Variables (int 0 3) ((declared (name 4 5) ((ArrayOf (Number (number 6 7))) ∷ (ArrayOf (Number (number 9 10))) ∷ []) (Some (Braces (mark w.LeftBrace 14 15) (Element (Value (Number (number 15 16))) NoElement)))) ∷ [])) ∷ (Function (spelled (int 20 23) 0) (name 24 28) [] (Some (Next (Return (word w.Return 37 43) (Some (Number (number 44 45)))) End))) ∷ []) 0 0 ∷
    -- int a[] = {0}; int b[1] = {1}; int main(void) { return 0; }
    row (codes "int a[] = {0}; int b[1] = {1}; int main(void) { return 0; }") ((Variables (int 0 3) ((declared (name 4 5) (ArrayUnsized ∷ []) (Some (Braces (mark w.LeftBrace 10 11) (Element (Value (Number (number 11 12))) NoElement)))) ∷ [])) ∷ (Variables (int 15 18) ((declared (name 19 20) ((ArrayOf (Number (number 21 22))) ∷ []) (Some (Braces (mark w.LeftBrace 26 27) (Element (Value (Number (number 27 28))) NoElement)))) ∷ [])) ∷ (Function (spelled (int 31 34) 0) (name 35 39) [] (Some (Next (Return (word w.Return 48 54) (Some (Number (number 55 56)))) End))) ∷ []) 0 0 ∷
    -- struct s { int m; }; struct s v = 0; int main(void) { return 0; }
    row (codes "struct s { int m; }; struct s v = 0; int main(void) { return 0; }") ((Struct (name 7 8) ((members (int 11 14) ((declarator (name 15 16) []) ∷ [])) ∷ []) []) ∷ (Variables (struct 28 29) ((declared (name 30 31) [] (Some (Value (Number (number 34 35))))) ∷ [])) ∷ (Function (spelled (int 37 40) 0) (name 41 45) [] (Some (Next (Return (word w.Return 54 60) (Some (Number (number 61 62)))) End))) ∷ []) 132 35 ∷
    -- struct s { int *m; int k; }; struct s v = {0}; struct s w = {0, 1}; int main(void) { return 0; }
    row (codes "struct s { int *m; int k; }; struct s v = {0}; struct s w = {0, 1}; int main(void) { return 0; }") ((Struct (name 7 8) ((members (int 11 14) ((declarator (name 16 17) (PointerTo ∷ [])) ∷ [])) ∷ (members (int 19 22) ((declarator (name 23 24) []) ∷ [])) ∷ []) []) ∷ (Variables (struct 36 37) ((declared (name 38 39) [] (Some (Braces (mark w.LeftBrace 42 43) (Element (Value (Number (number 43 44))) NoElement)))) ∷ [])) ∷ (Variables (struct 54 55) ((declared (name 56 57) [] (Some (Braces (mark w.LeftBrace 60 61) (Element (Value (Number (number 61 62))) (Element (Value (Number (number 64 65))) NoElement))))) ∷ [])) ∷ (Function (spelled (int 68 71) 0) (name 72 76) [] (Some (Next (Return (word w.Return 85 91) (Some (Number (number 92 93)))) End))) ∷ []) 0 0 ∷
    -- int x; int main(void) { int a[2] = {1}; int c[] = {x, 2}; int e = c[0]; return 0; }
    row (codes "int x; int main(void) { int a[2] = {1}; int c[] = {x, 2}; int e = c[0]; return 0; }") ((Variables (int 0 3) ((declared (name 4 5) [] None) ∷ [])) ∷ (Function (spelled (int 7 10) 0) (name 11 15) [] (Some (Next (Declare (local (int 24 27) ((declared (name 28 29) ((ArrayOf (Number (number 30 31))) ∷ []) (Some (Braces (mark w.LeftBrace 35 36) (Element (Value (Number (number 36 37))) NoElement)))) ∷ []))) (Next (Declare (local (int 40 43) ((declared (name 44 45) (ArrayUnsized ∷ []) (Some (Braces (mark w.LeftBrace 50 51) (Element (Value (Name (name 51 52))) (Element (Value (Number (number 54 55))) NoElement))))) ∷ []))) (Next (Declare (local (int 58 61) ((declared (name 62 63) [] (Some (Value (Index (Name (name 66 67)) (mark w.LeftBracket 67 68) (Number (number 68 69)))))) ∷ []))) (Next (Return (word w.Return 72 78) (Some (Number (number 79 80)))) End)))))) ∷ []) 0 0 ∷
    -- int main(void) { int a[1] = {1, 2}; return 0; }
    row (codes "int main(void) { int a[1] = {1, 2}; return 0; }") ((Function (spelled (int 0 3) 0) (name 4 8) [] (Some (Next (Declare (local (int 17 20) ((declared (name 21 22) ((ArrayOf (Number (number 23 24))) ∷ []) (Some (Braces (mark w.LeftBrace 28 29) (Element (Value (Number (number 29 30))) (Element (Value (Number (number 32 33))) NoElement))))) ∷ []))) (Next (Return (word w.Return 36 42) (Some (Number (number 43 44)))) End)))) ∷ []) 132 33 ∷
    -- static int n; int b[3]; struct s { int m; int k[2]; }; struct s v; int main(void) { struct s u = {1, {getchar()}}; u.m = 1; return 0; }
    row (codes "static int n; int b[3]; struct s { int m; int k[2]; }; struct s v; int main(void) { struct s u = {1, {getchar()}}; u.m = 1; return 0; }") ((Variables (int 7 10) ((declared (name 11 12) [] None) ∷ [])) ∷ (Variables (int 14 17) ((declared (name 18 19) ((ArrayOf (Number (number 20 21))) ∷ []) None) ∷ [])) ∷ (Struct (name 31 32) ((members (int 35 38) ((declarator (name 39 40) []) ∷ [])) ∷ (members (int 42 45) ((declarator (name 46 47) ((ArrayOf (Number (number 48 49))) ∷ [])) ∷ [])) ∷ []) []) ∷ (Variables (struct 62 63) ((declared (name 64 65) [] None) ∷ [])) ∷ (Function (spelled (int 67 70) 0) (name 71 75) [] (Some (Next (Declare (local (struct 91 92) ((declared (name 93 94) [] (Some (Braces (mark w.LeftBrace 97 98) (Element (Value (Number (number 98 99))) (Element (Braces (mark w.LeftBrace 101 102) (Element (Value (Call (name 102 109) NoMore)) NoElement)) NoElement))))) ∷ []))) (Next (Evaluate (Assign (Member (Name (name 115 116)) (mark w.Dot 116 117) (name 117 118)) (mark w.Assign 119 120) (Number (number 121 122)))) (Next (Return (word w.Return 124 130) (Some (Number (number 131 132)))) End))))) ∷ []) 0 0 ∷
    -- int *p; int main(void) { int a[2] = {p}; return 0; }
    row (codes "int *p; int main(void) { int a[2] = {p}; return 0; }") ((Variables (int 0 3) ((declared (name 5 6) (PointerTo ∷ []) None) ∷ [])) ∷ (Function (spelled (int 8 11) 0) (name 12 16) [] (Some (Next (Declare (local (int 25 28) ((declared (name 29 30) ((ArrayOf (Number (number 31 32))) ∷ []) (Some (Braces (mark w.LeftBrace 36 37) (Element (Value (Name (name 37 38))) NoElement)))) ∷ []))) (Next (Return (word w.Return 41 47) (Some (Number (number 48 49)))) End)))) ∷ []) 123 38 ∷ []

pub shapes : outcomes shapes_rows ≡ refusals shapes_rows
unfolding checked_rules.kept checked_rules.unless checked_rules.none_of environment_rules.found_in environment_rules.found environment_rules.specified environment_rules.with_stars environment_rules.spelled_type nodes_rules.first_place judgements_rules.shape judgements_rules.on_pointers judgements_rules.arithmetic judgements_rules.relation judgements_rules.operation judgements_rules.conversion judgements_rules.selection judgements_rules.cast_conversion judgements_rules.compound_operation operands_rules.loaded operands_rules.value operands_rules.condition operands_rules.brought operands_rules.fitted operators_rules.unit operators_rules.computed operators_rules.combined operators_rules.selected operators_rules.choice_of operators_rules.cast_by operators_rules.cast operators_rules.promoting operators_rules.negation operators_rules.address operators_rules.dereferenced assignments_rules.assigned assignments_rules.updated assignments_rules.compound assignments_rules.stepped subobjects_rules.base_of subobjects_rules.indexed subobjects_rules.dot subobjects_rules.arrow allocation_rules.objects allocation_rules.product allocation_rules.allocated allocation_rules.freed expressions_rules.full expressions_rules.operand expressions_rules.arguments expressions_rules.only_value expressions_rules.only_request expressions_rules.requested expressions_rules.measured constant_expressions_rules.is_constant constant_expressions_rules.value_of constant_expressions_rules.constant constant_expressions_rules.size_of_array constant_expressions_rules.part_of constant_expressions_rules.is_literal constant_expressions_rules.has_literal_indices constant_expressions_rules.initial_value declarations_rules.size declarations_rules.layers declarations_rules.layered declarations_rules.element_number declarations_rules.is_complete declarations_rules.is_within_limit initialisers_rules.parts initialisers_rules.zeros initialisers_rules.alone initialisers_rules.all_alone initialisers_rules.cells initialisers_rules.elements statements_rules.in_scope statements_rules.init_statements statements_rules.declare_one statements_rules.declare_all statements_rules.declare statements_rules.statement statements_rules.statements weights_rules.declared_weight weights_rules.item_weight weights_rules.initialiser_nodes weights_rules.elements_nodes weights_rules.continues weights_rules.all_continues weights_rules.statement_weight weights_rules.statements_weight file_scope_rules.file_scope file_scope_rules.variable file_scope_rules.variables structs_rules.member structs_rules.member_list structs_rules.all_members structs_rules.structure functions_rules.parameter functions_rules.parameters functions_rules.declarable_function functions_rules.replaced functions_rules.defined_as functions_rules.function programs_rules.item programs_rules.items programs_rules.whole programs_rules.elaborated programs_rules.elaboration number_rules.radix_of number_rules.value_of number_rules.number_value number_rules.constant_of number_rules.constant_with number_rules.first_holding number_rules.constant_types number_rules.number_of number_rules.suffix_of lexeme_rules.character_value type_rows.shape-the_row-CType-0 type_rows.hidden-the_row-CType-0 expression_rows.shape-the_row-Expr-0 expression_rows.hidden-the_row-Expr-0 expression_rows.shape-the_row-Expr-1 expression_rows.hidden-the_row-Expr-1 expression_rows.shape-the_row-Place_-2 expression_rows.hidden-the_row-Place_-2 statement_rows.shape-the_row-Stmt-0 statement_rows.hidden-the_row-Stmt-0 statement_rows.shape-the_row-Stmt-1 statement_rows.hidden-the_row-Stmt-1 hidden
shapes = refl

-- what a variable of file scope starts with
abbrev constants_rows : List Row
constants_rows =
    -- int x = 1 + 2 * 3; int y = -1; char c = 300; int z = 1 ? 2 : 3; long l = 1 << 3; int e = !1 && 2 || 3 < 4; int main(void) { return 0; }
    row (codes "int x = 1 + 2 * 3; int y = -1; char c = 300; int z = 1 ? 2 : 3; long l = 1 << 3; int e = !1 && 2 || 3 < 4; int main(void) { return 0; }") ((Variables (int 0 3) ((declared (name 4 5) [] (Some (Value (Binary (Number (number 8 9)) (mark w.Plus 10 11) (Binary (Number (number 12 13)) (mark w.Star 14 15) (Number (number 16 17))))))) ∷ [])) ∷ (Variables (int 19 22) ((declared (name 23 24) [] (Some (Value (Prefix (mark w.Minus 27 28) (Number (number 28 29)))))) ∷ [])) ∷ (Variables (char 31 35) ((declared (name 36 37) [] (Some (Value (Number (number 40 43))))) ∷ [])) ∷ (Variables (int 45 48) ((declared (name 49 50) [] (Some (Value (Choose (Number (number 53 54)) (mark w.Question 55 56) (Number (number 57 58)) (Number (number 61 62)))))) ∷ [])) ∷ (Variables (long 64 68) ((declared (name 69 70) [] (Some (Value (Binary (Number (number 73 74)) (mark w.ShiftLeft 75 77) (Number (number 78 79)))))) ∷ [])) ∷ (Variables (int 81 84) ((declared (name 85 86) [] (Some (Value (Binary (Binary (Prefix (mark w.Exclamation 89 90) (Number (number 90 91))) (mark w.AndAnd 92 94) (Number (number 95 96))) (mark w.OrOr 97 99) (Binary (Number (number 100 101)) (mark w.Less 102 103) (Number (number 104 105))))))) ∷ [])) ∷ (Function (spelled (int 107 110) 0) (name 111 115) [] (Some (Next (Return (word w.Return 124 130) (Some (Number (number 131 132)))) End))) ∷ []) 0 0 ∷
    -- int x = 1 / 0; int main(void) { return 0; }
    row (codes "int x = 1 / 0; int main(void) { return 0; }") ((Variables (int 0 3) ((declared (name 4 5) [] (Some (Value (Binary (Number (number 8 9)) (mark w.Slash 10 11) (Number (number 12 13)))))) ∷ [])) ∷ (Function (spelled (int 15 18) 0) (name 19 23) [] (Some (Next (Return (word w.Return 32 38) (Some (Number (number 39 40)))) End))) ∷ []) 132 9 ∷
    -- int x = 2147483647 + 1; int main(void) { return 0; }
    row (codes "int x = 2147483647 + 1; int main(void) { return 0; }") ((Variables (int 0 3) ((declared (name 4 5) [] (Some (Value (Binary (Number (number 8 18)) (mark w.Plus 19 20) (Number (number 21 22)))))) ∷ [])) ∷ (Function (spelled (int 24 27) 0) (name 28 32) [] (Some (Next (Return (word w.Return 41 47) (Some (Number (number 48 49)))) End))) ∷ []) 132 9 ∷
    -- int x = 4294967295U + 1U; int main(void) { return 0; }
    row (codes "int x = 4294967295U + 1U; int main(void) { return 0; }") ((Variables (int 0 3) ((declared (name 4 5) [] (Some (Value (Binary (Number (suffixed suffix.U 8 19)) (mark w.Plus 20 21) (Number (suffixed suffix.U 22 24)))))) ∷ [])) ∷ (Function (spelled (int 26 29) 0) (name 30 34) [] (Some (Next (Return (word w.Return 43 49) (Some (Number (number 50 51)))) End))) ∷ []) 0 0 ∷
    -- int y; int x = y; int main(void) { return 0; }
    row (codes "int y; int x = y; int main(void) { return 0; }") ((Variables (int 0 3) ((declared (name 4 5) [] None) ∷ [])) ∷ (Variables (int 7 10) ((declared (name 11 12) [] (Some (Value (Name (name 15 16))))) ∷ [])) ∷ (Function (spelled (int 18 21) 0) (name 22 26) [] (Some (Next (Return (word w.Return 35 41) (Some (Number (number 42 43)))) End))) ∷ []) 132 16 ∷
    -- int f(void) { return 0; } int x = f(); int main(void) { return 0; }
    row (codes "int f(void) { return 0; } int x = f(); int main(void) { return 0; }") ((Function (spelled (int 0 3) 0) (name 4 5) [] (Some (Next (Return (word w.Return 14 20) (Some (Number (number 21 22)))) End))) ∷ (Variables (int 26 29) ((declared (name 30 31) [] (Some (Value (Call (name 34 35) NoMore)))) ∷ [])) ∷ (Function (spelled (int 39 42) 0) (name 43 47) [] (Some (Next (Return (word w.Return 56 62) (Some (Number (number 63 64)))) End))) ∷ []) 132 35 ∷
    -- int f(void); int x = f(); int main(void) { return 0; }
    row (codes "int f(void); int x = f(); int main(void) { return 0; }") ((Function (spelled (int 0 3) 0) (name 4 5) [] None) ∷ (Variables (int 13 16) ((declared (name 17 18) [] (Some (Value (Call (name 21 22) NoMore)))) ∷ [])) ∷ (Function (spelled (int 26 29) 0) (name 30 34) [] (Some (Next (Return (word w.Return 43 49) (Some (Number (number 50 51)))) End))) ∷ []) 126 22 ∷
    -- static int n; int b[3]; struct s { int m; int k[2]; }; struct s v; int *p = &n; int *q = b; int *t = &b[1]; int *u = &v.m; int *w = v.k; int main(void) { return 0; }
    row (codes "static int n; int b[3]; struct s { int m; int k[2]; }; struct s v; int *p = &n; int *q = b; int *t = &b[1]; int *u = &v.m; int *w = v.k; int main(void) { return 0; }") ((Variables (int 7 10) ((declared (name 11 12) [] None) ∷ [])) ∷ (Variables (int 14 17) ((declared (name 18 19) ((ArrayOf (Number (number 20 21))) ∷ []) None) ∷ [])) ∷ (Struct (name 31 32) ((members (int 35 38) ((declarator (name 39 40) []) ∷ [])) ∷ (members (int 42 45) ((declarator (name 46 47) ((ArrayOf (Number (number 48 49))) ∷ [])) ∷ [])) ∷ []) []) ∷ (Variables (struct 62 63) ((declared (name 64 65) [] None) ∷ [])) ∷ (Variables (int 67 70) ((declared (name 72 73) (PointerTo ∷ []) (Some (Value (Prefix (mark w.Ampersand 76 77) (Name (name 77 78)))))) ∷ [])) ∷ (Variables (int 80 83) ((declared (name 85 86) (PointerTo ∷ []) (Some (Value (Name (name 89 90))))) ∷ [])) ∷ (Variables (int 92 95) ((declared (name 97 98) (PointerTo ∷ []) (Some (Value (Prefix (mark w.Ampersand 101 102) (Index (Name (name 102 103)) (mark w.LeftBracket 103 104) (Number (number 104 105))))))) ∷ [])) ∷ (Variables (int 108 111) ((declared (name 113 114) (PointerTo ∷ []) (Some (Value (Prefix (mark w.Ampersand 117 118) (Member (Name (name 118 119)) (mark w.Dot 119 120) (name 120 121)))))) ∷ [])) ∷ (Variables (int 123 126) ((declared (name 128 129) (PointerTo ∷ []) (Some (Value (Member (Name (name 132 133)) (mark w.Dot 133 134) (name 134 135))))) ∷ [])) ∷ (Function (spelled (int 137 140) 0) (name 141 145) [] (Some (Next (Return (word w.Return 154 160) (Some (Number (number 161 162)))) End))) ∷ []) 132 133 ∷
    -- static int n; int b[3]; struct s { int m; int k[2]; }; struct s v; int *p = 0; int *q = (void *) 0; int *t = &v.k[1]; int *u = &(b)[2]; struct s *w = &v; int main(void) { return 0; }
    row (codes "static int n; int b[3]; struct s { int m; int k[2]; }; struct s v; int *p = 0; int *q = (void *) 0; int *t = &v.k[1]; int *u = &(b)[2]; struct s *w = &v; int main(void) { return 0; }") ((Variables (int 7 10) ((declared (name 11 12) [] None) ∷ [])) ∷ (Variables (int 14 17) ((declared (name 18 19) ((ArrayOf (Number (number 20 21))) ∷ []) None) ∷ [])) ∷ (Struct (name 31 32) ((members (int 35 38) ((declarator (name 39 40) []) ∷ [])) ∷ (members (int 42 45) ((declarator (name 46 47) ((ArrayOf (Number (number 48 49))) ∷ [])) ∷ [])) ∷ []) []) ∷ (Variables (struct 62 63) ((declared (name 64 65) [] None) ∷ [])) ∷ (Variables (int 67 70) ((declared (name 72 73) (PointerTo ∷ []) (Some (Value (Number (number 76 77))))) ∷ [])) ∷ (Variables (int 79 82) ((declared (name 84 85) (PointerTo ∷ []) (Some (Value (Cast (mark w.LeftParen 88 89) (spelled (void 89 93) 1) (Number (number 97 98)))))) ∷ [])) ∷ (Variables (int 100 103) ((declared (name 105 106) (PointerTo ∷ []) (Some (Value (Prefix (mark w.Ampersand 109 110) (Index (Member (Name (name 110 111)) (mark w.Dot 111 112) (name 112 113)) (mark w.LeftBracket 113 114) (Number (number 114 115))))))) ∷ [])) ∷ (Variables (int 118 121) ((declared (name 123 124) (PointerTo ∷ []) (Some (Value (Prefix (mark w.Ampersand 127 128) (Index (Paren (mark w.LeftParen 128 129) (Name (name 129 130))) (mark w.LeftBracket 131 132) (Number (number 132 133))))))) ∷ [])) ∷ (Variables (struct 143 144) ((declared (name 146 147) (PointerTo ∷ []) (Some (Value (Prefix (mark w.Ampersand 150 151) (Name (name 151 152)))))) ∷ [])) ∷ (Function (spelled (int 154 157) 0) (name 158 162) [] (Some (Next (Return (word w.Return 171 177) (Some (Number (number 178 179)))) End))) ∷ []) 0 0 ∷
    -- static int n; int b[3]; struct s { int m; int k[2]; }; struct s v; int *p = &b[3]; int main(void) { return 0; }
    row (codes "static int n; int b[3]; struct s { int m; int k[2]; }; struct s v; int *p = &b[3]; int main(void) { return 0; }") ((Variables (int 7 10) ((declared (name 11 12) [] None) ∷ [])) ∷ (Variables (int 14 17) ((declared (name 18 19) ((ArrayOf (Number (number 20 21))) ∷ []) None) ∷ [])) ∷ (Struct (name 31 32) ((members (int 35 38) ((declarator (name 39 40) []) ∷ [])) ∷ (members (int 42 45) ((declarator (name 46 47) ((ArrayOf (Number (number 48 49))) ∷ [])) ∷ [])) ∷ []) []) ∷ (Variables (struct 62 63) ((declared (name 64 65) [] None) ∷ [])) ∷ (Variables (int 67 70) ((declared (name 72 73) (PointerTo ∷ []) (Some (Value (Prefix (mark w.Ampersand 76 77) (Index (Name (name 77 78)) (mark w.LeftBracket 78 79) (Number (number 79 80))))))) ∷ [])) ∷ (Function (spelled (int 83 86) 0) (name 87 91) [] (Some (Next (Return (word w.Return 100 106) (Some (Number (number 107 108)))) End))) ∷ []) 132 77 ∷
    -- static int n; int b[3]; struct s { int m; int k[2]; }; struct s v; int *p = b + 1; int main(void) { return 0; }
    row (codes "static int n; int b[3]; struct s { int m; int k[2]; }; struct s v; int *p = b + 1; int main(void) { return 0; }") ((Variables (int 7 10) ((declared (name 11 12) [] None) ∷ [])) ∷ (Variables (int 14 17) ((declared (name 18 19) ((ArrayOf (Number (number 20 21))) ∷ []) None) ∷ [])) ∷ (Struct (name 31 32) ((members (int 35 38) ((declarator (name 39 40) []) ∷ [])) ∷ (members (int 42 45) ((declarator (name 46 47) ((ArrayOf (Number (number 48 49))) ∷ [])) ∷ [])) ∷ []) []) ∷ (Variables (struct 62 63) ((declared (name 64 65) [] None) ∷ [])) ∷ (Variables (int 67 70) ((declared (name 72 73) (PointerTo ∷ []) (Some (Value (Binary (Name (name 76 77)) (mark w.Plus 78 79) (Number (number 80 81)))))) ∷ [])) ∷ (Function (spelled (int 83 86) 0) (name 87 91) [] (Some (Next (Return (word w.Return 100 106) (Some (Number (number 107 108)))) End))) ∷ []) 132 77 ∷
    -- static int n; int b[3]; struct s { int m; int k[2]; }; struct s v; int *p = &b[n]; int main(void) { return 0; }
    row (codes "static int n; int b[3]; struct s { int m; int k[2]; }; struct s v; int *p = &b[n]; int main(void) { return 0; }") ((Variables (int 7 10) ((declared (name 11 12) [] None) ∷ [])) ∷ (Variables (int 14 17) ((declared (name 18 19) ((ArrayOf (Number (number 20 21))) ∷ []) None) ∷ [])) ∷ (Struct (name 31 32) ((members (int 35 38) ((declarator (name 39 40) []) ∷ [])) ∷ (members (int 42 45) ((declarator (name 46 47) ((ArrayOf (Number (number 48 49))) ∷ [])) ∷ [])) ∷ []) []) ∷ (Variables (struct 62 63) ((declared (name 64 65) [] None) ∷ [])) ∷ (Variables (int 67 70) ((declared (name 72 73) (PointerTo ∷ []) (Some (Value (Prefix (mark w.Ampersand 76 77) (Index (Name (name 77 78)) (mark w.LeftBracket 78 79) (Name (name 79 80))))))) ∷ [])) ∷ (Function (spelled (int 83 86) 0) (name 87 91) [] (Some (Next (Return (word w.Return 100 106) (Some (Number (number 107 108)))) End))) ∷ []) 132 77 ∷
    -- int b[3]; int *p = &b[(1)]; int main(void) { return 0; }
    row (codes "int b[3]; int *p = &b[(1)]; int main(void) { return 0; }") ((Variables (int 0 3) ((declared (name 4 5) ((ArrayOf (Number (number 6 7))) ∷ []) None) ∷ [])) ∷ (Variables (int 10 13) ((declared (name 15 16) (PointerTo ∷ []) (Some (Value (Prefix (mark w.Ampersand 19 20) (Index (Name (name 20 21)) (mark w.LeftBracket 21 22) (Paren (mark w.LeftParen 22 23) (Number (number 23 24)))))))) ∷ [])) ∷ (Function (spelled (int 28 31) 0) (name 32 36) [] (Some (Next (Return (word w.Return 45 51) (Some (Number (number 52 53)))) End))) ∷ []) 0 0 ∷
    -- int b[3]; int *p = &b[+1]; int main(void) { return 0; }
    row (codes "int b[3]; int *p = &b[+1]; int main(void) { return 0; }") ((Variables (int 0 3) ((declared (name 4 5) ((ArrayOf (Number (number 6 7))) ∷ []) None) ∷ [])) ∷ (Variables (int 10 13) ((declared (name 15 16) (PointerTo ∷ []) (Some (Value (Prefix (mark w.Ampersand 19 20) (Index (Name (name 20 21)) (mark w.LeftBracket 21 22) (Prefix (mark w.Plus 22 23) (Number (number 23 24)))))))) ∷ [])) ∷ (Function (spelled (int 27 30) 0) (name 31 35) [] (Some (Next (Return (word w.Return 44 50) (Some (Number (number 51 52)))) End))) ∷ []) 132 20 ∷
    -- int b[3]; int *p = &b[(int) 1]; int main(void) { return 0; }
    row (codes "int b[3]; int *p = &b[(int) 1]; int main(void) { return 0; }") ((Variables (int 0 3) ((declared (name 4 5) ((ArrayOf (Number (number 6 7))) ∷ []) None) ∷ [])) ∷ (Variables (int 10 13) ((declared (name 15 16) (PointerTo ∷ []) (Some (Value (Prefix (mark w.Ampersand 19 20) (Index (Name (name 20 21)) (mark w.LeftBracket 21 22) (Cast (mark w.LeftParen 22 23) (spelled (int 23 26) 0) (Number (number 28 29)))))))) ∷ [])) ∷ (Function (spelled (int 32 35) 0) (name 36 40) [] (Some (Next (Return (word w.Return 49 55) (Some (Number (number 56 57)))) End))) ∷ []) 132 20 ∷
    -- int b[3]; int *p = &(b[+1]); int main(void) { return 0; }
    row (codes "int b[3]; int *p = &(b[+1]); int main(void) { return 0; }") ((Variables (int 0 3) ((declared (name 4 5) ((ArrayOf (Number (number 6 7))) ∷ []) None) ∷ [])) ∷ (Variables (int 10 13) ((declared (name 15 16) (PointerTo ∷ []) (Some (Value (Prefix (mark w.Ampersand 19 20) (Paren (mark w.LeftParen 20 21) (Index (Name (name 21 22)) (mark w.LeftBracket 22 23) (Prefix (mark w.Plus 23 24) (Number (number 24 25))))))))) ∷ [])) ∷ (Function (spelled (int 29 32) 0) (name 33 37) [] (Some (Next (Return (word w.Return 46 52) (Some (Number (number 53 54)))) End))) ∷ []) 132 20 ∷
    -- static int n; int b[3]; struct s { int m; int k[2]; }; struct s v; int *p = &b[1 - 1]; int main(void) { return 0; }
    row (codes "static int n; int b[3]; struct s { int m; int k[2]; }; struct s v; int *p = &b[1 - 1]; int main(void) { return 0; }") ((Variables (int 7 10) ((declared (name 11 12) [] None) ∷ [])) ∷ (Variables (int 14 17) ((declared (name 18 19) ((ArrayOf (Number (number 20 21))) ∷ []) None) ∷ [])) ∷ (Struct (name 31 32) ((members (int 35 38) ((declarator (name 39 40) []) ∷ [])) ∷ (members (int 42 45) ((declarator (name 46 47) ((ArrayOf (Number (number 48 49))) ∷ [])) ∷ [])) ∷ []) []) ∷ (Variables (struct 62 63) ((declared (name 64 65) [] None) ∷ [])) ∷ (Variables (int 67 70) ((declared (name 72 73) (PointerTo ∷ []) (Some (Value (Prefix (mark w.Ampersand 76 77) (Index (Name (name 77 78)) (mark w.LeftBracket 78 79) (Binary (Number (number 79 80)) (mark w.Minus 81 82) (Number (number 83 84)))))))) ∷ [])) ∷ (Function (spelled (int 87 90) 0) (name 91 95) [] (Some (Next (Return (word w.Return 104 110) (Some (Number (number 111 112)))) End))) ∷ []) 132 77 ∷
    -- static int n; int b[3]; struct s { int m; int k[2]; }; struct s v; int *p = 1; int main(void) { return 0; }
    row (codes "static int n; int b[3]; struct s { int m; int k[2]; }; struct s v; int *p = 1; int main(void) { return 0; }") ((Variables (int 7 10) ((declared (name 11 12) [] None) ∷ [])) ∷ (Variables (int 14 17) ((declared (name 18 19) ((ArrayOf (Number (number 20 21))) ∷ []) None) ∷ [])) ∷ (Struct (name 31 32) ((members (int 35 38) ((declarator (name 39 40) []) ∷ [])) ∷ (members (int 42 45) ((declarator (name 46 47) ((ArrayOf (Number (number 48 49))) ∷ [])) ∷ [])) ∷ []) []) ∷ (Variables (struct 62 63) ((declared (name 64 65) [] None) ∷ [])) ∷ (Variables (int 67 70) ((declared (name 72 73) (PointerTo ∷ []) (Some (Value (Number (number 76 77))))) ∷ [])) ∷ (Function (spelled (int 79 82) 0) (name 83 87) [] (Some (Next (Return (word w.Return 96 102) (Some (Number (number 103 104)))) End))) ∷ []) 123 77 ∷
    -- static int n; int b[3]; struct s { int m; int k[2]; }; struct s v; char *p = &n; int main(void) { return 0; }
    row (codes "static int n; int b[3]; struct s { int m; int k[2]; }; struct s v; char *p = &n; int main(void) { return 0; }") ((Variables (int 7 10) ((declared (name 11 12) [] None) ∷ [])) ∷ (Variables (int 14 17) ((declared (name 18 19) ((ArrayOf (Number (number 20 21))) ∷ []) None) ∷ [])) ∷ (Struct (name 31 32) ((members (int 35 38) ((declarator (name 39 40) []) ∷ [])) ∷ (members (int 42 45) ((declarator (name 46 47) ((ArrayOf (Number (number 48 49))) ∷ [])) ∷ [])) ∷ []) []) ∷ (Variables (struct 62 63) ((declared (name 64 65) [] None) ∷ [])) ∷ (Variables (char 67 71) ((declared (name 73 74) (PointerTo ∷ []) (Some (Value (Prefix (mark w.Ampersand 77 78) (Name (name 78 79)))))) ∷ [])) ∷ (Function (spelled (int 81 84) 0) (name 85 89) [] (Some (Next (Return (word w.Return 98 104) (Some (Number (number 105 106)))) End))) ∷ []) 123 78 ∷
    -- static int n; int b[3]; struct s { int m; int k[2]; }; struct s v; int *p = &b['\0']; int main(void) { return 0; }
    row (codes "static int n; int b[3]; struct s { int m; int k[2]; }; struct s v; int *p = &b['\\0']; int main(void) { return 0; }") ((Variables (int 7 10) ((declared (name 11 12) [] None) ∷ [])) ∷ (Variables (int 14 17) ((declared (name 18 19) ((ArrayOf (Number (number 20 21))) ∷ []) None) ∷ [])) ∷ (Struct (name 31 32) ((members (int 35 38) ((declarator (name 39 40) []) ∷ [])) ∷ (members (int 42 45) ((declarator (name 46 47) ((ArrayOf (Number (number 48 49))) ∷ [])) ∷ [])) ∷ []) []) ∷ (Variables (struct 62 63) ((declared (name 64 65) [] None) ∷ [])) ∷ (Variables (int 67 70) ((declared (name 72 73) (PointerTo ∷ []) (Some (Value (Prefix (mark w.Ampersand 76 77) (Index (Name (name 77 78)) (mark w.LeftBracket 78 79) (Character (character 79 83))))))) ∷ [])) ∷ (Function (spelled (int 86 89) 0) (name 90 94) [] (Some (Next (Return (word w.Return 103 109) (Some (Number (number 110 111)))) End))) ∷ []) 0 0 ∷
    -- int *p; int *q = p; int main(void) { return 0; }
    row (codes "int *p; int *q = p; int main(void) { return 0; }") ((Variables (int 0 3) ((declared (name 5 6) (PointerTo ∷ []) None) ∷ [])) ∷ (Variables (int 8 11) ((declared (name 13 14) (PointerTo ∷ []) (Some (Value (Name (name 17 18))))) ∷ [])) ∷ (Function (spelled (int 20 23) 0) (name 24 28) [] (Some (Next (Return (word w.Return 37 43) (Some (Number (number 44 45)))) End))) ∷ []) 132 18 ∷
    -- int *p; int *q = &*p; int main(void) { return 0; }
    row (codes "int *p; int *q = &*p; int main(void) { return 0; }") ((Variables (int 0 3) ((declared (name 5 6) (PointerTo ∷ []) None) ∷ [])) ∷ (Variables (int 8 11) ((declared (name 13 14) (PointerTo ∷ []) (Some (Value (Prefix (mark w.Ampersand 17 18) (Prefix (mark w.Star 18 19) (Name (name 19 20))))))) ∷ [])) ∷ (Function (spelled (int 22 25) 0) (name 26 30) [] (Some (Next (Return (word w.Return 39 45) (Some (Number (number 46 47)))) End))) ∷ []) 132 18 ∷
    -- int g[2][2]; int *p = g[1]; int main(void) { return 0; }
    row (codes "int g[2][2]; int *p = g[1]; int main(void) { return 0; }") ((Variables (int 0 3) ((declared (name 4 5) ((ArrayOf (Number (number 6 7))) ∷ (ArrayOf (Number (number 9 10))) ∷ []) None) ∷ [])) ∷ (Variables (int 13 16) ((declared (name 18 19) (PointerTo ∷ []) (Some (Value (Index (Name (name 22 23)) (mark w.LeftBracket 23 24) (Number (number 24 25)))))) ∷ [])) ∷ (Function (spelled (int 28 31) 0) (name 32 36) [] (Some (Next (Return (word w.Return 45 51) (Some (Number (number 52 53)))) End))) ∷ []) 132 23 ∷
    -- int g[2][2]; int *p = &g[1][1]; int (*q)[2] = &g[1]; int (*r)[2] = g; int main(void) { return 0; }
    row (codes "int g[2][2]; int *p = &g[1][1]; int (*q)[2] = &g[1]; int (*r)[2] = g; int main(void) { return 0; }") ((Variables (int 0 3) ((declared (name 4 5) ((ArrayOf (Number (number 6 7))) ∷ (ArrayOf (Number (number 9 10))) ∷ []) None) ∷ [])) ∷ (Variables (int 13 16) ((declared (name 18 19) (PointerTo ∷ []) (Some (Value (Prefix (mark w.Ampersand 22 23) (Index (Index (Name (name 23 24)) (mark w.LeftBracket 24 25) (Number (number 25 26))) (mark w.LeftBracket 27 28) (Number (number 28 29))))))) ∷ [])) ∷ (Variables (int 32 35) ((declared (name 38 39) (PointerTo ∷ (ArrayOf (Number (number 41 42))) ∷ []) (Some (Value (Prefix (mark w.Ampersand 46 47) (Index (Name (name 47 48)) (mark w.LeftBracket 48 49) (Number (number 49 50))))))) ∷ [])) ∷ (Variables (int 53 56) ((declared (name 59 60) (PointerTo ∷ (ArrayOf (Number (number 62 63))) ∷ []) (Some (Value (Name (name 67 68))))) ∷ [])) ∷ (Function (spelled (int 70 73) 0) (name 74 78) [] (Some (Next (Return (word w.Return 87 93) (Some (Number (number 94 95)))) End))) ∷ []) 0 0 ∷
    -- struct s { struct s *next; int m; }; struct s v = {&v, 1}; int main(void) { return 0; }
    row (codes "struct s { struct s *next; int m; }; struct s v = {&v, 1}; int main(void) { return 0; }") ((Struct (name 7 8) ((members (struct 18 19) ((declarator (name 21 25) (PointerTo ∷ [])) ∷ [])) ∷ (members (int 27 30) ((declarator (name 31 32) []) ∷ [])) ∷ []) []) ∷ (Variables (struct 44 45) ((declared (name 46 47) [] (Some (Braces (mark w.LeftBrace 50 51) (Element (Value (Prefix (mark w.Ampersand 51 52) (Name (name 52 53)))) (Element (Value (Number (number 55 56))) NoElement))))) ∷ [])) ∷ (Function (spelled (int 59 62) 0) (name 63 67) [] (Some (Next (Return (word w.Return 76 82) (Some (Number (number 83 84)))) End))) ∷ []) 0 0 ∷ []

pub constants : outcomes constants_rows ≡ refusals constants_rows
unfolding checked_rules.kept checked_rules.unless checked_rules.none_of environment_rules.found_in environment_rules.found environment_rules.specified environment_rules.with_stars environment_rules.spelled_type nodes_rules.first_place judgements_rules.shape judgements_rules.on_pointers judgements_rules.arithmetic judgements_rules.relation judgements_rules.operation judgements_rules.conversion judgements_rules.selection judgements_rules.cast_conversion judgements_rules.compound_operation operands_rules.loaded operands_rules.value operands_rules.condition operands_rules.brought operands_rules.fitted operators_rules.unit operators_rules.computed operators_rules.combined operators_rules.selected operators_rules.choice_of operators_rules.cast_by operators_rules.cast operators_rules.promoting operators_rules.negation operators_rules.address operators_rules.dereferenced assignments_rules.assigned assignments_rules.updated assignments_rules.compound assignments_rules.stepped subobjects_rules.base_of subobjects_rules.indexed subobjects_rules.dot subobjects_rules.arrow allocation_rules.objects allocation_rules.product allocation_rules.allocated allocation_rules.freed expressions_rules.full expressions_rules.operand expressions_rules.arguments expressions_rules.only_value expressions_rules.only_request expressions_rules.requested expressions_rules.measured constant_expressions_rules.is_constant constant_expressions_rules.value_of constant_expressions_rules.constant constant_expressions_rules.size_of_array constant_expressions_rules.part_of constant_expressions_rules.is_literal constant_expressions_rules.has_literal_indices constant_expressions_rules.initial_value declarations_rules.size declarations_rules.layers declarations_rules.layered declarations_rules.element_number declarations_rules.is_complete declarations_rules.is_within_limit initialisers_rules.parts initialisers_rules.zeros initialisers_rules.alone initialisers_rules.all_alone initialisers_rules.cells initialisers_rules.elements statements_rules.in_scope statements_rules.init_statements statements_rules.declare_one statements_rules.declare_all statements_rules.declare statements_rules.statement statements_rules.statements weights_rules.declared_weight weights_rules.item_weight weights_rules.initialiser_nodes weights_rules.elements_nodes weights_rules.continues weights_rules.all_continues weights_rules.statement_weight weights_rules.statements_weight file_scope_rules.file_scope file_scope_rules.variable file_scope_rules.variables structs_rules.member structs_rules.member_list structs_rules.all_members structs_rules.structure functions_rules.parameter functions_rules.parameters functions_rules.declarable_function functions_rules.replaced functions_rules.defined_as functions_rules.function programs_rules.item programs_rules.items programs_rules.whole programs_rules.elaborated programs_rules.elaboration number_rules.radix_of number_rules.value_of number_rules.number_value number_rules.constant_of number_rules.constant_with number_rules.first_holding number_rules.constant_types number_rules.number_of number_rules.suffix_of lexeme_rules.character_value type_rows.shape-the_row-CType-0 type_rows.hidden-the_row-CType-0 expression_rows.shape-the_row-Expr-0 expression_rows.hidden-the_row-Expr-0 expression_rows.shape-the_row-Expr-1 expression_rows.hidden-the_row-Expr-1 expression_rows.shape-the_row-Place_-2 expression_rows.hidden-the_row-Place_-2 statement_rows.shape-the_row-Stmt-0 statement_rows.hidden-the_row-Stmt-0 statement_rows.shape-the_row-Stmt-1 statement_rows.hidden-the_row-Stmt-1 hidden
constants = refl
