-- Examples of the rules on names (C11 6.2.1, 6.5.1, 6.7): each text breaks the rule with this number, at this column, or none.
use Rattle.std.proofs.Common.{◌≡◌, refl, List, [], ◌∷◌, codes, Some, None}
use Rattle.c_words.specs.declared.word.Word.TheVariants as w
use Rattle.typing_rules.specs.Syntax.{Name, Number, Call, Member, Arrow, Increment, Prefix, Cast, Binary, Assign, NoMore, Then, PointerTo, ArrayOf, Value, FirstLocal, Nothing, Evaluate, Block, Declare, For, Return, End, Next, Struct, Variables, Function}
use Rattle.typing_rules.proofs.ExampleTexts.{name, number, word, mark, int, long, unsigned_long, void, struct, spelled, declarator, declared, parameter, local, members, Row, row, outcomes, refusals}
use Rattle.typing_rules.specs.Checked as checked_rules
use Rattle.typing_rules.specs.Environment as environment_rules
use Rattle.typing_rules.specs.Nodes as nodes_rules
use Rattle.typing_rules.specs.Judgements as judgements_rules
use Rattle.typing_rules.specs.Operands as operands_rules
use Rattle.typing_rules.specs.Operators as operators_rules
use Rattle.typing_rules.specs.Assignments as assignments_rules
use Rattle.typing_rules.specs.Subobjects as subobjects_rules
use Rattle.typing_rules.specs.Allocation as allocation_rules
use Rattle.typing_rules.specs.Expressions as expressions_rules
use Rattle.typing_rules.specs.ConstantExpressions as constant_expressions_rules
use Rattle.typing_rules.specs.Declarations as declarations_rules
use Rattle.typing_rules.specs.Initialisers as initialisers_rules
use Rattle.typing_rules.specs.Statements as statements_rules
use Rattle.typing_rules.specs.Weights as weights_rules
use Rattle.typing_rules.specs.FileScope as file_scope_rules
use Rattle.typing_rules.specs.Structs as structs_rules
use Rattle.typing_rules.specs.Functions as functions_rules
use Rattle.typing_rules.specs.Programs as programs_rules
use Rattle.c_lexer.specs.Numbers as number_rules
use Rattle.c_lexer.specs.Lexemes as lexeme_rules
use Rattle.step_meaning.specs.declared.value.CType.TheBlock as type_rows
use Rattle.step_meaning.specs.declared.expr.Expr.TheBlock as expression_rows
use Rattle.step_meaning.specs.declared.stmt.Stmt.TheBlock as statement_rows
use denote.Hole.Carrier.{hidden}

-- a name is declared before it is used, in a scope that is open
abbrev scopes_rows : List Row
scopes_rows =
    -- int main(void) { x = 1; int x; return 0; }
    row (codes "int main(void) { x = 1; int x; return 0; }") ((Function (spelled (int 0 3) 0) (name 4 8) [] (Some (Next (Evaluate (Assign (Name (name 17 18)) (mark w.Assign 19 20) (Number (number 21 22)))) (Next (Declare (local (int 24 27) ((declared (name 28 29) [] None) ∷ []))) (Next (Return (word w.Return 31 37) (Some (Number (number 38 39)))) End))))) ∷ []) 121 18 ∷
    -- int main(void) { { int x; } x = 1; return 0; }
    row (codes "int main(void) { { int x; } x = 1; return 0; }") ((Function (spelled (int 0 3) 0) (name 4 8) [] (Some (Next (Block (Next (Declare (local (int 19 22) ((declared (name 23 24) [] None) ∷ []))) End)) (Next (Evaluate (Assign (Name (name 28 29)) (mark w.Assign 30 31) (Number (number 32 33)))) (Next (Return (word w.Return 35 41) (Some (Number (number 42 43)))) End))))) ∷ []) 121 29 ∷
    -- int main(void) { for (int i = 0; i < 2; i++) ; i = 1; return 0; }
    row (codes "int main(void) { for (int i = 0; i < 2; i++) ; i = 1; return 0; }") ((Function (spelled (int 0 3) 0) (name 4 8) [] (Some (Next (For (FirstLocal (local (int 22 25) ((declared (name 26 27) [] (Some (Value (Number (number 30 31))))) ∷ []))) (Some (Binary (Name (name 33 34)) (mark w.Less 35 36) (Number (number 37 38)))) (Some (Increment (Name (name 40 41)) (mark w.Increment 41 43))) Nothing) (Next (Evaluate (Assign (Name (name 47 48)) (mark w.Assign 49 50) (Number (number 51 52)))) (Next (Return (word w.Return 54 60) (Some (Number (number 61 62)))) End))))) ∷ []) 121 48 ∷
    -- int main(void) { int x; { int x; x = 1; } x = 2; return 0; }
    row (codes "int main(void) { int x; { int x; x = 1; } x = 2; return 0; }") ((Function (spelled (int 0 3) 0) (name 4 8) [] (Some (Next (Declare (local (int 17 20) ((declared (name 21 22) [] None) ∷ []))) (Next (Block (Next (Declare (local (int 26 29) ((declared (name 30 31) [] None) ∷ []))) (Next (Evaluate (Assign (Name (name 33 34)) (mark w.Assign 35 36) (Number (number 37 38)))) End))) (Next (Evaluate (Assign (Name (name 42 43)) (mark w.Assign 44 45) (Number (number 46 47)))) (Next (Return (word w.Return 49 55) (Some (Number (number 56 57)))) End)))))) ∷ []) 0 0 ∷
    -- int main(void) { int x; for (int x = 0; x < 1; x++) { int x; x = 2; } return 0; }
    row (codes "int main(void) { int x; for (int x = 0; x < 1; x++) { int x; x = 2; } return 0; }") ((Function (spelled (int 0 3) 0) (name 4 8) [] (Some (Next (Declare (local (int 17 20) ((declared (name 21 22) [] None) ∷ []))) (Next (For (FirstLocal (local (int 29 32) ((declared (name 33 34) [] (Some (Value (Number (number 37 38))))) ∷ []))) (Some (Binary (Name (name 40 41)) (mark w.Less 42 43) (Number (number 44 45)))) (Some (Increment (Name (name 47 48)) (mark w.Increment 48 50))) (Block (Next (Declare (local (int 54 57) ((declared (name 58 59) [] None) ∷ []))) (Next (Evaluate (Assign (Name (name 61 62)) (mark w.Assign 63 64) (Number (number 65 66)))) End)))) (Next (Return (word w.Return 70 76) (Some (Number (number 77 78)))) End))))) ∷ []) 0 0 ∷
    -- int f(void) { return g(); } int g(void) { return 0; } int main(void) { return 0; }
    row (codes "int f(void) { return g(); } int g(void) { return 0; } int main(void) { return 0; }") ((Function (spelled (int 0 3) 0) (name 4 5) [] (Some (Next (Return (word w.Return 14 20) (Some (Call (name 21 22) NoMore))) End))) ∷ (Function (spelled (int 28 31) 0) (name 32 33) [] (Some (Next (Return (word w.Return 42 48) (Some (Number (number 49 50)))) End))) ∷ (Function (spelled (int 54 57) 0) (name 58 62) [] (Some (Next (Return (word w.Return 71 77) (Some (Number (number 78 79)))) End))) ∷ []) 121 22 ∷
    -- int main(void) { return g(y); return 0; }
    row (codes "int main(void) { return g(y); return 0; }") ((Function (spelled (int 0 3) 0) (name 4 8) [] (Some (Next (Return (word w.Return 17 23) (Some (Call (name 24 25) (Then (Name (name 26 27)) NoMore)))) (Next (Return (word w.Return 30 36) (Some (Number (number 37 38)))) End)))) ∷ []) 121 25 ∷
    -- int main(void) { struct t v; return 0; }
    row (codes "int main(void) { struct t v; return 0; }") ((Function (spelled (int 0 3) 0) (name 4 8) [] (Some (Next (Declare (local (struct 24 25) ((declared (name 26 27) [] None) ∷ []))) (Next (Return (word w.Return 29 35) (Some (Number (number 36 37)))) End)))) ∷ []) 121 25 ∷
    -- struct s { int a; }; int main(void) { struct s v; v.b = 1; return 0; }
    row (codes "struct s { int a; }; int main(void) { struct s v; v.b = 1; return 0; }") ((Struct (name 7 8) ((members (int 11 14) ((declarator (name 15 16) []) ∷ [])) ∷ []) []) ∷ (Function (spelled (int 21 24) 0) (name 25 29) [] (Some (Next (Declare (local (struct 45 46) ((declared (name 47 48) [] None) ∷ []))) (Next (Evaluate (Assign (Member (Name (name 50 51)) (mark w.Dot 51 52) (name 52 53)) (mark w.Assign 54 55) (Number (number 56 57)))) (Next (Return (word w.Return 59 65) (Some (Number (number 66 67)))) End))))) ∷ []) 121 53 ∷
    -- struct s { int a; }; int main(void) { struct s v; struct s *p; p = &v; p->b = 1; return 0; }
    row (codes "struct s { int a; }; int main(void) { struct s v; struct s *p; p = &v; p->b = 1; return 0; }") ((Struct (name 7 8) ((members (int 11 14) ((declarator (name 15 16) []) ∷ [])) ∷ []) []) ∷ (Function (spelled (int 21 24) 0) (name 25 29) [] (Some (Next (Declare (local (struct 45 46) ((declared (name 47 48) [] None) ∷ []))) (Next (Declare (local (struct 57 58) ((declared (name 60 61) (PointerTo ∷ []) None) ∷ []))) (Next (Evaluate (Assign (Name (name 63 64)) (mark w.Assign 65 66) (Prefix (mark w.Ampersand 67 68) (Name (name 68 69))))) (Next (Evaluate (Assign (Arrow (Name (name 71 72)) (mark w.Arrow 72 74) (name 74 75)) (mark w.Assign 76 77) (Number (number 78 79)))) (Next (Return (word w.Return 81 87) (Some (Number (number 88 89)))) End))))))) ∷ []) 121 75 ∷
    -- int x = x; int main(void) { return 0; }
    row (codes "int x = x; int main(void) { return 0; }") ((Variables (int 0 3) ((declared (name 4 5) [] (Some (Value (Name (name 8 9))))) ∷ [])) ∷ (Function (spelled (int 11 14) 0) (name 15 19) [] (Some (Next (Return (word w.Return 28 34) (Some (Number (number 35 36)))) End))) ∷ []) 132 9 ∷
    -- int main(void) { int x = x; return 0; }
    row (codes "int main(void) { int x = x; return 0; }") ((Function (spelled (int 0 3) 0) (name 4 8) [] (Some (Next (Declare (local (int 17 20) ((declared (name 21 22) [] (Some (Value (Name (name 25 26))))) ∷ []))) (Next (Return (word w.Return 28 34) (Some (Number (number 35 36)))) End)))) ∷ []) 0 0 ∷
    -- int *p = &y; int y; int main(void) { return 0; }
    row (codes "int *p = &y; int y; int main(void) { return 0; }") ((Variables (int 0 3) ((declared (name 5 6) (PointerTo ∷ []) (Some (Value (Prefix (mark w.Ampersand 9 10) (Name (name 10 11)))))) ∷ [])) ∷ (Variables (int 13 16) ((declared (name 17 18) [] None) ∷ [])) ∷ (Function (spelled (int 20 23) 0) (name 24 28) [] (Some (Next (Return (word w.Return 37 43) (Some (Number (number 44 45)))) End))) ∷ []) 121 11 ∷
    -- struct s { struct t *p; }; struct t { int a; }; int main(void) { return 0; }
    row (codes "struct s { struct t *p; }; struct t { int a; }; int main(void) { return 0; }") ((Struct (name 7 8) ((members (struct 18 19) ((declarator (name 21 22) (PointerTo ∷ [])) ∷ [])) ∷ []) []) ∷ (Struct (name 34 35) ((members (int 38 41) ((declarator (name 42 43) []) ∷ [])) ∷ []) []) ∷ (Function (spelled (int 48 51) 0) (name 52 56) [] (Some (Next (Return (word w.Return 65 71) (Some (Number (number 72 73)))) End))) ∷ []) 121 19 ∷ []

pub scopes : outcomes scopes_rows ≡ refusals scopes_rows
unfolding checked_rules.kept checked_rules.unless checked_rules.none_of environment_rules.found_in environment_rules.found environment_rules.specified environment_rules.with_stars environment_rules.spelled_type nodes_rules.first_place judgements_rules.shape judgements_rules.on_pointers judgements_rules.arithmetic judgements_rules.relation judgements_rules.operation judgements_rules.conversion judgements_rules.selection judgements_rules.cast_conversion judgements_rules.compound_operation operands_rules.loaded operands_rules.value operands_rules.condition operands_rules.brought operands_rules.fitted operators_rules.unit operators_rules.computed operators_rules.combined operators_rules.selected operators_rules.choice_of operators_rules.cast_by operators_rules.cast operators_rules.promoting operators_rules.negation operators_rules.address operators_rules.dereferenced assignments_rules.assigned assignments_rules.updated assignments_rules.compound assignments_rules.stepped subobjects_rules.base_of subobjects_rules.indexed subobjects_rules.dot subobjects_rules.arrow allocation_rules.objects allocation_rules.product allocation_rules.allocated allocation_rules.freed expressions_rules.full expressions_rules.operand expressions_rules.arguments expressions_rules.only_value expressions_rules.only_request expressions_rules.requested expressions_rules.measured constant_expressions_rules.is_constant constant_expressions_rules.value_of constant_expressions_rules.constant constant_expressions_rules.size_of_array constant_expressions_rules.part_of constant_expressions_rules.is_literal constant_expressions_rules.has_literal_indices constant_expressions_rules.initial_value declarations_rules.size declarations_rules.layers declarations_rules.layered declarations_rules.element_number declarations_rules.is_complete declarations_rules.is_within_limit initialisers_rules.parts initialisers_rules.zeros initialisers_rules.alone initialisers_rules.all_alone initialisers_rules.cells initialisers_rules.elements statements_rules.in_scope statements_rules.init_statements statements_rules.declare_one statements_rules.declare_all statements_rules.declare statements_rules.statement statements_rules.statements weights_rules.declared_weight weights_rules.item_weight weights_rules.initialiser_nodes weights_rules.elements_nodes weights_rules.continues weights_rules.all_continues weights_rules.statement_weight weights_rules.statements_weight file_scope_rules.file_scope file_scope_rules.variable file_scope_rules.variables structs_rules.member structs_rules.member_list structs_rules.all_members structs_rules.structure functions_rules.parameter functions_rules.parameters functions_rules.declarable_function functions_rules.replaced functions_rules.defined_as functions_rules.function programs_rules.item programs_rules.items programs_rules.whole programs_rules.elaborated programs_rules.elaboration number_rules.radix_of number_rules.value_of number_rules.number_value number_rules.constant_of number_rules.constant_with number_rules.first_holding number_rules.constant_types number_rules.number_of number_rules.suffix_of lexeme_rules.character_value type_rows.shape-the_row-CType-0 type_rows.hidden-the_row-CType-0 expression_rows.shape-the_row-Expr-0 expression_rows.hidden-the_row-Expr-0 expression_rows.shape-the_row-Expr-1 expression_rows.hidden-the_row-Expr-1 expression_rows.shape-the_row-Place_-2 expression_rows.hidden-the_row-Place_-2 statement_rows.shape-the_row-Stmt-0 statement_rows.hidden-the_row-Stmt-0 statement_rows.shape-the_row-Stmt-1 statement_rows.hidden-the_row-Stmt-1 hidden
scopes = refl

-- one scope declares a name once, but for several declarations of one function
abbrev twice_rows : List Row
twice_rows =
    -- int main(void) { int x; int x; return 0; }
    row (codes "int main(void) { int x; int x; return 0; }") ((Function (spelled (int 0 3) 0) (name 4 8) [] (Some (Next (Declare (local (int 17 20) ((declared (name 21 22) [] None) ∷ []))) (Next (Declare (local (int 24 27) ((declared (name 28 29) [] None) ∷ []))) (Next (Return (word w.Return 31 37) (Some (Number (number 38 39)))) End))))) ∷ []) 122 29 ∷
    -- int f(int a) { int a; return 0; } int main(void) { return 0; }
    row (codes "int f(int a) { int a; return 0; } int main(void) { return 0; }") ((Function (spelled (int 0 3) 0) (name 4 5) ((parameter (int 6 9) (Some (name 10 11)) (word w.Int 6 9) []) ∷ []) (Some (Next (Declare (local (int 15 18) ((declared (name 19 20) [] None) ∷ []))) (Next (Return (word w.Return 22 28) (Some (Number (number 29 30)))) End)))) ∷ (Function (spelled (int 34 37) 0) (name 38 42) [] (Some (Next (Return (word w.Return 51 57) (Some (Number (number 58 59)))) End))) ∷ []) 122 20 ∷
    -- int f(int a) { { int a; a = 1; } return a; } int main(void) { return 0; }
    row (codes "int f(int a) { { int a; a = 1; } return a; } int main(void) { return 0; }") ((Function (spelled (int 0 3) 0) (name 4 5) ((parameter (int 6 9) (Some (name 10 11)) (word w.Int 6 9) []) ∷ []) (Some (Next (Block (Next (Declare (local (int 17 20) ((declared (name 21 22) [] None) ∷ []))) (Next (Evaluate (Assign (Name (name 24 25)) (mark w.Assign 26 27) (Number (number 28 29)))) End))) (Next (Return (word w.Return 33 39) (Some (Name (name 40 41)))) End)))) ∷ (Function (spelled (int 45 48) 0) (name 49 53) [] (Some (Next (Return (word w.Return 62 68) (Some (Number (number 69 70)))) End))) ∷ []) 0 0 ∷
    -- int f(int a, int a) { return 0; } int main(void) { return 0; }
    row (codes "int f(int a, int a) { return 0; } int main(void) { return 0; }") ((Function (spelled (int 0 3) 0) (name 4 5) ((parameter (int 6 9) (Some (name 10 11)) (word w.Int 6 9) []) ∷ (parameter (int 13 16) (Some (name 17 18)) (word w.Int 13 16) []) ∷ []) (Some (Next (Return (word w.Return 22 28) (Some (Number (number 29 30)))) End))) ∷ (Function (spelled (int 34 37) 0) (name 38 42) [] (Some (Next (Return (word w.Return 51 57) (Some (Number (number 58 59)))) End))) ∷ []) 122 18 ∷
    -- int f; int f(void) { return 0; } int main(void) { return 0; }
    row (codes "int f; int f(void) { return 0; } int main(void) { return 0; }") ((Variables (int 0 3) ((declared (name 4 5) [] None) ∷ [])) ∷ (Function (spelled (int 7 10) 0) (name 11 12) [] (Some (Next (Return (word w.Return 21 27) (Some (Number (number 28 29)))) End))) ∷ (Function (spelled (int 33 36) 0) (name 37 41) [] (Some (Next (Return (word w.Return 50 56) (Some (Number (number 57 58)))) End))) ∷ []) 122 12 ∷
    -- int f(void) { return 0; } int f; int main(void) { return 0; }
    row (codes "int f(void) { return 0; } int f; int main(void) { return 0; }") ((Function (spelled (int 0 3) 0) (name 4 5) [] (Some (Next (Return (word w.Return 14 20) (Some (Number (number 21 22)))) End))) ∷ (Variables (int 26 29) ((declared (name 30 31) [] None) ∷ [])) ∷ (Function (spelled (int 33 36) 0) (name 37 41) [] (Some (Next (Return (word w.Return 50 56) (Some (Number (number 57 58)))) End))) ∷ []) 122 31 ∷
    -- struct s { int a; }; struct s { int b; }; int main(void) { return 0; }
    row (codes "struct s { int a; }; struct s { int b; }; int main(void) { return 0; }") ((Struct (name 7 8) ((members (int 11 14) ((declarator (name 15 16) []) ∷ [])) ∷ []) []) ∷ (Struct (name 28 29) ((members (int 32 35) ((declarator (name 36 37) []) ∷ [])) ∷ []) []) ∷ (Function (spelled (int 42 45) 0) (name 46 50) [] (Some (Next (Return (word w.Return 59 65) (Some (Number (number 66 67)))) End))) ∷ []) 122 29 ∷
    -- struct s { int a; int a; }; int main(void) { return 0; }
    row (codes "struct s { int a; int a; }; int main(void) { return 0; }") ((Struct (name 7 8) ((members (int 11 14) ((declarator (name 15 16) []) ∷ [])) ∷ (members (int 18 21) ((declarator (name 22 23) []) ∷ [])) ∷ []) []) ∷ (Function (spelled (int 28 31) 0) (name 32 36) [] (Some (Next (Return (word w.Return 45 51) (Some (Number (number 52 53)))) End))) ∷ []) 122 23 ∷
    -- struct s { int s; } s; int main(void) { return 0; }
    row (codes "struct s { int s; } s; int main(void) { return 0; }") ((Struct (name 7 8) ((members (int 11 14) ((declarator (name 15 16) []) ∷ [])) ∷ []) ((declared (name 20 21) [] None) ∷ [])) ∷ (Function (spelled (int 23 26) 0) (name 27 31) [] (Some (Next (Return (word w.Return 40 46) (Some (Number (number 47 48)))) End))) ∷ []) 0 0 ∷
    -- int f(void); int f(void); int f(void) { return 0; } int f(); int main(void) { return 0; }
    row (codes "int f(void); int f(void); int f(void) { return 0; } int f(); int main(void) { return 0; }") ((Function (spelled (int 0 3) 0) (name 4 5) [] None) ∷ (Function (spelled (int 13 16) 0) (name 17 18) [] None) ∷ (Function (spelled (int 26 29) 0) (name 30 31) [] (Some (Next (Return (word w.Return 40 46) (Some (Number (number 47 48)))) End))) ∷ (Function (spelled (int 52 55) 0) (name 56 57) [] None) ∷ (Function (spelled (int 61 64) 0) (name 65 69) [] (Some (Next (Return (word w.Return 78 84) (Some (Number (number 85 86)))) End))) ∷ []) 0 0 ∷
    -- int f(int); long f(int); int main(void) { return 0; }
    row (codes "int f(int); long f(int); int main(void) { return 0; }") ((Function (spelled (int 0 3) 0) (name 4 5) ((parameter (int 6 9) None (word w.Int 6 9) []) ∷ []) None) ∷ (Function (spelled (long 12 16) 0) (name 17 18) ((parameter (int 19 22) None (word w.Int 19 22) []) ∷ []) None) ∷ (Function (spelled (int 25 28) 0) (name 29 33) [] (Some (Next (Return (word w.Return 42 48) (Some (Number (number 49 50)))) End))) ∷ []) 122 18 ∷
    -- int f(int); int f(long); int main(void) { return 0; }
    row (codes "int f(int); int f(long); int main(void) { return 0; }") ((Function (spelled (int 0 3) 0) (name 4 5) ((parameter (int 6 9) None (word w.Int 6 9) []) ∷ []) None) ∷ (Function (spelled (int 12 15) 0) (name 16 17) ((parameter (long 18 22) None (word w.Long 18 22) []) ∷ []) None) ∷ (Function (spelled (int 25 28) 0) (name 29 33) [] (Some (Next (Return (word w.Return 42 48) (Some (Number (number 49 50)))) End))) ∷ []) 122 17 ∷
    -- int f(int); int f(int, int); int main(void) { return 0; }
    row (codes "int f(int); int f(int, int); int main(void) { return 0; }") ((Function (spelled (int 0 3) 0) (name 4 5) ((parameter (int 6 9) None (word w.Int 6 9) []) ∷ []) None) ∷ (Function (spelled (int 12 15) 0) (name 16 17) ((parameter (int 18 21) None (word w.Int 18 21) []) ∷ (parameter (int 23 26) None (word w.Int 23 26) []) ∷ []) None) ∷ (Function (spelled (int 29 32) 0) (name 33 37) [] (Some (Next (Return (word w.Return 46 52) (Some (Number (number 53 54)))) End))) ∷ []) 122 17 ∷
    -- int f(void) { return 0; } int f(void) { return 0; } int main(void) { return 0; }
    row (codes "int f(void) { return 0; } int f(void) { return 0; } int main(void) { return 0; }") ((Function (spelled (int 0 3) 0) (name 4 5) [] (Some (Next (Return (word w.Return 14 20) (Some (Number (number 21 22)))) End))) ∷ (Function (spelled (int 26 29) 0) (name 30 31) [] (Some (Next (Return (word w.Return 40 46) (Some (Number (number 47 48)))) End))) ∷ (Function (spelled (int 52 55) 0) (name 56 60) [] (Some (Next (Return (word w.Return 69 75) (Some (Number (number 76 77)))) End))) ∷ []) 122 31 ∷
    -- int f(int a[3]); int f(int *a) { return *a; } int main(void) { return 0; }
    row (codes "int f(int a[3]); int f(int *a) { return *a; } int main(void) { return 0; }") ((Function (spelled (int 0 3) 0) (name 4 5) ((parameter (int 6 9) (Some (name 10 11)) (word w.Int 6 9) ((ArrayOf (Number (number 12 13))) ∷ [])) ∷ []) None) ∷ (Function (spelled (int 17 20) 0) (name 21 22) ((parameter (int 23 26) (Some (name 28 29)) (word w.Int 23 26) (PointerTo ∷ [])) ∷ []) (Some (Next (Return (word w.Return 33 39) (Some (Prefix (mark w.Star 40 41) (Name (name 41 42))))) End))) ∷ (Function (spelled (int 46 49) 0) (name 50 54) [] (Some (Next (Return (word w.Return 63 69) (Some (Number (number 70 71)))) End))) ∷ []) 0 0 ∷
    -- int f(const int a); int f(int a) { return a; } int main(void) { return 0; }
    row (codes "int f(const int a); int f(int a) { return a; } int main(void) { return 0; }") ((Function (spelled (int 0 3) 0) (name 4 5) ((parameter (int 12 15) (Some (name 16 17)) (word w.Const 6 11) []) ∷ []) None) ∷ (Function (spelled (int 20 23) 0) (name 24 25) ((parameter (int 26 29) (Some (name 30 31)) (word w.Int 26 29) []) ∷ []) (Some (Next (Return (word w.Return 35 41) (Some (Name (name 42 43)))) End))) ∷ (Function (spelled (int 47 50) 0) (name 51 55) [] (Some (Next (Return (word w.Return 64 70) (Some (Number (number 71 72)))) End))) ∷ []) 0 0 ∷ []

pub twice : outcomes twice_rows ≡ refusals twice_rows
unfolding checked_rules.kept checked_rules.unless checked_rules.none_of environment_rules.found_in environment_rules.found environment_rules.specified environment_rules.with_stars environment_rules.spelled_type nodes_rules.first_place judgements_rules.shape judgements_rules.on_pointers judgements_rules.arithmetic judgements_rules.relation judgements_rules.operation judgements_rules.conversion judgements_rules.selection judgements_rules.cast_conversion judgements_rules.compound_operation operands_rules.loaded operands_rules.value operands_rules.condition operands_rules.brought operands_rules.fitted operators_rules.unit operators_rules.computed operators_rules.combined operators_rules.selected operators_rules.choice_of operators_rules.cast_by operators_rules.cast operators_rules.promoting operators_rules.negation operators_rules.address operators_rules.dereferenced assignments_rules.assigned assignments_rules.updated assignments_rules.compound assignments_rules.stepped subobjects_rules.base_of subobjects_rules.indexed subobjects_rules.dot subobjects_rules.arrow allocation_rules.objects allocation_rules.product allocation_rules.allocated allocation_rules.freed expressions_rules.full expressions_rules.operand expressions_rules.arguments expressions_rules.only_value expressions_rules.only_request expressions_rules.requested expressions_rules.measured constant_expressions_rules.is_constant constant_expressions_rules.value_of constant_expressions_rules.constant constant_expressions_rules.size_of_array constant_expressions_rules.part_of constant_expressions_rules.is_literal constant_expressions_rules.has_literal_indices constant_expressions_rules.initial_value declarations_rules.size declarations_rules.layers declarations_rules.layered declarations_rules.element_number declarations_rules.is_complete declarations_rules.is_within_limit initialisers_rules.parts initialisers_rules.zeros initialisers_rules.alone initialisers_rules.all_alone initialisers_rules.cells initialisers_rules.elements statements_rules.in_scope statements_rules.init_statements statements_rules.declare_one statements_rules.declare_all statements_rules.declare statements_rules.statement statements_rules.statements weights_rules.declared_weight weights_rules.item_weight weights_rules.initialiser_nodes weights_rules.elements_nodes weights_rules.continues weights_rules.all_continues weights_rules.statement_weight weights_rules.statements_weight file_scope_rules.file_scope file_scope_rules.variable file_scope_rules.variables structs_rules.member structs_rules.member_list structs_rules.all_members structs_rules.structure functions_rules.parameter functions_rules.parameters functions_rules.declarable_function functions_rules.replaced functions_rules.defined_as functions_rules.function programs_rules.item programs_rules.items programs_rules.whole programs_rules.elaborated programs_rules.elaboration number_rules.radix_of number_rules.value_of number_rules.number_value number_rules.constant_of number_rules.constant_with number_rules.first_holding number_rules.constant_types number_rules.number_of number_rules.suffix_of lexeme_rules.character_value type_rows.shape-the_row-CType-0 type_rows.hidden-the_row-CType-0 expression_rows.shape-the_row-Expr-0 expression_rows.hidden-the_row-Expr-0 expression_rows.shape-the_row-Expr-1 expression_rows.hidden-the_row-Expr-1 expression_rows.shape-the_row-Place_-2 expression_rows.hidden-the_row-Place_-2 statement_rows.shape-the_row-Stmt-0 statement_rows.hidden-the_row-Stmt-0 statement_rows.shape-the_row-Stmt-1 statement_rows.hidden-the_row-Stmt-1 hidden
twice = refl

-- a source declares no name that begins with two underscores
abbrev reserved_rows : List Row
reserved_rows =
    -- struct __s { int a; }; int main(void) { return 0; }
    row (codes "struct __s { int a; }; int main(void) { return 0; }") ((Struct (name 7 10) ((members (int 13 16) ((declarator (name 17 18) []) ∷ [])) ∷ []) []) ∷ (Function (spelled (int 23 26) 0) (name 27 31) [] (Some (Next (Return (word w.Return 40 46) (Some (Number (number 47 48)))) End))) ∷ []) 130 8 ∷
    -- struct s { int __a; }; int main(void) { return 0; }
    row (codes "struct s { int __a; }; int main(void) { return 0; }") ((Struct (name 7 8) ((members (int 11 14) ((declarator (name 15 18) []) ∷ [])) ∷ []) []) ∷ (Function (spelled (int 23 26) 0) (name 27 31) [] (Some (Next (Return (word w.Return 40 46) (Some (Number (number 47 48)))) End))) ∷ []) 130 16 ∷
    -- int __f(void); int main(void) { return 0; }
    row (codes "int __f(void); int main(void) { return 0; }") ((Function (spelled (int 0 3) 0) (name 4 7) [] None) ∷ (Function (spelled (int 15 18) 0) (name 19 23) [] (Some (Next (Return (word w.Return 32 38) (Some (Number (number 39 40)))) End))) ∷ []) 130 5 ∷
    -- int f(int __a); int main(void) { return 0; }
    row (codes "int f(int __a); int main(void) { return 0; }") ((Function (spelled (int 0 3) 0) (name 4 5) ((parameter (int 6 9) (Some (name 10 13)) (word w.Int 6 9) []) ∷ []) None) ∷ (Function (spelled (int 16 19) 0) (name 20 24) [] (Some (Next (Return (word w.Return 33 39) (Some (Number (number 40 41)))) End))) ∷ []) 130 11 ∷
    -- int main(void) { int __x; return 0; }
    row (codes "int main(void) { int __x; return 0; }") ((Function (spelled (int 0 3) 0) (name 4 8) [] (Some (Next (Declare (local (int 17 20) ((declared (name 21 24) [] None) ∷ []))) (Next (Return (word w.Return 26 32) (Some (Number (number 33 34)))) End)))) ∷ []) 130 22 ∷
    -- int main(void) { __x = 1; return 0; }
    row (codes "int main(void) { __x = 1; return 0; }") ((Function (spelled (int 0 3) 0) (name 4 8) [] (Some (Next (Evaluate (Assign (Name (name 17 20)) (mark w.Assign 21 22) (Number (number 23 24)))) (Next (Return (word w.Return 26 32) (Some (Number (number 33 34)))) End)))) ∷ []) 121 18 ∷
    -- int main(void) { int _x; _x = 1; return 0; }
    row (codes "int main(void) { int _x; _x = 1; return 0; }") ((Function (spelled (int 0 3) 0) (name 4 8) [] (Some (Next (Declare (local (int 17 20) ((declared (name 21 23) [] None) ∷ []))) (Next (Evaluate (Assign (Name (name 25 27)) (mark w.Assign 28 29) (Number (number 30 31)))) (Next (Return (word w.Return 33 39) (Some (Number (number 40 41)))) End))))) ∷ []) 0 0 ∷
    -- void __x; int main(void) { return 0; }
    row (codes "void __x; int main(void) { return 0; }") ((Variables (void 0 4) ((declared (name 5 8) [] None) ∷ [])) ∷ (Function (spelled (int 10 13) 0) (name 14 18) [] (Some (Next (Return (word w.Return 27 33) (Some (Number (number 34 35)))) End))) ∷ []) 123 6 ∷
    -- int __a[0]; int main(void) { return 0; }
    row (codes "int __a[0]; int main(void) { return 0; }") ((Variables (int 0 3) ((declared (name 4 7) ((ArrayOf (Number (number 8 9))) ∷ []) None) ∷ [])) ∷ (Function (spelled (int 12 15) 0) (name 16 20) [] (Some (Next (Return (word w.Return 29 35) (Some (Number (number 36 37)))) End))) ∷ []) 132 9 ∷
    -- int __x; int __x; int main(void) { return 0; }
    row (codes "int __x; int __x; int main(void) { return 0; }") ((Variables (int 0 3) ((declared (name 4 7) [] None) ∷ [])) ∷ (Variables (int 9 12) ((declared (name 13 16) [] None) ∷ [])) ∷ (Function (spelled (int 18 21) 0) (name 22 26) [] (Some (Next (Return (word w.Return 35 41) (Some (Number (number 42 43)))) End))) ∷ []) 130 5 ∷ []

pub reserved : outcomes reserved_rows ≡ refusals reserved_rows
unfolding checked_rules.kept checked_rules.unless checked_rules.none_of environment_rules.found_in environment_rules.found environment_rules.specified environment_rules.with_stars environment_rules.spelled_type nodes_rules.first_place judgements_rules.shape judgements_rules.on_pointers judgements_rules.arithmetic judgements_rules.relation judgements_rules.operation judgements_rules.conversion judgements_rules.selection judgements_rules.cast_conversion judgements_rules.compound_operation operands_rules.loaded operands_rules.value operands_rules.condition operands_rules.brought operands_rules.fitted operators_rules.unit operators_rules.computed operators_rules.combined operators_rules.selected operators_rules.choice_of operators_rules.cast_by operators_rules.cast operators_rules.promoting operators_rules.negation operators_rules.address operators_rules.dereferenced assignments_rules.assigned assignments_rules.updated assignments_rules.compound assignments_rules.stepped subobjects_rules.base_of subobjects_rules.indexed subobjects_rules.dot subobjects_rules.arrow allocation_rules.objects allocation_rules.product allocation_rules.allocated allocation_rules.freed expressions_rules.full expressions_rules.operand expressions_rules.arguments expressions_rules.only_value expressions_rules.only_request expressions_rules.requested expressions_rules.measured constant_expressions_rules.is_constant constant_expressions_rules.value_of constant_expressions_rules.constant constant_expressions_rules.size_of_array constant_expressions_rules.part_of constant_expressions_rules.is_literal constant_expressions_rules.has_literal_indices constant_expressions_rules.initial_value declarations_rules.size declarations_rules.layers declarations_rules.layered declarations_rules.element_number declarations_rules.is_complete declarations_rules.is_within_limit initialisers_rules.parts initialisers_rules.zeros initialisers_rules.alone initialisers_rules.all_alone initialisers_rules.cells initialisers_rules.elements statements_rules.in_scope statements_rules.init_statements statements_rules.declare_one statements_rules.declare_all statements_rules.declare statements_rules.statement statements_rules.statements weights_rules.declared_weight weights_rules.item_weight weights_rules.initialiser_nodes weights_rules.elements_nodes weights_rules.continues weights_rules.all_continues weights_rules.statement_weight weights_rules.statements_weight file_scope_rules.file_scope file_scope_rules.variable file_scope_rules.variables structs_rules.member structs_rules.member_list structs_rules.all_members structs_rules.structure functions_rules.parameter functions_rules.parameters functions_rules.declarable_function functions_rules.replaced functions_rules.defined_as functions_rules.function programs_rules.item programs_rules.items programs_rules.whole programs_rules.elaborated programs_rules.elaboration number_rules.radix_of number_rules.value_of number_rules.number_value number_rules.constant_of number_rules.constant_with number_rules.first_holding number_rules.constant_types number_rules.number_of number_rules.suffix_of lexeme_rules.character_value type_rows.shape-the_row-CType-0 type_rows.hidden-the_row-CType-0 expression_rows.shape-the_row-Expr-0 expression_rows.hidden-the_row-Expr-0 expression_rows.shape-the_row-Expr-1 expression_rows.hidden-the_row-Expr-1 expression_rows.shape-the_row-Place_-2 expression_rows.hidden-the_row-Place_-2 statement_rows.shape-the_row-Stmt-0 statement_rows.hidden-the_row-Stmt-0 statement_rows.shape-the_row-Stmt-1 statement_rows.hidden-the_row-Stmt-1 hidden
reserved = refl

-- the functions that are known without a declaration (C11 7.21.7.6, 7.21.7.8, 7.22.3.4, 7.22.3.3)
abbrev library_rows : List Row
library_rows =
    -- int getchar(void); int putchar(int c); void *malloc(unsigned long n); void free(void *p); int main(void) { return 0; }
    row (codes "int getchar(void); int putchar(int c); void *malloc(unsigned long n); void free(void *p); int main(void) { return 0; }") ((Function (spelled (int 0 3) 0) (name 4 11) [] None) ∷ (Function (spelled (int 19 22) 0) (name 23 30) ((parameter (int 31 34) (Some (name 35 36)) (word w.Int 31 34) []) ∷ []) None) ∷ (Function (spelled (void 39 43) 1) (name 45 51) ((parameter (unsigned_long 52 60) (Some (name 66 67)) (word w.Unsigned 52 60) []) ∷ []) None) ∷ (Function (spelled (void 70 74) 0) (name 75 79) ((parameter (void 80 84) (Some (name 86 87)) (word w.Void 80 84) (PointerTo ∷ [])) ∷ []) None) ∷ (Function (spelled (int 90 93) 0) (name 94 98) [] (Some (Next (Return (word w.Return 107 113) (Some (Number (number 114 115)))) End))) ∷ []) 0 0 ∷
    -- int getchar(int c); int main(void) { return 0; }
    row (codes "int getchar(int c); int main(void) { return 0; }") ((Function (spelled (int 0 3) 0) (name 4 11) ((parameter (int 12 15) (Some (name 16 17)) (word w.Int 12 15) []) ∷ []) None) ∷ (Function (spelled (int 20 23) 0) (name 24 28) [] (Some (Next (Return (word w.Return 37 43) (Some (Number (number 44 45)))) End))) ∷ []) 122 5 ∷
    -- int getchar(void) { return 0; } int main(void) { return 0; }
    row (codes "int getchar(void) { return 0; } int main(void) { return 0; }") ((Function (spelled (int 0 3) 0) (name 4 11) [] (Some (Next (Return (word w.Return 20 26) (Some (Number (number 27 28)))) End))) ∷ (Function (spelled (int 32 35) 0) (name 36 40) [] (Some (Next (Return (word w.Return 49 55) (Some (Number (number 56 57)))) End))) ∷ []) 122 5 ∷
    -- void *malloc(int n); int main(void) { return 0; }
    row (codes "void *malloc(int n); int main(void) { return 0; }") ((Function (spelled (void 0 4) 1) (name 6 12) ((parameter (int 13 16) (Some (name 17 18)) (word w.Int 13 16) []) ∷ []) None) ∷ (Function (spelled (int 21 24) 0) (name 25 29) [] (Some (Next (Return (word w.Return 38 44) (Some (Number (number 45 46)))) End))) ∷ []) 122 7 ∷
    -- void *malloc(unsigned long n) { return (void *) 0; } int main(void) { return 0; }
    row (codes "void *malloc(unsigned long n) { return (void *) 0; } int main(void) { return 0; }") ((Function (spelled (void 0 4) 1) (name 6 12) ((parameter (unsigned_long 13 21) (Some (name 27 28)) (word w.Unsigned 13 21) []) ∷ []) (Some (Next (Return (word w.Return 32 38) (Some (Cast (mark w.LeftParen 39 40) (spelled (void 40 44) 1) (Number (number 48 49))))) End))) ∷ (Function (spelled (int 53 56) 0) (name 57 61) [] (Some (Next (Return (word w.Return 70 76) (Some (Number (number 77 78)))) End))) ∷ []) 122 7 ∷
    -- void free(void *p) { } int main(void) { return 0; }
    row (codes "void free(void *p) { } int main(void) { return 0; }") ((Function (spelled (void 0 4) 0) (name 5 9) ((parameter (void 10 14) (Some (name 16 17)) (word w.Void 10 14) (PointerTo ∷ [])) ∷ []) (Some End)) ∷ (Function (spelled (int 23 26) 0) (name 27 31) [] (Some (Next (Return (word w.Return 40 46) (Some (Number (number 47 48)))) End))) ∷ []) 123 17 ∷
    -- void free(void); int main(void) { return 0; }
    row (codes "void free(void); int main(void) { return 0; }") ((Function (spelled (void 0 4) 0) (name 5 9) [] None) ∷ (Function (spelled (int 17 20) 0) (name 21 25) [] (Some (Next (Return (word w.Return 34 40) (Some (Number (number 41 42)))) End))) ∷ []) 122 6 ∷
    -- void *free(void *p); int main(void) { return 0; }
    row (codes "void *free(void *p); int main(void) { return 0; }") ((Function (spelled (void 0 4) 1) (name 6 10) ((parameter (void 11 15) (Some (name 17 18)) (word w.Void 11 15) (PointerTo ∷ [])) ∷ []) None) ∷ (Function (spelled (int 21 24) 0) (name 25 29) [] (Some (Next (Return (word w.Return 38 44) (Some (Number (number 45 46)))) End))) ∷ []) 122 7 ∷
    -- void *f(int a); int main(void) { return 0; }
    row (codes "void *f(int a); int main(void) { return 0; }") ((Function (spelled (void 0 4) 1) (name 6 7) ((parameter (int 8 11) (Some (name 12 13)) (word w.Int 8 11) []) ∷ []) None) ∷ (Function (spelled (int 16 19) 0) (name 20 24) [] (Some (Next (Return (word w.Return 33 39) (Some (Number (number 40 41)))) End))) ∷ []) 123 7 ∷
    -- void f(void *p); int main(void) { return 0; }
    row (codes "void f(void *p); int main(void) { return 0; }") ((Function (spelled (void 0 4) 0) (name 5 6) ((parameter (void 7 11) (Some (name 13 14)) (word w.Void 7 11) (PointerTo ∷ [])) ∷ []) None) ∷ (Function (spelled (int 17 20) 0) (name 21 25) [] (Some (Next (Return (word w.Return 34 40) (Some (Number (number 41 42)))) End))) ∷ []) 123 14 ∷
    -- void free(void **p); int main(void) { return 0; }
    row (codes "void free(void **p); int main(void) { return 0; }") ((Function (spelled (void 0 4) 0) (name 5 9) ((parameter (void 10 14) (Some (name 17 18)) (word w.Void 10 14) (PointerTo ∷ PointerTo ∷ [])) ∷ []) None) ∷ (Function (spelled (int 21 24) 0) (name 25 29) [] (Some (Next (Return (word w.Return 38 44) (Some (Number (number 45 46)))) End))) ∷ []) 123 18 ∷
    -- void free(void *); int main(void) { return 0; }
    row (codes "void free(void *); int main(void) { return 0; }") ((Function (spelled (void 0 4) 0) (name 5 9) ((parameter (void 10 14) None (word w.Void 10 14) (PointerTo ∷ [])) ∷ []) None) ∷ (Function (spelled (int 19 22) 0) (name 23 27) [] (Some (Next (Return (word w.Return 36 42) (Some (Number (number 43 44)))) End))) ∷ []) 0 0 ∷
    -- void free(void p[2]); int main(void) { return 0; }
    row (codes "void free(void p[2]); int main(void) { return 0; }") ((Function (spelled (void 0 4) 0) (name 5 9) ((parameter (void 10 14) (Some (name 15 16)) (word w.Void 10 14) ((ArrayOf (Number (number 17 18))) ∷ [])) ∷ []) None) ∷ (Function (spelled (int 22 25) 0) (name 26 30) [] (Some (Next (Return (word w.Return 39 45) (Some (Number (number 46 47)))) End))) ∷ []) 123 16 ∷
    -- void free(const void *p); int main(void) { return 0; }
    row (codes "void free(const void *p); int main(void) { return 0; }") ((Function (spelled (void 0 4) 0) (name 5 9) ((parameter (void 16 20) (Some (name 22 23)) (word w.Const 10 15) (PointerTo ∷ [])) ∷ []) None) ∷ (Function (spelled (int 26 29) 0) (name 30 34) [] (Some (Next (Return (word w.Return 43 49) (Some (Number (number 50 51)))) End))) ∷ []) 0 0 ∷
    -- int malloc; int main(void) { return 0; }
    row (codes "int malloc; int main(void) { return 0; }") ((Variables (int 0 3) ((declared (name 4 10) [] None) ∷ [])) ∷ (Function (spelled (int 12 15) 0) (name 16 20) [] (Some (Next (Return (word w.Return 29 35) (Some (Number (number 36 37)))) End))) ∷ []) 122 5 ∷
    -- int main(void) { int free; free = getchar(); return 0; }
    row (codes "int main(void) { int free; free = getchar(); return 0; }") ((Function (spelled (int 0 3) 0) (name 4 8) [] (Some (Next (Declare (local (int 17 20) ((declared (name 21 25) [] None) ∷ []))) (Next (Evaluate (Assign (Name (name 27 31)) (mark w.Assign 32 33) (Call (name 34 41) NoMore))) (Next (Return (word w.Return 45 51) (Some (Number (number 52 53)))) End))))) ∷ []) 0 0 ∷
    -- int main(void) { putchar(getchar()); return 0; }
    row (codes "int main(void) { putchar(getchar()); return 0; }") ((Function (spelled (int 0 3) 0) (name 4 8) [] (Some (Next (Evaluate (Call (name 17 24) (Then (Call (name 25 32) NoMore) NoMore))) (Next (Return (word w.Return 37 43) (Some (Number (number 44 45)))) End)))) ∷ []) 0 0 ∷
    -- int main(void) { getchar(1); return 0; }
    row (codes "int main(void) { getchar(1); return 0; }") ((Function (spelled (int 0 3) 0) (name 4 8) [] (Some (Next (Evaluate (Call (name 17 24) (Then (Number (number 25 26)) NoMore))) (Next (Return (word w.Return 29 35) (Some (Number (number 36 37)))) End)))) ∷ []) 125 18 ∷ []

pub library : outcomes library_rows ≡ refusals library_rows
unfolding checked_rules.kept checked_rules.unless checked_rules.none_of environment_rules.found_in environment_rules.found environment_rules.specified environment_rules.with_stars environment_rules.spelled_type nodes_rules.first_place judgements_rules.shape judgements_rules.on_pointers judgements_rules.arithmetic judgements_rules.relation judgements_rules.operation judgements_rules.conversion judgements_rules.selection judgements_rules.cast_conversion judgements_rules.compound_operation operands_rules.loaded operands_rules.value operands_rules.condition operands_rules.brought operands_rules.fitted operators_rules.unit operators_rules.computed operators_rules.combined operators_rules.selected operators_rules.choice_of operators_rules.cast_by operators_rules.cast operators_rules.promoting operators_rules.negation operators_rules.address operators_rules.dereferenced assignments_rules.assigned assignments_rules.updated assignments_rules.compound assignments_rules.stepped subobjects_rules.base_of subobjects_rules.indexed subobjects_rules.dot subobjects_rules.arrow allocation_rules.objects allocation_rules.product allocation_rules.allocated allocation_rules.freed expressions_rules.full expressions_rules.operand expressions_rules.arguments expressions_rules.only_value expressions_rules.only_request expressions_rules.requested expressions_rules.measured constant_expressions_rules.is_constant constant_expressions_rules.value_of constant_expressions_rules.constant constant_expressions_rules.size_of_array constant_expressions_rules.part_of constant_expressions_rules.is_literal constant_expressions_rules.has_literal_indices constant_expressions_rules.initial_value declarations_rules.size declarations_rules.layers declarations_rules.layered declarations_rules.element_number declarations_rules.is_complete declarations_rules.is_within_limit initialisers_rules.parts initialisers_rules.zeros initialisers_rules.alone initialisers_rules.all_alone initialisers_rules.cells initialisers_rules.elements statements_rules.in_scope statements_rules.init_statements statements_rules.declare_one statements_rules.declare_all statements_rules.declare statements_rules.statement statements_rules.statements weights_rules.declared_weight weights_rules.item_weight weights_rules.initialiser_nodes weights_rules.elements_nodes weights_rules.continues weights_rules.all_continues weights_rules.statement_weight weights_rules.statements_weight file_scope_rules.file_scope file_scope_rules.variable file_scope_rules.variables structs_rules.member structs_rules.member_list structs_rules.all_members structs_rules.structure functions_rules.parameter functions_rules.parameters functions_rules.declarable_function functions_rules.replaced functions_rules.defined_as functions_rules.function programs_rules.item programs_rules.items programs_rules.whole programs_rules.elaborated programs_rules.elaboration number_rules.radix_of number_rules.value_of number_rules.number_value number_rules.constant_of number_rules.constant_with number_rules.first_holding number_rules.constant_types number_rules.number_of number_rules.suffix_of lexeme_rules.character_value type_rows.shape-the_row-CType-0 type_rows.hidden-the_row-CType-0 expression_rows.shape-the_row-Expr-0 expression_rows.hidden-the_row-Expr-0 expression_rows.shape-the_row-Expr-1 expression_rows.hidden-the_row-Expr-1 expression_rows.shape-the_row-Place_-2 expression_rows.hidden-the_row-Place_-2 statement_rows.shape-the_row-Stmt-0 statement_rows.hidden-the_row-Stmt-0 statement_rows.shape-the_row-Stmt-1 statement_rows.hidden-the_row-Stmt-1 hidden
library = refl

-- `main` is `int main(void)`, and has a body (C11 5.1.2.2.1)
abbrev mains_rows : List Row
mains_rows =
    -- int main(int a) { return 0; }
    row (codes "int main(int a) { return 0; }") ((Function (spelled (int 0 3) 0) (name 4 8) ((parameter (int 9 12) (Some (name 13 14)) (word w.Int 9 12) []) ∷ []) (Some (Next (Return (word w.Return 18 24) (Some (Number (number 25 26)))) End))) ∷ []) 123 5 ∷
    -- void main(void) { }
    row (codes "void main(void) { }") ((Function (spelled (void 0 4) 0) (name 5 9) [] (Some End)) ∷ []) 123 6 ∷
    -- int main;
    row (codes "int main;") ((Variables (int 0 3) ((declared (name 4 8) [] None) ∷ [])) ∷ []) 123 5 ∷
    -- int main(void);
    row (codes "int main(void);") ((Function (spelled (int 0 3) 0) (name 4 8) [] None) ∷ []) 127 0 ∷
    --
    row (codes "") [] 127 0 ∷
    -- int x = y;
    row (codes "int x = y;") ((Variables (int 0 3) ((declared (name 4 5) [] (Some (Value (Name (name 8 9))))) ∷ [])) ∷ []) 121 9 ∷
    -- int f(void) { return 0; }
    row (codes "int f(void) { return 0; }") ((Function (spelled (int 0 3) 0) (name 4 5) [] (Some (Next (Return (word w.Return 14 20) (Some (Number (number 21 22)))) End))) ∷ []) 127 0 ∷
    -- int main() { return 0; }
    row (codes "int main() { return 0; }") ((Function (spelled (int 0 3) 0) (name 4 8) [] (Some (Next (Return (word w.Return 13 19) (Some (Number (number 20 21)))) End))) ∷ []) 0 0 ∷
    -- int f(void) { int main; return main(); } int main(void) { return 0; }
    row (codes "int f(void) { int main; return main(); } int main(void) { return 0; }") ((Function (spelled (int 0 3) 0) (name 4 5) [] (Some (Next (Declare (local (int 14 17) ((declared (name 18 22) [] None) ∷ []))) (Next (Return (word w.Return 24 30) (Some (Call (name 31 35) NoMore))) End)))) ∷ (Function (spelled (int 41 44) 0) (name 45 49) [] (Some (Next (Return (word w.Return 58 64) (Some (Number (number 65 66)))) End))) ∷ []) 123 32 ∷
    -- int main(void); int f(void) { return main(); }
    row (codes "int main(void); int f(void) { return main(); }") ((Function (spelled (int 0 3) 0) (name 4 8) [] None) ∷ (Function (spelled (int 16 19) 0) (name 20 21) [] (Some (Next (Return (word w.Return 30 36) (Some (Call (name 37 41) NoMore))) End))) ∷ []) 126 38 ∷ []

pub mains : outcomes mains_rows ≡ refusals mains_rows
unfolding checked_rules.kept checked_rules.unless checked_rules.none_of environment_rules.found_in environment_rules.found environment_rules.specified environment_rules.with_stars environment_rules.spelled_type nodes_rules.first_place judgements_rules.shape judgements_rules.on_pointers judgements_rules.arithmetic judgements_rules.relation judgements_rules.operation judgements_rules.conversion judgements_rules.selection judgements_rules.cast_conversion judgements_rules.compound_operation operands_rules.loaded operands_rules.value operands_rules.condition operands_rules.brought operands_rules.fitted operators_rules.unit operators_rules.computed operators_rules.combined operators_rules.selected operators_rules.choice_of operators_rules.cast_by operators_rules.cast operators_rules.promoting operators_rules.negation operators_rules.address operators_rules.dereferenced assignments_rules.assigned assignments_rules.updated assignments_rules.compound assignments_rules.stepped subobjects_rules.base_of subobjects_rules.indexed subobjects_rules.dot subobjects_rules.arrow allocation_rules.objects allocation_rules.product allocation_rules.allocated allocation_rules.freed expressions_rules.full expressions_rules.operand expressions_rules.arguments expressions_rules.only_value expressions_rules.only_request expressions_rules.requested expressions_rules.measured constant_expressions_rules.is_constant constant_expressions_rules.value_of constant_expressions_rules.constant constant_expressions_rules.size_of_array constant_expressions_rules.part_of constant_expressions_rules.is_literal constant_expressions_rules.has_literal_indices constant_expressions_rules.initial_value declarations_rules.size declarations_rules.layers declarations_rules.layered declarations_rules.element_number declarations_rules.is_complete declarations_rules.is_within_limit initialisers_rules.parts initialisers_rules.zeros initialisers_rules.alone initialisers_rules.all_alone initialisers_rules.cells initialisers_rules.elements statements_rules.in_scope statements_rules.init_statements statements_rules.declare_one statements_rules.declare_all statements_rules.declare statements_rules.statement statements_rules.statements weights_rules.declared_weight weights_rules.item_weight weights_rules.initialiser_nodes weights_rules.elements_nodes weights_rules.continues weights_rules.all_continues weights_rules.statement_weight weights_rules.statements_weight file_scope_rules.file_scope file_scope_rules.variable file_scope_rules.variables structs_rules.member structs_rules.member_list structs_rules.all_members structs_rules.structure functions_rules.parameter functions_rules.parameters functions_rules.declarable_function functions_rules.replaced functions_rules.defined_as functions_rules.function programs_rules.item programs_rules.items programs_rules.whole programs_rules.elaborated programs_rules.elaboration number_rules.radix_of number_rules.value_of number_rules.number_value number_rules.constant_of number_rules.constant_with number_rules.first_holding number_rules.constant_types number_rules.number_of number_rules.suffix_of lexeme_rules.character_value type_rows.shape-the_row-CType-0 type_rows.hidden-the_row-CType-0 expression_rows.shape-the_row-Expr-0 expression_rows.hidden-the_row-Expr-0 expression_rows.shape-the_row-Expr-1 expression_rows.hidden-the_row-Expr-1 expression_rows.shape-the_row-Place_-2 expression_rows.hidden-the_row-Place_-2 statement_rows.shape-the_row-Stmt-0 statement_rows.hidden-the_row-Stmt-0 statement_rows.shape-the_row-Stmt-1 statement_rows.hidden-the_row-Stmt-1 hidden
mains = refl
