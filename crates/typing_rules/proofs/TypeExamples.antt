-- Examples of the rules on types and sizes (C11 6.2.5, 6.6, 6.7.2.1, 6.7.6): each text breaks the rule with this number, at this column, or none.
use Rattle.std.proofs.Common.{◌≡◌, refl, List, [], ◌∷◌, codes, Some, None}
use Rattle.c_lexer.specs.declared.token.IntSuffix.TheVariants as suffix
use Rattle.c_words.specs.declared.word.Word.TheVariants as w
use Rattle.typing_rules.specs.Syntax.{Name, Number, Character, Paren, Call, Arrow, Prefix, Cast, Binary, Choose, NoMore, PointerTo, ArrayOf, Declare, Return, End, Next, Struct, Variables, Function}
use Rattle.typing_rules.proofs.ExampleTexts.{name, number, suffixed, character, word, mark, int, char, void, struct, spelled, declarator, declared, parameter, local, members, Row, row, outcomes, refusals}
use Rattle.typing_rules.specs.Checked as checked_rules
use Rattle.typing_rules.specs.Environment as environment_rules
use Rattle.typing_rules.specs.Nodes as nodes_rules
use Rattle.typing_rules.specs.Judgements as judgements_rules
use Rattle.typing_rules.specs.Operands as operands_rules
use Rattle.typing_rules.specs.Operators as operators_rules
use Rattle.typing_rules.specs.Assignments as assignments_rules
use Rattle.typing_rules.specs.Subobjects as subobjects_rules
use Rattle.typing_rules.specs.Allocation as allocation_rules
use Rattle.typing_rules.specs.Expressions as expressions_rules
use Rattle.typing_rules.specs.ConstantExpressions as constant_expressions_rules
use Rattle.typing_rules.specs.Declarations as declarations_rules
use Rattle.typing_rules.specs.Initialisers as initialisers_rules
use Rattle.typing_rules.specs.Statements as statements_rules
use Rattle.typing_rules.specs.Weights as weights_rules
use Rattle.typing_rules.specs.FileScope as file_scope_rules
use Rattle.typing_rules.specs.Structs as structs_rules
use Rattle.typing_rules.specs.Functions as functions_rules
use Rattle.typing_rules.specs.Programs as programs_rules
use Rattle.c_lexer.specs.Numbers as number_rules
use Rattle.c_lexer.specs.Lexemes as lexeme_rules
use Rattle.step_meaning.specs.declared.value.CType.TheBlock as type_rows
use Rattle.step_meaning.specs.declared.expr.Expr.TheBlock as expression_rows
use Rattle.step_meaning.specs.declared.stmt.Stmt.TheBlock as statement_rows
use denote.Hole.Carrier.{hidden}

-- types of objects are complete, and `void` stands in few places
abbrev complete_rows : List Row
complete_rows =
    -- void x; int main(void) { return 0; }
    row (codes "void x; int main(void) { return 0; }") ((Variables (void 0 4) ((declared (name 5 6) [] None) ∷ [])) ∷ (Function (spelled (int 8 11) 0) (name 12 16) [] (Some (Next (Return (word w.Return 25 31) (Some (Number (number 32 33)))) End))) ∷ []) 123 6 ∷
    -- void *p; int main(void) { return 0; }
    row (codes "void *p; int main(void) { return 0; }") ((Variables (void 0 4) ((declared (name 6 7) (PointerTo ∷ []) None) ∷ [])) ∷ (Function (spelled (int 9 12) 0) (name 13 17) [] (Some (Next (Return (word w.Return 26 32) (Some (Number (number 33 34)))) End))) ∷ []) 123 7 ∷
    -- void **p; int main(void) { return 0; }
    row (codes "void **p; int main(void) { return 0; }") ((Variables (void 0 4) ((declared (name 7 8) (PointerTo ∷ PointerTo ∷ []) None) ∷ [])) ∷ (Function (spelled (int 10 13) 0) (name 14 18) [] (Some (Next (Return (word w.Return 27 33) (Some (Number (number 34 35)))) End))) ∷ []) 123 8 ∷
    -- void a[2]; int main(void) { return 0; }
    row (codes "void a[2]; int main(void) { return 0; }") ((Variables (void 0 4) ((declared (name 5 6) ((ArrayOf (Number (number 7 8))) ∷ []) None) ∷ [])) ∷ (Function (spelled (int 11 14) 0) (name 15 19) [] (Some (Next (Return (word w.Return 28 34) (Some (Number (number 35 36)))) End))) ∷ []) 123 6 ∷
    -- int main(void) { void x; return 0; }
    row (codes "int main(void) { void x; return 0; }") ((Function (spelled (int 0 3) 0) (name 4 8) [] (Some (Next (Declare (local (void 17 21) ((declared (name 22 23) [] None) ∷ []))) (Next (Return (word w.Return 25 31) (Some (Number (number 32 33)))) End)))) ∷ []) 123 23 ∷
    -- int f(void a) { return 0; } int main(void) { return 0; }
    row (codes "int f(void a) { return 0; } int main(void) { return 0; }") ((Function (spelled (int 0 3) 0) (name 4 5) ((parameter (void 6 10) (Some (name 11 12)) (word w.Void 6 10) []) ∷ []) (Some (Next (Return (word w.Return 16 22) (Some (Number (number 23 24)))) End))) ∷ (Function (spelled (int 28 31) 0) (name 32 36) [] (Some (Next (Return (word w.Return 45 51) (Some (Number (number 52 53)))) End))) ∷ []) 123 12 ∷
    -- int f(void, int); int main(void) { return 0; }
    row (codes "int f(void, int); int main(void) { return 0; }") ((Function (spelled (int 0 3) 0) (name 4 5) ((parameter (void 6 10) None (word w.Void 6 10) []) ∷ (parameter (int 12 15) None (word w.Int 12 15) []) ∷ []) None) ∷ (Function (spelled (int 18 21) 0) (name 22 26) [] (Some (Next (Return (word w.Return 35 41) (Some (Number (number 42 43)))) End))) ∷ []) 123 7 ∷
    -- struct s { void a; }; int main(void) { return 0; }
    row (codes "struct s { void a; }; int main(void) { return 0; }") ((Struct (name 7 8) ((members (void 11 15) ((declarator (name 16 17) []) ∷ [])) ∷ []) []) ∷ (Function (spelled (int 22 25) 0) (name 26 30) [] (Some (Next (Return (word w.Return 39 45) (Some (Number (number 46 47)))) End))) ∷ []) 123 17 ∷
    -- struct s { struct s *p; }; int main(void) { return 0; }
    row (codes "struct s { struct s *p; }; int main(void) { return 0; }") ((Struct (name 7 8) ((members (struct 18 19) ((declarator (name 21 22) (PointerTo ∷ [])) ∷ [])) ∷ []) []) ∷ (Function (spelled (int 27 30) 0) (name 31 35) [] (Some (Next (Return (word w.Return 44 50) (Some (Number (number 51 52)))) End))) ∷ []) 0 0 ∷
    -- struct s { struct s a; }; int main(void) { return 0; }
    row (codes "struct s { struct s a; }; int main(void) { return 0; }") ((Struct (name 7 8) ((members (struct 18 19) ((declarator (name 20 21) []) ∷ [])) ∷ []) []) ∷ (Function (spelled (int 26 29) 0) (name 30 34) [] (Some (Next (Return (word w.Return 43 49) (Some (Number (number 50 51)))) End))) ∷ []) 123 21 ∷
    -- struct s { struct s *p[2]; }; int main(void) { return 0; }
    row (codes "struct s { struct s *p[2]; }; int main(void) { return 0; }") ((Struct (name 7 8) ((members (struct 18 19) ((declarator (name 21 22) ((ArrayOf (Number (number 23 24))) ∷ PointerTo ∷ [])) ∷ [])) ∷ []) []) ∷ (Function (spelled (int 30 33) 0) (name 34 38) [] (Some (Next (Return (word w.Return 47 53) (Some (Number (number 54 55)))) End))) ∷ []) 0 0 ∷
    -- struct s { struct s a[2]; }; int main(void) { return 0; }
    row (codes "struct s { struct s a[2]; }; int main(void) { return 0; }") ((Struct (name 7 8) ((members (struct 18 19) ((declarator (name 20 21) ((ArrayOf (Number (number 22 23))) ∷ [])) ∷ [])) ∷ []) []) ∷ (Function (spelled (int 29 32) 0) (name 33 37) [] (Some (Next (Return (word w.Return 46 52) (Some (Number (number 53 54)))) End))) ∷ []) 123 21 ∷
    -- struct s { struct s (*p)[2]; }; int main(void) { return 0; }
    row (codes "struct s { struct s (*p)[2]; }; int main(void) { return 0; }") ((Struct (name 7 8) ((members (struct 18 19) ((declarator (name 22 23) (PointerTo ∷ (ArrayOf (Number (number 25 26))) ∷ [])) ∷ [])) ∷ []) []) ∷ (Function (spelled (int 32 35) 0) (name 36 40) [] (Some (Next (Return (word w.Return 49 55) (Some (Number (number 56 57)))) End))) ∷ []) 123 23 ∷
    -- struct s { int a; } x, *p, a[3]; int main(void) { return 0; }
    row (codes "struct s { int a; } x, *p, a[3]; int main(void) { return 0; }") ((Struct (name 7 8) ((members (int 11 14) ((declarator (name 15 16) []) ∷ [])) ∷ []) ((declared (name 20 21) [] None) ∷ (declared (name 24 25) (PointerTo ∷ []) None) ∷ (declared (name 27 28) ((ArrayOf (Number (number 29 30))) ∷ []) None) ∷ [])) ∷ (Function (spelled (int 33 36) 0) (name 37 41) [] (Some (Next (Return (word w.Return 50 56) (Some (Number (number 57 58)))) End))) ∷ []) 0 0 ∷
    -- struct s { int a; }; int f(struct s *p) { return p->a; } int main(void) { return 0; }
    row (codes "struct s { int a; }; int f(struct s *p) { return p->a; } int main(void) { return 0; }") ((Struct (name 7 8) ((members (int 11 14) ((declarator (name 15 16) []) ∷ [])) ∷ []) []) ∷ (Function (spelled (int 21 24) 0) (name 25 26) ((parameter (struct 34 35) (Some (name 37 38)) (word w.Struct 27 33) (PointerTo ∷ [])) ∷ []) (Some (Next (Return (word w.Return 42 48) (Some (Arrow (Name (name 49 50)) (mark w.Arrow 50 52) (name 52 53)))) End))) ∷ (Function (spelled (int 57 60) 0) (name 61 65) [] (Some (Next (Return (word w.Return 74 80) (Some (Number (number 81 82)))) End))) ∷ []) 0 0 ∷
    -- struct s { int a; }; struct s *f(struct s *p) { return p; } int main(void) { return 0; }
    row (codes "struct s { int a; }; struct s *f(struct s *p) { return p; } int main(void) { return 0; }") ((Struct (name 7 8) ((members (int 11 14) ((declarator (name 15 16) []) ∷ [])) ∷ []) []) ∷ (Function (spelled (struct 28 29) 1) (name 31 32) ((parameter (struct 40 41) (Some (name 43 44)) (word w.Struct 33 39) (PointerTo ∷ [])) ∷ []) (Some (Next (Return (word w.Return 48 54) (Some (Name (name 55 56)))) End))) ∷ (Function (spelled (int 60 63) 0) (name 64 68) [] (Some (Next (Return (word w.Return 77 83) (Some (Number (number 84 85)))) End))) ∷ []) 0 0 ∷ []

pub complete : outcomes complete_rows ≡ refusals complete_rows
unfolding checked_rules.kept checked_rules.unless checked_rules.none_of environment_rules.found_in environment_rules.found environment_rules.specified environment_rules.with_stars environment_rules.spelled_type nodes_rules.first_place judgements_rules.shape judgements_rules.on_pointers judgements_rules.arithmetic judgements_rules.relation judgements_rules.operation judgements_rules.conversion judgements_rules.selection judgements_rules.cast_conversion judgements_rules.compound_operation operands_rules.loaded operands_rules.value operands_rules.condition operands_rules.brought operands_rules.fitted operators_rules.unit operators_rules.computed operators_rules.combined operators_rules.selected operators_rules.choice_of operators_rules.cast_by operators_rules.cast operators_rules.promoting operators_rules.negation operators_rules.address operators_rules.dereferenced assignments_rules.assigned assignments_rules.updated assignments_rules.compound assignments_rules.stepped subobjects_rules.base_of subobjects_rules.indexed subobjects_rules.dot subobjects_rules.arrow allocation_rules.objects allocation_rules.product allocation_rules.allocated allocation_rules.freed expressions_rules.full expressions_rules.operand expressions_rules.arguments expressions_rules.only_value expressions_rules.only_request expressions_rules.requested expressions_rules.measured constant_expressions_rules.is_constant constant_expressions_rules.value_of constant_expressions_rules.constant constant_expressions_rules.size_of_array constant_expressions_rules.part_of constant_expressions_rules.is_literal constant_expressions_rules.has_literal_indices constant_expressions_rules.initial_value declarations_rules.size declarations_rules.layers declarations_rules.layered declarations_rules.element_number declarations_rules.is_complete declarations_rules.is_within_limit initialisers_rules.parts initialisers_rules.zeros initialisers_rules.alone initialisers_rules.all_alone initialisers_rules.cells initialisers_rules.elements statements_rules.in_scope statements_rules.init_statements statements_rules.declare_one statements_rules.declare_all statements_rules.declare statements_rules.statement statements_rules.statements weights_rules.declared_weight weights_rules.item_weight weights_rules.initialiser_nodes weights_rules.elements_nodes weights_rules.continues weights_rules.all_continues weights_rules.statement_weight weights_rules.statements_weight file_scope_rules.file_scope file_scope_rules.variable file_scope_rules.variables structs_rules.member structs_rules.member_list structs_rules.all_members structs_rules.structure functions_rules.parameter functions_rules.parameters functions_rules.declarable_function functions_rules.replaced functions_rules.defined_as functions_rules.function programs_rules.item programs_rules.items programs_rules.whole programs_rules.elaborated programs_rules.elaboration number_rules.radix_of number_rules.value_of number_rules.number_value number_rules.constant_of number_rules.constant_with number_rules.first_holding number_rules.constant_types number_rules.number_of number_rules.suffix_of lexeme_rules.character_value type_rows.shape-the_row-CType-0 type_rows.hidden-the_row-CType-0 expression_rows.shape-the_row-Expr-0 expression_rows.hidden-the_row-Expr-0 expression_rows.shape-the_row-Expr-1 expression_rows.hidden-the_row-Expr-1 expression_rows.shape-the_row-Place_-2 expression_rows.hidden-the_row-Place_-2 statement_rows.shape-the_row-Stmt-0 statement_rows.hidden-the_row-Stmt-0 statement_rows.shape-the_row-Stmt-1 statement_rows.hidden-the_row-Stmt-1 hidden
complete = refl

-- sizes of arrays are constant expressions of value 1 or more
abbrev sizes_rows : List Row
sizes_rows =
    -- int a[0]; int main(void) { return 0; }
    row (codes "int a[0]; int main(void) { return 0; }") ((Variables (int 0 3) ((declared (name 4 5) ((ArrayOf (Number (number 6 7))) ∷ []) None) ∷ [])) ∷ (Function (spelled (int 10 13) 0) (name 14 18) [] (Some (Next (Return (word w.Return 27 33) (Some (Number (number 34 35)))) End))) ∷ []) 132 7 ∷
    -- int a[3 - 3]; int main(void) { return 0; }
    row (codes "int a[3 - 3]; int main(void) { return 0; }") ((Variables (int 0 3) ((declared (name 4 5) ((ArrayOf (Binary (Number (number 6 7)) (mark w.Minus 8 9) (Number (number 10 11)))) ∷ []) None) ∷ [])) ∷ (Function (spelled (int 14 17) 0) (name 18 22) [] (Some (Next (Return (word w.Return 31 37) (Some (Number (number 38 39)))) End))) ∷ []) 132 7 ∷
    -- int a[-1]; int main(void) { return 0; }
    row (codes "int a[-1]; int main(void) { return 0; }") ((Variables (int 0 3) ((declared (name 4 5) ((ArrayOf (Prefix (mark w.Minus 6 7) (Number (number 7 8)))) ∷ []) None) ∷ [])) ∷ (Function (spelled (int 11 14) 0) (name 15 19) [] (Some (Next (Return (word w.Return 28 34) (Some (Number (number 35 36)))) End))) ∷ []) 132 7 ∷
    -- int n; int a[n]; int main(void) { return 0; }
    row (codes "int n; int a[n]; int main(void) { return 0; }") ((Variables (int 0 3) ((declared (name 4 5) [] None) ∷ [])) ∷ (Variables (int 7 10) ((declared (name 11 12) ((ArrayOf (Name (name 13 14))) ∷ []) None) ∷ [])) ∷ (Function (spelled (int 17 20) 0) (name 21 25) [] (Some (Next (Return (word w.Return 34 40) (Some (Number (number 41 42)))) End))) ∷ []) 132 14 ∷
    -- int a[y]; int main(void) { return 0; }
    row (codes "int a[y]; int main(void) { return 0; }") ((Variables (int 0 3) ((declared (name 4 5) ((ArrayOf (Name (name 6 7))) ∷ []) None) ∷ [])) ∷ (Function (spelled (int 10 13) 0) (name 14 18) [] (Some (Next (Return (word w.Return 27 33) (Some (Number (number 34 35)))) End))) ∷ []) 121 7 ∷
    -- int a[1 / 0]; int main(void) { return 0; }
    row (codes "int a[1 / 0]; int main(void) { return 0; }") ((Variables (int 0 3) ((declared (name 4 5) ((ArrayOf (Binary (Number (number 6 7)) (mark w.Slash 8 9) (Number (number 10 11)))) ∷ []) None) ∷ [])) ∷ (Function (spelled (int 14 17) 0) (name 18 22) [] (Some (Next (Return (word w.Return 31 37) (Some (Number (number 38 39)))) End))) ∷ []) 132 7 ∷
    -- int a[1 ? 2 : 1 / 0]; int main(void) { return 0; }
    row (codes "int a[1 ? 2 : 1 / 0]; int main(void) { return 0; }") ((Variables (int 0 3) ((declared (name 4 5) ((ArrayOf (Choose (Number (number 6 7)) (mark w.Question 8 9) (Number (number 10 11)) (Binary (Number (number 14 15)) (mark w.Slash 16 17) (Number (number 18 19))))) ∷ []) None) ∷ [])) ∷ (Function (spelled (int 22 25) 0) (name 26 30) [] (Some (Next (Return (word w.Return 39 45) (Some (Number (number 46 47)))) End))) ∷ []) 0 0 ∷
    -- int a[1 || 1 / 0]; int main(void) { return 0; }
    row (codes "int a[1 || 1 / 0]; int main(void) { return 0; }") ((Variables (int 0 3) ((declared (name 4 5) ((ArrayOf (Binary (Number (number 6 7)) (mark w.OrOr 8 10) (Binary (Number (number 11 12)) (mark w.Slash 13 14) (Number (number 15 16))))) ∷ []) None) ∷ [])) ∷ (Function (spelled (int 19 22) 0) (name 23 27) [] (Some (Next (Return (word w.Return 36 42) (Some (Number (number 43 44)))) End))) ∷ []) 0 0 ∷
    -- int a[0 && 1 / 0]; int main(void) { return 0; }
    row (codes "int a[0 && 1 / 0]; int main(void) { return 0; }") ((Variables (int 0 3) ((declared (name 4 5) ((ArrayOf (Binary (Number (number 6 7)) (mark w.AndAnd 8 10) (Binary (Number (number 11 12)) (mark w.Slash 13 14) (Number (number 15 16))))) ∷ []) None) ∷ [])) ∷ (Function (spelled (int 19 22) 0) (name 23 27) [] (Some (Next (Return (word w.Return 36 42) (Some (Number (number 43 44)))) End))) ∷ []) 132 7 ∷
    -- int a[2147483647 + 1]; int main(void) { return 0; }
    row (codes "int a[2147483647 + 1]; int main(void) { return 0; }") ((Variables (int 0 3) ((declared (name 4 5) ((ArrayOf (Binary (Number (number 6 16)) (mark w.Plus 17 18) (Number (number 19 20)))) ∷ []) None) ∷ [])) ∷ (Function (spelled (int 23 26) 0) (name 27 31) [] (Some (Next (Return (word w.Return 40 46) (Some (Number (number 47 48)))) End))) ∷ []) 132 7 ∷
    -- char a['a']; int main(void) { return 0; }
    row (codes "char a['a']; int main(void) { return 0; }") ((Variables (char 0 4) ((declared (name 5 6) ((ArrayOf (Character (character 7 10))) ∷ []) None) ∷ [])) ∷ (Function (spelled (int 13 16) 0) (name 17 21) [] (Some (Next (Return (word w.Return 30 36) (Some (Number (number 37 38)))) End))) ∷ []) 0 0 ∷
    -- int a[(char) 300]; int main(void) { return 0; }
    row (codes "int a[(char) 300]; int main(void) { return 0; }") ((Variables (int 0 3) ((declared (name 4 5) ((ArrayOf (Cast (mark w.LeftParen 6 7) (spelled (char 7 11) 0) (Number (number 13 16)))) ∷ []) None) ∷ [])) ∷ (Function (spelled (int 19 22) 0) (name 23 27) [] (Some (Next (Return (word w.Return 36 42) (Some (Number (number 43 44)))) End))) ∷ []) 0 0 ∷
    -- int a[(char) 200]; int main(void) { return 0; }
    row (codes "int a[(char) 200]; int main(void) { return 0; }") ((Variables (int 0 3) ((declared (name 4 5) ((ArrayOf (Cast (mark w.LeftParen 6 7) (spelled (char 7 11) 0) (Number (number 13 16)))) ∷ []) None) ∷ [])) ∷ (Function (spelled (int 19 22) 0) (name 23 27) [] (Some (Next (Return (word w.Return 36 42) (Some (Number (number 43 44)))) End))) ∷ []) 132 7 ∷
    -- int a[!0 + (2 < 3)]; int main(void) { return 0; }
    row (codes "int a[!0 + (2 < 3)]; int main(void) { return 0; }") ((Variables (int 0 3) ((declared (name 4 5) ((ArrayOf (Binary (Prefix (mark w.Exclamation 6 7) (Number (number 7 8))) (mark w.Plus 9 10) (Paren (mark w.LeftParen 11 12) (Binary (Number (number 12 13)) (mark w.Less 14 15) (Number (number 16 17)))))) ∷ []) None) ∷ [])) ∷ (Function (spelled (int 21 24) 0) (name 25 29) [] (Some (Next (Return (word w.Return 38 44) (Some (Number (number 45 46)))) End))) ∷ []) 0 0 ∷
    -- int a[(void *) 0]; int main(void) { return 0; }
    row (codes "int a[(void *) 0]; int main(void) { return 0; }") ((Variables (int 0 3) ((declared (name 4 5) ((ArrayOf (Cast (mark w.LeftParen 6 7) (spelled (void 7 11) 1) (Number (number 15 16)))) ∷ []) None) ∷ [])) ∷ (Function (spelled (int 19 22) 0) (name 23 27) [] (Some (Next (Return (word w.Return 36 42) (Some (Number (number 43 44)))) End))) ∷ []) 132 7 ∷
    -- int f(int n, int a[n]); int main(void) { return 0; }
    row (codes "int f(int n, int a[n]); int main(void) { return 0; }") ((Function (spelled (int 0 3) 0) (name 4 5) ((parameter (int 6 9) (Some (name 10 11)) (word w.Int 6 9) []) ∷ (parameter (int 13 16) (Some (name 17 18)) (word w.Int 13 16) ((ArrayOf (Name (name 19 20))) ∷ [])) ∷ []) None) ∷ (Function (spelled (int 24 27) 0) (name 28 32) [] (Some (Next (Return (word w.Return 41 47) (Some (Number (number 48 49)))) End))) ∷ []) 132 20 ∷
    -- int a[getchar()]; int main(void) { return 0; }
    row (codes "int a[getchar()]; int main(void) { return 0; }") ((Variables (int 0 3) ((declared (name 4 5) ((ArrayOf (Call (name 6 13) NoMore)) ∷ []) None) ∷ [])) ∷ (Function (spelled (int 18 21) 0) (name 22 26) [] (Some (Next (Return (word w.Return 35 41) (Some (Number (number 42 43)))) End))) ∷ []) 132 7 ∷
    -- int a[2][0]; int main(void) { return 0; }
    row (codes "int a[2][0]; int main(void) { return 0; }") ((Variables (int 0 3) ((declared (name 4 5) ((ArrayOf (Number (number 6 7))) ∷ (ArrayOf (Number (number 9 10))) ∷ []) None) ∷ [])) ∷ (Function (spelled (int 13 16) 0) (name 17 21) [] (Some (Next (Return (word w.Return 30 36) (Some (Number (number 37 38)))) End))) ∷ []) 132 10 ∷
    -- int a[0x10]; int b[010]; int c[1u]; int d[1L]; int main(void) { return 0; }
    row (codes "int a[0x10]; int b[010]; int c[1u]; int d[1L]; int main(void) { return 0; }") ((Variables (int 0 3) ((declared (name 4 5) ((ArrayOf (Number (number 6 10))) ∷ []) None) ∷ [])) ∷ (Variables (int 13 16) ((declared (name 17 18) ((ArrayOf (Number (number 19 22))) ∷ []) None) ∷ [])) ∷ (Variables (int 25 28) ((declared (name 29 30) ((ArrayOf (Number (suffixed suffix.U 31 33))) ∷ []) None) ∷ [])) ∷ (Variables (int 36 39) ((declared (name 40 41) ((ArrayOf (Number (suffixed suffix.L 42 44))) ∷ []) None) ∷ [])) ∷ (Function (spelled (int 47 50) 0) (name 51 55) [] (Some (Next (Return (word w.Return 64 70) (Some (Number (number 71 72)))) End))) ∷ []) 0 0 ∷ []

pub sizes : outcomes sizes_rows ≡ refusals sizes_rows
unfolding checked_rules.kept checked_rules.unless checked_rules.none_of environment_rules.found_in environment_rules.found environment_rules.specified environment_rules.with_stars environment_rules.spelled_type nodes_rules.first_place judgements_rules.shape judgements_rules.on_pointers judgements_rules.arithmetic judgements_rules.relation judgements_rules.operation judgements_rules.conversion judgements_rules.selection judgements_rules.cast_conversion judgements_rules.compound_operation operands_rules.loaded operands_rules.value operands_rules.condition operands_rules.brought operands_rules.fitted operators_rules.unit operators_rules.computed operators_rules.combined operators_rules.selected operators_rules.choice_of operators_rules.cast_by operators_rules.cast operators_rules.promoting operators_rules.negation operators_rules.address operators_rules.dereferenced assignments_rules.assigned assignments_rules.updated assignments_rules.compound assignments_rules.stepped subobjects_rules.base_of subobjects_rules.indexed subobjects_rules.dot subobjects_rules.arrow allocation_rules.objects allocation_rules.product allocation_rules.allocated allocation_rules.freed expressions_rules.full expressions_rules.operand expressions_rules.arguments expressions_rules.only_value expressions_rules.only_request expressions_rules.requested expressions_rules.measured constant_expressions_rules.is_constant constant_expressions_rules.value_of constant_expressions_rules.constant constant_expressions_rules.size_of_array constant_expressions_rules.part_of constant_expressions_rules.is_literal constant_expressions_rules.has_literal_indices constant_expressions_rules.initial_value declarations_rules.size declarations_rules.layers declarations_rules.layered declarations_rules.element_number declarations_rules.is_complete declarations_rules.is_within_limit initialisers_rules.parts initialisers_rules.zeros initialisers_rules.alone initialisers_rules.all_alone initialisers_rules.cells initialisers_rules.elements statements_rules.in_scope statements_rules.init_statements statements_rules.declare_one statements_rules.declare_all statements_rules.declare statements_rules.statement statements_rules.statements weights_rules.declared_weight weights_rules.item_weight weights_rules.initialiser_nodes weights_rules.elements_nodes weights_rules.continues weights_rules.all_continues weights_rules.statement_weight weights_rules.statements_weight file_scope_rules.file_scope file_scope_rules.variable file_scope_rules.variables structs_rules.member structs_rules.member_list structs_rules.all_members structs_rules.structure functions_rules.parameter functions_rules.parameters functions_rules.declarable_function functions_rules.replaced functions_rules.defined_as functions_rules.function programs_rules.item programs_rules.items programs_rules.whole programs_rules.elaborated programs_rules.elaboration number_rules.radix_of number_rules.value_of number_rules.number_value number_rules.constant_of number_rules.constant_with number_rules.first_holding number_rules.constant_types number_rules.number_of number_rules.suffix_of lexeme_rules.character_value type_rows.shape-the_row-CType-0 type_rows.hidden-the_row-CType-0 expression_rows.shape-the_row-Expr-0 expression_rows.hidden-the_row-Expr-0 expression_rows.shape-the_row-Expr-1 expression_rows.hidden-the_row-Expr-1 expression_rows.shape-the_row-Place_-2 expression_rows.hidden-the_row-Place_-2 statement_rows.shape-the_row-Stmt-0 statement_rows.hidden-the_row-Stmt-0 statement_rows.shape-the_row-Stmt-1 statement_rows.hidden-the_row-Stmt-1 hidden
sizes = refl

-- an array or a struct has at most 65,536 cells
abbrev limits_rows : List Row
limits_rows =
    -- char a[65536]; int main(void) { return 0; }
    row (codes "char a[65536]; int main(void) { return 0; }") ((Variables (char 0 4) ((declared (name 5 6) ((ArrayOf (Number (number 7 12))) ∷ []) None) ∷ [])) ∷ (Function (spelled (int 15 18) 0) (name 19 23) [] (Some (Next (Return (word w.Return 32 38) (Some (Number (number 39 40)))) End))) ∷ []) 0 0 ∷
    -- char a[65537]; int main(void) { return 0; }
    row (codes "char a[65537]; int main(void) { return 0; }") ((Variables (char 0 4) ((declared (name 5 6) ((ArrayOf (Number (number 7 12))) ∷ []) None) ∷ [])) ∷ (Function (spelled (int 15 18) 0) (name 19 23) [] (Some (Next (Return (word w.Return 32 38) (Some (Number (number 39 40)))) End))) ∷ []) 131 6 ∷
    -- int *a[65537]; int main(void) { return 0; }
    row (codes "int *a[65537]; int main(void) { return 0; }") ((Variables (int 0 3) ((declared (name 5 6) ((ArrayOf (Number (number 7 12))) ∷ PointerTo ∷ []) None) ∷ [])) ∷ (Function (spelled (int 15 18) 0) (name 19 23) [] (Some (Next (Return (word w.Return 32 38) (Some (Number (number 39 40)))) End))) ∷ []) 131 6 ∷
    -- int (*p)[65537]; int main(void) { return 0; }
    row (codes "int (*p)[65537]; int main(void) { return 0; }") ((Variables (int 0 3) ((declared (name 6 7) (PointerTo ∷ (ArrayOf (Number (number 9 14))) ∷ []) None) ∷ [])) ∷ (Function (spelled (int 17 20) 0) (name 21 25) [] (Some (Next (Return (word w.Return 34 40) (Some (Number (number 41 42)))) End))) ∷ []) 131 7 ∷
    -- int a[256][257]; int main(void) { return 0; }
    row (codes "int a[256][257]; int main(void) { return 0; }") ((Variables (int 0 3) ((declared (name 4 5) ((ArrayOf (Number (number 6 9))) ∷ (ArrayOf (Number (number 11 14))) ∷ []) None) ∷ [])) ∷ (Function (spelled (int 17 20) 0) (name 21 25) [] (Some (Next (Return (word w.Return 34 40) (Some (Number (number 41 42)))) End))) ∷ []) 131 5 ∷
    -- int f(int a[65537]); int main(void) { return 0; }
    row (codes "int f(int a[65537]); int main(void) { return 0; }") ((Function (spelled (int 0 3) 0) (name 4 5) ((parameter (int 6 9) (Some (name 10 11)) (word w.Int 6 9) ((ArrayOf (Number (number 12 17))) ∷ [])) ∷ []) None) ∷ (Function (spelled (int 21 24) 0) (name 25 29) [] (Some (Next (Return (word w.Return 38 44) (Some (Number (number 45 46)))) End))) ∷ []) 0 0 ∷
    -- int f(int a[2][65537]); int main(void) { return 0; }
    row (codes "int f(int a[2][65537]); int main(void) { return 0; }") ((Function (spelled (int 0 3) 0) (name 4 5) ((parameter (int 6 9) (Some (name 10 11)) (word w.Int 6 9) ((ArrayOf (Number (number 12 13))) ∷ (ArrayOf (Number (number 15 20))) ∷ [])) ∷ []) None) ∷ (Function (spelled (int 24 27) 0) (name 28 32) [] (Some (Next (Return (word w.Return 41 47) (Some (Number (number 48 49)))) End))) ∷ []) 131 11 ∷
    -- struct s { int a[65535]; int b; }; int main(void) { return 0; }
    row (codes "struct s { int a[65535]; int b; }; int main(void) { return 0; }") ((Struct (name 7 8) ((members (int 11 14) ((declarator (name 15 16) ((ArrayOf (Number (number 17 22))) ∷ [])) ∷ [])) ∷ (members (int 25 28) ((declarator (name 29 30) []) ∷ [])) ∷ []) []) ∷ (Function (spelled (int 35 38) 0) (name 39 43) [] (Some (Next (Return (word w.Return 52 58) (Some (Number (number 59 60)))) End))) ∷ []) 0 0 ∷
    -- struct s { int a[65535]; int b[2]; }; int main(void) { return 0; }
    row (codes "struct s { int a[65535]; int b[2]; }; int main(void) { return 0; }") ((Struct (name 7 8) ((members (int 11 14) ((declarator (name 15 16) ((ArrayOf (Number (number 17 22))) ∷ [])) ∷ [])) ∷ (members (int 25 28) ((declarator (name 29 30) ((ArrayOf (Number (number 31 32))) ∷ [])) ∷ [])) ∷ []) []) ∷ (Function (spelled (int 38 41) 0) (name 42 46) [] (Some (Next (Return (word w.Return 55 61) (Some (Number (number 62 63)))) End))) ∷ []) 131 8 ∷
    -- struct s { int a[65537]; }; int main(void) { return 0; }
    row (codes "struct s { int a[65537]; }; int main(void) { return 0; }") ((Struct (name 7 8) ((members (int 11 14) ((declarator (name 15 16) ((ArrayOf (Number (number 17 22))) ∷ [])) ∷ [])) ∷ []) []) ∷ (Function (spelled (int 28 31) 0) (name 32 36) [] (Some (Next (Return (word w.Return 45 51) (Some (Number (number 52 53)))) End))) ∷ []) 131 16 ∷
    -- struct s { int a; int b; }; struct s v[32769]; int main(void) { return 0; }
    row (codes "struct s { int a; int b; }; struct s v[32769]; int main(void) { return 0; }") ((Struct (name 7 8) ((members (int 11 14) ((declarator (name 15 16) []) ∷ [])) ∷ (members (int 18 21) ((declarator (name 22 23) []) ∷ [])) ∷ []) []) ∷ (Variables (struct 35 36) ((declared (name 37 38) ((ArrayOf (Number (number 39 44))) ∷ []) None) ∷ [])) ∷ (Function (spelled (int 47 50) 0) (name 51 55) [] (Some (Next (Return (word w.Return 64 70) (Some (Number (number 71 72)))) End))) ∷ []) 131 38 ∷
    -- int main(void) { int a[65537]; return 0; }
    row (codes "int main(void) { int a[65537]; return 0; }") ((Function (spelled (int 0 3) 0) (name 4 8) [] (Some (Next (Declare (local (int 17 20) ((declared (name 21 22) ((ArrayOf (Number (number 23 28))) ∷ []) None) ∷ []))) (Next (Return (word w.Return 31 37) (Some (Number (number 38 39)))) End)))) ∷ []) 131 22 ∷ []

pub limits : outcomes limits_rows ≡ refusals limits_rows
unfolding checked_rules.kept checked_rules.unless checked_rules.none_of environment_rules.found_in environment_rules.found environment_rules.specified environment_rules.with_stars environment_rules.spelled_type nodes_rules.first_place judgements_rules.shape judgements_rules.on_pointers judgements_rules.arithmetic judgements_rules.relation judgements_rules.operation judgements_rules.conversion judgements_rules.selection judgements_rules.cast_conversion judgements_rules.compound_operation operands_rules.loaded operands_rules.value operands_rules.condition operands_rules.brought operands_rules.fitted operators_rules.unit operators_rules.computed operators_rules.combined operators_rules.selected operators_rules.choice_of operators_rules.cast_by operators_rules.cast operators_rules.promoting operators_rules.negation operators_rules.address operators_rules.dereferenced assignments_rules.assigned assignments_rules.updated assignments_rules.compound assignments_rules.stepped subobjects_rules.base_of subobjects_rules.indexed subobjects_rules.dot subobjects_rules.arrow allocation_rules.objects allocation_rules.product allocation_rules.allocated allocation_rules.freed expressions_rules.full expressions_rules.operand expressions_rules.arguments expressions_rules.only_value expressions_rules.only_request expressions_rules.requested expressions_rules.measured constant_expressions_rules.is_constant constant_expressions_rules.value_of constant_expressions_rules.constant constant_expressions_rules.size_of_array constant_expressions_rules.part_of constant_expressions_rules.is_literal constant_expressions_rules.has_literal_indices constant_expressions_rules.initial_value declarations_rules.size declarations_rules.layers declarations_rules.layered declarations_rules.element_number declarations_rules.is_complete declarations_rules.is_within_limit initialisers_rules.parts initialisers_rules.zeros initialisers_rules.alone initialisers_rules.all_alone initialisers_rules.cells initialisers_rules.elements statements_rules.in_scope statements_rules.init_statements statements_rules.declare_one statements_rules.declare_all statements_rules.declare statements_rules.statement statements_rules.statements weights_rules.declared_weight weights_rules.item_weight weights_rules.initialiser_nodes weights_rules.elements_nodes weights_rules.continues weights_rules.all_continues weights_rules.statement_weight weights_rules.statements_weight file_scope_rules.file_scope file_scope_rules.variable file_scope_rules.variables structs_rules.member structs_rules.member_list structs_rules.all_members structs_rules.structure functions_rules.parameter functions_rules.parameters functions_rules.declarable_function functions_rules.replaced functions_rules.defined_as functions_rules.function programs_rules.item programs_rules.items programs_rules.whole programs_rules.elaborated programs_rules.elaboration number_rules.radix_of number_rules.value_of number_rules.number_value number_rules.constant_of number_rules.constant_with number_rules.first_holding number_rules.constant_types number_rules.number_of number_rules.suffix_of lexeme_rules.character_value type_rows.shape-the_row-CType-0 type_rows.hidden-the_row-CType-0 expression_rows.shape-the_row-Expr-0 expression_rows.hidden-the_row-Expr-0 expression_rows.shape-the_row-Expr-1 expression_rows.hidden-the_row-Expr-1 expression_rows.shape-the_row-Place_-2 expression_rows.hidden-the_row-Place_-2 statement_rows.shape-the_row-Stmt-0 statement_rows.hidden-the_row-Stmt-0 statement_rows.shape-the_row-Stmt-1 statement_rows.hidden-the_row-Stmt-1 hidden
limits = refl
