-- Examples of the rules on assignments, structs as values, and calls (C11 6.5.2.2, 6.5.16): each text breaks the rule with this number, at this column, or none.
use Rattle.std.proofs.Common.{◌≡◌, refl, List, [], ◌∷◌, codes, Some, None}
use Rattle.c_lexer.specs.declared.token.IntSuffix.TheVariants as suffix
use Rattle.c_words.specs.declared.word.Word.TheVariants as w
use Rattle.typing_rules.specs.Syntax.{Name, Number, Character, Paren, Call, Index, Member, Increment, Decrement, Prefix, Cast, Binary, Choose, Assign, NoMore, Then, PointerTo, ArrayOf, Value, Evaluate, Declare, Return, End, Next, Struct, Variables, Function}
use Rattle.typing_rules.proofs.ExampleTexts.{name, number, suffixed, character, word, mark, int, char, void, struct, spelled, declarator, declared, parameter, local, members, Row, row, outcomes, refusals}
use Rattle.typing_rules.specs.Checked as checked_rules
use Rattle.typing_rules.specs.Environment as environment_rules
use Rattle.typing_rules.specs.Nodes as nodes_rules
use Rattle.typing_rules.specs.Judgements as judgements_rules
use Rattle.typing_rules.specs.Operands as operands_rules
use Rattle.typing_rules.specs.Operators as operators_rules
use Rattle.typing_rules.specs.Assignments as assignments_rules
use Rattle.typing_rules.specs.Subobjects as subobjects_rules
use Rattle.typing_rules.specs.Allocation as allocation_rules
use Rattle.typing_rules.specs.Expressions as expressions_rules
use Rattle.typing_rules.specs.ConstantExpressions as constant_expressions_rules
use Rattle.typing_rules.specs.Declarations as declarations_rules
use Rattle.typing_rules.specs.Initialisers as initialisers_rules
use Rattle.typing_rules.specs.Statements as statements_rules
use Rattle.typing_rules.specs.Weights as weights_rules
use Rattle.typing_rules.specs.FileScope as file_scope_rules
use Rattle.typing_rules.specs.Structs as structs_rules
use Rattle.typing_rules.specs.Functions as functions_rules
use Rattle.typing_rules.specs.Programs as programs_rules
use Rattle.c_lexer.specs.Numbers as number_rules
use Rattle.c_lexer.specs.Lexemes as lexeme_rules
use Rattle.step_meaning.specs.declared.value.CType.TheBlock as type_rows
use Rattle.step_meaning.specs.declared.expr.Expr.TheBlock as expression_rows
use Rattle.step_meaning.specs.declared.stmt.Stmt.TheBlock as statement_rows
use denote.Hole.Carrier.{hidden}

-- the left side is an lvalue of integer or pointer type
abbrev targets_rows : List Row
targets_rows =
    -- int x; int *p; int *q; char *c; int a[3]; int main(void) { x = 1; p = &x; a[1] = 2; *p = 3; (x) = 4; ((x))++; --*p; return 0; }
    row (codes "int x; int *p; int *q; char *c; int a[3]; int main(void) { x = 1; p = &x; a[1] = 2; *p = 3; (x) = 4; ((x))++; --*p; return 0; }") ((Variables (int 0 3) ((declared (name 4 5) [] None) ∷ [])) ∷ (Variables (int 7 10) ((declared (name 12 13) (PointerTo ∷ []) None) ∷ [])) ∷ (Variables (int 15 18) ((declared (name 20 21) (PointerTo ∷ []) None) ∷ [])) ∷ (Variables (char 23 27) ((declared (name 29 30) (PointerTo ∷ []) None) ∷ [])) ∷ (Variables (int 32 35) ((declared (name 36 37) ((ArrayOf (Number (number 38 39))) ∷ []) None) ∷ [])) ∷ (Function (spelled (int 42 45) 0) (name 46 50) [] (Some (Next (Evaluate (Assign (Name (name 59 60)) (mark w.Assign 61 62) (Number (number 63 64)))) (Next (Evaluate (Assign (Name (name 66 67)) (mark w.Assign 68 69) (Prefix (mark w.Ampersand 70 71) (Name (name 71 72))))) (Next (Evaluate (Assign (Index (Name (name 74 75)) (mark w.LeftBracket 75 76) (Number (number 76 77))) (mark w.Assign 79 80) (Number (number 81 82)))) (Next (Evaluate (Assign (Prefix (mark w.Star 84 85) (Name (name 85 86))) (mark w.Assign 87 88) (Number (number 89 90)))) (Next (Evaluate (Assign (Paren (mark w.LeftParen 92 93) (Name (name 93 94))) (mark w.Assign 96 97) (Number (number 98 99)))) (Next (Evaluate (Increment (Paren (mark w.LeftParen 101 102) (Paren (mark w.LeftParen 102 103) (Name (name 103 104)))) (mark w.Increment 106 108))) (Next (Evaluate (Prefix (mark w.Decrement 110 112) (Prefix (mark w.Star 112 113) (Name (name 113 114))))) (Next (Return (word w.Return 116 122) (Some (Number (number 123 124)))) End)))))))))) ∷ []) 0 0 ∷
    -- int x; int *p; int *q; char *c; int a[3]; int main(void) { 1 = x; return 0; }
    row (codes "int x; int *p; int *q; char *c; int a[3]; int main(void) { 1 = x; return 0; }") ((Variables (int 0 3) ((declared (name 4 5) [] None) ∷ [])) ∷ (Variables (int 7 10) ((declared (name 12 13) (PointerTo ∷ []) None) ∷ [])) ∷ (Variables (int 15 18) ((declared (name 20 21) (PointerTo ∷ []) None) ∷ [])) ∷ (Variables (char 23 27) ((declared (name 29 30) (PointerTo ∷ []) None) ∷ [])) ∷ (Variables (int 32 35) ((declared (name 36 37) ((ArrayOf (Number (number 38 39))) ∷ []) None) ∷ [])) ∷ (Function (spelled (int 42 45) 0) (name 46 50) [] (Some (Next (Evaluate (Assign (Number (number 59 60)) (mark w.Assign 61 62) (Name (name 63 64)))) (Next (Return (word w.Return 66 72) (Some (Number (number 73 74)))) End)))) ∷ []) 124 62 ∷
    -- int x; int *p; int *q; char *c; int a[3]; int main(void) { a = p; return 0; }
    row (codes "int x; int *p; int *q; char *c; int a[3]; int main(void) { a = p; return 0; }") ((Variables (int 0 3) ((declared (name 4 5) [] None) ∷ [])) ∷ (Variables (int 7 10) ((declared (name 12 13) (PointerTo ∷ []) None) ∷ [])) ∷ (Variables (int 15 18) ((declared (name 20 21) (PointerTo ∷ []) None) ∷ [])) ∷ (Variables (char 23 27) ((declared (name 29 30) (PointerTo ∷ []) None) ∷ [])) ∷ (Variables (int 32 35) ((declared (name 36 37) ((ArrayOf (Number (number 38 39))) ∷ []) None) ∷ [])) ∷ (Function (spelled (int 42 45) 0) (name 46 50) [] (Some (Next (Evaluate (Assign (Name (name 59 60)) (mark w.Assign 61 62) (Name (name 63 64)))) (Next (Return (word w.Return 66 72) (Some (Number (number 73 74)))) End)))) ∷ []) 124 62 ∷
    -- int x; int *p; int *q; char *c; int a[3]; int main(void) { x + 1 = 2; return 0; }
    row (codes "int x; int *p; int *q; char *c; int a[3]; int main(void) { x + 1 = 2; return 0; }") ((Variables (int 0 3) ((declared (name 4 5) [] None) ∷ [])) ∷ (Variables (int 7 10) ((declared (name 12 13) (PointerTo ∷ []) None) ∷ [])) ∷ (Variables (int 15 18) ((declared (name 20 21) (PointerTo ∷ []) None) ∷ [])) ∷ (Variables (char 23 27) ((declared (name 29 30) (PointerTo ∷ []) None) ∷ [])) ∷ (Variables (int 32 35) ((declared (name 36 37) ((ArrayOf (Number (number 38 39))) ∷ []) None) ∷ [])) ∷ (Function (spelled (int 42 45) 0) (name 46 50) [] (Some (Next (Evaluate (Assign (Binary (Name (name 59 60)) (mark w.Plus 61 62) (Number (number 63 64))) (mark w.Assign 65 66) (Number (number 67 68)))) (Next (Return (word w.Return 70 76) (Some (Number (number 77 78)))) End)))) ∷ []) 124 66 ∷
    -- int x; int *p; int *q; char *c; int a[3]; int main(void) { -x = 2; return 0; }
    row (codes "int x; int *p; int *q; char *c; int a[3]; int main(void) { -x = 2; return 0; }") ((Variables (int 0 3) ((declared (name 4 5) [] None) ∷ [])) ∷ (Variables (int 7 10) ((declared (name 12 13) (PointerTo ∷ []) None) ∷ [])) ∷ (Variables (int 15 18) ((declared (name 20 21) (PointerTo ∷ []) None) ∷ [])) ∷ (Variables (char 23 27) ((declared (name 29 30) (PointerTo ∷ []) None) ∷ [])) ∷ (Variables (int 32 35) ((declared (name 36 37) ((ArrayOf (Number (number 38 39))) ∷ []) None) ∷ [])) ∷ (Function (spelled (int 42 45) 0) (name 46 50) [] (Some (Next (Evaluate (Assign (Prefix (mark w.Minus 59 60) (Name (name 60 61))) (mark w.Assign 62 63) (Number (number 64 65)))) (Next (Return (word w.Return 67 73) (Some (Number (number 74 75)))) End)))) ∷ []) 124 63 ∷
    -- int f(void) { return 0; } int x; int *p; int *q; char *c; int a[3]; int main(void) { f() = 1; return 0; }
    row (codes "int f(void) { return 0; } int x; int *p; int *q; char *c; int a[3]; int main(void) { f() = 1; return 0; }") ((Function (spelled (int 0 3) 0) (name 4 5) [] (Some (Next (Return (word w.Return 14 20) (Some (Number (number 21 22)))) End))) ∷ (Variables (int 26 29) ((declared (name 30 31) [] None) ∷ [])) ∷ (Variables (int 33 36) ((declared (name 38 39) (PointerTo ∷ []) None) ∷ [])) ∷ (Variables (int 41 44) ((declared (name 46 47) (PointerTo ∷ []) None) ∷ [])) ∷ (Variables (char 49 53) ((declared (name 55 56) (PointerTo ∷ []) None) ∷ [])) ∷ (Variables (int 58 61) ((declared (name 62 63) ((ArrayOf (Number (number 64 65))) ∷ []) None) ∷ [])) ∷ (Function (spelled (int 68 71) 0) (name 72 76) [] (Some (Next (Evaluate (Assign (Call (name 85 86) NoMore) (mark w.Assign 89 90) (Number (number 91 92)))) (Next (Return (word w.Return 94 100) (Some (Number (number 101 102)))) End)))) ∷ []) 124 90 ∷
    -- int x; int *p; int *q; char *c; int a[3]; int main(void) { 3 = p; return 0; }
    row (codes "int x; int *p; int *q; char *c; int a[3]; int main(void) { 3 = p; return 0; }") ((Variables (int 0 3) ((declared (name 4 5) [] None) ∷ [])) ∷ (Variables (int 7 10) ((declared (name 12 13) (PointerTo ∷ []) None) ∷ [])) ∷ (Variables (int 15 18) ((declared (name 20 21) (PointerTo ∷ []) None) ∷ [])) ∷ (Variables (char 23 27) ((declared (name 29 30) (PointerTo ∷ []) None) ∷ [])) ∷ (Variables (int 32 35) ((declared (name 36 37) ((ArrayOf (Number (number 38 39))) ∷ []) None) ∷ [])) ∷ (Function (spelled (int 42 45) 0) (name 46 50) [] (Some (Next (Evaluate (Assign (Number (number 59 60)) (mark w.Assign 61 62) (Name (name 63 64)))) (Next (Return (word w.Return 66 72) (Some (Number (number 73 74)))) End)))) ∷ []) 124 62 ∷
    -- int x; int *p; int *q; char *c; int a[3]; int main(void) { x++; p--; ++c; --a[0]; return 0; }
    row (codes "int x; int *p; int *q; char *c; int a[3]; int main(void) { x++; p--; ++c; --a[0]; return 0; }") ((Variables (int 0 3) ((declared (name 4 5) [] None) ∷ [])) ∷ (Variables (int 7 10) ((declared (name 12 13) (PointerTo ∷ []) None) ∷ [])) ∷ (Variables (int 15 18) ((declared (name 20 21) (PointerTo ∷ []) None) ∷ [])) ∷ (Variables (char 23 27) ((declared (name 29 30) (PointerTo ∷ []) None) ∷ [])) ∷ (Variables (int 32 35) ((declared (name 36 37) ((ArrayOf (Number (number 38 39))) ∷ []) None) ∷ [])) ∷ (Function (spelled (int 42 45) 0) (name 46 50) [] (Some (Next (Evaluate (Increment (Name (name 59 60)) (mark w.Increment 60 62))) (Next (Evaluate (Decrement (Name (name 64 65)) (mark w.Decrement 65 67))) (Next (Evaluate (Prefix (mark w.Increment 69 71) (Name (name 71 72)))) (Next (Evaluate (Prefix (mark w.Decrement 74 76) (Index (Name (name 76 77)) (mark w.LeftBracket 77 78) (Number (number 78 79))))) (Next (Return (word w.Return 82 88) (Some (Number (number 89 90)))) End))))))) ∷ []) 0 0 ∷
    -- int x; int *p; int *q; char *c; int a[3]; int main(void) { a++; return 0; }
    row (codes "int x; int *p; int *q; char *c; int a[3]; int main(void) { a++; return 0; }") ((Variables (int 0 3) ((declared (name 4 5) [] None) ∷ [])) ∷ (Variables (int 7 10) ((declared (name 12 13) (PointerTo ∷ []) None) ∷ [])) ∷ (Variables (int 15 18) ((declared (name 20 21) (PointerTo ∷ []) None) ∷ [])) ∷ (Variables (char 23 27) ((declared (name 29 30) (PointerTo ∷ []) None) ∷ [])) ∷ (Variables (int 32 35) ((declared (name 36 37) ((ArrayOf (Number (number 38 39))) ∷ []) None) ∷ [])) ∷ (Function (spelled (int 42 45) 0) (name 46 50) [] (Some (Next (Evaluate (Increment (Name (name 59 60)) (mark w.Increment 60 62))) (Next (Return (word w.Return 64 70) (Some (Number (number 71 72)))) End)))) ∷ []) 124 61 ∷
    -- int x; int *p; int *q; char *c; int a[3]; int main(void) { ++1; return 0; }
    row (codes "int x; int *p; int *q; char *c; int a[3]; int main(void) { ++1; return 0; }") ((Variables (int 0 3) ((declared (name 4 5) [] None) ∷ [])) ∷ (Variables (int 7 10) ((declared (name 12 13) (PointerTo ∷ []) None) ∷ [])) ∷ (Variables (int 15 18) ((declared (name 20 21) (PointerTo ∷ []) None) ∷ [])) ∷ (Variables (char 23 27) ((declared (name 29 30) (PointerTo ∷ []) None) ∷ [])) ∷ (Variables (int 32 35) ((declared (name 36 37) ((ArrayOf (Number (number 38 39))) ∷ []) None) ∷ [])) ∷ (Function (spelled (int 42 45) 0) (name 46 50) [] (Some (Next (Evaluate (Prefix (mark w.Increment 59 61) (Number (number 61 62)))) (Next (Return (word w.Return 64 70) (Some (Number (number 71 72)))) End)))) ∷ []) 124 60 ∷
    -- int x; int *p; int *q; char *c; int a[3]; int main(void) { x++++; return 0; }
    row (codes "int x; int *p; int *q; char *c; int a[3]; int main(void) { x++++; return 0; }") ((Variables (int 0 3) ((declared (name 4 5) [] None) ∷ [])) ∷ (Variables (int 7 10) ((declared (name 12 13) (PointerTo ∷ []) None) ∷ [])) ∷ (Variables (int 15 18) ((declared (name 20 21) (PointerTo ∷ []) None) ∷ [])) ∷ (Variables (char 23 27) ((declared (name 29 30) (PointerTo ∷ []) None) ∷ [])) ∷ (Variables (int 32 35) ((declared (name 36 37) ((ArrayOf (Number (number 38 39))) ∷ []) None) ∷ [])) ∷ (Function (spelled (int 42 45) 0) (name 46 50) [] (Some (Next (Evaluate (Increment (Increment (Name (name 59 60)) (mark w.Increment 60 62)) (mark w.Increment 62 64))) (Next (Return (word w.Return 66 72) (Some (Number (number 73 74)))) End)))) ∷ []) 124 63 ∷
    -- struct s { int m; }; struct s s; struct s t; struct s *sp; int main(void) { s = 1; return 0; }
    row (codes "struct s { int m; }; struct s s; struct s t; struct s *sp; int main(void) { s = 1; return 0; }") ((Struct (name 7 8) ((members (int 11 14) ((declarator (name 15 16) []) ∷ [])) ∷ []) []) ∷ (Variables (struct 28 29) ((declared (name 30 31) [] None) ∷ [])) ∷ (Variables (struct 40 41) ((declared (name 42 43) [] None) ∷ [])) ∷ (Variables (struct 52 53) ((declared (name 55 57) (PointerTo ∷ []) None) ∷ [])) ∷ (Function (spelled (int 59 62) 0) (name 63 67) [] (Some (Next (Evaluate (Assign (Name (name 76 77)) (mark w.Assign 78 79) (Number (number 80 81)))) (Next (Return (word w.Return 83 89) (Some (Number (number 90 91)))) End)))) ∷ []) 124 79 ∷
    -- struct s { int m; }; struct s s; struct s t; struct s *sp; int main(void) { s = t; return 0; }
    row (codes "struct s { int m; }; struct s s; struct s t; struct s *sp; int main(void) { s = t; return 0; }") ((Struct (name 7 8) ((members (int 11 14) ((declarator (name 15 16) []) ∷ [])) ∷ []) []) ∷ (Variables (struct 28 29) ((declared (name 30 31) [] None) ∷ [])) ∷ (Variables (struct 40 41) ((declared (name 42 43) [] None) ∷ [])) ∷ (Variables (struct 52 53) ((declared (name 55 57) (PointerTo ∷ []) None) ∷ [])) ∷ (Function (spelled (int 59 62) 0) (name 63 67) [] (Some (Next (Evaluate (Assign (Name (name 76 77)) (mark w.Assign 78 79) (Name (name 80 81)))) (Next (Return (word w.Return 83 89) (Some (Number (number 90 91)))) End)))) ∷ []) 129 81 ∷
    -- struct s { int m; }; struct s s; struct s t; struct s *sp; int main(void) { s++; return 0; }
    row (codes "struct s { int m; }; struct s s; struct s t; struct s *sp; int main(void) { s++; return 0; }") ((Struct (name 7 8) ((members (int 11 14) ((declarator (name 15 16) []) ∷ [])) ∷ []) []) ∷ (Variables (struct 28 29) ((declared (name 30 31) [] None) ∷ [])) ∷ (Variables (struct 40 41) ((declared (name 42 43) [] None) ∷ [])) ∷ (Variables (struct 52 53) ((declared (name 55 57) (PointerTo ∷ []) None) ∷ [])) ∷ (Function (spelled (int 59 62) 0) (name 63 67) [] (Some (Next (Evaluate (Increment (Name (name 76 77)) (mark w.Increment 77 79))) (Next (Return (word w.Return 81 87) (Some (Number (number 88 89)))) End)))) ∷ []) 124 78 ∷
    -- int y; int x; int *p; int *q; char *c; int a[3]; int main(void) { x = y = 1; return 0; }
    row (codes "int y; int x; int *p; int *q; char *c; int a[3]; int main(void) { x = y = 1; return 0; }") ((Variables (int 0 3) ((declared (name 4 5) [] None) ∷ [])) ∷ (Variables (int 7 10) ((declared (name 11 12) [] None) ∷ [])) ∷ (Variables (int 14 17) ((declared (name 19 20) (PointerTo ∷ []) None) ∷ [])) ∷ (Variables (int 22 25) ((declared (name 27 28) (PointerTo ∷ []) None) ∷ [])) ∷ (Variables (char 30 34) ((declared (name 36 37) (PointerTo ∷ []) None) ∷ [])) ∷ (Variables (int 39 42) ((declared (name 43 44) ((ArrayOf (Number (number 45 46))) ∷ []) None) ∷ [])) ∷ (Function (spelled (int 49 52) 0) (name 53 57) [] (Some (Next (Evaluate (Assign (Name (name 66 67)) (mark w.Assign 68 69) (Assign (Name (name 70 71)) (mark w.Assign 72 73) (Number (number 74 75))))) (Next (Return (word w.Return 77 83) (Some (Number (number 84 85)))) End)))) ∷ []) 0 0 ∷
    -- int x; int *p; int *q; char *c; int a[3]; int main(void) { x = 1 = 2; return 0; }
    row (codes "int x; int *p; int *q; char *c; int a[3]; int main(void) { x = 1 = 2; return 0; }") ((Variables (int 0 3) ((declared (name 4 5) [] None) ∷ [])) ∷ (Variables (int 7 10) ((declared (name 12 13) (PointerTo ∷ []) None) ∷ [])) ∷ (Variables (int 15 18) ((declared (name 20 21) (PointerTo ∷ []) None) ∷ [])) ∷ (Variables (char 23 27) ((declared (name 29 30) (PointerTo ∷ []) None) ∷ [])) ∷ (Variables (int 32 35) ((declared (name 36 37) ((ArrayOf (Number (number 38 39))) ∷ []) None) ∷ [])) ∷ (Function (spelled (int 42 45) 0) (name 46 50) [] (Some (Next (Evaluate (Assign (Name (name 59 60)) (mark w.Assign 61 62) (Assign (Number (number 63 64)) (mark w.Assign 65 66) (Number (number 67 68))))) (Next (Return (word w.Return 70 76) (Some (Number (number 77 78)))) End)))) ∷ []) 124 66 ∷
    -- const int z = 3; int x; int *p; int *q; char *c; int a[3]; int main(void) { z = 1; return 0; }
    row (codes "const int z = 3; int x; int *p; int *q; char *c; int a[3]; int main(void) { z = 1; return 0; }") ((Variables (int 6 9) ((declared (name 10 11) [] (Some (Value (Number (number 14 15))))) ∷ [])) ∷ (Variables (int 17 20) ((declared (name 21 22) [] None) ∷ [])) ∷ (Variables (int 24 27) ((declared (name 29 30) (PointerTo ∷ []) None) ∷ [])) ∷ (Variables (int 32 35) ((declared (name 37 38) (PointerTo ∷ []) None) ∷ [])) ∷ (Variables (char 40 44) ((declared (name 46 47) (PointerTo ∷ []) None) ∷ [])) ∷ (Variables (int 49 52) ((declared (name 53 54) ((ArrayOf (Number (number 55 56))) ∷ []) None) ∷ [])) ∷ (Function (spelled (int 59 62) 0) (name 63 67) [] (Some (Next (Evaluate (Assign (Name (name 76 77)) (mark w.Assign 78 79) (Number (number 80 81)))) (Next (Return (word w.Return 83 89) (Some (Number (number 90 91)))) End)))) ∷ []) 0 0 ∷ []

pub targets : outcomes targets_rows ≡ refusals targets_rows
unfolding checked_rules.kept checked_rules.unless checked_rules.none_of environment_rules.found_in environment_rules.found environment_rules.specified environment_rules.with_stars environment_rules.spelled_type nodes_rules.first_place judgements_rules.shape judgements_rules.on_pointers judgements_rules.arithmetic judgements_rules.relation judgements_rules.operation judgements_rules.conversion judgements_rules.selection judgements_rules.cast_conversion judgements_rules.compound_operation operands_rules.loaded operands_rules.value operands_rules.condition operands_rules.brought operands_rules.fitted operators_rules.unit operators_rules.computed operators_rules.combined operators_rules.selected operators_rules.choice_of operators_rules.cast_by operators_rules.cast operators_rules.promoting operators_rules.negation operators_rules.address operators_rules.dereferenced assignments_rules.assigned assignments_rules.updated assignments_rules.compound assignments_rules.stepped subobjects_rules.base_of subobjects_rules.indexed subobjects_rules.dot subobjects_rules.arrow allocation_rules.objects allocation_rules.product allocation_rules.allocated allocation_rules.freed expressions_rules.full expressions_rules.operand expressions_rules.arguments expressions_rules.only_value expressions_rules.only_request expressions_rules.requested expressions_rules.measured constant_expressions_rules.is_constant constant_expressions_rules.value_of constant_expressions_rules.constant constant_expressions_rules.size_of_array constant_expressions_rules.part_of constant_expressions_rules.is_literal constant_expressions_rules.has_literal_indices constant_expressions_rules.initial_value declarations_rules.size declarations_rules.layers declarations_rules.layered declarations_rules.element_number declarations_rules.is_complete declarations_rules.is_within_limit initialisers_rules.parts initialisers_rules.zeros initialisers_rules.alone initialisers_rules.all_alone initialisers_rules.cells initialisers_rules.elements statements_rules.in_scope statements_rules.init_statements statements_rules.declare_one statements_rules.declare_all statements_rules.declare statements_rules.statement statements_rules.statements weights_rules.declared_weight weights_rules.item_weight weights_rules.initialiser_nodes weights_rules.elements_nodes weights_rules.continues weights_rules.all_continues weights_rules.statement_weight weights_rules.statements_weight file_scope_rules.file_scope file_scope_rules.variable file_scope_rules.variables structs_rules.member structs_rules.member_list structs_rules.all_members structs_rules.structure functions_rules.parameter functions_rules.parameters functions_rules.declarable_function functions_rules.replaced functions_rules.defined_as functions_rules.function programs_rules.item programs_rules.items programs_rules.whole programs_rules.elaborated programs_rules.elaboration number_rules.radix_of number_rules.value_of number_rules.number_value number_rules.constant_of number_rules.constant_with number_rules.first_holding number_rules.constant_types number_rules.number_of number_rules.suffix_of lexeme_rules.character_value type_rows.shape-the_row-CType-0 type_rows.hidden-the_row-CType-0 expression_rows.shape-the_row-Expr-0 expression_rows.hidden-the_row-Expr-0 expression_rows.shape-the_row-Expr-1 expression_rows.hidden-the_row-Expr-1 expression_rows.shape-the_row-Place_-2 expression_rows.hidden-the_row-Place_-2 statement_rows.shape-the_row-Stmt-0 statement_rows.hidden-the_row-Stmt-0 statement_rows.shape-the_row-Stmt-1 statement_rows.hidden-the_row-Stmt-1 hidden
targets = refl

-- compound assignment takes the operands of its operator
abbrev compounds_rows : List Row
compounds_rows =
    -- int x; int *p; int *q; char *c; int a[3]; int main(void) { x += 1; x <<= 2; x %= 3; p += 2; p -= x; x -= *p; return 0; }
    row (codes "int x; int *p; int *q; char *c; int a[3]; int main(void) { x += 1; x <<= 2; x %= 3; p += 2; p -= x; x -= *p; return 0; }") ((Variables (int 0 3) ((declared (name 4 5) [] None) ∷ [])) ∷ (Variables (int 7 10) ((declared (name 12 13) (PointerTo ∷ []) None) ∷ [])) ∷ (Variables (int 15 18) ((declared (name 20 21) (PointerTo ∷ []) None) ∷ [])) ∷ (Variables (char 23 27) ((declared (name 29 30) (PointerTo ∷ []) None) ∷ [])) ∷ (Variables (int 32 35) ((declared (name 36 37) ((ArrayOf (Number (number 38 39))) ∷ []) None) ∷ [])) ∷ (Function (spelled (int 42 45) 0) (name 46 50) [] (Some (Next (Evaluate (Assign (Name (name 59 60)) (mark w.PlusAssign 61 63) (Number (number 64 65)))) (Next (Evaluate (Assign (Name (name 67 68)) (mark w.ShiftLeftAssign 69 72) (Number (number 73 74)))) (Next (Evaluate (Assign (Name (name 76 77)) (mark w.PercentAssign 78 80) (Number (number 81 82)))) (Next (Evaluate (Assign (Name (name 84 85)) (mark w.PlusAssign 86 88) (Number (number 89 90)))) (Next (Evaluate (Assign (Name (name 92 93)) (mark w.MinusAssign 94 96) (Name (name 97 98)))) (Next (Evaluate (Assign (Name (name 100 101)) (mark w.MinusAssign 102 104) (Prefix (mark w.Star 105 106) (Name (name 106 107))))) (Next (Return (word w.Return 109 115) (Some (Number (number 116 117)))) End))))))))) ∷ []) 0 0 ∷
    -- int x; int *p; int *q; char *c; int a[3]; int main(void) { p *= 2; return 0; }
    row (codes "int x; int *p; int *q; char *c; int a[3]; int main(void) { p *= 2; return 0; }") ((Variables (int 0 3) ((declared (name 4 5) [] None) ∷ [])) ∷ (Variables (int 7 10) ((declared (name 12 13) (PointerTo ∷ []) None) ∷ [])) ∷ (Variables (int 15 18) ((declared (name 20 21) (PointerTo ∷ []) None) ∷ [])) ∷ (Variables (char 23 27) ((declared (name 29 30) (PointerTo ∷ []) None) ∷ [])) ∷ (Variables (int 32 35) ((declared (name 36 37) ((ArrayOf (Number (number 38 39))) ∷ []) None) ∷ [])) ∷ (Function (spelled (int 42 45) 0) (name 46 50) [] (Some (Next (Evaluate (Assign (Name (name 59 60)) (mark w.StarAssign 61 63) (Number (number 64 65)))) (Next (Return (word w.Return 67 73) (Some (Number (number 74 75)))) End)))) ∷ []) 123 62 ∷
    -- int x; int *p; int *q; char *c; int a[3]; int main(void) { p += q; return 0; }
    row (codes "int x; int *p; int *q; char *c; int a[3]; int main(void) { p += q; return 0; }") ((Variables (int 0 3) ((declared (name 4 5) [] None) ∷ [])) ∷ (Variables (int 7 10) ((declared (name 12 13) (PointerTo ∷ []) None) ∷ [])) ∷ (Variables (int 15 18) ((declared (name 20 21) (PointerTo ∷ []) None) ∷ [])) ∷ (Variables (char 23 27) ((declared (name 29 30) (PointerTo ∷ []) None) ∷ [])) ∷ (Variables (int 32 35) ((declared (name 36 37) ((ArrayOf (Number (number 38 39))) ∷ []) None) ∷ [])) ∷ (Function (spelled (int 42 45) 0) (name 46 50) [] (Some (Next (Evaluate (Assign (Name (name 59 60)) (mark w.PlusAssign 61 63) (Name (name 64 65)))) (Next (Return (word w.Return 67 73) (Some (Number (number 74 75)))) End)))) ∷ []) 123 62 ∷
    -- int x; int *p; int *q; char *c; int a[3]; int main(void) { x += p; return 0; }
    row (codes "int x; int *p; int *q; char *c; int a[3]; int main(void) { x += p; return 0; }") ((Variables (int 0 3) ((declared (name 4 5) [] None) ∷ [])) ∷ (Variables (int 7 10) ((declared (name 12 13) (PointerTo ∷ []) None) ∷ [])) ∷ (Variables (int 15 18) ((declared (name 20 21) (PointerTo ∷ []) None) ∷ [])) ∷ (Variables (char 23 27) ((declared (name 29 30) (PointerTo ∷ []) None) ∷ [])) ∷ (Variables (int 32 35) ((declared (name 36 37) ((ArrayOf (Number (number 38 39))) ∷ []) None) ∷ [])) ∷ (Function (spelled (int 42 45) 0) (name 46 50) [] (Some (Next (Evaluate (Assign (Name (name 59 60)) (mark w.PlusAssign 61 63) (Name (name 64 65)))) (Next (Return (word w.Return 67 73) (Some (Number (number 74 75)))) End)))) ∷ []) 123 62 ∷
    -- int x; int *p; int *q; char *c; int a[3]; int main(void) { p -= q; return 0; }
    row (codes "int x; int *p; int *q; char *c; int a[3]; int main(void) { p -= q; return 0; }") ((Variables (int 0 3) ((declared (name 4 5) [] None) ∷ [])) ∷ (Variables (int 7 10) ((declared (name 12 13) (PointerTo ∷ []) None) ∷ [])) ∷ (Variables (int 15 18) ((declared (name 20 21) (PointerTo ∷ []) None) ∷ [])) ∷ (Variables (char 23 27) ((declared (name 29 30) (PointerTo ∷ []) None) ∷ [])) ∷ (Variables (int 32 35) ((declared (name 36 37) ((ArrayOf (Number (number 38 39))) ∷ []) None) ∷ [])) ∷ (Function (spelled (int 42 45) 0) (name 46 50) [] (Some (Next (Evaluate (Assign (Name (name 59 60)) (mark w.MinusAssign 61 63) (Name (name 64 65)))) (Next (Return (word w.Return 67 73) (Some (Number (number 74 75)))) End)))) ∷ []) 123 62 ∷
    -- struct s { int m; }; struct s s; struct s t; struct s *sp; int main(void) { s += 1; return 0; }
    row (codes "struct s { int m; }; struct s s; struct s t; struct s *sp; int main(void) { s += 1; return 0; }") ((Struct (name 7 8) ((members (int 11 14) ((declarator (name 15 16) []) ∷ [])) ∷ []) []) ∷ (Variables (struct 28 29) ((declared (name 30 31) [] None) ∷ [])) ∷ (Variables (struct 40 41) ((declared (name 42 43) [] None) ∷ [])) ∷ (Variables (struct 52 53) ((declared (name 55 57) (PointerTo ∷ []) None) ∷ [])) ∷ (Function (spelled (int 59 62) 0) (name 63 67) [] (Some (Next (Evaluate (Assign (Name (name 76 77)) (mark w.PlusAssign 78 80) (Number (number 81 82)))) (Next (Return (word w.Return 84 90) (Some (Number (number 91 92)))) End)))) ∷ []) 123 79 ∷
    -- int x; int *p; int *q; char *c; int a[3]; int main(void) { 3 *= p; return 0; }
    row (codes "int x; int *p; int *q; char *c; int a[3]; int main(void) { 3 *= p; return 0; }") ((Variables (int 0 3) ((declared (name 4 5) [] None) ∷ [])) ∷ (Variables (int 7 10) ((declared (name 12 13) (PointerTo ∷ []) None) ∷ [])) ∷ (Variables (int 15 18) ((declared (name 20 21) (PointerTo ∷ []) None) ∷ [])) ∷ (Variables (char 23 27) ((declared (name 29 30) (PointerTo ∷ []) None) ∷ [])) ∷ (Variables (int 32 35) ((declared (name 36 37) ((ArrayOf (Number (number 38 39))) ∷ []) None) ∷ [])) ∷ (Function (spelled (int 42 45) 0) (name 46 50) [] (Some (Next (Evaluate (Assign (Number (number 59 60)) (mark w.StarAssign 61 63) (Name (name 64 65)))) (Next (Return (word w.Return 67 73) (Some (Number (number 74 75)))) End)))) ∷ []) 123 62 ∷
    -- int x; int *p; int *q; char *c; int a[3]; int main(void) { 3 += 1; return 0; }
    row (codes "int x; int *p; int *q; char *c; int a[3]; int main(void) { 3 += 1; return 0; }") ((Variables (int 0 3) ((declared (name 4 5) [] None) ∷ [])) ∷ (Variables (int 7 10) ((declared (name 12 13) (PointerTo ∷ []) None) ∷ [])) ∷ (Variables (int 15 18) ((declared (name 20 21) (PointerTo ∷ []) None) ∷ [])) ∷ (Variables (char 23 27) ((declared (name 29 30) (PointerTo ∷ []) None) ∷ [])) ∷ (Variables (int 32 35) ((declared (name 36 37) ((ArrayOf (Number (number 38 39))) ∷ []) None) ∷ [])) ∷ (Function (spelled (int 42 45) 0) (name 46 50) [] (Some (Next (Evaluate (Assign (Number (number 59 60)) (mark w.PlusAssign 61 63) (Number (number 64 65)))) (Next (Return (word w.Return 67 73) (Some (Number (number 74 75)))) End)))) ∷ []) 124 62 ∷
    -- int x; int *p; int *q; char *c; int a[3]; int main(void) { a += 1; return 0; }
    row (codes "int x; int *p; int *q; char *c; int a[3]; int main(void) { a += 1; return 0; }") ((Variables (int 0 3) ((declared (name 4 5) [] None) ∷ [])) ∷ (Variables (int 7 10) ((declared (name 12 13) (PointerTo ∷ []) None) ∷ [])) ∷ (Variables (int 15 18) ((declared (name 20 21) (PointerTo ∷ []) None) ∷ [])) ∷ (Variables (char 23 27) ((declared (name 29 30) (PointerTo ∷ []) None) ∷ [])) ∷ (Variables (int 32 35) ((declared (name 36 37) ((ArrayOf (Number (number 38 39))) ∷ []) None) ∷ [])) ∷ (Function (spelled (int 42 45) 0) (name 46 50) [] (Some (Next (Evaluate (Assign (Name (name 59 60)) (mark w.PlusAssign 61 63) (Number (number 64 65)))) (Next (Return (word w.Return 67 73) (Some (Number (number 74 75)))) End)))) ∷ []) 124 62 ∷
    -- int x; struct s { int m; }; struct s s; struct s t; struct s *sp; int main(void) { x += s; return 0; }
    row (codes "int x; struct s { int m; }; struct s s; struct s t; struct s *sp; int main(void) { x += s; return 0; }") ((Variables (int 0 3) ((declared (name 4 5) [] None) ∷ [])) ∷ (Struct (name 14 15) ((members (int 18 21) ((declarator (name 22 23) []) ∷ [])) ∷ []) []) ∷ (Variables (struct 35 36) ((declared (name 37 38) [] None) ∷ [])) ∷ (Variables (struct 47 48) ((declared (name 49 50) [] None) ∷ [])) ∷ (Variables (struct 59 60) ((declared (name 62 64) (PointerTo ∷ []) None) ∷ [])) ∷ (Function (spelled (int 66 69) 0) (name 70 74) [] (Some (Next (Evaluate (Assign (Name (name 83 84)) (mark w.PlusAssign 85 87) (Name (name 88 89)))) (Next (Return (word w.Return 91 97) (Some (Number (number 98 99)))) End)))) ∷ []) 129 89 ∷ []

pub compounds : outcomes compounds_rows ≡ refusals compounds_rows
unfolding checked_rules.kept checked_rules.unless checked_rules.none_of environment_rules.found_in environment_rules.found environment_rules.specified environment_rules.with_stars environment_rules.spelled_type nodes_rules.first_place judgements_rules.shape judgements_rules.on_pointers judgements_rules.arithmetic judgements_rules.relation judgements_rules.operation judgements_rules.conversion judgements_rules.selection judgements_rules.cast_conversion judgements_rules.compound_operation operands_rules.loaded operands_rules.value operands_rules.condition operands_rules.brought operands_rules.fitted operators_rules.unit operators_rules.computed operators_rules.combined operators_rules.selected operators_rules.choice_of operators_rules.cast_by operators_rules.cast operators_rules.promoting operators_rules.negation operators_rules.address operators_rules.dereferenced assignments_rules.assigned assignments_rules.updated assignments_rules.compound assignments_rules.stepped subobjects_rules.base_of subobjects_rules.indexed subobjects_rules.dot subobjects_rules.arrow allocation_rules.objects allocation_rules.product allocation_rules.allocated allocation_rules.freed expressions_rules.full expressions_rules.operand expressions_rules.arguments expressions_rules.only_value expressions_rules.only_request expressions_rules.requested expressions_rules.measured constant_expressions_rules.is_constant constant_expressions_rules.value_of constant_expressions_rules.constant constant_expressions_rules.size_of_array constant_expressions_rules.part_of constant_expressions_rules.is_literal constant_expressions_rules.has_literal_indices constant_expressions_rules.initial_value declarations_rules.size declarations_rules.layers declarations_rules.layered declarations_rules.element_number declarations_rules.is_complete declarations_rules.is_within_limit initialisers_rules.parts initialisers_rules.zeros initialisers_rules.alone initialisers_rules.all_alone initialisers_rules.cells initialisers_rules.elements statements_rules.in_scope statements_rules.init_statements statements_rules.declare_one statements_rules.declare_all statements_rules.declare statements_rules.statement statements_rules.statements weights_rules.declared_weight weights_rules.item_weight weights_rules.initialiser_nodes weights_rules.elements_nodes weights_rules.continues weights_rules.all_continues weights_rules.statement_weight weights_rules.statements_weight file_scope_rules.file_scope file_scope_rules.variable file_scope_rules.variables structs_rules.member structs_rules.member_list structs_rules.all_members structs_rules.structure functions_rules.parameter functions_rules.parameters functions_rules.declarable_function functions_rules.replaced functions_rules.defined_as functions_rules.function programs_rules.item programs_rules.items programs_rules.whole programs_rules.elaborated programs_rules.elaboration number_rules.radix_of number_rules.value_of number_rules.number_value number_rules.constant_of number_rules.constant_with number_rules.first_holding number_rules.constant_types number_rules.number_of number_rules.suffix_of lexeme_rules.character_value type_rows.shape-the_row-CType-0 type_rows.hidden-the_row-CType-0 expression_rows.shape-the_row-Expr-0 expression_rows.hidden-the_row-Expr-0 expression_rows.shape-the_row-Expr-1 expression_rows.hidden-the_row-Expr-1 expression_rows.shape-the_row-Place_-2 expression_rows.hidden-the_row-Place_-2 statement_rows.shape-the_row-Stmt-0 statement_rows.hidden-the_row-Stmt-0 statement_rows.shape-the_row-Stmt-1 statement_rows.hidden-the_row-Stmt-1 hidden
compounds = refl

-- values are converted as if by assignment
abbrev conversions_rows : List Row
conversions_rows =
    -- int x; int *p; int *q; char *c; int a[3]; int main(void) { x = c[0]; c[0] = x; p = 0; p = (void *) 0; p = (0); p = a; return 0; }
    row (codes "int x; int *p; int *q; char *c; int a[3]; int main(void) { x = c[0]; c[0] = x; p = 0; p = (void *) 0; p = (0); p = a; return 0; }") ((Variables (int 0 3) ((declared (name 4 5) [] None) ∷ [])) ∷ (Variables (int 7 10) ((declared (name 12 13) (PointerTo ∷ []) None) ∷ [])) ∷ (Variables (int 15 18) ((declared (name 20 21) (PointerTo ∷ []) None) ∷ [])) ∷ (Variables (char 23 27) ((declared (name 29 30) (PointerTo ∷ []) None) ∷ [])) ∷ (Variables (int 32 35) ((declared (name 36 37) ((ArrayOf (Number (number 38 39))) ∷ []) None) ∷ [])) ∷ (Function (spelled (int 42 45) 0) (name 46 50) [] (Some (Next (Evaluate (Assign (Name (name 59 60)) (mark w.Assign 61 62) (Index (Name (name 63 64)) (mark w.LeftBracket 64 65) (Number (number 65 66))))) (Next (Evaluate (Assign (Index (Name (name 69 70)) (mark w.LeftBracket 70 71) (Number (number 71 72))) (mark w.Assign 74 75) (Name (name 76 77)))) (Next (Evaluate (Assign (Name (name 79 80)) (mark w.Assign 81 82) (Number (number 83 84)))) (Next (Evaluate (Assign (Name (name 86 87)) (mark w.Assign 88 89) (Cast (mark w.LeftParen 90 91) (spelled (void 91 95) 1) (Number (number 99 100))))) (Next (Evaluate (Assign (Name (name 102 103)) (mark w.Assign 104 105) (Paren (mark w.LeftParen 106 107) (Number (number 107 108))))) (Next (Evaluate (Assign (Name (name 111 112)) (mark w.Assign 113 114) (Name (name 115 116)))) (Next (Return (word w.Return 118 124) (Some (Number (number 125 126)))) End))))))))) ∷ []) 0 0 ∷
    -- int x; int *p; int *q; char *c; int a[3]; int main(void) { p = 1; return 0; }
    row (codes "int x; int *p; int *q; char *c; int a[3]; int main(void) { p = 1; return 0; }") ((Variables (int 0 3) ((declared (name 4 5) [] None) ∷ [])) ∷ (Variables (int 7 10) ((declared (name 12 13) (PointerTo ∷ []) None) ∷ [])) ∷ (Variables (int 15 18) ((declared (name 20 21) (PointerTo ∷ []) None) ∷ [])) ∷ (Variables (char 23 27) ((declared (name 29 30) (PointerTo ∷ []) None) ∷ [])) ∷ (Variables (int 32 35) ((declared (name 36 37) ((ArrayOf (Number (number 38 39))) ∷ []) None) ∷ [])) ∷ (Function (spelled (int 42 45) 0) (name 46 50) [] (Some (Next (Evaluate (Assign (Name (name 59 60)) (mark w.Assign 61 62) (Number (number 63 64)))) (Next (Return (word w.Return 66 72) (Some (Number (number 73 74)))) End)))) ∷ []) 123 62 ∷
    -- int x; int *p; int *q; char *c; int a[3]; int main(void) { p = 0L; return 0; }
    row (codes "int x; int *p; int *q; char *c; int a[3]; int main(void) { p = 0L; return 0; }") ((Variables (int 0 3) ((declared (name 4 5) [] None) ∷ [])) ∷ (Variables (int 7 10) ((declared (name 12 13) (PointerTo ∷ []) None) ∷ [])) ∷ (Variables (int 15 18) ((declared (name 20 21) (PointerTo ∷ []) None) ∷ [])) ∷ (Variables (char 23 27) ((declared (name 29 30) (PointerTo ∷ []) None) ∷ [])) ∷ (Variables (int 32 35) ((declared (name 36 37) ((ArrayOf (Number (number 38 39))) ∷ []) None) ∷ [])) ∷ (Function (spelled (int 42 45) 0) (name 46 50) [] (Some (Next (Evaluate (Assign (Name (name 59 60)) (mark w.Assign 61 62) (Number (suffixed suffix.L 63 65)))) (Next (Return (word w.Return 67 73) (Some (Number (number 74 75)))) End)))) ∷ []) 123 62 ∷
    -- int x; int *p; int *q; char *c; int a[3]; int main(void) { p = 00; return 0; }
    row (codes "int x; int *p; int *q; char *c; int a[3]; int main(void) { p = 00; return 0; }") ((Variables (int 0 3) ((declared (name 4 5) [] None) ∷ [])) ∷ (Variables (int 7 10) ((declared (name 12 13) (PointerTo ∷ []) None) ∷ [])) ∷ (Variables (int 15 18) ((declared (name 20 21) (PointerTo ∷ []) None) ∷ [])) ∷ (Variables (char 23 27) ((declared (name 29 30) (PointerTo ∷ []) None) ∷ [])) ∷ (Variables (int 32 35) ((declared (name 36 37) ((ArrayOf (Number (number 38 39))) ∷ []) None) ∷ [])) ∷ (Function (spelled (int 42 45) 0) (name 46 50) [] (Some (Next (Evaluate (Assign (Name (name 59 60)) (mark w.Assign 61 62) (Number (number 63 65)))) (Next (Return (word w.Return 67 73) (Some (Number (number 74 75)))) End)))) ∷ []) 123 62 ∷
    -- int x; int *p; int *q; char *c; int a[3]; int main(void) { p = '\0'; return 0; }
    row (codes "int x; int *p; int *q; char *c; int a[3]; int main(void) { p = '\\0'; return 0; }") ((Variables (int 0 3) ((declared (name 4 5) [] None) ∷ [])) ∷ (Variables (int 7 10) ((declared (name 12 13) (PointerTo ∷ []) None) ∷ [])) ∷ (Variables (int 15 18) ((declared (name 20 21) (PointerTo ∷ []) None) ∷ [])) ∷ (Variables (char 23 27) ((declared (name 29 30) (PointerTo ∷ []) None) ∷ [])) ∷ (Variables (int 32 35) ((declared (name 36 37) ((ArrayOf (Number (number 38 39))) ∷ []) None) ∷ [])) ∷ (Function (spelled (int 42 45) 0) (name 46 50) [] (Some (Next (Evaluate (Assign (Name (name 59 60)) (mark w.Assign 61 62) (Character (character 63 67)))) (Next (Return (word w.Return 69 75) (Some (Number (number 76 77)))) End)))) ∷ []) 123 62 ∷
    -- int x; int *p; int *q; char *c; int a[3]; int main(void) { p = 1 - 1; return 0; }
    row (codes "int x; int *p; int *q; char *c; int a[3]; int main(void) { p = 1 - 1; return 0; }") ((Variables (int 0 3) ((declared (name 4 5) [] None) ∷ [])) ∷ (Variables (int 7 10) ((declared (name 12 13) (PointerTo ∷ []) None) ∷ [])) ∷ (Variables (int 15 18) ((declared (name 20 21) (PointerTo ∷ []) None) ∷ [])) ∷ (Variables (char 23 27) ((declared (name 29 30) (PointerTo ∷ []) None) ∷ [])) ∷ (Variables (int 32 35) ((declared (name 36 37) ((ArrayOf (Number (number 38 39))) ∷ []) None) ∷ [])) ∷ (Function (spelled (int 42 45) 0) (name 46 50) [] (Some (Next (Evaluate (Assign (Name (name 59 60)) (mark w.Assign 61 62) (Binary (Number (number 63 64)) (mark w.Minus 65 66) (Number (number 67 68))))) (Next (Return (word w.Return 70 76) (Some (Number (number 77 78)))) End)))) ∷ []) 123 62 ∷
    -- int x; int *p; int *q; char *c; int a[3]; int main(void) { x = p; return 0; }
    row (codes "int x; int *p; int *q; char *c; int a[3]; int main(void) { x = p; return 0; }") ((Variables (int 0 3) ((declared (name 4 5) [] None) ∷ [])) ∷ (Variables (int 7 10) ((declared (name 12 13) (PointerTo ∷ []) None) ∷ [])) ∷ (Variables (int 15 18) ((declared (name 20 21) (PointerTo ∷ []) None) ∷ [])) ∷ (Variables (char 23 27) ((declared (name 29 30) (PointerTo ∷ []) None) ∷ [])) ∷ (Variables (int 32 35) ((declared (name 36 37) ((ArrayOf (Number (number 38 39))) ∷ []) None) ∷ [])) ∷ (Function (spelled (int 42 45) 0) (name 46 50) [] (Some (Next (Evaluate (Assign (Name (name 59 60)) (mark w.Assign 61 62) (Name (name 63 64)))) (Next (Return (word w.Return 66 72) (Some (Number (number 73 74)))) End)))) ∷ []) 123 62 ∷
    -- int x; int *p; int *q; char *c; int a[3]; int main(void) { p = c; return 0; }
    row (codes "int x; int *p; int *q; char *c; int a[3]; int main(void) { p = c; return 0; }") ((Variables (int 0 3) ((declared (name 4 5) [] None) ∷ [])) ∷ (Variables (int 7 10) ((declared (name 12 13) (PointerTo ∷ []) None) ∷ [])) ∷ (Variables (int 15 18) ((declared (name 20 21) (PointerTo ∷ []) None) ∷ [])) ∷ (Variables (char 23 27) ((declared (name 29 30) (PointerTo ∷ []) None) ∷ [])) ∷ (Variables (int 32 35) ((declared (name 36 37) ((ArrayOf (Number (number 38 39))) ∷ []) None) ∷ [])) ∷ (Function (spelled (int 42 45) 0) (name 46 50) [] (Some (Next (Evaluate (Assign (Name (name 59 60)) (mark w.Assign 61 62) (Name (name 63 64)))) (Next (Return (word w.Return 66 72) (Some (Number (number 73 74)))) End)))) ∷ []) 123 62 ∷
    -- void f(void) { } int x; int *p; int *q; char *c; int a[3]; int main(void) { x = f(); return 0; }
    row (codes "void f(void) { } int x; int *p; int *q; char *c; int a[3]; int main(void) { x = f(); return 0; }") ((Function (spelled (void 0 4) 0) (name 5 6) [] (Some End)) ∷ (Variables (int 17 20) ((declared (name 21 22) [] None) ∷ [])) ∷ (Variables (int 24 27) ((declared (name 29 30) (PointerTo ∷ []) None) ∷ [])) ∷ (Variables (int 32 35) ((declared (name 37 38) (PointerTo ∷ []) None) ∷ [])) ∷ (Variables (char 40 44) ((declared (name 46 47) (PointerTo ∷ []) None) ∷ [])) ∷ (Variables (int 49 52) ((declared (name 53 54) ((ArrayOf (Number (number 55 56))) ∷ []) None) ∷ [])) ∷ (Function (spelled (int 59 62) 0) (name 63 67) [] (Some (Next (Evaluate (Assign (Name (name 76 77)) (mark w.Assign 78 79) (Call (name 80 81) NoMore))) (Next (Return (word w.Return 85 91) (Some (Number (number 92 93)))) End)))) ∷ []) 123 79 ∷
    -- int f(int b) { return b; } int x; int *p; int *q; char *c; int a[3]; int main(void) { f(p); return 0; }
    row (codes "int f(int b) { return b; } int x; int *p; int *q; char *c; int a[3]; int main(void) { f(p); return 0; }") ((Function (spelled (int 0 3) 0) (name 4 5) ((parameter (int 6 9) (Some (name 10 11)) (word w.Int 6 9) []) ∷ []) (Some (Next (Return (word w.Return 15 21) (Some (Name (name 22 23)))) End))) ∷ (Variables (int 27 30) ((declared (name 31 32) [] None) ∷ [])) ∷ (Variables (int 34 37) ((declared (name 39 40) (PointerTo ∷ []) None) ∷ [])) ∷ (Variables (int 42 45) ((declared (name 47 48) (PointerTo ∷ []) None) ∷ [])) ∷ (Variables (char 50 54) ((declared (name 56 57) (PointerTo ∷ []) None) ∷ [])) ∷ (Variables (int 59 62) ((declared (name 63 64) ((ArrayOf (Number (number 65 66))) ∷ []) None) ∷ [])) ∷ (Function (spelled (int 69 72) 0) (name 73 77) [] (Some (Next (Evaluate (Call (name 86 87) (Then (Name (name 88 89)) NoMore))) (Next (Return (word w.Return 92 98) (Some (Number (number 99 100)))) End)))) ∷ []) 123 89 ∷
    -- int f(int b, char *d) { return b; } int x; int *p; int *q; char *c; int a[3]; int main(void) { f(1, p); return 0; }
    row (codes "int f(int b, char *d) { return b; } int x; int *p; int *q; char *c; int a[3]; int main(void) { f(1, p); return 0; }") ((Function (spelled (int 0 3) 0) (name 4 5) ((parameter (int 6 9) (Some (name 10 11)) (word w.Int 6 9) []) ∷ (parameter (char 13 17) (Some (name 19 20)) (word w.Char 13 17) (PointerTo ∷ [])) ∷ []) (Some (Next (Return (word w.Return 24 30) (Some (Name (name 31 32)))) End))) ∷ (Variables (int 36 39) ((declared (name 40 41) [] None) ∷ [])) ∷ (Variables (int 43 46) ((declared (name 48 49) (PointerTo ∷ []) None) ∷ [])) ∷ (Variables (int 51 54) ((declared (name 56 57) (PointerTo ∷ []) None) ∷ [])) ∷ (Variables (char 59 63) ((declared (name 65 66) (PointerTo ∷ []) None) ∷ [])) ∷ (Variables (int 68 71) ((declared (name 72 73) ((ArrayOf (Number (number 74 75))) ∷ []) None) ∷ [])) ∷ (Function (spelled (int 78 81) 0) (name 82 86) [] (Some (Next (Evaluate (Call (name 95 96) (Then (Number (number 97 98)) (Then (Name (name 100 101)) NoMore)))) (Next (Return (word w.Return 104 110) (Some (Number (number 111 112)))) End)))) ∷ []) 123 101 ∷
    -- int f(int *b) { return 0; } int x; int *p; int *q; char *c; int a[3]; int main(void) { f(0); f(p); f((void *) 0); f(a); return 0; }
    row (codes "int f(int *b) { return 0; } int x; int *p; int *q; char *c; int a[3]; int main(void) { f(0); f(p); f((void *) 0); f(a); return 0; }") ((Function (spelled (int 0 3) 0) (name 4 5) ((parameter (int 6 9) (Some (name 11 12)) (word w.Int 6 9) (PointerTo ∷ [])) ∷ []) (Some (Next (Return (word w.Return 16 22) (Some (Number (number 23 24)))) End))) ∷ (Variables (int 28 31) ((declared (name 32 33) [] None) ∷ [])) ∷ (Variables (int 35 38) ((declared (name 40 41) (PointerTo ∷ []) None) ∷ [])) ∷ (Variables (int 43 46) ((declared (name 48 49) (PointerTo ∷ []) None) ∷ [])) ∷ (Variables (char 51 55) ((declared (name 57 58) (PointerTo ∷ []) None) ∷ [])) ∷ (Variables (int 60 63) ((declared (name 64 65) ((ArrayOf (Number (number 66 67))) ∷ []) None) ∷ [])) ∷ (Function (spelled (int 70 73) 0) (name 74 78) [] (Some (Next (Evaluate (Call (name 87 88) (Then (Number (number 89 90)) NoMore))) (Next (Evaluate (Call (name 93 94) (Then (Name (name 95 96)) NoMore))) (Next (Evaluate (Call (name 99 100) (Then (Cast (mark w.LeftParen 101 102) (spelled (void 102 106) 1) (Number (number 110 111))) NoMore))) (Next (Evaluate (Call (name 114 115) (Then (Name (name 116 117)) NoMore))) (Next (Return (word w.Return 120 126) (Some (Number (number 127 128)))) End))))))) ∷ []) 0 0 ∷
    -- int x; int *p; int *q; char *c; int a[3]; int main(void) { int y = p; return 0; }
    row (codes "int x; int *p; int *q; char *c; int a[3]; int main(void) { int y = p; return 0; }") ((Variables (int 0 3) ((declared (name 4 5) [] None) ∷ [])) ∷ (Variables (int 7 10) ((declared (name 12 13) (PointerTo ∷ []) None) ∷ [])) ∷ (Variables (int 15 18) ((declared (name 20 21) (PointerTo ∷ []) None) ∷ [])) ∷ (Variables (char 23 27) ((declared (name 29 30) (PointerTo ∷ []) None) ∷ [])) ∷ (Variables (int 32 35) ((declared (name 36 37) ((ArrayOf (Number (number 38 39))) ∷ []) None) ∷ [])) ∷ (Function (spelled (int 42 45) 0) (name 46 50) [] (Some (Next (Declare (local (int 59 62) ((declared (name 63 64) [] (Some (Value (Name (name 67 68))))) ∷ []))) (Next (Return (word w.Return 70 76) (Some (Number (number 77 78)))) End)))) ∷ []) 123 68 ∷
    -- int x; int *p; int *q; char *c; int a[3]; int main(void) { int *r = 0; int *t = &x; return 0; }
    row (codes "int x; int *p; int *q; char *c; int a[3]; int main(void) { int *r = 0; int *t = &x; return 0; }") ((Variables (int 0 3) ((declared (name 4 5) [] None) ∷ [])) ∷ (Variables (int 7 10) ((declared (name 12 13) (PointerTo ∷ []) None) ∷ [])) ∷ (Variables (int 15 18) ((declared (name 20 21) (PointerTo ∷ []) None) ∷ [])) ∷ (Variables (char 23 27) ((declared (name 29 30) (PointerTo ∷ []) None) ∷ [])) ∷ (Variables (int 32 35) ((declared (name 36 37) ((ArrayOf (Number (number 38 39))) ∷ []) None) ∷ [])) ∷ (Function (spelled (int 42 45) 0) (name 46 50) [] (Some (Next (Declare (local (int 59 62) ((declared (name 64 65) (PointerTo ∷ []) (Some (Value (Number (number 68 69))))) ∷ []))) (Next (Declare (local (int 71 74) ((declared (name 76 77) (PointerTo ∷ []) (Some (Value (Prefix (mark w.Ampersand 80 81) (Name (name 81 82)))))) ∷ []))) (Next (Return (word w.Return 84 90) (Some (Number (number 91 92)))) End))))) ∷ []) 0 0 ∷
    -- int x; int *p; int *q; char *c; int a[3]; int main(void) { return p; return 0; }
    row (codes "int x; int *p; int *q; char *c; int a[3]; int main(void) { return p; return 0; }") ((Variables (int 0 3) ((declared (name 4 5) [] None) ∷ [])) ∷ (Variables (int 7 10) ((declared (name 12 13) (PointerTo ∷ []) None) ∷ [])) ∷ (Variables (int 15 18) ((declared (name 20 21) (PointerTo ∷ []) None) ∷ [])) ∷ (Variables (char 23 27) ((declared (name 29 30) (PointerTo ∷ []) None) ∷ [])) ∷ (Variables (int 32 35) ((declared (name 36 37) ((ArrayOf (Number (number 38 39))) ∷ []) None) ∷ [])) ∷ (Function (spelled (int 42 45) 0) (name 46 50) [] (Some (Next (Return (word w.Return 59 65) (Some (Name (name 66 67)))) (Next (Return (word w.Return 69 75) (Some (Number (number 76 77)))) End)))) ∷ []) 123 67 ∷
    -- int *f(void) { return 0; } char g(void) { return 300; } int main(void) { return 0; }
    row (codes "int *f(void) { return 0; } char g(void) { return 300; } int main(void) { return 0; }") ((Function (spelled (int 0 3) 1) (name 5 6) [] (Some (Next (Return (word w.Return 15 21) (Some (Number (number 22 23)))) End))) ∷ (Function (spelled (char 27 31) 0) (name 32 33) [] (Some (Next (Return (word w.Return 42 48) (Some (Number (number 49 52)))) End))) ∷ (Function (spelled (int 56 59) 0) (name 60 64) [] (Some (Next (Return (word w.Return 73 79) (Some (Number (number 80 81)))) End))) ∷ []) 0 0 ∷
    -- int *f(void) { return 1; } int main(void) { return 0; }
    row (codes "int *f(void) { return 1; } int main(void) { return 0; }") ((Function (spelled (int 0 3) 1) (name 5 6) [] (Some (Next (Return (word w.Return 15 21) (Some (Number (number 22 23)))) End))) ∷ (Function (spelled (int 27 30) 0) (name 31 35) [] (Some (Next (Return (word w.Return 44 50) (Some (Number (number 51 52)))) End))) ∷ []) 123 23 ∷ []

pub conversions : outcomes conversions_rows ≡ refusals conversions_rows
unfolding checked_rules.kept checked_rules.unless checked_rules.none_of environment_rules.found_in environment_rules.found environment_rules.specified environment_rules.with_stars environment_rules.spelled_type nodes_rules.first_place judgements_rules.shape judgements_rules.on_pointers judgements_rules.arithmetic judgements_rules.relation judgements_rules.operation judgements_rules.conversion judgements_rules.selection judgements_rules.cast_conversion judgements_rules.compound_operation operands_rules.loaded operands_rules.value operands_rules.condition operands_rules.brought operands_rules.fitted operators_rules.unit operators_rules.computed operators_rules.combined operators_rules.selected operators_rules.choice_of operators_rules.cast_by operators_rules.cast operators_rules.promoting operators_rules.negation operators_rules.address operators_rules.dereferenced assignments_rules.assigned assignments_rules.updated assignments_rules.compound assignments_rules.stepped subobjects_rules.base_of subobjects_rules.indexed subobjects_rules.dot subobjects_rules.arrow allocation_rules.objects allocation_rules.product allocation_rules.allocated allocation_rules.freed expressions_rules.full expressions_rules.operand expressions_rules.arguments expressions_rules.only_value expressions_rules.only_request expressions_rules.requested expressions_rules.measured constant_expressions_rules.is_constant constant_expressions_rules.value_of constant_expressions_rules.constant constant_expressions_rules.size_of_array constant_expressions_rules.part_of constant_expressions_rules.is_literal constant_expressions_rules.has_literal_indices constant_expressions_rules.initial_value declarations_rules.size declarations_rules.layers declarations_rules.layered declarations_rules.element_number declarations_rules.is_complete declarations_rules.is_within_limit initialisers_rules.parts initialisers_rules.zeros initialisers_rules.alone initialisers_rules.all_alone initialisers_rules.cells initialisers_rules.elements statements_rules.in_scope statements_rules.init_statements statements_rules.declare_one statements_rules.declare_all statements_rules.declare statements_rules.statement statements_rules.statements weights_rules.declared_weight weights_rules.item_weight weights_rules.initialiser_nodes weights_rules.elements_nodes weights_rules.continues weights_rules.all_continues weights_rules.statement_weight weights_rules.statements_weight file_scope_rules.file_scope file_scope_rules.variable file_scope_rules.variables structs_rules.member structs_rules.member_list structs_rules.all_members structs_rules.structure functions_rules.parameter functions_rules.parameters functions_rules.declarable_function functions_rules.replaced functions_rules.defined_as functions_rules.function programs_rules.item programs_rules.items programs_rules.whole programs_rules.elaborated programs_rules.elaboration number_rules.radix_of number_rules.value_of number_rules.number_value number_rules.constant_of number_rules.constant_with number_rules.first_holding number_rules.constant_types number_rules.number_of number_rules.suffix_of lexeme_rules.character_value type_rows.shape-the_row-CType-0 type_rows.hidden-the_row-CType-0 expression_rows.shape-the_row-Expr-0 expression_rows.hidden-the_row-Expr-0 expression_rows.shape-the_row-Expr-1 expression_rows.hidden-the_row-Expr-1 expression_rows.shape-the_row-Place_-2 expression_rows.hidden-the_row-Place_-2 statement_rows.shape-the_row-Stmt-0 statement_rows.hidden-the_row-Stmt-0 statement_rows.shape-the_row-Stmt-1 statement_rows.hidden-the_row-Stmt-1 hidden
conversions = refl

-- a struct is no value
abbrev structures_rows : List Row
structures_rows =
    -- struct s { int m; }; struct s s; struct s t; struct s *sp; int main(void) { s; return 0; }
    row (codes "struct s { int m; }; struct s s; struct s t; struct s *sp; int main(void) { s; return 0; }") ((Struct (name 7 8) ((members (int 11 14) ((declarator (name 15 16) []) ∷ [])) ∷ []) []) ∷ (Variables (struct 28 29) ((declared (name 30 31) [] None) ∷ [])) ∷ (Variables (struct 40 41) ((declared (name 42 43) [] None) ∷ [])) ∷ (Variables (struct 52 53) ((declared (name 55 57) (PointerTo ∷ []) None) ∷ [])) ∷ (Function (spelled (int 59 62) 0) (name 63 67) [] (Some (Next (Evaluate (Name (name 76 77))) (Next (Return (word w.Return 79 85) (Some (Number (number 86 87)))) End)))) ∷ []) 129 77 ∷
    -- struct s { int m; }; struct s s; struct s t; struct s *sp; int main(void) { s == t; return 0; }
    row (codes "struct s { int m; }; struct s s; struct s t; struct s *sp; int main(void) { s == t; return 0; }") ((Struct (name 7 8) ((members (int 11 14) ((declarator (name 15 16) []) ∷ [])) ∷ []) []) ∷ (Variables (struct 28 29) ((declared (name 30 31) [] None) ∷ [])) ∷ (Variables (struct 40 41) ((declared (name 42 43) [] None) ∷ [])) ∷ (Variables (struct 52 53) ((declared (name 55 57) (PointerTo ∷ []) None) ∷ [])) ∷ (Function (spelled (int 59 62) 0) (name 63 67) [] (Some (Next (Evaluate (Binary (Name (name 76 77)) (mark w.EqualEqual 78 80) (Name (name 81 82)))) (Next (Return (word w.Return 84 90) (Some (Number (number 91 92)))) End)))) ∷ []) 129 77 ∷
    -- int f(int b) { return b; } struct s { int m; }; struct s s; struct s t; struct s *sp; int main(void) { f(s); return 0; }
    row (codes "int f(int b) { return b; } struct s { int m; }; struct s s; struct s t; struct s *sp; int main(void) { f(s); return 0; }") ((Function (spelled (int 0 3) 0) (name 4 5) ((parameter (int 6 9) (Some (name 10 11)) (word w.Int 6 9) []) ∷ []) (Some (Next (Return (word w.Return 15 21) (Some (Name (name 22 23)))) End))) ∷ (Struct (name 34 35) ((members (int 38 41) ((declarator (name 42 43) []) ∷ [])) ∷ []) []) ∷ (Variables (struct 55 56) ((declared (name 57 58) [] None) ∷ [])) ∷ (Variables (struct 67 68) ((declared (name 69 70) [] None) ∷ [])) ∷ (Variables (struct 79 80) ((declared (name 82 84) (PointerTo ∷ []) None) ∷ [])) ∷ (Function (spelled (int 86 89) 0) (name 90 94) [] (Some (Next (Evaluate (Call (name 103 104) (Then (Name (name 105 106)) NoMore))) (Next (Return (word w.Return 109 115) (Some (Number (number 116 117)))) End)))) ∷ []) 129 106 ∷
    -- struct s { int m; }; struct s s; struct s t; struct s *sp; int main(void) { struct s u = s; return 0; }
    row (codes "struct s { int m; }; struct s s; struct s t; struct s *sp; int main(void) { struct s u = s; return 0; }") ((Struct (name 7 8) ((members (int 11 14) ((declarator (name 15 16) []) ∷ [])) ∷ []) []) ∷ (Variables (struct 28 29) ((declared (name 30 31) [] None) ∷ [])) ∷ (Variables (struct 40 41) ((declared (name 42 43) [] None) ∷ [])) ∷ (Variables (struct 52 53) ((declared (name 55 57) (PointerTo ∷ []) None) ∷ [])) ∷ (Function (spelled (int 59 62) 0) (name 63 67) [] (Some (Next (Declare (local (struct 83 84) ((declared (name 85 86) [] (Some (Value (Name (name 89 90))))) ∷ []))) (Next (Return (word w.Return 92 98) (Some (Number (number 99 100)))) End)))) ∷ []) 129 90 ∷
    -- struct s { int m; }; struct s s; struct s t; struct s *sp; int main(void) { return s; return 0; }
    row (codes "struct s { int m; }; struct s s; struct s t; struct s *sp; int main(void) { return s; return 0; }") ((Struct (name 7 8) ((members (int 11 14) ((declarator (name 15 16) []) ∷ [])) ∷ []) []) ∷ (Variables (struct 28 29) ((declared (name 30 31) [] None) ∷ [])) ∷ (Variables (struct 40 41) ((declared (name 42 43) [] None) ∷ [])) ∷ (Variables (struct 52 53) ((declared (name 55 57) (PointerTo ∷ []) None) ∷ [])) ∷ (Function (spelled (int 59 62) 0) (name 63 67) [] (Some (Next (Return (word w.Return 76 82) (Some (Name (name 83 84)))) (Next (Return (word w.Return 86 92) (Some (Number (number 93 94)))) End)))) ∷ []) 129 84 ∷
    -- struct s { int m; }; struct s s; struct s t; struct s *sp; struct s f(void) { return s; } int main(void) { return 0; }
    row (codes "struct s { int m; }; struct s s; struct s t; struct s *sp; struct s f(void) { return s; } int main(void) { return 0; }") ((Struct (name 7 8) ((members (int 11 14) ((declarator (name 15 16) []) ∷ [])) ∷ []) []) ∷ (Variables (struct 28 29) ((declared (name 30 31) [] None) ∷ [])) ∷ (Variables (struct 40 41) ((declared (name 42 43) [] None) ∷ [])) ∷ (Variables (struct 52 53) ((declared (name 55 57) (PointerTo ∷ []) None) ∷ [])) ∷ (Function (spelled (struct 66 67) 0) (name 68 69) [] (Some (Next (Return (word w.Return 78 84) (Some (Name (name 85 86)))) End))) ∷ (Function (spelled (int 90 93) 0) (name 94 98) [] (Some (Next (Return (word w.Return 107 113) (Some (Number (number 114 115)))) End))) ∷ []) 129 69 ∷
    -- struct s { int m; }; struct s s; struct s t; struct s *sp; int f(struct s v) { return 0; } int main(void) { return 0; }
    row (codes "struct s { int m; }; struct s s; struct s t; struct s *sp; int f(struct s v) { return 0; } int main(void) { return 0; }") ((Struct (name 7 8) ((members (int 11 14) ((declarator (name 15 16) []) ∷ [])) ∷ []) []) ∷ (Variables (struct 28 29) ((declared (name 30 31) [] None) ∷ [])) ∷ (Variables (struct 40 41) ((declared (name 42 43) [] None) ∷ [])) ∷ (Variables (struct 52 53) ((declared (name 55 57) (PointerTo ∷ []) None) ∷ [])) ∷ (Function (spelled (int 59 62) 0) (name 63 64) ((parameter (struct 72 73) (Some (name 74 75)) (word w.Struct 65 71) []) ∷ []) (Some (Next (Return (word w.Return 79 85) (Some (Number (number 86 87)))) End))) ∷ (Function (spelled (int 91 94) 0) (name 95 99) [] (Some (Next (Return (word w.Return 108 114) (Some (Number (number 115 116)))) End))) ∷ []) 129 75 ∷
    -- struct s { int m; }; struct s s; struct s t; struct s *sp; int f(struct s); int main(void) { return 0; }
    row (codes "struct s { int m; }; struct s s; struct s t; struct s *sp; int f(struct s); int main(void) { return 0; }") ((Struct (name 7 8) ((members (int 11 14) ((declarator (name 15 16) []) ∷ [])) ∷ []) []) ∷ (Variables (struct 28 29) ((declared (name 30 31) [] None) ∷ [])) ∷ (Variables (struct 40 41) ((declared (name 42 43) [] None) ∷ [])) ∷ (Variables (struct 52 53) ((declared (name 55 57) (PointerTo ∷ []) None) ∷ [])) ∷ (Function (spelled (int 59 62) 0) (name 63 64) ((parameter (struct 72 73) None (word w.Struct 65 71) []) ∷ []) None) ∷ (Function (spelled (int 76 79) 0) (name 80 84) [] (Some (Next (Return (word w.Return 93 99) (Some (Number (number 100 101)))) End))) ∷ []) 129 66 ∷
    -- int x; struct s { int m; }; struct s s; struct s t; struct s *sp; struct o { struct s s; } s1; int main(void) { x = s1.s.m; x = &s1.s == &s; return 0; }
    row (codes "int x; struct s { int m; }; struct s s; struct s t; struct s *sp; struct o { struct s s; } s1; int main(void) { x = s1.s.m; x = &s1.s == &s; return 0; }") ((Variables (int 0 3) ((declared (name 4 5) [] None) ∷ [])) ∷ (Struct (name 14 15) ((members (int 18 21) ((declarator (name 22 23) []) ∷ [])) ∷ []) []) ∷ (Variables (struct 35 36) ((declared (name 37 38) [] None) ∷ [])) ∷ (Variables (struct 47 48) ((declared (name 49 50) [] None) ∷ [])) ∷ (Variables (struct 59 60) ((declared (name 62 64) (PointerTo ∷ []) None) ∷ [])) ∷ (Struct (name 73 74) ((members (struct 84 85) ((declarator (name 86 87) []) ∷ [])) ∷ []) ((declared (name 91 93) [] None) ∷ [])) ∷ (Function (spelled (int 95 98) 0) (name 99 103) [] (Some (Next (Evaluate (Assign (Name (name 112 113)) (mark w.Assign 114 115) (Member (Member (Name (name 116 118)) (mark w.Dot 118 119) (name 119 120)) (mark w.Dot 120 121) (name 121 122)))) (Next (Evaluate (Assign (Name (name 124 125)) (mark w.Assign 126 127) (Binary (Prefix (mark w.Ampersand 128 129) (Member (Name (name 129 131)) (mark w.Dot 131 132) (name 132 133))) (mark w.EqualEqual 134 136) (Prefix (mark w.Ampersand 137 138) (Name (name 138 139)))))) (Next (Return (word w.Return 141 147) (Some (Number (number 148 149)))) End))))) ∷ []) 0 0 ∷ []

pub structures : outcomes structures_rows ≡ refusals structures_rows
unfolding checked_rules.kept checked_rules.unless checked_rules.none_of environment_rules.found_in environment_rules.found environment_rules.specified environment_rules.with_stars environment_rules.spelled_type nodes_rules.first_place judgements_rules.shape judgements_rules.on_pointers judgements_rules.arithmetic judgements_rules.relation judgements_rules.operation judgements_rules.conversion judgements_rules.selection judgements_rules.cast_conversion judgements_rules.compound_operation operands_rules.loaded operands_rules.value operands_rules.condition operands_rules.brought operands_rules.fitted operators_rules.unit operators_rules.computed operators_rules.combined operators_rules.selected operators_rules.choice_of operators_rules.cast_by operators_rules.cast operators_rules.promoting operators_rules.negation operators_rules.address operators_rules.dereferenced assignments_rules.assigned assignments_rules.updated assignments_rules.compound assignments_rules.stepped subobjects_rules.base_of subobjects_rules.indexed subobjects_rules.dot subobjects_rules.arrow allocation_rules.objects allocation_rules.product allocation_rules.allocated allocation_rules.freed expressions_rules.full expressions_rules.operand expressions_rules.arguments expressions_rules.only_value expressions_rules.only_request expressions_rules.requested expressions_rules.measured constant_expressions_rules.is_constant constant_expressions_rules.value_of constant_expressions_rules.constant constant_expressions_rules.size_of_array constant_expressions_rules.part_of constant_expressions_rules.is_literal constant_expressions_rules.has_literal_indices constant_expressions_rules.initial_value declarations_rules.size declarations_rules.layers declarations_rules.layered declarations_rules.element_number declarations_rules.is_complete declarations_rules.is_within_limit initialisers_rules.parts initialisers_rules.zeros initialisers_rules.alone initialisers_rules.all_alone initialisers_rules.cells initialisers_rules.elements statements_rules.in_scope statements_rules.init_statements statements_rules.declare_one statements_rules.declare_all statements_rules.declare statements_rules.statement statements_rules.statements weights_rules.declared_weight weights_rules.item_weight weights_rules.initialiser_nodes weights_rules.elements_nodes weights_rules.continues weights_rules.all_continues weights_rules.statement_weight weights_rules.statements_weight file_scope_rules.file_scope file_scope_rules.variable file_scope_rules.variables structs_rules.member structs_rules.member_list structs_rules.all_members structs_rules.structure functions_rules.parameter functions_rules.parameters functions_rules.declarable_function functions_rules.replaced functions_rules.defined_as functions_rules.function programs_rules.item programs_rules.items programs_rules.whole programs_rules.elaborated programs_rules.elaboration number_rules.radix_of number_rules.value_of number_rules.number_value number_rules.constant_of number_rules.constant_with number_rules.first_holding number_rules.constant_types number_rules.number_of number_rules.suffix_of lexeme_rules.character_value type_rows.shape-the_row-CType-0 type_rows.hidden-the_row-CType-0 expression_rows.shape-the_row-Expr-0 expression_rows.hidden-the_row-Expr-0 expression_rows.shape-the_row-Expr-1 expression_rows.hidden-the_row-Expr-1 expression_rows.shape-the_row-Place_-2 expression_rows.hidden-the_row-Place_-2 statement_rows.shape-the_row-Stmt-0 statement_rows.hidden-the_row-Stmt-0 statement_rows.shape-the_row-Stmt-1 statement_rows.hidden-the_row-Stmt-1 hidden
structures = refl

-- calls name a function with a body, and have an argument for each parameter
abbrev calls_rows : List Row
calls_rows =
    -- int f(int b, int d) { return 0; } int main(void) { f(1); return 0; }
    row (codes "int f(int b, int d) { return 0; } int main(void) { f(1); return 0; }") ((Function (spelled (int 0 3) 0) (name 4 5) ((parameter (int 6 9) (Some (name 10 11)) (word w.Int 6 9) []) ∷ (parameter (int 13 16) (Some (name 17 18)) (word w.Int 13 16) []) ∷ []) (Some (Next (Return (word w.Return 22 28) (Some (Number (number 29 30)))) End))) ∷ (Function (spelled (int 34 37) 0) (name 38 42) [] (Some (Next (Evaluate (Call (name 51 52) (Then (Number (number 53 54)) NoMore))) (Next (Return (word w.Return 57 63) (Some (Number (number 64 65)))) End)))) ∷ []) 125 52 ∷
    -- int f(int b, int d) { return 0; } int main(void) { f(1, 2, 3); return 0; }
    row (codes "int f(int b, int d) { return 0; } int main(void) { f(1, 2, 3); return 0; }") ((Function (spelled (int 0 3) 0) (name 4 5) ((parameter (int 6 9) (Some (name 10 11)) (word w.Int 6 9) []) ∷ (parameter (int 13 16) (Some (name 17 18)) (word w.Int 13 16) []) ∷ []) (Some (Next (Return (word w.Return 22 28) (Some (Number (number 29 30)))) End))) ∷ (Function (spelled (int 34 37) 0) (name 38 42) [] (Some (Next (Evaluate (Call (name 51 52) (Then (Number (number 53 54)) (Then (Number (number 56 57)) (Then (Number (number 59 60)) NoMore))))) (Next (Return (word w.Return 63 69) (Some (Number (number 70 71)))) End)))) ∷ []) 125 52 ∷
    -- int f(int b, int d) { return 0; } int x; int *p; int *q; char *c; int a[3]; int main(void) { f(p, 2, 3); return 0; }
    row (codes "int f(int b, int d) { return 0; } int x; int *p; int *q; char *c; int a[3]; int main(void) { f(p, 2, 3); return 0; }") ((Function (spelled (int 0 3) 0) (name 4 5) ((parameter (int 6 9) (Some (name 10 11)) (word w.Int 6 9) []) ∷ (parameter (int 13 16) (Some (name 17 18)) (word w.Int 13 16) []) ∷ []) (Some (Next (Return (word w.Return 22 28) (Some (Number (number 29 30)))) End))) ∷ (Variables (int 34 37) ((declared (name 38 39) [] None) ∷ [])) ∷ (Variables (int 41 44) ((declared (name 46 47) (PointerTo ∷ []) None) ∷ [])) ∷ (Variables (int 49 52) ((declared (name 54 55) (PointerTo ∷ []) None) ∷ [])) ∷ (Variables (char 57 61) ((declared (name 63 64) (PointerTo ∷ []) None) ∷ [])) ∷ (Variables (int 66 69) ((declared (name 70 71) ((ArrayOf (Number (number 72 73))) ∷ []) None) ∷ [])) ∷ (Function (spelled (int 76 79) 0) (name 80 84) [] (Some (Next (Evaluate (Call (name 93 94) (Then (Name (name 95 96)) (Then (Number (number 98 99)) (Then (Number (number 101 102)) NoMore))))) (Next (Return (word w.Return 105 111) (Some (Number (number 112 113)))) End)))) ∷ []) 123 96 ∷
    -- int f(int b, int d) { return 0; } int main(void) { f(1, 2, y); return 0; }
    row (codes "int f(int b, int d) { return 0; } int main(void) { f(1, 2, y); return 0; }") ((Function (spelled (int 0 3) 0) (name 4 5) ((parameter (int 6 9) (Some (name 10 11)) (word w.Int 6 9) []) ∷ (parameter (int 13 16) (Some (name 17 18)) (word w.Int 13 16) []) ∷ []) (Some (Next (Return (word w.Return 22 28) (Some (Number (number 29 30)))) End))) ∷ (Function (spelled (int 34 37) 0) (name 38 42) [] (Some (Next (Evaluate (Call (name 51 52) (Then (Number (number 53 54)) (Then (Number (number 56 57)) (Then (Name (name 59 60)) NoMore))))) (Next (Return (word w.Return 63 69) (Some (Number (number 70 71)))) End)))) ∷ []) 121 60 ∷
    -- int f(int b); int main(void) { f(1); return 0; }
    row (codes "int f(int b); int main(void) { f(1); return 0; }") ((Function (spelled (int 0 3) 0) (name 4 5) ((parameter (int 6 9) (Some (name 10 11)) (word w.Int 6 9) []) ∷ []) None) ∷ (Function (spelled (int 14 17) 0) (name 18 22) [] (Some (Next (Evaluate (Call (name 31 32) (Then (Number (number 33 34)) NoMore))) (Next (Return (word w.Return 37 43) (Some (Number (number 44 45)))) End)))) ∷ []) 126 32 ∷
    -- int f(int b); int main(void) { return f(1); } int f(int b) { return b; }
    row (codes "int f(int b); int main(void) { return f(1); } int f(int b) { return b; }") ((Function (spelled (int 0 3) 0) (name 4 5) ((parameter (int 6 9) (Some (name 10 11)) (word w.Int 6 9) []) ∷ []) None) ∷ (Function (spelled (int 14 17) 0) (name 18 22) [] (Some (Next (Return (word w.Return 31 37) (Some (Call (name 38 39) (Then (Number (number 40 41)) NoMore)))) End))) ∷ (Function (spelled (int 46 49) 0) (name 50 51) ((parameter (int 52 55) (Some (name 56 57)) (word w.Int 52 55) []) ∷ []) (Some (Next (Return (word w.Return 61 67) (Some (Name (name 68 69)))) End))) ∷ []) 0 0 ∷
    -- int f(int b); int main(void) { f(); return 0; }
    row (codes "int f(int b); int main(void) { f(); return 0; }") ((Function (spelled (int 0 3) 0) (name 4 5) ((parameter (int 6 9) (Some (name 10 11)) (word w.Int 6 9) []) ∷ []) None) ∷ (Function (spelled (int 14 17) 0) (name 18 22) [] (Some (Next (Evaluate (Call (name 31 32) NoMore)) (Next (Return (word w.Return 36 42) (Some (Number (number 43 44)))) End)))) ∷ []) 125 32 ∷
    -- int main(void) { main(); return 0; }
    row (codes "int main(void) { main(); return 0; }") ((Function (spelled (int 0 3) 0) (name 4 8) [] (Some (Next (Evaluate (Call (name 17 21) NoMore)) (Next (Return (word w.Return 25 31) (Some (Number (number 32 33)))) End)))) ∷ []) 128 18 ∷
    -- int main(void) { main(1); return 0; }
    row (codes "int main(void) { main(1); return 0; }") ((Function (spelled (int 0 3) 0) (name 4 8) [] (Some (Next (Evaluate (Call (name 17 21) (Then (Number (number 22 23)) NoMore))) (Next (Return (word w.Return 26 32) (Some (Number (number 33 34)))) End)))) ∷ []) 125 18 ∷
    -- int x; int main(void) { x(); return 0; }
    row (codes "int x; int main(void) { x(); return 0; }") ((Variables (int 0 3) ((declared (name 4 5) [] None) ∷ [])) ∷ (Function (spelled (int 7 10) 0) (name 11 15) [] (Some (Next (Evaluate (Call (name 24 25) NoMore)) (Next (Return (word w.Return 29 35) (Some (Number (number 36 37)))) End)))) ∷ []) 123 25 ∷
    -- int x; int main(void) { x(y); return 0; }
    row (codes "int x; int main(void) { x(y); return 0; }") ((Variables (int 0 3) ((declared (name 4 5) [] None) ∷ [])) ∷ (Function (spelled (int 7 10) 0) (name 11 15) [] (Some (Next (Evaluate (Call (name 24 25) (Then (Name (name 26 27)) NoMore))) (Next (Return (word w.Return 30 36) (Some (Number (number 37 38)))) End)))) ∷ []) 121 27 ∷
    -- int f(void) { return 0; } int main(void) { f; return 0; }
    row (codes "int f(void) { return 0; } int main(void) { f; return 0; }") ((Function (spelled (int 0 3) 0) (name 4 5) [] (Some (Next (Return (word w.Return 14 20) (Some (Number (number 21 22)))) End))) ∷ (Function (spelled (int 26 29) 0) (name 30 34) [] (Some (Next (Evaluate (Name (name 43 44))) (Next (Return (word w.Return 46 52) (Some (Number (number 53 54)))) End)))) ∷ []) 123 44 ∷
    -- int f(void) { return 0; } int main(void) { f = 1; return 0; }
    row (codes "int f(void) { return 0; } int main(void) { f = 1; return 0; }") ((Function (spelled (int 0 3) 0) (name 4 5) [] (Some (Next (Return (word w.Return 14 20) (Some (Number (number 21 22)))) End))) ∷ (Function (spelled (int 26 29) 0) (name 30 34) [] (Some (Next (Evaluate (Assign (Name (name 43 44)) (mark w.Assign 45 46) (Number (number 47 48)))) (Next (Return (word w.Return 50 56) (Some (Number (number 57 58)))) End)))) ∷ []) 123 44 ∷
    -- int main(void) { putchar; return 0; }
    row (codes "int main(void) { putchar; return 0; }") ((Function (spelled (int 0 3) 0) (name 4 8) [] (Some (Next (Evaluate (Name (name 17 24))) (Next (Return (word w.Return 26 32) (Some (Number (number 33 34)))) End)))) ∷ []) 123 18 ∷
    -- int f(int n) { return n ? f(n - 1) : 0; } int main(void) { return f(3); }
    row (codes "int f(int n) { return n ? f(n - 1) : 0; } int main(void) { return f(3); }") ((Function (spelled (int 0 3) 0) (name 4 5) ((parameter (int 6 9) (Some (name 10 11)) (word w.Int 6 9) []) ∷ []) (Some (Next (Return (word w.Return 15 21) (Some (Choose (Name (name 22 23)) (mark w.Question 24 25) (Call (name 26 27) (Then (Binary (Name (name 28 29)) (mark w.Minus 30 31) (Number (number 32 33))) NoMore)) (Number (number 37 38))))) End))) ∷ (Function (spelled (int 42 45) 0) (name 46 50) [] (Some (Next (Return (word w.Return 59 65) (Some (Call (name 66 67) (Then (Number (number 68 69)) NoMore)))) End))) ∷ []) 0 0 ∷ []

pub calls : outcomes calls_rows ≡ refusals calls_rows
unfolding checked_rules.kept checked_rules.unless checked_rules.none_of environment_rules.found_in environment_rules.found environment_rules.specified environment_rules.with_stars environment_rules.spelled_type nodes_rules.first_place judgements_rules.shape judgements_rules.on_pointers judgements_rules.arithmetic judgements_rules.relation judgements_rules.operation judgements_rules.conversion judgements_rules.selection judgements_rules.cast_conversion judgements_rules.compound_operation operands_rules.loaded operands_rules.value operands_rules.condition operands_rules.brought operands_rules.fitted operators_rules.unit operators_rules.computed operators_rules.combined operators_rules.selected operators_rules.choice_of operators_rules.cast_by operators_rules.cast operators_rules.promoting operators_rules.negation operators_rules.address operators_rules.dereferenced assignments_rules.assigned assignments_rules.updated assignments_rules.compound assignments_rules.stepped subobjects_rules.base_of subobjects_rules.indexed subobjects_rules.dot subobjects_rules.arrow allocation_rules.objects allocation_rules.product allocation_rules.allocated allocation_rules.freed expressions_rules.full expressions_rules.operand expressions_rules.arguments expressions_rules.only_value expressions_rules.only_request expressions_rules.requested expressions_rules.measured constant_expressions_rules.is_constant constant_expressions_rules.value_of constant_expressions_rules.constant constant_expressions_rules.size_of_array constant_expressions_rules.part_of constant_expressions_rules.is_literal constant_expressions_rules.has_literal_indices constant_expressions_rules.initial_value declarations_rules.size declarations_rules.layers declarations_rules.layered declarations_rules.element_number declarations_rules.is_complete declarations_rules.is_within_limit initialisers_rules.parts initialisers_rules.zeros initialisers_rules.alone initialisers_rules.all_alone initialisers_rules.cells initialisers_rules.elements statements_rules.in_scope statements_rules.init_statements statements_rules.declare_one statements_rules.declare_all statements_rules.declare statements_rules.statement statements_rules.statements weights_rules.declared_weight weights_rules.item_weight weights_rules.initialiser_nodes weights_rules.elements_nodes weights_rules.continues weights_rules.all_continues weights_rules.statement_weight weights_rules.statements_weight file_scope_rules.file_scope file_scope_rules.variable file_scope_rules.variables structs_rules.member structs_rules.member_list structs_rules.all_members structs_rules.structure functions_rules.parameter functions_rules.parameters functions_rules.declarable_function functions_rules.replaced functions_rules.defined_as functions_rules.function programs_rules.item programs_rules.items programs_rules.whole programs_rules.elaborated programs_rules.elaboration number_rules.radix_of number_rules.value_of number_rules.number_value number_rules.constant_of number_rules.constant_with number_rules.first_holding number_rules.constant_types number_rules.number_of number_rules.suffix_of lexeme_rules.character_value type_rows.shape-the_row-CType-0 type_rows.hidden-the_row-CType-0 expression_rows.shape-the_row-Expr-0 expression_rows.hidden-the_row-Expr-0 expression_rows.shape-the_row-Expr-1 expression_rows.hidden-the_row-Expr-1 expression_rows.shape-the_row-Place_-2 expression_rows.hidden-the_row-Place_-2 statement_rows.shape-the_row-Stmt-0 statement_rows.hidden-the_row-Stmt-0 statement_rows.shape-the_row-Stmt-1 statement_rows.hidden-the_row-Stmt-1 hidden
calls = refl
