-- Examples of the rules on `malloc`, `free` and `sizeof` (C11 6.5.3.4, 7.22.3.3, 7.22.3.4): each text breaks the rule with this number, at this column, or none.
use Rattle.std.proofs.Common.{◌≡◌, refl, List, [], ◌∷◌, codes, Some, None}
use Rattle.c_words.specs.declared.word.Word.TheVariants as w
use Rattle.typing_rules.specs.Syntax.{Name, Number, Paren, Call, Index, Arrow, Prefix, Cast, SizeOf, SizeOfType, Binary, Assign, NoMore, Then, PointerTo, ArrayOf, Value, Evaluate, Declare, Return, End, Next, Struct, Variables, Function}
use Rattle.typing_rules.proofs.ExampleTexts.{name, number, word, mark, int, char, long, void, struct, spelled, declarator, declared, parameter, local, members, Row, row, outcomes, refusals}
use Rattle.typing_rules.specs.Checked as checked_rules
use Rattle.typing_rules.specs.Environment as environment_rules
use Rattle.typing_rules.specs.Nodes as nodes_rules
use Rattle.typing_rules.specs.Judgements as judgements_rules
use Rattle.typing_rules.specs.Operands as operands_rules
use Rattle.typing_rules.specs.Operators as operators_rules
use Rattle.typing_rules.specs.Assignments as assignments_rules
use Rattle.typing_rules.specs.Subobjects as subobjects_rules
use Rattle.typing_rules.specs.Allocation as allocation_rules
use Rattle.typing_rules.specs.Expressions as expressions_rules
use Rattle.typing_rules.specs.ConstantExpressions as constant_expressions_rules
use Rattle.typing_rules.specs.Declarations as declarations_rules
use Rattle.typing_rules.specs.Initialisers as initialisers_rules
use Rattle.typing_rules.specs.Statements as statements_rules
use Rattle.typing_rules.specs.Weights as weights_rules
use Rattle.typing_rules.specs.FileScope as file_scope_rules
use Rattle.typing_rules.specs.Structs as structs_rules
use Rattle.typing_rules.specs.Functions as functions_rules
use Rattle.typing_rules.specs.Programs as programs_rules
use Rattle.c_lexer.specs.Numbers as number_rules
use Rattle.c_lexer.specs.Lexemes as lexeme_rules
use Rattle.step_meaning.specs.declared.value.CType.TheBlock as type_rows
use Rattle.step_meaning.specs.declared.expr.Expr.TheBlock as expression_rows
use Rattle.step_meaning.specs.declared.stmt.Stmt.TheBlock as statement_rows
use denote.Hole.Carrier.{hidden}

-- the argument of `malloc` is S, E * S or S * E, where S is a `sizeof`
abbrev requests_rows : List Row
requests_rows =
    -- int x; int *p; int *q; char *c; int a[3]; int main(void) { p = malloc(sizeof(int)); p = malloc(2 * sizeof(int)); p = malloc(sizeof(int) * 2); p = malloc(x * 2 * sizeof *p); p = malloc((sizeof x)); return 0; }
    row (codes "int x; int *p; int *q; char *c; int a[3]; int main(void) { p = malloc(sizeof(int)); p = malloc(2 * sizeof(int)); p = malloc(sizeof(int) * 2); p = malloc(x * 2 * sizeof *p); p = malloc((sizeof x)); return 0; }") ((Variables (int 0 3) ((declared (name 4 5) [] None) ∷ [])) ∷ (Variables (int 7 10) ((declared (name 12 13) (PointerTo ∷ []) None) ∷ [])) ∷ (Variables (int 15 18) ((declared (name 20 21) (PointerTo ∷ []) None) ∷ [])) ∷ (Variables (char 23 27) ((declared (name 29 30) (PointerTo ∷ []) None) ∷ [])) ∷ (Variables (int 32 35) ((declared (name 36 37) ((ArrayOf (Number (number 38 39))) ∷ []) None) ∷ [])) ∷ (Function (spelled (int 42 45) 0) (name 46 50) [] (Some (Next (Evaluate (Assign (Name (name 59 60)) (mark w.Assign 61 62) (Call (name 63 69) (Then (SizeOfType (word w.SizeOf 70 76) (spelled (int 77 80) 0)) NoMore)))) (Next (Evaluate (Assign (Name (name 84 85)) (mark w.Assign 86 87) (Call (name 88 94) (Then (Binary (Number (number 95 96)) (mark w.Star 97 98) (SizeOfType (word w.SizeOf 99 105) (spelled (int 106 109) 0))) NoMore)))) (Next (Evaluate (Assign (Name (name 113 114)) (mark w.Assign 115 116) (Call (name 117 123) (Then (Binary (SizeOfType (word w.SizeOf 124 130) (spelled (int 131 134) 0)) (mark w.Star 136 137) (Number (number 138 139))) NoMore)))) (Next (Evaluate (Assign (Name (name 142 143)) (mark w.Assign 144 145) (Call (name 146 152) (Then (Binary (Binary (Name (name 153 154)) (mark w.Star 155 156) (Number (number 157 158))) (mark w.Star 159 160) (SizeOf (word w.SizeOf 161 167) (Prefix (mark w.Star 168 169) (Name (name 169 170))))) NoMore)))) (Next (Evaluate (Assign (Name (name 173 174)) (mark w.Assign 175 176) (Call (name 177 183) (Then (Paren (mark w.LeftParen 184 185) (SizeOf (word w.SizeOf 185 191) (Name (name 192 193)))) NoMore)))) (Next (Return (word w.Return 197 203) (Some (Number (number 204 205)))) End)))))))) ∷ []) 0 0 ∷
    -- int x; int *p; int *q; char *c; int a[3]; int main(void) { p = malloc(((2 * (sizeof(int))))); return 0; }
    row (codes "int x; int *p; int *q; char *c; int a[3]; int main(void) { p = malloc(((2 * (sizeof(int))))); return 0; }") ((Variables (int 0 3) ((declared (name 4 5) [] None) ∷ [])) ∷ (Variables (int 7 10) ((declared (name 12 13) (PointerTo ∷ []) None) ∷ [])) ∷ (Variables (int 15 18) ((declared (name 20 21) (PointerTo ∷ []) None) ∷ [])) ∷ (Variables (char 23 27) ((declared (name 29 30) (PointerTo ∷ []) None) ∷ [])) ∷ (Variables (int 32 35) ((declared (name 36 37) ((ArrayOf (Number (number 38 39))) ∷ []) None) ∷ [])) ∷ (Function (spelled (int 42 45) 0) (name 46 50) [] (Some (Next (Evaluate (Assign (Name (name 59 60)) (mark w.Assign 61 62) (Call (name 63 69) (Then (Paren (mark w.LeftParen 70 71) (Paren (mark w.LeftParen 71 72) (Binary (Number (number 72 73)) (mark w.Star 74 75) (Paren (mark w.LeftParen 76 77) (SizeOfType (word w.SizeOf 77 83) (spelled (int 84 87) 0)))))) NoMore)))) (Next (Return (word w.Return 94 100) (Some (Number (number 101 102)))) End)))) ∷ []) 0 0 ∷
    -- int x; int *p; int *q; char *c; int a[3]; int main(void) { p = malloc(sizeof(int) * (x * 2)); return 0; }
    row (codes "int x; int *p; int *q; char *c; int a[3]; int main(void) { p = malloc(sizeof(int) * (x * 2)); return 0; }") ((Variables (int 0 3) ((declared (name 4 5) [] None) ∷ [])) ∷ (Variables (int 7 10) ((declared (name 12 13) (PointerTo ∷ []) None) ∷ [])) ∷ (Variables (int 15 18) ((declared (name 20 21) (PointerTo ∷ []) None) ∷ [])) ∷ (Variables (char 23 27) ((declared (name 29 30) (PointerTo ∷ []) None) ∷ [])) ∷ (Variables (int 32 35) ((declared (name 36 37) ((ArrayOf (Number (number 38 39))) ∷ []) None) ∷ [])) ∷ (Function (spelled (int 42 45) 0) (name 46 50) [] (Some (Next (Evaluate (Assign (Name (name 59 60)) (mark w.Assign 61 62) (Call (name 63 69) (Then (Binary (SizeOfType (word w.SizeOf 70 76) (spelled (int 77 80) 0)) (mark w.Star 82 83) (Paren (mark w.LeftParen 84 85) (Binary (Name (name 85 86)) (mark w.Star 87 88) (Number (number 89 90))))) NoMore)))) (Next (Return (word w.Return 94 100) (Some (Number (number 101 102)))) End)))) ∷ []) 0 0 ∷
    -- int x; int *p; int *q; char *c; int a[3]; int main(void) { p = malloc(x / 2 * sizeof(int)); return 0; }
    row (codes "int x; int *p; int *q; char *c; int a[3]; int main(void) { p = malloc(x / 2 * sizeof(int)); return 0; }") ((Variables (int 0 3) ((declared (name 4 5) [] None) ∷ [])) ∷ (Variables (int 7 10) ((declared (name 12 13) (PointerTo ∷ []) None) ∷ [])) ∷ (Variables (int 15 18) ((declared (name 20 21) (PointerTo ∷ []) None) ∷ [])) ∷ (Variables (char 23 27) ((declared (name 29 30) (PointerTo ∷ []) None) ∷ [])) ∷ (Variables (int 32 35) ((declared (name 36 37) ((ArrayOf (Number (number 38 39))) ∷ []) None) ∷ [])) ∷ (Function (spelled (int 42 45) 0) (name 46 50) [] (Some (Next (Evaluate (Assign (Name (name 59 60)) (mark w.Assign 61 62) (Call (name 63 69) (Then (Binary (Binary (Name (name 70 71)) (mark w.Slash 72 73) (Number (number 74 75))) (mark w.Star 76 77) (SizeOfType (word w.SizeOf 78 84) (spelled (int 85 88) 0))) NoMore)))) (Next (Return (word w.Return 92 98) (Some (Number (number 99 100)))) End)))) ∷ []) 0 0 ∷
    -- int x; int *p; int *q; char *c; int a[3]; int main(void) { p = malloc(sizeof a[0]); p = malloc(sizeof(x) * 2); return 0; }
    row (codes "int x; int *p; int *q; char *c; int a[3]; int main(void) { p = malloc(sizeof a[0]); p = malloc(sizeof(x) * 2); return 0; }") ((Variables (int 0 3) ((declared (name 4 5) [] None) ∷ [])) ∷ (Variables (int 7 10) ((declared (name 12 13) (PointerTo ∷ []) None) ∷ [])) ∷ (Variables (int 15 18) ((declared (name 20 21) (PointerTo ∷ []) None) ∷ [])) ∷ (Variables (char 23 27) ((declared (name 29 30) (PointerTo ∷ []) None) ∷ [])) ∷ (Variables (int 32 35) ((declared (name 36 37) ((ArrayOf (Number (number 38 39))) ∷ []) None) ∷ [])) ∷ (Function (spelled (int 42 45) 0) (name 46 50) [] (Some (Next (Evaluate (Assign (Name (name 59 60)) (mark w.Assign 61 62) (Call (name 63 69) (Then (SizeOf (word w.SizeOf 70 76) (Index (Name (name 77 78)) (mark w.LeftBracket 78 79) (Number (number 79 80)))) NoMore)))) (Next (Evaluate (Assign (Name (name 84 85)) (mark w.Assign 86 87) (Call (name 88 94) (Then (Binary (SizeOf (word w.SizeOf 95 101) (Paren (mark w.LeftParen 101 102) (Name (name 102 103)))) (mark w.Star 105 106) (Number (number 107 108))) NoMore)))) (Next (Return (word w.Return 111 117) (Some (Number (number 118 119)))) End))))) ∷ []) 0 0 ∷
    -- int x; int *p; int *q; char *c; int a[3]; int main(void) { p = malloc(5); return 0; }
    row (codes "int x; int *p; int *q; char *c; int a[3]; int main(void) { p = malloc(5); return 0; }") ((Variables (int 0 3) ((declared (name 4 5) [] None) ∷ [])) ∷ (Variables (int 7 10) ((declared (name 12 13) (PointerTo ∷ []) None) ∷ [])) ∷ (Variables (int 15 18) ((declared (name 20 21) (PointerTo ∷ []) None) ∷ [])) ∷ (Variables (char 23 27) ((declared (name 29 30) (PointerTo ∷ []) None) ∷ [])) ∷ (Variables (int 32 35) ((declared (name 36 37) ((ArrayOf (Number (number 38 39))) ∷ []) None) ∷ [])) ∷ (Function (spelled (int 42 45) 0) (name 46 50) [] (Some (Next (Evaluate (Assign (Name (name 59 60)) (mark w.Assign 61 62) (Call (name 63 69) (Then (Number (number 70 71)) NoMore)))) (Next (Return (word w.Return 74 80) (Some (Number (number 81 82)))) End)))) ∷ []) 123 64 ∷
    -- int x; int *p; int *q; char *c; int a[3]; int main(void) { p = malloc(y); return 0; }
    row (codes "int x; int *p; int *q; char *c; int a[3]; int main(void) { p = malloc(y); return 0; }") ((Variables (int 0 3) ((declared (name 4 5) [] None) ∷ [])) ∷ (Variables (int 7 10) ((declared (name 12 13) (PointerTo ∷ []) None) ∷ [])) ∷ (Variables (int 15 18) ((declared (name 20 21) (PointerTo ∷ []) None) ∷ [])) ∷ (Variables (char 23 27) ((declared (name 29 30) (PointerTo ∷ []) None) ∷ [])) ∷ (Variables (int 32 35) ((declared (name 36 37) ((ArrayOf (Number (number 38 39))) ∷ []) None) ∷ [])) ∷ (Function (spelled (int 42 45) 0) (name 46 50) [] (Some (Next (Evaluate (Assign (Name (name 59 60)) (mark w.Assign 61 62) (Call (name 63 69) (Then (Name (name 70 71)) NoMore)))) (Next (Return (word w.Return 74 80) (Some (Number (number 81 82)))) End)))) ∷ []) 121 71 ∷
    -- int x; int *p; int *q; char *c; int a[3]; struct s { int m; }; struct s s; struct s t; struct s *sp; int main(void) { p = malloc(s); return 0; }
    row (codes "int x; int *p; int *q; char *c; int a[3]; struct s { int m; }; struct s s; struct s t; struct s *sp; int main(void) { p = malloc(s); return 0; }") ((Variables (int 0 3) ((declared (name 4 5) [] None) ∷ [])) ∷ (Variables (int 7 10) ((declared (name 12 13) (PointerTo ∷ []) None) ∷ [])) ∷ (Variables (int 15 18) ((declared (name 20 21) (PointerTo ∷ []) None) ∷ [])) ∷ (Variables (char 23 27) ((declared (name 29 30) (PointerTo ∷ []) None) ∷ [])) ∷ (Variables (int 32 35) ((declared (name 36 37) ((ArrayOf (Number (number 38 39))) ∷ []) None) ∷ [])) ∷ (Struct (name 49 50) ((members (int 53 56) ((declarator (name 57 58) []) ∷ [])) ∷ []) []) ∷ (Variables (struct 70 71) ((declared (name 72 73) [] None) ∷ [])) ∷ (Variables (struct 82 83) ((declared (name 84 85) [] None) ∷ [])) ∷ (Variables (struct 94 95) ((declared (name 97 99) (PointerTo ∷ []) None) ∷ [])) ∷ (Function (spelled (int 101 104) 0) (name 105 109) [] (Some (Next (Evaluate (Assign (Name (name 118 119)) (mark w.Assign 120 121) (Call (name 122 128) (Then (Name (name 129 130)) NoMore)))) (Next (Return (word w.Return 133 139) (Some (Number (number 140 141)))) End)))) ∷ []) 129 130 ∷
    -- int x; int *p; int *q; char *c; int a[3]; int main(void) { p = malloc(x * sizeof(int) * x); return 0; }
    row (codes "int x; int *p; int *q; char *c; int a[3]; int main(void) { p = malloc(x * sizeof(int) * x); return 0; }") ((Variables (int 0 3) ((declared (name 4 5) [] None) ∷ [])) ∷ (Variables (int 7 10) ((declared (name 12 13) (PointerTo ∷ []) None) ∷ [])) ∷ (Variables (int 15 18) ((declared (name 20 21) (PointerTo ∷ []) None) ∷ [])) ∷ (Variables (char 23 27) ((declared (name 29 30) (PointerTo ∷ []) None) ∷ [])) ∷ (Variables (int 32 35) ((declared (name 36 37) ((ArrayOf (Number (number 38 39))) ∷ []) None) ∷ [])) ∷ (Function (spelled (int 42 45) 0) (name 46 50) [] (Some (Next (Evaluate (Assign (Name (name 59 60)) (mark w.Assign 61 62) (Call (name 63 69) (Then (Binary (Binary (Name (name 70 71)) (mark w.Star 72 73) (SizeOfType (word w.SizeOf 74 80) (spelled (int 81 84) 0))) (mark w.Star 86 87) (Name (name 88 89))) NoMore)))) (Next (Return (word w.Return 92 98) (Some (Number (number 99 100)))) End)))) ∷ []) 123 75 ∷
    -- int x; int *p; int *q; char *c; int a[3]; int main(void) { p = malloc(sizeof(int) * x * x); return 0; }
    row (codes "int x; int *p; int *q; char *c; int a[3]; int main(void) { p = malloc(sizeof(int) * x * x); return 0; }") ((Variables (int 0 3) ((declared (name 4 5) [] None) ∷ [])) ∷ (Variables (int 7 10) ((declared (name 12 13) (PointerTo ∷ []) None) ∷ [])) ∷ (Variables (int 15 18) ((declared (name 20 21) (PointerTo ∷ []) None) ∷ [])) ∷ (Variables (char 23 27) ((declared (name 29 30) (PointerTo ∷ []) None) ∷ [])) ∷ (Variables (int 32 35) ((declared (name 36 37) ((ArrayOf (Number (number 38 39))) ∷ []) None) ∷ [])) ∷ (Function (spelled (int 42 45) 0) (name 46 50) [] (Some (Next (Evaluate (Assign (Name (name 59 60)) (mark w.Assign 61 62) (Call (name 63 69) (Then (Binary (Binary (SizeOfType (word w.SizeOf 70 76) (spelled (int 77 80) 0)) (mark w.Star 82 83) (Name (name 84 85))) (mark w.Star 86 87) (Name (name 88 89))) NoMore)))) (Next (Return (word w.Return 92 98) (Some (Number (number 99 100)))) End)))) ∷ []) 123 71 ∷
    -- int x; int *p; int *q; char *c; int a[3]; int main(void) { p = malloc(sizeof(int) * sizeof(int)); return 0; }
    row (codes "int x; int *p; int *q; char *c; int a[3]; int main(void) { p = malloc(sizeof(int) * sizeof(int)); return 0; }") ((Variables (int 0 3) ((declared (name 4 5) [] None) ∷ [])) ∷ (Variables (int 7 10) ((declared (name 12 13) (PointerTo ∷ []) None) ∷ [])) ∷ (Variables (int 15 18) ((declared (name 20 21) (PointerTo ∷ []) None) ∷ [])) ∷ (Variables (char 23 27) ((declared (name 29 30) (PointerTo ∷ []) None) ∷ [])) ∷ (Variables (int 32 35) ((declared (name 36 37) ((ArrayOf (Number (number 38 39))) ∷ []) None) ∷ [])) ∷ (Function (spelled (int 42 45) 0) (name 46 50) [] (Some (Next (Evaluate (Assign (Name (name 59 60)) (mark w.Assign 61 62) (Call (name 63 69) (Then (Binary (SizeOfType (word w.SizeOf 70 76) (spelled (int 77 80) 0)) (mark w.Star 82 83) (SizeOfType (word w.SizeOf 84 90) (spelled (int 91 94) 0))) NoMore)))) (Next (Return (word w.Return 98 104) (Some (Number (number 105 106)))) End)))) ∷ []) 123 71 ∷
    -- int x; int *p; int *q; char *c; int a[3]; int main(void) { p = malloc(sizeof(int) + 1); return 0; }
    row (codes "int x; int *p; int *q; char *c; int a[3]; int main(void) { p = malloc(sizeof(int) + 1); return 0; }") ((Variables (int 0 3) ((declared (name 4 5) [] None) ∷ [])) ∷ (Variables (int 7 10) ((declared (name 12 13) (PointerTo ∷ []) None) ∷ [])) ∷ (Variables (int 15 18) ((declared (name 20 21) (PointerTo ∷ []) None) ∷ [])) ∷ (Variables (char 23 27) ((declared (name 29 30) (PointerTo ∷ []) None) ∷ [])) ∷ (Variables (int 32 35) ((declared (name 36 37) ((ArrayOf (Number (number 38 39))) ∷ []) None) ∷ [])) ∷ (Function (spelled (int 42 45) 0) (name 46 50) [] (Some (Next (Evaluate (Assign (Name (name 59 60)) (mark w.Assign 61 62) (Call (name 63 69) (Then (Binary (SizeOfType (word w.SizeOf 70 76) (spelled (int 77 80) 0)) (mark w.Plus 82 83) (Number (number 84 85))) NoMore)))) (Next (Return (word w.Return 88 94) (Some (Number (number 95 96)))) End)))) ∷ []) 123 71 ∷
    -- int x; int *p; int *q; char *c; int a[3]; int main(void) { p = malloc(sizeof(int) / 2); return 0; }
    row (codes "int x; int *p; int *q; char *c; int a[3]; int main(void) { p = malloc(sizeof(int) / 2); return 0; }") ((Variables (int 0 3) ((declared (name 4 5) [] None) ∷ [])) ∷ (Variables (int 7 10) ((declared (name 12 13) (PointerTo ∷ []) None) ∷ [])) ∷ (Variables (int 15 18) ((declared (name 20 21) (PointerTo ∷ []) None) ∷ [])) ∷ (Variables (char 23 27) ((declared (name 29 30) (PointerTo ∷ []) None) ∷ [])) ∷ (Variables (int 32 35) ((declared (name 36 37) ((ArrayOf (Number (number 38 39))) ∷ []) None) ∷ [])) ∷ (Function (spelled (int 42 45) 0) (name 46 50) [] (Some (Next (Evaluate (Assign (Name (name 59 60)) (mark w.Assign 61 62) (Call (name 63 69) (Then (Binary (SizeOfType (word w.SizeOf 70 76) (spelled (int 77 80) 0)) (mark w.Slash 82 83) (Number (number 84 85))) NoMore)))) (Next (Return (word w.Return 88 94) (Some (Number (number 95 96)))) End)))) ∷ []) 123 71 ∷
    -- int x; int *p; int *q; char *c; int a[3]; int main(void) { p = malloc(-sizeof(int)); return 0; }
    row (codes "int x; int *p; int *q; char *c; int a[3]; int main(void) { p = malloc(-sizeof(int)); return 0; }") ((Variables (int 0 3) ((declared (name 4 5) [] None) ∷ [])) ∷ (Variables (int 7 10) ((declared (name 12 13) (PointerTo ∷ []) None) ∷ [])) ∷ (Variables (int 15 18) ((declared (name 20 21) (PointerTo ∷ []) None) ∷ [])) ∷ (Variables (char 23 27) ((declared (name 29 30) (PointerTo ∷ []) None) ∷ [])) ∷ (Variables (int 32 35) ((declared (name 36 37) ((ArrayOf (Number (number 38 39))) ∷ []) None) ∷ [])) ∷ (Function (spelled (int 42 45) 0) (name 46 50) [] (Some (Next (Evaluate (Assign (Name (name 59 60)) (mark w.Assign 61 62) (Call (name 63 69) (Then (Prefix (mark w.Minus 70 71) (SizeOfType (word w.SizeOf 71 77) (spelled (int 78 81) 0))) NoMore)))) (Next (Return (word w.Return 85 91) (Some (Number (number 92 93)))) End)))) ∷ []) 123 72 ∷
    -- int x; int *p; int *q; char *c; int a[3]; int main(void) { p = malloc((int) sizeof(int)); return 0; }
    row (codes "int x; int *p; int *q; char *c; int a[3]; int main(void) { p = malloc((int) sizeof(int)); return 0; }") ((Variables (int 0 3) ((declared (name 4 5) [] None) ∷ [])) ∷ (Variables (int 7 10) ((declared (name 12 13) (PointerTo ∷ []) None) ∷ [])) ∷ (Variables (int 15 18) ((declared (name 20 21) (PointerTo ∷ []) None) ∷ [])) ∷ (Variables (char 23 27) ((declared (name 29 30) (PointerTo ∷ []) None) ∷ [])) ∷ (Variables (int 32 35) ((declared (name 36 37) ((ArrayOf (Number (number 38 39))) ∷ []) None) ∷ [])) ∷ (Function (spelled (int 42 45) 0) (name 46 50) [] (Some (Next (Evaluate (Assign (Name (name 59 60)) (mark w.Assign 61 62) (Call (name 63 69) (Then (Cast (mark w.LeftParen 70 71) (spelled (int 71 74) 0) (SizeOfType (word w.SizeOf 76 82) (spelled (int 83 86) 0))) NoMore)))) (Next (Return (word w.Return 90 96) (Some (Number (number 97 98)))) End)))) ∷ []) 123 77 ∷
    -- int x; int *p; int *q; char *c; int a[3]; int main(void) { p = malloc(p * sizeof(int)); return 0; }
    row (codes "int x; int *p; int *q; char *c; int a[3]; int main(void) { p = malloc(p * sizeof(int)); return 0; }") ((Variables (int 0 3) ((declared (name 4 5) [] None) ∷ [])) ∷ (Variables (int 7 10) ((declared (name 12 13) (PointerTo ∷ []) None) ∷ [])) ∷ (Variables (int 15 18) ((declared (name 20 21) (PointerTo ∷ []) None) ∷ [])) ∷ (Variables (char 23 27) ((declared (name 29 30) (PointerTo ∷ []) None) ∷ [])) ∷ (Variables (int 32 35) ((declared (name 36 37) ((ArrayOf (Number (number 38 39))) ∷ []) None) ∷ [])) ∷ (Function (spelled (int 42 45) 0) (name 46 50) [] (Some (Next (Evaluate (Assign (Name (name 59 60)) (mark w.Assign 61 62) (Call (name 63 69) (Then (Binary (Name (name 70 71)) (mark w.Star 72 73) (SizeOfType (word w.SizeOf 74 80) (spelled (int 81 84) 0))) NoMore)))) (Next (Return (word w.Return 88 94) (Some (Number (number 95 96)))) End)))) ∷ []) 123 73 ∷
    -- int x; int *p; int *q; char *c; int a[3]; int main(void) { p = malloc(sizeof(int) * p); return 0; }
    row (codes "int x; int *p; int *q; char *c; int a[3]; int main(void) { p = malloc(sizeof(int) * p); return 0; }") ((Variables (int 0 3) ((declared (name 4 5) [] None) ∷ [])) ∷ (Variables (int 7 10) ((declared (name 12 13) (PointerTo ∷ []) None) ∷ [])) ∷ (Variables (int 15 18) ((declared (name 20 21) (PointerTo ∷ []) None) ∷ [])) ∷ (Variables (char 23 27) ((declared (name 29 30) (PointerTo ∷ []) None) ∷ [])) ∷ (Variables (int 32 35) ((declared (name 36 37) ((ArrayOf (Number (number 38 39))) ∷ []) None) ∷ [])) ∷ (Function (spelled (int 42 45) 0) (name 46 50) [] (Some (Next (Evaluate (Assign (Name (name 59 60)) (mark w.Assign 61 62) (Call (name 63 69) (Then (Binary (SizeOfType (word w.SizeOf 70 76) (spelled (int 77 80) 0)) (mark w.Star 82 83) (Name (name 84 85))) NoMore)))) (Next (Return (word w.Return 88 94) (Some (Number (number 95 96)))) End)))) ∷ []) 123 83 ∷
    -- int x; int *p; int *q; char *c; int a[3]; int main(void) { p = malloc(y * sizeof(int)); return 0; }
    row (codes "int x; int *p; int *q; char *c; int a[3]; int main(void) { p = malloc(y * sizeof(int)); return 0; }") ((Variables (int 0 3) ((declared (name 4 5) [] None) ∷ [])) ∷ (Variables (int 7 10) ((declared (name 12 13) (PointerTo ∷ []) None) ∷ [])) ∷ (Variables (int 15 18) ((declared (name 20 21) (PointerTo ∷ []) None) ∷ [])) ∷ (Variables (char 23 27) ((declared (name 29 30) (PointerTo ∷ []) None) ∷ [])) ∷ (Variables (int 32 35) ((declared (name 36 37) ((ArrayOf (Number (number 38 39))) ∷ []) None) ∷ [])) ∷ (Function (spelled (int 42 45) 0) (name 46 50) [] (Some (Next (Evaluate (Assign (Name (name 59 60)) (mark w.Assign 61 62) (Call (name 63 69) (Then (Binary (Name (name 70 71)) (mark w.Star 72 73) (SizeOfType (word w.SizeOf 74 80) (spelled (int 81 84) 0))) NoMore)))) (Next (Return (word w.Return 88 94) (Some (Number (number 95 96)))) End)))) ∷ []) 121 71 ∷
    -- int x; int *p; int *q; char *c; int a[3]; int main(void) { p = malloc(y * sizeof(struct t)); return 0; }
    row (codes "int x; int *p; int *q; char *c; int a[3]; int main(void) { p = malloc(y * sizeof(struct t)); return 0; }") ((Variables (int 0 3) ((declared (name 4 5) [] None) ∷ [])) ∷ (Variables (int 7 10) ((declared (name 12 13) (PointerTo ∷ []) None) ∷ [])) ∷ (Variables (int 15 18) ((declared (name 20 21) (PointerTo ∷ []) None) ∷ [])) ∷ (Variables (char 23 27) ((declared (name 29 30) (PointerTo ∷ []) None) ∷ [])) ∷ (Variables (int 32 35) ((declared (name 36 37) ((ArrayOf (Number (number 38 39))) ∷ []) None) ∷ [])) ∷ (Function (spelled (int 42 45) 0) (name 46 50) [] (Some (Next (Evaluate (Assign (Name (name 59 60)) (mark w.Assign 61 62) (Call (name 63 69) (Then (Binary (Name (name 70 71)) (mark w.Star 72 73) (SizeOfType (word w.SizeOf 74 80) (spelled (struct 88 89) 0))) NoMore)))) (Next (Return (word w.Return 93 99) (Some (Number (number 100 101)))) End)))) ∷ []) 121 71 ∷
    -- int x; int *p; int *q; char *c; int a[3]; int main(void) { p = malloc(p * sizeof(struct t)); return 0; }
    row (codes "int x; int *p; int *q; char *c; int a[3]; int main(void) { p = malloc(p * sizeof(struct t)); return 0; }") ((Variables (int 0 3) ((declared (name 4 5) [] None) ∷ [])) ∷ (Variables (int 7 10) ((declared (name 12 13) (PointerTo ∷ []) None) ∷ [])) ∷ (Variables (int 15 18) ((declared (name 20 21) (PointerTo ∷ []) None) ∷ [])) ∷ (Variables (char 23 27) ((declared (name 29 30) (PointerTo ∷ []) None) ∷ [])) ∷ (Variables (int 32 35) ((declared (name 36 37) ((ArrayOf (Number (number 38 39))) ∷ []) None) ∷ [])) ∷ (Function (spelled (int 42 45) 0) (name 46 50) [] (Some (Next (Evaluate (Assign (Name (name 59 60)) (mark w.Assign 61 62) (Call (name 63 69) (Then (Binary (Name (name 70 71)) (mark w.Star 72 73) (SizeOfType (word w.SizeOf 74 80) (spelled (struct 88 89) 0))) NoMore)))) (Next (Return (word w.Return 93 99) (Some (Number (number 100 101)))) End)))) ∷ []) 121 89 ∷
    -- int x; int *p; int *q; char *c; int a[3]; int main(void) { p = malloc(p * sizeof a); return 0; }
    row (codes "int x; int *p; int *q; char *c; int a[3]; int main(void) { p = malloc(p * sizeof a); return 0; }") ((Variables (int 0 3) ((declared (name 4 5) [] None) ∷ [])) ∷ (Variables (int 7 10) ((declared (name 12 13) (PointerTo ∷ []) None) ∷ [])) ∷ (Variables (int 15 18) ((declared (name 20 21) (PointerTo ∷ []) None) ∷ [])) ∷ (Variables (char 23 27) ((declared (name 29 30) (PointerTo ∷ []) None) ∷ [])) ∷ (Variables (int 32 35) ((declared (name 36 37) ((ArrayOf (Number (number 38 39))) ∷ []) None) ∷ [])) ∷ (Function (spelled (int 42 45) 0) (name 46 50) [] (Some (Next (Evaluate (Assign (Name (name 59 60)) (mark w.Assign 61 62) (Call (name 63 69) (Then (Binary (Name (name 70 71)) (mark w.Star 72 73) (SizeOf (word w.SizeOf 74 80) (Name (name 81 82)))) NoMore)))) (Next (Return (word w.Return 85 91) (Some (Number (number 92 93)))) End)))) ∷ []) 123 73 ∷
    -- int x; int *p; int *q; char *c; int a[3]; int main(void) { p = malloc(sizeof(struct t) * y); return 0; }
    row (codes "int x; int *p; int *q; char *c; int a[3]; int main(void) { p = malloc(sizeof(struct t) * y); return 0; }") ((Variables (int 0 3) ((declared (name 4 5) [] None) ∷ [])) ∷ (Variables (int 7 10) ((declared (name 12 13) (PointerTo ∷ []) None) ∷ [])) ∷ (Variables (int 15 18) ((declared (name 20 21) (PointerTo ∷ []) None) ∷ [])) ∷ (Variables (char 23 27) ((declared (name 29 30) (PointerTo ∷ []) None) ∷ [])) ∷ (Variables (int 32 35) ((declared (name 36 37) ((ArrayOf (Number (number 38 39))) ∷ []) None) ∷ [])) ∷ (Function (spelled (int 42 45) 0) (name 46 50) [] (Some (Next (Evaluate (Assign (Name (name 59 60)) (mark w.Assign 61 62) (Call (name 63 69) (Then (Binary (SizeOfType (word w.SizeOf 70 76) (spelled (struct 84 85) 0)) (mark w.Star 87 88) (Name (name 89 90))) NoMore)))) (Next (Return (word w.Return 93 99) (Some (Number (number 100 101)))) End)))) ∷ []) 121 85 ∷ []

pub requests : outcomes requests_rows ≡ refusals requests_rows
unfolding checked_rules.kept checked_rules.unless checked_rules.none_of environment_rules.found_in environment_rules.found environment_rules.specified environment_rules.with_stars environment_rules.spelled_type nodes_rules.first_place judgements_rules.shape judgements_rules.on_pointers judgements_rules.arithmetic judgements_rules.relation judgements_rules.operation judgements_rules.conversion judgements_rules.selection judgements_rules.cast_conversion judgements_rules.compound_operation operands_rules.loaded operands_rules.value operands_rules.condition operands_rules.brought operands_rules.fitted operators_rules.unit operators_rules.computed operators_rules.combined operators_rules.selected operators_rules.choice_of operators_rules.cast_by operators_rules.cast operators_rules.promoting operators_rules.negation operators_rules.address operators_rules.dereferenced assignments_rules.assigned assignments_rules.updated assignments_rules.compound assignments_rules.stepped subobjects_rules.base_of subobjects_rules.indexed subobjects_rules.dot subobjects_rules.arrow allocation_rules.objects allocation_rules.product allocation_rules.allocated allocation_rules.freed expressions_rules.full expressions_rules.operand expressions_rules.arguments expressions_rules.only_value expressions_rules.only_request expressions_rules.requested expressions_rules.measured constant_expressions_rules.is_constant constant_expressions_rules.value_of constant_expressions_rules.constant constant_expressions_rules.size_of_array constant_expressions_rules.part_of constant_expressions_rules.is_literal constant_expressions_rules.has_literal_indices constant_expressions_rules.initial_value declarations_rules.size declarations_rules.layers declarations_rules.layered declarations_rules.element_number declarations_rules.is_complete declarations_rules.is_within_limit initialisers_rules.parts initialisers_rules.zeros initialisers_rules.alone initialisers_rules.all_alone initialisers_rules.cells initialisers_rules.elements statements_rules.in_scope statements_rules.init_statements statements_rules.declare_one statements_rules.declare_all statements_rules.declare statements_rules.statement statements_rules.statements weights_rules.declared_weight weights_rules.item_weight weights_rules.initialiser_nodes weights_rules.elements_nodes weights_rules.continues weights_rules.all_continues weights_rules.statement_weight weights_rules.statements_weight file_scope_rules.file_scope file_scope_rules.variable file_scope_rules.variables structs_rules.member structs_rules.member_list structs_rules.all_members structs_rules.structure functions_rules.parameter functions_rules.parameters functions_rules.declarable_function functions_rules.replaced functions_rules.defined_as functions_rules.function programs_rules.item programs_rules.items programs_rules.whole programs_rules.elaborated programs_rules.elaboration number_rules.radix_of number_rules.value_of number_rules.number_value number_rules.constant_of number_rules.constant_with number_rules.first_holding number_rules.constant_types number_rules.number_of number_rules.suffix_of lexeme_rules.character_value type_rows.shape-the_row-CType-0 type_rows.hidden-the_row-CType-0 expression_rows.shape-the_row-Expr-0 expression_rows.hidden-the_row-Expr-0 expression_rows.shape-the_row-Expr-1 expression_rows.hidden-the_row-Expr-1 expression_rows.shape-the_row-Place_-2 expression_rows.hidden-the_row-Place_-2 statement_rows.shape-the_row-Stmt-0 statement_rows.hidden-the_row-Stmt-0 statement_rows.shape-the_row-Stmt-1 statement_rows.hidden-the_row-Stmt-1 hidden
requests = refl

-- the type is complete, one that a type name spells, and not `void`
abbrev objects_rows : List Row
objects_rows =
    -- struct s { int m; }; struct s s; struct s t; struct s *sp; int main(void) { sp = malloc(sizeof(struct s)); sp = malloc(3 * sizeof *sp); sp = malloc(sizeof s); return 0; }
    row (codes "struct s { int m; }; struct s s; struct s t; struct s *sp; int main(void) { sp = malloc(sizeof(struct s)); sp = malloc(3 * sizeof *sp); sp = malloc(sizeof s); return 0; }") ((Struct (name 7 8) ((members (int 11 14) ((declarator (name 15 16) []) ∷ [])) ∷ []) []) ∷ (Variables (struct 28 29) ((declared (name 30 31) [] None) ∷ [])) ∷ (Variables (struct 40 41) ((declared (name 42 43) [] None) ∷ [])) ∷ (Variables (struct 52 53) ((declared (name 55 57) (PointerTo ∷ []) None) ∷ [])) ∷ (Function (spelled (int 59 62) 0) (name 63 67) [] (Some (Next (Evaluate (Assign (Name (name 76 78)) (mark w.Assign 79 80) (Call (name 81 87) (Then (SizeOfType (word w.SizeOf 88 94) (spelled (struct 102 103) 0)) NoMore)))) (Next (Evaluate (Assign (Name (name 107 109)) (mark w.Assign 110 111) (Call (name 112 118) (Then (Binary (Number (number 119 120)) (mark w.Star 121 122) (SizeOf (word w.SizeOf 123 129) (Prefix (mark w.Star 130 131) (Name (name 131 133))))) NoMore)))) (Next (Evaluate (Assign (Name (name 136 138)) (mark w.Assign 139 140) (Call (name 141 147) (Then (SizeOf (word w.SizeOf 148 154) (Name (name 155 156))) NoMore)))) (Next (Return (word w.Return 159 165) (Some (Number (number 166 167)))) End)))))) ∷ []) 0 0 ∷
    -- int x; int *p; int *q; char *c; int a[3]; int main(void) { int **pp = malloc(4 * sizeof(int *)); int **pq = malloc(sizeof p); return 0; }
    row (codes "int x; int *p; int *q; char *c; int a[3]; int main(void) { int **pp = malloc(4 * sizeof(int *)); int **pq = malloc(sizeof p); return 0; }") ((Variables (int 0 3) ((declared (name 4 5) [] None) ∷ [])) ∷ (Variables (int 7 10) ((declared (name 12 13) (PointerTo ∷ []) None) ∷ [])) ∷ (Variables (int 15 18) ((declared (name 20 21) (PointerTo ∷ []) None) ∷ [])) ∷ (Variables (char 23 27) ((declared (name 29 30) (PointerTo ∷ []) None) ∷ [])) ∷ (Variables (int 32 35) ((declared (name 36 37) ((ArrayOf (Number (number 38 39))) ∷ []) None) ∷ [])) ∷ (Function (spelled (int 42 45) 0) (name 46 50) [] (Some (Next (Declare (local (int 59 62) ((declared (name 65 67) (PointerTo ∷ PointerTo ∷ []) (Some (Value (Call (name 70 76) (Then (Binary (Number (number 77 78)) (mark w.Star 79 80) (SizeOfType (word w.SizeOf 81 87) (spelled (int 88 91) 1))) NoMore))))) ∷ []))) (Next (Declare (local (int 97 100) ((declared (name 103 105) (PointerTo ∷ PointerTo ∷ []) (Some (Value (Call (name 108 114) (Then (SizeOf (word w.SizeOf 115 121) (Name (name 122 123))) NoMore))))) ∷ []))) (Next (Return (word w.Return 126 132) (Some (Number (number 133 134)))) End))))) ∷ []) 0 0 ∷
    -- int x; int *p; int *q; char *c; int a[3]; int main(void) { p = malloc(sizeof a); return 0; }
    row (codes "int x; int *p; int *q; char *c; int a[3]; int main(void) { p = malloc(sizeof a); return 0; }") ((Variables (int 0 3) ((declared (name 4 5) [] None) ∷ [])) ∷ (Variables (int 7 10) ((declared (name 12 13) (PointerTo ∷ []) None) ∷ [])) ∷ (Variables (int 15 18) ((declared (name 20 21) (PointerTo ∷ []) None) ∷ [])) ∷ (Variables (char 23 27) ((declared (name 29 30) (PointerTo ∷ []) None) ∷ [])) ∷ (Variables (int 32 35) ((declared (name 36 37) ((ArrayOf (Number (number 38 39))) ∷ []) None) ∷ [])) ∷ (Function (spelled (int 42 45) 0) (name 46 50) [] (Some (Next (Evaluate (Assign (Name (name 59 60)) (mark w.Assign 61 62) (Call (name 63 69) (Then (SizeOf (word w.SizeOf 70 76) (Name (name 77 78))) NoMore)))) (Next (Return (word w.Return 81 87) (Some (Number (number 88 89)))) End)))) ∷ []) 123 64 ∷
    -- int x; int *p; int *q; char *c; int a[3]; int main(void) { malloc(sizeof(void)); return 0; }
    row (codes "int x; int *p; int *q; char *c; int a[3]; int main(void) { malloc(sizeof(void)); return 0; }") ((Variables (int 0 3) ((declared (name 4 5) [] None) ∷ [])) ∷ (Variables (int 7 10) ((declared (name 12 13) (PointerTo ∷ []) None) ∷ [])) ∷ (Variables (int 15 18) ((declared (name 20 21) (PointerTo ∷ []) None) ∷ [])) ∷ (Variables (char 23 27) ((declared (name 29 30) (PointerTo ∷ []) None) ∷ [])) ∷ (Variables (int 32 35) ((declared (name 36 37) ((ArrayOf (Number (number 38 39))) ∷ []) None) ∷ [])) ∷ (Function (spelled (int 42 45) 0) (name 46 50) [] (Some (Next (Evaluate (Call (name 59 65) (Then (SizeOfType (word w.SizeOf 66 72) (spelled (void 73 77) 0)) NoMore))) (Next (Return (word w.Return 81 87) (Some (Number (number 88 89)))) End)))) ∷ []) 123 60 ∷
    -- int x; int *p; int *q; char *c; int a[3]; int main(void) { malloc(sizeof(void *)); return 0; }
    row (codes "int x; int *p; int *q; char *c; int a[3]; int main(void) { malloc(sizeof(void *)); return 0; }") ((Variables (int 0 3) ((declared (name 4 5) [] None) ∷ [])) ∷ (Variables (int 7 10) ((declared (name 12 13) (PointerTo ∷ []) None) ∷ [])) ∷ (Variables (int 15 18) ((declared (name 20 21) (PointerTo ∷ []) None) ∷ [])) ∷ (Variables (char 23 27) ((declared (name 29 30) (PointerTo ∷ []) None) ∷ [])) ∷ (Variables (int 32 35) ((declared (name 36 37) ((ArrayOf (Number (number 38 39))) ∷ []) None) ∷ [])) ∷ (Function (spelled (int 42 45) 0) (name 46 50) [] (Some (Next (Evaluate (Call (name 59 65) (Then (SizeOfType (word w.SizeOf 66 72) (spelled (void 73 77) 1)) NoMore))) (Next (Return (word w.Return 83 89) (Some (Number (number 90 91)))) End)))) ∷ []) 123 60 ∷
    -- int x; int *p; int *q; char *c; int a[3]; int main(void) { malloc(2 * sizeof &a); return 0; }
    row (codes "int x; int *p; int *q; char *c; int a[3]; int main(void) { malloc(2 * sizeof &a); return 0; }") ((Variables (int 0 3) ((declared (name 4 5) [] None) ∷ [])) ∷ (Variables (int 7 10) ((declared (name 12 13) (PointerTo ∷ []) None) ∷ [])) ∷ (Variables (int 15 18) ((declared (name 20 21) (PointerTo ∷ []) None) ∷ [])) ∷ (Variables (char 23 27) ((declared (name 29 30) (PointerTo ∷ []) None) ∷ [])) ∷ (Variables (int 32 35) ((declared (name 36 37) ((ArrayOf (Number (number 38 39))) ∷ []) None) ∷ [])) ∷ (Function (spelled (int 42 45) 0) (name 46 50) [] (Some (Next (Evaluate (Call (name 59 65) (Then (Binary (Number (number 66 67)) (mark w.Star 68 69) (SizeOf (word w.SizeOf 70 76) (Prefix (mark w.Ampersand 77 78) (Name (name 78 79))))) NoMore))) (Next (Return (word w.Return 82 88) (Some (Number (number 89 90)))) End)))) ∷ []) 123 60 ∷
    -- void f(void) { } int x; int *p; int *q; char *c; int a[3]; int main(void) { malloc(sizeof f()); return 0; }
    row (codes "void f(void) { } int x; int *p; int *q; char *c; int a[3]; int main(void) { malloc(sizeof f()); return 0; }") ((Function (spelled (void 0 4) 0) (name 5 6) [] (Some End)) ∷ (Variables (int 17 20) ((declared (name 21 22) [] None) ∷ [])) ∷ (Variables (int 24 27) ((declared (name 29 30) (PointerTo ∷ []) None) ∷ [])) ∷ (Variables (int 32 35) ((declared (name 37 38) (PointerTo ∷ []) None) ∷ [])) ∷ (Variables (char 40 44) ((declared (name 46 47) (PointerTo ∷ []) None) ∷ [])) ∷ (Variables (int 49 52) ((declared (name 53 54) ((ArrayOf (Number (number 55 56))) ∷ []) None) ∷ [])) ∷ (Function (spelled (int 59 62) 0) (name 63 67) [] (Some (Next (Evaluate (Call (name 76 82) (Then (SizeOf (word w.SizeOf 83 89) (Call (name 90 91) NoMore)) NoMore))) (Next (Return (word w.Return 96 102) (Some (Number (number 103 104)))) End)))) ∷ []) 123 77 ∷
    -- int x; int *p; int *q; char *c; int a[3]; int main(void) { malloc(sizeof 0); return 0; }
    row (codes "int x; int *p; int *q; char *c; int a[3]; int main(void) { malloc(sizeof 0); return 0; }") ((Variables (int 0 3) ((declared (name 4 5) [] None) ∷ [])) ∷ (Variables (int 7 10) ((declared (name 12 13) (PointerTo ∷ []) None) ∷ [])) ∷ (Variables (int 15 18) ((declared (name 20 21) (PointerTo ∷ []) None) ∷ [])) ∷ (Variables (char 23 27) ((declared (name 29 30) (PointerTo ∷ []) None) ∷ [])) ∷ (Variables (int 32 35) ((declared (name 36 37) ((ArrayOf (Number (number 38 39))) ∷ []) None) ∷ [])) ∷ (Function (spelled (int 42 45) 0) (name 46 50) [] (Some (Next (Evaluate (Call (name 59 65) (Then (SizeOf (word w.SizeOf 66 72) (Number (number 73 74))) NoMore))) (Next (Return (word w.Return 77 83) (Some (Number (number 84 85)))) End)))) ∷ []) 0 0 ∷
    -- int f(void) { return 0; } int x; int *p; int *q; char *c; int a[3]; int main(void) { malloc(sizeof f); return 0; }
    row (codes "int f(void) { return 0; } int x; int *p; int *q; char *c; int a[3]; int main(void) { malloc(sizeof f); return 0; }") ((Function (spelled (int 0 3) 0) (name 4 5) [] (Some (Next (Return (word w.Return 14 20) (Some (Number (number 21 22)))) End))) ∷ (Variables (int 26 29) ((declared (name 30 31) [] None) ∷ [])) ∷ (Variables (int 33 36) ((declared (name 38 39) (PointerTo ∷ []) None) ∷ [])) ∷ (Variables (int 41 44) ((declared (name 46 47) (PointerTo ∷ []) None) ∷ [])) ∷ (Variables (char 49 53) ((declared (name 55 56) (PointerTo ∷ []) None) ∷ [])) ∷ (Variables (int 58 61) ((declared (name 62 63) ((ArrayOf (Number (number 64 65))) ∷ []) None) ∷ [])) ∷ (Function (spelled (int 68 71) 0) (name 72 76) [] (Some (Next (Evaluate (Call (name 85 91) (Then (SizeOf (word w.SizeOf 92 98) (Name (name 99 100))) NoMore))) (Next (Return (word w.Return 103 109) (Some (Number (number 110 111)))) End)))) ∷ []) 123 100 ∷
    -- int x; int *p; int *q; char *c; int a[3]; int main(void) { malloc(sizeof(sizeof(int))); return 0; }
    row (codes "int x; int *p; int *q; char *c; int a[3]; int main(void) { malloc(sizeof(sizeof(int))); return 0; }") ((Variables (int 0 3) ((declared (name 4 5) [] None) ∷ [])) ∷ (Variables (int 7 10) ((declared (name 12 13) (PointerTo ∷ []) None) ∷ [])) ∷ (Variables (int 15 18) ((declared (name 20 21) (PointerTo ∷ []) None) ∷ [])) ∷ (Variables (char 23 27) ((declared (name 29 30) (PointerTo ∷ []) None) ∷ [])) ∷ (Variables (int 32 35) ((declared (name 36 37) ((ArrayOf (Number (number 38 39))) ∷ []) None) ∷ [])) ∷ (Function (spelled (int 42 45) 0) (name 46 50) [] (Some (Next (Evaluate (Call (name 59 65) (Then (SizeOf (word w.SizeOf 66 72) (Paren (mark w.LeftParen 72 73) (SizeOfType (word w.SizeOf 73 79) (spelled (int 80 83) 0)))) NoMore))) (Next (Return (word w.Return 88 94) (Some (Number (number 95 96)))) End)))) ∷ []) 123 74 ∷
    -- int x; int *p; int *q; char *c; int a[3]; int main(void) { c = malloc(sizeof(int)); return 0; }
    row (codes "int x; int *p; int *q; char *c; int a[3]; int main(void) { c = malloc(sizeof(int)); return 0; }") ((Variables (int 0 3) ((declared (name 4 5) [] None) ∷ [])) ∷ (Variables (int 7 10) ((declared (name 12 13) (PointerTo ∷ []) None) ∷ [])) ∷ (Variables (int 15 18) ((declared (name 20 21) (PointerTo ∷ []) None) ∷ [])) ∷ (Variables (char 23 27) ((declared (name 29 30) (PointerTo ∷ []) None) ∷ [])) ∷ (Variables (int 32 35) ((declared (name 36 37) ((ArrayOf (Number (number 38 39))) ∷ []) None) ∷ [])) ∷ (Function (spelled (int 42 45) 0) (name 46 50) [] (Some (Next (Evaluate (Assign (Name (name 59 60)) (mark w.Assign 61 62) (Call (name 63 69) (Then (SizeOfType (word w.SizeOf 70 76) (spelled (int 77 80) 0)) NoMore)))) (Next (Return (word w.Return 84 90) (Some (Number (number 91 92)))) End)))) ∷ []) 123 62 ∷
    -- int x; int *p; int *q; char *c; int a[3]; int main(void) { x = malloc(sizeof(int)); return 0; }
    row (codes "int x; int *p; int *q; char *c; int a[3]; int main(void) { x = malloc(sizeof(int)); return 0; }") ((Variables (int 0 3) ((declared (name 4 5) [] None) ∷ [])) ∷ (Variables (int 7 10) ((declared (name 12 13) (PointerTo ∷ []) None) ∷ [])) ∷ (Variables (int 15 18) ((declared (name 20 21) (PointerTo ∷ []) None) ∷ [])) ∷ (Variables (char 23 27) ((declared (name 29 30) (PointerTo ∷ []) None) ∷ [])) ∷ (Variables (int 32 35) ((declared (name 36 37) ((ArrayOf (Number (number 38 39))) ∷ []) None) ∷ [])) ∷ (Function (spelled (int 42 45) 0) (name 46 50) [] (Some (Next (Evaluate (Assign (Name (name 59 60)) (mark w.Assign 61 62) (Call (name 63 69) (Then (SizeOfType (word w.SizeOf 70 76) (spelled (int 77 80) 0)) NoMore)))) (Next (Return (word w.Return 84 90) (Some (Number (number 91 92)))) End)))) ∷ []) 123 62 ∷
    -- int x; int *p; int *q; char *c; int a[3]; struct s { int m; }; struct s s; struct s t; struct s *sp; int main(void) { p = malloc(sizeof(int)) + 1; *malloc(sizeof(int)) = 2; malloc(sizeof(struct s))->m = 1; return 0; }
    row (codes "int x; int *p; int *q; char *c; int a[3]; struct s { int m; }; struct s s; struct s t; struct s *sp; int main(void) { p = malloc(sizeof(int)) + 1; *malloc(sizeof(int)) = 2; malloc(sizeof(struct s))->m = 1; return 0; }") ((Variables (int 0 3) ((declared (name 4 5) [] None) ∷ [])) ∷ (Variables (int 7 10) ((declared (name 12 13) (PointerTo ∷ []) None) ∷ [])) ∷ (Variables (int 15 18) ((declared (name 20 21) (PointerTo ∷ []) None) ∷ [])) ∷ (Variables (char 23 27) ((declared (name 29 30) (PointerTo ∷ []) None) ∷ [])) ∷ (Variables (int 32 35) ((declared (name 36 37) ((ArrayOf (Number (number 38 39))) ∷ []) None) ∷ [])) ∷ (Struct (name 49 50) ((members (int 53 56) ((declarator (name 57 58) []) ∷ [])) ∷ []) []) ∷ (Variables (struct 70 71) ((declared (name 72 73) [] None) ∷ [])) ∷ (Variables (struct 82 83) ((declared (name 84 85) [] None) ∷ [])) ∷ (Variables (struct 94 95) ((declared (name 97 99) (PointerTo ∷ []) None) ∷ [])) ∷ (Function (spelled (int 101 104) 0) (name 105 109) [] (Some (Next (Evaluate (Assign (Name (name 118 119)) (mark w.Assign 120 121) (Binary (Call (name 122 128) (Then (SizeOfType (word w.SizeOf 129 135) (spelled (int 136 139) 0)) NoMore)) (mark w.Plus 142 143) (Number (number 144 145))))) (Next (Evaluate (Assign (Prefix (mark w.Star 147 148) (Call (name 148 154) (Then (SizeOfType (word w.SizeOf 155 161) (spelled (int 162 165) 0)) NoMore))) (mark w.Assign 168 169) (Number (number 170 171)))) (Next (Evaluate (Assign (Arrow (Call (name 173 179) (Then (SizeOfType (word w.SizeOf 180 186) (spelled (struct 194 195) 0)) NoMore)) (mark w.Arrow 197 199) (name 199 200)) (mark w.Assign 201 202) (Number (number 203 204)))) (Next (Return (word w.Return 206 212) (Some (Number (number 213 214)))) End)))))) ∷ []) 0 0 ∷ []

pub objects : outcomes objects_rows ≡ refusals objects_rows
unfolding checked_rules.kept checked_rules.unless checked_rules.none_of environment_rules.found_in environment_rules.found environment_rules.specified environment_rules.with_stars environment_rules.spelled_type nodes_rules.first_place judgements_rules.shape judgements_rules.on_pointers judgements_rules.arithmetic judgements_rules.relation judgements_rules.operation judgements_rules.conversion judgements_rules.selection judgements_rules.cast_conversion judgements_rules.compound_operation operands_rules.loaded operands_rules.value operands_rules.condition operands_rules.brought operands_rules.fitted operators_rules.unit operators_rules.computed operators_rules.combined operators_rules.selected operators_rules.choice_of operators_rules.cast_by operators_rules.cast operators_rules.promoting operators_rules.negation operators_rules.address operators_rules.dereferenced assignments_rules.assigned assignments_rules.updated assignments_rules.compound assignments_rules.stepped subobjects_rules.base_of subobjects_rules.indexed subobjects_rules.dot subobjects_rules.arrow allocation_rules.objects allocation_rules.product allocation_rules.allocated allocation_rules.freed expressions_rules.full expressions_rules.operand expressions_rules.arguments expressions_rules.only_value expressions_rules.only_request expressions_rules.requested expressions_rules.measured constant_expressions_rules.is_constant constant_expressions_rules.value_of constant_expressions_rules.constant constant_expressions_rules.size_of_array constant_expressions_rules.part_of constant_expressions_rules.is_literal constant_expressions_rules.has_literal_indices constant_expressions_rules.initial_value declarations_rules.size declarations_rules.layers declarations_rules.layered declarations_rules.element_number declarations_rules.is_complete declarations_rules.is_within_limit initialisers_rules.parts initialisers_rules.zeros initialisers_rules.alone initialisers_rules.all_alone initialisers_rules.cells initialisers_rules.elements statements_rules.in_scope statements_rules.init_statements statements_rules.declare_one statements_rules.declare_all statements_rules.declare statements_rules.statement statements_rules.statements weights_rules.declared_weight weights_rules.item_weight weights_rules.initialiser_nodes weights_rules.elements_nodes weights_rules.continues weights_rules.all_continues weights_rules.statement_weight weights_rules.statements_weight file_scope_rules.file_scope file_scope_rules.variable file_scope_rules.variables structs_rules.member structs_rules.member_list structs_rules.all_members structs_rules.structure functions_rules.parameter functions_rules.parameters functions_rules.declarable_function functions_rules.replaced functions_rules.defined_as functions_rules.function programs_rules.item programs_rules.items programs_rules.whole programs_rules.elaborated programs_rules.elaboration number_rules.radix_of number_rules.value_of number_rules.number_value number_rules.constant_of number_rules.constant_with number_rules.first_holding number_rules.constant_types number_rules.number_of number_rules.suffix_of lexeme_rules.character_value type_rows.shape-the_row-CType-0 type_rows.hidden-the_row-CType-0 expression_rows.shape-the_row-Expr-0 expression_rows.hidden-the_row-Expr-0 expression_rows.shape-the_row-Expr-1 expression_rows.hidden-the_row-Expr-1 expression_rows.shape-the_row-Place_-2 expression_rows.hidden-the_row-Place_-2 statement_rows.shape-the_row-Stmt-0 statement_rows.hidden-the_row-Stmt-0 statement_rows.shape-the_row-Stmt-1 statement_rows.hidden-the_row-Stmt-1 hidden
objects = refl

-- a cast to its own type may stand before a call of `malloc`
abbrev allocationcasts_rows : List Row
allocationcasts_rows =
    -- int x; int *p; int *q; char *c; int a[3]; int main(void) { p = (int *) malloc(sizeof(int)); p = (int *) (malloc(sizeof(int))); p = ((int *) ((malloc(sizeof *p)))); return 0; }
    row (codes "int x; int *p; int *q; char *c; int a[3]; int main(void) { p = (int *) malloc(sizeof(int)); p = (int *) (malloc(sizeof(int))); p = ((int *) ((malloc(sizeof *p)))); return 0; }") ((Variables (int 0 3) ((declared (name 4 5) [] None) ∷ [])) ∷ (Variables (int 7 10) ((declared (name 12 13) (PointerTo ∷ []) None) ∷ [])) ∷ (Variables (int 15 18) ((declared (name 20 21) (PointerTo ∷ []) None) ∷ [])) ∷ (Variables (char 23 27) ((declared (name 29 30) (PointerTo ∷ []) None) ∷ [])) ∷ (Variables (int 32 35) ((declared (name 36 37) ((ArrayOf (Number (number 38 39))) ∷ []) None) ∷ [])) ∷ (Function (spelled (int 42 45) 0) (name 46 50) [] (Some (Next (Evaluate (Assign (Name (name 59 60)) (mark w.Assign 61 62) (Cast (mark w.LeftParen 63 64) (spelled (int 64 67) 1) (Call (name 71 77) (Then (SizeOfType (word w.SizeOf 78 84) (spelled (int 85 88) 0)) NoMore))))) (Next (Evaluate (Assign (Name (name 92 93)) (mark w.Assign 94 95) (Cast (mark w.LeftParen 96 97) (spelled (int 97 100) 1) (Paren (mark w.LeftParen 104 105) (Call (name 105 111) (Then (SizeOfType (word w.SizeOf 112 118) (spelled (int 119 122) 0)) NoMore)))))) (Next (Evaluate (Assign (Name (name 127 128)) (mark w.Assign 129 130) (Paren (mark w.LeftParen 131 132) (Cast (mark w.LeftParen 132 133) (spelled (int 133 136) 1) (Paren (mark w.LeftParen 140 141) (Paren (mark w.LeftParen 141 142) (Call (name 142 148) (Then (SizeOf (word w.SizeOf 149 155) (Prefix (mark w.Star 156 157) (Name (name 157 158)))) NoMore)))))))) (Next (Return (word w.Return 164 170) (Some (Number (number 171 172)))) End)))))) ∷ []) 0 0 ∷
    -- int x; int *p; int *q; char *c; int a[3]; int main(void) { p = (char *) malloc(sizeof(int)); return 0; }
    row (codes "int x; int *p; int *q; char *c; int a[3]; int main(void) { p = (char *) malloc(sizeof(int)); return 0; }") ((Variables (int 0 3) ((declared (name 4 5) [] None) ∷ [])) ∷ (Variables (int 7 10) ((declared (name 12 13) (PointerTo ∷ []) None) ∷ [])) ∷ (Variables (int 15 18) ((declared (name 20 21) (PointerTo ∷ []) None) ∷ [])) ∷ (Variables (char 23 27) ((declared (name 29 30) (PointerTo ∷ []) None) ∷ [])) ∷ (Variables (int 32 35) ((declared (name 36 37) ((ArrayOf (Number (number 38 39))) ∷ []) None) ∷ [])) ∷ (Function (spelled (int 42 45) 0) (name 46 50) [] (Some (Next (Evaluate (Assign (Name (name 59 60)) (mark w.Assign 61 62) (Cast (mark w.LeftParen 63 64) (spelled (char 64 68) 1) (Call (name 72 78) (Then (SizeOfType (word w.SizeOf 79 85) (spelled (int 86 89) 0)) NoMore))))) (Next (Return (word w.Return 93 99) (Some (Number (number 100 101)))) End)))) ∷ []) 123 64 ∷
    -- int x; int *p; int *q; char *c; int a[3]; int main(void) { p = (void *) malloc(sizeof(int)); return 0; }
    row (codes "int x; int *p; int *q; char *c; int a[3]; int main(void) { p = (void *) malloc(sizeof(int)); return 0; }") ((Variables (int 0 3) ((declared (name 4 5) [] None) ∷ [])) ∷ (Variables (int 7 10) ((declared (name 12 13) (PointerTo ∷ []) None) ∷ [])) ∷ (Variables (int 15 18) ((declared (name 20 21) (PointerTo ∷ []) None) ∷ [])) ∷ (Variables (char 23 27) ((declared (name 29 30) (PointerTo ∷ []) None) ∷ [])) ∷ (Variables (int 32 35) ((declared (name 36 37) ((ArrayOf (Number (number 38 39))) ∷ []) None) ∷ [])) ∷ (Function (spelled (int 42 45) 0) (name 46 50) [] (Some (Next (Evaluate (Assign (Name (name 59 60)) (mark w.Assign 61 62) (Cast (mark w.LeftParen 63 64) (spelled (void 64 68) 1) (Call (name 72 78) (Then (SizeOfType (word w.SizeOf 79 85) (spelled (int 86 89) 0)) NoMore))))) (Next (Return (word w.Return 93 99) (Some (Number (number 100 101)))) End)))) ∷ []) 123 64 ∷
    -- int x; int *p; int *q; char *c; int a[3]; int main(void) { p = (int *) (int *) malloc(sizeof(int)); return 0; }
    row (codes "int x; int *p; int *q; char *c; int a[3]; int main(void) { p = (int *) (int *) malloc(sizeof(int)); return 0; }") ((Variables (int 0 3) ((declared (name 4 5) [] None) ∷ [])) ∷ (Variables (int 7 10) ((declared (name 12 13) (PointerTo ∷ []) None) ∷ [])) ∷ (Variables (int 15 18) ((declared (name 20 21) (PointerTo ∷ []) None) ∷ [])) ∷ (Variables (char 23 27) ((declared (name 29 30) (PointerTo ∷ []) None) ∷ [])) ∷ (Variables (int 32 35) ((declared (name 36 37) ((ArrayOf (Number (number 38 39))) ∷ []) None) ∷ [])) ∷ (Function (spelled (int 42 45) 0) (name 46 50) [] (Some (Next (Evaluate (Assign (Name (name 59 60)) (mark w.Assign 61 62) (Cast (mark w.LeftParen 63 64) (spelled (int 64 67) 1) (Cast (mark w.LeftParen 71 72) (spelled (int 72 75) 1) (Call (name 79 85) (Then (SizeOfType (word w.SizeOf 86 92) (spelled (int 93 96) 0)) NoMore)))))) (Next (Return (word w.Return 100 106) (Some (Number (number 107 108)))) End)))) ∷ []) 123 64 ∷
    -- int x; int *p; int *q; char *c; int a[3]; int main(void) { p = (int *) (malloc(sizeof(int)) + 1); return 0; }
    row (codes "int x; int *p; int *q; char *c; int a[3]; int main(void) { p = (int *) (malloc(sizeof(int)) + 1); return 0; }") ((Variables (int 0 3) ((declared (name 4 5) [] None) ∷ [])) ∷ (Variables (int 7 10) ((declared (name 12 13) (PointerTo ∷ []) None) ∷ [])) ∷ (Variables (int 15 18) ((declared (name 20 21) (PointerTo ∷ []) None) ∷ [])) ∷ (Variables (char 23 27) ((declared (name 29 30) (PointerTo ∷ []) None) ∷ [])) ∷ (Variables (int 32 35) ((declared (name 36 37) ((ArrayOf (Number (number 38 39))) ∷ []) None) ∷ [])) ∷ (Function (spelled (int 42 45) 0) (name 46 50) [] (Some (Next (Evaluate (Assign (Name (name 59 60)) (mark w.Assign 61 62) (Cast (mark w.LeftParen 63 64) (spelled (int 64 67) 1) (Paren (mark w.LeftParen 71 72) (Binary (Call (name 72 78) (Then (SizeOfType (word w.SizeOf 79 85) (spelled (int 86 89) 0)) NoMore)) (mark w.Plus 92 93) (Number (number 94 95))))))) (Next (Return (word w.Return 98 104) (Some (Number (number 105 106)))) End)))) ∷ []) 123 64 ∷
    -- int x; int *p; int *q; char *c; int a[3]; int main(void) { (void) malloc(sizeof(int)); return 0; }
    row (codes "int x; int *p; int *q; char *c; int a[3]; int main(void) { (void) malloc(sizeof(int)); return 0; }") ((Variables (int 0 3) ((declared (name 4 5) [] None) ∷ [])) ∷ (Variables (int 7 10) ((declared (name 12 13) (PointerTo ∷ []) None) ∷ [])) ∷ (Variables (int 15 18) ((declared (name 20 21) (PointerTo ∷ []) None) ∷ [])) ∷ (Variables (char 23 27) ((declared (name 29 30) (PointerTo ∷ []) None) ∷ [])) ∷ (Variables (int 32 35) ((declared (name 36 37) ((ArrayOf (Number (number 38 39))) ∷ []) None) ∷ [])) ∷ (Function (spelled (int 42 45) 0) (name 46 50) [] (Some (Next (Evaluate (Cast (mark w.LeftParen 59 60) (spelled (void 60 64) 0) (Call (name 66 72) (Then (SizeOfType (word w.SizeOf 73 79) (spelled (int 80 83) 0)) NoMore)))) (Next (Return (word w.Return 87 93) (Some (Number (number 94 95)))) End)))) ∷ []) 0 0 ∷
    -- struct s { int m; }; struct s s; struct s t; struct s *sp; int main(void) { sp = (struct s *) malloc(sizeof(struct s)); return 0; }
    row (codes "struct s { int m; }; struct s s; struct s t; struct s *sp; int main(void) { sp = (struct s *) malloc(sizeof(struct s)); return 0; }") ((Struct (name 7 8) ((members (int 11 14) ((declarator (name 15 16) []) ∷ [])) ∷ []) []) ∷ (Variables (struct 28 29) ((declared (name 30 31) [] None) ∷ [])) ∷ (Variables (struct 40 41) ((declared (name 42 43) [] None) ∷ [])) ∷ (Variables (struct 52 53) ((declared (name 55 57) (PointerTo ∷ []) None) ∷ [])) ∷ (Function (spelled (int 59 62) 0) (name 63 67) [] (Some (Next (Evaluate (Assign (Name (name 76 78)) (mark w.Assign 79 80) (Cast (mark w.LeftParen 81 82) (spelled (struct 89 90) 1) (Call (name 94 100) (Then (SizeOfType (word w.SizeOf 101 107) (spelled (struct 115 116) 0)) NoMore))))) (Next (Return (word w.Return 120 126) (Some (Number (number 127 128)))) End)))) ∷ []) 0 0 ∷ []

pub allocationcasts : outcomes allocationcasts_rows ≡ refusals allocationcasts_rows
unfolding checked_rules.kept checked_rules.unless checked_rules.none_of environment_rules.found_in environment_rules.found environment_rules.specified environment_rules.with_stars environment_rules.spelled_type nodes_rules.first_place judgements_rules.shape judgements_rules.on_pointers judgements_rules.arithmetic judgements_rules.relation judgements_rules.operation judgements_rules.conversion judgements_rules.selection judgements_rules.cast_conversion judgements_rules.compound_operation operands_rules.loaded operands_rules.value operands_rules.condition operands_rules.brought operands_rules.fitted operators_rules.unit operators_rules.computed operators_rules.combined operators_rules.selected operators_rules.choice_of operators_rules.cast_by operators_rules.cast operators_rules.promoting operators_rules.negation operators_rules.address operators_rules.dereferenced assignments_rules.assigned assignments_rules.updated assignments_rules.compound assignments_rules.stepped subobjects_rules.base_of subobjects_rules.indexed subobjects_rules.dot subobjects_rules.arrow allocation_rules.objects allocation_rules.product allocation_rules.allocated allocation_rules.freed expressions_rules.full expressions_rules.operand expressions_rules.arguments expressions_rules.only_value expressions_rules.only_request expressions_rules.requested expressions_rules.measured constant_expressions_rules.is_constant constant_expressions_rules.value_of constant_expressions_rules.constant constant_expressions_rules.size_of_array constant_expressions_rules.part_of constant_expressions_rules.is_literal constant_expressions_rules.has_literal_indices constant_expressions_rules.initial_value declarations_rules.size declarations_rules.layers declarations_rules.layered declarations_rules.element_number declarations_rules.is_complete declarations_rules.is_within_limit initialisers_rules.parts initialisers_rules.zeros initialisers_rules.alone initialisers_rules.all_alone initialisers_rules.cells initialisers_rules.elements statements_rules.in_scope statements_rules.init_statements statements_rules.declare_one statements_rules.declare_all statements_rules.declare statements_rules.statement statements_rules.statements weights_rules.declared_weight weights_rules.item_weight weights_rules.initialiser_nodes weights_rules.elements_nodes weights_rules.continues weights_rules.all_continues weights_rules.statement_weight weights_rules.statements_weight file_scope_rules.file_scope file_scope_rules.variable file_scope_rules.variables structs_rules.member structs_rules.member_list structs_rules.all_members structs_rules.structure functions_rules.parameter functions_rules.parameters functions_rules.declarable_function functions_rules.replaced functions_rules.defined_as functions_rules.function programs_rules.item programs_rules.items programs_rules.whole programs_rules.elaborated programs_rules.elaboration number_rules.radix_of number_rules.value_of number_rules.number_value number_rules.constant_of number_rules.constant_with number_rules.first_holding number_rules.constant_types number_rules.number_of number_rules.suffix_of lexeme_rules.character_value type_rows.shape-the_row-CType-0 type_rows.hidden-the_row-CType-0 expression_rows.shape-the_row-Expr-0 expression_rows.hidden-the_row-Expr-0 expression_rows.shape-the_row-Expr-1 expression_rows.hidden-the_row-Expr-1 expression_rows.shape-the_row-Place_-2 expression_rows.hidden-the_row-Place_-2 statement_rows.shape-the_row-Stmt-0 statement_rows.hidden-the_row-Stmt-0 statement_rows.shape-the_row-Stmt-1 statement_rows.hidden-the_row-Stmt-1 hidden
allocationcasts = refl

-- `free` takes a pointer of any type, or a null pointer constant
abbrev releases_rows : List Row
releases_rows =
    -- int x; int *p; int *q; char *c; int a[3]; int main(void) { free(p); free(c); free(a); free(0); free((void *) 0); free(malloc(sizeof(int))); return 0; }
    row (codes "int x; int *p; int *q; char *c; int a[3]; int main(void) { free(p); free(c); free(a); free(0); free((void *) 0); free(malloc(sizeof(int))); return 0; }") ((Variables (int 0 3) ((declared (name 4 5) [] None) ∷ [])) ∷ (Variables (int 7 10) ((declared (name 12 13) (PointerTo ∷ []) None) ∷ [])) ∷ (Variables (int 15 18) ((declared (name 20 21) (PointerTo ∷ []) None) ∷ [])) ∷ (Variables (char 23 27) ((declared (name 29 30) (PointerTo ∷ []) None) ∷ [])) ∷ (Variables (int 32 35) ((declared (name 36 37) ((ArrayOf (Number (number 38 39))) ∷ []) None) ∷ [])) ∷ (Function (spelled (int 42 45) 0) (name 46 50) [] (Some (Next (Evaluate (Call (name 59 63) (Then (Name (name 64 65)) NoMore))) (Next (Evaluate (Call (name 68 72) (Then (Name (name 73 74)) NoMore))) (Next (Evaluate (Call (name 77 81) (Then (Name (name 82 83)) NoMore))) (Next (Evaluate (Call (name 86 90) (Then (Number (number 91 92)) NoMore))) (Next (Evaluate (Call (name 95 99) (Then (Cast (mark w.LeftParen 100 101) (spelled (void 101 105) 1) (Number (number 109 110))) NoMore))) (Next (Evaluate (Call (name 113 117) (Then (Call (name 118 124) (Then (SizeOfType (word w.SizeOf 125 131) (spelled (int 132 135) 0)) NoMore)) NoMore))) (Next (Return (word w.Return 140 146) (Some (Number (number 147 148)))) End))))))))) ∷ []) 0 0 ∷
    -- struct s { int m; }; struct s s; struct s t; struct s *sp; int main(void) { free(sp); free(&s); return 0; }
    row (codes "struct s { int m; }; struct s s; struct s t; struct s *sp; int main(void) { free(sp); free(&s); return 0; }") ((Struct (name 7 8) ((members (int 11 14) ((declarator (name 15 16) []) ∷ [])) ∷ []) []) ∷ (Variables (struct 28 29) ((declared (name 30 31) [] None) ∷ [])) ∷ (Variables (struct 40 41) ((declared (name 42 43) [] None) ∷ [])) ∷ (Variables (struct 52 53) ((declared (name 55 57) (PointerTo ∷ []) None) ∷ [])) ∷ (Function (spelled (int 59 62) 0) (name 63 67) [] (Some (Next (Evaluate (Call (name 76 80) (Then (Name (name 81 83)) NoMore))) (Next (Evaluate (Call (name 86 90) (Then (Prefix (mark w.Ampersand 91 92) (Name (name 92 93))) NoMore))) (Next (Return (word w.Return 96 102) (Some (Number (number 103 104)))) End))))) ∷ []) 0 0 ∷
    -- int x; int *p; int *q; char *c; int a[3]; int main(void) { free(1); return 0; }
    row (codes "int x; int *p; int *q; char *c; int a[3]; int main(void) { free(1); return 0; }") ((Variables (int 0 3) ((declared (name 4 5) [] None) ∷ [])) ∷ (Variables (int 7 10) ((declared (name 12 13) (PointerTo ∷ []) None) ∷ [])) ∷ (Variables (int 15 18) ((declared (name 20 21) (PointerTo ∷ []) None) ∷ [])) ∷ (Variables (char 23 27) ((declared (name 29 30) (PointerTo ∷ []) None) ∷ [])) ∷ (Variables (int 32 35) ((declared (name 36 37) ((ArrayOf (Number (number 38 39))) ∷ []) None) ∷ [])) ∷ (Function (spelled (int 42 45) 0) (name 46 50) [] (Some (Next (Evaluate (Call (name 59 63) (Then (Number (number 64 65)) NoMore))) (Next (Return (word w.Return 68 74) (Some (Number (number 75 76)))) End)))) ∷ []) 123 60 ∷
    -- int x; int *p; int *q; char *c; int a[3]; int main(void) { free(x); return 0; }
    row (codes "int x; int *p; int *q; char *c; int a[3]; int main(void) { free(x); return 0; }") ((Variables (int 0 3) ((declared (name 4 5) [] None) ∷ [])) ∷ (Variables (int 7 10) ((declared (name 12 13) (PointerTo ∷ []) None) ∷ [])) ∷ (Variables (int 15 18) ((declared (name 20 21) (PointerTo ∷ []) None) ∷ [])) ∷ (Variables (char 23 27) ((declared (name 29 30) (PointerTo ∷ []) None) ∷ [])) ∷ (Variables (int 32 35) ((declared (name 36 37) ((ArrayOf (Number (number 38 39))) ∷ []) None) ∷ [])) ∷ (Function (spelled (int 42 45) 0) (name 46 50) [] (Some (Next (Evaluate (Call (name 59 63) (Then (Name (name 64 65)) NoMore))) (Next (Return (word w.Return 68 74) (Some (Number (number 75 76)))) End)))) ∷ []) 123 60 ∷
    -- void f(void) { } int x; int *p; int *q; char *c; int a[3]; int main(void) { free(f()); return 0; }
    row (codes "void f(void) { } int x; int *p; int *q; char *c; int a[3]; int main(void) { free(f()); return 0; }") ((Function (spelled (void 0 4) 0) (name 5 6) [] (Some End)) ∷ (Variables (int 17 20) ((declared (name 21 22) [] None) ∷ [])) ∷ (Variables (int 24 27) ((declared (name 29 30) (PointerTo ∷ []) None) ∷ [])) ∷ (Variables (int 32 35) ((declared (name 37 38) (PointerTo ∷ []) None) ∷ [])) ∷ (Variables (char 40 44) ((declared (name 46 47) (PointerTo ∷ []) None) ∷ [])) ∷ (Variables (int 49 52) ((declared (name 53 54) ((ArrayOf (Number (number 55 56))) ∷ []) None) ∷ [])) ∷ (Function (spelled (int 59 62) 0) (name 63 67) [] (Some (Next (Evaluate (Call (name 76 80) (Then (Call (name 81 82) NoMore) NoMore))) (Next (Return (word w.Return 87 93) (Some (Number (number 94 95)))) End)))) ∷ []) 123 77 ∷
    -- struct s { int m; }; struct s s; struct s t; struct s *sp; int main(void) { free(s); return 0; }
    row (codes "struct s { int m; }; struct s s; struct s t; struct s *sp; int main(void) { free(s); return 0; }") ((Struct (name 7 8) ((members (int 11 14) ((declarator (name 15 16) []) ∷ [])) ∷ []) []) ∷ (Variables (struct 28 29) ((declared (name 30 31) [] None) ∷ [])) ∷ (Variables (struct 40 41) ((declared (name 42 43) [] None) ∷ [])) ∷ (Variables (struct 52 53) ((declared (name 55 57) (PointerTo ∷ []) None) ∷ [])) ∷ (Function (spelled (int 59 62) 0) (name 63 67) [] (Some (Next (Evaluate (Call (name 76 80) (Then (Name (name 81 82)) NoMore))) (Next (Return (word w.Return 85 91) (Some (Number (number 92 93)))) End)))) ∷ []) 129 82 ∷
    -- int x; int *p; int *q; char *c; int a[3]; int main(void) { x = free(p); return 0; }
    row (codes "int x; int *p; int *q; char *c; int a[3]; int main(void) { x = free(p); return 0; }") ((Variables (int 0 3) ((declared (name 4 5) [] None) ∷ [])) ∷ (Variables (int 7 10) ((declared (name 12 13) (PointerTo ∷ []) None) ∷ [])) ∷ (Variables (int 15 18) ((declared (name 20 21) (PointerTo ∷ []) None) ∷ [])) ∷ (Variables (char 23 27) ((declared (name 29 30) (PointerTo ∷ []) None) ∷ [])) ∷ (Variables (int 32 35) ((declared (name 36 37) ((ArrayOf (Number (number 38 39))) ∷ []) None) ∷ [])) ∷ (Function (spelled (int 42 45) 0) (name 46 50) [] (Some (Next (Evaluate (Assign (Name (name 59 60)) (mark w.Assign 61 62) (Call (name 63 67) (Then (Name (name 68 69)) NoMore)))) (Next (Return (word w.Return 72 78) (Some (Number (number 79 80)))) End)))) ∷ []) 123 62 ∷
    -- int x; int *p; int *q; char *c; int a[3]; int main(void) { free(); return 0; }
    row (codes "int x; int *p; int *q; char *c; int a[3]; int main(void) { free(); return 0; }") ((Variables (int 0 3) ((declared (name 4 5) [] None) ∷ [])) ∷ (Variables (int 7 10) ((declared (name 12 13) (PointerTo ∷ []) None) ∷ [])) ∷ (Variables (int 15 18) ((declared (name 20 21) (PointerTo ∷ []) None) ∷ [])) ∷ (Variables (char 23 27) ((declared (name 29 30) (PointerTo ∷ []) None) ∷ [])) ∷ (Variables (int 32 35) ((declared (name 36 37) ((ArrayOf (Number (number 38 39))) ∷ []) None) ∷ [])) ∷ (Function (spelled (int 42 45) 0) (name 46 50) [] (Some (Next (Evaluate (Call (name 59 63) NoMore)) (Next (Return (word w.Return 67 73) (Some (Number (number 74 75)))) End)))) ∷ []) 125 60 ∷
    -- int x; int *p; int *q; char *c; int a[3]; int main(void) { free(p, q); return 0; }
    row (codes "int x; int *p; int *q; char *c; int a[3]; int main(void) { free(p, q); return 0; }") ((Variables (int 0 3) ((declared (name 4 5) [] None) ∷ [])) ∷ (Variables (int 7 10) ((declared (name 12 13) (PointerTo ∷ []) None) ∷ [])) ∷ (Variables (int 15 18) ((declared (name 20 21) (PointerTo ∷ []) None) ∷ [])) ∷ (Variables (char 23 27) ((declared (name 29 30) (PointerTo ∷ []) None) ∷ [])) ∷ (Variables (int 32 35) ((declared (name 36 37) ((ArrayOf (Number (number 38 39))) ∷ []) None) ∷ [])) ∷ (Function (spelled (int 42 45) 0) (name 46 50) [] (Some (Next (Evaluate (Call (name 59 63) (Then (Name (name 64 65)) (Then (Name (name 67 68)) NoMore)))) (Next (Return (word w.Return 71 77) (Some (Number (number 78 79)))) End)))) ∷ []) 125 60 ∷
    -- int x; int *p; int *q; char *c; int a[3]; int main(void) { free(p, y); return 0; }
    row (codes "int x; int *p; int *q; char *c; int a[3]; int main(void) { free(p, y); return 0; }") ((Variables (int 0 3) ((declared (name 4 5) [] None) ∷ [])) ∷ (Variables (int 7 10) ((declared (name 12 13) (PointerTo ∷ []) None) ∷ [])) ∷ (Variables (int 15 18) ((declared (name 20 21) (PointerTo ∷ []) None) ∷ [])) ∷ (Variables (char 23 27) ((declared (name 29 30) (PointerTo ∷ []) None) ∷ [])) ∷ (Variables (int 32 35) ((declared (name 36 37) ((ArrayOf (Number (number 38 39))) ∷ []) None) ∷ [])) ∷ (Function (spelled (int 42 45) 0) (name 46 50) [] (Some (Next (Evaluate (Call (name 59 63) (Then (Name (name 64 65)) (Then (Name (name 67 68)) NoMore)))) (Next (Return (word w.Return 71 77) (Some (Number (number 78 79)))) End)))) ∷ []) 121 68 ∷
    -- int x; int *p; int *q; char *c; int a[3]; int main(void) { malloc(); return 0; }
    row (codes "int x; int *p; int *q; char *c; int a[3]; int main(void) { malloc(); return 0; }") ((Variables (int 0 3) ((declared (name 4 5) [] None) ∷ [])) ∷ (Variables (int 7 10) ((declared (name 12 13) (PointerTo ∷ []) None) ∷ [])) ∷ (Variables (int 15 18) ((declared (name 20 21) (PointerTo ∷ []) None) ∷ [])) ∷ (Variables (char 23 27) ((declared (name 29 30) (PointerTo ∷ []) None) ∷ [])) ∷ (Variables (int 32 35) ((declared (name 36 37) ((ArrayOf (Number (number 38 39))) ∷ []) None) ∷ [])) ∷ (Function (spelled (int 42 45) 0) (name 46 50) [] (Some (Next (Evaluate (Call (name 59 65) NoMore)) (Next (Return (word w.Return 69 75) (Some (Number (number 76 77)))) End)))) ∷ []) 125 60 ∷
    -- int x; int *p; int *q; char *c; int a[3]; int main(void) { malloc(1, 2); return 0; }
    row (codes "int x; int *p; int *q; char *c; int a[3]; int main(void) { malloc(1, 2); return 0; }") ((Variables (int 0 3) ((declared (name 4 5) [] None) ∷ [])) ∷ (Variables (int 7 10) ((declared (name 12 13) (PointerTo ∷ []) None) ∷ [])) ∷ (Variables (int 15 18) ((declared (name 20 21) (PointerTo ∷ []) None) ∷ [])) ∷ (Variables (char 23 27) ((declared (name 29 30) (PointerTo ∷ []) None) ∷ [])) ∷ (Variables (int 32 35) ((declared (name 36 37) ((ArrayOf (Number (number 38 39))) ∷ []) None) ∷ [])) ∷ (Function (spelled (int 42 45) 0) (name 46 50) [] (Some (Next (Evaluate (Call (name 59 65) (Then (Number (number 66 67)) (Then (Number (number 69 70)) NoMore)))) (Next (Return (word w.Return 73 79) (Some (Number (number 80 81)))) End)))) ∷ []) 125 60 ∷
    -- int x; int *p; int *q; char *c; int a[3]; int main(void) { malloc(p, p); return 0; }
    row (codes "int x; int *p; int *q; char *c; int a[3]; int main(void) { malloc(p, p); return 0; }") ((Variables (int 0 3) ((declared (name 4 5) [] None) ∷ [])) ∷ (Variables (int 7 10) ((declared (name 12 13) (PointerTo ∷ []) None) ∷ [])) ∷ (Variables (int 15 18) ((declared (name 20 21) (PointerTo ∷ []) None) ∷ [])) ∷ (Variables (char 23 27) ((declared (name 29 30) (PointerTo ∷ []) None) ∷ [])) ∷ (Variables (int 32 35) ((declared (name 36 37) ((ArrayOf (Number (number 38 39))) ∷ []) None) ∷ [])) ∷ (Function (spelled (int 42 45) 0) (name 46 50) [] (Some (Next (Evaluate (Call (name 59 65) (Then (Name (name 66 67)) (Then (Name (name 69 70)) NoMore)))) (Next (Return (word w.Return 73 79) (Some (Number (number 80 81)))) End)))) ∷ []) 125 60 ∷
    -- int x; int *p; int *q; char *c; int a[3]; int main(void) { malloc(1, sizeof(int)); return 0; }
    row (codes "int x; int *p; int *q; char *c; int a[3]; int main(void) { malloc(1, sizeof(int)); return 0; }") ((Variables (int 0 3) ((declared (name 4 5) [] None) ∷ [])) ∷ (Variables (int 7 10) ((declared (name 12 13) (PointerTo ∷ []) None) ∷ [])) ∷ (Variables (int 15 18) ((declared (name 20 21) (PointerTo ∷ []) None) ∷ [])) ∷ (Variables (char 23 27) ((declared (name 29 30) (PointerTo ∷ []) None) ∷ [])) ∷ (Variables (int 32 35) ((declared (name 36 37) ((ArrayOf (Number (number 38 39))) ∷ []) None) ∷ [])) ∷ (Function (spelled (int 42 45) 0) (name 46 50) [] (Some (Next (Evaluate (Call (name 59 65) (Then (Number (number 66 67)) (Then (SizeOfType (word w.SizeOf 69 75) (spelled (int 76 79) 0)) NoMore)))) (Next (Return (word w.Return 83 89) (Some (Number (number 90 91)))) End)))) ∷ []) 123 70 ∷
    -- int x; int *p; int *q; char *c; int a[3]; int main(void) { free(sizeof(int)); return 0; }
    row (codes "int x; int *p; int *q; char *c; int a[3]; int main(void) { free(sizeof(int)); return 0; }") ((Variables (int 0 3) ((declared (name 4 5) [] None) ∷ [])) ∷ (Variables (int 7 10) ((declared (name 12 13) (PointerTo ∷ []) None) ∷ [])) ∷ (Variables (int 15 18) ((declared (name 20 21) (PointerTo ∷ []) None) ∷ [])) ∷ (Variables (char 23 27) ((declared (name 29 30) (PointerTo ∷ []) None) ∷ [])) ∷ (Variables (int 32 35) ((declared (name 36 37) ((ArrayOf (Number (number 38 39))) ∷ []) None) ∷ [])) ∷ (Function (spelled (int 42 45) 0) (name 46 50) [] (Some (Next (Evaluate (Call (name 59 63) (Then (SizeOfType (word w.SizeOf 64 70) (spelled (int 71 74) 0)) NoMore))) (Next (Return (word w.Return 78 84) (Some (Number (number 85 86)))) End)))) ∷ []) 123 65 ∷ []

pub releases : outcomes releases_rows ≡ refusals releases_rows
unfolding checked_rules.kept checked_rules.unless checked_rules.none_of environment_rules.found_in environment_rules.found environment_rules.specified environment_rules.with_stars environment_rules.spelled_type nodes_rules.first_place judgements_rules.shape judgements_rules.on_pointers judgements_rules.arithmetic judgements_rules.relation judgements_rules.operation judgements_rules.conversion judgements_rules.selection judgements_rules.cast_conversion judgements_rules.compound_operation operands_rules.loaded operands_rules.value operands_rules.condition operands_rules.brought operands_rules.fitted operators_rules.unit operators_rules.computed operators_rules.combined operators_rules.selected operators_rules.choice_of operators_rules.cast_by operators_rules.cast operators_rules.promoting operators_rules.negation operators_rules.address operators_rules.dereferenced assignments_rules.assigned assignments_rules.updated assignments_rules.compound assignments_rules.stepped subobjects_rules.base_of subobjects_rules.indexed subobjects_rules.dot subobjects_rules.arrow allocation_rules.objects allocation_rules.product allocation_rules.allocated allocation_rules.freed expressions_rules.full expressions_rules.operand expressions_rules.arguments expressions_rules.only_value expressions_rules.only_request expressions_rules.requested expressions_rules.measured constant_expressions_rules.is_constant constant_expressions_rules.value_of constant_expressions_rules.constant constant_expressions_rules.size_of_array constant_expressions_rules.part_of constant_expressions_rules.is_literal constant_expressions_rules.has_literal_indices constant_expressions_rules.initial_value declarations_rules.size declarations_rules.layers declarations_rules.layered declarations_rules.element_number declarations_rules.is_complete declarations_rules.is_within_limit initialisers_rules.parts initialisers_rules.zeros initialisers_rules.alone initialisers_rules.all_alone initialisers_rules.cells initialisers_rules.elements statements_rules.in_scope statements_rules.init_statements statements_rules.declare_one statements_rules.declare_all statements_rules.declare statements_rules.statement statements_rules.statements weights_rules.declared_weight weights_rules.item_weight weights_rules.initialiser_nodes weights_rules.elements_nodes weights_rules.continues weights_rules.all_continues weights_rules.statement_weight weights_rules.statements_weight file_scope_rules.file_scope file_scope_rules.variable file_scope_rules.variables structs_rules.member structs_rules.member_list structs_rules.all_members structs_rules.structure functions_rules.parameter functions_rules.parameters functions_rules.declarable_function functions_rules.replaced functions_rules.defined_as functions_rules.function programs_rules.item programs_rules.items programs_rules.whole programs_rules.elaborated programs_rules.elaboration number_rules.radix_of number_rules.value_of number_rules.number_value number_rules.constant_of number_rules.constant_with number_rules.first_holding number_rules.constant_types number_rules.number_of number_rules.suffix_of lexeme_rules.character_value type_rows.shape-the_row-CType-0 type_rows.hidden-the_row-CType-0 expression_rows.shape-the_row-Expr-0 expression_rows.hidden-the_row-Expr-0 expression_rows.shape-the_row-Expr-1 expression_rows.hidden-the_row-Expr-1 expression_rows.shape-the_row-Place_-2 expression_rows.hidden-the_row-Place_-2 statement_rows.shape-the_row-Stmt-0 statement_rows.hidden-the_row-Stmt-0 statement_rows.shape-the_row-Stmt-1 statement_rows.hidden-the_row-Stmt-1 hidden
releases = refl

-- a `sizeof` anywhere else
abbrev elsewhere_rows : List Row
elsewhere_rows =
    -- int x; int *p; int *q; char *c; int a[3]; int main(void) { x = sizeof x; return 0; }
    row (codes "int x; int *p; int *q; char *c; int a[3]; int main(void) { x = sizeof x; return 0; }") ((Variables (int 0 3) ((declared (name 4 5) [] None) ∷ [])) ∷ (Variables (int 7 10) ((declared (name 12 13) (PointerTo ∷ []) None) ∷ [])) ∷ (Variables (int 15 18) ((declared (name 20 21) (PointerTo ∷ []) None) ∷ [])) ∷ (Variables (char 23 27) ((declared (name 29 30) (PointerTo ∷ []) None) ∷ [])) ∷ (Variables (int 32 35) ((declared (name 36 37) ((ArrayOf (Number (number 38 39))) ∷ []) None) ∷ [])) ∷ (Function (spelled (int 42 45) 0) (name 46 50) [] (Some (Next (Evaluate (Assign (Name (name 59 60)) (mark w.Assign 61 62) (SizeOf (word w.SizeOf 63 69) (Name (name 70 71))))) (Next (Return (word w.Return 73 79) (Some (Number (number 80 81)))) End)))) ∷ []) 123 64 ∷
    -- int x; int *p; int *q; char *c; int a[3]; int main(void) { x = sizeof(y); return 0; }
    row (codes "int x; int *p; int *q; char *c; int a[3]; int main(void) { x = sizeof(y); return 0; }") ((Variables (int 0 3) ((declared (name 4 5) [] None) ∷ [])) ∷ (Variables (int 7 10) ((declared (name 12 13) (PointerTo ∷ []) None) ∷ [])) ∷ (Variables (int 15 18) ((declared (name 20 21) (PointerTo ∷ []) None) ∷ [])) ∷ (Variables (char 23 27) ((declared (name 29 30) (PointerTo ∷ []) None) ∷ [])) ∷ (Variables (int 32 35) ((declared (name 36 37) ((ArrayOf (Number (number 38 39))) ∷ []) None) ∷ [])) ∷ (Function (spelled (int 42 45) 0) (name 46 50) [] (Some (Next (Evaluate (Assign (Name (name 59 60)) (mark w.Assign 61 62) (SizeOf (word w.SizeOf 63 69) (Paren (mark w.LeftParen 69 70) (Name (name 70 71)))))) (Next (Return (word w.Return 74 80) (Some (Number (number 81 82)))) End)))) ∷ []) 121 71 ∷
    -- int x; int *p; int *q; char *c; int a[3]; int main(void) { x = sizeof(struct t); return 0; }
    row (codes "int x; int *p; int *q; char *c; int a[3]; int main(void) { x = sizeof(struct t); return 0; }") ((Variables (int 0 3) ((declared (name 4 5) [] None) ∷ [])) ∷ (Variables (int 7 10) ((declared (name 12 13) (PointerTo ∷ []) None) ∷ [])) ∷ (Variables (int 15 18) ((declared (name 20 21) (PointerTo ∷ []) None) ∷ [])) ∷ (Variables (char 23 27) ((declared (name 29 30) (PointerTo ∷ []) None) ∷ [])) ∷ (Variables (int 32 35) ((declared (name 36 37) ((ArrayOf (Number (number 38 39))) ∷ []) None) ∷ [])) ∷ (Function (spelled (int 42 45) 0) (name 46 50) [] (Some (Next (Evaluate (Assign (Name (name 59 60)) (mark w.Assign 61 62) (SizeOfType (word w.SizeOf 63 69) (spelled (struct 77 78) 0)))) (Next (Return (word w.Return 81 87) (Some (Number (number 88 89)))) End)))) ∷ []) 121 78 ∷
    -- int a[sizeof(int)]; int main(void) { return 0; }
    row (codes "int a[sizeof(int)]; int main(void) { return 0; }") ((Variables (int 0 3) ((declared (name 4 5) ((ArrayOf (SizeOfType (word w.SizeOf 6 12) (spelled (int 13 16) 0))) ∷ []) None) ∷ [])) ∷ (Function (spelled (int 20 23) 0) (name 24 28) [] (Some (Next (Return (word w.Return 37 43) (Some (Number (number 44 45)))) End))) ∷ []) 123 7 ∷
    -- int a = sizeof(int); int main(void) { return 0; }
    row (codes "int a = sizeof(int); int main(void) { return 0; }") ((Variables (int 0 3) ((declared (name 4 5) [] (Some (Value (SizeOfType (word w.SizeOf 8 14) (spelled (int 15 18) 0))))) ∷ [])) ∷ (Function (spelled (int 21 24) 0) (name 25 29) [] (Some (Next (Return (word w.Return 38 44) (Some (Number (number 45 46)))) End))) ∷ []) 123 9 ∷
    -- int f(long b) { return 0; } int main(void) { f(sizeof(int)); return 0; }
    row (codes "int f(long b) { return 0; } int main(void) { f(sizeof(int)); return 0; }") ((Function (spelled (int 0 3) 0) (name 4 5) ((parameter (long 6 10) (Some (name 11 12)) (word w.Long 6 10) []) ∷ []) (Some (Next (Return (word w.Return 16 22) (Some (Number (number 23 24)))) End))) ∷ (Function (spelled (int 28 31) 0) (name 32 36) [] (Some (Next (Evaluate (Call (name 45 46) (Then (SizeOfType (word w.SizeOf 47 53) (spelled (int 54 57) 0)) NoMore))) (Next (Return (word w.Return 61 67) (Some (Number (number 68 69)))) End)))) ∷ []) 123 48 ∷
    -- int x; int *p; int *q; char *c; int a[3]; int main(void) { int malloc = 1; x = malloc(sizeof(int)); return 0; }
    row (codes "int x; int *p; int *q; char *c; int a[3]; int main(void) { int malloc = 1; x = malloc(sizeof(int)); return 0; }") ((Variables (int 0 3) ((declared (name 4 5) [] None) ∷ [])) ∷ (Variables (int 7 10) ((declared (name 12 13) (PointerTo ∷ []) None) ∷ [])) ∷ (Variables (int 15 18) ((declared (name 20 21) (PointerTo ∷ []) None) ∷ [])) ∷ (Variables (char 23 27) ((declared (name 29 30) (PointerTo ∷ []) None) ∷ [])) ∷ (Variables (int 32 35) ((declared (name 36 37) ((ArrayOf (Number (number 38 39))) ∷ []) None) ∷ [])) ∷ (Function (spelled (int 42 45) 0) (name 46 50) [] (Some (Next (Declare (local (int 59 62) ((declared (name 63 69) [] (Some (Value (Number (number 72 73))))) ∷ []))) (Next (Evaluate (Assign (Name (name 75 76)) (mark w.Assign 77 78) (Call (name 79 85) (Then (SizeOfType (word w.SizeOf 86 92) (spelled (int 93 96) 0)) NoMore)))) (Next (Return (word w.Return 100 106) (Some (Number (number 107 108)))) End))))) ∷ []) 123 87 ∷
    -- struct s { int a[malloc(sizeof(struct s)) == 0]; }; int main(void) { return 0; }
    row (codes "struct s { int a[malloc(sizeof(struct s)) == 0]; }; int main(void) { return 0; }") ((Struct (name 7 8) ((members (int 11 14) ((declarator (name 15 16) ((ArrayOf (Binary (Call (name 17 23) (Then (SizeOfType (word w.SizeOf 24 30) (spelled (struct 38 39) 0)) NoMore)) (mark w.EqualEqual 42 44) (Number (number 45 46)))) ∷ [])) ∷ [])) ∷ []) []) ∷ (Function (spelled (int 52 55) 0) (name 56 60) [] (Some (Next (Return (word w.Return 69 75) (Some (Number (number 76 77)))) End))) ∷ []) 123 18 ∷
    -- struct s { int a[malloc(sizeof(struct s *)) == 0]; }; int main(void) { return 0; }
    row (codes "struct s { int a[malloc(sizeof(struct s *)) == 0]; }; int main(void) { return 0; }") ((Struct (name 7 8) ((members (int 11 14) ((declarator (name 15 16) ((ArrayOf (Binary (Call (name 17 23) (Then (SizeOfType (word w.SizeOf 24 30) (spelled (struct 38 39) 1)) NoMore)) (mark w.EqualEqual 44 46) (Number (number 47 48)))) ∷ [])) ∷ [])) ∷ []) []) ∷ (Function (spelled (int 54 57) 0) (name 58 62) [] (Some (Next (Return (word w.Return 71 77) (Some (Number (number 78 79)))) End))) ∷ []) 132 18 ∷ []

pub elsewhere : outcomes elsewhere_rows ≡ refusals elsewhere_rows
unfolding checked_rules.kept checked_rules.unless checked_rules.none_of environment_rules.found_in environment_rules.found environment_rules.specified environment_rules.with_stars environment_rules.spelled_type nodes_rules.first_place judgements_rules.shape judgements_rules.on_pointers judgements_rules.arithmetic judgements_rules.relation judgements_rules.operation judgements_rules.conversion judgements_rules.selection judgements_rules.cast_conversion judgements_rules.compound_operation operands_rules.loaded operands_rules.value operands_rules.condition operands_rules.brought operands_rules.fitted operators_rules.unit operators_rules.computed operators_rules.combined operators_rules.selected operators_rules.choice_of operators_rules.cast_by operators_rules.cast operators_rules.promoting operators_rules.negation operators_rules.address operators_rules.dereferenced assignments_rules.assigned assignments_rules.updated assignments_rules.compound assignments_rules.stepped subobjects_rules.base_of subobjects_rules.indexed subobjects_rules.dot subobjects_rules.arrow allocation_rules.objects allocation_rules.product allocation_rules.allocated allocation_rules.freed expressions_rules.full expressions_rules.operand expressions_rules.arguments expressions_rules.only_value expressions_rules.only_request expressions_rules.requested expressions_rules.measured constant_expressions_rules.is_constant constant_expressions_rules.value_of constant_expressions_rules.constant constant_expressions_rules.size_of_array constant_expressions_rules.part_of constant_expressions_rules.is_literal constant_expressions_rules.has_literal_indices constant_expressions_rules.initial_value declarations_rules.size declarations_rules.layers declarations_rules.layered declarations_rules.element_number declarations_rules.is_complete declarations_rules.is_within_limit initialisers_rules.parts initialisers_rules.zeros initialisers_rules.alone initialisers_rules.all_alone initialisers_rules.cells initialisers_rules.elements statements_rules.in_scope statements_rules.init_statements statements_rules.declare_one statements_rules.declare_all statements_rules.declare statements_rules.statement statements_rules.statements weights_rules.declared_weight weights_rules.item_weight weights_rules.initialiser_nodes weights_rules.elements_nodes weights_rules.continues weights_rules.all_continues weights_rules.statement_weight weights_rules.statements_weight file_scope_rules.file_scope file_scope_rules.variable file_scope_rules.variables structs_rules.member structs_rules.member_list structs_rules.all_members structs_rules.structure functions_rules.parameter functions_rules.parameters functions_rules.declarable_function functions_rules.replaced functions_rules.defined_as functions_rules.function programs_rules.item programs_rules.items programs_rules.whole programs_rules.elaborated programs_rules.elaboration number_rules.radix_of number_rules.value_of number_rules.number_value number_rules.constant_of number_rules.constant_with number_rules.first_holding number_rules.constant_types number_rules.number_of number_rules.suffix_of lexeme_rules.character_value type_rows.shape-the_row-CType-0 type_rows.hidden-the_row-CType-0 expression_rows.shape-the_row-Expr-0 expression_rows.hidden-the_row-Expr-0 expression_rows.shape-the_row-Expr-1 expression_rows.hidden-the_row-Expr-1 expression_rows.shape-the_row-Place_-2 expression_rows.hidden-the_row-Place_-2 statement_rows.shape-the_row-Stmt-0 statement_rows.hidden-the_row-Stmt-0 statement_rows.shape-the_row-Stmt-1 statement_rows.hidden-the_row-Stmt-1 hidden
elsewhere = refl
