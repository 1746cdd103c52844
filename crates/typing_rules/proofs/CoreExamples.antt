-- Examples of texts with the cores that they stand for.
use Rattle.std.proofs.Common.{◌≡◌, refl, ℕ, pos, List, [], ◌∷◌, codes, Option, Some, None, Ok}
use Rattle.c_lexer.specs.declared.token.IntSuffix.TheVariants as suffix
use Rattle.c_words.specs.declared.word.Word.TheVariants as w
use Rattle.c_words.specs.declared.word.Mode.TheVariants as mode
use Rattle.step_meaning.specs.declared.value.IntKind.TheVariants as kind
use Rattle.step_meaning.specs.declared.value.CType.{CType, end_of-CType, more_of-CType}
use Rattle.step_meaning.specs.declared.value.CType.TheVariants as type
use Rattle.step_meaning.specs.declared.value.NameKind.TheVariants as names
use Rattle.step_meaning.specs.declared.value.Value.{Value as Constant}
use Rattle.step_meaning.specs.declared.value.Value.TheVariants as value
use Rattle.step_meaning.specs.declared.expr.IntOp.TheVariants as op
use Rattle.step_meaning.specs.declared.expr.UnaryOp.TheVariants as unary
use Rattle.step_meaning.specs.declared.expr.CompareOp.TheVariants as comparing
use Rattle.step_meaning.specs.declared.expr.UpdateOp.TheVariants as update
use Rattle.step_meaning.specs.declared.expr.Answer.TheVariants.{Before, After}
use Rattle.step_meaning.specs.declared.expr.Side.TheVariants.{PointerFirst}
use Rattle.step_meaning.specs.declared.expr.Variable.{Variable}
use Rattle.step_meaning.specs.declared.expr.Place_.{Place_}
use Rattle.step_meaning.specs.declared.expr.Expr.TheVariants as e
use Rattle.step_meaning.specs.declared.stmt.Stmt.{Stmt}
use Rattle.step_meaning.specs.declared.stmt.Stmt.TheVariants as s
use Rattle.step_meaning.specs.declared.program.Declared.{Declared as Named}
use Rattle.step_meaning.specs.declared.program.Layout.{Layout}
use Rattle.step_meaning.specs.declared.program.Function.{Function as CoreFunction}
use Rattle.step_meaning.specs.declared.program.Core.{Core}
use Rattle.step_meaning.specs.ExpressionTypes.{pointer_to}
use Rattle.step_meaning.specs.Library.{int as int_type, unsigned_long as unsigned_long_type, void_pointer}
use Rattle.typing_rules.specs.Syntax.{Name, Number, Character, Paren, Call, Index, Member, Arrow, Increment, Decrement, Prefix, Cast, SizeOf, SizeOfType, Binary, Choose, Assign, NoMore, Then, PointerTo, ArrayOf, Value, Braces, NoElement, Element, NoFirst, FirstValue, FirstLocal, Nothing, Evaluate, Block, Declare, If, IfElse, While, Do, For, Break, Continue, Return, End, Next, Struct, Variables, Function, Item}
use Rattle.typing_rules.specs.Programs.{elaborated}
use Rattle.typing_rules.proofs.ExampleTexts.{name, number, suffixed, character, word, mark, int, char, unsigned_char, short, unsigned, long, unsigned_long, void, declarator, declared, parameter, local, members, spelled, struct}
use Rattle.typing_rules.specs.Checked as checked_rules
use Rattle.typing_rules.specs.Environment as environment_rules
use Rattle.typing_rules.specs.Nodes as nodes_rules
use Rattle.typing_rules.specs.Judgements as judgements_rules
use Rattle.typing_rules.specs.Operands as operands_rules
use Rattle.typing_rules.specs.Operators as operators_rules
use Rattle.typing_rules.specs.Assignments as assignments_rules
use Rattle.typing_rules.specs.Subobjects as subobjects_rules
use Rattle.typing_rules.specs.Allocation as allocation_rules
use Rattle.typing_rules.specs.Expressions as expressions_rules
use Rattle.typing_rules.specs.ConstantExpressions as constant_expressions_rules
use Rattle.typing_rules.specs.Declarations as declarations_rules
use Rattle.typing_rules.specs.Initialisers as initialisers_rules
use Rattle.typing_rules.specs.Statements as statements_rules
use Rattle.typing_rules.specs.Weights as weights_rules
use Rattle.typing_rules.specs.FileScope as file_scope_rules
use Rattle.typing_rules.specs.Structs as structs_rules
use Rattle.typing_rules.specs.Functions as functions_rules
use Rattle.typing_rules.specs.Programs as programs_rules
use Rattle.c_lexer.specs.Numbers as number_rules
use Rattle.c_lexer.specs.Lexemes as lexeme_rules
use Rattle.step_meaning.specs.declared.value.CType.TheBlock as type_rows
use Rattle.step_meaning.specs.declared.expr.Expr.TheBlock as expression_rows
use Rattle.step_meaning.specs.declared.stmt.Stmt.TheBlock as statement_rows
use denote.Hole.Carrier.{hidden}

-- ---- parts of cores

abbrev array_of : CType → ℕ → CType
array_of t n = type.Array' tt (more_of-CType t end_of-CType) n

abbrev variable : List ℕ → CType → Named
variable n t = record { name = n; ctype = t }

abbrev layout : List ℕ → List Named → Layout
layout tag ms = record { tag = tag; members = ms }

abbrev global : ℕ → Place_
global n = e.Own (record { kind = names.Global; index = n })

abbrev local_variable : ℕ → Variable
local_variable n = record { kind = names.Local; index = n }

abbrev own_local : ℕ → Place_
own_local n = e.Own (local_variable n)

abbrev function : List ℕ → CType → ℕ → List Named → Option (List Stmt) → CoreFunction
function n t params ds ss = record { name = n; result = t; params = params; locals = ds; registers = []; ghosts = []; body = ss }

-- `getchar`, `putchar`, `malloc` and `free` come first
abbrev core_of : List Layout → List Named → List (List Constant) → List CoreFunction → ℕ → Core
core_of ls gs vs fs main = record {
  layouts = ls;
  globals = gs;
  initial = vs;
  ghosts = [];
  functions =
      function (codes "getchar") int_type 0 [] None
      ∷ function (codes "putchar") int_type 1 (variable [] int_type ∷ []) None
      ∷ function (codes "malloc") void_pointer 1 (variable [] unsigned_long_type ∷ []) None
      ∷ function (codes "free") type.Void 1 (variable [] void_pointer ∷ []) None
      ∷ fs;
  start = main;
}

-- ---- texts

-- the smallest program:
-- int main(void) { return 0; }
abbrev pub smallest_text : List ℕ
smallest_text = codes "int main(void) { return 0; }"

abbrev pub smallest_items : List Item
smallest_items = ((Function (spelled (int 0 3) 0) (name 4 8) [] (Some (Next (Return (word w.Return 17 23) (Some (Number (number 24 25)))) End))) ∷ [])

abbrev pub smallest_core : Core
smallest_core = (core_of ([]) ([]) ([]) ((function (codes "main") int_type 0 ([]) (Some ((s.Return (Some (e.Literal kind.Int (pos 0)))) ∷ []))) ∷ []) 4)

pub smallest : elaborated mode.Source smallest_text smallest_items ≡ Ok smallest_core
unfolding checked_rules.kept checked_rules.unless checked_rules.none_of environment_rules.found_in environment_rules.found environment_rules.specified environment_rules.with_stars environment_rules.spelled_type nodes_rules.first_place judgements_rules.shape judgements_rules.on_pointers judgements_rules.arithmetic judgements_rules.relation judgements_rules.operation judgements_rules.conversion judgements_rules.selection judgements_rules.cast_conversion judgements_rules.compound_operation operands_rules.loaded operands_rules.value operands_rules.condition operands_rules.brought operands_rules.fitted operators_rules.unit operators_rules.computed operators_rules.combined operators_rules.selected operators_rules.choice_of operators_rules.cast_by operators_rules.cast operators_rules.promoting operators_rules.negation operators_rules.address operators_rules.dereferenced assignments_rules.assigned assignments_rules.updated assignments_rules.compound assignments_rules.stepped subobjects_rules.base_of subobjects_rules.indexed subobjects_rules.dot subobjects_rules.arrow allocation_rules.objects allocation_rules.product allocation_rules.allocated allocation_rules.freed expressions_rules.full expressions_rules.operand expressions_rules.arguments expressions_rules.only_value expressions_rules.only_request expressions_rules.requested expressions_rules.measured constant_expressions_rules.is_constant constant_expressions_rules.value_of constant_expressions_rules.constant constant_expressions_rules.size_of_array constant_expressions_rules.part_of constant_expressions_rules.is_literal constant_expressions_rules.has_literal_indices constant_expressions_rules.initial_value declarations_rules.size declarations_rules.layers declarations_rules.layered declarations_rules.element_number declarations_rules.is_complete declarations_rules.is_within_limit initialisers_rules.parts initialisers_rules.zeros initialisers_rules.alone initialisers_rules.all_alone initialisers_rules.cells initialisers_rules.elements statements_rules.in_scope statements_rules.init_statements statements_rules.declare_one statements_rules.declare_all statements_rules.declare statements_rules.statement statements_rules.statements weights_rules.declared_weight weights_rules.item_weight weights_rules.initialiser_nodes weights_rules.elements_nodes weights_rules.continues weights_rules.all_continues weights_rules.statement_weight weights_rules.statements_weight file_scope_rules.file_scope file_scope_rules.variable file_scope_rules.variables structs_rules.member structs_rules.member_list structs_rules.all_members structs_rules.structure functions_rules.parameter functions_rules.parameters functions_rules.declarable_function functions_rules.replaced functions_rules.defined_as functions_rules.function programs_rules.item programs_rules.items programs_rules.whole programs_rules.elaborated programs_rules.elaboration number_rules.radix_of number_rules.value_of number_rules.number_value number_rules.constant_of number_rules.constant_with number_rules.first_holding number_rules.constant_types number_rules.number_of number_rules.suffix_of lexeme_rules.character_value type_rows.shape-the_row-CType-0 type_rows.hidden-the_row-CType-0 expression_rows.shape-the_row-Expr-0 expression_rows.hidden-the_row-Expr-0 expression_rows.shape-the_row-Expr-1 expression_rows.hidden-the_row-Expr-1 expression_rows.shape-the_row-Place_-2 expression_rows.hidden-the_row-Place_-2 statement_rows.shape-the_row-Stmt-0 statement_rows.hidden-the_row-Stmt-0 statement_rows.shape-the_row-Stmt-1 statement_rows.hidden-the_row-Stmt-1 hidden
smallest = refl

-- integers are brought to other kinds, and an array to a pointer:
-- char c; unsigned u; int a[2]; int main(void) { int *p = a; c = 200; p[1] = c + 1L; a[c] += u; u = c << 3L; return -c; }
abbrev pub conversions_text : List ℕ
conversions_text = codes "char c; unsigned u; int a[2]; int main(void) { int *p = a; c = 200; p[1] = c + 1L; a[c] += u; u = c << 3L; return -c; }"

abbrev pub conversions_items : List Item
conversions_items = ((Variables (char 0 4) ((declared (name 5 6) [] None) ∷ [])) ∷ (Variables (unsigned 8 16) ((declared (name 17 18) [] None) ∷ [])) ∷ (Variables (int 20 23) ((declared (name 24 25) ((ArrayOf (Number (number 26 27))) ∷ []) None) ∷ [])) ∷ (Function (spelled (int 30 33) 0) (name 34 38) [] (Some (Next (Declare (local (int 47 50) ((declared (name 52 53) (PointerTo ∷ []) (Some (Value (Name (name 56 57))))) ∷ []))) (Next (Evaluate (Assign (Name (name 59 60)) (mark w.Assign 61 62) (Number (number 63 66)))) (Next (Evaluate (Assign (Index (Name (name 68 69)) (mark w.LeftBracket 69 70) (Number (number 70 71))) (mark w.Assign 73 74) (Binary (Name (name 75 76)) (mark w.Plus 77 78) (Number (suffixed suffix.L 79 81))))) (Next (Evaluate (Assign (Index (Name (name 83 84)) (mark w.LeftBracket 84 85) (Name (name 85 86))) (mark w.PlusAssign 88 90) (Name (name 91 92)))) (Next (Evaluate (Assign (Name (name 94 95)) (mark w.Assign 96 97) (Binary (Name (name 98 99)) (mark w.ShiftLeft 100 102) (Number (suffixed suffix.L 103 105))))) (Next (Return (word w.Return 107 113) (Some (Prefix (mark w.Minus 114 115) (Name (name 115 116))))) End)))))))) ∷ [])

abbrev pub conversions_core : Core
conversions_core = (core_of ([]) ((variable (codes "c") (type.Int kind.Char)) ∷ (variable (codes "u") (type.Int kind.UInt)) ∷ (variable (codes "a") (array_of int_type 2)) ∷ []) (((value.Int (pos 0)) ∷ []) ∷ ((value.Int (pos 0)) ∷ []) ∷ ((value.Int (pos 0)) ∷ (value.Int (pos 0)) ∷ []) ∷ []) ((function (codes "main") int_type 0 ((variable (codes "p") (pointer_to int_type)) ∷ []) (Some ((s.Init (local_variable 0) 0 (pointer_to int_type) (e.Address (global 2) int_type)) ∷ (s.Eval (e.Assign (global 0) (type.Int kind.Char) (e.Convert kind.Char (e.Literal kind.Int (pos 200))))) ∷ (s.Eval (e.Assign (e.Deref (e.Move (e.Load (own_local 0) (pointer_to int_type)) (e.Literal kind.Int (pos 1)) 1 PointerFirst)) int_type (e.Convert kind.Int (e.Binary op.Add kind.Long (e.Convert kind.Long (e.Load (global 0) (type.Int kind.Char))) (e.Literal kind.Long (pos 1)))))) ∷ (s.Eval (e.Update (e.Index (global 2) (e.Load (global 0) (type.Int kind.Char)) 1) int_type (update.Integer op.Add kind.UInt) (e.Load (global 1) (type.Int kind.UInt)) After)) ∷ (s.Eval (e.Assign (global 1) (type.Int kind.UInt) (e.Convert kind.UInt (e.Binary op.Shl kind.Int (e.Convert kind.Int (e.Load (global 0) (type.Int kind.Char))) (e.Literal kind.Long (pos 3)))))) ∷ (s.Return (Some (e.Unary unary.Neg kind.Int (e.Convert kind.Int (e.Load (global 0) (type.Int kind.Char)))))) ∷ []))) ∷ []) 4)

pub conversions : elaborated mode.Source conversions_text conversions_items ≡ Ok conversions_core
unfolding checked_rules.kept checked_rules.unless checked_rules.none_of environment_rules.found_in environment_rules.found environment_rules.specified environment_rules.with_stars environment_rules.spelled_type nodes_rules.first_place judgements_rules.shape judgements_rules.on_pointers judgements_rules.arithmetic judgements_rules.relation judgements_rules.operation judgements_rules.conversion judgements_rules.selection judgements_rules.cast_conversion judgements_rules.compound_operation operands_rules.loaded operands_rules.value operands_rules.condition operands_rules.brought operands_rules.fitted operators_rules.unit operators_rules.computed operators_rules.combined operators_rules.selected operators_rules.choice_of operators_rules.cast_by operators_rules.cast operators_rules.promoting operators_rules.negation operators_rules.address operators_rules.dereferenced assignments_rules.assigned assignments_rules.updated assignments_rules.compound assignments_rules.stepped subobjects_rules.base_of subobjects_rules.indexed subobjects_rules.dot subobjects_rules.arrow allocation_rules.objects allocation_rules.product allocation_rules.allocated allocation_rules.freed expressions_rules.full expressions_rules.operand expressions_rules.arguments expressions_rules.only_value expressions_rules.only_request expressions_rules.requested expressions_rules.measured constant_expressions_rules.is_constant constant_expressions_rules.value_of constant_expressions_rules.constant constant_expressions_rules.size_of_array constant_expressions_rules.part_of constant_expressions_rules.is_literal constant_expressions_rules.has_literal_indices constant_expressions_rules.initial_value declarations_rules.size declarations_rules.layers declarations_rules.layered declarations_rules.element_number declarations_rules.is_complete declarations_rules.is_within_limit initialisers_rules.parts initialisers_rules.zeros initialisers_rules.alone initialisers_rules.all_alone initialisers_rules.cells initialisers_rules.elements statements_rules.in_scope statements_rules.init_statements statements_rules.declare_one statements_rules.declare_all statements_rules.declare statements_rules.statement statements_rules.statements weights_rules.declared_weight weights_rules.item_weight weights_rules.initialiser_nodes weights_rules.elements_nodes weights_rules.continues weights_rules.all_continues weights_rules.statement_weight weights_rules.statements_weight file_scope_rules.file_scope file_scope_rules.variable file_scope_rules.variables structs_rules.member structs_rules.member_list structs_rules.all_members structs_rules.structure functions_rules.parameter functions_rules.parameters functions_rules.declarable_function functions_rules.replaced functions_rules.defined_as functions_rules.function programs_rules.item programs_rules.items programs_rules.whole programs_rules.elaborated programs_rules.elaboration number_rules.radix_of number_rules.value_of number_rules.number_value number_rules.constant_of number_rules.constant_with number_rules.first_holding number_rules.constant_types number_rules.number_of number_rules.suffix_of lexeme_rules.character_value type_rows.shape-the_row-CType-0 type_rows.hidden-the_row-CType-0 expression_rows.shape-the_row-Expr-0 expression_rows.hidden-the_row-Expr-0 expression_rows.shape-the_row-Expr-1 expression_rows.hidden-the_row-Expr-1 expression_rows.shape-the_row-Place_-2 expression_rows.hidden-the_row-Place_-2 statement_rows.shape-the_row-Stmt-0 statement_rows.hidden-the_row-Stmt-0 statement_rows.shape-the_row-Stmt-1 statement_rows.hidden-the_row-Stmt-1 hidden
conversions = refl

-- structs, loops, conditions and `++`:
-- struct s { int m; struct s *next; char k[2]; }; struct s v = {1, &v}; int main(void) { struct s *p = &v; for (int i = 0; i < 2; i++) if (p->next->k[i]) continue; else break; while (p && !v.m) { p = p ? p : 0; } do ; while (p == 0); return p->m--; }
abbrev pub structures_text : List ℕ
structures_text = codes "struct s { int m; struct s *next; char k[2]; }; struct s v = {1, &v}; int main(void) { struct s *p = &v; for (int i = 0; i < 2; i++) if (p->next->k[i]) continue; else break; while (p && !v.m) { p = p ? p : 0; } do ; while (p == 0); return p->m--; }"

abbrev pub structures_items : List Item
structures_items = ((Struct (name 7 8) ((members (int 11 14) ((declarator (name 15 16) []) ∷ [])) ∷ (members (struct 25 26) ((declarator (name 28 32) (PointerTo ∷ [])) ∷ [])) ∷ (members (char 34 38) ((declarator (name 39 40) ((ArrayOf (Number (number 41 42))) ∷ [])) ∷ [])) ∷ []) []) ∷ (Variables (struct 55 56) ((declared (name 57 58) [] (Some (Braces (mark w.LeftBrace 61 62) (Element (Value (Number (number 62 63))) (Element (Value (Prefix (mark w.Ampersand 65 66) (Name (name 66 67)))) NoElement))))) ∷ [])) ∷ (Function (spelled (int 70 73) 0) (name 74 78) [] (Some (Next (Declare (local (struct 94 95) ((declared (name 97 98) (PointerTo ∷ []) (Some (Value (Prefix (mark w.Ampersand 101 102) (Name (name 102 103)))))) ∷ []))) (Next (For (FirstLocal (local (int 110 113) ((declared (name 114 115) [] (Some (Value (Number (number 118 119))))) ∷ []))) (Some (Binary (Name (name 121 122)) (mark w.Less 123 124) (Number (number 125 126)))) (Some (Increment (Name (name 128 129)) (mark w.Increment 129 131))) (IfElse (Index (Arrow (Arrow (Name (name 137 138)) (mark w.Arrow 138 140) (name 140 144)) (mark w.Arrow 144 146) (name 146 147)) (mark w.LeftBracket 147 148) (Name (name 148 149))) (Continue (word w.Continue 152 160)) (Break (word w.Break 167 172)))) (Next (While (Binary (Name (name 181 182)) (mark w.AndAnd 183 185) (Prefix (mark w.Exclamation 186 187) (Member (Name (name 187 188)) (mark w.Dot 188 189) (name 189 190)))) (Block (Next (Evaluate (Assign (Name (name 194 195)) (mark w.Assign 196 197) (Choose (Name (name 198 199)) (mark w.Question 200 201) (Name (name 202 203)) (Number (number 206 207))))) End))) (Next (Do Nothing (Binary (Name (name 223 224)) (mark w.EqualEqual 225 227) (Number (number 228 229)))) (Next (Return (word w.Return 232 238) (Some (Decrement (Arrow (Name (name 239 240)) (mark w.Arrow 240 242) (name 242 243)) (mark w.Decrement 243 245)))) End))))))) ∷ [])

abbrev pub structures_core : Core
structures_core = (core_of ((layout (codes "s") ((variable (codes "m") int_type) ∷ (variable (codes "next") (pointer_to (type.Struct 0))) ∷ (variable (codes "k") (array_of (type.Int kind.Char) 2)) ∷ [])) ∷ []) ((variable (codes "v") (type.Struct 0)) ∷ []) (((value.Int (pos 1)) ∷ (value.Pointer (record { kind = names.Global; activation = 0; index = 0 }) 0) ∷ (value.Int (pos 0)) ∷ (value.Int (pos 0)) ∷ []) ∷ []) ((function (codes "main") int_type 0 ((variable (codes "p") (pointer_to (type.Struct 0))) ∷ (variable (codes "i") int_type) ∷ []) (Some ((s.Init (local_variable 0) 0 (pointer_to (type.Struct 0)) (e.Address (global 0) (type.Struct 0))) ∷ (s.Block ((s.Init (local_variable 1) 0 int_type (e.Literal kind.Int (pos 0))) ∷ (s.For (Some (e.Compare comparing.Less (e.Load (own_local 1) int_type) (e.Literal kind.Int (pos 2)))) (Some (e.Update (own_local 1) int_type (update.Integer op.Add kind.Int) (e.Literal kind.Int (pos 1)) Before)) (s.If (e.Load (e.Index (e.Member (e.Deref (e.Load (e.Member (e.Deref (e.Load (own_local 0) (pointer_to (type.Struct 0)))) 1) (pointer_to (type.Struct 0)))) 2) (e.Load (own_local 1) int_type) 1) (type.Int kind.Char)) s.Continue s.Break)) ∷ [])) ∷ (s.While (e.Both (e.Load (own_local 0) (pointer_to (type.Struct 0))) (e.Not (e.Load (e.Member (global 0) 0) int_type))) (s.Block ((s.Eval (e.Assign (own_local 0) (pointer_to (type.Struct 0)) (e.Choose (e.Load (own_local 0) (pointer_to (type.Struct 0))) (e.Load (own_local 0) (pointer_to (type.Struct 0))) e.Null))) ∷ []))) ∷ (s.Do s.Empty (e.Compare comparing.Equal (e.Load (own_local 0) (pointer_to (type.Struct 0))) e.Null)) ∷ (s.Return (Some (e.Update (e.Member (e.Deref (e.Load (own_local 0) (pointer_to (type.Struct 0)))) 0) int_type (update.Integer op.Sub kind.Int) (e.Literal kind.Int (pos 1)) Before))) ∷ []))) ∷ []) 4)

pub structures : elaborated mode.Source structures_text structures_items ≡ Ok structures_core
unfolding checked_rules.kept checked_rules.unless checked_rules.none_of environment_rules.found_in environment_rules.found environment_rules.specified environment_rules.with_stars environment_rules.spelled_type nodes_rules.first_place judgements_rules.shape judgements_rules.on_pointers judgements_rules.arithmetic judgements_rules.relation judgements_rules.operation judgements_rules.conversion judgements_rules.selection judgements_rules.cast_conversion judgements_rules.compound_operation operands_rules.loaded operands_rules.value operands_rules.condition operands_rules.brought operands_rules.fitted operators_rules.unit operators_rules.computed operators_rules.combined operators_rules.selected operators_rules.choice_of operators_rules.cast_by operators_rules.cast operators_rules.promoting operators_rules.negation operators_rules.address operators_rules.dereferenced assignments_rules.assigned assignments_rules.updated assignments_rules.compound assignments_rules.stepped subobjects_rules.base_of subobjects_rules.indexed subobjects_rules.dot subobjects_rules.arrow allocation_rules.objects allocation_rules.product allocation_rules.allocated allocation_rules.freed expressions_rules.full expressions_rules.operand expressions_rules.arguments expressions_rules.only_value expressions_rules.only_request expressions_rules.requested expressions_rules.measured constant_expressions_rules.is_constant constant_expressions_rules.value_of constant_expressions_rules.constant constant_expressions_rules.size_of_array constant_expressions_rules.part_of constant_expressions_rules.is_literal constant_expressions_rules.has_literal_indices constant_expressions_rules.initial_value declarations_rules.size declarations_rules.layers declarations_rules.layered declarations_rules.element_number declarations_rules.is_complete declarations_rules.is_within_limit initialisers_rules.parts initialisers_rules.zeros initialisers_rules.alone initialisers_rules.all_alone initialisers_rules.cells initialisers_rules.elements statements_rules.in_scope statements_rules.init_statements statements_rules.declare_one statements_rules.declare_all statements_rules.declare statements_rules.statement statements_rules.statements weights_rules.declared_weight weights_rules.item_weight weights_rules.initialiser_nodes weights_rules.elements_nodes weights_rules.continues weights_rules.all_continues weights_rules.statement_weight weights_rules.statements_weight file_scope_rules.file_scope file_scope_rules.variable file_scope_rules.variables structs_rules.member structs_rules.member_list structs_rules.all_members structs_rules.structure functions_rules.parameter functions_rules.parameters functions_rules.declarable_function functions_rules.replaced functions_rules.defined_as functions_rules.function programs_rules.item programs_rules.items programs_rules.whole programs_rules.elaborated programs_rules.elaboration number_rules.radix_of number_rules.value_of number_rules.number_value number_rules.constant_of number_rules.constant_with number_rules.first_holding number_rules.constant_types number_rules.number_of number_rules.suffix_of lexeme_rules.character_value type_rows.shape-the_row-CType-0 type_rows.hidden-the_row-CType-0 expression_rows.shape-the_row-Expr-0 expression_rows.hidden-the_row-Expr-0 expression_rows.shape-the_row-Expr-1 expression_rows.hidden-the_row-Expr-1 expression_rows.shape-the_row-Place_-2 expression_rows.hidden-the_row-Place_-2 statement_rows.shape-the_row-Stmt-0 statement_rows.hidden-the_row-Stmt-0 statement_rows.shape-the_row-Stmt-1 statement_rows.hidden-the_row-Stmt-1 hidden
structures = refl

-- `malloc` with a count, `malloc` of one object, and `free`:
-- int main(void) { int *p = malloc(2 * sizeof(int)); int *q = (int *) (malloc(sizeof *p)); p[0] = 5; free(p); free(0); return p[0]; }
abbrev pub allocation_text : List ℕ
allocation_text = codes "int main(void) { int *p = malloc(2 * sizeof(int)); int *q = (int *) (malloc(sizeof *p)); p[0] = 5; free(p); free(0); return p[0]; }"

abbrev pub allocation_items : List Item
allocation_items = ((Function (spelled (int 0 3) 0) (name 4 8) [] (Some (Next (Declare (local (int 17 20) ((declared (name 22 23) (PointerTo ∷ []) (Some (Value (Call (name 26 32) (Then (Binary (Number (number 33 34)) (mark w.Star 35 36) (SizeOfType (word w.SizeOf 37 43) (spelled (int 44 47) 0))) NoMore))))) ∷ []))) (Next (Declare (local (int 51 54) ((declared (name 56 57) (PointerTo ∷ []) (Some (Value (Cast (mark w.LeftParen 60 61) (spelled (int 61 64) 1) (Paren (mark w.LeftParen 68 69) (Call (name 69 75) (Then (SizeOf (word w.SizeOf 76 82) (Prefix (mark w.Star 83 84) (Name (name 84 85)))) NoMore))))))) ∷ []))) (Next (Evaluate (Assign (Index (Name (name 89 90)) (mark w.LeftBracket 90 91) (Number (number 91 92))) (mark w.Assign 94 95) (Number (number 96 97)))) (Next (Evaluate (Call (name 99 103) (Then (Name (name 104 105)) NoMore))) (Next (Evaluate (Call (name 108 112) (Then (Number (number 113 114)) NoMore))) (Next (Return (word w.Return 117 123) (Some (Index (Name (name 124 125)) (mark w.LeftBracket 125 126) (Number (number 126 127))))) End)))))))) ∷ [])

abbrev pub allocation_core : Core
allocation_core = (core_of ([]) ([]) ([]) ((function (codes "main") int_type 0 ((variable (codes "p") (pointer_to int_type)) ∷ (variable (codes "q") (pointer_to int_type)) ∷ []) (Some ((s.Init (local_variable 0) 0 (pointer_to int_type) (e.Malloc (e.Convert kind.ULong (e.Literal kind.Int (pos 2))) int_type)) ∷ (s.Init (local_variable 1) 0 (pointer_to int_type) (e.Malloc (e.Literal kind.ULong (pos 1)) int_type)) ∷ (s.Eval (e.Assign (e.Deref (e.Move (e.Load (own_local 0) (pointer_to int_type)) (e.Literal kind.Int (pos 0)) 1 PointerFirst)) int_type (e.Literal kind.Int (pos 5)))) ∷ (s.Eval (e.Free (e.Load (own_local 0) (pointer_to int_type)))) ∷ (s.Eval (e.Free e.Null)) ∷ (s.Return (Some (e.Load (e.Deref (e.Move (e.Load (own_local 0) (pointer_to int_type)) (e.Literal kind.Int (pos 0)) 1 PointerFirst)) int_type))) ∷ []))) ∷ []) 4)

pub allocation : elaborated mode.Source allocation_text allocation_items ≡ Ok allocation_core
unfolding checked_rules.kept checked_rules.unless checked_rules.none_of environment_rules.found_in environment_rules.found environment_rules.specified environment_rules.with_stars environment_rules.spelled_type nodes_rules.first_place judgements_rules.shape judgements_rules.on_pointers judgements_rules.arithmetic judgements_rules.relation judgements_rules.operation judgements_rules.conversion judgements_rules.selection judgements_rules.cast_conversion judgements_rules.compound_operation operands_rules.loaded operands_rules.value operands_rules.condition operands_rules.brought operands_rules.fitted operators_rules.unit operators_rules.computed operators_rules.combined operators_rules.selected operators_rules.choice_of operators_rules.cast_by operators_rules.cast operators_rules.promoting operators_rules.negation operators_rules.address operators_rules.dereferenced assignments_rules.assigned assignments_rules.updated assignments_rules.compound assignments_rules.stepped subobjects_rules.base_of subobjects_rules.indexed subobjects_rules.dot subobjects_rules.arrow allocation_rules.objects allocation_rules.product allocation_rules.allocated allocation_rules.freed expressions_rules.full expressions_rules.operand expressions_rules.arguments expressions_rules.only_value expressions_rules.only_request expressions_rules.requested expressions_rules.measured constant_expressions_rules.is_constant constant_expressions_rules.value_of constant_expressions_rules.constant constant_expressions_rules.size_of_array constant_expressions_rules.part_of constant_expressions_rules.is_literal constant_expressions_rules.has_literal_indices constant_expressions_rules.initial_value declarations_rules.size declarations_rules.layers declarations_rules.layered declarations_rules.element_number declarations_rules.is_complete declarations_rules.is_within_limit initialisers_rules.parts initialisers_rules.zeros initialisers_rules.alone initialisers_rules.all_alone initialisers_rules.cells initialisers_rules.elements statements_rules.in_scope statements_rules.init_statements statements_rules.declare_one statements_rules.declare_all statements_rules.declare statements_rules.statement statements_rules.statements weights_rules.declared_weight weights_rules.item_weight weights_rules.initialiser_nodes weights_rules.elements_nodes weights_rules.continues weights_rules.all_continues weights_rules.statement_weight weights_rules.statements_weight file_scope_rules.file_scope file_scope_rules.variable file_scope_rules.variables structs_rules.member structs_rules.member_list structs_rules.all_members structs_rules.structure functions_rules.parameter functions_rules.parameters functions_rules.declarable_function functions_rules.replaced functions_rules.defined_as functions_rules.function programs_rules.item programs_rules.items programs_rules.whole programs_rules.elaborated programs_rules.elaboration number_rules.radix_of number_rules.value_of number_rules.number_value number_rules.constant_of number_rules.constant_with number_rules.first_holding number_rules.constant_types number_rules.number_of number_rules.suffix_of lexeme_rules.character_value type_rows.shape-the_row-CType-0 type_rows.hidden-the_row-CType-0 expression_rows.shape-the_row-Expr-0 expression_rows.hidden-the_row-Expr-0 expression_rows.shape-the_row-Expr-1 expression_rows.hidden-the_row-Expr-1 expression_rows.shape-the_row-Place_-2 expression_rows.hidden-the_row-Place_-2 statement_rows.shape-the_row-Stmt-0 statement_rows.hidden-the_row-Stmt-0 statement_rows.shape-the_row-Stmt-1 statement_rows.hidden-the_row-Stmt-1 hidden
allocation = refl

-- functions by number, parameters, initialisers of locals, and a difference of pointers:
-- int f(int a, int *b); int g(void) { return f('a', 0); } int f(int x, int y[3]) { int h[2][2] = {{1}, {x, 3}}; char c[2] = {0}; { int x; putchar(x); } (void) getchar(); return x ? y[0] : y - h[1] > 2; } int main(void) { g(); return 0; }
abbrev pub calls_text : List ℕ
calls_text = codes "int f(int a, int *b); int g(void) { return f('a', 0); } int f(int x, int y[3]) { int h[2][2] = {{1}, {x, 3}}; char c[2] = {0}; { int x; putchar(x); } (void) getchar(); return x ? y[0] : y - h[1] > 2; } int main(void) { g(); return 0; }"

abbrev pub calls_items : List Item
calls_items = ((Function (spelled (int 0 3) 0) (name 4 5) ((parameter (int 6 9) (Some (name 10 11)) (word w.Int 6 9) []) ∷ (parameter (int 13 16) (Some (name 18 19)) (word w.Int 13 16) (PointerTo ∷ [])) ∷ []) None) ∷ (Function (spelled (int 22 25) 0) (name 26 27) [] (Some (Next (Return (word w.Return 36 42) (Some (Call (name 43 44) (Then (Character (character 45 48)) (Then (Number (number 50 51)) NoMore))))) End))) ∷ (Function (spelled (int 56 59) 0) (name 60 61) ((parameter (int 62 65) (Some (name 66 67)) (word w.Int 62 65) []) ∷ (parameter (int 69 72) (Some (name 73 74)) (word w.Int 69 72) ((ArrayOf (Number (number 75 76))) ∷ [])) ∷ []) (Some (Next (Declare (local (int 81 84) ((declared (name 85 86) ((ArrayOf (Number (number 87 88))) ∷ (ArrayOf (Number (number 90 91))) ∷ []) (Some (Braces (mark w.LeftBrace 95 96) (Element (Braces (mark w.LeftBrace 96 97) (Element (Value (Number (number 97 98))) NoElement)) (Element (Braces (mark w.LeftBrace 101 102) (Element (Value (Name (name 102 103))) (Element (Value (Number (number 105 106))) NoElement))) NoElement))))) ∷ []))) (Next (Declare (local (char 110 114) ((declared (name 115 116) ((ArrayOf (Number (number 117 118))) ∷ []) (Some (Braces (mark w.LeftBrace 122 123) (Element (Value (Number (number 123 124))) NoElement)))) ∷ []))) (Next (Block (Next (Declare (local (int 129 132) ((declared (name 133 134) [] None) ∷ []))) (Next (Evaluate (Call (name 136 143) (Then (Name (name 144 145)) NoMore))) End))) (Next (Evaluate (Cast (mark w.LeftParen 150 151) (spelled (void 151 155) 0) (Call (name 157 164) NoMore))) (Next (Return (word w.Return 168 174) (Some (Choose (Name (name 175 176)) (mark w.Question 177 178) (Index (Name (name 179 180)) (mark w.LeftBracket 180 181) (Number (number 181 182))) (Binary (Binary (Name (name 186 187)) (mark w.Minus 188 189) (Index (Name (name 190 191)) (mark w.LeftBracket 191 192) (Number (number 192 193)))) (mark w.Greater 195 196) (Number (number 197 198)))))) End))))))) ∷ (Function (spelled (int 202 205) 0) (name 206 210) [] (Some (Next (Evaluate (Call (name 219 220) NoMore)) (Next (Return (word w.Return 224 230) (Some (Number (number 231 232)))) End)))) ∷ [])

abbrev pub calls_core : Core
calls_core = (core_of ([]) ([]) ([]) ((function (codes "f") int_type 2 ((variable (codes "x") int_type) ∷ (variable (codes "y") (pointer_to int_type)) ∷ (variable (codes "h") (array_of (array_of int_type 2) 2)) ∷ (variable (codes "c") (array_of (type.Int kind.Char) 2)) ∷ (variable (codes "x") int_type) ∷ []) (Some ((s.Init (local_variable 2) 0 int_type (e.Literal kind.Int (pos 1))) ∷ (s.Init (local_variable 2) 1 int_type (e.Literal kind.Int (pos 0))) ∷ (s.Init (local_variable 2) 2 int_type (e.Load (own_local 0) int_type)) ∷ (s.Init (local_variable 2) 3 int_type (e.Literal kind.Int (pos 3))) ∷ (s.Init (local_variable 3) 0 (type.Int kind.Char) (e.Convert kind.Char (e.Literal kind.Int (pos 0)))) ∷ (s.Init (local_variable 3) 1 (type.Int kind.Char) (e.Convert kind.Char (e.Literal kind.Int (pos 0)))) ∷ (s.Block (s.Empty ∷ (s.Eval (e.PutChar (e.Load (own_local 4) int_type))) ∷ [])) ∷ (s.Eval (e.Discard e.GetChar)) ∷ (s.Return (Some (e.Choose (e.Load (own_local 0) int_type) (e.Load (e.Deref (e.Move (e.Load (own_local 1) (pointer_to int_type)) (e.Literal kind.Int (pos 0)) 1 PointerFirst)) int_type) (e.Compare comparing.Greater (e.Difference (e.Load (own_local 1) (pointer_to int_type)) (e.Address (e.Index (own_local 2) (e.Literal kind.Int (pos 1)) 2) int_type) 1) (e.Convert kind.Long (e.Literal kind.Int (pos 2))))))) ∷ []))) ∷ (function (codes "g") int_type 0 ([]) (Some ((s.Return (Some (e.Invoke 4 ((e.Literal kind.Int (pos 97)) ∷ e.Null ∷ [])))) ∷ []))) ∷ (function (codes "main") int_type 0 ([]) (Some ((s.Eval (e.Invoke 5 [])) ∷ (s.Return (Some (e.Literal kind.Int (pos 0)))) ∷ []))) ∷ []) 6)

pub calls : elaborated mode.Source calls_text calls_items ≡ Ok calls_core
unfolding checked_rules.kept checked_rules.unless checked_rules.none_of environment_rules.found_in environment_rules.found environment_rules.specified environment_rules.with_stars environment_rules.spelled_type nodes_rules.first_place judgements_rules.shape judgements_rules.on_pointers judgements_rules.arithmetic judgements_rules.relation judgements_rules.operation judgements_rules.conversion judgements_rules.selection judgements_rules.cast_conversion judgements_rules.compound_operation operands_rules.loaded operands_rules.value operands_rules.condition operands_rules.brought operands_rules.fitted operators_rules.unit operators_rules.computed operators_rules.combined operators_rules.selected operators_rules.choice_of operators_rules.cast_by operators_rules.cast operators_rules.promoting operators_rules.negation operators_rules.address operators_rules.dereferenced assignments_rules.assigned assignments_rules.updated assignments_rules.compound assignments_rules.stepped subobjects_rules.base_of subobjects_rules.indexed subobjects_rules.dot subobjects_rules.arrow allocation_rules.objects allocation_rules.product allocation_rules.allocated allocation_rules.freed expressions_rules.full expressions_rules.operand expressions_rules.arguments expressions_rules.only_value expressions_rules.only_request expressions_rules.requested expressions_rules.measured constant_expressions_rules.is_constant constant_expressions_rules.value_of constant_expressions_rules.constant constant_expressions_rules.size_of_array constant_expressions_rules.part_of constant_expressions_rules.is_literal constant_expressions_rules.has_literal_indices constant_expressions_rules.initial_value declarations_rules.size declarations_rules.layers declarations_rules.layered declarations_rules.element_number declarations_rules.is_complete declarations_rules.is_within_limit initialisers_rules.parts initialisers_rules.zeros initialisers_rules.alone initialisers_rules.all_alone initialisers_rules.cells initialisers_rules.elements statements_rules.in_scope statements_rules.init_statements statements_rules.declare_one statements_rules.declare_all statements_rules.declare statements_rules.statement statements_rules.statements weights_rules.declared_weight weights_rules.item_weight weights_rules.initialiser_nodes weights_rules.elements_nodes weights_rules.continues weights_rules.all_continues weights_rules.statement_weight weights_rules.statements_weight file_scope_rules.file_scope file_scope_rules.variable file_scope_rules.variables structs_rules.member structs_rules.member_list structs_rules.all_members structs_rules.structure functions_rules.parameter functions_rules.parameters functions_rules.declarable_function functions_rules.replaced functions_rules.defined_as functions_rules.function programs_rules.item programs_rules.items programs_rules.whole programs_rules.elaborated programs_rules.elaboration number_rules.radix_of number_rules.value_of number_rules.number_value number_rules.constant_of number_rules.constant_with number_rules.first_holding number_rules.constant_types number_rules.number_of number_rules.suffix_of lexeme_rules.character_value type_rows.shape-the_row-CType-0 type_rows.hidden-the_row-CType-0 expression_rows.shape-the_row-Expr-0 expression_rows.hidden-the_row-Expr-0 expression_rows.shape-the_row-Expr-1 expression_rows.hidden-the_row-Expr-1 expression_rows.shape-the_row-Place_-2 expression_rows.hidden-the_row-Place_-2 statement_rows.shape-the_row-Stmt-0 statement_rows.hidden-the_row-Stmt-0 statement_rows.shape-the_row-Stmt-1 statement_rows.hidden-the_row-Stmt-1 hidden
calls = refl

-- a function without body has parameters without names:
-- extern int f(int a, char *b); void h(void); static int g[2]; void h(void) { ; } int main(void) { h(); return g[1]; }
abbrev pub prototypes_text : List ℕ
prototypes_text = codes "extern int f(int a, char *b); void h(void); static int g[2]; void h(void) { ; } int main(void) { h(); return g[1]; }"

abbrev pub prototypes_items : List Item
prototypes_items = ((Function (spelled (int 7 10) 0) (name 11 12) ((parameter (int 13 16) (Some (name 17 18)) (word w.Int 13 16) []) ∷ (parameter (char 20 24) (Some (name 26 27)) (word w.Char 20 24) (PointerTo ∷ [])) ∷ []) None) ∷ (Function (spelled (void 30 34) 0) (name 35 36) [] None) ∷ (Variables (int 51 54) ((declared (name 55 56) ((ArrayOf (Number (number 57 58))) ∷ []) None) ∷ [])) ∷ (Function (spelled (void 61 65) 0) (name 66 67) [] (Some (Next Nothing End))) ∷ (Function (spelled (int 80 83) 0) (name 84 88) [] (Some (Next (Evaluate (Call (name 97 98) NoMore)) (Next (Return (word w.Return 102 108) (Some (Index (Name (name 109 110)) (mark w.LeftBracket 110 111) (Number (number 111 112))))) End)))) ∷ [])

abbrev pub prototypes_core : Core
prototypes_core = (core_of ([]) ((variable (codes "g") (array_of int_type 2)) ∷ []) (((value.Int (pos 0)) ∷ (value.Int (pos 0)) ∷ []) ∷ []) ((function (codes "f") int_type 2 (variable [] int_type ∷ variable [] (pointer_to (type.Int kind.Char)) ∷ []) None) ∷ (function (codes "h") type.Void 0 [] (Some (s.Empty ∷ []))) ∷ (function (codes "main") int_type 0 ([]) (Some ((s.Eval (e.Invoke 5 [])) ∷ (s.Return (Some (e.Load (e.Index (global 0) (e.Literal kind.Int (pos 1)) 1) int_type))) ∷ []))) ∷ []) 6)

pub prototypes : elaborated mode.Source prototypes_text prototypes_items ≡ Ok prototypes_core
unfolding checked_rules.kept checked_rules.unless checked_rules.none_of environment_rules.found_in environment_rules.found environment_rules.specified environment_rules.with_stars environment_rules.spelled_type nodes_rules.first_place judgements_rules.shape judgements_rules.on_pointers judgements_rules.arithmetic judgements_rules.relation judgements_rules.operation judgements_rules.conversion judgements_rules.selection judgements_rules.cast_conversion judgements_rules.compound_operation operands_rules.loaded operands_rules.value operands_rules.condition operands_rules.brought operands_rules.fitted operators_rules.unit operators_rules.computed operators_rules.combined operators_rules.selected operators_rules.choice_of operators_rules.cast_by operators_rules.cast operators_rules.promoting operators_rules.negation operators_rules.address operators_rules.dereferenced assignments_rules.assigned assignments_rules.updated assignments_rules.compound assignments_rules.stepped subobjects_rules.base_of subobjects_rules.indexed subobjects_rules.dot subobjects_rules.arrow allocation_rules.objects allocation_rules.product allocation_rules.allocated allocation_rules.freed expressions_rules.full expressions_rules.operand expressions_rules.arguments expressions_rules.only_value expressions_rules.only_request expressions_rules.requested expressions_rules.measured constant_expressions_rules.is_constant constant_expressions_rules.value_of constant_expressions_rules.constant constant_expressions_rules.size_of_array constant_expressions_rules.part_of constant_expressions_rules.is_literal constant_expressions_rules.has_literal_indices constant_expressions_rules.initial_value declarations_rules.size declarations_rules.layers declarations_rules.layered declarations_rules.element_number declarations_rules.is_complete declarations_rules.is_within_limit initialisers_rules.parts initialisers_rules.zeros initialisers_rules.alone initialisers_rules.all_alone initialisers_rules.cells initialisers_rules.elements statements_rules.in_scope statements_rules.init_statements statements_rules.declare_one statements_rules.declare_all statements_rules.declare statements_rules.statement statements_rules.statements weights_rules.declared_weight weights_rules.item_weight weights_rules.initialiser_nodes weights_rules.elements_nodes weights_rules.continues weights_rules.all_continues weights_rules.statement_weight weights_rules.statements_weight file_scope_rules.file_scope file_scope_rules.variable file_scope_rules.variables structs_rules.member structs_rules.member_list structs_rules.all_members structs_rules.structure functions_rules.parameter functions_rules.parameters functions_rules.declarable_function functions_rules.replaced functions_rules.defined_as functions_rules.function programs_rules.item programs_rules.items programs_rules.whole programs_rules.elaborated programs_rules.elaboration number_rules.radix_of number_rules.value_of number_rules.number_value number_rules.constant_of number_rules.constant_with number_rules.first_holding number_rules.constant_types number_rules.number_of number_rules.suffix_of lexeme_rules.character_value type_rows.shape-the_row-CType-0 type_rows.hidden-the_row-CType-0 expression_rows.shape-the_row-Expr-0 expression_rows.hidden-the_row-Expr-0 expression_rows.shape-the_row-Expr-1 expression_rows.hidden-the_row-Expr-1 expression_rows.shape-the_row-Place_-2 expression_rows.hidden-the_row-Place_-2 statement_rows.shape-the_row-Stmt-0 statement_rows.hidden-the_row-Stmt-0 statement_rows.shape-the_row-Stmt-1 statement_rows.hidden-the_row-Stmt-1 hidden
prototypes = refl

-- declarations without initialiser, and parts of statements that are left out:
-- void f(int n) { int i; for (i = 0; i < n; ++i) ; for (;;) break; if (n) { } n %= 3; return; } int main(void) { f(2); return 0; }
abbrev pub omissions_text : List ℕ
omissions_text = codes "void f(int n) { int i; for (i = 0; i < n; ++i) ; for (;;) break; if (n) { } n %= 3; return; } int main(void) { f(2); return 0; }"

abbrev pub omissions_items : List Item
omissions_items = ((Function (spelled (void 0 4) 0) (name 5 6) ((parameter (int 7 10) (Some (name 11 12)) (word w.Int 7 10) []) ∷ []) (Some (Next (Declare (local (int 16 19) ((declared (name 20 21) [] None) ∷ []))) (Next (For (FirstValue (Assign (Name (name 28 29)) (mark w.Assign 30 31) (Number (number 32 33)))) (Some (Binary (Name (name 35 36)) (mark w.Less 37 38) (Name (name 39 40)))) (Some (Prefix (mark w.Increment 42 44) (Name (name 44 45)))) Nothing) (Next (For NoFirst None None (Break (word w.Break 58 63))) (Next (If (Name (name 69 70)) (Block End)) (Next (Evaluate (Assign (Name (name 76 77)) (mark w.PercentAssign 78 80) (Number (number 81 82)))) (Next (Return (word w.Return 84 90) None) End)))))))) ∷ (Function (spelled (int 94 97) 0) (name 98 102) [] (Some (Next (Evaluate (Call (name 111 112) (Then (Number (number 113 114)) NoMore))) (Next (Return (word w.Return 117 123) (Some (Number (number 124 125)))) End)))) ∷ [])

abbrev pub omissions_core : Core
omissions_core = (core_of ([]) ([]) ([]) ((function (codes "f") type.Void 1 ((variable (codes "n") int_type) ∷ (variable (codes "i") int_type) ∷ []) (Some (s.Empty ∷ (s.Block ((s.Eval (e.Assign (own_local 1) int_type (e.Literal kind.Int (pos 0)))) ∷ s.For (Some (e.Compare comparing.Less (e.Load (own_local 1) int_type) (e.Load (own_local 0) int_type))) (Some (e.Update (own_local 1) int_type (update.Integer op.Add kind.Int) (e.Literal kind.Int (pos 1)) After)) s.Empty ∷ [])) ∷ (s.For None None s.Break) ∷ (s.If (e.Load (own_local 0) int_type) (s.Block []) s.Empty) ∷ (s.Eval (e.Update (own_local 0) int_type (update.Integer op.Rem kind.Int) (e.Literal kind.Int (pos 3)) After)) ∷ (s.Return None) ∷ []))) ∷ (function (codes "main") int_type 0 ([]) (Some ((s.Eval (e.Invoke 4 ((e.Literal kind.Int (pos 2)) ∷ []))) ∷ (s.Return (Some (e.Literal kind.Int (pos 0)))) ∷ []))) ∷ []) 5)

pub omissions : elaborated mode.Source omissions_text omissions_items ≡ Ok omissions_core
unfolding checked_rules.kept checked_rules.unless checked_rules.none_of environment_rules.found_in environment_rules.found environment_rules.specified environment_rules.with_stars environment_rules.spelled_type nodes_rules.first_place judgements_rules.shape judgements_rules.on_pointers judgements_rules.arithmetic judgements_rules.relation judgements_rules.operation judgements_rules.conversion judgements_rules.selection judgements_rules.cast_conversion judgements_rules.compound_operation operands_rules.loaded operands_rules.value operands_rules.condition operands_rules.brought operands_rules.fitted operators_rules.unit operators_rules.computed operators_rules.combined operators_rules.selected operators_rules.choice_of operators_rules.cast_by operators_rules.cast operators_rules.promoting operators_rules.negation operators_rules.address operators_rules.dereferenced assignments_rules.assigned assignments_rules.updated assignments_rules.compound assignments_rules.stepped subobjects_rules.base_of subobjects_rules.indexed subobjects_rules.dot subobjects_rules.arrow allocation_rules.objects allocation_rules.product allocation_rules.allocated allocation_rules.freed expressions_rules.full expressions_rules.operand expressions_rules.arguments expressions_rules.only_value expressions_rules.only_request expressions_rules.requested expressions_rules.measured constant_expressions_rules.is_constant constant_expressions_rules.value_of constant_expressions_rules.constant constant_expressions_rules.size_of_array constant_expressions_rules.part_of constant_expressions_rules.is_literal constant_expressions_rules.has_literal_indices constant_expressions_rules.initial_value declarations_rules.size declarations_rules.layers declarations_rules.layered declarations_rules.element_number declarations_rules.is_complete declarations_rules.is_within_limit initialisers_rules.parts initialisers_rules.zeros initialisers_rules.alone initialisers_rules.all_alone initialisers_rules.cells initialisers_rules.elements statements_rules.in_scope statements_rules.init_statements statements_rules.declare_one statements_rules.declare_all statements_rules.declare statements_rules.statement statements_rules.statements weights_rules.declared_weight weights_rules.item_weight weights_rules.initialiser_nodes weights_rules.elements_nodes weights_rules.continues weights_rules.all_continues weights_rules.statement_weight weights_rules.statements_weight file_scope_rules.file_scope file_scope_rules.variable file_scope_rules.variables structs_rules.member structs_rules.member_list structs_rules.all_members structs_rules.structure functions_rules.parameter functions_rules.parameters functions_rules.declarable_function functions_rules.replaced functions_rules.defined_as functions_rules.function programs_rules.item programs_rules.items programs_rules.whole programs_rules.elaborated programs_rules.elaboration number_rules.radix_of number_rules.value_of number_rules.number_value number_rules.constant_of number_rules.constant_with number_rules.first_holding number_rules.constant_types number_rules.number_of number_rules.suffix_of lexeme_rules.character_value type_rows.shape-the_row-CType-0 type_rows.hidden-the_row-CType-0 expression_rows.shape-the_row-Expr-0 expression_rows.hidden-the_row-Expr-0 expression_rows.shape-the_row-Expr-1 expression_rows.hidden-the_row-Expr-1 expression_rows.shape-the_row-Place_-2 expression_rows.hidden-the_row-Place_-2 statement_rows.shape-the_row-Stmt-0 statement_rows.hidden-the_row-Stmt-0 statement_rows.shape-the_row-Stmt-1 statement_rows.hidden-the_row-Stmt-1 hidden
omissions = refl

-- the usual arithmetic conversions (C11 6.3.1.8):
-- unsigned long m; long l; unsigned u; short s; unsigned char b; int main(void) { l = u + s; m = l * m; u = b - 1; l = u - l; b++; s <<= l; l = 'a' + 4294967295; return 0x80000000 > 1; }
abbrev pub kinds_text : List ℕ
kinds_text = codes "unsigned long m; long l; unsigned u; short s; unsigned char b; int main(void) { l = u + s; m = l * m; u = b - 1; l = u - l; b++; s <<= l; l = 'a' + 4294967295; return 0x80000000 > 1; }"

abbrev pub kinds_items : List Item
kinds_items = ((Variables (unsigned_long 0 8) ((declared (name 14 15) [] None) ∷ [])) ∷ (Variables (long 17 21) ((declared (name 22 23) [] None) ∷ [])) ∷ (Variables (unsigned 25 33) ((declared (name 34 35) [] None) ∷ [])) ∷ (Variables (short 37 42) ((declared (name 43 44) [] None) ∷ [])) ∷ (Variables (unsigned_char 46 54) ((declared (name 60 61) [] None) ∷ [])) ∷ (Function (spelled (int 63 66) 0) (name 67 71) [] (Some (Next (Evaluate (Assign (Name (name 80 81)) (mark w.Assign 82 83) (Binary (Name (name 84 85)) (mark w.Plus 86 87) (Name (name 88 89))))) (Next (Evaluate (Assign (Name (name 91 92)) (mark w.Assign 93 94) (Binary (Name (name 95 96)) (mark w.Star 97 98) (Name (name 99 100))))) (Next (Evaluate (Assign (Name (name 102 103)) (mark w.Assign 104 105) (Binary (Name (name 106 107)) (mark w.Minus 108 109) (Number (number 110 111))))) (Next (Evaluate (Assign (Name (name 113 114)) (mark w.Assign 115 116) (Binary (Name (name 117 118)) (mark w.Minus 119 120) (Name (name 121 122))))) (Next (Evaluate (Increment (Name (name 124 125)) (mark w.Increment 125 127))) (Next (Evaluate (Assign (Name (name 129 130)) (mark w.ShiftLeftAssign 131 134) (Name (name 135 136)))) (Next (Evaluate (Assign (Name (name 138 139)) (mark w.Assign 140 141) (Binary (Character (character 142 145)) (mark w.Plus 146 147) (Number (number 148 158))))) (Next (Return (word w.Return 160 166) (Some (Binary (Number (number 167 177)) (mark w.Greater 178 179) (Number (number 180 181))))) End)))))))))) ∷ [])

abbrev pub kinds_core : Core
kinds_core = (core_of ([]) ((variable (codes "m") (type.Int kind.ULong)) ∷ (variable (codes "l") (type.Int kind.Long)) ∷ (variable (codes "u") (type.Int kind.UInt)) ∷ (variable (codes "s") (type.Int kind.Short)) ∷ (variable (codes "b") (type.Int kind.UChar)) ∷ []) (((value.Int (pos 0)) ∷ []) ∷ ((value.Int (pos 0)) ∷ []) ∷ ((value.Int (pos 0)) ∷ []) ∷ ((value.Int (pos 0)) ∷ []) ∷ ((value.Int (pos 0)) ∷ []) ∷ []) ((function (codes "main") int_type 0 ([]) (Some ((s.Eval (e.Assign (global 1) (type.Int kind.Long) (e.Convert kind.Long (e.Binary op.Add kind.UInt (e.Load (global 2) (type.Int kind.UInt)) (e.Convert kind.UInt (e.Load (global 3) (type.Int kind.Short))))))) ∷ (s.Eval (e.Assign (global 0) (type.Int kind.ULong) (e.Binary op.Mul kind.ULong (e.Convert kind.ULong (e.Load (global 1) (type.Int kind.Long))) (e.Load (global 0) (type.Int kind.ULong))))) ∷ (s.Eval (e.Assign (global 2) (type.Int kind.UInt) (e.Convert kind.UInt (e.Binary op.Sub kind.Int (e.Convert kind.Int (e.Load (global 4) (type.Int kind.UChar))) (e.Literal kind.Int (pos 1)))))) ∷ (s.Eval (e.Assign (global 1) (type.Int kind.Long) (e.Binary op.Sub kind.Long (e.Convert kind.Long (e.Load (global 2) (type.Int kind.UInt))) (e.Load (global 1) (type.Int kind.Long))))) ∷ (s.Eval (e.Update (global 4) (type.Int kind.UChar) (update.Integer op.Add kind.Int) (e.Literal kind.Int (pos 1)) Before)) ∷ (s.Eval (e.Update (global 3) (type.Int kind.Short) (update.Integer op.Shl kind.Int) (e.Load (global 1) (type.Int kind.Long)) After)) ∷ (s.Eval (e.Assign (global 1) (type.Int kind.Long) (e.Binary op.Add kind.Long (e.Convert kind.Long (e.Literal kind.Int (pos 97))) (e.Literal kind.Long (pos 4294967295))))) ∷ (s.Return (Some (e.Compare comparing.Greater (e.Literal kind.UInt (pos 2147483648)) (e.Convert kind.UInt (e.Literal kind.Int (pos 1)))))) ∷ []))) ∷ []) 4)

pub kinds : elaborated mode.Source kinds_text kinds_items ≡ Ok kinds_core
unfolding checked_rules.kept checked_rules.unless checked_rules.none_of environment_rules.found_in environment_rules.found environment_rules.specified environment_rules.with_stars environment_rules.spelled_type nodes_rules.first_place judgements_rules.shape judgements_rules.on_pointers judgements_rules.arithmetic judgements_rules.relation judgements_rules.operation judgements_rules.conversion judgements_rules.selection judgements_rules.cast_conversion judgements_rules.compound_operation operands_rules.loaded operands_rules.value operands_rules.condition operands_rules.brought operands_rules.fitted operators_rules.unit operators_rules.computed operators_rules.combined operators_rules.selected operators_rules.choice_of operators_rules.cast_by operators_rules.cast operators_rules.promoting operators_rules.negation operators_rules.address operators_rules.dereferenced assignments_rules.assigned assignments_rules.updated assignments_rules.compound assignments_rules.stepped subobjects_rules.base_of subobjects_rules.indexed subobjects_rules.dot subobjects_rules.arrow allocation_rules.objects allocation_rules.product allocation_rules.allocated allocation_rules.freed expressions_rules.full expressions_rules.operand expressions_rules.arguments expressions_rules.only_value expressions_rules.only_request expressions_rules.requested expressions_rules.measured constant_expressions_rules.is_constant constant_expressions_rules.value_of constant_expressions_rules.constant constant_expressions_rules.size_of_array constant_expressions_rules.part_of constant_expressions_rules.is_literal constant_expressions_rules.has_literal_indices constant_expressions_rules.initial_value declarations_rules.size declarations_rules.layers declarations_rules.layered declarations_rules.element_number declarations_rules.is_complete declarations_rules.is_within_limit initialisers_rules.parts initialisers_rules.zeros initialisers_rules.alone initialisers_rules.all_alone initialisers_rules.cells initialisers_rules.elements statements_rules.in_scope statements_rules.init_statements statements_rules.declare_one statements_rules.declare_all statements_rules.declare statements_rules.statement statements_rules.statements weights_rules.declared_weight weights_rules.item_weight weights_rules.initialiser_nodes weights_rules.elements_nodes weights_rules.continues weights_rules.all_continues weights_rules.statement_weight weights_rules.statements_weight file_scope_rules.file_scope file_scope_rules.variable file_scope_rules.variables structs_rules.member structs_rules.member_list structs_rules.all_members structs_rules.structure functions_rules.parameter functions_rules.parameters functions_rules.declarable_function functions_rules.replaced functions_rules.defined_as functions_rules.function programs_rules.item programs_rules.items programs_rules.whole programs_rules.elaborated programs_rules.elaboration number_rules.radix_of number_rules.value_of number_rules.number_value number_rules.constant_of number_rules.constant_with number_rules.first_holding number_rules.constant_types number_rules.number_of number_rules.suffix_of lexeme_rules.character_value type_rows.shape-the_row-CType-0 type_rows.hidden-the_row-CType-0 expression_rows.shape-the_row-Expr-0 expression_rows.hidden-the_row-Expr-0 expression_rows.shape-the_row-Expr-1 expression_rows.hidden-the_row-Expr-1 expression_rows.shape-the_row-Place_-2 expression_rows.hidden-the_row-Place_-2 statement_rows.shape-the_row-Stmt-0 statement_rows.hidden-the_row-Stmt-0 statement_rows.shape-the_row-Stmt-1 statement_rows.hidden-the_row-Stmt-1 hidden
kinds = refl
