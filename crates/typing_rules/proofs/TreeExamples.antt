-- Examples of concrete trees with the abstract syntax that they stand for, and so with their cores.
use Rattle.std.proofs.Common.{◌≡◌, refl, ap, ◌∙◌, List, [], ◌∷◌, Some, None, Ok}
use Rattle.c_lexer.specs.declared.token.IntSuffix.TheVariants as suffix
use Rattle.c_words.specs.declared.word.Leaf.{Leaf}
use Rattle.c_words.specs.declared.word.Word.TheVariants as w
use Rattle.c_words.specs.declared.word.Mode.TheVariants as mode
use Rattle.c_words.specs.declared.chain.Chain.{Chain}
use Rattle.c_words.specs.declared.chain.Link.{Link}
use Rattle.c_grammar.specs.declared.types.Specifier.{Specifier}
use Rattle.c_grammar.specs.declared.types.Base.{Base}
use Rattle.c_grammar.specs.declared.types.Star.{Star}
use Rattle.c_grammar.specs.declared.types.TypeName.{TypeName}
use Rattle.c_grammar.specs.declared.expression.Postfix.{Postfix, roll-Postfix, out-roll-Postfix}
use Rattle.c_grammar.specs.declared.expression.Primary.{Primary}
use Rattle.c_grammar.specs.declared.expression.Suffix.{Suffix}
use Rattle.c_grammar.specs.declared.expression.Unary.{Unary}
use Rattle.c_grammar.specs.declared.expression.Product.{Product, roll-Product, out-roll-Product}
use Rattle.c_grammar.specs.declared.expression.Sum.{Sum, roll-Sum, out-roll-Sum}
use Rattle.c_grammar.specs.declared.expression.Shift.{Shift, roll-Shift, out-roll-Shift}
use Rattle.c_grammar.specs.declared.expression.Relation.{Relation, roll-Relation, out-roll-Relation}
use Rattle.c_grammar.specs.declared.expression.Equal.{Equal, roll-Equal, out-roll-Equal}
use Rattle.c_grammar.specs.declared.expression.BitAnd.{BitAnd, roll-BitAnd, out-roll-BitAnd}
use Rattle.c_grammar.specs.declared.expression.BitXor.{BitXor, roll-BitXor, out-roll-BitXor}
use Rattle.c_grammar.specs.declared.expression.BitOr.{BitOr, roll-BitOr, out-roll-BitOr}
use Rattle.c_grammar.specs.declared.expression.And.{And, roll-And, out-roll-And}
use Rattle.c_grammar.specs.declared.expression.Or.{Or, roll-Or, out-roll-Or}
use Rattle.c_grammar.specs.declared.expression.Assign.TheVariants as a
use Rattle.c_grammar.specs.declared.expression.Choice.TheVariants as c
use Rattle.c_grammar.specs.declared.expression.Unary.TheVariants as u
use Rattle.c_grammar.specs.declared.expression.Suffix.TheVariants as s
use Rattle.c_grammar.specs.declared.expression.Primary.TheVariants as p
use Rattle.c_grammar.specs.declared.declaration.Declarator.{Declarator, roll-Declarator, out-roll-Declarator}
use Rattle.c_grammar.specs.declared.declaration.Direct.{Direct}
use Rattle.c_grammar.specs.declared.declaration.Direct.TheVariants as d
use Rattle.c_grammar.specs.declared.declaration.Init.TheVariants as i
use Rattle.c_grammar.specs.declared.declaration.Declared.TheVariants as ds
use Rattle.c_grammar.specs.declared.declaration.Parameter.TheVariants as q
use Rattle.c_grammar.specs.declared.declaration.Params.TheVariants as ps
use Rattle.c_grammar.specs.declared.statement.Local.TheVariants as l
use Rattle.c_grammar.specs.declared.statement.ForFirst.TheVariants as f
use Rattle.c_grammar.specs.declared.statement.Stmt.TheVariants as t
use Rattle.c_grammar.specs.declared.statement.BlockPart.{BlockPart}
use Rattle.c_grammar.specs.declared.statement.BlockPart.TheVariants as b
use Rattle.c_grammar.specs.declared.statement.Block.{Block, roll-Block, out-roll-Block}
use Rattle.c_grammar.specs.declared.program.Member.{Member}
use Rattle.c_grammar.specs.declared.program.Body.TheVariants as y
use Rattle.c_grammar.specs.declared.program.Item.TheVariants as m
use Rattle.c_grammar.specs.declared.program.ProgramTree.{ProgramTree}
use Rattle.typing_rules.specs.TreesOfExpressions as expression_trees
use Rattle.typing_rules.specs.TreesOfDeclarations as trees
use Rattle.typing_rules.specs.Programs.{elaboration, elaborated}
use Rattle.typing_rules.proofs.CoreExamples as cores
use Rattle.typing_rules.proofs.ExampleTexts.{name, number, suffixed, character, word, mark, int, char, unsigned_char, short, unsigned, long, unsigned_long, void, struct}
use Rattle.typing_rules.proofs.ExpressionAlternatives.{expressions}
use Rattle.typing_rules.proofs.DeclarationAlternatives.{declarations}
use Rattle.typing_rules.proofs.StatementAlternatives.{statements}

-- ---- concrete trees

abbrev link : {A : Type 0} → Leaf → A → Link A
link t x = record { operator = t; operand = x }

abbrev chained : {A : Type 0} → A → List (Link A) → Chain A
chained x ls = record { first = x; rest = ls }

abbrev based : Specifier → Base
based x = record { specifier = x; consts = [] }

abbrev star : Leaf → Star
star t = record { star = t; consts = [] }

abbrev type_name : Specifier → List Star → TypeName
type_name x ss = record { base = based x; stars = ss }

abbrev postfix_of : Primary → List Suffix → Postfix
postfix_of x fs = roll-Postfix (record { primary = x; suffixes = fs })

abbrev product_of : Chain Unary → Product
product_of x = roll-Product (record { 0 = x })

abbrev sum_of : Chain Product → Sum
sum_of x = roll-Sum (record { 0 = x })

abbrev shift_of : Chain Sum → Shift
shift_of x = roll-Shift (record { 0 = x })

abbrev relation_of : Chain Shift → Relation
relation_of x = roll-Relation (record { 0 = x })

abbrev equal_of : Chain Relation → Equal
equal_of x = roll-Equal (record { 0 = x })

abbrev bit_and_of : Chain Equal → BitAnd
bit_and_of x = roll-BitAnd (record { 0 = x })

abbrev bit_xor_of : Chain BitAnd → BitXor
bit_xor_of x = roll-BitXor (record { 0 = x })

abbrev bit_or_of : Chain BitXor → BitOr
bit_or_of x = roll-BitOr (record { 0 = x })

abbrev and_of : Chain BitOr → And
and_of x = roll-And (record { 0 = x })

abbrev or_of : Chain And → Or
or_of x = roll-Or (record { 0 = x })

abbrev declarator_of : List Star → Direct → Declarator
declarator_of ss x = roll-Declarator (record { stars = ss; direct = x })

abbrev block_of : Leaf → List BlockPart → Leaf → Block
block_of o xs c = roll-Block (record { opening = o; parts = xs; closing = c })

abbrev member_of : Base → Chain Declarator → Leaf → Member
member_of x ds t = record { consts = []; base = x; declarators = ds; semicolon = t }

ruleset rolled = (out-roll-Postfix, out-roll-Declarator, out-roll-Block, out-roll-Product, out-roll-Sum, out-roll-Shift, out-roll-Relation, out-roll-Equal, out-roll-BitAnd, out-roll-BitXor, out-roll-BitOr, out-roll-And, out-roll-Or)

-- int main(void) { return 0; }
abbrev smallest_tree : ProgramTree
smallest_tree = (record { items = ((m.Function [] (based (int 0 3)) [] (name 4 8) (mark w.LeftParen 8 9) (ps.Void (word w.Void 9 13)) (mark w.RightParen 13 14) (y.Block (block_of (mark w.LeftBrace 15 16) ((b.Stmt (t.Return (word w.Return 17 23) (Some (a.Choice (c.Or (or_of (chained (and_of (chained (bit_or_of (chained (bit_xor_of (chained (bit_and_of (chained (equal_of (chained (relation_of (chained (shift_of (chained (sum_of (chained (product_of (chained (u.Postfix (postfix_of (p.Number (number 24 25)) [])) [])) [])) [])) [])) [])) [])) [])) [])) [])) []))))) (mark w.Semicolon 25 26))) ∷ []) (mark w.RightBrace 27 28)))) ∷ []) })

smallest_syntax : trees.program smallest_tree ≡ cores.smallest_items
unfolding trees.operands trees.operands_there trees.declared trees.parameter trees.params trees.local trees.for_first trees.in_order trees.members trees.body trees.item trees.program trees.elements_after expression_trees.links expression_trees.chain expression_trees.listed expression_trees.listed_after expression_trees.suffixed
smallest_syntax = simp (expressions, declarations, statements, rolled) refl

pub smallest : elaboration mode.Source cores.smallest_text smallest_tree ≡ Ok cores.smallest_core
unfolding elaboration
smallest = ap (elaborated mode.Source cores.smallest_text) smallest_syntax ∙ cores.smallest

-- char c; unsigned u; int a[2]; int main(void) { int *p = a; c = 200; p[1] = c + 1L; a[c] += u; u = c << 3L; return -c; }
abbrev conversions_tree : ProgramTree
conversions_tree = (record { items = ((m.Variables [] (based (char 0 4)) (chained (ds.Plain (declarator_of [] (d.Name (name 5 6)))) []) (mark w.Semicolon 6 7)) ∷ (m.Variables [] (based (unsigned 8 16)) (chained (ds.Plain (declarator_of [] (d.Name (name 17 18)))) []) (mark w.Semicolon 18 19)) ∷ (m.Variables [] (based (int 20 23)) (chained (ds.Plain (declarator_of [] (d.Array (d.Name (name 24 25)) (mark w.LeftBracket 25 26) (c.Or (or_of (chained (and_of (chained (bit_or_of (chained (bit_xor_of (chained (bit_and_of (chained (equal_of (chained (relation_of (chained (shift_of (chained (sum_of (chained (product_of (chained (u.Postfix (postfix_of (p.Number (number 26 27)) [])) [])) [])) [])) [])) [])) [])) [])) [])) [])) []))) (mark w.RightBracket 27 28)))) []) (mark w.Semicolon 28 29)) ∷ (m.Function [] (based (int 30 33)) [] (name 34 38) (mark w.LeftParen 38 39) (ps.Void (word w.Void 39 43)) (mark w.RightParen 43 44) (y.Block (block_of (mark w.LeftBrace 45 46) ((b.Local (l.Variables [] (based (int 47 50)) (chained (ds.Initialised (declarator_of ((star (mark w.Star 51 52)) ∷ []) (d.Name (name 52 53))) (mark w.Assign 54 55) (i.Value (a.Choice (c.Or (or_of (chained (and_of (chained (bit_or_of (chained (bit_xor_of (chained (bit_and_of (chained (equal_of (chained (relation_of (chained (shift_of (chained (sum_of (chained (product_of (chained (u.Postfix (postfix_of (p.Name (name 56 57)) [])) [])) [])) [])) [])) [])) [])) [])) [])) [])) [])))))) []) (mark w.Semicolon 57 58))) ∷ (b.Stmt (t.Expression (a.Assign (u.Postfix (postfix_of (p.Name (name 59 60)) [])) (mark w.Assign 61 62) (a.Choice (c.Or (or_of (chained (and_of (chained (bit_or_of (chained (bit_xor_of (chained (bit_and_of (chained (equal_of (chained (relation_of (chained (shift_of (chained (sum_of (chained (product_of (chained (u.Postfix (postfix_of (p.Number (number 63 66)) [])) [])) [])) [])) [])) [])) [])) [])) [])) [])) []))))) (mark w.Semicolon 66 67))) ∷ (b.Stmt (t.Expression (a.Assign (u.Postfix (postfix_of (p.Name (name 68 69)) ((s.Index (mark w.LeftBracket 69 70) (a.Choice (c.Or (or_of (chained (and_of (chained (bit_or_of (chained (bit_xor_of (chained (bit_and_of (chained (equal_of (chained (relation_of (chained (shift_of (chained (sum_of (chained (product_of (chained (u.Postfix (postfix_of (p.Number (number 70 71)) [])) [])) [])) [])) [])) [])) [])) [])) [])) [])) [])))) (mark w.RightBracket 71 72)) ∷ []))) (mark w.Assign 73 74) (a.Choice (c.Or (or_of (chained (and_of (chained (bit_or_of (chained (bit_xor_of (chained (bit_and_of (chained (equal_of (chained (relation_of (chained (shift_of (chained (sum_of (chained (product_of (chained (u.Postfix (postfix_of (p.Name (name 75 76)) [])) [])) ((link (mark w.Plus 77 78) (product_of (chained (u.Postfix (postfix_of (p.Number (suffixed suffix.L 79 81)) [])) []))) ∷ []))) [])) [])) [])) [])) [])) [])) [])) []))))) (mark w.Semicolon 81 82))) ∷ (b.Stmt (t.Expression (a.Assign (u.Postfix (postfix_of (p.Name (name 83 84)) ((s.Index (mark w.LeftBracket 84 85) (a.Choice (c.Or (or_of (chained (and_of (chained (bit_or_of (chained (bit_xor_of (chained (bit_and_of (chained (equal_of (chained (relation_of (chained (shift_of (chained (sum_of (chained (product_of (chained (u.Postfix (postfix_of (p.Name (name 85 86)) [])) [])) [])) [])) [])) [])) [])) [])) [])) [])) [])))) (mark w.RightBracket 86 87)) ∷ []))) (mark w.PlusAssign 88 90) (a.Choice (c.Or (or_of (chained (and_of (chained (bit_or_of (chained (bit_xor_of (chained (bit_and_of (chained (equal_of (chained (relation_of (chained (shift_of (chained (sum_of (chained (product_of (chained (u.Postfix (postfix_of (p.Name (name 91 92)) [])) [])) [])) [])) [])) [])) [])) [])) [])) [])) []))))) (mark w.Semicolon 92 93))) ∷ (b.Stmt (t.Expression (a.Assign (u.Postfix (postfix_of (p.Name (name 94 95)) [])) (mark w.Assign 96 97) (a.Choice (c.Or (or_of (chained (and_of (chained (bit_or_of (chained (bit_xor_of (chained (bit_and_of (chained (equal_of (chained (relation_of (chained (shift_of (chained (sum_of (chained (product_of (chained (u.Postfix (postfix_of (p.Name (name 98 99)) [])) [])) [])) ((link (mark w.ShiftLeft 100 102) (sum_of (chained (product_of (chained (u.Postfix (postfix_of (p.Number (suffixed suffix.L 103 105)) [])) [])) []))) ∷ []))) [])) [])) [])) [])) [])) [])) []))))) (mark w.Semicolon 105 106))) ∷ (b.Stmt (t.Return (word w.Return 107 113) (Some (a.Choice (c.Or (or_of (chained (and_of (chained (bit_or_of (chained (bit_xor_of (chained (bit_and_of (chained (equal_of (chained (relation_of (chained (shift_of (chained (sum_of (chained (product_of (chained (u.Prefix (mark w.Minus 114 115) (u.Postfix (postfix_of (p.Name (name 115 116)) []))) [])) [])) [])) [])) [])) [])) [])) [])) [])) []))))) (mark w.Semicolon 116 117))) ∷ []) (mark w.RightBrace 118 119)))) ∷ []) })

conversions_syntax : trees.program conversions_tree ≡ cores.conversions_items
unfolding trees.operands trees.operands_there trees.declared trees.parameter trees.params trees.local trees.for_first trees.in_order trees.members trees.body trees.item trees.program trees.elements_after expression_trees.links expression_trees.chain expression_trees.listed expression_trees.listed_after expression_trees.suffixed
conversions_syntax = simp (expressions, declarations, statements, rolled) refl

pub conversions : elaboration mode.Source cores.conversions_text conversions_tree ≡ Ok cores.conversions_core
unfolding elaboration
conversions = ap (elaborated mode.Source cores.conversions_text) conversions_syntax ∙ cores.conversions

-- struct s { int m; struct s *next; char k[2]; }; struct s v = {1, &v}; int main(void) { struct s *p = &v; for (int i = 0; i < 2; i++) if (p->next->k[i]) continue; else break; while (p && !v.m) { p = p ? p : 0; } do ; while (p == 0); return p->m--; }
abbrev structures_tree : ProgramTree
structures_tree = (record { items = ((m.Struct (word w.Struct 0 6) (name 7 8) (mark w.LeftBrace 9 10) ((member_of (based (int 11 14)) (chained (declarator_of [] (d.Name (name 15 16))) []) (mark w.Semicolon 16 17)) ∷ (member_of (based (struct 25 26)) (chained (declarator_of ((star (mark w.Star 27 28)) ∷ []) (d.Name (name 28 32))) []) (mark w.Semicolon 32 33)) ∷ (member_of (based (char 34 38)) (chained (declarator_of [] (d.Array (d.Name (name 39 40)) (mark w.LeftBracket 40 41) (c.Or (or_of (chained (and_of (chained (bit_or_of (chained (bit_xor_of (chained (bit_and_of (chained (equal_of (chained (relation_of (chained (shift_of (chained (sum_of (chained (product_of (chained (u.Postfix (postfix_of (p.Number (number 41 42)) [])) [])) [])) [])) [])) [])) [])) [])) [])) [])) []))) (mark w.RightBracket 42 43))) []) (mark w.Semicolon 43 44)) ∷ []) (mark w.RightBrace 45 46) None (mark w.Semicolon 46 47)) ∷ (m.Variables [] (based (struct 55 56)) (chained (ds.Initialised (declarator_of [] (d.Name (name 57 58))) (mark w.Assign 59 60) (i.Braces (mark w.LeftBrace 61 62) (chained (i.Value (a.Choice (c.Or (or_of (chained (and_of (chained (bit_or_of (chained (bit_xor_of (chained (bit_and_of (chained (equal_of (chained (relation_of (chained (shift_of (chained (sum_of (chained (product_of (chained (u.Postfix (postfix_of (p.Number (number 62 63)) [])) [])) [])) [])) [])) [])) [])) [])) [])) [])) []))))) ((link (mark w.Comma 63 64) (i.Value (a.Choice (c.Or (or_of (chained (and_of (chained (bit_or_of (chained (bit_xor_of (chained (bit_and_of (chained (equal_of (chained (relation_of (chained (shift_of (chained (sum_of (chained (product_of (chained (u.Prefix (mark w.Ampersand 65 66) (u.Postfix (postfix_of (p.Name (name 66 67)) []))) [])) [])) [])) [])) [])) [])) [])) [])) [])) [])))))) ∷ [])) None (mark w.RightBrace 67 68))) []) (mark w.Semicolon 68 69)) ∷ (m.Function [] (based (int 70 73)) [] (name 74 78) (mark w.LeftParen 78 79) (ps.Void (word w.Void 79 83)) (mark w.RightParen 83 84) (y.Block (block_of (mark w.LeftBrace 85 86) ((b.Local (l.Variables [] (based (struct 94 95)) (chained (ds.Initialised (declarator_of ((star (mark w.Star 96 97)) ∷ []) (d.Name (name 97 98))) (mark w.Assign 99 100) (i.Value (a.Choice (c.Or (or_of (chained (and_of (chained (bit_or_of (chained (bit_xor_of (chained (bit_and_of (chained (equal_of (chained (relation_of (chained (shift_of (chained (sum_of (chained (product_of (chained (u.Prefix (mark w.Ampersand 101 102) (u.Postfix (postfix_of (p.Name (name 102 103)) []))) [])) [])) [])) [])) [])) [])) [])) [])) [])) [])))))) []) (mark w.Semicolon 103 104))) ∷ (b.Stmt (t.For (word w.For 105 108) (mark w.LeftParen 109 110) (f.Local (l.Variables [] (based (int 110 113)) (chained (ds.Initialised (declarator_of [] (d.Name (name 114 115))) (mark w.Assign 116 117) (i.Value (a.Choice (c.Or (or_of (chained (and_of (chained (bit_or_of (chained (bit_xor_of (chained (bit_and_of (chained (equal_of (chained (relation_of (chained (shift_of (chained (sum_of (chained (product_of (chained (u.Postfix (postfix_of (p.Number (number 118 119)) [])) [])) [])) [])) [])) [])) [])) [])) [])) [])) [])))))) []) (mark w.Semicolon 119 120))) (Some (a.Choice (c.Or (or_of (chained (and_of (chained (bit_or_of (chained (bit_xor_of (chained (bit_and_of (chained (equal_of (chained (relation_of (chained (shift_of (chained (sum_of (chained (product_of (chained (u.Postfix (postfix_of (p.Name (name 121 122)) [])) [])) [])) [])) ((link (mark w.Less 123 124) (shift_of (chained (sum_of (chained (product_of (chained (u.Postfix (postfix_of (p.Number (number 125 126)) [])) [])) [])) []))) ∷ []))) [])) [])) [])) [])) [])) []))))) (mark w.Semicolon 126 127) (Some (a.Choice (c.Or (or_of (chained (and_of (chained (bit_or_of (chained (bit_xor_of (chained (bit_and_of (chained (equal_of (chained (relation_of (chained (shift_of (chained (sum_of (chained (product_of (chained (u.Postfix (postfix_of (p.Name (name 128 129)) ((s.Increment (mark w.Increment 129 131)) ∷ []))) [])) [])) [])) [])) [])) [])) [])) [])) [])) []))))) (mark w.RightParen 131 132) (t.IfElse (word w.If 133 135) (mark w.LeftParen 136 137) (a.Choice (c.Or (or_of (chained (and_of (chained (bit_or_of (chained (bit_xor_of (chained (bit_and_of (chained (equal_of (chained (relation_of (chained (shift_of (chained (sum_of (chained (product_of (chained (u.Postfix (postfix_of (p.Name (name 137 138)) ((s.Arrow (mark w.Arrow 138 140) (name 140 144)) ∷ (s.Arrow (mark w.Arrow 144 146) (name 146 147)) ∷ (s.Index (mark w.LeftBracket 147 148) (a.Choice (c.Or (or_of (chained (and_of (chained (bit_or_of (chained (bit_xor_of (chained (bit_and_of (chained (equal_of (chained (relation_of (chained (shift_of (chained (sum_of (chained (product_of (chained (u.Postfix (postfix_of (p.Name (name 148 149)) [])) [])) [])) [])) [])) [])) [])) [])) [])) [])) [])))) (mark w.RightBracket 149 150)) ∷ []))) [])) [])) [])) [])) [])) [])) [])) [])) [])) [])))) (mark w.RightParen 150 151) (t.Continue (word w.Continue 152 160) (mark w.Semicolon 160 161)) (word w.Else 162 166) (t.Break (word w.Break 167 172) (mark w.Semicolon 172 173))))) ∷ (b.Stmt (t.While (word w.While 174 179) (mark w.LeftParen 180 181) (a.Choice (c.Or (or_of (chained (and_of (chained (bit_or_of (chained (bit_xor_of (chained (bit_and_of (chained (equal_of (chained (relation_of (chained (shift_of (chained (sum_of (chained (product_of (chained (u.Postfix (postfix_of (p.Name (name 181 182)) [])) [])) [])) [])) [])) [])) [])) [])) [])) ((link (mark w.AndAnd 183 185) (bit_or_of (chained (bit_xor_of (chained (bit_and_of (chained (equal_of (chained (relation_of (chained (shift_of (chained (sum_of (chained (product_of (chained (u.Prefix (mark w.Exclamation 186 187) (u.Postfix (postfix_of (p.Name (name 187 188)) ((s.Member (mark w.Dot 188 189) (name 189 190)) ∷ [])))) [])) [])) [])) [])) [])) [])) [])) []))) ∷ []))) [])))) (mark w.RightParen 190 191) (t.Block (block_of (mark w.LeftBrace 192 193) ((b.Stmt (t.Expression (a.Assign (u.Postfix (postfix_of (p.Name (name 194 195)) [])) (mark w.Assign 196 197) (a.Choice (c.Choose (or_of (chained (and_of (chained (bit_or_of (chained (bit_xor_of (chained (bit_and_of (chained (equal_of (chained (relation_of (chained (shift_of (chained (sum_of (chained (product_of (chained (u.Postfix (postfix_of (p.Name (name 198 199)) [])) [])) [])) [])) [])) [])) [])) [])) [])) [])) [])) (mark w.Question 200 201) (a.Choice (c.Or (or_of (chained (and_of (chained (bit_or_of (chained (bit_xor_of (chained (bit_and_of (chained (equal_of (chained (relation_of (chained (shift_of (chained (sum_of (chained (product_of (chained (u.Postfix (postfix_of (p.Name (name 202 203)) [])) [])) [])) [])) [])) [])) [])) [])) [])) [])) [])))) (mark w.Colon 204 205) (c.Or (or_of (chained (and_of (chained (bit_or_of (chained (bit_xor_of (chained (bit_and_of (chained (equal_of (chained (relation_of (chained (shift_of (chained (sum_of (chained (product_of (chained (u.Postfix (postfix_of (p.Number (number 206 207)) [])) [])) [])) [])) [])) [])) [])) [])) [])) [])) [])))))) (mark w.Semicolon 207 208))) ∷ []) (mark w.RightBrace 209 210))))) ∷ (b.Stmt (t.Do (word w.Do 211 213) (t.Empty (mark w.Semicolon 214 215)) (word w.While 216 221) (mark w.LeftParen 222 223) (a.Choice (c.Or (or_of (chained (and_of (chained (bit_or_of (chained (bit_xor_of (chained (bit_and_of (chained (equal_of (chained (relation_of (chained (shift_of (chained (sum_of (chained (product_of (chained (u.Postfix (postfix_of (p.Name (name 223 224)) [])) [])) [])) [])) [])) ((link (mark w.EqualEqual 225 227) (relation_of (chained (shift_of (chained (sum_of (chained (product_of (chained (u.Postfix (postfix_of (p.Number (number 228 229)) [])) [])) [])) [])) []))) ∷ []))) [])) [])) [])) [])) [])))) (mark w.RightParen 229 230) (mark w.Semicolon 230 231))) ∷ (b.Stmt (t.Return (word w.Return 232 238) (Some (a.Choice (c.Or (or_of (chained (and_of (chained (bit_or_of (chained (bit_xor_of (chained (bit_and_of (chained (equal_of (chained (relation_of (chained (shift_of (chained (sum_of (chained (product_of (chained (u.Postfix (postfix_of (p.Name (name 239 240)) ((s.Arrow (mark w.Arrow 240 242) (name 242 243)) ∷ (s.Decrement (mark w.Decrement 243 245)) ∷ []))) [])) [])) [])) [])) [])) [])) [])) [])) [])) []))))) (mark w.Semicolon 245 246))) ∷ []) (mark w.RightBrace 247 248)))) ∷ []) })

structures_syntax : trees.program structures_tree ≡ cores.structures_items
unfolding trees.operands trees.operands_there trees.declared trees.parameter trees.params trees.local trees.for_first trees.in_order trees.members trees.body trees.item trees.program trees.elements_after expression_trees.links expression_trees.chain expression_trees.listed expression_trees.listed_after expression_trees.suffixed
structures_syntax = simp (expressions, declarations, statements, rolled) refl

pub structures : elaboration mode.Source cores.structures_text structures_tree ≡ Ok cores.structures_core
unfolding elaboration
structures = ap (elaborated mode.Source cores.structures_text) structures_syntax ∙ cores.structures

-- int main(void) { int *p = malloc(2 * sizeof(int)); int *q = (int *) (malloc(sizeof *p)); p[0] = 5; free(p); free(0); return p[0]; }
abbrev allocation_tree : ProgramTree
allocation_tree = (record { items = ((m.Function [] (based (int 0 3)) [] (name 4 8) (mark w.LeftParen 8 9) (ps.Void (word w.Void 9 13)) (mark w.RightParen 13 14) (y.Block (block_of (mark w.LeftBrace 15 16) ((b.Local (l.Variables [] (based (int 17 20)) (chained (ds.Initialised (declarator_of ((star (mark w.Star 21 22)) ∷ []) (d.Name (name 22 23))) (mark w.Assign 24 25) (i.Value (a.Choice (c.Or (or_of (chained (and_of (chained (bit_or_of (chained (bit_xor_of (chained (bit_and_of (chained (equal_of (chained (relation_of (chained (shift_of (chained (sum_of (chained (product_of (chained (u.Postfix (postfix_of (p.Call (name 26 32) (mark w.LeftParen 32 33) (Some (chained (a.Choice (c.Or (or_of (chained (and_of (chained (bit_or_of (chained (bit_xor_of (chained (bit_and_of (chained (equal_of (chained (relation_of (chained (shift_of (chained (sum_of (chained (product_of (chained (u.Postfix (postfix_of (p.Number (number 33 34)) [])) ((link (mark w.Star 35 36) (u.SizeOfType (word w.SizeOf 37 43) (mark w.LeftParen 43 44) (type_name (int 44 47) []) (mark w.RightParen 47 48))) ∷ []))) [])) [])) [])) [])) [])) [])) [])) [])) [])))) [])) (mark w.RightParen 48 49)) [])) [])) [])) [])) [])) [])) [])) [])) [])) [])) [])))))) []) (mark w.Semicolon 49 50))) ∷ (b.Local (l.Variables [] (based (int 51 54)) (chained (ds.Initialised (declarator_of ((star (mark w.Star 55 56)) ∷ []) (d.Name (name 56 57))) (mark w.Assign 58 59) (i.Value (a.Choice (c.Or (or_of (chained (and_of (chained (bit_or_of (chained (bit_xor_of (chained (bit_and_of (chained (equal_of (chained (relation_of (chained (shift_of (chained (sum_of (chained (product_of (chained (u.Cast (mark w.LeftParen 60 61) (type_name (int 61 64) ((star (mark w.Star 65 66)) ∷ [])) (mark w.RightParen 66 67) (u.Postfix (postfix_of (p.Paren (mark w.LeftParen 68 69) (a.Choice (c.Or (or_of (chained (and_of (chained (bit_or_of (chained (bit_xor_of (chained (bit_and_of (chained (equal_of (chained (relation_of (chained (shift_of (chained (sum_of (chained (product_of (chained (u.Postfix (postfix_of (p.Call (name 69 75) (mark w.LeftParen 75 76) (Some (chained (a.Choice (c.Or (or_of (chained (and_of (chained (bit_or_of (chained (bit_xor_of (chained (bit_and_of (chained (equal_of (chained (relation_of (chained (shift_of (chained (sum_of (chained (product_of (chained (u.SizeOf (word w.SizeOf 76 82) (u.Prefix (mark w.Star 83 84) (u.Postfix (postfix_of (p.Name (name 84 85)) [])))) [])) [])) [])) [])) [])) [])) [])) [])) [])) [])))) [])) (mark w.RightParen 85 86)) [])) [])) [])) [])) [])) [])) [])) [])) [])) [])) [])))) (mark w.RightParen 86 87)) []))) [])) [])) [])) [])) [])) [])) [])) [])) [])) [])))))) []) (mark w.Semicolon 87 88))) ∷ (b.Stmt (t.Expression (a.Assign (u.Postfix (postfix_of (p.Name (name 89 90)) ((s.Index (mark w.LeftBracket 90 91) (a.Choice (c.Or (or_of (chained (and_of (chained (bit_or_of (chained (bit_xor_of (chained (bit_and_of (chained (equal_of (chained (relation_of (chained (shift_of (chained (sum_of (chained (product_of (chained (u.Postfix (postfix_of (p.Number (number 91 92)) [])) [])) [])) [])) [])) [])) [])) [])) [])) [])) [])))) (mark w.RightBracket 92 93)) ∷ []))) (mark w.Assign 94 95) (a.Choice (c.Or (or_of (chained (and_of (chained (bit_or_of (chained (bit_xor_of (chained (bit_and_of (chained (equal_of (chained (relation_of (chained (shift_of (chained (sum_of (chained (product_of (chained (u.Postfix (postfix_of (p.Number (number 96 97)) [])) [])) [])) [])) [])) [])) [])) [])) [])) [])) []))))) (mark w.Semicolon 97 98))) ∷ (b.Stmt (t.Expression (a.Choice (c.Or (or_of (chained (and_of (chained (bit_or_of (chained (bit_xor_of (chained (bit_and_of (chained (equal_of (chained (relation_of (chained (shift_of (chained (sum_of (chained (product_of (chained (u.Postfix (postfix_of (p.Call (name 99 103) (mark w.LeftParen 103 104) (Some (chained (a.Choice (c.Or (or_of (chained (and_of (chained (bit_or_of (chained (bit_xor_of (chained (bit_and_of (chained (equal_of (chained (relation_of (chained (shift_of (chained (sum_of (chained (product_of (chained (u.Postfix (postfix_of (p.Name (name 104 105)) [])) [])) [])) [])) [])) [])) [])) [])) [])) [])) [])))) [])) (mark w.RightParen 105 106)) [])) [])) [])) [])) [])) [])) [])) [])) [])) [])) [])))) (mark w.Semicolon 106 107))) ∷ (b.Stmt (t.Expression (a.Choice (c.Or (or_of (chained (and_of (chained (bit_or_of (chained (bit_xor_of (chained (bit_and_of (chained (equal_of (chained (relation_of (chained (shift_of (chained (sum_of (chained (product_of (chained (u.Postfix (postfix_of (p.Call (name 108 112) (mark w.LeftParen 112 113) (Some (chained (a.Choice (c.Or (or_of (chained (and_of (chained (bit_or_of (chained (bit_xor_of (chained (bit_and_of (chained (equal_of (chained (relation_of (chained (shift_of (chained (sum_of (chained (product_of (chained (u.Postfix (postfix_of (p.Number (number 113 114)) [])) [])) [])) [])) [])) [])) [])) [])) [])) [])) [])))) [])) (mark w.RightParen 114 115)) [])) [])) [])) [])) [])) [])) [])) [])) [])) [])) [])))) (mark w.Semicolon 115 116))) ∷ (b.Stmt (t.Return (word w.Return 117 123) (Some (a.Choice (c.Or (or_of (chained (and_of (chained (bit_or_of (chained (bit_xor_of (chained (bit_and_of (chained (equal_of (chained (relation_of (chained (shift_of (chained (sum_of (chained (product_of (chained (u.Postfix (postfix_of (p.Name (name 124 125)) ((s.Index (mark w.LeftBracket 125 126) (a.Choice (c.Or (or_of (chained (and_of (chained (bit_or_of (chained (bit_xor_of (chained (bit_and_of (chained (equal_of (chained (relation_of (chained (shift_of (chained (sum_of (chained (product_of (chained (u.Postfix (postfix_of (p.Number (number 126 127)) [])) [])) [])) [])) [])) [])) [])) [])) [])) [])) [])))) (mark w.RightBracket 127 128)) ∷ []))) [])) [])) [])) [])) [])) [])) [])) [])) [])) []))))) (mark w.Semicolon 128 129))) ∷ []) (mark w.RightBrace 130 131)))) ∷ []) })

allocation_syntax : trees.program allocation_tree ≡ cores.allocation_items
unfolding trees.operands trees.operands_there trees.declared trees.parameter trees.params trees.local trees.for_first trees.in_order trees.members trees.body trees.item trees.program trees.elements_after expression_trees.links expression_trees.chain expression_trees.listed expression_trees.listed_after expression_trees.suffixed
allocation_syntax = simp (expressions, declarations, statements, rolled) refl

pub allocation : elaboration mode.Source cores.allocation_text allocation_tree ≡ Ok cores.allocation_core
unfolding elaboration
allocation = ap (elaborated mode.Source cores.allocation_text) allocation_syntax ∙ cores.allocation

-- int f(int a, int *b); int g(void) { return f('a', 0); } int f(int x, int y[3]) { int h[2][2] = {{1}, {x, 3}}; char c[2] = {0}; { int x; putchar(x); } (void) getchar(); return x ? y[0] : y - h[1] > 2; } int main(void) { g(); return 0; }
abbrev calls_tree : ProgramTree
calls_tree = (record { items = ((m.Function [] (based (int 0 3)) [] (name 4 5) (mark w.LeftParen 5 6) (ps.List (chained (q.Named [] (based (int 6 9)) (declarator_of [] (d.Name (name 10 11)))) ((link (mark w.Comma 11 12) (q.Named [] (based (int 13 16)) (declarator_of ((star (mark w.Star 17 18)) ∷ []) (d.Name (name 18 19))))) ∷ []))) (mark w.RightParen 19 20) (y.Absent (mark w.Semicolon 20 21))) ∷ (m.Function [] (based (int 22 25)) [] (name 26 27) (mark w.LeftParen 27 28) (ps.Void (word w.Void 28 32)) (mark w.RightParen 32 33) (y.Block (block_of (mark w.LeftBrace 34 35) ((b.Stmt (t.Return (word w.Return 36 42) (Some (a.Choice (c.Or (or_of (chained (and_of (chained (bit_or_of (chained (bit_xor_of (chained (bit_and_of (chained (equal_of (chained (relation_of (chained (shift_of (chained (sum_of (chained (product_of (chained (u.Postfix (postfix_of (p.Call (name 43 44) (mark w.LeftParen 44 45) (Some (chained (a.Choice (c.Or (or_of (chained (and_of (chained (bit_or_of (chained (bit_xor_of (chained (bit_and_of (chained (equal_of (chained (relation_of (chained (shift_of (chained (sum_of (chained (product_of (chained (u.Postfix (postfix_of (p.Character (character 45 48)) [])) [])) [])) [])) [])) [])) [])) [])) [])) [])) [])))) ((link (mark w.Comma 48 49) (a.Choice (c.Or (or_of (chained (and_of (chained (bit_or_of (chained (bit_xor_of (chained (bit_and_of (chained (equal_of (chained (relation_of (chained (shift_of (chained (sum_of (chained (product_of (chained (u.Postfix (postfix_of (p.Number (number 50 51)) [])) [])) [])) [])) [])) [])) [])) [])) [])) [])) []))))) ∷ []))) (mark w.RightParen 51 52)) [])) [])) [])) [])) [])) [])) [])) [])) [])) [])) []))))) (mark w.Semicolon 52 53))) ∷ []) (mark w.RightBrace 54 55)))) ∷ (m.Function [] (based (int 56 59)) [] (name 60 61) (mark w.LeftParen 61 62) (ps.List (chained (q.Named [] (based (int 62 65)) (declarator_of [] (d.Name (name 66 67)))) ((link (mark w.Comma 67 68) (q.Named [] (based (int 69 72)) (declarator_of [] (d.Array (d.Name (name 73 74)) (mark w.LeftBracket 74 75) (c.Or (or_of (chained (and_of (chained (bit_or_of (chained (bit_xor_of (chained (bit_and_of (chained (equal_of (chained (relation_of (chained (shift_of (chained (sum_of (chained (product_of (chained (u.Postfix (postfix_of (p.Number (number 75 76)) [])) [])) [])) [])) [])) [])) [])) [])) [])) [])) []))) (mark w.RightBracket 76 77))))) ∷ []))) (mark w.RightParen 77 78) (y.Block (block_of (mark w.LeftBrace 79 80) ((b.Local (l.Variables [] (based (int 81 84)) (chained (ds.Initialised (declarator_of [] (d.Array (d.Array (d.Name (name 85 86)) (mark w.LeftBracket 86 87) (c.Or (or_of (chained (and_of (chained (bit_or_of (chained (bit_xor_of (chained (bit_and_of (chained (equal_of (chained (relation_of (chained (shift_of (chained (sum_of (chained (product_of (chained (u.Postfix (postfix_of (p.Number (number 87 88)) [])) [])) [])) [])) [])) [])) [])) [])) [])) [])) []))) (mark w.RightBracket 88 89)) (mark w.LeftBracket 89 90) (c.Or (or_of (chained (and_of (chained (bit_or_of (chained (bit_xor_of (chained (bit_and_of (chained (equal_of (chained (relation_of (chained (shift_of (chained (sum_of (chained (product_of (chained (u.Postfix (postfix_of (p.Number (number 90 91)) [])) [])) [])) [])) [])) [])) [])) [])) [])) [])) []))) (mark w.RightBracket 91 92))) (mark w.Assign 93 94) (i.Braces (mark w.LeftBrace 95 96) (chained (i.Braces (mark w.LeftBrace 96 97) (chained (i.Value (a.Choice (c.Or (or_of (chained (and_of (chained (bit_or_of (chained (bit_xor_of (chained (bit_and_of (chained (equal_of (chained (relation_of (chained (shift_of (chained (sum_of (chained (product_of (chained (u.Postfix (postfix_of (p.Number (number 97 98)) [])) [])) [])) [])) [])) [])) [])) [])) [])) [])) []))))) []) None (mark w.RightBrace 98 99)) ((link (mark w.Comma 99 100) (i.Braces (mark w.LeftBrace 101 102) (chained (i.Value (a.Choice (c.Or (or_of (chained (and_of (chained (bit_or_of (chained (bit_xor_of (chained (bit_and_of (chained (equal_of (chained (relation_of (chained (shift_of (chained (sum_of (chained (product_of (chained (u.Postfix (postfix_of (p.Name (name 102 103)) [])) [])) [])) [])) [])) [])) [])) [])) [])) [])) []))))) ((link (mark w.Comma 103 104) (i.Value (a.Choice (c.Or (or_of (chained (and_of (chained (bit_or_of (chained (bit_xor_of (chained (bit_and_of (chained (equal_of (chained (relation_of (chained (shift_of (chained (sum_of (chained (product_of (chained (u.Postfix (postfix_of (p.Number (number 105 106)) [])) [])) [])) [])) [])) [])) [])) [])) [])) [])) [])))))) ∷ [])) None (mark w.RightBrace 106 107))) ∷ [])) None (mark w.RightBrace 107 108))) []) (mark w.Semicolon 108 109))) ∷ (b.Local (l.Variables [] (based (char 110 114)) (chained (ds.Initialised (declarator_of [] (d.Array (d.Name (name 115 116)) (mark w.LeftBracket 116 117) (c.Or (or_of (chained (and_of (chained (bit_or_of (chained (bit_xor_of (chained (bit_and_of (chained (equal_of (chained (relation_of (chained (shift_of (chained (sum_of (chained (product_of (chained (u.Postfix (postfix_of (p.Number (number 117 118)) [])) [])) [])) [])) [])) [])) [])) [])) [])) [])) []))) (mark w.RightBracket 118 119))) (mark w.Assign 120 121) (i.Braces (mark w.LeftBrace 122 123) (chained (i.Value (a.Choice (c.Or (or_of (chained (and_of (chained (bit_or_of (chained (bit_xor_of (chained (bit_and_of (chained (equal_of (chained (relation_of (chained (shift_of (chained (sum_of (chained (product_of (chained (u.Postfix (postfix_of (p.Number (number 123 124)) [])) [])) [])) [])) [])) [])) [])) [])) [])) [])) []))))) []) None (mark w.RightBrace 124 125))) []) (mark w.Semicolon 125 126))) ∷ (b.Stmt (t.Block (block_of (mark w.LeftBrace 127 128) ((b.Local (l.Variables [] (based (int 129 132)) (chained (ds.Plain (declarator_of [] (d.Name (name 133 134)))) []) (mark w.Semicolon 134 135))) ∷ (b.Stmt (t.Expression (a.Choice (c.Or (or_of (chained (and_of (chained (bit_or_of (chained (bit_xor_of (chained (bit_and_of (chained (equal_of (chained (relation_of (chained (shift_of (chained (sum_of (chained (product_of (chained (u.Postfix (postfix_of (p.Call (name 136 143) (mark w.LeftParen 143 144) (Some (chained (a.Choice (c.Or (or_of (chained (and_of (chained (bit_or_of (chained (bit_xor_of (chained (bit_and_of (chained (equal_of (chained (relation_of (chained (shift_of (chained (sum_of (chained (product_of (chained (u.Postfix (postfix_of (p.Name (name 144 145)) [])) [])) [])) [])) [])) [])) [])) [])) [])) [])) [])))) [])) (mark w.RightParen 145 146)) [])) [])) [])) [])) [])) [])) [])) [])) [])) [])) [])))) (mark w.Semicolon 146 147))) ∷ []) (mark w.RightBrace 148 149)))) ∷ (b.Stmt (t.Expression (a.Choice (c.Or (or_of (chained (and_of (chained (bit_or_of (chained (bit_xor_of (chained (bit_and_of (chained (equal_of (chained (relation_of (chained (shift_of (chained (sum_of (chained (product_of (chained (u.Cast (mark w.LeftParen 150 151) (type_name (void 151 155) []) (mark w.RightParen 155 156) (u.Postfix (postfix_of (p.Call (name 157 164) (mark w.LeftParen 164 165) None (mark w.RightParen 165 166)) []))) [])) [])) [])) [])) [])) [])) [])) [])) [])) [])))) (mark w.Semicolon 166 167))) ∷ (b.Stmt (t.Return (word w.Return 168 174) (Some (a.Choice (c.Choose (or_of (chained (and_of (chained (bit_or_of (chained (bit_xor_of (chained (bit_and_of (chained (equal_of (chained (relation_of (chained (shift_of (chained (sum_of (chained (product_of (chained (u.Postfix (postfix_of (p.Name (name 175 176)) [])) [])) [])) [])) [])) [])) [])) [])) [])) [])) [])) (mark w.Question 177 178) (a.Choice (c.Or (or_of (chained (and_of (chained (bit_or_of (chained (bit_xor_of (chained (bit_and_of (chained (equal_of (chained (relation_of (chained (shift_of (chained (sum_of (chained (product_of (chained (u.Postfix (postfix_of (p.Name (name 179 180)) ((s.Index (mark w.LeftBracket 180 181) (a.Choice (c.Or (or_of (chained (and_of (chained (bit_or_of (chained (bit_xor_of (chained (bit_and_of (chained (equal_of (chained (relation_of (chained (shift_of (chained (sum_of (chained (product_of (chained (u.Postfix (postfix_of (p.Number (number 181 182)) [])) [])) [])) [])) [])) [])) [])) [])) [])) [])) [])))) (mark w.RightBracket 182 183)) ∷ []))) [])) [])) [])) [])) [])) [])) [])) [])) [])) [])))) (mark w.Colon 184 185) (c.Or (or_of (chained (and_of (chained (bit_or_of (chained (bit_xor_of (chained (bit_and_of (chained (equal_of (chained (relation_of (chained (shift_of (chained (sum_of (chained (product_of (chained (u.Postfix (postfix_of (p.Name (name 186 187)) [])) [])) ((link (mark w.Minus 188 189) (product_of (chained (u.Postfix (postfix_of (p.Name (name 190 191)) ((s.Index (mark w.LeftBracket 191 192) (a.Choice (c.Or (or_of (chained (and_of (chained (bit_or_of (chained (bit_xor_of (chained (bit_and_of (chained (equal_of (chained (relation_of (chained (shift_of (chained (sum_of (chained (product_of (chained (u.Postfix (postfix_of (p.Number (number 192 193)) [])) [])) [])) [])) [])) [])) [])) [])) [])) [])) [])))) (mark w.RightBracket 193 194)) ∷ []))) []))) ∷ []))) [])) ((link (mark w.Greater 195 196) (shift_of (chained (sum_of (chained (product_of (chained (u.Postfix (postfix_of (p.Number (number 197 198)) [])) [])) [])) []))) ∷ []))) [])) [])) [])) [])) [])) [])))))) (mark w.Semicolon 198 199))) ∷ []) (mark w.RightBrace 200 201)))) ∷ (m.Function [] (based (int 202 205)) [] (name 206 210) (mark w.LeftParen 210 211) (ps.Void (word w.Void 211 215)) (mark w.RightParen 215 216) (y.Block (block_of (mark w.LeftBrace 217 218) ((b.Stmt (t.Expression (a.Choice (c.Or (or_of (chained (and_of (chained (bit_or_of (chained (bit_xor_of (chained (bit_and_of (chained (equal_of (chained (relation_of (chained (shift_of (chained (sum_of (chained (product_of (chained (u.Postfix (postfix_of (p.Call (name 219 220) (mark w.LeftParen 220 221) None (mark w.RightParen 221 222)) [])) [])) [])) [])) [])) [])) [])) [])) [])) [])) [])))) (mark w.Semicolon 222 223))) ∷ (b.Stmt (t.Return (word w.Return 224 230) (Some (a.Choice (c.Or (or_of (chained (and_of (chained (bit_or_of (chained (bit_xor_of (chained (bit_and_of (chained (equal_of (chained (relation_of (chained (shift_of (chained (sum_of (chained (product_of (chained (u.Postfix (postfix_of (p.Number (number 231 232)) [])) [])) [])) [])) [])) [])) [])) [])) [])) [])) []))))) (mark w.Semicolon 232 233))) ∷ []) (mark w.RightBrace 234 235)))) ∷ []) })

calls_syntax : trees.program calls_tree ≡ cores.calls_items
unfolding trees.operands trees.operands_there trees.declared trees.parameter trees.params trees.local trees.for_first trees.in_order trees.members trees.body trees.item trees.program trees.elements_after expression_trees.links expression_trees.chain expression_trees.listed expression_trees.listed_after expression_trees.suffixed
calls_syntax = simp (expressions, declarations, statements, rolled) refl

pub calls : elaboration mode.Source cores.calls_text calls_tree ≡ Ok cores.calls_core
unfolding elaboration
calls = ap (elaborated mode.Source cores.calls_text) calls_syntax ∙ cores.calls

-- extern int f(int a, char *b); void h(void); static int g[2]; void h(void) { ; } int main(void) { h(); return g[1]; }
abbrev prototypes_tree : ProgramTree
prototypes_tree = (record { items = ((m.Function ((word w.Extern 0 6) ∷ []) (based (int 7 10)) [] (name 11 12) (mark w.LeftParen 12 13) (ps.List (chained (q.Named [] (based (int 13 16)) (declarator_of [] (d.Name (name 17 18)))) ((link (mark w.Comma 18 19) (q.Named [] (based (char 20 24)) (declarator_of ((star (mark w.Star 25 26)) ∷ []) (d.Name (name 26 27))))) ∷ []))) (mark w.RightParen 27 28) (y.Absent (mark w.Semicolon 28 29))) ∷ (m.Function [] (based (void 30 34)) [] (name 35 36) (mark w.LeftParen 36 37) (ps.Void (word w.Void 37 41)) (mark w.RightParen 41 42) (y.Absent (mark w.Semicolon 42 43))) ∷ (m.Variables ((word w.Static 44 50) ∷ []) (based (int 51 54)) (chained (ds.Plain (declarator_of [] (d.Array (d.Name (name 55 56)) (mark w.LeftBracket 56 57) (c.Or (or_of (chained (and_of (chained (bit_or_of (chained (bit_xor_of (chained (bit_and_of (chained (equal_of (chained (relation_of (chained (shift_of (chained (sum_of (chained (product_of (chained (u.Postfix (postfix_of (p.Number (number 57 58)) [])) [])) [])) [])) [])) [])) [])) [])) [])) [])) []))) (mark w.RightBracket 58 59)))) []) (mark w.Semicolon 59 60)) ∷ (m.Function [] (based (void 61 65)) [] (name 66 67) (mark w.LeftParen 67 68) (ps.Void (word w.Void 68 72)) (mark w.RightParen 72 73) (y.Block (block_of (mark w.LeftBrace 74 75) ((b.Stmt (t.Empty (mark w.Semicolon 76 77))) ∷ []) (mark w.RightBrace 78 79)))) ∷ (m.Function [] (based (int 80 83)) [] (name 84 88) (mark w.LeftParen 88 89) (ps.Void (word w.Void 89 93)) (mark w.RightParen 93 94) (y.Block (block_of (mark w.LeftBrace 95 96) ((b.Stmt (t.Expression (a.Choice (c.Or (or_of (chained (and_of (chained (bit_or_of (chained (bit_xor_of (chained (bit_and_of (chained (equal_of (chained (relation_of (chained (shift_of (chained (sum_of (chained (product_of (chained (u.Postfix (postfix_of (p.Call (name 97 98) (mark w.LeftParen 98 99) None (mark w.RightParen 99 100)) [])) [])) [])) [])) [])) [])) [])) [])) [])) [])) [])))) (mark w.Semicolon 100 101))) ∷ (b.Stmt (t.Return (word w.Return 102 108) (Some (a.Choice (c.Or (or_of (chained (and_of (chained (bit_or_of (chained (bit_xor_of (chained (bit_and_of (chained (equal_of (chained (relation_of (chained (shift_of (chained (sum_of (chained (product_of (chained (u.Postfix (postfix_of (p.Name (name 109 110)) ((s.Index (mark w.LeftBracket 110 111) (a.Choice (c.Or (or_of (chained (and_of (chained (bit_or_of (chained (bit_xor_of (chained (bit_and_of (chained (equal_of (chained (relation_of (chained (shift_of (chained (sum_of (chained (product_of (chained (u.Postfix (postfix_of (p.Number (number 111 112)) [])) [])) [])) [])) [])) [])) [])) [])) [])) [])) [])))) (mark w.RightBracket 112 113)) ∷ []))) [])) [])) [])) [])) [])) [])) [])) [])) [])) []))))) (mark w.Semicolon 113 114))) ∷ []) (mark w.RightBrace 115 116)))) ∷ []) })

prototypes_syntax : trees.program prototypes_tree ≡ cores.prototypes_items
unfolding trees.operands trees.operands_there trees.declared trees.parameter trees.params trees.local trees.for_first trees.in_order trees.members trees.body trees.item trees.program trees.elements_after expression_trees.links expression_trees.chain expression_trees.listed expression_trees.listed_after expression_trees.suffixed
prototypes_syntax = simp (expressions, declarations, statements, rolled) refl

pub prototypes : elaboration mode.Source cores.prototypes_text prototypes_tree ≡ Ok cores.prototypes_core
unfolding elaboration
prototypes = ap (elaborated mode.Source cores.prototypes_text) prototypes_syntax ∙ cores.prototypes

-- void f(int n) { int i; for (i = 0; i < n; ++i) ; for (;;) break; if (n) { } n %= 3; return; } int main(void) { f(2); return 0; }
abbrev omissions_tree : ProgramTree
omissions_tree = (record { items = ((m.Function [] (based (void 0 4)) [] (name 5 6) (mark w.LeftParen 6 7) (ps.List (chained (q.Named [] (based (int 7 10)) (declarator_of [] (d.Name (name 11 12)))) [])) (mark w.RightParen 12 13) (y.Block (block_of (mark w.LeftBrace 14 15) ((b.Local (l.Variables [] (based (int 16 19)) (chained (ds.Plain (declarator_of [] (d.Name (name 20 21)))) []) (mark w.Semicolon 21 22))) ∷ (b.Stmt (t.For (word w.For 23 26) (mark w.LeftParen 27 28) (f.Expression (Some (a.Assign (u.Postfix (postfix_of (p.Name (name 28 29)) [])) (mark w.Assign 30 31) (a.Choice (c.Or (or_of (chained (and_of (chained (bit_or_of (chained (bit_xor_of (chained (bit_and_of (chained (equal_of (chained (relation_of (chained (shift_of (chained (sum_of (chained (product_of (chained (u.Postfix (postfix_of (p.Number (number 32 33)) [])) [])) [])) [])) [])) [])) [])) [])) [])) [])) [])))))) (mark w.Semicolon 33 34)) (Some (a.Choice (c.Or (or_of (chained (and_of (chained (bit_or_of (chained (bit_xor_of (chained (bit_and_of (chained (equal_of (chained (relation_of (chained (shift_of (chained (sum_of (chained (product_of (chained (u.Postfix (postfix_of (p.Name (name 35 36)) [])) [])) [])) [])) ((link (mark w.Less 37 38) (shift_of (chained (sum_of (chained (product_of (chained (u.Postfix (postfix_of (p.Name (name 39 40)) [])) [])) [])) []))) ∷ []))) [])) [])) [])) [])) [])) []))))) (mark w.Semicolon 40 41) (Some (a.Choice (c.Or (or_of (chained (and_of (chained (bit_or_of (chained (bit_xor_of (chained (bit_and_of (chained (equal_of (chained (relation_of (chained (shift_of (chained (sum_of (chained (product_of (chained (u.Prefix (mark w.Increment 42 44) (u.Postfix (postfix_of (p.Name (name 44 45)) []))) [])) [])) [])) [])) [])) [])) [])) [])) [])) []))))) (mark w.RightParen 45 46) (t.Empty (mark w.Semicolon 47 48)))) ∷ (b.Stmt (t.For (word w.For 49 52) (mark w.LeftParen 53 54) (f.Expression None (mark w.Semicolon 54 55)) None (mark w.Semicolon 55 56) None (mark w.RightParen 56 57) (t.Break (word w.Break 58 63) (mark w.Semicolon 63 64)))) ∷ (b.Stmt (t.If (word w.If 65 67) (mark w.LeftParen 68 69) (a.Choice (c.Or (or_of (chained (and_of (chained (bit_or_of (chained (bit_xor_of (chained (bit_and_of (chained (equal_of (chained (relation_of (chained (shift_of (chained (sum_of (chained (product_of (chained (u.Postfix (postfix_of (p.Name (name 69 70)) [])) [])) [])) [])) [])) [])) [])) [])) [])) [])) [])))) (mark w.RightParen 70 71) (t.Block (block_of (mark w.LeftBrace 72 73) [] (mark w.RightBrace 74 75))))) ∷ (b.Stmt (t.Expression (a.Assign (u.Postfix (postfix_of (p.Name (name 76 77)) [])) (mark w.PercentAssign 78 80) (a.Choice (c.Or (or_of (chained (and_of (chained (bit_or_of (chained (bit_xor_of (chained (bit_and_of (chained (equal_of (chained (relation_of (chained (shift_of (chained (sum_of (chained (product_of (chained (u.Postfix (postfix_of (p.Number (number 81 82)) [])) [])) [])) [])) [])) [])) [])) [])) [])) [])) []))))) (mark w.Semicolon 82 83))) ∷ (b.Stmt (t.Return (word w.Return 84 90) None (mark w.Semicolon 90 91))) ∷ []) (mark w.RightBrace 92 93)))) ∷ (m.Function [] (based (int 94 97)) [] (name 98 102) (mark w.LeftParen 102 103) (ps.Void (word w.Void 103 107)) (mark w.RightParen 107 108) (y.Block (block_of (mark w.LeftBrace 109 110) ((b.Stmt (t.Expression (a.Choice (c.Or (or_of (chained (and_of (chained (bit_or_of (chained (bit_xor_of (chained (bit_and_of (chained (equal_of (chained (relation_of (chained (shift_of (chained (sum_of (chained (product_of (chained (u.Postfix (postfix_of (p.Call (name 111 112) (mark w.LeftParen 112 113) (Some (chained (a.Choice (c.Or (or_of (chained (and_of (chained (bit_or_of (chained (bit_xor_of (chained (bit_and_of (chained (equal_of (chained (relation_of (chained (shift_of (chained (sum_of (chained (product_of (chained (u.Postfix (postfix_of (p.Number (number 113 114)) [])) [])) [])) [])) [])) [])) [])) [])) [])) [])) [])))) [])) (mark w.RightParen 114 115)) [])) [])) [])) [])) [])) [])) [])) [])) [])) [])) [])))) (mark w.Semicolon 115 116))) ∷ (b.Stmt (t.Return (word w.Return 117 123) (Some (a.Choice (c.Or (or_of (chained (and_of (chained (bit_or_of (chained (bit_xor_of (chained (bit_and_of (chained (equal_of (chained (relation_of (chained (shift_of (chained (sum_of (chained (product_of (chained (u.Postfix (postfix_of (p.Number (number 124 125)) [])) [])) [])) [])) [])) [])) [])) [])) [])) [])) []))))) (mark w.Semicolon 125 126))) ∷ []) (mark w.RightBrace 127 128)))) ∷ []) })

omissions_syntax : trees.program omissions_tree ≡ cores.omissions_items
unfolding trees.operands trees.operands_there trees.declared trees.parameter trees.params trees.local trees.for_first trees.in_order trees.members trees.body trees.item trees.program trees.elements_after expression_trees.links expression_trees.chain expression_trees.listed expression_trees.listed_after expression_trees.suffixed
omissions_syntax = simp (expressions, declarations, statements, rolled) refl

pub omissions : elaboration mode.Source cores.omissions_text omissions_tree ≡ Ok cores.omissions_core
unfolding elaboration
omissions = ap (elaborated mode.Source cores.omissions_text) omissions_syntax ∙ cores.omissions

-- unsigned long m; long l; unsigned u; short s; unsigned char b; int main(void) { l = u + s; m = l * m; u = b - 1; l = u - l; b++; s <<= l; l = 'a' + 4294967295; return 0x80000000 > 1; }
abbrev kinds_tree : ProgramTree
kinds_tree = (record { items = ((m.Variables [] (based (unsigned_long 0 8)) (chained (ds.Plain (declarator_of [] (d.Name (name 14 15)))) []) (mark w.Semicolon 15 16)) ∷ (m.Variables [] (based (long 17 21)) (chained (ds.Plain (declarator_of [] (d.Name (name 22 23)))) []) (mark w.Semicolon 23 24)) ∷ (m.Variables [] (based (unsigned 25 33)) (chained (ds.Plain (declarator_of [] (d.Name (name 34 35)))) []) (mark w.Semicolon 35 36)) ∷ (m.Variables [] (based (short 37 42)) (chained (ds.Plain (declarator_of [] (d.Name (name 43 44)))) []) (mark w.Semicolon 44 45)) ∷ (m.Variables [] (based (unsigned_char 46 54)) (chained (ds.Plain (declarator_of [] (d.Name (name 60 61)))) []) (mark w.Semicolon 61 62)) ∷ (m.Function [] (based (int 63 66)) [] (name 67 71) (mark w.LeftParen 71 72) (ps.Void (word w.Void 72 76)) (mark w.RightParen 76 77) (y.Block (block_of (mark w.LeftBrace 78 79) ((b.Stmt (t.Expression (a.Assign (u.Postfix (postfix_of (p.Name (name 80 81)) [])) (mark w.Assign 82 83) (a.Choice (c.Or (or_of (chained (and_of (chained (bit_or_of (chained (bit_xor_of (chained (bit_and_of (chained (equal_of (chained (relation_of (chained (shift_of (chained (sum_of (chained (product_of (chained (u.Postfix (postfix_of (p.Name (name 84 85)) [])) [])) ((link (mark w.Plus 86 87) (product_of (chained (u.Postfix (postfix_of (p.Name (name 88 89)) [])) []))) ∷ []))) [])) [])) [])) [])) [])) [])) [])) []))))) (mark w.Semicolon 89 90))) ∷ (b.Stmt (t.Expression (a.Assign (u.Postfix (postfix_of (p.Name (name 91 92)) [])) (mark w.Assign 93 94) (a.Choice (c.Or (or_of (chained (and_of (chained (bit_or_of (chained (bit_xor_of (chained (bit_and_of (chained (equal_of (chained (relation_of (chained (shift_of (chained (sum_of (chained (product_of (chained (u.Postfix (postfix_of (p.Name (name 95 96)) [])) ((link (mark w.Star 97 98) (u.Postfix (postfix_of (p.Name (name 99 100)) []))) ∷ []))) [])) [])) [])) [])) [])) [])) [])) [])) []))))) (mark w.Semicolon 100 101))) ∷ (b.Stmt (t.Expression (a.Assign (u.Postfix (postfix_of (p.Name (name 102 103)) [])) (mark w.Assign 104 105) (a.Choice (c.Or (or_of (chained (and_of (chained (bit_or_of (chained (bit_xor_of (chained (bit_and_of (chained (equal_of (chained (relation_of (chained (shift_of (chained (sum_of (chained (product_of (chained (u.Postfix (postfix_of (p.Name (name 106 107)) [])) [])) ((link (mark w.Minus 108 109) (product_of (chained (u.Postfix (postfix_of (p.Number (number 110 111)) [])) []))) ∷ []))) [])) [])) [])) [])) [])) [])) [])) []))))) (mark w.Semicolon 111 112))) ∷ (b.Stmt (t.Expression (a.Assign (u.Postfix (postfix_of (p.Name (name 113 114)) [])) (mark w.Assign 115 116) (a.Choice (c.Or (or_of (chained (and_of (chained (bit_or_of (chained (bit_xor_of (chained (bit_and_of (chained (equal_of (chained (relation_of (chained (shift_of (chained (sum_of (chained (product_of (chained (u.Postfix (postfix_of (p.Name (name 117 118)) [])) [])) ((link (mark w.Minus 119 120) (product_of (chained (u.Postfix (postfix_of (p.Name (name 121 122)) [])) []))) ∷ []))) [])) [])) [])) [])) [])) [])) [])) []))))) (mark w.Semicolon 122 123))) ∷ (b.Stmt (t.Expression (a.Choice (c.Or (or_of (chained (and_of (chained (bit_or_of (chained (bit_xor_of (chained (bit_and_of (chained (equal_of (chained (relation_of (chained (shift_of (chained (sum_of (chained (product_of (chained (u.Postfix (postfix_of (p.Name (name 124 125)) ((s.Increment (mark w.Increment 125 127)) ∷ []))) [])) [])) [])) [])) [])) [])) [])) [])) [])) [])))) (mark w.Semicolon 127 128))) ∷ (b.Stmt (t.Expression (a.Assign (u.Postfix (postfix_of (p.Name (name 129 130)) [])) (mark w.ShiftLeftAssign 131 134) (a.Choice (c.Or (or_of (chained (and_of (chained (bit_or_of (chained (bit_xor_of (chained (bit_and_of (chained (equal_of (chained (relation_of (chained (shift_of (chained (sum_of (chained (product_of (chained (u.Postfix (postfix_of (p.Name (name 135 136)) [])) [])) [])) [])) [])) [])) [])) [])) [])) [])) []))))) (mark w.Semicolon 136 137))) ∷ (b.Stmt (t.Expression (a.Assign (u.Postfix (postfix_of (p.Name (name 138 139)) [])) (mark w.Assign 140 141) (a.Choice (c.Or (or_of (chained (and_of (chained (bit_or_of (chained (bit_xor_of (chained (bit_and_of (chained (equal_of (chained (relation_of (chained (shift_of (chained (sum_of (chained (product_of (chained (u.Postfix (postfix_of (p.Character (character 142 145)) [])) [])) ((link (mark w.Plus 146 147) (product_of (chained (u.Postfix (postfix_of (p.Number (number 148 158)) [])) []))) ∷ []))) [])) [])) [])) [])) [])) [])) [])) []))))) (mark w.Semicolon 158 159))) ∷ (b.Stmt (t.Return (word w.Return 160 166) (Some (a.Choice (c.Or (or_of (chained (and_of (chained (bit_or_of (chained (bit_xor_of (chained (bit_and_of (chained (equal_of (chained (relation_of (chained (shift_of (chained (sum_of (chained (product_of (chained (u.Postfix (postfix_of (p.Number (number 167 177)) [])) [])) [])) [])) ((link (mark w.Greater 178 179) (shift_of (chained (sum_of (chained (product_of (chained (u.Postfix (postfix_of (p.Number (number 180 181)) [])) [])) [])) []))) ∷ []))) [])) [])) [])) [])) [])) []))))) (mark w.Semicolon 181 182))) ∷ []) (mark w.RightBrace 183 184)))) ∷ []) })

kinds_syntax : trees.program kinds_tree ≡ cores.kinds_items
unfolding trees.operands trees.operands_there trees.declared trees.parameter trees.params trees.local trees.for_first trees.in_order trees.members trees.body trees.item trees.program trees.elements_after expression_trees.links expression_trees.chain expression_trees.listed expression_trees.listed_after expression_trees.suffixed
kinds_syntax = simp (expressions, declarations, statements, rolled) refl

pub kinds : elaboration mode.Source cores.kinds_text kinds_tree ≡ Ok cores.kinds_core
unfolding elaboration
kinds = ap (elaborated mode.Source cores.kinds_text) kinds_syntax ∙ cores.kinds
