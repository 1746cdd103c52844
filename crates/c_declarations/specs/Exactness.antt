-- What it is for declared names and parameters to be read exactly, and for leaves to spell them in one way at most.
use Rattle.std.specs.Prelude.{◌≡◌, ◌↔◌, ℕ, suc, true, List, [], ◌∷◌, Some}
use Rattle.c_words.specs.declared.word.Word.TheVariants as w
use Rattle.c_words.specs.declared.word.Leaf.{Leaf}
use Rattle.c_words.specs.declared.chain.Chain.{Chain}
use Rattle.c_grammar.specs.declared.declaration.Declared.{Declared}
use Rattle.c_grammar.specs.declared.declaration.Params.{Params}
use Rattle.c_words.specs.Written.{Takes}
use Rattle.c_grammar.specs.Declarations as grammar
use Rattle.c_declarations.specs.DeclaredReading as read
use Rattle.c_declarations.specs.ParameterReading.{params}

-- reading gives what is declared, and leaves nothing, exactly where it is levelled, nests below k and writes the leaves
abbrev pub ReadsDeclarations : Type 0
ReadsDeclarations = (k : ℕ) (ls : List Leaf) (a : Chain Declared) → (read.all_declared k ls ≡ Some (a, [])) ↔ Takes k ls (grammar.all_declared a) []

-- the same of what stands in a function's parentheses, before the closing one; it stands in a position that nests
abbrev pub ReadsParameters : Type 0
ReadsParameters = (k : ℕ) (ls : List Leaf) (closing : Leaf) (rest : List Leaf) (a : Params) → closing.word ≡ w.RightParen
    → (params k ls ≡ Some (a, closing ∷ rest)) ↔ Takes (suc k) ls (grammar.params a) (closing ∷ rest)

-- levelled declared names that write the same leaves are equal, however deep they nest
abbrev pub HaveOneDeclaration : Type 0
HaveOneDeclaration = (a b : Chain Declared) → (grammar.all_declared a).levelled ≡ true → (grammar.all_declared b).levelled ≡ true
    → (grammar.all_declared a).leaves ≡ (grammar.all_declared b).leaves → a ≡ b
