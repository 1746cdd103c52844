-- The words that a program of the first form writes. A word is a token without where it stands.
use Rattle.std.specs.Prelude.{ℕ, ◌-◌, List, [], ◌∷◌, ◌++◌, Option, Some, None, map, take, drop, slice_get, unwrap_or, codes}
use Rattle.std.specs.List.{flat_map}
use Rattle.std.specs.Fmt.{signed_decimal}
use Rattle.c_lexer.specs.declared.token.TokenKind.{TokenKind}
use Rattle.c_lexer.specs.declared.token.TokenKind.TheVariants as kind
use Rattle.c_lexer.specs.declared.token.IntSuffix.TheVariants as suffix
use Rattle.c_lexer.specs.declared.token.Token.{Token}
use Rattle.c_parser.specs.declared.first_form.tree.FirstStmt.{FirstStmt}
use Rattle.c_parser.specs.declared.first_form.tree.FirstStmt.TheVariants as stmt
use Rattle.c_parser.specs.FirstForm.Program.{Function, Property, Program}

pub record Word : Type 0 where
  pub kind : TokenKind
  pub bytes : List ℕ

abbrev pub word_of : List ℕ → Token → Word
word_of text t = record { kind = t.kind; bytes = take (t.past - t.first) (drop t.first text) }

-- the words of a text's tokens
abbrev pub words_of : List ℕ → List Token → List Word
words_of text tokens = map (word_of text) tokens

abbrev pub named : List ℕ → Word
named bytes = record { kind = kind.Name; bytes = bytes }

abbrev pub keyword : List ℕ → Word
keyword bytes = record { kind = kind.Keyword; bytes = bytes }

abbrev pub mark : List ℕ → Word
mark bytes = record { kind = kind.Punctuation; bytes = bytes }

abbrev pub backslash : List ℕ → Word
backslash bytes = record { kind = kind.Backslash; bytes = 92 ∷ bytes }

abbrev pub number : List ℕ → Word
number bytes = record { kind = kind.Number suffix.Plain; bytes = bytes }

-- the name at a place; past the end there is none
abbrev pub name_at : List (List ℕ) → ℕ → List ℕ
name_at names i = unwrap_or (slice_get names i) []

abbrev pub names_of : List Function → List (List ℕ)
names_of fs = map (λ f. f.name) fs

-- `int x ;`
abbrev pub declaration_words : List ℕ → List Word
declaration_words x = keyword (codes "int") ∷ named x ∷ mark (codes ";") ∷ []

-- `/*@ meta \prop, \name(p), \targets(\ALL), \context(\writing), \separated(\written, &x); */`
abbrev pub property_words : List (List ℕ) → Property → List Word
property_words globals p =
    mark (codes "/*@") ∷ named (codes "meta") ∷ backslash (codes "prop") ∷ mark (codes ",")
    ∷ backslash (codes "name") ∷ mark (codes "(") ∷ named p.name ∷ mark (codes ")") ∷ mark (codes ",")
    ∷ backslash (codes "targets") ∷ mark (codes "(") ∷ backslash (codes "ALL") ∷ mark (codes ")") ∷ mark (codes ",")
    ∷ backslash (codes "context") ∷ mark (codes "(") ∷ backslash (codes "writing") ∷ mark (codes ")") ∷ mark (codes ",")
    ∷ backslash (codes "separated") ∷ mark (codes "(") ∷ backslash (codes "written") ∷ mark (codes ",")
    ∷ mark (codes "&") ∷ named (name_at globals p.variable) ∷ mark (codes ")") ∷ mark (codes ";") ∷ mark (codes "*/") ∷ []

abbrev pub optional_property_words : List (List ℕ) → Option Property → List Word
optional_property_words globals None = []
optional_property_words globals (Some p) = property_words globals p

-- a statement, with the names of the variables and of the functions
abbrev pub statement_words : List (List ℕ) → List (List ℕ) → FirstStmt → List Word
statement_words globals functions (stmt.Assign x n) = named (name_at globals x) ∷ mark (codes "=") ∷ number (signed_decimal n) ∷ mark (codes ";") ∷ []
statement_words globals functions (stmt.Call f) = named (name_at functions f) ∷ mark (codes "(") ∷ mark (codes ")") ∷ mark (codes ";") ∷ []
statement_words globals functions stmt.Empty = mark (codes ";") ∷ []
statement_words globals functions (stmt.Assert y x) =
    mark (codes "/*@") ∷ named (codes "assert") ∷ named (codes "weave_1") ∷ mark (codes ":") ∷ backslash (codes "separated") ∷ mark (codes "(")
    ∷ mark (codes "&") ∷ named (name_at globals y) ∷ mark (codes ",") ∷ mark (codes "&") ∷ named (name_at globals x)
    ∷ mark (codes ")") ∷ mark (codes ";") ∷ mark (codes "*/") ∷ []

-- `void f(void) {`, the body and `}`
abbrev pub function_words : List (List ℕ) → List (List ℕ) → Function → List Word
function_words globals functions f =
    keyword (codes "void") ∷ named f.name ∷ mark (codes "(") ∷ keyword (codes "void") ∷ mark (codes ")") ∷ mark (codes "{")
    ∷ (flat_map (statement_words globals functions) f.body ++ mark (codes "}") ∷ [])

-- `int main(void) {`, the body and `return 0; }`
abbrev pub main_words : List (List ℕ) → List (List ℕ) → Function → List Word
main_words globals functions f =
    keyword (codes "int") ∷ named f.name ∷ mark (codes "(") ∷ keyword (codes "void") ∷ mark (codes ")") ∷ mark (codes "{")
    ∷ (flat_map (statement_words globals functions) f.body
    ++ keyword (codes "return") ∷ number (codes "0") ∷ mark (codes ";") ∷ mark (codes "}") ∷ [])

-- the last function is `main`
abbrev pub functions_words : List (List ℕ) → List (List ℕ) → List Function → List Word
functions_words globals functions [] = []
functions_words globals functions (f ∷ []) = main_words globals functions f
functions_words globals functions (f ∷ g ∷ fs) = function_words globals functions f ++ functions_words globals functions (g ∷ fs)

-- the declarations, the property where there is one, and the functions
abbrev pub program_words : Program → List Word
program_words p =
    flat_map declaration_words p.globals
    ++ (optional_property_words p.globals p.property ++ functions_words p.globals (names_of p.functions) p.functions)
