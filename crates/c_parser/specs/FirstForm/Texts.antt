-- The first form: which programs are of it, and which texts spell them.
use Rattle.std.specs.Prelude.{◌≡◌, ◌≢◌, ℕ, ◌+◌, ◌<◌, ◌≤◌, ◌==◌, Bool, true, false, not, ◌&&◌, ◌||◌, List, [], ◌∷◌, ◌++◌, length, Option, Some, None, pos, ◌≤ℤ◌, sum_by, codes, AllPairs}
use Rattle.std.specs.List.{AllByRecursion}
use Rattle.std.specs.Str.{bytes_eq}
use Rattle.c_lexer.specs.declared.token.TokenKind.TheVariants as kind
use Rattle.c_lexer.specs.declared.token.Token.{Token}
use Rattle.c_lexer.specs.FirstForm.Tokens.{is_token, AreTokensOf}
use Rattle.c_words.specs.declared.word.Mode.{Mode}
use Rattle.c_words.specs.declared.word.Mode.TheVariants as mode
use Rattle.c_parser.specs.declared.first_form.tree.FirstStmt.{FirstStmt}
use Rattle.c_parser.specs.declared.first_form.tree.FirstStmt.TheVariants as stmt
use Rattle.c_parser.specs.FirstForm.Program.{Function, Property, Program}
use Rattle.c_parser.specs.FirstForm.Spelling.{names_of, words_of, program_words}

-- declarations, functions and statements together
abbrev pub limit : Mode → ℕ
limit mode.Source = 10000
limit mode.Woven = 30000

abbrev pub size : Program → ℕ
size p = length p.globals + (length p.functions + sum_by (λ f. length f.body) p.functions)

-- a name that is no keyword
abbrev pub is_name : List ℕ → Bool
is_name bytes = is_token kind.Name bytes

abbrev pub begins_reserved : List ℕ → Bool
begins_reserved (a ∷ b ∷ cs) = a == 95 && b == 95
begins_reserved _ = false

-- a function of the library that each program has
abbrev pub is_library_name : List ℕ → Bool
is_library_name bytes = bytes_eq bytes (codes "getchar") || (bytes_eq bytes (codes "putchar") || (bytes_eq bytes (codes "malloc") || bytes_eq bytes (codes "free")))

-- a name that a variable or a function may have, but for `main`
abbrev pub is_free_name : List ℕ → Bool
is_free_name bytes = is_name bytes && not (begins_reserved bytes || (bytes_eq bytes (codes "main") || is_library_name bytes))

-- a statement of the mode's form, where there are so many variables and this many functions stand before its own
abbrev pub StatementFits : Mode → ℕ → ℕ → FirstStmt → Type 0
StatementFits m variables earlier (stmt.Assign x n) = (x < variables) × (pos 0 ≤ℤ n) × (n ≤ℤ pos 2147483647)
StatementFits m variables earlier (stmt.Call f) = f < earlier
StatementFits m variables earlier stmt.Empty = m ≡ mode.Woven
StatementFits m variables earlier (stmt.Assert y x) = (m ≡ mode.Woven) × (y < variables) × (x < variables)

-- the functions' bodies, the first of which has so many functions before it
abbrev pub BodiesFit : Mode → ℕ → ℕ → List Function → Type 0
BodiesFit m variables earlier [] = Unit {0}
BodiesFit m variables earlier (f ∷ fs) = AllByRecursion (StatementFits m variables earlier) f.body × BodiesFit m variables (earlier + 1) fs

-- a woven text has no property
abbrev pub PropertyFits : Mode → ℕ → Option Property → Type 0
PropertyFits m variables None = Unit {0}
PropertyFits m variables (Some p) = (m ≡ mode.Source) × (is_name p.name ≡ true) × (p.variable < variables)

-- a program of the mode's form, whose functions are these and then main
pub record IsFirstForm (m : Mode) (p : Program) : Type 0 where
  pub others : List Function
  pub main : Function
  pub functions : p.functions ≡ others ++ main ∷ []
  pub main_name : main.name ≡ codes "main"
  pub free : AllByRecursion (λ x. is_free_name x ≡ true) (p.globals ++ names_of others)
  pub distinct : AllPairs (λ x y. x ≢ y) (p.globals ++ names_of others)
  pub property : PropertyFits m (length p.globals) p.property
  pub bodies : BodiesFit m (length p.globals) 0 p.functions
  pub within : size p ≤ limit m

-- the tokens of the text are those of the program, which is of the mode's form
pub record Spells (m : Mode) (text : List ℕ) (tokens : List Token) (p : Program) : Type 0 where
  pub form : IsFirstForm m p
  pub words : words_of text tokens ≡ program_words p

-- the text is of the mode's form, and stands for the program
pub record IsTextOf (m : Mode) (text : List ℕ) (p : Program) : Type 0 where
  pub tokens : List Token
  pub lexed : AreTokensOf text tokens
  pub spelled : Spells m text tokens p
