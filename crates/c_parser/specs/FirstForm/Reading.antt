-- Reading as functions on the words that are left: what a text's words give, and what is left after them.
use Rattle.std.specs.Prelude.{◌≡◌, ℕ, zero, suc, ◌-◌, ◌==◌, Bool, true, false, not, ◌&&◌, ◌||◌, nat_lt, nat_le, if◌then◌else◌, List, [], ◌∷◌, ◌++◌, length, Option, Some, None, option_and_then, slice_get, position, Result, Ok, Err, ℤ, pos, codes}
use Rattle.std.specs.List.{list_any}
use Rattle.std.specs.Option.{option_map_or}
use Rattle.std.specs.Str.{bytes_eq}
use Rattle.std.specs.Str.Parse.{digits_value}
use Rattle.std.specs.Fmt.{decimal}
use Rattle.c_parser.specs.declared.first_form.fault.Fault.{Fault}
use Rattle.c_parser.specs.declared.first_form.fault.Fault.TheVariants as fault
use Rattle.c_parser.specs.declared.first_form.fixed.Fixed.{Fixed}
use Rattle.c_parser.specs.declared.first_form.fixed.Fixed.TheVariants as fixed
use Rattle.c_words.specs.declared.word.Mode.{Mode}
use Rattle.c_words.specs.declared.word.Mode.TheVariants as mode
use Rattle.c_parser.specs.declared.first_form.tree.FirstStmt.{FirstStmt}
use Rattle.c_parser.specs.declared.first_form.tree.FirstStmt.TheVariants as stmt
use Rattle.c_parser.specs.FirstForm.Program.{Function, Property, Program}
use Rattle.c_parser.specs.FirstForm.Spelling.{Word, names_of}
use Rattle.c_parser.specs.FirstForm.FixedWords.{is_fixed, is_name_kind, is_plain_number}
use Rattle.c_parser.specs.FirstForm.Texts.{is_name, is_free_name, limit}

-- the words that are left, and how many declarations, functions and statements may still come
pub record Left : Type 0 where
  pub words : List Word
  pub budget : ℕ

abbrev pub Outcome : Type 0 → Type 0
Outcome A = Option (A × Left)

abbrev pub Parser : Type 0 → Type 0
Parser A = Left → Outcome A

abbrev pub and_then : {A B : Type 0} → Outcome A → (A → Parser B) → Outcome B
and_then (Some p) f = f p.0 p.1
and_then None f = None

infixl 10 ◌>>=◌
abbrev pub ◌>>=◌ : {A B : Type 0} → Parser A → (A → Parser B) → Parser B
p >>= f = λ s. and_then (p s) f

infixl 10 ◌>>◌
abbrev pub ◌>>◌ : {A B : Type 0} → Parser A → Parser B → Parser B
p >> q = p >>= (λ _. q)

abbrev pub pure : {A : Type 0} → A → Parser A
pure a = λ s. Some (a, s)

-- goes on where there is a value
abbrev pub known : {A : Type 0} → Option A → Parser A
known None = λ s. None
known (Some a) = pure a

-- goes on where the test holds
abbrev pub guard : Bool → Parser (Unit {0})
guard b = λ s. if b then Some (tt, s) else None

-- ---- one word

abbrev pub first_of : List Word → ℕ → Outcome Word
first_of [] budget = None
first_of (w ∷ ws) budget = Some (w, record { words = ws; budget = budget })

unfoldable pub take_word : Parser Word
take_word s = first_of s.words s.budget

unfoldable pub is_at : ℕ → Fixed → List Word → Bool
is_at place f ws = option_map_or (is_fixed f) (slice_get ws place) false

unfoldable pub expect : Fixed → Parser (Unit {0})
expect f = take_word >>= (λ w. guard (is_fixed f w))

unfoldable pub expect_all : List Fixed → Parser (Unit {0})
expect_all [] = pure tt
expect_all (f ∷ fs) = expect f >> expect_all fs

unfoldable pub name : Parser (List ℕ)
name = do
  w ← take_word
  guard (is_name_kind w.kind)
  pure w.bytes

-- the number that the bytes write
unfoldable pub number_of : List ℕ → Option ℤ
number_of bytes = if nat_le (digits_value 10 bytes) 2147483647 && bytes_eq bytes (decimal (digits_value 10 bytes)) then Some (pos (digits_value 10 bytes)) else None

unfoldable pub number : Parser ℤ
number = do
  w ← take_word
  guard (is_plain_number w.kind)
  known (number_of w.bytes)

-- one declaration, function or statement more
unfoldable pub spend : Parser (Unit {0})
spend s = if s.budget == 0 then None else Some (tt, record { words = s.words; budget = s.budget - 1 })

unfoldable pub finish : Parser (Unit {0})
finish s = if length s.words == 0 then Some (tt, s) else None

-- ---- many items, each of which is read by what was found before it. The number bounds the turns.
module _ {A : Type 0} (starts : List Word → Bool) (item : List A → Parser A) where
  unfoldable pub many_from : ℕ → List A → Parser (List A)
  many_from zero found = λ s. if starts s.words then None else Some (found, s)
  many_from (suc n) found = λ s. if starts s.words then and_then (item found s) (λ x. many_from n (found ++ x ∷ [])) else Some (found, s)

  unfoldable pub many : Parser (List A)
  many s = many_from s.budget [] s

-- ---- names. The first names are those of variables, and the others those of functions.

unfoldable pub variable_of : ℕ → List (List ℕ) → List ℕ → Option ℕ
variable_of variables names x = option_and_then (λ i. if nat_lt i variables then Some i else None) (position (bytes_eq x) names)

unfoldable pub function_of_name : ℕ → List (List ℕ) → List ℕ → Option ℕ
function_of_name variables names x = option_and_then (λ i. if nat_lt i variables then None else Some (i - variables)) (position (bytes_eq x) names)

-- a name that may be declared after these
unfoldable pub new_name : List (List ℕ) → Parser (List ℕ)
new_name names = do
  x ← name
  guard (is_free_name x && not (list_any (bytes_eq x) names))
  pure x

-- ---- statements
abbrev pub is_woven : Mode → Bool
is_woven mode.Source = false
is_woven mode.Woven = true

module _ (variables : ℕ) (names : List (List ℕ)) where
  unfoldable pub variable : Parser ℕ
  variable = name >>= (λ x. known (variable_of variables names x))

  unfoldable pub assignment : List ℕ → Parser FirstStmt
  assignment x = do
    i ← known (variable_of variables names x)
    expect fixed.Equals
    n ← number
    expect fixed.Semicolon
    pure (stmt.Assign i n)

  unfoldable pub call : List ℕ → Parser FirstStmt
  call x = do
    f ← known (function_of_name variables names x)
    expect_all (fixed.LeftParen ∷ fixed.RightParen ∷ fixed.Semicolon ∷ [])
    pure (stmt.Call f)

  unfoldable pub named_statement : Parser FirstStmt
  named_statement = do
    x ← name
    (λ s. if is_at 0 fixed.Equals s.words then assignment x s else call x s)

  unfoldable pub assertion : Parser FirstStmt
  assertion = do
    expect_all (fixed.Open ∷ fixed.Assert ∷ fixed.Label ∷ fixed.Colon ∷ fixed.Separated ∷ fixed.LeftParen ∷ fixed.Ampersand ∷ [])
    y ← variable
    expect_all (fixed.Comma ∷ fixed.Ampersand ∷ [])
    x ← variable
    expect_all (fixed.RightParen ∷ fixed.Semicolon ∷ fixed.Close ∷ [])
    pure (stmt.Assert y x)

unfoldable pub empty_statement : Parser FirstStmt
empty_statement = do
  expect fixed.Semicolon
  pure stmt.Empty

module _ (m : Mode) (variables : ℕ) (names : List (List ℕ)) where
  -- what woven texts alone have
  unfoldable pub woven_statement : Parser FirstStmt
  woven_statement = do
    guard (is_woven m)
    (λ s. if is_at 0 fixed.Semicolon s.words then empty_statement s else assertion variables names s)

  unfoldable pub statement : Parser FirstStmt
  statement s = if is_at 0 fixed.Semicolon s.words || is_at 0 fixed.Open s.words then woven_statement s else named_statement variables names s

  unfoldable pub next_statement : List FirstStmt → Parser FirstStmt
  next_statement found = spend >> statement

-- a body goes on where it doesn't end
unfoldable pub body_goes_on : List Word → Bool
body_goes_on ws = not (is_at 0 fixed.RightBrace ws || is_at 0 fixed.Return ws)

unfoldable pub body : Mode → ℕ → List (List ℕ) → Parser (List FirstStmt)
body m variables names = many body_goes_on (next_statement m variables names)

-- ---- declarations, functions and the property

unfoldable pub begins_declaration : List Word → Bool
begins_declaration ws = is_at 0 fixed.Int ws && is_at 2 fixed.Semicolon ws

unfoldable pub declaration : List (List ℕ) → Parser (List ℕ)
declaration found = do
  spend
  expect fixed.Int
  x ← new_name found
  expect fixed.Semicolon
  pure x

unfoldable pub declarations : Parser (List (List ℕ))
declarations = many begins_declaration declaration

-- what stands between the property's name and its variable
unfoldable pub property_middle : Parser (Unit {0})
property_middle = expect_all
    (fixed.RightParen ∷ fixed.Comma ∷ fixed.Targets ∷ fixed.LeftParen ∷ fixed.All ∷ fixed.RightParen ∷ fixed.Comma
    ∷ fixed.Context ∷ fixed.LeftParen ∷ fixed.Writing ∷ fixed.RightParen ∷ fixed.Comma
    ∷ fixed.Separated ∷ fixed.LeftParen ∷ fixed.Written ∷ fixed.Comma ∷ fixed.Ampersand ∷ [])

unfoldable pub property_head : Parser (List ℕ)
property_head = do
  expect_all (fixed.Open ∷ fixed.Meta ∷ fixed.Prop ∷ fixed.Comma ∷ fixed.Name ∷ fixed.LeftParen ∷ [])
  x ← name
  property_middle
  guard (is_name x)
  pure x

unfoldable pub property : ℕ → List (List ℕ) → Parser Property
property variables names = do
  x ← property_head
  i ← variable variables names
  expect_all (fixed.RightParen ∷ fixed.Semicolon ∷ fixed.Close ∷ [])
  pure (record { name = x; variable = i })

unfoldable pub optional_property : Mode → ℕ → List (List ℕ) → Parser (Option Property)
optional_property m variables names s =
    if not (is_woven m) && is_at 0 fixed.Open s.words then and_then (property variables names s) (λ p. pure (Some p)) else Some (None, s)

-- `( void ) {`, the body and `}`, after the name x
unfoldable pub function_rest : Mode → ℕ → List (List ℕ) → List ℕ → Parser Function
function_rest m variables names x = do
  expect_all (fixed.LeftParen ∷ fixed.Void ∷ fixed.RightParen ∷ fixed.LeftBrace ∷ [])
  statements ← body m variables names
  expect fixed.RightBrace
  pure (record { name = x; body = statements })

unfoldable pub function : Mode → ℕ → List (List ℕ) → Parser Function
function m variables names = do
  spend
  expect fixed.Void
  x ← new_name names
  function_rest m variables names x

unfoldable pub functions : Mode → List (List ℕ) → Parser (List Function)
functions m globals = many (is_at 0 fixed.Void) (λ found. function m (length globals) (globals ++ names_of found))

unfoldable pub main_function : Mode → ℕ → List (List ℕ) → Parser Function
main_function m variables names = do
  spend
  expect_all (fixed.Int ∷ fixed.Main ∷ fixed.LeftParen ∷ fixed.Void ∷ fixed.RightParen ∷ fixed.LeftBrace ∷ [])
  statements ← body m variables names
  expect_all (fixed.Return ∷ fixed.Zero ∷ fixed.Semicolon ∷ fixed.RightBrace ∷ [])
  pure (record { name = codes "main"; body = statements })

-- the functions and then `main`, which ends the text
unfoldable pub all_functions : Mode → List (List ℕ) → Parser (List Function)
all_functions m globals = do
  others ← functions m globals
  main ← main_function m (length globals) (globals ++ names_of others)
  finish
  pure (others ++ main ∷ [])

unfoldable pub program : Mode → Parser Program
program m = do
  globals ← declarations
  p ← optional_property m (length globals) globals
  fs ← all_functions m globals
  pure (record { globals = globals; property = p; functions = fs })

abbrev pub whole : Mode → List Word → Left
whole m ws = record { words = ws; budget = limit m }

-- ---- what a function that reads ensures: the parser's outcome, unless memory fails
abbrev pub Reads : {A B : Type 0} → (B → A) → Outcome A → Result B Fault → Left → Type 0
Reads view outcome (Ok b) new = outcome ≡ Some (view b, new)
Reads view outcome (Err fault.NotFirstForm) new = outcome ≡ None
Reads view outcome (Err (fault.Memory e)) new = Unit {0}
