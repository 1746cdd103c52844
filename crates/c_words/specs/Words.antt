-- What the grammar sees of a token: its word.
use Rattle.std.specs.Prelude.{ℕ, ◌-◌, ◌==◌, Bool, true, false, if◌then◌else◌, List, [], ◌∷◌, map, take, drop, codes}
use Rattle.std.specs.List.{filter}
use Rattle.std.specs.Str.{bytes_eq}
use Rattle.c_lexer.specs.declared.token.TokenKind.{TokenKind}
use Rattle.c_lexer.specs.declared.token.TokenKind.TheVariants as kind
use Rattle.c_lexer.specs.declared.token.Token.{Token}
use Rattle.c_words.specs.declared.word.Mode.{Mode}
use Rattle.c_words.specs.declared.word.Mode.TheVariants as mode
use Rattle.c_words.specs.declared.word.Word.{Word}
use Rattle.c_words.specs.declared.word.Word.TheVariants as w
use Rattle.c_words.specs.declared.word.Leaf.{Leaf}

-- the words in order
abbrev pub index : Word → ℕ
index w.Name = 0
index w.Number = 1
index w.Character = 2
index w.Struct = 3
index w.Static = 4
index w.Const = 5
index w.Extern = 6
index w.Register = 7
index w.Char = 8
index w.Signed = 9
index w.Unsigned = 10
index w.Short = 11
index w.Int = 12
index w.Long = 13
index w.Void = 14
index w.If = 15
index w.Else = 16
index w.While = 17
index w.Do = 18
index w.For = 19
index w.Break = 20
index w.Continue = 21
index w.Return = 22
index w.SizeOf = 23
index w.LeftBrace = 24
index w.RightBrace = 25
index w.LeftParen = 26
index w.RightParen = 27
index w.LeftBracket = 28
index w.RightBracket = 29
index w.Semicolon = 30
index w.Comma = 31
index w.Question = 32
index w.Colon = 33
index w.Dot = 34
index w.Arrow = 35
index w.Increment = 36
index w.Decrement = 37
index w.Ampersand = 38
index w.Star = 39
index w.Plus = 40
index w.Minus = 41
index w.Tilde = 42
index w.Exclamation = 43
index w.Slash = 44
index w.Percent = 45
index w.ShiftLeft = 46
index w.ShiftRight = 47
index w.Less = 48
index w.Greater = 49
index w.LessEqual = 50
index w.GreaterEqual = 51
index w.EqualEqual = 52
index w.NotEqual = 53
index w.Caret = 54
index w.Bar = 55
index w.AndAnd = 56
index w.OrOr = 57
index w.Assign = 58
index w.StarAssign = 59
index w.SlashAssign = 60
index w.PercentAssign = 61
index w.PlusAssign = 62
index w.MinusAssign = 63
index w.ShiftLeftAssign = 64
index w.ShiftRightAssign = 65
index w.AndAssign = 66
index w.XorAssign = 67
index w.OrAssign = 68
index w.Meta = 69
index w.Ghost = 70
index w.Assert = 71
index w.SlashTrue = 72
index w.SlashFalse = 73
index w.SlashValid = 74
index w.SlashValidRead = 75
index w.SlashSeparated = 76
index w.SlashNull = 77
index w.SlashWritten = 78
index w.SlashRead = 79
index w.SlashCalled = 80
index w.SlashAt = 81
index w.SlashResult = 82
index w.SlashProp = 83
index w.SlashName = 84
index w.SlashTargets = 85
index w.SlashContext = 86
index w.SlashAll = 87
index w.SlashDiff = 88
index w.SlashUnion = 89
index w.SlashInter = 90
index w.SlashCallees = 91
index w.SlashWriting = 92
index w.SlashReading = 93
index w.SlashCalling = 94
index w.SlashPrecond = 95
index w.SlashPostcond = 96
index w.SlashWeak = 97
index w.SlashStrong = 98
index w.Implies = 99
index w.Equivalent = 100
index w.DotDot = 101
index w.DirectiveInit = 102
index w.DirectiveAccept = 103
index w.DirectiveDeterministic = 104
index w.String = 105
index w.CallEvent = 106
index w.ReturnEvent = 107
index w.EitherEvent = 108
index w.PreLabel = 109
index w.HereLabel = 110
index w.MetaName = 111
index w.OtherName = 112
index w.Unused = 113
index w.End = 114

abbrev pub same : Word → Word → Bool
same a b = index a == index b

-- the keywords that the grammar uses (C11 6.4.1), but for `register`
unfoldable pub keywords : List (List ℕ × Word)
keywords =
    (codes "struct", w.Struct) ∷ (codes "static", w.Static) ∷ (codes "const", w.Const) ∷ (codes "extern", w.Extern) ∷ (codes "char", w.Char)
    ∷ (codes "signed", w.Signed) ∷ (codes "unsigned", w.Unsigned) ∷ (codes "short", w.Short) ∷ (codes "int", w.Int) ∷ (codes "long", w.Long)
    ∷ (codes "void", w.Void) ∷ (codes "if", w.If) ∷ (codes "else", w.Else) ∷ (codes "while", w.While) ∷ (codes "do", w.Do) ∷ (codes "for", w.For)
    ∷ (codes "break", w.Break) ∷ (codes "continue", w.Continue) ∷ (codes "return", w.Return)
    ∷ (codes "sizeof", w.SizeOf) ∷ []

-- the punctuators (C11 6.4.6)
unfoldable pub punctuators : List (List ℕ × Word)
punctuators =
    (codes "{", w.LeftBrace) ∷ (codes "}", w.RightBrace) ∷ (codes "(", w.LeftParen) ∷ (codes ")", w.RightParen) ∷ (codes "[", w.LeftBracket)
    ∷ (codes "]", w.RightBracket) ∷ (codes ";", w.Semicolon) ∷ (codes ",", w.Comma) ∷ (codes "?", w.Question) ∷ (codes ":", w.Colon)
    ∷ (codes ".", w.Dot) ∷ (codes "->", w.Arrow) ∷ (codes "++", w.Increment) ∷ (codes "--", w.Decrement) ∷ (codes "&", w.Ampersand)
    ∷ (codes "*", w.Star) ∷ (codes "+", w.Plus) ∷ (codes "-", w.Minus) ∷ (codes "~", w.Tilde) ∷ (codes "!", w.Exclamation) ∷ (codes "/", w.Slash)
    ∷ (codes "%", w.Percent) ∷ (codes "<<", w.ShiftLeft) ∷ (codes ">>", w.ShiftRight) ∷ (codes "<", w.Less) ∷ (codes ">", w.Greater)
    ∷ (codes "<=", w.LessEqual) ∷ (codes ">=", w.GreaterEqual) ∷ (codes "==", w.EqualEqual) ∷ (codes "!=", w.NotEqual) ∷ (codes "^", w.Caret)
    ∷ (codes "|", w.Bar) ∷ (codes "&&", w.AndAnd) ∷ (codes "||", w.OrOr) ∷ (codes "=", w.Assign) ∷ (codes "*=", w.StarAssign)
    ∷ (codes "/=", w.SlashAssign) ∷ (codes "%=", w.PercentAssign) ∷ (codes "+=", w.PlusAssign) ∷ (codes "-=", w.MinusAssign)
    ∷ (codes "<<=", w.ShiftLeftAssign) ∷ (codes ">>=", w.ShiftRightAssign) ∷ (codes "&=", w.AndAssign) ∷ (codes "^=", w.XorAssign)
    ∷ (codes "|=", w.OrAssign) ∷ []

-- the word beside these bytes in a table
unfoldable pub word_in : List (List ℕ × Word) → List ℕ → Word
word_in [] bytes = w.Unused
word_in (p ∷ ps) bytes = if bytes_eq bytes p.0 then p.1 else word_in ps bytes

-- registers are declared in woven texts alone
abbrev pub register_word : Mode → Word
register_word mode.Source = w.Unused
register_word mode.Woven = w.Register

unfoldable pub keyword_word : Mode → List ℕ → Word
keyword_word m bytes = if bytes_eq bytes (codes "register") then register_word m else word_in keywords bytes

abbrev pub word_by : Mode → TokenKind → List ℕ → Word
word_by m kind.Name bytes = w.Name
word_by m (kind.Number s) bytes = w.Number
word_by m kind.Character bytes = w.Character
word_by m kind.Keyword bytes = keyword_word m bytes
word_by m kind.Punctuation bytes = word_in punctuators bytes
word_by m kind.Meta bytes = w.Meta
word_by m kind.Ghost bytes = w.Ghost
word_by m kind.Assert bytes = w.Assert
word_by m _ bytes = w.Unused

-- the bytes of a token
abbrev pub bytes_of : List ℕ → Token → List ℕ
bytes_of text t = take (t.past - t.first) (drop t.first text)

unfoldable pub leaf_of : Mode → List ℕ → Token → Leaf
leaf_of m text t = record { word = word_by m t.kind (bytes_of text t); token = t }

-- sources have no ghost code and no assertions, and woven texts no rules: these annotations are dropped
abbrev pub is_kept_kind : Mode → TokenKind → Bool
is_kept_kind mode.Source kind.Ghost = false
is_kept_kind mode.Source kind.Assert = false
is_kept_kind mode.Woven kind.Meta = false
is_kept_kind _ _ = true

unfoldable pub is_kept : Mode → Token → Bool
is_kept m t = is_kept_kind m t.kind

-- the leaves that a tree of these tokens has
unfoldable pub leaves_of : Mode → List ℕ → List Token → List Leaf
leaves_of m text tokens = map (leaf_of m text) (filter (is_kept m) tokens)
