-- The words that the form fixes, and when a word is one of them.
use Rattle.std.specs.Prelude.{ℕ, Bool, true, false, ◌&&◌, ◌==◌, codes}
use Rattle.std.specs.Str.{bytes_eq}
use Rattle.c_lexer.specs.declared.token.TokenKind.{TokenKind}
use Rattle.c_lexer.specs.declared.token.TokenKind.TheVariants as kind
use Rattle.c_lexer.specs.declared.token.IntSuffix.TheVariants as suffix
use Rattle.c_parser.specs.declared.first_form.fixed.Fixed.{Fixed}
use Rattle.c_parser.specs.declared.first_form.fixed.Fixed.TheVariants as fixed
use Rattle.c_parser.specs.FirstForm.Spelling.{Word, named, keyword, mark, backslash, number}

abbrev pub fixed_word : Fixed → Word
fixed_word fixed.Int = keyword (codes "int")
fixed_word fixed.Void = keyword (codes "void")
fixed_word fixed.Return = keyword (codes "return")
fixed_word fixed.Zero = number (codes "0")
fixed_word fixed.Main = named (codes "main")
fixed_word fixed.Semicolon = mark (codes ";")
fixed_word fixed.Comma = mark (codes ",")
fixed_word fixed.LeftParen = mark (codes "(")
fixed_word fixed.RightParen = mark (codes ")")
fixed_word fixed.LeftBrace = mark (codes "{")
fixed_word fixed.RightBrace = mark (codes "}")
fixed_word fixed.Equals = mark (codes "=")
fixed_word fixed.Ampersand = mark (codes "&")
fixed_word fixed.Colon = mark (codes ":")
fixed_word fixed.Open = mark (codes "/*@")
fixed_word fixed.Close = mark (codes "*/")
fixed_word fixed.Meta = named (codes "meta")
fixed_word fixed.Assert = named (codes "assert")
fixed_word fixed.Label = named (codes "weave_1")
fixed_word fixed.Prop = backslash (codes "prop")
fixed_word fixed.Name = backslash (codes "name")
fixed_word fixed.Targets = backslash (codes "targets")
fixed_word fixed.All = backslash (codes "ALL")
fixed_word fixed.Context = backslash (codes "context")
fixed_word fixed.Writing = backslash (codes "writing")
fixed_word fixed.Separated = backslash (codes "separated")
fixed_word fixed.Written = backslash (codes "written")

abbrev pub is_name_kind : TokenKind → Bool
is_name_kind kind.Name = true
is_name_kind _ = false

abbrev pub is_plain_number : TokenKind → Bool
is_plain_number (kind.Number suffix.Plain) = true
is_plain_number _ = false

-- a number for each kind
abbrev pub kind_number : TokenKind → ℕ
kind_number kind.Name = 0
kind_number kind.Keyword = 1
kind_number kind.Punctuation = 2
kind_number kind.Backslash = 3
kind_number (kind.Number suffix.Plain) = 4
kind_number (kind.Number suffix.U) = 5
kind_number (kind.Number suffix.L) = 6
kind_number (kind.Number suffix.UL) = 7
kind_number kind.Character = 8
kind_number kind.Percent = 9
kind_number kind.Text = 10
kind_number kind.Meta = 11
kind_number kind.Ghost = 12
kind_number kind.Assert = 13

abbrev pub same_kind : TokenKind → TokenKind → Bool
same_kind a b = kind_number a == kind_number b

-- the word is this fixed one
unfoldable pub is_fixed : Fixed → Word → Bool
is_fixed f w = same_kind (fixed_word f).kind w.kind && bytes_eq (fixed_word f).bytes w.bytes
