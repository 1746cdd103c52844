-- What the grammars of annotations and of Ya see of a token (ACSL 2.2.1; MetAcsl's and Aoraï's manuals): the word that C sees, or one that they have beside C.
use Rattle.std.specs.Prelude.{ℕ, if◌then◌else◌, List, [], ◌∷◌, map, codes}
use Rattle.c_lexer.specs.declared.token.Token.{Token}
use Rattle.c_lexer.specs.declared.token.TokenKind.{TokenKind}
use Rattle.c_lexer.specs.declared.token.TokenKind.TheVariants as kind
use Rattle.c_words.specs.declared.word.Leaf.{Leaf}
use Rattle.c_words.specs.declared.word.Mode.TheVariants as mode
use Rattle.c_words.specs.declared.word.Word.{Word}
use Rattle.c_words.specs.declared.word.Word.TheVariants as w
use Rattle.c_words.specs.Words.{same, word_in, bytes_of, leaves_of}

-- names that stand for themselves at some places; at the others each is a name
unfoldable pub context_names : List (List ℕ × Word)
context_names =
    (codes "CALL", w.CallEvent) ∷ (codes "RETURN", w.ReturnEvent) ∷ (codes "COR", w.EitherEvent) ∷ (codes "Pre", w.PreLabel)
    ∷ (codes "Here", w.HereLabel) ∷ (codes "meta", w.MetaName) ∷ (codes "other", w.OtherName) ∷ []

-- words after a backslash
unfoldable pub backslash_words : List (List ℕ × Word)
backslash_words =
    (codes "\\true", w.SlashTrue) ∷ (codes "\\false", w.SlashFalse) ∷ (codes "\\valid", w.SlashValid) ∷ (codes "\\valid_read", w.SlashValidRead)
    ∷ (codes "\\separated", w.SlashSeparated) ∷ (codes "\\null", w.SlashNull) ∷ (codes "\\written", w.SlashWritten) ∷ (codes "\\read", w.SlashRead)
    ∷ (codes "\\called", w.SlashCalled) ∷ (codes "\\at", w.SlashAt) ∷ (codes "\\result", w.SlashResult) ∷ (codes "\\prop", w.SlashProp)
    ∷ (codes "\\name", w.SlashName) ∷ (codes "\\targets", w.SlashTargets) ∷ (codes "\\context", w.SlashContext) ∷ (codes "\\ALL", w.SlashAll)
    ∷ (codes "\\diff", w.SlashDiff) ∷ (codes "\\union", w.SlashUnion) ∷ (codes "\\inter", w.SlashInter) ∷ (codes "\\callees", w.SlashCallees)
    ∷ (codes "\\writing", w.SlashWriting) ∷ (codes "\\reading", w.SlashReading) ∷ (codes "\\calling", w.SlashCalling)
    ∷ (codes "\\precond", w.SlashPrecond) ∷ (codes "\\postcond", w.SlashPostcond) ∷ (codes "\\weak_invariant", w.SlashWeak)
    ∷ (codes "\\strong_invariant", w.SlashStrong) ∷ []

-- words after a percent sign
unfoldable pub directives : List (List ℕ × Word)
directives = (codes "%init", w.DirectiveInit) ∷ (codes "%accept", w.DirectiveAccept) ∷ (codes "%deterministic", w.DirectiveDeterministic) ∷ []

-- punctuators beside those of C
unfoldable pub further_punctuators : List (List ℕ × Word)
further_punctuators = (codes "==>", w.Implies) ∷ (codes "<==>", w.Equivalent) ∷ (codes "..", w.DotDot) ∷ []

-- the first word, where it is one
abbrev pub or_else : Word → Word → Word
or_else a b = if same a w.Unused then b else a

-- for a token of this kind and these bytes, of which C sees this word
abbrev pub word_by : TokenKind → Word → List ℕ → Word
word_by kind.Name c bytes = or_else (word_in context_names bytes) w.Name
word_by kind.Punctuation c bytes = or_else c (word_in further_punctuators bytes)
word_by kind.Backslash c bytes = word_in backslash_words bytes
word_by kind.Percent c bytes = word_in directives bytes
word_by kind.Text c bytes = w.String
word_by k c bytes = c

unfoldable pub annotation_leaf : List ℕ → Leaf → Leaf
annotation_leaf text l = record { word = word_by l.token.kind l.word (bytes_of text l.token); token = l.token }

-- the leaves of an annotation, or of a Ya text, with these tokens. No register is declared there
unfoldable pub annotation_leaves : List ℕ → List Token → List Leaf
annotation_leaves text tokens = map (annotation_leaf text) (leaves_of mode.Source text tokens)
