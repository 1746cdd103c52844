-- How what a tree takes is made of what its parts take.
use Rattle.std.proofs.Common.{◌≡◌, ℕ, suc, ◌+◌, ◌<◌, ◌≤◌, max, Bool, true, false, ◌&&◌, List, [], ◌∷◌, ◌++◌, length, get_or, refl, sym, ap, ap₂, ◌∙◌, append_assoc, append-nil, length-append, arith}
use Rattle.std.proofs.lemmas.Bool.Decides.{nat_tests}
use Rattle.c_words.specs.declared.word.Word.{Word}
use Rattle.c_words.specs.declared.word.Word.TheVariants as w
use Rattle.c_words.specs.declared.word.Leaf.{Leaf}
use Rattle.c_words.specs.declared.chain.Link.{Link}
use Rattle.c_words.specs.Words.{index, same}
use Rattle.c_words.specs.Written.{Written, nothing, ◌then◌, one_of, nested, links, chain, Takes}

words : List Word
words =
    w.Name ∷ w.Number ∷ w.Character ∷ w.Struct ∷ w.Static ∷ w.Const ∷ w.Extern ∷ w.Register ∷ w.Char ∷ w.Signed ∷ w.Unsigned ∷ w.Short ∷ w.Int
    ∷ w.Long ∷ w.Void ∷ w.If ∷ w.Else ∷ w.While ∷ w.Do ∷ w.For ∷ w.Break ∷ w.Continue ∷ w.Return ∷ w.SizeOf ∷ w.LeftBrace ∷ w.RightBrace ∷ w.LeftParen
    ∷ w.RightParen ∷ w.LeftBracket ∷ w.RightBracket ∷ w.Semicolon ∷ w.Comma ∷ w.Question ∷ w.Colon ∷ w.Dot ∷ w.Arrow ∷ w.Increment ∷ w.Decrement
    ∷ w.Ampersand ∷ w.Star ∷ w.Plus ∷ w.Minus ∷ w.Tilde ∷ w.Exclamation ∷ w.Slash ∷ w.Percent ∷ w.ShiftLeft ∷ w.ShiftRight ∷ w.Less ∷ w.Greater
    ∷ w.LessEqual ∷ w.GreaterEqual ∷ w.EqualEqual ∷ w.NotEqual ∷ w.Caret ∷ w.Bar ∷ w.AndAnd ∷ w.OrOr ∷ w.Assign ∷ w.StarAssign ∷ w.SlashAssign
    ∷ w.PercentAssign ∷ w.PlusAssign ∷ w.MinusAssign ∷ w.ShiftLeftAssign ∷ w.ShiftRightAssign ∷ w.AndAssign ∷ w.XorAssign ∷ w.OrAssign ∷ w.Meta
    ∷ w.Ghost ∷ w.Assert ∷ w.SlashTrue ∷ w.SlashFalse ∷ w.SlashValid ∷ w.SlashValidRead ∷ w.SlashSeparated ∷ w.SlashNull ∷ w.SlashWritten
    ∷ w.SlashRead ∷ w.SlashCalled ∷ w.SlashAt ∷ w.SlashResult ∷ w.SlashProp ∷ w.SlashName ∷ w.SlashTargets ∷ w.SlashContext ∷ w.SlashAll ∷ w.SlashDiff
    ∷ w.SlashUnion ∷ w.SlashInter ∷ w.SlashCallees ∷ w.SlashWriting ∷ w.SlashReading ∷ w.SlashCalling ∷ w.SlashPrecond ∷ w.SlashPostcond ∷ w.SlashWeak
    ∷ w.SlashStrong ∷ w.Implies ∷ w.Equivalent ∷ w.DotDot ∷ w.DirectiveInit ∷ w.DirectiveAccept ∷ w.DirectiveDeterministic ∷ w.String ∷ w.CallEvent
    ∷ w.ReturnEvent ∷ w.EitherEvent ∷ w.PreLabel ∷ w.HereLabel ∷ w.MetaName ∷ w.OtherName ∷ w.Unused ∷ w.End ∷ []

word_of : (a : Word) → get_or words (index a) w.End ≡ a
unfolding words
word_of w.Name = refl
word_of w.Number = refl
word_of w.Character = refl
word_of w.Struct = refl
word_of w.Static = refl
word_of w.Const = refl
word_of w.Extern = refl
word_of w.Register = refl
word_of w.Char = refl
word_of w.Signed = refl
word_of w.Unsigned = refl
word_of w.Short = refl
word_of w.Int = refl
word_of w.Long = refl
word_of w.Void = refl
word_of w.If = refl
word_of w.Else = refl
word_of w.While = refl
word_of w.Do = refl
word_of w.For = refl
word_of w.Break = refl
word_of w.Continue = refl
word_of w.Return = refl
word_of w.SizeOf = refl
word_of w.LeftBrace = refl
word_of w.RightBrace = refl
word_of w.LeftParen = refl
word_of w.RightParen = refl
word_of w.LeftBracket = refl
word_of w.RightBracket = refl
word_of w.Semicolon = refl
word_of w.Comma = refl
word_of w.Question = refl
word_of w.Colon = refl
word_of w.Dot = refl
word_of w.Arrow = refl
word_of w.Increment = refl
word_of w.Decrement = refl
word_of w.Ampersand = refl
word_of w.Star = refl
word_of w.Plus = refl
word_of w.Minus = refl
word_of w.Tilde = refl
word_of w.Exclamation = refl
word_of w.Slash = refl
word_of w.Percent = refl
word_of w.ShiftLeft = refl
word_of w.ShiftRight = refl
word_of w.Less = refl
word_of w.Greater = refl
word_of w.LessEqual = refl
word_of w.GreaterEqual = refl
word_of w.EqualEqual = refl
word_of w.NotEqual = refl
word_of w.Caret = refl
word_of w.Bar = refl
word_of w.AndAnd = refl
word_of w.OrOr = refl
word_of w.Assign = refl
word_of w.StarAssign = refl
word_of w.SlashAssign = refl
word_of w.PercentAssign = refl
word_of w.PlusAssign = refl
word_of w.MinusAssign = refl
word_of w.ShiftLeftAssign = refl
word_of w.ShiftRightAssign = refl
word_of w.AndAssign = refl
word_of w.XorAssign = refl
word_of w.OrAssign = refl
word_of w.Meta = refl
word_of w.Ghost = refl
word_of w.Assert = refl
word_of w.SlashTrue = refl
word_of w.SlashFalse = refl
word_of w.SlashValid = refl
word_of w.SlashValidRead = refl
word_of w.SlashSeparated = refl
word_of w.SlashNull = refl
word_of w.SlashWritten = refl
word_of w.SlashRead = refl
word_of w.SlashCalled = refl
word_of w.SlashAt = refl
word_of w.SlashResult = refl
word_of w.SlashProp = refl
word_of w.SlashName = refl
word_of w.SlashTargets = refl
word_of w.SlashContext = refl
word_of w.SlashAll = refl
word_of w.SlashDiff = refl
word_of w.SlashUnion = refl
word_of w.SlashInter = refl
word_of w.SlashCallees = refl
word_of w.SlashWriting = refl
word_of w.SlashReading = refl
word_of w.SlashCalling = refl
word_of w.SlashPrecond = refl
word_of w.SlashPostcond = refl
word_of w.SlashWeak = refl
word_of w.SlashStrong = refl
word_of w.Implies = refl
word_of w.Equivalent = refl
word_of w.DotDot = refl
word_of w.DirectiveInit = refl
word_of w.DirectiveAccept = refl
word_of w.DirectiveDeterministic = refl
word_of w.String = refl
word_of w.CallEvent = refl
word_of w.ReturnEvent = refl
word_of w.EitherEvent = refl
word_of w.PreLabel = refl
word_of w.HereLabel = refl
word_of w.MetaName = refl
word_of w.OtherName = refl
word_of w.Unused = refl
word_of w.End = refl

pub same_is : (a b : Word) → same a b ≡ true → a ≡ b
same_is a b h = let e : index a ≡ index b = grind (arith, nat_tests) in sym (word_of a) ∙ ap (λ i. get_or words i w.End) e ∙ word_of b

pub both : (a b : Bool) → a ≡ true → b ≡ true → (a && b) ≡ true
both true true p q = refl
both true false p q = cc
both false b p q = cc

pub first_of_both : (a b : Bool) → (a && b) ≡ true → a ≡ true
first_of_both true b h = refl
first_of_both false b h = h

pub second_of_both : (a b : Bool) → (a && b) ≡ true → b ≡ true
second_of_both true b h = h
second_of_both false b h = cc

pub Takes-nothing : (k : ℕ) (ts : List Leaf) → 0 < k → Takes k ts nothing ts
unfolding nothing
Takes-nothing k ts some = record { spelled = refl; levelled = refl; below = omega arith }

pub nothing-Takes : {k : ℕ} {ts rest : List Leaf} → Takes k ts nothing rest → ts ≡ rest
unfolding nothing
nothing-Takes h = h.spelled

pub Takes-then : {k : ℕ} {ts mid rest : List Leaf} {a b : Written} → Takes k ts a mid → Takes k mid b rest → Takes k ts (a then b) rest
unfolding ◌then◌
Takes-then {a = a} {b = b} h i = record {
  spelled = h.spelled ∙ ap (λ r. a.leaves ++ r) i.spelled ∙ sym (append_assoc a.leaves b.leaves _);
  levelled = both _ _ h.levelled i.levelled;
  below = omega (arith, h.below, i.below);
}

-- the tokens between the two parts
pub record Split (k : ℕ) (ts : List Leaf) (a b : Written) (rest : List Leaf) : Type 0 where
  pub mid : List Leaf
  pub first : Takes k ts a mid
  pub second : Takes k mid b rest

pub then-Takes : {k : ℕ} {ts rest : List Leaf} {a b : Written} → Takes k ts (a then b) rest → Split k ts a b rest
unfolding ◌then◌
then-Takes {rest = rest} {a = a} {b = b} h = record {
  mid = b.leaves ++ rest;
  first = record { spelled = h.spelled ∙ append_assoc a.leaves b.leaves rest; levelled = first_of_both _ _ h.levelled; below = omega (arith, h.below) };
  second = record { spelled = refl; levelled = second_of_both _ _ h.levelled; below = omega (arith, h.below) };
}

pub Takes-one : (k : ℕ) (test : Word → Bool) (t : Leaf) (rest : List Leaf) → 0 < k → test t.word ≡ true → Takes k (t ∷ rest) (one_of test t) rest
unfolding one_of
Takes-one k test t rest some h = record { spelled = refl; levelled = h; below = omega arith }

pub one-Takes : (test : Word → Bool) (t : Leaf) {k : ℕ} {ts rest : List Leaf} → Takes k ts (one_of test t) rest → (ts ≡ t ∷ rest) × (test t.word ≡ true)
unfolding one_of
one-Takes test t h = (h.spelled, h.levelled)

pub Takes-nested : {k : ℕ} {ts rest : List Leaf} {a : Written} → Takes k ts a rest → Takes (suc k) ts (nested a) rest
unfolding nested
Takes-nested h = record { spelled = h.spelled; levelled = h.levelled; below = omega (arith, h.below) }

pub nested-Takes : {k : ℕ} {ts rest : List Leaf} {a : Written} → Takes (suc k) ts (nested a) rest → Takes k ts a rest
unfolding nested
nested-Takes h = record { spelled = h.spelled; levelled = h.levelled; below = omega (arith, h.below) }
