-- A leaf that is taken by a test of its word.
use Rattle.std.proofs.Common.{◌≡◌, Bool, true, false, List, [], ◌∷◌, None, refl, arith}
use Rattle.std.proofs.lemmas.Bool.Decides.{nat_tests}
use Rattle.c_words.specs.declared.word.Word.{Word}
use Rattle.c_words.specs.Words.{same, index}
use Rattle.c_words.specs.Parsing.{Leaves, word_at, take_if}

same_self : (x : Word) → same x x ≡ true
same_self x = grind (arith, nat_tests)

pub takes_next : (test : Word → Bool) (ts : Leaves) → test (word_at ts) ≡ true → take_if test ts ≡ take_if (same (word_at ts)) ts
unfolding take_if word_at
takes_next test [] e = refl
takes_next test (t ∷ ts) e = rw (e, same_self t.word) refl

pub takes_none : (test : Word → Bool) (ts : Leaves) → test (word_at ts) ≡ false → take_if test ts ≡ None
unfolding take_if word_at
takes_none test [] e = refl
takes_none test (t ∷ ts) e = rw e refl
