-- A reader beside the parser that gives the tree: one step, and steps one after another.
use Rattle.std.proofs.Common.{◌≡◌, Bool, true, false, cond, List, [], ◌∷◌, Some, None, refl, sym, ap, ◌∙◌, arith}
use Rattle.std.proofs.lemmas.Bool.Decides.{nat_tests}
use Rattle.c_words.specs.declared.word.Word.{Word}
use Rattle.c_words.specs.declared.word.Leaf.{Leaf}
use Rattle.c_words.specs.Words.{same}
use Rattle.c_words.specs.Parsing as parsing
use Rattle.c_words.specs.Parsing.{Leaves, Outcome, Parser, word_at}
use Rattle.acsl_postfix.specs.declared.operation.Operation.{Operation}
use Rattle.acsl_postfix.specs.Coders.{State, Coded, Coder, and_then, refuse, coded, lifted, expect, take_if, word_of}
use Rattle.acsl_postfix.specs.Forms.{Form}

abbrev pub at_state : List Operation → Leaves → State
at_state ops ts = record { operations = ops; leaves = ts }

abbrev pub done : {A : Type 0} → A → Unit {0}
done a = tt

-- the reader does what the parser does, makes this of the tree, and adds the tree's form
abbrev pub Agrees : {A S : Type 0} → Parser A → Coder S → (A → S) → (A → Form) → Type 0
Agrees p c made onto = (ops : List Operation) (ts : Leaves) → c (at_state ops ts) ≡ coded made onto ops (p ts)

-- one step, and what follows it
pub step : {A B S T : Type 0} (made : A → S) (onto : A → Form) (made_next : B → T) (onto_next : B → Form) (whole ops : List Operation) (o : Outcome A) (c : Coded S) (g : S → Coder T) (k : A → Parser B)
    → c ≡ coded made onto ops o
    → ((a : A) (rest : Leaves) → o ≡ Some (a, rest) → g (made a) (at_state (onto a ops) rest) ≡ coded made_next onto_next whole (k a rest))
    → and_then c g ≡ coded made_next onto_next whole (parsing.and_then o k)
step made onto made_next onto_next whole ops None c g k e h = ap (λ c. and_then c g) e
step made onto made_next onto_next whole ops (Some p) c g k e h = ap (λ c. and_then c g) e ∙ h p.0 p.1 refl

-- a token, and what follows it
pub token : {B T : Type 0} (made_next : B → T) (onto_next : B → Form) (whole ops : List Operation) (test : Word → Bool) (ts : Leaves) (g : Leaf → Coder T) (k : Leaf → Parser B)
    → ((a : Leaf) (rest : Leaves) → g a (at_state ops rest) ≡ coded made_next onto_next whole (k a rest))
    → and_then (take_if test (at_state ops ts)) g ≡ coded made_next onto_next whole (parsing.and_then (parsing.take_if test ts) k)
unfolding lifted
token made_next onto_next whole ops test ts g k h = step (λ a. a) (λ a ops. ops) made_next onto_next whole ops (parsing.take_if test ts) _ g k refl (λ a rest e. h a rest)

-- where nothing may nest, the parser finds nothing
pub where_nested : {A S : Type 0} (made : A → S) (onto : A → Form) (ops : List Operation) (n : Bool) (p : Coder S) (s : State) (o : Outcome A)
    → (n ≡ true → p s ≡ coded made onto ops o) → (n ≡ false → o ≡ None) → cond n p refuse s ≡ coded made onto ops o
where_nested made onto ops true p s o h i = h refl
where_nested made onto ops false p s o h i = sym (ap (coded made onto ops) (i refl))

pub refused_then : {A B : Type 0} (o : Outcome A) (k : A → Parser B) → ((a : A) (rest : Leaves) → k a rest ≡ None) → parsing.and_then o k ≡ None
refused_then None k h = refl
refused_then (Some p) k h = h p.0 p.1

pub refused_first : {A B : Type 0} (o : Outcome A) (k : A → Parser B) → o ≡ None → parsing.and_then o k ≡ None
refused_first o k e = ap (λ o. parsing.and_then o k) e

pub bind_assoc : {A B C : Type 0} (o : Outcome A) (f : A → Parser B) (g : B → Parser C) → parsing.and_then (parsing.and_then o f) g ≡ parsing.and_then o (λ a rest. parsing.and_then (f a rest) g)
bind_assoc None f g = refl
bind_assoc (Some p) f g = refl

pub bind_same : {A B : Type 0} (o : Outcome A) {f g : A → Parser B} → ((a : A) (rest : Leaves) → f a rest ≡ g a rest) → parsing.and_then o f ≡ parsing.and_then o g
bind_same None h = refl
bind_same (Some p) h = h p.0 p.1

pub coder_assoc : {A B C : Type 0} (o : Coded A) (f : A → Coder B) (g : B → Coder C) → and_then (and_then o f) g ≡ and_then o (λ a rest. and_then (f a rest) g)
coder_assoc None f g = refl
coder_assoc (Some p) f g = refl

-- ---- a token that passes a test

pub takes_what_passes : (test : Word → Bool) (s : State) → test (word_of s) ≡ true → take_if test s ≡ expect (word_of s) s
unfolding lifted word_at parsing.take_if
takes_what_passes test s h = of s.operations s.leaves h
  where
    of : (ops : List Operation) (ts : Leaves) → test (word_at ts) ≡ true → lifted (parsing.take_if test) (at_state ops ts) ≡ lifted (parsing.take_if (same (word_at ts))) (at_state ops ts)
    of ops [] h = refl
    of ops (t ∷ ts) h = taken (test t.word) h ∙ sym (taken (same t.word t.word) (same_word t.word))
      where
        taken : (b : Bool) → b ≡ true → coded {A = Leaf} {S = Leaf} (λ a. a) (λ a ops. ops) ops (cond b (Some (t, ts)) None) ≡ Some (t, at_state ops ts)
        taken true e = refl
        taken false e = cc

        same_word : (x : Word) → same x x ≡ true
        same_word x = grind (arith, nat_tests)

pub refuses_what_fails : (test : Word → Bool) (s : State) → test (word_of s) ≡ false → take_if test s ≡ None
unfolding lifted word_at parsing.take_if
refuses_what_fails test s h = of s.operations s.leaves h
  where
    of : (ops : List Operation) (ts : Leaves) → test (word_at ts) ≡ false → lifted (parsing.take_if test) (at_state ops ts) ≡ None
    of ops [] h = refl
    of ops (t ∷ ts) h = failed (test t.word) h
      where
        failed : (b : Bool) → b ≡ false → coded {A = Leaf} {S = Leaf} (λ a. a) (λ a ops. ops) ops (cond b (Some (t, ts)) None) ≡ None
        failed true e = cc
        failed false e = refl
