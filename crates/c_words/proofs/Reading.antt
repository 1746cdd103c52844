-- Both directions between a parser and what its trees write.
use Rattle.std.proofs.Common.{◌≡◌, ℕ, zero, suc, ◌+◌, ◌<◌, ◌≤◌, Bool, true, false, ◌||◌, cond, List, [], ◌∷◌, ◌++◌, length, Option, Some, None, refl, sym, ap, ap₂, subst, ◌∙◌, ◌⊎◌, inl, inr, ⊎_elim, append_assoc, append-nil, length-append, arith}
use Rattle.std.proofs.lemmas.Grind.{common_steps}
use Rattle.c_words.specs.declared.word.Word.{Word}
use Rattle.c_words.specs.declared.word.Leaf.{Leaf}
use Rattle.c_words.specs.Words.{same}
use Rattle.c_words.specs.Written.{Written, nothing, ◌then◌, one, one_of, nested, optional, Takes}
use Rattle.c_words.specs.Parsing.{Leaves, Outcome, Parser, and_then, ◌>>=◌, pure, word_at, after, take_if, expect, optional_at}
use Rattle.c_words.proofs.Taking.{Takes-nothing, nothing-Takes, Takes-then, Split, then-Takes, Takes-one, one-Takes, same_is}

-- ---- steps of a parser

pub record Bound {A B : Type 0} (o : Outcome A) (f : A → Parser B) (b : B) (rest : Leaves) : Type 0 where
  pub value : A
  pub mid : Leaves
  pub first : o ≡ Some (value, mid)
  pub second : f value mid ≡ Some (b, rest)

pub bind_ok : {A B : Type 0} (o : Outcome A) (f : A → Parser B) (b : B) (rest : Leaves) → and_then o f ≡ Some (b, rest) → Bound o f b rest
bind_ok (Some p) f b rest h = record { value = p.0; mid = p.1; first = refl; second = h }
bind_ok None f b rest h = cc

pub gives_bind : {A B : Type 0} {o : Outcome A} {a : A} {mid : Leaves} (f : A → Parser B) {r : Outcome B} → o ≡ Some (a, mid) → f a mid ≡ r → and_then o f ≡ r
gives_bind f e h = ap (λ o. and_then o f) e ∙ h

pub first_of_neither : (a b : Bool) → (a || b) ≡ false → a ≡ false
first_of_neither true b h = h
first_of_neither false b h = refl

pub second_of_neither : (a b : Bool) → (a || b) ≡ false → b ≡ false
second_of_neither true b h = cc
second_of_neither false b h = h

pub neither : (a b : Bool) → a ≡ false → b ≡ false → (a || b) ≡ false
neither true b h i = h
neither false b h i = i

-- which way a test went
pub chosen : {S X : Type 0} (b : Bool) (f g : S → X) (s : S) (z : X) → cond b f g s ≡ z → ((b ≡ true) × (f s ≡ z)) ⊎ ((b ≡ false) × (g s ≡ z))
chosen true f g s z h = inl (refl, h)
chosen false f g s z h = inr (refl, h)

pub choose : {S X : Type 0} (b : Bool) (f g : S → X) (s : S) → b ≡ true → cond b f g s ≡ f s
choose true f g s h = refl
choose false f g s h = cc

pub refuse_test : {S X : Type 0} (b : Bool) (f g : S → X) (s : S) → b ≡ false → cond b f g s ≡ g s
refuse_test true f g s h = cc
refuse_test false f g s h = refl

pub same_pair : {A B : Type 0} {a c : A} {b d : B} → ◌≡◌ {A = Option (A × B)} (Some (a, b)) (Some (c, d)) → (a ≡ c) × (b ≡ d)
same_pair {A} {B} {a = a} {c = c} {b = b} {d = d} h = let e : ◌≡◌ {A = A × B} (a, b) (c, d) = cc in (ap (λ p. p.0) e, ap (λ p. p.1) e)

-- ---- the two directions

-- what the parser gives stands there
pub record Sound {A : Type 0} (k : ℕ) (p : Parser A) (f : A → Written) : Type 0 where
  pub takes : (ts : Leaves) (a : A) (rest : Leaves) → p ts ≡ Some (a, rest) → Takes k ts (f a) rest

-- the next word fails the test
pub record Ends (goes_on : Word → Bool) (rest : Leaves) : Type 0 where
  pub ends : goes_on (word_at rest) ≡ false

-- what stands there, before tokens that can't go on with it, is what the parser gives
pub record Complete {A : Type 0} (k : ℕ) (p : Parser A) (f : A → Written) (goes_on : Word → Bool) : Type 0 where
  pub gives : (ts : Leaves) (a : A) (rest : Leaves) → Takes k ts (f a) rest → Ends goes_on rest → p ts ≡ Some (a, rest)

-- each tree begins with a word that passes the test
pub record Starts {A : Type 0} (f : A → Written) (test : Word → Bool) : Type 0 where
  pub word : (k : ℕ) (ts : Leaves) (a : A) (rest : Leaves) → Takes k ts (f a) rest → test (word_at ts) ≡ true

-- ---- one token

pub take_if-takes : (k : ℕ) → 0 < k → (test : Word → Bool) (ts : Leaves) (t : Leaf) (rest : Leaves) → take_if test ts ≡ Some (t, rest) → Takes k ts (one_of test t) rest
unfolding take_if
take_if-takes k some test [] t rest h = cc
take_if-takes k some test (s ∷ ts) t rest h = by_test (test s.word) refl h
  where
    by_test : (b : Bool) → test s.word ≡ b → cond {A = Outcome Leaf} b (Some (s, ts)) None ≡ Some (t, rest) → Takes k (s ∷ ts) (one_of test t) rest
    by_test true e h =
        let q = same_pair h in
        subst (λ x. Takes k (s ∷ ts) (one_of test x) rest) q.0 (subst (λ r. Takes k (s ∷ ts) (one_of test s) r) q.1 (Takes-one k test s ts some e))
    by_test false e h = cc

pub take_if-gives : (test : Word → Bool) (t : Leaf) {k : ℕ} {ts rest : Leaves} → Takes k ts (one_of test t) rest → take_if test ts ≡ Some (t, rest)
unfolding take_if
take_if-gives test t h = let e = one-Takes test t h in rw (e.0, e.1) refl

pub take_if-word : (test : Word → Bool) (t : Leaf) {k : ℕ} {ts rest : Leaves} → Takes k ts (one_of test t) rest → test (word_at ts) ≡ true
unfolding word_at
take_if-word test t h = let e = one-Takes test t h in rw (e.0) (e.1)

-- the last step of a parser, which makes the tree
pub finish : {A : Type 0} {k : ℕ} (f : A → Written) {t a : A} {v : Written} {ts mid rest : Leaves} → f t ≡ v → ◌≡◌ {A = Outcome A} (Some (t, mid)) (Some (a, rest)) → Takes k ts v mid → Takes k ts (f a) rest
finish {k = k} f {v = v} {ts = ts} {rest = rest} same h takes =
    let q = same_pair h in
    subst (λ r. Takes k ts r rest) (sym same ∙ ap f q.0) (subst (λ r. Takes k ts v r) q.1 takes)

pub at_word : {goes_on : Word → Bool} {ts : Leaves} (test : Word → Bool) → ((x : Word) → test x ≡ true → goes_on x ≡ false) → test (word_at ts) ≡ true → Ends goes_on ts
at_word test apart h = record { ends = apart _ h }

pub after-one : (test : Word → Bool) (t : Leaf) {k : ℕ} {ts rest : Leaves} → Takes k ts (one_of test t) rest → after ts ≡ rest
unfolding after
after-one test t h = let e = one-Takes test t h in rw (e.0) refl

pub at_one : {k : ℕ} {goes_on : Word → Bool} {ts rest : Leaves} (a : Word) (t : Leaf) → Takes k ts (one a t) rest → goes_on a ≡ false → Ends goes_on ts
at_one {goes_on = goes_on} a t h not = record { ends = ap goes_on (sym (same_is a _ (take_if-word (same a) t h))) ∙ not }

pub word_is : {k : ℕ} {ts rest : Leaves} (a : Word) (t : Leaf) → Takes k ts (one a t) rest → word_at ts ≡ a
word_is a t h = sym (same_is a _ (take_if-word (same a) t h))

-- ---- a leaf that may be left out

pub optional_at-takes : (k : ℕ) → 0 < k → (word : Word) (ts : Leaves) (a : Option Leaf) (rest : Leaves) → optional_at word ts ≡ Some (a, rest) → Takes k ts (optional (one word) a) rest
unfolding optional_at optional
optional_at-takes k some word ts a rest h = ⊎_elim
    (λ q. let t = bind_ok (expect word ts) _ a rest q.1 in
    finish (optional (one word)) refl t.second (take_if-takes k some (same word) ts t.value t.mid t.first))
    (λ q. finish (optional (one word)) refl q.1 (Takes-nothing k ts some))
    (chosen (same word (word_at ts)) _ _ ts _ h)

pub optional_at-gives : (word : Word) (a : Option Leaf) {k : ℕ} {ts rest : Leaves} → Takes k ts (optional (one word) a) rest → Ends (same word) rest → optional_at word ts ≡ Some (a, rest)
unfolding optional_at optional
optional_at-gives word None {ts = ts} {rest = rest} h end = rw (nothing-Takes h) (refuse_test (same word (word_at rest)) _ _ rest end.ends)
optional_at-gives word (Some t) {ts = ts} {rest = rest} h end =
    choose (same word (word_at ts)) _ _ ts (take_if-word (same word) t h) ∙ gives_bind _ (take_if-gives (same word) t h) refl
