-- How what a parser takes is made of what its parts take, and the steps of a parser.
use Rattle.std.proofs.Common.{◌≡◌, ℕ, ◌+◌, ◌-◌, ◌<◌, ◌≤◌, ◌==◌, Bool, true, false, cond, if◌then◌else◌, List, [], ◌∷◌, ◌++◌, map, get_or, Option, Some, None, refl, sym, ap, subst, ◌∙◌, ◌⊎◌, inl, inr, append_assoc, ℤ, pos, arith}
use Rattle.std.specs.Fmt.{signed_decimal}
use Rattle.c_parser.proofs.FirstForm.NumberFacts.{number_of-some}
use Rattle.std.proofs.lemmas.Bool.{and_parts, eqb-true}
use Rattle.std.proofs.lemmas.Bool.Decides.{nat_tests}
use Rattle.std.proofs.lemmas.Slice.Eq.{bytes_eq-Decides}
use Rattle.std.specs.Str.{bytes_eq}
use Rattle.c_lexer.specs.declared.token.TokenKind.{TokenKind}
use Rattle.c_lexer.specs.declared.token.TokenKind.TheVariants as kind
use Rattle.c_lexer.specs.declared.token.IntSuffix.TheVariants as suffix
use Rattle.c_parser.specs.declared.first_form.fixed.Fixed.{Fixed}
use Rattle.c_parser.specs.FirstForm.Spelling.{Word, named, number as number_word}
use Rattle.c_parser.specs.FirstForm.FixedWords.{fixed_word, kind_number, same_kind, is_fixed, is_name_kind, is_plain_number}
use Rattle.c_parser.specs.FirstForm.Reading.{Left, Outcome, Parser, and_then, guard, known, first_of, take_word, expect, expect_all, name, number, number_of, spend}

-- these words stand first, this many declarations, functions and statements are counted, and the rest is left
pub record Takes (s : Left) (ws : List Word) (cost : ℕ) (rest : Left) : Type 0 where
  pub words : s.words ≡ ws ++ rest.words
  pub budget : s.budget ≡ cost + rest.budget

-- where it begins
abbrev pub before : List Word → ℕ → Left → Left
before ws cost rest = record { words = ws ++ rest.words; budget = cost + rest.budget }

pub Takes-begins : {s rest : Left} {ws : List Word} {cost : ℕ} → Takes s ws cost rest → s ≡ before ws cost rest
Takes-begins h = λ i. record { words = h.words i; budget = h.budget i }

pub Takes-none : (s : Left) → Takes s [] 0 s
Takes-none s = record { words = refl; budget = omega arith }

infixr 10 ◌then◌
pub ◌then◌ : {s mid rest : Left} {ws vs : List Word} {c d : ℕ} → Takes s ws c mid → Takes mid vs d rest → Takes s (ws ++ vs) (c + d) rest
◌then◌ {rest = rest} {ws = ws} {vs = vs} h i = record {
  words = h.words ∙ ap (λ r. ws ++ r) i.words ∙ sym (append_assoc ws vs rest.words);
  budget = omega (arith, h.budget, i.budget);
}

-- ---- steps of a parser
pub record Bound {A B : Type 0} (o : Outcome A) (f : A → Parser B) (b : B) (rest : Left) : Type 0 where
  pub value : A
  pub mid : Left
  pub first : o ≡ Some (value, mid)
  pub second : f value mid ≡ Some (b, rest)

pub bind_ok : {A B : Type 0} (o : Outcome A) (f : A → Parser B) (b : B) (rest : Left) → and_then o f ≡ Some (b, rest) → Bound o f b rest
bind_ok (Some p) f b rest h = record { value = p.0; mid = p.1; first = refl; second = h }
bind_ok None f b rest h = cc

pub gives_bind : {A B : Type 0} {o : Outcome A} {a : A} {mid : Left} (f : A → Parser B) {r : Outcome B} → o ≡ Some (a, mid) → f a mid ≡ r → and_then o f ≡ r
gives_bind f e h = ap (λ o. and_then o f) e ∙ h

pub same_pair : {A B : Type 0} {a c : A} {b d : B} → ◌≡◌ {A = Option (A × B)} (Some (a, b)) (Some (c, d)) → (a ≡ c) × (b ≡ d)
same_pair {A} {B} {a = a} {c = c} {b = b} {d = d} h = let e : ◌≡◌ {A = A × B} (a, b) (c, d) = cc in (ap (λ p. p.0) e, ap (λ p. p.1) e)

-- which way a test went
pub chosen : {X : Type 0} (b : Bool) (x y z : X) → cond b x y ≡ z → ((b ≡ true) × (x ≡ z)) ⊎ ((b ≡ false) × (y ≡ z))
chosen true x y z h = inl (refl, h)
chosen false x y z h = inr (refl, h)

pub guard-passes : (b : Bool) (s rest : Left) (t : Unit {0}) → guard b s ≡ Some (t, rest) → (b ≡ true) × (s ≡ rest)
guard-passes true s rest t h = (refl, (same_pair h).1)
guard-passes false s rest t h = cc

pub known-gives : {A : Type 0} (o : Option A) (s rest : Left) (a : A) → known o s ≡ Some (a, rest) → (o ≡ Some a) × (s ≡ rest)
known-gives None s rest a h = cc
known-gives (Some b) s rest a h = let e = same_pair h in (ap Some e.0, e.1)

-- ---- one word
first_of-takes : (ws : List Word) (budget : ℕ) (w : Word) (rest : Left) → first_of ws budget ≡ Some (w, rest) → Takes (record { words = ws; budget = budget }) (w ∷ []) 0 rest
first_of-takes [] budget w rest h = cc
first_of-takes (v ∷ ws) budget w rest h =
    let e = same_pair h in
    subst (λ x. Takes (record { words = v ∷ ws; budget = budget }) (x ∷ []) 0 rest) e.0
    (subst (λ r. Takes (record { words = v ∷ ws; budget = budget }) (v ∷ []) 0 r) e.1 (record { words = refl; budget = omega arith }))

pub take_word-takes : (s : Left) (w : Word) (rest : Left) → take_word s ≡ Some (w, rest) → Takes s (w ∷ []) 0 rest
unfolding take_word
take_word-takes s w rest h = first_of-takes s.words s.budget w rest h

-- a test of the word that is taken
pub tested_word : {A : Type 0} (test : Word → Bool) (f : Word → Parser A) (s rest : Left) (a : A) → and_then (take_word s) (λ w r. and_then (guard (test w) r) (λ _. f w)) ≡ Some (a, rest)
    → (w : Word) × (mid : Left) × Takes s (w ∷ []) 0 mid × (test w ≡ true) × (f w mid ≡ Some (a, rest))
tested_word test f s rest a h =
    let t = bind_ok (take_word s) _ a rest h in
    let g = bind_ok (guard (test t.value) t.mid) _ a rest t.second in
    let p = guard-passes (test t.value) t.mid g.mid g.value g.first in
    (t.value, t.mid, take_word-takes s t.value t.mid t.first, p.0, ap (f t.value) p.1 ∙ g.second)

kinds : List TokenKind
kinds = kind.Name ∷ kind.Keyword ∷ kind.Punctuation ∷ kind.Backslash ∷ kind.Number suffix.Plain ∷ kind.Number suffix.U ∷ kind.Number suffix.L ∷ kind.Number suffix.UL
    ∷ kind.Character ∷ kind.Percent ∷ kind.Text ∷ kind.Meta ∷ kind.Ghost ∷ kind.Assert ∷ []

numbered : (a : TokenKind) → get_or kinds (kind_number a) kind.Name ≡ a
unfolding kinds
numbered kind.Name = refl
numbered kind.Keyword = refl
numbered kind.Punctuation = refl
numbered kind.Backslash = refl
numbered (kind.Number suffix.Plain) = refl
numbered (kind.Number suffix.U) = refl
numbered (kind.Number suffix.L) = refl
numbered (kind.Number suffix.UL) = refl
numbered kind.Character = refl
numbered kind.Percent = refl
numbered kind.Text = refl
numbered kind.Meta = refl
numbered kind.Ghost = refl
numbered kind.Assert = refl

same_kind-is : (a b : TokenKind) → same_kind a b ≡ true → a ≡ b
same_kind-is a b h = let e = eqb-true (kind_number a) (kind_number b) h in sym (numbered a) ∙ ap (λ n. get_or kinds n kind.Name) e ∙ numbered b

same_word : (v w : Word) → v.kind ≡ w.kind → v.bytes ≡ w.bytes → v ≡ w
same_word v w p q = λ i. record { kind = p i; bytes = q i }

is_fixed-is : (f : Fixed) (w : Word) → is_fixed f w ≡ true → w ≡ fixed_word f
unfolding is_fixed
is_fixed-is f w h =
    let parts = and_parts (same_kind (fixed_word f).kind w.kind) (bytes_eq (fixed_word f).bytes w.bytes) h in
    sym (same_word (fixed_word f) w (same_kind-is (fixed_word f).kind w.kind parts.0) ((bytes_eq-Decides (fixed_word f).bytes w.bytes).0 parts.1))

pub expect-takes : (f : Fixed) (s rest : Left) (t : Unit {0}) → expect f s ≡ Some (t, rest) → Takes s (fixed_word f ∷ []) 0 rest
unfolding expect
expect-takes f s rest t h =
    let w = bind_ok (take_word s) _ t rest h in
    let p = guard-passes (is_fixed f w.value) w.mid rest t w.second in
    subst (λ v. Takes s (v ∷ []) 0 rest) (is_fixed-is f w.value p.0) (subst (λ r. Takes s (w.value ∷ []) 0 r) p.1 (take_word-takes s w.value w.mid w.first))

pub expect_all-takes : (fs : List Fixed) (s rest : Left) (t : Unit {0}) → expect_all fs s ≡ Some (t, rest) → Takes s (map fixed_word fs) 0 rest
unfolding expect_all
expect_all-takes [] s rest t h = subst (λ r. Takes s [] 0 r) (same_pair h).1 (Takes-none s)
expect_all-takes (f ∷ fs) s rest t h =
    let w = bind_ok (expect f s) _ t rest h in
    expect-takes f s w.mid w.value w.first then expect_all-takes fs w.mid rest t w.second

name_kind : (k : TokenKind) → is_name_kind k ≡ true → k ≡ kind.Name
name_kind kind.Name h = refl
name_kind _ h = cc

pub name-takes : (s rest : Left) (x : List ℕ) → name s ≡ Some (x, rest) → Takes s (named x ∷ []) 0 rest
unfolding name
name-takes s rest x h =
    let t = tested_word (λ w. is_name_kind w.kind) (λ w r. Some (w.bytes, r)) s rest x h in
    let e = same_pair t.4 in
    let word : t.0 ≡ named x = same_word t.0 (named x) (name_kind t.0.kind t.3) e.0 in
    subst (λ v. Takes s (v ∷ []) 0 rest) word (subst (λ r. Takes s (t.0 ∷ []) 0 r) e.1 t.2)

plain_kind : (k : TokenKind) → is_plain_number k ≡ true → k ≡ kind.Number suffix.Plain
plain_kind (kind.Number suffix.Plain) h = refl
plain_kind _ h = cc

-- a number from 0 to the greatest that C's `int` has
pub record IsSmall (n : ℤ) : Type 0 where
  pub value : ℕ
  pub is : n ≡ pos value
  pub small : value ≤ 2147483647

pub number-takes : (s rest : Left) (n : ℤ) → number s ≡ Some (n, rest) → Takes s (number_word (signed_decimal n) ∷ []) 0 rest × IsSmall n
unfolding number
number-takes s rest n h =
    let t = tested_word (λ w. is_plain_number w.kind) (λ w. known (number_of w.bytes)) s rest n h in
    let k = known-gives (number_of t.0.bytes) t.1 rest n t.4 in
    let m = number_of-some t.0.bytes n k.0 in
    let word : t.0 ≡ number_word (signed_decimal n) = same_word t.0 (number_word (signed_decimal n)) (plain_kind t.0.kind t.3) (m.3 ∙ sym (ap signed_decimal m.1)) in
    (subst (λ v. Takes s (v ∷ []) 0 rest) word (subst (λ r. Takes s (t.0 ∷ []) 0 r) k.1 t.2), record { value = m.0; is = m.1; small = m.2 })

-- ---- the count
spent : (s rest : Left) (t : Unit {0}) (b : Bool) → (s.budget == 0) ≡ b → cond {A = Outcome (Unit {0})} b None (Some (tt, record { words = s.words; budget = s.budget - 1 })) ≡ Some (t, rest) → Takes s [] 1 rest
spent s rest t true e h = cc
spent s rest t false e h =
    let some : 0 < s.budget = grind (arith, nat_tests) in
    subst (λ r. Takes s [] 1 r) (same_pair h).1 (record { words = refl; budget = omega arith })

pub spend-takes : (s rest : Left) (t : Unit {0}) → spend s ≡ Some (t, rest) → Takes s [] 1 rest
unfolding spend
spend-takes s rest t h = spent s rest t (s.budget == 0) refl h

pub spend-gives : (ws : List Word) (n : ℕ) → spend (record { words = ws; budget = 1 + n }) ≡ Some (tt, record { words = ws; budget = n })
unfolding spend
spend-gives ws n =
    let test : ((1 + n) == 0) ≡ false = grind (arith, nat_tests) in
    let one : 1 + n - 1 ≡ n = omega arith in
    rw (test, one) refl
