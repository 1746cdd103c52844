-- Declarators: the parser gives a tree exactly where one stands.
use Rattle.std.proofs.Common.{◌≡◌, ℕ, zero, suc, ◌+◌, ◌-◌, ◌<◌, ◌≤◌, ltb, Bool, true, false, ◌||◌, ◌&&◌, not, List, [], ◌∷◌, ◌++◌, Some, refl, sym, ap, ap₂, subst, ◌∙◌, ⊎_elim, append_assoc, append-nil, arith}
use Rattle.std.proofs.lemmas.Bool.{ltb-true, lt-ltb}
use Rattle.c_words.specs.declared.word.Word.{Word}
use Rattle.c_words.specs.declared.word.Word.TheVariants as w
use Rattle.c_words.specs.declared.word.Leaf.{Leaf}
use Rattle.c_grammar.specs.declared.types.Star.{Star}
use Rattle.c_grammar.specs.declared.expression.Choice.{Choice}
use Rattle.c_grammar.specs.declared.declaration.Declarator.{Declarator}
use Rattle.c_grammar.specs.declared.declaration.Direct.{Direct}
use Rattle.c_grammar.specs.declared.declaration.Direct.TheVariants as d
use Rattle.c_words.specs.Words.{same}
use Rattle.c_words.specs.Written.{Written, ◌then◌, one, one_of, nested, Takes}
use Rattle.c_grammar.specs.Types.{star, stars_before}
use Rattle.c_grammar.specs.Expressions.{choice}
use Rattle.c_grammar.specs.Declarations.{array_of, direct_shape, direct, declarator, is_unsized}
use Rattle.c_words.specs.Parsing.{Leaves, Outcome, Parser, and_then, word_at, after, take_if, expect}
use Rattle.c_words.proofs.Taking.{Takes-then, then-Takes, Takes-nested, nested-Takes, both, first_of_both, second_of_both}
use Rattle.c_words.proofs.Reading.{after-one, at_one, word_is, bind_ok, gives_bind, chosen, choose, refuse_test, same_pair, Sound, Complete, Ends, Starts, take_if-takes, take_if-gives, take_if-word}
use Rattle.c_type_names.specs.TypeReading as types
use Rattle.c_expressions.specs.ExpressionReading.{inner_at, deep, goes_on_choice}
use Rattle.c_declarations.specs.DeclaratorReading as read
use Rattle.c_declarations.specs.DeclaratorReading.{begins_direct, begins_declarator, goes_on_declarator}
use Rattle.c_grammar.proofs.DeclaratorShapes.{shape-Name, shape-Unsized, shape-Paren, shape-Array, direct-Name, direct-Unsized, direct-Paren, direct-Array, declarator-is, unsized-is, direct_cases}
use Rattle.c_type_names.proofs.TypeLaws.{star-Sound, star-Complete, star-word}
use Rattle.c_expressions.proofs.ExpressionLaws.{exact}
use Rattle.c_declarations.specs.Brackets.{bracketed}
use Rattle.c_declarations.proofs.BracketLaws.{bracket_of, bracketed-Sound, bracketed-gives, bracket-second}

-- ---- where nothing may nest

pub deep-inside : {A : Type 0} (n : ℕ) (p : Parser A) (ts : Leaves) (a : A) (rest : Leaves) → deep n p ts ≡ Some (a, rest) → p ts ≡ Some (a, rest)
deep-inside zero p ts a rest h = cc
deep-inside (suc n) p ts a rest h = h

pub deep-gives : {A : Type 0} (n : ℕ) → 0 < n → (p : Parser A) (ts : Leaves) → deep n p ts ≡ p ts
deep-gives zero some p ts = absurd (omega arith)
deep-gives (suc n) some p ts = refl

-- ---- whether the `[ ]` right after the name is empty: only where it may be

abbrev pub Kept : Bool → Bool → Type 0
Kept may found = (found && not may) ≡ false

kept_false : (may : Bool) → Kept may false
kept_false may = refl

kept_true : (may : Bool) → may ≡ true → Kept may true
kept_true true h = refl
kept_true false h = cc

kept_may : (may : Bool) → Kept may true → may ≡ true
kept_may true h = refl
kept_may false h = cc

pub kept_any : (b : Bool) → Kept true b
kept_any true = refl
kept_any false = refl

-- ---- soundness, at one level

record Found (may : Bool) (k : ℕ) (ts : Leaves) (a : Direct) (rest : Leaves) : Type 0 where
  pub takes : Takes k ts (direct a) rest
  pub kept : Kept may (direct_shape a).unsized

-- what was read after the stars that were found
pub record FoundFrom (may : Bool) (k : ℕ) (found : List Star) (ts : Leaves) (a : Declarator) (rest : Leaves) : Type 0 where
  pub more : Declarator
  pub stars : a.stars ≡ found ++ more.stars
  pub rest_is : a.direct ≡ more.direct
  pub takes : Takes k ts (declarator more) rest
  pub kept : Kept may (is_unsized more)

module _ (may : Bool) (n : ℕ) (size : Parser Choice) (inner : Parser Declarator) (size_sound : Sound n size choice)
    (inner_takes : (ts : Leaves) (a : Declarator) (rest : Leaves) → inner ts ≡ Some (a, rest) → Takes n ts (declarator a) rest × Kept may (is_unsized a)) where
  took : (test : Word → Bool) (ts : Leaves) (t : Leaf) (rest : Leaves) → take_if test ts ≡ Some (t, rest) → Takes (suc n) ts (one_of test t) rest
  took = take_if-takes (suc n) (omega arith)

  found_as : (t : Direct) (a : Direct) (ts mid rest : Leaves) → ◌≡◌ {A = Outcome Direct} (Some (t, mid)) (Some (a, rest)) → Takes (suc n) ts (direct t) mid → Kept may (direct_shape t).unsized → Found may (suc n) ts a rest
  found_as t a ts mid rest h takes kept =
      let q = same_pair h in
      subst (λ a. Found may (suc n) ts a rest) q.0 (record { takes = subst (λ r. Takes (suc n) ts (direct t) r) q.1 takes; kept = kept })

  named-takes : (ts : Leaves) (a : Direct) (rest : Leaves) → read.named may n ts ≡ Some (a, rest) → Found may (suc n) ts a rest
  unfolding read.named read.empty_bracket
  named-takes ts a rest h =
      let t = bind_ok (expect w.Name ts) _ a rest h in
      ⊎_elim
      (λ q.
      let front = first_of_both _ _ q.0 in
      let l = bind_ok (expect w.LeftBracket t.mid) _ a rest q.1 in
      let r = bind_ok (expect w.RightBracket l.mid) _ a rest l.second in
      found_as (d.Unsized t.value l.value r.value) a ts r.mid rest r.second
      (subst (λ v. Takes (suc n) ts v r.mid) (sym (direct-Unsized t.value l.value r.value))
      (Takes-then (Takes-nested (take_if-takes n (ltb-true 0 n (second_of_both _ _ front)) _ _ _ _ t.first)) (Takes-then (took _ _ _ _ l.first) (took _ _ _ _ r.first))))
      (subst (λ b. Kept may b) (sym (ap (λ x. x.unsized) (shape-Unsized t.value l.value r.value))) (kept_true may (first_of_both _ _ front))))
      (λ q. found_as (d.Name t.value) a ts t.mid rest q.1
      (subst (λ v. Takes (suc n) ts v t.mid) (sym (direct-Name t.value)) (took _ _ _ _ t.first))
      (subst (λ b. Kept may b) (sym (ap (λ x. x.unsized) (shape-Name t.value))) (kept_false may)))
      (chosen (read.is_empty_bracket may n (word_at t.mid) (word_at (after t.mid))) _ _ t.mid _ t.second)

  parenthesized-takes : (ts : Leaves) (a : Direct) (rest : Leaves) → read.parenthesized inner ts ≡ Some (a, rest) → Found may (suc n) ts a rest
  unfolding read.parenthesized
  parenthesized-takes ts a rest h =
      let l = bind_ok (expect w.LeftParen ts) _ a rest h in
      let x = bind_ok (inner l.mid) _ a rest l.second in
      let r = bind_ok (expect w.RightParen x.mid) _ a rest x.second in
      let i = inner_takes _ _ _ x.first in
      found_as (d.Paren l.value x.value r.value) a ts r.mid rest r.second
      (subst (λ v. Takes (suc n) ts v r.mid) (sym (direct-Paren l.value x.value r.value)) (Takes-then (took _ _ _ _ l.first) (Takes-then (Takes-nested i.0) (took _ _ _ _ r.first))))
      (subst (λ b. Kept may b) (sym (ap (λ x. x.unsized) (shape-Paren l.value x.value r.value))) i.1)

  core_by-takes : (x : Word) (ts : Leaves) (a : Direct) (rest : Leaves) → read.core_by may n inner x ts ≡ Some (a, rest) → Found may (suc n) ts a rest
  core_by-takes w.Name ts a rest h = named-takes ts a rest h
  core_by-takes w.LeftParen ts a rest h = parenthesized-takes ts a rest (deep-inside n _ ts a rest h)
  core_by-takes _ ts a rest h = cc

  array-takes : (found : Direct) (ts mid : Leaves) (a : Direct) (rest : Leaves) → Found may (suc n) ts found mid → (direct found).nesting < n → read.array size found mid ≡ Some (a, rest)
      → Found may (suc n) ts a rest
  unfolding read.array array_of
  array-takes found ts mid a rest known fits h =
      let b = bind_ok (bracketed size mid) _ a rest h in
      let x = b.value in
      let front : Takes n ts (direct found) mid = record { spelled = known.takes.spelled; levelled = known.takes.levelled; below = fits } in
      found_as (d.Array found x.left x.size x.right) a ts b.mid rest b.second
      (subst (λ v. Takes (suc n) ts v b.mid) (sym (direct-Array found x.left x.size x.right))
      (Takes-then (Takes-nested front) ((bracketed-Sound n size size_sound).takes mid x b.mid b.first)))
      (subst (λ b. Kept may b) (sym (ap (λ x. x.unsized) (shape-Array found x.left x.size x.right))) known.kept)

  arrays-takes : (m : ℕ) (found : Direct) (ts mid : Leaves) (a : Direct) (rest : Leaves) → Found may (suc n) ts found mid → read.arrays_from n size m found mid ≡ Some (a, rest) → Found may (suc n) ts a rest
  unfolding read.arrays_from
  arrays-takes zero found ts mid a rest known h = found_as found a ts mid rest h known.takes known.kept
  arrays-takes (suc m) found ts mid a rest known h = ⊎_elim
      (λ q.
      let x = bind_ok (read.array size found mid) _ a rest q.1 in
      arrays-takes m x.value ts x.mid a rest (array-takes found ts mid x.value x.mid known (ltb-true _ _ (second_of_both _ _ q.0)) x.first) x.second)
      (λ q. found_as found a ts mid rest q.1 known.takes known.kept)
      (chosen (same w.LeftBracket (word_at mid) && ltb (direct found).nesting n) _ _ mid _ h)

  direct-takes : (ts : Leaves) (a : Direct) (rest : Leaves) → read.direct may n size inner ts ≡ Some (a, rest) → Found may (suc n) ts a rest
  unfolding read.direct read.core
  direct-takes ts a rest h =
      let x = bind_ok (read.core may n inner ts) _ a rest h in
      arrays-takes n x.value ts x.mid a rest (core_by-takes (word_at ts) ts x.value x.mid x.first) x.second

-- ---- soundness, at every level

stars_one : {k : ℕ} {ts mid rest : Leaves} (s : Star) (x : Declarator) → Takes (suc k) ts (star s) mid → Takes k mid (declarator x) rest → Takes (suc k) ts (declarator (record { stars = s ∷ x.stars; direct = x.direct })) rest
unfolding stars_before
stars_one {k = k} {ts = ts} {mid = mid} {rest = rest} s x first second =
    let y : Declarator = record { stars = s ∷ x.stars; direct = x.direct } in
    subst (λ v. Takes (suc k) ts v rest) (sym (declarator-is y)) (Takes-then first (Takes-nested (subst (λ v. Takes k mid v rest) (declarator-is x) second)))

all_of : (may : Bool) (n : ℕ) (ts : Leaves) (a : Declarator) (rest : Leaves) → FoundFrom may n [] ts a rest → Takes n ts (declarator a) rest × Kept may (is_unsized a)
all_of may n ts a rest i =
    let x = i.more in
    let e : x ≡ a = ap₂ (λ s t. let y : Declarator = record { stars = s; direct = t } in y) (sym i.stars) (sym i.rest_is) in
    (subst (λ a. Takes n ts (declarator a) rest) e i.takes, subst (λ a. Kept may (is_unsized a)) e i.kept)

pub declarator_from-takes : (may : Bool) (k : ℕ) (found : List Star) (ts : Leaves) (a : Declarator) (rest : Leaves) → read.declarator_from may k found ts ≡ Some (a, rest) → FoundFrom may k found ts a rest
unfolding read.declarator_from stars_before
declarator_from-takes may zero found ts a rest h = cc
declarator_from-takes may (suc n) found ts a rest h = ⊎_elim
    (λ q.
    let s = bind_ok (types.star ts) _ a rest (deep-inside n _ ts a rest q.1) in
    let i = declarator_from-takes may n (found ++ s.value ∷ []) s.mid a rest s.second in
    let x = i.more in
    let y : Declarator = record { stars = s.value ∷ x.stars; direct = x.direct } in
    record {
      more = y;
      stars = i.stars ∙ append_assoc found (s.value ∷ []) x.stars;
      rest_is = i.rest_is;
      takes = stars_one s.value x ((star-Sound (suc n) (omega arith)).takes _ _ _ s.first) i.takes;
      kept = subst (λ b. Kept may b) (unsized-is x ∙ sym (unsized-is y)) i.kept;
    })
    (λ q.
    let x = bind_ok (read.direct may n (inner_at n).choice (read.declarator_from may n []) ts) _ a rest q.1 in
    let i = direct-takes may n (inner_at n).choice (read.declarator_from may n []) (exact n).choice_sound (λ ts a rest h. all_of may n ts a rest (declarator_from-takes may n [] ts a rest h)) ts x.value x.mid x.first in
    let y : Declarator = record { stars = []; direct = x.value } in
    let e = same_pair x.second in
    record {
      more = y;
      stars = ap (λ x. x.stars) (sym e.0) ∙ sym (append-nil found);
      rest_is = ap (λ x. x.direct) (sym e.0);
      takes = subst (λ r. Takes (suc n) ts (declarator y) r) e.1 (subst (λ v. Takes (suc n) ts v x.mid) (sym (declarator-is y)) i.takes);
      kept = subst (λ b. Kept may b) (sym (unsized-is y)) i.kept;
    })
    (chosen (same w.Star (word_at ts)) _ _ ts _ h)

-- what the parser gives stands there, and its `[ ]` is empty only where it may be
pub declarator-takes : (may : Bool) (k : ℕ) (ts : Leaves) (a : Declarator) (rest : Leaves) → read.declarator_from may k [] ts ≡ Some (a, rest) → Takes k ts (declarator a) rest × Kept may (is_unsized a)
declarator-takes may k ts a rest h = all_of may k ts a rest (declarator_from-takes may k [] ts a rest h)

-- a declarator that was read nests below the number
pub declarator_below : (may : Bool) (k : ℕ) (ts : Leaves) (a : Declarator) (rest : Leaves) → read.declarator_from may k [] ts ≡ Some (a, rest) → (declarator a).nesting < k
declarator_below may k ts a rest h = (declarator-takes may k ts a rest h).0.below

-- ---- how declarators begin

pub unnested : {k : ℕ} {ts rest : Leaves} {a : Written} → Takes k ts (nested a) rest → Takes k ts a rest
unfolding nested
unnested h = record { spelled = h.spelled; levelled = h.levelled; below = omega (arith, h.below) }

pub wider : {n : ℕ} {ts rest : Leaves} {a : Written} → Takes n ts a rest → Takes (suc n) ts a rest
wider h = record { spelled = h.spelled; levelled = h.levelled; below = omega (arith, h.below) }

pub array_nesting : (a : Written) (l : Leaf) (s : Written) (r : Leaf) → a.nesting < (array_of a l s r).nesting
unfolding array_of ◌then◌ nested
array_nesting a l s r = omega arith

direct-begins : (j : ℕ) (k : ℕ) (a : Direct) (ts rest : Leaves) → (direct a).nesting < j → Takes k ts (direct a) rest → begins_direct (word_at ts) ≡ true
unfolding array_of
direct-begins zero k a ts rest deep h = absurd (omega (arith, deep))
direct-begins (suc j) k a ts rest deep h = direct_cases (λ a. (direct a).nesting < suc j → Takes k ts (direct a) rest → begins_direct (word_at ts) ≡ true)
    (λ t deep h. rw (word_is w.Name t (subst (λ v. Takes k ts v rest) (direct-Name t) h)) refl)
    (λ t l r deep h. rw (word_is w.Name t (unnested (then-Takes (subst (λ v. Takes k ts v rest) (direct-Unsized t l r) h)).first)) refl)
    (λ l x r deep h. rw (word_is w.LeftParen l (then-Takes (subst (λ v. Takes k ts v rest) (direct-Paren l x r) h)).first) refl)
    (λ x l s r deep h.
    let t = then-Takes (subst (λ v. Takes k ts v rest) (direct-Array x l s r) h) in
    let less : (direct x).nesting < (direct (d.Array x l s r)).nesting = subst (λ v. (direct x).nesting < v.nesting) (sym (direct-Array x l s r)) (array_nesting (direct x) l (choice s) r) in
    direct-begins j k x ts t.mid (omega (arith, deep, less)) (unnested t.first))
    a deep h

pub direct-Starts : Starts direct begins_direct
direct-Starts = record { word = λ k ts a rest h. direct-begins (suc (direct a).nesting) k a ts rest (omega arith) h }

or_right : (a b : Bool) → b ≡ true → (a || b) ≡ true
or_right true b h = refl
or_right false b h = h

pub stars-begin : (ss : List Star) (k : ℕ) (a : Direct) (ts rest : Leaves) → Takes k ts (stars_before ss (direct a)) rest → begins_declarator (word_at ts) ≡ true
unfolding stars_before
stars-begin [] k a ts rest h = or_right _ _ (direct-Starts.word k ts a rest h)
stars-begin (s ∷ ss) k a ts rest h = rw (star-word s (then-Takes h).first) refl

pub declarator-Starts : Starts declarator begins_declarator
declarator-Starts = record { word = λ k ts a rest h. stars-begin a.stars k a.direct ts rest (subst (λ v. Takes k ts v rest) (declarator-is a) h) }

-- ---- completeness, at one level

-- what comes after a name, where its `[ ]` isn't empty
abbrev NotEmpty : Leaves → Type 0
NotEmpty ts = (same w.LeftBracket (word_at ts) && same w.RightBracket (word_at (after ts))) ≡ false

second_false : (a b : Bool) → b ≡ false → (a && b) ≡ false
second_false true b h = h
second_false false b h = refl

pub first_false : (a b : Bool) → a ≡ false → (a && b) ≡ false
first_false true b h = cc
first_false false b h = refl

module _ (may : Bool) (n : ℕ) (size : Parser Choice) (inner : Parser Declarator) (size_complete : Complete n size choice goes_on_choice)
    (inner_gives : (ts : Leaves) (a : Declarator) (rest : Leaves) → Takes n ts (declarator a) rest → Kept may (is_unsized a) → Ends goes_on_declarator rest → inner ts ≡ Some (a, rest)) where
  -- the parser, having read all of it, has some turns left
  record Reaches (ts : Leaves) (a : Direct) (mid : Leaves) : Type 0 where
    pub turns : ℕ
    pub few : turns ≤ (direct a).nesting
    pub reads : (m : ℕ) → and_then (read.core may n inner ts) (read.arrays_from n size (turns + m)) ≡ read.arrays_from n size m a mid

  at_core : (a : Direct) (ts mid : Leaves) → read.core may n inner ts ≡ Some (a, mid) → Reaches ts a mid
  at_core a ts mid h = record { turns = 0; few = omega arith; reads = λ m. let e : 0 + m ≡ m = omega arith in ap (λ q. and_then (read.core may n inner ts) (read.arrays_from n size q)) e ∙ gives_bind _ h refl }

  name-gives : (t : Leaf) (ts mid : Leaves) → Takes (suc n) ts (one w.Name t) mid → NotEmpty mid → read.core may n inner ts ≡ Some (d.Name t, mid)
  unfolding read.core read.named
  name-gives t ts mid h apart =
      ap (λ x. read.core_by may n inner x ts) (word_is w.Name t h)
      ∙ gives_bind _ (take_if-gives (same w.Name) t h) (refuse_test (read.is_empty_bracket may n (word_at mid) (word_at (after mid))) _ _ mid (second_false _ _ apart))

  unsized-gives : (t l r : Leaf) (ts mid : Leaves) → Takes (suc n) ts (nested (one w.Name t) then one w.LeftBracket l then one w.RightBracket r) mid → may ≡ true
      → read.core may n inner ts ≡ Some (d.Unsized t l r, mid)
  unfolding read.core read.named read.empty_bracket
  unsized-gives t l r ts mid h allowed =
      let s = then-Takes h in
      let x = then-Takes s.second in
      let name = nested-Takes s.first in
      ap (λ x. read.core_by may n inner x ts) (word_is w.Name t name)
      ∙ gives_bind _ (take_if-gives (same w.Name) t name)
      (choose (read.is_empty_bracket may n (word_at s.mid) (word_at (after s.mid))) _ _ s.mid
      (both _ _ (both _ _ allowed (lt-ltb 0 n (omega (arith, name.below))))
      (both _ _ (take_if-word (same w.LeftBracket) l x.first) (ap (λ x. same w.RightBracket (word_at x)) (after-one (same w.LeftBracket) l x.first) ∙ take_if-word (same w.RightBracket) r x.second)))
      ∙ gives_bind _ (take_if-gives (same w.LeftBracket) l x.first) (gives_bind _ (take_if-gives (same w.RightBracket) r x.second) refl))

  paren-gives : (l : Leaf) (x : Declarator) (r : Leaf) (ts mid : Leaves) → Takes (suc n) ts (one w.LeftParen l then nested (declarator x) then one w.RightParen r) mid → Kept may (is_unsized x)
      → read.core may n inner ts ≡ Some (d.Paren l x r, mid)
  unfolding read.core read.parenthesized
  paren-gives l x r ts mid h kept =
      let s = then-Takes h in
      let y = then-Takes s.second in
      let inside = nested-Takes y.first in
      ap (λ x. read.core_by may n inner x ts) (word_is w.LeftParen l s.first)
      ∙ deep-gives n (omega (arith, inside.below)) _ ts
      ∙ gives_bind _ (take_if-gives (same w.LeftParen) l s.first)
      (gives_bind _ (inner_gives s.mid x y.mid inside kept (at_one w.RightParen r y.second refl)) (gives_bind _ (take_if-gives (same w.RightParen) r y.second) refl))

  array-gives : (x : Direct) (l : Leaf) (s : Choice) (r : Leaf) (mid rest : Leaves) → Takes (suc n) mid (bracket_of l s r) rest → read.array size x mid ≡ Some (d.Array x l s r, rest)
  unfolding read.array
  array-gives x l s r mid rest h = gives_bind _ (bracketed-gives n size size_complete l s r mid rest h) refl

  reaches : (j : ℕ) (a : Direct) (ts mid : Leaves) → (direct a).nesting < j → Takes (suc n) ts (direct a) mid → Kept may (direct_shape a).unsized → NotEmpty mid → Reaches ts a mid
  unfolding array_of read.arrays_from
  reaches zero a ts mid deep h kept apart = absurd (omega (arith, deep))
  reaches (suc j) a ts mid deep h kept apart = direct_cases (λ a. (direct a).nesting < suc j → Takes (suc n) ts (direct a) mid → Kept may (direct_shape a).unsized → Reaches ts a mid)
      (λ t deep h kept. at_core (d.Name t) ts mid (name-gives t ts mid (subst (λ v. Takes (suc n) ts v mid) (direct-Name t) h) apart))
      (λ t l r deep h kept. at_core (d.Unsized t l r) ts mid (unsized-gives t l r ts mid (subst (λ v. Takes (suc n) ts v mid) (direct-Unsized t l r) h)
      (kept_may may (subst (λ b. Kept may b) (ap (λ x. x.unsized) (shape-Unsized t l r)) kept))))
      (λ l x r deep h kept. at_core (d.Paren l x r) ts mid (paren-gives l x r ts mid (subst (λ v. Takes (suc n) ts v mid) (direct-Paren l x r) h)
      (subst (λ b. Kept may b) (ap (λ x. x.unsized) (shape-Paren l x r)) kept)))
      (λ x l s r deep h kept.
      let t = then-Takes (subst (λ v. Takes (suc n) ts v mid) (direct-Array x l s r) h) in
      let less : (direct x).nesting < (direct (d.Array x l s r)).nesting = subst (λ v. (direct x).nesting < v.nesting) (sym (direct-Array x l s r)) (array_nesting (direct x) l (choice s) r) in
      let front = nested-Takes t.first in
      let i = reaches j x ts t.mid (omega (arith, deep, less)) (wider front) (subst (λ b. Kept may b) (ap (λ x. x.unsized) (shape-Array x l s r)) kept) (second_false _ _ (bracket-second l s r t.mid mid t.second)) in
      record {
        turns = i.turns + 1;
        few = omega (arith, i.few, less);
        reads = λ m.
            let e : i.turns + 1 + m ≡ i.turns + suc m = omega arith in
            ap (λ q. and_then (read.core may n inner ts) (read.arrays_from n size q)) e
            ∙ i.reads (suc m)
            ∙ choose (same w.LeftBracket (word_at t.mid) && ltb (direct x).nesting n) _ _ t.mid (both _ _ (take_if-word (same w.LeftBracket) l (then-Takes t.second).first) (lt-ltb _ _ front.below))
            ∙ gives_bind _ (array-gives x l s r t.mid mid t.second) refl;
      })
      a deep h kept

  arrays_end : (m : ℕ) (a : Direct) (rest : Leaves) → Ends goes_on_declarator rest → read.arrays_from n size m a rest ≡ Some (a, rest)
  unfolding read.arrays_from
  arrays_end zero a rest end = refl
  arrays_end (suc m) a rest end = refuse_test (same w.LeftBracket (word_at rest) && ltb (direct a).nesting n) _ _ rest (first_false _ _ end.ends)

  direct-gives : (a : Direct) (ts rest : Leaves) → Takes (suc n) ts (direct a) rest → Kept may (direct_shape a).unsized → Ends goes_on_declarator rest → read.direct may n size inner ts ≡ Some (a, rest)
  unfolding read.direct
  direct-gives a ts rest h kept end =
      let r = reaches (suc (direct a).nesting) a ts rest (omega arith) h kept (first_false _ _ end.ends) in
      let e : n ≡ r.turns + (n - r.turns) = omega (arith, r.few, h.below) in
      ap (λ q. and_then (read.core may n inner ts) (read.arrays_from n size q)) e ∙ r.reads (n - r.turns) ∙ arrays_end (n - r.turns) a rest end

-- ---- completeness, at every level

direct_not_star : (x : Word) → begins_direct x ≡ true → same w.Star x ≡ false
direct_not_star w.Star h = cc
direct_not_star _ h = refl

pub declarator_not_const : (x : Word) → begins_declarator x ≡ true → same w.Const x ≡ false
declarator_not_const w.Const h = cc
declarator_not_const _ h = refl

pub declarator_from-gives : (may : Bool) (k : ℕ) (found : List Star) (ts : Leaves) (ss : List Star) (x : Direct) (rest : Leaves) → Takes k ts (stars_before ss (direct x)) rest → Kept may (direct_shape x).unsized
    → Ends goes_on_declarator rest → read.declarator_from may k found ts ≡ Some (record { stars = found ++ ss; direct = x }, rest)
unfolding read.declarator_from stars_before
declarator_from-gives may zero found ts ss x rest h kept end = absurd (omega (arith, h.below))
declarator_from-gives may (suc n) found ts [] x rest h kept end =
    refuse_test (same w.Star (word_at ts)) _ _ ts (direct_not_star (word_at ts) (direct-Starts.word (suc n) ts x rest h))
    ∙ gives_bind _ (direct-gives may n (inner_at n).choice (read.declarator_from may n []) (exact n).choice_complete
    (λ ts a rest h kept end. declarator_from-gives may n [] ts a.stars a.direct rest (subst (λ v. Takes n ts v rest) (declarator-is a) h) (subst (λ b. Kept may b) (unsized-is a) kept) end)
    x ts rest h kept end)
    (ap (λ ss. let y : Declarator = record { stars = ss; direct = x } in Some (y, rest)) (sym (append-nil found)))
declarator_from-gives may (suc n) found ts (s ∷ ss) x rest h kept end =
    let t = then-Takes h in
    let inside = nested-Takes t.second in
    choose (same w.Star (word_at ts)) _ _ ts (ap (same w.Star) (star-word s t.first))
    ∙ deep-gives n (omega (arith, inside.below)) _ ts
    ∙ gives_bind _ ((star-Complete (suc n)).gives ts s t.mid t.first (record { ends = declarator_not_const (word_at t.mid) (stars-begin ss n x t.mid rest inside) }))
    (declarator_from-gives may n (found ++ s ∷ []) t.mid ss x rest inside kept end)
    ∙ ap (λ ss. let y : Declarator = record { stars = ss; direct = x } in Some (y, rest)) (append_assoc found (s ∷ []) ss)

-- a declarator that stands there, before no `[`, is what the parser gives
pub declarator-gives : (may : Bool) (k : ℕ) (ts : Leaves) (a : Declarator) (rest : Leaves) → Takes k ts (declarator a) rest → Kept may (is_unsized a) → Ends goes_on_declarator rest → read.declarator_from may k [] ts ≡ Some (a, rest)
declarator-gives may k ts a rest h kept end =
    declarator_from-gives may k [] ts a.stars a.direct rest (subst (λ v. Takes k ts v rest) (declarator-is a) h) (subst (λ b. Kept may b) (unsized-is a) kept) end

-- ---- one step of the parser, at a `*`

pub declarator-star : (may : Bool) (n : ℕ) → 1 < n → (found : List Star) (ts : Leaves) → same w.Star (word_at ts) ≡ true
    → read.declarator_from may n found ts ≡ and_then (types.star ts) (λ x. read.declarator_from may (n - 1) (found ++ x ∷ []))
unfolding read.declarator_from
declarator-star may zero some found ts h = absurd (omega arith)
declarator-star may (suc m) some found ts h =
    let e : suc m - 1 ≡ m = omega arith in
    rw e (choose (same w.Star (word_at ts)) _ _ ts h ∙ deep-gives m (omega (arith, some)) _ ts)
