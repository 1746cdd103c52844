-- The sizes of a parameter without name: the parser gives a tree exactly where one stands.
use Rattle.std.proofs.Common.{◌≡◌, ℕ, zero, suc, ◌+◌, ◌-◌, ◌<◌, ◌≤◌, ltb, Bool, ◌&&◌, Some, refl, sym, ap, subst, ◌∙◌, ⊎_elim, arith}
use Rattle.std.proofs.lemmas.Bool.{ltb-true, lt-ltb}
use Rattle.c_words.specs.declared.word.Word.{Word}
use Rattle.c_words.specs.declared.word.Word.TheVariants as w
use Rattle.c_words.specs.declared.word.Leaf.{Leaf}
use Rattle.c_grammar.specs.declared.expression.Choice.{Choice}
use Rattle.c_grammar.specs.declared.declaration.Sizes.{Sizes}
use Rattle.c_grammar.specs.declared.declaration.Sizes.TheVariants as z
use Rattle.c_words.specs.Words.{same}
use Rattle.c_words.specs.Written.{◌then◌, one, one_of, Takes}
use Rattle.c_grammar.specs.Expressions.{choice}
use Rattle.c_grammar.specs.Declarations.{array_of, sizes}
use Rattle.c_words.specs.Parsing.{Leaves, and_then, word_at, after, take_if, expect}
use Rattle.c_words.proofs.Taking.{Takes-then, then-Takes, Takes-nested, nested-Takes, both, second_of_both}
use Rattle.c_words.proofs.Reading.{finish, after-one, word_is, bind_ok, gives_bind, chosen, choose, refuse_test, Sound, Complete, Ends, take_if-takes, take_if-gives, take_if-word}
use Rattle.c_expressions.specs.ExpressionReading.{inner_at}
use Rattle.c_declarations.specs.DeclaratorReading.{goes_on_declarator}
use Rattle.c_declarations.specs.ParameterReading as read
use Rattle.c_grammar.proofs.DeclaratorShapes.{sizes-Unsized, sizes-First, sizes-More, sizes_cases}
use Rattle.c_expressions.proofs.ExpressionLaws.{exact}
use Rattle.c_declarations.specs.Brackets.{bracketed}
use Rattle.c_declarations.proofs.BracketLaws.{bracket_of, bracketed-Sound, bracketed-gives, bracket-second}
use Rattle.c_declarations.proofs.DeclaratorLaws.{array_nesting, first_false, unnested, wider}

-- ---- how sizes begin

sizes-begin : (j : ℕ) (k : ℕ) (a : Sizes) (ts rest : Leaves) → (sizes a).nesting < j → Takes k ts (sizes a) rest → word_at ts ≡ w.LeftBracket
unfolding array_of
sizes-begin zero k a ts rest deep h = absurd (omega (arith, deep))
sizes-begin (suc j) k a ts rest deep h = sizes_cases (λ a. (sizes a).nesting < suc j → Takes k ts (sizes a) rest → word_at ts ≡ w.LeftBracket)
    (λ l r deep h. word_is w.LeftBracket l (then-Takes (subst (λ v. Takes k ts v rest) (sizes-Unsized l r) h)).first)
    (λ l s r deep h. word_is w.LeftBracket l (then-Takes (subst (λ v. Takes k ts v rest) (sizes-First l s r) h)).first)
    (λ x l s r deep h.
    let t = then-Takes (subst (λ v. Takes k ts v rest) (sizes-More x l s r) h) in
    let less : (sizes x).nesting < (sizes (z.More x l s r)).nesting = subst (λ v. (sizes x).nesting < v.nesting) (sym (sizes-More x l s r)) (array_nesting (sizes x) l (choice s) r) in
    sizes-begin j k x ts t.mid (omega (arith, deep, less)) (unnested t.first))
    a deep h

pub sizes-word : {k : ℕ} {ts rest : Leaves} (a : Sizes) → Takes k ts (sizes a) rest → word_at ts ≡ w.LeftBracket
sizes-word {k = k} {ts = ts} {rest = rest} a h = sizes-begin (suc (sizes a).nesting) k a ts rest (omega arith) h

-- ---- one level

module _ (n : ℕ) where
  took : (test : Word → Bool) (ts : Leaves) (t : Leaf) (rest : Leaves) → take_if test ts ≡ Some (t, rest) → Takes (suc n) ts (one_of test t) rest
  took = take_if-takes (suc n) (omega arith)

  -- ---- soundness

  first_size-takes : (ts : Leaves) (a : Sizes) (rest : Leaves) → read.first_size n ts ≡ Some (a, rest) → Takes (suc n) ts (sizes a) rest
  unfolding read.first_size read.empty_size read.some_size
  first_size-takes ts a rest h = ⊎_elim
      (λ q.
      let l = bind_ok (expect w.LeftBracket ts) _ a rest q.1 in
      let r = bind_ok (expect w.RightBracket l.mid) _ a rest l.second in
      finish sizes (sizes-Unsized l.value r.value) r.second (Takes-then (took _ _ _ _ l.first) (took _ _ _ _ r.first)))
      (λ q.
      let b = bind_ok (bracketed (inner_at n).choice ts) _ a rest q.1 in
      let x = b.value in
      finish sizes (sizes-First x.left x.size x.right) b.second ((bracketed-Sound n (inner_at n).choice (exact n).choice_sound).takes ts x b.mid b.first))
      (chosen (same w.RightBracket (word_at (after ts))) _ _ ts _ h)

  next_size-takes : (found : Sizes) (ts mid : Leaves) (a : Sizes) (rest : Leaves) → Takes (suc n) ts (sizes found) mid → (sizes found).nesting < n → read.next_size n found mid ≡ Some (a, rest)
      → Takes (suc n) ts (sizes a) rest
  unfolding read.next_size array_of
  next_size-takes found ts mid a rest known fits h =
      let b = bind_ok (bracketed (inner_at n).choice mid) _ a rest h in
      let x = b.value in
      let front : Takes n ts (sizes found) mid = record { spelled = known.spelled; levelled = known.levelled; below = fits } in
      finish sizes (sizes-More found x.left x.size x.right) b.second
      (Takes-then (Takes-nested front) ((bracketed-Sound n (inner_at n).choice (exact n).choice_sound).takes mid x b.mid b.first))

  sizes_from-takes : (m : ℕ) (found : Sizes) (ts mid : Leaves) (a : Sizes) (rest : Leaves) → Takes (suc n) ts (sizes found) mid → read.sizes_from n m found mid ≡ Some (a, rest) → Takes (suc n) ts (sizes a) rest
  unfolding read.sizes_from
  sizes_from-takes zero found ts mid a rest known h = finish sizes refl h known
  sizes_from-takes (suc m) found ts mid a rest known h = ⊎_elim
      (λ q.
      let x = bind_ok (read.next_size n found mid) _ a rest q.1 in
      sizes_from-takes m x.value ts x.mid a rest (next_size-takes found ts mid x.value x.mid known (ltb-true _ _ (second_of_both _ _ q.0)) x.first) x.second)
      (λ q. finish sizes refl q.1 known)
      (chosen (same w.LeftBracket (word_at mid) && ltb (sizes found).nesting n) _ _ mid _ h)

  -- ---- completeness

  -- the parser, having read all of it, has some turns left
  record Reaches (ts : Leaves) (a : Sizes) (mid : Leaves) : Type 0 where
    pub turns : ℕ
    pub few : turns ≤ (sizes a).nesting
    pub reads : (m : ℕ) → and_then (read.first_size n ts) (read.sizes_from n (turns + m)) ≡ read.sizes_from n m a mid

  at_first : (a : Sizes) (ts mid : Leaves) → read.first_size n ts ≡ Some (a, mid) → Reaches ts a mid
  at_first a ts mid h = record { turns = 0; few = omega arith; reads = λ m. let e : 0 + m ≡ m = omega arith in ap (λ q. and_then (read.first_size n ts) (read.sizes_from n q)) e ∙ gives_bind _ h refl }

  unsized-gives : (l r : Leaf) (ts mid : Leaves) → Takes (suc n) ts (one w.LeftBracket l then one w.RightBracket r) mid → read.first_size n ts ≡ Some (z.Unsized l r, mid)
  unfolding read.first_size read.empty_size
  unsized-gives l r ts mid h =
      let s = then-Takes h in
      choose (same w.RightBracket (word_at (after ts))) _ _ ts (ap (λ x. same w.RightBracket (word_at x)) (after-one (same w.LeftBracket) l s.first) ∙ take_if-word (same w.RightBracket) r s.second)
      ∙ gives_bind _ (take_if-gives (same w.LeftBracket) l s.first) (gives_bind _ (take_if-gives (same w.RightBracket) r s.second) refl)

  first-gives : (l : Leaf) (s : Choice) (r : Leaf) (ts mid : Leaves) → Takes (suc n) ts (bracket_of l s r) mid → read.first_size n ts ≡ Some (z.First l s r, mid)
  unfolding read.first_size read.some_size
  first-gives l s r ts mid h =
      refuse_test (same w.RightBracket (word_at (after ts))) _ _ ts (bracket-second l s r ts mid h)
      ∙ gives_bind _ (bracketed-gives n (inner_at n).choice (exact n).choice_complete l s r ts mid h) refl

  next-gives : (x : Sizes) (l : Leaf) (s : Choice) (r : Leaf) (mid rest : Leaves) → Takes (suc n) mid (bracket_of l s r) rest → read.next_size n x mid ≡ Some (z.More x l s r, rest)
  unfolding read.next_size
  next-gives x l s r mid rest h = gives_bind _ (bracketed-gives n (inner_at n).choice (exact n).choice_complete l s r mid rest h) refl

  reaches : (j : ℕ) (a : Sizes) (ts mid : Leaves) → (sizes a).nesting < j → Takes (suc n) ts (sizes a) mid → Reaches ts a mid
  unfolding array_of read.sizes_from
  reaches zero a ts mid deep h = absurd (omega (arith, deep))
  reaches (suc j) a ts mid deep h = sizes_cases (λ a. (sizes a).nesting < suc j → Takes (suc n) ts (sizes a) mid → Reaches ts a mid)
      (λ l r deep h. at_first (z.Unsized l r) ts mid (unsized-gives l r ts mid (subst (λ v. Takes (suc n) ts v mid) (sizes-Unsized l r) h)))
      (λ l s r deep h. at_first (z.First l s r) ts mid (first-gives l s r ts mid (subst (λ v. Takes (suc n) ts v mid) (sizes-First l s r) h)))
      (λ x l s r deep h.
      let t = then-Takes (subst (λ v. Takes (suc n) ts v mid) (sizes-More x l s r) h) in
      let less : (sizes x).nesting < (sizes (z.More x l s r)).nesting = subst (λ v. (sizes x).nesting < v.nesting) (sym (sizes-More x l s r)) (array_nesting (sizes x) l (choice s) r) in
      let front = nested-Takes t.first in
      let i = reaches j x ts t.mid (omega (arith, deep, less)) (wider front) in
      record {
        turns = i.turns + 1;
        few = omega (arith, i.few, less);
        reads = λ m.
            let e : i.turns + 1 + m ≡ i.turns + suc m = omega arith in
            ap (λ q. and_then (read.first_size n ts) (read.sizes_from n q)) e
            ∙ i.reads (suc m)
            ∙ choose (same w.LeftBracket (word_at t.mid) && ltb (sizes x).nesting n) _ _ t.mid (both _ _ (take_if-word (same w.LeftBracket) l (then-Takes t.second).first) (lt-ltb _ _ front.below))
            ∙ gives_bind _ (next-gives x l s r t.mid mid t.second) refl;
      })
      a deep h

  sizes_end : (m : ℕ) (a : Sizes) (rest : Leaves) → Ends goes_on_declarator rest → read.sizes_from n m a rest ≡ Some (a, rest)
  unfolding read.sizes_from
  sizes_end zero a rest end = refl
  sizes_end (suc m) a rest end = refuse_test (same w.LeftBracket (word_at rest) && ltb (sizes a).nesting n) _ _ rest (first_false _ _ end.ends)

-- ---- every level

pub sizes-Sound : (k : ℕ) → Sound k (read.sizes_at k) sizes
unfolding read.sizes_at
sizes-Sound zero = record { takes = λ ts a rest h. cc }
sizes-Sound (suc n) = record {
  takes = λ ts a rest h.
      let x = bind_ok (read.first_size n ts) _ a rest h in
      sizes_from-takes n n x.value ts x.mid a rest (first_size-takes n ts x.value x.mid x.first) x.second;
}

pub sizes-Complete : (k : ℕ) → Complete k (read.sizes_at k) sizes goes_on_declarator
unfolding read.sizes_at
sizes-Complete zero = record { gives = λ ts a rest h end. absurd (omega (arith, h.below)) }
sizes-Complete (suc n) = record {
  gives = λ ts a rest h end.
      let r = reaches n (suc (sizes a).nesting) a ts rest (omega arith) h in
      let e : n ≡ r.turns + (n - r.turns) = omega (arith, r.few, h.below) in
      ap (λ q. and_then (read.first_size n ts) (read.sizes_from n q)) e ∙ r.reads (n - r.turns) ∙ sizes_end n (n - r.turns) a rest end;
}
