-- Terms and locations: what is written is read.
use Rattle.std.proofs.Common.{◌≡◌, ℕ, zero, suc, ◌+◌, ◌<◌, ◌≤◌, Bool, true, false, ◌||◌, ◌&&◌, List, [], ◌∷◌, ◌++◌, length, Some, refl, ap, ◌∙◌, append_assoc, append-nil, length-append, arith}
use Rattle.std.specs.Prelude.{not, cond}
use Rattle.c_words.specs.declared.word.Word.{Word}
use Rattle.c_words.specs.declared.word.Word.TheVariants as w
use Rattle.c_words.specs.declared.word.Leaf.{Leaf}
use Rattle.c_words.specs.declared.chain.Chain.{Chain}
use Rattle.c_words.specs.declared.chain.Link.{Link}
use Rattle.c_words.specs.Words.{same}
use Rattle.c_words.specs.OperatorWords.{is_product_operator, is_sum_operator}
use Rattle.c_words.specs.Written.{Written, ◌then◌, one, run, links, chain, Takes}
use Rattle.c_words.specs.Parsing.{Leaves, Outcome, Parser, word_at, after, run_at}
use Rattle.c_words.proofs.Taking.{then-Takes, nothing-Takes, one-Takes}
use Rattle.c_words.proofs.Reading.{gives_bind, choose, refuse_test, Complete, Ends, Starts, take_if-gives, take_if-word, after-one, at_one, word_is, first_of_neither, second_of_neither}
use Rattle.c_words.proofs.Runs.{run-Complete}
use Rattle.acsl_grammar.specs.Vocabulary.{is_name, is_constant, is_label, is_event_value, is_unary, is_event}
use Rattle.acsl_grammar.specs.Trees as trees
use Rattle.acsl_grammar.specs.Trees.{Inside, Atom, Name, Constant, Paren, At, EventValue, Suffix, Member, Arrow, Index, Factor, Prefix, Post, Term, Range, FromTo, Location, Object, Objects, Group, InParens, Writes}
use Rattle.acsl_grammar.specs.TermReading as read
use Rattle.acsl_grammar.specs.TermReading.{Either, ATerm, NoTerm, Enclosed, EnclosedPredicate, EnclosedRange, Inner, is_suffix, FactorStart, StartsName, StartsConstant, StartsUnary, StartsParen, StartsAt, factor_start, LiteralStart, StartsEvent, StartsTerm, literal_start, is_event_ahead, start_at, a_term}
use Rattle.acsl_grammar.proofs.EitherLaws.{either, a_term-Complete, terms-Complete}
use Rattle.acsl_grammar.proofs.WordLaws.{name_starts, constant_starts, unary_starts, constant_no_event, unary_no_event, name_literal, constant_literal, unary_literal, goes_on_factor, goes_on_product, goes_on_term, goes_on_any, suffix_no_paren, product_apart, sum_apart}
use Rattle.acsl_grammar.proofs.TermSound.{enclosed, retested}

-- ---- chains

module _ {A : Type 0} (op : Word → Bool) (f : A → Written) (goes_on : Word → Bool) (apart : (y : Word) → op y ≡ true → goes_on y ≡ false) where
  -- an operand ends where the chain goes on or ends
  pub links_end : (ls : List (Link A)) (ts rest : Leaves) → Takes 1 ts (links op f ls) rest → Ends goes_on rest → Ends goes_on ts
  unfolding links
  links_end [] ts rest h end = rw (nothing-Takes h) end
  links_end (l ∷ ls) ts rest h end = record { ends = apart _ (take_if-word op l.operator (then-Takes h).first) }

  pub record FirstPart (ts : Leaves) (a : A) : Type 0 where
    pub mid : Leaves
    pub takes : Takes 1 ts (f a) mid
    pub ends : Ends goes_on mid

  pub first_part : (ts : Leaves) (c : Chain A) (rest : Leaves) → Takes 1 ts (chain op f c) rest → Ends goes_on rest → FirstPart ts c.first
  unfolding chain
  first_part ts c rest h end = let s = then-Takes h in record { mid = s.mid; takes = s.first; ends = links_end c.rest s.mid rest s.second end }

-- each link takes a leaf
pub links_fit : {A : Type 0} (op : Word → Bool) (f : A → Written) (ls : List (Link A)) (ts rest : Leaves) → Takes 1 ts (links op f ls) rest → length ls + length rest ≤ length ts
unfolding links
links_fit op f [] ts rest h = omega (arith, ap length (nothing-Takes h))
links_fit op f (l ∷ ls) ts rest h =
    let s = then-Takes h in
    let t = then-Takes s.second in
    let e = one-Takes op l.operator s.first in
    let ih = links_fit op f ls t.mid rest t.second in
    omega (arith, ap length e.0, ap length t.first.spelled, length-append (f l.operand).leaves t.mid, ih)

-- ---- what begins no event

no_event : (a b : Bool) → a ≡ false → (a && b) ≡ false
no_event a b e = ap (λ a. a && b) e

and_false : (a : Bool) → (a && false) ≡ false
and_false true = refl
and_false false = refl

pub started : (ts : Leaves) (start : LiteralStart) → is_event (word_at ts) ≡ false → literal_start (word_at ts) ≡ start → start_at ts ≡ start
started ts start e h =
    ap (λ b. cond (b && (same w.LeftParen (word_at (after ts)) && not (same w.RightParen (word_at (after (after ts)))))) StartsEvent (literal_start (word_at ts))) e ∙ h

module _ {i : Inside} (x : Writes i) (inner : Inner i) (any_complete : Complete 1 inner.any (either x.term x.predicate) goes_on_any) (factor_complete : Complete 1 inner.factor x.factor goes_on_factor) where
  inner_term-Complete : Complete 1 (a_term inner.any) x.term goes_on_any
  inner_term-Complete = a_term-Complete inner.any x.term x.predicate 1 goes_on_any any_complete

  by_word : {A : Type 0} (q : Word → Parser A) (ts : Leaves) (word : Word) {r : Outcome A} → word_at ts ≡ word → q word ts ≡ r → q (word_at ts) ts ≡ r
  by_word q ts word e h = ap (λ y. q y ts) e ∙ h

  -- ---- suffixes

  suffix-gives : (ts : Leaves) (a : Suffix i) (rest : Leaves) → Takes 1 ts (trees.suffix x a) rest → read.suffix inner ts ≡ Some (a, rest)
  unfolding read.suffix read.index read.member read.arrow
  suffix-gives ts (Member t n) rest h =
      let s = then-Takes h in
      by_word (read.suffix_by inner) ts w.Dot (word_is w.Dot t s.first) (gives_bind _ (take_if-gives (same w.Dot) t s.first) (gives_bind _ (take_if-gives is_name n s.second) refl))
  suffix-gives ts (Arrow t n) rest h =
      let s = then-Takes h in
      by_word (read.suffix_by inner) ts w.Arrow (word_is w.Arrow t s.first) (gives_bind _ (take_if-gives (same w.Arrow) t s.first) (gives_bind _ (take_if-gives is_name n s.second) refl))
  suffix-gives ts (Index l e r) rest h =
      let s = then-Takes h in
      let t = then-Takes s.second in
      by_word (read.suffix_by inner) ts w.LeftBracket (word_is w.LeftBracket l s.first) (gives_bind _ (take_if-gives (same w.LeftBracket) l s.first)
      (gives_bind _ (inner_term-Complete.gives s.mid e t.mid t.first (at_one w.RightBracket r t.second refl)) (gives_bind _ (take_if-gives (same w.RightBracket) r t.second) refl)))

  suffix-Starts : Starts (trees.suffix x) is_suffix
  suffix-Starts = record { word = of }
    where
      of : (k : ℕ) (ts : Leaves) (a : Suffix i) (rest : Leaves) → Takes k ts (trees.suffix x a) rest → is_suffix (word_at ts) ≡ true
      of k ts (Member t n) rest h = ap is_suffix (word_is w.Dot t (then-Takes h).first)
      of k ts (Arrow t n) rest h = ap is_suffix (word_is w.Arrow t (then-Takes h).first)
      of k ts (Index l e r) rest h = ap is_suffix (word_is w.LeftBracket l (then-Takes h).first)

  or_false : (b : Bool) → b ≡ false → (b || false) ≡ false
  or_false true h = h
  or_false false h = refl

  suffixes-Complete : Complete 1 (run_at is_suffix (read.suffix inner)) (run (trees.suffix x)) goes_on_factor
  suffixes-Complete =
      let c = run-Complete is_suffix (read.suffix inner) (trees.suffix x) 1 (λ y. false) (record { gives = λ ts a rest h end. suffix-gives ts a rest h }) suffix-Starts (λ y h. refl) refl in
      record { gives = λ ts ss rest h end. c.gives ts ss rest h (record { ends = or_false _ (first_of_neither _ _ end.ends) }) }

  -- no `(` comes after an atom
  after_atom : (ss : List (Suffix i)) (mid rest : Leaves) → Takes 1 mid (run (trees.suffix x) ss) rest → Ends goes_on_factor rest → same w.LeftParen (word_at mid) ≡ false
  unfolding run
  after_atom [] mid rest h end = rw (nothing-Takes h) (second_of_neither _ _ end.ends)
  after_atom (q ∷ qs) mid rest h end = let s = then-Takes h in suffix_no_paren (word_at mid) (suffix-Starts.word 1 mid q s.mid s.first)

  -- ---- atoms

  event_value-gives : (ts : Leaves) (f l r d v : Leaf) (rest : Leaves) → Takes 1 ts (trees.atom x (EventValue f l r d v)) rest → read.named inner ts ≡ Some (EventValue f l r d v, rest)
  unfolding read.named read.event_value
  event_value-gives ts f l r d v rest h =
      let s = then-Takes h in
      let t = then-Takes s.second in
      let u = then-Takes t.second in
      let y = then-Takes u.second in
      gives_bind _ (take_if-gives is_name f s.first) (choose (same w.LeftParen (word_at s.mid)) _ _ s.mid (take_if-word (same w.LeftParen) l t.first)
      ∙ gives_bind _ (take_if-gives (same w.LeftParen) l t.first) (gives_bind _ (take_if-gives (same w.RightParen) r u.first)
      (gives_bind _ (take_if-gives (same w.Dot) d y.first) (gives_bind _ (take_if-gives is_event_value v y.second) refl))))

  at-gives : (ts : Leaves) (a l : Leaf) (t : i.Terms) (c n r : Leaf) (rest : Leaves) → Takes 1 ts (trees.atom x (At a l t c n r)) rest → read.at inner ts ≡ Some (At a l t c n r, rest)
  unfolding read.at
  at-gives ts a l e c n r rest h =
      let s = then-Takes h in
      let t = then-Takes s.second in
      let u = then-Takes t.second in
      let y = then-Takes u.second in
      let z = then-Takes y.second in
      gives_bind _ (take_if-gives (same w.SlashAt) a s.first) (gives_bind _ (take_if-gives (same w.LeftParen) l t.first)
      (gives_bind _ (inner_term-Complete.gives t.mid e u.mid u.first (at_one w.Comma c y.first refl)) (gives_bind _ (take_if-gives (same w.Comma) c y.first)
      (gives_bind _ (take_if-gives is_label n z.first) (gives_bind _ (take_if-gives (same w.RightParen) r z.second) refl)))))

  paren-gives : (ts : Leaves) (l : Leaf) (e : i.Terms) (r : Leaf) (rest : Leaves) → Takes 1 ts (trees.atom x (Paren l e r)) rest → read.parenthesized inner ts ≡ Some (ATerm (Paren l e r), rest)
  unfolding read.parenthesized
  paren-gives ts l e r rest h =
      let t = then-Takes h in
      let u = then-Takes t.second in
      gives_bind _ (take_if-gives (same w.LeftParen) l t.first) (gives_bind (read.closed inner l) (any_complete.gives t.mid (ATerm e) u.mid u.first (at_one w.RightParen r u.second refl))
      (refuse_test (same w.DotDot (word_at u.mid)) _ _ u.mid (ap (same w.DotDot) (word_is w.RightParen r u.second)) ∙ gives_bind _ (take_if-gives (same w.RightParen) r u.second) refl))

  enclosed-gives : (ts : Leaves) (a : Enclosed i) (rest : Leaves) → Takes 1 ts (enclosed x a) rest → read.parenthesized inner ts ≡ Some (NoTerm a, rest)
  unfolding read.parenthesized read.range_from
  enclosed-gives ts (EnclosedPredicate (InParens l p r)) rest h =
      let t = then-Takes h in
      let u = then-Takes t.second in
      gives_bind _ (take_if-gives (same w.LeftParen) l t.first) (gives_bind (read.closed inner l) (any_complete.gives t.mid (NoTerm p) u.mid u.first (at_one w.RightParen r u.second refl))
      (gives_bind _ (take_if-gives (same w.RightParen) r u.second) refl))
  enclosed-gives ts (EnclosedRange (FromTo l a d b r)) rest h =
      let t = then-Takes h in
      let u = then-Takes t.second in
      let y = then-Takes u.second in
      let z = then-Takes y.second in
      gives_bind _ (take_if-gives (same w.LeftParen) l t.first) (gives_bind (read.closed inner l) (any_complete.gives t.mid (ATerm a) u.mid u.first (at_one w.DotDot d y.first refl))
      (choose (same w.DotDot (word_at u.mid)) _ _ u.mid (take_if-word (same w.DotDot) d y.first)
      ∙ gives_bind _ (gives_bind _ (take_if-gives (same w.DotDot) d y.first) (gives_bind _ (inner_term-Complete.gives y.mid b z.mid z.first (at_one w.RightParen r z.second refl))
      (gives_bind _ (take_if-gives (same w.RightParen) r z.second) refl))) refl))

  -- ---- factors

  by_start : (start : FactorStart) (ts : Leaves) {r : Outcome (Either (Factor i) (Enclosed i))} → factor_start (word_at ts) ≡ start → read.factor_by inner start ts ≡ r → read.factor inner ts ≡ r
  unfolding read.factor
  by_start start ts e h = ap (λ s. read.factor_by inner s ts) e ∙ h

  factor-gives : (ts : Leaves) (a : Either (Factor i) (Enclosed i)) (rest : Leaves) → Takes 1 ts (either (trees.factor x) (enclosed x) a) rest → Ends goes_on_factor rest
      → read.factor inner ts ≡ Some (a, rest)
  unfolding read.prefix read.named
  factor-gives ts (ATerm (Prefix t f)) rest h end =
      let s = then-Takes h in
      by_start StartsUnary ts (unary_starts (word_at ts) (take_if-word is_unary t s.first)) (gives_bind _ (gives_bind _ (take_if-gives is_unary t s.first) (gives_bind _ (factor_complete.gives s.mid f rest s.second end) refl)) refl)
  factor-gives ts (ATerm (Post (Name t) ss)) rest h end =
      let s = then-Takes h in
      let name = gives_bind _ (take_if-gives is_name t s.first) (refuse_test (same w.LeftParen (word_at s.mid)) _ _ s.mid (after_atom ss s.mid rest s.second end)) in
      by_start StartsName ts (name_starts (word_at ts) (take_if-word is_name t s.first)) (gives_bind (read.suffixed inner) (gives_bind _ name refl) (gives_bind _ (suffixes-Complete.gives s.mid ss rest s.second end) refl))
  factor-gives ts (ATerm (Post (Constant t) ss)) rest h end =
      let s = then-Takes h in
      by_start StartsConstant ts (constant_starts (word_at ts) (take_if-word is_constant t s.first))
      (gives_bind (read.suffixed inner) (gives_bind _ (take_if-gives is_constant t s.first) refl) (gives_bind _ (suffixes-Complete.gives s.mid ss rest s.second end) refl))
  factor-gives ts (ATerm (Post (Paren l e r) ss)) rest h end =
      let s = then-Takes h in
      by_start StartsParen ts (ap factor_start (word_is w.LeftParen l (then-Takes s.first).first))
      (gives_bind (read.suffixed inner) (paren-gives ts l e r s.mid s.first) (gives_bind _ (suffixes-Complete.gives s.mid ss rest s.second end) refl))
  factor-gives ts (ATerm (Post (At a l t c n r) ss)) rest h end =
      let s = then-Takes h in
      by_start StartsAt ts (ap factor_start (word_is w.SlashAt a (then-Takes s.first).first))
      (gives_bind (read.suffixed inner) (gives_bind _ (at-gives ts a l t c n r s.mid s.first) refl) (gives_bind _ (suffixes-Complete.gives s.mid ss rest s.second end) refl))
  factor-gives ts (ATerm (Post (EventValue f l r d v) ss)) rest h end =
      let s = then-Takes h in
      by_start StartsName ts (name_starts (word_at ts) (take_if-word is_name f (then-Takes s.first).first))
      (gives_bind (read.suffixed inner) (gives_bind _ (event_value-gives ts f l r d v s.mid s.first) refl) (gives_bind _ (suffixes-Complete.gives s.mid ss rest s.second end) refl))
  factor-gives ts (NoTerm (EnclosedPredicate (InParens l p r))) rest h end =
      by_start StartsParen ts (ap factor_start (word_is w.LeftParen l (then-Takes h).first)) (gives_bind (read.suffixed inner) (enclosed-gives ts (EnclosedPredicate (InParens l p r)) rest h) refl)
  factor-gives ts (NoTerm (EnclosedRange (FromTo l a d b r))) rest h end =
      by_start StartsParen ts (ap factor_start (word_is w.LeftParen l (then-Takes h).first)) (gives_bind (read.suffixed inner) (enclosed-gives ts (EnclosedRange (FromTo l a d b r)) rest h) refl)

  pub factor-Complete : Complete 1 (read.factor inner) (either (trees.factor x) (enclosed x)) goes_on_factor
  factor-Complete = record { gives = factor-gives }

  -- a factor begins no literal but a relation
  pub factor_start_at : (ts : Leaves) (a : Either (Factor i) (Enclosed i)) (rest : Leaves) → Takes 1 ts (either (trees.factor x) (enclosed x) a) rest → Ends goes_on_factor rest → start_at ts ≡ StartsTerm
  factor_start_at ts (ATerm (Prefix t f)) rest h end = let o = take_if-word is_unary t (then-Takes h).first in started ts StartsTerm (unary_no_event (word_at ts) o) (unary_literal (word_at ts) o)
  factor_start_at ts (ATerm (Post (Name t) ss)) rest h end =
      let s = then-Takes h in
      let next = ap (λ us. same w.LeftParen (word_at us)) (after-one is_name t s.first) ∙ after_atom ss s.mid rest s.second end in
      ap (λ b. cond (is_event (word_at ts) && (b && not (same w.RightParen (word_at (after (after ts)))))) StartsEvent (literal_start (word_at ts))) next
      ∙ ap (λ b. cond b StartsEvent (literal_start (word_at ts))) (and_false (is_event (word_at ts))) ∙ name_literal (word_at ts) (take_if-word is_name t s.first)
  factor_start_at ts (ATerm (Post (Constant t) ss)) rest h end = let o = take_if-word is_constant t (then-Takes h).first in started ts StartsTerm (constant_no_event (word_at ts) o) (constant_literal (word_at ts) o)
  factor_start_at ts (ATerm (Post (Paren l e r) ss)) rest h end = let o = word_is w.LeftParen l (then-Takes (then-Takes h).first).first in started ts StartsTerm (ap is_event o) (ap literal_start o)
  factor_start_at ts (ATerm (Post (At a l t c n r) ss)) rest h end = let o = word_is w.SlashAt a (then-Takes (then-Takes h).first).first in started ts StartsTerm (ap is_event o) (ap literal_start o)
  factor_start_at ts (ATerm (Post (EventValue f l r d v) ss)) rest h end =
      let s = then-Takes (then-Takes h).first in
      let t = then-Takes s.second in
      let u = then-Takes t.second in
      let second = after-one is_name f s.first in
      let third = ap after second ∙ after-one (same w.LeftParen) l t.first in
      let closes = ap (λ us. same w.RightParen (word_at us)) third ∙ take_if-word (same w.RightParen) r u.first in
      ap (λ b. cond (is_event (word_at ts) && (same w.LeftParen (word_at (after ts)) && not b)) StartsEvent (literal_start (word_at ts))) closes
      ∙ ap (λ b. cond (is_event (word_at ts) && b) StartsEvent (literal_start (word_at ts))) (and_false (same w.LeftParen (word_at (after ts))))
      ∙ ap (λ b. cond b StartsEvent (literal_start (word_at ts))) (and_false (is_event (word_at ts))) ∙ name_literal (word_at ts) (take_if-word is_name f s.first)
  factor_start_at ts (NoTerm (EnclosedPredicate (InParens l p r))) rest h end = let o = word_is w.LeftParen l (then-Takes h).first in started ts StartsTerm (ap is_event o) (ap literal_start o)
  factor_start_at ts (NoTerm (EnclosedRange (FromTo l a d b r))) rest h end = let o = word_is w.LeftParen l (then-Takes h).first in started ts StartsTerm (ap is_event o) (ap literal_start o)

  -- ---- terms

  pub product-Complete : Complete 1 (read.product inner) (either (trees.product x) (enclosed x)) goes_on_product
  unfolding read.product
  product-Complete = terms-Complete (read.factor inner) (trees.factor x) (enclosed x) 1 goes_on_factor factor-Complete is_product_operator product_apart

  pub term-Complete : Complete 1 (read.term inner) (either (trees.term x) (enclosed x)) goes_on_term
  unfolding read.term
  term-Complete = terms-Complete (read.product inner) (trees.product x) (enclosed x) 1 goes_on_product product-Complete is_sum_operator sum_apart

  pub a_term-of-Complete : Complete 1 (a_term (read.term inner)) (trees.term x) goes_on_term
  a_term-of-Complete = a_term-Complete (read.term inner) (trees.term x) (enclosed x) 1 goes_on_term term-Complete

  pub term_start_at : (ts : Leaves) (t : Term i) (rest : Leaves) → Takes 1 ts (trees.term x t) rest → Ends goes_on_term rest → start_at ts ≡ StartsTerm
  term_start_at ts t rest h end =
      let p = first_part is_sum_operator (trees.product x) goes_on_product sum_apart ts t rest h (record { ends = second_of_neither _ _ end.ends }) in
      let q = first_part is_product_operator (trees.factor x) goes_on_factor product_apart ts t.first p.mid p.takes (record { ends = second_of_neither _ _ p.ends.ends }) in
      factor_start_at ts (ATerm t.first.first) q.mid q.takes q.ends

  -- ---- locations

  abbrev Product : Type 0
  Product = Chain (Factor i)

  product_ends : (ls : List (Link Product)) (ts rest : Leaves) → Takes 1 ts (links is_sum_operator (trees.product x) ls) rest → Ends goes_on_product rest → Ends goes_on_product ts
  product_ends = links_end is_sum_operator (trees.product x) goes_on_product sum_apart

  object-gives : (first : Product) (ls : List (Link Product)) (n : ℕ) → length ls ≤ n → (found : List (Link Product)) (ts rest : Leaves) → Takes 1 ts (links is_sum_operator (trees.product x) ls) rest
      → Ends goes_on_term rest → read.location_from inner n first found ts ≡ Some (Object (record { first = first; rest = found ++ ls }), rest)
  unfolding read.location_from links
  object-gives first [] zero le found ts rest h end = rw (append-nil found, nothing-Takes h) refl
  object-gives first [] (suc n) le found ts rest h end = rw (append-nil found, nothing-Takes h) (refuse_test (is_sum_operator (word_at rest)) _ _ rest (first_of_neither _ _ end.ends))
  object-gives first (l ∷ ls) zero le found ts rest h end = absurd (omega arith)
  object-gives first (l ∷ ls) (suc n) le found ts rest h end =
      let s = then-Takes h in
      let t = then-Takes s.second in
      let ih = object-gives first ls n (omega arith) (found ++ l ∷ []) t.mid rest t.second end in
      let ends = product_ends ls t.mid rest t.second (record { ends = second_of_neither _ _ end.ends }) in
      choose (is_sum_operator (word_at ts)) _ _ ts (take_if-word is_sum_operator l.operator s.first)
      ∙ gives_bind _ (take_if-gives is_sum_operator l.operator s.first) (gives_bind _ (product-Complete.gives s.mid (ATerm l.operand) t.mid t.first ends) ih)
      ∙ ap (λ all. Some (Object (record { first = first; rest = all }), rest)) (append_assoc found (l ∷ []) ls)

  objects-gives : (first : Product) (p : Leaf) (r : Range i) (ls : List (Link Product)) (n : ℕ) → length ls < n → (found : List (Link Product)) (ts mid rest : Leaves)
      → Takes 1 ts (links is_sum_operator (trees.product x) ls) mid → Takes 1 mid (one w.Plus p then trees.range x r) rest
      → Ends goes_on_term rest → read.location_from inner n first found ts ≡ Some (Objects (record { first = first; rest = found ++ ls }) p r, rest)
  unfolding read.location_from links
  objects-gives first p r ls zero le found ts mid rest h k end = absurd (omega arith)
  objects-gives first p r [] (suc n) le found ts mid rest h k end =
      let s = then-Takes k in
      let plus = word_is w.Plus p s.first in
      let sum = retested (same w.Plus) is_sum_operator p mid s.mid (ap (λ b. b || same w.Minus p.word) (one-Takes (same w.Plus) p s.first).1) s.first in
      rw (append-nil found, nothing-Takes h)
      (choose (is_sum_operator (word_at mid)) _ _ mid (ap is_sum_operator plus)
      ∙ gives_bind _ (take_if-gives is_sum_operator p sum) (gives_bind _ (product-Complete.gives s.mid (NoTerm (EnclosedRange r)) rest s.second (record { ends = second_of_neither _ _ end.ends }))
      (choose (same w.Plus p.word) _ _ rest (one-Takes (same w.Plus) p s.first).1)))
  objects-gives first p r (l ∷ ls) (suc n) le found ts mid rest h k end =
      let s = then-Takes h in
      let t = then-Takes s.second in
      let ih = objects-gives first p r ls n (omega arith) (found ++ l ∷ []) t.mid mid rest t.second k end in
      let ends = product_ends ls t.mid mid t.second (at_one w.Plus p (then-Takes k).first refl) in
      choose (is_sum_operator (word_at ts)) _ _ ts (take_if-word is_sum_operator l.operator s.first)
      ∙ gives_bind _ (take_if-gives is_sum_operator l.operator s.first) (gives_bind _ (product-Complete.gives s.mid (ATerm l.operand) t.mid t.first ends) ih)
      ∙ ap (λ all. Some (Objects (record { first = first; rest = all }) p r, rest)) (append_assoc found (l ∷ []) ls)

  a_product : Complete 1 (a_term (read.product inner)) (trees.product x) goes_on_product
  a_product = a_term-Complete (read.product inner) (trees.product x) (enclosed x) 1 goes_on_product product-Complete

  location-gives : (ts : Leaves) (a : Location i) (rest : Leaves) → Takes 1 ts (trees.location x a) rest → Ends goes_on_term rest → read.location inner ts ≡ Some (a, rest)
  unfolding read.location chain
  location-gives ts (Object t) rest h end =
      let s = then-Takes h in
      let fit = links_fit is_sum_operator (trees.product x) t.rest s.mid rest s.second in
      gives_bind _ (a_product.gives ts t.first s.mid s.first (product_ends t.rest s.mid rest s.second (record { ends = second_of_neither _ _ end.ends })))
      (object-gives t.first t.rest (length s.mid) (omega (arith, fit)) [] s.mid rest s.second end)
  location-gives ts (Objects t p r) rest h end =
      let a = then-Takes h in
      let s = then-Takes a.first in
      let o = then-Takes a.second in
      let fit = links_fit is_sum_operator (trees.product x) t.rest s.mid a.mid s.second in
      let plus = one-Takes (same w.Plus) p o.first in
      gives_bind _ (a_product.gives ts t.first s.mid s.first (product_ends t.rest s.mid a.mid s.second (at_one w.Plus p o.first refl)))
      (objects-gives t.first p r t.rest (length s.mid) (omega (arith, fit, ap length plus.0)) [] s.mid a.mid rest s.second a.second end)

  pub location-Complete : Complete 1 (read.location inner) (trees.location x) goes_on_term
  location-Complete = record { gives = location-gives }
