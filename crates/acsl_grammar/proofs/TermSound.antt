-- Terms and locations: what is read is what is written.
use Rattle.std.proofs.Common.{◌≡◌, ℕ, zero, suc, Bool, true, List, [], ◌∷◌, ◌++◌, length, Some, refl, sym, subst, ⊎_elim, arith}
use Rattle.c_words.specs.declared.word.Word.{Word}
use Rattle.c_words.specs.declared.word.Word.TheVariants as w
use Rattle.c_words.specs.declared.word.Leaf.{Leaf}
use Rattle.c_words.specs.declared.chain.Chain.{Chain}
use Rattle.c_words.specs.declared.chain.Link.{Link}
use Rattle.c_words.specs.Words.{same}
use Rattle.c_words.specs.OperatorWords.{is_product_operator, is_sum_operator}
use Rattle.c_words.specs.Written.{Written, ◌then◌, one, one_of, links, chain, Takes}
use Rattle.c_words.specs.Parsing.{Leaves, Outcome, Parser, and_then, word_at, take_if, expect, run_at}
use Rattle.c_words.proofs.Taking.{Takes-then, then-Takes, Takes-nothing, nothing-Takes, Takes-one, one-Takes}
use Rattle.c_words.proofs.Reading.{bind_ok, chosen, finish, Sound, take_if-takes}
use Rattle.c_words.proofs.Runs.{run-Sound}
use Rattle.acsl_grammar.specs.Vocabulary.{is_name, is_constant, is_label, is_event_value, is_unary}
use Rattle.acsl_grammar.specs.Trees as trees
use Rattle.acsl_grammar.specs.Trees.{Inside, Atom, Name, Constant, Paren, At, EventValue, Suffix, Member, Arrow, Index, Factor, Prefix, Post, Term, Range, FromTo, Location, Object, Objects, Group, InParens, Writes}
use Rattle.acsl_grammar.specs.TermReading as read
use Rattle.acsl_grammar.specs.TermReading.{Either, ATerm, NoTerm, Enclosed, EnclosedPredicate, EnclosedRange, Inner, is_suffix, FactorStart, StartsName, StartsConstant, StartsUnary, StartsParen, StartsAt, StartsNoFactor, factor_start, a_term}
use Rattle.acsl_grammar.proofs.EitherLaws.{either, a_term-Sound, terms-Sound}

pub took : (test : Word → Bool) (ts : Leaves) (t : Leaf) (rest : Leaves) → take_if test ts ≡ Some (t, rest) → Takes 1 ts (one_of test t) rest
took = take_if-takes 1 (omega arith)

-- one link more after links that stand there
pub one_link_more : {A : Type 0} (op : Word → Bool) (f : A → Written) (found : List (Link A)) (l : Link A) (ts mid rest : Leaves)
    → Takes 1 ts (links op f found) mid → Takes 1 mid (one_of op l.operator then f l.operand) rest → Takes 1 ts (links op f (found ++ l ∷ [])) rest
unfolding links
one_link_more op f [] l ts mid rest h i =
    let s = then-Takes i in
    rw (nothing-Takes h) (Takes-then s.first (Takes-then s.second (Takes-nothing 1 rest (omega arith))))
one_link_more op f (m ∷ found) l ts mid rest h i =
    let s = then-Takes h in
    let t = then-Takes s.second in
    Takes-then s.first (Takes-then t.first (one_link_more op f found l t.mid mid rest t.second i))

-- a leaf that passes another test, too
pub retested : (other test : Word → Bool) (t : Leaf) (ts rest : Leaves) → test t.word ≡ true → Takes 1 ts (one_of other t) rest → Takes 1 ts (one_of test t) rest
retested other test t ts rest e h = let o = one-Takes other t h in subst (λ ts. Takes 1 ts (one_of test t) rest) (sym o.0) (Takes-one 1 test t rest (omega arith) e)

-- what one writes that is in parentheses and is no term
abbrev pub enclosed : {i : Inside} → Writes i → Enclosed i → Written
enclosed x (EnclosedPredicate g) = trees.group x g
enclosed x (EnclosedRange r) = trees.range x r

module _ {i : Inside} (x : Writes i) (inner : Inner i) (any_sound : Sound 1 inner.any (either x.term x.predicate)) (factor_sound : Sound 1 inner.factor x.factor) where
  inner_term-Sound : Sound 1 (a_term inner.any) x.term
  inner_term-Sound = a_term-Sound inner.any x.term x.predicate 1 any_sound

  -- ---- suffixes

  suffix_by-takes : (word : Word) (ts : Leaves) (a : Suffix i) (rest : Leaves) → read.suffix_by inner word ts ≡ Some (a, rest) → Takes 1 ts (trees.suffix x a) rest
  unfolding read.index read.member read.arrow
  suffix_by-takes w.LeftBracket ts a rest h =
      let l = bind_ok (expect w.LeftBracket ts) _ a rest h in
      let y = bind_ok (a_term inner.any l.mid) _ a rest l.second in
      let r = bind_ok (expect w.RightBracket y.mid) _ a rest y.second in
      finish (trees.suffix x) refl r.second (Takes-then (took _ _ _ _ l.first) (Takes-then (inner_term-Sound.takes _ _ _ y.first) (took _ _ _ _ r.first)))
  suffix_by-takes w.Dot ts a rest h =
      let l = bind_ok (expect w.Dot ts) _ a rest h in
      let r = bind_ok (take_if is_name l.mid) _ a rest l.second in
      finish (trees.suffix x) refl r.second (Takes-then (took _ _ _ _ l.first) (took _ _ _ _ r.first))
  suffix_by-takes w.Arrow ts a rest h =
      let l = bind_ok (expect w.Arrow ts) _ a rest h in
      let r = bind_ok (take_if is_name l.mid) _ a rest l.second in
      finish (trees.suffix x) refl r.second (Takes-then (took _ _ _ _ l.first) (took _ _ _ _ r.first))
  suffix_by-takes _ ts a rest h = cc

  suffix-Sound : Sound 1 (read.suffix inner) (trees.suffix x)
  unfolding read.suffix
  suffix-Sound = record { takes = λ ts a rest h. suffix_by-takes (word_at ts) ts a rest h }

  -- ---- atoms

  named-takes : (ts : Leaves) (a : Atom i) (rest : Leaves) → read.named inner ts ≡ Some (a, rest) → Takes 1 ts (trees.atom x a) rest
  unfolding read.named read.event_value
  named-takes ts a rest h =
      let n = bind_ok (take_if is_name ts) _ a rest h in
      let name = took _ _ _ _ n.first in
      ⊎_elim
      (λ q. let l = bind_ok (expect w.LeftParen n.mid) _ a rest q.1 in
      let r = bind_ok (expect w.RightParen l.mid) _ a rest l.second in
      let d = bind_ok (expect w.Dot r.mid) _ a rest r.second in
      let v = bind_ok (take_if is_event_value d.mid) _ a rest d.second in
      finish (trees.atom x) refl v.second (Takes-then name (Takes-then (took _ _ _ _ l.first) (Takes-then (took _ _ _ _ r.first) (Takes-then (took _ _ _ _ d.first) (took _ _ _ _ v.first))))))
      (λ q. finish (trees.atom x) refl q.1 name)
      (chosen (same w.LeftParen (word_at n.mid)) _ _ n.mid _ n.second)

  at-takes : (ts : Leaves) (a : Atom i) (rest : Leaves) → read.at inner ts ≡ Some (a, rest) → Takes 1 ts (trees.atom x a) rest
  unfolding read.at
  at-takes ts a rest h =
      let s = bind_ok (expect w.SlashAt ts) _ a rest h in
      let l = bind_ok (expect w.LeftParen s.mid) _ a rest s.second in
      let y = bind_ok (a_term inner.any l.mid) _ a rest l.second in
      let c = bind_ok (expect w.Comma y.mid) _ a rest y.second in
      let n = bind_ok (take_if is_label c.mid) _ a rest c.second in
      let r = bind_ok (expect w.RightParen n.mid) _ a rest n.second in
      finish (trees.atom x) refl r.second
      (Takes-then (took _ _ _ _ s.first) (Takes-then (took _ _ _ _ l.first) (Takes-then (inner_term-Sound.takes _ _ _ y.first) (Takes-then (took _ _ _ _ c.first) (Takes-then (took _ _ _ _ n.first) (took _ _ _ _ r.first))))))

  range-takes : (ts : Leaves) (opening : Leaf) (t : i.Terms) (m mid : Leaves) (a : Range i) (rest : Leaves) → Takes 1 ts (one w.LeftParen opening) m → Takes 1 m (x.term t) mid
      → read.range_from inner opening t mid ≡ Some (a, rest) → Takes 1 ts (trees.range x a) rest
  unfolding read.range_from
  range-takes ts opening t m mid a rest o f h =
      let d = bind_ok (expect w.DotDot mid) _ a rest h in
      let y = bind_ok (a_term inner.any d.mid) _ a rest d.second in
      let r = bind_ok (expect w.RightParen y.mid) _ a rest y.second in
      finish (trees.range x) refl r.second (Takes-then o (Takes-then f (Takes-then (took _ _ _ _ d.first) (Takes-then (inner_term-Sound.takes _ _ _ y.first) (took _ _ _ _ r.first)))))

  closed-takes : (ts : Leaves) (opening : Leaf) (m : Leaves) (y : Either i.Terms i.Predicates) (mid : Leaves) (a : Either (Atom i) (Enclosed i)) (rest : Leaves)
      → Takes 1 ts (one w.LeftParen opening) m → Takes 1 m (either x.term x.predicate y) mid → read.closed inner opening y mid ≡ Some (a, rest) → Takes 1 ts (either (trees.atom x) (enclosed x) a) rest
  closed-takes ts opening m (ATerm t) mid a rest o f h = ⊎_elim
      (λ q. let r = bind_ok (read.range_from inner opening t mid) _ a rest q.1 in
      finish (either (trees.atom x) (enclosed x)) refl r.second (range-takes ts opening t m mid r.value r.mid o f r.first))
      (λ q. let r = bind_ok (expect w.RightParen mid) _ a rest q.1 in
      finish (either (trees.atom x) (enclosed x)) refl r.second (Takes-then o (Takes-then f (took _ _ _ _ r.first))))
      (chosen (same w.DotDot (word_at mid)) _ _ mid _ h)
  closed-takes ts opening m (NoTerm p) mid a rest o f h =
      let r = bind_ok (expect w.RightParen mid) _ a rest h in
      finish (either (trees.atom x) (enclosed x)) refl r.second (Takes-then o (Takes-then f (took _ _ _ _ r.first)))

  parenthesized-takes : (ts : Leaves) (a : Either (Atom i) (Enclosed i)) (rest : Leaves) → read.parenthesized inner ts ≡ Some (a, rest) → Takes 1 ts (either (trees.atom x) (enclosed x) a) rest
  unfolding read.parenthesized
  parenthesized-takes ts a rest h =
      let l = bind_ok (expect w.LeftParen ts) _ a rest h in
      let y = bind_ok (inner.any l.mid) _ a rest l.second in
      closed-takes ts l.value l.mid y.value y.mid a rest (took _ _ _ _ l.first) (any_sound.takes _ _ _ y.first) y.second

  -- ---- factors

  suffixed-takes : (ts : Leaves) (b : Either (Atom i) (Enclosed i)) (mid : Leaves) (a : Either (Factor i) (Enclosed i)) (rest : Leaves)
      → Takes 1 ts (either (trees.atom x) (enclosed x) b) mid → read.suffixed inner b mid ≡ Some (a, rest) → Takes 1 ts (either (trees.factor x) (enclosed x) a) rest
  suffixed-takes ts (ATerm b) mid a rest takes h =
      let s = bind_ok (run_at is_suffix (read.suffix inner) mid) _ a rest h in
      finish (either (trees.factor x) (enclosed x)) refl s.second
      (Takes-then takes ((run-Sound is_suffix (read.suffix inner) (trees.suffix x) 1 suffix-Sound (omega arith)).takes mid s.value s.mid s.first))
  suffixed-takes ts (NoTerm b) mid a rest takes h = finish (either (trees.factor x) (enclosed x)) refl h takes

  prefix-takes : (ts : Leaves) (a : Either (Factor i) (Enclosed i)) (rest : Leaves) → and_then (read.prefix inner ts) (λ f mid. Some (ATerm f, mid)) ≡ Some (a, rest)
      → Takes 1 ts (either (trees.factor x) (enclosed x) a) rest
  unfolding read.prefix
  prefix-takes ts a rest h =
      let p = bind_ok (read.prefix inner ts) _ a rest h in
      let o = bind_ok (take_if is_unary ts) _ p.value p.mid p.first in
      let f = bind_ok (inner.factor o.mid) _ p.value p.mid o.second in
      finish (either (trees.factor x) (enclosed x)) refl p.second
      (finish (trees.factor x) refl f.second (Takes-then (took _ _ _ _ o.first) (factor_sound.takes _ _ _ f.first)))

  factor_by-takes : (start : FactorStart) (ts : Leaves) (a : Either (Factor i) (Enclosed i)) (rest : Leaves) → read.factor_by inner start ts ≡ Some (a, rest)
      → Takes 1 ts (either (trees.factor x) (enclosed x) a) rest
  factor_by-takes StartsName ts a rest h =
      let b = bind_ok _ (read.suffixed inner) a rest h in
      let n = bind_ok (read.named inner ts) _ b.value b.mid b.first in
      suffixed-takes ts b.value b.mid a rest (finish (either (trees.atom x) (enclosed x)) refl n.second (named-takes ts n.value n.mid n.first)) b.second
  factor_by-takes StartsConstant ts a rest h =
      let b = bind_ok _ (read.suffixed inner) a rest h in
      let n = bind_ok (take_if is_constant ts) _ b.value b.mid b.first in
      suffixed-takes ts b.value b.mid a rest (finish (either (trees.atom x) (enclosed x)) refl n.second (took _ _ _ _ n.first)) b.second
  factor_by-takes StartsAt ts a rest h =
      let b = bind_ok _ (read.suffixed inner) a rest h in
      let n = bind_ok (read.at inner ts) _ b.value b.mid b.first in
      suffixed-takes ts b.value b.mid a rest (finish (either (trees.atom x) (enclosed x)) refl n.second (at-takes ts n.value n.mid n.first)) b.second
  factor_by-takes StartsParen ts a rest h =
      let b = bind_ok (read.parenthesized inner ts) (read.suffixed inner) a rest h in
      suffixed-takes ts b.value b.mid a rest (parenthesized-takes ts b.value b.mid b.first) b.second
  factor_by-takes StartsUnary ts a rest h = prefix-takes ts a rest h
  factor_by-takes StartsNoFactor ts a rest h = cc

  pub factor-Sound : Sound 1 (read.factor inner) (either (trees.factor x) (enclosed x))
  unfolding read.factor
  factor-Sound = record { takes = λ ts a rest h. factor_by-takes (factor_start (word_at ts)) ts a rest h }

  -- ---- terms

  pub product-Sound : Sound 1 (read.product inner) (either (trees.product x) (enclosed x))
  unfolding read.product
  product-Sound = terms-Sound (read.factor inner) (trees.factor x) (enclosed x) 1 factor-Sound is_product_operator

  pub term-Sound : Sound 1 (read.term inner) (either (trees.term x) (enclosed x))
  unfolding read.term
  term-Sound = terms-Sound (read.product inner) (trees.product x) (enclosed x) 1 product-Sound is_sum_operator

  pub a_term-of-Sound : Sound 1 (a_term (read.term inner)) (trees.term x)
  a_term-of-Sound = a_term-Sound (read.term inner) (trees.term x) (enclosed x) 1 term-Sound

  -- ---- locations

  abbrev Product : Type 0
  Product = Chain (Factor i)

  -- a chain up to here
  abbrev SoFar : Leaves → Product → List (Link Product) → Leaves → Type 0
  SoFar ts first found mid = Takes 1 ts (trees.product x first then links is_sum_operator (trees.product x) found) mid

  whole_chain : (ts : Leaves) (first : Product) (found : List (Link Product)) (mid : Leaves) → SoFar ts first found mid → Takes 1 ts (trees.term x (record { first = first; rest = found })) mid
  unfolding chain
  whole_chain ts first found mid h = h

  object-takes : (ts : Leaves) (first : Product) (found : List (Link Product)) (mid : Leaves) (a : Location i) (rest : Leaves) → SoFar ts first found mid
      → ◌≡◌ {A = Outcome (Location i)} (Some (Object (record { first = first; rest = found }), mid)) (Some (a, rest)) → Takes 1 ts (trees.location x a) rest
  object-takes ts first found mid a rest h e = finish (trees.location x) refl e (whole_chain ts first found mid h)

  located-takes : (next : List (Link Product) → Parser (Location i)) (ts : Leaves) (first : Product) (found : List (Link Product)) (mid : Leaves) (a : Location i) (rest : Leaves) → SoFar ts first found mid
      → ((found : List (Link Product)) (mid : Leaves) → SoFar ts first found mid → next found mid ≡ Some (a, rest) → Takes 1 ts (trees.location x a) rest)
      → (t : Leaf) (m : Leaves) (y : Either Product (Enclosed i)) (end : Leaves) → Takes 1 mid (one_of is_sum_operator t) m → Takes 1 m (either (trees.product x) (enclosed x) y) end
      → read.located inner next first found t y end ≡ Some (a, rest) → Takes 1 ts (trees.location x a) rest
  located-takes next ts first found mid a rest so_far known t m (ATerm c) end o f h =
      let s = then-Takes so_far in
      let link : Link Product = record { operator = t; operand = c } in
      known (found ++ link ∷ []) end (Takes-then s.first (one_link_more is_sum_operator (trees.product x) found link s.mid mid end s.second (Takes-then o f))) h
  located-takes next ts first found mid a rest so_far known t m (NoTerm (EnclosedRange r)) end o f h = ⊎_elim
      (λ q. finish (trees.location x) refl q.1 (Takes-then (whole_chain ts first found mid so_far) (Takes-then (retested is_sum_operator (same w.Plus) t mid m q.0 o) f)))
      (λ q. cc (q.1))
      (chosen (same w.Plus t.word) _ _ end _ h)
  located-takes next ts first found mid a rest so_far known t m (NoTerm (EnclosedPredicate p)) end o f h = cc

  location_from-takes : (n : ℕ) (ts : Leaves) (first : Product) (a : Location i) (rest : Leaves) (found : List (Link Product)) (mid : Leaves) → SoFar ts first found mid
      → read.location_from inner n first found mid ≡ Some (a, rest) → Takes 1 ts (trees.location x a) rest
  unfolding read.location_from
  location_from-takes zero ts first a rest found mid so_far h = object-takes ts first found mid a rest so_far h
  location_from-takes (suc n) ts first a rest found mid so_far h = ⊎_elim
      (λ q. let t = bind_ok (take_if is_sum_operator mid) _ a rest q.1 in
      let y = bind_ok (read.product inner t.mid) _ a rest t.second in
      located-takes (read.location_from inner n first) ts first found mid a rest so_far (location_from-takes n ts first a rest) t.value t.mid y.value y.mid
      (took _ _ _ _ t.first) (product-Sound.takes t.mid y.value y.mid y.first) y.second)
      (λ q. object-takes ts first found mid a rest so_far q.1)
      (chosen (is_sum_operator (word_at mid)) _ _ mid _ h)

  pub location-Sound : Sound 1 (read.location inner) (trees.location x)
  unfolding read.location links
  location-Sound = record {
    takes = λ ts a rest h.
        let y = bind_ok (a_term (read.product inner) ts) _ a rest h in
        let first = (a_term-Sound (read.product inner) (trees.product x) (enclosed x) 1 product-Sound).takes ts y.value y.mid y.first in
        location_from-takes (length y.mid) ts y.value a rest [] y.mid (Takes-then first (Takes-nothing 1 y.mid (omega arith))) y.second;
  }
