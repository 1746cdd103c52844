-- Predicates: what is read is what is written.
use Rattle.std.proofs.Common.{◌≡◌, ℕ, zero, suc, Bool, true, ◌&&◌, List, [], ◌∷◌, ◌++◌, length, Some, refl, sym, ap₂, subst, ◌∙◌, ⊎_elim, append_assoc, append-nil, arith}
use Rattle.c_words.specs.declared.word.Word.TheVariants as w
use Rattle.c_words.specs.declared.chain.Link.{Link}
use Rattle.c_words.specs.Words.{same}
use Rattle.c_words.specs.OperatorWords.{is_comma}
use Rattle.c_words.specs.Written.{nothing, only, links, chain, Takes}
use Rattle.c_words.specs.Parsing.{Leaves, Parser, and_then, pure, word_at, take_if, expect, chain_at, next_is}
use Rattle.c_words.proofs.Taking.{Takes-then, Takes-nothing, one-Takes}
use Rattle.c_words.proofs.Reading.{bind_ok, chosen, same_pair, finish, Sound}
use Rattle.c_words.proofs.Chains.{chain-Sound}
use Rattle.acsl_grammar.specs.Vocabulary.{is_name, is_truth, is_validity, is_event, is_comparison, is_one_way}
use Rattle.acsl_grammar.specs.Trees as trees
use Rattle.acsl_grammar.specs.Trees.{Inside, Factor, Term, Location, Group, Literal, Not, Grouped, Truth, Relations, Valid, Separated, Event, Disjunction, Implication, Plain, Implies, Predicate, Writes, inside_at, writes_at, operator_words}
use Rattle.acsl_grammar.specs.TermReading as read
use Rattle.acsl_grammar.specs.TermReading.{Either, ATerm, NoTerm, Enclosed, EnclosedPredicate, EnclosedRange, Inner, LiteralStart, StartsNot, StartsTruth, StartsValid, StartsSeparated, StartsEvent, StartsTerm, start_at, Way, way_of, way_after, leads, a_term, a_predicate, inner_at}
use Rattle.acsl_grammar.proofs.EitherLaws.{either, a_term-Sound, a_predicate-Sound, predicates-Sound}
use Rattle.acsl_grammar.proofs.WordLaws.{leads_all, leads_one_way, leads_compares}
use Rattle.acsl_grammar.proofs.TermSound.{took, retested, enclosed, factor-Sound, term-Sound, a_term-of-Sound, location-Sound}

-- a condition that holds takes nothing
pub Takes-only : (b : Bool) (ts : Leaves) → b ≡ true → Takes 1 ts (only b) ts
unfolding only nothing
Takes-only b ts e = record { spelled = refl; levelled = e; below = omega arith }

module _ {i : Inside} (x : Writes i) (inner : Inner i) (any_sound : Sound 1 inner.any (either x.term x.predicate)) (factor_sound : Sound 1 inner.factor x.factor) (literal_sound : Sound 1 inner.literal x.literal)
    (implication_sound : Sound 1 inner.implication x.implication) (location_sound : Sound 1 inner.location x.location) (name_sound : Sound 1 inner.name x.name) where
  -- ---- relations

  record MoreRelations (way : Way) (found : List (Link (Term i))) (ts : Leaves) (all : List (Link (Term i))) (rest : Leaves) : Type 0 where
    pub more : List (Link (Term i))
    pub joined : all ≡ found ++ more
    pub takes : Takes 1 ts (links is_comparison (trees.term x) more) rest
    pub one_way : leads_all way (operator_words more) ≡ true

  no_more_relations : (way : Way) (found : List (Link (Term i))) (ts : Leaves) (all : List (Link (Term i))) (rest : Leaves) → pure found ts ≡ Some (all, rest) → MoreRelations way found ts all rest
  unfolding links
  no_more_relations way found ts all rest h =
      let q = same_pair h in
      record { more = []; joined = sym q.0 ∙ sym (append-nil found); takes = subst (λ r. Takes 1 ts nothing r) q.1 (Takes-nothing 1 ts (omega arith)); one_way = refl }

  both_true : (a b : Bool) → a ≡ true → b ≡ true → (a && b) ≡ true
  both_true a b e f = ap₂ ◌&&◌ e f

  relations_from-takes : (n : ℕ) (way : Way) (found : List (Link (Term i))) (ts : Leaves) (all : List (Link (Term i))) (rest : Leaves)
      → read.relations_from inner way n found ts ≡ Some (all, rest) → MoreRelations way found ts all rest
  unfolding read.relations_from links
  relations_from-takes zero way found ts all rest h = no_more_relations way found ts all rest h
  relations_from-takes (suc n) way found ts all rest h = ⊎_elim
      (λ q. let t = bind_ok (take_if (leads way) ts) _ all rest q.1 in
      let y = bind_ok (a_term (read.term inner) t.mid) _ all rest t.second in
      let link : Link (Term i) = record { operator = t.value; operand = y.value } in
      let k = relations_from-takes n (way_after way t.value.word) (found ++ link ∷ []) y.mid all rest y.second in
      let o = took _ _ _ _ t.first in
      record {
        more = link ∷ k.more;
        joined = k.joined ∙ append_assoc found (link ∷ []) k.more;
        takes = Takes-then (retested (leads way) is_comparison t.value ts t.mid (leads_compares way t.value.word (one-Takes (leads way) t.value o).1) o) (Takes-then ((a_term-of-Sound x inner any_sound factor_sound).takes t.mid y.value y.mid y.first) k.takes);
        one_way = both_true (leads way t.value.word) (leads_all (way_after way t.value.word) (operator_words k.more)) (one-Takes (leads way) t.value o).1 k.one_way;
      })
      (λ q. no_more_relations way found ts all rest q.1)
      (chosen (leads way (word_at ts)) _ _ ts _ h)

  relations-takes : (ts : Leaves) (t : Term i) (mid : Leaves) (a : Literal i) (rest : Leaves) → Takes 1 ts (trees.term x t) mid → read.relations inner t mid ≡ Some (a, rest) → Takes 1 ts (trees.literal x a) rest
  unfolding read.relations chain
  relations-takes ts t mid a rest takes h =
      let o = bind_ok (take_if is_comparison mid) _ a rest h in
      let y = bind_ok (a_term (read.term inner) o.mid) _ a rest o.second in
      let ls = bind_ok (read.relations_from inner (way_of o.value.word) (length y.mid) [] y.mid) _ a rest y.second in
      let k = relations_from-takes (length y.mid) (way_of o.value.word) [] y.mid ls.value ls.mid ls.first in
      let operator = took _ _ _ _ o.first in
      let way : leads_all (way_of o.value.word) (operator_words ls.value) ≡ true = subst (λ l. leads_all (way_of o.value.word) (operator_words l) ≡ true) (sym k.joined) k.one_way in
      let condition = sym (leads_one_way o.value.word (operator_words ls.value) (one-Takes is_comparison o.value operator).1) ∙ way in
      let operands : Takes 1 y.mid (links is_comparison (trees.term x) ls.value) ls.mid = subst (λ l. Takes 1 y.mid (links is_comparison (trees.term x) l) ls.mid) (sym k.joined) k.takes in
      finish (trees.literal x) refl ls.second
      (Takes-then (Takes-only (is_one_way o.value.word (operator_words ls.value)) ts condition)
      (Takes-then takes (Takes-then operator (Takes-then ((a_term-of-Sound x inner any_sound factor_sound).takes o.mid y.value y.mid y.first) operands))))

  related-takes : (ts : Leaves) (b : Either (Term i) (Enclosed i)) (mid : Leaves) (a : Either (Term i) (Literal i)) (rest : Leaves)
      → Takes 1 ts (either (trees.term x) (enclosed x) b) mid → read.related inner b mid ≡ Some (a, rest) → Takes 1 ts (either (trees.term x) (trees.literal x) a) rest
  related-takes ts (ATerm t) mid a rest takes h = ⊎_elim
      (λ q. let r = bind_ok (read.relations inner t mid) _ a rest q.1 in
      finish (either (trees.term x) (trees.literal x)) refl r.second (relations-takes ts t mid r.value r.mid takes r.first))
      (λ q. finish (either (trees.term x) (trees.literal x)) refl q.1 takes)
      (chosen (is_comparison (word_at mid)) _ _ mid _ h)
  related-takes ts (NoTerm (EnclosedPredicate g)) mid a rest takes h = finish (either (trees.term x) (trees.literal x)) refl h takes
  related-takes ts (NoTerm (EnclosedRange r)) mid a rest takes h = cc

  -- ---- literals

  negation-takes : (ts : Leaves) (a : Literal i) (rest : Leaves) → read.negation inner ts ≡ Some (a, rest) → Takes 1 ts (trees.literal x a) rest
  unfolding read.negation
  negation-takes ts a rest h =
      let o = bind_ok (expect w.Exclamation ts) _ a rest h in
      let l = bind_ok (inner.literal o.mid) _ a rest o.second in
      finish (trees.literal x) refl l.second (Takes-then (took _ _ _ _ o.first) (literal_sound.takes _ _ _ l.first))

  validity-takes : (ts : Leaves) (a : Literal i) (rest : Leaves) → read.validity inner ts ≡ Some (a, rest) → Takes 1 ts (trees.literal x a) rest
  unfolding read.validity
  validity-takes ts a rest h =
      let s = bind_ok (take_if is_validity ts) _ a rest h in
      let l = bind_ok (expect w.LeftParen s.mid) _ a rest s.second in
      let y = bind_ok (inner.location l.mid) _ a rest l.second in
      let r = bind_ok (expect w.RightParen y.mid) _ a rest y.second in
      finish (trees.literal x) refl r.second (Takes-then (took _ _ _ _ s.first) (Takes-then (took _ _ _ _ l.first) (Takes-then (location_sound.takes _ _ _ y.first) (took _ _ _ _ r.first))))

  separation-takes : (ts : Leaves) (a : Literal i) (rest : Leaves) → read.separation inner ts ≡ Some (a, rest) → Takes 1 ts (trees.literal x a) rest
  unfolding read.separation
  separation-takes ts a rest h =
      let s = bind_ok (expect w.SlashSeparated ts) _ a rest h in
      let l = bind_ok (expect w.LeftParen s.mid) _ a rest s.second in
      let y = bind_ok (inner.location l.mid) _ a rest l.second in
      let c = bind_ok (expect w.Comma y.mid) _ a rest y.second in
      let m = bind_ok (chain_at is_comma inner.location c.mid) _ a rest c.second in
      let r = bind_ok (expect w.RightParen m.mid) _ a rest m.second in
      let more = (chain-Sound (next_is is_comma) is_comma inner.location x.location 1 location_sound).takes c.mid m.value m.mid m.first in
      finish (trees.literal x) refl r.second
      (Takes-then (took _ _ _ _ s.first) (Takes-then (took _ _ _ _ l.first) (Takes-then (location_sound.takes _ _ _ y.first) (Takes-then (took _ _ _ _ c.first) (Takes-then more (took _ _ _ _ r.first))))))

  event-takes : (ts : Leaves) (a : Literal i) (rest : Leaves) → read.event inner ts ≡ Some (a, rest) → Takes 1 ts (trees.literal x a) rest
  unfolding read.event
  event-takes ts a rest h =
      let s = bind_ok (take_if is_event ts) _ a rest h in
      let l = bind_ok (expect w.LeftParen s.mid) _ a rest s.second in
      let y = bind_ok (inner.name l.mid) _ a rest l.second in
      let r = bind_ok (expect w.RightParen y.mid) _ a rest y.second in
      finish (trees.literal x) refl r.second (Takes-then (took _ _ _ _ s.first) (Takes-then (took _ _ _ _ l.first) (Takes-then (name_sound.takes _ _ _ y.first) (took _ _ _ _ r.first))))

  -- a literal that is read by itself
  alone-takes : (p : Parser (Literal i)) → ((ts : Leaves) (a : Literal i) (rest : Leaves) → p ts ≡ Some (a, rest) → Takes 1 ts (trees.literal x a) rest)
      → (ts : Leaves) (a : Either (Term i) (Literal i)) (rest : Leaves) → and_then (p ts) (λ l mid. Some (NoTerm l, mid)) ≡ Some (a, rest) → Takes 1 ts (either (trees.term x) (trees.literal x) a) rest
  alone-takes p takes ts a rest h = let l = bind_ok (p ts) _ a rest h in finish (either (trees.term x) (trees.literal x)) refl l.second (takes ts l.value l.mid l.first)

  literal_by-takes : (start : LiteralStart) (ts : Leaves) (a : Either (Term i) (Literal i)) (rest : Leaves) → read.literal_by inner start ts ≡ Some (a, rest)
      → Takes 1 ts (either (trees.term x) (trees.literal x) a) rest
  literal_by-takes StartsNot ts a rest h = alone-takes (read.negation inner) negation-takes ts a rest h
  literal_by-takes StartsTruth ts a rest h =
      let t = bind_ok (take_if is_truth ts) _ a rest h in
      finish (either (trees.term x) (trees.literal x)) refl t.second (took _ _ _ _ t.first)
  literal_by-takes StartsValid ts a rest h = alone-takes (read.validity inner) validity-takes ts a rest h
  literal_by-takes StartsSeparated ts a rest h = alone-takes (read.separation inner) separation-takes ts a rest h
  literal_by-takes StartsEvent ts a rest h = alone-takes (read.event inner) event-takes ts a rest h
  literal_by-takes StartsTerm ts a rest h =
      let t = bind_ok (read.term inner ts) _ a rest h in
      related-takes ts t.value t.mid a rest ((term-Sound x inner any_sound factor_sound).takes ts t.value t.mid t.first) t.second

  pub literal-Sound : Sound 1 (read.literal inner) (either (trees.term x) (trees.literal x))
  unfolding read.literal
  literal-Sound = record { takes = λ ts a rest h. literal_by-takes (start_at ts) ts a rest h }

  -- ---- predicates

  disjunction-Sound : Sound 1 (read.disjunction inner) (either (trees.term x) (trees.disjunction x))
  unfolding read.disjunction
  disjunction-Sound =
      predicates-Sound _ (trees.term x) (trees.conjunction x) 1 (predicates-Sound (read.literal inner) (trees.term x) (trees.literal x) 1 literal-Sound (same w.AndAnd)) (same w.OrOr)

  implied-takes : (ts : Leaves) (b : Either (Term i) (Disjunction i)) (mid : Leaves) (a : Either (Term i) (Implication i)) (rest : Leaves)
      → Takes 1 ts (either (trees.term x) (trees.disjunction x) b) mid → read.implied inner b mid ≡ Some (a, rest) → Takes 1 ts (either (trees.term x) (trees.implication x) a) rest
  unfolding read.implies
  implied-takes ts (ATerm t) mid a rest takes h = finish (either (trees.term x) (trees.implication x)) refl h takes
  implied-takes ts (NoTerm d) mid a rest takes h = ⊎_elim
      (λ q. let n = bind_ok (read.implies inner d mid) _ a rest q.1 in
      let s = bind_ok (expect w.Implies mid) _ n.value n.mid n.first in
      let r = bind_ok (inner.implication s.mid) _ n.value n.mid s.second in
      finish (either (trees.term x) (trees.implication x)) refl n.second
      (finish (trees.implication x) refl r.second (Takes-then takes (Takes-then (took _ _ _ _ s.first) (implication_sound.takes _ _ _ r.first)))))
      (λ q. finish (either (trees.term x) (trees.implication x)) refl q.1 takes)
      (chosen (same w.Implies (word_at mid)) _ _ mid _ h)

  pub implication-Sound : Sound 1 (read.implication inner) (either (trees.term x) (trees.implication x))
  unfolding read.implication
  implication-Sound = record {
    takes = λ ts a rest h. let d = bind_ok (read.disjunction inner ts) (read.implied inner) a rest h in implied-takes ts d.value d.mid a rest (disjunction-Sound.takes ts d.value d.mid d.first) d.second;
  }

  pub any-Sound : Sound 1 (read.any inner) (either (trees.term x) (trees.predicate x))
  unfolding read.any
  any-Sound = predicates-Sound (read.implication inner) (trees.term x) (trees.implication x) 1 implication-Sound (same w.Equivalent)

-- ---- at each depth

pub record SoundAt (n : ℕ) : Type 0 where
  pub any : Sound 1 (inner_at n).any (either (writes_at n).term (writes_at n).predicate)
  pub factor : Sound 1 (inner_at n).factor (writes_at n).factor
  pub literal : Sound 1 (inner_at n).literal (writes_at n).literal
  pub implication : Sound 1 (inner_at n).implication (writes_at n).implication
  pub location : Sound 1 (inner_at n).location (writes_at n).location
  pub name : Sound 1 (inner_at n).name (writes_at n).name

pub sound_at : (n : ℕ) → SoundAt n
unfolding inner_at
sound_at zero =
    record {
      any = record { takes = λ ts a rest h. cc };
      factor = record { takes = λ ts a rest h. cc };
      literal = record { takes = λ ts a rest h. cc };
      implication = record { takes = λ ts a rest h. cc };
      location = record { takes = λ ts a rest h. cc };
      name = record { takes = λ ts a rest h. cc };
    }
sound_at (suc n) =
    let s = sound_at n in
    let x = writes_at n in
    let j = inner_at n in
    record {
      any = any-Sound x j s.any s.factor s.literal s.implication s.location s.name;
      factor = a_term-Sound _ (trees.factor x) (enclosed x) 1 (factor-Sound x j s.any s.factor);
      literal = a_predicate-Sound _ (trees.term x) (trees.literal x) 1 (literal-Sound x j s.any s.factor s.literal s.implication s.location s.name);
      implication = a_predicate-Sound _ (trees.term x) (trees.implication x) 1 (implication-Sound x j s.any s.factor s.literal s.implication s.location s.name);
      location = location-Sound x j s.any s.factor;
      name = record { takes = took is_name };
    }
