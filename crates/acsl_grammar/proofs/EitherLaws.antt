-- A parser of terms or of something else: both directions.
use Rattle.std.proofs.Common.{◌≡◌, ℕ, Bool, true, false, ◌||◌, Some, refl, ap, ◌∙◌}
use Rattle.c_words.specs.declared.word.Word.{Word}
use Rattle.c_words.specs.declared.chain.Chain.{Chain}
use Rattle.c_words.specs.Written.{Written, chain, Takes}
use Rattle.c_words.specs.Parsing.{Leaves, Outcome, Parser, and_then, chain_at, chain_by, next_is}
use Rattle.c_words.proofs.Reading.{bind_ok, gives_bind, same_pair, finish, Sound, Complete, Ends, second_of_neither}
use Rattle.c_words.proofs.Chains.{chain-Sound, chain-Complete}
use Rattle.acsl_grammar.specs.TermReading.{Either, ATerm, NoTerm, term_of, predicate_of, a_term, a_predicate, from_term, from_predicate, terms, predicates}

-- what one or the other writes
abbrev pub either : {T P : Type 0} → (T → Written) → (P → Written) → Either T P → Written
either f g (ATerm t) = f t
either f g (NoTerm p) = g p

module _ {T P : Type 0} (p : Parser (Either T P)) (f : T → Written) (g : P → Written) (k : ℕ) where
  -- ---- what is read is written

  module _ (sound : Sound k p (either f g)) where
    pub a_term-Sound : Sound k (a_term p) f
    unfolding a_term
    a_term-Sound = record {
      takes = λ ts t rest h. let x = bind_ok (p ts) term_of t rest h in of ts t rest x.value x.mid (sound.takes ts x.value x.mid x.first) x.second;
    }
      where
        of : (ts : Leaves) (t : T) (rest : Leaves) (v : Either T P) (mid : Leaves) → Takes k ts (either f g v) mid → term_of v mid ≡ Some (t, rest) → Takes k ts (f t) rest
        of ts t rest (ATerm u) mid takes h = finish f refl h takes
        of ts t rest (NoTerm q) mid takes h = cc

    pub a_predicate-Sound : Sound k (a_predicate p) g
    unfolding a_predicate
    a_predicate-Sound = record {
      takes = λ ts t rest h. let x = bind_ok (p ts) predicate_of t rest h in of ts t rest x.value x.mid (sound.takes ts x.value x.mid x.first) x.second;
    }
      where
        of : (ts : Leaves) (t : P) (rest : Leaves) (v : Either T P) (mid : Leaves) → Takes k ts (either f g v) mid → predicate_of v mid ≡ Some (t, rest) → Takes k ts (g t) rest
        of ts t rest (ATerm u) mid takes h = cc
        of ts t rest (NoTerm q) mid takes h = finish g refl h takes

    pub terms-Sound : (op : Word → Bool) → Sound k (terms op p) (either (chain op f) g)
    unfolding terms
    terms-Sound op = record {
      takes = λ ts a rest h. let x = bind_ok (p ts) (from_term (chain_at op (a_term p)) ts) a rest h in of ts a rest x.value x.mid (sound.takes ts x.value x.mid x.first) x.second;
    }
      where
        of : (ts : Leaves) (a : Either (Chain T) P) (rest : Leaves) (v : Either T P) (mid : Leaves) → Takes k ts (either f g v) mid
            → from_term (chain_at op (a_term p)) ts v mid ≡ Some (a, rest) → Takes k ts (either (chain op f) g a) rest
        of ts a rest (ATerm u) mid takes h =
            let c = bind_ok (chain_at op (a_term p) ts) _ a rest h in
            finish (either (chain op f) g) refl c.second ((chain-Sound (next_is op) op (a_term p) f k a_term-Sound).takes ts c.value c.mid c.first)
        of ts a rest (NoTerm q) mid takes h = finish (either (chain op f) g) refl h takes

    pub predicates-Sound : (op : Word → Bool) → Sound k (predicates op p) (either f (chain op g))
    unfolding predicates
    predicates-Sound op = record {
      takes = λ ts a rest h. let x = bind_ok (p ts) (from_predicate (chain_at op (a_predicate p)) ts) a rest h in of ts a rest x.value x.mid (sound.takes ts x.value x.mid x.first) x.second;
    }
      where
        of : (ts : Leaves) (a : Either T (Chain P)) (rest : Leaves) (v : Either T P) (mid : Leaves) → Takes k ts (either f g v) mid
            → from_predicate (chain_at op (a_predicate p)) ts v mid ≡ Some (a, rest) → Takes k ts (either f (chain op g) a) rest
        of ts a rest (ATerm u) mid takes h = finish (either f (chain op g)) refl h takes
        of ts a rest (NoTerm q) mid takes h =
            let c = bind_ok (chain_at op (a_predicate p) ts) _ a rest h in
            finish (either f (chain op g)) refl c.second ((chain-Sound (next_is op) op (a_predicate p) g k a_predicate-Sound).takes ts c.value c.mid c.first)

  -- ---- what is written is read

  module _ (goes_on : Word → Bool) (complete : Complete k p (either f g) goes_on) where
    pub a_term-Complete : Complete k (a_term p) f goes_on
    unfolding a_term
    a_term-Complete = record { gives = λ ts t rest h end. gives_bind term_of (complete.gives ts (ATerm t) rest h end) refl }

    pub a_predicate-Complete : Complete k (a_predicate p) g goes_on
    unfolding a_predicate
    a_predicate-Complete = record { gives = λ ts q rest h end. gives_bind predicate_of (complete.gives ts (NoTerm q) rest h end) refl }

    -- where a term is read by itself, it is read where a predicate might stand
    read_first : (ts : Leaves) (t : T) (mid : Leaves) → a_term p ts ≡ Some (t, mid) → p ts ≡ Some (ATerm t, mid)
    unfolding a_term
    read_first ts t mid h = let x = bind_ok (p ts) term_of t mid h in x.first ∙ of x.value x.mid x.second
      where
        of : (v : Either T P) (m : Leaves) → term_of v m ≡ Some (t, mid) → ◌≡◌ {A = Outcome (Either T P)} (Some (v, m)) (Some (ATerm t, mid))
        of (ATerm u) m h = let q = same_pair h in ap (λ u. Some (ATerm u, m)) q.0 ∙ ap (λ m. Some (ATerm t, m)) q.1
        of (NoTerm q) m h = cc

    read_first_predicate : (ts : Leaves) (t : P) (mid : Leaves) → a_predicate p ts ≡ Some (t, mid) → p ts ≡ Some (NoTerm t, mid)
    unfolding a_predicate
    read_first_predicate ts t mid h = let x = bind_ok (p ts) predicate_of t mid h in x.first ∙ of x.value x.mid x.second
      where
        of : (v : Either T P) (m : Leaves) → predicate_of v m ≡ Some (t, mid) → ◌≡◌ {A = Outcome (Either T P)} (Some (v, m)) (Some (NoTerm t, mid))
        of (ATerm u) m h = cc
        of (NoTerm q) m h = let q = same_pair h in ap (λ u. Some (NoTerm u, m)) q.0 ∙ ap (λ m. Some (NoTerm t, m)) q.1

    pub terms-Complete : (op : Word → Bool) → ((w : Word) → op w ≡ true → goes_on w ≡ false) → Complete k (terms op p) (either (chain op f) g) (λ w. op w || goes_on w)
    unfolding terms chain_by
    terms-Complete op apart = record { gives = of }
      where
        of : (ts : Leaves) (a : Either (Chain T) P) (rest : Leaves) → Takes k ts (either (chain op f) g a) rest → Ends (λ w. op w || goes_on w) rest
            → and_then (p ts) (from_term (chain_at op (a_term p)) ts) ≡ Some (a, rest)
        of ts (ATerm c) rest h end =
            let whole = (chain-Complete op (a_term p) f k goes_on a_term-Complete apart).gives ts c rest h end in
            let first = bind_ok (a_term p ts) _ c rest whole in
            gives_bind (from_term (chain_at op (a_term p)) ts) (read_first ts first.value first.mid first.first) (gives_bind _ whole refl)
        of ts (NoTerm q) rest h end =
            gives_bind (from_term (chain_at op (a_term p)) ts) (complete.gives ts (NoTerm q) rest h (record { ends = second_of_neither _ _ end.ends })) refl

    pub predicates-Complete : (op : Word → Bool) → ((w : Word) → op w ≡ true → goes_on w ≡ false) → Complete k (predicates op p) (either f (chain op g)) (λ w. op w || goes_on w)
    unfolding predicates chain_by
    predicates-Complete op apart = record { gives = of }
      where
        of : (ts : Leaves) (a : Either T (Chain P)) (rest : Leaves) → Takes k ts (either f (chain op g) a) rest → Ends (λ w. op w || goes_on w) rest
            → and_then (p ts) (from_predicate (chain_at op (a_predicate p)) ts) ≡ Some (a, rest)
        of ts (ATerm t) rest h end =
            gives_bind (from_predicate (chain_at op (a_predicate p)) ts) (complete.gives ts (ATerm t) rest h (record { ends = second_of_neither _ _ end.ends })) refl
        of ts (NoTerm c) rest h end =
            let whole = (chain-Complete op (a_predicate p) g k goes_on a_predicate-Complete apart).gives ts c rest h end in
            let first = bind_ok (a_predicate p ts) _ c rest whole in
            gives_bind (from_predicate (chain_at op (a_predicate p)) ts) (read_first_predicate ts first.value first.mid first.first) (gives_bind _ whole refl)
