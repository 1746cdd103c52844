-- Chains: both directions between a parser and what its chains write.
use Rattle.std.proofs.Common.{◌≡◌, ℕ, zero, suc, ◌+◌, ◌<◌, ◌≤◌, Bool, true, false, ◌||◌, cond, List, [], ◌∷◌, ◌++◌, length, Option, Some, None, refl, sym, ap, ap₂, subst, ◌∙◌, ◌⊎◌, ⊎_elim, append_assoc, append-nil, length-append, arith}
use Rattle.c_words.specs.declared.word.Word.{Word}
use Rattle.c_words.specs.declared.word.Leaf.{Leaf}
use Rattle.c_words.specs.declared.chain.Chain.{Chain}
use Rattle.c_words.specs.declared.chain.Link.{Link}
use Rattle.c_words.specs.Written.{Written, nothing, ◌then◌, one_of, links, chain, Takes}
use Rattle.c_words.specs.Parsing.{Leaves, Outcome, Parser, and_then, ◌>>=◌, pure, word_at, after, take_if, links_from, chain_by, chain_at, next_is}
use Rattle.c_words.proofs.Taking.{Takes-nothing, nothing-Takes, Takes-then, Split, then-Takes, Takes-one, one-Takes}
use Rattle.c_words.proofs.Reading.{bind_ok, gives_bind, chosen, choose, refuse_test, same_pair, first_of_neither, second_of_neither, Sound, Complete, Ends, Starts, take_if-takes, take_if-gives, take_if-word, after-one}

module _ {A : Type 0} (more_is : Leaves → Bool) (op : Word → Bool) (operand : Parser A) (f : A → Written) (k : ℕ) (sound : Sound k operand f) (some : 0 < k) where
  record More (found : List (Link A)) (ts : Leaves) (all : List (Link A)) (rest : Leaves) : Type 0 where
    pub more : List (Link A)
    pub joined : all ≡ found ++ more
    pub takes : Takes k ts (links op f more) rest

  none_more : (found : List (Link A)) (ts : Leaves) (all : List (Link A)) (rest : Leaves) → pure found ts ≡ Some (all, rest) → More found ts all rest
  unfolding links
  none_more found ts all rest h =
      let q = same_pair h in
      record { more = []; joined = sym q.0 ∙ sym (append-nil found); takes = subst (λ r. Takes k ts nothing r) q.1 (Takes-nothing k ts some) }

  one_more : (next : List (Link A) → Parser (List (Link A))) (found : List (Link A)) (ts : Leaves) (all : List (Link A)) (rest : Leaves)
      → ((found : List (Link A)) (ts : Leaves) (all : List (Link A)) (rest : Leaves) → next found ts ≡ Some (all, rest) → More found ts all rest)
      → (take_if op >>= (λ t. operand >>= (λ x. next (found ++ record { operator = t; operand = x } ∷ [])))) ts ≡ Some (all, rest) → More found ts all rest
  unfolding links
  one_more next found ts all rest known h =
      let t = bind_ok (take_if op ts) _ all rest h in
      let x = bind_ok (operand t.mid) _ all rest t.second in
      let link : Link A = record { operator = t.value; operand = x.value } in
      let i = known (found ++ link ∷ []) x.mid all rest x.second in
      record {
        more = link ∷ i.more;
        joined = i.joined ∙ append_assoc found (link ∷ []) i.more;
        takes = Takes-then (take_if-takes k some op ts t.value t.mid t.first) (Takes-then (sound.takes t.mid x.value x.mid x.first) i.takes);
      }

  links_from-takes : (n : ℕ) (found : List (Link A)) (ts : Leaves) (all : List (Link A)) (rest : Leaves)
      → links_from more_is op operand n found ts ≡ Some (all, rest) → More found ts all rest
  unfolding links_from
  links_from-takes zero found ts all rest h = none_more found ts all rest h
  links_from-takes (suc n) found ts all rest h =
      ⊎_elim (λ q. one_more (links_from more_is op operand n) found ts all rest (links_from-takes n) q.1) (λ q. none_more found ts all rest q.1)
      (chosen (more_is ts) _ _ ts _ h)

pub chain-Sound : {A : Type 0} (more_is : Leaves → Bool) (op : Word → Bool) (operand : Parser A) (f : A → Written) (k : ℕ) → Sound k operand f → Sound k (chain_by more_is op operand) (chain op f)
unfolding chain_by chain
chain-Sound more_is op operand f k sound = record {
  takes = λ ts a rest h.
      let x = bind_ok (operand ts) _ a rest h in
      let ls = bind_ok (links_from more_is op operand (length x.mid) [] x.mid) _ a rest x.second in
      let first = sound.takes ts x.value x.mid x.first in
      let i = links_from-takes more_is op operand f k sound (omega (arith, first.below)) (length x.mid) [] x.mid ls.value ls.mid ls.first in
      let q = same_pair ls.second in
      subst (λ c. Takes k ts (f c.first then links op f c.rest) rest) q.0
      (Takes-then first (subst (λ l. Takes k x.mid (links op f l) rest) (sym i.joined) (subst (λ r. Takes k x.mid (links op f i.more) r) q.1 i.takes)));
}

-- `begins` tests the word after an operator
module _ {A : Type 0} (more_is : Leaves → Bool) (op : Word → Bool) (operand : Parser A) (f : A → Written) (k : ℕ) (goes_on begins : Word → Bool)
    (complete : Complete k operand f goes_on) (starts : Starts f begins) (apart : (w : Word) → op w ≡ true → goes_on w ≡ false)
    (more_there : (ts : Leaves) → op (word_at ts) ≡ true → begins (word_at (after ts)) ≡ true → more_is ts ≡ true) where
  -- an operand ends where the chain goes on or ends
  operand_ends : (ls : List (Link A)) (ts rest : Leaves) → Takes k ts (links op f ls) rest → Ends goes_on rest → Ends goes_on ts
  unfolding links
  operand_ends [] ts rest h end = rw (nothing-Takes h) end
  operand_ends (l ∷ ls) ts rest h end = record { ends = apart _ (take_if-word op l.operator (then-Takes h).first) }

  links_from-gives : (ls : List (Link A)) (n : ℕ) → length ls ≤ n → (found : List (Link A)) (ts rest : Leaves) → Takes k ts (links op f ls) rest
      → more_is rest ≡ false → Ends goes_on rest → links_from more_is op operand n found ts ≡ Some (found ++ ls, rest)
  unfolding links links_from
  links_from-gives [] zero le found ts rest h over end = rw (append-nil found, nothing-Takes h) refl
  links_from-gives [] (suc n) le found ts rest h over end = rw (append-nil found, nothing-Takes h) (refuse_test (more_is rest) _ _ rest over)
  links_from-gives (l ∷ ls) zero le found ts rest h over end = absurd (omega arith)
  links_from-gives (l ∷ ls) (suc n) le found ts rest h over end =
      let s = then-Takes h in
      let t = then-Takes s.second in
      let ih = links_from-gives ls n (omega arith) (found ++ l ∷ []) t.mid rest t.second over end in
      let next = ap (λ x. begins (word_at x)) (after-one op l.operator s.first) ∙ starts.word k s.mid l.operand t.mid t.first in
      choose (more_is ts) _ _ ts (more_there ts (take_if-word op l.operator s.first) next)
      ∙ gives_bind _ (take_if-gives op l.operator s.first) (gives_bind _ (complete.gives s.mid l.operand t.mid t.first (operand_ends ls t.mid rest t.second end)) ih)
      ∙ ap (λ all. Some (all, rest)) (append_assoc found (l ∷ []) ls)

  links_fit : (ls : List (Link A)) (ts rest : Leaves) → Takes k ts (links op f ls) rest → length ls ≤ length ts
  unfolding links
  links_fit [] ts rest h = omega arith
  links_fit (l ∷ ls) ts rest h =
      let s = then-Takes h in
      let t = then-Takes s.second in
      let e = one-Takes op l.operator s.first in
      let shorter = t.first.spelled in
      let ih = links_fit ls t.mid rest t.second in
      omega (arith, ap length e.0, ap length shorter, length-append (f l.operand).leaves t.mid, ih)

  pub chain-gives : (ts : Leaves) (a : Chain A) (rest : Leaves) → Takes k ts (chain op f a) rest → more_is rest ≡ false → Ends goes_on rest → chain_by more_is op operand ts ≡ Some (a, rest)
  unfolding chain_by chain
  chain-gives ts a rest h over end =
      let s = then-Takes h in
      gives_bind _ (complete.gives ts a.first s.mid s.first (operand_ends a.rest s.mid rest s.second end))
      (gives_bind _ (links_from-gives a.rest (length s.mid) (links_fit a.rest s.mid rest s.second) [] s.mid rest s.second over end) refl)

-- chains that go on at each operator
pub chain-Complete : {A : Type 0} (op : Word → Bool) (operand : Parser A) (f : A → Written) (k : ℕ) (goes_on : Word → Bool) → Complete k operand f goes_on
    → ((w : Word) → op w ≡ true → goes_on w ≡ false) → Complete k (chain_at op operand) (chain op f) (λ w. op w || goes_on w)
chain-Complete op operand f k goes_on complete apart = record {
  gives = λ ts a rest h end.
      chain-gives (next_is op) op operand f k goes_on (λ x. true) complete (record { word = λ k ts a rest h. refl }) apart (λ ts e b. e) ts a rest h
      (first_of_neither _ _ end.ends) (record { ends = second_of_neither _ _ end.ends });
}

pub chain-Starts : {A : Type 0} (op : Word → Bool) (f : A → Written) (test : Word → Bool) → Starts f test → Starts (chain op f) test
unfolding chain
chain-Starts op f test starts = record { word = λ k ts a rest h. let s = then-Takes h in starts.word k ts a.first s.mid s.first }
