-- Things one after another: both directions.
use Rattle.std.proofs.Common.{◌≡◌, ℕ, zero, suc, ◌+◌, ◌<◌, ◌≤◌, Bool, true, false, ◌||◌, cond, List, [], ◌∷◌, ◌++◌, length, Option, Some, None, refl, sym, ap, subst, ◌∙◌, ⊎_elim, append_assoc, append-nil, length-append, arith}
use Rattle.c_words.specs.declared.word.Word.{Word}
use Rattle.c_words.specs.declared.word.Word.TheVariants as w
use Rattle.c_words.specs.declared.word.Leaf.{Leaf}
use Rattle.c_words.specs.Written.{Written, nothing, ◌then◌, one, one_of, run, Takes}
use Rattle.c_words.specs.Parsing.{Leaves, Parser, and_then, ◌>>=◌, pure, word_at, take_if, run_from, run_at}
use Rattle.c_words.proofs.Taking.{Takes-nothing, nothing-Takes, Takes-then, then-Takes}
use Rattle.c_words.proofs.Reading.{bind_ok, gives_bind, chosen, choose, refuse_test, same_pair, Sound, Complete, Ends, Starts, first_of_neither, second_of_neither, take_if-takes, take_if-gives, take_if-word}

module _ {A : Type 0} (begins : Word → Bool) (item : Parser A) (f : A → Written) (k : ℕ) (sound : Sound k item f) (some : 0 < k) where
  record More (found : List A) (ts : Leaves) (all : List A) (rest : Leaves) : Type 0 where
    pub more : List A
    pub joined : all ≡ found ++ more
    pub takes : Takes k ts (run f more) rest

  none_more : (found : List A) (ts : Leaves) (all : List A) (rest : Leaves) → pure found ts ≡ Some (all, rest) → More found ts all rest
  unfolding run
  none_more found ts all rest h =
      let q = same_pair h in
      record { more = []; joined = sym q.0 ∙ sym (append-nil found); takes = subst (λ r. Takes k ts nothing r) q.1 (Takes-nothing k ts some) }

  one_more : (next : List A → Parser (List A)) (found : List A) (ts : Leaves) (all : List A) (rest : Leaves)
      → ((found : List A) (ts : Leaves) (all : List A) (rest : Leaves) → next found ts ≡ Some (all, rest) → More found ts all rest)
      → (item >>= (λ x. next (found ++ x ∷ []))) ts ≡ Some (all, rest) → More found ts all rest
  unfolding run
  one_more next found ts all rest known h =
      let x = bind_ok (item ts) _ all rest h in
      let i = known (found ++ x.value ∷ []) x.mid all rest x.second in
      record { more = x.value ∷ i.more; joined = i.joined ∙ append_assoc found (x.value ∷ []) i.more; takes = Takes-then (sound.takes ts x.value x.mid x.first) i.takes }

  run_from-takes : (n : ℕ) (found : List A) (ts : Leaves) (all : List A) (rest : Leaves) → run_from begins item n found ts ≡ Some (all, rest) → More found ts all rest
  unfolding run_from
  run_from-takes zero found ts all rest h = none_more found ts all rest h
  run_from-takes (suc n) found ts all rest h =
      ⊎_elim (λ q. one_more (run_from begins item n) found ts all rest (run_from-takes n) q.1) (λ q. none_more found ts all rest q.1) (chosen (begins (word_at ts)) _ _ ts _ h)

  pub run-Sound : Sound k (run_at begins item) (run f)
  unfolding run_at
  run-Sound = record {
    takes = λ ts all rest h.
        let i = run_from-takes (length ts) [] ts all rest h in
        subst (λ all. Takes k ts (run f all) rest) (sym i.joined) i.takes;
  }

-- what goes on with a tree may depend on the tree
pub record CompleteBy {A : Type 0} (k : ℕ) (p : Parser A) (f : A → Written) (goes_on : A → Word → Bool) : Type 0 where
  pub gives : (ts : Leaves) (a : A) (rest : Leaves) → Takes k ts (f a) rest → Ends (goes_on a) rest → p ts ≡ Some (a, rest)

pub complete_by : {A : Type 0} {k : ℕ} {p : Parser A} {f : A → Written} {goes_on : Word → Bool} → Complete k p f goes_on → CompleteBy k p f (λ a. goes_on)
complete_by c = record { gives = c.gives }

module _ {A : Type 0} (begins : Word → Bool) (item : Parser A) (f : A → Written) (k : ℕ) (goes_on : A → Word → Bool) (complete : CompleteBy k item f goes_on)
    (starts : Starts f begins) (apart : (a : A) (x : Word) → begins x ≡ true → goes_on a x ≡ false) (no_end : begins w.End ≡ false) where
  item_ends : (a : A) (xs : List A) (ts rest : Leaves) → Takes k ts (run f xs) rest → ((a : A) → Ends (goes_on a) rest) → Ends (goes_on a) ts
  unfolding run
  item_ends a [] ts rest h end = rw (nothing-Takes h) (end a)
  item_ends a (x ∷ xs) ts rest h end = let t = then-Takes h in record { ends = apart a _ (starts.word k ts x t.mid t.first) }

  run_from-gives : (xs : List A) (n : ℕ) → length xs ≤ n → (found : List A) (ts rest : Leaves) → Takes k ts (run f xs) rest → begins (word_at rest) ≡ false → ((a : A) → Ends (goes_on a) rest)
      → run_from begins item n found ts ≡ Some (found ++ xs, rest)
  unfolding run run_from
  run_from-gives [] zero le found ts rest h over end = rw (append-nil found, nothing-Takes h) refl
  run_from-gives [] (suc n) le found ts rest h over end = rw (append-nil found, nothing-Takes h) (refuse_test (begins (word_at rest)) _ _ rest over)
  run_from-gives (x ∷ xs) zero le found ts rest h over end = absurd (omega arith)
  run_from-gives (x ∷ xs) (suc n) le found ts rest h over end =
      let t = then-Takes h in
      choose (begins (word_at ts)) _ _ ts (starts.word k ts x t.mid t.first)
      ∙ gives_bind _ (complete.gives ts x t.mid t.first (item_ends x xs t.mid rest t.second end)) (run_from-gives xs n (omega arith) (found ++ x ∷ []) t.mid rest t.second over end)
      ∙ ap (λ all. Some (all, rest)) (append_assoc found (x ∷ []) xs)

  takes_one : (ts : Leaves) (x : A) (mid : Leaves) → Takes k ts (f x) mid → length mid < length ts
  unfolding word_at
  takes_one ts x mid h =
      some (f x).leaves (starts.word k (f x).leaves x [] (record { spelled = sym (append-nil (f x).leaves); levelled = h.levelled; below = h.below })) h.spelled
    where
      some : (xs : Leaves) → begins (word_at xs) ≡ true → ts ≡ xs ++ mid → length mid < length ts
      some [] b e = cc
      some (y ∷ ys) b e = omega (arith, ap length e, length-append ys mid)

  run_fit : (xs : List A) (ts rest : Leaves) → Takes k ts (run f xs) rest → length xs ≤ length ts
  unfolding run
  run_fit [] ts rest h = omega arith
  run_fit (x ∷ xs) ts rest h = let t = then-Takes h in omega (arith, takes_one ts x t.mid t.first, run_fit xs t.mid rest t.second)

  pub run-gives : (ts : Leaves) (xs : List A) (rest : Leaves) → Takes k ts (run f xs) rest → begins (word_at rest) ≡ false → ((a : A) → Ends (goes_on a) rest) → run_at begins item ts ≡ Some (xs, rest)
  unfolding run_at
  run-gives ts xs rest h over end = run_from-gives xs (length ts) (run_fit xs ts rest h) [] ts rest h over end

-- where what goes on doesn't depend on the tree
pub run-Complete : {A : Type 0} (begins : Word → Bool) (item : Parser A) (f : A → Written) (k : ℕ) (goes_on : Word → Bool) → Complete k item f goes_on → Starts f begins
    → ((x : Word) → begins x ≡ true → goes_on x ≡ false) → begins w.End ≡ false → Complete k (run_at begins item) (run f) (λ x. begins x || goes_on x)
run-Complete begins item f k goes_on complete starts apart no_end = record {
  gives = λ ts xs rest h end.
      run-gives begins item f k (λ a. goes_on) (complete_by complete) starts (λ a. apart) no_end ts xs rest h
      (first_of_neither _ _ end.ends) (λ a. record { ends = second_of_neither _ _ end.ends });
}

-- ---- runs of one token

pub tokens-Sound : (test : Word → Bool) (k : ℕ) → 0 < k → Sound k (run_at test (take_if test)) (run (one_of test))
tokens-Sound test k some = run-Sound test _ _ k (record { takes = λ ts t rest h. take_if-takes k some test ts t rest h }) some

pub tokens-Complete : (test : Word → Bool) (k : ℕ) → test w.End ≡ false → Complete k (run_at test (take_if test)) (run (one_of test)) test
tokens-Complete test k no_end =
    let c = run-Complete test (take_if test) (one_of test) k (λ x. false) (record { gives = λ ts t rest h end. take_if-gives test t h })
    (record { word = λ k ts t rest h. take_if-word test t h }) (λ x h. refl) no_end in
    record { gives = λ ts xs rest h end. c.gives ts xs rest h (record { ends = or_false _ end.ends }) }
  where
    or_false : (b : Bool) → b ≡ false → (b || false) ≡ false
    or_false true h = h
    or_false false h = refl
