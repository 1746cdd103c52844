-- Many items, one after another.
use Rattle.std.proofs.Common.{◌≡◌, ℕ, zero, suc, ◌+◌, ◌<◌, ◌≤◌, Bool, true, false, cond, if◌then◌else◌, List, [], ◌∷◌, ◌++◌, Some, None, refl, sym, ap, subst, ◌∙◌, ⊎_elim, append_assoc, append-nil, arith}
use Rattle.std.specs.Prelude.{sum_by}
use Rattle.std.proofs.lemmas.List.Sums.{sum_by-cons}
use Rattle.c_parser.specs.FirstForm.Spelling.{Word}
use Rattle.c_parser.specs.FirstForm.Reading.{Left, Outcome, Parser, and_then, many_from, many}
use Rattle.c_parser.proofs.FirstForm.Taking.{Takes, Takes-none, ◌then◌, before, bind_ok, gives_bind, same_pair, chosen}

-- ---- a loop that reads items: what the whole gives is what the items that are left give after those that were found
module _ {A : Type 0} (starts : List Word → Bool) (item : List A → Parser A) where
  pub record Turn (whole : Outcome (List A)) (found : List A) (s : Left) : Type 0 where
    pub turns : ℕ
    pub enough : s.budget ≤ turns
    pub same : whole ≡ many_from starts item turns found s

  pub Turn-first : (s : Left) → Turn (many starts item s) [] s
  unfolding many
  Turn-first s = record { turns = s.budget; enough = omega arith; same = refl }

  goes_on : (n : ℕ) (found : List A) (s : Left) → starts s.words ≡ true → many_from starts item (suc n) found s ≡ and_then (item found s) (λ x. many_from starts item n (found ++ x ∷ []))
  unfolding many_from
  goes_on n found s h = ap (λ b. cond b (and_then (item found s) (λ x. many_from starts item n (found ++ x ∷ []))) (Some (found, s))) h

  pub Turn-next : (whole : Outcome (List A)) (found : List A) (s next : Left) (x : A) → Turn whole found s → starts s.words ≡ true → item found s ≡ Some (x, next) → next.budget < s.budget
      → Turn whole (found ++ x ∷ []) next
  Turn-next whole found s next x t h e falls = at_turn t.turns t.enough t.same
    where
      at_turn : (n : ℕ) → s.budget ≤ n → whole ≡ many_from starts item n found s → Turn whole (found ++ x ∷ []) next
      at_turn zero enough same = absurd (omega arith)
      at_turn (suc n) enough same =
          record { turns = n; enough = omega arith; same = same ∙ goes_on n found s h ∙ ap (λ o. and_then o (λ x. many_from starts item n (found ++ x ∷ []))) e }

  stuck : (n : ℕ) (found : List A) (s : Left) → starts s.words ≡ true → item found s ≡ None → many_from starts item n found s ≡ None
  unfolding many_from
  stuck zero found s h e = ap (λ b. cond b None (Some (found, s))) h
  stuck (suc n) found s h e = goes_on n found s h ∙ ap (λ o. and_then o (λ x. many_from starts item n (found ++ x ∷ []))) e

  pub Turn-fails : (whole : Outcome (List A)) (found : List A) (s : Left) → Turn whole found s → starts s.words ≡ true → item found s ≡ None → whole ≡ None
  Turn-fails whole found s t h e = t.same ∙ stuck t.turns found s h e

  ends : (n : ℕ) (found : List A) (s : Left) → starts s.words ≡ false → many_from starts item n found s ≡ Some (found, s)
  unfolding many_from
  ends zero found s h = ap (λ b. cond b None (Some (found, s))) h
  ends (suc n) found s h = ap (λ b. cond b (and_then (item found s) (λ x. many_from starts item n (found ++ x ∷ []))) (Some (found, s))) h

  pub Turn-last : (whole : Outcome (List A)) (found : List A) (s : Left) → Turn whole found s → starts s.words ≡ false → whole ≡ Some (found, s)
  Turn-last whole found s t h = t.same ∙ ends t.turns found s h

-- ---- both directions
abbrev pub total : {A : Type 0} → (A → ℕ) → List A → ℕ
total cost [] = 0
total cost (x ∷ xs) = cost x + total cost xs

pub total-sum_by : {A : Type 0} (cost : A → ℕ) (xs : List A) → total cost xs ≡ sum_by cost xs
total-sum_by cost [] = refl
total-sum_by cost (x ∷ xs) = ap (λ n. cost x + n) (total-sum_by cost xs) ∙ sym (sum_by-cons cost x xs)

module _ {A : Type 0} (written : List A → A → List Word) (cost : A → ℕ) (Fits : List A → A → Type 0) where
  -- what the items write after those that were found
  abbrev pub all_written : List A → List A → List Word
  all_written found [] = []
  all_written found (x ∷ xs) = written found x ++ all_written (found ++ x ∷ []) xs

  abbrev pub AllFit : List A → List A → Type 0
  AllFit found [] = Unit {0}
  AllFit found (x ∷ xs) = Fits found x × AllFit (found ++ x ∷ []) xs

  pub record More (found : List A) (s : Left) (all : List A) (rest : Left) : Type 0 where
    pub more : List A
    pub joined : all ≡ found ++ more
    pub takes : Takes s (all_written found more) (total cost more) rest
    pub fit : AllFit found more

  module _ (starts : List Word → Bool) (item : List A → Parser A) where
    none_more : (found : List A) (s rest : Left) (all : List A) → ◌≡◌ {A = Outcome (List A)} (Some (found, s)) (Some (all, rest)) → More found s all rest
    none_more found s rest all h =
        let e = same_pair h in
        record { more = []; joined = sym e.0 ∙ sym (append-nil found); takes = subst (λ r. Takes s [] 0 r) e.1 (Takes-none s); fit = tt }

    module _ (sound : (found : List A) (s rest : Left) (x : A) → item found s ≡ Some (x, rest) → Takes s (written found x) (cost x) rest × Fits found x) where
      one_more : (next : List A → Parser (List A)) → ((found : List A) (s rest : Left) (all : List A) → next found s ≡ Some (all, rest) → More found s all rest)
          → (found : List A) (s rest : Left) (all : List A) → and_then (item found s) (λ x. next (found ++ x ∷ [])) ≡ Some (all, rest) → More found s all rest
      one_more next known found s rest all e =
          let t = bind_ok (item found s) _ all rest e in
          let first = sound found s t.mid t.value t.first in
          let i = known (found ++ t.value ∷ []) t.mid rest all t.second in
          record { more = t.value ∷ i.more; joined = i.joined ∙ append_assoc found (t.value ∷ []) i.more; takes = first.0 then i.takes; fit = (first.1, i.fit) }

      pub many_from-sound : (n : ℕ) (found : List A) (s rest : Left) (all : List A) → many_from starts item n found s ≡ Some (all, rest) → More found s all rest
      unfolding many_from
      many_from-sound zero found s rest all h = by_test (starts s.words) h
        where
          by_test : (b : Bool) → cond {A = Outcome (List A)} b None (Some (found, s)) ≡ Some (all, rest) → More found s all rest
          by_test true e = cc
          by_test false e = none_more found s rest all e
      many_from-sound (suc n) found s rest all h =
          ⊎_elim (λ q. one_more (many_from starts item n) (many_from-sound n) found s rest all q.1) (λ q. none_more found s rest all q.1)
          (chosen (starts s.words) (and_then (item found s) (λ x. many_from starts item n (found ++ x ∷ []))) (Some (found, s)) _ h)

    module _ (complete : (found : List A) (x : A) (rest : Left) → Fits found x → item found (before (written found x) (cost x) rest) ≡ Some (x, rest))
        (begins : (found : List A) (x : A) (ws : List Word) → Fits found x → starts (written found x ++ ws) ≡ true) (some : (x : A) → 1 ≤ cost x) where
      pub many_from-complete : (more : List A) (n : ℕ) (found : List A) (rest : Left) → AllFit found more → total cost more ≤ n → starts rest.words ≡ false
          → many_from starts item n found (before (all_written found more) (total cost more) rest) ≡ Some (found ++ more, rest)
      many_from-complete [] n found rest fit enough h =
          let e : 0 + rest.budget ≡ rest.budget = omega arith in
          rw (e, append-nil found) (ends starts item n found rest h)
      many_from-complete (x ∷ more) zero found rest fit enough h = let one = some x in absurd (omega arith)
      many_from-complete (x ∷ more) (suc n) found rest fit enough h =
          let next = before (all_written (found ++ x ∷ []) more) (total cost more) rest in
          let one = some x in
          let words = append_assoc (written found x) (all_written (found ++ x ∷ []) more) rest.words in
          let budget : cost x + total cost more + rest.budget ≡ cost x + (total cost more + rest.budget) = omega arith in
          rw (words, budget) (goes_on starts item n found (before (written found x) (cost x) next) (begins found x next.words fit.0)
          ∙ gives_bind _ (complete found x next fit.0) (many_from-complete more n (found ++ x ∷ []) rest fit.1 (omega arith) h)
          ∙ ap (λ all. Some (all, rest)) (append_assoc found (x ∷ []) more))
