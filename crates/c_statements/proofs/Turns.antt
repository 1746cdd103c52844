-- Turns of the loop that reads parts one after another.
use Rattle.std.proofs.Common.{◌≡◌, ℕ, suc, ◌+◌, ◌-◌, ◌<◌, ◌≤◌, Bool, true, false, List, [], ◌∷◌, ◌++◌, Some, None, refl, ap, ◌∙◌, arith}
use Rattle.c_words.specs.declared.word.Word.{Word}
use Rattle.c_words.specs.Parsing.{Leaves, Outcome, Parser, and_then, pure, word_at, run_from}
use Rattle.c_words.proofs.Reading.{bind_ok, gives_bind, choose, refuse_test, same_pair}

module _ {A : Type 0} (begins : Word → Bool) (part : Parser A) where
  pub no_turn_left : (turn end : ℕ) (found : List A) (ts : Leaves) → end ≤ turn → run_from begins part (end - turn) found ts ≡ Some (found, ts)
  unfolding run_from
  no_turn_left turn end found ts over = let e : end - turn ≡ 0 = omega arith in rw e refl

  one_turn : (turn end : ℕ) (found : List A) (ts : Leaves) → turn < end
      → run_from begins part (end - turn) found ts ≡ run_from begins part (suc (end - (turn + 1))) found ts
  one_turn turn end found ts more = let e : end - turn ≡ suc (end - (turn + 1)) = omega arith in rw e refl

  pub turn_ends : (turn end : ℕ) (found : List A) (ts : Leaves) → turn < end → begins (word_at ts) ≡ false → run_from begins part (end - turn) found ts ≡ Some (found, ts)
  unfolding run_from
  turn_ends turn end found ts more stop = one_turn turn end found ts more ∙ refuse_test (begins (word_at ts)) _ _ ts stop

  pub turn_refused : (turn end : ℕ) (found : List A) (ts : Leaves) → turn < end → begins (word_at ts) ≡ true → and_then (part ts) (λ x. pure (found ++ x ∷ [])) ≡ None
      → run_from begins part (end - turn) found ts ≡ None
  unfolding run_from
  turn_refused turn end found ts more go none = one_turn turn end found ts more ∙ choose (begins (word_at ts)) _ _ ts go ∙ refused (part ts) _ none
    where
      refused : {X : Type 0} (o : Outcome A) (f : A → Parser X) → and_then o (λ x. pure (found ++ x ∷ [])) ≡ None → and_then o f ≡ None
      refused None f e = refl
      refused (Some p) f e = cc

  pub turn_goes_on : (turn end : ℕ) (found more_found : List A) (ts rest : Leaves) → turn < end → begins (word_at ts) ≡ true
      → and_then (part ts) (λ x. pure (found ++ x ∷ [])) ≡ Some (more_found, rest)
      → run_from begins part (end - turn) found ts ≡ run_from begins part (end - (turn + 1)) more_found rest
  unfolding run_from
  turn_goes_on turn end found more_found ts rest more go one =
      let x = bind_ok (part ts) _ more_found rest one in
      let q = same_pair x.second in
      one_turn turn end found ts more ∙ choose (begins (word_at ts)) _ _ ts go
      ∙ gives_bind _ x.first (ap (λ f. run_from begins part (end - (turn + 1)) f x.mid) q.0 ∙ ap (λ r. run_from begins part (end - (turn + 1)) more_found r) q.1)
