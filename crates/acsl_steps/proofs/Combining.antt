-- Operations on one and on two operands.
use Rattle.std.proofs.Common.{◌≡◌, List, [], ◌∷◌, ◌++◌, refl, sym, ap, ◌∙◌}
use Rattle.std.specs.Prelude.{Ok, Err}
use Rattle.acsl_postfix.specs.declared.operation.Operation.{Operation}
use Rattle.acsl_postfix.specs.Forms.{Form, then_one}
use Rattle.acsl_rules.specs.Checked.{Checked, ◌>>=◌}
use Rattle.acsl_rules.specs.Parts.{Part}
use Rattle.acsl_rules.specs.Rules.{Known}
use Rattle.acsl_steps.specs.Machine.{State, state, push_part, on_part, step, run}
use Rattle.acsl_steps.proofs.Runs.{bind_assoc, bind_same, bind_ok, Makes, makes_nothing, makes_one, makes_both, makes_same}

module _ (s : Known) where
  -- the form makes one part more
  abbrev pub MakesPart : Form → Checked Part → Type 0
  MakesPart form r = Makes s form (λ n. r >>= (λ a. Ok (push_part a n)))

  pub same_part : (form : Form) (r q : Checked Part) → MakesPart form r → r ≡ q → MakesPart form q
  same_part form r q h e = makes_same s form _ _ h (λ n. ap (λ r. r >>= (λ a. Ok (push_part a n))) e)

  -- one operation on the last part
  pub unary : {C : Type 0} (form : Form) (r : Checked Part) (o : Operation) (f : Part → Checked C) (push : C → State → State) → MakesPart form r
      → ((a : Part) (n : State) → step s o (push_part a n) ≡ (f a >>= (λ c. Ok (push c n))))
      → Makes s (λ ops. then_one (form ops) o) (λ n. (r >>= f) >>= (λ c. Ok (push c n)))
  unary form r o f push h e =
      makes_same s (λ ops. then_one (form ops) o) _ _ (makes_both s form (λ ops. then_one ops o) _ _ h (makes_one s o))
      (λ n. bind_assoc r (λ a. Ok (push_part a n)) (step s o) ∙ bind_same r (λ a. e a n) ∙ sym (bind_assoc r f (λ c. Ok (push c n))))

  -- two operands, each with an operation of its own, and one on both
  pub binary : {C : Type 0} (form operand : Form) (r w : Checked Part) (first second last : Operation) (v1 v2 : Part → Checked Part) (f : Part → Part → Checked C) (push : C → State → State)
      → MakesPart form r → MakesPart operand w
      → ((a : Part) (n : State) → step s first (push_part a n) ≡ (v1 a >>= (λ b. Ok (push_part b n))))
      → ((a : Part) (n : State) → step s second (push_part a n) ≡ (v2 a >>= (λ b. Ok (push_part b n))))
      → ((a b : Part) (n : State) → step s last (push_part b (push_part a n)) ≡ (f a b >>= (λ c. Ok (push c n))))
      → Makes s (λ ops. then_one (then_one (operand (then_one (form ops) first)) second) last) (λ n. (r >>= (λ a. v1 a >>= (λ x. w >>= (λ b. v2 b >>= (λ y. f x y))))) >>= (λ c. Ok (push c n)))
  binary form operand r w first second last v1 v2 f push h k e1 e2 e3 =
      let g = unary form r first v1 push_part h e1 in
      let l = unary operand w second v2 push_part k e2 in
      makes_same s (λ ops. then_one (then_one (operand (then_one (form ops) first)) second) last) _ _
      (makes_both s (λ ops. then_one (operand (then_one (form ops) first)) second) (λ ops. then_one ops last) _ _
      (makes_both s (λ ops. then_one (form ops) first) (λ ops. then_one (operand ops) second) _ _ g l) (makes_one s last))
      whole
    where
      -- with the first operand made
      second_made : (x : Part) (n : State) (q : Checked Part) → ((q >>= (λ y. Ok (push_part y (push_part x n)))) >>= step s last) ≡ ((q >>= (λ y. f x y)) >>= (λ c. Ok (push c n)))
      second_made x n q = bind_assoc q (λ y. Ok (push_part y (push_part x n))) (step s last) ∙ bind_same q (λ y. e3 x y n) ∙ sym (bind_assoc q (f x) (λ c. Ok (push c n)))

      whole : (n : State)
          → ((((r >>= v1) >>= (λ x. Ok (push_part x n))) >>= (λ n. (w >>= v2) >>= (λ y. Ok (push_part y n)))) >>= step s last)
          ≡ ((r >>= (λ a. v1 a >>= (λ x. w >>= (λ b. v2 b >>= (λ y. f x y))))) >>= (λ c. Ok (push c n)))
      whole n =
          ap (λ q. q >>= step s last) (bind_assoc (r >>= v1) (λ x. Ok (push_part x n)) (λ n. (w >>= v2) >>= (λ y. Ok (push_part y n))))
          ∙ bind_assoc (r >>= v1) (λ x. (w >>= v2) >>= (λ y. Ok (push_part y (push_part x n)))) (step s last)
          ∙ bind_same (r >>= v1) (λ x. second_made x n (w >>= v2) ∙ ap (λ q. q >>= (λ c. Ok (push c n))) (bind_assoc w v2 (f x)))
          ∙ sym (bind_assoc (r >>= v1) (λ x. w >>= (λ b. v2 b >>= (λ y. f x y))) (λ c. Ok (push c n)))
          ∙ ap (λ q. q >>= (λ c. Ok (push c n))) (bind_assoc r v1 (λ x. w >>= (λ b. v2 b >>= (λ y. f x y))))
