-- Operations run one after another.
use Rattle.std.proofs.Common.{◌≡◌, List, [], ◌∷◌, ◌++◌, refl, sym, ap, ◌∙◌}
use Rattle.std.specs.Prelude.{Ok, Err}
use Rattle.acsl_postfix.specs.declared.operation.Operation.{Operation}
use Rattle.acsl_postfix.specs.Forms.{Form, then_one}
use Rattle.acsl_rules.specs.Checked.{Checked, ◌>>=◌}
use Rattle.acsl_rules.specs.Rules.{Known}
use Rattle.acsl_steps.specs.Machine.{State, step, run}

pub bind_assoc : {A B C : Type 0} (r : Checked A) (f : A → Checked B) (g : B → Checked C) → ((r >>= f) >>= g) ≡ (r >>= (λ a. f a >>= g))
bind_assoc (Ok a) f g = refl
bind_assoc (Err e) f g = refl

pub bind_same : {A B : Type 0} (r : Checked A) {f g : A → Checked B} → ((a : A) → f a ≡ g a) → (r >>= f) ≡ (r >>= g)
bind_same (Ok a) h = h a
bind_same (Err e) h = refl

pub bind_ok : {A : Type 0} (r : Checked A) → (r >>= (λ a. Ok a)) ≡ r
bind_ok (Ok a) = refl
bind_ok (Err e) = refl

module _ (s : Known) where
  pub run_more : (ops : List Operation) (o : Operation) (m : State) → run s (ops ++ o ∷ []) m ≡ (run s ops m >>= step s o)
  unfolding run
  run_more [] o m = bind_ok (step s o m)
  run_more (p ∷ ops) o m = bind_same (step s p m) (λ n. run_more ops o n) ∙ sym (bind_assoc (step s p m) (run s ops) (step s o))

  -- what the form adds goes on in this way
  pub record Makes (form : Form) (next : State → Checked State) : Type 0 where
    pub runs : (ops : List Operation) (m : State) → run s (form ops) m ≡ (run s ops m >>= next)

  pub makes_nothing : Makes (λ ops. ops) (λ n. Ok n)
  makes_nothing = record { runs = λ ops m. sym (bind_ok (run s ops m)) }

  pub makes_one : (o : Operation) → Makes (λ ops. then_one ops o) (step s o)
  makes_one o = record { runs = λ ops m. run_more ops o m }

  pub makes_both : (form more : Form) (next later : State → Checked State) → Makes form next → Makes more later → Makes (λ ops. more (form ops)) (λ n. next n >>= later)
  makes_both form more next later h k =
      record { runs = λ ops m. k.runs (form ops) m ∙ ap (λ r. r >>= later) (h.runs ops m) ∙ bind_assoc (run s ops m) next later }

  pub makes_same : (form : Form) (next other : State → Checked State) → Makes form next → ((n : State) → next n ≡ other n) → Makes form other
  makes_same form next other h e = record { runs = λ ops m. h.runs ops m ∙ bind_same (run s ops m) e }
