-- What code makes of what there was, one step after another.
use Rattle.std.proofs.Common.{◌≡◌, ◌≢◌, Ok, Err, refl, sym, ap, subst, ◌∙◌}
use Rattle.std.specs.Prelude.{OnOk, IsErrAnd}
use Rattle.typing_rules.specs.declared.fault.TypeFault.{TypeFault}
use Rattle.typing_rules.specs.declared.fault.TypeFault.TheVariants as fault
use Rattle.typing_rules.specs.Checked.{Checked, ◌>>=◌, Gives}
use Rattle.typing_files.specs.Points.{Becomes}

pub on_ok : {P Q : Type 0} (r : Checked (Unit {0})) → OnOk r P → (P → Q) → OnOk r Q
on_ok (Ok u) h k = k h
on_ok (Err e) h k = tt

module _ {A B : Type 0} where
  pub then_same : (c : Checked A) (f g : A → Checked B) → ((a : A) → f a ≡ g a) → (c >>= f) ≡ (c >>= g)
  then_same (Ok a) f g h = h a
  then_same (Err e) f g h = refl

  pub then_then : {C : Type 0} (c : Checked A) (f : A → Checked B) (g : B → Checked C) → ((c >>= f) >>= g) ≡ (c >>= (λ a. f a >>= g))
  then_then (Ok a) f g = refl
  then_then (Err e) f g = refl

  -- the first step breaks a rule
  pub broken : (o : Checked A) (c : Checked B) (f : B → Checked A) (r : Checked (Unit {0})) (e : TypeFault) (a : A) → o ≡ (c >>= f) → (e ≢ fault.Memory → c ≡ Err e) → IsErrAnd r (λ x. x ≡ e) → Becomes o r a
  broken o c f (Ok u) e a by h k = absurd k
  broken o c f (Err d) e a by h k = λ m. by ∙ ap (λ c. c >>= f) (h (subst (λ x. x ≢ fault.Memory) k m)) ∙ ap (λ x. Err x) (sym k)

  -- the first step gives this, and the second goes on with it
  pub goes_on : (o : Checked A) (c : Checked B) (f : B → Checked A) (b : B) (r : Checked (Unit {0})) (a : A) → o ≡ (c >>= f) → c ≡ Ok b → Becomes (f b) r a → Becomes o r a
  goes_on o c f b r a by e h = subst (λ x. Becomes x r a) (sym (by ∙ ap (λ c. c >>= f) e)) h

-- what was there is changed as it is meant to be
pub updated : {A : Type 0} (x y : A) (r : Checked (Unit {0})) → OnOk r (y ≡ x) → Gives (Ok tt) r → Becomes (Ok x) r y
updated x y (Ok u) h k = ap (λ z. Ok z) (sym h)
updated x y (Err e) h k = λ m. absurd (cc (k m))

pub fails : {A : Type 0} (o : Checked A) (r : Checked (Unit {0})) (e : TypeFault) (a : A) → (e ≢ fault.Memory → o ≡ Err e) → IsErrAnd r (λ x. x ≡ e) → Becomes o r a
fails o (Ok u) e a h k = absurd k
fails o (Err d) e a h k = λ m. h (subst (λ x. x ≢ fault.Memory) k m) ∙ ap (λ x. Err x) (sym k)

pub gives_fails : {A : Type 0} (o r : Checked A) (e : TypeFault) → (e ≢ fault.Memory → o ≡ Err e) → IsErrAnd r (λ x. x ≡ e) → Gives o r
gives_fails o (Ok u) e h k = absurd k
gives_fails o (Err d) e h k = λ m. h (subst (λ x. x ≢ fault.Memory) k m) ∙ ap (λ x. Err x) (sym k)

pub becomes_by : {A : Type 0} (o o' : Checked A) (r : Checked (Unit {0})) (a a' : A) → o ≡ o' → a ≡ a' → Becomes o r a → Becomes o' r a'
becomes_by o o' r a a' e f h = subst (λ x. Becomes x r a') e (subst (Becomes o r) f h)

pub gives_by : {A : Type 0} (o o' r : Checked A) → o ≡ o' → Gives o r → Gives o' r
gives_by o o' r e h = subst (λ x. Gives x r) e h
