-- What declarations and statements keep of the names and locals of a body, one after another.
use Rattle.std.proofs.Common.{◌≡◌, ℕ, true, List, [], ◌∷◌, ◌++◌, length, Ok, Err, sym, ap, ◌∙◌, append_assoc, append-nil}
use Rattle.std.specs.Prelude.{nat_le, IsTrue}
use Rattle.std.specs.List.{AllByRecursion}
use Rattle.step_meaning.specs.declared.program.Declared.{Declared as Named}
use Rattle.step_meaning.specs.declared.program.Function.{Function as CoreFunction}
use Rattle.step_meaning.specs.TypeRules.{keeps_rules}
use Rattle.step_meaning.specs.Identifiers.{is_name}
use Rattle.typing_rules.specs.Checked.{Checked}
use Rattle.typing_rules.specs.Environment.{Environment, Scope}
use Rattle.typing_rules.specs.Statements.{Frame, Does, pure, ◌>>=◌, opened, tail, closed, in_scope, seen as seen_in_body, checked}
use Rattle.typing_rules.specs.FileScope.{Program, seen_now}
use Rattle.typing_laws.specs.SmallTypes.{WhereOk}
use Rattle.typing_laws.proofs.CheckedValues.{then_holds, weaker}
use Rattle.typing_laws.proofs.Completion.{AreLocals}

abbrev pub Nothing : {A : Type 0} → A → Type 0
Nothing a = Unit {0}

-- in the function with this body in the core
module _ (p : Program) (fn : CoreFunction) where
  pub record FrameRight (f : Frame) : Type 0 where
    pub locals : AreLocals f.locals (length p.layouts) f.scopes
    pub keep : AllByRecursion (λ d. keeps_rules p.layouts d.ctype ≡ true) f.locals
    pub named : AllByRecursion (λ d. IsTrue (is_name d.name)) f.locals
    pub parameters : nat_le fn.params (length f.locals) ≡ true

  -- the locals so far are the first of the function's
  pub record InView (f : Frame) : Type 0 where
    pub more : List Named
    pub whole : fn.locals ≡ f.locals ++ more

  pub record Grows (f f' : Frame) : Type 0 where
    pub more : List Named
    pub whole : f'.locals ≡ f.locals ++ more

  pub grows_itself : (f : Frame) → Grows f f
  grows_itself f = record { more = []; whole = sym (append-nil f.locals) }

  grows_on : (f f' f'' : Frame) → Grows f f' → Grows f' f'' → Grows f f''
  grows_on f f' f'' a b = record { more = a.more ++ b.more; whole = b.whole ∙ ap (λ ds. ds ++ b.more) a.whole ∙ append_assoc f.locals a.more b.more }

  pub view_back : (f f' : Frame) → Grows f f' → InView f' → InView f
  view_back f f' a v = record { more = a.more ++ v.more; whole = v.whole ∙ ap (λ ds. ds ++ v.more) a.whole ∙ append_assoc f.locals a.more v.more }

  -- what is known of a result, and what holds of it where its locals are in view
  pub record After {A : Type 0} (U P : A → Type 0) (f : Frame) (r : A × Frame) : Type 0 where
    pub right : FrameRight r.1
    pub grows : Grows f r.1
    pub known : U r.0
    pub holds : InView r.1 → P r.0

  abbrev pub Keeps : {A : Type 0} → (A → Type 0) → (A → Type 0) → Does A → Type 0
  Keeps U P d = (f : Frame) → FrameRight f → WhereOk (After U P f) (d f)

  pub keeps_pure : {A : Type 0} (U P : A → Type 0) (a : A) → U a → P a → Keeps U P (pure a)
  keeps_pure U P a u k f h = record { right = h; grows = grows_itself f; known = u; holds = λ v. k }

  pub keeps_then : {A B : Type 0} (U P : A → Type 0) (V Q : B → Type 0) (d : Does A) (k : A → Does B) → Keeps U P d → ((a : A) → U a → Keeps V (λ b. P a → Q b) (k a)) → Keeps V Q (d >>= k)
  keeps_then U P V Q d k D K f h =
      then_holds (After U P f) (After V Q f) (d f) _ (D f h) (λ r a.
      weaker (After V (λ b. P r.0 → Q b) r.1) (After V Q f) (k r.0 r.1)
      (λ r' b. record { right = b.right; grows = grows_on f r.1 r'.1 a.grows b.grows; known = b.known; holds = λ v. b.holds v (a.holds (view_back r.1 r'.1 b.grows v)) })
      (K r.0 a.known r.1 a.right))

  pub keeps_weaker : {A : Type 0} (U P V Q : A → Type 0) (d : Does A) → ((a : A) → U a → V a) → ((a : A) → P a → Q a) → Keeps U P d → Keeps V Q d
  keeps_weaker U P V Q d k l D f h = weaker (After U P f) (After V Q f) (d f) (λ r a. record { right = a.right; grows = a.grows; known = k r.0 a.known; holds = λ v. l r.0 (a.holds v) }) (D f h)

  -- ---- rules on expressions

  each_view : {A : Type 0} (P : A → Type 0) (f : Frame) (c : Checked A) → (InView f → WhereOk P c) → WhereOk (λ a. InView f → P a) c
  each_view P f (Ok a) k = k
  each_view P f (Err e) k = tt

  both : {A : Type 0} (P Q : A → Type 0) (c : Checked A) → WhereOk P c → WhereOk Q c → WhereOk (λ a. P a × Q a) c
  both P Q (Ok a) h k = (h, k)
  both P Q (Err e) h k = tt

  pub keeps_checked : {A : Type 0} (U P : A → Type 0) (result : _) (c : Environment → Checked A) → ((f : Frame) → FrameRight f → WhereOk U (c (seen_in_body (seen_now p) result f)))
      → ((f : Frame) → FrameRight f → InView f → WhereOk P (c (seen_in_body (seen_now p) result f))) → Keeps U P (checked (seen_now p) result c)
  keeps_checked U P result c u k f h =
      let g : Environment = seen_in_body (seen_now p) result f in
      then_holds (λ a. U a × (InView f → P a)) (After U P f) (c g) _ (both U (λ a. InView f → P a) (c g) (u f h) (each_view P f (c g) (k f h))) (λ a l.
      record { right = h; grows = grows_itself f; known = l.0; holds = l.1 })

  -- ---- blocks

  opened_right : (f : Frame) → FrameRight f → FrameRight (opened f)
  opened_right f h = record { locals = (tt, h.locals); keep = h.keep; named = h.named; parameters = h.parameters }

  tail_right : (ds : List Named) (c : ℕ) (scopes : List Scope) → AreLocals ds c scopes → AreLocals ds c (tail scopes)
  tail_right ds c [] h = tt
  tail_right ds c (s ∷ ss) h = h.1

  closed_right : (f : Frame) → FrameRight f → FrameRight (closed f)
  closed_right f h = record { locals = tail_right f.locals (length p.layouts) f.scopes h.locals; keep = h.keep; named = h.named; parameters = h.parameters }

  pub keeps_scope : {A : Type 0} (U P : A → Type 0) (d : Does A) → Keeps U P d → Keeps U P (in_scope d)
  unfolding in_scope
  keeps_scope U P d D f h =
      then_holds (After U P (opened f)) (After U P f) (d (opened f)) _ (D (opened f) (opened_right f h)) (λ r a.
      record { right = closed_right r.1 a.right; grows = record { more = a.grows.more; whole = a.grows.whole }; known = a.known; holds = λ v. a.holds (record { more = v.more; whole = v.whole }) })
