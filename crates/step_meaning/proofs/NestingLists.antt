-- What steps that nest have in common: each activation has one function, one Enter, which is its first step, and at most one Return, which is its last.
use Rattle.std.proofs.Common.{◌≡◌, ℕ, zero, suc, ◌≤◌, ◌<◌, List, [], ◌∷◌, length, drop, Option, Some, None, refl, sym, ap, subst, inl, inr, arith}
use Rattle.std.specs.Prelude.{◌⊎◌, IsTrue}
use Rattle.step_meaning.specs.declared.value.Action.{Action}
use Rattle.step_meaning.specs.declared.value.Action.TheVariants as act
use Rattle.step_meaning.specs.declared.program.Core.{Core}
use Rattle.step_meaning.specs.Steps.{Step}
use Rattle.step_meaning.specs.State.{Here}
use Rattle.step_meaning.specs.Limits.{is_enter}
use Rattle.step_meaning.specs.Traced.{is_return, At}
use Rattle.step_meaning.proofs.Ranges.{false_is_not_true}
use Rattle.step_meaning.proofs.Falling.{Falls, falls_more}
use Rattle.step_meaning.proofs.Nesting.{maker, numbers, open_at, open_after, made_after, IsNext, Nest}

-- ---- elements of a list

pub same_some : {A : Type 0} (a b : A) → Some a ≡ Some b → a ≡ b
same_some a b e = ap (λ o. held o a) e
  where
    held : {A : Type 0} → Option A → A → A
    held None x = x
    held (Some y) x = y

nowhere : {A : Type 0} (i : ℕ) (s : Step) → At [] i s → A
nowhere i s e = absurd (no e)
  where
    no : None ≡ Some s → ⊥
    no e = cc

-- what holds of the first and of each later step holds of each
at_cons : (s : Step) (ss : List Step) (P : ℕ → Step → Type 0) → P 0 s → ((i : ℕ) (t : Step) → At ss i t → P (suc i) t) → (i : ℕ) (t : Step) → At (s ∷ ss) i t → P i t
at_cons s ss P h k zero t e = subst (P 0) (same_some s t e) h
at_cons s ss P h k (suc i) t e = k i t e

some_is_open : {A : Type 0} (h : Here) (hs : List Here) → (h ∷ hs) ≡ [] → A
some_is_open h hs e = absurd (no e)
  where
    no : (h ∷ hs) ≡ [] → ⊥
    no e = cc

-- ---- the order of steps

pub record Ordered (ss : List Step) : Type 0 where
  pub one_function : (i j : ℕ) (s t : Step) → At ss i s → At ss j t → s.activation ≡ t.activation → s.function ≡ t.function
  pub enters_first : (i j : ℕ) (s t : Step) → At ss i s → At ss j t → s.activation ≡ t.activation → IsTrue (is_enter s.action) → (i ≤ j) × (IsTrue (is_enter t.action) → i ≡ j)
  pub returns_last : (i j : ℕ) (s t : Step) → At ss i s → At ss j t → s.activation ≡ t.activation → IsTrue (is_return s.action) → j ≤ i
  pub main_ends : (i : ℕ) (s : Step) → At ss i s → s.activation ≡ 0 → IsTrue (is_return s.action) → suc i ≡ length ss

-- what the steps after a step have to keep
pub record Follow (s : Step) (ss : List Step) : Type 0 where
  pub same : (j : ℕ) (t : Step) → At ss j t → t.activation ≡ s.activation → t.function ≡ s.function
  pub no_enter : (j : ℕ) (t : Step) → At ss j t → t.activation ≡ s.activation → IsTrue (is_enter t.action) → ⊥
  pub returned : IsTrue (is_return s.action) → (j : ℕ) (t : Step) → At ss j t → t.activation ≡ s.activation → ⊥
  pub ended : IsTrue (is_return s.action) → s.activation ≡ 0 → length ss ≡ 0

ordered_cons : (s : Step) (ss : List Step) → Follow s ss → Ordered ss → Ordered (s ∷ ss)
ordered_cons s ss f o = record {
  one_function = λ i j x y a b. at_cons s ss (λ i x. x.activation ≡ y.activation → x.function ≡ y.function)
      (at_cons s ss (λ j y. s.activation ≡ y.activation → s.function ≡ y.function) (λ e. refl) (λ j y b e. sym (f.same j y b (sym e))) j y b)
      (λ i x a. at_cons s ss (λ j y. x.activation ≡ y.activation → x.function ≡ y.function) (λ e. f.same i x a e) (λ j y b e. o.one_function i j x y a b e) j y b)
      i x a;
  enters_first = λ i j x y a b. at_cons s ss (λ i x. x.activation ≡ y.activation → IsTrue (is_enter x.action) → (i ≤ j) × (IsTrue (is_enter y.action) → i ≡ j))
      (at_cons s ss (λ j y. s.activation ≡ y.activation → IsTrue (is_enter s.action) → (0 ≤ j) × (IsTrue (is_enter y.action) → 0 ≡ j)) (λ e h. (omega arith, λ k. refl)) (λ j y b e h. (omega arith, λ k. absurd (f.no_enter j y b (sym e) k))) j y b)
      (λ i x a. at_cons s ss (λ j y. x.activation ≡ y.activation → IsTrue (is_enter x.action) → (suc i ≤ j) × (IsTrue (is_enter y.action) → suc i ≡ j)) (λ e h. absurd (f.no_enter i x a e h)) (λ j y b e h. (more i j (o.enters_first i j x y a b e h).0, λ k. ap suc ((o.enters_first i j x y a b e h).1 k))) j y b)
      i x a;
  returns_last = λ i j x y a b. at_cons s ss (λ i x. x.activation ≡ y.activation → IsTrue (is_return x.action) → j ≤ i)
      (at_cons s ss (λ j y. s.activation ≡ y.activation → IsTrue (is_return s.action) → j ≤ 0) (λ e h. omega arith) (λ j y b e h. absurd (f.returned h j y b (sym e))) j y b)
      (λ i x a. at_cons s ss (λ j y. x.activation ≡ y.activation → IsTrue (is_return x.action) → j ≤ suc i) (λ e h. omega arith) (λ j y b e h. more j i (o.returns_last i j x y a b e h)) j y b)
      i x a;
  main_ends = at_cons s ss (λ i x. x.activation ≡ 0 → IsTrue (is_return x.action) → suc i ≡ suc (length ss)) (λ e h. ap suc (sym (f.ended h e))) (λ i x a e h. ap suc (o.main_ends i x a e h));
}
  where
    more : (i j : ℕ) → i ≤ j → suc i ≤ suc j
    more i j l = omega arith

-- ---- open activations

abbrev pub Open : List Here → Here → Type 0
Open [] x = ⊥
Open (h ∷ hs) x = (x ≡ h) ⊎ Open hs x

abbrev pub Descends : List Here → ℕ → Type 0
Descends hs n = Falls (numbers hs) n

open_below : (hs : List Here) (n : ℕ) (x : Here) → Descends hs n → Open hs x → x.activation < n
open_below [] n x d o = absurd o
open_below (h ∷ hs) n x d (inl e) = subst (λ y. y.activation < n) (sym e) d.0
open_below (h ∷ hs) n x d (inr o) = let l : x.activation < h.activation = open_below hs h.activation x d.1 o in let m : h.activation < n = d.0 in omega arith

none_below : (hs : List Here) (n : ℕ) → Descends hs n → n ≡ 0 → hs ≡ []
none_below [] n d e = refl
none_below (h ∷ hs) n d e = absurd (no h.activation n d.0 e)
  where
    no : (m n : ℕ) → m < n → n ≡ 0 → ⊥
    no m n l e = omega arith

abbrev pub Entered : List Step → ℕ → Step → Type 0
Entered ss i s = (j : ℕ) × (t : Step) × (j ≤ i) × At ss j t × (t.activation ≡ s.activation) × IsTrue (is_enter t.action)

-- what is known of the steps from there on, where these activations are open and so many were made
pub record Known (hs : List Here) (n : ℕ) (ss : List Step) : Type 0 where
  pub nothing : hs ≡ [] → 1 ≤ n → length ss ≡ 0
  pub known : (i : ℕ) (s : Step) → At ss i s → Open hs (maker s) ⊎ (n ≤ s.activation)
  pub entered : (i : ℕ) (s : Step) → At ss i s → Open hs (maker s) ⊎ Entered ss i s
  pub enters_new : (i : ℕ) (s : Step) → At ss i s → IsTrue (is_enter s.action) → n ≤ s.activation

none_known : (hs : List Here) (n : ℕ) → Known hs n []
none_known hs n = record { nothing = λ e l. refl; known = λ i s e. nowhere i s e; entered = λ i s e. nowhere i s e; enters_new = λ i s e. nowhere i s e }

none_ordered : Ordered []
none_ordered = record { one_function = λ i j s t a. nowhere i s a; enters_first = λ i j s t a. nowhere i s a; returns_last = λ i j s t a. nowhere i s a; main_ends = λ i s a. nowhere i s a }

module _ (s : Step) (ss : List Step) where
  entered_later : (i : ℕ) (t : Step) → Entered ss i t → Entered (s ∷ ss) (suc i) t
  entered_later i t x = (suc x.0, x.1, more x.0 i x.2, x.3, x.4, x.5)
    where
      more : (i j : ℕ) → i ≤ j → suc i ≤ suc j
      more i j l = omega arith

  -- ---- after an Enter

  module _ (hs : List Here) (n : ℕ) (d : Descends hs n) (enter : IsTrue (is_enter s.action)) (number : s.activation ≡ n) (k : Known (maker s ∷ hs) (suc n) ss) where
    after_enter : (no_return : IsTrue (is_return s.action) → ⊥) → Follow s ss
    after_enter no_return = record {
      same = λ j t a e. by t e (k.known j t a);
      no_enter = λ j t a e x. above t e (k.enters_new j t a x);
      returned = λ r. absurd (no_return r);
      ended = λ r. absurd (no_return r);
    }
      where
        above : (t : Step) → t.activation ≡ s.activation → suc n ≤ t.activation → ⊥
        above t e l = omega arith

        below : (t : Step) → t.activation ≡ s.activation → t.activation < n → ⊥
        below t e l = omega arith

        by : (t : Step) → t.activation ≡ s.activation → Open (maker s ∷ hs) (maker t) ⊎ (suc n ≤ t.activation) → t.function ≡ s.function
        by t e (inl (inl p)) = ap (λ h. h.function) p
        by t e (inl (inr o)) = absurd (below t e (open_below hs n (maker t) d o))
        by t e (inr l) = absurd (above t e l)

    enter_known : (hs ≡ [] → n ≡ 0) → Known hs n (s ∷ ss)
    enter_known first = record {
      nothing = λ e l. absurd (made n l (first e));
      known = at_cons s ss (λ i t. Open hs (maker t) ⊎ (n ≤ t.activation)) (inr (omega arith)) (λ i t a. known_by t (k.known i t a));
      entered = at_cons s ss (λ i t. Open hs (maker t) ⊎ Entered (s ∷ ss) i t) (inr (0, s, omega arith, refl, refl, enter)) (λ i t a. entered_by i t (k.entered i t a));
      enters_new = at_cons s ss (λ i t. IsTrue (is_enter t.action) → n ≤ t.activation) (λ x. omega arith) (λ i t a x. less t (k.enters_new i t a x));
    }
      where
        made : (n : ℕ) → 1 ≤ n → n ≡ 0 → ⊥
        made n l e = omega arith

        less : (t : Step) → suc n ≤ t.activation → n ≤ t.activation
        less t l = omega arith

        own : (t : Step) → t.activation ≡ s.activation → n ≤ t.activation
        own t e = omega arith

        known_by : (t : Step) → Open (maker s ∷ hs) (maker t) ⊎ (suc n ≤ t.activation) → Open hs (maker t) ⊎ (n ≤ t.activation)
        known_by t (inl (inl p)) = inr (own t (ap (λ h. h.activation) p))
        known_by t (inl (inr o)) = inl o
        known_by t (inr l) = inr (less t l)

        entered_by : (i : ℕ) (t : Step) → Open (maker s ∷ hs) (maker t) ⊎ Entered ss i t → Open hs (maker t) ⊎ Entered (s ∷ ss) (suc i) t
        entered_by i t (inl (inl p)) = inr (0, s, omega arith, refl, sym (ap (λ h. h.activation) p), enter)
        entered_by i t (inl (inr o)) = inl o
        entered_by i t (inr x) = inr (entered_later i t x)

  -- ---- after another step, by the innermost activation

  module _ (outer : List Here) (n : ℕ) (d : Descends (maker s ∷ outer) n) (no_enter : IsTrue (is_enter s.action) → ⊥) where
    not_new : (t : Step) → t.activation ≡ s.activation → n ≤ t.activation → ⊥
    not_new t e l = let m : s.activation < n = d.0 in omega arith

    not_outer : (t : Step) → t.activation ≡ s.activation → Open outer (maker t) → ⊥
    not_outer t e o = let l : t.activation < s.activation = open_below outer s.activation (maker t) d.1 o in omega arith

    after_inner : (IsTrue (is_return s.action) → ⊥) → Known (maker s ∷ outer) n ss → Follow s ss
    after_inner no_return k = record {
      same = λ j t a e. by t e (k.known j t a);
      no_enter = λ j t a e x. not_new t e (k.enters_new j t a x);
      returned = λ r. absurd (no_return r);
      ended = λ r. absurd (no_return r);
    }
      where
        by : (t : Step) → t.activation ≡ s.activation → Open (maker s ∷ outer) (maker t) ⊎ (n ≤ t.activation) → t.function ≡ s.function
        by t e (inl (inl p)) = ap (λ h. h.function) p
        by t e (inl (inr o)) = absurd (not_outer t e o)
        by t e (inr l) = absurd (not_new t e l)

    inner_known : Known (maker s ∷ outer) n ss → Known (maker s ∷ outer) n (s ∷ ss)
    inner_known k = record {
      nothing = λ e l. some_is_open (maker s) outer e;
      known = at_cons s ss (λ i t. Open (maker s ∷ outer) (maker t) ⊎ (n ≤ t.activation)) (inl (inl refl)) k.known;
      entered = at_cons s ss (λ i t. Open (maker s ∷ outer) (maker t) ⊎ Entered (s ∷ ss) i t) (inl (inl refl)) (λ i t a. entered_by i t (k.entered i t a));
      enters_new = at_cons s ss (λ i t. IsTrue (is_enter t.action) → n ≤ t.activation) (λ x. absurd (no_enter x)) k.enters_new;
    }
      where
        entered_by : (i : ℕ) (t : Step) → Open (maker s ∷ outer) (maker t) ⊎ Entered ss i t → Open (maker s ∷ outer) (maker t) ⊎ Entered (s ∷ ss) (suc i) t
        entered_by i t (inl o) = inl o
        entered_by i t (inr x) = inr (entered_later i t x)

    after_return : Known outer n ss → Follow s ss
    after_return k = record {
      same = λ j t a e. absurd (by t e (k.known j t a));
      no_enter = λ j t a e x. not_new t e (k.enters_new j t a x);
      returned = λ r j t a e. by t e (k.known j t a);
      ended = λ r e. k.nothing (none_below outer s.activation d.1 e) (let m : s.activation < n = d.0 in omega arith);
    }
      where
        by : (t : Step) → t.activation ≡ s.activation → Open outer (maker t) ⊎ (n ≤ t.activation) → ⊥
        by t e (inl o) = not_outer t e o
        by t e (inr l) = not_new t e l

    return_known : Known outer n ss → Known (maker s ∷ outer) n (s ∷ ss)
    return_known k = record {
      nothing = λ e l. some_is_open (maker s) outer e;
      known = at_cons s ss (λ i t. Open (maker s ∷ outer) (maker t) ⊎ (n ≤ t.activation)) (inl (inl refl)) (λ i t a. known_by t (k.known i t a));
      entered = at_cons s ss (λ i t. Open (maker s ∷ outer) (maker t) ⊎ Entered (s ∷ ss) i t) (inl (inl refl)) (λ i t a. entered_by i t (k.entered i t a));
      enters_new = at_cons s ss (λ i t. IsTrue (is_enter t.action) → n ≤ t.activation) (λ x. absurd (no_enter x)) k.enters_new;
    }
      where
        known_by : (t : Step) → Open outer (maker t) ⊎ (n ≤ t.activation) → Open (maker s ∷ outer) (maker t) ⊎ (n ≤ t.activation)
        known_by t (inl o) = inl (inr o)
        known_by t (inr l) = inr l

        entered_by : (i : ℕ) (t : Step) → Open outer (maker t) ⊎ Entered ss i t → Open (maker s ∷ outer) (maker t) ⊎ Entered (s ∷ ss) (suc i) t
        entered_by i t (inl o) = inl (inr o)
        entered_by i t (inr x) = inr (entered_later i t x)

-- ---- the three sorts of a step

-- an Enter, another step of the innermost activation, or its Return: what is open before and after it, and how many were made after it
pub by_sort : (q : Core) (hs : List Here) (n : ℕ) (s : Step) → IsNext q hs n s → (P : List Here → List Here → ℕ → Type 0) →
    (IsTrue (is_enter s.action) → (IsTrue (is_return s.action) → ⊥) → s.activation ≡ n → (hs ≡ [] → n ≡ 0) → P hs (maker s ∷ hs) (suc n)) →
    ((IsTrue (is_enter s.action) → ⊥) → (IsTrue (is_return s.action) → ⊥) → (outer : List Here) → P (maker s ∷ outer) (maker s ∷ outer) n) →
    ((IsTrue (is_enter s.action) → ⊥) → (outer : List Here) → P (maker s ∷ outer) outer n) →
    P hs (open_after s.action (maker s) hs) (made_after s.action n)
by_sort q hs n s next P = by s.action next.innermost.0 next.innermost.1 next.is_new
  where
    by : (a : Action) (outer : List Here) → open_at a (maker s) hs ≡ (maker s ∷ outer) → (IsTrue (is_enter a) → (s.activation ≡ n) × (hs ≡ [] → n ≡ 0)) →
        (IsTrue (is_enter a) → (IsTrue (is_return a) → ⊥) → s.activation ≡ n → (hs ≡ [] → n ≡ 0) → P hs (maker s ∷ hs) (suc n)) →
        ((IsTrue (is_enter a) → ⊥) → (IsTrue (is_return a) → ⊥) → (outer : List Here) → P (maker s ∷ outer) (maker s ∷ outer) n) →
        ((IsTrue (is_enter a) → ⊥) → (outer : List Here) → P (maker s ∷ outer) outer n) →
        P hs (open_after a (maker s) hs) (made_after a n)
    by (act.Enter g vs) outer e new enters stays leaves = enters refl (λ x. false_is_not_true x) (new refl).0 (new refl).1
    by (act.Return g v) outer e new enters stays leaves = subst (λ x. P x (drop 1 x) n) (sym e) (leaves (λ x. false_is_not_true x) outer)
    by _ outer e new enters stays leaves = subst (λ x. P x x n) (sym e) (stays (λ x. false_is_not_true x) (λ x. false_is_not_true x) outer)

pub descends_in : (hs : List Here) (n : ℕ) (h : Here) → h.activation ≡ n → Descends hs n → Descends (h ∷ hs) (suc n)
descends_in hs n h e d = (omega arith, subst (Falls (numbers hs)) (sym e) d)

pub descends_out : (h : Here) (hs : List Here) (n : ℕ) → Descends (h ∷ hs) n → Descends hs n
descends_out h hs n d = falls_more (numbers hs) h.activation n (let l : h.activation < n = d.0 in omega arith) d.1

-- ---- all steps

pub nested_known : (q : Core) (hs : List Here) (n : ℕ) (ss : List Step) → Descends hs n → Nest q hs n ss → Known hs n ss × Ordered ss
nested_known q hs n [] d h = (none_known hs n, none_ordered)
nested_known q hs n (s ∷ ss) d h =
    by_sort q hs n s h.0 (λ before after made. Descends before n → Nest q after made ss → Known before n (s ∷ ss) × Ordered (s ∷ ss))
    (λ enter no_return number first d k. let r = nested_known q (maker s ∷ hs) (suc n) ss (descends_in hs n (maker s) number d) k in
    (enter_known s ss hs n d enter number r.0 first, ordered_cons s ss (after_enter s ss hs n d enter number r.0 no_return) r.1))
    (λ no_enter no_return outer d k. let r = nested_known q (maker s ∷ outer) n ss d k in
    (inner_known s ss outer n d no_enter r.0, ordered_cons s ss (after_inner s ss outer n d no_enter no_return r.0) r.1))
    (λ no_enter outer d k. let r = nested_known q outer n ss (descends_out (maker s) outer n d) k in
    (return_known s ss outer n d no_enter r.0, ordered_cons s ss (after_return s ss outer n d no_enter r.0) r.1))
    d h.1

-- the first step of a run is one of activation 0
pub first_number : (q : Core) (ss : List Step) → Nest q [] 0 ss → (s : Step) → At ss 0 s → s.activation ≡ 0
first_number q [] h s e = nowhere 0 s e
first_number q (x ∷ ss) h s e = subst (λ s. s.activation ≡ 0) (same_some x s e) (by_sort q [] 0 x h.0 (λ before after made. before ≡ [] → x.activation ≡ 0) (λ enter no_return number first b. number) (λ no_enter no_return outer b. some_is_open (maker x) outer b) (λ no_enter outer b. some_is_open (maker x) outer b) refl)
