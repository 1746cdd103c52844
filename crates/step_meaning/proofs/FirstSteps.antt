-- Larger bounds give the same first steps, and a spent bound has been made in steps.
use Rattle.std.proofs.Common.{◌≡◌, ℕ, zero, suc, ◌+◌, ◌≤◌, ◌∷◌, take, length, refl, sym, ap, subst, ◌∙◌, arith}
use Rattle.step_meaning.specs.Steps.{Step, Verdict, Made, Judged, End, More, Trace, Stop, Then, steps, end}
use Rattle.step_meaning.specs.Runs.{run}
use Rattle.step_meaning.specs.First.{first_items, SameFirstSteps}
use Rattle.step_meaning.proofs.Bounds.{IsReal, Counts, bounds_alike}

-- the trace up to its n-th step
abbrev pub cut : ℕ → Trace → Trace
cut zero t = Stop More
cut (suc n) (Stop e) = Stop e
cut (suc n) (Then (Made s) t) = Then (Made s) (cut n t)
cut (suc n) (Then (Judged v) t) = Then (Judged v) (cut (suc n) t)

-- ---- two traces that are the same up to their n-th step

abbrev pub Alike : ℕ → Trace → Trace → Type 0
Alike n t u = cut n t ≡ cut n u

judged_alike : (n : ℕ) (v : Verdict) (t u : Trace) → Alike n t u → Alike n (Then (Judged v) t) (Then (Judged v) u)
judged_alike zero v t u e = refl
judged_alike (suc n) v t u e = ap (Then (Judged v)) e

pub alike_counts : Counts Alike
alike_counts = record {
  none = λ t u. refl;
  stops = λ n e real. refl;
  makes = λ n s t u e. ap (Then (Made s)) e;
  judges = judged_alike;
}

-- ---- a trace that spends its bound after n steps or more

abbrev pub SpentLate : ℕ → Trace → Trace → Type 0
SpentLate n t u = end t ≡ More → n ≤ length (steps t)

not_spent : (n : ℕ) (e : End) → IsReal e → e ≡ More → n ≤ 0
not_spent n e real h = absurd (subst IsReal h real)

pub late_counts : Counts SpentLate
late_counts = record {
  none = λ t u h. omega arith;
  stops = not_spent;
  makes = λ n s t u a h. made_late n s t (a h);
  judges = λ n v t u a h. a h;
}
  where
    made_late : (n : ℕ) (s : Step) (t : Trace) → n ≤ length (steps t) → suc n ≤ length (s ∷ steps t)
    made_late n s t le = omega arith

-- ---- the law

pub steps_of_cut : (n : ℕ) (t : Trace) → steps (cut n t) ≡ take n (steps t)
steps_of_cut zero t = refl
steps_of_cut (suc n) (Stop e) = refl
steps_of_cut (suc n) (Then (Made s) t) = ap (λ ss. s ∷ ss) (steps_of_cut n t)
steps_of_cut (suc n) (Then (Judged v) t) = steps_of_cut (suc n) t

pub items_of_cut : (n : ℕ) (t : Trace) → first_items n (cut (suc n) t) ≡ first_items n t
items_of_cut n (Stop e) = refl
items_of_cut zero (Then (Made s) t) = refl
items_of_cut zero (Then (Judged v) t) = items_of_cut zero t
items_of_cut (suc n) (Then (Made s) t) = ap (Then (Made s)) (items_of_cut n t)
items_of_cut (suc n) (Then (Judged v) t) = ap (Then (Judged v)) (items_of_cut (suc n) t)

pub same_first : SameFirstSteps
same_first = record {
  same_steps = λ q input n k le.
      sym (steps_of_cut n (run q input k)) ∙ ap steps (bounds_alike Alike alike_counts q input n k (n + 1) (omega arith) (omega arith)) ∙ steps_of_cut n (run q input (n + 1));
  same_items = λ q input n k le.
      sym (items_of_cut n (run q input k)) ∙ ap (first_items n) (bounds_alike Alike alike_counts q input (suc n) k (n + 1) (omega arith) (omega arith)) ∙ items_of_cut n (run q input (n + 1));
  made_when_spent = λ q input n h.
      bounds_alike SpentLate late_counts q input (n + 1) (n + 1) (n + 1) (omega arith) (omega arith) h;
}
