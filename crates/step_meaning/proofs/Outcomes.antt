-- The outcome within limits that is computed along a run is the outcome.
use Rattle.std.proofs.Common.{◌≡◌, ℕ, zero, suc, ◌+◌, ◌≤◌, ◌<◌, Bool, true, false, cond, List, [], ◌∷◌, length, Option, Some, None, refl, sym, ap, subst, ◌∙◌, arith, ◌==◌}
use Rattle.std.specs.Prelude.{slice_get, nat_lt, ◌&&◌, ◌||◌, not, IsTrue, IsFalse}
use Rattle.std.proofs.Math.Dec.{eqb-suc-suc, eqb-zero-suc}
use Rattle.step_meaning.specs.declared.program.Core.{Core}
use Rattle.step_meaning.specs.Steps.{Step, Verdict, Made, Judged, Exit, Fault, More, Trace, Stop, Then, steps, end}
use Rattle.step_meaning.specs.Runs.{run, start_memory}
use Rattle.step_meaning.specs.Limits.{chunks, passes_calls, passes_cells, LimitedEnd, Exited, Faulted, Spent, CallsFull, CellsFull, Outcome, own_end, stops_calls, MayMake, end_after, IsOutcomeOf, IsOutcome, EndsBy, one_more, outcome_of, OutcomeComputed}
use Rattle.step_meaning.proofs.Bounds.{bounds_alike}
use Rattle.step_meaning.proofs.FirstSteps.{SpentLate, late_counts}

some_inj : {A : Type 0} (a b : A) → Some a ≡ Some b → a ≡ b
some_inj a b e = ap (λ o. or o a) e
  where
    or : {A : Type 0} → Option A → A → A
    or None x = x
    or (Some y) x = y

true_is_not_false : true ≡ false → ⊥
true_is_not_false e = subst (λ b. cond b (Unit {0}) ⊥) e tt

module _ (c d : ℕ) where
  -- no step is made
  makes_none : (n : ℕ) (ss : List Step) → MayMake c d n ss 0
  makes_none n ss = record { up_to = omega arith; exist = omega arith; within = λ i s lt e. absurd (omega arith) }

  -- ---- one step more

  makes_more : (n m : ℕ) (s : Step) (ss : List Step) → IsFalse (passes_calls d s || passes_cells c s) → MayMake c d n ss m → MayMake c d (suc n) (s ∷ ss) (suc m)
  makes_more n m s ss ok may = record { up_to = up may.up_to; exist = longer may.exist; within = inside }
    where
      up : m ≤ n → suc m ≤ suc n
      up le = omega arith

      longer : m ≤ length ss → suc m ≤ length (s ∷ ss)
      longer le = omega arith

      inside : (i : ℕ) (z : Step) → i < suc m → slice_get (s ∷ ss) i ≡ Some z → IsFalse (passes_calls d z || passes_cells c z)
      inside zero z lt e = subst (λ z. IsFalse (passes_calls d z || passes_cells c z)) (some_inj s z e) ok
      inside (suc i) z lt e = may.within i z (omega arith) e

  makes_fewer : (n m : ℕ) (s : Step) (ss : List Step) → MayMake c d (suc n) (s ∷ ss) (suc m) → MayMake c d n ss m
  makes_fewer n m s ss may = record { up_to = down may.up_to; exist = shorter may.exist; within = λ i z lt e. may.within (suc i) z (omega arith) e }
    where
      down : suc m ≤ suc n → m ≤ n
      down le = omega arith

      shorter : suc m ≤ length (s ∷ ss) → m ≤ length ss
      shorter le = omega arith

  end_after_step : (n m : ℕ) (s : Step) (t : Trace) → end_after c d (suc n) (Then (Made s) t) (suc m) ≡ end_after c d n t m
  end_after_step n m s t =
      let rest : LimitedEnd = cond (stops_calls d (slice_get (steps t) m)) CallsFull CellsFull in
      ap (λ b. cond b (own_end (end t)) (cond (suc m == suc n) Spent rest)) (eqb-suc-suc m (length (steps t)))
      ∙ ap (λ b. cond (m == length (steps t)) (own_end (end t)) (cond b Spent rest)) (eqb-suc-suc m n)

  one_step : (n : ℕ) (s : Step) (t : Trace) (o : Outcome) → IsFalse (passes_calls d s || passes_cells c s) → IsOutcomeOf c d n t o → IsOutcomeOf c d (suc n) (Then (Made s) t) (one_more o)
  one_step n s t o ok a = record { made = makes_more n o.made s (steps t) ok a.made; greatest = most; ends = a.ends ∙ sym (end_after_step n o.made s t) }
    where
      most : (k : ℕ) → MayMake c d (suc n) (s ∷ steps t) k → k ≤ suc o.made
      most zero may = omega arith
      most (suc k) may = up k (a.greatest k (makes_fewer n k s (steps t) may))
        where
          up : (k : ℕ) → k ≤ o.made → suc k ≤ suc o.made
          up k le = omega arith

  -- ---- an Enter that passes a limit

  makes_only_none : (n k : ℕ) (s : Step) (ss : List Step) → IsTrue (passes_calls d s || passes_cells c s) → MayMake c d n (s ∷ ss) k → k ≤ 0
  makes_only_none n zero s ss e may = omega arith
  makes_only_none n (suc k) s ss e may = absurd (true_is_not_false (sym e ∙ may.within 0 s (omega arith) refl))

  refused : (n : ℕ) (s : Step) (t : Trace) (e : LimitedEnd) → IsTrue (passes_calls d s || passes_cells c s) → cond (passes_calls d s) CallsFull CellsFull ≡ e → IsOutcomeOf c d (suc n) (Then (Made s) t) (record { made = 0; end = e })
  refused n s t e full is =
      let last : LimitedEnd = cond (passes_calls d s) CallsFull CellsFull in
      record {
        made = makes_none (suc n) (s ∷ steps t);
        greatest = λ k may. makes_only_none (suc n) k s (steps t) full may;
        ends = sym is
            ∙ sym (ap (λ b. cond b (own_end (end t)) (cond (0 == suc n) Spent last)) (eqb-zero-suc (length (steps t)))
            ∙ ap (λ b. cond b Spent last) (eqb-zero-suc n));
      }

  -- ---- along a run

  spent_now : (s : Step) (t : Trace) → IsOutcomeOf c d 0 (Then (Made s) t) (record { made = 0; end = Spent })
  spent_now s t =
      record {
        made = makes_none 0 (s ∷ steps t);
        greatest = λ k may. may.up_to;
        ends = sym (ap (λ b. cond b (own_end (end t)) Spent) (eqb-zero-suc (length (steps t))));
      }

  ended_now : (n : ℕ) (t : Trace) → steps t ≡ [] → IsOutcomeOf c d n t (record { made = 0; end = own_end (end t) })
  ended_now n t none =
      record {
        made = makes_none n (steps t);
        greatest = λ k may. subst (λ ss. k ≤ length ss) none may.exist;
        ends = sym (ap (λ ss. cond (0 == length ss) (own_end (end t)) (cond (0 == n) Spent (cond (stops_calls d (slice_get ss 0)) CallsFull CellsFull))) none);
      }

  at_step : (n : ℕ) (s : Step) (t : Trace) (b b' : Bool) → passes_calls d s ≡ b → passes_cells c s ≡ b' → IsOutcomeOf c d n t (outcome_of c d n t) →
      IsOutcomeOf c d (suc n) (Then (Made s) t) (cond b (record { made = 0; end = CallsFull }) (cond b' (record { made = 0; end = CellsFull }) (one_more (outcome_of c d n t))))
  at_step n s t true b' e e' a = refused n s t CallsFull (ap (λ b. b || passes_cells c s) e) (ap (λ b. cond b CallsFull CellsFull) e)
  at_step n s t false true e e' a = refused n s t CellsFull (ap (λ b. b || passes_cells c s) e ∙ e') (ap (λ b. cond b CallsFull CellsFull) e)
  at_step n s t false false e e' a = one_step n s t (outcome_of c d n t) (ap (λ b. b || passes_cells c s) e ∙ e') a

  pub along : (n : ℕ) (t : Trace) → IsOutcomeOf c d n t (outcome_of c d n t)
  along n (Stop e) = ended_now n (Stop e) refl
  along n (Then (Judged v) t) = judged (along n t)
    where
      judged : IsOutcomeOf c d n t (outcome_of c d n t) → IsOutcomeOf c d n (Then (Judged v) t) (outcome_of c d n t)
      judged a = record { made = a.made; greatest = a.greatest; ends = a.ends }
  along zero (Then (Made s) t) = spent_now s t
  along (suc n) (Then (Made s) t) = at_step n s t (passes_calls d s) (passes_cells c s) refl refl (along n t)

  pub only_one : (n : ℕ) (t : Trace) (o p : Outcome) → IsOutcomeOf c d n t o → IsOutcomeOf c d n t p → o ≡ p
  only_one n t o p a b =
      let same : o.made ≡ p.made = le_antisym (b.greatest o.made a.made) (a.greatest p.made b.made) in
      ap (λ m. record { made = m; end = o.end }) same
      ∙ ap (λ e. record { made = p.made; end = e }) (a.ends ∙ ap (end_after c d n t) same ∙ sym b.ends)
    where
      le_antisym : {m k : ℕ} → m ≤ k → k ≤ m → m ≡ k
      le_antisym le le' = omega arith

-- ---- why the run ends

module _ (c d : ℕ) where
  ends_more : (n : ℕ) (s : Step) (t : Trace) (m : ℕ) (e : LimitedEnd) → EndsBy c d n t m e → EndsBy c d (suc n) (Then (Made s) t) (suc m) e
  ends_more n s t m (Exited v) h = (ap (λ k. suc k) h.0, h.1)
  ends_more n s t m (Faulted f) h = (ap (λ k. suc k) h.0, h.1)
  ends_more n s t m Spent h = (ap (λ k. suc k) h.0, longer h.1)
    where
      longer : n < length (steps t) → suc n < length (s ∷ steps t)
      longer lt = omega arith
  ends_more n s t m CallsFull h = (sooner h.0, h.1)
    where
      sooner : m < n → suc m < suc n
      sooner lt = omega arith
  ends_more n s t m CellsFull h = (sooner h.0, h.1)
    where
      sooner : m < n → suc m < suc n
      sooner lt = omega arith

  ends_judged : (n : ℕ) (v : Verdict) (t : Trace) (m : ℕ) (e : LimitedEnd) → EndsBy c d n t m e → EndsBy c d n (Then (Judged v) t) m e
  ends_judged n v t m (Exited x) h = h
  ends_judged n v t m (Faulted f) h = h
  ends_judged n v t m Spent h = h
  ends_judged n v t m CallsFull h = h
  ends_judged n v t m CellsFull h = h

  late_after : (n : ℕ) (s : Step) (t : Trace) → SpentLate (suc (suc n)) (Then (Made s) t) (Then (Made s) t) → SpentLate (suc n) t t
  late_after n s t late h = less (late h)
    where
      less : suc (suc n) ≤ length (s ∷ steps t) → suc n ≤ length (steps t)
      less le = omega arith

  ends_at_step : (n : ℕ) (s : Step) (t : Trace) (b b' : Bool) → passes_calls d s ≡ b → passes_cells c s ≡ b' → EndsBy c d n t (outcome_of c d n t).made (outcome_of c d n t).end →
      (let o : Outcome = cond b (record { made = 0; end = CallsFull }) (cond b' (record { made = 0; end = CellsFull }) (one_more (outcome_of c d n t))) in EndsBy c d (suc n) (Then (Made s) t) o.made o.end)
  ends_at_step n s t true b' e e' h = (omega arith, (s, refl, e))
  ends_at_step n s t false true e e' h = (omega arith, (s, refl, ap (λ b. not b && passes_cells c s) e ∙ e'))
  ends_at_step n s t false false e e' h = ends_more n s t (outcome_of c d n t).made (outcome_of c d n t).end h

  pub ends_along : (n : ℕ) (t : Trace) → SpentLate (suc n) t t → EndsBy c d n t (outcome_of c d n t).made (outcome_of c d n t).end
  ends_along n (Stop (Exit v)) late = (refl, refl)
  ends_along n (Stop (Fault f)) late = (refl, refl)
  ends_along n (Stop More) late = absurd (none (late refl))
    where
      none : suc n ≤ 0 → ⊥
      none le = omega arith
  ends_along n (Then (Judged v) t) late = ends_judged n v t (outcome_of c d n t).made (outcome_of c d n t).end (ends_along n t late)
  ends_along zero (Then (Made s) t) late = (refl, omega arith)
  ends_along (suc n) (Then (Made s) t) late = ends_at_step n s t (passes_calls d s) (passes_cells c s) refl refl (ends_along n t (late_after n s t late))

-- ---- the law

module _ (q : Core) (input : List ℕ) (n c d : ℕ) where
  abbrev full : Bool
  full = nat_lt c (chunks (start_memory q))

  computed : (b : Bool) → full ≡ b → IsOutcome q input n c d (cond b (record { made = 0; end = CellsFull }) (outcome_of c d n (run q input (n + 1))))
  computed true e = record { globals_full = λ h. refl; runs = λ h. absurd (true_is_not_false (sym e ∙ h)) }
  computed false e = record { globals_full = λ h. absurd (true_is_not_false (sym h ∙ e)); runs = λ h. along c d n (run q input (n + 1)) }

  ends : (b : Bool) → full ≡ b → IsFalse full →
      (let o : Outcome = cond b (record { made = 0; end = CellsFull }) (outcome_of c d n (run q input (n + 1))) in EndsBy c d n (run q input (n + 1)) o.made o.end)
  ends true e h = absurd (true_is_not_false (sym e ∙ h))
  ends false e h = ends_along c d n (run q input (n + 1)) (bounds_alike SpentLate late_counts q input (suc n) (n + 1) (n + 1) (omega arith) (omega arith))

  only : (b : Bool) → full ≡ b → (o : Outcome) → IsOutcome q input n c d o → o ≡ cond b (record { made = 0; end = CellsFull }) (outcome_of c d n (run q input (n + 1)))
  only true e o a = a.globals_full e
  only false e o a = only_one c d n (run q input (n + 1)) o (outcome_of c d n (run q input (n + 1))) (a.runs e) (along c d n (run q input (n + 1)))

pub outcome_computed : OutcomeComputed
outcome_computed = record {
  is_outcome = λ q input n c d. computed q input n c d (nat_lt c (chunks (start_memory q))) refl;
  unique = λ q input n c d o a. only q input n c d (nat_lt c (chunks (start_memory q))) refl o a;
  ends_by = λ q input n c d h. ends q input n c d (nat_lt c (chunks (start_memory q))) refl h;
}
