-- The steps that a machine made, and its end, are the outcome of the rest of its run.
use Rattle.std.proofs.Common.{◌≡◌, ℕ, suc, ◌+◌, ◌-◌, ◌<◌, ◌≤◌, Bool, true, false, ◌||◌, List, [], ◌∷◌, length, Option, Some, None, refl, sym, ap, ◌∙◌, arith}
use Rattle.std.specs.Prelude.{max, IsFalse}
use Rattle.std.specs.List.{AllByRecursion}
use Rattle.step_meaning.specs.declared.program.Core.{Core}
use Rattle.step_meaning.specs.Limits.{CallsFull, CellsFull, Exited, Faulted, LimitedEnd, Outcome, Spent, outcome_of, passes_calls, passes_cells}
use Rattle.step_meaning.specs.Steps.{Exit, Fault, Made, More, Step, Stop, Then, Trace}
use Rattle.run_turns.specs.Rest.{rest}
use Rattle.run_turns.specs.Turns.{Configuration}
use Rattle.run_check.specs.declared.advance.Advance.{Advance}
use Rattle.run_check.specs.declared.advance.Advance.TheVariants as advance
use Rattle.run_check.specs.declared.run_to.RunEnd.{RunEnd}
use Rattle.run_check.specs.declared.run_to.RunEnd.TheVariants as end
use Rattle.run_check.specs.Advancing.{Advances, MakesLast, steps_by, taken_by}
use Rattle.run_check.specs.Views.{Advanced, IsGoing, Rest, View}
use Rattle.run_check.specs.RunningTo.{GivesOutcome, Ran, and_then, last_end, limited_end, taken_by_all}

-- ---- tests

left_false : (a b : Bool) → (a || b) ≡ false → a ≡ false
left_false false b e = refl
left_false true b e = e

right_false : (a b : Bool) → (a || b) ≡ false → b ≡ false
right_false false b e = e
right_false true b e = absurd (no e)
  where
    no : true ≡ false → ⊥
    no e = cc

-- ---- several steps within the limits

abbrev outcome_with : ℕ → LimitedEnd → Outcome
outcome_with n e = record { made = n; end = e }

abbrev longer : ℕ → Outcome → Outcome
longer n o = outcome_with (n + o.made) o.end

zero_more : (n : ℕ) → 0 + n ≡ n
zero_more n = omega arith

one_more : (a n : ℕ) → suc a + n ≡ suc (a + n)
one_more a n = omega arith

module _ (c d : ℕ) where
  one_made : (n : ℕ) (s : Step) (t : Trace) → (passes_calls d s || passes_cells c s) ≡ false → outcome_of c d (suc n) (Then (Made s) t) ≡ record { made = suc (outcome_of c d n t).made; end = (outcome_of c d n t).end }
  one_made n s t h = rw (left_false (passes_calls d s) (passes_cells c s) h, right_false (passes_calls d s) (passes_cells c s) h) refl

  all_made : (ss : List Step) (n : ℕ) (t : Trace) → AllByRecursion (λ s. IsFalse (passes_calls d s || passes_cells c s)) ss → outcome_of c d (length ss + n) (and_then ss t) ≡ longer (length ss) (outcome_of c d n t)
  all_made [] n t h = ap (λ (k : ℕ). outcome_of c d k t) (zero_more n) ∙ ap (λ (k : ℕ). outcome_with k (outcome_of c d n t).end) (sym (zero_more (outcome_of c d n t).made))
  all_made (s ∷ ss) n t h =
      ap (λ (k : ℕ). outcome_of c d k (Then (Made s) (and_then ss t))) (one_more (length ss) n)
      ∙ one_made (length ss + n) s (and_then ss t) h.0
      ∙ ap (λ (o : Outcome). outcome_with (suc o.made) o.end) (all_made ss n t h.1)
      ∙ ap (λ (k : ℕ). outcome_with k (outcome_of c d n t).end) (sym (one_more (length ss) (outcome_of c d n t).made))

-- ---- the end

some_same : {A : Type 0} (a b : A) → Some a ≡ Some b → a ≡ b
some_same a b e = cc

none_is_not_some : {A : Type 0} (a : A) → None ≡ Some a → ⊥
none_is_not_some a e = cc

abbrev pub limited : Advance → Option LimitedEnd
limited advance.Step = None
limited (advance.Exit z) = Some (Exited z)
limited (advance.Fault x) = Some (Faulted x)
limited advance.CellsFull = Some CellsFull
limited advance.CallsFull = Some CallsFull
limited advance.ReadFault = None
limited advance.WriteFault = None

pub same_limited : (a : Advance) (e : RunEnd) → last_end a ≡ Some e → limited a ≡ limited_end e
same_limited advance.Step e h = absurd (none_is_not_some e h)
same_limited (advance.Exit z) e h = ap limited_end (some_same (end.Exit z) e h)
same_limited (advance.Fault x) e h = ap limited_end (some_same (end.Fault x) e h)
same_limited advance.CellsFull e h = ap limited_end (some_same end.Cells e h)
same_limited advance.CallsFull e h = ap limited_end (some_same end.Calls e h)
same_limited advance.ReadFault e h = ap limited_end (some_same end.ReadFault e h)
same_limited advance.WriteFault e h = ap limited_end (some_same end.WriteFault e h)

module _ (c d : ℕ) (q : Core) (old new : Configuration) (left left' held held' : Option (List ℕ)) (bytes : List ℕ) (tells : left ≡ Some bytes) (n : ℕ) where
  last_made : (x : Rattle.step_meaning.specs.Steps.End) → MakesLast c d q old x new left left' held held' → outcome_of c d (suc n) (rest q old bytes (suc n)) ≡ record { made = 1; end = Rattle.step_meaning.specs.Limits.own_end x }
  last_made x m =
      ap (outcome_of c d (suc n)) (m.made.follows bytes tells n ∙ ap (Then (Made m.made.step)) (m.last (taken_by m.made.step.action bytes) n))
      ∙ one_made c d n m.made.step (Stop x) m.made.within

  end_made : (a : Advance) → Advances c d q old new left left' held held' a → (o : LimitedEnd) → limited a ≡ Some o → outcome_of c d (suc n) (rest q old bytes (suc n)) ≡ record { made = steps_by a 0; end = o }
  end_made advance.Step p o h = absurd (none_is_not_some o h)
  end_made (advance.Exit z) p o h = last_made (Exit z) p ∙ ap (λ (o : LimitedEnd). outcome_with 1 o) (some_same (Exited z) o h)
  end_made (advance.Fault x) p o h = last_made (Fault x) p ∙ ap (λ (o : LimitedEnd). outcome_with 1 o) (some_same (Faulted x) o h)
  end_made advance.CellsFull p o h =
      ap (outcome_of c d (suc n)) (p.next bytes n).1
      ∙ rw (p.calls_fit, p.passes) (ap (λ (o : LimitedEnd). outcome_with 0 o) (some_same CellsFull o h))
  end_made advance.CallsFull p o h =
      ap (outcome_of c d (suc n)) (p.next bytes n).1
      ∙ rw p.passes (ap (λ (o : LimitedEnd). outcome_with 0 o) (some_same CallsFull o h))
  end_made advance.ReadFault p o h = absurd (none_is_not_some o h)
  end_made advance.WriteFault p o h = absurd (none_is_not_some o h)

-- ---- the whole

more_steps : (a : Advance) (n m : ℕ) → m ≡ steps_by a n → m ≡ n + steps_by a 0
more_steps advance.Step n m e = e
more_steps (advance.Exit z) n m e = e
more_steps (advance.Fault x) n m e = e
more_steps advance.CellsFull n m e = omega (arith, e)
more_steps advance.CallsFull n m e = omega (arith, e)
more_steps advance.ReadFault n m e = e
more_steps advance.WriteFault n m e = e

left_over : (limit old mid made : ℕ) → mid ≡ old + made → mid < limit → limit - old ≡ made + suc (limit - mid - 1)
left_over limit old mid made e l = omega (arith, e, l)

nothing_over : (limit old new made : ℕ) → new ≡ old + made → limit ≤ new → new ≤ max old limit → limit - old ≡ made + 0
nothing_over limit old new made e l f = omega (arith, e, l, f)

made_in_all : (old mid new made more : ℕ) → mid ≡ old + made → new ≡ mid + more → made + more ≡ new - old
made_in_all old mid new made more e f = omega (arith, e, f)

same_outcome : (m n : ℕ) (x y : LimitedEnd) → m ≡ n → x ≡ y → outcome_with m x ≡ outcome_with n y
same_outcome m n x y e h = ap (λ (k : ℕ). outcome_with k x) e ∙ ap (λ (z : LimitedEnd). outcome_with n z) h

module _ (limit : ℕ) (old : View) (left : Option (List ℕ)) (bytes : List ℕ) (tells : left ≡ Some bytes) where
  -- after the steps, the outcome is that of what is left of the steps
  after_steps : (mid : View) (l held h : Option (List ℕ)) (r : Ran limit old mid left l held h) (n : ℕ) → outcome_of old.chunks old.calls (length r.made + n) (Rest old bytes (length r.made + n)) ≡ longer (length r.made) (outcome_of mid.chunks mid.calls n (Rest mid (taken_by_all r.made bytes) n))
  after_steps mid l held h r n =
      ap (outcome_of old.chunks old.calls (length r.made + n)) (r.follows bytes tells n)
      ∙ all_made old.chunks old.calls r.made n (Rest mid (taken_by_all r.made bytes) n) r.within
      ∙ ap (λ (c : ℕ). longer (length r.made) (outcome_of c old.calls n (Rest mid (taken_by_all r.made bytes) n))) (sym r.same.chunks)
      ∙ ap (λ (d : ℕ). longer (length r.made) (outcome_of mid.chunks d n (Rest mid (taken_by_all r.made bytes) n))) (sym r.same.calls)

  -- where the steps are spent
  pub enough_outcome : (new : View) (left' held held' : Option (List ℕ)) → IsGoing new → (r : Ran limit old new left left' held held') → limit ≤ new.steps → GivesOutcome limit old new bytes end.More
  enough_outcome new left' held held' going r l o h =
      ap (λ (n : ℕ). outcome_of old.chunks old.calls n (Rest old bytes n)) (nothing_over limit old.steps new.steps (length r.made) r.counted l r.few)
      ∙ after_steps new left' held held' r 0
      ∙ ap (λ (t : Trace). longer (length r.made) (outcome_of new.chunks new.calls 0 t)) (going.cut (taken_by_all r.made bytes))
      ∙ same_outcome (length r.made + 0) (new.steps - old.steps) Spent o (made_in_all old.steps new.steps new.steps (length r.made) 0 r.counted (omega arith)) (some_same Spent o h)

  -- where the machine stopped
  pub ended_outcome : (new : View) (left' held held' : Option (List ℕ)) (e : RunEnd) (mid : View) (l w : Option (List ℕ)) (a : Advance) (r : Ran limit old mid left l held w) → mid.steps < limit → Advanced mid new l left' w held' a → last_end a ≡ Some e → GivesOutcome limit old new bytes e
  ended_outcome new left' held held' e mid l w a r few p last o h =
      ap (λ (n : ℕ). outcome_of old.chunks old.calls n (Rest old bytes n)) (left_over limit old.steps mid.steps (length r.made) r.counted few)
      ∙ after_steps mid l held w r (suc (limit - mid.steps - 1))
      ∙ ap (longer (length r.made)) (end_made mid.chunks mid.calls mid.core mid.now new.now l left' w held' (taken_by_all r.made bytes) (r.taken bytes tells) (limit - mid.steps - 1) a p.advances o (same_limited a e last ∙ h))
      ∙ ap (λ (n : ℕ). outcome_with n o) (made_in_all old.steps mid.steps new.steps (length r.made) (steps_by a 0) r.counted (more_steps a mid.steps new.steps p.steps))
