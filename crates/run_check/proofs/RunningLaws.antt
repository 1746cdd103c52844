-- Several steps, and one more.
use Rattle.std.proofs.Common.{◌≡◌, ℕ, suc, ◌+◌, ◌<◌, ◌≤◌, ◌||◌, List, [], ◌∷◌, ◌++◌, length, Option, Some, None, refl, sym, ap, subst, ◌∙◌, arith}
use Rattle.std.specs.Prelude.{max, IsFalse}
use Rattle.std.specs.List.{AllByRecursion}
use Rattle.std.proofs.lemmas.List.{append-nil, append_assoc}
use Rattle.step_meaning.specs.declared.value.Action.{Action}
use Rattle.step_meaning.specs.declared.value.Action.TheVariants as act
use Rattle.step_meaning.specs.declared.program.Core.{Core}
use Rattle.step_meaning.specs.First.{output, output_of}
use Rattle.step_meaning.specs.Limits.{passes_calls, passes_cells}
use Rattle.step_meaning.specs.Steps.{Made, Step, Then, Trace}
use Rattle.run_turns.specs.Rest.{rest}
use Rattle.run_check.specs.declared.advance.Advance.TheVariants as advance
use Rattle.run_check.specs.Advancing.{taken_by, written_by}
use Rattle.run_check.specs.Views.{Advanced, Rest, View}
use Rattle.run_check.specs.RunningTo.{Ran, and_then, taken_by_all}

-- ---- a step at the end of a list

pub taken_more : (ss : List Step) (s : Step) (bytes : List ℕ) → taken_by_all (ss ++ s ∷ []) bytes ≡ taken_by s.action (taken_by_all ss bytes)
taken_more [] s bytes = refl
taken_more (x ∷ ss) s bytes = taken_more ss s (taken_by x.action bytes)

pub then_more : (ss : List Step) (s : Step) (t : Trace) → and_then (ss ++ s ∷ []) t ≡ and_then ss (Then (Made s) t)
then_more [] s t = refl
then_more (x ∷ ss) s t = ap (Then (Made x)) (then_more ss s t)

output_one : (a : Action) → output_of a [] ≡ written_by a
output_one (act.Enter g vs) = refl
output_one (act.Call g) = refl
output_one (act.Return g v) = refl
output_one (act.Read p) = refl
output_one (act.Write p v) = refl
output_one act.Input = refl
output_one (act.Output b) = refl
output_one (act.Malloc n p k) = refl
output_one (act.Free p) = refl
output_one act.Turn = refl
output_one (act.Halt x) = refl

output_first : (a : Action) (xs ys : List ℕ) → output_of a (xs ++ ys) ≡ output_of a xs ++ ys
output_first (act.Enter g vs) xs ys = refl
output_first (act.Call g) xs ys = refl
output_first (act.Return g v) xs ys = refl
output_first (act.Read p) xs ys = refl
output_first (act.Write p v) xs ys = refl
output_first act.Input xs ys = refl
output_first (act.Output b) xs ys = refl
output_first (act.Malloc n p k) xs ys = refl
output_first (act.Free p) xs ys = refl
output_first act.Turn xs ys = refl
output_first (act.Halt x) xs ys = refl

pub output_more : (ss : List Step) (s : Step) → output (ss ++ s ∷ []) ≡ output ss ++ written_by s.action
output_more [] s = output_one s.action
output_more (x ∷ ss) s = ap (output_of x.action) (output_more ss s) ∙ output_first x.action (output ss) (written_by s.action)

pub counted_more : (ss : List Step) (s : Step) → length (ss ++ s ∷ []) ≡ suc (length ss)
counted_more [] s = refl
counted_more (x ∷ ss) s = ap suc (counted_more ss s)

all_more : (P : Step → Type 0) (ss : List Step) (s : Step) → AllByRecursion P ss → P s → AllByRecursion P (ss ++ s ∷ [])
all_more P [] s h g = (g, tt)
all_more P (x ∷ ss) s h g = (h.0, all_more P ss s h.1 g)

-- ---- no step

zero_more : (n : ℕ) → 0 + n ≡ n
zero_more n = omega arith

pub ran_none : (limit : ℕ) (m : View) (left held : Option (List ℕ)) → m.stopped ≡ None → Ran limit m m left left held held
ran_none limit m left held e =
    record {
      made = [];
      within = tt;
      taken = λ bytes h. h;
      follows = λ bytes h n. ap (Rest m bytes) (zero_more n);
      written = λ bytes h. h ∙ ap Some (sym (append-nil bytes));
      same = record { core = refl; chunks = refl; calls = refl };
      counted = omega arith;
      few = omega arith;
      going = e;
    }

-- ---- one more

one_later : (a n : ℕ) → suc a + n ≡ a + suc n
one_later a n = omega arith

all_counted : (old mid new made more : ℕ) → mid ≡ old + made → new ≡ mid + 1 → more ≡ suc made → new ≡ old + more
all_counted old mid new made more e f g = omega (arith, e, f, g)

still_few : (old mid new limit : ℕ) → mid < limit → new ≡ mid + 1 → new ≤ max old limit
still_few old mid new limit l e = omega (arith, l, e)

module _ (limit : ℕ) (old mid new : View) (left l left' held h held' : Option (List ℕ)) (r : Ran limit old mid left l held h) (few : mid.steps < limit) (a : Advanced mid new l left' h held' advance.Step) where
  abbrev step : Step
  step = a.advances.step

  more_follows : (bytes : List ℕ) → left ≡ Some bytes → (n : ℕ) → Rest old bytes (length (r.made ++ step ∷ []) + n) ≡ and_then (r.made ++ step ∷ []) (Rest new (taken_by_all (r.made ++ step ∷ []) bytes) n)
  more_follows bytes e n =
      ap (λ k. Rest old bytes (k + n)) (counted_more r.made step)
      ∙ ap (Rest old bytes) (one_later (length r.made) n)
      ∙ r.follows bytes e (suc n)
      ∙ ap (and_then r.made) (a.advances.follows (taken_by_all r.made bytes) (r.taken bytes e) n ∙ ap (λ (q : Core). Then (Made step) (rest q new.now (taken_by step.action (taken_by_all r.made bytes)) n)) (sym a.same.core))
      ∙ ap (λ bs. and_then r.made (Then (Made step) (Rest new bs n))) (sym (taken_more r.made step bytes))
      ∙ sym (then_more r.made step (Rest new (taken_by_all (r.made ++ step ∷ []) bytes) n))

  pub ran_more : Ran limit old new left left' held held'
  ran_more =
      record {
        made = r.made ++ step ∷ [];
        within = all_more (λ s. IsFalse (passes_calls old.calls s || passes_cells old.chunks s)) r.made step r.within (subst (λ c. IsFalse (passes_calls old.calls step || passes_cells c step)) r.same.chunks (subst (λ d. IsFalse (passes_calls d step || passes_cells mid.chunks step)) r.same.calls a.advances.within));
        taken = λ bytes e. a.advances.taken (taken_by_all r.made bytes) (r.taken bytes e) ∙ ap Some (sym (taken_more r.made step bytes));
        follows = more_follows;
        written = λ bytes e. a.advances.written (bytes ++ output r.made) (r.written bytes e) ∙ ap Some (append_assoc bytes (output r.made) (written_by step.action) ∙ ap (λ bs. bytes ++ bs) (sym (output_more r.made step)));
        same = record { core = a.same.core ∙ r.same.core; chunks = a.same.chunks ∙ r.same.chunks; calls = a.same.calls ∙ r.same.calls };
        counted = all_counted old.steps mid.steps new.steps (length r.made) (length (r.made ++ step ∷ [])) r.counted a.steps (counted_more r.made step);
        few = still_few old.steps mid.steps new.steps limit few a.steps;
        going = a.stopped;
      }
