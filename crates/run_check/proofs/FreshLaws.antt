-- The steps of a fresh machine are the first ones of the program's run, and its end is their outcome.
use Rattle.std.proofs.Common.{◌≡◌, ℕ, zero, suc, ◌+◌, ◌-◌, ◌<◌, ◌≤◌, Bool, cond, List, [], ◌∷◌, ◌++◌, length, take, Option, Some, None, refl, sym, ap, subst, ◌∙◌, arith}
use Rattle.std.specs.Prelude.{IsFalse, nat_lt}
use Rattle.std.proofs.lemmas.List.{append-nil, append_assoc}
use Rattle.step_meaning.specs.declared.program.Core.{Core}
use Rattle.step_meaning.specs.First.{first_items, first_steps, output}
use Rattle.step_meaning.specs.Limits.{CallsFull, CellsFull, IsOutcome, LimitedEnd, Outcome, Spent, chunks as chunks_in, one_more, outcome_of, passes_calls, passes_cells}
use Rattle.step_meaning.specs.Runs.{run, start_memory}
use Rattle.step_meaning.specs.Steps.{End, Judged, Made, Step, Stop, Then, Trace, steps}
use Rattle.step_meaning.proofs.Outcomes.{outcome_computed}
use Rattle.run_turns.proofs.Steps.{start_rest}
use Rattle.run_check.specs.declared.advance.Advance.{Advance}
use Rattle.run_check.specs.declared.advance.Advance.TheVariants as advance
use Rattle.run_check.specs.declared.run_to.RunEnd.{RunEnd}
use Rattle.run_check.specs.declared.run_to.RunEnd.TheVariants as end
use Rattle.run_check.specs.Advancing.{Advances, MakesLast, steps_by, taken_by, written_by}
use Rattle.run_check.specs.Views.{Advanced, IsGoing, Rest, View, fresh}
use Rattle.run_check.specs.RunningTo.{GivesOutcome, Performed, PerformsFresh, Ran, and_then, last_end, limited_end, taken_by_all}
use Rattle.run_check.proofs.GoingLaws.{cut_before}
use Rattle.run_check.proofs.OutcomeLaws.{ended_outcome, enough_outcome, limited, same_limited}
use Rattle.run_check.proofs.RunningLaws.{counted_more, output_more, taken_more, then_more}

abbrev outcome_with : ℕ → LimitedEnd → Outcome
outcome_with n o = record { made = n; end = o }

-- ---- first steps

take_nothing : (n : ℕ) → ◌≡◌ {A = List Step} (take n []) []
take_nothing zero = refl
take_nothing (suc n) = refl

take_steps : (n : ℕ) (t : Trace) → steps (first_items n t) ≡ take n (steps t)
take_steps n (Stop e) = sym (take_nothing n)
take_steps zero (Then (Made s) t) = refl
take_steps zero (Then (Judged v) t) = take_steps zero t
take_steps (suc n) (Then (Made s) t) = ap (λ ss. s ∷ ss) (take_steps n t)
take_steps (suc n) (Then (Judged v) t) = take_steps (suc n) t

steps_then : (ss : List Step) (t : Trace) → steps (and_then ss t) ≡ ss ++ steps t
steps_then [] t = refl
steps_then (s ∷ ss) t = ap (λ ss. s ∷ ss) (steps_then ss t)

-- the outcome looks at no more than so many steps
outcome_cut : (c d n : ℕ) (t : Trace) → outcome_of c d n (first_items n t) ≡ outcome_of c d n t
outcome_cut c d n (Stop e) = refl
outcome_cut c d zero (Then (Made s) t) = refl
outcome_cut c d zero (Then (Judged v) t) = outcome_cut c d zero t
outcome_cut c d (suc n) (Then (Made s) t) = ap (λ (o : Outcome). cond (passes_calls d s) (record { made = 0; end = CallsFull }) (cond (passes_cells c s) (record { made = 0; end = CellsFull }) (one_more o))) (outcome_cut c d n t)
outcome_cut c d (suc n) (Then (Judged v) t) = outcome_cut c d (suc n) t

one_after : (n : ℕ) → suc n ≡ n + 1
one_after n = omega arith

none_before : (n : ℕ) → n - 0 ≡ n
none_before n = omega arith

no_more : (n : ℕ) → n + 0 ≡ n
no_more n = omega arith

counted_from_none : (m n : ℕ) → m ≡ 0 + n → m ≡ n
counted_from_none m n e = omega (arith, e)

one_counted : (new mid n more : ℕ) → mid ≡ 0 + n → new ≡ mid + 1 → more ≡ suc n → new ≡ more
one_counted new mid n more e f g = omega (arith, e, f, g)

none_is_not_some : {A : Type 0} (a : A) → None ≡ Some a → ⊥
none_is_not_some a e = cc

module _ (q : Core) (c d : ℕ) (bytes : List ℕ) where
  fresh_rest : (n : ℕ) → Rest (fresh q c d) bytes n ≡ first_items n (run q bytes (n + 1))
  fresh_rest n = start_rest q bytes n ∙ ap (λ (k : ℕ). first_items n (run q bytes k)) (one_after n)

  -- steps after which the rest is cut are the first ones
  all_first : (ss : List Step) (t : Trace) → Rest (fresh q c d) bytes (length ss) ≡ and_then ss t → steps t ≡ [] → ss ≡ first_steps q bytes (length ss)
  all_first ss t e none =
      sym (append-nil ss)
      ∙ ap (λ ts. ss ++ ts) (sym none)
      ∙ sym (steps_then ss t)
      ∙ ap steps (sym e ∙ fresh_rest (length ss))
      ∙ take_steps (length ss) (run q bytes (length ss + 1))

  module _ (limit : ℕ) (room : IsFalse (nat_lt c (chunks_in (start_memory q)))) where
    is_outcome : (new : View) (e : RunEnd) (o : LimitedEnd) → limited_end e ≡ Some o → GivesOutcome limit (fresh q c d) new bytes e → IsOutcome q bytes limit c d (record { made = new.steps; end = o })
    is_outcome new e o h gives =
        let same : outcome_of c d limit (run q bytes (limit + 1)) ≡ record { made = new.steps; end = o } =
        sym (outcome_cut c d limit (run q bytes (limit + 1)))
        ∙ ap (outcome_of c d limit) (sym (fresh_rest limit))
        ∙ ap (λ (n : ℕ). outcome_of c d n (Rest (fresh q c d) bytes n)) (sym (none_before limit))
        ∙ gives o h
        ∙ ap (λ (n : ℕ). outcome_with n o) (none_before new.steps) in
        subst (IsOutcome q bytes limit c d) (ap (λ (b : Bool). cond b (record { made = 0; end = CellsFull }) (outcome_of c d limit (run q bytes (limit + 1)))) room ∙ same) (outcome_computed.is_outcome q bytes limit c d)

    performed : (new : View) (left' held held' : Option (List ℕ)) (o : LimitedEnd) → IsOutcome q bytes limit c d (record { made = new.steps; end = o }) → (ss : List Step) (t : Trace) → Rest (fresh q c d) bytes (length ss) ≡ and_then ss t → steps t ≡ [] → new.steps ≡ length ss → left' ≡ Some (taken_by_all ss bytes) → ((before : List ℕ) → held ≡ Some before → held' ≡ Some (before ++ output ss)) → Performed q bytes limit c d new.steps left' held held' o
    performed new left' held held' o is ss t e none counted taken written =
        let first : ss ≡ first_steps q bytes new.steps = all_first ss t e none ∙ ap (first_steps q bytes) (sym counted) in
        record {
          outcome = is;
          written = λ before h. written before h ∙ ap (λ (xs : List Step). Some (before ++ output xs)) first;
          taken = taken ∙ ap (λ (xs : List Step). Some (taken_by_all xs bytes)) first;
        }

    module _ (left : Option (List ℕ)) (tells : left ≡ Some bytes) where
      -- where the steps are spent
      enough : (new : View) (left' held held' : Option (List ℕ)) → IsGoing new → (r : Ran limit (fresh q c d) new left left' held held') → limit ≤ new.steps → (o : LimitedEnd) → Some Spent ≡ Some o → Performed q bytes limit c d new.steps left' held held' o
      enough new left' held held' going r l o h =
          performed new left' held held' o (is_outcome new end.More o h (enough_outcome limit (fresh q c d) left bytes tells new left' held held' going r l)) r.made (Rest new (taken_by_all r.made bytes) 0)
          (ap (Rest (fresh q c d) bytes) (sym (no_more (length r.made))) ∙ r.follows bytes tells 0)
          (ap steps (going.cut (taken_by_all r.made bytes)))
          (counted_from_none new.steps (length r.made) r.counted)
          (r.taken bytes tells)
          r.written

      module _ (mid new : View) (l left' held w held' : Option (List ℕ)) (r : Ran limit (fresh q c d) mid left l held w) (few : mid.steps < limit) where
        abbrev after : List ℕ
        after = taken_by_all r.made bytes

        -- where the last step was made
        last : (x : End) (o : LimitedEnd) → MakesLast mid.chunks mid.calls mid.core mid.now x new.now l left' w held' → new.steps ≡ mid.steps + 1 → IsOutcome q bytes limit c d (record { made = new.steps; end = o }) → Performed q bytes limit c d new.steps left' held held' o
        last x o p counted is =
            let s : Step = p.made.step in
            performed new left' held held' o is (r.made ++ s ∷ []) (Stop x)
            (ap (Rest (fresh q c d) bytes) (counted_more r.made s ∙ one_after (length r.made)) ∙ r.follows bytes tells 1 ∙ ap (and_then r.made) (p.made.follows after (r.taken bytes tells) 0 ∙ ap (Then (Made s)) (p.last (taken_by s.action after) 0)) ∙ sym (then_more r.made s (Stop x)))
            refl
            (one_counted new.steps mid.steps (length r.made) (length (r.made ++ s ∷ [])) r.counted counted (counted_more r.made s))
            (p.made.taken after (r.taken bytes tells) ∙ ap Some (sym (taken_more r.made s bytes)))
            (λ before h. p.made.written (before ++ output r.made) (r.written before h) ∙ ap Some (append_assoc before (output r.made) (written_by s.action) ∙ ap (λ bs. before ++ bs) (sym (output_more r.made s))))

        -- where the next step passes a limit
        stopped : (o : LimitedEnd) (s : Step) (t : Trace) → Rest mid after 1 ≡ Then (Made s) t → left' ≡ l → held' ≡ w → new.steps ≡ mid.steps → IsOutcome q bytes limit c d (record { made = new.steps; end = o }) → Performed q bytes limit c d new.steps left' held held' o
        stopped o s t next kept_input kept_output counted is =
            performed new left' held held' o is r.made (Rest mid after 0)
            (ap (Rest (fresh q c d) bytes) (sym (no_more (length r.made))) ∙ r.follows bytes tells 0)
            (ap steps (cut_before mid.core mid.now after s t next))
            (counted ∙ counted_from_none mid.steps (length r.made) r.counted)
            (kept_input ∙ r.taken bytes tells)
            (λ before h. kept_output ∙ r.written before h)

        ended_by : (a : Advance) → Advances mid.chunks mid.calls mid.core mid.now new.now l left' w held' a → new.steps ≡ steps_by a mid.steps → (o : LimitedEnd) → limited a ≡ Some o → IsOutcome q bytes limit c d (record { made = new.steps; end = o }) → Performed q bytes limit c d new.steps left' held held' o
        ended_by advance.Step p counted o h is = absurd (none_is_not_some o h)
        ended_by (advance.Exit z) p counted o h is = last (Rattle.step_meaning.specs.Steps.Exit z) o p counted is
        ended_by (advance.Fault x) p counted o h is = last (Rattle.step_meaning.specs.Steps.Fault x) o p counted is
        ended_by advance.CellsFull p counted o h is = stopped o p.step (p.next after 0).0 (p.next after 0).1 p.kept_input p.kept_output counted is
        ended_by advance.CallsFull p counted o h is = stopped o p.step (p.next after 0).0 (p.next after 0).1 p.kept_input p.kept_output counted is
        ended_by advance.ReadFault p counted o h is = absurd (none_is_not_some o h)
        ended_by advance.WriteFault p counted o h is = absurd (none_is_not_some o h)

        ended : (a : Advance) (e : RunEnd) → Advanced mid new l left' w held' a → last_end a ≡ Some e → (o : LimitedEnd) → limited_end e ≡ Some o → Performed q bytes limit c d new.steps left' held held' o
        ended a e p ends o h = ended_by a p.advances p.steps o (same_limited a e ends ∙ h) (is_outcome new e o h (ended_outcome limit (fresh q c d) left bytes tells new left' held held' e mid l w a r few p ends))

-- ---- by the machine that was fresh

pub enough_performs : (limit : ℕ) (old new : View) (left left' held held' : Option (List ℕ)) → IsGoing new → Ran limit old new left left' held held' → limit ≤ new.steps → PerformsFresh limit old new left left' held held' end.More
enough_performs limit old new left left' held held' going r l q c d bytes same room tells o h = enough q c d bytes limit room left tells new left' held held' going (subst (λ (m : View). Ran limit m new left left' held held') same r) l o h

pub ended_performs : (limit : ℕ) (old mid new : View) (left l left' held w held' : Option (List ℕ)) → Ran limit old mid left l held w → mid.steps < limit → (a : Advance) (e : RunEnd) → Advanced mid new l left' w held' a → last_end a ≡ Some e → PerformsFresh limit old new left left' held held' e
ended_performs limit old mid new left l left' held w held' r few a e p ends q c d bytes same room tells o h = ended q c d bytes limit room left tells mid new l left' held w held' (subst (λ (m : View). Ran limit m mid left l held w) same r) few a e p ends o h
