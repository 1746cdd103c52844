-- The headline for the first form: what weaving makes of a program simulates it and judges its property.
use Rattle.std.proofs.Common.{◌≡◌, ℕ, suc, true, false, List, ◌∷◌, map, length, take, Option, Some, None, refl, sym, subst, arith}
use Rattle.std.specs.Prelude.{◌↔◌, slice_get}
use Rattle.std.specs.List.{AllByRecursion}
use Rattle.std.proofs.lemmas.List.{length-map}
use Rattle.step_meaning.specs.declared.program.Core.{Core}
use Rattle.step_meaning.specs.declared.program.Function.{Function as CoreFunction}
use Rattle.step_meaning.specs.Steps.{items, steps}
use Rattle.step_meaning.specs.Runs.{run}
use Rattle.step_meaning.specs.Verdicts.{verdicts_before, AreSafe}
use Rattle.c_words.specs.declared.word.Mode.TheVariants as mode
use Rattle.c_parser.specs.FirstForm.Program.{Function, Property, Program}
use Rattle.c_parser.specs.FirstForm.Texts.{BodiesFit, IsFirstForm, IsTextOf}
use Rattle.weave_cli.specs.FirstForm.Cores.{core_functions, getchar, putchar, malloc, free, first_core}
use Rattle.weave_cli.specs.FirstForm.Weaving.{property_function, woven}
use Rattle.weave_cli.specs.Simulation.{IsMonitor, Simulates}
use Rattle.weave_cli.specs.FirstForm.Task.{NeverWrites, no_automaton, meets, SimulatesTask, first_task, IsWeavingOf}
use Rattle.weave_cli.specs.Answers.{IsWovenText}
use Rattle.weave_cli.proofs.FirstForm.ReadsBack.{reads_back}
use Rattle.weave_cli.proofs.FirstForm.WovenForm.{woven_fits}
use Rattle.weave_cli.proofs.FirstForm.KeptProgram.{program_kept}
use Rattle.weave_cli.proofs.FirstForm.WovenTraces.{Woven}
use Rattle.weave_cli.proofs.FirstForm.WovenRuns.{FunctionsAlike, all_alike, with_functions, run_woven}
use Rattle.weave_cli.proofs.FirstForm.WovenSimulates as law

false_is_not_true : false ≡ true → ⊥
false_is_not_true e = cc

no_monitor : (j : ℕ) → IsMonitor 0 j → ⊥
no_monitor j is = omega (arith, is.from_one, is.to_last)

-- two cores whose functions are alike, and whose property is of the variable x
module _ (x : ℕ) (p : Core) (fs fs' : List CoreFunction) (same : (g : ℕ) → FunctionsAlike x (slice_get fs g) (slice_get fs' g)) where
  abbrev source : Core
  source = with_functions p fs

  abbrev weave : Core
  weave = with_functions p fs'

  runs : (input : List ℕ) (k : ℕ) → Woven x (run source input k) (run weave input k)
  runs input k = run_woven x k p fs fs' same input

  -- the verdicts of the one monitor
  judged : (input : List ℕ) (k n j : ℕ) → j ≡ 1 → AreSafe j (verdicts_before n (items (run weave input k))) ↔ NeverWrites x (take n (steps (run source input k)))
  judged input k n j first = (
    (λ safe. law.judged_to x n _ _ (runs input k) (subst (λ i. AreSafe i (verdicts_before n (items (run weave input k)))) first safe)),
    (λ never. subst (λ i. AreSafe i (verdicts_before n (items (run weave input k)))) (sym first) (law.judged_from x n _ _ (runs input k) never)),
  )

  pub simulated : Simulates source weave 1 no_automaton (λ j ss. meets (Some x) ss) (λ j ss. ⊥)
  simulated = record {
    same_end = λ input k. law.same_end x _ _ (runs input k);
    same_steps = λ input k. law.same_erased source weave (λ g. law.same_name x _ _ (same g)) x _ _ (runs input k);
    judged = λ input k n j is within. judged input k n j (omega (arith, is.from_one, is.to_last));
    accepted = λ input k j v is automaton ends. absurd (false_is_not_true automaton);
    no_accept = λ input k j is automaton. law.without_accept x j _ _ (runs input k);
    theirs = λ input k. law.of_one_monitor x _ _ (runs input k);
  }

  -- the source itself simulates itself, with no monitor
  pub unwoven : Simulates source source 0 no_automaton (λ j ss. meets None ss) (λ j ss. ⊥)
  unwoven = record {
    same_end = λ input k. refl;
    same_steps = λ input k. refl;
    judged = λ input k n j is within. absurd (no_monitor j is);
    accepted = λ input k j v is automaton ends. absurd (no_monitor j is);
    no_accept = λ input k j is automaton. absurd (no_monitor j is);
    theirs = λ input k. subst (λ vs. AllByRecursion (λ v. IsMonitor 0 v.monitor) vs) (sym (law.silent_source x _ _ (runs input k))) tt;
  }

-- the woven program of a program with these parts
pub of_parts : (globals : List (List ℕ)) (property : Option Property) (fs : List Function) → BodiesFit mode.Source (length globals) 0 fs
    → SimulatesTask (first_task (record { globals = globals; property = property; functions = fs })) (first_core (woven (record { globals = globals; property = property; functions = fs })))
of_parts globals None fs fits =
    let p : Program = record { globals = globals; property = None; functions = fs } in
    unwoven 0 (first_core p) (getchar ∷ putchar ∷ malloc ∷ free ∷ core_functions fs) (getchar ∷ putchar ∷ malloc ∷ free ∷ core_functions (map (property_function 0) fs)) (all_alike 0 (length globals) fs fits)
of_parts globals (Some m) fs fits =
    let p : Program = record { globals = globals; property = Some m; functions = fs } in
    let after = map (property_function m.variable) fs in
    let simulated = simulated m.variable (first_core p) (getchar ∷ putchar ∷ malloc ∷ free ∷ core_functions fs) (getchar ∷ putchar ∷ malloc ∷ free ∷ core_functions after) (all_alike m.variable (length globals) fs fits) in
    subst (λ n. SimulatesTask (first_task p) (record (first_core (woven p)) { start = suc (suc (suc n)) })) (sym (length-map fs (property_function m.variable))) simulated

-- the headline for the first form
pub woven_simulates : (p : Program) → IsFirstForm mode.Source p → SimulatesTask (first_task p) (first_core (woven p))
woven_simulates p form = of_parts p.globals p.property p.functions form.bodies

-- what the layout gives of the woven program is a weaving of the source
pub weaving_of : (source text : List ℕ) → IsWovenText source text → IsWeavingOf source text
weaving_of source text w =
    let p : Program = w.program in
    let form : IsFirstForm mode.Source p = w.spelled.spelled.form in
    record {
      task = first_task p;
      core = first_core (woven p);
      of_source = record { program = p; spelled = w.spelled; task = refl };
      of_text = record { program = woven p; spelled = subst (λ t. IsTextOf mode.Woven t (woven p)) (sym w.laid_out) (reads_back (woven p) (woven_fits p form)); core = refl };
      keeps = program_kept p;
      simulates = woven_simulates p form;
    }
