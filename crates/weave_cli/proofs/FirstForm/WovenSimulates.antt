-- A woven program of the first form simulates its source and judges the source's property.
use Rattle.std.proofs.Common.{◌≡◌, ℕ, zero, suc, Bool, true, false, not, List, [], ◌∷◌, take, Option, refl, sym, ap, ap₂, subst, ◌∙◌, arith}
use Rattle.std.specs.Prelude.{◌==◌}
use Rattle.std.specs.List.{AllByRecursion}
use Rattle.std.proofs.lemmas.Bool.Decides.{nat_tests}
use Rattle.step_meaning.specs.declared.value.Value.{Value}
use Rattle.step_meaning.specs.declared.value.Action.{Action}
use Rattle.step_meaning.specs.declared.value.Action.TheVariants as act
use Rattle.step_meaning.specs.declared.stmt.VerdictKind.TheVariants.{Safe, Accept}
use Rattle.step_meaning.specs.declared.program.Core.{Core}
use Rattle.step_meaning.specs.declared.program.Function.{Function as CoreFunction}
use Rattle.step_meaning.specs.Steps.{Step, Trace, items, steps, end}
use Rattle.step_meaning.specs.Erasure.{name_if_any, function_name, shown_action, ShownAction, ShownStep, shown_step, erased, Enter, Call, Return}
use Rattle.step_meaning.specs.Verdicts.{verdicts, verdicts_before, AreSafe, HasNoAccept}
use Rattle.weave_cli.specs.Simulation.{IsMonitor}
use Rattle.weave_cli.specs.FirstForm.Task.{Writes, NeverWrites}
use Rattle.weave_cli.proofs.FirstForm.WovenTraces.{IsQuiet, global_pointer, Woven, stops, quiet, writes}
use Rattle.weave_cli.proofs.FirstForm.WovenRuns.{FunctionsAlike, neither, library_in, library_out, library_malloc, library_free, void, main}

-- ---- ends, steps and verdicts

pub same_end : (x : ℕ) (t u : Trace) → Woven x t u → end u ≡ end t
same_end x _ _ stops = refl
same_end x _ _ (quiet s q w) = same_end x _ _ w
same_end x _ _ (writes s v y z a m k b w) = same_end x _ _ w

pub silent_source : (x : ℕ) (t u : Trace) → Woven x t u → verdicts (items t) ≡ []
silent_source x _ _ stops = refl
silent_source x _ _ (quiet s q w) = silent_source x _ _ w
silent_source x _ _ (writes s v y z a m k b w) = silent_source x _ _ w

pub of_one_monitor : (x : ℕ) (t u : Trace) → Woven x t u → AllByRecursion (λ v. IsMonitor 1 v.monitor) (verdicts (items u))
of_one_monitor x _ _ stops = tt
of_one_monitor x _ _ (quiet s q w) = of_one_monitor x _ _ w
of_one_monitor x _ _ (writes s v y z a m k b w) = (record { from_one = omega arith; to_last = omega arith }, of_one_monitor x _ _ w)

safe_is_not_accept : Safe ≡ Accept → ⊥
safe_is_not_accept e = cc

pub without_accept : (x j : ℕ) (t u : Trace) → Woven x t u → HasNoAccept j (verdicts (items u))
without_accept x j _ _ stops = tt
without_accept x j _ _ (quiet s q w) = without_accept x j _ _ w
without_accept x j _ _ (writes s v y z a m k b w) = ((λ same accept. safe_is_not_accept (sym k ∙ accept)), without_accept x j _ _ w)

-- ---- the property

quiet_writes_nothing : (x : ℕ) (a : Action) → IsQuiet a → Writes x a → ⊥
quiet_writes_nothing x (act.Write p v) q w = q
quiet_writes_nothing x (act.Enter g vs) q w = w
quiet_writes_nothing x (act.Call g) q w = w
quiet_writes_nothing x (act.Return g v) q w = w
quiet_writes_nothing x (act.Read p) q w = w
quiet_writes_nothing x act.Input q w = w
quiet_writes_nothing x (act.Output b) q w = w
quiet_writes_nothing x (act.Malloc n p k) q w = w
quiet_writes_nothing x (act.Free p) q w = w
quiet_writes_nothing x act.Turn q w = w
quiet_writes_nothing x (act.Halt f) q w = w

write_of : (x y : ℕ) (a : Action) (z : Value) → a ≡ act.Write (global_pointer y) z → Writes x a → y ≡ x
write_of x y a z e w = (subst (λ a. Writes x a) e w).1

write_to : (x y : ℕ) (a : Action) (z : Value) → a ≡ act.Write (global_pointer y) z → y ≡ x → Writes x a
write_to x y a z e same = subst (λ a. Writes x a) (sym e) (refl, same)

differs : (x y : ℕ) → not (y == x) ≡ true → y ≡ x → ⊥
differs x y e same = grind (arith, nat_tests)

is_true : (x y : ℕ) → (y ≡ x → ⊥) → not (y == x) ≡ true
is_true x y apart = of (y == x) refl
  where
    of : (b : Bool) → (y == x) ≡ b → not (y == x) ≡ true
    of true e = absurd (apart (grind (arith, nat_tests)))
    of false e = rw e refl

pub judged_to : (x n : ℕ) (t u : Trace) → Woven x t u → AreSafe 1 (verdicts_before n (items u)) → NeverWrites x (take n (steps t))
judged_to x zero t u w safe = tt
judged_to x (suc n) _ _ stops safe = tt
judged_to x (suc n) _ _ (quiet s q w) safe = (quiet_writes_nothing x s.action q, judged_to x n _ _ w safe)
judged_to x (suc n) _ _ (writes s v y z a m k b w) safe =
    ((λ written. differs x y (sym b ∙ safe.0 m k) (write_of x y s.action z a written)), judged_to x n _ _ w safe.1)

pub judged_from : (x n : ℕ) (t u : Trace) → Woven x t u → NeverWrites x (take n (steps t)) → AreSafe 1 (verdicts_before n (items u))
judged_from x zero t u w never = tt
judged_from x (suc n) _ _ stops never = tt
judged_from x (suc n) _ _ (quiet s q w) never = judged_from x n _ _ w never.1
judged_from x (suc n) _ _ (writes s v y z a m k b w) never =
    ((λ same safe. b ∙ is_true x y (λ same. never.0 (write_to x y s.action z a same))), judged_from x n _ _ w never.1)

-- ---- erased steps

pub same_name : (x : ℕ) (f g : Option CoreFunction) → FunctionsAlike x f g → name_if_any g ≡ name_if_any f
same_name x _ _ neither = refl
same_name x _ _ library_in = refl
same_name x _ _ library_out = refl
same_name x _ _ library_malloc = refl
same_name x _ _ library_free = refl
same_name x _ _ (void name ss n e fits) = refl
same_name x _ _ (main name ss n e fits) = refl

module _ (p q : Core) (names : (g : ℕ) → function_name q g ≡ function_name p g) where
  same_action : (a : Action) → shown_action q a ≡ shown_action p a
  same_action (act.Enter g vs) = ap (λ f. Enter f vs) (names g)
  same_action (act.Call g) = ap Call (names g)
  same_action (act.Return g v) = ap (λ f. Return f v) (names g)
  same_action (act.Read p) = refl
  same_action (act.Write p v) = refl
  same_action act.Input = refl
  same_action (act.Output b) = refl
  same_action (act.Malloc n p k) = refl
  same_action (act.Free p) = refl
  same_action act.Turn = refl
  same_action (act.Halt f) = refl

  same_shown : (s : Step) → shown_step q s ≡ shown_step p s
  same_shown s =
      ap₂ (λ (a : ShownAction) (f : List ℕ). let shown : ShownStep = record { action = a; function = f; activation = s.activation; memory = s.memory } in shown)
      (same_action s.action) (names s.function)

  pub same_erased : (x : ℕ) (t u : Trace) → Woven x t u → erased q (items u) ≡ erased p (items t)
  same_erased x _ _ stops = refl
  same_erased x _ _ (quiet s c w) = ap₂ ◌∷◌ (same_shown s) (same_erased x _ _ w)
  same_erased x _ _ (writes s v y z a m k b w) = ap₂ ◌∷◌ (same_shown s) (same_erased x _ _ w)
