-- The verdicts that stand among the steps of a list: all of them, those before a step, and what a monitor's come to.
use Rattle.std.specs.Prelude.{◌≡◌, ◌↔◌, ◌⊎◌, ℕ, zero, suc, true, false, ◌&&◌, ◌==◌, Bool, cond, List, [], ◌∷◌}
use Rattle.std.specs.List.{AllByRecursion}
use Rattle.step_meaning.specs.declared.stmt.VerdictKind.{VerdictKind}
use Rattle.step_meaning.specs.declared.stmt.VerdictKind.TheVariants.{Safe, Accept}
use Rattle.step_meaning.specs.Steps.{Verdict, Item, Made, Judged}

abbrev pub verdicts : List Item → List Verdict
verdicts [] = []
verdicts (Made s ∷ is) = verdicts is
verdicts (Judged v ∷ is) = v ∷ verdicts is

-- those before the n-th step
abbrev pub verdicts_before : ℕ → List Item → List Verdict
verdicts_before zero is = []
verdicts_before (suc n) [] = []
verdicts_before (suc n) (Made s ∷ is) = verdicts_before n is
verdicts_before (suc n) (Judged v ∷ is) = v ∷ verdicts_before (suc n) is

-- the items up to the n-th step and with it, or all where there are fewer steps
abbrev pub items_to : ℕ → List Item → List Item
items_to zero is = []
items_to (suc n) [] = []
items_to (suc n) (Made s ∷ is) = Made s ∷ items_to n is
items_to (suc n) (Judged v ∷ is) = Judged v ∷ items_to (suc n) is

-- the Safe verdicts of the monitor are all true
abbrev pub AreSafe : ℕ → List Verdict → Type 0
AreSafe j vs = AllByRecursion (λ v. v.monitor ≡ j → v.kind ≡ Safe → v.truth ≡ true) vs

-- there is no Accept verdict of the monitor
abbrev pub HasNoAccept : ℕ → List Verdict → Type 0
HasNoAccept j vs = AllByRecursion (λ v. v.monitor ≡ j → v.kind ≡ Accept → ⊥) vs

-- there is exactly one Accept verdict of the monitor, and it is true exactly where the fact holds
abbrev pub HasOneAccept : ℕ → Type 0 → List Verdict → Type 0
HasOneAccept j fact [] = ⊥
HasOneAccept j fact (v ∷ vs) =
    ((v.monitor ≡ j) × (v.kind ≡ Accept) × (v.truth ≡ true ↔ fact) × HasNoAccept j vs) ⊎ ((v.monitor ≡ j → v.kind ≡ Accept → ⊥) × HasOneAccept j fact vs)

abbrev pub is_accept : VerdictKind → Bool
is_accept Safe = false
is_accept Accept = true

-- the Accept verdicts of the monitor, in order
abbrev pub accept_verdicts : ℕ → List Verdict → List Verdict
accept_verdicts j [] = []
accept_verdicts j (v ∷ vs) = cond (v.monitor == j && is_accept v.kind) (v ∷ accept_verdicts j vs) (accept_verdicts j vs)
