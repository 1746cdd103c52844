-- The fold of the first steps of a traced list is the beginning of the fold of the list: the verdicts before a step depend on the steps up to it alone.
-- In a list that isn't traced the Enter step of an activation may come after other steps of it, and its memory would be seen too early.
use Rattle.std.specs.Prelude.{◌≡◌, ℕ, List, take}
use Rattle.step_meaning.specs.declared.program.Core.{Core}
use Rattle.step_meaning.specs.declared.program.Hooks.{Hooks}
use Rattle.step_meaning.specs.Steps.{Step}
use Rattle.step_meaning.specs.Traced.{IsTraced}
use Rattle.step_meaning.specs.Verdicts.{items_to}
use Rattle.step_meaning.specs.Fold.{fold}

abbrev pub FoldsPrefixes : Type 0
FoldsPrefixes = (q : Core) (h : Hooks) (ss : List Step) → IsTraced q ss → (n : ℕ) → fold q h (take n ss) ≡ items_to n (fold q h ss)
