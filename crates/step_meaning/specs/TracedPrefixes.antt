-- The first steps of a traced list are traced: what is said of all traced lists is said of each beginning of one.
use Rattle.std.specs.Prelude.{ℕ, List, take}
use Rattle.step_meaning.specs.declared.program.Core.{Core}
use Rattle.step_meaning.specs.Steps.{Step}
use Rattle.step_meaning.specs.Traced.{IsTraced}

abbrev pub TracedPrefixes : Type 0
TracedPrefixes = (q : Core) (ss : List Step) → IsTraced q ss → (n : ℕ) → IsTraced q (take n ss)
