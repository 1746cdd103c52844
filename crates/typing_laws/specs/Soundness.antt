-- What elaboration promises of the cores that it gives.
use Rattle.std.specs.Prelude.{◌≡◌, ℕ, List, Ok}
use Rattle.c_words.specs.declared.word.Mode.{Mode}
use Rattle.c_words.specs.declared.word.Mode.TheVariants as mode
use Rattle.step_meaning.specs.declared.program.Core.{Core}
use Rattle.step_meaning.specs.WellFormed.{IsWellFormed}
use Rattle.step_meaning.specs.Sources.{IsSource}
use Rattle.typing_rules.specs.Syntax.{Item}
use Rattle.typing_rules.specs.Programs.{elaborated}
use Rattle.typing_laws.specs.ParsedSyntax.{ItemsParsed}
use Rattle.typing_laws.specs.ShallowSyntax.{ItemsShallow}

-- the core of a parsed text that breaks no rule is well formed
abbrev pub CoresAreFormed : Type 0
CoresAreFormed = (m : Mode) (text : List ℕ) (all : List Item) (q : Core) → ItemsParsed text all → elaborated m text all ≡ Ok q → IsWellFormed q

-- that of a source is one
abbrev pub CoresAreSources : Type 0
CoresAreSources = (text : List ℕ) (all : List Item) (q : Core) → ItemsParsed text all → ItemsShallow all → elaborated mode.Source text all ≡ Ok q → IsSource q
