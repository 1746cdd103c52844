-- What comes of weaving hooks that fit together into the normal form of a source: it behaves as the source with the folds of the hooks, and can be printed.
use Rattle.std.specs.Prelude.{List}
use Rattle.step_meaning.specs.declared.program.Core.{Core}
use Rattle.step_meaning.specs.declared.program.Hooks.{Hooks}
use Rattle.step_meaning.specs.Fit.{FitTogether}
use Rattle.step_meaning.specs.FoldSimulation.{FoldSimulates}
use Rattle.step_meaning.specs.Printable.{IsPrintable}
use Rattle.step_meaning.specs.Sources.{IsSource}
use Rattle.weaver_laws.specs.Weaving.{woven_core}
use Rattle.weaver_laws.specs.Joining.{joined}
use Rattle.normal_laws.specs.NormalForm.{normal_core}

-- the source has neither registers nor normal form: its own runs and the folds along its own steps are meant
abbrev pub WovenSourcesSimulate : Type 0
WovenSourcesSimulate = (q : Core) (hs : List Hooks) → IsSource q → FitTogether q hs → FoldSimulates q hs (woven_core (normal_core q) (joined hs))

abbrev pub WovenSourcesPrint : Type 0
WovenSourcesPrint = (q : Core) (hs : List Hooks) → IsSource q → FitTogether q hs → IsPrintable (woven_core (normal_core q) (joined hs))
