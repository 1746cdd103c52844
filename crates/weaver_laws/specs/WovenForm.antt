-- What comes of weaving hooks that fit together into a well-formed core in normal form, whose functions return registers alone, is well formed and in normal form; and where the core is small enough, it is printable.
use Rattle.std.specs.Prelude.{List}
use Rattle.step_meaning.specs.declared.program.Core.{Core}
use Rattle.step_meaning.specs.declared.program.Hooks.{Hooks}
use Rattle.step_meaning.specs.WellFormed.{IsWellFormed}
use Rattle.step_meaning.specs.Normal.{IsNormal}
use Rattle.step_meaning.specs.Printable.{IsPrintable}
use Rattle.step_meaning.specs.Promises.{ReturnsRegistersAlone}
use Rattle.step_meaning.specs.Fit.{FitTogether}
use Rattle.weaver_laws.specs.Bare.{IsBare}
use Rattle.weaver_laws.specs.NormalSizes.{KeepsSizes}
use Rattle.weaver_laws.specs.Weaving.{woven_core}
use Rattle.weaver_laws.specs.Joining.{joined}

abbrev pub WovenFormed : Type 0
WovenFormed =
    (p : Core) (hs : List Hooks) → IsWellFormed p → IsNormal p → IsBare p → ReturnsRegistersAlone p → FitTogether p hs
    → IsWellFormed (woven_core p (joined hs)) × IsNormal (woven_core p (joined hs))

abbrev pub WovenPrintable : Type 0
WovenPrintable =
    (p : Core) (hs : List Hooks) → IsWellFormed p → IsNormal p → IsBare p → ReturnsRegistersAlone p → KeepsSizes p → FitTogether p hs
    → IsPrintable (woven_core p (joined hs))
