-- Programs that a machine runs.
use Rattle.step_meaning.specs.declared.program.Core.{Core}
use Rattle.step_meaning.specs.Sources.{IsSource}
use Rattle.run_start.specs.Running.{IsRunnable}

-- each core of a source may be run
abbrev pub SourcesRun : Type 0
SourcesRun = (q : Core) → IsSource q → IsRunnable q
