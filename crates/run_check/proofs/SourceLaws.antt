-- A core of a source may be run.
use Rattle.std.proofs.Common.{List, [], ◌∷◌}
use Rattle.std.specs.List.{AllByRecursion}
use Rattle.step_meaning.specs.declared.program.Function.{Function}
use Rattle.step_meaning.specs.Sources.{IsSourceFunction}
use Rattle.run_check.specs.Sources.{SourcesRun}

all_are : (P Q : Function → Type 0) → ((f : Function) → P f → Q f) → (fs : List Function) → AllByRecursion P fs → AllByRecursion Q fs
all_are P Q g [] h = tt
all_are P Q g (f ∷ fs) h = (g f h.0, all_are P Q g fs h.1)

pub sources_run : SourcesRun
sources_run q s =
    record {
      formed = s.well_formed;
      bare = all_are IsSourceFunction _ (λ f k. k.bare) q.functions s.functions;
      without_ghosts = all_are IsSourceFunction _ (λ f k. k.ghosts) q.functions s.functions;
    }
