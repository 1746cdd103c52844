use Rattle.std.proofs.Common.{◌≡◌, ◌++◌, [], ◌∷◌, map, drop}
use Rattle.step_meaning.specs.Runs.{ghost_start}
use Rattle.run_memory.proofs.ghosts.all_first_values.Given as goal

abbrev pub invariant-loop-variable : goal.invariant-loop-variable
invariant-loop-variable l = map (λ d. ghost_start d.ctype ∷ []) l.fn.variables ≡ l.all ++ map (λ d. ghost_start d.ctype ∷ []) (drop l.variable-index l.fn.variables)
