use Rattle.std.proofs.Common.{◌≡◌, map, drop}
use Rattle.typing_rules.specs.FileScope.{variable, variables}
use Rattle.typing_rules.specs.TreesOfDeclarations.{declared}
use Rattle.typing_scopes.specs.Known.{program}
use Rattle.typing_files.specs.Points.{IsAtFile}
use Rattle.typing_files.specs.Runs.{run}
use Rattle.typing_files.specs.Variables.{declared_in}
use Rattle.typing_files.proofs.variable.variables.Given as goal

abbrev pub invariant-loop-link : goal.invariant-loop-link
invariant-loop-link l = record {
  runs : variables l.fn.base (declared_in l.fn.trees) (program l.fn.known) ≡ run (variable l.fn.base) (map (λ x. declared x.operand) (drop l.link-index l.fn.trees.rest)) (program l.known);
  at : IsAtFile l.known;
}
