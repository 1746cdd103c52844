use Rattle.std.proofs.Common.{◌≡◌, map, drop}
use Rattle.typing_rules.specs.Functions.{parameter, parameters}
use Rattle.typing_rules.specs.TreesOfDeclarations.{parameter as parameter_tree}
use Rattle.typing_scopes.specs.Known.{program}
use Rattle.typing_files.specs.Runs.{run}
use Rattle.typing_functions.specs.Parameters.{IsInFunction, parameters_in}
use Rattle.typing_functions.proofs.parameter.listed.Given as goal

abbrev pub invariant-loop-link : goal.invariant-loop-link
invariant-loop-link l = record {
  runs : parameters (program l.fn.known) l.fn.allocation l.fn.known.locals (parameters_in l.fn.trees) ≡ run (λ x ps. parameter (program l.fn.known) l.fn.allocation ps x) (map (λ x. parameter_tree x.operand) (drop l.link-index l.fn.trees.rest)) l.known.locals;
  same : program l.known ≡ program l.fn.known;
  at : IsInFunction l.known;
}
