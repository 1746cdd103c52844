use Rattle.std.proofs.Common.{◌≡◌, ◌++◌, map, drop}
use Rattle.typing_rules.specs.Functions.{without_name}
use Rattle.typing_functions.proofs.prototype.without_names.Given as goal

abbrev pub invariant-loop-parameter : goal.invariant-loop-parameter
invariant-loop-parameter l = map without_name l.fn.parameters ≡ l.all ++ map without_name (drop l.parameter-index l.fn.parameters)
