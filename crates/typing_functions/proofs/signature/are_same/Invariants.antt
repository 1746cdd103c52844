use Rattle.std.proofs.Common.{◌≡◌, drop}
use Rattle.typing_rules.specs.Functions.{types_of, are_same}
use Rattle.typing_functions.proofs.signature.are_same.Given as goal

abbrev pub invariant-loop-index : goal.invariant-loop-index
invariant-loop-index l = are_same (types_of l.fn.a) (types_of l.fn.b) ≡ are_same (types_of (drop l.index l.fn.a)) (types_of (drop l.index l.fn.b))
