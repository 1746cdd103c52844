use Rattle.std.proofs.Common.{◌≤◌, take}
use Rattle.std.specs.List.{AllByRecursion}
use Rattle.run_start.specs.Heights.{capped, height_of_body}
use Rattle.run_start.proofs.heights.greatest_height.Given as goal

abbrev pub invariant-loop-function : goal.invariant-loop-function
invariant-loop-function l = (3 ≤ l.greatest) × AllByRecursion (λ f. capped (height_of_body f) ≤ l.greatest) (take l.function-index l.fn.functions)
