use Rattle.std.proofs.Common.{◌≡◌, map, take}
use Rattle.c_parser.specs.FirstForm.Program.{function_of}
use Rattle.weave_cli.specs.FirstForm.Weaving as spec
use Rattle.weave_cli.proofs.first_form.weaving.woven_functions.Given as goal

abbrev pub invariant-loop-function : goal.invariant-loop-function
invariant-loop-function l = map function_of l.woven.items ≡ map (spec.property_function l.x) (map function_of (take l.function-index l.functions))
