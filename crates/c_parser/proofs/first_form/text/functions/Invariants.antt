use Rattle.std.proofs.Common.{◌≡◌, ◌+◌, ◌++◌, ◌≤◌, length, map}
use Rattle.c_parser.specs.declared.first_form.fixed.Fixed.TheVariants as fixed
use Rattle.c_parser.specs.FirstForm.Program.{function_of}
use Rattle.c_parser.specs.FirstForm.Spelling.{names_of}
use Rattle.c_parser.specs.FirstForm.Reading as spec
use Rattle.c_parser.proofs.FirstForm.Many.{Turn}
use Rattle.c_parser.proofs.first_form.text.functions.Given as goal

abbrev pub invariant-loop-alloc : goal.invariant-loop-alloc
invariant-loop-alloc l = record {
  turn : Turn (spec.is_at 0 fixed.Void) (λ found. spec.function l.fn.scope.mode (length l.fn.scope.names) (l.fn.scope.names ++ names_of found))
      (spec.functions l.fn.scope.mode l.fn.scope.names l.fn.reader) (map function_of l.found.items) l.reader;
  named : l.scope.names ≡ l.fn.scope.names ++ names_of (map function_of l.found.items);
  mode : l.scope.mode ≡ l.fn.scope.mode;
  variables : l.scope.variables ≡ l.fn.scope.variables;
  room : length l.scope.names + l.reader.budget ≤ length l.fn.scope.names + l.fn.reader.budget;
}

abbrev pub decreases-loop-alloc : goal.decreases-loop-alloc
decreases-loop-alloc l = l.reader.budget
