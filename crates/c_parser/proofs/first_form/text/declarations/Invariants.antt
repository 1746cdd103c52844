use Rattle.std.proofs.Common.{◌≡◌, ◌+◌, ◌≤◌, length, map}
use Rattle.std.specs.String.{string_bytes}
use Rattle.c_parser.specs.FirstForm.Reading as spec
use Rattle.c_parser.proofs.FirstForm.Many.{Turn}
use Rattle.c_parser.proofs.first_form.text.declarations.Given as goal

abbrev pub invariant-loop-alloc : goal.invariant-loop-alloc
invariant-loop-alloc l = record {
  turn : Turn spec.begins_declaration spec.declaration (spec.declarations l.fn.reader) (map string_bytes l.found.items) l.reader;
  named : l.names ≡ map string_bytes l.found.items;
  room : length l.names + l.reader.budget ≤ l.fn.reader.budget;
}

abbrev pub decreases-loop-alloc : goal.decreases-loop-alloc
decreases-loop-alloc l = l.reader.budget
