use Rattle.std.proofs.Common.{◌≡◌, drop}
use Rattle.c_parser.specs.FirstForm.Reading as spec
use Rattle.c_parser.proofs.first_form.reader.Reader.expect_all.Given as goal

abbrev pub invariant-loop-word : goal.invariant-loop-word
invariant-loop-word l = spec.expect_all l.words l.fn.self ≡ spec.expect_all (drop l.word-index l.words) l.self
