use Rattle.c_parser.proofs.FirstForm.WholeLaws.{one_program_spelled}
use Rattle.c_parser.proofs.first_form.text.one_program.Goals as goal

pub returns : goal.returns
returns c = one_program_spelled
