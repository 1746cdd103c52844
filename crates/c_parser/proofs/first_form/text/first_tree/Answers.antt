use Rattle.std.proofs.Common.{◌∙◌, sym, ap}
use Rattle.c_parser.specs.FirstForm.Spelling.{words_of}
use Rattle.c_parser.specs.FirstForm.Reading.{program}
use Rattle.c_parser.proofs.FirstForm.WholeLaws.{spelled-from_read, none_spelled}
use Rattle.c_parser.proofs.first_form.text.first_tree.Goals as goal

pub returns-in-Ok-clause-found : goal.returns-in-Ok-clause-found
returns-in-Ok-clause-found c =
    let start = c.new-reader.ensures ∙ ap (λ n. record { words = words_of c.args.text.now c.args.tokens.now; budget = n }) c.limit.ensures in
    spelled-from_read c.args.mode c.args.text.now c.args.tokens.now _ _ (sym (ap (program c.args.mode) start) ∙ c.in-Ok.ensures)

pub returns-in-Err-NotFirstForm-clause-none : goal.returns-in-Err-NotFirstForm-clause-none
returns-in-Err-NotFirstForm-clause-none c =
    let start = c.new-reader.ensures ∙ ap (λ n. record { words = words_of c.args.text.now c.args.tokens.now; budget = n }) c.limit.ensures in
    none_spelled c.args.mode c.args.text.now c.args.tokens.now (sym (ap (program c.args.mode) start) ∙ (rw c.in-Err-NotFirstForm.field-0-is at c.in-Err-NotFirstForm.ensures))
