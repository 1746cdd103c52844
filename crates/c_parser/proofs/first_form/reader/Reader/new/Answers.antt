use Rattle.c_parser.proofs.FirstForm.TokenFacts.{all_tokens_of}
use Rattle.c_parser.proofs.first_form.reader.Reader.new.Goals as goal

pub invariant_of-result : goal.invariant_of-result
invariant_of-result c = all_tokens_of c.args.text.now c.args.tokens.now c.requires
