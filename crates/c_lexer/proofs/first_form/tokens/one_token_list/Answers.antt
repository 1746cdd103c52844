use Rattle.c_lexer.proofs.FirstForm.TokenLaws.{one_token_list}
use Rattle.c_lexer.proofs.first_form.tokens.one_token_list.Goals as goal

pub returns : goal.returns
returns c = one_token_list
