use Rattle.c_lexer.proofs.FirstForm.TokenLaws.{one_kind, token_ascii, number_decimal}
use Rattle.c_lexer.proofs.first_form.tokens.token_bytes.Goals as goal

pub returns : goal.returns
returns c = record { kind = one_kind; ascii = token_ascii; decimal = number_decimal }
