use Rattle.c_lexer.proofs.FirstForm.TokenLaws.{tokens_of_text, tokens_in_order, tokens_cover, tokens_few}
use Rattle.c_lexer.proofs.first_form.tokens.tokens_cover_text.Goals as goal

pub returns : goal.returns
returns c = record { each = tokens_of_text; ordered = tokens_in_order; covering = tokens_cover; few = tokens_few }
