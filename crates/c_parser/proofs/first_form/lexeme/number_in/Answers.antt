use Rattle.c_lexer.specs.FirstForm.Tokens.{is_allowed}
use Rattle.c_parser.proofs.FirstForm.NumberFacts.{decimal_ascii, parsed_some, parsed_none}
use Rattle.c_parser.proofs.first_form.lexeme.number_in.Goals as goal

pub ascii_text-requires : goal.ascii_text-requires
unfolding is_allowed
ascii_text-requires c = decimal_ascii c.args.bytes.now c.requires

pub returns-in-Ok : goal.returns-in-Ok
unfolding is_allowed
returns-in-Ok c = parsed_some c.args.bytes.now _ _ _ _ c.ascii_text.ensures c.requires c.parse.ensures.value.0 c.in-Ok.is c.from.ensures

pub returns-in-Err : goal.returns-in-Err
unfolding is_allowed
returns-in-Err c = parsed_none c.args.bytes.now _ _ _ c.ascii_text.ensures c.requires c.parse.ensures.value.0 c.in-Err.is
