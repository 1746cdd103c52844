use Rattle.std.proofs.Common.{ap, ◌∙◌}
use Rattle.c_lexer.specs.Positions.{after}
use Rattle.c_lexer.proofs.LexedLemmas.{slice_take}
use Rattle.c_lexer.proofs.lexing.moved.Goals as goal

pub returns : goal.returns
returns c = c.across.ensures ∙ ap (after c.args.position) (slice_take c.args.text.now c.args.position.offset c.args.len)
