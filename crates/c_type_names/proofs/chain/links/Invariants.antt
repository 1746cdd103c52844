use Rattle.std.proofs.Common.{◌≡◌, [], length, ◌-◌}
use Rattle.c_words.specs.Operators.{has, continues}
use Rattle.c_words.specs.Parsing.{links_from}
use Rattle.c_type_names.proofs.chain.links.Given as goal

abbrev pub invariant-loop-turn : goal.invariant-loop-turn
invariant-loop-turn g l = g.P.Operand.can_read l.operand
    × (links_from (continues l.operators) (has l.operators) (g.P.Operand.parser l.operand) (length l.fn.tokens) [] l.fn.tokens
    ≡ links_from (continues l.operators) (has l.operators) (g.P.Operand.parser l.operand) (l._turn-end - l._turn) l.found.items l.tokens)
