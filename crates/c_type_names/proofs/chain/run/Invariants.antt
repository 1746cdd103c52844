use Rattle.std.proofs.Common.{◌≡◌, [], length, ◌-◌}
use Rattle.c_words.specs.Parsing.{run_from}
use Rattle.c_type_names.proofs.chain.run.Given as goal

abbrev pub invariant-loop-turn : goal.invariant-loop-turn
invariant-loop-turn g l = g.P.Part.can_read l.part
    × (run_from (g.P.Part.begins l.part) (g.P.Part.parser l.part) (length l.fn.tokens) [] l.fn.tokens
    ≡ run_from (g.P.Part.begins l.part) (g.P.Part.parser l.part) (l._turn-end - l._turn) l.found l.tokens)
