use Rattle.std.proofs.Common.{◌≡◌, length}
use Rattle.std.specs.Vec.Iter.{into_iter_items, into_iter_len}
use Rattle.c_words.specs.Operators.{has}
use Rattle.c_grouping.specs.Grouping as spec
use Rattle.c_grouping.proofs.group.group.Given as goal

abbrev pub invariant-loop-link : goal.invariant-loop-link
invariant-loop-link g l = (into_iter_len l.link-iterator ≡ length (into_iter_items l.link-iterator))
    × (spec.group (has l.operators) g.L.Level.made l.fn.flat ≡ spec.group_from (has l.operators) g.L.Level.made l.closed l.current (into_iter_items l.link-iterator))
