use Rattle.std.proofs.Common.{◌≡◌, Ok, length}
use Rattle.std.specs.Vec.Iter.{into_iter_items, into_iter_len}
use Rattle.step_meaning.specs.declared.value.CType.{CType}
use Rattle.typing_rules.specs.Environment.{Environment}
use Rattle.typing_rules.specs.Statements.{init_statements}
use Rattle.typing_declarators.specs.Adding.{extended}
use Rattle.typing_initialisers.proofs.locals.push_statements.Given as goal

abbrev pub invariant-loop-cell : goal.invariant-loop-cell
invariant-loop-cell l = ((g : Environment) (r : CType) → extended l.fn.all (Ok (init_statements g r l.index 0 l.fn.cells.items)) ≡ extended l.all (Ok (init_statements g r l.index l.offset (into_iter_items l.cell-iterator))))
    × (into_iter_len l.cell-iterator ≡ length (into_iter_items l.cell-iterator))
