use Rattle.typing_statements.specs.Points.{outside, around, frame_at}
use Rattle.typing_rules.specs.TreesOfDeclarations as trees
use Rattle.typing_statements.specs.Locals as locals
use Rattle.typing_statements.proofs.Points.{small_at, cells_at}
use Rattle.typing_statements.proofs.Locals.{type_may}
use Rattle.typing_statements.proofs.Steps.{type_given, where_given}
use Rattle.typing_statements.proofs.body.Body.local_type.Goals as goal

pub declared_type-requires-clause-small : goal.declared_type-requires-clause-small
declared_type-requires-clause-small c = small_at c.args.known.now c.requires.ready

pub declared_type-requires-clause-structs : goal.declared_type-requires-clause-structs
declared_type-requires-clause-structs c = cells_at c.args.known.now c.requires.ready

pub returns-clause-gives : goal.returns-clause-gives
returns-clause-gives c =
    type_given c.args.known.now c.args.self.returns.now c.args.base.now (trees.declared c.args.tree.now) (trees.declarator c.declarator_of-declarator.result.now) c.declared_name.result c.local_name-name.result c.element_count.result c.declared_type.result
    c.declarator_of-declarator.ensures c.declared_name.ensures c.local_name-name.ensures c.element_count.ensures.value c.declared_type.ensures

pub returns-clause-may : goal.returns-clause-may
returns-clause-may c =
    where_given _ _ c.declared_type.result (type_may (around (outside c.args.known.now)) c.args.self.returns.now c.args.base.now (trees.declared c.args.tree.now) (frame_at c.args.known.now))
    (type_given c.args.known.now c.args.self.returns.now c.args.base.now (trees.declared c.args.tree.now) (trees.declarator c.declarator_of-declarator.result.now) c.declared_name.result c.local_name-name.result c.element_count.result c.declared_type.result
    c.declarator_of-declarator.ensures c.declared_name.ensures c.local_name-name.ensures c.element_count.ensures.value c.declared_type.ensures)
