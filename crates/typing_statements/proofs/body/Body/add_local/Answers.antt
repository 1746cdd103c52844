use Rattle.std.proofs.Common.{◌≡◌, ap, ◌∙◌}
use Rattle.typing_statements.proofs.Points.{local_ready, outside_after}
use Rattle.typing_statements.proofs.Steps.{on_ok, local_made, fresh_at, small_type_at}
use Rattle.typing_statements.proofs.body.Body.add_local.Goals as goal

pub add_local-requires : goal.add_local-requires
add_local-requires c = fresh_at c.args.known.now c.args.name.now c.args.t c.bytes-bytes.result.now c.bytes-bytes.ensures c.requires.may

pub returns-clause-makes : goal.returns-clause-makes
returns-clause-makes c = local_made c.args.known.now c.add_local.new.self c.args.self.returns.now c.args.name.now c.args.t c.bytes-bytes.result.now c.add_local.result c.bytes-bytes.ensures c.add_local.ensures.number c.add_local.ensures.added

pub returns-clause-same : goal.returns-clause-same
returns-clause-same c = on_ok c.add_local.result (outside_after c.args.known.now c.add_local.new.self _) c.add_local.ensures.added

pub returns-clause-ready : goal.returns-clause-ready
returns-clause-ready c = on_ok c.add_local.result (local_ready c.args.known.now c.add_local.new.self c.bytes-bytes.result.now c.args.t c.requires.ready (small_type_at c.args.known.now c.args.name.now c.args.t c.requires.may)) c.add_local.ensures.added
