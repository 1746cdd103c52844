use Rattle.typing_declarators.proofs.Lists.{one_more}
use Rattle.typing_declarators.proofs.layer.push_layer.Goals as goal

pub returns-in-Ok : goal.returns-in-Ok
returns-in-Ok c = one_more c.args.layers.now.items c.push.new.self.items c.args.layer c.in-Ok.ensures.items
