use Rattle.std.proofs.Common.{sym, ap, ◌∙◌, is_some, reverse, length}
use Rattle.typing_rules.specs.Environment.{found_in}
use Rattle.typing_rules.specs.Statements.{innermost}
use Rattle.typing_scopes.proofs.Scopes.{empty, found_in-none}
use Rattle.typing_scopes.proofs.known.Known.is_in_block.Goals as goal

pub returns-in-None : goal.returns-in-None
returns-in-None c =
    let q = c.args.name.now in
    sym (ap (λ bs. is_some (found_in (innermost (reverse bs)) q)) (empty c.args.self.now.blocks.items (ap length (sym c.as_slice.ensures.value) ∙ c.in-None.ensures.cases)) ∙ ap is_some (found_in-none q))
