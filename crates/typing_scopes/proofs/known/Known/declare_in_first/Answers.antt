use Rattle.std.proofs.Common.{ap, ◌∙◌, is_some}
use Rattle.typing_rules.specs.Environment.{found_in}
use Rattle.typing_rules.specs.Statements.{innermost}
use Rattle.typing_scopes.proofs.Scopes.{found_in-none}
use Rattle.typing_scopes.proofs.known.Known.declare_in_first.Goals as goal

pub declare_in_block-requires-clause-new : goal.declare_in_block-requires-clause-new
declare_in_block-requires-clause-new c =
    let q = c.args.name.now in
    ap (λ s. is_some (found_in (innermost s.frame.scopes) q)) c.in_ok-open_block.ensures.added ∙ ap is_some (found_in-none q)
