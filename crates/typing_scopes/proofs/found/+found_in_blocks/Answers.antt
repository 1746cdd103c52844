use Rattle.std.proofs.Common.{sym, ap, ◌∙◌, reverse}
use Rattle.typing_rules.specs.Environment.{found, or_else}
use Rattle.typing_scopes.proofs.Scopes.{found_no_block, found_last}
use Rattle.typing_scopes.proofs.found.+found_in_blocks.Goals as goal

pub returns-in-None : goal.returns-in-None
returns-in-None t c = sym (found_no_block c.args.blocks.now c.args.name.now c.in-None.ensures.cases)

pub returns-in-Some-find : goal.returns-in-Some-find
returns-in-Some-find t c =
    let outer = c.in-Some.outer.now in
    sym (found_last c.args.blocks.now outer c.in-Some.inner.now c.args.name.now c.in-Some.ensures.cases.0 ∙ ap (λ o. or_else o (found (reverse outer) c.args.name.now)) (sym c.in-Some-find.ensures))

pub returns-in-None-find : goal.returns-in-None-find
returns-in-None-find t c =
    let outer = c.in-Some.outer.now in
    c.found_in_blocks.ensures ∙ sym (found_last c.args.blocks.now outer c.in-Some.inner.now c.args.name.now c.in-Some.ensures.cases.0 ∙ ap (λ o. or_else o (found (reverse outer) c.args.name.now)) (sym c.in-None-find.ensures))
