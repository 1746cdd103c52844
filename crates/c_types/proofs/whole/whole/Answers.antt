use Rattle.std.proofs.Common.{Ok, sym, ap, ◌∙◌}
use Rattle.typing_rules.specs.Checked.{◌>>=◌}
use Rattle.typing_rules.specs.Programs.{core_of as core_rule, whole as whole_rule}
use Rattle.typing_rules.specs.TreesOfDeclarations as trees
use Rattle.typing_scopes.specs.Known.{program}
use Rattle.typing_files.proofs.Outcomes.{gives_fails}
use Rattle.c_types.proofs.EndLaws.{whole_by}
use Rattle.c_types.proofs.whole.whole.Goals as goal

pub returns-in_err-start : goal.returns-in_err-start
returns-in_err-start c =
    let p = program c.args.known in
    let all = trees.program c.args.tree.now in
    let e = c.in_err-start.field-0.0 in
    gives_fails (whole_rule all p) c.from_residual.result e (λ m. whole_by all p ∙ ap (λ o. o >>= (λ n. Ok (core_rule p n))) (c.in_err-start.ensures m)) c.from_residual.ensures.1

pub returns : goal.returns
returns c =
    let p = program c.args.known in
    let all = trees.program c.args.tree.now in
    whole_by all p ∙ ap (λ o. o >>= (λ n. Ok (core_rule p n))) c.in_ok-start.ensures ∙ ap (λ q. Ok q) (sym c.core_of.ensures)
