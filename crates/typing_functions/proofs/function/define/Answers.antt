use Rattle.std.proofs.Common.{Ok, ap, sym, refl, ◌∙◌}
use Rattle.typing_rules.specs.FileScope.{bytes}
use Rattle.typing_rules.specs.Functions.{defined_as}
use Rattle.typing_rules.specs.TreesOfDeclarations.{body}
use Rattle.typing_scopes.specs.Known.{program}
use Rattle.typing_files.proofs.Outcomes.{becomes_by}
use Rattle.typing_functions.proofs.function.define.Goals as goal

pub returns-in-Absent-clause-becomes : goal.returns-in-Absent-clause-becomes
unfolding body defined_as
returns-in-Absent-clause-becomes c =
    let k = c.args.known.now in
    let p = program k in
    ap (λ b. defined_as p c.args.number (bytes p c.args.name.now) c.args.returns.now k.locals (body b)) c.in-Absent.is ∙ ap (λ s. Ok s.program) (sym c.end_function-locals.ensures.state)

pub returns-in-Block-clause-becomes : goal.returns-in-Block-clause-becomes
unfolding body
returns-in-Block-clause-becomes c =
    let k = c.args.known.now in
    let p = program k in
    becomes_by _ _ c.defined.result (program c.defined.new.known) (program c.defined.new.known) (ap (λ b. defined_as p c.args.number (bytes p c.args.name.now) c.args.returns.now k.locals (body b)) (sym c.in-Block.is)) refl c.defined.ensures.becomes
