use Rattle.std.proofs.Common.{refl, sym, ap, subst, ◌∙◌}
use Rattle.typing_laws.specs.SmallPrograms.{HasNoArray}
use Rattle.typing_laws.proofs.CheckedValues.{where_ok}
use Rattle.typing_laws.proofs.SmallPrograms.{spelled_small}
use Rattle.typing_rules.specs.Environment.{spelled_type}
use Rattle.typing_rules.specs.FileScope.{seen_now}
use Rattle.typing_rules.specs.Functions.{function as function_whole}
use Rattle.typing_rules.specs.TreesOfDeclarations.{body, params}
use Rattle.typing_scopes.specs.Known.{known as seen, program}
use Rattle.typing_files.proofs.Outcomes.{broken, goes_on, becomes_by}
use Rattle.typing_files.proofs.Points.{sees}
use Rattle.typing_functions.specs.Functions.{function_of as function_rule}
use Rattle.typing_functions.proofs.FunctionLaws.{spelling, function_by}
use Rattle.typing_functions.proofs.function.function.Goals as goal

pub returns-in_err-returns-clause-becomes : goal.returns-in_err-returns-clause-becomes
returns-in_err-returns-clause-becomes c =
    let k = c.args.known.now in
    let p = program k in
    let t = c.args.name.now in
    let b = body c.args.body.now in
    let xs = params c.args.params.now in
    let x = spelling c.args.base.now.specifier c.args.stars in
    broken (function_whole x t xs b p) (spelled_type (seen_now p) x) (λ r. function_rule t r xs b p) c.from_residual.result c.in_err-returns.field-0.0 p (function_by x t xs b p)
    (λ m. ap (λ g. spelled_type g x) (sym (sees k c.requires)) ∙ c.in_err-returns.ensures m) c.from_residual.ensures.1

pub function_of-requires-clause-returns : goal.function_of-requires-clause-returns
function_of-requires-clause-returns c =
    let g = seen c.args.known.now in
    let x = spelling c.args.base.now.specifier c.args.stars in
    subst HasNoArray (sym c.get.ensures) (where_ok HasNoArray (spelled_type g x) c.in_ok-returns.returns c.in_ok-returns.ensures (spelled_small g x))

pub returns-clause-becomes : goal.returns-clause-becomes
returns-clause-becomes c =
    let k = c.args.known.now in
    let p = program k in
    let t = c.args.name.now in
    let b = body c.args.body.now in
    let xs = params c.args.params.now in
    let x = spelling c.args.base.now.specifier c.args.stars in
    goes_on (function_whole x t xs b p) (spelled_type (seen_now p) x) (λ r. function_rule t r xs b p) c.in_ok-returns.returns c.function_of.result (program c.function_of.new.known) (function_by x t xs b p)
    (ap (λ g. spelled_type g x) (sym (sees k c.requires)) ∙ c.in_ok-returns.ensures)
    (becomes_by _ _ c.function_of.result (program c.function_of.new.known) (program c.function_of.new.known) (ap (λ r. function_rule t r xs b p) c.get.ensures) refl c.function_of.ensures.becomes)
