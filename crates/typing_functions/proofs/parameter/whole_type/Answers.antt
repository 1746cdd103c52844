use Rattle.std.proofs.Common.{◌≡◌, true, sym, ap, ◌∙◌}
use Rattle.typing_rules.specs.Checked.{◌>>=◌}
use Rattle.typing_rules.specs.Environment.{specified}
use Rattle.typing_rules.specs.FileScope.{seen_now}
use Rattle.typing_rules.specs.TreesOfDeclarations.{parameter}
use Rattle.typing_laws.proofs.CheckedValues.{where_ok}
use Rattle.typing_declarators.specs.Types.{is_specified}
use Rattle.typing_scopes.specs.Known.{known as seen, program}
use Rattle.typing_files.proofs.Outcomes.{gives_fails, gives_by}
use Rattle.typing_files.proofs.Variables.{specified_is}
use Rattle.typing_functions.specs.Parameters.{parameter_type, whole_type}
use Rattle.typing_functions.proofs.ParameterTypes.{specified_at, whole_by}
use Rattle.typing_functions.proofs.parameter.whole_type.Goals as goal

pub returns-in_err-base : goal.returns-in_err-base
returns-in_err-base c =
    let k = c.args.known.now in
    let p = program k in
    let a = c.args.allocation in
    let x = parameter c.args.tree.now in
    let e = c.in_err-base.field-0.0 in
    gives_fails (whole_type p a k.locals x) c.from_residual.result e
    (λ m. whole_by p a k.locals x ∙ ap (λ o. o >>= parameter_type p a k.locals x) (ap (specified (seen_now p)) (sym c.specifier_of.ensures) ∙ sym (specified_at k c.specifier_of.result c.requires) ∙ c.in_err-base.ensures m))
    c.from_residual.ensures.1

pub parameter_type-requires-clause-base : goal.parameter_type-requires-clause-base
parameter_type-requires-clause-base c =
    let g = seen c.args.known.now in
    rw c.get.ensures (where_ok (λ t. is_specified t ≡ true) (specified g c.specifier_of.result) c.in_ok-base.base c.in_ok-base.ensures (specified_is g c.specifier_of.result))

pub returns : goal.returns
returns c =
    let k = c.args.known.now in
    let p = program k in
    let a = c.args.allocation in
    let x = parameter c.args.tree.now in
    let found = ap (specified (seen_now p)) (sym c.specifier_of.ensures) ∙ sym (specified_at k c.specifier_of.result c.requires) ∙ c.in_ok-base.ensures in
    gives_by _ _ c.parameter_type.result (ap (parameter_type p a k.locals x) c.get.ensures ∙ sym (whole_by p a k.locals x ∙ ap (λ o. o >>= parameter_type p a k.locals x) found)) c.parameter_type.ensures
