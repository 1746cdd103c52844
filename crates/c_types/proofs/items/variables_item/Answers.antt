use Rattle.std.proofs.Common.{◌≡◌, true, refl, sym, ap, ◌∙◌}
use Rattle.typing_laws.proofs.CheckedValues.{where_ok}
use Rattle.typing_rules.specs.Environment.{specified}
use Rattle.typing_rules.specs.FileScope.{seen_now, variables as variables_rule}
use Rattle.typing_rules.specs.Programs.{item as item_rule}
use Rattle.typing_declarators.specs.Types.{is_specified}
use Rattle.typing_scopes.specs.Known.{program, known as environment}
use Rattle.typing_files.specs.Variables.{declared_in}
use Rattle.typing_files.proofs.Outcomes.{broken, goes_on, becomes_by}
use Rattle.typing_files.proofs.Points.{sees}
use Rattle.typing_files.proofs.Variables.{specified_is}
use Rattle.c_types.specs.Items as seen
use Rattle.c_types.proofs.ItemLaws.{variables_by}
use Rattle.c_types.proofs.items.variables_item.Goals as goal

pub returns-in_err-base-clause-becomes : goal.returns-in_err-base-clause-becomes
returns-in_err-base-clause-becomes c =
    let k = c.args.known.now in
    let p = program k in
    let x = c.args.specifier.now in
    let ds = declared_in c.args.names.now in
    broken (item_rule (seen.variables_item x ds) p) (specified (seen_now p) x) (λ base. variables_rule base ds p) c.from_residual.result c.in_err-base.field-0.0 p (variables_by x ds p) (λ m. ap (λ g. specified g x) (sym (sees k c.requires)) ∙ c.in_err-base.ensures m) c.from_residual.ensures.1

pub variables-requires-clause-base : goal.variables-requires-clause-base
variables-requires-clause-base c =
    let g = environment c.args.known.now in
    rw c.get.ensures (where_ok (λ t. is_specified t ≡ true) (specified g c.args.specifier.now) c.in_ok-base.base c.in_ok-base.ensures (specified_is g c.args.specifier.now))

pub returns-clause-becomes : goal.returns-clause-becomes
returns-clause-becomes c =
    let k = c.args.known.now in
    let p = program k in
    let x = c.args.specifier.now in
    let ds = declared_in c.args.names.now in
    goes_on (item_rule (seen.variables_item x ds) p) (specified (seen_now p) x) (λ base. variables_rule base ds p) c.in_ok-base.base c.variables.result (program c.variables.new.known) (variables_by x ds p) (ap (λ g. specified g x) (sym (sees k c.requires)) ∙ c.in_ok-base.ensures)
    (becomes_by _ _ c.variables.result (program c.variables.new.known) (program c.variables.new.known) (ap (λ t. variables_rule t ds p) c.get.ensures) refl c.variables.ensures.becomes)
