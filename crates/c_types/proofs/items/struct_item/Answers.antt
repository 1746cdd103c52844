use Rattle.std.proofs.Common.{length, refl, ap}
use Rattle.step_meaning.specs.declared.value.CType.TheVariants.{Struct}
use Rattle.typing_rules.specs.FileScope.{variables as variables_rule}
use Rattle.typing_rules.specs.Structs.{structure as structure_rule}
use Rattle.typing_rules.specs.Programs.{item as item_rule}
use Rattle.typing_scopes.specs.Known.{program}
use Rattle.typing_files.proofs.Outcomes.{broken, goes_on, becomes_by}
use Rattle.typing_structs.specs.Members.{members_in}
use Rattle.c_types.specs.Items as seen
use Rattle.c_types.specs.Items.{declared_there}
use Rattle.c_types.proofs.ItemLaws.{struct_by}
use Rattle.c_types.proofs.items.struct_item.Goals as goal

pub returns-in_err-structure-clause-becomes : goal.returns-in_err-structure-clause-becomes
returns-in_err-structure-clause-becomes c =
    let p = program c.args.known.now in
    let tag = c.args.tag.now in
    let ms = members_in c.args.members.now in
    let ds = declared_there c.args.names.now in
    broken (item_rule (seen.struct_item tag ms ds) p) (structure_rule tag ms p) (variables_rule (Struct (length p.layouts)) ds) c.from_residual.result c.in_err-structure.field-0.0 (program c.structure.new.known) (struct_by tag ms ds p) c.in_err-structure.ensures.becomes c.from_residual.ensures.1

pub returns-clause-becomes : goal.returns-clause-becomes
returns-clause-becomes c =
    let p = program c.args.known.now in
    let tag = c.args.tag.now in
    let ms = members_in c.args.members.now in
    let ds = declared_there c.args.names.now in
    let q = program c.structure.new.known in
    goes_on (item_rule (seen.struct_item tag ms ds) p) (structure_rule tag ms p) (variables_rule (Struct (length p.layouts)) ds) q c.variables_there.result (program c.variables_there.new.known) (struct_by tag ms ds p) c.in_ok-structure.ensures.becomes
    (becomes_by _ _ c.variables_there.result (program c.variables_there.new.known) (program c.variables_there.new.known) (ap (λ n. variables_rule (Struct n) ds q) c.len-number.ensures) refl c.variables_there.ensures.becomes)
