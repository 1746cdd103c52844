use Rattle.std.proofs.Common.{refl, sym, ap, ◌∙◌}
use Rattle.step_meaning.specs.declared.value.CType.TheVariants.{Struct}
use Rattle.typing_rules.specs.FileScope.{variables as variables_rule}
use Rattle.typing_declarators.proofs.LayerLaws.{same_Ok}
use Rattle.typing_scopes.specs.Known.{program}
use Rattle.typing_files.specs.Variables.{declared_in}
use Rattle.typing_files.proofs.Outcomes.{becomes_by}
use Rattle.c_types.specs.Items.{declared_there}
use Rattle.c_types.proofs.ItemLaws.{none_there, some_there}
use Rattle.c_types.proofs.items.variables_there.Goals as goal

pub returns-in-None-clause-becomes : goal.returns-in-None-clause-becomes
returns-in-None-clause-becomes c =
    let p = program c.args.known.now in
    ap (λ o. variables_rule (Struct c.args.number) (declared_there o) p) c.in-None.is ∙ none_there (Struct c.args.number) p

pub returns-in_ok-base-in-Some-clause-becomes : goal.returns-in_ok-base-in-Some-clause-becomes
returns-in_ok-base-in-Some-clause-becomes c =
    let p = program c.args.known.now in
    let names = c.in-Some.names in
    let n = c.args.number in
    let base = c.get.ensures ∙ sym (same_Ok (Struct c.in-Ok.number) c.in_ok-base-in-Some.base c.in_ok-base-in-Some.ensures) ∙ ap Struct c.in-Ok.ensures.1 in
    becomes_by _ _ c.variables.result (program c.variables.new.known) (program c.variables.new.known)
    (ap (λ t. variables_rule t (declared_in names) p) base ∙ ap (λ ds. variables_rule (Struct n) ds p) (sym (ap declared_there c.in-Some.is ∙ some_there names)))
    refl c.variables.ensures.becomes
