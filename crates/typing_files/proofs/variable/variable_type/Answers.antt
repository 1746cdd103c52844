use Rattle.std.proofs.Common.{◌≤◌, Ok, Err, ap, subst, ◌∙◌}
use Rattle.std.specs.Prelude.{IfOk}
use Rattle.typing_rules.specs.Checked.{Checked, Gives}
use Rattle.typing_rules.specs.Declarations.{count_of}
use Rattle.typing_rules.specs.TreesOfDeclarations.{declared, declarator}
use Rattle.typing_laws.specs.SmallTypes.{WhereOk}
use Rattle.typing_laws.proofs.CheckedValues.{where_ok}
use Rattle.typing_scopes.specs.Known.{program}
use Rattle.typing_files.specs.Variables.{variable_name, variable_type, MayBeVariable}
use Rattle.typing_files.proofs.Outcomes.{gives_by}
use Rattle.typing_files.proofs.Points.{small_at, cells_at}
use Rattle.typing_files.proofs.Variables.{type_of_variable, variable_may}
use Rattle.typing_files.proofs.variable.variable_type.Goals as goal

pub declared_type-requires-clause-small : goal.declared_type-requires-clause-small
declared_type-requires-clause-small c = small_at c.args.known.now c.requires.at

pub declared_type-requires-clause-structs : goal.declared_type-requires-clause-structs
declared_type-requires-clause-structs c = cells_at c.args.known.now c.requires.at

if_given : {A : Type 0} (P : A → Type 0) (o r : Checked A) → Gives o r → WhereOk P o → IfOk r P
if_given P o (Ok a) e h = where_ok P o a e h
if_given P o (Err e) k h = tt

pub returns : goal.returns
returns c =
    let k = c.args.known.now in
    let d = declared c.args.tree.now in
    let positive : 1 ≤ count_of d.initialiser = subst (λ n. 1 ≤ n) c.element_count-count.ensures.value c.element_count-count.ensures.positive in
    let named = c.variable_name-name.ensures ∙ ap (variable_name (program k)) c.name_of.ensures in
    let gives : Gives (variable_type (program k) c.args.base.now d) c.declared_type.result = gives_by _ _ c.declared_type.result (type_of_variable k c.args.base.now d c.variable_name-name.result c.element_count-count.result (declarator c.declarator_of.result.now) c.requires.at named c.element_count-count.ensures.value c.declarator_of.ensures) c.declared_type.ensures in
    record { gives = gives; may = if_given (MayBeVariable (program k) d.declarator.name) (variable_type (program k) c.args.base.now d) c.declared_type.result gives (variable_may (program k) c.args.base.now d c.requires.base positive) }
