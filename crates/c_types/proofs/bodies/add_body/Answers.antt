use Rattle.std.proofs.Common.{[], ◌∷◌, length, sym, ap, ◌∙◌}
use Rattle.typing_rules.specs.Syntax.{Spelled}
use Rattle.typing_rules.specs.TreesOfDeclarations.{item, params, body}
use Rattle.typing_scopes.specs.Known.{program, state}
use Rattle.typing_files.proofs.Outcomes.{on_ok}
use Rattle.c_types.specs.Starts.{with_bodies, names_in}
use Rattle.c_types.proofs.StartLaws.{function_names, no_names}
use Rattle.c_types.proofs.bodies.add_body.Goals as goal

pub returns-in-Struct-clause-added : goal.returns-in-Struct-clause-added
unfolding item
returns-in-Struct-clause-added c = no_names (state c.args.known.now) (names_in c.args.known.now.text.now (c.args.tree.now ∷ [])) (ap (λ t. names_in c.args.known.now.text.now (t ∷ [])) c.in-Struct.is)

pub returns-in-Variables-clause-added : goal.returns-in-Variables-clause-added
unfolding item
returns-in-Variables-clause-added c = no_names (state c.args.known.now) (names_in c.args.known.now.text.now (c.args.tree.now ∷ [])) (ap (λ t. names_in c.args.known.now.text.now (t ∷ [])) c.in-Variables.is)

pub returns-in-Meta-clause-added : goal.returns-in-Meta-clause-added
unfolding item
returns-in-Meta-clause-added c = no_names (state c.args.known.now) (names_in c.args.known.now.text.now (c.args.tree.now ∷ [])) (ap (λ t. names_in c.args.known.now.text.now (t ∷ [])) c.in-Meta.is)

pub returns-in-Ghost-clause-added : goal.returns-in-Ghost-clause-added
unfolding item
returns-in-Ghost-clause-added c = no_names (state c.args.known.now) (names_in c.args.known.now.text.now (c.args.tree.now ∷ [])) (ap (λ t. names_in c.args.known.now.text.now (t ∷ [])) c.in-Ghost.is)

pub returns-in-Function-clause-added : goal.returns-in-Function-clause-added
unfolding item
returns-in-Function-clause-added c =
    let k = c.args.known.now in
    let text = k.text.now in
    let f = c.in-Function in
    let r : Spelled = record { specifier = f.field-1.specifier; stars = length f.field-2 } in
    let named = function_names text r f.name (params f.field-5) (body f.body) ∙ sym (ap (λ t. names_in text (t ∷ [])) f.is) in
    on_ok c.add_named.result c.add_named.ensures.added (λ e. e ∙ ap (λ names. record (state k) { program = with_bodies names (program k) }) named)
