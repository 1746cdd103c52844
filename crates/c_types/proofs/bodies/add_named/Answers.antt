use Rattle.std.proofs.Common.{[], ◌∷◌, sym, ap, ◌∙◌}
use Rattle.typing_rules.specs.TreesOfDeclarations.{body}
use Rattle.typing_scopes.specs.Known.{program, state}
use Rattle.typing_files.proofs.Outcomes.{on_ok}
use Rattle.c_types.specs.Starts.{with_bodies, body_name}
use Rattle.c_types.proofs.StartLaws.{no_names}
use Rattle.c_types.proofs.bodies.add_named.Goals as goal

pub returns-in-Absent-clause-added : goal.returns-in-Absent-clause-added
unfolding body
returns-in-Absent-clause-added c =
    let text = c.args.known.now.text.now in
    no_names (state c.args.known.now) (body_name text c.args.name.now (body c.args.body.now)) (ap (λ b. body_name text c.args.name.now (body b)) c.in-Absent.is)

pub returns-in-Block-clause-added : goal.returns-in-Block-clause-added
unfolding body
returns-in-Block-clause-added c =
    let k = c.args.known.now in
    let named = ap (λ w. w ∷ []) c.bytes.ensures ∙ sym (ap (λ b. body_name k.text.now c.args.name.now (body b)) c.in-Block.is) in
    on_ok c.add_body.result c.add_body.ensures.added (λ e. e ∙ ap (λ names. record (state k) { program = with_bodies names (program k) }) named)
