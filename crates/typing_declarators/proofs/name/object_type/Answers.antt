use Rattle.std.proofs.Common.{map, Ok, sym, ap, ◌∙◌}
use Rattle.std.proofs.lemmas.Result.{err_from_is_err_and}
use Rattle.typing_rules.specs.Declarations.{layered}
use Rattle.typing_scopes.specs.Known.{known as seen}
use Rattle.typing_declarators.specs.Layers.{layer}
use Rattle.typing_declarators.proofs.LayerLaws.{same_Ok}
use Rattle.typing_declarators.proofs.DeclaredTypes.{at_type, broken_rule, no_broken_rule}
use Rattle.typing_declarators.proofs.name.object_type.Goals as goal

pub returns-in_err-declarable_object : goal.returns-in_err-declarable_object
returns-in_err-declarable_object c = λ ls is p.
    let g = seen c.args.known.now in
    let cs = map layer c.args.layers.now in
    let found = same_Ok (layered cs c.args.base.now) c.in_ok-t.t c.in_ok-t.ensures in
    let r = err_from_is_err_and c.from_residual-in_err-declarable_object.result c.from_residual-in_err-declarable_object.ensures.1 in
    rw (r.1, r.2) (λ q. broken_rule g c.args.name ls c.args.base.now cs c.in_err-declarable_object.field-0.0 is (ap (at_type g c.args.name) (found ∙ sym c.get.ensures) ∙ c.in_err-declarable_object.ensures q))

pub returns : goal.returns
returns c = λ ls is p.
    let g = seen c.args.known.now in
    let cs = map layer c.args.layers.now in
    let found = same_Ok (layered cs c.args.base.now) c.in_ok-t.t c.in_ok-t.ensures in
    no_broken_rule g c.args.name ls c.args.base.now c.requires.structs cs is p c.requires.base (ap (at_type g c.args.name) (found ∙ sym c.get.ensures) ∙ c.in_ok-declarable_object.ensures)
    ∙ ap (λ t. Ok t) found
