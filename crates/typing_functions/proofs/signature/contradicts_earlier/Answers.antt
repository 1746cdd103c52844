use Rattle.std.proofs.Common.{◌≡◌, Some, get_or, sym, ap, ◌∙◌}
use Rattle.std.specs.Prelude.{slice_get}
use Rattle.std.proofs.lemmas.Option.{slice_get-get_or}
use Rattle.typing_rules.specs.Functions.{contradicts as contradicts_rule}
use Rattle.typing_functions.proofs.Signatures.{none_named, one_named}
use Rattle.typing_functions.proofs.signature.contradicts_earlier.Goals as goal

pub returns-in-None : goal.returns-in-None
returns-in-None c =
    let k = c.args.known.now in
    sym (none_named c.args.name.now (λ f. contradicts_rule f c.args.signature.returns.now k.locals c.args.signature.defined) k.functions (sym c.in-None.ensures.number))

pub returns-in-Some : goal.returns-in-Some
returns-in-Some c =
    let k = c.args.known.now in
    let n = c.in-Some.number in
    let f = c.index-as_slice-number.result in
    let r = c.args.signature.returns.now in
    let d = c.args.signature.defined in
    let there : slice_get k.functions n ≡ Some f = slice_get-get_or k.functions n f c.in-Some.ensures.within ∙ ap Some (sym (c.index-as_slice-number.is ∙ ap (λ fs. get_or fs n f) c.as_slice.ensures)) in
    c.contradicts.ensures ∙ ap (λ ps. contradicts_rule f r ps d) c.as_slice-in-Some.ensures ∙ sym (one_named c.args.name.now (λ f. contradicts_rule f r k.locals d) k.functions n f c.requires.steady.names (sym c.in-Some.ensures.number) there)
