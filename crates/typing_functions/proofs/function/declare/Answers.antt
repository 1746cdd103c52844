use Rattle.std.proofs.Common.{sym, subst, ◌∙◌}
use Rattle.std.specs.Prelude.{slice_get}
use Rattle.typing_rules.specs.FileScope.{bytes}
use Rattle.typing_rules.specs.Functions.{prototype as prototype_rule}
use Rattle.typing_declarators.proofs.LayerLaws.{same_Ok}
use Rattle.typing_scopes.specs.Known.{program}
use Rattle.typing_functions.specs.Functions.{IsNamed, IsDeclared, with_prototype}
use Rattle.typing_functions.proofs.FunctionLaws.{number_named, last_named}
use Rattle.typing_functions.proofs.function.declare.Goals as goal

pub returns-in-Some-clause-declared : goal.returns-in-Some-clause-declared
returns-in-Some-clause-declared c =
    let fs = c.args.known.now.functions in
    let n = c.in-Some.number in
    subst (λ w. IsNamed w (slice_get fs n)) c.bytes.ensures (number_named fs n c.bytes.result.now (sym c.in-Some.ensures.number))

pub returns-in_ok-add_prototype-in-None-clause-declared : goal.returns-in_ok-add_prototype-in-None-clause-declared
returns-in_ok-add_prototype-in-None-clause-declared c =
    let k = c.args.known.now in
    let p = program k in
    let t = c.args.name.now in
    let r = c.args.returns.now in
    let n = c.in_ok-number-in-None.number in
    let last = sym (same_Ok c.len.result n c.in_ok-number-in-None.ensures) ∙ c.len.ensures in
    subst (λ q. IsDeclared q n (bytes q t)) (same_Ok (with_prototype p (bytes p t) r k.locals) (program c.add_prototype.new.known) c.in_ok-add_prototype-in-None.ensures.becomes) (last_named p.functions (prototype_rule (bytes p t) r k.locals) n last)
