use Rattle.std.proofs.Common.{[], ◌∷◌, ◌++◌, refl, sym, ap, subst, ◌∙◌}
use Rattle.typing_rules.specs.FileScope.{bytes}
use Rattle.typing_rules.specs.Functions.{prototype as prototype_rule}
use Rattle.typing_declarators.proofs.LayerLaws.{same_Ok}
use Rattle.typing_scopes.specs.Known.{program}
use Rattle.typing_files.specs.Points.{IsSteady}
use Rattle.typing_files.proofs.Outcomes.{on_ok}
use Rattle.typing_functions.proofs.FunctionLaws.{prototype_steady, function_at}
use Rattle.typing_functions.proofs.function.add_prototype.Goals as goal

pub returns-clause-at : goal.returns-clause-at
returns-clause-at c =
    let k = c.args.known.now in
    let p = program k in
    let r = c.args.returns.now in
    let f = c.in_ok-function.function in
    let name = bytes p c.args.name.now in
    let same = ap (λ w. prototype_rule w r k.locals) (sym c.bytes-bytes.ensures) ∙ ap (λ ps. prototype_rule c.bytes-bytes.result.now r ps) (sym c.as_slice.ensures) ∙ same_Ok (prototype_rule c.bytes-bytes.result.now r c.as_slice.result.now) f c.in_ok-function.ensures in
    let steady = subst (λ f. IsSteady (record p { functions = p.functions ++ (f ∷ []) })) same (prototype_steady p name r k.locals c.requires.returns c.requires.new c.requires.at.steady) in
    on_ok c.add_function.result c.add_function.ensures.added (λ e. function_at k c.add_function.new.self (record p { functions = p.functions ++ (f ∷ []) }) e refl refl c.requires.at steady)
