use Rattle.std.proofs.Common.{◌≡◌, ◌<◌, Ok, get_or, length, refl, sym, ap, subst, ◌∙◌}
use Rattle.step_meaning.specs.declared.program.Function.{Function as CoreFunction}
use Rattle.typing_rules.specs.FileScope.{Program, bytes, tags}
use Rattle.typing_rules.specs.Functions.{replaced}
use Rattle.typing_rules.specs.TreesOfDeclarations.{block}
use Rattle.typing_laws.specs.SmallPrograms.{HasNoArray}
use Rattle.typing_scopes.specs.Known.{program}
use Rattle.typing_files.specs.Points.{IsSteady}
use Rattle.typing_files.proofs.Outcomes.{fails}
use Rattle.typing_files.proofs.Points.{still_at}
use Rattle.typing_statements.specs.Points.{frame_at}
use Rattle.typing_functions.specs.Functions.{IsDeclared, with_body}
use Rattle.typing_functions.proofs.FunctionLaws.{ready_at, body_broken, body_made, made_function, outside_program, outside_tags, declared_within, declared_named, replaced_steady, ended_at}
use Rattle.typing_functions.proofs.function.defined.Goals as goal

pub statements-requires : goal.statements-requires
statements-requires c = ready_at c.args.known.now c.requires.at

pub returns-in_err-statements-clause-becomes : goal.returns-in_err-statements-clause-becomes
returns-in_err-statements-clause-becomes c =
    let k = c.args.known.now in
    let p = program k in
    let name = bytes p c.args.name.now in
    let e = c.in_err-statements.field-0.0 in
    fails (with_body p c.args.number name c.args.returns.now k.locals (block c.args.body.now)) c.from_residual.result e (program c.statements.new.known)
    (λ m. body_broken k c.requires.at c.args.number name c.args.returns.now (block c.args.body.now) e (c.in_err-statements.ensures.makes m)) c.from_residual.ensures.1

pub set_function-requires-clause-within : goal.set_function-requires-clause-within
set_function-requires-clause-within c =
    let k = c.args.known.now in
    let p = program k in
    let same : program c.end_function-locals.new.self ≡ p = ap (λ s. s.program) c.end_function-locals.ensures.state ∙ outside_program k c.statements.new.known c.in_ok-statements.ensures.same in
    subst (λ q. c.args.number < length q.functions) (sym same) (declared_within (bytes p c.args.name.now) p.functions c.args.number c.requires.declared)

pub set_function-requires-clause-named : goal.set_function-requires-clause-named
set_function-requires-clause-named c =
    let k = c.args.known.now in
    let p = program k in
    let t = c.args.name.now in
    let name = bytes p t in
    let r = c.args.returns.now in
    let n = c.args.number in
    let inner = c.statements.new.known in
    let ended = c.end_function-locals.new.self in
    let f = c.in_ok-function.function in
    let outer : program inner ≡ p = outside_program k inner c.in_ok-statements.ensures.same in
    let same : program ended ≡ p = ap (λ s. s.program) c.end_function-locals.ensures.state ∙ outer in
    let made = made_function k inner name c.bytes.result.now r c.len-params.result c.end_function-locals.result c.in_ok-statements.statements f (c.bytes.ensures ∙ ap (λ q. bytes q t) same) c.len-params.ensures c.end_function-locals.ensures.locals c.in_ok-function.ensures in
    subst (λ q. f.name ≡ (get_or q.functions n f).name) (sym same) (declared_named name p.functions n f c.requires.declared (ap (λ f. f.name) made))

pub returns-clause-becomes : goal.returns-clause-becomes
returns-clause-becomes c =
    let k = c.args.known.now in
    let p = program k in
    let t = c.args.name.now in
    let name = bytes p t in
    let r = c.args.returns.now in
    let n = c.args.number in
    let inner = c.statements.new.known in
    let ended = c.end_function-locals.new.self in
    let f = c.in_ok-function.function in
    let outer : program inner ≡ p = outside_program k inner c.in_ok-statements.ensures.same in
    let same : program ended ≡ p = ap (λ s. s.program) c.end_function-locals.ensures.state ∙ outer in
    let made = made_function k inner name c.bytes.result.now r c.len-params.result c.end_function-locals.result c.in_ok-statements.statements f (c.bytes.ensures ∙ ap (λ q. bytes q t) same) c.len-params.ensures c.end_function-locals.ensures.locals c.in_ok-function.ensures in
    body_made k c.requires.at n name r (block c.args.body.now) c.in_ok-statements.statements (frame_at inner) c.in_ok-statements.ensures.makes
    ∙ ap (λ (g : CoreFunction). Ok (record p { functions = replaced n g p.functions })) (sym made)
    ∙ ap (λ (q : Program). Ok (record q { functions = replaced n f q.functions })) (sym same)
    ∙ ap (λ s. Ok s.program) (sym c.set_function.ensures)

pub returns-clause-at : goal.returns-clause-at
returns-clause-at c =
    let k = c.args.known.now in
    let p = program k in
    let t = c.args.name.now in
    let name = bytes p t in
    let r = c.args.returns.now in
    let n = c.args.number in
    let inner = c.statements.new.known in
    let ended = c.end_function-locals.new.self in
    let f = c.in_ok-function.function in
    let outer : program inner ≡ p = outside_program k inner c.in_ok-statements.ensures.same in
    let same : program ended ≡ p = ap (λ s. s.program) c.end_function-locals.ensures.state ∙ outer in
    let made = made_function k inner name c.bytes.result.now r c.len-params.result c.end_function-locals.result c.in_ok-statements.statements f (c.bytes.ensures ∙ ap (λ q. bytes q t) same) c.len-params.ensures c.end_function-locals.ensures.locals c.in_ok-function.ensures in
    let steady : IsSteady (program inner) = subst IsSteady (sym outer) c.requires.at.steady in
    let at = ended_at inner ended c.end_function-locals.ensures.state (outside_tags k inner c.in_ok-statements.ensures.same ∙ c.requires.at.tags ∙ ap tags (sym outer)) steady in
    let small : HasNoArray f.result = subst HasNoArray (sym (ap (λ f. f.result) made)) c.requires.returns in
    let declared : IsDeclared (program ended) n name = subst (λ q. IsDeclared q n name) (sym same) c.requires.declared in
    still_at ended c.set_function.new.self (record (program ended) { functions = replaced n f (program ended).functions }) c.set_function.ensures refl at (replaced_steady (program ended) n name f small declared (ap (λ f. f.name) made) at.steady)
