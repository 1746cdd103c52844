use Rattle.std.proofs.Common.{refl}
use Rattle.typing_rules.specs.TreesOfDeclarations.{body}
use Rattle.typing_declarators.proofs.LayerLaws.{same_Ok}
use Rattle.typing_scopes.specs.Known.{program}
use Rattle.typing_files.proofs.Outcomes.{becomes_by}
use Rattle.typing_functions.specs.Functions.{number_of}
use Rattle.typing_functions.proofs.FunctionLaws.{declared_by}
use Rattle.typing_functions.proofs.function.declared_as.Goals as goal

pub returns-clause-becomes : goal.returns-clause-becomes
returns-clause-becomes c =
    let k = c.args.known.now in
    let p = program k in
    let t = c.args.name.now in
    let found = c.in_ok-number.ensures in
    becomes_by _ _ c.define.result (program c.define.new.known) (program c.define.new.known)
    (declared_by t c.args.returns.now k.locals c.declare.new.known.locals c.in_ok-number.number (body c.args.body.now) p (program c.declare.new.known) found.program (same_Ok (number_of p t) c.in_ok-number.number found.number) found.same)
    refl c.define.ensures.becomes
