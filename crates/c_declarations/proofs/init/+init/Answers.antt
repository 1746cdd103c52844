use Rattle.std.proofs.Common.{rules, arith}
use Rattle.std.proofs.lemmas.Grind.{common_steps}
use Rattle.c_declarations.proofs.DeclaredLaws.{init-brace}
use Rattle.c_declarations.proofs.init.+init.Goals as goal

pub returns : goal.returns
returns t c =
    let e = init-brace c.args.depth (omega arith) c.args.tokens.now in
    first_of (search rules, grind (arith, common_steps))
