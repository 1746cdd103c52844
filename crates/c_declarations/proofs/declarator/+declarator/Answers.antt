use Rattle.std.proofs.Common.{rules, sym, arith}
use Rattle.std.proofs.lemmas.Grind.{common_steps}
use Rattle.c_declarations.proofs.DeclaratorLaws.{declarator-star, declarator_below}
use Rattle.c_declarations.proofs.declarator.+declarator.Goals as goal

pub measured-returns : goal.measured-returns
measured-returns t c =
    let e = declarator-star c.args.may_be_empty c.args.depth (omega arith) c.args.stars c.args.tokens.now in
    first_of (search rules, grind (arith, common_steps))

pub parenthesized-parenthesized-requires : goal.parenthesized-parenthesized-requires
parenthesized-parenthesized-requires t c =
    let read = rw (c.new.ensures) at (rw c.in_ok-found.was at c.measured.ensures) in
    let held = rw c.in_ok-found-2.was at c.then_expect.ensures in
    let below = declarator_below _ _ _ _ _ read in
    let inside = c.ranges.inside.fits in
    first_of (search rules, grind (arith))
