use Rattle.std.proofs.Common.{ap, ◌∙◌, arith, take}
use Rattle.std.proofs.lemmas.List.{length-take-le}
use Rattle.c_lexer.specs.Positions.{start, after}
use Rattle.c_lexer.proofs.PositionLemmas.{after-offset, after_bounded}
use Rattle.c_lexer.proofs.lexing.position_at.Goals as goal

pub returns : goal.returns
returns c =
    let size = after-offset (take c.args.offset c.args.text.now) start in
    let bounded = after_bounded (take c.args.offset c.args.text.now) start (record { line = omega arith; column = omega arith }) in
    let fits = length-take-le c.args.offset c.args.text.now c.requires.within in
    let same = c.across.ensures ∙ ap (λ p. after p (take c.args.offset c.args.text.now)) c.start.ensures in
    record { position = same; offset = rw same (omega (arith, size, fits)); line = rw same bounded.line; column = rw same bounded.column }
