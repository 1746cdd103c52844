use Rattle.std.proofs.Common.{arith}
use Rattle.std.proofs.lemmas.List.{length-drop}
use Rattle.c_lexer.proofs.PositionLemmas.{along_bounded, step_bounded, step-offset}
use Rattle.c_lexer.proofs.FirstForm.FoundLemmas.{found_none, found_all, found_blank, found_token}
use Rattle.c_lexer.proofs.first_form.tokens.first_tokens.Goals as goal

pub loop-tokens-init : goal.loop-tokens-init
loop-tokens-init c = record {
  within = rw c.start-position.ensures (omega arith);
  bounded = rw c.start-position.ensures (record { line = omega arith; column = omega arith });
  found = rw (c.start-position.ensures, c.new-tokens.ensures.items) (found_none c.args.text.now);
  short = c.requires;
}

pub returns-in-End-clause-found : goal.returns-in-End-clause-found
returns-in-End-clause-found c =
    found_all c.args.text.now c.loop-tokens.position c.loop-tokens.tokens.items c.in-End.ensures.stands c.loop-tokens.invariant.found

pub loop-tokens-smaller-in-Blank : goal.loop-tokens-smaller-in-Blank
loop-tokens-smaller-in-Blank c =
    let some = c.in-Blank.ensures.reaches in
    rw c.after-position.ensures (omega (arith, some, step-offset c.loop-tokens.position c.in-Blank.byte, length-drop c.loop-tokens.position.offset c.args.text.now))

pub loop-tokens-preserved-in-Blank : goal.loop-tokens-preserved-in-Blank
loop-tokens-preserved-in-Blank c =
    let some = c.in-Blank.ensures.reaches in
    rw c.after-position.ensures (record {
      within = omega (arith, some, step-offset c.loop-tokens.position c.in-Blank.byte, length-drop c.loop-tokens.position.offset c.args.text.now);
      bounded = step_bounded c.loop-tokens.position c.in-Blank.byte c.loop-tokens.invariant.bounded;
      found = found_blank c.args.text.now c.loop-tokens.position c.in-Blank.byte c.loop-tokens.tokens.items c.in-Blank.ensures.stands c.loop-tokens.invariant.found;
      short = c.loop-tokens.invariant.short;
    })

pub loop-tokens-preserved : goal.loop-tokens-preserved
loop-tokens-preserved c =
    let reaches = c.in-Token.ensures.reaches in
    rw (c.along-position.ensures, c.in_ok-push-in-Token.ensures.items, c.token_at.ensures) (record {
      within = omega (arith, reaches.1, length-drop c.loop-tokens.position.offset c.args.text.now);
      bounded = along_bounded c.loop-tokens.position c.in-Token.len c.loop-tokens.invariant.bounded;
      found = found_token c.args.text.now c.loop-tokens.position c.in-Token.kind c.in-Token.len c.loop-tokens.tokens.items c.in-Token.ensures.stands c.loop-tokens.invariant.found;
      short = c.loop-tokens.invariant.short;
    })
