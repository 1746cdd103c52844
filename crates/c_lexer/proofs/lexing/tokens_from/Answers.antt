use Rattle.std.proofs.Common.{arith}
use Rattle.c_lexer.proofs.LexedLemmas.{completes_end, completes_fault, completes_blank, completes_ignored, completes_token, fault_of, moved_by, moved_blank}
use Rattle.c_lexer.proofs.lexing.tokens_from.Goals as goal

pub returns-in-End-clause-tokens : goal.returns-in-End-clause-tokens
returns-in-End-clause-tokens c =
    completes_end c.args.profile c.args.text.now c.args.from c.loop-tokens.position c.loop-tokens.leads c.loop-tokens.tokens.items c.loop-tokens.invariant.found c.in-End.ensures.stands

pub loop-tokens-smaller-in-Blank : goal.loop-tokens-smaller-in-Blank
loop-tokens-smaller-in-Blank c =
    let m = moved_blank c.args.text.now c.loop-tokens.position c.in-Blank.byte c.loop-tokens.invariant.within c.loop-tokens.invariant.bounded c.in-Blank.ensures.reaches in
    rw c.after-position.ensures (omega (arith, m.within, m.further))

pub loop-tokens-preserved-in-Blank : goal.loop-tokens-preserved-in-Blank
loop-tokens-preserved-in-Blank c =
    let m = moved_blank c.args.text.now c.loop-tokens.position c.in-Blank.byte c.loop-tokens.invariant.within c.loop-tokens.invariant.bounded c.in-Blank.ensures.reaches in
    rw (c.after-position.ensures, c.leads_after-leads.ensures) (record {
      within = m.within;
      bounded = m.bounded;
      found = completes_blank c.args.profile c.args.text.now c.args.from c.loop-tokens.position c.loop-tokens.leads c.loop-tokens.tokens.items c.in-Blank.byte c.loop-tokens.invariant.found c.in-Blank.ensures.stands;
      short = c.loop-tokens.invariant.short;
    })

pub loop-tokens-smaller-in-Ignored : goal.loop-tokens-smaller-in-Ignored
loop-tokens-smaller-in-Ignored c =
    let r = c.in-Ignored.ensures.reaches in
    let m = moved_by c.args.text.now c.loop-tokens.position c.in-Ignored.len c.loop-tokens.invariant.within c.loop-tokens.invariant.bounded r.0 r.1 in
    rw c.moved-position.ensures (omega (arith, m.within, m.further))

pub loop-tokens-preserved-in-Ignored : goal.loop-tokens-preserved-in-Ignored
loop-tokens-preserved-in-Ignored c =
    let r = c.in-Ignored.ensures.reaches in
    let m = moved_by c.args.text.now c.loop-tokens.position c.in-Ignored.len c.loop-tokens.invariant.within c.loop-tokens.invariant.bounded r.0 r.1 in
    rw c.moved-position.ensures (record {
      within = m.within;
      bounded = m.bounded;
      found = completes_ignored c.args.profile c.args.text.now c.args.from c.loop-tokens.position c.loop-tokens.leads c.loop-tokens.tokens.items c.in-Ignored.len r.1 c.loop-tokens.invariant.found c.in-Ignored.ensures.stands;
      short = c.loop-tokens.invariant.short;
    })

pub loop-tokens-smaller : goal.loop-tokens-smaller
loop-tokens-smaller c =
    let r = c.in-Token.ensures.reaches in
    let m = moved_by c.args.text.now c.loop-tokens.position c.in-Token.extent.len c.loop-tokens.invariant.within c.loop-tokens.invariant.bounded r.some r.fits in
    rw c.moved-position-in-Token.ensures (omega (arith, m.within, m.further))

pub loop-tokens-preserved : goal.loop-tokens-preserved
loop-tokens-preserved c =
    let r = c.in-Token.ensures.reaches in
    let m = moved_by c.args.text.now c.loop-tokens.position c.in-Token.extent.len c.loop-tokens.invariant.within c.loop-tokens.invariant.bounded r.some r.fits in
    rw (c.moved-position-in-Token.ensures, c.in_ok-push-in-Token.ensures.items, c.token_at.ensures) (record {
      within = m.within;
      bounded = m.bounded;
      found = completes_token c.args.profile c.args.text.now c.args.from c.loop-tokens.position c.loop-tokens.leads c.loop-tokens.tokens.items c.in-Token.kind c.in-Token.extent r.fits c.loop-tokens.invariant.found c.in-Token.ensures.stands;
      short = c.loop-tokens.invariant.short;
    })

pub returns-in-Fault-clause-fault : goal.returns-in-Fault-clause-fault
returns-in-Fault-clause-fault c =
    rw (c.at.ensures, c.place.ensures)
    (fault_of c.args.profile c.args.from _ _ c.loop-tokens.tokens.items c.in-Fault.flaw c.loop-tokens.position
    (completes_fault c.args.profile c.args.text.now c.args.from c.loop-tokens.position c.loop-tokens.leads c.loop-tokens.tokens.items c.in-Fault.flaw c.loop-tokens.invariant.found c.in-Fault.ensures.stands))
