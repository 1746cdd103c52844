use Rattle.std.proofs.Common.{◌≡◌, true, false, nat_lt, sym, ap, ◌∙◌, rules, arith}
use Rattle.std.proofs.lemmas.Grind.{common_steps}
use Rattle.c_words.specs.Operators.{has}
use Rattle.c_words.specs.declared.operators.Operators.TheVariants as o
use Rattle.c_words.specs.Written.{links}
use Rattle.c_words.proofs.Turns.{nothing_left}
use Rattle.c_nesting.proofs.NestingLaws.{links_none, links_more, links_stop, first_stops, first_fits}
use Rattle.c_nesting.proofs.nesting.chain_fits.Goals as goal

pub returns-then-not-fits : goal.returns-then-not-fits
returns-then-not-fits g c =
    let operand = g.P.Operand.operand in
    let limit = g.P.Operand.limit c.args.operand.now in
    let h : nat_lt (operand c.args.tree.now.first).nesting limit ≡ false = sym c.fits.ensures ∙ c.if-not-fits.true in
    λ operators. sym (first_stops operators operand limit c.args.tree.now h)

pub loop-link-init : goal.loop-link-init
loop-link-init g c =
    let operand = g.P.Operand.operand in
    let limit = g.P.Operand.limit c.args.operand.now in
    let h : nat_lt (operand c.args.tree.now.first).nesting limit ≡ true = sym c.fits.ensures ∙ c.if-not-fits.false in (
      c.requires,
      (first_fits (has o.List) operand limit c.args.tree.now h).0,
      λ operators. let e = (first_fits operators operand limit c.args.tree.now h).1 in first_of (search rules, grind (arith, common_steps)),
    )

pub returns-then-not-fits-2 : goal.returns-then-not-fits-2
returns-then-not-fits-2 g c =
    let operand = g.P.Operand.operand in
    let limit = g.P.Operand.limit c.args.operand.now in
    let h : nat_lt (operand c.in-Some.link.now.operand).nesting limit ≡ false = sym c.fits-in-Some.ensures ∙ c.if-not-fits-2.true in
    λ operators.
    sym (c.loop-link.invariant.2 operators ∙ ap (λ l. nat_lt (links operators operand l).nesting limit) c.in-Some.ensures.cases.0 ∙ links_stop operators operand limit c.in-Some.link.now c.in-Some.rest.now h)

pub loop-link-preserved : goal.loop-link-preserved
loop-link-preserved g c =
    let operand = g.P.Operand.operand in
    let limit = g.P.Operand.limit c.args.operand.now in
    let h : nat_lt (operand c.in-Some.link.now.operand).nesting limit ≡ true = sym c.fits-in-Some.ensures ∙ c.if-not-fits-2.false in (
      c.loop-link.invariant.0,
      c.loop-link.invariant.1,
      λ operators.
          c.loop-link.invariant.2 operators ∙ ap (λ l. nat_lt (links operators operand l).nesting limit) c.in-Some.ensures.cases.0 ∙ links_more operators operand limit c.in-Some.link.now c.in-Some.rest.now h,
    )

pub returns : goal.returns
returns g c =
    let operand = g.P.Operand.operand in
    let limit = g.P.Operand.limit c.args.operand.now in
    let empty = nothing_left c.loop-link.links.now c.in_default.ensures.cases in
    λ operators. sym (c.loop-link.invariant.2 operators ∙ ap (λ l. nat_lt (links operators operand l).nesting limit) empty ∙ links_none operators operand limit c.loop-link.invariant.1)
