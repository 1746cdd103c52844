-- Objects without cells, and objects that begin outside of every variable.
use Rattle.std.proofs.Common.{◌≡◌, ◌<◌, length, sym, arith}
use Rattle.std.proofs.lemmas.Int.{ints}
use Rattle.step_meaning.specs.Predicates.{denoted_types}
use Rattle.acsl_truth.proofs.AccessLaws.{objects_of_none, objects_outside, access_below, access_beyond}
use Rattle.acsl_truth.proofs.validity.run_allowed.Goals as goal
use Rattle.acsl_truth.proofs.validity.run_allowed.Goals.{else-first-ge0-via-then-first-ge0+else-first, else-first-ge0-via-else-first-ge0}

pub returns-then-size-eq0 : goal.returns-then-size-eq0
returns-then-size-eq0 g c = λ capped.
    let s = g.V.View.sight c.args.view.now in
    let us = denoted_types s.layouts c.args.ctype.now in
    let none : length us ≡ 0 = omega (arith, c.if-size-eq0.true, capped) in
    sym (objects_of_none s c.args.name.now c.args.first c.args.count us none)

pub returns-else-first-ge0 : goal.returns-else-first-ge0
returns-else-first-ge0 g c = λ capped.
    let s = g.V.View.sight c.args.view.now in
    let n = c.args.name.now in
    let us = denoted_types s.layouts c.args.ctype.now in
    let some : 0 < length us = omega (arith, c.if-size-eq0.false, capped) in
    let counted : 0 < c.args.count = omega (arith, c.if-count-eq0.false) in
    sym (objects_outside s n c.args.first us c.args.count some counted
    (elim c.else-first-ge0.branch [
      | else-first-ge0-via-then-first-ge0+else-first w ↦ access_beyond s n c.args.first (omega (arith, ints))
      | else-first-ge0-via-else-first-ge0 w ↦ access_below s n c.args.first (omega (arith, ints))
    ]))
