use Rattle.std.proofs.Common.{length, rules, subst, sym}
use Rattle.std.proofs.lemmas.Int.{to_z-of_z}
use mir.Syntax.{w128}
use mir.Val.{SFits}
use Rattle.step_meaning.specs.Predicates.{objects_from}
use Rattle.acsl_values.specs.Seen.{meant}
use Rattle.acsl_truth.specs.Ranges.{BeginsWithin, Denotes}
use Rattle.acsl_truth.proofs.ranges.objects_of.Goals as goal

pub returns-in-Pointer : goal.returns-in-Pointer
returns-in-Pointer c = λ us s h a b.
    let fit_a = c.ranges.a in
    let fit_b = c.ranges.b in
    let fit_offset : SFits w128 c.in-Pointer.offset = search rules in
    let objects = simp to_z-of_z at c.objects_in.ensures in
    let begins = subst (λ v. BeginsWithin (meant v) c.args.a (length us)) c.in-Pointer.is h in
    subst (λ v. Denotes c.objects_in.result (objects_from (meant v) c.args.a c.args.b us)) (sym c.in-Pointer.is) (objects us s a b begins.0 begins.1)
