use Rattle.std.proofs.Common.{◌≡◌, ◌*ℤ◌, ◌+ℤ◌, pos, length, rules, subst, sym, ap, ◌∙◌}
use Rattle.std.specs.Prelude.{◌*◌, ◌^◌, ◌-◌, min}
use Rattle.std.proofs.lemmas.Int.{to_z-of_z}
use Rattle.step_meaning.specs.Predicates.{count_from_to, objects_at}
use Rattle.acsl_truth.specs.Ranges.{IsRangeOf}
use Rattle.acsl_truth.proofs.RangeLaws.{objects_range}
use Rattle.acsl_truth.proofs.ranges.objects_in.Goals as goal

pub returns-in-Some : goal.returns-in-Some
returns-in-Some c = λ us s a b p f.
    let n = c.args.name in
    let start = c.args.offset +ℤ (c.args.a *ℤ pos (length us)) in
    let count = count_from_to c.args.a c.args.b in
    let fit_a = c.ranges.a in
    let fit_b = c.ranges.b in
    let fit_o = c.ranges.offset in
    let moved = simp to_z-of_z at c.moved_by.ensures in
    let counted = simp to_z-of_z at c.count_between.ensures in
    let first : c.in-Some.first ≡ start = cc (sym c.in-Some.is ∙ moved (length us) s p f) in
    let product = c.saturating_mul.ensures ∙ ap (λ k. min (k * c.args.size) (2 ^ 128 - 1)) (counted a b) in
    subst (λ z. IsRangeOf (record { name = n; first = z; count = c.saturating_mul.result }) (objects_at n start us count)) (search rules)
    (objects_range n start us count c.args.size c.saturating_mul.result f s product)
