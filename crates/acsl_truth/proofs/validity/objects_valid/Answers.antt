use Rattle.std.proofs.Common.{◌≡◌, ◌&&◌, Some, subst, sym, rules}
use Rattle.std.specs.Prelude.{not}
use Rattle.std.proofs.lemmas.Int.{to_z-of_z}
use mir.Syntax.{w128}
use mir.Val.{SFits}
use Rattle.step_meaning.specs.Predicates.{denoted_size, denoted_types, is_null, may_access_all, objects_from, when_defined}
use Rattle.acsl_values.specs.Seen.{meant}
use Rattle.acsl_truth.specs.Ranges.{BeginsWithin}
use Rattle.acsl_truth.proofs.validity.objects_valid.Goals as goal

pub returns-in-Pointer : goal.returns-in-Pointer
returns-in-Pointer g c = λ h a b.
    let s = g.V.View.sight c.args.view.now in
    let us = denoted_types s.layouts c.args.ctype.now in
    let fit_a = c.ranges.a in
    let fit_b = c.ranges.b in
    let fit_offset : SFits w128 c.in-Pointer.offset = search rules in
    let allowed = simp to_z-of_z at c.span_allowed.ensures in
    let begins = subst (λ v. BeginsWithin (meant v) c.args.a (denoted_size s.layouts c.args.ctype.now)) c.in-Pointer.is h in
    subst (λ v. c.span_allowed.result ≡ (not (is_null (Some (meant v))) && when_defined (may_access_all s) (objects_from (meant v) c.args.a c.args.b us))) (sym c.in-Pointer.is) (allowed a b begins.0 begins.1)
