use Rattle.std.proofs.Common.{◌≡◌, ap, ◌∙◌, Ok}
use Rattle.step_meaning.specs.declared.value.CType.TheVariants.{Pointer}
use Rattle.typing_rules.specs.Environment.{with_stars}
use Rattle.typing_scopes.proofs.Stars.{one_fewer, none_left, same_type_held}
use Rattle.typing_scopes.proofs.spelled.with_stars.Goals as goal

pub loop-left-preserved : goal.loop-left-preserved
loop-left-preserved c =
    let e : c.in_ok-found.found ≡ Pointer c.into_boxed.result = same_type_held c.in_ok-found.ensures in
    one_fewer c.loop-left.left c.loop-left.found c.in_ok-found.found (with_stars c.args.stars c.args.t) c.loop-left-test.true (e ∙ ap Pointer c.into_boxed.ensures) c.loop-left.invariant

pub returns : goal.returns
returns c = ap Ok (none_left c.loop-left.left c.loop-left.found (with_stars c.args.stars c.args.t) c.loop-left-test.false c.loop-left.invariant)
