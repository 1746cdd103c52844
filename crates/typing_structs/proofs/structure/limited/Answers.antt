use Rattle.std.proofs.Common.{◌-◌, sum_by, ap, arith}
use Rattle.step_meaning.specs.TypeRules.{cells}
use Rattle.typing_scopes.specs.Known.{program}
use Rattle.typing_structs.proofs.StructLaws.{too_large, within_limit}
use Rattle.typing_structs.proofs.structure.limited.Goals as goal

pub returns-then-room_beside-eq0-clause-gives : goal.returns-then-room_beside-eq0-clause-gives
returns-then-room_beside-eq0-clause-gives c =
    let layouts = ap (λ ls. 65537 - sum_by (λ d. cells ls d.ctype) c.args.members.now) c.as_slice.ensures in
    λ m. too_large (program c.args.known.now) c.args.tag.now c.args.members.now (omega (arith, layouts, c.room_beside.ensures, c.if-room_beside-eq0.true))

pub returns-clause-gives : goal.returns-clause-gives
returns-clause-gives c =
    let layouts = ap (λ ls. 65537 - sum_by (λ d. cells ls d.ctype) c.args.members.now) c.as_slice.ensures in
    within_limit (program c.args.known.now) c.args.tag.now c.args.members.now (omega (arith, layouts, c.room_beside.ensures, c.if-room_beside-eq0.false))
