-- The cells of a type are those of its parts.
use Rattle.std.proofs.Common.{◌≡◌, ◌+◌, ◌*◌, ◌<◌, ◌++◌, length, take, get_or, sym, ap, ◌∙◌, subst, arith, length-append}
use Rattle.step_meaning.specs.Types.{object_cells, times}
use Rattle.step_meaning.specs.Memory.{unset_cells}
use Rattle.step_meaning.specs.declared.value.CType.TheVariants.{Struct}
use Rattle.run_memory.specs.Cells.{seen}
use Rattle.run_memory.specs.Filling.{written_from}
use Rattle.run_memory.proofs.TypeCells.{array_cells, array_depth, array_length, times_more, times_length, struct_cells, no_struct, part_of_bulk, depth_at, written_more, members_cells, members_more, members_room, array_room, array_next}
use Rattle.run_memory.proofs.fill.+fill.Goals as goal

pub fill_array-fill_object-offset-requires : goal.fill_array-fill_object-offset-requires
fill_array-fill_object-offset-requires t c = (omega arith, let w = array_room c.loop-i.i c.args.count (length (object_cells c.args.layouts.now c.args.of.now)) c.loop-i-test.true in omega (arith, c.loop-i.invariant.0, w))

pub fill_array-loop-i-preserved : goal.fill_array-loop-i-preserved
fill_array-loop-i-preserved t c =
    let cells = object_cells c.args.layouts.now c.args.of.now in (
      let w = array_next c.loop-i.i (length cells) in omega (arith, c.loop-i.invariant.0, w),
      written_more (seen c.args.pool.now) (seen c.loop-i.pool) (seen c.fill_object-offset.new.pool) c.args.at.slot c.args.at.name c.args.at.offset c.loop-i.offset (times c.loop-i.i cells) cells c.loop-i.invariant.1 (c.loop-i.invariant.0 ∙ ap (λ k. c.args.at.offset + k) (sym (times_length c.loop-i.i cells))) c.fill_object-offset.ensures.filled
          ∙ ap (λ ts. written_from (seen c.args.pool.now) c.args.at.slot c.args.at.name c.args.at.offset (unset_cells ts)) (sym (times_more c.loop-i.i cells)),
    )

pub fill_members-fill_object-offset-requires : goal.fill_members-fill_object-offset-requires
fill_members-fill_object-offset-requires t c =
    let i = c.loop-member.member-index in
    let m = c.member-item.result in
    let ls = c.args.before.now in
    let is : m ≡ get_or c.args.members.now i m = c.member-item.is in
    let h : i < length c.args.members.now = omega arith in
    let d = depth_at c.args.members.now i m h in
    let w = members_room ls c.args.members.now i m h in
    let same : length (object_cells ls m.ctype) ≡ length (object_cells ls (get_or c.args.members.now i m).ctype) = ap (λ x. length (object_cells ls x.ctype)) is in
    let deep : Rattle.step_meaning.specs.TermSizes.type_depth m.ctype ≡ Rattle.step_meaning.specs.TermSizes.type_depth (get_or c.args.members.now i m).ctype = ap (λ x. Rattle.step_meaning.specs.TermSizes.type_depth x.ctype) is in
    (omega arith, omega (arith, c.loop-member.invariant.0))

pub fill_members-loop-member-preserved : goal.fill_members-loop-member-preserved
fill_members-loop-member-preserved t c =
    let i = c.loop-member.member-index in
    let m = c.member-item.result in
    let ls = c.args.before.now in
    let is : m ≡ get_or c.args.members.now i m = c.member-item.is in
    let h : i < length c.args.members.now = omega arith in
    let more : members_cells ls (take (i + 1) c.args.members.now) ≡ members_cells ls (take i c.args.members.now) ++ object_cells ls m.ctype = members_more ls c.args.members.now i m h ∙ ap (λ x. members_cells ls (take i c.args.members.now) ++ object_cells ls x.ctype) (sym is) in
    let long = length-append (members_cells ls (take i c.args.members.now)) (object_cells ls m.ctype) in (
      let l = ap length more in omega (arith, c.loop-member.invariant.0),
      written_more (seen c.args.pool.now) (seen c.loop-member.pool) (seen c.fill_object-offset.new.pool) c.args.at.slot c.args.at.name c.args.at.offset c.loop-member.offset (members_cells ls (take i c.args.members.now)) (object_cells ls m.ctype) c.loop-member.invariant.1 c.loop-member.invariant.0 c.fill_object-offset.ensures.filled
          ∙ ap (λ ts. written_from (seen c.args.pool.now) c.args.at.slot c.args.at.name c.args.at.offset (unset_cells ts)) (sym more),
    )

pub fill_object-fill_array-requires : goal.fill_object-fill_array-requires
fill_object-fill_array-requires t c =
    let ls = c.args.layouts.now in
    let long = array_length ls c.in-Array.of c.in-Array.count in
    let deep = array_depth c.in-Array.of c.in-Array.count in
    let same : length (object_cells ls c.args.ctype.now) ≡ c.in-Array.count * length (object_cells ls c.get.result.now) = ap (λ u. length (object_cells ls u)) c.in-Array.is ∙ long ∙ ap (λ u. c.in-Array.count * length (object_cells ls u)) (sym c.get.ensures) in
    let deeper = ap Rattle.step_meaning.specs.TermSizes.type_depth c.in-Array.is ∙ deep ∙ ap (λ u. Rattle.std.proofs.Common.suc (Rattle.step_meaning.specs.TermSizes.type_depth u)) (sym c.get.ensures) in
    (omega arith, omega (arith, same))

pub fill_object-returns-in-Array-clause-next : goal.fill_object-returns-in-Array-clause-next
fill_object-returns-in-Array-clause-next t c =
    let ls = c.args.layouts.now in
    c.fill_array.ensures.next
    ∙ ap (λ k. c.args.at.offset + k) (sym (ap (λ u. length (object_cells ls u)) c.in-Array.is ∙ array_length ls c.in-Array.of c.in-Array.count ∙ ap (λ u. c.in-Array.count * length (object_cells ls u)) (sym c.get.ensures)))

pub fill_object-returns-in-Array-clause-filled : goal.fill_object-returns-in-Array-clause-filled
fill_object-returns-in-Array-clause-filled t c =
    let ls = c.args.layouts.now in
    c.fill_array.ensures.filled
    ∙ ap (λ ts. written_from (seen c.args.pool.now) c.args.at.slot c.args.at.name c.args.at.offset (unset_cells ts))
    (sym (ap (object_cells ls) c.in-Array.is ∙ array_cells ls c.in-Array.of c.in-Array.count ∙ ap (λ u. times c.in-Array.count (object_cells ls u)) (sym c.get.ensures)))

pub fill_struct-fill_members-requires : goal.fill_struct-fill_members-requires
fill_struct-fill_members-requires t c =
    let ls = c.args.layouts.now in
    let n = c.args.number in
    let l = c.index-layouts-number.result in
    let cells = struct_cells ls n l c.if-number-layouts.true in
    let same : length (members_cells (take n ls) c.as_slice.result.now) ≡ length (object_cells ls (Struct n)) = ap (λ ms. length (members_cells (take n ls) ms)) c.as_slice.ensures ∙ sym (ap length cells) in
    let bulky = part_of_bulk ls n l c.if-number-layouts.true in
    let deep = ap Rattle.core_types.specs.Counts.depths c.as_slice.ensures in
    (omega (arith, bulky, deep), omega (arith, same))

pub fill_struct-returns-then-number-layouts-clause-next : goal.fill_struct-returns-then-number-layouts-clause-next
fill_struct-returns-then-number-layouts-clause-next t c =
    let ls = c.args.layouts.now in
    let n = c.args.number in
    let l = c.index-layouts-number.result in
    c.fill_members.ensures.next
    ∙ ap (λ k. c.args.at.offset + k) (ap (λ ms. length (members_cells (take n ls) ms)) c.as_slice.ensures ∙ sym (ap length (struct_cells ls n l c.if-number-layouts.true)))

pub fill_struct-returns-then-number-layouts-clause-filled : goal.fill_struct-returns-then-number-layouts-clause-filled
fill_struct-returns-then-number-layouts-clause-filled t c =
    let ls = c.args.layouts.now in
    let n = c.args.number in
    let l = c.index-layouts-number.result in
    c.fill_members.ensures.filled
    ∙ ap (λ ts. written_from (seen c.args.pool.now) c.args.at.slot c.args.at.name c.args.at.offset (unset_cells ts)) (ap (members_cells (take n ls)) c.as_slice.ensures ∙ sym (struct_cells ls n l c.if-number-layouts.true))

pub fill_struct-returns-else-number-layouts-clause-next : goal.fill_struct-returns-else-number-layouts-clause-next
fill_struct-returns-else-number-layouts-clause-next t c =
    let e = ap length (no_struct c.args.layouts.now c.args.number c.if-number-layouts.false) in omega (arith, e)

pub fill_struct-returns-else-number-layouts-clause-filled : goal.fill_struct-returns-else-number-layouts-clause-filled
fill_struct-returns-else-number-layouts-clause-filled t c =
    ap (λ ts. written_from (seen c.args.pool.now) c.args.at.slot c.args.at.name c.args.at.offset (unset_cells ts)) (sym (no_struct c.args.layouts.now c.args.number c.if-number-layouts.false))
