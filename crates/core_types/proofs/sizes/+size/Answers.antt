-- A size is made of the sizes of its parts.
use Rattle.std.proofs.Common.{◌≡◌, ◌*◌, ◌∷◌, length, take, sym, ap, subst, ◌∙◌, rules, length-append}
use Rattle.std.specs.Prelude.{flat_map}
use Rattle.step_meaning.specs.Types.{object_cells}
use Rattle.core_types.specs.Counts.{Counts}
use Rattle.core_types.proofs.SizeLaws.{array_size, struct_size}
use Rattle.core_types.proofs.sizes.+size.Goals as goal

pub cells-returns-in-Array : goal.cells-returns-in-Array
cells-returns-in-Array t c =
    let ls = c.args.layouts.now in
    subst (λ n. Counts n c.times.result)
    (sym (ap (λ u. length (object_cells ls u)) c.in-Array.is ∙ array_size ls c.in-Array.of c.in-Array.count ∙ ap (λ u. c.in-Array.count * length (object_cells ls u)) (sym c.get.ensures)))
    (c.times.ensures _ c.cells.ensures)

pub members_size-returns-in-Some : goal.members_size-returns-in-Some
members_size-returns-in-Some t c =
    let ls = c.args.before.now in
    let parts : c.args.members.now ≡ c.in-Some.first.now ∷ c.in-Some.rest.now = search rules in
    subst (λ n. Counts n c.plus.result)
    (sym (ap (λ ms. length (flat_map (λ d. object_cells ls d.ctype) ms)) parts
    ∙ length-append (object_cells ls c.in-Some.first.now.ctype) (flat_map (λ d. object_cells ls d.ctype) c.in-Some.rest.now)))
    (c.plus.ensures _ _ c.cells.ensures c.members_size.ensures)

pub struct_size-returns-then-number-layouts : goal.struct_size-returns-then-number-layouts
struct_size-returns-then-number-layouts t c =
    let ls = c.args.layouts.now in
    let n = c.args.number in
    let l = c.index-layouts-number.result in
    subst (λ n. Counts n c.members_size.result)
    (sym (struct_size ls n l c.if-number-layouts.true
    ∙ ap (λ ms. length (flat_map (λ d. object_cells (take n ls) d.ctype) ms)) (sym c.as_slice.ensures)))
    c.members_size.ensures
