use Rattle.std.proofs.Common.{◌≡◌, ◌≤◌, length, get_or, None, Some, sym, ap, subst, ◌∙◌, rules}
use Rattle.std.specs.Prelude.{slice_get}
use Rattle.std.proofs.lemmas.Option.{slice_get-get_or, slice_get_past}
use Rattle.typing_rules.specs.Checked.{Gives, kept}
use Rattle.typing_rules.specs.Subobjects.{member_among}
use Rattle.typing_objects.specs.Parts.{member_result}
use Rattle.typing_objects.proofs.Members.{of_struct_at, of_no_struct}
use Rattle.typing_objects.proofs.member.struct_member.Goals as goal

pub member_among-requires : goal.member_among-requires
member_among-requires c = λ m e.
    let ls = c.args.layouts.now in
    let l = get_or ls c.args.number c.index-layouts-number.result in
    let got : slice_get ls c.args.number ≡ Some l = slice_get-get_or ls c.args.number c.index-layouts-number.result c.if-number-layouts.true in
    c.requires c.args.number c.args.name.now m ((of_struct_at ls c.args.number l c.args.name.now got ∙ ap (member_among ls c.args.name.now) (sym c.as_slice.ensures)) ∙ e)

pub returns-then-number-layouts : goal.returns-then-number-layouts
returns-then-number-layouts c =
    let ls = c.args.layouts.now in
    let l = get_or ls c.args.number c.index-layouts-number.result in
    let got : slice_get ls c.args.number ≡ Some l = slice_get-get_or ls c.args.number c.index-layouts-number.result c.if-number-layouts.true in
    subst (λ o. Gives (member_result c.args.first c.args.at_name c.args.place o) c.member_among.result) (sym (of_struct_at ls c.args.number l c.args.name.now got ∙ ap (member_among ls c.args.name.now) (sym c.as_slice.ensures))) c.member_among.ensures

pub returns-else-number-layouts : goal.returns-else-number-layouts
unfolding kept
returns-else-number-layouts c = λ other.
    let past : length c.args.layouts.now ≤ c.args.number = search rules in
    let none : slice_get c.args.layouts.now c.args.number ≡ None = slice_get_past c.args.layouts.now c.args.number past in
    ap (member_result c.args.first c.args.at_name c.args.place) (of_no_struct c.args.layouts.now c.args.number c.args.name.now none)
