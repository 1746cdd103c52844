use Rattle.std.proofs.Common.{◌≡◌, length, Some, refl, sym, subst, ◌∙◌, rules}
use Rattle.std.specs.Prelude.{position, slice_get}
use Rattle.std.specs.Str.{bytes_eq}
use Rattle.std.proofs.lemmas.List.Quantifiers.{position-Some}
use Rattle.std.proofs.lemmas.Option.{slice_get_read}
use Rattle.typing_rules.specs.Checked.{Gives, kept}
use Rattle.typing_objects.specs.Parts.{member_result}
use Rattle.typing_objects.proofs.Members.{numbered, named_at, offset_is_small}
use Rattle.typing_objects.proofs.member.member_among.Goals as goal

pub offset_of-offset-requires-clause-small : goal.offset_of-offset-requires-clause-small
offset_of-offset-requires-clause-small c = offset_is_small c.args.layouts.now c.args.name.now c.args.members.now c.in-Some.index c.requires (sym c.member_named.ensures ∙ c.in-Some.is)

pub returns-in_ok-ctype-in-Some : goal.returns-in_ok-ctype-in-Some
unfolding kept
returns-in_ok-ctype-in-Some c =
    let ls = c.args.layouts.now in
    let name = c.args.name.now in
    let ds = c.args.members.now in
    let i = c.in-Some.index in
    let d = c.index-members-index.result in
    let at : position (λ d. bytes_eq name d.name) ds ≡ Some i = sym c.member_named.ensures ∙ c.in-Some.is in
    let below = (position-Some (λ d. bytes_eq name d.name) ds i d at).0 in
    let got : slice_get ds i ≡ Some d = slice_get_read ds (length ds) i d refl below (search rules) in
    let there : Gives (member_result c.args.first c.args.at_name c.args.place (Some (numbered ls name ds i d))) c.at_place.result = search rules in
    subst (λ o. Gives (member_result c.args.first c.args.at_name c.args.place o) c.at_place.result) (sym (named_at ls name ds i d at got)) there
