use Rattle.std.proofs.Common.{Some, sym, ap, ◌∙◌}
use Rattle.std.specs.Prelude.{option_map}
use Rattle.typing_constants.specs.Parts.{part}
use Rattle.typing_constants.proofs.PlaceForms.{no_address, not_addressed, addressed}
use Rattle.typing_constants.proofs.address.address_of.Goals as goal

pub pointer_at-requires : goal.pointer_at-requires
pointer_at-requires c =
    let ls = c.args.layouts.now in
    let gs = c.args.globals.now in
    (addressed ls gs c.args.place.now c.args.to.now (part c.in-Some.part) (sym c.part_of.ensures ∙ ap (option_map part) c.in-Some.is) (sym (c.is_addressed.ensures ls gs) ∙ c.if-is_addressed.true) c.requires).0

pub returns-in-None : goal.returns-in-None
returns-in-None c = no_address c.args.layouts.now c.args.globals.now c.args.place.now c.args.to.now (sym c.part_of.ensures ∙ ap (option_map part) c.in-None.is)

pub returns-then-is_addressed : goal.returns-then-is_addressed
returns-then-is_addressed c =
    let ls = c.args.layouts.now in
    let gs = c.args.globals.now in
    ap Some (c.pointer_at.ensures ls gs)
    ∙ (addressed ls gs c.args.place.now c.args.to.now (part c.in-Some.part) (sym c.part_of.ensures ∙ ap (option_map part) c.in-Some.is) (sym (c.is_addressed.ensures ls gs) ∙ c.if-is_addressed.true) c.requires).1

pub returns-else-is_addressed : goal.returns-else-is_addressed
returns-else-is_addressed c =
    let ls = c.args.layouts.now in
    let gs = c.args.globals.now in
    not_addressed ls gs c.args.place.now c.args.to.now (part c.in-Some.part) (sym c.part_of.ensures ∙ ap (option_map part) c.in-Some.is) (sym (c.is_addressed.ensures ls gs) ∙ c.if-is_addressed.false)
