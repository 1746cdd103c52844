use Rattle.std.proofs.Common.{map, drop, Ok, ap, sym, ◌∙◌}
use Rattle.std.specs.Prelude.{flat_map}
use Rattle.step_meaning.specs.Types.{object_cells, times}
use Rattle.typing_declarators.proofs.LayerLaws.{adds_by}
use Rattle.typing_initialisers.specs.Parts.{parts}
use Rattle.typing_initialisers.proofs.CellLaws.{elements_left, members_left}
use Rattle.typing_initialisers.proofs.cells.push_rest.Goals as goal

pub returns-in-Elements : goal.returns-in-Elements
returns-in-Elements g c =
    let oc = object_cells c.args.layouts.now in
    let fill = g.K.Filling.filled c.args.kind.now in
    adds_by _ _ c.args.cells.now.items c.push_elements.new.cells.items c.push_elements.result
    (ap (λ ts. Ok (map fill ts)) (ap (λ p. flat_map oc (drop c.args.next (parts p))) c.in-Elements.is ∙ elements_left oc c.in-Elements.count c.args.next c.in-Elements.of.now ∙ ap (λ k. times k (oc c.in-Elements.of.now)) (sym c.saturating_sub.ensures)))
    c.push_elements.ensures

pub returns-in-Members : goal.returns-in-Members
returns-in-Members g c =
    let oc = object_cells c.args.layouts.now in
    let fill = g.K.Filling.filled c.args.kind.now in
    adds_by _ _ c.args.cells.now.items c.push_members.new.cells.items c.push_members.result
    (ap (λ ts. Ok (map fill ts)) (ap (λ p. flat_map oc (drop c.args.next (parts p))) c.in-Members.is ∙ members_left oc c.args.next c.in-Members.members.now ∙ ap (flat_map (λ d. oc d.ctype)) (sym c.members_from.ensures)))
    c.push_members.ensures
