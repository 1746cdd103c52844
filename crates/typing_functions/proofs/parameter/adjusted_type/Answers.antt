use Rattle.std.proofs.Common.{◌≡◌, true, false, ◌&&◌, map, sym, ap, ◌∙◌}
use Rattle.step_meaning.proofs.Ranges.{left_of_and, right_of_and}
use Rattle.typing_rules.specs.Declarations.{layered}
use Rattle.typing_rules.specs.Functions.{is_void_pointer}
use Rattle.typing_declarators.specs.Layers.{layer}
use Rattle.typing_scopes.specs.Known.{known as seen}
use Rattle.typing_files.proofs.Outcomes.{gives_by}
use Rattle.typing_functions.specs.Parameters.{decayed, adjusted_type}
use Rattle.typing_functions.proofs.ParameterTypes.{decayed_counted, decayed_elements, void_counted, object_adjusted, void_adjusted}
use Rattle.typing_functions.proofs.parameter.adjusted_type.Goals as goal

pub returns-then-is_allocation : goal.returns-then-is_allocation
returns-then-is_allocation c = λ ls is has.
    let g = seen c.args.known.now in
    let n = c.args.name in
    let a = c.args.allocation in
    let base = c.args.base.now in
    let both : (a && is_void_pointer (layered ls base)) ≡ true = ap (λ b. a && b) (sym (void_counted ls base)) ∙ ap (λ xs. a && is_void_pointer (layered xs base)) (is ∙ ap (map layer) (sym c.as_slice.ensures.value)) ∙ sym c.is_allocation.ensures ∙ c.if-is_allocation.true in
    gives_by _ _ c.void_pointer.result (void_adjusted g n base ls (right_of_and a _ both) ∙ ap (λ a. adjusted_type g a n ls base) (sym (left_of_and a (is_void_pointer (layered ls base)) both))) c.void_pointer.ensures

pub returns : goal.returns
returns c = λ ls is has.
    let g = seen c.args.known.now in
    let n = c.args.name in
    let a = c.args.allocation in
    let base = c.args.base.now in
    let other : (a && is_void_pointer (layered ls base)) ≡ false = ap (λ b. a && b) (sym (void_counted ls base)) ∙ ap (λ xs. a && is_void_pointer (layered xs base)) (is ∙ ap (map layer) (sym c.as_slice.ensures.value)) ∙ sym c.is_allocation.ensures ∙ c.if-is_allocation.false in
    gives_by _ _ c.object_type.result (object_adjusted g n base ls a c.requires.name c.requires.base other) (c.object_type.ensures (decayed ls) (decayed_counted ls ∙ ap decayed is ∙ sym c.decay.ensures ∙ ap (map layer) (sym c.as_slice-2.ensures.value)) (decayed_elements ls has))
