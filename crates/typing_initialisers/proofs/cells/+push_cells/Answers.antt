-- Braces follow the shape of the type, element by element.
use Rattle.std.proofs.Common.{◌≡◌, suc, ◌+◌, ◌≤◌, [], ◌∷◌, map, drop, length, Some, None, Ok, sym, ap, ◌∙◌, add-one, arith}
use Rattle.std.specs.Prelude.{flat_map, slice_get}
use Rattle.std.specs.Option.{option_map}
use Rattle.std.proofs.lemmas.Result.{err_from_is_err_and}
use Rattle.step_meaning.specs.Types.{object_cells}
use Rattle.typing_rules.specs.Syntax.{Value}
use Rattle.typing_rules.specs.Initialisers as rules
use Rattle.typing_rules.specs.TreesOfExpressions.{assign}
use Rattle.typing_rules.specs.TreesOfDeclarations.{elements_after, init}
use Rattle.typing_rules.proofs.DeclarationAlternatives.{init-Value, init-Braces}
use Rattle.typing_scopes.specs.Known.{known as seen}
use Rattle.typing_declarators.specs.Adding.{extended}
use Rattle.typing_declarators.proofs.LayerLaws.{adds_by}
use Rattle.typing_initialisers.specs.Parts.{parts}
use Rattle.typing_initialisers.specs.Initialisers.{superfluous, refused, elements_of, is_all_zero, parts_of}
use Rattle.typing_initialisers.proofs.CellLaws.{braces_of_scalar, zero_braces, part_braces, no_element, too_many, element_added, element_broken, refused_adds, superfluous_never, refused_never, drop_at, drop_past, links_at, links_past, adds_through, broken_through}
use Rattle.typing_initialisers.proofs.cells.+push_cells.Goals as goal

pub returns-in-Value : goal.returns-in-Value
returns-in-Value g t c =
    let C = rules.cells (seen c.args.known.now) g.row.T.Denot (g.K.Filling.given c.args.kind.now) (g.K.Filling.filled c.args.kind.now) c.args.t.now in
    adds_by _ _ c.args.cells.now.items c.push_value.new.cells.items c.push_value.result
    (ap (λ x. C (init x)) c.in-Value.is ∙ ap C (init-Value c.in-Value.x) ∙ ap (λ x. C (Value (assign x))) (sym c.get.ensures))
    c.push_value.ensures

pub returns-then-is_scalar : goal.returns-then-is_scalar
returns-then-is_scalar g t c =
    let n = seen c.args.known.now in
    let give = g.K.Filling.given c.args.kind.now in
    let fill = g.K.Filling.filled c.args.kind.now in
    let C = rules.cells n g.row.T.Denot give fill c.args.t.now in
    let x = c.in-Braces.elements in
    let tree = ap init c.in-Braces.is ∙ init-Braces c.in-Braces.opening x c.in-Braces.field-2 c.in-Braces.field-3 in
    let scalar = sym c.is_scalar.ensures ∙ c.if-is_scalar.true in
    refused_adds (refused n c.in-Braces.opening (init c.args.init.now)) (C (init c.args.init.now)) c.args.cells.now.items c.args.cells.now.items c.refused_braces.result
    (refused_never n c.in-Braces.opening (init c.args.init.now))
    (λ e h. ap C tree ∙ braces_of_scalar n g.row.T.Denot give fill c.args.t.now c.in-Braces.opening (elements_of x) e scalar (ap (refused n c.in-Braces.opening) (sym tree) ∙ h))
    c.refused_braces.ensures

pub returns-then-is_all_zero : goal.returns-then-is_all_zero
returns-then-is_all_zero g t c =
    let n = seen c.args.known.now in
    let give = g.K.Filling.given c.args.kind.now in
    let fill = g.K.Filling.filled c.args.kind.now in
    let C = rules.cells n g.row.T.Denot give fill c.args.t.now in
    let x = c.in-Braces.elements in
    let tree = ap init c.in-Braces.is ∙ init-Braces c.in-Braces.opening x c.in-Braces.field-2 c.in-Braces.field-3 in
    let scalar = sym c.is_scalar.ensures ∙ c.if-is_scalar.false in
    let nothing = ap (λ x. is_all_zero n (elements_of x)) (sym c.get-chain.ensures) ∙ sym c.is_all_zero.ensures ∙ c.if-is_all_zero.true in
    adds_by _ _ c.args.cells.now.items c.push_zeros.new.cells.items c.push_zeros.result
    (ap C tree ∙ zero_braces n g.row.T.Denot give fill c.args.t.now c.in-Braces.opening (elements_of x) scalar nothing ∙ ap (λ ls. Ok (map fill (object_cells ls c.args.t.now))) (sym c.as_slice-layouts.ensures))
    c.push_zeros.ensures

-- ---- the first element

pub returns-in_default : goal.returns-in_default
returns-in_default g t c =
    let n = seen c.args.known.now in
    let give = g.K.Filling.given c.args.kind.now in
    let fill = g.K.Filling.filled c.args.kind.now in
    let C = rules.cells n g.row.T.Denot give fill c.args.t.now in
    let E = rules.elements n g.row.T.Denot give fill in
    let x = c.in-Braces.elements in
    let tree = ap init c.in-Braces.is ∙ init-Braces c.in-Braces.opening x c.in-Braces.field-2 c.in-Braces.field-3 in
    let scalar = sym c.is_scalar.ensures ∙ c.if-is_scalar.false in
    let something = ap (λ x. is_all_zero n (elements_of x)) (sym c.get-chain.ensures) ∙ sym c.is_all_zero.ensures ∙ c.if-is_all_zero.false in
    let ts = parts_of c.args.known.now.layouts c.args.t.now in
    let same = c.parts_of-parts.ensures ∙ ap (λ ls. parts_of ls c.args.t.now) c.as_slice-layouts.ensures in
    let none : slice_get ts 0 ≡ None = ap (λ ts. slice_get ts 0) (sym same) ∙ sym c.at.ensures ∙ ap (option_map (λ t. t.now)) c.in_default.is in
    let first = ap (λ x. superfluous n (init x.first)) (sym c.get-chain.ensures) in
    refused_adds (superfluous n (init c.get-chain.result.now.first)) (C (init c.args.init.now)) c.args.cells.now.items c.args.cells.now.items c.superfluous.result
    (superfluous_never n (init c.get-chain.result.now.first))
    (λ e h. ap C tree ∙ part_braces n g.row.T.Denot give fill c.args.t.now c.in-Braces.opening (elements_of x) scalar something
    ∙ ap (λ ts. E ts (elements_of x)) (drop_past ts 0 none) ∙ too_many n g.row.T.Denot give fill (init x.first) (elements_after init x.rest) e (first ∙ h))
    c.superfluous.ensures

pub returns-in_err-push_cells-in-Braces : goal.returns-in_err-push_cells-in-Braces
returns-in_err-push_cells-in-Braces g t c =
    let n = seen c.args.known.now in
    let give = g.K.Filling.given c.args.kind.now in
    let fill = g.K.Filling.filled c.args.kind.now in
    let C = rules.cells n g.row.T.Denot give fill in
    let E = rules.elements n g.row.T.Denot give fill in
    let x = c.in-Braces.elements in
    let tree = ap init c.in-Braces.is ∙ init-Braces c.in-Braces.opening x c.in-Braces.field-2 c.in-Braces.field-3 in
    let scalar = sym c.is_scalar.ensures ∙ c.if-is_scalar.false in
    let something = ap (λ x. is_all_zero n (elements_of x)) (sym c.get-chain.ensures) ∙ sym c.is_all_zero.ensures ∙ c.if-is_all_zero.false in
    let ts = parts_of c.args.known.now.layouts c.args.t.now in
    let u = c.in-Some.first.now in
    let same = c.parts_of-parts.ensures ∙ ap (λ ls. parts_of ls c.args.t.now) c.as_slice-layouts.ensures in
    let there : slice_get ts 0 ≡ Some u = ap (λ ts. slice_get ts 0) (sym same) ∙ sym c.at.ensures ∙ ap (option_map (λ t. t.now)) c.in-Some.is in
    let first = ap (λ x. C u (init x.first)) (sym c.get-chain.ensures) in
    let r = err_from_is_err_and c.from_residual.result c.from_residual.ensures.1 in
    rw (r.1, r.2) (λ q. ap (C c.args.t.now) tree ∙ part_braces n g.row.T.Denot give fill c.args.t.now c.in-Braces.opening (elements_of x) scalar something
    ∙ ap (λ ts. E ts (elements_of x)) (drop_at ts 0 u there) ∙ element_broken n g.row.T.Denot give fill u (drop 1 ts) (init x.first) (elements_after init x.rest) c.in_err-push_cells-in-Braces.field-0.0 (first ∙ c.in_err-push_cells-in-Braces.ensures q))

pub loop-index-init : goal.loop-index-init
loop-index-init g t c =
    let n = seen c.args.known.now in
    let give = g.K.Filling.given c.args.kind.now in
    let fill = g.K.Filling.filled c.args.kind.now in
    let C = rules.cells n g.row.T.Denot give fill in
    let E = rules.elements n g.row.T.Denot give fill in
    let old = c.args.cells.now.items in
    let mid = c.push_cells.new.cells.items in
    let x = c.in-Braces.elements in
    let tree = ap init c.in-Braces.is ∙ init-Braces c.in-Braces.opening x c.in-Braces.field-2 c.in-Braces.field-3 in
    let scalar = sym c.is_scalar.ensures ∙ c.if-is_scalar.false in
    let something = ap (λ x. is_all_zero n (elements_of x)) (sym c.get-chain.ensures) ∙ sym c.is_all_zero.ensures ∙ c.if-is_all_zero.false in
    let ts = parts_of c.args.known.now.layouts c.args.t.now in
    let u = c.in-Some.first.now in
    let same = c.parts_of-parts.ensures ∙ ap (λ ls. parts_of ls c.args.t.now) c.as_slice-layouts.ensures in
    let there : slice_get ts 0 ≡ Some u = ap (λ ts. slice_get ts 0) (sym same) ∙ sym c.at.ensures ∙ ap (option_map (λ t. t.now)) c.in-Some.is in
    let first = ap (λ x. extended old (C u (init x.first))) (sym c.get-chain.ensures) in
    let rest = c.as_slice-link-items.ensures ∙ ap (λ x. x.rest) c.get-chain.ensures in
    ap (extended old) (ap (C c.args.t.now) tree ∙ part_braces n g.row.T.Denot give fill c.args.t.now c.in-Braces.opening (elements_of x) scalar something ∙ ap (λ ts. E ts (elements_of x)) (drop_at ts 0 u there))
    ∙ element_added n g.row.T.Denot give fill old mid u (drop 1 ts) (init x.first) (elements_after init x.rest) (first ∙ c.in_ok-push_cells-in-Braces.ensures)
    ∙ ap (λ ls. extended mid (E (drop 1 ts) (elements_after init ls))) (sym rest)

-- ---- the elements after it

pub returns-in_default-at : goal.returns-in_default-at
returns-in_default-at g t c =
    let n = seen c.args.known.now in
    let give = g.K.Filling.given c.args.kind.now in
    let fill = g.K.Filling.filled c.args.kind.now in
    let C = rules.cells n g.row.T.Denot give fill c.args.t.now in
    let E = rules.elements n g.row.T.Denot give fill in
    let old = c.args.cells.now.items in
    let cur = c.loop-index.cells.items in
    let ls = c.as_slice-link-items.result.now in
    let i = c.loop-index.index in
    let l = c.link-item.result in
    let ts = parts_of c.args.known.now.layouts c.args.t.now in
    let same = c.parts_of-parts.ensures ∙ ap (λ ls. parts_of ls c.args.t.now) c.as_slice-layouts.ensures in
    let none : slice_get ts (i + 1) ≡ None = ap (λ ts. slice_get ts (i + 1)) (sym same) ∙ sym c.at-in-loop-index.ensures ∙ ap (option_map (λ t. t.now)) c.in_default-at.is in
    let item = ap (λ l. superfluous n (init l.operand)) (sym c.link-item.is) in
    refused_adds (superfluous n (init l.operand)) (C (init c.args.init.now)) old cur c.superfluous-in_default-at.result
    (superfluous_never n (init l.operand))
    (λ e h. broken_through old cur (C (init c.args.init.now)) (E (drop (i + 1) ts) (elements_after init (drop i ls))) e c.loop-index.invariant
    (ap (λ ts. E ts (elements_after init (drop i ls))) (drop_past ts (i + 1) none) ∙ ap (E []) (links_at ls i l c.loop-index-test.true) ∙ too_many n g.row.T.Denot give fill _ (elements_after init (drop (i + 1) ls)) e (item ∙ h)))
    c.superfluous-in_default-at.ensures

pub returns-in_err-push_cells-in-Braces-2 : goal.returns-in_err-push_cells-in-Braces-2
returns-in_err-push_cells-in-Braces-2 g t c =
    let n = seen c.args.known.now in
    let give = g.K.Filling.given c.args.kind.now in
    let fill = g.K.Filling.filled c.args.kind.now in
    let C = rules.cells n g.row.T.Denot give fill in
    let E = rules.elements n g.row.T.Denot give fill in
    let old = c.args.cells.now.items in
    let cur = c.loop-index.cells.items in
    let ls = c.as_slice-link-items.result.now in
    let i = c.loop-index.index in
    let l = c.link-item.result in
    let ts = parts_of c.args.known.now.layouts c.args.t.now in
    let u = c.in-Some-at.next.now in
    let same = c.parts_of-parts.ensures ∙ ap (λ ls. parts_of ls c.args.t.now) c.as_slice-layouts.ensures in
    let there : slice_get ts (i + 1) ≡ Some u = ap (λ ts. slice_get ts (i + 1)) (sym same) ∙ sym c.at-in-loop-index.ensures ∙ ap (option_map (λ t. t.now)) c.in-Some-at.is in
    let item = ap (λ l. C u (init l.operand)) (sym c.link-item.is) in
    let e = c.in_err-push_cells-in-Braces-2.field-0.0 in
    let r = err_from_is_err_and c.from_residual-in_err-push_cells-in-Braces-2.result c.from_residual-in_err-push_cells-in-Braces-2.ensures.1 in
    rw (r.1, r.2) (λ q. broken_through old cur (C c.args.t.now (init c.args.init.now)) (E (drop (i + 1) ts) (elements_after init (drop i ls))) e c.loop-index.invariant
    (ap (λ ts. E ts (elements_after init (drop i ls))) (drop_at ts (i + 1) u there) ∙ ap (E (u ∷ drop (suc (i + 1)) ts)) (links_at ls i l c.loop-index-test.true)
    ∙ element_broken n g.row.T.Denot give fill u (drop (suc (i + 1)) ts) _ (elements_after init (drop (i + 1) ls)) e (item ∙ c.in_err-push_cells-in-Braces-2.ensures q)))

pub loop-index-preserved : goal.loop-index-preserved
loop-index-preserved g t c =
    let n = seen c.args.known.now in
    let give = g.K.Filling.given c.args.kind.now in
    let fill = g.K.Filling.filled c.args.kind.now in
    let C = rules.cells n g.row.T.Denot give fill in
    let E = rules.elements n g.row.T.Denot give fill in
    let cur = c.loop-index.cells.items in
    let new = c.push_cells-in-loop-index.new.cells.items in
    let ls = c.as_slice-link-items.result.now in
    let i = c.loop-index.index in
    let l = c.link-item.result in
    let ts = parts_of c.args.known.now.layouts c.args.t.now in
    let u = c.in-Some-at.next.now in
    let same = c.parts_of-parts.ensures ∙ ap (λ ls. parts_of ls c.args.t.now) c.as_slice-layouts.ensures in
    let there : slice_get ts (i + 1) ≡ Some u = ap (λ ts. slice_get ts (i + 1)) (sym same) ∙ sym c.at-in-loop-index.ensures ∙ ap (option_map (λ t. t.now)) c.in-Some-at.is in
    let item = ap (λ l. extended cur (C u (init l.operand))) (sym c.link-item.is) in
    c.loop-index.invariant
    ∙ ap (extended cur) (ap (λ ts. E ts (elements_after init (drop i ls))) (drop_at ts (i + 1) u there) ∙ ap (E (u ∷ drop (suc (i + 1)) ts)) (links_at ls i l c.loop-index-test.true))
    ∙ element_added n g.row.T.Denot give fill cur new u (drop (suc (i + 1)) ts) _ (elements_after init (drop (i + 1) ls)) (item ∙ c.in_ok-push_cells-in-Braces-2.ensures)
    ∙ ap (λ k. extended new (E (drop k ts) (elements_after init (drop (i + 1) ls)))) (sym (add-one (i + 1)))

pub returns-after-loop-index : goal.returns-after-loop-index
returns-after-loop-index g t c =
    let n = seen c.args.known.now in
    let give = g.K.Filling.given c.args.kind.now in
    let fill = g.K.Filling.filled c.args.kind.now in
    let C = rules.cells n g.row.T.Denot give fill c.args.t.now in
    let E = rules.elements n g.row.T.Denot give fill in
    let old = c.args.cells.now.items in
    let cur = c.loop-index.cells.items in
    let new = c.push_rest.new.cells.items in
    let ls = c.as_slice-link-items.result.now in
    let i = c.loop-index.index in
    let lays = c.args.known.now.layouts in
    let ts = parts_of lays c.args.t.now in
    let P = parts c.parts_of-parts.result in
    let same = c.parts_of-parts.ensures ∙ ap (λ ls. parts_of ls c.args.t.now) c.as_slice-layouts.ensures in
    let length_is : c.len.result ≡ length ls = c.len.ensures ∙ ap length (sym c.as_slice-link-items.ensures) in
    let past : length ls ≤ i = c.loop-index-test.false in
    let within : i ≤ length ls = c.loop-index.auto.index-end in
    let next : i + 1 ≡ c.len.result + 1 = omega arith in
    adds_through old cur new (C (init c.args.init.now)) (E (drop (i + 1) ts) (elements_after init (drop i ls))) c.push_rest.result c.loop-index.invariant
    (adds_by _ _ cur new c.push_rest.result
    (ap (E (drop (i + 1) ts)) (links_past ls i past) ∙ no_element n g.row.T.Denot give fill (drop (i + 1) ts)
    ∙ ap (λ k. Ok (map fill (flat_map (object_cells lays) (drop k ts)))) next
    ∙ ap (λ ts. Ok (map fill (flat_map (object_cells lays) (drop (c.len.result + 1) ts)))) (sym same)
    ∙ ap (λ l. Ok (map fill (flat_map (object_cells l) (drop (c.len.result + 1) P)))) (sym c.as_slice-layouts.ensures))
    c.push_rest.ensures)
