use Rattle.std.proofs.Common.{◌∙◌, ap, get_or}
use Rattle.step_meaning.specs.declared.value.Name.{Name}
use Rattle.step_meaning.specs.declared.value.NameKind.TheVariants as names
use Rattle.step_meaning.specs.declared.value.Cell.TheVariants.{Holds}
use Rattle.run_memory.specs.Numbering.{name_number}
use Rattle.run_memory.specs.Cells.{seen, cell_of}
use Rattle.run_memory.specs.Filling.{with_held}
use Rattle.run_memory.proofs.GlobalSteps.{initial_law}
use Rattle.run_memory.proofs.make.put_initial.Goals as goal

pub returns-clause-start : goal.returns-clause-start
returns-clause-start c =
    let p = c.args.pool.now in
    let s = get_or c.args.globals.now c.args.index 0 in
    let e = c.put_held.ensures ∙ ap (λ m. with_held (seen p) s m c.args.offset (cell_of c.held_of.result)) (c.number.ensures ∙ ap (λ (n : Name). name_number n.kind n.activation n.index) c.global_name.ensures) ∙ ap (with_held (seen p) s (name_number names.Global 0 c.args.index) c.args.offset) c.held_of.ensures in
    (initial_law p c.put_held.new.pool c.args.globals.now c.args.index c.args.offset (Holds c.args.value) c.requires.start c.requires.there e).1

pub returns-clause-put : goal.returns-clause-put
returns-clause-put c =
    let p = c.args.pool.now in
    let s = get_or c.args.globals.now c.args.index 0 in
    let e = c.put_held.ensures ∙ ap (λ m. with_held (seen p) s m c.args.offset (cell_of c.held_of.result)) (c.number.ensures ∙ ap (λ (n : Name). name_number n.kind n.activation n.index) c.global_name.ensures) ∙ ap (with_held (seen p) s (name_number names.Global 0 c.args.index) c.args.offset) c.held_of.ensures in
    (initial_law p c.put_held.new.pool c.args.globals.now c.args.index c.args.offset (Holds c.args.value) c.requires.start c.requires.there e).0

pub returns-clause-size : goal.returns-clause-size
returns-clause-size c =
    let p = c.args.pool.now in
    let s = get_or c.args.globals.now c.args.index 0 in
    let e = c.put_held.ensures ∙ ap (λ m. with_held (seen p) s m c.args.offset (cell_of c.held_of.result)) (c.number.ensures ∙ ap (λ (n : Name). name_number n.kind n.activation n.index) c.global_name.ensures) ∙ ap (with_held (seen p) s (name_number names.Global 0 c.args.index) c.args.offset) c.held_of.ensures in
    (initial_law p c.put_held.new.pool c.args.globals.now c.args.index c.args.offset (Holds c.args.value) c.requires.start c.requires.there e).2
