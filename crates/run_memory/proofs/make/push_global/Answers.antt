use Rattle.std.proofs.Common.{◌≡◌, ◌+◌, ◌∙◌, ap, arith, length}
use Rattle.step_meaning.specs.declared.value.Name.{Name}
use Rattle.step_meaning.specs.Memory.{unset_cells}
use Rattle.step_meaning.specs.Limits.{chunks_for}
use Rattle.step_meaning.specs.Types.{object_cells}
use Rattle.run_memory.specs.Numbering.{name_number}
use Rattle.run_memory.proofs.TypeCells.{unset_length}
use Rattle.run_memory.proofs.GlobalSteps.{few_globals, global_numbered, global_blocks, global_chunks, global_store}
use Rattle.run_memory.proofs.make.push_global.Goals as goal

pub number-name-requires : goal.number-name-requires
number-name-requires c =
    let f = few_globals c.args.pool.now c.args.globals.now.0 c.requires.start in
    rw (c.global_name.ensures, c.len.ensures) (global_numbered (length c.args.globals.now.0) (omega arith))

pub push-requires : goal.push-requires
push-requires c =
    let f = few_globals c.args.pool.now c.args.globals.now.0 c.requires.start in
    omega arith

pub returns-clause-start : goal.returns-clause-start
returns-clause-start c =
    let f = few_globals c.args.pool.now c.args.globals.now.0 c.requires.start in
    let is : c.number-name.result ≡ name_number Rattle.step_meaning.specs.declared.value.NameKind.TheVariants.Global 0 (length c.args.globals.now.0) = c.number-name.ensures ∙ ap (λ (n : Name). name_number n.kind n.activation n.index) c.global_name.ensures ∙ ap (name_number Rattle.step_meaning.specs.declared.value.NameKind.TheVariants.Global 0) c.len.ensures in
    rw c.push.ensures (global_store c.args.pool.now c.start_block-slot.new.pool c.args.globals.now.0 c.requires.start c.start_block-slot.result c.number-name.result (unset_cells (object_cells c.args.layouts.now c.args.ctype.now)) c.start_block-slot.ensures.clear c.start_block-slot.ensures.slot is c.start_block-slot.ensures.taken (omega arith))

pub returns-clause-pushed : goal.returns-clause-pushed
returns-clause-pushed c =
    let is : c.number-name.result ≡ name_number Rattle.step_meaning.specs.declared.value.NameKind.TheVariants.Global 0 (length c.args.globals.now.0) = c.number-name.ensures ∙ ap (λ (n : Name). name_number n.kind n.activation n.index) c.global_name.ensures ∙ ap (name_number Rattle.step_meaning.specs.declared.value.NameKind.TheVariants.Global 0) c.len.ensures in
    rw c.push.ensures (global_blocks c.args.pool.now c.start_block-slot.new.pool c.args.globals.now.0 c.requires.start c.start_block-slot.result c.number-name.result (unset_cells (object_cells c.args.layouts.now c.args.ctype.now)) c.start_block-slot.ensures.clear c.start_block-slot.ensures.slot is c.start_block-slot.ensures.taken)

pub returns-clause-chunks : goal.returns-clause-chunks
returns-clause-chunks c =
    let is : c.number-name.result ≡ name_number Rattle.step_meaning.specs.declared.value.NameKind.TheVariants.Global 0 (length c.args.globals.now.0) = c.number-name.ensures ∙ ap (λ (n : Name). name_number n.kind n.activation n.index) c.global_name.ensures ∙ ap (name_number Rattle.step_meaning.specs.declared.value.NameKind.TheVariants.Global 0) c.len.ensures in
    global_chunks c.args.pool.now c.start_block-slot.new.pool c.args.globals.now.0 c.requires.start c.start_block-slot.result c.number-name.result (unset_cells (object_cells c.args.layouts.now c.args.ctype.now)) c.start_block-slot.ensures.clear c.start_block-slot.ensures.slot is c.start_block-slot.ensures.taken
    ∙ ap (λ k. Rattle.cell_pool.specs.Region.live_chunks c.args.pool.now + chunks_for k) (unset_length (object_cells c.args.layouts.now c.args.ctype.now))
