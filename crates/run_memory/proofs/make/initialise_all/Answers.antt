use Rattle.std.proofs.Common.{◌∙◌, sym, ap, refl, inl, inr, length, arith}
use Rattle.std.proofs.lemmas.Bool.{cases_lt}
use Rattle.step_meaning.specs.Memory.{at_block, filled}
use Rattle.run_memory.specs.Start.{start_blocks}
use Rattle.run_memory.proofs.StoreLaws.{blocks_length}
use Rattle.run_memory.proofs.StartLaws.{all_none, all_more, all_done, initial_at}
use Rattle.run_memory.proofs.make.initialise_all.Goals as goal

pub loop-index-init : goal.loop-index-init
loop-index-init c = record { start = c.requires.start; filled_so = sym (all_none (start_blocks c.args.pool.now c.args.globals.now) c.args.lists.now); size = refl }

pub initialise-requires-clause-initial : goal.initialise-requires-clause-initial
initialise-requires-clause-initial c = rw c.as_slice.ensures (initial_at c.args.lists.now c.loop-index.index c.index-lists-index.result c.requires.initial (omega arith) c.index-lists-index.is)

pub loop-index-preserved : goal.loop-index-preserved
loop-index-preserved c =
    record {
      start = c.initialise.ensures.start;
      filled_so = all_more (start_blocks c.args.pool.now c.args.globals.now) (start_blocks c.loop-index.pool c.args.globals.now) (start_blocks c.initialise.new.pool c.args.globals.now) c.args.lists.now c.loop-index.index c.index-lists-index.result (omega arith) c.index-lists-index.is c.loop-index.invariant.filled_so
          (c.initialise.ensures.filled ∙ ap (λ vs. at_block (λ b. filled b vs) c.loop-index.index (start_blocks c.loop-index.pool c.args.globals.now)) c.as_slice.ensures);
      size = c.initialise.ensures.size ∙ c.loop-index.invariant.size;
    }

pub returns-clause-filled : goal.returns-clause-filled
returns-clause-filled c =
    let l = blocks_length (Rattle.run_memory.specs.Cells.seen c.args.pool.now) c.args.globals.now in
    c.loop-index.invariant.filled_so
    ∙ all_done (start_blocks c.args.pool.now c.args.globals.now) c.args.lists.now c.loop-index.index
    (elim (cases_lt (length c.args.globals.now) (length c.args.lists.now)) [ inl p ↦ inl (omega arith) | inr p ↦ inr (omega arith) ])
