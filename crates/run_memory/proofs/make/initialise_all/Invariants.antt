use Rattle.std.proofs.Common.{◌≡◌, length, take}
use Rattle.run_memory.specs.Start.{IsStart, start_blocks, all_filled}
use Rattle.run_memory.proofs.make.initialise_all.Given as goal

abbrev pub invariant-loop-index : goal.invariant-loop-index
invariant-loop-index l =
    record {
      start : IsStart l.pool l.globals;
      filled_so : start_blocks l.pool l.globals ≡ all_filled (start_blocks l.initial.pool l.globals) (take l.index l.lists);
      size : length l.pool.blocks ≡ length l.initial.pool.blocks;
    }
