use Rattle.std.proofs.Common.{◌≡◌, length, take}
use Rattle.step_meaning.specs.Memory.{at_block, filled}
use Rattle.run_memory.specs.Start.{IsStart, start_blocks}
use Rattle.run_memory.proofs.make.initialise.Given as goal

abbrev pub invariant-loop-offset : goal.invariant-loop-offset
invariant-loop-offset l =
    record {
      start : IsStart l.pool l.globals;
      filled_so : start_blocks l.pool l.globals ≡ at_block (λ b. filled b (take l.offset l.values)) l.index (start_blocks l.initial.pool l.globals);
      size : length l.pool.blocks ≡ length l.initial.pool.blocks;
    }
