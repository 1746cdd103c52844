use Rattle.std.proofs.Common.{◌≡◌, ◌+◌, length, map, take}
use Rattle.step_meaning.specs.Memory.{empty_block}
use Rattle.cell_pool.specs.Region.{live_chunks}
use Rattle.run_memory.specs.Start.{IsStart, start_blocks}
use Rattle.run_memory.specs.Storage.{variables_chunks}
use Rattle.run_memory.proofs.make.push_globals.Given as goal

abbrev pub invariant-loop-variable : goal.invariant-loop-variable
invariant-loop-variable l =
    record {
      start : IsStart l.pool l.globals.0;
      pushed : start_blocks l.pool l.globals.0 ≡ map (empty_block l.layouts) (take l.variable-index l.variables);
      chunks : live_chunks l.pool ≡ live_chunks l.initial.pool + variables_chunks l.layouts (take l.variable-index l.variables);
      size : length l.pool.blocks ≡ length l.initial.pool.blocks;
      space : l.globals.1 ≡ l.initial.globals.1;
    }
