use Rattle.run_memory.proofs.locate.locate.Goals as goal

pub returns-in-Global : goal.returns-in-Global
returns-in-Global c = rw c.in-Global.is c.locate_global.ensures

pub returns-in-Local : goal.returns-in-Local
returns-in-Local c = rw c.in-Local.is c.locate_local.ensures

pub returns-in-Heap : goal.returns-in-Heap
returns-in-Heap c = rw c.in-Heap.is c.locate_heap.ensures
