use Rattle.cell_pool.proofs.CellLaws.{cells_kept}
use Rattle.cell_pool.proofs.laws.cells_kept.Goals as goal

pub returns : goal.returns
returns g c = cells_kept g.row.C.Denot
