-- Four cells, one after another.
use Rattle.line.proofs.Appends.{appended_twice}
use Rattle.cells.specs.Cells.{cells_of}
use Rattle.cells.proofs.lent.append_cells.Goals as goal

pub returns : goal.returns
unfolding cells_of
returns c =
    appended_twice c.append_type_cell-next.ensures
    (appended_twice c.append_number_cell-next.ensures (appended_twice c.append_nullable_cell-next.ensures c.append_number_cell.ensures))
