-- The text and the gap behind it are a cell.
use Rattle.line.proofs.Appends.{appended_cell}
use Rattle.cells.proofs.lent.append_type_cell.Goals as goal

pub returns : goal.returns
returns c = appended_cell c.append_type-next.ensures _ c.append_padded.ensures
