-- The text and the gap behind it are a cell.
use Rattle.line.proofs.Appends.{appended_cell}
use Rattle.cells.proofs.lent.append_number_cell.Goals as goal

pub returns : goal.returns
returns c = rw c.from.ensures at (appended_cell c.append_decimal-next.ensures c.args.width c.append_padded.ensures)
