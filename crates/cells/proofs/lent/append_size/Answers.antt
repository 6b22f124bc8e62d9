-- An opening bracket, the digits, a closing one.
use Rattle.line.proofs.Appends.{appended_twice}
use Rattle.cells.proofs.lent.append_size.Goals as goal

pub returns : goal.returns
returns c = appended_twice c.append-next.ensures (appended_twice c.append_decimal-next.ensures c.append.ensures)
