-- An opening bracket, precision and scale, a closing one.
use Rattle.line.proofs.Appends.{appended_twice}
use Rattle.cells.proofs.lent.append_precision_in_brackets.Goals as goal

pub returns : goal.returns
returns c = appended_twice c.append-next.ensures (appended_twice c.append_precision-next.ensures c.append.ensures)
