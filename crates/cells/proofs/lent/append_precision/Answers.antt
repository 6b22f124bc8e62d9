-- Precision, a comma and scale.
use Rattle.line.proofs.Appends.{appended_twice}
use Rattle.cells.proofs.lent.append_precision.Goals as goal

pub returns : goal.returns
returns c =
    rw (c.from.ensures, c.from-2.ensures) at (appended_twice c.append_decimal-next.ensures (appended_twice c.append-next.ensures c.append_decimal.ensures))
