-- The letters, and what the type says besides.
use Rattle.line.proofs.Appends.{appended_twice}
use Rattle.cells.proofs.lent.append_type.Goals as goal

pub returns : goal.returns
returns c = appended_twice c.append-next.ensures c.append_values.ensures
