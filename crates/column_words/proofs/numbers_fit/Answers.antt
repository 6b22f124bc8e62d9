use Rattle.std.proofs.Math.Bool.{and_assoc}
use Rattle.column_words.specs.Columns.{numbers_fit}
use Rattle.column_words.proofs.numbers_fit.Goals as goal

pub returns : goal.returns
unfolding numbers_fit
returns c = rw c.is_type.ensures (simp and_assoc)
