use Rattle.std.proofs.Math.Bool.{and_assoc}
use Rattle.column_words.specs.Columns.{alphabets_fit}
use Rattle.column_words.proofs.alphabets_fit.Goals as goal

pub returns : goal.returns
unfolding alphabets_fit
returns c = simp and_assoc
