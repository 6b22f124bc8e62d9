-- The digits past `start` are written, those of `rest` are to come.
use Rattle.decimal.proofs.Counting.{Counting}
use Rattle.decimal.proofs.digits_of.Given as goal

abbrev pub invariant-loop-rest : goal.invariant-loop-rest
invariant-loop-rest l = Counting l.number l.characters l.rest l.start

abbrev pub decreases-loop-rest : goal.decreases-loop-rest
decreases-loop-rest l = l.start
