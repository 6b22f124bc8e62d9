-- Each case takes a byte at least.
use Rattle.std.proofs.Common.{length}
use Rattle.edges.proofs.put_cases.Given as goal

abbrev pub decreases-loop-shows : goal.decreases-loop-shows
decreases-loop-shows g l = length l.cases
