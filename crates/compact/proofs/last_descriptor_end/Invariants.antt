-- The first FF FF FF is that from `from` on.
use Rattle.std.proofs.Common.{◌≡◌, ◌≤◌, ◌-◌}
use Rattle.search.specs.Walks.{first}
use Rattle.compact.specs.Compact.{ffs_here}
use Rattle.compact.proofs.last_descriptor_end.Given as goal

abbrev pub invariant-loop-ff : goal.invariant-loop-ff
invariant-loop-ff l = record { in_range : l.from ≤ l.end; same : first (ffs_here l.reply) l.offset l.end ≡ first (ffs_here l.reply) l.from l.end }

abbrev pub decreases-loop-ff : goal.decreases-loop-ff
decreases-loop-ff l = l.end - l.from
