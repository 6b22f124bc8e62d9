-- The first FF with a descriptor behind it is that from `from` on.
use Rattle.std.proofs.Common.{◌≡◌, ◌+◌, ◌≤◌, ◌-◌, length}
use Rattle.search.specs.Walks.{first}
use Rattle.compact_table.specs.Table.{next_here}
use Rattle.compact_table.proofs.next_compact_descriptor_offset.Given as goal

abbrev pub invariant-loop-ff : goal.invariant-loop-ff
invariant-loop-ff l =
    record {
      in_range : l.from ≤ length l.reply;
      same : first (next_here l.reply) (l.offset + 16) (length l.reply) ≡ first (next_here l.reply) l.from (length l.reply);
    }

abbrev pub decreases-loop-ff : goal.decreases-loop-ff
decreases-loop-ff l = length l.reply - l.from
