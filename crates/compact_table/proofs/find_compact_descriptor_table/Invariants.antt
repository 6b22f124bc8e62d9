-- The first count of a table is that from `offset` on, and where nothing more may come, there is no next from there on.
use Rattle.std.proofs.Common.{◌≡◌, ◌+◌, ◌-◌, length}
use Rattle.search.specs.Walks.{first}
use Rattle.compact_table.specs.Table.{table_here, table_at, Ended}
use Rattle.compact_table.proofs.find_compact_descriptor_table.Given as goal

abbrev pub invariant-loop-offset : goal.invariant-loop-offset
invariant-loop-offset l =
    record {
      same : table_at l.reply ≡ first (table_here l.reply) l.offset (length l.reply - 17);
      ended : Ended l.reply (l.offset + 2) l.more;
    }
