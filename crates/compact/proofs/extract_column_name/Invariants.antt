-- The first name is that from `place` on, and if `stop` is past it, the name characters behind it stop there.
use Rattle.std.proofs.Common.{◌≡◌}
use Rattle.search.specs.Walks.{first}
use Rattle.compact.specs.Compact.{name_here, name_at, Stops}
use Rattle.compact.proofs.extract_column_name.Given as goal

abbrev pub invariant-loop-place : goal.invariant-loop-place
invariant-loop-place l =
    record {
      same : name_at l.reply l.fn.offset l.end ≡ first (name_here l.reply l.end) l.place l.end;
      stops : Stops l.reply l.end l.place l.stop;
    }
