-- The first byte that passes is that from i on.
use Rattle.std.proofs.Common.{◌≡◌, ℕ, Bool, ◌≤◌, ◌-◌}
use Rattle.search.specs.Walks.{first}
use Rattle.compact_table.specs.Bytes.{Computes, at_byte}
use Rattle.compact_table.proofs.skip_eights.Given as goal

abbrev pub invariant-loop-i : goal.invariant-loop-i
invariant-loop-i g l =
    record {
      in_range : l.i ≤ l.end;
      same : (test : ℕ → Bool) → Computes (goal.F-post g l.passes) test → first (at_byte test l.reply) l.offset l.end ≡ first (at_byte test l.reply) l.i l.end;
    }

abbrev pub decreases-loop-i : goal.decreases-loop-i
decreases-loop-i g l = l.end - l.i
