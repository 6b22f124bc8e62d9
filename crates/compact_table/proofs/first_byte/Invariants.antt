-- The first byte that passes is that from `place` on.
use Rattle.std.proofs.Common.{◌≡◌, ℕ, Bool}
use Rattle.search.specs.Walks.{first}
use Rattle.compact_table.specs.Bytes.{Computes, at_byte}
use Rattle.compact_table.proofs.first_byte.Given as goal

abbrev pub invariant-loop-place : goal.invariant-loop-place
invariant-loop-place g l =
    (test : ℕ → Bool) → Computes (goal.F-post g l.passes) test → first (at_byte test l.reply) l.fn.offset l.end ≡ first (at_byte test l.reply) l.place l.end
