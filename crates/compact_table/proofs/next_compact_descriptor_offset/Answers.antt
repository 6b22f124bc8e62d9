-- The next, and an FF with none behind it.
use Rattle.std.proofs.Common.{arith, sym}
use Rattle.compact_table.specs.Table.{next_here}
use Rattle.compact_table.proofs.Laws.{next_at, next_is}
use Rattle.compact_table.proofs.Skips.{found, found_some, by_ff_found, ff_is, no_next}
use Rattle.compact_table.proofs.next_compact_descriptor_offset.Goals as goal

pub returns-then-looks_like_compact_descriptor_start : goal.returns-then-looks_like_compact_descriptor_start
returns-then-looks_like_compact_descriptor_start c =
    let ff = found_some _ _ _ c.in-Some.ensures in
    let here = (ff_is _ _ _ _ c.loop-ff.invariant.in_range ff.0).1 ff.1 in
    let next = sym (next_at _ _ _ here c.if-looks_like_compact_descriptor_start.ensures) in
    found _ _ _ (next_is _ _ _ (by_ff_found _ (next_here _) (no_next _) _ _ _ _ c.loop-ff.invariant.in_range ff.0 c.loop-ff.invariant.same ff.1 next)) (omega arith)

pub loop-ff-smaller : goal.loop-ff-smaller
loop-ff-smaller c =
    let ff = found_some _ _ _ c.in-Some.ensures in
    let later = (ff_is _ _ _ _ c.loop-ff.invariant.in_range ff.0).0 in
    omega arith
