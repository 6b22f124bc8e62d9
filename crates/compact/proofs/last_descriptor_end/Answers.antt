-- FF FF FF, or from an FF on to the one after it, or none.
use Rattle.std.proofs.Common.{rules, refl, sym, arith}
use Rattle.compact.specs.Compact.{ffs_here}
use Rattle.compact_table.proofs.Skips.{found_some, found_none, by_ff_found, by_ff_none}
use Rattle.compact.proofs.Laws.{last_found, last_none, no_ffs}
use Rattle.compact.proofs.last_descriptor_end.Goals as goal

pub returns-then-ffs_here : goal.returns-then-ffs_here
returns-then-ffs_here c =
    let ff = found_some _ _ _ c.in-Some.ensures in
    let at = by_ff_found _ (ffs_here _) (no_ffs _) _ _ _ _ c.loop-ff.invariant.in_range ff.0 c.loop-ff.invariant.same ff.1 (sym c.if-ffs_here.ensures) in
    (last_found _ _ _ at ff.1, omega arith)

pub returns : goal.returns
returns c =
    let none = found_none _ _ c.in_default.ensures in
    let at = by_ff_none _ (ffs_here _) (no_ffs _) _ _ _ _ c.loop-ff.invariant.in_range refl c.loop-ff.invariant.same none in
    (last_none _ _ _ at none, search rules)
