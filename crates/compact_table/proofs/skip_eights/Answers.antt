-- Eight bytes that fail.
use Rattle.std.proofs.Common.{arith, sym}
use Rattle.compact_table.specs.Bytes.{at_byte}
use Rattle.compact_table.proofs.Skips.{skip_eight}
use Rattle.compact_table.proofs.skip_eights.Goals as goal

pub loop-i-preserved : goal.loop-i-preserved
loop-i-preserved g c =
    record {
      in_range = omega arith;
      same = λ test computes.
          skip_eight (at_byte test _) _ _ _ (omega arith) (sym (c.if-any_in_eight.ensures test computes))
          (c.loop-i.invariant.same test computes);
    }
