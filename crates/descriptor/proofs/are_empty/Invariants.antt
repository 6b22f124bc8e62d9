-- If the strings from i on are empty, all are.
use Rattle.std.proofs.Common.{◌+◌, ◌-◌, ◌*◌}
use Rattle.descriptor.specs.Groups.{AllEmpty}
use Rattle.descriptor.proofs.are_empty.Given as goal

abbrev pub invariant-loop-i : goal.invariant-loop-i
invariant-loop-i l = AllEmpty (l.count - l.i) l.reply (l.offset + 2 * l.i) → AllEmpty l.count l.reply l.offset
