-- The loop's invariant: past all strings is past those that are left, from the position in hand, which lies in the reply.
use Rattle.std.proofs.Common.{◌≡◌, ◌-◌, ◌≤◌, length}
use Rattle.strings.specs.Strings.{strings_end}
use Rattle.strings.proofs.skip_strings.Given as goal

abbrev pub invariant-loop : goal.invariant-loop
invariant-loop l = (strings_end l.count l.reply l.offset ≡ strings_end (l.count - l.counter) l.reply l.next) × (l.next ≤ length l.reply)
