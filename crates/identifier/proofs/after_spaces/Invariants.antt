-- What trimming leaves of the bytes that are left is what it leaves of all.
use Rattle.std.proofs.Common.{◌≡◌, length}
use Rattle.codepage.specs.Page.{page037}
use Rattle.codepage.specs.Blank.{is_blank}
use Rattle.text.specs.Chars.{chars}
use Rattle.text.specs.Text.{trimmed_of}
use Rattle.identifier.proofs.after_spaces.Given as goal

abbrev pub invariant-loop-rest : goal.invariant-loop-rest
invariant-loop-rest l = trimmed_of is_blank (chars page037 1 l.left) ≡ trimmed_of is_blank (chars page037 1 l.bytes)

abbrev pub decreases-loop-rest : goal.decreases-loop-rest
decreases-loop-rest l = length l.left
