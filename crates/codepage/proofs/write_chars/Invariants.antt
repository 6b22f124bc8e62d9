-- The first i bytes' characters are written, by the page's table.
use Rattle.search.proofs.Over.{Mapped}
use Rattle.codepage.specs.Page.{page037, char_in}
use Rattle.codepage.proofs.write_chars.Given as goal

abbrev pub invariant-loop-i : goal.invariant-loop-i
invariant-loop-i l = Mapped (char_in page037) l.bytes l.fn.buffer l.buffer l.i
