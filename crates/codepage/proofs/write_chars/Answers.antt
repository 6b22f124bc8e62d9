-- One byte's character more.
use Rattle.search.proofs.Over.{mapped_more}
use Rattle.codepage.specs.Page.{char_in, page037}
use Rattle.codepage.proofs.write_chars.Goals as goal

pub loop-i-preserved : goal.loop-i-preserved
loop-i-preserved c =
    mapped_more (char_in page037) c.args.bytes.now c.args.buffer.now c.requires c.loop-i.buffer c.loop-i.i c.loop-i.invariant
    c.ebcdic037_to_unicode.result 0 c.loop-i-test.true c.ebcdic037_to_unicode.ensures
