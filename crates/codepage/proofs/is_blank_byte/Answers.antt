-- The eight bytes are those whose characters trimming drops: by the test that was computed over the table.
use Rattle.std.proofs.Common.{sym, rules}
use Rattle.codepage.specs.Page.{page037}
use Rattle.codepage.proofs.Pages.{blanks_037, blank_byte}
use Rattle.codepage.proofs.is_blank_byte.Goals as goal

pub returns : goal.returns
returns c = sym (blank_byte page037 blanks_037 c.args.byte (search rules))
