-- The two blanks, and those that are missing to the width.
use Rattle.std.proofs.Common.{arith, refl}
use Rattle.line.proofs.Appends.{appended_blanks}
use Rattle.line.proofs.append_padded.Goals as goal

pub returns : goal.returns
returns c =
    let m = c.saturating_sub-missing in
    appended_blanks 2 m.result _ (omega (arith, m.ensures, c.saturating_sub.ensures)) refl refl c.append_blanks-next.ensures
    c.append_blanks.ensures
