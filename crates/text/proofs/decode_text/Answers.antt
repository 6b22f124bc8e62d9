-- What trimming leaves lies within the string's bytes.
use Rattle.std.proofs.Common.{sym, arith}
use Rattle.codepage.specs.Page.{page037}
use Rattle.codepage.proofs.Pages.{rearranged_037, blanks_037}
use Rattle.text.proofs.Bytes.{leading_same, kept_same}
use Rattle.text.proofs.Decode.{decode_bounds}
use Rattle.text.proofs.decode_text.Goals as goal

pub overflow_add-result : goal.overflow_add-result
overflow_add-result c =
    let b =
    decode_bounds page037 rearranged_037 blanks_037 _ _ _ c.requires _ _ (sym c.if-is_ascii.ensures)
    (leading_same page037 _ _ c.leading_blanks-first.ensures) (kept_same page037 _ _ c.kept_bytes-end.ensures) in
    omega (arith, c.requires)

pub overflow_sub-result : goal.overflow_sub-result
overflow_sub-result c =
    let b =
    decode_bounds page037 rearranged_037 blanks_037 _ _ _ c.requires _ _ (sym c.if-is_ascii.ensures)
    (leading_same page037 _ _ c.leading_blanks-first.ensures) (kept_same page037 _ _ c.kept_bytes-end.ensures) in
    omega arith
