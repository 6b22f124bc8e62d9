-- Read: what the step is, and where it ends.
use Rattle.std.proofs.Common.{arith}
use Rattle.descriptor.proofs.Steps.{step_read}
use Rattle.descriptor.proofs.descriptor_step.Goals as goal

pub returns : goal.returns
returns c =
    let o = c.in_ok-options.ensures in
    let read = step_read _ _ _ (omega (arith, c.if-end-offset-lt16.false)) _ c.u16_at.ensures _ c.is_known_sql_type.ensures
    c.if-not-is_known_sql_type.false _ o.0 o.1 in
    record { at = read.0; room = read.1; inside = (read.2, read.3) }
