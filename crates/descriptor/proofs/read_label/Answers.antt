-- A label m alone.
use Rattle.descriptor.proofs.NameStrings.{label_alone}
use Rattle.descriptor.proofs.read_label.Goals as goal

pub returns-then-is_alone : goal.returns-then-is_alone
returns-then-is_alone c =
    let alone = c.is_alone.ensures c.if-is_alone.true in
    label_alone _ _ _ c.in_ok-m.ensures.at.0 alone.0 alone.1
