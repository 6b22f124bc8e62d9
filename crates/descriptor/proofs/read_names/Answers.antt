-- A name m alone.
use Rattle.descriptor.proofs.NameStrings.{names_alone}
use Rattle.descriptor.proofs.read_names.Goals as goal

pub returns-then-is_alone : goal.returns-then-is_alone
returns-then-is_alone c =
    let alone = c.is_alone.ensures c.if-is_alone.true in
    names_alone _ _ _ c.in_ok-m.ensures.at.0 alone.0 alone.1
