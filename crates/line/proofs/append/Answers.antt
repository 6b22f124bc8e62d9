-- As many bytes as find room are copied behind those that are written.
use Rattle.line.proofs.Appends.{appended_copied}
use Rattle.line.proofs.append.Goals as goal

pub returns : goal.returns
returns c =
    let a = c.args in
    appended_copied a.line.now a.used a.bytes.now c.min-start.result c.min-count.result c.min-start.ensures c.min-count.ensures
    c.copy_from_slice.new.self c.copy_from_slice.ensures.after
