-- The step of a compact layout has the 16 bytes that its reader asks for.
use Rattle.codepage.specs.Page.{page037}
use Rattle.planned.proofs.Laws.{compact_room}
use Rattle.planned.proofs.described_by.Goals as goal

pub compact_end-end-requires : goal.compact_end-end-requires
compact_end-end-requires c = (compact_room page037 _ c.args.plan _ _ c.requires _ c.in-Compact.is).1
