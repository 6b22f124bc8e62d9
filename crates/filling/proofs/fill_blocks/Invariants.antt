-- Each turn stores the next item's block behind those that came before.
use Rattle.std.proofs.Common.{List, length, ◌+◌, ◌*◌, ◌≤◌}
use Rattle.std.specs.Iterator.{IsFinite, size}
use mathlib.Core.List.{flat_map}
use Rattle.filling.specs.Blocks.{Accepts, Puts}
use Rattle.filling.proofs.Filling.{Filling}
use Rattle.filling.proofs.fill_blocks.Given as goal

abbrev pub invariant-loop-item : goal.invariant-loop-item
invariant-loop-item g l =
    let left = g.I.Iterator.remaining l.item-iterator in
    record {
      can : g.I.Iterator.can_next l.item-iterator;
      ends : IsFinite left;
      accepts : Accepts l.width (goal.F-pre g l.put);
      fits : l.at + size left * l.width ≤ length l.list;
      filling : (blocks : g.row.T.Denot → List g.row.A.Denot) → Puts l.width (goal.F-post g l.put) blocks
          → Filling g.I.Iterator.next_gives (flat_map blocks) l.fn.items l.item-iterator l.fn.list l.list l.at;
    }
