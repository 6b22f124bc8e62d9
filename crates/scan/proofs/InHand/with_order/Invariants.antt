-- The loop keeps the best run of the starts that it has seen: the best of all is that of those to come and the one in hand.
use Rattle.std.proofs.Common.{◌≡◌}
use Rattle.search.specs.Walks.{best}
use Rattle.codepage.specs.Page.{page037}
use Rattle.scan.specs.Inside.{in_hand}
use Rattle.scan.specs.Scan.{better, run_from, scan_order}
use Rattle.scan.proofs.InHand.with_order.Given as goal

abbrev pub invariant-loop-start : goal.invariant-loop-start
invariant-loop-start l =
    scan_order page037 l.order l.reply (in_hand l.fn.self.best) ≡ best better (run_from page037 l.order l.reply) l.start l.end (in_hand l.best.best)
