-- The longest of all is that of the starts to come and the one in hand.
use Rattle.std.proofs.Common.{◌≡◌, ◌-◌, length}
use Rattle.search.specs.Walks.{best}
use Rattle.codepage.specs.Page.{page037}
use Rattle.name_run.specs.Run.{name_run_from, longer, longest_name_run}
use Rattle.name_run.proofs.longest_name_run.Given as goal

abbrev pub invariant-loop-start : goal.invariant-loop-start
invariant-loop-start l =
    longest_name_run page037 l.reply ≡ best longer (name_run_from page037 l.reply) l.start (length l.reply - 20) l.best
