-- What functions of this crate promise each other of the best run so far (01, Choice).
use Rattle.std.specs.Prelude.{Option, Some, None}
use Rattle.scan.specs.declared.Best.{Best}
use Rattle.scan.specs.declared.Found.{Found}
use Rattle.scan.specs.Scan.{no_run}

-- the run in hand, no run where there is none (01, Choice: a score has to be above 0)
abbrev pub in_hand : Option Found → Best
in_hand None = no_run
in_hand (Some found) = found.best
