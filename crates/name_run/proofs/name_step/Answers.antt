-- A layout with a name.
use Rattle.std.proofs.Common.{refl}
use Rattle.codepage.specs.Page.{page037}
use Rattle.name_run.proofs.Runs.{step_some}
use Rattle.name_run.proofs.name_step.Goals as goal

pub returns : goal.returns
returns c left =
    let step = step_some page037 _ _ _ c.in-Some.ensures.scanned in
    (step.0, step.1, λ i. refl)
