-- The names of the longest run, where neither list of candidates counts.
use Rattle.codepage.specs.Page.{page037}
use Rattle.names.proofs.Choosing.{names_run, plan_run}
use Rattle.names.proofs.plan_names.Goals as goal

pub returns : goal.returns
returns c =
    let n = c.count_names-counts.ensures in
    plan_run _ _ _ c.longest_name_run-run.ensures c.of.ensures
    (names_run page037 _ _ _ n.returning n.before_first c.if-before-returning.false c.if-returning-ge2.false)
