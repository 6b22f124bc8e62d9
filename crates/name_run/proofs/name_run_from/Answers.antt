-- The steps of the run are those of the walk.
use Rattle.std.proofs.Common.{true, rules, of_calls}
use Rattle.search.specs.Walks.{tested}
use Rattle.codepage.specs.Page.{page037}
use Rattle.name_run.specs.Run.{name_walk}
use Rattle.name_run.proofs.Runs.{run_is}
use Rattle.name_run.proofs.name_run_from.Goals as goal

pub returns : goal.returns
returns c =
    let walk = tested (λ _. true) (name_walk page037 c.args.reply.now) in
    run_is page037 _ _ _ (c.count_steps-run.ensures.counts walk (λ left offset made h. search (rules, of_calls))).0
