-- Its steps are those of the walk.
use Rattle.std.proofs.Common.{rules, of_calls}
use Rattle.codepage.specs.Page.{page037}
use Rattle.walks.specs.Steps.{named_walk}
use Rattle.walks.proofs.Runs.{run_is}
use Rattle.compact.specs.Compact.{compact_walk, compact_run}
use Rattle.compact.proofs.compact_run.Goals as goal

pub returns-clause-value : goal.returns-clause-value
unfolding compact_run
returns-clause-value c =
    let walk = compact_walk page037 c.args.ends c.args.reply.now in
    run_is page037 _ walk _ _ _
    (c.count_steps.ensures.counts (named_walk page037 c.args.reply.now walk) (λ left offset made h. search (rules, of_calls)))
