-- Its steps are those of the walk.
use Rattle.std.proofs.Common.{rules, of_calls}
use Rattle.codepage.specs.Page.{page037}
use Rattle.walks.specs.Steps.{named_walk}
use Rattle.walks.proofs.Runs.{run_is}
use Rattle.descriptor.specs.Run.{standard_walk, standard_run}
use Rattle.descriptor.proofs.standard_run.Goals as goal

pub returns : goal.returns
unfolding standard_run
returns c =
    let walk = standard_walk page037 c.args.order c.args.reply.now in (
      run_is page037 _ walk _ _ _
          (c.count_steps.ensures.counts (named_walk page037 c.args.reply.now walk) (λ left offset made h. search (rules, of_calls))),
      c.count_steps.ensures.few,
    )
