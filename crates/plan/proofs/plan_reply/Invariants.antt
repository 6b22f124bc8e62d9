-- What the attempts so far left open: the first that had columns is kept for want of a name.
use Rattle.std.proofs.Common.{◌≡◌, drop}
use Rattle.codepage.specs.Page.{page037}
use Rattle.plan.specs.Plan.{attempts, plan_of}
use Rattle.plan.proofs.Choices.{undecided}
use Rattle.plan.proofs.plan_reply.Given as goal

abbrev pub invariant-loop-attempt : goal.invariant-loop-attempt
invariant-loop-attempt l = plan_of page037 l.reply ≡ undecided page037 l.reply l.unnamed (drop l.attempt-index attempts)
