-- One attempt after the other: the first with a name wins, else the first with columns.
use Rattle.std.proofs.Common.{◌∙◌, refl}
use Rattle.codepage.specs.Page.{page037}
use Rattle.plan.proofs.Choices.{named_wins, unnamed_waits, none_waits, first_wins, plan_counted}
use Rattle.plan.proofs.plan_reply.Goals as goal
use Rattle.plan.proofs.plan_reply.Goals.{in-Some+else-has_names, in_default}

pub returns-then-has_names : goal.returns-then-has_names
returns-then-has_names c =
    let plans = named_wins page037 _ _ _ _ c.loop-attempt-test.true c.loop-attempt.invariant _ c.in-Some.ensures (c.if-has_names.ensures.0 refl) in
    record { plans = plans; counts = plan_counted page037 _ _ plans }

pub loop-attempt-preserved : goal.loop-attempt-preserved
loop-attempt-preserved c =
    elim c.match-plan.branch [
      | in-Some+else-has_names w ↦ unnamed_waits page037 _ _ _ _ c.loop-attempt-test.true c.loop-attempt.invariant _ w.in-Some.ensures (λ n. absurd (cc (w.if-has_names.ensures.1 n)))
          _ (w.unnamed-is ∙ w.or-unnamed.ensures)
      | in_default w ↦ none_waits page037 _ _ _ _ c.loop-attempt-test.true c.loop-attempt.invariant w.in_default.ensures _ w.unnamed-is
    ]

pub returns-in-Some-unnamed : goal.returns-in-Some-unnamed
returns-in-Some-unnamed c =
    let plans = first_wins page037 _ _ _ c.loop-attempt-test.false c.loop-attempt.auto.attempt-index-end c.loop-attempt.invariant _ c.in-Some-unnamed.is in
    record { plans = plans; counts = plan_counted page037 _ _ plans }
