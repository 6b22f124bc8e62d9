-- Where the list is long enough, the plan is carried out.
use Rattle.plan.proofs.Deciding.{in_room}
use Rattle.plan.proofs.decide.Goals as goal

pub returns-clause-decides : goal.returns-clause-decides
returns-clause-decides c =
    let read = c.in_ok-plan.ensures in
    in_room _ _ c.if-reply-gt-MOST_BYTES.false read.plans read.counts c.if-room-needed.false c.card_by-card.ensures
