-- Where the status is null or refused, the success that is put in its place is what its definition says.
use Rattle.std.proofs.Common.{rules}
use Rattle.codepage.specs.Page.{page037}
use Rattle.plan.proofs.Statuses.{null_status, group_status}
use Rattle.plan.proofs.card_by.Goals as goal

pub returns-in-None : goal.returns-in-None
returns-in-None c =
    let read = c.read_sqlcard_data in
    rw c.if-alone.true (null_status page037 _ read.result _ read.ensures.refuses read.ensures.gives (search rules) (search rules))

pub returns-else-alone : goal.returns-else-alone
returns-else-alone c =
    let read = c.consume_sqlca_group in
    rw c.if-alone.false (group_status page037 _ read.result _ read.ensures.refuses read.ensures.gives (search rules))
