-- The first digit.
use Rattle.decimal.proofs.Counting.{counting_done}
use Rattle.decimal.proofs.digits_of.Goals as goal

pub returns : goal.returns
returns c =
    let l = c.loop-rest in
    counting_done _ l.characters l.rest l.start l.invariant c.digit-2.result c.digit-2.ensures c.loop-rest-test.false
