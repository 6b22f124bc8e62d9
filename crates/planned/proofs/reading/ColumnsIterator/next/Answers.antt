-- A column is still to come before the count is reached.
use Rattle.std.proofs.Common.{arith}
use Rattle.planned.proofs.Steps.{next_below}
use Rattle.planned.proofs.reading.ColumnsIterator.next.Goals as goal

pub column_numbers-self-requires-clause-index_lt_limit : goal.column_numbers-self-requires-clause-index_lt_limit
column_numbers-self-requires-clause-index_lt_limit c = next_below c.args.self.now c.if-index-plan.false

pub overflow_add-self : goal.overflow_add-self
overflow_add-self c = omega (arith, next_below c.args.self.now c.if-index-plan.false)
