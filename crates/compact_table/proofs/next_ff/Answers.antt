-- The test of a byte is that of an FF.
use Rattle.std.proofs.Common.{rules}
use Rattle.std.specs.Prelude.{eqb}
use Rattle.compact_table.specs.Table.{ff_at}
use Rattle.compact_table.proofs.next_ff.Goals as goal

pub returns : goal.returns
unfolding ff_at
returns c = c.first_byte.ensures (λ byte. eqb byte 0xFF) (λ byte answer small post. search rules)
