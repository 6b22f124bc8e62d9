-- What an iterator of a plan's columns still gives (01, Expected form: a thin filler over a core that writes numbers).
use Rattle.std.specs.Prelude.{List, ◌-◌}
use Rattle.search.specs.Walks.{chain}
use Rattle.codepage.specs.Page.{page037}
use Rattle.types.specs.declared.ColumnMetadata.{ColumnMetadata}
use Rattle.planned.specs.declared.reading.Columns.{Columns}
use Rattle.planned.specs.Planned.{walk_of}

-- the columns from the next one on (01, Answers: columns go to a list)
unfoldable pub columns_left : Columns → List ColumnMetadata
columns_left c = chain (walk_of page037 c.reply.now c.plan) (c.plan.limit - c.index) c.index c.offset
