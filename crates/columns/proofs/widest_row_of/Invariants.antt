-- The widths of the first i columns, none of them large, are added up.
use Rattle.columns.proofs.Summing.{Summing}
use Rattle.columns.proofs.widest_row_of.Given as goal

abbrev pub invariant-loop-i : goal.invariant-loop-i
invariant-loop-i g l = Summing (g.L.ColumnList.columns l.columns) l.width l.i
