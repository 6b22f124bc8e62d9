-- All of the decision's columns come from its iterator.
use Rattle.filling.proofs.Filling.{filled_left}
use Rattle.planned.specs.Columns.{columns_left}
use Rattle.sqldard.proofs.fill_columns.Goals as goal

pub returns-clause-fills : goal.returns-clause-fills
returns-clause-fills c = filled_left columns_left (λ all. all) _ _ _ _ c.fill.ensures c.columns.ensures
