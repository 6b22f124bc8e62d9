-- The key of a row is its base type: what the search by halves ends at is the row, or the place that it would have.
use Rattle.std.proofs.Common.{rules}
use Rattle.std.proofs.lemmas.List.Sorted.{answers_always}
use Rattle.types.specs.Rows.{type_rows}
use Rattle.types.specs.declared.TypeRow.{TypeRow}
use Rattle.types.proofs.Rows.{row_found, row_missing}
use Rattle.types.proofs.known_type.Goals as goal

pub returns-in-Ok : goal.returns-in-Ok
unfolding type_rows
returns-in-Ok c =
    row_found c.args.base c.in-Ok.at _ c.in-Ok.ensures.bound
    (c.in-Ok.ensures.position (λ (r : TypeRow). r.base) (answers_always _ _ _ (λ f a r g called. search rules)))

pub returns-in-Err : goal.returns-in-Err
unfolding type_rows
returns-in-Err c =
    row_missing c.args.base _ c.in-Err.ensures.bound
    (c.in-Err.ensures.position (λ (r : TypeRow). r.base) (answers_always _ _ _ (λ f a r g called. search rules)))
