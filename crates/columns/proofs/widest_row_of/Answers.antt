-- Each turn adds one column's width, or stops at a large column.
use Rattle.std.proofs.Common.{sym, ap, refl, ◌∙◌, arith, ◌∷◌, []}
use borrow.Author.Tests.{lt-ltb, le-ltb}
use Rattle.types.specs.declared.ColumnMetadata.{ColumnMetadata}
use Rattle.widths.specs.Width.{is_large, column_width}
use Rattle.columns.specs.Blank.{no_column}
use Rattle.columns.proofs.Summing.{summing_more, row_large, row_done_refusal, row_done_answer, row_refused, row_none}
use Rattle.columns.proofs.widest_row_of.Goals as goal

pub returns-then-is_large_column-clause-refuses : goal.returns-then-is_large_column-clause-refuses
returns-then-is_large_column-clause-refuses g c =
    let list = g.L.ColumnList.columns c.args.columns in
    let l = c.loop-i in
    ap (λ (d : ColumnMetadata). 8 ∷ d.number ∷ []) c.column-column.ensures
    ∙ row_large list (le-ltb _ _ (omega arith)) l.width l.i l.invariant no_column (omega arith)
    (sym c.if-is_large_column.true ∙ c.is_large_column.ensures ∙ ap (λ (d : ColumnMetadata). is_large d.db2_type) c.column-column.ensures)

pub returns-then-is_large_column-clause-refused : goal.returns-then-is_large_column-clause-refused
returns-then-is_large_column-clause-refused g c =
    let list = g.L.ColumnList.columns c.args.columns in
    row_none list _ (returns-then-is_large_column-clause-refuses g c) refl

pub returns-then-count-gt-MOST_COLUMNS-clause-refused : goal.returns-then-count-gt-MOST_COLUMNS-clause-refused
returns-then-count-gt-MOST_COLUMNS-clause-refused g c =
    let list = g.L.ColumnList.columns c.args.columns in
    row_none list _ (row_refused list (lt-ltb _ _ (omega arith))) refl

pub loop-i-preserved : goal.loop-i-preserved
loop-i-preserved g c =
    let list = g.L.ColumnList.columns c.args.columns in
    let l = c.loop-i in
    let k = c.column_width-width in
    summing_more list l.width l.i l.invariant no_column (omega arith)
    (sym c.if-is_large_column.false ∙ c.is_large_column.ensures ∙ ap (λ (d : ColumnMetadata). is_large d.db2_type) c.column-column.ensures)
    k.result (k.ensures.value ∙ ap column_width c.column-column.ensures) k.ensures.upper_bound

pub returns-clause-refuses : goal.returns-clause-refuses
returns-clause-refuses g c =
    row_done_refusal (g.L.ColumnList.columns c.args.columns) (le-ltb _ _ (omega arith)) c.loop-i.width c.loop-i.i c.loop-i.invariant (omega arith)

pub returns-clause-gives : goal.returns-clause-gives
returns-clause-gives g c =
    row_done_answer (g.L.ColumnList.columns c.args.columns) (le-ltb _ _ (omega arith)) c.loop-i.width c.loop-i.i c.loop-i.invariant (omega arith)
