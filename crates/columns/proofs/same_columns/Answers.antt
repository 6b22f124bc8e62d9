-- Lists of equal length are compared place by place.
use Rattle.std.proofs.Common.{refl, sym, ◌∙◌, arith, rules, length}
use borrow.Author.Tests.{tests, ne_eqb}
use Rattle.std.proofs.lemmas.Iterator.{YieldsList-from_range}
use Rattle.std.proofs.lemmas.Iterator.Search.{all_from_yields_List}
use Rattle.std.proofs.Common.{slice_index_or}
use Rattle.search.proofs.Alike.{alike_unequal}
use Rattle.columns.specs.Blank.{no_column}
use Rattle.columns.specs.Cut.{same_column, same_cut}
use Rattle.columns.proofs.Places.{alike_places}
use Rattle.columns.proofs.same_columns.Goals as goal

pub returns-then-count : goal.returns-then-count
unfolding same_cut
returns-then-count g c =
    let a = g.L.ColumnList.columns c.args.a in
    let b = g.L.ColumnList.columns c.args.b in
    all_from_yields_List (λ i. same_column (slice_index_or a i no_column) (slice_index_or b i no_column)) _ _ c.all.result c.all.ensures.ran
    (YieldsList-from_range 0 c.count-then-count.result (length a) refl (omega (arith, c.count-then-count.ensures)))
    (λ x r q k. search (rules, tests))
    ∙ alike_places same_column a b no_column (sym c.count.ensures ∙ c.if-count.true ∙ c.count-2.ensures)

pub returns-else-count : goal.returns-else-count
unfolding same_cut
returns-else-count g c =
    let a = g.L.ColumnList.columns c.args.a in
    let b = g.L.ColumnList.columns c.args.b in
    ne_eqb _ _ c.if-count.false ∙ alike_unequal same_column a b (λ e. c.if-count.false (c.count.ensures ∙ e ∙ sym c.count-2.ensures))
