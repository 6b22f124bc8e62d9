-- Widest row: the sum of what the columns can take.
use Rattle.std.specs.Prelude.{List, [], ◌∷◌, ℕ, ◌+◌, ltb}
use Rattle.search.specs.Search.{pick}
use Rattle.outcome.specs.Refusal.{is_refused}
use Rattle.types.specs.declared.ColumnMetadata.{ColumnMetadata}
use Rattle.widths.specs.Width.{is_large, column_width}
use Rattle.columns.specs.Cut.{most_columns}

-- the sum over the columns (01, Answers: widest row)
unfoldable pub row_width : List ColumnMetadata → ℕ
row_width [] = 0
row_width (c ∷ l) = column_width c + row_width l

-- 8 with the number of the first large column, else 0 (01, Numbers of refusal: widest row)
unfoldable pub large_refusal : List ColumnMetadata → List ℕ
large_refusal [] = 0 ∷ []
large_refusal (c ∷ l) = pick (is_large c.db2_type) (8 ∷ c.number ∷ []) (large_refusal l)

-- 5 over 4,095 records, then 8 (01, Numbers of refusal: widest row)
unfoldable pub row_refusal : List ColumnMetadata → List ℕ
row_refusal l = pick (ltb most_columns (lib.ListN.length l)) (5 ∷ []) (large_refusal l)

-- what the entry answers (01, Answers: widest row); 0 where it is refused (DECISIONS, Forms 12)
unfoldable pub row_answer : List ColumnMetadata → ℕ
row_answer l = pick (is_refused (row_refusal l)) 0 (row_width l)
