-- One column of a list in words (01, Answers: a record).
use Rattle.std.specs.Prelude.{List, ℕ, ◌*◌, ◌/◌, ltb, length, Option, Some, None}
use Rattle.search.specs.Search.{pick}
use Rattle.types.specs.declared.ColumnMetadata.{ColumnMetadata}
use Rattle.column.specs.Column.{blank_column}
use Rattle.column_words.specs.Columns.{is_column, column_in}

-- the record at place i, 22 words each, if there are words for it and they are those of a record (01, Answers: a record)
unfoldable pub column_get : List ℕ → ℕ → Option ColumnMetadata
column_get w i = pick (ltb i (length w / 22)) (pick (is_column w (i * 22)) (Some (column_in w (i * 22))) None) None

-- the record at place i, 22 words each; a blank one where there are no words for it, or not those of a record (01, Answers: a record)
unfoldable pub column_at_place : List ℕ → ℕ → ColumnMetadata
column_at_place w i = pick (ltb i (length w / 22)) (pick (is_column w (i * 22)) (column_in w (i * 22)) blank_column) blank_column
