-- The record that stands for what is past the end of a list of columns.
use Rattle.types.specs.declared.ColumnMetadata.{ColumnMetadata}
use Rattle.column.specs.Column.{blank_column}

-- a list is never read past its end: any record will do (01, Answers: a record holds ..)
abbrev pub no_column : ColumnMetadata
no_column = blank_column
