-- The column that a caller means who gives a number and a name alone (01, Answers: name part, name text).
use Rattle.std.specs.Prelude.{ℕ}
use Rattle.text.specs.Text.{text_is}
use Rattle.types.specs.declared.ColumnMetadata.{ColumnMetadata}
use Rattle.column.specs.Column.{blank_column}

-- with this number and this name, else as a lent record is before it is filled (01, Answers: a text is place, length, alphabet)
unfoldable pub named_column : ℕ → ℕ → ℕ → ℕ → ColumnMetadata
named_column number place length alphabet = record {
  number = number;
  db2_type = blank_column.db2_type;
  drda_type = blank_column.drda_type;
  length = blank_column.length;
  nullable = blank_column.nullable;
  precision = blank_column.precision;
  scale = blank_column.scale;
  ccsid = blank_column.ccsid;
  byte_order = blank_column.byte_order;
  name = text_is place length alphabet;
  label = blank_column.label;
  base_table_name = blank_column.base_table_name;
  schema_name = blank_column.schema_name;
}
