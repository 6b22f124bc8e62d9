-- Columns in words of 64 bits: 22 a column, in the order of a record's fields (01, Answers: a record).
use mathlib.Core.List.{List, [], ◌∷◌, flat_map}
use Rattle.std.specs.Prelude.{ℕ}
use Rattle.search.specs.Search.{pick}
use Rattle.types.specs.declared.ColumnMetadata.{ColumnMetadata}
use Rattle.sqlda.specs.Types.{code_of}
use Rattle.sqlda.specs.Codes.{value_of}
use Rattle.column.specs.Numbers.{order_number, text_numbers}

-- a column's words: its fields in their order, the type as its code and what it says besides, four texts (01, Answers: a record)
unfoldable pub words_of : ColumnMetadata → List ℕ
words_of c =
    c.number ∷ code_of c.db2_type ∷ value_of c.db2_type ∷ c.drda_type ∷ c.length ∷ pick c.nullable 1 0 ∷
    c.precision ∷ c.scale ∷ c.ccsid ∷ order_number c.byte_order ∷
    text_numbers c.name (text_numbers c.label (text_numbers c.base_table_name (text_numbers c.schema_name [])))

-- those of a list of columns, one column after the other (01, Answers: columns at the list's front)
abbrev pub all_words : List ColumnMetadata → List ℕ
all_words l = flat_map words_of l
