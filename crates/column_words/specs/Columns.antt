-- The columns that words of 64 bits stand for, 22 a column (01, Answers: a record).
use Rattle.std.specs.Prelude.{Bool, true, ◌&&◌, List, [], ◌∷◌, ℕ, zero, suc, ◌+◌, ◌/◌, ◌%◌, eqb, ltb, length, get_or}
use Rattle.types.specs.declared.ColumnMetadata.{ColumnMetadata}
use Rattle.sqlda.specs.Codes.{type_with, is_type}
use Rattle.column.specs.Numbers.{order_of, text_from}

-- the record whose words start at `at`, whatever they are (01, Answers: a record)
unfoldable pub column_in : List ℕ → ℕ → ColumnMetadata
column_in w at = record {
  number = get_or w at 0;
  db2_type = type_with (get_or w (at + 1) 0) (get_or w (at + 2) 0);
  drda_type = get_or w (at + 3) 0;
  length = get_or w (at + 4) 0;
  nullable = eqb (get_or w (at + 5) 0) 1;
  precision = get_or w (at + 6) 0;
  scale = get_or w (at + 7) 0;
  ccsid = get_or w (at + 8) 0;
  byte_order = order_of (get_or w (at + 9) 0);
  name = text_from w (at + 10) (at + 11) (at + 12);
  label = text_from w (at + 13) (at + 14) (at + 15);
  base_table_name = text_from w (at + 16) (at + 17) (at + 18);
  schema_name = text_from w (at + 19) (at + 20) (at + 21);
}

-- the words of numbers, from `at` on, fit their fields: their widths, a type that there is, nullable and byte order below 2 (01, Answers: a record)
unfoldable pub numbers_fit : List ℕ → ℕ → Bool
numbers_fit w at =
    ltb (get_or w at 0) 65536
    && (is_type (get_or w (at + 1) 0) (get_or w (at + 2) 0)
    && (ltb (get_or w (at + 3) 0) 256
    && (ltb (get_or w (at + 4) 0) 65536
    && (ltb (get_or w (at + 5) 0) 2
    && (ltb (get_or w (at + 6) 0) 256
    && (ltb (get_or w (at + 7) 0) 256 && (ltb (get_or w (at + 8) 0) 65536 && ltb (get_or w (at + 9) 0) 2)))))))

-- the alphabets of the four texts have 8 bits; places and lengths may be any (01, Answers: a text is place, length, alphabet)
unfoldable pub alphabets_fit : List ℕ → ℕ → Bool
alphabets_fit w at =
    ltb (get_or w (at + 12) 0) 256 && (ltb (get_or w (at + 15) 0) 256 && (ltb (get_or w (at + 18) 0) 256 && ltb (get_or w (at + 21) 0) 256))

-- the 22 words from `at` on are those of a record (01, Answers: a record)
unfoldable pub is_column : List ℕ → ℕ → Bool
is_column w at = numbers_fit w at && alphabets_fit w at

-- k records from `at` on, 22 words each (01, Answers: columns at the list's front)
unfoldable pub columns_from : List ℕ → ℕ → ℕ → List ColumnMetadata
columns_from w zero at = []
columns_from w (suc k) at = column_in w at ∷ columns_from w k (at + 22)

-- the words of k records fit (01, Answers: a record)
unfoldable pub are_from : List ℕ → ℕ → ℕ → Bool
are_from w zero at = true
are_from w (suc k) at = is_column w at && are_from w k (at + 22)

-- the records that words stand for, as many as there are 22 words for (01, Answers: columns at the list's front)
unfoldable pub columns_in : List ℕ → List ColumnMetadata
columns_in w = columns_from w (length w / 22) 0

-- words are those of records and nothing else (01, Answers: a record)
unfoldable pub are_columns : List ℕ → Bool
are_columns w = eqb (length w % 22) 0 && are_from w (length w / 22) 0
