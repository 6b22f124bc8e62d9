-- A column in 19 numbers, and the record that they stand for (01, Expected form: a thin filler over a core that writes numbers).
use Rattle.std.specs.Prelude.{List, [], ◌∷◌, ℕ, ◌<◌, eqb, get_or}
use Rattle.search.specs.Search.{pick}
use Rattle.codepage.specs.Page.{Page}
use Rattle.field.specs.declared.ByteOrder.{ByteOrder}
use Rattle.field.specs.declared.ByteOrder.TheVariants.{BigEndian, LittleEndian}
use Rattle.text.specs.declared.Text.{Text}
use Rattle.text.specs.Text.{text_is}
use Rattle.types.specs.declared.ColumnMetadata.{ColumnMetadata}
use Rattle.sqlda.specs.declared.SqldaType.{SqldaType}
use Rattle.sqlda.specs.Types.{sqlda_type}
use Rattle.column.specs.declared.Described.{Described}
use Rattle.column.specs.Column.{string_text, name_text}

-- the byte order as a number: 0 BE, 1 LE (01, Answers: byte order)
abbrev pub order_number : ByteOrder → ℕ
order_number BigEndian = 0
order_number LittleEndian = 1

-- and back (01, Answers: byte order)
abbrev pub order_of : ℕ → ByteOrder
order_of n = pick (eqb n 0) BigEndian LittleEndian

-- a text in three numbers in front of others (01, Answers: a text is place, length, alphabet)
abbrev pub text_numbers : Text → List ℕ → List ℕ
text_numbers t rest = t.place ∷ t.length ∷ t.alphabet ∷ rest

-- column i in numbers: those of its descriptor, and its four texts (01, Answers: a record; 01, Expected form)
unfoldable pub numbers_of : Page → List ℕ → ℕ → Described → List ℕ
numbers_of page s i d =
    i ∷ d.sql_type ∷ d.raw_length ∷ d.precision ∷ d.scale ∷ d.ccsid ∷ order_number d.byte_order ∷
    text_numbers (name_text page s d.name) (text_numbers (string_text page s d.label)
    (text_numbers (string_text page s d.base_table_name) (text_numbers (string_text page s d.schema_name) [])))

-- the text whose three numbers stand at a, b and c (01, Answers: a text is place, length, alphabet)
abbrev pub text_from : List ℕ → ℕ → ℕ → ℕ → Text
text_from n a b c = text_is (get_or n a 0) (get_or n b 0) (get_or n c 0)

-- the type that the numbers say (01, Types and lengths)
abbrev pub type_from : List ℕ → SqldaType
type_from n = sqlda_type (get_or n 1 0) (get_or n 2 0) (get_or n 3 0) (get_or n 4 0) (get_or n 5 0)

-- the numbers fit the fields of a record: 16 bits for number, SQLTYPE and CCSID, 8 for precision, scale and alphabets (01, Answers: a record)
pub record Fits (n : List ℕ) : Type 0 where
  pub number : get_or n 0 0 < 65536
  pub sqltype : get_or n 1 0 < 65536
  pub precision : get_or n 3 0 < 256
  pub scale : get_or n 4 0 < 256
  pub ccsid : get_or n 5 0 < 65536
  pub name : get_or n 9 0 < 256
  pub label : get_or n 12 0 < 256
  pub base : get_or n 15 0 < 256
  pub schema : get_or n 18 0 < 256

-- the record that the numbers stand for (01, Answers: a record)
unfoldable pub column_of : List ℕ → ColumnMetadata
column_of n = record {
  number = get_or n 0 0;
  db2_type = (type_from n).db2_type;
  drda_type = (type_from n).drda_type;
  length = (type_from n).length;
  nullable = (type_from n).nullable;
  precision = get_or n 3 0;
  scale = get_or n 4 0;
  ccsid = get_or n 5 0;
  byte_order = order_of (get_or n 6 0);
  name = text_from n 7 8 9;
  label = text_from n 10 11 12;
  base_table_name = text_from n 13 14 15;
  schema_name = text_from n 16 17 18;
}
