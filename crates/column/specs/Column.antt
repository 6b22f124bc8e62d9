-- The record of a column, from what its descriptor says (01, Answers).
use Rattle.std.specs.Prelude.{Bool, false, not, List, ℕ, ◌+◌, ◌≤◌, eqb, leb}
use Rattle.search.specs.Search.{pick, count}
use Rattle.codepage.specs.Page.{Page}
use Rattle.field.specs.declared.ByteOrder.TheVariants.{BigEndian}
use Rattle.strings.specs.declared.StringRead.{StringRead}
use Rattle.text.specs.declared.Text.{Text}
use Rattle.text.specs.Text.{text_is, empty_text, text_of}
use Rattle.text.specs.Generated.{is_generated_text}
use Rattle.types.specs.declared.ColumnMetadata.{ColumnMetadata}
use Rattle.types.specs.declared.Db2Type.{Db2Type}
use Rattle.sqlda.specs.declared.SqldaType.{SqldaType}
use Rattle.sqlda.specs.Types.{sqlda_type}
use Rattle.column.specs.declared.Described.{Described}
use Rattle.column.specs.declared.Run.{Run}

-- the text of a string of the reply s (01, Parts 2: decode_text)
unfoldable pub string_text : Page → List ℕ → StringRead → Text
string_text page s r = text_of page s r.place r.length

-- a generated text is 0, 0, 0 (01, Answers)
abbrev pub generated_text : Text
generated_text = text_is 0 0 0

-- the name: a column whose descriptor has none gets a generated one (01, Answers: alphabet 0)
unfoldable pub name_text : Page → List ℕ → StringRead → Text
name_text page s r = pick (eqb r.length 0) generated_text (string_text page s r)

-- what SQLTYPE, length, precision, scale and CCSID of a descriptor say (01, Types and lengths)
abbrev pub type_in : Described → SqldaType
type_in d = sqlda_type d.sql_type d.raw_length d.precision d.scale d.ccsid

-- the record under number i (01, Answers: a record holds ..)
unfoldable pub column_with : Page → List ℕ → ℕ → Described → ColumnMetadata
column_with page s i d = record {
  number = i;
  db2_type = (type_in d).db2_type;
  drda_type = (type_in d).drda_type;
  length = (type_in d).length;
  nullable = (type_in d).nullable;
  precision = d.precision;
  scale = d.scale;
  ccsid = d.ccsid;
  byte_order = d.byte_order;
  name = name_text page s d.name;
  label = string_text page s d.label;
  base_table_name = string_text page s d.base_table_name;
  schema_name = string_text page s d.schema_name;
}

-- the four strings of a descriptor lie in the reply s (01, Layouts: a string's bytes follow its length)
pub record StringsInside (s : List ℕ) (d : Described) : Type 0 where
  pub name : d.name.place + d.name.length ≤ lib.ListN.length s
  pub label : d.label.place + d.label.length ≤ lib.ListN.length s
  pub base : d.base_table_name.place + d.base_table_name.length ≤ lib.ListN.length s
  pub schema : d.schema_name.place + d.schema_name.length ≤ lib.ListN.length s

-- some record, where one is needed and none was read: 0 everywhere, SmallInt, BE, texts empty (01, Answers: an empty text is 0, 0, 1)
unfoldable pub blank_column : ColumnMetadata
blank_column = record {
  number = 0;
  db2_type = Db2Type.SmallInt;
  drda_type = 0;
  length = 0;
  nullable = false;
  precision = 0;
  scale = 0;
  ccsid = 0;
  byte_order = BigEndian;
  name = empty_text;
  label = empty_text;
  base_table_name = empty_text;
  schema_name = empty_text;
}

-- a column has a name that is not generated (01, Choice)
unfoldable pub is_named : Page → List ℕ → ColumnMetadata → Bool
is_named page s c = not (is_generated_text page s c.name)

-- how many columns of a list have such a name (01, Choice: named)
abbrev pub named_in : Page → List ℕ → List ColumnMetadata → ℕ
named_in page s l = count (is_named page s) l

-- some column has such a name (01, Choice: a name that is not generated)
unfoldable pub has_names : Page → List ℕ → List ColumnMetadata → Bool
has_names page s l = leb 1 (named_in page s l)

-- how many columns a list has, and how many of them have names (01, Choice: columns, named)
abbrev pub run_of : Page → List ℕ → List ColumnMetadata → Run
run_of page s l = record { count = lib.ListN.length l; named = named_in page s l }
