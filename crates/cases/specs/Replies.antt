-- The replies A to D of document 01, byte by byte, and the columns that it says they describe.
use Rattle.std.specs.Prelude.{Bool, true, false, List, [], ◌∷◌, ◌++◌, ℕ, take}
use Rattle.field.specs.declared.ByteOrder.TheVariants.{BigEndian}
use Rattle.text.specs.declared.Text.{Text}
use Rattle.text.specs.Text.{text_is, empty_text}
use Rattle.types.specs.declared.ColumnMetadata.{ColumnMetadata}
use Rattle.types.specs.declared.Db2Type.{Db2Type}
use Rattle.column.specs.Column.{generated_text}

-- A's descriptor, with these low bytes of its length and its SQLTYPE (01, Replies on the edge: A; DRDA V1: SQLDAGRP)
abbrev pub door_of : ℕ → ℕ → List ℕ
door_of size low =
    0x00 ∷ 0x00 ∷ 0x00 ∷ 0x00 ∷ 0x00 ∷ 0x00 ∷ 0x00 ∷ 0x00 ∷ 0x00 ∷ 0x00 ∷ 0x00 ∷ size ∷ 0x01 ∷ low ∷ 0x04 ∷ 0xB8 ∷ 0x00 ∷ 0x00 ∷ 0x00 ∷
    0x00 ∷ 0x04 ∷ 0x44 ∷ 0x4F ∷ 0x4F ∷ 0x52 ∷ 0x00 ∷ 0x00 ∷ 0x00 ∷ 0x00 ∷ 0x00 ∷ 0x00 ∷ 0x00 ∷ 0x00 ∷ 0x00 ∷ 0x00 ∷ 0xFF ∷ 0xFF ∷ []

-- a reply of one column that is described so (01, Replies on the edge: A)
abbrev pub reply_of : ℕ → ℕ → List ℕ
reply_of size low = 0xFF ∷ 0xFF ∷ 0x00 ∷ 0x01 ∷ door_of size low

-- length 04, SQLTYPE 01 C4 (01, Replies on the edge: A)
abbrev pub reply_a : List ℕ
reply_a = reply_of 0x04 0xC4

-- "length 06" (01, Replies on the edge: B)
abbrev pub reply_b : List ℕ
reply_b = reply_of 0x06 0xC4

-- "01 C5" (01, Replies on the edge: C)
abbrev pub reply_c : List ℕ
reply_c = reply_of 0x04 0xC5

-- "A's first 20 bytes and FF" (01, Replies on the edge: D)
abbrev pub reply_d : List ℕ
reply_d = take 20 reply_a ++ (0xFF ∷ [])

-- a column with this type, length, code, nullable and name, and A's in all else (01, Replies on the edge: A; 01, Answers: a record)
abbrev pub door_with : Db2Type → ℕ → ℕ → Bool → Text → ColumnMetadata
door_with type size code nullable name = record {
  number = 0;
  db2_type = type;
  drda_type = code;
  length = size;
  nullable = nullable;
  precision = 0;
  scale = 0;
  ccsid = 1208;
  byte_order = BigEndian;
  name = name;
  label = empty_text;
  base_table_name = empty_text;
  schema_name = empty_text;
}

-- "DOOR, place 25, Char(4), 0x30, CCSID 1208" (01, Replies on the edge: A)
abbrev pub column_a : ColumnMetadata
column_a = door_with (Db2Type.Char 4) 4 0x30 false (text_is 25 4 1)

-- "only length and type change" (01, Replies on the edge: B)
abbrev pub column_b : ColumnMetadata
column_b = door_with (Db2Type.Char 6) 6 0x30 false (text_is 25 4 1)

-- "0x31": nullable (01, Replies on the edge: C)
abbrev pub column_c : ColumnMetadata
column_c = door_with (Db2Type.Char 4) 4 0x31 true (text_is 25 4 1)

-- "COL1, Char(4)": a generated name (01, Replies on the edge: D)
abbrev pub column_d : ColumnMetadata
column_d = door_with (Db2Type.Char 4) 4 0x30 false generated_text
