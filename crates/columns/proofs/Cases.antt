-- Document 01's columns A, B and C, computed against the definitions of both entries; and lists that no reading makes.
use mathlib.Core.Path.{◌≡◌, refl}
use mathlib.Core.Bool.{Bool, true, false}
use mathlib.Core.List.{List, [], ◌∷◌}
use Prim.Native.Nat.{ℕ}
use lib.ListN.{replicate}
use Rattle.field.specs.declared.ByteOrder.{ByteOrder}
use Rattle.field.specs.declared.ByteOrder.TheVariants.{BigEndian, LittleEndian}
use Rattle.text.specs.declared.Text.{Text}
use Rattle.text.specs.Text.{text_is, empty_text}
use Rattle.types.specs.declared.ColumnMetadata.{ColumnMetadata}
use Rattle.types.specs.declared.Db2Type.{Db2Type}
use Rattle.column.specs.Column.{generated_text}
use Rattle.widths.specs.Width.{value_width, column_width}
use Rattle.widths.specs.Inside.{most_width}
use Rattle.columns.specs.Cut.{coarse_column, same_column, same_cut, cut_refusal, cut_answer}
use Rattle.columns.specs.Finer.{coarse_cut, coarse_answer}
use Rattle.columns.specs.Row.{row_width, large_refusal, row_refusal, row_answer}
use Rattle.columns.specs.Consistent.{ConsistentFrom, Consistent}

-- a column with this CCSID, number, type, code, length, nullable, byte order and name
abbrev column_in : ℕ → ℕ → Db2Type → ℕ → ℕ → Bool → ByteOrder → Text → ColumnMetadata
column_in ccsid number type code size nullable order name = record {
  number = number;
  db2_type = type;
  drda_type = code;
  length = size;
  nullable = nullable;
  precision = 0;
  scale = 0;
  ccsid = ccsid;
  byte_order = order;
  name = name;
  label = empty_text;
  base_table_name = empty_text;
  schema_name = empty_text;
}

-- in UTF-8
abbrev column : ℕ → Db2Type → ℕ → ℕ → Bool → ByteOrder → Text → ColumnMetadata
column = column_in 1208

-- the first column, in BE and named DOOR
abbrev door : Db2Type → ℕ → ℕ → Bool → ColumnMetadata
door type code size nullable = column 0 type code size nullable BigEndian (text_is 25 4 1)

-- the lists of A, B, C and D
abbrev list_a : List ColumnMetadata
list_a = door (Db2Type.Char 4) 0x30 4 false ∷ []

abbrev list_b : List ColumnMetadata
list_b = door (Db2Type.Char 6) 0x30 6 false ∷ []

abbrev list_c : List ColumnMetadata
list_c = door (Db2Type.Char 4) 0x31 4 true ∷ []

abbrev list_d : List ColumnMetadata
list_d = column 0 (Db2Type.Char 4) 0x30 4 false BigEndian generated_text ∷ []

-- to unfold this is to unfold both entries, for a proof that computes them
unfoldable everything : Unit {0}
unfolding coarse_column same_column same_cut coarse_cut cut_refusal cut_answer coarse_answer value_width column_width row_width large_refusal row_refusal row_answer ConsistentFrom
everything = tt

-- A's and B's rows are their lengths
pub case_a_b_rows : (row_answer list_a ≡ 4) × (row_answer list_b ≡ 6)
unfolding everything
case_a_b_rows = (refl, refl)

-- A and B differ in length, A and C in code; D is A without its name
pub case_cuts : (cut_answer list_a list_b ≡ false) × ((cut_answer list_a list_c ≡ false) × (cut_answer list_a list_d ≡ true))
unfolding everything
case_cuts = (refl, (refl, refl))

-- lists of unlike count, or in the other byte order
pub case_count : (cut_refusal list_a [] ≡ 0 ∷ []) × (cut_answer list_a [] ≡ false)
unfolding everything
case_count = (refl, refl)

pub case_order : cut_answer list_a (column 0 (Db2Type.Char 4) 0x30 4 false LittleEndian (text_is 25 4 1) ∷ []) ≡ false
unfolding everything
case_order = refl

-- A's column in this CCSID, which changed from 37 to 1208 while the length stayed: no, where the rule so far said yes; equal ones are equal, 0 too
abbrev list_in : ℕ → List ColumnMetadata
list_in ccsid = column_in ccsid 0 (Db2Type.Char 4) 0x30 4 false BigEndian (text_is 25 4 1) ∷ []

pub case_ccsid : (cut_answer (list_in 37) list_a ≡ false) × ((coarse_answer (list_in 37) list_a ≡ true)
    × ((cut_answer (list_in 37) (list_in 37) ≡ true) × (cut_answer (list_in 0) (list_in 0) ≡ true)))
unfolding everything
case_ccsid = (refl, (refl, (refl, refl)))

-- 5 comes before any difference
pub case_cut_most : (cut_refusal (replicate 4096 (door (Db2Type.Char 4) 0x30 4 false)) (list_in 37) ≡ 5 ∷ [])
    × (cut_answer (replicate 4096 (door (Db2Type.Char 4) 0x30 4 false)) (replicate 4096 (door (Db2Type.Char 4) 0x30 4 false)) ≡ false)
unfolding everything
case_cut_most = (refl, refl)

-- a nullable VarChar(10) after A: 4 and 10 + 1 + 2
pub case_varying : row_answer (door (Db2Type.Char 4) 0x30 4 false ∷ column 1 (Db2Type.VarChar 10) 0x33 10 true BigEndian empty_text ∷ []) ≡ 17
unfolding everything
case_varying = refl

-- double-byte columns: Graphic(4) takes 8 bytes, VarGraphic(4) 2 more, a nullable one 1 more; a DbClob has no row
pub case_graphic : (row_answer (door (Db2Type.Graphic 4) 0x3C 4 false ∷ []) ≡ 8)
    × ((row_answer (door (Db2Type.VarGraphic 4) 0x3E 4 false ∷ []) ≡ 10)
    × ((row_answer (door (Db2Type.VarGraphic 4) 0x3F 4 true ∷ []) ≡ 11)
    × ((row_answer (door (Db2Type.Graphic 0) 0x3C 0 false ∷ []) ≡ 0)
    × (row_refusal (door Db2Type.DbClob 0xCC 4 false ∷ []) ≡ 8 ∷ 0 ∷ []))))
unfolding everything
case_graphic = (refl, (refl, (refl, (refl, refl))))

-- the widest column and the widest list
abbrev widest : ColumnMetadata
widest = door (Db2Type.VarGraphic 65535) 0x3F 65535 true

pub case_widest : (column_width widest ≡ most_width) × (row_answer (replicate 4095 widest) ≡ 536743935)
unfolding everything
case_widest = (refl, refl)

-- two large columns after A: 8 with the first one's number, and 0
abbrev list_large : List ColumnMetadata
list_large =
    door (Db2Type.Char 4) 0x30 4 false ∷
    column 1 Db2Type.Xml 0xDC 4 false BigEndian empty_text ∷
    column 2 Db2Type.Blob 0xC8 4 false BigEndian empty_text ∷
    []

pub case_large : (row_refusal list_large ≡ 8 ∷ 1 ∷ []) × (row_answer list_large ≡ 0)
unfolding everything
case_large = (refl, refl)

-- 4,095 records are taken, 4,096 are 5
pub case_most : (row_answer (replicate 4095 (door (Db2Type.Char 4) 0x30 4 false)) ≡ 16380)
    × (row_refusal (replicate 4096 (door (Db2Type.Char 4) 0x30 4 false)) ≡ 5 ∷ [])
unfolding everything
case_most = (refl, refl)

-- ---- why the law of Rows asks for consistent lists: A's code says Char, whatever type a caller puts beside it

-- A's list is consistent
pub case_consistent : Consistent list_a
unfolding everything
case_consistent = (record { numbered = refl; coded = refl }, tt)

abbrev made_up : List ColumnMetadata
made_up = door (Db2Type.VarChar 4) 0x30 4 false ∷ []

pub made_up_wider : (same_cut list_a made_up ≡ true) × ((row_answer list_a ≡ 4) × (row_answer made_up ≡ 6))
unfolding everything
made_up_wider = (refl, (refl, refl))

-- the type decides whether a length counts twice, not the code: A as Graphic, and a Graphic's code on a Char
pub made_up_graphic : (same_cut list_a (door (Db2Type.Graphic 4) 0x30 4 false ∷ []) ≡ true)
    × ((row_answer (door (Db2Type.Graphic 4) 0x30 4 false ∷ []) ≡ 8) × (row_answer (door (Db2Type.Char 4) 0x3C 4 false ∷ []) ≡ 4))
unfolding everything
made_up_graphic = (refl, (refl, refl))

pub made_up_large : (same_cut list_a (door Db2Type.Blob 0x30 4 false ∷ []) ≡ true) × (row_refusal (door Db2Type.Blob 0x30 4 false ∷ []) ≡ 8 ∷ 0 ∷ [])
unfolding everything
made_up_large = (refl, refl)
