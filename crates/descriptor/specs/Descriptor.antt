-- The standard descriptor, one SQLDAROW, at a position of the reply (DRDA V1: SQLDAGRP, SQLDOPTGRP, SQLUDTGRP, SQLDXGRP; 01, Layouts).
-- A position past the reply's end says that it cannot be read.
use Rattle.std.specs.Prelude.{List, ◌≡◌, ℕ, suc, ◌+◌, ◌%◌, ltb, length}
use Rattle.search.specs.Search.{pick}
use Rattle.codepage.specs.Page.{Page}
use Rattle.field.specs.declared.ByteOrder.{ByteOrder}
use Rattle.strings.specs.declared.StringRead.{StringRead}
use Rattle.field.specs.Numbers.{number}
use Rattle.strings.specs.Strings.{strings_end, no_string, chosen, pair_at}
use Rattle.types.specs.declared.ColumnMetadata.{ColumnMetadata}
use Rattle.sqlda.specs.Types.{is_known}
use Rattle.column.specs.declared.Described.{Described}
use Rattle.column.specs.Column.{column_with}
use Rattle.descriptor.specs.Nullable.{Flags, lenient, strict, nullable_end, in_nullable}

-- past SQLUDTGRP: SQLUDTXTYPE I4, five strings (DRDA V1; 01, Layouts: 4 bytes, five strings)
unfoldable pub udt_end : List ℕ → ℕ → ℕ
udt_end s p = strings_end 5 s (p + 4)

-- past SQLDXGRP: four I2, nine strings (DRDA V1; 01, Layouts: 8 bytes, nine strings)
unfoldable pub dx_end : List ℕ → ℕ → ℕ
dx_end s p = strings_end 9 s (p + 8)

-- where SQLDXGRP's flag is due in SQLDOPTGRP: past SQLUNNAMED I2, six strings and SQLUDTGRP (DRDA V1; 01, Layouts)
unfoldable pub dx_start : Flags → List ℕ → ℕ → ℕ
dx_start flags s p = nullable_end flags udt_end s (strings_end 6 s (p + 2))

-- past SQLDOPTGRP (DRDA V1)
unfoldable pub opt_end : Flags → List ℕ → ℕ → ℕ
opt_end flags s p = nullable_end flags dx_end s (dx_start flags s p)

-- past the descriptor at p: 16 bytes of SQLDAGRP with a known SQLTYPE, then SQLDOPTGRP (DRDA V1; 01, Layouts: standard descriptor)
unfoldable pub descriptor_end : Flags → ByteOrder → List ℕ → ℕ → ℕ
descriptor_end flags order s p =
    pick (ltb (length s) (p + 16)) (p + 16)
    (pick (is_known (number order 2 s (p + 12))) (nullable_end flags (opt_end flags) s (p + 16)) (suc (length s)))

-- complete: it can be read as such a descriptor, no flag that is due is missing and no byte is over (01, Layouts)
abbrev pub Complete : ByteOrder → List ℕ → Type 0
Complete order d = descriptor_end strict order d 0 ≡ length d

-- SQLDXGRP's pair of strings after k others: the base table's name after 3, the schema's after 5, the column's after 7 (DRDA V1: SQLDXGRP)
unfoldable pub dx_pair : ℕ → List ℕ → ℕ → StringRead
dx_pair k s p = in_nullable (no_string 0) (λ s p. pair_at s (strings_end k s (p + 8))) s p

-- the name in SQLDOPTGRP: SQLNAME, the extension's name last (DRDA V1: SQLNAME, SQLXNAME; 01, Layouts)
unfoldable pub opt_name : List ℕ → ℕ → StringRead
opt_name s p = chosen (pair_at s (p + 2)) (dx_pair 7 s (dx_start lenient s p))

-- the label in SQLDOPTGRP, after the name's pair (DRDA V1: SQLLABEL)
unfoldable pub opt_label : List ℕ → ℕ → StringRead
opt_label s p = pair_at s (strings_end 2 s (p + 2))

-- a pair of SQLDXGRP, found from SQLDOPTGRP (DRDA V1: SQLXBASENAME, SQLXSCHEMA)
unfoldable pub opt_pair : ℕ → List ℕ → ℕ → StringRead
opt_pair k s p = dx_pair k s (dx_start lenient s p)

-- what the descriptor at p says (DRDA V1: SQLDAGRP; 01, Layouts: precision 2, scale 2, length 8, SQLTYPE 2, CCSID 2; 01, Types: low 8 bits)
unfoldable pub described_at : ByteOrder → List ℕ → ℕ → Described
described_at order s p = record {
  sql_type = number order 2 s (p + 12);
  raw_length = number order 8 s (p + 4);
  precision = number order 2 s p % 256;
  scale = number order 2 s (p + 2) % 256;
  ccsid = number order 2 s (p + 14);
  byte_order = order;
  name = in_nullable (no_string 0) opt_name s (p + 16);
  label = in_nullable (no_string 0) opt_label s (p + 16);
  base_table_name = in_nullable (no_string 0) (opt_pair 3) s (p + 16);
  schema_name = in_nullable (no_string 0) (opt_pair 5) s (p + 16);
  next = descriptor_end lenient order s p;
}

-- the column of the descriptor at p, under number i (01, Answers)
unfoldable pub column_at : Page → ByteOrder → ℕ → List ℕ → ℕ → ColumnMetadata
column_at page order i s p = column_with page s i (described_at order s p)
