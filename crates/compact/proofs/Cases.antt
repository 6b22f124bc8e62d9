-- A reply of two compact descriptors, by computation.
use mathlib.Core.Path.{◌≡◌, refl}
use mathlib.Core.List.{List, [], ◌∷◌}
use Prim.Native.Nat.{ℕ}
use Rattle.search.specs.Walks.{first_of, first, chain}
use Rattle.codepage.specs.Page.{page037, table037}
use Rattle.field.specs.Numbers.{number}
use Rattle.text.specs.Chars.{is_ascii, char_of}
use Rattle.text.specs.Text.{placed, text_on}
use Rattle.text.specs.Generated.{is_generated, is_generated_text}
use Rattle.types.specs.Rows.{type_rows, lookup}
use Rattle.column.specs.Column.{string_text, name_text, column_with, is_named}
use Rattle.compact_table.specs.Table.{looks_compact, next_here, next_compact, table_here, table_at, table_of}
use Rattle.compact.specs.declared.Ends.TheVariants.{Compact, Last}
use Rattle.compact.specs.Compact.{name_here, name_at, compact_name, compact_at, compact_column, compact_end, ffs_here, last_end, end_by, compact_run}

-- Char(4), CCSID 1208, and what follows
abbrev char : List ℕ → List ℕ
char rest = 0 ∷ 0 ∷ 0 ∷ 0 ∷ 4 ∷ 0 ∷ 0 ∷ 0 ∷ 0 ∷ 0 ∷ 0 ∷ 0 ∷ 0xC4 ∷ 0x01 ∷ 0xB8 ∷ 0x04 ∷ rest

-- a count of 2, then DOOR and COL7, an FF between them
abbrev two : List ℕ
two = 2 ∷ 0 ∷ char (4 ∷ 0x44 ∷ 0x4F ∷ 0x4F ∷ 0x52 ∷ 0xFF ∷ char (4 ∷ 0x43 ∷ 0x4F ∷ 0x4C ∷ 0x37 ∷ []))

-- the table is found, and of its two columns one has a name that is not generated; to the last reader, without FF FF FF, they are one
pub record Read (s : List ℕ) : Type 0 where
  pub table : table_of s ≡ record { start = 2; count = 2 }
  pub columns : compact_run page037 Compact s 2 2 ≡ record { count = 2; named = 1 }
  pub last : compact_run page037 Last s 2 2 ≡ record { count = 1; named = 1 }

pub two_read : Read two
unfolding first_of first chain table037 number is_ascii char_of placed text_on is_generated is_generated_text type_rows lookup string_text name_text column_with is_named looks_compact next_here next_compact table_here table_at table_of name_here name_at compact_name compact_at compact_column compact_end ffs_here last_end end_by compact_run
two_read = record { table = refl; columns = refl; last = refl }
