-- The four readings and the last reader as lists of columns, and the choice among them (01, Choice).
use Rattle.std.specs.Prelude.{Bool, true, false, ◌&&◌, List, [], ◌∷◌, ℕ, ◌+◌, ltb, leb, eqb, length, get_or}
use Rattle.search.specs.Search.{pick, first_in}
use Rattle.search.specs.Walks.{chain}
use Rattle.codepage.specs.Page.{Page}
use Rattle.field.specs.declared.ByteOrder.TheVariants.{BigEndian, LittleEndian}
use Rattle.field.specs.Numbers.{number}
use Rattle.types.specs.declared.ColumnMetadata.{ColumnMetadata}
use Rattle.column.specs.Column.{has_names}
use Rattle.descriptor.specs.Reading.{count_at, standard}
use Rattle.compact_table.specs.Table.{table_of}
use Rattle.compact.specs.declared.Ends.TheVariants.{Compact, Last}
use Rattle.compact.specs.Compact.{compact_walk}
use Rattle.scan.specs.Scan.{scan_columns}

-- what a reading gives: its columns; whether its status is read alone on the whole reply, or else as the group; its refusal, 0 alone if none (01, Choice)
pub record Reading : Type 0 where
  pub columns : List ColumnMetadata
  pub alone : Bool
  pub refusal : List ℕ

-- a reading that is not refused (01, Choice)
abbrev pub reads : Bool → List ColumnMetadata → Reading
reads alone l = record { columns = l; alone = alone; refusal = 0 ∷ [] }

-- a reading that is refused has no columns (01, Numbers of refusal: description)
abbrev pub refuses : List ℕ → Reading
refuses refusal = record { columns = []; alone = false; refusal = refusal }

-- the columns of the compact table, fewer than its count where it ends early (01, Layouts: Compact)
unfoldable pub compact_columns : Page → List ℕ → List ColumnMetadata
compact_columns page s = chain (compact_walk page Compact s) (table_of s).count 0 (table_of s).start

-- the last reader's count stands one byte on if it is above 256, with first byte FF and three bytes left (01, Choice: the last reader)
unfoldable pub last_count_at : List ℕ → ℕ
last_count_at s =
    pick (ltb 256 (number LittleEndian 2 s (count_at s)) && (leb (count_at s + 3) (length s) && eqb (get_or s (count_at s) 0) 0xFF)) (count_at s + 1) (count_at s)

-- its columns: any LE count, as many as have 16 bytes (01, Choice: the last reader)
unfoldable pub last_columns : Page → List ℕ → List ColumnMetadata
last_columns page s = chain (compact_walk page Last s) (number LittleEndian 2 s (last_count_at s)) 0 (last_count_at s + 2)

-- the last reader: 1 empty; 2 ends early, with expected and actual; no columns where the reply ends before the whole count (01, Numbers of refusal; 01, Layouts)
unfoldable pub last_reading : Page → List ℕ → Reading
last_reading page s =
    pick (eqb (length s) 0) (refuses (1 ∷ []))
    (pick (ltb (length s) (count_at s)) (refuses (2 ∷ count_at s ∷ length s ∷ []))
    (pick (ltb (length s) (count_at s + 2)) (reads false []) (reads false (last_columns page s))))

-- a list that is not empty (01, Choice: the first non-empty list)
unfoldable pub has_columns : List ColumnMetadata → Bool
has_columns l = leb 1 (length l)

-- the four readings in their order; compact and scan take the status read alone (01, Choice: standard BE, compact, standard LE, scan)
abbrev pub four : Page → List ℕ → List Reading
four page s =
    reads false (standard page BigEndian s) ∷ reads true (compact_columns page s) ∷ reads false (standard page LittleEndian s) ∷
    reads true (scan_columns page s) ∷ []

-- the first with a name that is not generated; otherwise the first non-empty list; otherwise the last reader (01, Choice)
unfoldable pub choice : Page → List ℕ → Reading
choice page s =
    first_in (λ r. has_names page s r.columns) (four page s) (first_in (λ r. has_columns r.columns) (four page s) (last_reading page s))
