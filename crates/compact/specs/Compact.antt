-- Descriptors of the compact reading and of the last reader: 16 bytes of LE numbers, and a name somewhere after them (01, Layouts: Compact;
-- 01, Choice: the last reader, numbers, names and CCSIDs as in compact). They differ in where they end.
use Rattle.std.specs.Prelude.{Bool, ◌&&◌, not, List, ◌≡◌, ℕ, ◌+◌, ◌-◌, ◌%◌, ◌<◌, ltb, leb, eqb, length, get_or, take, drop}
use Rattle.search.specs.Search.{pick, each}
use Rattle.search.specs.Walks.{first, Walk, chain}
use Rattle.codepage.specs.Page.{Page}
use Rattle.text.specs.Chars.{is_name_char}
use Rattle.field.specs.declared.ByteOrder.TheVariants.{BigEndian, LittleEndian}
use Rattle.strings.specs.declared.StringRead.{StringRead}
use Rattle.field.specs.Numbers.{number}
use Rattle.strings.specs.Strings.{no_string}
use Rattle.types.specs.declared.ColumnMetadata.{ColumnMetadata}
use Rattle.column.specs.declared.Described.{Described}
use Rattle.column.specs.declared.Run.{Run}
use Rattle.column.specs.Column.{column_with, run_of}
use Rattle.compact_table.specs.Table.{next_compact}
use Rattle.compact.specs.declared.Ends.{Ends}
use Rattle.compact.specs.declared.Ends.TheVariants.{Compact, Last}

-- CCSID is BE unless BE is above 10,000 and LE is not (01, Layouts: Compact)
unfoldable pub ccsid_of : ℕ → ℕ → ℕ
ccsid_of be le = pick (ltb 10000 be && leb le 10000) le be

-- a name's length byte at q: 1 to 64 bytes after it inside the descriptor that ends at e, all name characters (01, Layouts: Compact)
unfoldable pub name_here : List ℕ → ℕ → ℕ → Bool
name_here s e q =
    (leb 1 (get_or s q 0) && leb (get_or s q 0) 64)
    && (leb (q + 1 + get_or s q 0) e && each is_name_char (take (get_or s q 0) (drop (q + 1) s)))

-- a byte at q that is no name character (01, Layouts: Compact)
abbrev pub is_other : List ℕ → ℕ → Bool
is_other s q = not (is_name_char (get_or s q 0))

-- the first such byte from q on and before e; e if there is none (01, Layouts: Compact)
unfoldable pub stop_at : List ℕ → ℕ → ℕ → ℕ
stop_at s q e = first (is_other s) q e

-- where r is past q, the name characters behind q, of the descriptor that ends at e, stop there (01, Layouts: Compact)
abbrev pub Stops : List ℕ → ℕ → ℕ → ℕ → Type 0
Stops s e q r = q < r → r ≡ stop_at s (q + 1) e

-- where the first such length byte stands, of the descriptor from p to e; e if there is none (01, Layouts: Compact)
unfoldable pub name_at : List ℕ → ℕ → ℕ → ℕ
name_at s p e = first (name_here s e) (p + 16) e

-- the name of the descriptor from p to e (01, Layouts: Compact)
unfoldable pub compact_name : List ℕ → ℕ → ℕ → StringRead
compact_name s p e =
    pick (ltb (name_at s p e) e) (record { place = name_at s p e + 1; length = get_or s (name_at s p e) 0; next = e }) (no_string e)

-- what the descriptor from p to e says (01, Layouts: Compact; 01, Types and lengths: low 8 bits)
unfoldable pub compact_at : List ℕ → ℕ → ℕ → Described
compact_at s p e = record {
  sql_type = number LittleEndian 2 s (p + 12);
  raw_length = number LittleEndian 8 s (p + 4);
  precision = number LittleEndian 2 s p % 256;
  scale = number LittleEndian 2 s (p + 2) % 256;
  ccsid = ccsid_of (number BigEndian 2 s (p + 14)) (number LittleEndian 2 s (p + 14));
  byte_order = LittleEndian;
  name = compact_name s p e;
  label = no_string 0;
  base_table_name = no_string 0;
  schema_name = no_string 0;
  next = e;
}

-- the column of the descriptor from p to e, under number i (01, Answers)
unfoldable pub compact_column : Page → ℕ → List ℕ → ℕ → ℕ → ColumnMetadata
compact_column page i s p e = column_with page s i (compact_at s p e)

-- in compact a descriptor ends where the next starts; the last of them, or one without a next, at the reply's end (01, Layouts: Compact)
unfoldable pub compact_end : ℕ → List ℕ → ℕ → ℕ
compact_end k s p = pick (eqb k 0) (length s) (pick (leb (next_compact s p) (length s)) (next_compact s p) (length s))

-- FF FF FF at q (01, Choice: the last reader)
unfoldable pub ffs_here : List ℕ → ℕ → Bool
ffs_here s q = eqb (get_or s q 0) 0xFF && (eqb (get_or s (q + 1) 0) 0xFF && eqb (get_or s (q + 2) 0) 0xFF)

-- the last reader's descriptor ends past FF FF FF, or at the reply's end (01, Choice: the last reader)
unfoldable pub last_end : List ℕ → ℕ → ℕ
last_end s p = pick (ltb (first (ffs_here s) p (length s - 2)) (length s - 2)) (first (ffs_here s) p (length s - 2) + 3) (length s)

-- where the descriptor at p ends, with k more to come (01, Layouts: Compact; 01, Choice: the last reader)
unfoldable pub end_by : Ends → ℕ → List ℕ → ℕ → ℕ
end_by Compact k s p = compact_end k s p
end_by Last k s p = last_end s p

-- from descriptor to descriptor; one under 16 bytes ends the list (01, Choice: the last reader; so it is in compact)
abbrev pub compact_walk : Page → Ends → List ℕ → Walk ColumnMetadata
compact_walk page ends s = record {
  end = λ k p. end_by ends k s p;
  reads = λ p e. leb (p + 16) e;
  view = λ i p e. compact_column page i s p e;
}

-- at most n descriptors from p on (01, Layouts: Compact; 01, Choice: the last reader)
unfoldable pub compact_run : Page → Ends → List ℕ → ℕ → ℕ → Run
compact_run page ends s n p = run_of page s (chain (compact_walk page ends s) n 0 p)
