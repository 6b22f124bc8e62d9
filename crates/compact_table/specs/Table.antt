-- The table of compact descriptors, which is found by how its first descriptors look (01, Layouts: Compact). All numbers are LE.
use Rattle.std.specs.Prelude.{Bool, false, ◌&&◌, ◌||◌, List, ◌≡◌, ℕ, ◌+◌, ◌-◌, ◌%◌, ◌<◌, ltb, leb, eqb, length, get_or, Option, Some, None}
use Rattle.search.specs.Search.{pick}
use Rattle.search.specs.Walks.{first}
use Rattle.field.specs.declared.ByteOrder.TheVariants.{LittleEndian}
use Rattle.field.specs.Numbers.{number}
use Rattle.sqlda.specs.Types.{base_of, is_known}
use Rattle.compact_table.specs.declared.Table.{Table}

-- the types that may be longer than 65,536 (01, Layouts: Compact, 404, 408, 412, 988)
abbrev pub is_lob : ℕ → Bool
is_lob t = eqb (base_of t) 404 || eqb (base_of t) 408 || eqb (base_of t) 412 || eqb (base_of t) 988

-- numbers within bounds: precision and scale at most 63 by their low eight bits (01, Layouts: Compact; 01, Types and lengths: low 8 bits)
abbrev pub in_bounds : ℕ → ℕ → ℕ → ℕ → Bool
in_bounds t precision scale raw =
    leb (precision % 256) 63 && (leb (scale % 256) 63 && (leb raw 65536 || (is_lob t && leb raw 0x7FFF_FFFF)))

-- 16 bytes at p that look like the start of a compact descriptor (01, Layouts: Compact, such 16 bytes)
unfoldable pub looks_compact : List ℕ → ℕ → Bool
looks_compact s p =
    leb (p + 16) (length s)
    && (in_bounds (number LittleEndian 2 s (p + 12)) (number LittleEndian 2 s p) (number LittleEndian 2 s (p + 2)) (number LittleEndian 8 s (p + 4))
    && is_known (number LittleEndian 2 s (p + 12)))

-- FF at q (01, Layouts: Compact, a next stands behind an FF)
abbrev pub is_ff : List ℕ → ℕ → Bool
is_ff s q = eqb (get_or s q 0) 0xFF

-- the first FF from q on and before e; e if there is none (01, Layouts: Compact, a next stands behind an FF)
unfoldable pub ff_at : List ℕ → ℕ → ℕ → ℕ
ff_at s q e = first (is_ff s) q e

-- FF at q, and such 16 bytes after it (01, Layouts: Compact, a next)
unfoldable pub next_here : List ℕ → ℕ → Bool
next_here s q = eqb (get_or s q 0) 0xFF && looks_compact s (q + 1)

-- the descriptor next to the one at p, 1 past the first such FF from position 16 on; past the reply's end if there is none (01, Layouts: Compact)
unfoldable pub next_compact : List ℕ → ℕ → ℕ
next_compact s p = first (next_here s) (p + 16) (length s) + 1

-- a count of 1 to 512 (01, Layouts: Compact)
abbrev pub is_count : ℕ → Bool
is_count n = leb 1 n && leb n 512

-- the count at q is a table's: such 16 bytes follow it which, unless it is 1, have a next (01, Layouts: Compact)
unfoldable pub table_here : List ℕ → ℕ → Bool
table_here s q =
    is_count (number LittleEndian 2 s q)
    && (looks_compact s (q + 2) && (eqb (number LittleEndian 2 s q) 1 || leb (next_compact s (q + 2)) (length s)))

-- the table of a count at q, none where that is no table's (01, Layouts: Compact)
abbrev pub table_from : List ℕ → ℕ → Option Table
table_from s q = pick (table_here s q) (Some (record { start = q + 2; count = number LittleEndian 2 s q })) None

-- where the first such count stands; not before the last 17 bytes if there is none (01, Layouts: Compact, the first count)
unfoldable pub table_at : List ℕ → ℕ
table_at s = first (table_here s) 0 (length s - 17)

-- no table: a count of 0 (01, Layouts: Compact, a table has a count of 1 to 512)
abbrev pub no_table : Table
no_table = record { start = 0; count = 0 }

-- the table: its first descriptor's place, and its count (01, Layouts: Compact)
unfoldable pub table_of : List ℕ → Table
table_of s =
    pick (ltb (table_at s) (length s - 17)) (record { start = table_at s + 2; count = number LittleEndian 2 s (table_at s) }) no_table

-- where it is false that more may come, the 16 bytes at p have no next (01, Layouts: Compact, one without a next)
abbrev pub Ended : List ℕ → ℕ → Bool → Type 0
Ended s p more = more ≡ false → length s < next_compact s p
