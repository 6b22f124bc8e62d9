-- The scan: from each start the longest run of standard descriptors, all starts in BE, then all in LE (01, Choice).
use Rattle.std.specs.Prelude.{Bool, ◌&&◌, List, ℕ, ◌-◌, ◌≤◌, leb, ℤ, pos, length}
use Rattle.std.specs.Int.Signed.{lt_z}
use Rattle.search.specs.Search.{pick}
use Rattle.search.specs.Walks.{best, chain}
use Rattle.codepage.specs.Page.{Page}
use Rattle.field.specs.declared.ByteOrder.{ByteOrder}
use Rattle.field.specs.declared.ByteOrder.TheVariants.{BigEndian, LittleEndian}
use Rattle.types.specs.declared.ColumnMetadata.{ColumnMetadata}
use Rattle.column.specs.declared.Run.{Run}
use Rattle.descriptor.specs.Run.{standard_walk, standard_run}
use Rattle.scan.specs.declared.Best.{Best}
use Rattle.scan.specs.Score.{exact_score}

-- a run's score, 0 unless it has two or more columns, at least one of them named: 0 replaces nothing (01, Choice)
unfoldable pub score : Run → ℤ
score r = pick (leb 2 r.count && leb 1 r.named) (exact_score r.named r.count (r.count - r.named)) (pos 0)

-- only a strictly greater score replaces (01, Choice)
abbrev pub better : Best → Best → Bool
better x y = lt_z (score y.run) (score x.run)

-- no run, whose score is 0: a score has to be above 0 (01, Choice)
abbrev pub no_run : Best
no_run = record { start = 0; order = BigEndian; run = record { count = 0; named = 0 } }

-- the run from p on, up to 512 columns (01, Choice: from each start, up to 512)
unfoldable pub run_from : Page → ByteOrder → List ℕ → ℕ → Best
run_from page order s p = record { start = p; order = order; run = standard_run page order s 512 p }

-- the best of x and the runs in one byte order, from each start before the last 17 bytes (01, Choice)
unfoldable pub scan_order : Page → ByteOrder → List ℕ → Best → Best
scan_order page order s x = best better (run_from page order s) 0 (length s - 17) x

-- the best run, BE then LE (01, Choice: only a strictly greater score, above 0, replaces)
unfoldable pub scan_best : Page → List ℕ → Best
scan_best page s = scan_order page LittleEndian s (scan_order page BigEndian s no_run)

-- how many columns may be read from its start: up to 512, none where there is no run (01, Choice: read again from its start)
abbrev pub limit_of : Best → ℕ
limit_of x = pick (leb 1 x.run.count) 512 0

-- the columns of the best run, read again from its start, none where there is no such run (01, Forms that must change: Best run)
unfoldable pub scan_columns : Page → List ℕ → List ColumnMetadata
scan_columns page s = chain (standard_walk page (scan_best page s).order s) (limit_of (scan_best page s)) 0 (scan_best page s).start

-- what holds of a run: few columns, and no more of them named (01, Choice: up to 512)
pub record Few (r : Run) : Type 0 where
  pub named : r.named ≤ r.count
  pub count : r.count ≤ 512
