-- Runs of standard layouts that have names, and the longest of them (01, Name scan).
use Rattle.std.specs.Prelude.{Bool, List, ℕ, ◌-◌, ltb, leb, length}
use Rattle.search.specs.Search.{pick}
use Rattle.search.specs.Walks.{Walk, best, chain}
use Rattle.codepage.specs.Page.{Page, page037}
use Rattle.text.specs.declared.Text.{Text}
use Rattle.column.specs.Column.{string_text}
use Rattle.name_run.specs.declared.NameRun.{NameRun}
use Rattle.name_run.specs.declared.RunNames.{RunNames}
use Rattle.name_run.specs.Layout.{name_in, is_named_layout, layout_end}

-- from layout to layout, by the texts of their names (01, Name scan)
abbrev pub name_walk : Page → List ℕ → Walk Text
name_walk page s = record {
  end = λ k p. layout_end s p;
  reads = λ p e. is_named_layout page s p e;
  view = λ i p e. string_text page s (name_in page s p);
}

-- the run from p on, up to 512 (01, Name scan: up to 512)
unfoldable pub name_run_from : Page → List ℕ → ℕ → NameRun
name_run_from page s p = record { start = p; count = length (chain (name_walk page s) 512 0 p) }

-- only a longer run replaces (01, Name scan: the first longest run)
abbrev pub longer : NameRun → NameRun → Bool
longer x y = ltb y.count x.count

-- no run (01, Name scan)
abbrev pub no_name_run : NameRun
no_name_run = record { start = 0; count = 0 }

-- the first longest run from a start before the last 20 bytes (01, Name scan)
unfoldable pub longest_name_run : Page → List ℕ → NameRun
longest_name_run page s = best longer (name_run_from page s) 0 (length s - 20) no_name_run

-- how many layouts of a run are read, by its count: up to 512, none where there is no run (01, Forms that must change: read again)
abbrev pub run_limit : ℕ → ℕ
run_limit count = pick (leb 1 count) 512 0

-- the names of a run, read again from its start (01, Forms that must change: Best run)
unfoldable pub names_of_run : Page → List ℕ → NameRun → List Text
names_of_run page s run = chain (name_walk page s) (run_limit run.count) 0 run.start

-- the names that are still to come (01, Forms that must change: read again)
abbrev pub names_left : RunNames → List Text
names_left names = chain (name_walk page037 names.reply.now) names.left 0 names.offset
