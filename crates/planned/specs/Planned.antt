-- A plan and its columns, one by one (01, Expected form: a thin filler over a core that writes numbers).
use Rattle.std.specs.Prelude.{true, List, ◌≡◌, ℕ}
use Rattle.search.specs.Walks.{Walk, chain}
use Rattle.codepage.specs.Page.{Page}
use Rattle.types.specs.declared.ColumnMetadata.{ColumnMetadata}
use Rattle.column.specs.declared.Described.{Described}
use Rattle.descriptor.specs.Descriptor.{described_at}
use Rattle.descriptor.specs.Run.{standard_walk}
use Rattle.compact.specs.Compact.{end_by, compact_at, compact_walk}
use Rattle.planned.specs.declared.Layout.{Layout}
use Rattle.planned.specs.declared.Layout.TheVariants.{Standard, Compact}
use Rattle.planned.specs.declared.Plan.{Plan}

-- from descriptor to descriptor, by layout (01, Layouts)
abbrev pub walk_by : Page → List ℕ → Layout → Walk ColumnMetadata
walk_by page s (Standard order) = standard_walk page order s
walk_by page s (Compact ends) = compact_walk page ends s

-- the walk of a plan (01, Layouts)
unfoldable pub walk_of : Page → List ℕ → Plan → Walk ColumnMetadata
walk_of page s p = walk_by page s p.layout

-- the columns that a plan stands for: what the filler writes (01, Answers)
unfoldable pub columns_of : Page → List ℕ → Plan → List ColumnMetadata
columns_of page s p = chain (walk_of page s p) p.limit 0 p.start

-- what the descriptor at p says, with k more to come, by layout (01, Layouts)
abbrev pub described_by : Layout → ℕ → List ℕ → ℕ → Described
described_by (Standard order) k s p = described_at order s p
described_by (Compact ends) k s p = compact_at s p (end_by ends k s p)

-- the descriptor at p, with k more to come, can be read (01, Layouts)
abbrev pub Reads : Page → List ℕ → Plan → ℕ → ℕ → Type 0
Reads page s plan k p = (walk_of page s plan).reads p ((walk_of page s plan).end k p) ≡ true
