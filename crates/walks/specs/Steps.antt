-- What one step of a walk answers.
use Rattle.std.specs.Prelude.{◌≡◌, ℕ, Bool, true, false, List, Option, MatchOption}
use Rattle.search.specs.Walks.{Walk, tested}
use Rattle.codepage.specs.Page.{Page}
use Rattle.types.specs.declared.ColumnMetadata.{ColumnMetadata}
use Rattle.column.specs.Column.{is_named}
use Rattle.walks.specs.declared.Made.{Made}

-- what a step from p on answers, with k more to come: where it ends, and what the walk sees there under any number; none if it cannot
-- be made (01, Choice: the scan; 01, Name scan)
abbrev pub Takes : Walk Bool → ℕ → ℕ → Option Made → Type 0
Takes w k p made =
    MatchOption made (w.reads p (w.end k p) ≡ false)
    (λ m. (m.next ≡ w.end k p) × (w.reads p m.next ≡ true) × ((i : ℕ) → m.named ≡ w.view i p m.next))

-- a walk over columns, by whether they are named (01, Choice: named)
abbrev pub named_walk : Page → List ℕ → Walk ColumnMetadata → Walk Bool
named_walk page s w = tested (is_named page s) w
