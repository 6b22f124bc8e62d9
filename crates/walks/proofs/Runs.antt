-- What the steps of a walk over columns count is the run of the columns.
use mathlib.Core.Path.{◌≡◌, ◌∙◌}
use mathlib.Core.List.{List}
use Prim.Native.Nat.{ℕ}
use lib.ListN.{length}
use Rattle.search.specs.Search.{count}
use Rattle.search.specs.Walks.{Walk, chain}
use Rattle.search.proofs.Walks.{tested_counts}
use Rattle.codepage.specs.Page.{Page}
use Rattle.types.specs.declared.ColumnMetadata.{ColumnMetadata}
use Rattle.column.specs.declared.Run.{Run}
use Rattle.column.specs.Column.{is_named, run_of}
use Rattle.walks.specs.Steps.{named_walk}

pub run_is : (page : Page) (s : List ℕ) (w : Walk ColumnMetadata) (n p : ℕ) (run : Run)
    → (run.count ≡ length (chain (named_walk page s w) n 0 p)) × (run.named ≡ count (λ b. b) (chain (named_walk page s w) n 0 p))
    → run ≡ run_of page s (chain w n 0 p)
run_is page s w n p run e =
    let t = tested_counts (is_named page s) w n 0 p in
    λ j. record { count = (e.0 ∙ t.0) j; named = (e.1 ∙ t.1) j }
