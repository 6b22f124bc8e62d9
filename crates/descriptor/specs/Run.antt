-- Runs of standard descriptors from any position (01, Choice: the scan).
use Rattle.std.specs.Prelude.{List, ℕ, leb, length}
use Rattle.search.specs.Walks.{Walk, chain}
use Rattle.codepage.specs.Page.{Page}
use Rattle.field.specs.declared.ByteOrder.{ByteOrder}
use Rattle.types.specs.declared.ColumnMetadata.{ColumnMetadata}
use Rattle.column.specs.declared.Run.{Run}
use Rattle.column.specs.Column.{run_of}
use Rattle.descriptor.specs.Nullable.{lenient}
use Rattle.descriptor.specs.Descriptor.{descriptor_end, column_at}

-- from standard descriptor to standard descriptor (01, Layouts: standard descriptor)
abbrev pub standard_walk : Page → ByteOrder → List ℕ → Walk ColumnMetadata
standard_walk page order s = record {
  end = λ k p. descriptor_end lenient order s p;
  reads = λ p e. leb e (length s);
  view = λ i p e. column_at page order i s p;
}

-- at most n standard descriptors from p on, as many as can be read (01, Choice: the scan reads standard descriptors from each start)
unfoldable pub standard_run : Page → ByteOrder → List ℕ → ℕ → ℕ → Run
standard_run page order s n p = run_of page s (chain (standard_walk page order s) n 0 p)
