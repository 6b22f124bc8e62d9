-- What every reading gives is consistent: its columns are made by `column_with` under the walk's number, whatever their descriptors say.
use mathlib.Core.Path.{refl, subst}
use mathlib.Core.Bool.{Bool, true, false}
use mathlib.Core.List.{List, [], ◌∷◌}
use Prim.Native.Nat.{ℕ, zero, suc}
use Rattle.search.specs.Search.{pick}
use Rattle.search.specs.Walks.{Walk, chain}
use Rattle.codepage.specs.Page.{Page}
use Rattle.field.specs.declared.ByteOrder.{ByteOrder}
use Rattle.types.specs.declared.ColumnMetadata.{ColumnMetadata}
use Rattle.sqlda.proofs.Laws.{code_of_type}
use Rattle.column.specs.declared.Described.{Described}
use Rattle.column.specs.Column.{column_with}
use Rattle.descriptor.specs.Descriptor.{described_at, column_at}
use Rattle.descriptor.specs.Reading.{standard}
use Rattle.descriptor.specs.Run.{standard_walk}
use Rattle.compact.specs.declared.Ends.{Ends}
use Rattle.compact.specs.Compact.{compact_at, compact_column, compact_walk}
use Rattle.scan.specs.Scan.{scan_columns}
use Rattle.plan.specs.Choice.{compact_columns, last_columns}
use Rattle.plan.proofs.Standards.{standard_walk_is}
use Rattle.columns.specs.Consistent.{ConsistentColumn, ConsistentFrom, Consistent}

-- a column that is made under number i
pub column_consistent : (page : Page) (s : List ℕ) (i : ℕ) (d : Described) → ConsistentColumn i (column_with page s i d)
unfolding column_with
column_consistent page s i d =
    record { numbered = refl; coded = code_of_type d.sql_type d.raw_length d.precision d.scale d.ccsid }

-- a walk that finds such columns
pub chain_consistent : (w : Walk ColumnMetadata) → ((i p e : ℕ) → ConsistentColumn i (w.view i p e)) → (k i p : ℕ) → ConsistentFrom i (chain w k i p)
unfolding chain ConsistentFrom
chain_consistent w h zero i p = tt
chain_consistent w h (suc k) i p = go (w.reads p (w.end k p)) (chain_consistent w h k (suc i) (w.end k p))
  where
    go : (b : Bool) → ConsistentFrom (suc i) (chain w k (suc i) (w.end k p))
        → ConsistentFrom i (pick b (w.view i p (w.end k p) ∷ chain w k (suc i) (w.end k p)) [])
    go true r = (h i p (w.end k p), r)
    go false r = tt

module _ (page : Page) (s : List ℕ) where
  -- ---- the two walks

  pub standard_chain : (order : ByteOrder) (k p : ℕ) → Consistent (chain (standard_walk page order s) k 0 p)
  unfolding column_at
  standard_chain order k p =
      chain_consistent (standard_walk page order s) (λ i q e. column_consistent page s i (described_at order s q)) k 0 p

  pub compact_chain : (ends : Ends) (k p : ℕ) → Consistent (chain (compact_walk page ends s) k 0 p)
  unfolding compact_column
  compact_chain ends k p = chain_consistent (compact_walk page ends s) (λ i q e. column_consistent page s i (compact_at s q e)) k 0 p

  -- ---- the readings

  pub standard_consistent : (order : ByteOrder) → Consistent (standard page order s)
  standard_consistent order = subst Consistent (standard_walk_is page order s) (standard_chain order _ _)

  pub compact_consistent : Consistent (compact_columns page s)
  unfolding compact_columns
  compact_consistent = compact_chain _ _ _

  pub scan_consistent : Consistent (scan_columns page s)
  unfolding scan_columns
  scan_consistent = standard_chain _ _ _

  pub last_consistent : Consistent (last_columns page s)
  unfolding last_columns
  last_consistent = compact_chain _ _ _
