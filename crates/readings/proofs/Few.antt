-- No reading gives more than 4,095 columns: the four have at most 512, and the last reader's descriptors have 16 bytes each, after the count's two.
use mathlib.Core.Path.{◌≡◌, refl, subst}
use mathlib.Core.Bool.{Bool, true, false}
use mathlib.Core.List.{List, [], ◌∷◌}
use Prim.Native.Nat.{ℕ, zero, suc, ◌+◌, ◌-◌, ◌*◌, ◌≤◌}
use native.Mathlib.Nat.{le_refl, le_trans}
use native.Mathlib.Omega.{arith}
use lib.Dec.{ltb, leb, eqb}
use lib.ListN.{length}
use borrow.Author.Tests.{ltb-true, leb-true}
use Rattle.search.specs.Search.{pick}
use Rattle.search.specs.Walks.{first, Walk, chain}
use Rattle.search.proofs.Index.{first_is}
use Rattle.search.proofs.Walks.{chain_le}
use Rattle.codepage.specs.Page.{Page}
use Rattle.field.specs.declared.ByteOrder.{ByteOrder}
use Rattle.field.specs.declared.ByteOrder.TheVariants.{LittleEndian}
use Rattle.field.specs.Numbers.{number}
use Rattle.types.specs.declared.ColumnMetadata.{ColumnMetadata}
use Rattle.descriptor.specs.Reading.{count_in, gives, standard}
use Rattle.descriptor.specs.Run.{standard_walk}
use Rattle.descriptor.proofs.Exchange.{gives_in}
use Rattle.compact_table.specs.Table.{next_compact, table_here, table_at, no_table, table_of}
use Rattle.compact_table.proofs.Laws.{count_small}
use Rattle.compact.specs.declared.Ends.{Ends}
use Rattle.compact.specs.declared.Ends.TheVariants.{Compact, Last}
use Rattle.compact.specs.Compact.{compact_end, ffs_here, last_end, end_by, compact_walk}
use Rattle.scan.specs.Scan.{scan_best, limit_of, scan_columns}
use Rattle.plan.specs.Choice.{compact_columns, last_count_at, last_columns}
use Rattle.plan.proofs.Standards.{standard_walk_is}
use Rattle.columns.specs.Cut.{most_columns}

-- ---- by bytes

-- a walk whose steps take 16 bytes or more, and end within n
pub chain_bytes : {A : Type 0} (w : Walk A) (n : ℕ)
    → ((k p : ℕ) → w.reads p (w.end k p) ≡ true → (p + 16 ≤ w.end k p) × (w.end k p ≤ n))
    → (k i p : ℕ) → 16 * length (chain w k i p) ≤ n - p
unfolding chain
chain_bytes w n h zero i p = omega arith
chain_bytes w n h (suc k) i p = go (w.reads p (w.end k p)) refl (chain_bytes w n h k (suc i) (w.end k p))
  where
    go : (b : Bool) → w.reads p (w.end k p) ≡ b → 16 * length (chain w k (suc i) (w.end k p)) ≤ n - w.end k p
        → 16 * length (pick b (w.view i p (w.end k p) ∷ chain w k (suc i) (w.end k p)) []) ≤ n - p
    go true e r = let t = h k p e in omega (arith, t.0, t.1)
    go false e r = omega arith

compact_inside : (k : ℕ) (s : List ℕ) (p : ℕ) → compact_end k s p ≤ length s
unfolding compact_end
compact_inside k s p = go (eqb k 0) (leb (next_compact s p) (length s)) refl
  where
    go : (a b : Bool) → leb (next_compact s p) (length s) ≡ b → pick a (length s) (pick b (next_compact s p) (length s)) ≤ length s
    go true b e = le_refl (length s)
    go false true e = leb-true (next_compact s p) (length s) e
    go false false e = le_refl (length s)

last_inside : (s : List ℕ) (p : ℕ) → last_end s p ≤ length s
unfolding last_end
last_inside s p = go (ltb (first (ffs_here s) p (length s - 2)) (length s - 2)) refl
  where
    go : (b : Bool) → ltb (first (ffs_here s) p (length s - 2)) (length s - 2) ≡ b
        → pick b (first (ffs_here s) p (length s - 2) + 3) (length s) ≤ length s
    go true e = omega (arith, ltb-true (first (ffs_here s) p (length s - 2)) (length s - 2) e)
    go false e = le_refl (length s)

-- a descriptor of the compact reading or of the last reader ends within the reply
end_inside : (ends : Ends) (k : ℕ) (s : List ℕ) (p : ℕ) → end_by ends k s p ≤ length s
unfolding end_by
end_inside Compact k s p = compact_inside k s p
end_inside Last k s p = last_inside s p

-- the last reader: the count's two bytes, then 16 for each column
pub last_bytes : (page : Page) (s : List ℕ) → 16 * length (last_columns page s) ≤ length s - 2
unfolding last_columns
last_bytes page s =
    let t = chain_bytes (compact_walk page Last s) (length s) (λ k p e. (leb-true (p + 16) (end_by Last k s p) e, end_inside Last k s p)) (number LittleEndian 2 s (last_count_at s)) 0 (last_count_at s + 2) in
    omega (arith, t)

pub last_few : (page : Page) (s : List ℕ) → length s ≤ 65536 → length (last_columns page s) ≤ most_columns
last_few page s h = omega (arith, last_bytes page s)

-- ---- by their counts

table_few : (s : List ℕ) → (table_of s).count ≤ 512
unfolding table_of table_at
table_few s = go (ltb (table_at s) (length s - 17)) refl
  where
    go : (b : Bool) → ltb (table_at s) (length s - 17) ≡ b
        → (pick b (record { start = table_at s + 2; count = number LittleEndian 2 s (table_at s) }) no_table).count ≤ 512
    go true e =
        count_small s (table_at s) (number LittleEndian 2 s (table_at s)) refl
        ((first_is (table_here s) 0 (length s - 17) (omega arith)).passes (ltb-true (table_at s) (length s - 17) e))
    go false e = omega arith

module _ (page : Page) (s : List ℕ) where
  pub standard_few : (order : ByteOrder) → length (standard page order s) ≤ 512
  standard_few order =
      subst (λ (l : List ColumnMetadata). length l ≤ 512) (standard_walk_is page order s)
      (le_trans (chain_le (standard_walk page order s) _ 0 _) (go (gives order s) refl))
    where
      go : (b : Bool) → gives order s ≡ b → pick b (count_in order s) 0 ≤ 512
      go true e = (gives_in order s e).few
      go false e = omega arith

  pub compact_few : length (compact_columns page s) ≤ 512
  unfolding compact_columns
  compact_few = le_trans (chain_le (compact_walk page Compact s) (table_of s).count 0 (table_of s).start) (table_few s)

  pub scan_few : length (scan_columns page s) ≤ 512
  unfolding scan_columns
  scan_few =
      le_trans (chain_le (standard_walk page (scan_best page s).order s) (limit_of (scan_best page s)) 0 (scan_best page s).start)
      (go (leb 1 (scan_best page s).run.count))
    where
      go : (b : Bool) → pick b 512 0 ≤ 512
      go true = le_refl 512
      go false = omega arith
