-- Every list that a description entry gives is consistent and few; two such lists are compared, and with the same cut have the same widest row.
use mathlib.Core.Path.{◌≡◌, refl}
use mathlib.Core.Bool.{Bool, true, false}
use mathlib.Core.List.{List, [], ◌∷◌}
use Prim.Native.Nat.{ℕ, ◌+◌, ◌≤◌}
use native.Mathlib.Omega.{arith}
use lib.Dec.{ltb, leb, eqb}
use lib.ListN.{length}
use borrow.Author.Tests.{ltb-false, le-ltb}
use Rattle.search.specs.Search.{pick, first_in}
use Rattle.search.proofs.Alternatives.{Each, each_none, each_more, first_in_all}
use Rattle.codepage.specs.Page.{Page}
use Rattle.field.specs.declared.ByteOrder.{ByteOrder}
use Rattle.field.specs.declared.ByteOrder.TheVariants.{BigEndian, LittleEndian}
use Rattle.outcome.specs.Refusal.{is_refused}
use Rattle.types.specs.declared.ColumnMetadata.{ColumnMetadata}
use Rattle.column.specs.Column.{has_names}
use Rattle.descriptor.specs.Reading.{count_at, standard}
use Rattle.scan.specs.Scan.{scan_columns}
use Rattle.plan.specs.Choice.{Reading, reads, refuses, compact_columns, last_columns, last_reading, has_columns, four, choice}
use Rattle.columns.specs.Consistent.{ConsistentFrom, Consistent}
use Rattle.columns.specs.Cut.{most_columns}
use Rattle.columns.specs.Row.{row_refusal}
use Rattle.columns.proofs.Same.{cut_answered}
use Rattle.columns.proofs.Rows.{coarse_cut_rows, same_cut_rows}
use Rattle.plan.specs.Description.{refused_with, status_of, answer_by, description, with_code_point}
use Rattle.readings.specs.Listed.{Listed, Compared}
use Rattle.readings.proofs.Consistent.{standard_consistent, compact_consistent, scan_consistent, last_consistent}
use Rattle.readings.proofs.Few.{standard_few, compact_few, scan_few, last_few}

-- ---- what holds of the readings and of no columns holds of the entries' columns

module _ (P : List ColumnMetadata → Type 0) (none : P []) (page : Page) (s : List ℕ) where
  last_all : P (last_columns page s) → P (last_reading page s).columns
  unfolding last_reading
  last_all l = go (eqb (length s) 0) (ltb (length s) (count_at s)) (ltb (length s) (count_at s + 2))
    where
      go : (x y z : Bool)
          → P
          (pick x (refuses (1 ∷ []))
          (pick y (refuses (2 ∷ count_at s ∷ length s ∷ [])) (pick z (reads false []) (reads false (last_columns page s))))).columns
      go true y z = none
      go false true z = none
      go false false true = none
      go false false false = l

  pub choice_all : P (standard page BigEndian s) → P (compact_columns page s) → P (standard page LittleEndian s) → P (scan_columns page s)
      → P (last_columns page s) → P (choice page s).columns
  unfolding choice
  choice_all a b c d l =
      let all : Each (λ (r : Reading). P r.columns) (four page s) = each_more a (each_more b (each_more c (each_more d each_none))) in
      first_in_all (λ (r : Reading). P r.columns) (λ r. has_names page s r.columns) (first_in (λ r. has_columns r.columns) (four page s) (last_reading page s)) all
      (first_in_all (λ (r : Reading). P r.columns) (λ r. has_columns r.columns) (last_reading page s) all (last_all l))

  module _ (room : ℕ) where
    answer_all : (r : Reading) → P r.columns → P (answer_by page room s r).columns
    unfolding answer_by
    answer_all r h = go (is_refused r.refusal) (leb (length r.columns) room)
      where
        go : (x y : Bool)
            → P
            (pick x (refused_with r.refusal)
            (pick y (record { refusal = 0 ∷ []; card = status_of page s r.alone; columns = r.columns })
            (refused_with (6 ∷ length r.columns ∷ [])))).columns
        go true y = none
        go false true = h
        go false false = none

    -- over 65,536 bytes there are no columns
    pub description_all : (length s ≤ 65536 → P (choice page s).columns) → P (description page room s).columns
    unfolding description
    description_all h = go (ltb 65536 (length s)) refl
      where
        go : (b : Bool) → ltb 65536 (length s) ≡ b → P (pick b (refused_with (5 ∷ [])) (answer_by page room s (choice page s))).columns
        go true e = none
        go false e = answer_all (choice page s) (h (ltb-false 65536 (length s) e))

    pub code_point_all : (point : ℕ) → P (description page room s).columns → P (with_code_point page room point s).columns
    unfolding with_code_point
    code_point_all point h = go (eqb point 0x2411)
      where
        go : (b : Bool) → P (pick b (description page room s) (refused_with (4 ∷ point ∷ []))).columns
        go true = h
        go false = none

-- ---- the readings

none_consistent : Consistent []
unfolding ConsistentFrom
none_consistent = tt

module _ (page : Page) (s : List ℕ) where
  -- whichever reading is chosen, of a reply of any length
  pub choice_consistent : Consistent (choice page s).columns
  choice_consistent =
      choice_all Consistent none_consistent page s (standard_consistent page s BigEndian) (compact_consistent page s)
      (standard_consistent page s LittleEndian) (scan_consistent page s) (last_consistent page s)

  pub choice_few : length s ≤ 65536 → length (choice page s).columns ≤ most_columns
  choice_few h =
      choice_all (λ (l : List ColumnMetadata). length l ≤ most_columns) (omega arith) page s
      (omega (arith, standard_few page s BigEndian)) (omega (arith, compact_few page s)) (omega (arith, standard_few page s LittleEndian))
      (omega (arith, scan_few page s)) (last_few page s h)

-- ---- the entries

pub reading_consistent : (page : Page) (room : ℕ) (s : List ℕ) → Consistent (description page room s).columns
reading_consistent page room s = description_all Consistent none_consistent page s room (λ _. choice_consistent page s)

pub reading_few : (page : Page) (room : ℕ) (s : List ℕ) → length (description page room s).columns ≤ most_columns
reading_few page room s =
    description_all (λ (l : List ColumnMetadata). length l ≤ most_columns) (omega arith) page s room (choice_few page s)

-- what is consistent and few is listed
listed : (l : List ColumnMetadata) → Consistent l → length l ≤ most_columns → Listed l
unfolding row_refusal
listed l c h = record { consistent = c; few = omega (arith, h); row = rw (le-ltb most_columns (length l) h) refl }

pub standard_listed : (page : Page) (order : ByteOrder) (s : List ℕ) → Listed (standard page order s)
standard_listed page order s = listed _ (standard_consistent page s order) (omega (arith, standard_few page s order))

pub reading_listed : (page : Page) (room : ℕ) (s : List ℕ) → Listed (description page room s).columns
reading_listed page room s = listed _ (reading_consistent page room s) (reading_few page room s)

pub code_point_listed : (page : Page) (room : ℕ) (s : List ℕ) (point : ℕ) → Listed (with_code_point page room point s).columns
code_point_listed page room s point = code_point_all Listed (listed [] none_consistent (omega arith)) page s room point (reading_listed page room s)

-- ---- two lists

pub listed_compared : (a b : List ColumnMetadata) → Listed a → Listed b → Compared a b
listed_compared a b p q =
    let t = cut_answered a b (omega (arith, p.few)) (omega (arith, q.few)) in
    record {
      accepts = t.0;
      answers = t.1;
      coarse_rows = λ e. let r = coarse_cut_rows a b p.consistent q.consistent e in record { refusal = r.0; answer = r.1 };
      rows = λ e. let r = same_cut_rows a b p.consistent q.consistent e in record { refusal = r.0; answer = r.1 };
    }

-- of any two replies, whatever the pages and the rooms
pub same_cut_same_row : (page page' : Page) (room room' : ℕ) (s s' : List ℕ)
    → Compared (description page room s).columns (description page' room' s').columns
same_cut_same_row page page' room room' s s' = listed_compared _ _ (reading_listed page room s) (reading_listed page' room' s')
