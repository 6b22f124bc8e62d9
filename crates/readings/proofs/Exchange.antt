-- An exchange of one column's description changes the cut exactly where that column's own cut changes.
use mathlib.Core.Path.{◌≡◌, refl, ap, ◌∙◌}
use mathlib.Core.Bool.{Bool, true, and-true}
use mathlib.Core.List.{List, [], ◌∷◌, map}
use mathlib.Core.Option.{some}
use Prim.Native.Nat.{ℕ, zero, suc, ◌≤◌}
use native.Mathlib.Omega.{arith}
use lib.ListN.{length, get_elem?}
use Rattle.search.specs.Search.{alike}
use Rattle.codepage.specs.Page.{Page}
use Rattle.field.specs.declared.ByteOrder.{ByteOrder}
use Rattle.field.specs.declared.ByteOrder.TheVariants.{BigEndian}
use Rattle.types.specs.declared.ColumnMetadata.{ColumnMetadata}
use Rattle.column.specs.Column.{has_names}
use Rattle.column.specs.Moved.{move_column}
use Rattle.descriptor.specs.Descriptor.{Complete}
use Rattle.descriptor.specs.Reading.{standard}
use Rattle.descriptor.specs.Exchange.{with_column, exchange}
use Rattle.descriptor.proofs.Kept.{at_below}
use Rattle.columns.specs.Cut.{coarse_column, same_ccsid, same_column, same_cut, cut_answer}
use Rattle.columns.specs.Finer.{coarse_cut, same_ccsids}
use Rattle.columns.proofs.Same.{same_whole, coarse_refl, ccsid_refl}
use Rattle.columns.proofs.Finer.{finer}
use Rattle.plan.specs.Description.{Description, description}
use Rattle.sqldard.specs.Exchanged.{new_column, later_column, Exchangeable, ReadExchanged}
use Rattle.sqldard.proofs.Exchange.{reading_exchanged, standard_wins, exchange_theorem}
use Rattle.readings.specs.Listed.{Listed}
use Rattle.readings.specs.Cut.{CutAfter}
use Rattle.readings.proofs.Lists.{standard_listed, reading_listed, listed_compared, same_cut_same_row}

-- ---- of `exchange`: x stands in c's place, and by the test f keeps each column

module _ (test : ColumnMetadata → ColumnMetadata → Bool) (self : (y : ColumnMetadata) → test y y ≡ true)
    (f : ColumnMetadata → ColumnMetadata) (keeps : (y : ColumnMetadata) → test y (f y) ≡ true) where
  map_alike : (l : List ColumnMetadata) → alike test l (map f l) ≡ true
  map_alike [] = refl
  map_alike (y ∷ ys) = rw (keeps y) (map_alike ys)

  exchange_alike : (k : ℕ) (x c : ColumnMetadata) (l : List ColumnMetadata) → get_elem? l k ≡ some c → alike test l (exchange k x f l) ≡ test c x
  unfolding exchange
  exchange_alike k x c [] e = absurd (let z : ◌≡◌ {A = ℕ} 0 1 = cc in omega arith)
  exchange_alike zero x c (y ∷ ys) e = let z : y ≡ c = cc e in rw (map_alike ys, z) (and-true (test c x))
  exchange_alike (suc k) x c (y ∷ ys) e = rw (self y) (exchange_alike k x c ys e)

-- only places of texts move
moved_coarse : (a b : ℕ) (c : ColumnMetadata) → coarse_column c (move_column a b c) ≡ true
unfolding move_column
moved_coarse a b c = same_whole c _ (record { code = refl; size = refl; precise = refl; scaled = refl; order = refl })

moved_ccsid : (a b : ℕ) (c : ColumnMetadata) → same_ccsid c (move_column a b c) ≡ true
unfolding move_column
moved_ccsid a b c = ccsid_refl c

-- ---- the reading, in either byte order

module _ (page : Page) (order : ByteOrder) (s : List ℕ) (k : ℕ) (d : List ℕ) (c : ColumnMetadata) (e : get_elem? (standard page order s) k ≡ some c) where
  abbrev old : List ColumnMetadata
  old = standard page order s

  abbrev new : ColumnMetadata
  new = new_column page order s k d

  module _ (l : List ColumnMetadata) (r : ReadExchanged page order s k d l) where
    coarse_after : coarse_cut old l ≡ coarse_column c new
    unfolding coarse_cut
    coarse_after =
        ap (alike coarse_column old) r.columns ∙ exchange_alike coarse_column coarse_refl (later_column order s k d) (moved_coarse _ _) k new c old e

    ccsids_after : same_ccsids old l ≡ same_ccsid c new
    unfolding same_ccsids
    ccsids_after = ap (alike same_ccsid old) r.columns ∙ exchange_alike same_ccsid ccsid_refl (later_column order s k d) (moved_ccsid _ _) k new c old e

    -- the rule before T-05 and the CCSIDs together
    same_after : same_cut old l ≡ same_column c new
    unfolding same_column
    same_after = (finer old l).exactly ∙ rw (coarse_after, ccsids_after) refl

    cut_after : Listed l → CutAfter page order s k d c l
    cut_after n =
        let t = listed_compared old l (standard_listed page order s) n in
        record {
          coarse = coarse_after;
          cut = same_after;
          coarse_row = λ x. t.coarse_rows (coarse_after ∙ x);
          row = λ x. t.rows (same_after ∙ x);
        }

  pub reading_same_cut : Complete order d → CutAfter page order s k d c (standard page order (with_column order s k d))
  reading_same_cut full =
      cut_after _ (reading_exchanged page order s k d (at_below (standard page order s) k c e) full _ refl)
      (standard_listed page order (with_column order s k d))

-- ---- the entry

module _ (page : Page) (room : ℕ) (s : List ℕ) (k : ℕ) (d : List ℕ) (x : Exchangeable page room s k d)
    (c : ColumnMetadata) (e : get_elem? (standard page BigEndian s) k ≡ some c) where
  pub exchange_same_cut : CutAfter page BigEndian s k d c (description page room (with_column BigEndian s k d)).columns
  exchange_same_cut =
      cut_after page BigEndian s k d c e _ (exchange_theorem page room s k d x).reads (reading_listed page room (with_column BigEndian s k d))

  -- where the old reply is accepted in its standard BE reading, this is what same cut answers of the two lists that were given
  pub exchange_answer : length s ≤ 65536 → has_names page s (standard page BigEndian s) ≡ true
      → cut_answer (description page room s).columns (description page room (with_column BigEndian s k d)).columns
      ≡ same_column c (new_column page BigEndian s k d)
  exchange_answer h n =
      let old = ap (λ (r : Description). r.columns) (standard_wins page room s n h x.enough) in
      (same_cut_same_row page page room room s (with_column BigEndian s k d)).answers
      ∙ ap (λ (l : List ColumnMetadata). same_cut l (description page room (with_column BigEndian s k d)).columns) old ∙ exchange_same_cut.cut
