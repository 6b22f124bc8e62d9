-- What an exchange of one column's description does to the cut; proved in proofs/Exchange.antt.
use Rattle.std.specs.Prelude.{true, List, ◌≡◌, ℕ}
use Rattle.codepage.specs.Page.{Page}
use Rattle.field.specs.declared.ByteOrder.{ByteOrder}
use Rattle.types.specs.declared.ColumnMetadata.{ColumnMetadata}
use Rattle.descriptor.specs.Reading.{standard}
use Rattle.columns.specs.Cut.{coarse_column, same_column, same_cut}
use Rattle.columns.specs.Finer.{coarse_cut}
use Rattle.sqldard.specs.Exchanged.{new_column}
use Rattle.readings.specs.Listed.{SameRow}

-- c was column k, d is its new description, and l the new list: rows are cut as before exactly where column k is, by the rule before T-05 and so by
-- same cut, which adds the CCSIDs (01, What each entry owes (e); 01, Answers: same cut; 02, T-05)
pub record CutAfter (page : Page) (order : ByteOrder) (s : List ℕ) (k : ℕ) (d : List ℕ) (c : ColumnMetadata) (l : List ColumnMetadata) : Type 0 where
  pub coarse : coarse_cut (standard page order s) l ≡ coarse_column c (new_column page order s k d)
  pub cut : same_cut (standard page order s) l ≡ same_column c (new_column page order s k d)
  -- and then the widest row is as before
  pub coarse_row : coarse_column c (new_column page order s k d) ≡ true → SameRow (standard page order s) l
  pub row : same_column c (new_column page order s k d) ≡ true → SameRow (standard page order s) l
