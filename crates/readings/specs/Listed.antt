-- What users of lists lean on, of any list that a description entry gives; proved in proofs/Lists.antt.
-- A list that a caller makes up need not have it. Its types need not be those that its codes say, and then lists that make the same cut may
-- differ in their widest row: columns/proofs/Cases.antt computes two such. No entry asks for it: same cut goes by the code, widest row by the type.
use Rattle.std.specs.Prelude.{true, List, [], ◌∷◌, ◌≡◌, ◌≤◌, length}
use Rattle.types.specs.declared.ColumnMetadata.{ColumnMetadata}
use Rattle.columns.specs.Consistent.{Consistent}
use Rattle.columns.specs.Cut.{most_columns, same_cut, cut_refusal, cut_answer}
use Rattle.columns.specs.Finer.{coarse_cut}
use Rattle.columns.specs.Row.{large_refusal, row_refusal, row_answer}

-- one list: numbered in order, each code its type's; few enough for same cut and widest row (01, Answers; 01, Numbers of refusal)
pub record Listed (l : List ColumnMetadata) : Type 0 where
  pub consistent : Consistent l
  pub few : length l ≤ most_columns
  -- so widest row does not refuse it with 5
  pub row : row_refusal l ≡ large_refusal l

-- widest row says the same of both lists (01, Answers: widest row; 01, Numbers of refusal: widest row)
pub record SameRow (a b : List ColumnMetadata) : Type 0 where
  pub refusal : row_refusal a ≡ row_refusal b
  pub answer : row_answer a ≡ row_answer b

-- two lists: same cut does not refuse them; where the rule before T-05 says yes, widest row says the same of both, and so where same cut does
-- (01, Answers: same cut, widest row; 02, T-05)
pub record Compared (a b : List ColumnMetadata) : Type 0 where
  pub accepts : cut_refusal a b ≡ 0 ∷ []
  pub answers : cut_answer a b ≡ same_cut a b
  pub coarse_rows : coarse_cut a b ≡ true → SameRow a b
  pub rows : same_cut a b ≡ true → SameRow a b
