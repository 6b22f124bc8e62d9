-- Same cut and widest row of lists in words (01, Answers: same cut, widest row).
use Rattle.std.specs.Prelude.{◌≡◌, Bool, true, false, ◌&&◌, ◌||◌, List, [], ◌∷◌, ℕ, ltb, length}
use Rattle.search.specs.Search.{pick}
use Rattle.columns.specs.Cut.{most_columns, cut_refusal, cut_answer}
use Rattle.columns.specs.Finer.{coarse_answer}
use Rattle.columns.specs.Row.{row_refusal, row_answer}
use Rattle.column_words.specs.Columns.{columns_in, are_columns}

-- words that stand for no list of columns: a number of the library alone, as no caller in Rattle can lend such a list (DECISIONS, Forms 31)
abbrev pub no_columns : List ℕ
no_columns = 255 ∷ []

-- 5 if either list is over 4,095 records, then 255, else as the lists are refused (01, Numbers of refusal: same cut; of 255, DECISIONS, Forms 31)
unfoldable pub words_cut_refusal : List ℕ → List ℕ → List ℕ
words_cut_refusal a b =
    pick (ltb most_columns (length (columns_in a)) || ltb most_columns (length (columns_in b))) (5 ∷ [])
    (pick (are_columns a && are_columns b) (cut_refusal (columns_in a) (columns_in b)) no_columns)

-- as the lists are answered (01, Answers: same cut); no, where the words stand for none (DECISIONS, Forms 12)
unfoldable pub words_cut_answer : List ℕ → List ℕ → Bool
words_cut_answer a b = pick (are_columns a && are_columns b) (cut_answer (columns_in a) (columns_in b)) false

-- where this is yes, the rule before T-05 says yes of the lists that the words stand for (02, T-05: the finer one implies the coarser)
pub record WordsFiner (a b : List ℕ) : Type 0 where
  pub implies : words_cut_answer a b ≡ true → coarse_answer (columns_in a) (columns_in b) ≡ true

-- 5 over 4,095 records, then 255, else as the list is refused (01, Numbers of refusal: widest row; of 255, DECISIONS, Forms 31)
unfoldable pub words_row_refusal : List ℕ → List ℕ
words_row_refusal w =
    pick (ltb most_columns (length (columns_in w))) (5 ∷ []) (pick (are_columns w) (row_refusal (columns_in w)) no_columns)

-- as the list is answered (01, Answers: widest row); 0 where the words stand for none (DECISIONS, Forms 12)
unfoldable pub words_row_answer : List ℕ → ℕ
words_row_answer w = pick (are_columns w) (row_answer (columns_in w)) 0
