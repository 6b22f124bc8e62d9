-- Same cut: two lists of columns by which rows are cut alike, and their characters read alike (01, Answers: same cut; 02, T-05).
use Rattle.std.specs.Prelude.{Bool, false, ◌&&◌, ◌||◌, List, [], ◌∷◌, ℕ, eqb, ltb, length}
use Rattle.search.specs.Search.{pick, alike}
use Rattle.outcome.specs.Refusal.{is_refused}
use Rattle.types.specs.declared.ColumnMetadata.{ColumnMetadata}
use Rattle.column.specs.Numbers.{order_number}

-- so many records at most (01, Numbers of refusal: same cut, widest row)
abbrev pub most_columns : ℕ
most_columns = 4095

-- equal drda_type, length, precision, scale and byte order (01, Answers: same cut; 02, T-05: the rule so far)
unfoldable pub coarse_column : ColumnMetadata → ColumnMetadata → Bool
coarse_column c d =
    eqb c.drda_type d.drda_type
    && (eqb c.length d.length
    && (eqb c.precision d.precision
    && (eqb c.scale d.scale && eqb (order_number c.byte_order) (order_number d.byte_order))))

-- equal CCSIDs (02, T-05)
abbrev pub same_ccsid : ColumnMetadata → ColumnMetadata → Bool
same_ccsid c d = eqb c.ccsid d.ccsid

-- alike by the rule so far, and equal CCSIDs (02, T-05: same cut)
unfoldable pub same_column : ColumnMetadata → ColumnMetadata → Bool
same_column c d = coarse_column c d && same_ccsid c d

-- equal count, and so column by column (01, Answers: same cut; 02, T-05)
unfoldable pub same_cut : List ColumnMetadata → List ColumnMetadata → Bool
same_cut a b = alike same_column a b

-- 5 if either list is over 4,095 records, else 0 (01, Numbers of refusal: same cut)
unfoldable pub cut_refusal : List ColumnMetadata → List ColumnMetadata → List ℕ
cut_refusal a b = pick (ltb most_columns (length a) || ltb most_columns (length b)) (5 ∷ []) (0 ∷ [])

-- what the entry answers (01, Answers: same cut; 02, T-05); no, where it is refused (DECISIONS, Forms 12)
unfoldable pub cut_answer : List ColumnMetadata → List ColumnMetadata → Bool
cut_answer a b = pick (is_refused (cut_refusal a b)) false (same_cut a b)
