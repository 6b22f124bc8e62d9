-- The standard reading of a whole reply: the SQLCA group, SQLDHGRP, SQLNUMROW, and that many SQLDAROW (DRDA V1: SQLDARD; 01, Layouts).
use Rattle.std.specs.Prelude.{Bool, ◌&&◌, List, [], ◌∷◌, ℕ, zero, suc, ◌+◌, leb, length}
use Rattle.search.specs.Search.{pick}
use Rattle.codepage.specs.Page.{Page}
use Rattle.field.specs.declared.ByteOrder.{ByteOrder}
use Rattle.field.specs.Numbers.{number}
use Rattle.sqlcard.specs.Group.{group_end}
use Rattle.sqlcard.specs.Sqldhgrp.{sqldhgrp_end}
use Rattle.types.specs.declared.ColumnMetadata.{ColumnMetadata}
use Rattle.descriptor.specs.Nullable.{lenient}
use Rattle.descriptor.specs.Descriptor.{descriptor_end, column_at}

-- where SQLNUMROW is due: past the SQLCA group and SQLDHGRP, whose flag may be missing at the reply's end (DRDA V1: SQLDARD; 01, Layouts)
unfoldable pub count_at : List ℕ → ℕ
count_at s = pick (leb (length s) (group_end s)) (group_end s) (sqldhgrp_end s (group_end s))

-- the count of columns (DRDA V1: SQLNUM; 01, Layouts: a 16-bit count)
unfoldable pub count_in : ByteOrder → List ℕ → ℕ
count_in order s = number order 2 s (count_at s)

-- past k descriptors from p on (DRDA V1: SQLDAROW)
unfoldable pub descriptors_end : ByteOrder → ℕ → List ℕ → ℕ → ℕ
descriptors_end order zero s p = p
descriptors_end order (suc k) s p = descriptors_end order k s (descriptor_end lenient order s p)

-- where the description of column k starts: its bytes end where that of column k + 1 would start (01, What each entry owes (e))
unfoldable pub start_of : ByteOrder → List ℕ → ℕ → ℕ
start_of order s k = descriptors_end order k s (count_at s + 2)

-- the reading gives columns: the group, SQLDHGRP, a count of at least 1, at most 512, and that many descriptors can all be read (01, What each entry owes (e))
unfoldable pub gives : ByteOrder → List ℕ → Bool
gives order s =
    leb (count_at s + 2) (length s)
    && (leb 1 (count_in order s) && (leb (count_in order s) 512 && leb (start_of order s (count_in order s)) (length s)))

-- what v finds at each of k descriptors from p on, the first of them under number i (01, Layouts: standard descriptor)
unfoldable pub views : {A : Type 0} → (ℕ → List ℕ → ℕ → A) → ByteOrder → ℕ → ℕ → List ℕ → ℕ → List A
views v order i zero s p = []
views v order i (suc k) s p = v i s p ∷ views v order (suc i) k s (descriptor_end lenient order s p)

-- what v finds at each descriptor of the reading, nothing where it gives no columns (01, Layouts)
unfoldable pub over_columns : {A : Type 0} → (ℕ → List ℕ → ℕ → A) → ByteOrder → List ℕ → List A
over_columns v order s = pick (gives order s) (views v order 0 (count_in order s) s (count_at s + 2)) []

-- the columns of the standard reading, none where it gives none (01, Choice: standard BE, standard LE)
unfoldable pub standard : Page → ByteOrder → List ℕ → List ColumnMetadata
standard page order s = over_columns (column_at page order) order s
