-- The numbers and warnings of the extension, read alone: what is there of them counts (DRDA V1: SQLCAXGRP; 01, Layouts: SQLCA).
use Rattle.std.specs.Prelude.{Bool, not, ◌&&◌, List, [], ◌∷◌, ℕ, zero, suc, ◌+◌, leb, eqb, ℤ, pos, negsuc, length, get_or, take, drop, replicate}
use Rattle.search.specs.Search.{pick}
use Rattle.field.specs.declared.ByteOrder.{ByteOrder}
use Rattle.field.specs.Numbers.{number, signed}
use Rattle.sqlca.specs.declared.Extension.{Extension}
use Rattle.sqlca.specs.Code.{numbers_order}

-- its flag, byte 18, is not FF, and 24 bytes or more are left behind it; else it counts as absent (01, Layouts: SQLCA read alone)
unfoldable pub is_extended : List ℕ → Bool
is_extended s = not (eqb (get_or s 18 0) 0xFF) && leb 43 (length s)

-- 35 bytes or more are left: with 24 to 34 the warnings are 0 and the strings follow the numbers (01, Layouts: SQLCA read alone)
abbrev pub has_warnings : List ℕ → Bool
has_warnings s = leb 54 (length s)

-- k signed numbers of four bytes, one after the other (DRDA V1, SQLCAXGRP: SQLERRD1 to SQLERRD6)
abbrev pub numbers_from : ℕ → ByteOrder → List ℕ → ℕ → List ℤ
numbers_from zero order s p = []
numbers_from (suc k) order s p = signed (number order 4 s p) ∷ numbers_from k order s (p + 4)

-- rows updated: the third number, 0 if negative (01, Answers)
abbrev pub rows_of : ℤ → ℕ
rows_of (pos n) = n
rows_of (negsuc n) = 0

-- the eleven warnings behind the numbers (DRDA V1, SQLCAXGRP: SQLWARN0 to SQLWARNA; 01, Layouts: the warnings are 0)
abbrev pub warnings_of : List ℕ → List ℕ
warnings_of s = pick (has_warnings s) (take 11 (drop 43 s)) (replicate 11 0)

-- an extension that is absent: all 0 (01, Answers: all else 0)
abbrev pub no_extension : Extension
no_extension = record { sqlerrd = replicate 6 (pos 0); rows_updated = 0; sqlwarn = replicate 11 0 }

-- the extension's numbers in a byte order, rows and warnings (DRDA V1: SQLCAXGRP)
abbrev pub extension_in : ByteOrder → List ℕ → Extension
extension_in order s = record {
  sqlerrd = numbers_from 6 order s 19;
  rows_updated = rows_of (signed (number order 4 s 27));
  sqlwarn = warnings_of s;
}

-- the extension of a reply read alone (01, Layouts: SQLCA)
unfoldable pub extension_of : List ℕ → Extension
extension_of s = pick (is_extended s) (extension_in (numbers_order s) s) no_extension
