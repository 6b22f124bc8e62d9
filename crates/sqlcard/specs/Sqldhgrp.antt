-- SQLDHGRP, the group between the SQLCA and the columns (DRDA V1: SQLDHGRP; 01, Layouts).
use Rattle.std.specs.Prelude.{List, ℕ, ◌+◌, eqb, get_or}
use Rattle.search.specs.Search.{pick}
use Rattle.strings.specs.Strings.{strings_end}

-- past the group whose flag stands at p: 1 byte if that is FF, else 1 and 12 bytes and three strings (DRDA V1: SQLDHGRP; 01, Layouts)
unfoldable pub sqldhgrp_end : List ℕ → ℕ → ℕ
sqldhgrp_end s p = pick (eqb (get_or s p 0) 0xFF) (p + 1) (strings_end 3 s (p + 13))
