-- The numbers at the start of a descriptor.
use Rattle.std.specs.Prelude.{List, ℕ, ◌+◌, ◌%◌}
use Rattle.field.specs.declared.ByteOrder.{ByteOrder}
use Rattle.field.specs.Numbers.{number}
use Rattle.column.specs.declared.Sqldagrp.{Sqldagrp}

-- the numbers of the SQLDAGRP at p (DRDA V1: SQLDAGRP; 01, Layouts: precision 2, scale 2, length 8, SQLTYPE 2, CCSID 2; 01, Types: low 8 bits)
abbrev pub sqldagrp_at : ByteOrder → List ℕ → ℕ → Sqldagrp
sqldagrp_at order s p = record {
  precision = number order 2 s p % 256;
  scale = number order 2 s (p + 2) % 256;
  raw_length = number order 8 s (p + 4);
  sql_type = number order 2 s (p + 12);
  ccsid = number order 2 s (p + 14);
}
