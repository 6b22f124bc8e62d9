-- No type is known below 384 or above 2437.
use Rattle.std.proofs.Common.{rules}
use Rattle.compact_table.proofs.Laws.{looks_outside}
use Rattle.compact_table.proofs.looks_like_start_within.Goals as goal

pub returns-then-not-contains : goal.returns-then-not-contains
returns-then-not-contains c = looks_outside _ _ c.read_sqldagrp-numbers.result.sql_type c.requires (search rules) (search rules)
