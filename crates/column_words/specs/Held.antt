-- Records as a program can hold them: each field has its width (01, Answers: a record).
use Rattle.std.specs.Prelude.{List, [], ◌∷◌, ◌<◌}
use Rattle.types.specs.declared.ColumnMetadata.{ColumnMetadata}
use Rattle.sqlda.specs.Codes.{TypeHeld}

-- every field of a record has its width (01, Answers: a record)
pub record Held (c : ColumnMetadata) : Type 0 where
  pub number : c.number < 65536
  pub type : TypeHeld c.db2_type
  pub code : c.drda_type < 256
  pub length : c.length < 65536
  pub precision : c.precision < 256
  pub scale : c.scale < 256
  pub ccsid : c.ccsid < 65536
  pub name : c.name.alphabet < 256
  pub label : c.label.alphabet < 256
  pub base : c.base_table_name.alphabet < 256
  pub schema : c.schema_name.alphabet < 256

-- so have all records of a list (01, Answers: a record)
abbrev pub AllHeld : List ColumnMetadata → Type 0
AllHeld [] = Unit {0}
AllHeld (c ∷ l) = Held c × AllHeld l
