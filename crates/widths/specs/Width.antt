-- The bytes that a column can take in a row. They go by the length in the list, which is 65,535 where a reply says more.
use Rattle.std.specs.Prelude.{Bool, ◌||◌, ℕ, ◌+◌, ◌*◌, eqb}
use Rattle.search.specs.Search.{pick}
use Rattle.types.specs.declared.ColumnMetadata.{ColumnMetadata}
use Rattle.types.specs.declared.Db2Type.{Db2Type}
use Rattle.sqlda.specs.Types.{code_of}

-- two types are the same but for length, digits, precision and scale: their code is one (01, Types and lengths: code)
abbrev pub same_code : Db2Type → Db2Type → Bool
same_code t u = eqb (code_of t) (code_of u)

-- Blob, Clob, DbClob or Xml: a row with one has no widest (01, Numbers of refusal: widest row)
abbrev pub is_large : Db2Type → Bool
is_large t = same_code t Db2Type.Blob || (same_code t Db2Type.Clob || (same_code t Db2Type.DbClob || same_code t Db2Type.Xml))

-- VarChar, VarBinary, VarGraphic or RowId: two bytes of length stand before the value (01, Answers: widest row)
abbrev pub is_varying : Db2Type → Bool
is_varying t =
    same_code t (Db2Type.VarChar 0)
    || (same_code t (Db2Type.VarBinary 0) || (same_code t (Db2Type.VarGraphic 0) || same_code t (Db2Type.RowId 0)))

-- Graphic or VarGraphic: the length counts double-byte characters (02, T-02; IBM's SQLDA)
abbrev pub is_graphic : Db2Type → Bool
is_graphic t = same_code t (Db2Type.Graphic 0) || same_code t (Db2Type.VarGraphic 0)

-- the bytes of a column's value at most: twice its length for these two types (02, T-02)
unfoldable pub value_width : ColumnMetadata → ℕ
value_width c = pick (is_graphic c.db2_type) (2 * c.length) c.length

-- these, 1 more if nullable, 2 more for a varying type (01, Answers: widest row; 02, T-02)
unfoldable pub column_width : ColumnMetadata → ℕ
column_width c = value_width c + pick c.nullable 1 0 + pick (is_varying c.db2_type) 2 0
