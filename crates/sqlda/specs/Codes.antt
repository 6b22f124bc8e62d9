-- A type as two numbers, its code and what it says besides, and back (01, Types and lengths).
use Rattle.std.specs.Prelude.{Bool, ◌&&◌, List, [], ◌∷◌, ℕ, ◌+◌, ◌*◌, ◌/◌, ◌%◌, ◌<◌, eqb, ltb}
use Rattle.search.specs.Search.{first_in}
use Rattle.types.specs.declared.Db2Type.{Db2Type}
use Rattle.sqlda.specs.Types.{code_of}

-- what a type says besides its code: its length, its digits, or precision × 256 + scale; 0 where it says nothing (01, Types and lengths)
abbrev pub value_of : Db2Type → ℕ
value_of Db2Type.SmallInt = 0
value_of Db2Type.Integer = 0
value_of Db2Type.BigInt = 0
value_of Db2Type.Real = 0
value_of Db2Type.Double = 0
value_of (Db2Type.Decimal p s) = p * 256 + s
value_of (Db2Type.DecFloat n) = n
value_of (Db2Type.Char n) = n
value_of (Db2Type.VarChar n) = n
value_of Db2Type.Clob = 0
value_of (Db2Type.Binary n) = n
value_of (Db2Type.VarBinary n) = n
value_of Db2Type.Blob = 0
value_of Db2Type.Date = 0
value_of Db2Type.Time = 0
value_of Db2Type.Timestamp = 0
value_of (Db2Type.Graphic n) = n
value_of (Db2Type.VarGraphic n) = n
value_of Db2Type.DbClob = 0
value_of (Db2Type.RowId n) = n
value_of Db2Type.Boolean = 0
value_of Db2Type.Xml = 0

-- every type, with what the value v says of it: a length, digits, or precision × 256 + scale (01, Types and lengths)
abbrev pub types_with : ℕ → List Db2Type
types_with v =
    Db2Type.SmallInt ∷ Db2Type.Integer ∷ Db2Type.BigInt ∷ Db2Type.Real ∷ Db2Type.Double ∷ Db2Type.Decimal (v / 256) (v % 256) ∷ Db2Type.DecFloat (v % 256) ∷
    Db2Type.Char v ∷ Db2Type.VarChar v ∷ Db2Type.Clob ∷ Db2Type.Binary v ∷ Db2Type.VarBinary v ∷ Db2Type.Blob ∷ Db2Type.Date ∷ Db2Type.Time ∷
    Db2Type.Timestamp ∷ Db2Type.Graphic v ∷ Db2Type.VarGraphic v ∷ Db2Type.DbClob ∷ Db2Type.RowId v ∷ Db2Type.Boolean ∷ Db2Type.Xml ∷ []

-- the type that has this code, with what v says of it; Xml where there is none (01, Types and lengths: code)
unfoldable pub type_with : ℕ → ℕ → Db2Type
type_with code v = first_in (λ t. eqb code (code_of t)) (types_with v) Db2Type.Xml

-- a code and a value are those of a type: there is one that has just them (01, Types and lengths)
unfoldable pub is_type : ℕ → ℕ → Bool
is_type code v = ltb v 65536 && (eqb (code_of (type_with code v)) code && eqb (value_of (type_with code v)) v)

-- what a type says fits: 16 bits for a length, 8 for digits, precision and scale (01, Types and lengths)
abbrev pub TypeHeld : Db2Type → Type 0
TypeHeld Db2Type.SmallInt = Unit {0}
TypeHeld Db2Type.Integer = Unit {0}
TypeHeld Db2Type.BigInt = Unit {0}
TypeHeld Db2Type.Real = Unit {0}
TypeHeld Db2Type.Double = Unit {0}
TypeHeld (Db2Type.Decimal p s) = (p < 256) × (s < 256)
TypeHeld (Db2Type.DecFloat n) = n < 256
TypeHeld (Db2Type.Char n) = n < 65536
TypeHeld (Db2Type.VarChar n) = n < 65536
TypeHeld Db2Type.Clob = Unit {0}
TypeHeld (Db2Type.Binary n) = n < 65536
TypeHeld (Db2Type.VarBinary n) = n < 65536
TypeHeld Db2Type.Blob = Unit {0}
TypeHeld Db2Type.Date = Unit {0}
TypeHeld Db2Type.Time = Unit {0}
TypeHeld Db2Type.Timestamp = Unit {0}
TypeHeld (Db2Type.Graphic n) = n < 65536
TypeHeld (Db2Type.VarGraphic n) = n < 65536
TypeHeld Db2Type.DbClob = Unit {0}
TypeHeld (Db2Type.RowId n) = n < 65536
TypeHeld Db2Type.Boolean = Unit {0}
TypeHeld Db2Type.Xml = Unit {0}
