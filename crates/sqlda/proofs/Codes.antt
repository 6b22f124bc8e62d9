-- A type's code and value are those of a type, and of that one, where what it says fits.
use mathlib.Core.Path.{◌≡◌, refl, ap}
use mathlib.Core.Bool.{true}
use Prim.Native.Nat.{◌+◌, ◌*◌, ◌/◌, ◌%◌, ◌<◌}
use native.Mathlib.Omega.{arith}
use borrow.Author.Tests.{lt-ltb, eq-eqb}
use Rattle.types.specs.declared.Db2Type.{Db2Type}
use Rattle.sqlda.specs.Types.{code_of}
use Rattle.sqlda.specs.Codes.{value_of, type_with, is_type, TypeHeld}

pub type_back : (t : Db2Type) → TypeHeld t → type_with (code_of t) (value_of t) ≡ t
unfolding type_with
type_back Db2Type.SmallInt h = refl
type_back Db2Type.Integer h = refl
type_back Db2Type.BigInt h = refl
type_back Db2Type.Real h = refl
type_back Db2Type.Double h = refl
type_back (Db2Type.Decimal p s) h =
    let a : (p * 256 + s) / 256 ≡ p = omega (arith, h.1) in
    let b : (p * 256 + s) % 256 ≡ s = omega (arith, h.1) in
    rw (a, b) refl
type_back (Db2Type.DecFloat n) h = let a : n % 256 ≡ n = omega arith in ap Db2Type.DecFloat a
type_back (Db2Type.Char n) h = refl
type_back (Db2Type.VarChar n) h = refl
type_back Db2Type.Clob h = refl
type_back (Db2Type.Binary n) h = refl
type_back (Db2Type.VarBinary n) h = refl
type_back Db2Type.Blob h = refl
type_back Db2Type.Date h = refl
type_back Db2Type.Time h = refl
type_back Db2Type.Timestamp h = refl
type_back (Db2Type.Graphic n) h = refl
type_back (Db2Type.VarGraphic n) h = refl
type_back Db2Type.DbClob h = refl
type_back (Db2Type.RowId n) h = refl
type_back Db2Type.Boolean h = refl
type_back Db2Type.Xml h = refl

value_held : (t : Db2Type) → TypeHeld t → value_of t < 65536
value_held Db2Type.SmallInt h = omega arith
value_held Db2Type.Integer h = omega arith
value_held Db2Type.BigInt h = omega arith
value_held Db2Type.Real h = omega arith
value_held Db2Type.Double h = omega arith
value_held (Db2Type.Decimal p s) h = omega (arith, h.0, h.1)
value_held (Db2Type.DecFloat n) h = omega arith
value_held (Db2Type.Char n) h = h
value_held (Db2Type.VarChar n) h = h
value_held Db2Type.Clob h = omega arith
value_held (Db2Type.Binary n) h = h
value_held (Db2Type.VarBinary n) h = h
value_held Db2Type.Blob h = omega arith
value_held Db2Type.Date h = omega arith
value_held Db2Type.Time h = omega arith
value_held Db2Type.Timestamp h = omega arith
value_held (Db2Type.Graphic n) h = h
value_held (Db2Type.VarGraphic n) h = h
value_held Db2Type.DbClob h = omega arith
value_held (Db2Type.RowId n) h = h
value_held Db2Type.Boolean h = omega arith
value_held Db2Type.Xml h = omega arith

pub type_fits : (t : Db2Type) → TypeHeld t → is_type (code_of t) (value_of t) ≡ true
unfolding is_type
type_fits t h = rw (lt-ltb (value_of t) 65536 (value_held t h), type_back t h, eq-eqb (code_of t) (code_of t) refl, eq-eqb (value_of t) (value_of t) refl) refl
