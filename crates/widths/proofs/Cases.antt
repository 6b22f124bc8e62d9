-- Over all types, whatever their values: which are large, which varying, which graphic. Computed.
use mathlib.Core.Path.{◌≡◌, refl}
use mathlib.Core.Bool.{Bool}
use mathlib.Core.List.{List, [], ◌∷◌}
use Prim.Native.Nat.{ℕ}
use Rattle.search.specs.Search.{front}
use Rattle.types.specs.declared.Db2Type.{Db2Type}
use Rattle.sqlda.specs.Codes.{types_with}
use Rattle.widths.specs.Width.{is_large, is_varying, is_graphic}

-- the types of which the test holds
abbrev those : (Db2Type → Bool) → List Db2Type → List Db2Type
those f [] = []
those f (t ∷ l) = front (f t) t (those f l)

pub large_are : (v : ℕ) → those is_large (types_with v) ≡ Db2Type.Clob ∷ Db2Type.Blob ∷ Db2Type.DbClob ∷ Db2Type.Xml ∷ []
large_are v = refl

pub varying_are : (v : ℕ) → those is_varying (types_with v) ≡ Db2Type.VarChar v ∷ Db2Type.VarBinary v ∷ Db2Type.VarGraphic v ∷ Db2Type.RowId v ∷ []
varying_are v = refl

pub graphic_are : (v : ℕ) → those is_graphic (types_with v) ≡ Db2Type.Graphic v ∷ Db2Type.VarGraphic v ∷ []
graphic_are v = refl
