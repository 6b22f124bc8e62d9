-- A column's numbers: the record that they stand for is the column's.
use mathlib.Core.Path.{◌≡◌, refl}
use mathlib.Core.List.{List, ◌++◌}
use Prim.Native.Nat.{ℕ}
use Rattle.codepage.specs.Page.{Page}
use Rattle.field.specs.declared.ByteOrder.{ByteOrder}
use Rattle.field.specs.declared.ByteOrder.TheVariants.{BigEndian, LittleEndian}
use Rattle.column.specs.declared.Described.{Described}
use Rattle.column.specs.Column.{column_with}
use Rattle.column.specs.Numbers.{order_number, order_of, numbers_of, column_of}

pub order_back : (o : ByteOrder) → order_of (order_number o) ≡ o
order_back BigEndian = refl
order_back LittleEndian = refl

-- the one undoes the other
pub column_back : (page : Page) (s : List ℕ) (i : ℕ) (d : Described) (rest : List ℕ)
    → column_of (numbers_of page s i d ++ rest) ≡ column_with page s i d
unfolding numbers_of column_of column_with
column_back page s i d rest = rw (order_back d.byte_order) refl
