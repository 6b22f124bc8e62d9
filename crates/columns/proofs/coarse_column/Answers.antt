-- The five comparisons are the definition's, byte orders as their numbers.
use Rattle.std.proofs.Common.{◌≡◌, refl, eqb, ◌∙◌}
use Rattle.std.proofs.Math.Bool.{and_assoc}
use Rattle.field.specs.declared.ByteOrder.{ByteOrder}
use Rattle.field.specs.declared.ByteOrder.TheVariants.{BigEndian, LittleEndian}
use Rattle.field.specs.contracts.ByteOrder.{the_type}
use Rattle.column.specs.Numbers.{order_number}
use Rattle.columns.specs.Cut.{coarse_column}
use Rattle.columns.proofs.coarse_column.Goals as goal

orders : (o p : ByteOrder) → denote.Enum.Bare.sameb the_type o p ≡ eqb (order_number o) (order_number p)
orders BigEndian BigEndian = refl
orders BigEndian LittleEndian = refl
orders LittleEndian BigEndian = refl
orders LittleEndian LittleEndian = refl

pub returns : goal.returns
unfolding coarse_column
returns c = rw (c.eq.ensures ∙ orders _ _) (simp and_assoc)
