-- What a position within the reply says of a descriptor: which case each nullable group is, and that the 16 bytes with a known type are there.
use mathlib.Core.Path.{◌≡◌, refl}
use mathlib.Core.Bool.{Bool, true, false}
use mathlib.Core.List.{List}
use Prim.Native.Nat.{ℕ, ◌+◌, ◌≤◌, ◌<◌}
use lib.Dec.{leb, eqb}
use lib.ListN.{length, get_or}
use borrow.Author.Tests.{leb-true, leb-false, eqb-true, eqb-false}
use Rattle.field.specs.declared.ByteOrder.{ByteOrder}
use Rattle.field.specs.Numbers.{number}
use Rattle.sqlda.specs.Types.{is_known}
use Rattle.descriptor.specs.Nullable.{Flags, missing, nullable_end}
use Rattle.descriptor.specs.Descriptor.{opt_end, descriptor_end}
use Rattle.descriptor.proofs.Flags.{nullable_end_missing, nullable_end_null, nullable_end_held}
use Rattle.descriptor.proofs.Steps.{descriptor_room, descriptor_type, descriptor_end_inside}

-- ---- a nullable group: its flag is missing, is FF, or heads what the group holds

pub data GroupIs (flags : Flags) (f : List ℕ → ℕ → ℕ) (s : List ℕ) (p : ℕ) : Type 0 where
  gone : length s ≤ p → nullable_end flags f s p ≡ missing flags p → GroupIs flags f s p
  null : p < length s → get_or s p 0 ≡ 0xFF → nullable_end flags f s p ≡ p + 1 → GroupIs flags f s p
  held : p < length s → (get_or s p 0 ≡ 0xFF → ⊥) → nullable_end flags f s p ≡ f s (p + 1) → GroupIs flags f s p

pub group_is : (flags : Flags) (f : List ℕ → ℕ → ℕ) (s : List ℕ) (p : ℕ) → GroupIs flags f s p
group_is flags f s p = go (leb (length s) p) refl (eqb (get_or s p 0) 0xFF) refl
  where
    go : (t : Bool) → leb (length s) p ≡ t → (u : Bool) → eqb (get_or s p 0) 0xFF ≡ u → GroupIs flags f s p
    go true e u e' = let h = leb-true (length s) p e in gone h (nullable_end_missing flags f s p h)
    go false e true e' =
        let h = leb-false (length s) p e in
        let k = eqb-true (get_or s p 0) 0xFF e' in
        null h k (nullable_end_null flags f s p h k)
    go false e false e' =
        let h = leb-false (length s) p e in
        let k = eqb-false (get_or s p 0) 0xFF e' in
        held h k (nullable_end_held flags f s p h k)

-- ---- a descriptor that can be read: 16 bytes with a known type, and the optional group behind them

pub descriptor_in : (flags : Flags) (order : ByteOrder) (s : List ℕ) (p : ℕ) → descriptor_end flags order s p ≤ length s
    → (p + 16 ≤ length s) × (is_known (number order 2 s (p + 12)) ≡ true) × (descriptor_end flags order s p ≡ nullable_end flags (opt_end flags) s (p + 16))
descriptor_in flags order s p h = (descriptor_room flags order s p h, descriptor_type flags order s p h, descriptor_end_inside flags order s p h)
