-- What is past a descriptor does not lie before it.
use mathlib.Core.Bool.{Bool, true, false}
use mathlib.Core.List.{List}
use mathlib.Core.Path.{◌≡◌, refl}
use Prim.Native.Nat.{ℕ, suc, ◌+◌, ◌≤◌}
use native.Mathlib.Nat.{le_refl, le_trans}
use native.Mathlib.Omega.{arith}
use lib.Dec.{ltb, leb, eqb}
use lib.ListN.{length, get_or}
use borrow.Author.Tests.{ltb-false}
use Rattle.search.specs.Search.{pick}
use Rattle.field.specs.declared.ByteOrder.{ByteOrder}
use Rattle.field.specs.Numbers.{number}
use Rattle.strings.specs.Strings.{strings_end}
use Rattle.strings.proofs.Windows.{strings_end_grows}
use Rattle.sqlda.specs.Types.{is_known}
use Rattle.descriptor.specs.Nullable.{Flags, lenient, strict, missing, nullable_end}
use Rattle.descriptor.specs.Descriptor.{udt_end, dx_end, dx_start, opt_end, descriptor_end}

missing_grows : (flags : Flags) (p : ℕ) → p ≤ missing flags p
missing_grows lenient p = le_refl p
missing_grows strict p = omega arith

pub nullable_end_grows : (flags : Flags) (f : List ℕ → ℕ → ℕ) (s : List ℕ) → ((q : ℕ) → q ≤ f s q) → (p : ℕ) → p ≤ nullable_end flags f s p
unfolding nullable_end
nullable_end_grows flags f s g p = go (leb (length s) p) (eqb (get_or s p 0) 0xFF)
  where
    go : (a b : Bool) → p ≤ pick a (missing flags p) (pick b (p + 1) (f s (p + 1)))
    go true b = missing_grows flags p
    go false true = omega arith
    go false false = omega (arith, g (p + 1))

pub udt_end_grows : (s : List ℕ) (p : ℕ) → p ≤ udt_end s p
unfolding udt_end
udt_end_grows s p = omega (arith, strings_end_grows 5 s (p + 4))

pub dx_end_grows : (s : List ℕ) (p : ℕ) → p ≤ dx_end s p
unfolding dx_end
dx_end_grows s p = omega (arith, strings_end_grows 9 s (p + 8))

pub dx_start_grows : (flags : Flags) (s : List ℕ) (p : ℕ) → p ≤ dx_start flags s p
unfolding dx_start
dx_start_grows flags s p =
    omega (arith, strings_end_grows 6 s (p + 2), nullable_end_grows flags udt_end s (udt_end_grows s) (strings_end 6 s (p + 2)))

pub opt_end_grows : (flags : Flags) (s : List ℕ) (p : ℕ) → p ≤ opt_end flags s p
unfolding opt_end
opt_end_grows flags s p =
    le_trans (dx_start_grows flags s p) (nullable_end_grows flags dx_end s (dx_end_grows s) (dx_start flags s p))

-- a descriptor has its 16 bytes
pub descriptor_end_grows : (flags : Flags) (order : ByteOrder) (s : List ℕ) (p : ℕ) → p + 16 ≤ descriptor_end flags order s p
unfolding descriptor_end
descriptor_end_grows flags order s p = go (ltb (length s) (p + 16)) refl (is_known (number order 2 s (p + 12)))
  where
    go : (t : Bool) → ltb (length s) (p + 16) ≡ t → (u : Bool)
        → p + 16 ≤ pick t (p + 16) (pick u (nullable_end flags (opt_end flags) s (p + 16)) (suc (length s)))
    go true e u = le_refl (p + 16)
    go false e true = nullable_end_grows flags (opt_end flags) s (opt_end_grows flags s) (p + 16)
    go false e false = omega (arith, ltb-false (length s) (p + 16) e)
