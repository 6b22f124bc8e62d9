-- The reply up to the count of columns: another reply that begins with the same bytes has its count at the same place.
use mathlib.Core.Path.{◌≡◌, refl, sym}
use mathlib.Core.Bool.{Bool, true, false}
use mathlib.Core.List.{List}
use Prim.Native.Nat.{ℕ, ◌+◌, ◌≤◌, ◌<◌}
use native.Mathlib.Nat.{le_refl}
use native.Mathlib.Omega.{arith}
use lib.Dec.{leb, eqb}
use lib.ListN.{length, get_or}
use borrow.Author.Tests.{le-leb, lt-leb}
use Rattle.search.specs.Search.{pick}
use Rattle.field.specs.declared.ByteOrder.{ByteOrder}
use Rattle.strings.specs.Strings.{strings_end}
use Rattle.strings.proofs.Windows.{Window, same_here, strings_end_grows, strings_end_local, number_same}
use Rattle.sqlcard.specs.Group.{group_end}
use Rattle.sqlcard.specs.Sqldhgrp.{sqldhgrp_end}
use Rattle.sqlcard.proofs.Groups.{group_end_same}
use Rattle.descriptor.specs.Reading.{count_at, count_in}

dh_grows : (s : List ℕ) (p : ℕ) → p < sqldhgrp_end s p
unfolding sqldhgrp_end
dh_grows s p = go (eqb (get_or s p 0) 0xFF)
  where
    go : (b : Bool) → p < pick b (p + 1) (strings_end 3 s (p + 13))
    go true = omega arith
    go false = omega (arith, strings_end_grows 3 s (p + 13))

-- the count stands past the SQLCA group
pub count_past : (s : List ℕ) → group_end s ≤ count_at s
unfolding count_at
count_past s = go (leb (length s) (group_end s))
  where
    go : (b : Bool) → group_end s ≤ pick b (group_end s) (sqldhgrp_end s (group_end s))
    go true = le_refl (group_end s)
    go false = omega (arith, dh_grows s (group_end s))

-- where it stands, by the group's end g
module _ (s : List ℕ) (g : ℕ) where
  pub count_at_end : g ≡ group_end s → length s ≤ g → g ≡ count_at s
  unfolding count_at
  count_at_end e h = rw (← e, le-leb (length s) g h) refl

  pub count_at_past : (p : ℕ) → g ≡ group_end s → g < length s → p ≡ sqldhgrp_end s g → p ≡ count_at s
  unfolding count_at
  count_at_past p e h f = rw (← e, lt-leb (length s) g h) f

module _ (s s' : List ℕ) (n : ℕ) (w : Window s 0 s' 0 n) where
  dh_same : (p : ℕ) → sqldhgrp_end s p ≤ n → sqldhgrp_end s' p ≡ sqldhgrp_end s p
  unfolding sqldhgrp_end
  dh_same p = go (eqb (get_or s p 0) 0xFF) refl
    where
      go : (b : Bool) → eqb (get_or s p 0) 0xFF ≡ b → pick b (p + 1) (strings_end 3 s (p + 13)) ≤ n
          → pick (eqb (get_or s' p 0) 0xFF) (p + 1) (strings_end 3 s' (p + 13)) ≡ pick b (p + 1) (strings_end 3 s (p + 13))
      go true e h =
          let z : get_or s' p 0 ≡ get_or s p 0 = sym (w.bytes p p (same_here p) (omega arith)) in
          rw (z, e) refl
      go false e h =
          let i = strings_end_grows 3 s (p + 13) in
          let z : get_or s' p 0 ≡ get_or s p 0 = sym (w.bytes p p (same_here p) (omega arith)) in
          let j = strings_end_local s 0 s' 0 n w 3 (p + 13) (p + 13) (same_here (p + 13)) (omega arith) in
          rw (z, e) (omega arith)

  -- more of the reply stands in the window than its count's place: SQLDHGRP's flag is not missing in either
  pub count_at_same : count_at s < n → count_at s' ≡ count_at s
  unfolding count_at
  count_at_same h =
      let g : group_end s < n = omega (arith, count_past s) in
      let e : group_end s' ≡ group_end s = group_end_same s s' n w (omega arith) in
      let x : leb (length s) (group_end s) ≡ false = lt-leb (length s) (group_end s) (omega (arith, w.inside)) in
      let x' : leb (length s') (group_end s) ≡ false = lt-leb (length s') (group_end s) (omega (arith, w.inside')) in
      let y : pick (leb (length s) (group_end s)) (group_end s) (sqldhgrp_end s (group_end s)) ≡ sqldhgrp_end s (group_end s) = rw x refl in
      rw (e, x, x') (dh_same (group_end s) (omega arith))

  pub count_in_same : (order : ByteOrder) → count_at s + 2 ≤ n → count_in order s' ≡ count_in order s
  unfolding count_in
  count_in_same order h =
      rw (count_at_same (omega arith)) (sym (number_same s 0 s' 0 n w order 2 (count_at s) (count_at s) (same_here (count_at s)) (omega arith)))
