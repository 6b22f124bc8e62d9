-- The name scan's answer by its cases.
use mathlib.Core.Path.{◌≡◌, refl}
use mathlib.Core.List.{List, [], ◌∷◌}
use Prim.Native.Nat.{ℕ, ◌≤◌, ◌<◌}
use native.Mathlib.Omega.{arith}
use lib.ListN.{length}
use borrow.Author.Tests.{lt-ltb, le-ltb}
use Rattle.codepage.specs.Page.{Page}
use Rattle.names.specs.Names.{column_names, refused_with, name_scan}

module _ (page : Page) (room : ℕ) (s : List ℕ) where
  pub too_long : 65536 < length s → name_scan page room s ≡ refused_with (5 ∷ [])
  unfolding name_scan
  too_long h = rw (lt-ltb 65536 (length s) h) refl

  module _ (h : length s ≤ 65536) (n : ℕ) (e : n ≡ length (column_names page s)) where
    pub too_short : room < n → name_scan page room s ≡ refused_with (6 ∷ n ∷ [])
    unfolding name_scan
    too_short k = rw (le-ltb 65536 (length s) h, lt-ltb room (length (column_names page s)) (omega (arith, k, e)), e) refl

    pub in_room : n ≤ room → name_scan page room s ≡ record { refusal = 0 ∷ []; names = column_names page s }
    unfolding name_scan
    in_room k = rw (le-ltb 65536 (length s) h, le-ltb room (length (column_names page s)) (omega (arith, k, e))) refl
