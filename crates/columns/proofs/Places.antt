-- Lists of equal length are alike where they are at each place.
use mathlib.Core.Path.{◌≡◌, refl}
use mathlib.Core.Bool.{Bool}
use mathlib.Core.List.{List, []}
use Prim.Native.Nat.{ℕ, zero, suc, ◌+◌}
use native.Mathlib.Omega.{arith}
use lib.ListN.{length, get_or, drop, drop_of_length-le}
use Rattle.std.specs.List.{list_all, range_with_len}
use Rattle.search.specs.Search.{alike}
use Rattle.search.proofs.Each.{drop_next}

module _ {A : Type 0} (f : A → A → Bool) (xs ys : List A) (d : A) where
  from : (n i : ℕ) → i + n ≡ length xs → i + n ≡ length ys
      → list_all (λ (k : ℕ). f (get_or xs k d) (get_or ys k d)) (range_with_len i n) ≡ alike f (drop i xs) (drop i ys)
  from zero i h k =
      let e : drop i xs ≡ [] = drop_of_length-le xs (omega arith) in
      let g : drop i ys ≡ [] = drop_of_length-le ys (omega arith) in
      rw (e, g) refl
  from (suc n) i h k =
      rw (drop_next xs i d (omega arith), drop_next ys i d (omega arith), from n (i + 1) (omega arith) (omega arith)) refl

  pub alike_places : length xs ≡ length ys
      → list_all (λ (k : ℕ). f (get_or xs k d) (get_or ys k d)) (range_with_len 0 (length xs)) ≡ alike f xs ys
  alike_places e = from (length xs) 0 (omega arith) (omega arith)
