-- A loop that looks for the best of a sequence. t is the answer, and `t ≡ best better f i n x` the loop's invariant, x what is in hand.
use Prim.Native.Nat.{ℕ, zero, suc, ◌+◌, ◌-◌, ◌≤◌, ◌<◌}
use native.Mathlib.Numerals.{add-one}
use native.Mathlib.Omega.{arith}
use mathlib.Core.Path.{◌≡◌, refl, sym, ap, ◌∙◌}
use mathlib.Core.Bool.{Bool, true, false}
use Rattle.search.specs.Search.{pick}
use Rattle.search.specs.Walks.{keep, best_of, best}

module _ {X : Type 0} (better : X → X → Bool) (f : ℕ → X) (n i : ℕ) (x t : X) (e : t ≡ best better f i n x) where
  -- y is the new one, z what is in hand after it
  pub best_more : (y z : X) → i < n → y ≡ f i → z ≡ keep better x y → t ≡ best better f (i + 1) n z
  unfolding best best_of
  best_more y z h u v =
      let k : n - i ≡ suc (n - suc i) = omega arith in
      e ∙ ap (λ (j : ℕ). best_of better f j i x) k ∙ rw (add-one i, v, u) refl

  pub best_done : n ≤ i → x ≡ t
  unfolding best best_of
  best_done h =
      let k : n - i ≡ 0 = omega arith in
      sym (e ∙ ap (λ (j : ℕ). best_of better f j i x) k)

-- what holds of the one in hand and of each new one holds of the best
pub best_of_each : {X : Type 0} (P : X → Type 0) (better : X → X → Bool) (f : ℕ → X) (k i : ℕ) (x : X) → P x → ((j : ℕ) → P (f j)) → P (best_of better f k i x)
unfolding best_of keep
best_of_each P better f zero i x p q = p
best_of_each P better f (suc k) i x p q = best_of_each P better f k (suc i) (keep better x (f i)) (go (better (f i) x)) q
  where
    go : (b : Bool) → P (pick b (f i) x)
    go true = q i
    go false = p

pub best_all : {X : Type 0} (P : X → Type 0) (better : X → X → Bool) (f : ℕ → X) (i n : ℕ) (x : X) → P x → ((j : ℕ) → P (f j)) → P (best better f i n x)
unfolding best
best_all P better f i n x p q = best_of_each P better f (n - i) i x p q
