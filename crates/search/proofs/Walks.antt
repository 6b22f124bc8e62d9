-- The loop of a walk, for any walk: how many steps it makes, and at how many of them f holds. `Walking` is the loop's invariant: i steps are
-- made, f held at m of them, and p is the position.
use Prim.Native.Nat.{ℕ, zero, suc, ◌+◌, ◌-◌, ◌≤◌, ◌<◌}
use native.Mathlib.Numerals.{add-one}
use native.Mathlib.Omega.{arith}
use native.Mathlib.Nat.{le_refl}
use mathlib.Core.Path.{◌≡◌, refl, ap, ◌∙◌}
use mathlib.Core.List.{[], ◌∷◌}
use mathlib.Core.Bool.{Bool, true, false}
use lib.ListN.{length}
use Rattle.search.specs.Search.{pick, count}
use Rattle.search.specs.Walks.{Walk, chain, tested}

pub record Walking {A : Type 0} (w : Walk A) (f : A → Bool) (n p₀ i m p : ℕ) : Type 0 where
  pub below : i ≤ n
  pub few : m ≤ i
  pub steps : length (chain w n 0 p₀) ≡ i + length (chain w (n - i) i p)
  pub holds : count f (chain w n 0 p₀) ≡ m + count f (chain w (n - i) i p)

pub chain_le : {A : Type 0} (w : Walk A) (k i p : ℕ) → length (chain w k i p) ≤ k
unfolding chain
chain_le w zero i p = le_refl 0
chain_le w (suc k) i p = go (w.reads p (w.end k p)) (chain_le w k (suc i) (w.end k p))
  where
    go : (b : Bool) → length (chain w k (suc i) (w.end k p)) ≤ k
        → length (pick b (w.view i p (w.end k p) ∷ chain w k (suc i) (w.end k p)) []) ≤ suc k
    go true h = omega arith
    go false h = omega arith

module _ {A : Type 0} (w : Walk A) (f : A → Bool) (n p₀ : ℕ) where
  pub walking_none : Walking w f n p₀ 0 0 p₀
  walking_none =
      let e : n ≡ n - 0 = omega arith in
      record {
        below = omega arith;
        few = omega arith;
        steps = let z = ap (λ (k : ℕ). length (chain w k 0 p₀)) e in omega arith;
        holds = let z = ap (λ (k : ℕ). count f (chain w k 0 p₀)) e in omega arith;
      }

  module _ (i m p : ℕ) (t : Walking w f n p₀ i m p) where
    turn : i < n → chain w (n - i) i p
        ≡ pick (w.reads p (w.end (n - (i + 1)) p)) (w.view i p (w.end (n - (i + 1)) p) ∷ chain w (n - (i + 1)) (i + 1) (w.end (n - (i + 1)) p)) []
    unfolding chain
    turn h =
        let k : n - i ≡ suc (n - (i + 1)) = omega arith in
        ap (λ (j : ℕ). chain w j i p) k ∙ rw (add-one i) refl

    -- one step more: q is its end, x what is found there, b whether f holds of it, m' the new count
    pub walking_more : (q m' : ℕ) (b : Bool) → i < n → q ≡ w.end (n - (i + 1)) p → w.reads p q ≡ true → b ≡ f (w.view i p q) → m' ≡ m + pick b 1 0
        → Walking w f n p₀ (i + 1) m' q
    walking_more q m' b h e g u v =
        let z : chain w (n - i) i p ≡ w.view i p q ∷ chain w (n - (i + 1)) (i + 1) q =
        turn h ∙ rw (← e, g) refl in
        let y = ap (count f) z in
        let x = ap length z in
        let o : count f (w.view i p q ∷ chain w (n - (i + 1)) (i + 1) q) ≡ pick b 1 0 + count f (chain w (n - (i + 1)) (i + 1) q) = rw u refl in
        record {
          below = omega arith;
          few = let c : pick b 1 0 ≤ 1 = one b in omega (arith, t.few);
          steps = omega (arith, t.steps);
          holds = omega (arith, t.holds);
        }
      where
        one : (b : Bool) → pick b 1 0 ≤ 1
        one true = omega arith
        one false = omega arith

    over : chain w (n - i) i p ≡ [] → (i ≡ length (chain w n 0 p₀)) × (m ≡ count f (chain w n 0 p₀))
    over z =
        let y = ap (count f) z in
        let x = ap length z in
        (omega (arith, t.steps), omega (arith, t.holds))

    -- no further step: it cannot be made, or n are made
    pub walking_stop : (q : ℕ) → i < n → q ≡ w.end (n - (i + 1)) p → w.reads p q ≡ false → (i ≡ length (chain w n 0 p₀)) × (m ≡ count f (chain w n 0 p₀))
    walking_stop q h e g = over (turn h ∙ rw (← e, g) refl)

    pub walking_done : n ≤ i → (i ≡ length (chain w n 0 p₀)) × (m ≡ count f (chain w n 0 p₀))
    unfolding chain
    walking_done h =
        let k : n - i ≡ 0 = omega arith in
        over (ap (λ (j : ℕ). chain w j i p) k)

-- it has as many steps, and f holds at as many of them
pub tested_counts : {A : Type 0} (f : A → Bool) (w : Walk A) (k i p : ℕ)
    → (length (chain (tested f w) k i p) ≡ length (chain w k i p)) × (count (λ b. b) (chain (tested f w) k i p) ≡ count f (chain w k i p))
unfolding chain
tested_counts f w zero i p = (refl, refl)
tested_counts f w (suc k) i p = go (w.reads p (w.end k p)) refl (tested_counts f w k (suc i) (w.end k p))
  where
    go : (b : Bool) → w.reads p (w.end k p) ≡ b
        → (length (chain (tested f w) k (suc i) (w.end k p)) ≡ length (chain w k (suc i) (w.end k p)))
        × (count (λ b. b) (chain (tested f w) k (suc i) (w.end k p)) ≡ count f (chain w k (suc i) (w.end k p)))
        → (length (chain (tested f w) (suc k) i p) ≡ length (chain w (suc k) i p))
        × (count (λ b. b) (chain (tested f w) (suc k) i p) ≡ count f (chain w (suc k) i p))
    go true e h = rw e (ap suc h.0, ap (λ n. pick (f (w.view i p (w.end k p))) 1 0 + n) h.1)
    go false e h = rw e (refl, refl)
