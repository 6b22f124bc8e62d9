-- Searches over positions: the first index that passes a test, the best of a sequence, and walks from one position to the next.
-- No document defines them; each is its own source.
use Rattle.std.specs.Prelude.{ℕ, zero, suc, ◌-◌, List, [], ◌∷◌, Bool}
use Rattle.search.specs.Search.{pick}

-- the first of the k indices from i on that passes the test; i + k if none does
unfoldable pub first_of : (ℕ → Bool) → ℕ → ℕ → ℕ
first_of f zero i = i
first_of f (suc k) i = pick (f i) i (first_of f k (suc i))

-- the first index from i on and below n that passes the test; n if none does
unfoldable pub first : (ℕ → Bool) → ℕ → ℕ → ℕ
first f i n = first_of f (n - i) i

-- what is in hand, unless the new one is better
unfoldable pub keep : {X : Type 0} → (X → X → Bool) → X → X → X
keep better x y = pick (better y x) y x

-- the best of x and f at k indices from i on, the earliest of equals
unfoldable pub best_of : {X : Type 0} → (X → X → Bool) → (ℕ → X) → ℕ → ℕ → X → X
best_of better f zero i x = x
best_of better f (suc k) i x = best_of better f k (suc i) (keep better x (f i))

-- the best of x and f at each index from i on and below n
unfoldable pub best : {X : Type 0} → (X → X → Bool) → (ℕ → X) → ℕ → ℕ → X → X
best better f i n x = best_of better f (n - i) i x

-- a walk: where what stands at a position ends, if k more are to come after it; whether it can be read, by its position and its end; and what
-- it is, under a number
pub record Walk (A : Type 0) : Type 0 where
  pub end : ℕ → ℕ → ℕ
  pub reads : ℕ → ℕ → Bool
  pub view : ℕ → ℕ → ℕ → A

-- what is found by at most k steps from p on, as long as they can be made, the first of them under number i
unfoldable pub chain : {A : Type 0} → Walk A → ℕ → ℕ → ℕ → List A
chain w zero i p = []
chain w (suc k) i p = pick (w.reads p (w.end k p)) (w.view i p (w.end k p) ∷ chain w k (suc i) (w.end k p)) []

-- a walk that sees at each position whether f holds of what stands there
abbrev pub tested : {A : Type 0} → (A → Bool) → Walk A → Walk Bool
tested f w = record {
  end = w.end;
  reads = w.reads;
  view = λ i p e. f (w.view i p e);
}
