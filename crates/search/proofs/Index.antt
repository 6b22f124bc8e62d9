-- A loop that looks for the first index that passes a test. t is the answer, and `t ≡ first f i n` the loop's invariant.
use Prim.Native.Nat.{ℕ, zero, suc, ◌+◌, ◌-◌, ◌≤◌, ◌<◌}
use native.Mathlib.Numerals.{add-one}
use native.Mathlib.Omega.{arith}
use mathlib.Core.Path.{◌≡◌, refl, sym, ap, ◌∙◌, subst}
use mathlib.Core.Bool.{Bool, true, false, false≢true}
use lib.Dec.{eqb, ltb, leb}
use borrow.Author.Tests.{eqb-true, eqb-false, ltb-true, ltb-false, leb-true, leb-false}
use Rattle.search.specs.Search.{pick}
use Rattle.search.specs.Walks.{first_of, first}

module _ (f : ℕ → Bool) (n i t : ℕ) (e : t ≡ first f i n) where
  turn : i < n → t ≡ pick (f i) i (first f (i + 1) n)
  unfolding first first_of
  turn h =
      let k : n - i ≡ suc (n - suc i) = omega arith in
      e ∙ ap (λ (j : ℕ). first_of f j i) k ∙ rw (add-one i) refl

  pub first_more : i < n → f i ≡ false → t ≡ first f (i + 1) n
  first_more h g = turn h ∙ rw g refl

  pub first_found : i < n → f i ≡ true → i ≡ t
  first_found h g = sym (turn h ∙ rw g refl)

  pub first_done : n ≤ i → i ≡ t
  unfolding first first_of
  first_done h =
      let k : n - i ≡ 0 = omega arith in
      sym (e ∙ ap (λ (j : ℕ). first_of f j i) k)

-- what the answer says: it is in the range, all before it fail, and it passes if it is below n

pub record Found (f : ℕ → Bool) (i n t : ℕ) : Type 0 where
  pub from : i ≤ t
  pub to : i ≤ n → t ≤ n
  pub before : (j : ℕ) → i ≤ j → j < t → f j ≡ false
  pub passes : t < n → f t ≡ true

first_of_is : (f : ℕ → Bool) (k i : ℕ) → Found f i (i + k) (first_of f k i)
unfolding first_of
first_of_is f zero i =
    record { from = omega arith; to = λ h. omega arith; before = λ j h g. absurd (omega arith); passes = λ h. absurd (omega arith) }
first_of_is f (suc k) i = go (f i) refl (first_of_is f k (suc i))
  where
    go : (b : Bool) → f i ≡ b → Found f (suc i) (suc i + k) (first_of f k (suc i)) → Found f i (i + suc k) (pick b i (first_of f k (suc i)))
    go true e r = record { from = omega arith; to = λ h. omega arith; before = λ j h g. absurd (omega arith); passes = λ h. e }
    go false e r =
        record {
          from = omega (arith, r.from);
          to = λ h. omega (arith, r.to (omega arith));
          before = λ j h g. at j h g (eqb i j) refl;
          passes = λ h. r.passes (omega arith);
        }
      where
        at : (j : ℕ) → i ≤ j → j < first_of f k (suc i) → (b : Bool) → eqb i j ≡ b → f j ≡ false
        at j h g true u = ap f (sym (eqb-true i j u)) ∙ e
        at j h g false u = let z = eqb-false i j u in r.before j (omega arith) g

pub first_is : (f : ℕ → Bool) (i n : ℕ) → i ≤ n → Found f i n (first f i n)
unfolding first
first_is f i n h =
    let e : i + (n - i) ≡ n = omega arith in
    subst (λ (m : ℕ). Found f i m (first_of f (n - i) i)) e (first_of_is f (n - i) i)

-- where none from i on passes, none from j on does
pub first_none : (f : ℕ → Bool) (i j n : ℕ) → i ≤ j → n ≤ first f i n → n ≤ first f j n
first_none f i j n h g = go (leb j n) refl
  where
    go : (b : Bool) → leb j n ≡ b → n ≤ first f j n
    go false e = let u = leb-false j n e in let d = first_done f n j (first f j n) refl (omega arith) in omega arith
    go true e =
        let u = leb-true j n e in
        let a = first_is f i n (omega arith) in
        let b = first_is f j n u in
        at (ltb (first f j n) n) refl a b
      where
        at : (c : Bool) → ltb (first f j n) n ≡ c → Found f i n (first f i n) → Found f j n (first f j n) → n ≤ first f j n
        at false v a b = ltb-false (first f j n) n v
        at true v a b =
            let w = ltb-true (first f j n) n v in
            let x = a.before (first f j n) (omega (arith, b.from)) (omega arith) in
            absurd (false≢true (sym x ∙ b.passes w))
