-- A search passes over positions that fail: one step after the other, or to where a weaker test passes.
use Prim.Native.Nat.{ℕ, zero, suc, ◌+◌, ◌-◌, ◌≤◌, ◌<◌}
use native.Mathlib.Omega.{arith}
use mathlib.Core.Path.{◌≡◌, refl, sym}
use mathlib.Core.List.{List}
use mathlib.Core.Bool.{Bool, true, false, ◌||◌, false≢true}
use lib.Dec.{ltb}
use borrow.Author.Tests.{lt-ltb, le-ltb, ltb-true, ltb-false}
use Rattle.std.specs.Prelude.{Some, None}
use Rattle.search.specs.Search.{pick}
use Rattle.search.specs.Walks.{first}
use Rattle.search.proofs.Index.{first_is, first_more, first_found, first_done}
use Rattle.compact_table.specs.Bytes.{in_eight, found_before}
use Rattle.compact_table.specs.Table.{is_ff, ff_at, next_here}

module _ (f : ℕ → Bool) (n t : ℕ) where
  -- j is the next index: in whatever form it is written
  step : (i j : ℕ) → i < n → f i ≡ false → j ≡ i + 1 → t ≡ first f i n → t ≡ first f j n
  step i j h g e u = rw e (first_more f n i t u h g)

  pub skip : (k i j : ℕ) → j ≡ i + k → j ≤ n → ((q : ℕ) → i ≤ q → q < j → f q ≡ false) → t ≡ first f i n → t ≡ first f j n
  skip zero i j e h g u = let z : j ≡ i = omega arith in rw z u
  skip (suc k) i j e h g u =
      skip k (i + 1) j (omega arith) h (λ q a b. g q (omega arith) b) (step i (i + 1) (omega arith) (g i (omega arith) (omega arith)) refl u)

-- what f passes is all that g can pass
pub skip_to : (f g : ℕ → Bool) (i n t r : ℕ) → ((q : ℕ) → f q ≡ false → g q ≡ false) → i ≤ n → r ≡ first f i n → t ≡ first g i n → t ≡ first g r n
skip_to f g i n t r w h e u =
    let is = first_is f i n h in
    let a : i ≤ r = rw e is.from in
    let b : r ≤ n = rw e (is.to h) in
    skip g n t (r - i) i r (omega arith) b (λ q x y. w q (is.before q x (rw (← e) y))) u

neither : (a b : Bool) → (a || b) ≡ false → (a ≡ false) × (b ≡ false)
neither true b e = absurd (false≢true (sym e))
neither false b e = (refl, e)

-- eight positions that fail
pub skip_eight : (f : ℕ → Bool) (n t i : ℕ) → i + 8 ≤ n → in_eight f i ≡ false → t ≡ first f i n → t ≡ first f (i + 8) n
skip_eight f n t i h g u =
    let b1 = f i || f (i + 1) in
    let b2 = b1 || f (i + 2) in
    let b3 = b2 || f (i + 3) in
    let b4 = b3 || f (i + 4) in
    let b5 = b4 || f (i + 5) in
    let b6 = b5 || f (i + 6) in
    let g7 = neither b6 (f (i + 7)) g in
    let g6 = neither b5 (f (i + 6)) g7.0 in
    let g5 = neither b4 (f (i + 5)) g6.0 in
    let g4 = neither b3 (f (i + 4)) g5.0 in
    let g3 = neither b2 (f (i + 3)) g4.0 in
    let g2 = neither b1 (f (i + 2)) g3.0 in
    let g1 = neither (f i) (f (i + 1)) g2.0 in
    let u1 = step f n t i (i + 1) (omega arith) g1.0 refl u in
    let u2 = step f n t (i + 1) (i + 2) (omega arith) g1.1 (omega arith) u1 in
    let u3 = step f n t (i + 2) (i + 3) (omega arith) g2.1 (omega arith) u2 in
    let u4 = step f n t (i + 3) (i + 4) (omega arith) g3.1 (omega arith) u3 in
    let u5 = step f n t (i + 4) (i + 5) (omega arith) g4.1 (omega arith) u4 in
    let u6 = step f n t (i + 5) (i + 6) (omega arith) g5.1 (omega arith) u5 in
    let u7 = step f n t (i + 6) (i + 7) (omega arith) g6.1 (omega arith) u6 in
    step f n t (i + 7) (i + 8) (omega arith) g7.1 (omega arith) u7

-- ---- the answer of a search, by the position that it ends at

pub found : (e q t : ℕ) → q ≡ t → q < e → Some q ≡ found_before e t
found e q t u h = rw (← u, lt-ltb q e h) refl

pub not_found : (e t : ℕ) → e ≤ t → None ≡ found_before e t
not_found e t h = rw (le-ltb t e h) refl

pub found_some : (e t q : ℕ) → Some q ≡ found_before e t → (q ≡ t) × (q < e)
found_some e t q u = go (ltb t e) refl u
  where
    go : (b : Bool) → ltb t e ≡ b → Some q ≡ pick b (Some t) None → (q ≡ t) × (q < e)
    go true v w = let k : q ≡ t = cc in (k, omega (arith, ltb-true t e v))
    go false v w = absurd cc

pub found_none : (e t : ℕ) → None ≡ found_before e t → e ≤ t
found_none e t u = go (ltb t e) refl u
  where
    go : (b : Bool) → ltb t e ≡ b → None ≡ pick b (Some t) None → e ≤ t
    go true v w = absurd cc
    go false v w = ltb-false t e v

-- ---- a search for what starts with an FF, from one FF to the next: r is the next, t where the search ends

module _ (s : List ℕ) (g : ℕ → Bool) (w : (q : ℕ) → is_ff s q ≡ false → g q ≡ false) (i n t r : ℕ) (h : i ≤ n) (e : r ≡ ff_at s i n) (u : t ≡ first g i n) where
  later : t ≡ first g r n
  unfolding ff_at
  later = skip_to (is_ff s) g i n t r w h e u

  pub by_ff_found : r < n → g r ≡ true → r ≡ t
  by_ff_found l p = first_found g n r t later l p

  pub by_ff_more : r < n → g r ≡ false → t ≡ first g (r + 1) n
  by_ff_more l p = first_more g n r t later l p

  pub by_ff_none : n ≤ r → r ≡ t
  by_ff_none l = first_done g n r t later l

pub ff_is : (s : List ℕ) (i n r : ℕ) → i ≤ n → r ≡ ff_at s i n → (i ≤ r) × (r < n → is_ff s r ≡ true)
unfolding ff_at
ff_is s i n r h e = let is = first_is (is_ff s) i n h in (rw e is.from, rw e is.passes)

-- where there is no FF, there is no next
pub no_next : (s : List ℕ) (q : ℕ) → is_ff s q ≡ false → next_here s q ≡ false
unfolding next_here
no_next s q h = rw h refl
