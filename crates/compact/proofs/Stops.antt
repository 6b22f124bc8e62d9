-- Names by where their characters stop, which is found once for all length bytes before it.
use Prim.Native.Nat.{ℕ, zero, suc, ◌+◌, ◌-◌, ◌≤◌, ◌<◌}
use native.Mathlib.Omega.{arith}
use mathlib.Core.Path.{◌≡◌, refl, sym, ap, ◌∙◌}
use mathlib.Core.Bool.{Bool, true, false, not, ◌&&◌, and-false}
use mathlib.Core.List.{List}
use lib.Dec.{leb, eqb}
use lib.ListN.{length, get_or, take, drop}
use borrow.Author.Tests.{eqb-true, eqb-false, le-leb, lt-leb, leb-true, leb-false, not-true, not-false}
use Rattle.std.specs.Prelude.{Some, None}
use Rattle.search.specs.Search.{each}
use Rattle.search.specs.Walks.{first}
use Rattle.search.proofs.Each.{drop_next}
use Rattle.search.proofs.Index.{Found, first_is, first_more, first_found}
use Rattle.text.specs.Chars.{is_name_char}
use Rattle.compact_table.specs.Bytes.{found_before}
use Rattle.compact_table.proofs.Skips.{skip, found_some, found_none}
use Rattle.compact.specs.Compact.{name_here, is_other, stop_at, Stops}

-- ---- a test of k elements from q on

module _ (f : ℕ → Bool) (s : List ℕ) where
  turn : (k q : ℕ) → q < length s → each f (take (suc k) (drop q s)) ≡ (f (get_or s q 0) && each f (take k (drop (q + 1) s)))
  turn k q h = ap (λ (l : List ℕ). each f (take (suc k) l)) (drop_next s q 0 h)

  all_pass : (k q : ℕ) → q + k ≤ length s → ((j : ℕ) → q ≤ j → j < q + k → f (get_or s j 0) ≡ true) → each f (take k (drop q s)) ≡ true
  all_pass zero q h g = refl
  all_pass (suc k) q h g =
      turn k q (omega arith) ∙ rw (g q (omega arith) (omega arith)) (all_pass k (q + 1) (omega arith) (λ j a b. g j (omega arith) (omega arith)))

  one_fails : (k q j : ℕ) → q + k ≤ length s → q ≤ j → j < q + k → f (get_or s j 0) ≡ false → each f (take k (drop q s)) ≡ false
  one_fails zero q j h a b g = absurd (omega arith)
  one_fails (suc k) q j h a b g =
      turn k q (omega arith) ∙ at (eqb q j) refl (λ n. one_fails k (q + 1) j (omega arith) (omega arith) (omega arith) g)
    where
      at : (x : Bool) → eqb q j ≡ x → (q + 1 ≤ j → each f (take k (drop (q + 1) s)) ≡ false) → (f (get_or s q 0) && each f (take k (drop (q + 1) s))) ≡ false
      at true e r = rw (eqb-true q j e, g) refl
      at false e r =
          let z = eqb-false q j e in
          rw (r (omega arith)) (and-false (f (get_or s q 0)))

  -- by where the first that fails stands, of m or more
  by_first : (k q m t : ℕ) → q + k ≤ m → m ≤ length s → t ≡ first (λ j. not (f (get_or s j 0))) q m → leb (q + k) t ≡ each f (take k (drop q s))
  by_first k q m t h l e = go (leb (q + k) t) refl (first_is (λ j. not (f (get_or s j 0))) q m (omega arith))
    where
      go : (b : Bool) → leb (q + k) t ≡ b → Found (λ j. not (f (get_or s j 0))) q m (first (λ j. not (f (get_or s j 0))) q m) → b ≡ each f (take k (drop q s))
      go true u r =
          let z = leb-true (q + k) t u in
          sym (all_pass k q (omega arith) (λ j a b. not-false (f (get_or s j 0)) (r.before j a (omega arith))))
      go false u r =
          let z = leb-false (q + k) t u in
          let y = rw (← e) at (r.passes (omega arith)) in
          sym (one_fails k q t (omega arith) (rw e r.from) (omega arith) (not-true (f (get_or s t 0)) y))

-- ---- where name characters stop

pub stops_first : (s : List ℕ) (e q : ℕ) → Stops s e q q
stops_first s e q h = absurd (omega arith)

pub stops_later : (s : List ℕ) (e q r : ℕ) → q < e → Stops s e q r → Stops s e (q + 1) r
unfolding stop_at
stops_later s e q r l st h =
    let u = st (omega arith) in
    let is = first_is (is_other s) (q + 1) e (omega arith) in
    let to : r ≤ e = rw u (is.to (omega arith)) in
    first_more (is_other s) e (q + 1) r u (omega arith) (is.before (q + 1) (omega arith) (rw (← u) h))

-- the first that passes below n is the first below any larger m
wider : (f : ℕ → Bool) (i n m t : ℕ) → i ≤ n → n ≤ m → t ≡ first f i n → t < n → t ≡ first f i m
wider f i n m t h g e l =
    let is = first_is f i n h in
    let from : i ≤ t = rw e is.from in
    let found : f t ≡ true = rw e (is.passes (rw (← e) l)) in
    first_found f m t (first f i m) (skip f m (first f i m) (t - i) i t (omega arith) (omega arith) (λ q a b. is.before q a (rw (← e) b)) refl) (omega arith) found

-- ---- the name at q

module _ (s : List ℕ) (e q : ℕ) (l : e ≤ length s) (size : (leb 1 (get_or s q 0) && leb (get_or s q 0) 64) ≡ true) (fits : q + 1 + get_or s q 0 ≤ e) where
  by_each : (b : Bool) → b ≡ each is_name_char (take (get_or s q 0) (drop (q + 1) s)) → b ≡ name_here s e q
  unfolding name_here
  by_each b f = rw (size, le-leb (q + 1 + get_or s q 0) e fits) f

  pub name_known : (r : ℕ) → q < r → Stops s e q r → leb (q + 1 + get_or s q 0) r ≡ name_here s e q
  unfolding stop_at
  name_known r h st = by_each (leb (q + 1 + get_or s q 0) r) (by_first is_name_char s (get_or s q 0) (q + 1) e r fits l (st h))

  -- r is where the search for another byte ends
  module _ (r : ℕ) (u : r ≡ stop_at s (q + 1) (q + 1 + get_or s q 0)) where
    known : leb (q + 1 + get_or s q 0) r ≡ name_here s e q
    unfolding stop_at
    known = by_each (leb (q + 1 + get_or s q 0) r) (by_first is_name_char s (get_or s q 0) (q + 1) (q + 1 + get_or s q 0) r (omega arith) (omega arith) u)

    broken : r < q + 1 + get_or s q 0 → (false ≡ name_here s e q) × Stops s e (q + 1) r
    unfolding stop_at
    broken h = (
      sym (lt-leb (q + 1 + get_or s q 0) r h) ∙ known,
      stops_later s e q r (omega arith) (λ k. wider (is_other s) (q + 1) (q + 1 + get_or s q 0) e r (omega arith) fits u h),
    )

  pub name_whole : None ≡ found_before (q + 1 + get_or s q 0) (stop_at s (q + 1) (q + 1 + get_or s q 0)) → true ≡ name_here s e q
  name_whole f =
      sym (le-leb (q + 1 + get_or s q 0) (stop_at s (q + 1) (q + 1 + get_or s q 0)) (found_none _ _ f)) ∙ known (stop_at s (q + 1) (q + 1 + get_or s q 0)) refl

  pub name_broken : (r : ℕ) → Some r ≡ found_before (q + 1 + get_or s q 0) (stop_at s (q + 1) (q + 1 + get_or s q 0)) → (false ≡ name_here s e q) × Stops s e (q + 1) r
  name_broken r f = let at = found_some _ _ _ f in broken r at.0 at.1
