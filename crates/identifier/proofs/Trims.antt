-- Trimming: it goes through a map, and what is trimmed already stays as it is.
use Prim.Native.Nat.{ℕ, suc, ◌-◌}
use native.Mathlib.Nat.{le_refl}
use native.Mathlib.Omega.{arith}
use mathlib.Core.Path.{◌≡◌, refl, sym, ap, ◌∙◌}
use mathlib.Core.List.{List, [], ◌∷◌, map}
use mathlib.Core.Bool.{Bool, true, false}
use lib.ListN.{take, drop}
use lib.Seq.{take-take}
use lib.Dec.{eqb}
use borrow.Author.Tests.{eqb-true}
use Rattle.search.specs.Search.{pick}
use Rattle.text.specs.Text.{leading, kept, trimmed_of}
use Rattle.std.proofs.lemmas.List.{drop-map, take-map}
use Rattle.text.proofs.Trim.{leading_cons, kept_cons}

-- ---- through a map

module _ (g : ℕ → Bool) (f : ℕ → ℕ) where
  leading_map : (xs : List ℕ) → leading g (map f xs) ≡ leading (λ x. g (f x)) xs
  unfolding leading
  leading_map [] = refl
  leading_map (x ∷ xs) =
      leading_cons g (f x) (map f xs) ∙ ap (λ (n : ℕ). pick (g (f x)) (suc n) 0) (leading_map xs) ∙ sym (leading_cons (λ x. g (f x)) x xs)

  kept_map : (xs : List ℕ) → kept g (map f xs) ≡ kept (λ x. g (f x)) xs
  unfolding kept
  kept_map [] = refl
  kept_map (x ∷ xs) =
      kept_cons g (f x) (map f xs) ∙ ap (λ (n : ℕ). pick (eqb n 0) (pick (g (f x)) 0 1) (suc n)) (kept_map xs)
      ∙ sym (kept_cons (λ x. g (f x)) x xs)

  pub trimmed_map : (xs : List ℕ) → trimmed_of g (map f xs) ≡ map f (trimmed_of (λ x. g (f x)) xs)
  trimmed_map xs =
      let l = leading (λ x. g (f x)) xs in
      let k = kept (λ x. g (f x)) xs in
      rw (leading_map xs, kept_map xs, drop-map f l xs) (take-map f (k - l) (drop l xs))

-- ---- twice

module _ (f : ℕ → Bool) where
  -- what is kept is kept whole
  kept_kept : (xs : List ℕ) → kept f (take (kept f xs) xs) ≡ kept f xs
  unfolding kept
  kept_kept [] = refl
  kept_kept (x ∷ xs) = rw (kept_cons f x xs) (go (f x) refl (eqb (kept f xs) 0) refl (kept_kept xs))
    where
      go : (b : Bool) → f x ≡ b → (z : Bool) → eqb (kept f xs) 0 ≡ z → kept f (take (kept f xs) xs) ≡ kept f xs
          → kept f (take (pick z (pick b 0 1) (suc (kept f xs))) (x ∷ xs)) ≡ pick z (pick b 0 1) (suc (kept f xs))
      go true u true v r = refl
      go false u true v r = rw (kept_cons f x [], u) refl
      go b u false v r = rw (kept_cons f x (take (kept f xs) xs), r, v) refl

  -- a first element that is dropped, and one that is not
  pub trimmed_drop : (x : ℕ) (xs : List ℕ) → f x ≡ true → trimmed_of f (x ∷ xs) ≡ trimmed_of f xs
  trimmed_drop x xs e = rw (leading_cons f x xs, kept_cons f x xs, e) (go (eqb (kept f xs) 0) refl)
    where
      go : (z : Bool) → eqb (kept f xs) 0 ≡ z
          → take (pick z 0 (suc (kept f xs)) - suc (leading f xs)) (drop (leading f xs) xs) ≡ take (kept f xs - leading f xs) (drop (leading f xs) xs)
      go true v =
          let k : 0 - suc (leading f xs) ≡ kept f xs - leading f xs = omega (arith, eqb-true (kept f xs) 0 v) in
          ap (λ (n : ℕ). take n (drop (leading f xs) xs)) k
      go false v =
          let k : suc (kept f xs) - suc (leading f xs) ≡ kept f xs - leading f xs = omega arith in
          ap (λ (n : ℕ). take n (drop (leading f xs) xs)) k

  trimmed_keep : (x : ℕ) (xs : List ℕ) → f x ≡ false → trimmed_of f (x ∷ xs) ≡ x ∷ take (kept f xs) xs
  trimmed_keep x xs e = rw (leading_cons f x xs, kept_cons f x xs, e) (go (eqb (kept f xs) 0) refl)
    where
      go : (z : Bool) → eqb (kept f xs) 0 ≡ z → take (pick z 1 (suc (kept f xs)) - 0) (x ∷ xs) ≡ x ∷ take (kept f xs) xs
      go true v = let k : 0 ≡ kept f xs = omega (arith, eqb-true (kept f xs) 0 v) in ap (λ (n : ℕ). x ∷ take n xs) k
      go false v = let k : suc (kept f xs) - 0 ≡ suc (kept f xs) = omega arith in ap (λ (n : ℕ). take n (x ∷ xs)) k

  pub trimmed_twice : (xs : List ℕ) → trimmed_of f (trimmed_of f xs) ≡ trimmed_of f xs
  unfolding leading kept
  trimmed_twice [] = refl
  trimmed_twice (x ∷ xs) = go (f x) refl (trimmed_twice xs)
    where
      go : (b : Bool) → f x ≡ b → trimmed_of f (trimmed_of f xs) ≡ trimmed_of f xs → trimmed_of f (trimmed_of f (x ∷ xs)) ≡ trimmed_of f (x ∷ xs)
      go true e r = ap (trimmed_of f) (trimmed_drop x xs e) ∙ r ∙ sym (trimmed_drop x xs e)
      go false e r =
          let k = kept f xs in
          ap (trimmed_of f) (trimmed_keep x xs e) ∙ trimmed_keep x (take k xs) e
          ∙ ap (λ (n : ℕ). x ∷ take n (take k xs)) (kept_kept xs)
          ∙ ap (λ (l : List ℕ). x ∷ l) (take-take k k xs (le_refl k))
          ∙ sym (trimmed_keep x xs e)
