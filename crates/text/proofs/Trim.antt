-- `leading` and `kept`, which are std's `prefix_len` and `suffix_len`, with one element more in front, and bounds on them.
use Prim.Native.Nat.{ℕ, suc, ◌+◌, ◌-◌, ◌≤◌, ◌<◌}
use native.Mathlib.Omega.{arith}
use mathlib.Core.Path.{◌≡◌, refl, sym, ap, subst, ◌∙◌}
use mathlib.Core.List.{List, [], ◌∷◌, reverse}
use mathlib.Core.Bool.{Bool, true, false, ◌&&◌, cond, not}
use lib.ListN.{length, length-reverse}
use lib.Dec.{T, eqb, ltb}
use borrow.Author.Tests.{eqb-true, eqb-false, eq-eqb, ne_eqb, ltb-false}
use Rattle.std.specs.List.{prefix_len, suffix_len, position_or_len}
use Rattle.std.proofs.Common.{Option, Some, None}
use Rattle.std.proofs.lemmas.List.{reverse-append}
use Rattle.std.proofs.lemmas.List.Folds.{prefix_len-append}
use Rattle.std.proofs.lemmas.List.Sums.{prefix_len-le-length, suffix_len-le-length}
use Rattle.search.specs.Search.{pick, each}
use Rattle.text.specs.Text.{leading, kept}

module _ (f : ℕ → Bool) where
  pub leading_le : (xs : List ℕ) → leading f xs ≤ length xs
  unfolding leading
  leading_le xs = prefix_len-le-length f xs

  pub kept_le : (xs : List ℕ) → kept f xs ≤ length xs
  unfolding kept
  kept_le xs = omega arith

  pub leading_cons : (x : ℕ) (xs : List ℕ) → leading f (x ∷ xs) ≡ pick (f x) (suc (leading f xs)) 0
  unfolding leading
  leading_cons x xs = go (f x)
    where
      go : (b : Bool) → cond b (1 + prefix_len f xs) 0 ≡ pick b (suc (prefix_len f xs)) 0
      go true = omega arith
      go false = refl

  pub kept_cons : (x : ℕ) (xs : List ℕ) → kept f (x ∷ xs) ≡ pick (eqb (kept f xs) 0) (pick (f x) 0 1) (suc (kept f xs))
  unfolding kept
  kept_cons x xs = ap (λ (n : ℕ). suc (length xs) - n) from_end ∙ go (eqb (suffix_len f xs) (length xs)) refl (f x)
    where
      from_end : suffix_len f (x ∷ xs) ≡ cond (eqb (suffix_len f xs) (length xs)) (length xs + cond (f x) 1 0) (suffix_len f xs)
      from_end =
          ap (prefix_len f) (reverse-append (x ∷ []) xs) ∙ prefix_len-append f (reverse xs) (x ∷ [])
          ∙ ap (λ (n : ℕ). cond (eqb (suffix_len f xs) n) (n + cond (f x) 1 0) (suffix_len f xs)) (length-reverse xs)

      go : (t : Bool) → eqb (suffix_len f xs) (length xs) ≡ t → (b : Bool)
          → suc (length xs) - cond t (length xs + cond b 1 0) (suffix_len f xs)
          ≡ pick (eqb (length xs - suffix_len f xs) 0) (pick b 0 1) (suc (length xs - suffix_len f xs))
      go true e true = rw (eq-eqb (length xs - suffix_len f xs) 0 (omega (arith, eqb-true (suffix_len f xs) (length xs) e))) (omega arith)
      go true e false = rw (eq-eqb (length xs - suffix_len f xs) 0 (omega (arith, eqb-true (suffix_len f xs) (length xs) e))) (omega arith)
      go false e b =
          let n = suffix_len-le-length f xs in
          let l : suffix_len f xs < length xs = omega (arith, eqb-false (suffix_len f xs) (length xs) e) in
          rw (ne_eqb (length xs - suffix_len f xs) 0 (λ z. omega arith)) (omega arith)

-- what `position` finds from the end: the first element that fails f
module _ (f : ℕ → Bool) (xs : List ℕ) (r : Option ℕ) (e : r ≡ cond (ltb (position_or_len (λ x. not (f x)) (reverse xs)) (length (reverse xs)))
    (Some (position_or_len (λ x. not (f x)) (reverse xs))) None) where
  same : position_or_len (λ x. not (f x)) (reverse xs) ≡ suffix_len f xs
  same = ap (λ (g : ℕ → Bool). prefix_len g (reverse xs)) (λ i x. twice (f x) i)
    where
      twice : (b : Bool) → not (not b) ≡ b
      twice true = refl
      twice false = refl

  found : r ≡ cond (ltb (suffix_len f xs) (length xs)) (Some (suffix_len f xs)) None
  found = e ∙ ap (λ (n : ℕ). cond (ltb n (length (reverse xs))) (Some n) None) same
      ∙ ap (λ (n : ℕ). cond (ltb (suffix_len f xs) n) (Some (suffix_len f xs)) None) (length-reverse xs)

  pub kept_found : (k : ℕ) → r ≡ Some k → length xs - k ≡ kept f xs
  unfolding kept
  kept_found k g = go (ltb (suffix_len f xs) (length xs)) (sym g ∙ found)
    where
      go : (t : Bool) → ◌≡◌ {A = Option ℕ} (Some k) (cond t (Some (suffix_len f xs)) None) → length xs - k ≡ length xs - suffix_len f xs
      go true h = let u : k ≡ suffix_len f xs = cc in ap (λ (n : ℕ). length xs - n) u
      go false h = absurd cc

  pub kept_none : r ≡ None → 0 ≡ kept f xs
  unfolding kept
  kept_none g = go (ltb (suffix_len f xs) (length xs)) refl (sym g ∙ found)
    where
      go : (t : Bool) → ltb (suffix_len f xs) (length xs) ≡ t → ◌≡◌ {A = Option ℕ} None (cond t (Some (suffix_len f xs)) None)
          → 0 ≡ length xs - suffix_len f xs
      go true u h = absurd cc
      go false u h = omega (arith, ltb-false (suffix_len f xs) (length xs) u)

-- where every element that passes f passes g too, and not all pass g, something is kept
pub kept_some : (f g : ℕ → Bool) → ((x : ℕ) → f x ≡ true → g x ≡ true) → (xs : List ℕ) → each g xs ≡ false → leading f xs < kept f xs
kept_some f g h [] e = absurd (subst T e tt)
kept_some f g h (x ∷ xs) e = rw (leading_cons f x xs, kept_cons f x xs) (go (f x) refl (eqb (kept f xs) 0) refl (kept_some f g h xs))
  where
    go : (b : Bool) → f x ≡ b → (z : Bool) → eqb (kept f xs) 0 ≡ z → (each g xs ≡ false → leading f xs < kept f xs)
        → pick b (suc (leading f xs)) 0 < pick z (pick b 0 1) (suc (kept f xs))
    go true u true v r =
        let w : leading f xs < kept f xs = r (sym (ap (λ (k : Bool). k && each g xs) (h x u)) ∙ e) in
        absurd (omega (arith, eqb-true (kept f xs) 0 v))
    go true u false v r =
        let w : leading f xs < kept f xs = r (sym (ap (λ (k : Bool). k && each g xs) (h x u)) ∙ e) in
        omega arith
    go false u true v r = omega arith
    go false u false v r = omega arith
