-- Lists that are alike by a test: where the test is an equivalence of elements, this is one of lists.
use Prim.Native.Nat.{suc}
use mathlib.Core.Path.{◌≡◌, refl, ap}
use mathlib.Core.List.{List, [], ◌∷◌}
use mathlib.Core.Bool.{Bool, true, false, false≢true, and-eq-true_iff}
use lib.ListN.{length}
use Rattle.search.specs.Search.{alike}

module _ {A : Type 0} (f : A → A → Bool) where
  pub alike_refl : ((x : A) → f x x ≡ true) → (xs : List A) → alike f xs xs ≡ true
  alike_refl r [] = refl
  alike_refl r (x ∷ xs) = rw (r x) (alike_refl r xs)

  pub alike_sym : ((x y : A) → f x y ≡ f y x) → (xs ys : List A) → alike f xs ys ≡ alike f ys xs
  alike_sym r [] [] = refl
  alike_sym r [] (y ∷ ys) = refl
  alike_sym r (x ∷ xs) [] = refl
  alike_sym r (x ∷ xs) (y ∷ ys) = rw (r x y, alike_sym r xs ys) refl

  -- alike lists are equally long
  pub alike_length : (xs ys : List A) → alike f xs ys ≡ true → length xs ≡ length ys
  alike_length [] [] e = refl
  alike_length [] (y ∷ ys) e = absurd (false≢true e)
  alike_length (x ∷ xs) [] e = absurd (false≢true e)
  alike_length (x ∷ xs) (y ∷ ys) e = ap suc (alike_length xs ys ((and-eq-true_iff (f x y) (alike f xs ys)).0 e).1)

  pub alike_trans : ((x y z : A) → f x y ≡ true → f y z ≡ true → f x z ≡ true) → (xs ys zs : List A) → alike f xs ys ≡ true → alike f ys zs ≡ true
      → alike f xs zs ≡ true
  alike_trans r [] [] zs d e = e
  alike_trans r [] (y ∷ ys) zs d e = absurd (false≢true d)
  alike_trans r (x ∷ xs) [] zs d e = absurd (false≢true d)
  alike_trans r (x ∷ xs) (y ∷ ys) [] d e = absurd (false≢true e)
  alike_trans r (x ∷ xs) (y ∷ ys) (z ∷ zs) d e =
      let u = (and-eq-true_iff (f x y) (alike f xs ys)).0 d in
      let v = (and-eq-true_iff (f y z) (alike f ys zs)).0 e in
      rw (r x y z u.0 v.0) (alike_trans r xs ys zs u.1 v.1)

  -- lists of unequal length are not alike
  pub alike_unequal : (xs ys : List A) → (length xs ≡ length ys → ⊥) → false ≡ alike f xs ys
  alike_unequal xs ys h = go (alike f xs ys) refl
    where
      go : (b : Bool) → alike f xs ys ≡ b → false ≡ b
      go true e = absurd (h (alike_length xs ys e))
      go false e = refl
