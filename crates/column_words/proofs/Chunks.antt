-- A list's words cut into arrays of 22, and what they say: a column's words are its array's.
use mathlib.Core.Path.{◌≡◌, refl, sym, ap, ◌∙◌}
use mathlib.Core.Bool.{Bool, true, false, and-eq-true_iff}
use mathlib.Core.List.{List, ◌∷◌, map}
use Prim.Native.Nat.{ℕ, zero, suc, ◌+◌, ◌*◌, ◌/◌, ◌%◌, ◌<◌, ◌≤◌}
use native.Mathlib.Omega.{arith}
use lib.Dec.{eqb}
use lib.ListN.{length, get_or, take, drop}
use lib.Seq.{drop-drop}
use borrow.Author.Tests.{eq-eqb, ne_eqb, lt-ltb, le-ltb}
use Rattle.std.proofs.lemmas.List.{get_or-take, get_or-drop}
use Rattle.std.specs.List.{list_all}
use Rattle.std.proofs.Common.{Some, None}
use Rattle.std.specs.Simd.{first_chunks}
use Rattle.column_words.specs.Columns.{numbers_fit, alphabets_fit, column_in, is_column, columns_from, are_from, columns_in, are_columns}
use Rattle.column_words.specs.Place.{column_get}

-- the words of the column at `at`, as an array
abbrev pub array_at : List ℕ → ℕ → List ℕ
array_at w at = take 22 (drop at w)

abbrev pub arrays : List ℕ → List (List ℕ)
arrays w = first_chunks 22 (length w / 22) w

module _ (w : List ℕ) (at : ℕ) where
  word : (j : ℕ) → j < 22 → get_or (array_at w at) j 0 ≡ get_or w (at + j) 0
  word j h = get_or-take 22 (drop at w) j 0 h ∙ get_or-drop at w j 0

  first : get_or (array_at w at) 0 0 ≡ get_or w at 0
  first = let e : at + 0 ≡ at = omega arith in word 0 (omega arith) ∙ ap (λ (n : ℕ). get_or w n 0) e

  pub column_of_array : column_in (array_at w at) 0 ≡ column_in w at
  unfolding column_in
  column_of_array =
      rw (
        first,
        word 1 (omega arith),
        word 2 (omega arith),
        word 3 (omega arith),
        word 4 (omega arith),
        word 5 (omega arith),
        word 6 (omega arith),
        word 7 (omega arith),
        word 8 (omega arith),
        word 9 (omega arith),
        word 10 (omega arith),
        word 11 (omega arith),
        word 12 (omega arith),
        word 13 (omega arith),
        word 14 (omega arith),
        word 15 (omega arith),
        word 16 (omega arith),
        word 17 (omega arith),
        word 18 (omega arith),
        word 19 (omega arith),
        word 20 (omega arith),
        word 21 (omega arith),
      ) refl

  pub array_is_column : is_column (array_at w at) 0 ≡ is_column w at
  unfolding is_column numbers_fit alphabets_fit
  array_is_column =
      rw (
        first,
        word 1 (omega arith),
        word 2 (omega arith),
        word 3 (omega arith),
        word 4 (omega arith),
        word 5 (omega arith),
        word 6 (omega arith),
        word 7 (omega arith),
        word 8 (omega arith),
        word 9 (omega arith),
        word 12 (omega arith),
        word 15 (omega arith),
        word 18 (omega arith),
        word 21 (omega arith),
      ) refl

module _ (w : List ℕ) where
  arrays_from : (k at : ℕ) → first_chunks 22 (suc k) (drop at w) ≡ array_at w at ∷ first_chunks 22 k (drop (at + 22) w)
  arrays_from k at = ap (λ (x : List ℕ). array_at w at ∷ first_chunks 22 k x) (drop-drop 22 at w)

  array_here : (k at i : ℕ) (d : List ℕ) → i < k → get_or (first_chunks 22 k (drop at w)) i d ≡ array_at w (at + i * 22)
  array_here zero at i d h = absurd (omega arith)
  array_here (suc k) at zero d h = let e : at ≡ at + 0 * 22 = omega arith in ap (array_at w) e
  array_here (suc k) at (suc i) d h =
      let e : at + 22 + i * 22 ≡ at + suc i * 22 = omega arith in
      ap (λ (l : List (List ℕ)). get_or l (suc i) d) (arrays_from k at) ∙ array_here k (at + 22) i d (omega arith) ∙ ap (array_at w) e

  pub array_of : (i : ℕ) (d : List ℕ) → i < length w / 22 → get_or (arrays w) i d ≡ array_at w (i * 22)
  array_of i d h = let e : 0 + i * 22 ≡ i * 22 = omega arith in array_here (length w / 22) 0 i d h ∙ ap (array_at w) e

  columns_are : (k at : ℕ) → columns_from w k at ≡ map (λ (c : List ℕ). column_in c 0) (first_chunks 22 k (drop at w))
  unfolding columns_from
  columns_are zero at = refl
  columns_are (suc k) at =
      rw (columns_are k (at + 22), sym (column_of_array w at)) (ap (map (λ (c : List ℕ). column_in c 0)) (sym (arrays_from k at)))

  all_are : (k at : ℕ) → are_from w k at ≡ list_all (λ (c : List ℕ). is_column c 0) (first_chunks 22 k (drop at w))
  unfolding are_from
  all_are zero at = refl
  all_are (suc k) at =
      rw (all_are k (at + 22), sym (array_is_column w at)) (ap (list_all (λ (c : List ℕ). is_column c 0)) (sym (arrays_from k at)))

  pub columns_of_arrays : columns_in w ≡ map (λ (c : List ℕ). column_in c 0) (arrays w)
  unfolding columns_in
  columns_of_arrays = columns_are (length w / 22) 0

  module _ (r : Bool) (whole : length w % 22 ≡ 0) (e : r ≡ list_all (λ (c : List ℕ). is_column c 0) (arrays w)) where
    pub arrays_are_columns : r ≡ are_columns w
    unfolding are_columns
    arrays_are_columns = rw (eq-eqb (length w % 22) 0 whole, all_are (length w / 22) 0) e

  -- where words are those of columns, so is each array
  pub all_columns : are_columns w ≡ true → list_all (λ (c : List ℕ). is_column c 0) (arrays w) ≡ true
  unfolding are_columns
  all_columns t =
      sym (all_are (length w / 22) 0)
      ∙ ((and-eq-true_iff (eqb (length w % 22) 0) (are_from w (length w / 22) 0)).0 t).1

  pub words_left : (length w % 22 ≡ 0 → ⊥) → false ≡ are_columns w
  unfolding are_columns
  words_left h = rw (ne_eqb (length w % 22) 0 h) refl

  -- ---- the column at place i, whose words x are array i

  module _ (i : ℕ) (x : List ℕ) (h : i < length w / 22) (e : x ≡ get_or (arrays w) i x) where
    its : x ≡ array_at w (i * 22)
    its = e ∙ array_of i x h

    pub get_some : is_column x 0 ≡ true → Some (column_in x 0) ≡ column_get w i
    unfolding column_get
    get_some t =
        let test : is_column w (i * 22) ≡ true = sym (array_is_column w (i * 22)) ∙ ap (λ (l : List ℕ). is_column l 0) (sym its) ∙ t in
        ap (λ (l : List ℕ). Some (column_in l 0)) its ∙ rw (lt-ltb i (length w / 22) h, test, column_of_array w (i * 22)) refl

    pub get_none : is_column x 0 ≡ false → None ≡ column_get w i
    unfolding column_get
    get_none t =
        let test : is_column w (i * 22) ≡ false = sym (array_is_column w (i * 22)) ∙ ap (λ (l : List ℕ). is_column l 0) (sym its) ∙ t in
        rw (lt-ltb i (length w / 22) h, test) refl

  pub get_past : (i : ℕ) → length w / 22 ≤ i → None ≡ column_get w i
  unfolding column_get
  get_past i h = rw (le-ltb i (length w / 22) h) refl
