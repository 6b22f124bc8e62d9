-- The loop that adds up the columns' widths and stops at a large column: what is left of the list decides.
use mathlib.Core.Path.{◌≡◌, refl, sym, ap, ◌∙◌}
use mathlib.Core.Bool.{true, false}
use mathlib.Core.List.{List, [], ◌∷◌}
use Prim.Native.Nat.{ℕ, ◌+◌, ◌*◌, ◌<◌, ◌≤◌}
use native.Mathlib.Omega.{arith}
use lib.Dec.{ltb}
use lib.ListN.{length, get_or, drop, drop_of_length-le}
use Rattle.search.specs.Search.{pick}
use Rattle.search.proofs.Each.{drop_next}
use Rattle.outcome.specs.Refusal.{is_refused}
use Rattle.types.specs.declared.ColumnMetadata.{ColumnMetadata}
use Rattle.columns.specs.Cut.{most_columns}
use Rattle.widths.specs.Width.{is_large, column_width}
use Rattle.widths.specs.Inside.{most_width}
use Rattle.columns.specs.Row.{row_width, large_refusal, row_refusal, row_answer}

-- what the loop holds: no column before i is large, and their widths add up to w
pub record Summing (l : List ColumnMetadata) (w i : ℕ) : Type 0 where
  pub refusal : large_refusal l ≡ large_refusal (drop i l)
  pub width : row_width l ≡ w + row_width (drop i l)
  pub small : w ≤ i * most_width

module _ (l : List ColumnMetadata) where
  module _ (w i : ℕ) (t : Summing l w i) (d : ColumnMetadata) where
    pub summing_more : i < length l → false ≡ is_large (get_or l i d).db2_type → (k : ℕ) → k ≡ column_width (get_or l i d) → k ≤ most_width
        → Summing l (w + k) (i + 1)
    unfolding large_refusal row_width
    summing_more h g k e b =
        let turn = drop_next l i d h in
        let sum = t.width ∙ ap (λ (r : List ColumnMetadata). w + row_width r) turn in
        record {
          refusal = t.refusal ∙ ap large_refusal turn ∙ rw (← g) refl;
          width = omega (arith, sum, e);
          small = omega (arith, t.small, b);
        }

    large : i < length l → true ≡ is_large (get_or l i d).db2_type → 8 ∷ (get_or l i d).number ∷ [] ≡ large_refusal l
    unfolding large_refusal
    large h g = sym (t.refusal ∙ ap large_refusal (drop_next l i d h) ∙ rw (← g) refl)

  module _ (e : ltb most_columns (length l) ≡ false) where
    refusal_is : (r : List ℕ) → r ≡ large_refusal l → r ≡ row_refusal l
    unfolding row_refusal
    refusal_is r g = rw e g

    answer_is : (r : List ℕ) → r ≡ large_refusal l → pick (is_refused r) 0 (row_width l) ≡ row_answer l
    unfolding row_answer
    answer_is r g = ap (λ (q : List ℕ). pick (is_refused q) 0 (row_width l)) (refusal_is r g)

    -- at a large column: refused with its number
    pub row_large : (w i : ℕ) → Summing l w i → (d : ColumnMetadata) → i < length l → true ≡ is_large (get_or l i d).db2_type
        → 8 ∷ (get_or l i d).number ∷ [] ≡ row_refusal l
    row_large w i t d h g = refusal_is (8 ∷ (get_or l i d).number ∷ []) (large w i t d h g)

    -- past the last column: the sum
    module _ (w i : ℕ) (t : Summing l w i) (h : length l ≤ i) where
      z : drop i l ≡ []
      z = drop_of_length-le l h

      none : 0 ∷ [] ≡ large_refusal l
      unfolding large_refusal
      none = sym (t.refusal ∙ ap large_refusal z)

      pub row_done_refusal : 0 ∷ [] ≡ row_refusal l
      row_done_refusal = refusal_is (0 ∷ []) none

      pub row_done_answer : w ≡ row_answer l
      unfolding row_width
      row_done_answer =
          let s : row_width l ≡ w + 0 = t.width ∙ ap (λ (q : List ColumnMetadata). w + row_width q) z in
          omega (arith, s) ∙ answer_is (0 ∷ []) none

  -- a list that is too long: refused
  pub row_refused : ltb most_columns (length l) ≡ true → 5 ∷ [] ≡ row_refusal l
  unfolding row_refusal
  row_refused e = rw e refl

  -- where the list is refused with r, it has no widest row
  pub row_none : (r : List ℕ) → r ≡ row_refusal l → is_refused r ≡ true → row_answer l ≡ 0
  unfolding row_answer
  row_none r e h = rw (← e, h) refl
