-- What words of columns say.
use mathlib.Core.Bool.{true, and-eq-true_iff}
use mathlib.Core.Path.{◌≡◌, refl, sym, ap, ◌∙◌}
use mathlib.Core.List.{List}
use Prim.Native.Nat.{ℕ, zero, suc, ◌+◌, ◌*◌, ◌/◌, ◌%◌, ◌<◌}
use native.Mathlib.Omega.{arith}
use lib.Dec.{eqb}
use lib.ListN.{length, get_or}
use borrow.Author.Tests.{ltb-true}
use Rattle.types.specs.declared.ColumnMetadata.{ColumnMetadata}
use Rattle.sqlda.specs.Codes.{is_type}
use Rattle.column_words.specs.Columns.{numbers_fit, alphabets_fit, column_in, is_column, columns_from, are_from, columns_in, are_columns}

-- the fields of a record that words from `at` on fit
pub record FitsAt (w : List ℕ) (at : ℕ) : Type 0 where
  pub number : get_or w at 0 < 65536
  pub value : get_or w (at + 2) 0 < 65536
  pub code : get_or w (at + 3) 0 < 256
  pub length : get_or w (at + 4) 0 < 65536
  pub nullable : get_or w (at + 5) 0 < 2
  pub precision : get_or w (at + 6) 0 < 256
  pub scale : get_or w (at + 7) 0 < 256
  pub ccsid : get_or w (at + 8) 0 < 65536
  pub order : get_or w (at + 9) 0 < 2
  pub name : get_or w (at + 12) 0 < 256
  pub label : get_or w (at + 15) 0 < 256
  pub base : get_or w (at + 18) 0 < 256
  pub schema : get_or w (at + 21) 0 < 256

pub fits_at : (w : List ℕ) (at : ℕ) → is_column w at ≡ true → FitsAt w at
unfolding is_column numbers_fit alphabets_fit is_type
fits_at w at e =
    let parts = (and-eq-true_iff (numbers_fit w at) (alphabets_fit w at)).0 e in
    let number = (and-eq-true_iff _ _).0 parts.0 in
    let typed = (and-eq-true_iff _ _).0 number.1 in
    let value = (and-eq-true_iff _ _).0 typed.0 in
    let code = (and-eq-true_iff _ _).0 typed.1 in
    let length = (and-eq-true_iff _ _).0 code.1 in
    let nullable = (and-eq-true_iff _ _).0 length.1 in
    let precision = (and-eq-true_iff _ _).0 nullable.1 in
    let scale = (and-eq-true_iff _ _).0 precision.1 in
    let ccsid = (and-eq-true_iff _ _).0 scale.1 in
    let name = (and-eq-true_iff _ _).0 parts.1 in
    let label = (and-eq-true_iff _ _).0 name.1 in
    let base = (and-eq-true_iff _ _).0 label.1 in
    record {
      number = ltb-true _ _ number.0;
      value = ltb-true _ _ value.0;
      code = ltb-true _ _ code.0;
      length = ltb-true _ _ length.0;
      nullable = ltb-true _ _ nullable.0;
      precision = ltb-true _ _ precision.0;
      scale = ltb-true _ _ scale.0;
      ccsid = ltb-true _ _ ccsid.0;
      order = ltb-true _ _ ccsid.1;
      name = ltb-true _ _ name.0;
      label = ltb-true _ _ label.0;
      base = ltb-true _ _ base.0;
      schema = ltb-true _ _ base.1;
    }

-- ---- the columns of words, by their places

module _ (w : List ℕ) where
  from_length : (k at : ℕ) → length (columns_from w k at) ≡ k
  unfolding columns_from
  from_length zero at = refl
  from_length (suc k) at = ap suc (from_length k (at + 22))

  from_at : (k at i : ℕ) (d : ColumnMetadata) → i < k → get_or (columns_from w k at) i d ≡ column_in w (at + i * 22)
  unfolding columns_from
  from_at zero at i d h = absurd (omega arith)
  from_at (suc k) at zero d h = let e : at ≡ at + 0 * 22 = omega arith in ap (column_in w) e
  from_at (suc k) at (suc i) d h =
      let e : at + 22 + i * 22 ≡ at + suc i * 22 = omega arith in
      from_at k (at + 22) i d (omega arith) ∙ ap (column_in w) e

  fits_from : (k at i : ℕ) → are_from w k at ≡ true → i < k → is_column w (at + i * 22) ≡ true
  unfolding are_from
  fits_from zero at i t h = absurd (omega arith)
  fits_from (suc k) at zero t h =
      let e : at ≡ at + 0 * 22 = omega arith in
      ap (is_column w) (sym e) ∙ ((and-eq-true_iff (is_column w at) (are_from w k (at + 22))).0 t).0
  fits_from (suc k) at (suc i) t h =
      let e : at + suc i * 22 ≡ at + 22 + i * 22 = omega arith in
      ap (is_column w) e ∙ fits_from k (at + 22) i ((and-eq-true_iff (is_column w at) (are_from w k (at + 22))).0 t).1 (omega arith)

  pub columns_length : length (columns_in w) ≡ length w / 22
  unfolding columns_in
  columns_length = from_length (length w / 22) 0

  -- column i is the one whose words start at 22 times i
  pub columns_at : (i : ℕ) (d : ColumnMetadata) → i < length w / 22 → get_or (columns_in w) i d ≡ column_in w (i * 22)
  unfolding columns_in
  columns_at i d h = let e : 0 + i * 22 ≡ i * 22 = omega arith in from_at (length w / 22) 0 i d h ∙ ap (column_in w) e

  -- and they fit, where all do
  pub columns_fit : are_columns w ≡ true → (i : ℕ) → i < length w / 22 → is_column w (i * 22) ≡ true
  unfolding are_columns
  columns_fit t i h =
      let e : i * 22 ≡ 0 + i * 22 = omega arith in
      ap (is_column w) e ∙ fits_from (length w / 22) 0 i ((and-eq-true_iff (eqb (length w % 22) 0) (are_from w (length w / 22) 0)).0 t).1 h
