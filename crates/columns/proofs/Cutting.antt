-- What same cut answers: a refusal, or whether the lists make the same cut. Its loop is search's, over lists that are alike.
use mathlib.Core.Path.{◌≡◌, refl, ◌∙◌}
use mathlib.Core.Bool.{Bool, true, false, ◌||◌}
use mathlib.Core.List.{List, [], ◌∷◌}
use lib.Dec.{ltb}
use lib.ListN.{length}
use Rattle.types.specs.declared.ColumnMetadata.{ColumnMetadata}
use Rattle.columns.specs.Cut.{most_columns, same_cut, cut_refusal, cut_answer}

module _ (a b : List ColumnMetadata) where
  -- a list that is too long: refused, and no
  pub cut_refused : (ltb most_columns (length a) || ltb most_columns (length b)) ≡ true → (5 ∷ [] ≡ cut_refusal a b) × (false ≡ cut_answer a b)
  unfolding cut_refusal cut_answer
  cut_refused e = (rw e refl, rw e refl)

  -- otherwise the answer is whether they make the same cut
  pub cut_accepted : (ltb most_columns (length a) || ltb most_columns (length b)) ≡ false → (same : Bool) → same ≡ same_cut a b
      → (0 ∷ [] ≡ cut_refusal a b) × (same ≡ cut_answer a b)
  unfolding cut_refusal cut_answer
  cut_accepted e same f = (rw e refl, f ∙ rw e refl)
