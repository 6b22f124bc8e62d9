-- Same cut is the rule before T-05 and equal CCSIDs, column by column: so it implies that rule, and so do the entry's answers.
use mathlib.Core.Path.{◌≡◌, refl, sym, ◌∙◌}
use mathlib.Core.Bool.{Bool, true, false, ◌&&◌, and-eq-true_iff}
use mathlib.Core.List.{List, [], ◌∷◌}
use Rattle.search.specs.Search.{pick, alike}
use Rattle.outcome.specs.Refusal.{is_refused}
use Rattle.types.specs.declared.ColumnMetadata.{ColumnMetadata}
use Rattle.columns.specs.Cut.{coarse_column, same_ccsid, same_column, same_cut, cut_refusal, cut_answer}
use Rattle.columns.specs.Finer.{coarse_cut, coarse_answer, same_ccsids, Finer}

-- two tests at once, element by element: the one and the other
regrouped : (a b c d : Bool) → (a && b && (c && d)) ≡ (a && c && (b && d))
regrouped true true c d = refl
regrouped true false true d = refl
regrouped true false false d = refl
regrouped false b c d = refl

alike_both : {A : Type 0} (f g : A → A → Bool) (xs ys : List A) → alike (λ x y. f x y && g x y) xs ys ≡ (alike f xs ys && alike g xs ys)
alike_both f g [] [] = refl
alike_both f g [] (y ∷ ys) = refl
alike_both f g (x ∷ xs) [] = refl
alike_both f g (x ∷ xs) (y ∷ ys) = rw (alike_both f g xs ys) (regrouped (f x y) (g x y) (alike f xs ys) (alike g xs ys))

module _ (a b : List ColumnMetadata) where
  exactly : same_cut a b ≡ (coarse_cut a b && same_ccsids a b)
  unfolding same_cut coarse_cut same_ccsids same_column
  exactly = alike_both coarse_column same_ccsid a b

  -- a list that is refused is answered no, by both
  answered : cut_answer a b ≡ (coarse_answer a b && same_ccsids a b)
  unfolding cut_answer coarse_answer
  answered = go (is_refused (cut_refusal a b))
    where
      go : (r : Bool) → pick r false (same_cut a b) ≡ (pick r false (coarse_cut a b) && same_ccsids a b)
      go true = refl
      go false = exactly

  pub finer : Finer a b
  finer =
      record {
        exactly = exactly;
        implies = λ e. ((and-eq-true_iff (coarse_cut a b) (same_ccsids a b)).0 (sym exactly ∙ e)).0;
        answer = answered;
        answer_implies = λ e. ((and-eq-true_iff (coarse_answer a b) (same_ccsids a b)).0 (sym answered ∙ e)).0;
      }
