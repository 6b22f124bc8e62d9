-- Document 01's scores, computed: one named and two generated columns, one named and three.
use mathlib.Core.Path.{◌≡◌, refl, ap, ◌∙◌}
use mathlib.Core.Bool.{Bool, false}
use native.Mathlib.Nat.{le_refl}
use lib.IntN.{ℤ, pos, negsuc}
use lib.Signed.{lt_z}
use borrow.Author.Tests.{le-ltb}
use Rattle.search.specs.Search.{pick}
use Rattle.search.specs.Walks.{keep}
use Rattle.field.specs.declared.ByteOrder.TheVariants.{BigEndian}
use Rattle.scan.specs.declared.Best.{Best}
use Rattle.scan.specs.Score.{exact_score}
use Rattle.scan.specs.Scan.{score, better, no_run}

-- one named, two generated: 3
pub score_of_three : exact_score 1 3 2 ≡ pos 3
unfolding exact_score
score_of_three = refl

-- one named, three generated: -1020
pub score_of_four : exact_score 1 4 3 ≡ negsuc 1019
unfolding exact_score
score_of_four = refl

-- which is not taken: no run stays
pub four_not_taken : keep better no_run (record { start = 7; order = BigEndian; run = record { count = 4; named = 1 } }) ≡ no_run
unfolding keep score exact_score
four_not_taken = refl

-- nor does a run of an equal score replace the best one
not_above : (z : ℤ) → lt_z z z ≡ false
not_above (pos n) = le-ltb n n (le_refl n)
not_above (negsuc n) = le-ltb n n (le_refl n)

pub equal_not_taken : (x y : Best) → score y.run ≡ score x.run → keep better x y ≡ x
unfolding keep
equal_not_taken x y e =
    let f : better y x ≡ false = ap (λ (z : ℤ). lt_z (score x.run) z) e ∙ not_above (score x.run) in
    ap (λ (b : Bool). pick b y x) f
