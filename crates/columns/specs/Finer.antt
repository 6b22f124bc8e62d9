-- What T-05 made of same cut: a finer rule than the one before; proved in proofs/Finer.antt.
use Rattle.std.specs.Prelude.{◌≡◌, Bool, true, false, ◌&&◌, List}
use Rattle.search.specs.Search.{pick, alike}
use Rattle.outcome.specs.Refusal.{is_refused}
use Rattle.types.specs.declared.ColumnMetadata.{ColumnMetadata}
use Rattle.columns.specs.Cut.{coarse_column, same_ccsid, same_cut, cut_refusal, cut_answer}

-- equal count, and alike by the rule so far, column by column (01, Answers: same cut; 02, T-05: the rule so far)
unfoldable pub coarse_cut : List ColumnMetadata → List ColumnMetadata → Bool
coarse_cut a b = alike coarse_column a b

-- what the entry answered by that rule (02, T-05: the coarser yes); no, where it is refused (DECISIONS, Forms 12)
unfoldable pub coarse_answer : List ColumnMetadata → List ColumnMetadata → Bool
coarse_answer a b = pick (is_refused (cut_refusal a b)) false (coarse_cut a b)

-- equal count, and equal CCSIDs, column by column (02, T-05)
unfoldable pub same_ccsids : List ColumnMetadata → List ColumnMetadata → Bool
same_ccsids a b = alike same_ccsid a b

-- the finer yes is exactly the coarser yes and equal CCSIDs, of the rule and of what the entry answers; so it implies the coarser (02, T-05)
pub record Finer (a b : List ColumnMetadata) : Type 0 where
  pub exactly : same_cut a b ≡ (coarse_cut a b && same_ccsids a b)
  pub implies : same_cut a b ≡ true → coarse_cut a b ≡ true
  pub answer : cut_answer a b ≡ (coarse_answer a b && same_ccsids a b)
  pub answer_implies : cut_answer a b ≡ true → coarse_answer a b ≡ true

-- a comparison of lists that is an equivalence: same cut, and the rule before it (02, T-05)
pub record Equivalence (same : List ColumnMetadata → List ColumnMetadata → Bool) : Type 0 where
  pub reflexive : (a : List ColumnMetadata) → same a a ≡ true
  pub symmetric : (a b : List ColumnMetadata) → same a b ≡ same b a
  pub transitive : (a b c : List ColumnMetadata) → same a b ≡ true → same b c ≡ true → same a c ≡ true
