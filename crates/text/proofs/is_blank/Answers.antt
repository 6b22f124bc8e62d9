-- The table has 1 at the characters that trimming drops: computed for every character.
use Rattle.std.proofs.Common.{ℕ, List, ◌∷◌, ◌++◌, eqb, get_or, rules}
use lib.Dec.{T}
use lib.ListN.{replicate}
use Rattle.search.specs.Search.{below}
use Rattle.search.proofs.Tests.{agree, agree_same, below_at}
use Rattle.codepage.specs.Blank.{is_blank}
use Rattle.text.proofs.is_blank.Goals as goal

abbrev blanks : List ℕ
blanks = replicate 9 0 ++ (replicate 5 1 ++ (replicate 18 0 ++ (1 ∷ replicate 100 0 ++ (1 ∷ replicate 26 0 ++ (1 ∷ replicate 95 0)))))

blanks_agree : T (below 256 (λ c. agree (eqb (get_or blanks c 0) 1) (is_blank c)))
blanks_agree = tt

pub returns : goal.returns
returns c = agree_same _ _ (below_at 256 (λ k. agree (eqb (get_or blanks k 0) 1) (is_blank k)) blanks_agree c.args.character (search rules))
