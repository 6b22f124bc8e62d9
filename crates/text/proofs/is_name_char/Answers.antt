-- The bits are those of the name characters: computed for every character.
use Rattle.std.proofs.Common.{ℕ, List, [], ◌∷◌, ◌/◌, ◌%◌, ◌^◌, Bool, eqb, get_or, rules}
use lib.Dec.{T}
use Rattle.search.specs.Search.{below}
use Rattle.search.proofs.Tests.{agree, agree_same, below_at}
use Rattle.text.specs.Chars.{is_name_char}
use Rattle.text.proofs.is_name_char.Goals as goal

abbrev name_chars : List ℕ
name_chars = 0x03FF_0018_0000_0000 ∷ 0x07FF_FFFE_87FF_FFFF ∷ 0 ∷ 0 ∷ []

abbrev bit_test : ℕ → Bool
bit_test c = eqb (get_or name_chars (c / 64) 0 / 2 ^ (c % 64) % 2) 1

bits_agree : T (below 256 (λ c. agree (bit_test c) (is_name_char c)))
bits_agree = tt

pub returns : goal.returns
returns c = agree_same _ _ (below_at 256 (λ k. agree (bit_test k) (is_name_char k)) bits_agree c.args.character (search rules))
