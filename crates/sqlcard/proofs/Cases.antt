-- The shortest replies, computed.
use mathlib.Core.Path.{◌≡◌, refl}
use mathlib.Core.List.{List, [], ◌∷◌}
use Prim.Native.Nat.{ℕ}
use lib.ListN.{replicate}
use Rattle.codepage.specs.Page.{page037}
use Rattle.sqlca.specs.Extension.{is_extended}
use Rattle.sqlcard.specs.Card.{success_card}
use Rattle.sqlcard.specs.Alone.{alone_end, alone_refusal, alone_card}
use Rattle.sqlcard.specs.Group.{group_end, group_refusal, group_length}

-- refusal and length of the group
pub record Group (s refusal : List ℕ) (taken : ℕ) : Type 0 where
  pub refuses : group_refusal s ≡ refusal
  pub takes : group_length s ≡ taken

-- one byte: 2, 19 against 1; read alone, 3
pub case_short : Group (0x00 ∷ []) (2 ∷ 19 ∷ 1 ∷ []) 0
unfolding group_end group_refusal group_length
case_short = record { refuses = refl; takes = refl }

pub case_short_alone : alone_refusal (0x00 ∷ []) ≡ 3 ∷ []
unfolding alone_refusal
case_short_alone = refl

-- an empty reply: 2, 19 against 0; read alone, success
pub case_empty : Group [] (2 ∷ 19 ∷ 0 ∷ []) 0
unfolding group_end group_refusal group_length
case_empty = record { refuses = refl; takes = refl }

pub case_empty_alone : (alone_refusal [] ≡ 0 ∷ []) × (alone_card page037 [] ≡ success_card)
unfolding alone_refusal alone_card
case_empty_alone = (refl, refl)

-- 19 bytes of 00: an extension is due, 2, 56 against 19; read alone, it counts as absent
pub case_zeros : Group (replicate 19 0x00) (2 ∷ 56 ∷ 19 ∷ []) 0
unfolding group_end group_refusal group_length
case_zeros = record { refuses = refl; takes = refl }

pub case_zeros_alone : alone_refusal (replicate 19 0x00) ≡ 0 ∷ []
unfolding alone_refusal alone_end is_extended
case_zeros_alone = refl
