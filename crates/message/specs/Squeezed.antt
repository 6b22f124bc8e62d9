-- Runs of blanks as one 0x20, and none at the ends (01, Answers: message text). proofs/Words.antt shows that this is to split the characters
-- at blanks and to join the words with one 0x20 between, as the Rust does.
use Rattle.std.specs.Prelude.{Bool, true, false, List, [], ◌∷◌, ◌++◌, ℕ}
use Rattle.search.specs.Search.{pick}
use Rattle.codepage.specs.Blank.{is_blank}
use Rattle.message.specs.declared.Behind.{Behind}
use Rattle.message.specs.declared.Behind.TheVariants.{Nothing, Character, Blanks}

-- where the next character stands, by whether this one is a blank: a run begins behind a character alone (01, Answers: none at the ends)
abbrev pub after : Bool → Behind → Behind
after false b = Character
after true Nothing = Nothing
after true Character = Blanks
after true Blanks = Blanks

-- a character that stands behind blanks has a gap before it (01, Answers: runs of blanks)
abbrev pub is_gap : Behind → Bool
is_gap Nothing = false
is_gap Character = false
is_gap Blanks = true

-- what a character adds: nothing if it is a blank, else itself, and before it one 0x20 for the gap (01, Answers: become one 0x20)
unfoldable pub added : Behind → ℕ → List ℕ
added b c = pick (is_blank c) [] (pick (is_gap b) (0x20 ∷ c ∷ []) (c ∷ []))

-- the characters with their runs of blanks squeezed, from a place behind b on (01, Answers: message text)
abbrev pub squeezed : Behind → List ℕ → List ℕ
squeezed b [] = []
squeezed b (c ∷ cs) = added b c ++ squeezed (after (is_blank c) b) cs
