-- The alphabets of texts, and the numbers that mark them (01, Answers).
use Rattle.std.specs.Prelude.{ℕ, eqb}
use Rattle.search.specs.Search.{pick}
use Rattle.text.specs.declared.Alphabet.{Alphabet}
use Rattle.text.specs.declared.Alphabet.TheVariants.{Ascii, Page037}

-- the number of a text's alphabet: 1 ASCII, 2 page 037 (01, Answers)
abbrev pub alphabet_number : Alphabet → ℕ
alphabet_number Ascii = 1
alphabet_number Page037 = 2

-- how the bytes of a text of alphabet n are read: those of any other than page 037 stand for themselves (01, Answers)
abbrev pub alphabet_of : ℕ → Alphabet
alphabet_of n = pick (eqb n 2) Page037 Ascii
