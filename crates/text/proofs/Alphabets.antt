-- A text of any alphabet's number is read as one of the alphabet that the number marks: what holds by `Alphabet` holds by the numbers.
use Prim.Native.Nat.{ℕ}
use mathlib.Core.Path.{◌≡◌, refl}
use mathlib.Core.Bool.{Bool, true, false}
use lib.Dec.{eqb}
use Rattle.search.specs.Search.{pick}
use Rattle.codepage.specs.Page.{page037, char_in}
use Rattle.text.specs.Alphabet.{alphabet_number, alphabet_of}
use Rattle.text.specs.declared.Alphabet.TheVariants.{Ascii, Page037}
use Rattle.text.specs.Chars.{char_of}

pub same_characters : (n b : ℕ) → char_of page037 (alphabet_number (alphabet_of n)) b ≡ char_of page037 n b
unfolding char_of
same_characters n b = go (eqb n 2)
  where
    go : (t : Bool) → pick (eqb (alphabet_number (pick t Page037 Ascii)) 2) (char_in page037 b) b ≡ pick t (char_in page037 b) b
    go true = refl
    go false = refl
