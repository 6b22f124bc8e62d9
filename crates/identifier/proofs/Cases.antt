-- Small strings, by computation: which of them may be names.
use mathlib.Core.Path.{◌≡◌, refl}
use mathlib.Core.Bool.{Bool, true, false}
use mathlib.Core.List.{List, [], ◌∷◌}
use Prim.Native.Nat.{ℕ}
use lib.ListN.{length}
use Rattle.codepage.specs.Page.{page037, table037}
use Rattle.codepage.specs.Blank.{is_blank_in}
use Rattle.text.specs.Chars.{is_ascii, char_of}
use Rattle.text.specs.Text.{placed, leading, kept, text_on}
use Rattle.text.specs.Generated.{is_generated}
use Rattle.identifier.specs.Identifier.{is_identifier, is_identifier_at}

-- to unfold this is to unfold the whole test, for a proof that computes it
unfoldable pub everything : Unit {0}
unfolding table037 is_blank_in is_ascii char_of placed leading kept text_on is_generated is_identifier is_identifier_at
everything = tt

abbrev is_name_of_bytes : List ℕ → Bool
is_name_of_bytes bs = is_identifier_at page037 bs 0 (length bs)

-- a blank and AB in ASCII: an ASCII text is not trimmed, but tested as if it were
pub case_blank_ab : is_name_of_bytes (0x20 ∷ 0x41 ∷ 0x42 ∷ []) ≡ true
unfolding everything
case_blank_ab = refl

-- COL7
pub case_col7 : is_name_of_bytes (0x43 ∷ 0x4F ∷ 0x4C ∷ 0x37 ∷ []) ≡ false
unfolding everything
case_col7 = refl

-- a blank and COL7, a blank and A, in page 037
pub case_page_col7 : is_name_of_bytes (0x40 ∷ 0xC3 ∷ 0xD6 ∷ 0xD3 ∷ 0xF7 ∷ []) ≡ false
unfolding everything
case_page_col7 = refl

pub case_page_a : is_name_of_bytes (0x40 ∷ 0xC1 ∷ []) ≡ true
unfolding everything
case_page_a = refl

-- 5B is [ in ASCII and $ in page 037: alone it is ASCII, beside a byte above 7F it is not
pub case_bracket : is_name_of_bytes (0x5B ∷ []) ≡ false
unfolding everything
case_bracket = refl

pub case_dollar : is_name_of_bytes (0x5B ∷ 0xC1 ∷ []) ≡ true
unfolding everything
case_dollar = refl

-- 85 is a blank character, but as a byte of page 037 it is e
pub case_e : is_name_of_bytes (0x85 ∷ 0x6D ∷ []) ≡ true
unfolding everything
case_e = refl
