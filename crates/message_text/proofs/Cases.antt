-- Messages, their texts and the entry's answers, by computation.
use mathlib.Core.Path.{◌≡◌, refl}
use mathlib.Core.Bool.{true, false}
use mathlib.Core.List.{List, [], ◌∷◌}
use Prim.Native.Nat.{ℕ}
use lib.ListN.{length}
use Rattle.codepage.specs.Page.{page037, table037}
use Rattle.message.specs.Message.{is_ascii_message, message_char, message_text, has_text}
use Rattle.message.specs.Squeezed.{added}
use Rattle.message_text.specs.Answer.{message_refusal, message_length, message_written}

-- 00 and FF are blanks: A B
pub case_ascii : message_text page037 (0x00 ∷ 0x20 ∷ 0x41 ∷ 0xFF ∷ 0xFF ∷ 0x42 ∷ 0x20 ∷ []) ≡ 0x41 ∷ 0x20 ∷ 0x42 ∷ []
unfolding message_text is_ascii_message message_char added
case_ascii = refl

-- C1 40 40 C2 is A B in page 037
pub case_page : message_text page037 (0xC1 ∷ 0x40 ∷ 0x40 ∷ 0xC2 ∷ []) ≡ 0x41 ∷ 0x20 ∷ 0x42 ∷ []
unfolding message_text is_ascii_message message_char added table037
case_page = refl

-- four printables of five bytes are ASCII, three of four are not
pub case_eighty : is_ascii_message (0x41 ∷ 0x42 ∷ 0x43 ∷ 0x44 ∷ 0x80 ∷ []) ≡ true
unfolding is_ascii_message
case_eighty = refl

pub case_seventy_five : is_ascii_message (0x41 ∷ 0x42 ∷ 0x43 ∷ 0x80 ∷ []) ≡ false
unfolding is_ascii_message
case_seventy_five = refl

-- bytes 00 alone: no text
pub case_zeros : has_text page037 (0x00 ∷ 0x00 ∷ 0x00 ∷ []) ≡ false
unfolding has_text message_text is_ascii_message message_char added table037
case_zeros = refl

abbrev reply : List ℕ
reply = 0xFF ∷ 0xC1 ∷ 0x40 ∷ 0x40 ∷ 0xC2 ∷ []

-- what is asked of n bytes at 1 of that reply, with this buffer, is answered so
pub record Answered (n : ℕ) (buffer refusal : List ℕ) (len : ℕ) (left : List ℕ) : Type 0 where
  pub refuses : message_refusal page037 reply 1 n (length buffer) ≡ refusal
  pub gives : message_length page037 reply 1 n (length buffer) ≡ len
  pub leaves : message_written page037 reply 1 n buffer ≡ left

-- A B in a buffer of four bytes, the last of which stays
pub case_written : Answered 4 (9 ∷ 9 ∷ 9 ∷ 9 ∷ []) (0 ∷ []) 3 (0x41 ∷ 0x20 ∷ 0x42 ∷ 9 ∷ [])
unfolding message_refusal message_length message_written message_text is_ascii_message message_char added table037
case_written = record { refuses = refl; gives = refl; leaves = refl }

-- two bytes of room are too few for three characters
pub case_short : Answered 4 (9 ∷ 9 ∷ []) (6 ∷ 3 ∷ []) 0 (9 ∷ 9 ∷ [])
unfolding message_refusal message_length message_written message_text is_ascii_message message_char added table037
case_short = record { refuses = refl; gives = refl; leaves = refl }

-- a fifth byte lies outside the reply
pub case_outside : Answered 5 (9 ∷ 9 ∷ []) (7 ∷ []) 0 (9 ∷ 9 ∷ [])
unfolding message_refusal message_length message_written message_text is_ascii_message message_char added table037
case_outside = record { refuses = refl; gives = refl; leaves = refl }
