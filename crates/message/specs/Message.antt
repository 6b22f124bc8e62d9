-- A message's characters (DRDA V1, SQLCAXGRP: SQLERRMSG_m, SQLERRMSG_s; 01, SQLCODE: a message).
use Rattle.std.specs.Prelude.{Bool, true, false, not, ◌&&◌, ◌||◌, List, map, ℕ, ◌*◌, ◌/◌, leb, ltb, eqb, length}
use Rattle.search.specs.Search.{pick, count}
use Rattle.codepage.specs.Page.{Page, char_in}
use Rattle.text.specs.declared.Alphabet.{Alphabet}
use Rattle.text.specs.declared.Alphabet.TheVariants.{Ascii, Page037}
use Rattle.message.specs.Squeezed.{squeezed}
use Rattle.message.specs.declared.Behind.TheVariants.{Nothing}

-- a printable byte: 20 to 7E (01, SQLCODE: printables)
abbrev pub is_printable : ℕ → Bool
is_printable b = leb 0x20 b && leb b 0x7E

-- the bytes between a message's parts, 00 and FF (01, SQLCODE: bytes other than 00 and FF)
abbrev pub is_separator : ℕ → Bool
is_separator b = eqb b 0x00 || eqb b 0xFF

-- how many bytes are none of those (01, SQLCODE)
abbrev pub others : List ℕ → ℕ
others bs = count (λ b. not (is_separator b)) bs

-- at least 80 in 100 of them printable, rounded down; where there are none, no (01, SQLCODE: a message is ASCII)
unfoldable pub is_ascii_message : List ℕ → Bool
is_ascii_message bs = leb 80 (count is_printable bs * 100 / others bs)

-- which of the two alphabets of a message it is: ASCII, or else page 037 (01, SQLCODE: a message)
abbrev pub is_ascii : Alphabet → Bool
is_ascii Ascii = true
is_ascii Page037 = false

-- the character of a message's byte: all but printables are blanks in ASCII, else only 00 and FF (01, SQLCODE: a message)
unfoldable pub message_char : Page → Bool → ℕ → ℕ
message_char page ascii b = pick ascii (pick (is_printable b) b 0x20) (pick (is_separator b) 0x20 (char_in page b))

-- a message's characters, one a byte (01, SQLCODE: a message)
abbrev pub message_chars : Page → Bool → List ℕ → List ℕ
message_chars page ascii bs = map (message_char page ascii) bs

-- the text of a message in ASCII, or in the page (01, Answers: message text)
abbrev pub text_in : Page → Bool → List ℕ → List ℕ
text_in page ascii bs = squeezed Nothing (message_chars page ascii bs)

-- a message's text (01, Answers: message text)
unfoldable pub message_text : Page → List ℕ → List ℕ
message_text page bs = text_in page (is_ascii_message bs) bs

-- bytes whose text is not empty (01, Answers: the raw string whose text is not empty)
unfoldable pub has_text : Page → List ℕ → Bool
has_text page bs = ltb 0 (length (message_text page bs))
