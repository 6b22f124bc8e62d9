-- Characters of a text, and tests on them.
use Rattle.std.specs.Prelude.{Bool, ◌&&◌, ◌||◌, List, map, ℕ, leb, eqb, ltb}
use Rattle.search.specs.Search.{pick, each}
use Rattle.codepage.specs.Page.{Page, char_in}
use Rattle.codepage.specs.Blank.{is_blank}

-- bytes that are ASCII: all below 80 (01, Parts 2: decode_text)
unfoldable pub is_ascii : List ℕ → Bool
is_ascii bs = each (λ b. ltb b 0x80) bs

-- an ASCII letter, digit, _ $ # or @ (01, Parts 2: a name character)
abbrev pub is_name_char : ℕ → Bool
is_name_char c =
    (leb 0x41 c && leb c 0x5A) || (leb 0x61 c && leb c 0x7A) || (leb 0x30 c && leb c 0x39) || eqb c 0x5F || eqb c 0x24 || eqb c 0x23
    || eqb c 0x40

-- an ASCII digit (01, Parts 2: COL and one or more digits)
abbrev pub is_digit : ℕ → Bool
is_digit c = leb 0x30 c && leb c 0x39

-- the character of a byte of a text: the page's where the text is in the page's alphabet, else the byte itself (01, Answers)
unfoldable pub char_of : Page → ℕ → ℕ → ℕ
char_of page alphabet b = pick (eqb alphabet page.alphabet) (char_in page b) b

-- the characters of a text, one a byte (01, Parts 1)
abbrev pub chars : Page → ℕ → List ℕ → List ℕ
chars page alphabet bs = map (char_of page alphabet) bs

-- a byte of a text whose character is a digit (01, Parts 2)
abbrev pub is_digit_of : Page → ℕ → ℕ → Bool
is_digit_of page alphabet b = is_digit (char_of page alphabet b)

-- a byte of a text whose character is a name character (01, Parts 2: a name character)
abbrev pub is_name_of : Page → ℕ → ℕ → Bool
is_name_of page alphabet b = is_name_char (char_of page alphabet b)

-- a byte of a text whose character trimming drops (01, Parts 2: decode_text; 01, Name scan: when trimmed)
abbrev pub is_blank_of : Page → ℕ → ℕ → Bool
is_blank_of page alphabet b = is_blank (char_of page alphabet b)
