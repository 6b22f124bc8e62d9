-- Texts that may be the name of a column: what the name scan takes (01, Name scan).
use Rattle.std.specs.Prelude.{Bool, not, ◌&&◌, List, ℕ, leb, length}
use Rattle.search.specs.Search.{each}
use Rattle.codepage.specs.Page.{Page}
use Rattle.codepage.specs.Blank.{is_blank}
use Rattle.text.specs.Chars.{is_name_char}
use Rattle.text.specs.Text.{trimmed_of, text_of}
use Rattle.text.specs.Generated.{is_generated, text_chars}

-- so many name characters at most (01, Name scan: 1 to 128, 2 to 128 name characters)
abbrev pub longest : ℕ
longest = 128

-- 1 to 128 name characters, not generated (01, Name scan: a name of 1 to 128 name characters, not generated)
unfoldable pub is_identifier : List ℕ → Bool
is_identifier cs = leb 1 (length cs) && (leb (length cs) longest && (each is_name_char cs && not (is_generated cs)))

-- the text of the n bytes of s at p is such a name when trimmed (01, Name scan: when trimmed)
unfoldable pub is_identifier_at : Page → List ℕ → ℕ → ℕ → Bool
is_identifier_at page s p n = is_identifier (trimmed_of is_blank (text_chars page s (text_of page s p n)))
