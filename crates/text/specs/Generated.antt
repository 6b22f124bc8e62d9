-- Generated names, as the reader itself names a column without a name (01, Parts 2).
use Rattle.std.specs.Prelude.{Bool, ◌&&◌, ◌||◌, List, ℕ, eqb, ltb, length, get_or, drop}
use Rattle.search.specs.Search.{each}
use Rattle.codepage.specs.Page.{Page}
use Rattle.text.specs.declared.Text.{Text}
use Rattle.text.specs.Chars.{is_digit, chars}
use Rattle.text.specs.Text.{text_of, bytes_of}

-- COL in front (01, Parts 2)
abbrev pub starts_col : List ℕ → Bool
starts_col cs = eqb (get_or cs 0 0) 0x43 && eqb (get_or cs 1 0) 0x4F && eqb (get_or cs 2 0) 0x4C

-- COL and one or more digits (01, Parts 2: a generated name)
unfoldable pub is_generated : List ℕ → Bool
is_generated cs = ltb 3 (length cs) && starts_col cs && each is_digit (drop 3 cs)

-- the characters of a text that lies in the reply s (01, Answers: place, length, alphabet)
abbrev pub text_chars : Page → List ℕ → Text → List ℕ
text_chars page s t = chars page t.alphabet (bytes_of s t)

-- the characters of the text of all these bytes (01, Parts 2: decode_text)
abbrev pub decoded : Page → List ℕ → List ℕ
decoded page bs = text_chars page bs (text_of page bs 0 (length bs))

-- a name that the reader gave itself, alphabet 0, or one that reads like it (01, Answers: 0 generated; 01, Parts 2: a generated name)
unfoldable pub is_generated_text : Page → List ℕ → Text → Bool
is_generated_text page s t = eqb t.alphabet 0 || is_generated (text_chars page s t)
