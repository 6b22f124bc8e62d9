-- A line is put together text by text. No document defines its cells: they are those of the tool describe, "a table of its columns".
use Rattle.std.specs.Prelude.{◌≡◌, List, ◌++◌, ℕ, ◌+◌, ◌-◌, ◌≤◌, length, take, replicate}

-- a line with room for n bytes holds what it held, then the text, cut where the line ends (describe: "a table of its columns")
abbrev pub with_text : ℕ → List ℕ → List ℕ → List ℕ
with_text n line text = take n (line ++ text)

-- a lent line, of which the first `used` bytes are written, holds what it held, then the text, cut where the line ends: its first r bytes
-- (describe: "a table of its columns")
pub record Appended (before : List ℕ) (used : ℕ) (text after : List ℕ) (r : ℕ) : Type 0 where
  pub holds : take r after ≡ take (length before) (take used before ++ text)
  pub within : r ≤ length after
  pub as_long : length after ≡ length before

-- n blanks (describe: "a table of its columns")
abbrev pub blanks : ℕ → List ℕ
blanks n = replicate n 0x20

-- what stands behind the text of a cell, which is so wide: blanks up to the column's width, and two more (describe: "a table of its columns")
abbrev pub gap : ℕ → ℕ → List ℕ
gap width wide = blanks (2 + (width - wide))

-- a cell: its text, and the gap behind it (describe: "a table of its columns")
unfoldable pub padded : ℕ → List ℕ → List ℕ
padded width text = text ++ gap width (length text)
