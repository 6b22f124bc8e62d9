-- What functions inside promise each other, so that no sum of widths runs over.
use Rattle.std.specs.Prelude.{ℕ}

-- the most bytes of a value: a length of 65,535, twice (02, T-02)
abbrev pub most_value : ℕ
most_value = 131070

-- the most bytes of a column: those, 1 and 2 (02, T-02)
abbrev pub most_width : ℕ
most_width = 131073
