-- What T-02 made of the widest row; proved in proofs/Rows.antt.
use Rattle.std.specs.Prelude.{◌≡◌, Bool, true, not, List, [], ◌∷◌, ℕ, ◌+◌}
use Rattle.search.specs.Search.{pick, each}
use Rattle.types.specs.declared.ColumnMetadata.{ColumnMetadata}
use Rattle.widths.specs.Width.{is_varying, is_graphic}
use Rattle.columns.specs.Row.{row_width, row_refusal, row_answer}

-- the sum before T-02: every length once (01, Answers: widest row)
unfoldable pub plain_width : List ColumnMetadata → ℕ
plain_width [] = 0
plain_width (c ∷ l) = c.length + pick c.nullable 1 0 + pick (is_varying c.db2_type) 2 0 + plain_width l

-- the lengths of the Graphic and VarGraphic columns together (02, T-02)
unfoldable pub graphic_lengths : List ColumnMetadata → ℕ
graphic_lengths [] = 0
graphic_lengths (c ∷ l) = pick (is_graphic c.db2_type) c.length 0 + graphic_lengths l

-- no column is Graphic or VarGraphic (02, T-02)
abbrev pub has_no_graphic : List ColumnMetadata → Bool
has_no_graphic l = each (λ c. not (is_graphic c.db2_type)) l

-- the new sum is the old one and those lengths, and the old one without such columns (02, T-02)
pub record Grown (l : List ColumnMetadata) : Type 0 where
  pub sum : row_width l ≡ plain_width l + graphic_lengths l
  pub kept : has_no_graphic l ≡ true → row_width l ≡ plain_width l
  -- a list that is not refused is answered the sum; which are refused, and how, T-02 does not touch
  pub answer : row_refusal l ≡ 0 ∷ [] → row_answer l ≡ plain_width l + graphic_lengths l
