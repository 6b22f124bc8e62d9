-- What the lettered cases of document 01 ask, and how it is answered: by the definitions that the entries' promises cite.
use Rattle.std.specs.Prelude.{List, ◌∷◌, ◌++◌, map, ℕ, ℤ, length, replicate}
use Rattle.codepage.specs.Page.{page037}
use Rattle.text.specs.declared.Text.{Text}
use Rattle.text.specs.Text.{text_of}
use Rattle.text.specs.Generated.{text_chars}
use Rattle.types.specs.declared.ColumnMetadata.{ColumnMetadata}
use Rattle.sqlda.specs.Types.{sqlda_type}
use Rattle.sqlca.specs.Code.{code_of}
use Rattle.compact.specs.Compact.{compact_at}
use Rattle.plan.specs.Description.{Description, description}
use Rattle.column_name.specs.Name.{name_of}
use Rattle.columns.specs.Row.{row_refusal, row_answer}

-- a question that a lettered case asks (01, Replies on the edge)
pub data Question : Type 0 where
  -- how many bytes this reply has
  Size : List ℕ → Question
  -- what the description entry answers to this reply
  Describe : List ℕ → Question
  -- how the columns that it gives are called
  Names : List ℕ → Question
  -- how wide their row can be
  WidestRow : List ℕ → Question
  -- which text these bytes are
  Decode : List ℕ → Question
  -- which SQLCODE these four bytes are
  Sqlcode : List ℕ → Question
  -- which CCSID these two bytes are in compact
  CompactCcsid : List ℕ → Question
  -- how long a Decimal of this precision is
  DecimalLength : ℕ → Question

-- the answer to one (01, Answers)
pub data Answer : Type 0 where
  -- refusal, status record and columns
  Described : Description → Answer
  -- the characters of each name
  Called : List (List ℕ) → Answer
  -- refusal and sum
  Wide : List ℕ → ℕ → Answer
  -- place, length and alphabet, and the characters
  Decoded : Text → List ℕ → Answer
  Code : ℤ → Answer
  Number : ℕ → Answer

-- the columns that the description entry gives who lends one record (01, Answers)
abbrev pub list_of : List ℕ → List ColumnMetadata
list_of s = (description page037 1 s).columns

-- the text of all these bytes (01, Parts 2: decode_text)
abbrev pub whole_text : List ℕ → Text
whole_text bs = text_of page037 bs 0 (length bs)

-- each question by its definition: SQLCODE behind a flag, the CCSID at the end of 16 bytes, a Decimal as 484 (01, Replies on the edge)
abbrev pub answer : Question → Answer
answer (Size s) = Number (length s)
answer (Describe s) = Described (description page037 1 s)
answer (Names s) = Called (map (name_of page037 s) (list_of s))
answer (WidestRow s) = Wide (row_refusal (list_of s)) (row_answer (list_of s))
answer (Decode bs) = Decoded (whole_text bs) (text_chars page037 bs (whole_text bs))
answer (Sqlcode bs) = Code (code_of (0x00 ∷ bs))
answer (CompactCcsid bs) = Number (compact_at (replicate 14 0 ++ bs) 0 16).ccsid
answer (DecimalLength p) = Number (sqlda_type 484 0 p 0 0).length
