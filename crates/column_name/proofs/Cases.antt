-- Names of columns by computation: DOOR in page 037, generated names, and a name that begins with a blank.
use mathlib.Core.Path.{◌≡◌, refl}
use mathlib.Core.List.{List, [], ◌∷◌}
use Prim.Native.Nat.{ℕ}
use lib.ListN.{length}
use Rattle.codepage.specs.Page.{page037, table037}
use Rattle.decimal.specs.Decimal.{digits_of, decimal_of}
use Rattle.outcome.specs.Room.{room_refusal, room_length, room_written}
use Rattle.text.specs.Chars.{char_of}
use Rattle.text.specs.Text.{text_is}
use Rattle.text.specs.declared.Text.{Text}
use Rattle.types.specs.declared.ColumnMetadata.{ColumnMetadata}
use Rattle.column_name.specs.Part.{part_refusal, part_of}
use Rattle.column_name.specs.Name.{generated_name, given_text, given_refusal, given_length, given_written, name_refusal, name_length, name_written}

-- COL1, the name of the first column
pub case_col1 : generated_name 0 ≡ 0x43 ∷ 0x4F ∷ 0x4C ∷ 0x31 ∷ []
unfolding generated_name decimal_of digits_of
case_col1 = refl

-- COL65536, the longest
pub case_col65536 : generated_name 65535 ≡ 0x43 ∷ 0x4F ∷ 0x4C ∷ 0x36 ∷ 0x35 ∷ 0x35 ∷ 0x33 ∷ 0x36 ∷ []
unfolding generated_name decimal_of digits_of
case_col65536 = refl

-- the name t of this reply is refused so, and its own bytes are these
pub record Lies (s : List ℕ) (t : Text) (refusal bytes : List ℕ) : Type 0 where
  pub refuses : part_refusal s t ≡ refusal
  pub gives : part_of s t ≡ bytes

-- the text of the column's name in this reply, written to this buffer, is answered so
pub record Answered (s : List ℕ) (c : ColumnMetadata) (buffer refusal : List ℕ) (n : ℕ) (left : List ℕ) : Type 0 where
  pub refuses : name_refusal page037 s c (length buffer) ≡ refusal
  pub gives : name_length page037 s c (length buffer) ≡ n
  pub leaves : name_written page037 s c buffer ≡ left

abbrev door : List ℕ
door = 0xFF ∷ 0xC4 ∷ 0xD6 ∷ 0xD6 ∷ 0xD9 ∷ []

pub case_part : Lies door (text_is 1 4 2) (0 ∷ []) (0xC4 ∷ 0xD6 ∷ 0xD6 ∷ 0xD9 ∷ [])
unfolding part_refusal part_of
case_part = record { refuses = refl; gives = refl }

-- one byte more lies outside the reply
pub case_outside : Lies door (text_is 1 5 2) (7 ∷ []) []
unfolding part_refusal part_of
case_outside = record { refuses = refl; gives = refl }

-- so it does of a name that has no bytes
pub case_outside_generated : Lies door (text_is 1 5 0) (7 ∷ []) []
unfolding part_refusal part_of
case_outside_generated = record { refuses = refl; gives = refl }

-- no alphabet has the number 3
pub case_alphabet : Lies door (text_is 1 4 3) (7 ∷ []) []
unfolding part_refusal part_of
case_alphabet = record { refuses = refl; gives = refl }

module _ (c : ColumnMetadata) where
  -- DOOR in a buffer of five bytes, the last of which stays
  pub case_door : c.name ≡ text_is 1 4 2 → Answered door c (9 ∷ 9 ∷ 9 ∷ 9 ∷ 9 ∷ []) (0 ∷ []) 4 (0x44 ∷ 0x4F ∷ 0x4F ∷ 0x52 ∷ 9 ∷ [])
  unfolding part_refusal name_refusal name_length name_written given_refusal given_length given_written room_refusal room_length room_written given_text char_of table037
  case_door e = record { refuses = rw e refl; gives = rw e refl; leaves = rw e refl }

  -- three bytes are too few
  pub case_short : c.name ≡ text_is 1 4 2 → Answered door c (9 ∷ 9 ∷ 9 ∷ []) (6 ∷ 4 ∷ []) 0 (9 ∷ 9 ∷ 9 ∷ [])
  unfolding part_refusal name_refusal name_length name_written given_refusal given_length given_written room_refusal room_length room_written given_text char_of table037
  case_short e = record { refuses = rw e refl; gives = rw e refl; leaves = rw e refl }

  -- an ASCII name keeps the blank that it begins with
  pub case_blank : c.name ≡ text_is 0 2 1 → Answered (0x20 ∷ 0x41 ∷ []) c (9 ∷ 9 ∷ []) (0 ∷ []) 2 (0x20 ∷ 0x41 ∷ [])
  unfolding part_refusal name_refusal name_length name_written given_refusal given_length given_written room_refusal room_length room_written given_text char_of
  case_blank e = record { refuses = rw e refl; gives = rw e refl; leaves = rw e refl }

  -- a column without a name, the tenth
  pub case_col10 : c.name ≡ text_is 0 0 0 → c.number ≡ 9
      → Answered [] c (9 ∷ 9 ∷ 9 ∷ 9 ∷ 9 ∷ []) (0 ∷ []) 5 (0x43 ∷ 0x4F ∷ 0x4C ∷ 0x31 ∷ 0x30 ∷ [])
  unfolding part_refusal name_refusal name_length name_written given_refusal given_length given_written room_refusal room_length room_written given_text generated_name decimal_of digits_of
  case_col10 e f = record { refuses = rw (e, f) refl; gives = rw (e, f) refl; leaves = rw (e, f) refl }
