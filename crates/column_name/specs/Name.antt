-- The text of a column's name, and what the entry name text leaves in the buffer (01, Answers: name text; 01, Numbers of refusal).
use Rattle.std.specs.Prelude.{List, ◌∷◌, ℕ, ◌+◌, eqb}
use Rattle.search.specs.Search.{pick}
use Rattle.codepage.specs.Page.{Page}
use Rattle.outcome.specs.Refusal.{is_refused}
use Rattle.outcome.specs.Room.{room_refusal, room_length, room_written}
use Rattle.decimal.specs.Decimal.{decimal_of}
use Rattle.text.specs.Chars.{chars}
use Rattle.text.specs.declared.Text.{Text}
use Rattle.types.specs.declared.ColumnMetadata.{ColumnMetadata}
use Rattle.column_name.specs.Part.{part_refusal, own_bytes}

-- COL and number + 1 in decimal (01, Numbers of refusal: alphabet 0)
unfoldable pub generated_name : ℕ → List ℕ
generated_name number = 0x43 ∷ 0x4F ∷ 0x4C ∷ decimal_of (number + 1)

-- the text t of a column of this number: generated for alphabet 0, else its bytes' characters, untrimmed (01, Numbers of refusal: name part and name text)
unfoldable pub given_text : Page → List ℕ → ℕ → Text → List ℕ
given_text page s number t = pick (eqb t.alphabet 0) (generated_name number) (chars page t.alphabet (own_bytes s t))

-- as name part refuses; then 6 with the length needed; else 0 (01, Numbers of refusal: name part and name text)
unfoldable pub given_refusal : Page → List ℕ → ℕ → Text → ℕ → List ℕ
given_refusal page s number t room = pick (is_refused (part_refusal s t)) (part_refusal s t) (room_refusal (given_text page s number t) room)

-- the text's length (01, Answers: name text); 0 where refused (DECISIONS, Forms 12)
unfoldable pub given_length : Page → List ℕ → ℕ → Text → ℕ → ℕ
given_length page s number t room = pick (is_refused (part_refusal s t)) 0 (room_length (given_text page s number t) room)

-- the text over the buffer's front; the buffer as it was where refused (01, Answers: name text; demand 1: a refusal changes no lent list or buffer)
unfoldable pub given_written : Page → List ℕ → ℕ → Text → List ℕ → List ℕ
given_written page s number t buffer = pick (is_refused (part_refusal s t)) buffer (room_written (given_text page s number t) buffer)

-- a column's name is the text of its number and name (01, Answers: name text)
unfoldable pub name_of : Page → List ℕ → ColumnMetadata → List ℕ
name_of page s c = given_text page s c.number c.name

-- name text's refusal for a column: that of its number and name (01, Numbers of refusal: name part and name text)
unfoldable pub name_refusal : Page → List ℕ → ColumnMetadata → ℕ → List ℕ
name_refusal page s c room = given_refusal page s c.number c.name room

-- the length that name text answers for a column (01, Answers: name text); 0 where refused (DECISIONS, Forms 12)
unfoldable pub name_length : Page → List ℕ → ColumnMetadata → ℕ → ℕ
name_length page s c room = given_length page s c.number c.name room

-- the buffer as name text leaves it for a column; as it was where refused (01, Answers: name text; demand 1: a refusal changes no lent list or buffer)
unfoldable pub name_written : Page → List ℕ → ColumnMetadata → List ℕ → List ℕ
name_written page s c buffer = given_written page s c.number c.name buffer
