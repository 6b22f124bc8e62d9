-- The description entry, and the one with code point: what they answer, and what they write (01, Answers; 01, Numbers of refusal).
use Rattle.std.specs.Prelude.{Bool, List, [], ◌∷◌, ℕ, ltb, leb, eqb, length}
use Rattle.search.specs.Search.{pick}
use Rattle.codepage.specs.Page.{Page}
use Rattle.outcome.specs.Refusal.{is_refused}
use Rattle.sqlcard.specs.declared.SqlCard.{SqlCard}
use Rattle.sqlcard.specs.Card.{success_card}
use Rattle.sqlcard.specs.Alone.{alone_card}
use Rattle.sqlcard.specs.Group.{group_card}
use Rattle.types.specs.declared.ColumnMetadata.{ColumnMetadata}
use Rattle.plan.specs.Choice.{Reading, choice}

-- what a reply is answered with: the refusal's number and values, 0 alone if none; the status record; the columns (01, Answers)
pub record Description : Type 0 where
  pub refusal : List ℕ
  pub card : SqlCard
  pub columns : List ColumnMetadata

-- a refusal: the status for success, and no columns (DECISIONS, Forms 12)
abbrev pub refused_with : List ℕ → Description
refused_with refusal = record { refusal = refusal; card = success_card; columns = [] }

-- the status of a reading: compact and scan read it alone on the whole reply, success if refused; the standard readings take the group's (01, Choice); so does the last reader (DECISIONS, Readings 29)
abbrev pub status_of : Page → List ℕ → Bool → SqlCard
status_of page s alone = pick alone (alone_card page s) (group_card page s)

-- what a reading answers to who lends `room` records: its refusal, or 6 with the count needed, or its columns (01, Numbers of refusal: description)
unfoldable pub answer_by : Page → ℕ → List ℕ → Reading → Description
answer_by page room s r =
    pick (is_refused r.refusal) (refused_with r.refusal)
    (pick (leb (length r.columns) room) (record { refusal = 0 ∷ []; card = status_of page s r.alone; columns = r.columns })
    (refused_with (6 ∷ length r.columns ∷ [])))

-- the description entry: 5 over 65,536 bytes, else as the chosen reading answers (01, Numbers of refusal: description; 01, Choice)
unfoldable pub description : Page → ℕ → List ℕ → Description
description page room s = pick (ltb 65536 (length s)) (refused_with (5 ∷ [])) (answer_by page room s (choice page s))

-- the entry with code point: 4 with it if it is not SQLDARD's 0x2411, then as above (01, Numbers of refusal: with code point; DRDA V1: SQLDARD)
unfoldable pub with_code_point : Page → ℕ → ℕ → List ℕ → Description
with_code_point page room point s = pick (eqb point 0x2411) (description page room s) (refused_with (4 ∷ point ∷ []))
