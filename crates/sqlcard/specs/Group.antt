-- The SQLCA as the group at the start of a reply: the entry consume_sqlca_group (01, Layouts: SQLCA read as a group).
use Rattle.std.specs.Prelude.{List, [], ◌∷◌, ℕ, ltb, eqb, length, get_or, take}
use Rattle.search.specs.Search.{pick}
use Rattle.codepage.specs.Page.{Page}
use Rattle.strings.specs.declared.StringRead.{StringRead}
use Rattle.strings.specs.Strings.{strings_end, no_string}
use Rattle.outcome.specs.Refusal.{is_refused}
use Rattle.sqlca.specs.Message.{message_at}
use Rattle.sqlcard.specs.declared.SqlCard.{SqlCard}
use Rattle.sqlcard.specs.Card.{success_card}
use Rattle.sqlcard.specs.Alone.{starts_null, alone_card}

-- past an extension that is due: it must be there in full, and is asked for at its first string's length, bytes 54 and 55 (01, Layouts: SQLCA)
abbrev pub extension_end : List ℕ → ℕ
extension_end s = pick (ltb (length s) 56) 56 (strings_end 3 s 54)

-- past the group: 1 byte where it is null, else 19 and the extension that is due (DRDA V1: SQLCAGRP; 01, Layouts: SQLCA)
unfoldable pub group_end : List ℕ → ℕ
group_end s =
    pick (starts_null s) 1 (pick (ltb (length s) 19) 19 (pick (eqb (get_or s 18 0) 0xFF) 19 (extension_end s)))

-- the group's message, read where it stands; next is past the group (DRDA V1, SQLCAXGRP; 01, Answers: a message)
unfoldable pub group_message : Page → List ℕ → StringRead
group_message page s =
    pick (eqb (get_or s 18 0) 0xFF) (no_string 19) (pick (ltb (length s) 56) (no_string 56) (message_at page s 54))

-- 5; 2 with expected and actual, empty needs 19 (01, Numbers of refusal: SQLCA group)
unfoldable pub group_refusal : List ℕ → List ℕ
group_refusal s =
    pick (ltb 65536 (length s)) (5 ∷ []) (pick (ltb (length s) (group_end s)) (2 ∷ group_end s ∷ length s ∷ []) (0 ∷ []))

-- the bytes of the group (01, Layouts: SQLCA)
abbrev pub group_bytes : List ℕ → List ℕ
group_bytes s = take (group_end s) s

-- the status that the group's own bytes give (01, Numbers of refusal: SQLCA group gives the status); that for success where it is refused (DECISIONS, Forms 12)
unfoldable pub group_card : Page → List ℕ → SqlCard
group_card page s = pick (is_refused (group_refusal s)) success_card (alone_card page (group_bytes s))

-- and the group's length (01, Numbers of refusal: SQLCA group); 0 where it is refused (DECISIONS, Forms 12)
unfoldable pub group_length : List ℕ → ℕ
group_length s = pick (is_refused (group_refusal s)) 0 (group_end s)
