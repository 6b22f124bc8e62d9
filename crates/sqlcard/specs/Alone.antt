-- The status read alone: the entry parse_sqlcard_data (01, Layouts: SQLCA read alone; 01, Numbers of refusal: status alone).
use Rattle.std.specs.Prelude.{Bool, ◌||◌, List, [], ◌∷◌, ℕ, ltb, eqb, length, get_or}
use Rattle.search.specs.Search.{pick}
use Rattle.codepage.specs.Page.{Page}
use Rattle.strings.specs.declared.StringRead.{StringRead}
use Rattle.strings.specs.Strings.{strings_end, no_string}
use Rattle.outcome.specs.Refusal.{is_refused}
use Rattle.sqlca.specs.Extension.{is_extended, has_warnings}
use Rattle.sqlca.specs.Message.{message_at}
use Rattle.sqlcard.specs.declared.SqlCard.{SqlCard}
use Rattle.sqlcard.specs.Card.{success_card, card_with}

-- the first byte FF is null (01, Layouts: SQLCA)
abbrev pub starts_null : List ℕ → Bool
starts_null s = eqb (get_or s 0 0) 0xFF

-- so is an empty reply, read alone (01, Numbers of refusal: empty is success)
abbrev pub is_null : List ℕ → Bool
is_null s = eqb (length s) 0 || starts_null s

-- the strings follow the warnings, or the numbers where there are no warnings (01, Layouts: SQLCA read alone)
abbrev pub strings_start : List ℕ → ℕ
strings_start s = pick (has_warnings s) 54 43

-- past the status: three strings where it is extended, else its 19 bytes (01, Layouts: SQLCA; 01, Numbers of refusal: 2, the expected length)
unfoldable pub alone_end : List ℕ → ℕ
alone_end s = pick (is_extended s) (strings_end 3 s (strings_start s)) 19

-- the message where it is extended, else none (01, Answers: a message)
unfoldable pub alone_message : Page → List ℕ → StringRead
alone_message page s = pick (is_extended s) (message_at page s (strings_start s)) (no_string 19)

-- 5; empty and null are success; 3 for 1 to 18 bytes; 2 with expected and actual (01, Numbers of refusal: status alone)
unfoldable pub alone_refusal : List ℕ → List ℕ
alone_refusal s =
    pick (ltb 65536 (length s)) (5 ∷ [])
    (pick (is_null s) (0 ∷ [])
    (pick (ltb (length s) 19) (3 ∷ []) (pick (ltb (length s) (alone_end s)) (2 ∷ alone_end s ∷ length s ∷ []) (0 ∷ []))))

-- the status record; that for success where it is null (01, Answers), and where it is refused (DECISIONS, Forms 12)
unfoldable pub alone_card : Page → List ℕ → SqlCard
alone_card page s = pick (is_refused (alone_refusal s) || is_null s) success_card (card_with page s (alone_message page s))
