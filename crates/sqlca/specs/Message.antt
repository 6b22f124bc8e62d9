-- The message behind the extension's numbers and warnings (DRDA V1, SQLCAXGRP: SQLRDBNAME, SQLERRMSG_m, SQLERRMSG_s; 01, Answers: a message).
use Rattle.std.specs.Prelude.{List, ℕ, take, drop}
use Rattle.search.specs.Search.{pick}
use Rattle.codepage.specs.Page.{Page}
use Rattle.strings.specs.declared.StringRead.{StringRead}
use Rattle.strings.specs.Strings.{string_end, strings_end, string_at, no_string}
use Rattle.message.specs.Message.{has_text}

-- the bytes of a string (01, Answers: the raw string)
abbrev pub bytes_of : List ℕ → StringRead → List ℕ
bytes_of s r = take r.length (drop r.place s)

-- of m and s the first whose text is not empty, else 0, 0; past both (01, Answers: a message)
unfoldable pub first_text : Page → List ℕ → StringRead → StringRead → StringRead
first_text page s m t =
    pick (has_text page (bytes_of s m)) (record { place = m.place; length = m.length; next = t.next })
    (pick (has_text page (bytes_of s t)) t (no_string t.next))

-- the message of the three strings at p (DRDA V1, SQLCAXGRP: SQLRDBNAME, SQLERRMSG_m, SQLERRMSG_s)
unfoldable pub message_at : Page → List ℕ → ℕ → StringRead
message_at page s p = first_text page s (string_at s (string_end s p)) (string_at s (strings_end 2 s p))
