-- What the entry message text answers, and what it leaves in the buffer (01, Answers and Numbers of refusal).
use Rattle.std.specs.Prelude.{List, [], ◌∷◌, ℕ, ◌+◌, ltb, length, take, drop}
use Rattle.search.specs.Search.{pick, over}
use Rattle.codepage.specs.Page.{Page}
use Rattle.outcome.specs.Refusal.{is_refused}
use Rattle.message.specs.Message.{message_text}

-- the text of the n bytes of s from p on (01, Answers: a message is place and length of the raw string)
abbrev pub text_at : Page → List ℕ → ℕ → ℕ → List ℕ
text_at page s p n = message_text page (take n (drop p s))

-- 5 over 65,536 bytes; 7 where the bytes do not lie in the reply; 6 with the room needed; else 0 (01, Numbers of refusal: message text)
unfoldable pub message_refusal : Page → List ℕ → ℕ → ℕ → ℕ → List ℕ
message_refusal page s p n room =
    pick (ltb 65536 (length s)) (5 ∷ [])
    (pick (ltb (length s) (p + n)) (7 ∷ []) (pick (ltb room (length (text_at page s p n))) (6 ∷ length (text_at page s p n) ∷ []) (0 ∷ [])))

-- the text's length (01, Answers: message text); 0 where refused (DECISIONS, Forms 12)
unfoldable pub message_length : Page → List ℕ → ℕ → ℕ → ℕ → ℕ
message_length page s p n room = pick (is_refused (message_refusal page s p n room)) 0 (length (text_at page s p n))

-- the text over the buffer's front; the buffer as it was where refused (01, Answers: message text; demand 1: a refusal changes no lent list or buffer)
unfoldable pub message_written : Page → List ℕ → ℕ → ℕ → List ℕ → List ℕ
message_written page s p n buffer = pick (is_refused (message_refusal page s p n (length buffer))) buffer (over (text_at page s p n) buffer)
