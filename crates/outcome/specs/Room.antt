-- A text that is to be written to a lent buffer, which may be too short for it (01, Numbers of refusal: text also 6).
use Rattle.std.specs.Prelude.{List, [], ◌∷◌, ℕ, ltb, length}
use Rattle.search.specs.Search.{pick, over}

-- 6 with the length needed; else 0 (01, Numbers of refusal: name text)
unfoldable pub room_refusal : List ℕ → ℕ → List ℕ
room_refusal text room = pick (ltb room (length text)) (6 ∷ length text ∷ []) (0 ∷ [])

-- the text's length (01, Answers: name text); 0 where refused (DECISIONS, Forms 12)
unfoldable pub room_length : List ℕ → ℕ → ℕ
room_length text room = pick (ltb room (length text)) 0 (length text)

-- the text over the buffer's front; the buffer as it was where refused (01, Answers: name text; demand 1: a refusal changes no lent list or buffer)
unfoldable pub room_written : List ℕ → List ℕ → List ℕ
room_written text buffer = pick (ltb (length buffer) (length text)) buffer (over text buffer)
