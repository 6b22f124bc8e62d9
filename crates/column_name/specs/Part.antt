-- The name's own bytes, a part of the reply (01, Answers: name part; 01, Numbers of refusal: name part and name text).
use Rattle.std.specs.Prelude.{List, [], ◌∷◌, ℕ, ◌+◌, eqb, ltb}
use Rattle.search.specs.Search.{pick}
use Rattle.outcome.specs.Refusal.{is_refused}
use Rattle.text.specs.declared.Text.{Text}
use Rattle.text.specs.Text.{bytes_of}

-- 5 over 65,536 bytes; 7 for an alphabet above 2, and for a place plus length beyond the reply; else 0 (01, Numbers of refusal: name part)
unfoldable pub part_refusal : List ℕ → Text → List ℕ
part_refusal s t =
    pick (ltb 65536 (lib.ListN.length s)) (5 ∷ [])
    (pick (ltb 2 t.alphabet) (7 ∷ []) (pick (ltb (lib.ListN.length s) (t.place + t.length)) (7 ∷ []) (0 ∷ [])))

-- the bytes of a text of the reply, none of a generated one (01, Answers: empty for alphabet 0)
abbrev pub own_bytes : List ℕ → Text → List ℕ
own_bytes s t = pick (eqb t.alphabet 0) [] (bytes_of s t)

-- the name's own bytes (01, Answers: name part); none where it is refused (DECISIONS, Forms 12)
unfoldable pub part_of : List ℕ → Text → List ℕ
part_of s t = pick (is_refused (part_refusal s t)) [] (own_bytes s t)
