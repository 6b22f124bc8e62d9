-- Bytes of a reply that an entry is given by place and length (01, Numbers of refusal: name part and message text).
use Rattle.std.specs.Prelude.{List, [], ◌∷◌, ℕ, ◌+◌, ltb, length}
use Rattle.search.specs.Search.{pick}

-- 5 over 65,536 bytes; 7 where the n bytes from p on do not lie in the reply; else 0 (01, Numbers of refusal: message text)
unfoldable pub bytes_refusal : List ℕ → ℕ → ℕ → List ℕ
bytes_refusal s p n = pick (ltb 65536 (length s)) (5 ∷ []) (pick (ltb (length s) (p + n)) (7 ∷ []) (0 ∷ []))
