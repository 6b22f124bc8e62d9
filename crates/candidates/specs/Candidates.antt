-- Candidates for names: strings of the reply by their 16-bit BE length, whatever they stand in (01, Name scan).
use Rattle.std.specs.Prelude.{Bool, false, not, ◌&&◌, Option, Some, None, List, [], ℕ, zero, suc, ◌+◌, ◌-◌, ltb, leb, length}
use Rattle.std.specs.Str.{bytes_eq}
use Rattle.search.specs.Search.{pick, front}
use Rattle.field.specs.declared.ByteOrder.TheVariants.{BigEndian}
use Rattle.field.specs.Numbers.{number}
use Rattle.text.specs.declared.Text.{Text}
use Rattle.text.specs.Text.{text_is, bytes_of}
use Rattle.identifier.specs.Identifier.{is_identifier}

-- two texts of ASCII are equal: they have the same bytes (01, Name scan: a repeat)
unfoldable pub same_text : List ℕ → Text → Text → Bool
same_text s t u = bytes_eq (bytes_of s t) (bytes_of s u)

-- a text is equal to another, if there is one (01, Name scan: a repeat)
abbrev pub repeats : List ℕ → Text → Option Text → Bool
repeats s t None = false
repeats s t (Some u) = same_text s t u

-- the text whose length stands at p, in ASCII: name characters are (01, Name scan: BE-length strings)
abbrev pub string_text_at : List ℕ → ℕ → Text
string_text_at s p = text_is (p + 2) (number BigEndian 2 s p) 1

-- 2 to 128 bytes that lie in the reply, all name characters, not generated (01, Name scan: candidates)
unfoldable pub is_candidate : List ℕ → ℕ → Bool
is_candidate s p =
    leb (p + 2) (length s)
    && (leb 2 (number BigEndian 2 s p)
    && (leb (p + 2 + number BigEndian 2 s p) (length s) && is_identifier (bytes_of s (string_text_at s p))))

-- a repeat of the last one kept, less than 8 bytes on; nothing repeats before one is kept (01, Name scan)
abbrev pub is_near_repeat : List ℕ → Option Text → Text → Bool
is_near_repeat s None t = false
is_near_repeat s (Some last) t = ltb t.place (last.place + 8) && same_text s t last

-- a candidate at p that is kept (01, Name scan: is skipped)
unfoldable pub is_kept : List ℕ → Option Text → ℕ → Bool
is_kept s last p = is_candidate s p && not (is_near_repeat s last (string_text_at s p))

-- the one that is, if there is one (01, Name scan)
unfoldable pub kept_at : List ℕ → Option Text → ℕ → Option Text
kept_at s last p = pick (is_kept s last p) (Some (string_text_at s p)) None

-- the candidates kept among the k positions from p on, behind the last one kept (01, Name scan)
unfoldable pub candidates_in : List ℕ → Option Text → ℕ → ℕ → List Text
candidates_in s last zero p = []
candidates_in s last (suc k) p =
    front (is_kept s last p) (string_text_at s p) (candidates_in s (pick (is_kept s last p) (Some (string_text_at s p)) last) k (suc p))

-- those from p on (01, Name scan)
unfoldable pub candidates_from : List ℕ → Option Text → ℕ → List Text
candidates_from s last p = candidates_in s last (length s - p) p

-- those of a reply: nothing is kept before the first (01, Name scan)
unfoldable pub candidates : List ℕ → List Text
candidates s = candidates_from s None 0
