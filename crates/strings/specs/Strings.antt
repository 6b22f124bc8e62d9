-- Variable strings of a reply (DRDA V1: VCM, VCS): 16 bits of length, big-endian in every reading, then the bytes (01, Layouts).
-- A position past the reply's end says that the reply ended early; it stays as it is, so it is the length that was expected.
use Rattle.std.specs.Prelude.{Result, MatchResult, List, ◌≡◌, ℕ, zero, suc, ◌+◌, ◌<◌, ◌≤◌, ltb, leb, eqb}
use lib.ListN.{length}
use Rattle.search.specs.Search.{pick}
use Rattle.field.specs.declared.ByteOrder.TheVariants.{BigEndian}
use Rattle.strings.specs.declared.StringRead.{StringRead}
use Rattle.field.specs.Numbers.{number}

-- past the string at p (01, Layouts: strings have a 16-bit BE length; 01, Numbers of refusal: 2, the expected length)
unfoldable pub string_end : List ℕ → ℕ → ℕ
string_end s p = pick (ltb (length s) p) p (pick (ltb (length s) (p + 2)) (p + 2) (p + 2 + number BigEndian 2 s p))

-- past n strings, one after the other (01, Layouts: three, five, nine strings)
unfoldable pub strings_end : ℕ → List ℕ → ℕ → ℕ
strings_end zero s p = p
strings_end (suc n) s p = strings_end n s (string_end s p)

-- what is read up to `end`, where the reply goes as far; else `end` is the length that was expected (01, Numbers of refusal: 2)
abbrev pub IsRead : {A : Type 0} → List ℕ → ℕ → (A → Type 0) → Result A ℕ → Type 0
IsRead s end Is result = MatchResult result (λ x. Is x × (end ≤ length s)) (λ expected. (expected ≡ end) × (length s < end))

-- the same of what is told where the reply ends early too: then it is what there is of it (01, Numbers of refusal: 2)
abbrev pub IsReadOrCut : {A : Type 0} → List ℕ → ℕ → A → Result A A → Type 0
IsReadOrCut s end x result = MatchResult result (λ read. (read ≡ x) × (end ≤ length s)) (λ cut. (cut ≡ x) × (length s < end))

-- a string that the reply ends in: no bytes; next is the length that was expected (01, Numbers of refusal: 2)
abbrev pub no_string : ℕ → StringRead
no_string next = record { place = 0; length = 0; next = next }

-- the string at p: where its bytes lie, how many they are, and what is past it (01, Layouts)
unfoldable pub string_at : List ℕ → ℕ → StringRead
string_at s p =
    pick (leb (string_end s p) (lib.ListN.length s))
    (record { place = p + 2; length = number BigEndian 2 s p; next = string_end s p })
    (no_string (string_end s p))

-- of two strings the first that has bytes, and what is past both (DRDA V1: the pairs _m and _s; 01: m counts before s where not empty)
unfoldable pub chosen : StringRead → StringRead → StringRead
chosen m s = pick (eqb m.length 0) s (record { place = m.place; length = m.length; next = s.next })

-- the pair of strings _m and _s at p (DRDA V1: as SQLNAME_m, SQLNAME_s)
unfoldable pub pair_at : List ℕ → ℕ → StringRead
pair_at s p = chosen (string_at s p) (string_at s (string_end s p))

-- the string at p is read (01, Layouts)
abbrev pub IsStringAt : List ℕ → ℕ → Result StringRead ℕ → Type 0
IsStringAt s p = IsRead s (string_end s p) (λ string. string ≡ string_at s p)
