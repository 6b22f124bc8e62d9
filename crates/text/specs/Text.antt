-- What a text is: place, length and alphabet (01, Parts 2 and Answers).
use Rattle.std.specs.Prelude.{Bool, List, ℕ, ◌+◌, ◌-◌, eqb}
use Rattle.std.specs.List.{prefix_len, suffix_len}
use lib.ListN.{take, drop}
use Rattle.search.specs.Search.{pick}
use Rattle.codepage.specs.Page.{Page}
use Rattle.codepage.specs.Blank.{is_blank_in}
use Rattle.text.specs.Chars.{is_ascii}
use Rattle.text.specs.declared.Text.{Text}

-- a text is place, length, alphabet (01, Answers)
abbrev pub text_is : ℕ → ℕ → ℕ → Text
text_is p n a = record { place = p; length = n; alphabet = a }

-- an empty one is 0, 0, 1 (01, Answers)
abbrev pub empty_text : Text
empty_text = text_is 0 0 1

-- a text without bytes is the empty one (01, Answers)
unfoldable pub placed : ℕ → ℕ → ℕ → Text
placed p n a = pick (eqb n 0) empty_text (text_is p n a)

-- the bytes of a text of the reply s (01, Answers: place, length)
abbrev pub bytes_of : List ℕ → Text → List ℕ
bytes_of s t = take t.length (drop t.place s)

-- how many elements at the front pass the test: what trimming drops there (01, Parts 2)
unfoldable pub leading : (ℕ → Bool) → List ℕ → ℕ
leading f xs = prefix_len f xs

-- how many are left when those at the end that pass the test are dropped: trimming there (01, Parts 2)
unfoldable pub kept : (ℕ → Bool) → List ℕ → ℕ
kept f xs = lib.ListN.length xs - suffix_len f xs

-- what trimming leaves: neither at the front nor at the end one that passes the test (01, Parts 2)
abbrev pub trimmed_of : (ℕ → Bool) → List ℕ → List ℕ
trimmed_of f xs = take (kept f xs - leading f xs) (drop (leading f xs) xs)

-- what trimming leaves of bytes of the page (01, Parts 2: decode_text)
unfoldable pub trimmed : Page → List ℕ → List ℕ
trimmed page bs = trimmed_of (is_blank_in page) bs

-- the text of bytes that start at p: ASCII untrimmed, else of the page and trimmed (01, Parts 2: decode_text)
unfoldable pub text_on : Page → List ℕ → ℕ → Text
text_on page bs p =
    let first = leading (is_blank_in page) bs in
    pick (is_ascii bs) (placed p (lib.ListN.length bs) 1) (placed (p + first) (kept (is_blank_in page) bs - first) page.alphabet)

-- the text of the n bytes of s from p on (01, Answers: the length of what trimming leaves)
abbrev pub text_of : Page → List ℕ → ℕ → ℕ → Text
text_of page s p n = text_on page (take n (drop p s)) p
