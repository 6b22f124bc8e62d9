-- A message's text, told without its state machine: the words of the characters with one 0x20 between them, as Rust's
-- `split_whitespace` and `join(" ")` give them, its whitespace being our blanks. Then its letters, its blanks, its two ends.
use mathlib.Core.Path.{◌≡◌, refl, sym, ap, ◌∙◌}
use mathlib.Core.Bool.{Bool, true, false, false≢true}
use mathlib.Core.List.{List, [], ◌∷◌, ◌++◌}
use Prim.Native.Nat.{ℕ, zero, suc, ◌+◌, ◌-◌, ◌<◌}
use native.Mathlib.Numerals.{add-one}
use native.Mathlib.Omega.{arith}
use lib.ListN.{length, get_or}
use Rattle.search.specs.Search.{pick}
use Rattle.codepage.specs.Blank.{is_blank}
use Rattle.message.specs.Squeezed.{after, is_gap, added, squeezed}
use Rattle.message.specs.declared.Behind.{Behind}
use Rattle.message.specs.declared.Behind.TheVariants.{Nothing, Character, Blanks}

-- ---- the words

-- a character in front of the first piece
abbrev pub in_front : ℕ → List (List ℕ) → List (List ℕ)
in_front c [] = (c ∷ []) ∷ []
in_front c (p ∷ ps) = (c ∷ p) ∷ ps

-- the characters split at every blank: a piece between two blanks side by side is empty
abbrev pub pieces : List ℕ → List (List ℕ)
pieces [] = [] ∷ []
pieces (c ∷ cs) = pick (is_blank c) ([] ∷ pieces cs) (in_front c (pieces cs))

-- the pieces that are not empty
abbrev pub not_empty : List (List ℕ) → List (List ℕ)
not_empty [] = []
not_empty ([] ∷ ps) = not_empty ps
not_empty ((c ∷ p) ∷ ps) = (c ∷ p) ∷ not_empty ps

-- the maximal runs of characters that are no blanks, in order
abbrev pub words : List ℕ → List (List ℕ)
words cs = not_empty (pieces cs)

-- each word with a 0x20 before it
abbrev pub spaced : List (List ℕ) → List ℕ
spaced [] = []
spaced (w ∷ ws) = 0x20 ∷ (w ++ spaced ws)

-- the words with one 0x20 between
abbrev pub joined : List (List ℕ) → List ℕ
joined [] = []
joined (w ∷ ws) = w ++ spaced ws

-- ---- the text is the words, joined

-- what the pieces give from a place on: behind a character the first of them is the rest of that character's word
abbrev shown : Behind → List (List ℕ) → List ℕ
shown Nothing ps = joined (not_empty ps)
shown Blanks ps = spaced (not_empty ps)
shown Character [] = []
shown Character (p ∷ ps) = p ++ spaced (not_empty ps)

-- one character more, t telling whether it is a blank
shown_more : (b : Behind) (c : ℕ) (ps : List (List ℕ)) (t : Bool)
    → pick t [] (pick (is_gap b) (0x20 ∷ c ∷ []) (c ∷ [])) ++ shown (after t b) ps ≡ shown b (pick t ([] ∷ ps) (in_front c ps))
shown_more Nothing c ps true = refl
shown_more Character c ps true = refl
shown_more Blanks c ps true = refl
shown_more Nothing c [] false = refl
shown_more Character c [] false = refl
shown_more Blanks c [] false = refl
shown_more Nothing c (p ∷ ps) false = refl
shown_more Character c (p ∷ ps) false = refl
shown_more Blanks c (p ∷ ps) false = refl

squeezed_shown : (b : Behind) (cs : List ℕ) → squeezed b cs ≡ shown b (pieces cs)
unfolding added
squeezed_shown Nothing [] = refl
squeezed_shown Character [] = refl
squeezed_shown Blanks [] = refl
squeezed_shown b (c ∷ cs) =
    ap (λ (t : List ℕ). added b c ++ t) (squeezed_shown (after (is_blank c) b) cs) ∙ shown_more b c (pieces cs) (is_blank c)

pub squeezed_is_words : (cs : List ℕ) → squeezed Nothing cs ≡ joined (words cs)
squeezed_is_words = squeezed_shown Nothing

-- ---- what every character keeps holds of every text

module _ (P : List ℕ → List ℕ → Type 0)
    (none : P [] [])
    (skip : (c : ℕ) (cs t : List ℕ) → is_blank c ≡ true → P cs t → P (c ∷ cs) t)
    (one : (c : ℕ) (cs t : List ℕ) → is_blank c ≡ false → P cs t → P (c ∷ cs) (c ∷ t))
    (two : (c : ℕ) (cs t : List ℕ) → is_blank c ≡ false → P cs t → P (c ∷ cs) (0x20 ∷ c ∷ t)) where
  by_character : (b : Behind) (cs : List ℕ) → P cs (squeezed b cs)
  unfolding added
  by_character b [] = none
  by_character b (c ∷ cs) = go (is_blank c) (is_gap b) refl (by_character (after (is_blank c) b) cs)
    where
      go : (t u : Bool) → is_blank c ≡ t → {s : List ℕ} → P cs s → P (c ∷ cs) (pick t [] (pick u (0x20 ∷ c ∷ []) (c ∷ [])) ++ s)
      go true u e {s} h = skip c cs s e h
      go false true e {s} h = two c cs s e h
      go false false e {s} h = one c cs s e h

-- ---- its letters

-- the characters that are no blanks
abbrev pub letters : List ℕ → List ℕ
letters [] = []
letters (c ∷ cs) = pick (is_blank c) (letters cs) (c ∷ letters cs)

-- the text has those of the original, in order
pub text_letters : (cs : List ℕ) → letters (squeezed Nothing cs) ≡ letters cs
text_letters =
    let more : (c : ℕ) (cs t : List ℕ) → is_blank c ≡ false → letters t ≡ letters cs → letters (c ∷ t) ≡ letters (c ∷ cs) =
    λ c cs t e h. rw e (ap (λ (l : List ℕ). c ∷ l) h) in
    by_character (λ cs t. letters t ≡ letters cs) refl (λ c cs t e h. rw e h) more more Nothing

-- ---- its blanks

-- at i stands 0x20, and behind it another character, which is no blank
pub record Gap (t : List ℕ) (i : ℕ) : Type 0 where
  pub one : get_or t i 0 ≡ 0x20
  pub more : i + 1 < length t
  pub next : is_blank (get_or t (i + 1) 0) ≡ false

abbrev Gaps : List ℕ → Type 0
Gaps t = (i : ℕ) → is_blank (get_or t i 0) ≡ true → Gap t i

gap_on : (c : ℕ) (t : List ℕ) (i : ℕ) → Gap t i → Gap (c ∷ t) (suc i)
gap_on c t i g = record { one = g.one; more = omega (arith, g.more); next = rw (add-one (suc i)) (rw (add-one i) at g.next) }

gaps_one : (c : ℕ) (t : List ℕ) → is_blank c ≡ false → Gaps t → Gaps (c ∷ t)
gaps_one c t e h zero b = absurd (false≢true (sym e ∙ b))
gaps_one c t e h (suc i) b = gap_on c t i (h i b)

gaps_two : (c : ℕ) (t : List ℕ) → is_blank c ≡ false → Gaps t → Gaps (0x20 ∷ c ∷ t)
gaps_two c t e h zero b = record { one = refl; more = omega arith; next = e }
gaps_two c t e h (suc i) b = gap_on 0x20 (c ∷ t) i (gaps_one c t e h i b)

-- so it is with every blank of the text
pub text_blanks : (cs : List ℕ) (i : ℕ) → is_blank (get_or (squeezed Nothing cs) i 0) ≡ true → Gap (squeezed Nothing cs) i
text_blanks =
    by_character (λ cs t. Gaps t) (λ i b. absurd (false≢true b)) (λ c cs t e h. h) (λ c cs. gaps_one c) (λ c cs. gaps_two c) Nothing

-- ---- its ends: neither the first character nor the last is a blank (of an empty text get_or gives 0, which is none)

pub text_not_blank_first : (cs : List ℕ) → is_blank (get_or (squeezed Nothing cs) 0 0) ≡ false
unfolding added
text_not_blank_first [] = refl
text_not_blank_first (c ∷ cs) = go (is_blank c) refl (text_not_blank_first cs)
  where
    go : (t : Bool) → is_blank c ≡ t → is_blank (get_or (squeezed Nothing cs) 0 0) ≡ false
        → is_blank (get_or (pick t [] (c ∷ []) ++ squeezed (after t Nothing) cs) 0 0) ≡ false
    go true e h = h
    go false e h = e

pub text_not_blank_last : (cs : List ℕ) → is_blank (get_or (squeezed Nothing cs) (length (squeezed Nothing cs) - 1) 0) ≡ false
text_not_blank_last cs = go _ refl
  where
    go : (u : Bool) → is_blank (get_or (squeezed Nothing cs) (length (squeezed Nothing cs) - 1) 0) ≡ u → u ≡ false
    go true e = absurd (omega (arith, (text_blanks cs _ e).more))
    go false e = refl
