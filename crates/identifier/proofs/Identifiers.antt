-- Identifiers: the ways out of the functions that tell them.
use Prim.Native.Nat.{ℕ, ◌-◌, ◌≤◌}
use native.Mathlib.Omega.{arith}
use mathlib.Core.Path.{◌≡◌, refl, sym, ap, ◌∙◌}
use mathlib.Core.List.{List, [], ◌∷◌}
use mathlib.Core.Bool.{Bool, true, false, not, beq, ◌&&◌, true≢false}
use lib.ListN.{length, take, drop, length-map}
use lib.Dec.{eqb, leb}
use borrow.Author.Tests.{eqb-true, eqb-false, le-leb, lt-leb}
use Rattle.search.specs.Search.{each}
use Rattle.codepage.specs.Page.{Page}
use Rattle.codepage.specs.Blank.{is_blank, is_blank_in}
use Rattle.text.specs.Chars.{is_ascii, is_name_char, char_of, chars, is_name_of, is_blank_of}
use Rattle.text.specs.Text.{leading, kept, trimmed_of, trimmed, placed, text_on}
use Rattle.text.specs.Generated.{is_generated}
use Rattle.text.proofs.Decode.{decoded_ascii, decoded_page, decoded_at}
use Rattle.std.proofs.lemmas.List.Folds.{list_all-map}
use Rattle.text.proofs.Generated.{char_of_other}
use Rattle.text.proofs.Bytes.{blank_same}
use Rattle.text.proofs.Trim.{kept_le}
use Rattle.identifier.specs.Identifier.{is_identifier, is_identifier_at}
use Rattle.identifier.proofs.Trims.{trimmed_map, trimmed_twice}

-- ---- characters of bytes

-- the test on characters, by bytes
pub identifier_is : (page : Page) (a : ℕ) (bs : List ℕ) → is_identifier (chars page a bs)
    ≡ (not (eqb (length bs) 0) && (leb (length bs) 128 && (each (is_name_of page a) bs && not (is_generated (chars page a bs)))))
unfolding is_identifier
identifier_is page a bs =
    rw (length-map bs (char_of page a), list_all-map is_name_char (char_of page a) bs)
    (ap (λ (t : Bool). t && (leb (length bs) 128 && (each (is_name_of page a) bs && not (is_generated (chars page a bs)))))
    (go (eqb (length bs) 0) refl))
  where
    go : (t : Bool) → eqb (length bs) 0 ≡ t → leb 1 (length bs) ≡ not t
    go true e = lt-leb 1 (length bs) (omega (arith, eqb-true (length bs) 0 e))
    go false e = le-leb 1 (length bs) (omega (arith, eqb-false (length bs) 0 e))

-- characters that stand for themselves
chars_same : (page : Page) (a : ℕ) → (a ≡ page.alphabet → ⊥) → (bs : List ℕ) → chars page a bs ≡ bs
chars_same page a n [] = refl
chars_same page a n (b ∷ bs) = rw (← char_of_other page a b n, chars_same page a n bs) refl

pub identifier_same : (page : Page) (a : ℕ) → (a ≡ page.alphabet → ⊥) → (bs : List ℕ) (r : Bool) → r ≡ is_identifier (chars page a bs)
    → r ≡ is_identifier bs
identifier_same page a n bs r e = e ∙ ap is_identifier (chars_same page a n bs)

-- ---- trimmed: f bytes are dropped in front, and those from k on

module _ (page : Page) (a : ℕ) (bs : List ℕ) (f k : ℕ) (x : f ≡ leading (is_blank_of page a) bs) (y : k ≡ kept (is_blank_of page a) bs) where
  pub end_inside : k ≤ length bs
  end_inside = omega (arith, kept_le (is_blank_of page a) bs)

  trims : trimmed_of is_blank (chars page a bs) ≡ chars page a (take (k - f) (drop f bs))
  trims = trimmed_map is_blank (char_of page a) bs ∙ rw (← x, ← y) refl

  pub trimmed_none : k ≤ f → false ≡ is_identifier (trimmed_of is_blank (chars page a bs))
  unfolding is_identifier
  trimmed_none h =
      let z : k - f ≡ 0 = omega arith in
      sym (ap is_identifier (trims ∙ ap (λ (n : ℕ). chars page a (take n (drop f bs))) z))

  -- blanks alone
  pub trimmed_blank : length bs ≤ f → false ≡ is_identifier (trimmed_of is_blank (chars page a bs))
  trimmed_blank h = trimmed_none (omega (arith, end_inside))

  pub trimmed_some : (r : Bool) → r ≡ is_identifier (chars page a (take (k - f) (drop f bs))) → r ≡ is_identifier (trimmed_of is_blank (chars page a bs))
  trimmed_some r e = e ∙ ap is_identifier (sym trims)

-- ---- in a reply

-- a string without bytes is none
pub identifier_empty : (page : Page) (s : List ℕ) (p : ℕ) → is_identifier_at page s p 0 ≡ false
unfolding is_identifier_at is_identifier text_on placed is_ascii leading kept
identifier_empty page s p = refl

-- the text of a string in a reply may be a name where that of its bytes alone may be
pub identifier_at : (page : Page) (s : List ℕ) (p n : ℕ)
    → is_identifier_at page s p n ≡ is_identifier_at page (take n (drop p s)) 0 (length (take n (drop p s)))
unfolding is_identifier_at
identifier_at page s p n = ap (λ (cs : List ℕ). is_identifier (trimmed_of is_blank cs)) (decoded_at page s p n)

module _ (page : Page) (bs : List ℕ) where
  abbrev in_alphabet : ℕ → Bool
  in_alphabet a = is_identifier (trimmed_of is_blank (chars page a bs))

  abbrev of_text : Bool
  of_text = is_identifier_at page bs 0 (length bs)

  at_ascii : is_ascii bs ≡ true → in_alphabet 1 ≡ of_text
  unfolding is_identifier_at
  at_ascii e = ap (λ (cs : List ℕ). is_identifier (trimmed_of is_blank cs)) (sym (decoded_ascii page bs e))

  -- the text of the page is trimmed already
  trimmed_page : trimmed_of is_blank (chars page page.alphabet (trimmed page bs)) ≡ trimmed_of is_blank (chars page page.alphabet bs)
  unfolding trimmed
  trimmed_page =
      let a = page.alphabet in
      trimmed_map is_blank (char_of page a) (trimmed_of (is_blank_in page) bs)
      ∙ ap (λ (g : ℕ → Bool). chars page a (trimmed_of g (trimmed_of (is_blank_in page) bs))) (blank_same page)
      ∙ ap (chars page a) (trimmed_twice (is_blank_in page) bs)
      ∙ ap (λ (g : ℕ → Bool). chars page a (trimmed_of g bs)) (sym (blank_same page))
      ∙ sym (trimmed_map is_blank (char_of page a) bs)

  at_page : is_ascii bs ≡ false → in_alphabet page.alphabet ≡ of_text
  unfolding is_identifier_at
  at_page e = ap is_identifier (sym trimmed_page ∙ ap (trimmed_of is_blank) (sym (decoded_page page bs e)))

  module _ (b d : Bool) (x : b ≡ in_alphabet 1) (y : d ≡ in_alphabet page.alphabet) where
    pub at_first : is_ascii bs ≡ true → b ≡ of_text
    at_first e = x ∙ at_ascii e

    pub at_second : is_ascii bs ≡ false → d ≡ of_text
    at_second e = y ∙ at_page e

    pub at_both : beq b d ≡ true → d ≡ of_text
    at_both e = go (is_ascii bs) refl (same b d e)
      where
        go : (z : Bool) → is_ascii bs ≡ z → b ≡ d → d ≡ of_text
        go true a u = sym u ∙ at_first a
        go false a u = at_second a

        same : (b d : Bool) → beq b d ≡ true → b ≡ d
        same true true k = refl
        same true false k = absurd (true≢false (sym k))
        same false true k = absurd (true≢false (sym k))
        same false false k = refl
