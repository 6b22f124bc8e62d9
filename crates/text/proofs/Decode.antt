-- The ways out of `decode_text`, that a text is empty exactly where it has no bytes, and that its characters are those of its bytes,
-- wherever they stand.
use Prim.Native.Nat.{ℕ, ◌+◌, ◌-◌, ◌≤◌, ◌<◌}
use native.Mathlib.Omega.{arith}
use mathlib.Core.Path.{◌≡◌, refl, sym, ap, ◌∙◌}
use mathlib.Core.List.{List}
use mathlib.Core.Bool.{Bool, true, false}
use lib.ListN.{length, take, drop, length-drop, length-take}
use lib.Seq.{length-take-le, drop-drop, take-take}
use lib.Dec.{T, ltb, eqb}
use borrow.Author.Tests.{eqb-true, ne_eqb, lt-ltb}
use Rattle.std.proofs.Math.Seq.{take-length}
use Rattle.std.proofs.lemmas.List.{take_min, drop-take}
use Rattle.search.specs.Search.{pick}
use Rattle.codepage.specs.Page.{Page}
use Rattle.codepage.specs.Rearranged.{rearranged}
use Rattle.codepage.specs.Blank.{is_blank_in}
use Rattle.codepage.proofs.Pages.{blanks_as_in037, blank_low}
use Rattle.text.specs.Chars.{is_ascii, chars}
use Rattle.text.specs.Text.{text_is, empty_text, placed, leading, kept, trimmed, text_on, text_of}
use Rattle.text.specs.Generated.{text_chars, decoded}
use Rattle.text.proofs.Trim.{leading_le, kept_le, kept_some}

-- bytes s[a .. a + n], as the code lends them
pub lent : (s : List ℕ) (a n : ℕ) → take (a + n - a) (drop a s) ≡ take n (drop a s)
lent s a n = let e : a + n - a ≡ n = omega arith in ap (λ (k : ℕ). take k (drop a s)) e

pub lent_length : (s : List ℕ) (a n : ℕ) → a + n ≤ length s → length (take n (drop a s)) ≡ n
lent_length s a n h = length-take-le n (drop a s) (omega (arith, length-drop a s))

placed_some : (p n a : ℕ) → 0 < n → placed p n a ≡ text_is p n a
unfolding placed
placed_some p n a h = let e : eqb n 0 ≡ false = ne_eqb n 0 (λ z. omega arith) in rw e refl

placed_length : (p n a : ℕ) → (placed p n a).length ≡ n
unfolding placed
placed_length p n a = go (eqb n 0) refl
  where
    go : (b : Bool) → eqb n 0 ≡ b → (pick b empty_text (text_is p n a)).length ≡ n
    go true e = sym (eqb-true n 0 e)
    go false e = refl

-- ---- characters by bytes

placed_chars : (page : Page) (s : List ℕ) (p n a : ℕ) → text_chars page s (placed p n a) ≡ chars page a (take n (drop p s))
unfolding placed
placed_chars page s p n a = go (eqb n 0) refl
  where
    go : (z : Bool) → eqb n 0 ≡ z → text_chars page s (pick z empty_text (text_is p n a)) ≡ chars page a (take n (drop p s))
    go true e = let z = eqb-true n 0 e in rw z refl
    go false e = refl

-- bytes inside of bytes
inside : (f m n : ℕ) (l : List ℕ) → f + m ≤ n → take m (drop f (take n l)) ≡ take m (drop f l)
inside f m n l h =
    let e : n ≡ f + (n - f) = omega arith in
    ap (λ (k : ℕ). take m (drop f (take k l))) e ∙ ap (take m) (drop-take f (n - f) l) ∙ take-take m (n - f) (drop f l) (omega arith)

module _ (page : Page) (s : List ℕ) (p n : ℕ) where
  abbrev bytes : List ℕ
  bytes = take n (drop p s)

  ascii_chars : is_ascii bytes ≡ true → text_chars page s (text_of page s p n) ≡ chars page 1 bytes
  unfolding text_on
  ascii_chars a =
      rw a
      (placed_chars page s p (length bytes) 1 ∙ ap (λ (k : ℕ). chars page 1 (take k (drop p s))) (length-take n (drop p s))
      ∙ ap (chars page 1) (take_min n (drop p s)))

  page_chars : is_ascii bytes ≡ false → text_chars page s (text_of page s p n) ≡ chars page page.alphabet (trimmed page bytes)
  unfolding text_on trimmed
  page_chars a =
      let f = leading (is_blank_in page) bytes in
      let k = kept (is_blank_in page) bytes in
      let h : f + (k - f) ≤ n = omega (arith, leading_le (is_blank_in page) bytes, kept_le (is_blank_in page) bytes, length-take n (drop p s)) in
      rw a
      (placed_chars page s (p + f) (k - f) page.alphabet
      ∙ ap (λ (bs : List ℕ). chars page page.alphabet (take (k - f) bs)) (sym (drop-drop f p s))
      ∙ ap (chars page page.alphabet) (sym (inside f (k - f) n (drop p s) h)))

module _ (page : Page) (bs : List ℕ) where
  pub decoded_ascii : is_ascii bs ≡ true → decoded page bs ≡ chars page 1 bs
  decoded_ascii a = ascii_chars page bs 0 (length bs) (rw (take-length bs) a) ∙ ap (chars page 1) (take-length bs)

  pub decoded_page : is_ascii bs ≡ false → decoded page bs ≡ chars page page.alphabet (trimmed page bs)
  decoded_page a =
      page_chars page bs 0 (length bs) (rw (take-length bs) a) ∙ ap (λ (l : List ℕ). chars page page.alphabet (trimmed page l)) (take-length bs)

-- the text of a string in a reply has the characters of the text of its bytes alone
pub decoded_at : (page : Page) (s : List ℕ) (p n : ℕ) → text_chars page s (text_of page s p n) ≡ decoded page (take n (drop p s))
decoded_at page s p n = go (is_ascii (take n (drop p s))) refl
  where
    go : (z : Bool) → is_ascii (take n (drop p s)) ≡ z → text_chars page s (text_of page s p n) ≡ decoded page (take n (drop p s))
    go true a = ascii_chars page s p n a ∙ sym (decoded_ascii page (take n (drop p s)) a)
    go false a = page_chars page s p n a ∙ sym (decoded_page page (take n (drop p s)) a)

-- ---- alphabets, and texts without bytes

-- a text that is read has an alphabet: 0 is that of a generated name alone
pub alphabet_some : (page : Page) → 0 < page.alphabet → (bs : List ℕ) (p : ℕ) → eqb (text_on page bs p).alphabet 0 ≡ false
unfolding text_on placed
alphabet_some page h bs p =
    go (is_ascii bs) (eqb (length bs) 0) (eqb (kept (is_blank_in page) bs - leading (is_blank_in page) bs) 0)
  where
    go : (a b c : Bool) → eqb (pick a (pick b empty_text (text_is p (length bs) 1)) (pick c empty_text
        (text_is (p + leading (is_blank_in page) bs) (kept (is_blank_in page) bs - leading (is_blank_in page) bs) page.alphabet))).alphabet 0 ≡ false
    go true true c = refl
    go true false c = refl
    go false b true = refl
    go false b false = ne_eqb page.alphabet 0 (λ z. omega arith)

-- a page whose blanks are those of page 037
module _ (page : Page) (r : T (rearranged page.table)) (h : T (blanks_as_in037 page.table)) where
  -- bytes that are not all ASCII keep one in trimming
  pub some_kept : (bs : List ℕ) → is_ascii bs ≡ false → leading (is_blank_in page) bs < kept (is_blank_in page) bs
  unfolding is_ascii
  some_kept bs e = kept_some (is_blank_in page) (λ b. ltb b 0x80) (λ b u. lt-ltb b 0x80 (blank_low page h r b u)) bs e

  -- a text is empty exactly where it has no bytes, so that m is chosen before s by lengths alone
  pub text_empty : (bs : List ℕ) (p : ℕ) → eqb (text_on page bs p).length 0 ≡ eqb (length bs) 0
  unfolding text_on
  text_empty bs p = go (is_ascii bs) refl
    where
      go : (b : Bool) → is_ascii bs ≡ b
          → eqb (pick b (placed p (length bs) 1) (placed (p + leading (is_blank_in page) bs) (kept (is_blank_in page) bs - leading (is_blank_in page) bs) page.alphabet)).length 0
          ≡ eqb (length bs) 0
      go true e = rw (placed_length p (length bs) 1) refl
      go false e =
          let k = some_kept bs e in
          let l = kept_le (is_blank_in page) bs in
          rw (placed_length (p + leading (is_blank_in page) bs) (kept (is_blank_in page) bs - leading (is_blank_in page) bs) page.alphabet)
          (ne_eqb (kept (is_blank_in page) bs - leading (is_blank_in page) bs) 0 (λ z. omega arith) ∙ sym (ne_eqb (length bs) 0 (λ z. omega arith)))

  module _ (s : List ℕ) (a n : ℕ) (l : a + n ≤ length s) where
    pub decode_none : n ≡ 0 → empty_text ≡ text_of page s a n
    unfolding text_on placed is_ascii
    decode_none z = rw z refl

    pub decode_ascii : (n ≡ 0 → ⊥) → is_ascii (take (a + n - a) (drop a s)) ≡ true → text_is a n 1 ≡ text_of page s a n
    unfolding text_on
    decode_ascii z e =
        let u : is_ascii (take n (drop a s)) ≡ true = rw (lent s a n) at e in
        rw (u, lent_length s a n l) (sym (placed_some a n 1 (omega arith)))

    module _ (f k : ℕ) (e : is_ascii (take (a + n - a) (drop a s)) ≡ false) (x : f ≡ leading (is_blank_in page) (take (a + n - a) (drop a s)))
        (y : k ≡ kept (is_blank_in page) (take (a + n - a) (drop a s))) where
      pub decode_bounds : (f < k) × (k ≤ n)
      decode_bounds =
          let u : is_ascii (take n (drop a s)) ≡ false = rw (lent s a n) at e in
          let g = rw (lent s a n) at x in
          let m = rw (lent s a n) at y in
          (omega (arith, some_kept (take n (drop a s)) u), omega (arith, kept_le (is_blank_in page) (take n (drop a s)), lent_length s a n l))

      pub decode_page : text_is (a + f) (k - f) page.alphabet ≡ text_of page s a n
      unfolding text_on
      decode_page =
          let u : is_ascii (take n (drop a s)) ≡ false = rw (lent s a n) at e in
          let g = rw (lent s a n) at x in
          let m = rw (lent s a n) at y in
          rw (u, ← g, ← m) (sym (placed_some (a + f) (k - f) page.alphabet (omega (arith, decode_bounds.0))))
