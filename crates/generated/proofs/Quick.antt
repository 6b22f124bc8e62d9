-- A string is told generated without decoding it: COL and digits of ASCII are all ASCII, and a C of the page is not.
-- The laws of `is_generated_trimmed` and `is_generated_string`.
use Prim.Native.Nat.{ℕ, ◌+◌, ◌-◌, ◌≤◌, ◌<◌}
use native.Mathlib.Omega.{arith}
use mathlib.Core.Path.{◌≡◌, refl, sym, ap, subst, ◌∙◌}
use mathlib.Core.List.{List, [], ◌∷◌}
use mathlib.Core.Bool.{Bool, true, false, ◌&&◌}
use lib.ListN.{length, get_or, take, drop, length-map, length-drop}
use lib.Seq.{get_or-take, get_or-drop, length-take-le}
use lib.Dec.{T, eqb, ltb, leb, eqb→eq, leb→le, ltb→lt}
use borrow.Author.Tests.{eqb-true, eq-eqb, lt-ltb}
use Rattle.search.specs.Search.{each}
use Rattle.search.proofs.Over.{get_d_map}
use Rattle.search.proofs.Tests.{and_left, and_right, each_at}
use Rattle.codepage.specs.Page.{Page}
use Rattle.codepage.specs.Blank.{is_blank, is_blank_in}
use Rattle.text.specs.Chars.{is_ascii, is_digit, char_of, chars}
use Rattle.text.specs.Text.{leading, kept, trimmed}
use Rattle.text.specs.Generated.{starts_col, is_generated, decoded}
use Rattle.text.proofs.Trim.{kept_le, kept_some, leading_le}
use Rattle.text.proofs.Decode.{decoded_ascii, decoded_page}
use Rattle.text.proofs.Generated.{SpellsColAsIn037, char_of_page, char_of_other, letter}

-- what does not hold is false
not_so : (b : Bool) → (b ≡ true → ⊥) → false ≡ b
not_so true h = absurd (h refl)
not_so false h = refl

-- ---- what a generated text says of its bytes

module _ (page : Page) (a : ℕ) (bs : List ℕ) (g : is_generated (chars page a bs) ≡ true) where
  abbrev cs : List ℕ
  cs = chars page a bs

  holds : T (ltb 3 (length cs) && starts_col cs && each is_digit (drop 3 cs))
  unfolding is_generated
  holds = subst T (sym g) tt

  digits : T (each is_digit (drop 3 cs))
  digits = and_right (ltb 3 (length cs) && starts_col cs) (each is_digit (drop 3 cs)) holds

  front : T (ltb 3 (length cs) && starts_col cs)
  front = and_left (ltb 3 (length cs) && starts_col cs) (each is_digit (drop 3 cs)) holds

  long : 3 < length bs
  long = omega (arith, ltb→lt 3 (length cs) (and_left (ltb 3 (length cs)) (starts_col cs) front), length-map bs (char_of page a))

  told : (k b : ℕ) → k < 3 → T (eqb (get_or cs k 0) b) → char_of page a (get_or bs k 0) ≡ b
  told k b h t = sym (get_d_map (char_of page a) bs k 0 0 (omega (arith, long))) ∙ eqb→eq (get_or cs k 0) b t

  letters : (char_of page a (get_or bs 0 0) ≡ 0x43) × ((char_of page a (get_or bs 1 0) ≡ 0x4F) × (char_of page a (get_or bs 2 0) ≡ 0x4C))
  letters =
      let c = eqb (get_or cs 0 0) 0x43 in
      let o = eqb (get_or cs 1 0) 0x4F in
      let l = eqb (get_or cs 2 0) 0x4C in
      let t : T (c && o && l) = and_right (ltb 3 (length cs)) (starts_col cs) front in
      let u = and_left (c && o) l t in
      (told 0 0x43 (omega arith) (and_left c o u), (told 1 0x4F (omega arith) (and_right c o u), told 2 0x4C (omega arith) (and_right (c && o) l t)))

digits_ascii : (page : Page) (a : ℕ) → (a ≡ page.alphabet → ⊥) → (ws : List ℕ) → T (each is_digit (chars page a ws)) → is_ascii ws ≡ true
unfolding is_ascii
digits_ascii page a n [] t = refl
digits_ascii page a n (w ∷ ws) t =
    let c = char_of page a w in
    let d = and_left (is_digit c) (each is_digit (chars page a ws)) t in
    let k : w < 0x80 = omega (arith, char_of_other page a w n, leb→le c 0x39 (and_right (leb 0x30 c) (leb c 0x39) d)) in
    rw (lt-ltb w 0x80 k) (digits_ascii page a n ws (and_right (is_digit c) (each is_digit (chars page a ws)) t))

-- one that is not of the page is ASCII
generated_ascii : (page : Page) (a : ℕ) → (a ≡ page.alphabet → ⊥) → (bs : List ℕ) → is_generated (chars page a bs) ≡ true → is_ascii bs ≡ true
unfolding is_ascii
generated_ascii page a n [] g = refl
generated_ascii page a n (x ∷ []) g = absurd (omega (arith, long page a (x ∷ []) g))
generated_ascii page a n (x ∷ y ∷ []) g = absurd (omega (arith, long page a (x ∷ y ∷ []) g))
generated_ascii page a n (x ∷ y ∷ z ∷ ws) g =
    let l = letters page a (x ∷ y ∷ z ∷ ws) g in
    let p : x < 0x80 = omega (arith, char_of_other page a x n, l.0) in
    let q : y < 0x80 = omega (arith, char_of_other page a y n, l.1.0) in
    let r : z < 0x80 = omega (arith, char_of_other page a z n, l.1.1) in
    rw (lt-ltb x 0x80 p, lt-ltb y 0x80 q, lt-ltb z 0x80 r) (digits_ascii page a n ws (digits page a (x ∷ y ∷ z ∷ ws) g))

-- what trimming leaves of bytes of the page, f of which are dropped in front
module _ (page : Page) (bs : List ℕ) (f : ℕ) (e : f ≡ leading (is_blank_in page) bs) where
  abbrev first : ℕ
  first = char_of page page.alphabet (get_or bs f 0)

  abbrev left : List ℕ
  left = chars page page.alphabet (trimmed page bs)

  trimmed_length : length (trimmed page bs) ≡ kept (is_blank_in page) bs - f
  unfolding trimmed
  trimmed_length =
      length-take-le (kept (is_blank_in page) bs - leading (is_blank_in page) bs) (drop (leading (is_blank_in page) bs) bs)
      (omega (arith, kept_le (is_blank_in page) bs, length-drop (leading (is_blank_in page) bs) bs))
      ∙ ap (λ (i : ℕ). kept (is_blank_in page) bs - i) (sym e)

  -- the text starts with the first byte that is kept
  trimmed_first : 0 < kept (is_blank_in page) bs - f → get_or (trimmed page bs) 0 0 ≡ get_or bs f 0
  unfolding trimmed
  trimmed_first k =
      let z : f + 0 ≡ f = omega arith in
      rw (← e) (get_or-take (kept (is_blank_in page) bs - f) (drop f bs) 0 0 k ∙ get_or-drop f bs 0 0 ∙ ap (λ (i : ℕ). get_or bs i 0) z)

  module _ (g : is_generated left ≡ true) where
    kept_long : 3 < kept (is_blank_in page) bs - f
    kept_long = omega (arith, long page page.alphabet (trimmed page bs) g, trimmed_length)

    starts_c : first ≡ 0x43
    starts_c =
        ap (char_of page page.alphabet) (sym (trimmed_first (omega (arith, kept_long)))) ∙ (letters page page.alphabet (trimmed page bs) g).0

  pub leading_inside : f ≤ length bs
  leading_inside = omega (arith, leading_le (is_blank_in page) bs)

  pub trimmed_short : length bs - f ≤ 3 → false ≡ is_generated left
  trimmed_short m = not_so (is_generated left) (λ g. omega (arith, kept_long g, kept_le (is_blank_in page) bs))

  pub trimmed_other : (first ≡ 0x43 → ⊥) → false ≡ is_generated left
  trimmed_other k = not_so (is_generated left) (λ g. k (starts_c g))

  module _ (k : ℕ) (y : k ≡ kept (is_blank_in page) bs) where
    -- a C is no blank
    pub trimmed_bounds : 3 < length bs - f → first ≡ 0x43 → (f < k) × (k ≤ length bs)
    unfolding is_blank_in
    trimmed_bounds l c =
        let b = kept_le (is_blank_in page) bs in
        let z : is_blank_in page (get_or bs f 0) ≡ false = ap is_blank (char_of_page page page.alphabet (get_or bs f 0) refl ∙ c) in
        let n : each (is_blank_in page) bs ≡ false =
        sym (not_so (each (is_blank_in page) bs) (λ t. subst T z (each_at (is_blank_in page) bs 0 (subst T (sym t) tt) f (omega arith)))) in
        (omega (arith, e, y, kept_some (is_blank_in page) (is_blank_in page) (λ x u. u) bs n), omega arith)

    pub trimmed_text : (t : Bool) → t ≡ is_generated (chars page page.alphabet (take (k - f) (drop f bs))) → t ≡ is_generated left
    unfolding trimmed
    trimmed_text t d = rw (← e, ← y) d

-- a page that spells COL as page 037 does
module _ (page : Page) (sp : SpellsColAsIn037 page.table) (n : 1 ≡ page.alphabet → ⊥) (bs : List ℕ) where
  abbrev of_page : Bool
  of_page = is_generated (chars page page.alphabet (trimmed page bs))

  -- ASCII has no C of the page
  not_page : is_ascii bs ≡ true → false ≡ of_page
  unfolding is_ascii
  not_page a = not_so of_page (λ g.
      let f = leading (is_blank_in page) bs in
      let k : 3 < kept (is_blank_in page) bs - f = kept_long page bs f refl g in
      let b = kept_le (is_blank_in page) bs in
      let w : get_or bs f 0 < 0x80 = ltb→lt (get_or bs f 0) 0x80 (each_at (λ b. ltb b 0x80) bs 0 (subst T (sym a) tt) f (omega arith)) in
      let x : get_or bs f 0 ≡ 0xC3 =
      eqb-true (get_or bs f 0) 0xC3
      (letter page sp page.alphabet refl 0x43 0xC3 sp.c (get_or bs f 0) (omega arith)
      ∙ eq-eqb (char_of page page.alphabet (get_or bs f 0)) 0x43 (starts_c page bs f refl g)) in
      omega arith)

  -- COL and digits of ASCII are all ASCII; else the page's answer holds, which is false of ASCII
  pub generated_first : is_generated (chars page 1 bs) ≡ true → true ≡ is_generated (decoded page bs)
  generated_first g = sym (ap is_generated (decoded_ascii page bs (generated_ascii page 1 n bs g)) ∙ g)

  pub generated_second : (d : Bool) → is_generated (chars page 1 bs) ≡ false → d ≡ of_page → d ≡ is_generated (decoded page bs)
  generated_second d w u = go (is_ascii bs) refl
    where
      go : (z : Bool) → is_ascii bs ≡ z → d ≡ is_generated (decoded page bs)
      go true a = u ∙ sym (not_page a) ∙ sym w ∙ ap is_generated (sym (decoded_ascii page bs a))
      go false a = u ∙ ap is_generated (sym (decoded_page page bs a))
