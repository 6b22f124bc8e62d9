-- Generated names by bytes: page 037 passes the test, and what the test gives of any page that passes it; `is_generated` by bytes.
use Prim.Native.Nat.{ℕ, ◌-◌, ◌<◌}
use native.Mathlib.Omega.{arith}
use mathlib.Core.Path.{◌≡◌, refl, sym, ap, ◌∙◌}
use mathlib.Core.List.{List}
use mathlib.Core.Bool.{Bool, true, false, ◌&&◌}
use lib.Seq.{take_all}
use lib.ListN.{length, get_or, take, drop, length-map, length-drop}
use lib.Dec.{T, eqb, ltb, leb}
use borrow.Author.Tests.{eq-eqb, ne_eqb}
use Rattle.std.proofs.lemmas.List.{drop-map}
use Rattle.std.proofs.lemmas.List.Folds.{list_all-map}
use Rattle.search.specs.Search.{below, each}
use Rattle.search.proofs.Tests.{agree, agree_same, below_at}
use Rattle.codepage.specs.Page.{Page, page037, table037, char_in}
use Rattle.text.specs.Chars.{is_digit, char_of, chars, is_digit_of}
use Rattle.text.specs.Generated.{starts_col, is_generated}

-- the table has character c at byte b and nowhere else
abbrev spells : List ℕ → ℕ → ℕ → Bool
spells t c b = below 256 (λ k. agree (eqb (get_or t k 0) c) (eqb k b))

-- the table has C, O, L and the digits at the bytes where page 037 has them, and nowhere else
pub record SpellsColAsIn037 (t : List ℕ) : Type 0 where
  pub c : T (spells t 0x43 0xC3)
  pub o : T (spells t 0x4F 0xD6)
  pub l : T (spells t 0x4C 0xD3)
  pub digits : T (below 256 (λ k. agree (is_digit (get_or t k 0)) (leb 0xF0 k && leb k 0xF9)))

-- page 037 does: computed
pub spells_037 : SpellsColAsIn037 table037
unfolding table037
spells_037 = record { c = tt; o = tt; l = tt; digits = tt }

-- ---- characters by bytes

pub char_of_page : (page : Page) (a b : ℕ) → a ≡ page.alphabet → char_in page b ≡ char_of page a b
unfolding char_of
char_of_page page a b e = let t : eqb a page.alphabet ≡ true = eq-eqb a page.alphabet e in rw t refl

pub char_of_other : (page : Page) (a b : ℕ) → (a ≡ page.alphabet → ⊥) → b ≡ char_of page a b
unfolding char_of
char_of_other page a b e = let t : eqb a page.alphabet ≡ false = ne_eqb a page.alphabet e in rw t refl

-- a page that spells COL and the digits as page 037 does
module _ (page : Page) (h : SpellsColAsIn037 page.table) (a : ℕ) (e : a ≡ page.alphabet) where
  pub digit_page : (b : ℕ) → b < 256 → (leb 0xF0 b && leb b 0xF9) ≡ is_digit_of page a b
  digit_page b m =
      sym (agree_same (is_digit (char_in page b)) (leb 0xF0 b && leb b 0xF9)
      (below_at 256 (λ k. agree (is_digit (get_or page.table k 0)) (leb 0xF0 k && leb k 0xF9)) h.digits b m))
      ∙ ap is_digit (char_of_page page a b e)

  pub letter : (c b : ℕ) → T (spells page.table c b) → (k : ℕ) → k < 256 → eqb k b ≡ eqb (char_of page a k) c
  letter c b t k m =
      sym (agree_same (eqb (char_in page k) c) (eqb k b) (below_at 256 (λ j. agree (eqb (get_or page.table j 0) c) (eqb j b)) t k m))
      ∙ ap (λ (x : ℕ). eqb x c) (char_of_page page a k e)

-- page 037's digits by their bytes
pub digit_037 : (b : ℕ) → b < 256 → is_digit_of page037 2 b ≡ (leb 0xF0 b && leb b 0xF9)
digit_037 b m = sym (digit_page page037 spells_037 2 refl b m)

-- the test on characters, by bytes as the code lends them
pub generated_is : (page : Page) (a : ℕ) (bs : List ℕ) → is_generated (chars page a bs)
    ≡ (ltb 3 (length bs) && starts_col (chars page a bs) && each (is_digit_of page a) (take (length bs - 3) (drop 3 bs)))
unfolding is_generated
generated_is page a bs =
    let w : take (length bs - 3) (drop 3 bs) ≡ drop 3 bs = take_all (length bs - 3) (drop 3 bs) (omega (arith, length-drop 3 bs)) in
    rw (w, length-map bs (char_of page a), drop-map (char_of page a) 3 bs, list_all-map is_digit (char_of page a) (drop 3 bs)) refl
