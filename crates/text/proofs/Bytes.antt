-- Page 037 passes the test for name characters, and what the test gives of any page that passes it; a blank of the page is one of its alphabet, so
-- that trimming by either is the same.
use Prim.Native.Nat.{ℕ, ◌<◌}
use mathlib.Core.Path.{◌≡◌, refl, sym, ap, ◌∙◌}
use mathlib.Core.List.{List}
use mathlib.Core.Bool.{Bool, ◌&&◌, ◌||◌}
use lib.ListN.{get_or}
use lib.Dec.{T, eqb, leb}
use Rattle.search.specs.Search.{below}
use Rattle.search.proofs.Tests.{agree, agree_same, below_at}
use Rattle.codepage.specs.Page.{Page, table037, char_in}
use Rattle.codepage.specs.Blank.{is_blank, is_blank_in}
use Rattle.text.specs.Chars.{is_name_char, is_name_of, is_blank_of}
use Rattle.text.specs.Text.{leading, kept}
use Rattle.text.proofs.Generated.{char_of_page}

-- the bytes whose characters are name characters, in page 037
abbrev pub is_name_byte : ℕ → Bool
is_name_byte b =
    (leb 0xC1 b && leb b 0xC9) || (leb 0xD1 b && leb b 0xD9) || (leb 0xE2 b && leb b 0xE9) || (leb 0x81 b && leb b 0x89)
    || (leb 0x91 b && leb b 0x99) || (leb 0xA2 b && leb b 0xA9) || (leb 0xF0 b && leb b 0xF9) || eqb b 0x6D || eqb b 0x5B || eqb b 0x7B
    || eqb b 0x7C

-- the table has its name characters at those bytes and nowhere else
unfoldable pub names_as_in037 : List ℕ → Bool
names_as_in037 t = below 256 (λ b. agree (is_name_char (get_or t b 0)) (is_name_byte b))

-- page 037 does: computed
pub names_037 : T (names_as_in037 table037)
unfolding names_as_in037 table037
names_037 = tt

module _ (page : Page) (a b : ℕ) where
  pub name_page : T (names_as_in037 page.table) → a ≡ page.alphabet → b < 256 → is_name_byte b ≡ is_name_of page a b
  unfolding names_as_in037
  name_page h e m =
      sym (agree_same (is_name_char (char_in page b)) (is_name_byte b)
      (below_at 256 (λ k. agree (is_name_char (get_or page.table k 0)) (is_name_byte k)) h b m))
      ∙ ap is_name_char (char_of_page page a b e)

-- ---- blanks

module _ (page : Page) where
  pub blank_same : is_blank_of page page.alphabet ≡ is_blank_in page
  unfolding is_blank_in
  blank_same = λ k b. is_blank (sym (char_of_page page page.alphabet b refl) k)

  module _ (bs : List ℕ) (n : ℕ) where
    pub leading_same : n ≡ leading (is_blank_of page page.alphabet) bs → n ≡ leading (is_blank_in page) bs
    leading_same e = e ∙ ap (λ (g : ℕ → Bool). leading g bs) blank_same

    pub kept_same : n ≡ kept (is_blank_of page page.alphabet) bs → n ≡ kept (is_blank_in page) bs
    kept_same e = e ∙ ap (λ (g : ℕ → Bool). kept g bs) blank_same
