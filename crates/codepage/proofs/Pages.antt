-- Page 037 passes two tests, computed over its table: it is a rearrangement, and has its blanks at eight bytes below 80.
-- What the tests give holds of any page that passes them.
use mathlib.Core.Path.{◌≡◌, refl, sym, ap, subst, ◌∙◌}
use mathlib.Core.Bool.{Bool, true, false, ◌&&◌, ◌||◌}
use mathlib.Core.List.{List}
use Prim.Native.Nat.{ℕ, ◌<◌}
use native.Mathlib.Omega.{arith}
use lib.Dec.{T, eqb, leb, ltb, ltb→lt}
use lib.ListN.{get_or, get_or-eq_default}
use borrow.Author.Tests.{ltb-true, ltb-false}
use Rattle.search.specs.Search.{below, pick}
use Rattle.search.proofs.Tests.{agree, agree_same, below_at}
use Rattle.codepage.specs.Page.{Page, table037, char_in}
use Rattle.codepage.specs.Rearranged.{rearranged}
use Rattle.codepage.specs.Blank.{is_blank, is_blank_in}
use Rattle.codepage.proofs.Rearranged.{long}

pub rearranged_037 : T (rearranged table037)
unfolding rearranged table037
rearranged_037 = tt

-- the bytes whose characters trimming drops, in page 037
abbrev pub is_blank_byte : ℕ → Bool
is_blank_byte b = (leb 0x0B b && leb b 0x0D) || eqb b 0x05 || eqb b 0x15 || eqb b 0x25 || eqb b 0x40 || eqb b 0x41

-- the table has its blanks at those bytes and nowhere else
unfoldable pub blanks_as_in037 : List ℕ → Bool
blanks_as_in037 t = below 256 (λ b. agree (is_blank (get_or t b 0)) (is_blank_byte b))

pub blanks_037 : T (blanks_as_in037 table037)
unfolding blanks_as_in037 table037
blanks_037 = tt

-- the eight bytes are below 80: computed
eight_low : T (below 256 (λ b. pick (is_blank_byte b) (ltb b 0x80) true))
eight_low = tt

module _ (page : Page) (h : T (blanks_as_in037 page.table)) where
  pub blank_byte : (b : ℕ) → b < 256 → is_blank_in page b ≡ is_blank_byte b
  unfolding is_blank_in blanks_as_in037
  blank_byte b l =
      agree_same (is_blank (char_in page b)) (is_blank_byte b)
      (below_at 256 (λ k. agree (is_blank (get_or page.table k 0)) (is_blank_byte k)) h b l)

  -- trimming drops no byte above 7F
  pub blank_low : T (rearranged page.table) → (b : ℕ) → is_blank_in page b ≡ true → b < 0x80
  unfolding is_blank_in
  blank_low r b e = go (ltb b 256) refl
    where
      go : (t : Bool) → ltb b 256 ≡ t → b < 0x80
      go true u =
          let l : b < 256 = ltb-true b 256 u in
          ltb→lt b 0x80 (rw (sym (blank_byte b l) ∙ e) at (below_at 256 (λ k. pick (is_blank_byte k) (ltb k 0x80) true) eight_low b l))
      go false u =
          let z : get_or page.table b 0 ≡ 0 = get_or-eq_default page.table 0 (omega (arith, ltb-false b 256 u, long page.table r)) in
          absurd (subst T (sym e ∙ ap is_blank z) tt)
