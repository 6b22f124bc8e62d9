-- A message's blanks are known by their bytes.
use mathlib.Core.Path.{◌≡◌, refl}
use mathlib.Core.Bool.{Bool, true, false, not, ◌||◌}
use Prim.Native.Nat.{ℕ, ◌<◌}
use lib.Dec.{T, eqb}
use Rattle.search.specs.Search.{pick, below}
use Rattle.search.proofs.Tests.{agree, agree_same, below_at}
use Rattle.codepage.specs.Page.{Page, char_in}
use Rattle.codepage.specs.Blank.{is_blank, is_blank_in}
use Rattle.message.specs.Message.{is_printable, is_separator, message_char}

-- in ASCII all but 21 to 7E are blanks: computed
ascii_blanks : T (below 256 (λ b. agree (eqb b 0x20 || not (is_printable b)) (is_blank (pick (is_printable b) b 0x20))))
ascii_blanks = tt

module _ (page : Page) (ascii : Bool) (b : ℕ) where
  pub blank_ascii : ascii ≡ true → b < 256 → (eqb b 0x20 || not (is_printable b)) ≡ is_blank (message_char page ascii b)
  unfolding message_char
  blank_ascii e l =
      rw e
      (agree_same (eqb b 0x20 || not (is_printable b)) (is_blank (pick (is_printable b) b 0x20))
      (below_at 256 (λ k. agree (eqb k 0x20 || not (is_printable k)) (is_blank (pick (is_printable k) k 0x20))) ascii_blanks b l))

  pub blank_page : ascii ≡ false → (is_separator b || is_blank_in page b) ≡ is_blank (message_char page ascii b)
  unfolding message_char is_blank_in
  blank_page e = rw e (go (is_separator b))
    where
      go : (t : Bool) → (t || is_blank (char_in page b)) ≡ is_blank (pick t 0x20 (char_in page b))
      go true = refl
      go false = refl
