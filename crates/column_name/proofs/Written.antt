-- The characters of bytes by their alphabet.
use mathlib.Core.Path.{◌≡◌, sym, ◌∙◌}
use mathlib.Core.List.{List, map, map-id}
use Prim.Native.Nat.{ℕ}
use lib.ListN.{length, length-map}
use Rattle.codepage.specs.Page.{Page, char_in}
use Rattle.text.specs.Chars.{char_of, chars}
use Rattle.text.proofs.Generated.{char_of_page, char_of_other}

module _ (page : Page) (a : ℕ) (bytes : List ℕ) where
  -- a text has as many characters as bytes
  pub chars_length : length (chars page a bytes) ≡ length bytes
  chars_length = length-map bytes (char_of page a)

  -- in the page's alphabet they are the page's
  pub chars_page : a ≡ page.alphabet → map (char_in page) bytes ≡ chars page a bytes
  chars_page e = λ k. map (λ b. char_of_page page a b e k) bytes

  -- in another alphabet a text is its bytes
  pub chars_other : (a ≡ page.alphabet → ⊥) → chars page a bytes ≡ bytes
  chars_other h = (λ k. map (λ b. sym (char_of_other page a b h) k) bytes) ∙ map-id bytes
