-- Spaces in front, block by block: trimming drops them, so that they may be left out before.
use Prim.Native.Nat.{ℕ}
use mathlib.Core.Path.{◌≡◌, refl, sym, ap, ◌∙◌}
use mathlib.Core.List.{List, [], ◌∷◌, ◌++◌}
use mathlib.Core.Bool.{Bool, true, false, ◌&&◌, true≢false}
use lib.ListN.{take, drop, replicate, take-append-drop}
use lib.Pointwise.{pointwise, bytes_decides}
use lib.Dec.{eqb}
use borrow.Author.Tests.{eqb-true}
use Rattle.search.specs.Search.{each}
use Rattle.codepage.specs.Page.{Page}
use Rattle.codepage.specs.Blank.{is_blank}
use Rattle.text.specs.Chars.{char_of, chars}
use Rattle.text.specs.Text.{trimmed_of}
use Rattle.text.proofs.Generated.{char_of_other}
use Rattle.identifier.proofs.Trims.{trimmed_drop}

abbrev pub is_space : ℕ → Bool
is_space b = eqb b 0x20

module _ (page : Page) (a : ℕ) (n : a ≡ page.alphabet → ⊥) where
  spaces_front : (xs ys : List ℕ) → each is_space xs ≡ true
      → trimmed_of is_blank (chars page a (xs ++ ys)) ≡ trimmed_of is_blank (chars page a ys)
  spaces_front [] ys e = refl
  spaces_front (x ∷ xs) ys e = go (is_space x) refl e (spaces_front xs ys)
    where
      go : (t : Bool) → is_space x ≡ t → (t && each is_space xs) ≡ true
          → (each is_space xs ≡ true → trimmed_of is_blank (chars page a (xs ++ ys)) ≡ trimmed_of is_blank (chars page a ys))
          → trimmed_of is_blank (chars page a (x ∷ (xs ++ ys))) ≡ trimmed_of is_blank (chars page a ys)
      go true u e r =
          let b : is_blank (char_of page a x) ≡ true = ap is_blank (sym (char_of_other page a x n)) ∙ ap is_blank (eqb-true x 0x20 u) in
          trimmed_drop is_blank (char_of page a x) (chars page a (xs ++ ys)) b ∙ r e
      go false u e r = absurd (true≢false (sym e))

  -- a block less that equals 64 spaces
  pub spaces_less : (bs r : List ℕ) → pointwise eqb (take 64 bs) (replicate 64 0x20) ≡ true → r ≡ drop 64 bs
      → trimmed_of is_blank (chars page a r) ≡ trimmed_of is_blank (chars page a bs)
  spaces_less bs r e y =
      ap (λ (l : List ℕ). trimmed_of is_blank (chars page a l)) y
      ∙ sym (spaces_front (take 64 bs) (drop 64 bs) (ap (each is_space) ((bytes_decides (take 64 bs) (replicate 64 0x20)).0 e)))
      ∙ ap (λ (l : List ℕ). trimmed_of is_blank (chars page a l)) (take-append-drop 64 bs)
