-- Whether a column is named, by its name's bytes.
use mathlib.Core.Path.{◌≡◌, refl, ap, ◌∙◌}
use mathlib.Core.Bool.{Bool, true, false, not, ◌&&◌, ◌||◌}
use mathlib.Core.List.{List}
use Prim.Native.Nat.{ℕ, ◌+◌, ◌-◌, ◌<◌, ◌≤◌}
use lib.Dec.{eqb}
use lib.ListN.{length, take, drop}
use Rattle.search.specs.Search.{pick}
use Rattle.codepage.specs.Page.{Page}
use Rattle.strings.specs.declared.StringRead.{StringRead}
use Rattle.text.specs.Text.{text_of}
use Rattle.text.specs.Generated.{is_generated, text_chars, decoded, is_generated_text}
use Rattle.text.proofs.Decode.{lent, lent_length, alphabet_some, decoded_at}
use Rattle.column.specs.Column.{generated_text, string_text, name_text}

module _ (page : Page) (s : List ℕ) (r : StringRead) where
  -- by the name's bytes, as the code lends them
  pub named_at : 0 < page.alphabet → r.place + r.length ≤ length s → (b : Bool)
      → b ≡ (not (eqb (length (take (r.place + r.length - r.place) (drop r.place s))) 0)
      && not (is_generated (decoded page (take (r.place + r.length - r.place) (drop r.place s)))))
      → b ≡ not (is_generated_text page s (name_text page s r))
  unfolding name_text is_generated_text string_text
  named_at h l b e =
      let u = rw (lent s r.place r.length) at e in
      u
      ∙ ap (λ (k : ℕ). not (eqb k 0) && not (is_generated (decoded page (take r.length (drop r.place s))))) (lent_length s r.place r.length l)
      ∙ go (eqb r.length 0)
    where
      go : (z : Bool) → (not z && not (is_generated (decoded page (take r.length (drop r.place s)))))
          ≡ not (eqb (pick z generated_text (text_of page s r.place r.length)).alphabet 0
          || is_generated (text_chars page s (pick z generated_text (text_of page s r.place r.length))))
      go true = refl
      go false = rw (alphabet_some page h (take r.length (drop r.place s)) r.place, decoded_at page s r.place r.length) refl
