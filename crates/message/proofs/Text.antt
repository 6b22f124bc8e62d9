-- What later crates may know of a message's text.
use mathlib.Core.Path.{◌≡◌, refl, ap}
use mathlib.Core.Bool.{Bool, true, false}
use mathlib.Core.List.{List, [], map}
use Prim.Native.Nat.{ℕ, ◌≤◌}
use native.Mathlib.Omega.{arith}
use lib.Dec.{ltb}
use lib.ListN.{length, length-map}
use borrow.Author.Tests.{lt-ltb, le-ltb, ltb-true, ltb-false}
use Rattle.search.specs.Search.{count}
use Rattle.codepage.specs.Page.{Page}
use Rattle.message.specs.Message.{is_ascii_message, message_char, message_chars, text_in, message_text, has_text}
use Rattle.message.specs.Squeezed.{squeezed}
use Rattle.message.specs.declared.Behind.TheVariants.{Nothing}
use Rattle.message.proofs.Squeezed.{squeezed_short}
use Rattle.message.proofs.Blocks.{is_character, squeezed_none, squeezed_some}

-- no bytes have no text
pub has_text_empty : (page : Page) → has_text page [] ≡ false
unfolding has_text message_text
has_text_empty page = refl

-- a text is not longer than its bytes, in either alphabet
pub text_in_short : (page : Page) (ascii : Bool) (bs : List ℕ) → length (text_in page ascii bs) ≤ length bs
text_in_short page ascii bs =
    omega (arith, squeezed_short Nothing (message_chars page ascii bs), length-map bs (message_char page ascii))

-- the same of the message's own alphabet
pub text_short : (page : Page) (bs : List ℕ) → length (message_text page bs) ≤ length bs
unfolding message_text
text_short page bs = text_in_short page (is_ascii_message bs) bs

-- there is one where its bytes have a character that is no blank
pub has_text_is : (page : Page) (bs : List ℕ) → has_text page bs ≡ ltb 0 (count (is_character (message_char page (is_ascii_message bs))) bs)
unfolding has_text message_text
has_text_is page bs = go _ refl
  where
    f : ℕ → ℕ
    f = message_char page (is_ascii_message bs)

    go : (t : Bool) → ltb 0 (count (is_character f) bs) ≡ t → ltb 0 (length (squeezed Nothing (map f bs))) ≡ t
    go true e = lt-ltb 0 (length (squeezed Nothing (map f bs))) (squeezed_some f Nothing bs (ltb-true 0 (count (is_character f) bs) e))
    go false e =
        le-ltb 0 (length (squeezed Nothing (map f bs)))
        (omega (arith, squeezed_none f bs (omega (arith, ltb-false 0 (count (is_character f) bs) e))))

-- the text, by the alphabet that the code found
pub text_is : (page : Page) (bs : List ℕ) (ascii : Bool) → ascii ≡ is_ascii_message bs → text_in page ascii bs ≡ message_text page bs
unfolding message_text
text_is page bs ascii e = ap (λ (a : Bool). text_in page a bs) e
