-- What is past the message's strings, and what is left of it where one of them cannot be read.
use mathlib.Core.Path.{◌≡◌, refl, sym, ap, ◌∙◌}
use mathlib.Core.Bool.{false}
use mathlib.Core.List.{List}
use Prim.Native.Nat.{ℕ, ◌<◌}
use native.Mathlib.Omega.{arith}
use lib.ListN.{length}
use Rattle.std.proofs.Common.{rules}
use Rattle.codepage.specs.Page.{Page}
use Rattle.strings.specs.declared.StringRead.{StringRead}
use Rattle.strings.specs.Strings.{string_end, strings_end, string_at, no_string}
use Rattle.strings.proofs.Strings.{string_next, string_stays, string_unread}
use Rattle.message.specs.Message.{has_text}
use Rattle.message.proofs.Text.{has_text_empty}
use Rattle.sqlca.specs.Message.{bytes_of, first_text, message_at}

-- past both, whichever it is
pub first_next : (page : Page) (s : List ℕ) (m t : StringRead) → (first_text page s m t).next ≡ t.next
unfolding first_text
first_next page s m t = search rules

-- past the three strings
pub message_next : (page : Page) (s : List ℕ) (p : ℕ) → (message_at page s p).next ≡ strings_end 3 s p
unfolding message_at strings_end
message_next page s p = first_next page s (string_at s (string_end s p)) (string_at s (strings_end 2 s p)) ∙ string_next s (strings_end 2 s p)

-- ---- where the reply ends early

-- a string without bytes is no text
none_text : (page : Page) (s : List ℕ) (n : ℕ) → has_text page (bytes_of s (no_string n)) ≡ false
none_text page s n = has_text_empty page

module _ (page : Page) (s : List ℕ) where
  none_first : (x : ℕ) → first_text page s (no_string x) (no_string x) ≡ no_string x
  unfolding first_text
  none_first x = rw (none_text page s x) refl

  -- past the reply's end there is none
  past_end : (x : ℕ) → length s < x → string_at s x ≡ no_string x
  past_end x h = let e : string_end s x ≡ x = string_stays s x h in sym (string_unread s x (rw e h)) ∙ ap no_string e

  -- the second string cannot be read, nor can the third
  second_cut : (a : ℕ) → length s < string_end s a → no_string (string_end s a) ≡ first_text page s (string_at s a) (string_at s (string_end s a))
  second_cut a h =
      let m : string_at s a ≡ no_string (string_end s a) = sym (string_unread s a h) in
      let t : string_at s (string_end s a) ≡ no_string (string_end s a) = past_end (string_end s a) h in
      sym ((λ i. first_text page s (m i) (t i)) ∙ none_first (string_end s a))

  pub rdb_cut : (p : ℕ) → length s < string_end s p → no_string (string_end s p) ≡ message_at page s p
  unfolding message_at strings_end
  rdb_cut p h =
      let e : string_end s (string_end s p) ≡ string_end s p = string_stays s (string_end s p) h in
      ap no_string (sym e) ∙ second_cut (string_end s p) (rw e h)

  pub m_cut : (p a : ℕ) → a ≡ string_end s p → length s < string_end s a → no_string (string_end s a) ≡ message_at page s p
  unfolding message_at strings_end
  m_cut p a e h = rw (← e) (second_cut a h)

  -- m is read, and s is not
  pub s_cut : (m : StringRead) → length s < string_end s m.next
      → first_text page s m (no_string (string_end s m.next)) ≡ first_text page s m (string_at s m.next)
  s_cut m h = ap (first_text page s m) (string_unread s m.next h)

  pub none_behind : (m : StringRead) (x : ℕ) → has_text page (bytes_of s m) ≡ false → no_string x ≡ first_text page s m (no_string x)
  unfolding first_text
  none_behind m x h = rw (h, none_text page s x) refl
