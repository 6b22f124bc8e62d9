-- Where texts lie in a reply, and that their bytes are kept where the reply's bytes are.
use mathlib.Core.Path.{◌≡◌, refl, sym}
use mathlib.Core.Bool.{Bool, true, false}
use mathlib.Core.List.{List, [], ◌∷◌}
use Prim.Native.Nat.{ℕ, ◌+◌, ◌-◌, ◌≤◌, min}
use native.Mathlib.Nat.{le_trans}
use native.Mathlib.Omega.{arith}
use lib.Dec.{eqb}
use lib.ListN.{take, drop, length-take}
use borrow.Author.Tests.{eqb-true, eqb-false}
use Rattle.search.specs.Search.{pick}
use Rattle.codepage.specs.Page.{Page}
use Rattle.codepage.specs.Blank.{is_blank_in}
use Rattle.strings.specs.declared.StringRead.{StringRead}
use Rattle.strings.specs.Strings.{chosen, no_string}
use Rattle.strings.proofs.Windows.{Window, part_same}
use Rattle.text.specs.declared.Text.{Text}
use Rattle.text.specs.Chars.{is_ascii}
use Rattle.text.specs.Text.{text_is, empty_text, placed, leading, kept, text_on, bytes_of}
use Rattle.text.proofs.Trim.{kept_le, leading_le}
use Rattle.types.specs.declared.ColumnMetadata.{ColumnMetadata}
use Rattle.column.specs.declared.Described.{Described}
use Rattle.column.specs.Column.{string_text, name_text, generated_text, column_with}
use Rattle.column.specs.Moved.{move_text, move_column, column_bytes, Lies, LiesAll}

-- ---- strings

-- the string's bytes, if it has any, lie from p on and up to q
pub record StringLies (p q : ℕ) (r : StringRead) : Type 0 where
  pub from : (r.length ≡ 0 → ⊥) → p ≤ r.place
  pub to : r.place + r.length ≤ q

pub string_wider : (p q p' q' : ℕ) (r : StringRead) → p' ≤ p → q ≤ q' → StringLies p q r → StringLies p' q' r
string_wider p q p' q' r h k l = record { from = λ z. le_trans h (l.from z); to = le_trans l.to k }

pub string_none : (p q x : ℕ) → StringLies p q (no_string x)
string_none p q x = record { from = λ z. absurd (z refl); to = omega arith }

pub string_chosen : (p q : ℕ) (r u : StringRead) → StringLies p q r → StringLies p q u → StringLies p q (chosen r u)
unfolding chosen
string_chosen p q r u h k = go (eqb r.length 0)
  where
    go : (z : Bool) → StringLies p q (pick z u (record { place = r.place; length = r.length; next = u.next }))
    go true = k
    go false = record { from = h.from; to = h.to }

-- ---- texts

pub lies_wider : (p q p' q' : ℕ) (t : Text) → p' ≤ p → q ≤ q' → Lies p q t → Lies p' q' t
lies_wider p q p' q' t h k l = record { from = λ z. le_trans h (l.from z); to = le_trans l.to k }

lies_none : (p q k : ℕ) → Lies p q (text_is 0 0 k)
lies_none p q k = record { from = λ z. absurd (z refl); to = omega arith }

lies_placed : (p q x n k : ℕ) → ((n ≡ 0 → ⊥) → p ≤ x) → x + n ≤ q → Lies p q (placed x n k)
unfolding placed
lies_placed p q x n k h i = go (eqb n 0) refl
  where
    go : (t : Bool) → eqb n 0 ≡ t → Lies p q (pick t empty_text (text_is x n k))
    go true e = lies_none p q 1
    go false e = record { from = h; to = i }

-- a string's text lies where the string does
pub text_lies : (page : Page) (s : List ℕ) (p q : ℕ) (r : StringRead) → StringLies p q r → Lies p q (string_text page s r)
unfolding string_text text_on
text_lies page s p q r l = go (take r.length (drop r.place s)) (length-take r.length (drop r.place s)) (is_ascii (take r.length (drop r.place s)))
  where
    go : (bs : List ℕ) → lib.ListN.length bs ≡ min r.length (lib.ListN.length (drop r.place s)) → (z : Bool)
        → Lies p q
        (pick z (placed r.place (lib.ListN.length bs) 1)
        (placed (r.place + leading (is_blank_in page) bs) (kept (is_blank_in page) bs - leading (is_blank_in page) bs) page.alphabet))
    go bs e true = lies_placed p q r.place (lib.ListN.length bs) 1 (λ z. l.from (λ y. z (omega arith))) (omega (arith, l.to))
    go bs e false =
        let n = leading_le (is_blank_in page) bs in
        let m = kept_le (is_blank_in page) bs in
        lies_placed p q _ _ page.alphabet
        (λ z. let i = l.from (λ y. z (omega arith)) in omega arith)
        (omega (arith, l.to))

pub name_lies : (page : Page) (s : List ℕ) (p q : ℕ) (r : StringRead) → StringLies p q r → Lies p q (name_text page s r)
unfolding name_text
name_lies page s p q r l = go (eqb r.length 0)
  where
    go : (z : Bool) → Lies p q (pick z generated_text (string_text page s r))
    go true = lies_none p q 0
    go false = text_lies page s p q r l

-- ---- columns

-- all strings of a descriptor do
pub record StringsLie (p q : ℕ) (d : Described) : Type 0 where
  pub name : StringLies p q d.name
  pub label : StringLies p q d.label
  pub base : StringLies p q d.base_table_name
  pub schema : StringLies p q d.schema_name

pub all_wider : (p q p' q' : ℕ) (c : ColumnMetadata) → p' ≤ p → q ≤ q' → LiesAll p q c → LiesAll p' q' c
all_wider p q p' q' c h k l =
    record {
      name = lies_wider p q p' q' _ h k l.name;
      label = lies_wider p q p' q' _ h k l.label;
      base = lies_wider p q p' q' _ h k l.base;
      schema = lies_wider p q p' q' _ h k l.schema;
    }

pub column_lies : (page : Page) (s : List ℕ) (i p q : ℕ) (d : Described) → StringsLie p q d → LiesAll p q (column_with page s i d)
unfolding column_with
column_lies page s i p q d l =
    record {
      name = name_lies page s p q _ l.name;
      label = text_lies page s p q _ l.label;
      base = text_lies page s p q _ l.base;
      schema = text_lies page s p q _ l.schema;
    }

-- ---- bytes in a window

module _ (s : List ℕ) (a : ℕ) (s' : List ℕ) (b n : ℕ) (w : Window s a s' b n) where
  text_bytes : (t : Text) → Lies a (a + n) t → bytes_of s' (move_text a b t) ≡ bytes_of s t
  unfolding move_text
  text_bytes t l = go (eqb t.length 0) refl
    where
      moved : Bool → Text
      moved u = pick u t (text_is (t.place - a + b) t.length t.alphabet)

      go : (u : Bool) → eqb t.length 0 ≡ u → take (moved u).length (drop (moved u).place s') ≡ take t.length (drop t.place s)
      go true e = let z = eqb-true t.length 0 e in rw z refl
      go false e =
          let f = l.from (eqb-false t.length 0 e) in
          sym (part_same s a s' b n w t.place (t.place - a + b) t.length (record { from = f; meets = omega arith }) l.to)

  -- a column whose texts lie in the window keeps their bytes where it is moved
  pub column_bytes_kept : (c : ColumnMetadata) → LiesAll a (a + n) c → column_bytes s' (move_column a b c) ≡ column_bytes s c
  unfolding column_bytes move_column
  column_bytes_kept c l = λ j.
      text_bytes _ l.name j ∷ text_bytes _ l.label j ∷ text_bytes _ l.base j ∷ text_bytes _ l.schema j ∷ []
