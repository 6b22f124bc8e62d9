-- Strings and columns found in two replies: where the bytes are the same, the texts are the same, their places moved.
use mathlib.Core.Path.{◌≡◌, refl, sym, ap, ◌∙◌}
use mathlib.Core.Bool.{Bool, true, false}
use mathlib.Core.List.{List}
use Prim.Native.Nat.{ℕ, ◌+◌, ◌-◌}
use native.Mathlib.Omega.{arith}
use lib.Dec.{eqb}
use lib.ListN.{take, drop}
use Rattle.search.specs.Search.{pick}
use Rattle.codepage.specs.Page.{Page}
use Rattle.codepage.specs.Blank.{is_blank_in}
use Rattle.strings.specs.declared.StringRead.{StringRead}
use Rattle.strings.specs.Strings.{chosen, no_string}
use Rattle.strings.proofs.Windows.{Same, Window, StringMoved, same_plus, part_same}
use Rattle.text.specs.declared.Text.{Text}
use Rattle.text.specs.Chars.{is_ascii}
use Rattle.text.specs.Text.{text_is, empty_text, placed, leading, kept, text_on, text_of}
use Rattle.types.specs.declared.ColumnMetadata.{ColumnMetadata}
use Rattle.column.specs.Column.{string_text, name_text, generated_text}
use Rattle.column.specs.Moved.{move_text, move_column}

-- ---- texts

-- a text that is moved keeps its length
pub move_length : (a b : ℕ) (t : Text) → (move_text a b t).length ≡ t.length
unfolding move_text
move_length a b t = go (eqb t.length 0)
  where
    go : (u : Bool) → (pick u t (text_is (t.place - a + b) t.length t.alphabet)).length ≡ t.length
    go true = refl
    go false = refl

pub move_text_none : (t : Text) → move_text 0 0 t ≡ t
unfolding move_text
move_text_none t = go (eqb t.length 0)
  where
    go : (u : Bool) → pick u t (text_is (t.place - 0 + 0) t.length t.alphabet) ≡ t
    go true = refl
    go false = let e : t.place - 0 + 0 ≡ t.place = omega arith in λ i. text_is (e i) t.length t.alphabet

pub move_none : (c : ColumnMetadata) → move_column 0 0 c ≡ c
unfolding move_column
move_none c = λ i. record {
  number = c.number;
  db2_type = c.db2_type;
  drda_type = c.drda_type;
  length = c.length;
  nullable = c.nullable;
  precision = c.precision;
  scale = c.scale;
  ccsid = c.ccsid;
  byte_order = c.byte_order;
  name = move_text_none c.name i;
  label = move_text_none c.label i;
  base_table_name = move_text_none c.base_table_name i;
  schema_name = move_text_none c.schema_name i;
}

move_placed : (a b p q n k : ℕ) → Same a b p q → placed q n k ≡ move_text a b (placed p n k)
unfolding placed move_text
move_placed a b p q n k h = go (eqb n 0) refl
  where
    go : (x : Bool) → eqb n 0 ≡ x → pick x empty_text (text_is q n k) ≡ move_text a b (pick x empty_text (text_is p n k))
    go true e = refl
    go false e =
        let i : q ≡ p - a + b = omega arith in
        rw (e, i) refl

-- the same bytes at two places
move_bytes : (page : Page) (bs : List ℕ) (a b p q : ℕ) → Same a b p q → text_on page bs q ≡ move_text a b (text_on page bs p)
unfolding text_on
move_bytes page bs a b p q h = go (is_ascii bs) (leading (is_blank_in page) bs)
  where
    go : (z : Bool) (f : ℕ)
        → pick z (placed q (lib.ListN.length bs) 1) (placed (q + f) (kept (is_blank_in page) bs - f) page.alphabet)
        ≡ move_text a b (pick z (placed p (lib.ListN.length bs) 1) (placed (p + f) (kept (is_blank_in page) bs - f) page.alphabet))
    go true f = move_placed a b p q (lib.ListN.length bs) 1 h
    go false f = move_placed a b (p + f) (q + f) (kept (is_blank_in page) bs - f) page.alphabet (same_plus a b f p q h)

-- ---- strings

-- the string r' of s' reads as r of s does, its text moved from a to b
pub record Alike (page : Page) (s : List ℕ) (a : ℕ) (s' : List ℕ) (b : ℕ) (r r' : StringRead) : Type 0 where
  pub length : r'.length ≡ r.length
  pub text : string_text page s' r' ≡ move_text a b (string_text page s r)

pub alike_none : (page : Page) (s : List ℕ) (a : ℕ) (s' : List ℕ) (b x : ℕ) → Alike page s a s' b (no_string x) (no_string x)
unfolding string_text text_on placed move_text is_ascii
alike_none page s a s' b x = record { length = refl; text = refl }

pub alike_moved : (page : Page) (s : List ℕ) (a : ℕ) (s' : List ℕ) (b n : ℕ) → Window s a s' b n
    → (r r' : StringRead) → StringMoved a b n r r' → Alike page s a s' b r r'
unfolding string_text
alike_moved page s a s' b n w r r' m =
    record {
      length = m.length;
      text =
          ap (λ (k : ℕ). text_of page s' r'.place k) m.length
          ∙ (ap (λ (bs : List ℕ). text_on page bs r'.place) (sym (part_same s a s' b n w r.place r'.place r.length m.place m.within))
          ∙ move_bytes page (take r.length (drop r.place s)) a b r.place r'.place m.place);
    }

module _ (page : Page) (s : List ℕ) (a : ℕ) (s' : List ℕ) (b : ℕ) where
  -- m is chosen in both or in neither
  pub alike_chosen : (r r' u u' : StringRead) → Alike page s a s' b r r' → Alike page s a s' b u u'
      → Alike page s a s' b (chosen r u) (chosen r' u')
  unfolding chosen string_text
  alike_chosen r r' u u' x y = go (eqb r.length 0) (eqb r'.length 0) (ap (λ (k : ℕ). eqb k 0) x.length)
    where
      go : (z z' : Bool) → z' ≡ z
          → Alike page s a s' b (pick z u (record { place = r.place; length = r.length; next = u.next }))
          (pick z' u' (record { place = r'.place; length = r'.length; next = u'.next }))
      go true true e = y
      go false false e = record { length = x.length; text = x.text }
      go true false e = absurd (let t : ◌≡◌ {A = ℕ} 0 1 = cc in omega arith)
      go false true e = absurd (let t : ◌≡◌ {A = ℕ} 0 1 = cc in omega arith)

  pub alike_name : (r r' : StringRead) → Alike page s a s' b r r' → name_text page s' r' ≡ move_text a b (name_text page s r)
  unfolding name_text move_text
  alike_name r r' x = ap (λ (k : ℕ). pick (eqb k 0) generated_text (string_text page s' r')) x.length ∙ go (eqb r.length 0)
    where
      go : (z : Bool) → pick z generated_text (string_text page s' r') ≡ move_text a b (pick z generated_text (string_text page s r))
      go true = refl
      go false = x.text
