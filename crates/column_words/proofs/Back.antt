-- The columns of a list's words are the list, and the words are those of columns, where the records' fields have their widths.
use mathlib.Core.Bool.{Bool, true, false, ◌&&◌}
use mathlib.Core.Path.{◌≡◌, refl, sym, ap, ◌∙◌}
use mathlib.Core.List.{List, [], ◌∷◌, ◌++◌, append_assoc, flat_map}
use Prim.Native.Nat.{ℕ, ◌+◌, ◌/◌, ◌%◌}
use native.Mathlib.Omega.{arith}
use lib.Dec.{eqb, ltb}
use lib.ListN.{length, get_or, length-append}
use lib.Seq.{get_or-append-add}
use borrow.Author.Tests.{lt-ltb, eq-eqb}
use Rattle.search.specs.Search.{pick}
use Rattle.field.specs.declared.ByteOrder.{ByteOrder}
use Rattle.field.specs.declared.ByteOrder.TheVariants.{BigEndian, LittleEndian}
use Rattle.types.specs.declared.ColumnMetadata.{ColumnMetadata}
use Rattle.sqlda.proofs.Codes.{type_back, type_fits}
use Rattle.column.specs.Numbers.{order_number}
use Rattle.column.proofs.Numbers.{order_back}
use Rattle.column_words.specs.Words.{words_of, all_words}
use Rattle.column_words.specs.Columns.{column_in, numbers_fit, alphabets_fit, is_column, columns_from, are_from, columns_in, are_columns}
use Rattle.column_words.specs.Held.{Held, AllHeld}
use Rattle.column_words.proofs.Words.{words_length, all_length}

-- ---- a column, whose words stand in front of others

one_back : (b : Bool) → eqb (pick b 1 0) 1 ≡ b
one_back true = refl
one_back false = refl

one_below : (b : Bool) → ltb (pick b 1 0) 2 ≡ true
one_below true = refl
one_below false = refl

order_below : (o : ByteOrder) → ltb (order_number o) 2 ≡ true
order_below BigEndian = refl
order_below LittleEndian = refl

front_back : (c : ColumnMetadata) → Held c → (rest : List ℕ) → column_in (words_of c ++ rest) 0 ≡ c
unfolding column_in words_of
front_back c h rest = rw (type_back c.db2_type h.type, one_back c.nullable, order_back c.byte_order) refl

front_fits : (c : ColumnMetadata) → Held c → (rest : List ℕ) → is_column (words_of c ++ rest) 0 ≡ true
unfolding is_column numbers_fit alphabets_fit words_of
front_fits c h rest =
    rw (
      lt-ltb c.number 65536 h.number,
      type_fits c.db2_type h.type,
      lt-ltb c.drda_type 256 h.code,
      lt-ltb c.length 65536 h.length,
      one_below c.nullable,
      lt-ltb c.precision 256 h.precision,
      lt-ltb c.scale 256 h.scale,
      lt-ltb c.ccsid 65536 h.ccsid,
      order_below c.byte_order,
      lt-ltb c.name.alphabet 256 h.name,
      lt-ltb c.label.alphabet 256 h.label,
      lt-ltb c.base_table_name.alphabet 256 h.base,
      lt-ltb c.schema_name.alphabet 256 h.schema,
    ) refl

-- ---- past other words

module _ (p x : List ℕ) where
  seam : get_or (p ++ x) (length p) 0 ≡ get_or x 0 0
  seam = let e : length p + 0 ≡ length p = omega arith in ap (λ (n : ℕ). get_or (p ++ x) n 0) (sym e) ∙ get_or-append-add p x 0 0

  column_past : column_in (p ++ x) (length p) ≡ column_in x 0
  unfolding column_in
  column_past = simp (seam, get_or-append-add)

  fits_past : is_column (p ++ x) (length p) ≡ is_column x 0
  unfolding is_column numbers_fit alphabets_fit
  fits_past = simp (seam, get_or-append-add)

-- ---- a list, whose words stand past others

module _ (p : List ℕ) (c : ColumnMetadata) (l : List ColumnMetadata) where
  -- the words of the others stand 22 further on
  further : length (p ++ words_of c) ≡ length p + 22
  further = omega (arith, length-append p (words_of c), words_length c)

  abbrev at_next : {A : Type 0} → (List ℕ → ℕ → A) → A
  at_next f = f (p ++ (words_of c ++ all_words l)) (length p + 22)

  next : {A : Type 0} (f : List ℕ → ℕ → A) → at_next f ≡ f ((p ++ words_of c) ++ all_words l) (length (p ++ words_of c))
  next f = rw (further, append_assoc p (words_of c) (all_words l)) refl

all_back : (l : List ColumnMetadata) → AllHeld l → (p : List ℕ) → columns_from (p ++ all_words l) (length l) (length p) ≡ l
unfolding columns_from flat_map
all_back [] h p = refl
all_back (c ∷ l) h p =
    let first = column_past p (words_of c ++ all_words l) ∙ front_back c h.0 (all_words l) in
    let others = next p c l (λ w at. columns_from w (length l) at) ∙ all_back l h.1 (p ++ words_of c) in
    λ i. first i ∷ others i

all_fit : (l : List ColumnMetadata) → AllHeld l → (p : List ℕ) → are_from (p ++ all_words l) (length l) (length p) ≡ true
unfolding are_from flat_map
all_fit [] h p = refl
all_fit (c ∷ l) h p =
    let first = fits_past p (words_of c ++ all_words l) ∙ front_fits c h.0 (all_words l) in
    let others = next p c l (λ w at. are_from w (length l) at) ∙ all_fit l h.1 (p ++ words_of c) in
    λ i. first i && others i

module _ (l : List ColumnMetadata) (h : AllHeld l) where
  -- as many as there are columns
  counted : length (all_words l) / 22 ≡ length l
  counted = omega (arith, all_length l)

  pub columns_back : columns_in (all_words l) ≡ l
  unfolding columns_in
  columns_back = rw counted (all_back l h [])

  pub columns_are : are_columns (all_words l) ≡ true
  unfolding are_columns
  columns_are = rw (eq-eqb (length (all_words l) % 22) 0 (omega (arith, all_length l)), counted) (all_fit l h [])
