-- Locality: where two replies have the same first n bytes, they have the same fields in them.
use mathlib.Core.Path.{◌≡◌, refl, sym, ap, ◌∙◌}
use mathlib.Core.Bool.{true, false, not, ◌&&◌}
use mathlib.Core.List.{List, ◌∷◌}
use Prim.Native.Nat.{ℕ, zero, suc, ◌+◌, ◌*◌, ◌≤◌, ◌<◌}
use native.Mathlib.Omega.{arith}
use lib.Dec.{leb, eqb}
use lib.ListN.{length, get_or, take, drop}
use borrow.Author.Tests.{le-leb, eq-eqb, ne_eqb}
use Rattle.search.specs.Search.{pick}
use Rattle.codepage.specs.Page.{Page}
use Rattle.text.specs.Chars.{is_ascii}
use Rattle.field.specs.declared.ByteOrder.{ByteOrder}
use Rattle.field.specs.declared.ByteOrder.TheVariants.{BigEndian, LittleEndian}
use Rattle.strings.specs.declared.StringRead.{StringRead}
use Rattle.field.specs.Numbers.{number, signed}
use Rattle.strings.specs.Strings.{string_end, strings_end, string_at, no_string}
use Rattle.strings.proofs.Windows.{Window, same_here, number_same, part_same, strings_end_local, string_at_same, string_still, string_end_grows}
use Rattle.message.specs.Message.{has_text}
use Rattle.sqlca.specs.Code.{is_near, code_bits, code_order, code_of, state_bytes, proc_bytes, numbers_order}
use Rattle.sqlca.specs.Extension.{is_extended, numbers_from, rows_of, warnings_of, extension_of}
use Rattle.sqlca.specs.Message.{bytes_of, first_text, message_at}
use Rattle.sqlca.proofs.Extended.{warnings_there, extension_absent, extension_there}

module _ (s v : List ℕ) (n : ℕ) (w : Window s 0 v 0 n) where
  number_at : (o : ByteOrder) (width p : ℕ) → p + width ≤ n → number o width s p ≡ number o width v p
  number_at o width p h = number_same s 0 v 0 n w o width p p (same_here p) (omega arith)

  part_at : (p c : ℕ) → p + c ≤ n → take c (drop p s) ≡ take c (drop p v)
  part_at p c h = part_same s 0 v 0 n w p p c (same_here p) (omega arith)

  pub byte_at : (p : ℕ) → p < n → get_or s p 0 ≡ get_or v p 0
  byte_at p h = w.bytes p p (same_here p) (omega arith)

  -- ---- the code and the bytes behind it

  module _ (h : 19 ≤ n) where
    code_at : (o : ByteOrder) → code_bits o s ≡ code_bits o v
    code_at o = number_at o 4 1 (omega arith)

    pub order_same : code_order s ≡ code_order v
    unfolding code_order
    order_same = λ i. pick (is_near (code_at BigEndian i) && not (is_near (code_at LittleEndian i))) BigEndian LittleEndian

    pub code_same : code_of s ≡ code_of v
    unfolding code_of
    code_same = ap (λ (o : ByteOrder). signed (code_bits o s)) order_same ∙ ap signed (code_at (code_order v))

    pub state_same : state_bytes s ≡ state_bytes v
    state_same = part_at 5 5 (omega arith)

    pub proc_same : proc_bytes s ≡ proc_bytes v
    proc_same = part_at 10 8 (omega arith)

    pub numbers_order_same : numbers_order s ≡ numbers_order v
    unfolding numbers_order
    numbers_order_same =
        λ i. pick (eqb (code_at BigEndian i) (code_at LittleEndian i)) (pick (is_ascii (state_same i)) LittleEndian BigEndian) (order_same i)

  -- ---- the extension

  pub numbers_same : (k : ℕ) (o : ByteOrder) (p : ℕ) → p + 4 * k ≤ n → numbers_from k o s p ≡ numbers_from k o v p
  numbers_same zero o p h = refl
  numbers_same (suc k) o p h =
      let a : signed (number o 4 s p) ≡ signed (number o 4 v p) = ap signed (number_at o 4 p (omega arith)) in
      let b : numbers_from k o s (p + 4) ≡ numbers_from k o v (p + 4) = numbers_same k o (p + 4) (omega arith) in
      λ i. a i ∷ b i

  -- an extension that is due and there in full
  module _ (h : 54 ≤ n) (f : get_or s 18 0 ≡ 0xFF → ⊥) where
    extended : (u : List ℕ) → (get_or u 18 0 ≡ 0xFF → ⊥) → 43 ≤ length u → is_extended u ≡ true
    unfolding is_extended
    extended u g k =
        let a : eqb (get_or u 18 0) 0xFF ≡ false = ne_eqb (get_or u 18 0) 0xFF g in
        let b : leb 43 (length u) ≡ true = le-leb 43 (length u) k in
        rw (a, b) refl

    pub extended_here : is_extended s ≡ true
    extended_here = extended s f (omega (arith, w.inside))

    pub extended_there : is_extended v ≡ true
    extended_there = extended v (λ e. f (byte_at 18 (omega arith) ∙ e)) (omega (arith, w.inside'))

    warnings_same : warnings_of s ≡ warnings_of v
    warnings_same =
        warnings_there s (omega (arith, w.inside))
        ∙ (part_at 43 11 (omega arith) ∙ sym (warnings_there v (omega (arith, w.inside'))))

    pub extension_same : extension_of s ≡ extension_of v
    extension_same =
        let o = numbers_order s in
        sym (extension_there s o extended_here refl refl refl refl)
        ∙ extension_there v o extended_there (numbers_order_same (omega arith)) (numbers_same 6 o 19 (omega arith))
        (ap (λ (b : ℕ). rows_of (signed b)) (number_at o 4 27 (omega arith)))
        warnings_same

  -- one that is not due
  module _ (h : 19 ≤ n) (f : get_or s 18 0 ≡ 0xFF) where
    absent : (u : List ℕ) → get_or u 18 0 ≡ 0xFF → is_extended u ≡ false
    unfolding is_extended
    absent u g =
        let a : eqb (get_or u 18 0) 0xFF ≡ true = eq-eqb (get_or u 18 0) 0xFF g in
        rw a refl

    pub absent_here : is_extended s ≡ false
    absent_here = absent s f

    pub absent_there : is_extended v ≡ false
    absent_there = absent v (sym (byte_at 18 (omega arith)) ∙ f)

    pub no_extension_same : extension_of s ≡ extension_of v
    no_extension_same = sym (extension_absent s absent_here) ∙ extension_absent v absent_there

  -- ---- the message

  string_same : (p : ℕ) → string_end s p ≤ n → string_at s p ≡ string_at v p
  string_same p h = sym (string_still n (string_at s p) (string_at v p) (string_at_same s 0 v 0 n w p p (same_here p) (omega arith)))

  pub end_same : (k p : ℕ) → strings_end k s p ≤ n → strings_end k s p ≡ strings_end k v p
  end_same k p h = omega (arith, (strings_end_local s 0 v 0 n w k p p (same_here p) (omega arith)).meets)

  -- a string's bytes
  bytes_same : (p : ℕ) → string_end s p ≤ n → bytes_of s (string_at s p) ≡ bytes_of v (string_at s p)
  bytes_same p h =
      let m = string_at_same s 0 v 0 n w p p (same_here p) (omega arith) in
      part_at (string_at s p).place (string_at s p).length (omega (arith, m.within))

  chosen_same : (page : Page) (m t : StringRead) → bytes_of s m ≡ bytes_of v m → bytes_of s t ≡ bytes_of v t → first_text page s m t ≡ first_text page v m t
  unfolding first_text
  chosen_same page m t e f =
      λ i. pick (has_text page (e i)) (record { place = m.place; length = m.length; next = t.next }) (pick (has_text page (f i)) t (no_string t.next))

  pub message_same : (page : Page) (p : ℕ) → strings_end 3 s p ≤ n → message_at page s p ≡ message_at page v p
  unfolding message_at strings_end
  message_same page p h =
      let a = string_end s p in
      let b = string_end s a in
      let k : b ≤ n = omega (arith, string_end_grows s b) in
      let x : a ≡ string_end v p = end_same 1 p (omega (arith, string_end_grows s a)) in
      let y : b ≡ string_end v (string_end v p) = end_same 2 p k in
      chosen_same page (string_at s a) (string_at s b) (bytes_same a k) (bytes_same b h)
      ∙ λ i. first_text page v ((string_same a k ∙ ap (string_at v) x) i) ((string_same b h ∙ ap (string_at v) y) i)
