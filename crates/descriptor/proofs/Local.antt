-- Locality: what a descriptor's reader finds in a window of one reply, it finds in the same window of another, its texts moved.
-- The one reply is read with flags missing or not, the other leniently.
use mathlib.Core.Path.{◌≡◌, refl, sym, ap, ◌∙◌}
use mathlib.Core.List.{List}
use Prim.Native.Nat.{ℕ, ◌+◌, ◌%◌, ◌≤◌, ◌<◌}
use native.Mathlib.Nat.{le_trans}
use native.Mathlib.Omega.{arith}
use lib.ListN.{length, get_or}
use Rattle.codepage.specs.Page.{Page}
use Rattle.field.specs.declared.ByteOrder.{ByteOrder}
use Rattle.strings.specs.declared.StringRead.{StringRead}
use Rattle.field.specs.Numbers.{number}
use Rattle.strings.specs.Strings.{strings_end, no_string, pair_at}
use Rattle.strings.proofs.Windows.{Same, Window, same_plus, strings_end_grows, strings_end_within, strings_end_local, pair_at_same, number_same}
use Rattle.sqlda.specs.Types.{is_known, sqlda_type}
use Rattle.column.specs.Column.{column_with}
use Rattle.column.specs.Moved.{move_column}
use Rattle.column.proofs.Moved.{Alike, alike_none, alike_moved, alike_chosen, alike_name}
use Rattle.descriptor.specs.Nullable.{Flags, lenient, strict, missing, nullable_end, in_nullable}
use Rattle.descriptor.specs.Descriptor.{udt_end, dx_end, dx_start, opt_end, descriptor_end, dx_pair, opt_name, opt_label, opt_pair, described_at, column_at}
use Rattle.descriptor.proofs.Flags.{nullable_end_missing, nullable_end_null, nullable_end_held, in_nullable_missing, in_nullable_null, in_nullable_held}
use Rattle.descriptor.proofs.Ends.{nullable_end_grows, udt_end_grows, dx_end_grows, opt_end_grows}
use Rattle.descriptor.proofs.Cases.{GroupIs, gone, null, held, group_is, descriptor_in}
use Rattle.descriptor.proofs.Steps.{descriptor_end_known}

-- a window, and where a flag that is due is missing in s, it is missing in s', and missing is allowed
pub record FlagWindow (flags : Flags) (s : List ℕ) (a : ℕ) (s' : List ℕ) (b n : ℕ) : Type 0 where
  pub window : Window s a s' b n
  pub seam : (p q : ℕ) → Same a b p q → length s ≤ p → missing flags p ≤ a + n → (length s' ≤ q) × (missing flags p ≡ p)

module _ (flags : Flags) (s : List ℕ) (a : ℕ) (s' : List ℕ) (b n : ℕ) (w : FlagWindow flags s a s' b n) where
  byte : (p q : ℕ) → Same a b p q → p < a + n → get_or s p 0 ≡ get_or s' q 0
  byte = w.window.bytes

  -- ---- positions

  nullable_local : (f f' : List ℕ → ℕ → ℕ)
      → ((p q : ℕ) → Same a b p q → f s p ≤ a + n → Same a b (f s p) (f' s' q))
      → ((s : List ℕ) (p : ℕ) → p ≤ f s p)
      → (p q : ℕ) → Same a b p q → nullable_end flags f s p ≤ a + n → Same a b (nullable_end flags f s p) (nullable_end lenient f' s' q)
  nullable_local f f' l g p q h k = go (group_is flags f s p)
    where
      go : GroupIs flags f s p → Same a b (nullable_end flags f s p) (nullable_end lenient f' s' q)
      go (gone x e) =
          let t = w.seam p q h x (rw e at k) in
          rw (e, t.1, nullable_end_missing lenient f' s' q t.0) h
      go (null x y e) =
          let e' : nullable_end lenient f' s' q ≡ q + 1 =
          nullable_end_null lenient f' s' q (omega (arith, w.window.inside')) (sym (byte p q h (omega arith)) ∙ y) in
          rw (e, e') (same_plus a b 1 p q h)
      go (held x y e) =
          let i = g s (p + 1) in
          let e' : nullable_end lenient f' s' q ≡ f' s' (q + 1) =
          nullable_end_held lenient f' s' q (omega (arith, w.window.inside')) (λ z. y (byte p q h (omega arith) ∙ z)) in
          rw (e, e') (l (p + 1) (q + 1) (same_plus a b 1 p q h) (rw e at k))

  strings : (c p q : ℕ) → Same a b p q → strings_end c s p ≤ a + n → Same a b (strings_end c s p) (strings_end c s' q)
  strings = strings_end_local s a s' b n w.window

  udt_local : (p q : ℕ) → Same a b p q → udt_end s p ≤ a + n → Same a b (udt_end s p) (udt_end s' q)
  unfolding udt_end
  udt_local p q h k = strings 5 (p + 4) (q + 4) (same_plus a b 4 p q h) k

  dx_local : (p q : ℕ) → Same a b p q → dx_end s p ≤ a + n → Same a b (dx_end s p) (dx_end s' q)
  unfolding dx_end
  dx_local p q h k = strings 9 (p + 8) (q + 8) (same_plus a b 8 p q h) k

  pub start_local : (p q : ℕ) → Same a b p q → dx_start flags s p ≤ a + n → Same a b (dx_start flags s p) (dx_start lenient s' q)
  unfolding dx_start
  start_local p q h k =
      nullable_local udt_end udt_end udt_local udt_end_grows _ _
      (strings 6 (p + 2) (q + 2) (same_plus a b 2 p q h) (le_trans (nullable_end_grows flags udt_end s (udt_end_grows s) (strings_end 6 s (p + 2))) k))
      k

  opt_local : (p q : ℕ) → Same a b p q → opt_end flags s p ≤ a + n → Same a b (opt_end flags s p) (opt_end lenient s' q)
  unfolding opt_end
  opt_local p q h k =
      nullable_local dx_end dx_end dx_local dx_end_grows _ _
      (start_local p q h (le_trans (nullable_end_grows flags dx_end s (dx_end_grows s) (dx_start flags s p)) k))
      k

  pub descriptor_local : (order : ByteOrder) (p q : ℕ) → Same a b p q → descriptor_end flags order s p ≤ a + n
      → Same a b (descriptor_end flags order s p) (descriptor_end lenient order s' q)
  descriptor_local order p q h k =
      let i = descriptor_in flags order s p (le_trans k w.window.inside) in
      let g = nullable_end_grows flags (opt_end flags) s (opt_end_grows flags s) (p + 16) in
      let e = number_same s a s' b n w.window order 2 (p + 12) (q + 12) (same_plus a b 12 p q h) (omega arith) in
      let e' : descriptor_end lenient order s' q ≡ nullable_end lenient (opt_end lenient) s' (q + 16) =
      descriptor_end_known lenient order s' q (omega (arith, w.window.inside')) (sym (ap is_known e) ∙ i.1) in
      rw (i.2, e')
      (nullable_local (opt_end flags) (opt_end lenient) opt_local (opt_end_grows flags) (p + 16) (q + 16) (same_plus a b 16 p q h) (rw i.2 at k))

-- ---- a reply read strictly is read the same leniently: a reply is a window of itself

itself : (flags : Flags) (s : List ℕ) → FlagWindow flags s 0 s 0 (length s)
itself flags s =
    record {
      window = record {
        bytes = λ p q h k. let e : p ≡ q = omega arith in ap (λ (i : ℕ). get_or s i 0) e;
        inside = omega arith;
        inside' = omega arith;
      };
      seam = λ p q h x k. (omega arith, ends flags p x k);
    }
  where
    ends : (flags : Flags) (p : ℕ) → length s ≤ p → missing flags p ≤ 0 + length s → missing flags p ≡ p
    ends lenient p x k = refl
    ends strict p x k = absurd (omega arith)

start_lenient : (flags : Flags) (s : List ℕ) (p : ℕ) → dx_start flags s p ≤ length s → dx_start lenient s p ≡ dx_start flags s p
start_lenient flags s p k =
    let h = start_local flags s 0 s 0 (length s) (itself flags s) p p (record { from = omega arith; meets = refl }) (omega arith) in
    omega arith

pub descriptor_lenient : (flags : Flags) (order : ByteOrder) (s : List ℕ) (p : ℕ) → descriptor_end flags order s p ≤ length s
    → descriptor_end lenient order s p ≡ descriptor_end flags order s p
descriptor_lenient flags order s p k =
    let h = descriptor_local flags s 0 s 0 (length s) (itself flags s) order p p (record { from = omega arith; meets = refl }) (omega arith) in
    omega arith

-- ---- strings and columns

module _ (page : Page) (flags : Flags) (s : List ℕ) (a : ℕ) (s' : List ℕ) (b n : ℕ) (w : FlagWindow flags s a s' b n) where
  abbrev As : StringRead → StringRead → Type 0
  As = Alike page s a s' b

  none : As (no_string 0) (no_string 0)
  none = alike_none page s a s' b 0

  nullable_alike : (v : List ℕ → ℕ → StringRead) (f : List ℕ → ℕ → ℕ) → ((s : List ℕ) (p : ℕ) → p ≤ f s p)
      → ((p q : ℕ) → Same a b p q → f s p ≤ a + n → As (v s p) (v s' q))
      → (p q : ℕ) → Same a b p q → nullable_end flags f s p ≤ a + n
      → As (in_nullable (no_string 0) v s p) (in_nullable (no_string 0) v s' q)
  nullable_alike v f g l p q h k = go (group_is flags f s p)
    where
      go : GroupIs flags f s p → As (in_nullable (no_string 0) v s p) (in_nullable (no_string 0) v s' q)
      go (gone x e) =
          let t = w.seam p q h x (rw e at k) in
          rw (in_nullable_missing (no_string 0) v s p x, in_nullable_missing (no_string 0) v s' q t.0) none
      go (null x y e) =
          rw
          (in_nullable_null (no_string 0) v s p x y, in_nullable_null (no_string 0) v s' q (omega (arith, w.window.inside')) (sym (w.window.bytes p q h (omega arith)) ∙ y))
          none
      go (held x y e) =
          let i = g s (p + 1) in
          rw
          (in_nullable_held (no_string 0) v s p x y, in_nullable_held (no_string 0) v s' q (omega (arith, w.window.inside')) (λ z. y (w.window.bytes p q h (omega arith) ∙ z)))
          (l (p + 1) (q + 1) (same_plus a b 1 p q h) (rw e at k))

  -- the pair that follows c strings
  pair_alike : (c p q : ℕ) → Same a b p q → strings_end 2 s (strings_end c s p) ≤ a + n
      → As (pair_at s (strings_end c s p)) (pair_at s' (strings_end c s' q))
  pair_alike c p q h k =
      let l : strings_end c s p ≤ a + n = le_trans (strings_end_grows 2 s (strings_end c s p)) k in
      alike_moved page s a s' b n w.window _ _
      (pair_at_same s a s' b n w.window _ _ (strings_end_local s a s' b n w.window c p q h l) k)

  dx_alike : (c : ℕ) → c ≤ 7 → (p q : ℕ) → Same a b p q → nullable_end flags dx_end s p ≤ a + n → As (dx_pair c s p) (dx_pair c s' q)
  unfolding dx_pair dx_end
  dx_alike c x =
      nullable_alike _ dx_end dx_end_grows
      (λ p q h k. pair_alike c (p + 8) (q + 8) (same_plus a b 8 p q h) (le_trans (strings_end_within c 2 9 (omega arith) s (p + 8)) k))

  opt_pair_alike : (c : ℕ) → c ≤ 7 → (p q : ℕ) → Same a b p q → opt_end flags s p ≤ a + n → As (opt_pair c s p) (opt_pair c s' q)
  unfolding opt_pair opt_end
  opt_pair_alike c x p q h k =
      let l : dx_start flags s p ≤ a + n = le_trans (nullable_end_grows flags dx_end s (dx_end_grows s) (dx_start flags s p)) k in
      let e : dx_start lenient s p ≡ dx_start flags s p = start_lenient flags s p (le_trans l w.window.inside) in
      rw e (dx_alike c x (dx_start flags s p) (dx_start lenient s' q) (start_local flags s a s' b n w p q h l) k)

  -- the pair that follows c strings of the optional group
  opt_string_alike : (c : ℕ) → c ≤ 4 → (p q : ℕ) → Same a b p q → opt_end flags s p ≤ a + n
      → As (pair_at s (strings_end c s (p + 2))) (pair_at s' (strings_end c s' (q + 2)))
  unfolding opt_end dx_start
  opt_string_alike c x p q h k =
      pair_alike c (p + 2) (q + 2) (same_plus a b 2 p q h)
      (le_trans (strings_end_within c 2 6 (omega arith) s (p + 2))
      (le_trans (nullable_end_grows flags udt_end s (udt_end_grows s) (strings_end 6 s (p + 2))) (le_trans (nullable_end_grows flags dx_end s (dx_end_grows s) _) k)))

  name_alike : (p q : ℕ) → Same a b p q → opt_end flags s p ≤ a + n → As (opt_name s p) (opt_name s' q)
  unfolding opt_name opt_pair strings_end
  name_alike p q h k =
      alike_chosen page s a s' b _ _ _ _ (opt_string_alike 0 (omega arith) p q h k) (opt_pair_alike 7 (omega arith) p q h k)

  label_alike : (p q : ℕ) → Same a b p q → opt_end flags s p ≤ a + n → As (opt_label s p) (opt_label s' q)
  unfolding opt_label
  label_alike p q h k = opt_string_alike 2 (omega arith) p q h k

  pub column_same : (order : ByteOrder) (i p q : ℕ) → Same a b p q → descriptor_end flags order s p ≤ a + n
      → column_at page order i s' q ≡ move_column a b (column_at page order i s p)
  unfolding column_at column_with described_at move_column
  column_same order i p q h k =
      let d = descriptor_in flags order s p (le_trans k w.window.inside) in
      let g = nullable_end_grows flags (opt_end flags) s (opt_end_grows flags s) (p + 16) in
      let l : nullable_end flags (opt_end flags) s (p + 16) ≤ a + n = rw d.2 at k in
      let num : (c v : ℕ) → c + v ≤ 16 → number order v s' (q + c) ≡ number order v s (p + c) =
      λ c v x. sym (number_same s a s' b n w.window order v (p + c) (q + c) (same_plus a b c p q h) (omega arith)) in
      let text : (v : List ℕ → ℕ → StringRead) → ((p q : ℕ) → Same a b p q → opt_end flags s p ≤ a + n → As (v s p) (v s' q))
      → As (in_nullable (no_string 0) v s (p + 16)) (in_nullable (no_string 0) v s' (q + 16)) =
      λ v m. nullable_alike v (opt_end flags) (opt_end_grows flags) m (p + 16) (q + 16) (same_plus a b 16 p q h) l in
      let precision = sym (number_same s a s' b n w.window order 2 p q h (omega arith)) in
      let scale = num 2 2 (omega arith) in
      let raw = num 4 8 (omega arith) in
      let kind = num 12 2 (omega arith) in
      let ccsid = num 14 2 (omega arith) in
      λ j. record {
        number = i;
        db2_type = (sqlda_type (kind j) (raw j) (precision j % 256) (scale j % 256) (ccsid j)).db2_type;
        drda_type = (sqlda_type (kind j) (raw j) (precision j % 256) (scale j % 256) (ccsid j)).drda_type;
        length = (sqlda_type (kind j) (raw j) (precision j % 256) (scale j % 256) (ccsid j)).length;
        nullable = (sqlda_type (kind j) (raw j) (precision j % 256) (scale j % 256) (ccsid j)).nullable;
        precision = precision j % 256;
        scale = scale j % 256;
        ccsid = ccsid j;
        byte_order = order;
        name = alike_name page s a s' b _ _ (text opt_name name_alike) j;
        label = (text opt_label label_alike).text j;
        base_table_name = (text (opt_pair 3) (opt_pair_alike 3 (omega arith))).text j;
        schema_name = (text (opt_pair 5) (opt_pair_alike 5 (omega arith))).text j;
      }
