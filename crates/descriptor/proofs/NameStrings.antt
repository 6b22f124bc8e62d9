-- The six strings of a SQLDOPTGRP's names: a law for each way out of their readers.
use mathlib.Core.List.{List}
use mathlib.Core.Path.{◌≡◌, refl, sym, ap, ◌∙◌}
use Prim.Native.Nat.{ℕ, zero, suc, ◌+◌, ◌-◌, ◌*◌, ◌≤◌, ◌<◌}
use native.Mathlib.Omega.{arith}
use lib.ListN.{length}
use Rattle.field.specs.declared.ByteOrder.TheVariants.{BigEndian}
use Rattle.strings.specs.declared.StringRead.{StringRead}
use Rattle.field.specs.Numbers.{number}
use Rattle.strings.specs.Strings.{string_end, strings_end, string_at, chosen, pair_at}
use Rattle.strings.proofs.Strings.{strings_early, strings_cut, string_next, chosen_first, chosen_second, pair_is, pair_next}
use Rattle.strings.proofs.Empty.{empty_at, empty_end, empty_string}
use Rattle.descriptor.specs.declared.Label.{Label}
use Rattle.descriptor.specs.declared.Names.{Names}
use Rattle.descriptor.specs.Groups.{AllEmpty, LabelAt, NamesAt}

-- ---- empty strings in a row

-- they lie in the reply
pub empty_room : (n : ℕ) (s : List ℕ) (p : ℕ) → AllEmpty n s p → p + n + n ≤ length s
empty_room zero s p z = omega (arith, z)
empty_room (suc n) s p z = omega (arith, empty_room n s (p + 2) z.1)

-- one more in front of those that are left
pub empty_more : (count i : ℕ) (s : List ℕ) (p : ℕ) → i < count → number BigEndian 2 s (p + 2 * i) ≡ 0 → AllEmpty (count - (i + 1)) s (p + 2 * (i + 1))
    → AllEmpty (count - i) s (p + 2 * i)
empty_more count i s p h e z =
    let k : count - i ≡ suc (count - (i + 1)) = omega arith in
    let l : p + 2 * i + 2 ≡ p + 2 * (i + 1) = omega arith in
    rw k (e, rw l z)

-- none are left
pub empty_none : (count : ℕ) (s : List ℕ) (p : ℕ) → p + 2 * count ≤ length s → AllEmpty (count - count) s (p + 2 * count)
empty_none count s p h = let k : count - count ≡ 0 = omega arith in rw k h

module _ (s : List ℕ) (p : ℕ) (z : AllEmpty 2 s p) where
  room : p + 4 ≤ length s
  room = omega (arith, empty_room 2 s p z)

  pair_empty : empty_at (p + 2) ≡ pair_at s p
  pair_empty =
      chosen_second (empty_at p) (empty_at (p + 2)) refl
      ∙ pair_is s p (empty_at p) (empty_at (p + 2)) (empty_string s p (omega (arith, room)) z.0) (empty_string s (p + 2) (omega (arith, room)) z.1.0)

  two_empty : strings_end 2 s p ≡ p + 2 + 2
  unfolding strings_end
  two_empty = ap (string_end s) (empty_end s p (omega (arith, room)) z.0) ∙ empty_end s (p + 2) (omega (arith, room)) z.1.0

-- ---- m has bytes, and those behind it have none; or all are read one after the other

-- the first string cannot be read
pub label_cut : (s : List ℕ) (p : ℕ) → length s < string_end s p → string_end s p ≡ strings_end 4 s p
label_cut s p h = strings_early 4 0 s p (omega arith) h

pub names_cut : (s : List ℕ) (p : ℕ) → length s < string_end s p → string_end s p ≡ strings_end 6 s p
names_cut s p h = strings_early 6 0 s p (omega arith) h

-- past the strings that were read
label_end : (s : List ℕ) (p : ℕ) (r : Label) → LabelAt s p r → r.next ≡ strings_end 4 s p
unfolding strings_end
label_end s p r a = a.next ∙ ap (strings_end 2 s) (ap (λ (x : StringRead). x.next) a.label ∙ pair_next s p)

pub names_end : (s : List ℕ) (p : ℕ) (r : Names) → NamesAt s p r → r.next ≡ strings_end 6 s p
unfolding strings_end
names_end s p r a =
    label_end s r.name.next (record { label = r.label; next = r.next }) (record { label = a.label; next = a.next })
    ∙ ap (strings_end 4 s) (ap (λ (x : StringRead). x.next) a.name ∙ pair_next s p)

-- m and empty strings behind it
abbrev pub alone_label : StringRead → Label
alone_label m = record { label = record { place = m.place; length = m.length; next = m.next + 2 }; next = m.next + 6 }

abbrev pub alone_names : StringRead → Names
alone_names m = record {
  name = record { place = m.place; length = m.length; next = m.next + 2 };
  label = record { place = m.next + 6; length = 0; next = m.next + 6 };
  next = m.next + 10;
}

module _ (s : List ℕ) (p : ℕ) (m : StringRead) (e : m ≡ string_at s p) where
  m_end : string_end s p ≡ m.next
  m_end = sym (ap (λ (x : StringRead). x.next) e ∙ string_next s p)

  pair_end : (b l : StringRead) → b ≡ string_at s m.next → l ≡ chosen m b → l.next ≡ strings_end 2 s p
  pair_end b l f g = ap (λ (x : StringRead). x.next) (g ∙ pair_is s p m b e f) ∙ pair_next s p

  -- the string behind m cannot be read
  pub s_cut : (n : ℕ) → 2 ≤ n → length s < string_end s m.next → string_end s m.next ≡ strings_end n s p
  unfolding strings_end
  s_cut n h l = let k : string_end s m.next ≡ strings_end 2 s p = sym (ap (string_end s) m_end) in k ∙ strings_cut 2 n s p h (rw (← k) l)

  m_alone : (m.length ≡ 0 → ⊥) → m.next + 2 ≤ length s → number BigEndian 2 s m.next ≡ 0
      → record { place = m.place; length = m.length; next = m.next + 2 } ≡ pair_at s p
  m_alone h k z = chosen_first m (empty_at m.next) h ∙ pair_is s p m (empty_at m.next) e (empty_string s m.next k z)

  pub label_alone : (m.length ≡ 0 → ⊥) → AllEmpty 3 s m.next
      → LabelAt s p (alone_label m) × (strings_end 4 s p ≤ length s)
  label_alone h z =
      let k = empty_room 3 s m.next z in
      let w : m.next + 2 + 2 + 2 ≡ m.next + 6 = omega arith in
      let k' = empty_room 2 s (m.next + 2) z.1 in
      let at : LabelAt s p (alone_label m) =
      record { label = m_alone h (omega arith) z.0; next = sym (rw w at (two_empty s (m.next + 2) (z.1.0, (z.1.1.0, omega arith)))) } in
      (at, omega (arith, label_end s p _ at))

  pub label_read : (b l : StringRead) (n : ℕ) → b ≡ string_at s m.next → l ≡ chosen m b → n ≡ strings_end 2 s l.next → n ≤ length s
      → LabelAt s p (record { label = l; next = n }) × (strings_end 4 s p ≤ length s)
  label_read b l n f g x h =
      let at : LabelAt s p (record { label = l; next = n }) = record { label = g ∙ pair_is s p m b e f; next = x } in
      (at, omega (arith, label_end s p _ at))

  -- the comment cannot be read
  pub comment_cut : (b l : StringRead) → b ≡ string_at s m.next → l ≡ chosen m b → strings_end 2 s l.next ≡ strings_end 4 s p
  unfolding strings_end
  comment_cut b l f g = ap (strings_end 2 s) (pair_end b l f g)

  pub names_alone : (m.length ≡ 0 → ⊥) → AllEmpty 5 s m.next
      → NamesAt s p (alone_names m) × (strings_end 6 s p ≤ length s)
  names_alone h z =
      let q = m.next in
      let k = empty_room 5 s q z in
      let x : q + 2 + 2 + 2 ≡ q + 6 = omega arith in
      let w : q + 6 + 2 + 2 ≡ q + 10 = omega arith in
      let behind : AllEmpty 2 s (q + 6) = rw (← x) z.1.1.1 in
      let at : NamesAt s p (alone_names m) = record {
        name = m_alone h (omega arith) z.0;
        label = rw x at (pair_empty s (q + 2) (z.1.0, (z.1.1.0, omega arith)));
        next = sym (rw w at (two_empty s (q + 6) behind));
      } in
      (at, omega (arith, names_end s p _ at))

  -- past the label is past the names
  pub label_behind : (b n : StringRead) → b ≡ string_at s m.next → n ≡ chosen m b → strings_end 4 s n.next ≡ strings_end 6 s p
  unfolding strings_end
  label_behind b n f g = ap (strings_end 4 s) (pair_end b n f g)

  pub names_read : (b n : StringRead) (r : Label) → b ≡ string_at s m.next → n ≡ chosen m b → LabelAt s n.next r → strings_end 4 s n.next ≤ length s
      → NamesAt s p (record { name = n; label = r.label; next = r.next }) × (strings_end 6 s p ≤ length s)
  names_read b n r f g x h = (
    record { name = g ∙ pair_is s p m b e f; label = x.label; next = x.next },
    rw (label_behind b n f g) at h,
  )
