-- The exchange: one column's description replaced by another, for any local view of the columns.
use mathlib.Core.Path.{◌≡◌, refl, sym, ap, ap₂, ◌∙◌}
use mathlib.Core.Bool.{Bool, true, false, ◌&&◌, and-eq-true_iff}
use mathlib.Core.List.{List, [], ◌∷◌}
use Prim.Native.Nat.{ℕ, zero, suc, ◌+◌, ◌-◌, ◌≤◌, ◌<◌}
use native.Mathlib.Nat.{le_trans}
use native.Mathlib.Omega.{arith}
use lib.Dec.{leb}
use lib.ListN.{length}
use borrow.Author.Tests.{leb-true, le-leb}
use Rattle.search.specs.Search.{pick}
use Rattle.codepage.specs.Page.{Page}
use Rattle.field.specs.declared.ByteOrder.{ByteOrder}
use Rattle.strings.proofs.Windows.{Window}
use Rattle.column.specs.Moved.{move_column}
use Rattle.column.proofs.Moved.{move_none}
use Rattle.descriptor.specs.Nullable.{lenient, strict}
use Rattle.descriptor.specs.Descriptor.{descriptor_end, column_at, Complete}
use Rattle.descriptor.proofs.Ends.{descriptor_end_grows}
use Rattle.descriptor.proofs.Local.{FlagWindow, descriptor_local, column_same}
use Rattle.descriptor.specs.Reading.{count_at, count_in, descriptors_end, start_of, gives, views, over_columns, standard}
use Rattle.descriptor.specs.Exchange.{splice, with_column, exchange}
use Rattle.descriptor.proofs.Front.{count_at_same, count_in_same}
use Rattle.descriptor.proofs.Descriptors.{Local, ends_grow, ends_next, ends_within, ends_local, views_same, length_views, end_here, view_here}
use Rattle.descriptor.proofs.Splice.{length_splice, window_before, window_within, window_after}

-- ---- the descriptors, with the one at a exchanged

module _ (s : List ℕ) (a e : ℕ) (d : List ℕ) (x : a ≤ e) (y : e ≤ length s) (order : ByteOrder) (full : Complete order d) (z : a + 16 ≤ e)
    (own : descriptor_end lenient order s a ≡ e) where
  abbrev t : List ℕ
  t = splice s a e d

  before : FlagWindow lenient s 0 t 0 a
  before = window_before s a e d x y (omega arith)

  after : FlagWindow lenient s e t (a + length d) (length s - e)
  after = window_after s a e d x y

  -- the new description ends where it should
  new_end : descriptor_end lenient order t a ≡ a + length d
  new_end =
      let i = descriptor_local strict d 0 t a (length d) (window_within s a e d x y) order 0 a (record { from = omega arith; meets = omega arith }) (omega arith) in
      omega arith

  ends_exchanged : (k c p : ℕ) → k < c → descriptors_end order k s p ≡ a → descriptors_end order c s p ≤ length s
      → descriptors_end order c t p + e ≡ descriptors_end order c s p + (a + length d)
  unfolding descriptors_end
  ends_exchanged zero zero p h i j = absurd (omega arith)
  ends_exchanged zero (suc c) p h i j =
      let u : descriptor_end lenient order s p ≡ e = ap (descriptor_end lenient order s) i ∙ own in
      let u' : descriptor_end lenient order t p ≡ a + length d = ap (descriptor_end lenient order t) i ∙ new_end in
      let v : descriptors_end order c s e ≤ length s = rw u at j in
      let r = ends_local order s e t (a + length d) (length s - e) after c e (a + length d) (record { from = omega arith; meets = omega arith }) (omega arith) in
      rw (u, u') (omega arith)
  ends_exchanged (suc k) zero p h i j = absurd (omega arith)
  ends_exchanged (suc k) (suc c) p h i j =
      let u : descriptor_end lenient order t p ≡ descriptor_end lenient order s p =
      end_here order s t a before p (omega (arith, ends_grow order k s (descriptor_end lenient order s p))) in
      rw u (ends_exchanged k c (descriptor_end lenient order s p) (omega arith) i j)

  views_exchanged : {A : Type 0} (v : ℕ → List ℕ → ℕ → A) (f : ℕ → ℕ → A → A) → Local order v f
      → (i j k c p : ℕ) → i + k ≡ j → k < c → descriptors_end order k s p ≡ a → descriptors_end order c s p ≤ length s
      → views v order i c t p ≡ exchange k (f 0 a (v j d 0)) (f e (a + length d)) (views v order i c s p)
  unfolding views descriptors_end exchange
  views_exchanged v f o i j zero zero p q g h l = absurd (omega arith)
  views_exchanged {A} v f o i j zero (suc c) p q g h l =
      let u : descriptor_end lenient order s p ≡ e = ap (descriptor_end lenient order s) h ∙ own in
      let u' : descriptor_end lenient order t p ≡ a + length d = ap (descriptor_end lenient order t) h ∙ new_end in
      let m : descriptors_end order c s e ≤ length s = rw u at l in
      let i' : i ≡ j = omega arith in
      let r = views_same order s e t (a + length d) (length s - e) after v f o (suc i) c e (a + length d) (record { from = omega arith; meets = omega arith }) (omega arith) in
      let new = o.same strict d 0 t a (length d) (window_within s a e d x y) i 0 a (record { from = omega arith; meets = omega arith }) (omega arith) in
      rw (u, u', h) (ap₂ (λ (c : A) (cs : List A). c ∷ cs) (new ∙ ap (λ (n : ℕ). f 0 a (v n d 0)) i') r)
  views_exchanged v f o i j (suc k) zero p q g h l = absurd (omega arith)
  views_exchanged {A} v f o i j (suc k) (suc c) p q g h l =
      let m : descriptor_end lenient order s p ≤ a = omega (arith, ends_grow order k s (descriptor_end lenient order s p)) in
      rw (end_here order s t a before p m)
      (ap₂ (λ (c : A) (cs : List A). c ∷ cs)
      (view_here order s t a before v f o i p m)
      (views_exchanged v f o (suc i) j k c (descriptor_end lenient order s p) (omega arith) (omega arith) h l))

-- ---- a reading that gives columns

pub record Gives (order : ByteOrder) (s : List ℕ) : Type 0 where
  pub room : count_at s + 2 ≤ length s
  pub some : 1 ≤ count_in order s
  pub few : count_in order s ≤ 512
  pub all : start_of order s (count_in order s) ≤ length s

and_four : (x y z t : Bool) → (x && (y && (z && t))) ≡ true → (x ≡ true) × (y ≡ true) × (z ≡ true) × (t ≡ true)
and_four x y z t e =
    let a = (and-eq-true_iff x (y && (z && t))).0 e in
    let b = (and-eq-true_iff y (z && t)).0 a.1 in
    let c = (and-eq-true_iff z t).0 b.1 in
    (a.0, b.0, c.0, c.1)

pub gives_in : (order : ByteOrder) (s : List ℕ) → gives order s ≡ true → Gives order s
unfolding gives
gives_in order s e =
    let f = and_four (leb (count_at s + 2) (length s)) (leb 1 (count_in order s)) (leb (count_in order s) 512) (leb (start_of order s (count_in order s)) (length s)) e in
    record {
      room = leb-true (count_at s + 2) (length s) f.0;
      some = leb-true 1 (count_in order s) f.1;
      few = leb-true (count_in order s) 512 f.2;
      all = leb-true (start_of order s (count_in order s)) (length s) f.3;
    }

pub gives_is : (order : ByteOrder) (s : List ℕ) → Gives order s → gives order s ≡ true
unfolding gives
gives_is order s g =
    rw
    (le-leb (count_at s + 2) (length s) g.room, le-leb 1 (count_in order s) g.some, le-leb (count_in order s) 512 g.few, le-leb (start_of order s (count_in order s)) (length s) g.all)
    refl

pub over_is : {A : Type 0} (v : ℕ → List ℕ → ℕ → A) (order : ByteOrder) (s : List ℕ) → Gives order s
    → over_columns v order s ≡ views v order 0 (count_in order s) s (count_at s + 2)
unfolding over_columns
over_is v order s g = rw (gives_is order s g) refl

standard_in : (page : Page) (order : ByteOrder) (s : List ℕ) (k : ℕ) → k < length (standard page order s)
    → (gives order s ≡ true) × (k < count_in order s)
unfolding standard over_columns
standard_in page order s k = go (gives order s) refl
  where
    go : (b : Bool) → gives order s ≡ b → k < length (pick b (views (column_at page order) order 0 (count_in order s) s (count_at s + 2)) [])
        → (gives order s ≡ true) × (k < count_in order s)
    go true e h = (e, omega (arith, length_views order (column_at page order) 0 (count_in order s) s (count_at s + 2)))
    go false e h = absurd (omega arith)

-- ---- where column k is read: its description is the bytes from its start to the next one's

pub record Place (order : ByteOrder) (s : List ℕ) (k : ℕ) : Type 0 where
  pub gives : Gives order s
  pub under : k < count_in order s
  pub own : descriptor_end lenient order s (start_of order s k) ≡ start_of order s (suc k)
  pub long : start_of order s k + 16 ≤ start_of order s (suc k)
  pub inside : start_of order s (suc k) ≤ length s
  pub after : count_at s + 2 ≤ start_of order s k

pub place : (page : Page) (order : ByteOrder) (s : List ℕ) (k : ℕ) → k < length (standard page order s) → Place order s k
unfolding start_of
place page order s k h =
    let i = standard_in page order s k h in
    let g = gives_in order s i.0 in
    let own = sym (ends_next order k s (count_at s + 2)) in
    let y = le_trans (ends_within order (suc k) (count_in order s) i.1 s (count_at s + 2)) g.all in
    record {
      gives = g;
      under = i.1;
      own = own;
      long = rw own at (descriptor_end_grows lenient order s (descriptors_end order k s (count_at s + 2)));
      inside = y;
      after = ends_grow order k s (count_at s + 2);
    }

module _ (order : ByteOrder) (s : List ℕ) (k : ℕ) (d : List ℕ) (l : Place order s k) (full : Complete order d) where
  start_le : start_of order s k ≤ start_of order s (suc k)
  start_le = omega (arith, l.long)

  -- the old and the new reply begin alike, up to the exchanged description
  pub front : Window s 0 (with_column order s k d) 0 (start_of order s k)
  unfolding with_column
  front = (window_before s (start_of order s k) (start_of order s (suc k)) d start_le l.inside (omega (arith, l.long, l.inside))).window

  count_at_kept : count_at (with_column order s k d) ≡ count_at s
  count_at_kept = count_at_same s (with_column order s k d) (start_of order s k) front (omega (arith, l.after))

  count_in_kept : count_in order (with_column order s k d) ≡ count_in order s
  count_in_kept = count_in_same s (with_column order s k d) (start_of order s k) front order l.after

  pub gives_kept : Gives order (with_column order s k d)
  unfolding with_column start_of
  gives_kept =
      let g = l.gives in
      let r = ends_exchanged s (start_of order s k) (start_of order s (suc k)) d start_le l.inside order full l.long l.own k (count_in order s) (count_at s + 2) l.under refl g.all in
      let n = length_splice s (start_of order s k) (start_of order s (suc k)) d start_le l.inside in
      record {
        room = rw count_at_kept (omega (arith, l.after, n));
        some = rw count_in_kept g.some;
        few = rw count_in_kept g.few;
        all = rw (count_in_kept, count_at_kept) (omega (arith, r, n, g.all, l.inside));
      }

  -- what any local view finds at the columns
  pub over_exchanged : {A : Type 0} (v : ℕ → List ℕ → ℕ → A) (f : ℕ → ℕ → A → A) → Local order v f
      → over_columns v order (with_column order s k d)
      ≡ exchange k (f 0 (start_of order s k) (v k d 0)) (f (start_of order s (suc k)) (start_of order s k + length d)) (over_columns v order s)
  unfolding with_column start_of
  over_exchanged v f o =
      let r = views_exchanged s (start_of order s k) (start_of order s (suc k)) d start_le l.inside order full l.long l.own v f o 0 k k (count_in order s) (count_at s + 2) (omega arith) l.under refl l.gives.all in
      over_is v order (with_column order s k d) gives_kept
      ∙ rw (count_in_kept, count_at_kept) (r ∙ ap (exchange k _ _) (sym (over_is v order s l.gives)))

-- ---- the columns

columns_local : (page : Page) (order : ByteOrder) → Local order (column_at page order) move_column
columns_local page order =
    record {
      same = λ flags s a s' b n w i p q h k. column_same page flags s a s' b n w order i p q h k;
      still = move_none;
    }

-- the list of the new reply is the old one's, with column k exchanged for what d says, and the places of later texts moved
pub standard_exchanged : (page : Page) (order : ByteOrder) (s : List ℕ) (k : ℕ) (d : List ℕ)
    → k < length (standard page order s) → Complete order d
    → standard page order (with_column order s k d)
    ≡ exchange k (move_column 0 (start_of order s k) (column_at page order k d 0))
    (move_column (start_of order s (suc k)) (start_of order s k + length d))
    (standard page order s)
unfolding standard
standard_exchanged page order s k d h full =
    over_exchanged order s k d (place page order s k h) full (column_at page order) move_column (columns_local page order)
