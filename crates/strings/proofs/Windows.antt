-- Windows: what a reader finds in a stretch of one reply, it finds in the same stretch of another, its places moved.
-- Positions do not go back (`..-grows`) and are local (`..-local`); values are the same (`..-same`).
use Prim.Native.Nat.{ℕ, zero, suc, ◌+◌, ◌*◌, ◌^◌, ◌≤◌, ◌<◌}
use native.Mathlib.Nat.{le_refl, le_trans}
use native.Mathlib.Omega.{arith}
use mathlib.Core.Path.{◌≡◌, refl, sym, ap, ap₂, subst, ◌∙◌}
use mathlib.Core.List.{List}
use mathlib.Core.Bool.{Bool, true, false}
use lib.ListN.{length, get_or, take, drop, length-take, length-drop}
use lib.Seq.{get_or-take, get_or-drop, ext_get_or, take-take, length-take-le}
use lib.Dec.{ltb, eqb}
use Rattle.search.specs.Search.{pick}
use Rattle.field.specs.declared.ByteOrder.{ByteOrder}
use Rattle.field.specs.declared.ByteOrder.TheVariants.{BigEndian, LittleEndian}
use Rattle.strings.specs.declared.StringRead.{StringRead}
use Rattle.field.specs.Numbers.{number}
use Rattle.strings.specs.Strings.{string_end, strings_end, string_at, chosen, pair_at}
use Rattle.strings.proofs.Strings.{end_known, end_inside, string_full}

-- ---- positions do not go back

pick_above : (t : Bool) (x y p : ℕ) → p ≤ x → p ≤ y → p ≤ pick t x y
pick_above true x y p h k = h
pick_above false x y p h k = k

pub string_end_grows : (s : List ℕ) (p : ℕ) → p ≤ string_end s p
unfolding string_end
string_end_grows s p =
    pick_above (ltb (length s) p) _ _ p (le_refl p) (pick_above (ltb (length s) (p + 2)) _ _ p (omega arith) (omega arith))

pub strings_end_grows : (n : ℕ) (s : List ℕ) (p : ℕ) → p ≤ strings_end n s p
unfolding strings_end
strings_end_grows zero s p = le_refl p
strings_end_grows (suc n) s p = le_trans (string_end_grows s p) (strings_end_grows n s (string_end s p))

-- c strings and then d of n
pub strings_end_within : (c d n : ℕ) → c + d ≤ n → (s : List ℕ) (p : ℕ) → strings_end d s (strings_end c s p) ≤ strings_end n s p
unfolding strings_end
strings_end_within zero zero n h s p = strings_end_grows n s p
strings_end_within zero (suc d) zero h s p = absurd (omega arith)
strings_end_within zero (suc d) (suc n) h s p = strings_end_within zero d n (omega arith) s (string_end s p)
strings_end_within (suc c) d zero h s p = absurd (omega arith)
strings_end_within (suc c) d (suc n) h s p = strings_end_within c d n (omega arith) s (string_end s p)

-- ---- windows

-- p in the one reply and q in the other are as far from a and b
pub record Same (a b p q : ℕ) : Type 0 where
  pub from : a ≤ p
  pub meets : q + a ≡ p + b

-- the n bytes of s from a on are those of s' from b on
pub record Window (s : List ℕ) (a : ℕ) (s' : List ℕ) (b n : ℕ) : Type 0 where
  pub bytes : (p q : ℕ) → Same a b p q → p < a + n → get_or s p 0 ≡ get_or s' q 0
  pub inside : a + n ≤ length s
  pub inside' : b + n ≤ length s'

-- the string t lies in the n bytes from a on, and t' is t moved from a to b
pub record StringMoved (a b n : ℕ) (t t' : StringRead) : Type 0 where
  pub length : t'.length ≡ t.length
  pub place : Same a b t.place t'.place
  pub next : Same a b t.next t'.next
  pub within : t.place + t.length ≤ a + n

pub same_here : (p : ℕ) → Same 0 0 p p
same_here p = omega arith

pub same_plus : (a b c p q : ℕ) → Same a b p q → Same a b (p + c) (q + c)
same_plus a b c p q h = omega arith

-- ---- where windows come from

-- a window is one in either direction
pub window_back : (s : List ℕ) (a : ℕ) (s' : List ℕ) (b n : ℕ) → Window s a s' b n → Window s' b s a n
window_back s a s' b n w =
    record { bytes = λ p q h k. sym (w.bytes q p (omega arith) (omega arith)); inside = w.inside'; inside' = w.inside }

-- two replies that start alike
pub window_front : (s t : List ℕ) (n : ℕ) → take n s ≡ take n t → n ≤ length s → n ≤ length t → Window s 0 t 0 n
window_front s t n e h k =
    record {
      bytes = λ p q i j.
          let l : p < n = omega arith in
          let z : p ≡ q = omega arith in
          sym (get_or-take n s p 0 l) ∙ ap (λ (x : List ℕ). get_or x p 0) e ∙ get_or-take n t p 0 l ∙ ap (λ (x : ℕ). get_or t x 0) z;
      inside = omega arith;
      inside' = omega arith;
    }

pub window_self : (s : List ℕ) (n : ℕ) → n ≤ length s → Window s 0 s 0 n
window_self s n h = window_front s s n refl h h

pub window_take : (s : List ℕ) (n : ℕ) → n ≤ length s → Window s 0 (take n s) 0 n
window_take s n h = window_front s (take n s) n (sym (take-take n n s (le_refl n))) h (omega (arith, length-take-le n s h))

pub window_taken : (s : List ℕ) (n : ℕ) → n ≤ length s → Window (take n s) 0 s 0 n
window_taken s n h = window_back s 0 (take n s) 0 n (window_take s n h)

-- ---- moved strings

-- where nothing moves, the string is the same
pub string_still : (n : ℕ) (t t' : StringRead) → StringMoved 0 0 n t t' → t' ≡ t
string_still n t t' m =
    let x : t'.place ≡ t.place = omega arith in
    let y : t'.next ≡ t.next = omega arith in
    λ i. record { place = x i; length = m.length i; next = y i }

-- m is chosen in both or in neither
chosen_moved : (a b n : ℕ) (t t' u u' : StringRead) → StringMoved a b n t t' → StringMoved a b n u u'
    → StringMoved a b n (chosen t u) (chosen t' u')
unfolding chosen
chosen_moved a b n t t' u u' x y =
    subst
    (λ (k : ℕ). StringMoved a b n (chosen t u) (pick (eqb k 0) u' (record { place = t'.place; length = t'.length; next = u'.next })))
    (sym x.length)
    (go (eqb t.length 0))
  where
    go : (z : Bool)
        → StringMoved a b n (pick z u (record { place = t.place; length = t.length; next = u.next }))
        (pick z u' (record { place = t'.place; length = t'.length; next = u'.next }))
    go true = y
    go false = record { length = x.length; place = x.place; next = y.next; within = x.within }

-- ---- in a window

module _ (s : List ℕ) (a : ℕ) (s' : List ℕ) (b n : ℕ) (w : Window s a s' b n) where
  pub number_same : (order : ByteOrder) (width p q : ℕ) → Same a b p q → p + width ≤ a + n
      → number order width s p ≡ number order width s' q
  unfolding number
  number_same order zero p q h k = refl
  number_same BigEndian (suc v) p q h k =
      ap₂ (λ (x y : ℕ). x * 256 ^ v + y) (w.bytes p q h (omega arith)) (number_same BigEndian v (suc p) (suc q) (omega arith) (omega arith))
  number_same LittleEndian (suc v) p q h k =
      ap₂ (λ (x y : ℕ). x + 256 * y) (w.bytes p q h (omega arith)) (number_same LittleEndian v (suc p) (suc q) (omega arith) (omega arith))

  -- the bytes of a part
  pub part_same : (p q c : ℕ) → Same a b p q → p + c ≤ a + n → take c (drop p s) ≡ take c (drop q s')
  part_same p q c h k =
      let l : length (take c (drop p s)) ≡ c = simp (length-take, length-drop) (omega (arith, w.inside)) in
      let l' : length (take c (drop q s')) ≡ c = simp (length-take, length-drop) (omega (arith, w.inside')) in
      ext_get_or 0 _ _ (l ∙ sym l') (λ i j.
      let j' : i < c = omega arith in
      get_or-take c (drop p s) i 0 j' ∙ get_or-drop p s i 0
      ∙ w.bytes (p + i) (q + i) (same_plus a b i p q h) (omega arith)
      ∙ sym (get_or-take c (drop q s') i 0 j' ∙ get_or-drop q s' i 0))

  pub string_end_local : (p q : ℕ) → Same a b p q → string_end s p ≤ a + n → Same a b (string_end s p) (string_end s' q)
  string_end_local p q h k =
      let i = end_inside s p (omega (arith, w.inside)) in
      let e = number_same BigEndian 2 p q h (omega arith) in
      let f = end_known s' q (omega (arith, w.inside')) (omega (arith, w.inside')) (number BigEndian 2 s p) e in
      omega arith

  pub strings_end_local : (k p q : ℕ) → Same a b p q → strings_end k s p ≤ a + n → Same a b (strings_end k s p) (strings_end k s' q)
  unfolding strings_end
  strings_end_local zero p q h l = h
  strings_end_local (suc k) p q h l =
      strings_end_local k (string_end s p) (string_end s' q) (string_end_local p q h (le_trans (strings_end_grows k s (string_end s p)) l)) l

  pub string_at_same : (p q : ℕ) → Same a b p q → string_end s p ≤ a + n → StringMoved a b n (string_at s p) (string_at s' q)
  string_at_same p q h k =
      let i = end_inside s p (omega (arith, w.inside)) in
      let m = number BigEndian 2 s p in
      let e = number_same BigEndian 2 p q h (omega arith) in
      let x = string_full s p (omega arith) (omega arith) m refl (omega (arith, w.inside)) in
      let y = string_full s' q (omega (arith, w.inside')) (omega (arith, w.inside')) m e (omega (arith, w.inside')) in
      rw (← x, ← y) (record { length = refl; place = omega arith; next = omega arith; within = omega arith })

  pub pair_at_same : (p q : ℕ) → Same a b p q → strings_end 2 s p ≤ a + n → StringMoved a b n (pair_at s p) (pair_at s' q)
  unfolding pair_at strings_end
  pair_at_same p q h k =
      let l : string_end s p ≤ a + n = le_trans (string_end_grows s (string_end s p)) k in
      chosen_moved a b n _ _ _ _ (string_at_same p q h l) (string_at_same (string_end s p) (string_end s' q) (string_end_local p q h l) k)
