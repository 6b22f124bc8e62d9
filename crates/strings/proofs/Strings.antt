-- Strings at a position: a law for each way out of the functions that read them.
use Prim.Native.Nat.{ℕ, zero, suc, ◌+◌, ◌-◌, ◌≤◌, ◌<◌}
use native.Mathlib.Omega.{arith}
use mathlib.Core.Path.{◌≡◌, refl, sym, ap, subst, ◌∙◌}
use mathlib.Core.List.{List}
use mathlib.Core.Bool.{Bool, true, false}
use lib.Dec.{ltb, leb, eqb}
use lib.ListN.{length}
use borrow.Author.Tests.{lt-ltb, lt-leb, le-ltb, le-leb, eq-eqb, ne_eqb, ltb-true, ltb-false, leb-true}
use Rattle.search.specs.Search.{pick}
use Rattle.field.specs.declared.ByteOrder.TheVariants.{BigEndian}
use Rattle.strings.specs.declared.StringRead.{StringRead}
use Rattle.field.specs.Numbers.{number}
use Rattle.std.proofs.Common.{rules}
use Rattle.std.specs.Prelude.{Result, Ok, Err, IsOk}
use Rattle.std.specs.Result.{result_ok}
use Rattle.std.proofs.Common.{Some}
use Rattle.strings.specs.Strings.{IsRead, IsReadOrCut, string_end, strings_end, no_string, string_at, chosen, pair_at}

-- ---- what is read

module _ {A : Type 0} (s : List ℕ) (end : ℕ) (Is : A → Type 0) where
  pub read_ok : (r : Result A ℕ) → IsRead s end Is r → end ≤ length s → IsOk r
  read_ok (Ok x) h l = search rules
  read_ok (Err e) h l = absurd (omega (arith, h.1))

  -- also by its `ok()`
  pub some_read : (r : Result A ℕ) → IsRead s end Is r → (x : A) → result_ok r ≡ Some x → Is x × (end ≤ length s)
  some_read (Ok y) h x e = let k : y ≡ x = cc in subst (λ z. Is z × (end ≤ length s)) k h
  some_read (Err y) h x e = absurd cc

  pub read_is : (r : Result A ℕ) → IsRead s end Is r → (x : A) → r ≡ Ok x → Is x
  read_is r h x e = (subst (IsRead s end Is) e h).0

-- also by its `ok()`, where what is cut off is told too
pub some_whole : {A : Type 0} (s : List ℕ) (end : ℕ) (w : A) (r : Result A A) → IsReadOrCut s end w r → (x : A) → result_ok r ≡ Some x
    → (x ≡ w) × (end ≤ length s)
some_whole s end w (Ok y) h x e = let k : y ≡ x = cc in subst (λ z. (z ≡ w) × (end ≤ length s)) k h
some_whole s end w (Err y) h x e = absurd cc

-- ---- one string

module _ (s : List ℕ) (p : ℕ) where
  -- it cannot be read
  pub string_unread : length s < string_end s p → no_string (string_end s p) ≡ string_at s p
  unfolding string_at
  string_unread h = rw (lt-leb (string_end s p) (length s) h) refl

  module _ (l : p ≤ length s) (h : 2 ≤ length s - p) (n : ℕ) (e : n ≡ number BigEndian 2 s p) where
    pub end_known : string_end s p ≡ p + 2 + n
    unfolding string_end
    end_known =
        let k : p + 2 ≤ length s = omega arith in
        rw (le-ltb (length s) p l, le-ltb (length s) (p + 2) k, e) refl

    pub string_full : n ≤ length s - (p + 2) → record { place = p + 2; length = n; next = p + 2 + n } ≡ string_at s p
    unfolding string_at
    string_full k =
        let m : p + 2 + n ≤ length s = omega arith in
        rw (end_known, le-leb (p + 2 + n) (length s) m, e) refl

  -- a string that is read ends where its length says
  pub end_inside : string_end s p ≤ length s → (p + 2 ≤ length s) × (string_end s p ≡ p + 2 + number BigEndian 2 s p)
  unfolding string_end
  end_inside = go (ltb (length s) p) refl (ltb (length s) (p + 2)) refl
    where
      go : (t : Bool) → ltb (length s) p ≡ t → (u : Bool) → ltb (length s) (p + 2) ≡ u
          → pick t p (pick u (p + 2) (p + 2 + number BigEndian 2 s p)) ≤ length s
          → (p + 2 ≤ length s) × (pick t p (pick u (p + 2) (p + 2 + number BigEndian 2 s p)) ≡ p + 2 + number BigEndian 2 s p)
      go true e u f h = absurd (omega (arith, ltb-true (length s) p e))
      go false e true f h = absurd (omega (arith, ltb-true (length s) (p + 2) f))
      go false e false f h = (ltb-false (length s) (p + 2) f, refl)

  -- past the reply's end everything stays
  pub string_stays : length s < p → string_end s p ≡ p
  unfolding string_end
  string_stays h = rw (lt-ltb (length s) p h) refl

  pub string_next : (string_at s p).next ≡ string_end s p
  unfolding string_at
  string_next = go (leb (string_end s p) (length s))
    where
      go : (b : Bool)
          → (pick b (record { place = p + 2; length = number BigEndian 2 s p; next = string_end s p }) (no_string (string_end s p))).next ≡ string_end s p
      go true = refl
      go false = refl

  -- its bytes lie in the reply
  pub string_inside : (string_at s p).place + (string_at s p).length ≤ length s
  unfolding string_at
  string_inside = go (leb (string_end s p) (length s)) refl
    where
      go : (b : Bool) → leb (string_end s p) (length s) ≡ b
          → (let r = pick b (record { place = p + 2; length = number BigEndian 2 s p; next = string_end s p }) (no_string (string_end s p)) in
          r.place + r.length ≤ length s)
      go true e = let i = end_inside (leb-true (string_end s p) (length s) e) in omega (arith, leb-true (string_end s p) (length s) e)
      go false e = omega arith

-- ---- several strings

pub strings_stay : (n : ℕ) (s : List ℕ) (p : ℕ) → length s < p → strings_end n s p ≡ p
unfolding strings_end
strings_stay zero s p h = refl
strings_stay (suc n) s p h = rw (string_stays s p h) (strings_stay n s p h)

-- where k strings cannot be read, no more of them can
pub strings_cut : (k n : ℕ) (s : List ℕ) (p : ℕ) → k ≤ n → length s < strings_end k s p → strings_end k s p ≡ strings_end n s p
unfolding strings_end
strings_cut zero n s p h l = sym (strings_stay n s p l)
strings_cut (suc k) zero s p h l = absurd (omega arith)
strings_cut (suc k) (suc n) s p h l = strings_cut k n s (string_end s p) (omega arith) l

-- the string that is due cannot be read
pub strings_early : (count i : ℕ) (s : List ℕ) (p : ℕ) → i < count → length s < string_end s p → string_end s p ≡ strings_end (count - i) s p
unfolding strings_end
strings_early count i s p h k =
    let e : count - i ≡ suc (count - (i + 1)) = omega arith in
    rw e (sym (strings_stay (count - (i + 1)) s (string_end s p) k))

-- one string more is read
pub strings_more : (count i : ℕ) (s : List ℕ) (p : ℕ) → i < count → strings_end (count - i) s p ≡ strings_end (count - (i + 1)) s (string_at s p).next
unfolding strings_end
strings_more count i s p h =
    let k : count - i ≡ suc (count - (i + 1)) = omega arith in
    rw (k, string_next s p) refl

pub strings_done : (count i : ℕ) (s : List ℕ) (p : ℕ) → count ≤ i → strings_end (count - i) s p ≡ p
unfolding strings_end
strings_done count i s p h = let k : count - i ≡ 0 = omega arith in rw k refl

-- ---- two strings

module _ (m s : StringRead) where
  abbrev picked : Bool → StringRead
  picked b = pick b s (record { place = m.place; length = m.length; next = s.next })

  pub chosen_second : m.length ≡ 0 → s ≡ chosen m s
  unfolding chosen
  chosen_second z = sym (ap picked (eq-eqb m.length 0 z))

  pub chosen_first : (m.length ≡ 0 → ⊥) → record { place = m.place; length = m.length; next = s.next } ≡ chosen m s
  unfolding chosen
  chosen_first z = sym (ap picked (ne_eqb m.length 0 z))

  pub chosen_next : (chosen m s).next ≡ s.next
  unfolding chosen
  chosen_next = go (eqb m.length 0)
    where
      go : (b : Bool) → (picked b).next ≡ s.next
      go true = refl
      go false = refl

  -- the bytes of the string that counts lie where those of both do
  pub chosen_inside : (n : ℕ) → m.place + m.length ≤ n → s.place + s.length ≤ n → (chosen m s).place + (chosen m s).length ≤ n
  unfolding chosen
  chosen_inside n h k = go (eqb m.length 0)
    where
      go : (b : Bool) → (picked b).place + (picked b).length ≤ n
      go true = k
      go false = h

module _ (s : List ℕ) (p : ℕ) where
  pub pair_is : (a b : StringRead) → a ≡ string_at s p → b ≡ string_at s a.next → chosen a b ≡ pair_at s p
  unfolding pair_at
  pair_is a b e f =
      let n : a.next ≡ string_end s p = ap (λ (x : StringRead). x.next) e ∙ string_next s p in
      ap (λ (x : StringRead). chosen x b) e ∙ ap (chosen (string_at s p)) (f ∙ ap (string_at s) n)

  -- the first cannot be read, nor can the second
  pub pair_unread : length s < string_end s p → no_string (string_end s p) ≡ pair_at s p
  pair_unread h =
      let e : string_end s (string_end s p) ≡ string_end s p = string_stays s (string_end s p) h in
      let t : no_string (string_end s p) ≡ string_at s (string_end s p) =
      ap no_string (sym e) ∙ string_unread s (string_end s p) (rw e h) in
      chosen_second (no_string (string_end s p)) (no_string (string_end s p)) refl
      ∙ pair_is (no_string (string_end s p)) (no_string (string_end s p)) (string_unread s p h) t

  pub pair_early : length s < string_end s p → string_end s p ≡ strings_end 2 s p
  pair_early h = strings_early 2 0 s p (omega arith) h

  pub pair_last : (a : StringRead) → a ≡ string_at s p → string_end s a.next ≡ strings_end 2 s p
  unfolding strings_end
  pair_last a e = ap (string_end s) (ap (λ (x : StringRead). x.next) e ∙ string_next s p)

  pub pair_next : (pair_at s p).next ≡ strings_end 2 s p
  unfolding pair_at strings_end
  pair_next = chosen_next (string_at s p) (string_at s (string_end s p)) ∙ string_next s (string_end s p)

  pub pair_inside : (pair_at s p).place + (pair_at s p).length ≤ length s
  unfolding pair_at
  pair_inside = chosen_inside (string_at s p) (string_at s (string_end s p)) (length s) (string_inside s p) (string_inside s (string_end s p))
