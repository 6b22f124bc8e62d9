-- A nullable group by the cases of its flag: missing, FF, or another byte.
use mathlib.Core.Bool.{Bool, true, false}
use mathlib.Core.List.{List}
use mathlib.Core.Path.{◌≡◌, refl}
use Prim.Native.Nat.{ℕ, ◌+◌, ◌≤◌, ◌<◌}
use native.Mathlib.Omega.{arith}
use Rattle.std.specs.Prelude.{Ok, Err}
use lib.Dec.{leb, eqb}
use lib.ListN.{length, get_or}
use borrow.Author.Tests.{le-leb, lt-leb, eq-eqb, ne_eqb, leb-false}
use Rattle.search.specs.Search.{pick}
use Rattle.descriptor.specs.Nullable.{Flags, lenient, missing, nullable_end, in_nullable, group_start}

-- what is past it
module _ (flags : Flags) (f : List ℕ → ℕ → ℕ) (s : List ℕ) (p : ℕ) where
  pub nullable_end_missing : length s ≤ p → nullable_end flags f s p ≡ missing flags p
  unfolding nullable_end
  nullable_end_missing h = rw (le-leb (length s) p h) refl

  pub nullable_end_null : p < length s → get_or s p 0 ≡ 0xFF → nullable_end flags f s p ≡ p + 1
  unfolding nullable_end
  nullable_end_null h e = rw (lt-leb (length s) p h, eq-eqb (get_or s p 0) 0xFF e) refl

  pub nullable_end_held : p < length s → (get_or s p 0 ≡ 0xFF → ⊥) → nullable_end flags f s p ≡ f s (p + 1)
  unfolding nullable_end
  nullable_end_held h e = rw (lt-leb (length s) p h, ne_eqb (get_or s p 0) 0xFF e) refl

-- what it holds
module _ {A : Type 0} (none : A) (v : List ℕ → ℕ → A) (s : List ℕ) (p : ℕ) where
  pub in_nullable_missing : length s ≤ p → in_nullable none v s p ≡ none
  unfolding in_nullable
  in_nullable_missing h = rw (le-leb (length s) p h) refl

  pub in_nullable_null : p < length s → get_or s p 0 ≡ 0xFF → in_nullable none v s p ≡ none
  unfolding in_nullable
  in_nullable_null h e = rw (lt-leb (length s) p h, eq-eqb (get_or s p 0) 0xFF e) refl

  pub in_nullable_held : p < length s → (get_or s p 0 ≡ 0xFF → ⊥) → in_nullable none v s p ≡ v s (p + 1)
  unfolding in_nullable
  in_nullable_held h e = rw (lt-leb (length s) p h, ne_eqb (get_or s p 0) 0xFF e) refl

  -- what holds of what the group holds, and of none, holds in every case
  pub in_nullable_all : (P : A → Type 0) → P none → P (v s (p + 1)) → P (in_nullable none v s p)
  unfolding in_nullable
  in_nullable_all P n h = go (leb (length s) p) (eqb (get_or s p 0) 0xFF)
    where
      go : (a b : Bool) → P (pick a none (pick b none (v s (p + 1))))
      go true b = n
      go false true = n
      go false false = h

-- by where what it holds starts, or by what is past it where it holds nothing
module _ (s : List ℕ) (p q : ℕ) where
  pub start_room : Ok q ≡ group_start s p → q ≤ length s
  unfolding group_start
  start_room = go (leb (length s) p) refl (eqb (get_or s p 0) 0xFF)
    where
      go : (t : Bool) → leb (length s) p ≡ t → (u : Bool) → Ok q ≡ pick t (Err p) (pick u (Err (p + 1)) (Ok (p + 1))) → q ≤ length s
      go true e u h = cc
      go false e true h = cc
      go false e false h = let k : q ≡ p + 1 = cc in omega (arith, leb-false (length s) p e)

  pub gone_room : Err q ≡ group_start s p → p ≤ length s → q ≤ length s
  unfolding group_start
  gone_room = go (leb (length s) p) refl (eqb (get_or s p 0) 0xFF)
    where
      go : (t : Bool) → leb (length s) p ≡ t → (u : Bool) → Err q ≡ pick t (Err p) (pick u (Err (p + 1)) (Ok (p + 1))) → p ≤ length s → q ≤ length s
      go true e u h k = let z : q ≡ p = cc in omega arith
      go false e true h k = let z : q ≡ p + 1 = cc in omega (arith, leb-false (length s) p e)
      go false e false h k = cc

  module _ (f : List ℕ → ℕ → ℕ) where
    pub end_held : Ok q ≡ group_start s p → nullable_end lenient f s p ≡ f s q
    unfolding group_start nullable_end
    end_held = go (leb (length s) p) (eqb (get_or s p 0) 0xFF)
      where
        go : (t u : Bool) → Ok q ≡ pick t (Err p) (pick u (Err (p + 1)) (Ok (p + 1))) → pick t p (pick u (p + 1) (f s (p + 1))) ≡ f s q
        go true u h = cc
        go false true h = cc
        go false false h = cc

    pub end_gone : Err q ≡ group_start s p → nullable_end lenient f s p ≡ q
    unfolding group_start nullable_end
    end_gone = go (leb (length s) p) (eqb (get_or s p 0) 0xFF)
      where
        go : (t u : Bool) → Err q ≡ pick t (Err p) (pick u (Err (p + 1)) (Ok (p + 1))) → pick t p (pick u (p + 1) (f s (p + 1))) ≡ q
        go true u h = cc
        go false true h = cc
        go false false h = cc

  module _ {A : Type 0} (none : A) (v : List ℕ → ℕ → A) where
    pub in_held : Ok q ≡ group_start s p → in_nullable none v s p ≡ v s q
    unfolding group_start in_nullable
    in_held = go (leb (length s) p) (eqb (get_or s p 0) 0xFF)
      where
        go : (t u : Bool) → Ok q ≡ pick t (Err p) (pick u (Err (p + 1)) (Ok (p + 1))) → pick t none (pick u none (v s (p + 1))) ≡ v s q
        go true u h = cc
        go false true h = cc
        go false false h = cc

    pub in_gone : Err q ≡ group_start s p → in_nullable none v s p ≡ none
    unfolding group_start in_nullable
    in_gone = go (leb (length s) p) (eqb (get_or s p 0) 0xFF)
      where
        go : (t u : Bool) → Err q ≡ pick t (Err p) (pick u (Err (p + 1)) (Ok (p + 1))) → pick t none (pick u none (v s (p + 1))) ≡ none
        go true u h = refl
        go false true h = refl
        go false false h = cc
