-- Descriptors one after the other: their positions, and what a local view finds at them.
use mathlib.Core.Path.{◌≡◌, refl, ap, ap₂, ◌∙◌}
use mathlib.Core.List.{List, ◌∷◌, map}
use Prim.Native.Nat.{ℕ, zero, suc, ◌+◌, ◌≤◌}
use native.Mathlib.Nat.{le_refl, le_trans}
use native.Mathlib.Omega.{arith}
use lib.ListN.{length}
use Rattle.field.specs.declared.ByteOrder.{ByteOrder}
use Rattle.strings.proofs.Windows.{Same, same_here}
use Rattle.descriptor.specs.Nullable.{Flags, lenient}
use Rattle.descriptor.specs.Descriptor.{descriptor_end}
use Rattle.descriptor.proofs.Ends.{descriptor_end_grows}
use Rattle.descriptor.proofs.Local.{FlagWindow, descriptor_local}
use Rattle.descriptor.specs.Reading.{descriptors_end, views}

-- v is local, and f moves what it finds: in any window of s and s', read strictly or leniently in s, v finds in s' what it finds in s, moved
pub record Local {A : Type 0} (order : ByteOrder) (v : ℕ → List ℕ → ℕ → A) (f : ℕ → ℕ → A → A) : Type 0 where
  pub same : (flags : Flags) (s : List ℕ) (a : ℕ) (s' : List ℕ) (b n : ℕ) → FlagWindow flags s a s' b n → (i p q : ℕ) → Same a b p q
      → descriptor_end flags order s p ≤ a + n → v i s' q ≡ f a b (v i s p)
  -- to move by nothing changes nothing
  pub still : (x : A) → f 0 0 x ≡ x

module _ (order : ByteOrder) where
  pub ends_grow : (k : ℕ) (s : List ℕ) (p : ℕ) → p ≤ descriptors_end order k s p
  unfolding descriptors_end
  ends_grow zero s p = le_refl p
  ends_grow (suc k) s p =
      omega (arith, descriptor_end_grows lenient order s p, ends_grow k s (descriptor_end lenient order s p))

  pub ends_next : (k : ℕ) (s : List ℕ) (p : ℕ) → descriptors_end order (suc k) s p ≡ descriptor_end lenient order s (descriptors_end order k s p)
  unfolding descriptors_end
  ends_next zero s p = refl
  ends_next (suc k) s p = ends_next k s (descriptor_end lenient order s p)

  pub ends_within : (k c : ℕ) → k ≤ c → (s : List ℕ) (p : ℕ) → descriptors_end order k s p ≤ descriptors_end order c s p
  unfolding descriptors_end
  ends_within zero c h s p = ends_grow c s p
  ends_within (suc k) zero h s p = absurd (omega arith)
  ends_within (suc k) (suc c) h s p = ends_within k c (omega arith) s (descriptor_end lenient order s p)

  pub length_views : {A : Type 0} (v : ℕ → List ℕ → ℕ → A) (i c : ℕ) (s : List ℕ) (p : ℕ) → length (views v order i c s p) ≡ c
  unfolding views
  length_views v i zero s p = refl
  length_views v i (suc c) s p = ap suc (length_views v (suc i) c s (descriptor_end lenient order s p))

  -- ---- in a window

  module _ (s : List ℕ) (a : ℕ) (s' : List ℕ) (b n : ℕ) (w : FlagWindow lenient s a s' b n) where
    pub ends_local : (k p q : ℕ) → Same a b p q → descriptors_end order k s p ≤ a + n
        → Same a b (descriptors_end order k s p) (descriptors_end order k s' q)
    unfolding descriptors_end
    ends_local zero p q h x = h
    ends_local (suc k) p q h x =
        ends_local k _ _ (descriptor_local lenient s a s' b n w order p q h (le_trans (ends_grow k s _) x)) x

    pub views_same : {A : Type 0} (v : ℕ → List ℕ → ℕ → A) (f : ℕ → ℕ → A → A) → Local order v f
        → (i k p q : ℕ) → Same a b p q → descriptors_end order k s p ≤ a + n → views v order i k s' q ≡ map (f a b) (views v order i k s p)
    unfolding views descriptors_end
    views_same v f l i zero p q h x = refl
    views_same {A} v f l i (suc k) p q h x =
        let y : descriptor_end lenient order s p ≤ a + n = le_trans (ends_grow k s _) x in
        ap₂ (λ (c : A) (cs : List A). c ∷ cs)
        (l.same lenient s a s' b n w i p q h y)
        (views_same v f l (suc i) k _ _ (descriptor_local lenient s a s' b n w order p q h y) x)

  -- a window that starts both replies: nothing moves
  module _ (s s' : List ℕ) (n : ℕ) (w : FlagWindow lenient s 0 s' 0 n) where
    pub end_here : (p : ℕ) → descriptor_end lenient order s p ≤ n → descriptor_end lenient order s' p ≡ descriptor_end lenient order s p
    end_here p h = let i = descriptor_local lenient s 0 s' 0 n w order p p (same_here p) (omega arith) in omega arith

    pub view_here : {A : Type 0} (v : ℕ → List ℕ → ℕ → A) (f : ℕ → ℕ → A → A) → Local order v f
        → (i p : ℕ) → descriptor_end lenient order s p ≤ n → v i s' p ≡ v i s p
    view_here v f l i p h = l.same lenient s 0 s' 0 n w i p p (same_here p) (omega arith) ∙ l.still _
