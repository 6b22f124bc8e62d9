-- The three parts of a spliced reply are windows: what stands before, the new bytes, and what stands after.
use mathlib.Core.Path.{◌≡◌, refl, sym, ap, ◌∙◌}
use mathlib.Core.List.{List, ◌++◌}
use Prim.Native.Nat.{ℕ, ◌+◌, ◌-◌, ◌≤◌, ◌<◌}
use native.Mathlib.Omega.{arith}
use lib.ListN.{length, get_or, take, drop, length-drop, length-append, get_or-append}
use lib.Seq.{get_or-take, get_or-drop, get_or-append-add, length-take-le}
use Rattle.descriptor.specs.Nullable.{lenient, strict}
use Rattle.descriptor.proofs.Local.{FlagWindow}
use Rattle.descriptor.specs.Exchange.{splice}

module _ (s : List ℕ) (a e : ℕ) (d : List ℕ) (x : a ≤ e) (y : e ≤ length s) where
  length_front : length (take a s) ≡ a
  length_front = length-take-le a s (omega arith)

  pub length_splice : length (splice s a e d) ≡ a + length d + (length s - e)
  unfolding splice
  length_splice = simp (length-append, length-drop, length_front) (omega arith)

  splice_before : (p : ℕ) → p < a → get_or s p 0 ≡ get_or (splice s a e d) p 0
  unfolding splice
  splice_before p h =
      sym (get_or-append (take a s) (d ++ drop e s) 0 p (omega (arith, length_front)) ∙ get_or-take a s p 0 h)

  splice_past : (i : ℕ) → get_or (splice s a e d) (a + i) 0 ≡ get_or (d ++ drop e s) i 0
  unfolding splice
  splice_past i =
      ap (λ (k : ℕ). get_or (take a s ++ (d ++ drop e s)) (k + i) 0) (sym length_front) ∙ get_or-append-add (take a s) (d ++ drop e s) i 0

  splice_within : (p q : ℕ) → p < length d → q ≡ a + p → get_or d p 0 ≡ get_or (splice s a e d) q 0
  splice_within p q h k =
      sym (ap (λ (i : ℕ). get_or (splice s a e d) i 0) k ∙ splice_past p ∙ get_or-append d (drop e s) 0 p h)

  splice_after : (p q i : ℕ) → p ≡ e + i → q ≡ a + (length d + i) → get_or s p 0 ≡ get_or (splice s a e d) q 0
  splice_after p q i h k =
      ap (λ (j : ℕ). get_or s j 0) h ∙ sym (get_or-drop e s i 0)
      ∙ sym (ap (λ (j : ℕ). get_or (splice s a e d) j 0) k ∙ splice_past (length d + i) ∙ get_or-append-add d (drop e s) i 0)

  pub window_before : a < length s → FlagWindow lenient s 0 (splice s a e d) 0 a
  window_before z =
      record {
        window = record {
          bytes = λ p q h k. let i : q ≡ p = omega arith in rw i (splice_before p (omega arith));
          inside = omega arith;
          inside' = omega (arith, length_splice);
        };
        seam = λ p q h i k. absurd (omega arith);
      }

  pub window_within : FlagWindow strict d 0 (splice s a e d) a (length d)
  window_within =
      record {
        window = record {
          bytes = λ p q h k. splice_within p q (omega arith) (omega arith);
          inside = omega arith;
          inside' = omega (arith, length_splice);
        };
        seam = λ p q h i k. absurd (omega arith);
      }

  pub window_after : FlagWindow lenient s e (splice s a e d) (a + length d) (length s - e)
  window_after =
      record {
        window = record {
          bytes = λ p q h k. splice_after p q (p - e) (omega arith) (omega arith);
          inside = omega arith;
          inside' = omega (arith, length_splice);
        };
        seam = λ p q h i k. (omega (arith, length_splice), refl);
      }
