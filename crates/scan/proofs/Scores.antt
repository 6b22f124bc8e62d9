-- The difference of two numbers as the machine has it, and which of two scores is greater.
use mathlib.Core.Path.{◌≡◌, refl, sym, ap, ◌∙◌, subst}
use mathlib.Core.Bool.{Bool, true, false, cond}
use Prim.Native.Nat.{ℕ, zero, suc, ◌+◌, ◌-◌, ◌^◌, ◌<◌, ◌≤◌}
use native.Mathlib.Omega.{arith}
use lib.Dec.{ltb}
use lib.IntN.{ℤ, pos, negsuc, ◌-ℤ◌}
use lib.Signed.{mag, lt_z}
use mir.Syntax.{w64}
use mir.Val.{SFits, to_z, of_z}
use mir.Facts.{to_z-of_z, to_z_pos}
use borrow.Author.Tests.{lt-ltb, le-ltb, le-leb, ltb-true, ltb-false}
use Rattle.column.specs.declared.Run.{Run}
use Rattle.scan.specs.Score.{exact_score}
use Rattle.scan.specs.Scan.{score}

-- ---- the machine's difference

minus_le : (a b : ℕ) → b ≤ a → pos a -ℤ pos b ≡ pos (a - b)
minus_le a zero h = let e : a + 0 ≡ a - 0 = omega arith in ap pos e
minus_le a (suc b) h = ap (λ (t : Bool). cond t (negsuc (suc b - suc a)) (pos (a - suc b))) (le-ltb a (suc b) h)

minus_lt : (a b : ℕ) → a < b → pos a -ℤ pos b ≡ negsuc (b - suc a)
minus_lt a zero h = absurd (omega arith)
minus_lt a (suc b) h = ap (λ (t : Bool). cond t (negsuc (suc b - suc a)) (pos (a - suc b))) (lt-ltb a (suc b) h)

split : (a b : ℕ) (P : Type 0) → (a < b → P) → (b ≤ a → P) → P
split a b P f g = go (ltb a b) refl
  where
    go : (t : Bool) → ltb a b ≡ t → P
    go true e = f (ltb-true a b e)
    go false e = g (ltb-false a b e)

-- as the machine has it, for numbers below 2^63
module _ (a b : ℕ) (ha : a < 2 ^ 63) (hb : b < 2 ^ 63) where
  reads : to_z w64 a -ℤ to_z w64 b ≡ pos a -ℤ pos b
  reads = ap (λ (z : ℤ). z -ℤ to_z w64 b) (to_z_pos w64 ha) ∙ ap (λ (z : ℤ). pos a -ℤ z) (to_z_pos w64 hb)

  small : SFits w64 (pos a -ℤ pos b)
  small =
      split a b (SFits w64 (pos a -ℤ pos b)) (λ l. subst (SFits w64) (sym (minus_lt a b l)) (record { sfits = omega arith }))
      (λ l. subst (SFits w64) (sym (minus_le a b l)) (record { sfits = omega arith }))

  pub minus_fits : SFits w64 (to_z w64 a -ℤ to_z w64 b)
  minus_fits = subst (SFits w64) (sym reads) small

  pub minus_is : to_z w64 (of_z w64 (to_z w64 a -ℤ to_z w64 b)) ≡ pos a -ℤ pos b
  minus_is = to_z-of_z minus_fits ∙ reads

pub back64 : (z : ℤ) → mag z < 0x8000_0000_0000_0000 → to_z w64 (of_z w64 z) ≡ z
back64 z h = to_z-of_z {w = w64} {z = z} (record { sfits = h })

-- ---- the score

-- of a run that counts
pub score_counted : (r : Run) → 2 ≤ r.count → 1 ≤ r.named → exact_score r.named r.count (r.count - r.named) ≡ score r
unfolding score
score_counted r h k = rw (le-leb 2 r.count h, le-leb 1 r.named k) refl

-- a and b are the machine's scores of x and y
pub better_is : (x y : Run) (a b : ℤ) → mag a < 0x8000_0000_0000_0000 → mag b < 0x8000_0000_0000_0000 → a ≡ score x → b ≡ score y
    → lt_z (to_z w64 (of_z w64 b)) (to_z w64 (of_z w64 a)) ≡ lt_z (score y) (score x)
better_is x y a b k l e f =
    ap (λ (z : ℤ). lt_z z (to_z w64 (of_z w64 a))) (back64 b l ∙ f) ∙ ap (λ (z : ℤ). lt_z (score y) z) (back64 a k ∙ e)
