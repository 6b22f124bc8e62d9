-- The scan by its cases: what is kept of two runs, the run from a start, and a reply without starts.
use mathlib.Core.Path.{◌≡◌, refl, sym, ap, ◌∙◌}
use mathlib.Core.Bool.{Bool, true, false, false≢true}
use mathlib.Core.List.{List, []}
use Prim.Native.Nat.{ℕ, zero, suc, ◌+◌, ◌-◌, ◌≤◌, ◌<◌}
use native.Mathlib.Omega.{arith}
use lib.IntN.{ℤ, pos, negsuc}
use lib.ListN.{length}
use lib.Signed.{lt_z}
use borrow.Author.Tests.{le-ltb, lt-ltb, lt-leb, ltb-true}
use Rattle.std.specs.Prelude.{Option, Some, None, IfSome}
use Rattle.search.specs.Walks.{keep, best, Walk, chain}
use Rattle.search.proofs.Best.{best_done}
use Rattle.codepage.specs.Page.{Page}
use Rattle.field.specs.declared.ByteOrder.{ByteOrder}
use Rattle.column.specs.Column.{run_of}
use Rattle.descriptor.specs.Run.{standard_walk, standard_run}
use Rattle.scan.specs.declared.Best.{Best}
use Rattle.scan.specs.declared.Found.{Found}
use Rattle.field.specs.Numbers.{number}
use Rattle.sqlda.specs.Types.{is_known}
use Rattle.descriptor.specs.Nullable.{lenient}
use Rattle.descriptor.proofs.Steps.{descriptor_end_unknown}
use Rattle.scan.specs.Inside.{in_hand}
use Rattle.scan.specs.Scan.{score, better, run_from, scan_order}

pub keep_new : (x y : Best) (b : Bool) → b ≡ better y x → b ≡ true → y ≡ keep better x y
unfolding keep
keep_new x y b e f = rw (← e, f) refl

pub keep_old : (x y : Best) (b : Bool) → b ≡ better y x → b ≡ false → x ≡ keep better x y
unfolding keep
keep_old x y b e f = rw (← e, f) refl

pub scan_short : (page : Page) (order : ByteOrder) (s : List ℕ) (x : Best) → length s < 18 → x ≡ scan_order page order s x
unfolding scan_order
scan_short page order s x h =
    best_done better (run_from page order s) (length s - 17) 0 x (best better (run_from page order s) 0 (length s - 17) x) refl (omega arith)

-- ---- the score of the one in hand is not below 0, so a start without a run need not be looked at

-- what holds of the one in hand
abbrev Above : Option Found → Type 0
Above x = IfSome x (λ (found : Found). lt_z (pos 0) (score found.best.run) ≡ true)

greater : (a b : ℤ) → lt_z (pos 0) a ≡ true → lt_z a b ≡ true → lt_z (pos 0) b ≡ true
greater (pos m) (pos n) e f = lt-ltb 0 n (omega (arith, ltb-true m n f))
greater (pos m) (negsuc n) e f = absurd (false≢true f)
greater (negsuc m) b e f = absurd (false≢true e)

not_below : (a : ℤ) → lt_z (pos 0) a ≡ true → lt_z a (pos 0) ≡ false
not_below (pos n) e = le-ltb n 0 (omega arith)
not_below (negsuc n) e = absurd (false≢true e)

hand_not_below : (x : Option Found) → Above x → lt_z (score (in_hand x).run) (pos 0) ≡ false
unfolding score
hand_not_below None h = refl
hand_not_below (Some found) h = not_below (score found.best.run) h

pub new_above : (x : Option Found) (y : Best) (b : Bool) → Above x → b ≡ better y (in_hand x) → b ≡ true → lt_z (pos 0) (score y.run) ≡ true
unfolding score
new_above None y b h e f = sym e ∙ f
new_above (Some found) y b h e f = greater (score found.best.run) (score y.run) h (sym e ∙ f)

-- and a run of score 0 does not take its place
pub not_counted : (x : Option Found) (y : Best) → Above x → score y.run ≡ pos 0 → in_hand x ≡ keep better (in_hand x) y
not_counted x y h e = keep_old (in_hand x) y false (sym (ap (λ (z : ℤ). lt_z (score (in_hand x).run) z) e ∙ hand_not_below x h)) refl

no_steps : {A : Type 0} (w : Walk A) (n p : ℕ) → ((k : ℕ) → w.reads p (w.end k p) ≡ false) → chain w n 0 p ≡ []
unfolding chain
no_steps w zero p h = refl
no_steps w (suc k) p h = rw (h k) refl

module _ (page : Page) (order : ByteOrder) (s : List ℕ) (p : ℕ) (h : p + 16 ≤ length s) (t : ℕ) (d : t ≡ number order 2 s (p + 12)) (b : Bool) (e : b ≡ is_known t) (f : b ≡ false) where
  -- no descriptor of an unknown type can be read
  empty_run : standard_run page order s 512 p ≡ run_of page s []
  unfolding standard_run
  empty_run =
      let past = descriptor_end_unknown lenient order s p h (sym (e ∙ ap is_known d) ∙ f) in
      ap (run_of page s) (no_steps (standard_walk page order s) 512 p (λ k. rw past (lt-leb (suc (length s)) (length s) (omega arith))))

  -- and a run without columns has score 0
  empty_score : score (run_from page order s p).run ≡ pos 0
  unfolding run_from score
  empty_score = ap score empty_run

  pub start_passed : (x : Option Found) → Above x → in_hand x ≡ keep better (in_hand x) (run_from page order s p)
  start_passed x i = not_counted x (run_from page order s p) i empty_score
