-- Runs of layouts with names: where there is none, the first longest of them, and that a run's names are as many as it counts.
use Prim.Native.Nat.{ℕ, ◌+◌, ◌-◌, ◌≤◌, ◌<◌}
use native.Mathlib.Omega.{arith}
use mathlib.Core.Path.{◌≡◌, refl, sym, ap, ◌∙◌}
use mathlib.Core.List.{List}
use mathlib.Core.Bool.{Bool, true, false}
use lib.Dec.{leb}
use lib.ListN.{length, get_or}
use borrow.Author.Tests.{le-ltb, leb-false}
use Rattle.search.specs.Search.{pick}
use Rattle.search.specs.Walks.{keep, chain, best, tested}
use Rattle.search.proofs.Best.{best_more, best_done, best_all}
use Rattle.search.proofs.Walks.{chain_le, tested_counts}
use Rattle.codepage.specs.Page.{Page}
use Rattle.field.specs.declared.ByteOrder.TheVariants.{BigEndian}
use Rattle.field.specs.Numbers.{number}
use Rattle.name_run.specs.declared.NameRun.{NameRun}
use Rattle.name_run.specs.Run.{name_walk, name_run_from, longer, no_name_run, longest_name_run, names_of_run}
use Rattle.name_run.specs.declared.ScannedName.{ScannedName}
use Rattle.name_run.specs.Layout.{name_in, is_named_layout, layout_end, scanned_name_at}
use Rattle.name_run.proofs.Layouts.{named_null, named_outside, names_none}
use Rattle.std.proofs.Common.{Some, None}

-- ---- a start without a run

module _ (page : Page) (s : List ℕ) (p : ℕ) (h : p + 21 ≤ length s) where
  pub run_null : get_or s (p + 16) 0 ≡ 0xFF → (name_run_from page s p).count ≡ 0
  unfolding name_run_from
  run_null f = ap length (names_none page s 512 p (sym (named_null page s p (omega arith) f)))

  pub run_outside : (n : ℕ) → n ≡ number BigEndian 2 s (p + 19) → leb n (length s - (p + 21)) ≡ false → (name_run_from page s p).count ≡ 0
  unfolding name_run_from
  run_outside n e f =
      ap length (names_none page s 512 p (sym (named_outside page s p h n e (omega (arith, leb-false n (length s - (p + 21)) f)))))

-- ---- the longest

module _ (page : Page) (s : List ℕ) (n i : ℕ) (x : NameRun) where
  pub longest_next : i < n → best longer (name_run_from page s) i n x ≡ best longer (name_run_from page s) (i + 1) n (keep longer x (name_run_from page s i))
  longest_next h = best_more longer (name_run_from page s) n i x _ refl _ _ h refl refl

  pub longest_over : n ≤ i → best longer (name_run_from page s) i n x ≡ x
  longest_over h = sym (best_done longer (name_run_from page s) n i x _ refl h)

pub keep_empty : (x y : NameRun) → y.count ≡ 0 → keep longer x y ≡ x
unfolding keep
keep_empty x y e = rw (le-ltb x.count y.count (omega arith)) refl

-- ---- the walk from layout to layout

module _ (page : Page) (s : List ℕ) where
  pub step_none : (p : ℕ) → None ≡ scanned_name_at page s p → is_named_layout page s p (layout_end s p) ≡ false
  unfolding scanned_name_at
  step_none p e = go (is_named_layout page s p (layout_end s p)) refl
    where
      go : (b : Bool) → is_named_layout page s p (layout_end s p) ≡ b → is_named_layout page s p (layout_end s p) ≡ false
      go true f = let z = rw f at e in absurd cc
      go false f = f

  pub step_some : (p : ℕ) (r : ScannedName) → Some r ≡ scanned_name_at page s p → (r.next ≡ layout_end s p) × (is_named_layout page s p r.next ≡ true)
  unfolding scanned_name_at
  step_some p r e = go (is_named_layout page s p (layout_end s p)) refl
    where
      go : (b : Bool) → is_named_layout page s p (layout_end s p) ≡ b → (r.next ≡ layout_end s p) × (is_named_layout page s p r.next ≡ true)
      go true f =
          let z = rw f at e in
          let y : r ≡ record { name = name_in page s p; next = layout_end s p } = cc in
          rw y (refl, f)
      go false f = let z = rw f at e in absurd cc

  pub run_is : (at n : ℕ) → n ≡ length (chain (tested (λ _. true) (name_walk page s)) 512 0 at) → record { start = at; count = n } ≡ name_run_from page s at
  unfolding name_run_from
  run_is at n e = λ k. record { start = at; count = (e ∙ (tested_counts (λ _. true) (name_walk page s) 512 0 at).0) k }

-- ---- its names, read again, are as many as it counts

abbrev Counted : Page → List ℕ → NameRun → Type 0
Counted page s run = (run.count ≡ length (names_of_run page s run)) × (run.count ≤ 512)

from_counted : (page : Page) (s : List ℕ) (p : ℕ) → Counted page s (name_run_from page s p)
unfolding name_run_from names_of_run
from_counted page s p = (go (leb 1 (length (chain (name_walk page s) 512 0 p))) refl, chain_le (name_walk page s) 512 0 p)
  where
    go : (b : Bool) → leb 1 (length (chain (name_walk page s) 512 0 p)) ≡ b
        → length (chain (name_walk page s) 512 0 p) ≡ length (chain (name_walk page s) (pick b 512 0) 0 p)
    go true e = refl
    go false e = omega (arith, leb-false 1 (length (chain (name_walk page s) 512 0 p)) e, chain_le (name_walk page s) 0 0 p)

none_counted : (page : Page) (s : List ℕ) → Counted page s no_name_run
unfolding names_of_run chain
none_counted page s = (refl, omega arith)

pub longest_counted : (page : Page) (s : List ℕ) → Counted page s (longest_name_run page s)
unfolding longest_name_run
longest_counted page s =
    best_all (Counted page s) longer (name_run_from page s) 0 (length s - 20) no_name_run (none_counted page s) (from_counted page s)
