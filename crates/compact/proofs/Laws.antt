-- Names and ends by their cases: for each way out of a function one law.
use Prim.Native.Nat.{ℕ, suc, ◌+◌, ◌-◌, ◌≤◌, ◌<◌}
use native.Mathlib.Omega.{arith}
use mathlib.Core.Path.{◌≡◌, refl, sym, ap}
use mathlib.Core.List.{List, [], ◌∷◌}
use mathlib.Core.Bool.{Bool, true, false, ◌&&◌}
use lib.ListN.{length, get_or, drop}
use lib.Seq.{drop-cons}
use lib.Dec.{leb, eqb, ltb}
use borrow.Author.Tests.{eq-eqb, ne_eqb, eqb-true, eqb-false, lt-ltb, le-ltb, lt-leb, ltb-true, leb-true, leb-false}
use Rattle.std.proofs.Common.{rules}
use Rattle.std.specs.List.{starts_with}
use Rattle.std.specs.Prelude.{unwrap_or}
use Rattle.search.specs.Search.{pick}
use Rattle.search.specs.Walks.{first}
use Rattle.search.proofs.Index.{first_done}
use Rattle.strings.specs.Strings.{no_string}
use Rattle.compact_table.specs.Bytes.{found_before}
use Rattle.compact_table.specs.Table.{is_ff, next_here, next_compact}
use Rattle.compact.specs.declared.Ends.{Ends}
use Rattle.compact.specs.declared.Ends.TheVariants.{Compact, Last}
use Rattle.compact.specs.Compact.{name_here, name_at, compact_name, compact_end, ffs_here, last_end, end_by}

-- ---- names

module _ (s : List ℕ) (e q : ℕ) where
  pub name_size : (leb 1 (get_or s q 0) && leb (get_or s q 0) 64) ≡ false → false ≡ name_here s e q
  unfolding name_here
  name_size h = rw h refl

  pub name_over : (leb 1 (get_or s q 0) && leb (get_or s q 0) 64) ≡ true → e < q + 1 + get_or s q 0 → false ≡ name_here s e q
  unfolding name_here
  name_over h g = rw (h, lt-leb (q + 1 + get_or s q 0) e g) refl

pub name_found : (s : List ℕ) (p e q : ℕ) → q ≡ name_at s p e → q < e → record { place = q + 1; length = get_or s q 0; next = e } ≡ compact_name s p e
unfolding compact_name
name_found s p e q f h = rw (← f, lt-ltb q e h) refl

pub name_none : (s : List ℕ) (p e q : ℕ) → q ≡ name_at s p e → e ≤ q → no_string e ≡ compact_name s p e
unfolding compact_name
name_none s p e q f h = rw (← f, le-ltb q e h) refl

-- ---- ends

module _ (k : ℕ) (s : List ℕ) (p : ℕ) where
  pub compact_last : k ≡ 0 → length s ≡ compact_end k s p
  unfolding compact_end
  compact_last e = rw (eq-eqb k 0 e) refl

  -- q is the next, or the reply's end where there is none
  pub compact_by_next : (q : ℕ) → (k ≡ 0 → ⊥) → q ≡ unwrap_or (found_before (length s + 1) (next_compact s p)) (length s) → (q ≡ compact_end k s p) × (q ≤ length s)
  unfolding compact_end
  compact_by_next q e f = rw (ne_eqb k 0 e) (go (leb (next_compact s p) (length s)) refl)
    where
      go : (b : Bool) → leb (next_compact s p) (length s) ≡ b → (q ≡ pick b (next_compact s p) (length s)) × (q ≤ length s)
      go true h =
          let z = leb-true (next_compact s p) (length s) h in
          let u : q ≡ next_compact s p = rw (lt-ltb (next_compact s p) (length s + 1) (omega arith)) at f in
          (u, omega arith)
      go false h =
          let z = leb-false (next_compact s p) (length s) h in
          let u : q ≡ length s = rw (le-ltb (next_compact s p) (length s + 1) (omega arith)) at f in
          (u, omega arith)

-- what the standard library says of a slice that starts with FF FF FF
pub ffs_is : (s : List ℕ) (q : ℕ) → q + 3 ≤ length s → starts_with eqb (drop q s) (0xFF ∷ 0xFF ∷ 0xFF ∷ []) ≡ ffs_here s q
unfolding ffs_here
ffs_is s q h =
    rw (drop-cons s q 0 (omega arith), drop-cons s (suc q) 0 (omega arith), drop-cons s (suc (suc q)) 0 (omega arith), swap (get_or s q 0), swap (get_or s (suc q) 0), swap (get_or s (suc (suc q)) 0)) (search rules)
  where
    swap : (b : ℕ) → eqb 0xFF b ≡ eqb b 0xFF
    swap b = go (eqb b 0xFF) refl
      where
        go : (t : Bool) → eqb b 0xFF ≡ t → eqb 0xFF b ≡ t
        go true e = eq-eqb 0xFF b (sym (eqb-true b 0xFF e))
        go false e = ne_eqb 0xFF b (λ z. eqb-false b 0xFF e (sym z))

-- FF FF FF starts with an FF
pub no_ffs : (s : List ℕ) (q : ℕ) → is_ff s q ≡ false → ffs_here s q ≡ false
unfolding ffs_here
no_ffs s q h = rw h refl

module _ (s : List ℕ) (p q : ℕ) (e : q ≡ first (ffs_here s) p (length s - 2)) where
  pub last_found : q < length s - 2 → q + 3 ≡ last_end s p
  unfolding last_end
  last_found h = rw (← e, lt-ltb q (length s - 2) h) refl

  pub last_none : length s - 2 ≤ q → length s ≡ last_end s p
  unfolding last_end
  last_none h = rw (← e, le-ltb q (length s - 2) h) refl

-- a descriptor that starts in the last 15 bytes has under 16, whichever way it ends
last_short : (s : List ℕ) (p : ℕ) → length s < p + 16 → last_end s p < p + 16
unfolding last_end
last_short s p h = go (ltb (first (ffs_here s) p (length s - 2)) (length s - 2)) refl
  where
    go : (b : Bool) → ltb (first (ffs_here s) p (length s - 2)) (length s - 2) ≡ b → pick b (first (ffs_here s) p (length s - 2) + 3) (length s) < p + 16
    go true e = let z = ltb-true (first (ffs_here s) p (length s - 2)) (length s - 2) e in omega arith
    go false e = h

next_short : (s : List ℕ) (p : ℕ) → length s < p + 16 → next_compact s p ≡ p + 16 + 1
unfolding next_compact
next_short s p h =
    ap (λ (x : ℕ). x + 1) (sym (first_done (next_here s) (length s) (p + 16) (first (next_here s) (p + 16) (length s)) refl (omega arith)))

compact_short : (k : ℕ) (s : List ℕ) (p : ℕ) → length s < p + 16 → compact_end k s p < p + 16
unfolding compact_end
compact_short k s p h = rw (next_short s p h, lt-leb (p + 16 + 1) (length s) (omega arith)) (go (eqb k 0))
  where
    go : (b : Bool) → pick b (length s) (length s) < p + 16
    go true = h
    go false = h

pub end_short : (ends : Ends) (k : ℕ) (s : List ℕ) (p : ℕ) → length s < p + 16 → end_by ends k s p < p + 16
unfolding end_by
end_short Compact k s p h = compact_short k s p h
end_short Last k s p h = last_short s p h

-- so one that can be read has its 16 bytes in the reply: for who reads it by compact_end
pub end_room : (ends : Ends) (k : ℕ) (s : List ℕ) (p : ℕ) → p + 16 ≤ end_by ends k s p → p + 16 ≤ length s
end_room ends k s p h = go (leb (p + 16) (length s)) refl
  where
    go : (b : Bool) → leb (p + 16) (length s) ≡ b → p + 16 ≤ length s
    go true e = leb-true (p + 16) (length s) e
    go false e = absurd (let z = end_short ends k s p (leb-false (p + 16) (length s) e) in omega arith)
