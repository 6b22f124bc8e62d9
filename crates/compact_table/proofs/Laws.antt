-- The table by its cases: for each way out of a function one law.
use Prim.Native.Nat.{ℕ, ◌+◌, ◌-◌, ◌≤◌, ◌<◌}
use native.Mathlib.Omega.{arith}
use mathlib.Core.Path.{◌≡◌, refl, sym, ap, ◌∙◌}
use mathlib.Core.List.{List}
use mathlib.Core.Bool.{Bool, true, false, ◌||◌, false≢true, and-false, and-eq-true_iff}
use lib.ListN.{length}
use lib.Dec.{ltb, leb}
use borrow.Author.Tests.{le-leb, lt-ltb, le-ltb, leb-true}
use Rattle.std.specs.Prelude.{Option, Some, None}
use Rattle.search.specs.Search.{pick}
use Rattle.search.specs.Walks.{first}
use Rattle.search.proofs.Index.{first_none}
use Rattle.field.specs.declared.ByteOrder.TheVariants.{LittleEndian}
use Rattle.field.specs.Numbers.{number}
use Rattle.sqlda.proofs.Laws.{outside_unknown}
use Rattle.compact_table.specs.declared.Table.{Table}
use Rattle.compact_table.specs.Table.{in_bounds, is_ff, looks_compact, next_here, next_compact, is_count, table_here, table_from, table_at, no_table, table_of, Ended}

-- ---- 16 bytes at p

module _ (s : List ℕ) (p : ℕ) where
  pub looks_outside : (t : ℕ) → p + 16 ≤ length s → t ≡ number LittleEndian 2 s (p + 12) → (ltb t 384 || ltb 2437 t) ≡ true → false ≡ looks_compact s p
  unfolding looks_compact
  looks_outside t h e o =
      let bounds = in_bounds t (number LittleEndian 2 s p) (number LittleEndian 2 s (p + 2)) (number LittleEndian 8 s (p + 4)) in
      rw (le-leb (p + 16) (length s) h, ← e, outside_unknown t o) (sym (and-false bounds))

  -- ---- the next descriptor
  pub next_at : (r : Bool) → is_ff s p ≡ true → r ≡ looks_compact s (p + 1) → r ≡ next_here s p
  unfolding next_here
  next_at r e f = rw e f

  pub next_is : (q : ℕ) → q ≡ first (next_here s) (p + 16) (length s) → q + 1 ≡ next_compact s p
  unfolding next_compact
  next_is q e = rw e refl

-- ---- no next

-- at first a next may come
pub ended_first : (s : List ℕ) (p : ℕ) → Ended s p true
ended_first s p e = absurd (false≢true (sym e))

-- what has no next, has none from a later position on
pub ended_later : (s : List ℕ) (p q : ℕ) (more : Bool) → p ≤ q → Ended s p more → Ended s q more
unfolding next_compact
ended_later s p q more h e f =
    let u = e f in
    let v = first_none (next_here s) (p + 16) (q + 16) (length s) (omega arith) (omega arith) in
    omega arith

-- ---- the table

-- the count that stands there is 1 to 512
module _ (s : List ℕ) (q : ℕ) (h : table_here s q ≡ true) where
  count_is : is_count (number LittleEndian 2 s q) ≡ true
  unfolding table_here
  count_is = ((and-eq-true_iff (is_count (number LittleEndian 2 s q)) _).0 h).0

  count_within : (1 ≤ number LittleEndian 2 s q) × (number LittleEndian 2 s q ≤ 512)
  count_within =
      let both = (and-eq-true_iff (leb 1 (number LittleEndian 2 s q)) (leb (number LittleEndian 2 s q) 512)).0 count_is in
      (leb-true 1 (number LittleEndian 2 s q) both.0, leb-true (number LittleEndian 2 s q) 512 both.1)

pub count_small : (s : List ℕ) (q n : ℕ) → n ≡ number LittleEndian 2 s q → table_here s q ≡ true → n ≤ 512
count_small s q n e h = rw e (count_within s q h).1

-- what is found at a position: a count of a table stands there, and the table is what it says
pub record Stands (s : List ℕ) (q : ℕ) (t : Table) : Type 0 where
  pub here : table_here s q ≡ true
  pub table : t ≡ record { start = q + 2; count = number LittleEndian 2 s q }
  pub start : t.start ≡ q + 2
  pub least : 1 ≤ t.count
  pub most : t.count ≤ 512

module _ (s : List ℕ) (q : ℕ) where
  abbrev found_if : Bool → Option Table
  found_if b = pick b (Some (record { start = q + 2; count = number LittleEndian 2 s q })) None

  pub table_stands : (t : Table) → Some t ≡ table_from s q → Stands s q t
  table_stands t u = go (table_here s q) refl u
    where
      go : (b : Bool) → table_here s q ≡ b → Some t ≡ found_if b → Stands s q t
      go true h v =
          let e : t ≡ record { start = q + 2; count = number LittleEndian 2 s q } = cc in
          let within = count_within s q h in
          record {
            here = h;
            table = e;
            start = ap (λ (x : Table). x.start) e;
            least = omega (arith, ap (λ (x : Table). x.count) e);
            most = omega (arith, ap (λ (x : Table). x.count) e);
          }
      go false h v = absurd cc

  pub table_missing : None ≡ table_from s q → table_here s q ≡ false
  table_missing u = go (table_here s q) u
    where
      go : (b : Bool) → None ≡ found_if b → b ≡ false
      go true v = absurd cc
      go false v = refl

module _ (s : List ℕ) (q : ℕ) (e : q ≡ table_at s) where
  pub table_none : length s - 17 ≤ q → no_table ≡ table_of s
  unfolding table_of
  table_none h = rw (← e, le-ltb q (length s - 17) h) refl

  pub table_is : (n : ℕ) → q < length s - 17 → n ≡ number LittleEndian 2 s q → record { start = q + 2; count = n } ≡ table_of s
  unfolding table_of
  table_is n h f = rw (← e, lt-ltb q (length s - 17) h, f) refl

  -- the same of what is found there
  pub stands_is : (t : Table) → q < length s - 17 → Stands s q t → t ≡ table_of s
  stands_is t h f = f.table ∙ table_is (number LittleEndian 2 s q) h refl
