-- The readings' plans: a law for each way out of the functions that make them.
use mathlib.Core.Path.{◌≡◌, refl, sym, ap, subst, ◌∙◌}
use mathlib.Core.Bool.{true, false}
use mathlib.Core.List.{List, [], ◌∷◌}
use Prim.Native.Nat.{ℕ, ◌+◌, ◌-◌, ◌≤◌, ◌<◌}
use native.Mathlib.Omega.{arith}
use lib.Dec.{leb}
use lib.ListN.{length}
use borrow.Author.Tests.{eq-eqb, ne_eqb, lt-ltb, le-ltb, le-leb}
use Rattle.std.specs.Prelude.{Some, None, Ok, Err}
use Rattle.search.specs.Walks.{chain}
use Rattle.search.proofs.Best.{best_all}
use Rattle.codepage.specs.Page.{Page}
use Rattle.field.specs.declared.ByteOrder.{ByteOrder}
use Rattle.field.specs.declared.ByteOrder.TheVariants.{BigEndian, LittleEndian}
use Rattle.field.specs.Numbers.{number}
use Rattle.outcome.specs.declared.Refusal.TheVariants.{EmptyReply, BufferTooShort}
use Rattle.types.specs.declared.ColumnMetadata.{ColumnMetadata}
use Rattle.column.specs.declared.Run.{Run}
use Rattle.column.specs.Column.{run_of}
use Rattle.descriptor.specs.Descriptor.{column_at}
use Rattle.descriptor.specs.Reading.{count_at, count_in, descriptors_end, start_of, gives}
use Rattle.descriptor.specs.Run.{standard_walk, standard_run}
use Rattle.descriptor.proofs.Descriptors.{length_views}
use Rattle.descriptor.proofs.Exchange.{Gives, gives_is}
use Rattle.compact_table.specs.declared.Table.{Table}
use Rattle.compact_table.specs.Table.{no_table, table_of}
use Rattle.compact.specs.declared.Ends.TheVariants as ends
use Rattle.compact.specs.Compact.{compact_run}
use Rattle.scan.specs.declared.Best.{Best}
use Rattle.scan.specs.Scan.{better, no_run, run_from, scan_order, scan_best, limit_of}
use Rattle.planned.specs.declared.Plan.{Plan}
use Rattle.planned.specs.declared.Layout.TheVariants as layouts
use Rattle.plan.specs.Choice.{last_count_at}
use Rattle.planned.specs.Planned.{walk_of, columns_of}
use Rattle.plan.specs.Plan.{uncounted, plan_with, empty_plan, counted, with_columns, standard_plan, compact_plan, scan_plan, last_plan}
use Rattle.plan.proofs.Standards.{chain_views, chain_full, gives_not}

-- ---- a plan, if it has columns

pub some_columns : (r y : Plan) → r ≡ y → (r.run.count ≡ 0 → ⊥) → Some r ≡ with_columns y
some_columns r y e h = rw (← e, le-leb 1 r.run.count (omega arith)) refl

pub no_columns : (r y : Plan) → r ≡ y → r.run.count ≡ 0 → None ≡ with_columns y
no_columns r y e h = rw (← e, h) refl

-- ---- standard

module _ (page : Page) (order : ByteOrder) (s : List ℕ) where
  pub standard_none : (Gives order s → ⊥) → None ≡ with_columns (standard_plan page order s)
  unfolding standard_plan counted columns_of walk_of chain
  standard_none h = rw (gives_not page order s h) refl

  -- n is the count that stands at p
  module _ (p n : ℕ) (e : p ≡ count_at s) (f : n ≡ number order 2 s p) where
    count_is : n ≡ count_in order s
    unfolding count_in
    count_is = f ∙ ap (number order 2 s) e

    pub standard_few : (1 ≤ n → n ≤ 512 → ⊥) → None ≡ with_columns (standard_plan page order s)
    standard_few h = standard_none (λ k. h (omega (arith, k.some, count_is)) (omega (arith, k.few, count_is)))

    -- a run of as many as there are, where the reading gives columns
    run_all : Gives order s → (standard_run page order s n (p + 2)).count ≡ n
    unfolding standard_run start_of
    run_all g =
        rw (count_is, e)
        (ap length (chain_views page order s (count_in order s) 0 (count_at s + 2) g.all) ∙ length_views order (column_at page order) 0 (count_in order s) s (count_at s + 2))

    module _ (x : Run) (u : x ≡ standard_run page order s n (p + 2)) where
      pub standard_cut : (x.count ≡ n → ⊥) → None ≡ with_columns (standard_plan page order s)
      standard_cut v = standard_none (λ k. v (ap (λ (y : Run). y.count) u ∙ run_all k))

      run_gives : p + 2 ≤ length s → 1 ≤ n → n ≤ 512 → x.count ≡ n → gives order s ≡ true
      unfolding standard_run start_of
      run_gives h a b v =
          let l : length (chain (standard_walk page order s) n 0 (p + 2)) ≡ n = ap (λ (y : Run). y.count) (sym u) ∙ v in
          let d = chain_full page order s n 0 (p + 2) l h in
          let d' : descriptors_end order (count_in order s) s (count_at s + 2) ≤ length s = rw (← count_is, ← e) d in
          gives_is order s (record { room = omega arith; some = omega (arith, count_is); few = omega (arith, count_is); all = d' })

      pub standard_is : (r : Plan) → r ≡ plan_with (layouts.Standard order) false (p + 2) n x → p + 2 ≤ length s → 1 ≤ n → n ≤ 512 → x.count ≡ n
          → Some r ≡ with_columns (standard_plan page order s)
      unfolding standard_plan counted columns_of walk_of standard_run
      standard_is r g h a b v =
          let c : r.run.count ≡ n = ap (λ (y : Plan). y.run.count) g ∙ v in
          some_columns r (standard_plan page order s)
          (g ∙ (ap (plan_with (layouts.Standard order) false (p + 2) n) u ∙ rw (run_gives h a b v, e, count_is) refl))
          (λ z. omega arith)

-- ---- compact

pub compact_is : (page : Page) (s : List ℕ) (r : Plan) (t : Table) (x : Run) → t ≡ table_of s → x ≡ compact_run page ends.Compact s t.count t.start
    → r ≡ plan_with (layouts.Compact ends.Compact) true t.start t.count x → r ≡ compact_plan page s
unfolding compact_plan counted columns_of walk_of compact_run
compact_is page s r t x e f g =
    g
    ∙ (ap (plan_with (layouts.Compact ends.Compact) true t.start t.count) f
    ∙ ap (λ (u : Table). counted page s (uncounted (layouts.Compact ends.Compact) true u.start u.count)) e)

-- no table, no columns
pub compact_none : (page : Page) (s : List ℕ) → no_table ≡ table_of s → None ≡ with_columns (compact_plan page s)
unfolding compact_plan counted columns_of walk_of chain
compact_none page s e = rw (← e) refl

-- ---- the scan

-- a run says what the walk from its start finds
abbrev Counts : Page → List ℕ → Best → Type 0
Counts page s x = x.run ≡ run_of page s (chain (standard_walk page x.order s) (limit_of x) 0 x.start)

counts_none : (page : Page) (s : List ℕ) → Counts page s no_run
unfolding chain
counts_none page s = refl

-- apart, so that the 512 steps of a run's walk stay folded below
none_found : (page : Page) (order : ByteOrder) (s : List ℕ) (j : ℕ) → [] ≡ chain (standard_walk page order s) 0 0 j
unfolding chain
none_found page order s j = refl

counts_run : (page : Page) (order : ByteOrder) (s : List ℕ) (j : ℕ) → Counts page s (run_from page order s j)
unfolding run_from standard_run
counts_run page order s j = go (chain (standard_walk page order s) 512 0 j) refl
  where
    go : (l : List ColumnMetadata) → chain (standard_walk page order s) 512 0 j ≡ l
        → Counts page s (record { start = j; order = order; run = run_of page s l })
    go [] e = ap (run_of page s) (none_found page order s j)
    go (x ∷ xs) e =
        let h : leb 1 (length (x ∷ xs)) ≡ true = le-leb 1 (length (x ∷ xs)) (omega arith) in
        rw (h, e) refl

counts_scan : (page : Page) (s : List ℕ) → Counts page s (scan_best page s)
unfolding scan_best scan_order
counts_scan page s =
    best_all (Counts page s) better (run_from page LittleEndian s) 0 (length s - 17) _
    (best_all (Counts page s) better (run_from page BigEndian s) 0 (length s - 17) no_run (counts_none page s) (counts_run page BigEndian s))
    (counts_run page LittleEndian s)

scan_counted : (page : Page) (s : List ℕ) (b : Best) (n : ℕ) → n ≡ limit_of b → Counts page s b
    → plan_with (layouts.Standard b.order) true b.start n b.run ≡ counted page s (uncounted (layouts.Standard b.order) true b.start (limit_of b))
unfolding counted columns_of walk_of
scan_counted page s b n f h = λ i. plan_with (layouts.Standard b.order) true b.start (f i) (h i)

module _ (page : Page) (s : List ℕ) (b : Best) (e : b ≡ scan_best page s) where
  scan_is : (n : ℕ) → n ≡ limit_of b → plan_with (layouts.Standard b.order) true b.start n b.run ≡ scan_plan page s
  unfolding scan_plan
  scan_is n f =
      scan_counted page s b n f (subst (Counts page s) (sym e) (counts_scan page s))
      ∙ ap (λ (x : Best). counted page s (uncounted (layouts.Standard x.order) true x.start (limit_of x))) e

  pub scan_some : 1 ≤ b.run.count → Some (plan_with (layouts.Standard b.order) true b.start 512 b.run) ≡ with_columns (scan_plan page s)
  scan_some h = some_columns _ _ (scan_is 512 (rw (le-leb 1 b.run.count h) refl)) (λ z. omega arith)

-- no run, no columns
pub scan_none : (page : Page) (s : List ℕ) → no_run ≡ scan_best page s → None ≡ with_columns (scan_plan page s)
scan_none page s e = no_columns _ _ (scan_is page s no_run e 0 refl) refl

-- ---- the last reader

module _ (page : Page) (s : List ℕ) where
  pub last_empty : length s ≡ 0 → Err EmptyReply ≡ last_plan page s
  unfolding last_plan
  last_empty h = rw (eq-eqb (length s) 0 h) refl

  module _ (p : ℕ) (h : length s ≡ 0 → ⊥) (f : p ≡ count_at s) where
    pub last_early : length s < p → Err (BufferTooShort p (length s)) ≡ last_plan page s
    unfolding last_plan
    last_early g = rw (ne_eqb (length s) 0 h, ← f, lt-ltb (length s) p g) refl

    pub last_none : p ≤ length s → length s < p + 2 → Ok empty_plan ≡ last_plan page s
    unfolding last_plan
    last_none g i = rw (ne_eqb (length s) 0 h, ← f, le-ltb (length s) p g, lt-ltb (length s) (p + 2) i) refl

    pub last_is : (r : Plan) (q n : ℕ) (x : Run) → p + 2 ≤ length s → q ≡ last_count_at s → n ≡ number LittleEndian 2 s q
        → x ≡ compact_run page ends.Last s n (q + 2) → r ≡ plan_with (layouts.Compact ends.Last) false (q + 2) n x → Ok r ≡ last_plan page s
    unfolding last_plan counted columns_of walk_of compact_run
    last_is r q n x g i j k l =
        ap (λ (y : Plan). Ok y) (l ∙ ap (plan_with (layouts.Compact ends.Last) false (q + 2) n) k)
        ∙ rw (ne_eqb (length s) 0 h, ← f, le-ltb (length s) p (omega arith), le-ltb (length s) (p + 2) g, ← i, ← j) refl
