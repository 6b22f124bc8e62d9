-- The choice among plans is the choice among readings.
use mathlib.Core.Path.{◌≡◌, refl, sym, ap, subst, ◌∙◌}
use mathlib.Core.Bool.{Bool, true, false}
use mathlib.Core.List.{List, [], ◌∷◌, map}
use Prim.Native.Nat.{ℕ, ◌+◌, ◌≤◌, ◌<◌}
use native.Mathlib.Numerals.{add-one}
use native.Mathlib.Omega.{arith}
use lib.Dec.{leb, ltb, eqb}
use lib.ListN.{length, drop, get_or}
use lib.Seq.{drop-cons}
use borrow.Author.Tests.{le-leb, lt-leb}
use Rattle.std.specs.Prelude.{Option, Some, None, Result, Ok, Err, IfOk}
use Rattle.std.specs.Option.{option_or}
use Rattle.search.specs.Search.{pick, first_in}
use Rattle.search.specs.Walks.{chain}
use Rattle.search.proofs.Alternatives.{first_in_view, Each, each_none, each_more, first_in_all}
use Rattle.codepage.specs.Page.{Page}
use Rattle.field.specs.declared.ByteOrder.{ByteOrder}
use Rattle.field.specs.declared.ByteOrder.TheVariants.{BigEndian, LittleEndian}
use Rattle.field.specs.Numbers.{number}
use Rattle.outcome.specs.declared.Refusal.{Refusal}
use Rattle.outcome.specs.declared.Refusal.TheVariants.{EmptyReply, BufferTooShort}
use Rattle.types.specs.declared.ColumnMetadata.{ColumnMetadata}
use Rattle.column.specs.Column.{has_names}
use Rattle.descriptor.specs.Reading.{standard, count_at}
use Rattle.compact.specs.declared.Ends.TheVariants as ends
use Rattle.planned.specs.declared.Plan.{Plan}
use Rattle.planned.specs.declared.Layout.TheVariants as layouts
use Rattle.plan.specs.declared.Attempt.{Attempt}
use Rattle.plan.specs.declared.Attempt.TheVariants.{Standard, Compact, Scan}
use Rattle.plan.specs.Choice.{Reading, reads, refuses, compact_columns, last_columns, last_reading, last_count_at, has_columns, four, choice}
use Rattle.scan.specs.Scan.{scan_columns}
use Rattle.planned.specs.Planned.{walk_of, columns_of}
use Rattle.plan.specs.Plan.{reading_of, uncounted, empty_plan, counted, Counted, with_columns, standard_plan, compact_plan, scan_plan, last_plan, tried, attempts, plans, plan_of}
use Rattle.plan.proofs.Standards.{standard_walk_is}

-- ---- a plan says what it stands for

module _ (page : Page) (s : List ℕ) where
  counted_is : (p : Plan) → Counted page s (counted page s p)
  unfolding counted columns_of walk_of
  counted_is p = record { count = refl; named = refl }

  counted_tried : (a : Attempt) → Counted page s (tried page s a)
  unfolding standard_plan compact_plan scan_plan
  counted_tried (Standard order) = counted_is _
  counted_tried Compact = counted_is _
  counted_tried Scan = counted_is _

  counted_none : Counted page s empty_plan
  unfolding columns_of chain
  counted_none = record { count = refl; named = refl }

  abbrev Says : Result Plan Refusal → Type 0
  Says r = IfOk r (Counted page s)

  counted_last : Says (last_plan page s)
  unfolding last_plan
  counted_last = go (eqb (length s) 0) (ltb (length s) (count_at s)) (ltb (length s) (count_at s + 2))
    where
      go : (x y z : Bool)
          → Says
          (pick x (Err EmptyReply)
          (pick y (Err (BufferTooShort (count_at s) (length s)))
          (pick z (Ok empty_plan)
          (Ok (counted page s (uncounted (layouts.Compact ends.Last) false (last_count_at s + 2) (number LittleEndian 2 s (last_count_at s))))))))
      go true y z = tt
      go false true z = tt
      go false false true = counted_none
      go false false false = counted_is _

  -- ---- the tests on a plan's numbers

  abbrev F : Result Plan Refusal → Bool
  F r = has_names page s (reading_of page s r).columns

  abbrev G : Result Plan Refusal → Bool
  G r = has_columns (reading_of page s r).columns

  abbrev L : Result Plan Refusal
  L = last_plan page s

  counted_plan : Says (plan_of page s)
  unfolding plan_of
  counted_plan =
      let all : Each Says (plans page s) = each_more (counted_tried (Standard BigEndian)) (each_more (counted_tried Compact) (each_more (counted_tried (Standard LittleEndian)) (each_more (counted_tried Scan) each_none))) in
      first_in_all Says F (first_in G (plans page s) L) all (first_in_all Says G L all counted_last)

  pub plan_counted : (p : Plan) → Ok p ≡ plan_of page s → Counted page s p
  plan_counted p e = subst Says (sym e) counted_plan

  pub result_counted : (r : Result Plan Refusal) → r ≡ plan_of page s → IfOk r (Counted page s)
  result_counted r e = subst Says (sym e) counted_plan

  module _ (p : Plan) (c : Counted page s p) where
    named_yes : 1 ≤ p.run.named → F (Ok p) ≡ true
    unfolding has_names reading_of
    named_yes h = rw (← c.named) (le-leb 1 p.run.named h)

    named_no : p.run.named < 1 → F (Ok p) ≡ false
    unfolding has_names reading_of
    named_no h = rw (← c.named) (lt-leb 1 p.run.named h)

    some_is : G (Ok p) ≡ leb 1 p.run.count
    unfolding has_columns reading_of
    some_is = rw (← c.count) refl

  -- no columns, no names
  none_named : (l : List ColumnMetadata) → leb 1 (length l) ≡ false → has_names page s l ≡ false
  unfolding has_names
  none_named [] e = refl
  none_named (x ∷ l) e = absurd (let z : ◌≡◌ {A = Bool} true false = sym (le-leb 1 (length (x ∷ l)) (omega arith)) ∙ e in cc)

  -- ---- one attempt after the other: k is the first plan that has columns, if there was one, and xs are still to come

  abbrev kept_or : Option Plan → Result Plan Refusal → Result Plan Refusal
  kept_or (Some k) r = Ok k
  kept_or None r = r

  abbrev results : List Attempt → List (Result Plan Refusal)
  results xs = map (λ a. Ok (tried page s a)) xs

  abbrev pub undecided : Option Plan → List Attempt → Result Plan Refusal
  undecided k xs = first_in F (results xs) (kept_or k (first_in G (results xs) L))

  pub undecided_start : plan_of page s ≡ undecided None attempts
  unfolding plan_of
  undecided_start = refl

  passed : (k : Option Plan) (a : Attempt) (xs : List Attempt) → F (Ok (tried page s a)) ≡ false
      → undecided k (a ∷ xs) ≡ undecided (option_or k (with_columns (tried page s a))) xs
  passed (Some k) a xs e = rw e refl
  passed None a xs e = rw (e, some_is (tried page s a) (counted_tried a)) (go (leb 1 (tried page s a).run.count))
    where
      go : (b : Bool)
          → first_in F (results xs) (pick b (Ok (tried page s a)) (first_in G (results xs) L))
          ≡ undecided (pick b (Some (tried page s a)) None) xs
      go true = refl
      go false = refl

  -- attempt number i gives a plan or none
  module _ (k : Option Plan) (i : ℕ) (d : Attempt) (h : i < 4) (u : plan_of page s ≡ undecided k (drop i attempts)) where
    abbrev a : Attempt
    a = get_or attempts i d

    abbrev xs : List Attempt
    xs = drop (i + 1) attempts

    next : plan_of page s ≡ undecided k (a ∷ xs)
    next =
        let l : i < length attempts = omega arith in
        let e : drop i attempts ≡ a ∷ xs = rw (add-one, drop-cons attempts i d) refl in
        u ∙ ap (undecided k) e

    module _ (p : Plan) (e : Some p ≡ with_columns (tried page s a)) where
      same : p ≡ tried page s a
      same = go (leb 1 (tried page s a).run.count) e
        where
          go : (b : Bool) → Some p ≡ pick b (Some (tried page s a)) None → p ≡ tried page s a
          go true e = cc
          go false e = absurd (cc e)

      says : Counted page s p
      says = subst (Counted page s) (sym same) (counted_tried a)

      pub named_wins : 1 ≤ p.run.named → Ok p ≡ plan_of page s
      named_wins n =
          let f : F (Ok (tried page s a)) ≡ true = rw (← same) (named_yes p says n) in
          ap (λ (q : Plan). Ok q) same ∙ sym (next ∙ rw f refl)

      pub unnamed_waits : (1 ≤ p.run.named → ⊥) → (l : Option Plan) → l ≡ option_or k (Some p) → plan_of page s ≡ undecided l xs
      unnamed_waits n l g =
          let z : p.run.named < 1 = omega (arith, n) in
          let f : F (Ok (tried page s a)) ≡ false = rw (← same) (named_no p says z) in
          rw (g, e) (next ∙ passed k a xs f)

    pub none_waits : None ≡ with_columns (tried page s a) → (l : Option Plan) → l ≡ k → plan_of page s ≡ undecided l xs
    unfolding reading_of
    none_waits e l g =
        let c = counted_tried a in
        let f : F (Ok (tried page s a)) ≡ false = none_named (columns_of page s (tried page s a)) (rw (← c.count) (few (leb 1 (tried page s a).run.count) e)) in
        rw g (next ∙ (passed k a xs f ∙ rw (← e) (same k)))
      where
        few : (b : Bool) → None ≡ pick b (Some (tried page s a)) None → b ≡ false
        few true e = absurd (cc e)
        few false e = refl

        same : (k : Option Plan) → undecided (option_or k None) xs ≡ undecided k xs
        same (Some k) = refl
        same None = refl

  -- no attempt is left
  module _ (k : Option Plan) (i : ℕ) (h : 4 ≤ i) (l : i ≤ 4) (u : plan_of page s ≡ undecided k (drop i attempts)) where
    over : plan_of page s ≡ kept_or k (last_plan page s)
    over = let e : i ≡ 4 = omega arith in u ∙ ap (λ (j : ℕ). undecided k (drop j attempts)) e

    pub first_wins : (p : Plan) → k ≡ Some p → Ok p ≡ plan_of page s
    first_wins p e = sym (over ∙ ap (λ (j : Option Plan). kept_or j (last_plan page s)) e)

    pub last_wins : (r : Result Plan Refusal) → r ≡ last_plan page s → k ≡ None → r ≡ plan_of page s
    last_wins r f e = f ∙ sym (over ∙ ap (λ (j : Option Plan). kept_or j (last_plan page s)) e)

  -- ---- the plan stands for the reading that is chosen

  reads_standard : (order : ByteOrder) → reading_of page s (Ok (standard_plan page order s)) ≡ reads false (standard page order s)
  unfolding reading_of standard_plan counted columns_of walk_of
  reads_standard order = ap (reads false) (standard_walk_is page order s)

  reads_compact : reading_of page s (Ok (compact_plan page s)) ≡ reads true (compact_columns page s)
  unfolding reading_of compact_plan counted columns_of walk_of compact_columns
  reads_compact = refl

  reads_scan : reading_of page s (Ok (scan_plan page s)) ≡ reads true (scan_columns page s)
  unfolding reading_of scan_plan counted columns_of walk_of scan_columns
  reads_scan = refl

  reads_last : reading_of page s (last_plan page s) ≡ last_reading page s
  unfolding reading_of last_plan last_reading counted columns_of walk_of last_columns chain
  reads_last = go (eqb (length s) 0) (ltb (length s) (count_at s)) (ltb (length s) (count_at s + 2))
    where
      go : (x y z : Bool)
          → reading_of page s
          (pick x (Err EmptyReply)
          (pick y (Err (BufferTooShort (count_at s) (length s)))
          (pick z (Ok empty_plan)
          (Ok (counted page s (uncounted (layouts.Compact ends.Last) false (last_count_at s + 2) (number LittleEndian 2 s (last_count_at s))))))))
          ≡ pick x (refuses (1 ∷ []))
          (pick y (refuses (2 ∷ count_at s ∷ length s ∷ [])) (pick z (reads false []) (reads false (last_columns page s))))
      go true y z = refl
      go false true z = refl
      go false false true = refl
      go false false false = refl

  reads_plans : map (reading_of page s) (plans page s) ≡ four page s
  reads_plans = λ i. reads_standard BigEndian i ∷ reads_compact i ∷ reads_standard LittleEndian i ∷ reads_scan i ∷ []

  abbrev F' : Reading → Bool
  F' r = has_names page s r.columns

  abbrev G' : Reading → Bool
  G' r = has_columns r.columns

  pub plan_reads : reading_of page s (plan_of page s) ≡ choice page s
  unfolding plan_of choice
  plan_reads =
      first_in_view (reading_of page s) F F' (λ x. refl) (plans page s) (first_in G (plans page s) L)
      ∙ ap (first_in F' (map (reading_of page s) (plans page s))) (first_in_view (reading_of page s) G G' (λ x. refl) (plans page s) L)
      ∙ (λ i. first_in F' (reads_plans i) (first_in G' (reads_plans i) (reads_last i)))
