-- Which of the three lists is taken: a law for each way out of the plan, and what a plan gives.
use mathlib.Core.Path.{◌≡◌, refl, sym, ap, ◌∙◌}
use mathlib.Core.Bool.{Bool, true, false, false≢true, and-eq-true_iff, ◌&&◌}
use mathlib.Core.List.{List, []}
use Prim.Native.Nat.{ℕ, zero, suc, ◌+◌, ◌-◌, ◌≤◌, ◌<◌}
use native.Mathlib.Numerals.{add-one}
use native.Mathlib.Omega.{arith}
use lib.Dec.{ltb, leb}
use lib.ListN.{length, take}
use lib.Seq.{take_all}
use borrow.Author.Tests.{lt-ltb, le-ltb, le-leb, lt-leb, leb-true, leb-false, ltb-true, ltb-false}
use Rattle.std.proofs.Common.{Option, Some, None}
use Rattle.std.specs.Iterator.{YieldsFirst}
use Rattle.search.specs.Search.{pick}
use Rattle.codepage.specs.Page.{Page, page037}
use Rattle.text.specs.declared.Text.{Text}
use Rattle.candidates.specs.declared.View.{View}
use Rattle.candidates.specs.Candidates.{candidates}
use Rattle.candidates.specs.View.{reply_of, in_view}
use Rattle.listing.specs.declared.Rule.{Rule}
use Rattle.listing.specs.declared.Rule.TheVariants.{Returning, BeforeFirst}
use Rattle.listing.specs.declared.Listed.{Listed}
use Rattle.listing.specs.Listing.{listed_by, to_come}
use Rattle.name_run.specs.declared.NameRun.{NameRun}
use Rattle.name_run.specs.declared.RunNames.{RunNames}
use Rattle.name_run.specs.Run.{longest_name_run, names_of_run, names_left}
use Rattle.name_run.proofs.Runs.{longest_counted}
use Rattle.names.specs.declared.Source.TheVariants.{Candidates, Layouts}
use Rattle.names.specs.Names.{chosen_names, column_names}
use Rattle.names.specs.declared.Source.{Source}
use Rattle.names.specs.declared.Plan.{Plan}
use Rattle.names.specs.Decision.{names_of, names_of_plan, IsPlanOf}

-- ---- one name of a plan

take_none : (k : ℕ) → take {A = Text} k [] ≡ []
take_none zero = refl
take_none (suc k) = refl

pub plan_next : (p : Plan) (s : Source) (k : ℕ) (r : Option Text) → 1 ≤ p.count → k ≡ p.count - 1 → YieldsFirst names_of p.source r s
    → YieldsFirst names_of_plan p r (record { source = s; count = k })
plan_next p s k None i j h = let e : p.count ≡ k + 1 = omega arith in (rw (e, add-one k, h.0) refl, rw h.1 (take_none k))
plan_next p s k (Some x) i j h = let e : p.count ≡ k + 1 = omega arith in rw (e, add-one k, h) refl

-- ---- the choice

module _ (a b run : List Text) where
  pub chosen_second : 2 ≤ length b → length a < length b → b ≡ chosen_names a b run
  unfolding chosen_names
  chosen_second h k = go (leb 2 (length a)) refl
    where
      go : (t : Bool) → leb 2 (length a) ≡ t → b
          ≡ pick (ltb (length (pick (leb 2 (length a)) a [])) (length (pick (leb 2 (length b)) b []))) (pick (leb 2 (length b)) b [])
          (pick (leb 1 (length (pick (leb 2 (length a)) a []))) (pick (leb 2 (length a)) a []) run)
      go true e = rw (e, le-leb 2 (length b) h, lt-ltb (length a) (length b) k) refl
      go false e = rw (e, le-leb 2 (length b) h, lt-ltb 0 (length b) (omega arith)) refl

  pub chosen_first : 2 ≤ length a → (2 ≤ length b → length b ≤ length a) → a ≡ chosen_names a b run
  unfolding chosen_names
  chosen_first h k = go (leb 2 (length b)) refl
    where
      go : (t : Bool) → leb 2 (length b) ≡ t → a
          ≡ pick (ltb (length (pick (leb 2 (length a)) a [])) (length (pick (leb 2 (length b)) b []))) (pick (leb 2 (length b)) b [])
          (pick (leb 1 (length (pick (leb 2 (length a)) a []))) (pick (leb 2 (length a)) a []) run)
      go true e =
          rw (e, le-leb 2 (length a) h, le-ltb (length a) (length b) (k (leb-true 2 (length b) e)), le-leb 1 (length a) (omega arith)) refl
      go false e = rw (e, le-leb 2 (length a) h, le-ltb (length a) 0 (omega arith), le-leb 1 (length a) (omega arith)) refl

  pub chosen_run : length a < 2 → length b < 2 → run ≡ chosen_names a b run
  unfolding chosen_names
  chosen_run h k = rw (lt-leb 2 (length a) h, lt-leb 2 (length b) k) refl

module _ (page : Page) (s : List ℕ) (r b : ℕ) (u : r ≡ length (listed_by s Returning)) (v : b ≡ length (listed_by s BeforeFirst)) where
  pub names_second : leb 2 b && ltb r b ≡ true → listed_by s BeforeFirst ≡ column_names page s
  unfolding column_names
  names_second t =
      let w = (and-eq-true_iff (leb 2 b) (ltb r b)).0 t in
      chosen_second (listed_by s Returning) (listed_by s BeforeFirst) (names_of_run page s (longest_name_run page s))
      (omega (arith, leb-true 2 b w.0, v)) (omega (arith, ltb-true r b w.1, u, v))

  module _ (t : leb 2 b && ltb r b ≡ false) where
    -- the second list is not taken
    not_second : 2 ≤ b → b ≤ r
    not_second h = go (ltb r b) refl
      where
        go : (c : Bool) → ltb r b ≡ c → b ≤ r
        go false i = ltb-false r b i
        go true i = absurd (false≢true (sym (rw (le-leb 2 b h, i) at t)))

    pub names_first : 2 ≤ r → listed_by s Returning ≡ column_names page s
    unfolding column_names
    names_first k =
        chosen_first (listed_by s Returning) (listed_by s BeforeFirst) (names_of_run page s (longest_name_run page s)) (omega (arith, k, u))
        (λ j. omega (arith, not_second (omega (arith, j, v)), u, v))

    pub names_run : r < 2 → names_of_run page s (longest_name_run page s) ≡ column_names page s
    unfolding column_names
    names_run k =
        chosen_run (listed_by s Returning) (listed_by s BeforeFirst) (names_of_run page s (longest_name_run page s)) (omega (arith, k, u))
        (let few : b < 2 = go (leb 2 b) refl in omega (arith, few, v))
      where
        go : (c : Bool) → leb 2 b ≡ c → b < 2
        go false j = leb-false 2 b j
        go true j = let w = not_second (leb-true 2 b j) in omega arith

-- ---- the plan

all_of : (l : List Text) (n : ℕ) → n ≡ length l → take n l ≡ l
all_of l n e = take_all n l (omega (arith, e))

-- all that a rule lists, from the view v of the reply's first candidates on
pub plan_listed : (s : List ℕ) (v : View) (rule : Rule) (l : Listed) (n : ℕ) (names : List Text) → in_view v ≡ candidates s → reply_of v ≡ s
    → (in_view v ≡ candidates (reply_of v) → to_come l ≡ listed_by (reply_of v) rule) → n ≡ length (listed_by s rule) → listed_by s rule ≡ names
    → IsPlanOf (record { source = Candidates l; count = n }) names
plan_listed s v rule l n names e f g h k =
    let z : to_come l ≡ listed_by s rule = g (e ∙ ap candidates (sym f)) ∙ ap (λ (x : List ℕ). listed_by x rule) f in
    record { gives = ap (take n) z ∙ all_of (listed_by s rule) n h ∙ k; counts = h ∙ ap length k }

-- the names of the longest run
pub plan_run : (s : List ℕ) (run : NameRun) (r : RunNames) → run ≡ longest_name_run page037 s
    → (run.count ≡ length (names_of_run page037 s run) → names_left r ≡ names_of_run page037 s run)
    → names_of_run page037 s (longest_name_run page037 s) ≡ column_names page037 s
    → IsPlanOf (record { source = Layouts r; count = run.count }) (column_names page037 s)
plan_run s run r e f g =
    let h : run.count ≡ length (names_of_run page037 s run) = rw e (longest_counted page037 s).0 in
    let z : names_of_run page037 s run ≡ column_names page037 s = rw e g in
    record { gives = ap (take run.count) (f h) ∙ all_of (names_of_run page037 s run) run.count h ∙ z; counts = h ∙ ap length z }
