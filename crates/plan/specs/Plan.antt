-- The plan: which reading wins, from where and how many columns, so that who fills the list cannot fail (01, Choice).
use Rattle.std.specs.Prelude.{Bool, true, false, List, [], ◌∷◌, map, ◌≡◌, ℕ, ◌+◌, ltb, leb, eqb, length, Option, Some, None, Result, Ok, Err}
use Rattle.search.specs.Search.{pick, first_in}
use Rattle.codepage.specs.Page.{Page}
use Rattle.field.specs.declared.ByteOrder.{ByteOrder}
use Rattle.field.specs.declared.ByteOrder.TheVariants.{BigEndian, LittleEndian}
use Rattle.field.specs.Numbers.{number}
use Rattle.outcome.specs.declared.Refusal.{Refusal}
use Rattle.outcome.specs.declared.Refusal.TheVariants.{EmptyReply, BufferTooShort}
use Rattle.outcome.specs.Refusal.{refusal_of}
use Rattle.column.specs.declared.Run.{Run}
use Rattle.column.specs.Column.{has_names, named_in, run_of}
use Rattle.descriptor.specs.Reading.{count_at, count_in, gives}
use Rattle.compact.specs.declared.Ends.TheVariants as ends
use Rattle.compact_table.specs.Table.{table_of}
use Rattle.scan.specs.Scan.{scan_best, limit_of}
use Rattle.planned.specs.declared.Layout.{Layout}
use Rattle.planned.specs.declared.Layout.TheVariants as layouts
use Rattle.planned.specs.declared.Plan.{Plan}
use Rattle.planned.specs.Planned.{columns_of}
use Rattle.plan.specs.declared.Attempt.{Attempt}
use Rattle.plan.specs.declared.Attempt.TheVariants.{Standard, Compact, Scan}
use Rattle.plan.specs.Choice.{Reading, reads, refuses, has_columns, last_count_at}

-- the reading that a plan stands for, or one that is refused (01, Choice)
unfoldable pub reading_of : Page → List ℕ → Result Plan Refusal → Reading
reading_of page s (Ok p) = reads p.alone (columns_of page s p)
reading_of page s (Err refusal) = refuses (refusal_of refusal)

-- a plan of at most n descriptors from p on, with how many columns it has and how many of them are named, as a run of descriptors says (01, Choice)
abbrev pub plan_with : Layout → Bool → ℕ → ℕ → Run → Plan
plan_with layout alone p n run = record { layout = layout; alone = alone; start = p; limit = n; run = run }

-- the same, not counted yet (01, Layouts)
abbrev pub uncounted : Layout → Bool → ℕ → ℕ → Plan
uncounted layout alone p n = plan_with layout alone p n (record { count = 0; named = 0 })

-- the plan of a reply without a count for the last reader, which has no columns (01, Layouts)
abbrev pub empty_plan : Plan
empty_plan = uncounted (layouts.Compact ends.Last) false 0 0

-- counted: with how many columns it stands for, and how many of them have names (01, Choice)
unfoldable pub counted : Page → List ℕ → Plan → Plan
counted page s p = plan_with p.layout p.alone p.start p.limit (run_of page s (columns_of page s p))

-- a plan says how many columns it stands for, and how many of them have names (01, Choice)
pub record Counted (page : Page) (s : List ℕ) (p : Plan) : Type 0 where
  pub count : p.run.count ≡ length (columns_of page s p)
  pub named : p.run.named ≡ named_in page s (columns_of page s p)

-- a plan, if it has columns (01, Choice: the first non-empty list)
abbrev pub with_columns : Plan → Option Plan
with_columns p = pick (leb 1 p.run.count) (Some p) None

-- the standard reading: all its descriptors, or nothing (01, Choice: standard BE, standard LE)
unfoldable pub standard_plan : Page → ByteOrder → List ℕ → Plan
standard_plan page order s =
    counted page s (uncounted (layouts.Standard order) false (pick (gives order s) (count_at s + 2) 0) (pick (gives order s) (count_in order s) 0))

-- the compact reading (01, Choice: compact)
unfoldable pub compact_plan : Page → List ℕ → Plan
compact_plan page s = counted page s (uncounted (layouts.Compact ends.Compact) true (table_of s).start (table_of s).count)

-- the scan's best run (01, Choice: scan)
unfoldable pub scan_plan : Page → List ℕ → Plan
scan_plan page s = counted page s (uncounted (layouts.Standard (scan_best page s).order) true (scan_best page s).start (limit_of (scan_best page s)))

-- the last reader (01, Choice; 01, Numbers of refusal: 1 empty, 2 ends early)
unfoldable pub last_plan : Page → List ℕ → Result Plan Refusal
last_plan page s =
    pick (eqb (length s) 0) (Err EmptyReply)
    (pick (ltb (length s) (count_at s)) (Err (BufferTooShort (count_at s) (length s)))
    (pick (ltb (length s) (count_at s + 2)) (Ok empty_plan)
    (Ok (counted page s (uncounted (layouts.Compact ends.Last) false (last_count_at s + 2) (number LittleEndian 2 s (last_count_at s)))))))

-- the plan of each of the four readings (01, Choice)
abbrev pub tried : Page → List ℕ → Attempt → Plan
tried page s (Standard order) = standard_plan page order s
tried page s Compact = compact_plan page s
tried page s Scan = scan_plan page s

-- the four in their order (01, Choice: standard BE, compact, standard LE, scan)
abbrev pub attempts : List Attempt
attempts = Standard BigEndian ∷ Compact ∷ Standard LittleEndian ∷ Scan ∷ []

-- their plans, none of them refused (01, Choice)
abbrev pub plans : Page → List ℕ → List (Result Plan Refusal)
plans page s = map (λ a. Ok (tried page s a)) attempts

-- the choice among them, as among the readings (01, Choice)
unfoldable pub plan_of : Page → List ℕ → Result Plan Refusal
plan_of page s =
    first_in (λ p. has_names page s (reading_of page s p).columns) (plans page s)
    (first_in (λ p. has_columns (reading_of page s p).columns) (plans page s) (last_plan page s))
