-- How many names the entry name scan says it wrote.
use mathlib.Core.Path.{◌≡◌, sym}
use mathlib.Core.List.{List, []}
use Prim.Native.Nat.{ℕ}
use lib.ListN.{length}
use Rattle.std.proofs.Common.{MatchResult, Result, Ok, Err}
use Rattle.std.specs.Result.{result_unwrap_or}
use Rattle.outcome.specs.declared.Refusal.{Refusal}
use Rattle.text.specs.declared.Text.{Text}

pub scan_counted : (answer : Result ℕ Refusal) (names : List Text) → MatchResult answer (λ count. count ≡ length names) (λ refusal. names ≡ [])
    → result_unwrap_or answer 0 ≡ length names
scan_counted (Ok count) names g = g
scan_counted (Err refusal) names g = sym (λ i. length (g i))
