-- The base types of the table rise, so a search by halves finds the row that a search of each finds.
use mathlib.Core.Path.{◌≡◌, refl, sym}
use mathlib.Core.Bool.{Bool, true, ◌&&◌}
use mathlib.Core.List.{List, [], ◌∷◌}
use mathlib.Core.Logic.{inl, inr}
use Prim.Native.Nat.{ℕ, zero, suc, ◌<◌, ◌≤◌}
use native.Mathlib.Omega.{arith}
use lib.Dec.{T, eqb, ltb, ltb→lt}
use lib.ListN.{length, get_or}
use borrow.Author.Tests.{eq-eqb, ne_eqb}
use Rattle.std.specs.Ordering.{nat_cmp, ordering_index}
use Rattle.std.specs.List.{HoldsAt}
use Rattle.std.specs.List.Sorted.{IsNonDecreasingBy, IsPartitionPoint}
use Rattle.std.specs.declared.cmp.Ordering.TheVariants.{Less, Equal, Greater}
use Rattle.std.proofs.lemmas.Cmp.{ranked}
use Rattle.std.proofs.lemmas.List.Sorted.{IsNonDecreasingBy-from_default}
use Rattle.std.proofs.lemmas.Bool.{cases_lt}
use Rattle.std.proofs.lemmas.Bool.Decides.{nat_tests}
use Rattle.search.specs.Search.{first_in}
use Rattle.search.proofs.Tests.{and_left, and_right}
use Rattle.types.specs.declared.TypeRow.{TypeRow}
use Rattle.types.specs.Rows.{type_rows, unknown_row, lookup}

-- the base types are above n, each above the one before it
abbrev pub rise : ℕ → List TypeRow → Bool
rise n [] = true
rise n (r ∷ l) = ltb n r.base && rise r.base l

pub rows_rise : T (rise 0 type_rows)
unfolding type_rows
rows_rise = tt

above : (n : ℕ) (l : List TypeRow) → T (rise n l) → (i : ℕ) (d : TypeRow) → i < length l → n < (get_or l i d).base
above n [] t i d h = absurd (omega arith)
above n (r ∷ l) t zero d h = ltb→lt n r.base (and_left (ltb n r.base) (rise r.base l) t)
above n (r ∷ l) t (suc i) d h =
    omega (
      arith,
      ltb→lt n r.base (and_left (ltb n r.base) (rise r.base l) t),
      above r.base l (and_right (ltb n r.base) (rise r.base l) t) i d (omega arith),
    )

in_order : (n : ℕ) (l : List TypeRow) → T (rise n l) → (i j : ℕ) (d : TypeRow) → i ≤ j → j < length l → (get_or l i d).base ≤ (get_or l j d).base
in_order n [] t i j d e h = absurd (omega arith)
in_order n (r ∷ l) t zero zero d e h = omega arith
in_order n (r ∷ l) t (suc i) zero d e h = absurd (omega arith)
in_order n (r ∷ l) t zero (suc j) d e h = omega (arith, above r.base l (and_right (ltb n r.base) (rise r.base l) t) j d (omega arith))
in_order n (r ∷ l) t (suc i) (suc j) d e h = in_order r.base l (and_right (ltb n r.base) (rise r.base l) t) i j d (omega arith) (omega arith)

module _ (b : ℕ) (u : TypeRow) where
  found : (n : ℕ) (l : List TypeRow) → T (rise n l) → (i : ℕ) (d : TypeRow) → i < length l → (get_or l i d).base ≡ b
      → get_or l i d ≡ first_in (λ (r : TypeRow). eqb r.base b) l u
  found n [] t i d h e = absurd (omega arith)
  found n (r ∷ l) t zero d h e = rw (eq-eqb r.base b e) refl
  found n (r ∷ l) t (suc i) d h e =
      let rest = and_right (ltb n r.base) (rise r.base l) t in
      rw (ne_eqb r.base b (λ x. omega (arith, above r.base l rest i d (omega arith), e, x))) (found r.base l rest i d (omega arith) e)

  missing : (l : List TypeRow) → ((i : ℕ) → i < length l → (get_or l i u).base ≡ b → ⊥) → first_in (λ (r : TypeRow). eqb r.base b) l u ≡ u
  missing [] h = refl
  missing (r ∷ l) h = rw (ne_eqb r.base b (h 0 (omega arith))) (missing l (λ i k. h (suc i) (omega arith)))

-- what a search by halves says, at a base type that it finds and at one that it does not
module _ (b : ℕ) where
  pub row_found : (at : ℕ) (d : TypeRow) → at < length type_rows → HoldsAt (λ (r : TypeRow). nat_cmp r.base b ≡ Equal) type_rows at
      → (get_or type_rows at d ≡ lookup b) × (0 < (get_or type_rows at d).base)
  unfolding lookup
  row_found at d h equal =
      (found b unknown_row 0 type_rows rows_rise at d h (ranked _ b _ (sym (equal d))), above 0 type_rows rows_rise at d h)

  rises : IsNonDecreasingBy (λ (r : TypeRow). ordering_index (nat_cmp r.base b)) type_rows
  rises = IsNonDecreasingBy-from_default (λ (r : TypeRow). ordering_index (nat_cmp r.base b)) type_rows unknown_row (λ i j e h.
      let k = in_order 0 type_rows rows_rise i j unknown_row e h in grind (arith, nat_tests))

  pub row_missing : (at : ℕ) → at ≤ length type_rows
      → (IsNonDecreasingBy (λ (r : TypeRow). ordering_index (nat_cmp r.base b)) type_rows
      → IsPartitionPoint (λ (r : TypeRow). nat_cmp r.base b ≡ Less) (λ (r : TypeRow). nat_cmp r.base b ≡ Greater) type_rows at)
      → lookup b ≡ unknown_row
  unfolding lookup
  row_missing at h parted = missing b unknown_row type_rows (λ i k e. elim (cases_lt i at) [
    | inl below ↦ omega (arith, e, ranked _ b _ (sym ((parted rises).0 i unknown_row (omega arith) below)))
    | inr from ↦ omega (arith, e, ranked _ b _ (sym ((parted rises).1 i unknown_row from k)))
  ])
