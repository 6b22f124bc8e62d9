-- Where a name's part lies: the ways out of the entry name part, whose callee gives a number and the part's bytes.
use mathlib.Core.Path.{◌≡◌, refl, sym, ap, ◌∙◌}
use mathlib.Core.Bool.{Bool, true, false}
use mathlib.Core.List.{List, [], ◌∷◌}
use Prim.Native.Nat.{ℕ, zero, suc}
use native.Mathlib.Omega.{arith}
use lib.Dec.{eqb}
use lib.ListN.{take, drop}
use borrow.Author.Tests.{eq-eqb, ne_eqb}
use Rattle.search.specs.Search.{pick}
use Rattle.outcome.specs.declared.RefusalNumbers.{RefusalNumbers}
use Rattle.outcome.specs.declared.Refusal.{Refusal}
use Rattle.outcome.specs.Refusal.{refusal_in, is_refused, in_numbers}
use Rattle.std.proofs.Common.{IfOk, Result}
use Rattle.std.specs.Result.{result_unwrap_or}
use Rattle.entries.proofs.Answers.{value_of}
use Rattle.text.specs.declared.Text.{Text}
use Rattle.text.specs.Text.{bytes_of}
use Rattle.column_name.specs.Part.{part_refusal, part_of}
use Rattle.entries.specs.Part.{part_place, part_length}

-- as many as there are at the front are those at the front
take_counted : (n : ℕ) (l : List ℕ) → take (lib.ListN.length (take n l)) l ≡ take n l
take_counted zero l = refl
take_counted (suc n) [] = refl
take_counted (suc n) (x ∷ l) = ap (λ (r : List ℕ). x ∷ r) (take_counted n l)

module _ (s : List ℕ) (t : Text) where
  -- a part with bytes is the text's own
  own : (lib.ListN.length (part_of s t) ≡ 0 → ⊥) → part_of s t ≡ bytes_of s t
  unfolding part_of
  own h = go (is_refused (part_refusal s t)) (eqb t.alphabet 0) h
    where
      go : (a b : Bool) → (lib.ListN.length (pick a [] (pick b [] (bytes_of s t))) ≡ 0 → ⊥) → pick a [] (pick b [] (bytes_of s t)) ≡ bytes_of s t
      go true b k = absurd (k refl)
      go false true k = absurd (k refl)
      go false false k = refl

  -- a part that is given, or none where it is refused; f is what a reference points to
  pub part_given : {A : Type 0} (f : A → List ℕ) (answer : Result A Refusal) (none : A) → f none ≡ [] → refusal_in answer ≡ part_refusal s t
      → IfOk answer (λ part. f part ≡ part_of s t) → f (result_unwrap_or answer none) ≡ part_of s t
  unfolding part_of
  part_given f answer none z e g = value_of f answer (part_refusal s t) (part_of s t) none e (λ h. z ∙ rw h refl) g

  module _ (bytes : List ℕ) (f : bytes ≡ part_of s t) (r : RefusalNumbers) (refuses : r ≡ in_numbers (part_refusal s t)) where
    counts : lib.ListN.length bytes ≡ part_length s t
    unfolding part_length
    counts = ap lib.ListN.length f

    pub part_empty : lib.ListN.length bytes ≡ 0
        → (r ≡ in_numbers (part_refusal s t))
        × ((0 ≡ part_place s t) × ((lib.ListN.length bytes ≡ part_length s t) × (take (lib.ListN.length bytes) (drop 0 s) ≡ part_of s t)))
    unfolding part_place
    part_empty h =
        let z : part_length s t ≡ 0 = sym counts ∙ h in (
          refuses,
          (sym (rw (eq-eqb (part_length s t) 0 z) refl), (counts, rw h (none bytes h ∙ f))),
        )
      where
        none : (l : List ℕ) → lib.ListN.length l ≡ 0 → [] ≡ l
        none [] k = refl
        none (x ∷ l) k = absurd (omega arith)

    pub part_there : (lib.ListN.length bytes ≡ 0 → ⊥)
        → (r ≡ in_numbers (part_refusal s t))
        × ((t.place ≡ part_place s t) × ((lib.ListN.length bytes ≡ part_length s t) × (take (lib.ListN.length bytes) (drop t.place s) ≡ part_of s t)))
    unfolding part_place
    part_there h =
        let o : part_of s t ≡ bytes_of s t = own (λ z. h (ap lib.ListN.length f ∙ z)) in (
          refuses,
          (sym (rw (ne_eqb (part_length s t) 0 (λ z. h (counts ∙ z))) refl), (counts, rw (f, o) (take_counted t.length (drop t.place s)))),
        )
