-- Every candidate lies in the reply, and so do all that are in view.
use Rattle.std.proofs.Common.{arith, ◌≡◌, Bool, true, false, Option, Some, None, List, [], ◌∷◌, ℕ, zero, suc, ◌+◌, ◌-◌, leb, length, All, get_or, refl, ap, ◌∙◌, subst}
use Rattle.std.specs.Option.{ForSome}
use Rattle.std.proofs.lemmas.List.Elements.{All-cons}
use mathlib.Core.Bool.{and-eq-true_iff}
use borrow.Author.Tests.{leb-true}
use Rattle.search.specs.Search.{pick, front}
use Rattle.field.specs.declared.ByteOrder.TheVariants.{BigEndian}
use Rattle.field.specs.Numbers.{number}
use Rattle.text.specs.declared.Text.{Text}
use Rattle.candidates.specs.Candidates.{string_text_at, is_candidate, is_kept, candidates_in, candidates_from, candidates}
use Rattle.candidates.specs.View.{Candidate, next_candidate, shown, TextInside}
use Rattle.candidates.proofs.Steps.{candidates_next}

kept_inside : (s : List ℕ) (last : Option Text) (p : ℕ) → is_kept s last p ≡ true → TextInside s (string_text_at s p)
unfolding is_kept is_candidate
kept_inside s last p e =
    let n = number BigEndian 2 s p in
    let a = (and-eq-true_iff (is_candidate s p) _).0 e in
    let b = ((and-eq-true_iff (leb (p + 2) (length s)) _).0 a.0).1 in
    let c = ((and-eq-true_iff (leb 2 n) _).0 b).1 in
    leb-true (p + 2 + n) (length s) ((and-eq-true_iff (leb (p + 2 + n) (length s)) _).0 c).0

all_front : (P : Text → Type 0) (b : Bool) (x : Text) (l : List Text) → (b ≡ true → P x) → All P l → All P (front b x l)
all_front P true x l f r = All-cons P x l (f refl) r
all_front P false x l f r = r

all_inside : (s : List ℕ) (last : Option Text) (k p : ℕ) → All (TextInside s) (candidates_in s last k p)
unfolding candidates_in
all_inside s last zero p = λ k d h. absurd (omega arith)
all_inside s last (suc k) p =
    all_front (TextInside s) (is_kept s last p) (string_text_at s p) (candidates_in s (pick (is_kept s last p) (Some (string_text_at s p)) last) k (suc p))
    (kept_inside s last p) (all_inside s (pick (is_kept s last p) (Some (string_text_at s p)) last) k (suc p))

all_from_inside : (s : List ℕ) (last : Option Text) (p : ℕ) → All (TextInside s) (candidates_from s last p)
unfolding candidates_from
all_from_inside s last p = all_inside s last (length s - p) p

pub candidates_inside : (s : List ℕ) → All (TextInside s) (candidates s)
unfolding candidates
candidates_inside s = all_from_inside s None 0

-- and so does the next one
pub next_inside : (s u : List ℕ) (last r : Option Text) (p n : ℕ) → next_candidate u last p ≡ record { text = r; next = n } → u ≡ s → ForSome r (TextInside s)
next_inside s u last r p n e g t f =
    let k = candidates_next u last p ∙ ap (λ (c : Candidate). shown c.text (candidates_from u c.text c.next)) e in
    let l : candidates_from u last p ≡ t ∷ candidates_from u r n = k ∙ ap (λ (o : Option Text). shown o (candidates_from u r n)) f in
    subst (λ s. TextInside s t) g (subst (All (TextInside u)) l (all_from_inside u last p) 0 t (omega arith))

-- and what is in view, where the five do
pub five_inside : (s : List ℕ) (a b c d e : Option Text) → ForSome a (TextInside s) → ForSome b (TextInside s) → ForSome c (TextInside s)
    → ForSome d (TextInside s) → ForSome e (TextInside s) → (k : ℕ) → ForSome (get_or (a ∷ b ∷ c ∷ d ∷ e ∷ []) k None) (TextInside s)
five_inside s a b c d e f g h i j zero = f
five_inside s a b c d e f g h i j (suc zero) = g
five_inside s a b c d e f g h i j (suc (suc zero)) = h
five_inside s a b c d e f g h i j (suc (suc (suc zero))) = i
five_inside s a b c d e f g h i j (suc (suc (suc (suc zero)))) = j
five_inside s a b c d e f g h i j (suc (suc (suc (suc (suc k))))) = λ t l. absurd cc
