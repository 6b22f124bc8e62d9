-- What the rules list, candidate by candidate.
use mir.Val.{bool_byte}
use Rattle.std.proofs.Common.{◌≡◌, refl, sym, ap, ◌∙◌, Bool, true, false, Option, Some, None, List, [], ◌∷◌, ℕ, zero, suc, ◌+◌, ◌-◌, ◌≤◌, arith, length, slice_get}
use Rattle.search.specs.Search.{pick, front}
use Rattle.text.specs.declared.Text.{Text}
use Rattle.candidates.specs.declared.View.{View}
use Rattle.candidates.specs.Candidates.{string_text_at, is_kept, candidates_in, candidates_from, candidates}
use Rattle.candidates.specs.View.{shown, text_at, reply_of, behind, in_view}
use Rattle.listing.specs.declared.Rule.{Rule}
use Rattle.listing.specs.declared.Listing.{Listing}
use Rattle.listing.specs.Listing.{is_listed, after, unlisted, listed, listed_by, InsideListing}

-- ---- how many there are at most

front_few : (b : Bool) (x : Text) (l : List Text) → length (front b x l) ≤ suc (length l)
front_few true x l = omega arith
front_few false x l = omega arith

candidates_few : (s : List ℕ) (last : Option Text) (k p : ℕ) → length (candidates_in s last k p) ≤ k
unfolding candidates_in
candidates_few s last zero p = omega arith
candidates_few s last (suc k) p =
    omega (
      arith,
      front_few (is_kept s last p) (string_text_at s p) (candidates_in s (pick (is_kept s last p) (Some (string_text_at s p)) last) k (suc p)),
      candidates_few s (pick (is_kept s last p) (Some (string_text_at s p)) last) k (suc p),
    )

listed_few : (s : List ℕ) (rule : Rule) (z : Listing) (l : List Text) → length (listed s rule z l) ≤ length l
unfolding listed
listed_few s rule z [] = omega arith
listed_few s rule z (x ∷ l) =
    omega (
      arith,
      front_few (is_listed s rule z x l) x (listed s rule (after z x (is_listed s rule z x l)) l),
      listed_few s rule (after z x (is_listed s rule z x l)) l,
    )

-- no more names than bytes
pub listed_by_few : (s : List ℕ) (rule : Rule) → length (listed_by s rule) ≤ length s
unfolding listed_by candidates candidates_from
listed_by_few s rule =
    omega (arith, listed_few s rule (unlisted (slice_get (candidates s) 0)) (candidates s), candidates_few s None (length s - 0) 0)

-- ---- one candidate

-- n are listed before the view v, and with those from there on they are all
abbrev pub Counting : List ℕ → Rule → View → Listing → ℕ → Type 0
Counting s rule v z n = n + length (listed s rule z (in_view v)) ≡ length (listed_by s rule)

-- none is in view, or the first heads those behind it
pub in_view_none : (v : View) → text_at v 0 ≡ None → in_view v ≡ []
unfolding in_view
in_view_none v e = rw e refl

pub in_view_some : (v : View) (x : Text) → text_at v 0 ≡ Some x → in_view v ≡ x ∷ behind v
unfolding in_view
in_view_some v x e = rw e refl

pub first_in_view : (v : View) → text_at v 0 ≡ slice_get (in_view v) 0
unfolding in_view
first_in_view v = go (text_at v 0)
  where
    go : (r : Option Text) → r ≡ slice_get (shown r (behind v)) 0
    go None = refl
    go (Some x) = refl

module _ (s : List ℕ) (rule : Rule) (z : Listing) where
  pub listed_none : listed s rule z [] ≡ []
  unfolding listed
  listed_none = refl

  pub listed_yes : (x : Text) (l : List Text) → is_listed s rule z x l ≡ true → listed s rule z (x ∷ l) ≡ x ∷ listed s rule (after z x true) l
  unfolding listed
  listed_yes x l e = rw e refl

  pub listed_no : (x : Text) (l : List Text) → is_listed s rule z x l ≡ false → listed s rule z (x ∷ l) ≡ listed s rule (after z x false) l
  unfolding listed
  listed_no x l e = rw e refl

-- what a rule knows behind the first candidate in view lies in the reply
pub inside_after : (v : View) (r : List ℕ) (z z' : Listing) (x : Text) (b : Bool)
    → InsideListing (reply_of v) z → text_at v 0 ≡ Some x → z' ≡ after z x b → r ≡ reply_of v → InsideListing r z'
unfolding after
inside_after v r z z' x b h e f g = rw (g, f) (go b)
  where
    go : (b : Bool) → InsideListing (reply_of v) (after z x b)
    go true = record { first = h.first; last = λ t k. v.within 0 t (e ∙ k) }
    go false = record { first = h.first; last = h.last }

-- n are listed before the view v, and where none is in view these are all
pub counting_done : (s : List ℕ) (rule : Rule) (v : View) (z : Listing) (n : ℕ) → Counting s rule v z n → text_at v 0 ≡ None → n ≡ length (listed_by s rule)
unfolding listed
counting_done s rule v z n c e = omega (arith, c, ap (λ (l : List Text). length (listed s rule z l)) (in_view_none v e))

-- n are listed before the view v, m in all: behind its first candidate x, which is listed if b says so, k more are
pub counting_more : (s r : List ℕ) (rule : Rule) (z z' : Listing) (v : View) (x : Text) (l : List Text) (b : Bool) (n k m : ℕ)
    → n + length (listed s rule z (in_view v)) ≡ m → r ≡ s → text_at v 0 ≡ Some x → b ≡ is_listed r rule z x (behind v) → z' ≡ after z x b → k ≡ bool_byte b
    → l ≡ behind v → n + k + length (listed s rule z' l) ≡ m
unfolding listed
counting_more s r rule z z' v x l b n k m e f g h i j o = rw (j, i, o) (go b (h ∙ ap (λ t. is_listed t rule z x (behind v)) f) (rw (in_view_some v x g) at e))
  where
    go : (b : Bool) → b ≡ is_listed s rule z x (behind v) → n + length (listed s rule z (x ∷ behind v)) ≡ m
        → n + bool_byte b + length (listed s rule (after z x b) (behind v)) ≡ m
    go true p q = let t = ap length (listed_yes s rule z x (behind v) (sym p)) in omega (arith, q, t)
    go false p q = let t = ap length (listed_no s rule z x (behind v) (sym p)) in omega (arith, q, t)
