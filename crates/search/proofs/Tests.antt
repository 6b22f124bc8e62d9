-- What a test that was computed over a whole range or list says at one place of it, or of what was chosen or found.
use mathlib.Core.Path.{◌≡◌, refl, sym, subst}
use mathlib.Core.Bool.{Bool, true, false, ◌&&◌}
use mathlib.Core.List.{List, [], ◌∷◌}
use mathlib.Core.Logic.{⊎_elim}
use Prim.Native.Nat.{ℕ, zero, suc, ◌<◌}
use native.Mathlib.Nat.{le_of_suc-le-suc, not-suc-le-zero, eq-or-lt_of_le}
use lib.Dec.{T}
use lib.ListN.{length, get_or}
use Rattle.search.specs.Search.{pick, below, each, first_in}

pub and_left : (a b : Bool) → T (a && b) → T a
and_left true b t = tt
and_left false b t = t

pub and_right : (a b : Bool) → T (a && b) → T b
and_right true b t = t
and_right false b t = absurd t

-- two tests agree
abbrev pub agree : Bool → Bool → Bool
agree true b = b
agree false true = false
agree false false = true

pub agree_same : (a b : Bool) → T (agree a b) → a ≡ b
agree_same true true t = refl
agree_same true false t = absurd t
agree_same false true t = absurd t
agree_same false false t = refl

pub below_at : (n : ℕ) (f : ℕ → Bool) → T (below n f) → (c : ℕ) → c < n → T (f c)
below_at zero f t c h = absurd (not-suc-le-zero h)
below_at (suc n) f t c h =
    ⊎_elim (λ e. subst (λ (k : ℕ). T (f k)) (sym e) (and_left (f n) (below n f) t))
    (λ l. below_at n f (and_right (f n) (below n f) t) c l)
    (eq-or-lt_of_le (le_of_suc-le-suc h))

pub each_at : {A : Type 0} (f : A → Bool) (xs : List A) (d : A) → T (each f xs) → (k : ℕ) → k < length xs → T (f (get_or xs k d))
each_at f [] d t k h = absurd (not-suc-le-zero h)
each_at f (x ∷ xs) d t zero h = and_left (f x) (each f xs) t
each_at f (x ∷ xs) d t (suc k) h = each_at f xs d (and_right (f x) (each f xs) t) k (le_of_suc-le-suc h)

-- a test that both pass is passed by the one that is picked
pub pick_passes : {A : Type 0} (f : A → Bool) (b : Bool) (x y : A) → T (f x) → T (f y) → T (f (pick b x y))
pick_passes f true x y p q = p
pick_passes f false x y p q = q

-- a test that every element and the default pass is passed by what a search finds
pub found_passes : {A : Type 0} (f g : A → Bool) (l : List A) (d : A) → T (each f l) → T (f d) → T (f (first_in g l d))
found_passes f g [] d p q = q
found_passes f g (x ∷ xs) d p q =
    pick_passes f (g x) x (first_in g xs d) (and_left (f x) (each f xs) p)
    (found_passes f g xs d (and_right (f x) (each f xs) p) q)

-- a search that no element which passes a test can end finds none, if all pass it
pub first_in_none : {A : Type 0} (f g : A → Bool) (l : List A) (d : A) → T (each f l) → ((x : A) → T (f x) → g x ≡ false) → first_in g l d ≡ d
first_in_none f g [] d p h = refl
first_in_none f g (x ∷ xs) d p h =
    rw (h x (and_left (f x) (each f xs) p)) (first_in_none f g xs d (and_right (f x) (each f xs) p) h)
