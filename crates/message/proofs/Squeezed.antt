-- What one character more tells of a squeezed text: the laws that the loops over a message's bytes go by.
use mathlib.Core.Path.{◌≡◌, refl, ap, ◌∙◌}
use mathlib.Core.Bool.{Bool, true, false}
use mathlib.Core.List.{List, [], ◌∷◌, ◌++◌, map}
use Prim.Native.Nat.{ℕ, suc, ◌+◌, ◌<◌, ◌≤◌}
use native.Mathlib.Nat.{zero-add, add-zero}
use native.Mathlib.Omega.{arith}
use lib.ListN.{length, get_or, drop, set, length-append, drop_of_length-le}
use lib.Seq.{sets, sets-eq}
use Rattle.search.specs.Search.{pick}
use Rattle.search.proofs.Each.{drop_next}
use Rattle.codepage.specs.Blank.{is_blank}
use Rattle.message.specs.Squeezed.{after, is_gap, added, squeezed}
use Rattle.search.specs.Search.{over}
use Rattle.message.specs.declared.Behind.{Behind}
use Rattle.message.specs.declared.Behind.TheVariants.{Nothing, Character, Blanks}

-- ---- what a character adds

pub added_length : (b : Behind) (c : ℕ) → length (added b c) ≡ pick (is_blank c) 0 (pick (is_gap b) 2 1)
unfolding added
added_length b c = go (is_blank c) (is_gap b)
  where
    go : (t u : Bool) → length (pick t [] (pick u (0x20 ∷ c ∷ []) (c ∷ []))) ≡ pick t 0 (pick u 2 1)
    go true u = refl
    go false true = refl
    go false false = refl

-- a gap that is still to be written is the one character more that there can be
pub squeezed_short : (b : Behind) (cs : List ℕ) → length (squeezed b cs) ≤ length cs + pick (is_gap b) 1 0
squeezed_short b [] = omega arith
squeezed_short b (c ∷ cs) =
    omega (
      arith,
      length-append (added b c) (squeezed (after (is_blank c) b) cs),
      added_length b c,
      go (is_blank c) b,
      squeezed_short (after (is_blank c) b) cs,
    )
  where
    go : (t : Bool) (b : Behind) → pick {A = ℕ} t 0 (pick (is_gap b) 2 1) + pick (is_gap (after t b)) 1 0 ≤ 1 + pick (is_gap b) 1 0
    go true Nothing = omega arith
    go true Character = omega arith
    go true Blanks = omega arith
    go false Nothing = omega arith
    go false Character = omega arith
    go false Blanks = omega arith

-- ---- a loop over the bytes bs, f being the character of a byte

-- what the bytes from i on give
abbrev pub left : (ℕ → ℕ) → List ℕ → Behind → ℕ → List ℕ
left f bs behind i = squeezed behind (map f (drop i bs))

module _ (f : ℕ → ℕ) (bs : List ℕ) (behind : Behind) (i : ℕ) where
  pub left_more : i < length bs → left f bs behind i ≡ added behind (f (get_or bs i 0)) ++ left f bs (after (is_blank (f (get_or bs i 0))) behind) (i + 1)
  left_more h = ap (λ (l : List ℕ). squeezed behind (map f l)) (drop_next bs i 0 h)

  pub left_none : length bs ≤ i → left f bs behind i ≡ []
  left_none h = ap (λ (l : List ℕ). squeezed behind (map f l)) (drop_of_length-le bs h)

  pub left_length : i < length bs → length (left f bs behind i) ≡ length (added behind (f (get_or bs i 0))) + length (left f bs (after (is_blank (f (get_or bs i 0))) behind) (i + 1))
  left_length h = ap length (left_more h) ∙ length-append (added behind (f (get_or bs i 0))) (left f bs (after (is_blank (f (get_or bs i 0))) behind) (i + 1))

-- ---- writing it

-- values written one list behind the other
pub sets_append : (xs ys b : List ℕ) (k : ℕ) → sets b k (xs ++ ys) ≡ sets (sets b k xs) (k + length xs) ys
sets_append [] ys b k = rw (add-zero k) refl
sets_append (x ∷ xs) ys b k =
    let e : suc k + length xs ≡ k + length (x ∷ xs) = omega arith in
    sets_append xs ys (set b k x) (suc k) ∙ ap (λ (j : ℕ). sets (sets (set b k x) (suc k) xs) j ys) e

-- from the front on, they stand over the front
pub sets_over : (xs b : List ℕ) → length xs ≤ length b → sets b 0 xs ≡ over xs b
sets_over xs b h = sets-eq xs b 0 (omega arith) ∙ rw (zero-add (length xs)) refl
