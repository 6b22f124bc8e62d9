-- A loop that writes a list over the front of another: take i t ++ drop i b is what stands there when i elements of t are written.
use mathlib.Core.Path.{◌≡◌, refl, sym, ap, ◌∙◌}
use mathlib.Core.List.{List, [], ◌∷◌, ◌++◌, append_assoc, append-nil, map}
use Prim.Native.Nat.{ℕ, zero, suc, ◌+◌, ◌≤◌, ◌<◌}
use native.Mathlib.Numerals.{add-one}
use native.Mathlib.Omega.{arith}
use lib.ListN.{length, get_or, take, drop, set, length-append, length-drop, length-map, drop_of_length-le}
use lib.Seq.{drop-cons, take-suc, set_at, length-take-le}
use Rattle.search.specs.Search.{over}

module _ {A : Type 0} (t b : List A) (i : ℕ) where
  -- one element more
  pub over_next : (d : A) → i < length t → i < length b → set (take i t ++ drop i b) i (get_or t i d) ≡ take (i + 1) t ++ drop (i + 1) b
  over_next d p q =
      rw (add-one i, drop-cons b i d q, take-suc t i d p, append_assoc (take i t) (get_or t i d ∷ []) (drop (suc i) b))
      (set_at (take i t) (get_or b i d) (drop (suc i) b) (get_or t i d) i (length-take-le i t (omega arith)))

  -- what is written over keeps its length
  pub over_length : i ≤ length t → i ≤ length b → length (take i t ++ drop i b) ≡ length b
  over_length p q = omega (arith, length-append (take i t) (drop i b), length-drop i b, length-take-le i t p)

module _ {A : Type 0} (t b : List A) where
  -- nothing is left of a list that is as long
  pub over_whole : length t ≡ length b → over t b ≡ t
  over_whole h =
      let z : length b ≤ length t = omega arith in
      rw (drop_of_length-le b z) (append-nil t)

-- an element of a list that was mapped
pub get_d_map : {A B : Type 0} (f : A → B) (l : List A) (i : ℕ) (d : A) (e : B) → i < length l → get_or (map f l) i e ≡ f (get_or l i d)
get_d_map f [] i d e h = absurd (omega arith)
get_d_map f (x ∷ xs) zero d e h = refl
get_d_map f (x ∷ xs) (suc i) d e h = get_d_map f xs i d e (omega arith)

-- a loop that maps l over the front of b: m stands there when i elements are written
abbrev pub Mapped : {A B : Type 0} → (A → B) → List A → List B → List B → ℕ → Type 0
Mapped f l b m i = (i ≤ length l) × (m ≡ take i (map f l) ++ drop i b)

module _ {A B : Type 0} (f : A → B) (l : List A) (b : List B) (h : length l ≤ length b) (m : List B) (i : ℕ) (v : Mapped f l b m i) where
  pub mapped_more : (x : B) (d : A) → i < length l → x ≡ f (get_or l i d) → Mapped f l b (set m i x) (i + 1)
  mapped_more x d g e =
      let n : length (map f l) ≡ length l = length-map l f in
      let y : x ≡ get_or (map f l) i x = e ∙ sym (get_d_map f l i d x g) in
      let z : set m i x ≡ set (take i (map f l) ++ drop i b) i (get_or (map f l) i x) =
      ap (λ (w : List B). set w i x) v.1 ∙ ap (set (take i (map f l) ++ drop i b) i) y in
      (omega arith, z ∙ over_next (map f l) b i x (omega arith) (omega arith))
