-- A list that is filled from any iterator: what it has given by then stands in the list's front, and what lies past that is untouched.
use Prim.Native.Nat.{ℕ, suc, ◌+◌, ◌-◌, ◌*◌, ◌≤◌, ◌<◌}
use native.Mathlib.Omega.{arith}
use mathlib.Core.Path.{◌≡◌, refl, sym, ap, ◌∙◌}
use mathlib.Core.List.{List, [], ◌∷◌, map-id, ◌++◌, append_assoc, append-nil, flat_map}
use lib.ListN.{length, take, drop, length-append, length-drop}
use lib.Seq.{take_all, drop-drop}
use native.Mathlib.Nat.{suc-mul, mul-le-mul_right}
use Rattle.std.specs.Prelude.{Option, Some, None}
use Rattle.std.specs.Iterator.{Yields, Drains, YieldsFirst}
use Rattle.std.proofs.lemmas.List.{drop_all}
use Rattle.std.proofs.iter.Next.{Yields-more}
use Rattle.std.proofs.iter.Yields.{gives_Drains}
use Rattle.std.proofs.lemmas.Iterator.Consumers.{YieldsList-from_first}
use Rattle.search.specs.Search.{over}
use Rattle.search.proofs.Writing.{Writing, writing_start, writing_end}

module _ {S T A : Type 0} (steps : S → Option T → S → Type 0) (whole : List T → List A) where
  -- the calls from s₀ gave some items, and led to s; l is what l₀ has become, with all that is written for them in its first i places
  pub record Filling (s₀ s : S) (l₀ l : List A) (i : ℕ) : Type 0 where
    pub seen : List T
    pub gave : Yields steps s₀ seen s
    pub counts : length (whole seen) ≡ i
    pub writing : Writing l₀ l [] (whole seen) i

  pub filling_start : (s : S) (l : List A) → whole [] ≡ [] → Filling s s l l 0
  filling_start s l e = record { seen = []; gave = refl; counts = ap length e; writing = rw e (writing_start l []) }

  pub filling_next : {s₀ s : S} {l₀ l : List A} {i : ℕ} (x : T) (t : S) (b l' : List A) (n : ℕ)
      → ((xs : List T) → whole (xs ++ x ∷ []) ≡ whole xs ++ b) → length b ≡ n
      → ((w : List A) → Writing l₀ l (b ++ []) w i → Writing l₀ l' [] w (i + n)) → steps s (Some x) t → Filling s₀ s l₀ l i → Filling s₀ t l₀ l' (i + n)
  filling_next {s₀} {s} {l₀} {l} {i} x t b l' n more e store y f =
      let w = f.writing in
      let ahead : Writing l₀ l (b ++ []) (whole (f.seen ++ x ∷ [])) i =
      record {
        done = rw (append-nil b, more f.seen) (ap (λ (k : List A). k ++ b) (sym (append-nil _) ∙ w.done));
        rest = w.rest;
        as_long = w.as_long;
      } in
      record {
        seen = f.seen ++ x ∷ [];
        gave = Yields-more steps s₀ f.seen s x t f.gave y;
        counts = omega (arith, ap length (more f.seen), length-append (whole f.seen) b, f.counts, e);
        writing = store _ ahead;
      }

  pub filling_end : {s₀ s : S} {l₀ l : List A} {i : ℕ} (t : S) → steps s None t → Filling s₀ s l₀ l i
      → (all : List T) × Drains steps s₀ all × (l ≡ over (whole all) l₀)
  filling_end {l₀ = l₀} t y f =
      (f.seen, (t, (_, f.gave, y)), writing_end f.writing ∙ ap (λ (n : ℕ). whole f.seen ++ drop n l₀) (sym f.counts))

-- a block is stored over the front of all that lies from i on
pub stored_block : {A : Type 0} (l b ys : List A) (i n : ℕ) → length b ≡ n → i ≤ length l → ys ≡ over b (take (length l - i) (drop i l))
    → take i l ++ (ys ++ drop (length l - i) (drop i l)) ≡ take i l ++ (b ++ drop (i + n) l)
stored_block l b ys i n e h f =
    let long : length (drop i l) ≤ length l - i = omega (arith, length-drop i l) in
    rw (f, take_all _ (drop i l) long, drop_all _ (drop i l) long, append-nil (over b (drop i l)), e, drop-drop n i l) refl

-- with less than m still to come, in blocks of n, there is room for the next block and for those behind it
pub room_left : (at k m n r : ℕ) → k < m → at + m * n ≤ r → (at + n ≤ r) × (at + n + k * n ≤ r)
room_left at k m n r h fits =
    let all : suc k * n ≤ m * n = mul-le-mul_right n h in
    (omega (arith, suc-mul k n, all, fits), omega (arith, suc-mul k n, all, fits))

pub flat_more : {T A : Type 0} (f : T → List A) (x : T) (xs : List T) → flat_map f (xs ++ x ∷ []) ≡ flat_map f xs ++ f x
unfolding flat_map
flat_more f x [] = append-nil (f x)
flat_more f x (y ∷ ys) = ap (λ k. f y ++ k) (flat_more f x ys) ∙ sym (append_assoc (f y) (flat_map f ys) (f x))

-- an iterator that says what it has left gives just that
pub drained : {S A : Type 0} (rest : S → List A) (s : S) (all : List A) → Drains (YieldsFirst rest) s all → all ≡ rest s
drained rest s all d =
    sym (map-id all) ∙ gives_Drains (YieldsFirst rest) (λ x. x) all (rest s) s (YieldsList-from_first (λ x. x) rest (rest s) refl).runs d

pub filled_left : {S T A : Type 0} (rest : S → List T) (whole : List T → List A) (s : S) (l₀ l : List A) (xs : List T)
    → ((all : List T) × Drains (YieldsFirst rest) s all × (l ≡ over (whole all) l₀)) → rest s ≡ xs → l ≡ over (whole xs) l₀
filled_left rest whole s l₀ l xs f e = rw (← e, ← drained rest s f.0 f.1) f.2
