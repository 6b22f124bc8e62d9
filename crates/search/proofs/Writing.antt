-- The loop that stores elements of a list in order, one or a block of them a turn, for any list: `Writing` is its invariant. The first i of l
-- are stored, `todo` comes after them, `whole` is the two together, and from i on l is as l₀ was.
use Prim.Native.Nat.{ℕ, ◌+◌, ◌*◌, ◌<◌, ◌≤◌}
use native.Mathlib.Nat.{zero-mul, suc-mul}
use native.Mathlib.Numerals.{add-one}
use native.Mathlib.Omega.{arith}
use mathlib.Core.Path.{◌≡◌, refl, sym, ◌∙◌, ap}
use mathlib.Core.List.{List, [], ◌∷◌, ◌++◌, append_assoc, append-nil, flat_map}
use lib.ListN.{length, drop, take, set, length-append, length-drop, take-append-drop}
use lib.Seq.{set_split, take_at, drop_at, drop-drop, length-take-le}

module _ {A : Type 0} where
  pub record Writing (l₀ l todo whole : List A) (i : ℕ) : Type 0 where
    pub done : take i l ++ todo ≡ whole
    pub rest : drop i l ≡ drop i l₀
    pub as_long : length l ≡ length l₀

  pub writing_start : (l₀ whole : List A) → Writing l₀ l₀ whole whole 0
  writing_start l₀ whole = record { done = refl; rest = refl; as_long = refl }

  -- a block of what comes, n elements, is stored from i on
  pub writing_block : {l₀ l todo whole : List A} {i : ℕ} (b l' : List A) (n : ℕ) → length b ≡ n → i + n ≤ length l
      → l' ≡ take i l ++ (b ++ drop (i + n) l) → Writing l₀ l (b ++ todo) whole i → Writing l₀ l' todo whole (i + n)
  writing_block {l₀} {l} {todo} {whole} {i} b l' n e h f w =
      let front : List A = take i l ++ b in
      let back : List A = drop (i + n) l in
      let split : l' ≡ front ++ back = f ∙ sym (append_assoc (take i l) b back) in
      let k : length front ≡ i + n = omega (arith, length-append (take i l) b, length-take-le i l (omega arith), e) in
      record {
        done = ap (λ (x : List A). take (i + n) x ++ todo) split ∙ rw (take_at front back (i + n) k, append_assoc (take i l) b todo) w.done;
        rest = ap (drop (i + n)) split ∙ drop_at front back (i + n) k ∙ sym (drop-drop n i l) ∙ ap (drop n) w.rest ∙ drop-drop n i l₀;
        as_long = ap length split ∙ omega (arith, length-append front back, length-drop (i + n) l, w.as_long, k);
      }

  -- one element, the first of what comes, is stored at i
  pub writing_next : {l₀ l todo whole : List A} {i : ℕ} (a : A) → i < length l → Writing l₀ l (a ∷ todo) whole i → Writing l₀ (set l i a) todo whole (i + 1)
  writing_next {l₀} {l} {todo} {whole} {i} a h w =
      writing_block (a ∷ []) (set l i a) 1 refl (omega arith) (rw (add-one i) (set_split l i a h)) w

  -- nothing is left to come
  pub writing_end : {l₀ l whole : List A} {i : ℕ} → Writing l₀ l [] whole i → l ≡ whole ++ drop i l₀
  writing_end {l₀} {l} {whole} {i} w =
      sym (take-append-drop i l) ∙ ap (λ (x : List A). x ++ drop i l) (sym (append-nil (take i l)) ∙ w.done) ∙ ap (λ (x : List A). whole ++ x) w.rest

-- blocks of n elements, one for each of a list, are n times as many
pub blocks_length : {A B : Type 0} (f : A → List B) (n : ℕ) → ((a : A) → length (f a) ≡ n) → (l : List A) → length (flat_map f l) ≡ length l * n
unfolding flat_map
blocks_length f n h [] = sym (zero-mul n)
blocks_length f n h (a ∷ l) =
    omega (arith, length-append (f a) (flat_map f l), h a, blocks_length f n h l, suc-mul (length l) n)
