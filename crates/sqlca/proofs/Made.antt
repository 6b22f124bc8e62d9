-- An array that `array::from_fn` makes: its elements by their indices.
use Rattle.std.proofs.Common.{◌≡◌, ℕ, zero, suc, ◌+◌, List, [], ◌∷◌, length, drop, refl, sym, ◌∙◌, arith, drop-cons, add-one, subst}
use Rattle.std.proofs.lemmas.List.{drop_all}
use Rattle.std.specs.Array.{IsFromFnResult, IsFromFnResultFrom}
use Rattle.std.specs.Fn.{Called}
use denote.Param.Members.{Mut}

-- the n values from index i on
abbrev pub values : {B : Type 0} → (ℕ → B) → ℕ → ℕ → List B
values v i zero = []
values v i (suc n) = v i ∷ values v (i + 1) n

module _ {F B : Type 0} (g : Mut F (ℕ × Unit {0}) B) (v : ℕ → B) (f : F) (same : (i : ℕ) (y : B) (f' : F) → Called g f (i, tt) y f' → (y ≡ v i) × (f' ≡ f)) where
  made_from : (ys : List B) (i n : ℕ) → i + n ≡ length ys → (h : F) → h ≡ f → IsFromFnResultFrom g h ys i n → drop i ys ≡ values v i n
  made_from ys i zero e h s m = drop_all i ys (omega arith)
  made_from ys i (suc n) e h s (q, y, at, call, rest) =
      let k = same i y q (subst (λ (p : F). Called g p (i, tt) y q) s call) in
      let r : drop (i + 1) ys ≡ values v (i + 1) n = made_from ys (i + 1) n (omega arith) q k.1 rest in
      drop-cons ys i y (omega arith) ∙ (rw (at.0, k.0, sym (add-one i), r) refl)

  -- a closure that calls leave as it is, and that gives v at each index
  pub from_fn_made : (ys : List B) (n : ℕ) → IsFromFnResult g f ys n → ys ≡ values v 0 n
  from_fn_made ys n m = made_from ys 0 n (omega (arith, m.long)) f refl m.each
