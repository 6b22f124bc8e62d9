-- What is written for each item where that is a block of elements.
use Rattle.std.specs.Prelude.{◌≡◌, ◌≤◌, ℕ, List, length}
use denote.Ref.{MutBor}
use Rattle.search.specs.Search.{over}

-- a closure may be called at any item where there is room for its block (01, Answers)
abbrev pub Accepts : {T A : Type 0} → ℕ → (T → MutBor (List A) → Type 0) → Type 0
Accepts {T} {A} width pre = (item : T) (list : MutBor (List A)) → width ≤ length list.now → pre item list

-- it writes each item's block over the front of what it gets (01, Answers)
pub record Puts {T A : Type 0} (width : ℕ) (post : T → MutBor (List A) → Unit {0} → MutBor (List A) → Type 0) (blocks : T → List A) : Type 0 where
  pub widths : (item : T) → length (blocks item) ≡ width
  pub puts : (item : T) (old new : MutBor (List A)) → post item old tt new → new.now ≡ over (blocks item) old.now
