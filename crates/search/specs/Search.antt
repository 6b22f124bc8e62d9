-- Choosing, testing and searching: the words that the readers' definitions are made of. No document defines them; each is its own source.
use Rattle.std.specs.Prelude.{ℕ, zero, suc, ◌+◌, List, [], ◌∷◌, ◌++◌, Bool, true, false, ◌&&◌, length, drop}
use Rattle.std.specs.List.{list_all}

-- the first of two where the test holds, else the second
abbrev pub pick : {A : Type 0} → Bool → A → A → A
pick true x y = x
pick false x y = y

-- x in front of a list where the test holds, else the list alone
abbrev pub front : {A : Type 0} → Bool → A → List A → List A
front true x l = x ∷ l
front false x l = l

-- the test holds at every number below n
abbrev pub below : ℕ → (ℕ → Bool) → Bool
below zero f = true
below (suc n) f = f n && below n f

-- the test holds of every element
abbrev pub each : {A : Type 0} → (A → Bool) → List A → Bool
each f xs = list_all f xs

-- how many elements pass the test
abbrev pub count : {A : Type 0} → (A → Bool) → List A → ℕ
count f [] = 0
count f (x ∷ xs) = pick (f x) 1 0 + count f xs

-- the first element that passes the test, else d
abbrev pub first_in : {A : Type 0} → (A → Bool) → List A → A → A
first_in f [] d = d
first_in f (x ∷ xs) d = pick (f x) x (first_in f xs d)

-- two lists are equally long, and the test holds of each two elements at the same place
abbrev pub alike : {A : Type 0} → (A → A → Bool) → List A → List A → Bool
alike f [] [] = true
alike f [] (y ∷ ys) = false
alike f (x ∷ xs) [] = false
alike f (x ∷ xs) (y ∷ ys) = f x y && alike f xs ys

-- what is lent, once something is written over its front: what lies past that is untouched (01, Answers)
abbrev pub over : {A : Type 0} → List A → List A → List A
over front lent = front ++ drop (length front) lent
