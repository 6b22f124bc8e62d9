-- The first of a list of alternatives that passes a test.
use mathlib.Core.Path.{◌≡◌, refl}
use mathlib.Core.List.{List, [], ◌∷◌, map}
use mathlib.Core.Bool.{Bool, true, false}
use Rattle.search.specs.Search.{pick, first_in}

-- a view of the alternatives chooses as they do, if the test goes by the view
pub first_in_view : {X Y : Type 0} (v : X → Y) (f : X → Bool) (g : Y → Bool) → ((x : X) → f x ≡ g (v x)) → (xs : List X) (x : X)
    → v (first_in f xs x) ≡ first_in g (map v xs) (v x)
first_in_view v f g h [] x = refl
first_in_view v f g h (y ∷ ys) x = rw (← h y) (go (f y) (first_in_view v f g h ys x))
  where
    go : (b : Bool) → v (first_in f ys x) ≡ first_in g (map v ys) (v x) → v (pick b y (first_in f ys x)) ≡ pick b (v y) (first_in g (map v ys) (v x))
    go true r = refl
    go false r = r

-- what holds of each alternative and of the default holds of the first
pub data Each {X : Type 0} (P : X → Type 0) : List X → Type 0 where
  each_none : Each P []
  each_more : {x : X} {xs : List X} → P x → Each P xs → Each P (x ∷ xs)

pub first_in_all : {X : Type 0} (P : X → Type 0) (f : X → Bool) {xs : List X} (x : X) → Each P xs → P x → P (first_in f xs x)
first_in_all P f x each_none q = q
first_in_all P f x (each_more {x = y} {xs = ys} p ps) q = go (f y) p (first_in_all P f x ps q)
  where
    go : (b : Bool) → P y → P (first_in f ys x) → P (pick b y (first_in f ys x))
    go true u v = u
    go false u v = v
