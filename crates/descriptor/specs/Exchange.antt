-- One column's description exchanged for another (01, What each entry owes (e)).
use Rattle.std.specs.Prelude.{List, [], ◌∷◌, ◌++◌, map, ℕ, zero, suc, take, drop}
use Rattle.field.specs.declared.ByteOrder.{ByteOrder}
use Rattle.descriptor.specs.Reading.{start_of}

-- the reply s with d in place of its bytes from a to e: all bytes before and after them stay (01, What each entry owes (e))
unfoldable pub splice : List ℕ → ℕ → ℕ → List ℕ → List ℕ
splice s a e d = take a s ++ (d ++ drop e s)

-- the reply s with d in place of the description of column k: the bytes that its descriptor takes there (01, What each entry owes (e))
unfoldable pub with_column : ByteOrder → List ℕ → ℕ → List ℕ → List ℕ
with_column order s k d = splice s (start_of order s k) (start_of order s (suc k)) d

-- the list with x in place of its element k, and f of those after it (01, What each entry owes (e))
unfoldable pub exchange : {A : Type 0} → ℕ → A → (A → A) → List A → List A
exchange k x f [] = []
exchange zero x f (y ∷ ys) = x ∷ map f ys
exchange (suc k) x f (y ∷ ys) = y ∷ exchange k x f ys
