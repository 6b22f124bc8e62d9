-- Lists of columns as readings make them: a caller may lend others.
use Rattle.std.specs.Prelude.{◌≡◌, List, [], ◌∷◌, ℕ, suc, ◌+◌}
use Rattle.search.specs.Search.{pick}
use Rattle.types.specs.declared.ColumnMetadata.{ColumnMetadata}
use Rattle.sqlda.specs.Types.{code_of}

-- column i: it has this number, and its type's code, 1 more where it is nullable (01, Answers: number; Types and lengths: code)
pub record ConsistentColumn (i : ℕ) (c : ColumnMetadata) : Type 0 where
  pub numbered : c.number ≡ i
  pub coded : c.drda_type ≡ code_of c.db2_type + pick c.nullable 1 0

-- columns that are so, numbered from i on in their order (01, Answers: number)
unfoldable pub ConsistentFrom : ℕ → List ColumnMetadata → Type 0
ConsistentFrom i [] = Unit {0}
ConsistentFrom i (c ∷ l) = ConsistentColumn i c × ConsistentFrom (suc i) l

-- the whole list is so (01, Answers: number, 16 bits, from 0)
abbrev pub Consistent : List ColumnMetadata → Type 0
Consistent l = ConsistentFrom 0 l
