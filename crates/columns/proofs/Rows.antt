-- Consistent lists that are cut alike have the same widest row: what the width takes of a column is said by its code and its length.
-- And what T-02 made of the sum.
use mathlib.Core.Path.{◌≡◌, refl, sym, ◌∙◌}
use mathlib.Core.Bool.{Bool, true, false, false≢true, not, and-eq-true_iff}
use mathlib.Core.List.{List, [], ◌∷◌}
use Prim.Native.Nat.{ℕ, suc, ◌+◌, ◌*◌, ◌%◌}
use native.Mathlib.Omega.{arith}
use Rattle.search.specs.Search.{pick, alike}
use Rattle.search.proofs.Alike.{alike_length}
use Rattle.types.specs.declared.ColumnMetadata.{ColumnMetadata}
use Rattle.types.specs.declared.Db2Type.{Db2Type}
use Rattle.sqlda.specs.Types.{code_of}
use Rattle.widths.specs.Width.{is_large, is_graphic, value_width, column_width}
use Rattle.columns.specs.Cut.{coarse_column, same_cut}
use Rattle.columns.specs.Finer.{coarse_cut}
use Rattle.columns.specs.Row.{row_width, large_refusal, row_refusal, row_answer}
use Rattle.columns.specs.Graphic.{plain_width, graphic_lengths, has_no_graphic, Grown}
use Rattle.columns.specs.Consistent.{ConsistentColumn, ConsistentFrom, Consistent}
use Rattle.columns.proofs.Same.{Same, same_parts}
use Rattle.columns.proofs.Finer.{finer}

-- nullable is a code's last bit: a type's own code is even
even : (t : Db2Type) → code_of t % 2 ≡ 0
even Db2Type.SmallInt = refl
even Db2Type.Integer = refl
even Db2Type.BigInt = refl
even Db2Type.Real = refl
even Db2Type.Double = refl
even (Db2Type.Decimal p s) = refl
even (Db2Type.DecFloat n) = refl
even (Db2Type.Char n) = refl
even (Db2Type.VarChar n) = refl
even Db2Type.Clob = refl
even (Db2Type.Binary n) = refl
even (Db2Type.VarBinary n) = refl
even Db2Type.Blob = refl
even Db2Type.Date = refl
even Db2Type.Time = refl
even Db2Type.Timestamp = refl
even (Db2Type.Graphic n) = refl
even (Db2Type.VarGraphic n) = refl
even Db2Type.DbClob = refl
even (Db2Type.RowId n) = refl
even Db2Type.Boolean = refl
even Db2Type.Xml = refl

-- two even codes with what nullable adds: equal codes, equally nullable
parted : (m n : ℕ) (s t : Bool) → m % 2 ≡ 0 → n % 2 ≡ 0 → m + pick s 1 0 ≡ n + pick t 1 0 → (m ≡ n) × (s ≡ t)
parted m n true true d e h = (omega arith, refl)
parted m n true false d e h = absurd (omega arith)
parted m n false true d e h = absurd (omega arith)
parted m n false false d e h = (omega arith, refl)

-- ---- a column of each list

module _ (i : ℕ) (c d : ColumnMetadata) (p : ConsistentColumn i c) (q : ConsistentColumn i d) (s : Same c d) where
  codes : (code_of c.db2_type ≡ code_of d.db2_type) × (c.nullable ≡ d.nullable)
  codes =
      parted (code_of c.db2_type) (code_of d.db2_type) c.nullable d.nullable (even c.db2_type) (even d.db2_type)
      (sym p.coded ∙ s.code ∙ q.coded)

  -- a test of types goes by their code alone
  large_too : is_large c.db2_type ≡ is_large d.db2_type
  large_too = rw codes.0 refl

  width_too : column_width c ≡ column_width d
  unfolding column_width value_width
  width_too = rw (s.size, codes.1, codes.0) refl

-- ---- the lists

rows_too : (i : ℕ) (a b : List ColumnMetadata) → ConsistentFrom i a → ConsistentFrom i b → alike coarse_column a b ≡ true
    → (large_refusal a ≡ large_refusal b) × (row_width a ≡ row_width b)
unfolding ConsistentFrom large_refusal row_width
rows_too i [] [] p q e = (refl, refl)
rows_too i [] (d ∷ m) p q e = absurd (false≢true e)
rows_too i (c ∷ l) [] p q e = absurd (false≢true e)
rows_too i (c ∷ l) (d ∷ m) p q e =
    let both = (and-eq-true_iff (coarse_column c d) (alike coarse_column l m)).0 e in
    let s = same_parts c d both.0 in
    let r = rows_too (suc i) l m p.1 q.1 both.1 in (
      rw (large_too i c d p.0 q.0 s, r.0, p.0.numbered, q.0.numbered) refl,
      rw (width_too i c d p.0 q.0 s, r.1) refl,
    )

-- widest row refuses both with the same number and values, or answers the same of both: by the rule before T-05
pub coarse_cut_rows : (a b : List ColumnMetadata) → Consistent a → Consistent b → coarse_cut a b ≡ true
    → (row_refusal a ≡ row_refusal b) × (row_answer a ≡ row_answer b)
unfolding coarse_cut row_refusal row_answer
coarse_cut_rows a b p q e =
    let r = rows_too 0 a b p q e in
    let n = alike_length coarse_column a b e in
    (rw (n, r.0) refl, rw (n, r.0, r.1) refl)

-- and so by same cut, which implies it
pub same_cut_rows : (a b : List ColumnMetadata) → Consistent a → Consistent b → same_cut a b ≡ true
    → (row_refusal a ≡ row_refusal b) × (row_answer a ≡ row_answer b)
same_cut_rows a b p q e = coarse_cut_rows a b p q ((finer a b).implies e)

-- ---- the sum before T-02

twice : (b : Bool) (n : ℕ) → pick b (2 * n) n ≡ n + pick b n 0
twice true n = omega arith
twice false n = omega arith

grows : (l : List ColumnMetadata) → row_width l ≡ plain_width l + graphic_lengths l
unfolding row_width column_width value_width plain_width graphic_lengths
grows [] = refl
grows (c ∷ l) = omega (arith, grows l, twice (is_graphic c.db2_type) c.length)

none_once : (b : Bool) (n : ℕ) → not b ≡ true → pick b n 0 ≡ 0
none_once true n e = absurd (false≢true e)
none_once false n e = refl

none_graphic : (l : List ColumnMetadata) → has_no_graphic l ≡ true → graphic_lengths l ≡ 0
unfolding graphic_lengths
none_graphic [] e = refl
none_graphic (c ∷ l) e =
    let both = (and-eq-true_iff (not (is_graphic c.db2_type)) (has_no_graphic l)).0 e in
    omega (arith, none_once (is_graphic c.db2_type) c.length both.0, none_graphic l both.1)

answered : (l : List ColumnMetadata) → row_refusal l ≡ 0 ∷ [] → row_answer l ≡ row_width l
unfolding row_answer
answered l e = rw e refl

-- the old sum and the lengths of Graphic and VarGraphic columns
pub graphic_grows : (l : List ColumnMetadata) → Grown l
graphic_grows l =
    record {
      sum = grows l;
      kept = λ e. omega (arith, grows l, none_graphic l e);
      answer = λ e. answered l e ∙ grows l;
    }
