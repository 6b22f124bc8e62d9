-- The exchange theorem (01, What each entry owes (e)): in a reply whose standard BE reading gives columns, a complete BE description is put in
-- place of one column's own. `Exchangeable` is what is asked, `Exchanged` what the description entry then answers. Proved in proofs/Exchange.antt.
use Rattle.std.specs.Prelude.{true, List, [], ◌∷◌, map, ◌≡◌, ℕ, suc, ◌+◌, ◌-◌, ◌≤◌, ◌<◌, length}
use Rattle.std.proofs.Math.Option.{some}
use Rattle.std.proofs.Math.ListN.{get_elem?}
use Rattle.codepage.specs.Page.{Page}
use Rattle.field.specs.declared.ByteOrder.{ByteOrder}
use Rattle.field.specs.declared.ByteOrder.TheVariants.{BigEndian}
use Rattle.text.specs.declared.Text.{Text}
use Rattle.sqlcard.specs.Alone.{alone_card}
use Rattle.sqlcard.specs.Group.{group_bytes}
use Rattle.types.specs.declared.ColumnMetadata.{ColumnMetadata}
use Rattle.column.specs.Column.{has_names}
use Rattle.column.specs.Moved.{move_column, column_bytes, LiesAll}
use Rattle.descriptor.specs.Descriptor.{column_at, Complete}
use Rattle.descriptor.specs.Reading.{start_of, standard}
use Rattle.descriptor.specs.Exchange.{with_column, exchange}
use Rattle.plan.specs.Description.{description}

-- the description of column k in the reply s is so many bytes (01, What each entry owes (e): the bytes that its descriptor takes there)
abbrev pub old_bytes : ByteOrder → List ℕ → ℕ → ℕ
old_bytes order s k = start_of order s (suc k) - start_of order s k

-- t' is t moved by the difference, new − old bytes, which may be negative; a text without bytes stays (01, What each entry owes (e))
pub record Moved (old new : ℕ) (t t' : Text) : Type 0 where
  pub place : (t.length ≡ 0 → ⊥) → t'.place + old ≡ t.place + new
  pub none : t.length ≡ 0 → t' ≡ t
  pub length : t'.length ≡ t.length
  pub alphabet : t'.alphabet ≡ t.alphabet

-- c' is c with its texts so moved, and nothing else of it changed (01, What each entry owes (e))
pub record MovedColumn (old new : ℕ) (c c' : ColumnMetadata) : Type 0 where
  pub number : c'.number ≡ c.number
  pub type : c'.db2_type ≡ c.db2_type
  pub code : c'.drda_type ≡ c.drda_type
  pub length : c'.length ≡ c.length
  pub nullable : c'.nullable ≡ c.nullable
  pub precision : c'.precision ≡ c.precision
  pub scale : c'.scale ≡ c.scale
  pub ccsid : c'.ccsid ≡ c.ccsid
  pub order : c'.byte_order ≡ c.byte_order
  pub name : Moved old new c.name c'.name
  pub label : Moved old new c.label c'.label
  pub base : Moved old new c.base_table_name c'.base_table_name
  pub schema : Moved old new c.schema_name c'.schema_name

-- what d, read alone as one standard descriptor, gives under k, its texts that have bytes raised by the bytes before it (01, What each entry owes (e))
abbrev pub new_column : Page → ByteOrder → List ℕ → ℕ → List ℕ → ColumnMetadata
new_column page order s k d = move_column 0 (start_of order s k) (column_at page order k d 0)

-- a later column, its texts that have bytes moved as far as the bytes behind the description are (01, What each entry owes (e))
abbrev pub later_column : ByteOrder → List ℕ → ℕ → List ℕ → ColumnMetadata → ColumnMetadata
later_column order s k d = move_column (start_of order s (suc k)) (start_of order s k + length d)

-- the old reading's list with column k exchanged and the later ones moved (01, What each entry owes (e): the new list)
abbrev pub new_columns : Page → ByteOrder → List ℕ → ℕ → List ℕ → List ColumnMetadata
new_columns page order s k d = exchange k (new_column page order s k d) (later_column order s k d) (standard page order s)

-- what is asked of the reply s, the column's number k, the description d and the room that is lent (01, What each entry owes (e))
pub record Exchangeable (page : Page) (room : ℕ) (s : List ℕ) (k : ℕ) (d : List ℕ) : Type 0 where
  -- the standard BE reading of s gives columns, and k is the number of one
  pub column : k < length (standard page BigEndian s)
  -- d is a complete BE description
  pub complete : Complete BigEndian d
  -- the new reply is within 65,536 bytes
  pub within : length (with_column BigEndian s k d) ≤ 65536
  -- the list is long enough
  pub enough : length (standard page BigEndian s) ≤ room
  -- some name in the new list is other than COL and digits
  pub named : has_names page (with_column BigEndian s k d) (new_columns page BigEndian s k d) ≡ true

-- what a reading of the new reply gives, in either byte order; l is its list (01, What each entry owes (e))
pub record ReadExchanged (page : Page) (order : ByteOrder) (s : List ℕ) (k : ℕ) (d : List ℕ) (l : List ColumnMetadata) : Type 0 where
  -- its list is the old reading's with exactly that column exchanged
  pub columns : l ≡ new_columns page order s k d
  -- it is as long as before
  pub as_long : length l ≡ length (standard page order s)
  -- column k is what the new description says
  pub exchanged : get_elem? l k ≡ some (new_column page order s k d)
  -- the columns before it are the old ones
  pub earlier : (j : ℕ) → j < k → get_elem? l j ≡ get_elem? (standard page order s) j
  -- of those after it only places of texts that have bytes move, by the difference in bytes
  pub later : (j : ℕ) (c : ColumnMetadata) → k < j → get_elem? (standard page order s) j ≡ some c
      → (get_elem? l j ≡ some (later_column order s k d c)) × MovedColumn (old_bytes order s k) (length d) c (later_column order s k d c)
  -- the bytes of all texts are the old ones, with those of column k exchanged for those that d holds
  pub bytes : map (column_bytes (with_column order s k d)) l
      ≡ exchange k (column_bytes d (column_at page order k d 0)) (λ x. x) (map (column_bytes s) (standard page order s))
  -- all texts lie in the new reply
  pub inside : (j : ℕ) (c : ColumnMetadata) → get_elem? l j ≡ some c → LiesAll 0 (length (with_column order s k d)) c

-- what the description entry answers to the new reply (01, What each entry owes (e))
pub record Exchanged (page : Page) (room : ℕ) (s : List ℕ) (k : ℕ) (d : List ℕ) : Type 0 where
  -- it accepts the new reply
  pub accepts : (description page room (with_column BigEndian s k d)).refusal ≡ 0 ∷ []
  -- its list is the old reading's with exactly that column exchanged
  pub reads : ReadExchanged page BigEndian s k d (description page room (with_column BigEndian s k d)).columns
  -- the status record is the same: the one that the old group's own bytes give
  pub status : (description page room (with_column BigEndian s k d)).card ≡ alone_card page (group_bytes s)

-- of what a record holds: code, length, precision, scale and CCSID (01, Answers: a record holds)
abbrev pub attributes_of : ColumnMetadata → List ℕ
attributes_of c = c.drda_type ∷ c.length ∷ c.precision ∷ c.scale ∷ c.ccsid ∷ []
