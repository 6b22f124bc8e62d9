-- Columns whose texts are moved in the reply, and the bytes of a column's texts (01, What each entry owes (e)).
use Rattle.std.specs.Prelude.{List, [], ◌∷◌, ◌≡◌, ℕ, ◌+◌, ◌-◌, ◌≤◌, eqb}
use Rattle.search.specs.Search.{pick}
use Rattle.text.specs.declared.Text.{Text}
use Rattle.text.specs.Text.{text_is, bytes_of}
use Rattle.types.specs.declared.ColumnMetadata.{ColumnMetadata}

-- a text that has bytes, moved as far as from a to b; one that has none stays (01, What each entry owes (e): places of texts that have bytes)
unfoldable pub move_text : ℕ → ℕ → Text → Text
move_text a b t = pick (eqb t.length 0) t (text_is (t.place - a + b) t.length t.alphabet)

-- a column whose texts are so moved, and nothing else of it (01, What each entry owes (e))
unfoldable pub move_column : ℕ → ℕ → ColumnMetadata → ColumnMetadata
move_column a b c = record {
  number = c.number;
  db2_type = c.db2_type;
  drda_type = c.drda_type;
  length = c.length;
  nullable = c.nullable;
  precision = c.precision;
  scale = c.scale;
  ccsid = c.ccsid;
  byte_order = c.byte_order;
  name = move_text a b c.name;
  label = move_text a b c.label;
  base_table_name = move_text a b c.base_table_name;
  schema_name = move_text a b c.schema_name;
}

-- the bytes of a column's four texts (01, Answers: name, label, base table, schema)
unfoldable pub column_bytes : List ℕ → ColumnMetadata → List (List ℕ)
column_bytes s c =
    bytes_of s c.name ∷ bytes_of s c.label ∷ bytes_of s c.base_table_name ∷ bytes_of s c.schema_name ∷ []

-- a text's bytes, if it has any, lie from p on and up to q (01, What each entry owes (e): texts that have bytes)
pub record Lies (p q : ℕ) (t : Text) : Type 0 where
  pub from : (t.length ≡ 0 → ⊥) → p ≤ t.place
  pub to : t.place + t.length ≤ q

-- so do those of all four texts of a column (01, What each entry owes (e): its texts lie in the new reply)
pub record LiesAll (p q : ℕ) (c : ColumnMetadata) : Type 0 where
  pub name : Lies p q c.name
  pub label : Lies p q c.label
  pub base : Lies p q c.base_table_name
  pub schema : Lies p q c.schema_name
