-- What the cells of numbers in a row hold, with the column's record: describe writes "a table of its columns" for people to read.
use Rattle.std.specs.Prelude.{Bool, ◌||◌, List, [], ◌∷◌, ◌++◌, ℕ, ◌/◌, ◌%◌, eqb}
use Rattle.search.specs.Search.{pick}
use Rattle.decimal.specs.Decimal.{decimal_of}
use Rattle.types.specs.declared.ColumnMetadata.{ColumnMetadata}
use Rattle.types.specs.declared.Db2Type.{Db2Type}
use Rattle.sqlda.specs.Types.{code_of}
use Rattle.sqlda.specs.Codes.{value_of}
use Rattle.line.specs.Line.{padded}

-- the codes of types that have one value: DecFloat, Char, VarChar, Graphic, VarGraphic, Binary, VarBinary, RowId (01, Types and lengths)
abbrev pub is_sized : ℕ → Bool
is_sized code =
    eqb code 0xBA || (eqb code 0x30 || (eqb code 0x32 || (eqb code 0x3C || (eqb code 0x3E || (eqb code 0x60 || (eqb code 0x62 || eqb code 0x1E))))))

-- text in brackets (describe: "Char(10)")
abbrev pub in_brackets : List ℕ → List ℕ
in_brackets text = (0x28 ∷ []) ++ (text ++ (0x29 ∷ []))

-- precision and scale of a value that holds both, in brackets (01, Types and lengths; describe: "Decimal(5,1)")
abbrev pub precision_text : ℕ → List ℕ
precision_text value = in_brackets (decimal_of (value / 256) ++ ((0x2C ∷ []) ++ decimal_of (value % 256)))

-- what a type says besides its name: precision and scale, a length or digits, or nothing (01, Types and lengths)
unfoldable pub values_text : ℕ → ℕ → List ℕ
values_text code value =
    pick (eqb code 0x0C) (precision_text value) (pick (is_sized code) (in_brackets (decimal_of value)) [])

-- a type's name, whose letters are given, with what it says besides (01, Types and lengths)
abbrev pub type_text : List ℕ → Db2Type → List ℕ
type_text letters t = letters ++ values_text (code_of t) (value_of t)

-- yes or no (describe: "nullable")
abbrev pub yes_or_no : Bool → List ℕ
yes_or_no holds = pick holds (0x79 ∷ 0x65 ∷ 0x73 ∷ []) (0x6E ∷ 0x6F ∷ [])

-- the first cell of a row: the column's number (01, Answers: a record)
abbrev pub number_cell : ColumnMetadata → List ℕ
number_cell c = padded 6 (decimal_of c.number)

-- the cells from the type to the CCSID: type, length, nullable, CCSID (01, Answers: a record)
unfoldable pub cells_of : List ℕ → ℕ → ColumnMetadata → List ℕ
cells_of letters width c =
    padded width (type_text letters c.db2_type)
    ++ (padded 6 (decimal_of c.length) ++ (padded 8 (yes_or_no c.nullable) ++ padded 5 (decimal_of c.ccsid)))
