-- SQLCODE, SQLSTATE and SQLERRPROC of a reply that starts with a SQLCAGRP (DRDA V1: SQLCAGRP; 01, Layouts and SQLCODE).
-- By bytes: flag 0; SQLCODE 1 to 4; SQLSTATE 5 to 9; SQLERRPROC 10 to 17; SQLCAXGRP's flag 18, its six numbers 19 to 42, its eleven
-- warnings 43 to 53, and its three strings from 54 on.
use Rattle.std.specs.Prelude.{Bool, not, ◌&&◌, List, map, ℕ, leb, eqb, ℤ, nat_abs, take, drop}
use Rattle.search.specs.Search.{pick, each}
use Rattle.codepage.specs.Page.{Page, char_in}
use Rattle.text.specs.Chars.{is_ascii}
use Rattle.field.specs.declared.ByteOrder.{ByteOrder}
use Rattle.field.specs.declared.ByteOrder.TheVariants.{BigEndian, LittleEndian}
use Rattle.field.specs.Numbers.{number, signed}
use Rattle.message.specs.Message.{is_printable}

-- 32 bits whose number is within ±100,000 (01, SQLCODE)
unfoldable pub is_near : ℕ → Bool
is_near bits = leb (nat_abs (signed bits)) 100000

-- the four bytes behind the group's flag, read in a byte order (DRDA V1, SQLCAGRP: SQLCODE)
abbrev pub code_bits : ByteOrder → List ℕ → ℕ
code_bits order s = number order 4 s 1

-- the byte order that is within ±100,000; both or neither, LE (01, SQLCODE)
unfoldable pub code_order : List ℕ → ByteOrder
code_order s = pick (is_near (code_bits BigEndian s) && not (is_near (code_bits LittleEndian s))) BigEndian LittleEndian

-- the code in that order (DRDA V1, SQLCAGRP: SQLCODE; 01, SQLCODE)
unfoldable pub code_of : List ℕ → ℤ
code_of s = signed (code_bits (code_order s) s)

-- the five bytes behind it (DRDA V1, SQLCAGRP: SQLSTATE)
abbrev pub state_bytes : List ℕ → List ℕ
state_bytes s = take 5 (drop 5 s)

-- the eight bytes behind those (DRDA V1, SQLCAGRP: SQLERRPROC)
abbrev pub proc_bytes : List ℕ → List ℕ
proc_bytes s = take 8 (drop 10 s)

-- the six numbers follow the code's order; if both orders give the code, LE exactly when the state bytes are all below 80 (01, SQLCODE)
unfoldable pub numbers_order : List ℕ → ByteOrder
numbers_order s =
    pick (eqb (code_bits BigEndian s) (code_bits LittleEndian s)) (pick (is_ascii (state_bytes s)) LittleEndian BigEndian) (code_order s)

-- state and proc: ASCII if all their bytes are 20 to 7E, else of the page, untrimmed (01, Answers)
unfoldable pub fixed_chars : Page → List ℕ → List ℕ
fixed_chars page bs = pick (each is_printable bs) bs (map (char_in page) bs)
