-- The lettered cases of document 01, A to L, and that they all hold; proved in proofs/Cases.antt.
use Rattle.std.specs.Prelude.{◌≡◌, List, [], ◌∷◌, map, ℕ, ℤ, pos, negsuc}
use Prim.Native.String.{String}
use Rattle.text.specs.Text.{text_is}
use Rattle.types.specs.declared.ColumnMetadata.{ColumnMetadata}
use Rattle.sqlcard.specs.Card.{success_card}
use Rattle.plan.specs.Description.{Description, refused_with}
use Rattle.cases.specs.Replies.{reply_a, reply_b, reply_c, reply_d, column_a, column_b, column_c, column_d}
use Rattle.cases.specs.Questions.{Question, Size, Describe, Names, WidestRow, Decode, Sqlcode, CompactCcsid, DecimalLength, Answer, Described, Called, Wide, Decoded, Code, Number, answer}

-- a question, and what document 01 says to it (01, Replies on the edge)
pub record Claim : Type 0 where
  pub question : Question
  pub expected : Answer

-- a lettered case: all that document 01 says there (01, Replies on the edge)
pub record Case : Type 0 where
  pub letter : String
  pub claims : List Claim

-- so it is written below (01, Replies on the edge)
abbrev pub says : Question → Answer → Claim
says q a = record { question = q; expected = a }

-- so too (01, Replies on the edge)
abbrev pub case : String → List Claim → Case
case x l = record { letter = x; claims = l }

-- accepted, with the status for success and these columns (01, Answers)
abbrev pub accepted : List ColumnMetadata → Description
accepted columns = record { refusal = 0 ∷ []; card = success_card; columns = columns }

-- DOOR in ASCII (01, Replies on the edge: A, I)
abbrev pub door : List ℕ
door = 0x44 ∷ 0x4F ∷ 0x4F ∷ 0x52 ∷ []

-- COL1 in ASCII (01, Replies on the edge: D)
abbrev pub col1 : List ℕ
col1 = 0x43 ∷ 0x4F ∷ 0x4C ∷ 0x31 ∷ []

-- −100 (01, Replies on the edge: J)
abbrev pub minus100 : ℤ
minus100 = negsuc 99

-- A to L, in order (01, Replies on the edge)
abbrev pub cases : List Case
cases =
    case "A"
    (says (Size reply_a) (Number 41) ∷
    says (Describe reply_a) (Described (accepted (column_a ∷ []))) ∷
    says (Names reply_a) (Called (door ∷ [])) ∷
    []) ∷
    case "B" (says (Describe reply_b) (Described (accepted (column_b ∷ []))) ∷ []) ∷
    case "C" (says (Describe reply_c) (Described (accepted (column_c ∷ []))) ∷ says (WidestRow reply_c) (Wide (0 ∷ []) 5) ∷ []) ∷
    case "D" (says (Describe reply_d) (Described (accepted (column_d ∷ []))) ∷ says (Names reply_d) (Called (col1 ∷ [])) ∷ []) ∷
    case "E" (says (Describe []) (Described (refused_with (1 ∷ []))) ∷ []) ∷
    case "F" (says (Describe (0x00 ∷ [])) (Described (refused_with (2 ∷ 19 ∷ 1 ∷ []))) ∷ []) ∷
    case "G" (says (Describe (0xFF ∷ 0x00 ∷ [])) (Described (refused_with (2 ∷ 14 ∷ 2 ∷ []))) ∷ []) ∷
    case "H"
    (says (Describe (0xFF ∷ [])) (Described (accepted [])) ∷
    says (Describe (0xFF ∷ 0xFF ∷ 0x02 ∷ 0x00 ∷ [])) (Described (accepted [])) ∷
    []) ∷
    case "I"
    (says (Decode (0xC4 ∷ 0xD6 ∷ 0xD6 ∷ 0xD9 ∷ [])) (Decoded (text_is 0 4 2) door) ∷
    says (Decode (0x40 ∷ 0x40 ∷ [])) (Decoded (text_is 0 2 1) (0x40 ∷ 0x40 ∷ [])) ∷
    says (Decode (0x40 ∷ 0xC1 ∷ [])) (Decoded (text_is 1 1 2) (0x41 ∷ [])) ∷
    []) ∷
    case "J"
    (says (Sqlcode (0x9C ∷ 0xFF ∷ 0xFF ∷ 0xFF ∷ [])) (Code minus100) ∷
    says (Sqlcode (0xFF ∷ 0xFF ∷ 0xFF ∷ 0x9C ∷ [])) (Code minus100) ∷
    says (Sqlcode (0x00 ∷ 0x01 ∷ 0x00 ∷ 0x00 ∷ [])) (Code (pos 256)) ∷
    []) ∷
    case "K" (says (CompactCcsid (0x25 ∷ 0x00 ∷ [])) (Number 9472) ∷ says (CompactCcsid (0xB8 ∷ 0x04 ∷ [])) (Number 1208) ∷ []) ∷
    case "L"
    (says (DecimalLength 0) (Number 1) ∷ says (DecimalLength 5) (Number 3) ∷ says (DecimalLength 255) (Number 128) ∷ []) ∷
    []

-- what the definitions answer in a case is what document 01 says there (01, Replies on the edge)
abbrev pub Holds : Case → Type 0
Holds c = map (λ (x : Claim). answer x.question) c.claims ≡ map (λ (x : Claim). x.expected) c.claims

-- so it is in each of these cases (01, What each entry owes (d))
abbrev pub EachHolds : List Case → Type 0
EachHolds [] = Unit {0}
EachHolds (c ∷ l) = Holds c × EachHolds l

-- no letter is left out, and all cases hold (01, What each entry owes (d): one theorem for all)
pub record EveryCase : Type 0 where
  pub letters : map (λ (c : Case). c.letter) cases ≡ "A" ∷ "B" ∷ "C" ∷ "D" ∷ "E" ∷ "F" ∷ "G" ∷ "H" ∷ "I" ∷ "J" ∷ "K" ∷ "L" ∷ []
  pub holds : EachHolds cases
