-- The exchange theorem, and the laws of cuts and rows, at document 01's replies: A's column exchanged for B's, and for one with another name.
use mathlib.Core.Path.{◌≡◌, refl, sym, ap, ◌∙◌}
use mathlib.Core.Bool.{true, false}
use mathlib.Core.List.{List, [], ◌∷◌, ◌++◌}
use Prim.Native.Nat.{ℕ}
use native.Mathlib.Omega.{arith}
use lib.ListN.{take, drop}
use Rattle.codepage.specs.Page.{page037}
use Rattle.field.specs.declared.ByteOrder.TheVariants.{BigEndian}
use Rattle.descriptor.specs.Exchange.{with_column}
use Rattle.columns.specs.Cut.{coarse_column, same_column, cut_answer}
use Rattle.columns.proofs.Same.{cut_refl}
use Rattle.sqldard.specs.Exchanged.{new_column, new_columns, Exchangeable, Exchanged}
use Rattle.sqldard.proofs.Exchange.{exchange_theorem}
use Rattle.readings.specs.Listed.{SameRow}
use Rattle.readings.proofs.Lists.{reading_few, same_cut_same_row}
use Rattle.readings.proofs.Exchange.{exchange_answer}
use Rattle.cases.specs.Replies.{door_of, reply_a, reply_b, column_a, column_b}
use Rattle.cases.specs.Questions.{list_of}
use Rattle.cases.proofs.Compute.{everything}

-- ---- A to B: the theorem asks nothing that cannot be had

pub a_to_b_asked : Exchangeable page037 1 reply_a 0 (door_of 0x06 0xC4)
unfolding everything
a_to_b_asked = record { column = omega arith; complete = refl; within = omega arith; enough = omega arith; named = refl }

-- the new reply is B
pub a_to_b : with_column BigEndian reply_a 0 (door_of 0x06 0xC4) ≡ reply_b
unfolding everything
a_to_b = refl

-- and its list, by the theorem, is B's
pub a_to_b_columns : new_columns page037 BigEndian reply_a 0 (door_of 0x06 0xC4) ≡ column_b ∷ []
unfolding everything
a_to_b_columns = refl

pub a_to_b_exchanged : Exchanged page037 1 reply_a 0 (door_of 0x06 0xC4)
a_to_b_exchanged = exchange_theorem page037 1 reply_a 0 (door_of 0x06 0xC4) a_to_b_asked

-- ---- what same cut answers of A and the new reply, whose column is described by d

from_a : (d : List ℕ) → Exchangeable page037 1 reply_a 0 d
    → cut_answer (list_of reply_a) (list_of (with_column BigEndian reply_a 0 d)) ≡ same_column column_a (new_column page037 BigEndian reply_a 0 d)
unfolding everything
from_a d x = exchange_answer page037 1 reply_a 0 d x column_a refl (omega arith) refl

-- A and B differ in length
pub a_b_cut : cut_answer (list_of reply_a) (list_of reply_b) ≡ false
unfolding everything coarse_column same_column
a_b_cut = ap (λ (s : List ℕ). cut_answer (list_of reply_a) (list_of s)) (sym a_to_b) ∙ from_a (door_of 0x06 0xC4) a_to_b_asked

pub a_a_cut : cut_answer (list_of reply_a) (list_of reply_a) ≡ true
a_a_cut = cut_refl (list_of reply_a) (reading_few page037 1 reply_a)

-- ---- A with the name GATE: rows are cut as before, and are as wide

abbrev gate : List ℕ
gate = take 21 (door_of 0x04 0xC4) ++ (0x47 ∷ 0x41 ∷ 0x54 ∷ 0x45 ∷ drop 25 (door_of 0x04 0xC4))

abbrev reply_gate : List ℕ
reply_gate = with_column BigEndian reply_a 0 gate

gate_asked : Exchangeable page037 1 reply_a 0 gate
unfolding everything
gate_asked = record { column = omega arith; complete = refl; within = omega arith; enough = omega arith; named = refl }

pub gate_cut : cut_answer (list_of reply_a) (list_of reply_gate) ≡ true
unfolding everything coarse_column same_column
gate_cut = from_a gate gate_asked

pub gate_row : SameRow (list_of reply_a) (list_of reply_gate)
gate_row =
    let t = same_cut_same_row page037 page037 1 1 reply_a reply_gate in
    t.rows (sym t.answers ∙ gate_cut)
