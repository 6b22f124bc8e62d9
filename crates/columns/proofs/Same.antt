-- Same cut and the rule before it are equivalences of lists; so is what the entry answers, of lists that it does not refuse.
use mathlib.Core.Path.{◌≡◌, refl, sym, ◌∙◌}
use mathlib.Core.Bool.{Bool, true, false, ◌||◌, false≢true, and-eq-true_iff}
use mathlib.Core.List.{List, [], ◌∷◌}
use Prim.Native.Nat.{ℕ, ◌≤◌}
use lib.Dec.{eqb, ltb}
use lib.ListN.{length}
use borrow.Author.Tests.{eqb-true, eqb-false, eq-eqb, ne_eqb, ltb-false, le-ltb}
use Rattle.search.specs.Search.{pick}
use Rattle.search.proofs.Alike.{alike_refl, alike_sym, alike_trans}
use Rattle.outcome.specs.Refusal.{is_refused}
use Rattle.types.specs.declared.ColumnMetadata.{ColumnMetadata}
use Rattle.column.specs.Numbers.{order_number}
use Rattle.columns.specs.Cut.{most_columns, coarse_column, same_ccsid, same_column, same_cut, cut_refusal, cut_answer}
use Rattle.columns.specs.Finer.{coarse_cut, coarse_answer, Equivalence}
use Rattle.columns.proofs.Cutting.{cut_accepted, cut_refused}

-- ---- two columns, by the rule so far

-- what two columns that are cut alike by it have in common
pub record Same (c d : ColumnMetadata) : Type 0 where
  pub code : c.drda_type ≡ d.drda_type
  pub size : c.length ≡ d.length
  pub precise : c.precision ≡ d.precision
  pub scaled : c.scale ≡ d.scale
  pub order : order_number c.byte_order ≡ order_number d.byte_order

pub same_parts : (c d : ColumnMetadata) → coarse_column c d ≡ true → Same c d
unfolding coarse_column
same_parts c d e =
    let p = (and-eq-true_iff _ _).0 e in
    let q = (and-eq-true_iff _ _).0 p.1 in
    let r = (and-eq-true_iff _ _).0 q.1 in
    let s = (and-eq-true_iff _ _).0 r.1 in
    record {
      code = eqb-true _ _ p.0;
      size = eqb-true _ _ q.0;
      precise = eqb-true _ _ r.0;
      scaled = eqb-true _ _ s.0;
      order = eqb-true _ _ s.1;
    }

pub same_whole : (c d : ColumnMetadata) → Same c d → coarse_column c d ≡ true
unfolding coarse_column
same_whole c d s =
    rw (eq-eqb _ _ s.code, eq-eqb _ _ s.size, eq-eqb _ _ s.precise, eq-eqb _ _ s.scaled) (eq-eqb _ _ s.order)

pub coarse_refl : (c : ColumnMetadata) → coarse_column c c ≡ true
coarse_refl c = same_whole c c (record { code = refl; size = refl; precise = refl; scaled = refl; order = refl })

eqb_sym : (a b : ℕ) → eqb a b ≡ eqb b a
eqb_sym a b = go (eqb a b) refl
  where
    go : (t : Bool) → eqb a b ≡ t → eqb a b ≡ eqb b a
    go true e = e ∙ sym (eq-eqb b a (sym (eqb-true a b e)))
    go false e = e ∙ sym (ne_eqb b a (λ x. eqb-false a b e (sym x)))

coarse_sym : (c d : ColumnMetadata) → coarse_column c d ≡ coarse_column d c
unfolding coarse_column
coarse_sym c d =
    rw (
      eqb_sym c.drda_type d.drda_type,
      eqb_sym c.length d.length,
      eqb_sym c.precision d.precision,
      eqb_sym c.scale d.scale,
      eqb_sym (order_number c.byte_order) (order_number d.byte_order),
    ) refl

coarse_trans : (c d e : ColumnMetadata) → coarse_column c d ≡ true → coarse_column d e ≡ true → coarse_column c e ≡ true
coarse_trans c d e p q =
    let s = same_parts c d p in
    let t = same_parts d e q in
    same_whole c e (record {
      code = s.code ∙ t.code;
      size = s.size ∙ t.size;
      precise = s.precise ∙ t.precise;
      scaled = s.scaled ∙ t.scaled;
      order = s.order ∙ t.order;
    })

-- ---- two columns, with their CCSIDs

pub ccsid_refl : (c : ColumnMetadata) → same_ccsid c c ≡ true
ccsid_refl c = eq-eqb c.ccsid c.ccsid refl

column_refl : (c : ColumnMetadata) → same_column c c ≡ true
unfolding same_column
column_refl c = rw (coarse_refl c) (ccsid_refl c)

column_sym : (c d : ColumnMetadata) → same_column c d ≡ same_column d c
unfolding same_column
column_sym c d = rw (coarse_sym c d, eqb_sym c.ccsid d.ccsid) refl

column_trans : (c d e : ColumnMetadata) → same_column c d ≡ true → same_column d e ≡ true → same_column c e ≡ true
unfolding same_column
column_trans c d e p q =
    let u = (and-eq-true_iff (coarse_column c d) (same_ccsid c d)).0 p in
    let v = (and-eq-true_iff (coarse_column d e) (same_ccsid d e)).0 q in
    rw (coarse_trans c d e u.0 v.0) (eq-eqb c.ccsid e.ccsid (eqb-true c.ccsid d.ccsid u.1 ∙ eqb-true d.ccsid e.ccsid v.1))

-- ---- lists

pub same_cut_refl : (a : List ColumnMetadata) → same_cut a a ≡ true
unfolding same_cut
same_cut_refl a = alike_refl same_column column_refl a

pub same_cut_sym : (a b : List ColumnMetadata) → same_cut a b ≡ same_cut b a
unfolding same_cut
same_cut_sym a b = alike_sym same_column column_sym a b

pub same_cut_trans : (a b c : List ColumnMetadata) → same_cut a b ≡ true → same_cut b c ≡ true → same_cut a c ≡ true
unfolding same_cut
same_cut_trans a b c p q = alike_trans same_column column_trans a b c p q

pub cut_equivalence : Equivalence same_cut
cut_equivalence = record { reflexive = same_cut_refl; symmetric = same_cut_sym; transitive = same_cut_trans }

pub coarse_equivalence : Equivalence coarse_cut
unfolding coarse_cut
coarse_equivalence =
    record {
      reflexive = alike_refl coarse_column coarse_refl;
      symmetric = alike_sym coarse_column coarse_sym;
      transitive = alike_trans coarse_column coarse_trans;
    }

-- ---- the entry's answer, by whichever rule

-- lists of at most 4,095 records are not refused
accepted : (a b : List ColumnMetadata) → length a ≤ most_columns → length b ≤ most_columns → cut_refusal a b ≡ 0 ∷ []
accepted a b h k = sym (cut_accepted a b (rw (le-ltb most_columns (length a) h) (le-ltb most_columns (length b) k)) (same_cut a b) refl).0

module _ (same : List ColumnMetadata → List ColumnMetadata → Bool) where
  abbrev answer_by : List ColumnMetadata → List ColumnMetadata → Bool
  answer_by a b = pick (is_refused (cut_refusal a b)) false (same a b)

  -- so the answer is the rule's
  answered_by : (a b : List ColumnMetadata) → length a ≤ most_columns → length b ≤ most_columns → answer_by a b ≡ same a b
  answered_by a b h k = rw (accepted a b h k) refl

  -- a yes says that neither list is too long, and that the rule says yes
  yes_by : (a b : List ColumnMetadata) → answer_by a b ≡ true → (length a ≤ most_columns) × ((length b ≤ most_columns) × (same a b ≡ true))
  yes_by a b e = go (ltb most_columns (length a)) refl (ltb most_columns (length b)) refl
    where
      no : (ltb most_columns (length a) || ltb most_columns (length b)) ≡ true → answer_by a b ≡ false
      no t = rw (sym (cut_refused a b t).0) refl

      go : (s : Bool) → ltb most_columns (length a) ≡ s → (t : Bool) → ltb most_columns (length b) ≡ t
          → (length a ≤ most_columns) × ((length b ≤ most_columns) × (same a b ≡ true))
      go true p t q = absurd (false≢true (sym (no (rw p refl)) ∙ e))
      go false p true q = absurd (false≢true (sym (no (rw (p, q) refl)) ∙ e))
      go false p false q =
          let h = ltb-false most_columns (length a) p in
          let k = ltb-false most_columns (length b) q in
          (h, (k, sym (answered_by a b h k) ∙ e))

  module _ (e : Equivalence same) where
    refl_by : (a : List ColumnMetadata) → length a ≤ most_columns → answer_by a a ≡ true
    refl_by a h = answered_by a a h h ∙ e.reflexive a

    sym_by : (a b : List ColumnMetadata) → answer_by a b ≡ true → answer_by b a ≡ true
    sym_by a b y =
        let t = yes_by a b y in
        answered_by b a t.1.0 t.0 ∙ e.symmetric b a ∙ t.1.1

    trans_by : (a b c : List ColumnMetadata) → answer_by a b ≡ true → answer_by b c ≡ true → answer_by a c ≡ true
    trans_by a b c y z =
        let t = yes_by a b y in
        let u = yes_by b c z in
        answered_by a c t.0 u.1.0 ∙ e.transitive a b c t.1.1 u.1.1

-- lists of at most 4,095 records are not refused, and the answer is whether they make the same cut
pub cut_answered : (a b : List ColumnMetadata) → length a ≤ most_columns → length b ≤ most_columns
    → (cut_refusal a b ≡ 0 ∷ []) × (cut_answer a b ≡ same_cut a b)
unfolding cut_answer
cut_answered a b h k = (accepted a b h k, answered_by same_cut a b h k)

-- a yes says that neither list is too long, and that they make the same cut
pub cut_yes : (a b : List ColumnMetadata) → cut_answer a b ≡ true → (length a ≤ most_columns) × ((length b ≤ most_columns) × (same_cut a b ≡ true))
unfolding cut_answer
cut_yes a b e = yes_by same_cut a b e

pub cut_refl : (a : List ColumnMetadata) → length a ≤ most_columns → cut_answer a a ≡ true
unfolding cut_answer
cut_refl a h = refl_by same_cut cut_equivalence a h

pub cut_sym : (a b : List ColumnMetadata) → cut_answer a b ≡ true → cut_answer b a ≡ true
unfolding cut_answer
cut_sym a b e = sym_by same_cut cut_equivalence a b e

pub cut_trans : (a b c : List ColumnMetadata) → cut_answer a b ≡ true → cut_answer b c ≡ true → cut_answer a c ≡ true
unfolding cut_answer
cut_trans a b c d e = trans_by same_cut cut_equivalence a b c d e

-- the same of what the entry answered by the rule before T-05

pub coarse_answer_refl : (a : List ColumnMetadata) → length a ≤ most_columns → coarse_answer a a ≡ true
unfolding coarse_answer
coarse_answer_refl a h = refl_by coarse_cut coarse_equivalence a h

pub coarse_answer_sym : (a b : List ColumnMetadata) → coarse_answer a b ≡ true → coarse_answer b a ≡ true
unfolding coarse_answer
coarse_answer_sym a b e = sym_by coarse_cut coarse_equivalence a b e

pub coarse_answer_trans : (a b c : List ColumnMetadata) → coarse_answer a b ≡ true → coarse_answer b c ≡ true → coarse_answer a c ≡ true
unfolding coarse_answer
coarse_answer_trans a b c d e = trans_by coarse_cut coarse_equivalence a b c d e
