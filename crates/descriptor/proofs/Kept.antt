-- Where the columns of a reading are read, that their texts lie in their descriptions, and that the bytes of texts are kept in an exchange.
use mathlib.Core.Path.{◌≡◌, refl, sym, ap, subst, ◌∙◌}
use mathlib.Core.Bool.{Bool, true, false}
use mathlib.Core.List.{List, [], ◌∷◌, map}
use mathlib.Core.Option.{some}
use Prim.Native.Nat.{ℕ, zero, suc, ◌+◌, ◌≤◌, ◌<◌}
use native.Mathlib.Omega.{arith}
use lib.ListN.{length, get_elem?, length-map}
use Rattle.search.specs.Search.{pick}
use Rattle.codepage.specs.Page.{Page}
use Rattle.field.specs.declared.ByteOrder.{ByteOrder}
use Rattle.types.specs.declared.ColumnMetadata.{ColumnMetadata}
use Rattle.column.specs.Moved.{column_bytes, LiesAll}
use Rattle.column.proofs.Lies.{all_wider}
use Rattle.descriptor.specs.Nullable.{lenient}
use Rattle.descriptor.specs.Descriptor.{descriptor_end, column_at, Complete}
use Rattle.descriptor.proofs.Lies.{texts_lie, column_bytes_same}
use Rattle.descriptor.specs.Reading.{count_at, count_in, descriptors_end, start_of, gives, views, over_columns, standard}
use Rattle.descriptor.specs.Exchange.{with_column, exchange}
use Rattle.descriptor.proofs.Descriptors.{Local, ends_within}
use Rattle.descriptor.proofs.Exchange.{place, over_is, over_exchanged}

-- ---- the bytes of texts

bytes_local : (page : Page) (order : ByteOrder) → Local order (λ i s p. column_bytes s (column_at page order i s p)) (λ a b x. x)
bytes_local page order =
    record {
      same = λ flags s a s' b n w i p q h k. column_bytes_same page flags s a s' b n w order i p q h k;
      still = λ x. refl;
    }

-- a view of each column is the view of the list
views_map : {A B : Type 0} (g : List ℕ → A → B) (v : ℕ → List ℕ → ℕ → A) (order : ByteOrder) (i k : ℕ) (s : List ℕ) (p : ℕ)
    → views (λ i s p. g s (v i s p)) order i k s p ≡ map (g s) (views v order i k s p)
unfolding views
views_map g v order i zero s p = refl
views_map {B = B} g v order i (suc k) s p = ap (λ (l : List B). g s (v i s p) ∷ l) (views_map g v order (suc i) k s (descriptor_end lenient order s p))

over_map : {A B : Type 0} (g : List ℕ → A → B) (v : ℕ → List ℕ → ℕ → A) (order : ByteOrder) (s : List ℕ)
    → over_columns (λ i s p. g s (v i s p)) order s ≡ map (g s) (over_columns v order s)
unfolding over_columns
over_map g v order s = go (gives order s)
  where
    go : (b : Bool) → pick b (views (λ i s p. g s (v i s p)) order 0 (count_in order s) s (count_at s + 2)) []
        ≡ map (g s) (pick b (views v order 0 (count_in order s) s (count_at s + 2)) [])
    go true = views_map g v order 0 (count_in order s) s (count_at s + 2)
    go false = refl

-- the bytes of all texts are the old reply's, with those of column k exchanged for those of the new description's texts
pub bytes_exchanged : (page : Page) (order : ByteOrder) (s : List ℕ) (k : ℕ) (d : List ℕ)
    → k < length (standard page order s) → Complete order d
    → map (column_bytes (with_column order s k d)) (standard page order (with_column order s k d))
    ≡ exchange k (column_bytes d (column_at page order k d 0)) (λ x. x) (map (column_bytes s) (standard page order s))
unfolding standard
bytes_exchanged page order s k d h full =
    let l = place page order s k h in
    sym (over_map column_bytes (column_at page order) order (with_column order s k d))
    ∙ over_exchanged order s k d l full (λ i s p. column_bytes s (column_at page order i s p)) (λ a b x. x) (bytes_local page order)
    ∙ ap (exchange k _ _) (over_map column_bytes (column_at page order) order s)

-- ---- where a column's texts lie in the reply

views_at : {A : Type 0} (v : ℕ → List ℕ → ℕ → A) (order : ByteOrder) (i j k c : ℕ) (s : List ℕ) (p : ℕ) → i + k ≡ j → k < c
    → get_elem? (views v order i c s p) k ≡ some (v j s (descriptors_end order k s p))
unfolding views descriptors_end
views_at v order i j zero zero s p e h = absurd (omega arith)
views_at v order i j zero (suc c) s p e h = let f : i ≡ j = omega arith in ap (λ (n : ℕ). some (v n s p)) f
views_at v order i j (suc k) zero s p e h = absurd (omega arith)
views_at v order i j (suc k) (suc c) s p e h = views_at v order (suc i) j k c s (descriptor_end lenient order s p) (omega arith) (omega arith)

-- an element that is there has an index below the length
pub at_below : {A : Type 0} (l : List A) (j : ℕ) (x : A) → get_elem? l j ≡ some x → j < length l
at_below [] j x e = absurd (let z : ◌≡◌ {A = ℕ} 0 1 = cc in omega arith)
at_below (y ∷ ys) zero x e = omega arith
at_below (y ∷ ys) (suc j) x e = let h = at_below ys j x e in omega arith

-- column k of a reading is what is read at the start of its description
pub column_is : (page : Page) (order : ByteOrder) (s : List ℕ) (k : ℕ) → k < length (standard page order s)
    → get_elem? (standard page order s) k ≡ some (column_at page order k s (start_of order s k))
unfolding standard start_of
column_is page order s k h =
    let l = place page order s k h in
    ap (λ (c : List ColumnMetadata). get_elem? c k) (over_is (column_at page order) order s l.gives)
    ∙ views_at (column_at page order) order 0 k k (count_in order s) s (count_at s + 2) (omega arith) l.under

-- and its texts lie in it
pub column_lies_at : (page : Page) (order : ByteOrder) (s : List ℕ) (j : ℕ) (c : ColumnMetadata) → get_elem? (standard page order s) j ≡ some c
    → LiesAll (start_of order s j) (start_of order s (suc j)) c × (start_of order s (suc j) ≤ length s)
column_lies_at page order s j c e =
    let h = at_below (standard page order s) j c e in
    let l = place page order s j h in
    let is = column_is page order s j h in
    let f : column_at page order j s (start_of order s j) ≡ c = cc is in
    let t = texts_lie page order j s (start_of order s j) (omega (arith, l.own, l.inside)) in
    (subst (LiesAll (start_of order s j) (start_of order s (suc j))) f (rw l.own at t), l.inside)

pub starts_within : (order : ByteOrder) (s : List ℕ) (i j : ℕ) → i ≤ j → start_of order s i ≤ start_of order s j
unfolding start_of
starts_within order s i j h = ends_within order i j h s _

-- all texts of a reading lie in the reply
pub texts_inside : (page : Page) (order : ByteOrder) (s : List ℕ) (j : ℕ) (c : ColumnMetadata) → get_elem? (standard page order s) j ≡ some c
    → LiesAll 0 (length s) c
texts_inside page order s j c e =
    let l = column_lies_at page order s j c e in
    all_wider _ _ _ _ c (omega arith) l.1 l.0

-- ---- of `exchange`

pub length_exchange : {A : Type 0} (k : ℕ) (x : A) (f : A → A) (l : List A) → length (exchange k x f l) ≡ length l
unfolding exchange
length_exchange k x f [] = refl
length_exchange zero x f (y ∷ ys) = ap suc (length-map ys f)
length_exchange (suc k) x f (y ∷ ys) = ap suc (length_exchange k x f ys)
