-- The exchange theorem, stated in specs/Exchanged.antt, and what users quote of it.
use mathlib.Core.Path.{◌≡◌, refl, sym, ap, ◌∙◌}
use mathlib.Core.Bool.{Bool, true, false}
use mathlib.Core.List.{List, [], ◌∷◌, map}
use mathlib.Core.Option.{some}
use Prim.Native.Nat.{ℕ, zero, suc, ◌+◌, ◌-◌, ◌≤◌, ◌<◌}
use native.Mathlib.Omega.{arith}
use lib.Dec.{ltb, eqb}
use lib.ListN.{length, get_elem?}
use borrow.Author.Tests.{le-ltb, le-leb, eqb-true, eqb-false}
use Rattle.search.specs.Search.{pick}
use Rattle.codepage.specs.Page.{Page}
use Rattle.field.specs.declared.ByteOrder.{ByteOrder}
use Rattle.field.specs.declared.ByteOrder.TheVariants.{BigEndian}
use Rattle.text.specs.declared.Text.{Text}
use Rattle.text.specs.Text.{text_is}
use Rattle.sqlcard.specs.Alone.{alone_card}
use Rattle.sqlcard.specs.Group.{group_end, group_refusal, group_bytes, group_card}
use Rattle.sqlcard.proofs.Groups.{group_end_same, group_bytes_same}
use Rattle.types.specs.declared.ColumnMetadata.{ColumnMetadata}
use Rattle.column.specs.Column.{has_names}
use Rattle.column.specs.Moved.{move_text, move_column, Lies, LiesAll}
use Rattle.column.proofs.Lies.{all_wider}
use Rattle.descriptor.specs.Descriptor.{Complete}
use Rattle.descriptor.specs.Reading.{start_of, standard}
use Rattle.descriptor.specs.Exchange.{with_column, exchange}
use Rattle.descriptor.proofs.Front.{count_past}
use Rattle.descriptor.proofs.Exchange.{place, front, standard_exchanged}
use Rattle.descriptor.proofs.Kept.{bytes_exchanged, column_lies_at, starts_within, texts_inside, length_exchange}
use Rattle.plan.specs.Choice.{reads, choice}
use Rattle.plan.specs.Description.{Description, answer_by, description}
use Rattle.sqldard.specs.Exchanged.{Moved, MovedColumn, new_column, later_column, Exchangeable, ReadExchanged, Exchanged, attributes_of}

-- ---- the elements of an exchanged list

exchange_at : {A : Type 0} (k : ℕ) (x : A) (f : A → A) (l : List A) → k < length l → get_elem? (exchange k x f l) k ≡ some x
unfolding exchange
exchange_at k x f [] h = absurd (omega arith)
exchange_at zero x f (y ∷ ys) h = refl
exchange_at (suc k) x f (y ∷ ys) h = exchange_at k x f ys (omega arith)

exchange_before : {A : Type 0} (k j : ℕ) (x : A) (f : A → A) (l : List A) → j < k → get_elem? (exchange k x f l) j ≡ get_elem? l j
unfolding exchange
exchange_before k j x f [] h = refl
exchange_before zero j x f (y ∷ ys) h = absurd (omega arith)
exchange_before (suc k) zero x f (y ∷ ys) h = refl
exchange_before (suc k) (suc j) x f (y ∷ ys) h = exchange_before k j x f ys (omega arith)

map_at : {A B : Type 0} (f : A → B) (l : List A) (j : ℕ) (c : A) → get_elem? l j ≡ some c → get_elem? (map f l) j ≡ some (f c)
map_at f [] j c e = absurd (let z : ◌≡◌ {A = ℕ} 0 1 = cc in omega arith)
map_at f (y ∷ ys) zero c e = let z : y ≡ c = cc e in ap (λ u. some (f u)) z
map_at f (y ∷ ys) (suc j) c e = map_at f ys j c e

exchange_after : {A : Type 0} (k j : ℕ) (x : A) (f : A → A) (l : List A) (c : A) → k < j → get_elem? l j ≡ some c
    → get_elem? (exchange k x f l) j ≡ some (f c)
unfolding exchange
exchange_after k j x f [] c h e = absurd (let z : ◌≡◌ {A = ℕ} 0 1 = cc in omega arith)
exchange_after zero zero x f (y ∷ ys) c h e = absurd (omega arith)
exchange_after zero (suc j) x f (y ∷ ys) c h e = map_at f ys j c e
exchange_after (suc k) zero x f (y ∷ ys) c h e = absurd (omega arith)
exchange_after (suc k) (suc j) x f (y ∷ ys) c h e = exchange_after k j x f ys c (omega arith) e

-- ---- texts that are moved by the difference

moved_text : (a e n q : ℕ) (t : Text) → a ≤ e → Lies e q t → Moved (e - a) n t (move_text e (a + n) t)
unfolding move_text
moved_text a e n q t x l = go (eqb t.length 0) refl
  where
    go : (u : Bool) → eqb t.length 0 ≡ u → Moved (e - a) n t (pick u t (text_is (t.place - e + (a + n)) t.length t.alphabet))
    go true f = record { place = λ z. absurd (z (eqb-true t.length 0 f)); none = λ z. refl; length = refl; alphabet = refl }
    go false f =
        record {
          place = λ z. let h = l.from z in omega arith;
          none = λ z. absurd (eqb-false t.length 0 f z);
          length = refl;
          alphabet = refl;
        }

moved_column : (a e n q : ℕ) (c : ColumnMetadata) → a ≤ e → LiesAll e q c → MovedColumn (e - a) n c (move_column e (a + n) c)
unfolding move_column
moved_column a e n q c x l =
    record {
      number = refl;
      type = refl;
      code = refl;
      length = refl;
      nullable = refl;
      precision = refl;
      scale = refl;
      ccsid = refl;
      order = refl;
      name = moved_text a e n q c.name x l.name;
      label = moved_text a e n q c.label x l.label;
      base = moved_text a e n q c.base_table_name x l.base;
      schema = moved_text a e n q c.schema_name x l.schema;
    }

-- ---- the reading of the new reply, in either byte order

module _ (page : Page) (order : ByteOrder) (s : List ℕ) (k : ℕ) (d : List ℕ) (h : k < length (standard page order s)) (full : Complete order d) where
  pub reading_exchanged : (l : List ColumnMetadata) → l ≡ standard page order (with_column order s k d) → ReadExchanged page order s k d l
  reading_exchanged l is =
      let e = is ∙ standard_exchanged page order s k d h full in
      record {
        columns = e;
        as_long = ap length e ∙ length_exchange k _ _ (standard page order s);
        exchanged = ap (λ (m : List ColumnMetadata). get_elem? m k) e ∙ exchange_at k _ _ (standard page order s) h;
        earlier = λ j i. ap (λ (m : List ColumnMetadata). get_elem? m j) e ∙ exchange_before k j _ _ (standard page order s) i;
        later = λ j c i f.
            let t = column_lies_at page order s j c f in (
              ap (λ (m : List ColumnMetadata). get_elem? m j) e ∙ exchange_after k j _ _ (standard page order s) c i f,
              moved_column (start_of order s k) (start_of order s (suc k)) (length d) (length s) c
                  (starts_within order s k (suc k) (omega arith))
                  (all_wider _ _ _ _ c (starts_within order s (suc k) j (omega arith)) t.1 t.0),
            );
        bytes = ap (map _) is ∙ bytes_exchanged page order s k d h full;
        inside = λ j c f.
            texts_inside page order (with_column order s k d) j c (ap (λ (m : List ColumnMetadata). get_elem? m j) (sym is) ∙ f);
      }

-- ---- the entry: a standard BE reading that has a name wins

module _ (page : Page) (room : ℕ) (s : List ℕ) (named : has_names page s (standard page BigEndian s) ≡ true) where
  choice_standard : choice page s ≡ reads false (standard page BigEndian s)
  unfolding choice
  choice_standard = rw named refl

  pub standard_wins : length s ≤ 65536 → length (standard page BigEndian s) ≤ room
      → description page room s ≡ record { refusal = 0 ∷ []; card = group_card page s; columns = standard page BigEndian s }
  unfolding description answer_by
  standard_wins h k =
      rw (le-ltb 65536 (length s) h, choice_standard, le-leb (length (standard page BigEndian s)) room k) refl

-- the status that the group's own bytes give, where it can be read
group_card_is : (page : Page) (s : List ℕ) → length s ≤ 65536 → group_end s ≤ length s → group_card page s ≡ alone_card page (group_bytes s)
unfolding group_card group_refusal
group_card_is page s h k = rw (le-ltb 65536 (length s) h, le-ltb (length s) (group_end s) k) refl

-- THE EXCHANGE THEOREM
pub exchange_theorem : (page : Page) (room : ℕ) (s : List ℕ) (k : ℕ) (d : List ℕ) → Exchangeable page room s k d → Exchanged page room s k d
exchange_theorem page room s k d x =
    let l = place page BigEndian s k x.column in
    let new = with_column BigEndian s k d in
    let w = front BigEndian s k d l x.complete in
    let e = standard_exchanged page BigEndian s k d x.column x.complete in
    let named : has_names page new (standard page BigEndian new) ≡ true = ap (has_names page new) e ∙ x.named in
    let long : length (standard page BigEndian new) ≤ room = omega (arith, ap length e, length_exchange k (new_column page BigEndian s k d) (later_column BigEndian s k d) (standard page BigEndian s), x.enough) in
    let a = standard_wins page room new named x.within long in
    let g : group_end s ≤ start_of BigEndian s k = omega (arith, count_past s, l.after) in
    let g' : group_end new ≤ length new = omega (arith, group_end_same s new (start_of BigEndian s k) w g, w.inside') in
    record {
      accepts = ap (λ (r : Description). r.refusal) a;
      reads = reading_exchanged page BigEndian s k d x.column x.complete _ (ap (λ (r : Description). r.columns) a);
      status =
          ap (λ (r : Description). r.card) a
          ∙ (group_card_is page new x.within g' ∙ ap (alone_card page) (group_bytes_same s new (start_of BigEndian s k) w g));
    }

-- ---- what users quote

-- where the old reply is accepted in its standard BE reading, the status is the one that was answered to it
pub status_kept : (page : Page) (room : ℕ) (s : List ℕ) (k : ℕ) (d : List ℕ) → Exchangeable page room s k d
    → length s ≤ 65536 → has_names page s (standard page BigEndian s) ≡ true
    → (description page room (with_column BigEndian s k d)).card ≡ (description page room s).card
status_kept page room s k d x h n =
    let l = place page BigEndian s k x.column in
    let g : group_end s ≤ length s = omega (arith, count_past s, l.after, l.long, l.inside) in
    (exchange_theorem page room s k d x).status
    ∙ sym (ap (λ (r : Description). r.card) (standard_wins page room s n h x.enough) ∙ group_card_is page s h g)

-- between the two lists only column k can differ in code, length, precision, scale and CCSID
pub only_column_k : (page : Page) (room : ℕ) (s : List ℕ) (k : ℕ) (d : List ℕ) → Exchangeable page room s k d
    → (j : ℕ) (c : ColumnMetadata) → (j ≡ k → ⊥) → get_elem? (standard page BigEndian s) j ≡ some c
    → get_elem? (map attributes_of (description page room (with_column BigEndian s k d)).columns) j ≡ some (attributes_of c)
only_column_k page room s k d x j c n e =
    let t = (exchange_theorem page room s k d x).reads in
    go t (ltb j k) refl
  where
    l : List ColumnMetadata
    l = (description page room (with_column BigEndian s k d)).columns

    go : ReadExchanged page BigEndian s k d l → (b : Bool) → ltb j k ≡ b → get_elem? (map attributes_of l) j ≡ some (attributes_of c)
    go t true f = map_at attributes_of l j c (t.earlier j (borrow.Author.Tests.ltb-true j k f) ∙ e)
    go t false f =
        let i = borrow.Author.Tests.ltb-false j k f in
        let r = t.later j c (omega arith) e in
        let m = r.1 in
        map_at attributes_of l j (later_column BigEndian s k d c) r.0
        ∙ (λ u. some (m.code u ∷ m.length u ∷ m.precision u ∷ m.scale u ∷ m.ccsid u ∷ []))
