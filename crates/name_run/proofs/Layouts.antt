-- A layout's name: a law for each way out of `scan_descriptor_name`, and what its answer says of the walk from layout to layout.
use Prim.Native.Nat.{ℕ, zero, suc, ◌+◌, ◌-◌, ◌≤◌, ◌<◌}
use native.Mathlib.Numerals.{add-one}
use native.Mathlib.Omega.{arith}
use mathlib.Core.Path.{◌≡◌, refl, sym, ap, subst, ◌∙◌}
use mathlib.Core.List.{List, [], ◌∷◌}
use mathlib.Core.Bool.{Bool, true, false, cond, ◌&&◌}
use lib.Dec.{ltb, leb, eqb}
use lib.ListN.{length, get_or}
use borrow.Author.Tests.{lt-ltb, le-ltb, le-leb, lt-leb, eq-eqb, ne_eqb}
use Rattle.std.proofs.Common.{rules, Option, Some, None, IfSome, MatchOption, find, slice_index_or}
use Rattle.search.specs.Search.{pick, first_in}
use Rattle.search.specs.Walks.{chain}
use Rattle.search.proofs.Alternatives.{each_none, each_more, first_in_all}
use Rattle.codepage.specs.Page.{Page}
use Rattle.strings.specs.declared.StringRead.{StringRead}
use Rattle.field.specs.declared.ByteOrder.TheVariants.{BigEndian}
use Rattle.field.specs.Numbers.{number}
use Rattle.strings.specs.Strings.{string_end, strings_end, no_string, string_at}
use Rattle.strings.proofs.Strings.{end_known, string_next, string_inside}
use Rattle.strings.proofs.Windows.{strings_end_grows}
use Rattle.text.specs.Text.{text_of}
use Rattle.column.specs.Column.{string_text}
use Rattle.identifier.proofs.Identifiers.{identifier_empty}
use Rattle.descriptor.specs.declared.Sqldxgrp.{Sqldxgrp}
use Rattle.descriptor.specs.Nullable.{lenient, nullable_end}
use Rattle.descriptor.specs.Descriptor.{udt_end, dx_end, dx_start, opt_end, dx_pair}
use Rattle.descriptor.specs.Groups.{sqldxgrp_at}
use Rattle.descriptor.proofs.Ends.{nullable_end_grows, udt_end_grows, dx_end_grows}
use Rattle.descriptor.proofs.Groups.{dx_pair_inside}
use Rattle.name_run.specs.declared.ScannedName.{ScannedName}
use Rattle.name_run.specs.Layout.{Inside, is_name_string, name_strings, name_in, has_options, is_named_layout, layout_end, scanned_name_at}
use Rattle.name_run.specs.declared.NameRun.{NameRun}
use Rattle.name_run.specs.Run.{name_walk, run_limit, names_of_run}

-- ---- the first name among some strings, no string where there is none

no_name : (page : Page) (s : List ℕ) → is_name_string page s (no_string 0) ≡ false
no_name page s = identifier_empty page s 0

module _ {A : Type 0} (f : A → Bool) (d : A) where
  find_none : (xs : List A) → find f xs ≡ None → f d ≡ false → f (first_in f xs d) ≡ false
  find_none [] e h = h
  find_none (x ∷ xs) e h = go (f x) refl (find_none xs) e
    where
      go : (b : Bool) → f x ≡ b → (find f xs ≡ None → f d ≡ false → f (first_in f xs d) ≡ false) → cond b (Some x) (find f xs) ≡ None
          → f (pick b x (first_in f xs d)) ≡ false
      go true u r e = absurd cc
      go false u r e = r e h

  find_some : (xs : List A) (n : A) → find f xs ≡ Some n → (first_in f xs d ≡ n) × (f n ≡ true)
  find_some [] n e = absurd cc
  find_some (x ∷ xs) n e = go (f x) refl (find_some xs n) e
    where
      go : (b : Bool) → f x ≡ b → (find f xs ≡ Some n → (first_in f xs d ≡ n) × (f n ≡ true)) → cond b (Some x) (find f xs) ≡ Some n
          → (pick b x (first_in f xs d) ≡ n) × (f n ≡ true)
      go true u r e = let k : x ≡ n = cc in (k, ap f (sym k) ∙ u)
      go false u r e = r e

names_inside : (page : Page) (s : List ℕ) (p : ℕ) → Inside s (name_in page s p)
unfolding name_in
names_inside page s p =
    first_in_all (Inside s) (is_name_string page s) (no_string 0)
    (each_more (string_inside s (p + 19))
    (each_more (string_inside s (string_end s (p + 19))) (each_more (dx_pair_inside s 7 (dx_start lenient s (p + 17))) each_none)))
    (omega arith)

-- what `scanned_name` answers
abbrev pub Found : Page → List ℕ → List StringRead → ℕ → Option ScannedName → Type 0
Found page s strings next o =
    MatchOption o (find (is_name_string page s) strings ≡ None) (λ r. (find (is_name_string page s) strings ≡ Some r.name) × (r.next ≡ next))

-- the strings of a layout lie in the reply
pub string_read_inside : (s : List ℕ) (p : ℕ) (r : StringRead) → r ≡ string_at s p → Inside s r
string_read_inside s p r e = subst (Inside s) (sym e) (string_inside s p)

pub extension_inside : (s : List ℕ) (p : ℕ) (x : Sqldxgrp) → x ≡ sqldxgrp_at s p → Inside s x.name
extension_inside s p x e = subst (λ (y : Sqldxgrp). Inside s y.name) (sym e) (dx_pair_inside s 7 p)

-- each of three does, by its number
pub each_of_three : (s : List ℕ) (a b c : StringRead) → Inside s a → Inside s b → Inside s c → (k : ℕ) (d : StringRead) → k < 3
    → Inside s (slice_index_or (a ∷ b ∷ c ∷ []) k d)
each_of_three s a b c x y z zero d h = x
each_of_three s a b c x y z (suc zero) d h = y
each_of_three s a b c x y z (suc (suc zero)) d h = z
each_of_three s a b c x y z (suc (suc (suc k))) d h = absurd (omega arith)

-- ---- the ways out

module _ (page : Page) (s : List ℕ) (p : ℕ) where
  scanned_none : is_named_layout page s p (layout_end s p) ≡ false → None ≡ scanned_name_at page s p
  unfolding scanned_name_at
  scanned_none e = rw e refl

  scanned_some : is_named_layout page s p (layout_end s p) ≡ true → Some (record { name = name_in page s p; next = layout_end s p }) ≡ scanned_name_at page s p
  unfolding scanned_name_at
  scanned_some e = rw e refl

  pub named_short : length s - p < 17 → None ≡ scanned_name_at page s p
  unfolding is_named_layout has_options
  named_short h =
      let t : ltb (p + 16) (length s) ≡ false = le-ltb (p + 16) (length s) (omega arith) in
      scanned_none (rw t refl)

  pub named_null : p + 16 < length s → get_or s (p + 16) 0 ≡ 0xFF → None ≡ scanned_name_at page s p
  unfolding is_named_layout has_options
  named_null h f =
      let t : ltb (p + 16) (length s) ≡ true = lt-ltb (p + 16) (length s) h in
      let u : eqb (get_or s (p + 16) 0) 0xFF ≡ true = eq-eqb (get_or s (p + 16) 0) 0xFF f in
      scanned_none (rw (t, u) refl)

  -- the reply ends within it
  named_past : length s < layout_end s p → None ≡ scanned_name_at page s p
  unfolding is_named_layout
  named_past l =
      let v : leb (layout_end s p) (length s) ≡ false = lt-leb (layout_end s p) (length s) l in
      scanned_none (rw v (go (has_options s p)))
    where
      go : (b : Bool) → (b && false) ≡ false
      go true = refl
      go false = refl

  names_past : length s < strings_end 6 s (p + 19) → None ≡ scanned_name_at page s p
  unfolding opt_end dx_start
  names_past l =
      let q = strings_end 6 s (p + 17 + 2) in
      let d = nullable_end lenient udt_end s q in
      let k : p + 17 + 2 ≡ p + 19 = omega arith in
      let e : q ≡ strings_end 6 s (p + 19) = ap (strings_end 6 s) k in
      let u : q ≤ d = nullable_end_grows lenient udt_end s (udt_end_grows s) q in
      let w : d ≤ nullable_end lenient dx_end s d = nullable_end_grows lenient dx_end s (dx_end_grows s) d in
      named_past (omega arith)

  -- where its first string does not end in the reply, or a later one or group
  pub cut_m : length s < string_end s (p + 19) → None ≡ scanned_name_at page s p
  unfolding strings_end
  cut_m l = names_past (omega (arith, strings_end_grows 5 s (string_end s (p + 19))))

  module _ (m : StringRead) (a : m ≡ string_at s (p + 19)) where
    past_m : m.next ≡ string_end s (p + 19)
    past_m = ap (λ (r : StringRead). r.next) a ∙ string_next s (p + 19)

    pub cut_s : length s < string_end s m.next → None ≡ scanned_name_at page s p
    unfolding strings_end
    cut_s l =
        let e : string_end s m.next ≡ string_end s (string_end s (p + 19)) = ap (string_end s) past_m in
        names_past (omega (arith, strings_end_grows 4 s (string_end s (string_end s (p + 19)))))

    module _ (t : StringRead) (b : t ≡ string_at s m.next) where
      past_s : t.next ≡ string_end s (string_end s (p + 19))
      past_s = ap (λ (r : StringRead). r.next) b ∙ string_next s m.next ∙ ap (string_end s) past_m

      pub cut_comments : length s < strings_end 4 s t.next → None ≡ scanned_name_at page s p
      unfolding strings_end
      cut_comments l = names_past (rw (ap (strings_end 4 s) past_s) at l)

      module _ (q : ℕ) (c : q ≡ strings_end 4 s t.next) where
        udt_is : nullable_end lenient udt_end s q ≡ dx_start lenient s (p + 17)
        unfolding dx_start strings_end
        udt_is =
            let k : p + 17 + 2 ≡ p + 19 = omega arith in
            ap (nullable_end lenient udt_end s) (c ∙ rw (past_s, k) refl)

        pub cut_udt : length s < nullable_end lenient udt_end s q → None ≡ scanned_name_at page s p
        unfolding opt_end
        cut_udt l =
            let d = dx_start lenient s (p + 17) in
            let w : d ≤ nullable_end lenient dx_end s d = nullable_end_grows lenient dx_end s (dx_end_grows s) d in
            named_past (omega (arith, udt_is))

        module _ (u : ℕ) (d : u ≡ nullable_end lenient udt_end s q) where
          start_is : u ≡ dx_start lenient s (p + 17)
          start_is = d ∙ udt_is

          pub cut_extension : length s < nullable_end lenient dx_end s u → None ≡ scanned_name_at page s p
          unfolding opt_end
          cut_extension l = named_past (rw (ap (nullable_end lenient dx_end s) start_is) at l)

  -- its first string, of n bytes, does not lie in the reply
  module _ (h : p + 21 ≤ length s) (n : ℕ) (e : n ≡ number BigEndian 2 s (p + 19)) (l : length s < p + 21 + n) where
    pub named_outside : None ≡ scanned_name_at page s p
    named_outside = cut_m (omega (arith, end_known s (p + 19) (omega arith) (omega arith) n e))

  -- its strings and groups were read
  module _ (h : p + 16 < length s) (f : get_or s (p + 16) 0 ≡ 0xFF → ⊥) (m : StringRead) (a : m ≡ string_at s (p + 19)) (t : StringRead)
      (b : t ≡ string_at s m.next) (q : ℕ) (c : q ≡ strings_end 4 s t.next) (u : ℕ) (d : u ≡ nullable_end lenient udt_end s q) (x : Sqldxgrp)
      (e : x ≡ sqldxgrp_at s u) where
    options : has_options s p ≡ true
    unfolding has_options
    options =
        let v : ltb (p + 16) (length s) ≡ true = lt-ltb (p + 16) (length s) h in
        let w : eqb (get_or s (p + 16) 0) 0xFF ≡ false = ne_eqb (get_or s (p + 16) 0) 0xFF f in
        rw (v, w) refl

    end_is : x.next ≡ layout_end s p
    unfolding opt_end
    end_is = ap (λ (y : Sqldxgrp). y.next) e ∙ ap (nullable_end lenient dx_end s) (start_is m a t b q c u d)

    strings_are : (m ∷ t ∷ x.name ∷ []) ≡ name_strings s p
    strings_are =
        let v : t ≡ string_at s (string_end s (p + 19)) = b ∙ ap (string_at s) (past_m m a) in
        let w : x.name ≡ dx_pair 7 s (dx_start lenient s (p + 17)) = ap (λ (z : Sqldxgrp). z.name) e ∙ ap (dx_pair 7 s) (start_is m a t b q c u d) in
        λ i. a i ∷ v i ∷ w i ∷ []

    module _ (l : nullable_end lenient dx_end s u ≤ length s) where
      layout_is : (k : Bool) → is_name_string page s (name_in page s p) ≡ k → is_named_layout page s p (layout_end s p) ≡ k
      unfolding is_named_layout
      layout_is k g =
          let z : x.next ≡ nullable_end lenient dx_end s u = ap (λ (y : Sqldxgrp). y.next) e in
          let v : leb (layout_end s p) (length s) ≡ true = le-leb (layout_end s p) (length s) (omega (arith, end_is)) in
          rw (options, v, g) refl

      -- by what was found among them
      pub named_by : (o : Option ScannedName) → Found page s (m ∷ t ∷ x.name ∷ []) x.next o → (o ≡ scanned_name_at page s p) × IfSome o (λ r. Inside s r.name)
      unfolding name_in
      named_by None g = (
        scanned_none
            (layout_is false (find_none (is_name_string page s) (no_string 0) (name_strings s p) (sym (ap (find (is_name_string page s)) strings_are) ∙ g) (no_name page s))),
        search rules,
      )
      named_by (Some r) g =
          let n = find_some (is_name_string page s) (no_string 0) (name_strings s p) r.name (sym (ap (find (is_name_string page s)) strings_are) ∙ g.0) in (
            (λ i. Some (record { name = sym n.0 i; next = (g.1 ∙ end_is) i })) ∙ scanned_some (layout_is true (ap (is_name_string page s) n.0 ∙ n.1)),
            subst (Inside s) n.0 (names_inside page s p),
          )

-- ---- the walk from layout to layout

module _ (page : Page) (s : List ℕ) where
  -- no number counts the layouts of a walk
  unnumbered : (k i j p : ℕ) → chain (name_walk page s) k i p ≡ chain (name_walk page s) k j p
  unfolding chain
  unnumbered zero i j p = refl
  unnumbered (suc k) i j p = rw (unnumbered k (suc i) (suc j) (layout_end s p)) refl

  pub names_none : (k p : ℕ) → scanned_name_at page s p ≡ None → chain (name_walk page s) k 0 p ≡ []
  unfolding chain scanned_name_at
  names_none zero p e = refl
  names_none (suc k) p e = go (is_named_layout page s p (layout_end s p)) refl
    where
      go : (b : Bool) → is_named_layout page s p (layout_end s p) ≡ b → chain (name_walk page s) (suc k) 0 p ≡ []
      go true f = let z = rw f at e in absurd cc
      go false f = rw f refl

  names_some : (k p : ℕ) (r : ScannedName) → scanned_name_at page s p ≡ Some r
      → chain (name_walk page s) (suc k) 0 p ≡ text_of page s r.name.place r.name.length ∷ chain (name_walk page s) k 0 r.next
  unfolding chain scanned_name_at string_text
  names_some k p r e = go (is_named_layout page s p (layout_end s p)) refl
    where
      go : (b : Bool) → is_named_layout page s p (layout_end s p) ≡ b
          → chain (name_walk page s) (suc k) 0 p ≡ text_of page s r.name.place r.name.length ∷ chain (name_walk page s) k 0 r.next
      go true f =
          let z = rw f at e in
          let y : record { name = name_in page s p; next = layout_end s p } ≡ r = cc in
          rw (f, ← y) (ap (λ l. string_text page s (name_in page s p) ∷ l) (unnumbered k 1 0 (layout_end s p)))
      go false f = let z = rw f at e in absurd cc

  pub names_over : (k p : ℕ) → k ≡ 0 → chain (name_walk page s) k 0 p ≡ []
  unfolding chain
  names_over k p e = rw e refl

  pub names_more : (j k p : ℕ) (r : ScannedName) → j ≡ k + 1 → scanned_name_at page s p ≡ Some r
      → chain (name_walk page s) j 0 p ≡ text_of page s r.name.place r.name.length ∷ chain (name_walk page s) k 0 r.next
  names_more j k p r e f = rw (e, add-one k) (names_some k p r f)

  -- as many steps as there are names find them all
  enough : (k i p n : ℕ) → n ≡ length (chain (name_walk page s) k i p) → chain (name_walk page s) n i p ≡ chain (name_walk page s) k i p
  unfolding chain
  enough zero i p n e = ap (λ m. chain (name_walk page s) m i p) e
  enough (suc k) i p n e = go (is_named_layout page s p (layout_end s p)) refl (enough k (suc i) (layout_end s p))
    where
      go : (b : Bool) → is_named_layout page s p (layout_end s p) ≡ b
          → ((m : ℕ) → m ≡ length (chain (name_walk page s) k (suc i) (layout_end s p)) → chain (name_walk page s) m (suc i) (layout_end s p) ≡ chain (name_walk page s) k (suc i) (layout_end s p))
          → chain (name_walk page s) n i p ≡ chain (name_walk page s) (suc k) i p
      go true f r =
          let m = length (chain (name_walk page s) k (suc i) (layout_end s p)) in
          let z : n ≡ suc m = e ∙ rw f refl in
          ap (λ j. chain (name_walk page s) j i p) z ∙ rw f (ap (λ l. string_text page s (name_in page s p) ∷ l) (r m refl))
      go false f r = let z : n ≡ 0 = e ∙ rw f refl in ap (λ j. chain (name_walk page s) j i p) z ∙ rw f refl

  pub names_again : (run : NameRun) → run.count ≡ length (names_of_run page s run) → chain (name_walk page s) run.count 0 run.start ≡ names_of_run page s run
  unfolding names_of_run
  names_again run e = enough (run_limit run.count) 0 run.start run.count e
