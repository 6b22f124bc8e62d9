-- The groups of a descriptor: for each way out of their readers a law, from what the callees promise to what the reader does.
use mathlib.Core.List.{List}
use mathlib.Core.Path.{◌≡◌, sym, ap, ◌∙◌}
use Prim.Native.Nat.{ℕ, ◌+◌, ◌≤◌, ◌<◌}
use native.Mathlib.Omega.{arith}
use lib.ListN.{length}
use Rattle.std.specs.Prelude.{Ok, Err}
use Rattle.strings.specs.declared.StringRead.{StringRead}
use Rattle.strings.specs.Strings.{string_end, strings_end, no_string, chosen, pair_at}
use Rattle.strings.proofs.Strings.{strings_cut, strings_stay, string_stays, pair_next, pair_unread, pair_inside, chosen_inside}
use Rattle.descriptor.specs.declared.Sqldxgrp.{Sqldxgrp}
use Rattle.descriptor.specs.declared.Names.{Names}
use Rattle.descriptor.specs.Nullable.{lenient, nullable_end, in_nullable, group_start}
use Rattle.descriptor.specs.Descriptor.{udt_end, dx_end, dx_start, opt_end, dx_pair, opt_name, opt_label, opt_pair}
use Rattle.descriptor.specs.Groups.{NamesAt, with_names, sqldxgrp_at, sqldoptgrp_at}
use Rattle.descriptor.proofs.NameStrings.{names_end}
use Rattle.descriptor.proofs.Flags.{nullable_end_missing, end_held, end_gone, in_held, in_gone, in_nullable_all, gone_room}

-- past a pair that was read
past_pair : (s : List ℕ) (p : ℕ) (r : StringRead) → r ≡ pair_at s p → r.next ≡ strings_end 2 s p
past_pair s p r e = ap (λ (x : StringRead). x.next) e ∙ pair_next s p

-- past the reply's end no pair is read
pair_past : (s : List ℕ) (e : ℕ) → length s < e → pair_at s e ≡ no_string e
pair_past s e h = let k : string_end s e ≡ e = string_stays s e h in sym (pair_unread s e (rw k h)) ∙ ap no_string k

module _ (s : List ℕ) (p q : ℕ) where
  -- ---- SQLDXGRP

  -- one of the first k strings cannot be read
  dx_stays : (k : ℕ) → k ≤ 9 → Ok q ≡ group_start s p → length s < strings_end k s (q + 8) → strings_end k s (q + 8) ≡ nullable_end lenient dx_end s p
  unfolding dx_end
  dx_stays k h g l = strings_cut k 9 s (q + 8) h l ∙ sym (end_held s p q dx_end g)

  pub dx_cut : Ok q ≡ group_start s p → length s < strings_end 3 s (q + 8) → strings_end 3 s (q + 8) ≡ nullable_end lenient dx_end s p
  dx_cut g l = dx_stays 3 (omega arith) g l

  pub dx_gone : (n : StringRead) → Err q ≡ group_start s p → n ≡ no_string 0
      → record { base_table_name = n; schema_name = n; name = n; next = q } ≡ sqldxgrp_at s p
  unfolding dx_pair
  dx_gone n h e =
      let t : (k : ℕ) → n ≡ dx_pair k s p = λ k. e ∙ sym (in_gone s p q (no_string 0) _ h) in
      λ i. record { base_table_name = t 3 i; schema_name = t 5 i; name = t 7 i; next = sym (end_gone s p q dx_end h) i }

  dx_pair_held : (k : ℕ) → Ok q ≡ group_start s p → dx_pair k s p ≡ pair_at s (strings_end k s (q + 8))
  unfolding dx_pair
  dx_pair_held k h = in_held s p q (no_string 0) (λ s p. pair_at s (strings_end k s (p + 8))) h

  -- where the first k strings cannot be read, the pairs behind them cannot
  pair_behind : (k n x : ℕ) → k ≤ n → length s < x → x ≡ strings_end k s (q + 8) → pair_at s (strings_end n s (q + 8)) ≡ no_string x
  pair_behind k n x h l e =
      let f : strings_end n s (q + 8) ≡ x = sym (strings_cut k n s (q + 8) h (rw (← e) l)) ∙ sym e in
      ap (pair_at s) f ∙ pair_past s x l

  pub dx_unread : (x : ℕ) (n : StringRead) (u : Sqldxgrp) → Ok q ≡ group_start s p → x ≡ strings_end 3 s (q + 8) → length s < strings_end 3 s (q + 8)
      → n ≡ no_string x → u ≡ with_names n n n → (u ≡ sqldxgrp_at s p) × (length s < nullable_end lenient dx_end s p)
  dx_unread x n u h e l' f g =
      let l : length s < x = omega (arith, e, l') in
      let t : (k : ℕ) → 3 ≤ k → n ≡ dx_pair k s p = λ k i. f ∙ sym (dx_pair_held k h ∙ pair_behind 3 k x i l e) in
      let z : n.next ≡ nullable_end lenient dx_end s p = ap (λ (r : StringRead). r.next) f ∙ e ∙ dx_cut h l' in (
        g ∙ (λ i. record { base_table_name = t 3 (omega arith) i; schema_name = t 5 (omega arith) i; name = t 7 (omega arith) i; next = z i }),
        omega (arith, e, dx_cut h l', l'),
      )

  module _ (h : Ok q ≡ group_start s p) (a : ℕ) (e : a ≡ strings_end 3 s (q + 8)) where
    pub base_cut : length s < strings_end 2 s a → strings_end 2 s a ≡ nullable_end lenient dx_end s p
    unfolding strings_end
    base_cut l = let k : strings_end 2 s a ≡ strings_end 5 s (q + 8) = ap (strings_end 2 s) e in k ∙ dx_stays 5 (omega arith) h (rw (← k) l)

    module _ (b : StringRead) (x : b ≡ pair_at s a) where
      base_end : b.next ≡ strings_end 5 s (q + 8)
      unfolding strings_end
      base_end = past_pair s a b x ∙ ap (strings_end 2 s) e

      base_is : b ≡ dx_pair 3 s p
      base_is = x ∙ ap (pair_at s) e ∙ sym (dx_pair_held 3 h)

      -- the base's pair is the last that is looked at
      pub base_read : (m : StringRead) (u : Sqldxgrp) → length s < strings_end 2 s a → m ≡ no_string b.next → u ≡ with_names b m m
          → (u ≡ sqldxgrp_at s p) × (length s < nullable_end lenient dx_end s p)
      base_read m u l' f g =
          let l : length s < b.next = omega (arith, past_pair s a b x, l') in
          let t : (k : ℕ) → 5 ≤ k → m ≡ dx_pair k s p = λ k i. f ∙ sym (dx_pair_held k h ∙ pair_behind 5 k b.next i l base_end) in
          let n : b.next ≡ nullable_end lenient dx_end s p = base_end ∙ dx_stays 5 (omega arith) h (rw (← base_end) l) in
          let z : m.next ≡ nullable_end lenient dx_end s p = ap (λ (r : StringRead). r.next) f ∙ n in (
            g ∙ (λ i. record { base_table_name = base_is i; schema_name = t 5 (omega arith) i; name = t 7 (omega arith) i; next = z i }),
            omega (arith, n, l),
          )

      pub schema_cut : length s < strings_end 2 s b.next → strings_end 2 s b.next ≡ nullable_end lenient dx_end s p
      unfolding strings_end
      schema_cut l = let k : strings_end 2 s b.next ≡ strings_end 7 s (q + 8) = ap (strings_end 2 s) base_end in k ∙ dx_stays 7 (omega arith) h (rw (← k) l)

      module _ (c : StringRead) (y : c ≡ pair_at s b.next) where
        schema_end : c.next ≡ strings_end 7 s (q + 8)
        unfolding strings_end
        schema_end = past_pair s b.next c y ∙ ap (strings_end 2 s) base_end

        schema_is : c ≡ dx_pair 5 s p
        schema_is = y ∙ ap (pair_at s) base_end ∙ sym (dx_pair_held 5 h)

        -- the schema's pair is
        pub schema_read : (m : StringRead) (u : Sqldxgrp) → length s < strings_end 2 s b.next → m ≡ no_string c.next → u ≡ with_names b c m
            → (u ≡ sqldxgrp_at s p) × (length s < nullable_end lenient dx_end s p)
        schema_read m u l' f g =
            let l : length s < c.next = omega (arith, past_pair s b.next c y, l') in
            let t : m ≡ dx_pair 7 s p = f ∙ sym (dx_pair_held 7 h ∙ pair_behind 7 7 c.next (omega arith) l schema_end) in
            let n : c.next ≡ nullable_end lenient dx_end s p = schema_end ∙ dx_stays 7 (omega arith) h (rw (← schema_end) l) in
            let z : m.next ≡ nullable_end lenient dx_end s p = ap (λ (r : StringRead). r.next) f ∙ n in (
              g ∙ (λ i. record { base_table_name = base_is i; schema_name = schema_is i; name = t i; next = z i }),
              omega (arith, n, l),
            )

        pub name_cut : strings_end 2 s c.next ≡ nullable_end lenient dx_end s p
        unfolding strings_end dx_end
        name_cut = ap (strings_end 2 s) schema_end ∙ sym (end_held s p q dx_end h)

        pub names_held : (n : StringRead) → n ≡ pair_at s c.next → record { base_table_name = b; schema_name = c; name = n; next = n.next } ≡ sqldxgrp_at s p
        names_held n z =
            let v : n ≡ dx_pair 7 s p = z ∙ ap (pair_at s) schema_end ∙ sym (dx_pair_held 7 h) in
            let f : n.next ≡ nullable_end lenient dx_end s p = past_pair s c.next n z ∙ name_cut in
            λ i. record { base_table_name = base_is i; schema_name = schema_is i; name = v i; next = f i }

        -- all pairs are read
        pub dx_held : (n : StringRead) → n ≡ pair_at s c.next → strings_end 2 s c.next ≤ length s
            → (record { base_table_name = b; schema_name = c; name = n; next = n.next } ≡ sqldxgrp_at s p) × (nullable_end lenient dx_end s p ≤ length s)
        dx_held n z l = (names_held n z, omega (arith, name_cut, l))

        pub dx_read : (n : StringRead) (u : Sqldxgrp) → n ≡ pair_at s c.next → strings_end 2 s c.next ≤ length s → u ≡ with_names b c n
            → (u ≡ sqldxgrp_at s p) × (nullable_end lenient dx_end s p ≤ length s)
        dx_read n u z l g = let h : _ = dx_held n z l in (g ∙ h.0, h.1)

        -- the name's is cut off
        pub name_read : (n : StringRead) (u : Sqldxgrp) → n ≡ pair_at s c.next → length s < strings_end 2 s c.next → u ≡ with_names b c n
            → (u ≡ sqldxgrp_at s p) × (length s < nullable_end lenient dx_end s p)
        name_read n u z l g = (g ∙ names_held n z, omega (arith, name_cut, l))

  -- ---- SQLDOPTGRP

  pub opt_gone : (n : StringRead) → Err q ≡ group_start s p → n ≡ no_string 0 → p ≤ length s
      → (record { name = n; label = n; base_table_name = n; schema_name = n; next = q } ≡ sqldoptgrp_at s p)
      × (nullable_end lenient (opt_end lenient) s p ≤ length s)
  opt_gone n h e l =
      let t : (v : List ℕ → ℕ → StringRead) → n ≡ in_nullable (no_string 0) v s p = λ v. e ∙ sym (in_gone s p q (no_string 0) v h) in
      let f : nullable_end lenient (opt_end lenient) s p ≡ q = end_gone s p q (opt_end lenient) h in (
        (λ i. record {
          name = t opt_name i;
          label = t opt_label i;
          base_table_name = t (opt_pair 3) i;
          schema_name = t (opt_pair 5) i;
          next = sym f i;
        }),
        omega (arith, gone_room s p q h l),
      )

  -- where one of its groups cannot be read, no more can
  pub opt_names_cut : Ok q ≡ group_start s p → length s < strings_end 6 s (q + 2) → strings_end 6 s (q + 2) ≡ nullable_end lenient (opt_end lenient) s p
  unfolding dx_start opt_end
  opt_names_cut h l =
      let d = nullable_end_missing lenient udt_end s (strings_end 6 s (q + 2)) (omega arith) in
      let e = nullable_end_missing lenient dx_end s (strings_end 6 s (q + 2)) (omega arith) in
      sym (end_held s p q (opt_end lenient) h ∙ ap (nullable_end lenient dx_end s) d ∙ e)

  module _ (h : Ok q ≡ group_start s p) (m : Names) (a : NamesAt s (q + 2) m) where
    pub udt_cut : length s < nullable_end lenient udt_end s m.next → nullable_end lenient udt_end s m.next ≡ nullable_end lenient (opt_end lenient) s p
    unfolding dx_start opt_end
    udt_cut l =
        let e = nullable_end_missing lenient dx_end s (nullable_end lenient udt_end s m.next) (omega arith) in
        sym (end_held s p q (opt_end lenient) h ∙ ap (λ (x : ℕ). nullable_end lenient dx_end s (nullable_end lenient udt_end s x)) (sym (names_end s (q + 2) m a)) ∙ e)

    pub dx_last : (u : ℕ) → u ≡ nullable_end lenient udt_end s m.next → nullable_end lenient dx_end s u ≡ nullable_end lenient (opt_end lenient) s p
    unfolding dx_start opt_end
    dx_last u d =
        ap (nullable_end lenient dx_end s) (d ∙ ap (nullable_end lenient udt_end s) (names_end s (q + 2) m a)) ∙ sym (end_held s p q (opt_end lenient) h)

  pub opt_held : (m : Names) (u : ℕ) (x : Sqldxgrp) (n : StringRead) → Ok q ≡ group_start s p → NamesAt s (q + 2) m
      → u ≡ nullable_end lenient udt_end s m.next → x ≡ sqldxgrp_at s u → n ≡ chosen m.name x.name
      → record { name = n; label = m.label; base_table_name = x.base_table_name; schema_name = x.schema_name; next = x.next } ≡ sqldoptgrp_at s p
  unfolding strings_end opt_name opt_label opt_pair dx_start opt_end
  opt_held m u x n h a d e g =
      let x' = past_pair s (q + 2) m.name a.name in
      let y' = past_pair s m.name.next m.label a.label in
      let z' = a.next in
      let w' = a.label in
      let v' = a.name in
      let t : (v : List ℕ → ℕ → StringRead) → in_nullable (no_string 0) v s p ≡ v s q = λ v. in_held s p q (no_string 0) v h in
      cc (t opt_name, t opt_label, t (opt_pair 3), t (opt_pair 5), end_held s p q (opt_end lenient) h)

-- ---- the strings lie in the reply

-- the bytes of a string lie in s
abbrev pub Inside : List ℕ → StringRead → Type 0
Inside s r = r.place + r.length ≤ length s

module _ (s : List ℕ) where
  none_inside : Inside s (no_string 0)
  none_inside = omega arith

  pub dx_pair_inside : (k p : ℕ) → Inside s (dx_pair k s p)
  unfolding dx_pair
  dx_pair_inside k p =
      in_nullable_all (no_string 0) (λ s p. pair_at s (strings_end k s (p + 8))) s p (Inside s) none_inside (pair_inside s (strings_end k s (p + 1 + 8)))

  pub name_inside : (p : ℕ) → Inside s (in_nullable (no_string 0) opt_name s p)
  unfolding opt_name
  name_inside p =
      in_nullable_all (no_string 0) opt_name s p (Inside s) none_inside
      (chosen_inside (pair_at s (p + 1 + 2)) (dx_pair 7 s (dx_start lenient s (p + 1))) (length s) (pair_inside s (p + 1 + 2)) (dx_pair_inside 7 (dx_start lenient s (p + 1))))

  pub label_inside : (p : ℕ) → Inside s (in_nullable (no_string 0) opt_label s p)
  unfolding opt_label
  label_inside p = in_nullable_all (no_string 0) opt_label s p (Inside s) none_inside (pair_inside s (strings_end 2 s (p + 1 + 2)))

  pub opt_pair_inside : (k p : ℕ) → Inside s (in_nullable (no_string 0) (opt_pair k) s p)
  unfolding opt_pair
  opt_pair_inside k p = in_nullable_all (no_string 0) (opt_pair k) s p (Inside s) none_inside (dx_pair_inside k (dx_start lenient s (p + 1)))
