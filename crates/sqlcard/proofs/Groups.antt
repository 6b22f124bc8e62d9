-- The ways out of the SQLCA group; and that its status depends on its own bytes alone, and is that of the whole reply read alone.
use mathlib.Core.Path.{◌≡◌, refl, sym, ap, ◌∙◌}
use mathlib.Core.Bool.{Bool, true, false, true≢false, or-true}
use mathlib.Core.List.{List, [], ◌∷◌}
use Prim.Native.Nat.{ℕ, ◌≤◌, ◌<◌}
use native.Mathlib.Nat.{le_refl}
use native.Mathlib.Omega.{arith}
use lib.Dec.{ltb, eqb}
use lib.ListN.{length, get_or, take}
use lib.Seq.{length-take-le, get_or-take}
use borrow.Author.Tests.{ne_eqb, eqb-true, eqb-false, ltb-true, ltb-false}
use Rattle.codepage.specs.Page.{Page}
use Rattle.strings.specs.declared.StringRead.{StringRead}
use Rattle.strings.specs.Strings.{string_end, strings_end, no_string}
use Rattle.strings.proofs.Strings.{end_inside}
use Rattle.strings.proofs.Windows.{Window, window_self, window_take, strings_end_grows, part_same, same_here}
use Rattle.std.proofs.Common.{rules}
use Rattle.sqlca.specs.Message.{message_at}
use Rattle.sqlca.specs.Code.{fixed_chars}
use Rattle.sqlca.specs.Extension.{extension_of}
use Rattle.sqlca.proofs.Messages.{message_next}
use Rattle.sqlca.proofs.Local as local
use Rattle.sqlcard.specs.Card.{success_card, card_with}
use Rattle.sqlcard.specs.Alone.{starts_null, is_null, alone_end, alone_message, alone_card}
use Rattle.sqlcard.specs.Group.{group_end, group_message, group_refusal, group_bytes, group_card}
use Rattle.sqlcard.proofs.Cards.{card_made}
use Rattle.sqlcard.proofs.Alones.{message_absent, message_behind_warnings, alone_next, null_card, read_card}

pub null_not_empty : (s : List ℕ) → starts_null s ≡ true → 0 < length s
null_not_empty [] e = absurd (true≢false (sym e))
null_not_empty (b ∷ bs) e = omega arith

-- ---- past the group

module _ (s : List ℕ) where
  pub end_null : starts_null s ≡ true → group_end s ≡ 1
  unfolding group_end
  end_null e = rw e refl

  module _ (e : starts_null s ≡ false) where
    pub end_short : length s < 19 → group_end s ≡ 19
    unfolding group_end
    end_short h = rw e (search rules)

    module _ (h : 19 ≤ length s) where
      pub end_plain : eqb (get_or s 18 0) 0xFF ≡ true → group_end s ≡ 19
      unfolding group_end
      end_plain f = rw (e, f) (search rules)

      pub end_cut : eqb (get_or s 18 0) 0xFF ≡ false → length s < 56 → group_end s ≡ 56
      unfolding group_end
      end_cut f k = rw (e, f) (search rules)

      pub end_extended : eqb (get_or s 18 0) 0xFF ≡ false → 56 ≤ length s → group_end s ≡ strings_end 3 s 54
      unfolding group_end
      end_extended f k = rw (e, f) (search rules)

-- ---- the group's message

module _ (page : Page) (s : List ℕ) where
  pub message_plain : eqb (get_or s 18 0) 0xFF ≡ true → group_message page s ≡ no_string 19
  unfolding group_message
  message_plain f = rw f refl

  pub message_due : eqb (get_or s 18 0) 0xFF ≡ false → 56 ≤ length s → group_message page s ≡ message_at page s 54
  unfolding group_message
  message_due f k = rw f (search rules)

  -- past the message is past the group
  pub group_next : starts_null s ≡ false → 19 ≤ length s → (group_message page s).next ≡ group_end s
  unfolding group_message group_end
  group_next e h = rw e (search (rules, message_next))

-- ---- locality: v begins with the group of s

-- what a group that can be read has: no extension, or one in full
data Read (s : List ℕ) : Type 0 where
  plain : eqb (get_or s 18 0) 0xFF ≡ true → group_end s ≡ 19 → Read s
  extended : eqb (get_or s 18 0) 0xFF ≡ false → 56 ≤ length s → group_end s ≡ strings_end 3 s 54 → Read s

read_as : (s : List ℕ) → starts_null s ≡ false → group_end s ≤ length s → Read s
read_as s e h = go (ltb (length s) 19) refl (eqb (get_or s 18 0) 0xFF) refl (ltb (length s) 56) refl
  where
    go : (b : Bool) → ltb (length s) 19 ≡ b → (c : Bool) → eqb (get_or s 18 0) 0xFF ≡ c → (d : Bool) → ltb (length s) 56 ≡ d → Read s
    go true p c f d g = absurd (omega (arith, end_short s e (ltb-true (length s) 19 p), ltb-true (length s) 19 p, h))
    go false p true f d g = plain f (end_plain s e (ltb-false (length s) 19 p) f)
    go false p false f true g =
        absurd (omega (arith, end_cut s e (ltb-false (length s) 19 p) f (ltb-true (length s) 56 g), ltb-true (length s) 56 g, h))
    go false p false f false g =
        extended f (ltb-false (length s) 56 g) (end_extended s e (ltb-false (length s) 19 p) f (ltb-false (length s) 56 g))

module _ (s v : List ℕ) (n : ℕ) (w : Window s 0 v 0 n) (e : starts_null s ≡ false) (h : group_end s ≤ n) where
  there : group_end s ≤ length s
  there = omega (arith, w.inside)

  due : 56 ≤ length s → group_end s ≡ strings_end 3 s 54 → 56 ≤ n
  unfolding strings_end
  due k g =
      let m : string_end s 54 ≤ group_end s = omega (arith, strings_end_grows 2 s (string_end s 54)) in
      omega (arith, (end_inside s 54 (omega (arith, there))).1)

  room : 19 ≤ n
  room = go (read_as s e there)
    where
      go : Read s → 19 ≤ n
      go (plain f g) = omega arith
      go (extended f k g) = omega (arith, due k g)

  not_null : starts_null v ≡ false
  not_null = ap (λ (b : ℕ). eqb b 0xFF) (sym (local.byte_at s v n w 0 (omega (arith, room)))) ∙ e

  module _ (page : Page) where
    extension_same : Read s → extension_of v ≡ extension_of s
    extension_same (plain f g) = sym (local.no_extension_same s v n w room (eqb-true (get_or s 18 0) 0xFF f))
    extension_same (extended f k g) = sym (local.extension_same s v n w (omega (arith, due k g)) (eqb-false (get_or s 18 0) 0xFF f))

    message_same : Read s → alone_message page v ≡ group_message page s
    message_same (plain f g) =
        message_absent page v (local.absent_there s v n w room (eqb-true (get_or s 18 0) 0xFF f)) ∙ sym (message_plain page s f)
    message_same (extended f k g) =
        let z : strings_end 3 s 54 ≤ n = omega arith in
        message_behind_warnings page v (local.extended_there s v n w (omega (arith, due k g)) (eqb-false (get_or s 18 0) 0xFF f))
        (omega (arith, due k g, w.inside'))
        ∙ (sym (local.message_same s v n w page 54 z) ∙ sym (message_due page s f k))

    alone_end_is : alone_end v ≡ group_end s
    alone_end_is =
        sym (alone_next page v)
        ∙ (ap (λ (r : StringRead). r.next) (message_same (read_as s e there)) ∙ group_next page s e (omega (arith, room, w.inside)))

    card_same : card_with page v (alone_message page v) ≡ card_with page s (group_message page s)
    card_same =
        let r = read_as s e there in
        sym (card_made page v refl refl refl refl refl)
        ∙ card_made page s (sym (local.code_same s v n w room)) (ap (fixed_chars page) (sym (local.state_same s v n w room)))
        (ap (fixed_chars page) (sym (local.proc_same s v n w room)))
        (extension_same r)
        (message_same r)

    -- read alone, any reply that begins with the group gives the group's status
    pub status_alone : length v ≤ 65536 → alone_card page v ≡ card_with page s (group_message page s)
    status_alone l =
        let a : 19 ≤ length v = omega (arith, room, w.inside') in
        let b : eqb (length v) 0 ≡ false = ne_eqb (length v) 0 (λ z. omega arith) in
        let c : is_null v ≡ false = rw (b, not_null) refl in
        read_card page v l c a (omega (arith, alone_end_is, w.inside')) ∙ card_same

  -- and has the same end of the group
  end_same : Read s → group_end v ≡ group_end s
  end_same (plain f g) =
      end_plain v not_null (omega (arith, room, w.inside')) (ap (λ (b : ℕ). eqb b 0xFF) (sym (local.byte_at s v n w 18 (omega (arith, room)))) ∙ f) ∙ sym g
  end_same (extended f k g) =
      end_extended v not_null (omega (arith, room, w.inside'))
      (ap (λ (b : ℕ). eqb b 0xFF) (sym (local.byte_at s v n w 18 (omega (arith, room)))) ∙ f)
      (omega (arith, due k g, w.inside'))
      ∙ (sym (local.end_same s v n w 3 54 (omega arith)) ∙ sym g)

-- ---- the group's status record

module _ (page : Page) (s : List ℕ) (h : length s ≤ 65536) where
  taken : group_end s ≤ length s → group_card page s ≡ alone_card page (group_bytes s)
  unfolding group_card group_refusal
  taken k = search rules

  pub group_null : starts_null s ≡ true → group_card page s ≡ success_card
  group_null e =
      let g = end_null s e in
      let l : 0 < length s = null_not_empty s e in
      let b : get_or (group_bytes s) 0 0 ≡ get_or s 0 0 = get_or-take (group_end s) s 0 0 (omega (arith, g)) in
      let z : is_null (group_bytes s) ≡ true = rw (b, e) (or-true (eqb (length (group_bytes s)) 0)) in
      taken (omega (arith, g)) ∙ null_card page (group_bytes s) z

  pub group_read : starts_null s ≡ false → group_end s ≤ length s → group_card page s ≡ card_with page s (group_message page s)
  group_read e k =
      let n : length (group_bytes s) ≡ group_end s = length-take-le (group_end s) s k in
      taken k ∙ status_alone s (group_bytes s) (group_end s) (window_take s (group_end s) k) e (le_refl (group_end s)) page (omega arith)

-- ---- the laws for the layers above

-- where the group can be read, the status read alone on the whole reply is the same
pub alone_as_group : (page : Page) (s : List ℕ) → length s ≤ 65536 → group_end s ≤ length s → alone_card page s ≡ group_card page s
alone_as_group page s h k = go (starts_null s) refl
  where
    go : (b : Bool) → starts_null s ≡ b → alone_card page s ≡ group_card page s
    go true e =
        null_card page s (rw e (or-true (eqb (length s) 0))) ∙ sym (group_null page s h e)
    go false e = status_alone s s (group_end s) (window_self s (group_end s) k) e (le_refl (group_end s)) page h ∙ sym (group_read page s h e k)

-- the group and its status depend on the group's bytes alone: another reply that begins with them has both
module _ (s v : List ℕ) (n : ℕ) (w : Window s 0 v 0 n) (k : group_end s ≤ n) where
  pub group_end_same : group_end v ≡ group_end s
  group_end_same = go (starts_null s) refl
    where
      go : (b : Bool) → starts_null s ≡ b → group_end v ≡ group_end s
      go true e =
          let g = end_null s e in
          end_null v (ap (λ (b : ℕ). eqb b 0xFF) (sym (local.byte_at s v n w 0 (omega (arith, g)))) ∙ e) ∙ sym g
      go false e = end_same s v n w e k (read_as s e (omega (arith, w.inside)))

  pub group_bytes_same : group_bytes v ≡ group_bytes s
  group_bytes_same =
      ap (λ (m : ℕ). take m v) group_end_same ∙ sym (part_same s 0 v 0 n w 0 0 (group_end s) (same_here 0) (omega arith))

  pub group_status_same : (page : Page) → length s ≤ 65536 → length v ≤ 65536 → group_card page v ≡ group_card page s
  group_status_same page a b =
      let i : group_end s ≤ length s = omega (arith, w.inside) in
      let j : group_end v ≤ length v = omega (arith, w.inside', group_end_same) in
      taken page v b j ∙ (ap (alone_card page) group_bytes_same ∙ sym (taken page s a i))
