-- The status of a reading: where it is refused, it is that for success.
use mathlib.Core.Path.{◌≡◌, refl, sym, ap, ◌∙◌}
use mathlib.Core.Bool.{true}
use mathlib.Core.List.{List}
use Prim.Native.Nat.{ℕ}
use Rattle.std.specs.Prelude.{Option, None, unwrap_or, Result, Ok, Err, IfOk, MatchResult}
use Rattle.std.specs.Result.{result_unwrap_or}
use Rattle.codepage.specs.Page.{Page}
use Rattle.outcome.specs.declared.Refusal.{Refusal}
use Rattle.outcome.specs.declared.Refusal.TheVariants.{EmptyReply, BufferTooShort, InvalidSqlcard, UnexpectedCodePoint, ReplyTooLong, RoomTooShort, OutsideReply, LargeObject}
use Rattle.outcome.specs.Refusal.{refusal_of, refusal_in, is_refused}
use Rattle.sqlcard.specs.declared.SqlCard.{SqlCard}
use Rattle.sqlcard.specs.declared.Group.{Group}
use Rattle.sqlcard.specs.Card.{success_card}
use Rattle.sqlcard.specs.Alone.{alone_refusal, alone_card}
use Rattle.sqlcard.specs.Group.{group_refusal, group_card}

pub refused_is : (r : Refusal) → is_refused (refusal_of r) ≡ true
refused_is EmptyReply = refl
refused_is (BufferTooShort expected actual) = refl
refused_is InvalidSqlcard = refl
refused_is (UnexpectedCodePoint point) = refl
refused_is ReplyTooLong = refl
refused_is (RoomTooShort needed) = refl
refused_is OutsideReply = refl
refused_is (LargeObject number) = refl

module _ (page : Page) (s : List ℕ) where
  pub alone_status : (r : Result (Option SqlCard) Refusal) → refusal_in r ≡ alone_refusal s → IfOk r (λ c. unwrap_or c success_card ≡ alone_card page s)
      → unwrap_or (result_unwrap_or r None) success_card ≡ alone_card page s
  unfolding alone_card
  alone_status (Ok c) e g = g
  alone_status (Err x) e g = rw (← e, refused_is x) refl

  pub null_status : (r : Result (Option SqlCard) Refusal) (c : SqlCard) → refusal_in r ≡ alone_refusal s → IfOk r (λ c. unwrap_or c success_card ≡ alone_card page s)
      → result_unwrap_or r None ≡ None → c ≡ success_card → c ≡ alone_card page s
  null_status r c e g n h = h ∙ (ap (λ (o : Option SqlCard). unwrap_or o success_card) (sym n) ∙ alone_status r e g)

  pub group_status : (r : Result Group Refusal) (c : SqlCard) → refusal_in r ≡ group_refusal s → IfOk r (λ g. g.card ≡ group_card page s)
      → MatchResult r (λ g. c ≡ g.card) (λ _. c ≡ success_card) → c ≡ group_card page s
  unfolding group_card
  group_status (Ok x) c e g h = h ∙ g
  group_status (Err x) c e g h = h ∙ rw (← e, refused_is x) refl
