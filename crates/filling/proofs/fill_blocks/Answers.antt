-- The block is stored behind those that came before.
use Rattle.std.proofs.Common.{arith, refl}
use mathlib.Core.List.{flat_map}
use Rattle.search.proofs.Writing.{writing_block}
use Rattle.filling.proofs.Filling.{filling_start, filling_next, flat_more, stored_block, room_left}
use borrow.Rule.Slice.PartMut.{same_len_mid}
use Rattle.filling.proofs.fill_blocks.Goals as goal

pub loop-item-init : goal.loop-item-init
unfolding flat_map
loop-item-init g c =
    rw c.into_iter-item-iterator.ensures.into_iter_gives
    (record {
      can = c.requires.can;
      ends = c.requires.in_room.0;
      accepts = c.requires.puts;
      fits = omega (arith, c.requires.in_room.1);
      filling = λ blocks puts. filling_start g.I.Iterator.next_gives (flat_map blocks) _ _ refl;
    })

pub loop-item-preserved : goal.loop-item-preserved
loop-item-preserved g c =
    let inv = c.loop-item.invariant in
    let on = c.in-Some.ensures.goes.on inv.ends in
    let room = room_left _ _ _ _ _ on.2 inv.fits in
    record {
      can = on.0;
      ends = on.1;
      accepts = inv.accepts;
      fits = rw (same_len_mid _ _ _ _ c.put.auto.arg3) room.1;
      filling = λ blocks puts.
          filling_next g.I.Iterator.next_gives (flat_map blocks) c.in-Some.item _ (blocks c.in-Some.item) _ _ (flat_more blocks c.in-Some.item)
          (puts.widths _)
          (λ w. writing_block _ _ _ (puts.widths _) room.0
          (stored_block _ _ _ _ _ (puts.widths _) (omega (arith, room.0)) (puts.puts _ _ _ c.put.ensures)))
          c.in-Some.ensures.steps (inv.filling blocks puts);
    }
