use lib.Seq.{sets}
use Rattle.records.specs.Numbers.{all_bytes}
use Rattle.records.proofs.Storing.{put_room, put_next, put_end}
use Rattle.records.proofs.numbers.put_each.Goals as goal

pub loop-item-preserved : goal.loop-item-preserved
loop-item-preserved g c =
    let held = c.loop-item.invariant in
    record {
      room = put_room g.T.Store.bytes c.args.items.now c.item-item.result c.loop-item.out
          (sets c.args.out.now c.args.start (all_bytes g.T.Store.bytes c.args.items.now)) c.put-at.new.out c.loop-item.item-index c.loop-item.at c.put-at.result
          c.loop-item-test.true c.item-item.is c.put-at.ensures held.room held.stored;
      stored = put_next g.T.Store.bytes c.args.items.now c.item-item.result c.loop-item.out
          (sets c.args.out.now c.args.start (all_bytes g.T.Store.bytes c.args.items.now)) c.put-at.new.out c.loop-item.item-index c.loop-item.at c.put-at.result
          c.loop-item-test.true c.item-item.is c.put-at.ensures held.room held.stored;
    }

pub returns : goal.returns
returns g c =
    put_end g.T.Store.bytes c.args.items.now c.loop-item.out
    (sets c.args.out.now c.args.start (all_bytes g.T.Store.bytes c.args.items.now)) c.loop-item.item-index c.loop-item.at c.loop-item-test.false c.loop-item.invariant.stored
