use Rattle.std.proofs.Common.{◌≡◌, false, Result, Ok, Err, OnOk, is_err, refl, rules}
use Rattle.std.specs.Result.{is_err}
use Rattle.merkle_pages.proofs.WayLaws.{SetsWay-none, SetsWay-more, room-put}
use Rattle.merkle_pages.proofs.way.write_way.Goals as goal

written : {A E P : Type 0} (result : Result A E) → is_err result ≡ false → OnOk result P → P
written (Ok value) is holds = holds
written (Err why) is holds = cc is

pub loop-level-init : goal.loop-level-init
loop-level-init c = record {
  sets = SetsWay-none c.args.coin c.args.digests.now c.args.defaults.now c.args.pages.now;
  room = c.requires;
}

pub loop-level-preserved : goal.loop-level-preserved
loop-level-preserved c =
    let puts = written c.put_node.result (search rules) c.put_node.ensures.ok in
    record {
      sets = SetsWay-more c.args.coin c.loop-level.level c.args.digests.now c.args.defaults.now _ c.args.pages.now
          c.loop-level.pages c.put_node.new.pages c.loop-level.invariant.sets puts refl;
      room = λ level lt. room-put c.loop-level.level c.args.coin _ c.loop-level.pages c.put_node.new.pages puts level
          (c.loop-level.invariant.room level lt);
    }
