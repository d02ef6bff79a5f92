use Rattle.std.proofs.Common.{◌≡◌, arith, rules, length}
use Rattle.lists.specs.Vector.{mapped_next}
use Rattle.wait.specs.Wait.{reduced}
use Rattle.waits.proofs.Waits.reduced.Goals as goal

pub loop-i-preserved : goal.loop-i-preserved
loop-i-preserved c =
    let w = c.args.self in
    let l = c.loop-i in
    let long : length w.slots ≡ 32 = search rules in
    record {
      count_stays = l.invariant.count_stays;
      slots_so_far = rw (c.reduced.ensures, l.invariant.slots_so_far) (mapped_next (reduced c.args.ms) l.i w.slots _ (omega arith));
    }
