use Rattle.std.proofs.Common.{◌∙◌, ◌+◌, ◌≡◌, sym, arith, take, length-take-le}
use Rattle.lists.specs.Places.{least, least_next, least_lt}
use Rattle.lists.specs.Vector.{within_slots}
use Rattle.wait.specs.Wait.{left_of, no_wait}
use Rattle.waits.proofs.Waits.soonest.Goals as goal

pub loop-i-preserved : goal.loop-i-preserved
loop-i-preserved c =
    let w = c.args.self in
    let l = c.loop-i in
    let h = within_slots w.slots w.count _ c.count-n.ensures.value l.i (omega arith) in
    let e : c.sooner-at.result ≡ least left_of (take (l.i + 1) w.slots) =
    c.sooner-at.ensures ∙ rw l.invariant.least_so_far (sym (least_next left_of w.slots l.i no_wait (omega arith) h)) in
    let n = length-take-le (l.i + 1) w.slots (omega arith) in
    record {
      behind = omega (arith, least_lt left_of (take (l.i + 1) w.slots) (omega arith));
      least_so_far = e;
    }
