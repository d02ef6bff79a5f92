use Rattle.std.proofs.Common.{arith, not}
use Rattle.lists.specs.Tests.{bit_not}
use Rattle.lists.specs.Vector.{within_slots, keep_next}
use Rattle.wait.specs.Wait.{owned_by}
use Rattle.waits.proofs.Waits.without_handle.Goals as goal

pub loop-i-preserved : goal.loop-i-preserved
loop-i-preserved c =
    let w = c.args.self in
    let l = c.loop-i in
    let h = within_slots w.slots w.count _ c.count-n.ensures.value l.i (omega arith) in
    rw (c.owned_by.ensures.value, bit_not) (keep_next (λ x. not (owned_by c.args.handle x)) w.slots l.i l.self.slots l.kept _ h l.invariant)
