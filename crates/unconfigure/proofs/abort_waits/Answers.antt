use Rattle.std.proofs.Common.{arith, sym}
use Rattle.inbox.specs.Inboxes.{inboxes_of, delivered_next}
use Rattle.rules.specs.Unconfigure.{abort_entry}
use Rattle.wait.specs.Wait.{no_wait}
use Rattle.waits.specs.Waits.{waits_of}
use Rattle.unconfigure.proofs.abort_waits.Goals as goal

pub loop-i-preserved : goal.loop-i-preserved
loop-i-preserved c =
    let a = c.args in
    let l = c.loop-i in
    let e = c.count-i-end.ensures.value in
    rw (c.abort_wait-after.ensures, c.at.ensures, l.invariant)
    (sym (delivered_next (λ x. x.owner) abort_entry (inboxes_of a.inboxes) (waits_of a.waits) l.i no_wait (omega arith)))
