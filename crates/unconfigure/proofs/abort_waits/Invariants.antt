use Rattle.std.proofs.Common.{◌≡◌, take}
use Rattle.unconfigure.specs.Aborted.{waits_aborted}
use Rattle.inbox.specs.Inboxes.{inboxes_of}
use Rattle.waits.specs.Waits.{waits_of}
use Rattle.unconfigure.proofs.abort_waits.Given as goal

abbrev pub invariant-loop-i : goal.invariant-loop-i
invariant-loop-i l = inboxes_of l.after ≡ waits_aborted (inboxes_of l.fn.inboxes) (take l.i (waits_of l.waits))
