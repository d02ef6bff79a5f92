-- The search found the first.
use Rattle.std.proofs.Common.{not, arith, sym, ap, take_all}
use Rattle.lists.specs.Places.{first_here}
use Rattle.rules.specs.State.{closed_handle}
use Rattle.handles.specs.Roles.{is_closed}
use Rattle.handles.proofs.Handles.lowest_closed.Goals as goal

pub returns-then-not-slot-clause-value : goal.returns-then-not-slot-clause-value
returns-then-not-slot-clause-value c =
    let x = c.args.self in
    let t = take_all 8 x.slots (omega arith) in
    sym (rw t at (first_here is_closed x.slots c.loop-i.i 8 closed_handle (omega arith) (omega arith) c.loop-i.invariant (ap not c.if-not-slot.true)))
