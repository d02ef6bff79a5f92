-- No handle before the next is closed.
use Rattle.std.proofs.Common.{false, ◌≡◌, take}
use Rattle.lists.specs.Sums.{any}
use Rattle.handles.specs.Roles.{is_closed}
use Rattle.handles.proofs.Handles.lowest_closed.Given as goal

abbrev pub invariant-loop-i : goal.invariant-loop-i
invariant-loop-i l = any is_closed (take l.i l.fn.self.slots) ≡ false
