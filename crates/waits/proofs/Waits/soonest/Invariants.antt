use Rattle.std.proofs.Common.{◌≡◌, ◌<◌, take}
use Rattle.lists.specs.Places.{least}
use Rattle.wait.specs.Wait.{left_of}
use Rattle.waits.proofs.Waits.soonest.Given as goal

abbrev pub invariant-loop-i : goal.invariant-loop-i
invariant-loop-i l = record { behind : l.at < l.i; least_so_far : l.at ≡ least left_of (take l.i l.self.slots) }
