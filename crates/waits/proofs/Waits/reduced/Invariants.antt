use Rattle.std.proofs.Common.{◌≡◌}
use Rattle.lists.specs.Vector.{mapped}
use Rattle.wait.specs.Wait.{reduced}
use Rattle.waits.proofs.Waits.reduced.Given as goal

abbrev pub invariant-loop-i : goal.invariant-loop-i
invariant-loop-i l = record { count_stays : l.self.count ≡ l.fn.self.count; slots_so_far : l.self.slots ≡ mapped (reduced l.ms) l.i l.fn.self.slots }
