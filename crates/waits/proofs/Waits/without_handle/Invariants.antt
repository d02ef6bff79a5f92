use Rattle.std.proofs.Common.{not}
use Rattle.lists.specs.Vector.{Kept}
use Rattle.wait.specs.Wait.{owned_by}
use Rattle.waits.proofs.Waits.without_handle.Given as goal

abbrev pub invariant-loop-i : goal.invariant-loop-i
invariant-loop-i l = Kept (λ w. not (owned_by l.handle w)) l.fn.self.slots l.i l.self.slots l.kept
