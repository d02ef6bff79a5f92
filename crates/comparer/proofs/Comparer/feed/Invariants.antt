use Rattle.std.proofs.Common.{◌+◌, ◌-◌, length}
use Rattle.comparer.proofs.Feeding.{Feeding}
use Rattle.comparer.specs.Comparer.{comparing_of}
use Rattle.comparer.proofs.Comparer.feed.Given as goal

abbrev pub invariant-loop-self : goal.invariant-loop-self
invariant-loop-self l = Feeding (comparing_of l.fn.self) l.left l.right (comparing_of l.self) l.l l.r

abbrev pub decreases-loop-self : goal.decreases-loop-self
decreases-loop-self l = (length l.left - l.l) + (length l.right - l.r)
