use Rattle.std.proofs.Common.{◌≡◌, false, take}
use Rattle.lists.specs.Sums.{any}
use Rattle.wait.specs.Wait.{answered_by}
use Rattle.waits.proofs.Waits.first_match.Given as goal

abbrev pub invariant-loop-place : goal.invariant-loop-place
invariant-loop-place l = any (answered_by l.message) (take l.place l.self.slots) ≡ false
