-- The depth of the deeper falls at each call.
use Rattle.std.proofs.Common.{max}
use Rattle.route.specs.Address.{depth}
use Rattle.route.proofs.address.+common_ancestor.Given as goal

abbrev pub decreases-common_ancestor : goal.decreases-common_ancestor
decreases-common_ancestor l = max (depth l.first) (depth l.second)
