use Rattle.std.proofs.Common.{◌-◌, ◌≡◌, ◌≤◌, length}
use Rattle.listing.proofs.Written.{written}
use Rattle.listing.proofs.listing.Given as goal

abbrev pub invariant-loop-i : goal.invariant-loop-i
invariant-loop-i l = (8 ≤ length l.initial.rows) × (l.rows ≡ written l.adapter l.i l.initial.rows)
