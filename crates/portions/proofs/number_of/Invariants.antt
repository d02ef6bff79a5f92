-- A number that may grow is below 6,553.
use Rattle.std.proofs.Common.{◌≤◌}
use Rattle.portions.proofs.number_of.Given as goal

abbrev pub invariant-loop-byte : goal.invariant-loop-byte
invariant-loop-byte l = l.n ≤ 65536
