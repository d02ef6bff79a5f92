use Rattle.std.proofs.Common.{◌*◌, ◌≡◌}
use Rattle.lists.specs.Vector.{shifted}
use Rattle.parts.proofs.Arrays.{with_arrays}
use Rattle.receive.proofs.receive.Given as goal

abbrev pub invariant-loop-i : goal.invariant-loop-i
invariant-loop-i l = l.parts ≡ with_arrays l.initial.parts (shifted (16 * l.handle) l.i l.initial.parts.entries) l.initial.parts.counts
