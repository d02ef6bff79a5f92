use Rattle.std.proofs.Common.{◌-◌, ◌≡◌}
use Rattle.rules.specs.Number.{candidate, first_free, sequence_after}
use Rattle.rules.specs.Owed.{is_taken}
use Rattle.waits.specs.Waits.{waits_of}
use Rattle.traffic.specs.Traffic.{pending_of}
use Rattle.traffic.proofs.next_sequence.Given as goal

abbrev pub invariant-loop-i : goal.invariant-loop-i
invariant-loop-i l =
    (l.sequence ≡ candidate l.last l._i)
    × (sequence_after (pending_of l.wire l.queue) (waits_of l.waits) l.last ≡ first_free (is_taken (pending_of l.wire l.queue) (waits_of l.waits)) l.last (l.tries - l._i) l._i)
