use Rattle.std.proofs.Common.{◌≡◌, true, arith, sym, ◌∙◌}
use Rattle.queue.specs.Queue.{queue_of}
use Rattle.rules.specs.Number.{candidate}
use Rattle.rules.specs.Owed.{is_taken}
use Rattle.traffic.proofs.Search.{candidate_next, search_start, search_on}
use Rattle.traffic.specs.Traffic.{pending_of}
use Rattle.waits.specs.Waits.{waits_of}
use Rattle.wire.specs.Wire.{wire_of}
use Rattle.traffic.proofs.next_sequence.Goals as goal

pub loop-i-init : goal.loop-i-init
loop-i-init c =
    let a = c.args in (
      c.next_after-sequence.ensures,
      search_start (wire_of a.wire) (queue_of a.queue) (waits_of a.waits) a.last _ _ _ c.count.ensures.value c.count-2.ensures.value c.count-3.ensures.value,
    )

pub loop-i-preserved : goal.loop-i-preserved
loop-i-preserved c =
    let a = c.args in
    let l = c.loop-i in
    let live = is_taken (pending_of a.wire a.queue) (waits_of a.waits) in
    let e : live (candidate a.last l._i) ≡ true = rw (← l.invariant.0) (sym c.is_live.ensures ∙ c.if-not-is_live.false) in (
      c.next_after-sequence-in-loop-i.ensures ∙ rw l.invariant.0 (candidate_next a.last l._i),
      l.invariant.1 ∙ search_on live a.last _ l._i (omega arith) e,
    )
