use Rattle.std.proofs.Common.{sym, arith, rules, eq-eqb, ne_eqb}
use Rattle.queue.specs.Queue.{length_of}
use Rattle.queue.proofs.Queued.{place_read, queued_passed, queued_found}
use Rattle.transmission.specs.Transmission.{numbered}
use Rattle.queue.proofs.Queue.has_sequence.Goals as goal

pub returns-then-self-at : goal.returns-then-self-at
returns-then-self-at c =
    let q = c.args.self in
    let i = c.loop-i.i in
    let read = rw (c.place_after-at.ensures.value, place_read q.slots q.head i _ (search rules)) at c.if-self-at.true in
    sym (queued_found (numbered c.args.sequence) q.head (length_of q) i q.slots (omega (arith, c.length-n.ensures.value)) (eq-eqb _ _ read))

pub loop-i-preserved : goal.loop-i-preserved
loop-i-preserved c =
    let q = c.args.self in
    let i = c.loop-i.i in
    let read = rw (c.place_after-at.ensures.value, place_read q.slots q.head i _ (search rules)) at c.if-self-at.false in
    queued_passed (numbered c.args.sequence) q.head i q.slots c.loop-i.invariant (ne_eqb _ _ read)
