use Rattle.std.proofs.Common.{◌+◌, ◌∙◌, sym, ap, ap₂, arith, rules}
use Rattle.queue.proofs.Queued.{place_read, queued_sum}
use Rattle.transmission.specs.Transmission.{room_for, reply_for}
use Rattle.transmission.specs.declared.Owed.{Owed}
use Rattle.queue.proofs.Queue.owed.Goals as goal

pub loop-i-preserved : goal.loop-i-preserved
loop-i-preserved c =
    let q = c.args.self in
    let h = c.args.handle in
    let l = c.loop-i in
    let read = rw (c.place_after-at.ensures.value, place_read q.slots q.head l.i _ (search rules)) at c.owed-one.ensures.value in
    record {
      room_so_far = ap₂ ◌+◌ l.invariant.room_so_far (ap (λ (x : Owed). x.room) read) ∙ sym (queued_sum (room_for h) q.head l.i q.slots);
      replies_so_far = ap₂ ◌+◌ l.invariant.replies_so_far (ap (λ (x : Owed). x.replies) read) ∙ sym (queued_sum (reply_for h) q.head l.i q.slots);
      room_bound = omega arith;
      replies_bound = omega arith;
    }
