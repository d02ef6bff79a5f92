-- What the code makes of a queue's positions and slots (document 02, W-206).
-- Assumes nothing.
use Rattle.std.specs.Prelude.{ℕ, zero, suc, ◌-◌, Bool, false, cond, ◌||◌, List, replicate, ◌==◌, nat_lt, slice_set}
use Rattle.lists.specs.Pigeonhole.{upto}
use Rattle.queue.specs.Queue.{onward, place, slot_at, length_of}
use Rattle.queue.specs.declared.Queue.{Queue}
use Rattle.transmission.specs.Transmission.{no_transmission, orphaned, room_for, reply_for, numbered}
use Rattle.transmission.specs.declared.Owed.{Owed}
use Rattle.transmission.specs.declared.Transmission.{Transmission}

-- an empty queue, whose head and tail are at a position
abbrev pub ring_from : ℕ → Queue
ring_from p = record { head = p; tail = p; slots = replicate 32 no_transmission }

-- stored where the tail is, which goes on by one; 18 are the limit
abbrev pub ring_put : Queue → Transmission → Queue
ring_put q t = cond (nat_lt (length_of q) 18) (record { head = q.head; tail = onward q.tail 1; slots = slice_set q.slots (place q.tail) t }) q

-- the head goes on by one, and the tail is where the others end: where it was, unless the difference was past 18
abbrev pub ring_take : Queue → Queue
ring_take q = cond (length_of q == 0) q (record { head = onward q.head 1; tail = onward (onward q.head 1) (length_of q - 1); slots = q.slots })

-- the slots after a close of handle h: those of n positions from p on
abbrev pub closed_slots : ℕ → ℕ → ℕ → List Transmission → List Transmission
closed_slots h p zero slots = slots
closed_slots h p (suc n) slots = slice_set (closed_slots h p n slots) (place (onward p n)) (orphaned h (slot_at (closed_slots h p n slots) p n))

abbrev pub with_slots : Queue → List Transmission → Queue
with_slots q slots = record { head = q.head; tail = q.tail; slots = slots }

abbrev pub ring_close : Queue → ℕ → Queue
ring_close q h = with_slots q (closed_slots h q.head (length_of q) q.slots)

-- the tail where the head is
abbrev pub ring_clear : Queue → Queue
ring_clear q = record { head = q.head; tail = q.head; slots = q.slots }

-- The questions. The transmission n after the head; none past the last
abbrev pub ring_at : Queue → ℕ → Transmission
ring_at q n = cond (nat_lt n (length_of q)) (slot_at q.slots q.head n) no_transmission

-- what is owed to handle h, over the positions of the queue
abbrev pub ring_owed : Queue → ℕ → Owed
ring_owed q h = record { room = upto (λ n. room_for h (slot_at q.slots q.head n)) (length_of q); replies = upto (λ n. reply_for h (slot_at q.slots q.head n)) (length_of q) }

-- whether one of the first n has the number
abbrev pub numbered_in : Queue → ℕ → ℕ → Bool
numbered_in q number zero = false
numbered_in q number (suc n) = numbered_in q number n || numbered number (slot_at q.slots q.head n)
