-- Document 01's queue as a plain list and the one in the ring are the same (document 02, W-206).
-- Assumes nothing.
use Rattle.std.proofs.Common.{◌≡◌, ℕ, ◌-◌, ◌<◌, ◌≤◌, eqb, ltb, List, [], ◌∷◌, length, sym, refl, ap, ◌∙◌, ap₂, arith, length-set, ltb-true}
use borrow.Author.Tests.{eqb-false}
use Rattle.lists.specs.Tests.{split}
use Rattle.queue.specs.Operations.{Change, put_last, take_head, close_handle, empty_all, Question, ask_count, ask_at, ask_owed, ask_sequence, Operation, change, ask}
use Rattle.queue.specs.Operations.{transmission, number, owed, truth, list_changed, list_answer, ring_changed, ring_answer}
use Rattle.queue.specs.Operations.{list_answers, ring_answers, list_end, ring_end, SameQueue}
use Rattle.queue.specs.Queue.{onward, place, distance, length_of, queue_of}
use Rattle.queue.specs.Ring.{ring_from, ring_put, ring_take, ring_clear}
use Rattle.queue.specs.declared.Queue.{Queue}
use Rattle.transmission.specs.declared.Transmission.{Transmission}
use Rattle.queue.proofs.Positions.{distance_none, distance_more, distance_onward, onward_end}
use Rattle.queue.proofs.Queued.{put_ring, take_ring, close_ring, empty_ring, length_closed, length_queue, at_ring, owed_ring, sequence_ring}

-- one change
queued_changed : (q : Queue) (c : Change) → length q.slots ≡ 32 → queue_of (ring_changed q c) ≡ list_changed (queue_of q) c
queued_changed q (put_last t) long = put_ring q t long
queued_changed q take_head long = take_ring q
queued_changed q (close_handle h) long = close_ring q h long
queued_changed q empty_all long = empty_ring (ring_clear q) refl

slots_changed : (q : Queue) (c : Change) → length q.slots ≡ 32 → length (ring_changed q c).slots ≡ 32
slots_changed q (put_last t) long = split (ltb (length_of q) 18) (λ e. rw e (length-set q.slots (place q.tail) t ∙ long)) (λ e. rw e long)
slots_changed q take_head long = split (eqb (length_of q) 0) (λ e. rw e long) (λ e. rw e long)
slots_changed q (close_handle h) long = length_closed h q.head (length_of q) q.slots ∙ long
slots_changed q empty_all long = long

-- one question
same_answer : (q : Queue) (x : Question) → ring_answer q x ≡ list_answer (queue_of q) x
same_answer q ask_count = ap number (sym (length_queue q))
same_answer q (ask_at n) = ap transmission (at_ring q n)
same_answer q (ask_owed h) = ap owed (owed_ring q h)
same_answer q (ask_sequence n) = ap truth (sequence_ring q n)

-- any operations, whatever is queued at first
same_run : (os : List Operation) (q : Queue) (ts : List Transmission) → length q.slots ≡ 32 → queue_of q ≡ ts
    → (ring_answers q os ≡ list_answers ts os) × (queue_of (ring_end q os) ≡ list_end ts os)
same_run [] q ts long e = (refl, e)
same_run (change c ∷ os) q ts long e =
    same_run os (ring_changed q c) (list_changed ts c) (slots_changed q c long) (queued_changed q c long ∙ ap (λ (l : List Transmission). list_changed l c) e)
same_run (ask x ∷ os) q ts long e =
    let rest = same_run os q ts long e in
    (ap₂ ◌∷◌ (same_answer q x ∙ ap (λ (l : List Transmission). list_answer l x) e) rest.0, rest.1)

-- "both empty at first and its head anywhere, give over any calls the same answers and the same messages in the same order, across the wrap too":
-- of any queue that holds nothing, and so of one that begins at any position
pub same_queue : (q : Queue) → length q.slots ≡ 32 → queue_of q ≡ [] → (os : List Operation) → SameQueue q os
same_queue q long e os = same_run os q [] long e

pub same_from : (p : ℕ) (os : List Operation) → SameQueue (ring_from p) os
same_from p os = same_queue (ring_from p) refl (empty_ring (ring_from p) refl) os

-- no operation leads past 18, and so a head that is taken leaves the tail where it was
put_within : (q : Queue) (t : Transmission) → distance q.head q.tail ≤ 18 → distance (ring_put q t).head (ring_put q t).tail ≤ 18
put_within q t h =
    split (ltb (length_of q) 18)
    (λ e. let less : distance q.head q.tail < 18 = omega (arith, ltb-true (length_of q) 18 e) in rw e (omega (arith, distance_more q.head q.tail less)))
    (λ e. rw e h)

take_within : (q : Queue) → distance q.head q.tail ≤ 18 → distance (ring_take q).head (ring_take q).tail ≤ 18
take_within q h =
    let p : ℕ = onward q.head 1 in
    split (eqb (length_of q) 0) (λ e. rw e h) (λ e. rw e (omega (arith, distance_onward p (length_of q - 1) (omega arith))))

within_changed : (q : Queue) (c : Change) → distance q.head q.tail ≤ 18 → distance (ring_changed q c).head (ring_changed q c).tail ≤ 18
within_changed q (put_last t) h = put_within q t h
within_changed q take_head h = take_within q h
within_changed q (close_handle i) h = h
within_changed q empty_all h = omega (arith, distance_none q.head)

pub always_within : (os : List Operation) (q : Queue) → distance q.head q.tail ≤ 18 → distance (ring_end q os).head (ring_end q os).tail ≤ 18
always_within [] q h = h
always_within (change c ∷ os) q h = always_within os (ring_changed q c) (within_changed q c h)
always_within (ask x ∷ os) q h = always_within os q h

pub tail_stays : (q : Queue) → q.tail < 4294967296 → distance q.head q.tail ≤ 18 → (ring_take q).tail ≡ q.tail
tail_stays q t h = split (eqb (length_of q) 0) (λ e. rw e) (λ e. rw e (onward_end q.head q.tail (length_of q) t (omega arith) (eqb-false (length_of q) 0 e)))
