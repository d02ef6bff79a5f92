-- Any list of operations on a queue: what they answer, and what is queued afterwards, of document 01's queue as a plain list and of the one in the ring (document 02, W-206).
-- Assumes nothing.
use Rattle.std.specs.Prelude.{◌≡◌, ℕ, Bool, List, [], ◌∷◌, map, length, drop, slice_index_or}
use Rattle.lists.specs.Sums.{any}
use Rattle.lists.specs.Vector.{put}
use Rattle.queue.specs.Queue.{length_of, queue_of}
use Rattle.queue.specs.Ring.{ring_put, ring_take, ring_close, ring_clear, ring_at, ring_owed, numbered_in}
use Rattle.queue.specs.declared.Queue.{Queue}
use Rattle.transmission.specs.Transmission.{no_transmission, orphaned, numbered, owed_by}
use Rattle.transmission.specs.declared.Owed.{Owed}
use Rattle.transmission.specs.declared.Transmission.{Transmission}

-- put, take the head, close of a handle, empty
pub data Change : Type 0 where
  put_last : Transmission → Change
  take_head : Change
  close_handle : ℕ → Change
  empty_all : Change

-- how many there are; the one n after the head; what is owed to a handle, room and replies; whether a number is queued
pub data Question : Type 0 where
  ask_count : Question
  ask_at : ℕ → Question
  ask_owed : ℕ → Question
  ask_sequence : ℕ → Question

pub data Operation : Type 0 where
  change : Change → Operation
  ask : Question → Operation

pub data QueueAnswer : Type 0 where
  transmission : Transmission → QueueAnswer
  number : ℕ → QueueAnswer
  owed : Owed → QueueAnswer
  truth : Bool → QueueAnswer

-- document 01's queue, "18 messages, first in, first out": a plain list
abbrev pub list_changed : List Transmission → Change → List Transmission
list_changed ts (put_last t) = put 18 ts t
list_changed ts take_head = drop 1 ts
list_changed ts (close_handle h) = map (orphaned h) ts
list_changed ts empty_all = []

abbrev pub list_answer : List Transmission → Question → QueueAnswer
list_answer ts ask_count = number (length ts)
list_answer ts (ask_at n) = transmission (slice_index_or ts n no_transmission)
list_answer ts (ask_owed h) = owed (owed_by h ts)
list_answer ts (ask_sequence n) = truth (any (numbered n) ts)

-- the queue in the ring
abbrev pub ring_changed : Queue → Change → Queue
ring_changed q (put_last t) = ring_put q t
ring_changed q take_head = ring_take q
ring_changed q (close_handle h) = ring_close q h
ring_changed q empty_all = ring_clear q

abbrev pub ring_answer : Queue → Question → QueueAnswer
ring_answer q ask_count = number (length_of q)
ring_answer q (ask_at n) = transmission (ring_at q n)
ring_answer q (ask_owed h) = owed (ring_owed q h)
ring_answer q (ask_sequence n) = truth (numbered_in q n (length_of q))

-- all answers, in their order; the head is asked for, as the one 0 after it, before it is taken
abbrev pub list_answers : List Transmission → List Operation → List QueueAnswer
list_answers ts [] = []
list_answers ts (change c ∷ os) = list_answers (list_changed ts c) os
list_answers ts (ask x ∷ os) = list_answer ts x ∷ list_answers ts os

abbrev pub ring_answers : Queue → List Operation → List QueueAnswer
ring_answers q [] = []
ring_answers q (change c ∷ os) = ring_answers (ring_changed q c) os
ring_answers q (ask x ∷ os) = ring_answer q x ∷ ring_answers q os

-- what is queued in the end
abbrev pub list_end : List Transmission → List Operation → List Transmission
list_end ts [] = ts
list_end ts (change c ∷ os) = list_end (list_changed ts c) os
list_end ts (ask x ∷ os) = list_end ts os

abbrev pub ring_end : Queue → List Operation → Queue
ring_end q [] = q
ring_end q (change c ∷ os) = ring_end (ring_changed q c) os
ring_end q (ask x ∷ os) = ring_end q os

-- "the same answers and the same messages in the same order"
abbrev pub SameQueue : Queue → List Operation → Type 0
SameQueue q os = (ring_answers q os ≡ list_answers [] os) × (queue_of (ring_end q os) ≡ list_end [] os)
