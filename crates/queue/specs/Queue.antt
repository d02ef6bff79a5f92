-- The transmit queue: a list of at most 18 transmissions, first in, first out (document 01, "The adapter's parts"), in 32 slots, with
-- head and tail positions that run on and wrap (document 02, W-206).
-- Assumes nothing.
use Rattle.std.specs.Prelude.{ℕ, zero, suc, ◌+◌, ◌-◌, ◌%◌, min, List, [], ◌∷◌, slice_index_or}
use Rattle.queue.specs.declared.Queue.{Queue}
use Rattle.transmission.specs.Transmission.{no_transmission}
use Rattle.transmission.specs.declared.Transmission.{Transmission}

-- the position n after position p: 0 comes after 4,294,967,295
abbrev pub onward : ℕ → ℕ → ℕ
onward p n = (p + n) % 4294967296

-- "place is position % 32"
abbrev pub place : ℕ → ℕ
place p = p % 32

-- "length is their wrapped difference"; for positions past 2^32 too, so that no law needs a bound
abbrev pub distance : ℕ → ℕ → ℕ
distance head tail = (tail + (4294967296 - head % 4294967296)) % 4294967296

-- how many are queued: a difference past 18, to which no operation leads, counts as 18
abbrev pub held : ℕ → ℕ → ℕ
held head tail = min (distance head tail) 18

abbrev pub length_of : Queue → ℕ
length_of q = held q.head q.tail

-- the transmission at the position n after p
abbrev pub slot_at : List Transmission → ℕ → ℕ → Transmission
slot_at slots p n = slice_index_or slots (place (onward p n)) no_transmission

-- the transmissions at n positions, from p on
abbrev pub queued_from : ℕ → ℕ → List Transmission → List Transmission
queued_from p zero slots = []
queued_from p (suc n) slots = slice_index_or slots (place p) no_transmission ∷ queued_from (onward p 1) n slots

-- the transmissions of a queue, the head first
abbrev pub queue_of : Queue → List Transmission
queue_of q = queued_from q.head (length_of q) q.slots
