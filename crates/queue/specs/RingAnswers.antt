-- What operations leave in the ring and answer, worked out by hand (document 02, W-206): from place 31 to 0, across the wrap, at the limit, and where no operation leads.
-- Assumes nothing.
use Rattle.std.specs.Prelude.{ℕ, zero, suc, true, false, List, [], ◌∷◌, ◌++◌, map, drop, replicate}
use Rattle.message.specs.Message.{no_message}
use Rattle.queue.specs.Operations.{put_last, take_head, close_handle, empty_all, ask_count, ask_at, ask_owed, ask_sequence}
use Rattle.queue.specs.Operations.{Operation, change, ask, QueueAnswer, transmission, number, owed, truth}
use Rattle.queue.specs.Queue.{queue_of}
use Rattle.queue.specs.Ring.{ring_from}
use Rattle.queue.specs.declared.Queue.{Queue}
use Rattle.transmission.specs.Transmission.{no_owner, no_transmission}
use Rattle.transmission.specs.declared.Transmission.{Transmission}

-- the numbers and owners queued, the head first, and the positions
pub record Holds : Type 0 where
  pub sequences : List ℕ
  pub owners : List ℕ
  pub head : ℕ
  pub tail : ℕ

abbrev pub holds : Queue → Holds
holds q = record { sequences = map (λ (t : Transmission). t.sequence) (queue_of q); owners = map (λ (t : Transmission). t.owner) (queue_of q); head = q.head; tail = q.tail }

-- operations on a queue, what they answer, and what they leave
pub record Walk : Type 0 where
  pub from : Queue
  pub operations : List Operation
  pub answers : List QueueAnswer
  pub leaves : Holds

abbrev pub walk : Queue → List Operation → List QueueAnswer → List ℕ → List ℕ → ℕ → ℕ → Walk
walk q os said ns hs head tail = record { from = q; operations = os; answers = said; leaves = record { sequences = ns; owners = hs; head = head; tail = tail } }

-- number n of handle h, which wants a reply
abbrev pub of : ℕ → ℕ → Transmission
of h n = record { sequence = n; owner = h; wants_reply = true; reply = 0; timeout = 1000; to_followers = false; message = no_message }

-- 1, 2, .., n
abbrev pub one_to : ℕ → List ℕ
one_to zero = []
one_to (suc n) = one_to n ++ (suc n ∷ [])

-- handle 1 puts n, numbered from 1 on
abbrev pub puts : ℕ → List Operation
puts n = map (λ (k : ℕ). change (put_last (of 1 k))) (one_to n)

abbrev pub taken : Operation
taken = change take_head

abbrev pub walks : List Walk
walks =
    -- first in, first out, from position 0; nothing to take
    walk (ring_from 0) (puts 3 ++ (ask (ask_at 0) ∷ taken ∷ ask (ask_at 0) ∷ [])) (transmission (of 1 1) ∷ transmission (of 1 2) ∷ []) (2 ∷ 3 ∷ []) (1 ∷ 1 ∷ []) 1 3
    ∷ walk (ring_from 7) (ask (ask_at 0) ∷ taken ∷ ask ask_count ∷ []) (transmission no_transmission ∷ number 0 ∷ []) [] [] 7 7
    -- places 31 and 0
    ∷ walk (ring_from 31) (puts 2 ++ (ask (ask_at 1) ∷ ask (ask_at 2) ∷ [])) (transmission (of 1 2) ∷ transmission no_transmission ∷ []) (1 ∷ 2 ∷ []) (1 ∷ 1 ∷ []) 31 33
    -- the tail wraps, and then the head
    ∷ walk (ring_from 4294967295) (puts 2) [] (1 ∷ 2 ∷ []) (1 ∷ 1 ∷ []) 4294967295 1
    ∷ walk (ring_from 4294967295) (puts 2 ++ (taken ∷ ask ask_count ∷ [])) (number 1 ∷ []) (2 ∷ []) (1 ∷ []) 0 1
    ∷ walk (ring_from 4294967294) (puts 4 ++ (taken ∷ taken ∷ taken ∷ ask (ask_sequence 4) ∷ ask (ask_sequence 3) ∷ [])) (truth true ∷ truth false ∷ []) (4 ∷ []) (1 ∷ []) 1 2
    -- the nineteenth is not put, across the wrap
    ∷ walk
    (ring_from 4294967290)
    (puts 19 ++ (ask ask_count ∷ ask (ask_sequence 18) ∷ ask (ask_sequence 19) ∷ []))
    (number 18 ∷ truth true ∷ truth false ∷ [])
    (one_to 18)
    (replicate 18 1)
    4294967290
    12
    -- a close, before the wrap and after it, leaves the other handle's
    ∷ walk
    (ring_from 4294967294)
    (map change (put_last (of 1 1) ∷ put_last (of 1 2) ∷ put_last (of 2 3) ∷ put_last (of 1 4) ∷ close_handle 1 ∷ []) ++ (ask (ask_owed 1) ∷ ask (ask_owed 2) ∷ []))
    (owed (record { room = 0; replies = 0 }) ∷ owed (record { room = 2; replies = 1 }) ∷ [])
    (0 ∷ 0 ∷ 3 ∷ 0 ∷ [])
    (no_owner ∷ no_owner ∷ 2 ∷ no_owner ∷ [])
    4294967294
    2
    -- emptied, and filled again where the head was
    ∷ walk (ring_from 4294967295) (puts 3 ++ (change empty_all ∷ change (put_last (of 2 9)) ∷ [])) [] (9 ∷ []) (2 ∷ []) 4294967295 0
    -- a difference of 20, to which no operation leads, counts as 18: one taken leaves 17
    ∷ walk
    (record { head = 0; tail = 20; slots = map (of 3) (one_to 32) })
    (ask ask_count ∷ taken ∷ ask ask_count ∷ [])
    (number 18 ∷ number 17 ∷ [])
    (drop 1 (one_to 18))
    (replicate 17 3)
    1
    18
    ∷ []
