-- A transmission: a message to send, and who is owed what for it (document 01, "The adapter's parts").
-- Assumes nothing.
use Rattle.std.specs.Prelude.{ℕ, ◌+◌, Bool, false, cond, List, eqb, get_or}
use Rattle.lists.specs.Sums.{sum}
use Rattle.lists.specs.Tests.{bit}
use Rattle.message.specs.Message.{no_message}
use Rattle.message.specs.declared.Message.{Message}
use Rattle.transmission.specs.declared.Owed.{Owed}
use Rattle.transmission.specs.declared.Transmission.{Transmission}

-- an owner over 7 is none; this number stands for it
abbrev pub no_owner : ℕ
no_owner = 255

-- "without owner or reply, number 0": what the core sends, and what a close leaves of a handle's transmission
abbrev pub ownerless : Message → Transmission
ownerless m = record { sequence = 0; owner = no_owner; wants_reply = false; reply = 0; timeout = 0; to_followers = false; message = m }

-- where there is none: an empty message
abbrev pub no_transmission : Transmission
no_transmission = ownerless no_message

-- a close of handle h
abbrev pub orphaned : ℕ → Transmission → Transmission
orphaned h t = cond (eqb t.owner h) (ownerless t.message) t

-- "owes room": document 01's owed room of handle h for one transmission, 1, and 1 more if it wants a reply
abbrev pub room_for : ℕ → Transmission → ℕ
room_for h t = cond (eqb t.owner h) (1 + bit t.wants_reply) 0

-- 1 if it is of handle h and wants a reply
abbrev pub reply_for : ℕ → Transmission → ℕ
reply_for h t = cond (eqb t.owner h) (bit t.wants_reply) 0

-- both
abbrev pub owed_for : ℕ → Transmission → Owed
owed_for h t = record { room = room_for h t; replies = reply_for h t }

-- whether it has this number
abbrev pub numbered : ℕ → Transmission → Bool
numbered n t = eqb t.sequence n

-- Of a list of transmissions: the head, or none.
abbrev pub head_of : List Transmission → Transmission
head_of ts = get_or ts 0 no_transmission

-- what they owe to handle h: room, and replies wanted
abbrev pub owed_by : ℕ → List Transmission → Owed
owed_by h ts = record { room = sum (room_for h) ts; replies = sum (reply_for h) ts }
