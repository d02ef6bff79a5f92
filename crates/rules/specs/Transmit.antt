-- Transmit (document 01, "Transmit: checks in this order").
-- Assumes nothing.
use Rattle.std.specs.Prelude.{ℕ, ◌+◌, Bool, cond, ◌&&◌, ◌||◌, not, eqb, leb, ltb, length}
use Rattle.constants.specs.Kernel.{EBADF, ENOTTY, EPERM, EBUSY, EINVAL, ENONET, CEC-MODE-NO-INITIATOR, CEC-LOG-ADDR-BROADCAST, CEC-LOG-ADDR-UNREGISTERED, CEC-MSG-IMAGE-VIEW-ON, CEC-MSG-TEXT-VIEW-ON, CEC-MSG-FL-REPLY-TO-FOLLOWERS, CEC-TX-STATUS-NACK}
use Rattle.lists.specs.Tests.{bit}
use Rattle.lists.specs.Vector.{put}
use Rattle.message.specs.Message.{message, initiator, destination, opcode}
use Rattle.message.specs.declared.Message.{Message}
use Rattle.rules.specs.Call.{Request, Outcome, finish, unless, check, Answer}
use Rattle.rules.specs.Derived.{Derived, counted, room_taken_by}
use Rattle.rules.specs.Handles.{handle_at, is_open, initiator_part, is_exclusive_follower, is_configured, is_own}
use Rattle.rules.specs.Number.{next_sequence}
use Rattle.rules.specs.Owed.{wanted_replies}
use Rattle.rules.specs.State.{State, with_queue, with_last}
use Rattle.transmission.specs.declared.Transmission.{Transmission}

-- what would be sent
abbrev pub request_message : Request → Message
request_message r = message r.length r.bytes

-- "A reply is wanted if reply or timeout is non-zero"
abbrev pub wants_reply : Request → Bool
wants_reply r = not (eqb r.reply 0) || not (eqb r.timeout 0)

-- "A poll (length 1)"
abbrev pub is_poll : Request → Bool
is_poll r = eqb r.length 1

abbrev pub from : Request → ℕ
from r = initiator (request_message r).bytes

abbrev pub to : Request → ℕ
to r = destination (request_message r).bytes

-- 3. "Length not 1 to 16, or any flag but 1 (reply to followers)"
abbrev pub is_malformed : Request → Bool
is_malformed r = not (leb 1 r.length && leb r.length 16) || ltb CEC-MSG-FL-REPLY-TO-FOLLOWERS r.flags

-- 4. "A poll (length 1) to 15, or a poll with reply or timeout non-zero"
abbrev pub is_poll_invalid : Request → Bool
is_poll_invalid r = is_poll r && (eqb (to r) CEC-LOG-ADDR-BROADCAST || wants_reply r)

-- 5. "from 15 to 0, as a poll or with opcode 0x04 or 0x0D (wake-up)"
abbrev pub is_wake_up : Request → Bool
is_wake_up r =
    eqb (from r) CEC-LOG-ADDR-UNREGISTERED
    && eqb (to r) 0
    && (is_poll r || eqb (opcode (request_message r).bytes) CEC-MSG-IMAGE-VIEW-ON || eqb (opcode (request_message r).bytes) CEC-MSG-TEXT-VIEW-ON)

-- 6. "initiator neither 15 nor own, or length 2 or more to an own address"
abbrev pub is_misaddressed : State → Request → Bool
is_misaddressed s r =
    not (eqb (from r) CEC-LOG-ADDR-UNREGISTERED || is_own s (from r)) || leb 2 r.length && is_own s (to r)

-- 7. "A poll to an own address"
abbrev pub is_self_poll : State → Request → Bool
is_self_poll s r = is_poll r && is_own s (to r)

-- "the new room (1, or 2 with a reply)"
abbrev pub new_room : Request → ℕ
new_room r = 1 + bit (wants_reply r)

-- 8. "Queue holds 18; or a reply is wanted and 4 of the handle's transmits and waits already want one; or entries plus owed room plus the new room (1, or 2 with a reply) exceeds 16"
abbrev pub is_full_by : Derived → State → ℕ → Request → Bool
is_full_by d s h r =
    leb 18 (length s.queue)
    || wants_reply r && leb 4 (wanted_replies s h)
    || ltb 16 (room_taken_by d s h + new_room r)

abbrev pub is_full : State → ℕ → Request → Bool
is_full = is_full_by counted

-- 2, as W-202 changed it: "exactly if another handle is exclusive initiator and this one is not the exclusive follower"
abbrev pub is_excluded_by : Derived → State → ℕ → Bool
is_excluded_by d s h = d.other_initiator s h && not (is_exclusive_follower (handle_at s h).mode)

abbrev pub is_excluded : State → ℕ → Bool
is_excluded = is_excluded_by counted

-- 1. "EBADF; then ENOTTY; then EPERM for low digit 0." 2: EBUSY. Then the later ones
abbrev pub sender_refusal_by : Derived → State → ℕ → ℕ → ℕ
sender_refusal_by d s h later =
    check (not (is_open s h)) EBADF
    (check (not s.capabilities.transmit) ENOTTY
    (check (eqb (initiator_part (handle_at s h).mode) CEC-MODE-NO-INITIATOR) EPERM
    (check (is_excluded_by d s h) EBUSY later)))

abbrev pub sender_refusal : State → ℕ → ℕ → ℕ
sender_refusal = sender_refusal_by counted

-- 3, 4, 5. "Unconfigured: allowed only .. (wake-up); otherwise ENONET. A wake-up with reply or timeout non-zero: EINVAL", 6. Then the later ones
abbrev pub request_refusal : State → Request → ℕ → ℕ
request_refusal s r later =
    check (is_malformed r) EINVAL
    (check (is_poll_invalid r) EINVAL
    (check (not (is_configured s) && not (is_wake_up r)) ENONET
    (check (not (is_configured s) && wants_reply r) EINVAL
    (check (is_configured s && is_misaddressed s r) EINVAL later))))

-- the checks in their order; 8 is none for a poll to an own address, which succeeds at once
abbrev pub transmit_refusal_by : Derived → State → ℕ → Request → ℕ
transmit_refusal_by d s h r =
    sender_refusal_by d s h
    (request_refusal s r
    (check (not (is_self_poll s r) && is_full_by d s h r) EBUSY 0))

abbrev pub transmit_refusal : State → ℕ → Request → ℕ
transmit_refusal = transmit_refusal_by counted

-- "timeout 0 then means 1000 ms"
abbrev pub timeout_of : Request → ℕ
timeout_of r = cond (wants_reply r && eqb r.timeout 0) 1000 r.timeout

abbrev pub transmission_of : ℕ → ℕ → Request → Transmission
transmission_of n h r = record {
  sequence = n;
  owner = h;
  wants_reply = wants_reply r;
  reply = r.reply;
  timeout = timeout_of r;
  to_followers = eqb r.flags CEC-MSG-FL-REPLY-TO-FOLLOWERS;
  message = request_message r;
}

-- 7. "succeeds at once with a sequence number and tx_status 0x04 in the answer; nothing is queued"
abbrev pub polled : State → Outcome
polled s = finish (Answer.accepted (next_sequence s) CEC-TX-STATUS-NACK) (with_last s (next_sequence s))

-- "Success returns the sequence number and tx_status 0."
abbrev pub queued : State → ℕ → Request → Outcome
queued s h r = finish (Answer.accepted (next_sequence s) 0) (with_last (with_queue s (put 18 s.queue (transmission_of (next_sequence s) h r))) (next_sequence s))

unfoldable pub do_transmit : State → ℕ → Request → Outcome
do_transmit s h r = unless (transmit_refusal s h r) s (cond (is_self_poll s r) (polled s) (queued s h r))
