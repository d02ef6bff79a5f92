-- What the entries in the inboxes show of the reply, after any calls (document 02, W-207).
-- Assumes nothing.
use Rattle.std.specs.Prelude.{ℕ, Bool, true, not, ◌&&◌, List, ◌∷◌, ◌++◌, ◌≢◌, ◌≡◌, eqb, get_or}
use Rattle.constants.specs.Kernel.{CEC-RX-STATUS-OK}
use Rattle.entry.specs.Entry.{no_entry}
use Rattle.entry.specs.declared.Entry.{Entry}
use Rattle.guarantee.specs.Seen.{is_reply_entry, came_to_any, own}
use Rattle.inbox.specs.Inboxes.{inbox_of}
use Rattle.message.specs.Message.{opcode}
use Rattle.rules.specs.Call.{Call, Request, accepted, received, call_receive, call_transmit}
use Rattle.rules.specs.Handles.{has_bit}
use Rattle.rules.specs.State.{State, Capabilities, fresh}
use Rattle.rules.specs.Step.{after, Step, step, run}

pub record OpcodeShown (e : Entry) : Type 0 where
  -- "Results and copies show 0."
  pub results : e.rx_status ≡ 0 → e.reply ≡ 0
  pub copies : e.sequence ≡ 0 → e.reply ≡ 0
  -- "Each reply entry also shows the opcode that really came", that of the message in it
  pub replies : e.sequence ≢ 0 → has_bit CEC-RX-STATUS-OK e.rx_status ≡ true → e.reply ≡ opcode e.message.bytes
  -- and 0 exactly with rx_status 0x05
  pub feature_aborts : e.sequence ≢ 0 → has_bit CEC-RX-STATUS-OK e.rx_status ≡ true → eqb e.reply 0 ≡ eqb e.rx_status 0x05

-- of every entry in the inbox of every handle (past the end of an inbox there is no entry, which shows 0)
abbrev pub OpcodesShown : State → Type 0
OpcodesShown s = (h i : ℕ) → OpcodeShown (get_or (inbox_of s.inboxes h) i no_entry)

-- in every state that calls lead to from a fresh adapter
abbrev pub AlwaysShown : Type 0
AlwaysShown = (c : Capabilities) (calls : List Call) → OpcodesShown (after (fresh c) calls)

-- and so of every entry that a receive gives
abbrev pub ReceivedShown : Type 0
ReceivedShown = (s : State) (h : ℕ) (e : Entry) → OpcodesShown s → (step s (call_receive h)).answer ≡ received e → OpcodeShown e

-- "timeouts and aborted waits show the wanted one": what ends the wait of number n without a reply, and shows another opcode than this
abbrev pub shows_other : ℕ → ℕ → Entry → Bool
shows_other n code e = is_reply_entry n e && not (has_bit CEC-RX-STATUS-OK e.rx_status) && not (eqb e.reply code)

-- to no handle comes such an entry of a transmit that was accepted and queued, with the opcode that its call wanted
abbrev pub WantedShown : List Step → Type 0
WantedShown history = (past : List Step) (x : Step) (later : List Step) → history ≡ past ++ x ∷ later
    → (h : ℕ) (r : Request) (n : ℕ) → x.call ≡ call_transmit h r → x.answer ≡ accepted n 0
    → came_to_any (shows_other n r.reply) (own n later) ≡ 0

-- in every history from a fresh adapter
abbrev pub AlwaysWanted : Type 0
AlwaysWanted = (c : Capabilities) (calls : List Call) → WantedShown (run (fresh c) calls)
