-- A message from the wire, in six steps (document 01, "A message from the wire"). The call, with the tracker and the clock, is `Tracker.do_message`.
-- Assumes nothing.
use Rattle.std.specs.Prelude.{ℕ, Bool, cond, ◌&&◌, ◌||◌, not, List, eqb, leb}
use Rattle.constants.specs.Kernel.{EINVAL, CEC-MODE-FOLLOWER, CEC-MODE-MONITOR-ALL, CEC-OP-ABORT-UNRECOGNIZED-OP}
use Rattle.entry.specs.Entry.{reply, feature_abort_reply, message_copy}
use Rattle.entry.specs.declared.Entry.{Entry}
use Rattle.message.specs.Message.{initiator, destination, opcode, is_feature_abort}
use Rattle.message.specs.declared.Message.{Message}
use Rattle.rules.specs.Call.{check}
use Rattle.rules.specs.Clock.{clock_refusal}
use Rattle.rules.specs.Core.{sends, is_directed, is_registered, answers, is_noted, notes, feature_abort}
use Rattle.rules.specs.Deliver.{deliver, copies}
use Rattle.rules.specs.Derived.{Derived, counted}
use Rattle.rules.specs.Features.{is_answered, answer_for}
use Rattle.rules.specs.Handles.{in_role, someone, follower_part, is_follower, is_monitor, is_exclusive_follower, is_configured, is_here}
use Rattle.rules.specs.State.{State, with_waits}
use Rattle.wait.specs.declared.Wait.{Wait}
use Rattle.waits.specs.Waits.{Taken, match_taken}

-- "Length not 1 to 16: EINVAL."; "After their own checks" the time (document 02, W-208)
abbrev pub incoming_refusal : ℕ → ℕ → ℕ → ℕ
incoming_refusal clock n ts = check (not (leb 1 n && leb n 16)) EINVAL (clock_refusal clock ts)

-- 1. "0xF0 gets all, 0xE0 those to 15 or an own address"
abbrev pub monitors : State → Message → ℕ → Bool
monitors s m mode = is_monitor mode && (eqb (follower_part mode) CEC-MODE-MONITOR-ALL || is_here s (destination m.bytes))

-- 2. "Unconfigured, or a poll, or addressed elsewhere: stop."
abbrev pub stops : State → Message → Bool
stops s m = not (is_configured s) || eqb m.length 1 || not (is_here s (destination m.bytes))

-- 3. "its handle gets the message under that number, rx_status 0x01, or 0x05 for Feature Abort", and the opcode that came (document 02, W-207); both times, the sent one that of the transmit's bus result (W-208)
abbrev pub reply_entry : Wait → Message → ℕ → Entry
reply_entry w m ts = cond (is_feature_abort (opcode m.bytes)) (feature_abort_reply w.sequence m w.tx_ts ts) (reply w.sequence m w.tx_ts ts)

-- "the oldest matching wait ends"
abbrev pub replied : State → Taken → Message → ℕ → State
replied s t m ts = cond t.found (deliver (with_waits s t.rest) t.wait.owner (reply_entry t.wait m ts)) s

-- 5. "If no reply, or the flag was set: a copy .. Messages the core answered are not copied."
abbrev pub is_copied : Bool → Taken → Bool
is_copied answered t = not answered && (not t.found || t.wait.to_followers)

-- "to the exclusive follower, or with none to every 0x10 handle, ascending"
abbrev pub follows_by : Derived → State → ℕ → Bool
follows_by d s mode = cond (d.exclusive_follower s) (is_exclusive_follower mode) (eqb (follower_part mode) CEC-MODE-FOLLOWER)

abbrev pub follows : State → ℕ → Bool
follows = follows_by counted

abbrev pub followed : State → Bool → Taken → Message → ℕ → State
followed s answered t m ts = cond (is_copied answered t) (copies (in_role (follows s)) (message_copy m ts) s) s

-- 6. "No reply, no follower, no core work, directed, initiator not 15, opcode not 0x00"
abbrev pub is_unhandled : State → Bool → Taken → Message → Bool
is_unhandled s answered t m =
    not t.found
    && not (someone is_follower s)
    && not (answered || is_noted m)
    && is_directed m
    && is_registered m
    && not (is_feature_abort (opcode m.bytes))

-- "Feature Abort (00, opcode, reason 0) to the initiator", from the address asked
abbrev pub refused_message : State → Bool → Taken → Message → State
refused_message s answered t m = cond (is_unhandled s answered t m) (sends s (feature_abort (destination m.bytes) (initiator m.bytes) (opcode m.bytes) CEC-OP-ABORT-UNRECOGNIZED-OP)) s

-- steps 3 to 6, with the wait that the message ends; 4. "Core work (below), reply or not."
abbrev pub handled : State → Bool → List ℕ → Taken → Message → ℕ → State
handled s answered bytes t m ts = refused_message (followed (answers (notes (replied s t m ts) m) answered bytes) answered t m ts) answered t m

-- all six, with what the core says
unfoldable pub heard_with : State → Bool → List ℕ → Message → ℕ → State
heard_with s answered bytes m ts =
    let copied = copies (in_role (monitors s m)) (message_copy m ts) s in
    cond (stops s m) copied (handled copied answered bytes (match_taken m s.waits) m ts)

abbrev pub heard : State → Message → ℕ → State
heard s m ts = heard_with s (is_answered s m) (answer_for s.settings m) m ts
