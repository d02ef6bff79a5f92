-- Close (document 01, "Wire, time and configuration").
-- Assumes nothing.
use Rattle.std.specs.Prelude.{ℕ, not, map, set}
use Rattle.constants.specs.Kernel.{EBADF}
use Rattle.inbox.specs.Inboxes.{cleared}
use Rattle.rules.specs.Call.{Outcome, finish, unless, check, Answer}
use Rattle.rules.specs.Handles.{is_open}
use Rattle.rules.specs.State.{State, closed_handle, with_handles, with_inboxes, with_queue, with_wire, with_waits}
use Rattle.transmission.specs.Transmission.{orphaned}
use Rattle.waits.specs.Waits.{without_handle}

abbrev pub close_refusal : State → ℕ → ℕ
close_refusal s h = check (not (is_open s h)) EBADF 0

-- "Close empties the inbox, gives up the mode and ends the waits without entries; its messages, queued or on the wire, stay there without owner or reply, number 0"
abbrev pub closed : State → ℕ → State
closed s h =
    with_handles (with_inboxes (with_queue (with_wire (with_waits s
    (without_handle h s.waits))
    (map (orphaned h) s.wire))
    (map (orphaned h) s.queue))
    (cleared s.inboxes h))
    (set s.handles h closed_handle)

unfoldable pub do_close : State → ℕ → Outcome
do_close s h = unless (close_refusal s h) s (finish Answer.done (closed s h))
