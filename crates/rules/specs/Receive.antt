-- Receive (document 01, "The adapter's parts": "a receive that succeeds gives the oldest entry, takes it out and changes nothing else").
-- Assumes nothing.
use Rattle.std.specs.Prelude.{ℕ, not, eqb, length}
use Rattle.constants.specs.Kernel.{EBADF, EAGAIN}
use Rattle.inbox.specs.Inboxes.{inbox_of, oldest, oldest_taken}
use Rattle.rules.specs.Call.{Outcome, finish, unless, check, Answer}
use Rattle.rules.specs.Handles.{is_open}
use Rattle.rules.specs.State.{State, with_inboxes}

-- EAGAIN is for "receive from an empty inbox"
abbrev pub receive_refusal : State → ℕ → ℕ
receive_refusal s h = check (not (is_open s h)) EBADF (check (eqb (length (inbox_of s.inboxes h)) 0) EAGAIN 0)

unfoldable pub do_receive : State → ℕ → Outcome
do_receive s h = unless (receive_refusal s h) s (finish (Answer.received (oldest s.inboxes h)) (with_inboxes s (oldest_taken s.inboxes h)))
