-- Elapsed time (document 01, "Wire, time and configuration").
-- Assumes nothing.
use Rattle.std.specs.Prelude.{ℕ, not, List, map, leb}
use Rattle.entry.specs.Entry.{timed_out}
use Rattle.entry.specs.declared.Entry.{Entry}
use Rattle.lists.specs.Order.{sort}
use Rattle.lists.specs.Sums.{keep}
use Rattle.rules.specs.Call.{Outcome, finish, Answer}
use Rattle.rules.specs.Deliver.{deliver, each}
use Rattle.rules.specs.State.{State, with_waits}
use Rattle.wait.specs.Wait.{left_of, reduced}
use Rattle.wait.specs.declared.Wait.{Wait}

-- "Each wait with no more left than that ends ..., least time left first, oldest first where equal."
abbrev pub overdue : ℕ → List Wait → List Wait
overdue ms ws = sort left_of (keep (λ w. leb (left_of w) ms) ws)

-- "Others are reduced."
abbrev pub remaining : ℕ → List Wait → List Wait
remaining ms ws = map (reduced ms) (keep (λ w. not (leb (left_of w) ms)) ws)

-- "with an entry of its number, rx_status 0x02, and the sent length and bytes", the opcode wanted (document 02, W-207) and the sent time (W-208)
abbrev pub timeout_entry : Wait → Entry
timeout_entry w = timed_out w.sequence w.sent w.reply w.tx_ts

abbrev pub time_out : State → Wait → State
time_out s w = deliver s w.owner (timeout_entry w)

unfoldable pub do_time : State → ℕ → Outcome
do_time s ms = finish Answer.done (each time_out (with_waits s (remaining ms s.waits)) (overdue ms s.waits))
