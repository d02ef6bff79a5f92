-- What the entries in the inboxes show of times, after any calls (document 02, W-208).
-- Assumes nothing.
use Rattle.std.specs.Prelude.{ℕ, ◌≤◌, ◌<◌, Bool, true, false, not, ◌&&◌, List, [], ◌∷◌, ◌++◌, ◌≢◌, ◌≡◌, eqb, length, get_or}
use Rattle.constants.specs.Kernel.{CEC-RX-STATUS-OK}
use Rattle.entry.specs.Entry.{no_entry}
use Rattle.entry.specs.declared.Counts.{Counts}
use Rattle.entry.specs.declared.Entry.{Entry}
use Rattle.guarantee.specs.Seen.{came, is_result, is_reply_entry, came_to_any, own}
use Rattle.inbox.specs.Inboxes.{inbox_of}
use Rattle.rules.specs.Call.{Call, Request, accepted, call_transmit, call_bus_result, call_message}
use Rattle.rules.specs.Handles.{has_bit}
use Rattle.rules.specs.State.{Capabilities, fresh}
use Rattle.rules.specs.Step.{after, Step, run}
use Rattle.rules.specs.Timestamps.{ShowsTimes, times_in}

-- ---- what comes with a call shows that call's time
pub record TimesOfStep (x : Step) : Type 0 where
  -- "Bus results and their copies show only the sent time": with a bus result all that comes shows its time as the sent one, and no received one
  pub results : (status : ℕ) (counts : Counts) (ts : ℕ) → x.call ≡ call_bus_result status counts ts → (h i : ℕ) → i < length (came h x) → ShowsTimes ts 0 (get_or (came h x) i no_entry)
  -- "incoming copies only the received, matched replies both": with a message all that comes shows its time as the received one
  pub messages : (n : ℕ) (bytes : List ℕ) (ts : ℕ) → x.call ≡ call_message n bytes ts → (h i : ℕ) → i < length (came h x) → (get_or (came h x) i no_entry).rx_ts ≡ ts
  -- with any other call nothing comes that shows a received time
  pub others : times_in x.call ≡ [] → (h i : ℕ) → i < length (came h x) → (get_or (came h x) i no_entry).rx_ts ≡ 0

-- each call of every history from a fresh adapter
abbrev pub AlwaysOfCall : Type 0
AlwaysOfCall = (c : Capabilities) (calls : List Call) (past : List Step) (x : Step) (rest : List Step) → run (fresh c) calls ≡ past ++ x ∷ rest → TimesOfStep x

-- ---- an entry, when the clock says this
pub record TimesShown (clock : ℕ) (e : Entry) : Type 0 where
  -- "Bus results and their copies show only the sent time", "timeouts and aborted waits the sent": what has not the OK bit of a reception shows no received time
  pub unreceived : has_bit CEC-RX-STATUS-OK e.rx_status ≡ false → e.rx_ts ≡ 0
  -- "incoming copies only the received": no sent time
  pub copies : e.sequence ≡ 0 → e.rx_status ≢ 0 → e.tx_ts ≡ 0
  -- "matched replies both": the sent one is not the later
  pub replies : e.sequence ≢ 0 → has_bit CEC-RX-STATUS-OK e.rx_status ≡ true → e.tx_ts ≤ e.rx_ts
  -- neither is later than the last that was accepted
  pub sent_before : e.tx_ts ≤ clock
  pub received_before : e.rx_ts ≤ clock

-- every entry in the inbox of every handle, in every state that calls lead to from a fresh adapter (past the end of an inbox there is no entry, which shows 0)
abbrev pub AlwaysTimed : Type 0
AlwaysTimed = (c : Capabilities) (calls : List Call) (h i : ℕ) → let s = after (fresh c) calls in TimesShown s.clock (get_or (inbox_of s.inboxes h) i no_entry)

-- ---- the sent time of a reply
-- the result of number n that shows this sent time; what ends the wait of number n, by a reply or without one, and shows another
abbrev pub result_at : ℕ → ℕ → Entry → Bool
result_at n ts e = is_result n e && eqb e.tx_ts ts

abbrev pub shows_other_time : ℕ → ℕ → Entry → Bool
shows_other_time n ts e = is_reply_entry n e && not (eqb e.tx_ts ts)

-- the sent time of a reply entry is that of its own transmit's result: where this came with a time, no reply entry of that transmit shows another, to any handle
abbrev pub SentShown : List Step → Type 0
SentShown history = (past : List Step) (x : Step) (later : List Step) → history ≡ past ++ x ∷ later
    → (h : ℕ) (r : Request) (n : ℕ) → x.call ≡ call_transmit h r → x.answer ≡ accepted n 0
    → (ts : ℕ) → 1 ≤ came_to_any (result_at n ts) (own n later)
    → came_to_any (shows_other_time n ts) (own n later) ≡ 0

-- in every history from a fresh adapter
abbrev pub AlwaysSent : Type 0
AlwaysSent = (c : Capabilities) (calls : List Call) → SentShown (run (fresh c) calls)
