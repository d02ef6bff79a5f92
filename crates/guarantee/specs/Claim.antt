-- Demand 3 (document 00), in the user's words, about any list of calls by anyone from a fresh adapter, refused ones included.
-- Assumes nothing.
use Rattle.std.specs.Prelude.{ℕ, ◌≤◌, true, List, [], ◌∷◌, ◌++◌, ◌≢◌, ◌≡◌}
use Rattle.guarantee.specs.Seen.{came, gave, gives, closes, is_result, is_reply_entry, came_to, results, ok_results, replies, bus_results, closings, elapsed, own, since_open, joined}
use Rattle.inbox.specs.Inboxes.{inbox_of}
use Rattle.lists.specs.Sums.{count}
use Rattle.rules.specs.Call.{Call, Request, accepted, call_transmit}
use Rattle.rules.specs.Handles.{is_open}
use Rattle.rules.specs.State.{Capabilities, fresh}
use Rattle.rules.specs.Step.{Step, run}
use Rattle.rules.specs.Transmit.{wants_reply, timeout_of}

-- "nineteen accepted bus results": that of the message on the wire, those of the 17 queued before it, and its own
abbrev pub enough_results : ℕ
enough_results = 19

-- What becomes of a transmit of handle h that was accepted and queued under number n, over the calls after it.
pub record Fate (h : ℕ) (r : Request) (n : ℕ) (later : List Step) : Type 0 where
  -- "each transmit accepted and queued has had at most one transmit result"
  pub one_result_at_most : results n (own n later) ≤ 1
  -- "It has had exactly one if its handle was not closed since and nineteen accepted bus results followed."
  pub one_result : closings h later ≡ 0 → enough_results ≤ bus_results later → results n (own n later) ≡ 1
  -- "It has had at most one reply entry,
  pub one_reply_at_most : replies n (own n later) ≤ 1
  -- and that only if it asked for a reply and its result came earlier with the OK bit."
  pub reply_after_result : (past : List Step) (x : Step) (rest : List Step) → own n later ≡ past ++ x ∷ rest → 1 ≤ replies n (x ∷ []) → (wants_reply r ≡ true) × (1 ≤ ok_results n past)
  -- "If both hold, and its handle was not closed since, it has had exactly one as soon as the time calls after the result add up to its timeout or more."
  pub one_reply : (past : List Step) (x : Step) (rest : List Step)
      → later ≡ past ++ x ∷ rest
      → count (gives n) past ≡ 0
      → 1 ≤ ok_results n (x ∷ [])
      → wants_reply r ≡ true
      → closings h later ≡ 0
      → timeout_of r ≤ elapsed rest
      → replies n (own n later) ≡ 1
  -- "Both go to its own handle only, under its own number,
  pub own_handle : (g : ℕ) → g ≢ h → (came_to (is_result n) g (own n later) ≡ 0) × (came_to (is_reply_entry n) g (own n later) ≡ 0)
  -- and never once that handle was closed after the transmit."
  pub never_after_close : (past : List Step) (x : Step) (rest : List Step) → own n later ≡ past ++ x ∷ rest → closes h x ≡ true → (results n (x ∷ rest) ≡ 0) × (replies n (x ∷ rest) ≡ 0)

-- What holds of a history.
pub record Kept (history : List Step) : Type 0 where
  pub transmits : (past : List Step) (x : Step) (later : List Step) → history ≡ past ++ x ∷ later → (h : ℕ) (r : Request) (n : ℕ) → x.call ≡ call_transmit h r → x.answer ≡ accepted n 0 → Fate h r n later
  -- "No other handle can delay them past those bounds or push them out: all entries that came to an open handle since its last open are, in order, those its receives gave since then and then those its inbox holds."
  pub inboxes : (past : List Step) (x : Step) → history ≡ past ++ x ∷ [] → (h : ℕ) → is_open x.after h ≡ true → joined (came h) (since_open h history) ≡ joined (gave h) (since_open h history) ++ inbox_of x.after.inboxes h

-- "Take any list of these calls by anyone, refused ones included, from a fresh adapter", whatever its capabilities
abbrev pub Claim : Type 0
Claim = (c : Capabilities) (calls : List Call) → Kept (run (fresh c) calls)
