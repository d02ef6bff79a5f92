-- All waits of the adapter in one list, oldest first (document 01, "Wire, time and configuration" and "A message from the wire").
-- Assumes nothing.
use Rattle.std.specs.Prelude.{ℕ, ◌≤◌, ◌<◌, Bool, true, false, cond, not, List, [], ◌∷◌, ◌≡◌, ltb, leb, length, get_or, take, Option, Some, None}
use Rattle.std.proofs.Common.{arith, le-leb}
use Rattle.std.proofs.lemmas.Bool.{lt-leb}
use Rattle.lists.specs.Places.{first, least, least_lt, without}
use Rattle.lists.specs.Sums.{keep}
use Rattle.lists.specs.Tests.{cond_same}
use Rattle.message.specs.Rule.{RULE-NONE, rule_number}
use Rattle.message.specs.declared.Message.{Message}
use Rattle.wait.specs.Wait.{no_wait, owned_by, answered_by, rule_for, left_of}
use Rattle.wait.specs.declared.Wait.{Wait}
use Rattle.waits.specs.declared.Match.{Match}
use Rattle.waits.specs.declared.Waits.{Waits}

-- the waits, the oldest first; a count past 32 counts as 32
abbrev pub waits_of : Waits → List Wait
waits_of w = take w.count w.slots

-- a list of waits from which one may have been taken out
pub record Taken : Type 0 where
  pub found : Bool
  pub wait : Wait
  pub rest : List Wait

-- the wait that was taken out, if one was, and the waits afterwards
abbrev pub taken_of : Option Wait → List Wait → Taken
taken_of None ws = record { found = false; wait = no_wait; rest = ws }
taken_of (Some w) ws = record { found = true; wait = w; rest = ws }

-- the wait at a place taken out; past the end there is none
abbrev pub taken_at : ℕ → List Wait → Taken
taken_at i ws = record { found = ltb i (length ws); wait = get_or ws i no_wait; rest = without i ws }

-- "the oldest matching wait ends"
unfoldable pub match_taken : Message → List Wait → Taken
match_taken m ws = taken_at (first (answered_by m) ws) ws

-- its place, and the number of the rule by which the message ends it (document 02, W-207); past the end there is no rule
pub record NumberedMatch : Type 0 where
  pub place : ℕ
  pub rule : ℕ

abbrev pub match_in : Message → List Wait → NumberedMatch
match_in m ws = record { place = first (answered_by m) ws; rule = rule_for m (get_or ws (first (answered_by m) ws) no_wait) }

-- a match that the code found, or none, in so many waits
abbrev pub numbered_match : ℕ → Option Match → NumberedMatch
numbered_match n None = record { place = n; rule = RULE-NONE }
numbered_match n (Some found) = record { place = found.place; rule = rule_number (Some found.rule) }

-- one at a time of what `rules` does at once: the wait that time ends next, "least time left first, oldest first where equal", if it has no more left than that
unfoldable pub due_at : ℕ → List Wait → ℕ
due_at ms ws = cond (leb (left_of (get_or ws (least left_of ws) no_wait)) ms) (least left_of ws) (length ws)

unfoldable pub due_taken : ℕ → List Wait → Taken
due_taken ms ws = taken_at (due_at ms ws) ws

-- a close of handle h "ends the waits without entries"
abbrev pub without_handle : ℕ → List Wait → List Wait
without_handle h ws = keep (λ w. not (owned_by h w)) ws

-- Laws of these.
pub due_now : (ms : ℕ) (ws : List Wait) → left_of (get_or ws (least left_of ws) no_wait) ≤ ms → due_at ms ws ≡ least left_of ws
unfolding due_at
due_now ms ws h = rw (le-leb (left_of (get_or ws (least left_of ws) no_wait)) ms h)

pub due_later : (ms : ℕ) (ws : List Wait) → ms < left_of (get_or ws (least left_of ws) no_wait) → due_at ms ws ≡ length ws
unfolding due_at
due_later ms ws h = rw (lt-leb (left_of (get_or ws (least left_of ws) no_wait)) ms h)

-- the least is past the end only of no waits
pub due_never : (ms : ℕ) (ws : List Wait) → length ws ≤ least left_of ws → due_at ms ws ≡ length ws
unfolding due_at
due_never ms [] h = cond_same (leb 0 ms) 0
due_never ms (w ∷ ws) h = absurd (omega (arith, least_lt left_of (w ∷ ws) (omega arith)))
